-- Names says how a name is printed, Quotes how a printed name stands within the quotes of JSON; Examples has worked
-- examples of both. What follows is in the files that end in Laws. NameLaws: no control character is printed, a plain
-- name stands as it is, and no two names are printed alike, by ReadBack, which reads printed names back. Utf8Laws: what
-- is printed is characters of UTF-8, whose bytes Utf8 gives, and bytes that are spelt out. QuoteLaws: a text stays
-- within its quotes, and no two stand alike. FrontLaws, StandingLaws and EscapeLaws serve the proofs: a text put to the
-- front of a lent list, the character that a list begins with, and a name printed character by character.
pub mod Names
pub mod Quotes
pub mod Examples
pub mod FrontLaws
pub mod StandingLaws
pub mod EscapeLaws
pub mod QuoteLaws
pub mod ReadBack
pub mod NameLaws
pub mod Utf8
pub mod Utf8Laws
