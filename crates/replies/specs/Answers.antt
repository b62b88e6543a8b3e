-- What a call answers as its reply: the number of document 01 and the values of each case.
use Rattle.std.specs.Prelude.{ℕ, Result, Ok, Err}
use Rattle.replies.specs.declared.Refusal.{Refusal}
use Rattle.replies.specs.declared.Reply.{Reply}
use Rattle.replies.specs.declared.Written.{Written}
use Rattle.replies.specs.declared.Why.{Why}
use Rattle.replies.specs.declared.Why.TheVariants.{Levels, Length, Reach, NoMessage, TableShort, TableWrong, InputLength, BitBehind, OutputShort, Cell, Pattern, NoSuch, Bridge, AllZero, IndexAbove, AllTop}
use Rattle.replies.specs.Replies.{done, refused}

-- The number of each refusal.
abbrev pub number_of : Why → ℕ
number_of Levels = 1
number_of Length = 2
number_of Reach = 3
number_of NoMessage = 4
number_of TableShort = 5
number_of TableWrong = 6
number_of InputLength = 7
number_of BitBehind = 8
number_of OutputShort = 9
number_of Cell = 10
number_of Pattern = 11
number_of NoSuch = 12
number_of Bridge = 13
number_of AllZero = 14
number_of IndexAbove = 15
number_of AllTop = 16

-- A refusal has its number and its place.
abbrev pub refusal_reply : Refusal → Reply
refusal_reply r = refused (number_of r.why) r.place

-- Done is 0 at place 0, whatever was found.
abbrev pub reply_of : {A : Type 0} → Result A Refusal → Reply
reply_of (Ok found) = done
reply_of (Err r) = refusal_reply r

-- A call that writes counts what it wrote; where it is refused, nothing.
abbrev pub written_of : Result ℕ Refusal → Written
written_of (Ok count) = record { reply = done; count = count }
written_of (Err r) = record { reply = refusal_reply r; count = 0 }
