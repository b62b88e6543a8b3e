-- What holds of the part from each word of a stream on: of words, and of a test throughout the stream.
use Rattle.std.specs.Prelude.{◌≡◌, refl, Bool, true, List, ℕ, zero, suc, take, drop}
use Rattle.std.proofs.Math.Bool.{and-eq-true_iff}
use Rattle.replies.specs.declared.Profile.{Profile}
use Rattle.listing.specs.Every.{every}
use Rattle.profiles.specs.Profiles.{stride}
use Rattle.streams.specs.Streams.{first_words}
use Rattle.streams.specs.FromWords.{FromEach}

-- What follows from a fact follows of each part, ..
pub each_implies : (p : Profile) {first second : List ℕ → Type 0} → ((part : List ℕ) → first part → second part) → (n : ℕ) (part : List ℕ)
    → FromEach p first n part → FromEach p second n part
each_implies p f zero part a = tt
each_implies p f (suc n) part a = (f part a.0, each_implies p f n (drop (stride p) part) a.1)

-- .. and what follows from two.
pub each_of_both : (p : Profile) {first second third : List ℕ → Type 0} → ((part : List ℕ) → first part → second part → third part) → (n : ℕ)
    (part : List ℕ) → FromEach p first n part → FromEach p second n part → FromEach p third n part
each_of_both p f zero part a b = tt
each_of_both p f (suc n) part a b = (f part a.0 b.0, each_of_both p f n (drop (stride p) part) a.1 b.1)

-- Each of n words passes a test where the word that each part begins with does, and only there.
pub each_word : (p : Profile) (test : List ℕ → Bool) (n : ℕ) (part : List ℕ) → every test (first_words p n part) ≡ true
    → FromEach p (λ t. test (take p.m t) ≡ true) n part
unfolding first_words
each_word p test zero part all = tt
each_word p test (suc n) part all =
    let both = (and-eq-true_iff (test (take p.m part)) (every test (first_words p n (drop (stride p) part)))).0 all in
    (both.0, each_word p test n (drop (stride p) part) both.1)

pub every_word : (p : Profile) (test : List ℕ → Bool) (n : ℕ) (part : List ℕ) → FromEach p (λ t. test (take p.m t) ≡ true) n part
    → every test (first_words p n part) ≡ true
unfolding first_words
every_word p test zero part each = refl
every_word p test (suc n) part each = rw each.0 (every_word p test n (drop (stride p) part) each.1)
