-- Laws of answers: no refusal has the number of done, so that the first that refuses decides.
use Rattle.std.specs.Prelude.{◌≡◌, refl, false, eqb}
use Rattle.replies.specs.declared.Refusal.{Refusal}
use Rattle.replies.specs.declared.Reply.{Reply}
use Rattle.replies.specs.declared.Why.{Why}
use Rattle.replies.specs.declared.Why.TheVariants.{Levels, Length, Reach, NoMessage, TableShort, TableWrong, InputLength, BitBehind, OutputShort, Cell, Pattern, NoSuch, Bridge, AllZero, IndexAbove, AllTop}
use Rattle.replies.specs.Replies.{done, or_else}
use Rattle.replies.specs.Answers.{number_of, refusal_reply}

-- No refusal has number 0.
pub not_done : (why : Why) → eqb (number_of why) 0 ≡ false
not_done Levels = refl
not_done Length = refl
not_done Reach = refl
not_done NoMessage = refl
not_done TableShort = refl
not_done TableWrong = refl
not_done InputLength = refl
not_done BitBehind = refl
not_done OutputShort = refl
not_done Cell = refl
not_done Pattern = refl
not_done NoSuch = refl
not_done Bridge = refl
not_done AllZero = refl
not_done IndexAbove = refl
not_done AllTop = refl

-- A first test that refuses decides; one that is passed leaves it to the second.
pub refusal_decides : (r : Refusal) {a : Reply} (b : Reply) → refusal_reply r ≡ a → refusal_reply r ≡ or_else a b
unfolding or_else
refusal_decides r b e = rw (← e, not_done r.why) refl

pub passed_leaves : {a b s : Reply} → done ≡ a → s ≡ b → s ≡ or_else a b
unfolding or_else
passed_leaves e f = rw (← e) f
