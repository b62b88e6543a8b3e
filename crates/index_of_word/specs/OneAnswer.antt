-- The law of answers: an index follows from what C is given of it, so that no two answers have the same.
use Rattle.std.specs.Prelude.{◌≡◌, Result, Ok, Err}
use Rattle.std.proofs.Common.{sym, ap}
use Rattle.numbers.specs.declared.Index.{Index}
use Rattle.replies.specs.OneAnswer.{one_refusal}
use Rattle.replies.specs.declared.Refusal.{Refusal}
use Rattle.replies.specs.declared.Reply.{Reply}
use Rattle.replies.specs.Answers.{refusal_reply}
use Rattle.replies.specs.Replies.{done}
use Rattle.tables.specs.WritingLaws.{refuses}
use Rattle.index_of_word.specs.declared.Indexed.{Indexed}
use Rattle.index_of_word.specs.Given.{indexed_of}

-- No refusal is done.
not_refused : (r : Refusal) → refusal_reply r ≡ done → ⊥
not_refused r e = refuses r (ap (λ (a : Reply). a.number) e)

pub one_indexed : (a b : Result Index Refusal) → indexed_of a ≡ indexed_of b → a ≡ b
one_indexed (Ok a) (Ok b) e = ap (λ (i : Indexed). Ok i.index) e
one_indexed (Ok a) (Err r) e = absurd (not_refused r (sym (ap (λ (i : Indexed). i.reply) e)))
one_indexed (Err r) (Ok b) e = absurd (not_refused r (ap (λ (i : Indexed). i.reply) e))
one_indexed (Err r) (Err s) e = ap (λ (t : Refusal). Err t) (one_refusal r s (ap (λ (i : Indexed). i.reply) e))
