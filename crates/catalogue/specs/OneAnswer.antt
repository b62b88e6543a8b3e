-- Laws of answers: a row and a rate follow from what C is given of them, so that no two answers have the same.
use Rattle.std.specs.Prelude.{◌≡◌, Result, Ok, Err}
use Rattle.std.proofs.Common.{sym, ap}
use Rattle.replies.specs.OneAnswer.{one_refusal}
use Rattle.replies.specs.declared.Refusal.{Refusal}
use Rattle.replies.specs.declared.Reply.{Reply}
use Rattle.replies.specs.Answers.{refusal_reply}
use Rattle.replies.specs.Replies.{done}
use Rattle.tables.specs.WritingLaws.{refuses}
use Rattle.catalogue.specs.declared.Published.{Published}
use Rattle.catalogue.specs.declared.Rate.{Rate}
use Rattle.catalogue.specs.declared.Rated.{Rated}
use Rattle.catalogue.specs.declared.Row.{Row}
use Rattle.catalogue.specs.Given.{published_of, rated_of}

-- No refusal is done.
not_refused : (r : Refusal) → refusal_reply r ≡ done → ⊥
not_refused r e = refuses r (ap (λ (a : Reply). a.number) e)

pub one_published : (a b : Result Row Refusal) → published_of a ≡ published_of b → a ≡ b
one_published (Ok a) (Ok b) e = ap (λ (p : Published). let r : Row = record { q = p.q; x = p.x; m = p.m; s = p.s } in Ok r) e
one_published (Ok a) (Err r) e = absurd (not_refused r (sym (ap (λ (p : Published). p.reply) e)))
one_published (Err r) (Ok b) e = absurd (not_refused r (ap (λ (p : Published). p.reply) e))
one_published (Err r) (Err s) e = ap (λ (t : Refusal). Err t) (one_refusal r s (ap (λ (p : Published). p.reply) e))

pub one_rated : (a b : Result Rate Refusal) → rated_of a ≡ rated_of b → a ≡ b
one_rated (Ok a) (Ok b) e = ap (λ (p : Rated). let r : Rate = record { bits = p.bits; cells = p.cells } in Ok r) e
one_rated (Ok a) (Err r) e = absurd (not_refused r (sym (ap (λ (p : Rated). p.reply) e)))
one_rated (Err r) (Ok b) e = absurd (not_refused r (ap (λ (p : Rated). p.reply) e))
one_rated (Err r) (Err s) e = ap (λ (t : Refusal). Err t) (one_refusal r s (ap (λ (p : Rated). p.reply) e))
