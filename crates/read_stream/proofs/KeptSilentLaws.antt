-- Laws that stood in specs/SilentLaws, which no proof rests on now.
use Rattle.std.specs.Prelude.{◌≡◌, List, ℕ, ◌-◌, eqb}
use Rattle.replies.specs.declared.Reply.{Reply}
use Rattle.replies.specs.declared.Profile.{Profile}
use Rattle.replies.specs.Replies.{refused_if}
use Rattle.replies.specs.ReplyLaws.{decides, leaves}
use Rattle.listing.specs.Every.{every}
use Rattle.listing.specs.Listing.{before}
use Rattle.profiles.specs.Profiles.{LegalFor}
use Rattle.read_stream.specs.Reading.{silent_refusal}
use Rattle.read_stream.specs.LimitLaws.{Limits, limit_tells}

-- A legal word, and the reply of the test for all 0: the first test that refuses decides.
module _ {p : Profile} {limit w : List ℕ} (limits : Limits p limit) (word : LegalFor p w) {zeros : Reply}
    (e : zeros ≡ refused_if (every (λ c. eqb c 0) w) 14) where
  pub zeros_decide : (zeros.number ≡ 0 → ⊥) → zeros ≡ silent_refusal p w
  unfolding silent_refusal
  zeros_decide n = decides zeros _ _ e n

  pub above_decides : {above : Reply} → zeros.number ≡ 0 → above ≡ refused_if (before limit w) 15 → (above.number ≡ 0 → ⊥) → above ≡ silent_refusal p w
  unfolding silent_refusal
  above_decides {above} z f n = leaves zeros above _ _ e z (decides above _ _ (rw (limit_tells w limits word) at f) n)

  pub tops_decide : {above tops : Reply} → zeros.number ≡ 0 → above ≡ refused_if (before limit w) 15 → above.number ≡ 0
      → tops ≡ refused_if (every (λ c. eqb c (p.q - 1)) w) 16 → tops ≡ silent_refusal p w
  unfolding silent_refusal
  tops_decide {above} {tops} z f y g = leaves zeros tops _ _ e z (leaves above tops _ _ (rw (limit_tells w limits word) at f) y g)
