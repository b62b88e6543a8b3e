-- The law of what every call on messages tests first: where nothing is refused, words carry messages and the table belongs.
use Rattle.std.specs.Prelude.{◌≡◌, refl, List, ℕ}
use Rattle.replies.specs.declared.Reply.{Reply}
use Rattle.replies.specs.declared.Profile.{Profile}
use Rattle.replies.specs.ReplyLaws.{both_done, profile_in_range}
use Rattle.tables.specs.TableLaws.{table_belongs}
use Rattle.messages.specs.Carrying.{carrying_refusal, CarriesMessages}

-- Where neither profile nor table is refused and there are messages, the table belongs to the profile and words carry messages.
pub carries_messages : (p : Profile) (table : List ℕ) {r : Reply} → r ≡ carrying_refusal p table → r.number ≡ 0 → CarriesMessages p table
unfolding carrying_refusal
carries_messages p table e none =
    let first = both_done _ _ (rw e at none) in
    let second = both_done _ _ first.second in
    record { in_range = profile_in_range p refl first.first; carries = second.first; belongs = table_belongs p table second.second }
