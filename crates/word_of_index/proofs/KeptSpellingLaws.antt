-- Laws that stood in specs/SpellingLaws, which no proof rests on now.
use Rattle.std.specs.Prelude.{◌≡◌, refl, List, ◌++◌, ℕ, ◌+◌, length, take, drop}
use Rattle.std.proofs.Common.{sym, ap, ◌∙◌, zero-add, leb-false}
use Rattle.limbs.specs.Limbs.{value, number_at}
use Rattle.numbers.specs.declared.Index.{Index}
use Rattle.replies.specs.declared.Reply.{Reply}
use Rattle.replies.specs.declared.Profile.{Profile}
use Rattle.replies.specs.Replies.{done, Comes}
use Rattle.replies.specs.ReplyLaws.{test_failed, both_done, profile_in_range, has_room}
use Rattle.code.proofs.Laws.{one_word_of_index}
use Rattle.tables.specs.TableLaws.{table_belongs}
use Rattle.replies.specs.WritingLaws.{writing_refused, writing_done}
use Rattle.profiles.specs.Profiles.{word_for}
use Rattle.word_of_index.specs.Spelling.{index_refusal, spelling}
use Rattle.word_of_index.specs.SpellingLaws.{whole_index, Accepted}

pub accepted : (p : Profile) (table : List ℕ) (i : Index) (lent : List ℕ) {reply : Reply} → reply ≡ index_refusal p table i lent → reply.number ≡ 0
    → Accepted p table i lent
unfolding index_refusal
accepted p table i lent e z =
    let profile = both_done _ _ (sym (ap (λ (r : Reply). r.number) e) ∙ z) in
    let table-first = both_done _ _ profile.second in
    let room_first = both_done _ _ table-first.second in
    record {
      range = profile_in_range p refl profile.first;
      belongs = table_belongs p table table-first.first;
      room = has_room _ _ room_first.first;
      below = leb-false _ _ (test_failed _ 11 room_first.second);
    }

-- A refusal writes nothing.
pub spelling_refused : (p : Profile) (table : List ℕ) (i : Index) (lent : List ℕ) {reply : Reply} → reply ≡ index_refusal p table i lent
    → (reply.number ≡ 0 → ⊥) → Comes (spelling p table i lent) (record { reply = reply; count = 0 }) lent
unfolding spelling
spelling_refused p table i lent e n = writing_refused _ _ _ _ lent e n

-- Done writes the word from the front.
pub spelling_done : (p : Profile) (table : List ℕ) (i : Index) (lent : List ℕ) {reply : Reply} → reply ≡ index_refusal p table i lent
    → reply.number ≡ 0 → length i.0 ≡ 10 → {after : List ℕ}
    → after ≡ take 0 lent ++ (word_for p (number_at 10 i.0 0) ++ drop (0 + p.m) lent)
    → Comes (spelling p table i lent) (record { reply = done; count = p.m }) after
unfolding spelling
spelling_done p table i lent e z ten a =
    let found = (one_word_of_index _ _ _ (value i.0) (accepted p table i lent e z).below).found.cells in
    let whole = whole_index i.0 ten in
    writing_done _ _ _ _ lent e z (sym found) (rw found (rw (whole, zero-add) at a))
