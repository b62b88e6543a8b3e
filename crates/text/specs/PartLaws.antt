-- Laws of a text that is put into a lent list part by part.
use Rattle.std.specs.Prelude.{◌≡◌, List, [], ◌∷◌, ◌++◌, ℕ}
use Rattle.std.proofs.Common.{arith}
use Rattle.text.specs.Put.{Fits, Put}
use Rattle.text.specs.PutLaws.{first_fits, more_fits, put_nothing, put_more}

-- Parts one behind another.
abbrev pub in_row : List (List ℕ) → List ℕ
in_row [] = []
in_row (part ∷ parts) = part ++ in_row parts

-- All of a text but some last parts is put into a lent list from a place on: they fit from `next` on, and once they are put the whole text is.
pub record Begun (lent : List ℕ) (at : ℕ) (text now : List ℕ) (next : ℕ) (parts : List (List ℕ)) : Type 0 where
  pub room : Fits now next (in_row parts)
  pub ended : {after : List ℕ} {last : ℕ} → Put now next (in_row parts) after last → Put lent at text after last

-- Before any part is put all of them are left.
pub none_put : {text lent : List ℕ} {at : ℕ} (parts : List (List ℕ)) → text ≡ in_row parts → Fits lent at text → Begun lent at text lent at parts
none_put parts e room = record { room = rw e at room; ended = λ put. rw e put }

module _ {lent text now : List ℕ} {at next : ℕ} where
  -- The next part fits, ..
  pub part_fits : {part : List ℕ} {parts : List (List ℕ)} → Begun lent at text now next (part ∷ parts) → Fits now next part
  part_fits {part} {parts} before = first_fits now next part (in_row parts) before.room

  -- .. and once it is put the others are left.
  pub part_put : {part : List ℕ} {parts : List (List ℕ)} → Begun lent at text now next (part ∷ parts) → {after : List ℕ} {last : ℕ}
      → Put now next part after last → Begun lent at text after last parts
  part_put {part} {parts} before put = record {
    room = more_fits (in_row parts) put before.room;
    ended = λ more. before.ended (put_more put more);
  }

  -- Where none is left the text is put.
  pub all_put : Begun lent at text now next [] → Put lent at text now next
  all_put before = let room = before.room in before.ended (put_nothing now next (omega arith))
