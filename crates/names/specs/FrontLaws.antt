-- Laws of a text that is put to the front of a lent list, of which some rest is left to be put.
use Rattle.std.specs.Prelude.{◌≡◌, List, [], ◌∷◌, ◌++◌, ℕ, ◌+◌, ◌≤◌, length, take, drop}
use Rattle.std.proofs.Common.{sym, ◌∙◌, append-nil, append_assoc, arith, drop_at}
use Rattle.io.specs.Counts.{IsPrefixLen}
use Rattle.text.specs.Put.{Fits, Put}
use Rattle.text.specs.PutLaws.{length_put, put_front, front_length}
use Rattle.text.specs.PartLaws.{Begun, none_put, part_fits, part_put, all_put}

-- All of a text but some rest is put to the front of a lent list, up to `next`.
abbrev pub Left : List ℕ → List ℕ → List ℕ → ℕ → List ℕ → Type 0
Left lent text now next rest = Begun lent 0 text now next (rest ∷ [])

-- Before anything is put the whole text is left.
pub all_left : {text : List ℕ} (lent rest : List ℕ) → text ≡ rest → length rest ≤ length lent
    → Left lent text lent 0 rest
all_left lent rest e room = none_put (rest ∷ []) (e ∙ sym (append-nil rest)) (rw e (omega arith))

-- The rest is a part and what is behind it.
two_parts : {lent text now part more rest : List ℕ} {next : ℕ} → rest ≡ part ++ more → Left lent text now next rest
    → Begun lent 0 text now next (part ∷ more ∷ [])
two_parts {part = part} {more = more} {rest = rest} e before =
    let same : rest ++ [] ≡ part ++ (more ++ []) = rw (e, append_assoc) in
    record { room = rw same at before.room; ended = λ put. before.ended (rw same put) }

-- So the part fits, ..
pub next_fits : {lent text now rest : List ℕ} {next : ℕ} (part more : List ℕ) → rest ≡ part ++ more
    → Left lent text now next rest → Fits now next part
next_fits part more e before = part_fits {part = part} (two_parts {more = more} e before)

-- .. and once it is put what is behind it is left.
pub next_put : {lent text now part more rest after : List ℕ} {next last : ℕ} → rest ≡ part ++ more
    → Left lent text now next rest → Put now next part after last → Left lent text after last more
next_put e before put = part_put (two_parts e before) put

-- Where nothing is left the text is put.
pub none_left : {lent text now rest : List ℕ} {next : ℕ} → rest ≡ [] → Left lent text now next rest
    → Put lent 0 text now next
none_left e before = all_put (record { room = rw e at before.room; ended = λ put. before.ended (rw e put) })

-- A text that is put to the front stands there, and what is behind it is as it was.
pub front_put : {lent text after : List ℕ} {next : ℕ} → Put lent 0 text after next
    → IsPrefixLen next after × ((take next after ≡ text) × (drop next after ≡ drop next lent))
front_put {lent} {text} {after} {next} put =
    let fits = put.fits in
    let behind = put.behind in
    let same = length_put put in
    let end : 0 + length text ≡ next = omega arith in
    let rest : drop next after ≡ drop next lent =
    rw (put.left, end) (drop_at text (drop next lent) next (omega arith)) in
    ((omega arith, front_length put), (put_front put, rest))

-- So it does where the list is lent no longer.
pub front_held : {lent text after held : List ℕ} {next : ℕ} → Put lent 0 text after next → held ≡ after
    → IsPrefixLen next held × ((take next held ≡ text) × (drop next held ≡ drop next lent))
front_held put e = rw e (front_put put)
