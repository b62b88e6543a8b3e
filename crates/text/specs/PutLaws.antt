-- Laws of texts put into a lent list: one behind another is both together.
use Rattle.std.specs.Prelude.{◌≡◌, List, [], ◌++◌, ℕ, ◌+◌, ◌-◌, ◌≤◌, length, take, drop}
use Rattle.std.proofs.Common.{sym, ◌∙◌, append-nil, append_assoc, add-zero, add_assoc, arith, length-append, length-take, length-drop, take-append-drop, drop_of_length-le, take_all, take_at, drop_at, drop-drop}
use Rattle.std.proofs.Math.Seq.{take-length}
use Rattle.text.specs.Put.{Fits, Put}

-- Putting a text leaves the length of the lent list.
pub length_put : {lent text after : List ℕ} {at next : ℕ} → Put lent at text after next → length after ≡ length lent
length_put {lent} {text} {after} {at} put =
    let room = put.fits in
    let taken : length (take at lent) ≡ at = rw length-take (omega arith) in
    rw (put.left, length-append, length-append, length-drop, taken) (omega arith)

-- Where two texts together fit, the first does, and the second behind it.
pub first_fits : (lent : List ℕ) (at : ℕ) (text more : List ℕ) → Fits lent at (text ++ more) → Fits lent at text
first_fits lent at text more room = let all = rw length-append at room in omega arith

pub more_fits : {lent text after : List ℕ} {at next : ℕ} (more : List ℕ) → Put lent at text after next → Fits lent at (text ++ more) → Fits after next more
more_fits {lent} {text} more put room =
    let all = rw length-append at room in
    let same = length_put put in
    let behind = put.behind in
    omega arith

-- No text changes nothing.
pub put_nothing : (lent : List ℕ) (at : ℕ) → at ≤ length lent → Put lent at [] lent at
put_nothing lent at room = record { fits = omega arith; left = rw add-zero (sym (take-append-drop at lent)); behind = omega arith }

-- One text behind another is both together.
pub put_more : {lent text between more after : List ℕ} {at next last : ℕ} → Put lent at text between next → Put between next more after last
    → Put lent at (text ++ more) after last
put_more {lent} {text} {between} {more} {after} {at} {next} {last} first second =
    let room = first.fits in
    let same = length_put first in
    let begun = first.behind in
    let ended = second.behind in
    let further = second.fits in
    let long : length (take at lent) ≡ at = rw length-take (omega arith) in
    let front : length (take at lent ++ text) ≡ next = rw (length-append, long) (omega arith) in
    let split : between ≡ (take at lent ++ text) ++ drop (at + length text) lent = first.left ∙ sym (append_assoc (take at lent) text _) in
    let kept : take next between ≡ take at lent ++ text = rw split (take_at (take at lent ++ text) _ next front) in
    let past : drop next between ≡ drop (at + length text) lent = rw split (drop_at (take at lent ++ text) _ next front) in
    let behind : drop (next + length more) between ≡ drop (at + length (text ++ more)) lent =
    sym (drop-drop (length more) next between) ∙ rw (past, drop-drop, length-append, add_assoc) in
    record {
      fits = rw length-append (omega arith);
      left = second.left ∙ rw (kept, behind, append_assoc, append_assoc);
      behind = rw length-append (omega arith);
    }

-- A text copied to the front of the part from a place on is put there.
pub copied_put : (lent : List ℕ) (at : ℕ) (text : List ℕ) {copied : ℕ} {part : List ℕ} → Fits lent at text → copied ≡ length text
    → part ≡ take (length text) text ++ drop (length text) (take (length lent - at) (drop at lent))
    → Put lent at text (take at lent ++ (part ++ drop (length lent - at) (drop at lent))) (at + copied)
copied_put lent at text {copied} {part} room count e =
    let rest : take (length lent - at) (drop at lent) ≡ drop at lent = take_all (length lent - at) (drop at lent) (rw length-drop (omega arith)) in
    let none : drop (length lent - at) (drop at lent) ≡ [] = drop_of_length-le (drop at lent) {i = length lent - at} (rw length-drop (omega arith)) in
    record {
      fits = room;
      left = rw (e, none, rest, take-length, append-nil, drop-drop);
      behind = omega arith;
    }

-- A text put to the front is what stands before the place behind it.
pub put_front : {lent text after : List ℕ} {next : ℕ} → Put lent 0 text after next → take next after ≡ text
put_front {lent} {text} {after} {next} put =
    let behind = put.behind in
    rw put.left (take_at text (drop (0 + length text) lent) next (omega arith))

-- As many bytes stand before that place as it says.
pub front_length : {lent text after : List ℕ} {next : ℕ} → Put lent 0 text after next → next ≡ length (take next after)
front_length put = let behind = put.behind in rw (put_front put) (omega arith)
