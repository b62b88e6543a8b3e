-- Where profile, table and room are in order, the word of an index is the one legal word with that many before it, and it is refused exactly
-- if there is none.
use Rattle.std.specs.Prelude.{◌≡◌, List, ℕ, ◌≤◌, ◌<◌, leb, length}
use Rattle.std.proofs.Math.Path.{refl, ap}
use Rattle.std.proofs.Common.{arith}
use borrow.Author.Tests.{le-leb, lt-leb}
use Rattle.limbs.specs.Limbs.{value}
use Rattle.numbers.specs.declared.Index.{Index}
use Rattle.replies.specs.declared.Profile.{Profile}
use Rattle.replies.specs.declared.Reply.{Reply}
use Rattle.replies.specs.Replies.{refused_if, writing_counted}
use Rattle.replies.specs.ReplyLaws.{leaves, room_enough}
use Rattle.code.proofs.Laws.{one_word_of_index, index_below-N}
use Rattle.profiles.specs.Profiles.{word_count}
use Rattle.word_of_index.specs.Spelling.{index_refusal, spelling, InOrder, Given, NoWord}

module _ (p : Profile) (table : List ℕ) (i : Index) (lent : List ℕ) (order : InOrder p table lent) where
  decided : refused_if (leb (word_count p) (value i.0)) 12 ≡ index_refusal p table i lent
  unfolding index_refusal
  decided =
      let room = ap (λ (r : Reply). r.number) (room_enough p.m (length lent) order.room) in
      leaves _ _ _ _ refl order.profile (leaves _ _ _ _ refl order.belongs (leaves _ _ _ _ refl room refl))

  -- An index below N(m) has a word, and it is given.
  pub word_given : value i.0 < word_count p → Given p (value i.0) lent (spelling p table i lent)
  unfolding spelling writing_counted
  word_given l =
      let one = one_word_of_index _ _ _ (value i.0) l in
      record { one = one; written = rw (← decided, lt-leb _ _ l, one.found.cells) }

  -- An index at or above N(m) has none, and it is refused.
  pub word_refused : word_count p ≤ value i.0 → NoWord p (value i.0) lent (spelling p table i lent)
  unfolding spelling writing_counted
  word_refused l = record {
    none = λ w legal e. let below = index_below-N _ _ _ w legal in omega arith;
    refusal = rw (← decided, le-leb _ _ l);
  }
