-- `read_stream::silent::spell_limit` meets its contract.
use native.Mathlib.Nat.{le_refl, zero-add}
use lib.ListN.{length-set}
use Rattle.read_stream.specs.LimitLaws.{limb_of_limit, limit_below, limit_spelt}
use Rattle.read_stream.proofs.silent.spell_limit.Goals as goal

pub bounds-rest-s : goal.bounds-rest-s
bounds-rest-s c = let pre = c.requires in limb_of_limit pre.0 pre.1

pub spell-requires : goal.spell-requires
spell-requires c =
    let pre = c.requires in
    (pre.0.in_range, pre.0.belongs, rw length-set (le_refl 10), rw zero-add pre.2, limit_below pre.0 pre.1)

pub returns : goal.returns
returns c =
    let pre = c.requires in
    limit_spelt pre.0 pre.1 _ c.spell.ensures
