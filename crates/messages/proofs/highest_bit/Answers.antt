-- `messages::highest_bit` meets its contract: at least one limb is in use, and at most ten.
use borrow.Author.Rules.{rules}
use native.Mathlib.Omega.{arith}
use Rattle.messages.specs.HighestBit.{highest_bit}
use Rattle.messages.proofs.highest_bit.Goals as goal

pub overflow_sub-top : goal.overflow_sub-top
overflow_sub-top c = (highest_bit 10 _ (search rules) c.requires.1 _ c.limbs_used-top.ensures).some

pub overflow_mul-result : goal.overflow_mul-result
overflow_mul-result c = let few = (highest_bit 10 _ (search rules) c.requires.1 _ c.limbs_used-top.ensures).inside in omega arith

pub offset_bounds-number-top : goal.offset_bounds-number-top
offset_bounds-number-top c = let few = (highest_bit 10 _ (search rules) c.requires.1 _ c.limbs_used-top.ensures).inside in omega arith

pub bounds-number-top : goal.bounds-number-top
bounds-number-top c =
    let bit = highest_bit 10 _ (search rules) c.requires.1 _ c.limbs_used-top.ensures in
    omega (arith, bit.some, bit.inside)
