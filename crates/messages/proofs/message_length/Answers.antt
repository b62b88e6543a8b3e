-- `messages::message_length` meets its contract: the limbs hold N(m) - 2, and the place of its highest bit is s.
use native.Mathlib.Omega.{arith}
use Rattle.messages.specs.LengthLaws.{row_less_kept_out}
use Rattle.messages.proofs.message_length.Goals as goal

pub highest_bit-requires : goal.highest_bit-requires
highest_bit-requires c =
    let rest = row_less_kept_out c.requires c.add.ensures.acc_after c.subtract.ensures.acc_after in
    (omega arith, rest.some)

pub returns : goal.returns
returns c =
    (row_less_kept_out c.requires c.add.ensures.acc_after c.subtract.ensures.acc_after).length c.highest_bit.ensures
