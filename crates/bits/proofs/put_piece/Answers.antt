-- `bits::put_piece` meets its contract: where there are bits, their byte is set.
use mathlib.Core.Path.{◌≡◌, sym}
use native.Mathlib.Omega.{arith}
use Rattle.bits.specs.Bits.{bits_of, with_bits}
use Rattle.bits.specs.ByteLaws.{with_bits_byte}
use Rattle.bits.proofs.put_piece.Goals as goal

pub returns-then-c-gt0 : goal.returns-then-c-gt0
returns-then-c-gt0 c = rw (c.into_byte.ensures, c.out_of-bits.ensures) (sym (with_bits_byte _ _ _ _ (λ i. (c.slice_known-then-c-gt0-1.given i).fits) (omega arith) (omega arith) (omega arith)))

pub returns-else-c-gt0 : goal.returns-else-c-gt0
unfolding bits_of with_bits
returns-else-c-gt0 c = let none : c.args.c ≡ 0 = omega arith in rw none
