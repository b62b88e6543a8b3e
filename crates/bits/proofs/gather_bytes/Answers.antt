use Rattle.std.proofs.Common.{◌≡◌, ◌+◌, ◌-◌, ◌*◌, ◌^◌, ◌<◌, get_or, get_or-take, get_or-drop, length-take, drop, arith}
use Rattle.bits.specs.MovingLaws.{gathered_none, gathered_byte, gathered_below}
use Rattle.bits.proofs.gather_bytes.Goals as goal

pub loop-byte-init : goal.loop-byte-init
loop-byte-init c = gathered_none _ _ _

-- Before a byte is read, the number leaves room for it.
pub overflow_mul-number : goal.overflow_mul-number
overflow_mul-number c =
    let inside : c.loop-byte.byte-index < c.args.n = omega (arith, length-take (c.args.first + c.args.n - c.args.first) (drop c.args.first c.args.bytes.now)) in
    let small : c.loop-byte.number < 2 ^ 56 = gathered_below c.loop-byte.invariant (64 - 8 * c.args.n) 56 c.requires.2 (omega arith) in
    omega arith

pub loop-byte-preserved : goal.loop-byte-preserved
loop-byte-preserved c =
    let args = c.args in
    let inside : c.loop-byte.byte-index < args.first + args.n - args.first = omega (arith, length-take (args.first + args.n - args.first) (drop args.first args.bytes.now)) in
    let read : c.from.result ≡ get_or args.bytes.now (args.first + c.loop-byte.byte-index) 0 = rw (get_or-take, get_or-drop) at c.from.ensures in
    rw read (gathered_byte _ _ c.loop-byte.invariant (c.type_inv.bytes _).fits (omega arith))

pub overflow_add-number : goal.overflow_add-number
overflow_add-number c =
    let args = c.args in
    let inside : c.loop-byte.byte-index < args.first + args.n - args.first = omega (arith, length-take (args.first + args.n - args.first) (drop args.first args.bytes.now)) in
    let small : c.loop-byte.number < 2 ^ 56 = gathered_below c.loop-byte.invariant (64 - 8 * args.n) 56 c.requires.2 (omega arith) in
    let read : c.from.result ≡ get_or args.bytes.now (args.first + c.loop-byte.byte-index) 0 = rw (get_or-take, get_or-drop) at c.from.ensures in
    omega (arith, (c.type_inv.bytes (args.first + c.loop-byte.byte-index)).fits)
