use mathlib.Core.Path.{sym, ◌∙◌}
use Prim.Native.Nat.{◌+◌}
use native.Mathlib.Omega.{arith}
use lib.ListN.{get_or, drop_of_length-le}
use Rattle.std.proofs.lemmas.List.{take_rest}
use Rattle.text.specs.NumberLaws.{digit_between, digit_counted, digit_passed, read_to_other, read_to_end}
use Rattle.text.proofs.line.number.Goals as goal
use Rattle.text.proofs.line.number.Goals.{then-value-lt1000, else-value-lt1000}

pub returns-then-not-is_ascii_digit : goal.returns-then-not-is_ascii_digit
returns-then-not-is_ascii_digit c =
    let l = c.loop-i in
    let read = read_to_other c.args.line.now 0 l.i l.invariant.1 c.loop-i-test.true (sym c.is_ascii_digit.ensures.value ∙ c.if-not-is_ascii_digit.true) in
    record { value = read.0; behind = take_rest c.args.line.now (l.i + 1) ∙ read.1 }

pub loop-i-preserved : goal.loop-i-preserved
loop-i-preserved c =
    let l = c.loop-i in
    let between = digit_between (get_or c.args.line.now c.loop-i.i 0) (sym c.is_ascii_digit.ensures.value ∙ c.if-not-is_ascii_digit.false) in
    elim c.if-value-lt1000.branch [
      | then-value-lt1000 w ↦ rw (w.value-is, w.from.ensures) (omega (arith, between.most), digit_counted c.args.line.now 0 l.i l.invariant.1 c.loop-i-test.true between (omega arith))
      | else-value-lt1000 w ↦ rw w.value-is (l.invariant.0, digit_passed c.args.line.now 0 l.i l.invariant.1 c.loop-i-test.true between (omega arith))
    ]

pub returns : goal.returns
returns c =
    let l = c.loop-i in
    let read = read_to_end c.args.line.now 0 l.i l.invariant.1 c.loop-i-test.false in
    record { value = read.0; behind = sym (drop_of_length-le c.args.line.now c.loop-i-test.false) ∙ read.1 }
