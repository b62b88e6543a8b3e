use mathlib.Core.Path.{refl, ◌∙◌}
use Prim.Native.Nat.{◌+◌, ◌*◌, ◌≤◌}
use native.Mathlib.Omega.{arith}
use lib.ListN.{length, get_or, drop}
use borrow.Author.Rules.{rules}
use Rattle.names.specs.Quotes.{quoted, quoted_byte}
use Rattle.names.specs.QuoteLaws.{quoted_at, quoted_end, quoted_whole, quoted_fits, quoted_few}
use Rattle.names.specs.FrontLaws.{all_left, next_fits, next_put, none_left, front_held}
use Rattle.names.proofs.quote.Goals as goal

pub returns-then-out-printed : goal.returns-then-out-printed
returns-then-out-printed c =
    let a = c.args in
    rw (quoted_few a.printed.now (length a.out.now) (omega arith)) (search rules)

pub loop-byte-init : goal.loop-byte-init
loop-byte-init c =
    let a = c.args in
    let enough : 2 * length a.printed.now ≤ length a.out.now = omega arith in (
      all_left a.out.now (quoted a.printed.now) (quoted_whole a.printed.now (length a.out.now) enough)
          (quoted_fits a.printed.now a.out.now enough),
      refl,
    )

pub put_quoted-requires : goal.put_quoted-requires
put_quoted-requires c =
    let l = c.loop-byte in
    let text = c.args.printed.now in
    next_fits (quoted_byte (get_or text l.byte-index 0)) (quoted (drop (l.byte-index + 1) text))
    (quoted_at text l.byte-index c.loop-byte-test.true) l.invariant.0

pub loop-byte-preserved : goal.loop-byte-preserved
loop-byte-preserved c =
    let l = c.loop-byte in
    let put = c.put_quoted.ensures in
    (next_put (quoted_at c.args.printed.now l.byte-index c.loop-byte-test.true) l.invariant.0 put.put, put.same_out ∙ l.invariant.1)

pub returns : goal.returns
returns c =
    let done = none_left (quoted_end c.args.printed.now c.loop-byte.byte-index c.loop-byte-test.false) c.loop-byte.invariant.0 in
    record {
      prefix_len = (front_held done (search rules)).0;
      out_after = (front_held done (search rules)).1.0;
      out_unchanged = (front_held done (search rules)).1.1;
    }
