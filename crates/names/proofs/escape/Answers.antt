use mathlib.Core.Path.{refl, sym, ◌∙◌}
use Prim.Native.Nat.{◌*◌, ◌≤◌}
use native.Mathlib.Omega.{arith}
use lib.ListN.{length, get_or, take, drop}
use borrow.Author.Rules.{rules}
use Rattle.std.proofs.Common.{length-take}
use Rattle.std.proofs.lemmas.List.{take_rest}
use Rattle.names.specs.Names.{spelt, escaped}
use Rattle.names.specs.FrontLaws.{all_left, next_fits, next_put, none_left, front_held}
use Rattle.names.specs.StandingLaws.{standing-length}
use Rattle.names.specs.EscapeLaws.{escaped_standing, spelt_at, escaped_end, escaped_whole, escaped_fits, escaped_none}
use Rattle.names.proofs.escape.Goals as goal

pub returns-then-out-name : goal.returns-then-out-name
returns-then-out-name c =
    let a = c.args in
    rw (escaped_none a.name.now (length a.out.now) (omega arith)) (search rules)

pub loop-rest-init : goal.loop-rest-init
loop-rest-init c =
    let a = c.args in
    let enough : 4 * length a.name.now ≤ length a.out.now = omega arith in (
      all_left a.out.now (escaped a.name.now) (escaped_whole a.name.now (length a.out.now) enough)
          (escaped_fits a.name.now a.out.now enough),
      refl,
    )

-- A character that stands as it is ..
pub put-requires : goal.put-requires
put-requires c =
    let rest = c.loop-rest.rest.now in
    let n = c.in-Some.n in
    next_fits (take n rest) (escaped (drop n rest)) (escaped_standing rest n c.in-Some.ensures.1 (sym c.in-Some.ensures.0)) c.loop-rest.invariant.0

pub slice_bounds-put-end : goal.slice_bounds-put-end
slice_bounds-put-end c = rw length-take (omega (arith, c.in-Some.ensures.0, standing-length c.loop-rest.rest.now))

pub slice_bounds-rest-count : goal.slice_bounds-rest-count
slice_bounds-rest-count c = omega (arith, c.in-Some.ensures.0, standing-length c.loop-rest.rest.now)

pub slice_bounds-rest-start : goal.slice_bounds-rest-start
slice_bounds-rest-start c = omega (arith, c.in-Some.ensures.0, standing-length c.loop-rest.rest.now)

pub loop-rest-preserved-in-Some : goal.loop-rest-preserved-in-Some
loop-rest-preserved-in-Some c =
    let rest = c.loop-rest.rest.now in
    let n = c.in-Some.n in
    let whole = escaped_standing rest n c.in-Some.ensures.1 (sym c.in-Some.ensures.0) in
    rw (take_rest rest n) (next_put whole c.loop-rest.invariant.0 c.put.ensures.put, c.put.ensures.same_out ∙ c.loop-rest.invariant.1)

-- .. or a byte that is spelt out.
pub put_spelt-requires : goal.put_spelt-requires
put_spelt-requires c =
    let rest = c.loop-rest.rest.now in
    next_fits (spelt (get_or rest 0 0)) (escaped (drop 1 rest)) (spelt_at rest 0 (omega arith) c.in-None.ensures) c.loop-rest.invariant.0

pub loop-rest-preserved : goal.loop-rest-preserved
loop-rest-preserved c =
    let rest = c.loop-rest.rest.now in
    let put = c.put_spelt.ensures in
    rw (take_rest rest 1) (next_put (spelt_at rest 0 (omega arith) c.in-None.ensures) c.loop-rest.invariant.0 put.put, put.same_out ∙ c.loop-rest.invariant.1)

pub returns : goal.returns
returns c =
    let done = none_left (escaped_end c.loop-rest.rest.now 0 (omega arith)) c.loop-rest.invariant.0 in
    record {
      prefix_len = (front_held done (search rules)).0;
      out_after = (front_held done (search rules)).1.0;
      out_unchanged = (front_held done (search rules)).1.1;
    }
