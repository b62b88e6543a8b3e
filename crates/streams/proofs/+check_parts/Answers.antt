-- `streams::check_parts` meets its contract: a word, and those behind it.
use Rattle.std.proofs.Common.{◌<◌, ◌∙◌, refl, sym, arith, tests, length, length-drop}
use Rattle.std.proofs.lemmas.List.{take_rest}
use Rattle.profiles.specs.Profiles.{stride}
use Rattle.streams.specs.FitLaws.{goes_on}
use Rattle.streams.specs.PartLaws.{each_first, each_behind, rest_exact}
use Rattle.streams.proofs.PartLaws.{throughout_step}
use Rattle.streams.proofs.+check_parts.Goals as goal

pub moved_by-requires : goal.moved_by-requires
moved_by-requires g t c =
    let a = c.args in
    let pre = c.requires in
    let some : 0 < length a.part.now = grind (arith, tests) in
    let near = (each_first a.p a.part.now pre.range pre.exact _ pre.tested some a.part refl).1 c.test.result c.test.ensures in
    omega arith

pub moved_by-requires-2 : goal.moved_by-requires-2
moved_by-requires-2 g t c =
    let a = c.args in
    let pre = c.requires in
    let some : 0 < length a.part.now = grind (arith, tests) in
    let near = (each_first a.p a.part.now pre.range pre.exact _ pre.tested some a.part refl).1 c.test-2.result c.test-2.ensures in
    omega arith

pub check_parts-behind-requires : goal.check_parts-behind-requires
check_parts-behind-requires g t c κs within =
    let a = c.args in
    let pre = c.requires in
    let more = c.if-part-p.false in
    let shorter = length-drop (stride a.p) a.part.now in
    let inside = goes_on a.p a.part.now pre.range pre.exact more in
    let exact = rest_exact a.p a.part.now pre.range pre.exact more in
    rw take_rest (omega arith, (within, (pre.range, (exact, (omega arith, each_behind a.p a.part.now pre.range pre.exact _ pre.tested more)))))

pub returns : goal.returns
returns g t c = λ finds each.
    let a = c.args in
    let pre = c.requires in
    let some : 0 < length a.part.now = grind (arith, tests) in
    let here = each_first a.p a.part.now pre.range pre.exact _ each some a.part refl c.test-2.result c.test-2.ensures in
    let step = throughout_step a.p finds a.place a.part.now pre.range pre.exact c.if-part-p.false in
    let there = (rw take_rest at c.check_parts-behind.ensures) finds (each_behind a.p a.part.now pre.range pre.exact _ each c.if-part-p.false) in
    rw (rw here at c.moved_by-2.ensures, there) at c.lowest.ensures ∙ sym step
