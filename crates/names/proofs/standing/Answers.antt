use Rattle.std.proofs.Common.{◌≡◌, ℕ, Bool, MatchOption, length-drop, true, false, cond, ◌||◌, ltb, ◌<◌, ◌+◌, ◌-◌, length, get_or, drop, refl, sym, arith}
use Rattle.std.proofs.lemmas.Bool.Decides.{nat_tests}
use Rattle.std.specs.Bool.{then_some}
use Rattle.names.specs.Names.{is_standing}
use Rattle.names.specs.StandingLaws.{further_at, goes_short, none_empty, reading_more, reading_broken, reading_begun, none_begun, none_stands, standing_tested}
use Rattle.names.proofs.standing.Goals as goal

-- Where a test fails, none of so many bytes stand.
picked : (t : Bool) (size n : ℕ) → 0 < size → cond t size 0 ≡ n → MatchOption (then_some t size) (n ≡ 0) (λ k. (k ≡ n) × (0 < k))
picked true size n some e = (e, some)
picked false size n some e = sym e

-- No byte, ..
pub returns-in_err-first : goal.returns-in_err-first
returns-in_err-first c = rw c.from_residual.ensures (none_empty c.args.text.now (omega (arith, c.in_err-first.ensures.item)))

-- .. none that begins a character, ..
pub returns-in_err-first-2 : goal.returns-in_err-first-2
returns-in_err-first-2 c =
    let item = c.in_ok-first.ensures.item in
    let none = rw (item.3.1 0) at c.in_err-first-2.ensures in
    rw c.from_residual-in_err-first-2.ensures (sym (none_begun c.args.text.now 0 item.3.0 refl none))

-- .. fewer bytes than it has, ..
pub returns-in_err-byte-items : goal.returns-in_err-byte-items
returns-in_err-byte-items c =
    let text = c.args.text.now in
    let item = c.in_ok-first.ensures.item in
    let led = rw (item.3.1 0) at c.in_ok-first-2.ensures.0 in
    let few : length (drop 1 text) < c.in_ok-first-2.first.size - 1 = rw length-drop (grind (arith, c.in_ok-first-2.ensures.1, c.in_err-byte-items.ensures.lookup)) in
    rw c.from_residual-in_err-byte-items.ensures (sym (none_stands text 0 item.3.0 led (goes_short _ _ few)))

-- .. or one that does not go on.
pub returns-in_default : goal.returns-in_default
returns-in_default c =
    let text = c.args.text.now in
    let k = c.loop-byte.byte-index in
    let items = c.in_ok-byte-items.ensures.lookup.0 in
    let item = c.in_ok-first.ensures.item in
    let at = further_at text c.in_ok-byte-items.byte-items.now c.in_ok-first-2.first.size k items.2 c.loop-byte-test.true in
    let outer : (ltb (get_or text (k + 1) 0) 0x80 || ltb 0xbf (get_or text (k + 1) 0)) ≡ true = grind (arith, nat_tests) in
    let led = rw (item.3.1 0) at c.in_ok-first-2.ensures.0 in
    sym (none_stands text 0 item.3.0 led (reading_broken c.loop-byte.invariant (omega arith) (omega arith) outer))

pub returns-in_default-2 : goal.returns-in_default-2
returns-in_default-2 c =
    let text = c.args.text.now in
    let k = c.loop-byte.byte-index in
    let items = c.in_ok-byte-items.ensures.lookup.0 in
    let item = c.in_ok-first.ensures.item in
    let at = further_at text c.in_ok-byte-items.byte-items.now c.in_ok-first-2.first.size k items.2 c.loop-byte-test.true in
    let outer : (ltb (get_or text (k + 1) 0) 0x80 || ltb 0xbf (get_or text (k + 1) 0)) ≡ true = grind (arith, nat_tests) in
    let led = rw (item.3.1 0) at c.in_ok-first-2.ensures.0 in
    sym (none_stands text 0 item.3.0 led (reading_broken c.loop-byte.invariant (omega arith) (omega arith) outer))

pub loop-byte-init : goal.loop-byte-init
loop-byte-init c =
    let item = c.in_ok-first.ensures.item in
    let led = rw (item.3.1 0) at c.in_ok-first-2.ensures.0 in
    let all : c.in_ok-first-2.first.size - 1 - 0 ≡ c.in_ok-first-2.first.size - 1 = omega arith in
    rw all (reading_begun c.args.text.now 0 item.3.0 led)

pub loop-byte-preserved : goal.loop-byte-preserved
loop-byte-preserved c =
    let text = c.args.text.now in
    let k = c.loop-byte.byte-index in
    let size = c.in_ok-first-2.first.size in
    let items = c.in_ok-byte-items.ensures.lookup.0 in
    let at = further_at text c.in_ok-byte-items.byte-items.now size k items.2 c.loop-byte-test.true in
    let inner : (ltb (get_or text (k + 1) 0) 0x80 || ltb 0xbf (get_or text (k + 1) 0)) ≡ false = grind (arith, nat_tests) in
    let fewer : size - 1 - k - 1 ≡ size - 1 - (k + 1) = omega arith in
    rw (c.from.ensures, at, ← fewer) (reading_more c.loop-byte.invariant (omega arith) (omega arith) inner)

pub returns : goal.returns
returns c =
    let text = c.args.text.now in
    let first = c.in_ok-first-2.first in
    let item = c.in_ok-first.ensures.item in
    let led = rw (item.3.1 0) at c.in_ok-first-2.ensures.0 in
    let tested : is_standing first.least c.loop-byte.point ≡ c.if-is_code_point.then_some = grind (arith, nat_tests) in
    let items = c.in_ok-byte-items.ensures.lookup.0 in
    let stands = standing_tested text 0 item.3.0 led c.if-is_code_point.then_some c.loop-byte.invariant (omega arith) tested in
    rw c.then_some.ensures (picked c.if-is_code_point.then_some first.size _ c.in_ok-first-2.ensures.1 stands)
