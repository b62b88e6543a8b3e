-- `code_as_text::put_message` meets its contract: a hyphen where the index carries no message, and else the lowest limb of the message.
use mathlib.Core.Path.{◌≡◌, sym, ap, ◌∙◌}
use native.Mathlib.Omega.{arith}
use lib.ListN.{get_or}
use Rattle.std.proofs.lemmas.Bool.Decides.{nat_tests}
use Rattle.text.specs.Text.{bytes, decimal}
use Rattle.code_as_text.specs.Printed.{message_text}
use Rattle.code_as_text.specs.IndexLaws.{message_limb, hyphen, message_printed}
use Rattle.code_as_text.proofs.put_message.Goals as goal

pub put-requires : goal.put-requires
put-requires c =
    let none : message_text c.args.last c.args.i ≡ bytes "-" = hyphen c.args.last c.args.i (grind (arith, nat_tests)) in
    rw none at c.requires

pub returns-then-i-lt-FIRST : goal.returns-then-i-lt-FIRST
returns-then-i-lt-FIRST c =
    let none : message_text c.args.last c.args.i ≡ bytes "-" = hyphen c.args.last c.args.i (grind (arith, nat_tests)) in
    rw none c.put.ensures

pub put_decimal-requires : goal.put_decimal-requires
put_decimal-requires c =
    let limb = message_limb c.ranges.i.fits c.index_of.ensures.0 c.message-message.ensures in
    let message : message_text c.args.last c.args.i ≡ decimal (get_or c.message-message.result.0 0 0) = message_printed c.args.last c.args.i (grind (arith, nat_tests)) ∙ ap decimal (sym limb) in
    rw message at c.requires

pub returns : goal.returns
returns c =
    let limb = message_limb c.ranges.i.fits c.index_of.ensures.0 c.message-message.ensures in
    let message : message_text c.args.last c.args.i ≡ decimal (get_or c.message-message.result.0 0 0) = message_printed c.args.last c.args.i (grind (arith, nat_tests)) ∙ ap decimal (sym limb) in
    rw message c.put_decimal.ensures
