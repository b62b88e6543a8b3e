-- `quotients::spell` meets its contract: a figure of small numbers is put whole, and else nothing.
use mathlib.Core.Path.{◌≡◌, refl, sym, ◌∙◌}
use mathlib.Core.Bool.{true}
use native.Mathlib.Omega.{arith}
use borrow.Author.Rules.{rules}
use Rattle.std.proofs.lemmas.Bool.Decides.{nat_tests}
use Rattle.text.specs.WriterLaws.{puts_front}
use Rattle.quotients.specs.Quotients.{is_figure}
use Rattle.quotients.specs.QuotientLaws.{is_figure_lem, figure-length, figure_told}
use Rattle.quotients.proofs.spell.Goals as goal

pub put_places-requires : goal.put_places-requires
put_places-requires c =
    let told : is_figure c.args.a c.args.b ≡ true = grind (arith, nat_tests) in
    omega (arith, figure-length c.args.a c.args.b (is_figure_lem c.args.a c.args.b told))

pub returns-then-b-lt-LIMIT-clause-out_after : goal.returns-then-b-lt-LIMIT-clause-out_after
returns-then-b-lt-LIMIT-clause-out_after c =
    puts_front c.put_places.ensures refl (search rules) ∙ sym (figure_told _ _ (grind (arith, nat_tests)))
