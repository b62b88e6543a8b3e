-- `code_as_text::list` meets its contract: the room is tested, and then what is printed is put from the front.
use mathlib.Core.Path.{◌≡◌, refl, ◌∙◌}
use mathlib.Core.List.{List}
use Prim.Native.Nat.{ℕ}
use native.Mathlib.Omega.{arith}
use borrow.Author.Rules.{rules}
use Rattle.code_as_text.specs.AnswerLaws.{room_for_all, listing_done}
use Rattle.code_as_text.specs.FitLaws.{printed_fits}
use Rattle.code_as_text.proofs.list.Goals as goal

-- What is written stays once the text is lent no longer.
stays : {written left lent : List ℕ} → written ≡ left → lent ≡ written → lent ≡ left
stays e same = same ∙ e

pub put_printed-requires : goal.put_printed-requires
put_printed-requires c =
    let room = room_for_all c.args.line.now c.args.out.now c.in_ok-check_room.ensures refl in
    omega (arith, printed_fits c.args.line.now)

pub returns : goal.returns
returns c =
    let told = listing_done c.args.line.now c.args.out.now c.in_ok-check_room.ensures refl c.put_printed.ensures.put in
    record { value = told.0; out_after = stays told.1 (search rules) }
