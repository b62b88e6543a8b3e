-- `outcomes::reply_text` meets its contract: the room is tested, and then what is told is put from the front.
use mathlib.Core.Path.{◌≡◌, refl, ◌∙◌}
use mathlib.Core.List.{List}
use Prim.Native.Nat.{ℕ}
use native.Mathlib.Omega.{arith}
use borrow.Author.Rules.{rules}
use Rattle.outcomes.specs.ReplyLaws.{reply-length, room_for_all, telling_done}
use Rattle.outcomes.proofs.reply_text.Goals as goal

-- What is written stays once the text is lent no longer.
stays : {written left lent : List ℕ} → written ≡ left → lent ≡ written → lent ≡ left
stays e same = same ∙ e

pub put_reply-requires : goal.put_reply-requires
put_reply-requires c =
    let a = c.args in
    let room = room_for_all a.reply a.out.now c.in_ok-check_room.ensures refl in
    let most = reply-length a.reply (omega arith) (omega arith) in
    omega arith

pub returns : goal.returns
returns c =
    let told = telling_done c.args.reply c.args.out.now c.in_ok-check_room.ensures refl c.put_reply.ensures.put in
    record { value = told.0; out_after = stays told.1 (search rules) }
