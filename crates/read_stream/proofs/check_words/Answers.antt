-- `read_stream::check_words` meets its contract: what 10, 11, 13 let through has legal words.
use Rattle.std.proofs.Common.{◌≡◌, sym, ap, rules, arith}
use Rattle.replies.specs.declared.Reply.{Reply}
use Rattle.replies.specs.Replies.{done}
use Rattle.streams.specs.Streams.{stream_refusal}
use Rattle.streams.specs.FitLaws.{few_cells}
use Rattle.read_stream.specs.LimitLaws.{limit_in_front}
use Rattle.read_stream.specs.CarrierLaws.{words_legal}
use Rattle.read_stream.proofs.check_words.Goals as goal

pub check_words-requires : goal.check_words-requires
check_words-requires c =
    let pre = c.requires in
    let limits = limit_in_front _ pre.0 c.spell_limit.ensures in
    let passed : done ≡ stream_refusal c.args.p c.args.cells.now = search rules in
    let legal = words_legal _ pre.0.in_range pre.2 (sym (ap (λ (r : Reply). r.number) passed)) in
    (record { range = pre.0.in_range; limits = limits; words = legal }, omega (arith, few_cells _ _ pre.0.in_range pre.2))
