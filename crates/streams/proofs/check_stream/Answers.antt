-- `streams::check_stream` meets its contract: what is not in order is tested from each word on, and each part is a stream.
use Rattle.std.proofs.Common.{◌≡◌, rules, arith, length}
use Rattle.profiles.specs.Profiles.{stream_length}
use Rattle.replies.specs.Answers.{reply_of}
use Rattle.streams.specs.Streams.{words_in, part_refusal, stream_refusal}
use Rattle.streams.specs.EachLaws.{each_implies}
use Rattle.streams.specs.FitLaws.{few_cells}
use Rattle.streams.specs.PartLaws.{each_exact, part_place}
use Rattle.streams.proofs.check_stream.Goals as goal

pub check_parts-requires : goal.check_parts-requires
check_parts-requires c =
    let a = c.args in
    let pre = c.requires in
    let few = few_cells a.p (length a.cells.now) pre.0 pre.1 in
    let each = each_exact a.p pre.0 (words_in a.p (length a.cells.now)) a.cells.now pre.1.exact in
    record {
      range = pre.0;
      exact = pre.1.exact;
      near = omega arith;
      tested = each_implies a.p
          (λ part exact shown e.
          let here : length shown.now ≡ stream_length a.p (words_in a.p (length shown.now)) = rw e exact in (
            search rules,
            λ r q.
                let found : reply_of r ≡ part_refusal a.p shown.now = search rules in
                rw found (omega (arith, part_place a.p shown.now, pre.0.length.most, pre.0.reach.most)),
          ))
          _ _ each;
    }

pub returns : goal.returns
unfolding stream_refusal
returns c =
    let a = c.args in
    let pre = c.requires in
    let each = each_exact a.p pre.0 (words_in a.p (length a.cells.now)) a.cells.now pre.1.exact in
    c.check_parts.ensures (part_refusal a.p) (each_implies a.p (λ part exact shown e r q. let found : reply_of r ≡ part_refusal a.p shown.now = search rules in rw e at found) _ _ each)
