-- `read_stream::silent::check_words` meets its contract: each part begins with a legal word, which is tested.
use Rattle.std.proofs.Common.{◌≡◌, ◌≤◌, rules, arith, length, take}
use Rattle.profiles.specs.Profiles.{LegalFor}
use Rattle.replies.specs.Answers.{reply_of}
use Rattle.streams.specs.EachLaws.{each_implies}
use Rattle.read_stream.specs.Reading.{silent_refusal, silent_first, silence_refusal}
use Rattle.read_stream.specs.SilentLaws.{silent_place, legal_inside}
use Rattle.read_stream.proofs.silent.check_words.Goals as goal

pub check_parts-requires-clause-tested : goal.check_parts-requires-clause-tested
check_parts-requires-clause-tested c =
    let a = c.args in
    let pre = c.requires.0 in
    each_implies a.p
    (λ part legal shown e.
    let word : LegalFor a.p (take a.p.m shown.now) = rw e legal in
    let inside : a.p.m ≤ length shown.now = legal_inside a.p shown.now word in (
      search rules,
      λ r q.
          let found : reply_of r ≡ silent_refusal a.p (take a.p.m shown.now) = search rules in
          rw (found, silent_place) (omega arith),
    ))
    _ _ pre.words.each

pub returns : goal.returns
unfolding silence_refusal
returns c =
    let a = c.args in
    c.check_parts.ensures (silent_first a.p)
    (each_implies a.p
    (λ part legal shown e r q.
    let found : reply_of r ≡ silent_refusal a.p (take a.p.m shown.now) = search rules in
    rw e at found)
    _ _ c.requires.0.words.each)
