use Rattle.std.proofs.Common.{◌∙◌, eqb, rules, tests}
use Rattle.std.proofs.lemmas.Iterator.{YieldsList-from_slice}
use Rattle.std.proofs.lemmas.Iterator.Search.{all_from_yields_List}
use Rattle.read_stream.specs.WalkLaws.{all_pass}
use Rattle.read_stream.proofs.silent.all_at.Goals as goal

pub returns : goal.returns
returns c =
    let a = c.args in
    all_from_yields_List (λ cell. eqb cell a.level) _ _ c.all.result c.all.ensures.ran (YieldsList-from_slice a.word.now (cc)) (λ cell b q k. search (rules, tests))
    ∙ all_pass (λ cell. eqb cell a.level) a.word.now
