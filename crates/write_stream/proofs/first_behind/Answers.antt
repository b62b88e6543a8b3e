-- `write_stream::first_behind` meets its contract: each bit is read off its byte.
use Rattle.std.proofs.Common.{◌≡◌, ◌∙◌, arith, rules, tests}
use Rattle.std.proofs.lemmas.Iterator.{first_from_Range}
use Rattle.write_stream.specs.RefusalLaws.{bit_read, bytes_taken, behind_found}
use Rattle.write_stream.proofs.first_behind.Goals as goal

pub returns : goal.returns
returns c =
    let a = c.args in
    behind_found a.bytes.now a.bits c.find.result c.requires.1
    (rw (c.div_ceil.ensures ∙ bytes_taken a.bits) at
    (first_from_Range _ _ _ c.find.result (λ i. bit_read a.bytes.now i ≡ 1) (λ i. bit_read a.bytes.now i ≡ 1 → ⊥) c.find.ensures.ran
    (λ i q k. grind (arith, tests)) (λ i q k. (search rules, grind (arith, tests)))))
