-- `code_as_text::put_answer` meets its contract: the number of a refusal, that there are too many words, or the code from the table that is built.
use mathlib.Core.Path.{refl}
use native.Mathlib.Omega.{arith}
use Rattle.std.proofs.Common.{length-append}
use Rattle.replies.specs.ReplyLaws.{profile_in_range}
use Rattle.replies.specs.Ranges.{InRange}
use Rattle.tables.specs.Tables.{Belongs}
use Rattle.text.specs.WriterLaws.{puts_more}
use Rattle.code_as_text.specs.CodeLaws.{built_table, words_limb}
use Rattle.code_as_text.specs.AnswerLaws.{number_some, refused_parts_lem, answer_too_many, answer_listed, few_words}
use Rattle.code_as_text.proofs.put_answer.Goals as goal

pub put-requires : goal.put-requires
put-requires c =
    let told = refused_parts_lem c.args.p c.in-Err.ensures (number_some c.in-Err.refusal.why) in
    let room = simp length-append at (rw told at c.requires) in
    omega arith

pub put_decimal-requires : goal.put_decimal-requires
put_decimal-requires c =
    let told = refused_parts_lem c.args.p c.in-Err.ensures (number_some c.in-Err.refusal.why) in
    let room = simp length-append at (rw told at c.requires) in
    rw (c.from.ensures, c.number.ensures) (omega arith)

pub put-requires-in-Err : goal.put-requires-in-Err
put-requires-in-Err c =
    let told = refused_parts_lem c.args.p c.in-Err.ensures (number_some c.in-Err.refusal.why) in
    let room = simp length-append at (rw told at c.requires) in
    let number = rw (c.from.ensures, c.number.ensures) at c.put_decimal.ensures in
    omega arith

pub returns-in-Err : goal.returns-in-Err
returns-in-Err c =
    let told = refused_parts_lem c.args.p c.in-Err.ensures (number_some c.in-Err.refusal.why) in
    let number = rw (c.from.ensures, c.number.ensures) at c.put_decimal.ensures in
    rw told (puts_more c.put.ensures (puts_more number c.put-in-Err.ensures))

pub too_many-requires : goal.too_many-requires
too_many-requires c =
    let range : InRange c.args.p = profile_in_range c.args.p c.in_default.ensures refl in
    let most = range.length.most in
    let belongs : Belongs c.args.p c.args.p.m c.build.new.out = built_table range _ (omega arith) c.build.ensures.out_after in
    (belongs, most)

pub put-requires-then-too_many : goal.put-requires-then-too_many
put-requires-then-too_many c =
    rw (answer_too_many c.args.p c.in_default.ensures refl c.too_many.ensures c.if-too_many.true) at c.requires

pub returns-then-too_many : goal.returns-then-too_many
returns-then-too_many c =
    rw (answer_too_many c.args.p c.in_default.ensures refl c.too_many.ensures c.if-too_many.true) c.put-then-too_many.ensures

pub overflow_mul-words : goal.overflow_mul-words
overflow_mul-words c =
    let range : InRange c.args.p = profile_in_range c.args.p c.in_default.ensures refl in
    let most = range.length.most in
    omega arith

pub offset_bounds-table-p : goal.offset_bounds-table-p
offset_bounds-table-p c =
    let range : InRange c.args.p = profile_in_range c.args.p c.in_default.ensures refl in
    let most = range.length.most in
    omega arith

pub bounds-table-p : goal.bounds-table-p
bounds-table-p c =
    let range : InRange c.args.p = profile_in_range c.args.p c.in_default.ensures refl in
    let most = range.length.most in
    omega arith

pub put_code-requires : goal.put_code-requires
put_code-requires c =
    let range : InRange c.args.p = profile_in_range c.args.p c.in_default.ensures refl in
    let most = range.length.most in
    let belongs : Belongs c.args.p c.args.p.m c.build.new.out = built_table range _ (omega arith) c.build.ensures.out_after in
    let few = few_words c.args.p c.in_default.ensures refl c.too_many.ensures c.if-too_many.false in
    let count = words_limb belongs few in
    (range, belongs, count, rw count few, rw (answer_listed c.args.p c.in_default.ensures refl c.too_many.ensures c.if-too_many.false) at c.requires)

pub returns : goal.returns
returns c =
    rw (answer_listed c.args.p c.in_default.ensures refl c.too_many.ensures c.if-too_many.false) c.put_code.ensures
