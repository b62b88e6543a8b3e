-- `write_stream::Messages::write_word` meets its contract: the limbs hold the message, then its index, which is that of the word that carries it.
use Rattle.std.proofs.Common.{sym, le_of_eq, le_of_lt, le_refl, mul-le-mul, arith}
use Rattle.write_stream.specs.HeldLaws.{message_held}
use Rattle.write_stream.proofs.Messages.write_word.Goals as goal

pub overflow_mul-k : goal.overflow_mul-k
overflow_mul-k c =
    let few = mul-le-mul (le_of_lt c.requires.0) (le_of_lt c.args.self.now.short.1) in
    omega arith

pub number_at-requires : goal.number_at-requires
number_at-requires c =
    let most = le_of_lt c.args.self.now.short.1 in
    let few = mul-le-mul (le_of_lt c.requires.0) most in
    (c.requires.1, omega arith, most, le_refl 10)

-- Once message k is read, the limbs hold it; ..
pub index-index-requires : goal.index-index-requires
index-index-requires c = let m = c.args.self.now in (message_held m.bytes.now c.args.k m.ready c.number_at.ensures).fits

-- .. and once the step of one is taken, they hold its index.
pub spell-requires : goal.spell-requires
spell-requires c =
    let m = c.args.self.now in
    let index = (message_held m.bytes.now c.args.k m.ready c.number_at.ensures).index c.index-index.ensures in
    (m.ready.carrying.in_range, m.ready.carrying.belongs, le_of_eq (sym index.ten), c.requires.2, index.below)

pub returns : goal.returns
returns c =
    let m = c.args.self.now in
    let index = (message_held m.bytes.now c.args.k m.ready c.number_at.ensures).index c.index-index.ensures in
    rw index.number at c.spell.ensures
