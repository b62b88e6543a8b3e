-- `read_stream::read` meets its contract: profile and table are in order, and so is the stream.
use Rattle.std.proofs.Common.{refl, ap₂, ℕ, ◌*◌, arith}
use Rattle.messages.specs.CarryingLaws.{carries_messages}
use Rattle.streams.specs.FitLaws.{few_cells}
use Rattle.read_stream.specs.ReadingLaws.{bits_few, accepted, reading_done}
use Rattle.read_stream.proofs.read.Goals as goal

pub message_length-s-requires : goal.message_length-s-requires
message_length-s-requires c = carries_messages _ _ c.in_ok-check_carrying.ensures refl

pub check_stream-requires : goal.check_stream-requires
check_stream-requires c = (carries_messages _ _ c.in_ok-check_carrying.ensures refl, c.message_length-s.ensures)

pub overflow_mul-p : goal.overflow_mul-p
overflow_mul-p c =
    let ready = carries_messages _ _ c.in_ok-check_carrying.ensures refl in
    omega (arith, ready.in_range.length.most)

pub limbs_used-requires : goal.limbs_used-requires
limbs_used-requires c =
    let ready = carries_messages _ _ c.in_ok-check_carrying.ensures refl in
    omega (arith, ready.belongs.long)

pub invariant_of-reader : goal.invariant_of-reader
invariant_of-reader c = record {
  found = record { ready = carries_messages _ _ c.in_ok-check_carrying.ensures refl; limbs = c.limbs_used.ensures; bits = c.message_length-s.ensures };
  limbs = λ k. (c.type_inv.table k).fits;
}

-- .. and so is the stream.
pub put_messages-requires : goal.put_messages-requires
put_messages-requires c =
    let ready = carries_messages _ _ c.in_ok-check_carrying.ensures refl in
    let stream = accepted _ _ ready c.in_ok-check_stream.ensures refl in
    (stream.words, stream.room)

pub words_in-requires : goal.words_in-requires
words_in-requires c =
    let ready = carries_messages _ _ c.in_ok-check_carrying.ensures refl in
    let stream = accepted _ _ ready c.in_ok-check_stream.ensures refl in
    (ready.in_range, omega (arith, few_cells _ _ ready.in_range stream.fits))

pub overflow_mul-bits : goal.overflow_mul-bits
overflow_mul-bits c =
    let ready = carries_messages _ _ c.in_ok-check_carrying.ensures refl in
    let stream = accepted _ _ ready c.in_ok-check_stream.ensures refl in
    omega (arith, bits_few ready stream.fits c.words_in.ensures c.message_length-s.ensures)

pub returns : goal.returns
returns c =
    let count = ap₂ (λ (n s : ℕ). n * s) c.words_in.ensures c.message_length-s.ensures in
    let done = reading_done _ _ _ _ c.in_ok-check_carrying.ensures c.in_ok-check_stream.ensures count c.put_messages.ensures in
    record { value = done.0; out_after = done.1 }
