-- `write_stream::write` meets its contract: what the tests let through, and the stream that is written.
use Rattle.std.proofs.Common.{refl}
use Rattle.messages.specs.CarryingLaws.{carries_messages}
use Rattle.write_stream.specs.CarrierLaws.{carries}
use Rattle.write_stream.specs.RefusalLaws.{fitting}
use Rattle.write_stream.specs.WritingLaws.{made_ready, stream_done}
use Rattle.write_stream.proofs.write.Goals as goal

pub message_length-requires : goal.message_length-requires
message_length-requires c = carries_messages _ _ c.in_ok-check_carrying.ensures refl

pub invariant_of-messages : goal.invariant_of-messages
invariant_of-messages c =
    let ready = made_ready _ _ c.in_ok-check_carrying.ensures c.message_length.ensures in
    let s = carries ready in
    record { ready = ready; short = (s.some, s.most) }

pub write_words-requires : goal.write_words-requires
write_words-requires c = fitting _ _ _ _ c.message_length.ensures c.in_ok-check_bits.ensures

pub stream_length-requires : goal.stream_length-requires
stream_length-requires c = (
  (carries_messages _ _ c.in_ok-check_carrying.ensures refl).in_range,
  (fitting _ _ _ _ c.message_length.ensures c.in_ok-check_bits.ensures).few,
)

pub returns : goal.returns
returns c =
    let ready = made_ready _ _ c.in_ok-check_carrying.ensures c.message_length.ensures in
    let done = stream_done _ _ _ _ _ c.in_ok-check_carrying.ensures ready c.in_ok-check_bits.ensures c.stream_length.ensures c.write_words.ensures in
    record { value = done.0; out_after = done.1 }
