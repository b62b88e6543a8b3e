-- What the call answers, as C takes it: the reply and the index of each case.
use Rattle.std.specs.Prelude.{Result, Ok, Err}
use Rattle.limbs.specs.Limbs.{limbs_of}
use Rattle.numbers.specs.declared.Index.{Index}
use Rattle.replies.specs.declared.Refusal.{Refusal}
use Rattle.replies.specs.Answers.{refusal_reply}
use Rattle.replies.specs.Replies.{done}
use Rattle.index_of_word.specs.declared.Indexed.{Indexed}

-- The index; where the word is refused, 0.
abbrev pub indexed_of : Result Index Refusal → Indexed
indexed_of (Ok index) = record { reply = done; index = index }
indexed_of (Err r) = record { reply = refusal_reply r; index = record { 0 = limbs_of 10 0 } }
