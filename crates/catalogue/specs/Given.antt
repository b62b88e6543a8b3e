-- What the calls answer, as C takes it: the reply and the values of each case.
use Rattle.std.specs.Prelude.{Result, Ok, Err}
use Rattle.replies.specs.declared.Refusal.{Refusal}
use Rattle.replies.specs.Answers.{refusal_reply}
use Rattle.replies.specs.Replies.{done}
use Rattle.catalogue.specs.declared.Published.{Published}
use Rattle.catalogue.specs.declared.Rate.{Rate}
use Rattle.catalogue.specs.declared.Rated.{Rated}
use Rattle.catalogue.specs.declared.Row.{Row}
use Rattle.catalogue.specs.Catalogue.{row}

-- A row of the list; where there is none, its numbers are 0.
abbrev pub published_of : Result Row Refusal → Published
published_of (Ok r) = row r.q r.x r.m r.s
published_of (Err r) = record { reply = refusal_reply r; q = 0; x = 0; m = 0; s = 0 }

-- Bits and cells; where the rate is refused, both are 0.
abbrev pub rated_of : Result Rate Refusal → Rated
rated_of (Ok rate) = record { reply = done; bits = rate.bits; cells = rate.cells }
rated_of (Err r) = record { reply = refusal_reply r; bits = 0; cells = 0 }
