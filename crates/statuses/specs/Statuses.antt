-- The exit status of the bench program: 0 done, 1 refused, 2 a wrong command line or trouble with a file.
use Rattle.std.specs.Prelude.{Bool, cond, ℕ}
use Rattle.replies.specs.declared.Reply.{Reply}
use Rattle.replies.specs.Replies.{is_done}
use Rattle.statuses.specs.declared.Status.{Status}
use Rattle.statuses.specs.declared.Status.TheVariants.{Done, Refused, Trouble}

-- The status that a reply means.
abbrev pub status_of : Reply → ℕ
status_of reply = cond (is_done reply) 0 1

-- The status of a call of which all was told, or not all could be.
abbrev pub status_told : ℕ → Bool → ℕ
status_told status whole = cond whole status 2

-- The number of a status.
abbrev pub code_of : Status → ℕ
code_of Done = 0
code_of Refused = 1
code_of Trouble = 2
