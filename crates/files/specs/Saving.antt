-- What stands against writing a file.
use Rattle.std.specs.Prelude.{Bool, cond, not, ◌||◌, ℕ, Option, Some, None}
use Rattle.file_facts.specs.declared.Facts.{Facts}
use Rattle.file_facts.specs.Facts.{same_file, is_regular}
use Rattle.files.specs.declared.Inputs.{Inputs}
use Rattle.files.specs.declared.saving.Hindrance.{Hindrance}
use Rattle.files.specs.declared.saving.Hindrance.TheVariants.{ReadToo, NotRegular, Taken}

-- A file is one of those that are read.
abbrev pub is_input : Option Facts → Inputs → Bool
is_input file inputs = (same_file file inputs.first || same_file file inputs.second) || same_file file inputs.table

-- 0: nothing; 1: it is one of those that are read; 2: it is there and no regular file; 3: it is there, and is not to be written over.
abbrev pub hindrance : Option Facts → Inputs → Bool → ℕ
hindrance None inputs over = 0
hindrance (Some found) inputs over =
    cond (is_input (Some found) inputs) 1 (cond (not (is_regular (Some found))) 2 (cond over 0 3))

-- The number of what stands against it.
abbrev pub number_of : Option Hindrance → ℕ
number_of None = 0
number_of (Some ReadToo) = 1
number_of (Some NotRegular) = 2
number_of (Some Taken) = 3
