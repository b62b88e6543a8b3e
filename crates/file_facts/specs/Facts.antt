-- What is known of a file, and what that tells: whether two are one, whether one is regular, and which bits of its
-- mode are kept.
use Rattle.std.specs.Prelude.{Bool, false, ◌&&◌, ℕ, ◌/◌, ◌%◌, eqb, Option, Some, None, Result, Ok, Err}
use Rattle.std.specs.declared.io.Error.{Error}
use Rattle.file_facts.specs.declared.Facts.{Facts}
use Rattle.file_facts.specs.declared.Stat.{Stat}

-- No file is found.
abbrev pub nothing_known : Option Facts
nothing_known = None

-- What a struct that the system filled says of its file.
abbrev pub filled_with : Stat → Facts
filled_with s = record {
  device = s.st_dev;
  number = s.st_ino;
  mode = s.st_mode;
  owner = s.st_uid;
  group = s.st_gid;
}

-- What is known after the system's answer: nothing where it is an error.
abbrev pub known_by : Result Stat Error → Option Facts
known_by (Ok s) = Some (filled_with s)
known_by (Err e) = nothing_known

-- What is known after an answer about a file: nothing where it is an error.
abbrev pub facts_in : Result Facts Error → Option Facts
facts_in (Ok facts) = Some facts
facts_in (Err e) = nothing_known

-- Both are found, on one device under one number.
abbrev pub same_file : Option Facts → Option Facts → Bool
same_file (Some a) (Some b) = eqb a.device b.device && eqb a.number b.number
same_file (Some a) None = false
same_file None b = false

-- A file is found, and the four bits of its mode above the lowest twelve are 1000, which POSIX has for a regular file.
abbrev pub is_regular : Option Facts → Bool
is_regular (Some a) = eqb (a.mode / 4096 % 16) 8
is_regular None = false

-- The lowest twelve bits of the mode: who may do what with the file.
abbrev pub kept_mode : Facts → ℕ
kept_mode a = a.mode % 4096
