-- What stands in a command line.
use Rattle.std.specs.Prelude.{Bool, List, ℕ, codes, is_some}
use Rattle.command_line.specs.declared.wrong.Flag.{Flag}
use Rattle.command_line.specs.declared.wrong.Flag.TheVariants.{Over, Table, Bits, Json}
use Rattle.command_line.specs.declared.Line.{Line}
use Rattle.command_line.specs.declared.Command.{Command}
use Rattle.command_line.specs.declared.Command.TheVariants as C

-- An option stands in a line.
abbrev pub has : Line → Flag → Bool
has line Over = line.over
has line Table = is_some line.table
has line Bits = is_some line.bits
has line Json = line.json

-- How an option is spelt.
abbrev pub spelt : Flag → List ℕ
spelt Over = codes "-f"
spelt Table = codes "-t"
spelt Bits = codes "-n"
spelt Json = codes "--json"

-- The name of each subcommand.
abbrev pub name_of : Command → List ℕ
name_of C.Read = codes "read"
name_of C.Check = codes "check"
name_of C.Write = codes "write"
name_of C.Find = codes "find"
name_of C.Join = codes "join"
name_of C.Turn = codes "turn"
name_of C.Index = codes "index"
name_of C.Word = codes "word"
name_of C.Table = codes "table"
name_of C.Rate = codes "rate"
name_of C.Profiles = codes "profiles"
name_of C.List = codes "list"
name_of C.Help = codes "help"
