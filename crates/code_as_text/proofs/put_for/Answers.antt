-- `code_as_text::put_for` meets its contract: enough bytes were asked for, so that what is put for those that were there is printed for every input
-- that starts with them.
use mathlib.Core.Path.{◌≡◌}
use mathlib.Core.List.{List}
use Prim.Native.Nat.{ℕ}
use native.Mathlib.Omega.{arith}
use lib.ListN.{take}
use borrow.Author.Rules.{rules}
use Rattle.io.specs.Counts.{IsPrefixLen}
use Rattle.text.specs.Put.{Put}
use Rattle.text.specs.PutLaws.{length_put, front_length}
use Rattle.code_as_text.specs.InputLaws.{prints_for}
use Rattle.code_as_text.specs.FitLaws.{printed_fits}
use Rattle.code_as_text.proofs.put_for.Goals as goal

-- What is put stays once the bytes are lent no longer.
stays : {lent text after held : List ℕ} {next : ℕ} → Put lent 0 text after next → held ≡ after → Put lent 0 text held next
stays put e = rw e put

inside : {lent text after : List ℕ} {next : ℕ} → Put lent 0 text after next → IsPrefixLen next after
inside put =
    let fits = put.fits in
    let behind = put.behind in
    let same = length_put put in
    (omega arith, front_length put)

pub put_printed-requires : goal.put_printed-requires
put_printed-requires c = omega (arith, printed_fits (take c.args.n c.args.read.now))

pub returns : goal.returns
returns c =
    let put = c.put_printed.ensures.put in
    record { prefix_len = inside (stays put (search rules)); prints_for = prints_for _ _ _ c.requires.0 (stays put (search rules)) }
