-- A law of a text put to the front of a lent list.
use Rattle.std.specs.Prelude.{◌≡◌, List, ℕ, take}
use Rattle.std.proofs.Common.{arith}
use Rattle.io.specs.Counts.{IsPrefixLen}
use Rattle.text.specs.Put.{Put}
use Rattle.text.specs.PutLaws.{length_put, put_front, front_length}

-- As many bytes stand before the place behind a text at the front as it says, and they are the text.
pub front_counts : {lent text after : List ℕ} {next : ℕ} → Put lent 0 text after next → IsPrefixLen next after × (take next after ≡ text)
front_counts put =
    let fits = put.fits in
    let behind = put.behind in
    let same = length_put put in
    ((omega arith, front_length put), put_front put)
