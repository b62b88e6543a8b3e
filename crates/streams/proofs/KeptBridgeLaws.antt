-- Laws that stood in specs/BridgeLaws, which no proof rests on now.
use Rattle.std.specs.Prelude.{◌≡◌, refl, List, ◌++◌, ℕ, ◌+◌, ◌-◌, ◌<◌, length, take, drop, get_or, set, replicate}
use Rattle.std.proofs.Common.{append_assoc, add-one, arith, take_all}
use Rattle.std.proofs.lemmas.List.{length-replicate}
use Rattle.std.proofs.Math.ListN.{get_or-replicate}
use Rattle.std.proofs.Math.Seq.{paste, paste-suc}
use Rattle.replies.specs.declared.Profile.{Profile}
use Rattle.patterns.specs.Stream.{bridge}
use Rattle.profiles.specs.Profiles.{patterns_of}
use Rattle.streams.specs.BridgeLaws.{bridge_level, level_at}

-- A bridge is x cells of its level.
bridge_levels : (p : Profile) (before after : ℕ) → bridge (patterns_of p) before after ≡ replicate p.x (bridge_level p before after)
unfolding bridge
bridge_levels p before after = refl

-- One cell more of a bridge written from a place on, ..
pub bridge_more : (before : List ℕ) (at x level i : ℕ) {out : List ℕ} → out ≡ paste before at (replicate x level) i → i < x → at + x < length before
    → set out (at + i) level ≡ paste before at (replicate x level) (i + 1)
bridge_more before at x level i o inside room =
    rw (o, add-one)
    (rw (get_or-replicate x i level 0 inside) at (paste-suc before at (replicate x level) i 0 (omega arith) (rw length-replicate inside)))

-- .. and all of it.
pub bridge_written : (p : Profile) (before : List ℕ) (at : ℕ) {level i : ℕ} {out : List ℕ}
    → level ≡ level_at p before at → i ≡ p.x → out ≡ paste before at (replicate p.x level) i
    → out ≡ take at before ++ (bridge (patterns_of p) (get_or before (at - 1) 0) (get_or before (at + p.x) 0) ++ drop (at + p.x) before)
bridge_written p before at {level} e all o =
    let whole = take_all p.x (replicate p.x level) (omega (arith, length-replicate p.x level)) in
    rw (o, all, whole, append_assoc, e, bridge_levels p)
