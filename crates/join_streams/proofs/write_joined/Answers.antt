-- `join_streams::write_joined` meets its contract: both streams are copied a bridge apart, and the bridge is written by the cells beside it.
use Rattle.profiles.specs.Profiles.{patterns_of}
use Rattle.join_streams.specs.JoinedLaws.{without_bridge, with_bridge}
use Rattle.join_streams.proofs.write_joined.Goals as goal

pub returns-then-at-behind : goal.returns-then-at-behind
returns-then-at-behind c =
    let a = c.args in
    let same = c.joined_length-count.ensures.value in
    let bridge = with_bridge (patterns_of a.p) a.first.now a.second.now a.out.now same c.copy.ensures c.copy-2.ensures
    c.if-at-behind.true c.requires.1 c.write_bridge.ensures in
    record { value = same; out_after = bridge }

pub returns-else-at-behind : goal.returns-else-at-behind
returns-else-at-behind c =
    let a = c.args in
    let same = c.joined_length-count.ensures.value in
    let joined = without_bridge (patterns_of a.p) a.first.now a.second.now a.out.now same c.copy.ensures c.copy-2.ensures
    c.requires.0.reach.least c.if-at-behind.false in
    record { value = same; out_after = joined }
