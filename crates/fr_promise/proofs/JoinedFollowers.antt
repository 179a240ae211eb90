-- A run that nodes join: no follower is left behind, where no term of it is cut.
use Rattle.std.proofs.Common.{pos}
use Rattle.fr_runs.proofs.Joined.{uncut_followers_join}
use Rattle.fr_bound.specs.SharpBounds.{sharp_precision}
use Rattle.fr_promise.specs.SharpJoined.{JoinedFollowersJoin, SteadyFollowersJoin}
use Rattle.fr_promise.specs.SharpJoining.{sharp_group_spread, sharp_reach}
use Rattle.fr_promise.proofs.JoinedDoubles.{joined_doubles_are_kept, joined_part}
use Rattle.fr_runs.proofs.RowsSupplied.{timed_rows_from}

pub steady_followers_join : SteadyFollowersJoin
steady_followers_join x from flutter h double earlier even odd to apart reach beyond next part late d kept =
    let rows = timed_rows_from x from flutter h part double late earlier even odd d in
    uncut_followers_join x earlier even odd double (
    record {
      counted = rows.counted;
      even_runs = rows.even_runs;
      odd_runs = rows.odd_runs;
      offset = kept.uncut;
      rate = λ node here. (kept.range node here).uncut;
    }
    )

pub joined_followers_join : JoinedFollowersJoin
joined_followers_join beside x from flutter h double earlier even odd beyond walk next w late d n g =
    steady_followers_join x from flutter h double earlier even odd (sharp_group_spread beside x.params flutter) (sharp_precision beside x.params flutter) (pos (sharp_reach beside x.params flutter)) beyond next
    (joined_part beside x from flutter h w) late d (joined_doubles_are_kept beside x from flutter h double earlier even odd beyond walk next w late d n g)
