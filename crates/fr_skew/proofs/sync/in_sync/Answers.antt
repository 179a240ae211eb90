use Rattle.std.proofs.Common.{◌≡◌}
use Rattle.fr_skew.proofs.Closeness.{in_sync_is}
use Rattle.fr_skew.specs.Sync.{sync_bounds_of}
use Rattle.fr_skew.proofs.sync.in_sync.Goals as goal

pub returns : goal.returns
returns c =
    let bounds : c.sync_bounds.result ≡ sync_bounds_of c.args.params.now = c.sync_bounds.ensures.value in
    let even : c.as_slice.result.now ≡ c.args.even.now = c.as_slice.ensures.rows in
    let odd : c.as_slice-2.result.now ≡ c.args.odd.now = c.as_slice-2.ensures.rows in
    rw (c.in_sync_within.ensures, bounds, even, odd) (in_sync_is c.args.params.now c.args.even.now c.args.odd.now)
