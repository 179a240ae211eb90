-- From a double cycle in sync on in which none follows a whole run keeps up.
use Rattle.std.proofs.Common.{◌≡◌, ℕ, suc, ◌+◌, ◌*◌, Some, [], ap, sym, ◌∙◌, subst, arith}
use Rattle.fr_base.specs.Within.{IsWithin}
use Rattle.fr_cluster.specs.Sane.{IsSane}
use Rattle.fr_bound.specs.Sync.{IsInSync}
use Rattle.fr_cluster.specs.Setting.{Setting}
use Rattle.fr_history.specs.Cycles.{Cycle, Cycles, cycle_at}
use Rattle.fr_history.specs.Standing.{row_nodes}
use Rattle.fr_history.specs.Unfollowed.{IsUnfollowedSyncAt}
use Rattle.fr_runs.proofs.Rows.{each_row}
use Rattle.fr_runs.specs.Rounds.{AllClocksRun, IsDoubleOf, IsUnfollowedSync, RatesBegin, UnfollowedRunsKeepUp}
use Rattle.fr_runs.proofs.Parts.{even_is, odd_is}
use Rattle.fr_runs.proofs.Rates.{rates_stay_within}
use Rattle.fr_runs.proofs.Whole.{double_runs, runs_keep_up}

pub unfollowed_sync_is : (x : Setting) (h : Cycles) (double : ℕ) (earlier : Cycles) (even odd : Cycle) → IsSane x.params → RatesBegin x → AllClocksRun x h
    → IsUnfollowedSyncAt x.params h double → IsDoubleOf h double earlier even odd → IsUnfollowedSync x earlier even odd
unfollowed_sync_is x h double earlier even odd sane first run unfollowed d =
    let sync = unfollowed.synced in
    let next : 2 * double + 1 ≡ suc (2 * double) = omega arith in
    let same_even : Some sync.even ≡ Some even = sym sync.has_even ∙ even_is h double earlier even odd d in
    let same_odd : Some sync.odd ≡ Some odd = sym sync.has_odd ∙ ap (cycle_at h) next ∙ odd_is h double earlier even odd d in
    let is_even : sync.even ≡ even = cc in
    let is_odd : sync.odd ≡ odd = cc in
    let runs = double_runs x h double earlier even odd d run in
    let Even : Cycle → Type 0 = λ c. IsInSync x.params c.told.rows sync.odd.told.rows in
    let Odd : Cycle → Type 0 = λ c. IsInSync x.params even.told.rows c.told.rows in
    let None_in : Cycle → Type 0 = λ c. c.followers ≡ [] in
    record {
      in_sync = subst Odd is_odd (subst Even is_even sync.in_sync);
      none = subst None_in is_even unfollowed.none_early;
      rates =
          λ node among.
          each_row (row_nodes x earlier) even.told.rows (λ row. IsWithin x.params.rate_limit row.rate) node runs.1.0.rows.nodes among
          (rates_stay_within x earlier even sane first runs.1).0;
    }

pub unfollowed_runs_keep_up : UnfollowedRunsKeepUp
unfollowed_runs_keep_up x h double run first fed unfollowed k earlier even odd from within d =
    runs_keep_up x h double run fed (λ before e o part. unfollowed_sync_is x h double before e o run.covered.sane first run.run unfollowed part) k earlier even odd from within d
