-- The double cycles of a run, or of its cycles up to one of them: their rows, and those of the next one.
use Rattle.std.proofs.Common.{ℕ, suc, ℤ, pos, ◌∷◌, subst}
use Rattle.fr_base.specs.Within.{IsWithin}
use Rattle.fr_cluster.specs.Setting.{Setting, correct_nodes}
use Rattle.fr_cluster.specs.declared.nodes.NodeSpec.{NodeSpec}
use Rattle.fr_bound.specs.Bounds.{lambda_of, longest_micro, pi_of}
use Rattle.fr_bound.specs.Sync.{IsInSync}
use Rattle.fr_precision.proofs.StepLaws.{sync_is_spread}
use Rattle.fr_history.specs.Cycles.{Cycle, Cycles}
use Rattle.fr_history.specs.Lawful.{IsLawful}
use Rattle.fr_history.specs.Standing.{has_row, row_nodes}
use Rattle.fr_history.proofs.Standing.{rows_stay as row_stays}
use Rattle.fr_cluster.proofs.Elements.{filtered, kept_filtered}
use Rattle.fr_runs.proofs.Rows.{each_row}
use Rattle.fr_runs.specs.Gathered.{reach_in}
use Rattle.fr_runs.specs.Apart.{AreRowsSpread, IsLawfulPart}
use Rattle.fr_runs.specs.Rounds.{IsDoubleOf}
use Rattle.fr_runs.proofs.Courses.{run_two}
use Rattle.fr_runs.proofs.Lawful.{lawful_cycles_run}
use Rattle.fr_runs.proofs.Rates.{rates_stay_within}
use Rattle.fr_runs.proofs.Reach.{rows_fit, takes_precision}
use Rattle.fr_runs.proofs.Succeeding.{followers_stay, rows_stay}
use Rattle.fr_runs.proofs.Whole.{double_runs}
use Rattle.fr_runs.specs.Supplied.{IsCovered}
use Rattle.fr_runs.proofs.Fed.{lawful_part}
use Rattle.fr_runs.proofs.RowsDrawn.{NextRows}
use Rattle.fr_runs.proofs.RowsHeard.{SpreadRows}
use Rattle.fr_runs.proofs.RowsSupplied.{double_within}

-- in sync is the case of pi and lambda, and of the reach of the run
pub synced_are_spread : (x : Setting) (even odd : Cycle) → IsCovered x → IsInSync x.params even.told.rows odd.told.rows
    → AreRowsSpread x even odd (pos (pi_of x.params)) (pos (lambda_of x.params)) (pos (reach_in x))
synced_are_spread x even odd covered sync = record {
  active_even = sync.active_even;
  active_odd = sync.active_odd;
  limit = covered.clocks.limit;
  room = covered.room;
  fits = rows_fit (pi_of x.params) (lambda_of x.params) (longest_micro x.params) (pos (reach_in x)) (takes_precision x);
  spread = sync_is_spread x.params even.told.rows odd.told.rows sync;
}

module _ (x : Setting) (h : Cycles) (w : IsLawfulPart x h) where
  pub spread_rows : (double : ℕ) (earlier : Cycles) (even odd : Cycle) (starts lengths reach : ℤ) → IsDoubleOf h double earlier even odd → AreRowsSpread x even odd starts lengths reach
      → SpreadRows x earlier even odd double starts lengths reach
  spread_rows double earlier even odd starts lengths reach d apart =
      let lawful = lawful_part x d.later (odd ∷ even ∷ earlier) (subst (IsLawful x) d.parted w.lawful) in
      let runs = double_runs x h double earlier even odd d (lawful_cycles_run x h w.lawful) in
      record {
        covered = w.covered;
        counted = d.counted;
        within = double_within h double x.doubles earlier even odd d w.within;
        even_obeys = lawful.1.0;
        odd_obeys = lawful.0;
        even_runs = runs.1.0;
        odd_runs = runs.0;
        two = run_two x earlier even odd runs.1.0 runs.0 (rows_stay x earlier even double d.counted runs.1.0) (followers_stay x earlier even double d.counted runs.1.0);
        rates = λ node among.
            each_row (row_nodes x earlier) even.told.rows (λ row. IsWithin x.params.rate_limit row.rate) node runs.1.0.rows.nodes among
            (rates_stay_within x earlier even w.covered.clocks.sane w.rates runs.1).0;
        active_even = apart.active_even;
        active_odd = apart.active_odd;
        limit = apart.limit;
        room = apart.room;
        fits = apart.fits;
        spread = apart.spread;
      }

  -- the next one has the rows that it has
  pub next_rows : (double : ℕ) (earlier : Cycles) (even odd even2 odd2 : Cycle) → IsDoubleOf h (suc double) (odd ∷ even ∷ earlier) even2 odd2 → NextRows x earlier even odd even2 odd2 double
  next_rows double earlier even odd even2 odd2 d =
      let after = odd ∷ even ∷ earlier in
      let lawful = lawful_part x d.later (odd2 ∷ even2 ∷ after) (subst (IsLawful x) d.parted w.lawful) in
      let runs = double_runs x h (suc double) after even2 odd2 d (lawful_cycles_run x h w.lawful) in
      record {
        more = double_within h (suc double) x.doubles after even2 odd2 d w.within;
        two = run_two x after even2 odd2 runs.1.0 runs.0 (rows_stay x after even2 (suc double) d.counted runs.1.0) (followers_stay x after even2 (suc double) d.counted runs.1.0);
        stay = λ node among.
            let own = filtered (λ (n : NodeSpec). has_row x earlier n.id) (correct_nodes x) node among in
            kept_filtered (λ (n : NodeSpec). has_row x after n.id) (correct_nodes x) node own.0
            (row_stays x (even ∷ earlier) odd node lawful.1.1.0 own.0 (row_stays x earlier even node lawful.1.1.1.0 own.0 own.1));
      }
