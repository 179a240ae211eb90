-- What a report that holds the cycles of a world needs of the row of its next one, and holds after it.
use Rattle.std.proofs.Common.{◌≡◌, ℕ, ◌+◌, ◌<◌, Bool, ◌∷◌, refl, sym, ap, subst, ◌∙◌, add-one}
use Rattle.std.specs.Prelude.{All}
use Rattle.fr_base.specs.declared.cycle_row.CycleRow.{CycleRow}
use Rattle.fr_time.specs.Placed.{IsPlacedRow}
use Rattle.fr_time.specs.declared.grid.Grid.{Grid}
use Rattle.fr_cluster.specs.Setting.{Setting}
use Rattle.fr_history.specs.Next.{cycles_of, next_cycle}
use Rattle.fr_history.proofs.RunsExist.{length-cycles_of}
use Rattle.fr_history.proofs.FollowedSync.{gathered_counted}
use Rattle.fr_world.specs.World.{IsLastRowOf, IsRowOf, WorldView, followed_last, setting_after}
use Rattle.fr_lines.specs.Held.{IsRowToAdd, ReportHolds, ReportView, TellsOf}

pub row_is_next : (x : Setting) (report : ReportView) (n : ℕ) (row : CycleRow) → n < 200_000 → IsRowOf x n row → ReportHolds x.params report (cycles_of x n) → IsRowToAdd report row
row_is_next x report n row in_run is held =
    let P : Grid → Type 0 = λ grid. All (IsPlacedRow grid) row.rows in
    record {
      next = is.numbered ∙ sym (gathered_counted x.params report.gauge (cycles_of x n) held.gauge ∙ length-cycles_of x n);
      in_run = rw is.numbered in_run;
      placed = subst P (sym held.gauge.grid) is.placed;
      few = is.few;
    }

cycles_of-more : (x : Setting) (n : ℕ) → next_cycle x (cycles_of x n) ∷ cycles_of x n ≡ cycles_of x (n + 1)
unfolding cycles_of
cycles_of-more x n = sym (ap (cycles_of x) (add-one n))

-- the row of a world that has run one cycle more is that of that cycle
pub last_row : (w v : WorldView) (row : CycleRow) → v ≡ record w { cycles = w.cycles + 1 } → IsLastRowOf v row → IsRowOf (setting_after w) w.cycles row
last_row w v row ran last = let P : WorldView → Type 0 = λ u. IsLastRowOf u row in subst P ran last w.cycles refl

-- the row of a cycle and whether a node follows in it tell of the next cycle
pub next_told : (x : Setting) (n : ℕ) (row : CycleRow) (following : Bool) → IsRowOf x n row → following ≡ followed_last (cycles_of x (n + 1)) → TellsOf row following (next_cycle x (cycles_of x n))
next_told x n row following is followed = record { told = sym is.told; follows = followed ∙ sym (ap followed_last (cycles_of-more x n)) }

pub row-held : (x : Setting) (report : ReportView) (n : ℕ) → ReportHolds x.params report (next_cycle x (cycles_of x n) ∷ cycles_of x n) → ReportHolds x.params report (cycles_of x (n + 1))
row-held x report n held = subst (ReportHolds x.params report) (cycles_of-more x n) held
