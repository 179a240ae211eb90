-- A run of three perfect clocks that all halt: each frame takes the least delay in even cycles and the greatest in odd ones,
-- the first of the sharper checks fails, and the common rate walks to its limit.
use Rattle.std.specs.Prelude.{◌≡◌, ◌%◌, ◌*◌, ◌==◌, ℕ, zero, suc, pos, ℤ, Bool, false, List, [], ◌∷◌, map, replicate, All, Some, None}
use Rattle.fr_base.specs.Event.Event.{Regular}
use Rattle.fr_base.specs.declared.state.State.TheVariants.{Halt}
use Rattle.fr_cluster.specs.Setting.{Setting, correct_nodes}
use Rattle.fr_cluster.specs.Values.{Values}
use Rattle.fr_history.specs.Cycles.{Cycles, told_of}
use Rattle.fr_history.specs.Terms.{status_in}
use Rattle.fr_history.specs.Worked.{on_a}
use Rattle.fr_runs.specs.Stated.{all_cycles}
use Rattle.fr_bound.specs.SharpBounds.{sharp_near, sharp_precision, walk_lasts}
use Rattle.fr_bound.specs.SharpChecks.{sharp_holds_of, SharpChecksHold}
use Rattle.fr_runs.specs.SharpHistories.{CyclesKeepApart, IsInSharpSyncAt, IsSteadyRun}
use Rattle.fr_sharp.specs.WorkedRun.{delay_in_turn, steady_cluster}

-- the steady cluster with three nodes, without payload, and with a rate limit of 81
abbrev pub halting_cluster : Values
halting_cluster =
    let steady : Values = steady_cluster in
    record steady { words = pos 0; rate_limit = pos 81; nodes = on_a 1 ∷ on_a 2 ∷ on_a 3 ∷ [] }

-- eleven double cycles of it, with nominal microticks
abbrev pub halting_run : Setting
halting_run = record {
  params = halting_cluster;
  doubles = 11;
  start = λ id. pos 0;
  rate = λ id. pos 0;
  microtick = λ id cycle. pos 1_000_000;
  delay = λ sender receiver channel cycle. delay_in_turn (cycle % 2 == 0);
  is_arbitrary = λ id. false;
  event = λ cycle sender receiver channel. Regular;
  join = λ _. None;
}

-- its delays flutter by 10,000,000 ticks: the other checks hold, the walk is known to last for four double cycles, and it is in
-- sharp sync in the first one
abbrev pub HaltingRunBegins : Type 0
HaltingRunBegins =
    (sharp_holds_of 1 10_000_000 (sharp_near false halting_cluster 10_000_000) halting_cluster ≡ false)
    × SharpChecksHold 10_000_000 (sharp_near false halting_cluster 10_000_000) halting_cluster
    × (walk_lasts halting_cluster 10_000_000 ≡ Some 4) × IsSteadyRun false halting_run 10_000_000 (all_cycles halting_run)
    × IsInSharpSyncAt false halting_cluster 10_000_000 (pos 0) (all_cycles halting_run) 0

-- of the rows of each cycle, the latest first: the rates, in microticks, and how many terms were cut
abbrev pub rates_and_cuts : Cycles → List (List (ℤ × ℕ))
rates_and_cuts h = map (λ c. map (λ row. (row.rate, row.cut)) c.told.rows) h

-- those of three nodes whose rates are 8 microticks greater in each double cycle, with no term cut
unfoldable pub walked : ℕ → List (List (ℤ × ℕ))
walked zero = []
walked (suc double) = replicate 3 (pos (8 * double), 0) ∷ replicate 3 (pos (8 * double), 0) ∷ walked double

-- so the rates walk to 80, and each node's next one would be 88: it is cut behind the last double cycle, and all halt
abbrev pub HaltingRunWalks : Type 0
HaltingRunWalks =
    (rates_and_cuts (all_cycles halting_run) ≡ replicate 3 (pos 80, 1) ∷ replicate 3 (pos 80, 0) ∷ walked 10)
    × All (λ node. (status_in halting_cluster (told_of (all_cycles halting_run)) node.id).state ≡ Halt) (correct_nodes halting_run)

-- what is promised of the cycles of histories under all five sharper checks, without the first of these
abbrev pub CyclesKeepApartUnchecked : Type 0
CyclesKeepApartUnchecked =
    (beside : Bool) (x : Setting) (flutter : ℕ) (h : Cycles) (double : ℕ)
    → IsSteadyRun beside x flutter h → SharpChecksHold flutter (sharp_near beside x.params flutter) x.params
    → IsInSharpSyncAt beside x.params flutter (pos 0) h double
    → CyclesKeepApart x h double (sharp_precision beside x.params flutter)
