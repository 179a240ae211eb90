-- A run of three perfect clocks with a great rate limit: their common rate walks to it, for 76 double cycles.
use Rattle.std.specs.Prelude.{◌≡◌, ◌<◌, ◌*◌, ℕ, pos, false, All, Contains, Some}
use Rattle.fr_base.specs.declared.state.Outcome.TheVariants.{Exceeded}
use Rattle.fr_base.specs.declared.state.State.TheVariants.{Active, Halt}
use Rattle.fr_cluster.specs.Setting.{Setting, correct_nodes}
use Rattle.fr_cluster.specs.Values.{Values}
use Rattle.fr_cluster.specs.declared.nodes.NodeSpec.{NodeSpec}
use Rattle.fr_history.specs.Cycles.{Cycle, Cycles, told_of}
use Rattle.fr_history.specs.Terms.{status_in}
use Rattle.fr_runs.specs.Numbers.{rate_term_told}
use Rattle.fr_runs.specs.Rounds.{IsDoubleOf}
use Rattle.fr_runs.specs.Stated.{all_cycles}
use Rattle.fr_worked.specs.HaltingRun.{halting_cluster, halting_run}
use Rattle.fr_bound.specs.SharpBounds.{sharp_near, walk_lasts}
use Rattle.fr_bound.specs.SharpChecks.{sharp_holds_of, SharpChecksHold}
use Rattle.fr_runs.specs.SharpHistories.{IsInSharpSyncAt, IsSteadyRun}

-- the cluster and the run of the clocks that halt, but with a rate limit of 601, and longer
abbrev pub long_cluster : Values
long_cluster = let halting : Values = halting_cluster in record halting { rate_limit = pos 601 }

abbrev pub long_run : Setting
long_run = let halting : Setting = halting_run in record halting { params = long_cluster; doubles = 76 }

-- the first of the sharper checks fails, the others hold, the walk is known to last for 62 double cycles, and it is in sharp
-- sync in the first one
abbrev pub LongRunBegins : Type 0
LongRunBegins =
    (sharp_holds_of 1 10_000_000 (sharp_near false long_cluster 10_000_000) long_cluster ≡ false)
    × SharpChecksHold 10_000_000 (sharp_near false long_cluster 10_000_000) long_cluster
    × (walk_lasts long_cluster 10_000_000 ≡ Some 62) × IsSteadyRun false long_run 10_000_000 (all_cycles long_run)
    × IsInSharpSyncAt false long_cluster 10_000_000 (pos 0) (all_cycles long_run) 0

-- in each double cycle all are active, with rates 8 microticks greater than in the one before
abbrev pub LongRunWalks : Type 0
LongRunWalks =
    (double : ℕ) (earlier : Cycles) (even odd : Cycle)
    → double < 76 → IsDoubleOf (all_cycles long_run) double earlier even odd
    → All (λ row. row.rate ≡ pos (8 * double)) even.told.rows × All (λ row. row.state ≡ Active) even.told.rows
    × All (λ row. row.state ≡ Active) odd.told.rows

-- and behind the last one the rate term of each is cut, and each is halted
abbrev pub LongRunIsCut : Type 0
LongRunIsCut =
    (earlier : Cycles) (even odd : Cycle) (node : NodeSpec)
    → IsDoubleOf (all_cycles long_run) 75 earlier even odd → Contains (correct_nodes long_run) node
    → (rate_term_told long_run even odd node).outcome ≡ Exceeded

abbrev pub LongRunHalts : Type 0
LongRunHalts =
    (node : NodeSpec) → Contains (correct_nodes long_run) node
    → (status_in long_cluster (told_of (all_cycles long_run)) node.id).state ≡ Halt
