-- Runs that reach nearly all of the sharper precision in their first double cycle, so the bounds are not to be had much smaller:
-- clocks that begin as far apart as sharp sync takes them, with even lengths as far apart too.
use Rattle.std.specs.Prelude.{◌≡◌, ◌≤◌, ◌*◌, ◌==◌, ℕ, ℤ, pos, Bool, true, false, ◌&&◌, if◌then◌else◌, None}
use Rattle.fr_base.specs.Event.Event.{Regular}
use Rattle.fr_cluster.specs.Setting.{Setting}
use Rattle.fr_history.specs.Cycles.{told_of}
use Rattle.fr_history.specs.Skew.{skew_at}
use Rattle.fr_runs.specs.Stated.{all_cycles}
use Rattle.fr_bound.specs.SharpBounds.{sharp_near, sharp_precision}
use Rattle.fr_bound.specs.SharpChecks.{sharp_holds_of}
use Rattle.fr_runs.specs.SharpHistories.{IsInSharpSyncAt, IsSteadyRun}
use Rattle.fr_sharp.specs.WorkedRun.{steady_cluster, OfBytes, Said}

-- a run whose delays do not flutter, that all five checks hold for and that is in sharp sync in its first double cycle, in whose
-- second cycle a macrotick has this skew, in ticks; and that is no less than so many hundredths of the sharper precision
pub record ReachesSharply (beside : Bool) (x : Setting) (macrotick skew hundredths : ℕ) : Type 0 where
  pub run : IsSteadyRun beside x 0 (all_cycles x)
  pub checks : (k : ℕ) → 1 ≤ k → k ≤ 5 → sharp_holds_of k 0 (sharp_near beside x.params 0) x.params ≡ true
  pub in_sync : IsInSharpSyncAt beside x.params 0 (pos 0) (all_cycles x) 0
  pub reached : skew_at x.params (told_of (all_cycles x)) 1 macrotick ≡ pos skew
  pub nearly : hundredths * sharp_precision beside x.params 0 ≤ 100 * skew

-- of node 1 beside arbitrary nodes or not, and of the others: the start, the rate term, and the length of a microtick
abbrev pub far_start : Bool → Bool → ℤ
far_start beside true = pos 0
far_start false false = pos 20_002_398
far_start true false = pos 69_007_688

abbrev pub far_rate : Bool → ℤ
far_rate true = pos 17
far_rate false = pos 16

abbrev pub far_micro : Bool → Bool → ℤ
far_micro false true = pos 999_960
far_micro false false = pos 1_000_000
far_micro true true = pos 999_900
far_micro true false = pos 999_975

-- one double cycle of the steady cluster, without an arbitrary node and beside node 4 as one, with the nominal delay of each
-- frame: node 1 begins first and is fast, and the others begin last and are slow
abbrev pub reaching_run : Said → Bool → Setting
reaching_run said beside = record {
  params = steady_cluster;
  doubles = 1;
  start = λ id. far_start beside (id == 1);
  rate = λ id. far_rate (id == 1);
  microtick = λ id cycle. far_micro beside (id == 1);
  delay = λ sender receiver channel cycle. pos 7_000_000;
  is_arbitrary = λ id. beside && (id == 4);
  event =
      λ cycle sender receiver channel.
      if beside && (sender == 4) then said cycle sender receiver channel else Regular;
  join = λ _. None;
}

-- at the macrotick at which the offset correction starts it reaches 96 hundredths alone, and 98 beside node 4, whatever that
-- says
abbrev pub ReachesAlone : Type 0
ReachesAlone = (said : Said) → OfBytes said → ReachesSharply false (reaching_run said false) 3536 34_783_678 96

abbrev pub ReachesBeside : Type 0
ReachesBeside = (said : Said) → OfBytes said → ReachesSharply true (reaching_run said true) 3536 97_597_613 98
