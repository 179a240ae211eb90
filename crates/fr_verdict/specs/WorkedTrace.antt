-- A worked trace of two nodes: it is steady and in sharp sync from its start on, under the sharper checks with both errors of an
-- arrival for the flutter, so its clocks keep within the sharper precision, less than a fifth of the older one.
use Rattle.std.specs.Prelude.{◌≡◌, pos, true, false}
use Rattle.fr_bound.specs.Bounds.{precision_of}
use Rattle.fr_verdict.specs.Worked.{cluster, worked}
use Rattle.fr_bound.specs.SharpBounds.{sharp_near, sharp_precision}
use Rattle.fr_bound.specs.SharpChecks.{sharp_holds_of}
use Rattle.fr_verdict.specs.SharpTraces.{recorded_flutter, IsRecordedInSharpSync, IsSteadyTrace, KeepsSharpClocks, TracedChecksHold}

-- it meets the premises of the laws of recorded traces
pub record WorkedTraceMeetsPremises : Type 0 where
  pub steady : IsSteadyTrace false cluster worked 0
  pub first : sharp_holds_of 1 (recorded_flutter cluster) (sharp_near false cluster (recorded_flutter cluster)) cluster ≡ true
  pub checks : TracedChecksHold false cluster
  pub synced : IsRecordedInSharpSync false cluster (pos 0) worked.history 0

-- and keeps the sharper precision, with these numbers
pub record WorkedTraceKeepsPrecision : Type 0 where
  pub keeps : KeepsSharpClocks false cluster worked 0
  pub flutter : recorded_flutter cluster ≡ 1_000_000
  pub sharper : sharp_precision false cluster (recorded_flutter cluster) ≡ 45_007_594
  pub older : precision_of cluster ≡ 252_043_600
