-- The sharper bounds, checks and walk of worked clusters, computed: a cycle of 5 ms at a microtick of 25 ns, with the limits and
-- the slots that such clusters have, by damping, oscillators, their changes and delays.
use Rattle.std.proofs.Common.{◌≡◌, ℕ, pos, negsuc, Bool, true, false, Some, None, List, [], ◌∷◌, refl}
use Rattle.fr_cluster.specs.Values.{Values}
use Rattle.fr_cluster.specs.declared.nodes.NodeSpec.{NodeSpec}
use Rattle.fr_bound.specs.Bounds.{lambda_of, pi_of, precision_of}
use Rattle.fr_bound.specs.Checks.{holds_of}
use Rattle.fr_precision.proofs.Worked.{cluster, node}
use Rattle.fr_bound.specs.SharpBounds.{last_action, last_of, rate_walk, sharp_lambda, sharp_near, sharp_pi, sharp_precision, walk_lasts}
use Rattle.fr_bound.specs.SharpSpreads.{sharply_apart_in, sharply_near_in}
use Rattle.fr_precision.specs.SharpSettling.{sharp_spread_after}
use Rattle.fr_bound.specs.SharpChecks.{sharp_holds_of, sharp_left_of, sharp_right_of}

-- such a cluster with these nodes, damping, compensation of the delay, drift and change bounds, and delay error
abbrev pub set_of : List NodeSpec → ℕ → ℕ → ℕ → ℕ → ℕ → Values
set_of nodes damping compensation rate_bound change_bound delay_error = record {
  macros = pos 3636;
  micros = pos 200000;
  static_slots = pos 91;
  slot_macros = pos 24;
  action_offset = pos 4;
  idle_macros = pos 1452;
  words = pos 8;
  correction = pos 3536;
  max_passive = pos 2;
  max_fatal = pos 4;
  halt_allowed = pos 1;
  to_active = pos 2;
  damping = pos damping;
  offset_limit = pos 127;
  rate_limit = pos 601;
  compensation_a = pos compensation;
  compensation_b = pos compensation;
  rate_bound = pos rate_bound;
  change_bound = pos change_bound;
  delay_error = pos delay_error;
  nodes = nodes;
  slots = [];
}

abbrev eight : List NodeSpec
eight = node 1 ∷ node 2 ∷ node 3 ∷ node 4 ∷ node 5 ∷ node 6 ∷ node 7 ∷ node 8 ∷ []

abbrev pub set : ℕ → ℕ → ℕ → ℕ → ℕ → Values
set = set_of eight

-- lambda, pi, precision, and how far action points lie apart
abbrev Bounds : Bool → Values → ℕ → ℕ → ℕ → ℕ → ℕ → Type 0
Bounds beside p flutter lambda pi precision near =
    (sharp_lambda beside p flutter ≡ lambda) × (sharp_pi beside p flutter ≡ pi) × (sharp_precision beside p flutter ≡ precision)
    × (sharp_near beside p flutter ≡ near)

-- the last of eight key slots acts at macrotick 172
last_of_eight : last_action (set 2 7 100 0 5_000_000) ≡ 172
unfolding last_of
last_of_eight = refl

-- without flutter, first without arbitrary nodes and then beside them; the older precision is more than nine times the first, and
-- more than three times the second
no_damping : Bounds false (set 0 7 100 0 5_000_000) 0 3_000_298 16_001_998 24_002_794 20_144_324 × Bounds true (set 0 7 100 0 5_000_000) 0 6_000_596 45_005_288 59_006_680 52_289_840 × (rate_walk (set 0 7 100 0 5_000_000) 0 ≡ pos 1000099) × (precision_of (set 0 7 100 0 5_000_000) ≡ 430_056_600)
unfolding last_of
no_damping = ((refl, refl, refl, refl), (refl, refl, refl, refl), refl, refl)

damping_1 : Bounds false (set 1 7 100 0 5_000_000) 0 5_000_498 18_002_198 30_003_394 24_239_343 × Bounds true (set 1 7 100 0 5_000_000) 0 10_000_996 57_006_488 79_008_680 68_480_678 × (rate_walk (set 1 7 100 0 5_000_000) 0 ≡ negsuc 0) × (precision_of (set 1 7 100 0 5_000_000) ≡ 462_059_800)
unfolding last_of
damping_1 = ((refl, refl, refl, refl), (refl, refl, refl, refl), refl, refl)

damping_2 : Bounds false (set 2 7 100 0 5_000_000) 0 7_000_698 20_002_398 36_003_994 28_334_362 × Bounds true (set 2 7 100 0 5_000_000) 0 14_001_396 69_007_688 99_010_680 84_671_516 × (rate_walk (set 2 7 100 0 5_000_000) 0 ≡ negsuc 999900) × (precision_of (set 2 7 100 0 5_000_000) ≡ 494_063_000)
unfolding last_of
damping_2 = ((refl, refl, refl, refl), (refl, refl, refl, refl), refl, refl)

damping_4 : Bounds false (set 4 7 100 0 5_000_000) 0 11_001_098 24_002_798 48_005_194 36_524_399 × Bounds true (set 4 7 100 0 5_000_000) 0 22_002_196 93_010_088 139_014_680 117_053_191 × (rate_walk (set 4 7 100 0 5_000_000) 0 ≡ negsuc 2999700) × (precision_of (set 4 7 100 0 5_000_000) ≡ 558_069_400)
unfolding last_of
damping_4 = ((refl, refl, refl, refl), (refl, refl, refl, refl), refl, refl)

short_delays : Bounds false (set 1 4 300 0 2_000_000) 0 5_001_498 12_004_798 24_008_394 18_243_190 × Bounds true (set 1 4 300 0 2_000_000) 0 10_002_996 45_015_888 67_022_480 56_492_373 × (rate_walk (set 1 4 300 0 2_000_000) 0 ≡ negsuc 0) × (precision_of (set 1 4 300 0 2_000_000) ≡ 258_118_200)
unfolding last_of
short_delays = ((refl, refl, refl, refl), (refl, refl, refl, refl), refl, refl)

wide_drift : Bounds false (set 2 7 300 0 5_000_000) 0 7_002_098 20_007_198 36_011_994 28_340_828 × Bounds true (set 2 7 300 0 5_000_000) 0 14_004_196 69_023_088 99_032_080 84_690_048 × (rate_walk (set 2 7 300 0 5_000_000) 0 ≡ negsuc 999700) × (precision_of (set 2 7 300 0 5_000_000) ≡ 494_189_000)
unfolding last_of
wide_drift = ((refl, refl, refl, refl), (refl, refl, refl, refl), refl, refl)

changing : Bounds false (set 2 7 100 1 5_000_000) 0 7_803_358 21_206_260 39_214_378 30_397_832 × Bounds true (set 2 7 100 1 5_000_000) 0 15_606_716 74_626_052 108_240_886 91_990_118 × (rate_walk (set 2 7 100 1 5_000_000) 0 ≡ negsuc 598570) × (precision_of (set 2 7 100 1 5_000_000) ≡ 526_159_160)
unfolding last_of
changing = ((refl, refl, refl, refl), (refl, refl, refl, refl), refl, refl)

short_changing : Bounds false (set 2 4 300 1 2_000_000) 0 7_804_758 15_209_260 33_220_578 24_402_498 × Bounds true (set 2 4 300 1 2_000_000) 0 15_609_516 62_637_852 96_258_686 80_005_050 × (rate_walk (set 2 4 300 1 2_000_000) 0 ≡ negsuc 598370) × (precision_of (set 2 4 300 1 2_000_000) ≡ 322_223_960)
unfolding last_of
short_changing = ((refl, refl, refl, refl), (refl, refl, refl, refl), refl, refl)

-- ---- checks

-- three of the five older checks fail in each of these clusters
OlderFail : Values → Type 0
OlderFail p = (holds_of 1 p ≡ false) × (holds_of 3 p ≡ false) × (holds_of 4 p ≡ false)

older_fail : OlderFail (set 0 7 100 0 5_000_000) × OlderFail (set 1 7 100 0 5_000_000) × OlderFail (set 2 7 100 0 5_000_000) × OlderFail (set 4 7 100 0 5_000_000) × OlderFail (set 1 4 300 0 2_000_000) × OlderFail (set 2 7 300 0 5_000_000) × OlderFail (set 2 7 100 1 5_000_000) × OlderFail (set 2 4 300 1 2_000_000)
unfolding OlderFail
older_fail = ((refl, refl, refl), (refl, refl, refl), (refl, refl, refl), (refl, refl, refl), (refl, refl, refl), (refl, refl, refl), (refl, refl, refl), (refl, refl, refl))

-- in the reference cluster they hold, and so do these; the older precision is more than six times the first, and twice the second
reference : Bounds false cluster 0 11_002_198 15_002_798 39_007_594 27_086_612 × Bounds true cluster 0 22_004_396 75_014_588 121_023_780 98_182_016 × (precision_of cluster ≡ 252_043_600)
unfolding last_of
reference = ((refl, refl, refl, refl), (refl, refl, refl, refl), refl)

reference_holds : (holds_of 1 cluster ≡ true) × (holds_of 2 cluster ≡ true) × (holds_of 3 cluster ≡ true) × (holds_of 4 cluster ≡ true) × (holds_of 5 cluster ≡ true)
reference_holds = (refl, refl, refl, refl, refl)

abbrev Sides : ℕ → ℕ → ℕ → Values → ℕ → ℕ → Type 0
Sides number flutter reach p left right = (sharp_left_of number p ≡ left) × (sharp_right_of number flutter reach p ≡ right)

-- none of these: beside arbitrary nodes, whose reach is the wider one
sides : Sides 1 0 84671516 (set 2 7 100 0 5_000_000) 1999801 999900 × Sides 2 0 84671516 (set 2 7 100 0 5_000_000) 600939900 40000000 × Sides 3 0 84671516 (set 2 7 100 0 5_000_000) 126987300 90672316 × Sides 4 0 84671516 (set 2 7 100 0 5_000_000) 793880604000 326045632176 × Sides 5 0 84671516 (set 2 7 100 0 5_000_000) 3983945565600 351497632176
sides = ((refl, refl), (refl, refl), (refl, refl), (refl, refl), (refl, refl))

all_hold : (sharp_holds_of 1 0 84671516 (set 2 7 100 0 5_000_000) ≡ true) × (sharp_holds_of 2 0 84671516 (set 2 7 100 0 5_000_000) ≡ true) × (sharp_holds_of 3 0 84671516 (set 2 7 100 0 5_000_000) ≡ true) × (sharp_holds_of 4 0 84671516 (set 2 7 100 0 5_000_000) ≡ true) × (sharp_holds_of 5 0 84671516 (set 2 7 100 0 5_000_000) ≡ true)
all_hold = (refl, refl, refl, refl, refl)

-- damping 1 is just enough, and its walk is one tick back
just_enough : (sharp_holds_of 1 0 0 (set 1 7 100 0 5_000_000) ≡ true) × (sharp_left_of 1 (set 1 7 100 0 5_000_000) ≡ 999_901) × (sharp_right_of 1 0 0 (set 1 7 100 0 5_000_000) ≡ 999_900)
just_enough = (refl, refl, refl)

-- not where the flutter is two ticks or the oscillators change
flutters : (sharp_holds_of 1 2 0 (set 1 7 100 0 5_000_000) ≡ false) × (sharp_holds_of 1 0 0 (set 1 7 100 1 5_000_000) ≡ false)
flutters = (refl, refl)

-- ---- how long a walk lasts

-- without damping 560 double cycles, at the greatest flutter 62 with damping 2, and for ever with damping 2 and none
lasts : (walk_lasts (set 0 7 100 0 5_000_000) 0 ≡ Some 560) × (walk_lasts (set 2 7 100 0 5_000_000) 10_000_000 ≡ Some 62) × (walk_lasts (set 2 7 100 0 5_000_000) 0 ≡ None)
lasts = (refl, refl, refl)

-- ---- how soon clocks that begin apart are in sharp sync

-- starts within 2.4 us and lengths within 0.5 us: action points then lie within 117,946,194 ticks in the first double cycle, and
-- with this reach the checks hold
way_holds : (sharply_near_in (set 2 7 100 0 5_000_000) (sharp_spread_after false (set 2 7 100 0 5_000_000) 0 96_000_000 20_000_000 0) ≡ 117_946_194) × (sharply_near_in (set 2 7 100 0 5_000_000) (sharp_spread_after true (set 2 7 100 0 5_000_000) 0 96_000_000 20_000_000 0) ≡ 117_946_194) × Sides 3 0 117_946_194 (set 2 7 100 0 5_000_000) 126_987_300 123_946_994 × (sharp_holds_of 3 0 117_946_194 (set 2 7 100 0 5_000_000) ≡ true) × (sharp_holds_of 4 0 117_946_194 (set 2 7 100 0 5_000_000) ≡ true) × (sharp_holds_of 5 0 117_946_194 (set 2 7 100 0 5_000_000) ≡ true)
unfolding last_of sharp_spread_after
way_holds = (refl, refl, (refl, refl), refl, refl, refl)

-- without arbitrary nodes such clocks are in sharp sync after two double cycles
settles_alone : (sharp_spread_after false (set 2 7 100 0 5_000_000) 0 96_000_000 20_000_000 1 ≡ record { starts = 33_001_700; lengths = 7_000_698 }) × (sharp_spread_after false (set 2 7 100 0 5_000_000) 0 96_000_000 20_000_000 2 ≡ record { starts = 20_002_398; lengths = 7_000_698 }) × (sharply_apart_in (set 2 7 100 0 5_000_000) (sharp_spread_after false (set 2 7 100 0 5_000_000) 0 96_000_000 20_000_000 0) ≡ 138_000_200)
unfolding sharp_spread_after
settles_alone = (refl, refl, refl)

-- beside them after 29; macroticks lie furthest apart in the first
settles_beside : (sharp_spread_after true (set 2 7 100 0 5_000_000) 0 96_000_000 20_000_000 28 ≡ record { starts = 69_007_689; lengths = 14_001_396 }) × (sharp_spread_after true (set 2 7 100 0 5_000_000) 0 96_000_000 20_000_000 29 ≡ record { starts = 69_007_688; lengths = 14_001_396 }) × (sharply_apart_in (set 2 7 100 0 5_000_000) (sharp_spread_after true (set 2 7 100 0 5_000_000) 0 96_000_000 20_000_000 0) ≡ 138_000_200) × (sharply_apart_in (set 2 7 100 0 5_000_000) (sharp_spread_after true (set 2 7 100 0 5_000_000) 0 96_000_000 20_000_000 1) ≡ 127_503_346)
unfolding sharp_spread_after
settles_beside = (refl, refl, refl, refl)

-- from sync in the older sense, in the reference cluster, where the older checks hold: after 30, and on the way no further apart than
-- the older precision
from_older : (sharp_spread_after true cluster 0 (pi_of cluster) (lambda_of cluster) 29 ≡ record { starts = 75_014_589; lengths = 22_004_396 }) × (sharp_spread_after true cluster 0 (pi_of cluster) (lambda_of cluster) 30 ≡ record { starts = 75_014_588; lengths = 22_004_396 }) × (sharply_apart_in cluster (sharp_spread_after true cluster 0 (pi_of cluster) (lambda_of cluster) 0) ≡ precision_of cluster)
unfolding sharp_spread_after
from_older = (refl, refl, refl)
