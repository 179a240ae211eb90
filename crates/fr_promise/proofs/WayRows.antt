-- The way to sharp sync of worked clusters, computed.
use Rattle.std.proofs.Common.{◌≡◌, ℕ, true, false, [], ◌∷◌, refl}
use Rattle.fr_cluster.specs.Values.{Values}
use Rattle.fr_bound.specs.declared.settling.Spread.{Spread}
use Rattle.fr_precision.proofs.Worked.{node}
use Rattle.fr_bound.specs.SharpBounds.{last_of}
use Rattle.fr_precision.specs.SharpSettling.{sharp_spread_after}
use Rattle.fr_promise.specs.SharpWay.{apart_after, near_after, way_holds_of}
use Rattle.fr_promise.proofs.SharpRows.{set_of}

-- oscillators of 100 ppm, with this damping
abbrev damped_by : ℕ → Values
damped_by damping = set_of (node 1 ∷ node 2 ∷ node 3 ∷ node 8 ∷ []) damping 7 100 0 5_000_000

-- without arbitrary nodes from starts 2.25 microseconds apart, and lengths 14 microticks: at rest in double cycle 2
abbrev alone : ℕ → Spread
alone = sharp_spread_after false (damped_by 2) 0 90_000_000 14_000_000

at_rest : (alone 1 ≡ record { starts = 27_001_700; lengths = 7_000_698 }) × (alone 2 ≡ record { starts = 20_002_398; lengths = 7_000_698 })
unfolding sharp_spread_after
at_rest = (refl, refl)

first_is_widest : (apart_after false (damped_by 2) 0 90_000_000 14_000_000 0 ≡ 120_000_200) × (near_after false (damped_by 2) 0 90_000_000 14_000_000 0 ≡ 105_662_366)
unfolding sharp_spread_after last_of
first_is_widest = (refl, refl)

-- beside arbitrary nodes in double cycle 25, from lengths 4 ticks beyond lambda
abbrev beside : ℕ → Spread
beside = sharp_spread_after true (damped_by 2) 0 90_000_000 14_001_400

late_at_rest : (beside 24 ≡ record { starts = 69_007_689; lengths = 14_001_396 }) × (beside 25 ≡ record { starts = 69_007_688; lengths = 14_001_396 })
unfolding sharp_spread_after
late_at_rest = (refl, refl)

-- without damping lengths walk, and the rate limit holds the walk for 560 double cycles; with damping 1 they do not
walks : (way_holds_of 1 0 560 0 (damped_by 0) ≡ true) × (way_holds_of 1 0 561 0 (damped_by 0) ≡ false) × (way_holds_of 1 0 561 0 (damped_by 1) ≡ true)
walks = (refl, refl, refl)

-- the third check holds for the way up to a reach
third_check : (way_holds_of 3 0 2 120_986_500 (damped_by 2) ≡ true) × (way_holds_of 3 0 2 120_986_501 (damped_by 2) ≡ false)
third_check = (refl, refl)
