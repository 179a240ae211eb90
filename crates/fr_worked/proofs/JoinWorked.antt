-- The sharper bounds and checks of nodes that join, computed in the worked clusters.
use Rattle.std.proofs.Common.{◌≡◌, ℕ, Bool, true, false, refl}
use Rattle.fr_cluster.specs.Values.{Values}
use Rattle.fr_bound.specs.Checks.{left_of}
use Rattle.fr_bound.specs.SharpBounds.{last_of}
use Rattle.fr_promise.specs.SharpJoining.{sharp_first_apart, sharp_first_lengths, sharp_join_holds_of, sharp_join_right_of, sharp_reach, sharp_second_apart}
use Rattle.fr_promise.proofs.SharpRows.{set}

-- the first lengths, the first and the second start of a node that follows, and the reach
abbrev Follows : Bool → Values → ℕ → ℕ → ℕ → ℕ → ℕ → Type 0
Follows beside p flutter lengths first second reach =
    (sharp_first_lengths beside p flutter ≡ lengths) × (sharp_first_apart beside p flutter ≡ first)
    × (sharp_second_apart beside p flutter ≡ second) × (sharp_reach beside p flutter ≡ reach)

-- whether the seventh check holds; the three others do
abbrev Joins : Bool → Values → ℕ → Bool → Type 0
Joins beside p flutter seventh =
    (sharp_join_holds_of 6 beside flutter p ≡ true) × (sharp_join_holds_of 7 beside flutter p ≡ seventh)
    × (sharp_join_holds_of 8 beside flutter p ≡ true) × (sharp_join_holds_of 9 beside flutter p ≡ true)

-- without flutter, first without arbitrary nodes and then beside them

no_damping : Follows false (set 0 7 100 0 5_000_000) 0 5_000_496 36_004_394 18_002_196 42_241_537
    × Joins false (set 0 7 100 0 5_000_000) 0 true
    × Follows true (set 0 7 100 0 5_000_000) 0 8_000_794 71_008_280 47_005_486 80_387_649
    × Joins true (set 0 7 100 0 5_000_000) 0 true
unfolding last_of
no_damping = ((refl, refl, refl, refl), (refl, refl, refl, refl), (refl, refl, refl, refl), (refl, refl, refl, refl))

damping_1 : Follows false (set 1 7 100 0 5_000_000) 0 8_000_796 42_004_994 21_002_496 51_384_365
    × Joins false (set 1 7 100 0 5_000_000) 0 true
    × Follows true (set 1 7 100 0 5_000_000) 0 13_001_294 91_010_280 60_006_786 105_626_696
    × Joins true (set 1 7 100 0 5_000_000) 0 true
unfolding last_of
damping_1 = ((refl, refl, refl, refl), (refl, refl, refl, refl), (refl, refl, refl, refl), (refl, refl, refl, refl))

damping_2 : Follows false (set 2 7 100 0 5_000_000) 0 11_001_096 48_005_594 24_002_796 60_527_193
    × Joins false (set 2 7 100 0 5_000_000) 0 true
    × Follows true (set 2 7 100 0 5_000_000) 0 18_001_794 111_012_280 73_008_086 130_865_744
    × Joins true (set 2 7 100 0 5_000_000) 0 false
unfolding last_of
damping_2 = ((refl, refl, refl, refl), (refl, refl, refl, refl), (refl, refl, refl, refl), (refl, refl, refl, refl))

damping_4 : Follows false (set 4 7 100 0 5_000_000) 0 17_001_696 60_006_794 30_003_396 78_812_850
    × Joins false (set 4 7 100 0 5_000_000) 0 true
    × Follows true (set 4 7 100 0 5_000_000) 0 28_002_794 151_016_280 99_010_686 181_343_838
    × Joins true (set 4 7 100 0 5_000_000) 0 false
unfolding last_of
damping_4 = ((refl, refl, refl, refl), (refl, refl, refl, refl), (refl, refl, refl, refl), (refl, refl, refl, refl))

short_delays : Follows false (set 1 4 300 0 2_000_000) 0 8_002_396 30_011_394 15_005_696 39_392_641
    × Joins false (set 1 4 300 0 2_000_000) 0 true
    × Follows true (set 1 4 300 0 2_000_000) 0 13_003_894 73_025_480 48_016_786 87_644_819
    × Joins true (set 1 4 300 0 2_000_000) 0 true
unfolding last_of
short_delays = ((refl, refl, refl, refl), (refl, refl, refl, refl), (refl, refl, refl, refl), (refl, refl, refl, refl))

wide_drift : Follows false (set 2 7 300 0 5_000_000) 0 11_003_296 48_016_794 24_008_396 60_540_897
    × Joins false (set 2 7 300 0 5_000_000) 0 true
    × Follows true (set 2 7 300 0 5_000_000) 0 18_005_394 111_036_880 73_024_286 130_894_314
    × Joins true (set 2 7 300 0 5_000_000) 0 false
unfolding last_of
wide_drift = ((refl, refl, refl, refl), (refl, refl, refl, refl), (refl, refl, refl, refl), (refl, refl, refl, refl))

changing : Follows false (set 2 7 100 1 5_000_000) 0 13_007_618 51_617_180 26_410_520 66_259_198
    × Joins false (set 2 7 100 1 5_000_000) 0 true
    × Follows true (set 2 7 100 1 5_000_000) 0 20_810_976 120_643_688 79_830_312 143_458_200
    × Joins true (set 2 7 100 1 5_000_000) 0 false
unfolding last_of
changing = ((refl, refl, refl, refl), (refl, refl, refl, refl), (refl, refl, refl, refl), (refl, refl, refl, refl))

short_changing : Follows false (set 2 4 300 1 2_000_000) 0 13_009_818 39_624_780 20_414_320 54_269_302
    × Joins false (set 2 4 300 1 2_000_000) 0 true
    × Follows true (set 2 4 300 1 2_000_000) 0 20_814_576 102_662_888 67_842_912 125_481_370
    × Joins true (set 2 4 300 1 2_000_000) 0 false
unfolding last_of
short_changing = ((refl, refl, refl, refl), (refl, refl, refl, refl), (refl, refl, refl, refl), (refl, refl, refl, refl))

-- both sides, beside arbitrary nodes; at the ninth the left one is to be greater
sides : ((left_of 6 (set 2 7 100 0 5_000_000) ≡ 600_939_900) × (sharp_join_right_of 6 true 0 (set 2 7 100 0 5_000_000) ≡ 41_000_100))
    × ((left_of 7 (set 2 7 100 0 5_000_000) ≡ 126_987_300) × (sharp_join_right_of 7 true 0 (set 2 7 100 0 5_000_000) ≡ 136_866_544))
    × ((left_of 8 (set 2 7 100 0 5_000_000) ≡ 793_880_604_000) × (sharp_join_right_of 8 true 0 (set 2 7 100 0 5_000_000) ≡ 494_007_845_184))
    × ((left_of 9 (set 2 7 100 0 5_000_000) ≡ 3_983_945_565_600) × (sharp_join_right_of 9 true 0 (set 2 7 100 0 5_000_000) ≡ 519_459_845_184))
unfolding last_of
sides = ((refl, refl), (refl, refl), (refl, refl), (refl, refl))

-- where delays flutter by a microtick and oscillators change
fluttering : Follows false (set 2 7 100 1 5_000_000) 1_000_000 17_007_618 58_617_180 30_410_520 77_448_417
    × Follows true (set 2 7 100 1 5_000_000) 1_000_000 26_810_976 141_643_688 93_830_312 170_742_028
    × (sharp_join_right_of 6 false 1_000_000 (set 2 7 100 1 5_000_000) ≡ 42_200_701)
unfolding last_of
fluttering = ((refl, refl, refl, refl), (refl, refl, refl, refl), refl)
