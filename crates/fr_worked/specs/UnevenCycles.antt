-- What comes of the uneven run, cycle by cycle: node 5 follows in cycles 2 to 5 and has a row from cycle 6 on, node 6 follows in
-- cycles 4 to 7 and has a row from cycle 8 on.
use Rattle.std.specs.Prelude.{ℕ, ℤ, pos, neg_ℤ, List, [], ◌∷◌, ◌++◌, map}
use Rattle.fr_base.specs.Rows.{dev_with}
use Rattle.fr_base.specs.declared.channel.Channel.{Channel}
use Rattle.fr_base.specs.declared.channel.Channel.TheVariants.{A, B}
use Rattle.fr_base.specs.declared.cycle_row.Counts.{Counts}
use Rattle.fr_base.specs.declared.dev.Dev.{Dev}
use Rattle.fr_base.specs.declared.node_row.NodeRow.{NodeRow}
use Rattle.fr_base.specs.declared.state.State.{State}
use Rattle.fr_base.specs.declared.state.State.TheVariants.{Active, Passive}
use Rattle.fr_skew.specs.declared.peak.Peak.{Peak}
use Rattle.fr_history.specs.Cycles.{Cycle, Cycles}

-- ---- the entries

-- so many microticks more, or fewer
abbrev pub plus : ℕ → ℤ
plus n = pos n

abbrev pub minus : ℕ → ℤ
minus n = neg_ℤ (pos n)

-- the row of a node, by its start, the length of its microtick, its rate and its offset
abbrev pub uneven_row : State → ℕ → ℕ → ℕ → ℤ → ℤ → NodeRow
uneven_row state node start length rate offset = record {
  node = node;
  start = pos start;
  length = pos length;
  rate = rate;
  offset = offset;
  state = state;
  cut = 0;
}

abbrev pub active : ℕ → ℕ → ℕ → ℤ → ℤ → NodeRow
active = uneven_row Active

abbrev pub passive : ℕ → ℕ → ℕ → ℤ → ℤ → NodeRow
passive = uneven_row Passive

-- the deviations of a slot: on both channels, or on one of them
abbrev pub Measured : Type 0
Measured = List (ℕ × Channel × ℤ)

abbrev pub a_and_b : ℕ → ℤ → ℤ → Measured
a_and_b slot first second = (slot, A, first) ∷ (slot, B, second) ∷ []

abbrev pub b_alone : ℕ → ℤ → Measured
b_alone slot value = (slot, B, value) ∷ []

-- those of a node
abbrev pub measured_devs : ℕ → Measured → List Dev
measured_devs node values = map (λ entry. dev_with node entry.0 entry.1 entry.2) values

-- so many frames on both channels, the sums of their CRCs, and how many were stored and how many damaged
abbrev pub counts_of : ℕ → ℕ → ℕ → ℕ → ℕ → ℕ → Counts
counts_of sent_a sent_b xor_a xor_b stored damaged = record {
  sent_a = sent_a;
  sent_b = sent_b;
  xor_a = xor_a;
  xor_b = xor_b;
  stored = stored;
  outside = 0;
  damaged = damaged;
  wrong_id = 0;
  wrong_cycle = 0;
  wrong_length = 0;
  plain = 0;
}

-- ---- the cycles

abbrev pub cycle_0 : Cycle
cycle_0 = record {
  told = record {
    rows =
        active 1 0 1_000_150 (minus 1) (plus 0)
        ∷ active 2 40_000_000 999_850 (plus 1) (plus 0)
        ∷ active 3 25_000_000 1_000_000 (plus 0) (plus 0) ∷ [];
    devs =
        measured_devs 1 (a_and_b 2 (plus 40) (plus 40) ++ a_and_b 3 (plus 25) (plus 25) ++
        a_and_b 4 (plus 149) (plus 149))
        ++ measured_devs 2 (a_and_b 1 (minus 41) (minus 41) ++ a_and_b 3 (minus 15) (minus 15) ++
        a_and_b 4 (minus 151) (minus 151))
        ++ measured_devs 3 (a_and_b 1 (minus 27) (minus 26) ++ b_alone 2 (plus 14));
    counts = counts_of 3 3 1_382_820 16_684_993 15 2;
  };
  followers = [];
  follower_devs = [];
}

abbrev pub cycle_1 : Cycle
cycle_1 = record {
  told = record {
    rows =
        active 1 12_000_799_850 1_000_150 (minus 1) (plus 31)
        ∷ active 2 12_039_199_850 999_850 (plus 1) (minus 27)
        ∷ active 3 12_025_000_000 1_000_008 (plus 0) (plus 0) ∷ [];
    devs =
        measured_devs 1 (a_and_b 2 (plus 38) (plus 38) ++ a_and_b 3 (plus 24) (plus 24) ++
        a_and_b 4 (plus 149) (plus 149))
        ++ measured_devs 2 (a_and_b 1 (minus 40) (minus 40) ++ a_and_b 3 (minus 14) (minus 14) ++
        a_and_b 4 (minus 151) (minus 151))
        ++ measured_devs 3 (a_and_b 1 (minus 26) (minus 26) ++ b_alone 2 (plus 13));
    counts = counts_of 3 3 4_748_399 10_746_378 15 2;
  };
  followers = [];
  follower_devs = [];
}

abbrev pub cycle_2 : Cycle
cycle_2 = record {
  told = record {
    rows =
        active 1 24_032_604_350 1_000_150 (plus 0) (plus 0)
        ∷ active 2 24_011_403_750 999_850 (plus 0) (plus 0)
        ∷ active 3 24_025_096_000 1_000_000 (plus 0) (plus 0) ∷ [];
    devs =
        measured_devs 1 (a_and_b 2 (minus 22) (minus 22) ++ a_and_b 3 (minus 9) (minus 9) ++
        a_and_b 4 (plus 149) (plus 149))
        ++ measured_devs 2 (a_and_b 1 (plus 21) (plus 21) ++ a_and_b 3 (plus 14) (plus 14) ++
        a_and_b 4 (minus 151) (minus 151))
        ++ measured_devs 3 (a_and_b 1 (plus 7) (plus 7) ++ b_alone 2 (minus 15));
    counts = counts_of 3 3 11_518_514 4_475_991 15 2;
  };
  followers =
      passive 5 24_000_769_300 1_000_090 (minus 1) (plus 0) ∷ [];
  follower_devs =
      measured_devs 5 (a_and_b 1 (plus 32) (plus 32) ++ a_and_b 2 (plus 11) (plus 10) ++
      a_and_b 3 (plus 24) (plus 25));
}

abbrev pub cycle_3 : Cycle
cycle_3 = record {
  told = record {
    rows =
        active 1 36_034_404_350 1_000_150 (plus 0) (minus 5)
        ∷ active 2 36_009_603_750 999_850 (plus 0) (plus 7)
        ∷ active 3 36_025_096_000 1_000_008 (plus 0) (plus 0) ∷ [];
    devs =
        measured_devs 1 (a_and_b 2 (minus 26) (minus 26) ++ a_and_b 3 (minus 11) (minus 10) ++
        a_and_b 4 (plus 149) (plus 149))
        ++ measured_devs 2 (a_and_b 1 (plus 24) (plus 25) ++ a_and_b 3 (plus 15) (plus 16) ++
        a_and_b 4 (minus 151) (minus 151))
        ++ measured_devs 3 (a_and_b 1 (plus 9) (plus 9) ++ b_alone 2 (minus 16));
    counts = counts_of 3 3 15_904_761 1_647_004 15 2;
  };
  followers =
      passive 5 36_000_849_210 1_000_090 (minus 1) (plus 24) ∷ [];
  follower_devs =
      measured_devs 5 (a_and_b 1 (plus 34) (plus 34) ++ a_and_b 2 (plus 9) (plus 9) ++
      a_and_b 3 (plus 24) (plus 24));
}

abbrev pub cycle_4 : Cycle
cycle_4 = record {
  told = record {
    rows =
        active 1 48_031_203_600 1_000_150 (plus 0) (plus 0)
        ∷ active 2 48_014_802_700 999_850 (plus 0) (plus 0)
        ∷ active 3 48_025_192_000 1_000_000 (plus 0) (plus 0) ∷ [];
    devs =
        measured_devs 1 (a_and_b 2 (minus 17) (minus 18) ++ a_and_b 3 (minus 7) (minus 7) ++
        a_and_b 4 (plus 149) (plus 149))
        ++ measured_devs 2 (a_and_b 1 (plus 16) (plus 16) ++ a_and_b 3 (plus 10) (plus 11) ++
        a_and_b 4 (minus 151) (minus 151))
        ++ measured_devs 3 (a_and_b 1 (plus 5) (plus 6) ++ b_alone 2 (minus 11));
    counts = counts_of 3 3 4_047_683 14_044_454 15 2;
  };
  followers =
      passive 5 48_024_931_280 1_000_090 (plus 0) (plus 0)
      ∷ passive 6 48_008_031_370 1_000_090 (minus 3) (plus 0) ∷ [];
  follower_devs =
      measured_devs 5 (a_and_b 1 (plus 6) (plus 6) ++ a_and_b 2 (minus 11) (minus 11) ++
      a_and_b 3 (minus 1) (minus 1))
      ++ measured_devs 6 (b_alone 1 (plus 24) ++ b_alone 2 (plus 7) ++ b_alone 3 (plus 17));
}

abbrev pub cycle_5 : Cycle
cycle_5 = record {
  told = record {
    rows =
        active 1 60_033_003_600 1_000_150 (plus 0) (minus 4)
        ∷ active 2 60_013_002_700 999_850 (plus 0) (plus 6)
        ∷ active 3 60_025_192_000 1_000_008 (plus 0) (plus 0) ∷ [];
    devs =
        measured_devs 1 (a_and_b 2 (minus 21) (minus 21) ++ b_alone 3 (minus 9) ++
        a_and_b 4 (plus 149) (plus 149))
        ++ measured_devs 2 (a_and_b 1 (plus 20) (plus 20) ++ a_and_b 3 (plus 12) (plus 12) ++
        a_and_b 4 (minus 151) (minus 151))
        ++ measured_devs 3 (a_and_b 1 (plus 7) (plus 7) ++ b_alone 2 (minus 13));
    counts = counts_of 3 3 6_336_136 9_117_933 14 3;
  };
  followers =
      passive 5 60_026_011_280 1_000_090 (plus 0) (minus 2)
      ∷ passive 6 60_006_111_100 1_000_090 (minus 3) (plus 19) ∷ [];
  follower_devs =
      measured_devs 5 (a_and_b 1 (plus 6) (plus 7) ++ a_and_b 2 (minus 14) (minus 14) ++
      a_and_b 3 (minus 2) (minus 2))
      ++ measured_devs 6 (b_alone 1 (plus 27) ++ b_alone 2 (plus 7) ++ b_alone 3 (plus 19));
}

abbrev pub cycle_6 : Cycle
cycle_6 = record {
  told = record {
    rows =
        active 1 72_030_803_000 1_000_150 (plus 0) (plus 0)
        ∷ active 2 72_017_201_800 999_850 (plus 0) (plus 0)
        ∷ active 3 72_025_288_000 1_000_000 (plus 0) (plus 0)
        ∷ active 5 72_025_091_100 1_000_090 (plus 0) (plus 0) ∷ [];
    devs =
        measured_devs 1 (a_and_b 2 (minus 15) (minus 15) ++ a_and_b 3 (minus 7) (minus 7) ++
        a_and_b 4 (plus 149) (plus 149) ++ a_and_b 5 (minus 7) (minus 7))
        ++ measured_devs 2 (a_and_b 1 (plus 13) (plus 13) ++ a_and_b 3 (plus 8) (plus 8) ++
        a_and_b 4 (minus 151) (minus 151) ++ a_and_b 5 (plus 9) (plus 9))
        ++ measured_devs 3 (a_and_b 1 (plus 5) (plus 5) ++ b_alone 2 (minus 9) ++ a_and_b 5 (plus 0) (plus 0))
        ++ measured_devs 5 (a_and_b 1 (plus 5) (plus 5) ++ a_and_b 2 (minus 9) (minus 9) ++
        a_and_b 3 (minus 1) (minus 1));
    counts = counts_of 4 4 16_171_379 16_171_379 27 4;
  };
  followers =
      passive 6 72_023_192_540 1_000_090 (plus 0) (plus 0) ∷ [];
  follower_devs =
      measured_devs 6 (b_alone 1 (plus 7) ++ b_alone 2 (minus 7) ++ b_alone 3 (plus 1) ++
      b_alone 5 (plus 1));
}

abbrev pub cycle_7 : Cycle
cycle_7 = record {
  told = record {
    rows =
        active 1 84_032_603_000 1_000_150 (plus 0) (minus 4)
        ∷ active 2 84_015_401_800 999_850 (plus 0) (plus 6)
        ∷ active 3 84_025_288_000 1_000_008 (plus 0) (plus 0)
        ∷ active 5 84_026_171_100 1_000_090 (plus 0) (minus 1) ∷ [];
    devs =
        measured_devs 1 (a_and_b 2 (minus 18) (minus 18) ++ a_and_b 3 (minus 9) (minus 8) ++
        a_and_b 4 (plus 149) (plus 149) ++ a_and_b 5 (minus 8) (minus 7))
        ++ measured_devs 2 (a_and_b 1 (plus 17) (plus 17) ++ a_and_b 3 (plus 10) (plus 10) ++
        a_and_b 4 (minus 151) (minus 151) ++ a_and_b 5 (plus 12) (plus 12))
        ++ measured_devs 3 (a_and_b 1 (plus 7) (plus 7) ++ b_alone 2 (minus 11) ++ a_and_b 5 (plus 1) (plus 1))
        ++ measured_devs 5 (a_and_b 1 (plus 6) (plus 6) ++ a_and_b 2 (minus 12) (minus 12) ++
        a_and_b 3 (minus 2) (minus 2));
    counts = counts_of 4 4 16_171_379 16_171_379 27 4;
  };
  followers =
      passive 6 84_024_272_540 1_000_090 (plus 0) (plus 0) ∷ [];
  follower_devs =
      measured_devs 6 (b_alone 1 (plus 8) ++ b_alone 2 (minus 10) ++ b_alone 3 (plus 0) ++
      b_alone 5 (plus 1));
}

abbrev pub cycle_8 : Cycle
cycle_8 = record {
  told = record {
    rows =
        active 1 96_030_402_400 1_000_150 (plus 0) (plus 0)
        ∷ active 2 96_019_600_900 999_850 (plus 0) (plus 0)
        ∷ active 3 96_025_384_000 1_000_000 (plus 0) (plus 0)
        ∷ active 5 96_026_251_010 1_000_090 (plus 0) (plus 0)
        ∷ active 6 96_025_352_540 1_000_090 (plus 0) (plus 0) ∷ [];
    devs =
        measured_devs 1 (a_and_b 2 (minus 12) (minus 12) ++ a_and_b 3 (minus 6) (minus 6) ++
        a_and_b 4 (plus 149) (plus 149) ++ a_and_b 5 (minus 5) (minus 5))
        ++ measured_devs 2 (a_and_b 1 (plus 10) (plus 11) ++ a_and_b 3 (plus 6) (plus 6) ++
        a_and_b 4 (minus 151) (minus 151) ++ a_and_b 5 (plus 8) (plus 8))
        ++ measured_devs 3 (a_and_b 1 (plus 4) (plus 5) ++ b_alone 2 (minus 7) ++ a_and_b 5 (plus 1) (plus 1))
        ++ measured_devs 5 (a_and_b 1 (plus 4) (plus 4) ++ a_and_b 2 (minus 8) (minus 8) ++
        a_and_b 3 (minus 2) (minus 2))
        ++ measured_devs 6 (b_alone 1 (plus 5) ++ b_alone 2 (minus 7) ++ b_alone 3 (minus 1) ++ b_alone 5 (plus 0));
    counts = counts_of 4 4 16_171_379 16_171_379 31 5;
  };
  followers = [];
  follower_devs = [];
}

abbrev pub cycle_9 : Cycle
cycle_9 = record {
  told = record {
    rows =
        active 1 108_032_202_400 1_000_150 (plus 0) (minus 4)
        ∷ active 2 108_017_800_900 999_850 (plus 0) (plus 5)
        ∷ active 3 108_025_384_000 1_000_008 (plus 0) (plus 1)
        ∷ active 5 108_027_331_010 1_000_090 (plus 0) (minus 1)
        ∷ active 6 108_026_432_540 1_000_090 (plus 0) (minus 1) ∷ [];
    devs =
        measured_devs 1 (a_and_b 2 (minus 15) (minus 16) ++ a_and_b 3 (minus 8) (minus 8) ++
        a_and_b 4 (plus 149) (plus 149) ++ a_and_b 5 (minus 6) (minus 6))
        ++ measured_devs 2 (a_and_b 1 (plus 14) (plus 14) ++ a_and_b 3 (plus 8) (plus 8) ++
        a_and_b 4 (minus 151) (minus 151) ++ a_and_b 5 (plus 11) (plus 11))
        ++ measured_devs 3 (a_and_b 1 (plus 6) (plus 6) ++ b_alone 2 (minus 9) ++ a_and_b 5 (plus 2) (plus 2))
        ++ measured_devs 5 (a_and_b 1 (plus 4) (plus 4) ++ a_and_b 2 (minus 10) (minus 11) ++
        a_and_b 3 (minus 3) (minus 3))
        ++ measured_devs 6 (b_alone 1 (plus 5) ++ b_alone 2 (minus 10) ++ b_alone 3 (minus 2) ++ b_alone 5 (plus 0));
    counts = counts_of 4 4 16_171_379 16_171_379 31 5;
  };
  followers = [];
  follower_devs = [];
}

-- ---- all of them

abbrev pub uneven_0 : Cycles
uneven_0 = []

abbrev pub uneven_1 : Cycles
uneven_1 = cycle_0 ∷ uneven_0

abbrev pub uneven_2 : Cycles
uneven_2 = cycle_1 ∷ uneven_1

abbrev pub uneven_3 : Cycles
uneven_3 = cycle_2 ∷ uneven_2

abbrev pub uneven_4 : Cycles
uneven_4 = cycle_3 ∷ uneven_3

abbrev pub uneven_5 : Cycles
uneven_5 = cycle_4 ∷ uneven_4

abbrev pub uneven_6 : Cycles
uneven_6 = cycle_5 ∷ uneven_5

abbrev pub uneven_7 : Cycles
uneven_7 = cycle_6 ∷ uneven_6

abbrev pub uneven_8 : Cycles
uneven_8 = cycle_7 ∷ uneven_7

abbrev pub uneven_9 : Cycles
uneven_9 = cycle_8 ∷ uneven_8

abbrev pub uneven_10 : Cycles
uneven_10 = cycle_9 ∷ uneven_9

-- the greatest skew, first at macrotick 1 of cycle 0
abbrev pub uneven_peak : Peak
uneven_peak = record { skew = pos 40_988_150; cycle = 0; macrotick = 1 }
