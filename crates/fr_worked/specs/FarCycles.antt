-- What comes of the run in which node 1 begins late, cycle by cycle: node 5, which listens to it, begins to follow far from the
-- others, which node 1 has come nearer to by then.
use Rattle.std.specs.Prelude.{[], ◌∷◌, ◌++◌}
use Rattle.fr_history.specs.Cycles.{Cycle, Cycles}
use Rattle.fr_worked.specs.UnevenCycles.{a_and_b, active, b_alone, counts_of, measured_devs, minus, passive, plus}

-- ---- the cycles

abbrev pub far_cycle_0 : Cycle
far_cycle_0 = record {
  told = record {
    rows =
        active 1 370_000_000 1_000_150 (minus 1) (plus 0)
        ∷ active 2 20_000_000 999_850 (plus 1) (plus 0)
        ∷ active 3 25_000_000 1_000_000 (plus 0) (plus 0) ∷ [];
    devs =
        measured_devs 1 (a_and_b 2 (minus 350) (minus 350) ++ a_and_b 3 (minus 345) (minus 345) ++
        a_and_b 4 (plus 149) (plus 149))
        ++ measured_devs 2 (a_and_b 1 (plus 349) (plus 349) ++ a_and_b 3 (plus 5) (plus 5) ++
        a_and_b 4 (minus 151) (minus 151))
        ++ measured_devs 3 (a_and_b 1 (plus 343) (plus 344) ++ b_alone 2 (minus 6));
    counts = counts_of 3 3 1_382_820 16_684_993 15 2;
  };
  followers = [];
  follower_devs = [];
}

abbrev pub far_cycle_1 : Cycle
far_cycle_1 = record {
  told = record {
    rows =
        active 1 12_370_799_850 1_000_150 (minus 1) (minus 173)
        ∷ active 2 12_019_199_850 999_850 (plus 1) (plus 3)
        ∷ active 3 12_025_000_000 1_000_008 (plus 0) (plus 0) ∷ [];
    devs =
        measured_devs 1 (a_and_b 2 (minus 352) (minus 352) ++ a_and_b 3 (minus 346) (minus 346) ++
        a_and_b 4 (plus 149) (plus 149))
        ++ measured_devs 2 (a_and_b 1 (plus 350) (plus 350) ++ a_and_b 3 (plus 6) (plus 6) ++
        a_and_b 4 (minus 151) (minus 151))
        ++ measured_devs 3 (a_and_b 1 (plus 344) (plus 344) ++ b_alone 2 (minus 7));
    counts = counts_of 3 3 4_748_399 10_746_378 15 2;
  };
  followers = [];
  follower_devs = [];
}

abbrev pub far_cycle_2 : Cycle
far_cycle_2 = record {
  told = record {
    rows =
        active 1 24_198_573_750 1_000_150 (plus 0) (plus 0)
        ∷ active 2 24_021_399_250 999_850 (plus 0) (plus 0)
        ∷ active 3 24_025_096_000 1_000_000 (plus 0) (plus 0) ∷ [];
    devs =
        measured_devs 1 (a_and_b 2 (minus 178) (minus 178) ++ a_and_b 3 (minus 175) (minus 174) ++
        a_and_b 4 (plus 149) (plus 149))
        ++ measured_devs 2 (a_and_b 1 (plus 177) (plus 177) ++ a_and_b 3 (plus 4) (plus 4) ++
        a_and_b 4 (minus 151) (minus 151))
        ++ measured_devs 3 (a_and_b 1 (plus 173) (plus 173) ++ b_alone 2 (minus 5));
    counts = counts_of 3 3 11_518_514 4_475_991 15 2;
  };
  followers =
      passive 5 24_370_769_300 1_000_090 (minus 1) (plus 0) ∷ [];
  follower_devs =
      measured_devs 5 (a_and_b 1 (minus 172) (minus 172) ++ a_and_b 2 (minus 349) (minus 349) ++
      a_and_b 3 (minus 346) (minus 345));
}

abbrev pub far_cycle_3 : Cycle
far_cycle_3 = record {
  told = record {
    rows =
        active 1 36_200_373_750 1_000_150 (plus 0) (minus 88)
        ∷ active 2 36_019_599_250 999_850 (plus 0) (plus 2)
        ∷ active 3 36_025_096_000 1_000_008 (plus 0) (plus 0) ∷ [];
    devs =
        measured_devs 1 (a_and_b 2 (minus 182) (minus 182) ++ a_and_b 3 (minus 176) (minus 176) ++
        a_and_b 4 (plus 149) (plus 149))
        ++ measured_devs 2 (a_and_b 1 (plus 180) (plus 181) ++ a_and_b 3 (plus 5) (plus 6) ++
        a_and_b 4 (minus 151) (minus 151))
        ++ measured_devs 3 (a_and_b 1 (plus 175) (plus 175) ++ b_alone 2 (minus 6));
    counts = counts_of 3 3 15_904_761 1_647_004 15 2;
  };
  followers =
      passive 5 36_370_849_210 1_000_090 (minus 1) (minus 346) ∷ [];
  follower_devs =
      measured_devs 5 (a_and_b 1 (minus 170) (minus 170) ++ a_and_b 2 (minus 351) (minus 351) ++
      a_and_b 3 (minus 346) (minus 345));
}

abbrev pub far_cycle_4 : Cycle
far_cycle_4 = record {
  told = record {
    rows =
        active 1 48_114_160_550 1_000_150 (plus 0) (plus 0)
        ∷ active 2 48_019_798_950 999_850 (plus 0) (plus 0)
        ∷ active 3 48_025_192_000 1_000_000 (plus 0) (plus 0) ∷ [];
    devs =
        measured_devs 1 (a_and_b 2 (minus 95) (minus 96) ++ a_and_b 3 (minus 90) (minus 90) ++
        a_and_b 4 (plus 149) (plus 149))
        ++ measured_devs 2 (a_and_b 1 (plus 94) (plus 94) ++ a_and_b 3 (plus 5) (plus 6) ++
        a_and_b 4 (minus 151) (minus 151))
        ++ measured_devs 3 (a_and_b 1 (plus 88) (plus 89) ++ b_alone 2 (minus 6));
    counts = counts_of 3 3 4_047_683 14_044_454 15 2;
  };
  followers =
      passive 5 48_024_897_980 1_000_090 (plus 0) (plus 0)
      ∷ passive 6 48_018_026_870 1_000_090 (minus 3) (plus 0) ∷ [];
  follower_devs =
      measured_devs 5 (a_and_b 1 (plus 89) (plus 89) ++ a_and_b 2 (minus 6) (minus 6) ++
      a_and_b 3 (minus 1) (minus 1))
      ++ measured_devs 6 (b_alone 1 (plus 97) ++ b_alone 2 (plus 2) ++ b_alone 3 (plus 7));
}

abbrev pub far_cycle_5 : Cycle
far_cycle_5 = record {
  told = record {
    rows =
        active 1 60_115_960_550 1_000_150 (plus 0) (minus 46)
        ∷ active 2 60_017_998_950 999_850 (plus 0) (plus 3)
        ∷ active 3 60_025_192_000 1_000_008 (plus 0) (plus 0) ∷ [];
    devs =
        measured_devs 1 (a_and_b 2 (minus 99) (minus 99) ++ b_alone 3 (minus 92) ++
        a_and_b 4 (plus 149) (plus 149))
        ++ measured_devs 2 (a_and_b 1 (plus 98) (plus 98) ++ a_and_b 3 (plus 7) (plus 7) ++
        a_and_b 4 (minus 151) (minus 151))
        ++ measured_devs 3 (a_and_b 1 (plus 90) (plus 90) ++ b_alone 2 (minus 8));
    counts = counts_of 3 3 6_336_136 9_117_933 14 3;
  };
  followers =
      passive 5 60_025_977_980 1_000_090 (plus 0) (minus 2)
      ∷ passive 6 60_016_106_600 1_000_090 (minus 3) (plus 9) ∷ [];
  follower_devs =
      measured_devs 5 (a_and_b 1 (plus 89) (plus 90) ++ a_and_b 2 (minus 9) (minus 9) ++
      a_and_b 3 (minus 2) (minus 2))
      ++ measured_devs 6 (b_alone 1 (plus 100) ++ b_alone 2 (plus 2) ++ b_alone 3 (plus 9));
}

-- ---- all of them

abbrev pub far_0 : Cycles
far_0 = []

abbrev pub far_1 : Cycles
far_1 = far_cycle_0 ∷ far_0

abbrev pub far_2 : Cycles
far_2 = far_cycle_1 ∷ far_1

abbrev pub far_3 : Cycles
far_3 = far_cycle_2 ∷ far_2

abbrev pub far_4 : Cycles
far_4 = far_cycle_3 ∷ far_3

abbrev pub far_5 : Cycles
far_5 = far_cycle_4 ∷ far_4

abbrev pub far_6 : Cycles
far_6 = far_cycle_5 ∷ far_5
