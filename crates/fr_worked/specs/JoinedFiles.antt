-- The files of two runs that nodes join: of three nodes with nominal clocks, one of which joins; and of five nodes on
-- two channels beside an arbitrary one, two of which join, with uneven clocks, delays that are not the nominal ones,
-- one frame that is lost, and one that comes with a bit inverted.
use Rattle.std.specs.Prelude.{pos, neg_ℤ, true, false, [], ◌∷◌, ◌++◌, None, Some, replicate, codes}
use Rattle.fr_drift.specs.Keys.{delay_key, length_key}
use Rattle.fr_history.specs.Worked.{roomy_cluster}
use Rattle.fr_script.specs.Deeds.{passage_of}
use Rattle.fr_script.specs.declared.deed.Deed.TheVariants.{Flip, Lose, Say}
use Rattle.fr_worked.specs.Files.{no_arbitrary, no_join, steady_drift}
use Rattle.fr_worked.specs.RunFiles.{RunFiles}
use Rattle.fr_worked.specs.Uneven.{small_cluster}

-- nominal clocks and delays over six double cycles, and node 3 listens to node 1 in double cycle 1
abbrev pub joined_files : RunFiles
joined_files = record {
  params = roomy_cluster;
  drift_file = codes "doubles,6,,,,\n";
  drift = steady_drift 6;
  script_file = codes "join,1,3,1,,,\n";
  script = record {
    arbitrary = no_arbitrary;
    joins = replicate 3 no_join ++ Some (record { double = 1; reference = 1 }) ∷ replicate 61 no_join;
    on_a = [];
    on_b = [];
  };
}

-- five double cycles: in the first one node 4, which is arbitrary, says its frame too late to node 1 and too early to
-- node 2 on channel A, and bytes that are no frame to node 3 on channel B. A frame of node 2 to node 3 is lost, one of
-- node 3 to node 1 comes with its eleventh bit inverted. Node 5 listens to node 1 from the beginning, node 6 to node 2
-- in double cycle 1
abbrev pub uneven_files : RunFiles
uneven_files = record {
  params = small_cluster;
  drift_file =
      codes "doubles,5,,,,\n"
      ++ codes "start,1,0,-1,,\n"
      ++ codes "start,2,40000000,1,,\n"
      ++ codes "start,3,25000000,0,,\n"
      ++ codes "length,1,0,1000150,,\n"
      ++ codes "length,2,0,999850,,\n"
      ++ codes "length,3,1,1000008,,\n"
      ++ codes "length,3,4,1000000,,\n"
      ++ codes "length,5,0,1000090,,\n"
      ++ codes "length,6,0,1000090,,\n"
      ++ codes "delay,1,2,A,0,39850000\n"
      ++ codes "delay,1,2,B,0,60050000\n"
      ++ codes "delay,1,5,A,0,39850000\n"
      ++ codes "delay,2,3,A,0,40120000\n"
      ++ codes "delay,2,3,B,0,59910000\n"
      ++ codes "delay,2,3,A,6,39900000\n";
  drift = record {
    doubles = 5;
    compensation_a = pos 40;
    compensation_b = pos 60;
    starts =
        (1, record { ticks = pos 0; rate = neg_ℤ (pos 1) })
        ∷ (2, record { ticks = pos 40_000_000; rate = pos 1 })
        ∷ (3, record { ticks = pos 25_000_000; rate = pos 0 })
        ∷ [];
    lengths =
        (length_key 1 0, pos 1_000_150)
        ∷ (length_key 2 0, pos 999_850)
        ∷ (length_key 3 1, pos 1_000_008)
        ∷ (length_key 3 4, pos 1_000_000)
        ∷ (length_key 5 0, pos 1_000_090)
        ∷ (length_key 6 0, pos 1_000_090)
        ∷ [];
    delays_a =
        (delay_key 1 2 0, pos 39_850_000)
        ∷ (delay_key 1 5 0, pos 39_850_000)
        ∷ (delay_key 2 3 0, pos 40_120_000)
        ∷ (delay_key 2 3 6, pos 39_900_000)
        ∷ [];
    delays_b = (delay_key 1 2 0, pos 60_050_000) ∷ (delay_key 2 3 0, pos 59_910_000) ∷ [];
  };
  script_file =
      codes "arbitrary,4,,,,,\n"
      ++ codes "lose,4,2,3,A,,\n"
      ++ codes "flip,5,3,1,A,10,\n"
      ++ codes "say,0,4,1,A,150000000,\n"
      ++ codes "say,1,4,1,A,150000000,\n"
      ++ codes "say,0,4,2,A,-150000000,\n"
      ++ codes "say,1,4,2,A,-150000000,\n"
      ++ codes "say,0,4,3,B,0,010203\n"
      ++ codes "join,0,5,1,,,\n"
      ++ codes "join,1,6,2,,,\n";
  script = record {
    arbitrary = replicate 4 false ++ true ∷ replicate 60 false;
    joins =
        replicate 5 no_join
        ++ Some (record { double = 0; reference = 1 })
        ∷ Some (record { double = 1; reference = 2 })
        ∷ replicate 58 no_join;
    on_a =
        (passage_of 2 3 4, Lose)
        ∷ (passage_of 3 1 5, Flip 10)
        ∷ (passage_of 4 1 0, Say (pos 150_000_000) None)
        ∷ (passage_of 4 1 1, Say (pos 150_000_000) None)
        ∷ (passage_of 4 2 0, Say (neg_ℤ (pos 150_000_000)) None)
        ∷ (passage_of 4 2 1, Say (neg_ℤ (pos 150_000_000)) None)
        ∷ [];
    on_b = (passage_of 4 3 0, Say (pos 0) (Some (1 ∷ 2 ∷ 3 ∷ []))) ∷ [];
  };
}
