-- A run in which node 2 begins later than the precision allows, and what comes of it, cycle by cycle.
use Rattle.std.specs.Prelude.{◌==◌, neg_ℤ, pos, [], ◌∷◌, ◌++◌, None, if◌then◌else◌}
use Rattle.fr_base.specs.Rows.{dev_with}
use Rattle.fr_base.specs.declared.channel.Channel.TheVariants.{A}
use Rattle.fr_base.specs.declared.state.State.TheVariants.{Active}
use Rattle.fr_cluster.specs.Setting.{Setting}
use Rattle.fr_history.specs.Cycles.{Cycle, Cycles}
use Rattle.fr_history.specs.Worked.{joined_run, rows_of_some, stored_counts, three_at}

-- the run of three nodes with nominal clocks, over two double cycles in which none joins
abbrev pub late_run : Setting
late_run =
    let run : Setting = joined_run in
    record run {
      doubles = 2;
      start = λ node. if node == 2 then pos 300_000_000 else pos 0;
      join = λ _. None;
    }

-- all three hear each other in the first double cycle, node 2 those of the others 300 microticks early; it is corrected at its end
abbrev pub late_cycle_0 : Cycle
late_cycle_0 = record {
  told = record {
    rows =
        rows_of_some 0 Active (1 ∷ [])
        ++ record { node = 2; start = pos 300_000_000; length = pos 1_000_000; rate = pos 0; offset = pos 0; state = Active; cut = 0 }
        ∷ rows_of_some 0 Active (3 ∷ []);
    devs =
        dev_with 1 2 A (pos 300) ∷ dev_with 1 3 A (pos 0) ∷ dev_with 2 1 A (neg_ℤ (pos 300)) ∷ dev_with 2 3 A (neg_ℤ (pos 300))
        ∷ dev_with 3 1 A (pos 0) ∷ dev_with 3 2 A (pos 300) ∷ [];
    counts = stored_counts 3 1_382_820 6;
  };
  followers = [];
  follower_devs = [];
}

abbrev pub late_cycle_1 : Cycle
late_cycle_1 = record {
  told = record {
    rows =
        rows_of_some 1 Active (1 ∷ [])
        ++ record {
          node = 2;
          start = pos 200_300_000_000;
          length = pos 1_000_000;
          rate = pos 0;
          offset = neg_ℤ (pos 300);
          state = Active;
          cut = 0;
        }
        ∷ rows_of_some 1 Active (3 ∷ []);
    devs =
        dev_with 1 2 A (pos 300) ∷ dev_with 1 3 A (pos 0) ∷ dev_with 2 1 A (neg_ℤ (pos 300)) ∷ dev_with 2 3 A (neg_ℤ (pos 300))
        ∷ dev_with 3 1 A (pos 0) ∷ dev_with 3 2 A (pos 300) ∷ [];
    counts = stored_counts 3 4_748_399 6;
  };
  followers = [];
  follower_devs = [];
}

-- in the second one they start together
abbrev pub late_cycle_2 : Cycle
late_cycle_2 = three_at 2 11_518_514

abbrev pub late_cycle_3 : Cycle
late_cycle_3 = three_at 3 15_904_761

abbrev pub late_1 : Cycles
late_1 = late_cycle_0 ∷ []

abbrev pub late_2 : Cycles
late_2 = late_cycle_1 ∷ late_1

abbrev pub late_3 : Cycles
late_3 = late_cycle_2 ∷ late_2

abbrev pub late_4 : Cycles
late_4 = late_cycle_3 ∷ late_3
