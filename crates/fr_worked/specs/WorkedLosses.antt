-- The files of worked runs in which frames are lost, and what they promise: every frame of one cycle, or of an odd one and the next even
-- one, or one frame at one node; and of one beside an arbitrary node.
use Rattle.std.specs.Prelude.{◌≡◌, ◌<◌, ℕ, pos, true, false, [], ◌∷◌, replicate, Option, None}
use Rattle.fr_bound.specs.declared.judging.Heard.TheVariants as heard
use Rattle.fr_cluster.specs.declared.join.Join.{Join}
use Rattle.fr_coverage.specs.Decided.{setting_of}
use Rattle.fr_history.specs.Cycles.{Cycles}
use Rattle.fr_promise.specs.Statement.{IsRunOf}
use Rattle.fr_script.specs.Deeds.{passage_of}
use Rattle.fr_script.specs.View.{ScriptView}
use Rattle.fr_script.specs.declared.deed.Deed.{Deed}
use Rattle.fr_script.specs.declared.deed.Deed.TheVariants as deed
use Rattle.fr_script.specs.declared.deeds.Passage.{Passage}
use Rattle.fr_traffic.specs.Reaching.{whole_in}
use Rattle.fr_sharp.specs.LossStatement.{IsCoveredThroughLosses}
use Rattle.fr_runs.specs.SharpHistories.{IsInSharpSyncAt, KeepsApart}
use Rattle.fr_precision.specs.Among.{both}
use Rattle.fr_traffic.specs.Traffic.{heard_in, traffic_in}
use Rattle.fr_worked.specs.WorkedFiles.{fluttering_drift, marking_script}
use Rattle.fr_sharp.specs.WorkedRun.{steady_cluster}

-- a frame of a cycle from a sender to a receiver
abbrev pub lost_at : ℕ → ℕ → ℕ → Passage × Deed
lost_at cycle sender receiver = (passage_of sender receiver cycle, deed.Lose)

-- every frame of cycle 3, from each of the four nodes to each other: offset values go by the odd cycle, and rate values by both
abbrev pub losing_script : ScriptView
losing_script = record {
  arbitrary = replicate 65 false;
  joins = let none : Option Join = None in replicate 65 none;
  on_a =
      lost_at 3 1 2 ∷ lost_at 3 1 3 ∷ lost_at 3 1 4 ∷ lost_at 3 2 1 ∷ lost_at 3 2 3 ∷ lost_at 3 2 4 ∷ lost_at 3 3 1 ∷ lost_at 3 3 2
      ∷ lost_at 3 3 4 ∷ lost_at 3 4 1 ∷ lost_at 3 4 2 ∷ lost_at 3 4 3 ∷ [];
  on_b = [];
}

-- all is heard in double cycles 0 and 2, and not in double cycle 1; the files are covered through losses, with a reach of 61,281,165 ticks
abbrev pub LosingFilesAreCovered : Type 0
LosingFilesAreCovered =
    (whole_in steady_cluster losing_script 0 ≡ true) × (whole_in steady_cluster losing_script 1 ≡ false)
    × (whole_in steady_cluster losing_script 2 ≡ true)
    × IsCoveredThroughLosses steady_cluster fluttering_drift losing_script 0 250 61_281_165

-- so their run is in sharp sync from the start on, and no macroticks lie further apart than 36,005,494 ticks in double cycle 0,
-- 48,007,094 in the one that loses frames, and 75,011,786 in the one behind it
abbrev pub LosingFilesKeep : Type 0
LosingFilesKeep =
    (h : Cycles) → IsRunOf (setting_of steady_cluster fluttering_drift losing_script) h
    → IsInSharpSyncAt false steady_cluster 250 (pos 0) h 0
    × KeepsApart (setting_of steady_cluster fluttering_drift losing_script) h 0 36_005_494
    × KeepsApart (setting_of steady_cluster fluttering_drift losing_script) h 1 48_007_094
    × KeepsApart (setting_of steady_cluster fluttering_drift losing_script) h 2 75_011_786

-- ---- a burst that does not begin with a double cycle

-- every frame of cycles 3 and 4
abbrev pub crossing_script : ScriptView
crossing_script = record {
  arbitrary = replicate 65 false;
  joins = let none : Option Join = None in replicate 65 none;
  on_a =
      lost_at 3 1 2 ∷ lost_at 4 1 2 ∷ lost_at 3 1 3 ∷ lost_at 4 1 3 ∷ lost_at 3 1 4 ∷ lost_at 4 1 4 ∷ lost_at 3 2 1 ∷ lost_at 4 2 1
      ∷ lost_at 3 2 3 ∷ lost_at 4 2 3 ∷ lost_at 3 2 4 ∷ lost_at 4 2 4 ∷ lost_at 3 3 1 ∷ lost_at 4 3 1 ∷ lost_at 3 3 2 ∷ lost_at 4 3 2
      ∷ lost_at 3 3 4 ∷ lost_at 4 3 4 ∷ lost_at 3 4 1 ∷ lost_at 4 4 1 ∷ lost_at 3 4 2 ∷ lost_at 4 4 2 ∷ lost_at 3 4 3 ∷ lost_at 4 4 3
      ∷ [];
  on_b = [];
}

-- in double cycle 1 nothing is heard, and in double cycle 2 all offsets again, since its odd cycle is whole; the files are covered through
-- losses, with the reach of the loss of one cycle
abbrev pub CrossingFilesAreCovered : Type 0
CrossingFilesAreCovered =
    (heard_in (traffic_in steady_cluster crossing_script) 0 ≡ both heard.Clean)
    × (heard_in (traffic_in steady_cluster crossing_script) 1 ≡ both heard.Poor)
    × (heard_in (traffic_in steady_cluster crossing_script) 2 ≡ record { offsets = heard.Clean; rates = heard.Poor })
    × IsCoveredThroughLosses steady_cluster fluttering_drift crossing_script 0 250 61_281_165

-- no macroticks lie further apart in any of them than where every frame of cycle 3 alone is lost; in double cycle 2 it would be 87,013,386
-- ticks if that were poor of offsets too
abbrev pub CrossingFilesKeep : Type 0
CrossingFilesKeep =
    (h : Cycles) → IsRunOf (setting_of steady_cluster fluttering_drift crossing_script) h
    → IsInSharpSyncAt false steady_cluster 250 (pos 0) h 0
    × KeepsApart (setting_of steady_cluster fluttering_drift crossing_script) h 0 36_005_494
    × KeepsApart (setting_of steady_cluster fluttering_drift crossing_script) h 1 48_007_094
    × KeepsApart (setting_of steady_cluster fluttering_drift crossing_script) h 2 75_011_786

-- ---- one frame at one node

-- the frame of cycle 3 from node 2 to node 1
abbrev pub missing_script : ScriptView
missing_script = record {
  arbitrary = replicate 65 false;
  joins = let none : Option Join = None in replicate 65 none;
  on_a = lost_at 3 2 1 ∷ [];
  on_b = [];
}

-- in double cycle 1 lists meet; and the files are covered through losses, with a reach of 45,726,402 ticks
abbrev pub MissingFilesAreCovered : Type 0
MissingFilesAreCovered =
    (heard_in (traffic_in steady_cluster missing_script) 0 ≡ both heard.Clean) × (heard_in (traffic_in steady_cluster missing_script) 1 ≡ both heard.Meeting)
    × (heard_in (traffic_in steady_cluster missing_script) 2 ≡ both heard.Clean)
    × IsCoveredThroughLosses steady_cluster fluttering_drift missing_script 0 250 45_726_402

-- no macroticks lie further apart than 36,005,494 ticks in double cycle 0 and in the one that loses the frame, and 57,008,790 in the one
-- behind it, where it is 75,011,786 if every frame is lost
abbrev pub MissingFilesKeep : Type 0
MissingFilesKeep =
    (h : Cycles) → IsRunOf (setting_of steady_cluster fluttering_drift missing_script) h
    → IsInSharpSyncAt false steady_cluster 250 (pos 0) h 0
    × KeepsApart (setting_of steady_cluster fluttering_drift missing_script) h 0 36_005_494
    × KeepsApart (setting_of steady_cluster fluttering_drift missing_script) h 1 36_005_494
    × KeepsApart (setting_of steady_cluster fluttering_drift missing_script) h 2 57_008_790

-- ---- beside an arbitrary node

-- in each double cycle lists meet; the files are covered through losses, with a reach of 84,305,863 ticks; and no macroticks lie further
-- apart than 99,015,680 ticks
abbrev pub BesideFilesAreCovered : Type 0
BesideFilesAreCovered =
    ((double : ℕ) → double < 3 → heard_in (traffic_in steady_cluster (marking_script true)) double ≡ both heard.Meeting)
    × IsCoveredThroughLosses steady_cluster fluttering_drift (marking_script true) 0 250 84_305_863

abbrev pub BesideFilesKeep : Type 0
BesideFilesKeep =
    (h : Cycles) → IsRunOf (setting_of steady_cluster fluttering_drift (marking_script true)) h
    → (double : ℕ) → double < 3 → KeepsApart (setting_of steady_cluster fluttering_drift (marking_script true)) h double 99_015_680
