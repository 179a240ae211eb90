-- Files that are accepted, have no gap and begin in sync meet what the headline asks for.
use Rattle.std.proofs.Common.{◌≡◌, ℕ, ◌<◌, ◌≤◌, ◌+◌, ◌*◌, length, Some, None, sym, ◌∙◌, arith}
use Rattle.std.specs.Prelude.{Contains}
use Rattle.fr_base.specs.Event.{Event}
use Rattle.fr_base.specs.Event.Event.{Flip, Regular, Say, Silent}
use Rattle.fr_cluster.specs.Sane.{IsSane}
use Rattle.fr_cluster.specs.Setting.{IsSetting, SaysBytes, Setting, correct_nodes}
use Rattle.fr_cluster.specs.Values.{Values}
use Rattle.fr_cluster.specs.declared.join.Join.{Join}
use Rattle.fr_cluster.specs.declared.nodes.NodeSpec.{NodeSpec}
use Rattle.fr_coverage.specs.Coverage.{first_gap}
use Rattle.fr_coverage.specs.Order.{HasNoGap}
use Rattle.fr_coverage.proofs.GapParts.{found-none}
use Rattle.fr_drift.specs.Files.{IsDriftFile}
use Rattle.fr_drift.specs.Questions.{doubles_of}
use Rattle.fr_history.specs.Cycles.{Cycle, cycle_at}
use Rattle.fr_history.specs.Lawful.{IsLawful}
use Rattle.fr_history.specs.Next.{cycles_of}
use Rattle.fr_history.specs.Unfollowed.{IsFirstUnfollowedSync, IsUnfollowedSyncAt, first_unfollowed_sync_of}
use Rattle.fr_history.proofs.Parts.{cycle_at-cycles_of}
use Rattle.fr_history.proofs.UnfollowedSync.{first_unfollowed_sync_is}
use Rattle.fr_promise.specs.Statement.{IsRunOf}
use Rattle.fr_promise.proofs.Promising.{the_headline}
use Rattle.fr_runs.specs.Stated.{all_cycles}
use Rattle.fr_script.specs.Files.{IsScriptFile}
use Rattle.fr_script.specs.Events.{IsProperEvent}
use Rattle.fr_script.specs.View.{IsScript, join_of}
use Rattle.fr_worked.specs.RunFiles.{KeepFromTheStart, RunFiles, JoinsInTime, run_of_files}
use Rattle.fr_promise.proofs.Stating.{is_setting as files_are_a_setting}

-- whatever the numbers of the files, the run is one of a cluster, in which bytes are said
says_bytes : (e : Event) → IsProperEvent e → SaysBytes e
says_bytes Regular proper = tt
says_bytes Silent proper = tt
says_bytes (Flip bit) proper = tt
says_bytes (Say shift None) proper = tt
says_bytes (Say shift (Some bytes)) proper = proper.said.small

-- the first cycles of a run are those of a shorter one
pub first_two : (x : Setting) (n cycle : ℕ) (c : Cycle) → 2 ≤ n → cycle < 2 → cycle_at (cycles_of x 2) cycle ≡ Some c → cycle_at (cycles_of x n) cycle ≡ Some c
first_two x n cycle c long early is = cycle_at-cycles_of x cycle n (omega (arith, long, early)) ∙ sym (cycle_at-cycles_of x cycle 2 early) ∙ is

-- so where the first two are in sync the run is
begins_longer : (p : Values) (x : Setting) (n : ℕ) → 2 ≤ n → IsUnfollowedSyncAt p (cycles_of x 2) 0 → IsUnfollowedSyncAt p (cycles_of x n) 0
begins_longer p x n long u =
    let s = u.synced in
    record {
      synced = record {
        even = s.even;
        odd = s.odd;
        has_even = first_two x n 0 s.even long (omega arith) s.has_even;
        has_odd = first_two x n 1 s.odd long (omega arith) s.has_odd;
        in_sync = s.in_sync;
      };
      none_early = u.none_early;
      none_late = u.none_late;
    }

-- what is computed of files
pub record AreWorked (f : RunFiles) : Type 0 where
  pub sane : IsSane f.params
  pub drift : IsDriftFile f.params f.drift f.drift_file
  pub script : IsScriptFile f.params f.script f.script_file
  pub proper : IsScript f.script
  pub none : first_gap f.params f.drift f.script ≡ None
  pub long : 1 ≤ doubles_of f.drift
  pub begins : first_unfollowed_sync_of f.params (cycles_of (run_of_files f) 2) ≡ Some 0

has_no_gap : (f : RunFiles) → AreWorked f → HasNoGap f.params f.drift f.script
has_no_gap f w g is = found-none f.params f.drift f.script g w.sane w.none is

pub keep_from_the_start : (f : RunFiles) → ((x : Setting) (n : ℕ) → IsSetting x → IsLawful x (cycles_of x n)) → ((x : Setting) (n : ℕ) → length (cycles_of x n) ≡ n) → AreWorked f
    → KeepFromTheStart f
keep_from_the_start f lawful long w =
    let x : Setting = run_of_files f in
    let run : IsRunOf x (all_cycles x) = record { lawful = lawful x (2 * x.doubles) (files_are_a_setting f.params f.drift f.script w.sane w.proper); whole = long x (2 * x.doubles) } in
    let first : IsFirstUnfollowedSync f.params (all_cycles x) 0 = record {
      unfollowed = begins_longer f.params x (2 * x.doubles) (let least = w.long in omega (arith, least)) (first_unfollowed_sync_is f.params (cycles_of x 2) 0 w.begins).unfollowed;
      first = λ earlier less sync. absurd (omega (arith, less));
    } in
    record {
      sane = w.sane;
      drift = w.drift;
      script = w.script;
      none = w.none;
      run = run;
      first = first;
      keeps = the_headline f.params f.drift f.script f.drift_file f.script_file (all_cycles x) 0 w.sane w.drift w.script (has_no_gap f w) run first;
    }

pub takes_part : (f : RunFiles) (node : NodeSpec) (join : Join) → KeepFromTheStart f → Contains (correct_nodes (run_of_files f)) node → join_of f.script node.id ≡ Some join
    → 2 * join.double + 6 < 2 * doubles_of f.drift → JoinsInTime f node.id join
takes_part f node join w among listens soon = record { listens = listens; soon = soon; joined = w.keeps.joins node join among listens (omega arith) }
