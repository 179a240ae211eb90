-- What the files of a run that nodes join give where they are sharply covered to join.
use Rattle.std.proofs.Common.{◌≡◌, ℕ, ◌+◌, true, ℤ, pos, Some, List, ap, subst}
use Rattle.std.specs.Prelude.{◌≤ℤ◌, ◌*ℤ◌, Contains}
use Rattle.fr_cluster.specs.Sane.{IsSane}
use Rattle.fr_cluster.specs.Setting.{correct_nodes}
use Rattle.fr_cluster.specs.Values.{Values}
use Rattle.fr_cluster.specs.declared.join.Join.{Join}
use Rattle.fr_cluster.specs.declared.nodes.NodeSpec.{NodeSpec}
use Rattle.fr_cluster.proofs.Elements.{kept_filtered}
use Rattle.fr_drift.specs.Files.{DriftFits}
use Rattle.fr_drift.specs.View.{DriftView}
use Rattle.fr_script.specs.Files.{IsScriptFile, ScriptFits}
use Rattle.fr_script.specs.View.{ScriptView, join_of}
use Rattle.fr_script.proofs.Joining.{fits-join}
use Rattle.fr_coverage.specs.Decided.{setting_of}
use Rattle.fr_history.specs.Cycles.{Cycle, Cycles}
use Rattle.fr_history.specs.History.{row_for}
use Rattle.fr_history.specs.Lawful.{IsLawful}
use Rattle.fr_history.specs.Standing.{has_row, has_row_by, row_nodes}
use Rattle.fr_promise.specs.Statement.{IsRunOf}
use Rattle.fr_promise.proofs.Drifts.{drift_of_a_file_fits}
use Rattle.fr_promise.proofs.Stating.{rates_begin, starts_begin, reference_is}
use Rattle.fr_runs.specs.References.{HaveReferences}
use Rattle.fr_runs.specs.Rounds.{IsDoubleOf}
use Rattle.fr_runs.proofs.Lawful.{lawful_cycles_run}
use Rattle.fr_runs.proofs.Rows.{each_row}
use Rattle.fr_runs.proofs.Whole.{double_runs}
use Rattle.fr_bound.specs.SharpBounds.{rate_walk}
use Rattle.fr_runs.specs.SharpHistories.{IsInSharpSyncAt}
use Rattle.fr_sharp.specs.JoinedFiles.{CoveredFilesKeepSharplyJoined, IsSharplyCoveredToJoin, JoinedFilesKeepSharpPrecision}
use Rattle.fr_promise.specs.SharpJoined.{IsSteadyJoinedFrom}
use Rattle.fr_promise.specs.SharpJoining.{sharp_reach}
use Rattle.fr_sharp.specs.SharpStatement.{has_arbitrary}
use Rattle.fr_precision.proofs.BoundLemmas.{first_check_stops_walk}
use Rattle.fr_sharp.proofs.FromFiles.{arbitrary_is_told, files_are_steady}
use Rattle.fr_promise.proofs.JoinedCycles.{joined_histories_keep_sharp_precision}
use Rattle.fr_promise.proofs.JoinedListeners.{joined_listeners_join, joined_listeners_join_up_to}
use Rattle.fr_runs.proofs.Starts.{starts_are_natural}
use Rattle.fr_promise.proofs.Starts.{lengths_are_natural}
use Rattle.fr_promise.proofs.JoinedRuns.{first_rates_last_on, joined_histories_keep_sharp_sync, still_zero}

pub script_of_a_file_fits : (p : Values) (s : ScriptView) (bytes : List ℕ) → IsScriptFile p s bytes → ScriptFits p s
script_of_a_file_fits p s bytes file = record { records = _; none_refused = file.none_refused; stands = file.stands }

pub have_references : (p : Values) (d : DriftView) (s : ScriptView) → ScriptFits p s → HaveReferences (setting_of p d s)
have_references p d s fits node join there at = reference_is p d s node join (fits-join p s fits node.id join at)

joined_run : (p : Values) (d : DriftView) (s : ScriptView) (from flutter : ℕ) (h : Cycles) → IsSane p → ScriptFits p s → IsSharplyCoveredToJoin p d s from flutter → IsRunOf (setting_of p d s) h
    → IsSteadyJoinedFrom (has_arbitrary p s) (setting_of p d s) from flutter h
joined_run p d s from flutter h sane fits covered run =
    record {
      covered = files_are_steady p d s from flutter sane covered.none covered.flutters;
      arbitrary = arbitrary_is_told p d s;
      referenced = have_references p d s fits;
      checks = covered.checks;
      lawful = run.lawful;
      whole = run.whole;
    }

-- a reference has started no earlier than at 0
pub reference_starts : (p : Values) (d : DriftView) (s : ScriptView) (h : Cycles) → IsSane p → DriftFits p d → ScriptFits p s → IsLawful (setting_of p d s) h
    → (node : NodeSpec) (join : Join) → Contains (correct_nodes (setting_of p d s)) node → join_of s node.id ≡ Some join
    → (earlier : Cycles) (even odd : Cycle) → IsDoubleOf h join.double earlier even odd → pos 0 ≤ℤ (row_for even.told.rows join.reference).start
reference_starts p d s h sane fits script_fits lawful node join there at earlier even odd part =
    let x = setting_of p d s in
    let r = have_references p d s script_fits node join there at in
    let runs = double_runs x h join.double earlier even odd part (lawful_cycles_run x h lawful) in
    let all = (starts_are_natural x earlier even sane (λ node cycle correct less. lengths_are_natural p d node.id cycle fits) (rates_begin p d s sane fits) (starts_begin p d s fits) runs.1).0 in
    let has : has_row x earlier r.reference.id ≡ true = ap (has_row_by x earlier r.reference.id) r.stays in
    let among = kept_filtered (λ (n : NodeSpec). has_row x earlier n.id) (correct_nodes x) r.reference r.correct has in
    let Natural : ℕ → Type 0 = λ id. pos 0 ≤ℤ (row_for even.told.rows id).start in
    subst Natural r.named (each_row (row_nodes x earlier) even.told.rows (λ row. pos 0 ≤ℤ row.start) r.reference runs.1.0.rows.nodes among all)

pub covered_files_keep_sharply_joined : CoveredFilesKeepSharplyJoined
covered_files_keep_sharply_joined p d s from flutter h double sane drift_fits script_fits covered run late sync =
    let beside = has_arbitrary p s in
    let x = setting_of p d s in
    let w = joined_run p d s from flutter h sane script_fits covered run in
    let keeps = joined_histories_keep_sharp_sync beside x from flutter h double w late sync in
    record {
      keeps = keeps;
      always =
          λ first passed within.
          let last = λ (m : ℕ). first_rates_last_on beside p flutter (sharp_reach beside p flutter) m sane first covered.checks in
          let stays = keeps passed within (λ m less. last m) in
          let still = (first_check_stops_walk p flutter (sharp_reach beside p flutter) sane).0 first in
          let At : ℤ → Type 0 = λ z. IsInSharpSyncAt beside p flutter z h (double + passed) in
          (subst At (still_zero (rate_walk p flutter) (pos passed *ℤ rate_walk p flutter) still) stays.synced, stays.keeps (last passed));
      on = λ first m within. first_rates_last_on beside p flutter (sharp_reach beside p flutter) m sane first covered.checks;
      cycles = joined_histories_keep_sharp_precision beside x from flutter h double w late sync;
      joins_up_to =
          λ passed within last node join there at after.
          joined_listeners_join_up_to beside x from flutter h double passed node join w late sync within last there at after
          (reference_starts p d s h sane drift_fits script_fits run.lawful node join there at);
      joins =
          λ last node join there at after.
          joined_listeners_join beside x from flutter h double node join w late sync last there at after
          (reference_starts p d s h sane drift_fits script_fits run.lawful node join there at);
    }

pub joined_files_keep_sharp_precision : JoinedFilesKeepSharpPrecision
joined_files_keep_sharp_precision p d s drift script from flutter h double sane drift_file script_file covered run late sync =
    covered_files_keep_sharply_joined p d s from flutter h double sane (drift_of_a_file_fits p d drift drift_file) (script_of_a_file_fits p s script script_file) covered run late sync
