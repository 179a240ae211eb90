-- Worked files that nodes join are traced: their run meets what is asked of it.
use Rattle.fr_cluster.specs.Setting.{Setting}
use Rattle.fr_coverage.proofs.GapParts.{found-none}
use Rattle.fr_drift.specs.Files.{DriftFits}
use Rattle.fr_promise.specs.Files.{CoveredFilesAreStated}
use Rattle.fr_runs.specs.Stated.{all_cycles}
use Rattle.fr_script.specs.Files.{ScriptFits}
use Rattle.fr_text.specs.Records.{records_of}
use Rattle.fr_verdict.specs.CoveredRuns.{AreCyclesOfCovered, CoveredRunsKeepArrivals, CoveredRunsPass}
use Rattle.fr_verdict.specs.FileRuns.{FilesKeepRanges, RunsOfFilesAreReadBack}
use Rattle.fr_worked.proofs.FilesKept.{AreWorked}
use Rattle.fr_worked.specs.RunFiles.{KeepFromTheStart, RunFiles, run_of_files}
use Rattle.fr_worked.specs.TracedFiles.{AreTraced}

pub are_traced : CoveredFilesAreStated → FilesKeepRanges → RunsOfFilesAreReadBack → CoveredRunsKeepArrivals → CoveredRunsPass → (f : RunFiles) → AreWorked f → KeepFromTheStart f → AreTraced f
are_traced stated ranges read arrivals pass f w keep =
    let x : Setting = run_of_files f in
    let drift : DriftFits f.params f.drift = record { records = records_of f.drift_file; none_refused = w.drift.none_refused; stands = w.drift.stands } in
    let script : ScriptFits f.params f.script = record { records = records_of f.script_file; none_refused = w.script.none_refused; stands = w.script.stands } in
    let covered : AreCyclesOfCovered x (all_cycles x) = record {
      stated = stated f.params f.drift f.script w.sane drift script w.proper (λ g is. found-none f.params f.drift f.script g w.sane w.none is);
      lawful = keep.run.lawful;
      whole = keep.run.whole;
    } in
    record {
      ranges = ranges f.params f.drift f.script w.sane drift script;
      arrivals = arrivals x (all_cycles x) covered;
      read = read f.params f.drift f.script (all_cycles x) w.sane drift script keep.run.lawful keep.run.whole;
      passes = pass x (all_cycles x) covered;
    }
