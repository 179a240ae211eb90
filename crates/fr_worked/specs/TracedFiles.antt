-- The trace of the run of worked files.
use Rattle.fr_history.specs.Cycles.{told_of}
use Rattle.fr_runs.specs.Stated.{all_cycles}
use Rattle.fr_trace.specs.ReadBack.{IsReadBack}
use Rattle.fr_trace.specs.Text.{text_of, trace_in}
use Rattle.fr_verdict.specs.CoveredRuns.{IsPassing}
use Rattle.fr_verdict.specs.RunFits.{KeepsRanges}
use Rattle.fr_verdict.specs.Runs.{KeepsArrivals, trace_of_run}
use Rattle.fr_worked.specs.RunFiles.{RunFiles, run_of_files}

-- the run of some files meets what is asked of one whose trace is read back and is lawful; so its trace is read back, breaks no law,
-- and has no gap
pub record AreTraced (f : RunFiles) : Type 0 where
  pub ranges : KeepsRanges (run_of_files f)
  pub arrivals : KeepsArrivals (run_of_files f) (all_cycles (run_of_files f))
  pub read :
      IsReadBack f.params (trace_of_run (run_of_files f) (all_cycles (run_of_files f)))
      (text_of (trace_in (run_of_files f) (told_of (all_cycles (run_of_files f)))))
  pub passes : IsPassing f.params (trace_of_run (run_of_files f) (all_cycles (run_of_files f)))
