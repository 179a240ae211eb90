-- What is traced is checked: the verdict on the trace of covered files tells what the report of their run tells.
use Rattle.std.proofs.Common.{◌≡◌, inl, inr, ℕ, List, ◌++◌, codes, length, Option, None, Some, Result, Ok, Err, refl, ap, sym, ◌∙◌, subst}
use Rattle.std.specs.Prelude.{filter}
use Rattle.std.specs.Fmt.{decimal}
use Rattle.std.specs.Option.{option_map}
use Rattle.std.proofs.lemmas.List.{length-map}
use Rattle.fr_bound.specs.Bounds.{precision_of}
use Rattle.fr_check.specs.CheckAnswer.{IsUnlawfulSaid, IsVerdictText}
use Rattle.fr_check.specs.VerdictText.{verdict_text}
use Rattle.fr_cluster.specs.Setting.{Setting}
use Rattle.fr_cluster.specs.Values.{Values}
use Rattle.fr_cluster.specs.declared.nodes.NodeSpec.{NodeSpec}
use Rattle.fr_coverage.specs.Coverage.{first_gap}
use Rattle.fr_coverage.specs.Decided.{setting_of}
use Rattle.fr_coverage.specs.Order.{HasNoGap}
use Rattle.fr_coverage.specs.Phrases.{precision_text, skew_text, sync_text}
use Rattle.fr_coverage.specs.declared.gap.Gap.{Gap}
use Rattle.fr_drift.specs.View.{DriftView}
use Rattle.fr_history.specs.Cycles.{Cycles, told_of}
use Rattle.fr_history.specs.Lawful.{IsLawful}
use Rattle.fr_history.specs.Next.{cycles_of}
use Rattle.fr_history.specs.Skew.{greatest_skew_of}
use Rattle.fr_history.specs.Unfollowed.{first_unfollowed_sync_of}
use Rattle.fr_lines.specs.Text.{greatest_line, report_of, told_text}
use Rattle.fr_lines.specs.Told.{run_told}
use Rattle.fr_promise.specs.Files.{CoveredFilesAreStated}
use Rattle.fr_report.specs.RunText.{IsGapFound, IsRunText}
use Rattle.fr_report.specs.TraceAnswer.{IsTraceText}
use Rattle.fr_script.specs.View.{ScriptView}
use Rattle.fr_skew.specs.declared.peak.Peak.{Peak}
use Rattle.fr_text.specs.Lines.{shown}
use Rattle.fr_text.specs.Pieces.{line}
use Rattle.fr_trace.specs.ReadBack.{IsReadBack}
use Rattle.fr_trace.specs.Trace.{TraceView}
use Rattle.fr_verdict.specs.Answer.{IsJudgement, IsVerdict, SomeAnswer}
use Rattle.fr_verdict.specs.CoveredRuns.{AreCyclesOfCovered, CoveredRunsPass, IsPassing, TellsGreatest, VerdictsTellGreatest, VerdictsTellSync, VerdictsTellSyncAlone, IsSyncByTrace}
use Rattle.fr_verdict.specs.FileRuns.{FilesKeepRanges, FilesThatNoneJoins, RunsOfFilesAreReadBack}
use Rattle.fr_verdict.specs.Precision.{CheckedTracesKeepPrecision}
use Rattle.fr_verdict.specs.RunFits.{IsFitting, RunsFit}
use Rattle.fr_verdict.specs.Runs.{trace_of_run}
use Rattle.fr_verdict.specs.declared.unlawful.Unlawful.{Unlawful}
use Rattle.fr_verdict.specs.declared.unlawful.Verdict.{Verdict}
use Rattle.fr_answer.specs.Rounds.{WhatIsTracedAloneIsChecked, WhatIsTracedIsChecked, told_verdict}

-- ---- a trace that passes has a verdict

judged : (p : Values) (t : TraceView) → IsPassing p t → (a : Result Verdict Unlawful) → IsJudgement p t a → (v : Verdict) × IsVerdict p t v
judged p t passes (Ok v) is = (v, is)
judged p t passes (Err u) (inl breach) = absurd (passes.lawful u breach.is_breach)
judged p t passes (Err u) (inr gap) = absurd (passes.covered gap.gap gap.first.is_gap)

never-said : (p : Values) (t : TraceView) (said : List ℕ) → IsPassing p t → IsUnlawfulSaid p t said → ⊥
never-said p t said passes refusal = by refusal.answered
  where
    by : IsJudgement p t (Err refusal.why) → ⊥
    by (inl breach) = passes.lawful refusal.why breach.is_breach
    by (inr gap) = passes.covered gap.gap gap.first.is_gap

-- ---- its lines are those of what is told of the run

verdict-is : (x : Setting) (h : Cycles) (v : Verdict) → TellsGreatest x h v → verdict_text x.params (trace_of_run x h) v ≡ told_verdict (run_told x None h) v.synced
unfolding run_told
verdict-is x h v tells =
    let named : length (trace_of_run x h).arbitrary ≡ length (filter (λ (node : NodeSpec). x.is_arbitrary node.id) x.params.nodes) = length-map (filter (λ (node : NodeSpec). x.is_arbitrary node.id) x.params.nodes) (λ (node : NodeSpec). node.id) in
    let skew : line (skew_text v.skew v.cycle v.macrotick) ≡ shown (option_map greatest_line (greatest_skew_of x.params (told_of h))) =
    (λ i. line (skew_text (tells.skew i) (tells.cycle i) (tells.macrotick i)))
    ∙ sym (ap (λ (o : Option Peak). shown (option_map greatest_line o)) tells.greatest)
    in
    λ i. line (codes "trace nodes " ++ decimal (length x.params.nodes) ++ codes " arbitrary " ++ decimal (named i) ++ codes " doubles " ++ decimal x.doubles)
    ++ line (precision_text (precision_of x.params))
    ++ line (sync_text v.synced)
    ++ skew i

told-sync : (x : Setting) (h : Cycles) → (run_told x None h).synced ≡ first_unfollowed_sync_of x.params h
unfolding run_told
told-sync x h = refl

no-gap : (p : Values) (d : DriftView) (s : ScriptView) → HasNoGap p d s → IsGapFound p d s (first_gap p d s) → first_gap p d s ≡ None
no-gap p d s none is = by (first_gap p d s) refl is
  where
    by : (o : Option Gap) → first_gap p d s ≡ o → IsGapFound p d s o → first_gap p d s ≡ None
    by None e f = e
    by (Some g) e f = absurd (none g f.is_gap)

report-is : (x : Setting) (o : Option Gap) (h : Cycles) → o ≡ None → report_of x o h ≡ told_text (run_told x None h)
unfolding report_of
report-is x o h none = ap (λ (g : Option Gap). told_text (run_told x g h)) none

told-gap : (x : Setting) (h : Cycles) → (run_told x None h).gap ≡ None
unfolding run_told
told-gap x h = refl

-- ---- the laws

-- the cycles of a report are those of the trace, and what it tells is told of a run without a gap
one-run : ((x : Setting) (h : Cycles) → IsLawful x h → h ≡ cycles_of x (length h)) → (p : Values) (d : DriftView) (s : ScriptView) (traced report : List ℕ) → HasNoGap p d s
    → (trace : IsTraceText p d s traced) → IsRunText p d s report → report ≡ told_text (run_told (setting_of p d s) None trace.cycles)
one-run one p d s traced report none trace run =
    let x : Setting = setting_of p d s in
    let same : run.cycles ≡ trace.cycles = one x run.cycles run.run.lawful ∙ ap (cycles_of x) (run.run.whole ∙ sym trace.whole) ∙ sym (one x trace.cycles trace.lawful) in
    run.shown ∙ ap (report_of x (first_gap p d s)) same ∙ report-is x (first_gap p d s) trace.cycles (no-gap p d s none run.figures.gap)

pub what-is-traced : ((x : Setting) (h : Cycles) → IsLawful x h → h ≡ cycles_of x (length h)) → CoveredFilesAreStated → FilesKeepRanges → RunsOfFilesAreReadBack → CoveredRunsPass → VerdictsTellGreatest
    → VerdictsTellSync → SomeAnswer → CheckedTracesKeepPrecision → RunsFit → WhatIsTracedIsChecked
what-is-traced one stated ranges back pass greatest synced some keep fit p d s traced report sane drift script none trace run =
    let x : Setting = setting_of p d s in
    let h : Cycles = trace.cycles in
    let read : IsReadBack p (trace_of_run x h) traced = subst (IsReadBack p (trace_of_run x h)) (sym trace.shown) (back p d s h sane drift script.fits trace.lawful trace.whole) in
    let w : AreCyclesOfCovered x h = record { stated = stated p d s sane drift script.fits script.proper none; lawful = trace.lawful; whole = trace.whole } in
    let passes : IsPassing p (trace_of_run x h) = pass x h w in
    let is : IsFitting x h = fit x h (ranges p d s sane drift script.fits) trace.lawful trace.whole in
    let found = some p (trace_of_run x h) sane is.trace in
    let own = judged p (trace_of_run x h) passes found.0 found.1 in
    let written : IsVerdictText p (trace_of_run x h) (verdict_text p (trace_of_run x h) own.0) = record {
      verdict = own.0;
      answered = own.1;
      precise = keep p (trace_of_run x h) own.0 sane is.trace is.fits own.1;
      shown = refl;
    } in
    record {
      trace = trace_of_run x h;
      read = read;
      passes = passes;
      verdict = verdict_text p (trace_of_run x h) own.0;
      written = written;
      same = λ text is_text. record {
        told = run_told x None h;
        covered = told-gap x h;
        reported = one-run one p d s traced report none trace run;
        synced = is_text.verdict.synced;
        are_synced = subst (λ (o : Option ℕ). IsSyncByTrace (trace_of_run x h) o is_text.verdict.synced) (sym (told-sync x h)) (synced x h is_text.verdict w is_text.answered);
        judged = is_text.shown ∙ verdict-is x h is_text.verdict (greatest x h is_text.verdict is_text.answered);
      };
      never = λ said refusal. never-said p (trace_of_run x h) said passes refusal;
      done = λ params bytes fits. inr (p, bytes, inr (trace_of_run x h, record { fits = fits; accepted = read.accepted }, (verdict_text p (trace_of_run x h) own.0, written)));
    }

pub what-is-traced-alone : ((x : Setting) (h : Cycles) → IsLawful x h → h ≡ cycles_of x (length h)) → FilesThatNoneJoins → RunsOfFilesAreReadBack → VerdictsTellGreatest → VerdictsTellSyncAlone
    → WhatIsTracedAloneIsChecked
what-is-traced-alone one none_joins back greatest synced p d s traced report t verdict sane drift script alone none trace run file text =
    let x : Setting = setting_of p d s in
    let h : Cycles = trace.cycles in
    let read : IsReadBack p (trace_of_run x h) traced = subst (IsReadBack p (trace_of_run x h)) (sym trace.shown) (back p d s h sane drift script.fits trace.lawful trace.whole) in
    let is : IsVerdictText p (trace_of_run x h) verdict = subst (λ (u : TraceView). IsVerdictText p u verdict) (read.alone t file) text in
    record {
      told = run_told x None h;
      covered = told-gap x h;
      reported = one-run one p d s traced report none trace run;
      synced = is.verdict.synced;
      are_synced = synced x h is.verdict (λ node there. none_joins p d s node.id script.fits alone) sane trace.lawful is.answered ∙ sym (told-sync x h);
      judged = is.shown ∙ verdict-is x h is.verdict (greatest x h is.verdict is.answered);
    }
