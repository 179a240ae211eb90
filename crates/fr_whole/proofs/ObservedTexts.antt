-- The text of a log means what its clause says, by the laws of logs that are seen of a run.
use Rattle.std.proofs.Common.{◌≡◌, ◌∙◌, ◌||◌, ℕ, pos, List, [], ◌++◌, ap, append_assoc, refl, subst, sym}
use Rattle.std.specs.Prelude.{All, Contains, Some, false, true}
use Rattle.fr_base.specs.declared.node_row.NodeRow.{NodeRow}
use Rattle.fr_bound.specs.declared.judging.Heard.{Heard}
use Rattle.fr_cluster.specs.Values.{Values}
use Rattle.fr_course.specs.Readings.{reading_scale}
use Rattle.fr_log.specs.View.{LogView}
use Rattle.fr_sightings.specs.Sightings.{offending_frames_of, sightings_of, tally_of}
use Rattle.fr_sightings.specs.Sure.{are_numbers_sure}
use Rattle.fr_sightings.specs.declared.sender.Sender.{Sender}
use Rattle.fr_observe.specs.Faults.{asks_judged, asks_own_slots, stated_flutter}
use Rattle.fr_observe.specs.Observing.{even_high, even_low, odd_high, odd_low, precision_row, says_of, seen_doubles}
use Rattle.fr_observe.specs.declared.fault.Fault.{Fault}
use Rattle.fr_judging.specs.Hearing.{log_heard, log_precision}
use Rattle.fr_findings.specs.Census.{census_text}
use Rattle.fr_findings.specs.Counting.{cycles_told, log_row}
use Rattle.fr_findings.specs.Text.{all_told, end_told, numbers_row, observe_text, sync_row, verdict_row, whole_told}
use Rattle.fr_findings.specs.Verdict.{log_basis, log_progress, no_progress, told_of_doubles, verdict_of}
use Rattle.fr_findings.specs.declared.progress.Reach.{Reach}
use Rattle.fr_findings.specs.declared.verdict.Verdict.{Verdict}
use Rattle.fr_findings.specs.declared.verdict.Verdict.TheVariants as verdict
use Rattle.fr_seen.specs.LogSeen.{EvenWordsHold, ObservedNextRowsHold, ObservedRowsHold, OddWordsHold, SaysSo, log_senders, sender_rows}
use Rattle.fr_seen_runs.specs.InTime.{NearIsTimely}
use Rattle.fr_seen.specs.LogDoubles.{DoublesAreThere}
use Rattle.fr_seen_runs.specs.NotContradicted.{NoRunHasOwnFaults, NoRunIsContradicted, WithinIsSo, WithinIsThere, WithinReachesEnd}
use Rattle.fr_seen_runs.specs.OverRows.{OverIsCounted, OverIsSo, RowIsOver, over_rows}
use Rattle.fr_seen_runs.specs.Standings.{MissingsAreSo, SpreadIsSo, SpreadsAreSo, log_missing, log_spreads}
use Rattle.fr_seen_runs.specs.ToldDoubles.{TextTellsDoubles}
use Rattle.fr_seen_runs.specs.ToldFaults.{NoFaultIsTold, ToldFaultsAskEither, ToldFaultsAskJudged, ToldFaultsAskOwnSlots, VerdictTellsFirst, log_faults}
use Rattle.fr_whole.specs.ObservedText.{FaultsAreSo, IsContradicted, IsObservedText, IsStated, KeepsReach, ObservedRun, RowsAreSo}

pub record SeenLaws : Type 0 where
  pub told : TextTellsDoubles
  pub there : DoublesAreThere
  pub rows : ObservedRowsHold
  pub next_rows : ObservedNextRowsHold
  pub even_says : EvenWordsHold
  pub odd_says : OddWordsHold
  pub either : ToldFaultsAskEither
  pub stated : ToldFaultsAskOwnSlots
  pub own : ToldFaultsAskJudged
  pub none : NoFaultIsTold
  pub first : VerdictTellsFirst
  pub not_stated : NoRunIsContradicted
  pub asks : NoRunHasOwnFaults
  pub counted : OverIsCounted
  pub over : OverIsSo
  pub within_there : WithinIsThere
  pub within : WithinIsSo
  pub reaches : WithinReachesEnd
  pub spreads : SpreadsAreSo
  pub missed : MissingsAreSo
  pub timely : NearIsTimely

-- ---- the last row

abbrev before_verdict : Values → LogView → List ℕ
before_verdict p l =
    let b = log_basis p l in
    let seen = sightings_of p l in
    let progress = log_progress b seen (offending_frames_of p l) in
    precision_row b.precision (stated_flutter p l) l.lost
    ++ (told_of_doubles b seen (offending_frames_of p l) no_progress (seen_doubles seen)
    ++ (census_text p l seen
    ++ (log_row (tally_of p l) ++ numbers_row (are_numbers_sure p l) ++ sync_row progress ++ cycles_told seen progress.counts)))

last_row : (p : Values) (l : LogView) → observe_text p l ≡ before_verdict p l ++ verdict_row (verdict_of p l)
unfolding observe_text whole_told all_told end_told verdict_of
last_row p l =
    let b = log_basis p l in
    let seen = sightings_of p l in
    let progress = log_progress b seen (offending_frames_of p l) in
    let first : List ℕ = precision_row b.precision (stated_flutter p l) l.lost in
    let told : List ℕ = told_of_doubles b seen (offending_frames_of p l) no_progress (seen_doubles seen) in
    let census : List ℕ = census_text p l seen in
    let holds : List ℕ = log_row (tally_of p l) ++ numbers_row (are_numbers_sure p l) ++ sync_row progress ++ cycles_told seen progress.counts in
    let last : List ℕ = verdict_row (verdict_of p l) in
    let one : census ++ (holds ++ last) ≡ (census ++ holds) ++ last = sym (append_assoc census holds last) in
    let two : told ++ (census ++ (holds ++ last)) ≡ (told ++ (census ++ holds)) ++ last =
    ap (λ (x : List ℕ). told ++ x) one ∙ sym (append_assoc told (census ++ holds) last) in
    ap (λ (x : List ℕ). first ++ x) two ∙ sym (append_assoc first (told ++ (census ++ holds)) last)

-- ---- rows

-- what a row says of the precision is so, by some parameters
abbrev even_said : LogView → Values → List NodeRow → List Sender → Type 0
even_said l p rows senders =
    SaysSo p false rows (pos (log_precision p l)) (says_of (pos (log_precision p l)) (even_low (reading_scale l.drift p) senders) (even_high (reading_scale l.drift p) senders))

abbrev odd_said : LogView → Values → List NodeRow → List Sender → Type 0
odd_said l p rows senders =
    SaysSo p true rows (pos (log_precision p l)) (says_of (pos (log_precision p l)) (odd_low (reading_scale l.drift p) senders) (odd_high (reading_scale l.drift p) senders))

rows_are_so : SeenLaws → (p : Values) (l : LogView) (run : ObservedRun p l) → RowsAreSo p l run
rows_are_so laws p l run =
    let x = run.setting in
    let o = run.observed in
    record {
      there = λ double has.
          laws.there x run.cycles run.base run.delays run.clock l double o (subst (λ (q : Values). Contains (seen_doubles (sightings_of q l)) double) (sym run.of_params) has);
      rows = λ double even odd at. laws.rows x run.cycles run.base run.delays run.clock l double even odd o.timed o.log o.seen at;
      next_rows = λ double even odd next_even next_odd at next.
          laws.next_rows x run.cycles run.base run.delays run.clock l double even odd next_even next_odd o.timed o.log o.seen at next;
      even_says = λ double even odd at.
          subst (λ (q : Values). even_said l q (sender_rows even (log_senders x l double)) (log_senders x l double)) run.of_params
          (laws.even_says x run.cycles run.base run.delays run.clock l double even odd (pos (log_precision x.params l)) o.timed o.log o.seen at);
      odd_says = λ double even odd next_even next_odd at next.
          subst (λ (q : Values). odd_said l q (sender_rows odd (log_senders x l double)) (log_senders x l double)) run.of_params
          (laws.odd_says x run.cycles run.base run.delays run.clock l double even odd next_even next_odd (pos (log_precision x.params l)) o.timed o.log o.seen at next);
    }

-- ---- faults

faults_are_so : SeenLaws → (p : Values) (l : LogView) (run : ObservedRun p l) → FaultsAreSo p l run
faults_are_so laws p l run =
    let x = run.setting in
    let o = run.observed in
    record {
      either = subst (λ (q : Values). All (λ (fault : Fault). (asks_judged fault || asks_own_slots fault) ≡ true) (log_faults q l)) run.of_params
          (laws.either x run.cycles run.base run.delays run.clock l o);
      stated = λ stated.
          subst (λ (q : Values). All (λ (fault : Fault). asks_own_slots fault ≡ true) (log_faults q l)) run.of_params
          (laws.stated x run.cycles run.base run.delays run.clock l o stated);
      own = λ own.
          subst (λ (q : Values). All (λ (fault : Fault). asks_judged fault ≡ true) (log_faults q l)) run.of_params
          (laws.own x run.cycles run.base run.delays run.clock l o own);
      none = λ stated own.
          subst (λ (q : Values). log_faults q l ≡ []) run.of_params (laws.none x run.cycles run.base run.delays run.clock l o stated own);
    }

-- ---- verdicts

-- a verdict by the parameters of a run
by_run : (p : Values) (l : LogView) (run : ObservedRun p l) (told : Verdict) → verdict_of p l ≡ told → verdict_of run.setting.params l ≡ told
by_run p l run told is = subst (λ (q : Values). verdict_of q l ≡ told) (sym run.of_params) is

contradicted : SeenLaws → (p : Values) (l : LogView) (run : ObservedRun p l) (fault : Fault) → verdict_of p l ≡ verdict.No fault → IsContradicted p l fault run
contradicted laws p l run fault is =
    let told = by_run p l run (verdict.No fault) is in
    record {
      not_stated = λ own stated. laws.not_stated run.setting run.cycles run.base run.delays run.clock l fault run.observed stated own told;
      asks = λ own. laws.asks run.setting run.cycles run.base run.delays run.clock l fault run.observed own told;
    }

within_so : SeenLaws → (p : Values) (l : LogView) (run : ObservedRun p l) (reach : Reach) → verdict_of p l ≡ verdict.Within reach → KeepsReach p l reach run
within_so laws p l run reach is =
    let told = by_run p l run (verdict.Within reach) is in
    record {
      there = λ cycle from to. laws.within_there run.setting run.cycles run.base run.delays run.clock l reach cycle run.observed told from to;
      within = λ double even odd at. laws.within run.setting run.cycles run.base run.delays run.clock l reach double even odd run.observed told at;
    }

over_so : SeenLaws → (p : Values) (l : LogView) (run : ObservedRun p l) → All (RowIsOver run.setting run.cycles run.base l) (over_rows p l)
over_so laws p l run =
    subst (λ (q : Values). All (RowIsOver run.setting run.cycles run.base l) (over_rows q l)) run.of_params
    (laws.over run.setting run.cycles run.base run.delays run.clock l run.observed)

-- ---- what is known

spreads_so : SeenLaws → (p : Values) (l : LogView) (run : ObservedRun p l) (what : Heard) → IsStated p l run → log_heard p l ≡ Some what
    → All (SpreadIsSo run.setting run.cycles run.base l what) (log_spreads p l)
spreads_so laws p l run what stated heard =
    let here = subst (λ (q : Values). log_heard q l ≡ Some what) (sym run.of_params) heard in
    subst (λ (q : Values). All (SpreadIsSo run.setting run.cycles run.base l what) (log_spreads q l)) run.of_params
    (laws.spreads run.setting run.cycles run.base run.delays run.clock l what run.observed stated here)

pub observed_text : SeenLaws → (p : Values) (l : LogView) → IsObservedText p l (observe_text p l)
observed_text laws p l = record {
  shown = refl;
  front = before_verdict p l;
  ends = last_row p l;
  told = laws.told p l;
  rows = rows_are_so laws p l;
  faults = faults_are_so laws p l;
  no = contradicted laws p l;
  first = laws.first p l;
  over = over_so laws p l;
  counted = laws.counted p l;
  within = within_so laws p l;
  reaches = laws.reaches p l;
  spreads = spreads_so laws p l;
  missed = λ run m hearing before hears has.
      laws.missed run.setting run.cycles run.base run.delays run.clock l m hearing run.observed before hears
      (subst (λ (q : Values). Contains (log_missing q l) m) (sym run.of_params) has);
  sure = λ sure run.
      laws.timely run.setting run.cycles run.base run.delays run.clock l run.from run.read
      (subst (λ (q : Values). are_numbers_sure q l ≡ true) (sym run.of_params) sure);
}
