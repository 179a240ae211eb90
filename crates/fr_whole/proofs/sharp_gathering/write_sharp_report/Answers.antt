use Rattle.std.proofs.Common.{◌≡◌, ◌∙◌, ◌*◌, List, ◌++◌, ℕ, Result, Ok, Err, Option, None, Some, ap, ap₂, refl, subst, sym}
use Rattle.std.specs.Prelude.{unwrap_or, IfErr, OnOk}
use Rattle.std.specs.Result.{result_err}
use Rattle.fr_base.specs.Device.{Puts}
use Rattle.fr_base.proofs.Putting.{cut, then}
use Rattle.fr_coverage.specs.Coverage.{first_gap}
use Rattle.fr_coverage.specs.declared.gap.Gap.{Gap}
use Rattle.fr_drift.specs.Questions.{doubles_of}
use Rattle.fr_history.specs.Cycles.{Cycles}
use Rattle.fr_history.specs.Next.{cycles_of}
use Rattle.fr_report.specs.RunText.{run_text}
use Rattle.fr_report.specs.Worlds.{world_text}
use Rattle.fr_text.specs.Lines.{joined_lines}
use Rattle.fr_world.specs.World.{WorldView, setting_after}
use Rattle.fr_series.specs.Basis.{asked_from, basis_of, sharp_figures_of}
use Rattle.fr_coverage.specs.Flutter.{flutter_from}
use Rattle.fr_whole.specs.SharpGaps.{sharp_gaps_of}
use Rattle.fr_whole.specs.declared.sharp_gaps.SharpGaps.{SharpGaps}
use Rattle.fr_whole.specs.SharpReport.{sharp_lines_by, sharp_lines_of}
use Rattle.fr_series.specs.declared.basis.Basis.{Basis}
use Rattle.fr_series.specs.declared.tally.SharpFigures.{SharpFigures}
use Rattle.fr_series.proofs.SharpFollowing.{sharp_figures-none}
use Rattle.fr_whole.proofs.sharp_gathering.write_sharp_report.Goals as goal

abbrev run_of : WorldView → Cycles
run_of w = cycles_of (setting_after w) (2 * doubles_of w.drift)

-- what the sharper bounds say of a world's run
abbrev told_by : WorldView → List ℕ
told_by w = sharp_lines_by w.params w.drift w.script (run_of w)

-- from the first double cycle in sharp sync on
abbrev from_of : WorldView → ℕ
from_of w = asked_from w.params w.drift w.script (run_of w)

-- a text by a basis, gaps and figures is what they say of a world's run, where they are those of the run
told_is : (w : WorldView) (from : ℕ) (b : Basis) (gaps : SharpGaps) (figures : SharpFigures) → figures ≡ sharp_figures_of w.params w.drift w.script (run_of w) → from ≡ unwrap_or figures.synced 0
    → b ≡ basis_of w.params w.drift w.script from → gaps ≡ sharp_gaps_of w.params w.drift w.script b.from b.flutter → sharp_lines_of b gaps figures ≡ told_by w
told_is w from b gaps figures held at is found =
    let here : from ≡ from_of w = at ∙ ap (λ (f : SharpFigures). unwrap_or f.synced 0) held in
    let basis : b ≡ basis_of w.params w.drift w.script (from_of w) = is ∙ ap (basis_of w.params w.drift w.script) here in
    let all : gaps ≡ sharp_gaps_of w.params w.drift w.script (from_of w) (flutter_from w.params w.drift w.script (from_of w)) =
    found ∙ ap (λ (x : Basis). sharp_gaps_of w.params w.drift w.script x.from x.flutter) basis in
    ap (λ (x : Basis). sharp_lines_of x gaps figures) basis
    ∙ ap (λ (x : SharpGaps). sharp_lines_of (basis_of w.params w.drift w.script (from_of w)) x figures) all
    ∙ ap (sharp_lines_of (basis_of w.params w.drift w.script (from_of w)) (sharp_gaps_of w.params w.drift w.script (from_of w) (flutter_from w.params w.drift w.script (from_of w)))) held

-- what is answered is the first gap
told_gap : (answer : Result (Unit {0}) Gap) (found : Option Gap) → OnOk answer (found ≡ None) → IfErr answer (λ gap. found ≡ Some gap) → result_err answer ≡ found
told_gap (Ok done) found none some = sym none
told_gap (Err gap) found none some = sym some

pub run_all-requires-clause-none : goal.run_all-requires-clause-none
run_all-requires-clause-none g c = c.none-figures.ensures ∙ sym (sharp_figures-none c.args.world.now.params c.args.world.now.drift c.args.world.now.script)

pub returns-in_err-put_lines-clause-text : goal.returns-in_err-put_lines-clause-text
returns-in_err-put_lines-clause-text g c =
    let w : WorldView = c.args.world.now in
    let v : WorldView = c.run_all.new.world in
    let is : c.of-basis.result ≡ basis_of v.params v.drift v.script c.unwrap_or.result = c.of-basis.ensures.value ∙ rw (c.params-params.ensures.value, c.drift-drift.ensures.value, c.script-script.ensures.value) refl in
    let found : c.of-gaps.result ≡ sharp_gaps_of v.params v.drift v.script c.of-basis.result.from c.of-basis.result.flutter =
    c.of-gaps.ensures ∙ rw (c.params-params.ensures.value, c.drift-drift.ensures.value, c.script-script.ensures.value) refl in
    let lines : joined_lines c.sharp_report_lines.result ≡ told_by w =
    c.sharp_report_lines.ensures
    ∙ told_is w c.unwrap_or.result c.of-basis.result c.of-gaps.result c.run_all.new.figures c.run_all.ensures.figures c.unwrap_or.ensures
    (is ∙ ap (λ (u : WorldView). basis_of u.params u.drift u.script c.unwrap_or.result) c.run_all.ensures.ran)
    (found ∙ ap (λ (u : WorldView). sharp_gaps_of u.params u.drift u.script c.of-basis.result.from c.of-basis.result.flutter) c.run_all.ensures.ran) in
    let rest : List ℕ = run_text w.params w.drift w.script in
    let P : List ℕ → Type 0 = λ l. Puts c.from_residual.result (g.O.Sink.state c.args.out.now) (g.O.Sink.state c.put_lines.new.out) (l ++ rest) in
    subst P lines (cut c.from_residual.result rest c.in_err-put_lines.ensures c.from_residual.ensures.0)

pub returns-clause-text : goal.returns-clause-text
returns-clause-text g c =
    let w : WorldView = c.args.world.now in
    let v : WorldView = c.run_all.new.world in
    let is : c.of-basis.result ≡ basis_of v.params v.drift v.script c.unwrap_or.result = c.of-basis.ensures.value ∙ rw (c.params-params.ensures.value, c.drift-drift.ensures.value, c.script-script.ensures.value) refl in
    let found : c.of-gaps.result ≡ sharp_gaps_of v.params v.drift v.script c.of-basis.result.from c.of-basis.result.flutter =
    c.of-gaps.ensures ∙ rw (c.params-params.ensures.value, c.drift-drift.ensures.value, c.script-script.ensures.value) refl in
    let lines : joined_lines c.sharp_report_lines.result ≡ told_by w =
    c.sharp_report_lines.ensures
    ∙ told_is w c.unwrap_or.result c.of-basis.result c.of-gaps.result c.run_all.new.figures c.run_all.ensures.figures c.unwrap_or.ensures
    (is ∙ ap (λ (u : WorldView). basis_of u.params u.drift u.script c.unwrap_or.result) c.run_all.ensures.ran)
    (found ∙ ap (λ (u : WorldView). sharp_gaps_of u.params u.drift u.script c.of-basis.result.from c.of-basis.result.flutter) c.run_all.ensures.ran) in
    let same : first_gap c.params-2.result.now c.drift.result.now c.script.result.now ≡ first_gap v.params v.drift v.script =
    rw (c.params-2.ensures.value, c.drift.ensures.value, c.script.ensures.value) refl in
    let gap : result_err c.covered-gap.result ≡ first_gap v.params v.drift v.script =
    told_gap c.covered-gap.result (first_gap c.params-2.result.now c.drift.result.now c.script.result.now) c.covered-gap.ensures.whole c.covered-gap.ensures.gap ∙ same in
    let report : world_text v ≡ run_text w.params w.drift w.script = ap world_text c.run_all.ensures.ran in
    let P : List ℕ → Type 0 = λ l. Puts c.write_report.result (g.O.Sink.state c.args.out.now) (g.O.Sink.state c.write_report.new.out) l in
    subst P (ap₂ (λ (l m : List ℕ). l ++ m) lines report)
    (then {rest = world_text v} c.write_report.result c.in_ok-put_lines.ensures (c.write_report.ensures.first gap))
