use Rattle.std.proofs.Common.{◌≡◌, ◌∙◌, ◌*◌, List, ◌++◌, ℕ, Ok, ap, ap₂, subst, sym, append_assoc, rules}
use Rattle.std.specs.Prelude.{IsOk}
use Rattle.fr_base.specs.Device.{Puts}
use Rattle.fr_base.proofs.Putting.{cut, then}
use Rattle.fr_drift.specs.Questions.{doubles_of}
use Rattle.fr_history.specs.Cycles.{Cycles, told_of}
use Rattle.fr_history.specs.Next.{cycles_of}
use Rattle.fr_text.specs.Lines.{joined_lines}
use Rattle.fr_text.specs.Pieces.{line}
use Rattle.fr_world.specs.World.{setting_after}
use Rattle.fr_series.specs.Figures.{figures_of}
use Rattle.fr_series.specs.SeriesText.{series_end, series_head, series_rows, series_of, series_text}
use Rattle.fr_series.specs.Stopping.{rows_before}
use Rattle.fr_series.proofs.Following.{figures-none}
use Rattle.fr_series.proofs.SeriesRows.{rows-upto}
use Rattle.fr_series.proofs.Stops.{end_of, ends_with, series-parts, stops_at_head, stops_in_rows}
use Rattle.fr_series.proofs.writing.write_series.Goals as goal

pub write_rows-requires-clause-none : goal.write_rows-requires-clause-none
write_rows-requires-clause-none g c = c.none-figures.ensures ∙ sym (figures-none c.args.world.now.params)

pub returns-in_err-put_line-clause-text : goal.returns-in_err-put_line-clause-text
unfolding series_of
returns-in_err-put_line-clause-text g c =
    let w = c.args.world.now in
    let h : Cycles = cycles_of (setting_after w) (2 * doubles_of w.drift) in
    let rest = series_rows w.params (told_of h) ++ series_end (figures_of w.params h) in
    let head : c.head_line.result ≡ line series_head = c.head_line.ensures in
    let P : List ℕ → Type 0 = λ l. Puts c.from_residual.result (g.O.Sink.state c.args.out.now) (g.O.Sink.state c.put_line.new.out) l in
    subst P (ap (λ (l : List ℕ). l ++ rest) head ∙ sym (append_assoc (line series_head) (series_rows w.params (told_of h)) (series_end (figures_of w.params h))))
    (cut c.from_residual.result rest c.in_err-put_line.ensures c.from_residual.ensures.0)

pub returns-in_err-write_rows-clause-text : goal.returns-in_err-write_rows-clause-text
unfolding series_of
returns-in_err-write_rows-clause-text g c =
    let w = c.args.world.now in
    let h : Cycles = cycles_of (setting_after w) (2 * doubles_of w.drift) in
    let rest = series_end (figures_of w.params h) in
    let head : c.head_line.result ≡ line series_head = c.head_line.ensures in
    let both = then _ c.in_ok-put_line.ensures c.in_err-write_rows.ensures.text in
    let P : List ℕ → Type 0 = λ l. Puts c.from_residual-in_err-write_rows.result (g.O.Sink.state c.args.out.now) (g.O.Sink.state c.write_rows.new.out) l in
    subst P (ap (λ (l : List ℕ). (l ++ series_rows w.params (told_of h)) ++ rest) head) (cut c.from_residual-in_err-write_rows.result rest both c.from_residual-in_err-write_rows.ensures.0)

pub returns-clause-text : goal.returns-clause-text
unfolding series_of
returns-clause-text g c =
    let w = c.args.world.now in
    let h : Cycles = cycles_of (setting_after w) (2 * doubles_of w.drift) in
    let head : c.head_line.result ≡ line series_head = c.head_line.ensures in
    let ok : IsOk c.write_rows.result = search rules in
    let figures : c.write_rows.new.figures ≡ figures_of w.params h = c.write_rows.ensures.figures ok in
    let ends : joined_lines c.end_lines.result ≡ series_end (figures_of w.params h) = c.end_lines.ensures ∙ ap series_end figures in
    let P : List ℕ → Type 0 = λ l. Puts c.put_lines.result (g.O.Sink.state c.args.out.now) (g.O.Sink.state c.put_lines.new.out) l in
    subst P (ap₂ (λ (l m : List ℕ). (l ++ series_rows w.params (told_of h)) ++ m) head ends)
    (then c.put_lines.result (then (Ok tt) c.in_ok-put_line.ensures c.in_ok-write_rows.ensures.text) c.put_lines.ensures)

-- ---- what is run

pub returns-in_err-put_line-clause-ran : goal.returns-in_err-put_line-clause-ran
unfolding series_of
returns-in_err-put_line-clause-ran g c =
    let w = c.args.world.now in
    let h : Cycles = cycles_of (setting_after w) (2 * doubles_of w.drift) in
    let rest = series_rows w.params (told_of h) ++ series_end (figures_of w.params h) in
    let head : c.head_line.result ≡ line series_head = c.head_line.ensures in
    let P : List ℕ → Type 0 = λ l. Puts c.from_residual.result (g.O.Sink.state c.args.out.now) (g.O.Sink.state c.put_line.new.out) l in
    let text = subst P (ap (λ (l : List ℕ). l ++ rest) head ∙ sym (append_assoc (line series_head) (series_rows w.params (told_of h)) (series_end (figures_of w.params h)))) (cut c.from_residual.result rest c.in_err-put_line.ensures c.from_residual.ensures.0) in
    stops_at_head (line series_head) (rows_before w) (series_text w.params w.drift w.script) w c.from_residual.result (g.O.Sink.state c.args.out.now) (g.O.Sink.state c.put_line.new.out) c.from_residual.ensures.0 c.requires text

pub returns-in_err-write_rows-clause-ran : goal.returns-in_err-write_rows-clause-ran
returns-in_err-write_rows-clause-ran g c =
    let w = c.args.world.now in
    let head : c.head_line.result ≡ line series_head = c.head_line.ensures in
    let P : List ℕ → Type 0 = λ l. Puts (Ok tt) (g.O.Sink.state c.args.out.now) (g.O.Sink.state c.put_line.new.out) l in
    stops_in_rows (line series_head) (rows_before w) (series_text w.params w.drift w.script) w c.from_residual-in_err-write_rows.result (end_of w) c.write_rows.new.world
    (g.O.Sink.state c.args.out.now) (g.O.Sink.state c.put_line.new.out) (g.O.Sink.state c.write_rows.new.out) c.from_residual-in_err-write_rows.ensures.0 (series-parts w)
    (subst P head c.in_ok-put_line.ensures) c.in_err-write_rows.ensures.ran

pub returns-clause-ran : goal.returns-clause-ran
returns-clause-ran g c =
    let w = c.args.world.now in
    let h : Cycles = cycles_of (setting_after w) (2 * doubles_of w.drift) in
    let head : c.head_line.result ≡ line series_head = c.head_line.ensures in
    let ok : IsOk c.write_rows.result = search rules in
    let figures : c.write_rows.new.figures ≡ figures_of w.params h = c.write_rows.ensures.figures ok in
    let ends : joined_lines c.end_lines.result ≡ series_end (figures_of w.params h) = c.end_lines.ensures ∙ ap series_end figures in
    let P : List ℕ → Type 0 = λ l. Puts (Ok tt) (g.O.Sink.state c.args.out.now) (g.O.Sink.state c.put_line.new.out) l in
    let Q : List ℕ → Type 0 = λ l. Puts c.put_lines.result (g.O.Sink.state c.write_rows.new.out) (g.O.Sink.state c.put_lines.new.out) l in
    ends_with (line series_head) (rows_before w) (series_text w.params w.drift w.script) w c.put_lines.result (end_of w) c.write_rows.new.world (g.O.Sink.state c.args.out.now)
    (g.O.Sink.state c.put_line.new.out) (g.O.Sink.state c.write_rows.new.out) (g.O.Sink.state c.put_lines.new.out) (series-parts w) (λ last le. rows-upto (setting_after w) last (doubles_of w.drift) le)
    c.in_ok-write_rows.ensures.ran (subst P head c.in_ok-put_line.ensures) c.in_ok-write_rows.ensures.text (subst Q ends c.put_lines.ensures)
