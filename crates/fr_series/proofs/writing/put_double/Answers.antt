use Rattle.std.proofs.Common.{◌≡◌, ◌∙◌, ◌+◌, ◌*◌, ℕ, Bool, Option, List, ◌++◌, ap, ap₂, subst}
use Rattle.fr_base.specs.Device.{Puts}
use Rattle.fr_base.proofs.Putting.{cut, then}
use Rattle.fr_skew.specs.Sync.{are_in_sync}
use Rattle.fr_skew.specs.declared.peak.Peak.{Peak}
use Rattle.fr_text.specs.Pieces.{line}
use Rattle.fr_series.specs.Scale.{peak_by}
use Rattle.fr_series.specs.SeriesText.{series_row}
use Rattle.fr_series.proofs.writing.put_double.Goals as goal

pub returns-in_err-put_line-clause-text : goal.returns-in_err-put_line-clause-text
returns-in_err-put_line-clause-text g c =
    let scale = c.args.scale.now in
    let in_sync : Bool = are_in_sync scale.bounds c.args.even.now c.args.odd.now in
    let cycle : ℕ = 2 * c.args.double in
    let rest = line (series_row (cycle + 1) in_sync (peak_by scale.grid (cycle + 1) c.args.odd.now)) in
    let even : ℕ → List ℕ = λ double. line (series_row (2 * double) in_sync (peak_by scale.grid (2 * double) c.args.even.now)) in
    let told : c.cycle_line.result ≡ even c.double.inside.0 =
    c.cycle_line.ensures ∙ ap₂ (λ (b : Bool) (peak : Option Peak). line (series_row (2 * c.double.inside.0) b peak)) c.are_in_sync-in_sync.ensures c.peak.ensures in
    let first : c.cycle_line.result ≡ even c.args.double = told ∙ ap even c.double.view_is in
    let P : List ℕ → Type 0 = λ l. Puts c.from_residual.result (g.O.Sink.state c.args.out.now) (g.O.Sink.state c.put_line.new.out) (l ++ rest) in
    subst P first (cut c.from_residual.result rest c.in_err-put_line.ensures c.from_residual.ensures.0)

pub returns-clause-text : goal.returns-clause-text
returns-clause-text g c =
    let scale = c.args.scale.now in
    let in_sync : Bool = are_in_sync scale.bounds c.args.even.now c.args.odd.now in
    let even : ℕ → List ℕ = λ double. line (series_row (2 * double) in_sync (peak_by scale.grid (2 * double) c.args.even.now)) in
    let odd : ℕ → List ℕ = λ double. line (series_row (2 * double + 1) in_sync (peak_by scale.grid (2 * double + 1) c.args.odd.now)) in
    let cycle : ℕ = 2 * c.double.inside.0 in
    let told : c.cycle_line.result ≡ even c.double.inside.0 =
    c.cycle_line.ensures ∙ ap₂ (λ (b : Bool) (peak : Option Peak). line (series_row cycle b peak)) c.are_in_sync-in_sync.ensures c.peak.ensures in
    let behind : c.cycle_line-2.result ≡ odd c.double.inside.0 =
    c.cycle_line-2.ensures ∙ ap₂ (λ (b : Bool) (peak : Option Peak). line (series_row (cycle + 1) b peak)) c.are_in_sync-in_sync.ensures c.peak-2.ensures in
    let first : c.cycle_line.result ≡ even c.args.double = told ∙ ap even c.double.view_is in
    let last : c.cycle_line-2.result ≡ odd c.args.double = behind ∙ ap odd c.double.view_is in
    let P : List ℕ → Type 0 = λ l. Puts c.put_line-2.result (g.O.Sink.state c.args.out.now) (g.O.Sink.state c.put_line-2.new.out) l in
    subst P (ap₂ (λ (l m : List ℕ). l ++ m) first last) (then c.put_line-2.result c.in_ok-put_line.ensures c.put_line-2.ensures)
