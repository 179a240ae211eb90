use Rattle.std.proofs.Common.{◌≡◌, ◌∙◌, ◌+◌, ◌*◌, ℕ, Bool, Option, List, ◌++◌, ap, ap₂, refl, subst}
use Rattle.fr_base.specs.Device.{Puts}
use Rattle.fr_base.proofs.Putting.{cut, then}
use Rattle.fr_skew.specs.Sync.{are_in_sync, are_in_sync_by_even}
use Rattle.fr_skew.specs.declared.peak.Peak.{Peak}
use Rattle.fr_text.specs.Pieces.{line}
use Rattle.fr_series.specs.Scale.{peak_by}
use Rattle.fr_series.specs.SharpText.{sharp_row}
use Rattle.fr_series.specs.declared.kept.Kept.{Kept}
use Rattle.fr_series.proofs.sharp_writing.put_sharp_double.Goals as goal

-- the line of a cycle by what was found of it
same_line : (cycle : ℕ) (kept : Kept) (in_sync found sharp found_sharp : Bool) (peak found_peak : Option Peak) → found ≡ in_sync → found_sharp ≡ sharp → found_peak ≡ peak
    → line (sharp_row cycle found found_sharp kept found_peak) ≡ line (sharp_row cycle in_sync sharp kept peak)
same_line cycle kept in_sync found sharp found_sharp peak found_peak one other third = rw (one, other, third) refl

pub returns-in_err-put_line : goal.returns-in_err-put_line
returns-in_err-put_line g c =
    let grid = c.args.older.now.grid in
    let in_sync : Bool = are_in_sync c.args.older.now.bounds c.args.even.now c.args.odd.now in
    let sharp : Bool = are_in_sync_by_even c.args.sharper.now.bounds c.args.even.now c.args.odd.now in
    let rest = line (sharp_row (2 * c.args.double + 1) in_sync sharp c.args.kept (peak_by grid (2 * c.args.double + 1) c.args.odd.now)) in
    let even : ℕ → List ℕ = λ double. line (sharp_row (2 * double) in_sync sharp c.args.kept (peak_by grid (2 * double) c.args.even.now)) in
    let cycle : ℕ = 2 * c.double.inside.0 in
    let told : c.sharp_cycle_line.result ≡ even c.double.inside.0 =
    c.sharp_cycle_line.ensures
    ∙ same_line cycle c.args.kept in_sync _ sharp _ (peak_by grid cycle c.args.even.now) _ c.are_in_sync-in_sync.ensures c.are_in_sharp_sync-sharp.ensures c.peak.ensures in
    let first : c.sharp_cycle_line.result ≡ even c.args.double = told ∙ ap even c.double.view_is in
    let P : List ℕ → Type 0 = λ l. Puts c.from_residual.result (g.O.Sink.state c.args.out.now) (g.O.Sink.state c.put_line.new.out) (l ++ rest) in
    record { text = subst P first (cut c.from_residual.result rest c.in_err-put_line.ensures c.from_residual.ensures.0) }

pub returns : goal.returns
returns g c =
    let grid = c.args.older.now.grid in
    let in_sync : Bool = are_in_sync c.args.older.now.bounds c.args.even.now c.args.odd.now in
    let sharp : Bool = are_in_sync_by_even c.args.sharper.now.bounds c.args.even.now c.args.odd.now in
    let even : ℕ → List ℕ = λ double. line (sharp_row (2 * double) in_sync sharp c.args.kept (peak_by grid (2 * double) c.args.even.now)) in
    let odd : ℕ → List ℕ = λ double. line (sharp_row (2 * double + 1) in_sync sharp c.args.kept (peak_by grid (2 * double + 1) c.args.odd.now)) in
    let cycle : ℕ = 2 * c.double.inside.0 in
    let told : c.sharp_cycle_line.result ≡ even c.double.inside.0 =
    c.sharp_cycle_line.ensures
    ∙ same_line cycle c.args.kept in_sync _ sharp _ (peak_by grid cycle c.args.even.now) _ c.are_in_sync-in_sync.ensures c.are_in_sharp_sync-sharp.ensures c.peak.ensures in
    let behind : c.sharp_cycle_line-2.result ≡ odd c.double.inside.0 =
    c.sharp_cycle_line-2.ensures
    ∙ same_line (cycle + 1) c.args.kept in_sync _ sharp _ (peak_by grid (cycle + 1) c.args.odd.now) _ c.are_in_sync-in_sync.ensures c.are_in_sharp_sync-sharp.ensures c.peak-2.ensures in
    let first : c.sharp_cycle_line.result ≡ even c.args.double = told ∙ ap even c.double.view_is in
    let last : c.sharp_cycle_line-2.result ≡ odd c.args.double = behind ∙ ap odd c.double.view_is in
    let P : List ℕ → Type 0 = λ l. Puts c.put_line-2.result (g.O.Sink.state c.args.out.now) (g.O.Sink.state c.put_line-2.new.out) l in
    record { text = subst P (ap₂ (λ (l m : List ℕ). l ++ m) first last) (then c.put_line-2.result c.in_ok-put_line.ensures c.put_line-2.ensures) }
