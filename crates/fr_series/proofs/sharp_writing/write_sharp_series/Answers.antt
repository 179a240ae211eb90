use Rattle.std.proofs.Common.{◌≡◌, ◌∙◌, ◌*◌, ◌≤◌, List, ◌++◌, ℕ, Result, Ok, ap, ap₂, refl, subst, sym, append_assoc, rules}
use Rattle.std.specs.Prelude.{unwrap_or, IsOk}
use Rattle.fr_base.specs.Device.{Puts, Sunk}
use Rattle.fr_base.specs.declared.sink.PutFault.{PutFault}
use Rattle.fr_base.proofs.Putting.{cut, then}
use Rattle.fr_cluster.specs.Values.{Values}
use Rattle.fr_drift.specs.Questions.{doubles_of}
use Rattle.fr_drift.specs.View.{DriftView}
use Rattle.fr_script.specs.View.{ScriptView}
use Rattle.fr_history.specs.Cycles.{Cycles}
use Rattle.fr_history.specs.Next.{cycles_of}
use Rattle.fr_text.specs.Lines.{joined_lines}
use Rattle.fr_text.specs.Pieces.{line}
use Rattle.fr_world.specs.World.{WorldView, setting_after}
use Rattle.fr_series.specs.Basis.{asked_from, basis_of, tally_of}
use Rattle.fr_series.specs.SharpText.{older_end, sharp_end, sharp_head, sharp_rows, sharp_series_by}
use Rattle.fr_series.specs.Stopping.{SharpSeriesEnds, WritingEnds, sharp_rows_before}
use Rattle.fr_series.specs.declared.basis.Basis.{Basis}
use Rattle.fr_series.specs.declared.tally.Tally.{Tally}
use Rattle.fr_series.proofs.SharpFollowing.{tally-none}
use Rattle.fr_series.proofs.SharpWorlds.{rows_upto}
use Rattle.fr_series.proofs.Stops.{ends_with, stops_at_head, stops_in_rows}
use Rattle.fr_series.proofs.sharp_writing.write_sharp_series.Goals as goal

-- the parts of the text of a world's run, one behind the other
head : List ℕ
head = line sharp_head

run_of : WorldView → Cycles
run_of w = cycles_of (setting_after w) (2 * doubles_of w.drift)

rows : WorldView → List ℕ
rows w = sharp_rows w.params w.drift w.script (run_of w)

tally : WorldView → Tally
tally w = tally_of w.params w.drift w.script (run_of w)

basis : WorldView → Basis
basis w = basis_of w.params w.drift w.script (asked_from w.params w.drift w.script (run_of w))

behind_rows : WorldView → List ℕ
behind_rows w = older_end (tally w) ++ sharp_end (basis w) (tally w)

whole : WorldView → List ℕ
whole w = sharp_series_by w.params w.drift w.script (run_of w)

-- from the head on, and from the rows on
from_head : (w : WorldView) → head ++ (rows w ++ behind_rows w) ≡ whole w
unfolding sharp_series_by head run_of rows tally basis behind_rows whole
from_head w =
    sym
    (append_assoc (head ++ rows w) (older_end (tally w)) (sharp_end (basis w) (tally w))
    ∙ append_assoc head (rows w) (older_end (tally w) ++ sharp_end (basis w) (tally w)))

from_rows : (w : WorldView) → (head ++ rows w) ++ behind_rows w ≡ whole w
unfolding sharp_series_by head run_of rows tally basis behind_rows whole
from_rows w = sym (append_assoc (head ++ rows w) (older_end (tally w)) (sharp_end (basis w) (tally w)))

in_parts : (w : WorldView) → ((head ++ rows w) ++ older_end (tally w)) ++ sharp_end (basis w) (tally w) ≡ whole w
unfolding sharp_series_by head run_of rows tally basis behind_rows whole
in_parts w = refl

-- what the run rests on is that of its files from the double cycle on that the figures tell
basis_is : (w v : WorldView) (k : ℕ) (t : Tally) (p : Values) (d : DriftView) (s : ScriptView) (from : ℕ) (b : Basis) → v ≡ record w { cycles = k } → t ≡ tally w
    → p ≡ v.params → d ≡ v.drift → s ≡ v.script → from ≡ unwrap_or t.sharp.synced 0 → b ≡ basis_of p d s from → b ≡ basis w
unfolding run_of tally basis
basis_is w v k t p d s from b ran told params drift script at is =
    is
    ∙ ap (λ (x : Values). basis_of x d s from) (params ∙ ap (λ (u : WorldView). u.params) ran)
    ∙ ap (λ (x : DriftView). basis_of w.params x s from) (drift ∙ ap (λ (u : WorldView). u.drift) ran)
    ∙ ap (λ (x : ScriptView). basis_of w.params w.drift x from) (script ∙ ap (λ (u : WorldView). u.script) ran)
    ∙ ap (basis_of w.params w.drift w.script) (at ∙ ap (λ (x : Tally). unwrap_or x.sharp.synced 0) told)

pub write_sharp_rows-requires-clause-none : goal.write_sharp_rows-requires-clause-none
write_sharp_rows-requires-clause-none g c =
    let w : WorldView = c.args.world.now in
    tally-none w.params w.drift w.script c.none-tally.result c.none-tally.ensures.older c.none-tally.ensures.sharp

pub returns-in_err-put_line-clause-text : goal.returns-in_err-put_line-clause-text
unfolding head run_of rows tally basis behind_rows whole
returns-in_err-put_line-clause-text g c =
    let w : WorldView = c.args.world.now in
    let first : c.sharp_head_line.result ≡ head = c.sharp_head_line.ensures in
    let rest : List ℕ = rows w ++ behind_rows w in
    let P : List ℕ → Type 0 = λ l. Puts c.from_residual.result (g.O.Sink.state c.args.out.now) (g.O.Sink.state c.put_line.new.out) l in
    subst P (ap (λ (l : List ℕ). l ++ rest) first ∙ from_head w) (cut c.from_residual.result rest c.in_err-put_line.ensures c.from_residual.ensures.0)

pub returns-in_err-write_sharp_rows-clause-text : goal.returns-in_err-write_sharp_rows-clause-text
unfolding head run_of rows tally basis behind_rows whole
returns-in_err-write_sharp_rows-clause-text g c =
    let w : WorldView = c.args.world.now in
    let first : c.sharp_head_line.result ≡ head = c.sharp_head_line.ensures in
    let rest : List ℕ = behind_rows w in
    let both = then {rest = rows w} _ c.in_ok-put_line.ensures c.in_err-write_sharp_rows.ensures.text in
    let P : List ℕ → Type 0 = λ l. Puts c.from_residual-in_err-write_sharp_rows.result (g.O.Sink.state c.args.out.now) (g.O.Sink.state c.write_sharp_rows.new.out) l in
    subst P (ap (λ (l : List ℕ). (l ++ rows w) ++ rest) first ∙ from_rows w) (cut c.from_residual-in_err-write_sharp_rows.result rest both c.from_residual-in_err-write_sharp_rows.ensures.0)

pub returns-in_err-put_lines-clause-text : goal.returns-in_err-put_lines-clause-text
unfolding head run_of rows tally basis behind_rows whole
returns-in_err-put_lines-clause-text g c =
    let w : WorldView = c.args.world.now in
    let first : c.sharp_head_line.result ≡ head = c.sharp_head_line.ensures in
    let ok : IsOk c.write_sharp_rows.result = search rules in
    let told : c.write_sharp_rows.new.tally ≡ tally w = c.write_sharp_rows.ensures.tally ok in
    let lines : joined_lines c.older_lines.result ≡ older_end (tally w) = c.older_lines.ensures ∙ ap older_end told in
    let rest : List ℕ = sharp_end (basis w) (tally w) in
    let both = then {rest = joined_lines c.older_lines.result} _ (then {rest = rows w} (Ok tt) c.in_ok-put_line.ensures c.in_ok-write_sharp_rows.ensures.text) c.in_err-put_lines.ensures in
    let P : List ℕ → Type 0 = λ l. Puts c.from_residual-in_err-put_lines.result (g.O.Sink.state c.args.out.now) (g.O.Sink.state c.put_lines.new.out) l in
    subst P (ap₂ (λ (l m : List ℕ). ((l ++ rows w) ++ m) ++ rest) first lines ∙ in_parts w)
    (cut c.from_residual-in_err-put_lines.result rest both c.from_residual-in_err-put_lines.ensures.0)

pub returns-clause-text : goal.returns-clause-text
unfolding head run_of rows tally basis behind_rows whole
returns-clause-text g c =
    let w : WorldView = c.args.world.now in
    let first : c.sharp_head_line.result ≡ head = c.sharp_head_line.ensures in
    let ok : IsOk c.write_sharp_rows.result = search rules in
    let told : c.write_sharp_rows.new.tally ≡ tally w = c.write_sharp_rows.ensures.tally ok in
    let lines : joined_lines c.older_lines.result ≡ older_end (tally w) = c.older_lines.ensures ∙ ap older_end told in
    let ran : c.write_sharp_rows.new.world ≡ record w { cycles = 2 * doubles_of w.drift } = c.in_ok-write_sharp_rows.ensures.ran in
    let based : c.of-basis.result ≡ basis w =
    basis_is w c.write_sharp_rows.new.world (2 * doubles_of w.drift) c.write_sharp_rows.new.tally _ _ _ c.unwrap_or-from.result c.of-basis.result ran told
    c.params.ensures.value c.drift.ensures.value c.script.ensures.value c.unwrap_or-from.ensures c.of-basis.ensures.value in
    let ends : joined_lines c.sharp_lines.result ≡ sharp_end (basis w) (tally w) =
    c.sharp_lines.ensures ∙ ap₂ (λ (b : Basis) (t : Tally). sharp_end b t) based told in
    let two = then {rest = rows w} (Ok tt) c.in_ok-put_line.ensures c.in_ok-write_sharp_rows.ensures.text in
    let three = then {rest = joined_lines c.older_lines.result} (Ok tt) two c.in_ok-put_lines.ensures in
    let P : List ℕ → Type 0 = λ l. Puts c.put_lines-2.result (g.O.Sink.state c.args.out.now) (g.O.Sink.state c.put_lines-2.new.out) l in
    subst P
    (ap₂ (λ (l m : List ℕ). ((l ++ rows w) ++ m) ++ joined_lines c.sharp_lines.result) first lines
    ∙ ap (λ (l : List ℕ). ((head ++ rows w) ++ older_end (tally w)) ++ l) ends
    ∙ in_parts w) (then {rest = joined_lines c.sharp_lines.result} c.put_lines-2.result three c.put_lines-2.ensures)

-- ---- what is run

-- all of it but the last lines
in_three : (w : WorldView) → whole w ≡ (head ++ sharp_rows_before w (doubles_of w.drift)) ++ behind_rows w
unfolding head run_of rows
in_three w = sym (from_rows w)

pub returns-in_err-put_line-clause-ran : goal.returns-in_err-put_line-clause-ran
unfolding head run_of rows tally basis behind_rows whole
returns-in_err-put_line-clause-ran g c =
    let w : WorldView = c.args.world.now in
    let first : c.sharp_head_line.result ≡ head = c.sharp_head_line.ensures in
    let before : Sunk = g.O.Sink.state c.args.out.now in
    let now : Sunk = g.O.Sink.state c.put_line.new.out in
    let rest : List ℕ = rows w ++ behind_rows w in
    let P : List ℕ → Type 0 = λ l. Puts c.from_residual.result before now l in
    let text = subst P (ap (λ (l : List ℕ). l ++ rest) first ∙ from_head w) (cut c.from_residual.result rest c.in_err-put_line.ensures c.from_residual.ensures.0) in
    stops_at_head head (sharp_rows_before w) (whole w) w c.from_residual.result before now c.from_residual.ensures.0 c.requires text

pub returns-in_err-write_sharp_rows-clause-ran : goal.returns-in_err-write_sharp_rows-clause-ran
unfolding head run_of rows tally basis behind_rows whole
returns-in_err-write_sharp_rows-clause-ran g c =
    let w : WorldView = c.args.world.now in
    let first : c.sharp_head_line.result ≡ head = c.sharp_head_line.ensures in
    let before : Sunk = g.O.Sink.state c.args.out.now in
    let middle : Sunk = g.O.Sink.state c.put_line.new.out in
    let now : Sunk = g.O.Sink.state c.write_sharp_rows.new.out in
    let result = c.from_residual-in_err-write_sharp_rows.result in
    let P : List ℕ → Type 0 = λ l. Puts (Ok tt) before middle l in
    stops_in_rows head (sharp_rows_before w) (whole w) w result (behind_rows w) c.write_sharp_rows.new.world before middle now
    c.from_residual-in_err-write_sharp_rows.ensures.0 (in_three w) (subst P first c.in_ok-put_line.ensures) c.in_err-write_sharp_rows.ensures.ran

pub returns-in_err-put_lines-clause-ran : goal.returns-in_err-put_lines-clause-ran
unfolding head run_of rows tally basis behind_rows whole
returns-in_err-put_lines-clause-ran g c =
    let w : WorldView = c.args.world.now in
    let first : c.sharp_head_line.result ≡ head = c.sharp_head_line.ensures in
    let ok : IsOk c.write_sharp_rows.result = search rules in
    let told : c.write_sharp_rows.new.tally ≡ tally w = c.write_sharp_rows.ensures.tally ok in
    let lines : joined_lines c.older_lines.result ≡ older_end (tally w) = c.older_lines.ensures ∙ ap older_end told in
    let rest : List ℕ = sharp_end (basis w) (tally w) in
    let before : Sunk = g.O.Sink.state c.args.out.now in
    let middle : Sunk = g.O.Sink.state c.put_line.new.out in
    let lined : Sunk = g.O.Sink.state c.write_sharp_rows.new.out in
    let now : Sunk = g.O.Sink.state c.put_lines.new.out in
    let result = c.from_residual-in_err-put_lines.result in
    let P : List ℕ → Type 0 = λ l. Puts (Ok tt) before middle l in
    let Q : List ℕ → Type 0 = λ l. Puts result lined now (l ++ rest) in
    ends_with head (sharp_rows_before w) (whole w) w result (behind_rows w) c.write_sharp_rows.new.world before middle lined now (in_three w) (λ last le. rows_upto w last (doubles_of w.drift) le)
    c.in_ok-write_sharp_rows.ensures.ran (subst P first c.in_ok-put_line.ensures) c.in_ok-write_sharp_rows.ensures.text
    (subst Q lines (cut result rest c.in_err-put_lines.ensures c.from_residual-in_err-put_lines.ensures.0))

pub returns-clause-ran : goal.returns-clause-ran
unfolding head run_of rows tally basis behind_rows whole
returns-clause-ran g c =
    let w : WorldView = c.args.world.now in
    let first : c.sharp_head_line.result ≡ head = c.sharp_head_line.ensures in
    let ok : IsOk c.write_sharp_rows.result = search rules in
    let told : c.write_sharp_rows.new.tally ≡ tally w = c.write_sharp_rows.ensures.tally ok in
    let lines : joined_lines c.older_lines.result ≡ older_end (tally w) = c.older_lines.ensures ∙ ap older_end told in
    let ran : c.write_sharp_rows.new.world ≡ record w { cycles = 2 * doubles_of w.drift } = c.in_ok-write_sharp_rows.ensures.ran in
    let based : c.of-basis.result ≡ basis w =
    basis_is w c.write_sharp_rows.new.world (2 * doubles_of w.drift) c.write_sharp_rows.new.tally _ _ _ c.unwrap_or-from.result c.of-basis.result ran told
    c.params.ensures.value c.drift.ensures.value c.script.ensures.value c.unwrap_or-from.ensures c.of-basis.ensures.value in
    let ends : joined_lines c.sharp_lines.result ≡ sharp_end (basis w) (tally w) =
    c.sharp_lines.ensures ∙ ap₂ (λ (b : Basis) (t : Tally). sharp_end b t) based told in
    let before : Sunk = g.O.Sink.state c.args.out.now in
    let middle : Sunk = g.O.Sink.state c.put_line.new.out in
    let lined : Sunk = g.O.Sink.state c.write_sharp_rows.new.out in
    let now : Sunk = g.O.Sink.state c.put_lines-2.new.out in
    let P : List ℕ → Type 0 = λ l. Puts (Ok tt) before middle l in
    let Q : List ℕ → Type 0 = λ l. Puts c.put_lines-2.result lined now l in
    ends_with head (sharp_rows_before w) (whole w) w c.put_lines-2.result (behind_rows w) c.write_sharp_rows.new.world before middle lined now (in_three w)
    (λ last le. rows_upto w last (doubles_of w.drift) le)
    c.in_ok-write_sharp_rows.ensures.ran (subst P first c.in_ok-put_line.ensures) c.in_ok-write_sharp_rows.ensures.text
    (subst Q (ap₂ (λ (l m : List ℕ). l ++ m) lines ends) (then {rest = joined_lines c.sharp_lines.result} c.put_lines-2.result c.in_ok-put_lines.ensures c.put_lines-2.ensures))
