-- The text of a trace tells neither counts nor cuts.
use Rattle.std.proofs.Common.{◌≡◌, ℕ, List, [], ◌∷◌, ◌++◌, length, map, refl, ap, sym, ◌∙◌}
use Rattle.std.proofs.lemmas.List.{length-map}
use Rattle.fr_base.specs.declared.dev.Dev.{Dev}
use Rattle.fr_base.specs.declared.node_row.NodeRow.{NodeRow}
use Rattle.fr_history.specs.History.{History}
use Rattle.fr_text.specs.Pieces.{line}
use Rattle.fr_trace.proofs.Lines.{cycle_by_rows, items_text-append}
use Rattle.fr_trace.specs.Bare.{TextsTellNoCounts, bare_history, bare_record, bare_row}
use Rattle.fr_trace.specs.Items.{items_by, items_in}
use Rattle.fr_trace.specs.Text.{clock_rows_text, clock_text, devs_text, head_text, items_text, text_of}

rows-bare : (cycle : ℕ) (devs : List Dev) (rows : List NodeRow) → clock_rows_text cycle devs (map bare_row rows) ≡ clock_rows_text cycle devs rows
rows-bare cycle devs [] = refl
rows-bare cycle devs (row ∷ rows) = ap (λ (l : List ℕ). (line (clock_text cycle row) ++ devs_text cycle row.node devs) ++ l) (rows-bare cycle devs rows)

items-bare : (h : History) → items_text (items_in (bare_history h)) ≡ items_text (items_in h)
unfolding items_in
items-bare [] = refl
items-bare (r ∷ h) =
    let long : length (bare_history h) ≡ length h = length-map h bare_record in
    let cycle : items_text (items_by (bare_history h) (bare_record r) (map bare_row r.rows)) ≡ items_text (items_by h r r.rows) =
    cycle_by_rows (bare_history h) (bare_record r) (map bare_row r.rows)
    ∙ ap (λ (n : ℕ). clock_rows_text n r.devs (map bare_row r.rows)) long
    ∙ rows-bare (length h) r.devs r.rows
    ∙ sym (cycle_by_rows h r r.rows)
    in
    items_text-append (items_in (bare_history h)) (items_by (bare_history h) (bare_record r) (map bare_row r.rows))
    ∙ (λ i. items-bare h i ++ cycle i)
    ∙ sym (items_text-append (items_in h) (items_by h r r.rows))

pub texts-bare : TextsTellNoCounts
unfolding text_of
texts-bare t = ap (λ (l : List ℕ). head_text t.doubles t.arbitrary t.joins ++ l) (items-bare t.history)
