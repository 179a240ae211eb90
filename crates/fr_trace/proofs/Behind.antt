-- The rows of a cycle under way, with one row or one deviation more.
use Rattle.std.proofs.Common.{◌≡◌, ◌≢◌, ℕ, ◌<◌, Bool, true, false, List, [], ◌∷◌, ◌++◌, length, map, Some, refl, ap, sym, ◌∙◌, arith, append_assoc}
use Rattle.std.specs.Prelude.{◌==◌, All, filter, if◌then◌else◌}
use Rattle.std.proofs.lemmas.Bool.Decides.{nat_tests}
use Rattle.std.proofs.lemmas.List.{append-nil, map-append}
use Rattle.std.proofs.lemmas.List.Elements.{All-head, All-tail}
use Rattle.fr_base.specs.declared.dev.Dev.{Dev}
use Rattle.fr_base.specs.declared.node_row.NodeRow.{NodeRow}
use Rattle.fr_history.specs.History.{History, Record}
use Rattle.fr_trace.specs.Items.{Item, items_by, items_in}
use Rattle.fr_trace.specs.declared.rows.Row.{Row}
use Rattle.fr_trace.specs.declared.rows.Row.TheVariants as row
use Rattle.fr_trace.specs.Numbered.{row_of_item}

-- the row of a deviation, those of a node, and those of a cycle
abbrev pub heard_in : ℕ → Dev → Row
heard_in cycle dev = row.Heard (record { cycle = cycle; receiver = dev.receiver; slot = dev.slot; channel = Some dev.channel; value = dev.value })

abbrev pub heard_by : ℕ → ℕ → List Dev → List Row
heard_by cycle node devs = map (heard_in cycle) (filter (λ dev. dev.receiver == node) devs)

unfoldable pub cycle_rows : ℕ → List Dev → List NodeRow → List Row
cycle_rows cycle devs [] = []
cycle_rows cycle devs (clock ∷ rows) = row.Clock cycle clock ∷ heard_by cycle clock.node devs ++ cycle_rows cycle devs rows

-- ---- they are those of its items

heard-items : (h : History) (r : Record) (devs : List Dev) → map row_of_item (map (Item.Heard h r) devs) ≡ map (heard_in (length h)) devs
heard-items h r [] = refl
heard-items h r (dev ∷ devs) = ap (λ (l : List Row). heard_in (length h) dev ∷ l) (heard-items h r devs)

by-rows : (h : History) (r : Record) (rows : List NodeRow) → map row_of_item (items_by h r rows) ≡ cycle_rows (length h) r.devs rows
unfolding items_by cycle_rows
by-rows h r [] = refl
by-rows h r (clock ∷ rows) =
    let mine : List Dev = filter (λ dev. dev.receiver == clock.node) r.devs in
    ap (λ (l : List Row). row.Clock (length h) clock ∷ l)
    (map-append row_of_item (map (Item.Heard h r) mine) (items_by h r rows) ∙ (λ i. heard-items h r mine i ++ by-rows h r rows i))

pub over-rows : (h : History) (r : Record) → map row_of_item (items_in (r ∷ h)) ≡ map row_of_item (items_in h) ++ cycle_rows (length h) r.devs r.rows
unfolding items_in
over-rows h r = map-append row_of_item (items_in h) (items_by h r r.rows) ∙ ap (λ (l : List Row). map row_of_item (items_in h) ++ l) (by-rows h r r.rows)

-- ---- one more

rows-append : (cycle : ℕ) (devs : List Dev) (a b : List NodeRow) → cycle_rows cycle devs (a ++ b) ≡ cycle_rows cycle devs a ++ cycle_rows cycle devs b
unfolding cycle_rows
rows-append cycle devs [] b = refl
rows-append cycle devs (clock ∷ a) b =
    ap (λ (l : List Row). row.Clock cycle clock ∷ l)
    (ap (λ (l : List Row). heard_by cycle clock.node devs ++ l) (rows-append cycle devs a b) ∙ sym (append_assoc (heard_by cycle clock.node devs) (cycle_rows cycle devs a) (cycle_rows cycle devs b)))

eq-no : (a b : ℕ) → a ≢ b → (a == b) ≡ false
eq-no a b ne = grind (arith, nat_tests, ne)

eq-yes : (a b : ℕ) → a ≡ b → (a == b) ≡ true
eq-yes a b e = grind (arith, nat_tests, e)

-- a node that is above all of some receivers has measured none of their deviations
none-heard : (cycle node : ℕ) (devs : List Dev) → All (λ dev. dev.receiver < node) devs → heard_by cycle node devs ≡ []
none-heard cycle node [] below = refl
none-heard cycle node (dev ∷ devs) below =
    let lt : dev.receiver < node = All-head (λ (d : Dev). d.receiver < node) dev devs below in
    let other : (dev.receiver == node) ≡ false = eq-no dev.receiver node (λ same. absurd (omega (arith, lt, same))) in
    let Kept : Bool → List Dev = λ b. if b then dev ∷ filter (λ d. d.receiver == node) devs else filter (λ d. d.receiver == node) devs in
    ap (λ (b : Bool). map (heard_in cycle) (Kept b)) other ∙ none-heard cycle node devs (All-tail (λ (d : Dev). d.receiver < node) dev devs below)

-- a row behind those of the nodes before it
pub clock-last : (cycle : ℕ) (devs : List Dev) (rows : List NodeRow) (clock : NodeRow) → All (λ dev. dev.receiver < clock.node) devs
    → cycle_rows cycle devs (rows ++ clock ∷ []) ≡ cycle_rows cycle devs rows ++ row.Clock cycle clock ∷ []
unfolding cycle_rows
clock-last cycle devs rows clock below =
    rows-append cycle devs rows (clock ∷ [])
    ∙ ap (λ (l : List Row). cycle_rows cycle devs rows ++ row.Clock cycle clock ∷ l) (append-nil (heard_by cycle clock.node devs) ∙ none-heard cycle clock.node devs below)

heard-last : (cycle node : ℕ) (devs : List Dev) (dev : Dev) (b : Bool) → (dev.receiver == node) ≡ b
    → heard_by cycle node (devs ++ dev ∷ []) ≡ heard_by cycle node devs ++ (if b then heard_in cycle dev ∷ [] else [])
heard-last cycle node [] dev true e = ap (λ (c : Bool). map (heard_in cycle) (if c then dev ∷ [] else [])) e
heard-last cycle node [] dev false e = ap (λ (c : Bool). map (heard_in cycle) (if c then dev ∷ [] else [])) e
heard-last cycle node (first ∷ devs) dev b e = by (first.receiver == node) (heard-last cycle node devs dev b e)
  where
    by : (c : Bool) → map (heard_in cycle) (filter (λ d. d.receiver == node) (devs ++ dev ∷ [])) ≡ map (heard_in cycle) (filter (λ d. d.receiver == node) devs) ++ (if b then heard_in cycle dev ∷ [] else [])
        → map (heard_in cycle) (if c then first ∷ filter (λ d. d.receiver == node) (devs ++ dev ∷ []) else filter (λ d. d.receiver == node) (devs ++ dev ∷ []))
        ≡ map (heard_in cycle) (if c then first ∷ filter (λ d. d.receiver == node) devs else filter (λ d. d.receiver == node) devs) ++ (if b then heard_in cycle dev ∷ [] else [])
    by true rest = ap (λ (l : List Row). heard_in cycle first ∷ l) rest
    by false rest = rest

-- a deviation leaves the rows of other nodes as they are
heard-elsewhere : (cycle : ℕ) (devs : List Dev) (dev : Dev) (rows : List NodeRow) → All (λ clock. clock.node < dev.receiver) rows
    → cycle_rows cycle (devs ++ dev ∷ []) rows ≡ cycle_rows cycle devs rows
unfolding cycle_rows
heard-elsewhere cycle devs dev [] below = refl
heard-elsewhere cycle devs dev (clock ∷ rows) below =
    let lt : clock.node < dev.receiver = All-head (λ (c : NodeRow). c.node < dev.receiver) clock rows below in
    let here : heard_by cycle clock.node (devs ++ dev ∷ []) ≡ heard_by cycle clock.node devs =
    heard-last cycle clock.node devs dev false (eq-no dev.receiver clock.node (λ same. absurd (omega (arith, lt, same)))) ∙ append-nil (heard_by cycle clock.node devs)
    in
    let rest = heard-elsewhere cycle devs dev rows (All-tail (λ (c : NodeRow). c.node < dev.receiver) clock rows below) in
    λ i. row.Clock cycle clock ∷ here i ++ rest i

-- and stands last where its node's row is the last
pub dev-last : (cycle : ℕ) (devs : List Dev) (dev : Dev) (front : List NodeRow) (clock : NodeRow) → All (λ other. other.node < dev.receiver) front → clock.node ≡ dev.receiver
    → cycle_rows cycle (devs ++ dev ∷ []) (front ++ clock ∷ []) ≡ cycle_rows cycle devs (front ++ clock ∷ []) ++ heard_in cycle dev ∷ []
unfolding cycle_rows
dev-last cycle devs dev front clock below is =
    let here : heard_by cycle clock.node (devs ++ dev ∷ []) ≡ heard_by cycle clock.node devs ++ heard_in cycle dev ∷ [] =
    heard-last cycle clock.node devs dev true (eq-yes dev.receiver clock.node (sym is))
    in
    let mine : List Row = heard_by cycle clock.node devs in
    let one : List Row = heard_in cycle dev ∷ [] in
    let last : row.Clock cycle clock ∷ heard_by cycle clock.node (devs ++ dev ∷ []) ++ [] ≡ (row.Clock cycle clock ∷ mine ++ []) ++ one =
    ap (λ (l : List Row). row.Clock cycle clock ∷ l) (append-nil (heard_by cycle clock.node (devs ++ dev ∷ [])) ∙ here ∙ ap (λ (l : List Row). l ++ one) (sym (append-nil mine)))
    in
    rows-append cycle (devs ++ dev ∷ []) front (clock ∷ [])
    ∙ (λ i. heard-elsewhere cycle devs dev front below i ++ last i)
    ∙ sym (append_assoc (cycle_rows cycle devs front) (row.Clock cycle clock ∷ mine ++ []) one)
    ∙ ap (λ (l : List Row). l ++ one) (sym (rows-append cycle devs front (clock ∷ [])))
