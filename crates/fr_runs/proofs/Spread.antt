-- How far apart the macroticks of some rows lie.
use Rattle.std.proofs.Common.{◌≡◌, ◌<◌, ℕ, Bool, true, false, cond, not, ℤ, pos, List, [], ◌∷◌, All, map, sym, subst, arith}
use Rattle.std.specs.Prelude.{◌≤ℤ◌, ◌-ℤ◌, fold, int_lt}
use Rattle.std.specs.Int.{int_max, int_min}
use Rattle.std.proofs.lemmas.Int.{ints}
use Rattle.std.proofs.lemmas.List.Elements.{All-filter, All-head, All-tail}
use Rattle.fr_base.specs.States.{is_halted}
use Rattle.fr_base.specs.declared.node_row.NodeRow.{NodeRow}
use Rattle.fr_cluster.specs.Values.{Values, amount}
use Rattle.fr_cluster.specs.Sane.{IsSane}
use Rattle.fr_cluster.specs.declared.names.ParamName.TheVariants as name
use Rattle.fr_time.specs.Cycles.{is_odd}
use Rattle.fr_time.specs.Instant.{instant_of}
use Rattle.fr_time.specs.Position.{grid_for}
use Rattle.fr_time.proofs.Placing.{is_grid_lem}
use Rattle.fr_base.specs.Within.{IsWithin}
use Rattle.fr_precision.specs.Instants.{gap_of}
use Rattle.fr_precision.proofs.Figures.{natural}
use Rattle.fr_precision.proofs.Senders.{All-along, All-mapped}
use Rattle.fr_skew.specs.Spreads.{running, spread_at, spread_of}
use Rattle.fr_precision.proofs.Values.{least_either as min_either}

-- what holds of each number holds of the greatest, and of the least
folded : (op : ℤ → ℤ → ℤ) (P : ℤ → Type 0) → ((a b : ℤ) → P a → P b → P (op a b)) → (first : ℤ) (rest : List ℤ) → P first → All P rest → P (fold op first rest)
folded op P either first [] here all = here
folded op P either first (next ∷ rest) here all =
    folded op P either (op first next) rest (either first next here (All-head P next rest all)) (All-tail P next rest all)

max_either : (P : ℤ → Type 0) (a b : ℤ) → P a → P b → P (int_max a b)
max_either P a b one other = by_test (int_lt b a)
  where
    by_test : (t : Bool) → P (cond t a b)
    by_test true = one
    by_test false = other

-- any two of some numbers lie no further apart than a bound
abbrev NoMore : ℤ → List ℤ → Type 0
NoMore bound xs = All (λ a. All (λ b. (a -ℤ b) ≤ℤ bound) xs) xs

spread_no_more : (bound : ℤ) (xs : List ℤ) → pos 0 ≤ℤ bound → NoMore bound xs → spread_of xs ≤ℤ bound
spread_no_more bound [] from all = from
spread_no_more bound (x ∷ xs) from all =
    let Least : ℤ → Type 0 = λ a. (a -ℤ fold int_min x xs) ≤ℤ bound in
    let Each : ℤ → Type 0 = λ a. All (λ b. (a -ℤ b) ≤ℤ bound) (x ∷ xs) in
    let to_least = λ (a : ℤ) (each : Each a).
    (
    let P : ℤ → Type 0 = λ b. (a -ℤ b) ≤ℤ bound in
    folded int_min P (min_either P) x xs (All-head P x xs each) (All-tail P x xs each)
    ) in
    let least : All Least (x ∷ xs) = All-along Each Least (x ∷ xs) to_least all in
    folded int_max Least (max_either Least) x xs (All-head Least x xs least) (All-tail Least x xs least)

-- rows any two of which lie no further apart at a macrotick
abbrev pub RowsLie : Values → Bool → ℤ → List NodeRow → ℕ → Type 0
RowsLie p odd bound rows macrotick = All (λ one. All (λ other. IsWithin bound (gap_of p odd (pos macrotick) one other)) rows) rows

running_all : (P : NodeRow → Type 0) (rows : List NodeRow) → All P rows → All P (running rows)
running_all P rows all =
    All-filter (λ (row : NodeRow). not (is_halted row.state)) P rows all

pub spread_within : (p : Values) (cycle : ℕ) (bound : ℤ) (rows : List NodeRow) (macrotick : ℕ) (odd : Bool) → is_odd cycle ≡ odd → pos 0 ≤ℤ bound
    → RowsLie p odd bound rows macrotick → spread_at (grid_for p) cycle rows macrotick ≤ℤ bound
unfolding spread_at
spread_within p cycle bound rows macrotick odd parity from lie =
    let at : NodeRow → ℤ = λ row. instant_of (grid_for p) row odd (pos macrotick) in
    let kept = running rows in
    let Near : NodeRow → Type 0 = λ one. All (λ other. IsWithin bound (at one -ℤ at other)) rows in
    let To : NodeRow → Type 0 = λ one. All (λ b. (at one -ℤ b) ≤ℤ bound) (map at kept) in
    let each = λ (one : NodeRow) (near : Near one).
    (
    let P : NodeRow → Type 0 = λ other. IsWithin bound (at one -ℤ at other) in
    All-mapped P (λ b. (at one -ℤ b) ≤ℤ bound) at kept (λ other is. is.high) (running_all P rows near)
    ) in
    let all : NoMore bound (map at kept) = All-mapped Near (λ a. All (λ b. (a -ℤ b) ≤ℤ bound) (map at kept)) at kept each (running_all Near rows lie) in
    let Spread : Bool → Type 0 = λ b. spread_of (map (λ row. instant_of (grid_for p) row b (pos macrotick)) kept) ≤ℤ bound in
    subst Spread (sym parity) (spread_no_more bound (map at kept) from all)

-- a macrotick of a cycle
pub macrotick_within : (p : Values) (macrotick : ℕ) → IsSane p → macrotick < amount p name.gMacroPerCycle → pos macrotick ≤ℤ p.macros
macrotick_within p macrotick sane less =
    let grid = is_grid_lem p sane in
    let some : pos 0 ≤ℤ p.macros = omega (arith, ints, grid.correction_from, grid.correction_to) in
    let is : p.macros ≡ pos (amount p name.gMacroPerCycle) = natural p.macros some in
    omega (arith, ints, is, less)
