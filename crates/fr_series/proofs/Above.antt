-- The first macrotick of a cycle at which the skew is above a limit.
use Rattle.std.proofs.Common.{◌≡◌, ◌∙◌, ℕ, ℤ, Bool, true, false, ◌+◌, ◌<◌, List, zero, suc, Option, Some, None, refl, ap, add-one, arith}
use Rattle.std.specs.Prelude.{◌≤ℤ◌, int_lt, if◌then◌else◌}
use Rattle.std.specs.Option.{option_or}
use Rattle.std.proofs.lemmas.Int.{ints}
use Rattle.fr_base.specs.declared.node_row.NodeRow.{NodeRow}
use Rattle.fr_time.specs.declared.grid.Grid.{Grid}
use Rattle.fr_skew.specs.Spreads.{spread_at}
use Rattle.fr_skew.specs.Sweep.{greater_by, greater_of, greatest_within}
use Rattle.fr_skew.specs.declared.peak.Peak.{Peak}
use Rattle.fr_series.specs.Scale.{above_at, first_above}

pub above-none : (grid : Grid) (cycle : ℕ) (rows : List NodeRow) (limit : ℤ) → first_above grid cycle rows limit 0 ≡ None
unfolding first_above
above-none grid cycle rows limit = refl

-- one more macrotick
pub above-next : (grid : Grid) (cycle : ℕ) (rows : List NodeRow) (limit : ℤ) (macrotick : ℕ) →
    first_above grid cycle rows limit (macrotick + 1)
    ≡ option_or (first_above grid cycle rows limit macrotick) (above_at limit (record { skew = spread_at grid cycle rows macrotick; cycle = cycle; macrotick = macrotick }))
unfolding first_above
above-next grid cycle rows limit macrotick = rw (add-one macrotick) refl

-- a skew that is no greater than a limit is not above it
int_lt_not : (a b : ℤ) → b ≤ℤ a → int_lt a b ≡ false
int_lt_not a b le = grind (arith, ints)

pub not_above : (limit : ℤ) (peak : Peak) → peak.skew ≤ℤ limit → above_at limit peak ≡ None
not_above limit peak le = ap (λ (b : Bool). if b then Some peak else None) (int_lt_not limit peak.skew le)

-- where no macrotick is above there is no first one
pub none_above : (grid : Grid) (cycle : ℕ) (rows : List NodeRow) (limit : ℤ) (count : ℕ) → ((macrotick : ℕ) → macrotick < count → spread_at grid cycle rows macrotick ≤ℤ limit)
    → first_above grid cycle rows limit count ≡ None
unfolding first_above
none_above grid cycle rows limit zero below = refl
none_above grid cycle rows limit (suc count) below =
    let later : Peak = record { skew = spread_at grid cycle rows count; cycle = cycle; macrotick = count } in
    ap (λ (o : Option Peak). option_or o (above_at limit later)) (none_above grid cycle rows limit count (λ m less. below m (omega (arith, less))))
    ∙ not_above limit later (below count (omega arith))

-- ---- a greatest skew that is within the limit

-- of two skews of which the greater one is within a limit both are
both_by : (earlier later : Peak) (limit : ℤ) (less : Bool) → int_lt earlier.skew later.skew ≡ less → (greater_by less earlier later).skew ≤ℤ limit → (earlier.skew ≤ℤ limit) × (later.skew ≤ℤ limit)
both_by earlier later limit true is le = (before earlier.skew later.skew limit is le, le)
  where
    before : (a b c : ℤ) → int_lt a b ≡ true → b ≤ℤ c → a ≤ℤ c
    before a b c less le = grind (arith, ints)
both_by earlier later limit false is le = (le, after earlier.skew later.skew limit is le)
  where
    after : (a b c : ℤ) → int_lt a b ≡ false → a ≤ℤ c → b ≤ℤ c
    after a b c less le = grind (arith, ints)

-- a greatest skew, if there is one, is within a limit
abbrev pub IsUnder : ℤ → Option Peak → Type 0
IsUnder limit None = Unit {0}
IsUnder limit (Some peak) = peak.skew ≤ℤ limit

both_under : (earlier : Option Peak) (later : Peak) (limit : ℤ) → (greater_of earlier later).skew ≤ℤ limit → IsUnder limit earlier × (later.skew ≤ℤ limit)
both_under None later limit le = (tt, le)
both_under (Some earlier) later limit le = both_by earlier later limit (int_lt earlier.skew later.skew) refl le

pub under_not_above : (grid : Grid) (cycle : ℕ) (rows : List NodeRow) (before : Option Peak) (limit : ℤ) (count : ℕ) → IsUnder limit (greatest_within grid cycle rows before count)
    → first_above grid cycle rows limit count ≡ None
unfolding first_above greatest_within
under_not_above grid cycle rows before limit zero under = refl
under_not_above grid cycle rows before limit (suc count) under =
    let later : Peak = record { skew = spread_at grid cycle rows count; cycle = cycle; macrotick = count } in
    let both = both_under (greatest_within grid cycle rows before count) later limit under in
    ap (λ (o : Option Peak). option_or o (above_at limit later)) (under_not_above grid cycle rows before limit count both.0)
    ∙ not_above limit later both.1
