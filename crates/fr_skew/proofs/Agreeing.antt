-- A sweep that leaves out what lies below a skew that comes later agrees with the whole one from there on.
use Rattle.std.proofs.Common.{◌≡◌, ◌∙◌, ◌⊎◌, ℕ, zero, suc, ◌+◌, ◌-◌, ◌<◌, ◌≤◌, ℤ, Bool, true, false, List, Option, Some, None, inl, inr, refl, ap, sym, subst, add-one, arith}
use Rattle.std.specs.Prelude.{◌≤ℤ◌, ◌<ℤ◌, int_lt, IfSome}
use Rattle.std.proofs.lemmas.Bool.{cases_lt}
use Rattle.std.proofs.lemmas.Int.{ints, by_lt_z}
use Rattle.fr_base.specs.declared.node_row.NodeRow.{NodeRow}
use Rattle.fr_time.specs.declared.grid.Grid.{Grid}
use Rattle.fr_skew.specs.Spreads.{spread_at}
use Rattle.fr_skew.specs.Stretches.{IsNoGreater}
use Rattle.fr_skew.specs.Sweep.{greater_by, greater_of, greatest_after, greatest_within}
use Rattle.fr_skew.specs.declared.peak.Peak.{Peak}

-- no skew that is as great was found
abbrev pub IsBelow : ℤ → Option Peak → Type 0
IsBelow known peak = IfSome peak (λ p. p.skew <ℤ known)

-- two sweeps found the same, or neither found one as great
abbrev pub Agree : ℤ → Option Peak → Option Peak → Type 0
Agree known one other = (one ≡ other) ⊎ (IsBelow known one × IsBelow known other)

lt_true : (a b : ℤ) → a <ℤ b → int_lt a b ≡ true
lt_true a b less = grind (arith, ints)

lt_false : (a b : ℤ) → b ≤ℤ a → int_lt a b ≡ false
lt_false a b le = grind (arith, ints)

-- one more skew below
below-join : (known : ℤ) (peak : Option Peak) (later : Peak) → IsBelow known peak → later.skew <ℤ known → IsBelow known (Some (greater_of peak later))
below-join known None later below less = less
below-join known (Some p) later below less = either (int_lt p.skew later.skew)
  where
    either : (b : Bool) → (greater_by b p later).skew <ℤ known
    either true = less
    either false = below

-- and one that is as great
taken : (known : ℤ) (peak : Option Peak) (later : Peak) → IsBelow known peak → known ≤ℤ later.skew → greater_of peak later ≡ later
taken known None later below high = refl
taken known (Some p) later below high = ap (λ (b : Bool). greater_by b p later) (lt_true p.skew later.skew (less p.skew known later.skew below high))
  where
    less : (a k b : ℤ) → a <ℤ k → k ≤ℤ b → a <ℤ b
    less a k b one two = omega (arith, ints)

agree-step : (known : ℤ) (one other : Option Peak) (later : Peak) → Agree known one other → Agree known (Some (greater_of one later)) (Some (greater_of other later))
agree-step known one other later (inl same) = inl (ap (λ (o : Option Peak). Some (greater_of o later)) same)
agree-step known one other later (inr below) =
    by_lt_z later.skew known
    (λ less. inr (below-join known one later below.0 less, below-join known other later below.1 less))
    (λ high. inl (ap Some (taken known one later below.0 high ∙ sym (taken known other later below.1 high))))

kept : (p later : Peak) → later.skew ≤ℤ p.skew → greater_by (int_lt p.skew later.skew) p later ≡ p
kept p later le = ap (λ (b : Bool). greater_by b p later) (lt_false p.skew later.skew le)

agree-left : (known : ℤ) (one other : Option Peak) (later : Peak) → Agree known one other → later.skew <ℤ known → Agree known one (Some (greater_of other later))
agree-left known one other later (inr below) less = inr (below.0, below-join known other later below.1 less)
agree-left known one None later (inl same) less = inr (subst (IsBelow known) (sym same) tt, less)
agree-left known one (Some p) later (inl same) less =
    by_lt_z p.skew known
    (λ low. inr (subst (IsBelow known) (sym same) low, below-join known (Some p) later low less))
    (λ high. inl (same ∙ ap Some (sym (kept p later (le later.skew known p.skew less high)))))
  where
    le : (a k b : ℤ) → a <ℤ k → k ≤ℤ b → a ≤ℤ b
    le a k b one two = omega (arith, ints)

-- ---- over a stretch

pub after-none : (grid : Grid) (cycle : ℕ) (rows : List NodeRow) (before : Option Peak) (from : ℕ) → greatest_after grid cycle rows before from 0 ≡ before
unfolding greatest_after
after-none grid cycle rows before from = refl

pub after-next : (grid : Grid) (cycle : ℕ) (rows : List NodeRow) (before : Option Peak) (from count : ℕ) →
    greatest_after grid cycle rows before from (count + 1)
    ≡ Some (greater_of (greatest_after grid cycle rows before from count) (record { skew = spread_at grid cycle rows (from + count); cycle = cycle; macrotick = from + count }))
unfolding greatest_after
after-next grid cycle rows before from count = rw (add-one count) refl

within_suc : (grid : Grid) (cycle : ℕ) (rows : List NodeRow) (before : Option Peak) (m : ℕ) →
    greatest_within grid cycle rows before (suc m) ≡ Some (greater_of (greatest_within grid cycle rows before m) (record { skew = spread_at grid cycle rows m; cycle = cycle; macrotick = m }))
unfolding greatest_within
within_suc grid cycle rows before m = refl

-- the macroticks of a stretch follow those before it
joined : (grid : Grid) (cycle : ℕ) (rows : List NodeRow) (before : Option Peak) (from count : ℕ) →
    greatest_within grid cycle rows before (from + count) ≡ greatest_after grid cycle rows (greatest_within grid cycle rows before from) from count
unfolding greatest_after
joined grid cycle rows before from zero = let none : from + 0 ≡ from = omega arith in ap (greatest_within grid cycle rows before) none
joined grid cycle rows before from (suc count) =
    let at : Peak = record { skew = spread_at grid cycle rows (from + count); cycle = cycle; macrotick = from + count } in
    let next : from + suc count ≡ suc (from + count) = omega arith in
    ap (greatest_within grid cycle rows before) next
    ∙ within_suc grid cycle rows before (from + count)
    ∙ ap (λ (o : Option Peak). Some (greater_of o at)) (joined grid cycle rows before from count)

agree-after : (known : ℤ) (grid : Grid) (cycle : ℕ) (rows : List NodeRow) (one other : Option Peak) (from count : ℕ) → Agree known one other
    → Agree known (greatest_after grid cycle rows one from count) (greatest_after grid cycle rows other from count)
unfolding greatest_after
agree-after known grid cycle rows one other from zero agree = agree
agree-after known grid cycle rows one other from (suc count) agree =
    agree-step known (greatest_after grid cycle rows one from count) (greatest_after grid cycle rows other from count)
    (record { skew = spread_at grid cycle rows (from + count); cycle = cycle; macrotick = from + count }) (agree-after known grid cycle rows one other from count agree)

agree-without : (known : ℤ) (grid : Grid) (cycle : ℕ) (rows : List NodeRow) (one other : Option Peak) (from count : ℕ) → Agree known one other
    → ((macrotick : ℕ) → from ≤ macrotick → macrotick < from + count → spread_at grid cycle rows macrotick <ℤ known)
    → Agree known one (greatest_after grid cycle rows other from count)
unfolding greatest_after
agree-without known grid cycle rows one other from zero agree low = agree
agree-without known grid cycle rows one other from (suc count) agree low =
    agree-left known one (greatest_after grid cycle rows other from count)
    (record { skew = spread_at grid cycle rows (from + count); cycle = cycle; macrotick = from + count })
    (agree-without known grid cycle rows one other from count agree (λ m above below. low m above (omega arith)))
    (low (from + count) (omega arith) (omega arith))

-- a stretch is swept or left out
pub agree-stretch : (known : ℤ) (grid : Grid) (cycle : ℕ) (rows : List NodeRow) (before peak next : Option Peak) (from to : ℕ) → from ≤ to
    → Agree known peak (greatest_within grid cycle rows before from)
    → (next ≡ greatest_after grid cycle rows peak from (to - from))
    ⊎ ((next ≡ peak) × ((macrotick : ℕ) → from ≤ macrotick → macrotick < to → spread_at grid cycle rows macrotick <ℤ known))
    → Agree known next (greatest_within grid cycle rows before to)
agree-stretch known grid cycle rows before peak next from to order agree which =
    let whole : from + (to - from) ≡ to = omega arith in
    let is : greatest_within grid cycle rows before to ≡ greatest_after grid cycle rows (greatest_within grid cycle rows before from) from (to - from) =
    ap (greatest_within grid cycle rows before) (sym whole) ∙ joined grid cycle rows before from (to - from) in
    subst (Agree known next) (sym is) (by whole which)
  where
    by : from + (to - from) ≡ to → (next ≡ greatest_after grid cycle rows peak from (to - from))
        ⊎ ((next ≡ peak) × ((macrotick : ℕ) → from ≤ macrotick → macrotick < to → spread_at grid cycle rows macrotick <ℤ known))
        → Agree known next (greatest_after grid cycle rows (greatest_within grid cycle rows before from) from (to - from))
    by whole (inl swept) =
        let To : Option Peak → Type 0 = λ o. Agree known o (greatest_after grid cycle rows (greatest_within grid cycle rows before from) from (to - from)) in
        subst To (sym swept) (agree-after known grid cycle rows peak (greatest_within grid cycle rows before from) from (to - from) agree)
    by whole (inr left) =
        let To : Option Peak → Type 0 = λ o. Agree known o (greatest_after grid cycle rows (greatest_within grid cycle rows before from) from (to - from)) in
        subst To (sym left.0) (agree-without known grid cycle rows peak (greatest_within grid cycle rows before from) from (to - from) agree
        (λ m above below. left.1 m above (omega (arith, whole, below))))

-- where no macrotick of a stretch has a greater skew, the greatest one stays
after-kept_by : (grid : Grid) (cycle : ℕ) (rows : List NodeRow) (peak : Peak) (from count : ℕ) → ((macrotick : ℕ) → from ≤ macrotick → macrotick < from + count → spread_at grid cycle rows macrotick ≤ℤ peak.skew)
    → greatest_after grid cycle rows (Some peak) from count ≡ Some peak
unfolding greatest_after
after-kept_by grid cycle rows peak from zero below = refl
after-kept_by grid cycle rows peak from (suc count) below =
    let later : Peak = record { skew = spread_at grid cycle rows (from + count); cycle = cycle; macrotick = from + count } in
    ap (λ (o : Option Peak). Some (greater_of o later)) (after-kept_by grid cycle rows peak from count (λ m above less. below m above (omega arith)))
    ∙ ap Some (kept peak later (below (from + count) (omega arith) (omega arith)))

pub after-kept : (grid : Grid) (cycle : ℕ) (rows : List NodeRow) (bound : ℤ) (peak : Option Peak) (from to : ℕ) → from ≤ to → IsNoGreater bound peak
    → ((macrotick : ℕ) → from ≤ macrotick → macrotick < to → spread_at grid cycle rows macrotick ≤ℤ bound)
    → peak ≡ greatest_after grid cycle rows peak from (to - from)
after-kept grid cycle rows bound None from to order no_greater below = absurd no_greater
after-kept grid cycle rows bound (Some peak) from to order no_greater below =
    let whole : from + (to - from) ≡ to = omega (arith, order) in
    sym (after-kept_by grid cycle rows peak from (to - from)
    (λ m above less. chain (spread_at grid cycle rows m) bound peak.skew (below m above (omega (arith, whole, less))) no_greater))
  where
    chain : (a b c : ℤ) → a ≤ℤ b → b ≤ℤ c → a ≤ℤ c
    chain a b c one two = omega (arith, ints)

-- ---- at the end

parts-below : (known : ℤ) (peak : Option Peak) (later : Peak) → IsBelow known (Some (greater_of peak later)) → IsBelow known peak × (later.skew <ℤ known)
parts-below known None later below = (tt, below)
parts-below known (Some p) later below =
    by_lt_z p.skew later.skew
    (λ less.
    let At : Bool → Type 0 = λ b. (greater_by b p later).skew <ℤ known in
    let here : later.skew <ℤ known = subst At (lt_true p.skew later.skew less) below in
    (first p.skew later.skew known less here, here))
    (λ high.
    let At : Bool → Type 0 = λ b. (greater_by b p later).skew <ℤ known in
    let here : p.skew <ℤ known = subst At (lt_false p.skew later.skew high) below in
    (here, second later.skew p.skew known high here))
  where
    first : (a b k : ℤ) → a <ℤ b → b <ℤ k → a <ℤ k
    first a b k one two = omega (arith, ints)

    second : (a b k : ℤ) → a ≤ℤ b → b <ℤ k → a <ℤ k
    second a b k one two = omega (arith, ints)

all-below : (known : ℤ) (grid : Grid) (cycle : ℕ) (rows : List NodeRow) (before : Option Peak) (count macrotick : ℕ) → macrotick < count
    → IsBelow known (greatest_within grid cycle rows before count) → spread_at grid cycle rows macrotick <ℤ known
unfolding greatest_within
all-below known grid cycle rows before zero macrotick less below = absurd (omega arith)
all-below known grid cycle rows before (suc count) macrotick less below =
    let parts = parts-below known (greatest_within grid cycle rows before count) (record { skew = spread_at grid cycle rows count; cycle = cycle; macrotick = count }) below in
    elim (cases_lt macrotick count) [
      | inl earlier ↦ all-below known grid cycle rows before count macrotick earlier parts.0
      | inr last ↦
          let same : count ≡ macrotick = omega (arith, less, last) in
          subst (λ (m : ℕ). spread_at grid cycle rows m <ℤ known) same parts.1
    ]

-- where some macrotick has that skew, both sweeps found the same
pub agree-whole : (known : ℤ) (grid : Grid) (cycle : ℕ) (rows : List NodeRow) (before peak : Option Peak) (count macrotick : ℕ) → macrotick < count
    → known ≤ℤ spread_at grid cycle rows macrotick → Agree known peak (greatest_within grid cycle rows before count) → peak ≡ greatest_within grid cycle rows before count
agree-whole known grid cycle rows before peak count macrotick less reached (inl same) = same
agree-whole known grid cycle rows before peak count macrotick less reached (inr below) =
    absurd (never known (spread_at grid cycle rows macrotick) reached (all-below known grid cycle rows before count macrotick less below.1))
  where
    never : (k s : ℤ) → k ≤ℤ s → s <ℤ k → ⊥
    never k s one two = omega (arith, ints)
