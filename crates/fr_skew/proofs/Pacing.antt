-- How far apart nodes lie that have the same macroticks: no macrotick between two lies further apart than these.
use Rattle.std.proofs.Common.{◌≡◌, ◌∙◌, ◌⊎◌, ℕ, ◌*◌, ◌/◌, ◌<◌, ◌≤◌, Bool, true, false, ℤ, pos, negsuc, List, [], ◌∷◌, All, None, refl, inl, inr, ap, sym, subst, arith}
use Rattle.std.specs.Prelude.{◌+ℤ◌, ◌-ℤ◌, ◌*ℤ◌, ◌≤ℤ◌, ◌<ℤ◌, not, slice_get}
use Rattle.std.proofs.Math.Nat.{div-add-mod'}
use Rattle.std.proofs.lemmas.Int.{ints, by_lt_z}
use Rattle.std.proofs.lemmas.Nat.{le-div}
use Rattle.std.proofs.lemmas.List.Elements.{All-contains, All-filter, All-nil}
use Rattle.fr_base.specs.States.{is_halted}
use Rattle.fr_base.specs.declared.node_row.NodeRow.{NodeRow}
use Rattle.fr_base.proofs.Products.{product-le, product_from}
use Rattle.fr_midpoint.proofs.Products.{mulz-subz}
use Rattle.fr_time.specs.Cycles.{is_odd}
use Rattle.fr_time.specs.Instant.{instant_of}
use Rattle.fr_time.specs.Placed.{IsPlacedRow}
use Rattle.fr_time.specs.Position.{corrected_micros, corrected_position, even_position, floor_of, position_of, IsPlaceable}
use Rattle.fr_time.specs.declared.grid.Grid.{Grid}
use Rattle.fr_time.proofs.Ends.{corrected_micros_from}
use Rattle.fr_skew.specs.Alike.{AreAlike, HasRate, HasTerms, HaveOneRate, KeepPace}
use Rattle.fr_skew.specs.Spreads.{running, spread_at}
use Rattle.fr_skew.proofs.Bounds.{apart_at, before_correction, int_lt_false, int_lt_true, pair_apart, spread_of_pairs}
use Rattle.fr_skew.proofs.Sections.{between}

-- ---- a later macrotick lies no earlier

naturals_grow : (a b parts : ℕ) → 0 < parts → a ≤ b → a / parts ≤ b / parts
naturals_grow a b parts some le =
    let whole : a / parts * parts ≤ a = omega (arith, div-add-mod' a parts) in
    le-div (a / parts) b parts some (omega (arith, whole, le))

floors_grow : (a b parts : ℤ) → pos 0 ≤ℤ a → a ≤ℤ b → pos 1 ≤ℤ parts → floor_of a parts ≤ℤ floor_of b parts
floors_grow (pos a) (pos b) (pos parts) from le some =
    let grow : a / parts ≤ b / parts = naturals_grow a b parts (omega (arith, ints, some)) (omega (arith, ints, le)) in omega (arith, ints, grow)
floors_grow (negsuc a) b parts from le some = absurd (omega (arith, ints))
floors_grow (pos a) (negsuc b) parts from le some = absurd (omega (arith, ints))
floors_grow (pos a) (pos b) (negsuc parts) from le some = absurd (omega (arith, ints))

shares_grow : (m n length parts : ℤ) → pos 0 ≤ℤ m → m ≤ℤ n → pos 0 ≤ℤ length → pos 1 ≤ℤ parts → floor_of (m *ℤ length) parts ≤ℤ floor_of (n *ℤ length) parts
shares_grow m n length parts from le some parts_from =
    floors_grow (m *ℤ length) (n *ℤ length) parts (product_from m length from some) (product-le m n length from le some) parts_from

share_from : (m length parts : ℤ) → pos 0 ≤ℤ m → pos 0 ≤ℤ length → pos 1 ≤ℤ parts → pos 0 ≤ℤ floor_of (m *ℤ length) parts
share_from m length parts from some parts_from =
    zero_first (floor_of (pos 0 *ℤ length) parts) (floor_of (m *ℤ length) parts) (none length parts some parts_from) (shares_grow (pos 0) m length parts (omega (arith, ints)) from some parts_from)
  where
    zero_first : (a b : ℤ) → pos 0 ≤ℤ a → a ≤ℤ b → pos 0 ≤ℤ b
    zero_first a b one two = omega (arith, ints)

    none : (length parts : ℤ) → pos 0 ≤ℤ length → pos 1 ≤ℤ parts → pos 0 ≤ℤ floor_of (pos 0 *ℤ length) parts
    none (pos length) (pos parts) some parts_from = omega (arith, ints)
    none (negsuc length) parts some parts_from = absurd (omega (arith, ints))
    none (pos length) (negsuc parts) some parts_from = absurd (omega (arith, ints))

even_grows : (grid : Grid) (rate offset m n : ℤ) → IsPlaceable grid rate offset → pos 0 ≤ℤ m → m ≤ℤ n → even_position grid rate m ≤ℤ even_position grid rate n
even_grows grid rate offset m n can from le =
    shares_grow m n (grid.micros +ℤ rate) grid.macros from le
    (omega (arith, ints, can.is_grid.correction_from, can.is_grid.correction_to, can.micros_from)) (omega (arith, ints, can.is_grid.correction_from, can.is_grid.correction_to))

late_grows : (grid : Grid) (rate offset m n : ℤ) → IsPlaceable grid rate offset → grid.correction ≤ℤ m → m ≤ℤ n → corrected_position grid rate offset m ≤ℤ corrected_position grid rate offset n
late_grows grid rate offset m n can from le =
    more (even_position grid rate grid.correction) _ _
    (shares_grow (m -ℤ grid.correction) (n -ℤ grid.correction) (corrected_micros grid rate offset) (grid.macros -ℤ grid.correction)
    (left m grid.correction from) (less m n grid.correction le) (corrected_micros_from grid rate offset can) (parts grid.correction grid.macros can.is_grid.correction_to))
  where
    more : (s a b : ℤ) → a ≤ℤ b → (s +ℤ a) ≤ℤ (s +ℤ b)
    more s a b le = omega (arith, ints)

    left : (m o : ℤ) → o ≤ℤ m → pos 0 ≤ℤ (m -ℤ o)
    left m o le = omega (arith, ints)

    less : (m n o : ℤ) → m ≤ℤ n → (m -ℤ o) ≤ℤ (n -ℤ o)
    less m n o le = omega (arith, ints)

    parts : (o g : ℤ) → o <ℤ g → pos 1 ≤ℤ (g -ℤ o)
    parts o g less = omega (arith, ints)

late_from : (grid : Grid) (rate offset n : ℤ) → IsPlaceable grid rate offset → grid.correction ≤ℤ n → even_position grid rate grid.correction ≤ℤ corrected_position grid rate offset n
late_from grid rate offset n can from =
    more (even_position grid rate grid.correction) _
    (share_from (n -ℤ grid.correction) (corrected_micros grid rate offset) (grid.macros -ℤ grid.correction) (left n grid.correction from) (corrected_micros_from grid rate offset can) (parts grid.correction grid.macros can.is_grid.correction_to))
  where
    more : (s a : ℤ) → pos 0 ≤ℤ a → s ≤ℤ (s +ℤ a)
    more s a le = omega (arith, ints)

    left : (m o : ℤ) → o ≤ℤ m → pos 0 ≤ℤ (m -ℤ o)
    left m o le = omega (arith, ints)

    parts : (o g : ℤ) → o <ℤ g → pos 1 ≤ℤ (g -ℤ o)
    parts o g less = omega (arith, ints)

early_is : (grid : Grid) (rate offset m : ℤ) → m ≤ℤ grid.correction → position_of grid rate offset true m ≡ even_position grid rate m
early_is grid rate offset m le = rw (int_lt_false grid.correction m le) refl

late_is : (grid : Grid) (rate offset m : ℤ) → grid.correction <ℤ m → position_of grid rate offset true m ≡ corrected_position grid rate offset m
late_is grid rate offset m less = rw (int_lt_true grid.correction m less) refl

chain : (a b c : ℤ) → a ≤ℤ b → b ≤ℤ c → a ≤ℤ c
chain a b c one two = omega (arith, ints)

moved : (a a' b b' : ℤ) → a ≡ a' → b ≡ b' → a' ≤ℤ b' → a ≤ℤ b
moved a a' b b' one two le = omega (arith, ints)

weaker : (a b : ℤ) → a <ℤ b → a ≤ℤ b
weaker a b less = omega (arith, ints)

itself : (a : ℤ) → a ≤ℤ a
itself a = omega (arith, ints)

positions_grow : (grid : Grid) (rate offset : ℤ) (odd : Bool) (m n : ℤ) → IsPlaceable grid rate offset → pos 0 ≤ℤ m → m ≤ℤ n → position_of grid rate offset odd m ≤ℤ position_of grid rate offset odd n
positions_grow grid rate offset false m n can from le = even_grows grid rate offset m n can from le
positions_grow grid rate offset true m n can from le =
    let o = grid.correction in
    by_lt_z o n
    (λ late.
    by_lt_z o m
    (λ both_late.
    moved _ _ _ _ (late_is grid rate offset m both_late) (late_is grid rate offset n late) (late_grows grid rate offset m n can (weaker o m both_late) le))
    (λ early.
    moved _ _ _ _ (early_is grid rate offset m early) (late_is grid rate offset n late)
    (chain (even_position grid rate m) (even_position grid rate o) (corrected_position grid rate offset n) (even_grows grid rate offset m o can from early) (late_from grid rate offset n can (weaker o n late)))))
    (λ early.
    moved _ _ _ _ (early_is grid rate offset m (chain m n o le early)) (early_is grid rate offset n early) (even_grows grid rate offset m n can from le))

-- ---- rows with the same terms

pub none_alike : (rows : List NodeRow) → None ≡ slice_get rows 0 → AreAlike rows
none_alike [] first = record { rate = pos 0; offset = pos 0; each = All-nil (HasTerms (pos 0) (pos 0)) }
none_alike (row ∷ rows) first = absurd (cc)

at_pace : (grid : Grid) (rate offset : ℤ) (odd : Bool) (m : ℤ) (row : NodeRow) → HasTerms rate offset row → instant_of grid row odd m ≡ row.start +ℤ (position_of grid rate offset odd m *ℤ row.length)
at_pace grid rate offset odd m row has =
    ap (λ (x : ℤ). row.start +ℤ (position_of grid x row.offset odd m *ℤ row.length)) has.rate_is
    ∙ ap (λ (x : ℤ). row.start +ℤ (position_of grid rate x odd m *ℤ row.length)) has.offset_is

difference : (s t p k l x y : ℤ) → x ≡ s +ℤ (p *ℤ k) → y ≡ t +ℤ (p *ℤ l) → (x -ℤ y) ≡ (s -ℤ t) +ℤ (p *ℤ (k -ℤ l))
difference s t p k l x y one two = sums s t (p *ℤ k) (p *ℤ l) (p *ℤ (k -ℤ l)) x y one two (mulz-subz k l p)
  where
    sums : (s t pk pl pe x y : ℤ) → x ≡ s +ℤ pk → y ≡ t +ℤ pl → pe ≡ pk -ℤ pl → (x -ℤ y) ≡ (s -ℤ t) +ℤ pe
    sums s t pk pl pe x y one two e = omega (arith, ints)

placeable_by : (grid : Grid) (rate offset : ℤ) (row : NodeRow) → IsPlacedRow grid row → HasTerms rate offset row → IsPlaceable grid rate offset
placeable_by grid rate offset row here has =
    let P : ℤ → Type 0 = λ x. IsPlaceable grid x offset in
    let Q : ℤ → Type 0 = λ x. IsPlaceable grid row.rate x in
    subst P has.rate_is (subst Q has.offset_is here.placeable)

pair_alike : (grid : Grid) (rate offset : ℤ) (odd : Bool) (a m b bound : ℤ) (one other : NodeRow) → IsPlacedRow grid one → HasTerms rate offset one → HasTerms rate offset other
    → pos 0 ≤ℤ a → a ≤ℤ m → m ≤ℤ b
    → (instant_of grid one odd a -ℤ instant_of grid other odd a) ≤ℤ bound → (instant_of grid one odd b -ℤ instant_of grid other odd b) ≤ℤ bound
    → (instant_of grid one odd m -ℤ instant_of grid other odd m) ≤ℤ bound
pair_alike grid rate offset odd a m b bound one other here has there from below above near_a near_b =
    let can = placeable_by grid rate offset one here has in
    let p : ℤ → ℤ = position_of grid rate offset odd in
    let apart : (x : ℤ) → (instant_of grid one odd x -ℤ instant_of grid other odd x) ≡ (one.start -ℤ other.start) +ℤ (p x *ℤ (one.length -ℤ other.length)) =
    (λ x. difference one.start other.start (p x) one.length other.length (instant_of grid one odd x) (instant_of grid other odd x) (at_pace grid rate offset odd x one has) (at_pace grid rate offset odd x other there)) in
    back (instant_of grid one odd m -ℤ instant_of grid other odd m) _ bound (apart m)
    (between (one.start -ℤ other.start) (one.length -ℤ other.length) (p a) (p m) (p b) bound
    (positions_grow grid rate offset odd a m can from below) (positions_grow grid rate offset odd m b can (chain (pos 0) a m from below) above)
    (back _ (instant_of grid one odd a -ℤ instant_of grid other odd a) bound (sym (apart a)) near_a)
    (back _ (instant_of grid one odd b -ℤ instant_of grid other odd b) bound (sym (apart b)) near_b))
  where
    back : (x y bound : ℤ) → x ≡ y → y ≤ℤ bound → x ≤ℤ bound
    back x y bound is le = omega (arith, ints)

rows_alike : (grid : Grid) (odd : Bool) (rows : List NodeRow) (rate offset a m b bound : ℤ) → All (IsPlacedRow grid) rows → All (HasTerms rate offset) rows → pos 0 ≤ℤ a → a ≤ℤ m → m ≤ℤ b → pos 0 ≤ℤ bound
    → apart_at grid odd rows a ≤ℤ bound → apart_at grid odd rows b ≤ℤ bound → apart_at grid odd rows m ≤ℤ bound
rows_alike grid odd rows rate offset a m b bound placed alike from below above bound_from near_a near_b =
    let at : ℤ → NodeRow → ℤ = λ x row. instant_of grid row odd x in
    spread_of_pairs (at m) bound rows bound_from
    (λ one other here there.
    pair_alike grid rate offset odd a m b bound one other (All-contains (IsPlacedRow grid) rows one placed here) (All-contains (HasTerms rate offset) rows one alike here) (All-contains (HasTerms rate offset) rows other alike there) from below above
    (pair_apart (at a) bound rows one other near_a here there) (pair_apart (at b) bound rows one other near_b here there))

-- where the instants at two macroticks lie within a bound, those between them do
pub alike_bounded : (grid : Grid) (cycle : ℕ) (rows : List NodeRow) (from macrotick to : ℕ) (bound : ℤ) → All (IsPlacedRow grid) rows → AreAlike rows
    → from ≤ macrotick → macrotick ≤ to → pos 0 ≤ℤ bound → spread_at grid cycle rows from ≤ℤ bound → spread_at grid cycle rows to ≤ℤ bound
    → spread_at grid cycle rows macrotick ≤ℤ bound
unfolding spread_at
alike_bounded grid cycle rows from macrotick to bound placed alike above below bound_from begins ends =
    let kept : NodeRow → Bool = λ row. not (is_halted row.state) in
    rows_alike grid (is_odd cycle) (running rows) alike.rate alike.offset (pos from) (pos macrotick) (pos to) bound
    (All-filter kept (IsPlacedRow grid) rows placed) (All-filter kept (HasTerms alike.rate alike.offset) rows alike.each)
    (omega (arith, ints)) (omega (arith, ints, above)) (omega (arith, ints, below)) bound_from begins ends

-- ---- rows with the same rate, where no offset correction moves them

pub none_of_one_rate : (rows : List NodeRow) → None ≡ slice_get rows 0 → HaveOneRate rows
none_of_one_rate [] first = record { rate = pos 0; each = All-nil (HasRate (pos 0)) }
none_of_one_rate (row ∷ rows) first = absurd (cc)

evenly_at : (grid : Grid) (rate m : ℤ) (row : NodeRow) → HasRate rate row → instant_of grid row false m ≡ row.start +ℤ (even_position grid rate m *ℤ row.length)
evenly_at grid rate m row has = ap (λ (x : ℤ). row.start +ℤ (even_position grid x m *ℤ row.length)) has.rate_is

pair_even : (grid : Grid) (rate a m b bound : ℤ) (one other : NodeRow) → IsPlacedRow grid one → HasRate rate one → HasRate rate other
    → pos 0 ≤ℤ a → a ≤ℤ m → m ≤ℤ b
    → (instant_of grid one false a -ℤ instant_of grid other false a) ≤ℤ bound → (instant_of grid one false b -ℤ instant_of grid other false b) ≤ℤ bound
    → (instant_of grid one false m -ℤ instant_of grid other false m) ≤ℤ bound
pair_even grid rate a m b bound one other here has there from below above near_a near_b =
    let P : ℤ → Type 0 = λ x. IsPlaceable grid x one.offset in
    let can : IsPlaceable grid rate one.offset = subst P has.rate_is here.placeable in
    let p : ℤ → ℤ = even_position grid rate in
    let apart : (x : ℤ) → (instant_of grid one false x -ℤ instant_of grid other false x) ≡ (one.start -ℤ other.start) +ℤ (p x *ℤ (one.length -ℤ other.length)) =
    (λ x. difference one.start other.start (p x) one.length other.length (instant_of grid one false x) (instant_of grid other false x) (evenly_at grid rate x one has) (evenly_at grid rate x other there)) in
    back (instant_of grid one false m -ℤ instant_of grid other false m) _ bound (apart m)
    (between (one.start -ℤ other.start) (one.length -ℤ other.length) (p a) (p m) (p b) bound
    (even_grows grid rate one.offset a m can from below) (even_grows grid rate one.offset m b can (chain (pos 0) a m from below) above)
    (back _ (instant_of grid one false a -ℤ instant_of grid other false a) bound (sym (apart a)) near_a)
    (back _ (instant_of grid one false b -ℤ instant_of grid other false b) bound (sym (apart b)) near_b))
  where
    back : (x y bound : ℤ) → x ≡ y → y ≤ℤ bound → x ≤ℤ bound
    back x y bound is le = omega (arith, ints)

pair_paced : (grid : Grid) (odd : Bool) (rate a m b bound : ℤ) (one other : NodeRow) → (odd ≡ false) ⊎ (b ≤ℤ grid.correction) → IsPlacedRow grid one → HasRate rate one → HasRate rate other
    → pos 0 ≤ℤ a → a ≤ℤ m → m ≤ℤ b
    → (instant_of grid one odd a -ℤ instant_of grid other odd a) ≤ℤ bound → (instant_of grid one odd b -ℤ instant_of grid other odd b) ≤ℤ bound
    → (instant_of grid one odd m -ℤ instant_of grid other odd m) ≤ℤ bound
pair_paced grid false rate a m b bound one other before here has there from below above near_a near_b =
    pair_even grid rate a m b bound one other here has there from below above near_a near_b
pair_paced grid true rate a m b bound one other (inl even) here has there from below above near_a near_b = absurd (cc)
pair_paced grid true rate a m b bound one other (inr early) here has there from below above near_a near_b =
    let o = grid.correction in
    let m_early : m ≤ℤ o = chain m b o above early in
    let a_early : a ≤ℤ o = chain a m o below m_early in
    same bound (instant_of grid one false m) (instant_of grid one true m) (instant_of grid other false m) (instant_of grid other true m)
    (sym (before_correction grid one m m_early)) (sym (before_correction grid other m m_early))
    (pair_even grid rate a m b bound one other here has there from below above
    (same bound (instant_of grid one true a) (instant_of grid one false a) (instant_of grid other true a) (instant_of grid other false a) (before_correction grid one a a_early) (before_correction grid other a a_early) near_a)
    (same bound (instant_of grid one true b) (instant_of grid one false b) (instant_of grid other true b) (instant_of grid other false b) (before_correction grid one b early) (before_correction grid other b early) near_b))
  where
    same : (bound x x' y y' : ℤ) → x ≡ x' → y ≡ y' → (x -ℤ y) ≤ℤ bound → (x' -ℤ y') ≤ℤ bound
    same bound x x' y y' e g within = omega (arith, ints)

rows_paced : (grid : Grid) (odd : Bool) (rows : List NodeRow) (rate a m b bound : ℤ) → (odd ≡ false) ⊎ (b ≤ℤ grid.correction) → All (IsPlacedRow grid) rows → All (HasRate rate) rows
    → pos 0 ≤ℤ a → a ≤ℤ m → m ≤ℤ b → pos 0 ≤ℤ bound
    → apart_at grid odd rows a ≤ℤ bound → apart_at grid odd rows b ≤ℤ bound → apart_at grid odd rows m ≤ℤ bound
rows_paced grid odd rows rate a m b bound before placed paced from below above bound_from near_a near_b =
    let at : ℤ → NodeRow → ℤ = λ x row. instant_of grid row odd x in
    spread_of_pairs (at m) bound rows bound_from
    (λ one other here there.
    pair_paced grid odd rate a m b bound one other before (All-contains (IsPlacedRow grid) rows one placed here) (All-contains (HasRate rate) rows one paced here) (All-contains (HasRate rate) rows other paced there) from below above
    (pair_apart (at a) bound rows one other near_a here there) (pair_apart (at b) bound rows one other near_b here there))

-- where the instants at two macroticks lie within a bound, those between them do
pub paced_bounded : (grid : Grid) (cycle : ℕ) (rows : List NodeRow) (from macrotick to : ℕ) (bound : ℤ) → All (IsPlacedRow grid) rows → KeepPace grid cycle rows to
    → from ≤ macrotick → macrotick ≤ to → pos 0 ≤ℤ bound → spread_at grid cycle rows from ≤ℤ bound → spread_at grid cycle rows to ≤ℤ bound
    → spread_at grid cycle rows macrotick ≤ℤ bound
unfolding spread_at
paced_bounded grid cycle rows from macrotick to bound placed keep above below bound_from begins ends =
    let kept : NodeRow → Bool = λ row. not (is_halted row.state) in
    rows_paced grid (is_odd cycle) (running rows) keep.one_rate.rate (pos from) (pos macrotick) (pos to) bound keep.before
    (All-filter kept (IsPlacedRow grid) rows placed) (All-filter kept (HasRate keep.one_rate.rate) rows keep.one_rate.each)
    (omega (arith, ints)) (omega (arith, ints, above)) (omega (arith, ints, below)) bound_from begins ends
