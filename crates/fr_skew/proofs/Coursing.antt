-- Running nodes' cycles that go on together.
use Rattle.std.proofs.Common.{◌≡◌, ◌∙◌, ℕ, zero, suc, ◌+◌, ◌<◌, ◌≤◌, Bool, true, false, ℤ, pos, List, [], ◌∷◌, ◌++◌, All, length, map, take, drop, get_or, set, Option, None, refl, ap, sym, subst, arith}
use Rattle.std.specs.Prelude.{◌+ℤ◌, ◌≤ℤ◌, ◌<ℤ◌, not}
use Rattle.std.specs.List.{flat_map, fold}
use Rattle.std.proofs.lemmas.Int.{ints}
use Rattle.std.proofs.lemmas.List.{map_more}
use Rattle.std.proofs.lemmas.List.Edits.{map_over_more}
use Rattle.std.proofs.lemmas.List.Elements.{All-filter, All-map, All-weaker}
use Rattle.std.proofs.lemmas.List.Sums.{fold-append}
use Rattle.fr_base.specs.States.{is_halted}
use Rattle.fr_base.specs.declared.node_row.NodeRow.{NodeRow}
use Rattle.fr_time.specs.Cycles.{is_odd}
use Rattle.fr_time.specs.Instant.{instant_of}
use Rattle.fr_time.specs.Placed.{IsPlacedRow}
use Rattle.fr_time.specs.declared.grid.Grid.{Grid}
use Rattle.fr_skew.specs.Courses.{course_if, course_of, courses_at, gone_on, gone_to, next_instant, AreCourses, CanGoOn}
use Rattle.fr_skew.specs.Extents.{with_number}
use Rattle.fr_skew.specs.Spreads.{running, spread_at, spread_of}
use Rattle.fr_skew.specs.declared.courses.Course.{Course}
use Rattle.fr_skew.specs.declared.extent.Extent.{Extent}

-- ---- a sweep over a list: those so far are stepped, the others are as they were

-- the element that comes next is as it was
pub swept-next : {X : Type 0} (f : X → X) (xs ys : List X) (i : ℕ) (x : X) → i < length xs → ys ≡ map f (take i xs) ++ drop i xs → x ≡ get_or ys i x → x ≡ get_or xs i x
swept-next {X = X} f xs ys i x lt swept at = at ∙ ap (λ (zs : List X). get_or zs i x) swept ∙ rest f xs i x lt
  where
    rest : {X : Type 0} (f : X → X) (xs : List X) (i : ℕ) (d : X) → i < length xs → get_or (map f (take i xs) ++ drop i xs) i d ≡ get_or xs i d
    rest f [] i d lt = absurd (omega arith)
    rest f (x ∷ xs) zero d lt = refl
    rest f (x ∷ xs) (suc i) d lt = rest f xs i d (omega arith)

-- one more is stepped
pub swept-more : {X : Type 0} (f : X → X) (xs ys : List X) (i : ℕ) (x new : X) → i < length xs → ys ≡ map f (take i xs) ++ drop i xs → x ≡ get_or ys i x → new ≡ f x →
    set ys i new ≡ map f (take (i + 1) xs) ++ drop (i + 1) xs
swept-more f xs ys i x new lt swept at stepped = ap (set ys i) stepped ∙ map_over_more f xs ys i x lt swept at

-- one more instant
pub instants-more : (courses : List Course) (i : ℕ) (course : Course) (before : Option Extent) (at : ℤ) → i < length courses → course ≡ get_or courses i course
    → before ≡ fold with_number None (map next_instant (take i courses)) → at ≡ next_instant course
    → with_number before at ≡ fold with_number None (map next_instant (take (i + 1) courses))
instants-more courses i course before at lt here so_far is =
    let more : map next_instant (take (i + 1) courses) ≡ map next_instant (take i courses) ++ next_instant course ∷ [] =
    map_more next_instant courses i course lt ∙ ap (λ (x : Course). map next_instant (take i courses) ++ next_instant x ∷ []) (sym here) in
    ap (with_number before) is
    ∙ ap (λ (o : Option Extent). with_number o (next_instant course)) so_far
    ∙ sym (ap (fold with_number None) more ∙ fold-append with_number None (map next_instant (take i courses)) (next_instant course ∷ []))

-- ---- the courses of rows

joined : (grid : Grid) (odd : Bool) (row : NodeRow) (rows : List NodeRow) → flat_map (course_if grid odd) rows ≡ map (course_of grid odd (pos 0)) (running rows)
    → (halted : Bool) → is_halted row.state ≡ halted
    → flat_map (course_if grid odd) (row ∷ rows) ≡ map (course_of grid odd (pos 0)) (running (row ∷ rows))
joined grid odd row rows rest true is = rw is rest
joined grid odd row rows rest false is = rw is (ap (λ (xs : List Course). course_of grid odd (pos 0) row ∷ xs) rest)

pub courses_joined : (grid : Grid) (odd : Bool) (rows : List NodeRow) → flat_map (course_if grid odd) rows ≡ map (course_of grid odd (pos 0)) (running rows)
courses_joined grid odd [] = refl
courses_joined grid odd (row ∷ rows) = joined grid odd row rows (courses_joined grid odd rows) (is_halted row.state) refl

pub course_short : (grid : Grid) (odd : Bool) (row : NodeRow) → length (course_if grid odd row) ≤ 1
course_short grid odd row = by (is_halted row.state) refl
  where
    by : (halted : Bool) → is_halted row.state ≡ halted → length (course_if grid odd row) ≤ 1
    by true is = rw is (omega arith)
    by false is = rw is (omega arith)

-- ---- they move together

moved_by : (f : Course → Course) (g h : NodeRow → Course) (rows : List NodeRow) → ((row : NodeRow) → f (g row) ≡ h row) → map f (map g rows) ≡ map h rows
moved_by f g h [] each = refl
moved_by f g h (row ∷ rows) each =
    ap (λ (x : Course). x ∷ map f (map g rows)) (each row) ∙ ap (λ (xs : List Course). h row ∷ xs) (moved_by f g h rows each)

pub all_gone_to : (grid : Grid) (cycle : ℕ) (rows : List NodeRow) (m n : ℤ) → map (gone_to n) (courses_at grid cycle rows m) ≡ courses_at grid cycle rows n
all_gone_to grid cycle rows m n = moved_by (gone_to n) (course_of grid (is_odd cycle) m) (course_of grid (is_odd cycle) n) (running rows) (λ row. refl)

pub all_gone_on : (grid : Grid) (cycle : ℕ) (rows : List NodeRow) (m : ℕ) → map gone_on (courses_at grid cycle rows (pos m)) ≡ courses_at grid cycle rows (pos (m + 1))
all_gone_on grid cycle rows m =
    let next : pos m +ℤ pos 1 ≡ pos (m + 1) = omega (arith, ints) in
    moved_by gone_on (course_of grid (is_odd cycle) (pos m)) (course_of grid (is_odd cycle) (pos m +ℤ pos 1)) (running rows) (λ row. refl)
    ∙ ap (courses_at grid cycle rows) next

instants_of : (grid : Grid) (odd : Bool) (m : ℤ) (rows : List NodeRow) → map next_instant (map (course_of grid odd m) rows) ≡ map (λ row. instant_of grid row odd m) rows
instants_of grid odd m [] = refl
instants_of grid odd m (row ∷ rows) = ap (λ (xs : List ℤ). instant_of grid row odd m ∷ xs) (instants_of grid odd m rows)

pub spread_along : (grid : Grid) (cycle : ℕ) (rows : List NodeRow) (m : ℕ) → spread_of (map next_instant (courses_at grid cycle rows (pos m))) ≡ spread_at grid cycle rows m
unfolding spread_at
spread_along grid cycle rows m = ap spread_of (instants_of grid (is_odd cycle) (pos m) (running rows))

-- ---- what they can

placed_running : (grid : Grid) (rows : List NodeRow) → All (IsPlacedRow grid) rows → All (IsPlacedRow grid) (running rows)
placed_running grid rows placed = All-filter (λ (row : NodeRow). not (is_halted row.state)) (IsPlacedRow grid) rows placed

pub all_can_go_on : (grid : Grid) (cycle : ℕ) (rows : List NodeRow) (courses : List Course) (m : ℤ) → All (IsPlacedRow grid) rows → m <ℤ grid.macros
    → courses ≡ courses_at grid cycle rows m → All CanGoOn courses
all_can_go_on grid cycle rows courses m placed less are =
    subst (All CanGoOn) (sym are)
    (All-map CanGoOn (course_of grid (is_odd cycle) m) (running rows)
    (All-weaker (IsPlacedRow grid) (λ row. CanGoOn (course_of grid (is_odd cycle) m row)) (λ row here. record { more = less; start = here.timed.start; length = here.timed.length })
    (running rows) (placed_running grid rows placed)))

pub all_can_go : (grid : Grid) (cycle : ℕ) (rows : List NodeRow) (courses : List Course) (n : ℤ) → All (IsPlacedRow grid) rows → n ≤ℤ grid.macros
    → AreCourses grid cycle rows courses → All (λ course. n ≤ℤ course.walk.grid.macros) courses
all_can_go grid cycle rows courses n placed le known =
    let Can : Course → Type 0 = λ course. n ≤ℤ course.walk.grid.macros in
    subst (All Can) (sym known.are)
    (All-map Can (course_of grid (is_odd cycle) known.macrotick) (running rows)
    (All-weaker (IsPlacedRow grid) (λ row. Can (course_of grid (is_odd cycle) known.macrotick row)) (λ row here. le) (running rows) (placed_running grid rows placed)))
