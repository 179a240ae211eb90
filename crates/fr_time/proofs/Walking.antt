-- A share that is counted is the position of its macrotick.
use Rattle.std.proofs.Common.{◌≡◌, FitsSigned, ℕ, ℤ, pos, to_z, of_z, w64, ◌+◌, ◌*◌, ◌/◌, ◌<◌, Bool, true, false, ◌⊎◌, inl, inr, refl, ap, sym, subst, ◌∙◌, arith}
use Rattle.std.specs.Prelude.{◌≤ℤ◌, ◌<ℤ◌, ◌+ℤ◌, ◌-ℤ◌, ◌*ℤ◌}
use Rattle.std.proofs.lemmas.Int.{ints, by_lt_z, to_z-of_z}
use lib.Signed.{le_z}
use Rattle.fr_time.specs.Counted.{IsCounted}
use Rattle.fr_time.specs.declared.grid.Grid.{Grid}
use Rattle.fr_time.specs.declared.shares.Share.{Share}
use Rattle.fr_time.specs.Position.{corrected_micros, corrected_position, even_position, floor_of, position_of, IsPlaceable}
use Rattle.fr_time.specs.Walk.{moved_on, moved_to, next_position, IsWalk, Walk}
use Rattle.fr_time.proofs.Ends.{corrected_start, int_lt_false, int_lt_true}

floors : (count length parts : ℕ) → floor_of (pos count *ℤ pos length) (pos parts) ≡ pos (count * length / parts)
floors count length parts = omega (arith, ints)

counted : (n l p : ℤ) (count length parts at : ℕ) → pos count ≡ n → pos length ≡ l → pos parts ≡ p → at ≡ count * length / parts → floor_of (n *ℤ l) p ≡ pos at
counted n l p count length parts at count_is length_is parts_is at_is =
    ap (λ (x : ℤ). floor_of (x *ℤ l) p) (sym count_is)
    ∙ ap (λ (x : ℤ). floor_of (pos count *ℤ x) p) (sym length_is)
    ∙ ap (λ (x : ℤ). floor_of (pos count *ℤ pos length) x) (sym parts_is)
    ∙ floors count length parts
    ∙ ap pos (sym at_is)

-- up to the start of the offset correction, and all through an even cycle
even_rule : (grid : Grid) (rate offset : ℤ) (odd : Bool) (m : ℤ) → (odd ≡ false) ⊎ (m ≤ℤ grid.correction) → position_of grid rate offset odd m ≡ even_position grid rate m
even_rule grid rate offset false m which = refl
even_rule grid rate offset true m (inl not) = absurd (cc)
even_rule grid rate offset true m (inr below) = rw (int_lt_false grid.correction m below) refl

-- from there on
late_rule : (grid : Grid) (rate offset m : ℤ) → IsPlaceable grid rate offset → grid.correction ≤ℤ m → position_of grid rate offset true m ≡ corrected_position grid rate offset m
late_rule grid rate offset m can from =
    by_lt_z grid.correction m
    (λ less. rw (int_lt_true grid.correction m less) refl)
    (λ to.
    subst (λ (x : ℤ). position_of grid rate offset true x ≡ corrected_position grid rate offset x) (same grid.correction m from to)
    (even_rule grid rate offset true grid.correction (inr (itself grid.correction)) ∙ sym (corrected_start grid rate offset can)))
  where
    same : (a b : ℤ) → a ≤ℤ b → b ≤ℤ a → a ≡ b
    same a b one two = omega (arith, ints)

    itself : (a : ℤ) → a ≤ℤ a
    itself a = omega (arith, ints)

pub early_at : (walk : Walk) (start : ℤ) (early late : Share) → IsCounted walk start early late → (walk.odd ≡ false) ⊎ (walk.next ≤ℤ walk.grid.correction)
    → pos early.at ≡ next_position walk
early_at walk start early late is which =
    sym (counted walk.next (walk.grid.micros +ℤ walk.rate) walk.grid.macros early.count early.length early.parts early.at (is.early_count which) is.early_length is.early_parts early.at_is)
    ∙ sym (even_rule walk.grid walk.rate walk.offset walk.odd walk.next which)

pub late_at : (walk : Walk) (start : ℤ) (early late : Share) → IsPlaceable walk.grid walk.rate walk.offset → IsCounted walk start early late → walk.odd ≡ true → walk.grid.correction ≤ℤ walk.next
    → start +ℤ pos late.at ≡ next_position walk
late_at walk start early late can is odd from =
    let grid = walk.grid in
    let left : ℤ = corrected_micros grid walk.rate walk.offset in
    let share : floor_of ((walk.next -ℤ grid.correction) *ℤ left) (grid.macros -ℤ grid.correction) ≡ pos late.at =
    counted (walk.next -ℤ grid.correction) left (grid.macros -ℤ grid.correction) late.count late.length late.parts late.at (is.late_count odd from) is.late_length is.late_parts late.at_is in
    ap (λ (x : ℤ). start +ℤ x) (sym share)
    ∙ ap (λ (x : ℤ). x +ℤ floor_of ((walk.next -ℤ grid.correction) *ℤ left) (grid.macros -ℤ grid.correction)) is.start_is
    ∙ sym (late_rule grid walk.rate walk.offset walk.next can from)
    ∙ ap (λ (o : Bool). position_of grid walk.rate walk.offset o walk.next) (sym odd)

-- the second share ends with the cycle
pub late_to : (walk : Walk) (start : ℤ) (early late : Share) → IsPlaceable walk.grid walk.rate walk.offset → IsCounted walk start early late → (start +ℤ pos late.at) ≤ℤ pos 658_000
late_to walk start early late can is =
    let whole : ℤ = walk.grid.micros +ℤ walk.rate +ℤ walk.offset in
    let sum : pos late.length +ℤ start ≡ whole = both whole (even_position walk.grid walk.rate walk.grid.correction) start (pos late.length) is.start_is is.late_length in
    omega (arith, ints, sum, late.at_to, can.is_grid.micros_to, can.rate_to, can.offset_to)
  where
    both : (w e s l : ℤ) → s ≡ e → l ≡ w -ℤ e → l +ℤ s ≡ w
    both w e s l start_is length_is = omega (arith, ints, start_is, length_is)

-- ---- one macrotick on

walk_moved : (walk : Walk) → IsWalk walk → walk.next <ℤ walk.grid.macros → IsWalk (moved_on walk)
walk_moved walk is more = record {
  is_placeable = is.is_placeable;
  next_within = record { low = omega (arith, ints, is.next_within.low); high = omega (arith, ints, more) };
}

not_late : (walk : Walk) (late : Share) → (walk.next ≤ℤ walk.grid.correction → late.count ≡ 0) → (walk.odd ≡ false) ⊎ (walk.next <ℤ walk.grid.correction)
    → walk.odd ≡ true → walk.grid.correction ≤ℤ (walk.next +ℤ pos 1) → pos late.count ≡ (walk.next +ℤ pos 1) -ℤ walk.grid.correction
not_late walk late none (inl not) odd from = absurd (cc)
not_late walk late none (inr less) odd from = omega (arith, ints, none (omega (arith, ints, less)), less, from)

pub weaker : (walk : Walk) → (walk.odd ≡ false) ⊎ (walk.next <ℤ walk.grid.correction) → (walk.odd ≡ false) ⊎ (walk.next ≤ℤ walk.grid.correction)
weaker walk (inl not) = inl not
weaker walk (inr less) = inr (omega (arith, ints, less))

pub early_moved : (walk : Walk) (start : ℤ) (early late next : Share) → IsWalk walk → IsCounted walk start early late → walk.next <ℤ walk.grid.macros → (walk.odd ≡ false) ⊎ (walk.next <ℤ walk.grid.correction)
    → next.length ≡ early.length → next.parts ≡ early.parts → next.count ≡ early.count + 1 → IsWalk (moved_on walk) × IsCounted (moved_on walk) start next late
early_moved walk start early late next walks is more which length parts count =
    let before : pos early.count ≡ walk.next = is.early_count (weaker walk which) in
    let counted : IsCounted (moved_on walk) start next late = record {
      start_is = is.start_is;
      start_within = is.start_within;
      early_length = ap pos length ∙ is.early_length;
      early_parts = ap pos parts ∙ is.early_parts;
      late_length = is.late_length;
      late_parts = is.late_parts;
      early_count = λ w. omega (arith, ints, before, count);
      late_none = λ below. is.late_none (omega (arith, ints, below));
      late_count = λ odd from. not_late walk late is.late_none which odd from;
    } in
    (walk_moved walk walks more, counted)

pub late_moved : (walk : Walk) (start : ℤ) (early late next : Share) → IsWalk walk → IsCounted walk start early late → walk.next <ℤ walk.grid.macros → walk.odd ≡ true → walk.grid.correction ≤ℤ walk.next
    → next.length ≡ late.length → next.parts ≡ late.parts → next.count ≡ late.count + 1 → IsWalk (moved_on walk) × IsCounted (moved_on walk) start early next
late_moved walk start early late next walks is more odd from length parts count =
    let before : pos late.count ≡ walk.next -ℤ walk.grid.correction = is.late_count odd from in
    let counted : IsCounted (moved_on walk) start early next = record {
      start_is = is.start_is;
      start_within = is.start_within;
      early_length = is.early_length;
      early_parts = is.early_parts;
      late_length = ap pos length ∙ is.late_length;
      late_parts = ap pos parts ∙ is.late_parts;
      early_count = λ w. not_early w;
      late_none = λ below. absurd (omega (arith, ints, below, from));
      late_count = λ is_odd after. omega (arith, ints, before, count);
    } in
    (walk_moved walk walks more, counted)
  where
    not_early : (walk.odd ≡ false) ⊎ ((walk.next +ℤ pos 1) ≤ℤ walk.grid.correction) → pos early.count ≡ walk.next +ℤ pos 1
    not_early (inl not) = absurd (cc)
    not_early (inr below) = absurd (omega (arith, ints, below, from))

-- before the end there is a part more
pub early_more : (walk : Walk) (start : ℤ) (early late : Share) → IsCounted walk start early late → walk.next <ℤ walk.grid.macros → (walk.odd ≡ false) ⊎ (walk.next <ℤ walk.grid.correction) → early.count < early.parts
early_more walk start early late is more which = omega (arith, ints, is.early_count (weaker walk which), is.early_parts, more)

pub late_more : (walk : Walk) (start : ℤ) (early late : Share) → IsCounted walk start early late → walk.next <ℤ walk.grid.macros → walk.odd ≡ true → walk.grid.correction ≤ℤ walk.next → late.count < late.parts
late_more walk start early late is more odd from = omega (arith, ints, is.late_count odd from, is.late_parts, more)

-- ---- at another macrotick

pub placed_anew : (walk : Walk) (start m : ℤ) (early late early_next late_next : Share) → IsWalk walk → IsCounted walk start early late → pos 0 ≤ℤ m → m ≤ℤ walk.grid.macros
    → early_next.length ≡ early.length → early_next.parts ≡ early.parts → pos early_next.count ≡ m
    → late_next.length ≡ late.length → late_next.parts ≡ late.parts
    → (m ≤ℤ walk.grid.correction → late_next.count ≡ 0) → (walk.grid.correction ≤ℤ m → pos late_next.count ≡ m -ℤ walk.grid.correction)
    → IsWalk (moved_to walk m) × IsCounted (moved_to walk m) start early_next late_next
placed_anew walk start m early late early_next late_next walks is from to early_length early_parts early_count late_length late_parts late_none late_count =
    let placed : IsWalk (moved_to walk m) = record { is_placeable = walks.is_placeable; next_within = record { low = from; high = to } } in
    let counted : IsCounted (moved_to walk m) start early_next late_next = record {
      start_is = is.start_is;
      start_within = is.start_within;
      early_length = ap pos early_length ∙ is.early_length;
      early_parts = ap pos early_parts ∙ is.early_parts;
      late_length = ap pos late_length ∙ is.late_length;
      late_parts = ap pos late_parts ∙ is.late_parts;
      early_count = λ which. early_count;
      late_none = late_none;
      late_count = λ odd after. late_count after;
    } in
    (placed, counted)

-- ---- what the tests of a walk say, which compare numbers of the machine

macros_fit : (walk : Walk) → IsWalk walk → FitsSigned w64 walk.grid.macros
macros_fit walk is =
    let grid = is.is_placeable.is_grid in
    omega (arith, ints, grid.correction_from, grid.correction_to, grid.macros_to)

correction_fits : (walk : Walk) → IsWalk walk → FitsSigned w64 walk.grid.correction
correction_fits walk is =
    let grid = is.is_placeable.is_grid in
    omega (arith, ints, grid.correction_from, grid.correction_to, grid.macros_to)

next_fits : (walk : Walk) → IsWalk walk → FitsSigned w64 walk.next
next_fits walk is = omega (arith, ints, is.next_within.low, is.next_within.high, is.is_placeable.is_grid.macros_to)

below_of : (a b : ℤ) → FitsSigned w64 a → FitsSigned w64 b → le_z (to_z w64 (of_z w64 a)) (to_z w64 (of_z w64 b)) ≡ false → b <ℤ a
below_of a b a_fits b_fits test = grind (arith, ints, to_z-of_z, test)

up_to_of : (a b : ℤ) → FitsSigned w64 a → FitsSigned w64 b → le_z (to_z w64 (of_z w64 a)) (to_z w64 (of_z w64 b)) ≡ true → a ≤ℤ b
up_to_of a b a_fits b_fits test = grind (arith, ints, to_z-of_z, test)

pub not_over : (walk : Walk) → IsWalk walk → le_z (to_z w64 (of_z w64 walk.grid.macros)) (to_z w64 (of_z w64 walk.next)) ≡ false → walk.next <ℤ walk.grid.macros
not_over walk is test = below_of walk.grid.macros walk.next (macros_fit walk is) (next_fits walk is) test

pub is_before : (walk : Walk) → IsWalk walk → le_z (to_z w64 (of_z w64 walk.grid.correction)) (to_z w64 (of_z w64 walk.next)) ≡ false → walk.next <ℤ walk.grid.correction
is_before walk is test = below_of walk.grid.correction walk.next (correction_fits walk is) (next_fits walk is) test

pub is_from : (walk : Walk) → IsWalk walk → le_z (to_z w64 (of_z w64 walk.grid.correction)) (to_z w64 (of_z w64 walk.next)) ≡ true → walk.grid.correction ≤ℤ walk.next
is_from walk is test = up_to_of walk.grid.correction walk.next (correction_fits walk is) (next_fits walk is) test

pub one_more : (walk : Walk) → IsWalk walk → to_z w64 (of_z w64 (to_z w64 (of_z w64 walk.next) +ℤ pos 1)) ≡ walk.next +ℤ pos 1
one_more walk is = omega (arith, ints, is.next_within.low, is.next_within.high, is.is_placeable.is_grid.macros_to)

pub one_more_fits : (walk : Walk) → IsWalk walk → FitsSigned w64 (to_z w64 (of_z w64 walk.next) +ℤ pos 1)
one_more_fits walk is = omega (arith, ints, is.next_within.low, is.next_within.high, is.is_placeable.is_grid.macros_to)
