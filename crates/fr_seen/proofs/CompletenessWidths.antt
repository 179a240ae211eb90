-- How wide the corners of a course are, by the intervals that it is of.
use Rattle.std.proofs.Common.{◌≡◌, ℤ, pos, Bool, true, false, refl, arith}
use Rattle.std.specs.Prelude.{◌+ℤ◌, ◌-ℤ◌, ◌*ℤ◌, ◌≤ℤ◌, ◌<ℤ◌, int_lt, if◌then◌else◌}
use Rattle.std.specs.Int.{int_max, int_min}
use Rattle.std.proofs.lemmas.Int.{ints}
use Rattle.fr_midpoint.proofs.Products.{addz-mulz, mulz-lez, mulz-lez_left, mulz-subz, mulz_comm}
use Rattle.fr_time.specs.Position.{floor_of}
use Rattle.fr_time.proofs.Lines.{rest_of}
use Rattle.fr_course.proofs.Floors.{ceiling_below}
use Rattle.fr_course.specs.Course.{mean_from, mean_to, share_from, share_to}
use Rattle.fr_course.specs.Readings.{ceiling_of}
use Rattle.fr_course.specs.declared.courses.Course.{Course}
use Rattle.fr_course.specs.Scales.{Scale}
use Rattle.fr_seen.proofs.Pairs.{max_left}
use Rattle.fr_seen.specs.Completeness.{HasNarrowCorners, IsNoWider}

-- ---- the less of two numbers

le_itself : (a : ℤ) → a ≤ℤ a
le_itself a = omega (arith, ints)

pub min_left : (a b : ℤ) → int_min a b ≤ℤ a
min_left a b = by (int_lt b a) refl
  where
    from_lt : (a b : ℤ) → int_lt b a ≡ true → b ≤ℤ a
    from_lt a b is = grind (arith, ints)

    by : (second : Bool) → int_lt b a ≡ second → (if second then b else a) ≤ℤ a
    by true is = from_lt a b is
    by false is = le_itself a

pub min_right : (a b : ℤ) → int_min a b ≤ℤ b
min_right a b = by (int_lt b a) refl
  where
    from_ge : (a b : ℤ) → int_lt b a ≡ false → a ≤ℤ b
    from_ge a b is = grind (arith, ints)

    by : (second : Bool) → int_lt b a ≡ second → (if second then b else a) ≤ℤ b
    by true is = le_itself b
    by false is = from_ge a b is

-- ---- shares

-- a share of a length that lies in an interval: at most two wider than that, by rounding
pub share_width : (parts n low high long : ℤ) → pos 0 <ℤ parts → pos 0 ≤ℤ n → n ≤ℤ parts → low ≤ℤ high → (high -ℤ low) ≤ℤ long
    → (ceiling_of (n *ℤ high) parts -ℤ floor_of (n *ℤ low) parts) ≤ℤ (long +ℤ pos 2)
share_width parts n low high long some from to order wide =
    let f = floor_of (n *ℤ low) parts in
    let d = high -ℤ low in
    let most = (f +ℤ pos 1) +ℤ long in
    let left = rest_of (n *ℤ low) parts some in
    let fewer : (n *ℤ d) ≤ℤ (parts *ℤ d) = mulz-lez n parts d to (from_order low high order) in
    let longer : (parts *ℤ d) ≤ℤ (parts *ℤ long) = mulz-lez_left d long parts wide (whole parts some) in
    let bound : (n *ℤ high) ≤ℤ (most *ℤ parts) =
    sum (n *ℤ high) (n *ℤ low) (n *ℤ d) (parts *ℤ d) (parts *ℤ long) (f *ℤ parts) parts ((f +ℤ pos 1) *ℤ parts) (pos 1 *ℤ parts) (long *ℤ parts) (most *ℤ parts) (mulz-subz high low n) fewer
    longer left.to (addz-mulz f (pos 1) parts) (one parts) (addz-mulz (f +ℤ pos 1) long parts) (mulz_comm long parts) in
    less (ceiling_of (n *ℤ high) parts) f long (ceiling_below (n *ℤ high) parts most some bound)
  where
    whole : (a : ℤ) → pos 0 <ℤ a → pos 0 ≤ℤ a
    whole a h = omega (arith, ints)

    from_order : (a b : ℤ) → a ≤ℤ b → pos 0 ≤ℤ (b -ℤ a)
    from_order a b h = omega (arith, ints)

    one : (d : ℤ) → pos 1 *ℤ d ≡ d
    one d = omega (arith, ints)

    sum : (nh nl nd pd pl fp p fop op lp mp : ℤ) → nd ≡ nh -ℤ nl → nd ≤ℤ pd → pd ≤ℤ pl → ((nl -ℤ fp) +ℤ pos 1) ≤ℤ p → fop ≡ fp +ℤ op → op ≡ p → mp ≡ fop +ℤ lp → lp ≡ pl → nh ≤ℤ mp
    sum nh nl nd pd pl fp p fop op lp mp a b c d e g i j = omega (arith, ints)

    less : (c f l : ℤ) → c ≤ℤ ((f +ℤ pos 1) +ℤ l) → (c -ℤ f) ≤ℤ (l +ℤ pos 2)
    less c f l h = omega (arith, ints)

-- ---- corners

-- a course whose action points lie in intervals so wide, and whose lengths in one so wide
pub record IsNarrow (box long : ℤ) (course : Course) : Type 0 where
  pub even : IsNoWider box course.even
  pub odd : IsNoWider box course.odd
  pub length : IsNoWider long course.length
  pub order : course.length.low ≤ℤ course.length.high

-- it sends between the start of a cycle and that of an offset correction
pub record ActsWithin (scale : Scale) (course : Course) : Type 0 where
  pub macros_some : pos 0 <ℤ scale.macros
  pub from : pos 0 ≤ℤ course.action
  pub to : course.action ≤ℤ scale.correction
  pub correction_to : scale.correction ≤ℤ scale.macros

module _ (scale : Scale) (box long : ℤ) (course : Course) (is : IsNarrow box long course) (acts : ActsWithin scale course) where
  abbrev Most : ℤ
  Most = (box +ℤ long) +ℤ (scale.micro_to +ℤ pos 2)

  shared : (n : ℤ) → pos 0 ≤ℤ n → n ≤ℤ scale.macros → (share_to scale n course.length.high -ℤ share_from scale n course.length.low) ≤ℤ (long +ℤ pos 2)
  shared n from to = share_width scale.macros n course.length.low course.length.high long acts.macros_some from to is.order is.length

  -- a corner ahead of an action point by a share, and one behind it
  ahead : (low high from to least most : ℤ) → (high -ℤ low) ≤ℤ box → (to -ℤ from) ≤ℤ (long +ℤ pos 2) → (low +ℤ from) ≤ℤ least → most ≤ℤ (high +ℤ to)
      → ((most +ℤ scale.micro_to) -ℤ least) ≤ℤ ((box +ℤ long) +ℤ (scale.micro_to +ℤ pos 2))
  ahead low high from to least most a b c d = narrow box long scale.micro_to low high from to least most a b c d
    where
      narrow : (box long t low high from to least most : ℤ) → (high -ℤ low) ≤ℤ box → (to -ℤ from) ≤ℤ (long +ℤ pos 2) → (low +ℤ from) ≤ℤ least → most ≤ℤ (high +ℤ to)
          → ((most +ℤ t) -ℤ least) ≤ℤ ((box +ℤ long) +ℤ (t +ℤ pos 2))
      narrow box long t low high from to least most a b c d = omega (arith, ints)

  behind : (low high from to : ℤ) → (high -ℤ low) ≤ℤ box → (to -ℤ from) ≤ℤ (long +ℤ pos 2)
      → (((high -ℤ from) +ℤ scale.micro_to) -ℤ (low -ℤ to)) ≤ℤ ((box +ℤ long) +ℤ (scale.micro_to +ℤ pos 2))
  behind low high from to a b = narrow box long scale.micro_to low high from to a b
    where
      narrow : (box long t low high from to : ℤ) → (high -ℤ low) ≤ℤ box → (to -ℤ from) ≤ℤ (long +ℤ pos 2)
          → (((high -ℤ from) +ℤ t) -ℤ (low -ℤ to)) ≤ℤ ((box +ℤ long) +ℤ (t +ℤ pos 2))
      narrow box long t low high from to a b = omega (arith, ints)

  action_to : course.action ≤ℤ scale.macros
  action_to = trans course.action scale.correction scale.macros acts.to acts.correction_to
    where
      trans : (a b c : ℤ) → a ≤ℤ b → b ≤ℤ c → a ≤ℤ c
      trans a b c h k = omega (arith, ints)

  rest_from : (a b : ℤ) → a ≤ℤ b → pos 0 ≤ℤ (b -ℤ a)
  rest_from a b h = omega (arith, ints)

  rest_to : (a b c : ℤ) → pos 0 ≤ℤ a → b ≤ℤ c → (b -ℤ a) ≤ℤ c
  rest_to a b c h k = omega (arith, ints)

  pub corners_are_narrow : HasNarrowCorners scale ((box +ℤ long) +ℤ (scale.micro_to +ℤ pos 2)) course
  corners_are_narrow =
      let a = course.action in
      let rest = scale.macros -ℤ a in
      let turn = scale.correction -ℤ a in
      let l = course.length.low in
      let h = course.length.high in
      let rest_least = course.even.low +ℤ share_from scale rest l in
      let rest_most = course.even.high +ℤ share_to scale rest h in
      let turn_least = course.even.low +ℤ share_from scale turn l in
      let turn_most = course.even.high +ℤ share_to scale turn h in
      let before = scale.macros -ℤ turn in
      let start_low = int_max (course.odd.low -ℤ share_to scale a h) (mean_from scale a course.even.low course.odd.low -ℤ scale.change) in
      let start_high = int_min (course.odd.high -ℤ share_from scale a l) (mean_to scale a course.even.high course.odd.high +ℤ scale.change) in
      let turn_low = mean_from scale before course.even.low course.odd.low -ℤ scale.change in
      let turn_high = mean_to scale before course.even.high course.odd.high +ℤ scale.change in
      let whole = shared rest (rest_from a scale.macros action_to) (rest_to a scale.macros scale.macros acts.from (le_itself scale.macros)) in
      let some = shared turn (rest_from a scale.correction acts.to) (rest_to a scale.correction scale.macros acts.from acts.correction_to) in
      record {
        even_starts = behind course.even.low course.even.high (share_from scale a l) (share_to scale a h) is.even (shared a acts.from action_to);
        odd_starts =
            ahead course.even.low course.even.high (share_from scale rest l) (share_to scale rest h) (int_max rest_least start_low) (int_min rest_most start_high) is.even whole
            (max_left rest_least start_low) (min_left rest_most start_high);
        even_turns =
            ahead course.even.low course.even.high (share_from scale turn l) (share_to scale turn h) (int_max turn_least turn_low) (int_min turn_most turn_high) is.even some
            (max_left turn_least turn_low) (min_left turn_most turn_high);
        odd_turns =
            ahead course.odd.low course.odd.high (share_from scale turn l) (share_to scale turn h) (course.odd.low +ℤ share_from scale turn l) (course.odd.high +ℤ share_to scale turn h) is.odd some
            (le_itself (course.odd.low +ℤ share_from scale turn l)) (le_itself (course.odd.high +ℤ share_to scale turn h));
      }
