-- The two cycles of a node: how far its action points lie apart, and how far from that the lengths of both.
use Rattle.std.proofs.Common.{◌≡◌, ℕ, ◌+◌, ◌*◌, ℤ, pos, refl, ap, sym, subst, ◌∙◌, arith}
use Rattle.std.specs.Prelude.{◌+ℤ◌, ◌-ℤ◌, ◌*ℤ◌, ◌≤ℤ◌, ◌<ℤ◌, neg_ℤ}
use Rattle.std.proofs.lemmas.Int.{ints}
use Rattle.fr_base.specs.Within.{IsWithin}
use Rattle.fr_base.specs.declared.node_row.NodeRow.{NodeRow}
use Rattle.fr_cluster.specs.Values.{Values, amount}
use Rattle.fr_cluster.specs.Sane.{IsSane}
use Rattle.fr_cluster.specs.declared.names.ParamName.TheVariants as name
use Rattle.fr_midpoint.proofs.Products.{mulz-lez, mulz-lez_left, mulz-subz, mulz_within, subz-mulz}
use Rattle.fr_time.specs.Position.{even_position, grid_for}
use Rattle.fr_time.proofs.Floors.{share_le}
use Rattle.fr_time.proofs.Placing.{is_grid_lem}
use Rattle.fr_bound.specs.Bounds.{cycle_change, longest_micro, shortest_micro}
use Rattle.fr_bound.specs.Checks.{least_cycle}
use Rattle.fr_bound.specs.Sync.{cycle_length_of}
use Rattle.fr_bound.proofs.Uncut.{uncut_lem}
use Rattle.fr_precision.specs.Placement.{IsRegular}
use Rattle.fr_precision.proofs.Figures.{natural}
use Rattle.fr_precision.proofs.InstantLaws.{before_correction, odd_start_is}
use Rattle.fr_precision.proofs.PlacementLaws.{share_from}
use Rattle.fr_course.specs.Readings.{most_cycle}
use Rattle.fr_seen.specs.Courses.{even_action, odd_action}

pub record LiesApart (shortest longest change even_length odd_length apart : ℤ) : Type 0 where
  pub from : shortest ≤ℤ apart
  pub to : apart ≤ℤ longest
  pub even_from : shortest ≤ℤ even_length
  pub even_to : even_length ≤ℤ longest
  pub odd_from : shortest ≤ℤ odd_length
  pub odd_to : odd_length ≤ℤ longest
  pub even_near : IsWithin change (even_length -ℤ apart)
  pub odd_near : IsWithin change (odd_length -ℤ apart)

-- so many microticks, and some of them by how much the microtick changes
pub lies_apart : (least most w qm qp micros f t t' : ℤ) → pos 0 ≤ℤ least → least ≤ℤ micros → micros ≤ℤ most → pos 0 ≤ℤ f → f ≤ℤ micros
    → pos 0 ≤ℤ qm → qm ≤ℤ t → t ≤ℤ qp → qm ≤ℤ t' → t' ≤ℤ qp → IsWithin w (t' -ℤ t)
    → LiesApart (least *ℤ qm) (most *ℤ qp) (most *ℤ w) (micros *ℤ t) (micros *ℤ t') ((micros *ℤ t) +ℤ (f *ℤ (t' -ℤ t)))
lies_apart least most w qm qp micros f t t' least_from micros_from micros_to f_from f_to qm_from t_from t_to t'_from t'_to steady =
    let rest = micros -ℤ f in
    let rest_from : pos 0 ≤ℤ rest = left f micros f_to in
    let micros_some : pos 0 ≤ℤ micros = trans (pos 0) least micros least_from micros_from in
    let qp_from : pos 0 ≤ℤ qp = trans (pos 0) t qp (trans (pos 0) qm t qm_from t_from) t_to in
    let fewest : (least *ℤ qm) ≤ℤ (micros *ℤ qm) = mulz-lez least micros qm micros_from qm_from in
    let greatest : (micros *ℤ qp) ≤ℤ (most *ℤ qp) = mulz-lez micros most qp micros_to qp_from in
    let change : f *ℤ (t' -ℤ t) ≡ (f *ℤ t') -ℤ (f *ℤ t) = mulz-subz t' t f in
    let low = mulz-lez_left qm t rest t_from rest_from in
    let low' = mulz-lez_left qm t' f t'_from f_from in
    let high = mulz-lez_left t qp rest t_to rest_from in
    let high' = mulz-lez_left t' qp f t'_to f_from in
    let f_most : f ≤ℤ most = trans f micros most f_to micros_to in
    let rest_most : rest ≤ℤ most = less f micros most f_from micros_to in
    let early : IsWithin (most *ℤ w) (f *ℤ (t' -ℤ t)) = mulz_within f (t' -ℤ t) most w f_from f_most steady in
    let late : IsWithin (most *ℤ w) (rest *ℤ (t' -ℤ t)) = mulz_within rest (t' -ℤ t) most w rest_from rest_most steady in
    record {
      from =
          over (least *ℤ qm) (micros *ℤ qm) (f *ℤ qm) (rest *ℤ qm) (micros *ℤ t) (f *ℤ t) (rest *ℤ t) (f *ℤ t') (f *ℤ (t' -ℤ t))
          fewest (subz-mulz micros f qm) (subz-mulz micros f t) change low low';
      to =
          under (most *ℤ qp) (micros *ℤ qp) (f *ℤ qp) (rest *ℤ qp) (micros *ℤ t) (f *ℤ t) (rest *ℤ t) (f *ℤ t') (f *ℤ (t' -ℤ t))
          greatest (subz-mulz micros f qp) (subz-mulz micros f t) change high high';
      even_from = trans (least *ℤ qm) (micros *ℤ qm) (micros *ℤ t) fewest (mulz-lez_left qm t micros t_from micros_some);
      even_to = trans (micros *ℤ t) (micros *ℤ qp) (most *ℤ qp) (mulz-lez_left t qp micros t_to micros_some) greatest;
      odd_from = trans (least *ℤ qm) (micros *ℤ qm) (micros *ℤ t') fewest (mulz-lez_left qm t' micros t'_from micros_some);
      odd_to = trans (micros *ℤ t') (micros *ℤ qp) (most *ℤ qp) (mulz-lez_left t' qp micros t'_to micros_some) greatest;
      even_near = back (most *ℤ w) (micros *ℤ t) (f *ℤ (t' -ℤ t)) early;
      odd_near =
          rest_of_it (most *ℤ w) (micros *ℤ t) (micros *ℤ t') (f *ℤ (t' -ℤ t)) (micros *ℤ (t' -ℤ t)) (rest *ℤ (t' -ℤ t))
          (mulz-subz t' t micros) (subz-mulz micros f (t' -ℤ t)) late;
    }
  where
    trans : (a b c : ℤ) → a ≤ℤ b → b ≤ℤ c → a ≤ℤ c
    trans a b c h k = omega (arith, ints)

    left : (f n : ℤ) → f ≤ℤ n → pos 0 ≤ℤ (n -ℤ f)
    left f n h = omega (arith, ints)

    less : (f n m : ℤ) → pos 0 ≤ℤ f → n ≤ℤ m → (n -ℤ f) ≤ℤ m
    less f n m h k = omega (arith, ints)

    over : (l a b c d e g h k : ℤ) → l ≤ℤ a → c ≡ a -ℤ b → g ≡ d -ℤ e → k ≡ h -ℤ e → c ≤ℤ g → b ≤ℤ h → l ≤ℤ (d +ℤ k)
    over l a b c d e g h k i j m n o p = omega (arith, ints)

    under : (l a b c d e g h k : ℤ) → a ≤ℤ l → c ≡ a -ℤ b → g ≡ d -ℤ e → k ≡ h -ℤ e → g ≤ℤ c → h ≤ℤ b → (d +ℤ k) ≤ℤ l
    under l a b c d e g h k i j m n o p = omega (arith, ints)

    back : (j l x : ℤ) → IsWithin j x → IsWithin j (l -ℤ (l +ℤ x))
    back j l x near = record { low = omega (arith, ints, near.high); high = omega (arith, ints, near.low) }

    rest_of_it : (j a b x y z : ℤ) → y ≡ b -ℤ a → z ≡ y -ℤ x → IsWithin j z → IsWithin j (b -ℤ (a +ℤ x))
    rest_of_it j a b x y z h k near = record { low = omega (arith, ints, near.low); high = omega (arith, ints, near.high) }

-- ---- the numbers of a cluster

pub record Numbers (p : Values) : Type 0 where
  pub micros_from : pos 0 ≤ℤ p.micros
  pub macros_some : pos 0 <ℤ p.macros
  pub correction_from : pos 0 ≤ℤ p.correction
  pub correction_to : p.correction ≤ℤ p.macros
  pub least_from : pos 0 ≤ℤ pos (least_cycle p)
  pub least_is : pos (least_cycle p) ≡ p.micros -ℤ p.rate_limit
  pub most_is : most_cycle p ≡ p.micros +ℤ p.rate_limit
  pub change_by : pos (cycle_change p) ≡ most_cycle p *ℤ pos (amount p name.xChangeBound)
  pub shortest_from : pos 1 ≤ℤ pos (shortest_micro p)

pub numbers_of : (p : Values) → IsSane p → Numbers p
numbers_of p sane =
    let grid = is_grid_lem p sane in
    let micros_range = sane.ranges name.pMicroPerCycle in
    let rate_range = sane.ranges name.pRateCorrectionOut in
    let change_range = sane.ranges name.xChangeBound in
    let drift_range = sane.ranges name.xRateBound in
    let uncut = uncut_lem p sane in
    let micros_from : pos 0 ≤ℤ p.micros = omega (arith, ints, micros_range.0) in
    let rate_from : pos 0 ≤ℤ p.rate_limit = omega (arith, ints, rate_range.0) in
    let change_from : pos 0 ≤ℤ p.change_bound = omega (arith, ints, change_range.0) in
    let micros_is = natural p.micros micros_from in
    let rate_is = natural p.rate_limit rate_from in
    let most_is : most_cycle p ≡ p.micros +ℤ p.rate_limit = omega (arith, ints, micros_is, rate_is) in
    record {
      micros_from = micros_from;
      macros_some = omega (arith, ints, grid.correction_from, grid.correction_to);
      correction_from = omega (arith, ints, grid.correction_from);
      correction_to = omega (arith, ints, grid.correction_to);
      least_from = omega (arith, ints);
      least_is = omega (arith, ints, micros_is, rate_is, uncut.cycle);
      most_is = most_is;
      change_by = times (amount p name.pMicroPerCycle + amount p name.pRateCorrectionOut) (amount p name.xChangeBound) (most_cycle p) (omega (arith, ints));
      shortest_from = omega (arith, ints, natural p.rate_bound (omega (arith, ints, drift_range.0)), drift_range.1);
    }
  where
    times : (a w : ℕ) (m : ℤ) → m ≡ pos a → pos (a * w) ≡ m *ℤ pos w
    times a w m is = ap (λ x. x *ℤ pos w) (sym is)

-- ---- rows

-- the microticks of a node's cycle before its offset, and those up to a macrotick before the offset correction
pub record Micros (p : Values) (micros share : ℤ) : Type 0 where
  pub least : pos (least_cycle p) ≤ℤ micros
  pub most : micros ≤ℤ most_cycle p
  pub share_from : pos 0 ≤ℤ share
  pub share_to : share ≤ℤ micros

pub micros_of : (p : Values) (rate macrotick : ℤ) → IsSane p → IsWithin p.rate_limit rate → pos 0 ≤ℤ macrotick → macrotick ≤ℤ p.macros
    → Micros p (p.micros +ℤ rate) (even_position (grid_for p) rate macrotick)
micros_of p rate macrotick sane within from to =
    let numbers = numbers_of p sane in
    let least : pos (least_cycle p) ≤ℤ (p.micros +ℤ rate) = low p.micros p.rate_limit rate (pos (least_cycle p)) numbers.least_is within.low in
    let some : pos 0 ≤ℤ (p.micros +ℤ rate) = trans (pos 0) (pos (least_cycle p)) (p.micros +ℤ rate) numbers.least_from least in
    record {
      least = least;
      most = high p.micros p.rate_limit rate (most_cycle p) numbers.most_is within.high;
      share_from = share_from macrotick (p.micros +ℤ rate) p.macros from some numbers.macros_some;
      share_to = share_le macrotick (p.micros +ℤ rate) p.macros from to some;
    }
  where
    trans : (a b c : ℤ) → a ≤ℤ b → b ≤ℤ c → a ≤ℤ c
    trans a b c h k = omega (arith, ints)

    low : (n r x l : ℤ) → l ≡ n -ℤ r → neg_ℤ r ≤ℤ x → l ≤ℤ (n +ℤ x)
    low n r x l e h = omega (arith, ints)

    high : (n r x m : ℤ) → m ≡ n +ℤ r → x ≤ℤ r → (n +ℤ x) ≤ℤ m
    high n r x m e h = omega (arith, ints)

-- how far the action points of both cycles lie apart
pub apart_is : (p : Values) (even odd : NodeRow) (action : ℤ) → IsRegular p even odd → action ≤ℤ p.correction
    → odd_action p odd action -ℤ even_action p even action
    ≡ cycle_length_of p even +ℤ (even_position (grid_for p) even.rate action *ℤ (odd.length -ℤ even.length))
apart_is p even odd action regular to =
    let f = even_position (grid_for p) even.rate action in
    let odd_is : odd_action p odd action ≡ odd.start +ℤ (f *ℤ odd.length) =
    before_correction p odd action to ∙ ap (λ r. odd.start +ℤ (even_position (grid_for p) r action *ℤ odd.length)) regular.double.same_rate in
    sum even.start odd.start (cycle_length_of p even) (f *ℤ even.length) (f *ℤ odd.length) (f *ℤ (odd.length -ℤ even.length)) (odd_action p odd action) (even_action p even action)
    (odd_start_is p even odd regular.double) odd_is refl (mulz-subz odd.length even.length f)
  where
    sum : (s s' l x y z o e : ℤ) → s' ≡ s +ℤ l → o ≡ s' +ℤ y → e ≡ s +ℤ x → z ≡ y -ℤ x → o -ℤ e ≡ l +ℤ z
    sum s s' l x y z o e a b c d = omega (arith, ints)

pub rows_apart : (p : Values) (even odd : NodeRow) (action : ℤ) → IsSane p → IsRegular p even odd → pos 0 ≤ℤ action → action ≤ℤ p.correction
    → LiesApart (pos (least_cycle p) *ℤ pos (shortest_micro p)) (most_cycle p *ℤ pos (longest_micro p)) (pos (cycle_change p)) (cycle_length_of p even) (cycle_length_of p odd)
    (odd_action p odd action -ℤ even_action p even action)
rows_apart p even odd action sane regular from to =
    let numbers = numbers_of p sane in
    let q = micros_of p even.rate action sane regular.rate_within from (trans action p.correction p.macros to numbers.correction_to) in
    let apart =
    lies_apart (pos (least_cycle p)) (most_cycle p) (pos (amount p name.xChangeBound)) (pos (shortest_micro p)) (pos (longest_micro p)) (p.micros +ℤ even.rate) (even_position (grid_for p) even.rate action)
    even.length odd.length numbers.least_from q.least q.most q.share_from q.share_to (none (pos (shortest_micro p)) numbers.shortest_from)
    regular.even_micro.least regular.even_micro.most regular.odd_micro.least regular.odd_micro.most regular.steady in
    let Apart : ℤ → ℤ → ℤ → Type 0 = λ change odd_length apart. LiesApart (pos (least_cycle p) *ℤ pos (shortest_micro p)) (most_cycle p *ℤ pos (longest_micro p)) change (cycle_length_of p even) odd_length apart in
    let same : (p.micros +ℤ even.rate) *ℤ odd.length ≡ cycle_length_of p odd = ap (λ r. (p.micros +ℤ r) *ℤ odd.length) (sym regular.double.same_rate) in
    subst (λ d. Apart (pos (cycle_change p)) (cycle_length_of p odd) d) (sym (apart_is p even odd action regular to))
    (subst (λ l. Apart (pos (cycle_change p)) l (cycle_length_of p even +ℤ (even_position (grid_for p) even.rate action *ℤ (odd.length -ℤ even.length)))) same
    (subst (λ j. Apart j ((p.micros +ℤ even.rate) *ℤ odd.length) (cycle_length_of p even +ℤ (even_position (grid_for p) even.rate action *ℤ (odd.length -ℤ even.length)))) (sym numbers.change_by) apart))
  where
    trans : (a b c : ℤ) → a ≤ℤ b → b ≤ℤ c → a ≤ℤ c
    trans a b c h k = omega (arith, ints)

    none : (a : ℤ) → pos 1 ≤ℤ a → pos 0 ≤ℤ a
    none a h = omega (arith, ints)
