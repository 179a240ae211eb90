-- How far the starts of a node's double cycles lie from where the schedule has them, in a lawful run; and those of two nodes from each
-- other, where these start near each other.
use Rattle.std.proofs.Common.{◌≡◌, ℕ, zero, suc, ◌+◌, ◌-◌, ◌*◌, ◌==◌, ◌<◌, ◌≤◌, ℤ, pos, Some, List, refl, ap, sym, ◌∙◌, subst, arith}
use Rattle.std.specs.Prelude.{◌+ℤ◌, ◌-ℤ◌, ◌*ℤ◌, ◌≤ℤ◌, neg_ℤ, is_some, Contains, length}
use Rattle.std.proofs.lemmas.Int.{ints}
use Rattle.fr_base.specs.Within.{IsWithin}
use Rattle.fr_base.specs.declared.node_row.NodeRow.{NodeRow}
use Rattle.fr_cluster.specs.Sane.{IsSane}
use Rattle.fr_cluster.specs.Setting.{Setting, correct_nodes}
use Rattle.fr_cluster.specs.Values.{Values, amount}
use Rattle.fr_cluster.specs.declared.names.ParamName.TheVariants as name
use Rattle.fr_cluster.specs.declared.nodes.NodeSpec.{NodeSpec}
use Rattle.fr_cluster.proofs.Elements.{found}
use Rattle.fr_midpoint.proofs.Products.{addz-mulz, mulz-subz, mulz_comm, mulz_within}
use Rattle.fr_bound.specs.Bounds.{longest_micro, nominal, shortest_micro}
use Rattle.fr_bound.specs.Checks.{left_of}
use Rattle.fr_bound.specs.Sync.{cycle_length_of}
use Rattle.fr_precision.specs.Placement.{IsRegular}
use Rattle.fr_precision.specs.Rows.{end_of, HasProperMicro}
use Rattle.fr_precision.proofs.InstantLaws.{odd_start_is}
use Rattle.fr_precision.proofs.Figures.{natural}
use Rattle.fr_history.specs.Cycles.{Cycle, Cycles}
use Rattle.fr_history.specs.History.{row_for, row_of}
use Rattle.fr_runs.specs.Numbers.{HasDouble}
use Rattle.fr_course.specs.Numbering.{nominal_cycle}
use Rattle.fr_seen.specs.RunRows.{IsTimedRun}
use Rattle.fr_seen.proofs.RunLaws.{cut_at, nodes_go_on, nodes_have_both_rows, nodes_run_regularly}
use Rattle.fr_seen.proofs.SenderLaws.{some_row}
use Rattle.fr_seen_runs.specs.InTime.{IsNearFrom}
use Rattle.fr_seen_runs.proofs.KeyFrames.{row_goes_on}
use Rattle.fr_seen_runs.proofs.OwnOffsets.{limit_from, offset_within}
use Rattle.fr_seen_runs.proofs.Places.{AreNear, double_near, none_near, one_more_near}
use Rattle.fr_seen.proofs.SeenDoubles.{double_there}
use Rattle.fr_seen.proofs.SendersApart.{two_within}

-- ---- numbers

-- how far the length of a cycle lies from the nominal one at most, whatever its rate within the limit, and how long an offset term
-- is; the longest microtick; and how far the starts of two nodes lie apart
abbrev pub length_off : Values → ℤ
length_off p =
    pos (amount p name.pRateCorrectionOut * longest_micro p + amount p name.pMicroPerCycle * amount p name.xRateBound)

abbrev pub term_off : Values → ℤ
term_off p = pos (amount p name.pOffsetCorrectionOut * longest_micro p)

abbrev pub longest : Values → ℤ
longest p = pos (longest_micro p)

abbrev pub starts_off : Values → ℤ
starts_off p = pos (left_of 3 p)

-- a double cycle is off by two lengths and a term
abbrev pub double_off : Values → ℤ
double_off p = (pos 2 *ℤ length_off p) +ℤ term_off p

product : (a b : ℕ) → pos a *ℤ pos b ≡ pos (b * a)
product a b = omega (arith, ints)

-- by its rate, and by its microticks
pub length_near : (p : Values) (row : NodeRow) → IsSane p → IsWithin p.rate_limit row.rate → HasProperMicro p row
    → IsWithin (length_off p) (cycle_length_of p row -ℤ nominal_cycle p)
length_near p row sane rate micro =
    let bound_range = sane.ranges name.xRateBound in
    let micros_range = sane.ranges name.pMicroPerCycle in
    let limit_range = sane.ranges name.pRateCorrectionOut in
    let few : amount p name.xRateBound ≤ 1_500 = omega (arith, ints, natural p.rate_bound (omega (arith, ints, bound_range.0)), bound_range.1) in
    let micros_is : p.micros ≡ pos (amount p name.pMicroPerCycle) = natural p.micros (omega (arith, ints, micros_range.0)) in
    let limit_is : p.rate_limit ≡ pos (amount p name.pRateCorrectionOut) = natural p.rate_limit (omega (arith, ints, limit_range.0)) in
    let n = amount p name.pMicroPerCycle in
    let drifts =
    mulz_within (pos n) (row.length -ℤ pos nominal) (pos n) (pos (amount p name.xRateBound)) (not_below n) (itself (pos n))
    (micro_near (amount p name.xRateBound) row.length few micro.least micro.most) in
    let turns =
    mulz_within row.length row.rate (longest p) (pos (amount p name.pRateCorrectionOut)) (lasts (shortest_micro p) row.length micro.least) micro.most
    (subst (λ b. IsWithin b row.rate) limit_is rate) in
    by (amount p name.pRateCorrectionOut * longest_micro p) (n * amount p name.xRateBound) (longest p *ℤ pos (amount p name.pRateCorrectionOut)) (pos n *ℤ pos (amount p name.xRateBound))
    (cycle_length_of p row) (nominal_cycle p) (pos n *ℤ row.length) (row.rate *ℤ row.length) (pos n *ℤ (row.length -ℤ pos nominal)) (row.length *ℤ row.rate)
    (product (longest_micro p) (amount p name.pRateCorrectionOut)) (same_product n (amount p name.xRateBound))
    (ap (λ m. (m +ℤ row.rate) *ℤ row.length) micros_is ∙ addz-mulz (pos n) row.rate row.length) (mulz-subz row.length (pos nominal) (pos n))
    (mulz_comm row.length row.rate) drifts turns
  where
    not_below : (n : ℕ) → pos 0 ≤ℤ pos n
    not_below n = omega (arith, ints)

    itself : (a : ℤ) → a ≤ℤ a
    itself a = omega (arith, ints)

    lasts : (n : ℕ) (z : ℤ) → pos n ≤ℤ z → pos 0 ≤ℤ z
    lasts n z h = omega (arith, ints)

    same_product : (a b : ℕ) → pos a *ℤ pos b ≡ pos (a * b)
    same_product a b = omega (arith, ints)

    micro_near : (d : ℕ) (u : ℤ) → d ≤ 1_500 → pos (1_000_000 - d) ≤ℤ u → u ≤ℤ pos (1_000_000 + d) → IsWithin (pos d) (u -ℤ pos 1_000_000)
    micro_near d u few least most = record { low = omega (arith, ints, few, least, most); high = omega (arith, ints, few, least, most) }

    by :
        (r m : ℕ) (ro md long w nu ru part turned : ℤ) → ro ≡ pos r → md ≡ pos m → long ≡ nu +ℤ ru → part ≡ nu -ℤ w → turned ≡ ru → IsWithin md part → IsWithin ro turned
        → IsWithin (pos (r + m)) (long -ℤ w)
    by r m ro md long w nu ru part turned a b c d e h k =
        record { low = low r m ro md long w nu ru part turned a b c d e h.low k.low; high = high r m ro md long w nu ru part turned a b c d e h.high k.high }
      where
        low :
            (r m : ℕ) (ro md long w nu ru part turned : ℤ) → ro ≡ pos r → md ≡ pos m → long ≡ nu +ℤ ru → part ≡ nu -ℤ w → turned ≡ ru → neg_ℤ md ≤ℤ part → neg_ℤ ro ≤ℤ turned
            → neg_ℤ (pos (r + m)) ≤ℤ (long -ℤ w)
        low r m ro md long w nu ru part turned a b c d e h k = omega (arith, ints, a, b, c, d, e, h, k)

        high :
            (r m : ℕ) (ro md long w nu ru part turned : ℤ) → ro ≡ pos r → md ≡ pos m → long ≡ nu +ℤ ru → part ≡ nu -ℤ w → turned ≡ ru → part ≤ℤ md → turned ≤ℤ ro
            → (long -ℤ w) ≤ℤ pos (r + m)
        high r m ro md long w nu ru part turned a b c d e h k = omega (arith, ints, a, b, c, d, e, h, k)

-- ---- a node in a double cycle

pub same_cycle : (one other : Cycle) → Some one ≡ Some other → one ≡ other
same_cycle one other is = cc is

-- a correct node has its rows in both cycles
pub record IsNodeAt (h : Cycles) (node : ℕ) (double : ℕ) : Type 0 where
  pub even : Cycle
  pub odd : Cycle
  pub has : HasDouble h double even odd
  pub early : NodeRow
  pub late : NodeRow
  pub in_even : row_of even.told.rows node ≡ Some early
  pub in_odd : row_of odd.told.rows node ≡ Some late

module _ (x : Setting) (h : Cycles) (timed : IsTimedRun x h) (whole : length h ≡ 2 * x.doubles) where
  -- what its rows keep
  pub record KeepsRows (early late : NodeRow) : Type 0 where
    pub regular : IsRegular x.params early late
    pub follows : late.start ≡ end_of x.params early
    pub early_long : IsWithin (length_off x.params) (cycle_length_of x.params early -ℤ nominal_cycle x.params)
    pub late_long : IsWithin (length_off x.params) (cycle_length_of x.params late -ℤ nominal_cycle x.params)
    pub offset : IsWithin x.params.offset_limit late.offset

  pub rows_kept : (node double : ℕ) (at : IsNodeAt h node double) → KeepsRows at.early at.late
  rows_kept node double at =
      let regular = nodes_run_regularly x h double at.even at.odd node at.early at.late timed at.has at.in_even at.in_odd in
      record {
        regular = regular;
        follows = odd_start_is x.params at.early at.late regular.double;
        early_long = length_near x.params at.early timed.sane regular.rate_within regular.even_micro;
        late_long =
            length_near x.params at.late timed.sane (subst (IsWithin x.params.rate_limit) (sym regular.double.same_rate) regular.rate_within)
            regular.odd_micro;
        offset = offset_within x h double node at.even at.odd at.late timed at.has at.in_odd;
      }

  -- ---- two nodes in one double cycle

  row_among : (rows : List NodeRow) (node : ℕ) (row : NodeRow) → row_of rows node ≡ Some row → Contains rows row
  row_among rows node row is = (found (λ (r : NodeRow). r.node == node) rows row is).1

  pub starts_near : (from node other double : ℕ) → IsNearFrom x h from → (at : IsNodeAt h node double) (also : IsNodeAt h other double) → from ≤ double
      → IsWithin (starts_off x.params) (also.early.start -ℤ at.early.start)
  starts_near from node other double n at also after =
      let same : also.even ≡ at.even = same_cycle also.even at.even (sym also.has.has_even ∙ at.has.has_even) in
      let here : Contains at.even.told.rows at.early = row_among at.even.told.rows node at.early at.in_even in
      let there : Contains at.even.told.rows also.early =
      subst (λ (c : Cycle). Contains c.told.rows also.early) same (row_among also.even.told.rows other also.early also.in_even) in
      let near = n.near double at.even at.odd after at.has in
      let up = two_within (starts_off x.params) (λ (row : NodeRow). row.start) at.even.told.rows also.early at.early near there here in
      let down = two_within (starts_off x.params) (λ (row : NodeRow). row.start) at.even.told.rows at.early also.early near here there in
      record { low = turned (starts_off x.params) at.early.start also.early.start down; high = up }
    where
      turned : (b s t : ℤ) → (s -ℤ t) ≤ℤ b → neg_ℤ b ≤ℤ (t -ℤ s)
      turned b s t h = omega (arith, ints)

  -- ---- from one double cycle to the next

  next_at : (node : NodeSpec) (double : ℕ) → Contains (correct_nodes x) node → IsNodeAt h node.id double → suc double < x.doubles → IsNodeAt h node.id (suc double)
  next_at node double correct at less =
      let there = double_there h (suc double) (inside (suc double) x.doubles (length h) whole less) in
      let cut = cut_at h (suc double) there.even there.odd there.has in
      let ways = nodes_have_both_rows x h (suc double) there.even there.odd node.id timed there.has in
      let even_row =
      row_goes_on x h double at.even at.odd there.even there.odd node cut.earlier timed at.has correct (ap is_some at.in_odd) cut.is in
      record {
        even = there.even;
        odd = there.odd;
        has = there.has;
        early = row_for there.even.told.rows node.id;
        late = row_for there.odd.told.rows node.id;
        in_even = some_row there.even.told.rows node.id even_row;
        in_odd = some_row there.odd.told.rows node.id (ways.0 even_row);
      }
    where
      inside : (k d long : ℕ) → long ≡ 2 * d → k < d → suc (2 * k) < long
      inside k d long a b = omega (arith, a, b)

  step_near : (node double : ℕ) (at : IsNodeAt h node double) (next : IsNodeAt h node (suc double))
      → IsWithin (double_off x.params) ((next.early.start -ℤ at.early.start) -ℤ (nominal_cycle x.params +ℤ nominal_cycle x.params))
  step_near node double at next =
      let p = x.params in
      let kept = rows_kept node double at in
      let goes = nodes_go_on x h double at.even at.odd next.even next.odd node at.late next.early timed at.has next.has at.in_odd next.in_even in
      let limit_is : p.offset_limit ≡ pos (amount p name.pOffsetCorrectionOut) = natural p.offset_limit (limit_from p timed.sane) in
      let term : IsWithin (term_off p) (at.late.length *ℤ at.late.offset) =
      subst (λ b. IsWithin b (at.late.length *ℤ at.late.offset)) (product (longest_micro p) (amount p name.pOffsetCorrectionOut))
      (
      mulz_within at.late.length at.late.offset (pos (longest_micro p)) (pos (amount p name.pOffsetCorrectionOut))
      (lasts (shortest_micro p) at.late.length kept.regular.odd_micro.least) kept.regular.odd_micro.most
      (subst (λ b. IsWithin b at.late.offset) limit_is kept.offset)
      ) in
      let corrected : ((p.micros +ℤ at.late.rate) +ℤ at.late.offset) *ℤ at.late.length ≡ cycle_length_of p at.late +ℤ (at.late.length *ℤ at.late.offset) =
      addz-mulz (p.micros +ℤ at.late.rate) at.late.offset at.late.length ∙ ap (λ z. cycle_length_of p at.late +ℤ z) (mulz_comm at.late.offset at.late.length) in
      double_near (nominal_cycle p) (length_off p) (term_off p) (cycle_length_of p at.early) (cycle_length_of p at.late) (at.late.length *ℤ at.late.offset)
      (next.early.start -ℤ at.early.start) kept.early_long kept.late_long term
      (
      sum at.early.start at.late.start next.early.start (cycle_length_of p at.early) (cycle_length_of p at.late) (at.late.length *ℤ at.late.offset)
      (((p.micros +ℤ at.late.rate) +ℤ at.late.offset) *ℤ at.late.length) kept.follows goes.0 corrected
      )
    where
      lasts : (n : ℕ) (z : ℤ) → pos n ≤ℤ z → pos 0 ≤ℤ z
      lasts n z h = omega (arith, ints)

      sum : (s t r a b c d : ℤ) → t ≡ s +ℤ a → r ≡ t +ℤ d → d ≡ b +ℤ c → r -ℤ s ≡ a +ℤ (b +ℤ c)
      sum s t r a b c d e h k = omega (arith, ints)

  -- ---- and over many

  pub record IsLater (node double q : ℕ) (start : ℤ) (k : ℕ) : Type 0 where
    pub at : IsNodeAt h node k
    pub near : AreNear (nominal_cycle x.params) (double_off x.params) (pos q) (at.early.start -ℤ start)

  pub later : (node : NodeSpec) (double q k : ℕ) → Contains (correct_nodes x) node → (at : IsNodeAt h node.id double) → k ≡ q + double → k < x.doubles
      → IsLater node.id double q at.early.start k
  later node double zero k correct at is less =
      subst (IsLater node.id double 0 at.early.start) (sym (is ∙ zero_plus double))
      (
      record {
        at = at;
        near =
            subst (AreNear (nominal_cycle x.params) (double_off x.params) (pos 0)) (none at.early.start)
            (none_near (nominal_cycle x.params) (double_off x.params));
      }
      )
    where
      zero_plus : (d : ℕ) → 0 + d ≡ d
      zero_plus d = omega arith

      none : (s : ℤ) → pos 0 ≡ s -ℤ s
      none s = omega (arith, ints)
  later node double (suc q) k correct at is less =
      let before = later node double q (q + double) correct at refl (fewer k q double x.doubles is less) in
      let next = next_at node (q + double) correct before.at (subst (λ n. n < x.doubles) (is ∙ suc_plus q double) less) in
      let step = step_near node.id (q + double) before.at next in
      subst (IsLater node.id double (suc q) at.early.start) (sym (is ∙ suc_plus q double))
      (
      record {
        at = next;
        near =
            subst (λ n. AreNear (nominal_cycle x.params) (double_off x.params) n (next.early.start -ℤ at.early.start)) (one_more q)
            (
            subst (AreNear (nominal_cycle x.params) (double_off x.params) (pos q +ℤ pos 1)) (spans before.at.early.start next.early.start at.early.start)
            (
            one_more_near (nominal_cycle x.params) (double_off x.params) (pos q) (before.at.early.start -ℤ at.early.start) (next.early.start -ℤ before.at.early.start) before.near
            step
            )
            );
      }
      )
    where
      suc_plus : (q d : ℕ) → suc q + d ≡ suc (q + d)
      suc_plus q d = omega arith

      fewer : (k q d t : ℕ) → k ≡ suc q + d → k < t → q + d < t
      fewer k q d t is less = omega (arith, is, less)

      one_more : (q : ℕ) → pos q +ℤ pos 1 ≡ pos (suc q)
      one_more q = omega (arith, ints)

      spans : (b n s : ℤ) → (b -ℤ s) +ℤ (n -ℤ b) ≡ n -ℤ s
      spans b n s = omega (arith, ints)
