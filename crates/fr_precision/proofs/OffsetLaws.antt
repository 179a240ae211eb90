-- The laws of offsets, over rows.
use Rattle.std.proofs.Common.{◌≡◌, ◌⊎◌, ℕ, ◌+◌, ◌*◌, ◌≤◌, Bool, true, ℤ, pos, List, [], length, map, All, inl, inr, refl, ap, ◌∙◌, arith}
use Rattle.std.specs.Prelude.{neg_ℤ, ◌+ℤ◌, ◌-ℤ◌, ◌*ℤ◌, ◌≤ℤ◌, ◌<ℤ◌}
use Rattle.std.proofs.lemmas.Int.{ints}
use Rattle.fr_base.specs.declared.node_row.NodeRow.{NodeRow}
use Rattle.fr_base.specs.declared.Outcome.TheVariants.{Within}
use Rattle.fr_cluster.specs.Values.{Values, amount}
use Rattle.fr_cluster.specs.Sane.{IsSane}
use Rattle.fr_cluster.specs.declared.names.ParamName.TheVariants as name
use Rattle.fr_base.specs.Within.{IsWithin}
use Rattle.fr_midpoint.specs.Midpoint.{IsMidpoint}
use Rattle.fr_midpoint.specs.Receivers.{place_at, Hears, IsPlaced, Receiver, Receives}
use Rattle.fr_midpoint.proofs.Agreement.{one_receiver_lem, two_receivers_lem}
use Rattle.fr_midpoint.proofs.Products.{addz-mulz, lez_of_mulz-lez, mulz-lez_left, negz-mulz}
use Rattle.fr_correct.specs.declared.term.Term.{Term}
use Rattle.fr_correct.specs.Terms.{missing_term, term_of}
use Rattle.fr_time.specs.Position.{grid_for}
use Rattle.fr_time.specs.Instant.{instant_of}
use Rattle.fr_time.proofs.Placing.{is_grid_lem}
use Rattle.fr_bound.specs.Bounds.{arrival_error, lambda_of, longest_micro, pi_of, precision_of, shortest_micro}
use Rattle.fr_bound.specs.Checks.{left_of}
use Rattle.fr_bound.specs.Sync.{cycle_length_of}
use Rattle.fr_precision.specs.Rows.{corrected_end_of, end_of, AreNear, HasProperMicro, Lasts, Sender}
use Rattle.fr_precision.specs.Instants.{gap_of}
use Rattle.fr_precision.specs.Offsets.{CorrectedEndLiesAmong, EndsDrawTogether, EndsStayTogether, IsDeviation, IsOffsetRound, IsSending, LimitSuffices, NearAll, OffsetTermsAreUncut, OwnValueIsDeviation, ReachAll, SendersLieNear, ThirdCheckSuffices}
use Rattle.fr_precision.proofs.Figures.{nat_le-true, times_natural}
use Rattle.fr_precision.proofs.InstantLaws.{early_on_line, odd_start_is}
use Rattle.fr_time.proofs.Lines.{lines_end}
use Rattle.fr_precision.proofs.RateLaws.{half_within, limited_within, outcome_within}
use Rattle.fr_precision.proofs.Senders.{heard_all, hears_mapped, length_mapped, lie_within, All-both, All-mapped}

-- the shortest microtick lasts
pub shortest_from : (p : Values) → IsSane p → pos 1 ≤ℤ pos (shortest_micro p)
shortest_from p sane =
    let drift = sane.ranges name.xRateBound in
    let most : amount p name.xRateBound ≤ 1500 = omega (arith, ints, drift.0, drift.1) in
    omega (arith, ints, most)

pub micro_lasts : (p : Values) (row : NodeRow) → IsSane p → HasProperMicro p row → Lasts p row
micro_lasts p row sane micro = record { some = step (pos (shortest_micro p)) row.length (shortest_from p sane) micro.least; most = micro.most }
  where
    step : (q t : ℤ) → pos 1 ≤ℤ q → q ≤ℤ t → pos 0 <ℤ t
    step q t a b = omega (arith, ints)

limit_from : (p : Values) → IsSane p → pos 0 ≤ℤ p.offset_limit
limit_from p sane = let range = sane.ranges name.pOffsetCorrectionOut in omega (arith, ints, range.0)

pub third_check_suffices : ThirdCheckSuffices
third_check_suffices p holds = step (precision_of p) (arrival_error p) (longest_micro p) (left_of 3 p) (nat_le-true _ _ holds)
  where
    step : (k e q left : ℕ) → k + e + q ≤ left → (pos k +ℤ pos e +ℤ pos q) ≤ℤ pos left
    step k e q left le = omega (arith, ints)

pub own_value_is_deviation : OwnValueIsDeviation
own_value_is_deviation p is_odd action row lasts =
    let both = step (instant_of (grid_for p) row is_odd action) (arrival_error p) row.length lasts.some in
    record { low = both.0; high = both.1 }
  where
    step : (x : ℤ) (e : ℕ) (t : ℤ) → pos 0 <ℤ t → (((x -ℤ x) -ℤ (pos e +ℤ t)) <ℤ (pos 0 *ℤ t)) × ((pos 0 *ℤ t) ≤ℤ ((x -ℤ x) +ℤ pos e))
    step x e t some = (omega (arith, ints), omega (arith, ints))

-- a deviation of a frame that is sent within reach is within the offset limit
pub deviation_within : (p : Values) (reach : ℤ) (is_odd : Bool) (action : ℤ) (row sender : NodeRow) (value : ℤ) → IsSane p → LimitSuffices p reach → HasProperMicro p row
    → IsWithin reach (gap_of p is_odd action sender row) → IsDeviation p is_odd action row sender value → IsWithin p.offset_limit value
deviation_within p reach is_odd action row sender value sane suffices micro near dev =
    let from = limit_from p sane in
    let scaled : (p.offset_limit *ℤ pos (shortest_micro p)) ≤ℤ (p.offset_limit *ℤ row.length) = mulz-lez_left (pos (shortest_micro p)) row.length p.offset_limit micro.least from in
    let lasts = micro_lasts p row sane micro in
    let both =
    step (gap_of p is_odd action sender row) reach (arrival_error p) (longest_micro p) row.length (value *ℤ row.length) (neg_ℤ value *ℤ row.length) (left_of 3 p) (p.offset_limit *ℤ pos (shortest_micro p)) (p.offset_limit *ℤ row.length)
    (negz-mulz value row.length) (times_natural p.offset_limit (shortest_micro p) from) scaled suffices near.low near.high dev.low dev.high lasts.most in
    turned p.offset_limit value (lez_of_mulz-lez value p.offset_limit row.length lasts.some both.0) (lez_of_mulz-lez (neg_ℤ value) p.offset_limit row.length lasts.some both.1)
  where
    step : (gap reach : ℤ) (e q : ℕ) (t v minus : ℤ) (left : ℕ) (short long : ℤ) → minus ≡ neg_ℤ v → pos left ≡ short → short ≤ℤ long → (reach +ℤ pos e +ℤ pos q) ≤ℤ pos left
        → neg_ℤ reach ≤ℤ gap → gap ≤ℤ reach → (gap -ℤ (pos e +ℤ t)) <ℤ v → v ≤ℤ (gap +ℤ pos e) → t ≤ℤ pos q → (v ≤ℤ long) × (minus ≤ℤ long)
    step gap reach e q t v minus left short long a b c d f g h i j = (omega (arith, ints), omega (arith, ints))

    turned : (limit v : ℤ) → v ≤ℤ limit → neg_ℤ v ≤ℤ limit → IsWithin limit v
    turned limit v a b = record { low = omega (arith, ints); high = omega (arith, ints) }

-- what a receiver makes of its offset values
record Round (p : Values) (values : List ℤ) (term : Term) : Type 0 where
  mid : ℤ
  middle : IsMidpoint values mid
  is : term.value ≡ mid
  uncut : term.outcome ≡ Within

unit_place : (limit v : ℤ) → IsWithin limit v → IsPlaced (pos 0) (pos 1) limit limit (pos 0) v
unit_place limit v within = record { low = omega (arith, ints, within.low); high = omega (arith, ints, within.high) }

round_at : (p : Values) (senders : List Sender) (reach : ℤ) (row : NodeRow) (values : List ℤ) (term : Term) (mid : ℤ)
    → IsSane p → LimitSuffices p reach → ReachAll p reach senders row → HasProperMicro p row
    → Hears Sender (λ (sender : Sender) value. IsDeviation p true sender.action row sender.odd value) senders values
    → IsMidpoint values mid → term ≡ term_of p.offset_limit mid → Round p values term
round_at p senders reach row values term mid sane suffices near micro hears middle is =
    let Near : Sender → Type 0 = λ sender. IsWithin reach (gap_of p true sender.action sender.odd row) in
    let zero : Sender → ℤ = λ sender. pos 0 in
    let hears_zero : Hears ℤ (IsPlaced (pos 0) (pos 1) p.offset_limit p.offset_limit) (map zero senders) values =
    hears_mapped Near (λ (sender : Sender) value. IsDeviation p true sender.action row sender.odd value) (IsPlaced (pos 0) (pos 1) p.offset_limit p.offset_limit) zero senders values
    (λ sender value close dev. unit_place p.offset_limit value (deviation_within p reach true sender.action row sender.odd value sane suffices micro close dev)) near hears in
    let among =
    one_receiver_lem (map zero senders) (pos 0) (pos 0) p.offset_limit p.offset_limit (record { base = pos 0; unit = pos 1; values = values }) mid
    (All-mapped Near (λ x. pos 0 ≤ℤ x) zero senders (λ sender close. from_zero) near)
    (All-mapped Near (λ x. x ≤ℤ pos 0) zero senders (λ sender close. from_zero) near)
    (record { lasts = some; hears = hears_zero })
    middle in
    let within = out p.offset_limit mid among.0 among.1 in
    record {
      mid = mid;
      middle = middle;
      is = ap (λ (t : Term). t.value) is ∙ limited_within p.offset_limit mid within;
      uncut = ap (λ (t : Term). t.outcome) is ∙ outcome_within p.offset_limit mid within;
    }
  where
    from_zero : pos 0 ≤ℤ pos 0
    from_zero = omega (arith, ints)

    some : pos 0 <ℤ pos 1
    some = omega (arith, ints)

    out : (limit mid : ℤ) → (pos 0 -ℤ limit) ≤ℤ (pos 0 +ℤ (mid *ℤ pos 1)) → (pos 0 +ℤ (mid *ℤ pos 1)) ≤ℤ (pos 0 +ℤ limit) → IsWithin limit mid
    out limit mid a b = record { low = omega (arith, ints); high = omega (arith, ints) }

round_of : (p : Values) (senders : List Sender) (reach : ℤ) (row : NodeRow) (values : List ℤ) (term : Term)
    → IsSane p → LimitSuffices p reach → 1 ≤ length senders → ReachAll p reach senders row → IsOffsetRound p senders row values term → Round p values term
round_of p senders reach row values term sane suffices some near round = by_term round.is_term
  where
    by_term : ((values ≡ []) × (term ≡ missing_term (pos 0))) ⊎ ((mid : ℤ) × IsMidpoint values mid × (term ≡ term_of p.offset_limit mid)) → Round p values term
    by_term (inl (none, is)) =
        let heard = heard_all (λ (sender : Sender) value. IsDeviation p true sender.action row sender.odd value) senders values round.hears in
        absurd (omega (arith, heard, some, ap length none))
    by_term (inr (mid, middle, is)) = round_at p senders reach row values term mid sane suffices near round.micro round.hears middle is

pub offset_terms_are_uncut : OffsetTermsAreUncut
offset_terms_are_uncut p senders reach row values term sane suffices some near round = (round_of p senders reach row values term sane suffices some near round).uncut

-- how far before and after a sender's end an offset value may place it
abbrev before_end : Values → ℤ → ℤ
before_end p lengths = lengths +ℤ pos (arrival_error p + 2 * longest_micro p)

abbrev after_end : Values → ℤ → ℤ
after_end p lengths = lengths +ℤ pos (arrival_error p + longest_micro p)

-- an offset value, counted from the receiver's end, places the sender's
end_placed : (p : Values) (lengths : ℤ) (row : NodeRow) (sender : Sender) (value : ℤ) → IsSane p → HasProperMicro p row → IsSending p sender
    → IsWithin lengths (cycle_length_of p row -ℤ cycle_length_of p sender.odd) → IsDeviation p true sender.action row sender.odd value
    → IsPlaced (end_of p row) row.length (before_end p lengths) (after_end p lengths) (end_of p sender.odd) value
end_placed p lengths row sender value sane micro sending near dev =
    let grid = is_grid_lem p sane in
    let lasts = micro_lasts p row sane micro in
    let at = instant_of (grid_for p) row true sender.action in
    let other_at = instant_of (grid_for p) sender.odd true sender.action in
    let left =
    lines_end row.start sender.odd.start (cycle_length_of p row) (cycle_length_of p sender.odd) row.length sender.odd.length sender.action p.macros (pos (longest_micro p)) at other_at lengths
    (early_on_line p row sender.action sane lasts sending.acts_to) (early_on_line p sender.odd sender.action sane sending.lasts sending.acts_to)
    (some p.correction p.macros grid.correction_from grid.correction_to) (no_less (longest_micro p)) sending.acts_from (within_cycle sender.action p.correction p.macros sending.acts_to grid.correction_to) near in
    let both =
    step (end_of p row) (end_of p sender.odd) at other_at (value *ℤ row.length) row.length lengths (arrival_error p) (longest_micro p) left.low left.high dev.low dev.high lasts.most in
    record { low = both.0; high = both.1 }
  where
    some : (o g : ℤ) → pos 1 ≤ℤ o → o <ℤ g → pos 0 <ℤ g
    some o g a b = omega (arith, ints)

    no_less : (n : ℕ) → pos 0 ≤ℤ pos n
    no_less n = omega (arith, ints)

    within_cycle : (m o g : ℤ) → m ≤ℤ o → o <ℤ g → m ≤ℤ g
    within_cycle m o g a b = omega (arith, ints)

    step : (x y at other v t l : ℤ) (e q : ℕ)
        → neg_ℤ (l +ℤ pos q) ≤ℤ ((x -ℤ at) -ℤ (y -ℤ other)) → ((x -ℤ at) -ℤ (y -ℤ other)) ≤ℤ (l +ℤ pos q)
        → ((other -ℤ at) -ℤ (pos e +ℤ t)) <ℤ v → v ≤ℤ ((other -ℤ at) +ℤ pos e) → t ≤ℤ pos q
        → ((y -ℤ (l +ℤ pos (e + 2 * q))) ≤ℤ (x +ℤ v)) × ((x +ℤ v) ≤ℤ (y +ℤ (l +ℤ pos (e + q))))
    step x y at other v t l e q a b c d f = (omega (arith, ints), omega (arith, ints))

-- the receiver of offset values that an odd row is
abbrev ends_at : Values → NodeRow → List ℤ → Receiver
ends_at p row values = record { base = end_of p row; unit = row.length; values = values }

abbrev odd_ends : Values → List Sender → List ℤ
odd_ends p senders = map (λ (sender : Sender). end_of p sender.odd) senders

receives_ends : (p : Values) (senders : List Sender) (lengths : ℤ) (row : NodeRow) (values : List ℤ) (term : Term)
    → IsSane p → All (IsSending p) senders → NearAll p lengths senders row → IsOffsetRound p senders row values term
    → Receives (before_end p lengths) (after_end p lengths) (odd_ends p senders) (ends_at p row values)
receives_ends p senders lengths row values term sane sending near round =
    let Near : Sender → Type 0 = λ sender. IsWithin lengths (cycle_length_of p row -ℤ cycle_length_of p sender.odd) in
    let Both : Sender → Type 0 = λ sender. IsSending p sender × IsWithin lengths (cycle_length_of p row -ℤ cycle_length_of p sender.odd) in
    let lasts = micro_lasts p row sane round.micro in
    record {
      lasts = lasts.some;
      hears =
          hears_mapped Both (λ (sender : Sender) value. IsDeviation p true sender.action row sender.odd value)
          (IsPlaced (end_of p row) row.length (before_end p lengths) (after_end p lengths))
          (λ (sender : Sender). end_of p sender.odd) senders values
          (λ sender value both dev. end_placed p lengths row sender value sane round.micro both.0 both.1 dev)
          (All-both (IsSending p) Near Both senders (λ sender one other. (one, other)) sending near)
          round.hears;
    }

-- the corrected end is where the midpoint lies
pub corrected_place : (p : Values) (row : NodeRow) (values : List ℤ) (mid : ℤ) → row.offset ≡ mid → corrected_end_of p row ≡ place_at (ends_at p row values) mid
corrected_place p row values mid is =
    ap (λ offset. row.start +ℤ ((p.micros +ℤ row.rate +ℤ offset) *ℤ row.length)) is
    ∙ sum row.start ((p.micros +ℤ row.rate) *ℤ row.length) (mid *ℤ row.length) ((p.micros +ℤ row.rate +ℤ mid) *ℤ row.length) (addz-mulz (p.micros +ℤ row.rate) mid row.length)
  where
    sum : (s a b c : ℤ) → c ≡ a +ℤ b → s +ℤ c ≡ (s +ℤ a) +ℤ b
    sum s a b c e = omega (arith, ints)

pub corrected_end_lies_among : CorrectedEndLiesAmong
corrected_end_lies_among p senders lengths reach least greatest row values term sane suffices some sending reaches near from to is =
    let round = round_of p senders reach row values term sane suffices some reaches is in
    let f = λ (sender : Sender). end_of p sender.odd in
    let among =
    one_receiver_lem (odd_ends p senders) least greatest (before_end p lengths) (after_end p lengths) (ends_at p row values) round.mid
    (All-mapped (λ (sender : Sender). least ≤ℤ end_of p sender.odd) (λ x. least ≤ℤ x) f senders (λ sender h. h) from)
    (All-mapped (λ (sender : Sender). end_of p sender.odd ≤ℤ greatest) (λ x. x ≤ℤ greatest) f senders (λ sender h. h) to)
    (receives_ends p senders lengths row values term sane sending near is)
    round.middle in
    let same = corrected_place p row values round.mid (is.applied ∙ round.is) in (
      low (corrected_end_of p row) (place_at (ends_at p row values) round.mid) (least -ℤ before_end p lengths) same among.0,
      high (corrected_end_of p row) (place_at (ends_at p row values) round.mid) (greatest +ℤ after_end p lengths) same among.1,
    )
  where
    low : (x y a : ℤ) → x ≡ y → a ≤ℤ y → a ≤ℤ x
    low x y a e le = omega (arith, ints)

    high : (x y a : ℤ) → x ≡ y → y ≤ℤ a → x ≤ℤ a
    high x y a e le = omega (arith, ints)

-- the senders' ends lie no further apart than their starts and both lengths
pub ends_near : (p : Values) (starts lengths : ℤ) (senders : List Sender) → All (IsSending p) senders → SendersLieNear p starts lengths senders
    → AreNear (λ sender. end_of p sender.odd) (starts +ℤ (pos 2 *ℤ lengths)) senders
ends_near p starts lengths senders sending near =
    let Start : Sender → Sender → Type 0 = λ one other. IsWithin starts (one.even.start -ℤ other.even.start) in
    let Even : Sender → Sender → Type 0 = λ one other. IsWithin lengths (cycle_length_of p one.even -ℤ cycle_length_of p other.even) in
    let Odd : Sender → Sender → Type 0 = λ one other. IsWithin lengths (cycle_length_of p one.odd -ℤ cycle_length_of p other.odd) in
    let End : Sender → Sender → Type 0 = λ one other. IsWithin (starts +ℤ (pos 2 *ℤ lengths)) (end_of p one.odd -ℤ end_of p other.odd) in
    let Whole : Sender → Type 0 = λ one. IsSending p one × All (Start one) senders in
    let Lengths : Sender → Type 0 = λ one. All (Even one) senders × All (Odd one) senders in
    let whole = All-both (IsSending p) (λ one. All (Start one) senders) Whole senders (λ one a b. (a, b)) sending near.by_start in
    let both = All-both (λ one. All (Even one) senders) (λ one. All (Odd one) senders) Lengths senders (λ one a b. (a, b)) near.by_even near.by_odd in
    All-both Whole Lengths (λ one. All (End one) senders) senders
    (λ one a b.
    let with_start = All-both (IsSending p) (Start one) (λ other. IsSending p other × Start one other) senders (λ other c d. (c, d)) sending a.1 in
    let with_lengths = All-both (Even one) (Odd one) (λ other. Even one other × Odd one other) senders (λ other c d. (c, d)) b.0 b.1 in
    All-both (λ other. IsSending p other × Start one other) (λ other. Even one other × Odd one other) (End one) senders
    (λ other c d. pair one other a.0 c.0 c.1 d.0 d.1) with_start with_lengths)
    whole both
  where
    step : (s l x x' e e' y y' o o' : ℤ) → y ≡ x +ℤ e → y' ≡ x' +ℤ e' → IsWithin s (x -ℤ x') → IsWithin l (e -ℤ e') → IsWithin l (o -ℤ o') → IsWithin (s +ℤ (pos 2 *ℤ l)) ((y +ℤ o) -ℤ (y' +ℤ o'))
    step s l x x' e e' y y' o o' a b c d f = record { low = omega (arith, ints, c.low, d.low, f.low); high = omega (arith, ints, c.high, d.high, f.high) }

    pair : (one other : Sender) → IsSending p one → IsSending p other → IsWithin starts (one.even.start -ℤ other.even.start)
        → IsWithin lengths (cycle_length_of p one.even -ℤ cycle_length_of p other.even) → IsWithin lengths (cycle_length_of p one.odd -ℤ cycle_length_of p other.odd)
        → IsWithin (starts +ℤ (pos 2 *ℤ lengths)) (end_of p one.odd -ℤ end_of p other.odd)
    pair one other a b c d e =
        step starts lengths one.even.start other.even.start (cycle_length_of p one.even) (cycle_length_of p other.even) one.odd.start other.odd.start (cycle_length_of p one.odd) (cycle_length_of p other.odd)
        (odd_start_is p one.even one.odd a.double) (odd_start_is p other.even other.odd b.double) c d e

pub ends_draw_together : EndsDrawTogether
ends_draw_together p senders starts lengths reach row other_row values other_values term other_term sane suffices sending near reaches other_reaches close other_close is also keep =
    let some : 1 ≤ length senders = omega (arith, keep) in
    let round = round_of p senders reach row values term sane suffices some reaches is in
    let other_round = round_of p senders reach other_row other_values other_term sane suffices some other_reaches also in
    let f = λ (sender : Sender). end_of p sender.odd in
    let apart =
    two_receivers_lem (odd_ends p senders) (starts +ℤ (pos 2 *ℤ lengths)) (before_end p lengths) (after_end p lengths) (pos (longest_micro p))
    (ends_at p row values) (ends_at p other_row other_values) round.mid other_round.mid
    (lie_within f (starts +ℤ (pos 2 *ℤ lengths)) senders (ends_near p starts lengths senders sending near))
    (receives_ends p senders lengths row values term sane sending close is)
    (receives_ends p senders lengths other_row other_values other_term sane sending other_close also)
    is.micro.most also.micro.most
    (omega (arith, keep, length_mapped f senders))
    round.middle other_round.middle in
    sum starts lengths (arrival_error p) (longest_micro p) (corrected_end_of p row) (place_at (ends_at p row values) round.mid) (corrected_end_of p other_row) (place_at (ends_at p other_row other_values) other_round.mid)
    (corrected_place p row values round.mid (is.applied ∙ round.is)) (corrected_place p other_row other_values other_round.mid (also.applied ∙ other_round.is)) apart
  where
    sum : (s l : ℤ) (e q : ℕ) (x x' y y' : ℤ) → x ≡ x' → y ≡ y'
        → IsWithin ((s +ℤ (pos 2 *ℤ l)) +ℤ (pos 2 *ℤ ((l +ℤ pos (e + 2 * q)) +ℤ (l +ℤ pos (e + q)))) +ℤ (pos 2 *ℤ pos q)) (pos 2 *ℤ (x' -ℤ y'))
        → IsWithin (s +ℤ (pos 6 *ℤ l) +ℤ pos (4 * e + 8 * q)) (pos 2 *ℤ (x -ℤ y))
    sum s l e q x x' y y' a b within = record { low = omega (arith, ints, within.low); high = omega (arith, ints, within.high) }

pub ends_stay_together : EndsStayTogether
ends_stay_together p senders reach row other_row values other_values term other_term sane suffices sending near reaches other_reaches close other_close is also keep =
    half_within (pos (pi_of p)) (corrected_end_of p row -ℤ corrected_end_of p other_row)
    (
    same (pi_of p) (lambda_of p) (arrival_error p) (longest_micro p) (pos 2 *ℤ (corrected_end_of p row -ℤ corrected_end_of p other_row)) refl
    (
    ends_draw_together p senders (pos (pi_of p)) (pos (lambda_of p)) reach row other_row values other_values term other_term sane suffices sending near reaches other_reaches close other_close is
    also keep
    )
    )
  where
    same : (pi l e q : ℕ) (x : ℤ) → pi ≡ 6 * l + 4 * e + 8 * q → IsWithin (pos pi +ℤ (pos 6 *ℤ pos l) +ℤ pos (4 * e + 8 * q)) x → IsWithin (pos pi +ℤ pos pi) x
    same pi l e q x is within = record { low = omega (arith, ints, within.low); high = omega (arith, ints, within.high) }
