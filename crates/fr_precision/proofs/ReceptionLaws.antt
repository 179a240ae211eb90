-- Why frames of correct nodes arrive within their slots.
use Rattle.std.proofs.Common.{◌≡◌, ℕ, ◌+◌, ◌-◌, ◌*◌, ◌<◌, ◌≤◌, Bool, true, false, ℤ, pos, refl, ap, sym, ◌∙◌, subst, arith}
use Rattle.std.specs.Prelude.{neg_ℤ, ◌+ℤ◌, ◌-ℤ◌, ◌*ℤ◌, ◌≤ℤ◌, ◌<ℤ◌, nat_abs, nat_lt}
use Rattle.std.specs.Int.{int_max}
use Rattle.std.proofs.lemmas.Bool.Decides.{nat_tests}
use Rattle.std.proofs.lemmas.Int.{ints, by_lt_z, clamps}
use Rattle.fr_base.specs.declared.channel.Channel.{Channel}
use Rattle.fr_base.specs.declared.channel.Channel.TheVariants as channel
use Rattle.fr_base.specs.declared.node_row.NodeRow.{NodeRow}
use Rattle.fr_cluster.specs.Values.{Values, amount}
use Rattle.fr_cluster.specs.Questions.{compensation_of}
use Rattle.fr_cluster.specs.Sane.{IsSane}
use Rattle.fr_cluster.specs.declared.names.ParamName.TheVariants as name
use Rattle.fr_base.specs.Within.{IsWithin}
use Rattle.fr_midpoint.proofs.Products.{lez_of_mulz-lez, mulz-lez, mulz-lez_left, mulz_comm, subz-mulz, mulz_assoc}
use Rattle.fr_time.specs.Position.{grid_for}
use Rattle.fr_time.specs.Instant.{instant_of}
use Rattle.fr_time.specs.Slots.{action_point_of, slot_end_of, slot_start_of}
use Rattle.fr_time.proofs.Placing.{action_point_lt, is_grid_lem, slot_end_lt, slot_length}
use Rattle.fr_bound.specs.Bounds.{nominal, precision_of, shortest_micro, widest}
use Rattle.fr_bound.specs.Checks.{after_action, clear_micros, least_cycle, left_of}
use Rattle.fr_bound.proofs.Uncut.{uncut_lem}
use Rattle.fr_bound.specs.Sync.{cycle_length_of}
use Rattle.fr_precision.specs.Reception.{ArrivalsLieInSlots, IsDelay, LeavesRoom, RoomChecksSuffice}
use Rattle.fr_precision.proofs.Figures.{nat_le-true, natural, times_natural}
use Rattle.fr_precision.proofs.InstantLaws.{before_correction}
use Rattle.fr_time.proofs.Lines.{on_line, OnLine}
use Rattle.fr_precision.proofs.OffsetLaws.{shortest_from}

pub nat_lt-true : (a b : ℕ) → nat_lt a b ≡ true → a < b
nat_lt-true a b h = grind (arith, nat_tests)

-- what is left of a slot before and behind an action point leaves room for a reach
pub leaves_room : (p : Values) (reach : ℕ) → IsSane p → amount p name.gMacroPerCycle * (reach + amount p name.xDelayError) ≤ left_of 4 p
    → amount p name.gMacroPerCycle * (reach + widest p * nominal + amount p name.xDelayError) < left_of 5 p → LeavesRoom p (pos reach)
leaves_room p reach sane fourth fifth =
    let macros = sane.ranges name.gMacroPerCycle in
    let from : pos 0 ≤ℤ p.macros = omega (arith, ints, macros.0) in
    let near = reach + amount p name.xDelayError in
    let far = reach + widest p * nominal + amount p name.xDelayError in
    record {
      before = at_most (amount p name.gMacroPerCycle * near) (left_of 4 p) (p.macros *ℤ pos near) (times_natural p.macros near from) fourth;
      after = less (amount p name.gMacroPerCycle * far) (left_of 5 p) (p.macros *ℤ pos far) (times_natural p.macros far from) fifth;
    }
  where
    at_most : (a b : ℕ) (x : ℤ) → pos a ≡ x → a ≤ b → x ≤ℤ pos b
    at_most a b x e le = omega (arith, ints)

    less : (a b : ℕ) (x : ℤ) → pos a ≡ x → a < b → x <ℤ pos b
    less a b x e le = omega (arith, ints)

pub room_checks_suffice : RoomChecksSuffice
room_checks_suffice p sane fourth fifth = leaves_room p (precision_of p) sane (nat_le-true _ _ fourth) (nat_lt-true _ _ fifth)

-- an instant up to the offset correction on its way, with the receiver's own microtick as the greatest
even_line : (p : Values) (row : NodeRow) (macrotick : ℤ) → IsSane p → pos 0 <ℤ row.length
    → OnLine row.start (cycle_length_of p row) row.length macrotick p.macros row.length (instant_of (grid_for p) row false macrotick)
even_line p row macrotick sane lasts =
    let grid = is_grid_lem p sane in
    on_line row.start row.length macrotick (p.micros +ℤ row.rate) p.macros row.length (omega (arith, ints, grid.correction_from, grid.correction_to)) lasts (itself row.length)
  where
    itself : (a : ℤ) → a ≤ℤ a
    itself a = omega (arith, ints)

slot_line : (p : Values) (row : NodeRow) (is_odd : Bool) (macrotick : ℤ) → IsSane p → pos 0 <ℤ row.length → macrotick ≤ℤ p.correction
    → OnLine row.start (cycle_length_of p row) row.length macrotick p.macros row.length (instant_of (grid_for p) row is_odd macrotick)
slot_line p row false macrotick sane lasts to = even_line p row macrotick sane lasts
slot_line p row true macrotick sane lasts to =
    let On : ℤ → Type 0 = OnLine row.start (cycle_length_of p row) row.length macrotick p.macros row.length in
    subst On (sym (before_correction p row macrotick to)) (even_line p row macrotick sane lasts)

spanned : (c m n n' a b pt tp t s x y w k k' : ℤ)
    → c ≤ℤ m → m ≡ n -ℤ pt → n ≡ n' → n' ≡ a -ℤ b → pt ≡ tp → w ≡ y -ℤ x
    → x ≡ (s +ℤ b) -ℤ k → pos 0 ≤ℤ k → y ≡ (s +ℤ a) -ℤ k' → k' ≤ℤ (tp -ℤ t) → pos 0 ≤ℤ t → c ≤ℤ w
spanned c m n n' a b pt tp t s x y w k k' h1 h2 h3 h4 h5 h6 h7 h8 h9 h10 h11 = omega (arith, ints)

-- so many macroticks last at least so long: the microticks of as many in the shortest cycle, less one macrotick
spans : (from to count least clear parts micros t start at at_to less less_to : ℤ)
    → to -ℤ from ≡ count → pos 0 ≤ℤ count → least ≤ℤ micros → clear ≡ (count *ℤ least) -ℤ parts → pos 0 ≤ℤ t
    → at *ℤ parts ≡ ((start *ℤ parts) +ℤ (from *ℤ (micros *ℤ t))) -ℤ less → pos 0 ≤ℤ less
    → at_to *ℤ parts ≡ ((start *ℤ parts) +ℤ (to *ℤ (micros *ℤ t))) -ℤ less_to → less_to ≤ℤ ((t *ℤ parts) -ℤ t)
    → (clear *ℤ t) ≤ℤ ((at_to -ℤ at) *ℤ parts)
spans from to count least clear parts micros t start at at_to less less_to is some shortest clear_is t_from at_is less_from to_is less_to_most =
    let long : (count *ℤ least) ≤ℤ (count *ℤ micros) = mulz-lez_left least micros count shortest some in
    let more : (clear *ℤ t) ≤ℤ (((count *ℤ micros) -ℤ parts) *ℤ t) = mulz-lez clear ((count *ℤ micros) -ℤ parts) t (under clear (count *ℤ least) (count *ℤ micros) parts clear_is long) t_from in
    let apart : ((count *ℤ micros) -ℤ parts) *ℤ t ≡ ((count *ℤ micros) *ℤ t) -ℤ (parts *ℤ t) = subz-mulz (count *ℤ micros) parts t in
    let grouped : (count *ℤ micros) *ℤ t ≡ count *ℤ (micros *ℤ t) = mulz_assoc count micros t in
    let counted : count *ℤ (micros *ℤ t) ≡ (to *ℤ (micros *ℤ t)) -ℤ (from *ℤ (micros *ℤ t)) = ap (λ x. x *ℤ (micros *ℤ t)) (sym is) ∙ subz-mulz to from (micros *ℤ t) in
    spanned (clear *ℤ t) (((count *ℤ micros) -ℤ parts) *ℤ t) ((count *ℤ micros) *ℤ t) (count *ℤ (micros *ℤ t)) (to *ℤ (micros *ℤ t)) (from *ℤ (micros *ℤ t)) (parts *ℤ t) (t *ℤ parts) t
    (start *ℤ parts) (at *ℤ parts) (at_to *ℤ parts) ((at_to -ℤ at) *ℤ parts) less less_to
    more apart grouped counted (mulz_comm parts t) (subz-mulz at_to at parts) at_is less_from to_is less_to_most t_from
  where
    under : (clear a b parts : ℤ) → clear ≡ a -ℤ parts → a ≤ℤ b → clear ≤ℤ (b -ℤ parts)
    under clear a b parts e le = omega (arith, ints)

-- the room between two macroticks of a slot, so many apart
room : (p : Values) (row : NodeRow) (is_odd : Bool) (from to count : ℕ) → IsSane p → IsWithin p.rate_limit row.rate → pos (shortest_micro p) ≤ℤ row.length
    → to ≡ from + count → pos to ≤ℤ p.correction → amount p name.gMacroPerCycle ≤ count * least_cycle p
    → pos (clear_micros p count * shortest_micro p) ≤ℤ ((instant_of (grid_for p) row is_odd (pos to) -ℤ instant_of (grid_for p) row is_odd (pos from)) *ℤ p.macros)
room p row is_odd from to count sane rate least is within some =
    let uncut = uncut_lem p sane in
    let macros = sane.ranges name.gMacroPerCycle in
    let micros = sane.ranges name.pMicroPerCycle in
    let limit = sane.ranges name.pRateCorrectionOut in
    let lasts : pos 0 <ℤ row.length = long (pos (shortest_micro p)) row.length (shortest_from p sane) least in
    let early = slot_line p row is_odd (pos from) sane lasts (sooner from to count p.correction is within) in
    let late = slot_line p row is_odd (pos to) sane lasts within in
    let shortest : pos (least_cycle p) ≤ℤ (p.micros +ℤ row.rate) =
    reaches p.micros p.rate_limit row.rate (natural p.micros (omega (arith, ints, micros.0))) (natural p.rate_limit (omega (arith, ints, limit.0))) uncut.cycle rate in
    let clear_is : pos (clear_micros p count) ≡ (pos count *ℤ pos (least_cycle p)) -ℤ p.macros =
    cleared p.macros count (least_cycle p) (natural p.macros (omega (arith, ints, macros.0))) some in
    let spanned = spans (pos from) (pos to) (pos count) (pos (least_cycle p)) (pos (clear_micros p count)) p.macros (p.micros +ℤ row.rate) row.length row.start
    (instant_of (grid_for p) row is_odd (pos from)) (instant_of (grid_for p) row is_odd (pos to)) early.less late.less
    (counted from to count is) (no_less count) shortest clear_is (omega (arith, ints, lasts)) early.is early.from late.is late.to in
    let scaled : (pos (clear_micros p count) *ℤ pos (shortest_micro p)) ≤ℤ (pos (clear_micros p count) *ℤ row.length) = mulz-lez_left (pos (shortest_micro p)) row.length (pos (clear_micros p count)) least (no_less (clear_micros p count)) in
    joined (pos (clear_micros p count * shortest_micro p)) (pos (clear_micros p count) *ℤ row.length) ((instant_of (grid_for p) row is_odd (pos to) -ℤ instant_of (grid_for p) row is_odd (pos from)) *ℤ p.macros) scaled spanned
  where
    long : (q t : ℤ) → pos 1 ≤ℤ q → q ≤ℤ t → pos 0 <ℤ t
    long q t a b = omega (arith, ints)

    sooner : (from to count : ℕ) (o : ℤ) → to ≡ from + count → pos to ≤ℤ o → pos from ≤ℤ o
    sooner from to count o e le = omega (arith, ints)

    counted : (from to count : ℕ) → to ≡ from + count → pos to -ℤ pos from ≡ pos count
    counted from to count e = omega (arith, ints)

    no_less : (n : ℕ) → pos 0 ≤ℤ pos n
    no_less n = omega (arith, ints)

    reaches : (n limit r : ℤ) → n ≡ pos (nat_abs n) → limit ≡ pos (nat_abs limit) → nat_abs limit ≤ nat_abs n → IsWithin limit r → pos (nat_abs n - nat_abs limit) ≤ℤ (n +ℤ r)
    reaches n limit r a b le within = omega (arith, ints, within.low)

    cleared : (g : ℤ) (count least : ℕ) → g ≡ pos (nat_abs g) → nat_abs g ≤ count * least → pos (count * least - nat_abs g) ≡ (pos count *ℤ pos least) -ℤ g
    cleared g count least e le = omega (arith, ints)

    joined : (a b c : ℤ) → a ≤ℤ b → b ≤ℤ c → a ≤ℤ c
    joined a b c h k = omega (arith, ints)

-- a product of the macroticks of a cycle that fits into the room
fits : (parts need gap left : ℤ) → pos 0 <ℤ parts → (parts *ℤ need) ≤ℤ left → left ≤ℤ (gap *ℤ parts) → need ≤ℤ gap
fits parts need gap left some a b = lez_of_mulz-lez need gap parts some (joined (need *ℤ parts) (parts *ℤ need) left (gap *ℤ parts) (mulz_comm need parts) a b)
  where
    joined : (x y l z : ℤ) → x ≡ y → y ≤ℤ l → l ≤ℤ z → x ≤ℤ z
    joined x y l z e h k = omega (arith, ints)

fits_below : (parts need gap left : ℤ) → pos 0 <ℤ parts → (parts *ℤ need) <ℤ left → left ≤ℤ (gap *ℤ parts) → need <ℤ gap
fits_below parts need gap left some a b =
    by_lt_z need gap (λ less. less)
    (λ over.
    let more : (gap *ℤ parts) ≤ℤ (need *ℤ parts) = mulz-lez gap need parts over (omega (arith, ints, some)) in
    absurd (contrary (need *ℤ parts) (parts *ℤ need) left (gap *ℤ parts) (mulz_comm need parts) a b more))
  where
    contrary : (x y l z : ℤ) → x ≡ y → y <ℤ l → l ≤ℤ z → z ≤ℤ x → ⊥
    contrary x y l z e h k m = omega (arith, ints)

-- a delay is from less than the delay error before to that after the widest compensation
compensated : (u : ℤ) (w e : ℕ) (d : ℤ) → pos 0 ≤ℤ u → u ≤ℤ pos w → IsWithin (pos e) (d -ℤ (u *ℤ pos 1_000_000)) → (neg_ℤ (pos e) ≤ℤ d) × (d ≤ℤ (pos (w * 1_000_000) +ℤ pos e))
compensated u w e d from to within = (omega (arith, ints, within.low), omega (arith, ints, within.high))

-- each channel's compensation is at most the widest
pub within_widest : (p : Values) (ch : Channel) → compensation_of p ch ≤ℤ pos (widest p)
within_widest p channel.A = first_of_both p.compensation_a p.compensation_b
  where
    first_of_both : (a b : ℤ) → a ≤ℤ pos (nat_abs (int_max a b))
    first_of_both a b = omega (arith, ints, clamps)
within_widest p channel.B = second_of_both p.compensation_a p.compensation_b
  where
    second_of_both : (a b : ℤ) → b ≤ℤ pos (nat_abs (int_max a b))
    second_of_both a b = omega (arith, ints, clamps)

delay_range : (p : Values) (ch : Channel) (delay : ℤ) → IsSane p → IsDelay p ch delay
    → (neg_ℤ (pos (amount p name.xDelayError)) ≤ℤ delay) × (delay ≤ℤ (pos (widest p * nominal) +ℤ pos (amount p name.xDelayError)))
delay_range p channel.A delay sane near =
    compensated p.compensation_a (widest p) (amount p name.xDelayError) delay (sane.ranges name.pDelayCompensationA).0 (within_widest p channel.A) near
delay_range p channel.B delay sane near =
    compensated p.compensation_b (widest p) (amount p name.xDelayError) delay (sane.ranges name.pDelayCompensationB).0 (within_widest p channel.B) near

-- a slot and its end before the offset correction
pub ends_before : (p : Values) (slot : ℕ) → IsSane p → slot ≤ amount p name.gNumberOfStaticSlots → pos (slot_end_of p slot) ≤ℤ p.correction
ends_before p slot sane static =
    let range = sane.ranges name.gOffsetCorrectionStart in
    let after = slot_end_lt p slot sane static in
    step (slot_end_of p slot) p.correction (natural p.correction (omega (arith, ints, range.0))) after
  where
    step : (n : ℕ) (o : ℤ) → o ≡ pos (nat_abs o) → n < nat_abs o → pos n ≤ℤ o
    step n o e less = omega (arith, ints)

pub arrives_in_slot : ArrivalsLieInSlots
arrives_in_slot p reach delay slot ch is_odd row sender sane leaves some static rate least near delayed =
    let uncut = uncut_lem p sane in
    let macros = sane.ranges name.gMacroPerCycle in
    let lo = slot_start_of p slot in
    let a = action_point_of p slot in
    let hi = slot_end_of p slot in
    let grid = grid_for p in
    let above : pos 0 <ℤ p.macros = omega (arith, ints, macros.0) in
    let until = ends_before p slot sane static in
    let acts = action_point_lt p slot sane some in
    let whole : hi ≡ a + after_action p = parts (slot_start_of p slot) (amount p name.gdStaticSlot) (amount p name.gdActionPointOffset) hi (slot_length slot (amount p name.gdStaticSlot) some) uncut.after in
    let front = room p row is_odd lo a (amount p name.gdActionPointOffset) sane rate least refl (sooner a hi p.correction acts until) uncut.before_action in
    let back = room p row is_odd a hi (after_action p) sane rate least whole until uncut.after_action in
    let need = reach +ℤ pos (amount p name.xDelayError) in
    let need_after = reach +ℤ pos (widest p * nominal) +ℤ pos (amount p name.xDelayError) in
    let before = fits p.macros need (instant_of grid row is_odd (pos a) -ℤ instant_of grid row is_odd (pos lo)) (pos (left_of 4 p)) above leaves.before front in
    let after = fits_below p.macros need_after (instant_of grid row is_odd (pos hi) -ℤ instant_of grid row is_odd (pos a)) (pos (left_of 5 p)) above leaves.after back in
    let range = delay_range p ch delay sane delayed in
    within_slot (instant_of grid row is_odd (pos lo)) (instant_of grid row is_odd (pos a)) (instant_of grid row is_odd (pos hi)) (instant_of grid sender is_odd (pos a)) reach delay (amount p name.xDelayError) (widest p * nominal)
    before after near.low near.high range.0 range.1
  where
    parts : (start length action hi : ℕ) → start + length ≡ hi → action ≤ length → hi ≡ (start + action) + (length - action)
    parts start length action hi e le = omega arith

    sooner : (a hi : ℕ) (o : ℤ) → a < hi → pos hi ≤ℤ o → pos a ≤ℤ o
    sooner a hi o less le = omega (arith, ints)

    within_slot : (x_lo x_a x_hi y reach delay : ℤ) (e w : ℕ) → (reach +ℤ pos e) ≤ℤ (x_a -ℤ x_lo) → (reach +ℤ pos w +ℤ pos e) <ℤ (x_hi -ℤ x_a)
        → neg_ℤ reach ≤ℤ (y -ℤ x_a) → (y -ℤ x_a) ≤ℤ reach → neg_ℤ (pos e) ≤ℤ delay → delay ≤ℤ (pos w +ℤ pos e)
        → (x_lo ≤ℤ (y +ℤ delay)) × ((y +ℤ delay) <ℤ x_hi)
    within_slot x_lo x_a x_hi y reach delay e w a b c d f g = (omega (arith, ints), omega (arith, ints))
