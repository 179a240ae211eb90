-- The sharper laws of offsets, over rows.
use Rattle.std.proofs.Common.{◌≡◌, ◌⊎◌, ℕ, ◌+◌, ◌*◌, ◌≤◌, Bool, true, false, ◌||◌, if◌then◌else◌, ℤ, pos, List, [], length, All, inl, inr, refl, ap, sym, ◌∙◌, arith}
use Rattle.std.specs.Prelude.{neg_ℤ, ◌+ℤ◌, ◌-ℤ◌, ◌*ℤ◌, ◌≤ℤ◌, ◌<ℤ◌, int_lt}
use Rattle.std.proofs.lemmas.Int.{ints}
use Rattle.std.proofs.lemmas.Slice.Zip.{AllZip-long}
use Rattle.fr_base.specs.declared.node_row.NodeRow.{NodeRow}
use Rattle.fr_base.specs.declared.Outcome.TheVariants.{Exceeded, Within}
use Rattle.fr_base.specs.Within.{IsBetween, IsWithin}
use Rattle.fr_cluster.specs.Values.{Values}
use Rattle.fr_cluster.specs.Sane.{IsSane}
use Rattle.fr_midpoint.specs.Midpoint.{IsMidpoint}
use Rattle.fr_midpoint.specs.Receivers.{place_at, Receiver}
use Rattle.fr_midpoint.specs.Said.{lies_after, AllLieNear, KeepsSaid, SameLieNear}
use Rattle.fr_midpoint.proofs.SaidLemmas.{one_between_lem, two_alone_lem, two_apart_lem}
use Rattle.fr_midpoint.proofs.Zips.{zip_all, zip_both, zip_said}
use Rattle.fr_correct.specs.declared.term.Term.{Term}
use Rattle.fr_correct.specs.Terms.{limited, missing_term, term_of}
use Rattle.fr_time.specs.Position.{grid_for}
use Rattle.fr_time.specs.Instant.{instant_of}
use Rattle.fr_time.proofs.Lines.{lines_end, OnLine}
use Rattle.fr_time.proofs.Placing.{is_grid_lem}
use Rattle.fr_bound.specs.Bounds.{arrival_error, longest_micro}
use Rattle.fr_bound.specs.Sync.{cycle_length_of}
use Rattle.fr_precision.specs.Rows.{corrected_end_of, end_of, Sender}
use Rattle.fr_precision.specs.Offsets.{IsDeviation, IsOffsetRound, IsSending}
use Rattle.fr_precision.proofs.InstantLaws.{early_on_line, odd_start_is}
use Rattle.fr_precision.proofs.OffsetLaws.{micro_lasts, offset_terms_are_uncut, corrected_place}
use Rattle.fr_precision.proofs.Senders.{heard_all, All-along}
use Rattle.fr_precision.specs.Ends.{CorrectedEndIsNear, EndsComeNear, SendApart, TakesOffsets}
use Rattle.fr_precision.specs.Among.{EndsComeAmong}
use Rattle.fr_precision.proofs.AmongReceivers.{two_among}
use Rattle.fr_precision.proofs.Tails.{tail_near_end, tails_near}

-- ---- one receiver

-- the receiver of offset values that an odd row is
abbrev pub ends_at : Values → NodeRow → List ℤ → Receiver
ends_at p row values = record { base = end_of p row; unit = row.length; values = values }

keeps_said : (p : Values) (senders : List Sender) (row : NodeRow) (values : List ℤ) (term : Term) → IsSane p → (round : IsOffsetRound p senders row values term)
    → KeepsSaid round.hears.said (ends_at p row values)
keeps_said p senders row values term sane round = record {
  lasts = (micro_lasts p row sane round.micro).some;
  further = round.hears.further;
  parts = round.hears.parts;
  few = round.hears.few;
}

-- a term within the limit is the number before cutting
limited_by : (limit mid : ℤ) (a b : Bool) → (if a || b then Exceeded else Within) ≡ Within → (if a then limit else (if b then neg_ℤ limit else mid)) ≡ mid
limited_by limit mid false false is = refl
limited_by limit mid false true is = absurd (cc)
limited_by limit mid true b is = absurd (cc)

limited_is : (limit mid : ℤ) → (term_of limit mid).outcome ≡ Within → limited limit mid ≡ mid
limited_is limit mid is = limited_by limit mid (int_lt limit mid) (int_lt mid (neg_ℤ limit)) is

-- the midpoint of the offset values, and where the corrected end lies by it
pub record Corrected (p : Values) (row : NodeRow) (values : List ℤ) : Type 0 where
  pub mid : ℤ
  pub middle : IsMidpoint values mid
  pub is : corrected_end_of p row ≡ place_at (ends_at p row values) mid

pub corrected : (p : Values) (senders : List Sender) (reach odds : ℤ) (row : NodeRow) (values : List ℤ) (term : Term) → IsSane p → 1 ≤ length senders
    → TakesOffsets p senders reach odds row values term → Corrected p row values
corrected p senders reach odds row values term sane some takes =
    by_term takes.round.is_term (offset_terms_are_uncut p senders reach row values term sane takes.suffices some takes.reached takes.round)
  where
    by_term : ((values ≡ []) × (term ≡ missing_term (pos 0))) ⊎ ((mid : ℤ) × IsMidpoint values mid × (term ≡ term_of p.offset_limit mid)) → term.outcome ≡ Within → Corrected p row values
    by_term (inl (none, is)) uncut =
        let heard = heard_all (λ (sender : Sender) value. IsDeviation p true sender.action row sender.odd value) senders values takes.round.hears in
        absurd (omega (arith, heard, some, ap length none))
    by_term (inr (mid, middle, is)) uncut =
        let outcome : (term_of p.offset_limit mid).outcome ≡ Within = ap (λ (t : Term). t.outcome) (sym is) ∙ uncut in
        record {
          mid = mid;
          middle = middle;
          is = corrected_place p row values mid (takes.round.applied ∙ ap (λ (t : Term). t.value) is ∙ limited_is p.offset_limit mid outcome);
        }

-- ---- two receivers

-- the sender's way to its action point, and the receiver's
line_of : (p : Values) (senders : List Sender) (row : NodeRow) (values : List ℤ) (term : Term) (sender : Sender) → IsSane p → IsOffsetRound p senders row values term → IsSending p sender
    → OnLine row.start (cycle_length_of p row) row.length sender.action p.macros (pos (longest_micro p)) (instant_of (grid_for p) row true sender.action)
line_of p senders row values term sender sane round sends = early_on_line p row sender.action sane (micro_lasts p row sane round.micro) sends.acts_to

some_macros : (o g : ℤ) → pos 1 ≤ℤ o → o <ℤ g → pos 0 <ℤ g
some_macros o g a b = omega (arith, ints)

no_less : (n : ℕ) → pos 0 ≤ℤ pos n
no_less n = omega (arith, ints)

in_cycle : (m o g : ℤ) → m ≤ℤ o → o <ℤ g → m ≤ℤ g
in_cycle m o g a b = omega (arith, ints)

same_sum : (odds end other_end at other_at act v v' t t' : ℤ) (e q : ℕ)
    → IsWithin (odds +ℤ pos q) ((end -ℤ at) -ℤ (other_end -ℤ other_at))
    → ((act -ℤ at) -ℤ (pos e +ℤ t)) <ℤ v → v ≤ℤ ((act -ℤ at) +ℤ pos e) → ((act -ℤ other_at) -ℤ (pos e +ℤ t')) <ℤ v' → v' ≤ℤ ((act -ℤ other_at) +ℤ pos e) → t ≤ℤ pos q → t' ≤ℤ pos q
    → IsWithin (odds +ℤ pos (2 * e + 2 * q)) ((end +ℤ v) -ℤ (other_end +ℤ v'))
same_sum odds end other_end at other_at act v v' t t' e q near a b c d f g = record {
  low = omega (arith, ints, near.low);
  high = omega (arith, ints, near.high);
}

cross_sum : (starts evens odds end other_end at other_at act other_act v v' t t' : ℤ) (e q : ℕ)
    → IsWithin (((starts +ℤ evens) +ℤ odds) +ℤ (pos q +ℤ pos q)) (((end -ℤ at) +ℤ act) -ℤ ((other_end -ℤ other_at) +ℤ other_act))
    → ((act -ℤ at) -ℤ (pos e +ℤ t)) <ℤ v → v ≤ℤ ((act -ℤ at) +ℤ pos e) → ((other_act -ℤ other_at) -ℤ (pos e +ℤ t')) <ℤ v' → v' ≤ℤ ((other_act -ℤ other_at) +ℤ pos e) → t ≤ℤ pos q → t' ≤ℤ pos q
    → IsWithin (((starts +ℤ evens) +ℤ odds) +ℤ pos (2 * e + 3 * q)) ((end +ℤ v) -ℤ (other_end +ℤ v'))
cross_sum starts evens odds end other_end at other_at act other_act v v' t t' e q near a b c d f g = record {
  low = omega (arith, ints, near.low);
  high = omega (arith, ints, near.high);
}

turned : (bound x y : ℤ) → IsWithin bound (x -ℤ y) → IsWithin bound (y -ℤ x)
turned bound x y near = record { low = omega (arith, ints, near.high); high = omega (arith, ints, near.low) }

-- two senders, and how near they are to each other and to both receivers
pub record Senders (p : Values) (starts evens odds : ℤ) (row other_row : NodeRow) (one other : Sender) : Type 0 where
  sends : IsSending p one
  other_sends : IsSending p other
  start : IsWithin (starts +ℤ evens) (one.odd.start -ℤ other.odd.start)
  odd : IsWithin odds (cycle_length_of p one.odd -ℤ cycle_length_of p other.odd)
  from_row : IsWithin odds (cycle_length_of p row -ℤ cycle_length_of p other.odd)
  to_other : IsWithin odds (cycle_length_of p one.odd -ℤ cycle_length_of p other_row)

-- the values of one sender, and of any two, of two receivers with senders of their own
pub same_value : (p : Values) (senders other_senders : List Sender) (odds : ℤ) (row other_row : NodeRow) (values other_values : List ℤ) (term other_term : Term) (sender : Sender) (v u : ℤ)
    → IsSane p → IsOffsetRound p senders row values term → IsOffsetRound p other_senders other_row other_values other_term
    → IsWithin odds (cycle_length_of p row -ℤ cycle_length_of p other_row) → IsSending p sender
    → IsDeviation p true sender.action row sender.odd v → IsDeviation p true sender.action other_row sender.odd u
    → IsWithin (odds +ℤ pos (2 * arrival_error p + 2 * longest_micro p)) (lies_after (ends_at p row values) (ends_at p other_row other_values) v u)
same_value p senders other_senders odds row other_row values other_values term other_term sender v u sane round other_round near sends dev other_dev =
    let grid = is_grid_lem p sane in
    same_sum odds (end_of p row) (end_of p other_row) (instant_of (grid_for p) row true sender.action) (instant_of (grid_for p) other_row true sender.action) (instant_of (grid_for p) sender.odd true sender.action)
    (v *ℤ row.length) (u *ℤ other_row.length) row.length other_row.length (arrival_error p) (longest_micro p)
    (
    lines_end row.start other_row.start (cycle_length_of p row) (cycle_length_of p other_row) row.length other_row.length sender.action p.macros (pos (longest_micro p))
    (instant_of (grid_for p) row true sender.action) (instant_of (grid_for p) other_row true sender.action) odds
    (line_of p senders row values term sender sane round sends) (line_of p other_senders other_row other_values other_term sender sane other_round sends)
    (some_macros p.correction p.macros grid.correction_from grid.correction_to) (no_less (longest_micro p)) sends.acts_from (in_cycle sender.action p.correction p.macros sends.acts_to grid.correction_to) near
    )
    dev.low dev.high other_dev.low other_dev.high round.micro.most other_round.micro.most

-- the values of any two
pub cross_value : (p : Values) (senders other_senders : List Sender) (starts evens odds : ℤ) (row other_row : NodeRow) (values other_values : List ℤ) (term other_term : Term) (one other : Sender) (v u : ℤ)
    → IsSane p → IsOffsetRound p senders row values term → IsOffsetRound p other_senders other_row other_values other_term
    → IsWithin odds (cycle_length_of p row -ℤ cycle_length_of p other_row) → Senders p starts evens odds row other_row one other
    → IsDeviation p true one.action row one.odd v → IsDeviation p true other.action other_row other.odd u
    → IsWithin (((starts +ℤ evens) +ℤ odds) +ℤ pos (2 * arrival_error p + 3 * longest_micro p)) (lies_after (ends_at p row values) (ends_at p other_row other_values) v u)
cross_value p senders other_senders starts evens odds row other_row values other_values term other_term one other v u sane round other_round near both dev other_dev =
    let grid = is_grid_lem p sane in
    cross_sum starts evens odds (end_of p row) (end_of p other_row) (instant_of (grid_for p) row true one.action) (instant_of (grid_for p) other_row true other.action)
    (instant_of (grid_for p) one.odd true one.action) (instant_of (grid_for p) other.odd true other.action)
    (v *ℤ row.length) (u *ℤ other_row.length) row.length other_row.length (arrival_error p) (longest_micro p)
    (
    tails_near row.start (cycle_length_of p row) row.length one.odd.start (cycle_length_of p one.odd) one.odd.length one.action (instant_of (grid_for p) row true one.action) (instant_of (grid_for p) one.odd true one.action)
    other_row.start (cycle_length_of p other_row) other_row.length other.odd.start (cycle_length_of p other.odd) other.odd.length other.action (instant_of (grid_for p) other_row true other.action) (instant_of (grid_for p) other.odd true other.action)
    p.macros (pos (longest_micro p)) (starts +ℤ evens) odds
    (line_of p senders row values term one sane round both.sends) (early_on_line p one.odd one.action sane both.sends.lasts both.sends.acts_to)
    (line_of p other_senders other_row other_values other_term other sane other_round both.other_sends) (early_on_line p other.odd other.action sane both.other_sends.lasts both.other_sends.acts_to)
    (some_macros p.correction p.macros grid.correction_from grid.correction_to) (no_less (longest_micro p))
    both.sends.acts_from (in_cycle one.action p.correction p.macros both.sends.acts_to grid.correction_to)
    both.other_sends.acts_from (in_cycle other.action p.correction p.macros both.other_sends.acts_to grid.correction_to)
    both.start near both.to_other both.from_row both.odd
    )
    dev.low dev.high other_dev.low other_dev.high round.micro.most other_round.micro.most

odd_starts : (s l x y x' y' e e' : ℤ) → y ≡ x +ℤ e → y' ≡ x' +ℤ e' → IsWithin s (x -ℤ x') → IsWithin l (e -ℤ e') → IsWithin (s +ℤ l) (y -ℤ y')
odd_starts s l x y x' y' e e' a b c d = record { low = omega (arith, ints, c.low, d.low); high = omega (arith, ints, c.high, d.high) }

pub pair_of : (p : Values) (starts evens odds : ℤ) (row other_row : NodeRow) (one other : Sender) → IsSending p one → IsSending p other
    → IsWithin starts (one.even.start -ℤ other.even.start) → IsWithin evens (cycle_length_of p one.even -ℤ cycle_length_of p other.even) → IsWithin odds (cycle_length_of p one.odd -ℤ cycle_length_of p other.odd)
    → IsWithin odds (cycle_length_of p row -ℤ cycle_length_of p other.odd) → IsWithin odds (cycle_length_of p other_row -ℤ cycle_length_of p one.odd)
    → Senders p starts evens odds row other_row one other
pair_of p starts evens odds row other_row one other sends other_sends start even odd from to = record {
  sends = sends;
  other_sends = other_sends;
  start =
      odd_starts starts evens one.even.start one.odd.start other.even.start other.odd.start (cycle_length_of p one.even) (cycle_length_of p other.even)
      (odd_start_is p one.even one.odd sends.double) (odd_start_is p other.even other.odd other_sends.double) start even;
  odd = odd;
  from_row = from;
  to_other = turned odds (cycle_length_of p other_row) (cycle_length_of p one.odd) to;
}

module _
    (p : Values) (senders : List Sender) (starts evens odds reach other_reach : ℤ) (row other_row : NodeRow) (values other_values : List ℤ) (term other_term : Term)
    (sane : IsSane p) (send : SendApart p starts evens odds senders)
    (takes : TakesOffsets p senders reach odds row values term) (also : TakesOffsets p senders other_reach odds other_row other_values other_term)
    (near : IsWithin odds (cycle_length_of p row -ℤ cycle_length_of p other_row)) where
  same_near :
      SameLieNear (ends_at p row values) (ends_at p other_row other_values) (odds +ℤ pos (2 * arrival_error p + 2 * longest_micro p)) takes.round.hears.said also.round.hears.said
  same_near =
      zip_both (IsSending p) (λ (sender : Sender) value. IsDeviation p true sender.action row sender.odd value) (λ (sender : Sender) value. IsDeviation p true sender.action other_row sender.odd value)
      (λ v u. IsWithin (odds +ℤ pos (2 * arrival_error p + 2 * longest_micro p)) (lies_after (ends_at p row values) (ends_at p other_row other_values) v u)) senders takes.round.hears.said also.round.hears.said
      (λ sender v u sends dev other_dev. same_value p senders senders odds row other_row values other_values term other_term sender v u sane takes.round also.round near sends dev other_dev)
      send.sending takes.round.hears.each also.round.hears.each

  pairs : All (λ one. All (Senders p starts evens odds row other_row one) senders) senders
  pairs i d short j e below =
      pair_of p starts evens odds row other_row _ _ (send.sending i d short) (send.sending j e below) (send.by_start i d short j e below) (send.by_even i d short j e below) (send.by_odd i d short j e below)
      (takes.near j e below) (also.near i d short)

  cross_near :
      AllLieNear (ends_at p row values) (ends_at p other_row other_values) (((starts +ℤ evens) +ℤ odds) +ℤ pos (2 * arrival_error p + 3 * longest_micro p)) takes.round.hears.said also.round.hears.said
  cross_near =
      zip_all (Senders p starts evens odds row other_row) (λ (sender : Sender) value. IsDeviation p true sender.action row sender.odd value)
      (λ (sender : Sender) value. IsDeviation p true sender.action other_row sender.odd value)
      (λ v u. IsWithin (((starts +ℤ evens) +ℤ odds) +ℤ pos (2 * arrival_error p + 3 * longest_micro p)) (lies_after (ends_at p row values) (ends_at p other_row other_values) v u)) senders takes.round.hears.said also.round.hears.said
      (λ one other v u both dev other_dev. cross_value p senders senders starts evens odds row other_row values other_values term other_term one other v u sane takes.round also.round near both dev other_dev)
      pairs takes.round.hears.each also.round.hears.each

pub alone_ends : (odds : ℤ) (e q : ℕ) (x x' y y' : ℤ) → x ≡ x' → y ≡ y' → IsWithin ((odds +ℤ pos (2 * e + 2 * q)) +ℤ pos q) (x' -ℤ y') → IsWithin (odds +ℤ pos (2 * e + 3 * q)) (x -ℤ y)
alone_ends odds e q x x' y y' a b within = record { low = omega (arith, ints, within.low); high = omega (arith, ints, within.high) }

pub beside_ends : (starts evens odds : ℤ) (e q : ℕ) (x x' y y' : ℤ) → x ≡ x' → y ≡ y'
    → IsWithin ((odds +ℤ pos (2 * e + 2 * q)) +ℤ (((starts +ℤ evens) +ℤ odds) +ℤ pos (2 * e + 3 * q)) +ℤ (pos 2 *ℤ pos q)) (pos 2 *ℤ (x' -ℤ y'))
    → IsWithin (starts +ℤ evens +ℤ (pos 2 *ℤ odds) +ℤ pos (4 * e + 7 * q)) (pos 2 *ℤ (x -ℤ y))
beside_ends starts evens odds e q x x' y y' a b within = record { low = omega (arith, ints, within.low); high = omega (arith, ints, within.high) }

pub ends_come_near_lem : EndsComeNear
ends_come_near_lem false p senders starts evens odds reach other_reach row other_row values other_values term other_term sane send takes also near keep =
    let one = corrected p senders reach odds row values term sane keep.0 takes in
    let other = corrected p senders other_reach odds other_row other_values other_term sane keep.0 also in
    let said = AllZip-long (λ (sender : Sender) value. IsDeviation p true sender.action row sender.odd value) senders takes.round.hears.said takes.round.hears.each in
    alone_ends odds (arrival_error p) (longest_micro p) (corrected_end_of p row) (place_at (ends_at p row values) one.mid) (corrected_end_of p other_row) (place_at (ends_at p other_row other_values) other.mid) one.is other.is
    (
    two_alone_lem takes.round.hears.said also.round.hears.said (odds +ℤ pos (2 * arrival_error p + 2 * longest_micro p)) (pos (longest_micro p)) (ends_at p row values) (ends_at p other_row other_values) one.mid other.mid
    (keeps_said p senders row values term sane takes.round) (keeps_said p senders other_row other_values other_term sane also.round) takes.round.micro.most also.round.micro.most
    (same_near p senders starts evens odds reach other_reach row other_row values other_values term other_term sane send takes also near)
    (keep.1 ∙ sym said) (keep.2 ∙ sym said) one.middle other.middle
    )
ends_come_near_lem true p senders starts evens odds reach other_reach row other_row values other_values term other_term sane send takes also near keep =
    let some : 1 ≤ length senders = omega (arith, keep) in
    let one = corrected p senders reach odds row values term sane some takes in
    let other = corrected p senders other_reach odds other_row other_values other_term sane some also in
    let said = AllZip-long (λ (sender : Sender) value. IsDeviation p true sender.action row sender.odd value) senders takes.round.hears.said takes.round.hears.each in
    beside_ends starts evens odds (arrival_error p) (longest_micro p) (corrected_end_of p row) (place_at (ends_at p row values) one.mid) (corrected_end_of p other_row) (place_at (ends_at p other_row other_values) other.mid) one.is other.is
    (
    two_apart_lem takes.round.hears.said also.round.hears.said (odds +ℤ pos (2 * arrival_error p + 2 * longest_micro p)) (((starts +ℤ evens) +ℤ odds) +ℤ pos (2 * arrival_error p + 3 * longest_micro p)) (pos (longest_micro p))
    (ends_at p row values) (ends_at p other_row other_values) one.mid other.mid
    (keeps_said p senders row values term sane takes.round) (keeps_said p senders other_row other_values other_term sane also.round) takes.round.micro.most also.round.micro.most
    (same_near p senders starts evens odds reach other_reach row other_row values other_values term other_term sane send takes also near)
    (cross_near p senders starts evens odds reach other_reach row other_row values other_values term other_term sane send takes also near)
    (omega (arith, keep, said)) one.middle other.middle
    )

-- ---- one receiver and a sender

end_value_sum : (starts evens odds end at act v t other_end : ℤ) (e q : ℕ)
    → IsWithin (((starts +ℤ evens) +ℤ odds) +ℤ pos q) (((end -ℤ at) +ℤ act) -ℤ other_end)
    → ((act -ℤ at) -ℤ (pos e +ℤ t)) <ℤ v → v ≤ℤ ((act -ℤ at) +ℤ pos e) → t ≤ℤ pos q
    → IsBetween (other_end -ℤ (((starts +ℤ evens) +ℤ odds) +ℤ pos (e + 2 * q))) (other_end +ℤ (((starts +ℤ evens) +ℤ odds) +ℤ pos (e + 2 * q))) (end +ℤ v)
end_value_sum starts evens odds end at act v t other_end e q near a b c = record { low = omega (arith, ints, near.low); high = omega (arith, ints, near.high) }

-- a sender and the one whose end is looked at
pub record Ending (p : Values) (starts evens odds : ℤ) (row : NodeRow) (reference sender : Sender) : Type 0 where
  sends : IsSending p sender
  start : IsWithin (starts +ℤ evens) (sender.odd.start -ℤ reference.odd.start)
  odd : IsWithin odds (cycle_length_of p sender.odd -ℤ cycle_length_of p reference.odd)
  from_row : IsWithin odds (cycle_length_of p row -ℤ cycle_length_of p reference.odd)

pub ending_of : (p : Values) (starts evens odds : ℤ) (row : NodeRow) (reference sender : Sender) → IsSending p reference → IsSending p sender
    → IsWithin starts (sender.even.start -ℤ reference.even.start) → IsWithin evens (cycle_length_of p sender.even -ℤ cycle_length_of p reference.even)
    → IsWithin odds (cycle_length_of p sender.odd -ℤ cycle_length_of p reference.odd) → IsWithin odds (cycle_length_of p row -ℤ cycle_length_of p reference.odd)
    → Ending p starts evens odds row reference sender
ending_of p starts evens odds row reference sender reference_sends sends start even odd from = record {
  sends = sends;
  start =
      odd_starts starts evens sender.even.start sender.odd.start reference.even.start reference.odd.start (cycle_length_of p sender.even) (cycle_length_of p reference.even)
      (odd_start_is p sender.even sender.odd sends.double) (odd_start_is p reference.even reference.odd reference_sends.double) start even;
  odd = odd;
  from_row = from;
}

end_value : (p : Values) (senders : List Sender) (starts evens odds : ℤ) (row : NodeRow) (values : List ℤ) (term : Term) (reference sender : Sender) (v : ℤ)
    → IsSane p → IsOffsetRound p senders row values term → Ending p starts evens odds row reference sender → IsDeviation p true sender.action row sender.odd v
    → IsBetween (end_of p reference.odd -ℤ (((starts +ℤ evens) +ℤ odds) +ℤ pos (arrival_error p + 2 * longest_micro p))) (end_of p reference.odd +ℤ (((starts +ℤ evens) +ℤ odds) +ℤ pos (arrival_error p + 2 * longest_micro p)))
    (place_at (ends_at p row values) v)
end_value p senders starts evens odds row values term reference sender v sane round ends dev =
    let grid = is_grid_lem p sane in
    let at = instant_of (grid_for p) row true sender.action in
    let act = instant_of (grid_for p) sender.odd true sender.action in
    end_value_sum starts evens odds (end_of p row) at act (v *ℤ row.length) row.length (end_of p reference.odd) (arrival_error p) (longest_micro p)
    (
    tail_near_end row.start (cycle_length_of p row) row.length sender.odd.start (cycle_length_of p sender.odd) sender.odd.length sender.action at act reference.odd.start (cycle_length_of p reference.odd)
    p.macros (pos (longest_micro p)) (starts +ℤ evens) odds
    (line_of p senders row values term sender sane round ends.sends) (early_on_line p sender.odd sender.action sane ends.sends.lasts ends.sends.acts_to)
    (some_macros p.correction p.macros grid.correction_from grid.correction_to) (no_less (longest_micro p))
    ends.sends.acts_from (in_cycle sender.action p.correction p.macros ends.sends.acts_to grid.correction_to) ends.start ends.from_row ends.odd
    )
    dev.low dev.high round.micro.most

pub end_is_near : (p : Values) (senders : List Sender) (starts evens odds reach : ℤ) (row : NodeRow) (values : List ℤ) (term : Term) → IsSane p → 1 ≤ length senders
    → TakesOffsets p senders reach odds row values term → (reference : Sender) → All (Ending p starts evens odds row reference) senders
    → IsWithin (starts +ℤ evens +ℤ odds +ℤ pos (arrival_error p + 2 * longest_micro p)) (corrected_end_of p row -ℤ end_of p reference.odd)
end_is_near p senders starts evens odds reach row values term sane some takes reference all =
    let bound = ((starts +ℤ evens) +ℤ odds) +ℤ pos (arrival_error p + 2 * longest_micro p) in
    let one = corrected p senders reach odds row values term sane some takes in
    let among =
    one_between_lem takes.round.hears.said (end_of p reference.odd -ℤ bound) (end_of p reference.odd +ℤ bound) (ends_at p row values) one.mid (keeps_said p senders row values term sane takes.round)
    (
    zip_said (Ending p starts evens odds row reference) (λ (sender : Sender) value. IsDeviation p true sender.action row sender.odd value)
    (λ v. IsBetween (end_of p reference.odd -ℤ bound) (end_of p reference.odd +ℤ bound) (place_at (ends_at p row values) v)) senders takes.round.hears.said
    (λ sender v ends dev. end_value p senders starts evens odds row values term reference sender v sane takes.round ends dev) all takes.round.hears.each
    )
    one.middle in
    back bound (corrected_end_of p row) (place_at (ends_at p row values) one.mid) (end_of p reference.odd) one.is among
  where
    back : (bound x y end : ℤ) → x ≡ y → IsBetween (end -ℤ bound) (end +ℤ bound) y → IsWithin bound (x -ℤ end)
    back bound x y end is between = record { low = omega (arith, ints, between.low); high = omega (arith, ints, between.high) }

pub corrected_end_is_near : CorrectedEndIsNear
corrected_end_is_near p senders starts evens odds reach row values term sane some send takes =
    let endings : All (λ reference. All (Ending p starts evens odds row reference) senders) senders =
    λ i d short j e below.
    ending_of p starts evens odds row _ _ (send.sending i d short) (send.sending j e below) (send.by_start j e below i d short) (send.by_even j e below i d short) (send.by_odd j e below i d short) (takes.near i d short) in
    All-along (λ (reference : Sender). All (Ending p starts evens odds row reference) senders)
    (λ (reference : Sender). IsWithin (starts +ℤ evens +ℤ odds +ℤ pos (arrival_error p + 2 * longest_micro p)) (corrected_end_of p row -ℤ end_of p reference.odd)) senders
    (λ reference all. end_is_near p senders starts evens odds reach row values term sane some takes reference all) endings

-- ---- two receivers, whichever senders each of them has heard

among_ends : (bound x x' y y' : ℤ) → x ≡ x' → y ≡ y' → IsWithin bound (x' -ℤ y') → IsWithin bound (x -ℤ y)
among_ends bound x x' y y' a b within = record { low = omega (arith, ints, within.low); high = omega (arith, ints, within.high) }

pub ends_come_among_lem : EndsComeAmong
ends_come_among_lem p senders other_senders starts evens odds reach other_reach row other_row values other_values term other_term sane some other_some sends other_sends by_start by_even by_odd takes also from to near =
    let bound = ((starts +ℤ evens) +ℤ odds) +ℤ pos (2 * arrival_error p + 3 * longest_micro p) in
    let one = corrected p senders reach odds row values term sane some takes in
    let other = corrected p other_senders other_reach odds other_row other_values other_term sane other_some also in
    let pairs : All (λ (x : Sender). All (Senders p starts evens odds row other_row x) other_senders) senders =
    λ i d short j e below.
    pair_of p starts evens odds row other_row _ _ (sends i d short) (other_sends j e below) (by_start i d short j e below) (by_even i d short j e below) (by_odd i d short j e below) (from j e below) (to i d short) in
    among_ends bound (corrected_end_of p row) (place_at (ends_at p row values) one.mid) (corrected_end_of p other_row) (place_at (ends_at p other_row other_values) other.mid) one.is other.is
    (
    two_among takes.round.hears.said also.round.hears.said bound (ends_at p row values) (ends_at p other_row other_values) one.mid other.mid
    (keeps_said p senders row values term sane takes.round) (keeps_said p other_senders other_row other_values other_term sane also.round)
    (
    zip_said (λ (x : Sender). All (Senders p starts evens odds row other_row x) other_senders) (λ (sender : Sender) value. IsDeviation p true sender.action row sender.odd value)
    (λ v. All (λ u. IsWithin bound (lies_after (ends_at p row values) (ends_at p other_row other_values) v u)) also.round.hears.said) senders takes.round.hears.said
    (λ x v all dev.
    zip_said (Senders p starts evens odds row other_row x) (λ (sender : Sender) value. IsDeviation p true sender.action other_row sender.odd value)
    (λ u. IsWithin bound (lies_after (ends_at p row values) (ends_at p other_row other_values) v u)) other_senders also.round.hears.said
    (λ y u both other_dev. cross_value p senders other_senders starts evens odds row other_row values other_values term other_term x y v u sane takes.round also.round near both dev other_dev)
    all also.round.hears.each)
    pairs takes.round.hears.each
    )
    one.middle other.middle
    )
