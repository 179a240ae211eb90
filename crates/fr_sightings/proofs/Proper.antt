-- What is judged, and what is a sighting, is of a correct node in its key slot; a sighting is of no double cycle before that of
-- the last one.
use Rattle.std.proofs.Common.{◌≡◌, ℕ, suc, ◌+◌, ◌*◌, ◌%◌, ◌<◌, ◌≤◌, Bool, true, false, Option, Some, None, ℤ, pos, negsuc, refl, ap, sym, subst, ◌∙◌, arith}
use Rattle.std.specs.Prelude.{◌&&◌, not, IfSome, nat_abs, nat_le, int_le, ◌≤ℤ◌, ◌+ℤ◌, ◌-ℤ◌, ◌*ℤ◌, if◌then◌else◌}
use Rattle.std.proofs.lemmas.Int.{ints}
use Rattle.fr_cluster.specs.Questions.{has_channel, node_of}
use Rattle.fr_cluster.specs.Sane.{IsSane}
use Rattle.fr_cluster.specs.Values.{Values, amount, figure}
use Rattle.fr_cluster.specs.declared.names.ParamName.TheVariants as name
use Rattle.fr_frame.specs.declared.header.Header.{Header}
use Rattle.fr_time.specs.Cycles.{cycle_count, double_cycle_of}
use Rattle.fr_time.specs.Position.{floor_of}
use Rattle.fr_time.specs.declared.senders.Sending.{Sending}
use Rattle.fr_reception.specs.Regular.{is_sync_frame, regular_header}
use Rattle.fr_log.specs.View.{LogView, IsEntry, is_arbitrary_in}
use Rattle.fr_log.specs.declared.entry.Entry.{Entry}
use Rattle.fr_sightings.specs.Judging.{IsIrregular, IsJudged, has_form_of, is_regular_of, judged_as, judgement_by, judgement_of, judgement_with, static_sending, whole_header}
use Rattle.fr_sightings.specs.Sightings.{IsSighting, fate_by, fate_of, is_behind_silence, is_in_time, keeps_order, number_behind, fate_irregular, fate_judged, fate_behind, sighting_with}
use Rattle.fr_sightings.specs.declared.judging.Judged.{Judged}
use Rattle.fr_sightings.specs.declared.judging.Judgement.{Judgement}
use Rattle.fr_sightings.specs.declared.judging.Judgement.TheVariants as judgement
use Rattle.fr_sightings.specs.declared.sighting.Fate.{Fate}
use Rattle.fr_sightings.specs.declared.sighting.Fate.TheVariants as fate
use Rattle.fr_sightings.specs.declared.sighting.Sighting.{Sighting}
use Rattle.fr_sightings.proofs.Headers.{IsProperHeader, whole_is_proper}
use Rattle.fr_sightings.proofs.Senders.{IsStatic, static_is, sync_is_own}

-- both of two tests pass
pub both : (a b : Bool) → (a && b) ≡ true → (a ≡ true) × (b ≡ true)
both true b is = (refl, is)
both false b is = absurd (cc is)

-- ---- what is judged

-- what a frame in the slot of a node is, by three questions
abbrev pub judgement_as : Bool → Bool → Bool → Judged → Judgement
judgement_as arbitrary passes sync judged =
    if arbitrary then judgement.Arbitrary
    else if not passes then judgement.Irregular judged
    else if sync then judgement.Regular judged
    else judgement.Other

module _ (p : Values) (l : LogView) (e : Entry) (judged : Judged) (sane : IsSane p) (entry : IsEntry l.unit e) where
  judged_sent : (header : Header) (sending : Sending) → IsProperHeader header → IsStatic p header sending
      → judgement_by p l e header (Some sending) ≡ judgement.Regular judged → IsJudged p l judged
  judged_sent header sending proper static is =
      by (is_arbitrary_in l sending.node) refl (is_regular_of p e.channel header sending) refl (is_sync_frame sending.kind) refl is
    where
      regular : is_arbitrary_in l sending.node ≡ false → is_regular_of p e.channel header sending ≡ true → is_sync_frame sending.kind ≡ true
          → IsJudged p l (judged_as e header sending)
      regular correct passes sync =
          let first = both (has_channel (node_of p sending.node) e.channel) (has_form_of (regular_header p sending header.id header.cycle) header) passes in
          record {
            count = proper.count;
            own = sync_is_own p header.id header.cycle sending sane static.sends sync;
            static = static.slot;
            correct = correct;
            on_channel = first.0;
            stamp = entry.stamp;
          }

      same : (one : Judged) → judgement.Regular one ≡ judgement.Regular judged → one ≡ judged
      same one is = cc is

      by : (arbitrary : Bool) → is_arbitrary_in l sending.node ≡ arbitrary → (passes : Bool) → is_regular_of p e.channel header sending ≡ passes
          → (sync : Bool) → is_sync_frame sending.kind ≡ sync
          → judgement_as arbitrary passes sync (judged_as e header sending) ≡ judgement.Regular judged → IsJudged p l judged
      by true at passes is_passes sync is_sync is = absurd (cc is)
      by false at false is_passes sync is_sync is = absurd (cc is)
      by false at true is_passes false is_sync is = absurd (cc is)
      by false at true is_passes true is_sync is = subst (IsJudged p l) (same (judged_as e header sending) is) (regular at is_passes is_sync)

  judged_whole : (header : Header) (sending : Option Sending) → static_sending p header ≡ sending → IsProperHeader header
      → judgement_by p l e header sending ≡ judgement.Regular judged → IsJudged p l judged
  judged_whole header None at proper is = absurd (cc is)
  judged_whole header (Some sending) at proper is = judged_sent header sending proper (static_is p header sending at) is

  judged_entry : (header : Option Header) → whole_header e.kind e.channel e.bytes ≡ header
      → judgement_with p l e header ≡ judgement.Regular judged → IsJudged p l judged
  judged_entry None at is = absurd (cc is)
  judged_entry (Some header) at is =
      judged_whole header (static_sending p header) refl (whole_is_proper e.kind e.channel e.bytes header at) is

pub judged_is_proper : (p : Values) (l : LogView) (e : Entry) (judged : Judged) → IsSane p → IsEntry l.unit e
    → judgement_of p l e ≡ judgement.Regular judged → IsJudged p l judged
unfolding judgement_of
judged_is_proper p l e judged sane entry is = judged_entry p l e judged sane entry (whole_header e.kind e.channel e.bytes) refl is

-- ---- what is irregular

least_few : (n : ℤ) → pos 1 ≤ℤ n → n ≤ℤ pos 1023 → nat_abs n ≤ 1023
least_few (pos n) from to = omega (arith, ints, to)
least_few (negsuc n) from to = absurd (omega (arith, ints, from))

few_static : (p : Values) → IsSane p → amount p name.gNumberOfStaticSlots ≤ 1023
few_static p sane =
    let range = sane.ranges name.gNumberOfStaticSlots in
    least_few (figure p name.gNumberOfStaticSlots) range.0 range.1

module _ (p : Values) (l : LogView) (e : Entry) (judged : Judged) (sane : IsSane p) (entry : IsEntry l.unit e) where
  irregular_sent : (header : Header) (sending : Sending) → IsStatic p header sending
      → judgement_by p l e header (Some sending) ≡ judgement.Irregular judged → IsIrregular l judged
  irregular_sent header sending static is =
      by (is_arbitrary_in l sending.node) refl (is_regular_of p e.channel header sending) (is_sync_frame sending.kind) is
    where
      irregular : is_arbitrary_in l sending.node ≡ false → IsIrregular l (judged_as e header sending)
      irregular correct = record { correct = correct; slot = omega (arith, static.slot, few_static p sane); stamp = entry.stamp }

      same : (one : Judged) → judgement.Irregular one ≡ judgement.Irregular judged → one ≡ judged
      same one is = cc is

      by : (arbitrary : Bool) → is_arbitrary_in l sending.node ≡ arbitrary → (passes sync : Bool)
          → judgement_as arbitrary passes sync (judged_as e header sending) ≡ judgement.Irregular judged → IsIrregular l judged
      by true at passes sync is = absurd (cc is)
      by false at false sync is = subst (IsIrregular l) (same (judged_as e header sending) is) (irregular at)
      by false at true false is = absurd (cc is)
      by false at true true is = absurd (cc is)

  irregular_whole : (header : Header) (sending : Option Sending) → static_sending p header ≡ sending
      → judgement_by p l e header sending ≡ judgement.Irregular judged → IsIrregular l judged
  irregular_whole header None at is = absurd (cc is)
  irregular_whole header (Some sending) at is = irregular_sent header sending (static_is p header sending at) is

  irregular_entry : (header : Option Header) → judgement_with p l e header ≡ judgement.Irregular judged → IsIrregular l judged
  irregular_entry None is = absurd (cc is)
  irregular_entry (Some header) is = irregular_whole header (static_sending p header) refl is

pub irregular_is_proper : (p : Values) (l : LogView) (e : Entry) (judged : Judged) → IsSane p → IsEntry l.unit e
    → judgement_of p l e ≡ judgement.Irregular judged → IsIrregular l judged
unfolding judgement_of
irregular_is_proper p l e judged sane entry is = irregular_entry p l e judged sane entry (whole_header e.kind e.channel e.bytes) is

-- ---- what is a sighting

-- a number with a count, so many times 64 behind it, has it
turned : (count : ℕ) (turns number : ℤ) → count ≤ 63 → number ≡ pos count +ℤ (pos 64 *ℤ turns) → pos 0 ≤ℤ number → count ≡ nat_abs number % 64
turned count (pos turns) number few is from =
    let n : nat_abs number ≡ count + 64 * turns = ap nat_abs is in
    rw n (omega arith)
turned count (negsuc turns) number few is from = absurd (omega (arith, ints))

-- a sighting, behind the last one
pub record Follows (p : Values) (l : LogView) (last : Option Sighting) (sighting : Sighting) : Type 0 where
  pub proper : IsSighting p l sighting
  pub later : IfSome last (λ before. double_cycle_of before.number ≤ double_cycle_of sighting.number)

module _ (p : Values) (l : LogView) (sighting : Sighting) (judged : Judged) (is_judged : IsJudged p l judged) where
  sighted : (number : ℕ) → number ≤ 199_999 → judged.count ≡ cycle_count number → IsSighting p l (sighting_with number judged)
  sighted number few count =
      record {
        number = few;
        counted = count;
        own = is_judged.own;
        static = is_judged.static;
        correct = is_judged.correct;
        on_channel = is_judged.on_channel;
        stamp = is_judged.stamp;
      }

  same_sighting : (one : Sighting) → fate.Seen one ≡ fate.Seen sighting → one ≡ sighting
  same_sighting one is = cc is

  placed_first : fate_judged p l None judged ≡ fate.Seen sighting → Follows p l None sighting
  placed_first is =
      subst (Follows p l None) (same_sighting (sighting_with judged.count judged) is)
      (record { proper = sighted judged.count (omega (arith, is_judged.count)) (omega (arith, is_judged.count)); later = tt })

  placed_later : (last : Sighting) → fate_behind p l last judged ≡ fate.Seen sighting → Follows p l (Some last) sighting
  placed_later last is =
      by (is_behind_silence p l last judged) (is_in_time p l last judged) (keeps_order last (number_behind last judged)) refl is
    where
      number : ℤ
      number = number_behind last judged

      from_test : int_le (pos 0) number ≡ true → pos 0 ≤ℤ number
      from_test is = grind (arith, ints)

      few_test : int_le number (pos 199_999) ≡ true → pos 0 ≤ℤ number → nat_abs number ≤ 199_999
      few_test is from = of number is from
        where
          of : (n : ℤ) → int_le n (pos 199_999) ≡ true → pos 0 ≤ℤ n → nat_abs n ≤ 199_999
          of (pos n) is from = grind (arith, ints)
          of (negsuc n) is from = absurd (omega (arith, ints))

      later_test : (a b : ℕ) → nat_le a b ≡ true → a ≤ b
      later_test a b is = grind arith

      follows : keeps_order last number ≡ true → Follows p l (Some last) (sighting_with (nat_abs number) judged)
      follows passes =
          let first = both (int_le (pos 0) number && int_le number (pos 199_999)) (nat_le (double_cycle_of last.number) (double_cycle_of (nat_abs number))) passes in
          let second = both (int_le (pos 0) number) (int_le number (pos 199_999)) first.0 in
          let from = from_test second.0 in
          record {
            proper =
                sighted (nat_abs number) (few_test second.1 from)
                (turned judged.count (floor_of ((pos last.number +ℤ pos 31) -ℤ pos judged.count) (pos 64)) number is_judged.count refl from);
            later = later_test (double_cycle_of last.number) (double_cycle_of (nat_abs number)) first.1;
          }

      by : (behind timely orders : Bool) → keeps_order last number ≡ orders
          → (
          if behind then fate.Behind
          else (
          if timely then (if orders then fate.Seen (sighting_with (nat_abs number) judged) else fate.Stray)
          else fate.Untimely (sighting_with last.number judged)
          )
          )
          ≡ fate.Seen sighting
          → Follows p l (Some last) sighting
      by true timely orders at is = absurd (cc is)
      by false false orders at is = absurd (cc is)
      by false true false at is = absurd (cc is)
      by false true true at is = subst (Follows p l (Some last)) (same_sighting (sighting_with (nat_abs number) judged) is) (follows at)

  fate_judged_follows : (last : Option Sighting) → fate_judged p l last judged ≡ fate.Seen sighting → Follows p l last sighting
  fate_judged_follows None is = placed_first is
  fate_judged_follows (Some last) is = placed_later last is

irregular_unseen : (p : Values) (l : LogView) (last : Option Sighting) (judged : Judged) (sighting : Sighting)
    → fate_irregular p l last judged ≡ fate.Seen sighting → ⊥
irregular_unseen p l None judged sighting is = cc is
irregular_unseen p l (Some last) judged sighting is = by (is_behind_silence p l last judged) is
  where
    by : (behind : Bool) → (if behind then fate.Behind else fate.Irregular (sighting_with last.number judged)) ≡ fate.Seen sighting → ⊥
    by true is = cc is
    by false is = cc is

fate_follows : (p : Values) (l : LogView) (last : Option Sighting) (sighting : Sighting) (found : Judgement)
    → ((judged : Judged) → found ≡ judgement.Regular judged → IsJudged p l judged) → fate_by p l last found ≡ fate.Seen sighting → Follows p l last sighting
fate_follows p l last sighting judgement.Damaged proper is = absurd (cc is)
fate_follows p l last sighting judgement.Arbitrary proper is = absurd (cc is)
fate_follows p l last sighting judgement.Other proper is = absurd (cc is)
fate_follows p l last sighting (judgement.Irregular judged) proper is = absurd (irregular_unseen p l last judged sighting is)
fate_follows p l last sighting (judgement.Regular judged) proper is = fate_judged_follows p l sighting judged (proper judged refl) last is

pub seen_follows : (p : Values) (l : LogView) (last : Option Sighting) (e : Entry) (sighting : Sighting) → IsSane p → IsEntry l.unit e
    → fate_of p l last e ≡ fate.Seen sighting → Follows p l last sighting
unfolding fate_of
seen_follows p l last e sighting sane entry is =
    fate_follows p l last sighting (judgement_of p l e) (λ judged at. judged_is_proper p l e judged sane entry at) is
