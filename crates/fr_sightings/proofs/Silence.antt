-- Behind a silence nothing is numbered any more.
use Rattle.std.proofs.Common.{◌≡◌, ℕ, ◌≤◌, Bool, true, false, Option, Some, None, ℤ, pos, refl, ap, sym, ◌∙◌, arith}
use Rattle.std.specs.Prelude.{◌&&◌, int_lt, nat_abs, ◌≤ℤ◌, ◌-ℤ◌, ◌*ℤ◌, if◌then◌else◌}
use Rattle.std.proofs.lemmas.Int.{ints}
use Rattle.fr_cluster.specs.Values.{Values}
use Rattle.fr_course.specs.Numbering.{longest_silence}
use Rattle.fr_frame.specs.declared.header.Header.{Header}
use Rattle.fr_midpoint.proofs.Products.{mulz-lez_left}
use Rattle.fr_time.specs.declared.senders.Sending.{Sending}
use Rattle.fr_reception.specs.Regular.{is_sync_frame}
use Rattle.fr_log.specs.View.{LogView, is_arbitrary_in}
use Rattle.fr_log.specs.declared.entry.Entry.{Entry}
use Rattle.fr_sightings.specs.Judging.{is_regular_of, judged_as, judgement_by, judgement_of, judgement_with, static_sending, whole_header}
use Rattle.fr_sightings.specs.Sightings.{IsUnnumbered, SilenceEndsAll, fate_behind, fate_by, fate_irregular_behind, fate_of, is_behind_silence, is_in_time, keeps_order, number_behind, sighting_with, stamped_behind}
use Rattle.fr_sightings.specs.declared.judging.Judged.{Judged}
use Rattle.fr_sightings.specs.declared.judging.Judgement.{Judgement}
use Rattle.fr_sightings.specs.declared.judging.Judgement.TheVariants as judgement
use Rattle.fr_sightings.specs.declared.sighting.Fate.{Fate}
use Rattle.fr_sightings.specs.declared.sighting.Fate.TheVariants as fate
use Rattle.fr_sightings.specs.declared.sighting.Sighting.{Sighting}
use Rattle.fr_sightings.proofs.Proper.{judgement_as}

-- ---- the stamp of what is judged or irregular is that of its entry

-- what a judgement tells
abbrev told_in : Judgement → Option Judged
told_in judgement.Damaged = None
told_in judgement.Arbitrary = None
told_in judgement.Other = None
told_in (judgement.Irregular judged) = Some judged
told_in (judgement.Regular judged) = Some judged

module _ (p : Values) (l : LogView) (e : Entry) (judged : Judged) where
  sent_stamp : (header : Header) (sending : Sending) → told_in (judgement_by p l e header (Some sending)) ≡ Some judged → e.stamp ≡ judged.stamp
  sent_stamp header sending is = by (is_arbitrary_in l sending.node) (is_regular_of p e.channel header sending) (is_sync_frame sending.kind) is
    where
      same : (one : Judged) → Some one ≡ Some judged → one ≡ judged
      same one is = cc is

      by : (arbitrary passes sync : Bool) → told_in (judgement_as arbitrary passes sync (judged_as e header sending)) ≡ Some judged → e.stamp ≡ judged.stamp
      by true passes sync is = absurd (cc is)
      by false false sync is = ap (λ (j : Judged). j.stamp) (same (judged_as e header sending) is)
      by false true false is = absurd (cc is)
      by false true true is = ap (λ (j : Judged). j.stamp) (same (judged_as e header sending) is)

  whole_stamp : (header : Header) (sending : Option Sending) → told_in (judgement_by p l e header sending) ≡ Some judged → e.stamp ≡ judged.stamp
  whole_stamp header None is = absurd (cc is)
  whole_stamp header (Some sending) is = sent_stamp header sending is

  entry_stamp : (header : Option Header) → told_in (judgement_with p l e header) ≡ Some judged → e.stamp ≡ judged.stamp
  entry_stamp None is = absurd (cc is)
  entry_stamp (Some header) is = whole_stamp header (static_sending p header) is

told_stamp : (p : Values) (l : LogView) (e : Entry) (judged : Judged) → told_in (judgement_of p l e) ≡ Some judged → e.stamp ≡ judged.stamp
unfolding judgement_of
told_stamp p l e judged is = entry_stamp p l e judged (whole_header e.kind e.channel e.bytes) is

-- ---- silence

longer : (silence apart more : ℤ) → int_lt silence apart ≡ true → apart ≤ℤ more → int_lt silence more ≡ true
longer silence apart more is le = grind (arith, ints)

less : (last stamp later : ℕ) → stamp ≤ later → (pos stamp -ℤ pos last) ≤ℤ (pos later -ℤ pos last)
less last stamp later le = omega (arith, ints, le)

natural : (n : ℕ) → pos 0 ≤ℤ pos n
natural n = omega (arith, ints)

module _ (p : Values) (l : LogView) (last : Sighting) where
  silent_too : (judged later : Judged) → judged.stamp ≤ later.stamp → is_behind_silence p l last judged ≡ true → is_behind_silence p l last later ≡ true
  silent_too judged later le is =
      longer (longest_silence p) (stamped_behind l last judged) (stamped_behind l last later) is
      (mulz-lez_left (pos judged.stamp -ℤ pos last.stamp) (pos later.stamp -ℤ pos last.stamp) (pos l.unit) (less last.stamp judged.stamp later.stamp le) (natural l.unit))

  -- what lies behind a silence is judged, and so late
  behind_is : (judged : Judged) → fate_behind p l last judged ≡ fate.Behind → is_behind_silence p l last judged ≡ true
  behind_is judged is = by (is_behind_silence p l last judged) (is_in_time p l last judged) (keeps_order last (number_behind last judged)) refl is
    where
      by : (behind timely orders : Bool) → is_behind_silence p l last judged ≡ behind
          → (
          if behind then fate.Behind
          else (
          if timely then (if orders then fate.Seen (sighting_with (nat_abs (number_behind last judged)) judged) else fate.Stray)
          else fate.Untimely (sighting_with last.number judged)
          )
          )
          ≡ fate.Behind
          → is_behind_silence p l last judged ≡ true
      by true timely orders at is = at
      by false true true at is = absurd (cc is)
      by false true false at is = absurd (cc is)
      by false false orders at is = absurd (cc is)

  -- so is what is irregular behind one
  irregular_is : (judged : Judged) → fate_irregular_behind p l last judged ≡ fate.Behind → is_behind_silence p l last judged ≡ true
  irregular_is judged is = by (is_behind_silence p l last judged) refl is
    where
      by : (behind : Bool) → is_behind_silence p l last judged ≡ behind → (if behind then fate.Behind else fate.Irregular (sighting_with last.number judged)) ≡ fate.Behind
          → is_behind_silence p l last judged ≡ true
      by true at is = at
      by false at is = absurd (cc is)

  unnumbered : (judged : Judged) → is_behind_silence p l last judged ≡ true → IsUnnumbered (fate_behind p l last judged)
  unnumbered judged is = rw is tt

  irregular_unnumbered : (judged : Judged) → is_behind_silence p l last judged ≡ true → IsUnnumbered (fate_irregular_behind p l last judged)
  irregular_unnumbered judged is = rw is tt

  after : (e : Entry) (found : Judgement) (stamp : ℕ) → ((judged : Judged) → told_in found ≡ Some judged → stamp ≤ judged.stamp)
      → ((judged : Judged) → stamp ≤ judged.stamp → is_behind_silence p l last judged ≡ true) → IsUnnumbered (fate_by p l (Some last) found)
  after e judgement.Damaged stamp late silent = tt
  after e judgement.Arbitrary stamp late silent = tt
  after e judgement.Other stamp late silent = tt
  after e (judgement.Irregular judged) stamp late silent = irregular_unnumbered judged (silent judged (late judged refl))
  after e (judgement.Regular judged) stamp late silent = unnumbered judged (silent judged (late judged refl))

  from : (found : Judgement) (stamp : ℕ) → ((judged : Judged) → told_in found ≡ Some judged → stamp ≡ judged.stamp) → fate_by p l (Some last) found ≡ fate.Behind
      → (later : Judged) → stamp ≤ later.stamp → is_behind_silence p l last later ≡ true
  from judgement.Damaged stamp is behind later le = absurd (cc behind)
  from judgement.Arbitrary stamp is behind later le = absurd (cc behind)
  from judgement.Other stamp is behind later le = absurd (cc behind)
  from (judgement.Irregular judged) stamp is behind later le =
      silent_too judged later (omega (arith, is judged refl, le)) (irregular_is judged behind)
  from (judgement.Regular judged) stamp is behind later le =
      silent_too judged later (omega (arith, is judged refl, le)) (behind_is judged behind)

pub silence_lasts : SilenceEndsAll
unfolding fate_of
silence_lasts p l last e later behind le =
    after p l last later (judgement_of p l later) e.stamp (λ judged is. omega (arith, told_stamp p l later judged is, le))
    (from p l last (judgement_of p l e) e.stamp (λ judged is. told_stamp p l e judged is) behind)
