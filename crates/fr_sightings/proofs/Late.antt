-- The frames of a log that do not come in time, and irregular ones: each has the number of the sighting before it.
use Rattle.std.proofs.Common.{◌≡◌, ℕ, ◌*◌, ◌≤◌, Bool, true, false, List, [], ◌∷◌, Option, Some, None, refl, ap, sym, ◌∙◌, subst, arith}
use Rattle.std.specs.Prelude.{All, IfSome, nat_abs, if◌then◌else◌}
use Rattle.std.specs.List.{cons_option, filter_map}
use Rattle.std.specs.List.Sorted.{IsNonDecreasingBy}
use Rattle.std.specs.Option.{option_or}
use Rattle.std.proofs.lemmas.List.Elements.{All-cons, All-head, All-tail, All-weaker}
use Rattle.fr_cluster.specs.Sane.{IsSane}
use Rattle.fr_cluster.specs.Values.{Values}
use Rattle.fr_time.specs.Cycles.{double_cycle_of}
use Rattle.fr_log.specs.Rows.{last_stamp}
use Rattle.fr_log.specs.View.{LogView, IsEntry}
use Rattle.fr_log.specs.declared.entry.Entry.{Entry}
use Rattle.fr_sightings.specs.Judging.{IsIrregular, IsJudged, judgement_of}
use Rattle.fr_sightings.specs.Ranges.{AreLate}
use Rattle.fr_sightings.specs.Sightings.{fate_behind, fate_by, fate_irregular, fate_judged, fate_of, fates_from, irregular_in, is_behind_silence, is_in_time, keeps_order, last_behind, number_behind, sighting_with, untimely_in}
use Rattle.fr_sightings.specs.declared.judging.Judged.{Judged}
use Rattle.fr_sightings.specs.declared.judging.Judgement.{Judgement}
use Rattle.fr_sightings.specs.declared.judging.Judgement.TheVariants as judgement
use Rattle.fr_sightings.specs.declared.sighting.Fate.{Fate}
use Rattle.fr_sightings.specs.declared.sighting.Fate.TheVariants as fate
use Rattle.fr_sightings.specs.declared.sighting.Sighting.{Sighting}
use Rattle.fr_sightings.proofs.Proper.{irregular_is_proper, judged_is_proper, seen_follows}
use Rattle.fr_sightings.proofs.Rising.{Comes, ascending_more, double, reached, reached_by}

-- ---- one of them

-- a frame has the number of the last sighting
abbrev IsNumberedBy : Option Sighting → Sighting → Type 0
IsNumberedBy None frame = ⊥
IsNumberedBy (Some last) frame = last.number ≡ frame.number

abbrev IsLogStamp : LogView → Sighting → Type 0
IsLogStamp l s = l.unit * s.stamp ≤ last_stamp

-- and its stamp lies within the limits of the log
pub record IsLate (l : LogView) (last : Option Sighting) (frame : Sighting) : Type 0 where
  pub numbered : IsNumberedBy last frame
  pub timed : IsLogStamp l frame

-- such a frame of what becomes of an entry
abbrev offending_in : Fate → Option Sighting
offending_in found = option_or (untimely_in found) (irregular_in found)

module _ (p : Values) (l : LogView) (frame : Sighting) where
  same : (one : Sighting) → Some one ≡ Some frame → one ≡ frame
  same one is = cc is

  stamped_late : (last : Sighting) (judged : Judged) → l.unit * judged.stamp ≤ last_stamp → Some (sighting_with last.number judged) ≡ Some frame
      → IsLate l (Some last) frame
  stamped_late last judged stamp is =
      subst (IsLate l (Some last)) (same (sighting_with last.number judged) is) (record { numbered = refl; timed = stamp })

  behind_late : (last : Sighting) (judged : Judged) → IsJudged p l judged → offending_in (fate_behind p l last judged) ≡ Some frame → IsLate l (Some last) frame
  behind_late last judged proper is = by (is_behind_silence p l last judged) (is_in_time p l last judged) (keeps_order last (number_behind last judged)) is
    where
      by : (behind timely orders : Bool)
          → offending_in (
          if behind then fate.Behind
          else (
          if timely then (if orders then fate.Seen (sighting_with (nat_abs (number_behind last judged)) judged) else fate.Stray)
          else fate.Untimely (sighting_with last.number judged)
          )
          )
          ≡ Some frame
          → IsLate l (Some last) frame
      by true timely orders is = absurd (cc is)
      by false true true is = absurd (cc is)
      by false true false is = absurd (cc is)
      by false false orders is = stamped_late last judged proper.stamp is

  judged_late : (last : Option Sighting) (judged : Judged) → IsJudged p l judged → offending_in (fate_judged p l last judged) ≡ Some frame → IsLate l last frame
  judged_late None judged proper is = absurd (cc is)
  judged_late (Some last) judged proper is = behind_late last judged proper is

  irregular_late : (last : Option Sighting) (judged : Judged) → IsIrregular l judged → offending_in (fate_irregular p l last judged) ≡ Some frame
      → IsLate l last frame
  irregular_late None judged proper is = absurd (cc is)
  irregular_late (Some last) judged proper is = by (is_behind_silence p l last judged) is
    where
      by : (behind : Bool) → offending_in (if behind then fate.Behind else fate.Irregular (sighting_with last.number judged)) ≡ Some frame
          → IsLate l (Some last) frame
      by true is = absurd (cc is)
      by false is = stamped_late last judged proper.stamp is

  found_late : (last : Option Sighting) (found : Judgement) → ((judged : Judged) → found ≡ judgement.Regular judged → IsJudged p l judged)
      → ((judged : Judged) → found ≡ judgement.Irregular judged → IsIrregular l judged)
      → offending_in (fate_by p l last found) ≡ Some frame → IsLate l last frame
  found_late last judgement.Damaged regular irregular is = absurd (cc is)
  found_late last judgement.Arbitrary regular irregular is = absurd (cc is)
  found_late last judgement.Other regular irregular is = absurd (cc is)
  found_late last (judgement.Irregular judged) regular irregular is = irregular_late last judged (irregular judged refl) is
  found_late last (judgement.Regular judged) regular irregular is = judged_late last judged (regular judged refl) is

  is_late : (last : Option Sighting) (e : Entry) → IsSane p → IsEntry l.unit e → offending_in (fate_of p l last e) ≡ Some frame → IsLate l last frame
  unfolding fate_of
  is_late last e sane entry is =
      found_late last (judgement_of p l e) (λ judged at. judged_is_proper p l e judged sane entry at)
      (λ judged at. irregular_is_proper p l e judged sane entry at) is

offending_first : (found : Fate) (frame : Sighting) → untimely_in found ≡ Some frame → offending_in found ≡ Some frame
offending_first found frame is = ap (λ (o : Option Sighting). option_or o (irregular_in found)) is

offending_second : (found : Fate) (frame : Sighting) → irregular_in found ≡ Some frame → offending_in found ≡ Some frame
offending_second fate.Damaged frame is = is
offending_second fate.Arbitrary frame is = is
offending_second fate.Other frame is = is
offending_second (fate.Irregular one) frame is = is
offending_second (fate.Untimely one) frame is = absurd (cc is)
offending_second fate.Stray frame is = is
offending_second fate.Behind frame is = is
offending_second (fate.Seen one) frame is = is

-- ---- all of them

abbrev IsNumbered : Sighting → Type 0
IsNumbered s = s.number ≤ 199999

-- such frames rise from a double cycle on
pub record AreLateFrom (l : LogView) (low : ℕ) (frames : List Sighting) : Type 0 where
  pub numbered : All IsNumbered frames
  pub timed : All (IsLogStamp l) frames
  pub from : All (Comes low) frames
  pub ascending : IsNonDecreasingBy double frames

late_none : (l : LogView) (low : ℕ) → AreLateFrom l low []
late_none l low =
    record {
      numbered = λ i d within. absurd (omega (arith, within));
      timed = λ i d within. absurd (omega (arith, within));
      from = λ i d within. absurd (omega (arith, within));
      ascending = λ i j d before within. absurd (omega (arith, within));
    }

late_lower : (l : LogView) (low high : ℕ) (frames : List Sighting) → low ≤ high → AreLateFrom l high frames → AreLateFrom l low frames
late_lower l low high frames le late =
    record {
      numbered = late.numbered;
      timed = late.timed;
      from = All-weaker (Comes high) (Comes low) (λ s h. omega (arith, h, le)) frames late.from;
      ascending = late.ascending;
    }

-- one more
late_more : (l : LogView) (last : Option Sighting) (frame : Sighting) (frames : List Sighting) → IfSome last IsNumbered → IsLate l last frame
    → AreLateFrom l (reached last) frames → AreLateFrom l (reached last) (frame ∷ frames)
late_more l None frame frames few is rest = absurd is.numbered
late_more l (Some last) frame frames few is rest =
    let at : double last ≡ double frame = ap double_cycle_of is.numbered in
    record {
      numbered = All-cons IsNumbered frame frames (subst (λ (n : ℕ). n ≤ 199999) is.numbered few) rest.numbered;
      timed = All-cons (IsLogStamp l) frame frames is.timed rest.timed;
      from = All-cons (Comes (double last)) frame frames (omega (arith, at)) rest.from;
      ascending = ascending_more frame frames (subst (λ (n : ℕ). All (Comes n) frames) at rest.from) rest.ascending;
    }

-- one more, or none
late_next : (l : LogView) (last : Option Sighting) (next : Option Sighting) (frames : List Sighting) → IfSome last IsNumbered
    → ((frame : Sighting) → next ≡ Some frame → IsLate l last frame) → AreLateFrom l (reached last) frames → AreLateFrom l (reached last) (cons_option next frames)
late_next l last None frames few is rest = rest
late_next l last (Some frame) frames few is rest = late_more l last frame frames few (is frame refl) rest

-- what is taken of entries is late where it is of each of them, and no sighting is taken
module _ (p : Values) (l : LogView) (sane : IsSane p) (taken : Fate → Option Sighting) (unseen : (s : Sighting) → taken (fate.Seen s) ≡ None)
    (offends : (found : Fate) (frame : Sighting) → taken found ≡ Some frame → offending_in found ≡ Some frame) where
  all_late : (entries : List Entry) (last : Option Sighting) → IfSome last IsNumbered → All (IsEntry l.unit) entries
      → AreLateFrom l (reached last) (filter_map taken (fates_from p l last entries))
  unfolding fates_from
  all_late [] last few proper = late_none l (reached last)
  all_late (e ∷ entries) last few proper =
      by (fate_of p l last e) refl (λ after after_few. all_late entries after after_few (All-tail (IsEntry l.unit) e entries proper))
    where
      first : IsEntry l.unit e
      first = All-head (IsEntry l.unit) e entries proper

      stays : (found : Fate) → fate_of p l last e ≡ found → AreLateFrom l (reached last) (filter_map taken (fates_from p l last entries))
          → AreLateFrom l (reached last) (filter_map taken (found ∷ fates_from p l last entries))
      stays found is rest =
          late_next l last (taken found) (filter_map taken (fates_from p l last entries)) few
          (λ frame at. is_late p l frame last e sane first (ap offending_in is ∙ offends found frame at)) rest

      by : (found : Fate) → fate_of p l last e ≡ found
          → ((after : Option Sighting) → IfSome after IsNumbered → AreLateFrom l (reached after) (filter_map taken (fates_from p l after entries)))
          → AreLateFrom l (reached last) (filter_map taken (found ∷ fates_from p l (last_behind last found) entries))
      by fate.Damaged is rest = stays fate.Damaged is (rest last few)
      by fate.Arbitrary is rest = stays fate.Arbitrary is (rest last few)
      by fate.Other is rest = stays fate.Other is (rest last few)
      by (fate.Irregular frame) is rest = stays (fate.Irregular frame) is (rest last few)
      by (fate.Untimely frame) is rest = stays (fate.Untimely frame) is (rest last few)
      by fate.Stray is rest = stays fate.Stray is (rest last few)
      by fate.Behind is rest = stays fate.Behind is (rest last few)
      by (fate.Seen sighting) is rest =
          let follows = seen_follows p l last e sighting sane first is in
          let frames = filter_map taken (fates_from p l (Some sighting) entries) in
          subst (λ (o : Option Sighting). AreLateFrom l (reached last) (cons_option o frames)) (sym (unseen sighting))
          (late_lower l (reached last) (double sighting) frames (reached_by last (double sighting) follows.later) (rest (Some sighting) follows.proper.number))

  taken_are_late : (entries : List Entry) → All (IsEntry l.unit) entries → AreLate l (filter_map taken (fates_from p l None entries))
  taken_are_late entries proper =
      let late = all_late entries None tt proper in
      record { numbered = late.numbered; timed = late.timed; ascend = late.ascending }

module _ (p : Values) (l : LogView) (entries : List Entry) (sane : IsSane p) (proper : All (IsEntry l.unit) entries) where
  pub untimely_are_late : AreLate l (filter_map untimely_in (fates_from p l None entries))
  untimely_are_late = taken_are_late p l sane untimely_in (λ s. refl) offending_first entries proper

  pub irregular_are_late : AreLate l (filter_map irregular_in (fates_from p l None entries))
  irregular_are_late = taken_are_late p l sane irregular_in (λ s. refl) offending_second entries proper
