-- The sightings of a log: which of its frames say where their senders' clocks were, and what becomes of all others.
use Rattle.std.specs.Prelude.{◌≡◌, ℕ, ◌+◌, ◌*◌, ◌<◌, ◌≤◌, ◌&&◌, nat_abs, nat_le, ℤ, pos, ◌-ℤ◌, ◌*ℤ◌, int_le, int_lt, Bool, true, false, if◌then◌else◌, List, [], ◌∷◌, Option, Some, None}
use Rattle.std.specs.List.{filter_map, fold}
use Rattle.std.specs.Option.{option_or}
use Rattle.fr_cluster.specs.Questions.{has_channel, node_of, own_key}
use Rattle.fr_cluster.specs.Values.{Values, amount}
use Rattle.fr_cluster.specs.declared.names.ParamName.TheVariants as name
use Rattle.fr_time.specs.Cycles.{cycle_count, double_cycle_of}
use Rattle.fr_time.specs.Slots.{action_point_of}
use Rattle.fr_log.specs.Rows.{last_stamp}
use Rattle.fr_log.specs.View.{LogView, is_arbitrary_in}
use Rattle.fr_log.specs.declared.entry.Entry.{Entry}
use Rattle.fr_course.specs.Numbering.{is_timely, longest_silence, next_number}
use Rattle.fr_sightings.specs.Judging.{judgement_of}
use Rattle.fr_sightings.specs.declared.judging.Judged.{Judged}
use Rattle.fr_sightings.specs.declared.judging.Judgement.{Judgement}
use Rattle.fr_sightings.specs.declared.judging.Judgement.TheVariants as judgement
use Rattle.fr_sightings.specs.declared.sighting.Fate.{Fate}
use Rattle.fr_sightings.specs.declared.sighting.Fate.TheVariants as fate
use Rattle.fr_sightings.specs.declared.sighting.Sighting.{Sighting}
use Rattle.fr_sightings.specs.declared.sighting.Tally.{Tally}

-- ---- one frame

abbrev pub sighting_with : ℕ → Judged → Sighting
sighting_with number judged =
    record {
      number = number;
      node = judged.node;
      slot = judged.slot;
      channel = judged.channel;
      count = judged.count;
      stamp = judged.stamp;
    }

-- how much later than a sighting a judged frame is stamped, in ticks of the observer's clock
abbrev pub stamped_behind : LogView → Sighting → Judged → ℤ
stamped_behind l last judged = pos l.unit *ℤ (pos judged.stamp -ℤ pos last.stamp)

-- a silence behind which nothing is judged lies between them
abbrev pub is_behind_silence : Values → LogView → Sighting → Judged → Bool
is_behind_silence p l last judged = int_lt (longest_silence p) (stamped_behind l last judged)

-- the number of its cycle, and whether it comes then
abbrev pub number_behind : Sighting → Judged → ℤ
number_behind last judged = next_number (pos last.number) judged.count

abbrev pub is_in_time : Values → LogView → Sighting → Judged → Bool
is_in_time p l last judged =
    is_timely p (stamped_behind l last judged) (number_behind last judged -ℤ pos last.number)
    (pos (action_point_of p judged.slot) -ℤ pos (action_point_of p last.slot))

-- a number is one of a cycle, and of no double cycle before that of a sighting
abbrev pub keeps_order : Sighting → ℤ → Bool
keeps_order last number =
    int_le (pos 0) number && int_le number (pos 199_999)
    && nat_le (double_cycle_of last.number) (double_cycle_of (nat_abs number))

-- what becomes of a judged frame with a number behind a sighting, where it comes in time
abbrev pub fate_timely : Sighting → ℤ → Judged → Fate
fate_timely last number judged =
    if keeps_order last number then fate.Seen (sighting_with (nat_abs number) judged) else fate.Stray

-- what becomes of a judged frame behind the last sighting before it, if there is one: the first has its cycle count as
-- number. Of one that does not come in time the number says nothing: it has that of the last sighting
abbrev pub fate_behind : Values → LogView → Sighting → Judged → Fate
fate_behind p l last judged =
    if is_behind_silence p l last judged then fate.Behind
    else if is_in_time p l last judged then fate_timely last (number_behind last judged) judged
    else fate.Untimely (sighting_with last.number judged)

abbrev pub fate_judged : Values → LogView → Option Sighting → Judged → Fate
fate_judged p l None judged = fate.Seen (sighting_with judged.count judged)
fate_judged p l (Some last) judged = fate_behind p l last judged

-- what becomes of a frame that its sender does not send: it has the number of the last sighting before it, and before the first
-- one it tells nothing
abbrev pub fate_irregular_behind : Values → LogView → Sighting → Judged → Fate
fate_irregular_behind p l last judged =
    if is_behind_silence p l last judged then fate.Behind else fate.Irregular (sighting_with last.number judged)

abbrev pub fate_irregular : Values → LogView → Option Sighting → Judged → Fate
fate_irregular p l None judged = fate.Other
fate_irregular p l (Some last) judged = fate_irregular_behind p l last judged

-- and of an entry
abbrev pub fate_by : Values → LogView → Option Sighting → Judgement → Fate
fate_by p l last judgement.Damaged = fate.Damaged
fate_by p l last judgement.Arbitrary = fate.Arbitrary
fate_by p l last judgement.Other = fate.Other
fate_by p l last (judgement.Irregular judged) = fate_irregular p l last judged
fate_by p l last (judgement.Regular judged) = fate_judged p l last judged

unfoldable pub fate_of : Values → LogView → Option Sighting → Entry → Fate
fate_of p l last e = fate_by p l last (judgement_of p l e)

-- ---- a log

-- the sighting that an entry is
abbrev pub sighting_in : Fate → Option Sighting
sighting_in fate.Damaged = None
sighting_in fate.Arbitrary = None
sighting_in fate.Other = None
sighting_in (fate.Irregular frame) = None
sighting_in (fate.Untimely frame) = None
sighting_in fate.Stray = None
sighting_in fate.Behind = None
sighting_in (fate.Seen sighting) = Some sighting

-- the judged frame of one that does not come in time, with the number of the last sighting before it
abbrev pub untimely_in : Fate → Option Sighting
untimely_in fate.Damaged = None
untimely_in fate.Arbitrary = None
untimely_in fate.Other = None
untimely_in (fate.Irregular frame) = None
untimely_in (fate.Untimely frame) = Some frame
untimely_in fate.Stray = None
untimely_in fate.Behind = None
untimely_in (fate.Seen sighting) = None

-- the irregular frame of one, with the number of the last sighting before it
abbrev pub irregular_in : Fate → Option Sighting
irregular_in fate.Damaged = None
irregular_in fate.Arbitrary = None
irregular_in fate.Other = None
irregular_in (fate.Irregular frame) = Some frame
irregular_in (fate.Untimely frame) = None
irregular_in fate.Stray = None
irregular_in fate.Behind = None
irregular_in (fate.Seen sighting) = None

-- the last sighting behind an entry
abbrev pub last_behind : Option Sighting → Fate → Option Sighting
last_behind last found = option_or (sighting_in found) last

-- what becomes of each of some entries behind a sighting. A frame that is no sighting leaves the last one as it is:
-- since stamps do not fall, all that is judged behind a long silence stays behind it
unfoldable pub fates_from : Values → LogView → Option Sighting → List Entry → List Fate
fates_from p l last [] = []
fates_from p l last (e ∷ entries) = fate_of p l last e ∷ fates_from p l (last_behind last (fate_of p l last e)) entries

abbrev pub fates_of : Values → LogView → List Fate
fates_of p l = fates_from p l None l.entries

unfoldable pub sightings_of : Values → LogView → List Sighting
sightings_of p l = filter_map sighting_in (fates_of p l)

unfoldable pub untimely_of : Values → LogView → List Sighting
untimely_of p l = filter_map untimely_in (fates_of p l)

unfoldable pub irregular_of : Values → LogView → List Sighting
irregular_of p l = filter_map irregular_in (fates_of p l)

-- the offending frames of a log: they are no sightings and contradict it, as they do not come in time or are irregular
pub record OffendingFrames : Type 0 where
  pub untimely : List Sighting
  pub irregular : List Sighting

abbrev pub offending_frames_of : Values → LogView → OffendingFrames
offending_frames_of p l = record { untimely = untimely_of p l; irregular = irregular_of p l }

-- how many there are of each kind; an irregular one is counted with those that tell nothing
abbrev pub no_tally : Tally
no_tally = record { judged = 0; damaged = 0; arbitrary = 0; other = 0; stray = 0; behind = 0 }

abbrev pub fate_counted : Tally → Fate → Tally
fate_counted tally fate.Damaged = record tally { damaged = tally.damaged + 1 }
fate_counted tally fate.Arbitrary = record tally { arbitrary = tally.arbitrary + 1 }
fate_counted tally fate.Other = record tally { other = tally.other + 1 }
fate_counted tally (fate.Irregular frame) = record tally { other = tally.other + 1 }
fate_counted tally (fate.Untimely frame) = record tally { stray = tally.stray + 1 }
fate_counted tally fate.Stray = record tally { stray = tally.stray + 1 }
fate_counted tally fate.Behind = record tally { behind = tally.behind + 1 }
fate_counted tally (fate.Seen sighting) = record tally { judged = tally.judged + 1 }

unfoldable pub tally_of : Values → LogView → Tally
tally_of p l = fold fate_counted no_tally (fates_of p l)

-- what contracts see of all three
pub record SightingsView : Type 0 where
  pub list : List Sighting
  pub offending : OffendingFrames
  pub tally : Tally

-- ---- what holds of them

-- a sighting is of a correct node that has the channel, in its key slot; its number has its count, and its stamp lies
-- within the limits of the log
pub record IsSighting (p : Values) (l : LogView) (sighting : Sighting) : Type 0 where
  pub number : sighting.number ≤ 199_999
  pub counted : sighting.count ≡ cycle_count sighting.number
  pub own : own_key p sighting.node ≡ Some sighting.slot
  pub static : sighting.slot ≤ amount p name.gNumberOfStaticSlots
  pub correct : is_arbitrary_in l sighting.node ≡ false
  pub on_channel : has_channel (node_of p sighting.node) sighting.channel ≡ true
  pub stamp : l.unit * sighting.stamp ≤ last_stamp

-- the entries that were counted
abbrev pub all_tallied : Tally → ℕ
all_tallied tally = tally.judged + tally.damaged + tally.arbitrary + tally.other + tally.stray + tally.behind

-- one more may be counted: no count passes 64 bits
abbrev pub MayTally : Tally → Type 0
MayTally tally = all_tallied tally < 18_446_744_073_709_551_615

-- ---- silence

-- what is not numbered: neither a sighting, nor one that does not come in time, nor an irregular one, nor a stray
abbrev pub IsUnnumbered : Fate → Type 0
IsUnnumbered fate.Damaged = Unit {0}
IsUnnumbered fate.Arbitrary = Unit {0}
IsUnnumbered fate.Other = Unit {0}
IsUnnumbered (fate.Irregular frame) = ⊥
IsUnnumbered (fate.Untimely frame) = ⊥
IsUnnumbered fate.Stray = ⊥
IsUnnumbered fate.Behind = Unit {0}
IsUnnumbered (fate.Seen sighting) = ⊥

-- where one frame comes behind a silence that is too long, nothing that comes later is numbered
abbrev pub SilenceEndsAll : Type 0
SilenceEndsAll =
    (p : Values) (l : LogView) (last : Sighting) (e later : Entry)
    → fate_of p l (Some last) e ≡ fate.Behind → e.stamp ≤ later.stamp
    → IsUnnumbered (fate_of p l (Some last) later)
