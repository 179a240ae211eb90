-- What the rows of a log come to: which double cycles are judged and why others are not, what contradicts them, what the rows say of
-- the skew, and the verdict.
use Rattle.std.specs.Prelude.{ℕ, zero, suc, ◌+◌, ◌-◌, ◌*◌, ◌==◌, ◌&&◌, ℤ, pos, Bool, true, false, List, [], ◌∷◌, ◌++◌, length, Option, Some, None, slice_get, if◌then◌else◌}
use Rattle.std.specs.List.{flat_map}
use Rattle.std.specs.Option.{option_or}
use Rattle.fr_bound.specs.declared.judging.Heard.{Heard}
use Rattle.fr_bound.specs.declared.judging.Known.{Known}
use Rattle.fr_cluster.specs.Values.{Values}
use Rattle.fr_log.specs.View.{LogView}
use Rattle.fr_course.specs.Readings.{reading_scale}
use Rattle.fr_course.specs.Scales.{Scale}
use Rattle.fr_judging.specs.Hearing.{log_heard, yardstick}
use Rattle.fr_observe.specs.Faults.{fault_row, first_of_faults, is_nil, own_faults, slot_faults}
use Rattle.fr_judging.specs.Knowing.{known_next, moving_faults, spread_told, standing_faults, standing_of}
use Rattle.fr_judging.specs.Missing.{missed_told}
use Rattle.fr_findings.specs.Counting.{counted, no_cycles_told}
use Rattle.fr_observe.specs.Observing.{both_say, double_rows, even_high, even_low, odd_high, odd_low, says_of, seen_doubles}
use Rattle.fr_judging.specs.Obstacles.{farther}
use Rattle.fr_sightings.specs.Senders.{seen_senders, sightings_in}
use Rattle.fr_sightings.specs.Sightings.{OffendingFrames, offending_frames_of, sightings_of}
use Rattle.fr_observe.specs.declared.fault.Fault.{Fault}
use Rattle.fr_observe.specs.declared.fault.LogSpan.{LogSpan}
use Rattle.fr_judging.specs.declared.knowing.Standing.{Standing}
use Rattle.fr_judging.specs.declared.obstacle.Obstacle.{Obstacle}
use Rattle.fr_judging.specs.declared.obstacle.ObstacleKind.TheVariants as obstacle
use Rattle.fr_findings.specs.declared.progress.Judged.{Judged}
use Rattle.fr_findings.specs.declared.progress.OverRow.{OverRow}
use Rattle.fr_findings.specs.declared.progress.Progress.{Progress}
use Rattle.fr_findings.specs.declared.progress.Reach.{Reach}
use Rattle.fr_observe.specs.declared.says.Says.{Says}
use Rattle.fr_observe.specs.declared.says.Says.TheVariants.{Over, Within, Open}
use Rattle.fr_sightings.specs.declared.sender.Sender.{Sender}
use Rattle.fr_sightings.specs.declared.sighting.Sighting.{Sighting}
use Rattle.fr_findings.specs.declared.verdict.Partly.{Partly}
use Rattle.fr_findings.specs.declared.verdict.Verdict.{Verdict}
use Rattle.fr_findings.specs.declared.verdict.Verdict.TheVariants as verdict

-- ---- what stays the same over a log

pub record Basis : Type 0 where
  pub precision : ℤ
  pub scale : Scale
  pub params : Values
  pub log : LogView
  pub span : LogSpan
  pub heard : Option Heard

-- the numbers of the first and the last sighting
abbrev pub number_or_none : Option Sighting → ℕ
number_or_none None = 0
number_or_none (Some s) = s.number

abbrev pub log_span : List Sighting → LogSpan
log_span seen =
    record {
      first = number_or_none (slice_get seen 0);
      last = number_or_none (slice_get seen (length seen - 1));
    }

abbrev pub basis_with : Values → LogView → List Sighting → Option Heard → Basis
basis_with p l seen heard =
    record {
      precision = pos (yardstick p l heard);
      scale = reading_scale l.drift p;
      params = p;
      log = l;
      span = log_span seen;
      heard = heard;
    }

abbrev pub log_basis : Values → LogView → Basis
log_basis p l = basis_with p l (sightings_of p l) (log_heard p l)

-- ---- a double cycle

-- its number, the sightings of the double cycle before and its own, its offending frames, and its senders
pub record DoubleCycle : Type 0 where
  pub number : ℕ
  pub before : List Sighting
  pub here : List Sighting
  pub offending : OffendingFrames
  pub senders : List Sender

-- before the first one there are none
abbrev pub sightings_before : List Sighting → ℕ → List Sighting
sightings_before seen zero = []
sightings_before seen (suc double) = sightings_in seen double

-- by its sightings and those of the next one
abbrev pub double_with : Basis → ℕ → List Sighting → List Sighting → List Sighting → OffendingFrames → DoubleCycle
double_with b double before here next offending =
    record {
      number = double;
      before = before;
      here = here;
      offending = offending;
      senders = seen_senders b.scale b.params b.log here next double;
    }

-- those of a double cycle
abbrev pub offending_in : OffendingFrames → ℕ → OffendingFrames
offending_in offending double =
    record {
      untimely = sightings_in offending.untimely double;
      irregular = sightings_in offending.irregular double;
    }

-- by the sightings of a log and those frames
unfoldable pub double_at : Basis → List Sighting → OffendingFrames → ℕ → DoubleCycle
double_at b seen offending double =
    double_with b double (sightings_before seen double) (sightings_in seen double) (sightings_in seen (double + 1))
    (offending_in offending double)

-- what contradicts any run, and any that sends each whole frame of the log in the slot of a node
unfoldable pub own_told : Basis → DoubleCycle → List Fault
own_told b d =
    own_faults b.params b.scale b.log d.here d.offending.untimely d.number d.senders
    ++ slot_faults b.params d.offending.irregular

-- how it stands, with what is known of it from the one before, and what contradicts that
unfoldable pub standing_told : Basis → DoubleCycle → Option Known → Standing
standing_told b d known =
    standing_of b.params b.scale b.log d.here d.number d.senders b.heard known (first_of_faults (own_told b d))

unfoldable pub known_told : Basis → DoubleCycle → Option Known → List Fault
known_told b d known =
    standing_faults b.params b.scale b.log b.span d.before d.here d.number d.senders (standing_told b d known)

-- those of its skews, starts and lengths
unfoldable pub moving_told : Basis → DoubleCycle → Option Known → List Fault
moving_told b d known = moving_faults b.params b.log b.scale d.number d.senders (standing_told b d known)

-- what is known of the next one, where there are none of these
abbrev pub known_next_told : Basis → DoubleCycle → Option Known → Option Known
known_next_told b d known = known_next b.params b.log (standing_told b d known) (is_nil (moving_told b d known))

-- all faults of it, where so much is known of it
unfoldable pub faults_told : Basis → DoubleCycle → Option Known → List Fault
faults_told b d known = own_told b d ++ known_told b d known

-- ---- what is known behind it

abbrev pub none_judged : Judged
none_judged = record { doubles = 0; said = no_cycles_told; span = None }

abbrev pub no_progress : Progress
no_progress =
    record {
      known = None;
      first = None;
      counts = no_cycles_told;
      reach = None;
      is_ended = false;
      over = None;
      doubles = 0;
      judged = none_judged;
      obstacle = None;
    }

-- how far the rows of judged cycles say within without a gap; `ended` where one of them said something else
abbrev pub further_within : Option Reach → ℕ → Reach
further_within None cycle = record { from = cycle; to = cycle }
further_within (Some reach) cycle = record { from = reach.from; to = cycle }

abbrev pub reach_by : Option Reach → ℕ → Says → (Option Reach × Bool)
reach_by reach cycle Within = (Some (further_within reach cycle), false)
reach_by reach cycle Over = (reach, true)
reach_by reach cycle Open = (reach, true)

abbrev pub reach_behind : (Option Reach × Bool) → ℕ → Says → (Option Reach × Bool)
reach_behind reach cycle says = if reach.1 then reach else reach_by reach.0 cycle says

-- behind both of its cycles; one that is not judged, behind one that is, is a gap
abbrev pub reach_where : Bool → Option Reach → ℕ → Says → Says → (Option Reach × Bool) → (Option Reach × Bool)
reach_where true span double even odd reach = reach_behind (reach_behind reach (2 * double) even) (2 * double + 1) odd
reach_where false None double even odd reach = reach
reach_where false (Some span) double even odd reach = (None, true)

abbrev pub even_says : Basis → DoubleCycle → Says
even_says b d = says_of b.precision (even_low b.scale d.senders) (even_high b.scale d.senders)

abbrev pub odd_says : Basis → DoubleCycle → Says
odd_says b d = says_of b.precision (odd_low b.scale d.senders) (odd_high b.scale d.senders)

abbrev pub reach_told : Basis → DoubleCycle → Progress → (Option Reach × Bool)
reach_told b d progress =
    reach_where (standing_told b d progress.known).is_judged progress.judged.span d.number (even_says b d) (odd_says b d)
    (progress.reach, progress.is_ended)

-- the first row that says over
abbrev pub over_row : ℕ → ℤ → Says → Option OverRow
over_row cycle low Over = Some (record { cycle = cycle; low = low })
over_row cycle low Within = None
over_row cycle low Open = None

abbrev pub over_told : Basis → DoubleCycle → Option OverRow
over_told b d =
    option_or (over_row (2 * d.number) (even_low b.scale d.senders) (even_says b d))
    (over_row (2 * d.number + 1) (odd_low b.scale d.senders) (odd_says b d))

-- how many double cycles are judged, how many of their rows say what, and the first and the last of their cycles
abbrev pub span_to : Option Reach → ℕ → Reach
span_to None double = record { from = 2 * double; to = 2 * double + 1 }
span_to (Some span) double = record { from = span.from; to = 2 * double + 1 }

abbrev pub judged_by : Bool → Judged → ℕ → List Says → Judged
judged_by false judged double said = judged
judged_by true judged double said =
    record {
      doubles = judged.doubles + 1;
      said = counted judged.said said;
      span = Some (span_to judged.span double);
    }

unfoldable pub progress_told : Basis → DoubleCycle → Progress → Progress
progress_told b d progress =
    record {
      known = known_next_told b d progress.known;
      first = option_or progress.first (first_of_faults (faults_told b d progress.known));
      counts = counted progress.counts (both_say b.precision b.scale d.senders);
      reach = (reach_told b d progress).0;
      is_ended = (reach_told b d progress).1;
      over = option_or progress.over (over_told b d);
      doubles = progress.doubles + 1;
      judged =
          judged_by (standing_told b d progress.known).is_judged progress.judged d.number (both_say b.precision b.scale d.senders);
      obstacle = farther progress.obstacle (standing_told b d progress.known).obstacle;
    }

-- its rows, behind them those of its faults, then how many senders its nodes must have missed, and then the numbers that it is judged by
unfoldable pub double_told : Basis → DoubleCycle → Progress → List ℕ
double_told b d progress =
    double_rows b.precision b.scale d.number d.senders
    ++ (
    flat_map fault_row (faults_told b d progress.known)
    ++ (
    missed_told b.params b.log b.scale d.number d.senders (standing_told b d progress.known)
    ++ spread_told b.params b.log d.number (standing_told b d progress.known)
    )
    )

-- ---- a log

-- the faults of a double cycle, where so much is known of it
abbrev pub double_faults : Basis → List Sighting → OffendingFrames → ℕ → Option Known → List Fault
double_faults b seen offending double known = faults_told b (double_at b seen offending double) known

abbrev pub progress_behind : Basis → List Sighting → OffendingFrames → ℕ → Progress → Progress
progress_behind b seen offending double progress = progress_told b (double_at b seen offending double) progress

-- behind some double cycles, from the first on
unfoldable pub progress_of : Basis → List Sighting → OffendingFrames → Progress → List ℕ → Progress
progress_of b seen offending progress [] = progress
progress_of b seen offending progress (double ∷ doubles) =
    progress_of b seen offending (progress_behind b seen offending double progress) doubles

-- their text
unfoldable pub told_of_doubles : Basis → List Sighting → OffendingFrames → Progress → List ℕ → List ℕ
told_of_doubles b seen offending progress [] = []
told_of_doubles b seen offending progress (double ∷ doubles) =
    double_told b (double_at b seen offending double) progress
    ++ told_of_doubles b seen offending (progress_behind b seen offending double progress) doubles

-- behind the last one
abbrev pub log_progress : Basis → List Sighting → OffendingFrames → Progress
log_progress b seen offending = progress_of b seen offending no_progress (seen_doubles seen)

-- ---- the verdict

-- why none is judged; without any double cycle no node was seen
abbrev pub or_none_seen : Option Obstacle → Obstacle
or_none_seen None = record { kind = obstacle.Unseen; cycle = None; node = None }
or_none_seen (Some why) = why

-- each row says within from the first judged cycle to the last but one: the end of the last one is told by no double cycle
abbrev pub reaches_end : Reach → Reach → Bool
reaches_end reach span = (reach.from == span.from) && (reach.to + 1 == span.to)

-- of the rows of judged double cycles, from the first to the last, how many say what; and how many of all double cycles are judged
abbrev pub partly_of : Reach → Progress → Partly
partly_of span progress =
    record {
      span = span;
      within = progress.judged.said.within;
      neither = progress.judged.said.neither;
      judged = progress.judged.doubles;
      doubles = progress.doubles;
    }

abbrev pub verdict_within : Option Reach → Reach → Progress → Verdict
verdict_within None span progress = verdict.Partly (partly_of span progress)
verdict_within (Some reach) span progress =
    if reaches_end reach span then verdict.Within reach else verdict.Partly (partly_of span progress)

-- where some are judged, and where none is
abbrev pub verdict_where : Option Reach → Progress → Verdict
verdict_where None progress = verdict.Open (or_none_seen progress.obstacle)
verdict_where (Some span) progress = verdict_within progress.reach span progress

-- where a row says over, and else
abbrev pub verdict_unless_over : Option OverRow → Progress → Verdict
verdict_unless_over None progress = verdict_where progress.judged.span progress
verdict_unless_over (Some first) progress = verdict.Over first progress.counts.over

-- where there is a fault, and else
abbrev pub verdict_with : Option Fault → Progress → Verdict
verdict_with None progress = verdict_unless_over progress.over progress
verdict_with (Some fault) progress = verdict.No fault

-- the first fault; or the first row that says over, and how many do; or why no double cycle is judged; or that each judged row
-- but the last says within; or how many of these rows say what
unfoldable pub verdict_by : Progress → Verdict
verdict_by progress = verdict_with progress.first progress

unfoldable pub verdict_of : Values → LogView → Verdict
verdict_of p l = verdict_by (log_progress (log_basis p l) (sightings_of p l) (offending_frames_of p l))
