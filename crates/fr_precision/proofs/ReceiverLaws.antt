-- The law of the step for two receivers, from those of rates and offsets.
use Rattle.std.proofs.Common.{◌+◌, ◌*◌, ◌≤◌, ℤ, pos, length, arith}
use Rattle.std.specs.Prelude.{◌+ℤ◌, ◌-ℤ◌, ◌*ℤ◌, ◌≤ℤ◌}
use Rattle.std.proofs.lemmas.Int.{ints}
use Rattle.fr_base.specs.Within.{IsWithin}
use Rattle.fr_cluster.specs.Values.{Values}
use Rattle.fr_bound.specs.Bounds.{arrival_error, lambda_of, longest_micro}
use Rattle.fr_bound.specs.Sync.{cycle_length_of}
use Rattle.fr_precision.specs.Rows.{corrected_end_of}
use Rattle.fr_precision.specs.Receivers.{ComeNear, ReceiversComeNear, ReceiversDrawNear}
use Rattle.fr_precision.specs.Step.{DrawNear, Member, Shrinks}
use Rattle.fr_precision.proofs.OffsetLaws.{ends_draw_together, offset_terms_are_uncut}
use Rattle.fr_precision.proofs.RateLaws.{lengths_draw_together_lem, lengths_stay_in_range_lem, rate_terms_are_uncut}

pub receivers_draw_near : ReceiversDrawNear
receivers_draw_near p senders starts lengths reach one other sane first second send proper takes also keep_offsets keep_rates =
    let some : 1 ≤ length senders = omega (arith, keep_rates) in
    let hears = takes.hears in
    let other_hears = also.hears in
    record {
      uncut = offset_terms_are_uncut p senders reach one.odd one.offsets one.offset_term sane hears.suffices some hears.reached hears.round;
      range = rate_terms_are_uncut p senders one.odd one.rates one.rate_term sane first second some proper takes.by_rate;
      ends =
          ends_draw_together p senders starts lengths reach one.odd other.odd one.offsets other.offsets one.offset_term other.offset_term sane hears.suffices send.sending send.near
          hears.reached other_hears.reached hears.near other_hears.near hears.round other_hears.round keep_offsets;
      proper = λ even odd next. lengths_stay_in_range_lem p senders one.odd one.rates one.rate_term even odd sane first second some proper takes.by_rate next;
      lengths_draw =
          λ even odd other_even other_odd next other_next.
          lengths_draw_together_lem p senders lengths one.odd other.odd one.rates other.rates one.rate_term other.rate_term even odd other_even other_odd sane first second proper
          send.near.by_odd takes.by_rate also.by_rate keep_rates next other_next;
    }

-- a number at most half of a bound that is one beyond an even number at most
pub shrunk : (bound next x : ℤ) → bound ≤ℤ ((pos 2 *ℤ next) +ℤ pos 1) → IsWithin bound (pos 2 *ℤ x) → IsWithin next x
shrunk bound next x le within = record { low = omega (arith, ints, within.low); high = omega (arith, ints, within.high) }

-- what draws near comes as near as the numbers shrink to
pub comes_near : (p : Values) (starts lengths next_starts next_lengths : ℤ) (one other : Member) → Shrinks p starts lengths next_starts next_lengths
    → DrawNear p starts lengths one other → ComeNear p next_starts next_lengths one other
comes_near p starts lengths next_starts next_lengths one other shrinks draw =
    let reduced = lengths +ℤ pos (lambda_of p) in
    let drawn = starts +ℤ (pos 6 *ℤ lengths) +ℤ pos (4 * arrival_error p + 8 * longest_micro p) in
    record {
      uncut = draw.uncut;
      range = draw.range;
      starts = shrunk drawn next_starts (corrected_end_of p one.odd -ℤ corrected_end_of p other.odd) shrinks.starts_to draw.ends;
      proper = draw.proper;
      lengths =
          λ even odd other_even other_odd next other_next.
          let both = draw.lengths_draw even odd other_even other_odd next other_next in (
            shrunk reduced next_lengths (cycle_length_of p even -ℤ cycle_length_of p other_even) shrinks.lengths_to both.0,
            shrunk reduced next_lengths (cycle_length_of p odd -ℤ cycle_length_of p other_odd) shrinks.lengths_to both.1,
          );
    }

pub receivers_come_near : ReceiversComeNear
receivers_come_near p senders starts lengths reach next_starts next_lengths one other sane first second send proper shrinks takes also keep_offsets keep_rates =
    comes_near p starts lengths next_starts next_lengths one other shrinks
    (receivers_draw_near p senders starts lengths reach one other sane first second send proper takes also keep_offsets keep_rates)
