-- The terms of the senders of a log in a double cycle that is judged are those that the courses of the others allow.
use Rattle.fr_course.specs.Computed.{ValuesAreCounted, ValuesArePlaced}
use Rattle.fr_course.specs.Middles.{MiddlesHold}
use Rattle.fr_observe.specs.Faults.{stated_flutter}
use Rattle.fr_seen.specs.LogSeen.{run_double}
use Rattle.fr_seen_runs.specs.JudgedTerms.{OffsetsAreComputed, RatesAreComputed}
use Rattle.fr_seen_runs.proofs.ComputedLaws.{is_sender, misses_own, offset_lies, own_row, rate_lies}
use Rattle.fr_seen_runs.proofs.JudgedRounds.{offsets_are_midpoints, rates_grow_by_midpoints}

pub offsets_are_computed : ValuesAreCounted → MiddlesHold → OffsetsAreComputed
offsets_are_computed counted holds what x h base delays clock l double lost known even odd s node log j two here correct same misses =
    offset_lies x h base delays clock l double log even odd two s here lost (misses_own x h base delays clock l double log even odd two s here lost node correct same misses) holds counted
    (
    offsets_are_midpoints what x (stated_flutter x.params l) h (run_double base double) known even odd (is_sender x h base delays clock l double log even odd two s here).0 j two
    (own_row x h base delays clock l double log even odd two s here)
    )

pub rates_are_computed : ValuesAreCounted → ValuesArePlaced → MiddlesHold → RatesAreComputed
rates_are_computed counted placed holds what x h base delays clock l double lost known even odd next_even next_odd s node log j two next here correct same misses =
    rate_lies x h base delays clock l double log even odd two s here lost (misses_own x h base delays clock l double log even odd two s here lost node correct same misses) holds counted placed
    (
    rates_grow_by_midpoints what x (stated_flutter x.params l) h (run_double base double) known even odd (is_sender x h base delays clock l double log even odd two s here).0 j two
    (own_row x h base delays clock l double log even odd two s here)
    )
    next_even next_odd next
