-- What the words of the rows of cycles say.
use Rattle.std.proofs.Common.{◌≡◌, Bool, true, false, Option, Some, None, ℤ, pos, List, refl, arith}
use Rattle.std.specs.Prelude.{◌+ℤ◌, ◌≤ℤ◌, IfSome, int_le, int_lt, if◌then◌else◌}
use Rattle.std.proofs.lemmas.Int.{ints}
use Rattle.fr_base.specs.declared.node_row.NodeRow.{NodeRow}
use Rattle.fr_cluster.specs.Values.{Values}
use Rattle.fr_course.specs.Readings.{reading_scale}
use Rattle.fr_observe.specs.Observing.{even_high, even_low, odd_high, odd_low, says_of, says_up_to}
use Rattle.fr_observe.specs.declared.says.Says.TheVariants.{Over, Within, Open}
use Rattle.fr_seen.specs.Skews.{HasSkew, StaysWithin, spread_among}
use Rattle.fr_seen.specs.LogSeen.{EvenWordsHold, OddWordsHold, SaysSo, log_senders, sender_rows}
use Rattle.fr_seen.proofs.RowLaws.{observed_next_rows_hold, observed_rows_hold}

says_within : (p : Values) (odd : Bool) (rows : List NodeRow) (precision : ℤ) (high : Option ℤ) → IfSome high (StaysWithin p odd rows)
    → SaysSo p odd rows precision (says_up_to precision high)
says_within p odd rows precision None stays = tt
says_within p odd rows precision (Some high) stays = by (int_le high precision) refl
  where
    no_more : (s high precision : ℤ) → int_le high precision ≡ true → s ≤ℤ high → s ≤ℤ precision
    no_more s high precision is le = grind (arith, ints)

    by : (within : Bool) → int_le high precision ≡ within → SaysSo p odd rows precision (if within then Within else Open)
    by true is = λ macrotick from to. no_more (spread_among p odd macrotick rows) high precision is (stays macrotick from to)
    by false is = tt

says_so : (p : Values) (odd : Bool) (rows : List NodeRow) (precision low : ℤ) (high : Option ℤ) → HasSkew p odd rows low → IfSome high (StaysWithin p odd rows)
    → SaysSo p odd rows precision (says_of precision low high)
says_so p odd rows precision low high has stays = by (int_lt precision low) refl
  where
    more : (s low precision : ℤ) → int_lt precision low ≡ true → low ≤ℤ s → (precision +ℤ pos 1) ≤ℤ s
    more s low precision is le = grind (arith, ints)

    by : (over : Bool) → int_lt precision low ≡ over → SaysSo p odd rows precision (if over then Over else says_up_to precision high)
    by true is =
        record { macrotick = has.macrotick; from = has.from; to = has.to; reached = more (spread_among p odd has.macrotick rows) low precision is has.reached }
    by false is = says_within p odd rows precision high stays

pub even_words_hold : EvenWordsHold
even_words_hold x h base delays clock l double even odd precision run is_log is has =
    let senders = log_senders x l double in
    let scale = reading_scale l.drift x.params in
    let rows = (observed_rows_hold x h base delays clock l double even odd run is_log is has).cycles in
    says_so x.params false (sender_rows even senders) precision (even_low scale senders) (even_high scale senders) rows.even_from rows.even_to

pub odd_words_hold : OddWordsHold
odd_words_hold x h base delays clock l double even odd next_even next_odd precision run is_log is has next_has =
    let senders = log_senders x l double in
    let scale = reading_scale l.drift x.params in
    let rows = (observed_rows_hold x h base delays clock l double even odd run is_log is has).cycles in
    let next = observed_next_rows_hold x h base delays clock l double even odd next_even next_odd run is_log is has next_has in
    says_so x.params true (sender_rows odd senders) precision (odd_low scale senders) (odd_high scale senders) rows.odd_from next.cycle
