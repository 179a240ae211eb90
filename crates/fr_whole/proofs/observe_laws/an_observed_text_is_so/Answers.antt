use Rattle.fr_whole.proofs.ObservedTexts.{observed_text}
use Rattle.fr_whole.proofs.observe_laws.an_observed_text_is_so.Goals as goal

pub returns : goal.returns
returns c =
    observed_text
    (record {
      told = c.text_tells_doubles.ensures;
      there = c.doubles_are_there.ensures;
      rows = c.observed_rows_hold.ensures.rows;
      next_rows = c.observed_rows_hold.ensures.next;
      even_says = c.cycle_words_hold.ensures.even;
      odd_says = c.cycle_words_hold.ensures.odd;
      either = c.no_fault_is_told.ensures.run;
      stated = c.no_fault_is_told.ensures.stated;
      own = c.no_fault_is_told.ensures.run_with_own_slots;
      none = c.no_fault_is_told.ensures.stated_with_own_slots;
      first = c.verdict_tells_first.ensures;
      not_stated = c.no_run_is_contradicted.ensures.sync;
      asks = c.no_run_is_contradicted.ensures.own;
      counted = c.over_is_so.ensures.counted;
      over = c.over_is_so.ensures.over;
      within_there = c.within_is_so.ensures.there;
      within = c.within_is_so.ensures.within;
      reaches = c.within_is_so.ensures.ends;
      spreads = c.spreads_are_so.ensures;
      missed = c.missings_are_so.ensures;
      timely = c.near_is_timely.ensures;
    })
