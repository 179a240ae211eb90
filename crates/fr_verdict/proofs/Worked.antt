-- The worked traces, computed.
use Rattle.std.specs.Prelude.{⊤, refl}
use Rattle.fr_bound.specs.Sync.{is_in_sync}
use Rattle.fr_coverage.specs.First.{first_below, first_in}
use Rattle.fr_history.specs.History.{record_at}
use Rattle.fr_history.specs.Skew.{greatest_skew_of}
use Rattle.fr_history.specs.Terms.{outcomes_in}
use Rattle.fr_measure.specs.Values.{values_of}
use Rattle.fr_midpoint.specs.Midpoint.{midpoint_by_ranks}
use Rattle.fr_skew.specs.Spreads.{spread_at}
use Rattle.fr_skew.specs.Sweep.{greatest_within}
use Rattle.fr_trace.specs.Items.{items_by, items_in, numbered}
use Rattle.fr_trace.specs.Trace.{row_at}
use Rattle.fr_verdict.specs.FirstGap.{first_gap_of}
use Rattle.fr_verdict.specs.Search.{breach_by, first_breach_of, first_from}
use Rattle.fr_verdict.specs.Sync.{first_synced_of}
use Rattle.fr_verdict.specs.Worked.{DevsAreBroken, GapsAreFound, ItemsAreNumbered, JoinedIsLawful, NodesAreApart, RowsAreBroken, TermsAreBroken, WorkedIsLawful}

-- what computing a trace opens
unfoldable pub on_traces : ⊤
unfolding first_breach_of first_from breach_by first_below items_in items_by numbered outcomes_in values_of midpoint_by_ranks record_at row_at
on_traces = tt

pub items_are_numbered : ItemsAreNumbered
unfolding on_traces
items_are_numbered = refl

pub worked_is_lawful : WorkedIsLawful
unfolding on_traces is_in_sync first_synced_of greatest_skew_of greatest_within spread_at
worked_is_lawful = (refl, refl, refl)

pub rows_are_broken : RowsAreBroken
unfolding on_traces
rows_are_broken = (refl, refl, refl)

pub terms_are_broken : TermsAreBroken
unfolding on_traces
terms_are_broken = (refl, refl, refl)

pub devs_are_broken : DevsAreBroken
unfolding on_traces
devs_are_broken = (refl, refl)

pub gaps_are_found : GapsAreFound
unfolding on_traces is_in_sync first_synced_of first_gap_of first_in
gaps_are_found = (refl, refl, refl)

pub joined_is_lawful : JoinedIsLawful
unfolding on_traces is_in_sync first_synced_of first_gap_of first_in
joined_is_lawful = (refl, refl, refl)

pub nodes_are_apart : NodesAreApart
unfolding on_traces is_in_sync first_synced_of
nodes_are_apart = (refl, refl)
