-- What the clocks of a cycle run by, given the cycles before it: those of the nodes that have a row, and of those that
-- follow.
use Rattle.std.specs.Prelude.{ℕ, ℤ, pos, List, [], ◌∷◌, length, Option, Some, None, if◌then◌else◌}
use Rattle.fr_base.specs.declared.dev.Dev.{Dev}
use Rattle.fr_base.specs.declared.node_row.NodeRow.{NodeRow}
use Rattle.fr_base.specs.declared.state.State.TheVariants.{Passive}
use Rattle.fr_cluster.specs.Values.{Values}
use Rattle.fr_time.specs.Cycles.{is_odd}
use Rattle.fr_time.specs.Instant.{next_start_of}
use Rattle.fr_time.specs.Position.{grid_for}
use Rattle.fr_reception.specs.Listening.{Caught, first_rate_of, first_start_of}
use Rattle.fr_history.specs.History.{row_of}
use Rattle.fr_history.specs.Rows.{ClockLaws, rate_by}
use Rattle.fr_history.specs.Terms.{cuts_by, offset_term_by, rate_term_by, status_in}
use Rattle.fr_history.specs.Catching.{begins_with}
use Rattle.fr_cluster.specs.declared.join.Join.{Join}
use Rattle.fr_cluster.specs.Setting.{Setting}
use Rattle.fr_history.specs.Cycles.{Cycle, Cycles, follower_devs_after, told_of}

-- what a node begins to follow with, as a start and as a rate
abbrev pub begun_by : Setting → Cycles → ℕ → Option Join → Option Caught
begun_by x h node None = None
begun_by x h node (Some join) = begins_with x h node join

abbrev pub caught_start : Values → Option Caught → ℤ
caught_start p None = pos 0
caught_start p (Some c) = first_start_of p c

abbrev pub caught_rate : Values → Option Caught → ℤ
caught_rate p None = pos 0
caught_rate p (Some c) = first_rate_of p c

-- ---- starts: that of cycle 0 is given; a clock's cycle begins where the one before ends, as a follower too; and a node
-- that begins to follow begins at its first start

-- of a node that had no row, by its row as a follower if it had one
abbrev pub follower_start : Setting → Cycles → ℕ → Option NodeRow → ℤ
follower_start x h node None = caught_start x.params (begun_by x h node (x.join node))
follower_start x h node (Some before) = next_start_of (grid_for x.params) before

-- by its row, if it had one, and its row as a follower
abbrev pub start_by_rows : Setting → Cycles → ℕ → Option NodeRow → Option NodeRow → ℤ
start_by_rows x h node (Some before) follower = next_start_of (grid_for x.params) before
start_by_rows x h node None follower = follower_start x h node follower

abbrev pub start_of_next : Setting → Cycles → ℕ → ℤ
start_of_next x [] node = x.start node
start_of_next x (c ∷ h) node = start_by_rows x (c ∷ h) node (row_of c.told.rows node) (row_of c.followers node)

-- ---- rates, the same way: after a double cycle in which a node followed it has the rate term of its deviations there

abbrev pub follower_rate : Setting → Cycle → Cycles → ℕ → Option NodeRow → ℤ
follower_rate x c h node None = caught_rate x.params (begun_by x (c ∷ h) node (x.join node))
follower_rate x c h node (Some before) =
    if is_odd (length h)
    then (rate_term_by x.params (follower_devs_after h) c.follower_devs before None).value
    else before.rate

abbrev pub rate_by_rows : Setting → Cycle → Cycles → ℕ → Option NodeRow → Option NodeRow → ℤ
rate_by_rows x c h node (Some before) follower = rate_by x.params (told_of h) c.told (Some before)
rate_by_rows x c h node None follower = follower_rate x c h node follower

abbrev pub rate_of_next : Setting → Cycles → ℕ → ℤ
rate_of_next x [] node = x.rate node
rate_of_next x (c ∷ h) node = rate_by_rows x c h node (row_of c.told.rows node) (row_of c.followers node)

-- ---- the laws

-- of the nodes that have a row: their states come of the double cycles in which they had one
abbrev pub row_laws : Setting → Cycles → ClockLaws
row_laws x h = record {
  start = start_of_next x h;
  microtick = λ node. x.microtick node (length h);
  rate = rate_of_next x h;
  state = λ node. (status_in x.params (told_of h) node).state;
}

-- of the nodes that follow: their state is Passive
abbrev pub follower_laws : Setting → Cycles → ClockLaws
follower_laws x h = record {
  start = start_of_next x h;
  microtick = λ node. x.microtick node (length h);
  rate = rate_of_next x h;
  state = λ node. Passive;
}

-- the offset with which a follower's cycle ends, and how many of its two terms were cut there: none in even cycles, else by
-- the terms of its deviations, with no value of its own
abbrev pub follower_offset : Values → Cycles → List Dev → NodeRow → ℤ
follower_offset p h devs row =
    if is_odd (length h) then (offset_term_by p (follower_devs_after h) devs row.node None).value else pos 0

abbrev pub follower_cut : Values → Cycles → List Dev → NodeRow → ℕ
follower_cut p h devs row = if is_odd (length h) then cuts_by p (follower_devs_after h) devs row None else 0
