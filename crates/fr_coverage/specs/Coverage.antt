-- The gaps for which a run is not covered by the precision theorem, in the order in which they are looked for.
use Rattle.std.specs.Prelude.{ℕ, ℤ, pos, ◌+ℤ◌, ◌-ℤ◌, ◌*ℤ◌, int_lt, suc, ◌-◌, ◌*◌, ◌&&◌, ◌||◌, Bool, true, false, not, List, count_by, filter, Option, Some, None, is_none, is_some, if◌then◌else◌}
use Rattle.std.specs.List.{list_any}
use Rattle.std.specs.Option.{option_or}
use Rattle.fr_base.specs.declared.channel.Channel.{Channel}
use Rattle.fr_base.specs.declared.channel.Channel.TheVariants as channel
use Rattle.fr_cluster.specs.Values.{Values, amount}
use Rattle.fr_cluster.specs.Questions.{compensation_of}
use Rattle.fr_cluster.specs.declared.nodes.NodeSpec.{NodeSpec}
use Rattle.fr_cluster.specs.declared.names.ParamName.TheVariants as name
use Rattle.fr_bound.specs.Bounds.{nominal, longest_micro, shortest_micro}
use Rattle.fr_bound.specs.Checks.{left_of, right_of, holds_of}
use Rattle.fr_bound.specs.Outweighing.{outweighs}
use Rattle.fr_drift.specs.View.{DriftView}
use Rattle.fr_drift.specs.Questions.{doubles_of, length_of, delay_of}
use Rattle.fr_script.specs.View.{ScriptView, is_arbitrary, join_of}
use Rattle.fr_coverage.specs.Links.{is_sync, is_link, shares, link_gap}
use Rattle.fr_coverage.specs.First.{first_below, first_between, first_in}
use Rattle.fr_coverage.specs.declared.gap.Gap.{Gap}
use Rattle.fr_coverage.specs.declared.gap.Gap.TheVariants as gap

-- the cycles of the run
abbrev pub how_many_cycles : DriftView → ℕ
how_many_cycles d = 2 * doubles_of d

-- 1: the check after k others, numbered from 1, fails
abbrev pub check_gap : Values → ℕ → Option Gap
check_gap p k = if holds_of (suc k) p then None else Some (gap.Check (suc k) (pos (left_of (suc k) p)) (pos (right_of (suc k) p)))

-- of those that are asked of each cluster
abbrev pub checks_gap : Values → Option Gap
checks_gap p = first_below (check_gap p) 5

-- whether some correct node joins the running cluster
abbrev pub some_join_in : List NodeSpec → ScriptView → Bool
some_join_in nodes s = list_any (λ node. is_some (join_of s node.id)) (filter (λ node. not (is_arbitrary s node.id)) nodes)

abbrev pub some_join : Values → ScriptView → Bool
some_join p s = some_join_in p.nodes s

-- how many checks are asked of a run: four more where some node joins
abbrev pub asked_where : Bool → ℕ
asked_where joins = if joins then 9 else 5

abbrev pub asked_checks : Values → ScriptView → ℕ
asked_checks p s = asked_where (some_join p s)

abbrev pub run_checks_gap : Values → ScriptView → Option Gap
run_checks_gap p s = first_below (check_gap p) (asked_checks p s)

-- 2: so many correct sync nodes that take part from cycle 0 on do not outweigh so many arbitrary ones
abbrev pub is_counted_on : ScriptView → ℕ → Bool
is_counted_on s node = not (is_arbitrary s node) && is_none (join_of s node)

abbrev pub is_counted : ScriptView → Bool → NodeSpec → Bool
is_counted s arbitrary node = is_sync node && (if arbitrary then is_arbitrary s node.id else is_counted_on s node.id)

abbrev pub count_of : ScriptView → Bool → List NodeSpec → ℕ
count_of s arbitrary nodes = count_by (is_counted s arbitrary) nodes

abbrev pub weighed : List NodeSpec → ScriptView → Option Gap
weighed nodes s =
    if outweighs (count_of s false nodes) (count_of s true nodes) then None else Some (gap.Count (count_of s false nodes) (count_of s true nodes))

abbrev pub count_gap : Values → ScriptView → Option Gap
count_gap p s = weighed p.nodes s

-- the next four are asked of the double cycles from one of them on, and of the run where this is the first

-- 3: a microtick is shorter than the shortest or longer than the longest
abbrev pub is_off : Values → ℤ → Bool
is_off p ticks = int_lt ticks (pos (shortest_micro p)) || int_lt (pos (longest_micro p)) ticks

abbrev pub length_gap : Values → DriftView → ℕ → ℕ → Option Gap
length_gap p d node cycle = if is_off p (length_of d node cycle) then Some (gap.Length node cycle (length_of d node cycle)) else None

abbrev pub lengths_gap : Values → DriftView → ScriptView → ℕ → NodeSpec → Option Gap
lengths_gap p d s from node =
    if is_arbitrary s node.id then None else first_between (length_gap p d node.id) (2 * from) (how_many_cycles d)

-- 4: a microtick differs by too much from that of the cycle before, which is one of those that are asked of too
abbrev pub has_jumped : Values → ℤ → ℤ → Bool
has_jumped p before ticks =
    int_lt (before +ℤ pos (amount p name.xChangeBound)) ticks || int_lt (ticks +ℤ pos (amount p name.xChangeBound)) before

abbrev pub change_gap : Values → DriftView → ℕ → ℕ → Option Gap
change_gap p d node cycle =
    if has_jumped p (length_of d node (cycle - 1)) (length_of d node cycle)
    then Some (gap.Change node cycle (length_of d node cycle -ℤ length_of d node (cycle - 1)))
    else None

abbrev pub changes_gap : Values → DriftView → ScriptView → ℕ → NodeSpec → Option Gap
changes_gap p d s from node =
    if is_arbitrary s node.id then None else first_between (change_gap p d node.id) (suc (2 * from)) (how_many_cycles d)

-- 5: a delay lies too far from what is taken off each arrival on its channel
abbrev pub expected_delay : Values → Channel → ℤ
expected_delay p ch = compensation_of p ch *ℤ pos nominal

abbrev pub is_wrong : Values → Channel → ℤ → Bool
is_wrong p ch ticks =
    int_lt (ticks +ℤ pos (amount p name.xDelayError)) (expected_delay p ch) || int_lt (expected_delay p ch +ℤ pos (amount p name.xDelayError)) ticks

abbrev pub delay_gap : Values → DriftView → ℕ → ℕ → Channel → ℕ → Option Gap
delay_gap p d sender receiver ch cycle =
    if is_wrong p ch (delay_of d sender receiver ch cycle) then Some (gap.Delay sender receiver ch cycle (delay_of d sender receiver ch cycle)) else None

abbrev pub channel_gap : Values → DriftView → ℕ → NodeSpec → NodeSpec → Channel → Option Gap
channel_gap p d from a b ch = if shares a b ch then first_between (delay_gap p d a.id b.id ch) (2 * from) (how_many_cycles d) else None

abbrev pub delays_gap : Values → DriftView → ScriptView → ℕ → NodeSpec → NodeSpec → Option Gap
delays_gap p d s from a b =
    if is_link s a b then option_or (channel_gap p d from a b channel.A) (channel_gap p d from a b channel.B) else None

-- 6: in a double cycle no channel that both have carries the regular frames of both cycles
abbrev pub links_gap : DriftView → ScriptView → ℕ → NodeSpec → NodeSpec → Option Gap
links_gap d s from a b = if is_link s a b then first_between (link_gap s a b) from (doubles_of d) else None

-- the first gap of the nodes, and that of the pairs of nodes
abbrev pub first_of_nodes : Values → (NodeSpec → Option Gap) → Option Gap
first_of_nodes p what = first_in what p.nodes

abbrev pub first_of_pairs : Values → (NodeSpec → NodeSpec → Option Gap) → Option Gap
first_of_pairs p what = first_in (λ a. first_in (what a) p.nodes) p.nodes

abbrev pub pairs_gap : Values → DriftView → ScriptView → ℕ → Option Gap
pairs_gap p d s from = option_or (first_of_pairs p (delays_gap p d s from)) (first_of_pairs p (links_gap d s from))

-- the first gap of the double cycles from one on, whatever the checks of the parameters say: counts, lengths, changes, delays, links
abbrev pub gap_from : Values → DriftView → ScriptView → ℕ → Option Gap
gap_from p d s from =
    option_or (count_gap p s)
    (option_or (first_of_nodes p (lengths_gap p d s from))
    (option_or (first_of_nodes p (changes_gap p d s from)) (pairs_gap p d s from)))

-- and that of the run itself
abbrev pub gap_of_run : Values → DriftView → ScriptView → Option Gap
gap_of_run p d s = gap_from p d s 0

-- the first gap in the stated order, if there is one: checks, and then those of the run itself
unfoldable pub first_gap : Values → DriftView → ScriptView → Option Gap
first_gap p d s = option_or (run_checks_gap p s) (gap_of_run p d s)
