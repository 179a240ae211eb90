-- Arbitrary sync nodes of a recorded trace whose frames reach all correct nodes or none, at one time: they cost nothing.
use Rattle.std.specs.Prelude.{◌≡◌, ◌+◌, ◌-◌, ◌*◌, ◌<◌, ◌≤◌, ◌&&◌, ◌||◌, not, nat_lt, int_le, ℕ, suc, ℤ, pos, ◌-ℤ◌, Bool, true, false, [], List, Contains, Option, Some, None, if◌then◌else◌}
use Rattle.std.specs.List.{list_all}
use Rattle.std.specs.Option.{option_map, option_map_or}
use Rattle.fr_base.specs.Rows.{dev_in}
use Rattle.fr_base.specs.Within.{IsWithin}
use Rattle.fr_base.specs.declared.channel.Channel.TheVariants as channel
use Rattle.fr_base.specs.declared.dev.Dev.{Dev}
use Rattle.fr_base.specs.declared.node_row.NodeRow.{NodeRow}
use Rattle.fr_cluster.specs.Values.{Values}
use Rattle.fr_cluster.specs.declared.nodes.NodeSpec.{NodeSpec}
use Rattle.fr_measure.specs.Values.{change_of, least_of, mean_of}
use Rattle.fr_midpoint.specs.Receivers.{measured_place}
use Rattle.fr_bound.specs.Bounds.{longest_micro}
use Rattle.fr_bound.specs.SharpBounds.{sharp_near, sharp_pi, steady_error}
use Rattle.fr_bound.specs.SharpChecks.{sharp_holds_of}
use Rattle.fr_coverage.specs.First.{first_below}
use Rattle.fr_history.specs.History.{Record, record_at}
use Rattle.fr_precision.specs.Alike.{BothAlike}
use Rattle.fr_precision.specs.Rows.{end_of}
use Rattle.fr_precision.specs.Steady.{placed_length}
use Rattle.fr_trace.specs.Trace.{TraceView, is_named}
use Rattle.fr_verdict.specs.SharpTraces.{recorded_flutter, IsRecordedInSharpSync, IsSteadyTrace, KeepsSharpClocks, StaysRecordedInSharpSync, TracedChecksHold}
use Rattle.fr_cluster.specs.Sane.{IsSane}
use Rattle.fr_trace.specs.Fits.{TraceFits}
use Rattle.fr_trace.specs.Lasting.{IsTrace}
use Rattle.fr_verdict.specs.Answer.{IsVerdict}
use Rattle.fr_verdict.specs.declared.unlawful.Verdict.{Verdict}

-- ---- places

-- the ranges in which they are computed: in ticks where a row ends and where a value places its sender, and in microticks how far
-- a deviation lies from another
abbrev pub IsRowEnd : ℤ → Type 0
IsRowEnd at = IsWithin (pos 1_114_000_000_000_000_000) at

abbrev pub IsValuePlace : ℤ → Type 0
IsValuePlace at = IsWithin (pos 1_200_000_000_000_000_000) at

abbrev pub IsDevChange : ℤ → Type 0
IsDevChange value = IsWithin (pos 4_294_967_296) value

-- the offset value that a receiver has of the node of a slot, by its deviations of an odd cycle
abbrev pub said_offset : List Dev → ℕ → ℕ → Option ℤ
said_offset odds receiver slot = least_of (dev_in odds receiver slot channel.A) (dev_in odds receiver slot channel.B)

-- its rate value, by those of both cycles: a channel counts that has one in both
abbrev pub said_rate : List Dev → List Dev → ℕ → ℕ → Option ℤ
said_rate evens odds receiver slot =
    mean_of
    (change_of (dev_in evens receiver slot channel.A) (dev_in odds receiver slot channel.A))
    (change_of (dev_in evens receiver slot channel.B) (dev_in odds receiver slot channel.B))

-- where the offset value lies, in ticks: so many microticks behind the end of the receiver's odd row
abbrev pub offset_place_in : List Dev → ℕ → Values → NodeRow → Option ℤ
offset_place_in odds slot p row = option_map (measured_place (end_of p row) row.length) (said_offset odds row.node slot)

abbrev pub offset_place : Record → ℕ → Values → NodeRow → Option ℤ
offset_place odd slot p row = offset_place_in odd.devs slot p row

-- where the rate value lies: so many microticks above the length of that row
abbrev pub rate_place_in : List Dev → List Dev → ℕ → Values → NodeRow → Option ℤ
rate_place_in evens odds slot p row = option_map (placed_length p row) (said_rate evens odds row.node slot)

abbrev pub rate_place : Record → Record → ℕ → Values → NodeRow → Option ℤ
rate_place even odd slot p row = rate_place_in even.devs odd.devs slot p row

-- ---- alike

-- how near the offset values of one correct sender lie at any two receivers in sync without arbitrary nodes, in ticks: within pi,
-- less a microtick
abbrev pub alike_offsets : Values → ℕ
alike_offsets p = sharp_pi false p (recorded_flutter p) - longest_micro p

-- and its rate values
abbrev pub alike_rates : Values → ℕ
alike_rates p = 2 * steady_error p (recorded_flutter p)

-- of any two receivers either neither has a value of a sender, or both have, and these lie so near
abbrev pub LieAlike : ℕ → (NodeRow → Option ℤ) → List NodeRow → Type 0
LieAlike bound place rows =
    (one other : NodeRow) → Contains rows one → Contains rows other
    → BothAlike (λ a b. IsWithin (pos bound) (a -ℤ b)) (place one) (place other)

-- the node of a slot is alike in a double cycle: its offset values lie so at all nodes with rows, and its rate values
pub record IsSaidAlike (p : Values) (even odd : Record) (slot : ℕ) : Type 0 where
  pub offsets : LieAlike (alike_offsets p) (offset_place odd slot p) odd.rows
  pub rates : LieAlike (alike_rates p) (rate_place even odd slot p) odd.rows

-- in a double cycle each sync node that a trace names arbitrary is
abbrev pub AreAllAlike : Values → TraceView → ℕ → Type 0
AreAllAlike p t k =
    (even odd : Record) (node : NodeSpec) (slot : ℕ)
    → record_at t.history (2 * k) ≡ Some even → record_at t.history (suc (2 * k)) ≡ Some odd
    → Contains p.nodes node → node.key ≡ Some slot → is_named t node.id ≡ true → IsSaidAlike p even odd slot

-- so it is from a double cycle on; beside arbitrary nodes nothing is asked
abbrev pub AreSaidFrom : Bool → Values → TraceView → ℕ → Type 0
AreSaidFrom false p t double = (k : ℕ) → double ≤ k → k < t.doubles → AreAllAlike p t k
AreSaidFrom true p t double = Unit {0}

-- a trace is steady beside arbitrary nodes from a double cycle on, and in each from there on these are alike
pub record IsSteadyAlike (p : Values) (t : TraceView) (double : ℕ) : Type 0 where
  pub steady : IsSteadyTrace true p t double
  pub alike : AreSaidFrom false p t double

-- ---- the same as functions

abbrev pub are_both_near : ℕ → Option ℤ → Option ℤ → Bool
are_both_near bound None None = true
are_both_near bound None (Some other) = false
are_both_near bound (Some one) None = false
are_both_near bound (Some one) (Some other) = int_le (one -ℤ other) (pos bound) && int_le (other -ℤ one) (pos bound)

abbrev pub is_near_all : ℕ → (NodeRow → Option ℤ) → List NodeRow → NodeRow → Bool
is_near_all bound place rows one = list_all (λ other. are_both_near bound (place one) (place other)) rows

abbrev pub is_said_alike_in : Values → List Dev → List Dev → ℕ → List NodeRow → Bool
is_said_alike_in p evens odds slot rows =
    list_all (is_near_all (alike_offsets p) (offset_place_in odds slot p) rows) rows
    && list_all (is_near_all (alike_rates p) (rate_place_in evens odds slot p) rows) rows

abbrev pub is_said_alike : Values → Record → Record → ℕ → Bool
is_said_alike p even odd slot = is_said_alike_in p even.devs odd.devs slot odd.rows

-- whether a node is alike, if it is a sync node that the trace names
abbrev pub is_node_alike : Values → TraceView → Record → Record → NodeSpec → Bool
is_node_alike p t even odd node = not (is_named t node.id) || option_map_or (is_said_alike p even odd) node.key true

abbrev pub are_alike_in : Values → TraceView → Option Record → Option Record → Bool
are_alike_in p t None odd = true
are_alike_in p t (Some even) None = true
are_alike_in p t (Some even) (Some odd) = list_all (is_node_alike p t even odd) p.nodes

unfoldable pub are_all_alike : Values → TraceView → ℕ → Bool
are_all_alike p t k = are_alike_in p t (record_at t.history (2 * k)) (record_at t.history (suc (2 * k)))

-- the first double cycle from one on in which some is not
abbrev pub unlike_at : Values → TraceView → ℕ → ℕ → Option ℕ
unlike_at p t double k = if nat_lt k double || are_all_alike p t k then None else Some k

abbrev pub first_unlike : Values → TraceView → ℕ → Option ℕ
first_unlike p t double = first_below (unlike_at p t double) t.doubles

-- where there is none, each is alike in each from there on; and where there is one, not in it, and in each before it
abbrev pub FirstUnlikeIsFound : Type 0
FirstUnlikeIsFound =
    (p : Values) (t : TraceView) (double : ℕ)
    → (first_unlike p t double ≡ None → (k : ℕ) → double ≤ k → k < t.doubles → AreAllAlike p t k)
    × ((k : ℕ) → first_unlike p t double ≡ Some k
    → (double ≤ k) × (k < t.doubles) × (AreAllAlike p t k → ⊥) × ((earlier : ℕ) → double ≤ earlier → earlier < k → AreAllAlike p t earlier))

-- ---- laws

-- one that names no sync node arbitrary is such a one
abbrev pub UnnamedTracesAreAlike : Type 0
UnnamedTracesAreAlike = (p : Values) (t : TraceView) (double : ℕ) → IsSteadyTrace false p t double → IsSteadyAlike p t double

-- from a double cycle on that is in sharp sync as without arbitrary nodes, with lengths in their range, such a trace is so in each
-- later one, as long as the walk lasts, on the precision without arbitrary nodes
abbrev pub AlikeTracesKeepSharpSync : Type 0
AlikeTracesKeepSharpSync =
    (p : Values) (t : TraceView) (double : ℕ)
    → IsSteadyAlike p t double → TracedChecksHold false p → IsRecordedInSharpSync false p (pos 0) t.history double
    → (passed : ℕ) → double + passed < t.doubles → StaysRecordedInSharpSync false p t double passed

-- and to its end where the first check holds too
abbrev pub AlikeTracesKeepPrecision : Type 0
AlikeTracesKeepPrecision =
    (p : Values) (t : TraceView) (double : ℕ)
    → IsSteadyAlike p t double
    → sharp_holds_of 1 (recorded_flutter p) (sharp_near false p (recorded_flutter p)) p ≡ true → TracedChecksHold false p
    → IsRecordedInSharpSync false p (pos 0) t.history double → KeepsSharpClocks false p t double

-- a trace that passes, and that no node joins, does so from each double cycle in sharp sync on behind its first one in sync, where
-- arbitrary nodes are alike from there on, or by the numbers beside them
abbrev pub PassingTracesKeepSharply : Type 0
PassingTracesKeepSharply =
    (beside : Bool) (p : Values) (t : TraceView) (v : Verdict) (synced double : ℕ)
    → IsSane p → IsTrace t → TraceFits p t → t.joins ≡ [] → IsVerdict p t v → v.synced ≡ Some synced → synced ≤ double
    → AreSaidFrom beside p t double → IsRecordedInSharpSync beside p (pos 0) t.history double → KeepsSharpClocks beside p t double
