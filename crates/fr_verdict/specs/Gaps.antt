-- Why a lawful trace is not covered by the precision theorem: facts about what it records.
use Rattle.std.specs.Prelude.{◌≡◌, ◌⊎◌, ℕ, suc, ◌*◌, ◌==◌, ◌<◌, ◌≤◌, pos, ◌-ℤ◌, ◌&&◌, ◌||◌, not, Bool, true, false, Contains, Some, option_and_then, is_some}
use Rattle.fr_base.specs.Rows.{dev_in}
use Rattle.fr_base.specs.declared.channel.Channel.{Channel}
use Rattle.fr_base.specs.declared.channel.Channel.TheVariants as channel
use Rattle.fr_base.specs.declared.node_row.NodeRow.{NodeRow}
use Rattle.fr_cluster.specs.Values.{Values}
use Rattle.fr_cluster.specs.declared.nodes.NodeSpec.{NodeSpec}
use Rattle.fr_bound.specs.Checks.{holds_of, left_of, right_of}
use Rattle.fr_bound.specs.Outweighing.{outweighs}
use Rattle.fr_precision.specs.Round.{sync_count}
use Rattle.fr_coverage.specs.Coverage.{has_jumped, is_off}
use Rattle.fr_coverage.specs.Links.{shares}
use Rattle.fr_coverage.specs.Order.{IsEarlierGap}
use Rattle.fr_coverage.specs.declared.gap.Gap.{Gap}
use Rattle.fr_coverage.specs.declared.gap.Gap.TheVariants as gap
use Rattle.fr_history.specs.History.{History, record_at}
use Rattle.fr_trace.specs.Trace.{TraceView, is_named, row_at, traced_join_in}
use Rattle.fr_verdict.specs.Sync.{IsFirstSynced}

-- one of the first five checks fails: the others are of a node that listens and follows, of which a trace tells nothing
pub record IsTracedCheckGap (p : Values) (g : Gap) : Type 0 where
  pub number : ℕ
  pub from : 1 ≤ number
  pub to : number ≤ 5
  pub fails : holds_of number p ≡ false
  pub told : g ≡ gap.Check number (pos (left_of number p)) (pos (right_of number p))

-- a node that a trace does not name arbitrary
abbrev pub is_unnamed : TraceView → ℕ → Bool
is_unnamed t node = not (is_named t node)

-- such a node that does not join, but takes part from the first cycle on
abbrev pub is_lasting : TraceView → ℕ → Bool
is_lasting t node = is_unnamed t node && not (is_some (traced_join_in t node))

-- those of them that have a key slot do not outweigh the arbitrary nodes
pub record IsTracedCountGap (p : Values) (t : TraceView) (g : Gap) : Type 0 where
  pub few : outweighs (sync_count p (is_lasting t)) (sync_count p (is_named t)) ≡ false
  pub told : g ≡ gap.Count (sync_count p (is_lasting t)) (sync_count p (is_named t))

-- a recorded microtick is too short or too long
pub record IsTracedLengthGap (p : Values) (t : TraceView) (g : Gap) : Type 0 where
  pub node : NodeSpec
  pub known : Contains p.nodes node
  pub cycle : ℕ
  pub row : NodeRow
  pub there : row_at t.history cycle node.id ≡ Some row
  pub off : is_off p row.length ≡ true
  pub told : g ≡ gap.Length node.id cycle row.length

-- it has changed by too much since the cycle before
pub record IsTracedChangeGap (p : Values) (t : TraceView) (g : Gap) : Type 0 where
  pub node : NodeSpec
  pub known : Contains p.nodes node
  pub cycle : ℕ
  pub before : NodeRow
  pub row : NodeRow
  pub earlier : row_at t.history cycle node.id ≡ Some before
  pub there : row_at t.history (suc cycle) node.id ≡ Some row
  pub jumped : has_jumped p before.length row.length ≡ true
  pub told : g ≡ gap.Change node.id (suc cycle) (row.length -ℤ before.length)

-- a correct node with a key slot, and another correct node
abbrev pub is_pair : TraceView → NodeSpec → NodeSpec → Bool
is_pair t sender receiver = is_some sender.key && is_unnamed t sender.id && is_unnamed t receiver.id && not (sender.id == receiver.id)

-- whether a receiver has a deviation of a sender in a cycle on a channel
abbrev pub has_dev : History → ℕ → NodeSpec → NodeSpec → Channel → Bool
has_dev h cycle sender receiver ch =
    is_some (option_and_then (λ r. option_and_then (λ slot. dev_in r.devs receiver.id slot ch) sender.key) (record_at h cycle))

-- on a channel that both have there is one in both cycles of a double cycle
abbrev pub is_heard_on : TraceView → NodeSpec → NodeSpec → ℕ → Channel → Bool
is_heard_on t sender receiver double ch =
    shares sender receiver ch && has_dev t.history (2 * double) sender receiver ch && has_dev t.history (suc (2 * double)) sender receiver ch

abbrev pub is_heard : TraceView → NodeSpec → NodeSpec → ℕ → Bool
is_heard t sender receiver double = is_heard_on t sender receiver double channel.A || is_heard_on t sender receiver double channel.B

-- whether a node has a row in both cycles of a double cycle
abbrev pub has_rows : History → ℕ → NodeSpec → Bool
has_rows h double node = is_some (row_at h (2 * double) node.id) && is_some (row_at h (suc (2 * double)) node.id)

-- from the first double cycle in sync on, no channel has a deviation of a correct sender in both cycles of a double cycle in
-- which it and the receiver have rows
pub record IsTracedLinkGap (p : Values) (t : TraceView) (g : Gap) : Type 0 where
  pub sender : NodeSpec
  pub receiver : NodeSpec
  pub sender_there : Contains p.nodes sender
  pub receiver_there : Contains p.nodes receiver
  pub pair : is_pair t sender receiver ≡ true
  pub synced : ℕ
  pub first : IsFirstSynced p t synced
  pub double : ℕ
  pub from : synced ≤ double
  pub within : double < t.doubles
  pub sends : has_rows t.history double sender ≡ true
  pub hears : has_rows t.history double receiver ≡ true
  pub broken : is_heard t sender receiver double ≡ false
  pub told : g ≡ gap.Link sender.id receiver.id double

-- a gap of a trace
abbrev pub IsTraceGap : Values → TraceView → Gap → Type 0
IsTraceGap p t g = IsTracedCheckGap p g ⊎ (IsTracedCountGap p t g ⊎ (IsTracedLengthGap p t g ⊎ (IsTracedChangeGap p t g ⊎ IsTracedLinkGap p t g)))

-- it is one, and none is looked for before it
pub record IsFirstTraceGap (p : Values) (t : TraceView) (g : Gap) : Type 0 where
  pub is_gap : IsTraceGap p t g
  pub first : (other : Gap) → IsTraceGap p t other → IsEarlierGap other g → ⊥

-- a trace without a gap is covered
abbrev pub IsCoveredTrace : Values → TraceView → Type 0
IsCoveredTrace p t = (g : Gap) → IsTraceGap p t g → ⊥
