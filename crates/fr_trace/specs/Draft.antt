-- What a trace under construction holds of the records so far.
use Rattle.std.specs.Prelude.{◌≡◌, ◌⊎◌, ℕ, suc, ◌+◌, ◌*◌, ◌-◌, ◌^◌, ◌<◌, ◌≤◌, min, pos, true, false, ⊤, ◌==◌, List, [], ◌∷◌, ◌++◌, length, map, filter, All, AllPairs, Contains, Option, Some, None, IsSome, is_some, Result, Ok, Err, if◌then◌else◌}
use Rattle.fr_base.specs.Counts.{no_counts}
use Rattle.fr_base.specs.Rows.{AreAscendingDevs, AreAscendingRows, channel_rank}
use Rattle.fr_base.specs.Within.{IsWithin}
use Rattle.fr_base.specs.declared.dev.Dev.{Dev}
use Rattle.fr_base.specs.declared.node_row.NodeRow.{NodeRow}
use Rattle.fr_base.specs.declared.reason.Reason.{Reason}
use Rattle.fr_cluster.specs.Questions.{is_known, own_key}
use Rattle.fr_cluster.specs.Sane.{IsSane}
use Rattle.fr_cluster.specs.Values.{Values}
use Rattle.fr_history.specs.History.{History, Record, row_of}
use Rattle.fr_text.specs.Records.{FileRecord}
use Rattle.fr_text.specs.Refusal.{Refusing}
use Rattle.fr_text.specs.Takes.{TakesRow}
use Rattle.fr_trace.specs.Cycles.{history_by}
use Rattle.fr_trace.specs.Files.{TraceStandsFor, is_whole}
use Rattle.fr_trace.specs.Fits.{IsAboutOther, TraceFits, TracedJoinIsProper}
use Rattle.fr_trace.specs.Joins.{has_traced_row, is_among, latest_rows}
use Rattle.fr_trace.specs.Lasting.{IsTracedRow}
use Rattle.fr_trace.specs.Order.{clock_turn, doubles_or_0, heard_turn, may_stand, must_stand}
use Rattle.fr_trace.specs.Reasons.{trace_reason_after, trace_row_reason}
use Rattle.fr_trace.specs.Rows.{IsProperTracedCount, trace_row_of}
use Rattle.fr_trace.specs.Said.{dev_on, history_said, joins_at, last_row_at, named_at, named_in, no_record, record_said, traced_doubles_at, traced_joins_in}
use Rattle.fr_trace.specs.Trace.{TraceView}
use Rattle.fr_trace.specs.declared.draft.Draft.{Draft}
use Rattle.fr_trace.specs.declared.fault.TraceFault.{TraceFault}
use Rattle.fr_trace.specs.declared.fault.TraceFault.TheVariants as fault
use Rattle.fr_trace.specs.declared.order.Turn.{Turn}
use Rattle.fr_trace.specs.declared.rows.HeardRow.{HeardRow}
use Rattle.fr_trace.specs.declared.rows.Row.{Row}
use Rattle.fr_trace.specs.declared.rows.Row.TheVariants as row
use Rattle.fr_trace.specs.declared.trace.TracedJoin.{TracedJoin}

-- ---- what always holds of it

-- a deviation stands at a place or before it
abbrev pub IsUpTo : Turn → Dev → Type 0
IsUpTo turn dev =
    (dev.receiver < turn.node)
    ⊎ ((dev.receiver ≡ turn.node) × ((dev.slot < turn.slot) ⊎ ((dev.slot ≡ turn.slot) × (channel_rank dev.channel ≤ turn.rank))))

-- rows and deviations of a cycle, whose numbers lie in their ranges and fit the parameters
pub record AreHeld (p : Values) (r : Record) : Type 0 where
  pub rows_ascend : AreAscendingRows r.rows
  pub rows_proper : All IsTracedRow r.rows
  pub rates : All (λ row. IsWithin p.rate_limit row.rate) r.rows
  pub offsets : All (λ row. IsWithin p.offset_limit row.offset) r.rows
  pub devs_ascend : AreAscendingDevs r.devs
  pub devs_proper : All (λ dev. IsWithin (pos 1_000_000) dev.value) r.devs
  pub devs_heard : All (λ dev. Contains (map (λ row. row.node) r.rows) dev.receiver) r.devs
  pub devs : All (IsAboutOther p) r.devs
  pub uncounted : r.counts ≡ no_counts

-- a cycle behind a history, up to a node: only nodes of the cluster have rows, each of which may have one, and up to this node
-- each that must
pub record IsBegun (p : Values) (named : List ℕ) (joins : List TracedJoin) (h : History) (node : ℕ) (r : Record) : Type 0 where
  pub known : (n : ℕ) → is_some (row_of r.rows n) ≡ true → is_known p n ≡ true
  pub may : (n : ℕ) → is_some (row_of r.rows n) ≡ true → may_stand named joins (length h) (latest_rows h) n ≡ true
  pub must : (n : ℕ) → n ≤ node → is_known p n ≡ true → must_stand named joins (length h) (latest_rows h) n ≡ true → is_some (row_of r.rows n) ≡ true
  pub kept : AreHeld p r
  pub rows_to : All (λ row. row.node ≤ node) r.rows

-- the same up to a place, behind which no deviation stands
pub record IsCycleUnderWay (p : Values) (named : List ℕ) (joins : List TracedJoin) (h : History) (turn : Turn) (r : Record) : Type 0 where
  pub begun : IsBegun p named joins h turn.node r
  pub here : Contains (map (λ row. row.node) r.rows) turn.node
  pub devs_to : All (IsUpTo turn) r.devs

-- a whole cycle behind a history: a row for each node that is to have one
pub record IsOver (p : Values) (named : List ℕ) (joins : List TracedJoin) (h : History) (r : Record) : Type 0 where
  pub nodes : map (λ row. row.node) r.rows ≡ map (λ node. node.id) (filter (λ node. has_traced_row named joins h r node.id) p.nodes)
  pub kept : AreHeld p r

unfoldable pub AreOver : Values → List ℕ → List TracedJoin → History → Type 0
AreOver p named joins [] = Unit {0}
AreOver p named joins (r ∷ h) = IsOver p named joins h r × AreOver p named joins h

-- a cycle is under way at a place, and is one of the trace
pub record IsAtTurn (p : Values) (doubles : Option ℕ) (named : List ℕ) (joins : List TracedJoin) (cycle : ℕ) (turn : Turn) (h : History) (part : Record) : Type 0 where
  pub numbered : cycle ≡ length h
  pub inside : cycle < 2 * doubles_or_0 doubles
  pub under_way : IsCycleUnderWay p named joins h turn part

-- no cycle is begun
pub record IsBeforeCycles (h : History) (part : Record) : Type 0 where
  pub none : h ≡ []
  pub blank : part ≡ no_record

-- nodes are named up to one, and none joins yet; or nodes join up to one
pub record NamesUpTo (doubles : Option ℕ) (named : List ℕ) (joins : List TracedJoin) (node : ℕ) (h : History) (part : Record) : Type 0 where
  pub told : IsSome doubles
  pub upto : All (λ other. other ≤ node) named
  pub none : joins ≡ []
  pub before : IsBeforeCycles h part

pub record JoinsUpTo (doubles : Option ℕ) (joins : List TracedJoin) (node : ℕ) (h : History) (part : Record) : Type 0 where
  pub told : IsSome doubles
  pub upto : All (λ j. j.node ≤ node) joins
  pub before : IsBeforeCycles h part

-- nothing is said yet
pub record IsUnsaid (doubles : Option ℕ) (named : List ℕ) (joins : List TracedJoin) (h : History) (part : Record) : Type 0 where
  pub none : doubles ≡ None
  pub unnamed : named ≡ []
  pub unjoined : joins ≡ []
  pub before : IsBeforeCycles h part

-- where the last row stands
abbrev pub IsAtLast : Values → Option ℕ → List ℕ → List TracedJoin → Option Row → History → Record → Type 0
IsAtLast p doubles named joins None h part = IsUnsaid doubles named joins h part
IsAtLast p doubles named joins (Some (row.Run n)) h part = NamesUpTo doubles named joins 0 h part
IsAtLast p doubles named joins (Some (row.Arbitrary node)) h part = NamesUpTo doubles named joins node h part
IsAtLast p doubles named joins (Some (row.Join j)) h part = JoinsUpTo doubles joins j.node h part
IsAtLast p doubles named joins (Some (row.Clock cycle clock)) h part = IsAtTurn p doubles named joins cycle (clock_turn clock) h part
IsAtLast p doubles named joins (Some (row.Heard heard)) h part = IsAtTurn p doubles named joins heard.cycle (heard_turn heard) h part

-- a number that a node may have
abbrev pub IsNodeNumber : ℕ → Type 0
IsNodeNumber node = (1 ≤ node) × (node ≤ 64)

-- what is said before the cycles: the number of double cycles lies in its range, arbitrary nodes ascend and have key slots,
-- and nodes that join ascend and do so properly
pub record IsProperHead (p : Values) (doubles : Option ℕ) (named : List ℕ) (joins : List TracedJoin) : Type 0 where
  pub count : (n : ℕ) → doubles ≡ Some n → IsProperTracedCount n
  pub keyed : All (λ node. IsSome (own_key p node)) named
  pub ascend : AllPairs (λ a b. a < b) named
  pub numbers : All IsNodeNumber named
  pub joins_ascend : AllPairs (λ a b. a.node < b.node) joins
  pub joins_numbers : All (λ j. IsNodeNumber j.node) joins
  pub joins_proper : All (TracedJoinIsProper p named joins) joins

-- and all cycles but the last are over
pub record IsDraftSound (p : Values) (doubles : Option ℕ) (named : List ℕ) (joins : List TracedJoin) (last : Option Row) (h : History) (part : Record) : Type 0 where
  pub head : IsProperHead p doubles named joins
  pub over : AreOver p named joins h
  pub at : IsAtLast p doubles named joins last h part

-- ---- what it holds

-- the cycle that is under way
abbrev pub part_of : Draft → Record
part_of d = record { rows = d.rows.items; devs = d.devs.items; counts = no_counts }

-- the cycles that are over, the latest first
abbrev pub over_of : Draft → History
over_of d = history_by d.cycles.items

-- it holds what the records say
pub record IsTraceDraft (p : Values) (d : Draft) (records : List FileRecord) : Type 0 where
  pub doubles : d.doubles ≡ traced_doubles_at records
  pub named : d.arbitrary.items ≡ named_at records
  pub joins : d.joins.items ≡ joins_at records
  pub last : d.last ≡ last_row_at records
  pub count : d.count ≡ min (length records) (2 ^ 64 - 1)
  pub over : over_of d ≡ history_said records (length (over_of d))
  pub part : part_of d ≡ record_said records (length (over_of d))
  pub none_later : (cycle : ℕ) → length (over_of d) < cycle → record_said records cycle ≡ no_record
  pub sound : IsDraftSound p d.doubles d.arbitrary.items d.joins.items d.last (over_of d) (part_of d)

-- ---- one row more

-- the number of double cycles behind a row
abbrev pub doubles_with : Option ℕ → Row → Option ℕ
doubles_with doubles (row.Run n) = Some n
doubles_with doubles (row.Arbitrary node) = doubles
doubles_with doubles (row.Join j) = doubles
doubles_with doubles (row.Clock cycle clock) = doubles
doubles_with doubles (row.Heard heard) = doubles

-- the cycles that are over, and the one that is under way: a row of a later cycle ends the one under way
abbrev pub over_with : History → Record → Row → History
over_with h part (row.Run n) = h
over_with h part (row.Arbitrary node) = h
over_with h part (row.Join j) = h
over_with h part (row.Clock cycle clock) = if cycle == length h then h else part ∷ h
over_with h part (row.Heard heard) = h

abbrev pub part_with : History → Record → Row → Record
part_with h part (row.Run n) = part
part_with h part (row.Arbitrary node) = part
part_with h part (row.Join j) = part
part_with h part (row.Clock cycle clock) = if cycle == length h then record part { rows = part.rows ++ clock ∷ [] } else record no_record { rows = clock ∷ [] }
part_with h part (row.Heard heard) = record part { devs = part.devs ++ dev_on heard heard.channel }

-- all but the cycles stays
pub record IsHead (before after : Draft) : Type 0 where
  pub doubles : after.doubles ≡ before.doubles
  pub named : after.arbitrary.items ≡ before.arbitrary.items
  pub joins : after.joins.items ≡ before.joins.items
  pub last : after.last ≡ before.last
  pub count : after.count ≡ before.count

-- a node's row is put into the cycle under way
pub record HasClock (before after : Draft) (clock : NodeRow) : Type 0 where
  pub head : IsHead before after
  pub over : over_of after ≡ over_of before
  pub part : part_of after ≡ record (part_of before) { rows = before.rows.items ++ clock ∷ [] }

-- a deviation
pub record HasDeviation (before after : Draft) (heard : HeardRow) : Type 0 where
  pub head : IsHead before after
  pub over : over_of after ≡ over_of before
  pub part : part_of after ≡ record (part_of before) { devs = before.devs.items ++ dev_on heard heard.channel }

-- the cycle under way ends
pub record HasEnded (before after : Draft) : Type 0 where
  pub head : IsHead before after
  pub over : over_of after ≡ part_of before ∷ over_of before
  pub part : part_of after ≡ no_record

-- what a row says is put in its place
pub record HasKept (before after : Draft) (said : Row) : Type 0 where
  pub doubles : after.doubles ≡ doubles_with before.doubles said
  pub named : after.arbitrary.items ≡ before.arbitrary.items ++ named_in (Ok said)
  pub joins : after.joins.items ≡ before.joins.items ++ traced_joins_in (Ok said)
  pub last : after.last ≡ before.last
  pub count : after.count ≡ before.count
  pub over : over_of after ≡ over_with (over_of before) (part_of before) said
  pub part : part_of after ≡ part_with (over_of before) (part_of before) said

-- a row is put behind what is there
pub record HasPut (before after : Draft) (said : Row) : Type 0 where
  pub doubles : after.doubles ≡ doubles_with before.doubles said
  pub named : after.arbitrary.items ≡ before.arbitrary.items ++ named_in (Ok said)
  pub joins : after.joins.items ≡ before.joins.items ++ traced_joins_in (Ok said)
  pub last : after.last ≡ Some said
  pub count : after.count ≡ min (before.count + 1) (2 ^ 64 - 1)
  pub over : over_of after ≡ over_with (over_of before) (part_of before) said
  pub part : part_of after ≡ part_with (over_of before) (part_of before) said

-- the same against all parameters that refuse the same records
abbrev pub HoldsTrace : Refusing → Draft → List FileRecord → Type 0
HoldsTrace reason d records = (q : Values) → IsSane q → trace_reason_after q ≡ reason → IsTraceDraft q d records

-- a row is refused against these parameters for its reason, or held after the records so far
abbrev pub TakesTraceRow : {Error : Type 0} → Values → Draft → Draft → Row → Result (Option Reason) Error → Type 0
TakesTraceRow p before after row result = TakesRow (HoldsTrace (trace_reason_after p)) trace_row_of (trace_row_reason p) before after row result

-- ---- at the end of the file

-- what is kept of records: the cycles that are over, the one under way, and nothing of later ones
pub record AreSaid (h : History) (r : Record) (records : List FileRecord) : Type 0 where
  pub over : h ≡ history_said records (length h)
  pub part : r ≡ record_said records (length h)
  pub none_later : (cycle : ℕ) → length h < cycle → record_said records cycle ≡ no_record

-- each node of the cluster is arbitrary
abbrev pub AreAllNamed : Values → List ℕ → Type 0
AreAllNamed p named = (n : ℕ) → is_known p n ≡ true → is_among named n ≡ true

-- the cycles up to so many may be ended as they stand: that under way is whole, and no node takes part where there is a further
-- one
pub record CanEnd (p : Values) (named : List ℕ) (joins : List TracedJoin) (cycles : ℕ) (h : History) (r : Record) : Type 0 where
  pub over : AreOver p named joins h
  pub part : length h < cycles → IsOver p named joins h r
  pub blank : suc (length h) < cycles → AreAllNamed p named

-- the cycles up to so many are ended
pub record HasFilled (before after : Draft) (cycles : ℕ) : Type 0 where
  pub head : IsHead before after
  pub few : length (over_of after) ≤ cycles
  pub said : (records : List FileRecord) → AreSaid (over_of before) (part_of before) records → AreSaid (over_of after) (part_of after) records
  pub sound : (p : Values) (named : List ℕ) (joins : List TracedJoin) → IsSane p → CanEnd p named joins cycles (over_of before) (part_of before)
      → CanEnd p named joins cycles (over_of after) (part_of after)

-- the records are those of a whole trace of so many double cycles
pub record IsWholeDraft (p : Values) (d : Draft) (doubles : ℕ) (records : List FileRecord) : Type 0 where
  pub holds : IsTraceDraft p d records
  pub told : d.doubles ≡ Some doubles
  pub whole : is_whole p records ≡ true

-- the answer to records of which none is refused
abbrev pub AnswersFor : Values → List FileRecord → Result TraceView TraceFault → Type 0
AnswersFor p records (Ok t) = (is_whole p records ≡ true) × TraceStandsFor t records × TraceFits p t
AnswersFor p records (Err (fault.Row number why)) = ⊥
AnswersFor p records (Err (fault.Incomplete rows)) = (is_whole p records ≡ false) × (rows ≡ min (length records) (2 ^ 64 - 1))
AnswersFor p records (Err fault.NoMemory) = ⊤
