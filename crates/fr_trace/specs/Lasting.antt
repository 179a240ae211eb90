-- What holds of every trace, whatever its cluster.
use Rattle.std.specs.Prelude.{◌≡◌, ◌*◌, ◌<◌, ◌≤◌, ◌≤ℤ◌, pos, length, map, All, AllPairs, Contains}
use Rattle.fr_base.specs.Counts.{no_counts}
use Rattle.fr_base.specs.Rows.{AreAscendingDevs, AreAscendingRows}
use Rattle.fr_base.specs.Timed.{IsTimed}
use Rattle.fr_base.specs.Within.{IsWithin}
use Rattle.fr_base.specs.declared.node_row.NodeRow.{NodeRow}
use Rattle.fr_history.specs.History.{Record}
use Rattle.fr_trace.specs.Trace.{TraceView}

-- a row whose numbers lie in their ranges, which tells no cut, and whose start is one that a file may have
abbrev pub IsTracedRow : NodeRow → Type 0
IsTracedRow row = IsTimed row × (row.cut ≡ 0) × (row.start ≤ℤ pos 900_000_000_000_000_000)

-- a record of a trace: rows and deviations in their order, with numbers in their ranges, each deviation at a node with a row
pub record IsTracedRecord (r : Record) : Type 0 where
  pub few : length r.rows ≤ 64
  pub rows_ascend : AreAscendingRows r.rows
  pub rows_proper : All IsTracedRow r.rows
  pub devs_ascend : AreAscendingDevs r.devs
  pub devs_proper : All (λ dev. IsWithin (pos 1_000_000) dev.value) r.devs
  pub devs_heard : All (λ dev. Contains (map (λ row. row.node) r.rows) dev.receiver) r.devs
  pub uncounted : r.counts ≡ no_counts

-- a trace: whole double cycles
pub record IsTrace (t : TraceView) : Type 0 where
  pub doubles_from : 1 ≤ t.doubles
  pub doubles_to : t.doubles ≤ 100_000
  pub whole : length t.history ≡ 2 * t.doubles
  pub arbitrary_few : length t.arbitrary ≤ 64
  pub arbitrary_ascend : AllPairs (λ a b. a < b) t.arbitrary
  pub joins_few : length t.joins ≤ 64
  pub joins_ascend : AllPairs (λ a b. a.node < b.node) t.joins
  pub records : All IsTracedRecord t.history
