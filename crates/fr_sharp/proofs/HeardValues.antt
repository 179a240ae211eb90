-- A node with a row where each correct node has one: it trusts its lists, or has no value.
use Rattle.std.proofs.Common.{◌≡◌, ℕ, Bool, true, ℤ, Some}
use Rattle.std.specs.Prelude.{Contains}
use Rattle.fr_cluster.specs.Questions.{key_slot_of, own_index}
use Rattle.fr_cluster.specs.Sane.{IsSane}
use Rattle.fr_cluster.specs.Setting.{Setting}
use Rattle.fr_cluster.specs.declared.nodes.NodeSpec.{NodeSpec}
use Rattle.fr_measure.specs.Values.{is_own}
use Rattle.fr_history.specs.Cycles.{Cycle, Cycles}
use Rattle.fr_history.specs.Standing.{row_nodes}
use Rattle.fr_runs.specs.Gathered.{round_at, row_hearer}
use Rattle.fr_runs.proofs.Courses.{is_correct_row}
use Rattle.fr_traffic.specs.RoundsInPart.{IsTrustedOf}
use Rattle.fr_runs.specs.SteadyRuns.{AreRowsInReach}
use Rattle.fr_traffic.specs.Traffic.{is_deaf, is_trusted, traffic_of}
use Rattle.fr_traffic.proofs.HeardAtMost.{no_value as none_reaches, row_owned, trusted_so}
use Rattle.fr_traffic.proofs.HeardInCommon.{row_receives}
use Rattle.fr_traffic.proofs.HeardSurely.{value_by}
use Rattle.fr_runs.proofs.Fed.{row_receivers}
use Rattle.fr_runs.proofs.RowsSupplied.{receiving, sending, LawfulRows}
use Rattle.fr_promise.proofs.RunDoubles.{AllHave}

-- ---- a node with a row

module _ (x : Setting) (flutter : ℕ) (h : Cycles) (even odd : Cycle) (double : ℕ) (reach : ℤ) (s : LawfulRows x flutter h even odd double) (r : AreRowsInReach x h even odd reach) (all : AllHave x h) where
  sane : IsSane x.params
  sane = s.covered.sane

  -- ---- what it may have

  owned : (node : NodeSpec) (index : ℕ) → Contains (row_nodes x h) node → is_own (own_index x.params node.id) index ≡ true → (slot : ℕ) × (node.key ≡ Some slot) × (key_slot_of x.params index ≡ Some slot)
  owned node index among own = row_owned x node index sane (is_correct_row x h node among) own

  -- a deaf node has no value
  pub no_value : (rate : Bool) (node : NodeSpec) (index : ℕ) (value : ℤ) → Contains (row_nodes x h) node → is_deaf rate (traffic_of x) double node ≡ true
      → value_by rate (row_hearer x even odd node.id) index ≡ Some value → ⊥
  no_value rate node index value among deaf is =
      none_reaches x h even odd double reach (row_receivers x h even odd) (Contains (row_nodes x h)) (sending x flutter h even odd double reach s r) (receiving x flutter h even odd double reach s r) owned rate node index
      value among deaf is

  -- ---- trusted

  pub trusted_of : (rate : Bool) (node : NodeSpec) → Contains (row_nodes x h) node → is_trusted rate (traffic_of x) double node ≡ true
      → IsTrustedOf (round_at x h even odd) (value_by rate (row_hearer x even odd node.id))
  trusted_of rate node among is =
      trusted_so x h even odd double reach (row_receivers x h even odd) node (sending x flutter h even odd double reach s r)
      (row_receives x h even odd reach node sane (receiving x flutter h even odd double reach s r node among)) rate is
