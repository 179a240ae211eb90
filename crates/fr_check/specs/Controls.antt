-- How operation control of each node stands after a history.
use Rattle.std.specs.Prelude.{◌≡◌, ℕ, ◌≤◌, ◌++◌, false, List, slice_index_or}
use Rattle.fr_base.specs.declared.dev.Dev.{Dev}
use Rattle.fr_base.specs.declared.node_row.NodeRow.{NodeRow}
use Rattle.fr_cluster.specs.Values.{Values}
use Rattle.fr_history.specs.History.{History, row_of}
use Rattle.fr_history.specs.Terms.{outcomes_by, outcomes_in, status_in}
use Rattle.fr_poc.specs.Control.{Control, control_of, first_status}
use Rattle.fr_poc.specs.Limits.{limits_of}

-- the control of a node's number
abbrev pub control_at : List Control → ℕ → Control
control_at controls node =
    slice_index_or controls node (record { limits = record { passive = 1; fatal = 1; halt_allowed = false; to_active = 0 }; status = first_status })

-- a node stands as it does after a history
abbrev pub ControlStands : Values → History → List Control → ℕ → Type 0
ControlStands p h controls node = control_at controls node ≡ record { limits = limits_of p; status = status_in p h node }

-- and as it does after a history and the double cycle that an odd cycle with these deviations and rows ends
abbrev pub HasStepped : Values → History → List Dev → List NodeRow → List Control → ℕ → Type 0
HasStepped p h odds rows controls node =
    control_at controls node
    ≡ record { limits = limits_of p; status = control_of (limits_of p) (outcomes_in p h node ++ outcomes_by p h odds (row_of rows node)) }

-- all nodes do
abbrev pub Hold : Values → History → List Control → Type 0
Hold p h controls = (node : ℕ) → 1 ≤ node → node ≤ 64 → ControlStands p h controls node
