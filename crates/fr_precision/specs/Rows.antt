-- A double cycle of a node, as the laws of precision see it: the rows of its even and its odd cycle.
use Rattle.std.specs.Prelude.{◌≡◌, ℕ, ◌+◌, ◌*◌, ◌≤◌, ℤ, pos, ◌+ℤ◌, ◌-ℤ◌, ◌≤ℤ◌, ◌<ℤ◌, List, length, All}
use Rattle.fr_base.specs.declared.node_row.NodeRow.{NodeRow}
use Rattle.fr_cluster.specs.Values.{Values, amount}
use Rattle.fr_cluster.specs.declared.names.ParamName.TheVariants as name
use Rattle.fr_base.specs.Within.{IsWithin}
use Rattle.fr_midpoint.specs.Midpoint.{discarded}
use Rattle.fr_time.specs.Position.{grid_for}
use Rattle.fr_time.specs.Instant.{next_start_of}
use Rattle.fr_bound.specs.Bounds.{longest_micro, shortest_micro}
use Rattle.fr_bound.specs.Sync.{cycle_length_of}

-- a correct sync node in a double cycle: its two rows, and the macrotick at which it sends
pub record Sender : Type 0 where
  pub even : NodeRow
  pub odd : NodeRow
  pub action : ℤ

-- the end of a cycle before its offset term
abbrev pub end_of : Values → NodeRow → ℤ
end_of p row = row.start +ℤ cycle_length_of p row

-- the end of a cycle as its offset term corrects it: the start of the next one
abbrev pub corrected_end_of : Values → NodeRow → ℤ
corrected_end_of p row = next_start_of (grid_for p) row

-- the lengths of a cycle with the shortest and with the longest microtick, at no rate correction
abbrev pub shortest_cycle : Values → ℕ
shortest_cycle p = amount p name.pMicroPerCycle * shortest_micro p

abbrev pub longest_cycle : Values → ℕ
longest_cycle p = amount p name.pMicroPerCycle * longest_micro p

-- a microtick lasts, and no longer than the longest
pub record Lasts (p : Values) (row : NodeRow) : Type 0 where
  pub some : pos 0 <ℤ row.length
  pub most : row.length ≤ℤ pos (longest_micro p)

-- a microtick is no shorter than the shortest, and no longer than the longest
pub record HasProperMicro (p : Values) (row : NodeRow) : Type 0 where
  pub least : pos (shortest_micro p) ≤ℤ row.length
  pub most : row.length ≤ℤ pos (longest_micro p)

-- the microtick changes from one cycle to another by no more than the change bound
abbrev pub IsSteady : Values → NodeRow → NodeRow → Type 0
IsSteady p one other = IsWithin (pos (amount p name.xChangeBound)) (other.length -ℤ one.length)

-- a node's odd cycle follows its even one, with the same rate, and the even one has no offset
pub record IsDoubleCycle (p : Values) (even odd : NodeRow) : Type 0 where
  pub follows : odd.start ≡ next_start_of (grid_for p) even
  pub same_rate : odd.rate ≡ even.rate
  pub no_offset : even.offset ≡ pos 0

-- any two of some senders lie at most so far apart, in a number that each has
abbrev pub AreNear : (Sender → ℤ) → ℤ → List Sender → Type 0
AreNear number spread senders = All (λ one. All (λ other. IsWithin spread (number one -ℤ number other)) senders) senders

-- so many values and so many: one sender's remains for both, whatever each list discards
abbrev pub KeepOne : List ℤ → List ℤ → List Sender → Type 0
KeepOne one other senders = discarded (length one) + discarded (length other) + 1 ≤ length senders
