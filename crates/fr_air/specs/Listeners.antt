-- The nodes that listen in the double cycle of the cycle that comes next, and what they have caught of it so far.
use Rattle.std.specs.Prelude.{◌≡◌, ℕ, suc, ◌*◌, ◌/◌, ◌==◌, ℤ, Bool, false, List, [], ◌∷◌, length, filter, Contains, Option, Some, None, option_and_then, if◌then◌else◌}
use Rattle.fr_base.specs.declared.channel.Channel.TheVariants.{A, B}
use Rattle.fr_cluster.specs.Questions.{own_key}
use Rattle.fr_cluster.specs.Setting.{Setting, correct_nodes}
use Rattle.fr_cluster.specs.declared.join.Join.{Join}
use Rattle.fr_cluster.specs.declared.nodes.NodeSpec.{NodeSpec}
use Rattle.fr_time.specs.Cycles.{is_odd}
use Rattle.fr_reception.specs.Listening.{Caught, caught_by, first_or, kept_if}
use Rattle.fr_history.specs.Catching.{begins_with, caught_arrival}
use Rattle.fr_history.specs.Cycles.{Cycle, Cycles}
use Rattle.fr_air.specs.NextStanding.{beginning_nodes}

-- whether a node listens in a double cycle
abbrev pub listens_in : ℕ → Option Join → Bool
listens_in double None = false
listens_in double (Some join) = join.double == double

-- the nodes that listen in the double cycle of the cycle behind some cycles, in ascending order
abbrev pub listening_nodes : Setting → Cycles → List NodeSpec
listening_nodes x h = filter (λ node. listens_in (length h / 2) (x.join node.id)) (correct_nodes x)

-- the arrivals of good offers of a reference, in ticks: in the even and in the odd cycle of a double cycle, on both channels
pub record Caughts : Type 0 where
  pub even_a : Option ℤ
  pub even_b : Option ℤ
  pub odd_a : Option ℤ
  pub odd_b : Option ℤ

abbrev pub no_catches : Caughts
no_catches = record { even_a = None; even_b = None; odd_a = None; odd_b = None }

-- what a listening node has caught in a slot behind some cycles: nothing where a double cycle begins, and what the even cycle
-- gave where the odd one comes next
abbrev pub catches_after : Setting → Cycles → ℕ → ℕ → Caughts
catches_after x [] node slot = no_catches
catches_after x (c ∷ h) node slot =
    if is_odd (length h) then no_catches
    else record {
      even_a = caught_arrival x (length h) c.told.rows node slot A;
      even_b = caught_arrival x (length h) c.told.rows node slot B;
      odd_a = None;
      odd_b = None;
    }

-- and what it has caught of both cycles, behind others
abbrev pub catches_of : Setting → Cycles → Cycle → Cycle → ℕ → ℕ → Caughts
catches_of x h even odd node slot = record {
  even_a = caught_arrival x (length h) even.told.rows node slot A;
  even_b = caught_arrival x (length h) even.told.rows node slot B;
  odd_a = caught_arrival x (suc (length h)) odd.told.rows node slot A;
  odd_b = caught_arrival x (suc (length h)) odd.told.rows node slot B;
}

-- what that is worth, by the lengths of the node's own microticks in both cycles: on channel A, or else on channel B
abbrev pub caught_of_catches : ℕ → ℤ → ℤ → Caughts → Option Caught
caught_of_catches slot even_length odd_length c =
    first_or (caught_by slot A even_length odd_length c.even_a c.odd_a) (caught_by slot B even_length odd_length c.even_b c.odd_b)

-- a listening node begins to follow with it, where it suffices
abbrev pub ListenersBegin : Type 0
ListenersBegin =
    (x : Setting) (h : Cycles) (even odd : Cycle) (node : ℕ) (join : Join) (slot : ℕ)
    → length h ≡ 2 * join.double → own_key x.params join.reference ≡ Some slot
    → begins_with x (odd ∷ even ∷ h) node join
    ≡ option_and_then (kept_if x.params)
    (caught_of_catches slot (x.microtick node (length h)) (x.microtick node (suc (length h)))
    (catches_of x h even odd node slot))

-- and nobody else begins to
abbrev pub BeginningNodesListened : Type 0
BeginningNodesListened =
    (x : Setting) (h : Cycles) (even odd : Cycle) (node : NodeSpec)
    → Contains (beginning_nodes x (odd ∷ even ∷ h)) node → Contains (listening_nodes x h) node
