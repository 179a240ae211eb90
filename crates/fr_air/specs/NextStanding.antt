-- Who has a row and who follows in a cycle, by who did in the cycle before.
use Rattle.std.specs.Prelude.{◌≡◌, ℕ, suc, ◌+◌, ◌*◌, ◌==◌, Bool, false, ◌&&◌, ◌||◌, List, [], ◌∷◌, length, filter, Contains, Option, Some, None, is_some}
use Rattle.fr_cluster.specs.Sane.{IsSane}
use Rattle.fr_cluster.specs.Setting.{Setting, correct_nodes}
use Rattle.fr_cluster.specs.declared.join.Join.{Join}
use Rattle.fr_cluster.specs.declared.nodes.NodeSpec.{NodeSpec}
use Rattle.fr_time.specs.Cycles.{is_odd}
use Rattle.fr_history.specs.History.{row_of}
use Rattle.fr_history.specs.Catching.{begins_with}
use Rattle.fr_history.specs.Cycles.{Cycle, Cycles}
use Rattle.fr_history.specs.Lawful.{IsLawful}
use Rattle.fr_history.specs.Standing.{followed_well, following_nodes, row_nodes}
use Rattle.fr_air.specs.Placing.{put_all}

-- ---- whoever has a row for the first time: it followed well up to the third double cycle behind its listening

abbrev pub joins_next : Setting → Cycles → ℕ → Option Join → Bool
joins_next x [] node join = false
joins_next x (c ∷ h) node None = false
joins_next x (c ∷ h) node (Some join) =
    (suc (length h) == 2 * join.double + 6) && followed_well x.params c h (row_of c.followers node)

-- the nodes that do behind some cycles
abbrev pub joining_nodes : Setting → Cycles → List NodeSpec
joining_nodes x h = filter (λ node. joins_next x h node.id (x.join node.id)) (correct_nodes x)

-- ---- whoever follows for the first time: what it caught suffices

abbrev pub begins_next : Setting → Cycles → ℕ → Option Join → Bool
begins_next x h node None = false
begins_next x h node (Some join) = is_some (begins_with x h node join)

-- the nodes that do behind some cycles
abbrev pub beginning_nodes : Setting → Cycles → List NodeSpec
beginning_nodes x h = filter (λ node. begins_next x h node.id (x.join node.id)) (correct_nodes x)

-- ---- whoever goes on to follow: within a double cycle, and into the second one where it followed well

abbrev pub stays_next : Setting → Cycles → ℕ → Option Join → Bool
stays_next x [] node join = false
stays_next x (c ∷ h) node None = false
stays_next x (c ∷ h) node (Some join) =
    is_odd (suc (length h))
    || ((suc (length h) == 2 * join.double + 4) && followed_well x.params c h (row_of c.followers node))

-- those of some nodes that do behind some cycles
abbrev pub staying_nodes : Setting → Cycles → List NodeSpec → List NodeSpec
staying_nodes x h nodes = filter (λ node. stays_next x h node.id (x.join node.id)) nodes

-- ---- so it goes from cycle to cycle

-- the nodes that have a row are those that had one, and those that join
abbrev pub RowsSucceed : Type 0
RowsSucceed =
    (x : Setting) (h : Cycles) (c : Cycle) → IsSane x.params → IsLawful x (c ∷ h)
    → row_nodes x (c ∷ h) ≡ put_all (λ node. node.id) (joining_nodes x (c ∷ h)) (row_nodes x h)

-- the nodes that follow are those that did and go on, and those that begin
abbrev pub FollowersSucceed : Type 0
FollowersSucceed =
    (x : Setting) (h : Cycles) (c : Cycle) → IsSane x.params → IsLawful x (c ∷ h)
    → following_nodes x (c ∷ h)
    ≡ put_all (λ node. node.id) (beginning_nodes x (c ∷ h)) (staying_nodes x (c ∷ h) (following_nodes x h))

-- behind an even cycle both stay
abbrev pub EvenCyclesStay : Type 0
EvenCyclesStay =
    (x : Setting) (h : Cycles) (c : Cycle) → IsLawful x (c ∷ h) → is_odd (length h) ≡ false
    → (row_nodes x (c ∷ h) ≡ row_nodes x h) × (following_nodes x (c ∷ h) ≡ following_nodes x h)

-- whoever joins followed, and does no longer
abbrev pub JoiningNodesFollowed : Type 0
JoiningNodesFollowed =
    (x : Setting) (h : Cycles) (c : Cycle) (node : NodeSpec) → IsLawful x (c ∷ h) → Contains (joining_nodes x (c ∷ h)) node
    → Contains (following_nodes x h) node × (Contains (following_nodes x (c ∷ h)) node → ⊥)
