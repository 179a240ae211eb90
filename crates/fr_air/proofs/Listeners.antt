-- What a listening node begins with, and that nobody else begins.
use Rattle.std.proofs.Common.{◌≡◌, ℕ, suc, ◌+◌, ◌*◌, ◌/◌, ◌==◌, true, false, cond, Option, Some, None, ◌∷◌, length, refl, ap, sym, ◌∙◌, arith}
use Rattle.std.specs.Prelude.{Contains, option_and_then}
use Rattle.fr_cluster.specs.Questions.{own_key}
use Rattle.fr_cluster.specs.Setting.{correct_nodes}
use Rattle.fr_cluster.specs.declared.join.Join.{Join}
use Rattle.fr_cluster.specs.declared.nodes.NodeSpec.{NodeSpec}
use Rattle.fr_history.specs.Catching.{begins_with, caught_by_slot, caught_in_run}
use Rattle.fr_cluster.proofs.Elements.{filtered, kept_filtered}
use Rattle.fr_air.specs.Listeners.{BeginningNodesListened, ListenersBegin, listening_nodes, listens_in}
use Rattle.fr_air.specs.NextStanding.{begins_next}
use Rattle.fr_air.proofs.NextStanding.{begins_in}

equal : (a b : ℕ) → a ≡ b → (a == b) ≡ true
equal a b is = grind arith

half_is : (n d : ℕ) → n ≡ 2 * d → d ≡ n / 2
half_is n d is = grind arith

pub listeners_begin : ListenersBegin
unfolding begins_with caught_in_run
listeners_begin x h even odd node join slot twice key =
    let now : (length h == 2 * join.double) ≡ true = equal (length h) (2 * join.double) twice in
    ap (λ b. cond b (option_and_then (caught_by_slot x (length h) even odd node) (own_key x.params join.reference)) None) now
    ∙ ap (option_and_then (caught_by_slot x (length h) even odd node)) key

pub beginning_nodes_listened : BeginningNodesListened
beginning_nodes_listened x h even odd node among =
    let own = filtered (λ (n : NodeSpec). begins_next x (odd ∷ even ∷ h) n.id (x.join n.id)) (correct_nodes x) node among in
    by_join own.0 own.1 (x.join node.id) refl
  where
    by_join : Contains (correct_nodes x) node → begins_next x (odd ∷ even ∷ h) node.id (x.join node.id) ≡ true → (join : Option Join) → x.join node.id ≡ join
        → Contains (listening_nodes x h) node
    by_join there begins None at =
        let e : false ≡ true = sym (ap (begins_next x (odd ∷ even ∷ h) node.id) at) ∙ begins in
        absurd (cc)
    by_join there begins (Some join) at =
        let at_end : suc (suc (length h)) ≡ 2 * join.double + 2 =
        begins_in x (odd ∷ even ∷ h) node.id join (sym (ap (begins_next x (odd ∷ even ∷ h) node.id) at) ∙ begins) in
        let twice : length h ≡ 2 * join.double = omega (arith, at_end) in
        let listens : listens_in (length h / 2) (x.join node.id) ≡ true =
        ap (listens_in (length h / 2)) at ∙ equal join.double (length h / 2) (half_is (length h) join.double twice) in
        kept_filtered (λ (n : NodeSpec). listens_in (length h / 2) (x.join n.id)) (correct_nodes x) node there listens
