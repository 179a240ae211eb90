-- The row of a node among rows, and what an outcome more adds to operation control.
use Rattle.std.proofs.Common.{◌≡◌, ◌⊎◌, ℕ, ◌==◌, Bool, true, false, cond, Some, List, [], ◌∷◌, ◌++◌, map, refl, ap, sym, ◌∙◌, inl, inr, arith}
use Rattle.std.specs.Prelude.{find}
use Rattle.std.proofs.lemmas.List.Sums.{fold-append}
use Rattle.fr_base.specs.declared.node_row.NodeRow.{NodeRow}
use Rattle.fr_base.specs.declared.state.Outcome.{Outcome}
use Rattle.fr_cluster.specs.declared.nodes.NodeSpec.{NodeSpec}
use Rattle.fr_poc.specs.Control.{Status, control_of, first_status, step_of}
use Rattle.fr_poc.specs.declared.control.PocLimits.{PocLimits}
use Rattle.fr_history.proofs.Flat.{Among}

pub find_row : (e : ℕ → NodeRow) → ((id : ℕ) → (e id).node ≡ id) → (nodes : List NodeSpec) (node : NodeSpec) → Among node nodes → find (λ row. row.node == node.id) (map (λ spec. e spec.id) nodes) ≡ Some (e node.id)
unfolding Among
find_row e own [] node is = absurd is
find_row e own (spec ∷ nodes) node is = by_test ((e spec.id).node == node.id) refl is (find_row e own nodes node)
  where
    by_test : (b : Bool) → ((e spec.id).node == node.id) ≡ b → (node ≡ spec) ⊎ Among node nodes → (Among node nodes → find (λ row. row.node == node.id) (map (λ s. e s.id) nodes) ≡ Some (e node.id)) →
        cond b (Some (e spec.id)) (find (λ row. row.node == node.id) (map (λ s. e s.id) nodes)) ≡ Some (e node.id)
    by_test true same any rest =
        let n : (e spec.id).node ≡ node.id = grind arith in
        let id : spec.id ≡ node.id = sym (own spec.id) ∙ n in
        ap (λ (k : ℕ). Some (e k)) id
    by_test false other (inl same) rest =
        let id : (e spec.id).node ≡ node.id = own spec.id ∙ ap (λ (s : NodeSpec). s.id) (sym same) in
        let equal : ((e spec.id).node == node.id) ≡ true = grind arith in
        let wrong : true ≡ false = sym equal ∙ other in
        absurd (cc)
    by_test false other (inr there) rest = rest there

-- ---- operation control

pub more_control : (limits : PocLimits) (outcomes : List (Outcome × Outcome)) (offset rate : Outcome) → control_of limits (outcomes ++ (offset, rate) ∷ []) ≡ step_of limits (control_of limits outcomes) offset rate
more_control limits outcomes offset rate = fold-append (λ (status : Status) (pair : Outcome × Outcome). step_of limits status pair.0 pair.1) first_status outcomes ((offset, rate) ∷ [])
