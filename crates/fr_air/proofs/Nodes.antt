-- What the nodes have behind some cycles.
use Rattle.std.proofs.Common.{◌≡◌, ℕ, Bool, true, false, ◌||◌, Option, Some, None, List, [], ◌∷◌, ◌++◌, length, refl, ap, sym, ◌∙◌, if◌then◌else◌}
use Rattle.std.specs.Prelude.{is_some}
use Rattle.std.proofs.lemmas.List.{append-nil}
use Rattle.fr_base.specs.declared.node_row.NodeRow.{NodeRow}
use Rattle.fr_base.specs.declared.state.Outcome.{Outcome}
use Rattle.fr_cluster.specs.Setting.{Setting, correct_nodes}
use Rattle.fr_cluster.specs.declared.nodes.NodeSpec.{NodeSpec}
use Rattle.fr_time.specs.Cycles.{is_odd}
use Rattle.fr_history.specs.History.{row_of}
use Rattle.fr_history.specs.Terms.{outcomes_by, outcomes_in}
use Rattle.fr_history.specs.Cycles.{Cycle, Cycles, told_of}
use Rattle.fr_history.specs.Standing.{has_row}
use Rattle.fr_history.proofs.Standing.{followers_have_no_row}
use Rattle.fr_cluster.proofs.Elements.{filtered}
use Rattle.fr_air.specs.Nodes.{FollowersAreSteady, JoiningNodesAreFresh, NodesWithoutRowsAreFresh, outcomes_after, pair_in}
use Rattle.fr_correct.specs.Terms.{are_uncut}
use Rattle.fr_air.specs.NextStanding.{joins_next}
use Rattle.fr_air.proofs.NextStanding.{has_by, joins_is, not_so, told_has}

-- ---- a follower's outcomes

pub followers_are_steady : FollowersAreSteady
unfolding outcomes_after
followers_are_steady x h c node row odd none some =
    let p = x.params in
    let before = outcomes_after x h node in
    rw some
    (sym (ap (λ b. are_uncut (if b then pair_in p h c (row_of c.told.rows node) (Some row) before else before)) odd
    ∙ ap (λ o. are_uncut (pair_in p h c o (Some row) before)) none))

-- ---- no outcomes with a row

pub is_none : (o : Option NodeRow) → is_some o ≡ false → o ≡ None
is_none None is = refl
is_none (Some row) is = absurd (cc)

either_none : (a b : Bool) → (a || b) ≡ false → a ≡ false
either_none true b is = is
either_none false b is = refl

cut_off : (b : Bool) (none : List (Outcome × Outcome)) → (if b then none else none) ≡ none
cut_off true none = refl
cut_off false none = refl

-- a cycle in which a node has no row adds none
none_more : (x : Setting) (h : Cycles) (c : Cycle) (node : ℕ) → row_of c.told.rows node ≡ None
    → outcomes_in x.params (told_of (c ∷ h)) node ≡ outcomes_in x.params (told_of h) node
unfolding outcomes_in
none_more x h c node none =
    let told = told_of h in
    let before = outcomes_in x.params told node in
    ap (λ o. before ++ (if is_odd (length told) then outcomes_by x.params told c.told.devs o else [])) none
    ∙ ap (λ more. before ++ more) (cut_off (is_odd (length told)) [])
    ∙ append-nil before

pub without_rows : NodesWithoutRowsAreFresh
unfolding outcomes_in
without_rows x [] node lawful there fails = refl
without_rows x (c ∷ h) node lawful there fails =
    let had : has_row x h node.id ≡ false =
    either_none (has_row x h node.id) (joins_next x (c ∷ h) node.id (x.join node.id)) (sym (has_by x h c node lawful.0 there (x.join node.id) refl) ∙ fails) in
    none_more x h c node.id (is_none (row_of c.told.rows node.id) (told_has x h c node lawful.0 there ∙ had)) ∙ without_rows x h node lawful.1 there had

pub joining_nodes_are_fresh : JoiningNodesAreFresh
joining_nodes_are_fresh x [] node lawful among =
    let own = filtered (λ (n : NodeSpec). joins_next x [] n.id (x.join n.id)) (correct_nodes x) node among in
    absurd (let e : false ≡ true = own.1 in cc)
joining_nodes_are_fresh x (c ∷ h) node lawful among =
    let own = filtered (λ (n : NodeSpec). joins_next x (c ∷ h) n.id (x.join n.id)) (correct_nodes x) node among in
    let joins = joins_is x h c node lawful.0 own.1 in
    let had : has_row x h node.id ≡ false = not_so (has_row x h node.id) (λ has. followers_have_no_row x h node.id lawful.1 has joins.followed) in
    none_more x h c node.id (is_none (row_of c.told.rows node.id) (told_has x h c node lawful.0 own.0 ∙ had)) ∙ without_rows x h node lawful.1 own.0 had
