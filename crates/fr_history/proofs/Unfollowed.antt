-- In a lawful run that no node joins each correct node has a row in every cycle, and none follows.
use Rattle.std.proofs.Common.{◌≡◌, ℕ, ◌==◌, Bool, true, false, Option, Some, None, List, [], ◌∷◌, filter, map, length, refl, ap, sym, ◌∙◌, subst, if◌then◌else◌}
use Rattle.std.specs.Prelude.{is_some}
use Rattle.std.specs.List.{list_any}
use Rattle.fr_base.specs.declared.node_row.NodeRow.{NodeRow}
use Rattle.std.proofs.lemmas.Bool.{or_parts}
use Rattle.fr_cluster.specs.Setting.{Setting, correct_nodes}
use Rattle.fr_cluster.specs.declared.join.Join.{Join}
use Rattle.fr_cluster.specs.declared.nodes.NodeSpec.{NodeSpec}
use Rattle.fr_history.specs.Rows.{uncorrected}
use Rattle.fr_history.specs.Offers.{Reception, devs_among, offer_pair, offers_between}
use Rattle.fr_history.specs.Cycles.{Cycle, Cycles, cycle_at, some_joins}
use Rattle.fr_history.specs.Joining.{HasAllRows, RunsThatNoneJoins}
use Rattle.fr_history.specs.Lawful.{Obeys}
use Rattle.fr_history.specs.Standing.{follows, follows_by, has_row, has_row_by}

-- ---- the nodes that have a row, and those that follow

joins_not : (o : Option Join) → is_some o ≡ false → o ≡ None
joins_not None is = refl
joins_not (Some join) is = absurd (cc)

-- where none of some nodes joins, each of them has a row, and none follows
pub all_have_rows : (x : Setting) (h : Cycles) (nodes : List NodeSpec) → list_any (λ (node : NodeSpec). is_some (x.join node.id)) nodes ≡ false → filter (λ (node : NodeSpec). has_row x h node.id) nodes ≡ nodes
all_have_rows x h [] none = refl
all_have_rows x h (node ∷ nodes) none =
    let parts = or_parts (is_some (x.join node.id)) (list_any (λ (n : NodeSpec). is_some (x.join n.id)) nodes) none in
    let rest : List NodeSpec = filter (λ (n : NodeSpec). has_row x h n.id) nodes in
    ap (λ (join : Option Join). if has_row_by x h node.id join then node ∷ rest else rest) (joins_not (x.join node.id) parts.0)
    ∙ ap (λ (others : List NodeSpec). node ∷ others) (all_have_rows x h nodes parts.1)

pub none_follows : (x : Setting) (h : Cycles) (nodes : List NodeSpec) → list_any (λ (node : NodeSpec). is_some (x.join node.id)) nodes ≡ false → filter (λ (node : NodeSpec). follows x h node.id) nodes ≡ []
none_follows x h [] none = refl
none_follows x h (node ∷ nodes) none =
    let parts = or_parts (is_some (x.join node.id)) (list_any (λ (n : NodeSpec). is_some (x.join n.id)) nodes) none in
    let rest : List NodeSpec = filter (λ (n : NodeSpec). follows x h n.id) nodes in
    ap (λ (join : Option Join). if follows_by x h node.id join then node ∷ rest else rest) (joins_not (x.join node.id) parts.0)
    ∙ none_follows x h nodes parts.1

no_rows : (rows : List NodeRow) → map (λ (row : NodeRow). row.node) rows ≡ [] → rows ≡ []
no_rows [] is = refl
no_rows (row ∷ rows) is = absurd (cc)

no_receptions : (receptions : List Reception) → map offer_pair receptions ≡ [] → receptions ≡ []
no_receptions [] is = refl
no_receptions (reception ∷ receptions) is = absurd (cc)

pub has_all_rows : (x : Setting) (h : Cycles) (c : Cycle) → some_joins x ≡ false → Obeys x h c → HasAllRows x c
has_all_rows x h c none laws =
    let ids : List NodeSpec → List ℕ = λ nodes. map (λ (node : NodeSpec). node.id) nodes in
    let followers : c.followers ≡ [] = no_rows c.followers (laws.followers.clocks.nodes ∙ ap ids (none_follows x h (correct_nodes x) none)) in
    let offered = ap (λ (rows : List NodeRow). offers_between x (length h) (map uncorrected c.told.rows) (map uncorrected rows)) followers in
    record {
      rows = laws.told.clocks.nodes ∙ ap ids (all_have_rows x h (correct_nodes x) none);
      none_follows = followers;
      none_stored = laws.followers.devs ∙ ap devs_among (no_receptions laws.followers.receptions (laws.followers.received.whole ∙ offered));
    }

-- ---- in a run

pub runs_that_none_joins : RunsThatNoneJoins
unfolding cycle_at
runs_that_none_joins x [] cycle c none lawful at = absurd (cc)
runs_that_none_joins x (d ∷ h) cycle c none lawful at = by_test (length h == cycle) refl (runs_that_none_joins x h cycle c none lawful.1)
  where
    by_test : (b : Bool) → (length h == cycle) ≡ b → (cycle_at h cycle ≡ Some c → HasAllRows x c) → HasAllRows x c
    by_test true here before =
        let found : cycle_at (d ∷ h) cycle ≡ Some d = rw here refl in
        let it : Some d ≡ Some c = sym found ∙ at in
        let same : d ≡ c = cc in
        subst (HasAllRows x) same (has_all_rows x h d none lawful.0)
    by_test false other before =
        let moved : cycle_at (d ∷ h) cycle ≡ cycle_at h cycle = rw other refl in
        before (sym moved ∙ at)
