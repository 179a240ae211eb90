-- A node of a world is found among the nodes that it holds.
use Rattle.std.proofs.Common.{◌≡◌, ℕ, ◌==◌, ◌<◌, Bool, true, false, cond, not, ◌&&◌, ◌||◌, List, [], ◌∷◌, Option, Some, None, map, length, Bor, refl, ap, subst, sym, ◌∙◌, arith}
use Rattle.std.specs.Prelude.{All, Contains, filter, find, IfSome, IsNone}
use Rattle.std.specs.Option.{option_copied, option_map}
use Rattle.std.proofs.lemmas.Bool.{eqb-true}
use Rattle.std.proofs.lemmas.List.{length-map}
use Rattle.std.proofs.lemmas.List.Elements.{All-cons, All-nil}
use Rattle.fr_base.specs.declared.node_row.NodeRow.{NodeRow}
use Rattle.fr_cluster.specs.Questions.{node_of}
use Rattle.fr_cluster.specs.declared.join.Join.{Join}
use Rattle.fr_cluster.specs.declared.nodes.NodeSpec.{NodeSpec}
use Rattle.fr_cluster.proofs.Elements.{found, kept_filtered}
use Rattle.fr_script.specs.View.{is_arbitrary}
use Rattle.fr_node.specs.View.{NodeView}
use Rattle.fr_cluster.specs.Setting.{Setting, correct_nodes, is_correct}
use Rattle.fr_history.specs.Cycles.{Cycle, Cycles}
use Rattle.fr_history.specs.Lawful.{IsLawful}
use Rattle.fr_history.specs.Standing.{following_nodes, has_row, has_row_by}
use Rattle.fr_history.specs.Unfollowed.{is_none}
use Rattle.fr_air.specs.Views.{node_of_next}
use Rattle.fr_air.proofs.Placing.{filter_both}
use Rattle.fr_air.proofs.NextStanding.{told_has}
use Rattle.fr_world.specs.Standing.{followers_kept, nodes_kept}
use Rattle.fr_world.specs.World.{followed_last, is_told, node_seen, setting_after, is_told_after, world_cycles, WorldView}
use Rattle.fr_air.proofs.Members.{IsNext, next_followers}

-- ---- a search among numbered nodes

found-by : (e : ℕ → NodeView) → ((id : ℕ) → (e id).id ≡ id) → (p : ℕ → Bool) (id : ℕ) (specs : List NodeSpec)
    → find (λ node. node.id == id) (map (λ (spec : NodeSpec). e spec.id) (filter (λ (spec : NodeSpec). p spec.id) specs)) ≡ cond (p id) (option_map (λ (spec : NodeSpec). e id) (find (λ spec. spec.id == id) specs)) None
found-by e named p id [] = none (p id)
  where
    nothing : Option NodeView
    nothing = None

    none : (b : Bool) → nothing ≡ cond b nothing nothing
    none true = refl
    none false = refl
found-by e named p id (s ∷ ss) = by (s.id == id) (p s.id) refl refl (found-by e named p id ss)
  where
    among : List NodeSpec → Option NodeView
    among specs = find (λ node. node.id == id) (map (λ (spec : NodeSpec). e spec.id) specs)

    there : Option NodeSpec → Option NodeView
    there o = cond (p id) (option_map (λ (spec : NodeSpec). e id) o) None

    by : (same passes : Bool) → (s.id == id) ≡ same → p s.id ≡ passes → among (filter (λ (spec : NodeSpec). p spec.id) ss) ≡ there (find (λ spec. spec.id == id) ss)
        → among (cond passes (s ∷ filter (λ (spec : NodeSpec). p spec.id) ss) (filter (λ (spec : NodeSpec). p spec.id) ss)) ≡ there (cond same (Some s) (find (λ spec. spec.id == id) ss))
    by true true same passes rest =
        let at : s.id ≡ id = eqb-true s.id id same in
        let here : p id ≡ true = ap p (sym at) ∙ passes in
        let it : ((e s.id).id == id) ≡ true = ap (λ (n : ℕ). n == id) (named s.id) ∙ same in
        ap (λ (b : Bool). cond b (Some (e s.id)) (among (filter (λ (spec : NodeSpec). p spec.id) ss))) it
        ∙ ap (λ (k : ℕ). Some (e k)) at
        ∙ sym (ap (λ (b : Bool). cond b (Some (e id)) None) here)
    by true false same fails rest =
        let at : s.id ≡ id = eqb-true s.id id same in
        let here : p id ≡ false = ap p (sym at) ∙ fails in
        rest
        ∙ ap (λ (b : Bool). cond b (option_map (λ (spec : NodeSpec). e id) (find (λ spec. spec.id == id) ss)) None) here
        ∙ sym (ap (λ (b : Bool). cond b (Some (e id)) None) here)
    by false true other passes rest =
        let it : ((e s.id).id == id) ≡ false = ap (λ (n : ℕ). n == id) (named s.id) ∙ other in
        ap (λ (b : Bool). cond b (Some (e s.id)) (among (filter (λ (spec : NodeSpec). p spec.id) ss))) it ∙ rest
    by false false other fails rest = rest

-- ---- a node is told of where it is kept

-- whether a node is one of those that had a row in the last cycle, or before the first of those that join nobody
kept_row : Setting → Cycles → ℕ → Bool
kept_row x [] node = has_row x [] node
kept_row x (c ∷ h) node = has_row x h node

same_told : (x : Setting) (h : Cycles) (node : NodeSpec) → IsLawful x h → Contains (correct_nodes x) node → kept_row x h node.id ≡ is_told x h node.id
unfolding kept_row
same_told x [] node lawful there = by (x.join node.id)
  where
    by : (join : Option Join) → has_row_by x [] node.id join ≡ is_told_after join [] node.id
    by None = refl
    by (Some join) = refl
same_told x (c ∷ h) node lawful there = by (x.join node.id) refl
  where
    by : (join : Option Join) → x.join node.id ≡ join → has_row x h node.id ≡ is_told_after join (c ∷ h) node.id
    by None at = ap (has_row_by x h node.id) at
    by (Some join) at = sym (told_has x h c node lawful.0 there)

kept-find : (x : Setting) (h : Cycles) (id : ℕ)
    → find (λ node. node.id == id) (nodes_kept x h) ≡ cond (is_correct x id && kept_row x h id) (option_map (λ (spec : NodeSpec). node_of_next x h false id) (node_of x.params id)) None
unfolding kept_row
kept-find x [] id =
    let f : NodeSpec → NodeView = λ spec. node_of_next x [] false spec.id in
    ap (λ (specs : List NodeSpec). find (λ node. node.id == id) (map f specs))
    (sym (filter_both (λ (spec : NodeSpec). is_correct x spec.id) (λ (spec : NodeSpec). has_row x [] spec.id) x.params.nodes))
    ∙ found-by (node_of_next x [] false) (λ n. refl) (λ n. is_correct x n && has_row x [] n) id x.params.nodes
kept-find x (c ∷ h) id =
    let f : NodeSpec → NodeView = λ spec. node_of_next x (c ∷ h) false spec.id in
    ap (λ (specs : List NodeSpec). find (λ node. node.id == id) (map f specs))
    (sym (filter_both (λ (spec : NodeSpec). is_correct x spec.id) (λ (spec : NodeSpec). has_row x h spec.id) x.params.nodes))
    ∙ found-by (node_of_next x (c ∷ h) false) (λ n. refl) (λ n. is_correct x n && has_row x h n) id x.params.nodes

-- a node is found among those that are kept where it is correct and known, and told of
pub node-found : (x : Setting) (h : Cycles) (id : ℕ) → IsLawful x h
    → find (λ node. node.id == id) (nodes_kept x h) ≡ cond (x.is_arbitrary id || not (is_told x h id)) None (option_map (λ (spec : NodeSpec). node_of_next x h false id) (node_of x.params id))
node-found x h id lawful = kept-find x h id ∙ by (x.is_arbitrary id) refl (node_of x.params id) refl
  where
    seen : Option NodeSpec → Option NodeView
    seen o = option_map (λ (spec : NodeSpec). node_of_next x h false id) o

    neither : (b c : Bool) → cond b (seen None) (seen None) ≡ cond c (seen None) (seen None)
    neither true true = refl
    neither true false = refl
    neither false true = refl
    neither false false = refl

    turned : (b : Bool) (o : Option NodeSpec) → cond b (seen o) None ≡ cond (not b) None (seen o)
    turned true o = refl
    turned false o = refl

    by : (arbitrary : Bool) → x.is_arbitrary id ≡ arbitrary → (o : Option NodeSpec) → node_of x.params id ≡ o
        → cond (not arbitrary && kept_row x h id) (seen o) None ≡ cond (arbitrary || not (is_told x h id)) None (seen o)
    by true is o known = refl
    by false is None known = neither (kept_row x h id) (not (is_told x h id))
    by false is (Some spec) known =
        let it = found (λ (s : NodeSpec). s.id == id) x.params.nodes spec known in
        let at : spec.id ≡ id = eqb-true spec.id id it.0 in
        let correct : is_correct x spec.id ≡ true = ap (is_correct x) at ∙ ap not is in
        let among : Contains (correct_nodes x) spec = kept_filtered (λ (s : NodeSpec). is_correct x s.id) x.params.nodes spec it.1 correct in
        let same : kept_row x h id ≡ is_told x h id = subst (λ (n : ℕ). kept_row x h n ≡ is_told x h n) at (same_told x h spec lawful among) in
        ap (λ (b : Bool). cond b (seen (Some spec)) None) same ∙ turned (is_told x h id) (Some spec)

-- it stands between cycles
pub node-between : (w : WorldView) (id : ℕ) → IfSome (node_seen w id) (λ node. IsNone node.length)
node-between w id = by (is_arbitrary w.script id || not (is_told (setting_after w) (world_cycles w) id)) (node_of w.params id)
  where
    by : (untold : Bool) (spec : Option NodeSpec) →
        IfSome (cond untold None (option_map (λ (s : NodeSpec). node_of_next (setting_after w) (world_cycles w) false id) spec)) (λ node. IsNone node.length)
    by true spec = tt
    by false None = tt
    by false (Some s) = refl

-- what holds of what is copied holds of what is lent
pub copied_between : (lent : Option (Bor NodeView)) (copied : Option NodeView) → option_copied lent ≡ copied → IfSome copied (λ node. IsNone node.length) → IfSome lent (λ node. IsNone node.now.length)
copied_between None copied is holds = tt
copied_between (Some node) copied is holds = subst (λ (o : Option NodeView). IfSome o (λ node. IsNone node.length)) (sym is) holds

-- all nodes that are kept stand between cycles
pub all_between : (x : Setting) (h : Cycles) (specs : List NodeSpec) → All (λ node. IsNone node.length) (map (λ (spec : NodeSpec). node_of_next x h false spec.id) specs)
all_between x h [] = All-nil (λ (node : NodeView). IsNone node.length)
all_between x h (spec ∷ specs) =
    All-cons (λ (node : NodeView). IsNone node.length) (node_of_next x h false spec.id) (map (λ (s : NodeSpec). node_of_next x h false s.id) specs) refl (all_between x h specs)

-- ---- whether a node followed

none_of : (rows : List NodeRow) (nodes : List NodeView) → length rows ≡ length nodes → (b : Bool) → (b ≡ true → 0 < length nodes) → (0 < length nodes → b ≡ true) → b ≡ not (is_none rows)
none_of [] [] long true some back = absurd (omega (arith, some refl))
none_of [] [] long false some back = refl
none_of (row ∷ rows) [] long b some back = absurd (omega (arith, long))
none_of [] (node ∷ nodes) long b some back = absurd (omega (arith, long))
none_of (row ∷ rows) (node ∷ nodes) long b some back = back (omega arith)

pub followed-kept : (x : Setting) (h : Cycles) (nodes : List NodeView) → IsNext x h → nodes ≡ followers_kept x h → (b : Bool) → (b ≡ true → 0 < length nodes) → (0 < length nodes → b ≡ true) → b ≡ followed_last h
followed-kept x [] nodes next are true some back = absurd (omega (arith, some refl, ap length are))
followed-kept x [] nodes next are false some back = refl
followed-kept x (c ∷ h) nodes next are b some back =
    let f : NodeSpec → NodeView = λ node. node_of_next x (c ∷ h) true node.id in
    let long : length c.followers ≡ length nodes =
    ap (λ (d : Cycle). length d.followers) next
    ∙ ap length (next_followers x h)
    ∙ length-map (following_nodes x h) _
    ∙ sym (ap length are ∙ length-map (following_nodes x h) f) in
    none_of c.followers nodes long b some back
