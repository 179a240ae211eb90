-- How the nodes of a run join is told of them in its trace.
use Rattle.std.proofs.Common.{◌≡◌, ◌≢◌, ◌⊎◌, inl, inr, ℕ, suc, ◌<◌, ◌≤◌, ◌==◌, Bool, true, false, List, [], ◌∷◌, ◌++◌, length, Option, Some, None, refl, ap, ◌∙◌, arith}
use Rattle.std.specs.Prelude.{All, AllPairs, Contains, find, if◌then◌else◌}
use Rattle.std.specs.List.{flat_map}
use Rattle.std.specs.Option.{option_map}
use Rattle.std.proofs.lemmas.Bool.Decides.{nat_tests}
use Rattle.std.proofs.lemmas.List.Elements.{All-append, All-cons, All-nil}
use Rattle.std.proofs.lemmas.List.Kept.{AllPairs-cons}
use Rattle.fr_cluster.proofs.Elements.{Contains-here, Contains-none, Contains-there}
use Rattle.fr_cluster.proofs.KeyNodes.{AllPairs-first, AllPairs-rest, Contains-cons_cases}
use Rattle.fr_cluster.specs.Sane.{IsSane}
use Rattle.fr_cluster.specs.Setting.{Setting}
use Rattle.fr_cluster.specs.declared.join.Join.{Join}
use Rattle.fr_cluster.specs.declared.nodes.NodeSpec.{NodeSpec}
use Rattle.fr_history.specs.Cycles.{Cycles}
use Rattle.fr_trace.specs.Joins.{join_among}
use Rattle.fr_trace.specs.Text.{joined_by}
use Rattle.fr_trace.specs.Trace.{traced_join_in}
use Rattle.fr_trace.specs.declared.trace.TracedJoin.{TracedJoin}
use Rattle.fr_verdict.specs.Runs.{trace_of_run}

-- how a node joins is told of it
not-same : (a b : ℕ) → a ≢ b → (a == b) ≡ false
not-same a b ne = grind (arith, nat_tests, ne)

none-joined : (x : Setting) (nodes : List NodeSpec) (id : ℕ) → ((node : NodeSpec) → Contains nodes node → node.id ≢ id) → join_among (flat_map (λ n. joined_by n.id (x.join n.id)) nodes) id ≡ None
none-joined x [] id other = refl
none-joined x (n ∷ nodes) id other = by (x.join n.id) (none-joined x nodes id (λ node there. other node (Contains-there n nodes node there)))
  where
    by : (o : Option Join) → join_among (flat_map (λ m. joined_by m.id (x.join m.id)) nodes) id ≡ None → join_among (joined_by n.id o ++ flat_map (λ m. joined_by m.id (x.join m.id)) nodes) id ≡ None
    by None rest = rest
    by (Some join) rest =
        let rows : List TracedJoin = flat_map (λ m. joined_by m.id (x.join m.id)) nodes in
        let own : TracedJoin = record { node = n.id; join = join } in
        ap (λ (b : Bool). option_map (λ (j : TracedJoin). j.join) (if b then Some own else find (λ (j : TracedJoin). j.node == id) rows)) (not-same n.id id (other n (Contains-here n nodes))) ∙ rest

joined-there : (x : Setting) (nodes : List NodeSpec) (node : NodeSpec) → AllPairs (λ (a b : NodeSpec). a.id < b.id) nodes → Contains nodes node
    → join_among (flat_map (λ n. joined_by n.id (x.join n.id)) nodes) node.id ≡ x.join node.id
joined-there x [] node ascend there = absurd (Contains-none node there)
joined-there x (n ∷ nodes) node ascend there =
    by (Contains-cons_cases n nodes node there) (x.join n.id) refl
    (joined-there x nodes node (AllPairs-rest (λ (a b : NodeSpec). a.id < b.id) n nodes ascend))
  where
    Rest : List TracedJoin
    Rest = flat_map (λ m. joined_by m.id (x.join m.id)) nodes

    yes : (n.id == node.id) ≡ true → (o : Option Join) → x.join n.id ≡ o → join_among Rest node.id ≡ None → join_among (joined_by n.id o ++ Rest) node.id ≡ o
    yes same None at none = none
    yes same (Some join) at none =
        let own : TracedJoin = record { node = n.id; join = join } in
        ap (λ (b : Bool). option_map (λ (j : TracedJoin). j.join) (if b then Some own else find (λ (j : TracedJoin). j.node == node.id) Rest)) same

    no : (n.id == node.id) ≡ false → (o : Option Join) → join_among (joined_by n.id o ++ Rest) node.id ≡ join_among Rest node.id
    no other None = refl
    no other (Some join) =
        let own : TracedJoin = record { node = n.id; join = join } in
        ap (λ (b : Bool). option_map (λ (j : TracedJoin). j.join) (if b then Some own else find (λ (j : TracedJoin). j.node == node.id) Rest)) other

    by : (n ≡ node) ⊎ Contains nodes node → (o : Option Join) → x.join n.id ≡ o → (Contains nodes node → join_among Rest node.id ≡ x.join node.id) → join_among (joined_by n.id (x.join n.id) ++ Rest) node.id ≡ x.join node.id
    by (inl same) o at rest =
        let ids : n.id ≡ node.id = ap (λ (m : NodeSpec). m.id) same in
        let here : (n.id == node.id) ≡ true = grind (arith, nat_tests, ids) in
        let none = none-joined x nodes node.id (λ m there is. let lt = AllPairs-first (λ (a b : NodeSpec). a.id < b.id) n nodes m ascend there in absurd (omega (arith, lt, is, ids))) in
        yes here (x.join n.id) refl none ∙ ap x.join ids
    by (inr there) o at rest =
        let lt = AllPairs-first (λ (a b : NodeSpec). a.id < b.id) n nodes node ascend there in
        no (not-same n.id node.id (λ is. absurd (omega (arith, lt, is)))) (x.join n.id) ∙ rest there

pub join-is : (x : Setting) (h : Cycles) (node : NodeSpec) → IsSane x.params → Contains x.params.nodes node → traced_join_in (trace_of_run x h) node.id ≡ x.join node.id
join-is x h node sane there = joined-there x x.params.nodes node sane.lists.nodes_ascend there

-- what holds of each node that joins holds of all that is told of them
pub all-joined : (x : Setting) (P : TracedJoin → Type 0) (nodes : List NodeSpec)
    → ((node : NodeSpec) (join : Join) → Contains nodes node → x.join node.id ≡ Some join → P (record { node = node.id; join = join })) → All P (flat_map (λ n. joined_by n.id (x.join n.id)) nodes)
all-joined x P [] each = All-nil P
all-joined x P (n ∷ nodes) each =
    All-append P (joined_by n.id (x.join n.id)) (flat_map (λ m. joined_by m.id (x.join m.id)) nodes) (own (x.join n.id) refl)
    (all-joined x P nodes (λ node join there at. each node join (Contains-there n nodes node there) at))
  where
    own : (o : Option Join) → x.join n.id ≡ o → All P (joined_by n.id o)
    own None at = All-nil P
    own (Some join) at = All-cons P (record { node = n.id; join = join }) [] (each n join (Contains-here n nodes) at) (All-nil P)

pub joined-few : (x : Setting) (nodes : List NodeSpec) → length (flat_map (λ n. joined_by n.id (x.join n.id)) nodes) ≤ length nodes
joined-few x [] = omega arith
joined-few x (n ∷ nodes) = by (x.join n.id) (joined-few x nodes)
  where
    by : (o : Option Join) → length (flat_map (λ m. joined_by m.id (x.join m.id)) nodes) ≤ length nodes
        → length (joined_by n.id o ++ flat_map (λ m. joined_by m.id (x.join m.id)) nodes) ≤ suc (length nodes)
    by None le = omega (arith, le)
    by (Some join) le = omega (arith, le)

pub joined-ascend : (x : Setting) (nodes : List NodeSpec) → AllPairs (λ (a b : NodeSpec). a.id < b.id) nodes → AllPairs (λ (a b : TracedJoin). a.node < b.node) (flat_map (λ n. joined_by n.id (x.join n.id)) nodes)
joined-ascend x [] ascend = λ i j d lt le. absurd (omega (arith, le))
joined-ascend x (n ∷ nodes) ascend = by (x.join n.id) (joined-ascend x nodes (AllPairs-rest (λ (a b : NodeSpec). a.id < b.id) n nodes ascend))
  where
    by : (o : Option Join) → AllPairs (λ (a b : TracedJoin). a.node < b.node) (flat_map (λ m. joined_by m.id (x.join m.id)) nodes)
        → AllPairs (λ (a b : TracedJoin). a.node < b.node) (joined_by n.id o ++ flat_map (λ m. joined_by m.id (x.join m.id)) nodes)
    by None rest = rest
    by (Some join) rest =
        let own : TracedJoin = record { node = n.id; join = join } in
        AllPairs-cons (λ (a b : TracedJoin). a.node < b.node) own (flat_map (λ m. joined_by m.id (x.join m.id)) nodes)
        (all-joined x (λ (j : TracedJoin). n.id < j.node) nodes (λ node other there at. AllPairs-first (λ (a b : NodeSpec). a.id < b.id) n nodes node ascend there)) rest
