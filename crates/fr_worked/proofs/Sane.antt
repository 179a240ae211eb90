-- The clusters of the worked runs are clusters.
use Rattle.std.proofs.Common.{◌≡◌, ◌≤◌, ◌<◌, ◌≢◌, ◌+◌, ℕ, zero, suc, Bool, true, Some, List, [], ◌∷◌, length, refl, arith}
use Rattle.std.specs.List.{All, AllPairs}
use Rattle.std.proofs.lemmas.Int.{ints}
use Rattle.std.proofs.lemmas.List.Elements.{All-cons}
use Rattle.std.proofs.lemmas.List.Kept.{AllPairs-cons}
use Rattle.fr_cluster.specs.Constraints.{key_slots}
use Rattle.fr_cluster.specs.Ranges.{InRange}
use Rattle.fr_cluster.specs.Sane.{IsSane, IsSaneNode}
use Rattle.fr_cluster.specs.Values.{figure}
use Rattle.fr_cluster.specs.declared.names.ParamName.{ParamName}
use Rattle.fr_cluster.specs.declared.names.ParamName.TheVariants as name
use Rattle.fr_cluster.specs.declared.nodes.NodeSpec.{NodeSpec}
use Rattle.fr_worked.specs.Clusters.{cluster_of}

-- so many coldstart nodes from a number on, on channel A and perhaps on channel B
unfoldable pub nodes_from : Bool → ℕ → ℕ → List NodeSpec
nodes_from on_b first zero = []
nodes_from on_b first (suc more) =
    record { id = first; key = Some first; on_a = true; on_b = on_b; coldstart = true } ∷ nodes_from on_b (suc first) more

in_range : (nodes : List NodeSpec) (n : ParamName) → InRange n (figure (cluster_of nodes) n)
in_range nodes name.gMacroPerCycle = (grind (arith, ints), grind (arith, ints))
in_range nodes other = (grind (arith, ints), grind (arith, ints))

-- nothing is said of the elements of the empty list
all_none : {X : Type 0} (P : X → Type 0) → All P []
all_none P k d less = absurd (omega arith)

pairs_none : {X : Type 0} (R : X → X → Type 0) → AllPairs R []
pairs_none R i j d before less = absurd (omega arith)

nodes_sane : (on_b : Bool) (first count : ℕ) → 1 ≤ first → first + count ≤ 65 → All IsSaneNode (nodes_from on_b first count)
unfolding nodes_from
nodes_sane on_b first zero low high = all_none IsSaneNode
nodes_sane on_b first (suc more) low high =
    All-cons
    IsSaneNode
    _
    (nodes_from on_b (suc first) more)
    (record { proper = record { from = low; to = omega arith; key = (low, omega arith) }; starts = refl })
    (nodes_sane on_b (suc first) more (omega arith) (omega arith))

ids_above : (on_b : Bool) (low first count : ℕ) → low < first → All (λ node. low < node.id) (nodes_from on_b first count)
unfolding nodes_from
ids_above on_b low first zero less = all_none (λ node. low < node.id)
ids_above on_b low first (suc more) less =
    All-cons (λ node. low < node.id) _ (nodes_from on_b (suc first) more) less (ids_above on_b low (suc first) more (omega arith))

ids_ascend : (on_b : Bool) (first count : ℕ) → AllPairs (λ a b. a.id < b.id) (nodes_from on_b first count)
unfolding nodes_from
ids_ascend on_b first zero = pairs_none (λ a b. a.id < b.id)
ids_ascend on_b first (suc more) =
    AllPairs-cons
    (λ a b. a.id < b.id)
    _
    (nodes_from on_b (suc first) more)
    (ids_above on_b first (suc first) more (omega arith))
    (ids_ascend on_b (suc first) more)

keys_within : (on_b : Bool) (first count : ℕ) → first + count ≤ 141 → All (λ key. key ≤ 140) (key_slots (nodes_from on_b first count))
unfolding nodes_from
keys_within on_b first zero high = all_none (λ key. key ≤ 140)
keys_within on_b first (suc more) high =
    All-cons (λ key. key ≤ 140) first (key_slots (nodes_from on_b (suc first) more)) (omega arith) (keys_within on_b (suc first) more (omega arith))

keys_others : (on_b : Bool) (low first count : ℕ) → low < first → All (λ key. low ≢ key) (key_slots (nodes_from on_b first count))
unfolding nodes_from
keys_others on_b low first zero less = all_none (λ key. low ≢ key)
keys_others on_b low first (suc more) less =
    All-cons
    (λ key. low ≢ key)
    first
    (key_slots (nodes_from on_b (suc first) more))
    (λ same. absurd (omega arith))
    (keys_others on_b low (suc first) more (omega arith))

keys_differ : (on_b : Bool) (first count : ℕ) → AllPairs (λ a b. a ≢ b) (key_slots (nodes_from on_b first count))
unfolding nodes_from
keys_differ on_b first zero = pairs_none (λ a b. a ≢ b)
keys_differ on_b first (suc more) =
    AllPairs-cons
    (λ a b. a ≢ b)
    first
    (key_slots (nodes_from on_b (suc first) more))
    (keys_others on_b first (suc first) more (omega arith))
    (keys_differ on_b (suc first) more)

keys_long : (on_b : Bool) (first count : ℕ) → length (key_slots (nodes_from on_b first count)) ≡ count
unfolding nodes_from
keys_long on_b first zero = refl
keys_long on_b first (suc more) = let rest : length (key_slots (nodes_from on_b (suc first) more)) ≡ more = keys_long on_b (suc first) more in omega arith

nodes_long : (on_b : Bool) (first count : ℕ) → length (nodes_from on_b first count) ≡ count
unfolding nodes_from
nodes_long on_b first zero = refl
nodes_long on_b first (suc more) = let rest : length (nodes_from on_b (suc first) more) ≡ more = nodes_long on_b (suc first) more in omega arith

-- one to fifteen nodes from 1 on make a cluster
pub cluster_sane : (on_b : Bool) (count : ℕ) → 1 ≤ count → count ≤ 15 → IsSane (cluster_of (nodes_from on_b 1 count))
cluster_sane on_b count low high =
    let keys : length (key_slots (nodes_from on_b 1 count)) ≡ count = keys_long on_b 1 count in
    let long : length (nodes_from on_b 1 count) ≡ count = nodes_long on_b 1 count in
    record {
      ranges = in_range (nodes_from on_b 1 count);
      constraints = record {
        whole_cycle = refl;
        acts_in_slot = omega arith;
        corrects_after = (omega arith, omega arith);
        leaves_microticks = omega arith;
        passive_first = omega arith;
        sync_nodes = (omega arith, omega arith);
        own_slots = (keys_within on_b 1 count (omega arith), keys_differ on_b 1 count);
        free_slots = all_none _;
      };
      lists = record {
        nodes_sane = nodes_sane on_b 1 count (omega arith) (omega arith);
        slots_sane = all_none _;
        nodes_ascend = ids_ascend on_b 1 count;
        slots_ascend = pairs_none (λ a b. a.slot < b.slot);
        few_nodes = omega arith;
        few_slots = omega arith;
      };
    }
