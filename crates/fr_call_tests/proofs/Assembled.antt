-- Two nodes of the made cluster, one further slot and its numbers are those of a cluster.
use Rattle.std.proofs.Common.{◌≢◌, ◌≤◌, ◌<◌, ℕ, zero, suc, [], ◌∷◌, refl, arith, lit<}
use Rattle.std.specs.List.{All, AllPairs, Contains}
use Rattle.std.proofs.lemmas.List.Elements.{All-cons}
use Rattle.std.proofs.lemmas.List.Kept.{AllPairs-cons}
use Rattle.fr_cluster.specs.Sane.{IsSaneNode, IsSaneSlot}
use Rattle.fr_params.specs.Assembling.{AreAccepted}
use Rattle.fr_generator.specs.Cluster.{made_node, made_numbers, made_slot}
use Rattle.fr_generator.proofs.MadeCluster.{made-accepted}

all-none : {X : Type 0} (P : X → Type 0) → All P []
all-none P k d less = absurd (omega arith)

pairs-none : {X : Type 0} (R : X → X → Type 0) → AllPairs R []
pairs-none R i j d before less = absurd (omega arith)

all-two : {X : Type 0} (P : X → Type 0) (x y : X) → P x → P y → All P (x ∷ y ∷ [])
all-two P x y first second = All-cons P x (y ∷ []) first (All-cons P y [] second (all-none P))

pairs-two : {X : Type 0} (R : X → X → Type 0) (x y : X) → R x y → AllPairs R (x ∷ y ∷ [])
pairs-two R x y both = AllPairs-cons R x (y ∷ []) (All-cons (R x) y [] both (all-none (R x))) (AllPairs-cons R y [] (all-none (R y)) (pairs-none R))

sane : (number : ℕ) → 1 ≤ number → number ≤ 64 → IsSaneNode (made_node number)
sane number low high = record { proper = record { from = low; to = high; key = (low, omega arith) }; starts = refl }

-- the further slot is no key slot
free : Contains {X = ℕ} (1 ∷ 2 ∷ []) 9 → ⊥
free (zero, room, is) = absurd (omega (arith, is))
free (suc zero, room, is) = absurd (omega (arith, is))
free (suc (suc k), room, is) = absurd (omega (arith, room))

pub few-accepted : AreAccepted made_numbers (made_node 1 ∷ made_node 2 ∷ []) (made_slot 9 ∷ [])
few-accepted = record {
  long = refl;
  ranged = made-accepted.ranged;
  lists = record {
    nodes_sane = all-two IsSaneNode (made_node 1) (made_node 2) (sane 1 (omega arith) (omega arith)) (sane 2 (omega arith) (omega arith));
    slots_sane =
        All-cons (IsSaneSlot (made_node 1 ∷ made_node 2 ∷ [])) (made_slot 9) []
        (record {
          proper = record {
            from = omega arith;
            to = omega arith;
            node_from = omega arith;
            node_to = omega arith;
            base_to = omega arith;
            repetition_from = omega arith;
            repetition_to = omega arith;
          };
          turn = refl;
          known = (0, lit< tt, refl);
        })
        (all-none (IsSaneSlot (made_node 1 ∷ made_node 2 ∷ [])));
    nodes_ascend = pairs-two (λ a b. a.id < b.id) (made_node 1) (made_node 2) (omega arith);
    slots_ascend = AllPairs-cons (λ a b. a.slot < b.slot) (made_slot 9) [] (all-none (λ slot. 9 < slot.slot)) (pairs-none (λ a b. a.slot < b.slot));
    few_nodes = omega arith;
    few_slots = omega arith;
  };
  constraints = record {
    whole_cycle = refl;
    acts_in_slot = omega arith;
    corrects_after = (omega arith, omega arith);
    leaves_microticks = omega arith;
    passive_first = omega arith;
    sync_nodes = (omega arith, omega arith);
    own_slots = (all-two (λ key. key ≤ 140) 1 2 (omega arith) (omega arith), pairs-two (λ a b. a ≢ b) 1 2 (λ same. absurd (omega (arith, same))));
    free_slots = All-cons (λ slot. (slot.slot ≤ 140) × (Contains {X = ℕ} (1 ∷ 2 ∷ []) slot.slot → ⊥)) (made_slot 9) [] (omega arith, free) (all-none (λ slot. (slot.slot ≤ 140) × (Contains {X = ℕ} (1 ∷ 2 ∷ []) slot.slot → ⊥)));
  };
}
