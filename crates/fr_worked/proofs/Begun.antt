-- The worked run that a node joins: its cluster, its double cycles, and the first of these, which is in sync.
use Rattle.std.proofs.Common.{◌≡◌, ◌≢◌, ◌≤◌, ◌*◌, ◌-◌, ℕ, suc, pos, [], ◌∷◌, ◌++◌, length, refl, ap, sym, ◌∙◌, subst, inl, inr, lit≤, lit<, arith}
use Rattle.std.specs.Prelude.{◌<◌, AllPairs, Contains, drop}
use Rattle.std.proofs.Math.Seq.{drop-append_seam}
use Rattle.std.proofs.lemmas.List.{length-append}
use Rattle.std.proofs.lemmas.List.Elements.{All-cons, All-nil}
use Rattle.std.proofs.lemmas.List.Kept.{AllPairs-cons}
use Rattle.fr_base.specs.Within.{IsWithin}
use Rattle.fr_base.specs.declared.node_row.NodeRow.{NodeRow}
use Rattle.fr_base.specs.declared.state.State.TheVariants.{Active}
use Rattle.fr_cluster.specs.Ranges.{InRange}
use Rattle.fr_cluster.specs.Sane.{IsSane, IsSaneNode, IsSaneSlot}
use Rattle.fr_cluster.proofs.KeyNodes.{Contains-cons_cases}
use Rattle.fr_cluster.specs.Setting.{IsSetting, correct_nodes, is_correct}
use Rattle.fr_cluster.specs.Values.{figure}
use Rattle.fr_cluster.specs.declared.names.ParamName.{ParamName}
use Rattle.fr_cluster.specs.declared.names.ParamName.TheVariants as name
use Rattle.fr_cluster.specs.declared.nodes.NodeSpec.{NodeSpec}
use Rattle.fr_cluster.specs.declared.nodes.SlotSpec.{SlotSpec}
use Rattle.fr_bound.specs.Bounds.{lambda_of, pi_of}
use Rattle.fr_bound.specs.Sync.{IsCycleLength, IsInSync, cycle_length_of}
use Rattle.fr_precision.proofs.Worked.{two, none, sane_node, lie_two}
use Rattle.fr_history.specs.Cycles.{Cycle, Cycles}
use Rattle.fr_history.specs.Worked.{after_12, joined_run, on_a, roomy_cluster, two_at}
use Rattle.fr_history.specs.Standing.{has_row, row_nodes}
use Rattle.fr_cluster.proofs.Elements.{Contains-none, filtered}
use Rattle.fr_history.specs.History.{row_for}
use Rattle.fr_runs.specs.Rounds.{IsDoubleOf, IsUnfollowedSync}
use Rattle.fr_promise.proofs.SharpWorked.{three}

-- ---- its parameters are those of a cluster

in_range : (n : ParamName) → InRange n (figure roomy_cluster n)
in_range name.gMacroPerCycle = (record { le = tt }, record { le = tt })
in_range other = (record { le = tt }, record { le = tt })

pub ordered : {X : Type 0} (R : X → X → Type 0) (one other third : X) → R one other → R one third → R other third → AllPairs R (one ∷ other ∷ third ∷ [])
ordered R one other third before first last =
    AllPairs-cons R one (other ∷ third ∷ []) (two (R one) other third before first)
    (AllPairs-cons R other (third ∷ []) (All-cons (R other) third [] last (All-nil (R other))) (AllPairs-cons R third [] (All-nil (R third)) (none R)))

pub is_sane : IsSane roomy_cluster
is_sane = record {
  ranges = in_range;
  constraints = record {
    whole_cycle = refl;
    acts_in_slot = lit< tt;
    corrects_after = (lit< tt, lit< tt);
    leaves_microticks = lit≤ tt;
    passive_first = lit≤ tt;
    sync_nodes = (lit≤ tt, lit≤ tt);
    own_slots = (three (λ key. key ≤ 140) 1 2 3 (lit≤ tt) (lit≤ tt) (lit≤ tt), ordered (λ a b. a ≢ b) 1 2 3 (λ same. omega arith) (λ same. omega arith) (λ same. omega arith));
    free_slots = All-nil (λ (slot : SlotSpec). (slot.slot ≤ 140) × (Contains (1 ∷ 2 ∷ 3 ∷ []) slot.slot → ⊥));
  };
  lists = record {
    nodes_sane = three IsSaneNode (on_a 1) (on_a 2) (on_a 3) (sane_node 1 (lit≤ tt) (lit≤ tt)) (sane_node 2 (lit≤ tt) (lit≤ tt)) (sane_node 3 (lit≤ tt) (lit≤ tt));
    slots_sane = All-nil (IsSaneSlot (on_a 1 ∷ on_a 2 ∷ on_a 3 ∷ []));
    nodes_ascend = ordered (λ (a b : NodeSpec). a.id < b.id) (on_a 1) (on_a 2) (on_a 3) (lit< tt) (lit< tt) (lit< tt);
    slots_ascend = none (λ (a b : SlotSpec). a.slot < b.slot);
    few_nodes = lit≤ tt;
    few_slots = lit≤ tt;
  };
}

pub is_setting : IsSetting joined_run
is_setting = record { sane = is_sane; bytes = λ cycle sender receiver channel. tt }

-- ---- the double cycles of its cycles

-- what comes behind some cycles is what is left when these are dropped
left_is : (h later t : Cycles) → h ≡ later ++ t → t ≡ drop (length h - length t) h
left_is h later t parted =
    let size : length h ≡ length (later ++ t) = ap (λ (g : Cycles). length g) parted in
    let both = length-append later t in
    let count : length later ≡ length h - length t = omega (arith, size, both) in
    sym (drop-append_seam later t) ∙ ap (drop (length later)) (sym parted) ∙ ap (λ n. drop n h) count

pub double_is : (k : ℕ) (earlier : Cycles) (even odd : Cycle) → IsDoubleOf after_12 k earlier even odd → (odd ∷ even ∷ earlier) ≡ drop (12 - suc (suc (2 * k))) after_12
double_is k earlier even odd d =
    left_is after_12 d.later (odd ∷ even ∷ earlier) d.parted ∙ ap (λ n. drop (12 - suc (suc n)) after_12) d.counted

-- ---- the first one is in sync, and none follows in it

-- the row of a node that is Active in a cycle
abbrev pub row_at : ℕ → ℕ → NodeRow
row_at cycle node = record { node = node; start = pos (cycle * 200_000_000_000); length = pos 1_000_000; rate = pos 0; offset = pos 0; state = Active; cut = 0 }

pub begins_in_sync : IsInSync roomy_cluster (row_at 0 1 ∷ row_at 0 2 ∷ []) (row_at 1 1 ∷ row_at 1 2 ∷ [])
begins_in_sync = record {
  active_even = two (λ (row : NodeRow). row.state ≡ Active) (row_at 0 1) (row_at 0 2) refl refl;
  active_odd = two (λ (row : NodeRow). row.state ≡ Active) (row_at 1 1) (row_at 1 2) refl refl;
  starts = lie_two (pos (pi_of roomy_cluster)) (pos 0) (pos 0) (record { le = tt }) (record { le = tt }) (record { le = tt }) (record { le = tt });
  even_lengths =
      lie_two (pos (lambda_of roomy_cluster)) (cycle_length_of roomy_cluster (row_at 0 1)) (cycle_length_of roomy_cluster (row_at 0 2)) (record { le = tt }) (record { le = tt })
      (record { le = tt }) (record { le = tt });
  odd_lengths =
      lie_two (pos (lambda_of roomy_cluster)) (cycle_length_of roomy_cluster (row_at 1 1)) (cycle_length_of roomy_cluster (row_at 1 2)) (record { le = tt }) (record { le = tt })
      (record { le = tt }) (record { le = tt });
  even_proper =
      two (λ (row : NodeRow). IsCycleLength roomy_cluster (cycle_length_of roomy_cluster row)) (row_at 0 1) (row_at 0 2) (record { le = tt }, record { le = tt })
      (record { le = tt }, record { le = tt });
  odd_proper =
      two (λ (row : NodeRow). IsCycleLength roomy_cluster (cycle_length_of roomy_cluster row)) (row_at 1 1) (row_at 1 2) (record { le = tt }, record { le = tt })
      (record { le = tt }, record { le = tt });
}

-- what holds of each of its nodes
pub each_node : (P : NodeSpec → Type 0) → P (on_a 1) → P (on_a 2) → P (on_a 3) → (node : NodeSpec) → Contains roomy_cluster.nodes node → P node
each_node P one other third node among = elim (Contains-cons_cases (on_a 1) (on_a 2 ∷ on_a 3 ∷ []) node among) [
  | inl first ↦ subst P first one
  | inr rest ↦ elim (Contains-cons_cases (on_a 2) (on_a 3 ∷ []) node rest) [
    | inl second ↦ subst P second other
    | inr last ↦ elim (Contains-cons_cases (on_a 3) [] node last) [ inl it ↦ subst P it third | inr nobody ↦ absurd (Contains-none node nobody) ]
  ]
]

pub of_cluster : (h : Cycles) (node : NodeSpec) → Contains (row_nodes joined_run h) node → Contains roomy_cluster.nodes node
of_cluster h node among =
    (filtered (λ (n : NodeSpec). is_correct joined_run n.id) roomy_cluster.nodes node (filtered (λ (n : NodeSpec). has_row joined_run h n.id) (correct_nodes joined_run) node among).0).0

-- the first two of some cycles are in sync, and none follows in them
AreFirstTwo : Cycles → Type 0
AreFirstTwo [] = Unit {0}
AreFirstTwo (odd ∷ []) = Unit {0}
AreFirstTwo (odd ∷ even ∷ earlier) = IsUnfollowedSync joined_run earlier even odd

begins_unfollowed : IsUnfollowedSync joined_run [] (two_at 0) (two_at 1)
unfolding row_for
begins_unfollowed = record {
  in_sync = begins_in_sync;
  none = refl;
  rates =
      λ node among.
      each_node (λ (n : NodeSpec). IsWithin roomy_cluster.rate_limit (row_for (two_at 0).told.rows n.id).rate) (record { low = record { le = tt }; high = record { le = tt } })
      (record { low = record { le = tt }; high = record { le = tt } }) (record { low = record { le = tt }; high = record { le = tt } }) node (of_cluster [] node among);
}

pub is_unfollowed_sync : (earlier : Cycles) (even odd : Cycle) → IsDoubleOf after_12 0 earlier even odd → IsUnfollowedSync joined_run earlier even odd
unfolding AreFirstTwo
is_unfollowed_sync earlier even odd d = subst AreFirstTwo (sym (double_is 0 earlier even odd d)) begins_unfollowed
