-- The premises of the laws are met: three nodes of a worked cluster, without an arbitrary node and beside one, which tells
-- node 1 that it is 100 microticks early, node 2 that it is as much late, and node 3 nothing. Their starts lie 1,000,000 ticks
-- apart, and their offset terms are 1, 0 and -1: so the next double cycle starts at the same instant for all.
use Rattle.std.proofs.Common.{◌≡◌, ◌≢◌, ℕ, suc, zero, ◌+◌, ◌*◌, ◌≤◌, ◌<◌, Bool, true, false, ℤ, pos, negsuc, List, [], ◌∷◌, ◌++◌, length, map, All, refl, inr, lit≤, lit<, arith}
use Rattle.std.specs.Prelude.{◌+ℤ◌, ◌*ℤ◌, ◌-ℤ◌, ◌≤ℤ◌, AllPairs, Contains, nat_abs}
use Rattle.std.proofs.lemmas.List.Elements.{All-cons, All-contains, All-nil}
use Rattle.std.proofs.lemmas.List.Kept.{AllPairs-cons}
use Rattle.std.proofs.lemmas.List.Sorted.{IsPermutation-refl}
use Rattle.fr_base.specs.declared.channel.Channel.TheVariants.{A}
use Rattle.fr_base.specs.declared.node_row.NodeRow.{NodeRow}
use Rattle.fr_base.specs.declared.Outcome.TheVariants.{Within}
use Rattle.fr_base.specs.declared.state.State.TheVariants.{Active}
use Rattle.fr_base.specs.Within.{IsBetween, LieWithin}
use Rattle.fr_cluster.specs.Values.{figure, Values}
use Rattle.fr_cluster.specs.Ranges.{InRange}
use Rattle.fr_cluster.specs.Sane.{IsSane, IsSaneNode, IsSaneSlot}
use Rattle.fr_cluster.specs.declared.names.ParamName.{ParamName}
use Rattle.fr_cluster.specs.declared.names.ParamName.TheVariants as name
use Rattle.fr_cluster.specs.declared.nodes.NodeSpec.{NodeSpec}
use Rattle.fr_cluster.specs.declared.nodes.SlotSpec.{SlotSpec}
use Rattle.fr_midpoint.specs.Midpoint.{discarded, IsMidpoint}
use Rattle.fr_correct.specs.declared.term.Term.{Term}
use Rattle.fr_bound.specs.Bounds.{arrival_error}
use Rattle.fr_bound.specs.Sync.{cycle_length_of}
use Rattle.fr_time.specs.Instant.{instant_of}
use Rattle.fr_time.specs.Position.{grid_for}
use Rattle.fr_precision.specs.Rows.{corrected_end_of, HasProperMicro, Sender}
use Rattle.fr_precision.specs.Deviations.{counted_of}
use Rattle.fr_precision.specs.Offsets.{IsOffsetRound}
use Rattle.fr_precision.specs.Placement.{IsRegular}
use Rattle.fr_precision.specs.Rates.{IsNext}
use Rattle.fr_precision.specs.Step.{IsAmong, IsFollowed, Member}
use Rattle.fr_precision.proofs.Worked.{node, row, none, sane_node}
use Rattle.fr_bound.specs.SharpBounds.{last_action, last_of, rate_walk, sharp_lambda, sharp_near, sharp_pi}
use Rattle.fr_bound.specs.SharpChecks.{sharp_holds_of, SharpChecksHold}
use Rattle.fr_precision.specs.Steady.{IsSteadyPair, PlacesEven}
use Rattle.fr_precision.specs.Lengths.{walked_after, CanWalk, IsAboutCycle, IsSteadyRound}
use Rattle.fr_precision.specs.SharpRun.{AreSharpDoubles, BeginWithin, IsNextDouble, KeepsToSpreads, StaysInSharpSync}
use Rattle.fr_bound.specs.SharpSpreads.{sharply_near_in}
use Rattle.fr_bound.specs.SharpSpreads.{IsSharplySettled}
use Rattle.fr_precision.specs.SharpSettling.{sharp_spread_after}
use Rattle.fr_precision.specs.SharpStep.{AllKeepSenders, AreSharp, ComputesSharply, IsSharpDouble, IsInSharpSync, StaySharp}
use Rattle.fr_precision.proofs.Arriving.{frames_are_steady}
use Rattle.fr_precision.proofs.BoundLemmas.{sharp_checks_suffice_lem, walk_is_held}
use Rattle.fr_promise.proofs.SharpRows.{set_of}
use Rattle.fr_precision.proofs.SteadyLemmas.{counted_are_steady, deviations_are_steady, steady_values_place_lem}
use Rattle.fr_precision.proofs.StepLemmas.{next_is_in_sharp_sync, sharp_is_wider, sharp_sync_is_kept_lem}
use Rattle.fr_precision.proofs.LastingLemmas.{sharp_spreads_keep, sharp_sync_is_reached, sharp_sync_lasts_lem}
use Rattle.fr_promise.proofs.CheckNumbers.{two_to_five}

-- ---- the cluster: four key slots, damping 2, delays of 50 to 300 ns, 100 ppm

abbrev pub cluster : Values
cluster = set_of (node 1 ∷ node 2 ∷ node 3 ∷ node 4 ∷ []) 2 7 100 0 5_000_000

-- the same with another damping
abbrev damped_by : ℕ → Values
damped_by damping = set_of (node 1 ∷ node 2 ∷ node 3 ∷ node 4 ∷ []) damping 7 100 0 5_000_000

in_range : (damping : ℕ) → InRange name.pClusterDriftDamping (pos damping) → (n : ParamName) → InRange n (figure (damped_by damping) n)
in_range damping is name.pClusterDriftDamping = is
in_range damping is other = (record { le = tt }, record { le = tt })

one_by_one : {X : Type 0} (P : X → Type 0) (a : X) → P a → All P (a ∷ [])
one_by_one P a is = All-cons P a [] is (All-nil P)

pub three : {X : Type 0} (P : X → Type 0) (a b c : X) → P a → P b → P c → All P (a ∷ b ∷ c ∷ [])
three P a b c first second third = All-cons P a (b ∷ c ∷ []) first (All-cons P b (c ∷ []) second (one_by_one P c third))

pub four : {X : Type 0} (P : X → Type 0) (a b c d : X) → P a → P b → P c → P d → All P (a ∷ b ∷ c ∷ d ∷ [])
four P a b c d first second third fourth = All-cons P a (b ∷ c ∷ d ∷ []) first (three P b c d second third fourth)

pub pairs : {X : Type 0} (R : X → X → Type 0) (a b c d : X) → R a b → R a c → R a d → R b c → R b d → R c d → AllPairs R (a ∷ b ∷ c ∷ d ∷ [])
pairs R a b c d ab ac ad bc bd cd =
    AllPairs-cons R a (b ∷ c ∷ d ∷ []) (three (R a) b c d ab ac ad)
    (
    AllPairs-cons R b (c ∷ d ∷ []) (All-cons (R b) c (d ∷ []) bc (one_by_one (R b) d bd))
    (AllPairs-cons R c (d ∷ []) (one_by_one (R c) d cd) (AllPairs-cons R d [] (All-nil (R d)) (none R)))
    )

sane_by : (damping : ℕ) → InRange name.pClusterDriftDamping (pos damping) → IsSane (damped_by damping)
sane_by damping is = record {
  ranges = in_range damping is;
  constraints = record {
    whole_cycle = refl;
    acts_in_slot = lit< tt;
    corrects_after = (lit< tt, lit< tt);
    leaves_microticks = lit≤ tt;
    passive_first = lit≤ tt;
    sync_nodes = (lit≤ tt, lit≤ tt);
    own_slots = (
      four (λ key. key ≤ 91) 1 2 3 4 (lit≤ tt) (lit≤ tt) (lit≤ tt) (lit≤ tt),
      pairs (λ a b. a ≢ b) 1 2 3 4 (λ same. omega arith) (λ same. omega arith) (λ same. omega arith) (λ same. omega arith) (λ same. omega arith) (λ same. omega arith),
    );
    free_slots = All-nil (λ (slot : SlotSpec). (slot.slot ≤ 91) × (Contains (1 ∷ 2 ∷ 3 ∷ 4 ∷ []) slot.slot → ⊥));
  };
  lists = record {
    nodes_sane =
        four IsSaneNode (node 1) (node 2) (node 3) (node 4) (sane_node 1 (lit≤ tt) (lit≤ tt)) (sane_node 2 (lit≤ tt) (lit≤ tt)) (sane_node 3 (lit≤ tt) (lit≤ tt)) (sane_node 4 (lit≤ tt) (lit≤ tt));
    slots_sane = All-nil (IsSaneSlot (node 1 ∷ node 2 ∷ node 3 ∷ node 4 ∷ []));
    nodes_ascend = pairs (λ (a b : NodeSpec). a.id < b.id) (node 1) (node 2) (node 3) (node 4) (lit< tt) (lit< tt) (lit< tt) (lit< tt) (lit< tt) (lit< tt);
    slots_ascend = none (λ (a b : SlotSpec). a.slot < b.slot);
    few_nodes = lit≤ tt;
    few_slots = lit≤ tt;
  };
}

pub is_sane : IsSane cluster
is_sane = sane_by 2 (record { le = tt }, record { le = tt })

-- ---- without damping the rate limit holds the walk for 560 double cycles: before the last of them it suffices, and then no more

undamped_sane : IsSane (damped_by 0)
undamped_sane = sane_by 0 (record { le = tt }, record { le = tt })

last_held : CanWalk (damped_by 0) 0 (pos 559 *ℤ pos 1000099) (pos 1000099)
last_held = (walk_is_held (damped_by 0) 0 559 undamped_sane refl (lit< tt)).0

held_no_more : CanWalk (damped_by 0) 0 (walked_after (damped_by 0) 0 560) (rate_walk (damped_by 0) 0) → ⊥
held_no_more can = absurd (can.suffices.le)

-- ---- three nodes

abbrev sender : ℕ → ℕ → ℤ → ℕ → Sender
sender number start offset action = record { even = row number start (pos 0); odd = row number (start + 200_000_000_000) offset; action = pos action }

abbrev first : Sender
first = sender 1 0 (pos 1) 4

abbrev second : Sender
second = sender 2 1_000_000 (pos 0) 28

abbrev third : Sender
third = sender 3 2_000_000 (negsuc 0) 52

abbrev senders : List Sender
senders = first ∷ second ∷ third ∷ []

micro : (number start : ℕ) (offset : ℤ) → HasProperMicro cluster (row number start offset)
micro number start offset = record { least = record { le = tt }; most = record { le = tt } }

regular : (number start : ℕ) (offset : ℤ) → (row number (start + 200_000_000_000) offset).start ≡ pos start +ℤ pos 200_000_000_000
    → IsRegular cluster (row number start (pos 0)) (row number (start + 200_000_000_000) offset)
regular number start offset follows = record {
  double = record { follows = follows; same_rate = refl; no_offset = refl };
  rate_within = record { low = record { le = tt }; high = record { le = tt } };
  even_micro = micro number start (pos 0);
  odd_micro = micro number (start + 200_000_000_000) offset;
  steady = record { low = record { le = tt }; high = record { le = tt } };
}

first_regular : IsRegular cluster first.even first.odd
first_regular = regular 1 0 (pos 1) refl

second_regular : IsRegular cluster second.even second.odd
second_regular = regular 2 1_000_000 (pos 0) refl

third_regular : IsRegular cluster third.even third.odd
third_regular = regular 3 2_000_000 (negsuc 0) refl

-- ---- their offsets: what they say, and what the arbitrary node does

-- what the arbitrary node tells a node, if there is one
abbrev told : Bool → ℤ → List ℤ
told false value = []
told true value = value ∷ []

abbrev first_offsets : Bool → List ℤ
first_offsets beside = (pos 0 ∷ pos 1 ∷ pos 2 ∷ []) ++ told beside (pos 100)

abbrev second_offsets : Bool → List ℤ
second_offsets beside = (negsuc 0 ∷ pos 0 ∷ pos 1 ∷ []) ++ told beside (negsuc 99)

abbrev third_offsets : List ℤ
third_offsets = negsuc 1 ∷ negsuc 0 ∷ pos 0 ∷ []

first_middle : (beside : Bool) → IsMidpoint (first_offsets beside) (pos 1)
first_middle false = record {
  low = pos 1;
  high = pos 1;
  least = record { few_below = lit≤ tt; more_up_to = lit< tt };
  greatest = record { few_above = lit≤ tt; more_from = lit< tt };
  half = refl;
}
first_middle true = record {
  low = pos 1;
  high = pos 2;
  least = record { few_below = lit≤ tt; more_up_to = lit< tt };
  greatest = record { few_above = lit≤ tt; more_from = lit< tt };
  half = refl;
}

second_middle : (beside : Bool) → IsMidpoint (second_offsets beside) (pos 0)
second_middle false = record {
  low = pos 0;
  high = pos 0;
  least = record { few_below = lit≤ tt; more_up_to = lit< tt };
  greatest = record { few_above = lit≤ tt; more_from = lit< tt };
  half = refl;
}
second_middle true = record {
  low = negsuc 0;
  high = pos 0;
  least = record { few_below = lit≤ tt; more_up_to = lit< tt };
  greatest = record { few_above = lit≤ tt; more_from = lit< tt };
  half = refl;
}

third_middle : IsMidpoint third_offsets (negsuc 0)
third_middle = record {
  low = negsuc 0;
  high = negsuc 0;
  least = record { few_below = lit≤ tt; more_up_to = lit< tt };
  greatest = record { few_above = lit≤ tt; more_from = lit< tt };
  half = refl;
}

-- a term that is not cut
abbrev pub uncut : ℤ → Term
uncut value = record { value = value; before = value; outcome = Within }

first_round : (beside : Bool) → IsOffsetRound cluster senders first.odd (first_offsets beside) (uncut (pos 1))
first_round beside = record {
  micro = micro 1 200_000_000_000 (pos 1);
  hears = record {
    said = pos 0 ∷ pos 1 ∷ pos 2 ∷ [];
    further = told beside (pos 100);
    parts = IsPermutation-refl (first_offsets beside);
    few = few beside;
    each = (
      record { low = record { lt = tt }; high = record { le = tt } },
      (record { low = record { lt = tt }; high = record { le = tt } }, (record { low = record { lt = tt }; high = record { le = tt } }, tt)),
    );
  };
  is_term = inr (pos 1, first_middle beside, refl);
  applied = refl;
}
  where
    few : (beside : Bool) → length (told beside (pos 100)) ≤ discarded (length (first_offsets beside))
    few false = lit≤ tt
    few true = lit≤ tt

second_round : (beside : Bool) → IsOffsetRound cluster senders second.odd (second_offsets beside) (uncut (pos 0))
second_round beside = record {
  micro = micro 2 200_001_000_000 (pos 0);
  hears = record {
    said = negsuc 0 ∷ pos 0 ∷ pos 1 ∷ [];
    further = told beside (negsuc 99);
    parts = IsPermutation-refl (second_offsets beside);
    few = few beside;
    each = (
      record { low = record { lt = tt }; high = record { le = tt } },
      (record { low = record { lt = tt }; high = record { le = tt } }, (record { low = record { lt = tt }; high = record { le = tt } }, tt)),
    );
  };
  is_term = inr (pos 0, second_middle beside, refl);
  applied = refl;
}
  where
    few : (beside : Bool) → length (told beside (negsuc 99)) ≤ discarded (length (second_offsets beside))
    few false = lit≤ tt
    few true = lit≤ tt

third_round : IsOffsetRound cluster senders third.odd third_offsets (uncut (negsuc 0))
third_round = record {
  micro = micro 3 200_002_000_000 (negsuc 0);
  hears = record {
    said = third_offsets;
    further = [];
    parts = IsPermutation-refl third_offsets;
    few = lit≤ tt;
    each = (
      record { low = record { lt = tt }; high = record { le = tt } },
      (record { low = record { lt = tt }; high = record { le = tt } }, (record { low = record { lt = tt }; high = record { le = tt } }, tt)),
    );
  };
  is_term = inr (negsuc 0, third_middle, refl);
  applied = refl;
}

-- ---- the checks, beside the arbitrary node and without

pub checks : (beside : Bool) → SharpChecksHold 0 (sharp_near beside cluster 0) cluster
unfolding last_of
checks false = two_to_five (λ k. sharp_holds_of k 0 (sharp_near false cluster 0) cluster) refl refl refl refl
checks true = two_to_five (λ k. sharp_holds_of k 0 (sharp_near true cluster 0) cluster) refl refl refl refl

-- ---- their rates

-- node 1 counts 2 for node 2 in both cycles, whose frames come after 200 ns: a steady pair without flutter
counted : IsSteadyPair cluster 0 second first.even first.odd (pos 2) (pos 2)
counted =
    counted_are_steady cluster 0 2 A second first.even first.odd (pos 8_000_000) (pos 8_000_000) is_sane first_regular refl (record { le = tt })
    (record { low = record { le = tt }; high = record { le = tt } }) (record { le = tt }) (record { low = record { le = tt }; high = record { le = tt } })

-- so they are where only its distance and the room of its slot are known, and the delay is 300 ticks longer in the odd cycle
framed :
    IsSteadyPair cluster 300 second first.even first.odd
    (counted_of cluster first.even 2 A (instant_of (grid_for cluster) second.even false (pos 28) +ℤ pos 8_000_000))
    (counted_of cluster first.odd 2 A (instant_of (grid_for cluster) second.odd true (pos 28) +ℤ pos 8_000_300))
unfolding last_of
framed =
    let rooms = sharp_checks_suffice_lem cluster 0 (sharp_near false cluster 0) is_sane (checks false) in
    frames_are_steady cluster 300 2 A first.even first.odd second.even second.odd (pos 8_000_000) (pos 8_000_300) (pos (sharp_near false cluster 0)) is_sane rooms.1 rooms.0 first_regular (lit≤ tt) (lit≤ tt)
    (record { low = record { le = tt }; high = record { le = tt } }) (record { low = record { le = tt }; high = record { le = tt } }) (record { low = record { le = tt }; high = record { le = tt } })

-- what is recorded is one too, with the errors of both arrivals for the flutter
recorded : IsSteadyPair cluster (2 * arrival_error cluster) second first.even first.odd (pos 2) (pos 2)
recorded =
    deviations_are_steady cluster second first.even first.odd (pos 2) (pos 2) is_sane first_regular (record { le = tt }) (record { le = tt }) (record { low = record { le = tt }; high = record { le = tt } })
    (record { low = record { lt = tt }; high = record { le = tt } }) (record { low = record { lt = tt }; high = record { le = tt } })

-- so the difference, 0, places the length of node 2's even cycle
placed : PlacesEven cluster 0 second first.odd (pos 0)
placed =
    steady_values_place_lem cluster 0 second first.even first.odd (pos 2) (pos 2) is_sane first_regular
    (record { regular = second_regular; acts_from = record { le = tt }; acts_to = record { le = tt } }) counted

abbrev rates : Bool → ℤ → List ℤ
rates beside value = (pos 0 ∷ pos 0 ∷ pos 0 ∷ []) ++ told beside value

zero_middle : (beside : Bool) → (IsMidpoint (rates beside (pos 100)) (pos 0)) × (IsMidpoint (rates beside (negsuc 99)) (pos 0))
zero_middle false = (
  record {
    low = pos 0;
    high = pos 0;
    least = record { few_below = lit≤ tt; more_up_to = lit< tt };
    greatest = record { few_above = lit≤ tt; more_from = lit< tt };
    half = refl;
  },
  record {
    low = pos 0;
    high = pos 0;
    least = record { few_below = lit≤ tt; more_up_to = lit< tt };
    greatest = record { few_above = lit≤ tt; more_from = lit< tt };
    half = refl;
  },
)
zero_middle true = (
  record {
    low = pos 0;
    high = pos 0;
    least = record { few_below = lit≤ tt; more_up_to = lit< tt };
    greatest = record { few_above = lit≤ tt; more_from = lit< tt };
    half = refl;
  },
  record {
    low = pos 0;
    high = pos 0;
    least = record { few_below = lit≤ tt; more_up_to = lit< tt };
    greatest = record { few_above = lit≤ tt; more_from = lit< tt };
    half = refl;
  },
)

few_rates : (beside : Bool) (value : ℤ) → length (told beside value) ≤ discarded (length (rates beside value))
few_rates false value = lit≤ tt
few_rates true value = lit≤ tt

first_rates : (beside : Bool) → IsSteadyRound cluster 0 senders first.odd (rates beside (pos 100)) (uncut (pos 0))
first_rates beside = record {
  micro = micro 1 200_000_000_000 (pos 1);
  hears = record {
    said = pos 0 ∷ pos 0 ∷ pos 0 ∷ [];
    further = told beside (pos 100);
    parts = IsPermutation-refl (rates beside (pos 100));
    few = few_rates beside (pos 100);
    each = (
      record { actions = record { low = record { le = tt }; high = record { le = tt } }; length = record { low = record { le = tt }; high = record { le = tt } } },
      (placed, (record { actions = record { low = record { le = tt }; high = record { le = tt } }; length = record { low = record { le = tt }; high = record { le = tt } } }, tt)),
    );
  };
  is_term = inr (pos 0, (zero_middle beside).0, refl);
}

second_rates : (beside : Bool) → IsSteadyRound cluster 0 senders second.odd (rates beside (negsuc 99)) (uncut (pos 0))
second_rates beside = record {
  micro = micro 2 200_001_000_000 (pos 0);
  hears = record {
    said = pos 0 ∷ pos 0 ∷ pos 0 ∷ [];
    further = told beside (negsuc 99);
    parts = IsPermutation-refl (rates beside (negsuc 99));
    few = few_rates beside (negsuc 99);
    each = (
      record { actions = record { low = record { le = tt }; high = record { le = tt } }; length = record { low = record { le = tt }; high = record { le = tt } } },
      (
        record { actions = record { low = record { le = tt }; high = record { le = tt } }; length = record { low = record { le = tt }; high = record { le = tt } } },
        (record { actions = record { low = record { le = tt }; high = record { le = tt } }; length = record { low = record { le = tt }; high = record { le = tt } } }, tt),
      ),
    );
  };
  is_term = inr (pos 0, (zero_middle beside).1, refl);
}

third_rates : IsSteadyRound cluster 0 senders third.odd (rates false (pos 100)) (uncut (pos 0))
third_rates = record {
  micro = micro 3 200_002_000_000 (negsuc 0);
  hears = record {
    said = pos 0 ∷ pos 0 ∷ pos 0 ∷ [];
    further = [];
    parts = IsPermutation-refl (rates false (pos 100));
    few = lit≤ tt;
    each = (
      record { actions = record { low = record { le = tt }; high = record { le = tt } }; length = record { low = record { le = tt }; high = record { le = tt } } },
      (
        record { actions = record { low = record { le = tt }; high = record { le = tt } }; length = record { low = record { le = tt }; high = record { le = tt } } },
        (record { actions = record { low = record { le = tt }; high = record { le = tt } }; length = record { low = record { le = tt }; high = record { le = tt } } }, tt),
      ),
    );
  };
  is_term = inr (pos 0, (zero_middle false).0, refl);
}

-- ---- all of it

abbrev first_member : Bool → Member
first_member beside = record { even = first.even; odd = first.odd; offsets = first_offsets beside; rates = rates beside (pos 100); offset_term = uncut (pos 1); rate_term = uncut (pos 0) }

abbrev second_member : Bool → Member
second_member beside = record { even = second.even; odd = second.odd; offsets = second_offsets beside; rates = rates beside (negsuc 99); offset_term = uncut (pos 0); rate_term = uncut (pos 0) }

abbrev third_member : Member
third_member = record { even = third.even; odd = third.odd; offsets = third_offsets; rates = rates false (pos 100); offset_term = uncut (negsuc 0); rate_term = uncut (pos 0) }

abbrev members : Bool → List Member
members beside = first_member beside ∷ second_member beside ∷ third_member ∷ []

-- three values without the arbitrary node, and up to four beside it
abbrev Holds : Bool → Member → Type 0
Holds false member = (length member.offsets ≡ 3) × (length member.rates ≡ 3)
Holds true member = (3 ≤ length member.offsets) × (length member.offsets ≤ 4) × (3 ≤ length member.rates) × (length member.rates ≤ 4)

hold : (beside : Bool) → All (Holds beside) (members beside)
hold false = three (Holds false) (first_member false) (second_member false) third_member (refl, refl) (refl, refl) (refl, refl)
hold true =
    three (Holds true) (first_member true) (second_member true) third_member (lit≤ tt, lit≤ tt, lit≤ tt, lit≤ tt) (lit≤ tt, lit≤ tt, lit≤ tt, lit≤ tt) (lit≤ tt, lit≤ tt, lit≤ tt, lit≤ tt)

keep_one : (m n : ℕ) → 3 ≤ m → m ≤ 4 → 3 ≤ n → n ≤ 4 → discarded m + discarded n + 1 ≤ 3
keep_one m n a b c d = grind arith

kept : (beside : Bool) → AllKeepSenders beside senders (members beside)
kept false one other here there =
    let of_one = All-contains (Holds false) (members false) one (hold false) here in
    let of_other = All-contains (Holds false) (members false) other (hold false) there in
    ((lit≤ tt, of_one.0, of_other.0), (lit≤ tt, of_one.1, of_other.1))
kept true one other here there =
    let of_one = All-contains (Holds true) (members true) one (hold true) here in
    let of_other = All-contains (Holds true) (members true) other (hold true) there in (
      keep_one (length one.offsets) (length other.offsets) of_one.0 of_one.1 of_other.0 of_other.1,
      keep_one (length one.rates) (length other.rates) of_one.2 of_one.3 of_other.2 of_other.3,
    )

pub lie_three : (bound a b c : ℤ) → (a -ℤ a) ≤ℤ bound → (a -ℤ b) ≤ℤ bound → (a -ℤ c) ≤ℤ bound → (b -ℤ a) ≤ℤ bound → (b -ℤ b) ≤ℤ bound → (b -ℤ c) ≤ℤ bound → (c -ℤ a) ≤ℤ bound → (c -ℤ b) ≤ℤ bound → (c -ℤ c) ≤ℤ bound
    → LieWithin bound (a ∷ b ∷ c ∷ [])
lie_three bound a b c aa ab ac ba bb bc ca cb cc =
    three (λ x. All (λ y. (x -ℤ y) ≤ℤ bound) (a ∷ b ∷ c ∷ [])) a b c (three (λ y. (a -ℤ y) ≤ℤ bound) a b c aa ab ac) (three (λ y. (b -ℤ y) ≤ℤ bound) a b c ba bb bc)
    (three (λ y. (c -ℤ y) ≤ℤ bound) a b c ca cb cc)

abbrev evens : List NodeRow
evens = first.even ∷ second.even ∷ third.even ∷ []

abbrev odds : List NodeRow
odds = first.odd ∷ second.odd ∷ third.odd ∷ []

sharp : (beside : Bool) → AreSharp cluster (sharp_pi beside cluster 0) (sharp_lambda beside cluster 0) (pos 0) evens
sharp false = record {
  starts_lie =
      lie_three (pos (sharp_pi false cluster 0)) first.even.start second.even.start third.even.start (record { le = tt }) (record { le = tt }) (record { le = tt }) (record { le = tt }) (record { le = tt })
      (record { le = tt }) (record { le = tt }) (record { le = tt }) (record { le = tt });
  lengths_lie =
      lie_three (pos (sharp_lambda false cluster 0)) (cycle_length_of cluster first.even) (cycle_length_of cluster second.even) (cycle_length_of cluster third.even) (record { le = tt }) (record { le = tt })
      (record { le = tt }) (record { le = tt }) (record { le = tt }) (record { le = tt }) (record { le = tt }) (record { le = tt }) (record { le = tt });
  about =
      three (λ row. IsAboutCycle cluster (pos 0) (cycle_length_of cluster row)) first.even second.even third.even (record { low = record { le = tt }; high = record { le = tt } })
      (record { low = record { le = tt }; high = record { le = tt } }) (record { low = record { le = tt }; high = record { le = tt } });
}
sharp true = record {
  starts_lie =
      lie_three (pos (sharp_pi true cluster 0)) first.even.start second.even.start third.even.start (record { le = tt }) (record { le = tt }) (record { le = tt }) (record { le = tt }) (record { le = tt })
      (record { le = tt }) (record { le = tt }) (record { le = tt }) (record { le = tt });
  lengths_lie =
      lie_three (pos (sharp_lambda true cluster 0)) (cycle_length_of cluster first.even) (cycle_length_of cluster second.even) (cycle_length_of cluster third.even) (record { le = tt }) (record { le = tt })
      (record { le = tt }) (record { le = tt }) (record { le = tt }) (record { le = tt }) (record { le = tt }) (record { le = tt }) (record { le = tt });
  about =
      three (λ row. IsAboutCycle cluster (pos 0) (cycle_length_of cluster row)) first.even second.even third.even (record { low = record { le = tt }; high = record { le = tt } })
      (record { low = record { le = tt }; high = record { le = tt } }) (record { low = record { le = tt }; high = record { le = tt } });
}

in_sharp_sync : (beside : Bool) → IsInSharpSync beside cluster 0 (pos 0) evens odds
in_sharp_sync beside = record {
  active_even = three (λ (row : NodeRow). row.state ≡ Active) first.even second.even third.even refl refl refl;
  active_odd = three (λ (row : NodeRow). row.state ≡ Active) first.odd second.odd third.odd refl refl refl;
  rows = sharp beside;
}

last_is : last_action cluster ≡ 76
unfolding last_of
last_is = refl

acts : All (λ sender. IsBetween (pos 0) (pos (last_action cluster)) sender.action) senders
unfolding last_of
acts =
    three (λ (sender : Sender). IsBetween (pos 0) (pos (last_action cluster)) sender.action) first second third (record { low = record { le = tt }; high = record { le = tt } })
    (record { low = record { le = tt }; high = record { le = tt } }) (record { low = record { le = tt }; high = record { le = tt } })

heard : (beside : Bool) → IsSharpDouble beside cluster 0 senders (members beside) (pos (last_action cluster))
heard beside = record {
  among =
      three (IsAmong (members beside)) first second third (first_member beside, (0, lit< tt, refl), refl, refl) (second_member beside, (1, lit< tt, refl), refl, refl)
      (third_member, (2, lit< tt, refl), refl, refl);
  acts = acts;
  computes =
      three (ComputesSharply cluster 0 senders) (first_member beside) (second_member beside) third_member (record { regular = first_regular; by_offset = first_round beside; by_rate = first_rates beside })
      (record { regular = second_regular; by_offset = second_round beside; by_rate = second_rates beside }) (record { regular = third_regular; by_offset = third_round; by_rate = third_rates });
  keep = kept beside;
}

-- whatever many double cycles have passed, the rate limit suffices: these rates walk back
can_walk : CanWalk cluster 0 (pos 0) (rate_walk cluster 0)
can_walk = (walk_is_held cluster 0 7 is_sane refl tt).0

-- they stay in sharp sync, with no macrotick further apart than the precision: here of nodes 1 and 3
stay : (beside : Bool) → StaySharp beside cluster 0 (pos 0) (first_member beside) third_member
stay beside =
    sharp_sync_is_kept_lem beside cluster 0 senders (members beside) (pos 0) (rate_walk cluster 0) (pos 0) is_sane (checks beside) can_walk (record { le = tt }) (record { le = tt }) (in_sharp_sync beside) (heard beside)
    (first_member beside) third_member (0, lit< tt, refl) (2, lit< tt, refl)

-- the next double cycle begins at the corrected ends, with the same microticks
abbrev next_even : Member → NodeRow
next_even member = row member.even.node (nat_abs (corrected_end_of cluster member.odd)) (pos 0)

abbrev next_odd : Member → NodeRow
next_odd member = row member.even.node (nat_abs (corrected_end_of cluster member.odd) + 200_000_000_000) (pos 0)

same_start :
    (corrected_end_of cluster first.odd ≡ pos 400_001_000_000) × (corrected_end_of cluster second.odd ≡ pos 400_001_000_000)
    × (corrected_end_of cluster third.odd ≡ pos 400_001_000_000)
same_start = (refl, refl, refl)

next : (number start other_start : ℕ) (offset : ℤ) → IsNext cluster (row number start offset) (uncut (pos 0)) (row number other_start (pos 0)) (row number (other_start + 200_000_000_000) (pos 0))
next number start other_start offset = record {
  even_rate = refl;
  odd_rate = refl;
  even_micro = micro number other_start (pos 0);
  odd_micro = micro number (other_start + 200_000_000_000) (pos 0);
  even_steady = record { low = record { le = tt }; high = record { le = tt } };
  odd_steady = record { low = record { le = tt }; high = record { le = tt } };
}

followed : (beside : Bool) → All (λ node. IsFollowed cluster node (next_even node) (next_odd node)) (members beside)
followed beside =
    three (λ member. IsFollowed cluster member (next_even member) (next_odd member)) (first_member beside) (second_member beside) third_member
    (record { start = refl; next = next 1 200_000_000_000 400_001_000_000 (pos 1); active_even = refl; active_odd = refl })
    (record { start = refl; next = next 2 200_001_000_000 400_001_000_000 (pos 0); active_even = refl; active_odd = refl })
    (record { start = refl; next = next 3 200_002_000_000 400_001_000_000 (negsuc 0); active_even = refl; active_odd = refl })

next_in_sharp_sync :
    (beside : Bool)
    → IsInSharpSync beside cluster 0 (pos 0) (next_even (first_member beside) ∷ next_even (second_member beside) ∷ next_even third_member ∷ [])
    (next_odd (first_member beside) ∷ next_odd (second_member beside) ∷ next_odd third_member ∷ [])
next_in_sharp_sync beside =
    next_is_in_sharp_sync beside cluster 0 senders (members beside) (pos 0) (rate_walk cluster 0) (pos 0) next_even next_odd is_sane (checks beside) can_walk (record { le = tt }) (record { le = tt }) (in_sharp_sync beside)
    (heard beside)
    (followed beside)

-- ---- and again in the next double cycle, where all start together and measure 0

abbrev again : List Sender
again = sender 1 400_001_000_000 (pos 0) 4 ∷ sender 2 400_001_000_000 (pos 0) 28 ∷ sender 3 400_001_000_000 (pos 0) 52 ∷ []

again_offsets : (number : ℕ) (beside : Bool) (value : ℤ) → IsMidpoint (rates beside value) (pos 0) → IsOffsetRound cluster again (row number 600_001_000_000 (pos 0)) (rates beside value) (uncut (pos 0))
again_offsets number beside value middle = record {
  micro = micro number 600_001_000_000 (pos 0);
  hears = record {
    said = pos 0 ∷ pos 0 ∷ pos 0 ∷ [];
    further = told beside value;
    parts = IsPermutation-refl (rates beside value);
    few = few_rates beside value;
    each = (
      record { low = record { lt = tt }; high = record { le = tt } },
      (record { low = record { lt = tt }; high = record { le = tt } }, (record { low = record { lt = tt }; high = record { le = tt } }, tt)),
    );
  };
  is_term = inr (pos 0, middle, refl);
  applied = refl;
}

again_rates : (number : ℕ) (beside : Bool) (value : ℤ) → IsMidpoint (rates beside value) (pos 0) → IsSteadyRound cluster 0 again (row number 600_001_000_000 (pos 0)) (rates beside value) (uncut (pos 0))
again_rates number beside value middle = record {
  micro = micro number 600_001_000_000 (pos 0);
  hears = record {
    said = pos 0 ∷ pos 0 ∷ pos 0 ∷ [];
    further = told beside value;
    parts = IsPermutation-refl (rates beside value);
    few = few_rates beside value;
    each = (
      record { actions = record { low = record { le = tt }; high = record { le = tt } }; length = record { low = record { le = tt }; high = record { le = tt } } },
      (
        record { actions = record { low = record { le = tt }; high = record { le = tt } }; length = record { low = record { le = tt }; high = record { le = tt } } },
        (record { actions = record { low = record { le = tt }; high = record { le = tt } }; length = record { low = record { le = tt }; high = record { le = tt } } }, tt),
      ),
    );
  };
  is_term = inr (pos 0, middle, refl);
}

abbrev again_member : ℕ → Bool → ℤ → Member
again_member number beside value = record {
  even = row number 400_001_000_000 (pos 0);
  odd = row number 600_001_000_000 (pos 0);
  offsets = rates beside value;
  rates = rates beside value;
  offset_term = uncut (pos 0);
  rate_term = uncut (pos 0);
}

again_computes : (number : ℕ) (beside : Bool) (value : ℤ) → IsMidpoint (rates beside value) (pos 0) → ComputesSharply cluster 0 again (again_member number beside value)
again_computes number beside value middle = record {
  regular = regular number 400_001_000_000 (pos 0) refl;
  by_offset = again_offsets number beside value middle;
  by_rate = again_rates number beside value middle;
}

abbrev again_members : Bool → List Member
again_members beside = again_member 1 beside (pos 100) ∷ again_member 2 beside (negsuc 99) ∷ again_member 3 false (pos 100) ∷ []

hold_again : (beside : Bool) → All (Holds beside) (again_members beside)
hold_again false = three (Holds false) (again_member 1 false (pos 100)) (again_member 2 false (negsuc 99)) (again_member 3 false (pos 100)) (refl, refl) (refl, refl) (refl, refl)
hold_again true =
    three (Holds true) (again_member 1 true (pos 100)) (again_member 2 true (negsuc 99)) (again_member 3 false (pos 100)) (lit≤ tt, lit≤ tt, lit≤ tt, lit≤ tt) (lit≤ tt, lit≤ tt, lit≤ tt, lit≤ tt) (lit≤ tt, lit≤ tt, lit≤ tt, lit≤ tt)

kept_again : (beside : Bool) → AllKeepSenders beside again (again_members beside)
kept_again false one other here there =
    let of_one = All-contains (Holds false) (again_members false) one (hold_again false) here in
    let of_other = All-contains (Holds false) (again_members false) other (hold_again false) there in
    ((lit≤ tt, of_one.0, of_other.0), (lit≤ tt, of_one.1, of_other.1))
kept_again true one other here there =
    let of_one = All-contains (Holds true) (again_members true) one (hold_again true) here in
    let of_other = All-contains (Holds true) (again_members true) other (hold_again true) there in (
      keep_one (length one.offsets) (length other.offsets) of_one.0 of_one.1 of_other.0 of_other.1,
      keep_one (length one.rates) (length other.rates) of_one.2 of_one.3 of_other.2 of_other.3,
    )

acts_again : All (λ sender. IsBetween (pos 0) (pos (last_action cluster)) sender.action) again
unfolding last_of
acts_again =
    three (λ (sender : Sender). IsBetween (pos 0) (pos (last_action cluster)) sender.action) (sender 1 400_001_000_000 (pos 0) 4) (sender 2 400_001_000_000 (pos 0) 28) (sender 3 400_001_000_000 (pos 0) 52)
    (record { low = record { le = tt }; high = record { le = tt } }) (record { low = record { le = tt }; high = record { le = tt } }) (record { low = record { le = tt }; high = record { le = tt } })

heard_again : (beside : Bool) → IsSharpDouble beside cluster 0 again (again_members beside) (pos (last_action cluster))
heard_again beside = record {
  among =
      three (IsAmong (again_members beside)) (sender 1 400_001_000_000 (pos 0) 4) (sender 2 400_001_000_000 (pos 0) 28) (sender 3 400_001_000_000 (pos 0) 52)
      (again_member 1 beside (pos 100), (0, lit< tt, refl), refl, refl) (again_member 2 beside (negsuc 99), (1, lit< tt, refl), refl, refl) (again_member 3 false (pos 100), (2, lit< tt, refl), refl, refl);
  acts = acts_again;
  computes =
      three (ComputesSharply cluster 0 again) (again_member 1 beside (pos 100)) (again_member 2 beside (negsuc 99)) (again_member 3 false (pos 100)) (again_computes 1 beside (pos 100) (zero_middle beside).0)
      (again_computes 2 beside (negsuc 99) (zero_middle beside).1) (again_computes 3 false (pos 100) (zero_middle false).0);
  keep = kept_again beside;
}

-- both double cycles
abbrev senders_in : ℕ → List Sender
senders_in zero = senders
senders_in (suc k) = again

abbrev members_in : Bool → ℕ → List Member
members_in beside zero = members beside
members_in beside (suc k) = again_members beside

heard_in : (beside : Bool) (k : ℕ) → IsSharpDouble beside cluster 0 (senders_in k) (members_in beside k) (pos (last_action cluster))
heard_in beside zero = heard beside
heard_in beside (suc k) = heard_again beside

follows_in : (beside : Bool) (k : ℕ) → suc k < 2 → IsNextDouble cluster (members_in beside k) (members_in beside (suc k))
follows_in beside zero short = record {
  next_even = next_even;
  next_odd = next_odd;
  followed = followed beside;
  evens = refl;
  odds = refl;
}
follows_in beside (suc k) short = absurd (omega (arith, short))

doubles : (beside : Bool) → AreSharpDoubles beside cluster 0 2 (λ k. sharp_pi beside cluster 0) (λ k. sharp_lambda beside cluster 0) senders_in (members_in beside) (pos (last_action cluster))
doubles beside = record {
  sane = is_sane;
  second = refl;
  heard = λ k short before begin. heard_in beside k;
  follows = λ k short before begin uncut. follows_in beside k short;
}

-- in the second one all are in sharp sync, and stay so
lasts : (beside : Bool)
    → IsInSharpSync beside cluster 0 (pos 0) (map (λ node. node.even) (again_members beside)) (map (λ node. node.odd) (again_members beside))
    × StaySharp beside cluster 0 (pos 0) (again_member 1 beside (pos 100)) (again_member 3 false (pos 100))
lasts beside =
    let both = sharp_sync_lasts_lem beside cluster 0 2 senders_in (members_in beside) (doubles beside) (checks beside) (in_sharp_sync beside) 1 (lit< tt) in
    (both.sync tt, both.stay tt (again_member 1 beside (pos 100)) (again_member 3 false (pos 100)) (0, lit< tt, refl) (2, lit< tt, refl))

-- ---- from stated numbers: starts within 2.4 us, and lengths within 0.5 us

pub near_way : (beside : Bool) (k : ℕ) → k < 2 → sharply_near_in cluster (sharp_spread_after beside cluster 0 96_000_000 20_000_000 k) ≤ 117_418_141
unfolding last_of sharp_spread_after
near_way false zero short = lit≤ tt
near_way false (suc zero) short = lit≤ tt
near_way true zero short = lit≤ tt
near_way true (suc zero) short = lit≤ tt
near_way beside (suc (suc k)) short = absurd (omega (arith, short))

pub way_checks : SharpChecksHold 0 117_418_141 cluster
way_checks = two_to_five (λ k. sharp_holds_of k 0 117_418_141 cluster) refl refl refl refl

wide : (beside : Bool) → AreSharp cluster 96_000_000 20_000_000 (pos 0) evens
wide false =
    sharp_is_wider cluster (sharp_pi false cluster 0) (sharp_lambda false cluster 0) 96_000_000 20_000_000 (pos 0) (pos 0) evens (lit≤ tt) (lit≤ tt) (record { le = tt }) (sharp false)
wide true =
    sharp_is_wider cluster (sharp_pi true cluster 0) (sharp_lambda true cluster 0) 96_000_000 20_000_000 (pos 0) (pos 0) evens (lit≤ tt) (lit≤ tt) (record { le = tt }) (sharp true)

begin : (beside : Bool) → BeginWithin beside cluster 0 96_000_000 20_000_000 117_418_141 2 senders_in (members_in beside)
begin beside = record {
  doubles_are = record {
    sane = is_sane;
    second = refl;
    heard = λ k short before begin. heard_in beside k;
    follows = λ k short before begin uncut. follows_in beside k short;
  };
  checks = way_checks;
  near = near_way beside;
  first = wide beside;
}

-- they keep to the spreads in the second double cycle
spreads : (beside : Bool) → KeepsToSpreads beside cluster 0 96_000_000 20_000_000 (members_in beside) 1
spreads beside = sharp_spreads_keep beside cluster 0 96_000_000 20_000_000 117_418_141 2 senders_in (members_in beside) (begin beside) 1 (lit< tt)

-- ---- and with numbers that lie within pi and lambda they are in sharp sync from the second double cycle on

within_sync : (beside : Bool) (k : ℕ) → k < 2 → sharply_near_in cluster (sharp_spread_after beside cluster 0 2_000_000 0 k) ≤ sharp_near beside cluster 0
unfolding last_of sharp_spread_after
within_sync false zero short = lit≤ tt
within_sync false (suc zero) short = lit≤ tt
within_sync true zero short = lit≤ tt
within_sync true (suc zero) short = lit≤ tt
within_sync beside (suc (suc k)) short = absurd (omega (arith, short))

narrow : AreSharp cluster 2_000_000 0 (pos 0) evens
narrow = record {
  starts_lie =
      lie_three (pos 2_000_000) first.even.start second.even.start third.even.start (record { le = tt }) (record { le = tt }) (record { le = tt }) (record { le = tt }) (record { le = tt })
      (record { le = tt }) (record { le = tt }) (record { le = tt }) (record { le = tt });
  lengths_lie =
      lie_three (pos 0) (cycle_length_of cluster first.even) (cycle_length_of cluster second.even) (cycle_length_of cluster third.even) (record { le = tt }) (record { le = tt })
      (record { le = tt }) (record { le = tt }) (record { le = tt }) (record { le = tt }) (record { le = tt }) (record { le = tt }) (record { le = tt });
  about = (sharp false).about;
}

begin_near : (beside : Bool) → BeginWithin beside cluster 0 2_000_000 0 (sharp_near beside cluster 0) 2 senders_in (members_in beside)
begin_near beside = record {
  doubles_are = record {
    sane = is_sane;
    second = refl;
    heard = λ k short before begin. heard_in beside k;
    follows = λ k short before begin uncut. follows_in beside k short;
  };
  checks = checks beside;
  near = within_sync beside;
  first = narrow;
}

at_rest : (beside : Bool) → IsSharplySettled beside cluster 0 (sharp_spread_after beside cluster 0 2_000_000 0 1)
unfolding sharp_spread_after
at_rest false = (refl, refl)
at_rest true = (refl, refl)

reached : (beside : Bool) → StaysInSharpSync beside cluster 0 (members_in beside) 1
reached beside = sharp_sync_is_reached beside cluster 0 2_000_000 0 (sharp_near beside cluster 0) 2 1 senders_in (members_in beside) (begin_near beside) (lit≤ tt) (at_rest beside) 1 (lit≤ tt) (lit< tt)
