-- The premises of the laws are met: two nodes of a worked cluster, each with the values that it has of the other. Node 2
-- starts 2,500,000 ticks after node 1; node 1 measures 2 microticks and node 2 measures -3, and their offset terms are
-- 1 and -1.
use Rattle.std.proofs.Common.{◌≡◌, ℕ, ◌≤◌, true, false, ℤ, pos, negsuc, List, [], ◌∷◌, Some, All, refl, inr, lit≤, lit<, rules, arith, length}
use Rattle.std.specs.Prelude.{◌≢◌, ◌<◌, ◌+◌, ◌*◌, ◌+ℤ◌, ◌-ℤ◌, ◌*ℤ◌, ◌≤ℤ◌, ◌<ℤ◌, AllPairs, Contains, nat_abs}
use Rattle.std.proofs.lemmas.List.Elements.{All-cons, All-contains, All-nil}
use Rattle.std.proofs.lemmas.List.Kept.{AllPairs-cons}
use Rattle.std.proofs.lemmas.List.Sorted.{IsPermutation-refl}
use Rattle.fr_base.specs.declared.node_row.NodeRow.{NodeRow}
use Rattle.fr_base.specs.declared.Outcome.TheVariants.{Within}
use Rattle.fr_base.specs.declared.state.State.TheVariants.{Active}
use Rattle.fr_cluster.specs.Values.{Values}
use Rattle.fr_cluster.specs.Sane.{IsSane, IsSaneNode, IsSaneSlot}
use Rattle.fr_cluster.specs.Ranges.{InRange}
use Rattle.fr_cluster.specs.Values.{figure}
use Rattle.fr_cluster.specs.declared.names.ParamName.{ParamName}
use Rattle.fr_cluster.specs.declared.names.ParamName.TheVariants as name
use Rattle.fr_cluster.specs.declared.nodes.NodeSpec.{NodeSpec}
use Rattle.fr_cluster.specs.declared.nodes.SlotSpec.{SlotSpec}
use Rattle.fr_base.specs.Within.{IsWithin}
use Rattle.fr_midpoint.specs.Midpoint.{discarded, IsMidpoint}
use Rattle.fr_correct.specs.declared.term.Term.{Term}
use Rattle.fr_base.specs.declared.channel.Channel.TheVariants.{A}
use Rattle.fr_bound.specs.Bounds.{arrival_error, lambda_of, longest_micro, pi_of, precision_of}
use Rattle.fr_bound.specs.Sync.{cycle_length_of, IsInSync, IsCycleLength}
use Rattle.fr_base.specs.Within.{LieWithin}
use Rattle.fr_precision.specs.Rows.{corrected_end_of, AreNear, HasProperMicro, Lasts, Sender}
use Rattle.fr_precision.specs.Instants.{gap_of, Runs}
use Rattle.fr_precision.specs.Offsets.{IsDeviation, IsOffsetRound, IsSending, LimitSuffices, NearAll, ReachAll}
use Rattle.fr_precision.specs.Deviations.{counted_of}
use Rattle.fr_precision.specs.Placement.{IsRegular}
use Rattle.fr_time.specs.Position.{grid_for}
use Rattle.fr_time.specs.Instant.{instant_of}
use Rattle.fr_precision.proofs.DeviationLaws.{counted_is_deviation, recorded_is_deviation}
use Rattle.fr_precision.specs.Step.{AllKeepOne, AreSynced, ComputesTerms, IsAmong, IsFollowed, Member, SendersAreSynced, StaySynced, TakesPart}
use Rattle.fr_precision.proofs.StepLaws.{next_is_in_sync, sync_is_kept_lem, sync_of_all_is_kept}
use Rattle.fr_precision.specs.Rates.{IsNext, IsRateRound, PlacesLength}
use Rattle.fr_precision.proofs.InstantLaws.{precision_holds_lem}
use Rattle.fr_precision.proofs.OffsetLaws.{ends_stay_together, offset_terms_are_uncut, third_check_suffices}
use Rattle.fr_precision.proofs.PlacementLaws.{difference_places}
use Rattle.fr_precision.proofs.RateLaws.{lengths_stay_together}
use Rattle.fr_precision.proofs.ReceptionLaws.{arrives_in_slot, room_checks_suffice}

-- a cycle of 5 ms at a microtick of 25 ns, with two nodes
abbrev pub node : ℕ → NodeSpec
node id = record { id = id; key = Some id; on_a = true; on_b = false; coldstart = true }

abbrev pub cluster : Values
cluster = record {
  macros = pos 5000;
  micros = pos 200000;
  static_slots = pos 140;
  slot_macros = pos 30;
  action_offset = pos 7;
  idle_macros = pos 800;
  words = pos 0;
  correction = pos 4900;
  max_passive = pos 2;
  max_fatal = pos 4;
  halt_allowed = pos 1;
  to_active = pos 2;
  damping = pos 4;
  offset_limit = pos 254;
  rate_limit = pos 81;
  compensation_a = pos 0;
  compensation_b = pos 0;
  rate_bound = pos 200;
  change_bound = pos 0;
  delay_error = pos 500000;
  nodes = node 1 ∷ node 2 ∷ [];
  slots = [];
}

in_range : (n : ParamName) → InRange n (figure cluster n)
in_range name.gMacroPerCycle = (record { le = tt }, record { le = tt })
in_range other = (record { le = tt }, record { le = tt })

pub two : {X : Type 0} (P : X → Type 0) (one other : X) → P one → P other → All P (one ∷ other ∷ [])
two P one other here there = All-cons P one (other ∷ []) here (All-cons P other [] there (All-nil P))

pub none : {X : Type 0} (R : X → X → Type 0) → AllPairs R []
none R = search rules

pair : {X : Type 0} (R : X → X → Type 0) (one other : X) → R one other → AllPairs R (one ∷ other ∷ [])
pair R one other is = AllPairs-cons R one (other ∷ []) (All-cons (R one) other [] is (All-nil (R one))) (AllPairs-cons R other [] (All-nil (R other)) (none R))

pub sane_node : (id : ℕ) → 1 ≤ id → id ≤ 64 → IsSaneNode (node id)
sane_node id from to = record { proper = record { from = from; to = to; key = (from, omega arith) }; starts = refl }

pub is_sane : IsSane cluster
is_sane = record {
  ranges = in_range;
  constraints = record {
    whole_cycle = refl;
    acts_in_slot = lit< tt;
    corrects_after = (lit< tt, lit< tt);
    leaves_microticks = lit≤ tt;
    passive_first = lit≤ tt;
    sync_nodes = (lit≤ tt, lit≤ tt);
    own_slots = (two (λ key. key ≤ 140) 1 2 (lit≤ tt) (lit≤ tt), pair (λ a b. a ≢ b) 1 2 (λ same. omega arith));
    free_slots = All-nil (λ (slot : SlotSpec). (slot.slot ≤ 140) × (Contains (1 ∷ 2 ∷ []) slot.slot → ⊥));
  };
  lists = record {
    nodes_sane = two IsSaneNode (node 1) (node 2) (sane_node 1 (lit≤ tt) (lit≤ tt)) (sane_node 2 (lit≤ tt) (lit≤ tt));
    slots_sane = All-nil (IsSaneSlot (node 1 ∷ node 2 ∷ []));
    nodes_ascend = pair (λ (a b : NodeSpec). a.id < b.id) (node 1) (node 2) (lit< tt);
    slots_ascend = none (λ (a b : SlotSpec). a.slot < b.slot);
    few_nodes = lit≤ tt;
    few_slots = lit≤ tt;
  };
}

-- the rows of a node: its number, the start of a cycle, and its offset term
abbrev pub row : ℕ → ℕ → ℤ → NodeRow
row number start offset = record { node = number; start = pos start; length = pos 1_000_000; rate = pos 0; offset = offset; state = Active; cut = 0 }

abbrev pub first : Sender
first = record { even = row 1 0 (pos 0); odd = row 1 200_000_000_000 (pos 1); action = pos 7 }

abbrev pub second : Sender
second = record { even = row 2 2_500_000 (pos 0); odd = row 2 200_002_500_000 (negsuc 0); action = pos 37 }

abbrev both : List Sender
both = first ∷ second ∷ []

-- the offset values of both, and their terms
abbrev first_values : List ℤ
first_values = pos 0 ∷ pos 2 ∷ []

abbrev second_values : List ℤ
second_values = negsuc 2 ∷ pos 0 ∷ []

abbrev first_term : Term
first_term = record { value = pos 1; before = pos 1; outcome = Within }

abbrev second_term : Term
second_term = record { value = negsuc 0; before = negsuc 0; outcome = Within }

middle_of_first : IsMidpoint first_values (pos 1)
middle_of_first = record {
  low = pos 0;
  high = pos 2;
  least = record { few_below = lit≤ tt; more_up_to = lit< tt };
  greatest = record { few_above = lit≤ tt; more_from = lit< tt };
  half = refl;
}

middle_of_second : IsMidpoint second_values (negsuc 0)
middle_of_second = record {
  low = negsuc 2;
  high = pos 0;
  least = record { few_below = lit≤ tt; more_up_to = lit< tt };
  greatest = record { few_above = lit≤ tt; more_from = lit< tt };
  half = refl;
}

micro : (number start : ℕ) (offset : ℤ) → HasProperMicro cluster (row number start offset)
micro number start offset = record { least = record { le = tt }; most = record { le = tt } }

lasts : (number start : ℕ) (offset : ℤ) → Lasts cluster (row number start offset)
lasts number start offset = record { some = record { lt = tt }; most = record { le = tt } }

sending_first : IsSending cluster first
sending_first = record {
  double = record { follows = refl; same_rate = refl; no_offset = refl };
  lasts = lasts 1 200_000_000_000 (pos 1);
  acts_from = record { le = tt };
  acts_to = record { le = tt };
}

sending_second : IsSending cluster second
sending_second = record {
  double = record { follows = refl; same_rate = refl; no_offset = refl };
  lasts = lasts 2 200_002_500_000 (negsuc 0);
  acts_from = record { le = tt };
  acts_to = record { le = tt };
}

own_of_first : IsDeviation cluster true (pos 7) first.odd first.odd (pos 0)
own_of_first = record { low = record { lt = tt }; high = record { le = tt } }

first_of_second : IsDeviation cluster true (pos 37) first.odd second.odd (pos 2)
first_of_second = record { low = record { lt = tt }; high = record { le = tt } }

second_of_first : IsDeviation cluster true (pos 7) second.odd first.odd (negsuc 2)
second_of_first = record { low = record { lt = tt }; high = record { le = tt } }

own_of_second : IsDeviation cluster true (pos 37) second.odd second.odd (pos 0)
own_of_second = record { low = record { lt = tt }; high = record { le = tt } }

-- two microticks more than node 1 measures is no deviation that it may have
not_four : IsDeviation cluster true (pos 37) first.odd second.odd (pos 4) → ⊥
not_four dev = absurd (dev.high.le)

-- these are what they count where frames come without a delay
counted :
    (counted_of cluster first.odd 2 A (instant_of (grid_for cluster) second.odd true (pos 37) +ℤ pos 0) ≡ pos 2)
    × (counted_of cluster second.odd 1 A (instant_of (grid_for cluster) first.odd true (pos 7) +ℤ pos 0) ≡ negsuc 2)
counted = (refl, refl)

also_first_of_second : IsDeviation cluster true (pos 37) first.odd second.odd (pos 2)
also_first_of_second =
    counted_is_deviation cluster (pos 0) 2 A true first.odd second.odd is_sane (lit≤ tt) (lit≤ tt) (micro 1 200_000_000_000 (pos 1))
    (record { low = record { le = tt }; high = record { le = tt } })

-- and they lie in the range that the gap of both instants gives
recorded_first_of_second : IsDeviation cluster true (pos 37) first.odd second.odd (pos 2)
recorded_first_of_second =
    recorded_is_deviation cluster true (pos 37) (pos 2) first.odd second.odd (lasts 1 200_000_000_000 (pos 1)) (record { le = tt }) (record { le = tt })

offsets_of_first : IsOffsetRound cluster both first.odd first_values first_term
offsets_of_first = record {
  micro = micro 1 200_000_000_000 (pos 1);
  hears = record {
    said = first_values;
    further = [];
    parts = IsPermutation-refl first_values;
    few = lit≤ tt;
    each = (own_of_first, (first_of_second, tt));
  };
  is_term = inr (pos 1, middle_of_first, refl);
  applied = refl;
}

offsets_of_second : IsOffsetRound cluster both second.odd second_values second_term
offsets_of_second = record {
  micro = micro 2 200_002_500_000 (negsuc 0);
  hears = record {
    said = second_values;
    further = [];
    parts = IsPermutation-refl second_values;
    few = lit≤ tt;
    each = (second_of_first, (own_of_second, tt));
  };
  is_term = inr (negsuc 0, middle_of_second, refl);
  applied = refl;
}

starts_near : AreNear (λ sender. sender.even.start) (pos (pi_of cluster)) both
starts_near =
    two (λ (one : Sender). All (λ (other : Sender). IsWithin (pos (pi_of cluster)) (one.even.start -ℤ other.even.start)) both) first second
    (two (λ (other : Sender). IsWithin (pos (pi_of cluster)) (first.even.start -ℤ other.even.start)) first second (record { low = record { le = tt }; high = record { le = tt } }) (record { low = record { le = tt }; high = record { le = tt } }))
    (two (λ (other : Sender). IsWithin (pos (pi_of cluster)) (second.even.start -ℤ other.even.start)) first second (record { low = record { le = tt }; high = record { le = tt } }) (record { low = record { le = tt }; high = record { le = tt } }))

even_near : AreNear (λ sender. cycle_length_of cluster sender.even) (pos (lambda_of cluster)) both
even_near =
    two (λ (one : Sender). All (λ (other : Sender). IsWithin (pos (lambda_of cluster)) (cycle_length_of cluster one.even -ℤ cycle_length_of cluster other.even)) both) first second
    (two (λ (other : Sender). IsWithin (pos (lambda_of cluster)) (cycle_length_of cluster first.even -ℤ cycle_length_of cluster other.even)) first second (record { low = record { le = tt }; high = record { le = tt } }) (record { low = record { le = tt }; high = record { le = tt } }))
    (two (λ (other : Sender). IsWithin (pos (lambda_of cluster)) (cycle_length_of cluster second.even -ℤ cycle_length_of cluster other.even)) first second (record { low = record { le = tt }; high = record { le = tt } }) (record { low = record { le = tt }; high = record { le = tt } }))

odd_near : AreNear (λ sender. cycle_length_of cluster sender.odd) (pos (lambda_of cluster)) both
odd_near =
    two (λ (one : Sender). All (λ (other : Sender). IsWithin (pos (lambda_of cluster)) (cycle_length_of cluster one.odd -ℤ cycle_length_of cluster other.odd)) both) first second
    (two (λ (other : Sender). IsWithin (pos (lambda_of cluster)) (cycle_length_of cluster first.odd -ℤ cycle_length_of cluster other.odd)) first second (record { low = record { le = tt }; high = record { le = tt } }) (record { low = record { le = tt }; high = record { le = tt } }))
    (two (λ (other : Sender). IsWithin (pos (lambda_of cluster)) (cycle_length_of cluster second.odd -ℤ cycle_length_of cluster other.odd)) first second (record { low = record { le = tt }; high = record { le = tt } }) (record { low = record { le = tt }; high = record { le = tt } }))

-- the limit suffices for the precision, and each node is within reach of the other
suffices : LimitSuffices cluster (pos (precision_of cluster))
suffices = third_check_suffices cluster refl

reach_first : ReachAll cluster (pos (precision_of cluster)) both first.odd
reach_first =
    two (λ (sender : Sender). IsWithin (pos (precision_of cluster)) (gap_of cluster true sender.action sender.odd first.odd)) first second
    (record { low = record { le = tt }; high = record { le = tt } })
    (record { low = record { le = tt }; high = record { le = tt } })

reach_second : ReachAll cluster (pos (precision_of cluster)) both second.odd
reach_second =
    two (λ (sender : Sender). IsWithin (pos (precision_of cluster)) (gap_of cluster true sender.action sender.odd second.odd)) first second
    (record { low = record { le = tt }; high = record { le = tt } })
    (record { low = record { le = tt }; high = record { le = tt } })

near_first : NearAll cluster (pos (lambda_of cluster)) both first.odd
near_first =
    two (λ (sender : Sender). IsWithin (pos (lambda_of cluster)) (cycle_length_of cluster first.odd -ℤ cycle_length_of cluster sender.odd)) first second
    (record { low = record { le = tt }; high = record { le = tt } })
    (record { low = record { le = tt }; high = record { le = tt } })

near_second : NearAll cluster (pos (lambda_of cluster)) both second.odd
near_second =
    two (λ (sender : Sender). IsWithin (pos (lambda_of cluster)) (cycle_length_of cluster second.odd -ℤ cycle_length_of cluster sender.odd)) first second
    (record { low = record { le = tt }; high = record { le = tt } })
    (record { low = record { le = tt }; high = record { le = tt } })

uncut : first_term.outcome ≡ Within
uncut = offset_terms_are_uncut cluster both (pos (precision_of cluster)) first.odd first_values first_term is_sane suffices (lit≤ tt) reach_first offsets_of_first

-- the next starts lie 500,000 ticks apart, and so within pi
next_starts : IsWithin (pos (pi_of cluster)) (negsuc 499_999)
next_starts =
    ends_stay_together cluster both (pos (precision_of cluster)) first.odd second.odd first_values second_values first_term second_term is_sane suffices
    (two (IsSending cluster) first second sending_first sending_second)
    (record { by_start = starts_near; by_even = even_near; by_odd = odd_near })
    reach_first reach_second near_first near_second offsets_of_first offsets_of_second (lit≤ tt)

-- both sides of the law with the spreads that there are
offset_sides :
    (pos 2 *ℤ (corrected_end_of cluster first.odd -ℤ corrected_end_of cluster second.odd) ≡ negsuc 999_999)
    × (pos 2_500_000 +ℤ (pos 6 *ℤ pos 0) +ℤ pos (4 * arrival_error cluster + 8 * longest_micro cluster) ≡ pos 12_501_600)
offset_sides = (refl, refl)

-- the rate values of both are 0, and so is the rate term
abbrev zeros : List ℤ
zeros = pos 0 ∷ pos 0 ∷ []

abbrev zero_term : Term
zero_term = record { value = pos 0; before = pos 0; outcome = Within }

middle_of_zeros : IsMidpoint zeros (pos 0)
middle_of_zeros = record {
  low = pos 0;
  high = pos 0;
  least = record { few_below = lit≤ tt; more_up_to = lit< tt };
  greatest = record { few_above = lit≤ tt; more_from = lit< tt };
  half = refl;
}

rates_of_first : IsRateRound cluster both first.odd zeros zero_term
rates_of_first = record {
  micro = micro 1 200_000_000_000 (pos 1);
  hears = record {
    said = zeros;
    further = [];
    parts = IsPermutation-refl zeros;
    few = lit≤ tt;
    each = (record { low = record { le = tt }; high = record { le = tt } }, (record { low = record { le = tt }; high = record { le = tt } }, tt));
  };
  is_term = inr (pos 0, middle_of_zeros, refl);
}

rates_of_second : IsRateRound cluster both second.odd zeros zero_term
rates_of_second = record {
  micro = micro 2 200_002_500_000 (negsuc 0);
  hears = record {
    said = zeros;
    further = [];
    parts = IsPermutation-refl zeros;
    few = lit≤ tt;
    each = (record { low = record { le = tt }; high = record { le = tt } }, (record { low = record { le = tt }; high = record { le = tt } }, tt));
  };
  is_term = inr (pos 0, middle_of_zeros, refl);
}

proper : All (λ sender. IsCycleLength cluster (cycle_length_of cluster sender.odd)) both
proper =
    two (λ (sender : Sender). IsCycleLength cluster (cycle_length_of cluster sender.odd)) first second (record { le = tt }, record { le = tt }) (record { le = tt }, record { le = tt })

next_first : IsNext cluster first.odd zero_term (row 1 400_001_000_000 (pos 0)) (row 1 600_001_000_000 (pos 0))
next_first = record {
  even_rate = refl;
  odd_rate = refl;
  even_micro = micro 1 400_001_000_000 (pos 0);
  odd_micro = micro 1 600_001_000_000 (pos 0);
  even_steady = record { low = record { le = tt }; high = record { le = tt } };
  odd_steady = record { low = record { le = tt }; high = record { le = tt } };
}

next_second : IsNext cluster second.odd zero_term (row 2 400_001_500_000 (pos 0)) (row 2 600_001_500_000 (pos 0))
next_second = record {
  even_rate = refl;
  odd_rate = refl;
  even_micro = micro 2 400_001_500_000 (pos 0);
  odd_micro = micro 2 600_001_500_000 (pos 0);
  even_steady = record { low = record { le = tt }; high = record { le = tt } };
  odd_steady = record { low = record { le = tt }; high = record { le = tt } };
}

next_lengths : IsWithin (pos (lambda_of cluster)) (pos 0) × IsWithin (pos (lambda_of cluster)) (pos 0)
next_lengths =
    lengths_stay_together cluster both first.odd second.odd zeros zeros zero_term zero_term
    (row 1 400_001_000_000 (pos 0)) (row 1 600_001_000_000 (pos 0)) (row 2 400_001_500_000 (pos 0)) (row 2 600_001_500_000 (pos 0))
    is_sane refl refl proper odd_near rates_of_first rates_of_second (lit≤ tt) next_first next_second

-- at the last macrotick of the odd cycle both nodes lie within the precision
runs_first : Runs cluster first.even first.odd
runs_first = record { double = sending_first.double; even_lasts = lasts 1 0 (pos 0); odd_lasts = sending_first.lasts }

runs_second : Runs cluster second.even second.odd
runs_second = record { double = sending_second.double; even_lasts = lasts 2 2_500_000 (pos 0); odd_lasts = sending_second.lasts }

last_macrotick : IsWithin (pos (precision_of cluster)) (negsuc 1_499_999)
last_macrotick =
    precision_holds_lem cluster (pos 4999) true first.even first.odd second.even second.odd is_sane runs_first runs_second
    (record {
      by_start = record { low = record { le = tt }; high = record { le = tt } };
      by_even = record { low = record { le = tt }; high = record { le = tt } };
      by_odd = record { low = record { le = tt }; high = record { le = tt } };
    })
    next_starts (record { le = tt }) (record { le = tt })

-- node 2 has measured 2 in both cycles: the difference, 0, places the length
even_deviation : IsDeviation cluster false (pos 37) first.even second.even (pos 2)
even_deviation = record { low = record { lt = tt }; high = record { le = tt } }

regular_first : IsRegular cluster first.even first.odd
regular_first = record {
  double = sending_first.double;
  rate_within = record { low = record { le = tt }; high = record { le = tt } };
  even_micro = micro 1 0 (pos 0);
  odd_micro = micro 1 200_000_000_000 (pos 1);
  steady = record { low = record { le = tt }; high = record { le = tt } };
}

regular_second : IsRegular cluster second.even second.odd
regular_second = record {
  double = sending_second.double;
  rate_within = record { low = record { le = tt }; high = record { le = tt } };
  even_micro = micro 2 2_500_000 (pos 0);
  odd_micro = micro 2 200_002_500_000 (negsuc 0);
  steady = record { low = record { le = tt }; high = record { le = tt } };
}

rate_placed : PlacesLength cluster first.odd second (pos 0)
rate_placed =
    difference_places cluster (pos (precision_of cluster)) second first.even first.odd (pos 2) (pos 2) is_sane suffices regular_first regular_second (record { le = tt }) (record { le = tt })
    (record { near = record { low = record { le = tt }; high = record { le = tt } }; by_even = even_deviation; by_odd = first_of_second })

-- the frame of node 2 arrives within its slot at node 1
arrives : (pos 1_200_000_000 ≤ℤ pos 1_482_500_000) × (pos 1_482_500_000 <ℤ pos 2_400_000_000)
arrives =
    arrives_in_slot cluster (pos (precision_of cluster)) (pos 0) 2 A false first.even second.even is_sane (room_checks_suffice cluster is_sane refl refl) (lit≤ tt) (lit≤ tt)
    (record { low = record { le = tt }; high = record { le = tt } }) (record { le = tt })
    (record { low = record { le = tt }; high = record { le = tt } }) (record { low = record { le = tt }; high = record { le = tt } })

-- both take part, and stay in sync
abbrev first_member : Member
first_member = record {
  even = first.even;
  odd = first.odd;
  offsets = first_values;
  rates = zeros;
  offset_term = first_term;
  rate_term = zero_term;
}

abbrev second_member : Member
second_member = record {
  even = second.even;
  odd = second.odd;
  offsets = second_values;
  rates = zeros;
  offset_term = second_term;
  rate_term = zero_term;
}

synced : (one other : Sender) → IsWithin (pos (pi_of cluster)) (one.even.start -ℤ other.even.start)
    → IsWithin (pos (lambda_of cluster)) (cycle_length_of cluster one.even -ℤ cycle_length_of cluster other.even)
    → IsWithin (pos (lambda_of cluster)) (cycle_length_of cluster one.odd -ℤ cycle_length_of cluster other.odd)
    → AreSynced cluster one.even one.odd other.even other.odd
synced one other start even odd = record { by_start = start; by_even = even; by_odd = odd }

senders_synced : SendersAreSynced cluster both
senders_synced = record {
  sending = two (IsSending cluster) first second sending_first sending_second;
  run = two (λ (sender : Sender). Runs cluster sender.even sender.odd) first second runs_first runs_second;
  near = record { by_start = starts_near; by_even = even_near; by_odd = odd_near };
  proper = proper;
}

first_takes_part : TakesPart cluster both first_member
first_takes_part = record {
  runs = runs_first;
  near =
      two (λ (sender : Sender). AreSynced cluster sender.even sender.odd first.even first.odd) first second
      (synced first first (record { low = record { le = tt }; high = record { le = tt } }) (record { low = record { le = tt }; high = record { le = tt } }) (record { low = record { le = tt }; high = record { le = tt } }))
      (synced second first (record { low = record { le = tt }; high = record { le = tt } }) (record { low = record { le = tt }; high = record { le = tt } }) (record { low = record { le = tt }; high = record { le = tt } }));
  by_offset = offsets_of_first;
  by_rate = rates_of_first;
}

second_takes_part : TakesPart cluster both second_member
second_takes_part = record {
  runs = runs_second;
  near =
      two (λ (sender : Sender). AreSynced cluster sender.even sender.odd second.even second.odd) first second
      (synced first second (record { low = record { le = tt }; high = record { le = tt } }) (record { low = record { le = tt }; high = record { le = tt } }) (record { low = record { le = tt }; high = record { le = tt } }))
      (synced second second (record { low = record { le = tt }; high = record { le = tt } }) (record { low = record { le = tt }; high = record { le = tt } }) (record { low = record { le = tt }; high = record { le = tt } }));
  by_offset = offsets_of_second;
  by_rate = rates_of_second;
}

stay_synced : StaySynced cluster first_member second_member
stay_synced =
    sync_is_kept_lem cluster both first_member second_member is_sane refl refl refl senders_synced first_takes_part second_takes_part
    (synced first second (record { low = record { le = tt }; high = record { le = tt } }) (record { low = record { le = tt }; high = record { le = tt } }) (record { low = record { le = tt }; high = record { le = tt } }))
    (lit≤ tt) (lit≤ tt)

-- the same from their rows as lists
pub lie_two : (bound a b : ℤ) → (a -ℤ a) ≤ℤ bound → (a -ℤ b) ≤ℤ bound → (b -ℤ a) ≤ℤ bound → (b -ℤ b) ≤ℤ bound → LieWithin bound (a ∷ b ∷ [])
lie_two bound a b aa ab ba bb =
    two (λ x. All (λ y. (x -ℤ y) ≤ℤ bound) (a ∷ b ∷ [])) a b (two (λ y. (a -ℤ y) ≤ℤ bound) a b aa ab) (two (λ y. (b -ℤ y) ≤ℤ bound) a b ba bb)

pub rows_in_sync : IsInSync cluster (first.even ∷ second.even ∷ []) (first.odd ∷ second.odd ∷ [])
rows_in_sync = record {
  active_even = two (λ (row : NodeRow). row.state ≡ Active) first.even second.even refl refl;
  active_odd = two (λ (row : NodeRow). row.state ≡ Active) first.odd second.odd refl refl;
  starts = lie_two (pos (pi_of cluster)) first.even.start second.even.start (record { le = tt }) (record { le = tt }) (record { le = tt }) (record { le = tt });
  even_lengths = lie_two (pos (lambda_of cluster)) (cycle_length_of cluster first.even) (cycle_length_of cluster second.even) (record { le = tt }) (record { le = tt }) (record { le = tt }) (record { le = tt });
  odd_lengths = lie_two (pos (lambda_of cluster)) (cycle_length_of cluster first.odd) (cycle_length_of cluster second.odd) (record { le = tt }) (record { le = tt }) (record { le = tt }) (record { le = tt });
  even_proper = two (λ (row : NodeRow). IsCycleLength cluster (cycle_length_of cluster row)) first.even second.even (record { le = tt }, record { le = tt }) (record { le = tt }, record { le = tt });
  odd_proper = two (λ (row : NodeRow). IsCycleLength cluster (cycle_length_of cluster row)) first.odd second.odd (record { le = tt }, record { le = tt }) (record { le = tt }, record { le = tt });
}

abbrev members : List Member
members = first_member ∷ second_member ∷ []

two_values : All (λ member. (length member.offsets ≡ 2) × (length member.rates ≡ 2)) members
two_values = two (λ (member : Member). (length member.offsets ≡ 2) × (length member.rates ≡ 2)) first_member second_member (refl, refl) (refl, refl)

keep_one : AllKeepOne both members
keep_one one other here there =
    let of_one = All-contains (λ (member : Member). (length member.offsets ≡ 2) × (length member.rates ≡ 2)) members one two_values here in
    let of_other = All-contains (λ (member : Member). (length member.offsets ≡ 2) × (length member.rates ≡ 2)) members other two_values there in
    (of_two (length one.offsets) (length other.offsets) of_one.0 of_other.0, of_two (length one.rates) (length other.rates) of_one.1 of_other.1)
  where
    of_two : (m n : ℕ) → m ≡ 2 → n ≡ 2 → discarded m + discarded n + 1 ≤ 2
    of_two m n e g = rw (e, g) (lit≤ tt)

stay_synced_by_lists : StaySynced cluster second_member first_member
stay_synced_by_lists =
    sync_of_all_is_kept cluster both members is_sane refl refl refl rows_in_sync
    (two (IsSending cluster) first second sending_first sending_second)
    (two (IsAmong members) first second (first_member, (0, lit< tt, refl), refl, refl) (second_member, (1, lit< tt, refl), refl, refl))
    (two (ComputesTerms cluster both) first_member second_member
    (record { runs = runs_first; by_offset = offsets_of_first; by_rate = rates_of_first })
    (record { runs = runs_second; by_offset = offsets_of_second; by_rate = rates_of_second }))
    keep_one second_member first_member (1, lit< tt, refl) (0, lit< tt, refl)

-- the next double cycle begins at the corrected ends, with the same microticks
abbrev next_even : Member → NodeRow
next_even member = row member.even.node (nat_abs (corrected_end_of cluster member.odd)) (pos 0)

abbrev next_odd : Member → NodeRow
next_odd member = row member.even.node (nat_abs (corrected_end_of cluster member.odd) + 200_000_000_000) (pos 0)

next_in_sync : IsInSync cluster (next_even first_member ∷ next_even second_member ∷ []) (next_odd first_member ∷ next_odd second_member ∷ [])
next_in_sync =
    next_is_in_sync cluster both members next_even next_odd is_sane refl refl refl rows_in_sync
    (two (IsSending cluster) first second sending_first sending_second)
    (two (IsAmong members) first second (first_member, (0, lit< tt, refl), refl, refl) (second_member, (1, lit< tt, refl), refl, refl))
    (two (ComputesTerms cluster both) first_member second_member
    (record { runs = runs_first; by_offset = offsets_of_first; by_rate = rates_of_first })
    (record { runs = runs_second; by_offset = offsets_of_second; by_rate = rates_of_second }))
    keep_one
    (two (λ member. IsFollowed cluster member (next_even member) (next_odd member)) first_member second_member
    (record { start = refl; next = next_first; active_even = refl; active_odd = refl })
    (record { start = refl; next = next_second; active_even = refl; active_odd = refl }))
