-- The premises of the laws are met by a slow oscillator too: two nodes have nominal microticks, and those of the third last 50 ticks
-- longer, so that its cycles are 10 microticks longer. It measures that, and corrects 8 of them, which leaves the damping of 2.
use Rattle.std.proofs.Common.{◌≡◌, ℕ, ◌<◌, false, ℤ, pos, negsuc, List, [], ◌∷◌, length, All, refl, inr, lit≤, lit<, arith}
use Rattle.std.specs.Prelude.{◌-ℤ◌}
use Rattle.std.proofs.lemmas.List.Elements.{All-contains}
use Rattle.std.proofs.lemmas.List.Sorted.{IsPermutation-refl}
use Rattle.fr_base.specs.declared.channel.Channel.TheVariants.{A}
use Rattle.fr_base.specs.declared.node_row.NodeRow.{NodeRow}
use Rattle.fr_base.specs.declared.state.State.TheVariants.{Active}
use Rattle.fr_base.specs.Within.{IsBetween, IsWithin}
use Rattle.fr_midpoint.specs.Midpoint.{IsMidpoint}
use Rattle.fr_bound.specs.Sync.{cycle_length_of}
use Rattle.fr_precision.specs.Rows.{Sender}
use Rattle.fr_precision.specs.Offsets.{IsOffsetRound}
use Rattle.fr_precision.specs.Placement.{IsRegular}
use Rattle.fr_precision.specs.Step.{IsAmong, Member}
use Rattle.fr_bound.specs.SharpBounds.{last_action, last_of}
use Rattle.fr_precision.specs.Steady.{IsSteadyPair, PlacesEven}
use Rattle.fr_precision.specs.Lengths.{IsAboutCycle, IsSteadyRound}
use Rattle.fr_precision.specs.SharpSettling.{sharp_spread_after}
use Rattle.fr_precision.specs.SharpStep.{AllKeepSenders, AreSharp, ComputesSharply, IsSharpDouble}
use Rattle.fr_precision.specs.SharpRun.{BeginWithin, KeepsToSpreads}
use Rattle.fr_precision.proofs.SteadyLemmas.{counted_are_steady, steady_values_place_lem}
use Rattle.fr_precision.proofs.LastingLemmas.{sharp_spreads_keep}
use Rattle.fr_promise.proofs.SharpWorked.{cluster, is_sane, lie_three, near_way, three, uncut, way_checks}

-- a row at the rate 0, with its microtick
abbrev row_of : ℕ → ℕ → ℕ → ℤ → NodeRow
row_of number long start offset = record { node = number; start = pos start; length = pos long; rate = pos 0; offset = offset; state = Active; cut = 0 }

abbrev first : Sender
first = record { even = row_of 1 1_000_000 0 (pos 0); odd = row_of 1 1_000_000 200_000_000_000 (pos 1); action = pos 4 }

abbrev second : Sender
second = record { even = row_of 2 1_000_000 1_000_000 (pos 0); odd = row_of 2 1_000_000 200_001_000_000 (pos 0); action = pos 28 }

abbrev slow : Sender
slow = record { even = row_of 3 1_000_050 2_000_000 (pos 0); odd = row_of 3 1_000_050 200_012_000_000 (negsuc 10); action = pos 52 }

abbrev senders : List Sender
senders = first ∷ second ∷ slow ∷ []

first_regular : IsRegular cluster first.even first.odd
first_regular = record {
  double = record { follows = refl; same_rate = refl; no_offset = refl };
  rate_within = record { low = record { le = tt }; high = record { le = tt } };
  even_micro = record { least = record { le = tt }; most = record { le = tt } };
  odd_micro = record { least = record { le = tt }; most = record { le = tt } };
  steady = record { low = record { le = tt }; high = record { le = tt } };
}

second_regular : IsRegular cluster second.even second.odd
second_regular = record {
  double = record { follows = refl; same_rate = refl; no_offset = refl };
  rate_within = record { low = record { le = tt }; high = record { le = tt } };
  even_micro = record { least = record { le = tt }; most = record { le = tt } };
  odd_micro = record { least = record { le = tt }; most = record { le = tt } };
  steady = record { low = record { le = tt }; high = record { le = tt } };
}

slow_regular : IsRegular cluster slow.even slow.odd
slow_regular = record {
  double = record { follows = refl; same_rate = refl; no_offset = refl };
  rate_within = record { low = record { le = tt }; high = record { le = tt } };
  even_micro = record { least = record { le = tt }; most = record { le = tt } };
  odd_micro = record { least = record { le = tt }; most = record { le = tt } };
  steady = record { low = record { le = tt }; high = record { le = tt } };
}

-- ---- offsets

abbrev first_offsets : List ℤ
first_offsets = pos 0 ∷ pos 1 ∷ pos 12 ∷ []

abbrev second_offsets : List ℤ
second_offsets = negsuc 0 ∷ pos 0 ∷ pos 11 ∷ []

abbrev slow_offsets : List ℤ
slow_offsets = negsuc 11 ∷ negsuc 10 ∷ pos 0 ∷ []

first_middle : IsMidpoint first_offsets (pos 1)
first_middle = record {
  low = pos 1;
  high = pos 1;
  least = record { few_below = lit≤ tt; more_up_to = lit< tt };
  greatest = record { few_above = lit≤ tt; more_from = lit< tt };
  half = refl;
}

second_middle : IsMidpoint second_offsets (pos 0)
second_middle = record {
  low = pos 0;
  high = pos 0;
  least = record { few_below = lit≤ tt; more_up_to = lit< tt };
  greatest = record { few_above = lit≤ tt; more_from = lit< tt };
  half = refl;
}

slow_middle : IsMidpoint slow_offsets (negsuc 10)
slow_middle = record {
  low = negsuc 10;
  high = negsuc 10;
  least = record { few_below = lit≤ tt; more_up_to = lit< tt };
  greatest = record { few_above = lit≤ tt; more_from = lit< tt };
  half = refl;
}

first_round : IsOffsetRound cluster senders first.odd first_offsets (uncut (pos 1))
first_round = record {
  micro = first_regular.odd_micro;
  hears = record {
    said = first_offsets;
    further = [];
    parts = IsPermutation-refl first_offsets;
    few = lit≤ tt;
    each = (
      record { low = record { lt = tt }; high = record { le = tt } },
      (record { low = record { lt = tt }; high = record { le = tt } }, (record { low = record { lt = tt }; high = record { le = tt } }, tt)),
    );
  };
  is_term = inr (pos 1, first_middle, refl);
  applied = refl;
}

second_round : IsOffsetRound cluster senders second.odd second_offsets (uncut (pos 0))
second_round = record {
  micro = second_regular.odd_micro;
  hears = record {
    said = second_offsets;
    further = [];
    parts = IsPermutation-refl second_offsets;
    few = lit≤ tt;
    each = (
      record { low = record { lt = tt }; high = record { le = tt } },
      (record { low = record { lt = tt }; high = record { le = tt } }, (record { low = record { lt = tt }; high = record { le = tt } }, tt)),
    );
  };
  is_term = inr (pos 0, second_middle, refl);
  applied = refl;
}

slow_round : IsOffsetRound cluster senders slow.odd slow_offsets (uncut (negsuc 10))
slow_round = record {
  micro = slow_regular.odd_micro;
  hears = record {
    said = slow_offsets;
    further = [];
    parts = IsPermutation-refl slow_offsets;
    few = lit≤ tt;
    each = (
      record { low = record { lt = tt }; high = record { le = tt } },
      (record { low = record { lt = tt }; high = record { le = tt } }, (record { low = record { lt = tt }; high = record { le = tt } }, tt)),
    );
  };
  is_term = inr (negsuc 10, slow_middle, refl);
  applied = refl;
}

-- ---- rates

-- after 175 ns node 1 counts 2 for the slow node in the even cycle and 12 in the odd one
counted : IsSteadyPair cluster 0 slow first.even first.odd (pos 2) (pos 12)
counted =
    counted_are_steady cluster 0 3 A slow first.even first.odd (pos 7_000_000) (pos 7_000_000) is_sane first_regular refl (record { le = tt })
    (record { low = record { le = tt }; high = record { le = tt } }) (record { le = tt }) (record { low = record { le = tt }; high = record { le = tt } })

-- so the difference, 10, places the length of its even cycle
placed : PlacesEven cluster 0 slow first.odd (pos 10)
placed =
    steady_values_place_lem cluster 0 slow first.even first.odd (pos 2) (pos 12) is_sane first_regular
    (record { regular = slow_regular; acts_from = record { le = tt }; acts_to = record { le = tt } }) counted

-- the slow node counts 3 and 13 too few for node 1
counted_slowly : IsSteadyPair cluster 0 first slow.even slow.odd (negsuc 2) (negsuc 12)
counted_slowly =
    counted_are_steady cluster 0 1 A first slow.even slow.odd (pos 7_000_000) (pos 7_000_000) is_sane slow_regular refl (record { le = tt })
    (record { low = record { le = tt }; high = record { le = tt } }) (record { le = tt }) (record { low = record { le = tt }; high = record { le = tt } })

placed_slowly : PlacesEven cluster 0 first slow.odd (negsuc 9)
placed_slowly =
    steady_values_place_lem cluster 0 first slow.even slow.odd (negsuc 2) (negsuc 12) is_sane slow_regular
    (record { regular = first_regular; acts_from = record { le = tt }; acts_to = record { le = tt } }) counted_slowly

abbrev rates : List ℤ
rates = pos 0 ∷ pos 0 ∷ pos 10 ∷ []

abbrev slow_rates : List ℤ
slow_rates = negsuc 9 ∷ negsuc 9 ∷ pos 0 ∷ []

rates_middle : IsMidpoint rates (pos 0)
rates_middle = record {
  low = pos 0;
  high = pos 0;
  least = record { few_below = lit≤ tt; more_up_to = lit< tt };
  greatest = record { few_above = lit≤ tt; more_from = lit< tt };
  half = refl;
}

slow_rates_middle : IsMidpoint slow_rates (negsuc 9)
slow_rates_middle = record {
  low = negsuc 9;
  high = negsuc 9;
  least = record { few_below = lit≤ tt; more_up_to = lit< tt };
  greatest = record { few_above = lit≤ tt; more_from = lit< tt };
  half = refl;
}

first_rates : IsSteadyRound cluster 0 senders first.odd rates (uncut (pos 0))
first_rates = record {
  micro = first_regular.odd_micro;
  hears = record {
    said = rates;
    further = [];
    parts = IsPermutation-refl rates;
    few = lit≤ tt;
    each = (
      record { actions = record { low = record { le = tt }; high = record { le = tt } }; length = record { low = record { le = tt }; high = record { le = tt } } },
      (record { actions = record { low = record { le = tt }; high = record { le = tt } }; length = record { low = record { le = tt }; high = record { le = tt } } }, (placed, tt)),
    );
  };
  is_term = inr (pos 0, rates_middle, refl);
}

second_rates : IsSteadyRound cluster 0 senders second.odd rates (uncut (pos 0))
second_rates = record {
  micro = second_regular.odd_micro;
  hears = record {
    said = rates;
    further = [];
    parts = IsPermutation-refl rates;
    few = lit≤ tt;
    each = (
      record { actions = record { low = record { le = tt }; high = record { le = tt } }; length = record { low = record { le = tt }; high = record { le = tt } } },
      (record { actions = record { low = record { le = tt }; high = record { le = tt } }; length = record { low = record { le = tt }; high = record { le = tt } } }, (record { actions = record { low = record { le = tt }; high = record { le = tt } }; length = record { low = record { le = tt }; high = record { le = tt } } }, tt)),
    );
  };
  is_term = inr (pos 0, rates_middle, refl);
}

slow_rates_round : IsSteadyRound cluster 0 senders slow.odd slow_rates (uncut (negsuc 7))
slow_rates_round = record {
  micro = slow_regular.odd_micro;
  hears = record {
    said = slow_rates;
    further = [];
    parts = IsPermutation-refl slow_rates;
    few = lit≤ tt;
    each = (
      placed_slowly,
      (record { actions = record { low = record { le = tt }; high = record { le = tt } }; length = record { low = record { le = tt }; high = record { le = tt } } }, (record { actions = record { low = record { le = tt }; high = record { le = tt } }; length = record { low = record { le = tt }; high = record { le = tt } } }, tt)),
    );
  };
  is_term = inr (negsuc 9, slow_rates_middle, refl);
}

-- ---- all of it

abbrev first_member : Member
first_member = record { even = first.even; odd = first.odd; offsets = first_offsets; rates = rates; offset_term = uncut (pos 1); rate_term = uncut (pos 0) }

abbrev second_member : Member
second_member = record { even = second.even; odd = second.odd; offsets = second_offsets; rates = rates; offset_term = uncut (pos 0); rate_term = uncut (pos 0) }

abbrev slow_member : Member
slow_member = record { even = slow.even; odd = slow.odd; offsets = slow_offsets; rates = slow_rates; offset_term = uncut (negsuc 10); rate_term = uncut (negsuc 7) }

abbrev members : List Member
members = first_member ∷ second_member ∷ slow_member ∷ []

abbrev HaveThree : Member → Type 0
HaveThree member = (length member.offsets ≡ 3) × (length member.rates ≡ 3)

have_three : All HaveThree members
have_three = three HaveThree first_member second_member slow_member (refl, refl) (refl, refl) (refl, refl)

kept : AllKeepSenders false senders members
kept one other here there =
    let of_one = All-contains HaveThree members one have_three here in
    let of_other = All-contains HaveThree members other have_three there in
    ((lit≤ tt, of_one.0, of_other.0), (lit≤ tt, of_one.1, of_other.1))

heard : IsSharpDouble false cluster 0 senders members (pos (last_action cluster))
unfolding last_of
heard = record {
  among = three (IsAmong members) first second slow (first_member, (0, lit< tt, refl), refl, refl) (second_member, (1, lit< tt, refl), refl, refl) (slow_member, (2, lit< tt, refl), refl, refl);
  acts = three (λ (sender : Sender). IsBetween (pos 0) (pos (last_action cluster)) sender.action) first second slow (record { low = record { le = tt }; high = record { le = tt } }) (record { low = record { le = tt }; high = record { le = tt } }) (record { low = record { le = tt }; high = record { le = tt } });
  computes =
      three (ComputesSharply cluster 0 senders) first_member second_member slow_member (record { regular = first_regular; by_offset = first_round; by_rate = first_rates })
      (record { regular = second_regular; by_offset = second_round; by_rate = second_rates }) (record { regular = slow_regular; by_offset = slow_round; by_rate = slow_rates_round });
  keep = kept;
}

-- starts within 2.4 us, and lengths within 0.5 us: in sharp sync these would lie within 7,000,698 ticks, and here they lie 10,000,000
-- apart
abbrev evens : List NodeRow
evens = first.even ∷ second.even ∷ slow.even ∷ []

sharp : AreSharp cluster 96_000_000 20_000_000 (pos 0) evens
sharp = record {
  starts_lie =
      lie_three (pos 96_000_000) first.even.start second.even.start slow.even.start (record { le = tt }) (record { le = tt }) (record { le = tt }) (record { le = tt }) (record { le = tt })
      (record { le = tt }) (record { le = tt }) (record { le = tt }) (record { le = tt });
  lengths_lie =
      lie_three (pos 20_000_000) (cycle_length_of cluster first.even) (cycle_length_of cluster second.even) (cycle_length_of cluster slow.even) (record { le = tt }) (record { le = tt })
      (record { le = tt }) (record { le = tt }) (record { le = tt }) (record { le = tt }) (record { le = tt }) (record { le = tt }) (record { le = tt });
  about = three (λ row. IsAboutCycle cluster (pos 0) (cycle_length_of cluster row)) first.even second.even slow.even (record { low = record { le = tt }; high = record { le = tt } }) (record { low = record { le = tt }; high = record { le = tt } }) (record { low = record { le = tt }; high = record { le = tt } });
}

begin : BeginWithin false cluster 0 96_000_000 20_000_000 117_418_141 1 (λ k. senders) (λ k. members)
begin = record {
  doubles_are = record {
    sane = is_sane;
    second = refl;
    heard = λ k short before begin. heard;
    follows = λ k short before begin uncut. absurd (omega (arith, short));
  };
  checks = way_checks;
  near = λ k short. near_way false k (later k short);
  first = sharp;
}
  where
    later : (k : ℕ) → k < 1 → k < 2
    later k short = omega (arith, short)

spreads : KeepsToSpreads false cluster 0 96_000_000 20_000_000 (λ k. members) 0
spreads = sharp_spreads_keep false cluster 0 96_000_000 20_000_000 117_418_141 1 (λ k. senders) (λ k. members) begin 0 (lit< tt)

-- the next even cycles: the slow one is then 1,999,600 ticks longer, of the 7,000,698 that the law allows
abbrev next_even : NodeRow
next_even = row_of 1 1_000_000 400_001_000_000 (pos 0)

abbrev next_slow : NodeRow
next_slow = record { node = 3; start = pos 400_010_999_450; length = pos 1_000_050; rate = negsuc 7; offset = pos 0; state = Active; cut = 0 }

next_apart : cycle_length_of cluster next_slow -ℤ cycle_length_of cluster next_even ≡ pos 1_999_600
next_apart = refl

next_near : IsWithin (pos 7_000_698) (cycle_length_of cluster next_slow -ℤ cycle_length_of cluster next_even)
unfolding sharp_spread_after
next_near =
    (spreads.keeps.come tt slow_member first_member (2, lit< tt, refl) (0, lit< tt, refl)).lengths next_slow next_even
    (record { rate = refl; micro = record { least = record { le = tt }; most = record { le = tt } }; steady = record { low = record { le = tt }; high = record { le = tt } } })
    (record { rate = refl; micro = record { least = record { le = tt }; most = record { le = tt } }; steady = record { low = record { le = tt }; high = record { le = tt } } })
