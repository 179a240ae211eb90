-- From sync in the older sense: the two nodes of the reference cluster, whose starts lie 2,500,000 ticks apart, without an arbitrary
-- node, and with a flutter of twice the error of an arrival.
use Rattle.std.proofs.Common.{◌≡◌, ℕ, ◌≤◌, true, false, ℤ, pos, negsuc, List, [], ◌∷◌, length, All, refl, inr, lit≤, lit<, arith}
use Rattle.std.proofs.lemmas.List.Elements.{All-contains}
use Rattle.std.proofs.lemmas.List.Sorted.{IsPermutation-refl}
use Rattle.fr_base.specs.Within.{IsBetween}
use Rattle.fr_midpoint.specs.Midpoint.{IsMidpoint}
use Rattle.fr_bound.specs.Checks.{holds_of}
use Rattle.fr_precision.specs.Rows.{Sender}
use Rattle.fr_precision.specs.Offsets.{IsOffsetRound}
use Rattle.fr_precision.specs.Placement.{IsRegular}
use Rattle.fr_precision.specs.Step.{IsAmong, Member}
use Rattle.fr_precision.proofs.Worked.{cluster, first, is_sane, second, two, rows_in_sync}
use Rattle.fr_bound.specs.SharpBounds.{last_action, last_of}
use Rattle.fr_precision.specs.Lengths.{IsSteadyRound}
use Rattle.fr_precision.specs.SharpStep.{AllKeepSenders, ComputesSharply, IsSharpDouble}
use Rattle.fr_precision.specs.SharpRun.{BeginInSync, KeepsFromSync}
use Rattle.fr_precision.proofs.OlderLemmas.{older_sync_settles}
use Rattle.fr_promise.proofs.SharpWorked.{uncut}
use Rattle.fr_promise.proofs.CheckNumbers.{one_to_five}

abbrev both : List Sender
both = first ∷ second ∷ []

first_regular : IsRegular cluster first.even first.odd
first_regular = record {
  double = record { follows = refl; same_rate = refl; no_offset = refl };
  rate_within = record { low = record { le = tt }; high = record { le = tt } };
  even_micro = record { least = record { le = tt }; most = record { le = tt } };
  odd_micro = record { least = record { le = tt }; most = record { le = tt } };
  steady = record { low = record { le = tt }; high = record { le = tt } };
}

second_regular : IsRegular cluster second.even second.odd
second_regular = record {
  double = record { follows = refl; same_rate = refl; no_offset = refl };
  rate_within = record { low = record { le = tt }; high = record { le = tt } };
  even_micro = record { least = record { le = tt }; most = record { le = tt } };
  odd_micro = record { least = record { le = tt }; most = record { le = tt } };
  steady = record { low = record { le = tt }; high = record { le = tt } };
}

-- ---- what both measure

abbrev first_offsets : List ℤ
first_offsets = pos 0 ∷ pos 2 ∷ []

abbrev second_offsets : List ℤ
second_offsets = negsuc 2 ∷ pos 0 ∷ []

first_middle : IsMidpoint first_offsets (pos 1)
first_middle = record {
  low = pos 0;
  high = pos 2;
  least = record { few_below = lit≤ tt; more_up_to = lit< tt };
  greatest = record { few_above = lit≤ tt; more_from = lit< tt };
  half = refl;
}

second_middle : IsMidpoint second_offsets (negsuc 0)
second_middle = record {
  low = negsuc 2;
  high = pos 0;
  least = record { few_below = lit≤ tt; more_up_to = lit< tt };
  greatest = record { few_above = lit≤ tt; more_from = lit< tt };
  half = refl;
}

first_round : IsOffsetRound cluster both first.odd first_offsets (uncut (pos 1))
first_round = record {
  micro = first_regular.odd_micro;
  hears = record {
    said = first_offsets;
    further = [];
    parts = IsPermutation-refl first_offsets;
    few = lit≤ tt;
    each = (record { low = record { lt = tt }; high = record { le = tt } }, (record { low = record { lt = tt }; high = record { le = tt } }, tt));
  };
  is_term = inr (pos 1, first_middle, refl);
  applied = refl;
}

second_round : IsOffsetRound cluster both second.odd second_offsets (uncut (negsuc 0))
second_round = record {
  micro = second_regular.odd_micro;
  hears = record {
    said = second_offsets;
    further = [];
    parts = IsPermutation-refl second_offsets;
    few = lit≤ tt;
    each = (record { low = record { lt = tt }; high = record { le = tt } }, (record { low = record { lt = tt }; high = record { le = tt } }, tt));
  };
  is_term = inr (negsuc 0, second_middle, refl);
  applied = refl;
}

abbrev rates : List ℤ
rates = pos 0 ∷ pos 0 ∷ []

rates_middle : IsMidpoint rates (pos 0)
rates_middle = record {
  low = pos 0;
  high = pos 0;
  least = record { few_below = lit≤ tt; more_up_to = lit< tt };
  greatest = record { few_above = lit≤ tt; more_from = lit< tt };
  half = refl;
}

first_rates : IsSteadyRound cluster 1_000_000 both first.odd rates (uncut (pos 0))
first_rates = record {
  micro = first_regular.odd_micro;
  hears = record {
    said = rates;
    further = [];
    parts = IsPermutation-refl rates;
    few = lit≤ tt;
    each = (record { actions = record { low = record { le = tt }; high = record { le = tt } }; length = record { low = record { le = tt }; high = record { le = tt } } }, (record { actions = record { low = record { le = tt }; high = record { le = tt } }; length = record { low = record { le = tt }; high = record { le = tt } } }, tt));
  };
  is_term = inr (pos 0, rates_middle, refl);
}

second_rates : IsSteadyRound cluster 1_000_000 both second.odd rates (uncut (pos 0))
second_rates = record {
  micro = second_regular.odd_micro;
  hears = record {
    said = rates;
    further = [];
    parts = IsPermutation-refl rates;
    few = lit≤ tt;
    each = (record { actions = record { low = record { le = tt }; high = record { le = tt } }; length = record { low = record { le = tt }; high = record { le = tt } } }, (record { actions = record { low = record { le = tt }; high = record { le = tt } }; length = record { low = record { le = tt }; high = record { le = tt } } }, tt));
  };
  is_term = inr (pos 0, rates_middle, refl);
}

-- ---- all of it

abbrev first_member : Member
first_member = record { even = first.even; odd = first.odd; offsets = first_offsets; rates = rates; offset_term = uncut (pos 1); rate_term = uncut (pos 0) }

abbrev second_member : Member
second_member = record { even = second.even; odd = second.odd; offsets = second_offsets; rates = rates; offset_term = uncut (negsuc 0); rate_term = uncut (pos 0) }

abbrev members : List Member
members = first_member ∷ second_member ∷ []

abbrev HaveTwo : Member → Type 0
HaveTwo member = (length member.offsets ≡ 2) × (length member.rates ≡ 2)

have_two : All HaveTwo members
have_two = two HaveTwo first_member second_member (refl, refl) (refl, refl)

kept : AllKeepSenders false both members
kept one other here there =
    let of_one = All-contains HaveTwo members one have_two here in
    let of_other = All-contains HaveTwo members other have_two there in
    ((lit≤ tt, of_one.0, of_other.0), (lit≤ tt, of_one.1, of_other.1))

heard : IsSharpDouble false cluster 1_000_000 both members (pos (last_action cluster))
unfolding last_of
heard = record {
  among = two (IsAmong members) first second (first_member, (0, lit< tt, refl), refl, refl) (second_member, (1, lit< tt, refl), refl, refl);
  acts = two (λ (sender : Sender). IsBetween (pos 0) (pos (last_action cluster)) sender.action) first second (record { low = record { le = tt }; high = record { le = tt } }) (record { low = record { le = tt }; high = record { le = tt } });
  computes =
      two (ComputesSharply cluster 1_000_000 both) first_member second_member (record { regular = first_regular; by_offset = first_round; by_rate = first_rates })
      (record { regular = second_regular; by_offset = second_round; by_rate = second_rates });
  keep = kept;
}

checks : (number : ℕ) → 1 ≤ number → number ≤ 5 → holds_of number cluster ≡ true
checks = one_to_five (λ k. holds_of k cluster) refl refl refl refl refl

begin : BeginInSync false cluster 1_000_000 1 (λ k. both) (λ k. members)
begin = record {
  doubles_are = record {
    sane = is_sane;
    second = refl;
    heard = λ k short before begin. heard;
    follows = λ k short before begin uncut. absurd (omega (arith, short));
  };
  little = lit≤ tt;
  checks = checks;
  sync = rows_in_sync;
}

settles : KeepsFromSync false cluster 1_000_000 (λ k. members) 0
settles = older_sync_settles false cluster 1_000_000 1 (λ k. both) (λ k. members) begin 0 (lit< tt)
