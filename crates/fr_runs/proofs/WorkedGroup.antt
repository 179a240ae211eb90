-- Two nodes of a worked cluster that send, and two that follow, with what each of them measures. Node 3 starts 1,000,000 ticks
-- after nodes 1 and 2, and node 4 starts 3,000,000 ticks after them.
use Rattle.std.proofs.Common.{◌≡◌, ℕ, true, ℤ, pos, negsuc, List, [], ◌∷◌, refl, inr, lit≤, lit<}
use Rattle.std.specs.Prelude.{◌+◌, ◌+ℤ◌, ◌≤ℤ◌}
use Rattle.std.proofs.lemmas.List.Sorted.{IsPermutation-refl}
use Rattle.fr_base.specs.declared.Outcome.TheVariants.{Within}
use Rattle.fr_midpoint.specs.Midpoint.{IsMidpoint}
use Rattle.fr_correct.specs.Terms.{term_of}
use Rattle.fr_correct.specs.declared.term.Term.{Term}
use Rattle.fr_precision.specs.Rows.{Sender}
use Rattle.fr_precision.specs.Offsets.{IsDeviation, IsOffsetRound, IsSending}
use Rattle.fr_precision.specs.Rates.{IsRateRound}
use Rattle.fr_precision.specs.Step.{ComputesTerms, Member}
use Rattle.fr_precision.proofs.Worked.{row}
use Rattle.fr_runs.specs.Group.{Group}
use Rattle.fr_runs.proofs.WorkedListening.{cluster, lasts, micro, reference_even, reference_odd}

-- ---- the senders, and the group

abbrev pub first : Sender
first = record { even = reference_even; odd = reference_odd; action = pos 12 }

abbrev pub second : Sender
second = record { even = row 2 0 (pos 0); odd = row 2 200_000_000_000 (pos 0); action = pos 42 }

abbrev pub senders : List Sender
senders = first ∷ second ∷ []

abbrev pub term : ℤ → Term
term value = record { value = value; before = value; outcome = Within }

-- a node that starts so long after nodes 1 and 2, and measures so many microticks of both
abbrev pub member : ℕ → ℕ → ℤ → Member
member number start value = record {
  even = row number start (pos 0);
  odd = row number (start + 200_000_000_000) value;
  offsets = value ∷ value ∷ [];
  rates = pos 0 ∷ pos 0 ∷ [];
  offset_term = term value;
  rate_term = term (pos 0);
}

abbrev pub group : Group
group = record {
  rows = member 1 0 (pos 0) ∷ member 2 0 (pos 0) ∷ [];
  seconds = member 3 1_000_000 (negsuc 0) ∷ [];
  firsts = member 4 3_000_000 (negsuc 2) ∷ [];
}

-- the midpoint of a number twice
middle_of_zeros : IsMidpoint (pos 0 ∷ pos 0 ∷ []) (pos 0)
middle_of_zeros = record {
  low = pos 0;
  high = pos 0;
  least = record { few_below = lit≤ tt; more_up_to = lit< tt };
  greatest = record { few_above = lit≤ tt; more_from = lit< tt };
  half = refl;
}

middle_of_ones : IsMidpoint (negsuc 0 ∷ negsuc 0 ∷ []) (negsuc 0)
middle_of_ones = record {
  low = negsuc 0;
  high = negsuc 0;
  least = record { few_below = lit≤ tt; more_up_to = lit< tt };
  greatest = record { few_above = lit≤ tt; more_from = lit< tt };
  half = refl;
}

middle_of_threes : IsMidpoint (negsuc 2 ∷ negsuc 2 ∷ []) (negsuc 2)
middle_of_threes = record {
  low = negsuc 2;
  high = negsuc 2;
  least = record { few_below = lit≤ tt; more_up_to = lit< tt };
  greatest = record { few_above = lit≤ tt; more_from = lit< tt };
  half = refl;
}

rates_of : (number start : ℕ) (value : ℤ) → IsRateRound cluster senders (row number start value) (pos 0 ∷ pos 0 ∷ []) (term (pos 0))
rates_of number start value = record {
  micro = micro number start value;
  hears = record {
    said = pos 0 ∷ pos 0 ∷ [];
    further = [];
    parts = IsPermutation-refl (pos 0 ∷ pos 0 ∷ []);
    few = lit≤ tt;
    each = (record { low = record { le = tt }; high = record { le = tt } }, (record { low = record { le = tt }; high = record { le = tt } }, tt));
  };
  is_term = inr (pos 0, middle_of_zeros, refl);
}

offsets_of : (number start : ℕ) (value : ℤ) → IsMidpoint (value ∷ value ∷ []) value
    → IsDeviation cluster true (pos 12) (row number start value) first.odd value → IsDeviation cluster true (pos 42) (row number start value) second.odd value
    → term value ≡ term_of cluster.offset_limit value
    → IsOffsetRound cluster senders (row number start value) (value ∷ value ∷ []) (term value)
offsets_of number start value middle here there is = record {
  micro = micro number start value;
  hears = record {
    said = value ∷ value ∷ [];
    further = [];
    parts = IsPermutation-refl (value ∷ value ∷ []);
    few = lit≤ tt;
    each = (here, (there, tt));
  };
  is_term = inr (value, middle, is);
  applied = refl;
}

pub offsets_of_first : IsOffsetRound cluster senders (row 1 200_000_000_000 (pos 0)) (pos 0 ∷ pos 0 ∷ []) (term (pos 0))
offsets_of_first =
    offsets_of 1 200_000_000_000 (pos 0) middle_of_zeros (record { low = record { lt = tt }; high = record { le = tt } }) (record { low = record { lt = tt }; high = record { le = tt } }) refl

pub offsets_of_second : IsOffsetRound cluster senders (row 2 200_000_000_000 (pos 0)) (pos 0 ∷ pos 0 ∷ []) (term (pos 0))
offsets_of_second =
    offsets_of 2 200_000_000_000 (pos 0) middle_of_zeros (record { low = record { lt = tt }; high = record { le = tt } }) (record { low = record { lt = tt }; high = record { le = tt } }) refl

pub offsets_of_third : IsOffsetRound cluster senders (row 3 200_001_000_000 (negsuc 0)) (negsuc 0 ∷ negsuc 0 ∷ []) (term (negsuc 0))
offsets_of_third =
    offsets_of 3 200_001_000_000 (negsuc 0) middle_of_ones (record { low = record { lt = tt }; high = record { le = tt } }) (record { low = record { lt = tt }; high = record { le = tt } }) refl

pub offsets_of_fourth : IsOffsetRound cluster senders (row 4 200_003_000_000 (negsuc 2)) (negsuc 2 ∷ negsuc 2 ∷ []) (term (negsuc 2))
offsets_of_fourth =
    offsets_of 4 200_003_000_000 (negsuc 2) middle_of_threes (record { low = record { lt = tt }; high = record { le = tt } }) (record { low = record { lt = tt }; high = record { le = tt } }) refl

pub computes : (number start : ℕ) (value : ℤ) → pos (start + 200_000_000_000) ≡ pos start +ℤ pos 200_000_000_000
    → IsOffsetRound cluster senders (row number (start + 200_000_000_000) value) (value ∷ value ∷ []) (term value) → ComputesTerms cluster senders (member number start value)
computes number start value is offsets = record {
  runs = record {
    double = record { follows = is; same_rate = refl; no_offset = refl };
    even_lasts = lasts number start (pos 0);
    odd_lasts = lasts number (start + 200_000_000_000) value;
  };
  by_offset = offsets;
  by_rate = rates_of number (start + 200_000_000_000) value;
}

pub sending : (number start action : ℕ) → pos (start + 200_000_000_000) ≡ pos start +ℤ pos 200_000_000_000 → pos 0 ≤ℤ pos action → pos action ≤ℤ pos 4900
    → IsSending cluster (record { even = row number start (pos 0); odd = row number (start + 200_000_000_000) (pos 0); action = pos action })
sending number start action is from to = record {
  double = record { follows = is; same_rate = refl; no_offset = refl };
  lasts = lasts number (start + 200_000_000_000) (pos 0);
  acts_from = from;
  acts_to = to;
}
