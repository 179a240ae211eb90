-- The worked run that reaches nearly all of the sharper precision is as the law asks.
use Rattle.std.proofs.Common.{inl, Bool, true, false, [], ◌∷◌, refl, lit≤, arith}
use Rattle.fr_base.specs.declared.channel.Channel.TheVariants.{A}
use Rattle.fr_cluster.proofs.Elements.{Contains-here, Contains-there}
use Rattle.fr_history.specs.Worked.{on_a as spec}
use Rattle.fr_bound.specs.Bounds.{lambda_of, pi_of}
use Rattle.fr_bound.specs.Checks.{holds_of, AllChecksHold}
use Rattle.fr_worked.specs.DrivenRun.{driven_cluster}
use Rattle.fr_worked.specs.FarRun.{older_far, WorkedOlderFarRun, far_apart_run, worked_far, HasTwo, IsFar, WorkedFarRuns}
use Rattle.fr_bound.specs.SharpBounds.{sharp_lambda, sharp_pi}
use Rattle.fr_runs.specs.SteadyRuns.{MayHaveArbitrary}
use Rattle.fr_sharp.specs.WorkedRun.{steady_cluster, OfBytes, Said}
use Rattle.fr_worked.proofs.RunDriven.{is_sane as driven_sane, on_channel}
use Rattle.fr_worked.proofs.RunWorked.{few, on_a}
use Rattle.fr_promise.proofs.SharpWorked.{is_sane}
use Rattle.fr_promise.proofs.CheckNumbers.{one_to_five}

module _ (said : Said) (bytes : OfBytes said) where
  is_far : (beside : Bool) → IsFar (worked_far said beside) (sharp_pi beside steady_cluster 0) (sharp_lambda beside steady_cluster 0)
  is_far false = record {
    sane = is_sane;
    bytes = bytes;
    few = few said false;
    shares = λ sender receiver slot linked. (A, record { by_sender = on_a said false sender linked.sends; by_receiver = on_a said false receiver linked.hears });
    least = record { le = tt };
    order = record { le = tt };
    most = record { le = tt };
    starts_fit = lit≤ tt;
    lengths_fit = record { le = tt };
  }
  is_far true = record {
    sane = is_sane;
    bytes = bytes;
    few = few said true;
    shares = λ sender receiver slot linked. (A, record { by_sender = on_a said true sender linked.sends; by_receiver = on_a said true receiver linked.hears });
    least = record { le = tt };
    order = record { le = tt };
    most = record { le = tt };
    starts_fit = lit≤ tt;
    lengths_fit = record { le = tt };
  }

  may : (beside : Bool) → MayHaveArbitrary beside (far_apart_run (worked_far said beside))
  may false = refl
  may true = tt

  has_two : (beside : Bool) → HasTwo (worked_far said beside)
  has_two false = record {
    one = spec 1;
    other = spec 2;
    here = Contains-here (spec 1) (spec 2 ∷ spec 3 ∷ spec 4 ∷ []);
    there = Contains-there (spec 1) (spec 2 ∷ spec 3 ∷ spec 4 ∷ []) (spec 2) (Contains-here (spec 2) (spec 3 ∷ spec 4 ∷ []));
    first = refl;
    differ = λ same. omega (arith, same);
  }
  has_two true = record {
    one = spec 1;
    other = spec 2;
    here = Contains-here (spec 1) (spec 2 ∷ spec 3 ∷ []);
    there = Contains-there (spec 1) (spec 2 ∷ spec 3 ∷ []) (spec 2) (Contains-here (spec 2) (spec 3 ∷ []));
    first = refl;
    differ = λ same. omega (arith, same);
  }

pub worked_far_runs : WorkedFarRuns
worked_far_runs said false bytes = (is_far said bytes false, may said bytes false, has_two said bytes false, refl)
worked_far_runs said true bytes = (is_far said bytes true, may said bytes true, has_two said bytes true, refl)

-- ---- and of a cluster that meets the older checks

older_checks : AllChecksHold driven_cluster
older_checks = one_to_five (λ k. holds_of k driven_cluster) refl refl refl refl refl

older_is_far : (said : Said) → OfBytes said → IsFar (older_far said) (pi_of driven_cluster) (lambda_of driven_cluster)
older_is_far said bytes = record {
  sane = driven_sane;
  bytes = bytes;
  few = inl (refl, lit≤ tt);
  shares = λ sender receiver slot linked. (A, record { by_sender = on_channel sender linked.sends; by_receiver = on_channel receiver linked.hears });
  least = record { le = tt };
  order = record { le = tt };
  most = record { le = tt };
  starts_fit = lit≤ tt;
  lengths_fit = record { le = tt };
}

older_has_two : (said : Said) → HasTwo (older_far said)
older_has_two said = record {
  one = spec 1;
  other = spec 2;
  here = Contains-here (spec 1) (spec 2 ∷ spec 3 ∷ spec 4 ∷ []);
  there = Contains-there (spec 1) (spec 2 ∷ spec 3 ∷ spec 4 ∷ []) (spec 2) (Contains-here (spec 2) (spec 3 ∷ spec 4 ∷ []));
  first = refl;
  differ = λ same. omega (arith, same);
}

pub worked_older_far_run : WorkedOlderFarRun
worked_older_far_run said bytes = (older_is_far said bytes, older_checks, older_has_two said, refl, refl)
