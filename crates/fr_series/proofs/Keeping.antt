-- What a double cycle hears and keeps, by what was heard since the first one in sharp sync.
use Rattle.std.proofs.Common.{◌≡◌, ◌∙◌, ℕ, ◌+◌, ◌-◌, ◌≤◌, Bool, Option, Some, ap, ap₂, sym, add-one, arith}
use Rattle.fr_cluster.specs.Values.{Values}
use Rattle.fr_drift.specs.View.{DriftView}
use Rattle.fr_script.specs.View.{ScriptView}
use Rattle.fr_bound.specs.SharpBounds.{most_flutter}
use Rattle.fr_bound.specs.declared.settling.Spread.{Spread}
use Rattle.fr_precision.specs.Among.{apart_through_losses, kinds_spread, spread_through_losses}
use Rattle.fr_precision.specs.declared.kinds.Kinds.{Kinds}
use Rattle.fr_sharp.specs.LossRuns.{told_apart}
use Rattle.fr_sharp.specs.LossSteps.{heard_apart, LossDouble}
use Rattle.fr_sharp.specs.SharpStatement.{has_arbitrary}
use Rattle.fr_traffic.specs.Traffic.{heard_in, traffic_in}
use Rattle.fr_series.specs.Basis.{basis_of}
use Rattle.fr_series.specs.SharpLosses.{bound_of, bound_since, IsHeldBy}
use Rattle.fr_series.specs.declared.basis.Basis.{Basis}

-- the numbers so many double cycles after one, by what is heard
module _ (beside : Bool) (p : Values) (flutter : ℕ) (what : ℕ → Kinds) (n : ℕ) (hears : Kinds) (now : Spread) where
  spread_on : (next : Spread) → hears ≡ what n → now ≡ spread_through_losses beside p flutter what n → next ≡ kinds_spread hears p flutter now
      → next ≡ spread_through_losses beside p flutter what (n + 1)
  unfolding spread_through_losses
  spread_on next is now_is goes =
      goes ∙ ap (λ (h : Kinds). kinds_spread h p flutter now) is ∙ ap (kinds_spread (what n) p flutter) now_is
      ∙ ap (spread_through_losses beside p flutter what) (sym (add-one n))

  apart_on : (apart : ℕ) → hears ≡ what n → now ≡ spread_through_losses beside p flutter what n → apart ≡ heard_apart hears p flutter now
      → apart ≡ apart_through_losses beside p flutter what n
  unfolding spread_through_losses
  apart_on apart is now_is far = far ∙ ap (λ (h : Kinds). heard_apart h p flutter now) is ∙ ap (heard_apart (what n) p flutter) now_is

module _ (p : Values) (d : DriftView) (s : ScriptView) where
  -- there it begins
  pub held_first : (n : ℕ) (basis : Basis) (spread : LossDouble) → basis ≡ basis_of p d s n → basis.flutter ≤ most_flutter → spread.passed ≡ 0
      → ((what : ℕ → Kinds) → spread.spread ≡ spread_through_losses basis.beside p basis.flutter what 0) → IsHeldBy p d s n basis spread
  held_first n basis spread is most passed begins =
      let from : basis.from ≡ n = ap (λ (b : Basis). b.from) is in
      let none : 0 ≡ n - basis.from = omega (arith, from) in
      record {
        is = is ∙ ap (basis_of p d s) (sym from);
        most = most;
        low = omega (arith, from);
        passed = passed ∙ none;
        apart =
            begins (λ m. heard_in (traffic_in p s) (basis.from + m))
            ∙ ap (λ b. spread_through_losses b p basis.flutter (λ m. heard_in (traffic_in p s) (basis.from + m)) 0) (ap (λ (b : Basis). b.beside) is)
            ∙ ap (spread_through_losses (has_arbitrary p s) p basis.flutter (λ m. heard_in (traffic_in p s) (basis.from + m))) none;
      }

  module _ (n : ℕ) (basis : Basis) (now : LossDouble) (hears : Kinds) (held : IsHeldBy p d s n basis now) (is : hears ≡ heard_in (traffic_in p s) n) where
    here : hears ≡ heard_in (traffic_in p s) (basis.from + (n - basis.from))
    here = let low = held.low in let same : n ≡ basis.from + (n - basis.from) = omega arith in is ∙ ap (heard_in (traffic_in p s)) same

    -- its number
    pub held_bound : (apart : ℕ) (bound : Option ℕ) → apart ≡ heard_apart hears p basis.flutter now.spread → bound ≡ bound_of basis.through apart
        → bound ≡ bound_since p d s (Some basis.from) n
    held_bound apart bound far told =
        let by : apart ≡ told_apart p s basis.from basis.flutter n =
        apart_on (has_arbitrary p s) p basis.flutter (λ m. heard_in (traffic_in p s) (basis.from + m)) (n - basis.from) hears now.spread apart here held.apart far in
        told
        ∙ ap₂ (λ b t. bound_of b t) (ap (λ (b : Basis). b.through) held.is)
        (by ∙ ap (λ (t : ℕ). told_apart p s basis.from t n) (ap (λ (b : Basis). b.flutter) held.is))

    -- and that of the next double cycle
    pub held_more : (next : LossDouble) → next.passed ≡ now.passed + 1 → next.spread ≡ kinds_spread hears p basis.flutter now.spread → IsHeldBy p d s (n + 1) basis next
    held_more next passed goes =
        let low = held.low in
        let was = held.passed in
        let more : n - basis.from + 1 ≡ n + 1 - basis.from = omega arith in
        record {
          is = held.is;
          most = held.most;
          low = omega arith;
          passed = passed ∙ ap (λ (m : ℕ). m + 1) was ∙ more;
          apart =
              spread_on (has_arbitrary p s) p basis.flutter (λ m. heard_in (traffic_in p s) (basis.from + m)) (n - basis.from) hears now.spread next.spread here held.apart goes
              ∙ ap (spread_through_losses (has_arbitrary p s) p basis.flutter (λ m. heard_in (traffic_in p s) (basis.from + m))) more;
        }
