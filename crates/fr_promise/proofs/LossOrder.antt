-- Which spreads lie below which, where frames may be lost.
use Rattle.std.proofs.Common.{◌≡◌, ℕ, zero, suc, ◌+◌, ◌*◌, ◌≤◌, Bool, true, false, refl, subst, arith}
use Rattle.fr_cluster.specs.Values.{Values, amount}
use Rattle.fr_cluster.specs.declared.names.ParamName.TheVariants as name
use Rattle.fr_bound.specs.Bounds.{arrival_error, cycle_change, longest_micro}
use Rattle.fr_bound.specs.declared.settling.Spread.{Spread}
use Rattle.fr_bound.specs.SharpSpreads.{next_lost_spread}
use Rattle.fr_precision.specs.Among.{lost_spread}
use Rattle.fr_bound.specs.SharpBounds.{odd_spread, sharp_lambda, sharp_pi, steady_error}

pub record IsBelow (s t : Spread) : Type 0 where
  pub start : s.starts ≤ t.starts
  pub long : s.lengths ≤ t.lengths

pub through : (s t u : Spread) → IsBelow s t → IsBelow t u → IsBelow s u
through s t u one other = record { start = both s.starts t.starts u.starts one.start other.start; long = both s.lengths t.lengths u.lengths one.long other.long }
  where
    both : (a b c : ℕ) → a ≤ b → b ≤ c → a ≤ c
    both a b c d e = omega (arith, d, e)

pub below_itself : (s : Spread) → IsBelow s s
below_itself s = record { start = itself s.starts; long = itself s.lengths }
  where
    itself : (n : ℕ) → n ≤ n
    itself n = omega arith

-- starts and lengths are no less than in sharp sync, and starts no less than the odd lengths ask for
pub record IsWide (p : Values) (flutter : ℕ) (s : Spread) : Type 0 where
  pub long : sharp_lambda false p flutter ≤ s.lengths
  pub start : odd_spread p s.lengths + 2 * arrival_error p + 3 * longest_micro p ≤ s.starts

module _ (p : Values) (flutter : ℕ) where
  pub next_below : (whole : Bool) (s t : Spread) → IsBelow s t → IsBelow (next_lost_spread whole p flutter s) (next_lost_spread whole p flutter t)
  next_below true s t below = record {
    start = clean s.lengths t.lengths (cycle_change p) (arrival_error p) (longest_micro p) below.long;
    long = itself (sharp_lambda false p flutter);
  }
    where
      clean : (l m j e q : ℕ) → l ≤ m → (l + 2 * j) + 2 * e + 3 * q ≤ (m + 2 * j) + 2 * e + 3 * q
      clean l m j e q le = omega (arith, le)

      itself : (n : ℕ) → n ≤ n
      itself n = omega arith
  next_below false s t below = record {
    start = lost s.starts s.lengths t.starts t.lengths (cycle_change p) (arrival_error p) (longest_micro p) below.start below.long;
    long = longer s.lengths t.lengths (2 * steady_error p flutter + 2 * (amount p name.pClusterDriftDamping * longest_micro p) + 2 * cycle_change p) below.long;
  }
    where
      lost : (s l t m j e q : ℕ) → s ≤ t → l ≤ m → s + l + (l + 2 * j) + 2 * e + 3 * q ≤ t + m + (m + 2 * j) + 2 * e + 3 * q
      lost s l t m j e q a b = omega (arith, a, b)

      longer : (l m n : ℕ) → l ≤ m → l + n ≤ m + n
      longer l m n le = omega (arith, le)

  abbrev pub calm : Spread
  calm = record { starts = sharp_pi false p flutter; lengths = sharp_lambda false p flutter }

  -- none is less than in sharp sync
  pub next_calm : (whole : Bool) → IsBelow calm (next_lost_spread whole p flutter calm)
  next_calm true = record { start = itself (sharp_pi false p flutter); long = itself (sharp_lambda false p flutter) }
    where
      itself : (n : ℕ) → n ≤ n
      itself n = omega arith
  next_calm false = record {
    start = more (sharp_lambda false p flutter) (cycle_change p) (arrival_error p) (longest_micro p);
    long = longer (sharp_lambda false p flutter) (2 * steady_error p flutter + 2 * (amount p name.pClusterDriftDamping * longest_micro p) + 2 * cycle_change p);
  }
    where
      more : (l j e q : ℕ) → (l + 2 * j) + 2 * e + 3 * q ≤ ((l + 2 * j) + 2 * e + 3 * q) + l + (l + 2 * j) + 2 * e + 3 * q
      more l j e q = omega arith

      longer : (l n : ℕ) → l ≤ l + n
      longer l n = omega arith

  pub never_less : (whole : ℕ → Bool) (k : ℕ) → IsBelow calm (lost_spread p flutter whole k)
  unfolding lost_spread
  never_less whole zero = record { start = itself (sharp_pi false p flutter); long = itself (sharp_lambda false p flutter) }
    where
      itself : (n : ℕ) → n ≤ n
      itself n = omega arith
  never_less whole (suc k) =
      through calm (next_lost_spread (whole k) p flutter calm) (next_lost_spread (whole k) p flutter (lost_spread p flutter whole k)) (next_calm (whole k))
      (next_below (whole k) calm (lost_spread p flutter whole k) (never_less whole k))

  pub later_below : (whole : ℕ → Bool) (double k : ℕ) → IsBelow (lost_spread p flutter (λ m. whole (double + m)) k) (lost_spread p flutter whole (double + k))
  unfolding lost_spread
  later_below whole double zero =
      let same : double ≡ double + 0 = omega arith in
      let At : ℕ → Type 0 = λ n. IsBelow calm (lost_spread p flutter whole n) in
      subst At same (never_less whole double)
  later_below whole double (suc k) =
      let same : suc (double + k) ≡ double + suc k = omega arith in
      let At : ℕ → Type 0 = λ n. IsBelow (next_lost_spread (whole (double + k)) p flutter (lost_spread p flutter (λ m. whole (double + m)) k)) (lost_spread p flutter whole n) in
      subst At same
      (next_below (whole (double + k)) (lost_spread p flutter (λ m. whole (double + m)) k) (lost_spread p flutter whole (double + k)) (later_below whole double k))

  -- ---- where all is heard they fall, where something is lost they rise

  -- by how much lengths come further apart
  abbrev pub added : ℕ
  added = 2 * steady_error p flutter + 2 * (amount p name.pClusterDriftDamping * longest_micro p) + 2 * cycle_change p

  pub lambda_by : sharp_lambda false p flutter ≡ added + longest_micro p
  lambda_by = regroup (steady_error p flutter) (longest_micro p) (amount p name.pClusterDriftDamping * longest_micro p) (cycle_change p)
    where
      regroup : (e q c j : ℕ) → 2 * e + q + 2 * c + 2 * j ≡ (2 * e + 2 * c + 2 * j) + q
      regroup e q c j = omega arith

  pub lost_rises : (s : Spread) → IsBelow s (next_lost_spread false p flutter s)
  lost_rises s = record { start = more s.starts s.lengths (cycle_change p) (arrival_error p) (longest_micro p); long = longer s.lengths added }
    where
      more : (s l j e q : ℕ) → s ≤ s + l + (l + 2 * j) + 2 * e + 3 * q
      more s l j e q = omega arith

      longer : (l n : ℕ) → l ≤ l + n
      longer l n = omega arith

  pub whole_falls : (s : Spread) → IsWide p flutter s → IsBelow (next_lost_spread true p flutter s) s
  whole_falls s wide = record { start = wide.start; long = wide.long }

  wide_next : (whole : Bool) (s : Spread) → IsWide p flutter s → IsWide p flutter (next_lost_spread whole p flutter s)
  wide_next true s wide = record {
    long = itself (sharp_lambda false p flutter);
    start = clean (sharp_lambda false p flutter) s.lengths (cycle_change p) (arrival_error p) (longest_micro p) wide.long;
  }
    where
      itself : (n : ℕ) → n ≤ n
      itself n = omega arith

      clean : (l m j e q : ℕ) → l ≤ m → (l + 2 * j) + 2 * e + 3 * q ≤ (m + 2 * j) + 2 * e + 3 * q
      clean l m j e q le = omega (arith, le)
  wide_next false s wide = record {
    long = longer (sharp_lambda false p flutter) s.lengths added wide.long;
    start = begin s.starts s.lengths added (sharp_lambda false p flutter) (cycle_change p) (arrival_error p) (longest_micro p) wide.long lambda_by;
  }
    where
      longer : (l m n : ℕ) → l ≤ m → l ≤ m + n
      longer l m n le = omega (arith, le)

      begin : (s l x lam j e q : ℕ) → lam ≤ l → lam ≡ x + q → ((l + x) + 2 * j) + 2 * e + 3 * q ≤ s + l + (l + 2 * j) + 2 * e + 3 * q
      begin s l x lam j e q le is = omega (arith, le, is)

  pub always_wide : (whole : ℕ → Bool) (k : ℕ) → IsWide p flutter (lost_spread p flutter whole k)
  unfolding lost_spread
  always_wide whole zero = record { long = itself (sharp_lambda false p flutter); start = itself (sharp_pi false p flutter) }
    where
      itself : (n : ℕ) → n ≤ n
      itself n = omega arith
  always_wide whole (suc k) = wide_next (whole k) (lost_spread p flutter whole k) (always_wide whole k)

  -- where more is heard they lie below
  pub whole_below_lost : (s : Spread) → IsWide p flutter s → IsBelow (next_lost_spread true p flutter s) (next_lost_spread false p flutter s)
  whole_below_lost s wide = through (next_lost_spread true p flutter s) s (next_lost_spread false p flutter s) (whole_falls s wide) (lost_rises s)

  more_below : (heard other : Bool) (s : Spread) → (other ≡ true → heard ≡ true) → IsWide p flutter s → IsBelow (next_lost_spread heard p flutter s) (next_lost_spread other p flutter s)
  more_below true true s more wide = below_itself (next_lost_spread true p flutter s)
  more_below true false s more wide = whole_below_lost s wide
  more_below false true s more wide = absurd (never (more refl))
    where
      never : false ≡ true → ⊥
      never is = cc is
  more_below false false s more wide = below_itself (next_lost_spread false p flutter s)

  pub heard_more_below : (heard other : ℕ → Bool) → ((m : ℕ) → other m ≡ true → heard m ≡ true) → (k : ℕ) → IsBelow (lost_spread p flutter heard k) (lost_spread p flutter other k)
  unfolding lost_spread
  heard_more_below heard other more zero = below_itself calm
  heard_more_below heard other more (suc k) =
      through (next_lost_spread (heard k) p flutter (lost_spread p flutter heard k)) (next_lost_spread (heard k) p flutter (lost_spread p flutter other k)) (next_lost_spread (other k) p flutter (lost_spread p flutter other k))
      (next_below (heard k) (lost_spread p flutter heard k) (lost_spread p flutter other k) (heard_more_below heard other more k))
      (more_below (heard k) (other k) (lost_spread p flutter other k) (more k) (always_wide other k))
