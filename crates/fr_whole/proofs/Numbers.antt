-- The numbers of the way to sync, as the laws of the step ask for them.
use Rattle.std.proofs.Common.{◌≡◌, ℕ, suc, ◌+◌, ◌*◌, ◌<◌, ◌≤◌, ℤ, pos, All, List, arith, inl, inr, ◌⊎◌}
use Rattle.std.specs.Prelude.{◌+ℤ◌, ◌-ℤ◌, ◌*ℤ◌, ◌≤ℤ◌, ◌<ℤ◌, ◌/◌, true, nat_lt}
use Rattle.std.proofs.Math.Nat.{le-max_left}
use Rattle.std.proofs.lemmas.Bool.Decides.{nat_tests}
use Rattle.std.proofs.lemmas.Int.{ints}
use Rattle.fr_base.specs.Within.{LieWithin}
use Rattle.fr_base.specs.declared.node_row.NodeRow.{NodeRow}
use Rattle.fr_cluster.specs.Values.{Values, amount}
use Rattle.fr_cluster.specs.Sane.{IsSane}
use Rattle.fr_cluster.specs.declared.names.ParamName.TheVariants as name
use Rattle.fr_bound.specs.Bounds.{arrival_error, lambda_of, longest_micro, nominal, pi_of, widest}
use Rattle.fr_bound.specs.Checks.{left_of}
use Rattle.fr_bound.specs.Settling.{AllSettleChecksHold, IsPeakTo, SettlesAt, next_spread, spread_after}
use Rattle.fr_bound.specs.declared.settling.Spread.{Spread}
use Rattle.fr_precision.specs.Offsets.{LimitSuffices}
use Rattle.fr_precision.specs.Reception.{LeavesRoom}
use Rattle.fr_precision.specs.Step.{AreSpread, Shrinks}
use Rattle.fr_precision.proofs.Figures.{nat_le-true, times_natural}
use Rattle.fr_precision.proofs.Senders.{All-along}

nat_lt-true : (a b : ℕ) → nat_lt a b ≡ true → a < b
nat_lt-true a b h = grind (arith, nat_tests)

-- ---- the checks for the way

pub limit_suffices : (p : Values) (peak : ℕ) → AllSettleChecksHold p peak → LimitSuffices p (pos peak)
limit_suffices p peak checks = step peak (arrival_error p) (longest_micro p) (left_of 3 p) (nat_le-true _ _ (checks 3 (omega arith) (omega arith)))
  where
    step : (k e q left : ℕ) → k + e + q ≤ left → (pos k +ℤ pos e +ℤ pos q) ≤ℤ pos left
    step k e q left le = omega (arith, ints)

pub leaves_room : (p : Values) (peak : ℕ) → IsSane p → AllSettleChecksHold p peak → LeavesRoom p (pos peak)
leaves_room p peak sane checks =
    let macros = sane.ranges name.gMacroPerCycle in
    let from : pos 0 ≤ℤ p.macros = omega (arith, ints, macros.0) in
    let near = peak + amount p name.xDelayError in
    let far = peak + widest p * nominal + amount p name.xDelayError in
    record {
      before = at_most (amount p name.gMacroPerCycle * near) (left_of 4 p) (p.macros *ℤ pos near) (times_natural p.macros near from) (nat_le-true _ _ (checks 4 (omega arith) (omega arith)));
      after = less (amount p name.gMacroPerCycle * far) (left_of 5 p) (p.macros *ℤ pos far) (times_natural p.macros far from) (nat_lt-true _ _ (checks 5 (omega arith) (omega arith)));
    }
  where
    at_most : (a b : ℕ) (x : ℤ) → pos a ≡ x → a ≤ b → x ≤ℤ pos b
    at_most a b x e le = omega (arith, ints)

    less : (a b : ℕ) (x : ℤ) → pos a ≡ x → a < b → x <ℤ pos b
    less a b x e le = omega (arith, ints)

-- ---- the next spread

halves : (z : ℕ) → z ≤ 2 * (z / 2) + 1
halves z = omega arith

pub shrinks : (p : Values) (s : Spread) → Shrinks p (pos s.starts) (pos s.lengths) (pos (next_spread p s).starts) (pos (next_spread p s).lengths)
shrinks p s = record {
  starts_to = starts s.starts s.lengths (arrival_error p) (longest_micro p) (next_spread p s).starts (halves (s.starts + 6 * s.lengths + 4 * arrival_error p + 8 * longest_micro p));
  lengths_to = lengths s.lengths (lambda_of p) (next_spread p s).lengths (halves (s.lengths + lambda_of p));
} where
  starts : (a l e q n : ℕ) → a + 6 * l + 4 * e + 8 * q ≤ 2 * n + 1 → (pos a +ℤ (pos 6 *ℤ pos l) +ℤ pos (4 * e + 8 * q)) ≤ℤ ((pos 2 *ℤ pos n) +ℤ pos 1)
  starts a l e q n le = omega (arith, ints, le)

  lengths : (l lambda n : ℕ) → l + lambda ≤ 2 * n + 1 → (pos l +ℤ pos lambda) ≤ℤ ((pos 2 *ℤ pos n) +ℤ pos 1)
  lengths l lambda n le = omega (arith, ints, le)

-- ---- the peak takes in what the step asks for

pub fits : (s l q peak : ℕ) → s + 2 * l + 2 * q ≤ peak → (pos s +ℤ (pos 2 *ℤ pos l) +ℤ pos q) ≤ℤ pos peak
fits s l q peak le = omega (arith, ints, le)

pub fits_twice : (s l q peak : ℕ) → s + 2 * l + 2 * q ≤ peak → (pos s +ℤ (pos 2 *ℤ pos l) +ℤ (pos 2 *ℤ pos q)) ≤ℤ pos peak
fits_twice s l q peak le = omega (arith, ints, le)

end_fits : (s l q peak : ℕ) → s + 2 * l + 2 * q ≤ peak → (pos s +ℤ pos q) ≤ℤ pos peak
end_fits s l q peak le = omega (arith, ints, le)

-- at rest nothing changes
at_rest : (p : Values) (s : Spread) → s.starts ≡ pi_of p → s.lengths ≡ lambda_of p → (next_spread p s).starts ≡ pi_of p
at_rest p s starts lengths = rest s.starts s.lengths (lambda_of p) (arrival_error p) (longest_micro p) (pi_of p) starts lengths (omega arith)
  where
    rest : (a l lambda e q pi : ℕ) → a ≡ pi → l ≡ lambda → pi ≡ 6 * lambda + 4 * e + 8 * q → (a + 6 * l + 4 * e + 8 * q) / 2 ≡ pi
    rest a l lambda e q pi one two is = omega (arith, one, two, is)

splits : (a b : ℕ) → a ≤ b → (a < b) ⊎ (a ≡ b)
splits a b le = grind arith

-- so the starts of the next double cycle, and a microtick, lie within the peak
pub end_within : (p : Values) (start rate double peak n : ℕ) → SettlesAt p start rate double → IsPeakTo p start rate double peak → n ≤ double
    → (pos (next_spread p (spread_after p start rate n)).starts +ℤ pos (longest_micro p)) ≤ℤ pos peak
unfolding spread_after
end_within p start rate double peak n settles is_peak le = elim (splits n double le) [
  | inl less ↦ end_fits (next_spread p (spread_after p start rate n)).starts (next_spread p (spread_after p start rate n)).lengths (longest_micro p) peak (is_peak.greatest (suc n) less)
  | inr same ↦
      let Settled : ℕ → Type 0 = λ m. (spread_after p start rate m).starts ≡ pi_of p in
      let Long : ℕ → Type 0 = λ m. (spread_after p start rate m).lengths ≡ lambda_of p in
      at_end (next_spread p (spread_after p start rate n)).starts (pi_of p) (lambda_of p) (longest_micro p) peak (spread_after p start rate double).starts (spread_after p start rate double).lengths
      (at_rest p (spread_after p start rate n) (back Settled n double same settles.settled.1) (back Long n double same settles.settled.0))
      settles.settled.1 settles.settled.0 (is_peak.greatest double (omega arith))
] where
  back : (P : ℕ → Type 0) (n m : ℕ) → n ≡ m → P m → P n
  back P n m same has = rw same has

  at_end : (next pi lambda q peak s l : ℕ) → next ≡ pi → s ≡ pi → l ≡ lambda → s + 2 * l + 2 * q ≤ peak → (pos next +ℤ pos q) ≤ℤ pos peak
  at_end next pi lambda q peak s l is one two le = omega (arith, ints, is, one, two, le)

-- ---- what lies within a bound lies within a greater one

pub lie_wider : (a b : ℤ) (xs : List ℤ) → a ≤ℤ b → LieWithin a xs → LieWithin b xs
lie_wider a b xs le lie =
    All-along (λ (one : ℤ). All (λ (other : ℤ). (one -ℤ other) ≤ℤ a) xs) (λ (one : ℤ). All (λ (other : ℤ). (one -ℤ other) ≤ℤ b) xs) xs
    (λ one each. All-along (λ (other : ℤ). (one -ℤ other) ≤ℤ a) (λ (other : ℤ). (one -ℤ other) ≤ℤ b) xs (λ other within. wide (one -ℤ other) a b within le) each)
    lie
  where
    wide : (x a b : ℤ) → x ≤ℤ a → a ≤ℤ b → x ≤ℤ b
    wide x a b one two = omega (arith, ints, one, two)

pub spread_wider : (p : Values) (starts lengths more longer : ℕ) (even odd : List NodeRow) → starts ≤ more → lengths ≤ longer
    → AreSpread p (pos starts) (pos lengths) even odd → AreSpread p (pos more) (pos longer) even odd
spread_wider p starts lengths more longer even odd le less spread = record {
  starts_lie = lie_wider (pos starts) (pos more) _ (signed starts more le) spread.starts_lie;
  even_lengths = lie_wider (pos lengths) (pos longer) _ (signed lengths longer less) spread.even_lengths;
  odd_lengths = lie_wider (pos lengths) (pos longer) _ (signed lengths longer less) spread.odd_lengths;
  even_proper = spread.even_proper;
  odd_proper = spread.odd_proper;
} where
  signed : (a b : ℕ) → a ≤ b → pos a ≤ℤ pos b
  signed a b le = omega (arith, ints, le)

-- as far as is stated, and more
pub first_wide : (p : Values) (start rate : ℕ) → (start ≤ (spread_after p start rate 0).starts) × (rate ≤ (spread_after p start rate 0).lengths)
unfolding spread_after
first_wide p start rate = (le-max_left start (pi_of p), le-max_left rate (lambda_of p))
