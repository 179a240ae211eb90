-- The sharper bounds and checks of nodes that join.
use Rattle.std.proofs.Common.{◌≡◌, ℕ, zero, suc, ◌+◌, ◌-◌, ◌*◌, ◌/◌, ◌≤◌, ◌<◌, Bool, true, false, pos, refl, ap, arith}
use Rattle.std.specs.Prelude.{◌+ℤ◌, ◌≤ℤ◌, nat_le, nat_lt}
use Rattle.std.proofs.lemmas.Bool.Decides.{nat_tests}
use Rattle.std.proofs.lemmas.Int.{ints}
use Rattle.std.proofs.Math.Nat.{div-mul-le_self, le-div_iff_mul-le, le-max_left, le-max_right, mul-le-mul_left}
use Rattle.fr_cluster.specs.Values.{Values, amount}
use Rattle.fr_cluster.specs.Sane.{IsSane}
use Rattle.fr_cluster.specs.declared.names.ParamName.TheVariants as name
use Rattle.fr_bound.specs.Bounds.{arrival_error, cycle_change, lambda_of, longest_micro, nominal, pi_of, reach_of, widest}
use Rattle.fr_bound.specs.Checks.{back_need_of, front_need_of, left_of, right_of}
use Rattle.fr_precision.proofs.Figures.{nat_le-true}
use Rattle.fr_bound.specs.SharpBounds.{last_action, near_by, odd_spread, precision_by, sharp_lambda, sharp_near, sharp_pi, steady_error, wide_change}
use Rattle.fr_bound.specs.SharpChecks.{SharpChecksHold}
use Rattle.fr_precision.specs.declared.kinds.Kinds.{Kinds}
use Rattle.fr_precision.specs.Among.{both, kinds_spread, spread_through_losses, GoesTo}
use Rattle.fr_promise.specs.SharpJoining.{all_heard, counted_error, first_apart_by, first_lengths_by, group_spread_through, second_apart_by, sharp_first_apart, sharp_first_lengths, sharp_join_right_of, sharp_reach, sharp_second_apart, FollowersComeNearer, GroupSpreadsGo, NextGroupSpreadGoes, OlderJoinChecksSuffice, SharpGroupSpreadGoes, SharpJoinChecksHold, SharpJoinChecksSuffice}
use Rattle.fr_precision.proofs.BoundLemmas.{near_is_below, sharp_checks_suffice_lem, sharp_is_below, wide_le}
use Rattle.fr_promise.proofs.HeardNumbers.{goes_by}
use Rattle.fr_precision.proofs.StepLemmas.{sharp_sync_draws}

at_most : (a b c : ℕ) → a ≤ b → b ≤ c → a ≤ c
at_most a b c h k = omega arith

-- ---- a node that follows comes nearer

share_grows : (a b k : ℕ) → 0 < k → a ≤ b → a / k ≤ b / k
share_grows a b k some le = (le-div_iff_mul-le some).1 (at_most (a / k * k) a b (div-mul-le_self a k) le)

-- greater numbers, greater reach
pub near_grows : (p : Values) (starts lengths more_starts more_lengths : ℕ) → IsSane p → starts ≤ more_starts → lengths ≤ more_lengths → near_by p starts lengths ≤ near_by p more_starts more_lengths
near_grows p starts lengths more_starts more_lengths sane a b =
    let range = sane.ranges name.gMacroPerCycle in
    let macros = amount p name.gMacroPerCycle in
    let odd : odd_spread p lengths ≤ odd_spread p more_lengths = wider lengths more_lengths (2 * cycle_change p) b in
    let share : last_action p * odd_spread p lengths / macros ≤ last_action p * odd_spread p more_lengths / macros =
    share_grows (last_action p * odd_spread p lengths) (last_action p * odd_spread p more_lengths) macros (omega (arith, ints, range.0)) (mul-le-mul_left (last_action p) odd) in
    sum starts lengths more_starts more_lengths (last_action p * odd_spread p lengths / macros) (last_action p * odd_spread p more_lengths / macros) (longest_micro p) a b share
  where
    wider : (a b c : ℕ) → a ≤ b → a + c ≤ b + c
    wider a b c le = omega (arith, le)

    sum : (s l s' l' f f' q : ℕ) → s ≤ s' → l ≤ l' → f ≤ f' → s + l + f + q ≤ s' + l' + f' + q
    sum s l s' l' f f' q a b c = omega (arith, a, b, c)

second_alone : (t q c j e k l pi first apart : ℕ) → l ≡ 2 * k + q + 2 * c + 2 * j → pi ≡ (l + 2 * j) + 2 * e + 3 * q → first ≡ l + 2 * k + c + 4 * j
    → apart ≡ pi + 2 * l + 4 * j + 2 * e + t + 4 * q → (first + 2 * j) + 2 * e + 3 * q ≤ apart
second_alone t q c j e k l pi first apart a b d f = omega arith

second_beside : (t q c j e k l pi first apart half : ℕ) → l ≡ 4 * k + 2 * q + 4 * c + 4 * j → pi ≡ 3 * l + 4 * j + 4 * e + 7 * q → first ≡ l + 2 * k + c + 4 * j
    → apart ≡ pi + 2 * l + 4 * j + 2 * e + t + 4 * q → half ≡ (pi + l + 2 * (first + 2 * j) + 4 * e + 7 * q) / 2 → half ≤ apart
second_beside t q c j e k l pi first apart half a b d f is = omega arith

pub second_nearer : (beside : Bool) (p : Values) (flutter : ℕ) → sharp_second_apart beside p flutter ≤ sharp_first_apart beside p flutter
second_nearer false p flutter =
    second_alone flutter (longest_micro p) (amount p name.pClusterDriftDamping * longest_micro p) (cycle_change p) (arrival_error p) (steady_error p flutter) (sharp_lambda false p flutter) (sharp_pi false p flutter)
    (sharp_first_lengths false p flutter) (sharp_first_apart false p flutter) refl refl refl refl
second_nearer true p flutter =
    second_beside flutter (longest_micro p) (amount p name.pClusterDriftDamping * longest_micro p) (cycle_change p) (arrival_error p) (steady_error p flutter) (sharp_lambda true p flutter) (sharp_pi true p flutter)
    (sharp_first_lengths true p flutter) (sharp_first_apart true p flutter) (sharp_second_apart true p flutter) refl refl refl refl refl

pub lengths_nearer : (beside : Bool) (p : Values) (flutter : ℕ) → sharp_lambda beside p flutter ≤ sharp_first_lengths beside p flutter
lengths_nearer beside p flutter = step (sharp_lambda beside p flutter) (steady_error p flutter) (amount p name.pClusterDriftDamping * longest_micro p) (cycle_change p)
  where
    step : (l k c j : ℕ) → l ≤ l + 2 * k + c + 4 * j
    step l k c j = omega arith

pub starts_nearer : (beside : Bool) (p : Values) (flutter : ℕ) → sharp_pi beside p flutter ≤ sharp_first_apart beside p flutter
starts_nearer beside p flutter = step (sharp_pi beside p flutter) (sharp_lambda beside p flutter) (cycle_change p) (arrival_error p) flutter (longest_micro p)
  where
    step : (pi l j e t q : ℕ) → pi ≤ pi + 2 * l + 4 * j + 2 * e + t + 4 * q
    step pi l j e t q = omega arith

pub followers_come_nearer_lem : FollowersComeNearer
followers_come_nearer_lem beside p flutter sane = (
  lengths_nearer beside p flutter,
  second_nearer beside p flutter,
  near_grows p (sharp_second_apart beside p flutter) (sharp_lambda beside p flutter) (sharp_first_apart beside p flutter) (sharp_first_lengths beside p flutter) sane (second_nearer beside p flutter) (lengths_nearer beside p flutter),
  near_grows p (sharp_pi beside p flutter) (sharp_lambda beside p flutter) (sharp_first_apart beside p flutter) (sharp_first_lengths beside p flutter) sane (starts_nearer beside p flutter) (lengths_nearer beside p flutter),
)

-- ---- the bounds of a double cycle go on

itself : (n : ℕ) → n ≤ n
itself n = omega arith

pub next_group_spread_goes : NextGroupSpreadGoes
next_group_spread_goes what p flutter s wide = (
  record {
    rows = goes_by what p flutter s.rows;
    wide = wide;
    seconds = itself (second_apart_by what.offsets p s.rows.starts s.rows.lengths s.firsts.lengths);
    first_starts = itself (first_apart_by p flutter s.rows.starts s.rows.lengths);
    first_lengths = le-max_left (first_lengths_by p flutter s.rows.lengths) (kinds_spread what p flutter s.rows).lengths;
  },
  le-max_right (first_lengths_by p flutter s.rows.lengths) (kinds_spread what p flutter s.rows).lengths,
)

stays : (beside : Bool) (p : Values) (flutter : ℕ)
    → GoesTo (both (all_heard beside)) p flutter (sharp_pi beside p flutter) (sharp_lambda beside p flutter) (sharp_pi beside p flutter) (sharp_lambda beside p flutter)
stays false p flutter = sharp_sync_draws false p flutter
stays true p flutter = sharp_sync_draws true p flutter

pub sharp_group_spread_goes : SharpGroupSpreadGoes
sharp_group_spread_goes beside p flutter = record {
  rows = stays beside p flutter;
  wide = lengths_nearer beside p flutter;
  seconds = itself (sharp_second_apart beside p flutter);
  first_starts = itself (sharp_first_apart beside p flutter);
  first_lengths = itself (sharp_first_lengths beside p flutter);
}

stays_wide : (beside : Bool) (p : Values) (flutter : ℕ) (what : ℕ → Kinds) (k : ℕ) → (group_spread_through beside p flutter what k).rows.lengths ≤ (group_spread_through beside p flutter what k).firsts.lengths
unfolding group_spread_through
stays_wide beside p flutter what zero = lengths_nearer beside p flutter
stays_wide beside p flutter what (suc k) = (next_group_spread_goes (what k) p flutter (group_spread_through beside p flutter what k) (stays_wide beside p flutter what k)).1

rows_through : (beside : Bool) (p : Values) (flutter : ℕ) (what : ℕ → Kinds) (k : ℕ) → (group_spread_through beside p flutter what k).rows ≡ spread_through_losses beside p flutter what k
unfolding group_spread_through spread_through_losses
rows_through beside p flutter what zero = refl
rows_through beside p flutter what (suc k) = ap (kinds_spread (what k) p flutter) (rows_through beside p flutter what k)

pub group_spreads_go : GroupSpreadsGo
unfolding group_spread_through
group_spreads_go beside p flutter what k = (
  (next_group_spread_goes (what k) p flutter (group_spread_through beside p flutter what k) (stays_wide beside p flutter what k)).0,
  rows_through beside p flutter what k,
)

-- ---- the checks

nat_le-yes : (a b : ℕ) → a ≤ b → nat_le a b ≡ true
nat_le-yes a b le = grind (arith, nat_tests)

nat_lt-yes : (a b : ℕ) → a < b → nat_lt a b ≡ true
nat_lt-yes a b less = grind (arith, nat_tests)

nat_lt-true : (a b : ℕ) → nat_lt a b ≡ true → a < b
nat_lt-true a b h = grind (arith, nat_tests)

below : (a b c : ℕ) → a ≤ b → b < c → a < c
below a b c h k = omega arith

limit_step : (a b e q left : ℕ) → a ≤ b → b + e + q ≤ left → a + e + q ≤ left
limit_step a b e q left h k = omega arith

front_step : (p : Values) (a b : ℕ) → a ≤ b → front_need_of p a ≤ front_need_of p b
front_step p a b le = mul-le-mul_left (amount p name.gMacroPerCycle) (more a b (amount p name.xDelayError) le)
  where
    more : (a b c : ℕ) → a ≤ b → a + c ≤ b + c
    more a b c h = omega arith

back_step : (p : Values) (a b : ℕ) → a ≤ b → back_need_of p a ≤ back_need_of p b
back_step p a b le = mul-le-mul_left (amount p name.gMacroPerCycle) (more a b (widest p * nominal) (amount p name.xDelayError) le)
  where
    more : (a b c d : ℕ) → a ≤ b → a + c + d ≤ b + c + d
    more a b c d h = omega arith

-- the sixth check, and those of the reach, as checks of the clusters with that reach
second_of : (beside : Bool) (p : Values) (flutter : ℕ) → SharpJoinChecksHold beside flutter p → right_of 2 p + counted_error p flutter ≤ left_of 2 p
second_of beside p flutter checks = nat_le-true (right_of 2 p + counted_error p flutter) (left_of 2 p) (checks 6 (omega arith) (omega arith))

pub in_reach_hold : (beside : Bool) (p : Values) (flutter : ℕ) → SharpJoinChecksHold beside flutter p → SharpChecksHold flutter (sharp_reach beside p flutter) p
in_reach_hold beside p flutter checks zero from to = absurd (omega (arith, from))
in_reach_hold beside p flutter checks (suc zero) from to = absurd (omega (arith, from))
in_reach_hold beside p flutter checks (suc (suc zero)) from to = nat_le-yes (right_of 2 p) (left_of 2 p) (less (right_of 2 p) (counted_error p flutter) (left_of 2 p) (second_of beside p flutter checks))
  where
    less : (a b c : ℕ) → a + b ≤ c → a ≤ c
    less a b c h = omega arith
in_reach_hold beside p flutter checks (suc (suc (suc zero))) from to = checks 7 (omega arith) (omega arith)
in_reach_hold beside p flutter checks (suc (suc (suc (suc zero)))) from to = checks 8 (omega arith) (omega arith)
in_reach_hold beside p flutter checks (suc (suc (suc (suc (suc zero))))) from to = checks 9 (omega arith) (omega arith)
in_reach_hold beside p flutter checks (suc (suc (suc (suc (suc (suc k)))))) from to = absurd (omega (arith, to))

-- with a smaller reach they hold as well
pub narrower_hold : (p : Values) (flutter reach more : ℕ) → reach ≤ more → SharpChecksHold flutter more p → SharpChecksHold flutter reach p
narrower_hold p flutter reach more le checks zero from to = absurd (omega (arith, from))
narrower_hold p flutter reach more le checks (suc zero) from to = absurd (omega (arith, from))
narrower_hold p flutter reach more le checks (suc (suc zero)) from to = checks 2 (omega arith) (omega arith)
narrower_hold p flutter reach more le checks (suc (suc (suc zero))) from to =
    nat_le-yes (reach + arrival_error p + longest_micro p) (left_of 3 p)
    (limit_step reach more (arrival_error p) (longest_micro p) (left_of 3 p) le (nat_le-true (more + arrival_error p + longest_micro p) (left_of 3 p) (checks 3 (omega arith) (omega arith))))
narrower_hold p flutter reach more le checks (suc (suc (suc (suc zero)))) from to =
    nat_le-yes (front_need_of p reach) (left_of 4 p)
    (at_most (front_need_of p reach) (front_need_of p more) (left_of 4 p) (front_step p reach more le) (nat_le-true (front_need_of p more) (left_of 4 p) (checks 4 (omega arith) (omega arith))))
narrower_hold p flutter reach more le checks (suc (suc (suc (suc (suc zero))))) from to =
    nat_lt-yes (back_need_of p reach) (left_of 5 p)
    (below (back_need_of p reach) (back_need_of p more) (left_of 5 p) (back_step p reach more le) (nat_lt-true (back_need_of p more) (left_of 5 p) (checks 5 (omega arith) (omega arith))))
narrower_hold p flutter reach more le checks (suc (suc (suc (suc (suc (suc k)))))) from to = absurd (omega (arith, to))

pub sharp_join_checks_suffice_lem : SharpJoinChecksSuffice
sharp_join_checks_suffice_lem beside p flutter sane checks =
    let reach = sharp_reach beside p flutter in
    let hold = in_reach_hold beside p flutter checks in
    let suffice = sharp_checks_suffice_lem p flutter reach sane hold in (
      suffice.0,
      suffice.1,
      rate (right_of 2 p) (counted_error p flutter) (left_of 2 p) (second_of beside p flutter checks),
      hold,
      narrower_hold p flutter (sharp_near beside p flutter) reach (followers_come_nearer_lem beside p flutter sane).3 hold,
    )
  where
    rate : (a b c : ℕ) → a + b ≤ c → (pos a +ℤ (pos 0 +ℤ pos b)) ≤ℤ pos c
    rate a b c le = omega (arith, ints, le)

-- ---- against the older checks

reach_alone : (t q w c j e k l pi old_l old_pi first apart old : ℕ) → t ≤ 2 * e → w ≤ 2 * j → k ≡ t + (q - 1) + w → l ≡ 2 * k + q + 2 * c + 2 * j → first ≡ l + 2 * k + c + 4 * j
    → apart ≡ pi + 2 * l + 4 * j + 2 * e + t + 4 * q → l ≤ old_l → pi ≤ old_pi → old_l ≡ 4 * (2 * e + 2 * q + 3 * j) + 2 * q + 4 * c + 8 * j
    → old ≡ old_pi + 8 * old_l + 4 * ((2 * e + 2 * q + 3 * j) + 4 * j) + 4 * e + 8 * q → apart + first + (first + 2 * j) + 2 * q ≤ old
reach_alone t q w c j e k l pi old_l old_pi first apart old a b d f g h i m n o = omega arith

reach_beside : (t q w c j e k l pi old_l old_pi first apart old : ℕ) → t ≤ 2 * e → w ≤ 2 * j → k ≡ t + (q - 1) + w → l ≡ 4 * k + 2 * q + 4 * c + 4 * j → first ≡ l + 2 * k + c + 4 * j
    → apart ≡ pi + 2 * l + 4 * j + 2 * e + t + 4 * q → l ≤ old_l → pi ≤ old_pi → old_l ≡ 4 * (2 * e + 2 * q + 3 * j) + 2 * q + 4 * c + 8 * j
    → old ≡ old_pi + 8 * old_l + 4 * ((2 * e + 2 * q + 3 * j) + 4 * j) + 4 * e + 8 * q → apart + first + (first + 2 * j) + 2 * q ≤ old
reach_beside t q w c j e k l pi old_l old_pi first apart old a b d f g h i m n o = omega arith

reach_by : (beside : Bool) (p : Values) (flutter : ℕ) → IsSane p → flutter ≤ 2 * arrival_error p → precision_by p (sharp_first_apart beside p flutter) (sharp_first_lengths beside p flutter) ≤ reach_of p
reach_by false p flutter sane le =
    let less = sharp_is_below false p flutter sane le in
    reach_alone flutter (longest_micro p) (wide_change p) (amount p name.pClusterDriftDamping * longest_micro p) (cycle_change p) (arrival_error p) (steady_error p flutter) (sharp_lambda false p flutter) (sharp_pi false p flutter)
    (lambda_of p) (pi_of p) (sharp_first_lengths false p flutter) (sharp_first_apart false p flutter) (reach_of p) le (wide_le p sane) refl refl refl refl less.0 less.1 refl refl
reach_by true p flutter sane le =
    let less = sharp_is_below true p flutter sane le in
    reach_beside flutter (longest_micro p) (wide_change p) (amount p name.pClusterDriftDamping * longest_micro p) (cycle_change p) (arrival_error p) (steady_error p flutter) (sharp_lambda true p flutter) (sharp_pi true p flutter)
    (lambda_of p) (pi_of p) (sharp_first_lengths true p flutter) (sharp_first_apart true p flutter) (reach_of p) le (wide_le p sane) refl refl refl refl less.0 less.1 refl refl

reach_to : (beside : Bool) (p : Values) (flutter : ℕ) → IsSane p → flutter ≤ 2 * arrival_error p → sharp_reach beside p flutter ≤ reach_of p
reach_to beside p flutter sane le =
    at_most (sharp_reach beside p flutter) (precision_by p (sharp_first_apart beside p flutter) (sharp_first_lengths beside p flutter)) (reach_of p)
    (near_is_below p (sharp_first_apart beside p flutter) (sharp_first_lengths beside p flutter) sane) (reach_by beside p flutter sane le)

pub older_join_checks_suffice : OlderJoinChecksSuffice
older_join_checks_suffice beside p flutter (suc (suc (suc (suc (suc (suc zero)))))) sane le from to holds =
    nat_le-yes (sharp_join_right_of 6 beside flutter p) (left_of 6 p)
    (step flutter (cycle_change p) (longest_micro p) (arrival_error p) (right_of 2 p) (left_of 6 p) le (nat_le-true (right_of 6 p) (left_of 6 p) holds))
  where
    step : (t j q e r left : ℕ) → t ≤ 2 * e → r + ((2 * e + 2 * q + 3 * j) + 4 * j) ≤ left → r + (t + j + q) ≤ left
    step t j q e r left a b = omega arith
older_join_checks_suffice beside p flutter (suc (suc (suc (suc (suc (suc (suc zero))))))) sane le from to holds =
    nat_le-yes (sharp_reach beside p flutter + arrival_error p + longest_micro p) (left_of 3 p)
    (limit_step (sharp_reach beside p flutter) (reach_of p) (arrival_error p) (longest_micro p) (left_of 3 p) (reach_to beside p flutter sane le) (nat_le-true (right_of 7 p) (left_of 7 p) holds))
older_join_checks_suffice beside p flutter (suc (suc (suc (suc (suc (suc (suc (suc zero)))))))) sane le from to holds =
    nat_le-yes (front_need_of p (sharp_reach beside p flutter)) (left_of 4 p)
    (at_most (front_need_of p (sharp_reach beside p flutter)) (front_need_of p (reach_of p)) (left_of 4 p) (front_step p (sharp_reach beside p flutter) (reach_of p) (reach_to beside p flutter sane le)) (nat_le-true (right_of 8 p) (left_of 8 p) holds))
older_join_checks_suffice beside p flutter (suc (suc (suc (suc (suc (suc (suc (suc (suc zero))))))))) sane le from to holds =
    nat_lt-yes (back_need_of p (sharp_reach beside p flutter)) (left_of 5 p)
    (below (back_need_of p (sharp_reach beside p flutter)) (back_need_of p (reach_of p)) (left_of 5 p) (back_step p (sharp_reach beside p flutter) (reach_of p) (reach_to beside p flutter sane le)) (nat_lt-true (right_of 9 p) (left_of 9 p) holds))
older_join_checks_suffice beside p flutter zero sane le from to holds = absurd (omega (arith, from))
older_join_checks_suffice beside p flutter (suc zero) sane le from to holds = absurd (omega (arith, from))
older_join_checks_suffice beside p flutter (suc (suc zero)) sane le from to holds = absurd (omega (arith, from))
older_join_checks_suffice beside p flutter (suc (suc (suc zero))) sane le from to holds = absurd (omega (arith, from))
older_join_checks_suffice beside p flutter (suc (suc (suc (suc zero)))) sane le from to holds = absurd (omega (arith, from))
older_join_checks_suffice beside p flutter (suc (suc (suc (suc (suc zero))))) sane le from to holds = absurd (omega (arith, from))
older_join_checks_suffice beside p flutter (suc (suc (suc (suc (suc (suc (suc (suc (suc (suc k)))))))))) sane le from to holds = absurd (omega (arith, to))
