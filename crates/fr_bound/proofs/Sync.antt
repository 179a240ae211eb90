-- The test of sync says what it should.
use Rattle.std.proofs.Common.{◌≡◌, ◌*◌, ℤ, pos, ◌-ℤ◌, ◌≤ℤ◌, Bool, true, false, ◌&&◌, List, [], ◌∷◌, All, map, refl, ap, arith}
use Rattle.std.specs.Prelude.{int_le}
use Rattle.std.specs.List.{list_all}
use Rattle.std.proofs.lemmas.Int.{ints}
use Rattle.std.proofs.lemmas.List.Elements.{All-cons, All-head, All-nil, All-tail}
use Rattle.fr_base.specs.States.{is_active}
use Rattle.fr_base.specs.declared.node_row.NodeRow.{NodeRow}
use Rattle.fr_base.specs.declared.state.State.{State}
use Rattle.fr_base.specs.declared.state.State.TheVariants.{Active, Passive, Halt}
use Rattle.fr_cluster.specs.Values.{Values, amount}
use Rattle.fr_cluster.specs.declared.names.ParamName.TheVariants as name
use Rattle.fr_bound.specs.Bounds.{lambda_of, longest_micro, pi_of, shortest_micro}
use Rattle.fr_bound.specs.Sync.{IsInSync, IsCycleLength, cycle_length_of, has_synced_rates, is_in_sync, is_proper_length, lie_within}
use Rattle.fr_base.specs.Within.{LieWithin}

and_left : (a b : Bool) → (a && b) ≡ true → a ≡ true
and_left true b is = refl
and_left false b is = is

and_right : (a b : Bool) → (a && b) ≡ true → b ≡ true
and_right true b is = is
and_right false b is = absurd (cc)

and_both : (a b : Bool) → a ≡ true → b ≡ true → (a && b) ≡ true
and_both true b first second = second
and_both false b first second = first

-- a test of every element says a fact of every element
all_from_test : {A : Type 0} (test : A → Bool) (P : A → Type 0) → ((x : A) → test x ≡ true → P x) → (xs : List A) → list_all test xs ≡ true → All P xs
all_from_test test P says [] is = All-nil P
all_from_test test P says (x ∷ xs) is = All-cons P x xs (says x (and_left (test x) (list_all test xs) is)) (all_from_test test P says xs (and_right (test x) (list_all test xs) is))

test_from_all : {A : Type 0} (test : A → Bool) (P : A → Type 0) → ((x : A) → P x → test x ≡ true) → (xs : List A) → All P xs → list_all test xs ≡ true
test_from_all test P passes [] is = refl
test_from_all test P passes (x ∷ xs) is = and_both (test x) (list_all test xs) (passes x (All-head P x xs is)) (test_from_all test P passes xs (All-tail P x xs is))

active_from : (state : State) → is_active state ≡ true → state ≡ Active
active_from Active is = refl
active_from Passive is = absurd (cc)
active_from Halt is = absurd (cc)

to_active : (state : State) → state ≡ Active → is_active state ≡ true
to_active state is = ap is_active is

from_le : (a b : ℤ) → int_le a b ≡ true → a ≤ℤ b
from_le a b is = grind (arith, ints)

to_le : (a b : ℤ) → a ≤ℤ b → int_le a b ≡ true
to_le a b is = grind (arith, ints)

pub within_from : (bound : ℤ) (xs : List ℤ) → lie_within bound xs ≡ true → LieWithin bound xs
within_from bound xs is =
    all_from_test (λ a. list_all (λ b. int_le (a -ℤ b) bound) xs) (λ a. All (λ b. (a -ℤ b) ≤ℤ bound) xs)
    (λ a each. all_from_test (λ b. int_le (a -ℤ b) bound) (λ b. (a -ℤ b) ≤ℤ bound) (λ b le. from_le (a -ℤ b) bound le) xs each) xs is

pub to_within : (bound : ℤ) (xs : List ℤ) → LieWithin bound xs → lie_within bound xs ≡ true
to_within bound xs is =
    test_from_all (λ a. list_all (λ b. int_le (a -ℤ b) bound) xs) (λ a. All (λ b. (a -ℤ b) ≤ℤ bound) xs)
    (λ a each. test_from_all (λ b. int_le (a -ℤ b) bound) (λ b. (a -ℤ b) ≤ℤ bound) (λ b le. to_le (a -ℤ b) bound le) xs each) xs is

proper_from : (p : Values) (long : ℤ) → is_proper_length p long ≡ true → IsCycleLength p long
proper_from p long is =
    let low : ℤ = pos (amount p name.pMicroPerCycle * shortest_micro p) in
    let high : ℤ = pos (amount p name.pMicroPerCycle * longest_micro p) in
    (from_le low long (and_left (int_le low long) (int_le long high) is), from_le long high (and_right (int_le low long) (int_le long high) is))

to_proper : (p : Values) (long : ℤ) → IsCycleLength p long → is_proper_length p long ≡ true
to_proper p long is =
    let low : ℤ = pos (amount p name.pMicroPerCycle * shortest_micro p) in
    let high : ℤ = pos (amount p name.pMicroPerCycle * longest_micro p) in
    and_both (int_le low long) (int_le long high) (to_le low long is.0) (to_le long high is.1)

-- the facts of one cycle
record HasSyncedRates (p : Values) (rows : List NodeRow) : Type 0 where
  active : All (λ row. row.state ≡ Active) rows
  lengths : LieWithin (pos (lambda_of p)) (map (cycle_length_of p) rows)
  proper : All (λ row. IsCycleLength p (cycle_length_of p row)) rows

rates_from : (p : Values) (rows : List NodeRow) → has_synced_rates p rows ≡ true → HasSyncedRates p rows
rates_from p rows is =
    let actives : Bool = list_all (λ (row : NodeRow). is_active row.state) rows in
    let close : Bool = lie_within (pos (lambda_of p)) (map (cycle_length_of p) rows) in
    let propers : Bool = list_all (λ (row : NodeRow). is_proper_length p (cycle_length_of p row)) rows in
    let two : (actives && close) ≡ true = and_left (actives && close) propers is in
    record {
      active = all_from_test (λ (row : NodeRow). is_active row.state) (λ row. row.state ≡ Active) (λ row. active_from row.state) rows (and_left actives close two);
      lengths = within_from (pos (lambda_of p)) (map (cycle_length_of p) rows) (and_right actives close two);
      proper = all_from_test (λ (row : NodeRow). is_proper_length p (cycle_length_of p row)) (λ row. IsCycleLength p (cycle_length_of p row)) (λ row. proper_from p (cycle_length_of p row)) rows (and_right (actives && close) propers is);
    }

to_rates : (p : Values) (rows : List NodeRow) → HasSyncedRates p rows → has_synced_rates p rows ≡ true
to_rates p rows is =
    let actives : Bool = list_all (λ (row : NodeRow). is_active row.state) rows in
    let close : Bool = lie_within (pos (lambda_of p)) (map (cycle_length_of p) rows) in
    let propers : Bool = list_all (λ (row : NodeRow). is_proper_length p (cycle_length_of p row)) rows in
    and_both (actives && close) propers
    (and_both actives close (test_from_all (λ (row : NodeRow). is_active row.state) (λ row. row.state ≡ Active) (λ row. to_active row.state) rows is.active)
    (to_within (pos (lambda_of p)) (map (cycle_length_of p) rows) is.lengths))
    (test_from_all (λ (row : NodeRow). is_proper_length p (cycle_length_of p row)) (λ row. IsCycleLength p (cycle_length_of p row)) (λ row. to_proper p (cycle_length_of p row)) rows is.proper)

pub in_sync_from : (p : Values) (even odd : List NodeRow) → is_in_sync p even odd ≡ true → IsInSync p even odd
unfolding is_in_sync
in_sync_from p even odd is =
    let first : Bool = has_synced_rates p even in
    let second : Bool = has_synced_rates p odd in
    let close : Bool = lie_within (pos (pi_of p)) (map (λ (row : NodeRow). row.start) even) in
    let two : (first && second) ≡ true = and_left (first && second) close is in
    let one : HasSyncedRates p even = rates_from p even (and_left first second two) in
    let other : HasSyncedRates p odd = rates_from p odd (and_right first second two) in
    record {
      active_even = one.active;
      active_odd = other.active;
      starts = within_from (pos (pi_of p)) (map (λ (row : NodeRow). row.start) even) (and_right (first && second) close is);
      even_lengths = one.lengths;
      odd_lengths = other.lengths;
      even_proper = one.proper;
      odd_proper = other.proper;
    }

pub to_in_sync : (p : Values) (even odd : List NodeRow) → IsInSync p even odd → is_in_sync p even odd ≡ true
unfolding is_in_sync
to_in_sync p even odd is =
    and_both (has_synced_rates p even && has_synced_rates p odd) (lie_within (pos (pi_of p)) (map (λ (row : NodeRow). row.start) even))
    (and_both (has_synced_rates p even) (has_synced_rates p odd)
    (to_rates p even (record { active = is.active_even; lengths = is.even_lengths; proper = is.even_proper }))
    (to_rates p odd (record { active = is.active_odd; lengths = is.odd_lengths; proper = is.odd_proper })))
    (to_within (pos (pi_of p)) (map (λ (row : NodeRow). row.start) even) is.starts)
