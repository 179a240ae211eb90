-- The test of sharp sync says what it should.
use Rattle.std.proofs.Common.{◌≡◌, ℕ, ℤ, pos, ◌+ℤ◌, ◌-ℤ◌, ◌≤ℤ◌, Bool, true, ◌&&◌, List, [], ◌∷◌, All, map, refl, ap, arith}
use Rattle.std.specs.Prelude.{int_le}
use Rattle.std.specs.List.{list_all}
use Rattle.std.proofs.lemmas.Bool.{and_from, and_parts}
use Rattle.std.proofs.lemmas.Int.{ints}
use Rattle.std.proofs.lemmas.List.Elements.{All-cons, All-head, All-nil, All-tail}
use Rattle.fr_base.specs.States.{is_active}
use Rattle.fr_base.specs.Within.{LieWithin}
use Rattle.fr_base.specs.declared.node_row.NodeRow.{NodeRow}
use Rattle.fr_base.specs.declared.state.State.{State}
use Rattle.fr_base.specs.declared.state.State.TheVariants.{Active, Passive, Halt}
use Rattle.fr_cluster.specs.Values.{Values}
use Rattle.fr_bound.specs.Sync.{cycle_length_of}
use Rattle.fr_precision.specs.Rows.{longest_cycle, shortest_cycle}
use Rattle.fr_skew.specs.Spreads.{spread_of}
use Rattle.fr_skew.specs.Sync.{are_in_sync_by_even, are_synced, cycle_length_by, is_synced_row}
use Rattle.fr_skew.specs.declared.sync.SyncBounds.{SyncBounds}
use Rattle.fr_skew.proofs.Differences.{spread_from, within_by_spread}
use Rattle.fr_precision.specs.Lengths.{IsAboutCycle}
use Rattle.fr_bound.specs.SharpBounds.{sharp_lambda, sharp_pi}
use Rattle.fr_precision.specs.SharpStep.{IsInSharpSync}
use Rattle.fr_promise.specs.SharpTested.{is_in_sharp_sync, sharp_sync_bounds_of}

-- a test of every row says a fact of every row
all_from_test : (test : NodeRow → Bool) (P : NodeRow → Type 0) → ((row : NodeRow) → test row ≡ true → P row) → (rows : List NodeRow) → list_all test rows ≡ true → All P rows
all_from_test test P says [] is = All-nil P
all_from_test test P says (row ∷ rows) is =
    let parts = and_parts (test row) (list_all test rows) is in
    All-cons P row rows (says row parts.0) (all_from_test test P says rows parts.1)

test_from_all : (test : NodeRow → Bool) (P : NodeRow → Type 0) → ((row : NodeRow) → P row → test row ≡ true) → (rows : List NodeRow) → All P rows → list_all test rows ≡ true
test_from_all test P passes [] is = refl
test_from_all test P passes (row ∷ rows) is = and_from (test row) (list_all test rows) (passes row (All-head P row rows is)) (test_from_all test P passes rows (All-tail P row rows is))

active_from : (state : State) → is_active state ≡ true → state ≡ Active
active_from Active is = refl
active_from Passive is = absurd (cc)
active_from Halt is = absurd (cc)

from_le : (a b : ℤ) → int_le a b ≡ true → a ≤ℤ b
from_le a b is = grind (arith, ints)

to_le : (a b : ℤ) → a ≤ℤ b → int_le a b ≡ true
to_le a b is = grind (arith, ints)

-- a range widened by nothing
about_from : (least greatest long : ℤ) → least ≤ℤ long → long ≤ℤ greatest → ((least -ℤ pos 0) ≤ℤ long) × (long ≤ℤ (greatest +ℤ pos 0))
about_from least greatest long low high = (omega (arith, ints), omega (arith, ints))

about_low : (least long : ℤ) → (least -ℤ pos 0) ≤ℤ long → least ≤ℤ long
about_low least long low = omega (arith, ints)

about_high : (greatest long : ℤ) → long ≤ℤ (greatest +ℤ pos 0) → long ≤ℤ greatest
about_high greatest long high = omega (arith, ints)

-- ---- the even cycle

-- the facts of an even cycle
record HasSharpRates (p : Values) (lambda : ℕ) (rows : List NodeRow) : Type 0 where
  active : All (λ row. row.state ≡ Active) rows
  lengths : LieWithin (pos lambda) (map (cycle_length_of p) rows)
  about : All (λ row. IsAboutCycle p (pos 0) (cycle_length_of p row)) rows

-- whether a length is proper
is_proper : SyncBounds → NodeRow → Bool
is_proper bounds row = int_le bounds.shortest (cycle_length_by bounds row) && int_le (cycle_length_by bounds row) bounds.longest

row_active : (bounds : SyncBounds) (row : NodeRow) → is_synced_row bounds row ≡ true → row.state ≡ Active
unfolding is_proper
row_active bounds row is = active_from row.state (and_parts (is_active row.state) (is_proper bounds row) is).0

row_about : (beside : Bool) (p : Values) (flutter : ℕ) (row : NodeRow) → is_synced_row (sharp_sync_bounds_of beside p flutter) row ≡ true → IsAboutCycle p (pos 0) (cycle_length_of p row)
unfolding is_proper
row_about beside p flutter row is =
    let long : ℤ = cycle_length_of p row in
    let least : ℤ = pos (shortest_cycle p) in
    let greatest : ℤ = pos (longest_cycle p) in
    let proper = and_parts (is_active row.state) (is_proper (sharp_sync_bounds_of beside p flutter) row) is in
    let sides = and_parts (int_le least long) (int_le long greatest) proper.1 in
    let both = about_from least greatest long (from_le least long sides.0) (from_le long greatest sides.1) in
    record { low = both.0; high = both.1 }

to_row : (beside : Bool) (p : Values) (flutter : ℕ) (row : NodeRow) → row.state ≡ Active → IsAboutCycle p (pos 0) (cycle_length_of p row) → is_synced_row (sharp_sync_bounds_of beside p flutter) row ≡ true
unfolding is_proper
to_row beside p flutter row active about =
    let long : ℤ = cycle_length_of p row in
    let least : ℤ = pos (shortest_cycle p) in
    let greatest : ℤ = pos (longest_cycle p) in
    and_from (is_active row.state) (is_proper (sharp_sync_bounds_of beside p flutter) row) (ap is_active active)
    (and_from (int_le least long) (int_le long greatest) (to_le least long (about_low least long about.low)) (to_le long greatest (about_high greatest long about.high)))

rates_from : (beside : Bool) (p : Values) (flutter : ℕ) (rows : List NodeRow) → are_synced (sharp_sync_bounds_of beside p flutter) rows ≡ true → HasSharpRates p (sharp_lambda beside p flutter) rows
rates_from beside p flutter rows is =
    let bounds : SyncBounds = sharp_sync_bounds_of beside p flutter in
    let lambda : ℤ = pos (sharp_lambda beside p flutter) in
    let lengths : List ℤ = map (cycle_length_of p) rows in
    let parts = and_parts (list_all (is_synced_row bounds) rows) (int_le (spread_of lengths) lambda) is in
    record {
      active = all_from_test (is_synced_row bounds) (λ row. row.state ≡ Active) (row_active bounds) rows parts.0;
      lengths = within_by_spread lambda lengths (from_le (spread_of lengths) lambda parts.1);
      about = all_from_test (is_synced_row bounds) (λ row. IsAboutCycle p (pos 0) (cycle_length_of p row)) (row_about beside p flutter) rows parts.0;
    }

-- each row passes where two facts hold of each
rows_pass : (beside : Bool) (p : Values) (flutter : ℕ) (rows : List NodeRow) → All (λ row. row.state ≡ Active) rows → All (λ row. IsAboutCycle p (pos 0) (cycle_length_of p row)) rows
    → list_all (is_synced_row (sharp_sync_bounds_of beside p flutter)) rows ≡ true
rows_pass beside p flutter [] active about = refl
rows_pass beside p flutter (row ∷ rows) active about =
    let bounds : SyncBounds = sharp_sync_bounds_of beside p flutter in
    let A : NodeRow → Type 0 = λ r. r.state ≡ Active in
    let B : NodeRow → Type 0 = λ r. IsAboutCycle p (pos 0) (cycle_length_of p r) in
    and_from (is_synced_row bounds row) (list_all (is_synced_row bounds) rows)
    (to_row beside p flutter row (All-head A row rows active) (All-head B row rows about))
    (rows_pass beside p flutter rows (All-tail A row rows active) (All-tail B row rows about))

not_negative : (n : ℕ) → pos 0 ≤ℤ pos n
not_negative n = omega (arith, ints)

to_rates : (beside : Bool) (p : Values) (flutter : ℕ) (rows : List NodeRow) → HasSharpRates p (sharp_lambda beside p flutter) rows → are_synced (sharp_sync_bounds_of beside p flutter) rows ≡ true
to_rates beside p flutter rows is =
    let bounds : SyncBounds = sharp_sync_bounds_of beside p flutter in
    let lambda : ℤ = pos (sharp_lambda beside p flutter) in
    let lengths : List ℤ = map (cycle_length_of p) rows in
    and_from (list_all (is_synced_row bounds) rows) (int_le (spread_of lengths) lambda)
    (rows_pass beside p flutter rows is.active is.about)
    (to_le (spread_of lengths) lambda (spread_from lambda lengths (not_negative (sharp_lambda beside p flutter)) is.lengths))

-- ---- both cycles

pub sharp_sync_from : (beside : Bool) (p : Values) (flutter : ℕ) (even odd : List NodeRow) → is_in_sharp_sync beside p flutter even odd ≡ true → IsInSharpSync beside p flutter (pos 0) even odd
unfolding are_in_sync_by_even
sharp_sync_from beside p flutter even odd is =
    let bounds : SyncBounds = sharp_sync_bounds_of beside p flutter in
    let pi : ℤ = pos (sharp_pi beside p flutter) in
    let starts : List ℤ = map (λ (row : NodeRow). row.start) even in
    let synced : Bool = are_synced bounds even in
    let actives : Bool = list_all (λ (row : NodeRow). is_active row.state) odd in
    let parts = and_parts (synced && actives) (int_le (spread_of starts) pi) is in
    let two = and_parts synced actives parts.0 in
    let rates : HasSharpRates p (sharp_lambda beside p flutter) even = rates_from beside p flutter even two.0 in
    record {
      active_even = rates.active;
      active_odd = all_from_test (λ (row : NodeRow). is_active row.state) (λ row. row.state ≡ Active) (λ row. active_from row.state) odd two.1;
      rows = record { starts_lie = within_by_spread pi starts (from_le (spread_of starts) pi parts.1); lengths_lie = rates.lengths; about = rates.about };
    }

pub to_sharp_sync : (beside : Bool) (p : Values) (flutter : ℕ) (even odd : List NodeRow) → IsInSharpSync beside p flutter (pos 0) even odd → is_in_sharp_sync beside p flutter even odd ≡ true
unfolding are_in_sync_by_even
to_sharp_sync beside p flutter even odd is =
    let bounds : SyncBounds = sharp_sync_bounds_of beside p flutter in
    let pi : ℤ = pos (sharp_pi beside p flutter) in
    let starts : List ℤ = map (λ (row : NodeRow). row.start) even in
    let synced : Bool = are_synced bounds even in
    let actives : Bool = list_all (λ (row : NodeRow). is_active row.state) odd in
    and_from (synced && actives) (int_le (spread_of starts) pi)
    (and_from synced actives
    (to_rates beside p flutter even (record { active = is.active_even; lengths = is.rows.lengths_lie; about = is.rows.about }))
    (test_from_all (λ (row : NodeRow). is_active row.state) (λ row. row.state ≡ Active) (λ row. ap is_active) odd is.active_odd))
    (to_le (spread_of starts) pi (spread_from pi starts (not_negative (sharp_pi beside p flutter)) is.rows.starts_lie))
