-- Rows are in sync where their spreads are within the bounds.
use Rattle.std.proofs.Common.{◌≡◌, pos, Bool, true, false, ◌&&◌, List, [], ◌∷◌, map, refl, arith}
use Rattle.std.specs.List.{list_all}
use Rattle.std.proofs.lemmas.Int.{ints}
use Rattle.fr_base.specs.States.{is_active}
use Rattle.fr_base.specs.declared.node_row.NodeRow.{NodeRow}
use Rattle.fr_bound.specs.Bounds.{lambda_of, pi_of}
use Rattle.fr_bound.specs.Sync.{cycle_length_of, has_synced_rates, is_in_sync, is_proper_length, lie_within}
use Rattle.fr_cluster.specs.Values.{Values}
use Rattle.fr_skew.specs.Sync.{are_in_sync, are_synced, sync_bounds_of}
use Rattle.fr_skew.proofs.Differences.{tested_by_spread}

list_all-both : (first second : NodeRow → Bool) (rows : List NodeRow) → list_all (λ row. first row && second row) rows ≡ (list_all first rows && list_all second rows)
list_all-both first second [] = refl
list_all-both first second (row ∷ rows) = rw (list_all-both first second rows) (by_case (first row) (second row) (list_all first rows) (list_all second rows))
  where
    by_case : (a b c d : Bool) → ((a && b) && (c && d)) ≡ ((a && c) && (b && d))
    by_case true true c d = refl
    by_case true false true d = refl
    by_case true false false d = refl
    by_case false b c d = refl

exchanged : (a b c : Bool) → ((a && b) && c) ≡ ((a && c) && b)
exchanged true true true = refl
exchanged true true false = refl
exchanged true false true = refl
exchanged true false false = refl
exchanged false b c = refl

are_synced_is : (p : Values) (rows : List NodeRow) → are_synced (sync_bounds_of p) rows ≡ has_synced_rates p rows
are_synced_is p rows =
    let active = λ (row : NodeRow). is_active row.state in
    let proper = λ (row : NodeRow). is_proper_length p (cycle_length_of p row) in
    rw (list_all-both active proper rows, tested_by_spread (pos (lambda_of p)) (map (cycle_length_of p) rows) (omega (arith, ints)))
    (exchanged (list_all active rows) (list_all proper rows) (lie_within (pos (lambda_of p)) (map (cycle_length_of p) rows)))

pub in_sync_is : (p : Values) (even odd : List NodeRow) → are_in_sync (sync_bounds_of p) even odd ≡ is_in_sync p even odd
unfolding are_in_sync is_in_sync
in_sync_is p even odd =
    rw (are_synced_is p even, are_synced_is p odd, tested_by_spread (pos (pi_of p)) (map (λ row. row.start) even) (omega (arith, ints))) refl
