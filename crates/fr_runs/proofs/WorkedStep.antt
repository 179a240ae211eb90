-- The premises of the law of the group are met: nodes 1 and 2 have rows, node 3 follows for the second double cycle and node 4
-- for the first one, and node 5 listens to node 1.
use Rattle.std.proofs.Common.{◌≡◌, ℕ, ◌≤◌, ℤ, pos, negsuc, [], ◌∷◌, refl, inl, inr, lit≤, lit<, length}
use Rattle.std.specs.Prelude.{◌+◌, Contains}
use Rattle.std.proofs.lemmas.List.Elements.{All-contains}
use Rattle.fr_base.specs.declared.node_row.NodeRow.{NodeRow}
use Rattle.fr_base.specs.declared.state.State.TheVariants.{Active}
use Rattle.fr_base.specs.Within.{IsWithin}
use Rattle.fr_midpoint.specs.Midpoint.{discarded}
use Rattle.fr_bound.specs.Bounds.{lambda_of, pi_of, reach_of}
use Rattle.fr_bound.specs.Sync.{cycle_length_of, IsCycleLength, IsInSync}
use Rattle.fr_precision.specs.Rows.{KeepOne}
use Rattle.fr_precision.specs.Instants.{LieNear}
use Rattle.fr_precision.specs.Offsets.{IsSending}
use Rattle.fr_precision.specs.Rates.{IsNext}
use Rattle.fr_precision.specs.Step.{ComputesTerms, IsAmong, IsFollowed, Member}
use Rattle.fr_precision.proofs.Worked.{row, two, lie_two}
use Rattle.fr_runs.specs.Listening.{BeginsAt}
use Rattle.fr_runs.specs.Following.{first_apart, first_lengths, second_apart}
use Rattle.fr_runs.specs.Group.{IsGroupKept, IsGroupSynced, IsNearRows, IsOf, WillHaveRow}
use Rattle.fr_runs.proofs.Checked.{seventh_check_suffices, sixth_check_suffices}
use Rattle.fr_runs.proofs.Grouped.{groups_are_kept_lem}
use Rattle.fr_runs.proofs.WorkedListening.{caught, cluster, is_caught, is_sane, micro, one}
use Rattle.fr_runs.proofs.WorkedGroup.{computes, first, group, member, offsets_of_first, offsets_of_fourth, offsets_of_second, offsets_of_third, second, senders, sending, term}

-- what holds of each node of the group
each_of : (P : Member → Type 0) → P (member 1 0 (pos 0)) → P (member 2 0 (pos 0)) → P (member 3 1_000_000 (negsuc 0)) → P (member 4 3_000_000 (negsuc 2)) → (node : Member) → IsOf group node → P node
each_of P a b c d node (inl (inl here)) = All-contains P group.rows node (two P (member 1 0 (pos 0)) (member 2 0 (pos 0)) a b) here
each_of P a b c d node (inl (inr here)) = All-contains P group.seconds node (one P (member 3 1_000_000 (negsuc 0)) c) here
each_of P a b c d node (inr here) = All-contains P group.firsts node (one P (member 4 3_000_000 (negsuc 2)) d) here

HasTwo : Member → Type 0
HasTwo node = (length node.offsets ≡ 2) × (length node.rates ≡ 2)

has_two : (node : Member) → IsOf group node → HasTwo node
unfolding HasTwo
has_two node is = each_of HasTwo (refl, refl) (refl, refl) (refl, refl) (refl, refl) node is

keep : (node other : Member) → IsOf group node → IsOf group other → KeepOne node.offsets other.offsets senders × KeepOne node.rates other.rates senders
unfolding HasTwo
keep node other is also =
    let here = has_two node is in
    let there = has_two other also in
    (of_two (length node.offsets) (length other.offsets) here.0 there.0, of_two (length node.rates) (length other.rates) here.1 there.1)
  where
    of_two : (m n : ℕ) → m ≡ 2 → n ≡ 2 → discarded m + discarded n + 1 ≤ 2
    of_two m n e g = rw (e, g) (lit≤ tt)

in_sync : IsInSync cluster (first.even ∷ second.even ∷ []) (first.odd ∷ second.odd ∷ [])
in_sync = record {
  active_even = two (λ (row : NodeRow). row.state ≡ Active) first.even second.even refl refl;
  active_odd = two (λ (row : NodeRow). row.state ≡ Active) first.odd second.odd refl refl;
  starts = lie_two (pos (pi_of cluster)) first.even.start second.even.start (record { le = tt }) (record { le = tt }) (record { le = tt }) (record { le = tt });
  even_lengths = lie_two (pos (lambda_of cluster)) (cycle_length_of cluster first.even) (cycle_length_of cluster second.even) (record { le = tt }) (record { le = tt }) (record { le = tt }) (record { le = tt });
  odd_lengths = lie_two (pos (lambda_of cluster)) (cycle_length_of cluster first.odd) (cycle_length_of cluster second.odd) (record { le = tt }) (record { le = tt }) (record { le = tt }) (record { le = tt });
  even_proper = two (λ (row : NodeRow). IsCycleLength cluster (cycle_length_of cluster row)) first.even second.even (record { le = tt }, record { le = tt }) (record { le = tt }, record { le = tt });
  odd_proper = two (λ (row : NodeRow). IsCycleLength cluster (cycle_length_of cluster row)) first.odd second.odd (record { le = tt }, record { le = tt }) (record { le = tt }, record { le = tt });
}

-- both followers lie near both rows
near_rows : (starts lengths : ℕ) (node : Member)
    → LieNear cluster (pos starts) (pos lengths) (pos lengths) first.even first.odd node.even node.odd
    → LieNear cluster (pos starts) (pos lengths) (pos lengths) second.even second.odd node.even node.odd
    → IsNearRows cluster starts lengths group.rows node
near_rows starts lengths node near also row there =
    let Near : Member → Type 0 = λ row. LieNear cluster (pos starts) (pos lengths) (pos lengths) row.even row.odd node.even node.odd in
    All-contains Near group.rows row (two Near (member 1 0 (pos 0)) (member 2 0 (pos 0)) near also) there

seconds_near : (node : Member) → Contains group.seconds node → IsNearRows cluster (second_apart cluster) (lambda_of cluster) group.rows node
seconds_near node here =
    let Near : Member → Type 0 = IsNearRows cluster (second_apart cluster) (lambda_of cluster) group.rows in
    All-contains Near group.seconds node
    (one Near (member 3 1_000_000 (negsuc 0))
    (near_rows (second_apart cluster) (lambda_of cluster) (member 3 1_000_000 (negsuc 0)) (record { by_start = near; by_even = same; by_odd = same }) (record { by_start = near; by_even = same; by_odd = same }))) here
  where
    near : IsWithin (pos (second_apart cluster)) (negsuc 999_999)
    near = record { low = record { le = tt }; high = record { le = tt } }

    same : IsWithin (pos (lambda_of cluster)) (pos 0)
    same = record { low = record { le = tt }; high = record { le = tt } }

firsts_near : (node : Member) → Contains group.firsts node → IsNearRows cluster (first_apart cluster) (first_lengths cluster) group.rows node
firsts_near node here =
    let Near : Member → Type 0 = IsNearRows cluster (first_apart cluster) (first_lengths cluster) group.rows in
    All-contains Near group.firsts node
    (one Near (member 4 3_000_000 (negsuc 2))
    (near_rows (first_apart cluster) (first_lengths cluster) (member 4 3_000_000 (negsuc 2)) (record { by_start = near; by_even = same; by_odd = same }) (record { by_start = near; by_even = same; by_odd = same }))) here
  where
    near : IsWithin (pos (first_apart cluster)) (negsuc 2_999_999)
    near = record { low = record { le = tt }; high = record { le = tt } }

    same : IsWithin (pos (first_lengths cluster)) (pos 0)
    same = record { low = record { le = tt }; high = record { le = tt } }

group_synced : IsGroupSynced cluster senders group (pos (reach_of cluster))
group_synced = record {
  sane = is_sane;
  first = refl;
  second = refl;
  limit = seventh_check_suffices cluster refl;
  fits = record { le = tt };
  fits_followers = λ node follows. record { le = tt };
  sending = two (IsSending cluster) first second (sending 1 0 12 refl (record { le = tt }) (record { le = tt })) (sending 2 0 42 refl (record { le = tt }) (record { le = tt }));
  among = two (IsAmong group.rows) first second (member 1 0 (pos 0), (0, lit< tt, refl), refl, refl) (member 2 0 (pos 0), (1, lit< tt, refl), refl, refl);
  in_sync = in_sync;
  computes =
      λ node is.
      each_of (ComputesTerms cluster senders) (computes 1 0 (pos 0) refl offsets_of_first) (computes 2 0 (pos 0) refl offsets_of_second) (computes 3 1_000_000 (negsuc 0) refl offsets_of_third)
      (computes 4 3_000_000 (negsuc 2) refl offsets_of_fourth) node is;
  keep = keep;
  seconds_near = seconds_near;
  firsts_near = firsts_near;
}

kept : IsGroupKept cluster senders group (pos (reach_of cluster))
kept = groups_are_kept_lem cluster senders group (pos (reach_of cluster)) group_synced

-- ---- the next double cycle, where nodes 1 to 4 begin at once

next_of : (number start : ℕ) (value : ℤ) → IsNext cluster (member number start value).odd (term (pos 0)) (row number 400_000_000_000 (pos 0)) (row number 600_000_000_000 (pos 0))
next_of number start value = record {
  even_rate = refl;
  odd_rate = refl;
  even_micro = micro number 400_000_000_000 (pos 0);
  odd_micro = micro number 600_000_000_000 (pos 0);
  even_steady = record { low = record { le = tt }; high = record { le = tt } };
  odd_steady = record { low = record { le = tt }; high = record { le = tt } };
}

-- node 5 begins near node 1, which has its rows there
abbrev begun_even : NodeRow
begun_even = record { node = 5; start = pos 400_000_950_100; length = pos 1_000_100; rate = negsuc 19; offset = pos 0; state = Active; cut = 0 }

abbrev begun_odd : NodeRow
begun_odd = record { node = 5; start = pos 600_000_948_100; length = pos 1_000_100; rate = negsuc 19; offset = pos 0; state = Active; cut = 0 }

begins : BeginsAt cluster caught begun_even begun_odd
begins = record {
  start = refl;
  even_rate = refl;
  odd_rate = refl;
  even_micro = record { least = record { le = tt }; most = record { le = tt } };
  odd_micro = record { least = record { le = tt }; most = record { le = tt } };
  even_steady = record { low = record { le = tt }; high = record { le = tt } };
  odd_steady = record { low = record { le = tt }; high = record { le = tt } };
}

begins_near :
    LieNear cluster (pos (first_apart cluster)) (pos (first_lengths cluster)) (pos (first_lengths cluster)) (row 1 400_000_000_000 (pos 0)) (row 1 600_000_000_000 (pos 0)) begun_even begun_odd
begins_near =
    kept.next_firsts (member 1 0 (pos 0)) caught first (row 1 400_000_000_000 (pos 0)) (row 1 600_000_000_000 (pos 0)) begun_even begun_odd
    (sixth_check_suffices cluster refl) (inl (0, lit< tt, refl)) refl
    (next_of 1 0 (pos 0)) (0, lit< tt, refl) is_caught begins

-- and node 4, which now follows for the second time
follows_near :
    LieNear cluster (pos (second_apart cluster)) (pos (lambda_of cluster)) (pos (lambda_of cluster))
    (row 3 400_000_000_000 (pos 0)) (row 3 600_000_000_000 (pos 0)) (row 4 400_000_000_000 (pos 0)) (row 4 600_000_000_000 (pos 0))
follows_near =
    kept.next_seconds (member 3 1_000_000 (negsuc 0)) (member 4 3_000_000 (negsuc 2)) (row 3 400_000_000_000 (pos 0)) (row 3 600_000_000_000 (pos 0)) (row 4 400_000_000_000 (pos 0))
    (row 4 600_000_000_000 (pos 0)) (inr (0, lit< tt, refl)) (0, lit< tt, refl) refl (next_of 3 1_000_000 (negsuc 0)) refl (next_of 4 3_000_000 (negsuc 2))

-- nodes 1 to 3 have rows there, in sync
abbrev next_even : Member → NodeRow
next_even node = row node.even.node 400_000_000_000 (pos 0)

abbrev next_odd : Member → NodeRow
next_odd node = row node.even.node 600_000_000_000 (pos 0)

next_in_sync : IsInSync cluster (next_even (member 3 1_000_000 (negsuc 0)) ∷ next_even (member 1 0 (pos 0)) ∷ []) (next_odd (member 3 1_000_000 (negsuc 0)) ∷ next_odd (member 1 0 (pos 0)) ∷ [])
next_in_sync =
    kept.next_rows (member 3 1_000_000 (negsuc 0) ∷ member 1 0 (pos 0) ∷ []) next_even next_odd
    (λ node here.
    All-contains (λ (node : Member). WillHaveRow group node × IsFollowed cluster node (next_even node) (next_odd node)) (member 3 1_000_000 (negsuc 0) ∷ member 1 0 (pos 0) ∷ []) node
    (two (λ (node : Member). WillHaveRow group node × IsFollowed cluster node (next_even node) (next_odd node)) (member 3 1_000_000 (negsuc 0)) (member 1 0 (pos 0))
    (inr (0, lit< tt, refl), record { start = refl; next = next_of 3 1_000_000 (negsuc 0); active_even = refl; active_odd = refl })
    (inl (0, lit< tt, refl), record { start = refl; next = next_of 1 0 (pos 0); active_even = refl; active_odd = refl })) here)
