-- The bounds and checks of worked clusters, computed.
use Rattle.std.proofs.Common.{◌≡◌, ℕ, ℤ, pos, negsuc, [], ◌∷◌, true, false, refl}
use Rattle.fr_base.specs.declared.node_row.NodeRow.{NodeRow}
use Rattle.fr_base.specs.declared.state.State.TheVariants.{Active, Passive}
use Rattle.fr_cluster.specs.Values.{Values}
use Rattle.fr_bound.specs.Bounds.{arrival_error, follower_error, lambda_of, pi_of, precision_of, reach_of, y1_of}
use Rattle.fr_bound.specs.Checks.{left_of, right_of, holds_of}
use Rattle.fr_bound.specs.Sync.{is_in_sync}

-- a cycle of 5 ms at a microtick of 25 ns, with this damping, offset limit, rate limit, action point offset and
-- change bound; nodes and slots do not matter here
abbrev pub cluster : ℕ → ℕ → ℕ → ℕ → ℕ → Values
cluster damping offset_limit rate_limit action_offset change_bound = record {
  macros = pos 5000;
  micros = pos 200000;
  static_slots = pos 140;
  slot_macros = pos 30;
  action_offset = pos action_offset;
  idle_macros = pos 800;
  words = pos 0;
  correction = pos 4900;
  max_passive = pos 2;
  max_fatal = pos 4;
  halt_allowed = pos 1;
  to_active = pos 2;
  damping = pos damping;
  offset_limit = pos offset_limit;
  rate_limit = pos rate_limit;
  compensation_a = pos 0;
  compensation_b = pos 0;
  rate_bound = pos 200;
  change_bound = pos change_bound;
  delay_error = pos 500000;
  nodes = [];
  slots = [];
}

abbrev Sides : ℕ → Values → ℕ → ℕ → Type 0
Sides number p left right = (left_of number p ≡ left) × (right_of number p ≡ right)

abbrev pub reference : Values
reference = cluster 4 254 81 7 0

reference_bounds : (y1_of reference ≡ 3000400) × (lambda_of reference ≡ 30005200) × (pi_of reference ≡ 190032800) × (precision_of reference ≡ 252043600)
reference_bounds = (refl, refl, refl, refl)

reference_sides : Sides 1 reference 3999200 3000400 × Sides 2 reference 80983800 80000000 × Sides 3 reference 253949200 253543800 × Sides 4 reference 1394154113400 1262718000000 × Sides 5 reference 4592218372600 1262718000000
reference_sides = ((refl, refl), (refl, refl), (refl, refl), (refl, refl), (refl, refl))

reference_holds : (holds_of 1 reference ≡ true) × (holds_of 2 reference ≡ true) × (holds_of 3 reference ≡ true) × (holds_of 4 reference ≡ true) × (holds_of 5 reference ≡ true)
reference_holds = (refl, refl, refl, refl, refl)

-- an earlier action point, a smaller offset limit, a smaller rate limit
early_action : Sides 4 (cluster 4 254 81 6 0) 1194275097200 1262718000000 × (holds_of 4 (cluster 4 254 81 6 0) ≡ false)
early_action = ((refl, refl), refl)

early_action_others : (holds_of 1 (cluster 4 254 81 6 0) ≡ true) × (holds_of 2 (cluster 4 254 81 6 0) ≡ true) × (holds_of 3 (cluster 4 254 81 6 0) ≡ true) × (holds_of 5 (cluster 4 254 81 6 0) ≡ true)
early_action_others = (refl, refl, refl, refl)

small_offset_limit : Sides 3 (cluster 4 253 81 7 0) 252949400 253543800 × (holds_of 3 (cluster 4 253 81 7 0) ≡ false)
small_offset_limit = ((refl, refl), refl)

small_rate_limit : Sides 2 (cluster 4 254 80 7 0) 79984000 80000000 × (holds_of 2 (cluster 4 254 80 7 0) ≡ false)
small_rate_limit = ((refl, refl), refl)

-- microticks that change
changing : (y1_of (cluster 4 254 81 7 1) ≡ 3600643) × Sides 1 (cluster 4 254 81 7 1) 3999200 4000805 × (holds_of 1 (cluster 4 254 81 7 1) ≡ false)
changing = (refl, (refl, refl), refl)

wider : (lambda_of (cluster 5 318 81 8 1) ≡ 38007620) × (pi_of (cluster 5 318 81 8 1) ≡ 238047320) × (precision_of (cluster 5 318 81 8 1) ≡ 316062960)
wider = (refl, refl, refl)

wider_holds : (holds_of 1 (cluster 5 318 81 8 1) ≡ true) × (holds_of 2 (cluster 5 318 81 8 1) ≡ true) × (holds_of 3 (cluster 5 318 81 8 1) ≡ true) × (holds_of 4 (cluster 5 318 81 8 1) ≡ true)
    × (holds_of 5 (cluster 5 318 81 8 1) ≡ true)
wider_holds = (refl, refl, refl, refl, refl)

-- ---- nodes that join: a wider rate limit and offset limit, and a later action point

abbrev joined : Values
joined = cluster 4 454 84 12 0

joined_bounds : (follower_error joined ≡ 3000400) × (precision_of joined ≡ 252043600) × (reach_of joined ≡ 452077600)
joined_bounds = (refl, refl, refl)

joined_sides : Sides 6 joined 83983200 83000400 × Sides 7 joined 453909200 453577800 × Sides 8 joined 2393513201600 2262888000000 × Sides 9 joined 3592769302400 2262888000000
joined_sides = ((refl, refl), (refl, refl), (refl, refl), (refl, refl))

joined_holds : (holds_of 6 joined ≡ true) × (holds_of 7 joined ≡ true) × (holds_of 8 joined ≡ true) × (holds_of 9 joined ≡ true)
joined_holds = (refl, refl, refl, refl)

joined_early : Sides 8 (cluster 4 454 84 11 0) 2193637184800 2262888000000 × (holds_of 8 (cluster 4 454 84 11 0) ≡ false)
joined_early = ((refl, refl), refl)

-- the reference has no room for nodes that join
reference_to_join : Sides 6 reference 80983800 83000400 × (holds_of 6 reference ≡ false)
reference_to_join = ((refl, refl), refl)

-- ---- compensations of the delay: the greater of both decides

abbrev compensated : ℕ → ℕ → Values
compensated on_a on_b = record reference { compensation_a = pos on_a; compensation_b = pos on_b }

compensated_bounds : (arrival_error (compensated 1 3) ≡ 500600) × (precision_of (compensated 1 3) ≡ 252084400)
compensated_bounds = (refl, refl)

greater_decides : (precision_of (compensated 3 1) ≡ precision_of (compensated 1 3)) × (precision_of (compensated 3 3) ≡ precision_of (compensated 1 3))
greater_decides = (refl, refl)

-- ---- in sync

-- a row of an active node
abbrev active : ℕ → ℤ → ℤ → NodeRow
active node start rate = record { node = node; start = start; length = pos 1000000; rate = rate; offset = pos 0; state = Active; cut = 0 }

abbrev passive : NodeRow → NodeRow
passive row = record row { state = Passive }

-- no rows are in sync
no_rows : is_in_sync reference [] [] ≡ true
unfolding is_in_sync
no_rows = refl

-- starts may lie pi apart, and lengths 30 of the 30.0052 microticks of lambda
wide : is_in_sync reference (active 1 (pos 190032800) (pos 0) ∷ active 2 (pos 0) (pos 30) ∷ []) (active 1 (pos 0) (pos 30) ∷ active 2 (pos 7) (pos 0) ∷ []) ≡ true
unfolding is_in_sync
wide = refl

too_wide_starts : is_in_sync reference (active 1 (pos 190032801) (pos 0) ∷ active 2 (pos 0) (pos 0) ∷ []) (active 1 (pos 0) (pos 0) ∷ active 2 (pos 0) (pos 0) ∷ []) ≡ false
unfolding is_in_sync
too_wide_starts = refl

too_wide_lengths : is_in_sync reference (active 1 (pos 0) (pos 0) ∷ active 2 (pos 0) (pos 0) ∷ []) (active 1 (pos 0) (pos 31) ∷ active 2 (pos 0) (pos 0) ∷ []) ≡ false
unfolding is_in_sync
too_wide_lengths = refl

-- a cycle may be 40 microticks short of its nominal length, which is 0.02 percent
short : is_in_sync reference (active 1 (pos 0) (negsuc 39) ∷ []) (active 1 (pos 0) (negsuc 39) ∷ []) ≡ true
unfolding is_in_sync
short = refl

too_short : is_in_sync reference (active 1 (pos 0) (negsuc 40) ∷ []) (active 1 (pos 0) (pos 0) ∷ []) ≡ false
unfolding is_in_sync
too_short = refl

one_passive : is_in_sync reference (active 1 (pos 0) (pos 0) ∷ []) (passive (active 1 (pos 0) (pos 0)) ∷ []) ≡ false
unfolding is_in_sync
one_passive = refl
