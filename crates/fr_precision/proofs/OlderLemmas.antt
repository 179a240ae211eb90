-- From sync in the older sense: in its first double cycle action points lie within the older precision, since the odd lengths lie
-- as near as the even ones; from then on the numbers of the sharper step say so.
use Rattle.std.proofs.Common.{◌≡◌, ℕ, zero, suc, ◌+◌, ◌*◌, ◌<◌, ◌≤◌, Bool, true, false, ℤ, pos, Option, Some, None, IfSome, List, map, refl, sym, ◌∙◌, subst, arith}
use Rattle.std.specs.Prelude.{◌+ℤ◌, ◌*ℤ◌, ◌≤ℤ◌, ◌/◌, Contains, if◌then◌else◌, int_le, nat_abs}
use Rattle.std.proofs.lemmas.Int.{ints}
use Rattle.std.proofs.lemmas.List.Elements.{All-contains}
use Rattle.fr_base.specs.Within.{IsWithin}
use Rattle.fr_cluster.specs.Values.{Values}
use Rattle.fr_cluster.specs.Sane.{IsSane}
use Rattle.fr_bound.specs.Bounds.{lambda_of, longest_micro, pi_of, precision_of}
use Rattle.fr_precision.specs.Rows.{Sender}
use Rattle.fr_precision.specs.Instants.{gap_of, row_in, LieNear}
use Rattle.fr_precision.specs.Placement.{IsRegular}
use Rattle.fr_precision.specs.Step.{Member}
use Rattle.fr_precision.proofs.InstantLaws.{actions_stay_near, macroticks_lie_in_reach}
use Rattle.fr_precision.proofs.OffsetLaws.{third_check_suffices}
use Rattle.fr_precision.proofs.StepLaws.{nodes_near, reach_fits, sync_is_spread}
use Rattle.fr_bound.specs.SharpBounds.{last_action, rate_room, rate_walk, sharp_near, walk_lasts}
use Rattle.fr_precision.specs.Lengths.{walked_after}
use Rattle.fr_precision.specs.SharpSettling.{sharp_spread_after, FitsOlder}
use Rattle.fr_precision.specs.SharpStep.{ActInReach}
use Rattle.fr_precision.specs.SharpRun.{lengths_from, starts_from, BeginInSync, BeginSharp, KeepsSharp, OlderSyncSettles, WalkLastsAfter}
use Rattle.fr_precision.proofs.BoundLemmas.{first_check_stops_walk, key_slots_act_early, older_checks_suffice, walk_is_held}
use Rattle.fr_precision.proofs.SettlingLemmas.{older_way_fits}
use Rattle.fr_precision.proofs.StepLemmas.{act_in_reach, in_sync_is_sharp, macroticks_stay_sharp, runs_of, sharp_is_wider}
use Rattle.fr_precision.proofs.LastingLemmas.{active_later, all_regular, doubles_draw, first_spread_is, keeps_to_spreads, near_fits, nothing, spread_draws, stays_at_rest, up_to}
use Rattle.fr_precision.specs.SharpChecks.{FirstCheckLastsOn}

stops : (w : ℤ) → w ≤ℤ pos 0 → int_le w (pos 0) ≡ true
stops w le = grind (arith, ints)

-- where the lengths do not walk, they never do
pub does_not_walk : (p : Values) (flutter : ℕ) → rate_walk p flutter ≤ℤ pos 0 → walk_lasts p flutter ≡ None
does_not_walk p flutter still =
    let lasts : Option ℕ = Some (rate_room p / nat_abs (rate_walk p flutter)) in
    subst (λ (stops : Bool). (if stops then None else lasts) ≡ None) (sym (stops (rate_walk p flutter) still)) refl

-- so it is exactly where the first check holds
pub first_check_lasts_on : FirstCheckLastsOn
first_check_lasts_on p flutter reach sane = (λ holds. does_not_walk p flutter ((first_check_stops_walk p flutter reach sane).0 holds), λ still. (first_check_stops_walk p flutter reach sane).1 (stands p flutter still))
  where
    stands : (p : Values) (flutter : ℕ) → walk_lasts p flutter ≡ None → rate_walk p flutter ≤ℤ pos 0
    stands p flutter still = by (int_le (rate_walk p flutter) (pos 0)) refl
      where
        by : (b : Bool) → int_le (rate_walk p flutter) (pos 0) ≡ b → rate_walk p flutter ≤ℤ pos 0
        by true is = grind (arith, ints)
        by false is =
            let some : walk_lasts p flutter ≡ Some (rate_room p / nat_abs (rate_walk p flutter)) = rw is refl in
            let e = sym some ∙ still in absurd (cc)

-- and stay in their range
pub stays_in_range : (p : Values) (flutter passed : ℕ) → rate_walk p flutter ≤ℤ pos 0 → walked_after p flutter passed ≡ pos 0
stays_in_range p flutter passed still =
    let walked : ℤ = pos passed *ℤ rate_walk p flutter in
    subst (λ (stops : Bool). (if stops then pos 0 else walked) ≡ pos 0) (sym (stops (rate_walk p flutter) still)) refl

pub lasts_on : (p : Values) (flutter k : ℕ) → walk_lasts p flutter ≡ None → WalkLastsAfter p flutter k
lasts_on p flutter k still = subst (λ (o : Option ℕ). IfSome o (λ lasts. k < lasts)) (sym still) tt

module _ (beside : Bool) (p : Values) (flutter doubles : ℕ) (senders : ℕ → List Sender) (nodes : ℕ → List Member) (b : BeginInSync beside p flutter doubles senders nodes) where
  sane : IsSane p
  sane = b.doubles_are.sane

  still : walk_lasts p flutter ≡ None
  still =
      let first = older_checks_suffice beside p flutter 1 sane b.little (omega arith) (omega arith) (b.checks 1 (omega arith) (omega arith)) in
      does_not_walk p flutter ((first_check_stops_walk p flutter (sharp_near beside p flutter) sane).0 first)

  fits : (k : ℕ) → FitsOlder p (sharp_spread_after beside p flutter (pi_of p) (lambda_of p) (suc k))
  fits k = older_way_fits beside p flutter k sane b.little

  regular : (k : ℕ) → k < doubles → BeginSharp p (walked_after p flutter) (starts_from beside p flutter (pi_of p) (lambda_of p)) (lengths_from beside p flutter (pi_of p) (lambda_of p)) nodes k
      → (node : Member) → Contains (nodes k) node → IsRegular p node.even node.odd
  regular k short begin node here =
      All-contains (λ (node : Member). IsRegular p node.even node.odd) (nodes k) node
      (all_regular beside p flutter (senders k) (nodes k) (pos (last_action p)) (b.doubles_are.heard k short (lasts_on p flutter k still) begin)) here

  -- two nodes of the first
  near : (one other : Member) → Contains (nodes 0) one → Contains (nodes 0) other → LieNear p (pos (pi_of p)) (pos (lambda_of p)) (pos (lambda_of p)) one.even one.odd other.even other.odd
  near one other here there =
      nodes_near p (pos (pi_of p)) (pos (lambda_of p)) (nodes 0) one other
      (sync_is_spread p (map (λ (node : Member). node.even) (nodes 0)) (map (λ (node : Member). node.odd) (nodes 0)) b.sync) here there

  acting : (k : ℕ) → k < doubles → WalkLastsAfter p flutter k → BeginSharp p (walked_after p flutter) (starts_from beside p flutter (pi_of p) (lambda_of p)) (lengths_from beside p flutter (pi_of p) (lambda_of p)) nodes k
      → ActInReach p (pos (precision_of p)) (pos (last_action p)) (nodes k)
  acting zero short before begin is_odd one other action here there from to =
      actions_stay_near p (pos (pi_of p)) (pos (lambda_of p)) (pos (precision_of p)) action is_odd one.even one.odd other.even other.odd sane
      (runs_of p one.even one.odd sane (regular zero short begin one here)) (runs_of p other.even other.odd sane (regular zero short begin other there)) (near one other here there)
      (reach_fits (pi_of p) (lambda_of p) (longest_micro p)) from (chain action (pos (last_action p)) p.correction to (key_slots_act_early p sane).1)
    where
      chain : (a b c : ℤ) → a ≤ℤ b → b ≤ℤ c → a ≤ℤ c
      chain a b c h k = omega (arith, ints, h, k)
  acting (suc k) short before begin is_odd one other action here there from to =
      let held = walk_is_held p flutter (suc k) sane b.doubles_are.second before in
      act_in_reach beside p flutter (senders (suc k)) (nodes (suc k)) (starts_from beside p flutter (pi_of p) (lambda_of p) (suc k)) (lengths_from beside p flutter (pi_of p) (lambda_of p) (suc k)) (walked_after p flutter (suc k)) (rate_walk p flutter)
      (pos (precision_of p)) (pos (last_action p))
      (record {
        sane = sane;
        walks = held.0;
        suffices = third_check_suffices p (b.checks 3 (omega arith) (omega arith));
        early = (key_slots_act_early p sane).1;
        fits = near_fits p (starts_from beside p flutter (pi_of p) (lambda_of p) (suc k)) (lengths_from beside p flutter (pi_of p) (lambda_of p) (suc k)) (precision_of p) sane (fits k).near_fits;
      })
      begin.sharp (b.doubles_are.heard (suc k) short before begin) is_odd one other action here there from to

  keeps : (k : ℕ) → k < doubles → KeepsSharp p flutter (walked_after p flutter) (starts_from beside p flutter (pi_of p) (lambda_of p)) (lengths_from beside p flutter (pi_of p) (lambda_of p)) nodes k
  keeps k short =
      let starts : ℕ → ℕ = starts_from beside p flutter (pi_of p) (lambda_of p) in
      let lengths : ℕ → ℕ = lengths_from beside p flutter (pi_of p) (lambda_of p) in
      let wide = first_spread_is beside p flutter (pi_of p) (lambda_of p) in
      let evens = map (λ (node : Member). node.even) (nodes 0) in
      let first = sharp_is_wider p (pi_of p) (lambda_of p) (starts 0) (lengths 0) (pos 0) (pos 0) evens wide.0 wide.1 nothing (in_sync_is_sharp p evens (map (λ (node : Member). node.odd) (nodes 0)) b.sync) in
      doubles_draw beside p flutter doubles starts lengths senders nodes (pos (precision_of p)) (pos (last_action p)) b.doubles_are (spread_draws beside p flutter (pi_of p) (lambda_of p))
      (third_check_suffices p (b.checks 3 (omega arith) (omega arith))) (key_slots_act_early p sane).1 acting first k short

  older : (k : ℕ) → k < doubles → (one other : Member) (macrotick : ℤ) (is_odd : Bool) → Contains (nodes k) one → Contains (nodes k) other → pos 0 ≤ℤ macrotick → macrotick ≤ℤ p.macros
      → IsWithin (pos (precision_of p)) (gap_of p is_odd macrotick (row_in is_odd one.even one.odd) (row_in is_odd other.even other.odd))
  older zero short one other macrotick is_odd here there from to =
      let before = lasts_on p flutter zero still in
      let kept = keeps zero short in
      let begin = kept.begins (up_to p flutter zero before) in
      macroticks_lie_in_reach p (pos (pi_of p)) (pos (lambda_of p)) (pos (lambda_of p)) (pos (starts_from beside p flutter (pi_of p) (lambda_of p) 1)) (pos (precision_of p)) macrotick is_odd one.even one.odd other.even other.odd sane
      (runs_of p one.even one.odd sane (regular zero short begin one here)) (runs_of p other.even other.odd sane (regular zero short begin other there)) (near one other here there)
      (kept.come before one other here there).ends (whole (pi_of p) (lambda_of p) (longest_micro p)) (end (starts_from beside p flutter (pi_of p) (lambda_of p) 1) (pi_of p) (lambda_of p) (longest_micro p) (fits 0).starts_fit) from to
    where
      whole : (pi l q : ℕ) → (pos pi +ℤ pos l +ℤ pos l +ℤ (pos 2 *ℤ pos q)) ≤ℤ pos (pi + 2 * l + 2 * q)
      whole pi l q = omega (arith, ints)

      end : (s pi l q : ℕ) → s ≤ pi → (pos s +ℤ pos q) ≤ℤ pos (pi + 2 * l + 2 * q)
      end s pi l q le = omega (arith, ints, le)
  older (suc k) short one other macrotick is_odd here there from to =
      let starts : ℕ → ℕ = starts_from beside p flutter (pi_of p) (lambda_of p) in
      let lengths : ℕ → ℕ = lengths_from beside p flutter (pi_of p) (lambda_of p) in
      let before = lasts_on p flutter (suc k) still in
      let kept = keeps (suc k) short in
      let begin = kept.begins (up_to p flutter (suc k) before) in
      macroticks_stay_sharp p (starts (suc k)) (lengths (suc k)) (starts (suc (suc k))) (lengths (suc (suc k))) (walked_after p flutter (suc k)) (walked_after p flutter (suc (suc k))) (nodes (suc k)) one other
      (precision_of p) macrotick is_odd sane begin.sharp
      (all_regular beside p flutter (senders (suc k)) (nodes (suc k)) (pos (last_action p)) (b.doubles_are.heard (suc k) short before begin)) here there (kept.come before one other here there)
      (fits k).apart_fits (end (starts (suc (suc k))) (pi_of p) (lambda_of p) (longest_micro p) (fits (suc k)).starts_fit) from to
    where
      end : (s pi l q : ℕ) → s ≤ pi → s + q ≤ pi + 2 * l + 2 * q
      end s pi l q le = omega (arith, le)

pub older_sync_settles : OlderSyncSettles
older_sync_settles beside p flutter doubles senders nodes b k short =
    let kept = keeps beside p flutter doubles senders nodes b k short in
    let spreads = keeps_to_spreads beside p flutter (pi_of p) (lambda_of p) doubles senders nodes b.doubles_are k short kept in
    record {
      still = still beside p flutter doubles senders nodes b;
      spreads = spreads;
      older = older beside p flutter doubles senders nodes b k short;
      reached = λ rest from le settled.
          stays_at_rest beside p flutter (pi_of p) (lambda_of p) rest nodes k
          (active_later p flutter (starts_from beside p flutter (pi_of p) (lambda_of p)) (lengths_from beside p flutter (pi_of p) (lambda_of p)) nodes rest k from le) settled le spreads;
    }
