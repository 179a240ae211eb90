-- The long run of three perfect clocks is stated as the laws ask, and any two of its nodes hear each other alike.
use Rattle.std.proofs.Common.{◌≡◌, ℕ, ◌*◌, ◌%◌, ◌<◌, ◌≤◌, ◌==◌, Bool, true, false, ℤ, pos, negsuc, Option, None, Some, IsSome, [], ◌∷◌, All, length, refl, ap, sym, ◌∙◌, subst, inl, lit≤, lit<, arith}
use Rattle.std.specs.Prelude.{◌+ℤ◌, ◌-ℤ◌, ◌*ℤ◌, ◌≤ℤ◌, Contains, int_lt}
use Rattle.std.proofs.lemmas.Int.{ints}
use Rattle.std.proofs.lemmas.List.Elements.{All-contains, All-nil}
use Rattle.fr_base.specs.Within.{IsWithin}
use Rattle.fr_base.specs.declared.channel.Channel.{Channel}
use Rattle.fr_base.specs.declared.channel.Channel.TheVariants.{A, B}
use Rattle.fr_base.specs.declared.state.State.TheVariants.{Active}
use Rattle.fr_cluster.proofs.Elements.{Contains-here, Contains-there}
use Rattle.fr_cluster.specs.Questions.{has_channel}
use Rattle.fr_cluster.specs.Ranges.{InRange}
use Rattle.fr_cluster.specs.Sane.{IsSane}
use Rattle.fr_cluster.specs.Setting.{IsSetting, correct_nodes}
use Rattle.fr_cluster.specs.Values.{figure}
use Rattle.fr_cluster.specs.declared.names.ParamName.{ParamName}
use Rattle.fr_cluster.specs.declared.names.ParamName.TheVariants as name
use Rattle.fr_cluster.specs.declared.nodes.NodeSpec.{NodeSpec}
use Rattle.fr_cluster.specs.declared.nodes.SlotSpec.{SlotSpec}
use Rattle.fr_time.specs.Instant.{instant_of}
use Rattle.fr_time.specs.Position.{even_position, floor_of, grid_for}
use Rattle.fr_time.proofs.Lines.{rest_of}
use Rattle.fr_precision.specs.Instants.{gap_of, row_in}
use Rattle.fr_precision.specs.Reception.{IsDelay}
use Rattle.fr_precision.specs.Step.{Member}
use Rattle.fr_history.specs.Cycles.{Cycle, Cycles}
use Rattle.fr_history.specs.History.{row_for}
use Rattle.fr_history.specs.Standing.{row_nodes}
use Rattle.fr_history.specs.Worked.{on_a}
use Rattle.fr_runs.specs.Gathered.{row_hearer}
use Rattle.fr_runs.proofs.Courses.{row_two, NodeTwo}
use Rattle.fr_runs.proofs.Doubles.{even_length}
use Rattle.fr_runs.proofs.Going.{rows_ascend}
use Rattle.fr_runs.proofs.Nodes.{correct_node}
use Rattle.fr_precision.proofs.RoundLemmas.{map_contains}
use Rattle.fr_runs.proofs.Rows.{all_rows}
use Rattle.fr_runs.specs.Flutter.{FluttersWithin}
use Rattle.fr_worked.specs.LongRun.{long_cluster, long_run}
use Rattle.fr_bound.specs.SharpBounds.{last_action, last_of, sharp_near}
use Rattle.fr_bound.specs.SharpChecks.{sharp_holds_of, SharpChecksHold}
use Rattle.fr_precision.specs.SharpRound.{as_member}
use Rattle.fr_precision.specs.SharpStep.{ActInReach}
use Rattle.fr_runs.specs.SteadyRuns.{row_hearers, row_members, AreRowsInReach, IsSteadySetting}
use Rattle.fr_sharp.specs.WorkedRun.{delay_in_turn}
use Rattle.fr_precision.proofs.BoundLemmas.{sharp_checks_suffice_lem}
use Rattle.fr_runs.proofs.RowsSupplied.{LawfulRows}
use Rattle.fr_worked.proofs.RunWorked.{turns}
use Rattle.fr_promise.proofs.SharpWorked.{three}
use Rattle.fr_worked.proofs.Begun as joined
use Rattle.fr_promise.proofs.CheckNumbers.{two_to_five}

-- ---- its parameters are those of a cluster

in_range : (n : ParamName) → InRange n (figure long_cluster n)
in_range name.gMacroPerCycle = (record { le = tt }, record { le = tt })
in_range other = (record { le = tt }, record { le = tt })

pub is_sane : IsSane long_cluster
is_sane = record {
  ranges = in_range;
  constraints = record {
    whole_cycle = refl;
    acts_in_slot = lit< tt;
    corrects_after = (lit< tt, lit< tt);
    leaves_microticks = lit≤ tt;
    passive_first = lit≤ tt;
    sync_nodes = (lit≤ tt, lit≤ tt);
    own_slots = (
      three (λ key. key ≤ 91) 1 2 3 (lit≤ tt) (lit≤ tt) (lit≤ tt),
      joined.is_sane.constraints.own_slots.1,
    );
    free_slots = All-nil (λ (slot : SlotSpec). (slot.slot ≤ 91) × (Contains (1 ∷ 2 ∷ 3 ∷ []) slot.slot → ⊥));
  };
  lists = joined.is_sane.lists;
}

-- ---- what is stated of it

pub on_channel : (some : NodeSpec) → Contains (correct_nodes long_run) some → has_channel (Some some) A ≡ true
on_channel some there =
    All-contains (λ (n : NodeSpec). has_channel (Some n) A ≡ true) long_cluster.nodes some
    (three (λ (n : NodeSpec). has_channel (Some n) A ≡ true) (on_a 1) (on_a 2) (on_a 3) refl refl refl) (correct_node long_run some there).there

stated_delay : (channel : Channel) (early : Bool) → IsDelay long_cluster channel (delay_in_turn early)
stated_delay A true = record { low = record { le = tt }; high = record { le = tt } }
stated_delay A false = record { low = record { le = tt }; high = record { le = tt } }
stated_delay B true = record { low = record { le = tt }; high = record { le = tt } }
stated_delay B false = record { low = record { le = tt }; high = record { le = tt } }

flutters : FluttersWithin long_run 0 10_000_000
flutters sender receiver slot channel double linked share late within =
    let At : ℕ → ℕ → Type 0 = λ late early. IsWithin (pos 10_000_000) (delay_in_turn (late == 0) -ℤ delay_in_turn (early == 0)) in
    subst (λ (late : ℕ). At late (2 * double % 2)) (sym (turns double).1) (subst (At 1) (sym (turns double).0) (record { low = record { le = tt }; high = record { le = tt } }))

pub covered : IsSteadySetting long_run 10_000_000
covered = record {
  timed = record {
    sane = is_sane;
    few = inl (refl, lit≤ tt);
    least = λ some cycle there late within. record { le = tt };
    most = λ some cycle there late within. record { le = tt };
    changes = λ some cycle there late within. record { low = record { le = tt }; high = record { le = tt } };
    delays = λ sender receiver slot channel cycle linked share late within. stated_delay channel (cycle % 2 == 0);
    flutters = flutters;
  };
  links = λ double late within sender receiver slot linked. record {
    channel = A;
    share = record { by_sender = on_channel sender linked.sends; by_receiver = on_channel receiver linked.hears };
    even = refl;
    odd = refl;
  };
}

pub setting : IsSetting long_run
setting = record { sane = is_sane; bytes = λ cycle sender receiver channel. tt }

pub other_checks : SharpChecksHold 10_000_000 (sharp_near false long_cluster 10_000_000) long_cluster
unfolding last_of
other_checks = two_to_five (λ k. sharp_holds_of k 10_000_000 (sharp_near false long_cluster 10_000_000) long_cluster) refl refl refl refl

-- ---- its nodes

pub there_1 : Contains (on_a 1 ∷ on_a 2 ∷ on_a 3 ∷ []) (on_a 1)
there_1 = Contains-here (on_a 1) (on_a 2 ∷ on_a 3 ∷ [])

pub there_2 : Contains (on_a 1 ∷ on_a 2 ∷ on_a 3 ∷ []) (on_a 2)
there_2 = Contains-there (on_a 1) (on_a 2 ∷ on_a 3 ∷ []) (on_a 2) (Contains-here (on_a 2) (on_a 3 ∷ []))

pub there_3 : Contains (on_a 1 ∷ on_a 2 ∷ on_a 3 ∷ []) (on_a 3)
there_3 = Contains-there (on_a 1) (on_a 2 ∷ on_a 3 ∷ []) (on_a 3) (Contains-there (on_a 2) (on_a 3 ∷ []) (on_a 3) (Contains-here (on_a 3) []))

-- ---- numbers

pub whole_2 : (s q : ℤ) → (floor_of (((s +ℤ (q *ℤ pos 1_000_000)) +ℤ pos 2_000_000) -ℤ s) (pos 1_000_000) -ℤ pos 7) -ℤ q ≡ negsuc 4
whole_2 s q =
    let r = rest_of (((s +ℤ (q *ℤ pos 1_000_000)) +ℤ pos 2_000_000) -ℤ s) (pos 1_000_000) (record { lt = tt }) in
    let from = r.from in
    let to = r.to in
    omega (arith, ints, from, to)

pub whole_12 : (s q : ℤ) → (floor_of (((s +ℤ (q *ℤ pos 1_000_000)) +ℤ pos 12_000_000) -ℤ s) (pos 1_000_000) -ℤ pos 7) -ℤ q ≡ pos 5
whole_12 s q =
    let r = rest_of (((s +ℤ (q *ℤ pos 1_000_000)) +ℤ pos 12_000_000) -ℤ s) (pos 1_000_000) (record { lt = tt }) in
    let from = r.from in
    let to = r.to in
    omega (arith, ints, from, to)

not_past : (action : ℤ) → action ≤ℤ pos 3_536 → int_lt (pos 3_536) action ≡ false
not_past action le = grind (arith, ints)

pub last_acts : pos (last_action long_cluster) ≤ℤ pos 3_536
unfolding last_of
last_acts = record { le = tt }

no_gap : (reach : ℕ) (a b c : ℤ) → a ≡ c → b ≡ c → IsWithin (pos reach) (a -ℤ b)
no_gap reach a b c one other = record { low = omega (arith, ints, one, other); high = omega (arith, ints, one, other) }

in_limit : (double : ℕ) → 8 * double ≤ 601 → IsWithin (pos 601) (pos (8 * double))
in_limit double most = record { low = omega (arith, ints, most); high = omega (arith, ints, most) }

-- ---- what is known of a number or none

pub from_some : (o : Option ℤ) (v : ℤ) → IsSome o → ((u : ℤ) → o ≡ Some u → u ≡ v) → o ≡ Some v
from_some None v some is = absurd (cc)
from_some (Some u) v some is = ap (λ (z : ℤ). Some z) (is u refl)

pub from_none : (o : Option ℤ) → ((u : ℤ) → o ≡ Some u → ⊥) → o ≡ None
from_none None never = refl
from_none (Some u) never = absurd (never u refl)

-- ---- a double cycle in which all nodes start at once, with the rate that the walk gives

pub record AlikeAt (double : ℕ) (start : ℤ) (earlier : Cycles) (even odd : Cycle) : Type 0 where
  pub starts : (node : NodeSpec) → Contains (row_nodes long_run earlier) node → (row_for even.told.rows node.id).start ≡ start
  pub rates : (node : NodeSpec) → Contains (row_nodes long_run earlier) node → (row_for even.told.rows node.id).rate ≡ pos (8 * double)
  pub active_even : All (λ row. row.state ≡ Active) even.told.rows
  pub active_odd : All (λ row. row.state ≡ Active) odd.told.rows

abbrev pub late_start : ℕ → ℤ → ℤ
late_start double start = start +ℤ (((pos 200_000 +ℤ pos (8 * double)) +ℤ pos 0) *ℤ pos 1_000_000)

module _ (double : ℕ) (start : ℤ) (earlier : Cycles) (even odd : Cycle) (s : LawfulRows long_run 10_000_000 earlier even odd double) (a : AlikeAt double start earlier even odd) (most : 8 * double ≤ 601) where
  two : (node : NodeSpec) → Contains (row_nodes long_run earlier) node → NodeTwo long_run earlier (row_for even.told.rows node.id) (row_for odd.told.rows node.id) node
  two node among = row_two long_run earlier even odd node s.two (even_length (length earlier) double s.counted) among

  pub even_long : (node : NodeSpec) → Contains (row_nodes long_run earlier) node → (row_for even.told.rows node.id).length ≡ pos 1_000_000
  even_long node among = (two node among).even_length

  pub odd_long : (node : NodeSpec) → Contains (row_nodes long_run earlier) node → (row_for odd.told.rows node.id).length ≡ pos 1_000_000
  odd_long node among = (two node among).odd_length

  pub odd_rates : (node : NodeSpec) → Contains (row_nodes long_run earlier) node → (row_for odd.told.rows node.id).rate ≡ pos (8 * double)
  odd_rates node among = (two node among).double.same_rate ∙ a.rates node among

  pub odd_starts : (node : NodeSpec) → Contains (row_nodes long_run earlier) node → (row_for odd.told.rows node.id).start ≡ late_start double start
  odd_starts node among =
      (two node among).double.follows
      ∙ Prim.rw (a.starts node among, a.rates node among, (two node among).double.no_offset, even_long node among) refl

  pub early_at : (node : NodeSpec) → Contains (row_nodes long_run earlier) node → (action : ℤ)
      → instant_of (grid_for long_cluster) (row_for even.told.rows node.id) false action ≡ start +ℤ (even_position (grid_for long_cluster) (pos (8 * double)) action *ℤ pos 1_000_000)
  early_at node among action = Prim.rw (a.starts node among, a.rates node among, even_long node among) refl

  pub late_at : (node : NodeSpec) → Contains (row_nodes long_run earlier) node → (action : ℤ) → action ≤ℤ pos 3_536
      → instant_of (grid_for long_cluster) (row_for odd.told.rows node.id) true action ≡ late_start double start +ℤ (even_position (grid_for long_cluster) (pos (8 * double)) action *ℤ pos 1_000_000)
  late_at node among action le = Prim.rw (odd_starts node among, odd_rates node among, odd_long node among, not_past action le) refl

  near_at : (is_odd : Bool) (one other : NodeSpec) (action : ℤ) → Contains (row_nodes long_run earlier) one → Contains (row_nodes long_run earlier) other → action ≤ℤ pos 3_536
      → IsWithin (pos (sharp_near false long_cluster 10_000_000))
      (gap_of long_cluster is_odd action (row_in is_odd (row_for even.told.rows one.id) (row_for odd.told.rows one.id)) (row_in is_odd (row_for even.told.rows other.id) (row_for odd.told.rows other.id)))
  near_at false one other action here there le = no_gap (sharp_near false long_cluster 10_000_000) _ _ (start +ℤ (even_position (grid_for long_cluster) (pos (8 * double)) action *ℤ pos 1_000_000)) (early_at one here action) (early_at other there action)
  near_at true one other action here there le = no_gap (sharp_near false long_cluster 10_000_000) _ _ (late_start double start +ℤ (even_position (grid_for long_cluster) (pos (8 * double)) action *ℤ pos 1_000_000)) (late_at one here action le) (late_at other there action le)

  acts : ActInReach long_cluster (pos (sharp_near false long_cluster 10_000_000)) (pos (last_action long_cluster)) (row_members long_run earlier even odd)
  acts is_odd one other action here there from to =
      let first = map_contains (as_member long_cluster) (row_hearers long_run earlier even odd) one here in
      let first_node = map_contains (λ (node : NodeSpec). row_hearer long_run even odd node.id) (row_nodes long_run earlier) first.0 first.1 in
      let second = map_contains (as_member long_cluster) (row_hearers long_run earlier even odd) other there in
      let second_node = map_contains (λ (node : NodeSpec). row_hearer long_run even odd node.id) (row_nodes long_run earlier) second.0 second.1 in
      let Near : Member → Member → Type 0 = λ m n. IsWithin (pos (sharp_near false long_cluster 10_000_000)) (gap_of long_cluster is_odd action (row_in is_odd m.even m.odd) (row_in is_odd n.even n.odd)) in
      let both = near_at is_odd first_node.0 second_node.0 action first_node.1 second_node.1 (along action (pos (last_action long_cluster)) (pos 3_536) to last_acts) in
      let m = ap (as_member long_cluster) first_node.2 ∙ first.2 in
      let n = ap (as_member long_cluster) second_node.2 ∙ second.2 in
      let One : Member → Type 0 = λ z. Near z (as_member long_cluster (row_hearer long_run even odd second_node.0.id)) in
      let Other : Member → Type 0 = λ z. Near one z in
      subst Other n (subst One m both)
    where
      along : (a b c : ℤ) → a ≤ℤ b → b ≤ℤ c → a ≤ℤ c
      along a b c h k = omega (arith, ints, h, k)

  pub reach : AreRowsInReach long_run earlier even odd (pos (sharp_near false long_cluster 10_000_000))
  reach =
      let suffice = sharp_checks_suffice_lem long_cluster 10_000_000 (sharp_near false long_cluster 10_000_000) is_sane other_checks in
      record {
        active_even = a.active_even;
        active_odd = a.active_odd;
        rates =
            all_rows (row_nodes long_run earlier) even.told.rows (λ row. IsWithin (pos 601) row.rate) (rows_ascend long_run earlier is_sane) s.two.even_rows.nodes
            (λ node among. subst (λ (r : ℤ). IsWithin (pos 601) r) (sym (a.rates node among)) (in_limit double most));
        limit = suffice.0;
        room = suffice.1;
        acts = acts;
      }
