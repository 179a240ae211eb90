-- Receivers of a recorded trace hear each arbitrary sync node alike, where the trace says so of its rows and deviations.
use Rattle.std.proofs.Common.{◌≡◌, ℕ, suc, ◌+◌, ◌-◌, ◌*◌, ◌<◌, ◌≤◌, Bool, true, false, ◌&&◌, Option, Some, None, ℤ, pos, ap, ap₂, refl, sym, subst, arith}
use Rattle.std.specs.Prelude.{◌-ℤ◌, ◌≤ℤ◌, Contains, is_some, option_and_then}
use Rattle.std.specs.Option.{option_map}
use Rattle.std.proofs.lemmas.Int.{ints}
use Rattle.fr_base.specs.Rows.{dev_in}
use Rattle.fr_base.specs.Within.{IsWithin}
use Rattle.fr_base.specs.declared.channel.Channel.{Channel}
use Rattle.fr_base.specs.declared.channel.Channel.TheVariants as channel
use Rattle.fr_base.specs.declared.node_row.NodeRow.{NodeRow}
use Rattle.fr_bound.specs.Bounds.{arrival_error, cycle_change, longest_micro}
use Rattle.fr_bound.specs.SharpBounds.{sharp_lambda}
use Rattle.fr_cluster.specs.Values.{Values}
use Rattle.fr_cluster.specs.declared.nodes.NodeSpec.{NodeSpec}
use Rattle.fr_time.proofs.Keys.{key_node_has}
use Rattle.fr_history.specs.History.{History, Record, row_for}
use Rattle.fr_measure.specs.Values.{change_at, change_of, least_of, mean_of}
use Rattle.fr_midpoint.specs.Receivers.{measured_place}
use Rattle.fr_precision.specs.Alike.{same_offsets, same_rates, BothAlike, HearAlike, IsArbitraryAt, OffsetsLieNear, RatesLieNear}
use Rattle.fr_precision.specs.Round.{sync_count, Hearer}
use Rattle.fr_precision.specs.Rows.{end_of}
use Rattle.fr_precision.specs.Steady.{placed_length}
use Rattle.fr_precision.proofs.Counting.{count_less}
use Rattle.fr_precision.proofs.RoundLemmas.{map_contains}
use Rattle.fr_trace.specs.Trace.{TraceView, is_named}
use Rattle.fr_verdict.specs.Alike.{alike_offsets, alike_rates, said_offset, said_rate, AreAllAlike, AreSaidFrom, IsSaidAlike, UnnamedTracesAreAlike}
use Rattle.fr_verdict.specs.SharpTraces.{recorded_flutter, IsSteadyTrace}
use Rattle.fr_verdict.proofs.Heard.{hearer_in, round_in}
use Rattle.fr_verdict.proofs.Recorded.{IsDouble, NodeTwo, Passes, even_at, node_two, odd_at}
use Rattle.fr_verdict.proofs.Standing.{nodes_in}
use Rattle.fr_verdict.proofs.TraceRows.{traced_hearers}

-- ---- what is asked of arbitrary nodes

pub record IsSteadySaid (beside : Bool) (p : Values) (t : TraceView) (double : ℕ) : Type 0 where
  pub steady : IsSteadyTrace true p t double
  pub alike : AreSaidFrom beside p t double

none_named : (p : Values) (t : TraceView) (node : NodeSpec) (slot : ℕ) → sync_count p (is_named t) ≡ 0 → Contains p.nodes node → node.key ≡ Some slot → is_named t node.id ≡ true → ⊥
none_named p t node slot none among key named =
    let passes : (is_some node.key && is_named t node.id) ≡ true = ap₂ (λ (a b : Bool). a && b) (ap is_some key) named in
    let less = count_less (λ (n : NodeSpec). false) (λ (n : NodeSpec). is_some n.key && is_named t n.id) p.nodes node (λ n is. absurd (cc is)) among refl passes in
    omega (arith, less, none)

-- a trace that names none arbitrary meets that
pub as_said : (beside : Bool) (p : Values) (t : TraceView) (double : ℕ) → IsSteadyTrace beside p t double → IsSteadySaid beside p t double
as_said true p t double s = record { steady = s; alike = tt }
as_said false p t double s = record {
  steady = record {
    sane = s.sane;
    trace = s.trace;
    fits = s.fits;
    none_joins = s.none_joins;
    arbitrary = tt;
    lawful = s.lawful;
    counts = s.counts;
    lengths = s.lengths;
    changes = s.changes;
    heard = s.heard;
  };
  alike = λ k from within even odd node slot is_even is_odd among key named. absurd (none_named p t node slot s.arbitrary among key named);
}

-- ---- two receivers

-- values by their places, and by a greater number
by_places : (f g : ℤ → ℤ) (a b : ℕ) (v u : Option ℤ) → a ≤ b → BothAlike (λ x y. IsWithin (pos a) (x -ℤ y)) (option_map f v) (option_map g u) → BothAlike (λ x y. IsWithin (pos b) (f x -ℤ g y)) v u
by_places f g a b None None le both = tt
by_places f g a b None (Some u) le both = both
by_places f g a b (Some v) None le both = both
by_places f g a b (Some v) (Some u) le both = wider (f v -ℤ g u) both
  where
    wider : (x : ℤ) → IsWithin (pos a) x → IsWithin (pos b) x
    wider x within = record { low = omega (arith, ints, le, within.low); high = omega (arith, ints, le, within.high) }

module _ (p : Values) (t : TraceView) (h : History) (even odd : Record) (k : ℕ) (w : Passes p t) (d : IsDouble t h even odd k) (lengths : ℕ) (least : sharp_lambda false p (recorded_flutter p) ≤ lengths) (all : AreAllAlike p t k) where
  offsets_fit : alike_offsets p ≤ same_offsets p lengths
  offsets_fit = step (sharp_lambda false p (recorded_flutter p)) lengths (cycle_change p) (arrival_error p) (longest_micro p) least
    where
      step : (l m j e q : ℕ) → l ≤ m → ((l + 2 * j) + 2 * e + 3 * q) - q ≤ (m + 2 * j) + (2 * e + 2 * q)
      step l m j e q le = omega (arith, le)

  said_at : (index : ℕ) (a : IsArbitraryAt (round_in p t even odd) index) → IsSaidAlike p even odd a.slot
  said_at index a =
      let has = key_node_has p a.node a.slot a.node_is in
      all even odd a.node a.slot (even_at t h even odd k d) (odd_at t h even odd k d) has.0 has.1 a.arbitrary

  module _ (one other : NodeSpec) (here : Contains (nodes_in p even) one) (there : Contains (nodes_in p even) other) (index : ℕ) (a : IsArbitraryAt (round_in p t even odd) index) where
    abbrev row : NodeSpec → NodeRow
    row node = row_for odd.rows node.id

    two : (node : NodeSpec) → Contains (nodes_in p even) node → NodeTwo p t h even odd node
    two node among = node_two p t h even odd k node w d among

    offsets_alike :
        BothAlike (OffsetsLieNear (same_offsets p lengths) p (row one) (row other))
        (least_of ((hearer_in p t even odd one).look index true channel.A) ((hearer_in p t even odd one).look index true channel.B))
        (least_of ((hearer_in p t even odd other).look index true channel.A) ((hearer_in p t even odd other).look index true channel.B))
    offsets_alike =
        let f = measured_place (end_of p (row one)) (row one).length in
        let g = measured_place (end_of p (row other)) (row other).length in
        let Said : ℕ → ℕ → Type 0 = λ m n. BothAlike (λ x y. IsWithin (pos (alike_offsets p)) (x -ℤ y)) (option_map f (said_offset odd.devs m a.slot)) (option_map g (said_offset odd.devs n a.slot)) in
        let said = (said_at index a).offsets (row one) (row other) (two one here).has_odd.there (two other there).has_odd.there in
        let At : Option ℕ → Type 0 = λ o.
        BothAlike (OffsetsLieNear (same_offsets p lengths) p (row one) (row other))
        (least_of (option_and_then (λ s. dev_in odd.devs one.id s channel.A) o) (option_and_then (λ s. dev_in odd.devs one.id s channel.B) o))
        (least_of (option_and_then (λ s. dev_in odd.devs other.id s channel.A) o) (option_and_then (λ s. dev_in odd.devs other.id s channel.B) o)) in
        subst At (sym a.slot_is)
        (
        by_places f g (alike_offsets p) (same_offsets p lengths) (said_offset odd.devs one.id a.slot) (said_offset odd.devs other.id a.slot) offsets_fit
        (subst (Said one.id) (two other there).has_odd.number (subst (λ (m : ℕ). Said m (row other).node) (two one here).has_odd.number said))
        )

    rates_alike :
        BothAlike (RatesLieNear (same_rates p (recorded_flutter p)) p (row one) (row other))
        (mean_of (change_at (hearer_in p t even odd one).look index channel.A) (change_at (hearer_in p t even odd one).look index channel.B))
        (mean_of (change_at (hearer_in p t even odd other).look index channel.A) (change_at (hearer_in p t even odd other).look index channel.B))
    rates_alike =
        let f = placed_length p (row one) in
        let g = placed_length p (row other) in
        let Said : ℕ → ℕ → Type 0 = λ m n. BothAlike (λ x y. IsWithin (pos (alike_rates p)) (x -ℤ y)) (option_map f (said_rate even.devs odd.devs m a.slot)) (option_map g (said_rate even.devs odd.devs n a.slot)) in
        let said = (said_at index a).rates (row one) (row other) (two one here).has_odd.there (two other there).has_odd.there in
        let Change : ℕ → Channel → Option ℕ → Option ℤ = λ id ch o. change_of (option_and_then (λ s. dev_in even.devs id s ch) o) (option_and_then (λ s. dev_in odd.devs id s ch) o) in
        let At : Option ℕ → Type 0 = λ o.
        BothAlike (RatesLieNear (same_rates p (recorded_flutter p)) p (row one) (row other))
        (mean_of (Change one.id channel.A o) (Change one.id channel.B o)) (mean_of (Change other.id channel.A o) (Change other.id channel.B o)) in
        subst At (sym a.slot_is)
        (
        by_places f g (alike_rates p) (same_rates p (recorded_flutter p)) (said_rate even.devs odd.devs one.id a.slot) (said_rate even.devs odd.devs other.id a.slot) (le_itself (alike_rates p))
        (subst (Said one.id) (two other there).has_odd.number (subst (λ (m : ℕ). Said m (row other).node) (two one here).has_odd.number said))
        )
      where
        le_itself : (n : ℕ) → n ≤ n
        le_itself n = omega arith

  pub traced_alike : (n m : Hearer) → Contains (traced_hearers p t even odd) n → Contains (traced_hearers p t even odd) m → HearAlike (round_in p t even odd) (recorded_flutter p) lengths n m
  traced_alike n m here there =
      let one = map_contains (hearer_in p t even odd) (nodes_in p even) n here in
      let other = map_contains (hearer_in p t even odd) (nodes_in p even) m there in
      let Alike : Hearer → Hearer → Type 0 = HearAlike (round_in p t even odd) (recorded_flutter p) lengths in
      let both : Alike (hearer_in p t even odd one.0) (hearer_in p t even odd other.0) = record {
        offsets = λ index a. offsets_alike one.0 other.0 one.1 other.1 index a;
        rates = λ index a. rates_alike one.0 other.0 one.1 other.1 index a;
      } in
      subst (λ (x : Hearer). Alike x m) one.2 (subst (Alike (hearer_in p t even odd one.0)) other.2 both)

pub unnamed_traces_are_alike : UnnamedTracesAreAlike
unnamed_traces_are_alike p t double s = let said = as_said false p t double s in record { steady = said.steady; alike = said.alike }
