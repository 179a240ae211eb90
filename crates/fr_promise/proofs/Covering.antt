-- A run without a gap is covered: what each kind of gap would be, were it not.
use Rattle.std.proofs.Common.{◌≡◌, ℕ, suc, ◌+◌, ◌*◌, ◌-◌, ◌<◌, ◌≤◌, ℤ, pos, ◌-ℤ◌, ◌+ℤ◌, ◌≤ℤ◌, Bool, true, false, ◌&&◌, ◌||◌, Some, refl, ap, sym, ◌∙◌, inl, inr, arith, add-one}
use Rattle.std.specs.Prelude.{Contains, int_lt, neg_ℤ}
use Rattle.std.proofs.lemmas.Bool.{and_parts, ne_eqb, or_cases, or_parts}
use Rattle.std.proofs.lemmas.Int.{ints}
use Rattle.fr_base.specs.Event.{Event}
use Rattle.fr_base.specs.Event as event
use Rattle.fr_base.specs.declared.channel.Channel.{Channel}
use Rattle.fr_base.specs.declared.channel.Channel.TheVariants as channel
use Rattle.fr_cluster.specs.Values.{Values, amount}
use Rattle.fr_cluster.specs.Sane.{IsSane}
use Rattle.fr_cluster.specs.Questions.{has_channel}
use Rattle.fr_cluster.specs.declared.names.ParamName.TheVariants as name
use Rattle.fr_cluster.specs.Setting.{Setting, correct_nodes}
use Rattle.fr_cluster.specs.declared.nodes.NodeSpec.{NodeSpec}
use Rattle.fr_bound.specs.Bounds.{longest_micro, shortest_micro}
use Rattle.fr_bound.specs.Checks.{holds_of, left_of, right_of}
use Rattle.fr_midpoint.specs.Receivers.{AreFew}
use Rattle.fr_base.specs.Within.{IsWithin}
use Rattle.fr_bound.specs.Outweighing.{outweighs}
use Rattle.fr_precision.specs.Reception.{IsDelay}
use Rattle.fr_drift.specs.Questions.{delay_of, doubles_of, length_of}
use Rattle.fr_drift.specs.View.{DriftView}
use Rattle.fr_coverage.specs.Coverage.{asked_checks, asked_where, count_of, expected_delay, has_jumped, is_off, is_wrong, some_join}
use Rattle.fr_script.specs.Events.{event_of}
use Rattle.fr_coverage.specs.Order.{HasNoGap, HasNoGapFrom}
use Rattle.fr_coverage.specs.Links.{is_carried, is_carried_on, is_free, is_link, is_regular, shares}
use Rattle.fr_script.specs.View.{ScriptView}
use Rattle.fr_coverage.specs.declared.gap.Gap.TheVariants as gap
use Rattle.fr_coverage.proofs.Checks.{five-asked}
use Rattle.fr_precision.proofs.RoundSenders.{few_by_test}
use Rattle.fr_runs.specs.Links.{IsCarried, IsLinked, Share}
use Rattle.fr_runs.proofs.Nodes.{correct_node, IsCorrectNode}
use Rattle.fr_coverage.specs.Decided.{setting_of}

-- parameters of a cluster, a drift and a script without a gap
pub record HaveNoGap (p : Values) (d : DriftView) (s : ScriptView) : Type 0 where
  pub sane : IsSane p
  pub none : HasNoGap p d s

-- the same from a double cycle on, whatever their checks say
pub record HaveNoGapFrom (p : Values) (d : DriftView) (s : ScriptView) (from : ℕ) : Type 0 where
  pub sane : IsSane p
  pub none : HasNoGapFrom p d s from

pub whatever_checks : (p : Values) (d : DriftView) (s : ScriptView) → HaveNoGap p d s → HaveNoGapFrom p d s 0
whatever_checks p d s w = record { sane = w.sane; none = λ g is behind. w.none g (inr is) }

-- ---- checks and counts

check_holds : (p : Values) (d : DriftView) (s : ScriptView) (number : ℕ) → HaveNoGap p d s → 1 ≤ number → number ≤ asked_checks p s → holds_of number p ≡ true
check_holds p d s number w from to = by_test (holds_of number p) refl
  where
    by_test : (b : Bool) → holds_of number p ≡ b → b ≡ true
    by_test true holds = refl
    by_test false fails =
        absurd (w.none (gap.Check number (pos (left_of number p)) (pos (right_of number p))) (inl (record { number = number; from = from; to = to; fails = fails; told = refl })))

pub first_checks : (p : Values) (d : DriftView) (s : ScriptView) (number : ℕ) → HaveNoGap p d s → 1 ≤ number → number ≤ 5 → holds_of number p ≡ true
first_checks p d s number w from to = let asked : 5 ≤ asked_checks p s = five-asked (some_join p s) in check_holds p d s number w from (omega (arith, to, asked))

-- those of a cluster that nodes join
pub joining_checks : (p : Values) (d : DriftView) (s : ScriptView) (number : ℕ) → HaveNoGap p d s → some_join p s ≡ true → 6 ≤ number → number ≤ 9 → holds_of number p ≡ true
joining_checks p d s number w joins from to =
    let asked : asked_checks p s ≡ 9 = ap asked_where joins in
    check_holds p d s number w (omega (arith, from)) (omega (arith, to, asked))

pub few_nodes : (p : Values) (d : DriftView) (s : ScriptView) (from : ℕ) → HaveNoGapFrom p d s from → AreFew (count_of s false p.nodes) (count_of s true p.nodes)
few_nodes p d s from w = few_by_test (count_of s false p.nodes) (count_of s true p.nodes) (by_test (outweighs (count_of s false p.nodes) (count_of s true p.nodes)) refl)
  where
    by_test : (b : Bool) → outweighs (count_of s false p.nodes) (count_of s true p.nodes) ≡ b → b ≡ true
    by_test true holds = refl
    by_test false fails =
        absurd (w.none (gap.Count (count_of s false p.nodes) (count_of s true p.nodes)) (inl (record { few = fails; told = refl })) tt)

-- ---- microticks

proper_micro : (p : Values) (d : DriftView) (s : ScriptView) (from : ℕ) (node : NodeSpec) (cycle : ℕ) → HaveNoGapFrom p d s from → IsCorrectNode (setting_of p d s) node → 2 * from ≤ cycle → cycle < 2 * doubles_of d → is_off p (length_of d node.id cycle) ≡ false
proper_micro p d s from node cycle w is behind within = by_test (is_off p (length_of d node.id cycle)) refl
  where
    by_test : (b : Bool) → is_off p (length_of d node.id cycle) ≡ b → b ≡ false
    by_test false fits = refl
    by_test true off =
        absurd (w.none (gap.Length node.id cycle (length_of d node.id cycle))
        (inr (inl (record { node = node; there = is.there; correct = is.correct; cycle = cycle; within = within; off = off; told = refl }))) behind)

not_off : (p : Values) (ticks : ℤ) → is_off p ticks ≡ false → (pos (shortest_micro p) ≤ℤ ticks) × (ticks ≤ℤ pos (longest_micro p))
not_off p ticks is =
    let parts : (int_lt ticks (pos (shortest_micro p)) ≡ false) × (int_lt (pos (longest_micro p)) ticks ≡ false) = or_parts (int_lt ticks (pos (shortest_micro p))) (int_lt (pos (longest_micro p)) ticks) is in
    (from ticks (pos (shortest_micro p)) parts.0, from (pos (longest_micro p)) ticks parts.1)
  where
    from : (a b : ℤ) → int_lt a b ≡ false → b ≤ℤ a
    from a b told = grind (arith, ints)

steady_micro : (p : Values) (d : DriftView) (s : ScriptView) (from : ℕ) (node : NodeSpec) (cycle : ℕ) → HaveNoGapFrom p d s from → IsCorrectNode (setting_of p d s) node → 2 * from ≤ cycle → suc cycle < 2 * doubles_of d
    → has_jumped p (length_of d node.id cycle) (length_of d node.id (suc cycle)) ≡ false
steady_micro p d s from node cycle w is behind within =
    let e : suc cycle - 1 ≡ cycle = omega arith in
    ap (λ (n : ℕ). has_jumped p (length_of d node.id n) (length_of d node.id (suc cycle))) (sym e)
    ∙ by_test (has_jumped p (length_of d node.id (suc cycle - 1)) (length_of d node.id (suc cycle))) refl
  where
    by_test : (b : Bool) → has_jumped p (length_of d node.id (suc cycle - 1)) (length_of d node.id (suc cycle)) ≡ b → b ≡ false
    by_test false fits = refl
    by_test true jumped =
        absurd (w.none (gap.Change node.id (suc cycle) (length_of d node.id (suc cycle) -ℤ length_of d node.id (suc cycle - 1)))
        (inr (inr (inl (record { node = node; there = is.there; correct = is.correct; cycle = suc cycle; later = omega arith; within = within; jumped = jumped; told = refl })))) (omega (arith, behind)))

-- a number that lies within a bound of another
near : (bound one other : ℤ) → (int_lt (one +ℤ bound) other || int_lt (other +ℤ bound) one) ≡ false → IsWithin bound (other -ℤ one)
near bound one other is =
    let parts : (int_lt (one +ℤ bound) other ≡ false) × (int_lt (other +ℤ bound) one ≡ false) = or_parts (int_lt (one +ℤ bound) other) (int_lt (other +ℤ bound) one) is in
    record { low = low_of (from (other +ℤ bound) one parts.1); high = high_of (from (one +ℤ bound) other parts.0) }
  where
    from : (a b : ℤ) → int_lt a b ≡ false → b ≤ℤ a
    from a b told = grind (arith, ints)

    low_of : one ≤ℤ (other +ℤ bound) → neg_ℤ bound ≤ℤ (other -ℤ one)
    low_of le = omega (arith, ints)

    high_of : other ≤ℤ (one +ℤ bound) → (other -ℤ one) ≤ℤ bound
    high_of le = omega (arith, ints)

-- ---- delays and links

link_is : (p : Values) (d : DriftView) (s : ScriptView) (sender receiver : NodeSpec) (slot : ℕ) → IsLinked (setting_of p d s) sender receiver slot → is_link s sender receiver ≡ true
link_is p d s sender receiver slot link =
    let sends : IsCorrectNode (setting_of p d s) sender = correct_node (setting_of p d s) sender link.sends in
    let hears : IsCorrectNode (setting_of p d s) receiver = correct_node (setting_of p d s) receiver link.hears in
    rw (link.key, sends.correct, hears.correct, ne_eqb sender.id receiver.id link.other) refl

proper_delay : (p : Values) (d : DriftView) (s : ScriptView) (from : ℕ) (sender receiver : NodeSpec) (slot : ℕ) (ch : Channel) (cycle : ℕ) → HaveNoGapFrom p d s from → IsLinked (setting_of p d s) sender receiver slot
    → Share sender receiver ch → 2 * from ≤ cycle → cycle < 2 * doubles_of d → is_wrong p ch (delay_of d sender.id receiver.id ch cycle) ≡ false
proper_delay p d s from sender receiver slot ch cycle w link share behind within = by_test (is_wrong p ch (delay_of d sender.id receiver.id ch cycle)) refl
  where
    shared : shares sender receiver ch ≡ true
    shared = rw (share.by_sender, share.by_receiver) refl

    by_test : (b : Bool) → is_wrong p ch (delay_of d sender.id receiver.id ch cycle) ≡ b → b ≡ false
    by_test false fits = refl
    by_test true wrong =
        absurd (w.none (gap.Delay sender.id receiver.id ch cycle (delay_of d sender.id receiver.id ch cycle))
        (inr (inr (inr (inl (record {
          sender = sender;
          receiver = receiver;
          sender_there = (correct_node (setting_of p d s) sender link.sends).there;
          receiver_there = (correct_node (setting_of p d s) receiver link.hears).there;
          link = link_is p d s sender receiver slot link;
          ch = ch;
          shared = shared;
          cycle = cycle;
          within = within;
          wrong = wrong;
          told = refl;
        }))))) behind)

delay_near : (p : Values) (ch : Channel) (ticks : ℤ) → is_wrong p ch ticks ≡ false → IsDelay p ch ticks
delay_near p ch ticks is = turned (expected_delay p ch) ticks (pos (amount p name.xDelayError)) is
  where
    turned : (one other bound : ℤ) → (int_lt (other +ℤ bound) one || int_lt (one +ℤ bound) other) ≡ false → IsWithin bound (other -ℤ one)
    turned one other bound is =
        let parts : (int_lt (other +ℤ bound) one ≡ false) × (int_lt (one +ℤ bound) other ≡ false) = or_parts (int_lt (other +ℤ bound) one) (int_lt (one +ℤ bound) other) is in
        near bound one other (rw (parts.0, parts.1) refl)

regular_event : (e : Event) → is_regular e ≡ true → e ≡ event.Regular
regular_event event.Regular is = refl
regular_event event.Silent is = absurd (cc)
regular_event (event.Flip bit) is = absurd (cc)
regular_event (event.Say shift bytes) is = absurd (cc)

carried_on : (p : Values) (d : DriftView) (s : ScriptView) (sender receiver : NodeSpec) (double : ℕ) (ch : Channel) → is_carried_on s sender receiver double ch ≡ true → IsCarried (setting_of p d s) sender receiver double
carried_on p d s sender receiver double ch is =
    let parts : ((shares sender receiver ch && is_free s sender.id receiver.id ch (2 * double)) ≡ true) × (is_free s sender.id receiver.id ch (2 * double + 1) ≡ true) =
    and_parts (shares sender receiver ch && is_free s sender.id receiver.id ch (2 * double)) (is_free s sender.id receiver.id ch (2 * double + 1)) is in
    let early : (shares sender receiver ch ≡ true) × (is_free s sender.id receiver.id ch (2 * double) ≡ true) =
    and_parts (shares sender receiver ch) (is_free s sender.id receiver.id ch (2 * double)) parts.0 in
    let both : (has_channel (Some sender) ch ≡ true) × (has_channel (Some receiver) ch ≡ true) = and_parts (has_channel (Some sender) ch) (has_channel (Some receiver) ch) early.0 in
    record {
      channel = ch;
      share = record { by_sender = both.0; by_receiver = both.1 };
      even = regular_event (event_of s (2 * double) sender.id receiver.id ch) early.1;
      odd = ap (λ (n : ℕ). event_of s n sender.id receiver.id ch) (sym (add-one (2 * double))) ∙ regular_event (event_of s (2 * double + 1) sender.id receiver.id ch) parts.1;
    }

carried : (p : Values) (d : DriftView) (s : ScriptView) (from : ℕ) (sender receiver : NodeSpec) (slot double : ℕ) → HaveNoGapFrom p d s from → IsLinked (setting_of p d s) sender receiver slot → from ≤ double → double < doubles_of d
    → IsCarried (setting_of p d s) sender receiver double
carried p d s from sender receiver slot double w link behind within =
    elim (or_cases (is_carried_on s sender receiver double channel.A) (is_carried_on s sender receiver double channel.B) (by_test (is_carried s sender receiver double) refl)) [
      | inl a ↦ carried_on p d s sender receiver double channel.A a
      | inr b ↦ carried_on p d s sender receiver double channel.B b
    ]
  where
    by_test : (b : Bool) → is_carried s sender receiver double ≡ b → b ≡ true
    by_test true holds = refl
    by_test false broken =
        absurd (w.none (gap.Link sender.id receiver.id double)
        (inr (inr (inr (inr (record {
          sender = sender;
          receiver = receiver;
          sender_there = (correct_node (setting_of p d s) sender link.sends).there;
          receiver_there = (correct_node (setting_of p d s) receiver link.hears).there;
          link = link_is p d s sender receiver slot link;
          double = double;
          within = within;
          broken = broken;
          told = refl;
        }))))) behind)

-- ---- all of it

-- oscillators, delays and links of the correct nodes keep within what is stated, from a double cycle on
pub record KeepWithin (x : Setting) (from : ℕ) : Type 0 where
  pub least :
      (node : NodeSpec) (cycle : ℕ) → Contains (correct_nodes x) node → 2 * from ≤ cycle → cycle < 2 * x.doubles
      → pos (shortest_micro x.params) ≤ℤ x.microtick node.id cycle
  pub most :
      (node : NodeSpec) (cycle : ℕ) → Contains (correct_nodes x) node → 2 * from ≤ cycle → cycle < 2 * x.doubles
      → x.microtick node.id cycle ≤ℤ pos (longest_micro x.params)
  pub changes :
      (node : NodeSpec) (cycle : ℕ) → Contains (correct_nodes x) node → 2 * from ≤ cycle → suc cycle < 2 * x.doubles
      → IsWithin (pos (amount x.params name.xChangeBound)) (x.microtick node.id (suc cycle) -ℤ x.microtick node.id cycle)
  pub delays :
      (sender receiver : NodeSpec) (slot : ℕ) (channel : Channel) (cycle : ℕ)
      → IsLinked x sender receiver slot → Share sender receiver channel → 2 * from ≤ cycle → cycle < 2 * x.doubles
      → IsDelay x.params channel (x.delay sender.id receiver.id channel cycle)
  pub links :
      (sender receiver : NodeSpec) (slot double : ℕ)
      → IsLinked x sender receiver slot → from ≤ double → double < x.doubles → IsCarried x sender receiver double

pub nodes_keep_within : (p : Values) (d : DriftView) (s : ScriptView) (from : ℕ) → HaveNoGapFrom p d s from → KeepWithin (setting_of p d s) from
nodes_keep_within p d s from w = record {
  least = λ node cycle is behind within. (not_off p (length_of d node.id cycle) (proper_micro p d s from node cycle w (correct_node (setting_of p d s) node is) behind within)).0;
  most = λ node cycle is behind within. (not_off p (length_of d node.id cycle) (proper_micro p d s from node cycle w (correct_node (setting_of p d s) node is) behind within)).1;
  changes = λ node cycle is behind within.
      near (pos (amount p name.xChangeBound)) (length_of d node.id cycle) (length_of d node.id (suc cycle)) (steady_micro p d s from node cycle w (correct_node (setting_of p d s) node is) behind within);
  delays = λ sender receiver slot ch cycle link share behind within.
      delay_near p ch (delay_of d sender.id receiver.id ch cycle) (proper_delay p d s from sender receiver slot ch cycle w link share behind within);
  links = λ sender receiver slot double link behind within. carried p d s from sender receiver slot double w link behind within;
}
