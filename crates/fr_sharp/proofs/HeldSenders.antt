-- Where oscillators do not change, the senders of a run that no node joins have the same microticks in each double cycle: those of
-- the correct sync nodes.
use Rattle.std.proofs.Common.{◌≡◌, ℕ, zero, suc, ◌*◌, ◌<◌, ◌≤◌, Bool, true, false, ◌&&◌, ℤ, Option, Some, None, List, [], ◌∷◌, filter_map, length, map, refl, ap, sym, ◌∙◌, subst, inl, inr, arith, if◌then◌else◌, ◌+◌, ◌-◌}
use Rattle.std.specs.Prelude.{◌-ℤ◌, ◌≤ℤ◌, pos, nat_eq, All, Contains, option_and_then}
use Rattle.std.specs.List.{cons_option, range_with_len}
use Rattle.std.specs.Option.{option_map}
use Rattle.std.proofs.lemmas.Int.{ints}
use Rattle.std.proofs.lemmas.List.Elements.{All-cons, All-nil}
use Rattle.fr_base.specs.Within.{IsWithin}
use Rattle.fr_cluster.specs.Questions.{key_slot_of}
use Rattle.fr_cluster.specs.Setting.{Setting, correct_nodes, is_correct}
use Rattle.fr_cluster.specs.declared.nodes.NodeSpec.{NodeSpec}
use Rattle.fr_cluster.proofs.Elements.{kept_filtered}
use Rattle.fr_midpoint.specs.Receivers.{AreFew}
use Rattle.fr_time.specs.Senders.{key_node_of}
use Rattle.fr_time.proofs.Keys.{key_node_has}
use Rattle.fr_bound.specs.Bounds.{shortest_micro}
use Rattle.fr_precision.specs.Round.{sender_at, sender_by, sender_in, sender_with, senders_of, sync_count, Round}
use Rattle.fr_precision.specs.Rows.{Sender}
use Rattle.fr_precision.proofs.RoundSenders.{and_then_some, senders_counted}
use Rattle.fr_history.specs.Cycles.{Cycle, Cycles}
use Rattle.fr_history.specs.History.{row_for}
use Rattle.fr_history.specs.Standing.{has_row}
use Rattle.fr_runs.specs.Gathered.{round_at}
use Rattle.fr_runs.proofs.Courses.{row_two}
use Rattle.fr_runs.proofs.Doubles.{even_length}
use Rattle.fr_promise.specs.HeldWalks.{micros_of, oscillators_stay}
use Rattle.fr_runs.specs.SteadyRuns.{IsTimedFrom}
use Rattle.fr_runs.proofs.RowsSupplied.{few_in, LawfulRows}
use Rattle.fr_promise.proofs.RunDoubles.{all_among, AllHave}

-- ---- lists of what is there

mapped_option : {X Y : Type 0} (f : X → Y) (o : Option X) (xs : List X) → map f (cons_option o xs) ≡ cons_option (option_map f o) (map f xs)
mapped_option f None xs = refl
mapped_option f (Some x) xs = refl

mapped_filter : {X Y : Type 0} (f : X → Y) (who : ℕ → Option X) (own : ℕ → Option Y) (is : List ℕ) → ((i : ℕ) → option_map f (who i) ≡ own i) → map f (filter_map who is) ≡ filter_map own is
mapped_filter f who own [] each = refl
mapped_filter f who own (i ∷ is) each =
    mapped_option f (who i) (filter_map who is)
    ∙ ap (λ o. cons_option o (map f (filter_map who is))) (each i)
    ∙ ap (cons_option (own i)) (mapped_filter f who own is each)

mapped_then : {X Y Z : Type 0} (f : Y → Z) (one : X → Option Y) (own : X → Option Z) (o : Option X) → ((x : X) → o ≡ Some x → option_map f (one x) ≡ own x)
    → option_map f (option_and_then one o) ≡ option_and_then own o
mapped_then f one own None each = refl
mapped_then f one own (Some x) each = each x refl

told : {Y : Type 0} (P : Y → Type 0) (who : ℕ → Option Y) (i : ℕ) (is : List ℕ) (o : Option Y) → who i ≡ o → ((y : Y) → who i ≡ Some y → P y) → All P (filter_map who is) → All P (cons_option o (filter_map who is))
told P who i is None at holds all = all
told P who i is (Some y) at holds all = All-cons P y (filter_map who is) (holds y at) all

All_told : {Y : Type 0} (P : Y → Type 0) (who : ℕ → Option Y) (is : List ℕ) → ((i : ℕ) (y : Y) → who i ≡ Some y → P y) → All P (filter_map who is)
All_told P who [] each = All-nil P
All_told P who (i ∷ is) each = told P who i is (who i) refl (λ y at. each i y at) (All_told P who is each)

-- ---- a node's microtick

pub unchanged : (bound : ℕ) (a b : ℤ) → nat_eq bound 0 ≡ true → IsWithin (pos bound) (b -ℤ a) → b ≡ a
unchanged bound a b none near = let low = near.low in let high = near.high in let zero : bound ≡ 0 = is_zero bound none in omega (arith, ints, zero, low, high)
  where
    is_zero : (n : ℕ) → nat_eq n 0 ≡ true → n ≡ 0
    is_zero n is = grind arith

same_after : (x : Setting) (from flutter : ℕ) → IsTimedFrom x from flutter → oscillators_stay x.params ≡ true → (node : NodeSpec) → Contains (correct_nodes x) node → (n : ℕ) → 2 * from + n < 2 * x.doubles
    → x.microtick node.id (2 * from + n) ≡ x.microtick node.id (2 * from)
same_after x from flutter covered still node there zero less = let none : 2 * from + 0 ≡ 2 * from = omega arith in ap (λ (cycle : ℕ). x.microtick node.id cycle) none
same_after x from flutter covered still node there (suc n) less =
    let next : 2 * from + suc n ≡ suc (2 * from + n) = omega arith in
    ap (λ (cycle : ℕ). x.microtick node.id cycle) next
    ∙ unchanged _ (x.microtick node.id (2 * from + n)) (x.microtick node.id (suc (2 * from + n))) still (covered.changes node (2 * from + n) there (omega arith) (omega (arith, less)))
    ∙ same_after x from flutter covered still node there n (omega (arith, less))

pub same_microtick : (x : Setting) (from flutter : ℕ) → IsTimedFrom x from flutter → oscillators_stay x.params ≡ true → (node : NodeSpec) → Contains (correct_nodes x) node → (cycle : ℕ) → 2 * from ≤ cycle → cycle < 2 * x.doubles
    → x.microtick node.id cycle ≡ x.microtick node.id (2 * from)
same_microtick x from flutter covered still node there cycle late less =
    let apart : 2 * from + (cycle - 2 * from) ≡ cycle = omega (arith, late) in
    ap (λ (n : ℕ). x.microtick node.id n) (sym apart) ∙ same_after x from flutter covered still node there (cycle - 2 * from) (omega (arith, late, less))

-- ---- those of the correct sync nodes, by key index

own_by : Setting → ℕ → NodeSpec → Option ℤ
own_by x from node = if is_correct x node.id then Some (x.microtick node.id (2 * from)) else None

own_at : Setting → ℕ → ℕ → Option ℤ
own_at x from index = option_and_then (λ slot. option_and_then (own_by x from) (key_node_of x.params slot)) (key_slot_of x.params index)

pub own_micros : Setting → ℕ → List ℤ
own_micros x from = filter_map (own_at x from) (range_with_len 0 15)

-- none is shorter than the shortest
pub own_are_proper : (x : Setting) (from flutter : ℕ) → IsTimedFrom x from flutter → from < x.doubles → All (λ micro. pos (shortest_micro x.params) ≤ℤ micro) (own_micros x from)
unfolding own_micros own_at own_by
own_are_proper x from flutter covered some =
    All_told (λ micro. pos (shortest_micro x.params) ≤ℤ micro) (own_at x from) (range_with_len 0 15)
    (λ index micro is.
    let slot = and_then_some (λ slot. option_and_then (own_by x from) (key_node_of x.params slot)) (key_slot_of x.params index) micro is in
    let node = and_then_some (own_by x from) (key_node_of x.params slot.0) micro slot.2 in
    proper node.0 micro (key_node_has x.params node.0 slot.0 node.1).0 (is_correct x node.0.id) refl node.2)
  where
    proper : (node : NodeSpec) (micro : ℤ) → Contains x.params.nodes node → (b : Bool) → is_correct x node.id ≡ b → (if b then Some (x.microtick node.id (2 * from)) else None) ≡ Some micro
        → pos (shortest_micro x.params) ≤ℤ micro
    proper node micro there true correct is =
        let same : x.microtick node.id (2 * from) ≡ micro = let e : Some (x.microtick node.id (2 * from)) ≡ Some micro = is in cc in
        subst (λ (z : ℤ). pos (shortest_micro x.params) ≤ℤ z) same (covered.least node (2 * from) (kept_filtered (λ (n : NodeSpec). is_correct x n.id) x.params.nodes node there correct) (omega arith) (omega (arith, some)))
    proper node micro there false correct is = absurd (cc)

module _ (x : Setting) (from flutter : ℕ) (h : Cycles) (even odd : Cycle) (double : ℕ) (covered : IsTimedFrom x from flutter) (late : from ≤ double) (s : LawfulRows x flutter h even odd double) (all : AllHave x h)
    (still : oscillators_stay x.params ≡ true) where
  abbrev round : Round
  round = round_at x h even odd

  abbrev micro : Sender → ℤ
  micro sender = sender.even.length

  own_length : (node : NodeSpec) → Contains (correct_nodes x) node → (row_for even.told.rows node.id).length ≡ x.microtick node.id (2 * from)
  own_length node there =
      let counted = s.counted in
      let within = s.within in
      (row_two x h even odd node s.two (even_length (length h) double counted) (all_among x h node all there)).even_length
      ∙ same_microtick x from flutter covered still node there (length h) (omega (arith, counted, late)) (omega (arith, counted, within))

  of_node : (slot : ℕ) (node : NodeSpec) → Contains x.params.nodes node → option_map micro (sender_by round slot node) ≡ own_by x from node
  unfolding own_by
  of_node slot node there = by (is_correct x node.id) refl
    where
      by : (b : Bool) → is_correct x node.id ≡ b
          → option_map micro (if b && has_row x h node.id then Some (sender_with round slot node.id) else None) ≡ (if b then Some (x.microtick node.id (2 * from)) else None)
      by true is =
          let correct = kept_filtered (λ (n : NodeSpec). is_correct x n.id) x.params.nodes node there is in
          let has : has_row x h node.id ≡ true = all node correct in
          let length_is = own_length node correct in
          rw (has, length_is) refl
      by false is = refl

  of_index : (index : ℕ) → option_map micro (sender_at round index) ≡ own_at x from index
  unfolding sender_at own_at
  of_index index =
      mapped_then micro (sender_in round) (λ slot. option_and_then (own_by x from) (key_node_of x.params slot)) (key_slot_of x.params index)
      (λ slot here.
      mapped_then micro (sender_by round slot) (own_by x from) (key_node_of x.params slot)
      (λ node is. of_node slot node (key_node_has x.params node slot is).0))

  pub micros_are_own : micros_of (senders_of round) ≡ own_micros x from
  unfolding own_micros
  micros_are_own = mapped_filter micro (sender_at round) (own_at x from) (range_with_len 0 15) of_index

  -- there is one
  pub some_sender : 1 ≤ length (senders_of round)
  some_sender =
      let counted = senders_counted round s.covered.sane in
      let least = least_of (sync_count x.params round.has_rows) (sync_count x.params x.is_arbitrary) (few_in x double flutter h s.covered) in
      omega (arith, counted, least)
    where
      least_of : (correct arbitrary : ℕ) → AreFew correct arbitrary → 1 ≤ correct
      least_of correct arbitrary (inl none) = none.1
      least_of correct arbitrary (inr (inl one)) = omega (arith, one.1)
      least_of correct arbitrary (inr (inr two)) = omega (arith, two.1)
