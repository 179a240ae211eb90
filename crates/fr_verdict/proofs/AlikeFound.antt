-- The search for the first double cycle in which an arbitrary sync node is not alike finds it.
use Rattle.std.proofs.Common.{◌≡◌, ◌⊎◌, ℕ, zero, suc, ◌*◌, ◌<◌, ◌≤◌, Bool, true, false, not, ◌&&◌, ◌||◌, ℤ, pos, Option, Some, None, List, [], ◌∷◌, refl, ap, ap₂, sym, subst, ◌∙◌, inl, inr, arith, if◌then◌else◌}
use Rattle.std.specs.Prelude.{◌-ℤ◌, ◌≤ℤ◌, Contains, int_le, nat_lt}
use Rattle.std.specs.List.{list_all}
use Rattle.std.specs.Option.{option_map_or, option_or}
use Rattle.std.proofs.lemmas.Bool.{and_from, and_parts, cases_eq}
use Rattle.std.proofs.lemmas.Int.{ints}
use Rattle.fr_base.specs.Within.{IsWithin}
use Rattle.fr_base.specs.declared.node_row.NodeRow.{NodeRow}
use Rattle.fr_cluster.specs.Values.{Values}
use Rattle.fr_cluster.specs.declared.nodes.NodeSpec.{NodeSpec}
use Rattle.fr_cluster.proofs.Elements.{Contains-here, Contains-none, Contains-there}
use Rattle.fr_cluster.proofs.KeyNodes.{Contains-cons_cases}
use Rattle.fr_coverage.specs.First.{first_below}
use Rattle.fr_history.specs.History.{Record, record_at}
use Rattle.fr_precision.specs.Alike.{BothAlike}
use Rattle.fr_trace.specs.Trace.{TraceView, is_named}
use Rattle.fr_verdict.specs.Alike.{alike_offsets, alike_rates, are_all_alike, are_alike_in, are_both_near, first_unlike, is_near_all, is_node_alike, is_said_alike, offset_place, rate_place, unlike_at, AreAllAlike, FirstUnlikeIsFound, IsSaidAlike, LieAlike}

-- ---- numbers and lists

pub below_all : (f : ℕ → Option ℕ) (n k : ℕ) → first_below f n ≡ None → k < n → f k ≡ None
unfolding first_below
below_all f zero k none lt = absurd (omega (arith, lt))
below_all f (suc n) k none lt = elim (last k n lt) [
  | inl same ↦ ap f same ∙ second (first_below f n) (f n) none
  | inr less ↦ below_all f n k (first (first_below f n) (f n) none) less
]
  where
    last : (a b : ℕ) → a < suc b → (a ≡ b) ⊎ (a < b)
    last a b lt = elim (cases_eq a b) [ inl same ↦ inl same | inr other ↦ inr (omega (arith, lt, other)) ]

    first : (a b : Option ℕ) → option_or a b ≡ None → a ≡ None
    first None b is = refl
    first (Some x) b is = absurd (cc is)

    second : (a b : Option ℕ) → option_or a b ≡ None → b ≡ None
    second None b is = is
    second (Some x) b is = absurd (cc is)

-- what is found first is found at a place, and before it nothing is
pub record FoundFirst (f : ℕ → Option ℕ) (n x : ℕ) : Type 0 where
  pub place : ℕ
  pub within : place < n
  pub found : f place ≡ Some x
  pub earlier : (j : ℕ) → j < place → f j ≡ None

pub below_some : (f : ℕ → Option ℕ) (n x : ℕ) → first_below f n ≡ Some x → FoundFirst f n x
unfolding first_below
below_some f zero x is = absurd (cc is)
below_some f (suc n) x is = by_last (first_below f n) refl (λ e. later (below_some f n x e)) is
  where
    later : FoundFirst f n x → FoundFirst f (suc n) x
    later k = let lt = k.within in record { place = k.place; within = omega (arith, lt); found = k.found; earlier = k.earlier }

    by_last : (a : Option ℕ) → first_below f n ≡ a → (first_below f n ≡ Some x → FoundFirst f (suc n) x) → option_or a (f n) ≡ Some x → FoundFirst f (suc n) x
    by_last None e earlier is = record { place = n; within = omega arith; found = is; earlier = λ j lt. below_all f n j e lt }
    by_last (Some y) e earlier is = earlier (e ∙ is)

all_at : {A : Type 0} (test : A → Bool) (xs : List A) (x : A) → list_all test xs ≡ true → Contains xs x → test x ≡ true
all_at test [] x is among = absurd (Contains-none x among)
all_at test (y ∷ ys) x is among =
    let parts = and_parts (test y) (list_all test ys) is in
    elim (Contains-cons_cases y ys x among) [ inl same ↦ ap test (sym same) ∙ parts.0 | inr more ↦ all_at test ys x parts.1 more ]

all_from : {A : Type 0} (test : A → Bool) (xs : List A) → ((x : A) → Contains xs x → test x ≡ true) → list_all test xs ≡ true
all_from test [] each = refl
all_from test (y ∷ ys) each = and_from (test y) (list_all test ys) (each y (Contains-here y ys)) (all_from test ys (λ x among. each x (Contains-there y ys x among)))

-- ---- places

near_both : (bound : ℕ) (a b : Option ℤ) → are_both_near bound a b ≡ true → BothAlike (λ x y. IsWithin (pos bound) (x -ℤ y)) a b
near_both bound None None is = tt
near_both bound None (Some b) is = absurd (cc is)
near_both bound (Some a) None is = absurd (cc is)
near_both bound (Some a) (Some b) is =
    let parts = and_parts (int_le (a -ℤ b) (pos bound)) (int_le (b -ℤ a) (pos bound)) is in
    within a b (pos bound) (at_most (a -ℤ b) (pos bound) parts.0) (at_most (b -ℤ a) (pos bound) parts.1)
  where
    at_most : (x y : ℤ) → int_le x y ≡ true → x ≤ℤ y
    at_most x y is = grind (arith, ints)

    within : (a b c : ℤ) → (a -ℤ b) ≤ℤ c → (b -ℤ a) ≤ℤ c → IsWithin c (a -ℤ b)
    within a b c x y = record { low = omega (arith, ints, x, y); high = omega (arith, ints, x, y) }

both_near : (bound : ℕ) (a b : Option ℤ) → BothAlike (λ x y. IsWithin (pos bound) (x -ℤ y)) a b → are_both_near bound a b ≡ true
both_near bound None None is = refl
both_near bound None (Some b) is = absurd is
both_near bound (Some a) None is = absurd is
both_near bound (Some a) (Some b) is =
    and_from (int_le (a -ℤ b) (pos bound)) (int_le (b -ℤ a) (pos bound)) (told (a -ℤ b) (pos bound) is.high) (told (b -ℤ a) (pos bound) (turned a b (pos bound) is))
  where
    told : (x y : ℤ) → x ≤ℤ y → int_le x y ≡ true
    told x y le = grind (arith, ints)

    turned : (a b c : ℤ) → IsWithin c (a -ℤ b) → (b -ℤ a) ≤ℤ c
    turned a b c is = omega (arith, ints, is.low)

lie_alike : (bound : ℕ) (place : NodeRow → Option ℤ) (rows : List NodeRow) → list_all (is_near_all bound place rows) rows ≡ true → LieAlike bound place rows
lie_alike bound place rows is one other here there =
    near_both bound (place one) (place other)
    (all_at (λ (row : NodeRow). are_both_near bound (place one) (place row)) rows other (all_at (is_near_all bound place rows) rows one is here) there)

alike_lie : (bound : ℕ) (place : NodeRow → Option ℤ) (rows : List NodeRow) → LieAlike bound place rows → list_all (is_near_all bound place rows) rows ≡ true
alike_lie bound place rows lie =
    all_from (is_near_all bound place rows) rows
    (λ one here. all_from (λ (row : NodeRow). are_both_near bound (place one) (place row)) rows (λ other there. both_near bound (place one) (place other) (lie one other here there)))

-- ---- a double cycle

module _ (p : Values) (t : TraceView) where
  told_alike : (even odd : Record) (slot : ℕ) → is_said_alike p even odd slot ≡ true → IsSaidAlike p even odd slot
  told_alike even odd slot is =
      let parts = and_parts (list_all (is_near_all (alike_offsets p) (offset_place odd slot p) odd.rows) odd.rows) (list_all (is_near_all (alike_rates p) (rate_place even odd slot p) odd.rows) odd.rows) is in
      record { offsets = lie_alike (alike_offsets p) (offset_place odd slot p) odd.rows parts.0; rates = lie_alike (alike_rates p) (rate_place even odd slot p) odd.rows parts.1 }

  alike_told : (even odd : Record) (slot : ℕ) → IsSaidAlike p even odd slot → is_said_alike p even odd slot ≡ true
  alike_told even odd slot is =
      and_from (list_all (is_near_all (alike_offsets p) (offset_place odd slot p) odd.rows) odd.rows) (list_all (is_near_all (alike_rates p) (rate_place even odd slot p) odd.rows) odd.rows)
      (alike_lie (alike_offsets p) (offset_place odd slot p) odd.rows is.offsets) (alike_lie (alike_rates p) (rate_place even odd slot p) odd.rows is.rates)

  all_alike : (k : ℕ) → are_all_alike p t k ≡ true → AreAllAlike p t k
  unfolding are_all_alike
  all_alike k is even odd node slot is_even is_odd among key named =
      let both : list_all (is_node_alike p t even odd) p.nodes ≡ true = sym (ap₂ (are_alike_in p t) is_even is_odd) ∙ is in
      let own : is_node_alike p t even odd node ≡ true = all_at (is_node_alike p t even odd) p.nodes node both among in
      told_alike even odd slot (sym (ap₂ (λ (b : Bool) (o : Option ℕ). not b || option_map_or (is_said_alike p even odd) o true) named key) ∙ own)

  one_alike : (even odd : Record) (node : NodeSpec) (b : Bool) (o : Option ℕ) → ((slot : ℕ) → node.key ≡ Some slot → is_named t node.id ≡ true → IsSaidAlike p even odd slot) → is_named t node.id ≡ b → node.key ≡ o
      → (not (is_named t node.id) || option_map_or (is_said_alike p even odd) node.key true) ≡ true
  one_alike even odd node false o alike named key = ap (λ (b : Bool). not b || option_map_or (is_said_alike p even odd) node.key true) named
  one_alike even odd node true None alike named key = ap₂ (λ (b : Bool) (o : Option ℕ). not b || option_map_or (is_said_alike p even odd) o true) named key
  one_alike even odd node true (Some slot) alike named key =
      ap₂ (λ (b : Bool) (o : Option ℕ). not b || option_map_or (is_said_alike p even odd) o true) named key ∙ alike_told even odd slot (alike slot key named)

  alike_all : (k : ℕ) → AreAllAlike p t k → are_all_alike p t k ≡ true
  unfolding are_all_alike
  alike_all k all = by_records (record_at t.history (2 * k)) (record_at t.history (suc (2 * k))) refl refl
    where
      by_records : (a b : Option Record) → record_at t.history (2 * k) ≡ a → record_at t.history (suc (2 * k)) ≡ b → are_alike_in p t a b ≡ true
      by_records None b is_even is_odd = refl
      by_records (Some even) None is_even is_odd = refl
      by_records (Some even) (Some odd) is_even is_odd =
          all_from (is_node_alike p t even odd) p.nodes
          (λ node among. one_alike even odd node (is_named t node.id) node.key (λ slot key named. all even odd node slot is_even is_odd among key named) refl refl)

  -- ---- from a double cycle on

  unlike_none : (double k : ℕ) → double ≤ k → unlike_at p t double k ≡ None → are_all_alike p t k ≡ true
  unlike_none double k from none = by_tests (nat_lt k double) (are_all_alike p t k) (not_less k double from) none
    where
      not_less : (a b : ℕ) → b ≤ a → nat_lt a b ≡ false
      not_less a b le = grind arith

      by_tests : (a b : Bool) → a ≡ false → (if a || b then None else Some k) ≡ None → b ≡ true
      by_tests true b early is = absurd (cc early)
      by_tests false true early is = refl
      by_tests false false early is = absurd (cc is)

  unlike_some : (double k m : ℕ) → unlike_at p t double m ≡ Some k → (m ≡ k) × (double ≤ m) × (are_all_alike p t m ≡ false)
  unlike_some double k m is = by_tests (nat_lt m double) (are_all_alike p t m) refl is
    where
      at_least : (a b : ℕ) → nat_lt a b ≡ false → b ≤ a
      at_least a b is = grind arith

      by_tests : (a b : Bool) → nat_lt m double ≡ a → (if a || b then None else Some m) ≡ Some k → (m ≡ k) × (double ≤ m) × (b ≡ false)
      by_tests true b late is = absurd (cc is)
      by_tests false true late is = absurd (cc is)
      by_tests false false late is = (cc is, at_least m double late, refl)

  found_is : (double k : ℕ) → first_unlike p t double ≡ Some k
      → (double ≤ k) × (k < t.doubles) × (AreAllAlike p t k → ⊥) × ((earlier : ℕ) → double ≤ earlier → earlier < k → AreAllAlike p t earlier)
  found_is double k is =
      let m = below_some (unlike_at p t double) t.doubles k is in
      let at = unlike_some double k m.place m.found in (
        subst (λ (n : ℕ). double ≤ n) at.0 at.1,
        subst (λ (n : ℕ). n < t.doubles) at.0 m.within,
        (λ all. let no : true ≡ false = sym (alike_all k all) ∙ ap (are_all_alike p t) (sym at.0) ∙ at.2 in cc no),
        λ earlier from lt. all_alike earlier (unlike_none double earlier from (m.earlier earlier (subst (λ (n : ℕ). earlier < n) (sym at.0) lt))),
      )

pub first_unlike_is_found : FirstUnlikeIsFound
first_unlike_is_found p t double = (
  λ none k from within. all_alike p t k (unlike_none p t double k from (below_all (unlike_at p t double) t.doubles k none within)),
  λ k is. found_is p t double k is,
)
