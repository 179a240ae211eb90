-- The least two coldstart nodes that share no channel are found, and none where there are no such two.
use Rattle.std.proofs.Common.{◌≡◌, ℕ, zero, suc, ◌+◌, ◌-◌, ◌<◌, ◌≤◌, ◌⊎◌, inl, inr, Bool, true, false, Option, Some, None, refl, ap₂, sym, ◌∙◌, subst, arith}
use Rattle.std.specs.Prelude.{not, ◌&&◌, ◌||◌}
use Rattle.std.proofs.lemmas.Bool.{cases_order}
use Rattle.fr_base.specs.declared.channel.Channel.TheVariants as channel
use Rattle.fr_cluster.specs.Questions.{has_channel, node_of, is_coldstart}
use Rattle.fr_cluster.specs.Values.{Values}
use Rattle.fr_cold.specs.Cluster.{is_sharing}
use Rattle.fr_cold.specs.ColdText.{answer_or, are_apart, first_pair_in, least_apart, paired_or}
use Rattle.fr_cold.specs.Connected.{AreApart, AreLeastApart, IsPairFound}
use Rattle.fr_cold.specs.StartupLaws.{AreConnected}

-- ---- two nodes, either way round

and_swapped : (a b : Bool) → (a && b) ≡ (b && a)
and_swapped true true = refl
and_swapped true false = refl
and_swapped false true = refl
and_swapped false false = refl

sharing_swapped : (p : Values) (a b : ℕ) → is_sharing p a b ≡ is_sharing p b a
sharing_swapped p a b =
    ap₂ (λ (x y : Bool). x || y) (and_swapped (has_channel (node_of p a) channel.A) (has_channel (node_of p b) channel.A))
    (and_swapped (has_channel (node_of p a) channel.B) (has_channel (node_of p b) channel.B))

parts : (x y z : Bool) → (x && (y && not z)) ≡ true → (x ≡ true) × (y ≡ true) × (z ≡ false)
parts true true false is = (refl, refl, refl)
parts true true true is = absurd (cc is)
parts true false z is = absurd (cc is)
parts false y z is = absurd (cc is)

shared : (x y z : Bool) → x ≡ true → y ≡ true → (x && (y && not z)) ≡ false → z ≡ true
shared true true true one two is = refl
shared true true false one two is = absurd (cc is)
shared true false z one two is = absurd (cc two)
shared false y z one two is = absurd (cc one)

are_parts : (x y z : Bool) → x ≡ true → y ≡ true → z ≡ false → (x && (y && not z)) ≡ true
are_parts x y z one two three = rw (one, two, three) refl

-- ---- of some nodes the least that is apart from one

abbrev IsLeastFrom : Values → ℕ → ℕ → ℕ → Option ℕ → Type 0
IsLeastFrom p a b n None = (k : ℕ) → b ≤ k → k < b + n → are_apart p a k ≡ false
IsLeastFrom p a b n (Some c) = (b ≤ c) × (c < b + n) × (are_apart p a c ≡ true) × ((k : ℕ) → b ≤ k → k < c → are_apart p a k ≡ false)

least_is : (p : Values) (a b n : ℕ) → IsLeastFrom p a b n (least_apart p a b n)
unfolding least_apart
least_is p a b zero = λ k from to. absurd (omega (arith, from, to))
least_is p a b (suc n) = by (are_apart p a b) refl (least_apart p a (suc b) n) (least_is p a (suc b) n)
  where
    here_or_later : (k : ℕ) → b ≤ k → (b ≡ k) ⊎ (suc b ≤ k)
    here_or_later k from = grind arith

    by : (is : Bool) → are_apart p a b ≡ is → (later : Option ℕ) → IsLeastFrom p a (suc b) n later → IsLeastFrom p a b (suc n) (answer_or is b later)
    by true e later rest = (omega arith, omega arith, e, λ k from to. absurd (omega (arith, from, to)))
    by false e None rest = λ k from to. elim (here_or_later k from) [
      | inl here ↦ subst (λ (m : ℕ). are_apart p a m ≡ false) here e
      | inr after ↦ rest k after (omega (arith, to))
    ]
    by false e (Some c) rest = (
      let from = rest.0 in omega (arith, from),
      let to = rest.1 in omega (arith, to),
      rest.2,
      λ k from to. elim (here_or_later k from) [
        | inl here ↦ subst (λ (m : ℕ). are_apart p a m ≡ false) here e
        | inr after ↦ rest.3 k after to
      ],
    )

-- ---- of some first nodes the least that is apart from a later one

-- none of the nodes behind one is apart from it
abbrev HasNoneBehind : Values → ℕ → Type 0
HasNoneBehind p c = (k : ℕ) → c < k → k ≤ 64 → are_apart p c k ≡ false

-- these two are apart, the second behind the first, and no lesser one behind it is
record IsPairBehind (p : Values) (a b : ℕ) : Type 0 where
  order : a < b
  few : b ≤ 64
  apart : are_apart p a b ≡ true
  lesser : (k : ℕ) → a < k → k < b → are_apart p a k ≡ false

abbrev IsPairFrom : Values → ℕ → ℕ → Option (ℕ × ℕ) → Type 0
IsPairFrom p a n None = (c : ℕ) → a ≤ c → c < a + n → HasNoneBehind p c
IsPairFrom p a n (Some pair) = (a ≤ pair.0) × (pair.0 < a + n) × IsPairBehind p pair.0 pair.1 × ((c : ℕ) → a ≤ c → c < pair.0 → HasNoneBehind p c)

pair_is : (p : Values) (a n : ℕ) → a + n ≤ 65 → IsPairFrom p a n (first_pair_in p a n)
unfolding first_pair_in
pair_is p a zero few = λ c from to. absurd (omega (arith, from, to))
pair_is p a (suc n) few = by (least_apart p a (suc a) (64 - a)) (least_is p a (suc a) (64 - a)) (first_pair_in p (suc a) n) (pair_is p (suc a) n (omega (arith, few)))
  where
    here_or_later : (c : ℕ) → a ≤ c → (a ≡ c) ⊎ (suc a ≤ c)
    here_or_later c from = grind arith

    none_here : ((k : ℕ) → suc a ≤ k → k < suc a + (64 - a) → are_apart p a k ≡ false) → HasNoneBehind p a
    none_here none k behind most = none k behind (omega (arith, behind, most))

    by : (found : Option ℕ) → IsLeastFrom p a (suc a) (64 - a) found → (later : Option (ℕ × ℕ)) → IsPairFrom p (suc a) n later → IsPairFrom p a (suc n) (paired_or a found later)
    by (Some b) least later rest = (
      omega arith,
      omega arith,
      record { order = least.0; few = let to = least.1 in omega (arith, to, few); apart = least.2; lesser = λ k behind below. least.3 k behind below },
      λ c from to. absurd (omega (arith, from, to)),
    )
    by None least None rest = λ c from to. elim (here_or_later c from) [
      | inl here ↦ subst (HasNoneBehind p) here (none_here least)
      | inr after ↦ rest c after (omega (arith, to))
    ]
    by None least (Some pair) rest = (
      let from = rest.0 in omega (arith, from),
      let to = rest.1 in omega (arith, to),
      rest.2,
      λ c from to. elim (here_or_later c from) [
        | inl here ↦ subst (HasNoneBehind p) here (none_here least)
        | inr after ↦ rest.3 c after to
      ],
    )

-- ---- what is told

-- nodes of which none is apart from a later one are connected
connected : (p : Values) → ((c : ℕ) → 1 ≤ c → c < 65 → HasNoneBehind p c) → AreConnected p
connected p none a b one two other starts starts_too = elim (cases_order a b) [
  | inl same ↦ absurd (other same)
  | inr (inl less) ↦ shared (is_coldstart p a) (is_coldstart p b) (is_sharing p a b) starts starts_too (none a one.from (let to = one.to in omega (arith, to)) b less two.to)
  | inr (inr more) ↦
      sharing_swapped p a b ∙ shared (is_coldstart p b) (is_coldstart p a) (is_sharing p b a) starts_too starts (none b two.from (let to = two.to in omega (arith, to)) a more one.to)
]

-- the first two that are apart are the least
least_pair : (p : Values) (a b : ℕ) → 1 ≤ a → IsPairBehind p a b → ((c : ℕ) → 1 ≤ c → c < a → HasNoneBehind p c) → AreLeastApart p a b
least_pair p a b from pair earlier = record {
  apart = record {
    first = record { from = from; to = let order = pair.order in let few = pair.few in omega (arith, order, few) };
    second = record { from = let order = pair.order in omega (arith, order); to = pair.few };
    order = pair.order;
    first_starts = starts.0;
    second_starts = starts.1;
    none_shared = starts.2;
  };
  least = λ c d other. least c d other;
} where
  starts : (is_coldstart p a ≡ true) × (is_coldstart p b ≡ true) × (is_sharing p a b ≡ false)
  starts = parts (is_coldstart p a) (is_coldstart p b) (is_sharing p a b) pair.apart

  never : (c d : ℕ) → AreApart p c d → are_apart p c d ≡ false → ⊥
  never c d other none = let is = are_parts (is_coldstart p c) (is_coldstart p d) (is_sharing p c d) other.first_starts other.second_starts other.none_shared in cc (sym none ∙ is)

  at_least : (n m : ℕ) → (m < n) ⊎ (n ≤ m)
  at_least n m = grind arith

  least : (c d : ℕ) → AreApart p c d → (a < c) ⊎ ((a ≡ c) × (b ≤ d))
  least c d other = elim (cases_order a c) [
    | inl same ↦ elim (at_least b d) [
      | inl below ↦ absurd (never c d other (subst (λ (n : ℕ). are_apart p n d ≡ false) same (pair.lesser d (subst (λ (n : ℕ). n < d) (sym same) other.order) below)))
      | inr up ↦ inr (same, up)
    ]
    | inr (inl less) ↦ inl less
    | inr (inr more) ↦ absurd (never c d other (earlier c other.first.from more d other.order other.second.to))
  ]

by_pair : (p : Values) (found : Option (ℕ × ℕ)) → IsPairFrom p 1 64 found → IsPairFound p found
by_pair p None none = connected p (λ c from to. none c from (omega (arith, to)))
by_pair p (Some pair) is = least_pair p pair.0 pair.1 is.0 is.2 is.3

pub pair_found : (p : Values) → IsPairFound p (first_pair_in p 1 64)
pair_found p = by_pair p (first_pair_in p 1 64) (pair_is p 1 64 (omega arith))

pub none_exactly : (p : Values) → ((first_pair_in p 1 64 ≡ None) → AreConnected p) × (AreConnected p → first_pair_in p 1 64 ≡ None)
none_exactly p = (λ none. subst (IsPairFound p) none (pair_found p), λ all. by (first_pair_in p 1 64) (pair_found p) all)
  where
    by : (found : Option (ℕ × ℕ)) → IsPairFound p found → AreConnected p → found ≡ None
    by None is all = refl
    by (Some pair) is all =
        let apart = is.apart in
        let shares : is_sharing p pair.0 pair.1 ≡ true =
        all pair.0 pair.1 apart.first apart.second (λ same. let order = apart.order in absurd (omega (arith, same, order))) apart.first_starts apart.second_starts
        in
        absurd (cc (sym apart.none_shared ∙ shares))
