-- What is counted of each receiver by itself says which lists meet.
use Rattle.std.proofs.Common.{◌≡◌, ◌∙◌, ℕ, ◌+◌, ◌*◌, ◌^◌, ◌<◌, if◌then◌else◌, ◌==◌, ◌&&◌, ◌||◌, Bool, true, false, not, List, [], ◌∷◌, map, fold, bit_and, count_by, refl, ap, ap₂, sym, arith, cond}
use Rattle.std.specs.Prelude.{count_ones, nat_le, nat_lt}
use Rattle.std.specs.List.{list_all}
use Rattle.std.proofs.lemmas.List.Folds.{list_all-map}
use Rattle.std.proofs.lemmas.List.Sums.{sum_by-cons}
use Rattle.std.proofs.lemmas.Nat.{and_block, ones_cat}
use Rattle.fr_cluster.specs.declared.nodes.NodeSpec.{NodeSpec}
use Rattle.fr_midpoint.specs.Midpoint.{discarded}
use Rattle.fr_traffic.specs.Meeting.{all_meet, node_bits, has_own, has_some, is_sure, meets, meets_all, receiver_of, sure_bits, with_bit}
use Rattle.fr_traffic.specs.Traffic.{common_count, has_and_meets, has_value, is_correct_sender, lists_meet, may_receive, meets_each, most_count, stays, sure_count, two_meet, Traffic}
use Rattle.fr_traffic.specs.declared.meeting.Receiver.{Receiver}

-- ---- bits

abbrev unit : Bool → ℕ
unit b = cond b 1 0

one_more : (set : Bool) (n : ℕ) → with_bit set n ≡ n * 2 ^ 1 + unit set
one_more true n = omega arith
one_more false n = omega arith

one_below : (set : Bool) → unit set < 2 ^ 1
one_below true = omega arith
one_below false = omega arith

ones_of_one : (set : Bool) → count_ones (unit set) ≡ unit set
unfolding lib.Count.ones
ones_of_one true = refl
ones_of_one false = refl

and_of_one : (one other : Bool) → bit_and (unit one) (unit other) ≡ unit (one && other)
and_of_one true true = refl
and_of_one true false = refl
and_of_one false true = refl
and_of_one false false = refl

ones_with : (set : Bool) (n : ℕ) → count_ones (with_bit set n) ≡ count_ones n + unit set
ones_with set n = ap count_ones (one_more set n) ∙ ones_cat 1 n (unit set) (one_below set) ∙ ap (λ (k : ℕ). count_ones n + k) (ones_of_one set)

and_with : (one other : Bool) (m n : ℕ) → bit_and (with_bit one m) (with_bit other n) ≡ with_bit (one && other) (bit_and m n)
and_with one other m n =
    ap₂ bit_and (one_more one m) (one_more other n) ∙ and_block 1 m n (unit one) (unit other) (one_below one) (one_below other)
    ∙ ap (λ (k : ℕ). bit_and m n * 2 ^ 1 + k) (and_of_one one other) ∙ sym (one_more (one && other) (bit_and m n))

ones_from : (p : NodeSpec → Bool) (xs : List NodeSpec) (m : ℕ) → count_ones (fold (λ bits a. with_bit (p a) bits) m xs) ≡ count_ones m + count_by p xs
ones_from p [] m = omega arith
ones_from p (x ∷ xs) m =
    let so = ones_from p xs (with_bit (p x) m) in
    let first = ones_with (p x) m in
    let cons : count_by p (x ∷ xs) ≡ unit (p x) + count_by p xs = sum_by-cons (λ (n : NodeSpec). unit (p n)) x xs in
    omega (arith, so, first, cons)

none_set : count_ones 0 ≡ 0
unfolding lib.Count.ones
none_set = refl

-- so many bits are set as pass the test; and in both of two numbers as pass both tests
pub ones_of : (p : NodeSpec → Bool) (xs : List NodeSpec) → count_ones (node_bits p xs) ≡ count_by p xs
ones_of p xs =
    let so = ones_from p xs 0 in
    let none = none_set in
    omega (arith, so, none)

both_from : (p q : NodeSpec → Bool) (xs : List NodeSpec) (m n : ℕ)
    → bit_and (fold (λ bits a. with_bit (p a) bits) m xs) (fold (λ bits a. with_bit (q a) bits) n xs)
    ≡ fold (λ bits a. with_bit (p a && q a) bits) (bit_and m n) xs
both_from p q [] m n = refl
both_from p q (x ∷ xs) m n =
    both_from p q xs (with_bit (p x) m) (with_bit (q x) n)
    ∙ ap (λ (k : ℕ). fold (λ bits a. with_bit (p a && q a) bits) k xs) (and_with (p x) (q x) m n)

pub ones_of_both : (p q : NodeSpec → Bool) (xs : List NodeSpec) → count_ones (bit_and (node_bits p xs) (node_bits q xs)) ≡ count_by (λ a. p a && q a) xs
ones_of_both p q xs = ap count_ones (both_from p q xs 0 0) ∙ ones_of (λ a. p a && q a) xs

-- ---- tests of all

module _ {X : Type 0} where
  counted_alike : (p q : X → Bool) (xs : List X) → ((x : X) → p x ≡ q x) → count_by p xs ≡ count_by q xs
  counted_alike p q [] so = refl
  counted_alike p q (x ∷ xs) so =
      let rest = counted_alike p q xs so in
      let one : unit (p x) ≡ unit (q x) = ap unit (so x) in
      let cons : count_by p (x ∷ xs) ≡ unit (p x) + count_by p xs = sum_by-cons (λ (n : X). unit (p n)) x xs in
      let other : count_by q (x ∷ xs) ≡ unit (q x) + count_by q xs = sum_by-cons (λ (n : X). unit (q n)) x xs in
      omega (arith, rest, one, cons, other)

  all_alike : (p q : X → Bool) (xs : List X) → ((x : X) → p x ≡ q x) → list_all p xs ≡ list_all q xs
  all_alike p q [] so = refl
  all_alike p q (x ∷ xs) so = ap₂ (λ (a b : Bool). a && b) (so x) (all_alike p q xs so)

  all_both : (p q : X → Bool) (xs : List X) → list_all (λ x. p x && q x) xs ≡ (list_all p xs && list_all q xs)
  all_both p q [] = refl
  all_both p q (x ∷ xs) = ap (λ (b : Bool). (p x && q x) && b) (all_both p q xs) ∙ by (p x) (q x) (list_all p xs) (list_all q xs)
    where
      by : (a b c d : Bool) → ((a && b) && (c && d)) ≡ ((a && c) && (b && d))
      by true true c d = refl
      by true false true d = refl
      by true false false d = refl
      by false b c d = refl

-- ---- receivers

module _ (rate : Bool) (t : Traffic) (double : ℕ) where
  abbrev of : NodeSpec → Receiver
  of b = receiver_of rate t double b

  abbrev begun : NodeSpec → Bool
  begun b = may_receive t double b

  abbrev known : NodeSpec → Receiver
  known b = record { id = b.id; begun = true; sure = sure_bits rate t double b; discards = discarded (most_count rate t double b) }

  pub begun_is : (b : NodeSpec) (sure discards : ℕ) → begun b ≡ true → sure ≡ sure_bits rate t double b → discards ≡ discarded (most_count rate t double b)
      → (record { id = b.id; begun = true; sure = sure; discards = discards }) ≡ of b
  begun_is b sure discards is sure_is discards_is =
      let made : ℕ → ℕ → Receiver = λ m n. record { id = b.id; begun = true; sure = m; discards = n } in
      let none : Receiver = record { id = b.id; begun = false; sure = 0; discards = 0 } in
      ap₂ made sure_is discards_is ∙ sym (ap (λ (c : Bool). if c then known b else none) is)

  pub absent_is : (b : NodeSpec) (one : Receiver) → begun b ≡ false → one.id ≡ b.id → one.begun ≡ false → one.sure ≡ 0 → one.discards ≡ 0 → one ≡ of b
  absent_is b one is id_is begun_no sure_is discards_is =
      let none : Receiver = record { id = b.id; begun = false; sure = 0; discards = 0 } in
      grind (arith, id_is, begun_no, sure_is, discards_is) ∙ sym (ap (λ (c : Bool). if c then known b else none) is)

  -- one that has begun has a value; and two that have begun meet, where enough bits are set in both
  common : (b c : NodeSpec) → count_ones (bit_and (sure_bits rate t double b) (sure_bits rate t double c)) ≡ common_count rate t double b c
  common b c = ones_of_both (is_sure rate t double b) (is_sure rate t double c) t.nodes ∙ counted_alike (λ a. is_sure rate t double b a && is_sure rate t double c a)
      (λ a. is_correct_sender t a && (stays t a && (has_value rate true t double b a && has_value rate true t double c a))) t.nodes
      (λ a. by (is_correct_sender t a) (stays t a) (has_value rate true t double b a) (has_value rate true t double c a))
    where
      by : (x y v w : Bool) → ((x && (y && v)) && (x && (y && w))) ≡ (x && (y && (v && w)))
      by true true true w = refl
      by true true false w = refl
      by true false v w = refl
      by false y v w = refl

  pub some_is : (b : NodeSpec) → has_some (of b).begun (of b).sure ≡ has_own rate t double b
  some_is b = by (begun b)
    where
      by : (c : Bool) → has_some (if c then known b else record { id = b.id; begun = false; sure = 0; discards = 0 }).begun (if c then known b else record { id = b.id; begun = false; sure = 0; discards = 0 }).sure
          ≡ (not c || nat_le 1 (sure_count rate t double b))
      by true = ap (nat_le 1) (ones_of (is_sure rate t double b) t.nodes)
      by false = refl

  two_is : (b c : NodeSpec) → meets (known b) (of c) ≡ (not (begun c) || (b.id == c.id || two_meet rate t double b c))
  two_is b c = by (begun c)
    where
      by : (d : Bool) → meets (known b) (if d then known c else record { id = c.id; begun = false; sure = 0; discards = 0 }) ≡ (not d || (b.id == c.id || two_meet rate t double b c))
      by true = ap (λ (n : ℕ). b.id == c.id || nat_lt (discarded (most_count rate t double b) + discarded (most_count rate t double c)) n) (common b c)
      by false = refl

  one_is : (b : NodeSpec) → meets_all (map of t.nodes) (of b) ≡ (not (begun b) || meets_each rate t double b)
  one_is b = by (begun b)
    where
      by : (d : Bool) → meets_all (map of t.nodes) (if d then known b else record { id = b.id; begun = false; sure = 0; discards = 0 }) ≡ (not d || meets_each rate t double b)
      by true = list_all-map (meets (known b)) of t.nodes ∙ all_alike (λ c. meets (known b) (of c)) (λ c. not (begun c) || (b.id == c.id || two_meet rate t double b c)) t.nodes (two_is b)
      by false = refl

  all_is : all_meet (map of t.nodes) ≡ list_all (λ b. not (begun b) || meets_each rate t double b) t.nodes
  all_is = list_all-map (meets_all (map of t.nodes)) of t.nodes ∙ all_alike (λ b. meets_all (map of t.nodes) (of b)) (λ b. not (begun b) || meets_each rate t double b) t.nodes one_is

  parted : lists_meet rate t double ≡ (list_all (has_own rate t double) t.nodes && list_all (λ b. not (begun b) || meets_each rate t double b) t.nodes)
  parted =
      all_alike (λ b. not (begun b) || has_and_meets rate t double b) (λ b. has_own rate t double b && (not (begun b) || meets_each rate t double b)) t.nodes
      (λ b. by (begun b) (nat_le 1 (sure_count rate t double b)) (meets_each rate t double b))
      ∙ all_both (has_own rate t double) (λ b. not (begun b) || meets_each rate t double b) t.nodes
    where
      by : (x y z : Bool) → (not x || (y && z)) ≡ ((not x || y) && (not x || z))
      by true y z = refl
      by false y z = refl

  -- lists meet where each has a value and their numbers meet; and not where one has none
  pub meet_by_rows : (receivers : List Receiver) → list_all (has_own rate t double) t.nodes ≡ true → receivers ≡ map of t.nodes → all_meet receivers ≡ lists_meet rate t double
  meet_by_rows receivers own are =
      ap all_meet are ∙ all_is ∙ sym (ap (λ (c : Bool). c && list_all (λ b. not (begun b) || meets_each rate t double b) t.nodes) own) ∙ sym parted

  pub meet_not : list_all (has_own rate t double) t.nodes ≡ false → false ≡ lists_meet rate t double
  meet_not none = sym (parted ∙ ap (λ (c : Bool). c && list_all (λ b. not (begun b) || meets_each rate t double b) t.nodes) none)
