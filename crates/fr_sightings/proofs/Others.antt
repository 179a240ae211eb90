-- The courses of the senders but one, and the values of a sender.
use Rattle.std.proofs.Common.{◌≡◌, ◌∙◌, ℕ, zero, suc, ◌+◌, ◌==◌, ◌<◌, ◌≤◌, Bool, true, false, not, cond, List, [], ◌∷◌, length, map, count_by, slice_index_or, eq-eqb, refl, ap, arith}
use Rattle.std.specs.List.{Contains, filter}
use Rattle.std.proofs.lemmas.List.{length-map}
use Rattle.std.proofs.lemmas.List.Filters.{length-filter_both}
use Rattle.std.proofs.lemmas.List.Sums.{length-filter, sum_by-cons}
use Rattle.fr_course.specs.Computed.{own_value}
use Rattle.fr_course.specs.declared.courses.Course.{Course}
use Rattle.fr_course.specs.declared.intervals.Interval.{Interval}
use Rattle.fr_sightings.specs.Computing.{heard_courses}
use Rattle.fr_sightings.specs.declared.sender.Sender.{Sender}

abbrev pub is_other : ℕ → Sender → Bool
is_other node s = not (s.node == node)

cons-count : {X : Type 0} (q : X → Bool) (x : X) (xs : List X) → count_by q (x ∷ xs) ≡ cond (q x) 1 0 + count_by q xs
cons-count {X} q x xs = sum_by-cons (λ (y : X). cond (q y) 1 0) x xs

one-passes : (b : Bool) → b ≡ true → 1 ≤ cond b 1 0
one-passes true is = omega arith
one-passes false is = absurd cc

counts-one : {X : Type 0} (q : X → Bool) (xs : List X) (k : ℕ) (x : X) → k < length xs → slice_index_or xs k x ≡ x → q x ≡ true → 1 ≤ count_by q xs
counts-one q [] k x lt is passes = absurd (omega (arith, lt))
counts-one q (y ∷ ys) zero x lt is passes = omega (arith, cons-count q y ys, one-passes (q y) (ap q is ∙ passes))
counts-one q (y ∷ ys) (suc k) x lt is passes = omega (arith, cons-count q y ys, counts-one q ys k x (omega (arith, lt)) is passes)

same-node : (node : ℕ) → (node == node) ≡ true
same-node node = eq-eqb node node refl

twice-not : (b : Bool) → b ≡ not (not b)
twice-not true = refl
twice-not false = refl

pub others-few : (senders : List Sender) (s : Sender) → length senders ≤ 64 → Contains senders s → length (heard_courses senders s.node) ≤ 63
others-few senders s few among =
    let one : 1 ≤ count_by (λ t. t.node == s.node) senders = counts-one (λ (t : Sender). t.node == s.node) senders among.0 s among.1 among.2 (same-node s.node) in
    let both : length (filter (is_other s.node) senders) + length (filter (λ t. t.node == s.node) senders) ≡ length senders =
    length-filter_both (is_other s.node) (λ (t : Sender). t.node == s.node) (λ t. twice-not (t.node == s.node)) senders in
    let counted : length (filter (λ t. t.node == s.node) senders) ≡ count_by (λ t. t.node == s.node) senders = length-filter (λ (t : Sender). t.node == s.node) senders in
    let long : length (heard_courses senders s.node) ≡ length (filter (is_other s.node) senders) = length-map (filter (is_other s.node) senders) (λ (t : Sender). t.course) in
    omega (arith, few, one, both, counted, long)

-- its own value and one of each other sender are no more than there are senders
pub values-few : (f : Course → Interval) (senders : List Sender) (s : Sender) → length senders ≤ 64 → Contains senders s
    → length (own_value ∷ map f (heard_courses senders s.node)) ≤ 64
values-few f senders s few among =
    omega (arith, others-few senders s few among, length-map (heard_courses senders s.node) f)
