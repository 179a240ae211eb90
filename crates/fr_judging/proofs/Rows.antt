-- The rows of what may be there of each of some things.
use Rattle.std.proofs.Math.Seq.{drop-cons}
use Rattle.std.proofs.Common.{◌≡◌, ◌∙◌, ℕ, suc, ◌+◌, ◌<◌, ◌≤◌, List, [], ◌∷◌, ◌++◌, Option, Some, None, Result, Ok, Err, drop, filter_map, get_or, length, option_to_list, append-nil, refl, sym, ap, subst, arith}
use Rattle.std.specs.List.{cons_option, flat_map}
use Rattle.std.specs.Result.{IsErr}
use Rattle.std.proofs.lemmas.List.{drop_all}
use Rattle.fr_base.specs.Device.{Puts, Sunk}
use Rattle.fr_base.specs.declared.sink.PutFault.{PutFault}
use Rattle.fr_base.proofs.Putting.{cut, puts_none, then}

module _ {X Y : Type 0} (h : X → Option Y) (text : Y → List ℕ) where
  abbrev pub one_of : X → List ℕ
  one_of x = flat_map text (option_to_list (h x))

  abbrev pub all_of : List X → List ℕ
  all_of xs = flat_map text (filter_map h xs)

  step : (x : X) (xs : List X) → all_of (x ∷ xs) ≡ one_of x ++ all_of xs
  step x xs = by (h x)
    where
      by : (o : Option Y) → flat_map text (cons_option o (filter_map h xs)) ≡ flat_map text (option_to_list o) ++ flat_map text (filter_map h xs)
      by None = refl
      by (Some y) = ap (λ (l : List ℕ). l ++ flat_map text (filter_map h xs)) (sym (append-nil (text y)))

  behind : (xs : List X) (place : ℕ) (x : X) → place < length xs → x ≡ get_or xs place x → one_of x ++ all_of (drop (place + 1) xs) ≡ all_of (drop place xs)
  behind xs place x lt at =
      let one : place + 1 ≡ suc place = omega arith in
      let cut_is : drop place xs ≡ x ∷ drop (place + 1) xs = drop-cons xs place x lt ∙ (λ i. sym at i ∷ drop (sym one i) xs) in
      sym (step x (drop (place + 1) xs)) ∙ ap all_of (sym cut_is)

  pub rows-next : {done : Unit {0}} {a b c : Sunk} (result : Result (Unit {0}) PutFault) (xs : List X) (place : ℕ) (x : X) → place < length xs → x ≡ get_or xs place x
      → Puts (Ok done) a b (one_of x) → Puts result b c (all_of (drop (place + 1) xs)) → Puts result a c (all_of (drop place xs))
  rows-next {done} {a} {b} {c} result xs place x lt at put rest =
      subst (Puts result a c) (behind xs place x lt at) (then {text = one_of x} {rest = all_of (drop (place + 1) xs)} result put rest)

  pub rows-stop : {fault : PutFault} {a b : Sunk} (result : Result (Unit {0}) PutFault) (xs : List X) (place : ℕ) (x : X) → place < length xs → x ≡ get_or xs place x
      → Puts (Err fault) a b (one_of x) → IsErr result → Puts result a b (all_of (drop place xs))
  rows-stop {fault} {a} {b} result xs place x lt at put is =
      subst (Puts result a b) (behind xs place x lt at) (cut {text = one_of x} result (all_of (drop (place + 1) xs)) put is)

  pub rows-end : (a : Sunk) (xs : List X) (place : ℕ) → length xs ≤ place → Puts (Ok tt) a a (all_of (drop place xs))
  rows-end a xs place done = subst (λ (l : List X). Puts (Ok tt) a a (all_of l)) (sym (drop_all place xs done)) (puts_none a)

-- of the same by another name
pub rows-same : {Y : Type 0} (text : Y → List ℕ) {result : Result (Unit {0}) PutFault} {a b : Sunk} {one same : Option Y} → one ≡ same → Puts result a b (flat_map text (option_to_list one))
    → Puts result a b (flat_map text (option_to_list same))
rows-same {Y} text {result} {a} {b} is put = subst (λ (o : Option Y). Puts result a b (flat_map text (option_to_list o))) is put
