-- Contradictions that are told one after the other, and those of each of some things.
use Rattle.std.proofs.Math.Seq.{drop-cons}
use Rattle.std.proofs.Common.{◌≡◌, ◌∙◌, ℕ, suc, ◌+◌, ◌<◌, ◌≤◌, List, [], ◌∷◌, ◌++◌, Option, Some, None, is_none, Result, Ok, Err, OnOk, drop, get_or, length, option_to_list, filter_map, append-nil, refl, ap, sym, subst, arith}
use Rattle.std.specs.List.{cons_option, flat_map}
use Rattle.std.specs.Option.{option_or}
use Rattle.std.specs.Result.{IsErr}
use Rattle.std.proofs.lemmas.Grind.{flat_map-append}
use Rattle.std.proofs.lemmas.List.{drop_all}
use Rattle.fr_base.specs.Device.{Puts, Sunk}
use Rattle.fr_base.specs.declared.sink.PutFault.{PutFault}
use Rattle.fr_base.proofs.Putting.{cut, puts_none, then}
use Rattle.fr_observe.specs.Faults.{fault_row, first_of_faults, is_nil}
use Rattle.fr_observe.specs.Telling.{TellsFaults}
use Rattle.fr_observe.specs.declared.fault.Fault.{Fault}

-- ---- the first one

or-none : (first : Option Fault) → option_or first None ≡ first
or-none None = refl
or-none (Some fault) = refl

first-append : (first : Option Fault) (told more : List Fault) → option_or (option_or first (first_of_faults told)) (first_of_faults more) ≡ option_or first (first_of_faults (told ++ more))
first-append (Some fault) told more = refl
first-append None [] more = refl
first-append None (fault ∷ told) more = refl

-- ---- some, and then others

kept : (result : Result (Unit {0}) PutFault) (x y z : Option Fault) (told more : List Fault) → y ≡ option_or x (first_of_faults told) → OnOk result (z ≡ option_or y (first_of_faults more))
    → OnOk result (z ≡ option_or x (first_of_faults (told ++ more)))
kept (Ok done) x y z told more is then_is = then_is ∙ ap (λ (o : Option Fault). option_or o (first_of_faults more)) is ∙ first-append x told more
kept (Err fault) x y z told more is then_is = tt

unkept : (result : Result (Unit {0}) PutFault) (P : Type 0) → IsErr result → OnOk result P
unkept (Ok done) P is = absurd cc
unkept (Err fault) P is = tt

pub told_then : {done : Unit {0}} {a b c : Sunk} {x y z : Option Fault} {told more : List Fault} (result : Result (Unit {0}) PutFault) → TellsFaults (Ok done) a b x y told
    → TellsFaults result b c y z more → TellsFaults result a c x z (told ++ more)
told_then {a = a} {c = c} {x = x} {y = y} {z = z} {told = told} {more = more} result one next = record {
  puts = subst (Puts result a c) (sym (flat_map-append fault_row told more)) (then result one.puts next.puts);
  first = kept result x y z told more one.first next.first;
}

pub told_cut : {fault : PutFault} {a b : Sunk} {x y : Option Fault} {told : List Fault} (result : Result (Unit {0}) PutFault) (more : List Fault) → TellsFaults (Err fault) a b x y told
    → IsErr result → TellsFaults result a b x y (told ++ more)
told_cut {a = a} {b = b} {x = x} {y = y} {told = told} result more one is = record {
  puts = subst (Puts result a b) (sym (flat_map-append fault_row told more)) (cut result (flat_map fault_row more) one.puts is);
  first = unkept result (y ≡ option_or x (first_of_faults (told ++ more))) is;
}

module _ {fault : PutFault} {a b : Sunk} {x y : Option Fault} {told : List Fault} (result : Result (Unit {0}) PutFault) where
  pub told_cut_two : (more next : List Fault) → TellsFaults (Err fault) a b x y told → IsErr result → TellsFaults result a b x y (told ++ more ++ next)
  told_cut_two more next one is = told_cut result next (told_cut {fault = fault} (Err fault) more one refl) is

  pub told_cut_three : (more next last : List Fault) → TellsFaults (Err fault) a b x y told → IsErr result → TellsFaults result a b x y (told ++ more ++ next ++ last)
  told_cut_three more next last one is = told_cut result last (told_cut {fault = fault} (Err fault) next (told_cut {fault = fault} (Err fault) more one refl) refl) is

  pub told_cut_four : (more next third last : List Fault) → TellsFaults (Err fault) a b x y told → IsErr result → TellsFaults result a b x y (told ++ more ++ next ++ third ++ last)
  told_cut_four more next third last one is =
      told_cut result last (told_cut {fault = fault} (Err fault) third (told_cut {fault = fault} (Err fault) next (told_cut {fault = fault} (Err fault) more one refl) refl) refl) is

pub told_none : (a : Sunk) (first : Option Fault) → TellsFaults (Ok tt) a a first first []
told_none a first = record { puts = puts_none a; first = sym (or-none first) }

always : (result : Result (Unit {0}) PutFault) (P : Type 0) → P → OnOk result P
always (Ok done) P is = is
always (Err fault) P is = tt

-- one that is there
pub told_one : {a b : Sunk} {x y : Option Fault} (result : Result (Unit {0}) PutFault) (fault : Fault) (line : List ℕ) → line ≡ fault_row fault → y ≡ option_or x (Some fault) → Puts result a b line
    → TellsFaults result a b x y (fault ∷ [])
told_one {a = a} {b = b} {x = x} {y = y} result fault line is kept put = record {
  puts = subst (Puts result a b) (is ∙ sym (append-nil (fault_row fault))) put;
  first = always result (y ≡ option_or x (Some fault)) kept;
}

pub told_is : {result : Result (Unit {0}) PutFault} {a b : Sunk} {x y : Option Fault} {fault same : Option Fault} → fault ≡ same → TellsFaults result a b x y (option_to_list fault)
    → TellsFaults result a b x y (option_to_list same)
told_is {result = result} {a = a} {b = b} {x = x} {y = y} is told = subst (λ (o : Option Fault). TellsFaults result a b x y (option_to_list o)) is told

pub told_same : {result : Result (Unit {0}) PutFault} {a b : Sunk} {x y : Option Fault} {fault same : Fault} → fault ≡ same → TellsFaults result a b x y (fault ∷ [])
    → TellsFaults result a b x y (same ∷ [])
told_same {result = result} {a = a} {b = b} {x = x} {y = y} is told = subst (λ (f : Fault). TellsFaults result a b x y (f ∷ [])) is told

pub told_all : {result : Result (Unit {0}) PutFault} {a b : Sunk} {x y : Option Fault} {faults same : List Fault} → faults ≡ same → TellsFaults result a b x y faults
    → TellsFaults result a b x y same
told_all {result = result} {a = a} {b = b} {x = x} {y = y} is told = subst (TellsFaults result a b x y) is told

-- ---- of each of some things

module _ {X : Type 0} (f : X → List Fault) (all : List X → List Fault) (step : (x : X) (xs : List X) → all (x ∷ xs) ≡ f x ++ all xs) where
  behind : (xs : List X) (place : ℕ) (x : X) → place < length xs → x ≡ get_or xs place x → f x ++ all (drop (place + 1) xs) ≡ all (drop place xs)
  behind xs place x lt at =
      let one : place + 1 ≡ suc place = omega arith in
      let cut_is : drop place xs ≡ x ∷ drop (place + 1) xs = drop-cons xs place x lt ∙ (λ i. sym at i ∷ drop (sym one i) xs) in
      sym (step x (drop (place + 1) xs)) ∙ ap all (sym cut_is)

  pub told_next : {done : Unit {0}} {a b c : Sunk} {p q r : Option Fault} (result : Result (Unit {0}) PutFault) (xs : List X) (place : ℕ) (x : X)
      → place < length xs → x ≡ get_or xs place x → TellsFaults (Ok done) a b p q (f x) → TellsFaults result b c q r (all (drop (place + 1) xs))
      → TellsFaults result a c p r (all (drop place xs))
  told_next {done} {a} {b} {c} {p} {q} {r} result xs place x lt at one rest = subst (TellsFaults result a c p r) (behind xs place x lt at) (told_then result one rest)

  pub told_stop : {fault : PutFault} {a b : Sunk} {p q : Option Fault} (result : Result (Unit {0}) PutFault) (xs : List X) (place : ℕ) (x : X)
      → place < length xs → x ≡ get_or xs place x → TellsFaults (Err fault) a b p q (f x) → IsErr result → TellsFaults result a b p q (all (drop place xs))
  told_stop {fault} {a} {b} {p} {q} result xs place x lt at one is =
      subst (TellsFaults result a b p q) (behind xs place x lt at) (told_cut result (all (drop (place + 1) xs)) one is)

  pub told_end : (a : Sunk) (first : Option Fault) (xs : List X) (place : ℕ) → all [] ≡ [] → length xs ≤ place → TellsFaults (Ok tt) a a first first (all (drop place xs))
  told_end a first xs place none done =
      subst (TellsFaults (Ok tt) a a first first) (sym (ap all (drop_all place xs done) ∙ none)) (told_none a first)

-- what may be there of each
pub may-step : {X : Type 0} (g : X → Option Fault) (x : X) (xs : List X) → filter_map g (x ∷ xs) ≡ option_to_list (g x) ++ filter_map g xs
may-step g x xs = by (g x)
  where
    by : (o : Option Fault) → cons_option o (filter_map g xs) ≡ option_to_list o ++ filter_map g xs
    by None = refl
    by (Some fault) = refl

-- there is a first one where there are some
pub clean-is : (faults : List Fault) → is_none (first_of_faults faults) ≡ is_nil faults
clean-is [] = refl
clean-is (fault ∷ faults) = refl
