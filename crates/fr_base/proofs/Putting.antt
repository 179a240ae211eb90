-- Texts that are put one after the other.
use Rattle.std.proofs.Common.{◌≡◌, ◌≤◌, ℕ, List, [], ◌∷◌, ◌++◌, map, take, Option, Some, None, Result, Ok, Err, refl, sym, ap, subst, ◌∙◌, append_assoc, append-nil, arith}
use Rattle.std.specs.List.{concat}
use Rattle.std.specs.Io.KnownBytes.{Appends}
use Rattle.std.specs.Result.{IsErr}
use Rattle.std.proofs.lemmas.List.{map-append}
use Rattle.std.proofs.lemmas.List.Elements.{All-append, All-cons, All-nil}
use Rattle.std.proofs.lemmas.List.Folds.{concat-append}
use Rattle.fr_base.specs.Device.{AddsPuts, IsEnded, Put, Puts, PutsFront, PutsPiece, PutsWhole, Rose, Sunk, failed_put, whole_put}
use Rattle.fr_base.specs.declared.sink.PutFault.{PutFault}

pub Appends-nil : (told : Option (List ℕ)) → Appends told told []
Appends-nil None = tt
Appends-nil (Some bytes) = sym (append-nil bytes)

pub Appends-trans : (a b c : Option (List ℕ)) (xs ys : List ℕ) → Appends a b xs → Appends b c ys → Appends a c (xs ++ ys)
Appends-trans None b c xs ys p q = tt
Appends-trans (Some told) None c xs ys p q = absurd p
Appends-trans (Some told) (Some next) None xs ys p q = absurd q
Appends-trans (Some told) (Some next) (Some last) xs ys p q = q ∙ ap (λ (l : List ℕ). l ++ ys) p ∙ append_assoc told xs ys

AddsPuts-nil : (told : Option (List Put)) → AddsPuts told told []
AddsPuts-nil None = tt
AddsPuts-nil (Some puts) = sym (append-nil puts)

AddsPuts-trans : (a b c : Option (List Put)) (xs ys : List Put) → AddsPuts a b xs → AddsPuts b c ys → AddsPuts a c (xs ++ ys)
AddsPuts-trans a b None xs ys p q = tt
AddsPuts-trans a None (Some last) xs ys p q = absurd q
AddsPuts-trans None (Some next) (Some last) xs ys p q = absurd p
AddsPuts-trans (Some told) (Some next) (Some last) xs ys p q = q ∙ ap (λ (l : List Put). l ++ ys) p ∙ append_assoc told xs ys

-- the puts of some pieces, and then those of others
whole-append : (a b c : Option (List Put)) (xs ys : List (List ℕ)) → AddsPuts a b (map whole_put xs) → AddsPuts b c (map whole_put ys) → AddsPuts a c (map whole_put (xs ++ ys))
whole-append a b c xs ys p q = subst (AddsPuts a c) (sym (map-append whole_put xs ys)) (AddsPuts-trans a b c (map whole_put xs) (map whole_put ys) p q)

front-append : (a b c : Option (List Put)) (xs ys : List (List ℕ)) (last : List ℕ) → AddsPuts a b (map whole_put xs) → AddsPuts b c (map whole_put ys ++ failed_put last ∷ []) → AddsPuts a c (map whole_put (xs ++ ys) ++ failed_put last ∷ [])
front-append a b c xs ys last p q =
    let behind : List Put = failed_put last ∷ [] in
    let same : map whole_put xs ++ (map whole_put ys ++ behind) ≡ map whole_put (xs ++ ys) ++ behind =
    sym (append_assoc (map whole_put xs) (map whole_put ys) behind) ∙ ap (λ (l : List Put). l ++ behind) (sym (map-append whole_put xs ys)) in
    subst (AddsPuts a c) same (AddsPuts-trans a b c (map whole_put xs) (map whole_put ys ++ behind) p q)

-- a piece of whole lines is a text
pub piece : {a b : Sunk} {text : List ℕ} (result : Result (Unit {0}) PutFault) → IsEnded text → PutsPiece result a b text → Puts result a b text
piece {text = text} (Ok done) ended put = record {
  whole = record { pieces = text ∷ []; ended = All-cons IsEnded text [] ended (All-nil IsEnded); parts = append-nil text; written = put.whole; puts = put.one_put };
  front = tt;
  never_fall = put.never_fall;
}
piece {text = text} (Err fault) ended put = record {
  whole = tt;
  front = record {
    pieces = [];
    last = text;
    rest = [];
    ended = All-nil IsEnded;
    last_ended = ended;
    parts = append-nil text;
    counted = put.failed;
    taken = put.front.0;
    written = put.front.1;
    puts = put.one_put;
  };
  never_fall = put.never_fall;
}

both : {a b c : Sunk} {text rest : List ℕ} → PutsWhole a b text → PutsWhole b c rest → PutsWhole a c (text ++ rest)
both {a} {b} {c} {text} {rest} put next = record {
  pieces = put.pieces ++ next.pieces;
  ended = All-append IsEnded put.pieces next.pieces put.ended next.ended;
  parts =
      concat-append put.pieces next.pieces
      ∙ ap (λ (l : List ℕ). l ++ concat next.pieces) put.parts
      ∙ ap (λ (l : List ℕ). text ++ l) next.parts;
  written = Appends-trans a.written b.written c.written text rest put.written next.written;
  puts = whole-append a.puts b.puts c.puts put.pieces next.pieces put.puts next.puts;
}

-- a text whole, and a front of the next one
front_after : {a b c : Sunk} {text rest : List ℕ} → a.faults ≤ b.faults → PutsWhole a b text → PutsFront b c rest → PutsFront a c (text ++ rest)
front_after {a} {b} {c} {text} {rest} later put next =
    let joined : concat (put.pieces ++ next.pieces) ≡ text ++ concat next.pieces =
    concat-append put.pieces next.pieces ∙ ap (λ (l : List ℕ). l ++ concat next.pieces) put.parts in
    let shifted : (behind : List ℕ) → text ++ (concat next.pieces ++ behind) ≡ concat (put.pieces ++ next.pieces) ++ behind = λ behind.
    sym (append_assoc text (concat next.pieces) behind) ∙ ap (λ (l : List ℕ). l ++ behind) (sym joined) in
    record {
      pieces = put.pieces ++ next.pieces;
      last = next.last;
      rest = next.rest;
      ended = All-append IsEnded put.pieces next.pieces put.ended next.ended;
      last_ended = next.last_ended;
      parts = sym (shifted (next.last ++ next.rest)) ∙ ap (λ (l : List ℕ). text ++ l) next.parts;
      counted = let rose : Rose b.faults c.faults = next.counted in omega (arith, later, rose);
      taken = next.taken;
      written = subst (Appends a.written c.written) (shifted (take next.taken next.last))
          (Appends-trans a.written b.written c.written text (concat next.pieces ++ take next.taken next.last) put.written next.written);
      puts = front-append a.puts b.puts c.puts put.pieces next.pieces next.last put.puts next.puts;
    }

-- a front of a text is a front of the text and what follows
front_longer : {a b : Sunk} {text : List ℕ} (rest : List ℕ) → PutsFront a b text → PutsFront a b (text ++ rest)
front_longer {text = text} rest front = record {
  pieces = front.pieces;
  last = front.last;
  rest = front.rest ++ rest;
  ended = front.ended;
  last_ended = front.last_ended;
  parts =
      ap (λ (l : List ℕ). concat front.pieces ++ l) (sym (append_assoc front.last front.rest rest))
      ∙ sym (append_assoc (concat front.pieces) (front.last ++ front.rest) rest)
      ∙ ap (λ (l : List ℕ). l ++ rest) front.parts;
  counted = front.counted;
  taken = front.taken;
  written = front.written;
  puts = front.puts;
}

-- a text that stopped at its front
pub cut : {fault : PutFault} {a b : Sunk} {text : List ℕ} (result : Result (Unit {0}) PutFault) (rest : List ℕ) → Puts (Err fault) a b text → IsErr result → Puts result a b (text ++ rest)
cut (Ok done) rest put is = absurd cc
cut (Err other) rest put is = record { whole = tt; front = front_longer rest put.front; never_fall = put.never_fall }

-- a text, and then another
pub then : {done : Unit {0}} {a b c : Sunk} {text rest : List ℕ} (result : Result (Unit {0}) PutFault) → Puts (Ok done) a b text → Puts result b c rest → Puts result a c (text ++ rest)
then (Ok all) put next = record { whole = both put.whole next.whole; front = tt; never_fall = omega (arith, put.never_fall, next.never_fall) }
then (Err fault) put next = record { whole = tt; front = front_after put.never_fall put.whole next.front; never_fall = omega (arith, put.never_fall, next.never_fall) }

-- nothing to put
pub puts_none : (a : Sunk) → Puts (Ok tt) a a []
puts_none a = record {
  whole = record { pieces = []; ended = All-nil IsEnded; parts = refl; written = Appends-nil a.written; puts = AddsPuts-nil a.puts };
  front = tt;
  never_fall = omega arith;
}
