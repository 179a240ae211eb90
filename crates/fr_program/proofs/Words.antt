-- What is collected of the words that the system gives.
use Rattle.std.proofs.Common.{◌≡◌, List, [], ◌∷◌, ◌++◌, length, drop, Option, Some, None, Result, Ok, Err, IfOk, IfSome, sym, ap, ◌∙◌, append-nil}
use Rattle.std.proofs.lemmas.List.{nil_from_length}
use Rattle.std.specs.Iterator.{DrainsIf, Yields}
use Rattle.std.specs.Prelude.{Vec, vec_len}
use Rattle.std.specs.Result.{result_ok}
use Rattle.std.specs.Vec.Iter.{into_iter_items, into_iter_steps}
use Rattle.std.specs.declared.vec.IntoIter.{IntoIter}

-- what the iterator of a vector has given is a front of its items
given_front : {X A : Type 0} (from : IntoIter X A) (items : List X) (to : IntoIter X A) → Yields into_iter_steps from items to → into_iter_items from ≡ items ++ into_iter_items to
given_front from [] to yields = ap into_iter_items yields
given_front from (item ∷ items) to yields = yields.1.0 ∙ ap (λ rest. item ∷ rest) (given_front yields.0 items to yields.2)

-- and all of them where none is left
pub all_given : {X A : Type 0} (from : IntoIter X A) (items : List X) → DrainsIf into_iter_steps (Unit {0}) from items → items ≡ into_iter_items from
all_given from items drains =
    let to = drains.0 in
    let none : into_iter_items to ≡ [] = nil_from_length (into_iter_items to) (sym to.rest.ok.0 ∙ (drains.2 tt).1.0) in
    sym (given_front from items to drains.1 ∙ ap (λ rest. items ++ rest) none ∙ append-nil items)

-- behind the first one, where there is one
pub behind_first : {X A : Type 0} (from to : IntoIter X A) (first : Option X) → into_iter_steps from first to → drop 1 (into_iter_items from) ≡ into_iter_items to
behind_first from to None step =
    let none : into_iter_items from ≡ [] = nil_from_length (into_iter_items from) (sym from.rest.ok.0 ∙ step.0) in
    let left : into_iter_items to ≡ [] = nil_from_length (into_iter_items to) (sym to.rest.ok.0 ∙ step.1) in
    ap (λ items. drop 1 items) none ∙ sym left
behind_first from to (Some first) step = ap (λ items. drop 1 items) step.0

-- what was collected of it
pub collected : {X A E : Type 0} (result : Result (Vec X A) E) (from : IntoIter X A) (wanted : List X)
    → IfOk result (λ v. (items : List X) × DrainsIf into_iter_steps (Unit {0}) from items × ((v.items ≡ items) × (vec_len v ≡ length items)))
    → wanted ≡ into_iter_items from → IfSome (result_ok result) (λ words. words.items ≡ wanted)
collected (Ok words) from wanted made is = made.2.0 ∙ all_given from made.0 made.1 ∙ sym is
collected (Err fault) from wanted made is = tt
