use Rattle.std.proofs.Common.{◌≡◌, ◌≤◌, ◌⊎◌, ◌∙◌, ◌++◌, ap, sym, length, List, Option, None, false, inl, inr, arith, rules}
use Rattle.std.specs.Prelude.{◌&&◌, is_none, is_some, not, slice_index_or}
use Rattle.fr_text.specs.Fields.{or_else}
use Rattle.fr_script.specs.Deeds.{IsDeedPut, deed_in}
use Rattle.fr_script.specs.declared.deed.Deed.{Deed}
use Rattle.fr_script.specs.declared.deeds.Passage.{Passage}
use Rattle.fr_script.proofs.Asked.{asked-deed, asked-put, both-deed, free-both, ordered-ascend, put-behind, put-first, put-second}
use Rattle.fr_script.proofs.InTurn.{found-nowhere, none-after}
use Rattle.fr_script.proofs.Marks.{marks-after, ok_or_err, unmarked}
use Rattle.fr_script.proofs.deeds.DeedTable.put.Goals as goal

-- ---- a deed that is said behind all others

pub invariant_of-self-then-is_behind : goal.invariant_of-self-then-is_behind
invariant_of-self-then-is_behind c =
    let said : List (Passage × Deed) = c.self.inside.said in
    let all : length said ≤ length said = omega arith in
    let none : deed_in said c.args.passage ≡ None = found-nowhere c.args.passage said (length said) (length said) all (c.is_behind.ensures c.if-is_behind.true) (none-after said c.args.passage) in
    let put : IsDeedPut said c.push.new.self c.args.passage c.args.deed = rw c.in_ok-push.ensures.there (put-behind said c.args.passage c.args.deed none) in
    let low : c.args.passage.sender ≤ 64 = omega (arith, c.place-place.ensures.value, c.place-place.ensures.low) in
    (c.self.invariant.0, rw c.place-place.ensures.value (marks-after c.self.inside.sayers said c.push.new.self c.args.passage c.args.deed low c.self.invariant.1 (inl put)))

pub returns-then-is_behind-clause-there : goal.returns-then-is_behind-clause-there
returns-then-is_behind-clause-there c =
    let rows : List (Passage × Deed) = c.self.inside.rows.entries in
    let said : List (Passage × Deed) = c.self.inside.said in
    let all : length said ≤ length said = omega arith in
    let none : deed_in said c.args.passage ≡ None = found-nowhere c.args.passage said (length said) (length said) all (c.is_behind.ensures c.if-is_behind.true) (none-after said c.args.passage) in
    let put : IsDeedPut said c.push.new.self c.args.passage c.args.deed = rw c.in_ok-push.ensures.there (put-behind said c.args.passage c.args.deed none) in
    let off : slice_index_or c.self.inside.senders c.place-place.result false ≡ false = search rules in
    let free : deed_in rows c.args.passage ≡ None = unmarked c.self.inside.senders rows c.args.passage c.place-place.result c.self.invariant.0 c.place-place.ensures.value c.place-place.ensures.low off in
    rw (← c.self.view_is) (put-second rows said c.push.new.self c.args.passage c.args.deed free put)

pub returns-then-is_behind-clause-ordered : goal.returns-then-is_behind-clause-ordered
returns-then-is_behind-clause-ordered c = λ was. ordered-ascend (c.self.inside.rows.entries ++ c.push.new.self)

pub returns-then-is_behind-clause-free : goal.returns-then-is_behind-clause-free
returns-then-is_behind-clause-free c =
    let rows : List (Passage × Deed) = c.self.inside.rows.entries in
    let said : List (Passage × Deed) = c.self.inside.said in
    let all : length said ≤ length said = omega arith in
    let none : deed_in said c.args.passage ≡ None = found-nowhere c.args.passage said (length said) (length said) all (c.is_behind.ensures c.if-is_behind.true) (none-after said c.args.passage) in
    let off : slice_index_or c.self.inside.senders c.place-place.result false ≡ false = search rules in
    let free : deed_in rows c.args.passage ≡ None = unmarked c.self.inside.senders rows c.args.passage c.place-place.result c.self.invariant.0 c.place-place.ensures.value c.place-place.ensures.low off in
    rw (← c.self.view_is) (sym (ap (λ (o : Option Deed). is_none o) (both-deed rows said c.args.passage ∙ ap (λ (o : Option Deed). or_else o (deed_in said c.args.passage)) free ∙ none)))

-- ---- any other

pub invariant_of-self-2 : goal.invariant_of-self-2
invariant_of-self-2 c =
    let old : List (Passage × Deed) = c.self.inside.rows.entries in
    let new : List (Passage × Deed) = c.insert.new.self.entries in
    let after : IsDeedPut old new c.args.passage c.args.deed ⊎ (new ≡ old) =
    elim (ok_or_err c.insert.result c.insert.ensures.updates c.insert.ensures.err) [
      | inl put ↦ inl (asked-put old new c.args.passage c.args.deed (λ q. put.0 q))
      | inr same ↦ inr same
    ] in
    let low : c.args.passage.sender ≤ 64 = omega (arith, c.place-place.ensures.value, c.place-place.ensures.low) in
    (rw c.place-place.ensures.value (marks-after c.self.inside.senders old new c.args.passage c.args.deed low c.self.invariant.0 after), c.self.invariant.1)

pub returns-clause-there : goal.returns-clause-there
returns-clause-there c =
    let old : List (Passage × Deed) = c.self.inside.rows.entries in
    let new : List (Passage × Deed) = c.insert.new.self.entries in
    rw (← c.self.view_is)
    (put-first old new c.self.inside.said c.args.passage c.args.deed (asked-put old new c.args.passage c.args.deed (λ q. c.in_ok-insert.ensures.updates.0 q)))

pub returns-clause-ordered : goal.returns-clause-ordered
returns-clause-ordered c = λ was. ordered-ascend (c.insert.new.self.entries ++ c.self.inside.said)

pub returns-clause-free : goal.returns-clause-free
returns-clause-free c =
    let old : List (Passage × Deed) = c.self.inside.rows.entries in
    let said : List (Passage × Deed) = c.self.inside.said in
    let was : c.in_ok-insert.field-0 ≡ deed_in old c.args.passage = c.in_ok-insert.ensures.old ∙ asked-deed c.args.passage old in
    let row : c.is_none-free.result ≡ is_none (deed_in old c.args.passage) = rw (← was) (search rules) in
    let other : c.has_saying-said.result ≡ is_some (deed_in said c.args.passage) = c.has_saying-said.ensures in
    rw (← c.self.view_is)
    (c.is_free.ensures
    ∙ (λ i. row i && not (other i))
    ∙ free-both (deed_in old c.args.passage) (deed_in said c.args.passage)
    ∙ ap (λ (o : Option Deed). is_none o) (sym (both-deed old said c.args.passage)))
