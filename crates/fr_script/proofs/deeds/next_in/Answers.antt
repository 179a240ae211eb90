use Rattle.std.proofs.Common.{◌≡◌, ◌∙◌, ◌∷◌, [], Bool, ap, sym, List}
use Rattle.std.specs.Prelude.{if◌then◌else◌}
use Rattle.std.specs.Map.Iter.{deref_pair}
use Rattle.std.proofs.lemmas.Map.Iter.{rest_all, rest_more}
use Rattle.fr_script.specs.declared.deed.Deed.{Deed}
use Rattle.fr_script.specs.declared.deeds.Passage.{Passage}
use Rattle.fr_script.proofs.Ranges.{first_cycle, next-cycle, part}
use Rattle.fr_script.proofs.deeds.next_in.Goals as goal

pub loop-passage-init : goal.loop-passage-init
loop-passage-init c =
    let whole : c.into_iter-passage-iterator.result ≡ part c.args.sender c.args.receiver c.args.cycle c.args.end c.args.rows.now.entries =
    c.into_iter-passage-iterator.ensures.into_iter_gives ∙ c.range-passage-items.ensures.between tt
    in
    ap (λ (es : List (Passage × Deed)). first_cycle c.args.receiver c.args.end es) (sym whole)

pub loop-passage-preserved : goal.loop-passage-preserved
loop-passage-preserved c =
    let parts : c.loop-passage.passage-iterator ≡ (c.in-Some.passage.now, c.in-Some.field-0-1.now) ∷ c.next.new.self =
    rest_more deref_pair c.loop-passage.passage-iterator c.next.new.self c.next.result (c.in-Some.passage, c.in-Some.field-0-1) c.in-Some.is c.next.ensures.steps
    in
    c.loop-passage.invariant
    ∙ ap (λ (es : List (Passage × Deed)). first_cycle c.args.receiver c.args.end es) parts
    ∙ ap (λ (own : Bool). if own then c.in-Some.passage.now.cycle else first_cycle c.args.receiver c.args.end c.next.new.self) (sym c.eq.ensures ∙ c.if-eq.false)

pub returns-then-eq : goal.returns-then-eq
returns-then-eq c =
    let parts : c.loop-passage.passage-iterator ≡ (c.in-Some.passage.now, c.in-Some.field-0-1.now) ∷ c.next.new.self =
    rest_more deref_pair c.loop-passage.passage-iterator c.next.new.self c.next.result (c.in-Some.passage, c.in-Some.field-0-1) c.in-Some.is c.next.ensures.steps
    in
    next-cycle c.args.sender c.args.receiver c.args.cycle c.args.end c.in-Some.passage.now.cycle c.args.rows.now.entries c.requires c.range-passage-items.ensures.ordered
    (c.loop-passage.invariant
    ∙ ap (λ (es : List (Passage × Deed)). first_cycle c.args.receiver c.args.end es) parts
    ∙ ap (λ (own : Bool). if own then c.in-Some.passage.now.cycle else first_cycle c.args.receiver c.args.end c.next.new.self) (sym c.eq.ensures ∙ c.if-eq.true))

pub returns : goal.returns
returns c =
    let none : c.loop-passage.passage-iterator ≡ [] = rest_all deref_pair c.loop-passage.passage-iterator c.next.new.self c.next.result c.in-None.is c.next.ensures.steps in
    next-cycle c.args.sender c.args.receiver c.args.cycle c.args.end c.args.end c.args.rows.now.entries c.requires c.range-passage-items.ensures.ordered
    (c.loop-passage.invariant ∙ ap (λ (es : List (Passage × Deed)). first_cycle c.args.receiver c.args.end es) none)
