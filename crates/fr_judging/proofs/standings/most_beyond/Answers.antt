use Rattle.std.proofs.Math.Seq.{drop-cons}
use Rattle.std.proofs.Common.{◌≡◌, ◌∙◌, ℕ, suc, ◌+◌, ◌<◌, ◌≤◌, List, ◌∷◌, drop, get_or, length, ap, sym, arith, rules}
use Rattle.std.specs.Prelude.{max}
use Rattle.std.proofs.lemmas.List.{drop_all}
use Rattle.fr_bound.specs.Judged.{from_none}
use Rattle.fr_cluster.specs.Values.{Values}
use Rattle.fr_course.specs.Scales.{Scale}
use Rattle.fr_sightings.specs.declared.sender.Sender.{Sender}
use Rattle.fr_judging.specs.Knowing.{beyond_of, most_beyond}
use Rattle.fr_judging.proofs.standings.most_beyond.Goals as goal

more : (most one rest : ℕ) → max (max most one) rest ≡ max most (max one rest)
more most one rest = omega arith

first : (p : Values) (scale : Scale) (senders : List Sender) (place : ℕ) (s : Sender) → place < length senders → s ≡ get_or senders place s
    → most_beyond p scale (drop place senders) ≡ max (from_none (beyond_of p scale s)) (most_beyond p scale (drop (place + 1) senders))
unfolding most_beyond
first p scale senders place s lt at =
    let one : place + 1 ≡ suc place = omega arith in
    ap (most_beyond p scale) (drop-cons senders place s lt ∙ (λ i. sym at i ∷ drop (sym one i) senders))

none : (p : Values) (scale : Scale) (senders : List Sender) (place most : ℕ) → length senders ≤ place → max most (most_beyond p scale (drop place senders)) ≡ most
unfolding most_beyond
none p scale senders place most done = ap (λ (l : List Sender). max most (most_beyond p scale l)) (drop_all place senders done) ∙ omega arith

pub loop-sender-preserved : goal.loop-sender-preserved
loop-sender-preserved c =
    let p = c.args.params.now in
    let scale = c.args.scale.now in
    let senders = c.args.senders.now in
    let place = c.loop-sender.sender-index in
    let s = c.sender-item.result in
    let at : s ≡ get_or senders place s = search rules in
    let most : c.max-most.result ≡ max c.loop-sender.most (from_none (beyond_of p scale s)) = search rules in
    ap (λ (n : ℕ). max n (most_beyond p scale (drop (place + 1) senders))) most
    ∙ more c.loop-sender.most (from_none (beyond_of p scale s)) (most_beyond p scale (drop (place + 1) senders))
    ∙ ap (max c.loop-sender.most) (sym (first p scale senders place s (omega arith) at))
    ∙ c.loop-sender.invariant

pub returns : goal.returns
returns c =
    sym (none c.args.params.now c.args.scale.now c.args.senders.now c.loop-sender.sender-index c.loop-sender.most (omega arith)) ∙ c.loop-sender.invariant
