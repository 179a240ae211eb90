use Rattle.std.proofs.Common.{◌≤◌, ◌∙◌, sym, length, arith}
use Rattle.fr_script.proofs.NextSaid.{later-end, later-found, later-init, later-more, later-over}
use Rattle.fr_script.proofs.sayings.next_from.Goals as goal

pub loop-place-init : goal.loop-place-init
loop-place-init c = later-init c.args.rows.now c.args.place c.args.first.now c.requires.before

pub loop-place-preserved : goal.loop-place-preserved
loop-place-preserved c =
    later-more c.args.rows.now c.loop-place.place c.args.first.now c.index-rows-place.result c.loop-place-test.true c.loop-place.invariant (sym c.is_later.ensures ∙ c.if-is_later.false)

pub returns-then-end-passage : goal.returns-then-end-passage
returns-then-end-passage c =
    later-over c.args.rows.now c.loop-place.place c.args.first.now c.index-rows-place.result c.args.end c.requires.turn c.loop-place-test.true c.loop-place.invariant c.requires.forward c.if-end-passage.true

pub returns-then-is_later : goal.returns-then-is_later
returns-then-is_later c =
    later-found c.args.rows.now c.loop-place.place c.args.first.now c.index-rows-place.result c.args.end c.requires.turn c.loop-place-test.true c.loop-place.invariant (sym c.is_later.ensures ∙ c.if-is_later.true)
    c.if-end-passage.false

pub returns : goal.returns
returns c =
    let all : length c.args.rows.now ≤ c.loop-place.place = omega (arith, c.loop-place-test.false) in
    later-end c.args.rows.now c.loop-place.place c.args.first.now c.args.end all c.loop-place.invariant c.requires.forward
