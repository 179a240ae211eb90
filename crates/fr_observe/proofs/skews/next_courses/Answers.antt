use Rattle.std.proofs.Common.{◌≡◌, ◌∙◌, ◌+◌, ◌<◌, ◌≤◌, ◌++◌, ◌∷◌, [], List, All, Some, get_or, length, length-append, ap, sym, subst, arith, rules}
use Rattle.fr_course.specs.Near.{IsNearCourse}
use Rattle.fr_course.specs.declared.courses.Course.{Course}
use Rattle.fr_observe.proofs.Onward.{all-push, next-more, next-near, next-none}
use Rattle.fr_observe.proofs.skews.next_courses.Goals as goal

pub returns-in-None-clause-value : goal.returns-in-None-clause-value
returns-in-None-clause-value c =
    let senders = c.args.senders.now in
    let place = c.loop-sender.sender-index in
    let s = c.sender-item.result in
    let lt : place < length senders = omega arith in
    let at : s ≡ get_or senders place s = search rules in
    sym (next-none senders place s lt at c.in-None.is)

pub loop-sender-preserved : goal.loop-sender-preserved
loop-sender-preserved c =
    let senders = c.args.senders.now in
    let place = c.loop-sender.sender-index in
    let s = c.sender-item.result in
    let next = c.in-Some.next in
    let so_far = c.loop-sender.courses in
    let lt : place < length senders = omega arith in
    let at : s ≡ get_or senders place s = search rules in
    let now : c.push.new.self ≡ so_far ++ next ∷ [] = c.push.ensures in
    record {
      value = next-more senders place s so_far next lt at c.in-Some.is c.loop-sender.invariant.value ∙ ap Some (sym now);
      few = omega (arith, ap length now, length-append so_far (next ∷ []), c.loop-sender.invariant.few);
      near =
          subst (All (IsNearCourse c.args.scale.now)) (sym now)
          (all-push (IsNearCourse c.args.scale.now) so_far next c.loop-sender.invariant.near (next-near c.args.scale.now senders place s next lt at c.in-Some.is c.requires.senders));
    }
