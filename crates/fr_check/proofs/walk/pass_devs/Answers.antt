use Rattle.std.proofs.Common.{◌≡◌, ◌+◌, ◌≤◌, ◌∙◌, List, [], ◌∷◌, length, map, take, drop, ap, sym, subst, None, Some, arith}
use Rattle.std.specs.Option.{option_copied}
use Rattle.std.proofs.lemmas.List.{take_all}
use Rattle.fr_base.specs.declared.dev.Dev.{Dev}
use Rattle.fr_trace.specs.Cycles.{history_by, kept_of}
use Rattle.fr_trace.specs.Items.Item.{Heard}
use Rattle.fr_verdict.specs.Search.{first_from}
use Rattle.fr_verdict.proofs.Parts.{take_one_more}
use Rattle.fr_check.proofs.Walking.{allowed_again, allowed_here, along_found, along_more, first_parts, heard_along, heard_few, no_item, one_item, own_few, own_receiver, own_sound}
use Rattle.fr_check.proofs.walk.pass_devs.Goals as goal

pub loop-dev-init : goal.loop-dev-init
loop-dev-init c = (no_item c.args.params.now c.args.trace.now c.args.number, omega arith, omega arith, λ some. absurd (some c.of_no_slot-allowed.ensures.slot), c.of_no_slot-allowed.ensures.ticks)

pub own_devs-own-requires : goal.own_devs-own-requires
own_devs-own-requires c = c.requires.cycle.devs.ascend

pub reach-requires-clause-slot : goal.reach-requires-clause-slot
reach-requires-clause-slot c =
    (own_sound c.args.params.now c.args.cycle.now.devs.items c.own_devs-own.result.now c.args.node c.loop-dev.dev-index c.dev-item.result c.requires.cycle.devs.each c.own_devs-own.ensures c.loop-dev-test.true c.dev-item.is).static_slot

pub returns-in-Some-clause-found : goal.returns-in-Some-clause-found
returns-in-Some-clause-found c =
    let p = c.args.params.now in
    let t = c.args.trace.now in
    let h = history_by c.args.behind.now in
    let r = kept_of c.args.cycle.now in
    let own = c.own_devs-own.result.now in
    let k = c.loop-dev.dev-index in
    let dev = c.dev-item.result in
    let here =
    allowed_here p t h r c.is_odd_behind-odd.result (option_copied c.sound_row-receiver.result) dev c.reach.new.self c.args.node c.reach.ensures.value c.is_odd_behind-odd.ensures c.sound_row-receiver.ensures.value
    (own_receiver c.args.cycle.now.devs.items own c.args.node k dev c.own_devs-own.ensures c.loop-dev-test.true c.dev-item.is) in
    let found : first_from p t c.loop-dev.next (map (Heard h r) (dev ∷ [])) ≡ Some c.in-Some.breach =
    one_item p t c.loop-dev.next (Heard h r dev) (Some c.in-Some.breach) (sym (c.dev_breach.ensures p t h r c.double_behind-double.ensures.value here) ∙ c.in-Some.is) in
    ap (λ (xs : List Dev). first_from p t c.args.number (map (Heard h r) xs)) (sym c.own_devs-own.ensures)
    ∙ along_found (map (Heard h r)) (heard_along h r) p t c.args.number c.loop-dev.next (take k own) (take (k + 1) own) (drop (k + 1) own) own dev c.in-Some.breach
    (take_one_more own k dev c.loop-dev-test.true c.dev-item.is) (first_parts own (k + 1)) c.loop-dev.invariant.0 c.loop-dev.invariant.1 found

pub loop-dev-preserved : goal.loop-dev-preserved
loop-dev-preserved c =
    let p = c.args.params.now in
    let t = c.args.trace.now in
    let h = history_by c.args.behind.now in
    let r = kept_of c.args.cycle.now in
    let own = c.own_devs-own.result.now in
    let k = c.loop-dev.dev-index in
    let dev = c.dev-item.result in
    let here =
    allowed_here p t h r c.is_odd_behind-odd.result (option_copied c.sound_row-receiver.result) dev c.reach.new.self c.args.node c.reach.ensures.value c.is_odd_behind-odd.ensures c.sound_row-receiver.ensures.value
    (own_receiver c.args.cycle.now.devs.items own c.args.node k dev c.own_devs-own.ensures c.loop-dev-test.true c.dev-item.is) in
    let now : first_from p t c.loop-dev.next (map (Heard h r) (dev ∷ [])) ≡ None =
    one_item p t c.loop-dev.next (Heard h r dev) None (sym (c.dev_breach.ensures p t h r c.double_behind-double.ensures.value here) ∙ c.in-None.is) in
    let more =
    along_more (map (Heard h r)) (heard_along h r) p t c.args.number c.loop-dev.next (c.loop-dev.next + 1) (take k own) (take (k + 1) own) dev
    (take_one_more own k dev c.loop-dev-test.true c.dev-item.is) c.loop-dev.invariant.0 c.loop-dev.invariant.1 now (omega arith) in
    let before = c.loop-dev.invariant.2 in
    (more.0, more.1, omega arith, λ some. allowed_again p t c.is_odd_behind-odd.result r (option_copied c.sound_row-receiver.result) dev c.reach.new.self c.reach.ensures.value, c.reach.ensures.ticks)

pub returns-clause-none : goal.returns-clause-none
returns-clause-none c =
    let p = c.args.params.now in
    let t = c.args.trace.now in
    let h = history_by c.args.behind.now in
    let r = kept_of c.args.cycle.now in
    let own = c.own_devs-own.result.now in
    let done : length own ≤ c.loop-dev.dev-index = omega arith in
    subst (λ (xs : List Dev). first_from p t c.args.number (map (Heard h r) xs) ≡ None) (take_all c.loop-dev.dev-index own done ∙ c.own_devs-own.ensures) c.loop-dev.invariant.0

pub returns-clause-next : goal.returns-clause-next
returns-clause-next c =
    let h = history_by c.args.behind.now in
    let r = kept_of c.args.cycle.now in
    let own = c.own_devs-own.result.now in
    let done : length own ≤ c.loop-dev.dev-index = omega arith in
    subst (λ (xs : List Dev). c.loop-dev.next ≡ c.args.number + length (map (Heard h r) xs)) (take_all c.loop-dev.dev-index own done ∙ c.own_devs-own.ensures) c.loop-dev.invariant.1

pub returns-clause-most : goal.returns-clause-most
returns-clause-most c =
    let r = kept_of c.args.cycle.now in
    let own = c.own_devs-own.result.now in
    let few = own_few c.args.cycle.now.devs.items own c.args.node c.own_devs-own.ensures in
    let most = c.requires.cycle.few_devs in
    let short = heard_few (history_by c.args.behind.now) r own c.loop-dev.dev-index in
    let count = c.loop-dev.invariant.1 in
    omega arith
