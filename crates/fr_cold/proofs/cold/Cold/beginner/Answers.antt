use Rattle.std.proofs.Common.{◌≡◌, ◌∙◌, ap, sym, arith, ℕ, List, true, false}
use Rattle.fr_cold.specs.Cluster.{begins_at}
use Rattle.fr_cold.specs.StartupLaws.{IsNumber}
use Rattle.fr_cold.specs.Node.{is_resolved, switched}
use Rattle.fr_cold.specs.declared.state.ColdState.{ColdState}
use Rattle.fr_cold.specs.Cold.{ColdView, state_in}
use Rattle.fr_cold.specs.Questions.{switches_of}
use Rattle.fr_cold.proofs.Runs.{asked-all, asked-none, asked-one, begins-is}
use Rattle.fr_cold.proofs.cold.Cold.beginner.Goals as goal

pub returns-then-resolves : goal.returns-then-resolves
returns-then-resolves c =
    let p = c.args.params.now in
    let v = c.args.power.now in
    let n = c.loop-number.number in
    let from = c.loop-number.invariant.from in
    let number : IsNumber n = record { from = from; to = omega arith } in
    let at_is : c.self.inside.at ≡ c.args.self.now.at = ap (λ (x : ColdView). x.at) c.self.view_is in
    let states_are : c.self.inside.table ≡ c.args.self.now.states = ap (λ (x : ColdView). x.states) c.self.view_is in
    let how : c.switch_of-switch.result ≡ switches_of p v c.args.self.now.at n = c.switch_of-switch.ensures ∙ ap (λ (t : ℕ). switches_of p v t n) at_is in
    let begins : begins_at p (switches_of p v) c.args.self.now.at n ≡ true =
    sym (c.resolves.ensures
    ∙ (λ i. is_resolved (c.cycle_length-cycle.ensures.value i) (at_is i) (switched (how i) (at_is i) c.get.result))
    ∙ begins-is p v c.args.self.now.at n c.get.result (c.get.ensures.value ∙ ap (λ (list : List ColdState). state_in list n) states_are ∙ c.requires.states n number))
    ∙ c.if-resolves.true
    in
    c.loop-number.invariant.asked ∙ asked-one p (switches_of p v) c.args.self.now.at n (omega arith) begins

pub loop-number-preserved : goal.loop-number-preserved
loop-number-preserved c =
    let p = c.args.params.now in
    let v = c.args.power.now in
    let n = c.loop-number.number in
    let from = c.loop-number.invariant.from in
    let number : IsNumber n = record { from = from; to = omega arith } in
    let at_is : c.self.inside.at ≡ c.args.self.now.at = ap (λ (x : ColdView). x.at) c.self.view_is in
    let states_are : c.self.inside.table ≡ c.args.self.now.states = ap (λ (x : ColdView). x.states) c.self.view_is in
    let how : c.switch_of-switch.result ≡ switches_of p v c.args.self.now.at n = c.switch_of-switch.ensures ∙ ap (λ (t : ℕ). switches_of p v t n) at_is in
    let begins : begins_at p (switches_of p v) c.args.self.now.at n ≡ false =
    sym (c.resolves.ensures
    ∙ (λ i. is_resolved (c.cycle_length-cycle.ensures.value i) (at_is i) (switched (how i) (at_is i) c.get.result))
    ∙ begins-is p v c.args.self.now.at n c.get.result (c.get.ensures.value ∙ ap (λ (list : List ColdState). state_in list n) states_are ∙ c.requires.states n number))
    ∙ c.if-resolves.false
    in
    record { from = omega arith; asked = c.loop-number.invariant.asked ∙ asked-none p (switches_of p v) c.args.self.now.at n (omega arith) begins }

pub returns : goal.returns
returns c = c.loop-number.invariant.asked ∙ asked-all c.args.params.now (switches_of c.args.params.now c.args.power.now) c.args.self.now.at c.loop-number.number (omega arith)
