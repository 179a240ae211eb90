use Rattle.std.proofs.Common.{◌∙◌, ap, sym, arith, ℕ, ◌-◌, ◌∷◌}
use Rattle.fr_cold.specs.Leads.{leads_after, leads_in}
use Rattle.fr_cold.specs.Questions.{macroticks_of_run, switches_of}
use Rattle.fr_cold.proofs.Runs.{rest-at, rest-passed, rest-told}
use Rattle.fr_cold.proofs.cold.Cold.step.Goals as goal

pub returns-in-Some-clause-steps : goal.returns-in-Some-clause-steps
returns-in-Some-clause-steps c =
    rest-told c.args.params.now c.args.power.now c.args.self.now.at c.args.self.now.told c.in-Some.node c.requires.within c.in-Some.ensures
    ∙ (λ i. sym c.tell.ensures.lead i ∷ leads_after c.args.params.now c.args.power.now (sym c.tell.ensures.at i) (sym c.tell.ensures.told i))

pub returns-in-None-clause-steps : goal.returns-in-None-clause-steps
returns-in-None-clause-steps c =
    let p = c.args.params.now in
    let v = c.args.power.now in
    let at = c.pass.ensures.at in
    let later = c.skip.ensures.skipped.later in (
      omega arith,
      rest-passed p v c.args.self.now.at c.args.self.now.told c.requires.within c.in-None.ensures
          ∙ ap (λ (t : ℕ). leads_in p (switches_of p v) t (macroticks_of_run p v - t)) (sym c.pass.ensures.at)
          ∙ c.skip.ensures.skipped.same
          ∙ sym (rest-at p v c.skip.new.self.at c.skip.ensures.stands.within)
          ∙ ap (λ (n : ℕ). leads_after p v c.skip.new.self.at n) (sym c.skip.ensures.skipped.told),
    )
