use Rattle.std.proofs.Common.{arith}
use Rattle.fr_cold.specs.Questions.{macroticks_of_run}
use Rattle.fr_cold.proofs.Runs.{quiet-same, quiet-stands}
use Rattle.fr_cold.proofs.cold.Cold.skip.Goals as goal

pub returns-clause-stands : goal.returns-clause-stands
returns-clause-stands c =
    let stands = rw (← c.self.view_is) at c.requires.stands in
    let to = c.next_event-self-inside.ensures.to in
    let value = c.end_tick-end.ensures.value in record {
      within = omega arith;
      states =
          quiet-stands c.args.params.now c.args.power.now c.self.inside.table c.self.inside.at c.next_event-self-inside.result stands.states c.next_event-self-inside.ensures.quiet
          c.next_event-self-inside.ensures.from;
    }

pub returns-clause-skipped : goal.returns-clause-skipped
returns-clause-skipped c =
    let stands = rw (← c.self.view_is) at c.requires.stands in
    let told = rw (← c.self.view_is) at c.requires.told in
    let to = c.next_event-self-inside.ensures.to in
    let value = c.end_tick-end.ensures.value in
    rw (← c.self.view_is) (record {
      later = c.next_event-self-inside.ensures.from;
      told = told;
      same =
          quiet-same c.args.params.now c.args.power.now c.self.inside.table c.self.inside.at c.next_event-self-inside.result (macroticks_of_run c.args.params.now c.args.power.now) stands.states
          c.next_event-self-inside.ensures.quiet c.next_event-self-inside.ensures.from (omega arith);
    })
