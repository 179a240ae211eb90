use Rattle.fr_script.proofs.Asked.{next-both}
use Rattle.fr_script.proofs.deeds.DeedTable.next.Goals as goal

pub returns-clause-quiet : goal.returns-clause-quiet
returns-clause-quiet c =
    rw (← c.self.view_is)
    (next-both c.self.inside.rows.entries c.self.inside.said c.args.sender c.args.receiver c.args.cycle c.args.end c.next_said-said.result c.next_in.result c.next_said-said.ensures c.next_in.ensures).quiet

pub returns-clause-stands : goal.returns-clause-stands
returns-clause-stands c =
    rw (← c.self.view_is)
    (next-both c.self.inside.rows.entries c.self.inside.said c.args.sender c.args.receiver c.args.cycle c.args.end c.next_said-said.result c.next_in.result c.next_said-said.ensures c.next_in.ensures).stands
