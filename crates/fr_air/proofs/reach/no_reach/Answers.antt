use Rattle.fr_air.proofs.reach.no_reach.Goals as goal

pub returns : goal.returns
returns c f cycle rows whole = absurd (cc)
