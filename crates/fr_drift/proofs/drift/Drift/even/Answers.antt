use Rattle.std.proofs.Common.{[], ◌∷◌, ◌∙◌}
use Rattle.fr_drift.specs.Written.{doubles_record}
use Rattle.fr_drift.proofs.Adding.{even-accepted, even-draft, even-told}
use Rattle.fr_drift.proofs.drift.Drift.even.Goals as goal

pub into_drift-requires-clause-proper : goal.into_drift-requires-clause-proper
into_drift-requires-clause-proper c = (even-draft c.args.params.now c.new-draft.result c.take_doubles.new.self c.args.doubles c.take_doubles.result c.requires c.new-draft.ensures (c.take_doubles.ensures c.args.params.now)).proper

pub into_drift-requires-clause-told : goal.into_drift-requires-clause-told
into_drift-requires-clause-told c = (even-draft c.args.params.now c.new-draft.result c.take_doubles.new.self c.args.doubles c.take_doubles.result c.requires c.new-draft.ensures (c.take_doubles.ensures c.args.params.now)).doubles ∙ even-told c.args.doubles c.requires

pub returns-clause-stands : goal.returns-clause-stands
returns-clause-stands c =
    c.into_drift.ensures (doubles_record c.args.doubles ∷ [])
    (even-draft c.args.params.now c.new-draft.result c.take_doubles.new.self c.args.doubles c.take_doubles.result c.requires c.new-draft.ensures (c.take_doubles.ensures c.args.params.now))

pub returns-clause-fits : goal.returns-clause-fits
returns-clause-fits c = record {
  records = doubles_record c.args.doubles ∷ [];
  none_refused = even-accepted c.args.params.now c.args.doubles c.requires;
  stands =
      c.into_drift.ensures (doubles_record c.args.doubles ∷ [])
      (even-draft c.args.params.now c.new-draft.result c.take_doubles.new.self c.args.doubles c.take_doubles.result c.requires c.new-draft.ensures (c.take_doubles.ensures c.args.params.now));
}
