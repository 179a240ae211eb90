use Rattle.std.proofs.Common.{◌∙◌, refl}
use Rattle.fr_text.specs.Records.{records_of}
use Rattle.fr_cluster.specs.Numbers.{values_in}
use Rattle.fr_cluster.proofs.Figures.{figure-values_in}
use Rattle.fr_params.specs.Versions.{version_of}
use Rattle.fr_params.proofs.Listing.{sane-lists}
use Rattle.fr_params.proofs.Standing.{fails-of, missing-of, numbers-are, stands-of}
use Rattle.fr_params.proofs.TableOfTwo.{rows-ranged}
use Rattle.fr_params.proofs.reading.read.Goals as goal

pub params_of-requires-clause-ranged : goal.params_of-requires-clause-ranged
params_of-requires-clause-ranged c =
    rows-ranged c.version_told.result c.in_ok-draft.draft.tables.values c.in-Ok.numbers c.in_ok-draft.ensures.holds.holds.tables.ranged c.in-Ok.ensures.all

pub params_of-requires-clause-lists : goal.params_of-requires-clause-lists
params_of-requires-clause-lists c =
    sane-lists (version_of (records_of c.args.bytes.now)) c.in_ok-draft.draft.tables (records_of c.args.bytes.now) _ _ c.in_ok-draft.ensures.holds.holds.tables
    c.in-Ok-listed_nodes.ensures c.in-Ok-listed_slots.ensures

pub returns-in-Err-clause-reads : goal.returns-in-Err-clause-reads
returns-in-Err-clause-reads c =
    missing-of c.in_ok-draft.draft (records_of c.args.bytes.now) c.version_told.result c.in-Err.name c.in_ok-draft.ensures.holds.none c.in_ok-draft.ensures.holds.holds
    c.version_told.ensures c.in-Err.ensures.missing

pub returns-in-Err-Constraint-clause-reads : goal.returns-in-Err-Constraint-clause-reads
returns-in-Err-Constraint-clause-reads c = record {
  values = values_in c.in-Ok.numbers c.in-Ok-listed_nodes.nodes.items c.in-Ok-listed_slots.slots.items;
  none_refused = c.in_ok-draft.ensures.holds.none;
  stands =
      stands-of c.in_ok-draft.draft.tables (records_of c.args.bytes.now)
      (values_in c.in-Ok.numbers c.in-Ok-listed_nodes.nodes.items c.in-Ok-listed_slots.slots.items)
      c.in-Ok.numbers c.in_ok-draft.ensures.holds.holds.tables
      (numbers-are c.in_ok-draft.draft (records_of c.args.bytes.now) c.version_told.result c.in-Ok.numbers c.in_ok-draft.ensures.holds.holds c.version_told.ensures c.in-Ok.ensures.all)
      (figure-values_in c.in-Ok.numbers c.in-Ok-listed_nodes.nodes.items c.in-Ok-listed_slots.slots.items)
      c.in-Ok-listed_nodes.ensures c.in-Ok-listed_slots.ensures;
  fails =
      fails-of (values_in c.in-Ok.numbers c.in-Ok-listed_nodes.nodes.items c.in-Ok-listed_slots.slots.items)
      c.in-Ok.numbers _ _ c.in-Err-Constraint.number
      (figure-values_in c.in-Ok.numbers c.in-Ok-listed_nodes.nodes.items c.in-Ok-listed_slots.slots.items)
      refl refl (rw c.in-Err-Constraint.field-0-is at c.in-Err-Constraint.ensures.fails);
}

pub returns-in-Ok-params_of-clause-reads : goal.returns-in-Ok-params_of-clause-reads
returns-in-Ok-params_of-clause-reads c = record {
  none_refused = c.in_ok-draft.ensures.holds.none;
  stands =
      stands-of c.in_ok-draft.draft.tables (records_of c.args.bytes.now) c.in-Ok-params_of.params c.in-Ok.numbers c.in_ok-draft.ensures.holds.holds.tables
      (numbers-are c.in_ok-draft.draft (records_of c.args.bytes.now) c.version_told.result c.in-Ok.numbers c.in_ok-draft.ensures.holds.holds c.version_told.ensures c.in-Ok.ensures.all)
      c.in-Ok-params_of.ensures.made.figures
      (c.in-Ok-params_of.ensures.made.nodes_are ∙ c.in-Ok-listed_nodes.ensures) (c.in-Ok-params_of.ensures.made.slots_are ∙ c.in-Ok-listed_slots.ensures);
  constraints = c.in-Ok-params_of.ensures.made.sane.constraints;
}
