-- The fields of a drift, as contracts see them.
use Rattle.fr_drift.specs.View.{DriftView}
use Rattle.fr_drift.specs.declared.drift.Drift.TheInside.{Inside}

-- the lists are the entries of the tables: nothing is left out
abbrev pub view_of : Inside → DriftView
view_of a = record {
  doubles = a.doubles;
  compensation_a = a.compensation_a;
  compensation_b = a.compensation_b;
  starts = a.starts.entries;
  lengths = a.lengths.entries;
  delays_a = a.delays_a.entries;
  delays_b = a.delays_b.entries;
}
