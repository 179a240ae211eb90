-- The fields of a log, as contracts see them.
use Rattle.fr_log.specs.View.{LogView}
use Rattle.fr_log.specs.declared.log.Log.TheInside.{Inside}

-- the value of the fields: nothing is left out
abbrev pub log_seen : Inside → LogView
log_seen a = record {
  unit = a.unit;
  drift = a.drift;
  error = a.error;
  jitter = a.jitter;
  flutter = a.flutter;
  lost = a.lost;
  since = a.since;
  whole = a.whole;
  arbitrary = a.arbitrary;
  on_a = a.on_a;
  on_b = a.on_b;
  each = a.each;
  entries = a.entries.items;
}
