-- The fields of the parameters, as contracts see them.
use Rattle.fr_cluster.specs.Values.{Values}
use Rattle.fr_cluster.specs.declared.params.Params.TheInside.{Inside}

-- the value of the fields: nothing is left out
abbrev pub values_of_params : Inside → Values
values_of_params a = record {
  macros = a.macros;
  micros = a.micros;
  static_slots = a.static_slots;
  slot_macros = a.slot_macros;
  action_offset = a.action_offset;
  idle_macros = a.idle_macros;
  words = a.words;
  correction = a.correction;
  max_passive = a.max_passive;
  max_fatal = a.max_fatal;
  halt_allowed = a.halt_allowed;
  to_active = a.to_active;
  damping = a.damping;
  offset_limit = a.offset_limit;
  rate_limit = a.rate_limit;
  compensation_a = a.compensation_a;
  compensation_b = a.compensation_b;
  rate_bound = a.rate_bound;
  change_bound = a.change_bound;
  delay_error = a.delay_error;
  nodes = a.nodes;
  slots = a.slots;
}
