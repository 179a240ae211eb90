-- The fields of a script, as contracts see them.
use Rattle.fr_script.specs.View.{ScriptView}
use Rattle.fr_script.specs.declared.script.Script.TheInside.{Inside}

-- the value of the fields: nothing is left out
abbrev pub seen_of : Inside → ScriptView
seen_of a = record {
  arbitrary = a.arbitrary;
  joins = a.joins;
  on_a = a.on_a;
  on_b = a.on_b;
}
