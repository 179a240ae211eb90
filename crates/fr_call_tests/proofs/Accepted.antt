-- Records that are accepted behind the first one of a file.
use Rattle.std.proofs.Common.{◌≡◌, pos, negsuc, [], ◌∷◌, None, Result, refl, ap, sym, ◌∙◌, subst, arith}
use Rattle.std.proofs.lemmas.Int.{ints}
use Rattle.fr_base.specs.declared.channel.Channel.TheVariants as channel
use Rattle.fr_base.specs.declared.reason.Reason.{Reason}
use Rattle.fr_text.specs.Fields.{looked_up}
use Rattle.fr_text.specs.Records.{FileRecord}
use Rattle.fr_text.specs.Refusal.{NoneRefused}
use Rattle.fr_text.proofs.Cuts.{none-more}
use Rattle.fr_cluster.specs.Values.{Values}
use Rattle.fr_drift.specs.Adding.{TakesDriftRecord}
use Rattle.fr_drift.specs.Files.{DriftStandsFor}
use Rattle.fr_drift.specs.Reasons.{drift_reason_after, drift_row_reason}
use Rattle.fr_drift.specs.Rows.{IsProperCount}
use Rattle.fr_drift.specs.View.{DriftView}
use Rattle.fr_drift.specs.Written.{delay_record, doubles_record, length_record, start_record}
use Rattle.fr_drift.specs.declared.rows.Row.{Row}
use Rattle.fr_drift.proofs.Adding.{even-accepted, says-delay, says-doubles, says-length, says-start}
use Rattle.fr_script.specs.Adding.{TakesScriptRecord}
use Rattle.fr_script.specs.Files.{ScriptStandsFor}
use Rattle.fr_script.specs.Reasons.{script_reason_after, script_row_reason}
use Rattle.fr_script.specs.View.{ScriptView}
use Rattle.fr_script.specs.Written.{arbitrary_record, say_record}
use Rattle.fr_script.specs.declared.rows.Row.{Row as ScriptRow}
use Rattle.fr_script.proofs.Adding.{says-arbitrary, says-say}
use Rattle.fr_generator.specs.Cluster.{made_values, nodes_to}
use Rattle.fr_generator.proofs.Chances.{first-accepted}

three : IsProperCount 3
three = record { from = omega arith; to = omega arith }

-- behind the number of double cycles
behind_doubles : (r : FileRecord) → drift_reason_after made_values (doubles_record 3 ∷ []) r ≡ None → (p : Values) (d : DriftView) → p ≡ made_values → DriftStandsFor p d (doubles_record 3 ∷ [])
    → TakesDriftRecord p d r
behind_doubles r fine p d is stands = record {
  records = doubles_record 3 ∷ [];
  stands = stands;
  accepted =
      subst (λ (q : Values). NoneRefused (drift_reason_after q) (doubles_record 3 ∷ r ∷ [])) (sym is)
      (none-more (drift_reason_after made_values) (doubles_record 3 ∷ []) r (even-accepted made_values 3 three) fine);
}

start-fine : drift_reason_after made_values (doubles_record 3 ∷ []) (start_record 2 (pos 12) (negsuc 80)) ≡ None
unfolding looked_up nodes_to
start-fine =
    ap (λ (x : Result Row Reason). drift_row_reason made_values (doubles_record 3 ∷ []) x)
    (says-start 2 (record { ticks = pos 12; rate = negsuc 80 }) (omega arith) (omega arith)
    (record { from = omega (arith, ints); to = omega (arith, ints); rate_from = omega (arith, ints); rate_to = omega (arith, ints) }))
    ∙ rw (says-doubles 3 three) refl

length-fine : drift_reason_after made_values (doubles_record 3 ∷ []) (length_record 2 4 (pos 700_000)) ≡ None
unfolding looked_up nodes_to
length-fine =
    ap (λ (x : Result Row Reason). drift_row_reason made_values (doubles_record 3 ∷ []) x)
    (says-length 2 4 (pos 700_000) (omega arith) (omega arith) (omega arith) (record { from = omega (arith, ints); to = omega (arith, ints) }))
    ∙ rw (says-doubles 3 three) refl

delay-fine : drift_reason_after made_values (doubles_record 3 ∷ []) (delay_record 1 3 channel.B 7 (pos 500)) ≡ None
unfolding looked_up nodes_to
delay-fine =
    ap (λ (x : Result Row Reason). drift_row_reason made_values (doubles_record 3 ∷ []) x)
    (says-delay 1 3 channel.B 7 (pos 500) (omega arith) (omega arith) (omega arith) (omega arith) (omega arith) (record { from = omega (arith, ints); to = omega (arith, ints) }))
    ∙ rw (says-doubles 3 three) refl

pub start-taken : (p : Values) (d : DriftView) → p ≡ made_values → DriftStandsFor p d (doubles_record 3 ∷ []) → TakesDriftRecord p d (start_record 2 (pos 12) (negsuc 80))
start-taken = behind_doubles _ start-fine

pub length-taken : (p : Values) (d : DriftView) → p ≡ made_values → DriftStandsFor p d (doubles_record 3 ∷ []) → TakesDriftRecord p d (length_record 2 4 (pos 700_000))
length-taken = behind_doubles _ length-fine

pub delay-taken : (p : Values) (d : DriftView) → p ≡ made_values → DriftStandsFor p d (doubles_record 3 ∷ []) → TakesDriftRecord p d (delay_record 1 3 channel.B 7 (pos 500))
delay-taken = behind_doubles _ delay-fine

-- a first arbitrary node, and what it says
pub arbitrary-taken : (p : Values) (s : ScriptView) → p ≡ made_values → ScriptStandsFor s [] → TakesScriptRecord p s (arbitrary_record 7)
arbitrary-taken p s is stands = record {
  records = [];
  stands = stands;
  accepted = subst (λ (q : Values). NoneRefused (script_reason_after q) (arbitrary_record 7 ∷ [])) (sym is) first-accepted;
}

say-fine : script_reason_after made_values (arbitrary_record 7 ∷ []) (say_record 2 7 1 channel.A (negsuc 4)) ≡ None
unfolding looked_up nodes_to
say-fine =
    ap (λ (x : Result ScriptRow Reason). script_row_reason made_values (arbitrary_record 7 ∷ []) x)
    (says-say 2 7 1 channel.A (negsuc 4) (omega arith) (omega arith) (omega arith) (omega arith) (omega arith) (record { from = omega (arith, ints); to = omega (arith, ints); said = tt }))
    ∙ rw (says-arbitrary 7 (omega arith) (omega arith)) refl

pub say-taken : (p : Values) (s : ScriptView) → p ≡ made_values → ScriptStandsFor s (arbitrary_record 7 ∷ []) → TakesScriptRecord p s (say_record 2 7 1 channel.A (negsuc 4))
say-taken p s is stands = record {
  records = arbitrary_record 7 ∷ [];
  stands = stands;
  accepted =
      subst (λ (q : Values). NoneRefused (script_reason_after q) (arbitrary_record 7 ∷ say_record 2 7 1 channel.A (negsuc 4) ∷ [])) (sym is)
      (none-more (script_reason_after made_values) (arbitrary_record 7 ∷ []) (say_record 2 7 1 channel.A (negsuc 4)) first-accepted say-fine);
}
