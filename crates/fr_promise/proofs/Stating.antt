-- A run without a gap is a covered one.
use Rattle.std.proofs.Common.{◌≡◌, ℕ, ◌==◌, Bool, true, false, Option, Some, None, refl, ap, sym, ◌∙◌, arith}
use Rattle.std.specs.Prelude.{Contains, not, is_some}
use Rattle.std.proofs.lemmas.Bool.{eqb-true}
use Rattle.fr_base.specs.Event.{Event}
use Rattle.fr_base.specs.Event.Event.{Regular, Silent, Flip, Say}
use Rattle.fr_cluster.specs.Values.{Values}
use Rattle.fr_cluster.specs.Sane.{IsSane}
use Rattle.fr_cluster.specs.Questions.{key_in, node_of}
use Rattle.fr_cluster.specs.Setting.{IsSetting, SaysBytes, correct_nodes, is_correct}
use Rattle.fr_cluster.specs.declared.join.Join.{Join}
use Rattle.fr_cluster.specs.declared.nodes.NodeSpec.{NodeSpec}
use Rattle.fr_drift.specs.Files.{DriftFits, IsRateWithin}
use Rattle.fr_drift.specs.Questions.{rate_of}
use Rattle.fr_drift.specs.View.{DriftView}
use Rattle.fr_script.specs.Files.{ScriptFits}
use Rattle.fr_script.specs.Events.{IsProperEvent, event_of}
use Rattle.fr_script.specs.Promises.{JoinsProperly}
use Rattle.fr_script.specs.View.{IsScript, ScriptView, join_of}
use Rattle.fr_script.proofs.Joining.{fits-join}
use Rattle.fr_script.proofs.Proper.{event-proper}
use Rattle.fr_coverage.specs.Decided.{setting_of}
use Rattle.fr_coverage.specs.Order.{HasNoGap}
use Rattle.fr_runs.specs.References.{IsReference}
use Rattle.fr_runs.specs.Rounds.{RatesBegin}
use Rattle.fr_history.specs.Cycles.{some_joins}
use Rattle.fr_runs.proofs.Reach.{some_joins_by}
use Rattle.fr_cluster.proofs.Elements.{found, kept_filtered}
use Rattle.fr_runs.proofs.Nodes.{correct_node, node_there}
use Rattle.fr_runs.specs.Supplied.{IsCoveredByFiles, StartsBegin}
use Rattle.fr_runs.proofs.Exchanged.{on_channel}
use Rattle.fr_promise.specs.Files.{CoveredFilesAreStated}
use Rattle.fr_promise.proofs.Covering.{HaveNoGap, few_nodes, first_checks, joining_checks, nodes_keep_within, whatever_checks}
use Rattle.fr_promise.proofs.Drifts.{rates_are_within}
use Rattle.fr_promise.proofs.Starts.{starts_are_natural}

-- the reference of a node that joins is a node of the cluster
pub reference_is : (p : Values) (d : DriftView) (s : ScriptView) (node : NodeSpec) (join : Join) → JoinsProperly p s node.id join → IsReference (setting_of p d s) node join
reference_is p d s node join proper = by_node (node_of p join.reference) refl
  where
    by_key : (spec : NodeSpec) → node_of p join.reference ≡ Some spec → (key : Option ℕ) → spec.key ≡ key → IsReference (setting_of p d s) node join
    by_key spec is None keyless =
        let none : is_some (key_in (node_of p join.reference)) ≡ false = ap (λ (o : Option NodeSpec). is_some (key_in o)) is ∙ ap (λ (o : Option ℕ). is_some o) keyless in
        let e = sym none ∙ proper.key in absurd (cc)
    by_key spec is (Some slot) keyed =
        let there = found (λ (n : NodeSpec). n.id == join.reference) p.nodes spec is in
        let same : spec.id ≡ join.reference = eqb-true spec.id join.reference there.0 in
        let correct : is_correct (setting_of p d s) spec.id ≡ true = ap (is_correct (setting_of p d s)) same ∙ ap (λ (b : Bool). not b) proper.correct_reference in
        record {
          reference = spec;
          slot = slot;
          correct = kept_filtered (λ (n : NodeSpec). is_correct (setting_of p d s) n.id) p.nodes spec there.1 correct;
          named = same;
          key = keyed;
          stays = ap (join_of s) same ∙ proper.stays;
          other = λ one. proper.other (sym same ∙ one);
        }

    by_node : (o : Option NodeSpec) → node_of p join.reference ≡ o → IsReference (setting_of p d s) node join
    by_node None is = let e = sym (ap (λ (o : Option NodeSpec). is_some o) is) ∙ proper.known_reference in absurd (cc)
    by_node (Some spec) is = by_key spec is spec.key refl

-- each correct node that joins does so properly
abbrev CorrectJoinProperly : Values → DriftView → ScriptView → Type 0
CorrectJoinProperly p d s = (node : NodeSpec) (join : Join) → Contains (correct_nodes (setting_of p d s)) node → join_of s node.id ≡ Some join → JoinsProperly p s node.id join

pub covered_as_stated : (p : Values) (d : DriftView) (s : ScriptView) → HaveNoGap p d s → CorrectJoinProperly p d s → IsCoveredByFiles (setting_of p d s)
covered_as_stated p d s w proper =
    let c = nodes_keep_within p d s 0 (whatever_checks p d s w) in
    record {
      sane = w.sane;
      checks = λ number from to. first_checks p d s number w from to;
      join_checks = λ joins number from to. joining_checks p d s number w joins from to;
      few = few_nodes p d s 0 (whatever_checks p d s w);
      least = λ node cycle there less. c.least node cycle there (omega arith) less;
      most = λ node cycle there less. c.most node cycle there (omega arith) less;
      changes = λ node cycle there less. c.changes node cycle there (omega arith) less;
      referenced = record {
        references = λ node join there at. reference_is p d s node join (proper node join there at);
        delays =
            λ sender receiver slot channel cycle sends hears key other by_sender by_receiver less.
            let on = λ (node : NodeSpec) (is : Contains (correct_nodes (setting_of p d s)) node).
            on_channel (setting_of p d s) node channel (node_there p node w.sane (correct_node (setting_of p d s) node is).there) in
            c.delays sender receiver slot channel cycle (record { sends = sends; hears = hears; key = key; other = other })
            (record { by_sender = sym (on sender sends) ∙ by_sender; by_receiver = sym (on receiver hears) ∙ by_receiver }) (omega arith) less;
      };
      links = λ sender receiver slot double linked within. c.links sender receiver slot double linked (omega arith) within;
    }

says_bytes : (event : Event) → IsProperEvent event → SaysBytes event
says_bytes Regular proper = tt
says_bytes Silent proper = tt
says_bytes (Flip bit) proper = tt
says_bytes (Say shift None) proper = proper.said
says_bytes (Say shift (Some bytes)) proper = proper.said.small

pub is_setting : (p : Values) (d : DriftView) (s : ScriptView) → IsSane p → IsScript s → IsSetting (setting_of p d s)
is_setting p d s sane script = record {
  sane = sane;
  bytes = λ cycle sender receiver channel. says_bytes (event_of s cycle sender receiver channel) (event-proper s cycle sender receiver channel script);
}

pub files_are_covered : (p : Values) (d : DriftView) (s : ScriptView) → IsSane p → ScriptFits p s → HasNoGap p d s → IsCoveredByFiles (setting_of p d s)
files_are_covered p d s sane script none =
    covered_as_stated p d s (record { sane = sane; none = none }) (λ node join there at. fits-join p s script node.id join at)

-- so they are where no correct node joins, whatever else the script says
pub files_are_covered_alone : (p : Values) (d : DriftView) (s : ScriptView) → IsSane p → some_joins (setting_of p d s) ≡ false → HasNoGap p d s
    → IsCoveredByFiles (setting_of p d s)
files_are_covered_alone p d s sane alone none =
    covered_as_stated p d s (record { sane = sane; none = none })
    (λ node join there at.
    let e : false ≡ true = sym alone ∙ some_joins_by (setting_of p d s) node join there at in
    absurd (cc))

pub rates_begin : (p : Values) (d : DriftView) (s : ScriptView) → IsSane p → DriftFits p d → RatesBegin (setting_of p d s)
rates_begin p d s sane fits node among = let rate : IsRateWithin p (rate_of d node.id) = rates_are_within p d node.id sane fits in record { low = rate.from; high = rate.to }

pub starts_begin : (p : Values) (d : DriftView) (s : ScriptView) → DriftFits p d → StartsBegin (setting_of p d s)
starts_begin p d s fits node among = starts_are_natural p d node.id fits

pub covered_files_are_stated : CoveredFilesAreStated
covered_files_are_stated p d s sane fits script proper none = record {
  setting = is_setting p d s sane proper;
  covered = files_are_covered p d s sane script none;
  rates = rates_begin p d s sane fits;
  starts = λ joins. starts_begin p d s fits;
}
