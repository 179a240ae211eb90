-- What the files of a run say, by the run that they decide.
use Rattle.std.proofs.Common.{◌≡◌, ℕ}
use Rattle.fr_base.specs.declared.channel.Channel.{Channel}
use Rattle.fr_cluster.specs.Values.{Values}
use Rattle.fr_drift.specs.Questions.{delay_of, doubles_of, length_of}
use Rattle.fr_drift.specs.View.{DriftView}
use Rattle.fr_script.specs.Events.{event_of}
use Rattle.fr_script.specs.View.{ScriptView, is_arbitrary, join_of}
use Rattle.fr_cluster.specs.Setting.{Setting}
use Rattle.fr_coverage.specs.Decided.{setting_of}

-- the files decide this run
abbrev pub Decide : Values → DriftView → ScriptView → Setting → Type 0
Decide p d s x = setting_of p d s ≡ x

pub doubles_decided : (p : Values) (d : DriftView) (s : ScriptView) (x : Setting) → Decide p d s x → doubles_of d ≡ x.doubles
doubles_decided p d s x same i = (same i).doubles

pub nodes_decided : (p : Values) (d : DriftView) (s : ScriptView) (x : Setting) → Decide p d s x → (node : ℕ) → is_arbitrary s node ≡ x.is_arbitrary node
nodes_decided p d s x same node i = (same i).is_arbitrary node

pub joins_decided : (p : Values) (d : DriftView) (s : ScriptView) (x : Setting) → Decide p d s x → (node : ℕ) → join_of s node ≡ x.join node
joins_decided p d s x same node i = (same i).join node

pub lengths_decided :
    (p : Values) (d : DriftView) (s : ScriptView) (x : Setting) → Decide p d s x
    → (node cycle : ℕ) → length_of d node cycle ≡ x.microtick node cycle
lengths_decided p d s x same node cycle i = (same i).microtick node cycle

pub delays_decided :
    (p : Values) (d : DriftView) (s : ScriptView) (x : Setting) → Decide p d s x
    → (sender receiver : ℕ) (channel : Channel) (cycle : ℕ) → delay_of d sender receiver channel cycle ≡ x.delay sender receiver channel cycle
delays_decided p d s x same sender receiver channel cycle i = (same i).delay sender receiver channel cycle

pub events_decided :
    (p : Values) (d : DriftView) (s : ScriptView) (x : Setting) → Decide p d s x
    → (cycle sender receiver : ℕ) (channel : Channel) → event_of s cycle sender receiver channel ≡ x.event cycle sender receiver channel
events_decided p d s x same cycle sender receiver channel i = (same i).event cycle sender receiver channel
