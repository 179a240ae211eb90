-- What three files decide is a run of a cluster: what is said is made of bytes.
use Rattle.std.proofs.Common.{ℕ, Some, None}
use Rattle.fr_base.specs.Event.{Event}
use Rattle.fr_base.specs.Event.Event.{Regular, Silent, Flip, Say}
use Rattle.fr_base.specs.declared.channel.Channel.{Channel}
use Rattle.fr_cluster.specs.Sane.{IsSane}
use Rattle.fr_cluster.specs.Values.{Values}
use Rattle.fr_drift.specs.View.{DriftView}
use Rattle.fr_script.specs.Events.{IsProperEvent, event_of}
use Rattle.fr_script.specs.View.{IsScript, ScriptView}
use Rattle.fr_cluster.specs.Setting.{IsSetting, SaysBytes}
use Rattle.fr_coverage.specs.Decided.{setting_of}

says-bytes : (event : Event) → IsProperEvent event → SaysBytes event
says-bytes Regular proper = tt
says-bytes Silent proper = tt
says-bytes (Flip bit) proper = tt
says-bytes (Say shift None) proper = proper.said
says-bytes (Say shift (Some bytes)) proper = proper.said.small

pub decided-setting :
    (p : Values) (d : DriftView) (s : ScriptView) → IsSane p → IsScript s
    → ((t : ScriptView) (cycle sender receiver : ℕ) (channel : Channel) → IsScript t → IsProperEvent (event_of t cycle sender receiver channel))
    → IsSetting (setting_of p d s)
decided-setting p d s sane script proper = record {
  sane = sane;
  bytes = λ cycle sender receiver channel. says-bytes (event_of s cycle sender receiver channel) (proper s cycle sender receiver channel script);
}
