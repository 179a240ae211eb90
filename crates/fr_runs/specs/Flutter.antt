-- How much the delays of a run flutter: by how many ticks that of a link differs between the two cycles of a double cycle.
use Rattle.std.specs.Prelude.{ℕ, suc, ◌*◌, ◌<◌, ◌≤◌, pos, ◌-ℤ◌}
use Rattle.fr_base.specs.declared.channel.Channel.{Channel}
use Rattle.fr_base.specs.Within.{IsWithin}
use Rattle.fr_cluster.specs.Setting.{Setting}
use Rattle.fr_cluster.specs.Values.{amount}
use Rattle.fr_cluster.specs.declared.names.ParamName.TheVariants as name
use Rattle.fr_cluster.specs.declared.nodes.NodeSpec.{NodeSpec}
use Rattle.fr_precision.specs.Reception.{IsDelay}
use Rattle.fr_runs.specs.Links.{IsLinked, Share}

-- delays flutter by no more than this: those of a correct sync node's frames at another correct node, on a channel that both
-- have, differ by no more between the two cycles of a double cycle of the run, from one on
abbrev pub FluttersWithin : Setting → ℕ → ℕ → Type 0
FluttersWithin x from flutter =
    (sender receiver : NodeSpec) (slot : ℕ) (channel : Channel) (double : ℕ)
    → IsLinked x sender receiver slot → Share sender receiver channel → from ≤ double → double < x.doubles
    → IsWithin (pos flutter)
    (x.delay sender.id receiver.id channel (suc (2 * double)) -ℤ x.delay sender.id receiver.id channel (2 * double))

-- the delays of the same links keep within what is stated, in each cycle of the run from a double cycle on
abbrev pub DelaysAreStated : Setting → ℕ → Type 0
DelaysAreStated x from =
    (sender receiver : NodeSpec) (slot : ℕ) (channel : Channel) (cycle : ℕ)
    → IsLinked x sender receiver slot → Share sender receiver channel → 2 * from ≤ cycle → cycle < 2 * x.doubles
    → IsDelay x.params channel (x.delay sender.id receiver.id channel cycle)

-- then they flutter by no more than twice the delay error
abbrev pub StatedDelaysFlutter : Type 0
StatedDelaysFlutter =
    (x : Setting) (from : ℕ) → DelaysAreStated x from → FluttersWithin x from (2 * amount x.params name.xDelayError)
