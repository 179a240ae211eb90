-- Between which nodes all is heard in a double cycle, or could be if nothing were lost, by the script.
use Rattle.std.specs.Prelude.{ℕ, Bool, not, ◌||◌, List, Option, Some, None}
use Rattle.std.specs.List.{list_all}
use Rattle.fr_base.specs.declared.channel.Channel.{Channel}
use Rattle.fr_base.specs.declared.channel.Channel.TheVariants as channel
use Rattle.fr_cluster.specs.Values.{Values}
use Rattle.fr_cluster.specs.declared.nodes.NodeSpec.{NodeSpec}
use Rattle.fr_script.specs.View.{ScriptView}
use Rattle.fr_coverage.specs.Links.{is_carried, is_carried_on, is_link, shares}

-- whether all is heard in a double cycle: of any two nodes one channel carries the frames of both its cycles
abbrev pub whole_in : Values → ScriptView → ℕ → Bool
whole_in p s double = list_all (λ a. list_all (λ b. not (is_link s a b) || is_carried s a b double) p.nodes) p.nodes

-- a channel that both nodes have carries the frames of both cycles, or both have one
abbrev pub reaches_on : ScriptView → NodeSpec → NodeSpec → Option ℕ → Channel → Bool
reaches_on s a b None ch = shares a b ch
reaches_on s a b (Some double) ch = is_carried_on s a b double ch

abbrev pub reaches : ScriptView → NodeSpec → NodeSpec → Option ℕ → Bool
reaches s a b when = reaches_on s a b when channel.A || reaches_on s a b when channel.B

-- so it is of one sender and each of some nodes, and of any two
abbrev pub reaches_each : List NodeSpec → ScriptView → Option ℕ → NodeSpec → Bool
reaches_each nodes s when a = list_all (λ b. not (is_link s a b) || reaches s a b when) nodes

abbrev pub all_reach : List NodeSpec → ScriptView → Option ℕ → Bool
all_reach nodes s when = list_all (reaches_each nodes s when) nodes
