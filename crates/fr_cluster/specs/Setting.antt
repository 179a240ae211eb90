-- What decides a run: the cluster, its oscillators, the delays of its links, what is done to its frames, and which nodes join.
use Rattle.std.specs.Prelude.{ℕ, ℤ, ◌^◌, ◌<◌, Bool, not, List, All, filter, Option, IfSome}
use Rattle.fr_base.specs.Event.{Event}
use Rattle.fr_base.specs.Event.Event.{Regular, Silent, Flip, Say}
use Rattle.fr_base.specs.declared.channel.Channel.{Channel}
use Rattle.fr_cluster.specs.Values.{Values}
use Rattle.fr_cluster.specs.Sane.{IsSane}
use Rattle.fr_cluster.specs.declared.join.Join.{Join}
use Rattle.fr_cluster.specs.declared.nodes.NodeSpec.{NodeSpec}

-- a run, before it begins
pub record Setting : Type 0 where
  pub params : Values
  -- how many double cycles there are
  pub doubles : ℕ
  -- of a node: the start of cycle 0 in ticks, and the rate term of the first two cycles in microticks
  pub start : ℕ → ℤ
  pub rate : ℕ → ℤ
  -- of a node and a cycle: the length of a microtick in ticks
  pub microtick : ℕ → ℕ → ℤ
  -- of a sender, a receiver, a channel and a cycle: how long a frame is on its way, in ticks
  pub delay : ℕ → ℕ → Channel → ℕ → ℤ
  -- whether a node is arbitrary: it has no clock in the run, and sends only what it is said to say
  pub is_arbitrary : ℕ → Bool
  -- of a cycle, a sender, a receiver and a channel: what becomes of the sender's frames
  pub event : ℕ → ℕ → ℕ → Channel → Event
  -- of a node: in which double cycle it listens, and to whom; None: it takes part from cycle 0 on
  pub join : ℕ → Option Join

-- all other nodes are correct
abbrev pub is_correct : Setting → ℕ → Bool
is_correct x node = not (x.is_arbitrary node)

-- the correct nodes, in ascending order of id
abbrev pub correct_nodes : Setting → List NodeSpec
correct_nodes x = filter (λ node. is_correct x node.id) x.params.nodes

-- what is said is made of bytes
abbrev pub SaysBytes : Event → Type 0
SaysBytes Regular = Unit {0}
SaysBytes Silent = Unit {0}
SaysBytes (Flip bit) = Unit {0}
SaysBytes (Say shift bytes) = IfSome bytes (λ said. All (λ byte. byte < 2 ^ 8) said)

-- The parameters are those of a cluster, and what arbitrary nodes say is made of bytes. Ranges of starts, rates, lengths
-- and delays are not asked: the laws hold without them.
pub record IsSetting (x : Setting) : Type 0 where
  pub sane : IsSane x.params
  pub bytes : (cycle sender receiver : ℕ) (channel : Channel) → SaysBytes (x.event cycle sender receiver channel)
