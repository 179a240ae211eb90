-- What a script that fits its parameters promises of a run.
use Rattle.std.specs.Prelude.{ℕ, ◌≡◌, ◌<◌, true, false, Some, None, IsSome}
use Rattle.fr_base.specs.Event as event
use Rattle.fr_base.specs.declared.channel.Channel.{Channel}
use Rattle.fr_cluster.specs.Values.{Values}
use Rattle.fr_cluster.specs.Questions.{is_common, node_of, own_key}
use Rattle.fr_cluster.specs.declared.join.Join.{Join}
use Rattle.fr_script.specs.Deed.{bits_of}
use Rattle.fr_script.specs.View.{IsScript, ScriptView, is_arbitrary, join_of}
use Rattle.fr_script.specs.Events.{IsProperEvent, event_of}

-- each arbitrary node has a key slot
abbrev pub HaveKeySlots : Values → ScriptView → Type 0
HaveKeySlots p s = (node : ℕ) → is_arbitrary s node ≡ true → IsSome (own_key p node)

-- the numbers of all that a script makes of frames lie in their ranges
abbrev pub AreProperEvents : ScriptView → Type 0
AreProperEvents s = (cycle sender receiver : ℕ) (ch : Channel) → IsScript s → IsProperEvent (event_of s cycle sender receiver ch)

-- each bit that is inverted is one of a frame of the cluster
abbrev pub FlipsBitsOfFrames : Values → ScriptView → Type 0
FlipsBitsOfFrames p s = (cycle sender receiver : ℕ) (ch : Channel) (bit : ℕ) → event_of s cycle sender receiver ch ≡ event.Flip bit → bit < bits_of p

-- a node that joins is a correct one of the cluster, and so is its reference: another one, with a key slot and a channel in
-- common, that takes part from the first cycle on
pub record JoinsProperly (p : Values) (s : ScriptView) (node : ℕ) (join : Join) : Type 0 where
  pub known : IsSome (node_of p node)
  pub correct : is_arbitrary s node ≡ false
  pub known_reference : IsSome (node_of p join.reference)
  pub correct_reference : is_arbitrary s join.reference ≡ false
  pub key : IsSome (own_key p join.reference)
  pub other : join.reference ≡ node → ⊥
  pub stays : join_of s join.reference ≡ None
  pub channel : Channel
  pub common : is_common p node join.reference channel ≡ true
  pub double : join.double < 100_000

-- each node that joins does so properly
abbrev pub NodesJoinProperly : Values → ScriptView → Type 0
NodesJoinProperly p s = (node : ℕ) (join : Join) → join_of s node ≡ Some join → JoinsProperly p s node join
