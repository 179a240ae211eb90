-- What a trace of a cluster keeps of its parameters.
use Rattle.std.specs.Prelude.{ℕ, List, ◌≡◌, ◌≢◌, ◌<◌, ◌∷◌, [], true, false, map, filter, All, AllPairs, Some, None, IsSome}
use Rattle.fr_base.specs.Within.{IsWithin}
use Rattle.fr_base.specs.declared.channel.Channel.{Channel}
use Rattle.fr_base.specs.declared.dev.Dev.{Dev}
use Rattle.fr_cluster.specs.Questions.{is_common, node_of, own_key}
use Rattle.fr_cluster.specs.Searches.{key_node_in}
use Rattle.fr_cluster.specs.Values.{Values}
use Rattle.fr_cluster.specs.declared.nodes.NodeSpec.{NodeSpec}
use Rattle.fr_history.specs.History.{History, Record}
use Rattle.fr_trace.specs.Joins.{is_among, join_among}
use Rattle.fr_trace.specs.Trace.{TraceView, has_row_in}
use Rattle.fr_trace.specs.declared.trace.TracedJoin.{TracedJoin}

-- a deviation is about the key slot of another node, on a channel that both have
pub record IsAboutOther (p : Values) (dev : Dev) : Type 0 where
  pub sender : NodeSpec
  pub key : key_node_in p.nodes dev.slot ≡ Some sender
  pub other : sender.id ≢ dev.receiver
  pub common : is_common p sender.id dev.receiver dev.channel ≡ true

-- the record behind a history has a row for each node that is to have one, terms within their limits, and deviations about
-- key slots
pub record FitsRecord (p : Values) (t : TraceView) (h : History) (r : Record) : Type 0 where
  pub nodes : map (λ row. row.node) r.rows ≡ map (λ node. node.id) (filter (λ node. has_row_in t h r node.id) p.nodes)
  pub rates : All (λ row. IsWithin p.rate_limit row.rate) r.rows
  pub offsets : All (λ row. IsWithin p.offset_limit row.offset) r.rows
  pub devs : All (IsAboutOther p) r.devs

-- each record fits behind those before it
unfoldable pub HistoryFits : Values → TraceView → History → Type 0
HistoryFits p t [] = Unit {0}
HistoryFits p t (r ∷ h) = FitsRecord p t h r × HistoryFits p t h

-- a node that joins is a correct one of the cluster, and so is its reference: another one, with a key slot and a channel in
-- common, that takes part from the first cycle on
pub record TracedJoinIsProper (p : Values) (named : List ℕ) (joins : List TracedJoin) (j : TracedJoin) : Type 0 where
  pub known : IsSome (node_of p j.node)
  pub correct : is_among named j.node ≡ false
  pub known_reference : IsSome (node_of p j.join.reference)
  pub correct_reference : is_among named j.join.reference ≡ false
  pub key : IsSome (own_key p j.join.reference)
  pub other : j.join.reference ≢ j.node
  pub stays : join_among joins j.join.reference ≡ None
  pub channel : Channel
  pub common : is_common p j.node j.join.reference channel ≡ true
  pub double : j.join.double < 100_000

abbrev pub IsProperJoin : Values → TraceView → TracedJoin → Type 0
IsProperJoin p t j = TracedJoinIsProper p t.arbitrary t.joins j

-- a trace fits the parameters of its cluster: each arbitrary node has a key slot, each node that joins does so properly, and
-- each record fits
pub record TraceFits (p : Values) (t : TraceView) : Type 0 where
  pub arbitrary : All (λ node. IsSome (own_key p node)) t.arbitrary
  pub joins : All (IsProperJoin p t) t.joins
  pub joins_ascend : AllPairs (λ a b. a.node < b.node) t.joins
  pub records : HistoryFits p t t.history
