use Rattle.std.proofs.Common.{List, map, arith}
use Rattle.std.proofs.lemmas.List.Sums.{count_by-le-length}
use Rattle.fr_base.specs.declared.node_row.NodeRow.{NodeRow}
use Rattle.fr_node.specs.View.{node_row_of}
use Rattle.fr_air.specs.Files.{setting_in}
use Rattle.fr_air.specs.Reaching.{listens}
use Rattle.fr_air.proofs.Reaching.{all-heard, one-listens}
use Rattle.fr_air.proofs.offering.offer_in_reach.Goals as goal

pub count_plain-requires-clause-some : goal.count_plain-requires-clause-some
count_plain-requires-clause-some c =
    let a = c.args in
    let yes = c.if-is_plain_to_all.true in
    let e = c.is_plain_to_all.ensures in
    one-listens a.files.now a.air.now a.memory.now a.reach a.nodes.now c.requires.air (e.correct yes) c.requires.sends (c.requires.reach (e.whole yes)) e.slot (e.plain yes) a.counts.now

pub count_plain-requires-clause-few_nodes : goal.count_plain-requires-clause-few_nodes
count_plain-requires-clause-few_nodes c =
    let a = c.args in
    let rows : List NodeRow = map node_row_of a.nodes.now in
    let whole = c.requires.reach (c.is_plain_to_all.ensures.whole c.if-is_plain_to_all.true) in
    let most = count_by-le-length (listens (setting_in a.files.now) a.air.now.turn.now.channel) rows in
    omega (arith, whole.listening a.air.now.turn.now.channel, most, whole.apart.few)

pub returns-then-is_plain_to_all-clause-heard : goal.returns-then-is_plain_to_all-clause-heard
returns-then-is_plain_to_all-clause-heard c =
    let a = c.args in
    let yes = c.if-is_plain_to_all.true in
    let e = c.is_plain_to_all.ensures in
    all-heard a.files.now a.air.now a.memory.now a.reach a.nodes.now c.requires.air (e.correct yes) c.requires.sends (c.requires.reach (e.whole yes)) e.slot (e.plain yes) a.counts.now c.count_plain.new.counts
    c.requires.ready.ready c.count_plain.ensures
