use Rattle.std.proofs.Common.{rules, sym, ◌∙◌, ◌≡◌, ◌<◌, length, arith, None}
use Rattle.fr_params.specs.Draft.{entry}
use Rattle.fr_params.proofs.Tables.{tables-node, entry-none}
use Rattle.fr_params.proofs.draft.Tables.take_node.Goals as goal

pub returns : goal.returns
returns c = λ version. record {
  why = search rules;
  adds = λ done r h e none.
      let room : c.args.node.id < length c.args.self.now.nodes = omega (arith, h.nodes.long, c.requires.to) in
      let empty : entry c.args.self.now.nodes c.args.node.id ≡ None =
      entry-none c.args.self.now.nodes c.args.node.id _ room (sym (rw c.node_place-place.ensures.value at c.if-is_some.ensures))
      in
      rw c.node_place-place.ensures.value
      (tables-node version c.args.self.now done r c.args.node h e c.requires (sym c.starts_without_key.ensures ∙ c.if-starts_without_key.false) empty);
}
