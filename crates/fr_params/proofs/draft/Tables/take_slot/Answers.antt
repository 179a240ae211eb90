use Rattle.std.proofs.Common.{sym, ◌∙◌, ◌≡◌, ◌<◌, length, arith, None}
use Rattle.std.specs.Prelude.{IsSome}
use Rattle.std.proofs.lemmas.Grind.{common_steps}
use Rattle.fr_params.specs.Draft.{entry}
use Rattle.fr_params.proofs.Tables.{tables-slot, entry-none, entry-some}
use Rattle.fr_params.proofs.draft.Tables.take_slot.Goals as goal

pub returns : goal.returns
returns c = λ version. record {
  why = grind (arith, common_steps);
  adds = λ done r h e none.
      let room : c.args.slot.slot < length c.args.self.now.slots = omega (arith, h.slots.long, c.requires.to) in
      let empty : entry c.args.self.now.slots c.args.slot.slot ≡ None =
      entry-none c.args.self.now.slots c.args.slot.slot _ room (sym (rw c.slot_place-place.ensures.value at c.if-is_some.ensures))
      in
      let space : c.args.slot.node < length c.args.self.now.nodes = omega (arith, h.nodes.long, c.requires.node_to) in
      let known : IsSome (entry c.args.self.now.nodes c.args.slot.node) =
      entry-some c.args.self.now.nodes c.args.slot.node _ space (rw c.node_place-node.ensures.value at c.if-is_none.ensures)
      in
      rw c.slot_place-place.ensures.value
      (tables-slot version c.args.self.now done r c.args.slot h e c.requires (sym c.goes_together.ensures ∙ c.if-not-goes_together.false) known empty);
}
