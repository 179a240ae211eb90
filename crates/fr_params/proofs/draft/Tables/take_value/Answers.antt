use Rattle.std.proofs.Common.{rules, sym, ◌≡◌, ◌<◌, length, arith, None}
use mir.Val.{to_z, of_z}
use mir.Syntax.{w64}
use Rattle.std.proofs.lemmas.Int.{to_z-of_z}
use Rattle.fr_params.specs.Names.{place}
use Rattle.fr_params.specs.Draft.{entry}
use Rattle.fr_params.proofs.Places.{place-lt}
use Rattle.fr_params.proofs.Tables.{tables-value, entry-none}
use Rattle.fr_params.proofs.draft.Tables.take_value.Goals as goal

pub returns : goal.returns
returns c = λ version. record {
  why = search rules;
  adds = λ done r h e none.
      let few = place-lt c.args.name in
      let room : place c.args.name < length c.args.self.now.values = omega (arith, h.values.long) in
      let empty : entry c.args.self.now.values (place c.args.name) ≡ None =
      entry-none c.args.self.now.values (place c.args.name) _ room (sym (rw c.place_of-place.ensures at c.if-is_some.ensures))
      in
      let value : to_z w64 (of_z w64 c.args.value) ≡ c.args.value = to_z-of_z w64 c.args.value c.ranges.value in
      rw (c.place_of-place.ensures, value) (tables-value version c.args.self.now done r c.args.name c.args.value h e c.requires empty);
}
