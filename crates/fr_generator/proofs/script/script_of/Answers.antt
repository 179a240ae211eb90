use Rattle.std.proofs.Common.{◌≡◌, ◌≤◌, ◌<◌, ◌*◌, ℕ, [], ◌∷◌, sym, subst, ap, arith}
use Rattle.fr_text.specs.Refusal.{NoneRefused}
use Rattle.fr_cluster.specs.Values.{Values}
use Rattle.fr_script.specs.Files.{ScriptStandsFor}
use Rattle.fr_script.specs.Reasons.{script_reason_after}
use Rattle.fr_script.specs.Written.{arbitrary_record}
use Rattle.fr_generator.specs.Drawn.{Drawn, drawn_from, in_turn}
use Rattle.fr_generator.specs.Steps.{after_chance}
use Rattle.fr_generator.proofs.Chances.{chance-more, chances-to, first-accepted, second-accepted}
use Rattle.fr_generator.proofs.Turns.{none-drawn, script-drawn, script-stands}
use Rattle.fr_generator.proofs.script.script_of.Goals as goal

pub add_arbitrary-requires : goal.add_arbitrary-requires
add_arbitrary-requires c = record {
  records = [];
  stands = c.empty-script.ensures.stands;
  accepted = subst (λ (p : Values). NoneRefused (script_reason_after p) (arbitrary_record 7 ∷ [])) (sym c.requires.cluster) first-accepted;
}

pub add_arbitrary-requires-2 : goal.add_arbitrary-requires-2
add_arbitrary-requires-2 c = record {
  records = arbitrary_record 7 ∷ [];
  stands = c.in_ok-add_arbitrary.ensures.adds.stands [] c.empty-script.ensures.stands;
  accepted = subst (λ (p : Values). NoneRefused (script_reason_after p) (arbitrary_record 7 ∷ arbitrary_record 8 ∷ [])) (sym c.requires.cluster) second-accepted;
}

pub take_chance-requires-clause-taken : goal.take_chance-requires-clause-taken
take_chance-requires-clause-taken c =
    let before : Drawn = in_turn after_chance c.loop-place.place (drawn_from (arbitrary_record 7 ∷ arbitrary_record 8 ∷ []) c.args.words.now) in
    let few : c.loop-place.place < 480_000 = omega arith in
    record {
      records = before.records;
      stands = c.loop-place.invariant.stands;
      accepted =
          subst (λ (p : Values). NoneRefused (script_reason_after p) (after_chance c.loop-place.place (drawn_from before.records c.loop-place.words)).records) (sym c.requires.cluster)
          (chance-more c.loop-place.place before.records c.loop-place.words few (chances-to c.args.words.now c.loop-place.place (omega (arith, few)))).accepted;
    }

pub loop-place-init : goal.loop-place-init
loop-place-init c =
    let start : Drawn = drawn_from (arbitrary_record 7 ∷ arbitrary_record 8 ∷ []) c.args.words.now in
    record {
      stands =
          subst (λ (d : Drawn). ScriptStandsFor c.add_arbitrary-2.new.self d.records) (sym (none-drawn after_chance start))
          (c.in_ok-add_arbitrary-2.ensures.adds.stands (arbitrary_record 7 ∷ []) (c.in_ok-add_arbitrary.ensures.adds.stands [] c.empty-script.ensures.stands));
      drawn = ap (λ (d : Drawn). d.words) (sym (none-drawn after_chance start));
    }

pub loop-place-preserved : goal.loop-place-preserved
loop-place-preserved c =
    let start : Drawn = drawn_from (arbitrary_record 7 ∷ arbitrary_record 8 ∷ []) c.args.words.now in
    record {
      stands =
          script-stands after_chance c.loop-place.place start c.loop-place.words c.take_chance.new.words c.loop-place.invariant.drawn c.loop-place.script c.take_chance.new.script
          c.in_ok-take_chance.ensures c.loop-place.invariant.stands;
      drawn =
          script-drawn after_chance c.loop-place.place start c.loop-place.words c.take_chance.new.words c.loop-place.invariant.drawn c.loop-place.script c.take_chance.new.script
          c.in_ok-take_chance.ensures;
    }

pub returns : goal.returns
returns c =
    let start : Drawn = drawn_from (arbitrary_record 7 ∷ arbitrary_record 8 ∷ []) c.args.words.now in
    let all : c.loop-place.place ≡ 48 * c.args.doubles = omega arith in
    let few : 48 * c.args.doubles ≤ 480_000 = omega arith in
    let stands : ScriptStandsFor c.loop-place.script (in_turn after_chance (48 * c.args.doubles) start).records =
    subst (λ (k : ℕ). ScriptStandsFor c.loop-place.script (in_turn after_chance k start).records) all c.loop-place.invariant.stands
    in
    record {
      stands = stands;
      fits = record {
        records = (in_turn after_chance (48 * c.args.doubles) start).records;
        none_refused =
            subst (λ (p : Values). NoneRefused (script_reason_after p) (in_turn after_chance (48 * c.args.doubles) start).records) (sym c.requires.cluster)
            (chances-to c.args.words.now (48 * c.args.doubles) few).accepted;
        stands = stands;
      };
    }
