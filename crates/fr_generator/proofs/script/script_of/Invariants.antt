use Rattle.std.proofs.Common.{◌≡◌, [], ◌∷◌}
use Rattle.fr_script.specs.Files.{ScriptStandsFor}
use Rattle.fr_script.specs.Written.{arbitrary_record}
use Rattle.fr_generator.specs.Drawn.{drawn_from, in_turn}
use Rattle.fr_generator.specs.Steps.{after_chance}
use Rattle.fr_generator.proofs.script.script_of.Given as goal

-- the chances so far are taken
abbrev pub invariant-loop-place : goal.invariant-loop-place
invariant-loop-place l = record {
  stands : ScriptStandsFor l.script (in_turn after_chance l.place (drawn_from (arbitrary_record 7 ∷ arbitrary_record 8 ∷ []) l.fn.words)).records;
  drawn : l.words ≡ (in_turn after_chance l.place (drawn_from (arbitrary_record 7 ∷ arbitrary_record 8 ∷ []) l.fn.words)).words;
}
