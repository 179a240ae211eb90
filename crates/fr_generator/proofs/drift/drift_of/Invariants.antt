use Rattle.std.proofs.Common.{◌≡◌, [], ◌∷◌}
use Rattle.fr_drift.specs.Files.{DriftStandsFor}
use Rattle.fr_drift.specs.Written.{doubles_record}
use Rattle.fr_generator.specs.Drawn.{drawn_from, in_turn}
use Rattle.fr_generator.specs.Steps.{after_clock, after_delay}
use Rattle.fr_generator.proofs.drift.drift_of.Given as goal

-- the clocks so far are drawn
abbrev pub invariant-loop-clock : goal.invariant-loop-clock
invariant-loop-clock l = record {
  stands : DriftStandsFor l.params l.drift (in_turn after_clock l.clock (drawn_from (doubles_record l.doubles ∷ []) l.fn.words)).records;
  drawn : l.words ≡ (in_turn after_clock l.clock (drawn_from (doubles_record l.doubles ∷ []) l.fn.words)).words;
}

-- all clocks are, and the delays so far
abbrev pub invariant-loop-link : goal.invariant-loop-link
invariant-loop-link l = record {
  stands : DriftStandsFor l.params l.drift (in_turn after_delay l.link (in_turn after_clock 8 (drawn_from (doubles_record l.doubles ∷ []) l.fn.words))).records;
  drawn : l.words ≡ (in_turn after_delay l.link (in_turn after_clock 8 (drawn_from (doubles_record l.doubles ∷ []) l.fn.words))).words;
}
