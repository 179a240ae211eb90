-- A step more, in turn.
use Rattle.std.proofs.Common.{◌≡◌, ◌+◌, ℕ, sym, subst, ap, ◌∙◌, refl, add-one}
use Rattle.fr_cluster.specs.Values.{Values}
use Rattle.fr_drift.specs.View.{DriftView}
use Rattle.fr_drift.specs.Files.{DriftStandsFor}
use Rattle.fr_script.specs.View.{ScriptView}
use Rattle.fr_script.specs.Files.{ScriptStandsFor}
use Rattle.fr_generator.specs.Drawn.{Drawn, draw, drawn_from, in_turn, rest}
use Rattle.std.specs.Prelude.{pos, false, ◌%◌, ◌==◌, [], ◌∷◌, ◌++◌, Result, Ok, Err}
use Rattle.fr_drift.specs.Adding.{AddsDriftRecord, HasDriftRecord}
use Rattle.fr_drift.specs.Written.{length_record, start_record}
use Rattle.fr_drift.specs.declared.fault.DriftFault.{DriftFault}
use Rattle.fr_script.specs.Adding.{AddsScriptRecord}
use Rattle.fr_script.specs.declared.fault.ScriptFault.{ScriptFault}
use Rattle.fr_generator.specs.Making.{AddsSaid, AddsStep, HasSaid, HasStep}
use Rattle.fr_generator.specs.Places.{chance_at}
use Rattle.fr_generator.specs.Steps.{after_chance, after_clock, length_drawn, said_of_chance, shift_drawn, start_drawn}
use Rattle.rand_pcg.specs.Lcg.{Lcg}

pub none-drawn : (step : ℕ → Drawn → Drawn) (start : Drawn) → in_turn step 0 start ≡ start
unfolding in_turn
none-drawn step start = refl

one-more : (step : ℕ → Drawn → Drawn) (place : ℕ) (start : Drawn) (words : Lcg) → words ≡ (in_turn step place start).words
    → step place (drawn_from (in_turn step place start).records words) ≡ in_turn step (place + 1) start
unfolding in_turn
one-more step place start words e =
    ap (λ (w : Lcg). step place (drawn_from (in_turn step place start).records w)) e ∙ ap (λ (k : ℕ). in_turn step k start) (sym (add-one place))

module _ (step : ℕ → Drawn → Drawn) (place : ℕ) (start : Drawn) (words words_after : Lcg) (e : words ≡ (in_turn step place start).words) where
  pub drift-stands : (p : Values) (before after : DriftView) → HasStep p before after words words_after (step place) → DriftStandsFor p before (in_turn step place start).records
      → DriftStandsFor p after (in_turn step (place + 1) start).records
  drift-stands p before after h stands =
      subst (λ (d : Drawn). DriftStandsFor p after d.records) (one-more step place start words e) (h.stands (in_turn step place start).records stands)

  pub drift-drawn : (p : Values) (before after : DriftView) → HasStep p before after words words_after (step place) → words_after ≡ (in_turn step (place + 1) start).words
  drift-drawn p before after h = h.drawn (in_turn step place start).records ∙ ap (λ (d : Drawn). d.words) (one-more step place start words e)

  pub script-stands : (before after : ScriptView) → HasSaid before after words words_after (step place) → ScriptStandsFor before (in_turn step place start).records
      → ScriptStandsFor after (in_turn step (place + 1) start).records
  script-stands before after h stands =
      subst (λ (d : Drawn). ScriptStandsFor after d.records) (one-more step place start words e) (h.stands (in_turn step place start).records stands)

  pub script-drawn : (before after : ScriptView) → HasSaid before after words words_after (step place) → words_after ≡ (in_turn step (place + 1) start).words
  script-drawn before after h = h.drawn (in_turn step place start).records ∙ ap (λ (d : Drawn). d.words) (one-more step place start words e)

-- a length and then a start are the clock
pub clock-added : (p : Values) (before mid after : DriftView) (words words_after : Lcg) (place : ℕ) (result : Result (Unit {0}) DriftFault) → words_after ≡ rest (rest words)
    → HasDriftRecord p before mid (length_record (place + 1) 0 (length_drawn words)) → AddsDriftRecord p mid after (start_record (place + 1) (start_drawn (rest words)) (pos 0)) result
    → AddsStep p before after words words_after (after_clock place) result
clock-added p before mid after words words_after place (Ok done) e first second = record {
  stands = λ records h. second.stands (records ++ length_record (place + 1) 0 (length_drawn words) ∷ []) (first.stands records h);
  drawn = λ records. e;
}
clock-added p before mid after words words_after place (Err why) e first second = tt

-- a frame that is said is the chance that was not passed
pub chance-added : (p : Values) (before after : ScriptView) (words words_after : Lcg) (place : ℕ) (result : Result (Unit {0}) ScriptFault) → (draw words % 4 == 0) ≡ false
    → words_after ≡ rest (rest words) → AddsScriptRecord p before after (said_of_chance (chance_at place) (shift_drawn (rest words))) result
    → AddsSaid before after words words_after (after_chance place) result
chance-added p before after words words_after place (Ok done) taken e has = record {
  stands = λ records h. rw taken (has.stands records h);
  drawn = λ records. rw taken e;
}
chance-added p before after words words_after place (Err why) taken e has = tt
