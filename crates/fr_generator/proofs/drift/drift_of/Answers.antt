use Rattle.std.proofs.Common.{◌≡◌, ℕ, [], ◌∷◌, sym, subst, ap, ◌∙◌, arith}
use Rattle.fr_text.specs.Refusal.{NoneRefused}
use Rattle.fr_cluster.specs.Values.{Values}
use Rattle.fr_drift.specs.Files.{DriftStandsFor}
use Rattle.fr_drift.specs.Reasons.{drift_reason_after}
use Rattle.fr_drift.specs.Written.{doubles_record}
use Rattle.fr_generator.specs.Drawn.{Drawn, drawn_from, in_turn}
use Rattle.fr_generator.specs.Steps.{after_clock, after_delay}
use Rattle.fr_generator.proofs.Clocks.{clock-more, clocks-to, delay-more, delays-to}
use Rattle.fr_generator.proofs.Turns.{drift-drawn, drift-stands, none-drawn}
use Rattle.fr_generator.proofs.drift.drift_of.Goals as goal

pub set_clock-requires-clause-taken : goal.set_clock-requires-clause-taken
set_clock-requires-clause-taken c =
    let before : Drawn = in_turn after_clock c.loop-clock.clock (drawn_from (doubles_record c.args.doubles ∷ []) c.args.words.now) in
    record {
      records = before.records;
      stands = c.loop-clock.invariant.stands;
      accepted =
          subst (λ (p : Values). NoneRefused (drift_reason_after p) (after_clock c.loop-clock.clock (drawn_from before.records c.loop-clock.words)).records) (sym c.requires.cluster)
          (clock-more c.loop-clock.clock before.records c.loop-clock.words c.loop-clock-test.true
          (clocks-to c.args.doubles c.args.words.now c.requires.proper c.loop-clock.clock c.loop-clock.auto.clock-end)).accepted;
    }

pub loop-clock-init : goal.loop-clock-init
loop-clock-init c =
    let start : Drawn = drawn_from (doubles_record c.args.doubles ∷ []) c.args.words.now in
    record {
      stands = subst (λ (d : Drawn). DriftStandsFor c.args.params.now c.even-drift.result d.records) (sym (none-drawn after_clock start)) c.even-drift.ensures.stands;
      drawn = ap (λ (d : Drawn). d.words) (sym (none-drawn after_clock start));
    }

pub loop-clock-preserved : goal.loop-clock-preserved
loop-clock-preserved c =
    let start : Drawn = drawn_from (doubles_record c.args.doubles ∷ []) c.args.words.now in
    record {
      stands =
          drift-stands after_clock c.loop-clock.clock start c.loop-clock.words c.set_clock.new.words c.loop-clock.invariant.drawn c.args.params.now c.loop-clock.drift c.set_clock.new.drift
          c.in_ok-set_clock.ensures c.loop-clock.invariant.stands;
      drawn =
          drift-drawn after_clock c.loop-clock.clock start c.loop-clock.words c.set_clock.new.words c.loop-clock.invariant.drawn c.args.params.now c.loop-clock.drift c.set_clock.new.drift
          c.in_ok-set_clock.ensures;
    }

pub set_link-requires-clause-taken : goal.set_link-requires-clause-taken
set_link-requires-clause-taken c =
    let clocks : Drawn = in_turn after_clock 8 (drawn_from (doubles_record c.args.doubles ∷ []) c.args.words.now) in
    let before : Drawn = in_turn after_delay c.loop-link.link clocks in
    record {
      records = before.records;
      stands = c.loop-link.invariant.stands;
      accepted =
          subst (λ (p : Values). NoneRefused (drift_reason_after p) (after_delay c.loop-link.link (drawn_from before.records c.loop-link.words)).records) (sym c.requires.cluster)
          (delay-more c.loop-link.link before.records c.loop-link.words c.loop-link-test.true
          (delays-to clocks (clocks-to c.args.doubles c.args.words.now c.requires.proper 8 (omega arith)) c.loop-link.link c.loop-link.auto.link-end)).accepted;
    }

pub loop-link-init : goal.loop-link-init
loop-link-init c =
    let start : Drawn = drawn_from (doubles_record c.args.doubles ∷ []) c.args.words.now in
    let clocks : Drawn = in_turn after_clock 8 start in
    let all : c.loop-clock.clock ≡ 8 = omega arith in
    record {
      stands =
          subst (λ (d : Drawn). DriftStandsFor c.args.params.now c.loop-clock.drift d.records) (sym (none-drawn after_delay clocks))
          (subst (λ (k : ℕ). DriftStandsFor c.args.params.now c.loop-clock.drift (in_turn after_clock k start).records) all c.loop-clock.invariant.stands);
      drawn = c.loop-clock.invariant.drawn ∙ ap (λ (k : ℕ). (in_turn after_clock k start).words) all ∙ ap (λ (d : Drawn). d.words) (sym (none-drawn after_delay clocks));
    }

pub loop-link-preserved : goal.loop-link-preserved
loop-link-preserved c =
    let clocks : Drawn = in_turn after_clock 8 (drawn_from (doubles_record c.args.doubles ∷ []) c.args.words.now) in
    record {
      stands =
          drift-stands after_delay c.loop-link.link clocks c.loop-link.words c.set_link.new.words c.loop-link.invariant.drawn c.args.params.now c.loop-link.drift c.set_link.new.drift
          c.in_ok-set_link.ensures c.loop-link.invariant.stands;
      drawn =
          drift-drawn after_delay c.loop-link.link clocks c.loop-link.words c.set_link.new.words c.loop-link.invariant.drawn c.args.params.now c.loop-link.drift c.set_link.new.drift
          c.in_ok-set_link.ensures;
    }

pub returns : goal.returns
returns c =
    let clocks : Drawn = in_turn after_clock 8 (drawn_from (doubles_record c.args.doubles ∷ []) c.args.words.now) in
    let all : c.loop-link.link ≡ 112 = omega arith in
    let stands : DriftStandsFor c.args.params.now c.loop-link.drift (in_turn after_delay 112 clocks).records =
    subst (λ (k : ℕ). DriftStandsFor c.args.params.now c.loop-link.drift (in_turn after_delay k clocks).records) all c.loop-link.invariant.stands
    in
    record {
      stands = stands;
      drawn = c.loop-link.invariant.drawn ∙ ap (λ (k : ℕ). (in_turn after_delay k clocks).words) all;
      fits = record {
        records = (in_turn after_delay 112 clocks).records;
        none_refused =
            subst (λ (p : Values). NoneRefused (drift_reason_after p) (in_turn after_delay 112 clocks).records) (sym c.requires.cluster)
            (delays-to clocks (clocks-to c.args.doubles c.args.words.now c.requires.proper 8 (omega arith)) 112 (omega arith)).accepted;
        stands = stands;
      };
    }
