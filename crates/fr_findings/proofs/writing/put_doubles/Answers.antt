use Rattle.std.proofs.Common.{◌≡◌, ◌∙◌, ℕ, ◌+◌, ◌-◌, ◌*◌, ◌<◌, ◌≤◌, Ok, refl, sym, ap, subst, arith}
use Rattle.fr_base.specs.Device.{Puts}
use Rattle.fr_base.proofs.Putting.{puts_none}
use Rattle.fr_sightings.specs.Senders.{sightings_in}
use Rattle.fr_findings.specs.Ground.{CountsFew, basis_in, offending_given}
use Rattle.fr_findings.specs.Verdict.{DoubleCycle, double_at, double_with, progress_of, progress_told, told_of_doubles}
use Rattle.fr_findings.specs.declared.progress.Progress.{Progress}
use Rattle.fr_findings.proofs.Printing.{before-first, before-next, double-is, few-none, few-told, offending-of, progress-end, progress-then, told-cut, told-end, told-then, up_to}
use Rattle.fr_findings.proofs.writing.put_doubles.Goals as goal

pub put_around-requires-clause-around : goal.put_around-requires-clause-around
put_around-requires-clause-around g c =
    let look = c.look_at-look.ensures.timed c.args.ground.now.log.now c.loop-double.invariant.seen.timed in
    let untimely = c.look_at-untimely.ensures.timed c.args.ground.now.log.now c.loop-double.invariant.untimely.timed in
    let irregular = c.look_at-irregular.ensures.timed c.args.ground.now.log.now c.loop-double.invariant.irregular.timed in
    record { here = look.0; next = look.1; offending = record { untimely = untimely.0; irregular = irregular.0 } }

pub loop-double-init : goal.loop-double-init
loop-double-init g c =
    let first = c.args.doubles.first in
    let last = c.args.doubles.last in
    let untimely = c.look_from-rest_untimely.ensures in
    let irregular = c.look_from-rest_irregular.ensures in
    let l = c.args.ground.now.log.now in
    record {
      seen = c.requires.seen;
      untimely = record { timed = untimely.timed l c.requires.offending.untimely.timed; ascend = untimely.ascend; from = untimely.from };
      irregular = record { timed = irregular.timed l c.requires.offending.irregular.timed; ascend = irregular.ascend; from = irregular.from };
      same = λ later le. refl;
      same_untimely = λ later le. untimely.same later le;
      same_irregular = λ later le. irregular.same later le;
      before = before-first c.args.frames.now.seen.now first c.requires.seen.from;
      within = omega (arith, c.requires.first);
      started = omega arith;
      few = few-none (2 * (first - first)) c.args.progress.now c.requires.progress;
      puts = λ result after put.
          subst (λ (progress : Progress). Puts result (g.O.Sink.state c.args.out.now) after (told_of_doubles (basis_in c.args.ground.now) c.args.frames.now.seen.now (offending_given c.args.frames.now.offending) progress (up_to first last)))
          c.requires.progress put;
      progress =
          ap (λ (progress : Progress). progress_of (basis_in c.args.ground.now) c.args.frames.now.seen.now (offending_given c.args.frames.now.offending) progress (up_to first last)) c.requires.progress;
    }

pub returns-in_err-put_around-clause-puts : goal.returns-in_err-put_around-clause-puts
returns-in_err-put_around-clause-puts g c =
    let double = c.loop-double.double in
    let b = basis_in c.args.ground.now in
    let frames = offending_given c.args.frames.now.offending in
    let look = c.look_at-look in
    let untimely = c.look_at-untimely in
    let irregular = c.look_at-irregular in
    let here_is : look.result.here.now ≡ sightings_in c.args.frames.now.seen.now double = look.ensures.here ∙ c.loop-double.invariant.same double (omega arith) in
    let next_is : look.result.next.now ≡ sightings_in c.args.frames.now.seen.now (double + 1) = look.ensures.next ∙ c.loop-double.invariant.same (double + 1) (omega arith) in
    let untimely_is : untimely.result.here.now ≡ sightings_in frames.untimely double = untimely.ensures.here ∙ c.loop-double.invariant.same_untimely double (omega arith) in
    let irregular_is : irregular.result.here.now ≡ sightings_in frames.irregular double = irregular.ensures.here ∙ c.loop-double.invariant.same_irregular double (omega arith) in
    let d : DoubleCycle = double_with b double c.loop-double.before.now look.result.here.now look.result.next.now (offending-of untimely.result.here.now irregular.result.here.now) in
    c.loop-double.invariant.puts _ _
    (told-cut b c.args.frames.now.seen.now frames d c.loop-double.progress double c.args.doubles.last
    c.from_residual.result (omega (arith, c.loop-double-test.true))
    (double-is b c.args.frames.now.seen.now frames c.loop-double.before.now look.result.here.now look.result.next.now untimely.result.here.now irregular.result.here.now double
    c.loop-double.invariant.before here_is next_is untimely_is irregular_is)
    c.in_err-put_around.ensures.puts c.from_residual.ensures.0)

pub loop-double-preserved : goal.loop-double-preserved
loop-double-preserved g c =
    let double = c.loop-double.double in
    let ground = c.args.ground.now in
    let b = basis_in ground in
    let seen = c.args.frames.now.seen.now in
    let frames = offending_given c.args.frames.now.offending in
    let look = c.look_at-look in
    let untimely = c.look_at-untimely in
    let irregular = c.look_at-irregular in
    let here = look.result.here.now in
    let le : double ≤ c.args.doubles.last = omega (arith, c.loop-double-test.true) in
    let here_is : here ≡ sightings_in seen double = look.ensures.here ∙ c.loop-double.invariant.same double (omega arith) in
    let next_is : look.result.next.now ≡ sightings_in seen (double + 1) = look.ensures.next ∙ c.loop-double.invariant.same (double + 1) (omega arith) in
    let untimely_is : untimely.result.here.now ≡ sightings_in frames.untimely double = untimely.ensures.here ∙ c.loop-double.invariant.same_untimely double (omega arith) in
    let irregular_is : irregular.result.here.now ≡ sightings_in frames.irregular double = irregular.ensures.here ∙ c.loop-double.invariant.same_irregular double (omega arith) in
    let d : DoubleCycle = double_with b double c.loop-double.before.now here look.result.next.now (offending-of untimely.result.here.now irregular.result.here.now) in
    let is : d ≡ double_at b seen frames double =
    double-is b seen frames c.loop-double.before.now here look.result.next.now untimely.result.here.now irregular.result.here.now double
    c.loop-double.invariant.before here_is next_is untimely_is irregular_is in
    let told : c.put_around.new.progress ≡ progress_told b d c.loop-double.progress = c.in_ok-put_around.ensures.progress in
    let before : ℕ = 2 * (double - c.args.doubles.first) in
    let more : before + 2 ≡ 2 * (double + 1 - c.args.doubles.first) = omega (arith, c.loop-double.invariant.started) in
    let few : CountsFew (before + 2) c.put_around.new.progress =
    subst (CountsFew (before + 2)) (sym told) (few-told before b d c.loop-double.progress c.loop-double.invariant.few) in record {
      seen = record { timed = (look.ensures.timed ground.log.now c.loop-double.invariant.seen.timed).2; ascend = look.ensures.ascend; from = look.ensures.from };
      untimely = record { timed = (untimely.ensures.timed ground.log.now c.loop-double.invariant.untimely.timed).2; ascend = untimely.ensures.ascend; from = untimely.ensures.from };
      irregular = record {
        timed = (irregular.ensures.timed ground.log.now c.loop-double.invariant.irregular.timed).2;
        ascend = irregular.ensures.ascend;
        from = irregular.ensures.from;
      };
      same = λ later later_le. look.ensures.later later (omega (arith, later_le)) ∙ c.loop-double.invariant.same later (omega (arith, later_le));
      same_untimely = λ later later_le. untimely.ensures.later later (omega (arith, later_le)) ∙ c.loop-double.invariant.same_untimely later (omega (arith, later_le));
      same_irregular = λ later later_le. irregular.ensures.later later (omega (arith, later_le)) ∙ c.loop-double.invariant.same_irregular later (omega (arith, later_le));
      before = here_is ∙ before-next seen double;
      within = omega (arith, le);
      started = omega (arith, c.loop-double.invariant.started);
      few = subst (λ (most : ℕ). CountsFew most c.put_around.new.progress) more few;
      puts = λ result after put.
          c.loop-double.invariant.puts result after
          (told-then b seen frames d c.loop-double.progress double c.args.doubles.last result le is c.in_ok-put_around.ensures.puts
          (subst (λ (progress : Progress). Puts result (g.O.Sink.state c.put_around.new.out) after (told_of_doubles b seen frames progress (up_to (double + 1) c.args.doubles.last))) told put));
      progress =
          ap (λ (progress : Progress). progress_of b seen frames progress (up_to (double + 1) c.args.doubles.last)) told
          ∙ progress-then b seen frames d c.loop-double.progress double c.args.doubles.last le is
          ∙ c.loop-double.invariant.progress;
    }

pub returns-clause-puts : goal.returns-clause-puts
returns-clause-puts g c =
    let a = g.O.Sink.state c.loop-double.out in
    let less : c.args.doubles.last < c.loop-double.double = omega (arith, c.loop-double-test.false) in
    c.loop-double.invariant.puts _ _
    (subst (Puts (Ok tt) a a)
    (sym (told-end (basis_in c.args.ground.now) c.args.frames.now.seen.now (offending_given c.args.frames.now.offending) c.loop-double.progress c.loop-double.double c.args.doubles.last less)) (puts_none a))

pub returns-clause-progress : goal.returns-clause-progress
returns-clause-progress g c =
    let less : c.args.doubles.last < c.loop-double.double = omega (arith, c.loop-double-test.false) in
    sym (progress-end (basis_in c.args.ground.now) c.args.frames.now.seen.now (offending_given c.args.frames.now.offending) c.loop-double.progress c.loop-double.double c.args.doubles.last less)
    ∙ c.loop-double.invariant.progress
