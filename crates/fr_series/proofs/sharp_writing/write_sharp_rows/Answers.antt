use Rattle.std.proofs.Common.{◌≡◌, suc, ◌+◌, ◌*◌, ◌<◌, ◌≤◌, ℕ, List, ◌++◌, Ok, ap, refl, sym, ◌∙◌, subst, arith}
use Rattle.fr_base.specs.Device.{Puts}
use Rattle.fr_base.proofs.Putting.{cut, then, puts_none}
use Rattle.fr_cluster.specs.Values.{Values}
use Rattle.fr_drift.specs.Questions.{doubles_of}
use Rattle.fr_history.specs.Next.{cycles_of}
use Rattle.fr_world.specs.World.{WorldView, setting_after}
use Rattle.fr_series.specs.Basis.{tally_of, IsCourse}
use Rattle.fr_series.specs.Scale.{scale_of}
use Rattle.fr_series.specs.Stopping.{sharp_rows_before}
use Rattle.fr_series.specs.Writing.{sharp_double_at, IsKnown}
use Rattle.fr_series.proofs.SharpWorlds.{known_first, known_from, known_of, rows_none, rows_upto, sharp_rows-more}
use Rattle.fr_series.proofs.Stops.{stops_rows}
use Rattle.fr_series.proofs.Worlds.{two-more}
use Rattle.fr_series.proofs.sharp_writing.write_sharp_rows.Goals as goal

pub loop-double-init : goal.loop-double-init
loop-double-init g c =
    let w : WorldView = c.args.world.now in
    let a = g.O.Sink.state c.args.out.now in
    let P : List ℕ → Type 0 = λ l. Puts (Ok tt) a a l in
    let course : IsCourse w.params w.drift w.script 0 c.from.result =
    rw (← c.params-2.ensures.value, ← c.drift-2.ensures.value, ← c.script.ensures.value) c.from.ensures.is in
    record {
      ran = ap (λ (n : ℕ). record w { cycles = n }) c.requires.fresh;
      known = known_first w _ c.first-spread.result c.args.tally.now (c.of.ensures.value ∙ ap scale_of c.params.ensures.value) c.of.ensures.proper c.from.ensures.proper course refl c.requires.none;
      text = subst P (sym (rows_none w)) (puts_none a);
    }

pub loop-double-preserved : goal.loop-double-preserved
loop-double-preserved g c =
    let w : WorldView = c.args.world.now in
    let v : WorldView = c.loop-double.world in
    let inv = c.loop-double.invariant in
    let n = c.loop-double.double in
    let P : List ℕ → Type 0 = λ l. Puts (Ok tt) (g.O.Sink.state c.args.out.now) (g.O.Sink.state c.write_sharp_double.new.out) l in
    let same : sharp_double_at v n ≡ sharp_double_at w n = ap (λ (u : WorldView). sharp_double_at u n) inv.ran in
    record {
      ran = two-more w v c.write_sharp_double.new.world n inv.ran c.in_ok-write_sharp_double.ensures.ran;
      known = known_of w v (2 * n) (n + 1) _ _ _ inv.ran c.in_ok-write_sharp_double.ensures.known;
      text =
          subst P (ap (λ (l : List ℕ). sharp_rows_before w n ++ l) same ∙ sharp_rows-more w n)
          (then {rest = _} (Ok tt) inv.text c.in_ok-write_sharp_double.ensures.text);
    }

pub returns-in_err-write_sharp_double-clause-text : goal.returns-in_err-write_sharp_double-clause-text
returns-in_err-write_sharp_double-clause-text g c =
    let w : WorldView = c.args.world.now in
    let v : WorldView = c.loop-double.world in
    let inv = c.loop-double.invariant in
    let n = c.loop-double.double in
    let doubles : c.doubles-doubles.result ≡ doubles_of w.drift = c.doubles-doubles.ensures.value ∙ ap doubles_of c.drift.ensures.value in
    let le : n + 1 ≤ doubles_of w.drift = omega (arith, doubles) in
    let rest = rows_upto w (n + 1) (doubles_of w.drift) le in
    let both = then _ inv.text c.in_err-write_sharp_double.ensures.text in
    let far = cut c.from_residual.result rest.0 both c.from_residual.ensures.0 in
    let same : sharp_double_at v n ≡ sharp_double_at w n = ap (λ (u : WorldView). sharp_double_at u n) inv.ran in
    let P : List ℕ → Type 0 = λ l. Puts c.from_residual.result (g.O.Sink.state c.args.out.now) (g.O.Sink.state c.write_sharp_double.new.out) l in
    subst P (ap (λ (l : List ℕ). l ++ rest.0) (ap (λ (l : List ℕ). sharp_rows_before w n ++ l) same ∙ sharp_rows-more w n) ∙ sym rest.1) far

pub returns-in_err-write_sharp_double-clause-ran : goal.returns-in_err-write_sharp_double-clause-ran
returns-in_err-write_sharp_double-clause-ran g c =
    let w : WorldView = c.args.world.now in
    let v : WorldView = c.loop-double.world in
    let inv = c.loop-double.invariant in
    let n = c.loop-double.double in
    let doubles : c.doubles-doubles.result ≡ doubles_of w.drift = c.doubles-doubles.ensures.value ∙ ap doubles_of c.drift.ensures.value in
    let below : n < doubles_of w.drift = omega (arith, doubles) in
    let next : n + 1 ≡ suc n = omega arith in
    let rest = rows_upto w (n + 1) (doubles_of w.drift) (omega (arith, below)) in
    let same : sharp_double_at v n ≡ sharp_double_at w n = ap (λ (u : WorldView). sharp_double_at u n) inv.ran in
    stops_rows (sharp_rows_before w) c.from_residual.result w c.write_sharp_double.new.world (g.O.Sink.state c.args.out.now) (g.O.Sink.state c.loop-double.out) (g.O.Sink.state c.write_sharp_double.new.out)
    n (sharp_double_at v n) rest.0 c.from_residual.ensures.0 below
    (two-more w v c.write_sharp_double.new.world n inv.ran c.in_err-write_sharp_double.ensures.ran ∙ ap (λ (k : ℕ). record w { cycles = 2 * k }) next)
    (rest.1 ∙ ap (λ (l : List ℕ). l ++ rest.0) (sym (ap (λ (l : List ℕ). sharp_rows_before w n ++ l) same ∙ sharp_rows-more w n))) inv.text c.in_err-write_sharp_double.ensures.text

pub returns-clause-ran : goal.returns-clause-ran
returns-clause-ran g c =
    let w : WorldView = c.args.world.now in
    let doubles : c.doubles-doubles.result ≡ doubles_of w.drift = c.doubles-doubles.ensures.value ∙ ap doubles_of c.drift.ensures.value in
    let end : c.loop-double.double ≡ doubles_of w.drift = omega (arith, doubles) in
    c.loop-double.invariant.ran ∙ ap (λ (n : ℕ). record w { cycles = 2 * n }) end

pub returns-clause-text : goal.returns-clause-text
returns-clause-text g c =
    let w : WorldView = c.args.world.now in
    let doubles : c.doubles-doubles.result ≡ doubles_of w.drift = c.doubles-doubles.ensures.value ∙ ap doubles_of c.drift.ensures.value in
    let end : c.loop-double.double ≡ doubles_of w.drift = omega (arith, doubles) in
    let P : ℕ → Type 0 = λ k. Puts (Ok tt) (g.O.Sink.state c.args.out.now) (g.O.Sink.state c.loop-double.out) (sharp_rows_before w k) in
    subst P end c.loop-double.invariant.text

pub returns-clause-tally : goal.returns-clause-tally
returns-clause-tally g c = λ ok.
    let w : WorldView = c.args.world.now in
    let doubles : c.doubles-doubles.result ≡ doubles_of w.drift = c.doubles-doubles.ensures.value ∙ ap doubles_of c.drift.ensures.value in
    let end : c.loop-double.double ≡ doubles_of w.drift = omega (arith, doubles) in
    let P : ℕ → Type 0 = λ k. c.loop-double.tally ≡ tally_of w.params w.drift w.script (cycles_of (setting_after w) (2 * k)) in
    subst P end c.loop-double.invariant.known.figures

pub write_sharp_double-requires-clause-at : goal.write_sharp_double-requires-clause-at
write_sharp_double-requires-clause-at g c =
    let w : WorldView = c.args.world.now in
    let inv = c.loop-double.invariant in
    let n = c.loop-double.double in
    let doubles : c.doubles-doubles.result ≡ doubles_of w.drift = c.doubles-doubles.ensures.value ∙ ap doubles_of c.drift.ensures.value in
    let below : n < doubles_of w.drift = omega (arith, doubles) in
    let same : doubles_of w.drift ≡ doubles_of c.loop-double.world.drift = sym (ap (λ (v : WorldView). doubles_of v.drift) inv.ran) in
    record {
      at = ap (λ (v : WorldView). v.cycles) inv.ran;
      more = omega (arith, below, same);
      few = omega (arith, doubles, below, c.doubles-doubles.ensures.to);
    }

pub write_sharp_double-requires-clause-known : goal.write_sharp_double-requires-clause-known
write_sharp_double-requires-clause-known g c =
    let inv = c.loop-double.invariant in
    known_from c.args.world.now c.loop-double.world (2 * c.loop-double.double) c.loop-double.double _ _ _ inv.ran inv.known
