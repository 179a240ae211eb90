use Rattle.std.proofs.Common.{◌≡◌, ◌∙◌, ℕ, suc, ◌+◌, ◌<◌, ◌≤◌, ap, subst, sym, rules, arith}
use Rattle.std.specs.Prelude.{max}
use Rattle.fr_cluster.specs.Values.{Values}
use Rattle.fr_bound.specs.Settling.{IsPeakTo, IsSettled, apart_in, spread_after}
use Rattle.fr_bound.proofs.Settled.{none_earlier, peak_first, peak_next, settled_soon, spread_next, spread_none}
use Rattle.fr_bound.proofs.settling.way.Goals as goal

pub loop-double-init : goal.loop-double-init
loop-double-init c =
    let p : Values = c.args.params.now in
    let is : c.first-spread.result ≡ spread_after p c.args.start c.args.rate 0 = c.first-spread.ensures.value ∙ spread_none p c.args.start c.args.rate in
    let apart : c.apart-peak.result ≡ apart_in p (spread_after p c.args.start c.args.rate 0) = c.apart-peak.ensures.value ∙ ap (apart_in p) is in
    record {
      spread = is;
      earlier = λ n less settled. absurd (omega (arith, less));
      peak = subst (IsPeakTo p c.args.start c.args.rate 0) (sym apart) (peak_first p c.args.start c.args.rate);
      starts = c.first-spread.ensures.starts;
      lengths = c.first-spread.ensures.lengths;
      most = c.apart-peak.ensures.most;
    }

pub loop-double-preserved : goal.loop-double-preserved
loop-double-preserved c =
    let p : Values = c.args.params.now in
    let start : ℕ = c.args.start in
    let rate : ℕ = c.args.rate in
    let n : ℕ = c.loop-double.double in
    let was = c.loop-double.invariant in
    let one : suc n ≡ n + 1 = omega arith in
    let peak : IsPeakTo p start rate (suc n) (max c.loop-double.peak (apart_in p c.next-spread.result)) =
    peak_next p start rate n c.loop-double.peak c.loop-double.spread c.next-spread.result was.peak was.spread c.next-spread.ensures.value in
    let apart : max c.loop-double.peak (apart_in p c.next-spread.result) ≡ c.max-peak.result =
    ap (max c.loop-double.peak) (sym c.apart.ensures.value) ∙ sym c.max-peak.ensures in
    let at_end : IsPeakTo p start rate (suc n) c.max-peak.result = subst (IsPeakTo p start rate (suc n)) apart peak in
    record {
      spread =
          subst (λ (m : ℕ). c.next-spread.result ≡ spread_after p start rate m) one
          (spread_next p start rate n c.loop-double.spread c.next-spread.result was.spread c.next-spread.ensures.value);
      earlier =
          subst (λ (m : ℕ). (k : ℕ) → k < m → IsSettled p (spread_after p start rate k) → ⊥) one
          (none_earlier p start rate n c.loop-double.spread was.earlier was.spread (c.is_settled.ensures.no c.if-is_settled.false));
      peak = subst (λ (m : ℕ). IsPeakTo p start rate m c.max-peak.result) one at_end;
      starts = c.next-spread.ensures.starts;
      lengths = c.next-spread.ensures.lengths;
      most = no_more c.loop-double.peak c.apart.result c.max-peak.result c.max-peak.ensures was.most c.apart.ensures.most;
    }
  where
    no_more : (a b m : ℕ) → m ≡ max a b → a ≤ 8_200_000_000_000 → b ≤ 8_200_000_000_000 → m ≤ 8_200_000_000_000
    no_more a b m is one two = grind arith

pub returns-clause-settles : goal.returns-clause-settles
returns-clause-settles c =
    let p : Values = c.args.params.now in
    let at : c.loop-double.double ≡ 83 = search rules in
    record {
      settled = settled_soon p c.args.start c.args.rate c.requires.start c.requires.rate;
      first = λ n less settled. c.loop-double.invariant.earlier n (omega (arith, less, at)) settled;
    }
