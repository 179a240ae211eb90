use Rattle.std.proofs.Common.{◌≡◌, ◌∙◌, ℕ, suc, ◌+◌, ◌<◌, ◌≤◌, Bool, ap, subst, sym, rules, arith}
use Rattle.std.specs.Prelude.{max}
use Rattle.fr_cluster.specs.Values.{Values}
use Rattle.fr_bound.specs.SharpSpreads.{sharply_apart_in, sharply_near_in}
use Rattle.fr_bound.specs.SharpSpreads.{IsSharplySettled}
use Rattle.fr_precision.specs.SharpSettling.{sharp_spread_after}
use Rattle.fr_promise.specs.SharpWay.{apart_after, near_after, LeadsTo, SettlesSharplyAt}
use Rattle.fr_promise.proofs.WayLemmas.{greatest_first, greatest_next, none_earlier, settled_at_last, settles_soon, spread_next, spread_none}
use Rattle.fr_promise.proofs.way.until_settled.Goals as goal

pub loop-double-init : goal.loop-double-init
loop-double-init c =
    let p : Values = c.args.params.now in
    let b : Bool = c.args.beside in
    let t : ℕ = c.args.flutter in
    let is : c.first-spread.result ≡ sharp_spread_after b p t c.args.start c.args.rate 0 = c.first-spread.ensures.value ∙ spread_none b p t c.args.start c.args.rate in
    record {
      spread = is;
      earlier = λ n less settled. absurd (omega (arith, less));
      peak = greatest_first (apart_after b p t c.args.start c.args.rate) c.precision_by-peak.result (c.precision_by-peak.ensures.value ∙ ap (sharply_apart_in p) is);
      reach = greatest_first (near_after b p t c.args.start c.args.rate) c.near_by-reach.result (c.near_by-reach.ensures.value ∙ ap (sharply_near_in p) is);
      starts = c.first-spread.ensures.starts;
      lengths = c.first-spread.ensures.lengths;
      most = c.near_by-reach.ensures.most;
    }

pub loop-double-preserved : goal.loop-double-preserved
loop-double-preserved c =
    let p : Values = c.args.params.now in
    let b : Bool = c.args.beside in
    let t : ℕ = c.args.flutter in
    let start : ℕ = c.args.start in
    let rate : ℕ = c.args.rate in
    let n : ℕ = c.loop-double.double in
    let was = c.loop-double.invariant in
    let one : suc n ≡ n + 1 = omega arith in
    let next : c.next_sharp_spread-spread.result ≡ sharp_spread_after b p t start rate (suc n) = spread_next b p t start rate n c.loop-double.spread c.next_sharp_spread-spread.result was.spread c.next_sharp_spread-spread.ensures.value in
    record {
      spread = subst (λ (m : ℕ). c.next_sharp_spread-spread.result ≡ sharp_spread_after b p t start rate m) one next;
      earlier =
          subst (λ (m : ℕ). (k : ℕ) → k < m → IsSharplySettled b p t (sharp_spread_after b p t start rate k) → ⊥) one
          (none_earlier b p t start rate n c.loop-double.spread was.earlier was.spread (c.is_settled.ensures.no c.if-is_settled.false));
      peak =
          greatest_next (apart_after b p t start rate) n (n + 1) c.loop-double.peak c.precision_by.result c.max-peak.result (sym one) was.peak (c.precision_by.ensures.value ∙ ap (sharply_apart_in p) next)
          c.max-peak.ensures;
      reach =
          greatest_next (near_after b p t start rate) n (n + 1) c.loop-double.reach c.near_by.result c.max-reach.result (sym one) was.reach (c.near_by.ensures.value ∙ ap (sharply_near_in p) next)
          c.max-reach.ensures;
      starts = c.next_sharp_spread-spread.ensures.starts;
      lengths = c.next_sharp_spread-spread.ensures.lengths;
      most = no_more c.loop-double.reach c.near_by.result c.max-reach.result c.max-reach.ensures was.most c.near_by.ensures.most;
    }
  where
    no_more : (a b m : ℕ) → m ≡ max a b → a ≤ 5_200_000_000_000 → b ≤ 5_200_000_000_000 → m ≤ 5_200_000_000_000
    no_more a b m is one two = grind arith

pub returns-then-is_settled-clause-leads : goal.returns-then-is_settled-clause-leads
returns-then-is_settled-clause-leads c =
    let p : Values = c.args.params.now in
    let b : Bool = c.args.beside in
    let t : ℕ = c.args.flutter in
    let n : ℕ = c.loop-double.double in
    let settles : SettlesSharplyAt b p t c.args.start c.args.rate n = record {
      settled = subst (IsSharplySettled b p t) c.loop-double.invariant.spread (c.is_settled.ensures.yes c.if-is_settled.true);
      first = c.loop-double.invariant.earlier;
    } in
    record {
      settles = settles;
      soon = settles_soon b p t c.args.start c.args.rate n c.requires.start c.requires.rate settles;
      peak_is = c.loop-double.invariant.peak;
      reach_is = c.loop-double.invariant.reach;
    }

pub returns-clause-leads : goal.returns-clause-leads
returns-clause-leads c =
    let p : Values = c.args.params.now in
    let b : Bool = c.args.beside in
    let t : ℕ = c.args.flutter in
    let at : c.loop-double.double ≡ 82 = search rules in
    let settles : SettlesSharplyAt b p t c.args.start c.args.rate 82 = record {
      settled = settled_at_last b p t c.args.start c.args.rate c.requires.start c.requires.rate;
      first = λ n less settled. c.loop-double.invariant.earlier n (omega (arith, less, at)) settled;
    } in
    let Leads : ℕ → Type 0 = λ n. LeadsTo b p t c.args.start c.args.rate n c.loop-double.peak c.loop-double.reach in
    let here : SettlesSharplyAt b p t c.args.start c.args.rate c.loop-double.double = subst (SettlesSharplyAt b p t c.args.start c.args.rate) (sym at) settles in
    let leads : Leads c.loop-double.double = record {
      settles = here;
      soon = settles_soon b p t c.args.start c.args.rate c.loop-double.double c.requires.start c.requires.rate here;
      peak_is = c.loop-double.invariant.peak;
      reach_is = c.loop-double.invariant.reach;
    } in
    subst Leads at leads
