-- A lawful history comes into sharp sync by the way that is told of it.
use Rattle.std.proofs.Common.{◌≡◌, ◌∙◌, ℕ, ◌+◌, ◌-◌, ◌<◌, ◌≤◌, inl, inr, Bool, ℤ, pos, Option, None, ap, sym, subst, arith}
use Rattle.std.specs.Prelude.{◌≤ℤ◌}
use Rattle.std.proofs.lemmas.Bool.{cases_order}
use Rattle.std.proofs.lemmas.Int.{ints}
use Rattle.fr_cluster.specs.Setting.{Setting}
use Rattle.fr_cluster.specs.Values.{Values}
use Rattle.fr_bound.specs.declared.settling.Spread.{Spread}
use Rattle.fr_history.specs.Cycles.{Cycles}
use Rattle.fr_promise.specs.declared.way.SharpWay.{SharpWay}
use Rattle.fr_sharp.specs.SettlingHistories.{BeginsSharply, KeepsToSpreadsAt}
use Rattle.fr_runs.specs.SharpHistories.{KeepsApart, StaysInSharpSyncAt}
use Rattle.fr_precision.specs.SharpRun.{WalkLastsUpTo}
use Rattle.fr_bound.specs.SharpSpreads.{sharply_near_in}
use Rattle.fr_bound.specs.SharpSpreads.{IsSharplySettled}
use Rattle.fr_precision.specs.SharpSettling.{sharp_spread_after}
use Rattle.fr_promise.specs.SharpWay.{apart_after, near_after, AllWayChecksHold, IsSharpWay, IsWayVerdict, LeadsTo}
use Rattle.fr_sharp.specs.WayHistories.{BeginsNear, ComesByTheWay, HistoriesSettleSharply, StatedRunsSettleSharply}
use Rattle.fr_sharp.proofs.RunSettles.{histories_keep_to_spreads, histories_reach_sharp_sync}
use Rattle.fr_sharp.proofs.RunStated.{stated_starts_are_sharp}
use Rattle.fr_promise.proofs.WayLemmas.{checks_of_way, settled_on, walk_lasts_up_to, walk_lasts_while}

-- spreads at rest are the same, whenever that is
same_near : (beside : Bool) (p : Values) (flutter : ℕ) (one other : Spread) → IsSharplySettled beside p flutter one → IsSharplySettled beside p flutter other → sharply_near_in p one ≡ sharply_near_in p other
same_near beside p flutter one other here there =
    let near : ℕ → ℕ → ℕ = λ starts lengths. sharply_near_in p (record { starts = starts; lengths = lengths }) in
    ap (λ (starts : ℕ). near starts one.lengths) (here.1 ∙ sym there.1) ∙ ap (near other.starts) (here.0 ∙ sym there.0)

-- so the reach up to then takes in the whole way
reach_takes_in : (beside : Bool) (p : Values) (flutter start rate double peak reach : ℕ) → LeadsTo beside p flutter start rate double peak reach → (k : ℕ) → near_after beside p flutter start rate k ≤ reach
reach_takes_in beside p flutter start rate double peak reach leads k = elim (cases_order k double) [
  | inl same ↦ leads.reach_is.greatest k (omega (arith, same))
  | inr (inl less) ↦ leads.reach_is.greatest k (omega (arith, less))
  | inr (inr more) ↦
      let apart : double + (k - double) ≡ k = omega (arith, more) in
      let At : ℕ → Type 0 = λ n. IsSharplySettled beside p flutter (sharp_spread_after beside p flutter start rate n) in
      let later : At k = subst At apart (settled_on beside p flutter start rate double (k - double) leads.settles.settled) in
      let same = same_near beside p flutter (sharp_spread_after beside p flutter start rate k) (sharp_spread_after beside p flutter start rate double) later leads.settles.settled in
      let below = leads.reach_is.greatest double (itself double) in
      subst (λ (n : ℕ). n ≤ reach) (sym same) below
] where
  itself : (n : ℕ) → n ≤ n
  itself n = omega arith

-- macroticks that lie so near lie no further apart than more
keeps_wider : (x : Setting) (h : Cycles) (double apart more : ℕ) → apart ≤ more → KeepsApart x h double apart → KeepsApart x h double more
keeps_wider x h double apart more le keeps = record {
  skew = λ macrotick is_odd less. wider _ (keeps.skew macrotick is_odd less);
  ends = keeps.ends;
} where
  wider : (z : ℤ) → z ≤ℤ pos apart → z ≤ℤ pos more
  wider z below = omega (arith, ints, le, below)

module _ (beside : Bool) (x : Setting) (flutter start rate : ℕ) (way : SharpWay) (h : Cycles) (double : ℕ) (is : IsSharpWay beside x.params flutter start rate way) (none : way.failed ≡ None)
    (b : BeginsNear beside x flutter start rate h double) where
  all : AllWayChecksHold x.params flutter way.doubles way.reach
  all = let Of : Option (ℕ × ℤ × ℤ) → Type 0 = IsWayVerdict x.params flutter way.doubles way.reach in subst Of none is.verdict

  begins : BeginsSharply beside x flutter start rate way.reach h double
  begins = record {
    run = b.run;
    checks = checks_of_way x.params flutter way.doubles way.reach all;
    near = λ k short. reach_takes_in beside x.params flutter start rate way.doubles way.peak way.reach is.leads k;
    active = b.active;
    first = b.first;
  }

  stays_from : (passed : ℕ) → double + passed < x.doubles → way.doubles ≤ passed → StaysInSharpSyncAt beside x flutter h double passed
  stays_from passed within le = histories_reach_sharp_sync beside x flutter start rate way.reach h double way.doubles begins is.leads.settles.settled passed le within

  comes_by : (passed : ℕ) → double + passed < x.doubles → ComesByTheWay beside x flutter way h double passed
  comes_by passed within = record {
    before = λ less.
        let kept : KeepsToSpreadsAt beside x flutter start rate h double passed = histories_keep_to_spreads beside x flutter start rate way.reach h double begins passed within in
        keeps_wider x h (double + passed) (apart_after beside x.params flutter start rate passed) way.peak (is.leads.peak_is.greatest passed (omega (arith, less)))
        (kept.keeps (walk_lasts_while x.params flutter way.doubles way.reach passed all less));
    arrives = λ same.
        let lasts : WalkLastsUpTo x.params flutter passed = subst (WalkLastsUpTo x.params flutter) (sym same) (walk_lasts_up_to x.params flutter way.doubles way.reach all) in
        (stays_from passed within (omega (arith, same))).synced lasts;
    stays = λ le. stays_from passed within le;
  }

pub histories_settle_sharply : HistoriesSettleSharply
histories_settle_sharply beside x flutter start rate way h double is none b passed within = comes_by beside x flutter start rate way h double is none b passed within

pub stated_runs_settle_sharply : StatedRunsSettleSharply
stated_runs_settle_sharply beside x flutter start rate way h is none run stated double within =
    comes_by beside x flutter start rate way h 0 is none begins double (omega (arith, within))
  where
    begins : BeginsNear beside x flutter start rate h 0
    begins = record {
      run = run;
      active = λ some. absurd (omega (arith, some));
      first = λ even at. stated_starts_are_sharp beside x flutter start rate h even run stated at;
    }
