-- What a run keeps of rates and of offsets from a double cycle in sync to the next one.
use Rattle.std.proofs.Common.{◌≡◌, ℕ, suc, ◌+◌, ◌*◌, ◌<◌, ℤ, pos, Some, [], ◌∷◌, length, ap, sym, ◌∙◌, subst, arith}
use Rattle.std.specs.Prelude.{◌-ℤ◌, ◌*ℤ◌}
use Rattle.fr_base.specs.Within.{IsWithin}
use Rattle.fr_base.specs.declared.node_row.NodeRow.{NodeRow}
use Rattle.fr_cluster.specs.Setting.{IsSetting, Setting}
use Rattle.fr_cluster.specs.declared.nodes.NodeSpec.{NodeSpec}
use Rattle.fr_correct.specs.declared.term.Term.{Term}
use Rattle.fr_bound.specs.Bounds.{lambda_of, pi_of}
use Rattle.fr_precision.specs.Rows.{corrected_end_of}
use Rattle.fr_precision.specs.Step.{DrawNear}
use Rattle.fr_history.specs.Cycles.{Cycle, Cycles, cycle_at}
use Rattle.fr_history.specs.Lawful.{IsLawful}
use Rattle.fr_history.specs.Next.{cycles_of}
use Rattle.fr_history.specs.History.{row_for}
use Rattle.fr_runs.specs.Numbers.{HasDouble, HasRowIn, IsSyncedRun, JoinedRunsKeepOffsets, JoinedRunsKeepRates, StatedRunsAreSynced, node_start, starts_after}
use Rattle.fr_runs.specs.Gathered.{reach_in}
use Rattle.fr_runs.specs.Rounds.{IsDoubleOf}
use Rattle.fr_runs.proofs.Moved.{Moves}
use Rattle.fr_runs.proofs.Parts.{cycle_within, double_at, even_is, odd_is}
use Rattle.fr_runs.proofs.Whole.{prior_of}
use Rattle.fr_runs.proofs.Covers.{coverage_suffices}
use Rattle.fr_runs.specs.Stated.{all_cycles}
use Rattle.fr_runs.proofs.RowsDrawn.{hearer_at, member_at, offsets_uncut, rates_uncut, row_moves, two_draw_near}
use Rattle.fr_runs.proofs.RowsHeard.{SpreadRows}
use Rattle.fr_runs.specs.Apart.{IsLawfulPart}
use Rattle.fr_runs.proofs.RowsRun.{next_rows, spread_rows, synced_are_spread}
use Rattle.fr_runs.proofs.RowsApart.{among_rows, rate_term_is, stores}

-- ---- the double cycle, with the cycles before it

-- the cycles of a double cycle are those of its numbers
same_even : (h : Cycles) (double : ℕ) (even odd : Cycle) (earlier : Cycles) (e o : Cycle) → HasDouble h double even odd → IsDoubleOf h double earlier e o → e ≡ even
same_even h double even odd earlier e o has d = let same : Some e ≡ Some even = sym (even_is h double earlier e o d) ∙ has.has_even in cc

same_odd : (h : Cycles) (double : ℕ) (even odd : Cycle) (earlier : Cycles) (e o : Cycle) → HasDouble h double even odd → IsDoubleOf h double earlier e o → o ≡ odd
same_odd h double even odd earlier e o has d = let same : Some o ≡ Some odd = sym (odd_is h double earlier e o d) ∙ has.has_odd in cc

pub record Here (h : Cycles) (double : ℕ) (even odd : Cycle) : Type 0 where
  pub earlier : Cycles
  pub is : IsDoubleOf h double earlier even odd

pub here : (h : Cycles) (double : ℕ) (even odd : Cycle) → HasDouble h double even odd → Here h double even odd
here h double even odd has =
    let below : suc (2 * double) < length h = cycle_within h (suc (2 * double)) odd has.has_odd in
    let at = double_at h double (omega (arith, below)) in
    let Even : Cycle → Type 0 = λ c. IsDoubleOf h double at.earlier c at.odd in
    let Odd : Cycle → Type 0 = λ c. IsDoubleOf h double at.earlier even c in
    record {
      earlier = at.earlier;
      is =
          subst Odd (same_odd h double even odd at.earlier at.even at.odd has at.is)
          (subst Even (same_even h double even odd at.earlier at.even at.odd has at.is) at.is);
    }

-- the next double cycle stands behind the same cycles
pub record NextHere (h : Cycles) (double : ℕ) (even odd even2 odd2 : Cycle) : Type 0 where
  pub earlier : Cycles
  pub is : IsDoubleOf h (suc double) (odd ∷ even ∷ earlier) even2 odd2

pub next_here : (h : Cycles) (double : ℕ) (even odd even2 odd2 : Cycle) → HasDouble h double even odd → HasDouble h (suc double) even2 odd2
    → NextHere h double even odd even2 odd2
next_here h double even odd even2 odd2 has next =
    let at = here h (suc double) even2 odd2 next in
    by_earlier at.earlier at.is
  where
    by_earlier : (earlier : Cycles) → IsDoubleOf h (suc double) earlier even2 odd2 → NextHere h double even odd even2 odd2
    by_earlier [] d = let counted : 0 ≡ 2 * suc double = d.counted in absurd (omega (arith, counted))
    by_earlier (o ∷ []) d = let counted : 1 ≡ 2 * suc double = d.counted in absurd (omega (arith, counted))
    by_earlier (o ∷ e ∷ earlier) d =
        let before = prior_of h double earlier e o even2 odd2 d in
        let Even : Cycle → Type 0 = λ c. IsDoubleOf h (suc double) (o ∷ c ∷ earlier) even2 odd2 in
        let Odd : Cycle → Type 0 = λ c. IsDoubleOf h (suc double) (c ∷ even ∷ earlier) even2 odd2 in
        record {
          earlier = earlier;
          is =
              subst Odd (same_odd h double even odd earlier e o has before) (subst Even (same_even h double even odd earlier e o has before) d);
        }

-- ---- its nodes with rows

has_double : (x : Setting) (h : Cycles) (double : ℕ) → (s : IsSyncedRun x h double) → HasDouble h double s.synced.even s.synced.odd
has_double x h double s =
    let late : suc (2 * double) ≡ 2 * double + 1 = omega arith in
    record { has_even = s.synced.has_even; has_odd = ap (cycle_at h) late ∙ s.synced.has_odd }

part_of : (x : Setting) (h : Cycles) (double : ℕ) → IsSyncedRun x h double → IsLawfulPart x h
part_of x h double s = record { covered = s.covered; rates = s.rates; lawful = s.lawful; within = s.within }

-- they lie as far apart as pi and lambda say
abbrev SyncedRows : Setting → Cycles → Cycle → Cycle → ℕ → Type 0
SyncedRows x earlier even odd double = SpreadRows x earlier even odd double (pos (pi_of x.params)) (pos (lambda_of x.params)) (pos (reach_in x))

synced_rows : (x : Setting) (h : Cycles) (double : ℕ) (earlier : Cycles) (s : IsSyncedRun x h double) → IsDoubleOf h double earlier s.synced.even s.synced.odd
    → SyncedRows x earlier s.synced.even s.synced.odd double
synced_rows x h double earlier s d =
    spread_rows x h (part_of x h double s) double earlier s.synced.even s.synced.odd (pos (pi_of x.params)) (pos (lambda_of x.params)) (pos (reach_in x)) d
    (synced_are_spread x s.synced.even s.synced.odd s.covered s.synced.in_sync)

-- two of them draw near, and so they go on
record GoOn (x : Setting) (even odd even2 odd2 : Cycle) (one other : NodeSpec) : Type 0 where
  near : DrawNear x.params (pos (pi_of x.params)) (pos (lambda_of x.params)) (member_at x even odd one) (member_at x even odd other)
  first : Moves x.params (hearer_at x even odd one) (row_for even2.told.rows one.id) (row_for odd2.told.rows one.id)
  second : Moves x.params (hearer_at x even odd other) (row_for even2.told.rows other.id) (row_for odd2.told.rows other.id)

go_on : (x : Setting) (h : Cycles) (double : ℕ) (s : IsSyncedRun x h double) (even2 odd2 : Cycle) (one other : NodeSpec) → HasDouble h (suc double) even2 odd2
    → HasRowIn x s.synced.even one → HasRowIn x s.synced.even other → GoOn x s.synced.even s.synced.odd even2 odd2 one other
go_on x h double s even2 odd2 one other next first second =
    let even = s.synced.even in
    let odd = s.synced.odd in
    let pi = pos (pi_of x.params) in
    let lambda = pos (lambda_of x.params) in
    let reach = pos (reach_in x) in
    let at = next_here h double even odd even2 odd2 (has_double x h double s) next in
    let rows = synced_rows x h double at.earlier s (prior_of h double at.earlier even odd even2 odd2 at.is) in
    let n = next_rows x h (part_of x h double s) double at.earlier even odd even2 odd2 at.is in
    let here = among_rows x at.earlier even odd double pi lambda reach rows one first in
    let there = among_rows x at.earlier even odd double pi lambda reach rows other second in
    record {
      near = two_draw_near x at.earlier even odd double pi lambda reach rows one other here there;
      first = row_moves x at.earlier even odd double pi lambda reach rows even2 odd2 n one here;
      second = row_moves x at.earlier even odd double pi lambda reach rows even2 odd2 n other there;
    }

-- ---- what is stated suffices

pub stated_runs_are_synced : ((x : Setting) (n : ℕ) → IsSetting x → IsLawful x (cycles_of x n)) → ((x : Setting) (n : ℕ) → length (cycles_of x n) ≡ n) → StatedRunsAreSynced
stated_runs_are_synced lawful long x double stated synced =
    let whole : length (all_cycles x) ≡ 2 * x.doubles = long x (2 * x.doubles) in
    record {
      covered = coverage_suffices x stated.covered;
      rates = stated.rates;
      lawful = lawful x (2 * x.doubles) stated.setting;
      within = omega (arith, whole);
      synced = synced;
    }

-- ---- the laws

pub joined_runs_keep_rates : JoinedRunsKeepRates
joined_runs_keep_rates x h double s =
    let even = s.synced.even in
    let odd = s.synced.odd in
    let at = here h double even odd (has_double x h double s) in
    let rows = synced_rows x h double at.earlier s at.is in
    record {
      uncut = λ node has.
          let among = among_rows x at.earlier even odd double (pos (pi_of x.params)) (pos (lambda_of x.params)) (pos (reach_in x)) rows node has in
          ap (λ (term : Term). term.outcome) (rate_term_is x at.earlier even odd double (pos (pi_of x.params)) (pos (lambda_of x.params)) (pos (reach_in x)) rows node among) ∙ rates_uncut x at.earlier even odd double (pos (pi_of x.params)) (pos (lambda_of x.params)) (pos (reach_in x)) rows node among;
      lengths = λ next_even next_odd one other next first second.
          let go = go_on x h double s next_even next_odd one other next first second in
          let even_of : NodeSpec → NodeRow = λ node. row_for next_even.told.rows node.id in
          let odd_of : NodeSpec → NodeRow = λ node. row_for next_odd.told.rows node.id in
          let near = go.near.lengths_draw (even_of one) (odd_of one) (even_of other) (odd_of other) go.first.next go.second.next in
          let proper = go.near.proper (even_of one) (odd_of one) go.first.next in
          (record { near = near.0; proper = proper.0 }, record { near = near.1; proper = proper.1 });
    }

pub joined_runs_keep_offsets : JoinedRunsKeepOffsets
joined_runs_keep_offsets x h double s =
    let even = s.synced.even in
    let odd = s.synced.odd in
    let at = here h double even odd (has_double x h double s) in
    let rows = synced_rows x h double at.earlier s at.is in
    record {
      uncut = λ node has. offsets_uncut x at.earlier even odd double (pos (pi_of x.params)) (pos (lambda_of x.params)) (pos (reach_in x)) rows node (among_rows x at.earlier even odd double (pos (pi_of x.params)) (pos (lambda_of x.params)) (pos (reach_in x)) rows node has);
      starts = λ next_even next_odd one other next first second.
          let go = go_on x h double s next_even next_odd one other next first second in
          let Apart : ℤ → ℤ → Type 0 = λ a b. IsWithin (starts_after x.params) (pos 2 *ℤ (a -ℤ b)) in
          let From : ℤ → Type 0 = λ a. Apart a (corrected_end_of x.params (hearer_at x even odd other).odd) in
          subst (Apart (node_start next_even.told one)) (sym go.second.start) (subst From (sym go.first.start) go.near.ends);
      stored = stores x at.earlier even odd double (pos (pi_of x.params)) (pos (lambda_of x.params)) (pos (reach_in x)) rows;
    }
