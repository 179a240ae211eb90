-- The lines of double cycles that lose frames, one after the other.
use Rattle.std.proofs.Common.{◌≡◌, ◌∙◌, ℕ, suc, ◌+◌, ◌-◌, ◌<◌, ◌≤◌, [], ◌++◌, refl, ap, sym, arith}
use Rattle.std.specs.Prelude.{codes}
use Rattle.std.specs.Fmt.{decimal}
use Rattle.fr_bound.specs.declared.settling.Spread.{Spread}
use Rattle.fr_cluster.specs.Values.{Values}
use Rattle.fr_bound.specs.SharpSpreads.{next_lost_spread}
use Rattle.fr_precision.specs.Among.{all_or_any, both, kinds_spread, lost_spread}
use Rattle.fr_sharp.specs.LossCosts.{heard_behind}
use Rattle.fr_sharp.specs.LossSteps.{heard_apart}
use Rattle.fr_sharp.specs.Losses.{lost_apart}
use Rattle.fr_promise.proofs.AmongNumbers.{next_is}
use Rattle.fr_sharp.proofs.LossLemmas.{apart_by_all, next_by}
use Rattle.fr_text.specs.Pieces.{line}
use Rattle.fr_answer.specs.LossText.{loss_apart_line, loss_apart_lines}

module _ (p : Values) (flutter count : ℕ) where
  -- that of a double cycle, and those behind it
  pub lines_more : (double doubles : ℕ) → double < doubles
      → loss_apart_lines p flutter count double (doubles - double) ≡ loss_apart_line p flutter count double ++ loss_apart_lines p flutter count (double + 1) (doubles - (double + 1))
  unfolding loss_apart_lines
  lines_more double doubles less =
      let fewer : doubles - double ≡ suc (doubles - (double + 1)) = omega (arith, less) in
      let next : suc double ≡ double + 1 = omega arith in
      ap (λ (n : ℕ). loss_apart_lines p flutter count double n) fewer
      ∙ ap (λ (m : ℕ). loss_apart_line p flutter count double ++ loss_apart_lines p flutter count m (doubles - (double + 1))) next

  pub lines_none : (double doubles : ℕ) → doubles ≤ double → [] ≡ loss_apart_lines p flutter count double (doubles - double)
  unfolding loss_apart_lines
  lines_none double doubles le = let none : 0 ≡ doubles - double = omega (arith, le) in ap (λ (n : ℕ). loss_apart_lines p flutter count double n) none

  pub lines_all : (doubles : ℕ) → loss_apart_lines p flutter count 0 (doubles - 0) ≡ loss_apart_lines p flutter count 0 doubles
  lines_all doubles = let all : doubles - 0 ≡ doubles = omega arith in ap (λ (n : ℕ). loss_apart_lines p flutter count 0 n) all

  -- the line by the spread that was stepped there
  pub line_is : (double apart : ℕ) (s : Spread) → s ≡ lost_spread p flutter (heard_behind count) double → apart ≡ heard_apart (both (all_or_any (heard_behind count double))) p flutter s
      → line (codes "apart " ++ decimal double ++ codes " " ++ decimal apart) ≡ loss_apart_line p flutter count double
  line_is double apart s is apart_told =
      let here : apart ≡ lost_apart p flutter (heard_behind count) double =
      apart_told ∙ ap (heard_apart (both (all_or_any (heard_behind count double))) p flutter) is ∙ sym (apart_by_all p flutter (heard_behind count) double) in
      ap (λ (n : ℕ). line (codes "apart " ++ decimal double ++ codes " " ++ decimal n)) here

  pub spread_more : (double : ℕ) (s : Spread) → s ≡ lost_spread p flutter (heard_behind count) double
      → kinds_spread (both (all_or_any (heard_behind count double))) p flutter s ≡ lost_spread p flutter (heard_behind count) (double + 1)
  spread_more double s is =
      let next : suc double ≡ double + 1 = omega arith in
      next_by (heard_behind count double) p flutter s ∙ ap (next_lost_spread (heard_behind count double) p flutter) is ∙ sym (next_is p flutter (heard_behind count) double (heard_behind count double) refl)
      ∙ ap (λ (n : ℕ). lost_spread p flutter (heard_behind count) n) next
