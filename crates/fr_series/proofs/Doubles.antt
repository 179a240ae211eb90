-- The cycles of a run by double cycles, and a text of them that grows by a text for each.
use Rattle.std.proofs.Common.{◌≡◌, ◌∙◌, ℕ, zero, suc, ◌+◌, ◌-◌, ◌*◌, ◌≤◌, Bool, not, List, [], ◌∷◌, ◌++◌, length, refl, sym, ap, arith, append_assoc}
use Rattle.std.proofs.lemmas.List.{append-nil}
use Rattle.fr_base.specs.declared.node_row.NodeRow.{NodeRow}
use Rattle.fr_cluster.specs.Setting.{Setting}
use Rattle.fr_history.specs.History.{History, Record}
use Rattle.fr_history.specs.Cycles.{Cycles, told_of}
use Rattle.fr_history.specs.Next.{cycles_of, next_cycle}
use Rattle.fr_history.specs.Unfollowed.{is_none}
use Rattle.fr_history.proofs.Told.{told_length}
use Rattle.fr_history.proofs.RunsExist.{length-cycles_of}

-- the rows of the cycle of such a number, and whether a node follows in it
abbrev pub rows_at : Setting → ℕ → List NodeRow
rows_at x cycle = (next_cycle x (cycles_of x cycle)).told.rows

abbrev pub followed_at : Setting → ℕ → Bool
followed_at x cycle = not (is_none (next_cycle x (cycles_of x cycle)).followers)

-- two cycles more
pub cycles-two : (x : Setting) (double : ℕ) →
    cycles_of x (2 * (double + 1)) ≡ next_cycle x (cycles_of x (2 * double + 1)) ∷ next_cycle x (cycles_of x (2 * double)) ∷ cycles_of x (2 * double)
unfolding cycles_of
cycles-two x double =
    let two : 2 * (double + 1) ≡ suc (suc (2 * double)) = omega arith in
    let one : 2 * double + 1 ≡ suc (2 * double) = omega arith in
    rw (two, one) refl

pub no_cycles : (x : Setting) → cycles_of x (2 * 0) ≡ []
unfolding cycles_of
no_cycles x = refl

-- ---- a text of cycles

-- it has none of no cycles, and one more double cycle adds its own, by its first cycle and the rows of both
pub record GrowsBy (text : History → List ℕ) (added : ℕ → List NodeRow → List NodeRow → List ℕ) : Type 0 where
  pub none : text [] ≡ []
  pub two : (h : History) (even odd : Record) → text (odd ∷ even ∷ h) ≡ text h ++ added (length h) even.rows odd.rows

-- that of so many cycles of a run, and what a double cycle adds
abbrev pub told_upto : (History → List ℕ) → Setting → ℕ → List ℕ
told_upto text x cycles = text (told_of (cycles_of x cycles))

abbrev pub added_at : (ℕ → List NodeRow → List NodeRow → List ℕ) → Setting → ℕ → List ℕ
added_at added x double = added (2 * double) (rows_at x (2 * double)) (rows_at x (2 * double + 1))

module _ (text : History → List ℕ) (added : ℕ → List NodeRow → List NodeRow → List ℕ) (grows : GrowsBy text added) where
  pub told-none : (x : Setting) → told_upto text x (2 * 0) ≡ []
  told-none x = ap (λ (h : Cycles). text (told_of h)) (no_cycles x) ∙ grows.none

  pub told-next : (x : Setting) (double : ℕ) → told_upto text x (2 * (double + 1)) ≡ told_upto text x (2 * double) ++ added_at added x double
  told-next x double =
      let h : Cycles = cycles_of x (2 * double) in
      let even = next_cycle x h in
      let odd = next_cycle x (cycles_of x (2 * double + 1)) in
      ap (λ (l : Cycles). text (told_of l)) (cycles-two x double)
      ∙ grows.two (told_of h) even.told odd.told
      ∙ ap (λ (n : ℕ). text (told_of h) ++ added n even.told.rows odd.told.rows) (told_length h ∙ length-cycles_of x (2 * double))

  -- what follows the text of so many double cycles
  told-rest : (x : Setting) (n more : ℕ) → (rest : List ℕ) × (told_upto text x (2 * (n + more)) ≡ told_upto text x (2 * n) ++ rest)
  told-rest x n zero =
      let same : n + 0 ≡ n = omega arith in
      ([], ap (λ (k : ℕ). told_upto text x (2 * k)) same ∙ sym (append-nil (told_upto text x (2 * n))))
  told-rest x n (suc more) =
      let before = told-rest x n more in
      let one : n + suc more ≡ (n + more) + 1 = omega arith in
      let last = added_at added x (n + more) in (
        before.0 ++ last,
        ap (λ (k : ℕ). told_upto text x (2 * k)) one
            ∙ told-next x (n + more)
            ∙ ap (λ (l : List ℕ). l ++ last) before.1
            ∙ append_assoc (told_upto text x (2 * n)) before.0 last,
      )

  pub told-upto : (x : Setting) (n all : ℕ) → n ≤ all → (rest : List ℕ) × (told_upto text x (2 * all) ≡ told_upto text x (2 * n) ++ rest)
  told-upto x n all le =
      let found = told-rest x n (all - n) in
      let same : all ≡ n + (all - n) = omega (arith, le) in
      (found.0, ap (λ (k : ℕ). told_upto text x (2 * k)) same ∙ found.1)
