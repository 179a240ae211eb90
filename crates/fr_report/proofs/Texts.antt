-- The text of some cycles and that of more.
use Rattle.std.proofs.Common.{◌≡◌, ℕ, zero, suc, ◌+◌, ◌-◌, ◌≤◌, List, [], ◌∷◌, ◌++◌, ap, sym, ◌∙◌, refl, arith, append_assoc}
use Rattle.std.proofs.lemmas.List.{append-nil}
use Rattle.std.proofs.lemmas.List.Concat.{flat_map-append}
use Rattle.fr_cluster.specs.Setting.{Setting}
use Rattle.fr_history.specs.History.{History, Record}
use Rattle.fr_history.specs.Cycles.{told_of}
use Rattle.fr_history.specs.Next.{cycles_of, next_cycle}
use Rattle.fr_trace.specs.Items.{Item, items_by, items_in, line_of}
use Rattle.fr_trace.specs.Text.{cycle_text, items_text, line_text}
use Rattle.fr_world.specs.World.{WorldView, setting_after}

-- one record more
pub text-more : (h : History) (r : Record) → items_text (items_in (r ∷ h)) ≡ items_text (items_in h) ++ cycle_text h r
unfolding items_text items_in
text-more h r = flat_map-append (λ (item : Item). line_text (line_of item)) (items_in h) (items_by h r r.rows)

pub text-none : items_text (items_in []) ≡ []
unfolding items_text items_in
text-none = refl

-- the text of so many cycles of a run, and of the next one
abbrev pub text_of_cycles : Setting → ℕ → List ℕ
text_of_cycles x n = items_text (items_in (told_of (cycles_of x n)))

abbrev pub text_of_next : Setting → ℕ → List ℕ
text_of_next x n = cycle_text (told_of (cycles_of x n)) (next_cycle x (cycles_of x n)).told

pub text-first : (x : Setting) → text_of_cycles x 0 ≡ []
unfolding cycles_of
text-first x = text-none

pub text-next : (x : Setting) (n : ℕ) → text_of_cycles x (n + 1) ≡ text_of_cycles x n ++ text_of_next x n
unfolding cycles_of
text-next x n =
    let one : n + 1 ≡ suc n = omega arith in
    ap (λ (k : ℕ). text_of_cycles x k) one ∙ text-more (told_of (cycles_of x n)) (next_cycle x (cycles_of x n)).told

-- what follows the text of so many cycles
pub text-rest : (x : Setting) (n more : ℕ) → (rest : List ℕ) × (text_of_cycles x (n + more) ≡ text_of_cycles x n ++ rest)
text-rest x n zero =
    let same : n + 0 ≡ n = omega arith in
    ([], ap (λ (k : ℕ). text_of_cycles x k) same ∙ sym (append-nil (text_of_cycles x n)))
text-rest x n (suc more) =
    let before = text-rest x n more in
    let one : n + suc more ≡ (n + more) + 1 = omega arith in
    let last = text_of_next x (n + more) in (
      before.0 ++ last,
      ap (λ (k : ℕ). text_of_cycles x k) one
          ∙ text-next x (n + more)
          ∙ ap (λ (l : List ℕ). l ++ last) before.1
          ∙ append_assoc (text_of_cycles x n) before.0 last,
    )

pub text-upto : (x : Setting) (n all : ℕ) → n ≤ all → (rest : List ℕ) × (text_of_cycles x all ≡ text_of_cycles x n ++ rest)
text-upto x n all le =
    let found = text-rest x n (all - n) in
    let same : all ≡ n + (all - n) = omega (arith, le) in
    (found.0, ap (λ (k : ℕ). text_of_cycles x k) same ∙ found.1)

-- the same of a world
pub next-text : (w v : WorldView) (n : ℕ) → w ≡ record v { cycles = n }
    → text_of_cycles (setting_after v) n ++ text_of_next (setting_after w) w.cycles ≡ text_of_cycles (setting_after v) (n + 1)
next-text w v n e =
    ap (λ (u : WorldView). text_of_cycles (setting_after v) n ++ text_of_next (setting_after u) u.cycles) e
    ∙ sym (text-next (setting_after v) n)
