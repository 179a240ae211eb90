-- A world that has run so many double cycles, and its next one.
use Rattle.std.proofs.Common.{◌≡◌, ◌∙◌, ℕ, ◌+◌, ◌*◌, Bool, ◌||◌, List, [], ◌++◌, sym, ap, add-one, arith}
use Rattle.fr_base.specs.declared.node_row.NodeRow.{NodeRow}
use Rattle.fr_history.specs.Next.{cycles_of}
use Rattle.fr_world.specs.World.{WorldView, followed_last, setting_after, world_cycles}
use Rattle.fr_series.specs.Figures.{figures_of}
use Rattle.fr_series.specs.Scale.{followed, scale_of}
use Rattle.fr_series.specs.Writing.{is_double_followed, is_followed, rows_of, text_of_double}
use Rattle.fr_series.specs.declared.figures.Figures.{Figures}
use Rattle.fr_series.specs.declared.scale.Scale.{Scale}
use Rattle.fr_series.proofs.Doubles.{followed_at, no_cycles, rows_at}
use Rattle.fr_series.proofs.SeriesRows.{figures-at, rows-next, text_upto, text_at}

pub figures-first : (w : WorldView) (figures : Figures) → figures ≡ figures_of w.params [] → figures ≡ figures_of w.params (cycles_of (setting_after w) (2 * 0))
figures-first w figures is = is ∙ ap (figures_of w.params) (sym (no_cycles (setting_after w)))

pub even-rows : (w v : WorldView) (n : ℕ) → v ≡ record w { cycles = 2 * n } → rows_of v v.cycles ≡ rows_at (setting_after w) (2 * n)
even-rows w v n at = ap (λ (u : WorldView). rows_of u u.cycles) at

pub odd-rows : (w v : WorldView) (n : ℕ) → v ≡ record w { cycles = 2 * n } → rows_of v (v.cycles + 1) ≡ rows_at (setting_after w) (2 * n + 1)
odd-rows w v n at = ap (λ (u : WorldView). rows_of u (u.cycles + 1)) at

pub both-followed : (w v : WorldView) (n : ℕ) → v ≡ record w { cycles = 2 * n }
    → is_double_followed v v.cycles ≡ (followed_at (setting_after w) (2 * n) || followed_at (setting_after w) (2 * n + 1))
both-followed w v n at = ap (λ (u : WorldView). is_double_followed u u.cycles) at

pub text-of : (w v : WorldView) (n : ℕ) (scale : Scale) → v ≡ record w { cycles = 2 * n } → scale ≡ scale_of w.params
    → text_of_double scale n (rows_of v v.cycles) (rows_of v (v.cycles + 1)) ≡ text_at (setting_after w) n
text-of w v n scale at is =
    ap (λ (s : Scale). text_of_double s n (rows_of v v.cycles) (rows_of v (v.cycles + 1))) is
    ∙ ap (λ (even : List NodeRow). text_of_double (scale_of w.params) n even (rows_of v (v.cycles + 1))) (even-rows w v n at)
    ∙ ap (λ (odd : List NodeRow). text_of_double (scale_of w.params) n (rows_at (setting_after w) (2 * n)) odd) (odd-rows w v n at)

pub text-more : (w v : WorldView) (n : ℕ) (scale : Scale) → v ≡ record w { cycles = 2 * n } → scale ≡ scale_of w.params
    → text_upto (setting_after w) (2 * n) ++ text_of_double scale n (rows_of v v.cycles) (rows_of v (v.cycles + 1))
    ≡ text_upto (setting_after w) (2 * (n + 1))
text-more w v n scale at is =
    ap (λ (l : List ℕ). text_upto (setting_after w) (2 * n) ++ l) (text-of w v n scale at is)
    ∙ sym (rows-next (setting_after w) n)

pub figures-more : (w v : WorldView) (n : ℕ) (scale : Scale) (old new : Figures) → v ≡ record w { cycles = 2 * n } → scale ≡ scale_of w.params
    → old ≡ figures_of w.params (cycles_of (setting_after w) (2 * n)) → new ≡ followed scale n (rows_of v v.cycles) (rows_of v (v.cycles + 1)) (is_double_followed v v.cycles) old
    → new ≡ figures_of w.params (cycles_of (setting_after w) (2 * (n + 1)))
figures-more w v n scale old new at is held next =
    let x = setting_after w in
    let following : Bool = is_double_followed v v.cycles in
    next
    ∙ ap (λ (s : Scale). followed s n (rows_of v v.cycles) (rows_of v (v.cycles + 1)) following old) is
    ∙ ap (λ (even : List NodeRow). followed (scale_of w.params) n even (rows_of v (v.cycles + 1)) following old) (even-rows w v n at)
    ∙ ap (λ (odd : List NodeRow). followed (scale_of w.params) n (rows_at x (2 * n)) odd following old) (odd-rows w v n at)
    ∙ ap (λ (follow : Bool). followed (scale_of w.params) n (rows_at x (2 * n)) (rows_at x (2 * n + 1)) follow old) (both-followed w v n at)
    ∙ ap (followed (scale_of w.params) n (rows_at x (2 * n)) (rows_at x (2 * n + 1)) (followed_at x (2 * n) || followed_at x (2 * n + 1))) held
    ∙ sym (figures-at x n)

-- two cycles more
pub two-more : (w v u : WorldView) (n : ℕ) → v ≡ record w { cycles = 2 * n } → u ≡ record v { cycles = v.cycles + 2 } → u ≡ record w { cycles = 2 * (n + 1) }
two-more w v u n at ran =
    let two : 2 * n + 2 ≡ 2 * (n + 1) = omega arith in
    ran ∙ ap (λ (x : WorldView). record x { cycles = x.cycles + 2 }) at ∙ ap (λ (k : ℕ). record w { cycles = k }) two

-- whether a node followed in the cycle that a world has run last
pub followed-next : (w v : WorldView) → v ≡ record w { cycles = w.cycles + 1 } → followed_last (world_cycles v) ≡ is_followed w w.cycles
unfolding cycles_of
followed-next w v ran =
    ap (λ (u : WorldView). followed_last (world_cycles u)) ran
    ∙ ap (λ (n : ℕ). followed_last (cycles_of (setting_after w) n)) (add-one w.cycles)
