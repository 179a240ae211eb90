-- Gaps along the cycles of a run, where lengths and delays stay from one row to the next.
use Rattle.std.proofs.Common.{◌≡◌, ℕ, ℤ, ◌-◌, ◌<◌, ◌≤◌, Bool, true, false, Some, None, ap, sym, ◌∙◌, refl, arith, ◌⊎◌, inl, inr, subst}
use Rattle.std.specs.Prelude.{◌-ℤ◌, ◌+ℤ◌, int_lt, pos, if◌then◌else◌, ◌||◌}
use Rattle.std.proofs.lemmas.Int.{ints}
use Rattle.std.proofs.lemmas.Bool.{cases_eq}
use Rattle.fr_base.specs.declared.channel.Channel.{Channel}
use Rattle.fr_cluster.specs.Values.{Values, amount}
use Rattle.fr_cluster.specs.declared.names.ParamName.TheVariants as name
use Rattle.fr_drift.specs.View.{DriftView}
use Rattle.fr_drift.specs.Questions.{length_of, delay_of}
use Rattle.fr_coverage.specs.Coverage.{is_off, length_gap, has_jumped, change_gap, is_wrong, delay_gap}
use Rattle.fr_coverage.specs.declared.gap.Gap.{Gap}
use Rattle.fr_coverage.specs.declared.gap.Gap.TheVariants as gap

picked : (b : Bool) (g : Gap) → b ≡ true → (if b then Some g else None) ≡ Some g
picked b g e = rw e refl

left : (b : Bool) (g : Gap) → b ≡ false → (if b then Some g else None) ≡ None
left b g e = rw e refl

pub length-found : (p : Values) (d : DriftView) (node cycle : ℕ) (ticks : ℤ) → ticks ≡ length_of d node cycle → is_off p ticks ≡ true
    → length_gap p d node cycle ≡ Some (gap.Length node cycle ticks)
length-found p d node cycle ticks e h =
    picked (is_off p (length_of d node cycle)) (gap.Length node cycle (length_of d node cycle)) (ap (is_off p) (sym e) ∙ h)
    ∙ ap (λ (t : ℤ). Some (gap.Length node cycle t)) (sym e)

pub length-quiet : (p : Values) (d : DriftView) (node cycle next : ℕ) (ticks : ℤ) → ticks ≡ length_of d node cycle → is_off p ticks ≡ false
    → ((c : ℕ) → cycle ≤ c → c < next → length_of d node c ≡ length_of d node cycle) → (k : ℕ) → cycle ≤ k → k < next → length_gap p d node k ≡ None
length-quiet p d node cycle next ticks e h stays k from to =
    left (is_off p (length_of d node k)) (gap.Length node k (length_of d node k)) (ap (is_off p) (stays k from to ∙ sym e) ∙ h)

pub change-found : (p : Values) (d : DriftView) (node cycle : ℕ) (before ticks : ℤ) → before ≡ length_of d node (cycle - 1) → ticks ≡ length_of d node cycle
    → has_jumped p before ticks ≡ true → change_gap p d node cycle ≡ Some (gap.Change node cycle (ticks -ℤ before))
change-found p d node cycle before ticks e f h =
    picked (has_jumped p (length_of d node (cycle - 1)) (length_of d node cycle)) (gap.Change node cycle (length_of d node cycle -ℤ length_of d node (cycle - 1)))
    (ap (λ (t : ℤ). has_jumped p t (length_of d node cycle)) (sym e) ∙ ap (λ (t : ℤ). has_jumped p before t) (sym f) ∙ h)
    ∙ ap (λ (t : ℤ). Some (gap.Change node cycle (t -ℤ length_of d node (cycle - 1)))) (sym f)
    ∙ ap (λ (t : ℤ). Some (gap.Change node cycle (ticks -ℤ t))) (sym e)

not-above : (w : ℕ) (t : ℤ) → int_lt (t +ℤ pos w) t ≡ false
not-above w t = grind (arith, ints)

-- nothing has jumped from itself
pub stands-still : (p : Values) (t : ℤ) → has_jumped p t t ≡ false
stands-still p t =
    let up = not-above (amount p name.xChangeBound) t in
    ap (λ (b : Bool). b || int_lt (t +ℤ pos (amount p name.xChangeBound)) t) up ∙ up

pub change-quiet : (p : Values) (d : DriftView) (node cycle next : ℕ) (before ticks : ℤ) → before ≡ length_of d node (cycle - 1) → ticks ≡ length_of d node cycle
    → has_jumped p before ticks ≡ false → ((c : ℕ) → cycle ≤ c → c < next → length_of d node c ≡ length_of d node cycle)
    → (k : ℕ) → cycle ≤ k → k < next → change_gap p d node k ≡ None
change-quiet p d node cycle next before ticks e f h stays k from to = by (cases_eq k cycle)
  where
    by : (k ≡ cycle) ⊎ (k ≡ cycle → ⊥) → change_gap p d node k ≡ None
    by (inl same) =
        let here : change_gap p d node cycle ≡ None =
        left (has_jumped p (length_of d node (cycle - 1)) (length_of d node cycle)) _
        (ap (λ (t : ℤ). has_jumped p t (length_of d node cycle)) (sym e) ∙ ap (λ (t : ℤ). has_jumped p before t) (sym f) ∙ h) in
        let P : ℕ → Type 0 = λ n. change_gap p d node n ≡ None in subst P (sym same) here
    by (inr ne) =
        let last : length_of d node (k - 1) ≡ length_of d node cycle = stays (k - 1) (omega arith) (omega arith) in
        left (has_jumped p (length_of d node (k - 1)) (length_of d node k)) _
        (ap (λ (t : ℤ). has_jumped p t (length_of d node k)) last ∙ ap (λ (t : ℤ). has_jumped p (length_of d node cycle) t) (stays k from to)
        ∙ stands-still p (length_of d node cycle))

pub delay-found : (p : Values) (d : DriftView) (i j : ℕ) (ch : Channel) (cycle : ℕ) (ticks : ℤ) → ticks ≡ delay_of d i j ch cycle → is_wrong p ch ticks ≡ true
    → delay_gap p d i j ch cycle ≡ Some (gap.Delay i j ch cycle ticks)
delay-found p d i j ch cycle ticks e h =
    picked (is_wrong p ch (delay_of d i j ch cycle)) (gap.Delay i j ch cycle (delay_of d i j ch cycle)) (ap (is_wrong p ch) (sym e) ∙ h)
    ∙ ap (λ (t : ℤ). Some (gap.Delay i j ch cycle t)) (sym e)

pub delay-quiet : (p : Values) (d : DriftView) (i j : ℕ) (ch : Channel) (cycle next : ℕ) (ticks : ℤ) → ticks ≡ delay_of d i j ch cycle → is_wrong p ch ticks ≡ false
    → ((c : ℕ) → cycle ≤ c → c < next → delay_of d i j ch c ≡ delay_of d i j ch cycle) → (k : ℕ) → cycle ≤ k → k < next → delay_gap p d i j ch k ≡ None
delay-quiet p d i j ch cycle next ticks e h stays k from to =
    left (is_wrong p ch (delay_of d i j ch k)) (gap.Delay i j ch k (delay_of d i j ch k)) (ap (is_wrong p ch) (stays k from to ∙ sym e) ∙ h)
