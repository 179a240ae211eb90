-- How near the skew of the runs that reach nearly all of a precision comes to it: over plain numbers.
use Rattle.std.proofs.Common.{◌≡◌, ℕ, ◌+◌, ◌*◌, ◌≤◌, ℤ, pos, ap, sym, ◌∙◌, subst, arith}
use Rattle.std.specs.Prelude.{◌-ℤ◌, ◌*ℤ◌, ◌≤ℤ◌, ◌<ℤ◌, ◌+ℤ◌}
use Rattle.std.proofs.lemmas.Int.{ints}
use Rattle.fr_cluster.specs.Values.{amount}
use Rattle.fr_cluster.specs.declared.names.ParamName.TheVariants as name
use Rattle.fr_midpoint.proofs.Products.{mulz-addz, mulz-lez, mulz_assoc, mulz_comm, subz-mulz}
use Rattle.fr_time.proofs.Lines.{rest_of}
use Rattle.fr_time.proofs.Placing.{is_grid_lem}
use Rattle.fr_precision.proofs.Figures.{natural, times_natural}
use Rattle.fr_worked.specs.FarRun.{correction_place, far_skew, FarSkewsAreNear}
use Rattle.fr_precision.proofs.Signed.{signed_of}

-- by so many longer microticks a cycle and its share are longer
longer : (n place short long more : ℤ) → long ≡ short +ℤ more → ((n *ℤ long) +ℤ (place *ℤ long)) -ℤ ((n *ℤ short) +ℤ (place *ℤ short)) ≡ (n *ℤ more) +ℤ (place *ℤ more)
longer n place short long more is =
    let whole : n *ℤ long ≡ (n *ℤ short) +ℤ (n *ℤ more) = ap (λ (z : ℤ). n *ℤ z) is ∙ mulz-addz short more n in
    let share : place *ℤ long ≡ (place *ℤ short) +ℤ (place *ℤ more) = ap (λ (z : ℤ). place *ℤ z) is ∙ mulz-addz short more place in
    last (n *ℤ long) (place *ℤ long) (n *ℤ short) (place *ℤ short) (n *ℤ more) (place *ℤ more) whole share
  where
    last : (a b c d e f : ℤ) → a ≡ c +ℤ e → b ≡ d +ℤ f → (a +ℤ b) -ℤ (c +ℤ d) ≡ e +ℤ f
    last a b c d e f one two = omega (arith, ints, one, two)

-- the share of the difference, times the macroticks of a cycle
share_is : (g o n more place rest : ℤ) → (place *ℤ g) ≡ (o *ℤ n) -ℤ rest → g *ℤ (place *ℤ more) ≡ (o *ℤ (n *ℤ more)) -ℤ (rest *ℤ more)
share_is g o n more place rest is =
    sym (mulz_assoc g place more) ∙ ap (λ (z : ℤ). z *ℤ more) (mulz_comm g place ∙ is) ∙ subz-mulz (o *ℤ n) rest more
    ∙ ap (λ (z : ℤ). z -ℤ (rest *ℤ more)) (mulz_assoc o n more)

-- starts, lengths that are a difference over a whole cycle and what is left of them, and the skew of both with the share of the
-- difference
nearly : (g o n more place rest later left : ℤ) → pos 0 ≤ℤ o → o ≤ℤ g → pos 0 ≤ℤ more → pos 0 ≤ℤ left → left ≤ℤ n → rest ≤ℤ g → (place *ℤ g) ≡ (o *ℤ n) -ℤ rest
    → (g *ℤ (later +ℤ (((n *ℤ more) +ℤ left) +ℤ ((n *ℤ more) +ℤ left))))
    ≤ℤ (((g *ℤ (later +ℤ ((n *ℤ more) +ℤ (place *ℤ more)))) +ℤ ((g -ℤ o) *ℤ ((n *ℤ more) +ℤ left))) +ℤ (g *ℤ ((n +ℤ n) +ℤ more)))
nearly g o n more place rest later left o_from o_to more_from left_from left_to rest_to is =
    let a : ℤ = n *ℤ more in
    let b : ℤ = place *ℤ more in
    let g_from : pos 0 ≤ℤ g = omega (arith, ints, o_from, o_to) in
    let e1 = mulz-addz later ((a +ℤ left) +ℤ (a +ℤ left)) g in
    let e2 = mulz-addz (a +ℤ left) (a +ℤ left) g in
    let e3 = mulz-addz a left g in
    let e4 = mulz-addz later (a +ℤ b) g in
    let e5 = mulz-addz a b g in
    let e6 = subz-mulz g o (a +ℤ left) in
    let e7 = mulz-addz a left o in
    let e8 = mulz-addz (n +ℤ n) more g in
    let e9 = mulz-addz n n g in
    let e10 = share_is g o n more place rest is in
    let i1 : (g *ℤ left) ≤ℤ (g *ℤ n) = up left n g left_to g_from in
    let i2 : (o *ℤ left) ≤ℤ (g *ℤ left) = mulz-lez o g left o_to left_from in
    let i3 : (rest *ℤ more) ≤ℤ (g *ℤ more) = mulz-lez rest g more rest_to more_from in
    sum (g *ℤ (later +ℤ ((a +ℤ left) +ℤ (a +ℤ left)))) (g *ℤ ((a +ℤ left) +ℤ (a +ℤ left))) (g *ℤ (a +ℤ left)) (g *ℤ later) (g *ℤ a) (g *ℤ left) (g *ℤ (later +ℤ (a +ℤ b)))
    (g *ℤ (a +ℤ b)) (g *ℤ b) ((g -ℤ o) *ℤ (a +ℤ left)) (o *ℤ (a +ℤ left)) (o *ℤ a) (o *ℤ left) (g *ℤ ((n +ℤ n) +ℤ more)) (g *ℤ (n +ℤ n)) (g *ℤ n) (g *ℤ more) (rest *ℤ more)
    e1 e2 e3 e4 e5 e6 e7 e8 e9 e10 i1 i2 i3
  where
    up : (a b t : ℤ) → a ≤ℤ b → pos 0 ≤ℤ t → (t *ℤ a) ≤ℤ (t *ℤ b)
    up a b t le from = subst (λ (z : ℤ). z ≤ℤ (t *ℤ b)) (mulz_comm a t) (subst (λ (z : ℤ). (a *ℤ t) ≤ℤ z) (mulz_comm b t) (mulz-lez a b t le from))

    sum : (all two one gl ga gr far gab gb cut ol oa orr more nn gn gm rm : ℤ) → all ≡ gl +ℤ two → two ≡ one +ℤ one → one ≡ ga +ℤ gr → far ≡ gl +ℤ gab → gab ≡ ga +ℤ gb
        → cut ≡ one -ℤ ol → ol ≡ oa +ℤ orr → more ≡ nn +ℤ gm → nn ≡ gn +ℤ gn → gb ≡ oa -ℤ rm → gr ≤ℤ gn → orr ≤ℤ gr → rm ≤ℤ gm → all ≤ℤ ((far +ℤ cut) +ℤ more)
    sum all two one gl ga gr far gab gb cut ol oa orr more nn gn gm rm e1 e2 e3 e4 e5 e6 e7 e8 e9 e10 i1 i2 i3 =
        omega (arith, ints, e1, e2, e3, e4, e5, e6, e7, e8, e9, e10, i1, i2, i3)

pub far_skews_are_near : FarSkewsAreNear
far_skews_are_near f lengths more sane long takes most =
    let p = f.params in
    let grid = is_grid_lem p sane in
    let s = signed_of p sane in
    let place = correction_place p in
    let whole : pos (amount p name.pMicroPerCycle * more) ≡ p.micros *ℤ pos more = times_natural p.micros more (first s.n_from) in
    let micros : pos (amount p name.pMicroPerCycle) ≡ p.micros = sym (natural p.micros (first s.n_from)) in
    let some : pos 0 <ℤ p.macros = above grid.correction_from grid.correction_to in
    let r = rest_of (p.correction *ℤ (p.micros +ℤ pos 0)) p.macros some in
    let rest : ℤ = (p.correction *ℤ p.micros) -ℤ (place *ℤ p.macros) in
    let plain : p.correction *ℤ (p.micros +ℤ pos 0) ≡ p.correction *ℤ p.micros = ap (λ (z : ℤ). p.correction *ℤ z) (no_rate p.micros) in
    let left : ℤ = pos lengths -ℤ (p.micros *ℤ pos more) in
    let parts : pos lengths ≡ (p.micros *ℤ pos more) +ℤ left = back (pos lengths) (p.micros *ℤ pos more) in
    let far : far_skew f ≡ pos f.later +ℤ ((p.micros *ℤ pos more) +ℤ (place *ℤ pos more)) =
    regroup (pos f.later) ((p.micros *ℤ f.long) +ℤ (place *ℤ f.long)) ((p.micros *ℤ f.short) +ℤ (place *ℤ f.short)) ∙ ap (λ (z : ℤ). pos f.later +ℤ z) (longer p.micros place f.short f.long (pos more) long) in
    let law =
    nearly p.macros p.correction p.micros (pos more) place rest (pos f.later) left (below grid.correction_from) (no_more grid.correction_to) (no_less more)
    (remains lengths (amount p name.pMicroPerCycle * more) (p.micros *ℤ pos more) whole takes) (at_most lengths (amount p name.pMicroPerCycle * more) (amount p name.pMicroPerCycle) (p.micros *ℤ pos more) p.micros whole micros most)
    (within (p.correction *ℤ (p.micros +ℤ pos 0)) (p.correction *ℤ p.micros) (place *ℤ p.macros) p.macros plain r.to)
    (moved (place *ℤ p.macros) (p.correction *ℤ p.micros)) in
    let Lengths : ℤ → Type 0 = λ z. (p.macros *ℤ (pos f.later +ℤ (z +ℤ z))) ≤ℤ (((p.macros *ℤ far_skew f) +ℤ ((p.macros -ℤ p.correction) *ℤ z)) +ℤ (p.macros *ℤ ((p.micros +ℤ p.micros) +ℤ pos more))) in
    let Skew : ℤ → Type 0 = λ z.
    (p.macros *ℤ (pos f.later +ℤ (((p.micros *ℤ pos more) +ℤ left) +ℤ ((p.micros *ℤ pos more) +ℤ left))))
    ≤ℤ (((p.macros *ℤ z) +ℤ ((p.macros -ℤ p.correction) *ℤ ((p.micros *ℤ pos more) +ℤ left))) +ℤ (p.macros *ℤ ((p.micros +ℤ p.micros) +ℤ pos more))) in
    subst Lengths (sym parts) (subst Skew (sym far) law)
  where
    first : {n : ℤ} → pos 1 ≤ℤ n → pos 0 ≤ℤ n
    first from = omega (arith, ints, from)

    above : {o g : ℤ} → pos 1 ≤ℤ o → o <ℤ g → pos 0 <ℤ g
    above from to = omega (arith, ints, from, to)

    below : {o : ℤ} → pos 1 ≤ℤ o → pos 0 ≤ℤ o
    below from = omega (arith, ints, from)

    no_more : {o g : ℤ} → o <ℤ g → o ≤ℤ g
    no_more to = omega (arith, ints, to)

    no_less : (n : ℕ) → pos 0 ≤ℤ pos n
    no_less n = omega (arith, ints)

    no_rate : (n : ℤ) → n +ℤ pos 0 ≡ n
    no_rate n = omega (arith, ints)

    back : (a b : ℤ) → a ≡ b +ℤ (a -ℤ b)
    back a b = omega (arith, ints)

    regroup : (a b c : ℤ) → (a +ℤ b) -ℤ c ≡ a +ℤ (b -ℤ c)
    regroup a b c = omega (arith, ints)

    remains : (lengths a : ℕ) (z : ℤ) → pos a ≡ z → a ≤ lengths → pos 0 ≤ℤ (pos lengths -ℤ z)
    remains lengths a z is le = omega (arith, ints, is, le)

    at_most : (lengths a n : ℕ) (z m : ℤ) → pos a ≡ z → pos n ≡ m → lengths ≤ a + n → (pos lengths -ℤ z) ≤ℤ m
    at_most lengths a n z m is same le = omega (arith, ints, is, same, le)

    within : (a b c g : ℤ) → a ≡ b → ((a -ℤ c) +ℤ pos 1) ≤ℤ g → (b -ℤ c) ≤ℤ g
    within a b c g same le = omega (arith, ints, same, le)

    moved : (a b : ℤ) → a ≡ b -ℤ (b -ℤ a)
    moved a b = omega (arith, ints)
