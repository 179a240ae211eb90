-- Of any parameters a run that comes near a precision: it is found, and both of its laws are put together.
use Rattle.std.proofs.Common.{◌≡◌, ℕ, suc, ◌+◌, ◌*◌, ◌≤◌, ◌<◌, Bool, true, false, ◌&&◌, ℤ, pos, Option, Some, None, List, [], ◌∷◌, length, refl, ap, sym, ◌∙◌, subst, ◌⊎◌, inl, inr, arith}
use Rattle.std.specs.Prelude.{◌+ℤ◌, ◌-ℤ◌, ◌*ℤ◌, ◌≤ℤ◌, ◌/◌, count_by, is_some, min}
use Rattle.std.proofs.lemmas.Int.{ints}
use Rattle.std.proofs.lemmas.Bool.{cases_lt}
use Rattle.std.proofs.Math.Nat.{lt-div-mul-add, mul_comm, mul-div-le, mul-le-mul_left}
use Rattle.fr_base.specs.Event.Event.{Regular}
use Rattle.fr_cluster.specs.Constraints.{key_slots}
use Rattle.fr_cluster.specs.Sane.{IsSane}
use Rattle.fr_cluster.specs.Setting.{IsSetting, Setting}
use Rattle.fr_cluster.specs.Values.{Values, amount}
use Rattle.fr_cluster.specs.declared.names.ParamName.TheVariants as name
use Rattle.fr_cluster.specs.declared.nodes.NodeSpec.{NodeSpec}
use Rattle.fr_cluster.proofs.Elements.{kept_filtered}
use Rattle.fr_midpoint.proofs.Counts.{count_by-cons_no, count_by-cons_yes}
use Rattle.fr_midpoint.proofs.Products.{mulz-addz, mulz-lez_left}
use Rattle.fr_time.proofs.Placing.{is_grid_lem}
use Rattle.fr_bound.specs.Bounds.{cycle_change, lambda_of, longest_micro, pi_of, precision_of, shortest_micro}
use Rattle.fr_bound.proofs.Uncut.{uncut_lem}
use Rattle.fr_precision.proofs.Figures.{times_natural}
use Rattle.fr_history.specs.Cycles.{told_of}
use Rattle.fr_history.specs.Lawful.{IsLawful}
use Rattle.fr_history.specs.Next.{cycles_of}
use Rattle.fr_history.specs.Skew.{skew_at}
use Rattle.fr_runs.specs.Stated.{all_cycles}
use Rattle.fr_runs.proofs.Nodes.{correct_node}
use Rattle.fr_worked.specs.FarRun.{AllowsFar, ComesNear, Far, HasTwo, IsFar, SomeRunComesNear, SomeRunComesNearSharply, far_apart_run, far_skew, left_below}
use Rattle.fr_bound.specs.SharpBounds.{sharp_lambda, sharp_pi, sharp_precision}
use Rattle.fr_runs.specs.SteadyRuns.{MayHaveArbitrary}
use Rattle.fr_worked.proofs.FarNumbers.{far_skews_are_near}
use Rattle.fr_worked.proofs.RunFar.{far_runs_reach_sharply}
use Rattle.fr_worked.proofs.RunFarOlder.{far_runs_reach_older}
use Rattle.fr_precision.proofs.Signed.{signed_of}

-- ---- by how many ticks the microticks of the others are longer: as many as lengths take, and no more than microticks may differ

longer_by : ℕ → ℕ → ℕ → ℕ
longer_by lengths micros most = min (lengths / micros) most

record IsLongerBy (lengths micros most more : ℕ) : Type 0 where
  bounded : more ≤ most
  takes : micros * more ≤ lengths
  nearly : lengths ≤ micros * more + micros

is_longer_by : (lengths micros most : ℕ) → 1 ≤ micros → lengths ≤ micros * most + micros → IsLongerBy lengths micros most (longer_by lengths micros most)
unfolding longer_by
is_longer_by lengths micros most some fits = by (cases_lt most (lengths / micros))
  where
    below : lengths < lengths / micros * micros + micros
    below = lt-div-mul-add (omega (arith, some))

    whole : lengths / micros ≤ most → IsLongerBy lengths micros most (min (lengths / micros) most)
    whole less =
        let same : min (lengths / micros) most ≡ lengths / micros = omega (arith, less) in
        let turned : lengths / micros * micros ≡ micros * (lengths / micros) = mul_comm (lengths / micros) micros in
        let above = below in
        subst (IsLongerBy lengths micros most) (sym same) (record { bounded = less; takes = mul-div-le lengths micros; nearly = omega (arith, turned, above) })

    cut : most < lengths / micros → IsLongerBy lengths micros most (min (lengths / micros) most)
    cut more =
        let same : min (lengths / micros) most ≡ most = omega (arith, more) in
        let up : micros * most ≤ micros * (lengths / micros) = mul-le-mul_left micros (omega (arith, more)) in
        let down = mul-div-le lengths micros in
        subst (IsLongerBy lengths micros most) (sym same) (record { bounded = omega arith; takes = omega (arith, up, down); nearly = fits })

    by : (most < lengths / micros) ⊎ (lengths / micros ≤ most) → IsLongerBy lengths micros most (min (lengths / micros) most)
    by (inl more) = cut more
    by (inr less) = whole less

-- ---- the nodes that have a key slot

none_counted : (nodes : List NodeSpec) → count_by (λ (node : NodeSpec). is_some node.key && false) nodes ≡ 0
none_counted [] = refl
none_counted (node ∷ nodes) = count_by-cons_no (λ (n : NodeSpec). is_some n.key && false) node nodes (neither (is_some node.key)) ∙ none_counted nodes
  where
    neither : (b : Bool) → (b && false) ≡ false
    neither true = refl
    neither false = refl

all_counted : (nodes : List NodeSpec) → length (key_slots nodes) ≡ count_by (λ (node : NodeSpec). is_some node.key && true) nodes
all_counted [] = refl
all_counted (node ∷ nodes) = by node.key refl (all_counted nodes)
  where
    by : (o : Option ℕ) → node.key ≡ o → length (key_slots nodes) ≡ count_by (λ (n : NodeSpec). is_some n.key && true) nodes
        → length (key_slots (node ∷ nodes)) ≡ count_by (λ (n : NodeSpec). is_some n.key && true) (node ∷ nodes)
    by None is rest =
        let fewer : length (key_slots (node ∷ nodes)) ≡ length (key_slots nodes) = rw is refl in
        let test : (is_some node.key && true) ≡ false = rw is refl in
        fewer ∙ rest ∙ sym (count_by-cons_no (λ (n : NodeSpec). is_some n.key && true) node nodes test)
    by (Some slot) is rest =
        let one_more : length (key_slots (node ∷ nodes)) ≡ suc (length (key_slots nodes)) = rw is refl in
        let test : (is_some node.key && true) ≡ true = rw is refl in
        one_more ∙ ap suc rest ∙ sym (count_by-cons_yes (λ (n : NodeSpec). is_some n.key && true) node nodes test)

-- ---- the run

far_in : (p : Values) → ℕ → ℕ → ℕ → Far
far_in p first later more = record {
  params = p;
  is_arbitrary = λ id. false;
  said = λ cycle sender receiver channel. Regular;
  first = first;
  later = later;
  short = pos (shortest_micro p);
  long = pos (shortest_micro p) +ℤ pos more;
}

module _ (p : Values) (sane : IsSane p) (later lengths : ℕ) (allows : AllowsFar p lengths) where
  more : ℕ
  more = longer_by lengths (amount p name.pMicroPerCycle) (2 * amount p name.xRateBound)

  far : Far
  far = far_in p allows.one.id later more

  some_micros : 1 ≤ amount p name.pMicroPerCycle
  some_micros = let from = (sane.ranges name.pMicroPerCycle).0 in omega (arith, ints, from)

  longer : IsLongerBy lengths (amount p name.pMicroPerCycle) (2 * amount p name.xRateBound) more
  unfolding more
  longer = is_longer_by lengths (amount p name.pMicroPerCycle) (2 * amount p name.xRateBound) some_micros allows.fits

  long_fits : ((p.micros *ℤ (pos (shortest_micro p) +ℤ pos more)) -ℤ (p.micros *ℤ pos (shortest_micro p))) ≤ℤ pos lengths
  long_fits =
      let n_from = (signed_of p sane).n_from in
      let apart = mulz-addz (pos (shortest_micro p)) (pos more) p.micros in
      let whole : pos (amount p name.pMicroPerCycle * more) ≡ p.micros *ℤ pos more = times_natural p.micros more (omega (arith, ints, n_from)) in
      last (p.micros *ℤ (pos (shortest_micro p) +ℤ pos more)) (p.micros *ℤ pos (shortest_micro p)) (p.micros *ℤ pos more) (amount p name.pMicroPerCycle * more) lengths apart whole longer.takes
    where
      last : (a b c : ℤ) (n l : ℕ) → a ≡ b +ℤ c → pos n ≡ c → n ≤ l → (a -ℤ b) ≤ℤ pos l
      last a b c n l sum same le = omega (arith, ints, sum, same, le)

  is_far : IsFar far later lengths
  unfolding far far_in
  is_far =
      let uncut = (uncut_lem p sane).shortest in
      let bounded = longer.bounded in
      record {
        sane = sane;
        bytes = λ cycle sender receiver channel. tt;
        few = inl (none_counted p.nodes, let keys = sane.constraints.sync_nodes.0 in let same = all_counted p.nodes in omega (arith, keys, same));
        shares = λ sender receiver slot linked. allows.shares sender receiver slot (correct_node (far_apart_run far) sender linked.sends).there (correct_node (far_apart_run far) receiver linked.hears).there linked.key linked.other;
        least = omega (arith, ints);
        order = omega (arith, ints);
        most = omega (arith, ints, uncut, bounded);
        starts_fit = omega arith;
        lengths_fit = long_fits;
      }

  has_two : HasTwo far
  unfolding far far_in
  has_two = record {
    one = allows.one;
    other = allows.other;
    here = kept_filtered (λ (n : NodeSpec). true) p.nodes allows.one allows.here refl;
    there = kept_filtered (λ (n : NodeSpec). true) p.nodes allows.other allows.there refl;
    first = refl;
    differ = allows.differ;
  }

-- ---- both laws together, over plain numbers

together : (g far skew later lengths cut n more most rest all : ℤ) → pos 0 ≤ℤ g → far ≤ℤ skew → more ≤ℤ most → all ≡ (later +ℤ (lengths +ℤ lengths)) +ℤ rest
    → (g *ℤ (later +ℤ (lengths +ℤ lengths))) ≤ℤ (((g *ℤ far) +ℤ cut) +ℤ (g *ℤ ((n +ℤ n) +ℤ more)))
    → (g *ℤ all) ≤ℤ ((g *ℤ skew) +ℤ (cut +ℤ (g *ℤ ((n +ℤ n) +ℤ (most +ℤ rest)))))
together g far skew later lengths cut n more most rest all from reached bounded is law =
    let reach : (g *ℤ far) ≤ℤ (g *ℤ skew) = mulz-lez_left far skew g reached from in
    let bound : (g *ℤ more) ≤ℤ (g *ℤ most) = mulz-lez_left more most g bounded from in
    sum (g *ℤ all) (g *ℤ (later +ℤ (lengths +ℤ lengths))) (g *ℤ rest) (g *ℤ far) (g *ℤ skew) cut (g *ℤ ((n +ℤ n) +ℤ more)) (g *ℤ (n +ℤ n)) (g *ℤ more) (g *ℤ most) (g *ℤ (most +ℤ rest))
    (g *ℤ ((n +ℤ n) +ℤ (most +ℤ rest))) (ap (λ (z : ℤ). g *ℤ z) is ∙ mulz-addz (later +ℤ (lengths +ℤ lengths)) rest g) (mulz-addz (n +ℤ n) more g) (mulz-addz most rest g)
    (mulz-addz (n +ℤ n) (most +ℤ rest) g) reach bound law
  where
    sum : (all two gr gf gs cut more nn gm gb both end : ℤ) → all ≡ two +ℤ gr → more ≡ nn +ℤ gm → both ≡ gb +ℤ gr → end ≡ nn +ℤ both → gf ≤ℤ gs → gm ≤ℤ gb → two ≤ℤ ((gf +ℤ cut) +ℤ more)
        → all ≤ℤ (gs +ℤ (cut +ℤ end))
    sum all two gr gf gs cut more nn gm gb both end e1 e2 e3 e4 i1 i2 i3 = omega (arith, ints, e1, e2, e3, e4, i1, i2, i3)

-- a run that is so far apart comes near a precision that is its starts, twice its lengths, two microticks and what cycles change
comes_near : (p : Values) (sane : IsSane p) (later lengths : ℕ) (allows : AllowsFar p lengths) (precision changes : ℕ) → precision ≡ later + (lengths + lengths) + (2 * longest_micro p + changes)
    → far_skew (far p sane later lengths allows) ≤ℤ skew_at p (told_of (all_cycles (far_apart_run (far p sane later lengths allows)))) 1 (amount p name.gOffsetCorrectionStart)
    → ComesNear (far_apart_run (far p sane later lengths allows)) precision (left_below p lengths changes)
unfolding far far_in more
comes_near p sane later lengths allows precision changes is reached =
    let grid = is_grid_lem p sane in
    let from = grid.correction_from in
    let to = grid.correction_to in
    let bounded = (longer p sane later lengths allows).bounded in
    let by = more p sane later lengths allows in
    let f = far p sane later lengths allows in
    let law = far_skews_are_near f lengths by sane refl (longer p sane later lengths allows).takes (longer p sane later lengths allows).nearly in
    let all : pos precision ≡ (pos later +ℤ (pos lengths +ℤ pos lengths)) +ℤ pos (2 * longest_micro p + changes) = omega (arith, ints, is) in
    let ends : pos (2 * amount p name.xRateBound) +ℤ pos (2 * longest_micro p + changes) ≡ pos (2 * amount p name.xRateBound + 2 * longest_micro p + changes) = omega (arith, ints) in
    let End : ℤ → Type 0 = λ z.
    (p.macros *ℤ pos precision)
    ≤ℤ ((p.macros *ℤ skew_at p (told_of (all_cycles (far_apart_run f))) 1 (amount p name.gOffsetCorrectionStart)) +ℤ (((p.macros -ℤ p.correction) *ℤ pos lengths) +ℤ (p.macros *ℤ ((p.micros +ℤ p.micros) +ℤ z)))) in
    subst End ends
    (together p.macros (far_skew f) (skew_at p (told_of (all_cycles (far_apart_run f))) 1 (amount p name.gOffsetCorrectionStart)) (pos later) (pos lengths) ((p.macros -ℤ p.correction) *ℤ pos lengths) p.micros (pos by)
    (pos (2 * amount p name.xRateBound)) (pos (2 * longest_micro p + changes)) (pos precision) (omega (arith, ints, from, to)) reached (omega (arith, ints, bounded)) all law)

-- ---- so there is one

pub some_run_comes_near : ((x : Setting) (n : ℕ) → IsSetting x → IsLawful x (cycles_of x n)) → ((x : Setting) (n : ℕ) → length (cycles_of x n) ≡ n) → SomeRunComesNear
unfolding far far_in
some_run_comes_near lawful long p sane checks allows =
    let f = far p sane (pi_of p) (lambda_of p) allows in
    let x : Setting = far_apart_run f in
    let r = far_runs_reach_older lawful long f (is_far p sane (pi_of p) (lambda_of p) allows) checks (has_two p sane (pi_of p) (lambda_of p) allows) in
    record {
      run = x;
      params = refl;
      covered = r.0;
      lawful = lawful x (2 * x.doubles) r.0.setting;
      synced = r.1;
      near = comes_near p sane (pi_of p) (lambda_of p) allows (precision_of p) 0 (omega arith) r.2;
    }

may_have : (beside : Bool) (p : Values) (sane : IsSane p) (later lengths : ℕ) (allows : AllowsFar p lengths) → MayHaveArbitrary beside (far_apart_run (far p sane later lengths allows))
unfolding far far_in
may_have true p sane later lengths allows = tt
may_have false p sane later lengths allows = none_counted p.nodes

pub some_run_comes_near_sharply : ((x : Setting) (n : ℕ) → IsSetting x → IsLawful x (cycles_of x n)) → ((x : Setting) (n : ℕ) → length (cycles_of x n) ≡ n) → SomeRunComesNearSharply
unfolding far far_in
some_run_comes_near_sharply lawful long beside p sane allows =
    let pi = sharp_pi beside p 0 in
    let lambda = sharp_lambda beside p 0 in
    let f = far p sane pi lambda allows in
    let r = far_runs_reach_sharply lawful long beside f (is_far p sane pi lambda allows) (may_have beside p sane pi lambda allows) (has_two p sane pi lambda allows) in
    record {
      run = far_apart_run f;
      params = refl;
      steady = r.0;
      synced = r.1;
      near = comes_near p sane pi lambda allows (sharp_precision beside p 0) (2 * cycle_change p) (sums pi lambda (2 * cycle_change p) (2 * longest_micro p)) r.2;
    }
  where
    sums : (a b c d : ℕ) → a + b + (b + c) + d ≡ a + (b + b) + (d + c)
    sums a b c d = omega arith
