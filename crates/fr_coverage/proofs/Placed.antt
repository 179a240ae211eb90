-- The place of a flutter is the one that is told: of all that flutter so much the last double cycle, and in it the first.
use Rattle.std.proofs.Common.{◌≡◌, ℕ, zero, suc, ◌<◌, ◌≤◌, Bool, true, false, List, [], ◌∷◌, length, Option, Some, None, ap, sym, ◌∙◌, refl, arith, ◌⊎◌, inl, inr, subst}
use Rattle.std.specs.Prelude.{max, nat_le, nat_lt, ◌==◌, ◌&&◌, ◌||◌, if◌then◌else◌, AllPairs, Contains, slice_index_or}
use Rattle.std.specs.declared.cmp.Ordering.TheVariants.{Less}
use Rattle.std.specs.Ordering.{nat_cmp}
use Rattle.std.specs.Cmp.Lexicographic.{slice_cmp}
use Rattle.std.proofs.lemmas.Bool.{cases_eq}
use Rattle.std.proofs.lemmas.Bool.Decides.{nat_tests}
use Rattle.fr_base.specs.Rows.{channel_rank}
use Rattle.fr_base.specs.declared.channel.Channel.{Channel}
use Rattle.fr_base.specs.declared.channel.Channel.TheVariants as channel
use Rattle.fr_cluster.specs.Values.{Values}
use Rattle.fr_cluster.specs.declared.nodes.NodeSpec.{NodeSpec}
use Rattle.fr_drift.specs.Questions.{doubles_of}
use Rattle.fr_drift.specs.View.{DriftView}
use Rattle.fr_script.specs.View.{ScriptView}
use Rattle.fr_coverage.specs.First.{from_on}
use Rattle.fr_coverage.specs.Flutter.{flutter_between, flutter_from, flutter_in, flutter_on, fluttering_between, fluttering_from, fluttering_in, fluttering_on, greatest_between, outdoes, place_of_flutter, ticks_of, told_below, told_in, told_of_two, FluttersBy, IsFluttering, FluttersThere, TellsFluttering}
use Rattle.fr_coverage.specs.Links.{is_link, shares}
use Rattle.fr_coverage.specs.declared.gap.Fluttering.{Fluttering}
use Rattle.fr_coverage.proofs.Least.{later, under}
use Rattle.fr_coverage.proofs.Flutters.{flutter_falls, flutter_is_greatest}
use Rattle.fr_coverage.proofs.Told.{ticks-between, ticks-in, ticks-two}

-- one lies before another by sender, receiver and channel
abbrev IsFormer : Fluttering → Fluttering → Type 0
IsFormer one other = slice_cmp nat_cmp (place_of_flutter one) (place_of_flutter other) ≡ Less

-- one is told before another, or they are one
pub record Yields (one other : Fluttering) : Type 0 where
  pub ticks : one.ticks ≤ other.ticks
  pub double : one.ticks ≡ other.ticks → one.double ≤ other.double
  pub former : one.ticks ≡ other.ticks → one.double ≡ other.double → IsFormer one other → ⊥

-- what is told is one of some, to which all of these yield, and nothing is told only where there is none
pub record IsTold (G : Fluttering → Type 0) (o : Option Fluttering) : Type 0 where
  pub some : (x : Fluttering) → o ≡ Some x → G x
  pub best : (x y : Fluttering) → o ≡ Some x → G y → Yields y x
  pub none : o ≡ None → (y : Fluttering) → G y → ⊥

placed-same : (G H : Fluttering → Type 0) (o : Option Fluttering) → IsTold G o → ((x : Fluttering) → G x → H x) → ((x : Fluttering) → H x → G x) → IsTold H o
placed-same G H o l to from = record {
  some = λ x e. to x (l.some x e);
  best = λ x y e w. l.best x y e (from y w);
  none = λ e y w. l.none e y (from y w);
}

placed-never : (G : Fluttering → Type 0) → ((x : Fluttering) → G x → ⊥) → IsTold G None
placed-never G never = record { some = λ x e. cc e; best = λ x y e w. cc e; none = λ e y w. never y w }

-- none of one part lies before one of another in the same double cycle
abbrev AreParted : (Fluttering → Type 0) → (Fluttering → Type 0) → Type 0
AreParted G H = (x y : Fluttering) → G x → H y → x.double ≡ y.double → IsFormer y x → ⊥

outdoes-tells : (t k u n : ℕ) → (nat_lt t u || ((u == t) && nat_lt k n)) ≡ true → (t ≤ u) × (t ≡ u → k < n)
outdoes-tells t k u n e = (grind (arith, nat_tests), λ same. grind (arith, nat_tests))

outdone-tells : (t k u n : ℕ) → (nat_lt t u || ((u == t) && nat_lt k n)) ≡ false → (u ≤ t) × (u ≡ t → n ≤ k)
outdone-tells t k u n e = (grind (arith, nat_tests), λ same. grind (arith, nat_tests))

placed-or : (G H : Fluttering → Type 0) (a b : Option Fluttering) → IsTold G a → IsTold H b → AreParted G H → IsTold (λ x. G x ⊎ H x) (told_of_two a b)
placed-or G H None b l m apart = record {
  some = λ x e. inr (m.some x e);
  best = λ x y e w. best x y e w;
  none = λ e y w. never e y w;
}
  where
    best : (x y : Fluttering) → b ≡ Some x → G y ⊎ H y → Yields y x
    best x y e (inl g) = absurd (l.none refl y g)
    best x y e (inr h) = m.best x y e h

    never : b ≡ None → (y : Fluttering) → G y ⊎ H y → ⊥
    never e y (inl g) = l.none refl y g
    never e y (inr h) = m.none e y h
placed-or G H (Some a) None l m apart = record {
  some = λ x e. inl (l.some x e);
  best = λ x y e w. best x y e w;
  none = λ e y w. cc e;
}
  where
    best : (x y : Fluttering) → Some a ≡ Some x → G y ⊎ H y → Yields y x
    best x y e (inl g) = l.best x y e g
    best x y e (inr h) = absurd (m.none refl y h)
placed-or G H (Some a) (Some b) l m apart = by (outdoes b a) refl
  where
    by : (o : Bool) → outdoes b a ≡ o → IsTold (λ x. G x ⊎ H x) (if o then Some b else Some a)
    by true e = record { some = λ x is. inr (m.some x is); best = λ x y is w. best x y is w; none = λ is y w. cc is }
      where
        above : (y : Fluttering) → G y → Yields y b
        above y g =
            let than = l.best a y refl g in
            let more = outdoes-tells a.ticks a.double b.ticks b.double e in
            let low = than.ticks in
            let high = more.0 in
            record {
              ticks = omega arith;
              double = λ same. let late = than.double (omega arith) in let less = more.1 (omega arith) in omega arith;
              former = λ same there. let late = than.double (omega arith) in let less = more.1 (omega arith) in absurd (omega arith);
            }

        best : (x y : Fluttering) → Some b ≡ Some x → G y ⊎ H y → Yields y x
        best x y is (inl g) = let same : b ≡ x = cc is in subst (λ (z : Fluttering). Yields y z) same (above y g)
        best x y is (inr h) = m.best x y is h
    by false e = record { some = λ x is. inl (l.some x is); best = λ x y is w. best x y is w; none = λ is y w. cc is }
      where
        above : (y : Fluttering) → H y → Yields y a
        above y h =
            let than = m.best b y refl h in
            let more = outdone-tells a.ticks a.double b.ticks b.double e in
            let low = than.ticks in
            let high = more.0 in
            record {
              ticks = omega arith;
              double = λ same. let late = than.double (omega arith) in let less = more.1 (omega arith) in omega arith;
              former = λ same there. apart a y (l.some a refl) h (sym there);
            }

        best : (x y : Fluttering) → Some a ≡ Some x → G y ⊎ H y → Yields y x
        best x y is (inl g) = l.best x y is g
        best x y is (inr h) = let same : a ≡ x = cc is in subst (λ (z : Fluttering). Yields y z) same (above y h)

yields-itself : (x : Fluttering) → Yields x x
yields-itself x = record {
  ticks = omega arith;
  double = λ e. omega arith;
  former = λ e f.
      under x.sender (x.receiver ∷ channel_rank x.channel ∷ []) (x.receiver ∷ channel_rank x.channel ∷ [])
      (under x.receiver (channel_rank x.channel ∷ []) (channel_rank x.channel ∷ []) (under (channel_rank x.channel) [] [] (λ h. cc h)));
}

-- one place, where it flutters
placed-at : (n : ℕ) (place : Fluttering) → IsTold (λ x. (0 < n) × (x ≡ place)) (if n == 0 then None else Some place)
placed-at n place = by (n == 0) refl
  where
    by : (o : Bool) → (n == 0) ≡ o → IsTold (λ x. (0 < n) × (x ≡ place)) (if o then None else Some place)
    by true none = placed-never (λ x. (0 < n) × (x ≡ place)) (λ x w. let lt = w.0 in grind (arith, nat_tests))
    by false more = record {
      some = λ x e. (grind (arith, nat_tests), let same : x ≡ place = cc e in same);
      best = λ x y e w. let same : x ≡ place = cc e in subst (λ (z : Fluttering). Yields y z) (sym same) (subst (λ (z : Fluttering). Yields z place) (sym w.1) (yields-itself place));
      none = λ e y w. cc e;
    }

placed-where : (G : Fluttering → Type 0) (b : Bool) (o : Option Fluttering) → IsTold G o → IsTold (λ x. (b ≡ true) × G x) (if b then o else None)
placed-where G true o l = placed-same G (λ x. (◌≡◌ {A = Bool} true true) × G x) o l (λ x w. (refl, w)) (λ x w. w.1)
placed-where G false o l = placed-never (λ x. (◌≡◌ {A = Bool} false true) × G x) (λ x w. cc w.0)

placed-from : (G : ℕ → Fluttering → Type 0) (f : ℕ → Option Fluttering) (from : ℕ) → ((k : ℕ) → IsTold (G k) (f k)) → (k : ℕ) → IsTold (λ x. (from ≤ k) × G k x) (from_on from f k)
placed-from G f from l k = by (nat_le from k) refl
  where
    by : (b : Bool) → nat_le from k ≡ b → IsTold (λ x. (from ≤ k) × G k x) (if b then f k else None)
    by true e =
        let le : from ≤ k = grind (arith, nat_tests) in
        placed-same (G k) (λ x. (from ≤ k) × G k x) (f k) (l k) (λ x w. (le, w)) (λ x w. w.1)
    by false e =
        let lt : k < from = grind (arith, nat_tests) in
        placed-never (λ x. (from ≤ k) × G k x) (λ x w. let le = w.0 in omega arith)

-- that of one of the numbers below a limit
abbrev Within : (ℕ → Fluttering → Type 0) → ℕ → Fluttering → Type 0
Within G n x = (k : ℕ) × (k < n) × G k x

placed-below : (G : ℕ → Fluttering → Type 0) (f : ℕ → Option Fluttering) (n : ℕ) → ((k : ℕ) → IsTold (G k) (f k)) → ((j k : ℕ) → j < k → AreParted (G j) (G k))
    → IsTold (Within G n) (told_below f n)
unfolding told_below
placed-below G f zero l apart = placed-never (Within G zero) (λ x w. let lt = w.1 in omega arith)
placed-below G f (suc n) l apart =
    placed-same (λ x. Within G n x ⊎ G n x) (Within G (suc n)) _
    (placed-or (Within G n) (G n) (told_below f n) (f n) (placed-below G f n l apart) (l n) (λ x y w v same before. apart w.0 n w.1 x y w.2 v same before))
    (λ x w. to x w) (λ x w. cut x w (cases_eq w.0 n))
  where
    to : (x : Fluttering) → Within G n x ⊎ G n x → Within G (suc n) x
    to x (inl w) = let lt = w.1 in (w.0, omega arith, w.2)
    to x (inr g) = (n, omega arith, g)

    cut : (x : Fluttering) (w : Within G (suc n) x) → (w.0 ≡ n) ⊎ (w.0 ≡ n → ⊥) → Within G n x ⊎ G n x
    cut x w (inl e) = inr (subst (λ (k : ℕ). G k x) e w.2)
    cut x w (inr ne) = let lt = w.1 in inl (w.0, omega arith, w.2)

-- that of one of the nodes of a list, in ascending order
abbrev Of : (NodeSpec → Fluttering → Type 0) → List NodeSpec → Fluttering → Type 0
Of G nodes x = (node : NodeSpec) × Contains nodes node × G node x

head-below : (x : NodeSpec) (xs : List NodeSpec) → AllPairs (λ a b. a.id < b.id) (x ∷ xs) → (y : NodeSpec) → Contains xs y → x.id < y.id
head-below x xs h y c = subst (λ (n : NodeSpec). x.id < n.id) c.2 (h 0 (suc c.0) y (omega arith) (let lt = c.1 in omega arith))

placed-in : (G : NodeSpec → Fluttering → Type 0) (f : NodeSpec → Option Fluttering) (nodes : List NodeSpec) → ((n : NodeSpec) → IsTold (G n) (f n))
    → AllPairs (λ a b. a.id < b.id) nodes → ((a b : NodeSpec) → a.id < b.id → AreParted (G a) (G b)) → IsTold (Of G nodes) (told_in f nodes)
unfolding told_in
placed-in G f [] l ascend apart = placed-never (Of G []) (λ x w. let lt = w.1.1 in omega arith)
placed-in G f (n ∷ ns) l ascend apart =
    placed-same (λ x. G n x ⊎ Of G ns x) (Of G (n ∷ ns)) _
    (placed-or (G n) (Of G ns) (f n) (told_in f ns) (l n)
    (placed-in G f ns l (λ i j b lt below. ascend (suc i) (suc j) b (omega arith) (omega arith)) apart)
    (λ x y g w same before. apart n w.0 (head-below n ns ascend w.0 w.1) x y g w.2 same before))
    (λ x w. to x w) (λ x w. from x w.0 w.1.0 w.1.1 w.1.2 w.2)
  where
    to : (x : Fluttering) → G n x ⊎ Of G ns x → Of G (n ∷ ns) x
    to x (inl w) = (n, (0, omega arith, refl), w)
    to x (inr w) = (w.0, (suc w.1.0, let lt = w.1.1 in omega arith, w.1.2), w.2)

    from : (x : Fluttering) (y : NodeSpec) (k : ℕ) → k < length (n ∷ ns) → slice_index_or (n ∷ ns) k y ≡ y → G y x → G n x ⊎ Of G ns x
    from x y zero lt e w = inl (subst (λ (m : NodeSpec). G m x) (sym e) w)
    from x y (suc k) lt e w = inr (y, (k, omega arith, e), w)

-- ---- the places of a run from a double cycle on

at-flutters : (x y : Fluttering) (xs ys : List ℕ) → place_of_flutter x ≡ xs → place_of_flutter y ≡ ys → (slice_cmp nat_cmp ys xs ≡ Less → ⊥) → IsFormer y x → ⊥
at-flutters x y xs ys e f never before =
    never (sym (ap (λ (zs : List ℕ). slice_cmp nat_cmp zs xs) f) ∙ sym (ap (λ (zs : List ℕ). slice_cmp nat_cmp (place_of_flutter y) zs) e) ∙ before)

module _ (p : Values) (d : DriftView) (s : ScriptView) (from : ℕ) where
  abbrev at : ℕ → ℕ → Channel → ℕ → Fluttering
  at i j ch k = record { ticks = flutter_in d i j ch k; sender = i; receiver = j; channel = ch; double = k }

  abbrev OnTurn : ℕ → ℕ → Channel → ℕ → Fluttering → Type 0
  OnTurn i j ch k x = (0 < flutter_in d i j ch k) × (x ≡ at i j ch k)

  abbrev OnChannel : NodeSpec → NodeSpec → Channel → Fluttering → Type 0
  OnChannel a b ch x = (shares a b ch ≡ true) × Within (λ k y. (from ≤ k) × OnTurn a.id b.id ch k y) (doubles_of d) x

  abbrev OnLink : NodeSpec → NodeSpec → Fluttering → Type 0
  OnLink a b x = (is_link s a b ≡ true) × (OnChannel a b channel.A x ⊎ OnChannel a b channel.B x)

  on_channel : (a b : NodeSpec) (ch : Channel) → IsTold (OnChannel a b ch) (fluttering_on d from a b ch)
  on_channel a b ch =
      placed-where (Within (λ k y. (from ≤ k) × OnTurn a.id b.id ch k y) (doubles_of d)) (shares a b ch) _
      (placed-below (λ k y. (from ≤ k) × OnTurn a.id b.id ch k y) (from_on from (fluttering_in d a.id b.id ch)) (doubles_of d)
      (placed-from (OnTurn a.id b.id ch) (fluttering_in d a.id b.id ch) from (λ k. placed-at (flutter_in d a.id b.id ch k) (at a.id b.id ch k)))
      (λ j k lt x y w v same before.
      let here = ap (λ (z : Fluttering). z.double) w.1.1 in
      let there = ap (λ (z : Fluttering). z.double) v.1.1 in
      omega arith))

  on_link : (a b : NodeSpec) → IsTold (OnLink a b) (fluttering_between d s from a b)
  on_link a b =
      placed-where (λ x. OnChannel a b channel.A x ⊎ OnChannel a b channel.B x) (is_link s a b) _
      (placed-or (OnChannel a b channel.A) (OnChannel a b channel.B) _ _ (on_channel a b channel.A) (on_channel a b channel.B)
      (λ x y w v same before.
      at-flutters x y (a.id ∷ b.id ∷ 0 ∷ []) (a.id ∷ b.id ∷ 1 ∷ []) (ap place_of_flutter w.1.2.1.1) (ap place_of_flutter v.1.2.1.1)
      (under a.id (b.id ∷ 1 ∷ []) (b.id ∷ 0 ∷ []) (under b.id (1 ∷ []) (0 ∷ []) (later 0 1 [] [] (omega arith)))) before))

  -- where a place of a pair stands
  rest : (a b : NodeSpec) (x : Fluttering) → OnLink a b x → (ys : List ℕ) × (place_of_flutter x ≡ a.id ∷ b.id ∷ ys)
  rest a b x w = by w.1
    where
      by : OnChannel a b channel.A x ⊎ OnChannel a b channel.B x → (ys : List ℕ) × (place_of_flutter x ≡ a.id ∷ b.id ∷ ys)
      by (inl v) = (0 ∷ [], ap place_of_flutter v.1.2.1.1)
      by (inr v) = (1 ∷ [], ap place_of_flutter v.1.2.1.1)

  abbrev OfSender : NodeSpec → Fluttering → Type 0
  OfSender a = Of (OnLink a) p.nodes

  of_sender : AllPairs (λ a b. a.id < b.id) p.nodes → (a : NodeSpec) → IsTold (OfSender a) (told_in (fluttering_between d s from a) p.nodes)
  of_sender ascend a =
      placed-in (OnLink a) (fluttering_between d s from a) p.nodes (λ b. on_link a b) ascend
      (λ b c lt x y w v same before.
      let here = rest a b x w in
      let there = rest a c y v in
      at-flutters x y (a.id ∷ b.id ∷ here.0) (a.id ∷ c.id ∷ there.0) here.1 there.1
      (under a.id (c.id ∷ there.0) (b.id ∷ here.0) (later b.id c.id there.0 here.0 lt)) before)

  of_run : AllPairs (λ a b. a.id < b.id) p.nodes → IsTold (Of OfSender p.nodes) (fluttering_from p d s from)
  unfolding fluttering_from
  of_run ascend =
      placed-in OfSender (λ a. told_in (fluttering_between d s from a) p.nodes) p.nodes (λ a. of_sender ascend a) ascend
      (λ a b lt x y w v same before.
      let here = rest a w.0 x w.2 in
      let there = rest b v.0 y v.2 in
      at-flutters x y (a.id ∷ w.0.id ∷ here.0) (b.id ∷ v.0.id ∷ there.0) here.1 there.1
      (later a.id b.id (v.0.id ∷ there.0) (w.0.id ∷ here.0) lt) before)

  -- it is there, by as many ticks
  there_on : (a b : NodeSpec) (ch : Channel) (x : Fluttering) → Contains p.nodes a → Contains p.nodes b → is_link s a b ≡ true → OnChannel a b ch x → FluttersThere p d s from x × (0 < x.ticks)
  there_on a b ch x first second link w = (
    subst (FluttersThere p d s from) (sym w.1.2.1.1) (
      record {
        sender = a;
        receiver = b;
        sender_there = first;
        receiver_there = second;
        link = link;
        ch = ch;
        shared = w.0;
        double = w.1.0;
        behind = w.1.2.0;
        within = w.1.1;
        differs = refl;
      },
      (refl, (refl, (refl, refl))),
    ),
    (let more = w.1.2.1.0 in let ticks = ap (λ (z : Fluttering). z.ticks) w.1.2.1.1 in omega arith),
  )

  there : (a b : NodeSpec) (x : Fluttering) → Contains p.nodes a → Contains p.nodes b → is_link s a b ≡ true → OnChannel a b channel.A x ⊎ OnChannel a b channel.B x
      → FluttersThere p d s from x × (0 < x.ticks)
  there a b x first second link (inl w) = there_on a b channel.A x first second link w
  there a b x first second link (inr w) = there_on a b channel.B x first second link w

  either_channel : (a b : NodeSpec) (ch : Channel) (x : Fluttering) → OnChannel a b ch x → OnChannel a b channel.A x ⊎ OnChannel a b channel.B x
  either_channel a b channel.A x w = inl w
  either_channel a b channel.B x w = inr w

  same_place : (x : Fluttering) (t i j : ℕ) (ch : Channel) (k : ℕ) → t ≡ x.ticks → i ≡ x.sender → j ≡ x.receiver → ch ≡ x.channel → k ≡ x.double
      → x ≡ record { ticks = t; sender = i; receiver = j; channel = ch; double = k }
  same_place x t i j ch k e f g h l = rw (e, f, g, h, l) refl

  back : (x : Fluttering) → FluttersThere p d s from x → 0 < x.ticks → Of OfSender p.nodes x
  back x w more = (
    w.0.sender,
    w.0.sender_there,
    (
      w.0.receiver,
      w.0.receiver_there,
      (
        w.0.link,
        either_channel w.0.sender w.0.receiver w.0.ch x (
          w.0.shared,
          (
            w.0.double,
            w.0.within,
            (
              w.0.behind,
              (
                let ticks = w.0.differs in omega arith,
                same_place x _ w.0.sender.id w.0.receiver.id w.0.ch w.0.double w.0.differs w.1.0 w.1.1.0 w.1.1.1.0 w.1.1.1.1,
              ),
            ),
          ),
        ),
      ),
    ),
  )

  -- so it is what is told
  is_place : AllPairs (λ a b. a.id < b.id) p.nodes → (x : Fluttering) → fluttering_from p d s from ≡ Some x → IsFluttering p d s from x
  is_place ascend x e =
      let l = of_run ascend in
      let w = l.some x e in
      let is = there w.0 w.2.0 x w.1 w.2.1 w.2.2.0 w.2.2.1 in
      let more = is.1 in
      record {
        there = is.0;
        some = more;
        most = λ y v. above l y v;
        last = λ y v same. (l.best x y e (back y v (omega arith))).double same;
        first = λ y v same at_once. (l.best x y e (back y v (omega arith))).former same at_once;
      }
    where
      above : IsTold (Of OfSender p.nodes) (fluttering_from p d s from) → (y : Fluttering) → FluttersThere p d s from y → y.ticks ≤ x.ticks
      above l y v = by y.ticks refl
        where
          by : (t : ℕ) → y.ticks ≡ t → y.ticks ≤ x.ticks
          by zero none = omega (arith, none)
          by (suc t) some = (l.best x y e (back y v (omega (arith, some)))).ticks

  pub ticks_are : ticks_of (fluttering_from p d s from) ≡ flutter_from p d s from
  unfolding fluttering_from flutter_from
  ticks_are =
      ticks-in (λ a. told_in (fluttering_between d s from a) p.nodes) _ p.nodes
      (λ a. ticks-in (fluttering_between d s from a) (flutter_between d s from a) p.nodes (λ b. link a b))
    where
      on : (a b : NodeSpec) (ch : Channel) → ticks_of (fluttering_on d from a b ch) ≡ flutter_on d from a b ch
      on a b ch = by (shares a b ch)
        where
          by : (o : Bool) → ticks_of (if o then told_below (from_on from (fluttering_in d a.id b.id ch)) (doubles_of d) else None)
              ≡ (if o then greatest_between (flutter_in d a.id b.id ch) from (doubles_of d) else 0)
          by true = ticks-between d a.id b.id ch from (doubles_of d)
          by false = refl

      link : (a b : NodeSpec) → ticks_of (fluttering_between d s from a b) ≡ flutter_between d s from a b
      link a b = by (is_link s a b)
        where
          by : (o : Bool) → ticks_of (if o then told_of_two (fluttering_on d from a b channel.A) (fluttering_on d from a b channel.B) else None)
              ≡ (if o then max (flutter_on d from a b channel.A) (flutter_on d from a b channel.B) else 0)
          by true =
              ticks-two (fluttering_on d from a b channel.A) (fluttering_on d from a b channel.B)
              ∙ ap (λ (t : ℕ). max t (ticks_of (fluttering_on d from a b channel.B))) (on a b channel.A)
              ∙ ap (max (flutter_on d from a b channel.A)) (on a b channel.B)
          by false = refl

  pub tells_fluttering : AllPairs (λ a b. a.id < b.id) p.nodes → TellsFluttering p d s from (fluttering_from p d s from)
  tells_fluttering ascend = record {
    ticks = ticks_are;
    place = λ x e. is_place ascend x e;
    stays = λ x e later low high. stays x e (is_place ascend x e).there later low high;
    none = λ e later low. let falls = flutter_falls p d s from later low in let is = sym ticks_are ∙ ap ticks_of e in omega arith;
  }
    where
      behind_too : (x : Fluttering) → FluttersThere p d s from x → (later : ℕ) → later ≤ x.double → FluttersBy p d s later x.ticks
      behind_too x w later high = record {
        sender = w.0.sender;
        receiver = w.0.receiver;
        sender_there = w.0.sender_there;
        receiver_there = w.0.receiver_there;
        link = w.0.link;
        ch = w.0.ch;
        shared = w.0.shared;
        double = w.0.double;
        behind = (let same = w.1.1.1.1 in omega arith);
        within = w.0.within;
        differs = w.0.differs;
      }

      stays : (x : Fluttering) → fluttering_from p d s from ≡ Some x → FluttersThere p d s from x → (later : ℕ) → from ≤ later → later ≤ x.double
          → flutter_from p d s later ≡ flutter_from p d s from
      stays x e w later low high =
          let falls = flutter_falls p d s from later low in
          let reached = (flutter_is_greatest p d s later).most x.ticks (behind_too x w later high) in
          let is : x.ticks ≡ flutter_from p d s from = sym (ap ticks_of e) ∙ ticks_are in
          omega arith
