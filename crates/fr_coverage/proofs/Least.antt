-- The first of the gaps of several parts, where no gap of a later part comes before one of an earlier part.
use Rattle.std.proofs.Common.{◌≡◌, ℕ, zero, suc, ◌<◌, ◌≤◌, Bool, true, false, List, [], ◌∷◌, length, Option, Some, None, ap, sym, ◌∙◌, refl, arith, ◌⊎◌, inl, inr, subst}
use Rattle.std.specs.Prelude.{nat_le, if◌then◌else◌, Contains, AllPairs, slice_index_or}
use Rattle.std.specs.Option.{option_or}
use Rattle.std.specs.declared.cmp.Ordering.{Ordering}
use Rattle.std.specs.declared.cmp.Ordering.TheVariants.{Less, Equal, Greater}
use Rattle.std.specs.Ordering.{nat_cmp, ordering_then}
use Rattle.std.specs.Cmp.Lexicographic.{slice_cmp}
use Rattle.std.proofs.lemmas.Cmp.{tied_itself, nat_list_cmp_total}
use Rattle.std.proofs.lemmas.Bool.{cases_eq}
use Rattle.std.proofs.lemmas.Bool.Decides.{nat_tests}
use Rattle.fr_cluster.specs.declared.nodes.NodeSpec.{NodeSpec}
use Rattle.fr_coverage.specs.First.{first_below, first_in, from_on}
use Rattle.fr_coverage.specs.Order.{place_of_gap, IsEarlierGap}
use Rattle.fr_coverage.specs.declared.gap.Gap.{Gap}

-- what is found is a gap of the part, none of the part comes before it, and nothing is found only where there is none
pub record IsLeast (G : Gap → Type 0) (o : Option Gap) : Type 0 where
  pub some : (g : Gap) → o ≡ Some g → G g
  pub least : (g h : Gap) → o ≡ Some g → G h → IsEarlierGap h g → ⊥
  pub none : o ≡ None → (h : Gap) → G h → ⊥

pub least-same : (G H : Gap → Type 0) (o : Option Gap) → IsLeast G o → ((g : Gap) → G g → H g) → ((g : Gap) → H g → G g) → IsLeast H o
least-same G H o l to from = record {
  some = λ g e. to g (l.some g e);
  least = λ g h e w b. l.least g h e (from h w) b;
  none = λ e h w. l.none e h (from h w);
}

-- no gap of one part comes before one of another
abbrev pub AreApart : (Gap → Type 0) → (Gap → Type 0) → Type 0
AreApart G H = (g h : Gap) → G g → H h → IsEarlierGap h g → ⊥

pub least-or : (G H : Gap → Type 0) (a b : Option Gap) → IsLeast G a → IsLeast H b → AreApart G H → IsLeast (λ g. G g ⊎ H g) (option_or a b)
least-or G H None b l m apart = record {
  some = λ g e. inr (m.some g e);
  least = λ g h e w before. by g h e before w;
  none = λ e h w. not h e w;
}
  where
    by : (g h : Gap) → b ≡ Some g → IsEarlierGap h g → G h ⊎ H h → ⊥
    by g h e before (inl x) = l.none refl h x
    by g h e before (inr y) = m.least g h e y before

    not : (h : Gap) → b ≡ None → G h ⊎ H h → ⊥
    not h e (inl x) = l.none refl h x
    not h e (inr y) = m.none e h y
least-or G H (Some x) b l m apart = record {
  some = λ g e. inl (l.some g e);
  least = λ g h e w before. by g h e before w;
  none = λ e h w. cc e;
}
  where
    by : (g h : Gap) → Some x ≡ Some g → IsEarlierGap h g → G h ⊎ H h → ⊥
    by g h e before (inl y) = l.least g h e y before
    by g h e before (inr y) = apart g h (l.some g e) y before

itself : (g : Gap) → IsEarlierGap g g → ⊥
itself g h = let e = tied_itself nat_list_cmp_total (place_of_gap g) in cc (sym e ∙ h)

pub least-if : (b : Bool) (g : Gap) → IsLeast (λ h. (b ≡ true) × (h ≡ g)) (if b then Some g else None)
least-if true g = record {
  some = λ h e. (refl, let same : h ≡ g = cc e in same);
  least = λ h k e w before. let same : h ≡ g = cc e in itself g (subst (λ (x : Gap). IsEarlierGap x g) w.1 (subst (λ (x : Gap). IsEarlierGap k x) same before));
  none = λ e h w. cc e;
}
least-if false g = record {
  some = λ h e. cc e;
  least = λ h k e w before. cc e;
  none = λ e h w. cc w.0;
}

pub least-unless : (b : Bool) (g : Gap) → IsLeast (λ h. (b ≡ false) × (h ≡ g)) (if b then None else Some g)
least-unless false g = record {
  some = λ h e. (refl, let same : h ≡ g = cc e in same);
  least = λ h k e w before. let same : h ≡ g = cc e in itself g (subst (λ (x : Gap). IsEarlierGap x g) w.1 (subst (λ (x : Gap). IsEarlierGap k x) same before));
  none = λ e h w. cc e;
}
least-unless true g = record {
  some = λ h e. cc e;
  least = λ h k e w before. cc e;
  none = λ e h w. cc w.0;
}

pub least-where : (G : Gap → Type 0) (b : Bool) (o : Option Gap) → IsLeast G o → IsLeast (λ g. (b ≡ true) × G g) (if b then o else None)
least-where G true o l = least-same G (λ g. (◌≡◌ {A = Bool} true true) × G g) o l (λ g x. (refl, x)) (λ g x. x.1)
least-where G false o l = record { some = λ g e. cc e; least = λ g h e w before. cc e; none = λ e h w. cc w.0 }

pub least-where-not : (G : Gap → Type 0) (b : Bool) (o : Option Gap) → IsLeast G o → IsLeast (λ g. (b ≡ false) × G g) (if b then None else o)
least-where-not G false o l = least-same G (λ g. (◌≡◌ {A = Bool} false false) × G g) o l (λ g x. (refl, x)) (λ g x. x.1)
least-where-not G true o l = record { some = λ g e. cc e; least = λ g h e w before. cc e; none = λ e h w. cc w.0 }

-- a gap at one of the numbers below a limit
abbrev pub Below : (ℕ → Gap → Type 0) → ℕ → Gap → Type 0
Below G n g = (k : ℕ) × (k < n) × G k g

pub least-below : (G : ℕ → Gap → Type 0) (f : ℕ → Option Gap) (n : ℕ) → ((k : ℕ) → IsLeast (G k) (f k)) → ((j k : ℕ) → j < k → AreApart (G j) (G k)) → IsLeast (Below G n) (first_below f n)
unfolding first_below
least-below G f zero l apart = record {
  some = λ g e. cc e;
  least = λ g h e w before. cc e;
  none = λ e h w. let lt = w.1 in omega arith;
}
least-below G f (suc n) l apart =
    least-same (λ g. Below G n g ⊎ G n g) (Below G (suc n)) _
    (least-or (Below G n) (G n) (first_below f n) (f n) (least-below G f n l apart) (l n) (λ g h w x before. apart w.0 n w.1 g h w.2 x before))
    (λ g w. to g w) (λ g w. from g w)
  where
    to : (g : Gap) → Below G n g ⊎ G n g → Below G (suc n) g
    to g (inl w) = let lt = w.1 in (w.0, omega arith, w.2)
    to g (inr x) = (n, omega arith, x)

    cut : (g : Gap) (w : Below G (suc n) g) → (w.0 ≡ n) ⊎ (w.0 ≡ n → ⊥) → Below G n g ⊎ G n g
    cut g w (inl e) = inr (subst (λ (k : ℕ). G k g) e w.2)
    cut g w (inr ne) = let lt = w.1 in inl (w.0, omega arith, w.2)

    from : (g : Gap) → Below G (suc n) g → Below G n g ⊎ G n g
    from g w = cut g w (cases_eq w.0 n)

-- and at one of those from a number on
abbrev pub Between : (ℕ → Gap → Type 0) → ℕ → ℕ → Gap → Type 0
Between G from n = Below (λ k g. (from ≤ k) × G k g) n

least-from : (G : ℕ → Gap → Type 0) (f : ℕ → Option Gap) (from : ℕ) → ((k : ℕ) → IsLeast (G k) (f k)) → (k : ℕ) → IsLeast (λ g. (from ≤ k) × G k g) (from_on from f k)
least-from G f from l k = by (nat_le from k) refl
  where
    by : (b : Bool) → nat_le from k ≡ b → IsLeast (λ g. (from ≤ k) × G k g) (if b then f k else None)
    by true e =
        let le : from ≤ k = grind (arith, nat_tests) in
        least-same (G k) (λ g. (from ≤ k) × G k g) (f k) (l k) (λ g x. (le, x)) (λ g x. x.1)
    by false e =
        let lt : k < from = grind (arith, nat_tests) in
        record { some = λ g e. cc e; least = λ g h e w before. cc e; none = λ e h w. let le = w.0 in omega arith }

pub least-between : (G : ℕ → Gap → Type 0) (f : ℕ → Option Gap) (from n : ℕ) → ((k : ℕ) → IsLeast (G k) (f k)) → ((j k : ℕ) → j < k → AreApart (G j) (G k))
    → IsLeast (Between G from n) (first_below (from_on from f) n)
least-between G f from n l apart =
    least-below (λ k g. (from ≤ k) × G k g) (from_on from f) n (λ k. least-from G f from l k) (λ j k lt g h w x before. apart j k lt g h w.1 x.1 before)

-- a gap of one of the nodes of a list
abbrev pub Among : (NodeSpec → Gap → Type 0) → List NodeSpec → Gap → Type 0
Among G nodes g = (node : NodeSpec) × Contains nodes node × G node g

-- the gaps of each node of a list lie before those of the nodes after it
abbrev pub AreInOrder : (NodeSpec → Gap → Type 0) → List NodeSpec → Type 0
AreInOrder G [] = Unit {0}
AreInOrder G (x ∷ xs) = ((y : NodeSpec) → Contains xs y → AreApart (G x) (G y)) × AreInOrder G xs

tail-pairs : (x : NodeSpec) (xs : List NodeSpec) → AllPairs (λ a b. a.id < b.id) (x ∷ xs) → AllPairs (λ a b. a.id < b.id) xs
tail-pairs x xs h = λ i j d lt below. h (suc i) (suc j) d (omega arith) (omega arith)

head-below : (x : NodeSpec) (xs : List NodeSpec) → AllPairs (λ a b. a.id < b.id) (x ∷ xs) → (y : NodeSpec) → Contains xs y → x.id < y.id
head-below x xs h y c = subst (λ (n : NodeSpec). x.id < n.id) c.2 (h 0 (suc c.0) y (omega arith) (let lt = c.1 in omega arith))

-- nodes in ascending order, where a lesser number is looked at first
pub in-order : (G : NodeSpec → Gap → Type 0) (nodes : List NodeSpec) → AllPairs (λ a b. a.id < b.id) nodes
    → ((a b : NodeSpec) → a.id < b.id → AreApart (G a) (G b)) → AreInOrder G nodes
in-order G [] h apart = tt
in-order G (x ∷ xs) h apart = (λ y c. apart x y (head-below x xs h y c), in-order G xs (tail-pairs x xs h) apart)

pub least-in : (G : NodeSpec → Gap → Type 0) (f : NodeSpec → Option Gap) (nodes : List NodeSpec) → ((n : NodeSpec) → IsLeast (G n) (f n)) → AreInOrder G nodes → IsLeast (Among G nodes) (first_in f nodes)
unfolding first_in
least-in G f [] l order = record {
  some = λ g e. cc e;
  least = λ g h e w before. cc e;
  none = λ e h w. let lt = w.1.1 in omega arith;
}
least-in G f (x ∷ xs) l order =
    least-same (λ g. G x g ⊎ Among G xs g) (Among G (x ∷ xs)) _
    (least-or (G x) (Among G xs) (f x) (first_in f xs) (l x) (least-in G f xs l order.1) (λ g h w y before. order.0 y.0 y.1 g h w y.2 before))
    (λ g w. to g w) (λ g w. from g w.0 w.1.0 w.1.1 w.1.2 w.2)
  where
    to : (g : Gap) → G x g ⊎ Among G xs g → Among G (x ∷ xs) g
    to g (inl w) = (x, (0, omega arith, refl), w)
    to g (inr w) = (w.0, (suc w.1.0, let lt = w.1.1 in omega arith, w.1.2), w.2)

    from : (g : Gap) (y : NodeSpec) (k : ℕ) → k < length (x ∷ xs) → slice_index_or (x ∷ xs) k y ≡ y → G y g → G x g ⊎ Among G xs g
    from g y zero lt e w = inl (subst (λ (n : NodeSpec). G n g) (sym e) w)
    from g y (suc k) lt e w = inr (y, (k, omega arith, e), w)

-- lists of numbers, the first of which decides
same-head : (a : ℕ) (xs ys : List ℕ) → slice_cmp nat_cmp (a ∷ xs) (a ∷ ys) ≡ slice_cmp nat_cmp xs ys
same-head a xs ys = let e : nat_cmp a a ≡ Equal = grind (arith, nat_tests) in ap (λ (o : Ordering). ordering_then o (slice_cmp nat_cmp xs ys)) e

pub later : (m n : ℕ) (xs ys : List ℕ) → m < n → slice_cmp nat_cmp (n ∷ xs) (m ∷ ys) ≡ Less → ⊥
later m n xs ys lt h = let e : nat_cmp n m ≡ Greater = grind (arith, nat_tests) in cc (sym (ap (λ (o : Ordering). ordering_then o (slice_cmp nat_cmp xs ys)) e) ∙ h)

pub under : (a : ℕ) (xs ys : List ℕ) → (slice_cmp nat_cmp xs ys ≡ Less → ⊥) → slice_cmp nat_cmp (a ∷ xs) (a ∷ ys) ≡ Less → ⊥
under a xs ys never h = never (sym (same-head a xs ys) ∙ h)

-- gaps at known places
pub at-places : (g h : Gap) (xs ys : List ℕ) → place_of_gap g ≡ xs → place_of_gap h ≡ ys → (slice_cmp nat_cmp ys xs ≡ Less → ⊥) → IsEarlierGap h g → ⊥
at-places g h xs ys e f never before =
    never (sym (ap (λ (zs : List ℕ). slice_cmp nat_cmp zs xs) f) ∙ sym (ap (λ (zs : List ℕ). slice_cmp nat_cmp (place_of_gap h) zs) e) ∙ before)
