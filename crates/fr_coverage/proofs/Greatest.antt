-- The greatest of several numbers: one step further along numbers and lists, and what it is.
use Rattle.std.proofs.Common.{◌≡◌, ℕ, zero, suc, ◌<◌, ◌≤◌, Bool, true, false, List, [], ◌∷◌, length, take, ap, sym, ◌∙◌, refl, arith, ◌⊎◌, inl, inr, subst}
use Rattle.std.specs.Prelude.{max, nat_le, Contains, slice_index_or, if◌then◌else◌}
use Rattle.std.proofs.lemmas.Bool.Decides.{nat_tests}
use Rattle.std.proofs.lemmas.Bool.{cases_eq}
use Rattle.fr_cluster.specs.declared.nodes.NodeSpec.{NodeSpec}
use Rattle.fr_coverage.specs.Flutter.{greatest_below, greatest_in}

max-none : (m n : ℕ) → n ≡ 0 → max m n ≡ m
max-none m n e = grind arith

max-either : (a b : ℕ) → (max a b ≡ a) ⊎ (max a b ≡ b)
max-either a b = grind arith

max-bounds : (a b : ℕ) → (a ≤ max a b) × (b ≤ max a b)
max-bounds a b = grind arith

pub max-within : (a b most bound : ℕ) → most ≡ max a b → a ≤ bound → b ≤ bound → most ≤ bound
max-within a b most bound e f g = grind arith

max-assoc : (a b c : ℕ) → max a (max b c) ≡ max (max a b) c
max-assoc a b c = grind arith

pub greatest-zero : (f : ℕ → ℕ) → greatest_below f 0 ≡ 0
unfolding greatest_below
greatest-zero f = refl

pub greatest-next : (f : ℕ → ℕ) (n : ℕ) → greatest_below f (suc n) ≡ max (greatest_below f n) (f n)
unfolding greatest_below
greatest-next f n = refl

-- it stays where the numbers further on give 0
pub greatest-skip : (f : ℕ → ℕ) (n m : ℕ) → n ≤ m → ((k : ℕ) → n ≤ k → k < m → f k ≡ 0) → greatest_below f m ≡ greatest_below f n
unfolding greatest_below
greatest-skip f zero zero le none = refl
greatest-skip f (suc n) zero le none = absurd (omega arith)
greatest-skip f n (suc m) le none = by (cases_eq n (suc m)) (λ lt. greatest-skip f n m lt (λ k from to. none k from (omega arith)))
  where
    by : (n ≡ suc m) ⊎ (n ≡ suc m → ⊥) → (n ≤ m → greatest_below f m ≡ greatest_below f n) → greatest_below f (suc m) ≡ greatest_below f n
    by (inl e) rest = ap (greatest_below f) (sym e)
    by (inr ne) rest = max-none (greatest_below f m) (f m) (none m (omega arith) (omega arith)) ∙ rest (omega arith)

pub greatest-nil : {A : Type 0} (f : A → ℕ) → greatest_in f [] ≡ 0
unfolding greatest_in
greatest-nil f = refl

-- along a list, one element further
pub greatest-more : {A : Type 0} (f : A → ℕ) (xs : List A) (i : ℕ) (x : A) → i < length xs → x ≡ slice_index_or xs i x
    → greatest_in f (take (suc i) xs) ≡ max (greatest_in f (take i xs)) (f x)
unfolding greatest_in
greatest-more f [] i x lt e = absurd (omega arith)
greatest-more f (y ∷ ys) zero x lt e = ap (λ (n : ℕ). max n 0) (ap f (sym e)) ∙ turned (f x)
  where
    turned : (n : ℕ) → max n 0 ≡ max 0 n
    turned n = grind arith
greatest-more f (y ∷ ys) (suc i) x lt e =
    ap (max (f y)) (greatest-more f ys i x (omega arith) e) ∙ max-assoc (f y) (greatest_in f (take i ys)) (f x)

-- ---- what it is

-- none of some numbers is above it, and it is one of them, or 0
pub record IsMost (G : ℕ → Type 0) (most : ℕ) : Type 0 where
  pub above : (t : ℕ) → G t → t ≤ most
  pub reached : (most ≡ 0) ⊎ G most

pub most-same : (G H : ℕ → Type 0) (m : ℕ) → IsMost G m → ((t : ℕ) → G t → H t) → ((t : ℕ) → H t → G t) → IsMost H m
most-same G H m l to from = record { above = λ t h. l.above t (from t h); reached = by l.reached }
  where
    by : (m ≡ 0) ⊎ G m → (m ≡ 0) ⊎ H m
    by (inl e) = inl e
    by (inr g) = inr (to m g)

pub most-one : (f : ℕ) → IsMost (λ t. f ≡ t) f
most-one f = record { above = λ t e. omega (arith, e); reached = inr refl }

most-none : (G : ℕ → Type 0) → ((t : ℕ) → G t → ⊥) → IsMost G 0
most-none G never = record { above = λ t g. absurd (never t g); reached = inl refl }

pub most-where : (G : ℕ → Type 0) (b : Bool) (m : ℕ) → IsMost G m → IsMost (λ t. (b ≡ true) × G t) (if b then m else 0)
most-where G true m l = most-same G (λ t. (◌≡◌ {A = Bool} true true) × G t) m l (λ t g. (refl, g)) (λ t g. g.1)
most-where G false m l = most-none (λ t. (◌≡◌ {A = Bool} false true) × G t) (λ t g. cc g.0)

pub most-either : (G H : ℕ → Type 0) (a b : ℕ) → IsMost G a → IsMost H b → IsMost (λ t. G t ⊎ H t) (max a b)
most-either G H a b l m = record { above = λ t w. above t w; reached = by (max-either a b) l.reached m.reached }
  where
    above : (t : ℕ) → G t ⊎ H t → t ≤ max a b
    above t (inl g) = let le = l.above t g in let most = (max-bounds a b).0 in omega (arith, le, most)
    above t (inr h) = let le = m.above t h in let most = (max-bounds a b).1 in omega (arith, le, most)

    by : (max a b ≡ a) ⊎ (max a b ≡ b) → (a ≡ 0) ⊎ G a → (b ≡ 0) ⊎ H b → (max a b ≡ 0) ⊎ (G (max a b) ⊎ H (max a b))
    by (inl e) (inl none) other = inl (e ∙ none)
    by (inl e) (inr g) other = inr (inl (subst G (sym e) g))
    by (inr e) other (inl none) = inl (e ∙ none)
    by (inr e) other (inr h) = inr (inr (subst H (sym e) h))

-- that of one of the numbers below a limit
abbrev pub Under : (ℕ → ℕ → Type 0) → ℕ → ℕ → Type 0
Under G n t = (k : ℕ) × (k < n) × G k t

pub most-below : (G : ℕ → ℕ → Type 0) (f : ℕ → ℕ) (n : ℕ) → ((k : ℕ) → IsMost (G k) (f k)) → IsMost (Under G n) (greatest_below f n)
unfolding greatest_below
most-below G f zero l = most-none (Under G zero) (λ t w. let lt = w.1 in omega arith)
most-below G f (suc n) l =
    most-same (λ t. Under G n t ⊎ G n t) (Under G (suc n)) _ (most-either (Under G n) (G n) (greatest_below f n) (f n) (most-below G f n l) (l n))
    (λ t w. to t w) (λ t w. from t w)
  where
    to : (t : ℕ) → Under G n t ⊎ G n t → Under G (suc n) t
    to t (inl w) = let lt = w.1 in (w.0, omega arith, w.2)
    to t (inr g) = (n, omega arith, g)

    cut : (t : ℕ) (w : Under G (suc n) t) → (w.0 ≡ n) ⊎ (w.0 ≡ n → ⊥) → Under G n t ⊎ G n t
    cut t w (inl e) = inr (subst (λ (k : ℕ). G k t) e w.2)
    cut t w (inr ne) = let lt = w.1 in inl (w.0, omega arith, w.2)

    from : (t : ℕ) → Under G (suc n) t → Under G n t ⊎ G n t
    from t w = cut t w (cases_eq w.0 n)

-- and of one of those from a number on
pub most-from : (G : ℕ → ℕ → Type 0) (f : ℕ → ℕ) (from : ℕ) → ((k : ℕ) → IsMost (G k) (f k)) → (k : ℕ) → IsMost (λ t. (from ≤ k) × G k t) (if nat_le from k then f k else 0)
most-from G f from l k = by (nat_le from k) refl
  where
    by : (b : Bool) → nat_le from k ≡ b → IsMost (λ t. (from ≤ k) × G k t) (if b then f k else 0)
    by true e =
        let le : from ≤ k = grind (arith, nat_tests) in
        most-same (G k) (λ t. (from ≤ k) × G k t) (f k) (l k) (λ t g. (le, g)) (λ t g. g.1)
    by false e =
        let lt : k < from = grind (arith, nat_tests) in
        most-none (λ t. (from ≤ k) × G k t) (λ t w. let le = w.0 in omega arith)

-- that of one of the nodes of a list
abbrev pub OfOne : (NodeSpec → ℕ → Type 0) → List NodeSpec → ℕ → Type 0
OfOne G nodes t = (node : NodeSpec) × Contains nodes node × G node t

pub most-in : (G : NodeSpec → ℕ → Type 0) (f : NodeSpec → ℕ) (nodes : List NodeSpec) → ((n : NodeSpec) → IsMost (G n) (f n)) → IsMost (OfOne G nodes) (greatest_in f nodes)
unfolding greatest_in
most-in G f [] l = most-none (OfOne G []) (λ t w. let lt = w.1.1 in omega arith)
most-in G f (x ∷ xs) l =
    most-same (λ t. G x t ⊎ OfOne G xs t) (OfOne G (x ∷ xs)) _ (most-either (G x) (OfOne G xs) (f x) (greatest_in f xs) (l x) (most-in G f xs l))
    (λ t w. to t w) (λ t w. from t w.0 w.1.0 w.1.1 w.1.2 w.2)
  where
    to : (t : ℕ) → G x t ⊎ OfOne G xs t → OfOne G (x ∷ xs) t
    to t (inl w) = (x, (0, omega arith, refl), w)
    to t (inr w) = (w.0, (suc w.1.0, let lt = w.1.1 in omega arith, w.1.2), w.2)

    from : (t : ℕ) (y : NodeSpec) (k : ℕ) → k < length (x ∷ xs) → slice_index_or (x ∷ xs) k y ≡ y → G y t → G x t ⊎ OfOne G xs t
    from t y zero lt e w = inl (subst (λ (n : NodeSpec). G n t) (sym e) w)
    from t y (suc k) lt e w = inr (y, (k, omega arith, e), w)
