-- Which differences of two lists of bits a register sees.
use Rattle.std.proofs.Common.{◌≡◌, ◌≢◌, ℕ, ◌+◌, ◌-◌, ◌<◌, ◌≤◌, zero, suc, Bool, true, false, not, ◌&&◌, List, [], ◌∷◌, ◌++◌, length, refl, ap, sym, ◌∙◌, append_assoc, arith, length-append}
use Rattle.std.proofs.lemmas.List.{append-nil}
use Rattle.std.proofs.lemmas.Bool.{and_parts}
use Rattle.fr_crc.specs.Bits.{differ, xor, zeros}
use Rattle.fr_crc.specs.Register.{register_stepped, after}
use Rattle.fr_crc.proofs.Sums.{xor_comm, xor-append, xor-zeros, xor_twice, length-xor, length-zeros}
use Rattle.fr_crc.proofs.Division.{length-stepped, after-append}
use Rattle.fr_damage.specs.Damage.{inverted, EndsInOne, has_odd_ones, DifferWithin}
use Rattle.fr_damage.proofs.Registers.{xor_self, xor_none, stepped-sum, after-sum, length-after, zeros_end, zeros_join, idle, feed, after_back, is_odd-zeros, is_odd-after}

-- a difference that leaves the register as it is
abbrev pub Unseen : List Bool → List Bool → Type 0
Unseen g e = after g (zeros (length g)) e ≡ zeros (length g)

-- ---- a window as narrow as the register
zeros_prefix : (b c : List Bool) (n : ℕ) → b ++ c ≡ zeros n → b ≡ zeros (length b)
zeros_prefix [] c n same = refl
zeros_prefix (x ∷ b) c zero same = absurd (cc)
zeros_prefix (x ∷ b) c (suc n) same =
    let first : x ≡ false = cc in
    let rest : b ++ c ≡ zeros n = cc in
    ap (λ (y : Bool). y ∷ b) first ∙ ap (λ (xs : List Bool). false ∷ xs) (zeros_prefix b c n rest)

narrow_is_seen : (g b : List Bool) → EndsInOne g → length b ≤ length g → Unseen g b → b ≡ zeros (length b)
narrow_is_seen g b ends narrow unseen =
    let k : ℕ = length g - length b in
    let none : List Bool = zeros (length g) in
    let none_long : length none ≡ length g = length-zeros (length g) in
    let r : List Bool = b ++ zeros k in
    let filled : k + length b ≡ length g = omega arith in
    let r_long : length r ≡ length g = length-append b (zeros k) ∙ ap (λ (n : ℕ). length b + n) (length-zeros k) ∙ omega arith in
    let fed : after g r b ≡ none = feed g b (zeros k) r_long ∙ zeros_join k (length b) ∙ ap zeros filled in
    let left : after g (xor r none) (xor b b) ≡ after g r (zeros (length b)) =
    ap (λ (s : List Bool). after g s (xor b b)) (xor_comm r none ∙ xor-zeros (length g) r r_long) ∙ ap (after g r) (xor_self b) in
    let right : xor (after g r b) (after g none b) ≡ none =
    ap (λ (s : List Bool). xor s (after g none b)) fed ∙ ap (xor none) unseen ∙ xor-zeros (length g) none none_long in
    let back : r ≡ none = after_back g r (length b) ends r_long (sym left ∙ after-sum g r none b b r_long none_long refl ∙ right) in
    zeros_prefix b (zeros k) (length g) back

-- what stands before is passed over
pub passed : (g e : List Bool) (a : ℕ) → Unseen g (zeros a ++ e) → Unseen g e
passed g e a unseen =
    let none : List Bool = zeros (length g) in
    sym (after-append g none (zeros a) e ∙ ap (λ (s : List Bool). after g s e) (idle g (length g) a refl)) ∙ unseen

pub window_is_seen : (g b : List Bool) (a c : ℕ) → EndsInOne g → length b ≤ length g → Unseen g (zeros a ++ (b ++ zeros c)) → b ≡ zeros (length b)
window_is_seen g b a c ends narrow unseen =
    let none : List Bool = zeros (length g) in
    let front : after g none b ≡ none =
    after_back g (after g none b) c ends (length-after g none b (length-zeros (length g))) (sym (after-append g none b (zeros c)) ∙ passed g (b ++ zeros c) a unseen) in
    narrow_is_seen g b ends narrow front

-- ---- one inverted bit
differ-not : (x y : Bool) → differ x (not y) ≡ not (differ x y)
differ-not false y = refl
differ-not true false = refl
differ-not true true = refl

pub inverted-xor : (p : ℕ) (m n : List Bool) → xor m (inverted p n) ≡ inverted p (xor m n)
inverted-xor zero [] n = refl
inverted-xor zero (x ∷ m) [] = refl
inverted-xor zero (x ∷ m) (y ∷ n) = ap (λ (b : Bool). b ∷ xor m n) (differ-not x y)
inverted-xor (suc p) [] n = refl
inverted-xor (suc p) (x ∷ m) [] = refl
inverted-xor (suc p) (x ∷ m) (y ∷ n) = ap (λ (xs : List Bool). differ x y ∷ xs) (inverted-xor p m n)

pub length-inverted : (p : ℕ) (m : List Bool) → length (inverted p m) ≡ length m
length-inverted zero [] = refl
length-inverted zero (x ∷ m) = refl
length-inverted (suc p) [] = refl
length-inverted (suc p) (x ∷ m) = ap suc (length-inverted p m)

inverted-zeros : (p n : ℕ) → p < n → (k : ℕ) × (inverted p (zeros n) ≡ zeros p ++ (true ∷ zeros k))
inverted-zeros p zero below = absurd (omega arith)
inverted-zeros zero (suc n) below = (n, refl)
inverted-zeros (suc p) (suc n) below =
    let found : (k : ℕ) × (inverted p (zeros n) ≡ zeros p ++ (true ∷ zeros k)) = inverted-zeros p n (omega arith) in
    (found.0, ap (λ (xs : List Bool). false ∷ xs) found.1)

pub one_difference : (p : ℕ) (m : List Bool) → xor m (inverted p m) ≡ inverted p (zeros (length m))
one_difference p m = inverted-xor p m m ∙ ap (inverted p) (xor_self m)

pub not_empty : (g : List Bool) → EndsInOne g → 1 ≤ length g
not_empty [] ends = absurd (cc)
not_empty (x ∷ g) ends = omega arith

pub one_is_seen : (g : List Bool) (p n : ℕ) → EndsInOne g → p < n → Unseen g (inverted p (zeros n)) → ⊥
one_is_seen g p n ends below unseen =
    let found : (k : ℕ) × (inverted p (zeros n) ≡ zeros p ++ (true ∷ zeros k)) = inverted-zeros p n below in
    let there : Unseen g (zeros p ++ (true ∷ zeros found.0)) = sym (ap (after g (zeros (length g))) found.1) ∙ unseen in
    let none : true ∷ [] ≡ false ∷ [] = window_is_seen g (true ∷ []) p found.0 ends (not_empty g ends) there in
    absurd (cc)

-- ---- two inverted bits
pub one_stepped : (g : List Bool) → register_stepped g (zeros (length g)) true ≡ g
one_stepped [] = refl
one_stepped (x ∷ g) =
    ap (λ (xs : List Bool). xor xs (x ∷ g)) (zeros_end (length g)) ∙ xor-zeros (suc (length g)) (x ∷ g) refl

two_zeros : (i d j n : ℕ) → j ≡ i + suc d → j < n → (c : ℕ) × (inverted i (inverted j (zeros n)) ≡ zeros i ++ (true ∷ (zeros d ++ (true ∷ zeros c))))
two_zeros i d j zero far below = absurd (omega arith)
two_zeros i d zero (suc n) far below = absurd (omega arith)
two_zeros zero d (suc j) (suc n) far below =
    let same : j ≡ d = omega arith in
    let found : (k : ℕ) × (inverted j (zeros n) ≡ zeros j ++ (true ∷ zeros k)) = inverted-zeros j n (omega arith) in
    (found.0, ap (λ (xs : List Bool). true ∷ xs) (found.1 ∙ ap (λ (x : ℕ). zeros x ++ (true ∷ zeros found.0)) same))
two_zeros (suc i) d (suc j) (suc n) far below =
    let found : (c : ℕ) × (inverted i (inverted j (zeros n)) ≡ zeros i ++ (true ∷ (zeros d ++ (true ∷ zeros c)))) = two_zeros i d j n (omega arith) (omega arith) in
    (found.0, ap (λ (xs : List Bool). false ∷ xs) found.1)

-- a one is a zero and the generator
true_step : (g r : List Bool) → length r ≡ length g → register_stepped g r true ≡ xor (register_stepped g r false) g
true_step g r long =
    let none : List Bool = zeros (length g) in
    sym (ap (λ (s : List Bool). register_stepped g s true) (xor_comm r none ∙ xor-zeros (length g) r long))
    ∙ stepped-sum g r none false true (long ∙ sym (length-zeros (length g)))
    ∙ ap (xor (register_stepped g r false)) (one_stepped g)

one_more_zero : (g s : List Bool) (d : ℕ) → after g s (zeros (suc d)) ≡ register_stepped g (after g s (zeros d)) false
one_more_zero g s d = ap (after g s) (sym (zeros_end d)) ∙ after-append g s (zeros d) (false ∷ [])

-- two ones that are not seen bring the register back to the generator
pub two_return : (g : List Bool) (i d c : ℕ) → EndsInOne g → Unseen g (zeros i ++ (true ∷ (zeros d ++ (true ∷ zeros c)))) → after g g (zeros (suc d)) ≡ g
two_return g i d c ends unseen =
    let none : List Bool = zeros (length g) in
    let tail : List Bool = true ∷ zeros c in
    let r : List Bool = after g g (zeros d) in
    let r_long : length r ≡ length g = length-after g g (zeros d) refl in
    let begun : after g g (zeros d ++ tail) ≡ none =
    sym (ap (λ (s : List Bool). after g s (zeros d ++ tail)) (one_stepped g)) ∙ passed g (true ∷ (zeros d ++ tail)) i unseen in
    let ended : register_stepped g r true ≡ none =
    after_back g (register_stepped g r true) c ends (length-stepped g r true r_long) (sym (after-append g g (zeros d) tail) ∙ begun) in
    one_more_zero g g d ∙ xor_none (register_stepped g r false) g (length-stepped g r false r_long) (sym (true_step g r r_long) ∙ ended)

-- and where it comes back they are not seen
pub two_unseen : (g : List Bool) (i d n : ℕ) → after g g (zeros (suc d)) ≡ g → i + suc d < n → Unseen g (inverted i (inverted (i + suc d) (zeros n)))
two_unseen g i d n back below =
    let none : List Bool = zeros (length g) in
    let found : (c : ℕ) × (inverted i (inverted (i + suc d) (zeros n)) ≡ zeros i ++ (true ∷ (zeros d ++ (true ∷ zeros c)))) = two_zeros i d (i + suc d) n refl below in
    let tail : List Bool = true ∷ zeros found.0 in
    let r : List Bool = after g g (zeros d) in
    let r_long : length r ≡ length g = length-after g g (zeros d) refl in
    let ended : register_stepped g r true ≡ none =
    true_step g r r_long ∙ ap (λ (s : List Bool). xor s g) (sym (one_more_zero g g d) ∙ back) ∙ xor_self g in
    ap (after g none) found.1
    ∙ after-append g none (zeros i) (true ∷ (zeros d ++ tail))
    ∙ ap (λ (s : List Bool). after g s (true ∷ (zeros d ++ tail))) (idle g (length g) i refl)
    ∙ ap (λ (s : List Bool). after g s (zeros d ++ tail)) (one_stepped g)
    ∙ after-append g g (zeros d) tail
    ∙ ap (λ (s : List Bool). after g s (zeros found.0)) ended
    ∙ idle g (length g) found.0 refl

-- whether two lists of bits are the same
abbrev pub same_bits : List Bool → List Bool → Bool
same_bits [] [] = true
same_bits [] (y ∷ ys) = false
same_bits (x ∷ xs) [] = false
same_bits (x ∷ xs) (y ∷ ys) = not (differ x y) && same_bits xs ys

same_bits-self : (xs : List Bool) → same_bits xs xs ≡ true
same_bits-self [] = refl
same_bits-self (false ∷ xs) = same_bits-self xs
same_bits-self (true ∷ xs) = same_bits-self xs

-- whether the register is another than the generator, now and after each of so many zeros less one
abbrev pub stays_away : ℕ → List Bool → List Bool → Bool
stays_away zero g r = true
stays_away (suc n) g r = not (same_bits r g) && stays_away n g (register_stepped g r false)

pub away : (n : ℕ) (g r : List Bool) → stays_away n g r ≡ true → (i : ℕ) → i < n → after g r (zeros i) ≡ g → ⊥
away zero g r is i below same = absurd (omega arith)
away (suc n) g r is zero below same =
    let parts : (not (same_bits r g) ≡ true) × (stays_away n g (register_stepped g r false) ≡ true) = and_parts (not (same_bits r g)) (stays_away n g (register_stepped g r false)) is in
    let told : same_bits r g ≡ true = ap (λ (xs : List Bool). same_bits xs g) same ∙ same_bits-self g in
    let both : true ≡ false = sym parts.0 ∙ ap not told in
    absurd (cc)
away (suc n) g r is (suc i) below same =
    let parts : (not (same_bits r g) ≡ true) × (stays_away n g (register_stepped g r false) ≡ true) = and_parts (not (same_bits r g)) (stays_away n g (register_stepped g r false)) is in
    away n g (register_stepped g r false) parts.1 i (omega arith) same

-- so two inverted bits are seen, so many places apart at most
pub two_are_seen : (g : List Bool) (most i d n : ℕ) → EndsInOne g → stays_away most g (register_stepped g g false) ≡ true →
    1 ≤ d → d ≤ most → i + d < n → Unseen g (inverted i (inverted (i + d) (zeros n))) → ⊥
two_are_seen g most i zero n ends is some near below unseen = absurd (omega arith)
two_are_seen g most i (suc d) n ends is some near below unseen =
    let found : (c : ℕ) × (inverted i (inverted (i + suc d) (zeros n)) ≡ zeros i ++ (true ∷ (zeros d ++ (true ∷ zeros c)))) = two_zeros i d (i + suc d) n refl below in
    let there : Unseen g (zeros i ++ (true ∷ (zeros d ++ (true ∷ zeros found.0)))) = sym (ap (after g (zeros (length g))) found.1) ∙ unseen in
    away most g (register_stepped g g false) is d (omega arith) (two_return g i d found.0 ends there)

pub two_difference : (i j : ℕ) (m : List Bool) → xor m (inverted i (inverted j m)) ≡ inverted i (inverted j (zeros (length m)))
two_difference i j m = inverted-xor i m (inverted j m) ∙ ap (inverted i) (one_difference j m)

-- ---- an odd number of inverted bits
pub odd_is_seen : (g e : List Bool) → has_odd_ones g ≡ true → has_odd_ones e ≡ true → Unseen g e → ⊥
odd_is_seen g e odd some unseen =
    let none : List Bool = zeros (length g) in
    let even : has_odd_ones none ≡ false = is_odd-zeros (length g) in
    let parity : has_odd_ones (after g none e) ≡ differ (has_odd_ones none) (has_odd_ones e) = is_odd-after g none e odd (length-zeros (length g)) in
    let both : true ≡ false = sym (parity ∙ ap (λ (b : Bool). differ b (has_odd_ones e)) even ∙ some) ∙ ap has_odd_ones unseen ∙ even in
    absurd (cc)

-- ---- a burst: zeros, at most so many bits that are not all zeros, zeros
pub record IsBurst (width : ℕ) (e : List Bool) : Type 0 where
  pub skipped : ℕ
  pub window : List Bool
  pub left : ℕ
  pub is : e ≡ zeros skipped ++ (window ++ zeros left)
  pub narrow : length window ≤ width
  pub some : window ≢ zeros (length window)

pub burst_is_seen : (g e : List Bool) → EndsInOne g → IsBurst (length g) e → Unseen g e → ⊥
burst_is_seen g e ends burst unseen =
    burst.some (window_is_seen g burst.window burst.skipped burst.left ends burst.narrow (sym (ap (after g (zeros (length g))) burst.is) ∙ unseen))

pub burst_difference : (w : ℕ) (m n : List Bool) → DifferWithin w m n → IsBurst w (xor m n)
burst_difference w m n d =
    let before : List Bool = d.before in
    let window : List Bool = xor d.middle d.other in
    let window_long : length window ≡ length d.other = length-xor d.middle d.other d.long in
    let fronts : length (before ++ d.middle) ≡ length (before ++ d.other) = simp length-append (omega (arith, d.long)) in
    let parts : xor (before ++ d.middle ++ d.behind) (before ++ d.other ++ d.behind) ≡ xor before before ++ window ++ xor d.behind d.behind =
    xor-append (before ++ d.middle) (before ++ d.other) d.behind d.behind fronts
    ∙ ap (λ (xs : List Bool). xs ++ xor d.behind d.behind) (xor-append before before d.middle d.other refl) in
    let whole : xor m n ≡ zeros (length before) ++ (window ++ zeros (length d.behind)) =
    ap (λ (xs : List Bool). xor xs n) d.first_is
    ∙ ap (xor (before ++ d.middle ++ d.behind)) d.second_is
    ∙ parts
    ∙ ap (λ (xs : List Bool). xs ++ window ++ xor d.behind d.behind) (xor_self before)
    ∙ ap (λ (xs : List Bool). zeros (length before) ++ window ++ xs) (xor_self d.behind)
    ∙ append_assoc (zeros (length before)) window (zeros (length d.behind)) in
    record {
      skipped = length before;
      window = window;
      left = length d.behind;
      is = whole;
      narrow = omega (arith, window_long, d.long, d.narrow);
      some = λ (none : window ≡ zeros (length window)). d.differs (xor_none d.middle d.other d.long (none ∙ ap zeros window_long));
    }

pub burst_long : (w : ℕ) (m n : List Bool) → DifferWithin w m n → length m ≡ length n
burst_long w m n d = ap length d.first_is ∙ simp length-append (omega (arith, d.long)) ∙ sym (ap length d.second_is)

-- one bit wider than the register there is a burst that it does not see: the generator with its first bit
pub generator_unseen : (g : List Bool) (a c : ℕ) → Unseen g (zeros a ++ ((true ∷ g) ++ zeros c))
generator_unseen g a c =
    let none : List Bool = zeros (length g) in
    let whole : length (g ++ []) ≡ length g = ap length (append-nil g) in
    let fed : after g g g ≡ none = sym (ap (λ (s : List Bool). after g s g) (append-nil g)) ∙ feed g g [] whole in
    after-append g none (zeros a) ((true ∷ g) ++ zeros c)
    ∙ ap (λ (s : List Bool). after g s ((true ∷ g) ++ zeros c)) (idle g (length g) a refl)
    ∙ ap (λ (s : List Bool). after g s (g ++ zeros c)) (one_stepped g)
    ∙ after-append g g g (zeros c)
    ∙ ap (λ (s : List Bool). after g s (zeros c)) fed
    ∙ idle g (length g) c refl

pub window_difference : (before middle pattern behind : List Bool) → length middle ≡ length pattern →
    xor (before ++ middle ++ behind) (before ++ xor middle pattern ++ behind) ≡ zeros (length before) ++ (pattern ++ zeros (length behind))
window_difference before middle pattern behind same =
    let other : List Bool = xor middle pattern in
    let long : length middle ≡ length other = same ∙ sym (length-xor middle pattern same) in
    let fronts : length (before ++ middle) ≡ length (before ++ other) = simp length-append (omega (arith, long)) in
    xor-append (before ++ middle) (before ++ other) behind behind fronts
    ∙ ap (λ (xs : List Bool). xs ++ xor behind behind) (xor-append before before middle other refl)
    ∙ ap (λ (xs : List Bool). xs ++ xor middle other ++ xor behind behind) (xor_self before)
    ∙ ap (λ (xs : List Bool). zeros (length before) ++ xs ++ xor behind behind) (xor_twice middle pattern same)
    ∙ ap (λ (xs : List Bool). zeros (length before) ++ pattern ++ xs) (xor_self behind)
    ∙ append_assoc (zeros (length before)) pattern (zeros (length behind))
