-- The register of a sum, and what it takes to come to zeros.
use Rattle.std.proofs.Common.{◌≡◌, ℕ, ◌+◌, zero, suc, Bool, true, false, List, [], ◌∷◌, ◌++◌, length, refl, ap, sym, ◌∙◌, append_assoc, arith, length-append}
use Rattle.std.proofs.lemmas.List.{append-nil}
use Rattle.fr_crc.specs.Bits.{differ, xor, zeros, times_bit}
use Rattle.fr_crc.specs.Register.{register_stepped, after}
use Rattle.fr_crc.proofs.Sums.{differ-false, differ_self, differ_comm, differ_assoc, xor_comm, xor_assoc, xor-append, xor-zeros, xor_twice, length-zeros, length-times_bit}
use Rattle.fr_crc.proofs.Division.{length-stepped, zeros_after}
use Rattle.fr_damage.specs.Damage.{last_after, EndsInOne, has_odd_ones}

-- ---- sums
pub xor_self : (xs : List Bool) → xor xs xs ≡ zeros (length xs)
xor_self [] = refl
xor_self (x ∷ xs) = rw (differ_self x, xor_self xs)

-- a sum is nothing only of equal lists
pub xor_none : (xs ys : List Bool) → length xs ≡ length ys → xor xs ys ≡ zeros (length ys) → xs ≡ ys
xor_none xs ys same none =
    sym (sym (xor_twice xs ys same) ∙ ap (xor xs) none ∙ xor_comm xs (zeros (length ys)) ∙ xor-zeros (length ys) xs same)

xor_middle : (a b c d : List Bool) → xor (xor a b) (xor c d) ≡ xor (xor a c) (xor b d)
xor_middle a b c d =
    let inner : xor b (xor c d) ≡ xor c (xor b d) = sym (xor_assoc b c d) ∙ ap (λ (xs : List Bool). xor xs d) (xor_comm b c) ∙ xor_assoc c b d in
    xor_assoc a b (xor c d) ∙ ap (xor a) inner ∙ sym (xor_assoc a c (xor b d))

differ_middle : (a b c d : Bool) → differ (differ a b) (differ c d) ≡ differ (differ a c) (differ b d)
differ_middle a b c d =
    let inner : differ b (differ c d) ≡ differ c (differ b d) = sym (differ_assoc b c d) ∙ ap (λ (x : Bool). differ x d) (differ_comm b c) ∙ differ_assoc c b d in
    differ_assoc a b (differ c d) ∙ ap (differ a) inner ∙ sym (differ_assoc a c (differ b d))

times-differ : (p q : Bool) (g : List Bool) → times_bit (differ p q) g ≡ xor (times_bit p g) (times_bit q g)
times-differ false q g = sym (xor-zeros (length g) (times_bit q g) (length-times_bit q g))
times-differ true false g = sym (xor_comm g (zeros (length g)) ∙ xor-zeros (length g) g refl)
times-differ true true g = sym (xor_self g)

-- ---- the register of a sum is the sum of the registers
pub stepped-sum : (g s t : List Bool) (x y : Bool) → length s ≡ length t →
    register_stepped g (xor s t) (differ x y) ≡ xor (register_stepped g s x) (register_stepped g t y)
stepped-sum g [] t x y same = refl
stepped-sum g (a ∷ s) [] x y same = absurd (omega arith)
stepped-sum g (a ∷ s) (b ∷ t) x y same =
    let one : List Bool = false ∷ [] in
    let tails : length s ≡ length t = omega arith in
    let moved : xor s t ++ one ≡ xor (s ++ one) (t ++ one) = sym (xor-append s t one one tails) in
    let due : Bool = differ (differ a b) (differ x y) in
    let taken : times_bit due g ≡ xor (times_bit (differ a x) g) (times_bit (differ b y) g) =
    ap (λ (z : Bool). times_bit z g) (differ_middle a b x y) ∙ times-differ (differ a x) (differ b y) g in
    ap (λ (xs : List Bool). xor xs (times_bit due g)) moved
    ∙ ap (xor (xor (s ++ one) (t ++ one))) taken
    ∙ xor_middle (s ++ one) (t ++ one) (times_bit (differ a x) g) (times_bit (differ b y) g)

pub after-sum : (g s t m n : List Bool) → length s ≡ length g → length t ≡ length g → length m ≡ length n →
    after g (xor s t) (xor m n) ≡ xor (after g s m) (after g t n)
after-sum g s t [] [] s_long t_long same = refl
after-sum g s t [] (y ∷ n) s_long t_long same = absurd (omega arith)
after-sum g s t (x ∷ m) [] s_long t_long same = absurd (omega arith)
after-sum g s t (x ∷ m) (y ∷ n) s_long t_long same =
    ap (λ (r : List Bool). after g r (xor m n)) (stepped-sum g s t x y (s_long ∙ sym t_long))
    ∙ after-sum g (register_stepped g s x) (register_stepped g t y) m n (length-stepped g s x s_long) (length-stepped g t y t_long) (omega arith)

pub length-after : (g s m : List Bool) → length s ≡ length g → length (after g s m) ≡ length g
length-after g s [] same = same
length-after g s (b ∷ m) same = length-after g (register_stepped g s b) m (length-stepped g s b same)

-- ---- zeros
pub zeros_end : (k : ℕ) → zeros k ++ false ∷ [] ≡ zeros (suc k)
zeros_end zero = refl
zeros_end (suc k) = ap (λ (xs : List Bool). false ∷ xs) (zeros_end k)

pub zeros_join : (j k : ℕ) → zeros j ++ zeros k ≡ zeros (j + k)
zeros_join zero k = ap zeros (omega arith)
zeros_join (suc j) k =
    let more : suc j + k ≡ suc (j + k) = omega arith in
    ap (λ (xs : List Bool). false ∷ xs) (zeros_join j k) ∙ sym (ap zeros more)

-- nothing moved is nothing
idle_step : (g : List Bool) (k : ℕ) → length g ≡ k → register_stepped g (zeros k) false ≡ zeros k
idle_step g zero long = refl
idle_step g (suc k) long =
    let e : length (zeros k ++ false ∷ []) ≡ length g = simp (length-append, length-zeros) (omega arith) in
    xor_comm (zeros k ++ false ∷ []) (zeros (length g)) ∙ xor-zeros (length g) (zeros k ++ false ∷ []) e ∙ zeros_end k

pub idle : (g : List Bool) (k n : ℕ) → length g ≡ k → after g (zeros k) (zeros n) ≡ zeros k
idle g k zero long = refl
idle g k (suc n) long = ap (λ (r : List Bool). after g r (zeros n)) (idle_step g k long) ∙ idle g k n long

-- the first bits of the register, sent, move it and add nothing
pub feed : (g b rest : List Bool) → length (b ++ rest) ≡ length g → after g (b ++ rest) b ≡ rest ++ zeros (length b)
feed g [] rest long = sym (append-nil rest)
feed g (x ∷ b) rest long =
    let one : List Bool = false ∷ [] in
    let all : List Bool = (b ++ rest) ++ one in
    let all_long : length all ≡ length g = rw length-append (omega (arith, long)) in
    let none : times_bit (differ x x) g ≡ zeros (length g) = ap (λ (z : Bool). times_bit z g) (differ_self x) in
    let step : register_stepped g (x ∷ (b ++ rest)) x ≡ b ++ (rest ++ one) =
    ap (xor all) none ∙ xor_comm all (zeros (length g)) ∙ xor-zeros (length g) all all_long ∙ append_assoc b rest one in
    let next_long : length (b ++ (rest ++ one)) ≡ length g = sym (ap length (append_assoc b rest one)) ∙ all_long in
    ap (λ (r : List Bool). after g r b) step ∙ feed g b (rest ++ one) next_long ∙ sym (zeros_after rest (length b))

-- ---- a register that is not nothing stays so, where the generator's last bit is 1
last-moved : (b : Bool) (s : List Bool) → last_after b (s ++ false ∷ []) ≡ false
last-moved b [] = refl
last-moved b (c ∷ s) = last-moved c s

zeros_front : (s : List Bool) → s ++ false ∷ [] ≡ zeros (suc (length s)) → s ≡ zeros (length s)
zeros_front [] same = refl
zeros_front (x ∷ s) same =
    let first : x ≡ false = cc in
    let rest : s ++ false ∷ [] ≡ zeros (suc (length s)) = cc in
    ap (λ (y : Bool). y ∷ s) first ∙ ap (λ (xs : List Bool). false ∷ xs) (zeros_front s rest)

step_back : (g s : List Bool) → EndsInOne g → length s ≡ length g → register_stepped g s false ≡ zeros (length g) → s ≡ zeros (length g)
step_back g [] ends long none = none
step_back g (false ∷ s) ends long none =
    let moved : List Bool = s ++ false ∷ [] in
    let moved_long : length moved ≡ length g = rw length-append (omega (arith, long)) in
    let count : suc (length s) ≡ length g = long in
    let all : moved ≡ zeros (suc (length s)) =
    sym (xor_comm moved (zeros (length g)) ∙ xor-zeros (length g) moved moved_long) ∙ none ∙ sym (ap zeros count) in
    ap (λ (xs : List Bool). false ∷ xs) (zeros_front s all) ∙ ap zeros count
step_back g (true ∷ s) ends long none =
    let moved : List Bool = s ++ false ∷ [] in
    let moved_long : length moved ≡ length g = rw length-append (omega (arith, long)) in
    let is : moved ≡ g = xor_none moved g moved_long none in
    let odd : true ≡ false = sym ends ∙ sym (ap (last_after false) is) ∙ last-moved false s in
    absurd (cc)

pub after_back : (g s : List Bool) (n : ℕ) → EndsInOne g → length s ≡ length g → after g s (zeros n) ≡ zeros (length g) → s ≡ zeros (length g)
after_back g s zero ends long none = none
after_back g s (suc n) ends long none =
    step_back g s ends long (after_back g (register_stepped g s false) n ends (length-stepped g s false long) none)

-- ---- the parity of the register
is_odd-xor : (xs ys : List Bool) → length xs ≡ length ys → has_odd_ones (xor xs ys) ≡ differ (has_odd_ones xs) (has_odd_ones ys)
is_odd-xor [] [] same = refl
is_odd-xor [] (y ∷ ys) same = absurd (omega arith)
is_odd-xor (x ∷ xs) [] same = absurd (omega arith)
is_odd-xor (x ∷ xs) (y ∷ ys) same = ap (differ (differ x y)) (is_odd-xor xs ys (omega arith)) ∙ differ_middle x y (has_odd_ones xs) (has_odd_ones ys)

pub is_odd-zeros : (n : ℕ) → has_odd_ones (zeros n) ≡ false
is_odd-zeros zero = refl
is_odd-zeros (suc n) = is_odd-zeros n

is_odd-end : (s : List Bool) → has_odd_ones (s ++ false ∷ []) ≡ has_odd_ones s
is_odd-end [] = refl
is_odd-end (x ∷ s) = ap (differ x) (is_odd-end s)

is_odd-times : (b : Bool) (g : List Bool) → has_odd_ones g ≡ true → has_odd_ones (times_bit b g) ≡ b
is_odd-times false g odd = is_odd-zeros (length g)
is_odd-times true g odd = odd

is_odd-stepped : (g s : List Bool) (b : Bool) → has_odd_ones g ≡ true → length s ≡ length g → has_odd_ones (register_stepped g s b) ≡ differ (has_odd_ones s) b
is_odd-stepped g [] b odd long = absurd (nothing g odd long)
  where
    nothing : (xs : List Bool) → has_odd_ones xs ≡ true → 0 ≡ length xs → ⊥
    nothing [] odd none = cc
    nothing (x ∷ xs) odd none = omega arith
is_odd-stepped g (t ∷ s) b odd long =
    let one : List Bool = false ∷ [] in
    let e : length (s ++ one) ≡ length (times_bit (differ t b) g) = rw (length-append, length-times_bit (differ t b) g) (omega (arith, long)) in
    is_odd-xor (s ++ one) (times_bit (differ t b) g) e
    ∙ ap (λ (x : Bool). differ x (has_odd_ones (times_bit (differ t b) g))) (is_odd-end s)
    ∙ ap (differ (has_odd_ones s)) (is_odd-times (differ t b) g odd)
    ∙ sym (differ_assoc (has_odd_ones s) t b)
    ∙ ap (λ (x : Bool). differ x b) (differ_comm (has_odd_ones s) t)

pub is_odd-after : (g s m : List Bool) → has_odd_ones g ≡ true → length s ≡ length g → has_odd_ones (after g s m) ≡ differ (has_odd_ones s) (has_odd_ones m)
is_odd-after g s [] odd long = sym (differ-false (has_odd_ones s))
is_odd-after g s (b ∷ m) odd long =
    is_odd-after g (register_stepped g s b) m odd (length-stepped g s b long)
    ∙ ap (λ (x : Bool). differ x (has_odd_ones m)) (is_odd-stepped g s b odd long)
    ∙ differ_assoc (has_odd_ones s) b (has_odd_ones m)
