-- Sums without carry of lists of bits.
use Rattle.std.proofs.Common.{◌≡◌, ℕ, ◌+◌, zero, suc, Bool, true, false, List, [], ◌∷◌, ◌++◌, length, refl, ap, sym, ◌∙◌, arith, length-append}
use Rattle.fr_crc.specs.Bits.{differ, xor, zeros, times_bit, mul}

pub differ-false : (a : Bool) → differ a false ≡ a
differ-false false = refl
differ-false true = refl

pub differ_self : (a : Bool) → differ a a ≡ false
differ_self false = refl
differ_self true = refl

pub differ_comm : (a b : Bool) → differ a b ≡ differ b a
differ_comm false false = refl
differ_comm false true = refl
differ_comm true false = refl
differ_comm true true = refl

pub differ_assoc : (a b c : Bool) → differ (differ a b) c ≡ differ a (differ b c)
differ_assoc false b c = refl
differ_assoc true false c = refl
differ_assoc true true false = refl
differ_assoc true true true = refl

pub xor-nil : (xs : List Bool) → xor xs [] ≡ []
xor-nil [] = refl
xor-nil (x ∷ xs) = refl

pub xor_comm : (xs ys : List Bool) → xor xs ys ≡ xor ys xs
xor_comm [] ys = sym (xor-nil ys)
xor_comm (x ∷ xs) [] = refl
xor_comm (x ∷ xs) (y ∷ ys) = rw (differ_comm x y, xor_comm xs ys)

pub xor_assoc : (xs ys zs : List Bool) → xor (xor xs ys) zs ≡ xor xs (xor ys zs)
xor_assoc [] ys zs = refl
xor_assoc (x ∷ xs) [] zs = refl
xor_assoc (x ∷ xs) (y ∷ ys) [] = refl
xor_assoc (x ∷ xs) (y ∷ ys) (z ∷ zs) = rw (differ_assoc x y z, xor_assoc xs ys zs)

pub length-xor : (xs ys : List Bool) → length xs ≡ length ys → length (xor xs ys) ≡ length ys
length-xor [] [] same = refl
length-xor [] (y ∷ ys) same = absurd (omega arith)
length-xor (x ∷ xs) [] same = absurd (omega arith)
length-xor (x ∷ xs) (y ∷ ys) same = ap suc (length-xor xs ys (omega arith))

pub length-zeros : (n : ℕ) → length (zeros n) ≡ n
length-zeros zero = refl
length-zeros (suc n) = ap suc (length-zeros n)

pub length-times_bit : (b : Bool) (g : List Bool) → length (times_bit b g) ≡ length g
length-times_bit false g = length-zeros (length g)
length-times_bit true g = refl

-- sums go place by place
pub xor-append : (xs ys us vs : List Bool) → length xs ≡ length ys → xor (xs ++ us) (ys ++ vs) ≡ xor xs ys ++ xor us vs
xor-append [] [] us vs same = refl
xor-append [] (y ∷ ys) us vs same = absurd (omega arith)
xor-append (x ∷ xs) [] us vs same = absurd (omega arith)
xor-append (x ∷ xs) (y ∷ ys) us vs same = let e : length xs ≡ length ys = omega arith in rw (xor-append xs ys us vs e)

pub xor-zeros : (n : ℕ) (xs : List Bool) → length xs ≡ n → xor (zeros n) xs ≡ xs
xor-zeros zero [] same = refl
xor-zeros zero (x ∷ xs) same = absurd (omega arith)
xor-zeros (suc n) [] same = absurd (omega arith)
xor-zeros (suc n) (x ∷ xs) same = let e : length xs ≡ n = omega arith in rw (xor-zeros n xs e)

-- what is added twice is gone
pub xor_twice : (xs ys : List Bool) → length xs ≡ length ys → xor xs (xor xs ys) ≡ ys
xor_twice [] [] same = refl
xor_twice [] (y ∷ ys) same = absurd (omega arith)
xor_twice (x ∷ xs) [] same = absurd (omega arith)
xor_twice (x ∷ xs) (y ∷ ys) same = let e : length xs ≡ length ys = omega arith in rw (sym (differ_assoc x x y), differ_self x, xor_twice xs ys e)

pub xor_cancel : (xs ys zs : List Bool) → length xs ≡ length ys → length xs ≡ length zs → xor xs ys ≡ xor xs zs → ys ≡ zs
xor_cancel xs ys zs first second same = sym (xor_twice xs ys first) ∙ ap (xor xs) same ∙ xor_twice xs zs second

-- the first step of a product with a generator
pub mul-cons : (c : Bool) (q g : List Bool) → mul (c ∷ q) (true ∷ g) ≡ c ∷ xor (times_bit c g ++ zeros (length q)) (mul q (true ∷ g))
mul-cons false q g = refl
mul-cons true q g = refl

pub length-mul : (q g : List Bool) → length (mul q (true ∷ g)) ≡ length q + length g
length-mul [] g = length-zeros (length g) ∙ omega arith
length-mul (c ∷ q) g =
    let part : length (times_bit c g ++ zeros (length q)) ≡ length (mul q (true ∷ g)) = rw (length-append, length-times_bit c g, length-zeros (length q), length-mul q g) (omega arith) in
    rw (mul-cons c q g) (omega (arith, length-xor (times_bit c g ++ zeros (length q)) (mul q (true ∷ g)) part, length-mul q g))
