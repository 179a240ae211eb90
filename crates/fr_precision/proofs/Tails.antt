-- What is left of a receiver's way after an instant, and the sender's instant: over plain numbers.
use Rattle.std.proofs.Common.{◌≡◌, ℤ, pos, ap, sym, ◌∙◌, arith}
use Rattle.std.specs.Prelude.{neg_ℤ, ◌+ℤ◌, ◌-ℤ◌, ◌*ℤ◌, ◌≤ℤ◌, ◌<ℤ◌}
use Rattle.std.proofs.lemmas.Int.{ints, by_lt_z}
use Rattle.fr_base.specs.Within.{IsWithin}
use Rattle.fr_midpoint.proofs.Products.{addz-mulz, subz-mulz, lez_of_mulz-lez, mulz-lez, mulz-subz, mulz_comm, mulz_within, negz-mulz}
use Rattle.fr_time.specs.Position.{floor_of}
use Rattle.fr_time.proofs.Lines.{rest_of, OnLine}

-- a number whose multiple lies within a multiple of a bound lies within the bound
pub cancelled : (d bound parts : ℤ) → pos 0 <ℤ parts → IsWithin (bound *ℤ parts) (d *ℤ parts) → IsWithin bound d
cancelled d bound parts some near =
    let high = lez_of_mulz-lez d bound parts some near.high in
    let low = lez_of_mulz-lez (neg_ℤ d) bound parts some (other_sign (d *ℤ parts) (neg_ℤ d *ℤ parts) (bound *ℤ parts) (negz-mulz d parts) near) in
    turned d bound high low
  where
    other_sign : (x n b : ℤ) → n ≡ neg_ℤ x → IsWithin b x → n ≤ℤ b
    other_sign x n b is near = omega (arith, ints, near.low)

    turned : (d bound : ℤ) → d ≤ℤ bound → neg_ℤ d ≤ℤ bound → IsWithin bound d
    turned d bound h k = record { low = omega (arith, ints); high = omega (arith, ints) }

-- ---- two weighted means

three_within : (x y z a b c all : ℤ) → IsWithin a x → IsWithin b y → IsWithin c z → all ≡ (a +ℤ b) +ℤ c → IsWithin all ((x +ℤ y) +ℤ z)
three_within x y z a b c all h k i is = record {
  low = omega (arith, ints, h.low, k.low, i.low);
  high = omega (arith, ints, h.high, k.high, i.high);
}

scaled : (k x l : ℤ) → pos 0 ≤ℤ k → IsWithin l x → IsWithin (k *ℤ l) (k *ℤ x)
scaled k x l from near = mulz_within k x k l from (itself k) near
  where
    itself : (a : ℤ) → a ≤ℤ a
    itself a = omega (arith, ints)

-- three weights that make up a whole
weights : (a b c g l : ℤ) → (a +ℤ b) +ℤ c ≡ g → g *ℤ l ≡ ((a *ℤ l) +ℤ (b *ℤ l)) +ℤ (c *ℤ l)
weights a b c g l is = ap (λ x. x *ℤ l) (sym is) ∙ addz-mulz (a +ℤ b) c l ∙ ap (λ x. x +ℤ (c *ℤ l)) (addz-mulz a b l)

two_weights : (a b g l : ℤ) → a +ℤ b ≡ g → g *ℤ l ≡ (a *ℤ l) +ℤ (b *ℤ l)
two_weights a b g l is = ap (λ x. x *ℤ l) (sym is) ∙ addz-mulz a b l

less_first : (ga_i a_j gb_k b_m gb_i ba_i ba_m a_m x y z : ℤ) → x ≡ gb_i -ℤ gb_k → y ≡ ba_i -ℤ ba_m → z ≡ a_j -ℤ a_m → ga_i ≡ gb_i +ℤ ba_i → b_m ≡ ba_m +ℤ a_m
    → (ga_i +ℤ a_j) -ℤ (gb_k +ℤ b_m) ≡ (x +ℤ y) +ℤ z
less_first ga_i a_j gb_k b_m gb_i ba_i ba_m a_m x y z a b c d e = omega (arith, ints)

more_first : (ga_i a_j gb_k b_m ga_k ab_j ab_k b_j x y z : ℤ) → x ≡ ga_i -ℤ ga_k → y ≡ ab_j -ℤ ab_k → z ≡ b_j -ℤ b_m → gb_k ≡ ga_k +ℤ ab_k → a_j ≡ ab_j +ℤ b_j
    → (ga_i +ℤ a_j) -ℤ (gb_k +ℤ b_m) ≡ (x +ℤ y) +ℤ z
more_first ga_i a_j gb_k b_m ga_k ab_j ab_k b_j x y z a b c d e = omega (arith, ints)

same_within : (bound x y : ℤ) → x ≡ y → IsWithin bound y → IsWithin bound x
same_within bound x y is near = record { low = omega (arith, ints, near.low); high = omega (arith, ints, near.high) }

-- the mean of two lengths with weights that make up a whole differs from that of two others by no more than they do
pub weighted : (g a b l i j k m : ℤ) → pos 0 ≤ℤ a → a ≤ℤ g → pos 0 ≤ℤ b → b ≤ℤ g
    → IsWithin l (i -ℤ k) → IsWithin l (j -ℤ k) → IsWithin l (i -ℤ m) → IsWithin l (j -ℤ m)
    → IsWithin (g *ℤ l) ((((g -ℤ a) *ℤ i) +ℤ (a *ℤ j)) -ℤ (((g -ℤ b) *ℤ k) +ℤ (b *ℤ m)))
weighted g a b l i j k m a_from a_to b_from b_to ik jk im jm =
    by_lt_z a b
    (λ less.
    same_within (g *ℤ l) ((((g -ℤ a) *ℤ i) +ℤ (a *ℤ j)) -ℤ (((g -ℤ b) *ℤ k) +ℤ (b *ℤ m))) ((((g -ℤ b) *ℤ (i -ℤ k)) +ℤ ((b -ℤ a) *ℤ (i -ℤ m))) +ℤ (a *ℤ (j -ℤ m)))
    (
    less_first ((g -ℤ a) *ℤ i) (a *ℤ j) ((g -ℤ b) *ℤ k) (b *ℤ m) ((g -ℤ b) *ℤ i) ((b -ℤ a) *ℤ i) ((b -ℤ a) *ℤ m) (a *ℤ m) ((g -ℤ b) *ℤ (i -ℤ k)) ((b -ℤ a) *ℤ (i -ℤ m)) (a *ℤ (j -ℤ m))
    (mulz-subz i k (g -ℤ b)) (mulz-subz i m (b -ℤ a)) (mulz-subz j m a) (two_weights (g -ℤ b) (b -ℤ a) (g -ℤ a) i (whole g b a)) (two_weights (b -ℤ a) a b m (back b a))
    )
    (
    three_within ((g -ℤ b) *ℤ (i -ℤ k)) ((b -ℤ a) *ℤ (i -ℤ m)) (a *ℤ (j -ℤ m)) ((g -ℤ b) *ℤ l) ((b -ℤ a) *ℤ l) (a *ℤ l) (g *ℤ l)
    (scaled (g -ℤ b) (i -ℤ k) l (left g b b_to) ik) (scaled (b -ℤ a) (i -ℤ m) l (left b a (weaker a b less)) im) (scaled a (j -ℤ m) l a_from jm)
    (weights (g -ℤ b) (b -ℤ a) a g l (all g b a))
    ))
    (λ le.
    same_within (g *ℤ l) ((((g -ℤ a) *ℤ i) +ℤ (a *ℤ j)) -ℤ (((g -ℤ b) *ℤ k) +ℤ (b *ℤ m))) ((((g -ℤ a) *ℤ (i -ℤ k)) +ℤ ((a -ℤ b) *ℤ (j -ℤ k))) +ℤ (b *ℤ (j -ℤ m)))
    (
    more_first ((g -ℤ a) *ℤ i) (a *ℤ j) ((g -ℤ b) *ℤ k) (b *ℤ m) ((g -ℤ a) *ℤ k) ((a -ℤ b) *ℤ j) ((a -ℤ b) *ℤ k) (b *ℤ j) ((g -ℤ a) *ℤ (i -ℤ k)) ((a -ℤ b) *ℤ (j -ℤ k)) (b *ℤ (j -ℤ m))
    (mulz-subz i k (g -ℤ a)) (mulz-subz j k (a -ℤ b)) (mulz-subz j m b) (two_weights (g -ℤ a) (a -ℤ b) (g -ℤ b) k (whole g a b)) (two_weights (a -ℤ b) b a j (back a b))
    )
    (
    three_within ((g -ℤ a) *ℤ (i -ℤ k)) ((a -ℤ b) *ℤ (j -ℤ k)) (b *ℤ (j -ℤ m)) ((g -ℤ a) *ℤ l) ((a -ℤ b) *ℤ l) (b *ℤ l) (g *ℤ l)
    (scaled (g -ℤ a) (i -ℤ k) l (left g a a_to) ik) (scaled (a -ℤ b) (j -ℤ k) l (left a b le) jk) (scaled b (j -ℤ m) l b_from jm)
    (weights (g -ℤ a) (a -ℤ b) b g l (all g a b))
    ))
  where
    left : (a b : ℤ) → b ≤ℤ a → pos 0 ≤ℤ (a -ℤ b)
    left a b le = omega (arith, ints)

    weaker : (a b : ℤ) → a <ℤ b → a ≤ℤ b
    weaker a b less = omega (arith, ints)

    whole : (g a b : ℤ) → (g -ℤ a) +ℤ (a -ℤ b) ≡ g -ℤ b
    whole g a b = omega (arith, ints)

    back : (a b : ℤ) → (a -ℤ b) +ℤ b ≡ a
    back a b = omega (arith, ints)

    all : (g a b : ℤ) → ((g -ℤ a) +ℤ (a -ℤ b)) +ℤ b ≡ g
    all g a b = omega (arith, ints)

-- ---- tails

tail_sum : (sg lg xg yg tg ail ajl gal og less other_less gl : ℤ) → tg ≡ ((sg +ℤ lg) -ℤ xg) +ℤ yg → xg ≡ (sg +ℤ ail) -ℤ less → yg ≡ (og +ℤ ajl) -ℤ other_less → gal ≡ gl -ℤ ail → gl ≡ lg
    → tg ≡ ((og +ℤ (gal +ℤ ajl)) +ℤ less) -ℤ other_less
tail_sum sg lg xg yg tg ail ajl gal og less other_less gl a b c d e = omega (arith, ints)

-- what is left of a receiver's way after an instant, and the sender's instant, times the parts: the sender's start, and the
-- mean of both lengths with the macrotick's weights
tail_is : (start length unit other_start other_length other_unit macrotick parts most at other_at : ℤ)
    → (line : OnLine start length unit macrotick parts most at) → (other : OnLine other_start other_length other_unit macrotick parts most other_at)
    → (((start +ℤ length) -ℤ at) +ℤ other_at) *ℤ parts ≡ (((other_start *ℤ parts) +ℤ (((parts -ℤ macrotick) *ℤ length) +ℤ (macrotick *ℤ other_length))) +ℤ line.less) -ℤ other.less
tail_is start length unit other_start other_length other_unit macrotick parts most at other_at line other =
    tail_sum (start *ℤ parts) (length *ℤ parts) (at *ℤ parts) (other_at *ℤ parts) ((((start +ℤ length) -ℤ at) +ℤ other_at) *ℤ parts) (macrotick *ℤ length) (macrotick *ℤ other_length) ((parts -ℤ macrotick) *ℤ length)
    (other_start *ℤ parts) line.less other.less (parts *ℤ length)
    (
    addz-mulz ((start +ℤ length) -ℤ at) other_at parts
    ∙ ap (λ x. x +ℤ (other_at *ℤ parts)) (subz-mulz (start +ℤ length) at parts ∙ ap (λ x. x -ℤ (at *ℤ parts)) (addz-mulz start length parts))
    )
    line.is other.is (subz-mulz parts macrotick length) (mulz_comm parts length)

tails_sum : (d t t' o o' w w' sd e f e' f' sb gl lg bg mg mm most s2 : ℤ) → d ≡ t -ℤ t' → t ≡ ((o +ℤ w) +ℤ e) -ℤ f → t' ≡ ((o' +ℤ w') +ℤ e') -ℤ f' → sd ≡ o -ℤ o'
    → IsWithin sb sd → IsWithin gl (w -ℤ w') → gl ≡ lg → bg ≡ (sb +ℤ lg) +ℤ mm → mm ≡ mg +ℤ mg
    → pos 0 ≤ℤ e → e ≤ℤ (mg -ℤ most) → pos 0 ≤ℤ f → f ≤ℤ (mg -ℤ most) → pos 0 ≤ℤ e' → e' ≤ℤ (mg -ℤ most) → pos 0 ≤ℤ f' → f' ≤ℤ (mg -ℤ most) → pos 0 ≤ℤ most
    → IsWithin bg d
tails_sum d t t' o o' w w' sd e f e' f' sb gl lg bg mg mm most s2 a b c h k near i j l m1 m2 m3 m4 m5 m6 m7 m8 m9 = record {
  low = omega (arith, ints, k.low, near.low);
  high = omega (arith, ints, k.high, near.high);
}

scaled_back : (x s g : ℤ) → pos 0 <ℤ g → IsWithin s x → IsWithin (s *ℤ g) (x *ℤ g)
scaled_back x s g some near =
    let from : pos 0 ≤ℤ g = omega (arith, ints, some) in
    record {
      low = low (s *ℤ g) (neg_ℤ s *ℤ g) (x *ℤ g) (negz-mulz s g) (mulz-lez (neg_ℤ s) x g near.low from);
      high = mulz-lez x s g near.high from;
    }
  where
    low : (a n b : ℤ) → n ≡ neg_ℤ a → n ≤ℤ b → neg_ℤ a ≤ℤ b
    low a n b is le = omega (arith, ints)

-- two tails with their senders' instants, each by its own macrotick, lie no further apart than the senders' starts and one
-- length, and two microticks
pub tails_near :
    (start length unit sender_start sender_length sender_unit a at sender_at : ℤ)
    → (other_start other_length other_unit other_sender_start other_sender_length other_sender_unit b other_at other_sender_at : ℤ)
    → (parts most starts lengths : ℤ)
    → OnLine start length unit a parts most at → OnLine sender_start sender_length sender_unit a parts most sender_at
    → OnLine other_start other_length other_unit b parts most other_at → OnLine other_sender_start other_sender_length other_sender_unit b parts most other_sender_at
    → pos 0 <ℤ parts → pos 0 ≤ℤ most → pos 0 ≤ℤ a → a ≤ℤ parts → pos 0 ≤ℤ b → b ≤ℤ parts
    → IsWithin starts (sender_start -ℤ other_sender_start)
    → IsWithin lengths (length -ℤ other_length) → IsWithin lengths (sender_length -ℤ other_length) → IsWithin lengths (length -ℤ other_sender_length) → IsWithin lengths (sender_length -ℤ other_sender_length)
    → IsWithin ((starts +ℤ lengths) +ℤ (most +ℤ most)) ((((start +ℤ length) -ℤ at) +ℤ sender_at) -ℤ (((other_start +ℤ other_length) -ℤ other_at) +ℤ other_sender_at))
tails_near start length unit sender_start sender_length sender_unit a at sender_at other_start other_length other_unit other_sender_start other_sender_length other_sender_unit b other_at other_sender_at parts most starts lengths
    line sender_line other_line other_sender_line some m_from a_from a_to b_from b_to by_start ik jk im jm =
    let one = ((start +ℤ length) -ℤ at) +ℤ sender_at in
    let two = ((other_start +ℤ other_length) -ℤ other_at) +ℤ other_sender_at in
    let mean = ((parts -ℤ a) *ℤ length) +ℤ (a *ℤ sender_length) in
    let other_mean = ((parts -ℤ b) *ℤ other_length) +ℤ (b *ℤ other_sender_length) in
    cancelled (one -ℤ two) ((starts +ℤ lengths) +ℤ (most +ℤ most)) parts some
    (
    tails_sum ((one -ℤ two) *ℤ parts) (one *ℤ parts) (two *ℤ parts) (sender_start *ℤ parts) (other_sender_start *ℤ parts) mean other_mean ((sender_start -ℤ other_sender_start) *ℤ parts)
    line.less sender_line.less other_line.less other_sender_line.less (starts *ℤ parts) (parts *ℤ lengths) (lengths *ℤ parts) (((starts +ℤ lengths) +ℤ (most +ℤ most)) *ℤ parts) (most *ℤ parts) ((most +ℤ most) *ℤ parts) most (pos 0)
    (subz-mulz one two parts)
    (tail_is start length unit sender_start sender_length sender_unit a parts most at sender_at line sender_line)
    (tail_is other_start other_length other_unit other_sender_start other_sender_length other_sender_unit b parts most other_at other_sender_at other_line other_sender_line)
    (subz-mulz sender_start other_sender_start parts)
    (scaled_back (sender_start -ℤ other_sender_start) starts parts some by_start)
    (weighted parts a b lengths length sender_length other_length other_sender_length a_from a_to b_from b_to ik jk im jm)
    (mulz_comm parts lengths)
    (addz-mulz (starts +ℤ lengths) (most +ℤ most) parts ∙ ap (λ x. x +ℤ ((most +ℤ most) *ℤ parts)) (addz-mulz starts lengths parts))
    (addz-mulz most most parts)
    line.from line.to sender_line.from sender_line.to other_line.from other_line.to other_sender_line.from other_sender_line.to m_from
    )

-- ---- one tail and an end

-- the mean of two lengths differs from a third one by no more than both do
weighted_one : (g a l i j k : ℤ) → pos 0 ≤ℤ a → a ≤ℤ g → IsWithin l (i -ℤ k) → IsWithin l (j -ℤ k) → IsWithin (g *ℤ l) ((((g -ℤ a) *ℤ i) +ℤ (a *ℤ j)) -ℤ (g *ℤ k))
weighted_one g a l i j k from to ik jk =
    sum ((g -ℤ a) *ℤ i) (a *ℤ j) (g *ℤ k) ((g -ℤ a) *ℤ k) (a *ℤ k) ((g -ℤ a) *ℤ (i -ℤ k)) (a *ℤ (j -ℤ k)) ((g -ℤ a) *ℤ l) (a *ℤ l) (g *ℤ l)
    (two_weights (g -ℤ a) a g k (all g a)) (mulz-subz i k (g -ℤ a)) (mulz-subz j k a) (two_weights (g -ℤ a) a g l (all g a))
    (scaled (g -ℤ a) (i -ℤ k) l (left g a to) ik) (scaled a (j -ℤ k) l from jk)
  where
    all : (g a : ℤ) → (g -ℤ a) +ℤ a ≡ g
    all g a = omega (arith, ints)

    left : (a b : ℤ) → b ≤ℤ a → pos 0 ≤ℤ (a -ℤ b)
    left a b le = omega (arith, ints)

    sum : (ga_i a_j g_k ga_k a_k x y ga_l a_l g_l : ℤ) → g_k ≡ ga_k +ℤ a_k → x ≡ ga_i -ℤ ga_k → y ≡ a_j -ℤ a_k → g_l ≡ ga_l +ℤ a_l → IsWithin ga_l x → IsWithin a_l y → IsWithin g_l ((ga_i +ℤ a_j) -ℤ g_k)
    sum ga_i a_j g_k ga_k a_k x y ga_l a_l g_l a b c d h k = record { low = omega (arith, ints, h.low, k.low); high = omega (arith, ints, h.high, k.high) }

end_sum : (d t n o r w rl sd e f sb gl lg bg mg most : ℤ) → d ≡ t -ℤ n → t ≡ ((o +ℤ w) +ℤ e) -ℤ f → n ≡ r +ℤ rl → sd ≡ o -ℤ r → IsWithin sb sd → IsWithin gl (w -ℤ rl) → gl ≡ lg → bg ≡ (sb +ℤ lg) +ℤ mg
    → pos 0 ≤ℤ e → e ≤ℤ (mg -ℤ most) → pos 0 ≤ℤ f → f ≤ℤ (mg -ℤ most) → pos 0 ≤ℤ most → IsWithin bg d
end_sum d t n o r w rl sd e f sb gl lg bg mg most a b c h k near i j m1 m2 m3 m4 m5 = record {
  low = omega (arith, ints, k.low, near.low);
  high = omega (arith, ints, k.high, near.high);
}

-- a tail with its sender's instant lies no further from the end of another sender than the senders' starts and one length, and a
-- microtick
pub tail_near_end :
    (start length unit sender_start sender_length sender_unit a at sender_at other_start other_length parts most starts lengths : ℤ)
    → OnLine start length unit a parts most at → OnLine sender_start sender_length sender_unit a parts most sender_at
    → pos 0 <ℤ parts → pos 0 ≤ℤ most → pos 0 ≤ℤ a → a ≤ℤ parts
    → IsWithin starts (sender_start -ℤ other_start) → IsWithin lengths (length -ℤ other_length) → IsWithin lengths (sender_length -ℤ other_length)
    → IsWithin ((starts +ℤ lengths) +ℤ most) ((((start +ℤ length) -ℤ at) +ℤ sender_at) -ℤ (other_start +ℤ other_length))
tail_near_end start length unit sender_start sender_length sender_unit a at sender_at other_start other_length parts most starts lengths line sender_line some m_from a_from a_to by_start ik jk =
    let one = ((start +ℤ length) -ℤ at) +ℤ sender_at in
    let end = other_start +ℤ other_length in
    cancelled (one -ℤ end) ((starts +ℤ lengths) +ℤ most) parts some
    (
    end_sum ((one -ℤ end) *ℤ parts) (one *ℤ parts) (end *ℤ parts) (sender_start *ℤ parts) (other_start *ℤ parts) (((parts -ℤ a) *ℤ length) +ℤ (a *ℤ sender_length)) (parts *ℤ other_length) ((sender_start -ℤ other_start) *ℤ parts)
    line.less sender_line.less (starts *ℤ parts) (parts *ℤ lengths) (lengths *ℤ parts) (((starts +ℤ lengths) +ℤ most) *ℤ parts) (most *ℤ parts) most
    (subz-mulz one end parts)
    (tail_is start length unit sender_start sender_length sender_unit a parts most at sender_at line sender_line)
    (addz-mulz other_start other_length parts ∙ ap (λ x. (other_start *ℤ parts) +ℤ x) (mulz_comm other_length parts))
    (subz-mulz sender_start other_start parts)
    (scaled_back (sender_start -ℤ other_start) starts parts some by_start)
    (weighted_one parts a lengths length sender_length other_length a_from a_to ik jk)
    (mulz_comm parts lengths)
    (addz-mulz (starts +ℤ lengths) most parts ∙ ap (λ x. x +ℤ (most *ℤ parts)) (addz-mulz starts lengths parts))
    line.from line.to sender_line.from sender_line.to m_from
    )

-- ---- a share of a way

share_sum : (d x y s s' sd al al' ad e e' sb most mg lo fg bg g : ℤ) → d ≡ x -ℤ y → x ≡ (s +ℤ al) -ℤ e → y ≡ (s' +ℤ al') -ℤ e' → sd ≡ s -ℤ s' → ad ≡ al -ℤ al'
    → IsWithin sb sd → IsWithin lo ad → ((lo -ℤ fg) +ℤ pos 1) ≤ℤ g → bg ≡ (sb +ℤ fg) +ℤ mg → g ≤ℤ most
    → pos 0 ≤ℤ e → e ≤ℤ (mg -ℤ most) → pos 0 ≤ℤ e' → e' ≤ℤ (mg -ℤ most) → IsWithin bg d
share_sum d x y s s' sd al al' ad e e' sb most mg lo fg bg g a b c h i k near rest j le m1 m2 m3 m4 = record {
  low = omega (arith, ints, k.low, near.low);
  high = omega (arith, ints, k.high, near.high);
}

-- two instants on their ways lie no further apart than the starts, the share of the lengths of a macrotick from theirs on, and
-- a microtick, where that has no fewer ticks than there are parts
pub lines_share :
    (start other_start length other_length unit other_unit macrotick last parts most at other_at starts lengths : ℤ)
    → OnLine start length unit macrotick parts most at → OnLine other_start other_length other_unit macrotick parts most other_at
    → pos 0 <ℤ parts → parts ≤ℤ most → pos 0 ≤ℤ macrotick → macrotick ≤ℤ last
    → IsWithin starts (start -ℤ other_start) → IsWithin lengths (length -ℤ other_length)
    → IsWithin ((starts +ℤ floor_of (last *ℤ lengths) parts) +ℤ most) (at -ℤ other_at)
lines_share start other_start length other_length unit other_unit macrotick last parts most at other_at starts lengths line other some wide from to by_start by_length =
    let share = floor_of (last *ℤ lengths) parts in
    cancelled (at -ℤ other_at) ((starts +ℤ share) +ℤ most) parts some
    (
    share_sum ((at -ℤ other_at) *ℤ parts) (at *ℤ parts) (other_at *ℤ parts) (start *ℤ parts) (other_start *ℤ parts) ((start -ℤ other_start) *ℤ parts) (macrotick *ℤ length) (macrotick *ℤ other_length) (macrotick *ℤ (length -ℤ other_length))
    line.less other.less (starts *ℤ parts) most (most *ℤ parts) (last *ℤ lengths) (share *ℤ parts) (((starts +ℤ share) +ℤ most) *ℤ parts) parts
    (subz-mulz at other_at parts) line.is other.is (subz-mulz start other_start parts) (mulz-subz length other_length macrotick)
    (scaled_back (start -ℤ other_start) starts parts some by_start)
    (mulz_within macrotick (length -ℤ other_length) last lengths from to by_length)
    (rest_of (last *ℤ lengths) parts some).to
    (addz-mulz (starts +ℤ share) most parts ∙ ap (λ x. x +ℤ (most *ℤ parts)) (addz-mulz starts share parts))
    wide line.from line.to other.from other.to
    )
