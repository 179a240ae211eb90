-- Instants that lie evenly between two points, rounded down to microticks: over plain numbers.
use Rattle.std.proofs.Common.{◌≡◌, ℕ, ◌+◌, ◌*◌, ◌/◌, ◌%◌, ◌<◌, ℤ, pos, negsuc, ap, sym, ◌∙◌, arith}
use Rattle.std.specs.Prelude.{neg_ℤ, ◌+ℤ◌, ◌-ℤ◌, ◌*ℤ◌, ◌≤ℤ◌, ◌<ℤ◌}
use Rattle.std.proofs.lemmas.Int.{ints}
use Rattle.std.proofs.Math.Nat.{div-add-mod', mod-lt}
use Rattle.fr_base.specs.Within.{IsWithin}
use Rattle.fr_midpoint.proofs.Products.{addz-mulz, subz-mulz, lez_of_mulz-lez, mulz-subz, mulz_assoc, mulz_comm, mulz-lez, mulz-lez_left, mulz_from, mulz_within, negz-mulz}
use Rattle.fr_time.specs.Position.{floor_of}

-- what a quotient rounded down leaves
pub record Rest (n d : ℤ) : Type 0 where
  pub from : pos 0 ≤ℤ (n -ℤ (floor_of n d *ℤ d))
  pub to : ((n -ℤ (floor_of n d *ℤ d)) +ℤ pos 1) ≤ℤ d

rest_natural : (n : ℤ) (k : ℕ) → 0 < k → Rest n (pos k)
rest_natural (pos a) k some =
    let whole : a / k * k + a % k ≡ a = div-add-mod' a k in
    let less : a % k < k = mod-lt a some in
    record { from = omega (arith, ints, whole, less); to = omega (arith, ints, whole, less) }
rest_natural (negsuc a) k some =
    let whole : a / k * k + a % k ≡ a = div-add-mod' a k in
    let less : a % k < k = mod-lt a some in
    record { from = omega (arith, ints, whole, less); to = omega (arith, ints, whole, less) }

pub rest_of : (n d : ℤ) → pos 0 <ℤ d → Rest n d
rest_of n (pos k) some = rest_natural n k (omega (arith, ints))
rest_of n (negsuc k) some = absurd (omega (arith, ints))

-- an instant on the way from a start over so many microticks, at so many parts of them: where it lies, times the parts
pub record OnLine (start length unit macrotick parts most at : ℤ) : Type 0 where
  pub less : ℤ
  pub is : at *ℤ parts ≡ ((start *ℤ parts) +ℤ (macrotick *ℤ length)) -ℤ less
  pub from : pos 0 ≤ℤ less
  pub to : less ≤ℤ ((most *ℤ parts) -ℤ most)

pub on_line : (start unit macrotick micros parts most : ℤ) → pos 0 <ℤ parts → pos 0 <ℤ unit → unit ≤ℤ most
    → OnLine start (micros *ℤ unit) unit macrotick parts most (start +ℤ (floor_of (macrotick *ℤ micros) parts *ℤ unit))
on_line start unit macrotick micros parts most some lasts short =
    let f = floor_of (macrotick *ℤ micros) parts in
    let rest = rest_of (macrotick *ℤ micros) parts some in
    let left = (macrotick *ℤ micros) -ℤ (f *ℤ parts) in
    let turned : (f *ℤ unit) *ℤ parts ≡ (f *ℤ parts) *ℤ unit =
    mulz_assoc f unit parts ∙ ap (λ x. f *ℤ x) (mulz_comm unit parts) ∙ sym (mulz_assoc f parts unit) in
    let apart : left *ℤ unit ≡ ((macrotick *ℤ micros) *ℤ unit) -ℤ ((f *ℤ parts) *ℤ unit) = subz-mulz (macrotick *ℤ micros) (f *ℤ parts) unit in
    let regrouped : (macrotick *ℤ micros) *ℤ unit ≡ macrotick *ℤ (micros *ℤ unit) = mulz_assoc macrotick micros unit in
    let whole : (start +ℤ (f *ℤ unit)) *ℤ parts ≡ (start *ℤ parts) +ℤ ((f *ℤ unit) *ℤ parts) = addz-mulz start (f *ℤ unit) parts in
    let u_from : pos 0 ≤ℤ unit = omega (arith, ints, lasts) in
    let m_from : pos 0 ≤ℤ most = omega (arith, ints, lasts, short) in
    let under : (left *ℤ unit) ≤ℤ ((parts -ℤ pos 1) *ℤ unit) = mulz-lez left (parts -ℤ pos 1) unit (last_part left parts rest.to) u_from in
    let wider : ((parts -ℤ pos 1) *ℤ unit) ≤ℤ ((parts -ℤ pos 1) *ℤ most) = mulz-lez_left unit most (parts -ℤ pos 1) short (less_one parts some) in
    let spread : (parts -ℤ pos 1) *ℤ most ≡ (parts *ℤ most) -ℤ (pos 1 *ℤ most) = subz-mulz parts (pos 1) most in
    record {
      less = left *ℤ unit;
      is = sum ((start +ℤ (f *ℤ unit)) *ℤ parts) (start *ℤ parts) ((f *ℤ unit) *ℤ parts) ((f *ℤ parts) *ℤ unit) ((macrotick *ℤ micros) *ℤ unit) (macrotick *ℤ (micros *ℤ unit)) (left *ℤ unit) whole turned apart regrouped;
      from = mulz_from left unit rest.from u_from;
      to = bound (left *ℤ unit) ((parts -ℤ pos 1) *ℤ unit) ((parts -ℤ pos 1) *ℤ most) (parts *ℤ most) (most *ℤ parts) (pos 1 *ℤ most) most under wider spread (mulz_comm parts most) (one_times most);
    }
  where
    one_times : (t : ℤ) → pos 1 *ℤ t ≡ t
    one_times t = omega (arith, ints)

    last_part : (x d : ℤ) → (x +ℤ pos 1) ≤ℤ d → x ≤ℤ (d -ℤ pos 1)
    last_part x d h = omega (arith, ints)

    less_one : (d : ℤ) → pos 0 <ℤ d → pos 0 ≤ℤ (d -ℤ pos 1)
    less_one d h = omega (arith, ints)

    sum : (x s fup fpu mmu mmu' l : ℤ) → x ≡ s +ℤ fup → fup ≡ fpu → l ≡ mmu -ℤ fpu → mmu ≡ mmu' → x ≡ (s +ℤ mmu') -ℤ l
    sum x s fup fpu mmu mmu' l a b c d = omega (arith, ints)

    bound : (l a b c c' o m : ℤ) → l ≤ℤ a → a ≤ℤ b → b ≡ c -ℤ o → c ≡ c' → o ≡ m → l ≤ℤ (c' -ℤ m)
    bound l a b c c' o m h k e g i = omega (arith, ints)

-- a number whose multiple lies within a multiple of a bound and less than one more lies within the bound
cancelled : (d bound parts : ℤ) → pos 0 <ℤ parts → (d *ℤ parts) ≤ℤ (bound *ℤ parts) → (neg_ℤ d *ℤ parts) ≤ℤ (bound *ℤ parts) → IsWithin bound d
cancelled d bound parts some up down =
    let high = lez_of_mulz-lez d bound parts some up in
    let low = lez_of_mulz-lez (neg_ℤ d) bound parts some down in
    turned d bound high low
  where
    turned : (d bound : ℤ) → d ≤ℤ bound → neg_ℤ d ≤ℤ bound → IsWithin bound d
    turned d bound h k = record { low = omega (arith, ints); high = omega (arith, ints) }

-- two instants on their ways lie no further apart than starts and lengths, and a microtick
pub lines_near :
    (start other_start length other_length unit other_unit macrotick parts most at other_at starts lengths : ℤ)
    → OnLine start length unit macrotick parts most at → OnLine other_start other_length other_unit macrotick parts most other_at
    → pos 0 <ℤ parts → pos 0 ≤ℤ most → pos 0 ≤ℤ macrotick → macrotick ≤ℤ parts
    → IsWithin starts (start -ℤ other_start) → IsWithin lengths (length -ℤ other_length)
    → IsWithin (starts +ℤ lengths +ℤ most) (at -ℤ other_at)
lines_near start other_start length other_length unit other_unit macrotick parts most at other_at starts lengths line other some m_from from to by_start by_length =
    let g_from : pos 0 ≤ℤ parts = omega (arith, ints, some) in
    let by_starts : ((start -ℤ other_start) *ℤ parts) ≤ℤ (starts *ℤ parts) = mulz-lez (start -ℤ other_start) starts parts by_start.high g_from in
    let by_starts_low : (neg_ℤ starts *ℤ parts) ≤ℤ ((start -ℤ other_start) *ℤ parts) = mulz-lez (neg_ℤ starts) (start -ℤ other_start) parts by_start.low g_from in
    let by_lengths : IsWithin (parts *ℤ lengths) (macrotick *ℤ (length -ℤ other_length)) = mulz_within macrotick (length -ℤ other_length) parts lengths from to by_length in
    let sides =
    both (at *ℤ parts) (other_at *ℤ parts) (start *ℤ parts) (other_start *ℤ parts) ((start -ℤ other_start) *ℤ parts) (starts *ℤ parts) (neg_ℤ starts *ℤ parts)
    (macrotick *ℤ length) (macrotick *ℤ other_length) (macrotick *ℤ (length -ℤ other_length)) (parts *ℤ lengths) (lengths *ℤ parts) line.less other.less (most *ℤ parts) most
    line.is other.is (subz-mulz start other_start parts) (negz-mulz starts parts) (mulz-subz length other_length macrotick) (mulz_comm parts lengths)
    line.from line.to other.from other.to m_from by_starts by_starts_low by_lengths in
    let apart = subz-mulz at other_at parts in
    let wide = addz-mulz (starts +ℤ lengths) most parts in
    let wider = addz-mulz starts lengths parts in
    cancelled (at -ℤ other_at) (starts +ℤ lengths +ℤ most) parts some
    (up ((at -ℤ other_at) *ℤ parts) (at *ℤ parts) (other_at *ℤ parts) ((starts +ℤ lengths +ℤ most) *ℤ parts) ((starts +ℤ lengths) *ℤ parts) (starts *ℤ parts) (lengths *ℤ parts) (most *ℤ parts) apart wide wider sides.0)
    (down ((at -ℤ other_at) *ℤ parts) (neg_ℤ (at -ℤ other_at) *ℤ parts) (at *ℤ parts) (other_at *ℤ parts) ((starts +ℤ lengths +ℤ most) *ℤ parts) ((starts +ℤ lengths) *ℤ parts) (starts *ℤ parts) (lengths *ℤ parts) (most *ℤ parts) apart (negz-mulz (at -ℤ other_at) parts) wide wider sides.1)
  where
    both :
        (x y s s' d p p' l l' dl gl lg k k' qg q : ℤ)
        → x ≡ (s +ℤ l) -ℤ k → y ≡ (s' +ℤ l') -ℤ k' → d ≡ s -ℤ s' → p' ≡ neg_ℤ p → dl ≡ l -ℤ l' → gl ≡ lg
        → pos 0 ≤ℤ k → k ≤ℤ (qg -ℤ q) → pos 0 ≤ℤ k' → k' ≤ℤ (qg -ℤ q) → pos 0 ≤ℤ q → d ≤ℤ p → p' ≤ℤ d → IsWithin gl dl
        → ((x -ℤ y) ≤ℤ (p +ℤ lg +ℤ qg)) × ((y -ℤ x) ≤ℤ (p +ℤ lg +ℤ qg))
    both x y s s' d p p' l l' dl gl lg k k' qg q a b c e f g h i j m n o r w =
        let lo = w.low in
        let hi = w.high in
        (upper x y s s' d p l l' dl gl lg k k' qg q a b c f g h i j m n o hi, lower x y s s' d p p' l l' dl gl lg k k' qg q a b c e f g h i j m n r lo)
      where
        upper :
            (x y s s' d p l l' dl gl lg k k' qg q : ℤ)
            → x ≡ (s +ℤ l) -ℤ k → y ≡ (s' +ℤ l') -ℤ k' → d ≡ s -ℤ s' → dl ≡ l -ℤ l' → gl ≡ lg
            → pos 0 ≤ℤ k → k ≤ℤ (qg -ℤ q) → pos 0 ≤ℤ k' → k' ≤ℤ (qg -ℤ q) → pos 0 ≤ℤ q → d ≤ℤ p → dl ≤ℤ gl
            → (x -ℤ y) ≤ℤ (p +ℤ lg +ℤ qg)
        upper x y s s' d p l l' dl gl lg k k' qg q a b c f g h i j m n o hi = omega (arith, ints)

        lower :
            (x y s s' d p p' l l' dl gl lg k k' qg q : ℤ)
            → x ≡ (s +ℤ l) -ℤ k → y ≡ (s' +ℤ l') -ℤ k' → d ≡ s -ℤ s' → p' ≡ neg_ℤ p → dl ≡ l -ℤ l' → gl ≡ lg
            → pos 0 ≤ℤ k → k ≤ℤ (qg -ℤ q) → pos 0 ≤ℤ k' → k' ≤ℤ (qg -ℤ q) → pos 0 ≤ℤ q → p' ≤ℤ d → neg_ℤ gl ≤ℤ dl
            → (y -ℤ x) ≤ℤ (p +ℤ lg +ℤ qg)
        lower x y s s' d p p' l l' dl gl lg k k' qg q a b c e f g h i j m n r lo = omega (arith, ints)

    up : (d x y w sl s l q : ℤ) → d ≡ x -ℤ y → w ≡ sl +ℤ q → sl ≡ s +ℤ l → (x -ℤ y) ≤ℤ (s +ℤ l +ℤ q) → d ≤ℤ w
    up d x y w sl s l q a b c le = omega (arith, ints)

    down : (d n x y w sl s l q : ℤ) → d ≡ x -ℤ y → n ≡ neg_ℤ d → w ≡ sl +ℤ q → sl ≡ s +ℤ l → (y -ℤ x) ≤ℤ (s +ℤ l +ℤ q) → n ≤ℤ w
    down d n x y w sl s l q a e b c le = omega (arith, ints)

-- two instants on lines whose starts and ends lie near each other lie as near, and a microtick
pub lines_between :
    (start other_start length other_length unit other_unit macrotick parts most at other_at bound : ℤ)
    → OnLine start length unit macrotick parts most at → OnLine other_start other_length other_unit macrotick parts most other_at
    → pos 0 <ℤ parts → pos 0 ≤ℤ most → pos 0 ≤ℤ macrotick → macrotick ≤ℤ parts
    → IsWithin bound (start -ℤ other_start) → IsWithin bound ((start +ℤ length) -ℤ (other_start +ℤ other_length))
    → IsWithin (bound +ℤ most) (at -ℤ other_at)
lines_between start other_start length other_length unit other_unit macrotick parts most at other_at bound line other some m_from from to by_start by_end =
    let starts = start -ℤ other_start in
    let ends = (start +ℤ length) -ℤ (other_start +ℤ other_length) in
    let rest_from : pos 0 ≤ℤ (parts -ℤ macrotick) = omega (arith, ints, to) in
    let early : IsWithin ((parts -ℤ macrotick) *ℤ bound) ((parts -ℤ macrotick) *ℤ starts) = mulz_within (parts -ℤ macrotick) starts (parts -ℤ macrotick) bound rest_from (itself (parts -ℤ macrotick)) by_start in
    let late : IsWithin (macrotick *ℤ bound) (macrotick *ℤ ends) = mulz_within macrotick ends macrotick bound from (itself macrotick) by_end in
    let lengths : macrotick *ℤ (length -ℤ other_length) ≡ (macrotick *ℤ ends) -ℤ (macrotick *ℤ starts) =
    ap (λ x. macrotick *ℤ x) (difference start other_start length other_length) ∙ mulz-subz ends starts macrotick in
    let sides =
    both (at *ℤ parts) (other_at *ℤ parts) (start *ℤ parts) (other_start *ℤ parts) (starts *ℤ parts) (parts *ℤ starts) (macrotick *ℤ starts) ((parts -ℤ macrotick) *ℤ starts)
    (macrotick *ℤ length) (macrotick *ℤ other_length) (macrotick *ℤ (length -ℤ other_length)) (macrotick *ℤ ends)
    ((parts -ℤ macrotick) *ℤ bound) (parts *ℤ bound) (macrotick *ℤ bound) (bound *ℤ parts) line.less other.less (most *ℤ parts) most
    line.is other.is (subz-mulz start other_start parts) (mulz_comm starts parts) (subz-mulz parts macrotick starts) (mulz-subz length other_length macrotick) lengths
    (subz-mulz parts macrotick bound) (mulz_comm parts bound)
    line.from line.to other.from other.to m_from early late in
    cancelled (at -ℤ other_at) (bound +ℤ most) parts some
    (up ((at -ℤ other_at) *ℤ parts) (at *ℤ parts) (other_at *ℤ parts) ((bound +ℤ most) *ℤ parts) (bound *ℤ parts) (most *ℤ parts) (subz-mulz at other_at parts) (addz-mulz bound most parts) sides.0)
    (down ((at -ℤ other_at) *ℤ parts) (neg_ℤ (at -ℤ other_at) *ℤ parts) (at *ℤ parts) (other_at *ℤ parts) ((bound +ℤ most) *ℤ parts) (bound *ℤ parts) (most *ℤ parts) (subz-mulz at other_at parts) (negz-mulz (at -ℤ other_at) parts) (addz-mulz bound most parts) sides.1)
  where
    itself : (a : ℤ) → a ≤ℤ a
    itself a = omega (arith, ints)

    difference : (s s' l l' : ℤ) → l -ℤ l' ≡ ((s +ℤ l) -ℤ (s' +ℤ l')) -ℤ (s -ℤ s')
    difference s s' l l' = omega (arith, ints)

    both :
        (x y s s' d d' hd rd l l' dl he rb gb hb bg k k' qg q : ℤ)
        → x ≡ (s +ℤ l) -ℤ k → y ≡ (s' +ℤ l') -ℤ k' → d ≡ s -ℤ s' → d ≡ d' → rd ≡ d' -ℤ hd → dl ≡ l -ℤ l' → dl ≡ he -ℤ hd
        → rb ≡ gb -ℤ hb → gb ≡ bg
        → pos 0 ≤ℤ k → k ≤ℤ (qg -ℤ q) → pos 0 ≤ℤ k' → k' ≤ℤ (qg -ℤ q) → pos 0 ≤ℤ q → IsWithin rb rd → IsWithin hb he
        → ((x -ℤ y) ≤ℤ (bg +ℤ qg)) × ((y -ℤ x) ≤ℤ (bg +ℤ qg))
    both x y s s' d d' hd rd l l' dl he rb gb hb bg k k' qg q a b c e f g h i j k0 k1 k2 k3 q0 v w =
        let gap : x -ℤ y ≡ ((rd +ℤ he) -ℤ k) +ℤ k' = omega (arith, ints, a, b, c, e, f, g, h) in
        let sum : rb +ℤ hb ≡ bg = omega (arith, ints, i, j) in
        (upper x y rd he rb hb bg k k' qg q gap sum k0 k3 q0 v.high w.high, lower x y rd he rb hb bg k k' qg q gap sum k1 k2 q0 v.low w.low)
      where
        upper : (x y rd he rb hb bg k k' qg q : ℤ) → x -ℤ y ≡ ((rd +ℤ he) -ℤ k) +ℤ k' → rb +ℤ hb ≡ bg → pos 0 ≤ℤ k → k' ≤ℤ (qg -ℤ q) → pos 0 ≤ℤ q → rd ≤ℤ rb → he ≤ℤ hb → (x -ℤ y) ≤ℤ (bg +ℤ qg)
        upper x y rd he rb hb bg k k' qg q a b c d e f g = omega (arith, ints)

        lower : (x y rd he rb hb bg k k' qg q : ℤ) → x -ℤ y ≡ ((rd +ℤ he) -ℤ k) +ℤ k' → rb +ℤ hb ≡ bg → k ≤ℤ (qg -ℤ q) → pos 0 ≤ℤ k' → pos 0 ≤ℤ q → neg_ℤ rb ≤ℤ rd → neg_ℤ hb ≤ℤ he → (y -ℤ x) ≤ℤ (bg +ℤ qg)
        lower x y rd he rb hb bg k k' qg q a b c d e f g = omega (arith, ints)

    up : (d x y w b q : ℤ) → d ≡ x -ℤ y → w ≡ b +ℤ q → (x -ℤ y) ≤ℤ (b +ℤ q) → d ≤ℤ w
    up d x y w b q a c le = omega (arith, ints)

    down : (d n x y w b q : ℤ) → d ≡ x -ℤ y → n ≡ neg_ℤ d → w ≡ b +ℤ q → (y -ℤ x) ≤ℤ (b +ℤ q) → n ≤ℤ w
    down d n x y w b q a e c le = omega (arith, ints)

-- what is left of two ways after two instants differs by no more than their lengths, and a microtick
pub lines_end :
    (start other_start length other_length unit other_unit macrotick parts most at other_at lengths : ℤ)
    → OnLine start length unit macrotick parts most at → OnLine other_start other_length other_unit macrotick parts most other_at
    → pos 0 <ℤ parts → pos 0 ≤ℤ most → pos 0 ≤ℤ macrotick → macrotick ≤ℤ parts
    → IsWithin lengths (length -ℤ other_length)
    → IsWithin (lengths +ℤ most) (((start +ℤ length) -ℤ at) -ℤ ((other_start +ℤ other_length) -ℤ other_at))
lines_end start other_start length other_length unit other_unit macrotick parts most at other_at lengths line other some m_from from to by_length =
    let rest_from : pos 0 ≤ℤ (parts -ℤ macrotick) = omega (arith, ints, to) in
    let rest_to : (parts -ℤ macrotick) ≤ℤ parts = omega (arith, ints, from) in
    let rest : IsWithin (parts *ℤ lengths) ((parts -ℤ macrotick) *ℤ (length -ℤ other_length)) = mulz_within (parts -ℤ macrotick) (length -ℤ other_length) parts lengths rest_from rest_to by_length in
    let one = (start +ℤ length) -ℤ at in
    let two = (other_start +ℤ other_length) -ℤ other_at in
    let gap = one -ℤ two in
    let one_is : one *ℤ parts ≡ ((start *ℤ parts) +ℤ (length *ℤ parts)) -ℤ (at *ℤ parts) = subz-mulz (start +ℤ length) at parts ∙ ap (λ x. x -ℤ (at *ℤ parts)) (addz-mulz start length parts) in
    let two_is : two *ℤ parts ≡ ((other_start *ℤ parts) +ℤ (other_length *ℤ parts)) -ℤ (other_at *ℤ parts) = subz-mulz (other_start +ℤ other_length) other_at parts ∙ ap (λ x. x -ℤ (other_at *ℤ parts)) (addz-mulz other_start other_length parts) in
    let spread : (parts -ℤ macrotick) *ℤ (length -ℤ other_length) ≡ ((length *ℤ parts) -ℤ (other_length *ℤ parts)) -ℤ ((macrotick *ℤ length) -ℤ (macrotick *ℤ other_length)) =
    shared (length -ℤ other_length) parts macrotick ∙ joined ((length -ℤ other_length) *ℤ parts) (macrotick *ℤ (length -ℤ other_length)) (length *ℤ parts) (other_length *ℤ parts) (macrotick *ℤ length) (macrotick *ℤ other_length) (subz-mulz length other_length parts) (mulz-subz length other_length macrotick) in
    let sides =
    both (one *ℤ parts) (two *ℤ parts) (start *ℤ parts) (other_start *ℤ parts) (length *ℤ parts) (other_length *ℤ parts) (at *ℤ parts) (other_at *ℤ parts) (macrotick *ℤ length) (macrotick *ℤ other_length)
    ((parts -ℤ macrotick) *ℤ (length -ℤ other_length)) (parts *ℤ lengths) (lengths *ℤ parts) line.less other.less (most *ℤ parts) most
    one_is two_is line.is other.is spread (mulz_comm parts lengths) line.from line.to other.from other.to m_from rest in
    cancelled gap (lengths +ℤ most) parts some
    (up (gap *ℤ parts) (one *ℤ parts) (two *ℤ parts) ((lengths +ℤ most) *ℤ parts) (lengths *ℤ parts) (most *ℤ parts) (subz-mulz one two parts) (addz-mulz lengths most parts) sides.0)
    (down (gap *ℤ parts) (neg_ℤ gap *ℤ parts) (one *ℤ parts) (two *ℤ parts) ((lengths +ℤ most) *ℤ parts) (lengths *ℤ parts) (most *ℤ parts) (subz-mulz one two parts) (negz-mulz gap parts) (addz-mulz lengths most parts) sides.1)
  where
    shared : (x g m : ℤ) → (g -ℤ m) *ℤ x ≡ (x *ℤ g) -ℤ (m *ℤ x)
    shared x g m = subz-mulz g m x ∙ ap (λ y. y -ℤ (m *ℤ x)) (mulz_comm g x)

    joined : (xg mx lg lg' ml ml' : ℤ) → xg ≡ lg -ℤ lg' → mx ≡ ml -ℤ ml' → xg -ℤ mx ≡ (lg -ℤ lg') -ℤ (ml -ℤ ml')
    joined xg mx lg lg' ml ml' a b = omega (arith, ints)

    both :
        (x y s s' lg lg' a a' ml ml' r gl bl k k' qg q : ℤ)
        → x ≡ (s +ℤ lg) -ℤ a → y ≡ (s' +ℤ lg') -ℤ a' → a ≡ (s +ℤ ml) -ℤ k → a' ≡ (s' +ℤ ml') -ℤ k' → r ≡ (lg -ℤ lg') -ℤ (ml -ℤ ml') → gl ≡ bl
        → pos 0 ≤ℤ k → k ≤ℤ (qg -ℤ q) → pos 0 ≤ℤ k' → k' ≤ℤ (qg -ℤ q) → pos 0 ≤ℤ q → IsWithin gl r
        → ((x -ℤ y) ≤ℤ (bl +ℤ qg)) × ((y -ℤ x) ≤ℤ (bl +ℤ qg))
    both x y s s' lg lg' a a' ml ml' r gl bl k k' qg q e f g h i j k0 k1 k2 k3 q0 w =
        let gap : x -ℤ y ≡ (r +ℤ k) -ℤ k' = omega (arith, ints, e, f, g, h, i) in
        (upper x y r gl bl k k' qg q gap j k1 k2 q0 w.high, lower x y r gl bl k k' qg q gap j k0 k3 q0 w.low)
      where
        upper : (x y r gl bl k k' qg q : ℤ) → x -ℤ y ≡ (r +ℤ k) -ℤ k' → gl ≡ bl → k ≤ℤ (qg -ℤ q) → pos 0 ≤ℤ k' → pos 0 ≤ℤ q → r ≤ℤ gl → (x -ℤ y) ≤ℤ (bl +ℤ qg)
        upper x y r gl bl k k' qg q a b c d e f = omega (arith, ints)

        lower : (x y r gl bl k k' qg q : ℤ) → x -ℤ y ≡ (r +ℤ k) -ℤ k' → gl ≡ bl → pos 0 ≤ℤ k → k' ≤ℤ (qg -ℤ q) → pos 0 ≤ℤ q → neg_ℤ gl ≤ℤ r → (y -ℤ x) ≤ℤ (bl +ℤ qg)
        lower x y r gl bl k k' qg q a b c d e f = omega (arith, ints)

    up : (d x y w b q : ℤ) → d ≡ x -ℤ y → w ≡ b +ℤ q → (x -ℤ y) ≤ℤ (b +ℤ q) → d ≤ℤ w
    up d x y w b q a c le = omega (arith, ints)

    down : (d n x y w b q : ℤ) → d ≡ x -ℤ y → n ≡ neg_ℤ d → w ≡ b +ℤ q → (y -ℤ x) ≤ℤ (b +ℤ q) → n ≤ℤ w
    down d n x y w b q a e c le = omega (arith, ints)
