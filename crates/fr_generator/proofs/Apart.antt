-- Links and chances of different places are different.
use Rattle.std.proofs.Common.{◌≡◌, ◌≢◌, ◌<◌, ◌≤◌, ◌+◌, ℕ, Bool, true, false, Some, ap, sym, ◌∙◌, refl, arith}
use Rattle.std.specs.Prelude.{◌==◌, ◌&&◌, ◌/◌, ◌%◌, nat_lt, if◌then◌else◌}
use Rattle.std.proofs.lemmas.Bool.Decides.{nat_tests}
use Rattle.fr_base.specs.declared.channel.Channel.{Channel}
use Rattle.fr_base.specs.declared.channel.Channel.TheVariants as channel
use Rattle.fr_text.specs.Fields.{is_channel}
use Rattle.fr_generator.specs.Places.{beside, channel_at}

pub untrue : (b : Bool) → (b ≡ true → ⊥) → b ≡ false
untrue true h = absurd (h refl)
untrue false h = refl

pub both-first : (a b : Bool) → (a && b) ≡ true → a ≡ true
both-first true b h = refl
both-first false b h = h

pub both-second : (a b : Bool) → (a && b) ≡ true → b ≡ true
both-second true b h = h
both-second false b h = cc h

pub same : (a b : ℕ) → (a == b) ≡ true → a ≡ b
same a b h = grind (arith, nat_tests)

pub other : (a b : ℕ) → a ≢ b → (a == b) ≡ false
other a b h = grind (arith, nat_tests)

less : (a b : ℕ) → nat_lt a b ≡ true → a < b
less a b h = grind (arith, nat_tests)

not-less : (a b : ℕ) → nat_lt a b ≡ false → b ≤ a
not-less a b h = grind (arith, nat_tests)

choice : Bool → Channel
choice b = if b then channel.A else channel.B

same-choice : (a b : Bool) → is_channel (choice a) (Some (choice b)) ≡ true → a ≡ b
unfolding choice
same-choice true true h = refl
same-choice true false h = cc h
same-choice false true h = cc h
same-choice false false h = refl

zeros : (m n : ℕ) → m < 2 → n < 2 → (m == 0) ≡ (n == 0) → m ≡ n
zeros m n a b h = by (m == 0) refl (n == 0) refl
  where
    by : (x : Bool) → (m == 0) ≡ x → (y : Bool) → (n == 0) ≡ y → m ≡ n
    by true e true f = same m 0 e ∙ sym (same n 0 f)
    by true e false f = let clash : true ≡ false = sym e ∙ h ∙ f in cc clash
    by false e true f = let clash : false ≡ true = sym e ∙ h ∙ f in cc clash
    by false e false f =
        let some : m ≢ 0 = λ is. let clash : false ≡ true = sym e ∙ ap (λ (k : ℕ). k == 0) is in cc clash in
        let more : n ≢ 0 = λ is. let clash : false ≡ true = sym f ∙ ap (λ (k : ℕ). k == 0) is in cc clash in
        omega arith

pub channels : (m n : ℕ) → is_channel (channel_at m) (Some (channel_at n)) ≡ true → m % 2 ≡ n % 2
unfolding choice
channels m n h = zeros (m % 2) (n % 2) (omega arith) (omega arith) (same-choice (m % 2 == 0) (n % 2 == 0) h)

chosen : Bool → ℕ → ℕ
chosen b place = if b then place else place + 1

beside-is : (node place : ℕ) (b : Bool) → nat_lt place node ≡ b → beside node place ≡ chosen b place
unfolding chosen
beside-is node place b h = ap (λ (t : Bool). if t then place else place + 1) h

pub besides : (node p q : ℕ) → beside node p ≡ beside node q → p ≡ q
unfolding chosen
besides node p q h = by (nat_lt p node) refl (nat_lt q node) refl
  where
    by : (x : Bool) → nat_lt p node ≡ x → (y : Bool) → nat_lt q node ≡ y → p ≡ q
    by true e true f = sym (beside-is node p true e) ∙ h ∙ beside-is node q true f
    by true e false f =
        let is : p ≡ q + 1 = sym (beside-is node p true e) ∙ h ∙ beside-is node q false f in
        absurd (omega (arith, less p node e, not-less q node f))
    by false e true f =
        let is : p + 1 ≡ q = sym (beside-is node p false e) ∙ h ∙ beside-is node q true f in
        absurd (omega (arith, not-less p node e, less q node f))
    by false e false f =
        let is : p + 1 ≡ q + 1 = sym (beside-is node p false e) ∙ h ∙ beside-is node q false f in
        omega arith

pub beside-other : (node place : ℕ) → node ≢ beside node place
unfolding chosen
beside-other node place h = by (nat_lt place node) refl
  where
    by : (x : Bool) → nat_lt place node ≡ x → ⊥
    by true e = let is : node ≡ place = h ∙ beside-is node place true e in omega (arith, less place node e)
    by false e = let is : node ≡ place + 1 = h ∙ beside-is node place false e in omega (arith, not-less place node e)

pub beside-from : (node place : ℕ) → 1 ≤ place → 1 ≤ beside node place
unfolding chosen
beside-from node place h = by (nat_lt place node) refl
  where
    by : (x : Bool) → nat_lt place node ≡ x → 1 ≤ beside node place
    by true e = let is : beside node place ≡ place = beside-is node place true e in omega arith
    by false e = let is : beside node place ≡ place + 1 = beside-is node place false e in omega arith

pub beside-to : (node place : ℕ) → place ≤ 7 → beside node place ≤ 8
unfolding chosen
beside-to node place h = by (nat_lt place node) refl
  where
    by : (x : Bool) → nat_lt place node ≡ x → beside node place ≤ 8
    by true e = let is : beside node place ≡ place = beside-is node place true e in omega arith
    by false e = let is : beside node place ≡ place + 1 = beside-is node place false e in omega arith

-- a place of a link by its sender, its receiver and its channel
pub link-same : (a b : ℕ) → a / 14 + 1 ≡ b / 14 + 1 → beside (a / 14 + 1) (a % 14 / 2 + 1) ≡ beside (b / 14 + 1) (b % 14 / 2 + 1) → is_channel (channel_at (b % 14)) (Some (channel_at (a % 14))) ≡ true → a ≡ b
link-same a b senders receivers on =
    let moved : beside (a / 14 + 1) (b % 14 / 2 + 1) ≡ beside (b / 14 + 1) (b % 14 / 2 + 1) = ap (λ (n : ℕ). beside n (b % 14 / 2 + 1)) senders in
    let places : a % 14 / 2 + 1 ≡ b % 14 / 2 + 1 = besides (a / 14 + 1) (a % 14 / 2 + 1) (b % 14 / 2 + 1) (receivers ∙ sym moved) in
    let ends : b % 14 % 2 ≡ a % 14 % 2 = channels (b % 14) (a % 14) on in
    omega arith

-- a place of a chance by its cycle, its sender, its receiver and its channel
pub chance-same : (a b : ℕ) → a / 24 ≡ b / 24 → a % 24 / 12 + 7 ≡ b % 24 / 12 + 7 → a % 24 % 12 / 2 + 1 ≡ b % 24 % 12 / 2 + 1
    → is_channel (channel_at (b % 24 % 12)) (Some (channel_at (a % 24 % 12))) ≡ true → a ≡ b
chance-same a b cycles senders receivers on =
    let ends : b % 24 % 12 % 2 ≡ a % 24 % 12 % 2 = channels (b % 24 % 12) (a % 24 % 12) on in
    omega arith
