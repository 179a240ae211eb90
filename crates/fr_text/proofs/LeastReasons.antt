-- The least reason that holds, found by a test of each in turn.
use Rattle.std.proofs.Common.{◌≡◌, ℕ, zero, suc, ◌+◌, ◌≤◌, Bool, true, false, Option, Some, None, ◌⊎◌, inl, inr, ap, sym, ◌∙◌, refl, arith}
use Rattle.std.specs.Prelude.{if◌then◌else◌}
use Rattle.std.proofs.lemmas.Bool.{cases_eq}
use Rattle.fr_base.specs.Reason.{reason_rank}
use Rattle.fr_base.specs.declared.reason.Reason.{Reason}
use Rattle.fr_base.specs.declared.reason.Reason.TheVariants as reason
use Rattle.fr_text.specs.Least.{IsLeastReason}

-- the reason of a number
at_rank : ℕ → Reason
at_rank (suc (suc zero)) = reason.UnknownName
at_rank (suc (suc (suc zero))) = reason.NotNumber
at_rank (suc (suc (suc (suc zero)))) = reason.OutOfRange
at_rank (suc (suc (suc (suc (suc zero))))) = reason.UnknownNode
at_rank (suc (suc (suc (suc (suc (suc zero)))))) = reason.BadChannel
at_rank (suc (suc (suc (suc (suc (suc (suc zero))))))) = reason.Role
at_rank (suc (suc (suc (suc (suc (suc (suc (suc zero)))))))) = reason.Link
at_rank (suc (suc (suc (suc (suc (suc (suc (suc (suc zero))))))))) = reason.NotHex
at_rank (suc (suc (suc (suc (suc (suc (suc (suc (suc (suc zero)))))))))) = reason.Repeated
at_rank _ = reason.Shape

rank-back : (why : Reason) → at_rank (reason_rank why) ≡ why
unfolding at_rank
rank-back reason.Shape = refl
rank-back reason.UnknownName = refl
rank-back reason.NotNumber = refl
rank-back reason.OutOfRange = refl
rank-back reason.UnknownNode = refl
rank-back reason.BadChannel = refl
rank-back reason.Role = refl
rank-back reason.Link = refl
rank-back reason.NotHex = refl
rank-back reason.Repeated = refl

rank-one : (a b : Reason) → reason_rank a ≡ reason_rank b → a ≡ b
rank-one a b e = sym (rank-back a) ∙ ap at_rank e ∙ rank-back b

rank-range : (why : Reason) → (1 ≤ reason_rank why) × (reason_rank why ≤ 10)
rank-range reason.Shape = (omega arith, omega arith)
rank-range reason.UnknownName = (omega arith, omega arith)
rank-range reason.NotNumber = (omega arith, omega arith)
rank-range reason.OutOfRange = (omega arith, omega arith)
rank-range reason.UnknownNode = (omega arith, omega arith)
rank-range reason.BadChannel = (omega arith, omega arith)
rank-range reason.Role = (omega arith, omega arith)
rank-range reason.Link = (omega arith, omega arith)
rank-range reason.NotHex = (omega arith, omega arith)
rank-range reason.Repeated = (omega arith, omega arith)

-- the least reason that holds of those from a number on
abbrev IsLeastFrom : ℕ → (Reason → Bool) → Option Reason → Type 0
IsLeastFrom k test None = (why : Reason) → k ≤ reason_rank why → test why ≡ false
IsLeastFrom k test (Some why) = (test why ≡ true) × ((other : Reason) → k ≤ reason_rank other → test other ≡ true → reason_rank why ≤ reason_rank other)

-- one reason more in front
step : (k : ℕ) (test : Reason → Bool) (why : Reason) (b : Bool) (rest : Option Reason) → reason_rank why ≡ k → test why ≡ b → IsLeastFrom (k + 1) test rest
    → IsLeastFrom k test (if b then Some why else rest)
step k test why true rest is e h = (e, λ other from holds. omega arith)
step k test why false None is e h = λ other from. by other from (cases_eq (reason_rank other) (reason_rank why))
  where
    by : (other : Reason) → k ≤ reason_rank other → (reason_rank other ≡ reason_rank why) ⊎ (reason_rank other ≡ reason_rank why → ⊥) → test other ≡ false
    by other from (inl same) = ap test (rank-one other why same) ∙ e
    by other from (inr ne) = h other (omega (arith, ne, is))
step k test why false (Some found) is e h = (h.0, λ other from holds. by other from holds (cases_eq (reason_rank other) (reason_rank why)))
  where
    by : (other : Reason) → k ≤ reason_rank other → test other ≡ true → (reason_rank other ≡ reason_rank why) ⊎ (reason_rank other ≡ reason_rank why → ⊥)
        → reason_rank found ≤ reason_rank other
    by other from holds (inl same) = let no : test other ≡ false = ap test (rank-one other why same) ∙ e in cc
    by other from holds (inr ne) = h.1 other (omega (arith, ne, is)) holds

-- the first of ten tests that holds
abbrev from_hex : Bool → Bool → Option Reason
from_hex hex again = if hex then Some reason.NotHex else if again then Some reason.Repeated else None

abbrev from_role : Bool → Bool → Bool → Bool → Option Reason
from_role role link hex again = if role then Some reason.Role else if link then Some reason.Link else from_hex hex again

abbrev from_node : Bool → Bool → Bool → Bool → Bool → Bool → Option Reason
from_node node channel role link hex again = if node then Some reason.UnknownNode else if channel then Some reason.BadChannel else from_role role link hex again

abbrev pub first_reason : Bool → Bool → Bool → Bool → Bool → Bool → Bool → Bool → Bool → Bool → Option Reason
first_reason shape name digits range node channel role link hex again =
    if shape then Some reason.Shape
    else if name then Some reason.UnknownName
    else if digits then Some reason.NotNumber
    else if range then Some reason.OutOfRange
    else from_node node channel role link hex again

whole : (test : Reason → Bool) (found : Option Reason) → IsLeastFrom 1 test found → IsLeastReason test found
whole test None h = λ why. h why (rank-range why).0
whole test (Some why) h = record { holds = h.0; least = λ other holds. h.1 other (rank-range other).0 holds }

pub least-first : (test : Reason → Bool) (shape name digits range node channel role link hex again : Bool)
    → test reason.Shape ≡ shape → test reason.UnknownName ≡ name → test reason.NotNumber ≡ digits → test reason.OutOfRange ≡ range → test reason.UnknownNode ≡ node
    → test reason.BadChannel ≡ channel → test reason.Role ≡ role → test reason.Link ≡ link → test reason.NotHex ≡ hex → test reason.Repeated ≡ again
    → IsLeastReason test (first_reason shape name digits range node channel role link hex again)
least-first test shape name digits range node channel role link hex again e1 e2 e3 e4 e5 e6 e7 e8 e9 e10 =
    let none : IsLeastFrom 11 test None = λ why from. let to = (rank-range why).1 in absurd (omega arith) in
    let ten : IsLeastFrom 10 test (if again then Some reason.Repeated else None) = step 10 test reason.Repeated again None refl e10 none in
    let nine : IsLeastFrom 9 test (from_hex hex again) = step 9 test reason.NotHex hex (if again then Some reason.Repeated else None) refl e9 ten in
    let eight : IsLeastFrom 8 test (if link then Some reason.Link else from_hex hex again) = step 8 test reason.Link link (from_hex hex again) refl e8 nine in
    let seven : IsLeastFrom 7 test (from_role role link hex again) = step 7 test reason.Role role (if link then Some reason.Link else from_hex hex again) refl e7 eight in
    let six : IsLeastFrom 6 test (if channel then Some reason.BadChannel else from_role role link hex again) =
    step 6 test reason.BadChannel channel (from_role role link hex again) refl e6 seven
    in
    let five : IsLeastFrom 5 test (from_node node channel role link hex again) =
    step 5 test reason.UnknownNode node (if channel then Some reason.BadChannel else from_role role link hex again) refl e5 six
    in
    let four : IsLeastFrom 4 test (if range then Some reason.OutOfRange else from_node node channel role link hex again) =
    step 4 test reason.OutOfRange range (from_node node channel role link hex again) refl e4 five
    in
    let three : IsLeastFrom 3 test (if digits then Some reason.NotNumber else if range then Some reason.OutOfRange else from_node node channel role link hex again) =
    step 3 test reason.NotNumber digits (if range then Some reason.OutOfRange else from_node node channel role link hex again) refl e3 four
    in
    let two : IsLeastFrom 2 test (if name then Some reason.UnknownName else if digits then Some reason.NotNumber else if range then Some reason.OutOfRange else from_node node channel role link hex again) =
    step 2 test reason.UnknownName name (if digits then Some reason.NotNumber else if range then Some reason.OutOfRange else from_node node channel role link hex again) refl e2 three
    in
    whole test (first_reason shape name digits range node channel role link hex again)
    (step 1 test reason.Shape shape
    (if name then Some reason.UnknownName else if digits then Some reason.NotNumber else if range then Some reason.OutOfRange else from_node node channel role link hex again)
    refl e1 two)
