-- What the sharper bounds, the walk and the checks are computed by.
use Rattle.std.proofs.Common.{◌≡◌, ◌∙◌, ℕ, zero, suc, ◌+◌, ◌-◌, ◌*◌, ◌/◌, ◌<◌, ◌≤◌, true, false, ℤ, pos, negsuc, Option, Some, None, List, [], ◌∷◌, All, length, take, refl, ap, sym, arith}
use Rattle.std.specs.Prelude.{◌-ℤ◌, ◌+ℤ◌, ◌*ℤ◌, ◌≤ℤ◌, ◌<ℤ◌, if◌then◌else◌, int_le, int_lt, max, nat_abs, slice_index_or}
use Rattle.std.specs.Option.{option_map_or}
use Rattle.std.proofs.lemmas.Int.{ints}
use Rattle.std.proofs.lemmas.List.Elements.{All-cons, All-head, All-nil, All-tail}
use Rattle.std.proofs.Math.Nat.{div-le_of_le-mul, max-le, mul-le-mul_right, suc-mul}
use Rattle.fr_cluster.specs.Constraints.{key_slots}
use Rattle.fr_cluster.specs.Sane.{IsSane}
use Rattle.fr_cluster.specs.Values.{Values, amount}
use Rattle.fr_cluster.specs.declared.names.ParamName.TheVariants as name
use Rattle.fr_cluster.specs.declared.nodes.NodeSpec.{NodeSpec}
use Rattle.fr_bound.specs.declared.checking.CheckSides.{CheckSides}
use Rattle.fr_bound.specs.Bounds.{cycle_change, longest_micro, shortest_micro}
use Rattle.fr_bound.specs.Settling.{IsSettleCheckOf}
use Rattle.fr_bound.specs.SharpBounds.{last_action, last_of, rate_room, rate_walk, walk_lasts, wide_change}
use Rattle.fr_bound.specs.SharpChecks.{IsSharpCheckFor}

-- ---- the last key slot

-- the greater of a number and a slot, if there is one
abbrev with_slot : Option ℕ → ℕ → ℕ
with_slot key last = option_map_or (λ (slot : ℕ). max slot last) key last

swapped : (one other : Option ℕ) (last : ℕ) → with_slot one (with_slot other last) ≡ with_slot other (with_slot one last)
swapped None other last = refl
swapped (Some slot) None last = refl
swapped (Some slot) (Some more) last = grind arith

first_key : (node : NodeSpec) (nodes : List NodeSpec) → last_of (key_slots (node ∷ nodes)) ≡ with_slot node.key (last_of (key_slots nodes))
unfolding last_of
first_key node nodes = by node.key refl
  where
    by : (key : Option ℕ) → node.key ≡ key → last_of (key_slots (node ∷ nodes)) ≡ with_slot node.key (last_of (key_slots nodes))
    by None is = rw is refl
    by (Some slot) is = rw is refl

pub last_none : (nodes : List NodeSpec) → 0 ≡ last_of (key_slots (take 0 nodes))
unfolding last_of
last_none nodes = refl

place_more : (nodes : List NodeSpec) (place : ℕ) (node : NodeSpec) → place < length nodes → node ≡ slice_index_or nodes place node
    → with_slot node.key (last_of (key_slots (take place nodes))) ≡ last_of (key_slots (take (suc place) nodes))
place_more [] place node less is = absurd (omega (arith, less))
place_more (first ∷ nodes) zero node less is = ap (λ (n : NodeSpec). with_slot n.key (last_of (key_slots []))) is ∙ sym (first_key first [])
place_more (first ∷ nodes) (suc place) node less is =
    ap (with_slot node.key) (first_key first (take place nodes))
    ∙ swapped node.key first.key (last_of (key_slots (take place nodes)))
    ∙ ap (with_slot first.key) (place_more nodes place node (omega (arith, less)) is)
    ∙ sym (first_key first (take (suc place) nodes))

-- one node further
pub last_more : (nodes : List NodeSpec) (place : ℕ) (node : NodeSpec) (last more : ℕ) → place < length nodes → node ≡ slice_index_or nodes place node
    → last ≡ last_of (key_slots (take place nodes)) → more ≡ option_map_or (λ (slot : ℕ). max slot last) node.key last
    → more ≡ last_of (key_slots (take (suc place) nodes))
last_more nodes place node last more less is before after = after ∙ ap (with_slot node.key) before ∙ place_more nodes place node less is

-- ---- the last action point, which comes before the offset correction

pub last_le : (limit : ℕ) (slots : List ℕ) → All (λ slot. slot ≤ limit) slots → last_of slots ≤ limit
unfolding last_of
last_le limit [] all = omega arith
last_le limit (slot ∷ slots) all =
    max-le (All-head (λ n. n ≤ limit) slot slots all) (last_le limit slots (All-tail (λ n. n ≤ limit) slot slots all))

pub le_along : (m n : ℕ) (slots : List ℕ) → m ≤ n → All (λ slot. slot ≤ m) slots → All (λ slot. slot ≤ n) slots
le_along m n [] le all = All-nil (λ slot. slot ≤ n)
le_along m n (slot ∷ slots) le all =
    let first : slot ≤ m = All-head (λ k. k ≤ m) slot slots all in
    All-cons (λ k. k ≤ n) slot slots (omega (arith, le, first)) (le_along m n slots le (All-tail (λ k. k ≤ m) slot slots all))

-- a later slot acts no earlier
pub acts_later : (p : Values) (slot later : ℕ) → slot ≤ later
    → (slot - 1) * amount p name.gdStaticSlot + amount p name.gdActionPointOffset ≤ (later - 1) * amount p name.gdStaticSlot + amount p name.gdActionPointOffset
acts_later p slot later le =
    step ((slot - 1) * amount p name.gdStaticSlot) ((later - 1) * amount p name.gdStaticSlot) (amount p name.gdActionPointOffset)
    (mul-le-mul_right (amount p name.gdStaticSlot) (before slot later le))
  where
    before : (a b : ℕ) → a ≤ b → a - 1 ≤ b - 1
    before a b le = omega (arith, le)

    step : (a b c : ℕ) → a ≤ b → a + c ≤ b + c
    step a b c le = omega (arith, le)

-- a slot has its length
slot_length : (slot length : ℕ) → 1 ≤ slot → (slot - 1) * length + length ≡ slot * length
slot_length zero length some = absurd (omega arith)
slot_length (suc slot) length some = let before : suc slot - 1 ≡ slot = omega arith in rw before (sym (suc-mul slot length))

pub last_acts_early : (p : Values) → IsSane p → last_action p < amount p name.gOffsetCorrectionStart
last_acts_early p sane =
    let slots = sane.ranges name.gNumberOfStaticSlots in
    let static = amount p name.gNumberOfStaticSlots in
    let long = amount p name.gdStaticSlot in
    let some : 1 ≤ static = omega (arith, ints, slots.0) in
    let last = acts_later p (last_of (key_slots p.nodes)) static (last_le static (key_slots p.nodes) sane.constraints.own_slots.0) in
    chain (last_action p) ((static - 1) * long) (amount p name.gdActionPointOffset) long (static * long) (amount p name.gOffsetCorrectionStart) last (slot_length static long some) sane.constraints.acts_in_slot sane.constraints.corrects_after.0
  where
    chain : (a before action long end start : ℕ) → a ≤ before + action → before + long ≡ end → action < long → end < start → a < start
    chain a before action long end start le is less early = omega (arith, le, is, less, early)

pub acts_within : (p : Values) → IsSane p → last_action p ≤ amount p name.gMacroPerCycle
acts_within p sane =
    let after = sane.constraints.corrects_after in
    chain (last_action p) (amount p name.gOffsetCorrectionStart) (amount p name.gMacroPerCycle) (last_acts_early p sane) after.1
  where
    chain : (a b c : ℕ) → a < b → b < c → a ≤ c
    chain a b c h k = omega (arith, h, k)

pub share_within : (action ticks macros : ℕ) → action ≤ macros → action * ticks / macros ≤ ticks
share_within action ticks macros le = div-le_of_le-mul macros (mul-le-mul_right ticks le)

-- ---- the walk

pub above_none : (z read : ℤ) → read ≡ z → int_lt (pos 0) read ≡ true → pos 0 <ℤ z
above_none z read is test = grind (arith, ints)

-- a product of naturals as one of signed numbers
signed_product : (z : ℤ) (k : ℕ) → pos 0 ≤ℤ z → pos (nat_abs z * k) ≡ z *ℤ pos k
signed_product (pos n) k from = refl
signed_product (negsuc n) k from = absurd (omega (arith, ints))

-- with damping
pub walk_damped : (p : Values) (flutter : ℕ) → pos 0 <ℤ p.damping
    → rate_walk p flutter ≡ pos (flutter + cycle_change p + wide_change p + shortest_micro p) -ℤ pos (nat_abs p.damping * shortest_micro p + 1)
walk_damped p flutter some =
    by (flutter + cycle_change p + wide_change p) (shortest_micro p) (longest_micro p) p.damping (p.damping *ℤ pos (shortest_micro p)) (nat_abs p.damping * shortest_micro p)
    some (signed_product p.damping (shortest_micro p) (omega (arith, ints, some)))
  where
    by : (changes short long : ℕ) (c cut : ℤ) (product : ℕ) → pos 0 <ℤ c → pos product ≡ cut
        → ((pos changes -ℤ pos 1) +ℤ (if int_lt (pos 0) c then pos short -ℤ cut else pos long)) ≡ pos (changes + short) -ℤ pos (product + 1)
    by changes short long c cut product some is =
        let yes : int_lt (pos 0) c ≡ true = grind (arith, ints) in
        rw yes (omega (arith, ints, is))

-- and without
pub walk_undamped : (p : Values) (flutter : ℕ) → p.damping ≤ℤ pos 0
    → rate_walk p flutter ≡ pos (flutter + cycle_change p + wide_change p + longest_micro p) -ℤ pos 1
walk_undamped p flutter none =
    by (flutter + cycle_change p + wide_change p) (longest_micro p) p.damping (pos (shortest_micro p) -ℤ (p.damping *ℤ pos (shortest_micro p))) none
  where
    by : (changes long : ℕ) (c other : ℤ) → c ≤ℤ pos 0
        → ((pos changes -ℤ pos 1) +ℤ (if int_lt (pos 0) c then other else pos long)) ≡ pos (changes + long) -ℤ pos 1
    by changes long c other none =
        let no : int_lt (pos 0) c ≡ false = grind (arith, ints) in
        rw no (omega (arith, ints))

pub lasts_ever : (p : Values) (flutter gain loss : ℕ) → rate_walk p flutter ≡ pos gain -ℤ pos loss → gain ≤ loss → walk_lasts p flutter ≡ None
lasts_ever p flutter gain loss is le = let still : int_le (rate_walk p flutter) (pos 0) ≡ true = stops (rate_walk p flutter) gain loss is le in rw still refl
  where
    stops : (walk : ℤ) (gain loss : ℕ) → walk ≡ pos gain -ℤ pos loss → gain ≤ loss → int_le walk (pos 0) ≡ true
    stops walk gain loss is le = grind (arith, ints)

pub lasts_so_long : (p : Values) (flutter gain loss : ℕ) → rate_walk p flutter ≡ pos gain -ℤ pos loss → loss < gain → walk_lasts p flutter ≡ Some (rate_room p / (gain - loss))
lasts_so_long p flutter gain loss is less =
    let walks : int_le (rate_walk p flutter) (pos 0) ≡ false = goes (rate_walk p flutter) gain loss is less in
    let far : nat_abs (rate_walk p flutter) ≡ gain - loss = amounts (rate_walk p flutter) gain loss is less in
    rw (walks, far) refl
  where
    goes : (walk : ℤ) (gain loss : ℕ) → walk ≡ pos gain -ℤ pos loss → loss < gain → int_le walk (pos 0) ≡ false
    goes walk gain loss is less = grind (arith, ints)

    amounts : (walk : ℤ) (gain loss : ℕ) → walk ≡ pos gain -ℤ pos loss → loss < gain → nat_abs walk ≡ gain - loss
    amounts walk gain loss is less = omega (arith, ints, is, less)

-- ---- the checks but the first

pub later_check : (p : Values) (flutter reach number : ℕ) (sides : CheckSides) → (number ≡ 1 → ⊥) → IsSettleCheckOf number reach p sides → IsSharpCheckFor number flutter reach p sides
later_check p flutter reach zero sides other is = record { left = is.left; right = is.right; holds = is.holds }
later_check p flutter reach (suc zero) sides other is = absurd (other refl)
later_check p flutter reach (suc (suc number)) sides other is = record { left = is.left; right = is.right; holds = is.holds }
