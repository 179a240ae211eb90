-- Whether what was caught suffices, by its first rate and its first start.
use Rattle.std.proofs.Common.{◌≡◌, ℕ, ◌≤◌, ◌==◌, ℤ, pos, Bool, true, false, ◌&&◌, if◌then◌else◌, List, [], ◌∷◌, All, Option, Some, None, IsSome, inl, inr, refl, ap, ◌∙◌, subst, arith}
use Rattle.std.specs.Prelude.{int_le, int_lt, neg_ℤ, ◌+ℤ◌, ◌-ℤ◌, ◌*ℤ◌}
use Rattle.std.specs.List.{list_any}
use Rattle.std.specs.Option.{option_map}
use Rattle.std.proofs.lemmas.Bool.{cases_Bool, eqb-true, or_cases}
use Rattle.std.proofs.lemmas.Int.{ints}
use Rattle.std.proofs.lemmas.List.Elements.{All-head, All-tail}
use Rattle.fr_cluster.specs.Constraints.{key_slots}
use Rattle.fr_cluster.specs.Questions.{compensation_of, key_index_of}
use Rattle.fr_cluster.specs.Sane.{IsSane}
use Rattle.fr_cluster.specs.Values.{Values, amount}
use Rattle.fr_cluster.specs.declared.names.ParamName.TheVariants as name
use Rattle.fr_time.specs.Position.{even_position, grid_for}
use Rattle.fr_time.specs.Slots.{action_point_of}
use Rattle.fr_reception.specs.Listening.{Caught, first_rate_of, first_start_of, kept_if}
use Rattle.fr_node.specs.Listening.{follower_by, is_in_limit}
use Rattle.fr_node.specs.View.{NodeView}

first_fails : (a b d : Bool) → (a && b) ≡ false → (a && b && d) ≡ false
first_fails true true d is = absurd (cc)
first_fails true false d is = refl
first_fails false b d is = refl

last_fails : (a b d : Bool) → d ≡ false → (a && b && d) ≡ false
last_fails true true d is = is
last_fails true false d is = refl
last_fails false b d is = refl

all_hold : (a b d : Bool) → (a && b) ≡ true → d ≡ true → (a && b && d) ≡ true
all_hold true true d is last = last
all_hold true false d is last = absurd (cc)
all_hold false b d is last = absurd (cc)

-- a node begins to follow where it does
abbrev kept_by : Caught → Bool → Option Caught
kept_by c b = if b then Some c else None

abbrev begins : Values → ℕ → ℕ → Caught → Option NodeView
begins p id cycle c = option_map (follower_by p id cycle) (kept_if p c)

-- none begins whose rate or whose start does not suffice
pub no_rate : (p : Values) (id cycle : ℕ) (c : Caught) → is_in_limit p.rate_limit (first_rate_of p c) ≡ false → begins p id cycle c ≡ None
no_rate p id cycle c fails =
    ap (λ (b : Bool). option_map (follower_by p id cycle) (kept_by c b)) (first_fails (int_le (neg_ℤ p.rate_limit) (first_rate_of p c)) (int_le (first_rate_of p c) p.rate_limit) (int_le (pos 0) (first_start_of p c)) fails)

pub no_start : (p : Values) (id cycle : ℕ) (c : Caught) → int_le (pos 0) (first_start_of p c) ≡ false → begins p id cycle c ≡ None
no_start p id cycle c fails =
    ap (λ (b : Bool). option_map (follower_by p id cycle) (kept_by c b)) (last_fails (int_le (neg_ℤ p.rate_limit) (first_rate_of p c)) (int_le (first_rate_of p c) p.rate_limit) (int_le (pos 0) (first_start_of p c)) fails)

pub one_begins : (p : Values) (id cycle : ℕ) (c : Caught) → is_in_limit p.rate_limit (first_rate_of p c) ≡ true → int_le (pos 0) (first_start_of p c) ≡ true → begins p id cycle c ≡ Some (follower_by p id cycle c)
one_begins p id cycle c rate start =
    ap (λ (b : Bool). option_map (follower_by p id cycle) (kept_by c b)) (all_hold (int_le (neg_ℤ p.rate_limit) (first_rate_of p c)) (int_le (first_rate_of p c) p.rate_limit) (int_le (pos 0) (first_start_of p c)) rate start)

-- a number that is not below 0
pub not_low : (s : ℤ) → int_lt s (pos 0) ≡ false → int_le (pos 0) s ≡ true
not_low s is = grind (arith, ints, is)

-- the first start, step by step
pub start_is : (p : Values) (c : Caught) (rate rest left ticks start : ℤ) → rate ≡ first_rate_of p c
    → rest ≡ (p.micros +ℤ rate) -ℤ even_position (grid_for p) rate (pos (action_point_of p c.slot)) → left ≡ rest -ℤ compensation_of p c.channel
    → ticks ≡ left *ℤ c.odd_length → start ≡ c.late +ℤ ticks → start ≡ first_start_of p c
start_is p c rate rest left ticks start rate_is rest_is left_is ticks_is behind_is =
    behind_is ∙ ap (λ (t : ℤ). c.late +ℤ t) (ticks_is
    ∙ ap (λ (l : ℤ). l *ℤ c.odd_length) (left_is
    ∙ ap (λ (r : ℤ). r -ℤ compensation_of p c.channel) (rest_is
    ∙ ap (λ (q : ℤ). (p.micros +ℤ q) -ℤ even_position (grid_for p) q (pos (action_point_of p c.slot))) rate_is)))

-- a key slot is a static slot
abbrev nothing : Option ℕ
nothing = None

among_within : (limit slot : ℕ) (keys : List ℕ) → All (λ key. key ≤ limit) keys → list_any (λ key. key == slot) keys ≡ true → slot ≤ limit
among_within limit slot [] all among = absurd (cc)
among_within limit slot (key ∷ keys) all among = elim (or_cases (key == slot) (list_any (λ k. k == slot) keys) among) [
  | inl same ↦
      let itself : key ≡ slot = eqb-true key slot same in
      subst (λ (k : ℕ). k ≤ limit) itself (All-head (λ k. k ≤ limit) key keys all)
  | inr later ↦ among_within limit slot keys (All-tail (λ k. k ≤ limit) key keys all) later
]

pub key_is_static : (p : Values) (slot : ℕ) → IsSane p → IsSome (key_index_of p slot) → slot ≤ amount p name.gNumberOfStaticSlots
key_is_static p slot sane some = elim (cases_Bool (list_any (λ key. key == slot) (key_slots p.nodes))) [
  | inl among ↦ among_within (amount p name.gNumberOfStaticSlots) slot (key_slots p.nodes) sane.constraints.own_slots.0 among
  | inr other ↦
      let none : key_index_of p slot ≡ None = rw other refl in
      let never : IsSome nothing = subst IsSome none some in
      absurd (cc)
]
