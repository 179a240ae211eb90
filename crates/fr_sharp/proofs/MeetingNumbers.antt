-- Of how many senders frames may be missed, and what that costs: it is one answer, and is there.
use Rattle.std.proofs.Common.{◌≡◌, ◌⊎◌, ◌∙◌, ℕ, zero, suc, ◌+◌, ◌*◌, ◌-◌, ◌<◌, ◌≤◌, Bool, true, false, Option, Some, None, List, [], ◌∷◌, length, count_by, inl, inr, refl, ap, sym, arith}
use Rattle.std.specs.Prelude.{nat_lt}
use Rattle.std.specs.List.{cons_option}
use Rattle.std.specs.Option.{is_some}
use Rattle.std.proofs.lemmas.Bool.{cases_Bool}
use Rattle.std.proofs.lemmas.Bool.Decides.{nat_tests}
use Rattle.fr_cluster.specs.Constraints.{key_slots}
use Rattle.fr_cluster.specs.declared.nodes.NodeSpec.{NodeSpec}
use Rattle.fr_midpoint.specs.Midpoint.{discarded}
use Rattle.fr_bound.specs.SharpBounds.{sharp_near, sharp_precision}
use Rattle.fr_coverage.specs.Links.{is_sync}
use Rattle.fr_precision.proofs.Counting.{count_no, count_yes}
use Rattle.fr_sharp.specs.MeetingCosts.{may_miss, sync_nodes, IsMostMissed, OneMeetingCost, SomeMeetingCost}
use Rattle.fr_sharp.specs.declared.meeting_costs.MeetingCost.{MeetingCost}

-- ---- how many key slots there are

keys_by : (node : NodeSpec) (nodes : List NodeSpec) (key : Option ℕ) → node.key ≡ key → length (key_slots nodes) ≡ count_by is_sync nodes → length (cons_option key (key_slots nodes)) ≡ count_by is_sync (node ∷ nodes)
keys_by node nodes None none rest = rest ∙ sym (count_no is_sync node nodes (ap is_some none))
keys_by node nodes (Some slot) some rest = ap suc rest ∙ sym (count_yes is_sync node nodes (ap is_some some))

pub keys_counted : (nodes : List NodeSpec) → length (key_slots nodes) ≡ count_by is_sync nodes
keys_counted [] = refl
keys_counted (node ∷ nodes) = keys_by node nodes node.key refl (keys_counted nodes)

-- ---- who misses more discards no fewer by more

pub missed_more : (senders a b : ℕ) → a ≤ b → a + discarded (senders - a) ≤ b + discarded (senders - b)
missed_more senders a b le = grind (arith, nat_tests)

pub meets_fewer : (senders a b : ℕ) → a ≤ b → may_miss senders b ≡ true → may_miss senders a ≡ true
meets_fewer senders a b le meets = step senders (a + discarded (senders - a)) (b + discarded (senders - b)) (missed_more senders a b le) meets
  where
    step : (n x y : ℕ) → x ≤ y → nat_lt (2 * y) n ≡ true → nat_lt (2 * x) n ≡ true
    step n x y le less = grind (arith, nat_tests)

-- some number may be missed, and 8 may not
pub none_missed : (senders : ℕ) → 1 ≤ senders → may_miss senders 0 ≡ true
none_missed senders some = grind (arith, nat_tests)

pub no_eighth : (senders : ℕ) → senders ≤ 15 → may_miss senders 8 ≡ true → ⊥
no_eighth senders few meets = grind (arith, nat_tests)

one_most : (senders a b : ℕ) → IsMostMissed senders a → IsMostMissed senders b → a ≡ b
one_most senders a b one other = elim (order a b) [
  | inl same ↦ same
  | inr (inl less) ↦ absurd (never (may_miss senders b) (one.no_more b less) other.meets)
  | inr (inr more) ↦ absurd (never (may_miss senders a) (other.no_more a more) one.meets)
]
  where
    order : (a b : ℕ) → (a ≡ b) ⊎ ((a < b) ⊎ (b < a))
    order a b = grind arith

    never : (b : Bool) → b ≡ false → b ≡ true → ⊥
    never b fails passes = cc

some_most : (senders n : ℕ) → senders ≤ 15 → n ≤ 8 → may_miss senders (8 - n) ≡ true → (missed : ℕ) × IsMostMissed senders missed
some_most senders zero few le meets = absurd (no_eighth senders few meets)
some_most senders (suc n) few le meets = elim (cases_Bool (may_miss senders (8 - n))) [
  | inl further ↦ some_most senders n few (omega (arith, le)) further
  | inr fails ↦ (
    8 - suc n,
    record {
      meets = meets;
      no_more = λ more less. elim (cases_Bool (may_miss senders more)) [
        | inl passes ↦ absurd (never (may_miss senders (8 - n)) fails (meets_fewer senders (8 - n) more (omega (arith, le, less)) passes))
        | inr is ↦ is
      ];
    },
  )
]
  where
    never : (b : Bool) → b ≡ false → b ≡ true → ⊥
    never b fails passes = cc

-- ---- it is one, and is there

pub one_meeting_cost : OneMeetingCost
one_meeting_cost p flutter one other here there =
    let made : ℕ → ℕ → ℕ → MeetingCost = λ a b c. record { peak = a; reach = b; missed = c } in
    let peak : one.peak ≡ other.peak = here.peak ∙ sym there.peak in
    let reach : one.reach ≡ other.reach = here.reach ∙ sym there.reach in
    let missed = one_most (sync_nodes p) one.missed other.missed here.missed there.missed in
    ap (λ (a : ℕ). made a one.reach one.missed) peak ∙ ap (λ (b : ℕ). made other.peak b one.missed) reach ∙ ap (made other.peak other.reach) missed

pub some_meeting_cost : SomeMeetingCost
some_meeting_cost p flutter sane =
    let keys = sane.constraints.sync_nodes in
    let most = some_most (sync_nodes p) 8 keys.1 (omega arith) (none_missed (sync_nodes p) keys.0) in
    (record { peak = sharp_precision true p flutter; reach = sharp_near true p flutter; missed = most.0 }, record { peak = refl; reach = refl; missed = most.1 })
