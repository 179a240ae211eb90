-- A round whose receivers lie near each other is a double cycle as the sharper step asks for.
use Rattle.std.proofs.Common.{◌≡◌, ℕ, ◌≤◌, Bool, false, ℤ, pos, Option, Some, None, List, [], ◌∷◌, All, map, refl, ap, sym, subst, inl, inr, arith}
use Rattle.std.specs.Prelude.{◌≤ℤ◌, Contains}
use Rattle.std.specs.List.{cons_option, filter_map, range_with_len}
use Rattle.std.proofs.lemmas.Int.{ints}
use Rattle.std.proofs.lemmas.List.Elements.{All-cons, All-contains_itself, All-nil}
use Rattle.fr_base.specs.declared.node_row.NodeRow.{NodeRow}
use Rattle.fr_base.specs.Within.{IsBetween, IsWithin}
use Rattle.fr_cluster.specs.Sane.{IsSane}
use Rattle.fr_cluster.specs.declared.nodes.NodeSpec.{NodeSpec}
use Rattle.fr_cluster.proofs.KeyNodes.{key_among, Contains-cons_cases}
use Rattle.fr_cluster.proofs.Elements.{Contains-here, Contains-none, Contains-there}
use Rattle.fr_time.specs.Slots.{action_point_of}
use Rattle.fr_correct.proofs.There.{offset_term_is_there, rate_term_is_there}
use Rattle.fr_precision.specs.Rows.{Sender}
use Rattle.fr_precision.specs.Instants.{gap_of}
use Rattle.fr_precision.specs.Offsets.{LimitSuffices}
use Rattle.fr_precision.specs.Placement.{IsRegular}
use Rattle.fr_precision.specs.Round.{offsets_of, rates_of, sender_at, sender_with, senders_of, Hearer, IsHearer, IsRound, IsSender, Round}
use Rattle.fr_precision.specs.Step.{IsAmong, Member}
use Rattle.fr_precision.proofs.RoundSenders.{sender_is, IsFrom}
use Rattle.fr_precision.proofs.Senders.{All-along}
use Rattle.fr_bound.specs.SharpBounds.{last_action}
use Rattle.fr_precision.specs.Lengths.{KeepSenders}
use Rattle.fr_precision.specs.SharpStep.{AllKeepSenders, AreSharp, ComputesSharply}
use Rattle.fr_precision.specs.SharpRound.{as_member, IsRoundInReach, IsSharpRound, IsSteadilySupplied, RoundsAreSharp, RoundsInReachAreSharp}
use Rattle.fr_precision.proofs.BoundLemmas.{key_slots_act_early}
use Rattle.fr_precision.proofs.HearingLemmas.{hearers_keep_senders, hears_all_steadily}
use Rattle.fr_precision.proofs.StepLemmas.{nodes_near, reached_by, Double}

-- ---- mapped lists

pub map_contains : {X Y : Type 0} (f : X → Y) (xs : List X) (y : Y) → Contains (map f xs) y → (x : X) × Contains xs x × (f x ≡ y)
map_contains f [] y among = absurd (Contains-none y among)
map_contains f (x ∷ xs) y among = elim (Contains-cons_cases (f x) (map f xs) y among) [
  | inl same ↦ (x, Contains-here x xs, same)
  | inr more ↦ let rest = map_contains f xs y more in (rest.0, Contains-there x xs rest.0 rest.1, rest.2)
]

pub contains_map : {X Y : Type 0} (f : X → Y) (xs : List X) (x : X) → Contains xs x → Contains (map f xs) (f x)
contains_map f [] x among = absurd (Contains-none x among)
contains_map {Y = Y} f (y ∷ xs) x among = elim (Contains-cons_cases y xs x among) [
  | inl same ↦ let Has : Y → Type 0 = λ z. Contains (f y ∷ map f xs) z in subst Has (ap f same) (Contains-here (f y) (map f xs))
  | inr more ↦ Contains-there (f y) (map f xs) (f x) (contains_map f xs x more)
]

-- the even rows of the members are those of the receivers
evens_are : (r : Round) (rows : List Hearer) → map (λ (node : Member). node.even) (map (as_member r.params) rows) ≡ map (λ (n : Hearer). n.even) rows
evens_are r [] = refl
evens_are r (n ∷ rows) = ap (λ (rest : List NodeRow). n.even ∷ rest) (evens_are r rows)

-- ---- the senders

pub given : {X : Type 0} (who : ℕ → Option X) (P : X → Type 0) (i : ℕ) (xs : List X) (o : Option X) → who i ≡ o → ((x : X) → who i ≡ Some x → P x) → All P xs → All P (cons_option o xs)
given who P i xs None is each rest = rest
given who P i xs (Some x) is each rest = All-cons P x xs (each x is) rest

pub all_given : {X : Type 0} (who : ℕ → Option X) (P : X → Type 0) (is : List ℕ) → ((i : ℕ) (x : X) → who i ≡ Some x → P x) → All P (filter_map who is)
all_given who P [] each = All-nil P
all_given who P (i ∷ is) each = given who P i (filter_map who is) (who i) refl (each i) (all_given who P is each)

pub all_senders : (r : Round) (P : Sender → Type 0) → ((index : ℕ) (sender : Sender) → IsFrom r index sender → P sender) → All P (senders_of r)
all_senders r P each = all_given (sender_at r) P (range_with_len 0 15) (λ index sender some. each index sender (sender_is r index sender some))

no_less : (n : ℕ) → pos 0 ≤ℤ pos n
no_less n = omega (arith, ints)

no_more : (a b : ℕ) → a ≤ b → pos a ≤ℤ pos b
no_more a b le = omega (arith, ints, le)

-- a sender acts up to the last action point
pub acts_early : (r : Round) → IsSane r.params → (index : ℕ) (sender : Sender) → IsFrom r index sender → IsBetween (pos 0) (pos (last_action r.params)) sender.action
acts_early r sane index sender from =
    let p = r.params in
    let Acts : Sender → Type 0 = λ sender. IsBetween (pos 0) (pos (last_action p)) sender.action in
    let among = key_among p.nodes from.node from.slot from.from.there from.from.key in
    let is : Acts (sender_with r from.slot from.node.id) = record {
      low = no_less (action_point_of p from.slot);
      high = no_more (action_point_of p from.slot) (last_action p) ((key_slots_act_early p sane).0 from.slot among);
    } in
    subst Acts from.is is

-- and is one of the nodes of the step, where the receivers have the rows of the senders
pub sender_among : (r : Round) (rows : List Hearer)
    → ((node : NodeSpec) (slot : ℕ) → IsSender r node slot → (n : Hearer) × Contains rows n × (n.even ≡ r.even node.id) × (n.odd ≡ r.odd node.id))
    → (index : ℕ) (sender : Sender) → IsFrom r index sender → IsAmong (map (as_member r.params) rows) sender
sender_among r rows have index sender from =
    let nodes = map (as_member r.params) rows in
    let row = have from.node from.slot from.from in
    let is : IsAmong nodes (sender_with r from.slot from.node.id) = (as_member r.params row.0, contains_map (as_member r.params) rows row.0 row.1, row.2, row.3) in
    subst (IsAmong nodes) from.is is

-- ---- a receiver

-- it hears, where action points of those whose rows the senders have lie within reach of its own
pub hears_in_reach : (r : Round) (flutter : ℕ) (reach : ℤ) (rows : List Hearer) (n : Hearer) → IsRound r → LimitSuffices r.params reach → IsSteadilySupplied r flutter n
    → ((node : NodeSpec) (slot : ℕ) → IsSender r node slot → (n : Hearer) × Contains rows n × (n.even ≡ r.even node.id) × (n.odd ≡ r.odd node.id))
    → ((row : Hearer) (action : ℤ) → Contains rows row → pos 0 ≤ℤ action → action ≤ℤ pos (last_action r.params) → IsWithin reach (gap_of r.params false action row.even n.even))
    → IsHearer r reach n
hears_in_reach r flutter reach rows n round suffices supplied have acts =
    let p = r.params in
    record {
      regular = supplied.regular;
      suffices = suffices;
      near =
          λ index slot node other.
          let row = have node slot other.sender in
          let key = key_among p.nodes node slot other.sender.there other.sender.key in
          let Near : NodeRow → Type 0 = λ even. IsWithin reach (gap_of p false (pos (action_point_of p slot)) even n.even) in
          subst Near row.2
          (
          acts row.0 (pos (action_point_of p slot)) row.1 (no_less (action_point_of p slot))
          (no_more (action_point_of p slot) (last_action p) ((key_slots_act_early p round.sane).0 slot key))
          );
      supply = supplied.hears;
    }

-- and computes its terms
pub computes_sharply : (r : Round) (flutter : ℕ) (reach : ℤ) (n : Hearer) → IsRound r → IsHearer r reach n → IsSteadilySupplied r flutter n
    → ComputesSharply r.params flutter (senders_of r) (as_member r.params n)
computes_sharply r flutter reach n round hearer supplied =
    let p = r.params in
    let hears = hears_all_steadily r flutter reach n round hearer supplied.steady in
    record {
      regular = supplied.regular;
      by_offset = record {
        micro = supplied.regular.odd_micro;
        hears = hears.offsets;
        is_term = offset_term_is_there p.offset_limit (offsets_of n);
        applied = supplied.applied;
      };
      by_rate = record {
        micro = supplied.regular.odd_micro;
        hears = hears.rates;
        is_term = rate_term_is_there n.odd.rate p.damping p.rate_limit (rates_of n);
      };
    }

-- ---- a round

module _ (beside : Bool) (r : Round) (flutter : ℕ) (reach : ℤ) (rows : List Hearer) (s : IsRoundInReach beside r flutter reach rows) where
  acts : All (λ (sender : Sender). IsBetween (pos 0) (pos (last_action r.params)) sender.action) (senders_of r)
  acts = all_senders r (λ (sender : Sender). IsBetween (pos 0) (pos (last_action r.params)) sender.action) (acts_early r s.round.sane)

  among : All (IsAmong (map (as_member r.params) rows)) (senders_of r)
  among = all_senders r (IsAmong (map (as_member r.params) rows)) (sender_among r rows s.among)

  pub hearer : (n : Hearer) → Contains rows n → IsHearer r reach n
  hearer n here =
      let at = as_member r.params in
      hears_in_reach r flutter reach rows n s.round s.suffices (s.supplied n here) s.among
      (λ row action there. s.acts false (at row) (at n) action (contains_map at rows row there) (contains_map at rows n here))

  computes : All (ComputesSharply r.params flutter (senders_of r)) (map (as_member r.params) rows)
  computes =
      let at = as_member r.params in
      let Computes : Member → Type 0 = ComputesSharply r.params flutter (senders_of r) in
      All-along (Contains (map at rows)) Computes (map at rows) (λ node is. let n = map_contains at rows node is in subst Computes n.2 (computes_sharply r flutter reach n.0 s.round (hearer n.0 n.1) (s.supplied n.0 n.1))) (All-contains_itself (map at rows))

  keep : AllKeepSenders beside (senders_of r) (map (as_member r.params) rows)
  keep one other here there =
      let at = as_member r.params in
      let senders = senders_of r in
      let first = map_contains at rows one here in
      let second = map_contains at rows other there in
      let kept = hearers_keep_senders beside r reach reach first.0 second.0 s.round s.arbitrary (hearer first.0 first.1) (hearer second.0 second.1) in
      let Keep : Member → Member → Type 0 = λ a b. KeepSenders beside senders a.offsets b.offsets × KeepSenders beside senders a.rates b.rates in
      let First : Member → Type 0 = λ a. Keep a other in
      subst First first.2 (subst (Keep (at first.0)) second.2 kept)

pub rounds_in_reach_are_sharp : RoundsInReachAreSharp
rounds_in_reach_are_sharp beside r flutter reach rows s = record {
  among = among beside r flutter reach rows s;
  acts = acts beside r flutter reach rows s;
  computes = computes beside r flutter reach rows s;
  keep = keep beside r flutter reach rows s;
}

-- ---- a round whose receivers lie so near

module _ (beside : Bool) (r : Round) (flutter starts lengths : ℕ) (beyond walk reach : ℤ) (rows : List Hearer) (s : IsSharpRound beside r flutter starts lengths beyond walk reach rows) where
  sharp_members : AreSharp r.params starts lengths beyond (map (λ (node : Member). node.even) (map (as_member r.params) rows))
  sharp_members =
      let At : List NodeRow → Type 0 = λ evens. AreSharp r.params starts lengths beyond evens in
      subst At (sym (evens_are r rows)) s.sharp

  regular_members : (node : Member) → Contains (map (as_member r.params) rows) node → IsRegular r.params node.even node.odd
  regular_members node is =
      let n = map_contains (as_member r.params) rows node is in
      let At : Member → Type 0 = λ node. IsRegular r.params node.even node.odd in
      subst At n.2 (s.supplied n.0 n.1).regular

  double : Double r.params starts lengths beyond (map (as_member r.params) rows)
  double = record { sane = s.round.sane; sharp = sharp_members; regular = regular_members }

  in_reach : IsRoundInReach beside r flutter reach rows
  in_reach = record {
    round = s.round;
    arbitrary = s.arbitrary;
    suffices = s.numbers.suffices;
    acts =
        λ is_odd one other action here there from to.
        reached_by r.params flutter starts lengths beyond walk reach (pos (last_action r.params)) action is_odd one.even one.odd other.even other.odd s.numbers (regular_members one here) (regular_members other there)
        (nodes_near r.params starts lengths beyond (map (as_member r.params) rows) double one other here there) from to;
    supplied = s.supplied;
    among = s.among;
  }

pub rounds_are_sharp : RoundsAreSharp
rounds_are_sharp beside r flutter starts lengths beyond walk reach rows s = (
  sharp_members beside r flutter starts lengths beyond walk reach rows s,
  rounds_in_reach_are_sharp beside r flutter reach rows (in_reach beside r flutter starts lengths beyond walk reach rows s),
)
