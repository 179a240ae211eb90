-- What some receivers of a double cycle hear of each kind, nodes with rows or nodes that follow: all of all, any two enough in common, or
-- each what it has.
use Rattle.std.proofs.Common.{◌≡◌, ◌⊎◌, ℕ, ◌+◌, ◌==◌, ◌||◌, Bool, true, false, not, ℤ, pos, Option, Some, None, refl, ap, ◌∙◌, subst, inl, inr, arith}
use Rattle.std.specs.Prelude.{◌≤◌, Contains, is_some, nat_le, nat_lt, List}
use Rattle.std.proofs.lemmas.Bool.{and_parts, eqb-true}
use Rattle.std.proofs.lemmas.Bool.Decides.{nat_tests}
use Rattle.fr_base.specs.Within.{IsBetween}
use Rattle.fr_cluster.proofs.Elements.{filtered}
use Rattle.fr_cluster.specs.Setting.{Setting, correct_nodes, is_correct}
use Rattle.fr_cluster.specs.Values.{Values}
use Rattle.fr_cluster.specs.declared.join.Join.{Join}
use Rattle.fr_cluster.specs.declared.nodes.NodeSpec.{NodeSpec}
use Rattle.fr_bound.specs.SharpBounds.{last_action}
use Rattle.fr_measure.specs.Values.{offset_at, rate_at}
use Rattle.fr_precision.specs.Among.{AllOffsets, AllRates, CommonOffsets, CommonRates, MeetingOffsets, MeetingRates, OffsetsSo, OwnOffsets, OwnOrKept, OwnRates, RatesSo}
use Rattle.fr_precision.specs.Hearing.{AllowsArbitrary}
use Rattle.fr_precision.specs.Lengths.{IsSteadyRound, KeepSenders}
use Rattle.fr_precision.specs.Offsets.{IsDeviation, IsOffsetRound}
use Rattle.fr_precision.specs.Round.{sender_at, senders_of, Hearer, IsRound, IsSender, Round}
use Rattle.fr_precision.specs.Rows.{Sender}
use Rattle.fr_precision.specs.SharpRound.{as_member}
use Rattle.fr_precision.specs.Steady.{PlacesEven}
use Rattle.fr_precision.specs.Step.{IsAmong, Member}
use Rattle.fr_precision.proofs.RoundLemmas.{acts_early, all_senders, sender_among}
use Rattle.fr_history.specs.Cycles.{Cycle, Cycles}
use Rattle.fr_history.specs.Lawful.{IsLawful}
use Rattle.fr_history.specs.Standing.{has_row, row_nodes}
use Rattle.fr_history.proofs.Standing.{stand_in_time}
use Rattle.fr_runs.specs.Gathered.{round_at}
use Rattle.fr_runs.specs.SteadyRuns.{row_hearers, row_members, AreRowsInReach, MayHaveArbitrary}
use Rattle.fr_runs.proofs.Fed.{row_receivers}
use Rattle.fr_runs.proofs.Hearing.{hearer_from, Receivers, RowsSend}
use Rattle.fr_runs.proofs.KeyedCounts.{all_pass}
use Rattle.fr_runs.proofs.Nodes.{correct_node}
use Rattle.fr_runs.proofs.RowsSupplied.{receiving, sending, LawfulRows}
use Rattle.fr_traffic.specs.Traffic.{all_have, has_all, has_and_meets, has_begun, is_trusted, kind_by, lists_meet, may_receive, may_send_by, meets_each, sure_count, traffic_of, two_meet, Traffic}
use Rattle.fr_traffic.specs.RoundsInPart.{IsSuppliedInPart}
use Rattle.fr_traffic.proofs.HeardAtMost.{trusted_so}
use Rattle.fr_traffic.proofs.HeardInCommon.{common_offsets, common_rates, enough_met, row_receives}
use Rattle.fr_traffic.proofs.HeardInPart.{all_offset_round, all_offsets_told, all_rate_round, all_rates_told, lists_keep, own_offsets, own_rates}
use Rattle.fr_traffic.proofs.HeardSurely.{all_there, value_by, ReceivesOwn}
use Rattle.fr_sharp.proofs.RowsInPart.{round_is, row_placed, senders_among}

-- ---- by the kind of what is heard

pub offsets_by : (all none meet : Bool) (p : Values) (senders : List Sender) (rows : List Member) (last : ℤ) (is : Member → Type 0)
    → (all ≡ true → none ≡ true → AllOffsets false p senders rows last is) → (all ≡ true → AllOffsets true p senders rows last is)
    → (all ≡ false → meet ≡ true → MeetingOffsets p rows last is) → (all ≡ false → (node : Member) → is node → OwnOffsets p rows last node)
    → OffsetsSo (kind_by all none meet) p senders rows last is
offsets_by true true meet p senders rows last is clean beside meeting own = clean refl refl
offsets_by true false meet p senders rows last is clean beside meeting own = inl (beside refl)
offsets_by false none true p senders rows last is clean beside meeting own = inr (meeting refl refl)
offsets_by false none false p senders rows last is clean beside meeting own = own refl

pub rates_by : (all none meet some_keep : Bool) (p : Values) (flutter : ℕ) (senders : List Sender) (rows : List Member) (is : Member → Type 0)
    → (all ≡ true → none ≡ true → AllRates false p flutter senders rows is) → (all ≡ true → AllRates true p flutter senders rows is)
    → (all ≡ false → meet ≡ true → MeetingRates p flutter rows is) → (all ≡ false → (node : Member) → is node → OwnOrKept some_keep p flutter rows node)
    → RatesSo (kind_by all none meet) some_keep p flutter senders rows is
rates_by true true meet some_keep p flutter senders rows is clean beside meeting own = clean refl refl
rates_by true false meet some_keep p flutter senders rows is clean beside meeting own = inl (beside refl)
rates_by false none true some_keep p flutter senders rows is clean beside meeting own = inr (meeting refl refl)
rates_by false none false some_keep p flutter senders rows is clean beside meeting own = own refl

-- ---- receivers

-- one that has begun, whose deviations are placed
pub record IsHearing (x : Setting) (flutter : ℕ) (h : Cycles) (even odd : Cycle) (double : ℕ) (reach : ℤ) (rs : Receivers) (node : NodeSpec) : Type 0 where
  pub receives : ReceivesOwn x h even odd reach rs node
  pub begun : has_begun (x.join node.id) double ≡ true
  pub supplied : IsSuppliedInPart (round_at x h even odd) flutter (hearer_from x rs node.id)

-- a member of the step is one
pub record IsMember (x : Setting) (flutter : ℕ) (h : Cycles) (even odd : Cycle) (double : ℕ) (reach : ℤ) (one : Member) : Type 0 where
  pub rs : Receivers
  pub node : NodeSpec
  pub hears : IsHearing x flutter h even odd double reach rs node
  pub same : as_member x.params (hearer_from x rs node.id) ≡ one

module _
    (x : Setting) (flutter : ℕ) (h : Cycles) (even odd : Cycle) (double : ℕ) (reach : ℤ) (s : LawfulRows x flutter h even odd double) (r : AreRowsInReach x h even odd reach) (lawful : IsLawful x h) where
  abbrev round : Round
  round = round_at x h even odd

  abbrev Hears : Receivers → NodeSpec → Type 0
  Hears rs node = IsHearing x flutter h even odd double reach rs node

  abbrev t : Traffic
  t = traffic_of x

  abbrev nodes : List Member
  nodes = row_members x h even odd

  abbrev last : ℤ
  last = pos (last_action x.params)

  abbrev hearer : Receivers → NodeSpec → Hearer
  hearer rs node = hearer_from x rs node.id

  sends : RowsSend x h even odd double reach
  sends = sending x flutter h even odd double reach s r

  is_round : IsRound (round_at x h even odd)
  is_round = round_is x flutter h even odd double reach s r

  right : (a b : Bool) → a ≡ true → (not a || b) ≡ true → b ≡ true
  right true b is either = either
  right false b is either = absurd (cc)

  -- ---- a node with a row has joined long ago

  no_more : (a b : ℕ) → a ≤ b → nat_le a b ≡ true
  no_more a b le = grind (arith, nat_tests)

  less : (a b : ℕ) → a + 1 ≤ b → nat_lt a b ≡ true
  less a b le = grind (arith, nat_tests)

  joined_before : (id : ℕ) (join : Join) → x.join id ≡ Some join → has_row x h id ≡ true → join.double + 3 ≤ double
  joined_before id join at has =
      let counted = s.counted in
      let from = (stand_in_time x h id join lawful at).row_from has in
      omega (arith, counted, from)

  sends_by : (sender : NodeSpec) (slot : ℕ) → IsSender (round_at x h even odd) sender slot → may_send_by (x.join sender.id) double ≡ true
  sends_by sender slot from = by (x.join sender.id) refl
    where
      by : (join : Option Join) → x.join sender.id ≡ join → may_send_by (x.join sender.id) double ≡ true
      by None at = ap (λ (o : Option Join). may_send_by o double) at
      by (Some join) at =
          ap (λ (o : Option Join). may_send_by o double) at
          ∙ no_more (join.double + 3) double (joined_before sender.id join at (and_parts (is_correct x sender.id) (has_row x h sender.id) from.rows).1)

  row_begun : (node : NodeSpec) → Contains (row_nodes x h) node → has_begun (x.join node.id) double ≡ true
  row_begun node among = by (x.join node.id) refl
    where
      by : (join : Option Join) → x.join node.id ≡ join → has_begun (x.join node.id) double ≡ true
      by None at = ap (λ (o : Option Join). has_begun o double) at
      by (Some join) at =
          let before = joined_before node.id join at (filtered (λ (n : NodeSpec). has_row x h n.id) (correct_nodes x) node among).1 in
          ap (λ (o : Option Join). has_begun o double) at ∙ less join.double double (omega (arith, before))

  pub row_hears : (node : NodeSpec) → Contains (row_nodes x h) node → IsHearing x flutter h even odd double reach (row_receivers x h even odd) node
  row_hears node among = record {
    receives = row_receives x h even odd reach node s.covered.sane (receiving x flutter h even odd double reach s r node among);
    begun = row_begun node among;
    supplied = row_placed x flutter h even odd double reach s r node among;
  }

  -- ---- one of them

  asked : (rs : Receivers) (node : NodeSpec) → Hears rs node → may_receive (traffic_of x) double node ≡ true
  asked rs node i = rw ((correct_node x node i.receives.is.correct).correct, i.begun) refl

  there : (rs : Receivers) (node : NodeSpec) → Hears rs node → Contains x.params.nodes node
  there rs node i = (correct_node x node i.receives.is.correct).there

  -- where all are had, it has a value of each sender of the round
  all_said : (rate : Bool) (rs : Receivers) (node : NodeSpec) → all_have rate (traffic_of x) double ≡ true → Hears rs node → (index : ℕ) → is_some (sender_at (round_at x h even odd) index) ≡ true
      → is_some (value_by rate (hearer_from x rs node.id) index) ≡ true
  all_said rate rs node have i index from =
      let one = all_pass (λ (b : NodeSpec). not (may_receive t double b) || has_all rate t double b) x.params.nodes node have (there rs node i) in
      all_there x h even odd double reach rs node sends i.receives.is i.receives.owns sends_by rate index (right (may_receive t double node) (has_all rate t double node) (asked rs node i) one) from

  meets : (rate : Bool) (rs : Receivers) (node : NodeSpec) → lists_meet rate (traffic_of x) double ≡ true → Hears rs node
      → (nat_le 1 (sure_count rate (traffic_of x) double node) ≡ true) × (meets_each rate (traffic_of x) double node ≡ true)
  meets rate rs node meet i =
      let one = all_pass (λ (b : NodeSpec). not (may_receive t double b) || has_and_meets rate t double b) x.params.nodes node meet (there rs node i) in
      and_parts (nat_le 1 (sure_count rate t double node)) (meets_each rate t double node) (right (may_receive t double node) (has_and_meets rate t double node) (asked rs node i) one)

  two_of : (rate : Bool) (bs cs : Receivers) (b c : NodeSpec) → lists_meet rate (traffic_of x) double ≡ true → Hears bs b → Hears cs c → (b.id == c.id) ≡ false → two_meet rate (traffic_of x) double b c ≡ true
  two_of rate bs cs b c meet i j differ =
      let each = (meets rate bs b meet i).1 in
      let one = all_pass (λ (c : NodeSpec). not (may_receive t double c) || (b.id == c.id || two_meet rate t double b c)) x.params.nodes c each (there cs c j) in
      second (b.id == c.id) (two_meet rate t double b c) differ (right (may_receive t double c) (b.id == c.id || two_meet rate t double b c) (asked cs c j) one)
    where
      second : (a b : Bool) → a ≡ false → (a || b) ≡ true → b ≡ true
      second false b fails is = is
      second true b fails is = absurd (cc)

  allows : (beside : Bool) → MayHaveArbitrary beside x → AllowsArbitrary beside (round_at x h even odd)
  allows false none = none
  allows true any = any

  -- ---- some of them

  module _
      (is : Member → Type 0) (of : (one : Member) → is one → IsMember x flutter h even odd double reach one)
      (sole : (one other : Member) (i : is one) (j : is other) → (of one i).node.id ≡ (of other j).node.id → one ≡ other) where
    -- where each has a value of all
    pub all_offsets : (beside : Bool) → MayHaveArbitrary beside x → all_have false (traffic_of x) double ≡ true
        → AllOffsets beside x.params (senders_of (round_at x h even odd)) (row_members x h even odd) (pos (last_action x.params)) is
    all_offsets beside may have = record {
      among = all_senders round (IsAmong nodes) (sender_among round (row_hearers x h even odd) (senders_among x flutter h even odd double reach s r));
      acts = all_senders round (λ (sender : Sender). IsBetween (pos 0) (pos (last_action x.params)) sender.action) (acts_early round s.covered.sane);
      rounds = λ one i.
          let m = of one i in
          subst Round_of m.same (all_offset_round round flutter (hearer m.rs m.node) is_round m.hears.supplied (all_said false m.rs m.node have m.hears));
      keep = λ one other i j.
          let m = of one i in
          let k = of other j in
          let told = all_offsets_told round flutter (hearer m.rs m.node) is_round m.hears.supplied (all_said false m.rs m.node have m.hears) in
          let also = all_offsets_told round flutter (hearer k.rs k.node) is_round k.hears.supplied (all_said false k.rs k.node have k.hears) in
          let First : Member → Type 0 = λ a. Keeps a other in
          subst First m.same
          (
          subst (Keeps (as_member x.params (hearer m.rs m.node))) k.same
          (
          lists_keep beside round (λ sender value. IsDeviation x.params true sender.action (hearer m.rs m.node).odd sender.odd value)
          (λ sender value. IsDeviation x.params true sender.action (hearer k.rs k.node).odd sender.odd value) (offset_at (hearer m.rs m.node).look (hearer m.rs m.node).own)
          (offset_at (hearer k.rs k.node).look (hearer k.rs k.node).own) is_round (allows beside may) told also
          )
          );
    }
      where
        Round_of : Member → Type 0
        Round_of one = IsOffsetRound x.params (senders_of (round_at x h even odd)) one.odd one.offsets one.offset_term

        Keeps : Member → Member → Type 0
        Keeps one other = KeepSenders beside (senders_of (round_at x h even odd)) one.offsets other.offsets

    pub all_rates : (beside : Bool) → MayHaveArbitrary beside x → all_have true (traffic_of x) double ≡ true
        → AllRates beside x.params flutter (senders_of (round_at x h even odd)) (row_members x h even odd) is
    all_rates beside may have = record {
      among = all_senders round (IsAmong nodes) (sender_among round (row_hearers x h even odd) (senders_among x flutter h even odd double reach s r));
      rounds = λ one i.
          let m = of one i in
          subst Round_of m.same (all_rate_round round flutter (hearer m.rs m.node) is_round m.hears.supplied (all_said true m.rs m.node have m.hears));
      keep = λ one other i j.
          let m = of one i in
          let k = of other j in
          let told = all_rates_told round flutter (hearer m.rs m.node) is_round m.hears.supplied (all_said true m.rs m.node have m.hears) in
          let also = all_rates_told round flutter (hearer k.rs k.node) is_round k.hears.supplied (all_said true k.rs k.node have k.hears) in
          let First : Member → Type 0 = λ a. Keeps a other in
          subst First m.same
          (
          subst (Keeps (as_member x.params (hearer m.rs m.node))) k.same
          (
          lists_keep beside round (λ sender value. PlacesEven x.params flutter sender (hearer m.rs m.node).odd value) (λ sender value. PlacesEven x.params flutter sender (hearer k.rs k.node).odd value)
          (rate_at (hearer m.rs m.node).look (hearer m.rs m.node).own) (rate_at (hearer k.rs k.node).look (hearer k.rs k.node).own) is_round (allows beside may) told also
          )
          );
    }
      where
        Round_of : Member → Type 0
        Round_of one = IsSteadyRound x.params flutter (senders_of (round_at x h even odd)) one.odd one.rates one.rate_term

        Keeps : Member → Member → Type 0
        Keeps one other = KeepSenders beside (senders_of (round_at x h even odd)) one.rates other.rates

    -- one that trusts its list has values of its own
    pub trusting_offsets : (one : Member) (i : is one) → is_trusted false (traffic_of x) double (of one i).node ≡ true → OwnOffsets x.params (row_members x h even odd) (pos (last_action x.params)) one
    trusting_offsets one i trusted =
        let m = of one i in
        subst (OwnOffsets x.params nodes last) m.same
        (
        own_offsets round flutter (row_hearers x h even odd) (hearer m.rs m.node) is_round (senders_among x flutter h even odd double reach s r) m.hears.supplied
        (trusted_so x h even odd double reach m.rs m.node sends m.hears.receives false trusted)
        )

    pub trusting_rates : (one : Member) (i : is one) → is_trusted true (traffic_of x) double (of one i).node ≡ true → OwnRates x.params flutter (row_members x h even odd) one
    trusting_rates one i trusted =
        let m = of one i in
        subst (OwnRates x.params flutter nodes) m.same
        (
        own_rates round flutter (row_hearers x h even odd) (hearer m.rs m.node) is_round (senders_among x flutter h even odd double reach s r) m.hears.supplied
        (trusted_so x h even odd double reach m.rs m.node sends m.hears.receives true trusted)
        )

    -- where lists meet, and each that surely has a value trusts its list
    trusts_there : (rate : Bool) → lists_meet rate (traffic_of x) double ≡ true
        → ((one : Member) (i : is one) → nat_le 1 (sure_count rate (traffic_of x) double (of one i).node) ≡ true → is_trusted rate (traffic_of x) double (of one i).node ≡ true)
        → (one : Member) (i : is one) → is_trusted rate (traffic_of x) double (of one i).node ≡ true
    trusts_there rate meet trusts one i = let m = of one i in trusts one i (meets rate m.rs m.node meet m.hears).0

    pub meeting_offsets : lists_meet false (traffic_of x) double ≡ true
        → ((one : Member) (i : is one) → nat_le 1 (sure_count false (traffic_of x) double (of one i).node) ≡ true → is_trusted false (traffic_of x) double (of one i).node ≡ true)
        → MeetingOffsets x.params (row_members x h even odd) (pos (last_action x.params)) is
    meeting_offsets meet trusts = record {
      each = λ one i. trusting_offsets one i (trusts_there false meet trusts one i);
      two = λ one other i j. by one other i j ((of one i).node.id == (of other j).node.id) refl;
    }
      where
        by : (one other : Member) (i : is one) (j : is other) (same : Bool) → ((of one i).node.id == (of other j).node.id) ≡ same
            → (one ≡ other) ⊎ CommonOffsets x.params (row_members x h even odd) (pos (last_action x.params)) one other
        by one other i j true same = inl (sole one other i j (eqb-true (of one i).node.id (of other j).node.id same))
        by one other i j false differ =
            let m = of one i in
            let k = of other j in
            let First : Member → Type 0 = λ a. CommonOffsets x.params nodes last a other in
            inr (
            subst First m.same
            (
            subst (CommonOffsets x.params nodes last (as_member x.params (hearer m.rs m.node))) k.same
            (
            common_offsets round flutter (row_hearers x h even odd) (hearer m.rs m.node) (hearer k.rs k.node) is_round (senders_among x flutter h even odd double reach s r) m.hears.supplied k.hears.supplied
            (trusted_so x h even odd double reach m.rs m.node sends m.hears.receives false (trusts_there false meet trusts one i))
            (trusted_so x h even odd double reach k.rs k.node sends k.hears.receives false (trusts_there false meet trusts other j))
            (enough_met x h even odd double reach sends m.rs k.rs m.node k.node m.hears.receives k.hears.receives false (two_of false m.rs k.rs m.node k.node meet m.hears k.hears differ))
            )
            )
            )

    pub meeting_rates : lists_meet true (traffic_of x) double ≡ true
        → ((one : Member) (i : is one) → nat_le 1 (sure_count true (traffic_of x) double (of one i).node) ≡ true → is_trusted true (traffic_of x) double (of one i).node ≡ true)
        → MeetingRates x.params flutter (row_members x h even odd) is
    meeting_rates meet trusts = record {
      each = λ one i. trusting_rates one i (trusts_there true meet trusts one i);
      two = λ one other i j. by one other i j ((of one i).node.id == (of other j).node.id) refl;
    }
      where
        by : (one other : Member) (i : is one) (j : is other) (same : Bool) → ((of one i).node.id == (of other j).node.id) ≡ same
            → (one ≡ other) ⊎ CommonRates x.params flutter (row_members x h even odd) one other
        by one other i j true same = inl (sole one other i j (eqb-true (of one i).node.id (of other j).node.id same))
        by one other i j false differ =
            let m = of one i in
            let k = of other j in
            let First : Member → Type 0 = λ a. CommonRates x.params flutter nodes a other in
            inr (
            subst First m.same
            (
            subst (CommonRates x.params flutter nodes (as_member x.params (hearer m.rs m.node))) k.same
            (
            common_rates round flutter (row_hearers x h even odd) (hearer m.rs m.node) (hearer k.rs k.node) is_round (senders_among x flutter h even odd double reach s r) m.hears.supplied k.hears.supplied
            (trusted_so x h even odd double reach m.rs m.node sends m.hears.receives true (trusts_there true meet trusts one i))
            (trusted_so x h even odd double reach k.rs k.node sends k.hears.receives true (trusts_there true meet trusts other j))
            (enough_met x h even odd double reach sends m.rs k.rs m.node k.node m.hears.receives k.hears.receives true (two_of true m.rs k.rs m.node k.node meet m.hears k.hears differ))
            )
            )
            )
