-- The nodes with rows of a double cycle of a run that no node joins hear what is said of it, where each correct node bears it.
use Rattle.std.proofs.Common.{◌≡◌, ℕ, ◌||◌, Bool, true, false, pos, ℤ, ◌∷◌, List, map, refl, ap, sym, ◌∙◌, subst, inl, inr}
use Rattle.std.specs.Prelude.{Contains, nat_eq, nat_le}
use Rattle.fr_cluster.specs.Setting.{Setting}
use Rattle.fr_cluster.specs.declared.nodes.NodeSpec.{NodeSpec}
use Rattle.fr_bound.specs.SharpBounds.{last_action}
use Rattle.fr_precision.specs.Among.{HeardSo, OffsetsSo, OwnOffsets, OwnOrKept, RatesSo}
use Rattle.fr_precision.specs.Placement.{IsRegular}
use Rattle.fr_precision.specs.Round.{senders_of, Hearer}
use Rattle.fr_precision.specs.SharpRound.{as_member}
use Rattle.fr_precision.specs.Step.{Member}
use Rattle.fr_precision.proofs.RoundLemmas.{map_contains}
use Rattle.fr_history.specs.Cycles.{Cycle, Cycles}
use Rattle.fr_history.specs.Lawful.{IsLawful}
use Rattle.fr_history.specs.Standing.{row_nodes}
use Rattle.fr_runs.specs.Gathered.{round_at, row_hearer}
use Rattle.fr_runs.specs.SteadyRuns.{row_hearers, row_members, AreRowsInReach}
use Rattle.fr_runs.proofs.Courses.{is_correct_row}
use Rattle.fr_runs.proofs.Fed.{lawful_part, row_receivers}
use Rattle.fr_runs.proofs.KeyedCounts.{all_pass}
use Rattle.fr_runs.proofs.Nodes.{correct_node}
use Rattle.fr_runs.proofs.RowsSupplied.{members_regular, timed_rows_from, LawfulRows}
use Rattle.fr_promise.proofs.RunDoubles.{all_have as each_has, AllHave}
use Rattle.fr_traffic.specs.Traffic.{all_bear, all_have, arbitrary_count, bears, heard_in, is_deaf, is_trusted, kind_in, lists_meet, some_keep, sure_count, traffic_of, trusts_or_lacks, Traffic}
use Rattle.fr_sharp.specs.Bearing.{borne}
use Rattle.fr_sharp.specs.Losses.{RowsHear}
use Rattle.fr_sharp.proofs.BearingKinds.{sure_is_awake}
use Rattle.fr_sharp.proofs.BearingRows.{bears_at, borne_all_offsets, borne_all_rates, borne_meeting_offsets, borne_meeting_rates, borne_own_offsets, borne_own_rates, offsets_none, rate_kept}
use Rattle.fr_sharp.proofs.HeardKinds.{none_arbitrary}
use Rattle.fr_sharp.proofs.ReceiversHear.{all_offsets, all_rates, meeting_offsets, meeting_rates, offsets_by, rates_by, row_hears, trusting_offsets, trusting_rates, IsMember}

module _
    (x : Setting) (flutter : ℕ) (h : Cycles) (even odd : Cycle) (double : ℕ) (reach : ℤ) (s : LawfulRows x flutter h even odd double) (r : AreRowsInReach x h even odd reach) (lawful : IsLawful x h)
    (all : AllHave x h) (bear : all_bear x.params (traffic_of x) double ≡ true) where
  abbrev t : Traffic
  t = traffic_of x

  abbrev plain : List Member
  plain = row_members x h even odd

  abbrev Is : Member → Type 0
  Is one = Contains (row_members x h even odd) one

  -- a member is that of a node with a row
  record IsRow (one : Member) : Type 0 where
    node : NodeSpec
    among : Contains (row_nodes x h) node
    same : as_member x.params (row_hearer x even odd node.id) ≡ one

  row_of : (one : Member) → Contains (row_members x h even odd) one → IsRow one
  row_of one here =
      let at : NodeSpec → Hearer = λ n. row_hearer x even odd n.id in
      let n = map_contains (as_member x.params) (row_hearers x h even odd) one here in
      let from = map_contains at (row_nodes x h) n.0 n.1 in
      record { node = from.0; among = from.1; same = ap (as_member x.params) from.2 ∙ n.2 }

  abbrev of : (one : Member) → Contains (row_members x h even odd) one → IsMember x flutter h even odd double reach one
  of one here = record {
    rs = row_receivers x h even odd;
    node = (row_of one here).node;
    hears = row_hears x flutter h even odd double reach s r lawful (row_of one here).node (row_of one here).among;
    same = (row_of one here).same;
  }

  sole : (one other : Member) (i : Contains (row_members x h even odd) one) (j : Contains (row_members x h even odd) other) → (row_of one i).node.id ≡ (row_of other j).node.id → one ≡ other
  sole one other i j same = sym (row_of one i).same ∙ ap (λ (id : ℕ). as_member x.params (row_hearer x even odd id)) same ∙ (row_of other j).same

  -- ---- which of them trust their lists

  bears_it : (rate : Bool) (node : NodeSpec) → Contains (row_nodes x h) node → trusts_or_lacks rate (traffic_of x) double node ≡ true
  bears_it rate node among =
      let correct = correct_node x node (is_correct_row x h node among) in
      let both = bears_at x flutter h even odd double reach s r all node among (all_pass (bears x.params t double) x.params.nodes node bear correct.there) in
      by rate both.0 both.1
    where
      by : (rate : Bool) → trusts_or_lacks false (traffic_of x) double node ≡ true → trusts_or_lacks true (traffic_of x) double node ≡ true → trusts_or_lacks rate (traffic_of x) double node ≡ true
      by false offsets rates = offsets
      by true offsets rates = rates

  trusts : (rate : Bool) (node : NodeSpec) → Contains (row_nodes x h) node → is_deaf rate (traffic_of x) double node ≡ false → is_trusted rate (traffic_of x) double node ≡ true
  trusts rate node among awake = right (is_deaf rate t double node) (is_trusted rate t double node) awake (bears_it rate node among)
    where
      right : (a b : Bool) → a ≡ false → (a || b) ≡ true → b ≡ true
      right false b fails is = is
      right true b fails is = absurd (cc)

  sure_trusts : (rate : Bool) (one : Member) (i : Contains (row_members x h even odd) one) → nat_le 1 (sure_count rate (traffic_of x) double (row_of one i).node) ≡ true
      → is_trusted rate (traffic_of x) double (row_of one i).node ≡ true
  sure_trusts rate one i some = let at = row_of one i in trusts rate at.node at.among (sure_is_awake rate t double at.node some)

  -- ---- what each has

  own_offsets : (one : Member) → Contains (row_members x h even odd) one → OwnOffsets x.params (map borne (row_members x h even odd)) (pos (last_action x.params)) (borne one)
  own_offsets one i = by (is_deaf false t double (row_of one i).node) refl
    where
      by : (deaf : Bool) → is_deaf false (traffic_of x) double (row_of one i).node ≡ deaf → OwnOffsets x.params (map borne (row_members x h even odd)) (pos (last_action x.params)) (borne one)
      by true deaf =
          let at = row_of one i in
          let Own : Member → Type 0 = λ node. OwnOffsets x.params (map borne plain) (pos (last_action x.params)) (borne node) in
          subst Own at.same (offsets_none x flutter h even odd double reach s r all at.node at.among deaf)
      by false awake =
          let at = row_of one i in
          borne_own_offsets x.params flutter plain (pos (last_action x.params)) one
          (trusting_offsets x flutter h even odd double reach s r lawful Is of sole one i (trusts false at.node at.among awake))

  own_rates : (one : Member) → Contains (row_members x h even odd) one → OwnOrKept (some_keep (traffic_of x) double) x.params flutter (map borne (row_members x h even odd)) (borne one)
  own_rates one i = by (is_deaf true t double (row_of one i).node) refl
    where
      by : (deaf : Bool) → is_deaf true (traffic_of x) double (row_of one i).node ≡ deaf → OwnOrKept (some_keep (traffic_of x) double) x.params flutter (map borne (row_members x h even odd)) (borne one)
      by true deaf =
          let at = row_of one i in
          let Own : Member → Type 0 = λ node. OwnOrKept (some_keep t double) x.params flutter (map borne plain) (borne node) in
          subst Own at.same (inr (rate_kept x flutter h even odd double reach s r all at.node at.among deaf))
      by false awake =
          let at = row_of one i in
          inl (
          borne_own_rates x.params flutter plain (pos (last_action x.params)) one
          (trusting_rates x flutter h even odd double reach s r lawful Is of sole one i (trusts true at.node at.among awake))
          )

  -- ---- what all hear

  offsets_heard : OffsetsSo (kind_in false (traffic_of x) double) x.params (senders_of (round_at x h even odd)) (map borne (row_members x h even odd)) (pos (last_action x.params))
      (λ node. Contains (map borne (row_members x h even odd)) node)
  offsets_heard =
      offsets_by (all_have false t double) (nat_eq (arbitrary_count t) 0) (lists_meet false t double) x.params (senders_of (round_at x h even odd)) (map borne plain) (pos (last_action x.params))
      (λ node. Contains (map borne plain) node)
      (λ have none. borne_all_offsets x.params flutter plain (pos (last_action x.params)) false (senders_of (round_at x h even odd)) (all_offsets x flutter h even odd double reach s r lawful Is of sole false (none_arbitrary x double none) have))
      (λ have. borne_all_offsets x.params flutter plain (pos (last_action x.params)) true (senders_of (round_at x h even odd)) (all_offsets x flutter h even odd double reach s r lawful Is of sole true tt have))
      (λ some meet. borne_meeting_offsets x.params flutter plain (pos (last_action x.params)) (meeting_offsets x flutter h even odd double reach s r lawful Is of sole meet (sure_trusts false)))
      (λ some node here.
      let m = map_contains borne plain node here in
      subst (OwnOffsets x.params (map borne plain) (pos (last_action x.params))) m.2 (own_offsets m.0 m.1))

  rates_heard : RatesSo (kind_in true (traffic_of x) double) (some_keep (traffic_of x) double) x.params flutter (senders_of (round_at x h even odd)) (map borne (row_members x h even odd))
      (λ node. Contains (map borne (row_members x h even odd)) node)
  rates_heard =
      rates_by (all_have true t double) (nat_eq (arbitrary_count t) 0) (lists_meet true t double) (some_keep t double) x.params flutter (senders_of (round_at x h even odd)) (map borne plain)
      (λ node. Contains (map borne plain) node)
      (λ have none. borne_all_rates x.params flutter plain (pos (last_action x.params)) false (senders_of (round_at x h even odd)) (all_rates x flutter h even odd double reach s r lawful Is of sole false (none_arbitrary x double none) have))
      (λ have. borne_all_rates x.params flutter plain (pos (last_action x.params)) true (senders_of (round_at x h even odd)) (all_rates x flutter h even odd double reach s r lawful Is of sole true tt have))
      (λ some meet. borne_meeting_rates x.params flutter plain (pos (last_action x.params)) (meeting_rates x flutter h even odd double reach s r lawful Is of sole meet (sure_trusts true)))
      (λ some node here.
      let m = map_contains borne plain node here in
      let Own : Member → Type 0 = λ one. OwnOrKept (some_keep t double) x.params flutter (map borne plain) one in
      subst Own m.2 (own_rates m.0 m.1))

  regular : (node : Member) → Contains (map borne (row_members x h even odd)) node → IsRegular x.params node.even node.odd
  regular node here =
      let m = map_contains borne plain node here in
      let Of : Member → Type 0 = λ one. IsRegular x.params one.even one.odd in
      subst Of m.2 (members_regular x flutter h even odd double s r.rates m.0 m.1)

  pub heard_so : HeardSo (heard_in (traffic_of x) double) (some_keep (traffic_of x) double) x.params flutter (senders_of (round_at x h even odd)) (map borne (row_members x h even odd)) (pos (last_action x.params))
  heard_so = record { regular = regular; offsets = offsets_heard; rates = rates_heard }

pub rows_hear : RowsHear
rows_hear beside x from flutter h earlier even odd double reach none_joins w may late d bear r =
    let lawful = (lawful_part x d.later (odd ∷ even ∷ earlier) (subst (IsLawful x) d.parted w.lawful)).1.1 in
    heard_so x flutter earlier even odd double reach (timed_rows_from x from flutter h w double late earlier even odd d) r lawful (each_has x earlier none_joins) bear
