-- The nodes with rows of a double cycle as they are borne: those that hear nothing keep their rates and their ends.
use Rattle.std.proofs.Common.{◌≡◌, ◌⊎◌, ℕ, zero, suc, ◌+◌, ◌≤◌, ◌&&◌, ◌||◌, Bool, true, false, not, ℤ, pos, Option, Some, None, List, [], ◌∷◌, ◌++◌, All, length, map, refl, ap, sym, ◌∙◌, subst, inl, inr, arith, lit≤, if◌then◌else◌}
use Rattle.std.specs.Prelude.{Contains, int_lt, neg_ℤ, ◌+ℤ◌, ◌≤ℤ◌}
use Rattle.std.specs.List.{cons_option, filter_map, range_with_len}
use Rattle.std.proofs.lemmas.Bool.{and_parts}
use Rattle.std.proofs.lemmas.Int.{ints}
use Rattle.std.proofs.lemmas.List.{length-append}
use Rattle.std.proofs.lemmas.List.Sorted.{length_permutation, IsPermutation-refl}
use Rattle.std.proofs.lemmas.Slice.Zip.{AllZip-long}
use Rattle.fr_base.specs.declared.node_row.NodeRow.{NodeRow}
use Rattle.fr_base.specs.declared.Outcome.{Outcome}
use Rattle.fr_base.specs.declared.Outcome.TheVariants.{Within, Exceeded}
use Rattle.fr_base.specs.Within.{IsBetween}
use Rattle.fr_cluster.specs.Sane.{IsSane}
use Rattle.fr_cluster.specs.Setting.{Setting}
use Rattle.fr_cluster.specs.Values.{Values}
use Rattle.fr_cluster.specs.declared.nodes.NodeSpec.{NodeSpec}
use Rattle.fr_midpoint.specs.Midpoint.{discarded, midpoint_by_ranks, IsMidpoint}
use Rattle.fr_midpoint.specs.Receivers.{Hears}
use Rattle.fr_midpoint.proofs.There.{midpoint_is_there_lem}
use Rattle.fr_measure.specs.Values.{values_of}
use Rattle.fr_correct.specs.declared.term.Term.{Term}
use Rattle.fr_correct.specs.Terms.{damped, missing_term, offset_term_of, rate_term_of, term_of, IsOffsetTerm, IsRateTerm}
use Rattle.fr_precision.specs.Offsets.{IsDeviation, IsOffsetRound}
use Rattle.fr_precision.specs.Lengths.{IsSteadyRound, KeepSenders}
use Rattle.fr_precision.specs.Among.{AllOffsets, AllRates, CommonOffsets, CommonRates, KeptRate, MeetingOffsets, MeetingRates, OwnOffsets, OwnRates}
use Rattle.fr_precision.specs.Round.{offsets_of, rates_of, Hearer}
use Rattle.fr_precision.specs.Rows.{Sender}
use Rattle.fr_precision.specs.SharpRound.{as_member}
use Rattle.fr_precision.specs.Steady.{PlacesEven}
use Rattle.fr_precision.specs.Step.{IsAmong, Member}
use Rattle.fr_precision.proofs.OffsetLaws.{micro_lasts, own_value_is_deviation}
use Rattle.fr_precision.proofs.Senders.{All-along}
use Rattle.fr_precision.proofs.Signed.{signed_of}
use Rattle.fr_bound.specs.SharpBounds.{last_action}
use Rattle.fr_history.specs.Cycles.{Cycle, Cycles}
use Rattle.fr_history.specs.Standing.{row_nodes}
use Rattle.fr_runs.specs.Gathered.{round_at, row_hearer}
use Rattle.fr_runs.specs.SteadyRuns.{row_hearers, row_members, AreRowsInReach}
use Rattle.fr_runs.proofs.Courses.{is_correct_row}
use Rattle.fr_runs.proofs.Nodes.{correct_node}
use Rattle.fr_precision.proofs.RoundLemmas.{contains_map, map_contains}
use Rattle.fr_runs.proofs.RowsSupplied.{LawfulRows}
use Rattle.fr_promise.proofs.RunDoubles.{AllHave}
use Rattle.fr_sharp.specs.Bearing.{borne, borne_outcome, borne_term, borne_values}
use Rattle.fr_traffic.specs.RoundsInPart.{IsTrustedOf}
use Rattle.fr_traffic.specs.Traffic.{bears, is_deaf, is_trusted, lacks_values, may_lack, none_lacks, some_keep, traffic_of, trusts_or_lacks}
use Rattle.fr_sharp.proofs.BearingKinds.{none_is_deaf_of}
use Rattle.fr_traffic.proofs.HeardSurely.{value_by}
use Rattle.fr_sharp.proofs.HeardValues.{no_value, trusted_of}
use Rattle.fr_sharp.proofs.RowsInPart.{row_placed}

-- ---- terms as they are borne

same_outcome : (b : Bool) → borne_outcome (if b then Exceeded else Within) ≡ (if b then Exceeded else Within)
same_outcome true = refl
same_outcome false = refl

borne_of : (limit before : ℤ) → borne_term (term_of limit before) ≡ term_of limit before
borne_of limit before =
    ap (λ (o : Outcome). let t : Term = record { value = (term_of limit before).value; before = before; outcome = o } in t) (same_outcome (int_lt limit before || int_lt before (neg_ℤ limit)))

kept_values : (values : List ℤ) → 1 ≤ length values → borne_values values ≡ values
kept_values [] some = absurd (omega (arith, some))
kept_values (value ∷ values) some = refl

pub kept_offset : (limit : ℤ) (values : List ℤ) (term : Term) → 1 ≤ length values → IsOffsetTerm limit values term → borne_term term ≡ term
kept_offset limit values term some (inl none) = let e : length values ≡ 0 = ap length none.0 in absurd (omega (arith, some, e))
kept_offset limit values term some (inr is) = ap borne_term is.2 ∙ borne_of limit is.0 ∙ sym is.2

pub kept_rate : (old damping limit : ℤ) (values : List ℤ) (term : Term) → 1 ≤ length values → IsRateTerm old damping limit values term → borne_term term ≡ term
kept_rate old damping limit values term some (inl none) = let e : length values ≡ 0 = ap length none.0 in absurd (omega (arith, some, e))
kept_rate old damping limit values term some (inr is) = ap borne_term is.2 ∙ borne_of limit (damped damping (old +ℤ is.0)) ∙ sym is.2

-- a node that has values of both kinds is borne as it is
pub kept_member : (node : Member) → 1 ≤ length node.offsets → borne_term node.offset_term ≡ node.offset_term → borne_term node.rate_term ≡ node.rate_term → borne node ≡ node
kept_member node some offset rate =
    let With : List ℤ → Term → Term → Member = λ values offset rate. record { even = node.even; odd = node.odd; offsets = values; rates = node.rates; offset_term = offset; rate_term = rate } in
    ap (λ (values : List ℤ). With values (borne_term node.offset_term) (borne_term node.rate_term)) (kept_values node.offsets some)
    ∙ ap (λ (t : Term). With node.offsets t (borne_term node.rate_term)) offset
    ∙ ap (λ (t : Term). With node.offsets node.offset_term t) rate

-- ---- what nodes have, as they are borne

some_heard : (Says : Sender → ℤ → Type 0) (senders : List Sender) (values : List ℤ) → Hears Sender Says senders values → 1 ≤ length senders → 1 ≤ length values
some_heard Says senders values hears some =
    let long = AllZip-long Says senders hears.said hears.each in
    let size = length_permutation (hears.said ++ hears.further) values hears.parts in
    let both = length-append hears.said hears.further in
    omega (arith, some, long, size, both)

offset_round_some : (p : Values) (senders : List Sender) (row : NodeRow) (values : List ℤ) (term : Term) → IsOffsetRound p senders row values term → 1 ≤ length senders → 1 ≤ length values
offset_round_some p senders row values term own some = some_heard (λ sender value. IsDeviation p true sender.action row sender.odd value) senders values own.hears some

borne_offset_round : (p : Values) (senders : List Sender) (row : NodeRow) (values : List ℤ) (term : Term) → 1 ≤ length senders → IsOffsetRound p senders row values term
    → IsOffsetRound p senders row (borne_values values) (borne_term term)
borne_offset_round p senders row values term some own =
    let there = offset_round_some p senders row values term own some in
    let Values_are : List ℤ → Type 0 = λ vs. IsOffsetRound p senders row vs (borne_term term) in
    let Term_is : Term → Type 0 = λ t. IsOffsetRound p senders row values t in
    subst Values_are (sym (kept_values values there)) (subst Term_is (sym (kept_offset p.offset_limit values term there own.is_term)) own)

borne_rate_round : (p : Values) (flutter : ℕ) (senders : List Sender) (row : NodeRow) (values : List ℤ) (term : Term) → 1 ≤ length senders → IsSteadyRound p flutter senders row values term
    → IsSteadyRound p flutter senders row values (borne_term term)
borne_rate_round p flutter senders row values term some own =
    let there = some_heard (λ sender value. PlacesEven p flutter sender row value) senders values own.hears some in
    let Term_is : Term → Type 0 = λ t. IsSteadyRound p flutter senders row values t in
    subst Term_is (sym (kept_rate row.rate p.damping p.rate_limit values term there own.is_term)) own

pub borne_among : (ns : List Member) (sender : Sender) → IsAmong ns sender → IsAmong (map borne ns) sender
borne_among ns sender found = (borne found.0, contains_map borne ns found.0 found.1, found.2, found.3)

all_among : (ns : List Member) (senders : List Sender) → All (IsAmong ns) senders → All (IsAmong (map borne ns)) senders
all_among ns senders all = All-along (IsAmong ns) (IsAmong (map borne ns)) senders (borne_among ns) all

some_kept : (beside : Bool) (senders : List Sender) (one other : List ℤ) → KeepSenders beside senders one other → 1 ≤ length senders
some_kept false senders one other keep = keep.0
some_kept true senders one other keep = omega (arith, keep)

more_than_two : (a b n : ℕ) → a + b + 1 ≤ n → 1 ≤ n
more_than_two a b n le = omega (arith, le)

some_both : (common own : List Sender) → 1 ≤ length common → 1 ≤ length (common ++ own)
some_both common own some = let both = length-append common own in omega (arith, some, both)

module _ (p : Values) (flutter : ℕ) (ns : List Member) (last : ℤ) where
  pub borne_own_offsets : (node : Member) → OwnOffsets p ns last node → OwnOffsets p (map borne ns) last (borne node)
  borne_own_offsets node own = record {
    senders = own.senders;
    some = own.some;
    among = all_among ns own.senders own.among;
    acts = own.acts;
    round = borne_offset_round p own.senders node.odd node.offsets node.offset_term own.some own.round;
  }

  pub borne_own_rates : (node : Member) → OwnRates p flutter ns node → OwnRates p flutter (map borne ns) (borne node)
  borne_own_rates node own = record {
    senders = own.senders;
    some = own.some;
    among = all_among ns own.senders own.among;
    round = borne_rate_round p flutter own.senders node.odd node.rates node.rate_term own.some own.round;
  }

  pub borne_all_offsets : (beside : Bool) (senders : List Sender) → AllOffsets beside p senders ns last (λ node. Contains ns node) → AllOffsets beside p senders (map borne ns) last (λ node. Contains (map borne ns) node)
  borne_all_offsets beside senders all = record {
    among = all_among ns senders all.among;
    acts = all.acts;
    rounds = λ node here.
        let m = map_contains borne ns node here in
        subst Round_of m.2 (borne_offset_round p senders m.0.odd m.0.offsets m.0.offset_term (some_in m.0 m.1) (all.rounds m.0 m.1));
    keep = λ one other here there.
        let m = map_contains borne ns one here in
        let k = map_contains borne ns other there in
        let First : Member → Type 0 = λ a. Keeps a other in
        subst First m.2 (subst (Keeps (borne m.0)) k.2 (kept m.0 k.0 m.1 k.1));
  }
    where
      Round_of : Member → Type 0
      Round_of one = IsOffsetRound p senders one.odd one.offsets one.offset_term

      Keeps : Member → Member → Type 0
      Keeps one other = KeepSenders beside senders one.offsets other.offsets

      some_in : (node : Member) → Contains ns node → 1 ≤ length senders
      some_in node here = some_kept beside senders node.offsets node.offsets (all.keep node node here here)

      kept : (one other : Member) → Contains ns one → Contains ns other → KeepSenders beside senders (borne_values one.offsets) (borne_values other.offsets)
      kept one other here there =
          let first = offset_round_some p senders one.odd one.offsets one.offset_term (all.rounds one here) (some_in one here) in
          let second = offset_round_some p senders other.odd other.offsets other.offset_term (all.rounds other there) (some_in other there) in
          let First : List ℤ → Type 0 = λ vs. KeepSenders beside senders vs (borne_values other.offsets) in
          let Second : List ℤ → Type 0 = λ vs. KeepSenders beside senders one.offsets vs in
          subst First (sym (kept_values one.offsets first)) (subst Second (sym (kept_values other.offsets second)) (all.keep one other here there))

  pub borne_all_rates : (beside : Bool) (senders : List Sender) → AllRates beside p flutter senders ns (λ node. Contains ns node) → AllRates beside p flutter senders (map borne ns) (λ node. Contains (map borne ns) node)
  borne_all_rates beside senders all = record {
    among = all_among ns senders all.among;
    rounds = λ node here.
        let m = map_contains borne ns node here in
        subst Round_of m.2
        (borne_rate_round p flutter senders m.0.odd m.0.rates m.0.rate_term (some_kept beside senders m.0.rates m.0.rates (all.keep m.0 m.0 m.1 m.1)) (all.rounds m.0 m.1));
    keep = λ one other here there.
        let m = map_contains borne ns one here in
        let k = map_contains borne ns other there in
        let First : Member → Type 0 = λ a. Keeps a other in
        subst First m.2 (subst (Keeps (borne m.0)) k.2 (all.keep m.0 k.0 m.1 k.1));
  }
    where
      Round_of : Member → Type 0
      Round_of one = IsSteadyRound p flutter senders one.odd one.rates one.rate_term

      Keeps : Member → Member → Type 0
      Keeps one other = KeepSenders beside senders one.rates other.rates

  borne_common_offsets : (one other : Member) → CommonOffsets p ns last one other → CommonOffsets p (map borne ns) last (borne one) (borne other)
  borne_common_offsets one other c =
      let some = more_than_two (discarded (length one.offsets)) (discarded (length other.offsets)) (length c.common) c.enough in
      let first = some_both c.common c.own some in
      let second = some_both c.common c.other_own some in
      let there = offset_round_some p (c.common ++ c.own) one.odd one.offsets one.offset_term c.round first in
      let also = offset_round_some p (c.common ++ c.other_own) other.odd other.offsets other.offset_term c.other_round second in
      let First : List ℤ → Type 0 = λ vs. discarded (length vs) + discarded (length (borne_values other.offsets)) + 1 ≤ length c.common in
      let Second : List ℤ → Type 0 = λ vs. discarded (length one.offsets) + discarded (length vs) + 1 ≤ length c.common in
      record {
        common = c.common;
        own = c.own;
        other_own = c.other_own;
        among = all_among ns (c.common ++ (c.own ++ c.other_own)) c.among;
        acts = c.acts;
        enough = subst First (sym (kept_values one.offsets there)) (subst Second (sym (kept_values other.offsets also)) c.enough);
        round = borne_offset_round p (c.common ++ c.own) one.odd one.offsets one.offset_term first c.round;
        other_round = borne_offset_round p (c.common ++ c.other_own) other.odd other.offsets other.offset_term second c.other_round;
      }

  borne_common_rates : (one other : Member) → CommonRates p flutter ns one other → CommonRates p flutter (map borne ns) (borne one) (borne other)
  borne_common_rates one other c =
      let some = more_than_two (discarded (length one.rates)) (discarded (length other.rates)) (length c.common) c.enough in
      record {
        common = c.common;
        own = c.own;
        other_own = c.other_own;
        among = all_among ns (c.common ++ (c.own ++ c.other_own)) c.among;
        enough = c.enough;
        round = borne_rate_round p flutter (c.common ++ c.own) one.odd one.rates one.rate_term (some_both c.common c.own some) c.round;
        other_round = borne_rate_round p flutter (c.common ++ c.other_own) other.odd other.rates other.rate_term (some_both c.common c.other_own some) c.other_round;
      }

  pub borne_meeting_offsets : MeetingOffsets p ns last (λ node. Contains ns node) → MeetingOffsets p (map borne ns) last (λ node. Contains (map borne ns) node)
  borne_meeting_offsets meeting = record {
    each = λ node here.
        let m = map_contains borne ns node here in
        subst (OwnOffsets p (map borne ns) last) m.2 (borne_own_offsets m.0 (meeting.each m.0 m.1));
    two = λ one other here there.
        let m = map_contains borne ns one here in
        let k = map_contains borne ns other there in
        let First : Member → Type 0 = λ a. Meet a other in
        subst First m.2 (subst (Meet (borne m.0)) k.2 (met m.0 k.0 (meeting.two m.0 k.0 m.1 k.1)));
  }
    where
      Meet : Member → Member → Type 0
      Meet one other = (one ≡ other) ⊎ CommonOffsets p (map borne ns) last one other

      met : (one other : Member) → (one ≡ other) ⊎ CommonOffsets p ns last one other → (borne one ≡ borne other) ⊎ CommonOffsets p (map borne ns) last (borne one) (borne other)
      met one other (inl same) = inl (ap borne same)
      met one other (inr common) = inr (borne_common_offsets one other common)

  pub borne_meeting_rates : MeetingRates p flutter ns (λ node. Contains ns node) → MeetingRates p flutter (map borne ns) (λ node. Contains (map borne ns) node)
  borne_meeting_rates meeting = record {
    each = λ node here.
        let m = map_contains borne ns node here in
        subst (OwnRates p flutter (map borne ns)) m.2 (borne_own_rates m.0 (meeting.each m.0 m.1));
    two = λ one other here there.
        let m = map_contains borne ns one here in
        let k = map_contains borne ns other there in
        let First : Member → Type 0 = λ a. Meet a other in
        subst First m.2 (subst (Meet (borne m.0)) k.2 (met m.0 k.0 (meeting.two m.0 k.0 m.1 k.1)));
  }
    where
      Meet : Member → Member → Type 0
      Meet one other = (one ≡ other) ⊎ CommonRates p flutter (map borne ns) one other

      met : (one other : Member) → (one ≡ other) ⊎ CommonRates p flutter ns one other → (borne one ≡ borne other) ⊎ CommonRates p flutter (map borne ns) (borne one) (borne other)
      met one other (inl same) = inl (ap borne same)
      met one other (inr common) = inr (borne_common_rates one other common)

-- ---- a list without values

none_values : (at : ℕ → Option ℤ) → ((index : ℕ) (value : ℤ) → at index ≡ Some value → ⊥) → values_of at ≡ []
unfolding values_of
none_values at never = over (range_with_len 0 15)
  where
    by : (xs : List ℕ) (o : Option ℤ) → ((value : ℤ) → o ≡ Some value → ⊥) → filter_map at xs ≡ [] → cons_option o (filter_map at xs) ≡ []
    by xs None none rest = rest
    by xs (Some value) none rest = absurd (none value refl)

    over : (xs : List ℕ) → filter_map at xs ≡ []
    over [] = refl
    over (i ∷ xs) = by xs (at i) (λ value is. never i value is) (over xs)

-- the offset term of none, borne: that of a node's own value
own_term : (limit : ℤ) → pos 0 ≤ℤ limit → borne_term (missing_term (pos 0)) ≡ term_of limit (pos 0)
own_term limit from = rw (over, under) refl
  where
    over : int_lt limit (pos 0) ≡ false
    over = grind (arith, ints)

    under : int_lt (pos 0) (neg_ℤ limit) ≡ false
    under = grind (arith, ints)

own_middle : IsMidpoint (pos 0 ∷ []) (pos 0)
unfolding midpoint_by_ranks
own_middle = midpoint_is_there_lem (pos 0) []

itself_only : (P : Sender → Type 0) (sender : Sender) → P sender → All P (sender ∷ [])
itself_only P sender is zero d short = is
itself_only P sender is (suc i) d short = absurd (omega (arith, short))

-- ---- a node of a double cycle

module _ (x : Setting) (flutter : ℕ) (h : Cycles) (even odd : Cycle) (double : ℕ) (reach : ℤ) (s : LawfulRows x flutter h even odd double) (r : AreRowsInReach x h even odd reach) (all : AllHave x h) where
  sane : IsSane x.params
  sane = s.covered.sane

  abbrev member : NodeSpec → Member
  member node = as_member x.params (row_hearer x even odd node.id)

  pub member_there : (node : NodeSpec) → Contains (row_nodes x h) node → Contains (row_members x h even odd) (as_member x.params (row_hearer x even odd node.id))
  member_there node among =
      let at : NodeSpec → Hearer = λ n. row_hearer x even odd n.id in
      contains_map (as_member x.params) (row_hearers x h even odd) (at node) (contains_map at (row_nodes x h) node among)

  -- what it has where it is deaf, and where it is not
  pub no_values : (rate : Bool) (node : NodeSpec) → Contains (row_nodes x h) node → is_deaf rate (traffic_of x) double node ≡ true
      → values_of (value_by rate (row_hearer x even odd node.id)) ≡ []
  no_values rate node among deaf =
      none_values (value_by rate (row_hearer x even odd node.id)) (λ index value is. no_value x flutter h even odd double reach s r all rate node index value among deaf is)

  pub is_trusted_there : (rate : Bool) (node : NodeSpec) → Contains (row_nodes x h) node → trusts_or_lacks rate (traffic_of x) double node ≡ true → is_deaf rate (traffic_of x) double node ≡ false
      → IsTrustedOf (round_at x h even odd) (value_by rate (row_hearer x even odd node.id))
  is_trusted_there rate node among either hears =
      trusted_of x flutter h even odd double reach s r all rate node among (right (is_deaf rate (traffic_of x) double node) (is_trusted rate (traffic_of x) double node) hears either)
    where
      right : (a b : Bool) → a ≡ false → (a || b) ≡ true → b ≡ true
      right false b fails is = is
      right true b fails is = absurd (cc)

  -- without offset values it has its own 0, and without rate values it keeps its rate
  pub offsets_none : (node : NodeSpec) → Contains (row_nodes x h) node → is_deaf false (traffic_of x) double node ≡ true
      → OwnOffsets x.params (map borne (row_members x h even odd)) (pos (last_action x.params)) (borne (as_member x.params (row_hearer x even odd node.id)))
  offsets_none node among deaf =
      let p : Values = x.params in
      let n = row_hearer x even odd node.id in
      let own : Sender = record { even = n.even; odd = n.odd; action = pos 0 } in
      let here = row_placed x flutter h even odd double reach s r node among in
      record {
        senders = own ∷ [];
        some = lit≤ tt;
        among = itself_only (IsAmong (map borne (row_members x h even odd))) own (borne (member node), contains_map borne (row_members x h even odd) (member node) (member_there node among), refl, refl);
        acts = itself_only (λ (sender : Sender). IsBetween (pos 0) (pos (last_action p)) sender.action) own (first (last_action p));
        round = by (offsets_of n) (no_values false node among deaf) here.applied;
      }
    where
      first : (last : ℕ) → IsBetween (pos 0) (pos last) (pos 0)
      first last = record { low = omega (arith, ints); high = omega (arith, ints) }

      by : (values : List ℤ) → values ≡ [] → (row_hearer x even odd node.id).odd.offset ≡ (offset_term_of x.params.offset_limit values).value
          → IsOffsetRound x.params (record { even = (row_hearer x even odd node.id).even; odd = (row_hearer x even odd node.id).odd; action = pos 0 } ∷ []) (row_hearer x even odd node.id).odd (borne_values values)
          (borne_term (offset_term_of x.params.offset_limit values))
      by (value ∷ values) none applied = absurd (let e : length (value ∷ values) ≡ 0 = ap length none in omega (arith, e))
      by [] none applied =
          let p : Values = x.params in
          let n = row_hearer x even odd node.id in
          let regular = (row_placed x flutter h even odd double reach s r node among).regular in
          record {
            micro = regular.odd_micro;
            hears = record {
              said = pos 0 ∷ [];
              further = [];
              parts = IsPermutation-refl (pos 0 ∷ []);
              few = lit≤ tt;
              each = (own_value_is_deviation p true (pos 0) n.odd (micro_lasts p n.odd sane regular.odd_micro), tt);
            };
            is_term = inr (pos 0, own_middle, own_term p.offset_limit (signed_of p sane).oo_from);
            applied = applied;
          }

  pub rate_kept : (node : NodeSpec) → Contains (row_nodes x h) node → is_deaf true (traffic_of x) double node ≡ true
      → KeptRate (some_keep (traffic_of x) double) (borne (as_member x.params (row_hearer x even odd node.id)))
  rate_kept node among deaf =
      let p : Values = x.params in
      let n = row_hearer x even odd node.id in
      let none : rates_of n ≡ [] = no_values true node among deaf in
      let is : rate_term_of n.odd.rate p.damping p.rate_limit (rates_of n) ≡ missing_term n.odd.rate = ap (rate_term_of n.odd.rate p.damping p.rate_limit) none in
      record {
        may = keeps_some (none_lacks (traffic_of x) double) (λ none. none_is_deaf_of x double node none (is_correct_row x h node among)) deaf;
        kept = ap (λ (t : Term). t.value) is;
        within = ap (λ (t : Term). borne_outcome t.outcome) is;
      }
    where
      keeps_some : (none : Bool) → (none ≡ true → (is_deaf false (traffic_of x) double node ≡ false) × (is_deaf true (traffic_of x) double node ≡ false)) → is_deaf true (traffic_of x) double node ≡ true → not none ≡ true
      keeps_some false hears deaf = refl
      keeps_some true hears deaf = let other = (hears refl).1 in absurd (cc)

  pub bears_at : (node : NodeSpec) → Contains (row_nodes x h) node → bears x.params (traffic_of x) double node ≡ true
      → (trusts_or_lacks false (traffic_of x) double node ≡ true) × (trusts_or_lacks true (traffic_of x) double node ≡ true)
      × ((not (lacks_values (traffic_of x) double node) || may_lack x.params (traffic_of x) double node) ≡ true)
  bears_at node among is =
      let t = traffic_of x in
      let correct = correct_node x node (is_correct_row x h node among) in
      let own = right (x.is_arbitrary node.id) ((trusts_or_lacks false t double node && trusts_or_lacks true t double node) && (not (lacks_values t double node) || may_lack x.params t double node)) correct.correct is in
      let both = and_parts (trusts_or_lacks false t double node && trusts_or_lacks true t double node) (not (lacks_values t double node) || may_lack x.params t double node) own in
      let two = and_parts (trusts_or_lacks false t double node) (trusts_or_lacks true t double node) both.0 in
      (two.0, two.1, both.1)
    where
      right : (a b : Bool) → a ≡ false → (a || b) ≡ true → b ≡ true
      right false b fails is = is
      right true b fails is = absurd (cc)
