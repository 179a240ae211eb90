-- The step of a double cycle in which arbitrary nodes are heard alike: every value of both lists lies as near as those of one sender.
use Rattle.std.proofs.Common.{◌≡◌, ℕ, ◌+◌, ◌*◌, ◌≤◌, Bool, true, false, ℤ, pos, Option, Some, None, List, [], ◌∷◌, ◌++◌, length, map, All, refl, ap, sym, ◌∙◌, subst, arith, append-nil}
use Rattle.std.specs.Prelude.{◌+ℤ◌, ◌-ℤ◌, ◌*ℤ◌, ◌≤ℤ◌, ◌<ℤ◌, Contains, IsPermutation}
use Rattle.std.specs.List.{AllZip, cons_option, filter_map, range_with_len}
use Rattle.std.proofs.lemmas.Int.{ints}
use Rattle.std.proofs.lemmas.List.Elements.{All-contains}
use Rattle.std.proofs.lemmas.List.Sorted.{IsPermutation-refl}
use Rattle.std.proofs.lemmas.Slice.Zip.{AllZip-long}
use Rattle.fr_base.specs.declared.channel.Channel.TheVariants.{A, B}
use Rattle.fr_base.specs.declared.node_row.NodeRow.{NodeRow}
use Rattle.fr_base.specs.Within.{IsBetween, IsWithin}
use Rattle.fr_cluster.specs.Values.{Values, amount}
use Rattle.fr_cluster.specs.declared.names.ParamName.TheVariants as name
use Rattle.fr_midpoint.specs.Receivers.{place_at, Receiver}
use Rattle.fr_midpoint.specs.Said.{KeepsSaid}
use Rattle.fr_midpoint.proofs.SaidLemmas.{two_alone_lem}
use Rattle.fr_measure.specs.Values.{change_at, is_own, least_of, mean_of, offset_at, own_value_or, rate_at, values_of}
use Rattle.fr_correct.specs.Terms.{offset_term_of}
use Rattle.fr_bound.specs.Bounds.{arrival_error, cycle_change, longest_micro}
use Rattle.fr_bound.specs.SharpBounds.{last_action, odd_spread, steady_error}
use Rattle.fr_bound.specs.Sync.{cycle_length_of}
use Rattle.fr_precision.specs.Rows.{corrected_end_of, Sender}
use Rattle.fr_precision.specs.Alike.{AlikeRoundsShrink, AlikeSpreadsShrink, BothAlike, HearAlike, ListsAreAlike, OffsetsLieNear, RatesLieNear, same_offsets, same_rates}
use Rattle.fr_precision.specs.Offsets.{IsDeviation, IsSending}
use Rattle.fr_precision.specs.Round.{offsets_of, rates_of, sender_at, senders_of, Hearer, IsHeardAt, IsHearer, IsRound, Round}
use Rattle.fr_precision.specs.SharpRound.{as_member, IsRoundInReach}
use Rattle.fr_precision.specs.SharpStep.{ActInReach, AreSharp, ComeSharply, ComputesSharply, DrawsTo, IsSharpDouble, IsSharpLimit}
use Rattle.fr_precision.specs.Lengths.{CanWalk, IsNextEven}
use Rattle.fr_precision.specs.Steady.{between_actions, placed_length, PlacesEven}
use Rattle.fr_precision.specs.Step.{Member}
use Rattle.fr_precision.proofs.EndLemmas.{alone_ends, corrected, ends_at, same_value}
use Rattle.fr_precision.proofs.HearingLemmas.{acts_regularly, steady_rates_told}
use Rattle.fr_precision.proofs.LengthLemmas.{alone_sum, damping_is, next_near, range_walks, rates_at, round_of, same_sum}
use Rattle.fr_precision.proofs.OffsetLaws.{micro_lasts, offset_terms_are_uncut}
use Rattle.fr_precision.proofs.Parting.{AreTold}
use Rattle.fr_precision.proofs.RoundLemmas.{contains_map, hearer, map_contains, rounds_in_reach_are_sharp}
use Rattle.fr_precision.proofs.RoundSenders.{marked, marked_node, sender_is}
use Rattle.fr_precision.proofs.StepLemmas.{double_of, ends_by, lengths_by, nodes_near, senders_about, some_senders, takes_sharply}
use Rattle.fr_precision.proofs.Values.{offsets_told, other_value, own_none, Offsets}
use Rattle.fr_precision.proofs.BoundLemmas.{key_slots_act_early}

-- ---- two nodes of a double cycle

-- a list has all of its values
keeps_all : (receiver : Receiver) → pos 0 <ℤ receiver.unit → KeepsSaid receiver.values receiver
keeps_all receiver lasts = record { lasts = lasts; further = []; parts = rw append-nil (IsPermutation-refl receiver.values); few = omega arith }

itself : (a : ℤ) → a ≤ℤ a
itself a = omega (arith, ints)

pub alike_spreads_shrink : AlikeSpreadsShrink
alike_spreads_shrink p flutter senders nodes starts lengths next_starts next_lengths beyond walk next reach last one other is acting next_from to_next draws sharp heard alike here there =
    let double = double_of true p flutter senders nodes starts lengths beyond last is.sane sharp heard in
    let takes = takes_sharply true p flutter senders nodes starts lengths beyond walk reach last one is acting double heard here in
    let also = takes_sharply true p flutter senders nodes starts lengths beyond walk reach last other is acting double heard there in
    let some = some_senders true senders one.offsets other.offsets (heard.keep one other here there).0 in
    let about = senders_about p starts lengths beyond nodes senders double heard.among in
    let odds = pos (odd_spread p lengths) in
    let here_end = corrected p senders reach odds one.odd one.offsets one.offset_term is.sane some takes.offsets in
    let there_end = corrected p senders reach odds other.odd other.offsets other.offset_term is.sane some also.offsets in
    let round = round_of p flutter senders beyond walk (beyond +ℤ walk) one.odd one.rates one.rate_term is.sane is.walks (itself (beyond +ℤ walk)) some about takes.rates in
    let other_round = round_of p flutter senders beyond walk (beyond +ℤ walk) other.odd other.rates other.rate_term is.sane is.walks (itself (beyond +ℤ walk)) some about also.rates in
    record {
      uncut = offset_terms_are_uncut p senders reach one.odd one.offsets one.offset_term is.sane is.suffices some takes.offsets.reached takes.offsets.round;
      range = range_walks p flutter senders beyond walk next one.odd one.rates one.rate_term is.sane is.walks some about takes.rates next_from to_next;
      ends =
          ends_by false p flutter starts lengths next_starts next_lengths (corrected_end_of p one.odd -ℤ corrected_end_of p other.odd) draws
          (
          alone_ends odds (arrival_error p) (longest_micro p) (corrected_end_of p one.odd) (place_at (ends_at p one.odd one.offsets) here_end.mid) (corrected_end_of p other.odd) (place_at (ends_at p other.odd other.offsets) there_end.mid)
          here_end.is there_end.is
          (
          two_alone_lem one.offsets other.offsets (pos (same_offsets p lengths)) (pos (longest_micro p)) (ends_at p one.odd one.offsets) (ends_at p other.odd other.offsets) here_end.mid there_end.mid
          (keeps_all (ends_at p one.odd one.offsets) (micro_lasts p one.odd is.sane takes.rates.micro).some) (keeps_all (ends_at p other.odd other.offsets) (micro_lasts p other.odd is.sane also.rates.micro).some)
          takes.rates.micro.most also.rates.micro.most alike.offsets refl (AllZip-long (OffsetsLieNear (same_offsets p lengths) p one.odd other.odd) one.offsets other.offsets alike.offsets)
          here_end.middle there_end.middle
          )
          );
      lengths =
          λ even other_even after other_after.
          lengths_by false p flutter starts lengths next_starts next_lengths (cycle_length_of p even -ℤ cycle_length_of p other_even) draws
          (
          alone_sum (steady_error p flutter) (longest_micro p) (amount p name.pClusterDriftDamping * longest_micro p) (cycle_change p) (p.damping *ℤ pos (longest_micro p))
          (place_at (rates_at p one.odd one.rates) round.mid) (cycle_length_of p even) (place_at (rates_at p other.odd other.rates) other_round.mid) (cycle_length_of p other_even) (damping_is p is.sane)
          (
          two_alone_lem one.rates other.rates (pos (same_rates p flutter)) (pos (longest_micro p)) (rates_at p one.odd one.rates) (rates_at p other.odd other.rates) round.mid other_round.mid
          (keeps_all (rates_at p one.odd one.rates) (micro_lasts p one.odd is.sane takes.rates.micro).some) (keeps_all (rates_at p other.odd other.rates) (micro_lasts p other.odd is.sane also.rates.micro).some)
          takes.rates.micro.most also.rates.micro.most alike.rates refl (AllZip-long (RatesLieNear (same_rates p flutter) p one.odd other.odd) one.rates other.rates alike.rates)
          round.middle other_round.middle
          )
          (next_near p one.odd one.rates one.rate_term (beyond +ℤ walk) even is.sane takes.rates.micro round after) (next_near p other.odd other.rates other.rate_term (beyond +ℤ walk) other_even is.sane also.rates.micro other_round other_after)
          );
    }

-- ---- lists by index

-- at each index a sender's two values lie near, and others are there for both, as near, or for none
record AreNear (X : Type 0) (Near : ℤ → ℤ → Type 0) (Says Also : X → ℤ → Type 0) (who : ℕ → Option X) (at other : ℕ → Option ℤ) (marked : ℕ → Bool) : Type 0 where
  told : AreTold X Says who at marked
  also : AreTold X Also who other marked
  near : (i : ℕ) (x : X) (v u : ℤ) → who i ≡ Some x → Says x v → Also x u → Near v u
  alike : (i : ℕ) → who i ≡ None → marked i ≡ true → BothAlike Near (at i) (other i)

module _ (X : Type 0) (Near : ℤ → ℤ → Type 0) (Says Also : X → ℤ → Type 0) (who : ℕ → Option X) (at other : ℕ → Option ℤ) (marked : ℕ → Bool) (is : AreNear X Near Says Also who at other marked) where
  zipped_by : (i : ℕ) (vs us : List ℤ) → AllZip Near vs us → (o : Option X) (v u : Option ℤ) → who i ≡ o → at i ≡ v → other i ≡ u → AllZip Near (cons_option v vs) (cons_option u us)
  zipped_by i vs us rest (Some x) v u some is_v is_u =
      let a = is.told.said i x some in
      let b = is.also.said i x some in
      let Both : Option ℤ → Option ℤ → Type 0 = λ m n. AllZip Near (cons_option m vs) (cons_option n us) in
      subst (Both v) (sym b.1 ∙ is_u) (subst (λ (m : Option ℤ). Both m (Some b.0)) (sym a.1 ∙ is_v) (is.near i x a.0 b.0 some a.2 b.2, rest))
  zipped_by i vs us rest None None None none is_v is_u = rest
  zipped_by i vs us rest None (Some v) None none is_v is_u =
      let Both : Option ℤ → Option ℤ → Type 0 = BothAlike Near in
      absurd (subst (Both (Some v)) is_u (subst (λ (m : Option ℤ). Both m (other i)) is_v (is.alike i none (is.told.other i v none is_v))))
  zipped_by i vs us rest None None (Some u) none is_v is_u =
      let Both : Option ℤ → Option ℤ → Type 0 = BothAlike Near in
      absurd (subst (Both None) is_u (subst (λ (m : Option ℤ). Both m (other i)) is_v (is.alike i none (is.also.other i u none is_u))))
  zipped_by i vs us rest None (Some v) (Some u) none is_v is_u =
      let Both : Option ℤ → Option ℤ → Type 0 = BothAlike Near in
      (subst (Both (Some v)) is_u (subst (λ (m : Option ℤ). Both m (other i)) is_v (is.alike i none (is.told.other i v none is_v))), rest)

  zipped : (range : List ℕ) → AllZip Near (filter_map at range) (filter_map other range)
  zipped [] = tt
  zipped (i ∷ range) = zipped_by i (filter_map at range) (filter_map other range) (zipped range) (who i) (at i) (other i) refl refl refl

  zipped_values : AllZip Near (values_of at) (values_of other)
  unfolding values_of
  zipped_values = zipped (range_with_len 0 15)

-- ---- two receivers of a round

not_own : (r : Round) (n : Hearer) (index : ℕ) → IsRound r → IsHeardAt r n → sender_at r index ≡ None → is_own n.own index ≡ false
not_own r n index is hears none = by_test (is_own n.own index) refl
  where
    by_test : (b : Bool) → is_own n.own index ≡ b → b ≡ false
    by_test false e = refl
    by_test true e = absurd (own_none r n index is hears none e)

module _
    (r : Round) (flutter starts lengths : ℕ) (beyond reach : ℤ) (rows : List Hearer)
    (s : IsRoundInReach true r flutter reach rows) (sharp : AreSharp r.params starts lengths beyond (map (λ (node : Member). node.even) (map (as_member r.params) rows))) where
  abbrev members : List Member
  members = map (as_member r.params) rows

  double : IsSharpDouble true r.params flutter (senders_of r) members (pos (last_action r.params))
  double = rounds_in_reach_are_sharp true r flutter reach rows s

  module _ (n m : Hearer) (here : Contains rows n) (there : Contains rows m) (alike : HearAlike r flutter lengths n m) where
    at : (k : Hearer) → Contains rows k → IsHearer r reach k
    at = hearer true r flutter reach rows s

    computes : (k : Hearer) → Contains rows k → ComputesSharply r.params flutter (senders_of r) (as_member r.params k)
    computes k among =
        All-contains (ComputesSharply r.params flutter (senders_of r)) members (as_member r.params k) double.computes (contains_map (as_member r.params) rows k among)

    odds : IsWithin (pos (odd_spread r.params lengths)) (cycle_length_of r.params n.odd -ℤ cycle_length_of r.params m.odd)
    odds =
        (
        nodes_near r.params starts lengths beyond members (double_of true r.params flutter (senders_of r) members starts lengths beyond (pos (last_action r.params)) s.round.sane sharp double)
        (as_member r.params n) (as_member r.params m) (contains_map (as_member r.params) rows n here) (contains_map (as_member r.params) rows m there)
        ).by_odd

    sends : (index : ℕ) (sender : Sender) → sender_at r index ≡ Some sender → IsSending r.params sender
    sends index sender some =
        let acts = acts_regularly r index sender s.round (sender_is r index sender some) in
        record { double = acts.regular.double; lasts = micro_lasts r.params sender.odd s.round.sane acts.regular.odd_micro; acts_from = acts.acts_from; acts_to = acts.acts_to }

    others : (Near : ℤ → ℤ → Type 0) (index : ℕ) (v u : Option ℤ) → sender_at r index ≡ None → BothAlike Near v u → BothAlike Near (own_value_or n.own index v) (own_value_or m.own index u)
    others Near index v u none both =
        let Both : Option ℤ → Option ℤ → Type 0 = BothAlike Near in
        subst (Both (own_value_or n.own index v)) (sym (other_value m.own index u (not_own r m index s.round (at m there).supply none)))
        (subst (λ (o : Option ℤ). Both o u) (sym (other_value n.own index v (not_own r n index s.round (at n here).supply none))) both)

    offset_near : (index : ℕ) (sender : Sender) (v u : ℤ) → sender_at r index ≡ Some sender → Offsets r n sender v → Offsets r m sender u
        → OffsetsLieNear (same_offsets r.params lengths) r.params n.odd m.odd v u
    unfolding Offsets
    offset_near index sender v u some dev other_dev =
        same_value r.params (senders_of r) (senders_of r) (pos (odd_spread r.params lengths)) n.odd m.odd (offsets_of n) (offsets_of m)
        (offset_term_of r.params.offset_limit (offsets_of n)) (offset_term_of r.params.offset_limit (offsets_of m)) sender v u s.round.sane (computes n here).by_offset (computes m there).by_offset odds
        (sends index sender some) dev other_dev

    offsets : AllZip (OffsetsLieNear (same_offsets r.params lengths) r.params n.odd m.odd) (offsets_of n) (offsets_of m)
    offsets =
        zipped_values Sender (OffsetsLieNear (same_offsets r.params lengths) r.params n.odd m.odd) (Offsets r n) (Offsets r m) (sender_at r) (offset_at n.look n.own) (offset_at m.look m.own) (marked r)
        (record {
          told = offsets_told r reach n s.round (at n here);
          also = offsets_told r reach m s.round (at m there);
          near = offset_near;
          alike = λ index none is.
              others (OffsetsLieNear (same_offsets r.params lengths) r.params n.odd m.odd) index (least_of (n.look index true A) (n.look index true B)) (least_of (m.look index true A) (m.look index true B)) none
              (alike.offsets index (marked_node r index is));
        })

    rates : AllZip (RatesLieNear (same_rates r.params flutter) r.params n.odd m.odd) (rates_of n) (rates_of m)
    rates =
        zipped_values Sender (RatesLieNear (same_rates r.params flutter) r.params n.odd m.odd) (λ sender value. PlacesEven r.params flutter sender n.odd value) (λ sender value. PlacesEven r.params flutter sender m.odd value)
        (sender_at r) (rate_at n.look n.own) (rate_at m.look m.own) (marked r)
        (record {
          told = steady_rates_told r flutter reach n s.round (at n here) (s.supplied n here).steady;
          also = steady_rates_told r flutter reach m s.round (at m there) (s.supplied m there).steady;
          near = λ index sender v u some places also.
              same_sum (steady_error r.params flutter) (placed_length r.params n.odd v) (placed_length r.params m.odd u) (between_actions r.params sender) places.actions also.actions;
          alike = λ index none is.
              others (RatesLieNear (same_rates r.params flutter) r.params n.odd m.odd) index (mean_of (change_at n.look index A) (change_at n.look index B)) (mean_of (change_at m.look index A) (change_at m.look index B)) none
              (alike.rates index (marked_node r index is));
        })

pub alike_rounds_shrink : AlikeRoundsShrink
alike_rounds_shrink r flutter starts lengths next_starts next_lengths beyond walk next reach rows s can next_from to_next draws sharp alike one other here there =
    let p = r.params in
    let members = map (as_member p) rows in
    let n = map_contains (as_member p) rows one here in
    let m = map_contains (as_member p) rows other there in
    let Alike : Member → Member → Type 0 = ListsAreAlike p flutter lengths in
    let lists : Alike (as_member p n.0) (as_member p m.0) = record {
      offsets = offsets r flutter starts lengths beyond reach rows s sharp n.0 m.0 n.1 m.1 (alike n.0 m.0 n.1 m.1);
      rates = rates r flutter starts lengths beyond reach rows s sharp n.0 m.0 n.1 m.1 (alike n.0 m.0 n.1 m.1);
    } in
    alike_spreads_shrink p flutter (senders_of r) members starts lengths next_starts next_lengths beyond walk next reach (pos (last_action p)) one other
    (record { sane = s.round.sane; walks = can; suffices = s.suffices; early = (key_slots_act_early p s.round.sane).1 }) s.acts next_from to_next draws sharp
    (rounds_in_reach_are_sharp true r flutter reach rows s) (subst (λ (x : Member). Alike x other) n.2 (subst (Alike (as_member p n.0)) m.2 lists)) here there
