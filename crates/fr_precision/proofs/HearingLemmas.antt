-- What a receiver has at the end of a round, from steady pairs.
use Rattle.std.proofs.Common.{◌≡◌, ℕ, ◌+◌, ◌≤◌, Bool, true, false, ℤ, pos, length, sym, ◌∙◌, subst, refl, arith, Some}
use Rattle.std.specs.Prelude.{◌≤ℤ◌, Option}
use Rattle.std.proofs.lemmas.Int.{ints}
use Rattle.fr_base.specs.declared.channel.Channel.{Channel}
use Rattle.fr_base.specs.declared.channel.Channel.TheVariants.{A, B}
use Rattle.fr_base.specs.declared.node_row.NodeRow.{NodeRow}
use Rattle.fr_cluster.specs.declared.nodes.NodeSpec.{NodeSpec}
use Rattle.fr_time.specs.Slots.{action_point_of}
use Rattle.fr_measure.specs.Values.{change_at, change_of, is_own, mean_of, offset_at, rate_at, values_of}
use Rattle.fr_precision.specs.Rows.{Sender}
use Rattle.fr_precision.specs.Rates.{PlacesLength}
use Rattle.fr_precision.specs.Round.{sender_with, senders_of, sync_count, Hearer, IsHearer, IsOther, IsRound, Round}
use Rattle.fr_precision.proofs.RoundSenders.{hears_values, sender_is, sized, some_senders, AreValues, IsFrom}
use Rattle.fr_precision.proofs.Values.{acts_before, change_from, change_there, hearers_keep_one, hears_all, mean_has, of_channels, offsets_told, other_of, other_value, own_odd, own_value, rate_other, rates_told, Offsets}
use Rattle.fr_precision.specs.Hearing.{AreSteadyPairs, HearersKeepSenders, HearsAllSteadily}
use Rattle.fr_precision.specs.Steady.{ActsRegularly, PlacesEven}
use Rattle.fr_precision.proofs.SteadyLemmas.{half_places_even, own_value_places_even, steady_values_place_lem}

pub no_less : (n : ℕ) → pos 0 ≤ℤ pos n
no_less n = omega (arith, ints)

-- ---- rate values

-- the change on one channel
change_placed : (r : Round) (flutter : ℕ) (reach : ℤ) (n : Hearer) (index slot : ℕ) (node : NodeSpec) (channel : Channel) (v : ℤ) → IsRound r → IsHearer r reach n → AreSteadyPairs r flutter n
    → IsOther r n index slot node → change_of (n.look index false channel) (n.look index true channel) ≡ Some v → PlacesEven r.params flutter (sender_with r slot node.id) n.odd v
change_placed r flutter reach n index slot node channel v is hears steady other some =
    let both = change_from (n.look index false channel) (n.look index true channel) v some in
    let early = both.0 in
    let late = both.1.0 in
    let At : ℤ → Type 0 = λ x. PlacesEven r.params flutter (sender_with r slot node.id) n.odd x in
    subst At (sym both.1.3)
    (
    steady_values_place_lem r.params flutter (sender_with r slot node.id) n.even n.odd early late is.sane hears.regular
    (record {
      regular = is.regular node other.sender.there other.sender.rows;
      acts_from = no_less (action_point_of r.params slot);
      acts_to = acts_before r slot node is.sane other.sender;
    })
    (steady index slot node channel early late other both.1.1 both.1.2)
    )

-- a sender of the round acts regularly
pub acts_regularly : (r : Round) (index : ℕ) (sender : Sender) → IsRound r → IsFrom r index sender → ActsRegularly r.params sender
acts_regularly r index sender is from =
    let At : Sender → Type 0 = λ s. ActsRegularly r.params s in
    let made : ActsRegularly r.params (sender_with r from.slot from.node.id) = record {
      regular = is.regular from.node from.from.there from.from.rows;
      acts_from = no_less (action_point_of r.params from.slot);
      acts_to = acts_before r from.slot from.node is.sane from.from;
    } in
    subst At from.is made

rate_said : (r : Round) (flutter : ℕ) (reach : ℤ) (n : Hearer) (index : ℕ) (sender : Sender) (own : Bool) → IsRound r → IsHearer r reach n → AreSteadyPairs r flutter n → IsFrom r index sender → is_own n.own index ≡ own
    → (v : ℤ) × (rate_at n.look n.own index ≡ Some v) × PlacesEven r.params flutter sender n.odd v
rate_said r flutter reach n index sender true is hears steady from own =
    let odd = own_odd r n index sender is hears.supply from own in
    let At : NodeRow → Type 0 = λ row. PlacesEven r.params flutter sender row (pos 0) in (
      pos 0,
      own_value n.own index (mean_of (change_at n.look index A) (change_at n.look index B)) own,
      subst At odd (own_value_places_even r.params flutter sender is.sane (acts_regularly r index sender is from)),
    )
rate_said r flutter reach n index sender false is hears steady from own =
    let other = other_of r n index sender from own in
    let heard = hears.supply.heard index from.slot from.node other in
    let Says : ℤ → Type 0 = λ v. PlacesEven r.params flutter sender n.odd v in
    let each = λ (channel : Channel) (v : ℤ) (there : change_at n.look index channel ≡ Some v).
    (
    let Here : Sender → Type 0 = λ s. PlacesEven r.params flutter s n.odd v in
    subst Here from.is (change_placed r flutter reach n index from.slot from.node channel v is hears steady other there)
    ) in
    let mean =
    mean_has Says (change_at n.look index A) (change_at n.look index B) (λ x y one two. half_places_even r.params flutter sender n.odd x y is.sane hears.regular.odd_micro one two) (each A) (each B)
    (of_channels (change_at n.look index) heard.0 (change_there (n.look index false heard.0) (n.look index true heard.0) heard.1 heard.2)) in
    (mean.0, other_value n.own index (mean_of (change_at n.look index A) (change_at n.look index B)) own ∙ mean.1, mean.2)

pub steady_rates_told : (r : Round) (flutter : ℕ) (reach : ℤ) (n : Hearer) → IsRound r → IsHearer r reach n → AreSteadyPairs r flutter n
    → AreValues r (λ sender value. PlacesEven r.params flutter sender n.odd value) (rate_at n.look n.own)
steady_rates_told r flutter reach n is hears steady = record {
  said = λ index sender some. rate_said r flutter reach n index sender (is_own n.own index) is hears steady (sender_is r index sender some) refl;
  other = λ index v none some. rate_other r n index v (is_own n.own index) is hears.supply refl none some;
}

pub hears_all_steadily : HearsAllSteadily
hears_all_steadily r flutter reach n is hears steady = record {
  offsets = (hears_all r reach n is hears).offsets;
  rates = hears_values r (λ sender value. PlacesEven r.params flutter sender n.odd value) (rate_at n.look n.own) is (steady_rates_told r flutter reach n is hears steady);
}

-- ---- what two receivers keep

-- without arbitrary sync nodes there are as many values as senders
no_others : (r : Round) (Says : Sender → ℤ → Type 0) (at : ℕ → Option ℤ) → IsRound r → sync_count r.params r.is_arbitrary ≡ 0 → AreValues r Says at
    → length (values_of at) ≡ length (senders_of r)
no_others r Says at is none told =
    let one = sized r Says at is told in
    step (length (values_of at)) (length (senders_of r)) one.heard (sync_count r.params r.is_arbitrary) one.size one.few none
  where
    step : (a b h c : ℕ) → a ≡ b + h → h ≤ c → c ≡ 0 → a ≡ b
    step a b h c d e f = omega arith

pub hearers_keep_senders : HearersKeepSenders
hearers_keep_senders false r reach other_reach n m is none hears also =
    let some = some_senders r is in (
      (
        some,
        no_others r (Offsets r n) (offset_at n.look n.own) is none (offsets_told r reach n is hears),
        no_others r (Offsets r m) (offset_at m.look m.own) is none (offsets_told r other_reach m is also),
      ),
      (
        some,
        no_others r (PlacesLength r.params n.odd) (rate_at n.look n.own) is none (rates_told r reach n is hears),
        no_others r (PlacesLength r.params m.odd) (rate_at m.look m.own) is none (rates_told r other_reach m is also),
      ),
    )
hearers_keep_senders true r reach other_reach n m is any hears also = hearers_keep_one r reach other_reach n m is hears also
