-- The values of a receiver by key index: of each sender, and of arbitrary nodes.
use Rattle.std.proofs.Common.{◌≡◌, ◌⊎◌, ℕ, ◌<◌, Bool, true, false, cond, ℤ, pos, Option, Some, None, refl, ap, sym, ◌∙◌, subst, inl, inr, arith, if◌then◌else◌}
use Rattle.std.specs.Prelude.{◌-ℤ◌, ◌≤ℤ◌, int_lt, IsSome}
use Rattle.std.specs.Int.{int_min}
use Rattle.std.proofs.lemmas.Int.{ints}
use Rattle.fr_base.specs.declared.channel.Channel.{Channel}
use Rattle.fr_base.specs.declared.channel.Channel.TheVariants.{A, B}
use Rattle.fr_base.specs.declared.node_row.NodeRow.{NodeRow}
use Rattle.fr_cluster.specs.Sane.{IsSane}
use Rattle.fr_cluster.specs.declared.nodes.NodeSpec.{NodeSpec}
use Rattle.fr_time.specs.Slots.{action_point_of, slot_end_of}
use Rattle.fr_time.specs.Senders.{key_node_of}
use Rattle.fr_time.proofs.Placing.{action_point_lt}
use Rattle.fr_midpoint.specs.Midpoint.{half_of_sum}
use Rattle.fr_measure.specs.Values.{change_at, change_of, is_own, least_of, mean_of, offset_at, own_value_or, rate_at}
use Rattle.fr_precision.specs.Rows.{Sender}
use Rattle.fr_precision.specs.Offsets.{IsDeviation}
use Rattle.fr_precision.specs.Rates.{PlacesLength}
use Rattle.fr_precision.proofs.OffsetLaws.{micro_lasts, own_value_is_deviation}
use Rattle.fr_precision.proofs.PlacementLaws.{difference_places, half_places, own_value_places}
use Rattle.fr_precision.proofs.ReceptionLaws.{ends_before}
use Rattle.fr_cluster.specs.Questions.{key_slot_of}
use Rattle.fr_precision.specs.Round.{Hearer, HearersKeepOne, HearsAll, IsHeardAt, IsHearer, IsOther, IsRound, IsSender, Round, sender_at, sender_with}
use Rattle.fr_time.proofs.Keys.{key_node_has, key_node_is, key_slot_within}
use Rattle.fr_precision.proofs.RoundSenders.{AreValues, IsFrom, hears_values, marked, marked_is, sender_found, sender_is, values_keep_one}
use Rattle.fr_cluster.proofs.KeyNodes.{key_among}

-- ---- of both channels

-- there is one
abbrev pub IsThere : Option ℤ → Type 0
IsThere o = (v : ℤ) × (o ≡ Some v)

pub there_by : (o : Option ℤ) → IsSome o → IsThere o
there_by None is = absurd (cc)
there_by (Some v) is = (v, refl)

pub least_either : (P : ℤ → Type 0) (a b : ℤ) → P a → P b → P (int_min a b)
least_either P a b one other = by_test (int_lt b a)
  where
    by_test : (t : Bool) → P (cond t b a)
    by_test true = other
    by_test false = one

-- what holds of the deviations of both channels holds of the least of them
least_has : (P : ℤ → Type 0) (a b : Option ℤ) → ((v : ℤ) → a ≡ Some v → P v) → ((v : ℤ) → b ≡ Some v → P v) → IsThere a ⊎ IsThere b
    → (v : ℤ) × (least_of a b ≡ Some v) × P v
least_has P None None one other (inl none) = absurd (let e = none.1 in cc)
least_has P None None one other (inr none) = absurd (let e = none.1 in cc)
least_has P None (Some b) one other some = (b, refl, other b refl)
least_has P (Some a) None one other some = (a, refl, one a refl)
least_has P (Some a) (Some b) one other some = (int_min a b, refl, least_either P a b (one a refl) (other b refl))

-- and of their mean, where it holds of half of their sum
pub mean_has : (P : ℤ → Type 0) (a b : Option ℤ) → ((x y : ℤ) → P x → P y → P (half_of_sum x y)) → ((v : ℤ) → a ≡ Some v → P v) → ((v : ℤ) → b ≡ Some v → P v)
    → IsThere a ⊎ IsThere b → (v : ℤ) × (mean_of a b ≡ Some v) × P v
mean_has P None None half one other (inl none) = absurd (let e = none.1 in cc)
mean_has P None None half one other (inr none) = absurd (let e = none.1 in cc)
mean_has P None (Some b) half one other some = (b, refl, other b refl)
mean_has P (Some a) None half one other some = (a, refl, one a refl)
mean_has P (Some a) (Some b) half one other some = (half_of_sum a b, refl, half a b (one a refl) (other b refl))

-- where there is a least or a mean, some channel has one
least_from : (a b : Option ℤ) (v : ℤ) → least_of a b ≡ Some v → IsThere a ⊎ IsThere b
least_from None b v is = inr (v, is)
least_from (Some a) b v is = inl (a, refl)

mean_from : (a b : Option ℤ) (v : ℤ) → mean_of a b ≡ Some v → IsThere a ⊎ IsThere b
mean_from None b v is = inr (v, is)
mean_from (Some a) b v is = inl (a, refl)

-- a change is there where both deviations are
pub change_there : (early late : Option ℤ) → IsSome early → IsSome late → IsThere (change_of early late)
change_there None late is also = absurd (cc)
change_there (Some early) None is also = absurd (cc)
change_there (Some early) (Some late) is also = (late -ℤ early, refl)

pub change_from : (early late : Option ℤ) (v : ℤ) → change_of early late ≡ Some v
    → (e : ℤ) × ((l : ℤ) × (early ≡ Some e) × (late ≡ Some l) × (v ≡ l -ℤ e))
change_from None late v is = absurd (cc)
change_from (Some early) None v is = absurd (cc)
change_from (Some early) (Some late) v is = (early, (late, refl, refl, let e : Some (late -ℤ early) ≡ Some v = is in cc))

-- what one channel has, one of both has
pub of_channels : (f : Channel → Option ℤ) (channel : Channel) → IsThere (f channel) → IsThere (f A) ⊎ IsThere (f B)
of_channels f A is = inl is
of_channels f B is = inr is

channel_of : (f : Channel → Option ℤ) → IsThere (f A) ⊎ IsThere (f B) → (channel : Channel) × IsThere (f channel)
channel_of f (inl is) = (A, is)
channel_of f (inr is) = (B, is)

-- ---- a receiver's own index

pub own_is : (own : Option ℕ) (index : ℕ) → is_own own index ≡ true → own ≡ Some index
own_is None index is = absurd (cc)
own_is (Some own) index is = let e : own ≡ index = grind arith in ap Some e

pub own_value : (own : Option ℕ) (index : ℕ) (value : Option ℤ) → is_own own index ≡ true → own_value_or own index value ≡ Some (pos 0)
own_value own index value is = ap (λ b. if b then Some (pos 0) else value) is

pub other_value : (own : Option ℕ) (index : ℕ) (value : Option ℤ) → is_own own index ≡ false → own_value_or own index value ≡ value
other_value own index value is = ap (λ b. if b then Some (pos 0) else value) is

-- two senders of one index are the same node
sole_sender : (r : Round) (index slot other_slot : ℕ) (node other : NodeSpec) → IsSane r.params → IsSender r node slot → IsSender r other other_slot
    → key_slot_of r.params index ≡ Some slot → key_slot_of r.params index ≡ Some other_slot → other ≡ node
sole_sender r index slot other_slot node other sane from also slot_is other_is =
    let slots : Some slot ≡ Some other_slot = sym slot_is ∙ other_is in
    let same : slot ≡ other_slot = cc in
    let one = key_node_is r.params node slot sane from.there from.key in
    let two = key_node_is r.params other other_slot sane also.there also.key in
    let nodes : Some node ≡ Some other = sym one ∙ ap (key_node_of r.params) same ∙ two in
    cc

-- the sender of a receiver's own index has its odd row
pub own_odd : (r : Round) (n : Hearer) (index : ℕ) (sender : Sender) → IsRound r → IsHeardAt r n → IsFrom r index sender → is_own n.own index ≡ true
    → sender.odd ≡ n.odd
own_odd r n index sender is hears from own =
    let own_one = hears.itself index (own_is n.own index own) in
    let itself = own_one.1.1 in
    let same : own_one.1.0 ≡ from.node = sole_sender r index from.slot own_one.0 from.node own_one.1.0 is.sane from.from itself.sender from.slot_is itself.slot_is in
    ap (λ (s : Sender). s.odd) (sym from.is) ∙ ap (λ (node : NodeSpec). r.odd node.id) (sym same) ∙ itself.odd

-- no other index of a correct node has no sender
no_sender : (r : Round) (index slot : ℕ) (node : NodeSpec) → IsSane r.params → IsSender r node slot → key_slot_of r.params index ≡ Some slot → sender_at r index ≡ None → ⊥
no_sender r index slot node sane from slot_is none =
    let e : Some (sender_with r slot node.id) ≡ None = sym (sender_found r index slot node sane from slot_is) ∙ none in
    cc

-- a deviation where there is no sender is of an arbitrary node
of_arbitrary : (r : Round) (n : Hearer) (index : ℕ) (is_odd : Bool) (channel : Channel) (value : ℤ) → IsRound r → IsHeardAt r n
    → sender_at r index ≡ None → n.look index is_odd channel ≡ Some value → marked r index ≡ true
of_arbitrary r n index is_odd channel value is hears none there =
    let only = hears.only index is_odd channel value there in
    by_kind only.0 only.1.0 only.1.1 only.1.2 only.1.3
  where
    by_kind : (slot : ℕ) (node : NodeSpec) → key_slot_of r.params index ≡ Some slot → key_node_of r.params slot ≡ Some node
        → (r.has_rows node.id ≡ true) ⊎ (r.is_arbitrary node.id ≡ true) → marked r index ≡ true
    by_kind slot node slot_is node_is (inl rows) =
        let has = key_node_has r.params node slot node_is in
        absurd (no_sender r index slot node is.sane (record { there = has.0; rows = rows; key = has.1 }) slot_is none)
    by_kind slot node slot_is node_is (inr arbitrary) = marked_is r index slot node slot_is node_is arbitrary

pub own_none : (r : Round) (n : Hearer) (index : ℕ) → IsRound r → IsHeardAt r n → sender_at r index ≡ None → is_own n.own index ≡ true → ⊥
own_none r n index is hears none own =
    let own_one = hears.itself index (own_is n.own index own) in
    let itself = own_one.1.1 in
    no_sender r index own_one.0 own_one.1.0 is.sane itself.sender itself.slot_is none

pub other_of : (r : Round) (n : Hearer) (index : ℕ) (sender : Sender) (from : IsFrom r index sender) → is_own n.own index ≡ false → IsOther r n index from.slot from.node
other_of r n index sender from other = record { sender = from.from; slot_is = from.slot_is; other = other }

-- ---- offset values

unfoldable pub Offsets : Round → Hearer → Sender → ℤ → Type 0
Offsets r n sender value = IsDeviation r.params true sender.action n.odd sender.odd value

offset_said : (r : Round) (reach : ℤ) (n : Hearer) (index : ℕ) (sender : Sender) (own : Bool) → IsRound r → IsHearer r reach n → IsFrom r index sender → is_own n.own index ≡ own
    → (v : ℤ) × (offset_at n.look n.own index ≡ Some v) × Offsets r n sender v
unfolding Offsets
offset_said r reach n index sender true is hears from own =
    let odd = own_odd r n index sender is hears.supply from own in
    let lasts = micro_lasts r.params n.odd is.sane hears.regular.odd_micro in
    let At : NodeRow → Type 0 = λ row. IsDeviation r.params true sender.action n.odd row (pos 0) in
    (pos 0, own_value n.own index (least_of (n.look index true A) (n.look index true B)) own, subst At (sym odd) (own_value_is_deviation r.params true sender.action n.odd lasts))
offset_said r reach n index sender false is hears from own =
    let other = other_of r n index sender from own in
    let heard = hears.supply.heard index from.slot from.node other in
    let Says : ℤ → Type 0 = λ v. IsDeviation r.params true sender.action n.odd sender.odd v in
    let Of : Sender → ℤ → Type 0 = λ s v. IsDeviation r.params true s.action n.odd s.odd v in
    let each = λ (channel : Channel) (v : ℤ) (there : n.look index true channel ≡ Some v).
    (let Here : Sender → Type 0 = λ s. Of s v in subst Here from.is (hears.supply.placed index from.slot from.node true channel v other there)) in
    let least =
    least_has Says (n.look index true A) (n.look index true B) (each A) (each B)
    (of_channels (n.look index true) heard.0 (there_by (n.look index true heard.0) heard.2)) in
    (least.0, other_value n.own index (least_of (n.look index true A) (n.look index true B)) own ∙ least.1, least.2)

offset_other : (r : Round) (n : Hearer) (index : ℕ) (v : ℤ) (own : Bool) → IsRound r → IsHeardAt r n → is_own n.own index ≡ own → sender_at r index ≡ None
    → offset_at n.look n.own index ≡ Some v → marked r index ≡ true
offset_other r n index v true is hears own none some = absurd (own_none r n index is hears none own)
offset_other r n index v false is hears own none some =
    let least : least_of (n.look index true A) (n.look index true B) ≡ Some v = sym (other_value n.own index (least_of (n.look index true A) (n.look index true B)) own) ∙ some in
    let there = channel_of (n.look index true) (least_from (n.look index true A) (n.look index true B) v least) in
    of_arbitrary r n index true there.0 there.1.0 is hears none there.1.1

pub offsets_told : (r : Round) (reach : ℤ) (n : Hearer) → IsRound r → IsHearer r reach n → AreValues r (Offsets r n) (offset_at n.look n.own)
offsets_told r reach n is hears = record {
  said = λ index sender some. offset_said r reach n index sender (is_own n.own index) is hears (sender_is r index sender some) refl;
  other = λ index v none some. offset_other r n index v (is_own n.own index) is hears.supply refl none some;
}

-- ---- rate values

sooner : (a end : ℕ) (o : ℤ) → a < end → pos end ≤ℤ o → pos a ≤ℤ o
sooner a end o less le = omega (arith, ints)

no_less : (n : ℕ) → pos 0 ≤ℤ pos n
no_less n = omega (arith, ints)

-- a sender's action point lies before the offset correction
pub acts_before : (r : Round) (slot : ℕ) (node : NodeSpec) → IsSane r.params → IsSender r node slot → pos (action_point_of r.params slot) ≤ℤ r.params.correction
acts_before r slot node sane from =
    let static = key_slot_within r.params slot sane (key_among r.params.nodes node slot from.there from.key) in
    sooner (action_point_of r.params slot) (slot_end_of r.params slot) r.params.correction (action_point_lt r.params slot sane static.0) (ends_before r.params slot sane static.1)

-- the change on one channel
change_placed : (r : Round) (reach : ℤ) (n : Hearer) (index slot : ℕ) (node : NodeSpec) (channel : Channel) (v : ℤ) → IsRound r → IsHearer r reach n → IsOther r n index slot node
    → change_of (n.look index false channel) (n.look index true channel) ≡ Some v → PlacesLength r.params n.odd (sender_with r slot node.id) v
change_placed r reach n index slot node channel v is hears other some =
    let both = change_from (n.look index false channel) (n.look index true channel) v some in
    let early = both.0 in
    let late = both.1.0 in
    let At : ℤ → Type 0 = λ x. PlacesLength r.params n.odd (sender_with r slot node.id) x in
    subst At (sym both.1.3)
    (
    difference_places r.params reach (sender_with r slot node.id) n.even n.odd early late is.sane hears.suffices hears.regular
    (is.regular node other.sender.there other.sender.rows) (no_less (action_point_of r.params slot)) (acts_before r slot node is.sane other.sender)
    (record {
      near = hears.near index slot node other;
      by_even = hears.supply.placed index slot node false channel early other both.1.1;
      by_odd = hears.supply.placed index slot node true channel late other both.1.2;
    })
    )

rate_said : (r : Round) (reach : ℤ) (n : Hearer) (index : ℕ) (sender : Sender) (own : Bool) → IsRound r → IsHearer r reach n → IsFrom r index sender → is_own n.own index ≡ own
    → (v : ℤ) × (rate_at n.look n.own index ≡ Some v) × PlacesLength r.params n.odd sender v
rate_said r reach n index sender true is hears from own =
    let odd = own_odd r n index sender is hears.supply from own in
    let At : NodeRow → Type 0 = λ row. PlacesLength r.params row sender (pos 0) in
    (pos 0, own_value n.own index (mean_of (change_at n.look index A) (change_at n.look index B)) own, subst At odd (own_value_places r.params sender))
rate_said r reach n index sender false is hears from own =
    let other = other_of r n index sender from own in
    let heard = hears.supply.heard index from.slot from.node other in
    let Says : ℤ → Type 0 = λ v. PlacesLength r.params n.odd sender v in
    let each = λ (channel : Channel) (v : ℤ) (there : change_at n.look index channel ≡ Some v).
    (
    let Here : Sender → Type 0 = λ s. PlacesLength r.params n.odd s v in
    subst Here from.is (change_placed r reach n index from.slot from.node channel v is hears other there)
    ) in
    let mean =
    mean_has Says (change_at n.look index A) (change_at n.look index B) (λ x y one two. half_places r.params sender n.odd x y is.sane hears.regular.odd_micro one two) (each A) (each B)
    (of_channels (change_at n.look index) heard.0 (change_there (n.look index false heard.0) (n.look index true heard.0) heard.1 heard.2)) in
    (mean.0, other_value n.own index (mean_of (change_at n.look index A) (change_at n.look index B)) own ∙ mean.1, mean.2)

pub rate_other : (r : Round) (n : Hearer) (index : ℕ) (v : ℤ) (own : Bool) → IsRound r → IsHeardAt r n → is_own n.own index ≡ own → sender_at r index ≡ None
    → rate_at n.look n.own index ≡ Some v → marked r index ≡ true
rate_other r n index v true is hears own none some = absurd (own_none r n index is hears none own)
rate_other r n index v false is hears own none some =
    let mean : mean_of (change_at n.look index A) (change_at n.look index B) ≡ Some v = sym (other_value n.own index (mean_of (change_at n.look index A) (change_at n.look index B)) own) ∙ some in
    let there = channel_of (change_at n.look index) (mean_from (change_at n.look index A) (change_at n.look index B) v mean) in
    let both = change_from (n.look index false there.0) (n.look index true there.0) there.1.0 there.1.1 in
    of_arbitrary r n index true there.0 both.1.0 is hears none both.1.2

pub rates_told : (r : Round) (reach : ℤ) (n : Hearer) → IsRound r → IsHearer r reach n → AreValues r (PlacesLength r.params n.odd) (rate_at n.look n.own)
rates_told r reach n is hears = record {
  said = λ index sender some. rate_said r reach n index sender (is_own n.own index) is hears (sender_is r index sender some) refl;
  other = λ index v none some. rate_other r n index v (is_own n.own index) is hears.supply refl none some;
}

-- ---- the laws

pub hears_all : HearsAll
unfolding Offsets
hears_all r reach n is hears = record {
  offsets = hears_values r (Offsets r n) (offset_at n.look n.own) is (offsets_told r reach n is hears);
  rates = hears_values r (PlacesLength r.params n.odd) (rate_at n.look n.own) is (rates_told r reach n is hears);
}

pub hearers_keep_one : HearersKeepOne
hearers_keep_one r reach other_reach n m is hears also = (
  values_keep_one r (Offsets r n) (Offsets r m) (offset_at n.look n.own) (offset_at m.look m.own) is (offsets_told r reach n is hears) (offsets_told r other_reach m is also),
  values_keep_one r (PlacesLength r.params n.odd) (PlacesLength r.params m.odd) (rate_at n.look n.own) (rate_at m.look m.own) is (rates_told r reach n is hears) (rates_told r other_reach m is also),
)
