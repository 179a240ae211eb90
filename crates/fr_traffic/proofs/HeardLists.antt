-- What it says of two nodes that all is heard, or that lists meet.
use Rattle.std.proofs.Common.{◌≡◌, ◌⊎◌, ℕ, ◌+◌, ◌*◌, ◌==◌, ◌&&◌, ◌||◌, Bool, true, false, not, List, Contains, inl, inr, refl, ap, ap₂, sym}
use Rattle.std.specs.Prelude.{nat_eq, nat_le}
use Rattle.std.specs.List.{list_all}
use Rattle.std.proofs.lemmas.Bool.{and_parts, or_cases}
use Rattle.std.proofs.lemmas.List.Elements.{All-contains_itself, All-weaker}
use Rattle.std.proofs.lemmas.List.Sums.{list_all-from_AllPass}
use Rattle.fr_base.specs.declared.channel.Channel.{Channel}
use Rattle.fr_base.specs.declared.channel.Channel.TheVariants as channel
use Rattle.fr_bound.specs.declared.judging.Heard.TheVariants as heard
use Rattle.fr_cluster.specs.declared.nodes.NodeSpec.{NodeSpec}
use Rattle.fr_coverage.specs.Links.{is_sync, shares}
use Rattle.fr_runs.proofs.KeyedCounts.{all_pass}
use Rattle.fr_traffic.specs.Traffic.{all_have, all_linked, all_trust, arbitrary_count, bears_on, comes, has_all, has_and_meets, has_begun, has_value, is_correct_sender, is_trusted, kind_by, kind_in, lists_meet, may_receive, may_send, may_send_by, meets_each, rate_on, sure_count, two_meet, value_on, Traffic}

-- `!a || b` where a does not hold, and where it does
pub or_first : (r s v : Bool) → r ≡ s → r ≡ false → not r ≡ (not s || v)
or_first false false v is none = refl
or_first false true v is none = absurd (cc)
or_first true s v is none = absurd (cc)

pub or_second : (r s v w : Bool) → r ≡ s → r ≡ true → w ≡ v → w ≡ (not s || v)
or_second true true v w is some so = so
or_second true false v w is some so = absurd (cc)
or_second false s v w is some so = absurd (cc)

if_so : (a b : Bool) → (a ≡ true → b ≡ true) → (not a || b) ≡ true
if_so true b so = so refl
if_so false b so = refl

so_it_is : (a b : Bool) → (not a || b) ≡ true → a ≡ true → b ≡ true
so_it_is true b either is = either
so_it_is false b either is = absurd (cc)

or_either : (a b : Bool) → b ≡ true → (a || b) ≡ true
or_either true b is = refl
or_either false b is = is

all_of : {X : Type 0} (p : X → Bool) (xs : List X) → ((x : X) → Contains xs x → p x ≡ true) → list_all p xs ≡ true
all_of p xs each = list_all-from_AllPass p xs (All-weaker (Contains xs) (λ x. p x ≡ true) each xs (All-contains_itself xs))

module _ (rate : Bool) (t : Traffic) (double : ℕ) where
  -- what carries the frames of both cycles gives a value of either kind
  value_of : (a b : NodeSpec) (ch : Channel) → rate_on true t a b double ch ≡ true → value_on rate true t a b double ch ≡ true
  value_of a b ch is = by rate
    where
      parts : (x y z : Bool) → (x && y && z) ≡ true → (x && z) ≡ true
      parts true true z is = is
      parts true false z is = absurd (cc)
      parts false y z is = absurd (cc)

      by : (r : Bool) → value_on r true t a b double ch ≡ true
      by true = is
      by false = parts (shares a b ch) (comes true (t.event (2 * double) a.id b.id ch)) (comes true (t.event (2 * double + 1) a.id b.id ch)) is

  value_over : (a b : NodeSpec) → (rate_on true t a b double channel.A || rate_on true t a b double channel.B) ≡ true
      → (value_on rate true t a b double channel.A || value_on rate true t a b double channel.B) ≡ true
  value_over a b is =
      let on : Channel → Bool = value_on rate true t a b double in
      elim (or_cases (rate_on true t a b double channel.A) (rate_on true t a b double channel.B) is) [
        | inl one ↦ ap (λ (c : Bool). c || on channel.B) (value_of a b channel.A one)
        | inr other ↦ or_either (on channel.A) (on channel.B) (value_of a b channel.B other)
      ]

  -- a link bears on a correct sender and another correct node
  link_bears : (a b : NodeSpec) → may_send t double a ≡ true → may_receive t double b ≡ true → (a.id == b.id) ≡ false → bears_on t a b ≡ true
  link_bears a b sends receives other =
      let sender = and_parts (is_correct_sender t a) (may_send_by (t.join a.id) double) sends in
      let both = and_parts (is_sync a) (not (t.is_arbitrary a.id)) sender.0 in
      let receiver = and_parts (not (t.is_arbitrary b.id)) (has_begun (t.join b.id) double) receives in
      let and : Bool → Bool → Bool = λ c d. c && d in
      ap₂ and (ap₂ and (ap₂ and both.0 both.1) receiver.0) (ap not other)

  -- so it has a value of each sender where one channel carries both frames of any two nodes
  linked_value : all_linked t double ≡ true → (a b : NodeSpec) → Contains t.nodes a → Contains t.nodes b → may_send t double a ≡ true → may_receive t double b ≡ true
      → has_value rate true t double b a ≡ true
  linked_value all a b from to sends receives = by (a.id == b.id) refl
    where
      test : NodeSpec → NodeSpec → Bool
      test c d = not (bears_on t c d) || (rate_on true t c d double channel.A || rate_on true t c d double channel.B)

      of_sender : list_all (test a) t.nodes ≡ true
      of_sender = all_pass (λ (c : NodeSpec). list_all (test c) t.nodes) t.nodes a all from

      linked : test a b ≡ true
      linked = all_pass (test a) t.nodes b of_sender to

      by : (same : Bool) → same ≡ (a.id == b.id) → (same || (value_on rate true t a b double channel.A || value_on rate true t a b double channel.B)) ≡ true
      by true is = refl
      by false is =
          let carried = so_it_is (bears_on t a b) (rate_on true t a b double channel.A || rate_on true t a b double channel.B) linked (link_bears a b sends receives (sym is)) in
          value_over a b carried

  pub linked_have : all_linked t double ≡ true → all_have rate t double ≡ true
  linked_have all = all_of (λ b. not (may_receive t double b) || has_all rate t double b) t.nodes (λ b to. if_so (may_receive t double b) (has_all rate t double b) (of_receiver b to))
    where
      of_receiver : (b : NodeSpec) → Contains t.nodes b → may_receive t double b ≡ true → has_all rate t double b ≡ true
      of_receiver b to receives =
          all_of (λ a. not (may_send t double a) || has_value rate true t double b a) t.nodes
          (λ a from. if_so (may_send t double a) (has_value rate true t double b a) (λ sends. linked_value all a b from to sends receives))

  -- where all is heard, any that has begun has a value of any that may send
  pub have_value : all_have rate t double ≡ true → (a b : NodeSpec) → Contains t.nodes a → Contains t.nodes b → may_send t double a ≡ true → may_receive t double b ≡ true
      → has_value rate true t double b a ≡ true
  have_value all a b from to sends receives =
      let here = all_pass (λ (c : NodeSpec). not (may_receive t double c) || has_all rate t double c) t.nodes b all to in
      let each = so_it_is (may_receive t double b) (has_all rate t double b) here receives in
      let one = all_pass (λ (c : NodeSpec). not (may_send t double c) || has_value rate true t double b c) t.nodes a each from in
      so_it_is (may_send t double a) (has_value rate true t double b a) one sends

  -- where each trusts its list, one that has begun does
  pub trusts_one : all_trust rate t double ≡ true → (b : NodeSpec) → Contains t.nodes b → may_receive t double b ≡ true → is_trusted rate t double b ≡ true
  trusts_one all b to receives =
      let here = all_pass (λ (c : NodeSpec). not (may_receive t double c) || is_trusted rate t double c) t.nodes b all to in
      so_it_is (may_receive t double b) (is_trusted rate t double b) here receives

  -- where lists meet, one that has begun has a value of a sender that stays on, and any two meet
  meets_one : lists_meet rate t double ≡ true → (b : NodeSpec) → Contains t.nodes b → may_receive t double b ≡ true → has_and_meets rate t double b ≡ true
  meets_one all b to receives =
      let here = all_pass (λ (c : NodeSpec). not (may_receive t double c) || has_and_meets rate t double c) t.nodes b all to in
      so_it_is (may_receive t double b) (has_and_meets rate t double b) here receives

  pub meeting_sure : lists_meet rate t double ≡ true → (b : NodeSpec) → Contains t.nodes b → may_receive t double b ≡ true → nat_le 1 (sure_count rate t double b) ≡ true
  meeting_sure all b to receives =
      let parts = and_parts (nat_le 1 (sure_count rate t double b)) (meets_each rate t double b) (meets_one all b to receives) in parts.0

  pub meeting_two : lists_meet rate t double ≡ true → (b c : NodeSpec) → Contains t.nodes b → Contains t.nodes c → may_receive t double b ≡ true → may_receive t double c ≡ true
      → (b.id == c.id) ≡ false → two_meet rate t double b c ≡ true
  meeting_two all b c to too receives also other =
      let parts = and_parts (nat_le 1 (sure_count rate t double b)) (meets_each rate t double b) (meets_one all b to receives) in
      let here = all_pass (λ (d : NodeSpec). not (may_receive t double d) || (b.id == d.id || two_meet rate t double b d)) t.nodes c parts.1 too in
      let either = so_it_is (may_receive t double c) (b.id == c.id || two_meet rate t double b c) here also in
      second (b.id == c.id) (two_meet rate t double b c) other either
    where
      second : (x y : Bool) → x ≡ false → (x || y) ≡ true → y ≡ true
      second true y is either = absurd (cc)
      second false y is either = either

  -- what the kind of a double cycle says
  pub kind_clean : kind_in rate t double ≡ heard.Clean → (all_have rate t double ≡ true) × (nat_eq (arbitrary_count t) 0 ≡ true)
  kind_clean is = by (all_have rate t double) (nat_eq (arbitrary_count t) 0) (lists_meet rate t double) is
    where
      by : (all none meet : Bool) → kind_by all none meet ≡ heard.Clean → (all ≡ true) × (none ≡ true)
      by true true meet is = (refl, refl)
      by true false meet is = absurd (cc)
      by false none true is = absurd (cc)
      by false none false is = absurd (cc)

  pub kind_meeting : kind_in rate t double ≡ heard.Meeting → (all_have rate t double ≡ true) ⊎ (lists_meet rate t double ≡ true)
  kind_meeting is = by (all_have rate t double) (nat_eq (arbitrary_count t) 0) (lists_meet rate t double) is
    where
      by : (all none meet : Bool) → kind_by all none meet ≡ heard.Meeting → (all ≡ true) ⊎ (meet ≡ true)
      by true none meet is = inl refl
      by false none true is = inr refl
      by false none false is = absurd (cc)
