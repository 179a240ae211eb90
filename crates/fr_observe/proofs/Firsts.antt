-- The first sightings of a node on a channel in a cycle, and their stamps.
use Rattle.std.proofs.Common.{◌≡◌, ◌∙◌, ℕ, ◌==◌, ◌&&◌, Bool, true, false, List, [], ◌∷◌, ◌++◌, cond, All, Some, None, refl, sym, ap, arith}
use Rattle.std.specs.List.{find}
use Rattle.std.specs.Option.{option_map}
use Rattle.std.proofs.lemmas.List.Elements.{All-append, All-cons, All-head, All-nil, All-tail}
use Rattle.fr_base.specs.Rows.{channel_rank}
use Rattle.fr_base.specs.declared.channel.Channel.{Channel}
use Rattle.fr_sightings.specs.Senders.{first_stamp, is_sent_in}
use Rattle.fr_sightings.specs.declared.sighting.Sighting.{Sighting}
use Rattle.fr_observe.specs.Faults.{IsFirst}

same-number : (a b : ℕ) → (a == b) ≡ true → a ≡ b
same-number a b is = grind arith

all-three : (a b c : Bool) → (a && b && c) ≡ true → (a ≡ true) × (b ≡ true) × (c ≡ true)
all-three true true c is = (refl, refl, is)
all-three true false c is = absurd cc
all-three false b c is = absurd cc

-- the frames of its node on its channel in its cycle are those of the asked one
same-test : (s : Sighting) (node : ℕ) (ch : Channel) (cycle : ℕ) → is_sent_in node ch cycle s ≡ true → is_sent_in s.node s.channel s.number ≡ is_sent_in node ch cycle
same-test s node ch cycle is =
    let three : ((s.node == node) ≡ true) × ((channel_rank s.channel == channel_rank ch) ≡ true) × ((s.number == cycle) ≡ true) =
    all-three (s.node == node) (channel_rank s.channel == channel_rank ch) (s.number == cycle) is in
    let node_is : s.node ≡ node = same-number s.node node three.0 in
    let rank_is : channel_rank s.channel ≡ channel_rank ch = same-number (channel_rank s.channel) (channel_rank ch) three.1 in
    let number_is : s.number ≡ cycle = same-number s.number cycle three.2 in
    (λ i t. (t.node == node_is i) && (channel_rank t.channel == rank_is i) && (t.number == number_is i))

-- what is found among first ones is what is found among all
pub firsts_say : (here firsts : List Sighting) (node : ℕ) (ch : Channel) (cycle stamp : ℕ) → All (IsFirst here) firsts → first_stamp firsts node ch cycle ≡ Some stamp
    → first_stamp here node ch cycle ≡ Some stamp
unfolding first_stamp
firsts_say here [] node ch cycle stamp all is = absurd (let none : None ≡ Some stamp = is in cc none)
firsts_say here (s ∷ firsts) node ch cycle stamp all is =
    by (is_sent_in node ch cycle s) refl is (firsts_say here firsts node ch cycle stamp (All-tail (IsFirst here) s firsts all))
  where
    by : (b : Bool) → is_sent_in node ch cycle s ≡ b → option_map (λ t. t.stamp) (cond b (Some s) (find (is_sent_in node ch cycle) firsts)) ≡ Some stamp
        → (option_map (λ t. t.stamp) (find (is_sent_in node ch cycle) firsts) ≡ Some stamp → option_map (λ t. t.stamp) (find (is_sent_in node ch cycle) here) ≡ Some stamp)
        → option_map (λ t. t.stamp) (find (is_sent_in node ch cycle) here) ≡ Some stamp
    by true sent found again =
        ap (λ (test : Sighting → Bool). option_map (λ t. t.stamp) (find test here)) (sym (same-test s node ch cycle sent))
        ∙ All-head (IsFirst here) s firsts all
        ∙ found
    by false sent found again = again found

-- one more
pub firsts_more : (here firsts : List Sighting) (s : Sighting) (stamp : ℕ) → All (IsFirst here) firsts → first_stamp here s.node s.channel s.number ≡ Some stamp → stamp ≡ s.stamp
    → All (IsFirst here) (firsts ++ s ∷ [])
firsts_more here firsts s stamp all is same =
    All-append (IsFirst here) firsts (s ∷ []) all (All-cons (IsFirst here) s [] (is ∙ ap (λ (n : ℕ). Some n) same) (All-nil (IsFirst here)))
