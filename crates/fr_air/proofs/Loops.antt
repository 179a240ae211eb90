-- The loops over the nodes and the slots of a cycle.
use Rattle.std.proofs.Common.{◌≡◌, ℕ, zero, suc, ◌+◌, ◌<◌, ◌≤◌, List, [], ◌∷◌, ◌++◌, length, map, take, drop, get_or, set, Option, Some, None, refl, ap, sym, subst, ◌∙◌, arith}
use Rattle.std.proofs.lemmas.List.{map_more, length-map, length-take}
use Rattle.std.proofs.lemmas.List.Edits.{map_over_more}
use Rattle.std.proofs.lemmas.List.Sums.{fold-append}
use Rattle.fr_base.specs.declared.channel.Channel.{Channel}
use Rattle.fr_base.specs.declared.channel.Channel.TheVariants.{A, B}
use Rattle.fr_base.specs.declared.cycle_row.Counts.{Counts}
use Rattle.fr_base.specs.declared.node_row.NodeRow.{NodeRow}
use Rattle.fr_reception.specs.Answers.{answer_of}
use Rattle.fr_reception.specs.Offers.{Offer}
use Rattle.fr_reception.specs.declared.heard.Heard.{Heard}
use Rattle.fr_reception.specs.declared.heard.Heard.TheVariants.{Stored, Ignored}
use Rattle.fr_reception.specs.declared.heard.Ignored.TheVariants as reason
use Rattle.fr_node.specs.View.{NodeView, node_row_of}
use Rattle.fr_cluster.specs.Setting.{Setting}
use Rattle.fr_air.specs.Counting.{with_answer, counted_frame, counted_offer, counted_offers, counted_sent}
use Rattle.fr_base.specs.Counts.{AreAtMost}

-- ---- counts

pub at_most-more : (n m : ℕ) (c : Counts) → n ≤ m → AreAtMost n c → AreAtMost m c
at_most-more n m c le most = record {
  sent_a = omega arith;
  sent_b = omega arith;
  stored = omega arith;
  outside = omega arith;
  damaged = omega arith;
  wrong_id = omega arith;
  wrong_cycle = omega arith;
  wrong_length = omega arith;
  plain = omega arith;
}

at_most-counted : (n : ℕ) (heard : Heard) (c : Counts) → AreAtMost n c → AreAtMost (n + 1) (with_answer heard c)
at_most-counted n (Stored value) c most = record { sent_a = omega arith; sent_b = omega arith; stored = omega arith; outside = omega arith; damaged = omega arith; wrong_id = omega arith; wrong_cycle = omega arith; wrong_length = omega arith; plain = omega arith }
at_most-counted n (Ignored (reason.Outside arrival from to)) c most = record { sent_a = omega arith; sent_b = omega arith; stored = omega arith; outside = omega arith; damaged = omega arith; wrong_id = omega arith; wrong_cycle = omega arith; wrong_length = omega arith; plain = omega arith }
at_most-counted n (Ignored (reason.Damaged fault)) c most = record { sent_a = omega arith; sent_b = omega arith; stored = omega arith; outside = omega arith; damaged = omega arith; wrong_id = omega arith; wrong_cycle = omega arith; wrong_length = omega arith; plain = omega arith }
at_most-counted n (Ignored (reason.WrongId slot id)) c most = record { sent_a = omega arith; sent_b = omega arith; stored = omega arith; outside = omega arith; damaged = omega arith; wrong_id = omega arith; wrong_cycle = omega arith; wrong_length = omega arith; plain = omega arith }
at_most-counted n (Ignored (reason.WrongCycle own got)) c most = record { sent_a = omega arith; sent_b = omega arith; stored = omega arith; outside = omega arith; damaged = omega arith; wrong_id = omega arith; wrong_cycle = omega arith; wrong_length = omega arith; plain = omega arith }
at_most-counted n (Ignored (reason.WrongLength own got)) c most = record { sent_a = omega arith; sent_b = omega arith; stored = omega arith; outside = omega arith; damaged = omega arith; wrong_id = omega arith; wrong_cycle = omega arith; wrong_length = omega arith; plain = omega arith }
at_most-counted n (Ignored reason.Plain) c most = record { sent_a = omega arith; sent_b = omega arith; stored = omega arith; outside = omega arith; damaged = omega arith; wrong_id = omega arith; wrong_cycle = omega arith; wrong_length = omega arith; plain = omega arith }

at_most-offer : (x : Setting) (cycle n : ℕ) (receiver : NodeRow) (offer : Option Offer) (c : Counts) → AreAtMost n c → AreAtMost (n + 1) (counted_offer x cycle receiver offer c)
at_most-offer x cycle n receiver None c most = at_most-more n (n + 1) c (omega arith) most
at_most-offer x cycle n receiver (Some offer) c most = at_most-counted n (answer_of x.params cycle receiver offer) c most

-- each receiver counts one more at most
pub at_most-offers : (x : Setting) (cycle : ℕ) (offer : NodeRow → Option Offer) (receivers : List NodeRow) (n : ℕ) (c : Counts) → AreAtMost n c → AreAtMost (n + length receivers) (counted_offers x cycle offer receivers c)
unfolding counted_offers
at_most-offers x cycle offer [] n c most = at_most-more n (n + 0) c (omega arith) most
at_most-offers x cycle offer (r ∷ rs) n c most =
    at_most-more (n + 1 + length rs) (n + length (r ∷ rs)) (counted_offers x cycle offer (r ∷ rs) c) (omega arith)
    (at_most-offers x cycle offer rs (n + 1) (counted_offer x cycle r (offer r) c) (at_most-offer x cycle n r (offer r) c most))

at_most-sent : (channel : Channel) (frame : List ℕ) (n : ℕ) (c : Counts) → AreAtMost n c → AreAtMost (n + 1) (counted_sent channel frame c)
at_most-sent A frame n c most = record { sent_a = omega arith; sent_b = omega arith; stored = omega arith; outside = omega arith; damaged = omega arith; wrong_id = omega arith; wrong_cycle = omega arith; wrong_length = omega arith; plain = omega arith }
at_most-sent B frame n c most = record { sent_a = omega arith; sent_b = omega arith; stored = omega arith; outside = omega arith; damaged = omega arith; wrong_id = omega arith; wrong_cycle = omega arith; wrong_length = omega arith; plain = omega arith }

pub at_most-frame : (channel : Channel) (frame : Option (List ℕ)) (n : ℕ) (c : Counts) → AreAtMost n c → AreAtMost (n + 1) (counted_frame channel frame c)
at_most-frame channel None n c most = at_most-more n (n + 1) c (omega arith) most
at_most-frame channel (Some frame) n c most = at_most-sent channel frame n c most

-- one more receiver
pub offers-more : (x : Setting) (cycle : ℕ) (offer : NodeRow → Option Offer) (receivers : List NodeRow) (r : NodeRow) (c : Counts) →
    counted_offers x cycle offer (receivers ++ r ∷ []) c ≡ counted_offer x cycle r (offer r) (counted_offers x cycle offer receivers c)
unfolding counted_offers
offers-more x cycle offer receivers r c = fold-append (λ so_far receiver. counted_offer x cycle receiver (offer receiver) so_far) c receivers (r ∷ [])

-- ---- a sweep over a list: those so far are stepped, the others are as they were

-- the element that comes next is as it was
pub swept-next : {X : Type 0} (f : X → X) (xs ys : List X) (i : ℕ) (x : X) → i < length xs → ys ≡ map f (take i xs) ++ drop i xs → x ≡ get_or ys i x → x ≡ get_or xs i x
swept-next {X = X} f xs ys i x lt swept at = at ∙ ap (λ (zs : List X). get_or zs i x) swept ∙ rest f xs i x lt
  where
    rest : {X : Type 0} (f : X → X) (xs : List X) (i : ℕ) (d : X) → i < length xs → get_or (map f (take i xs) ++ drop i xs) i d ≡ get_or xs i d
    rest f [] i d lt = absurd (omega arith)
    rest f (x ∷ xs) zero d lt = refl
    rest f (x ∷ xs) (suc i) d lt = rest f xs i d (omega arith)

-- of none none is stepped
pub swept-none : {X : Type 0} (f : X → X) (xs : List X) → length xs ≡ 0 → xs ≡ map f xs
swept-none f [] none = refl
swept-none f (x ∷ xs) none = absurd (omega arith)

-- one more is stepped
pub swept-more : {X : Type 0} (f : X → X) (xs ys : List X) (i : ℕ) (x new : X) → i < length xs → ys ≡ map f (take i xs) ++ drop i xs → x ≡ get_or ys i x → new ≡ f x →
    set ys i new ≡ map f (take (i + 1) xs) ++ drop (i + 1) xs
swept-more f xs ys i x new lt swept at stepped = ap (set ys i) stepped ∙ map_over_more f xs ys i x lt swept at

-- one more is counted
pub counted-more : (x : Setting) (cycle : ℕ) (offer : NodeRow → Option Offer) (nodes : List NodeView) (i : ℕ) (node : NodeView) (c before after : Counts) → i < length nodes →
    node ≡ get_or nodes i node → before ≡ counted_offers x cycle offer (map node_row_of (take i nodes)) c → after ≡ counted_offer x cycle (node_row_of node) (offer (node_row_of node)) before →
    after ≡ counted_offers x cycle offer (map node_row_of (take (i + 1) nodes)) c
counted-more x cycle offer nodes i node c before after lt at so_far now =
    let more : map node_row_of (take (i + 1) nodes) ≡ map node_row_of (take i nodes) ++ node_row_of node ∷ [] =
    map_more node_row_of nodes i node lt ∙ ap (λ (n : NodeView). map node_row_of (take i nodes) ++ node_row_of n ∷ []) (sym at) in
    now
    ∙ ap (counted_offer x cycle (node_row_of node) (offer (node_row_of node))) so_far
    ∙ sym (offers-more x cycle offer (map node_row_of (take i nodes)) (node_row_of node) c)
    ∙ ap (λ (rows : List NodeRow). counted_offers x cycle offer rows c) (sym more)

-- of so many nodes
pub at_most-nodes : (x : Setting) (cycle : ℕ) (offer : NodeRow → Option Offer) (nodes : List NodeView) (i n m : ℕ) (c counts : Counts) → length nodes ≤ 64 → n + 64 ≤ m → AreAtMost n c →
    counts ≡ counted_offers x cycle offer (map node_row_of (take i nodes)) c → AreAtMost m counts
at_most-nodes x cycle offer nodes i n m c counts few room most is =
    let long : length (map node_row_of (take i nodes)) ≤ 64 = rw length-map (omega (arith, length-take i nodes)) in
    subst (AreAtMost m) (sym is)
    (at_most-more (n + length (map node_row_of (take i nodes))) m (counted_offers x cycle offer (map node_row_of (take i nodes)) c) (omega arith)
    (at_most-offers x cycle offer (map node_row_of (take i nodes)) n c most))
