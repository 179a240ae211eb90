use Rattle.std.proofs.Common.{◌≡◌, ◌∙◌, ℕ, ◌<◌, ◌≤◌, ◌+◌, ◌&&◌, ◌++◌, ◌∷◌, [], Bool, true, false, List, length, get_or, map, sym, ap, ap₂, arith, rules}
use Rattle.std.specs.List.{list_all}
use Rattle.std.proofs.lemmas.List.{length-append, map_more, take_all}
use Rattle.std.proofs.lemmas.List.Folds.{list_all_at, list_all_more}
use Rattle.fr_cluster.specs.declared.nodes.NodeSpec.{NodeSpec}
use borrow.Author.Tests.{ltb-false, ltb-true}
use Rattle.fr_traffic.specs.Meeting.{has_own, has_some, receiver_of}
use Rattle.fr_traffic.specs.Traffic.{traffic_with}
use Rattle.fr_traffic.specs.declared.meeting.Receiver.{Receiver}
use Rattle.fr_traffic.proofs.MeetingRows.{meet_by_rows, meet_not, some_is}
use Rattle.fr_traffic.proofs.meeting.lists_meet.Goals.{in-Some+else-not-has_some, in-None}
use Rattle.fr_traffic.proofs.meeting.lists_meet.Goals as goal

pub returns-then-not-has_some : goal.returns-then-not-has_some
returns-then-not-has_some c =
    let t = traffic_with c.args.nodes.now c.args.script.now in
    let test : NodeSpec → Bool = has_own c.args.rate t c.args.double in
    let node : NodeSpec = c.in-Some.node.now in
    let less : c.loop-place.place < length c.args.nodes.now = ltb-true _ _ (sym c.in-Some.ensures.0) in
    let none : c.has_some.result ≡ false = search rules in
    let is : test node ≡ false =
    sym (some_is c.args.rate t c.args.double node) ∙ sym (ap (λ (one : Receiver). has_some one.begun one.sure) c.receiver_of-receiver.ensures) ∙ sym c.has_some.ensures ∙ none in
    let here : test (get_or c.args.nodes.now c.loop-place.place node) ≡ false = ap test (sym c.in-Some.ensures.1) ∙ is in
    meet_not c.args.rate t c.args.double (list_all_at test c.args.nodes.now c.loop-place.place node less here)

pub loop-place-preserved : goal.loop-place-preserved
loop-place-preserved c = elim c.match-get.branch [
  | in-Some+else-not-has_some w ↦
      let t = traffic_with c.args.nodes.now c.args.script.now in
      let test : NodeSpec → Bool = has_own c.args.rate t c.args.double in
      let of : NodeSpec → Receiver = receiver_of c.args.rate t c.args.double in
      let node : NodeSpec = w.in-Some.node.now in
      let one : Receiver = w.receiver_of-receiver.result in
      let less : c.loop-place.place < length c.args.nodes.now = ltb-true _ _ (sym w.in-Some.ensures.0) in
      let some : w.has_some.result ≡ true = search rules in
      let is : test node ≡ true =
      sym (some_is c.args.rate t c.args.double node) ∙ sym (ap (λ (r : Receiver). has_some r.begun r.sure) w.receiver_of-receiver.ensures) ∙ sym w.has_some.ensures ∙ some in
      let here : test (get_or c.args.nodes.now c.loop-place.place node) ≡ true = ap test (sym w.in-Some.ensures.1) ∙ is in
      let now : c.match-get.receivers ≡ c.loop-place.receivers ++ one ∷ [] = search rules in
      let long : length (c.loop-place.receivers ++ one ∷ []) ≡ length c.loop-place.receivers + 1 = length-append c.loop-place.receivers (one ∷ []) in
      record {
        value = now ∙ ap₂ (λ (rs : List Receiver) (r : Receiver). rs ++ r ∷ []) c.loop-place.invariant.value (w.receiver_of-receiver.ensures ∙ ap of w.in-Some.ensures.1)
            ∙ sym (map_more of c.args.nodes.now c.loop-place.place node less);
        long = ap (λ (rs : List Receiver). length rs) now ∙ long ∙ ap (λ (n : ℕ). n + 1) c.loop-place.invariant.long;
        own = list_all_more test c.args.nodes.now c.loop-place.place node less ∙ ap₂ (λ (a b : Bool). a && b) c.loop-place.invariant.own here;
      }
  | in-None w ↦
      let high = ltb-false c.loop-place.place (length c.args.nodes.now) (sym w.in-None.ensures.0) in
      absurd (omega (arith, c.len-place-end.ensures))
]

pub returns : goal.returns
returns c =
    let t = traffic_with c.args.nodes.now c.args.script.now in
    let of : NodeSpec → Receiver = receiver_of c.args.rate t c.args.double in
    let high : length c.args.nodes.now ≤ c.loop-place.place = search rules in
    let whole = take_all c.loop-place.place c.args.nodes.now high in
    let own = sym (ap (list_all (has_own c.args.rate t c.args.double)) whole) ∙ c.loop-place.invariant.own in
    let are = c.as_slice.ensures ∙ c.loop-place.invariant.value ∙ ap (map of) whole in
    c.all_meet.ensures ∙ meet_by_rows c.args.rate t c.args.double c.as_slice.result.now own are
