use Rattle.std.proofs.Common.{◌≤◌, ◌++◌, ◌∙◌, ℕ, List, length, ap, sym, arith}
use Rattle.std.specs.List.{flat_map}
use Rattle.std.proofs.lemmas.List.{append-nil, take_all}
use Rattle.fr_base.specs.declared.dev.Dev.{Dev}
use Rattle.fr_history.specs.Offers.{channels}
use Rattle.fr_world.proofs.Sweeps.{flat-more, later-slot}
use Rattle.fr_air.specs.Listing.{listed_at}
use Rattle.fr_world.proofs.listing.list_node.Goals as goal

pub loop-slot-init : goal.loop-slot-init
loop-slot-init c = (sym (append-nil c.args.devs.now.entries), omega arith, omega arith)

pub list_slot-requires : goal.list_slot-requires
list_slot-requires c =
    let a = c.args in record {
      room = omega (arith, c.loop-slot.invariant.1, c.requires.room, c.loop-slot-test.true);
      later = later-slot a.params.now a.odd a.keys.now a.node.now c.loop-slot.slot-index c.slot-item.result a.devs.now.entries c.loop-slot.devs.entries c.requires.keys c.loop-slot-test.true c.slot-item.is c.requires.later c.loop-slot.invariant.0;
    }

pub loop-slot-preserved : goal.loop-slot-preserved
loop-slot-preserved c =
    let a = c.args in
    let i = c.loop-slot in
    let f : ℕ → List Dev = λ slot. flat_map (listed_at a.params.now a.odd a.node.now slot) channels in (
      flat-more f a.keys.now i.slot-index c.slot-item.result a.devs.now.entries i.devs.entries c.list_slot.new.devs.entries c.loop-slot-test.true c.slot-item.is i.invariant.0 c.list_slot.ensures.entries_are,
      omega (arith, i.invariant.1, c.list_slot.ensures.room),
      omega (arith, i.invariant.2, c.list_slot.ensures.kept),
    )

pub returns : goal.returns
returns c =
    let a = c.args in
    let i = c.loop-slot in
    let done : length a.keys.now ≤ i.slot-index = omega arith in
    let f : ℕ → List Dev = λ slot. flat_map (listed_at a.params.now a.odd a.node.now slot) channels in record {
      entries_are = i.invariant.0 ∙ ap (λ (keys : List ℕ). a.devs.now.entries ++ flat_map f keys) (take_all i.slot-index a.keys.now done);
      room = omega (arith, i.invariant.1);
      kept = i.invariant.2;
    }
