use Rattle.std.proofs.Common.{w32, rules, ◌≡◌, ◌≢◌, Some, ap, sym, ◌∙◌, subst, inl}
use mir.Val.{to_z, of_z}
use Rattle.std.proofs.lemmas.Int.{to_z-of_z}
use Rattle.fr_measure.specs.Readings.{stored}
use Rattle.fr_time.specs.Cycles.{is_odd}
use Rattle.fr_cluster.specs.Questions.{own_key}
use Rattle.fr_node.specs.Fits.{NodeFits}
use Rattle.fr_node.specs.View.{NodeView}
use Rattle.fr_node.proofs.Ending.{kept}
use Rattle.fr_node.proofs.Fitting.{other_index}
use Rattle.fr_node.proofs.node.Node.keep.Goals as goal

pub returns-in-Some-clause-fits : goal.returns-in-Some-clause-fits
returns-in-Some-clause-fits c =
    let P : NodeView → Type 0 = λ (node : NodeView). NodeFits c.args.params.now node in
    let old = subst P (sym c.self.view_is) c.requires.receives.fits in
    let not_own : own_key c.args.params.now c.self.inside.id ≢ Some c.args.slot = λ (own : own_key c.args.params.now c.self.inside.id ≡ Some c.args.slot).
    c.requires.receives.not_itself (ap (λ (node : NodeView). own_key c.args.params.now node.id) (sym c.self.view_is) ∙ own) in
    record {
      sane = old.sane;
      known = old.known;
      rate = old.rate;
      limits = old.limits;
      not_itself = λ index odd channel own.
          c.store.ensures.stores.others index odd channel (inl (other_index c.args.params.now c.self.inside.id c.args.slot index c.in-Some.index own (sym c.in-Some.ensures.value) not_own))
          ∙ old.not_itself index odd channel own;
    }

pub returns-in-Some-clause-value : goal.returns-in-Some-clause-value
returns-in-Some-clause-value c =
    let node : NodeView = record {
      id = c.self.inside.id;
      cycle = c.self.inside.cycle;
      length = c.self.inside.length;
      start = c.self.inside.start;
      rate = c.self.inside.rate;
      table = c.self.inside.table;
      control = c.self.inside.control;
      follows = c.self.inside.follows;
      outcomes = c.self.inside.outcomes;
    } in
    let back : to_z w32 (of_z w32 c.in-Stored.value) ≡ c.in-Stored.value = to_z-of_z w32 c.in-Stored.value (search rules) in
    let stores : c.store.new.self ≡ stored node.table c.in-Some.index (is_odd node.cycle) c.args.channel c.in-Stored.value = rw (back, c.is_odd.ensures) at c.store.ensures.value in
    rw (← c.self.view_is)
    (kept c.args.params.now node c.args.slot c.in-Some.index c.args.channel c.in-Stored.value c.args.heard.now c.store.new.self c.in-Stored.is c.in-Some.ensures.value stores)
