use Rattle.std.proofs.Common.{◌≡◌, ◌<◌, ◌≤◌, ◌+◌, ◌*◌, pos, ℤ, Option, sym, ap, ◌∙◌, subst, FitsSigned, w32, w64, arith}
use Rattle.std.specs.Prelude.{IsSome, ◌-ℤ◌}
use Rattle.std.proofs.lemmas.Int.{ints, to_z-of_z}
use Rattle.fr_base.specs.Within.{IsBetween}
use Rattle.fr_cluster.specs.declared.names.ParamName.TheVariants as name
use Rattle.fr_node.specs.Fits.{NodeFits}
use Rattle.fr_node.specs.View.{NodeView}
use Rattle.fr_node.specs.Cycle.{passed}
use Rattle.fr_base.specs.declared.node_row.NodeRow.{NodeRow}
use Rattle.fr_cluster.specs.Values.{Values}
use Rattle.fr_node.proofs.node.Node.pass.Goals as goal

pub invariant_of-self : goal.invariant_of-self
invariant_of-self c =
    let limit = c.requires.under_way.fits.sane.ranges name.pRateCorrectionOut in
    let same : c.args.self.now.length ≡ c.self.inside.length = ap (λ (node : NodeView). node.length) (sym c.self.view_is) in
    let before : c.self.inside.cycle < 200000 = c.self.invariant.in_run (subst (λ (l : Option ℤ). IsSome l) same c.requires.under_way.under_way) in
    let begins : IsBetween (pos 0) (pos (904000000000000000 + 990000000000 * c.self.inside.cycle)) c.self.inside.start = c.self.invariant.start in
    let start : c.self.inside.start ≡ c.args.row.now.start = ap (λ (node : NodeView). node.start) c.self.view_is ∙ sym c.requires.start in
    let later : IsBetween (pos 0) (pos 990000000000) (c.next_start-start.result -ℤ c.args.row.now.start) = c.next_start-start.ensures.later in
    let next : FitsSigned w64 c.next_start-start.result = omega (arith, ints, before, begins.low, begins.high, start, later.low, later.high) in
    let rate : FitsSigned w32 c.args.rate = c.ranges.rate in
    record {
      few = omega (arith, before);
      in_run = λ some. cc;
      start = record {
        low = simp to_z-of_z (omega (arith, ints, begins.low, start, later.low));
        high = simp to_z-of_z (omega (arith, ints, begins.high, start, later.high));
      };
      rate = record { low = simp to_z-of_z (omega (arith, ints, limit.1, c.requires.rate.low)); high = simp to_z-of_z (omega (arith, ints, limit.1, c.requires.rate.high)) };
      length = λ x none. cc;
    }

pub returns-clause-value : goal.returns-clause-value
returns-clause-value c =
    let p : Values = c.args.params.now in
    let row : NodeRow = c.args.row.now in
    let before : NodeView = record {
      id = c.self.inside.id;
      cycle = c.self.inside.cycle;
      length = c.self.inside.length;
      start = c.self.inside.start;
      rate = c.self.inside.rate;
      table = c.self.inside.table;
      control = c.self.inside.control;
      follows = c.self.inside.follows;
      outcomes = c.self.inside.outcomes;
    } in
    let is : before ≡ c.args.self.now = c.self.view_is in
    let few : c.self.inside.cycle ≤ 200000 = c.self.invariant.few in
    let begins : IsBetween (pos 0) (pos (904000000000000000 + 990000000000 * c.self.inside.cycle)) c.self.inside.start = c.self.invariant.start in
    let start : c.self.inside.start ≡ c.args.row.now.start = ap (λ (node : NodeView). node.start) is ∙ sym c.requires.start in
    let later : IsBetween (pos 0) (pos 990000000000) (c.next_start-start.result -ℤ c.args.row.now.start) = c.next_start-start.ensures.later in
    let next : FitsSigned w64 c.next_start-start.result = omega (arith, ints, few, begins.low, begins.high, start, later.low, later.high) in
    let rate : FitsSigned w32 c.args.rate = c.ranges.rate in
    simp to_z-of_z (ap (λ (x : ℤ). record (passed p before row c.args.rate) { start = x }) c.next_start-start.ensures.value ∙ ap (λ (node : NodeView). passed p node row c.args.rate) is)

pub returns-clause-fits : goal.returns-clause-fits
returns-clause-fits c =
    let P : NodeView → Type 0 = λ (node : NodeView). NodeFits c.args.params.now node in
    let old = subst P (sym c.self.view_is) c.requires.under_way.fits in
    let rate : FitsSigned w32 c.args.rate = c.ranges.rate in
    record {
      sane = old.sane;
      known = old.known;
      rate = simp to_z-of_z c.requires.rate;
      limits = old.limits;
      not_itself = old.not_itself;
    }
