use Rattle.std.proofs.Common.{FitsSigned, w32, w64, ◌∙◌, arith}
use Rattle.std.proofs.lemmas.Int.{ints, to_z-of_z}
use Rattle.fr_cluster.specs.declared.names.ParamName.TheVariants as name
use Rattle.fr_node.proofs.node.Node.following.Goals as goal

pub invariant_of-result : goal.invariant_of-result
invariant_of-result c =
    let limit = c.poc_limits.ensures.sane.ranges name.pRateCorrectionOut in
    let start : FitsSigned w64 c.args.start = c.ranges.start in
    let rate : FitsSigned w32 c.args.rate = c.ranges.rate in
    record {
      few = omega (arith, c.requires.in_run);
      in_run = λ some. cc;
      start = record { low = simp to_z-of_z c.requires.start.low; high = simp to_z-of_z (omega (arith, ints, c.requires.start.high)) };
      rate = record { low = simp to_z-of_z (omega (arith, ints, limit.1, c.requires.rate.low)); high = simp to_z-of_z (omega (arith, ints, limit.1, c.requires.rate.high)) };
      length = λ x none. cc;
    }

pub returns-clause-fits : goal.returns-clause-fits
returns-clause-fits c =
    let rate : FitsSigned w32 c.args.rate = c.ranges.rate in
    record {
      sane = c.poc_limits.ensures.sane;
      known = c.requires.known;
      rate = simp to_z-of_z c.requires.rate;
      limits = c.new-2.ensures.limits ∙ c.poc_limits.ensures.value;
      not_itself = λ index odd channel own. c.new.ensures.empty index odd channel;
    }
