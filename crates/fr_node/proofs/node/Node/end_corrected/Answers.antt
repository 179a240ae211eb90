use Rattle.std.proofs.Common.{◌≡◌, ◌+◌, FitsSigned, w32, w64, rules, arith}
use Rattle.std.proofs.lemmas.Int.{ints, to_z-of_z}
use Rattle.fr_node.specs.Cycle.{passed}
use Rattle.fr_node.proofs.Ending.{corrected}
use Rattle.fr_node.proofs.node.Node.end_corrected.Goals as goal

pub pass-requires-clause-under_way : goal.pass-requires-clause-under_way
pass-requires-clause-under_way c = record {
  fits = c.step.ensures.fits c.args.params.now c.requires.under_way.fits;
  under_way = rw c.step.ensures.value c.requires.under_way.under_way;
}

pub returns-clause-after : goal.returns-clause-after
returns-clause-after c =
    let start : FitsSigned w64 c.row.result.start = omega (arith, ints, c.row.ensures.timed.start) in
    let length : FitsSigned w64 c.row.result.length = omega (arith, ints, c.row.ensures.timed.length) in
    let old : FitsSigned w32 c.row.result.rate = search rules in
    let offset : FitsSigned w32 c.args.offset.value = search rules in
    let rate : FitsSigned w32 c.args.rate.value = search rules in
    let passes : c.pass.new.self ≡ passed c.args.params.now c.step.new.self (record c.row.result { offset = c.args.offset.value; cut = c.cut_count.result + c.cut_count-2.result }) c.args.rate.value =
    simp to_z-of_z at c.pass.ensures.value in
    corrected c.args.params.now c.args.self.now c.step.new.self c.pass.new.self c.row.result c.args.offset c.args.rate (c.cut_count.result + c.cut_count-2.result)
    c.step.ensures.value c.row.ensures.value c.requires.terms.offset_is c.requires.terms.rate_is passes
