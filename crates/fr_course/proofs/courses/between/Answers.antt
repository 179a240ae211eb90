use Rattle.std.proofs.Common.{FitsSigned, pos}
use Rattle.std.specs.Prelude.{◌-ℤ◌}
use mir.Syntax.{w128}
use Rattle.std.proofs.lemmas.Int.{to_z-of_z}
use Rattle.fr_course.proofs.Fits.{boxes_apart, difference_near, ends_near, fits, high_near, low_near}
use Rattle.fr_course.proofs.courses.between.Goals as goal

pub returns-clause-value : goal.returns-clause-value
returns-clause-value c =
    let a : FitsSigned w128 c.args.to.now.low = fits (record { le = tt }) (low_near {bound = pos 3_000_000_000_000_000_000} c.requires.to) in
    let b : FitsSigned w128 c.args.from.now.high = fits (record { le = tt }) (high_near {bound = pos 3_000_000_000_000_000_000} c.requires.from) in
    let d : FitsSigned w128 (c.args.to.now.low -ℤ c.args.from.now.high) = fits (record { le = tt }) (difference_near (low_near {bound = pos 3_000_000_000_000_000_000} c.requires.to) (high_near {bound = pos 3_000_000_000_000_000_000} c.requires.from)) in
    let e : FitsSigned w128 c.args.to.now.high = fits (record { le = tt }) (high_near {bound = pos 3_000_000_000_000_000_000} c.requires.to) in
    let f : FitsSigned w128 c.args.from.now.low = fits (record { le = tt }) (low_near {bound = pos 3_000_000_000_000_000_000} c.requires.from) in
    let g : FitsSigned w128 (c.args.to.now.high -ℤ c.args.from.now.low) = fits (record { le = tt }) (difference_near (high_near {bound = pos 3_000_000_000_000_000_000} c.requires.to) (low_near {bound = pos 3_000_000_000_000_000_000} c.requires.from)) in
    simp to_z-of_z

pub returns-clause-near : goal.returns-clause-near
returns-clause-near c = let from = c.requires.from in let to = c.requires.to in rw (returns-clause-value c) (ends_near {bound = pos 6_000_000_000_000_000_000} (difference_near (low_near {bound = pos 3_000_000_000_000_000_000} to) (high_near {bound = pos 3_000_000_000_000_000_000} from)) (difference_near (high_near {bound = pos 3_000_000_000_000_000_000} to) (low_near {bound = pos 3_000_000_000_000_000_000} from)))

pub returns-clause-courses : goal.returns-clause-courses
returns-clause-courses c = λ from to. rw (returns-clause-value c) (ends_near {bound = pos 3_800_000_000_000_000_000} (difference_near (low_near {bound = pos 1_900_000_000_000_000_000} to) (high_near {bound = pos 1_900_000_000_000_000_000} from)) (difference_near (high_near {bound = pos 1_900_000_000_000_000_000} to) (low_near {bound = pos 1_900_000_000_000_000_000} from)))

pub returns-clause-boxes : goal.returns-clause-boxes
returns-clause-boxes c = λ from to. rw (returns-clause-value c) (boxes_apart from to)
