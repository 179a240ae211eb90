use Rattle.std.proofs.Common.{◌≡◌, FitsSigned, pos}
use mir.Syntax.{w128}
use Rattle.std.proofs.lemmas.Int.{to_z-of_z}
use Rattle.fr_course.specs.Course.{share_to}
use Rattle.fr_course.proofs.Counted.{action_between, counted_near}
use Rattle.fr_course.proofs.Fits.{fits, high_near}
use Rattle.fr_course.proofs.Numbers.{scale_is}
use Rattle.fr_course.proofs.corrections.begun_to.Goals as goal

pub share_to-requires-clause-macroticks : goal.share_to-requires-clause-macroticks
share_to-requires-clause-macroticks c =
    let action : FitsSigned w128 c.args.course.now.action = fits (record { le = tt }) (counted_near (action_between c.args.scale.now c.args.course.now (scale_is c.scale.view_is c.scale.invariant) c.requires.course) (scale_is c.scale.view_is c.scale.invariant).macros_to) in
    simp to_z-of_z (action_between c.args.scale.now c.args.course.now (scale_is c.scale.view_is c.scale.invariant) c.requires.course)

pub share_to-requires-clause-length : goal.share_to-requires-clause-length
share_to-requires-clause-length c =
    let length : FitsSigned w128 c.args.next.now.length.high = fits (record { le = tt }) (high_near {bound = pos 930_000_000_000_000_000} c.requires.next.length) in
    simp to_z-of_z (high_near {bound = pos 930_000_000_000_000_000} c.requires.next.length)

pub returns-clause-value : goal.returns-clause-value
returns-clause-value c =
    let action : FitsSigned w128 c.args.course.now.action = fits (record { le = tt }) (counted_near (action_between c.args.scale.now c.args.course.now (scale_is c.scale.view_is c.scale.invariant) c.requires.course) (scale_is c.scale.view_is c.scale.invariant).macros_to) in
    let length : FitsSigned w128 c.args.next.now.length.high = fits (record { le = tt }) (high_near {bound = pos 930_000_000_000_000_000} c.requires.next.length) in
    let share : FitsSigned w128 c.share_to.result = fits (record { le = tt }) c.share_to.ensures.within in
    let value : c.share_to.result ≡ share_to c.args.scale.now c.args.course.now.action c.args.next.now.length.high = simp to_z-of_z at c.share_to.ensures.value in
    simp to_z-of_z value

pub returns-clause-within : goal.returns-clause-within
returns-clause-within c =
    let share : FitsSigned w128 c.share_to.result = fits (record { le = tt }) c.share_to.ensures.within in
    simp to_z-of_z c.share_to.ensures.within
