use Rattle.std.proofs.Common.{[], ◌∷◌, subst, sym}
use Rattle.std.proofs.lemmas.Result.{err_from_is_err_and}
use Rattle.fr_base.specs.Device.{Shelved}
use Rattle.fr_cluster.specs.Values.{Values}
use Rattle.fr_params.specs.Files.{params_file}
use Rattle.fr_params.specs.Told.{params_says}
use Rattle.fr_program.proofs.Endings.{cut_short, whole}
use Rattle.fr_text.proofs.Commands.{refused_behind, stops_first, stops_next, two_asked}
use Rattle.fr_text.proofs.Shelves.{has_earlier}
use Rattle.fr_text.specs.Files.{Files, StopsIn, file, text}
use Rattle.fr_text.specs.declared.told.Told.{Told}
use Rattle.fr_trace.specs.Files.{trace_file}
use Rattle.fr_trace.specs.Told.{trace_says}
use Rattle.fr_trace.specs.Trace.{TraceView}
use Rattle.fr_whole.specs.SharpCheckAnswer.{IsSharpCheckSaid, IsSharpCheckText}
use Rattle.fr_whole.specs.SharpCheckText.{sharp_check_text}
use Rattle.fr_whole.proofs.sharp_check.answer_sharp_check.Goals as goal

abbrev end : Values → TraceView → Files
end p t = text (IsSharpCheckText p t) (IsSharpCheckSaid p t)

abbrev rest : Values → Files
rest p = file (trace_file p) trace_says (end p)

pub returns-in_err-trace-clause-ends : goal.returns-in_err-trace-clause-ends
returns-in_err-trace-clause-ends g c =
    let e = err_from_is_err_and c.from_residual-in_err-trace.result c.from_residual-in_err-trace.ensures.1 in
    let p = c.in_ok-params.params in
    rw (e.1, e.2)
    (stops_next params_file params_says rest c.args.files.params.now (c.args.files.trace.now ∷ []) _ _ _ p _ c.in_ok-params.ensures.later c.in_ok-params.ensures.accepted
    (stops_first (trace_file p) trace_says (end p) c.args.files.trace.now [] _ _ _ c.in_err-trace.ensures.later c.in_err-trace.ensures.stops))

pub returns-in_err-synced-clause-ends : goal.returns-in_err-synced-clause-ends
returns-in_err-synced-clause-ends g c =
    let e = err_from_is_err_and c.from_residual-in_err-synced.result c.from_residual-in_err-synced.ensures.1 in
    let p = c.in_ok-params.params in
    let t = c.in_ok-trace.trace in
    let third : Shelved = g.S.Shelf.state c.accepted-2.new.shelf in
    let refused = c.in_err-synced.ensures.refused in
    let P : Told → Type 0 = λ why. StopsIn (end p t) [] [] third third why in
    rw (e.1, e.2)
    (stops_next params_file params_says rest c.args.files.params.now (c.args.files.trace.now ∷ []) _ _ _ p _ c.in_ok-params.ensures.later c.in_ok-params.ensures.accepted
    (stops_next (trace_file p) trace_says (end p) c.args.files.trace.now [] _ _ _ t _ c.in_ok-trace.ensures.later c.in_ok-trace.ensures.accepted
    (subst P (sym refused.2) (refused_behind (IsSharpCheckText p t) (IsSharpCheckSaid p t) [] third refused.0 refused.1))))

pub returns-in-Ok-clause-ends : goal.returns-in-Ok-clause-ends
returns-in-Ok-clause-ends g c =
    let p = c.in_ok-params.params in
    let t = c.in_ok-trace.trace in
    let trace = has_earlier (trace_file p) _ _ _ t c.in_ok-params.ensures.later c.in_ok-trace.ensures.accepted in
    let shown : IsSharpCheckText p t (sharp_check_text p t) = c.in_ok-synced.ensures.told in
    whole _ _ _ _ (record { is_text = (p, c.in_ok-params.ensures.accepted, (t, trace, shown)); asked = two_asked c.in_ok-params.ensures.later c.in_ok-trace.ensures.later }) c.in-Ok.ensures

pub returns-clause-ends : goal.returns-clause-ends
returns-clause-ends g c =
    let p = c.in_ok-params.params in
    let t = c.in_ok-trace.trace in
    let trace = has_earlier (trace_file p) _ _ _ t c.in_ok-params.ensures.later c.in_ok-trace.ensures.accepted in
    let shown : IsSharpCheckText p t (sharp_check_text p t) = c.in_ok-synced.ensures.told in
    cut_short _ _ _ _ (record { is_text = (p, c.in_ok-params.ensures.accepted, (t, trace, shown)); asked = two_asked c.in_ok-params.ensures.later c.in_ok-trace.ensures.later }) c.in-Err.ensures
