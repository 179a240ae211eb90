use Rattle.std.proofs.Common.{[], ◌∷◌, subst, sym}
use Rattle.std.proofs.lemmas.Result.{err_from_is_err_and}
use Rattle.fr_base.specs.Device.{Shelved}
use Rattle.fr_cluster.specs.Values.{Values}
use Rattle.fr_log.specs.Files.{log_file}
use Rattle.fr_log.specs.Told.{log_says}
use Rattle.fr_log.specs.View.{LogView}
use Rattle.fr_findings.specs.Text.{observe_text}
use Rattle.fr_params.specs.Files.{params_file}
use Rattle.fr_params.specs.Told.{params_says}
use Rattle.fr_program.proofs.Endings.{cut_short, whole}
use Rattle.fr_text.proofs.Commands.{stops_behind, stops_first, stops_next, two_asked}
use Rattle.fr_text.proofs.Shelves.{has_earlier}
use Rattle.fr_text.specs.Files.{Files, IsNeverSaid, StopsIn, file, text}
use Rattle.fr_text.specs.declared.told.Told.{Told}
use Rattle.fr_whole.specs.ObservedText.{IsObservedText}
use Rattle.fr_whole.proofs.observe.answer_observe.Goals as goal

abbrev end : Values → LogView → Files
end p l = text (IsObservedText p l) IsNeverSaid

abbrev rest : Values → Files
rest p = file (log_file p) log_says (end p)

pub returns-in_err-log-clause-ends : goal.returns-in_err-log-clause-ends
returns-in_err-log-clause-ends g c =
    let e = err_from_is_err_and c.from_residual-in_err-log.result c.from_residual-in_err-log.ensures.1 in
    let p = c.in_ok-params.params in
    rw (e.1, e.2)
    (stops_next params_file params_says rest c.args.files.params.now (c.args.files.log.now ∷ []) _ _ _ p _ c.in_ok-params.ensures.later c.in_ok-params.ensures.accepted
    (stops_first (log_file p) log_says (end p) c.args.files.log.now [] _ _ _ c.in_err-log.ensures.later c.in_err-log.ensures.stops))

pub returns-in_err-seen-clause-ends : goal.returns-in_err-seen-clause-ends
returns-in_err-seen-clause-ends g c =
    let e = err_from_is_err_and c.from_residual-in_err-seen.result c.from_residual-in_err-seen.ensures.1 in
    let p = c.in_ok-params.params in
    let l = c.in_ok-log.log in
    let third : Shelved = g.S.Shelf.state c.accepted-2.new.shelf in
    let P : Told → Type 0 = λ why. StopsIn (end p l) [] [] third third why in
    rw (e.1, e.2)
    (stops_next params_file params_says rest c.args.files.params.now (c.args.files.log.now ∷ []) _ _ _ p _ c.in_ok-params.ensures.later c.in_ok-params.ensures.accepted
    (stops_next (log_file p) log_says (end p) c.args.files.log.now [] _ _ _ l _ c.in_ok-log.ensures.later c.in_ok-log.ensures.accepted
    (subst P (sym c.in_err-seen.ensures.failed) (stops_behind (IsObservedText p l) IsNeverSaid [] third))))

pub returns-in-Ok-clause-ends : goal.returns-in-Ok-clause-ends
returns-in-Ok-clause-ends g c =
    let p = c.in_ok-params.params in
    let l = c.in_ok-log.log in
    let log = has_earlier (log_file p) _ _ _ l c.in_ok-params.ensures.later c.in_ok-log.ensures.accepted in
    let shown : IsObservedText p l (observe_text p l) = c.an_observed_text_is_so.ensures p l in
    whole _ _ _ _ (record { is_text = (p, c.in_ok-params.ensures.accepted, (l, log, shown)); asked = two_asked c.in_ok-params.ensures.later c.in_ok-log.ensures.later }) c.in-Ok.ensures

pub returns-clause-ends : goal.returns-clause-ends
returns-clause-ends g c =
    let p = c.in_ok-params.params in
    let l = c.in_ok-log.log in
    let log = has_earlier (log_file p) _ _ _ l c.in_ok-params.ensures.later c.in_ok-log.ensures.accepted in
    let shown : IsObservedText p l (observe_text p l) = c.an_observed_text_is_so.ensures p l in
    cut_short _ _ _ _ (record { is_text = (p, c.in_ok-params.ensures.accepted, (l, log, shown)); asked = two_asked c.in_ok-params.ensures.later c.in_ok-log.ensures.later }) c.in-Err.ensures
