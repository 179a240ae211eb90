use Rattle.std.proofs.Common.{◌≡◌, List, ◌∷◌, ◌++◌, map, ap, rules}
use Rattle.fr_base.proofs.Putting.{cut, then}
use Rattle.fr_cluster.specs.declared.names.ParamName.{ParamName}
use Rattle.fr_text.specs.Texts.{line_of_record, text_of_records}
use Rattle.fr_params.specs.Texts.{param_record}
use Rattle.fr_params.proofs.writing.+put_values.Goals as goal

pub returns-in_err-put_value-in-Some : goal.returns-in_err-put_value-in-Some
returns-in_err-put_value-in-Some g t c =
    let parts : c.in-Some.name.now ∷ c.in-Some.rest.now ≡ c.args.names.now = search rules in
    let text : line_of_record (param_record c.args.params.now c.in-Some.name.now) ++ text_of_records (map (param_record c.args.params.now) c.in-Some.rest.now) ≡ text_of_records (map (param_record c.args.params.now) c.args.names.now) =
    ap (λ (names : List ParamName). text_of_records (map (param_record c.args.params.now) names)) parts in
    rw (← text) (cut _ _ c.in_err-put_value-in-Some.ensures c.from_residual.ensures.0)

pub returns-in_ok-put_value-in-Some : goal.returns-in_ok-put_value-in-Some
returns-in_ok-put_value-in-Some g t c =
    let parts : c.in-Some.name.now ∷ c.in-Some.rest.now ≡ c.args.names.now = search rules in
    let text : line_of_record (param_record c.args.params.now c.in-Some.name.now) ++ text_of_records (map (param_record c.args.params.now) c.in-Some.rest.now) ≡ text_of_records (map (param_record c.args.params.now) c.args.names.now) =
    ap (λ (names : List ParamName). text_of_records (map (param_record c.args.params.now) names)) parts in
    rw (← text) (then _ c.in_ok-put_value-in-Some.ensures c.put_values.ensures)
