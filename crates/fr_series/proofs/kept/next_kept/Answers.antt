use Rattle.std.proofs.Common.{◌≡◌, ℕ, Bool, Option, ◌∙◌, ap, ap₂, refl}
use Rattle.fr_precision.specs.declared.kinds.Kinds.{Kinds}
use Rattle.fr_traffic.specs.Reaching.{whole_in}
use Rattle.fr_traffic.specs.Traffic.{heard_in, traffic_in}
use Rattle.fr_series.specs.declared.kept.Kept.{Kept}
use Rattle.fr_series.proofs.kept.next_kept.Goals as goal

abbrev kept_with : Bool → Kinds → Option ℕ → Kept
kept_with whole heard bound = record { whole = whole; heard = heard; bound = bound }

pub next_bound-requires-clause-heard : goal.next_bound-requires-clause-heard
next_bound-requires-clause-heard c = c.heard_in-heard.ensures ∙ rw (c.params-params.ensures.value, c.script-script.ensures.value) refl

pub returns-clause-kept : goal.returns-clause-kept
returns-clause-kept c =
    let w = c.args.world.now in
    let whole : c.is_whole-whole.result ≡ whole_in w.params w.script c.args.double =
    c.is_whole-whole.ensures ∙ rw (c.params-params.ensures.value, c.script-script.ensures.value) refl in
    let heard : c.heard_in-heard.result ≡ heard_in (traffic_in w.params w.script) c.args.double =
    c.heard_in-heard.ensures ∙ rw (c.params-params.ensures.value, c.script-script.ensures.value) refl in
    ap₂ (λ (o : Bool) (h : Kinds). kept_with o h c.next_bound.result) whole heard
    ∙ ap (kept_with (whole_in w.params w.script c.args.double) (heard_in (traffic_in w.params w.script) c.args.double)) c.next_bound.ensures.bound
