use Rattle.std.proofs.Common.{◌≡◌, rules, ◌++◌, ◌∷◌, [], List, None, Some, Option, Result, Ok, ap, subst, sym, ◌∙◌}
use Rattle.fr_base.specs.declared.channel.Channel.{Channel}
use Rattle.fr_base.specs.declared.channel.Channel.TheVariants as channel
use Rattle.fr_base.specs.declared.reason.Reason.{Reason}
use Rattle.fr_text.specs.Records.{FileRecord}
use Rattle.fr_log.specs.Draft.{IsLogDraft}
use Rattle.fr_log.specs.Reasons.{limits_reason, log_delay_reason}
use Rattle.fr_log.specs.declared.rows.DelayLimits.{DelayLimits}
use Rattle.fr_log.specs.declared.rows.Row.{Row}
use Rattle.fr_log.specs.declared.rows.Row.TheVariants as row
use Rattle.fr_log.proofs.Tables.{delay_line, draft-more, with-delay_a, with-delay_b}
use Rattle.fr_log.proofs.Taken.{delay-free, in-order}
use Rattle.fr_log.proofs.draft.Draft.take_delay.Goals as goal

pub returns-in-A : goal.returns-in-A
returns-in-A c =
    let d = c.args.row.now in
    let is : d.channel ≡ Some channel.A = search rules in
    let why : (done : List FileRecord) → IsLogDraft c.args.self.now done → None ≡ log_delay_reason c.args.self.now.params.now done d = search rules in
    let linked : (done : List FileRecord) → IsLogDraft c.args.self.now done → None ≡ limits_reason c.args.self.now.params.now done d (Some channel.A) = search rules in
    let line : ◌≡◌ {A = Result Row Reason} (Ok (row.Delay d)) (delay_line d.node channel.A d.limits) =
    ap (λ (ch : Option Channel). Ok (row.Delay (record { node = d.node; channel = ch; limits = d.limits }))) is
    in
    record {
      params = search rules;
      takes = record {
        why = why;
        adds = λ done r h e none.
            let P : List (Option DelayLimits) → Type 0 = λ limits. IsLogDraft (record c.args.self.now { on_a = limits }) (done ++ r ∷ []) in
            let free = delay-free c.args.self.now.params.now done d channel.A (linked done h) in
            subst P (sym c.note.ensures.noted)
            (draft-more c.args.self.now _ done r _ h (e ∙ line)
            (with-delay_a c.args.self.now done d.node d.limits h c.note.ensures.low (in-order d.limits free.fits c.requires) free.none));
      };
    }

pub returns-in-B : goal.returns-in-B
returns-in-B c =
    let d = c.args.row.now in
    let is : d.channel ≡ Some channel.B = search rules in
    let why : (done : List FileRecord) → IsLogDraft c.args.self.now done → None ≡ log_delay_reason c.args.self.now.params.now done d = search rules in
    let linked : (done : List FileRecord) → IsLogDraft c.args.self.now done → None ≡ limits_reason c.args.self.now.params.now done d (Some channel.B) = search rules in
    let line : ◌≡◌ {A = Result Row Reason} (Ok (row.Delay d)) (delay_line d.node channel.B d.limits) =
    ap (λ (ch : Option Channel). Ok (row.Delay (record { node = d.node; channel = ch; limits = d.limits }))) is
    in
    record {
      params = search rules;
      takes = record {
        why = why;
        adds = λ done r h e none.
            let P : List (Option DelayLimits) → Type 0 = λ limits. IsLogDraft (record c.args.self.now { on_b = limits }) (done ++ r ∷ []) in
            let free = delay-free c.args.self.now.params.now done d channel.B (linked done h) in
            subst P (sym c.note-in-B.ensures.noted)
            (draft-more c.args.self.now _ done r _ h (e ∙ line)
            (with-delay_b c.args.self.now done d.node d.limits h c.note-in-B.ensures.low (in-order d.limits free.fits c.requires) free.none));
      };
    }
