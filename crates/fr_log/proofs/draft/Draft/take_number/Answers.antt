use Rattle.std.proofs.Common.{◌≡◌, rules, ◌++◌, ◌∷◌, [], List, None, Option, ℕ, subst, sym}
use Rattle.fr_text.specs.Records.{FileRecord}
use Rattle.fr_log.specs.Draft.{IsLogDraft}
use Rattle.fr_log.specs.Reasons.{number_reason}
use Rattle.fr_log.proofs.Tables.{draft-more, with-number}
use Rattle.fr_log.proofs.Taken.{number-free}
use Rattle.fr_log.proofs.draft.Draft.take_number.Goals as goal

pub returns : goal.returns
returns c =
    let why : (done : List FileRecord) → IsLogDraft c.args.self.now done → None ≡ number_reason done c.args.name c.args.number = search rules in
    record {
      params = search rules;
      takes = record {
        why = why;
        adds = λ done r h e none.
            let P : List (Option ℕ) → Type 0 = λ numbers. IsLogDraft (record c.args.self.now { numbers = numbers }) (done ++ r ∷ []) in
            let free = number-free done c.args.name c.args.number (why done h) in
            subst P (sym c.note_number.ensures)
            (draft-more c.args.self.now _ done r _ h e
            (with-number c.args.self.now done c.args.name c.args.number h (record { range = c.requires; fits = free.fits }) free.first free.none));
      };
    }
