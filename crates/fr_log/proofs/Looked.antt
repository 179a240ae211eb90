-- What the records of a log say, with one more of them.
use Rattle.std.proofs.Common.{◌≡◌, ℕ, Bool, true, false, List, [], ◌∷◌, ◌++◌, Result, ap, ◌∙◌, refl}
use Rattle.std.specs.Prelude.{◌||◌}
use Rattle.std.specs.List.{cons_option}
use Rattle.std.proofs.lemmas.List.Elements.{filter_map-append}
use Rattle.std.proofs.lemmas.List.Folds.{list_any-append}
use Rattle.fr_base.specs.declared.channel.Channel.{Channel}
use Rattle.fr_base.specs.declared.reason.Reason.{Reason}
use Rattle.fr_text.specs.Fields.{or_else}
use Rattle.fr_text.specs.Records.{FileRecord}
use Rattle.fr_text.proofs.Lookups.{looked_up-more}
use Rattle.fr_log.specs.Rows.{log_row_of}
use Rattle.fr_log.specs.Reasons.{delay_limits_by, each_by, each_said, entries_by, entry_said, is_arbitrary_by, is_log_whole, limits_said, names_arbitrary, number_by, number_said, whole_said}
use Rattle.fr_log.specs.declared.rows.HeadNumber.{HeadNumber}
use Rattle.fr_log.specs.declared.rows.Row.{Row}

pub or-false : (b : Bool) → (b || false) ≡ b
or-false true = refl
or-false false = refl

pub number-more : (name : HeadNumber) (done : List FileRecord) (r : FileRecord) (x : Result Row Reason) → log_row_of r ≡ x
    → number_by name (done ++ r ∷ []) ≡ or_else (number_by name done) (number_said name x)
number-more name done r x e = looked_up-more (number_said name) log_row_of done r x e

pub limits-more : (node : ℕ) (ch : Channel) (done : List FileRecord) (r : FileRecord) (x : Result Row Reason) → log_row_of r ≡ x
    → delay_limits_by node ch (done ++ r ∷ []) ≡ or_else (delay_limits_by node ch done) (limits_said node ch x)
limits-more node ch done r x e = looked_up-more (limits_said node ch) log_row_of done r x e

pub each-more : (done : List FileRecord) (r : FileRecord) (x : Result Row Reason) → log_row_of r ≡ x → each_by (done ++ r ∷ []) ≡ or_else (each_by done) (each_said x)
each-more done r x e = looked_up-more each_said log_row_of done r x e

pub whole-more : (done : List FileRecord) (r : FileRecord) (x : Result Row Reason) → log_row_of r ≡ x → is_log_whole (done ++ r ∷ []) ≡ (is_log_whole done || whole_said x)
whole-more done r x e =
    list_any-append (λ q. whole_said (log_row_of q)) done (r ∷ [])
    ∙ ap (λ (b : Bool). is_log_whole done || b) (or-false (whole_said (log_row_of r)))
    ∙ ap (λ (y : Result Row Reason). is_log_whole done || whole_said y) e

pub arbitrary-more : (node : ℕ) (done : List FileRecord) (r : FileRecord) (x : Result Row Reason) → log_row_of r ≡ x
    → is_arbitrary_by node (done ++ r ∷ []) ≡ (is_arbitrary_by node done || names_arbitrary node x)
arbitrary-more node done r x e =
    list_any-append (λ q. names_arbitrary node (log_row_of q)) done (r ∷ [])
    ∙ ap (λ (b : Bool). is_arbitrary_by node done || b) (or-false (names_arbitrary node (log_row_of r)))
    ∙ ap (λ (y : Result Row Reason). is_arbitrary_by node done || names_arbitrary node y) e

pub entries-more : (done : List FileRecord) (r : FileRecord) (x : Result Row Reason) → log_row_of r ≡ x → entries_by (done ++ r ∷ []) ≡ entries_by done ++ cons_option (entry_said x) []
unfolding entries_by
entries-more done r x e =
    filter_map-append (λ q. entry_said (log_row_of q)) done (r ∷ [])
    ∙ ap (λ (y : Result Row Reason). entries_by done ++ cons_option (entry_said y) []) e
