-- The file of the worked log is accepted, and stands for it.
use Rattle.std.proofs.Common.{◌≡◌, Bool, true, false, ◌&&◌, List, [], ◌∷◌, ◌++◌, Option, Some, None, refl, subst, append_assoc}
use Rattle.std.specs.Prelude.{is_none}
use Rattle.std.proofs.lemmas.Bool.{and_parts}
use Rattle.std.proofs.lemmas.List.{append-nil}
use Rattle.csv.specs.Machine.{next_record}
use Rattle.csv.specs.Reading.{records_from, strip_bom}
use Rattle.hex.specs.Hex.{decode_pairs}
use Rattle.fr_base.specs.declared.reason.Reason.{Reason}
use Rattle.fr_text.specs.Fields.{looked_up}
use Rattle.fr_text.specs.Records.{FileRecord, records_of}
use Rattle.fr_text.specs.Refusal.{NoneRefused, Refusing}
use Rattle.fr_text.proofs.Cuts.{none-empty, none-more}
use Rattle.fr_log.specs.Files.{IsLogFile}
use Rattle.fr_log.specs.Reasons.{entries_by, log_reason_after}
use Rattle.fr_log.specs.Rows.{log_row_of}
use Rattle.fr_log.specs.View.{is_arbitrary_in}
use Rattle.fr_seen_runs.specs.WorkedFile.{seen_file}
use Rattle.fr_seen_runs.specs.WorkedLog.{seen_cluster, seen_log}
use Rattle.fr_seen_runs.proofs.WorkedSeen.{none_named, none_own}

-- ---- none of its records is refused

-- whether each of some records is accepted behind those before it
unfoldable are_accepted : Refusing → List FileRecord → List FileRecord → Bool
are_accepted reason done [] = true
are_accepted reason done (r ∷ rest) = is_none (reason done r) && are_accepted reason (done ++ r ∷ []) rest

none_is : (o : Option Reason) → is_none o ≡ true → o ≡ None
none_is None is = refl
none_is (Some why) is = absurd (cc)

accepted_behind : (reason : Refusing) (done rest : List FileRecord) → NoneRefused reason done → are_accepted reason done rest ≡ true → NoneRefused reason (done ++ rest)
unfolding are_accepted
accepted_behind reason done [] none is = rw (append-nil done) none
accepted_behind reason done (r ∷ rest) none is =
    let parts = and_parts (is_none (reason done r)) (are_accepted reason (done ++ r ∷ []) rest) is in
    subst (NoneRefused reason) (append_assoc done (r ∷ []) rest)
    (accepted_behind reason (done ++ r ∷ []) rest (none-more reason done r none (none_is (reason done r) parts.0)) parts.1)

file_accepted : are_accepted (log_reason_after seen_cluster) [] (records_of seen_file) ≡ true
unfolding are_accepted records_of strip_bom records_from next_record log_row_of looked_up entries_by decode_pairs
file_accepted = refl

-- ---- it is the file of the log

pub file_is : IsLogFile seen_cluster (seen_log None false) seen_file
unfolding records_of strip_bom records_from next_record log_row_of looked_up entries_by decode_pairs is_arbitrary_in
file_is = record {
  none_refused = accepted_behind (log_reason_after seen_cluster) [] (records_of seen_file) (none-empty (log_reason_after seen_cluster)) file_accepted;
  limited = refl;
  stands = record {
    unit = refl;
    drift = refl;
    error = refl;
    jitter = refl;
    flutter = refl;
    lost = refl;
    since = refl;
    whole = refl;
    arbitrary_long = refl;
    on_a_long = refl;
    on_b_long = refl;
    arbitrary = λ node most. none_named 65 node;
    limits = λ node channel most. none_own None false node channel;
    each = refl;
    entries = refl;
  };
}
