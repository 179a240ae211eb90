-- How a call ends: by the program's answer, and by the same words and files told otherwise.
use Rattle.std.proofs.Common.{◌≡◌, ℕ, ◌⊎◌, List, [], Some, None, IsTrue, ap, subst, rules, inl, inr}
use Rattle.fr_base.specs.Device.{Shelved, Sunk}
use Rattle.fr_text.specs.declared.status.Status.{Status}
use Rattle.fr_text.specs.declared.status.Status.TheVariants as status
use Rattle.fr_program.specs.Around.{around_of}
use Rattle.fr_program.specs.Failure.{WritesNothing}
use Rattle.fr_program.specs.Program.{IsProgramAnswer, IsProgramComplete, Program}
use Rattle.flexray_c.specs.Call.{CallEnds}
use Rattle.flexray_c.specs.Kept.{kept, kept_bytes, kept_faults, kept_state}
use Rattle.flexray_c.specs.Lent.{is_lent, lent_state}
use Rattle.flexray_c.specs.Shown.{IsHandedOver, IsUnanswered, Places}
use Rattle.flexray_c.specs.declared.kept.KeptText.{KeptText}
use Rattle.flexray_c.specs.declared.lent.LentFiles.{LentFiles}

faultless : (left : LentFiles) (name : List ℕ) → IsTrue (is_lent name) → (lent_state left).faults name ≡ 0
faultless left name lent = search rules

whole : (sink : KeptText) → kept_faults sink ≡ 0 → kept_state sink ≡ kept (kept_bytes sink)
whole sink no_fault = ap (λ (n : ℕ). record { written = Some (kept_bytes sink); faults = n; puts = None }) no_fault

-- a sink of no bytes that was left as it was
empty : (before after : KeptText) → kept_state before ≡ kept [] → after ≡ before → kept_bytes after ≡ []
empty before after none same = search rules

-- the program answered, and what it wrote was handed over
pub answered : {Asked : Type 0} (program : Program Asked) (words : List (List ℕ)) (files : Shelved) (left : LentFiles) (no_text no_line text line : KeptText) (answer : Status) (places : Places) (result : ℕ)
    → kept_state no_text ≡ kept [] → kept_state no_line ≡ kept []
    → IsProgramAnswer program words (around_of files (lent_state left) (kept_state no_text) (kept_state text)) (kept_state no_line) (kept_state line) answer
    → IsProgramComplete program words (around_of files (lent_state left) (kept_state no_text) (kept_state text)) answer
    → (WritesNothing answer → text ≡ no_text) → (answer ≡ status.Done → line ≡ no_line)
    → ((kept_faults text ≡ 0) × (kept_faults line ≡ 0) × IsHandedOver answer (kept_bytes text) (kept_bytes line) places result) ⊎ IsUnanswered places result
    → CallEnds program words files places result
answered program words files left no_text no_line text line answer places result none nothing answers complete unwritten untold ends =
    elim ends [
      | inl kept_whole ↦
          let A : Sunk → Sunk → Sunk → Sunk → Type 0 = λ a b c d. IsProgramAnswer program words (around_of files (lent_state left) a b) c d answer in
          let C : Sunk → Sunk → Type 0 = λ a b. IsProgramComplete program words (around_of files (lent_state left) a b) answer in
          let text_is : kept_state text ≡ kept (kept_bytes text) = whole text kept_whole.0 in
          let line_is : kept_state line ≡ kept (kept_bytes line) = whole line kept_whole.1 in
          let first : A (kept []) (kept_state text) (kept_state no_line) (kept_state line) = subst (λ (a : Sunk). A a (kept_state text) (kept_state no_line) (kept_state line)) none answers in
          let second : A (kept []) (kept (kept_bytes text)) (kept_state no_line) (kept_state line) = subst (λ (b : Sunk). A (kept []) b (kept_state no_line) (kept_state line)) text_is first in
          let third : A (kept []) (kept (kept_bytes text)) (kept []) (kept_state line) = subst (λ (c : Sunk). A (kept []) (kept (kept_bytes text)) c (kept_state line)) nothing second in
          inl (record {
            left = lent_state left;
            faultless = faultless left;
            text = kept_bytes text;
            line = kept_bytes line;
            answer = answer;
            answers = subst (λ (d : Sunk). A (kept []) (kept (kept_bytes text)) (kept []) d) line_is third;
            complete = subst (λ (b : Sunk). C (kept []) b) text_is (subst (λ (a : Sunk). C a (kept_state text)) none complete);
            unwritten = λ writes. empty no_text text none (unwritten writes);
            untold = λ done. empty no_line line nothing (untold done);
            handed_over = kept_whole.2;
          })
      | inr unanswered ↦ inr unanswered
    ]

pub same_call : {Asked : Type 0} (program : Program Asked) (words others : List (List ℕ)) (files lent : Shelved) (places : Places) (result : ℕ) → words ≡ others → files ≡ lent
    → CallEnds program words files places result → CallEnds program others lent places result
same_call program words others files lent places result same_words same_files ends =
    let F : Shelved → Type 0 = λ shelf. CallEnds program words shelf places result in
    let W : List (List ℕ) → Type 0 = λ list. CallEnds program list lent places result in
    subst W same_words (subst F same_files ends)
