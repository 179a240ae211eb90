-- What a call of C leaves: a status, and two texts in places of the caller.
use Rattle.std.specs.Prelude.{◌≡◌, ℕ, List, ◌++◌, length, drop, nat_le, if◌then◌else◌}
use Rattle.fr_text.specs.Status.{code_of}
use Rattle.fr_text.specs.declared.status.Status.{Status}
use Rattle.flexray_c.specs.declared.shown.Texts.{Texts}

-- two places before and after a call, and the lengths that it told
pub record Places : Type 0 where
  pub out_before : List ℕ
  pub out_after : List ℕ
  pub err_before : List ℕ
  pub err_after : List ℕ
  pub told : Texts

abbrev pub places_of : List ℕ → List ℕ → List ℕ → List ℕ → Texts → Places
places_of out_before out_after err_before err_after told = record {
  out_before = out_before;
  out_after = out_after;
  err_before = err_before;
  err_after = err_after;
  told = told;
}

-- a place with a text at its front where the text fits, and as it was where it does not
abbrev pub shown_in : List ℕ → List ℕ → List ℕ
shown_in text place = if nat_le (length text) (length place) then text ++ drop (length text) place else place

-- a text and a line stand in their places where they fit, their whole lengths are told, and the status is the result
pub record IsHandedOver (answer : Status) (text line : List ℕ) (places : Places) (result : ℕ) : Type 0 where
  pub out : places.out_after ≡ shown_in text places.out_before
  pub err : places.err_after ≡ shown_in line places.err_before
  pub out_length : places.told.out_length ≡ length text
  pub err_length : places.told.err_length ≡ length line
  pub is_code : result ≡ code_of answer

-- memory ran out, and there is neither a text nor a line
pub record IsUnanswered (places : Places) (result : ℕ) : Type 0 where
  pub out : places.out_after ≡ places.out_before
  pub err : places.err_after ≡ places.err_before
  pub out_length : places.told.out_length ≡ 0
  pub err_length : places.told.err_length ≡ 0
  pub is_code : result ≡ 6
