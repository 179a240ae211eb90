-- Words ask for one thing at most.
use Rattle.std.proofs.Common.{◌≡◌, ◌∙◌, ◌<◌, ◌≤◌, ℕ, length, arith, List, [], ◌∷◌, Option, Some, None, ap, sym}
use Rattle.std.specs.Prelude.{String, codes, get_or, if◌then◌else◌, unwrap_or}
use Rattle.std.specs.Str.{bytes_eq}
use Rattle.std.specs.String.{string_bytes}
use Rattle.std.specs.declared.alloc.Global.{Global}
use Rattle.std.proofs.lemmas.List.{length-map}
use Rattle.fr_program.specs.Program.{texts}
use Rattle.fr_series.specs.Request.{SeriesAsked, AsksSeries, series, sharp_series}

-- they are three or four
asks_length : (words : List (List ℕ)) (asked : SeriesAsked) → AsksSeries words asked → (3 ≤ length words) × (length words ≤ 4)
asks_length words (series names) asks = let long : length words ≡ 3 = ap length asks in (omega (arith, long), omega (arith, long))
asks_length words (sharp_series names) asks = let long : length words ≡ 4 = ap length asks in (omega (arith, long), omega (arith, long))

pub asks_not_short : (words : List (String Global)) (asked : SeriesAsked) → AsksSeries (texts words) asked → length words < 3 → ⊥
asks_not_short words asked asks short =
    let long = asks_length (texts words) asked asks in
    let same : length (texts words) ≡ length words = length-map words string_bytes in
    absurd (omega (arith, long.0, same, short))

pub asks_not_long : (words : List (String Global)) (asked : SeriesAsked) → AsksSeries (texts words) asked → 4 < length words → ⊥
asks_not_long words asked asks more =
    let long = asks_length (texts words) asked asks in
    let same : length (texts words) ≡ length words = length-map words string_bytes in
    absurd (omega (arith, long.1, same, more))

-- the texts of three words, and of four
pub three_texts : (words : List (String Global)) (a b c : String Global) (one two three : List ℕ) → 3 ≤ length words → length words < 4
    → a ≡ get_or words 0 a → b ≡ get_or words 1 b → c ≡ get_or words 2 c
    → one ≡ string_bytes a → two ≡ string_bytes b → three ≡ string_bytes c → one ∷ two ∷ three ∷ [] ≡ texts words
three_texts [] a b c one two three more less is_a is_b is_c first second third = absurd (omega (arith, more))
three_texts (w ∷ []) a b c one two three more less is_a is_b is_c first second third = absurd (omega (arith, more))
three_texts (w ∷ x ∷ []) a b c one two three more less is_a is_b is_c first second third = absurd (omega (arith, more))
three_texts (w ∷ x ∷ y ∷ []) a b c one two three more less is_a is_b is_c first second third =
    let w_is : one ≡ string_bytes w = first ∙ ap string_bytes is_a in
    let x_is : two ≡ string_bytes x = second ∙ ap string_bytes is_b in
    let y_is : three ≡ string_bytes y = third ∙ ap string_bytes is_c in
    cc
three_texts (v ∷ w ∷ x ∷ y ∷ words) a b c one two three more less is_a is_b is_c first second third = absurd (omega (arith, less))

pub four_texts : (words : List (String Global)) (a b c d : String Global) (one two three four : List ℕ) → 4 ≤ length words → length words < 5
    → a ≡ get_or words 0 a → b ≡ get_or words 1 b → c ≡ get_or words 2 c → d ≡ get_or words 3 d
    → one ≡ string_bytes a → two ≡ string_bytes b → three ≡ string_bytes c → four ≡ string_bytes d → one ∷ two ∷ three ∷ four ∷ [] ≡ texts words
four_texts [] a b c d one two three four more less is_a is_b is_c is_d first second third last = absurd (omega (arith, more))
four_texts (w ∷ []) a b c d one two three four more less is_a is_b is_c is_d first second third last = absurd (omega (arith, more))
four_texts (w ∷ x ∷ []) a b c d one two three four more less is_a is_b is_c is_d first second third last = absurd (omega (arith, more))
four_texts (w ∷ x ∷ y ∷ []) a b c d one two three four more less is_a is_b is_c is_d first second third last = absurd (omega (arith, more))
four_texts (w ∷ x ∷ y ∷ z ∷ []) a b c d one two three four more less is_a is_b is_c is_d first second third last =
    let w_is : one ≡ string_bytes w = first ∙ ap string_bytes is_a in
    let x_is : two ≡ string_bytes x = second ∙ ap string_bytes is_b in
    let y_is : three ≡ string_bytes y = third ∙ ap string_bytes is_c in
    let z_is : four ≡ string_bytes z = last ∙ ap string_bytes is_d in
    cc
four_texts (v ∷ w ∷ x ∷ y ∷ z ∷ words) a b c d one two three four more less is_a is_b is_c is_d first second third last = absurd (omega (arith, less))

-- what words ask for, read back by their number
abbrev asked_in : List (List ℕ) → Option SeriesAsked
asked_in (params ∷ drift ∷ script ∷ []) = Some (series (record { params = params; drift = drift; script = script }))
asked_in (params ∷ drift ∷ script ∷ word ∷ []) =
    if bytes_eq word (codes "sharp") then Some (sharp_series (record { params = params; drift = drift; script = script })) else None
asked_in other = None

asked_again : (words : List (List ℕ)) (asked : SeriesAsked) → AsksSeries words asked → asked_in words ≡ Some asked
asked_again words (series names) asks = ap asked_in asks
asked_again words (sharp_series names) asks = ap asked_in asks

pub one_asked : (words : List (List ℕ)) (asked other : SeriesAsked) → AsksSeries words asked → AsksSeries words other → asked ≡ other
one_asked words asked other one two = ap (λ (found : Option SeriesAsked). unwrap_or found asked) (sym (asked_again words asked one) ∙ asked_again words other two)
