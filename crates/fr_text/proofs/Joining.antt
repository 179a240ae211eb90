-- The text of some lines, line by line.
use Rattle.std.proofs.Common.{◌≡◌, ℕ, List, [], ◌∷◌, ◌++◌, Option, sym, ap, ◌∙◌, append_assoc, append-nil}
use Rattle.fr_text.specs.Lines.{joined_after, joined_lines, shown}

joined_apart : (text : List ℕ) (lines : List (Option (List ℕ))) → joined_after text lines ≡ text ++ joined_lines lines
joined_apart text [] = sym (append-nil text)
joined_apart text (line ∷ lines) =
    joined_apart (text ++ shown line) lines
    ∙ append_assoc text (shown line) (joined_lines lines)
    ∙ ap (λ (rest : List ℕ). text ++ rest) (sym (joined_apart (shown line) lines))

-- the first line, and then the others
pub joined_first : (line : Option (List ℕ)) (lines : List (Option (List ℕ))) → shown line ++ joined_lines lines ≡ joined_lines (line ∷ lines)
joined_first line lines = sym (joined_apart (shown line) lines)
