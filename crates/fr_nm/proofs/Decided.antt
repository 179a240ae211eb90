-- The bytes of a file decide its vectors.
use Rattle.std.proofs.Common.{ℕ, sym, ◌∙◌}
use Rattle.fr_nm.specs.Files.{vectors_file}
use Rattle.fr_text.proofs.Commands.{decided}
use Rattle.fr_text.specs.Files.{IsDecided}
use Rattle.fr_text.specs.Kind.{HasOneAnswer}
use Rattle.fr_nm.specs.NmAnswer.{nm_files}

pub one_text : ((width : ℕ) → HasOneAnswer (vectors_file width)) → (width : ℕ) → IsDecided (nm_files width)
one_text one width = decided (nm_files width) (one width, λ vectors written again is more. is ∙ sym more)
