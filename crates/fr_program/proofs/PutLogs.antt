-- What is kept of puts, and a put more.
use Rattle.std.proofs.Common.{◌≡◌, ◌≤◌, ℕ, ◌+◌, Bool, List, [], ◌∷◌, ◌++◌, length, take, drop, Option, Some, None, refl, sym, subst, ap, ap₂, ◌∙◌, arith, length-drop}
use Rattle.std.specs.Prelude.{◌↔◌, IfSome, IsSome}
use Rattle.std.proofs.lemmas.List.{take-append-le, take_all, drop-append-le, length-take-le}
use Rattle.std.proofs.lemmas.List.Sums.{sum_by-cons}
use Rattle.fr_base.specs.Device.{Put}
use Rattle.fr_program.specs.declared.put_log.PutLog.{PutLog}
use Rattle.fr_program.specs.declared.put_log.PutMark.{PutMark}
use Rattle.fr_program.specs.PutLog.{CanTell, Fits, FitsBehind, LogHasRoom, kept_puts, piece_bytes, puts_in}
use Rattle.fr_program.specs.PutMarks.{lengths_of, puts_by}

-- as many puts as marks, and as many bytes
pub length-puts_by : (marks : List PutMark) (bytes : List ℕ) → length (puts_by marks bytes) ≡ length marks
length-puts_by [] bytes = refl
length-puts_by (m ∷ marks) bytes = let others = length-puts_by marks (drop m.length bytes) in omega (arith, others)

pub piece_bytes-puts_by : (marks : List PutMark) (bytes : List ℕ) → lengths_of marks ≡ length bytes → piece_bytes (puts_by marks bytes) ≡ lengths_of marks
piece_bytes-puts_by [] bytes even = refl
piece_bytes-puts_by (m ∷ marks) bytes even =
    let within : m.length ≤ length bytes = omega (arith, even) in
    let left : lengths_of marks ≡ length (drop m.length bytes) = omega (arith, even, length-drop m.length bytes) in
    let first : length (take m.length bytes) ≡ m.length = length-take-le m.length bytes within in
    let others = piece_bytes-puts_by marks (drop m.length bytes) left in
    let put : Put = record { piece = take m.length bytes; is_whole = m.is_whole } in
    let more = sum_by-cons (λ (one : Put). length one.piece) put (puts_by marks (drop m.length bytes)) in
    omega (arith, first, others, more)

-- there is room for a put of a piece exactly where it fits behind the puts that are kept
pub fits-told : (log : PutLog) (room most : ℕ) (piece : List ℕ) → lengths_of log.marks.items ≡ length log.bytes.items → LogHasRoom room most log
    → Fits log piece ↔ FitsBehind (puts_in log) room most piece
fits-told log room most piece even has =
    let puts : length (puts_in log) ≡ length log.marks.items = length-puts_by log.marks.items log.bytes.items in
    let bytes : piece_bytes (puts_in log) ≡ length log.bytes.items = piece_bytes-puts_by log.marks.items log.bytes.items even ∙ even in
    let wide = has.bytes in
    let many = has.puts in (
      λ fits. record { bytes = let within = fits.bytes in omega (arith, bytes, wide, within); one_more = let under = fits.puts in omega (arith, puts, many, under) },
      λ behind. record { bytes = let within = behind.bytes in omega (arith, bytes, wide, within); puts = let under = behind.one_more in omega (arith, puts, many, under) },
    )

is-told : (kept : Option PutLog) → IsSome kept ↔ IsSome (kept_puts kept)
is-told None = (λ some. some, λ some. some)
is-told (Some log) = (λ some. some, λ some. some)

-- a put is told exactly where the puts before it are told, and it fits behind them
pub told-where : (before after : Option PutLog) (log : PutLog) (piece : List ℕ) → before ≡ Some log → lengths_of log.marks.items ≡ length log.bytes.items → IsSome after ↔ Fits log piece
    → (room most : ℕ) → IfSome before (LogHasRoom room most) → IsSome (kept_puts after) ↔ CanTell (kept_puts before) room most piece
told-where before after log piece is even fits room most =
    subst
    (λ (o : Option PutLog). IfSome o (LogHasRoom room most) → IsSome (kept_puts after) ↔ CanTell (kept_puts o) room most piece)
    (sym is)
    (λ has. let both = fits-told log room most piece even has in let told = is-told after in (λ some. both.0 (fits.0 (told.1 some)), λ can. told.0 (fits.1 (both.1 can))))

pub lengths_more : (marks : List PutMark) (mark : PutMark) → lengths_of (marks ++ mark ∷ []) ≡ lengths_of marks + mark.length
lengths_more [] mark = omega arith
lengths_more (m ∷ marks) mark = let more = lengths_more marks mark in omega (arith, more)

pub puts_more : (marks : List PutMark) (bytes piece : List ℕ) (is_whole : Bool) → lengths_of marks ≡ length bytes
    → puts_by (marks ++ record { length = length piece; is_whole = is_whole } ∷ []) (bytes ++ piece) ≡ puts_by marks bytes ++ record { piece = piece; is_whole = is_whole } ∷ []
puts_more [] [] piece is_whole even = ap (λ (p : List ℕ). record { piece = p; is_whole = is_whole } ∷ []) (take_all (length piece) piece (omega arith))
puts_more [] (b ∷ bytes) piece is_whole even = absurd (omega (arith, even))
puts_more (m ∷ marks) bytes piece is_whole even =
    let within : m.length ≤ length bytes = omega (arith, even) in
    let left : lengths_of marks ≡ length (drop m.length bytes) = omega (arith, even, length-drop m.length bytes) in
    let first : take m.length (bytes ++ piece) ≡ take m.length bytes = take-append-le m.length bytes piece within in
    let others : drop m.length (bytes ++ piece) ≡ drop m.length bytes ++ piece = drop-append-le m.length bytes piece within in
    ap₂
    (λ (p : List ℕ) (l : List Put). record { piece = p; is_whole = m.is_whole } ∷ l)
    first
    (ap (λ (l : List ℕ). puts_by (marks ++ record { length = length piece; is_whole = is_whole } ∷ []) l) others ∙ puts_more marks (drop m.length bytes) piece is_whole left)
