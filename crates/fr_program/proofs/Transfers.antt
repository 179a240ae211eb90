-- What loops over read and write have moved so far.
use Rattle.std.proofs.Common.{◌≡◌, ℕ, ◌+◌, ◌<◌, ◌≤◌, List, [], ◌++◌, length, take, drop, Option, Some, None, IfSome, Result, Ok, Err, OnErr, refl, sym, ap, subst, ◌∙◌, append_assoc, append-nil, take-append-drop, length-append, length-drop, arith}
use Rattle.std.proofs.lemmas.List.{take_at, nil_from_length}
use Rattle.std.specs.Io.KnownBytes.{Appends, Keeps, Consumes, IsAtEnd}
use Rattle.fr_base.specs.Device.{AppendsFront, IsHeld, IsSeen}
use Rattle.fr_base.proofs.Putting.{Appends-nil, Appends-trans}

-- a reader that had some bytes left has others left, and gave these in so many turns
pub record IsRead (limit : ℕ) (before now : Option (List ℕ)) (bytes : List ℕ) (turn : ℕ) : Type 0 where
  pub consumed : Consumes before now bytes
  pub few : length bytes ≤ limit
  pub turns : turn ≤ length bytes

Consumes-nil : (told : Option (List ℕ)) → Consumes told told []
Consumes-nil None = tt
Consumes-nil (Some bytes) = refl

Consumes-trans : (a b c : Option (List ℕ)) (xs ys : List ℕ) → Consumes a b xs → Consumes b c ys → Consumes a c (xs ++ ys)
Consumes-trans None b c xs ys p q = tt
Consumes-trans (Some told) None c xs ys p q = absurd p
Consumes-trans (Some told) (Some left) None xs ys p q = absurd q
Consumes-trans (Some told) (Some left) (Some rest) xs ys p q = p ∙ ap (λ (l : List ℕ). xs ++ l) q ∙ sym (append_assoc xs ys rest)

pub none_read : (limit : ℕ) (told : Option (List ℕ)) (bytes : List ℕ) → bytes ≡ [] → IsRead limit told told bytes 0
none_read limit told bytes none = record {
  consumed = subst (Consumes told told) (sym none) (Consumes-nil told);
  few = omega (arith, ap length none);
  turns = omega arith;
}

pub more_read : (limit : ℕ) (before now next : Option (List ℕ)) (bytes chunk : List ℕ) (turn : ℕ) → IsRead limit before now bytes turn → Consumes now next chunk → 0 < length chunk → length bytes + length chunk ≤ limit → IsRead limit before next (bytes ++ chunk) (turn + 1)
more_read limit before now next bytes chunk turn so_far given some few = record {
  consumed = Consumes-trans before now next bytes chunk so_far.consumed given;
  few = omega (arith, length-append bytes chunk);
  turns = omega (arith, length-append bytes chunk, so_far.turns);
}

at_end : (a b : Option (List ℕ)) (bytes : List ℕ) → Consumes a b bytes → IsAtEnd b → IsHeld a bytes
at_end None b bytes given none = tt
at_end (Some told) None bytes given none = absurd given
at_end (Some told) (Some left) bytes given none = sym (given ∙ ap (λ (l : List ℕ). bytes ++ l) none ∙ append-nil bytes)

pub all_read : (limit : ℕ) (before now next : Option (List ℕ)) (bytes chunk : List ℕ) (turn : ℕ) → IsRead limit before now bytes turn → Consumes now next chunk → length chunk ≡ 0 → IsAtEnd next → IsHeld before bytes
all_read limit before now next bytes chunk turn so_far given nothing none =
    let same : bytes ++ chunk ≡ bytes = ap (λ (l : List ℕ). bytes ++ l) (nil_from_length chunk nothing) ∙ append-nil bytes in
    at_end before next bytes (subst (Consumes before next) same (Consumes-trans before now next bytes chunk so_far.consumed given)) none

within : (a b : Option (List ℕ)) (bytes : List ℕ) → Consumes a b bytes → IfSome a (λ content. length bytes ≤ length content)
within None b bytes given = tt
within (Some told) None bytes given = absurd given
within (Some told) (Some left) bytes given = omega (arith, ap length given, length-append bytes left)

pub too_much_read : (limit : ℕ) (before now next : Option (List ℕ)) (bytes chunk : List ℕ) (turn seen : ℕ) → IsRead limit before now bytes turn → Consumes now next chunk → seen ≡ length bytes + length chunk → limit < seen → IsSeen before limit seen
too_much_read limit before now next bytes chunk turn seen so_far given is above =
    let same : length (bytes ++ chunk) ≡ seen = length-append bytes chunk ∙ sym is in
    record {
      above = above;
      within = subst (λ (n : ℕ). IfSome before (λ content. n ≤ length content)) same (within before next (bytes ++ chunk) (Consumes-trans before now next bytes chunk so_far.consumed given));
    }

-- a writer got a front of the piece in so many turns
pub record IsWritten (before now : Option (List ℕ)) (piece rest : List ℕ) (turn : ℕ) : Type 0 where
  pub front : List ℕ
  pub split : piece ≡ front ++ rest
  pub appended : Appends before now front
  pub turns : turn + length rest ≤ length piece

Appends-kept : (a b c : Option (List ℕ)) (xs : List ℕ) → Appends a b xs → Keeps b c → Appends a c xs
Appends-kept None b c xs p q = tt
Appends-kept (Some told) None c xs p q = absurd p
Appends-kept (Some told) (Some next) None xs p q = absurd q
Appends-kept (Some told) (Some next) (Some last) xs p q = q ∙ p

pub none_written : (told : Option (List ℕ)) (piece : List ℕ) → IsWritten told told piece piece 0
none_written told piece = record { front = []; split = refl; appended = Appends-nil told; turns = omega arith }

pub more_written : (before now next : Option (List ℕ)) (piece rest : List ℕ) (turn count : ℕ) → IsWritten before now piece rest turn → Appends now next (take count rest) → 0 < count → count ≤ length rest → IsWritten before next piece (drop count rest) (turn + 1)
more_written before now next piece rest turn count so_far taken some few = record {
  front = so_far.front ++ take count rest;
  split = so_far.split ∙ ap (λ (l : List ℕ). so_far.front ++ l) (sym (take-append-drop count rest)) ∙ sym (append_assoc so_far.front (take count rest) (drop count rest));
  appended = Appends-trans before now next so_far.front (take count rest) so_far.appended taken;
  turns = omega (arith, so_far.turns, length-drop count rest);
}

pub front_written : (before now next : Option (List ℕ)) (piece rest : List ℕ) (turn : ℕ) → IsWritten before now piece rest turn → Keeps now next → AppendsFront before next piece
front_written before now next piece rest turn so_far kept =
    let front_is : take (length so_far.front) piece ≡ so_far.front = ap (λ (l : List ℕ). take (length so_far.front) l) so_far.split ∙ take_at so_far.front rest (length so_far.front) refl in
    (length so_far.front, subst (Appends before next) (sym front_is) (Appends-kept before now next so_far.front so_far.appended kept))

pub all_written : (before now next : Option (List ℕ)) (piece rest : List ℕ) (turn : ℕ) → IsWritten before now piece rest turn → length rest ≡ 0 → Keeps now next → Appends before next piece
all_written before now next piece rest turn so_far nothing kept =
    let whole : so_far.front ≡ piece = sym (so_far.split ∙ ap (λ (l : List ℕ). so_far.front ++ l) (nil_from_length rest nothing) ∙ append-nil so_far.front) in
    subst (Appends before next) whole (Appends-kept before now next so_far.front so_far.appended kept)

-- after the last turn, whatever the flush answers
pub front_flushed : {E : Type 0} (answer : Result (Unit {0}) E) (before now next : Option (List ℕ)) (piece rest : List ℕ) (turn : ℕ) → IsWritten before now piece rest turn → Keeps now next → OnErr answer (AppendsFront before next piece)
front_flushed (Ok done) before now next piece rest turn so_far kept = tt
front_flushed (Err fault) before now next piece rest turn so_far kept = front_written before now next piece rest turn so_far kept
