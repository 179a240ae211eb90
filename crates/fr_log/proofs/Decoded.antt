-- What hexadecimal digits of a frame give.
use Rattle.std.proofs.Common.{◌≡◌, ℕ, ◌<◌, ◌≤◌, List, length, Ok, arith}
use Rattle.std.proofs.lemmas.List.Elements.{All-from_get_or}
use Rattle.hex.specs.Hex.{decode_of}
use Rattle.hex.proofs.HexLemmas.{decode_of-ok}
use Rattle.fr_log.specs.Rows.{AreEntryBytes}

pub decoded-entry : (text bytes : List ℕ) → decode_of text ≡ Ok bytes → length text ≤ 524 → AreEntryBytes bytes
decoded-entry text bytes h few =
    let ok = decode_of-ok text bytes h in
    let long = ok.2 in
    record { few = omega arith; small = All-from_get_or (λ b. b < 256) bytes 0 (λ k below. ok.3 k) }
