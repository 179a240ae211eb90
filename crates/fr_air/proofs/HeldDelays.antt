-- The delays that are kept at hand.
use Rattle.std.proofs.Common.{◌≡◌, ℕ, ◌<◌, ◌≤◌, pos, List, replicate, sym, subst, arith}
use Rattle.std.specs.Prelude.{slice_index_or}
use Rattle.std.proofs.lemmas.Int.{ints}
use Rattle.std.proofs.lemmas.List.{get_or-replicate, length-replicate}
use Rattle.std.proofs.lemmas.List.Elements.{All-replicate}
use Rattle.fr_base.specs.Within.{IsBetween}
use Rattle.fr_base.specs.declared.channel.Channel.{Channel}
use Rattle.fr_base.specs.declared.channel.Channel.TheVariants.{A, B}
use Rattle.fr_drift.specs.View.{DriftView}
use Rattle.fr_air.specs.Kept.{none_kept, place_of, DelaysAreKept}
use Rattle.fr_air.specs.declared.kept.Kept.{Kept}

-- a link's place is one of the places
pub place_lt : (sender receiver : ℕ) (channel : Channel) → sender ≤ 64 → receiver ≤ 64 → place_of sender receiver channel < 8450
place_lt sender receiver A one other = omega arith
place_lt sender receiver B one other = omega arith

-- nothing is kept
pub kept-none : (drift : DriftView) (kept : List Kept) → kept ≡ replicate 8450 none_kept → DelaysAreKept drift kept
kept-none drift kept is =
    let P : List Kept → Type 0 = DelaysAreKept drift in
    subst P (sym is) (record {
      long = length-replicate 8450 none_kept;
      within = All-replicate (λ (k : Kept). IsBetween (pos 0) (pos 1_000_000_000) k.ticks) 8450 none_kept (record { low = omega (arith, ints); high = omega (arith, ints) });
      delays = λ sender receiver channel cycle one other before.
          let there : slice_index_or (replicate 8450 none_kept) (place_of sender receiver channel) none_kept ≡ none_kept =
          get_or-replicate 8450 (place_of sender receiver channel) none_kept none_kept (place_lt sender receiver channel one other) in
          let Before : Kept → Type 0 = λ k. cycle < k.until in
          let never : cycle < 0 = subst Before there before in
          absurd (omega (arith, never));
    })
