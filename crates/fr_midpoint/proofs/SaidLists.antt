-- The law of two receivers, both sides computed: three senders, whose values are the same at both receivers, and an arbitrary
-- one that tells the first 100 and the second -100. Twice the difference is 20, of the 22 that the law allows; the bound without
-- further values, 1, does not hold. And three senders alone, whose values lie at most 1 apart: the midpoints lie 1 apart, of the
-- 2 that the law allows.
use Rattle.std.proofs.Common.{ℤ, pos, negsuc, List, [], ◌∷◌, ◌++◌, All, refl, lit≤, lit<}
use Rattle.std.specs.Prelude.{◌+ℤ◌}
use Rattle.std.proofs.lemmas.List.Elements.{All-cons, All-nil}
use Rattle.std.proofs.lemmas.List.Sorted.{IsPermutation-refl}
use Rattle.fr_base.specs.Within.{IsWithin}
use Rattle.fr_midpoint.specs.Midpoint.{IsMidpoint}
use Rattle.fr_midpoint.specs.Receivers.{Receiver}
use Rattle.fr_midpoint.specs.Said.{lies_after, AllLieNear, KeepsSaid, SameLieNear}
use Rattle.fr_midpoint.proofs.SaidLemmas.{two_alone_lem, two_apart_lem}

three : (P : ℤ → Type 0) (a b c : ℤ) → P a → P b → P c → All P (a ∷ b ∷ c ∷ [])
three P a b c first second third = All-cons P a (b ∷ c ∷ []) first (All-cons P b (c ∷ []) second (All-cons P c [] third (All-nil P)))

abbrev said : List ℤ
said = pos 0 ∷ pos 10 ∷ pos 20 ∷ []

abbrev told_early : Receiver
told_early = record { base = pos 0; unit = pos 1; values = said ++ pos 100 ∷ [] }

abbrev told_late : Receiver
told_late = record { base = pos 0; unit = pos 1; values = said ++ negsuc 99 ∷ [] }

keeps_early : KeepsSaid said told_early
keeps_early = record { lasts = record { lt = tt }; further = pos 100 ∷ []; parts = IsPermutation-refl (said ++ pos 100 ∷ []); few = lit≤ tt }

keeps_late : KeepsSaid said told_late
keeps_late = record { lasts = record { lt = tt }; further = negsuc 99 ∷ []; parts = IsPermutation-refl (said ++ negsuc 99 ∷ []); few = lit≤ tt }

middle_early : IsMidpoint told_early.values (pos 15)
middle_early = record {
  low = pos 10;
  high = pos 20;
  least = record { few_below = lit≤ tt; more_up_to = lit< tt };
  greatest = record { few_above = lit≤ tt; more_from = lit< tt };
  half = refl;
}

middle_late : IsMidpoint told_late.values (pos 5)
middle_late = record {
  low = pos 0;
  high = pos 10;
  least = record { few_below = lit≤ tt; more_up_to = lit< tt };
  greatest = record { few_above = lit≤ tt; more_from = lit< tt };
  half = refl;
}

same : SameLieNear told_early told_late (pos 0) said said
same = (
  record { low = record { le = tt }; high = record { le = tt } },
  (record { low = record { le = tt }; high = record { le = tt } }, (record { low = record { le = tt }; high = record { le = tt } }, tt)),
)

cross : AllLieNear told_early told_late (pos 20) said said
cross =
    three (λ v. All (λ u. IsWithin (pos 20) (lies_after told_early told_late v u)) said) (pos 0) (pos 10) (pos 20)
    (
    three (λ u. IsWithin (pos 20) (lies_after told_early told_late (pos 0) u)) (pos 0) (pos 10) (pos 20)
    (record { low = record { le = tt }; high = record { le = tt } }) (record { low = record { le = tt }; high = record { le = tt } }) (record { low = record { le = tt }; high = record { le = tt } })
    )
    (
    three (λ u. IsWithin (pos 20) (lies_after told_early told_late (pos 10) u)) (pos 0) (pos 10) (pos 20)
    (record { low = record { le = tt }; high = record { le = tt } }) (record { low = record { le = tt }; high = record { le = tt } }) (record { low = record { le = tt }; high = record { le = tt } })
    )
    (
    three (λ u. IsWithin (pos 20) (lies_after told_early told_late (pos 20) u)) (pos 0) (pos 10) (pos 20)
    (record { low = record { le = tt }; high = record { le = tt } }) (record { low = record { le = tt }; high = record { le = tt } }) (record { low = record { le = tt }; high = record { le = tt } })
    )

within : IsWithin (pos 22) (pos 20)
within =
    two_apart_lem said said (pos 0) (pos 20) (pos 1) told_early told_late (pos 15) (pos 5) keeps_early keeps_late (record { le = tt }) (record { le = tt }) same cross (lit≤ tt) middle_early middle_late

not_alone : IsWithin (pos 0 +ℤ pos 1) (lies_after told_early told_late (pos 15) (pos 5)) → ⊥
not_alone near = absurd (near.high.le)

-- ---- without further values

abbrev said_later : List ℤ
said_later = negsuc 0 ∷ pos 9 ∷ pos 20 ∷ []

abbrev one_alone : Receiver
one_alone = record { base = pos 0; unit = pos 1; values = said }

abbrev other_alone : Receiver
other_alone = record { base = pos 0; unit = pos 1; values = said_later }

keeps_one : KeepsSaid said one_alone
keeps_one = record { lasts = record { lt = tt }; further = []; parts = IsPermutation-refl said; few = lit≤ tt }

keeps_other : KeepsSaid said_later other_alone
keeps_other = record { lasts = record { lt = tt }; further = []; parts = IsPermutation-refl said_later; few = lit≤ tt }

middle_one : IsMidpoint said (pos 10)
middle_one = record {
  low = pos 10;
  high = pos 10;
  least = record { few_below = lit≤ tt; more_up_to = lit< tt };
  greatest = record { few_above = lit≤ tt; more_from = lit< tt };
  half = refl;
}

middle_other : IsMidpoint said_later (pos 9)
middle_other = record {
  low = pos 9;
  high = pos 9;
  least = record { few_below = lit≤ tt; more_up_to = lit< tt };
  greatest = record { few_above = lit≤ tt; more_from = lit< tt };
  half = refl;
}

each_near : SameLieNear one_alone other_alone (pos 1) said said_later
each_near = (
  record { low = record { le = tt }; high = record { le = tt } },
  (record { low = record { le = tt }; high = record { le = tt } }, (record { low = record { le = tt }; high = record { le = tt } }, tt)),
)

within_alone : IsWithin (pos 2) (pos 1)
within_alone =
    two_alone_lem said said_later (pos 1) (pos 1) one_alone other_alone (pos 10) (pos 9) keeps_one keeps_other (record { le = tt }) (record { le = tt }) each_near refl refl middle_one middle_other
