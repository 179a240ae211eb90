-- The text of how long from power-on to sharp sync: which checks it tells, and that the bytes of a file define it.
use Rattle.std.proofs.Common.{◌≡◌, ℕ, zero, suc, Bool, true, false, Option, Some, None, refl, ap, sym, ◌∙◌, inl, arith, if◌then◌else◌}
use Rattle.std.specs.Prelude.{◌↔◌}
use Rattle.std.specs.Option.{option_or}
use Rattle.fr_bound.specs.SharpChecks.{sharp_holds_of}
use Rattle.fr_cluster.specs.Values.{Values}
use Rattle.fr_coverage.specs.declared.gap.Gap.{Gap}
use Rattle.fr_params.specs.Files.{params_file}
use Rattle.fr_promise.specs.SharpJoining.{sharp_join_holds_of, sharp_reach, SharpJoinChecksHold}
use Rattle.fr_text.specs.Defined.{DefinesOneStatus}
use Rattle.fr_text.specs.Files.{IsDecided}
use Rattle.fr_text.specs.Kind.{HasOneAnswer, HasSomeAnswer}
use Rattle.fr_text.proofs.Commands.{decided}
use Rattle.fr_text.proofs.Defining.{one_status, some_status}
use Rattle.fr_whole.specs.PowerOnAnswer.{failing_at_start, power_on_files, power_on_text, IsPowerOnText}
use Rattle.fr_whole.specs.SharpGaps.{failing_at, failing_to_join}

-- ---- the checks

-- none of two is there exactly where neither is
neither_there : (a b : Option Gap) → option_or a b ≡ None → (a ≡ None) × (b ≡ None)
neither_there None b none = (refl, none)
neither_there (Some gap) b none = absurd (cc)

none_there : (a b : Option Gap) → a ≡ None → b ≡ None → option_or a b ≡ None
none_there a b first second = ap (λ (o : Option Gap). option_or o b) first ∙ second

-- a gap that is told where a check does not hold
holds_if : (holds : Bool) (gap : Gap) → (if holds then None else Some gap) ≡ None → holds ≡ true
holds_if true gap none = refl
holds_if false gap none = absurd (cc)

none_if : (holds : Bool) (gap : Gap) → holds ≡ true → (if holds then None else Some gap) ≡ None
none_if true gap is = refl
none_if false gap is = absurd (cc)

pub hold_all : (p : Values) (flutter : ℕ) → sharp_join_holds_of 6 false flutter p ≡ true → sharp_join_holds_of 7 false flutter p ≡ true → sharp_join_holds_of 8 false flutter p ≡ true
    → sharp_join_holds_of 9 false flutter p ≡ true → SharpJoinChecksHold false flutter p
hold_all p flutter six seven eight nine zero from to = absurd (omega (arith, from))
hold_all p flutter six seven eight nine (suc zero) from to = absurd (omega (arith, from))
hold_all p flutter six seven eight nine (suc (suc zero)) from to = absurd (omega (arith, from))
hold_all p flutter six seven eight nine (suc (suc (suc zero))) from to = absurd (omega (arith, from))
hold_all p flutter six seven eight nine (suc (suc (suc (suc zero)))) from to = absurd (omega (arith, from))
hold_all p flutter six seven eight nine (suc (suc (suc (suc (suc zero))))) from to = absurd (omega (arith, from))
hold_all p flutter six seven eight nine (suc (suc (suc (suc (suc (suc zero)))))) from to = six
hold_all p flutter six seven eight nine (suc (suc (suc (suc (suc (suc (suc zero))))))) from to = seven
hold_all p flutter six seven eight nine (suc (suc (suc (suc (suc (suc (suc (suc zero)))))))) from to = eight
hold_all p flutter six seven eight nine (suc (suc (suc (suc (suc (suc (suc (suc (suc zero))))))))) from to = nine
hold_all p flutter six seven eight nine (suc (suc (suc (suc (suc (suc (suc (suc (suc (suc k)))))))))) from to = absurd (omega (arith, to))

pub checks_are_asked : (p : Values) (flutter : ℕ)
    → (failing_at_start p flutter ≡ None) ↔ ((sharp_holds_of 1 flutter (sharp_reach false p flutter) p ≡ true) × SharpJoinChecksHold false flutter p)
checks_are_asked p flutter = (
  λ none.
      let last = neither_there _ (failing_to_join true false p flutter 9) none in
      let third = neither_there _ (failing_to_join true false p flutter 8) last.0 in
      let second = neither_there _ (failing_to_join true false p flutter 7) third.0 in
      let first = neither_there (failing_at false p flutter 1) (failing_to_join true false p flutter 6) second.0 in (
        holds_if _ _ first.0,
        hold_all p flutter (holds_if _ _ first.1) (holds_if _ _ second.1) (holds_if _ _ third.1) (holds_if _ _ last.1),
      ),
  λ hold.
      none_there _ _
      (
      none_there _ _
      (none_there _ _ (none_there _ _ (none_if _ _ hold.0) (none_if _ _ (hold.1 6 (omega arith) (omega arith)))) (none_if _ _ (hold.1 7 (omega arith) (omega arith))))
      (none_if _ _ (hold.1 8 (omega arith) (omega arith)))
      )
      (none_if _ _ (hold.1 9 (omega arith) (omega arith))),
)

-- ---- one text

pub one_power_on : HasOneAnswer params_file → (flutter : ℕ) → IsDecided (power_on_files flutter)
one_power_on one flutter = decided (power_on_files flutter) (one, λ p written again is more. is.shown ∙ sym more.shown)

pub power_on_status : HasOneAnswer params_file → HasSomeAnswer params_file → ((p : Values) (flutter : ℕ) → IsPowerOnText p flutter (power_on_text p flutter)) → (flutter : ℕ)
    → DefinesOneStatus (power_on_files flutter) 1
power_on_status one some told flutter = record {
  one = one_status (power_on_files flutter) (one, λ p written said is never. never);
  some = some_status (power_on_files flutter) 1 (some, λ bytes p octets accepted. (refl, inl (power_on_text p flutter, told p flutter)));
}
