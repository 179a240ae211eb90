-- Where the log states that nodes miss none, and no term contradicts a double cycle, they must have missed none in it.
use Rattle.std.proofs.Common.{◌≡◌, ◌∙◌, ℕ, suc, Bool, cond, List, [], ◌∷◌, ◌++◌, Option, Some, None, is_none, filter_map, length, refl, sym, ap}
use Rattle.std.specs.List.{cons_option, find, flat_map, range_with_len}
use Rattle.fr_bound.specs.declared.judging.Known.{Known}
use Rattle.fr_cluster.specs.Values.{Values}
use Rattle.fr_log.specs.View.{LogView}
use Rattle.fr_course.specs.Scales.{Scale}
use Rattle.fr_sightings.specs.declared.sender.Sender.{Sender}
use Rattle.fr_sightings.specs.declared.sighting.Sighting.{Sighting}
use Rattle.fr_observe.specs.Faults.{first_of_faults, offset_fault, rate_fault}
use Rattle.fr_observe.specs.declared.fault.Fault.{Fault}
use Rattle.fr_observe.specs.declared.fault.LogSpan.{LogSpan}
use Rattle.fr_observe.specs.declared.term.Term.{Term}
use Rattle.fr_observe.specs.declared.term.Term.TheVariants as term
use Rattle.fr_judging.specs.Knowing.{judged_met, judged_terms, known_missing, moving_faults, standing_faults, term_faults}
use Rattle.fr_judging.specs.Missing.{all_missed, missed_if_any, missed_of_term, missed_row, missed_told, missed_where, unlike_term}
use Rattle.fr_judging.specs.declared.knowing.Standing.{Standing}

-- ---- lists

none-left : {X : Type 0} (xs ys : List X) → xs ++ ys ≡ [] → xs ≡ []
none-left [] ys is = refl
none-left (x ∷ xs) ys is = absurd cc

none-right : {X : Type 0} (xs ys : List X) → xs ++ ys ≡ [] → ys ≡ []
none-right [] ys is = is
none-right (x ∷ xs) ys is = absurd cc

none_told : (faults : List Fault) → None ≡ first_of_faults faults → faults ≡ []
none_told [] is = refl
none_told (fault ∷ faults) is = absurd cc

no_first : {X : Type 0} (first : Option X) (xs : List X) → cons_option first xs ≡ [] → first ≡ None
no_first None xs is = refl
no_first (Some x) xs is = absurd cc

no_others : {X : Type 0} (first : Option X) (xs : List X) → cons_option first xs ≡ [] → xs ≡ []
no_others None xs is = is
no_others (Some x) xs is = absurd cc

-- where what has nothing of the one has nothing of the other
module _ {X Y Z : Type 0} (f : X → Option Y) (g : X → Option Z) (follows : (x : X) → f x ≡ None → g x ≡ None) where
  none_of : (xs : List X) → filter_map f xs ≡ [] → filter_map g xs ≡ []
  none_of [] is = refl
  none_of (x ∷ xs) is =
      let here : g x ≡ None = follows x (no_first (f x) (filter_map f xs) is) in
      ap (λ (first : Option Z). cons_option first (filter_map g xs)) here ∙ none_of xs (no_others (f x) (filter_map f xs) is)

-- ---- a double cycle

module _ (p : Values) (l : LogView) (scale : Scale) (double : ℕ) where
  -- a sender whose term nothing contradicts where it missed none; there is a sender
  missed-none : (what : Term) (one : Sender) (others : List Sender) (s : Sender) → unlike_term what p l scale double (one ∷ others) s 0 ≡ None
      → missed_where what p l scale double (one ∷ others) s ≡ None
  missed-none what one others s none =
      let test : ℕ → Bool = λ lost. is_none (unlike_term what p l scale double (one ∷ others) s lost) in
      ap (λ (b : Bool). missed_if_any what double s.node (cond b (Some 0) (find test (range_with_len 1 (length others))))) (ap is_none none)

  term-clear : (what : Term) (senders : List Sender) → filter_map (λ s. unlike_term what p l scale double senders s 0) senders ≡ []
      → missed_of_term what p l scale double senders ≡ []
  term-clear what [] is = refl
  term-clear what (one ∷ others) is =
      none_of (λ s. unlike_term what p l scale double (one ∷ others) s 0) (missed_where what p l scale double (one ∷ others)) (missed-none what one others) (one ∷ others) is

  terms-clear : (senders : List Sender) (met : Option Known) → l.lost ≡ 0 → judged_terms p l scale double senders met ≡ [] → all_missed p l scale double senders met ≡ []
  unfolding judged_terms
  terms-clear senders None lost is = refl
  terms-clear senders (Some met) lost is =
      let offsets : ℕ → List Fault = λ missed. filter_map (offset_fault p l scale double senders missed) senders in
      let rates : ℕ → List Fault = λ missed. filter_map (rate_fault p l scale double senders missed) senders in
      let offset : missed_of_term term.Offset p l scale double senders ≡ [] =
      term-clear term.Offset senders (ap offsets (sym lost) ∙ none-left (offsets l.lost) (rates l.lost) is) in
      let rate : missed_of_term term.Rate p l scale double senders ≡ [] =
      term-clear term.Rate senders (ap rates (sym lost) ∙ none-right (offsets l.lost) (rates l.lost) is) in
      λ i. offset i ++ rate i

  pub missed-clear : (span : LogSpan) (before here : List Sighting) (senders : List Sender) (st : Standing) → l.lost ≡ 0
      → None ≡ first_of_faults (standing_faults p scale l span before here double senders st) → [] ≡ missed_told p l scale double senders st
  unfolding standing_faults term_faults missed_told
  missed-clear span before here senders st lost is =
      let met : Option Known = judged_met st in
      let missing : List Fault = known_missing p l span before here double st.known in
      let moving : List Fault = moving_faults p l scale double senders st in
      let terms : List Fault = judged_terms p l scale double senders met in
      let none : terms ≡ [] = none-left terms missing (none-right moving (terms ++ missing) (none_told (moving ++ (terms ++ missing)) is)) in
      sym (ap (flat_map missed_row) (terms-clear senders met lost none))
