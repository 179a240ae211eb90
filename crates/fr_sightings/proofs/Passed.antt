-- What has become of entries, and of one more.
use Rattle.std.proofs.Common.{◌≡◌, ℕ, suc, ◌+◌, ◌-◌, List, [], ◌∷◌, ◌++◌, length, Option, Some, None, refl, ap, sym, subst, ◌∙◌, arith}
use Rattle.std.specs.Prelude.{All, IfSome, slice_get}
use Rattle.std.specs.List.{cons_option, filter_map, fold}
use Rattle.std.specs.Option.{option_or, option_to_list}
use Rattle.std.proofs.lemmas.List.Elements.{filter_map-append}
use Rattle.std.proofs.lemmas.List.Sums.{fold-append}
use Rattle.std.proofs.lemmas.Option.{slice_get-get_or}
use Rattle.fr_cluster.specs.Values.{Values}
use Rattle.fr_log.specs.View.{LogView}
use Rattle.fr_log.specs.declared.entry.Entry.{Entry}
use Rattle.fr_sightings.specs.Passing.{last_sighting, with_fate}
use Rattle.fr_sightings.specs.Sightings.{SightingsView, all_tallied, fate_of, fates_from, irregular_in, last_behind, no_tally, sighting_in, untimely_in, fate_counted}
use Rattle.fr_sightings.specs.declared.sighting.Fate.{Fate}
use Rattle.fr_sightings.specs.declared.sighting.Fate.TheVariants as fate
use Rattle.fr_sightings.specs.declared.sighting.Sighting.{Sighting}
use Rattle.fr_sightings.specs.declared.sighting.Tally.{Tally}

-- ---- one entry more

fates_more : (p : Values) (l : LogView) (last : Option Sighting) (entries : List Entry) (e : Entry)
    → fates_from p l last (entries ++ e ∷ []) ≡ fates_from p l last entries ++ fate_of p l (fold last_behind last (fates_from p l last entries)) e ∷ []
unfolding fates_from
fates_more p l last [] e = refl
fates_more p l last (x ∷ entries) e = ap (λ (fates : List Fate). fate_of p l last x ∷ fates) (fates_more p l (last_behind last (fate_of p l last x)) entries e)

less : (n : ℕ) → suc n - 1 ≡ n
less n = omega arith

last_at : (x : Sighting) (xs : List Sighting) → last_sighting (x ∷ xs) ≡ slice_get (x ∷ xs) (length xs)
last_at x xs = ap (slice_get (x ∷ xs)) (less (length xs))

some_last : (x y : Sighting) (ys : List Sighting) → slice_get (y ∷ ys) (length ys) ≡ option_or (slice_get (y ∷ ys) (length ys)) (Some x)
some_last x y [] = refl
some_last x y (z ∷ zs) = some_last x z zs

last_more : (x : Sighting) (xs : List Sighting) → last_sighting (x ∷ xs) ≡ option_or (last_sighting xs) (Some x)
last_more x [] = last_at x []
last_more x (y ∷ ys) = last_at x (y ∷ ys) ∙ some_last x y ys ∙ ap (λ o. option_or o (Some x)) (sym (last_at y ys))

-- what holds of all holds of the last
pub last_holds : (P : Sighting → Type 0) (xs : List Sighting) → All P xs → IfSome (last_sighting xs) P
last_holds P [] all = tt
last_holds P (x ∷ xs) all = subst (λ (o : Option Sighting). IfSome o P) (sym (last_at x xs ∙ slice_get-get_or (x ∷ xs) (length xs) x (omega arith))) (all (length xs) x (omega arith))

or_assoc : {A : Type 0} (a b c : Option A) → option_or (option_or a b) c ≡ option_or a (option_or b c)
or_assoc None b c = refl
or_assoc (Some x) b c = refl

or_none : {A : Type 0} (a : Option A) → option_or a None ≡ a
or_none None = refl
or_none (Some x) = refl

last_kept : (fates : List Fate) (last : Option Sighting) → fold last_behind last fates ≡ option_or (last_sighting (filter_map sighting_in fates)) last
last_kept [] last = refl
last_kept (fate.Damaged ∷ fates) last = last_kept fates last
last_kept (fate.Arbitrary ∷ fates) last = last_kept fates last
last_kept (fate.Other ∷ fates) last = last_kept fates last
last_kept (fate.Irregular frame ∷ fates) last = last_kept fates last
last_kept (fate.Untimely frame ∷ fates) last = last_kept fates last
last_kept (fate.Stray ∷ fates) last = last_kept fates last
last_kept (fate.Behind ∷ fates) last = last_kept fates last
last_kept (fate.Seen sighting ∷ fates) last =
    last_kept fates (Some sighting)
    ∙ sym (or_assoc (last_sighting (filter_map sighting_in fates)) (Some sighting) last)
    ∙ ap (λ o. option_or o last) (sym (last_more sighting (filter_map sighting_in fates)))

kept_one : (taken : Fate → Option Sighting) (found : Fate) → filter_map taken (found ∷ []) ≡ option_to_list (taken found)
kept_one taken found = by (taken found)
  where
    by : (o : Option Sighting) → cons_option o [] ≡ option_to_list o
    by None = refl
    by (Some frame) = refl

-- with what is taken of one entry more
kept_more : (taken : Fate → Option Sighting) (fates more : List Fate) (found : Fate) (list : List Sighting) → list ≡ filter_map taken fates
    → more ≡ fates ++ found ∷ [] → list ++ option_to_list (taken found) ≡ filter_map taken more
kept_more taken fates more found list is are =
    ap (λ (l : List Sighting). l ++ option_to_list (taken found)) is
    ∙ ap (λ (one : List Sighting). filter_map taken fates ++ one) (sym (kept_one taken found))
    ∙ sym (filter_map-append taken fates (found ∷ []))
    ∙ ap (filter_map taken) (sym are)

-- what is gathered of entries
pub record IsPassed (p : Values) (l : LogView) (entries : List Entry) (seen : SightingsView) : Type 0 where
  pub list : seen.list ≡ filter_map sighting_in (fates_from p l None entries)
  pub untimely : seen.offending.untimely ≡ filter_map untimely_in (fates_from p l None entries)
  pub irregular : seen.offending.irregular ≡ filter_map irregular_in (fates_from p l None entries)
  pub tally : seen.tally ≡ fold fate_counted no_tally (fates_from p l None entries)

pub passed_none : (p : Values) (l : LogView) (seen : SightingsView) → seen.list ≡ [] → seen.offending.untimely ≡ []
    → seen.offending.irregular ≡ [] → seen.tally ≡ no_tally → IsPassed p l [] seen
unfolding fates_from
passed_none p l seen list untimely irregular tally = record { list = list; untimely = untimely; irregular = irregular; tally = tally }

pub passed_more : (p : Values) (l : LogView) (entries : List Entry) (e : Entry) (seen : SightingsView) → IsPassed p l entries seen
    → IsPassed p l (entries ++ e ∷ []) (with_fate seen (fate_of p l (last_sighting seen.list) e))
passed_more p l entries e seen passed =
    let fates = fates_from p l None entries in
    let last : fold last_behind None fates ≡ last_sighting seen.list =
    last_kept fates None ∙ or_none (last_sighting (filter_map sighting_in fates)) ∙ ap last_sighting (sym passed.list) in
    let found = fate_of p l (last_sighting seen.list) e in
    let more : fates_from p l None (entries ++ e ∷ []) ≡ fates ++ found ∷ [] =
    fates_more p l None entries e ∙ ap (λ o. fates ++ fate_of p l o e ∷ []) last in
    record {
      list = kept_more sighting_in fates (fates_from p l None (entries ++ e ∷ [])) found seen.list passed.list more;
      untimely = kept_more untimely_in fates (fates_from p l None (entries ++ e ∷ [])) found seen.offending.untimely passed.untimely more;
      irregular = kept_more irregular_in fates (fates_from p l None (entries ++ e ∷ [])) found seen.offending.irregular passed.irregular more;
      tally =
          ap (λ (tally : Tally). fate_counted tally found) passed.tally
          ∙ sym (fold-append fate_counted no_tally fates (found ∷ []))
          ∙ ap (fold fate_counted no_tally) (sym more);
    }

-- ---- how many they are

one_more : (tally : Tally) (found : Fate) → all_tallied (fate_counted tally found) ≡ all_tallied tally + 1
one_more tally fate.Damaged = omega arith
one_more tally fate.Arbitrary = omega arith
one_more tally fate.Other = omega arith
one_more tally (fate.Irregular frame) = omega arith
one_more tally (fate.Untimely frame) = omega arith
one_more tally fate.Stray = omega arith
one_more tally fate.Behind = omega arith
one_more tally (fate.Seen sighting) = omega arith

all_are : (fates : List Fate) (tally : Tally) → all_tallied (fold fate_counted tally fates) ≡ all_tallied tally + length fates
all_are [] tally = omega arith
all_are (found ∷ fates) tally = omega (arith, all_are fates (fate_counted tally found), one_more tally found)

fates_long : (p : Values) (l : LogView) (last : Option Sighting) (entries : List Entry) → length (fates_from p l last entries) ≡ length entries
unfolding fates_from
fates_long p l last [] = refl
fates_long p l last (e ∷ entries) = ap suc (fates_long p l (last_behind last (fate_of p l last e)) entries)

pub passed_all : (p : Values) (l : LogView) (entries : List Entry) (seen : SightingsView) → IsPassed p l entries seen → all_tallied seen.tally ≡ length entries
passed_all p l entries seen passed =
    omega (arith, ap all_tallied passed.tally, all_are (fates_from p l None entries) no_tally, fates_long p l None entries)
