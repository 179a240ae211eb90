-- Deeds that stand in the order of sender, cycle and receiver, and deeds in the order in which contracts see them.
use Rattle.std.proofs.Common.{◌≡◌, ℕ, ◌<◌, ◌≤◌, true, false, cond, Bool, List, [], ◌∷◌, ◌++◌, length, Option, Some, None, ap, sym, subst, ◌∙◌, refl, arith, inl, inr, ◌⊎◌}
use Rattle.std.specs.Prelude.{if◌then◌else◌, ◌&&◌, not, is_none, is_some, IsSome}
use Rattle.std.specs.BTreeMap.{is_at}
use Rattle.std.specs.FinMap as map
use Rattle.std.specs.FinMap.{get-entries, get-from_entries, len-entries, len-empty}
use Rattle.std.specs.Map.{lookup}
use Rattle.std.proofs.lemmas.Bool.{cases_lt}
use Rattle.std.proofs.lemmas.Bool.Decides.{nat_tests}
use Rattle.fr_text.specs.Fields.{or_else}
use Rattle.fr_text.proofs.Lookups.{or_else-none}
use Rattle.fr_script.specs.declared.deeds.Passage.{Passage}
use Rattle.fr_script.specs.declared.deed.Deed.{Deed}
use Rattle.fr_script.specs.Deeds.{asked_cmp, deed_in, in_order, passage_cmp, passage_of, DeedsAscend, IsDeedPut, IsNextCycle}
use Rattle.fr_script.proofs.Outcomes.{find-lookup, passages_total}
use Rattle.fr_script.proofs.Existence.{ordered-keys}
use Rattle.fr_script.proofs.Tables.{is_same-at, same-passage}

-- either order ties the same passages
asked-at : (q p : Passage) → is_at (asked_cmp q) p ≡ is_at (passage_cmp q) p
asked-at q p = grind (arith, nat_tests)

-- what a table has at a passage, by either
pub asked-deed : (q : Passage) (es : List (Passage × Deed)) → lookup (is_at (asked_cmp q)) es ≡ deed_in es q
unfolding deed_in
asked-deed q [] = refl
asked-deed q (e ∷ es) = λ i. cond (asked-at q e.0 i) (Some e.1) (asked-deed q es i)

pub asked-put : (old new : List (Passage × Deed)) (p : Passage) (d : Deed)
    → ((q : Passage) → lookup (is_at (asked_cmp q)) new ≡ cond (is_at (asked_cmp p) q) (Some d) (lookup (is_at (asked_cmp q)) old)) → IsDeedPut old new p d
asked-put old new p d h q = sym (asked-deed q new) ∙ h q ∙ (λ i. cond (asked-at p q i) (Some d) (asked-deed q old i))

-- and in order
pub ordered-deed : (es : List (Passage × Deed)) (q : Passage) → deed_in (in_order es) q ≡ deed_in es q
unfolding deed_in in_order
ordered-deed es q =
    sym (get-entries (map.from_entries {R = passage_cmp} es) q ∙ find-lookup passage_cmp q (map.entries (map.from_entries {R = passage_cmp} es)))
    ∙ get-from_entries passages_total es q
    ∙ find-lookup passage_cmp q es

pub ordered-ascend : (es : List (Passage × Deed)) → DeedsAscend (in_order es)
unfolding DeedsAscend in_order
ordered-ascend es = ordered-keys passage_cmp (map.entries (map.from_entries {R = passage_cmp} es)) (map.entries_sorted (map.from_entries {R = passage_cmp} es))

pub ordered-put : (old new : List (Passage × Deed)) (p : Passage) (d : Deed) → IsDeedPut old new p d → IsDeedPut (in_order old) (in_order new) p d
ordered-put old new p d h q =
    ordered-deed new q ∙ h q ∙ ap (λ (o : Option Deed). if is_at (passage_cmp p) q then Some d else o) (sym (ordered-deed old q))

none-long : (es : List (Passage × Deed)) → length es ≡ 0 → es ≡ []
none-long [] h = refl
none-long (e ∷ es) h = absurd (omega arith)

pub ordered-nil : in_order [] ≡ []
unfolding in_order
ordered-nil =
    none-long (map.entries (map.empty {R = passage_cmp})) (sym (len-entries (map.empty {R = passage_cmp})) ∙ len-empty passage_cmp Deed)

-- ---- deeds of which some stand in one list and the others in another

deed-append : (xs ys : List (Passage × Deed)) (q : Passage) → deed_in (xs ++ ys) q ≡ or_else (deed_in xs q) (deed_in ys q)
unfolding deed_in
deed-append [] ys q = refl
deed-append (e ∷ xs) ys q = ap (λ (o : Option Deed). cond (is_at (passage_cmp q) e.0) (Some e.1) o) (deed-append xs ys q) ∙ first (is_at (passage_cmp q) e.0)
  where
    first : (b : Bool) → cond b (Some e.1) (or_else (deed_in xs q) (deed_in ys q)) ≡ or_else (cond b (Some e.1) (deed_in xs q)) (deed_in ys q)
    first true = refl
    first false = refl

pub both-deed : (xs ys : List (Passage × Deed)) (q : Passage) → deed_in (in_order (xs ++ ys)) q ≡ or_else (deed_in xs q) (deed_in ys q)
both-deed xs ys q = ordered-deed (xs ++ ys) q ∙ deed-append xs ys q

-- a deed is put in the first, or in the second where the first has none
pub put-first : (old new others : List (Passage × Deed)) (p : Passage) (d : Deed) → IsDeedPut old new p d → IsDeedPut (in_order (old ++ others)) (in_order (new ++ others)) p d
put-first old new others p d put q =
    both-deed new others q
    ∙ ap (λ (o : Option Deed). or_else o (deed_in others q)) (put q)
    ∙ by (is_at (passage_cmp p) q)
    ∙ ap (λ (o : Option Deed). if is_at (passage_cmp p) q then Some d else o) (sym (both-deed old others q))
  where
    by : (b : Bool) → or_else (if b then Some d else deed_in old q) (deed_in others q) ≡ (if b then Some d else or_else (deed_in old q) (deed_in others q))
    by true = refl
    by false = refl

pub put-second : (rows old new : List (Passage × Deed)) (p : Passage) (d : Deed) → deed_in rows p ≡ None → IsDeedPut old new p d → IsDeedPut (in_order (rows ++ old)) (in_order (rows ++ new)) p d
put-second rows old new p d none put q =
    both-deed rows new q
    ∙ ap (λ (o : Option Deed). or_else (deed_in rows q) o) (put q)
    ∙ by (is_at (passage_cmp p) q) refl
    ∙ ap (λ (o : Option Deed). if is_at (passage_cmp p) q then Some d else o) (sym (both-deed rows old q))
  where
    by : (b : Bool) → is_at (passage_cmp p) q ≡ b → or_else (deed_in rows q) (if b then Some d else deed_in old q) ≡ (if b then Some d else or_else (deed_in rows q) (deed_in old q))
    by true here = ap (λ (o : Option Deed). or_else o (Some d)) (ap (λ (x : Passage). deed_in rows x) (sym (same-passage p q here)) ∙ none)
    by false elsewhere = refl

-- one behind all others is put
pub put-behind : (es : List (Passage × Deed)) (p : Passage) (d : Deed) → deed_in es p ≡ None → IsDeedPut es (es ++ (p, d) ∷ []) p d
unfolding deed_in
put-behind es p d none q = deed-append es ((p, d) ∷ []) q ∙ by (is_at (passage_cmp p) q) refl
  where
    turned : is_at (passage_cmp q) p ≡ is_at (passage_cmp p) q
    turned = sym (is_same-at q p) ∙ (grind (arith, nat_tests)) ∙ is_same-at p q

    by : (b : Bool) → is_at (passage_cmp p) q ≡ b → or_else (deed_in es q) (cond (is_at (passage_cmp q) p) (Some d) None) ≡ (if b then Some d else deed_in es q)
    by true here =
        ap (λ (k : Bool). or_else (deed_in es q) (cond k (Some d) None)) (turned ∙ here)
        ∙ ap (λ (o : Option Deed). or_else o (Some d)) (ap (λ (x : Passage). deed_in es x) (sym (same-passage p q here)) ∙ none)
    by false elsewhere = ap (λ (k : Bool). or_else (deed_in es q) (cond k (Some d) None)) (turned ∙ elsewhere) ∙ or_else-none (deed_in es q)

-- whether either has one
pub free-both : (a b : Option Deed) → (is_none a && not (is_some b)) ≡ is_none (or_else a b)
free-both None None = refl
free-both None (Some d) = refl
free-both (Some d) b = refl

-- the first cycle of a pair in both
pub next-both : (rows said : List (Passage × Deed)) (s r a b m n : ℕ)
    → IsNextCycle (λ c. deed_in said (passage_of s r c) ≡ None) (λ c. IsSome (deed_in said (passage_of s r c))) a b m
    → IsNextCycle (λ c. deed_in rows (passage_of s r c) ≡ None) (λ c. IsSome (deed_in rows (passage_of s r c))) a m n
    → IsNextCycle (λ c. deed_in (in_order (rows ++ said)) (passage_of s r c) ≡ None) (λ c. IsSome (deed_in (in_order (rows ++ said)) (passage_of s r c))) a b n
next-both rows said s r a b m n h k = record {
  from = k.from;
  to = omega (arith, k.to, h.to);
  quiet = λ c low high. both-deed rows said (passage_of s r c) ∙ neither (deed_in rows (passage_of s r c)) (deed_in said (passage_of s r c)) (k.quiet c low high) (h.quiet c low (omega (arith, high, k.to)));
  stands = λ early. rw (both-deed rows said (passage_of s r n)) (by early (cases_lt n m));
}
  where
    neither : (x y : Option Deed) → x ≡ None → y ≡ None → or_else x y ≡ None
    neither x y e f = ap (λ (o : Option Deed). or_else o y) e ∙ f

    left : (x y : Option Deed) → IsSome x → IsSome (or_else x y)
    left None y h = absurd cc
    left (Some d) y h = refl

    right : (x y : Option Deed) → IsSome y → IsSome (or_else x y)
    right None y h = h
    right (Some d) y h = refl

    by : n < b → (n < m) ⊎ (m ≤ n) → IsSome (or_else (deed_in rows (passage_of s r n)) (deed_in said (passage_of s r n)))
    by early (inl first) = left (deed_in rows (passage_of s r n)) (deed_in said (passage_of s r n)) (k.stands first)
    by early (inr last) =
        let same : m ≡ n = omega (arith, last, k.to) in
        right (deed_in rows (passage_of s r n)) (deed_in said (passage_of s r n)) (subst (λ (c : ℕ). IsSome (deed_in said (passage_of s r c))) same (h.stands (omega (arith, same, early))))
