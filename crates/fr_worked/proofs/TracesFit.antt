-- That a trace is one of its cluster, by computing: each part of it passes a test.
use Rattle.std.proofs.Common.{◌≡◌, ◌<◌, ◌≤◌, ℕ, ◌==◌, Bool, true, false, ◌&&◌, ◌||◌, not, nat_lt, ℤ, pos, List, [], ◌∷◌, length, map, filter, All, Option, Some, None, refl, subst, inl, inr, rules, arith}
use Rattle.std.specs.Prelude.{◌≤ℤ◌, int_le, nat_le, int_lt, neg_ℤ, AllPairs, Contains}
use Rattle.std.specs.List.{list_all, list_any}
use Rattle.std.proofs.lemmas.Bool.{and_parts, eqb-true, not-true, or_parts}
use Rattle.std.proofs.lemmas.Bool.Decides.{nat_tests}
use Rattle.std.proofs.lemmas.Int.{ints}
use Rattle.std.proofs.lemmas.List.Elements.{All-cons, All-nil}
use Rattle.std.proofs.lemmas.List.Kept.{AllPairs-cons}
use Rattle.fr_base.specs.Counts.{no_counts}
use Rattle.fr_base.specs.Rows.{IsEarlierDev}
use Rattle.fr_base.specs.Within.{lies_within, IsWithin}
use Rattle.fr_base.specs.declared.dev.Dev.{Dev}
use Rattle.fr_base.specs.declared.node_row.NodeRow.{NodeRow}
use Rattle.fr_cluster.specs.Questions.{is_common}
use Rattle.fr_cluster.specs.Searches.{key_node_in}
use Rattle.fr_cluster.specs.Values.{Values}
use Rattle.fr_cluster.specs.declared.nodes.NodeSpec.{NodeSpec}
use Rattle.fr_cluster.proofs.Elements.{Contains-here, Contains-there}
use Rattle.fr_history.specs.History.{History, Record}
use Rattle.fr_trace.specs.Fits.{FitsRecord, IsAboutOther}
use Rattle.fr_trace.specs.Lasting.{IsTracedRecord, IsTracedRow}
use Rattle.fr_trace.specs.Trace.{TraceView, has_row_in}
use Rattle.fr_worked.specs.Traces.{Told, record_told}

-- ---- what each element passes

pub all_if : {X : Type 0} (P : X → Type 0) (test : X → Bool) → ((x : X) → test x ≡ true → P x) → (xs : List X) → list_all test xs ≡ true → All P xs
all_if P test so [] is = All-nil P
all_if P test so (x ∷ xs) is =
    let parts = and_parts (test x) (list_all test xs) is in
    All-cons P x xs (so x parts.0) (all_if P test so xs parts.1)

-- and each element with each behind it
unfoldable pub pairs_pass : {X : Type 0} → (X → X → Bool) → List X → Bool
pairs_pass test [] = true
pairs_pass test (x ∷ xs) = list_all (test x) xs && pairs_pass test xs

pub no_pairs : {X : Type 0} (R : X → X → Type 0) → AllPairs R []
no_pairs R = search rules

pub pairs_if : {X : Type 0} (R : X → X → Type 0) (test : X → X → Bool) → ((x y : X) → test x y ≡ true → R x y) → (xs : List X) → pairs_pass test xs ≡ true → AllPairs R xs
unfolding pairs_pass
pairs_if R test so [] is = no_pairs R
pairs_if R test so (x ∷ xs) is =
    let parts = and_parts (list_all (test x) xs) (pairs_pass test xs) is in
    AllPairs-cons R x xs (all_if (R x) (test x) (so x) xs parts.0) (pairs_if R test so xs parts.1)

contains_if : (n : ℕ) (xs : List ℕ) → list_any (λ x. x == n) xs ≡ true → Contains xs n
contains_if n [] is = absurd (cc)
contains_if n (x ∷ xs) is = by (x == n) refl (λ later. contains_if n xs later)
  where
    by : (b : Bool) → (x == n) ≡ b → (list_any (λ x. x == n) xs ≡ true → Contains xs n) → Contains (x ∷ xs) n
    by true same later = subst (λ (k : ℕ). Contains (x ∷ xs) k) (eqb-true x n same) (Contains-here x xs)
    by false other later = Contains-there x xs n (later (subst (λ (b : Bool). (b || list_any (λ x. x == n) xs) ≡ true) other is))

-- ---- rows and deviations

abbrev pub is_traced_row : NodeRow → Bool
is_traced_row row =
    int_le (pos 0) row.start
    && (int_le row.start (pos 900_000_000_000_000_000) && (int_le (pos 500_000) row.length && (int_le row.length (pos 1_500_000) && (row.cut == 0))))

no_more : (a b : ℤ) → int_le a b ≡ true → a ≤ℤ b
no_more a b is = grind (arith, ints)

no_later : (a : ℤ) → a ≤ℤ pos 900_000_000_000_000_000 → a ≤ℤ pos 1_110_000_000_000_000_000
no_later a to = omega (arith, ints, to)

traced_row : (row : NodeRow) → is_traced_row row ≡ true → IsTracedRow row
traced_row row is =
    let first = and_parts (int_le (pos 0) row.start) (int_le row.start (pos 900_000_000_000_000_000) && (int_le (pos 500_000) row.length && (int_le row.length (pos 1_500_000) && (row.cut == 0)))) is in
    let second = and_parts (int_le row.start (pos 900_000_000_000_000_000)) (int_le (pos 500_000) row.length && (int_le row.length (pos 1_500_000) && (row.cut == 0))) first.1 in
    let third = and_parts (int_le (pos 500_000) row.length) (int_le row.length (pos 1_500_000) && (row.cut == 0)) second.1 in
    let fourth = and_parts (int_le row.length (pos 1_500_000)) (row.cut == 0) third.1 in (
      record {
        start = record { low = no_more (pos 0) row.start first.0; high = no_later row.start (no_more row.start (pos 900_000_000_000_000_000) second.0) };
        length = record { low = no_more (pos 500_000) row.length third.0; high = no_more row.length (pos 1_500_000) fourth.0 };
      },
      eqb-true row.cut 0 fourth.1,
      no_more row.start (pos 900_000_000_000_000_000) second.0,
    )

less_if : (a b : ℕ) → nat_lt a b ≡ true → a < b
less_if a b is = grind (arith, nat_tests)

-- deviations on one channel come by receiver, and then by slot
abbrev pub is_earlier : Dev → Dev → Bool
is_earlier a b = nat_lt a.receiver b.receiver || ((a.receiver == b.receiver) && nat_lt a.slot b.slot)

earlier_dev : (a b : Dev) → is_earlier a b ≡ true → IsEarlierDev a b
earlier_dev a b is = by (nat_lt a.receiver b.receiver) refl is
  where
    by : (first : Bool) → nat_lt a.receiver b.receiver ≡ first → (first || ((a.receiver == b.receiver) && nat_lt a.slot b.slot)) ≡ true → IsEarlierDev a b
    by true less whole = inl (less_if a.receiver b.receiver less)
    by false other whole =
        let parts = and_parts (a.receiver == b.receiver) (nat_lt a.slot b.slot) whole in
        inr (eqb-true a.receiver b.receiver parts.0, inl (less_if a.slot b.slot parts.1))

pub within_if : (bound z : ℤ) → lies_within bound z ≡ true → IsWithin bound z
within_if bound z is =
    let parts = or_parts (int_lt z (neg_ℤ bound)) (int_lt bound z) (not-true (int_lt z (neg_ℤ bound) || int_lt bound z) is) in
    record { low = no_less z (neg_ℤ bound) parts.0; high = no_less bound z parts.1 }
  where
    no_less : (a b : ℤ) → int_lt a b ≡ false → b ≤ℤ a
    no_less a b is = grind (arith, ints)

-- a deviation is about another node
abbrev pub is_about_by : Values → Dev → Option NodeSpec → Bool
is_about_by p dev None = false
is_about_by p dev (Some sender) = not (sender.id == dev.receiver) && is_common p sender.id dev.receiver dev.channel

abbrev pub is_about : Values → Dev → Bool
is_about p dev = is_about_by p dev (key_node_in p.nodes dev.slot)

about_other : (p : Values) (dev : Dev) → is_about p dev ≡ true → IsAboutOther p dev
about_other p dev is = by (key_node_in p.nodes dev.slot) refl is
  where
    by : (o : Option NodeSpec) → key_node_in p.nodes dev.slot ≡ o → is_about_by p dev o ≡ true → IsAboutOther p dev
    by None none is = absurd (cc)
    by (Some sender) some is =
        let parts = and_parts (not (sender.id == dev.receiver)) (is_common p sender.id dev.receiver dev.channel) is in
        let apart : (sender.id == dev.receiver) ≡ false = not-true (sender.id == dev.receiver) parts.0 in
        record { sender = sender; key = some; other = λ same. grind (arith, nat_tests); common = parts.1 }

-- ---- records

abbrev pub is_told : Told → Bool
is_told told =
    nat_le (length told.0) 64
    && (pairs_pass (λ (a b : NodeRow). nat_lt a.node b.node) told.0
    && (list_all is_traced_row told.0
    && (pairs_pass is_earlier told.1
    && (list_all (λ (dev : Dev). lies_within (pos 1_000_000) dev.value) told.1
    && list_all (λ (dev : Dev). list_any (λ n. n == dev.receiver) (map (λ (row : NodeRow). row.node) told.0)) told.1))))

few_if : (n : ℕ) → nat_le n 64 ≡ true → n ≤ 64
few_if n is = grind (arith, nat_tests)

traced_record : (told : Told) → is_told told ≡ true → IsTracedRecord (record_told told)
traced_record told is = by told.0 told.1 is
  where
    by :
        (rows : List NodeRow) (devs : List Dev)
        → (nat_le (length rows) 64
        && (pairs_pass (λ (a b : NodeRow). nat_lt a.node b.node) rows
        && (list_all is_traced_row rows
        && (pairs_pass is_earlier devs
        && (list_all (λ (dev : Dev). lies_within (pos 1_000_000) dev.value) devs
        && list_all (λ (dev : Dev). list_any (λ n. n == dev.receiver) (map (λ (row : NodeRow). row.node) rows)) devs)))))
        ≡ true
        → IsTracedRecord (record { rows = rows; devs = devs; counts = no_counts })
    by rows devs is =
        let first = and_parts (nat_le (length rows) 64) _ is in
        let second = and_parts (pairs_pass (λ (a b : NodeRow). nat_lt a.node b.node) rows) _ first.1 in
        let third = and_parts (list_all is_traced_row rows) _ second.1 in
        let fourth = and_parts (pairs_pass is_earlier devs) _ third.1 in
        let fifth = and_parts (list_all (λ (dev : Dev). lies_within (pos 1_000_000) dev.value) devs) _ fourth.1 in
        record {
          few = few_if (length rows) first.0;
          rows_ascend = pairs_if (λ (a b : NodeRow). a.node < b.node) (λ (a b : NodeRow). nat_lt a.node b.node) (λ a b is. less_if a.node b.node is) rows second.0;
          rows_proper = all_if IsTracedRow is_traced_row traced_row rows third.0;
          devs_ascend = pairs_if IsEarlierDev is_earlier earlier_dev devs fourth.0;
          devs_proper = all_if (λ (dev : Dev). IsWithin (pos 1_000_000) dev.value) (λ (dev : Dev). lies_within (pos 1_000_000) dev.value) (λ dev is. within_if (pos 1_000_000) dev.value is) devs fifth.0;
          devs_heard =
              all_if (λ (dev : Dev). Contains (map (λ (row : NodeRow). row.node) rows) dev.receiver) (λ (dev : Dev). list_any (λ n. n == dev.receiver) (map (λ (row : NodeRow). row.node) rows))
              (λ dev is. contains_if dev.receiver (map (λ (row : NodeRow). row.node) rows) is) devs fifth.1;
          uncounted = refl;
        }

pub traced_records : (cycles : List Told) → list_all is_told cycles ≡ true → All IsTracedRecord (map record_told cycles)
traced_records [] is = All-nil IsTracedRecord
traced_records (told ∷ cycles) is =
    let parts = and_parts (is_told told) (list_all is_told cycles) is in
    All-cons IsTracedRecord (record_told told) (map record_told cycles) (traced_record told parts.0) (traced_records cycles parts.1)

pub fitting_record : (p : Values) (t : TraceView) (h : History) (r : Record) → map (λ (row : NodeRow). row.node) r.rows ≡ map (λ (node : NodeSpec). node.id) (filter (λ (node : NodeSpec). has_row_in t h r node.id) p.nodes)
    → list_all (λ (row : NodeRow). lies_within p.rate_limit row.rate && lies_within p.offset_limit row.offset) r.rows ≡ true → list_all (is_about p) r.devs ≡ true → FitsRecord p t h r
fitting_record p t h r nodes terms devs = record {
  nodes = nodes;
  rates = all_if (λ (row : NodeRow). IsWithin p.rate_limit row.rate) both (λ row is. within_if p.rate_limit row.rate (and_parts (lies_within p.rate_limit row.rate) (lies_within p.offset_limit row.offset) is).0) r.rows terms;
  offsets = all_if (λ (row : NodeRow). IsWithin p.offset_limit row.offset) both (λ row is. within_if p.offset_limit row.offset (and_parts (lies_within p.rate_limit row.rate) (lies_within p.offset_limit row.offset) is).1) r.rows terms;
  devs = all_if (IsAboutOther p) (is_about p) (about_other p) r.devs devs;
}
  where
    both : NodeRow → Bool
    both row = lies_within p.rate_limit row.rate && lies_within p.offset_limit row.offset
