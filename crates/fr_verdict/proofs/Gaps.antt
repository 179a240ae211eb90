-- The gap of a trace that is found is the first.
use Rattle.std.proofs.Common.{◌≡◌, ℕ, zero, suc, ◌<◌, ◌≤◌, Bool, true, false, not, ◌&&◌, ◌||◌, List, [], ◌∷◌, length, Option, Some, None, ap, sym, refl, subst, arith, ◌⊎◌, inl, inr}
use Rattle.std.specs.Prelude.{pos, ◌-ℤ◌, AllPairs, Contains, option_and_then}
use Rattle.std.proofs.lemmas.Bool.{and_parts, or_parts}
use Rattle.fr_base.specs.declared.node_row.NodeRow.{NodeRow}
use Rattle.fr_cluster.specs.Values.{Values}
use Rattle.fr_cluster.specs.declared.nodes.NodeSpec.{NodeSpec}
use Rattle.fr_bound.specs.Checks.{holds_of, left_of, right_of}
use Rattle.fr_bound.specs.Outweighing.{outweighs}
use Rattle.fr_precision.specs.Round.{sync_count}
use Rattle.fr_coverage.specs.Coverage.{check_gap, checks_gap, has_jumped, is_off}
use Rattle.fr_coverage.specs.First.{first_in}
use Rattle.fr_coverage.specs.Order.{IsEarlierGap, place_of_gap}
use Rattle.fr_coverage.specs.declared.gap.Gap.{Gap}
use Rattle.fr_coverage.specs.declared.gap.Gap.TheVariants as gap
use Rattle.fr_coverage.proofs.GapParts.{kind_of, numbers_of, place-split}
use Rattle.fr_coverage.proofs.Least.{Among, AreApart, Below, IsLeast, at-places, in-order, later, least-below, least-if, least-in, least-or, least-same, least-unless, least-where, under}
use Rattle.fr_history.specs.History.{History, Record, record_at, row_of}
use Rattle.fr_history.proofs.Synced.{record_at-lt}
use Rattle.fr_trace.specs.Trace.{TraceView, is_named, row_at}
use Rattle.fr_verdict.specs.FirstGap.{FoundGapIsFirst, NoGapFoundIsCovered, change_by, first_gap_of, is_asked, length_by, traced_change_gap, traced_changes_gap, traced_count_gap, traced_length_gap, traced_lengths_gap, traced_link_gap, traced_links_gap, traced_pairs_gap}
use Rattle.fr_verdict.specs.Gaps.{IsTraceGap, IsTracedChangeGap, IsTracedCheckGap, IsTracedCountGap, IsTracedLengthGap, IsTracedLinkGap, has_rows, is_heard, is_lasting, is_pair}
use Rattle.fr_verdict.specs.OtherGaps.{first_other_gap_of, IsOtherGap, OtherGapIsFound}
use Rattle.fr_verdict.specs.Sync.{IsFirstSynced, first_synced_of, is_early}
use Rattle.fr_verdict.proofs.Stepping.{first_gap-parts}
use Rattle.fr_verdict.proofs.Syncing.{behind_early, early_not}

abbrev pub Ascend : List NodeSpec → Type 0
Ascend nodes = AllPairs (λ a b. a.id < b.id) nodes

-- a gap of a row, if there is one
least_maybe : (G : NodeRow → Gap → Type 0) (f : NodeRow → Option Gap) (o : Option NodeRow) → ((row : NodeRow) → IsLeast (G row) (f row))
    → IsLeast (λ g. (row : NodeRow) × (o ≡ Some row) × G row g) (option_and_then f o)
least_maybe G f None l = record { some = λ g e. cc e; least = λ g h e w before. cc e; none = λ e h w. cc w.1 }
least_maybe G f (Some row) l =
    least-same (G row) (λ g. (other : NodeRow) × (◌≡◌ {A = Option NodeRow} (Some row) (Some other)) × G other g) (f row) (l row)
    (λ g x. (row, refl, x))
    (λ g w. let same : row ≡ w.0 = cc w.1 in subst (λ (r : NodeRow). G r g) (sym same) w.2)

-- 1
abbrev AtCheck : Values → ℕ → Gap → Type 0
AtCheck p k g = (holds_of (suc k) p ≡ false) × (g ≡ gap.Check (suc k) (pos (left_of (suc k) p)) (pos (right_of (suc k) p)))

checks_apart : (p : Values) (j k : ℕ) → j < k → AreApart (AtCheck p j) (AtCheck p k)
checks_apart p j k lt g h w x before =
    at-places g h (1 ∷ suc j ∷ []) (1 ∷ suc k ∷ []) (ap place_of_gap w.1) (ap place_of_gap x.1)
    (under 1 (suc k ∷ []) (suc j ∷ []) (later (suc j) (suc k) [] [] (omega arith))) before

check_back : (p : Values) (g : Gap) (number : ℕ) → 1 ≤ number → number ≤ 5 → holds_of number p ≡ false → g ≡ gap.Check number (pos (left_of number p)) (pos (right_of number p)) → Below (AtCheck p) 5 g
check_back p g zero from to fails told = absurd (omega arith)
check_back p g (suc k) from to fails told = (k, omega arith, (fails, told))

checks_least : (p : Values) → IsLeast (IsTracedCheckGap p) (checks_gap p)
checks_least p =
    least-same (Below (AtCheck p) 5) (IsTracedCheckGap p) (checks_gap p)
    (least-below (AtCheck p) (check_gap p) 5 (λ k. least-unless (holds_of (suc k) p) (gap.Check (suc k) (pos (left_of (suc k) p)) (pos (right_of (suc k) p)))) (checks_apart p))
    (λ g w. record { number = suc w.0; from = omega arith; to = (let lt = w.1 in omega arith); fails = w.2.0; told = w.2.1 })
    (λ g r. check_back p g r.number r.from r.to r.fails r.told)

-- 2
count_least : (p : Values) (t : TraceView) → IsLeast (IsTracedCountGap p t) (traced_count_gap p t)
count_least p t =
    least-same _ (IsTracedCountGap p t) (traced_count_gap p t)
    (least-unless (outweighs (sync_count p (is_lasting t)) (sync_count p (is_named t))) (gap.Count (sync_count p (is_lasting t)) (sync_count p (is_named t))))
    (λ g w. record { few = w.0; told = w.1 }) (λ g r. (r.few, r.told))

-- 3
row_within : (h : History) (cycle node : ℕ) (row : NodeRow) → row_at h cycle node ≡ Some row → cycle < length h
unfolding row_at
row_within h cycle node row e = by_record (record_at h cycle) refl e
  where
    by_record : (o : Option Record) → record_at h cycle ≡ o → option_and_then (λ r. row_of r.rows node) o ≡ Some row → cycle < length h
    by_record None is e = cc e
    by_record (Some r) is e = record_at-lt h cycle r is

abbrev OfLength : Values → ℕ → ℕ → NodeRow → Gap → Type 0
OfLength p node cycle row g = (is_off p row.length ≡ true) × (g ≡ gap.Length node cycle row.length)

abbrev AtLength : Values → History → ℕ → ℕ → Gap → Type 0
AtLength p h node cycle g = (row : NodeRow) × (row_at h cycle node ≡ Some row) × OfLength p node cycle row g

abbrev OfLengths : Values → TraceView → NodeSpec → Gap → Type 0
OfLengths p t node g = Below (AtLength p t.history node.id) (length t.history) g

lengths_least : (p : Values) (t : TraceView) → Ascend p.nodes → IsLeast (IsTracedLengthGap p t) (first_in (traced_lengths_gap p t) p.nodes)
lengths_least p t ascend =
    least-same (Among (OfLengths p t) p.nodes) (IsTracedLengthGap p t) _
    (least-in (OfLengths p t) (traced_lengths_gap p t) p.nodes (λ n. of n) (in-order (OfLengths p t) p.nodes ascend (λ a b lt g h w x before. apart a b lt g h w x before)))
    (λ g w. record { node = w.0; known = w.1; cycle = w.2.0; row = w.2.2.0; there = w.2.2.1; off = w.2.2.2.0; told = w.2.2.2.1 })
    (λ g r. (r.node, r.known, (r.cycle, row_within t.history r.cycle r.node.id r.row r.there, (r.row, r.there, (r.off, r.told)))))
  where
    along : (n j k : ℕ) → j < k → AreApart (AtLength p t.history n j) (AtLength p t.history n k)
    along n j k lt g h w x before =
        at-places g h (3 ∷ n ∷ j ∷ []) (3 ∷ n ∷ k ∷ []) (ap place_of_gap w.2.1) (ap place_of_gap x.2.1)
        (under 3 (n ∷ k ∷ []) (n ∷ j ∷ []) (under n (k ∷ []) (j ∷ []) (later j k [] [] lt))) before

    of : (n : NodeSpec) → IsLeast (OfLengths p t n) (traced_lengths_gap p t n)
    of n =
        least-below (AtLength p t.history n.id) (traced_length_gap p t.history n.id) (length t.history)
        (λ c. least_maybe (OfLength p n.id c) (length_by p n.id c) (row_at t.history c n.id) (λ row. least-if (is_off p row.length) (gap.Length n.id c row.length))) (along n.id)

    apart : (a b : NodeSpec) → a.id < b.id → AreApart (OfLengths p t a) (OfLengths p t b)
    apart a b lt g h w x before =
        at-places g h (3 ∷ a.id ∷ w.0 ∷ []) (3 ∷ b.id ∷ x.0 ∷ []) (ap place_of_gap w.2.2.1) (ap place_of_gap x.2.2.1)
        (under 3 (b.id ∷ x.0 ∷ []) (a.id ∷ w.0 ∷ []) (later a.id b.id (x.0 ∷ []) (w.0 ∷ []) lt)) before

-- 4
abbrev OfChange : Values → ℕ → ℕ → NodeRow → NodeRow → Gap → Type 0
OfChange p node cycle before row g =
    (has_jumped p before.length row.length ≡ true) × (g ≡ gap.Change node (suc cycle) (row.length -ℤ before.length))

abbrev AfterRow : Values → History → ℕ → ℕ → NodeRow → Gap → Type 0
AfterRow p h node cycle before g = (row : NodeRow) × (row_at h (suc cycle) node ≡ Some row) × OfChange p node cycle before row g

abbrev AtChange : Values → History → ℕ → ℕ → Gap → Type 0
AtChange p h node cycle g = (before : NodeRow) × (row_at h cycle node ≡ Some before) × AfterRow p h node cycle before g

abbrev OfChanges : Values → TraceView → NodeSpec → Gap → Type 0
OfChanges p t node g = Below (AtChange p t.history node.id) (length t.history) g

changes_least : (p : Values) (t : TraceView) → Ascend p.nodes → IsLeast (IsTracedChangeGap p t) (first_in (traced_changes_gap p t) p.nodes)
changes_least p t ascend =
    least-same (Among (OfChanges p t) p.nodes) (IsTracedChangeGap p t) _
    (least-in (OfChanges p t) (traced_changes_gap p t) p.nodes (λ n. of n) (in-order (OfChanges p t) p.nodes ascend (λ a b lt g h w x before. apart a b lt g h w x before)))
    (λ g w. record { node = w.0; known = w.1; cycle = w.2.0; before = w.2.2.0; row = w.2.2.2.0; earlier = w.2.2.1; there = w.2.2.2.1; jumped = w.2.2.2.2.0; told = w.2.2.2.2.1 })
    (λ g r. (r.node, r.known, (r.cycle, row_within t.history r.cycle r.node.id r.before r.earlier, (r.before, r.earlier, (r.row, r.there, (r.jumped, r.told))))))
  where
    along : (n j k : ℕ) → j < k → AreApart (AtChange p t.history n j) (AtChange p t.history n k)
    along n j k lt g h w x before =
        at-places g h (4 ∷ n ∷ suc j ∷ []) (4 ∷ n ∷ suc k ∷ []) (ap place_of_gap w.2.2.1) (ap place_of_gap x.2.2.1)
        (under 4 (n ∷ suc k ∷ []) (n ∷ suc j ∷ []) (under n (suc k ∷ []) (suc j ∷ []) (later (suc j) (suc k) [] [] (omega arith)))) before

    of : (n : NodeSpec) → IsLeast (OfChanges p t n) (traced_changes_gap p t n)
    of n =
        least-below (AtChange p t.history n.id) (traced_change_gap p t.history n.id) (length t.history)
        (λ c. least_maybe (AfterRow p t.history n.id c) (λ before. option_and_then (change_by p n.id c before) (row_at t.history (suc c) n.id)) (row_at t.history c n.id)
        (λ before. least_maybe (OfChange p n.id c before) (change_by p n.id c before) (row_at t.history (suc c) n.id)
        (λ row. least-if (has_jumped p before.length row.length) (gap.Change n.id (suc c) (row.length -ℤ before.length))))) (along n.id)

    apart : (a b : NodeSpec) → a.id < b.id → AreApart (OfChanges p t a) (OfChanges p t b)
    apart a b lt g h w x before =
        at-places g h (4 ∷ a.id ∷ suc w.0 ∷ []) (4 ∷ b.id ∷ suc x.0 ∷ []) (ap place_of_gap w.2.2.2.1) (ap place_of_gap x.2.2.2.1)
        (under 4 (b.id ∷ suc x.0 ∷ []) (a.id ∷ suc w.0 ∷ []) (later a.id b.id (suc x.0 ∷ []) (suc w.0 ∷ []) lt)) before

-- 6
abbrev AtDouble : TraceView → Option ℕ → NodeSpec → NodeSpec → ℕ → Gap → Type 0
AtDouble t synced a b double g = ((not (is_asked t synced a b double) || is_heard t a b double) ≡ false) × (g ≡ gap.Link a.id b.id double)

abbrev OfLinks : TraceView → Option ℕ → NodeSpec → NodeSpec → Gap → Type 0
OfLinks t synced a b g = (is_pair t a b ≡ true) × Below (AtDouble t synced a b) t.doubles g

doubles_apart : (t : TraceView) (synced : Option ℕ) (a b : NodeSpec) (j k : ℕ) → j < k → AreApart (AtDouble t synced a b j) (AtDouble t synced a b k)
doubles_apart t synced a b j k lt g h w x before =
    at-places g h (6 ∷ a.id ∷ b.id ∷ j ∷ []) (6 ∷ a.id ∷ b.id ∷ k ∷ []) (ap place_of_gap w.1) (ap place_of_gap x.1)
    (under 6 (a.id ∷ b.id ∷ k ∷ []) (a.id ∷ b.id ∷ j ∷ [])
    (under a.id (b.id ∷ k ∷ []) (b.id ∷ j ∷ []) (under b.id (k ∷ []) (j ∷ []) (later j k [] [] lt)))) before

receivers_apart : (t : TraceView) (synced : Option ℕ) (a b c : NodeSpec) → b.id < c.id → AreApart (OfLinks t synced a b) (OfLinks t synced a c)
receivers_apart t synced a b c lt g h w x before =
    at-places g h (6 ∷ a.id ∷ b.id ∷ w.1.0 ∷ []) (6 ∷ a.id ∷ c.id ∷ x.1.0 ∷ []) (ap place_of_gap w.1.2.1) (ap place_of_gap x.1.2.1)
    (under 6 (a.id ∷ c.id ∷ x.1.0 ∷ []) (a.id ∷ b.id ∷ w.1.0 ∷ [])
    (under a.id (c.id ∷ x.1.0 ∷ []) (b.id ∷ w.1.0 ∷ []) (later b.id c.id (x.1.0 ∷ []) (w.1.0 ∷ []) lt))) before

links_apart : (p : Values) (t : TraceView) (synced : Option ℕ) (a b : NodeSpec) → a.id < b.id → AreApart (Among (OfLinks t synced a) p.nodes) (Among (OfLinks t synced b) p.nodes)
links_apart p t synced a b lt g h w x before =
    at-places g h (6 ∷ a.id ∷ w.0.id ∷ w.2.1.0 ∷ []) (6 ∷ b.id ∷ x.0.id ∷ x.2.1.0 ∷ []) (ap place_of_gap w.2.1.2.1) (ap place_of_gap x.2.1.2.1)
    (under 6 (b.id ∷ x.0.id ∷ x.2.1.0 ∷ []) (a.id ∷ w.0.id ∷ w.2.1.0 ∷ []) (later a.id b.id (x.0.id ∷ x.2.1.0 ∷ []) (w.0.id ∷ w.2.1.0 ∷ []) lt)) before

by_not : (b : Bool) → not b ≡ false → b ≡ true
by_not true e = refl
by_not false e = cc e

-- a double cycle that is asked
record IsAsked (p : Values) (t : TraceView) (a b : NodeSpec) (double : ℕ) : Type 0 where
  pub synced : ℕ
  pub first : IsFirstSynced p t synced
  pub from : synced ≤ double
  pub sends : has_rows t.history double a ≡ true
  pub hears : has_rows t.history double b ≡ true

asked : (p : Values) (t : TraceView) (a b : NodeSpec) (double : ℕ) → is_asked t (first_synced_of p t) a b double ≡ true → IsAsked p t a b double
asked p t a b double e =
    let outer : ((not (is_early (first_synced_of p t) double) && has_rows t.history double a) ≡ true) × (has_rows t.history double b ≡ true) =
    and_parts (not (is_early (first_synced_of p t) double) && has_rows t.history double a) (has_rows t.history double b) e in
    let inner : (not (is_early (first_synced_of p t) double) ≡ true) × (has_rows t.history double a ≡ true) =
    and_parts (not (is_early (first_synced_of p t) double)) (has_rows t.history double a) outer.0 in
    let behind = behind_early p t double (not_so (is_early (first_synced_of p t) double) inner.0) in
    record { synced = behind.synced; first = behind.first; from = behind.from; sends = inner.1; hears = outer.1 }
  where
    not_so : (b : Bool) → not b ≡ true → b ≡ false
    not_so true e = cc e
    not_so false e = refl

is_asked_by : (p : Values) (t : TraceView) (a b : NodeSpec) (double synced : ℕ) → IsFirstSynced p t synced → synced ≤ double → has_rows t.history double a ≡ true → has_rows t.history double b ≡ true
    → is_asked t (first_synced_of p t) a b double ≡ true
is_asked_by p t a b double synced first from sends hears = rw (early_not p t double synced first from, sends, hears) refl

links_least : (p : Values) (t : TraceView) → Ascend p.nodes → IsLeast (IsTracedLinkGap p t) (traced_pairs_gap p t (first_synced_of p t))
links_least p t ascend =
    least-same (Among (λ a. Among (OfLinks t synced a) p.nodes) p.nodes) (IsTracedLinkGap p t) _
    (least-in (λ a. Among (OfLinks t synced a) p.nodes) (λ a. first_in (traced_links_gap t synced a) p.nodes) p.nodes (λ a. from_sender a)
    (in-order (λ a. Among (OfLinks t synced a) p.nodes) p.nodes ascend (λ a b lt g h w x before. links_apart p t synced a b lt g h w x before)))
    (λ g w. to g w.0 w.1 w.2.0 w.2.1 w.2.2.0 w.2.2.1.0 w.2.2.1.1 w.2.2.1.2.0 w.2.2.1.2.1)
    (λ g r. (r.sender, r.sender_there, (r.receiver, r.receiver_there, (r.pair, (r.double, r.within, (back g r, r.told))))))
  where
    synced : Option ℕ
    synced = first_synced_of p t

    to : (g : Gap) (a : NodeSpec) → Contains p.nodes a → (b : NodeSpec) → Contains p.nodes b → is_pair t a b ≡ true → (double : ℕ) → double < t.doubles
        → (not (is_asked t (first_synced_of p t) a b double) || is_heard t a b double) ≡ false → g ≡ gap.Link a.id b.id double → IsTracedLinkGap p t g
    to g a a_there b b_there pair double within e told =
        let parts : (not (is_asked t (first_synced_of p t) a b double) ≡ false) × (is_heard t a b double ≡ false) = or_parts (not (is_asked t (first_synced_of p t) a b double)) (is_heard t a b double) e in
        let w : IsAsked p t a b double = asked p t a b double (by_not (is_asked t (first_synced_of p t) a b double) parts.0) in
        record {
          sender = a;
          receiver = b;
          sender_there = a_there;
          receiver_there = b_there;
          pair = pair;
          synced = w.synced;
          first = w.first;
          double = double;
          from = w.from;
          within = within;
          sends = w.sends;
          hears = w.hears;
          broken = parts.1;
          told = told;
        }

    back : (g : Gap) (r : IsTracedLinkGap p t g) → (not (is_asked t (first_synced_of p t) r.sender r.receiver r.double) || is_heard t r.sender r.receiver r.double) ≡ false
    back g r = rw (is_asked_by p t r.sender r.receiver r.double r.synced r.first r.from r.sends r.hears, r.broken) refl

    of : (a b : NodeSpec) → IsLeast (OfLinks t synced a b) (traced_links_gap t synced a b)
    of a b =
        least-where (Below (AtDouble t synced a b) t.doubles) (is_pair t a b) _
        (least-below (AtDouble t synced a b) (traced_link_gap t synced a b) t.doubles (λ k. least-unless (not (is_asked t synced a b k) || is_heard t a b k) (gap.Link a.id b.id k)) (doubles_apart t synced a b))

    from_sender : (a : NodeSpec) → IsLeast (Among (OfLinks t synced a) p.nodes) (first_in (traced_links_gap t synced a) p.nodes)
    from_sender a =
        least-in (OfLinks t synced a) (traced_links_gap t synced a) p.nodes (λ b. of a b)
        (in-order (OfLinks t synced a) p.nodes ascend (λ b c lt g h w x before. receivers_apart t synced a b c lt g h w x before))

-- ---- all of them

kinds_apart : (g h : Gap) → kind_of g < kind_of h → IsEarlierGap h g → ⊥
kinds_apart g h lt before =
    at-places g h (kind_of g ∷ numbers_of g) (kind_of h ∷ numbers_of h) (place-split g) (place-split h)
    (later (kind_of g) (kind_of h) (numbers_of h) (numbers_of g) lt) before

-- the kinds from each on
abbrev pub FromChange : Values → TraceView → Gap → Type 0
FromChange p t g = IsTracedChangeGap p t g ⊎ IsTracedLinkGap p t g

abbrev pub FromLength : Values → TraceView → Gap → Type 0
FromLength p t g = IsTracedLengthGap p t g ⊎ FromChange p t g

abbrev pub FromCount : Values → TraceView → Gap → Type 0
FromCount p t g = IsTracedCountGap p t g ⊎ FromLength p t g

pub from_change : (p : Values) (t : TraceView) (g : Gap) → FromChange p t g → 3 < kind_of g
from_change p t g (inl r) = let kind = ap kind_of r.told in omega arith
from_change p t g (inr r) = let kind = ap kind_of r.told in omega arith

pub from_length : (p : Values) (t : TraceView) (g : Gap) → FromLength p t g → 2 < kind_of g
from_length p t g (inl r) = let kind = ap kind_of r.told in omega arith
from_length p t g (inr r) = let kind = from_change p t g r in omega arith

pub from_count : (p : Values) (t : TraceView) (g : Gap) → FromCount p t g → 1 < kind_of g
from_count p t g (inl r) = let kind = ap kind_of r.told in omega arith
from_count p t g (inr r) = let kind = from_length p t g r in omega arith

pub other_gaps_least : (p : Values) (t : TraceView) → Ascend p.nodes → IsLeast (IsOtherGap p t) (first_other_gap_of p t)
unfolding first_other_gap_of
other_gaps_least p t ascend =
    least-or (IsTracedCountGap p t) (FromLength p t) _ _ (count_least p t)
    (least-or (IsTracedLengthGap p t) (FromChange p t) _ _ (lengths_least p t ascend)
    (least-or (IsTracedChangeGap p t) (IsTracedLinkGap p t) _ _ (changes_least p t ascend) (links_least p t ascend)
    (λ g h w x before. kinds_apart g h (let a = ap kind_of w.told in let b = ap kind_of x.told in omega arith) before))
    (λ g h w x before. kinds_apart g h (let a = ap kind_of w.told in let b = from_change p t h x in omega arith) before))
    (λ g h w x before. kinds_apart g h (let a = ap kind_of w.told in let b = from_length p t h x in omega arith) before)

pub gaps_least : (p : Values) (t : TraceView) → Ascend p.nodes → IsLeast (IsTraceGap p t) (first_gap_of p t)
gaps_least p t ascend =
    subst (IsLeast (IsTraceGap p t)) (sym (first_gap-parts p t))
    (least-or (IsTracedCheckGap p) (IsOtherGap p t) (checks_gap p) (first_other_gap_of p t) (checks_least p) (other_gaps_least p t ascend)
    (λ g h w x before. kinds_apart g h (let a = ap kind_of w.told in let b = from_count p t h x in omega arith) before))

pub other_gap_is_found : OtherGapIsFound
other_gap_is_found p t sane =
    let l : IsLeast (IsOtherGap p t) (first_other_gap_of p t) = other_gaps_least p t sane.lists.nodes_ascend in
    (λ g e. record { is_gap = l.some g e; first = λ h w before. l.least g h e w before }, λ e g w. l.none e g w)

pub found_gap_is_first : FoundGapIsFirst
found_gap_is_first p t g sane e =
    let l : IsLeast (IsTraceGap p t) (first_gap_of p t) = gaps_least p t sane.lists.nodes_ascend in
    record { is_gap = l.some g e; first = λ h w before. l.least g h e w before }

pub no_gap_found_is_covered : NoGapFoundIsCovered
no_gap_found_is_covered p t sane e g w = let l : IsLeast (IsTraceGap p t) (first_gap_of p t) = gaps_least p t sane.lists.nodes_ascend in l.none e g w
