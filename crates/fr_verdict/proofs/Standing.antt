-- Which nodes have rows in the cycles of a trace that fits its cluster: within a double cycle they stay, and from one to the next
-- further ones come.
use Rattle.std.proofs.Common.{◌≡◌, ◌⊎◌, ℕ, suc, ◌+◌, ◌*◌, ◌<◌, ◌==◌, Bool, true, false, not, ◌&&◌, if◌then◌else◌, Option, Some, None, List, [], ◌∷◌, filter, map, length, refl, ap, sym, ◌∙◌, inl, inr, arith}
use Rattle.std.specs.Prelude.{Contains, is_some, nat_lt}
use Rattle.std.proofs.lemmas.Bool.{and_parts}
use Rattle.fr_base.specs.declared.node_row.NodeRow.{NodeRow}
use Rattle.fr_cluster.specs.Values.{Values}
use Rattle.fr_cluster.specs.declared.join.Join.{Join}
use Rattle.fr_cluster.specs.declared.nodes.NodeSpec.{NodeSpec}
use Rattle.fr_history.specs.History.{AreRowsOf, History, Record, row_of}
use Rattle.fr_history.proofs.Standing.{keeps, passes_by_row, row_by_passing}
use Rattle.fr_cluster.proofs.Elements.{Contains-here, Contains-none, Contains-there}
use Rattle.fr_cluster.proofs.KeyNodes.{Contains-cons_cases}
use Rattle.fr_runs.proofs.Standing.{filter_same}
use Rattle.fr_trace.specs.Fits.{FitsRecord}
use Rattle.fr_trace.specs.Joins.{first_cycle, latest_rows, stands_in}
use Rattle.fr_trace.specs.Trace.{TraceView, has_row_in, is_named, traced_join_in}
use Rattle.fr_verdict.specs.Precision.{traced_nodes}

-- ---- tests

equal_tests : (a b : Bool) → (a ≡ true → b ≡ true) → (b ≡ true → a ≡ true) → a ≡ b
equal_tests true true up down = refl
equal_tests true false up down = sym (up refl)
equal_tests false true up down = down refl
equal_tests false false up down = refl

same : (a b : ℕ) → (a == b) ≡ true → a ≡ b
same a b is = grind arith

differs : (a b : ℕ) → (a ≡ b → ⊥) → (a == b) ≡ false
differs a b apart = grind arith

below : (a b : ℕ) → nat_lt a b ≡ true → a < b
below a b is = grind arith

is_below : (a b : ℕ) → a < b → nat_lt a b ≡ true
is_below a b less = grind arith

-- ---- who has a row in a record

unfoldable pub has_row : Record → ℕ → Bool
has_row r node = is_some (row_of r.rows node)

-- the nodes that have one
abbrev pub nodes_in : Values → Record → List NodeSpec
nodes_in p r = filter (λ node. has_row r node.id) p.nodes

row_tells : (test : ℕ → Bool) (nodes : List NodeSpec) (rows : List NodeRow) (node : NodeSpec) → AreRowsOf (filter (λ (n : NodeSpec). test n.id) nodes) rows → Contains nodes node
    → is_some (row_of rows node.id) ≡ test node.id
unfolding keeps
row_tells test nodes rows node are there =
    equal_tests (is_some (row_of rows node.id)) (test node.id) (passes_by_row test nodes rows node.id are) (row_by_passing test nodes rows node are there)

-- whoever is to have one, and nobody else
pub told_has : (p : Values) (t : TraceView) (h : History) (r : Record) (node : NodeSpec) → FitsRecord p t h r → Contains p.nodes node → has_row r node.id ≡ has_row_in t h r node.id
unfolding has_row
told_has p t h r node fits there = row_tells (has_row_in t h r) p.nodes r.rows node fits.nodes there

pub nodes_are : (p : Values) (t : TraceView) (h : History) (r : Record) → FitsRecord p t h r → traced_nodes p t h r ≡ nodes_in p r
nodes_are p t h r fits = filter_same (λ (n : NodeSpec). has_row_in t h r n.id) (λ (n : NodeSpec). has_row r n.id) p.nodes (λ node there. sym (told_has p t h r node fits there))

pub rows_of_nodes : (p : Values) (t : TraceView) (h : History) (r : Record) → FitsRecord p t h r → AreRowsOf (nodes_in p r) r.rows
rows_of_nodes p t h r fits = fits.nodes ∙ ap (map (λ (node : NodeSpec). node.id)) (nodes_are p t h r fits)

-- it is correct
pub unnamed_with_row : (p : Values) (t : TraceView) (h : History) (r : Record) (node : NodeSpec) → FitsRecord p t h r → Contains p.nodes node → has_row r node.id ≡ true → is_named t node.id ≡ false
unnamed_with_row p t h r node fits there has =
    by_not (is_named t node.id) (and_parts (not (is_named t node.id)) (stands_in (traced_join_in t node.id) h r node.id) (sym (told_has p t h r node fits there) ∙ has)).0
  where
    by_not : (b : Bool) → not b ≡ true → b ≡ false
    by_not true e = cc e
    by_not false e = refl

-- and a correct node that does not join has one in every record
pub lasting_has : (p : Values) (t : TraceView) (h : History) (r : Record) (node : NodeSpec) → FitsRecord p t h r → Contains p.nodes node → is_named t node.id ≡ false → is_some (traced_join_in t node.id) ≡ false
    → has_row r node.id ≡ true
lasting_has p t h r node fits there unnamed none = told_has p t h r node fits there ∙ by_join (traced_join_in t node.id) none ∙ ap (λ b. not b) unnamed
  where
    with_true : (a : Bool) → (a && true) ≡ a
    with_true true = refl
    with_true false = refl

    by_join : (join : Option Join) → is_some join ≡ false → (not (is_named t node.id) && stands_in join h r node.id) ≡ not (is_named t node.id)
    by_join None e = with_true (not (is_named t node.id))
    by_join (Some join) e = cc e

-- ---- from one cycle to the next

-- a node that joins has a row from its first cycle on
since_first : (join : Join) (h : History) (r : Record) (node : ℕ) → stands_in (Some join) h r node ≡ true → first_cycle join < suc (length h)
since_first join h r node is = by_first (length h == first_cycle join) refl is
  where
    by_first : (b : Bool) → (length h == first_cycle join) ≡ b → (if b then is_some (row_of r.rows node) else (nat_lt (first_cycle join) (length h) && is_some (row_of (latest_rows h) node))) ≡ true
        → first_cycle join < suc (length h)
    by_first true e is = let here = same (length h) (first_cycle join) e in omega arith
    by_first false e is = let less = below (first_cycle join) (length h) (and_parts (nat_lt (first_cycle join) (length h)) (is_some (row_of (latest_rows h) node)) is).0 in omega arith

-- where it cannot begin, it has one where it had one before
later_by : (join : Option Join) (h : History) (s r : Record) (node : ℕ) → ((j : Join) → join ≡ Some j → suc (length h) ≡ first_cycle j → ⊥)
    → stands_in join h s node ≡ is_some (row_of s.rows node) → stands_in join (s ∷ h) r node ≡ is_some (row_of s.rows node)
later_by None h s r node never before = before
later_by (Some join) h s r node never before =
    let other : (suc (length h) == first_cycle join) ≡ false = differs (suc (length h)) (first_cycle join) (never join refl) in
    ap (λ b. if b then is_some (row_of r.rows node) else (nat_lt (first_cycle join) (suc (length h)) && is_some (row_of s.rows node))) other
    ∙ by_row (is_some (row_of s.rows node)) refl
  where
    ends : (a : Bool) → (a && false) ≡ false
    ends true = refl
    ends false = refl

    by_row : (b : Bool) → is_some (row_of s.rows node) ≡ b → (nat_lt (first_cycle join) (suc (length h)) && b) ≡ b
    by_row true e = ap (λ a. a && true) (is_below (first_cycle join) (suc (length h)) (since_first join h s node (before ∙ e)))
    by_row false e = ends (nat_lt (first_cycle join) (suc (length h)))

-- two records that follow each other fit
pub record AreTwo (p : Values) (t : TraceView) (h : History) (s r : Record) : Type 0 where
  pub early : FitsRecord p t h s
  pub late : FitsRecord p t (s ∷ h) r

-- where a node cannot begin in the later one, it has a row there where it had one in the earlier one
stays_where : (p : Values) (t : TraceView) (h : History) (s r : Record) (node : NodeSpec) → AreTwo p t h s r → Contains p.nodes node
    → ((j : Join) → traced_join_in t node.id ≡ Some j → suc (length h) ≡ first_cycle j → ⊥) → has_row r node.id ≡ has_row s node.id
unfolding has_row
stays_where p t h s r node two there never = by_name (is_named t node.id) refl
  where
    early : is_some (row_of s.rows node.id) ≡ has_row_in t h s node.id
    early = told_has p t h s node two.early there

    late : is_some (row_of r.rows node.id) ≡ has_row_in t (s ∷ h) r node.id
    late = told_has p t (s ∷ h) r node two.late there

    by_name : (b : Bool) → is_named t node.id ≡ b → is_some (row_of r.rows node.id) ≡ is_some (row_of s.rows node.id)
    by_name true e =
        late ∙ ap (λ a. not a && stands_in (traced_join_in t node.id) (s ∷ h) r node.id) e
        ∙ sym (early ∙ ap (λ a. not a && stands_in (traced_join_in t node.id) h s node.id) e)
    by_name false e =
        late ∙ ap (λ a. not a && stands_in (traced_join_in t node.id) (s ∷ h) r node.id) e
        ∙ later_by (traced_join_in t node.id) h s r node.id never (sym (early ∙ ap (λ a. not a && stands_in (traced_join_in t node.id) h s node.id) e))

-- within a double cycle all stays
pub stays_within : (p : Values) (t : TraceView) (h : History) (s r : Record) (double : ℕ) (node : NodeSpec) → AreTwo p t h s r → length h ≡ 2 * double → Contains p.nodes node
    → has_row r node.id ≡ has_row s node.id
stays_within p t h s r double node two counted there = stays_where p t h s r node two there (λ j at begins. odd_begins (length h) double j.double counted begins)
  where
    odd_begins : (n k e : ℕ) → n ≡ 2 * k → suc n ≡ 2 * e + 6 → ⊥
    odd_begins n k e counted begins = omega arith

pub nodes_stay : (p : Values) (t : TraceView) (h : History) (s r : Record) (double : ℕ) → AreTwo p t h s r → length h ≡ 2 * double → nodes_in p r ≡ nodes_in p s
nodes_stay p t h s r double two counted =
    filter_same (λ (n : NodeSpec). has_row r n.id) (λ (n : NodeSpec). has_row s n.id) p.nodes (λ node there. stays_within p t h s r double node two counted there)

-- and whoever had one keeps one
pub keeps_row : (p : Values) (t : TraceView) (h : History) (s r : Record) (node : NodeSpec) → AreTwo p t h s r → Contains p.nodes node → has_row s node.id ≡ true → has_row r node.id ≡ true
keeps_row p t h s r node two there has = stays_where p t h s r node two there never ∙ has
  where
    early : has_row_in t h s node.id ≡ true
    early = sym (told_has p t h s node two.early there) ∙ has

    stands : stands_in (traced_join_in t node.id) h s node.id ≡ true
    stands = (and_parts (not (is_named t node.id)) (stands_in (traced_join_in t node.id) h s node.id) early).1

    never : (j : Join) → traced_join_in t node.id ≡ Some j → suc (length h) ≡ first_cycle j → ⊥
    never j at begins =
        let less : first_cycle j < suc (length h) = since_first j h s node.id (sym (ap (λ (o : Option Join). stands_in o h s node.id) at) ∙ stands) in
        omega arith

-- ---- whether a further one comes

some_or_none : (test : NodeSpec → Bool) (nodes : List NodeSpec) → ((node : NodeSpec) × (Contains nodes node × (test node ≡ true))) ⊎ ((node : NodeSpec) → Contains nodes node → test node ≡ false)
some_or_none test [] = inr (λ node among. absurd (Contains-none node among))
some_or_none test (first ∷ nodes) = by_test (test first) refl (some_or_none test nodes)
  where
    by_test : (b : Bool) → test first ≡ b → ((node : NodeSpec) × (Contains nodes node × (test node ≡ true))) ⊎ ((node : NodeSpec) → Contains nodes node → test node ≡ false)
        → ((node : NodeSpec) × (Contains (first ∷ nodes) node × (test node ≡ true))) ⊎ ((node : NodeSpec) → Contains (first ∷ nodes) node → test node ≡ false)
    by_test true e rest = inl (first, (Contains-here first nodes, e))
    by_test false e (inl found) = inl (found.0, (Contains-there first nodes found.0 found.1.0, found.1.1))
    by_test false e (inr none) = inr (λ node among. elim (Contains-cons_cases first nodes node among) [
      | inl here ↦ ap test (sym here) ∙ e
      | inr there ↦ none node there
    ])

-- a node that has a row in the later record alone
pub record Comes (p : Values) (s r : Record) : Type 0 where
  pub node : NodeSpec
  pub there : Contains p.nodes node
  pub has : has_row r node.id ≡ true
  pub had_none : has_row s node.id ≡ false

pub comes_or_stays : (p : Values) (t : TraceView) (h : History) (s r : Record) → AreTwo p t h s r → Comes p s r ⊎ (nodes_in p r ≡ nodes_in p s)
comes_or_stays p t h s r two = elim (some_or_none (λ node. has_row r node.id && not (has_row s node.id)) p.nodes) [
  | inl found ↦
      let both = and_parts (has_row r found.0.id) (not (has_row s found.0.id)) found.1.1 in
      inl (record { node = found.0; there = found.1.0; has = both.0; had_none = by_not (has_row s found.0.id) both.1 })
  | inr none ↦
      inr
      (filter_same (λ (n : NodeSpec). has_row r n.id) (λ (n : NodeSpec). has_row s n.id) p.nodes
      (λ node there. equal_tests (has_row r node.id) (has_row s node.id) (had (has_row r node.id) (has_row s node.id) (none node there)) (λ has. keeps_row p t h s r node two there has)))
] where
  by_not : (b : Bool) → not b ≡ true → b ≡ false
  by_not true e = cc e
  by_not false e = refl

  had : (now before : Bool) → (now && not before) ≡ false → now ≡ true → before ≡ true
  had true true none has = refl
  had true false none has = sym none
  had false before none has = cc has

-- where no node joins, the same have rows in both
pub all_stay : (p : Values) (t : TraceView) (h : History) (s r : Record) → AreTwo p t h s r → t.joins ≡ [] → nodes_in p r ≡ nodes_in p s
all_stay p t h s r two none =
    filter_same (λ (n : NodeSpec). has_row r n.id) (λ (n : NodeSpec). has_row s n.id) p.nodes
    (λ node there. stays_where p t h s r node two there (λ j at begins. never node j (sym at ∙ joins_none node.id)))
  where
    joins_none : (node : ℕ) → traced_join_in t node ≡ None
    joins_none node = rw none refl

    never : (node : NodeSpec) (j : Join) → Some j ≡ None → ⊥
    never node j e = cc e
