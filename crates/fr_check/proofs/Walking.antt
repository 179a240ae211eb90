-- The search along deviations, rows and cycles, one more at a time.
use Rattle.std.proofs.Common.{◌≡◌, ℕ, suc, ◌+◌, ◌<◌, ◌≤◌, ◌==◌, Bool, true, false, List, [], ◌∷◌, ◌++◌, length, take, drop, map, get_or, append_assoc, take-append-drop, length-append, Option, Some, None, refl, ap, ap₂, sym, ◌∙◌, subst, arith}
use Rattle.std.specs.Prelude.{All, filter, fold}
use Rattle.std.specs.Option.{option_or}
use Rattle.std.proofs.lemmas.List.{length-map, length-take, map-append}
use Rattle.std.proofs.lemmas.List.Elements.{All-filter, filter_passes}
use Rattle.std.proofs.lemmas.List.Sums.{fold-append}
use Rattle.fr_base.specs.declared.dev.Dev.{Dev}
use Rattle.fr_base.specs.declared.node_row.NodeRow.{NodeRow}
use Rattle.fr_cluster.specs.Values.{Values}
use Rattle.fr_history.specs.History.{History, Record, row_of}
use Rattle.fr_time.specs.Cycles.{is_odd}
use Rattle.fr_trace.specs.Cycles.{and_then, history_by, kept_of}
use Rattle.fr_trace.specs.Items.{Item, items_by, items_in}
use Rattle.fr_trace.specs.Items.Item.{Clock, Heard}
use Rattle.fr_trace.specs.Trace.{TraceView}
use Rattle.fr_trace.specs.declared.trace.TracedCycle.{TracedCycle}
use Rattle.fr_verdict.specs.Search.{breach_at, first_from}
use Rattle.fr_verdict.specs.Sound.{IsSoundDev}
use Rattle.fr_check.specs.Allowed.{allowed_by}
use Rattle.fr_check.specs.Walked.{devs_told_of}
use Rattle.fr_check.specs.declared.deviations.Allowed.{Allowed}
use Rattle.fr_verdict.specs.declared.unlawful.Unlawful.{Unlawful}
use Rattle.fr_verdict.proofs.Passing.{passes_in_parts}

-- ---- parts of the items

-- what is found in a front of some items is found in them
pub found_in_front : (p : Values) (t : TraceView) (n : ℕ) (xs ys : List Item) (u : Unlawful) → first_from p t n xs ≡ Some u → first_from p t n (xs ++ ys) ≡ Some u
found_in_front p t n xs ys u e = passes_in_parts p t n xs ys ∙ ap (λ (o : Option Unlawful). option_or o (first_from p t (n + length xs) ys)) e

pub found_behind : (p : Values) (t : TraceView) (n next : ℕ) (xs ys : List Item) (o : Option Unlawful) → first_from p t n xs ≡ None → next ≡ n + length xs → first_from p t next ys ≡ o → first_from p t n (xs ++ ys) ≡ o
found_behind p t n next xs ys o none count e =
    passes_in_parts p t n xs ys ∙ ap (λ (a : Option Unlawful). option_or a (first_from p t (n + length xs) ys)) none ∙ ap (λ (m : ℕ). first_from p t m ys) (sym count) ∙ e

-- items that are made of parts one after the other
abbrev pub GoAlong : {X : Type 0} → (List X → List Item) → Type 0
GoAlong {X} items = (xs ys : List X) → items (xs ++ ys) ≡ items xs ++ items ys

pub along_more : {X : Type 0} (items : List X → List Item) → GoAlong items → (p : Values) (t : TraceView) (n next after : ℕ) (xs more : List X) (x : X) → more ≡ xs ++ x ∷ []
    → first_from p t n (items xs) ≡ None → next ≡ n + length (items xs) → first_from p t next (items (x ∷ [])) ≡ None → after ≡ next + length (items (x ∷ []))
    → (first_from p t n (items more) ≡ None) × (after ≡ n + length (items more))
along_more items along p t n next after xs more x parted none count now counted =
    let whole : items more ≡ items xs ++ items (x ∷ []) = ap items parted ∙ along xs (x ∷ []) in
    let longer : length (items more) ≡ length (items xs) + length (items (x ∷ [])) = ap (λ (ys : List Item). length ys) whole ∙ length-append (items xs) (items (x ∷ [])) in
    (ap (first_from p t n) whole ∙ found_behind p t n next (items xs) (items (x ∷ [])) None none count now, omega arith)

pub along_found : {X : Type 0} (items : List X → List Item) → GoAlong items → (p : Values) (t : TraceView) (n next : ℕ) (xs more rest whole : List X) (x : X) (u : Unlawful) → more ≡ xs ++ x ∷ [] → whole ≡ more ++ rest
    → first_from p t n (items xs) ≡ None → next ≡ n + length (items xs) → first_from p t next (items (x ∷ [])) ≡ Some u → first_from p t n (items whole) ≡ Some u
along_found items along p t n next xs more rest whole x u parted all none count now =
    ap (λ ys. first_from p t n (items ys)) all
    ∙ ap (first_from p t n) (along more rest)
    ∙ found_in_front p t n (items more) (items rest) u (ap (λ ys. first_from p t n (items ys)) parted ∙ ap (first_from p t n) (along xs (x ∷ [])) ∙ found_behind p t n next (items xs) (items (x ∷ [])) (Some u) none count now)

pub first_parts : {X : Type 0} (xs : List X) (i : ℕ) → xs ≡ take i xs ++ drop i xs
first_parts xs i = sym (take-append-drop i xs)

-- ---- the deviations of a receiver, and the rows of a record

pub heard_along : (h : History) (r : Record) → GoAlong (map (Heard h r))
heard_along h r xs ys = map-append (Heard h r) xs ys

-- ---- the deviations of one receiver

own_all : (p : Dev → Bool) (P : Dev → Type 0) (devs own : List Dev) (i : ℕ) (dev : Dev) → All P (filter p devs) → own ≡ filter p devs → i < length own → dev ≡ get_or own i dev → P dev
own_all p P devs own i dev all is lt at = let each : All P own = subst (All P) (sym is) all in subst P (sym at) (each i dev lt)

pub own_sound : (p : Values) (devs own : List Dev) (node i : ℕ) (dev : Dev) → All (IsSoundDev p) devs → own ≡ filter (λ d. d.receiver == node) devs → i < length own → dev ≡ get_or own i dev → IsSoundDev p dev
own_sound p devs own node i dev all is lt at =
    own_all (λ (d : Dev). d.receiver == node) (IsSoundDev p) devs own i dev (All-filter (λ (d : Dev). d.receiver == node) (IsSoundDev p) devs all) is lt at

pub own_receiver : (devs own : List Dev) (node i : ℕ) (dev : Dev) → own ≡ filter (λ d. d.receiver == node) devs → i < length own → dev ≡ get_or own i dev → dev.receiver ≡ node
own_receiver devs own node i dev is lt at =
    let passes : (dev.receiver == node) ≡ true =
    own_all (λ (d : Dev). d.receiver == node) (λ (d : Dev). (d.receiver == node) ≡ true) devs own i dev (filter_passes (λ (d : Dev). d.receiver == node) devs) is lt at in
    grind arith

fewer : (p : Dev → Bool) (xs : List Dev) → length (filter p xs) ≤ length xs
fewer p [] = omega arith
fewer p (x ∷ xs) = by_test (p x) refl (fewer p xs)
  where
    by_test : (b : Bool) → p x ≡ b → length (filter p xs) ≤ length xs → length (filter p (x ∷ xs)) ≤ length (x ∷ xs)
    by_test true e rest = rw e (omega arith)
    by_test false e rest = rw e (omega arith)

pub own_few : (devs own : List Dev) (node : ℕ) → own ≡ filter (λ d. d.receiver == node) devs → length own ≤ length devs
own_few devs own node is =
    let same : length own ≡ length (filter (λ d. d.receiver == node) devs) = ap (λ (xs : List Dev). length xs) is in
    let few = fewer (λ (d : Dev). d.receiver == node) devs in
    omega arith

pub heard_few : (h : History) (r : Record) (own : List Dev) (k : ℕ) → length (map (Heard h r) (take k own)) ≤ length own
heard_few h r own k =
    let same : length (map (Heard h r) (take k own)) ≡ length (take k own) = length-map (take k own) (Heard h r) in
    let short = length-take k own in
    omega arith

-- what they may be, where that is by the row of their receiver
pub allowed_here : (p : Values) (t : TraceView) (h : History) (r : Record) (odd : Bool) (o : Option NodeRow) (dev : Dev) (allowed : Allowed) (node : ℕ) → allowed ≡ allowed_by p t odd r o dev.slot → odd ≡ is_odd (length h)
    → o ≡ row_of r.rows node → dev.receiver ≡ node → allowed ≡ allowed_by p t (is_odd (length h)) r (row_of r.rows dev.receiver) dev.slot
allowed_here p t h r odd o dev allowed node is turn row same =
    is ∙ ap₂ (λ (b : Bool) (receiver : Option NodeRow). allowed_by p t b r receiver dev.slot) turn (row ∙ ap (row_of r.rows) (sym same))

-- it is right for its own slot
pub allowed_again : (p : Values) (t : TraceView) (odd : Bool) (r : Record) (o : Option NodeRow) (dev : Dev) (allowed : Allowed) → allowed ≡ allowed_by p t odd r o dev.slot → allowed ≡ allowed_by p t odd r o allowed.slot
allowed_again p t odd r o dev allowed is = is ∙ ap (allowed_by p t odd r o) (sym (ap (λ (a : Allowed). a.slot) is))

pub rows_along : (h : History) (r : Record) → GoAlong (items_by h r)
unfolding items_by
rows_along h r [] ys = refl
rows_along h r (row ∷ xs) ys =
    ap (λ (rest : List Item). Clock h r row ∷ map (Heard h r) (filter (λ dev. dev.receiver == row.node) r.devs) ++ rest) (rows_along h r xs ys)
    ∙ ap (λ (rest : List Item). Clock h r row ∷ rest) (sym (append_assoc (map (Heard h r) (filter (λ dev. dev.receiver == row.node) r.devs)) (items_by h r xs) (items_by h r ys)))

pub one_item : (p : Values) (t : TraceView) (n : ℕ) (item : Item) (o : Option Unlawful) → breach_at p t n item ≡ o → first_from p t n (item ∷ []) ≡ o
unfolding first_from
one_item p t n item o e = ap (λ (a : Option Unlawful). option_or a None) e ∙ ends o
  where
    ends : (a : Option Unlawful) → option_or a None ≡ a
    ends None = refl
    ends (Some u) = refl

pub no_item : (p : Values) (t : TraceView) (n : ℕ) → first_from p t n [] ≡ None
unfolding first_from
no_item p t n = refl

-- one row, and the deviations of its node
pub row_items : (h : History) (r : Record) (row : NodeRow) → items_by h r (row ∷ []) ≡ Clock h r row ∷ devs_told_of h r row.node r.devs
unfolding items_by
row_items h r row = ap (λ (rest : List Item). Clock h r row ∷ rest) (appended (map (Heard h r) (filter (λ dev. dev.receiver == row.node) r.devs)))
  where
    appended : (xs : List Item) → xs ++ [] ≡ xs
    appended [] = refl
    appended (x ∷ xs) = ap (λ (ys : List Item). x ∷ ys) (appended xs)

pub row_found : (p : Values) (t : TraceView) (n : ℕ) (h : History) (r : Record) (row : NodeRow) (u : Unlawful) → breach_at p t n (Clock h r row) ≡ Some u → first_from p t n (items_by h r (row ∷ [])) ≡ Some u
unfolding first_from
row_found p t n h r row u e = ap (first_from p t n) (row_items h r row) ∙ ap (λ (a : Option Unlawful). option_or a (first_from p t (suc n) (devs_told_of h r row.node r.devs))) e

pub row_passed : (p : Values) (t : TraceView) (n : ℕ) (h : History) (r : Record) (row : NodeRow) (o : Option Unlawful) → breach_at p t n (Clock h r row) ≡ None → first_from p t (n + 1) (devs_told_of h r row.node r.devs) ≡ o
    → first_from p t n (items_by h r (row ∷ [])) ≡ o
unfolding first_from
row_passed p t n h r row o none e =
    let count : suc n ≡ n + 1 = omega arith in
    ap (first_from p t n) (row_items h r row)
    ∙ ap (λ (a : Option Unlawful). option_or a (first_from p t (suc n) (devs_told_of h r row.node r.devs))) none
    ∙ ap (λ (m : ℕ). first_from p t m (devs_told_of h r row.node r.devs)) count ∙ e

pub row_count : (n after : ℕ) (h : History) (r : Record) (row : NodeRow) → after ≡ (n + 1) + length (devs_told_of h r row.node r.devs) → after ≡ n + length (items_by h r (row ∷ []))
row_count n after h r row e =
    let longer : length (items_by h r (row ∷ [])) ≡ suc (length (devs_told_of h r row.node r.devs)) = ap (λ (ys : List Item). length ys) (row_items h r row) in
    omega arith

-- ---- cycles

-- the items of a history and more cycles begin with those of the history
record Further (h : History) (cycles : List TracedCycle) : Type 0 where
  pub rest : List Item
  pub parted : items_in (fold and_then h cycles) ≡ items_in h ++ rest

further : (h : History) (cycles : List TracedCycle) → Further h cycles
unfolding items_in
further h [] = record { rest = []; parted = sym (appended (items_in h)) }
  where
    appended : (xs : List Item) → xs ++ [] ≡ xs
    appended [] = refl
    appended (x ∷ xs) = ap (λ (ys : List Item). x ∷ ys) (appended xs)
further h (cycle ∷ cycles) =
    let w : Further (kept_of cycle ∷ h) cycles = further (kept_of cycle ∷ h) cycles in
    record {
      rest = items_by h (kept_of cycle) cycle.rows.items ++ w.rest;
      parted = w.parted ∙ append_assoc (items_in h) (items_by h (kept_of cycle) cycle.rows.items) w.rest;
    }

pub cycle_found : (p : Values) (t : TraceView) (n next : ℕ) (cycles behind rest : List TracedCycle) (cycle : TracedCycle) (u : Unlawful) → cycles ≡ behind ++ cycle ∷ rest
    → first_from p t n (items_in (history_by behind)) ≡ None → next ≡ n + length (items_in (history_by behind))
    → first_from p t next (items_by (history_by behind) (kept_of cycle) cycle.rows.items) ≡ Some u
    → first_from p t n (items_in (history_by cycles)) ≡ Some u
unfolding history_by items_in
cycle_found p t n next cycles behind rest cycle u parted none count e =
    let h : History = fold and_then [] behind in
    let w : Further (kept_of cycle ∷ h) rest = further (kept_of cycle ∷ h) rest in
    ap (λ (cs : List TracedCycle). first_from p t n (items_in (fold and_then [] cs))) parted
    ∙ ap (λ (g : History). first_from p t n (items_in g)) (fold-append and_then [] behind (cycle ∷ rest))
    ∙ ap (first_from p t n) w.parted
    ∙ found_in_front p t n (items_in (kept_of cycle ∷ h)) w.rest u (found_behind p t n next (items_in h) (items_by h (kept_of cycle) cycle.rows.items) (Some u) none count e)

pub cycle_passed : (p : Values) (t : TraceView) (n next after : ℕ) (h : History) (r : Record) → first_from p t n (items_in h) ≡ None → next ≡ n + length (items_in h)
    → first_from p t next (items_by h r r.rows) ≡ None → after ≡ next + length (items_by h r r.rows)
    → (first_from p t n (items_in (r ∷ h)) ≡ None) × (after ≡ n + length (items_in (r ∷ h)))
unfolding items_in
cycle_passed p t n next after h r none count e counted =
    let longer : length (items_in h ++ items_by h r r.rows) ≡ length (items_in h) + length (items_by h r r.rows) = length-append (items_in h) (items_by h r r.rows) in
    (found_behind p t n next (items_in h) (items_by h r r.rows) None none count e, omega arith)
