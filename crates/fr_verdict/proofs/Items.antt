-- Each row of a trace is an item, and each deviation at a node with a row; no law is broken at one of a lawful trace.
use Rattle.std.proofs.Common.{◌≡◌, ℕ, zero, suc, ◌+◌, ◌<◌, ◌==◌, Bool, true, false, List, [], ◌∷◌, ◌++◌, length, map, Option, Some, None, refl, ap, sym, ◌∙◌, ◌⊎◌, inl, inr, arith}
use Rattle.std.specs.Prelude.{Contains, filter}
use Rattle.fr_base.specs.declared.dev.Dev.{Dev}
use Rattle.fr_base.specs.declared.node_row.NodeRow.{NodeRow}
use Rattle.fr_cluster.specs.Values.{Values}
use Rattle.fr_cluster.proofs.KeyNodes.{Contains-cons_cases}
use Rattle.fr_cluster.proofs.Elements.{Contains-none}
use Rattle.fr_history.specs.History.{History, Record}
use Rattle.fr_trace.specs.Items.{Item, first_number, item_in, items_by, items_in}
use Rattle.fr_trace.specs.Items.Item.{Clock, Heard}
use Rattle.fr_trace.specs.Trace.{TraceView}
use Rattle.fr_verdict.specs.Breach.{IsLawfulTrace}
use Rattle.fr_verdict.specs.Search.{breach_by, first_breach_of}
use Rattle.fr_verdict.specs.declared.unlawful.Unlawful.{Unlawful}
use Rattle.fr_verdict.proofs.Finding.{found_breach_is_first, none_along, none_below}

-- an item stands at some place
abbrev pub IsIn : List Item → Item → Type 0
IsIn items item = (place : ℕ) × (item_in items place ≡ Some item)

pub in_left : (xs ys : List Item) (item : Item) (place : ℕ) → item_in xs place ≡ Some item → item_in (xs ++ ys) place ≡ Some item
unfolding item_in
in_left [] ys item place e = cc e
in_left (x ∷ xs) ys item zero e = e
in_left (x ∷ xs) ys item (suc place) e = in_left xs ys item place e

pub in_right : (xs ys : List Item) (item : Item) (place : ℕ) → item_in ys place ≡ Some item → item_in (xs ++ ys) (length xs + place) ≡ Some item
unfolding item_in
in_right [] ys item place e = let count : 0 + place ≡ place = omega arith in ap (item_in ys) count ∙ e
in_right (x ∷ xs) ys item place e =
    let count : suc (length xs) + place ≡ suc (length xs + place) = omega arith in
    ap (item_in (x ∷ xs ++ ys)) count ∙ in_right xs ys item place e

first_in_items : (item : Item) (items : List Item) → item_in (item ∷ items) 0 ≡ Some item
unfolding item_in
first_in_items item items = refl

next_in_items : (other item : Item) (items : List Item) (place : ℕ) → item_in items place ≡ Some item → item_in (other ∷ items) (suc place) ≡ Some item
unfolding item_in
next_in_items other item items place e = e

pub row_there : (h : History) (r : Record) (rows : List NodeRow) (row : NodeRow) → Contains rows row → IsIn (items_by h r rows) (Clock h r row)
unfolding items_by
row_there h r [] row among = absurd (Contains-none row among)
row_there h r (x ∷ rows) row among = elim (Contains-cons_cases x rows row among) [
  | inl same ↦ (0, first_in_items (Clock h r x) (map (Heard h r) (filter (λ dev. dev.receiver == x.node) r.devs) ++ items_by h r rows) ∙ ap (λ (y : NodeRow). Some (Clock h r y)) same)
  | inr rest ↦
      let w : IsIn (items_by h r rows) (Clock h r row) = row_there h r rows row rest in (
        suc (length (map (Heard h r) (filter (λ dev. dev.receiver == x.node) r.devs)) + w.0),
        next_in_items (Clock h r x) (Clock h r row) (map (Heard h r) (filter (λ dev. dev.receiver == x.node) r.devs) ++ items_by h r rows) (length (map (Heard h r) (filter (λ dev. dev.receiver == x.node) r.devs)) + w.0)
            (in_right (map (Heard h r) (filter (λ dev. dev.receiver == x.node) r.devs)) (items_by h r rows) (Clock h r row) w.0 w.1),
      )
]

equal : (a b : ℕ) → a ≡ b → (a == b) ≡ true
equal a b e = grind arith

heard_there : (h : History) (r : Record) (node : ℕ) (devs : List Dev) (dev : Dev) → Contains devs dev → dev.receiver ≡ node → IsIn (map (Heard h r) (filter (λ d. d.receiver == node) devs)) (Heard h r dev)
heard_there h r node [] dev among mine = absurd (Contains-none dev among)
heard_there h r node (x ∷ devs) dev among mine = by_test (x.receiver == node) refl (Contains-cons_cases x devs dev among) (λ rest. heard_there h r node devs dev rest mine)
  where
    by_test : (b : Bool) → (x.receiver == node) ≡ b → (x ≡ dev) ⊎ Contains devs dev → (Contains devs dev → IsIn (map (Heard h r) (filter (λ d. d.receiver == node) devs)) (Heard h r dev))
        → IsIn (map (Heard h r) (filter (λ d. d.receiver == node) (x ∷ devs))) (Heard h r dev)
    by_test true e (inl same) rest = rw e ((0, first_in_items (Heard h r x) (map (Heard h r) (filter (λ d. d.receiver == node) devs)) ∙ ap (λ (y : Dev). Some (Heard h r y)) same))
    by_test true e (inr there) rest =
        let w = rest there in
        rw e ((suc w.0, next_in_items (Heard h r x) (Heard h r dev) (map (Heard h r) (filter (λ d. d.receiver == node) devs)) w.0 w.1))
    by_test false e (inl same) rest = let passes : (x.receiver == node) ≡ true = equal x.receiver node (ap (λ (d : Dev). d.receiver) same ∙ mine) in let both : true ≡ false = sym passes ∙ e in absurd (cc both)
    by_test false e (inr there) rest = rw e (rest there)

pub dev_there : (h : History) (r : Record) (rows : List NodeRow) (row : NodeRow) (dev : Dev) → Contains rows row → Contains r.devs dev → dev.receiver ≡ row.node → IsIn (items_by h r rows) (Heard h r dev)
unfolding items_by
dev_there h r [] row dev among has mine = absurd (Contains-none row among)
dev_there h r (x ∷ rows) row dev among has mine = elim (Contains-cons_cases x rows row among) [
  | inl same ↦
      let w : IsIn (map (Heard h r) (filter (λ d. d.receiver == x.node) r.devs)) (Heard h r dev) = heard_there h r x.node r.devs dev has (mine ∙ ap (λ (y : NodeRow). y.node) (sym same)) in (
        suc w.0,
        next_in_items (Clock h r x) (Heard h r dev) (map (Heard h r) (filter (λ d. d.receiver == x.node) r.devs) ++ items_by h r rows) w.0
            (in_left (map (Heard h r) (filter (λ d. d.receiver == x.node) r.devs)) (items_by h r rows) (Heard h r dev) w.0 w.1),
      )
  | inr rest ↦
      let w : IsIn (items_by h r rows) (Heard h r dev) = dev_there h r rows row dev rest has mine in (
        suc (length (map (Heard h r) (filter (λ d. d.receiver == x.node) r.devs)) + w.0),
        next_in_items (Clock h r x) (Heard h r dev) (map (Heard h r) (filter (λ d. d.receiver == x.node) r.devs) ++ items_by h r rows) (length (map (Heard h r) (filter (λ d. d.receiver == x.node) r.devs)) + w.0)
            (in_right (map (Heard h r) (filter (λ d. d.receiver == x.node) r.devs)) (items_by h r rows) (Heard h r dev) w.0 w.1),
      )
]

-- an item of a record is one of the history
pub in_history : (later h : History) (r : Record) (item : Item) → IsIn (items_by h r r.rows) item → IsIn (items_in (later ++ r ∷ h)) item
unfolding items_in
in_history [] h r item w = (length (items_in h) + w.0, in_right (items_in h) (items_by h r r.rows) item w.0 w.1)
in_history (s ∷ later) h r item w =
    let v : IsIn (items_in (later ++ r ∷ h)) item = in_history later h r item w in
    (v.0, in_left (items_in (later ++ r ∷ h)) (items_by (later ++ r ∷ h) s s.rows) item v.0 v.1)

-- no law is broken at an item of a lawful trace
pub lawful_none : (p : Values) (t : TraceView) → IsLawfulTrace p t → first_breach_of p t ≡ None
lawful_none p t lawful = by_found (first_breach_of p t) refl
  where
    by_found : (o : Option Unlawful) → first_breach_of p t ≡ o → o ≡ None
    by_found None e = refl
    by_found (Some u) e = absurd (lawful u (found_breach_is_first p t u e).is_breach)

-- the number of an item's record
pub record Unbroken (p : Values) (t : TraceView) (item : Item) : Type 0 where
  pub number : ℕ
  pub none : (rank : ℕ) → rank < 7 → breach_by p t number item rank ≡ None

pub unbroken : (p : Values) (t : TraceView) (later h : History) (r : Record) (item : Item) → IsLawfulTrace p t → t.history ≡ later ++ r ∷ h → IsIn (items_by h r r.rows) item → Unbroken p t item
unfolding first_breach_of
unbroken p t later h r item lawful parted w =
    let v : IsIn (items_in (later ++ r ∷ h)) item = in_history later h r item w in
    let there : item_in (items_in t.history) v.0 ≡ Some item = ap (λ (g : History). item_in (items_in g) v.0) parted ∙ v.1 in
    record {
      number = first_number t + v.0;
      none = λ rank lt. none_below (breach_by p t (first_number t + v.0) item) 7 rank (none_along p t (first_number t) (items_in t.history) v.0 item (lawful_none p t lawful) there) lt;
    }
