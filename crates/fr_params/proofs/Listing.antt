-- Lists in ascending order, of what stands at numbers.
use Rattle.std.proofs.Common.{◌≡◌, ℕ, zero, suc, ◌+◌, ◌<◌, ◌≤◌, List, [], ◌∷◌, ◌++◌, length, map, Option, Some, None, ap, sym, ◌∙◌, refl, arith, subst, add-one, length-append, ◌⊎◌, inl, inr}
use Rattle.std.proofs.lemmas.Bool.{cases_eq}
use Rattle.std.specs.Prelude.{All, AllPairs, Contains, IsSome, get_or}
use Rattle.std.proofs.lemmas.List.{append-nil, map-append}
use Rattle.std.proofs.lemmas.List.Elements.{All-nil, All-push, Contains-append_left, Contains-push}
use Rattle.std.proofs.lemmas.List.Quantifiers.{all_pairs_push}
use Rattle.fr_text.specs.Records.{FileRecord}
use Rattle.fr_params.specs.Draft.{entry, AreTables}
use Rattle.fr_params.specs.Lists.{as_list, listed}
use Rattle.fr_cluster.specs.Sane.{IsSaneNode, IsSaneSlot, AreSaneLists}
use Rattle.fr_params.specs.declared.names.Version.{Version}
use Rattle.fr_cluster.specs.declared.nodes.NodeSpec.{NodeSpec}
use Rattle.fr_cluster.specs.declared.nodes.SlotSpec.{SlotSpec}
use Rattle.fr_params.specs.declared.draft.Tables.{Tables}

pub listed-zero : {A : Type 0} (at : ℕ → Option A) → listed 0 at ≡ []
unfolding listed
listed-zero at = refl

pub listed-more : {A : Type 0} (n : ℕ) (at : ℕ → Option A) → listed (n + 1) at ≡ listed n at ++ as_list (at (n + 1))
unfolding listed
listed-more n at = rw add-one refl

-- the next entry of a table, pushed
pub listed-pushed : {A : Type 0} (n : ℕ) (table : List (Option A)) (old new : List A) (x : Option A)
    → old ≡ listed n (entry table) → new ≡ old ++ as_list x → x ≡ entry table (n + 1) → new ≡ listed (n + 1) (entry table)
listed-pushed {A} n table old new x e push at =
    push
    ∙ ap (λ (xs : List A). xs ++ as_list x) e
    ∙ ap (λ (o : Option A). listed n (entry table) ++ as_list o) at
    ∙ sym (listed-more n (entry table))

-- equal entries make the same list
pub listed-same : {A : Type 0} (n : ℕ) (at other : ℕ → Option A) → ((k : ℕ) → k ≤ n → at k ≡ other k) → listed n at ≡ listed n other
unfolding listed
listed-same zero at other same = refl
listed-same (suc n) at other same =
    let front = listed-same n at other (λ k le. same k (omega arith)) in
    rw (front, same (suc n) (omega arith)) refl

-- no more than there are numbers
length-listed : {A : Type 0} (n : ℕ) (at : ℕ → Option A) → length (listed n at) ≤ n
unfolding listed
length-listed zero at = omega arith
length-listed (suc n) at = by (at (suc n)) (length-listed n at)
  where
    by : (o : Option _) → length (listed n at) ≤ n → length (listed n at ++ as_list o) ≤ suc n
    by None few = rw (append-nil (listed n at)) (omega arith)
    by (Some x) few = omega (arith, length-append (listed n at) (x ∷ []))

-- what holds of each entry holds of each of the list
listed-all : {A : Type 0} (P : A → Type 0) (n : ℕ) (at : ℕ → Option A) → ((k : ℕ) (x : A) → k ≤ n → at k ≡ Some x → P x) → All P (listed n at)
unfolding listed
listed-all P zero at each = All-nil P
listed-all {A} P (suc n) at each = by (at (suc n)) refl (listed-all P n at (λ k x le e. each k x (omega arith) e))
  where
    by : (o : Option A) → at (suc n) ≡ o → All P (listed n at) → All P (listed n at ++ as_list o)
    by None e front = rw (append-nil (listed n at)) front
    by (Some x) e front = All-push P (listed n at) x front (each (suc n) x (omega arith) e)

-- the list ascends, where each stands at its number
listed-pairs : {A : Type 0} (number : A → ℕ) (n : ℕ) (at : ℕ → Option A) → ((k : ℕ) (x : A) → at k ≡ Some x → number x ≡ k)
    → AllPairs (λ a b. number a < number b) (listed n at)
unfolding listed
listed-pairs number zero at stands = λ i j d lt below. absurd (omega arith)
listed-pairs {A} number (suc n) at stands =
    by (at (suc n)) refl (listed-pairs number n at stands) (listed-all (λ x. number x ≤ n) n at (λ k x le e. let same = stands k x e in omega arith))
  where
    by : (o : Option A) → at (suc n) ≡ o → AllPairs (λ a b. number a < number b) (listed n at) → All (λ x. number x ≤ n) (listed n at)
        → AllPairs (λ a b. number a < number b) (listed n at ++ as_list o)
    by None e front low = rw (append-nil (listed n at)) front
    by (Some x) e front low =
        all_pairs_push (λ a b. number a < number b) (listed n at) x front
        (λ k d lt. let small : number (get_or (listed n at) k d) ≤ n = low k d lt in let same = stands (suc n) x e in omega arith)

-- what stands at a number is in the list
listed-contains : {A : Type 0} (number : A → ℕ) (n : ℕ) (at : ℕ → Option A) (k : ℕ) (x : A) → 1 ≤ k → k ≤ n → at k ≡ Some x → number x ≡ k
    → Contains (map number (listed n at)) k
unfolding listed
listed-contains number zero at k x from to e stands = absurd (omega arith)
listed-contains {A} number (suc n) at k x from to e stands = by (cases_eq k (suc n)) (λ le. listed-contains number n at k x from le e stands)
  where
    by : (k ≡ suc n) ⊎ (k ≡ suc n → ⊥) → (k ≤ n → Contains (map number (listed n at)) k) → Contains (map number (listed n at ++ as_list (at (suc n)))) k
    by (inl same) front =
        let here : at (suc n) ≡ Some x = rw same at e in
        let P : ℕ → Type 0 = λ y. Contains (map number (listed n at) ++ y ∷ []) k in
        rw (here, map-append number (listed n at) (x ∷ [])) (subst P (sym stands) (Contains-push (map number (listed n at)) k))
    by (inr ne) front =
        rw (map-append number (listed n at) (as_list (at (suc n))))
        (Contains-append_left (map number (listed n at)) (map number (as_list (at (suc n)))) k (front (omega arith)))

found : {A : Type 0} (o : Option A) → IsSome o → (x : A) × (o ≡ Some x)
found None e = cc e
found (Some x) e = (x, refl)

-- the lists of what the tables hold are sane
pub sane-lists : (version : Version) (d : Tables) (records : List FileRecord) (nodes : List NodeSpec) (slots : List SlotSpec) → AreTables version d records
    → nodes ≡ listed 64 (entry d.nodes) → slots ≡ listed 1023 (entry d.slots) → AreSaneLists nodes slots
sane-lists version d records nodes slots h n s = record {
  nodes_sane = rw n (listed-all IsSaneNode 64 (entry d.nodes) (λ k x le e. let at = h.numbered k x e in record { proper = at.proper; starts = at.starts }));
  slots_sane = rw s (listed-all (IsSaneSlot nodes) 1023 (entry d.slots) (λ k x le e. sane_slot k x e));
  nodes_ascend = rw n (listed-pairs (λ x. x.id) 64 (entry d.nodes) (λ k x e. (h.numbered k x e).at));
  slots_ascend = rw s (listed-pairs (λ x. x.slot) 1023 (entry d.slots) (λ k x e. (h.taken k x e).at));
  few_nodes = rw n (length-listed 64 (entry d.nodes));
  few_slots = rw s (length-listed 1023 (entry d.slots));
}
  where
    sane_slot : (k : ℕ) (x : SlotSpec) → entry d.slots k ≡ Some x → IsSaneSlot nodes x
    sane_slot k x e =
        let at = h.taken k x e in
        let node = found (entry d.nodes x.node) at.known in
        let stands = h.numbered x.node node.0 node.1 in
        record {
          proper = at.proper;
          turn = at.turn;
          known = rw n (listed-contains (λ (y : NodeSpec). y.id) 64 (entry d.nodes) x.node node.0 at.proper.node_from at.proper.node_to node.1 stands.at);
        }
