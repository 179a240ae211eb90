-- The nodes of an accepted file are on channels.
use Rattle.std.proofs.Common.{◌≡◌, ℕ, zero, suc, Bool, true, false, List, [], ◌∷◌, ◌++◌, Option, Some, None, Result, Ok, Err, refl, sym, ◌∙◌, subst}
use Rattle.std.specs.Prelude.{All, ◌==◌, ◌||◌, not, codes, length, if◌then◌else◌}
use Rattle.std.specs.Str.{bytes_eq}
use Rattle.std.proofs.lemmas.List.{append-nil}
use Rattle.std.proofs.lemmas.List.Elements.{All-nil, All-push}
use Rattle.fr_base.specs.declared.numbers.NumberFault.{NumberFault}
use Rattle.fr_base.specs.declared.reason.Reason.{Reason}
use Rattle.fr_base.specs.declared.reason.Reason.TheVariants as reason
use Rattle.fr_text.specs.Fields.{field_of, is_blank, looked_up, or_else, or_reason}
use Rattle.fr_text.specs.Records.{FileRecord, records_of}
use Rattle.fr_params.specs.Names.{name_of}
use Rattle.fr_cluster.specs.declared.names.ParamName.{ParamName}
use Rattle.fr_params.specs.declared.names.Version.{Version}
use Rattle.fr_cluster.specs.declared.nodes.NodeSpec.{NodeSpec}
use Rattle.fr_params.specs.Lists.{as_list, listed}
use Rattle.fr_params.specs.Reasons.{node_at, node_said}
use Rattle.fr_params.specs.Rows.{channels_of, named_row, node_on, param_file_row, param_node_row, param_row, param_row_of, slot_row, slot_with, version_row}
use Rattle.fr_params.specs.Versions.{version_of}
use Rattle.fr_params.specs.declared.rows.Row.{Row}
use Rattle.fr_params.specs.declared.rows.Row.TheVariants as row
use Rattle.fr_params.specs.Upgrades.{AcceptedAreOnChannels}

-- a node that a row says is on a channel
abbrev OnChannels : Result Row Reason → Type 0
OnChannels (Ok row.Version) = Unit {0}
OnChannels (Ok (row.Param n v)) = Unit {0}
OnChannels (Ok (row.Node node)) = (node.on_a || node.on_b) ≡ true
OnChannels (Ok (row.Slot slot)) = Unit {0}
OnChannels (Err why) = Unit {0}

choice : (b : Bool) (x y : Result Row Reason) → OnChannels x → OnChannels y → OnChannels (if b then x else y)
choice true x y f g = f
choice false x y f g = g

made : {A : Type 0} (make : A → Result Row Reason) (read : Result A NumberFault) → ((a : A) → OnChannels (make a)) → OnChannels (or_reason make read)
made make (Ok a) each = each a
made make (Err why) each = tt

named-on : (value : List ℕ) (n : Option ParamName) → OnChannels (named_row value n)
named-on value None = tt
named-on value (Some n) = made (λ v. Ok (row.Param n v)) _ (λ v. tt)

-- channels that a field spells
abbrev Some_channel : Option (Bool × Bool) → Type 0
Some_channel None = Unit {0}
Some_channel (Some on) = (on.0 || on.1) ≡ true

spelt : (text : List ℕ) → Some_channel (channels_of text)
spelt text = by (bytes_eq text (codes "A")) (bytes_eq text (codes "B")) (bytes_eq text (codes "AB"))
  where
    by : (a b both : Bool) → Some_channel (if a then Some (true, false) else if b then Some (false, true) else if both then Some (true, true) else None)
    by true b both = refl
    by false true both = refl
    by false false true = refl
    by false false false = tt

node-on : (on : Option (Bool × Bool)) → Some_channel on → (numbers : ℕ × (Option ℕ × ℕ)) → OnChannels (node_on on numbers)
node-on None h numbers = tt
node-on (Some on) h numbers = h

kind-on : (version : Version) (kind first second third fourth : List ℕ) → OnChannels (param_file_row version kind first second third fourth)
kind-on version kind first second third fourth =
    choice (bytes_eq kind (codes "version")) _ _
    (choice (not (is_blank second) || not (is_blank third) || not (is_blank fourth)) (Err reason.Shape) (version_row first) tt (made (λ z. Ok row.Version) _ (λ z. tt)))
    (choice (bytes_eq kind (codes "param")) _ _
    (choice (not (is_blank third) || not (is_blank fourth)) (Err reason.Shape) (param_row version first second) tt (named-on second (name_of version first)))
    (choice (bytes_eq kind (codes "node")) (param_node_row first second third fourth) _
    (made (node_on (channels_of third)) _ (λ numbers. node-on (channels_of third) (spelt third) numbers))
    (choice (bytes_eq kind (codes "slot")) (slot_row first second third fourth) (Err reason.UnknownName) (made slot_with _ (λ numbers. tt)) tt)))

row-on : (version : Version) (r : FileRecord) → OnChannels (param_row_of version r)
unfolding param_row_of
row-on version r =
    choice (length r == 5) (param_file_row version (field_of r 0) (field_of r 1) (field_of r 2) (field_of r 3) (field_of r 4)) (Err reason.Shape)
    (kind-on version (field_of r 0) (field_of r 1) (field_of r 2) (field_of r 3) (field_of r 4)) tt

said-on : (k : ℕ) (said : Result Row Reason) (node : NodeSpec) → OnChannels said → node_said k said ≡ Some node → (node.on_a || node.on_b) ≡ true
said-on k (Ok row.Version) node on e = cc e
said-on k (Ok (row.Param n v)) node on e = cc e
said-on k (Ok (row.Slot slot)) node on e = cc e
said-on k (Err why) node on e = cc e
said-on k (Ok (row.Node other)) node on e = by (other.id == k) e
  where
    by : (b : Bool) → (if b then Some other else None) ≡ Some node → (node.on_a || node.on_b) ≡ true
    by true same = let is : other ≡ node = cc same in let P : NodeSpec → Type 0 = λ n. (n.on_a || n.on_b) ≡ true in subst P is on
    by false none = cc none

found-on : (version : Version) (k : ℕ) (records : List FileRecord) (node : NodeSpec) → node_at version k records ≡ Some node → (node.on_a || node.on_b) ≡ true
unfolding looked_up
found-on version k [] node e = cc e
found-on version k (r ∷ rs) node e = by (node_said k (param_row_of version r)) refl (λ rest. found-on version k rs node rest) e
  where
    by : (o : Option NodeSpec) → node_said k (param_row_of version r) ≡ o → (node_at version k rs ≡ Some node → (node.on_a || node.on_b) ≡ true)
        → or_else o (node_at version k rs) ≡ Some node → (node.on_a || node.on_b) ≡ true
    by None is more rest = more rest
    by (Some other) is more rest = said-on k (param_row_of version r) node (row-on version r) (is ∙ rest)

listed-all : {A : Type 0} (P : A → Type 0) (n : ℕ) (at : ℕ → Option A) → ((k : ℕ) (x : A) → at k ≡ Some x → P x) → All P (listed n at)
unfolding listed
listed-all P zero at each = All-nil P
listed-all {A} P (suc n) at each = by (at (suc n)) refl (listed-all P n at each)
  where
    by : (o : Option A) → at (suc n) ≡ o → All P (listed n at) → All P (listed n at ++ as_list o)
    by None e front = rw (append-nil (listed n at)) front
    by (Some x) e front = All-push P (listed n at) x front (each (suc n) x e)

pub accepted-on : AcceptedAreOnChannels
accepted-on p bytes h =
    let P : List NodeSpec → Type 0 = λ nodes. All (λ node. (node.on_a || node.on_b) ≡ true) nodes in
    subst P (sym h.stands.nodes) (listed-all (λ node. (node.on_a || node.on_b) ≡ true) 64 (λ k. node_at (version_of (records_of bytes)) k (records_of bytes))
    (λ k node e. found-on (version_of (records_of bytes)) k (records_of bytes) node e))
