-- Receivers in the cycle behind some cycles: the nodes that have a row there, and the followers. No node is both, so what a
-- cycle records of a node is what it stored as the one or as the other.
use Rattle.std.proofs.Common.{◌≡◌, ◌≢◌, ℕ, ◌==◌, ℤ, Bool, true, false, Option, Some, None, List, [], ◌∷◌, map, length, refl, ap, ap₂, sym, ◌∙◌, subst, inl, inr, arith}
use Rattle.std.specs.Prelude.{Contains, find, is_some}
use Rattle.std.specs.List.{flat_map}
use Rattle.std.specs.Option.{option_map, option_or, option_to_list}
use Rattle.std.proofs.lemmas.Bool.{ne_eqb, or_left, or_right}
use Rattle.std.proofs.lemmas.List.Folds.{find-append, flat_map-map}
use Rattle.fr_base.specs.Rows.{dev_in, dev_with, is_dev_of}
use Rattle.fr_base.specs.declared.channel.Channel.{Channel}
use Rattle.fr_base.specs.declared.dev.Dev.{Dev}
use Rattle.fr_base.specs.declared.node_row.NodeRow.{NodeRow}
use Rattle.fr_cluster.specs.Sane.{IsSane}
use Rattle.fr_cluster.specs.Setting.{Setting, correct_nodes}
use Rattle.fr_cluster.specs.declared.nodes.NodeSpec.{NodeSpec}
use Rattle.fr_cluster.proofs.Elements.{Contains-here, Contains-there, filtered}
use Rattle.fr_time.specs.Cycles.{is_odd}
use Rattle.fr_history.specs.History.{row_of}
use Rattle.fr_history.specs.Records.{ended_row}
use Rattle.fr_history.specs.Offers.{channels, devs_between, static_slots_of, stored_in}
use Rattle.fr_history.specs.Terms.{latest_devs}
use Rattle.fr_history.proofs.Devs.{dev_in-between, devs_are_stored, stored_at, stored_of}
use Rattle.fr_history.proofs.Flat.{Among, among_here, among_there, find_nowhere}
use Rattle.fr_history.proofs.Lists.{map-map}
use Rattle.fr_history.proofs.Rows.{find_row}
use Rattle.fr_history.specs.Cycles.{Cycle, Cycles, follower_devs_after, told_of}
use Rattle.fr_history.specs.Lawful.{IsLawful, Obeys}
use Rattle.fr_history.specs.Next.{early_follower, early_row, early_rows, early_told, ended_follower, next_cycle, next_follower_devs}
use Rattle.fr_history.specs.Standing.{following_nodes, follows, has_row, row_nodes}
use Rattle.fr_history.proofs.Standing.{followers_have_no_row}
use Rattle.fr_air.specs.Nodes.{all_devs, all_devs_after, takes_part}
use Rattle.fr_air.proofs.Nodes.{is_none}
use Rattle.fr_air.proofs.NextStanding.{even_cycles_stay, not_so, told_follows, told_has}
use Rattle.fr_air.proofs.Columns.{RecordsStored}

-- ---- a run up to some cycle

-- the latest of some cycles is the one that follows the others
abbrev pub IsNext : Setting → Cycles → Type 0
IsNext x [] = Unit {0}
IsNext x (c ∷ h) = c ≡ next_cycle x h

-- some cycles and the one that follows them are lawful
pub record IsRun (x : Setting) (h : Cycles) : Type 0 where
  pub sane : IsSane x.params
  pub lawful : IsLawful x (next_cycle x h ∷ h)
  pub next : IsNext x h

-- ---- receivers

-- those that have a row, or those that follow
abbrev pub members : Setting → Cycles → Bool → List NodeSpec
members x h false = row_nodes x h
members x h true = following_nodes x h

abbrev pub early_of : Setting → Cycles → Bool → ℕ → NodeRow
early_of x h false node = early_row x h node
early_of x h true node = early_follower x h node

-- what a cycle records of them
abbrev pub own_devs : Cycle → Bool → List Dev
own_devs c false = c.told.devs
own_devs c true = c.follower_devs

abbrev pub own_devs_behind : Cycles → Bool → List Dev
own_devs_behind h false = latest_devs (told_of h)
own_devs_behind h true = follower_devs_after h

pub contained : {X : Type 0} (x : X) (xs : List X) → Among x xs → Contains xs x
unfolding Among
contained x [] is = absurd is
contained {X = X} x (y ∷ ys) (inl same) = subst (λ (z : X). Contains (y ∷ ys) z) (sym same) (Contains-here y ys)
contained x (y ∷ ys) (inr there) = Contains-there y ys x (contained x ys there)

pub has_it : (x : Setting) (h : Cycles) (node : NodeSpec) → Among node (row_nodes x h) → Contains (correct_nodes x) node × (has_row x h node.id ≡ true)
has_it x h node is = filtered (λ (n : NodeSpec). has_row x h n.id) (correct_nodes x) node (contained node (row_nodes x h) is)

pub follows_it : (x : Setting) (h : Cycles) (node : NodeSpec) → Among node (following_nodes x h) → Contains (correct_nodes x) node × (follows x h node.id ≡ true)
follows_it x h node is = filtered (λ (n : NodeSpec). follows x h n.id) (correct_nodes x) node (contained node (following_nodes x h) is)

pub not_both : (x : Setting) (h : Cycles) → IsLawful x h → (node other : NodeSpec) → Among node (row_nodes x h) → Among other (following_nodes x h) → node.id ≡ other.id → ⊥
not_both x h lawful node other is also same =
    followers_have_no_row x h node.id lawful (has_it x h node is).1 (ap (follows x h) same ∙ (follows_it x h other also).1)

-- ---- what receivers store is not recorded of others

find_in_none : (p : Dev → Bool) (f : ℤ → Dev) (o : Option ℤ) → ((value : ℤ) → p (f value) ≡ false) → find p (option_to_list (option_map f o)) ≡ None
find_in_none p f None fails = refl
find_in_none p f (Some value) fails = rw (fails value) refl

other_dev : (node other slot s : ℕ) (channel c : Channel) (value : ℤ) → other ≢ node → is_dev_of node slot channel (dev_with other s c value) ≡ false
other_dev node other slot s channel c value ne = let fails : (other == node) ≡ false = ne_eqb other node ne in rw fails refl

row_elsewhere : (x : Setting) (cycle : ℕ) (rows : List NodeRow) (row : NodeRow) (node slot : ℕ) (channel : Channel) → row.node ≢ node
    → find (is_dev_of node slot channel) (stored_of x cycle rows row) ≡ None
row_elsewhere x cycle rows row node slot channel ne =
    let p : Dev → Bool = is_dev_of node slot channel in
    find_nowhere p (λ s. flat_map (stored_at x cycle rows row s) channels) (static_slots_of x)
    (λ s. find_nowhere p (stored_at x cycle rows row s) channels
    (λ c. find_in_none p (dev_with row.node s c) (stored_in x cycle rows row s c) (λ value. other_dev node row.node slot s channel c value ne)))

rows_elsewhere : (x : Setting) (cycle : ℕ) (rows : List NodeRow) (row_at : ℕ → NodeRow) → ((id : ℕ) → (row_at id).node ≡ id) → (node slot : ℕ) (channel : Channel) (nodes : List NodeSpec)
    → ((spec : NodeSpec) → Among spec nodes → spec.id ≢ node) → find (is_dev_of node slot channel) (flat_map (λ (spec : NodeSpec). stored_of x cycle rows (row_at spec.id)) nodes) ≡ None
rows_elsewhere x cycle rows row_at own node slot channel [] apart = refl
rows_elsewhere x cycle rows row_at own node slot channel (spec ∷ specs) apart =
    let p : Dev → Bool = is_dev_of node slot channel in
    let here : find p (stored_of x cycle rows (row_at spec.id)) ≡ None =
    row_elsewhere x cycle rows (row_at spec.id) node slot channel (λ same. apart spec (among_here spec specs) (sym (own spec.id) ∙ same)) in
    let rest = rows_elsewhere x cycle rows row_at own node slot channel specs (λ other there. apart other (among_there other spec specs there)) in
    find-append p (stored_of x cycle rows (row_at spec.id)) (flat_map (λ (s : NodeSpec). stored_of x cycle rows (row_at s.id)) specs) ∙ ap₂ option_or here rest

devs_elsewhere : (x : Setting) (cycle : ℕ) (rows : List NodeRow) (row_at : ℕ → NodeRow) → ((id : ℕ) → (row_at id).node ≡ id) → (node slot : ℕ) (channel : Channel) (nodes : List NodeSpec)
    → ((spec : NodeSpec) → Among spec nodes → spec.id ≢ node) → find (is_dev_of node slot channel) (devs_between x cycle rows (map (λ (spec : NodeSpec). row_at spec.id) nodes)) ≡ None
devs_elsewhere x cycle rows row_at own node slot channel nodes apart =
    ap (find (is_dev_of node slot channel))
    (devs_are_stored x cycle rows (map (λ (spec : NodeSpec). row_at spec.id) nodes) ∙ flat_map-map (stored_of x cycle rows) (λ (spec : NodeSpec). row_at spec.id) nodes)
    ∙ rows_elsewhere x cycle rows row_at own node slot channel nodes apart

row_named : (x : Setting) (h : Cycles) (id : ℕ) → (early_row x h id).node ≡ id
unfolding early_row
row_named x h id = refl

follower_named : (x : Setting) (h : Cycles) (id : ℕ) → (early_follower x h id).node ≡ id
unfolding early_follower
follower_named x h id = refl

-- ---- what the next cycle records of them

pub own_recorded : (x : Setting) (h : Cycles) (follows : Bool) (node : NodeSpec) → Among node (members x h follows)
    → RecordsStored x (length h) (early_rows x h) (early_of x h follows node.id) (own_devs (next_cycle x h) follows) node.id
unfolding next_cycle early_told next_follower_devs
own_recorded x h false node is =
    λ slot c low high. dev_in-between x (length h) (early_rows x h) (early_row x h) (row_nodes x h) node slot c (λ spec there. row_named x h spec.id) is low high
own_recorded x h true node is =
    λ slot c low high. dev_in-between x (length h) (early_rows x h) (early_follower x h) (following_nodes x h) node slot c (λ spec there. follower_named x h spec.id) is low high

-- of nodes with rows nothing is recorded as of followers, and the other way round
none_as_follower : (x : Setting) (h : Cycles) → IsLawful x h → (node : NodeSpec) → Among node (row_nodes x h) → (slot : ℕ) (c : Channel)
    → find (is_dev_of node.id slot c) (next_cycle x h).follower_devs ≡ None
unfolding next_cycle next_follower_devs
none_as_follower x h lawful node is slot c =
    devs_elsewhere x (length h) (early_rows x h) (early_follower x h) (follower_named x h) node.id slot c (following_nodes x h)
    (λ spec there same. not_both x h lawful node spec is there (sym same))

none_as_told : (x : Setting) (h : Cycles) → IsLawful x h → (node : NodeSpec) → Among node (following_nodes x h) → (slot : ℕ) (c : Channel)
    → find (is_dev_of node.id slot c) (next_cycle x h).told.devs ≡ None
unfolding next_cycle early_told
none_as_told x h lawful node is slot c =
    devs_elsewhere x (length h) (early_rows x h) (early_row x h) (row_named x h) node.id slot c (row_nodes x h)
    (λ spec there same. not_both x h lawful spec node there is same)

or_none : (o : Option Dev) → option_or o None ≡ o
or_none None = refl
or_none (Some dev) = refl

value_of_dev : Option Dev → Option ℤ
value_of_dev o = option_map (λ (dev : Dev). dev.value) o

-- so all that the cycle records of them is that
pub all_as_own : (x : Setting) (h : Cycles) → IsLawful x h → (follows : Bool) (node : NodeSpec) → Among node (members x h follows) → (slot : ℕ) (c : Channel)
    → dev_in (all_devs (next_cycle x h)) node.id slot c ≡ dev_in (own_devs (next_cycle x h) follows) node.id slot c
unfolding value_of_dev
all_as_own x h lawful false node is slot c =
    let p : Dev → Bool = is_dev_of node.id slot c in
    let told : List Dev = (next_cycle x h).told.devs in
    let others : List Dev = (next_cycle x h).follower_devs in
    ap value_of_dev (find-append p told others ∙ ap (option_or (find p told)) (none_as_follower x h lawful node is slot c) ∙ or_none (find p told))
all_as_own x h lawful true node is slot c =
    let p : Dev → Bool = is_dev_of node.id slot c in
    let told : List Dev = (next_cycle x h).told.devs in
    let own : List Dev = (next_cycle x h).follower_devs in
    ap value_of_dev (find-append p told own ∙ ap (λ (o : Option Dev). option_or o (find p own)) (none_as_told x h lawful node is slot c))

pub all_recorded : (x : Setting) (h : Cycles) → IsLawful x h → (follows : Bool) (node : NodeSpec) → Among node (members x h follows)
    → RecordsStored x (length h) (early_rows x h) (early_of x h follows node.id) (all_devs (next_cycle x h)) node.id
all_recorded x h lawful follows node is = λ slot c low high. all_as_own x h lawful follows node is slot c ∙ own_recorded x h follows node is slot c low high

-- ---- their rows in the next cycle

-- at the end of the cycle
abbrev pub next_row : Setting → Cycles → ℕ → NodeRow
next_row x h node = ended_row x (told_of h) (early_told x h) (early_row x h node)

abbrev pub next_follower : Setting → Cycles → ℕ → NodeRow
next_follower x h node = ended_follower x h (next_follower_devs x h) (early_follower x h node)

pub next_rows : (x : Setting) (h : Cycles) → (next_cycle x h).told.rows ≡ map (λ (node : NodeSpec). next_row x h node.id) (row_nodes x h)
unfolding next_cycle early_told
next_rows x h = map-map (ended_row x (told_of h) (early_told x h)) (λ (node : NodeSpec). early_row x h node.id) (row_nodes x h)

pub next_followers : (x : Setting) (h : Cycles) → (next_cycle x h).followers ≡ map (λ (node : NodeSpec). next_follower x h node.id) (following_nodes x h)
unfolding next_cycle
next_followers x h = map-map (ended_follower x h (next_follower_devs x h)) (λ (node : NodeSpec). early_follower x h node.id) (following_nodes x h)

pub row_of-told : (x : Setting) (h : Cycles) (node : NodeSpec) → Among node (row_nodes x h) → row_of (next_cycle x h).told.rows node.id ≡ Some (next_row x h node.id)
row_of-told x h node is =
    ap (λ (rows : List NodeRow). row_of rows node.id) (next_rows x h) ∙ find_row (next_row x h) (λ id. row_named x h id) (row_nodes x h) node is

pub row_of-followers : (x : Setting) (h : Cycles) (node : NodeSpec) → Among node (following_nodes x h) → row_of (next_cycle x h).followers node.id ≡ Some (next_follower x h node.id)
row_of-followers x h node is =
    ap (λ (rows : List NodeRow). row_of rows node.id) (next_followers x h) ∙ find_row (next_follower x h) (λ id. follower_named x h id) (following_nodes x h) node is

-- a follower has no row of the other kind
pub followers-untold : (x : Setting) (h : Cycles) → IsLawful x (next_cycle x h ∷ h) → (node : NodeSpec) → Among node (following_nodes x h) → row_of (next_cycle x h).told.rows node.id ≡ None
followers-untold x h lawful node is =
    let it = follows_it x h node is in
    is_none (row_of (next_cycle x h).told.rows node.id)
    (told_has x h (next_cycle x h) node lawful.0 it.0 ∙ not_so (has_row x h node.id) (λ has. followers_have_no_row x h node.id lawful.1 has it.1))

-- ---- they take part

pub takes : (x : Setting) (h : Cycles) (c : Cycle) → Obeys x h c → (follows : Bool) (node : NodeSpec) → Among node (members x h follows) → takes_part c node.id ≡ true
takes x h c laws false node is =
    let it = has_it x h node is in
    or_left (is_some (row_of c.told.rows node.id)) (is_some (row_of c.followers node.id)) (told_has x h c node laws it.0 ∙ it.1)
takes x h c laws true node is =
    let it = follows_it x h node is in
    or_right (is_some (row_of c.told.rows node.id)) (is_some (row_of c.followers node.id)) (told_follows x h c node laws it.0 ∙ it.1)

-- behind an even cycle they are those that took part in it
pub were-members : (x : Setting) (h : Cycles) (c : Cycle) → IsLawful x (c ∷ h) → is_odd (length h) ≡ false → (follows : Bool) (node : NodeSpec) → Among node (members x (c ∷ h) follows) → Among node (members x h follows)
were-members x h c lawful even false node is = subst (Among node) (even_cycles_stay x h c lawful even).0 is
were-members x h c lawful even true node is = subst (Among node) (even_cycles_stay x h c lawful even).1 is

-- and what the cycle recorded of them
pub last_as_own : (x : Setting) (h : Cycles) → IsLawful x h → IsNext x h → is_odd (length h) ≡ true → (follows : Bool) (node : NodeSpec) → Among node (members x h follows) → (slot : ℕ) (c : Channel)
    → dev_in (all_devs_after h) node.id slot c ≡ dev_in (own_devs_behind h follows) node.id slot c
last_as_own x [] lawful next odd follows node is slot c = absurd (cc)
last_as_own x (d ∷ h) lawful next odd follows node is slot c =
    let even : is_odd (length h) ≡ false = grind arith in
    let was : Among node (members x h follows) = were-members x h d lawful even follows node is in
    let P : Cycle → Type 0 = λ e. dev_in (all_devs e) node.id slot c ≡ dev_in (own_devs_behind (e ∷ h) follows) node.id slot c in
    subst P (sym next) (by follows was)
  where
    by : (f : Bool) → Among node (members x h f) → dev_in (all_devs (next_cycle x h)) node.id slot c ≡ dev_in (own_devs_behind (next_cycle x h ∷ h) f) node.id slot c
    by false was = all_as_own x h lawful.1 false node was slot c
    by true was = all_as_own x h lawful.1 true node was slot c
