-- Lawful cycles are those that the function gives.
use Rattle.std.proofs.Common.{◌≡◌, ℕ, List, [], ◌∷◌, map, length, refl, ap, ◌∙◌, subst}
use Rattle.fr_base.specs.declared.cycle_row.Counts.{Counts}
use Rattle.fr_base.specs.declared.dev.Dev.{Dev}
use Rattle.fr_base.specs.declared.node_row.NodeRow.{NodeRow}
use Rattle.fr_history.specs.History.{Record}
use Rattle.fr_history.specs.Rows.{AreCounts, cut_after, offset_after, uncorrected}
use Rattle.fr_history.specs.Records.{ended_row, record_over}
use Rattle.fr_history.specs.Offers.{Reception, devs_among, devs_between, receptions_among}
use Rattle.fr_history.proofs.Found.{AnswersAreFound, counts_over_found, receptions_found}
use Rattle.fr_history.proofs.RowLaws.{early_rows_by, ended_rows_by}
use Rattle.fr_cluster.specs.Setting.{Setting}
use Rattle.fr_history.specs.Cycles.{Cycle, Cycles, told_of}
use Rattle.fr_history.specs.Laws.{follower_cut, follower_laws, follower_offset, row_laws}
use Rattle.fr_history.specs.Lawful.{IsLawful, Obeys, ToldObeys}
use Rattle.fr_history.specs.Next.{cycles_of, early_follower, early_followers, early_row, early_rows, early_told, ended_follower, next_cycle, next_follower_devs, next_told}
use Rattle.fr_history.specs.Standing.{following_nodes, row_nodes}
use Rattle.fr_history.proofs.RunsExist.{followed_cut, followed_offset, told_cut, told_offset}

-- ---- what is told

record_with : List NodeRow → List Dev → Counts → Record
record_with rows devs counts = record { rows = rows; devs = devs; counts = counts }

early_rows_are : (x : Setting) (h : Cycles) (c : Cycle) → ToldObeys x h c → map uncorrected c.told.rows ≡ early_rows x h
unfolding early_row
early_rows_are x h c laws =
    early_rows_by (row_laws x h) (offset_after x.params (told_of h) c.told) (cut_after x.params (told_of h) c.told) (row_nodes x h) c.told.rows laws.clocks laws.cuts

receptions_are : AnswersAreFound → (x : Setting) (h : Cycles) (c : Cycle) (laws : ToldObeys x h c) → laws.receptions ≡ receptions_among x (length h) (early_rows x h)
receptions_are found x h c laws =
    receptions_found found x (length h) (map uncorrected c.told.rows) (map uncorrected c.told.rows) laws.receptions laws.received
    ∙ ap (receptions_among x (length h)) (early_rows_are x h c laws)

-- rows with the corrections of some deviations
corrected_by : Setting → Cycles → Counts → List NodeRow → List Dev → List NodeRow
corrected_by x h counts rows devs = map (ended_row x (told_of h) (record_with rows devs counts)) (early_rows x h)

told_found : AnswersAreFound → (x : Setting) (h : Cycles) (c : Cycle) → ToldObeys x h c → c.told ≡ next_told x h
unfolding early_told early_row record_with corrected_by
told_found found x h c laws =
    let p = x.params in
    let cycle : ℕ = length h in
    let early : Record = record_over x cycle (early_rows x h) in
    let rows = early_rows_are x h c laws in
    let receptions = receptions_are found x h c laws in
    let devs : c.told.devs ≡ early.devs = laws.devs ∙ ap devs_among receptions in
    let ByRows : List NodeRow → Type 0 = λ rs. AreCounts x cycle rs laws.receptions c.told.counts in
    let ByHeard : List Reception → Type 0 = λ heard. AreCounts x cycle (early_rows x h) heard c.told.counts in
    let counts : c.told.counts ≡ early.counts = counts_over_found x cycle (early_rows x h) c.told.counts (subst ByHeard receptions (subst ByRows rows laws.counts)) in
    let ended : c.told.rows ≡ corrected_by x h c.told.counts c.told.rows c.told.devs =
    ended_rows_by (row_laws x h) (offset_after p (told_of h) c.told) (cut_after p (told_of h) c.told) (row_nodes x h) c.told.rows (told_offset x h c.told) (told_cut x h c.told) laws.clocks laws.cuts in
    ap (λ rs. record_with rs c.told.devs c.told.counts) (ended ∙ ap (corrected_by x h c.told.counts c.told.rows) devs)
    ∙ ap (λ ds. record_with (next_told x h).rows ds c.told.counts) devs
    ∙ ap (record_with (next_told x h).rows early.devs) counts

-- ---- the followers

-- followers with the corrections of some deviations
ended_followers : Setting → Cycles → List Dev → List NodeRow
ended_followers x h devs = map (ended_follower x h devs) (early_followers x h)

-- what they store
follower_devs_found : AnswersAreFound → (x : Setting) (h : Cycles) (c : Cycle) → Obeys x h c → c.follower_devs ≡ next_follower_devs x h
unfolding next_follower_devs early_follower
follower_devs_found found x h c laws =
    let p = x.params in
    let rows = early_rows_are x h c laws.told in
    let devs : List Dev = c.follower_devs in
    let receivers : map uncorrected c.followers ≡ early_followers x h =
    early_rows_by (follower_laws x h) (follower_offset p h devs) (follower_cut p h devs) (following_nodes x h) c.followers laws.followers.clocks laws.followers.cuts in
    laws.followers.devs
    ∙ ap devs_among (receptions_found found x (length h) (map uncorrected c.told.rows) (map uncorrected c.followers) laws.followers.receptions laws.followers.received)
    ∙ ap (λ (rs : List NodeRow). devs_between x (length h) rs (map uncorrected c.followers)) rows
    ∙ ap (devs_between x (length h) (early_rows x h)) receivers

followers_found : AnswersAreFound → (x : Setting) (h : Cycles) (c : Cycle) → Obeys x h c → c.followers ≡ ended_followers x h (next_follower_devs x h)
unfolding early_follower ended_followers
followers_found found x h c laws =
    let p = x.params in
    let devs : List Dev = c.follower_devs in
    let ended : c.followers ≡ ended_followers x h devs =
    ended_rows_by (follower_laws x h) (follower_offset p h devs) (follower_cut p h devs) (following_nodes x h) c.followers (followed_offset x h devs) (followed_cut x h devs)
    laws.followers.clocks laws.followers.cuts in
    ended ∙ ap (ended_followers x h) (follower_devs_found found x h c laws)

-- ---- the cycle

cycle_with : Record → List NodeRow → List Dev → Cycle
cycle_with told followers devs = record { told = told; followers = followers; follower_devs = devs }

pub cycle_found : AnswersAreFound → (x : Setting) (h : Cycles) (c : Cycle) → Obeys x h c → c ≡ next_cycle x h
unfolding next_cycle cycle_with ended_followers
cycle_found found x h c laws =
    ap (λ told. cycle_with told c.followers c.follower_devs) (told_found found x h c laws.told)
    ∙ ap (λ rows. cycle_with (next_told x h) rows c.follower_devs) (followers_found found x h c laws)
    ∙ ap (cycle_with (next_told x h) (ended_followers x h (next_follower_devs x h))) (follower_devs_found found x h c laws)

-- ---- the run

pub cycles_found : AnswersAreFound → (x : Setting) (h : Cycles) → IsLawful x h → h ≡ cycles_of x (length h)
unfolding cycles_of
cycles_found found x [] lawful = refl
cycles_found found x (c ∷ h) lawful =
    ap (λ (d : Cycle). d ∷ h) (cycle_found found x h c lawful.0) ∙ ap (λ (t : Cycles). next_cycle x t ∷ t) (cycles_found found x h lawful.1)
