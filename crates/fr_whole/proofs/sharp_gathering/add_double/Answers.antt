use Rattle.std.proofs.Common.{◌≡◌, ◌∙◌, ◌+◌, ◌*◌, ℕ, Bool, true, false, not, ◌&&◌, ◌||◌, List, Option, sym, ap, ap₂, subst}
use Rattle.std.specs.Prelude.{unwrap_or}
use Rattle.fr_base.specs.declared.node_row.NodeRow.{NodeRow}
use Rattle.fr_history.specs.Next.{cycles_of}
use Rattle.fr_skew.specs.Sync.{are_in_sync_by_even}
use Rattle.fr_world.specs.World.{WorldView, setting_after}
use Rattle.fr_series.specs.Basis.{next_sharply, sharp_figures_of, sharply_followed, IsCourse}
use Rattle.fr_series.specs.Scale.{next_synced}
use Rattle.fr_series.specs.Writing.{first_sharp_at, is_double_followed, is_followed, rows_of}
use Rattle.fr_series.specs.declared.scale.Scale.{Scale}
use Rattle.fr_series.specs.declared.tally.SharpFigures.{SharpFigures}
use Rattle.fr_series.proofs.SharpWorlds.{sharp_figures-more, still_first}
use Rattle.fr_whole.proofs.sharp_gathering.add_double.Goals as goal
use Rattle.fr_whole.proofs.sharp_gathering.add_double.Goals.{then-followed, else-followed}

-- whether one of two holds, where the other is asked only if the first does not
or_first : (first second either : Bool) → either ≡ first → first ≡ true → either ≡ (first || second)
or_first true second either is so = is
or_first false second either is so = cc so

or_second : (first second either : Bool) → either ≡ second → first ≡ false → either ≡ (first || second)
or_second true second either is so = cc so
or_second false second either is so = is

-- the next cycle of a world's run
module _ (w v : WorldView) (ran : v ≡ record w { cycles = w.cycles + 1 }) where
  later_rows : rows_of v v.cycles ≡ rows_of w (w.cycles + 1)
  later_rows = ap (λ (u : WorldView). rows_of u u.cycles) ran

  later_followed : is_followed v v.cycles ≡ is_followed w (w.cycles + 1)
  later_followed = ap (λ (u : WorldView). is_followed u u.cycles) ran

-- the first double cycle in sharp sync stays the first
first_stays : (sharp : Scale) (n : ℕ) (even odd : List NodeRow) (in_sync following : Bool) (old new : SharpFigures) (was : Option ℕ) → new ≡ next_sharply sharp n even odd in_sync following old → old.synced ≡ was
    → unwrap_or was n ≡ unwrap_or new.synced n
first_stays sharp n even odd in_sync following old new was is before =
    let free : Bool = in_sync && not following in
    still_first n free was
    ∙ ap (λ (o : Option ℕ). unwrap_or (next_synced n free o) n) (sym before)
    ∙ ap (λ (f : SharpFigures). unwrap_or f.synced n) (sym is)

-- by the rows that are known
by_rows : (sharp : Scale) (n : ℕ) (even odd even_rows odd_rows : List NodeRow) (in_sync one other : Bool) (old new : SharpFigures) → in_sync ≡ are_in_sync_by_even sharp.bounds even odd
    → even ≡ even_rows → odd ≡ odd_rows → one ≡ other → new ≡ next_sharply sharp n even odd in_sync one old → new ≡ sharply_followed sharp n even_rows odd_rows other old
by_rows sharp n even odd even_rows odd_rows in_sync one other old new sync first second third is =
    is
    ∙ ap (λ (b : Bool). next_sharply sharp n even odd b one old) sync
    ∙ ap (λ (rows : List NodeRow). sharply_followed sharp n rows odd one old) first
    ∙ ap (λ (rows : List NodeRow). sharply_followed sharp n even_rows rows one old) second
    ∙ ap (λ (follow : Bool). sharply_followed sharp n even_rows odd_rows follow old) third

pub behind-requires-clause-is : goal.behind-requires-clause-is
behind-requires-clause-is c =
    let w : WorldView = c.args.world.now in
    let n : ℕ = c.args.double in
    let ran = c.add_rows-following.ensures.ran ∙ ap (λ (u : WorldView). record u { cycles = u.cycles + 1 }) c.add_rows-followed.ensures.ran in
    let first : unwrap_or (first_sharp_at w n) n ≡ unwrap_or c.followed.result.synced n =
    first_stays c.args.course.now.scale n _ _ _ _ c.args.figures.now c.followed.result (first_sharp_at w n) c.followed.ensures (ap (λ (f : SharpFigures). f.synced) c.requires.figures) in
    let P : WorldView → ℕ → Type 0 = λ v k. IsCourse v.params v.drift v.script k c.args.course.now in
    let here : P c.add_rows-following.new.world (unwrap_or c.followed.result.synced n) =
    subst (λ (v : WorldView). P v (unwrap_or c.followed.result.synced n)) (sym ran) (subst (λ (k : ℕ). P w k) first c.requires.course) in
    rw (c.params.ensures.value, c.drift.ensures.value, c.script.ensures.value) here

pub returns-clause-figures : goal.returns-clause-figures
returns-clause-figures c =
    let w : WorldView = c.args.world.now in
    let v : WorldView = c.add_rows-followed.new.world in
    let n : ℕ = c.args.double in
    let at : w ≡ record w { cycles = 2 * n } = ap (λ (k : ℕ). record w { cycles = k }) c.requires.at.at in
    let followed_is = c.add_rows-followed.ensures.following in
    let following_is = c.add_rows-following.ensures.following ∙ later_followed w v c.add_rows-followed.ensures.ran in
    let either : c.if-followed.followed ≡ (c.add_rows-followed.result || c.add_rows-following.result) =
    elim c.if-followed.branch [ then-followed b ↦ or_first _ _ _ b.followed-is b.if-followed.true | else-followed b ↦ or_second _ _ _ b.followed-is b.if-followed.false ] in
    let follow : c.if-followed.followed ≡ is_double_followed w w.cycles = either ∙ ap₂ (λ (a b : Bool). a || b) followed_is following_is in
    let told =
    by_rows c.args.course.now.scale n _ _ (rows_of w w.cycles) (rows_of w (w.cycles + 1)) _ _ (is_double_followed w w.cycles) c.args.figures.now c.followed.result
    c.are_in_sharp_sync-in_sync.ensures (c.as_slice-even.ensures.rows ∙ c.add_rows-followed.ensures.rows)
    (c.as_slice-odd.ensures.rows ∙ c.add_rows-following.ensures.rows ∙ later_rows w v c.add_rows-followed.ensures.ran) follow c.followed.ensures in
    sharp_figures-more w w n c.args.course.now.scale c.args.figures.now c.followed.result at c.requires.course.scale c.requires.figures told

pub returns-clause-course : goal.returns-clause-course
returns-clause-course c =
    let w : WorldView = c.args.world.now in
    let n : ℕ = c.args.double in
    let ran = c.add_rows-following.ensures.ran ∙ ap (λ (u : WorldView). record u { cycles = u.cycles + 1 }) c.add_rows-followed.ensures.ran in
    let figures : c.followed.result ≡ sharp_figures_of w.params w.drift w.script (cycles_of (setting_after w) (2 * (n + 1))) = returns-clause-figures c in
    let synced : c.followed.result.synced ≡ first_sharp_at w (n + 1) = ap (λ (f : SharpFigures). f.synced) figures in
    let P : WorldView → Type 0 = λ u. IsCourse u.params u.drift u.script (unwrap_or c.followed.result.synced (n + 1)) c.behind.result in
    let there : P c.add_rows-following.new.world = rw (← c.params.ensures.value, ← c.drift.ensures.value, ← c.script.ensures.value) c.behind.ensures.is in
    subst (λ (o : Option ℕ). IsCourse w.params w.drift w.script (unwrap_or o (n + 1)) c.behind.result) synced (subst P ran there)
