use Rattle.std.proofs.Common.{◌≡◌, ◌∙◌, ◌+◌, ◌*◌, ℕ, Bool, true, false, not, ◌&&◌, ◌||◌, List, Option, All, refl, sym, ap, ap₂, subst}
use Rattle.std.specs.Prelude.{unwrap_or}
use Rattle.fr_base.specs.Device.{Puts}
use Rattle.fr_base.specs.declared.node_row.NodeRow.{NodeRow}
use Rattle.fr_skew.specs.Sync.{are_in_sync_by_even}
use Rattle.fr_time.specs.Placed.{IsPlacedRow}
use Rattle.fr_time.specs.Position.{grid_for}
use Rattle.fr_time.specs.declared.grid.Grid.{Grid}
use Rattle.fr_world.specs.World.{WorldView}
use Rattle.fr_series.specs.Basis.{tallied, IsCourse}
use Rattle.fr_series.specs.Scale.{next_synced}
use Rattle.fr_series.specs.SharpLosses.{from_of, kept_by, IsHeldSince}
use Rattle.fr_series.specs.Writing.{first_sharp_at, is_double_followed, is_followed, rows_of, sharp_double_at, sharp_text_of_double}
use Rattle.fr_series.specs.declared.kept.Kept.{Kept}
use Rattle.fr_series.specs.declared.scale.Scale.{Scale}
use Rattle.fr_series.specs.declared.tally.Tally.{Tally}
use Rattle.fr_series.proofs.SharpWorlds.{sharp_text_is, still_first, tally-more}
use Rattle.fr_series.proofs.sharp_writing.write_sharp_double.Goals as goal
use Rattle.fr_series.proofs.sharp_writing.write_sharp_double.Goals.{then-followed, else-followed}

-- whether one of two holds, where the other is asked only if the first does not
or_first : (first second either : Bool) → either ≡ first → first ≡ true → either ≡ (first || second)
or_first first second either is so = rw (is, so) refl

or_second : (first second either : Bool) → either ≡ second → first ≡ false → either ≡ (first || second)
or_second first second either is so = rw so is

-- the rows of a double cycle of a world's run, and whether a node follows in it
module _ (w v : WorldView) (ran : v ≡ record w { cycles = w.cycles + 1 }) where
  same_params : v.params ≡ w.params
  same_params = ap (λ (u : WorldView). u.params) ran

  later_rows : rows_of v v.cycles ≡ rows_of w (w.cycles + 1)
  later_rows = ap (λ (u : WorldView). rows_of u u.cycles) ran

  later_followed : is_followed v v.cycles ≡ is_followed w (w.cycles + 1)
  later_followed = ap (λ (u : WorldView). is_followed u u.cycles) ran

-- the first double cycle in sharp sync stays the first
first_stays : (older sharp : Scale) (n : ℕ) (even odd : List NodeRow) (following : Bool) (old new : Tally) (was : Option ℕ) → new ≡ tallied older sharp n even odd following old → old.sharp.synced ≡ was
    → unwrap_or was n ≡ unwrap_or new.sharp.synced n
first_stays older sharp n even odd following old new was is before =
    let free : Bool = are_in_sync_by_even sharp.bounds even odd && not following in
    still_first n free was
    ∙ ap (λ (o : Option ℕ). unwrap_or (next_synced n free o) n) (sym before)
    ∙ ap (λ (t : Tally). unwrap_or t.sharp.synced n) (sym is)

-- by the rows that are known
by_rows : (older sharp : Scale) (n : ℕ) (even odd even_rows odd_rows : List NodeRow) (one other : Bool) (old new : Tally) → even ≡ even_rows → odd ≡ odd_rows → one ≡ other
    → new ≡ tallied older sharp n even odd one old → new ≡ tallied older sharp n even_rows odd_rows other old
by_rows older sharp n even odd even_rows odd_rows one other old new first second third is =
    is
    ∙ ap (λ (rows : List NodeRow). tallied older sharp n rows odd one old) first
    ∙ ap (λ (rows : List NodeRow). tallied older sharp n even_rows rows one old) second
    ∙ ap (λ (follow : Bool). tallied older sharp n even_rows odd_rows follow old) third

pub behind-requires-clause-is : goal.behind-requires-clause-is
behind-requires-clause-is g c =
    let w : WorldView = c.args.world.now in
    let n : ℕ = c.args.double in
    let ran = c.next_rows-following.ensures.ran ∙ ap (λ (u : WorldView). record u { cycles = u.cycles + 1 }) c.next_rows-followed.ensures.ran in
    let first : unwrap_or (first_sharp_at w n) n ≡ unwrap_or c.followed.result.sharp.synced n =
    first_stays c.args.known.now.older c.args.known.now.course.scale n _ _ _ c.args.tally.now c.followed.result (first_sharp_at w n) c.followed.ensures (ap (λ (t : Tally). t.sharp.synced) c.requires.known.figures) in
    let P : WorldView → ℕ → Type 0 = λ v k. IsCourse v.params v.drift v.script k c.args.known.now.course in
    let here : P c.next_rows-following.new.world (unwrap_or c.followed.result.sharp.synced n) =
    subst (λ (v : WorldView). P v (unwrap_or c.followed.result.sharp.synced n)) (sym ran) (subst (λ (k : ℕ). P w k) first c.requires.known.course) in
    rw (c.params.ensures.value, c.drift.ensures.value, c.script.ensures.value) here

pub put_sharp_double-requires-clause-even : goal.put_sharp_double-requires-clause-even
put_sharp_double-requires-clause-even g c =
    let w : WorldView = c.args.world.now in
    let grid : c.args.known.now.older.grid ≡ grid_for w.params = ap (λ (s : Scale). s.grid) c.requires.known.older in
    let placed : All (IsPlacedRow (grid_for w.params)) c.as_slice-even.result.now =
    subst (λ (rows : List NodeRow). All (IsPlacedRow (grid_for w.params)) rows) (sym c.as_slice-even.ensures.rows) c.next_rows-followed.ensures.placed in
    subst (λ (x : Grid). All (IsPlacedRow x) c.as_slice-even.result.now) (sym grid) placed

pub put_sharp_double-requires-clause-odd : goal.put_sharp_double-requires-clause-odd
put_sharp_double-requires-clause-odd g c =
    let w : WorldView = c.args.world.now in
    let v : WorldView = c.next_rows-followed.new.world in
    let grid : c.args.known.now.older.grid ≡ grid_for v.params = ap (λ (s : Scale). s.grid) c.requires.known.older ∙ ap grid_for (sym (same_params w v c.next_rows-followed.ensures.ran)) in
    let placed : All (IsPlacedRow (grid_for v.params)) c.as_slice-odd.result.now =
    subst (λ (rows : List NodeRow). All (IsPlacedRow (grid_for v.params)) rows) (sym c.as_slice-odd.ensures.rows) c.next_rows-following.ensures.placed in
    subst (λ (x : Grid). All (IsPlacedRow x) c.as_slice-odd.result.now) (sym grid) placed

pub returns-clause-known : goal.returns-clause-known
returns-clause-known g c =
    let w : WorldView = c.args.world.now in
    let v : WorldView = c.next_rows-followed.new.world in
    let n : ℕ = c.args.double in
    let followed_is = c.next_rows-followed.ensures.following in
    let following_is = c.next_rows-following.ensures.following ∙ later_followed w v c.next_rows-followed.ensures.ran in
    let ran = c.next_rows-following.ensures.ran ∙ ap (λ (u : WorldView). record u { cycles = u.cycles + 1 }) c.next_rows-followed.ensures.ran in
    let either : c.if-followed.followed ≡ (c.next_rows-followed.result || c.next_rows-following.result) =
    elim c.if-followed.branch [ then-followed b ↦ or_first _ _ _ b.followed-is b.if-followed.true | else-followed b ↦ or_second _ _ _ b.followed-is b.if-followed.false ] in
    let follow : c.if-followed.followed ≡ is_double_followed w w.cycles = either ∙ ap₂ (λ (a b : Bool). a || b) followed_is following_is in
    let told =
    by_rows c.args.known.now.older c.args.known.now.course.scale n _ _ (rows_of w w.cycles) (rows_of w (w.cycles + 1)) _ (is_double_followed w w.cycles) c.args.tally.now c.followed.result
    (c.as_slice-even.ensures.rows ∙ c.next_rows-followed.ensures.rows)
    (c.as_slice-odd.ensures.rows ∙ c.next_rows-following.ensures.rows ∙ later_rows w v c.next_rows-followed.ensures.ran) follow c.followed.ensures in
    let figures =
    tally-more w n c.args.known.now.older c.args.known.now.course.scale c.args.tally.now c.followed.result c.requires.at.at c.requires.known.older
    c.requires.known.course.scale c.requires.known.figures told in
    let synced : c.followed.result.sharp.synced ≡ first_sharp_at w (n + 1) = ap (λ (t : Tally). t.sharp.synced) figures in
    let P : WorldView → Type 0 = λ u. IsCourse u.params u.drift u.script (unwrap_or c.followed.result.sharp.synced (n + 1)) c.behind.result in
    let there : P c.next_rows-following.new.world = rw (← c.params.ensures.value, ← c.drift.ensures.value, ← c.script.ensures.value) c.behind.ensures.is in
    record {
      older = c.requires.known.older;
      proper = c.requires.known.proper;
      sharp = c.behind.ensures.proper;
      course = subst (λ (o : Option ℕ). IsCourse w.params w.drift w.script (unwrap_or o (n + 1)) c.behind.result) synced (subst P ran there);
      begun = c.begun-basis.ensures.same ∙ synced;
      held = subst (λ (u : WorldView). IsHeldSince u.params u.drift u.script (n + 1) c.begun-basis.result c.next_kept-kept.new.spread) ran c.next_kept-kept.ensures.held;
      figures = figures;
    }

pub returns-clause-text : goal.returns-clause-text
returns-clause-text g c =
    let w : WorldView = c.args.world.now in
    let v : WorldView = c.next_rows-followed.new.world in
    let n : ℕ = c.args.double in
    let known = returns-clause-known g c in
    let older : Scale = c.args.known.now.older in
    let sharp : Scale = c.args.known.now.course.scale in
    let kept : Kept = c.next_kept-kept.result in
    let ran = c.next_rows-following.ensures.ran ∙ ap (λ (u : WorldView). record u { cycles = u.cycles + 1 }) c.next_rows-followed.ensures.ran in
    let kept_is : kept ≡ kept_by w.params w.drift w.script (first_sharp_at w (n + 1)) n =
    c.next_kept-kept.ensures.kept
    ∙ ap (λ (u : WorldView). kept_by u.params u.drift u.script (from_of c.begun-basis.result) n) ran
    ∙ ap (λ (o : Option ℕ). kept_by w.params w.drift w.script o n) known.begun in
    let even = c.as_slice-even.ensures.rows ∙ c.next_rows-followed.ensures.rows in
    let odd = c.as_slice-odd.ensures.rows ∙ c.next_rows-following.ensures.rows ∙ later_rows w v c.next_rows-followed.ensures.ran in
    let P : List ℕ → Type 0 = λ l. Puts c.put_sharp_double.result (g.O.Sink.state c.args.out.now) (g.O.Sink.state c.put_sharp_double.new.out) l in
    subst P
    (ap₂ (λ (one other : List NodeRow). sharp_text_of_double older sharp kept n one other) even odd
    ∙ sharp_text_is w n older sharp kept c.requires.at.at c.requires.known.older c.requires.known.course.scale kept_is) c.put_sharp_double.ensures.text
