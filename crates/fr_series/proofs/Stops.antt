-- What is run of a world, and what was put before, where a put of its series fails.
use Rattle.std.proofs.Common.{◌≡◌, ◌∙◌, ℕ, suc, ◌*◌, ◌<◌, ◌≤◌, List, [], ◌++◌, Result, Ok, Err, refl, ap, sym, append_assoc, append-nil, arith}
use Rattle.std.specs.Result.{IsErr}
use Rattle.fr_base.specs.Device.{Puts, Sunk}
use Rattle.fr_base.specs.declared.sink.PutFault.{PutFault}
use Rattle.fr_base.proofs.Putting.{cut, then, puts_none}
use Rattle.fr_drift.specs.Questions.{doubles_of}
use Rattle.fr_text.specs.Pieces.{line}
use Rattle.fr_world.specs.World.{WorldView, setting_after}
use Rattle.fr_history.specs.Next.{cycles_of}
use Rattle.fr_series.specs.Figures.{figures_of}
use Rattle.fr_series.specs.SeriesText.{series_end, series_head, series_of, series_text}
use Rattle.fr_series.specs.Stopping.{RowsEnd, StopsInRows, WritingEnds, rows_before}

-- a put failed in the lines of a double cycle
pub stops_rows : {fault : PutFault} (rows : ℕ → List ℕ) (result : Result (Unit {0}) PutFault) (w after : WorldView) (before whole now : Sunk) (last : ℕ) (text rest : List ℕ) → IsErr result
    → last < doubles_of w.drift → after ≡ record w { cycles = 2 * suc last } → rows (doubles_of w.drift) ≡ (rows last ++ text) ++ rest → Puts (Ok tt) before whole (rows last)
    → Puts (Err fault) whole now text → RowsEnd rows result w after before now
stops_rows rows (Ok done) w after before whole now last text rest is inside ran parted earlier failed = absurd (cc is)
stops_rows rows (Err why) w after before whole now last text rest is inside ran parted earlier failed = record {
  last = last;
  inside = inside;
  ran = ran;
  whole = whole;
  left = text ++ rest;
  parted = parted ∙ append_assoc (rows last) text rest;
  earlier = earlier;
  failed = cut (Err why) rest failed is;
}

-- ---- a text by its head, the lines of the double cycles before one, and its end

module _ (head : List ℕ) (rows : ℕ → List ℕ) (text : List ℕ) (w : WorldView) where
  -- the put of the head failed
  pub stops_at_head : (result : Result (Unit {0}) PutFault) (before now : Sunk) → IsErr result → w.cycles ≡ 0 → Puts result before now text → WritingEnds head rows text result w w before now
  stops_at_head (Ok done) before now is fresh failed = absurd (cc is)
  stops_at_head (Err why) before now is fresh failed = record {
    doubles = 0;
    few = omega arith;
    ran = ap (λ (n : ℕ). record w { cycles = n }) fresh;
    whole = before;
    put = [];
    left = text;
    parted = refl;
    begins = λ last e. absurd (omega (arith, e));
    earlier = puts_none before;
    failed = failed;
  }

  -- one in the lines of the cycles failed, behind the head
  pub stops_in_rows : {fault : PutFault} (result : Result (Unit {0}) PutFault) (ending : List ℕ) (after : WorldView) (before middle now : Sunk) → IsErr result
      → text ≡ (head ++ rows (doubles_of w.drift)) ++ ending → Puts (Ok tt) before middle head → StopsInRows rows fault w after middle now → WritingEnds head rows text result w after before now
  stops_in_rows (Ok done) ending after before middle now is parts first stops = absurd (cc is)
  stops_in_rows (Err why) ending after before middle now is parts first stops = record {
    doubles = suc stops.last;
    few = let inside = stops.inside in omega (arith, inside);
    ran = stops.ran;
    whole = stops.whole;
    put = head ++ rows stops.last;
    left = stops.left ++ ending;
    parted =
        parts
        ∙ ap (λ (l : List ℕ). (head ++ l) ++ ending) stops.parted
        ∙ ap (λ (l : List ℕ). l ++ ending) (sym (append_assoc head (rows stops.last) stops.left))
        ∙ append_assoc (head ++ rows stops.last) stops.left ending;
    begins = λ last e.
        let same : stops.last ≡ last = omega (arith, e) in
        ([], ap (λ (n : ℕ). head ++ rows n) same ∙ sym (append-nil (head ++ rows last)));
    earlier = then (Ok tt) first stops.earlier;
    failed = cut (Err why) ending stops.failed is;
  }

  -- all cycles are run, and one of the last lines fails, or none
  pub ends_with : (result : Result (Unit {0}) PutFault) (ending : List ℕ) (after : WorldView) (before middle whole now : Sunk) → text ≡ (head ++ rows (doubles_of w.drift)) ++ ending
      → ((last : ℕ) → last ≤ doubles_of w.drift → (more : List ℕ) × (rows (doubles_of w.drift) ≡ rows last ++ more)) → after ≡ record w { cycles = 2 * doubles_of w.drift }
      → Puts (Ok tt) before middle head → Puts (Ok tt) middle whole (rows (doubles_of w.drift)) → Puts result whole now ending → WritingEnds head rows text result w after before now
  ends_with (Ok done) ending after before middle whole now parts upto ran first lines ends = ran
  ends_with (Err why) ending after before middle whole now parts upto ran first lines ends = record {
    doubles = doubles_of w.drift;
    few = omega arith;
    ran = ran;
    whole = whole;
    put = head ++ rows (doubles_of w.drift);
    left = ending;
    parted = parts;
    begins = λ last e.
        let more = upto last (omega (arith, e)) in
        (more.0, ap (λ (l : List ℕ). head ++ l) more.1 ∙ sym (append_assoc head (rows last) more.0));
    earlier = then (Ok tt) first lines;
    failed = ends;
  }

-- the text of a world's series, by its three parts
abbrev pub end_of : WorldView → List ℕ
end_of w = series_end (figures_of w.params (cycles_of (setting_after w) (2 * doubles_of w.drift)))

pub series-parts : (w : WorldView) → series_text w.params w.drift w.script ≡ (line series_head ++ rows_before w (doubles_of w.drift)) ++ end_of w
unfolding series_of
series-parts w = refl
