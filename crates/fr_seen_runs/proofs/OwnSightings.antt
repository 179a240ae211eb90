-- No frame and no term of a node contradicts a run that the log is seen of.
use Rattle.std.proofs.Common.{◌≡◌, ℕ, suc, ◌+◌, ◌*◌, ◌==◌, true, false, Option, Some, None, ℤ, pos, List, [], ◌∷◌, All, refl, ap, sym, ◌∙◌, subst, arith}
use Rattle.std.specs.Prelude.{◌≤ℤ◌, neg_ℤ, Contains, IfSome, filter_map, find, int_lt, ◌&&◌}
use Rattle.std.specs.List.{cons_option}
use Rattle.std.specs.Option.{option_and_then, option_map}
use Rattle.std.proofs.lemmas.Int.{ints}
use Rattle.std.proofs.lemmas.List.Elements.{All-contains}
use Rattle.fr_base.specs.Rows.{channel_rank}
use Rattle.fr_base.specs.Within.{IsBetween, IsWithin}
use Rattle.fr_base.specs.declared.channel.Channel.{Channel}
use Rattle.fr_base.specs.declared.channel.Channel.TheVariants.{A, B}
use Rattle.fr_cluster.specs.Setting.{Setting}
use Rattle.fr_cluster.specs.Values.{Values}
use Rattle.fr_cluster.specs.declared.nodes.NodeSpec.{NodeSpec}
use Rattle.fr_cluster.proofs.Elements.{Contains-here, Contains-there, filtered, found}
use Rattle.fr_history.specs.Cycles.{Cycles}
use Rattle.fr_history.specs.History.{row_for}
use Rattle.fr_log.specs.View.{LogView}
use Rattle.fr_course.specs.Readings.{reading_scale}
use Rattle.fr_course.specs.Course.{is_empty}
use Rattle.fr_course.specs.declared.courses.Course.{Course}
use Rattle.fr_course.specs.declared.intervals.Interval.{Interval}
use Rattle.fr_course.specs.Scales.{Scale}
use Rattle.fr_course.specs.declared.stamps.Delays.{Delays}
use Rattle.fr_course.specs.Terms.{offset_seen}
use Rattle.fr_observe.specs.Observing.{senders_of, terms_of}
use Rattle.fr_sightings.specs.Senders.{course_in, first_stamp, if_there, is_in, is_sent_in, seen_sender, seen_senders, sightings_in}
use Rattle.fr_sightings.specs.Sightings.{IsSighting, sightings_of}
use Rattle.fr_sightings.specs.declared.sender.Sender.{Sender}
use Rattle.fr_sightings.specs.declared.sighting.Sighting.{Sighting}
use Rattle.fr_seen.specs.Clocks.{StraightClock}
use Rattle.fr_seen.specs.LogSeen.{HasBoth, RowsHold, TermHolds, log_senders, run_double}
use Rattle.fr_seen.proofs.RowLaws.{observed_next_rows_hold, observed_rows_hold}
use Rattle.fr_seen.proofs.SenderLaws.{all_given, all_proper, next_run, sender_found, sent_by, some_row, there_some}
use Rattle.fr_seen.specs.Contradictions.{IsObservedRun}
use Rattle.fr_seen.specs.LogDoubles.{IsDoubleThere}
use Rattle.fr_observe.specs.Faults.{correction_fault, term_fault, twice_by, twice_fault}
use Rattle.fr_seen.proofs.SeenCourses.{course_run}
use Rattle.fr_seen_runs.proofs.OwnOffsets.{offset_within}

-- ---- lists

pub filter_none : {X Y : Type 0} (f : X → Option Y) (xs : List X) → ((x : X) → Contains xs x → f x ≡ None) → filter_map f xs ≡ []
filter_none f [] each = refl
filter_none f (x ∷ xs) each =
    ap (λ o. cons_option o (filter_map f xs)) (each x (Contains-here x xs)) ∙ filter_none f xs (λ y at. each y (Contains-there x xs y at))

-- ---- terms

-- a term that was seen of an offset within its limit
term_none : (p : Values) (cycle node : ℕ) (offset : ℤ) (term : Option Interval) → IsWithin p.offset_limit offset → IfSome term (λ i. IsBetween i.low i.high offset)
    → option_and_then (term_fault p cycle node) term ≡ None
term_none p cycle node offset None within holds = refl
term_none p cycle node offset (Some term) within holds =
    let there : is_empty term ≡ false = not_below term.low offset term.high holds.low holds.high in
    let above : int_lt p.offset_limit term.low ≡ false = not_below term.low offset p.offset_limit holds.low within.high in
    let below : int_lt term.high (neg_ℤ p.offset_limit) ≡ false = not_below (neg_ℤ p.offset_limit) offset term.high within.low holds.high in
    rw (there, above, below) refl
  where
    not_below : (a b c : ℤ) → a ≤ℤ b → b ≤ℤ c → int_lt c a ≡ false
    not_below a b c h k = grind (arith, ints)

module _ (x : Setting) (h : Cycles) (base : ℕ) (delays : ℕ → Channel → Delays) (clock : ℕ → StraightClock) (l : LogView) (run : IsObservedRun x h base delays clock l) where
  abbrev Scaled : Scale
  Scaled = reading_scale l.drift x.params

  abbrev Seen : List Sighting
  Seen = sightings_of x.params l

  -- the next double cycle is there where a sender has a course in it
  abbrev IsNextThere : ℕ → Sender → Type 0
  IsNextThere double s = IfSome s.next (λ next. IsDoubleThere h (suc (run_double base double)))

  pub next_there : (double : ℕ) → All (IsNextThere double) (log_senders x l double)
  unfolding senders_of seen_senders
  next_there double =
      all_given (seen_sender Scaled x.params l (sightings_in Seen double) (sightings_in Seen (double + 1)) double) (IsNextThere double) x.params.nodes
      (λ node among s given. of node among s given)
    where
      of : (node : NodeSpec) → Contains x.params.nodes node → (s : Sender)
          → seen_sender Scaled x.params l (sightings_in Seen double) (sightings_in Seen (double + 1)) double node ≡ Some s → IsNextThere double s
      of node among s given =
          let by = sender_found x h base delays clock l run.timed.sane run.log run.seen double node s given in
          subst (IsNextThere double) by.sender_is
          (next_by node by.slot among by.keyed (if_there (course_in Scaled x.params l (sightings_in Seen (double + 1)) (double + 1) node.id by.slot)) refl)
        where
          next_by : (node : NodeSpec) (slot : ℕ) → Contains x.params.nodes node → node.key ≡ Some slot → (o : Option Course)
              → if_there (course_in Scaled x.params l (sightings_in Seen (double + 1)) (double + 1) node.id slot) ≡ o
              → IfSome o (λ next. IsDoubleThere h (suc (run_double base double)))
          next_by node slot among keyed None is = tt
          next_by node slot among keyed (Some next) is =
              let given = there_some x h base delays clock l run.timed.sane run.log run.seen (course_in Scaled x.params l (sightings_in Seen (double + 1)) (double + 1) node.id slot) next is in
              subst (IsDoubleThere h) (sym (next_run x h base delays clock l run.timed.sane run.log run.seen double))
              (course_run x h base delays clock l run node slot (double + 1) next among keyed given).double

  -- so is that of a sender itself
  pub here_there : (double : ℕ) → All (λ (s : Sender). IsDoubleThere h (run_double base double)) (log_senders x l double)
  unfolding senders_of seen_senders
  here_there double =
      all_given (seen_sender Scaled x.params l (sightings_in Seen double) (sightings_in Seen (double + 1)) double) (λ (s : Sender). IsDoubleThere h (run_double base double)) x.params.nodes
      (λ node among s given.
      let by = sender_found x h base delays clock l run.timed.sane run.log run.seen double node s given in
      (course_run x h base delays clock l run node by.slot double by.course among by.keyed by.course_is).double)

  -- no term of a sender is beyond its limit
  correction_none : (double : ℕ) (s : Sender) → IsDoubleThere h (run_double base double) → Contains (log_senders x l double) s
      → correction_fault x.params Scaled double s ≡ None
  unfolding terms_of
  correction_none double s there among =
      by s.next (All-contains (IsNextThere double) (log_senders x l double) s (next_there double) among) refl
    where
      rows : RowsHold x l.drift (clock (run_double base double)) there.even there.odd (log_senders x l double)
      rows = observed_rows_hold x h base delays clock l double there.even there.odd run.timed run.log run.seen there.has

      offset_of : IsWithin x.params.offset_limit (row_for there.odd.told.rows s.node).offset
      offset_of =
          let both = All-contains (λ (o : Sender). HasBoth there.even there.odd o.node) (log_senders x l double) s rows.rows among in
          offset_within x h (run_double base double) s.node there.even there.odd (row_for there.odd.told.rows s.node) run.timed there.has (some_row there.odd.told.rows s.node both.in_odd)

      by : (next : Option Course) → IfSome next (λ next. IsDoubleThere h (suc (run_double base double))) → s.next ≡ next
          → option_and_then (term_fault x.params (2 * double + 1) s.node) (option_map (λ next. offset_seen Scaled s.course next s.onward) next) ≡ None
      by None later is = refl
      by (Some next) later is =
          let holds = (observed_next_rows_hold x h base delays clock l double there.even there.odd later.even later.odd run.timed run.log run.seen there.has later.has).terms in
          let term : TermHolds x l.drift there.odd s = All-contains (TermHolds x l.drift there.odd) (log_senders x l double) s holds among in
          let Told : Option Course → Type 0 = λ o. IfSome (option_map (λ next. offset_seen Scaled s.course next s.onward) o)
          (λ term. IsBetween term.low term.high (row_for there.odd.told.rows s.node).offset) in
          term_none x.params (2 * double + 1) s.node (row_for there.odd.told.rows s.node).offset (Some (offset_seen Scaled s.course next s.onward)) offset_of
          (subst Told is term)

  pub corrections_none : (double : ℕ) → IsDoubleThere h (run_double base double) → filter_map (correction_fault x.params Scaled double) (log_senders x l double) ≡ []
  corrections_none double there = filter_none (correction_fault x.params Scaled double) (log_senders x l double) (λ s among. correction_none double s there among)

  -- ---- frames

  -- of two frames of a node on a channel in a cycle the stamp is the same
  same_stamp : (s other : Sighting) → Contains Seen s → Contains Seen other → is_sent_in s.node s.channel s.number other ≡ true → other.stamp ≡ s.stamp
  same_stamp s other there also passes =
      let sane = run.timed.sane in
      let proper = All-contains (IsSighting x.params l) Seen s (all_proper x h base delays clock l sane run.log run.seen) there in
      let f = sent_by x h base delays clock l sane run.log run.seen s.node s.slot s.number (s.number + base) s.channel s proper.own refl there (itself s.node s.number s.channel) in
      let g = sent_by x h base delays clock l sane run.log run.seen s.node s.slot s.number (s.number + base) s.channel other proper.own refl also passes in
      let same =
      run.seen.seen.once f.sent g.sent f.sent_so.there g.sent_so.there (g.sent_so.in_cycle ∙ sym f.sent_so.in_cycle) (g.sent_so.in_slot ∙ sym f.sent_so.in_slot) (g.channel ∙ sym f.channel) in
      equal other.stamp s.stamp (sym g.stamp_is ∙ ap (λ frame. frame.stamp) same ∙ f.stamp_is)
    where
      equal : (a b : ℕ) → pos a ≡ pos b → a ≡ b
      equal a b is = cc is

      equals : (a : ℕ) → (a == a) ≡ true
      equals a = grind arith

      ranks : (ch : Channel) → (channel_rank ch == channel_rank ch) ≡ true
      ranks A = refl
      ranks B = refl

      itself : (node number : ℕ) (ch : Channel) → ((node == node) && (channel_rank ch == channel_rank ch) && (number == number)) ≡ true
      itself node number ch = rw (equals node, ranks ch, equals number) refl

  twice_none : (double : ℕ) (s : Sighting) → Contains (sightings_in Seen double) s → twice_fault (sightings_in Seen double) s ≡ None
  unfolding first_stamp
  twice_none double s among = by (find (is_sent_in s.node s.channel s.number) (sightings_in Seen double)) refl
    where
      equals : (a b : ℕ) → a ≡ b → (a == b) ≡ true
      equals a b is = grind arith

      by : (o : Option Sighting) → find (is_sent_in s.node s.channel s.number) (sightings_in Seen double) ≡ o → twice_by s (option_map (λ (t : Sighting). t.stamp) o) ≡ None
      by None is = refl
      by (Some other) is =
          let here = found (is_sent_in s.node s.channel s.number) (sightings_in Seen double) other is in
          let same = same_stamp s other (filtered (is_in double) Seen s among).0 (filtered (is_in double) Seen other here.1).0 here.0 in
          let equal : (other.stamp == s.stamp) ≡ true = equals other.stamp s.stamp same in
          rw equal refl

  pub twices_none : (double : ℕ) → filter_map (twice_fault (sightings_in Seen double)) (sightings_in Seen double) ≡ []
  twices_none double = filter_none (twice_fault (sightings_in Seen double)) (sightings_in Seen double) (twice_none double)
