-- What the rows of the text of a log say of the nodes of a run that it is seen of.
use Rattle.std.proofs.Common.{◌≡◌, ℕ, Option, Some, None, ℤ, List, [], ◌∷◌, All, map, refl, ap, ◌∙◌, subst}
use Rattle.std.specs.Prelude.{IfSome, false, true}
use Rattle.std.specs.Option.{option_map}
use Rattle.std.proofs.lemmas.List.Elements.{All-cons, All-head, All-map, All-nil, All-tail, All-weaker}
use Rattle.fr_base.specs.Within.{IsBetween}
use Rattle.fr_cluster.specs.Sane.{IsSane}
use Rattle.fr_cluster.specs.Setting.{Setting}
use Rattle.fr_history.specs.Cycles.{Cycle}
use Rattle.fr_history.specs.History.{row_for}
use Rattle.fr_course.specs.Readings.{reading_scale}
use Rattle.fr_course.specs.Spread.{least_even_skew, least_odd_skew, most_even_skew, most_odd_skew}
use Rattle.fr_course.specs.Terms.{offset_seen}
use Rattle.fr_course.specs.declared.courses.Course.{Course}
use Rattle.fr_course.specs.Scales.{Scale}
use Rattle.fr_observe.specs.Observing.{all_there, courses_of, even_high, even_low, next_courses, odd_high, odd_low, terms_of, with_senders}
use Rattle.fr_sightings.specs.declared.sender.Sender.{Sender}
use Rattle.fr_seen.specs.Clocks.{IsWithinDrift, StraightClock}
use Rattle.fr_seen.specs.Skews.{HasSkew, IsOnCourse, IsOnCourses, SeenNode, SeenTwice, StaysWithin}
use Rattle.fr_seen.specs.LogSeen.{CycleRowsHold, GoesOnBy, HasBoth, IsSenderOn, NodeRowHolds, ObservedNextRowsHold, ObservedRowsHold, OddRowHolds, SenderGoesOn, TermHolds, log_senders, run_double, seen_in, seen_twice, sender_rows}
use Rattle.fr_seen.proofs.SkewLaws.{even_skew_is_seen, odd_skew_is_reached}
use Rattle.fr_seen.proofs.OddLaws.{odd_skew_is_kept}
use Rattle.fr_seen.proofs.TermLaws.{offsets_are_seen}
use Rattle.fr_seen.proofs.SenderLaws.{mapped_some, senders_are_on_course, senders_go_on}

map_twice : {X Y Z : Type 0} (f : Y → Z) (g : X → Y) (xs : List X) → map f (map g xs) ≡ map (λ x. f (g x)) xs
map_twice f g [] = refl
map_twice f g (x ∷ xs) = ap (λ zs. f (g x) ∷ zs) (map_twice f g xs)

-- a limit that some senders have
with_limit : (senders : List Sender) (limit : Option ℤ) (P : ℤ → Type 0) → IfSome limit P → IfSome (with_senders senders limit) P
with_limit [] limit P is = tt
with_limit (s ∷ senders) limit P is = is

module _ (x : Setting) (drift : ℕ) (clock : StraightClock) (even odd : Cycle) (sane : IsSane x.params) (within : IsWithinDrift drift clock) where
  abbrev Scaled : Scale
  Scaled = reading_scale drift x.params

  -- ---- a double cycle

  module _ (senders : List Sender) (are : All (IsSenderOn x drift clock even odd) senders) where
    abbrev Nodes : List SeenNode
    Nodes = map (seen_in even odd) senders

    on_course : All (IsOnCourse x.params drift clock) (map (seen_in even odd) senders)
    on_course =
        All-map (IsOnCourse x.params drift clock) (seen_in even odd) senders
        (All-weaker (IsSenderOn x drift clock even odd) (λ (s : Sender). IsOnCourse x.params drift clock (seen_in even odd s)) (λ s is. is.on) senders are)

    even_rows : map (λ (node : SeenNode). node.even) (map (seen_in even odd) senders) ≡ sender_rows even senders
    even_rows = map_twice (λ (node : SeenNode). node.even) (seen_in even odd) senders

    odd_rows : map (λ (node : SeenNode). node.odd) (map (seen_in even odd) senders) ≡ sender_rows odd senders
    odd_rows = map_twice (λ (node : SeenNode). node.odd) (seen_in even odd) senders

    the_courses : map (λ (node : SeenNode). node.course) (map (seen_in even odd) senders) ≡ courses_of senders
    the_courses = map_twice (λ (node : SeenNode). node.course) (seen_in even odd) senders

    even_from : HasSkew x.params false (sender_rows even senders) (least_even_skew Scaled (courses_of senders))
    even_from =
        subst (λ rows. HasSkew x.params false rows (least_even_skew Scaled (courses_of senders))) even_rows
        (
        subst (λ courses. HasSkew x.params false (map (λ (node : SeenNode). node.even) Nodes) (least_even_skew Scaled courses)) the_courses
        (even_skew_is_seen x.params drift clock Nodes sane within on_course).0
        )

    even_to : StaysWithin x.params false (sender_rows even senders) (most_even_skew Scaled (courses_of senders))
    even_to =
        subst (λ rows. StaysWithin x.params false rows (most_even_skew Scaled (courses_of senders))) even_rows
        (
        subst (λ courses. StaysWithin x.params false (map (λ (node : SeenNode). node.even) Nodes) (most_even_skew Scaled courses)) the_courses
        (even_skew_is_seen x.params drift clock Nodes sane within on_course).1
        )

    odd_from : HasSkew x.params true (sender_rows odd senders) (least_odd_skew Scaled (courses_of senders))
    odd_from =
        subst (λ rows. HasSkew x.params true rows (least_odd_skew Scaled (courses_of senders))) odd_rows
        (
        subst (λ courses. HasSkew x.params true (map (λ (node : SeenNode). node.odd) Nodes) (least_odd_skew Scaled courses)) the_courses
        (odd_skew_is_reached x.params drift clock Nodes sane within on_course)
        )

    cycle_rows_hold : CycleRowsHold x drift even odd senders
    unfolding even_low even_high odd_low
    cycle_rows_hold =
        record {
          even_from = even_from;
          even_to = with_limit senders (Some (most_even_skew Scaled (courses_of senders))) (StaysWithin x.params false (sender_rows even senders)) even_to;
          odd_from = odd_from;
        }

    node_rows_hold : All (NodeRowHolds x clock even odd) senders
    node_rows_hold =
        All-weaker (IsSenderOn x drift clock even odd) (NodeRowHolds x clock even odd)
        (λ s is. record { even_lasts = is.on.holds.even_lasts; odd_lasts = is.on.holds.odd_lasts }) senders are

    have_both : All (λ (s : Sender). HasBoth even odd s.node) senders
    have_both = All-weaker (IsSenderOn x drift clock even odd) (λ (s : Sender). HasBoth even odd s.node) (λ s is. is.rows) senders are

  -- ---- by the next one

  module _ (next_even next_odd : Cycle) where
    record AreTwice (senders : List Sender) (nexts : List Course) : Type 0 where
      nodes : List SeenTwice
      on : All (IsOnCourses x.params drift clock) nodes
      rows : map (λ (node : SeenTwice). node.first.odd) nodes ≡ sender_rows odd senders
      courses : map (λ (node : SeenTwice). node.first.course) nodes ≡ courses_of senders
      next_are : map (λ (node : SeenTwice). node.second.course) nodes ≡ nexts

    are_twice : (senders : List Sender) → All (SenderGoesOn x drift clock even odd next_even next_odd) senders → (nexts : List Course)
        → all_there (map (λ (s : Sender). s.next) senders) ≡ Some nexts → AreTwice senders nexts
    are_twice [] all nexts is = record { nodes = []; on = All-nil (IsOnCourses x.params drift clock); rows = refl; courses = refl; next_are = same nexts is }
      where
        same : (nexts : List Course) → Some [] ≡ Some nexts → [] ≡ nexts
        same nexts is = cc is
    are_twice (s ∷ senders) all nexts is =
        by s.next (All-head (SenderGoesOn x drift clock even odd next_even next_odd) s senders all)
        (are_twice senders (All-tail (SenderGoesOn x drift clock even odd next_even next_odd) s senders all)) is
      where
        by : (o : Option Course) → IfSome o (GoesOnBy x drift clock even odd next_even next_odd s)
            → ((rest : List Course) → all_there (map (λ (s : Sender). s.next) senders) ≡ Some rest → AreTwice senders rest)
            → all_there (o ∷ map (λ (s : Sender). s.next) senders) ≡ Some nexts → AreTwice (s ∷ senders) nexts
        by None goes more is = absurd (cc is)
        by (Some next) goes more is =
            let some = mapped_some (λ (rest : List Course). next ∷ rest) (all_there (map (λ (s : Sender). s.next) senders)) nexts is in
            let others = more some.0 some.1.0 in
            let node : SeenTwice = seen_twice even odd next_even next_odd s next in
            record {
              nodes = node ∷ others.nodes;
              on = All-cons (IsOnCourses x.params drift clock) node others.nodes goes.goes.on others.on;
              rows = ap (λ rows. row_for odd.told.rows s.node ∷ rows) others.rows;
              courses = ap (λ courses. s.course ∷ courses) others.courses;
              next_are = ap (λ courses. next ∷ courses) others.next_are ∙ some.1.1;
            }

    odd_row_holds : (senders : List Sender) → All (SenderGoesOn x drift clock even odd next_even next_odd) senders → OddRowHolds x drift odd senders
    unfolding odd_high
    odd_row_holds senders all =
        with_limit senders (option_map (most_odd_skew Scaled (courses_of senders)) (next_courses senders)) (StaysWithin x.params true (sender_rows odd senders))
        (by (next_courses senders) refl)
      where
        by : (o : Option (List Course)) → next_courses senders ≡ o
            → IfSome (option_map (most_odd_skew Scaled (courses_of senders)) o) (StaysWithin x.params true (sender_rows odd senders))
        by None is = tt
        by (Some nexts) is =
            let two = are_twice senders all nexts is in
            let kept = odd_skew_is_kept x.params drift clock two.nodes sane within two.on in
            let firsts = map (λ (node : SeenTwice). node.first.course) two.nodes in
            let seconds = map (λ (node : SeenTwice). node.second.course) two.nodes in
            let rows = map (λ (node : SeenTwice). node.first.odd) two.nodes in
            subst (λ rs. StaysWithin x.params true rs (most_odd_skew Scaled (courses_of senders) nexts)) two.rows
            (
            subst (λ cs. StaysWithin x.params true rows (most_odd_skew Scaled cs nexts)) two.courses
            (subst (λ cs. StaysWithin x.params true rows (most_odd_skew Scaled firsts cs)) two.next_are kept)
            )

    term_holds : (s : Sender) → SenderGoesOn x drift clock even odd next_even next_odd s → TermHolds x drift odd s
    unfolding terms_of
    term_holds s goes = by s.next goes
      where
        by : (o : Option Course) → IfSome o (GoesOnBy x drift clock even odd next_even next_odd s)
            → IfSome (option_map (λ next. offset_seen Scaled s.course next s.onward) o) (λ term. IsBetween term.low term.high (row_for odd.told.rows s.node).offset)
        by None goes = tt
        by (Some next) goes = offsets_are_seen x.params drift clock (seen_twice even odd next_even next_odd s next) s.onward goes.goes

    terms_hold : (senders : List Sender) → All (SenderGoesOn x drift clock even odd next_even next_odd) senders → All (TermHolds x drift odd) senders
    terms_hold senders all = All-weaker (SenderGoesOn x drift clock even odd next_even next_odd) (TermHolds x drift odd) term_holds senders all

pub observed_rows_hold : ObservedRowsHold
observed_rows_hold x h base delays clock l double even odd run is_log is has =
    let c = clock (run_double base double) in
    let senders = log_senders x l double in
    let within = is.seen.within_drift (run_double base double) in
    let are = senders_are_on_course x h base delays clock l double even odd run is_log is has in
    record {
      rows = have_both x l.drift c even odd run.sane within senders are;
      cycles = cycle_rows_hold x l.drift c even odd run.sane within senders are;
      nodes = node_rows_hold x l.drift c even odd run.sane within senders are;
    }

pub observed_next_rows_hold : ObservedNextRowsHold
observed_next_rows_hold x h base delays clock l double even odd next_even next_odd run is_log is has next_has =
    let c = clock (run_double base double) in
    let senders = log_senders x l double in
    let within = is.seen.within_drift (run_double base double) in
    let all = senders_go_on x h base delays clock l double even odd next_even next_odd run is_log is has next_has in
    record {
      cycle = odd_row_holds x l.drift c even odd run.sane within next_even next_odd senders all;
      terms = terms_hold x l.drift c even odd run.sane within next_even next_odd senders all;
    }
