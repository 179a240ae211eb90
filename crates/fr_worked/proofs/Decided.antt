-- What the files of the runs answer at each argument.
use Rattle.std.proofs.Common.{◌≡◌, ℕ, ℤ, zero, suc, pos, ◌==◌, Bool, true, false, ◌&&◌, ◌||◌, List, [], ◌∷◌, ◌++◌, Option, Some, None, ap, sym, ◌∙◌, refl, arith, nat_lt}
use Rattle.std.specs.Prelude.{cond, replicate, slice_index_or, unwrap_or}
use Rattle.std.specs.declared.cmp.Ordering.{Ordering}
use Rattle.std.specs.declared.cmp.Ordering.TheVariants.{Less, Equal, Greater}
use Rattle.std.proofs.lemmas.Bool.Decides.{nat_tests}
use Rattle.std.specs.BTreeMap.{is_at}
use Rattle.std.specs.Cmp.{unsigned_tied}
use Rattle.std.specs.List.{list_any}
use Rattle.std.specs.Ordering.{is_eq, nat_cmp, ordering_then}
use Rattle.fr_base.specs.Event.Event.{Regular}
use Rattle.fr_base.specs.declared.channel.Channel.{Channel}
use Rattle.fr_base.specs.declared.channel.Channel.TheVariants.{A, B}
use Rattle.fr_drift.specs.Held.{held}
use Rattle.fr_drift.specs.Keys.{length_cmp}
use Rattle.fr_text.specs.Keys.{found_at}
use Rattle.fr_drift.specs.Questions.{delay_of, doubles_of, length_of, rate_of, start_of}
use Rattle.fr_drift.specs.View.{DriftView}
use Rattle.fr_drift.specs.declared.keys.LengthKey.{LengthKey}
use Rattle.fr_drift.specs.declared.rows.Start.{Start}
use Rattle.fr_text.specs.Fields.{or_else}
use Rattle.fr_script.specs.Deeds.{deed_in, passage_cmp, passage_of}
use Rattle.fr_script.specs.Events.{event_by, event_of}
use Rattle.fr_script.specs.View.{ScriptView, deed_of, is_arbitrary, join_of}
use Rattle.fr_script.specs.declared.deed.Deed.{Deed}
use Rattle.fr_script.specs.declared.deed.Deed.TheVariants.{Say}
use Rattle.fr_script.specs.declared.deeds.Passage.{Passage}
use Rattle.fr_cluster.specs.Setting.{Setting}
use Rattle.fr_cluster.specs.declared.join.Join.{Join}
use Rattle.fr_worked.specs.Files.{no_join, no_joins, plain_script, says_to, steady_drift}
use Rattle.fr_coverage.specs.Decided.{setting_of}

-- each question is answered as the run has it
pub record Answer (d : DriftView) (s : ScriptView) (x : Setting) : Type 0 where
  pub doubles : doubles_of d ≡ x.doubles
  pub starts : (node : ℕ) → start_of d node ≡ x.start node
  pub rates : (node : ℕ) → rate_of d node ≡ x.rate node
  pub lengths : (node cycle : ℕ) → length_of d node cycle ≡ x.microtick node cycle
  pub delays : (sender receiver : ℕ) (channel : Channel) (cycle : ℕ) → delay_of d sender receiver channel cycle ≡ x.delay sender receiver channel cycle
  pub nodes : (node : ℕ) → is_arbitrary s node ≡ x.is_arbitrary node
  pub joins : (node : ℕ) → join_of s node ≡ x.join node
  pub events : (cycle sender receiver : ℕ) (channel : Channel) → event_of s cycle sender receiver channel ≡ x.event cycle sender receiver channel

-- files that answer so decide the run
pub decided : (d : DriftView) (s : ScriptView) (x : Setting) → Answer d s x → setting_of x.params d s ≡ x
decided d s x told i = record {
  params = x.params;
  doubles = told.doubles i;
  start = λ node. told.starts node i;
  rate = λ node. told.rates node i;
  microtick = λ node cycle. told.lengths node cycle i;
  delay = λ sender receiver channel cycle. told.delays sender receiver channel cycle i;
  is_arbitrary = λ node. told.nodes node i;
  event = λ cycle sender receiver channel. told.events cycle sender receiver channel i;
  join = λ node. told.joins node i;
}

-- ---- keys

pub number_is : (a b : ℕ) → is_eq (nat_cmp a b) ≡ (a == b)
number_is a b = unsigned_tied a b

pub both_are : (first second : Ordering) → is_eq (ordering_then first second) ≡ (is_eq first && is_eq second)
both_are Less second = refl
both_are Equal second = refl
both_are Greater second = refl

-- ---- drift files

-- the row that holds, where all rows stand at cycle 0
pub held_first : (rows : ℕ → Option ℤ) → ((cycle : ℕ) → rows (suc cycle) ≡ None) → (cycle : ℕ) → held rows cycle ≡ rows 0
unfolding held
held_first rows none zero = refl
held_first rows none (suc cycle) = ap (λ (o : Option ℤ). or_else o (held rows cycle)) (none cycle) ∙ held_first rows none cycle

nothing_held : (cycle : ℕ) → held (λ from. None) cycle ≡ None
nothing_held cycle = held_first (λ from. None) (λ earlier. refl) cycle

pub length_is : (asked row : LengthKey) → is_at (length_cmp asked) row ≡ ((asked.node == row.node) && (asked.from == row.from))
length_is asked row = both_are (nat_cmp asked.node row.node) (nat_cmp asked.from row.from) ∙ numbers
  where
    numbers : (is_eq (nat_cmp asked.node row.node) && is_eq (nat_cmp asked.from row.from)) ≡ ((asked.node == row.node) && (asked.from == row.from))
    numbers i = number_is asked.node row.node i && number_is asked.from row.from i

pub one_start : (node at : ℕ) (start : Start) → found_at nat_cmp ((at, start) ∷ []) node ≡ cond (node == at) (Some start) None
one_start node at start = ap (λ (b : Bool). cond b (Some start) None) (number_is node at)

pub steady_doubles : (doubles : ℕ) → doubles_of (steady_drift doubles) ≡ doubles
unfolding doubles_of
steady_doubles doubles = refl

pub steady_starts : (doubles node : ℕ) → start_of (steady_drift doubles) node ≡ pos 0
unfolding start_of
steady_starts doubles node = refl

pub steady_rates : (doubles node : ℕ) → rate_of (steady_drift doubles) node ≡ pos 0
unfolding rate_of
steady_rates doubles node = refl

pub steady_lengths : (doubles node cycle : ℕ) → length_of (steady_drift doubles) node cycle ≡ pos 1_000_000
unfolding length_of
steady_lengths doubles node cycle i = unwrap_or (nothing_held cycle i) (pos 1_000_000)

pub steady_delays : (doubles sender receiver : ℕ) (channel : Channel) (cycle : ℕ) → delay_of (steady_drift doubles) sender receiver channel cycle ≡ pos 0
unfolding delay_of
steady_delays doubles sender receiver A cycle i = unwrap_or (nothing_held cycle i) (pos 0)
steady_delays doubles sender receiver B cycle i = unwrap_or (nothing_held cycle i) (pos 0)

-- ---- scripts

pub none_marked : (count node : ℕ) → slice_index_or (replicate count false) node false ≡ false
none_marked zero node = refl
none_marked (suc count) zero = refl
none_marked (suc count) (suc node) = none_marked count node

pub plain_nodes : (node : ℕ) → is_arbitrary plain_script node ≡ false
unfolding is_arbitrary
plain_nodes node = none_marked 65 node

none_joins : (count node : ℕ) → slice_index_or (replicate count no_join) node no_join ≡ no_join
none_joins zero node = refl
none_joins (suc count) zero = refl
none_joins (suc count) (suc node) = none_joins count node

pub plain_joins : (s : ScriptView) → s.joins ≡ no_joins → (node : ℕ) → join_of s node ≡ None
unfolding join_of
plain_joins s none node = ap (λ (joins : List (Option Join)). slice_index_or joins node None) none ∙ none_joins 65 node

pub event_is :
    (s : ScriptView) (cycle sender receiver : ℕ) (channel : Channel) (arbitrary : Bool) (deed : Option Deed)
    → is_arbitrary s sender ≡ arbitrary → deed_of s cycle sender receiver channel ≡ deed
    → event_of s cycle sender receiver channel ≡ event_by arbitrary deed
unfolding event_of
event_is s cycle sender receiver channel arbitrary deed node done i = event_by (node i) (done i)

pub no_row : (asked : Passage) → deed_in [] asked ≡ None
unfolding deed_in
no_row asked = refl

nothing_done : (cycle sender receiver : ℕ) (channel : Channel) → deed_of plain_script cycle sender receiver channel ≡ None
unfolding deed_of deed_in
nothing_done cycle sender receiver A = refl
nothing_done cycle sender receiver B = refl

pub plain_events : (cycle sender receiver : ℕ) (channel : Channel) → event_of plain_script cycle sender receiver channel ≡ Regular
plain_events cycle sender receiver channel =
    event_is plain_script cycle sender receiver channel false None (plain_nodes sender) (nothing_done cycle sender receiver channel)

pub passage_is :
    (asked row : Passage)
    → is_at (passage_cmp asked) row ≡ ((asked.sender == row.sender) && ((asked.receiver == row.receiver) && (asked.cycle == row.cycle)))
passage_is asked row =
    both_are (nat_cmp asked.sender row.sender) (ordering_then (nat_cmp asked.receiver row.receiver) (nat_cmp asked.cycle row.cycle))
    ∙ ap (λ (b : Bool). is_eq (nat_cmp asked.sender row.sender) && b) (both_are (nat_cmp asked.receiver row.receiver) (nat_cmp asked.cycle row.cycle))
    ∙ numbers
  where
    numbers :
        (is_eq (nat_cmp asked.sender row.sender) && (is_eq (nat_cmp asked.receiver row.receiver) && is_eq (nat_cmp asked.cycle row.cycle)))
        ≡ ((asked.sender == row.sender) && ((asked.receiver == row.receiver) && (asked.cycle == row.cycle)))
    numbers i = number_is asked.sender row.sender i && (number_is asked.receiver row.receiver i && number_is asked.cycle row.cycle i)

-- a row of each cycle of the first double cycle, and the rows after them
two_rows :
    {X : Type 0} (sender receiver zeroth first : Bool) (x : X) (rest : Option X)
    → cond (sender && (receiver && zeroth)) (Some x) (cond (sender && (receiver && first)) (Some x) rest) ≡ cond (sender && (receiver && (zeroth || first))) (Some x) rest
two_rows false receiver zeroth first x rest = refl
two_rows true false zeroth first x rest = refl
two_rows true true true first x rest = refl
two_rows true true false first x rest = refl

more_rows :
    {X : Type 0} (sender receiver others early : Bool) (x : X) (rest : Option X)
    → cond (sender && (receiver && early)) (Some x) (cond (sender && (others && early)) (Some x) rest) ≡ cond (sender && ((receiver || others) && early)) (Some x) rest
more_rows false receiver others early x rest = refl
more_rows true true others true x rest = refl
more_rows true true true false x rest = refl
more_rows true true false false x rest = refl
more_rows true false others early x rest = refl

first_two : (cycle : ℕ) → ((cycle == 0) || (cycle == 1)) ≡ nat_lt cycle 2
first_two zero = refl
first_two (suc zero) = refl
first_two (suc (suc cycle)) =
    let zeroth : (suc (suc cycle) == 0) ≡ false = grind (arith, nat_tests) in
    let first : (suc (suc cycle) == 1) ≡ false = grind (arith, nat_tests) in
    let late : nat_lt (suc (suc cycle)) 2 ≡ false = grind (arith, nat_tests) in
    (λ i. zeroth i || first i) ∙ sym late

-- what rows to receivers in the first double cycle say of a passage
pub rows_say :
    (by : ℕ) (shift : ℤ) (receivers : List ℕ) (rest : List (Passage × Deed)) (cycle sender receiver : ℕ)
    → deed_in (says_to by shift receivers ++ rest) (passage_of sender receiver cycle)
    ≡ cond ((sender == by) && (list_any (λ r. receiver == r) receivers && nat_lt cycle 2)) (Some (Say shift None)) (deed_in rest (passage_of sender receiver cycle))
unfolding deed_in
rows_say by shift [] rest cycle sender receiver = nobody (sender == by)
  where
    nobody : (b : Bool) → deed_in rest (passage_of sender receiver cycle) ≡ cond (b && false) (Some (Say shift None)) (deed_in rest (passage_of sender receiver cycle))
    nobody true = refl
    nobody false = refl
rows_say by shift (r ∷ receivers) rest cycle sender receiver =
    rows
    ∙ two_rows (sender == by) (receiver == r) (cycle == 0) (cycle == 1) (Say shift None) (deed_in (says_to by shift receivers ++ rest) (passage_of sender receiver cycle))
    ∙ after (rows_say by shift receivers rest cycle sender receiver)
    ∙ more_rows (sender == by) (receiver == r) (list_any (λ r. receiver == r) receivers) (nat_lt cycle 2) (Say shift None) (deed_in rest (passage_of sender receiver cycle))
  where
    rows :
        deed_in (says_to by shift (r ∷ receivers) ++ rest) (passage_of sender receiver cycle)
        ≡ cond ((sender == by) && ((receiver == r) && (cycle == 0))) (Some (Say shift None))
        (cond ((sender == by) && ((receiver == r) && (cycle == 1))) (Some (Say shift None)) (deed_in (says_to by shift receivers ++ rest) (passage_of sender receiver cycle)))
    rows i =
        cond (passage_is (passage_of sender receiver cycle) (passage_of by r 0) i) (Some (Say shift None))
        (cond (passage_is (passage_of sender receiver cycle) (passage_of by r 1) i) (Some (Say shift None)) (deed_in (says_to by shift receivers ++ rest) (passage_of sender receiver cycle)))

    after :
        deed_in (says_to by shift receivers ++ rest) (passage_of sender receiver cycle)
        ≡ cond ((sender == by) && (list_any (λ r. receiver == r) receivers && nat_lt cycle 2)) (Some (Say shift None)) (deed_in rest (passage_of sender receiver cycle))
        → cond ((sender == by) && ((receiver == r) && ((cycle == 0) || (cycle == 1)))) (Some (Say shift None)) (deed_in (says_to by shift receivers ++ rest) (passage_of sender receiver cycle))
        ≡ cond ((sender == by) && ((receiver == r) && nat_lt cycle 2)) (Some (Say shift None))
        (cond ((sender == by) && (list_any (λ r. receiver == r) receivers && nat_lt cycle 2)) (Some (Say shift None)) (deed_in rest (passage_of sender receiver cycle)))
    after tail i =
        cond ((sender == by) && ((receiver == r) && first_two cycle i)) (Some (Say shift None)) (tail i)
