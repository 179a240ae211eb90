-- What the listeners of a cycle have caught behind it is what the run says.
use Rattle.std.proofs.Common.{◌≡◌, ℕ, suc, ◌/◌, ◌==◌, ℤ, Bool, true, false, cond, not, ◌||◌, Option, Some, None, List, [], ◌∷◌, filter, map, length, refl, ap, ap₂, sym, ◌∙◌, arith, if◌then◌else◌}
use Rattle.std.specs.Prelude.{option_and_then}
use Rattle.std.specs.List.{cons_option, filter_map}
use Rattle.std.specs.Option.{option_map}
use Rattle.fr_base.specs.declared.channel.Channel.{Channel}
use Rattle.fr_base.specs.declared.channel.Channel.TheVariants.{A, B}
use Rattle.fr_base.specs.declared.node_row.NodeRow.{NodeRow}
use Rattle.fr_cluster.specs.Setting.{Setting, correct_nodes}
use Rattle.fr_cluster.specs.declared.nodes.NodeSpec.{NodeSpec}
use Rattle.fr_time.specs.Cycles.{is_odd}
use Rattle.fr_time.specs.Senders.{sender_of}
use Rattle.fr_time.specs.declared.senders.Sending.{Sending}
use Rattle.fr_node.specs.Listening.{ListenerView}
use Rattle.fr_reception.specs.Listening.{good_arrival}
use Rattle.fr_reception.specs.Offers.{Offer}
use Rattle.fr_history.specs.History.{row_of}
use Rattle.fr_history.specs.Records.{ended_row}
use Rattle.fr_history.specs.Offers.{active_offer, is_on}
use Rattle.fr_history.specs.Catching.{caught_arrival, listening_row, sender_offers}
use Rattle.fr_history.specs.Cycles.{Cycle, Cycles, told_of}
use Rattle.fr_history.specs.Next.{cycles_of, early_rows, early_told, next_cycle}
use Rattle.fr_history.proofs.RunsExist.{length-cycles_of}
use Rattle.fr_air.specs.Listeners.{Caughts, catches_after, catches_of, listening_nodes, listens_in, no_catches}
use Rattle.fr_air.specs.Views.{listener_of_next, listener_with, listeners_of_next, reference_slot}
use Rattle.fr_air.specs.Listening.{after_listening, with_caught}
use Rattle.fr_world.specs.Standing.{listener_kept, listeners_kept}
use Rattle.fr_world.proofs.Succeeded.{listeners-kept}
use Rattle.fr_world.proofs.Succeeding.{filter_map_same}

-- ---- what is caught of rows without their corrections

abbrev corrected : Setting → Cycles → NodeRow → NodeRow
corrected x h row = ended_row x (told_of h) (early_told x h) row

row_corrected : (x : Setting) (h : Cycles) (rows : List NodeRow) (node : ℕ) → row_of (map (corrected x h) rows) node ≡ option_map (corrected x h) (row_of rows node)
row_corrected x h [] node = refl
row_corrected x h (row ∷ rows) node = by (row.node == node) (row_corrected x h rows node)
  where
    by : (b : Bool) → row_of (map (corrected x h) rows) node ≡ option_map (corrected x h) (row_of rows node)
        → cond b (Some (corrected x h row)) (row_of (map (corrected x h) rows) node) ≡ option_map (corrected x h) (cond b (Some row) (row_of rows node))
    by true rest = refl
    by false rest = rest

offer_corrected : (x : Setting) (h : Cycles) (cycle : ℕ) (sending : Sending) (o : Option NodeRow) (receiver : NodeRow) (slot : ℕ) (channel : Channel)
    → active_offer x cycle sending (option_map (corrected x h) o) receiver slot channel ≡ active_offer x cycle sending o receiver slot channel
offer_corrected x h cycle sending None receiver slot channel = refl
offer_corrected x h cycle sending (Some row) receiver slot channel = refl

caught_corrected : (x : Setting) (h : Cycles) (cycle : ℕ) (rows : List NodeRow) (node slot : ℕ) (channel : Channel)
    → caught_arrival x cycle (map (corrected x h) rows) node slot channel ≡ caught_arrival x cycle rows node slot channel
unfolding caught_arrival
caught_corrected x h cycle rows node slot channel =
    ap (λ (o : Option Offer). option_and_then (good_arrival slot) (if not (is_on x node channel) then None else o)) (by_sender (sender_of x.params slot cycle))
  where
    by_sender : (o : Option Sending)
        → option_and_then (sender_offers x cycle (map (corrected x h) rows) node slot channel) o ≡ option_and_then (sender_offers x cycle rows node slot channel) o
    by_sender None = refl
    by_sender (Some sending) =
        let receiver : NodeRow = listening_row node in
        ap (λ (o : Option NodeRow). if (sending.node == node) || x.is_arbitrary sending.node then None else active_offer x cycle sending o receiver slot channel)
        (row_corrected x h rows sending.node)
        ∙ ap (λ (o : Option Offer). if (sending.node == node) || x.is_arbitrary sending.node then None else o)
        (offer_corrected x h cycle sending (row_of rows sending.node) receiver slot channel)

pub caught-told : (x : Setting) (h : Cycles) (cycle node slot : ℕ) (channel : Channel)
    → caught_arrival x cycle (early_rows x h) node slot channel ≡ caught_arrival x cycle (next_cycle x h).told.rows node slot channel
unfolding next_cycle early_told
caught-told x h cycle node slot channel = sym (caught_corrected x h cycle (early_rows x h) node slot channel)

-- ---- one listener

named : (odd : Bool) (channel : Channel) (o : Option ℤ) (l : ListenerView) → (with_caught odd channel o l).id ≡ l.id
named odd channel None l = refl
named false A (Some at) l = refl
named false B (Some at) l = refl
named true A (Some at) l = refl
named true B (Some at) l = refl

referred : (odd : Bool) (channel : Channel) (o : Option ℤ) (l : ListenerView) → (with_caught odd channel o l).reference ≡ l.reference
referred odd channel None l = refl
referred false A (Some at) l = refl
referred false B (Some at) l = refl
referred true A (Some at) l = refl
referred true B (Some at) l = refl

abbrev caught_in : Bool → Option ℤ → Option ℤ → ListenerView → ListenerView
caught_in odd a b l = with_caught odd B b (with_caught odd A a l)

after_by : (x : Setting) (cycle : ℕ) (rows : List NodeRow) (l : ListenerView) (odd : Bool) → is_odd cycle ≡ odd
    → after_listening x cycle rows l ≡ caught_in odd (caught_arrival x cycle rows l.id l.reference A) (caught_arrival x cycle rows l.id l.reference B) l
after_by x cycle rows l odd is =
    let a : Option ℤ = caught_arrival x cycle rows l.id l.reference A in
    let m : Bool → ListenerView = λ o. with_caught o A a l in
    ap₂ (λ i r. with_caught (is_odd cycle) B (caught_arrival x cycle rows i r B) (m (is_odd cycle))) (named (is_odd cycle) A a l) (referred (is_odd cycle) A a l)
    ∙ ap (λ (o : Bool). caught_in o a (caught_arrival x cycle rows l.id l.reference B) l) is

in_even : (node slot : ℕ) (a b : Option ℤ) → caught_in false a b (listener_with node slot no_catches) ≡ listener_with node slot (record { even_a = a; even_b = b; odd_a = None; odd_b = None })
in_even node slot None None = refl
in_even node slot None (Some b) = refl
in_even node slot (Some a) None = refl
in_even node slot (Some a) (Some b) = refl

in_odd : (node slot : ℕ) (c d a b : Option ℤ)
    → caught_in true a b (listener_with node slot (record { even_a = c; even_b = d; odd_a = None; odd_b = None })) ≡ listener_with node slot (record { even_a = c; even_b = d; odd_a = a; odd_b = b })
in_odd node slot c d None None = refl
in_odd node slot c d None (Some b) = refl
in_odd node slot c d (Some a) None = refl
in_odd node slot c d (Some a) (Some b) = refl

-- ---- behind an even cycle

map-filter_map : {X Y Z : Type 0} (f : Y → Z) (g : X → Option Y) (xs : List X) → map f (filter_map g xs) ≡ filter_map (λ x. option_map f (g x)) xs
map-filter_map f g [] = refl
map-filter_map f g (x ∷ xs) = by (g x) (map-filter_map f g xs)
  where
    by : (o : Option _) → map f (filter_map g xs) ≡ filter_map (λ y. option_map f (g y)) xs → map f (cons_option o (filter_map g xs)) ≡ cons_option (option_map f o) (filter_map (λ y. option_map f (g y)) xs)
    by None rest = rest
    by (Some y) rest = ap (λ ys. f y ∷ ys) rest

same_double : (n : ℕ) → is_odd n ≡ false → n / 2 ≡ suc n / 2
same_double n even = grind arith

still_listening : (x : Setting) (h : Cycles) (c : Cycle) → is_odd (length h) ≡ false → listening_nodes x h ≡ listening_nodes x (c ∷ h)
still_listening x h c even =
    ap (λ (double : ℕ). filter (λ (node : NodeSpec). listens_in double (x.join node.id)) (correct_nodes x)) (same_double (length h) even)

odd_less : (n : ℕ) → is_odd (suc n) ≡ false → is_odd n ≡ true
odd_less n even = grind arith

none_yet : (x : Setting) (h : Cycles) (node slot : ℕ) → is_odd (length h) ≡ false → catches_after x h node slot ≡ no_catches
none_yet x [] node slot even = refl
none_yet x (c ∷ h) node slot even = let odd : is_odd (length h) ≡ true = odd_less (length h) even in rw odd refl

-- what a listener has of an even cycle
abbrev caught_early : Setting → Cycles → List NodeRow → ℕ → ℕ → Caughts
caught_early x h rows node slot = record {
  even_a = caught_arrival x (length h) rows node slot A;
  even_b = caught_arrival x (length h) rows node slot B;
  odd_a = None;
  odd_b = None;
}

caught_even : (x : Setting) (h : Cycles) (c : Cycle) (node slot : ℕ) → is_odd (length h) ≡ false → catches_after x (c ∷ h) node slot ≡ caught_early x h c.told.rows node slot
caught_even x h c node slot even = rw even refl

early_same : (x : Setting) (h : Cycles) (node slot : ℕ) → caught_early x h (early_rows x h) node slot ≡ caught_early x h (next_cycle x h).told.rows node slot
early_same x h node slot =
    ap₂ (λ a b. let c : Caughts = record { even_a = a; even_b = b; odd_a = None; odd_b = None } in c) (caught-told x h (length h) node slot A) (caught-told x h (length h) node slot B)

one_even : (x : Setting) (h : Cycles) (node slot : ℕ) → is_odd (length h) ≡ false
    → after_listening x (length h) (early_rows x h) (listener_with node slot (catches_after x h node slot)) ≡ listener_with node slot (catches_after x (next_cycle x h ∷ h) node slot)
one_even x h node slot even =
    ap (λ (c : Caughts). after_listening x (length h) (early_rows x h) (listener_with node slot c)) (none_yet x h node slot even)
    ∙ after_by x (length h) (early_rows x h) (listener_with node slot no_catches) false even
    ∙ in_even node slot (caught_arrival x (length h) (early_rows x h) node slot A) (caught_arrival x (length h) (early_rows x h) node slot B)
    ∙ ap (listener_with node slot) (early_same x h node slot ∙ sym (caught_even x h (next_cycle x h) node slot even))

each_even : (x : Setting) (h : Cycles) (node : NodeSpec) → is_odd (length h) ≡ false
    → option_map (after_listening x (length h) (early_rows x h)) (listener_of_next x h node) ≡ listener_of_next x (next_cycle x h ∷ h) node
each_even x h node even = by (reference_slot x (x.join node.id))
  where
    by : (o : Option ℕ) → option_map (after_listening x (length h) (early_rows x h)) (option_map (λ slot. listener_with node.id slot (catches_after x h node.id slot)) o)
        ≡ option_map (λ slot. listener_with node.id slot (catches_after x (next_cycle x h ∷ h) node.id slot)) o
    by None = refl
    by (Some slot) = ap (λ (l : ListenerView). let o : Option ListenerView = Some l in o) (one_even x h node.id slot even)

all_even : (x : Setting) (h : Cycles) → is_odd (length h) ≡ false
    → map (after_listening x (length h) (early_rows x h)) (listeners_of_next x h) ≡ listeners_kept x (next_cycle x h ∷ h)
all_even x h even =
    let c : Cycle = next_cycle x h in
    map-filter_map (after_listening x (length h) (early_rows x h)) (listener_of_next x h) (listening_nodes x h)
    ∙ filter_map_same (λ (node : NodeSpec). option_map (after_listening x (length h) (early_rows x h)) (listener_of_next x h node)) (listener_of_next x (c ∷ h)) (listening_nodes x h)
    (λ node there. each_even x h node even)
    ∙ ap (filter_map (listener_of_next x (c ∷ h))) (still_listening x h c even)
    ∙ sym (listeners-kept x h c even)

-- ---- behind an odd cycle

one_odd : (x : Setting) (h : Cycles) (even : Cycle) (node slot : ℕ) → is_odd (length h) ≡ false
    → after_listening x (suc (length h)) (early_rows x (even ∷ h)) (listener_with node slot (catches_after x (even ∷ h) node slot))
    ≡ listener_with node slot (catches_of x h even (next_cycle x (even ∷ h)) node slot)
one_odd x h even node slot twice =
    let n : ℕ = suc (length h) in
    let rows : List NodeRow = early_rows x (even ∷ h) in
    let late : is_odd n ≡ true = odd_more (length h) twice in
    let ea : Option ℤ = caught_arrival x (length h) even.told.rows node slot A in
    let eb : Option ℤ = caught_arrival x (length h) even.told.rows node slot B in
    ap (λ (c : Caughts). after_listening x n rows (listener_with node slot c)) (caught_even x h even node slot twice)
    ∙ after_by x n rows (listener_with node slot (caught_early x h even.told.rows node slot)) true late
    ∙ in_odd node slot ea eb (caught_arrival x n rows node slot A) (caught_arrival x n rows node slot B)
    ∙ ap₂ (λ a b. listener_with node slot (record { even_a = ea; even_b = eb; odd_a = a; odd_b = b })) (caught-told x (even ∷ h) n node slot A) (caught-told x (even ∷ h) n node slot B)
  where
    odd_more : (m : ℕ) → is_odd m ≡ false → is_odd (suc m) ≡ true
    odd_more m e = grind arith

each_odd : (x : Setting) (h : Cycles) (even : Cycle) (node : NodeSpec) → is_odd (length h) ≡ false
    → option_map (after_listening x (suc (length h)) (early_rows x (even ∷ h))) (listener_of_next x (even ∷ h) node) ≡ listener_kept x h even (next_cycle x (even ∷ h)) node
each_odd x h even node twice = by (reference_slot x (x.join node.id))
  where
    by : (o : Option ℕ)
        → option_map (after_listening x (suc (length h)) (early_rows x (even ∷ h))) (option_map (λ slot. listener_with node.id slot (catches_after x (even ∷ h) node.id slot)) o)
        ≡ option_map (λ slot. listener_with node.id slot (catches_of x h even (next_cycle x (even ∷ h)) node.id slot)) o
    by None = refl
    by (Some slot) = ap (λ (l : ListenerView). let o : Option ListenerView = Some l in o) (one_odd x h even node.id slot twice)

all_odd : (x : Setting) (h : Cycles) (even : Cycle) → is_odd (length h) ≡ false
    → map (after_listening x (suc (length h)) (early_rows x (even ∷ h))) (listeners_of_next x (even ∷ h)) ≡ listeners_kept x (next_cycle x (even ∷ h) ∷ even ∷ h)
all_odd x h even twice =
    let c : Cycle = next_cycle x (even ∷ h) in
    let kept : listeners_kept x (c ∷ even ∷ h) ≡ filter_map (listener_kept x h even c) (listening_nodes x h) = rw twice refl in
    map-filter_map (after_listening x (suc (length h)) (early_rows x (even ∷ h))) (listener_of_next x (even ∷ h)) (listening_nodes x (even ∷ h))
    ∙ ap (filter_map (λ (node : NodeSpec). option_map (after_listening x (suc (length h)) (early_rows x (even ∷ h))) (listener_of_next x (even ∷ h) node))) (sym (still_listening x h even twice))
    ∙ filter_map_same (λ (node : NodeSpec). option_map (after_listening x (suc (length h)) (early_rows x (even ∷ h))) (listener_of_next x (even ∷ h) node)) (listener_kept x h even c) (listening_nodes x h)
    (λ node there. each_odd x h even node twice)
    ∙ sym kept

-- ---- in each cycle

by_length : (x : Setting) (h : Cycles) (b : Bool) → is_odd (length h) ≡ b → map (after_listening x (length h) (early_rows x h)) (listeners_of_next x h) ≡ listeners_kept x (next_cycle x h ∷ h)
by_length x h false is = all_even x h is
by_length x [] true is = absurd (cc)
by_length x (even ∷ h) true is = all_odd x h even (even_less (length h) is)
  where
    even_less : (n : ℕ) → is_odd (suc n) ≡ true → is_odd n ≡ false
    even_less n odd = grind arith

pub listeners-caught : (x : Setting) (cycle : ℕ) (rows : List NodeRow) (before after : List ListenerView) → rows ≡ early_rows x (cycles_of x cycle) → before ≡ listeners_of_next x (cycles_of x cycle)
    → after ≡ map (after_listening x cycle rows) before → after ≡ listeners_kept x (next_cycle x (cycles_of x cycle) ∷ cycles_of x cycle)
listeners-caught x cycle rows before after listed are now =
    let h : Cycles = cycles_of x cycle in
    now
    ∙ ap (λ (rs : List NodeRow). map (after_listening x cycle rs) before) listed
    ∙ ap (map (after_listening x cycle (early_rows x h))) are
    ∙ ap (λ (c : ℕ). map (after_listening x c (early_rows x h)) (listeners_of_next x h)) (sym (length-cycles_of x cycle))
    ∙ by_length x h (is_odd (length h)) refl
