-- A table takes in the recorded deviations of a receiver.
use Rattle.std.proofs.Common.{◌≡◌, ◌≢◌, ℕ, zero, suc, ◌+◌, ◌<◌, ◌≤◌, ◌==◌, ℤ, Bool, true, false, ◌&&◌, List, [], ◌∷◌, ◌++◌, Option, Some, None, refl, ap, ap₂, sym, ◌∙◌, ◌⊎◌, inl, inr, arith}
use Rattle.std.specs.Prelude.{filter, find, if◌then◌else◌, option_and_then}
use Rattle.std.specs.List.{cons_option, filter_map, range_with_len}
use Rattle.std.specs.Option.{option_map, option_or}
use Rattle.std.proofs.lemmas.Bool.{cases_eq}
use Rattle.std.proofs.lemmas.List.Folds.{find-append}
use Rattle.fr_base.specs.Rows.{channel_rank, dev_in, is_dev_of}
use Rattle.fr_base.specs.declared.channel.Channel.{Channel}
use Rattle.fr_base.specs.declared.channel.Channel.TheVariants.{A, B}
use Rattle.fr_base.specs.declared.dev.Dev.{Dev}
use Rattle.fr_cluster.specs.Questions.{key_index_of, key_slot_of}
use Rattle.fr_cluster.specs.Values.{Values}
use Rattle.fr_measure.specs.Deviations.{deviations_of}
use Rattle.fr_measure.specs.Readings.{IsEmpty, Readings, reading}
use Rattle.fr_measure.specs.Values.{LookUp, offset_at, own_value_or, least_of, mean_of, change_of, rate_at, values_of}
use Rattle.fr_time.proofs.Keys.{key_slot_has, slot_of_index}
use Rattle.fr_check.specs.Measured.{TakesIn, look_among, told_by}

-- ---- one deviation

pub or_none : {X : Type 0} (o : Option X) → option_or o None ≡ o
or_none None = refl
or_none (Some x) = refl

or_along : {X : Type 0} (a b c : Option X) → option_or (option_or a b) c ≡ option_or a (option_or b c)
or_along None b c = refl
or_along (Some x) b c = refl

test_no : (a b c : Bool) → (a ≡ false) ⊎ ((b ≡ false) ⊎ (c ≡ false)) → (a && b && c) ≡ false
test_no a b c (inl e) = rw e refl
test_no true b c (inr (inl e)) = rw e refl
test_no false b c (inr (inl e)) = refl
test_no true true c (inr (inr e)) = e
test_no true false c (inr (inr e)) = refl
test_no false b c (inr (inr e)) = refl

unequal : (a b : ℕ) → a ≢ b → (a == b) ≡ false
unequal a b ne = grind arith

equal : (a b : ℕ) → a ≡ b → (a == b) ≡ true
equal a b e = grind arith

one_channel : (a b : Channel) → (a ≡ b) ⊎ (a ≢ b)
one_channel A A = inl refl
one_channel A B = inr (λ e. cc e)
one_channel B A = inr (λ e. cc e)
one_channel B B = inl refl

other_rank : (a b : Channel) → a ≢ b → (channel_rank a == channel_rank b) ≡ false
other_rank A A ne = absurd (ne refl)
other_rank A B ne = refl
other_rank B A ne = refl
other_rank B B ne = absurd (ne refl)

-- what a deviation says of another receiver, slot or channel
other_dev : (dev : Dev) (node slot : ℕ) (channel : Channel) (v : Option ℤ)
    → (dev.receiver ≢ node) ⊎ ((dev.slot ≢ slot) ⊎ (dev.channel ≢ channel))
    → option_or v (if is_dev_of node slot channel dev then Some dev.value else None) ≡ v
other_dev dev node slot channel v why =
    let fails : is_dev_of node slot channel dev ≡ false = test_no (dev.receiver == node) (dev.slot == slot) (channel_rank dev.channel == channel_rank channel) (parts why) in
    ap (λ (b : Bool). option_or v (if b then Some dev.value else None)) fails ∙ or_none v
  where
    parts : (dev.receiver ≢ node) ⊎ ((dev.slot ≢ slot) ⊎ (dev.channel ≢ channel))
        → ((dev.receiver == node) ≡ false) ⊎ (((dev.slot == slot) ≡ false) ⊎ ((channel_rank dev.channel == channel_rank channel) ≡ false))
    parts (inl ne) = inl (unequal dev.receiver node ne)
    parts (inr (inl ne)) = inr (inl (unequal dev.slot slot ne))
    parts (inr (inr ne)) = inr (inr (other_rank dev.channel channel ne))

this_dev : (dev : Dev) (node slot : ℕ) (channel : Channel) (v : Option ℤ) → dev.receiver ≡ node → dev.slot ≡ slot → dev.channel ≡ channel
    → option_or v (if is_dev_of node slot channel dev then Some dev.value else None) ≡ option_or v (Some dev.value)
this_dev dev node slot channel v a b c =
    let passes : is_dev_of node slot channel dev ≡ true = all (dev.receiver == node) (dev.slot == slot) (channel_rank dev.channel == channel_rank channel) (equal dev.receiver node a) (equal dev.slot slot b) (equal (channel_rank dev.channel) (channel_rank channel) (ap channel_rank c)) in
    ap (λ (b : Bool). option_or v (if b then Some dev.value else None)) passes
  where
    all : (a b c : Bool) → a ≡ true → b ≡ true → c ≡ true → (a && b && c) ≡ true
    all a b c e f g = rw (e, f, g) refl

-- it is not this receiver's, or its slot is no key slot
pub not_taken : (p : Values) (dev : Dev) (node : ℕ) (odd : Bool) (t : Readings) → (dev.receiver ≢ node) ⊎ (key_index_of p dev.slot ≡ None) → TakesIn odd (told_by p dev node) t t
not_taken p dev node odd t why = record {
  own = λ index channel lt. sym (by_slot index channel (key_slot_of p index) refl why);
  others = λ index other channel ne. refl;
}
  where
    by_slot : (index : ℕ) (channel : Channel) (o : Option ℕ) → key_slot_of p index ≡ o → (dev.receiver ≢ node) ⊎ (key_index_of p dev.slot ≡ None)
        → option_or (reading t index odd channel) (option_and_then (λ slot. if is_dev_of node slot channel dev then Some dev.value else None) o) ≡ reading t index odd channel
    by_slot index channel None is why = or_none (reading t index odd channel)
    by_slot index channel (Some slot) is (inl ne) = other_dev dev node slot channel (reading t index odd channel) (inl ne)
    by_slot index channel (Some slot) is (inr none) = other_dev dev node slot channel (reading t index odd channel) (inr (inl (λ same. never same)))
      where
        never : dev.slot ≡ slot → ⊥
        never same = let some : key_index_of p slot ≡ Some index = (key_slot_has p index slot is).0 in let e : None ≡ Some index = sym none ∙ ap (key_index_of p) same ∙ some in absurd (cc e)

pub taken : (p : Values) (dev : Dev) (node at : ℕ) (odd : Bool) (old new : Readings) → dev.receiver ≡ node → key_index_of p dev.slot ≡ Some at
    → reading new at odd dev.channel ≡ option_or (reading old at odd dev.channel) (Some dev.value)
    → ((i : ℕ) (o : Bool) (c : Channel) → (i ≢ at) ⊎ ((o ≢ odd) ⊎ (c ≢ dev.channel)) → reading new i o c ≡ reading old i o c)
    → TakesIn odd (told_by p dev node) old new
taken p dev node at odd old new receives is here others = record {
  own = λ index channel lt. by_slot index channel (key_slot_of p index) refl;
  others = λ index other channel ne. others index other channel (inr (inl ne));
}
  where
    slot_is : key_slot_of p at ≡ Some dev.slot
    slot_is = slot_of_index p at dev.slot is

    by_slot : (index : ℕ) (channel : Channel) (o : Option ℕ) → key_slot_of p index ≡ o
        → reading new index odd channel ≡ option_or (reading old index odd channel) (option_and_then (λ slot. if is_dev_of node slot channel dev then Some dev.value else None) o)
    by_slot index channel None none =
        others index odd channel (inl (λ same. let e : None ≡ Some dev.slot = sym none ∙ ap (key_slot_of p) same ∙ slot_is in absurd (cc e))) ∙ sym (or_none (reading old index odd channel))
    by_slot index channel (Some slot) some = by_index (cases_eq index at) (one_channel channel dev.channel)
      where
        by_index : (index ≡ at) ⊎ (index ≡ at → ⊥) → (channel ≡ dev.channel) ⊎ (channel ≢ dev.channel)
            → reading new index odd channel ≡ option_or (reading old index odd channel) (if is_dev_of node slot channel dev then Some dev.value else None)
        by_index (inl same) (inl on) =
            let slots : ◌≡◌ {A = Option ℕ} (Some dev.slot) (Some slot) = sym slot_is ∙ ap (key_slot_of p) (sym same) ∙ some in
            let slot_same : dev.slot ≡ slot = cc slots in
            ap₂ (λ (i : ℕ) (c : Channel). reading new i odd c) same on ∙ here
            ∙ sym (ap₂ (λ (i : ℕ) (c : Channel). option_or (reading old i odd c) (Some dev.value)) same on)
            ∙ sym (this_dev dev node slot channel (reading old index odd channel) receives slot_same (sym on))
        by_index (inl same) (inr off) =
            others index odd channel (inr (inr off)) ∙ sym (other_dev dev node slot channel (reading old index odd channel) (inr (inr (λ e. off (sym e)))))
        by_index (inr ne) on =
            others index odd channel (inl ne) ∙ sym (other_dev dev node slot channel (reading old index odd channel) (inr (inl (λ e. other_slot e))))
          where
            other_slot : dev.slot ≡ slot → ⊥
            other_slot e =
                let at_slot : key_index_of p slot ≡ Some index = (key_slot_has p index slot some).0 in
                let both : ◌≡◌ {A = Option ℕ} (Some at) (Some index) = sym is ∙ ap (key_index_of p) e ∙ at_slot in
                ne (let same : at ≡ index = cc both in sym same)

-- ---- all of a cycle

pub none_taken : (p : Values) (node : ℕ) (odd : Bool) (t : Readings) → TakesIn odd (look_among p [] node) t t
none_taken p node odd t = record {
  own = λ index channel lt. sym (by_slot index channel (key_slot_of p index));
  others = λ index other channel ne. refl;
}
  where
    by_slot : (index : ℕ) (channel : Channel) (o : Option ℕ) → option_or (reading t index odd channel) (option_and_then (λ slot. dev_in [] node slot channel) o) ≡ reading t index odd channel
    by_slot index channel None = or_none (reading t index odd channel)
    by_slot index channel (Some slot) = or_none (reading t index odd channel)

look_more : (p : Values) (devs : List Dev) (dev : Dev) (node index : ℕ) (channel : Channel)
    → look_among p (devs ++ dev ∷ []) node index channel ≡ option_or (look_among p devs node index channel) (told_by p dev node index channel)
look_more p devs dev node index channel = by_slot (key_slot_of p index)
  where
    mapped : (a : Option Dev) (b : Bool) → option_map (λ d. d.value) (option_or a (if b then Some dev else None)) ≡ option_or (option_map (λ d. d.value) a) (if b then Some dev.value else None)
    mapped None true = refl
    mapped None false = refl
    mapped (Some d) b = refl

    by_slot : (o : Option ℕ) → option_and_then (λ slot. dev_in (devs ++ dev ∷ []) node slot channel) o
        ≡ option_or (option_and_then (λ slot. dev_in devs node slot channel) o) (option_and_then (λ slot. if is_dev_of node slot channel dev then Some dev.value else None) o)
    by_slot None = refl
    by_slot (Some slot) =
        ap (option_map (λ d. d.value)) (find-append (is_dev_of node slot channel) devs (dev ∷ []))
        ∙ mapped (find (is_dev_of node slot channel) devs) (is_dev_of node slot channel dev)

pub more_taken : (p : Values) (devs more : List Dev) (dev : Dev) (node : ℕ) (odd : Bool) (first old new : Readings) → more ≡ devs ++ dev ∷ []
    → TakesIn odd (look_among p devs node) first old → TakesIn odd (told_by p dev node) old new → TakesIn odd (look_among p more node) first new
more_taken p devs more dev node odd first old new parted a b = record {
  own =
      λ index channel lt.
      b.own index channel lt
      ∙ ap (λ (o : Option ℤ). option_or o (told_by p dev node index channel)) (a.own index channel lt)
      ∙ or_along (reading first index odd channel) (look_among p devs node index channel) (told_by p dev node index channel)
      ∙ sym (ap (option_or (reading first index odd channel)) (ap (λ (xs : List Dev). look_among p xs node index channel) parted ∙ look_more p devs dev node index channel));
  others = λ index other channel ne. b.others index other channel ne ∙ a.others index other channel ne;
}

-- ---- those of one receiver alone

same_found : (p q : Dev → Bool) (devs : List Dev) → ((dev : Dev) → q dev ≡ false → p dev ≡ false) → find p (filter q devs) ≡ find p devs
same_found p q [] fails = refl
same_found p q (dev ∷ devs) fails = by_test (q dev) refl (p dev) refl (same_found p q devs fails)
  where
    by_test : (b : Bool) → q dev ≡ b → (c : Bool) → p dev ≡ c → find p (filter q devs) ≡ find p devs → find p (filter q (dev ∷ devs)) ≡ find p (dev ∷ devs)
    by_test true e true own rest = rw (e, own) refl
    by_test true e false own rest = rw (e, own) rest
    by_test false e c own rest = let other : p dev ≡ false = fails dev e in rw (e, other) rest

other_receiver : (node slot : ℕ) (channel : Channel) (dev : Dev) → (dev.receiver == node) ≡ false → is_dev_of node slot channel dev ≡ false
other_receiver node slot channel dev e = rw e refl

look_own : (p : Values) (devs : List Dev) (node index : ℕ) (channel : Channel) → look_among p (filter (λ dev. dev.receiver == node) devs) node index channel ≡ look_among p devs node index channel
look_own p devs node index channel = by_slot (key_slot_of p index)
  where
    by_slot : (o : Option ℕ) → option_and_then (λ slot. dev_in (filter (λ dev. dev.receiver == node) devs) node slot channel) o ≡ option_and_then (λ slot. dev_in devs node slot channel) o
    by_slot None = refl
    by_slot (Some slot) = ap (option_map (λ d. d.value)) (same_found (is_dev_of node slot channel) (λ dev. dev.receiver == node) devs (other_receiver node slot channel))

pub own_taken : (p : Values) (devs own : List Dev) (node : ℕ) (odd : Bool) (old new : Readings) → own ≡ filter (λ dev. dev.receiver == node) devs
    → TakesIn odd (look_among p own node) old new → TakesIn odd (look_among p devs node) old new
own_taken p devs own node odd old new is a = record {
  own =
      λ index channel lt.
      a.own index channel lt
      ∙ ap (option_or (reading old index odd channel)) (ap (λ (xs : List Dev). look_among p xs node index channel) is ∙ look_own p devs node index channel);
  others = a.others;
}

-- ---- the table of a double cycle

differ_bool : (a b : Bool) → a ≢ b → b ≢ a
differ_bool a b ne e = ne (sym e)

true_not_false : true ≢ false
true_not_false e = cc e

pub table_holds : (p : Values) (evens odds : List Dev) (node : ℕ) (empty even both : Readings) → IsEmpty empty
    → TakesIn false (look_among p evens node) empty even → TakesIn true (look_among p odds node) even both
    → (index : ℕ) (odd : Bool) (channel : Channel) → index < 15 → reading both index odd channel ≡ deviations_of p evens odds node index odd channel
table_holds p evens odds node empty even both none a b index false channel lt =
    b.others index false channel (λ e. true_not_false (sym e)) ∙ a.own index channel lt ∙ ap (λ (o : Option ℤ). option_or o (look_among p evens node index channel)) (none index false channel)
table_holds p evens odds node empty even both none a b index true channel lt =
    b.own index channel lt ∙ ap (λ (o : Option ℤ). option_or o (look_among p odds node index channel)) (a.others index true channel true_not_false ∙ none index true channel)

-- ---- the values of such a table

abbrev AgreeBelow : LookUp → LookUp → Type 0
AgreeBelow a b = (index : ℕ) (odd : Bool) (channel : Channel) → index < 15 → a index odd channel ≡ b index odd channel

filtered_same : (f g : ℕ → Option ℤ) (from count : ℕ) → ((k : ℕ) → from ≤ k → k < from + count → f k ≡ g k) → filter_map f (range_with_len from count) ≡ filter_map g (range_with_len from count)
filtered_same f g from zero same = refl
filtered_same f g from (suc count) same =
    step (f from) (g from) (same from (omega arith) (omega arith)) (filtered_same f g (from + 1) count (λ k low high. same k (omega arith) (omega arith)))
  where
    step : (a b : Option ℤ) → a ≡ b → filter_map f (range_with_len (from + 1) count) ≡ filter_map g (range_with_len (from + 1) count)
        → cons_option a (filter_map f (range_with_len (from + 1) count)) ≡ cons_option b (filter_map g (range_with_len (from + 1) count))
    step a b e rest = ap₂ (λ (o : Option ℤ) (xs : List ℤ). cons_option o xs) e rest

pub offset_values_same : (a b : LookUp) (own : Option ℕ) → AgreeBelow a b → values_of (offset_at a own) ≡ values_of (offset_at b own)
unfolding values_of
offset_values_same a b own same =
    filtered_same (offset_at a own) (offset_at b own) 0 15
    (λ k low high. ap₂ (λ (x y : Option ℤ). own_value_or own k (least_of x y)) (same k true A (omega arith)) (same k true B (omega arith)))

pub rate_values_same : (a b : LookUp) (own : Option ℕ) → AgreeBelow a b → values_of (rate_at a own) ≡ values_of (rate_at b own)
unfolding values_of
rate_values_same a b own same =
    filtered_same (rate_at a own) (rate_at b own) 0 15
    (λ k low high.
    ap₂ (λ (x y : Option ℤ). own_value_or own k (mean_of x y))
    (ap₂ change_of (same k false A (omega arith)) (same k true A (omega arith)))
    (ap₂ change_of (same k false B (omega arith)) (same k true B (omega arith))))
