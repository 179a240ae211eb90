-- The sightings of a log that is seen of a run.
use Rattle.std.proofs.Common.{◌≡◌, ◌⊎◌, ℕ, suc, ◌≤◌, Bool, true, false, Option, Some, None, ℤ, pos, negsuc, List, [], ◌∷◌, All, refl, ap, sym, ◌∙◌, subst, inl, inr, arith}
use Rattle.std.specs.Prelude.{◌≤ℤ◌, ◌-ℤ◌, ◌*ℤ◌, ◌&&◌, Contains, filter_map, int_le, int_lt, nat_abs, nat_le, if◌then◌else◌}
use Rattle.std.specs.List.{AllZip, cons_option}
use Rattle.std.specs.List.Sorted.{IsNonDecreasingBy}
use Rattle.std.specs.Option.{option_or}
use Rattle.std.proofs.lemmas.Int.{ints}
use Rattle.std.proofs.lemmas.List.Elements.{All-cons, All-contains_itself, All-head, All-tail}
use Rattle.fr_base.specs.Within.{IsBetween}
use Rattle.fr_base.specs.declared.channel.Channel.{Channel}
use Rattle.fr_cluster.specs.Sane.{IsSane}
use Rattle.fr_cluster.specs.Setting.{Setting}
use Rattle.fr_cluster.specs.Values.{Values}
use Rattle.fr_frame.specs.declared.header.Header.{Header}
use Rattle.fr_midpoint.proofs.Products.{mulz_from}
use Rattle.fr_time.specs.Cycles.{double_cycle_of}
use Rattle.fr_time.specs.declared.senders.Sending.{Sending}
use Rattle.fr_reception.specs.Regular.{is_sync_frame}
use Rattle.fr_history.specs.Cycles.{Cycles}
use Rattle.fr_time.specs.Slots.{action_point_of}
use Rattle.fr_log.specs.View.{IsLog, LogView, is_arbitrary_in}
use Rattle.fr_log.specs.declared.entry.Entry.{Entry}
use Rattle.fr_course.specs.Numbering.{is_timely, longest_silence, next_number}
use Rattle.fr_course.specs.declared.stamps.Delays.{Delays}
use Rattle.fr_sightings.specs.Judging.{is_regular_of, judged_as, judgement_of, static_sending, whole_header}
use Rattle.fr_sightings.specs.Senders.{observer_of}
use Rattle.fr_sightings.specs.Sightings.{fate_behind, fate_irregular, fate_judged, fate_of, fates_from, fates_of, is_behind_silence, is_in_time, keeps_order, last_behind, number_behind, sighting_in, sighting_with, sightings_of, untimely_in, untimely_of}
use Rattle.fr_sightings.specs.declared.sighting.Fate.{Fate}
use Rattle.fr_sightings.specs.declared.sighting.Fate.TheVariants as fate
use Rattle.fr_sightings.specs.declared.sighting.Sighting.{Sighting}
use Rattle.fr_sightings.proofs.Proper.{both}
use Rattle.fr_seen.specs.Clocks.{StraightClock}
use Rattle.fr_seen.specs.Observed.{IsSeenOf, SentFrame, stamped_apart}
use Rattle.fr_seen.specs.LogSeen.{BeginsAsCounted, IsAmongSent, IsLogSeen, IsSightingOf, IsToldOf, NoFrameIsUntimely, SightingsAreSent, judged_in, judged_of}
use Rattle.fr_seen.proofs.ObservedLaws.{seen_numbers_are_found}

-- ---- an entry

-- it is neither a sighting nor untimely behind any last one, or it is a frame that is judged
abbrev IsNoFrame : Fate → Type 0
IsNoFrame found = (sighting_in found ≡ None) × (untimely_in found ≡ None)

abbrev IsNoSighting : Values → LogView → Entry → Type 0
IsNoSighting p l e = (last : Option Sighting) → IsNoFrame (fate_of p l last e)

pub record IsJudgedBy (p : Values) (l : LogView) (e : Entry) : Type 0 where
  pub header : Header
  pub sending : Sending
  pub fated : (last : Option Sighting) → fate_of p l last e ≡ fate_judged p l last (judged_as e header sending)

-- a frame that its sender does not send is no sighting, and not untimely
irregular_told : (p : Values) (l : LogView) (last : Option Sighting) (e : Entry) (header : Header) (sending : Sending)
    → IsNoFrame (fate_irregular p l last (judged_as e header sending))
irregular_told p l None e header sending = (refl, refl)
irregular_told p l (Some last) e header sending = by (is_behind_silence p l last (judged_as e header sending))
  where
    by : (behind : Bool) → IsNoFrame (if behind then fate.Behind else fate.Irregular (sighting_with last.number (judged_as e header sending)))
    by true = (refl, refl)
    by false = (refl, refl)

module _ (p : Values) (l : LogView) (e : Entry) where
  sending_told : (header : Header) (sending : Sending) → whole_header e.kind e.channel e.bytes ≡ Some header → static_sending p header ≡ Some sending
      → (arbitrary : Bool) → is_arbitrary_in l sending.node ≡ arbitrary → (passes : Bool) → is_regular_of p e.channel header sending ≡ passes
      → (sync : Bool) → is_sync_frame sending.kind ≡ sync → IsNoSighting p l e ⊎ IsJudgedBy p l e
  unfolding fate_of judgement_of
  sending_told header sending whole sends true at passes is sync kind = inl (λ last. rw (whole, sends, at) (refl, refl))
  sending_told header sending whole sends false at false is sync kind =
      inl (λ last. rw (whole, sends, at, is) (irregular_told p l last e header sending))
  sending_told header sending whole sends false at true is false kind = inl (λ last. rw (whole, sends, at, is, kind) (refl, refl))
  sending_told header sending whole sends false at true is true kind =
      inr (record { header = header; sending = sending; fated = λ last. rw (whole, sends, at, is, kind) refl })

  header_told : (header : Header) → whole_header e.kind e.channel e.bytes ≡ Some header → (sending : Option Sending) → static_sending p header ≡ sending
      → IsNoSighting p l e ⊎ IsJudgedBy p l e
  unfolding fate_of judgement_of
  header_told header whole None sends = inl (λ last. rw (whole, sends) (refl, refl))
  header_told header whole (Some sending) sends =
      sending_told header sending whole sends (is_arbitrary_in l sending.node) refl (is_regular_of p e.channel header sending) refl
      (is_sync_frame sending.kind) refl

  whole_told : (header : Option Header) → whole_header e.kind e.channel e.bytes ≡ header → IsNoSighting p l e ⊎ IsJudgedBy p l e
  unfolding fate_of judgement_of
  whole_told None whole = inl (λ last. rw whole (refl, refl))
  whole_told (Some header) whole = header_told header whole (static_sending p header) refl

  entry_told : IsNoSighting p l e ⊎ IsJudgedBy p l e
  entry_told = whole_told (whole_header e.kind e.channel e.bytes) refl

-- ---- numbers

less_false : (silence apart : ℤ) → int_lt silence apart ≡ false → apart ≤ℤ silence
less_false silence apart is = grind (arith, ints)

from_test : (n : ℤ) → int_le (pos 0) n ≡ true → pos (nat_abs n) ≡ n
from_test (pos n) is = refl
from_test (negsuc n) is = absurd (cc is)

behind_from : (unit last stamp : ℕ) → last ≤ stamp → pos 0 ≤ℤ (pos unit *ℤ (pos stamp -ℤ pos last))
behind_from unit last stamp le = mulz_from (pos unit) (pos stamp -ℤ pos last) (natural unit) (apart last stamp le)
  where
    natural : (n : ℕ) → pos 0 ≤ℤ pos n
    natural n = omega (arith, ints)

    apart : (a b : ℕ) → a ≤ b → pos 0 ≤ℤ (pos b -ℤ pos a)
    apart a b le = omega (arith, ints, le)

-- ---- all entries

-- what becomes of entries: each sighting is that of a frame that was sent, and each frame comes in time
pub record AreSent (log : List SentFrame) (fates : List Fate) : Type 0 where
  pub sightings : All (IsAmongSent log) (filter_map sighting_in fates)
  pub timely : filter_map untimely_in fates ≡ []

module _
    (x : Setting) (h : Cycles) (base : ℕ) (delays : ℕ → Channel → Delays) (clock : ℕ → StraightClock) (l : LogView) (log : List SentFrame)
    (sane : IsSane x.params) (seen : IsSeenOf x h base (observer_of l) delays clock log)
  where
    -- no entry is stamped before the last sighting, which was sent
    abbrev IsFrom : Option Sighting → List Entry → List SentFrame → Type 0
    IsFrom None entries rest = BeginsAsCounted rest
    IsFrom (Some last) entries rest = IsAmongSent log last × All (λ (e : Entry). last.stamp ≤ e.stamp) entries

    abbrev RestIsSent : List Entry → Type 0
    RestIsSent entries =
        (after : Option Sighting) (more : List SentFrame) → All (Contains log) more → AllZip IsToldOf (filter_map (judged_in x.params l) entries) more → IsFrom after entries more
        → AreSent log (fates_from x.params l after entries)

    -- a frame that is no sighting, and comes in time
    skipped : (found : Fate) (last : Option Sighting) (entries : List Entry) → IsNoFrame found → AreSent log (fates_from x.params l last entries)
        → AreSent log (found ∷ fates_from x.params l (last_behind last found) entries)
    skipped found last entries none rest =
        record {
          sightings =
              subst (λ s. All (IsAmongSent log) (cons_option s (filter_map sighting_in (fates_from x.params l (option_or s last) entries)))) (sym none.0)
              rest.sightings;
          timely = (λ i. cons_option (none.1 i) (filter_map untimely_in (fates_from x.params l (option_or (none.0 i) last) entries))) ∙ rest.timely;
        }

    -- a frame that was sent, no long silence behind the last sighting
    module _
        (last judged : Sighting) (f g : SentFrame) (there : Contains log f) (told : IsToldOf judged f) (among : Contains log g) (is : IsSightingOf last g)
        (later : last.stamp ≤ judged.stamp) (silent : int_lt (longest_silence x.params) (pos l.unit *ℤ (pos judged.stamp -ℤ pos last.stamp)) ≡ false)
      where
        apart_is : stamped_apart (observer_of l) g f ≡ pos l.unit *ℤ (pos judged.stamp -ℤ pos last.stamp)
        apart_is = ap (λ n. pos l.unit *ℤ (n -ℤ g.frame.stamp)) told.stamp ∙ ap (λ n. pos l.unit *ℤ (pos judged.stamp -ℤ n)) is.told.stamp

        within_silence : IsBetween (pos 0) (longest_silence x.params) (stamped_apart (observer_of l) g f)
        within_silence =
            let within : IsBetween (pos 0) (longest_silence x.params) (pos l.unit *ℤ (pos judged.stamp -ℤ pos last.stamp)) =
            record {
              low = behind_from l.unit last.stamp judged.stamp later;
              high = less_false (longest_silence x.params) (pos l.unit *ℤ (pos judged.stamp -ℤ pos last.stamp)) silent;
            } in
            subst (IsBetween (pos 0) (longest_silence x.params)) (sym apart_is) within

        -- its number is found from that of the last sighting
        number_is : next_number (pos last.number) judged.count ≡ f.frame.number
        number_is =
            ap (λ n. next_number n judged.count) (sym is.number) ∙ ap (next_number g.frame.number) (sym told.count)
            ∙ seen_numbers_are_found x h base (observer_of l) delays clock log g f sane seen among there within_silence

        -- and it comes when that says
        comes_in_time : is_timely x.params (pos l.unit *ℤ (pos judged.stamp -ℤ pos last.stamp)) (next_number (pos last.number) judged.count -ℤ pos last.number)
            (pos (action_point_of x.params judged.slot) -ℤ pos (action_point_of x.params last.slot))
            ≡ true
        comes_in_time =
            (λ i.
            is_timely x.params (sym apart_is i) (number_is i -ℤ sym is.number i)
            (pos (action_point_of x.params (sym told.slot i)) -ℤ pos (action_point_of x.params (sym is.told.slot i))))
            ∙ seen.timely g f among there within_silence

    -- a sighting more
    one_more : (s : Sighting) (f : SentFrame) (entries : List Entry) (more : List SentFrame) → Contains log f → IsSightingOf s f → All (λ (e : Entry). s.stamp ≤ e.stamp) entries
        → All (Contains log) more → AllZip IsToldOf (filter_map (judged_in x.params l) entries) more → RestIsSent entries
        → AreSent log (fate.Seen s ∷ fates_from x.params l (Some s) entries)
    one_more s f entries more there is later others told go =
        let among : IsAmongSent log s = record { sent = f; there = there; is = is } in
        let rest = go (Some s) more others told (among, later) in
        record {
          sightings = All-cons (IsAmongSent log) s (filter_map sighting_in (fates_from x.params l (Some s) entries)) among rest.sightings;
          timely = rest.timely;
        }

    -- a frame that is judged, as the first one and behind another one
    module _ (e : Entry) (header : Header) (sending : Sending) (entries : List Entry) (later : All (λ (o : Entry). e.stamp ≤ o.stamp) entries) (go : RestIsSent entries) where
      abbrev Judged : Sighting
      Judged = sighting_with header.cycle (judged_as e header sending)

      judged_first : (rest : List SentFrame) → All (Contains log) rest → AllZip IsToldOf (Judged ∷ filter_map (judged_in x.params l) entries) rest → BeginsAsCounted rest
          → AreSent log (fate.Seen Judged ∷ fates_from x.params l (Some Judged) entries)
      judged_first [] there told first = absurd told
      judged_first (f ∷ more) there told first =
          one_more Judged f entries more (All-head (Contains log) f more there) (record { number = first ∙ ap pos told.0.count; told = told.0 }) later
          (All-tail (Contains log) f more there) told.1 go

      judged_behind : (last : Sighting) (rest : List SentFrame) → All (Contains log) rest → AllZip IsToldOf (Judged ∷ filter_map (judged_in x.params l) entries) rest
          → IsAmongSent log last → last.stamp ≤ e.stamp → All (λ (o : Entry). last.stamp ≤ o.stamp) entries
          → (behind : Bool) → is_behind_silence x.params l last (judged_as e header sending) ≡ behind
          → (timely : Bool) → is_in_time x.params l last (judged_as e header sending) ≡ timely
          → (orders : Bool) → keeps_order last (number_behind last (judged_as e header sending)) ≡ orders
          → AreSent log
          (fate_behind x.params l last (judged_as e header sending) ∷ fates_from x.params l (last_behind (Some last) (fate_behind x.params l last (judged_as e header sending))) entries)
      judged_behind last [] there told among before after behind at timely comes orders is = absurd told
      judged_behind last (f ∷ more) there told among before after true at timely comes orders is =
          rw at (skipped fate.Behind (Some last) entries (refl, refl) (go (Some last) more (All-tail (Contains log) f more there) told.1 (among, after)))
      judged_behind last (f ∷ more) there told among before after false at false comes orders is =
          let in_time : true ≡ false =
          sym (comes_in_time last Judged f among.sent (All-head (Contains log) f more there) told.0 among.there among.is before at) ∙ comes in
          absurd (cc in_time)
      judged_behind last (f ∷ more) there told among before after false at true comes false is =
          rw (at, comes, is) (skipped fate.Stray (Some last) entries (refl, refl) (go (Some last) more (All-tail (Contains log) f more there) told.1 (among, after)))
      judged_behind last (f ∷ more) there told among before after false at true comes true is =
          let number = number_behind last (judged_as e header sending) in
          let found : number ≡ f.frame.number = number_is last Judged f among.sent (All-head (Contains log) f more there) told.0 among.there among.is before at in
          let s : Sighting = sighting_with (nat_abs number) (judged_as e header sending) in
          let told_of : IsToldOf s f =
          record { by_node = told.0.by_node; slot = told.0.slot; channel = told.0.channel; count = told.0.count; stamp = told.0.stamp } in
          let numbered : f.frame.number ≡ pos (nat_abs number) = sym found ∙ sym (from_test number (first_of number last is)) in
          rw (at, comes, is)
          (
          one_more s f entries more (All-head (Contains log) f more there) (record { number = numbered; told = told_of }) later
          (All-tail (Contains log) f more there) told.1 go
          )
        where
          first_of : (n : ℤ) (last : Sighting) → keeps_order last n ≡ true → int_le (pos 0) n ≡ true
          first_of n last is = (both (int_le (pos 0) n) (int_le n (pos 199_999)) (both (int_le (pos 0) n && int_le n (pos 199_999)) (keeps n last) is).0).0
            where
              keeps : ℤ → Sighting → Bool
              keeps n last = nat_le (double_cycle_of last.number) (double_cycle_of (nat_abs n))

      judged_by : (last : Option Sighting) (rest : List SentFrame) → All (Contains log) rest → AllZip IsToldOf (Judged ∷ filter_map (judged_in x.params l) entries) rest
          → IsFrom last (e ∷ entries) rest
          → AreSent log
          (fate_judged x.params l last (judged_as e header sending) ∷ fates_from x.params l (last_behind last (fate_judged x.params l last (judged_as e header sending))) entries)
      judged_by None rest there told first = judged_first rest there told first
      judged_by (Some last) rest there told at =
          judged_behind last rest there told at.0 (All-head (λ (o : Entry). last.stamp ≤ o.stamp) e entries at.1) (All-tail (λ (o : Entry). last.stamp ≤ o.stamp) e entries at.1)
          (is_behind_silence x.params l last (judged_as e header sending)) refl
          (is_in_time x.params l last (judged_as e header sending)) refl (keeps_order last (number_behind last (judged_as e header sending))) refl

    passed : (last : Option Sighting) (e : Entry) (entries : List Entry) (rest : List SentFrame) → IsFrom last (e ∷ entries) rest → IsFrom last entries rest
    passed None e entries rest at = at
    passed (Some last) e entries rest at = (at.0, All-tail (λ (o : Entry). last.stamp ≤ o.stamp) e entries at.1)

    -- an entry more
    with_entry : (e : Entry) (entries : List Entry) (last : Option Sighting) (rest : List SentFrame) → All (λ (o : Entry). e.stamp ≤ o.stamp) entries → All (Contains log) rest
        → AllZip IsToldOf (cons_option (judged_in x.params l e) (filter_map (judged_in x.params l) entries)) rest → IsFrom last (e ∷ entries) rest → RestIsSent entries
        → IsNoSighting x.params l e ⊎ IsJudgedBy x.params l e
        → AreSent log (fate_of x.params l last e ∷ fates_from x.params l (last_behind last (fate_of x.params l last e)) entries)
    with_entry e entries last rest later there told at go (inl none) =
        let others : List Sighting = filter_map (judged_in x.params l) entries in
        let told_on : AllZip IsToldOf others rest = subst (λ s. AllZip IsToldOf (cons_option s others) rest) (none None).0 told in
        skipped (fate_of x.params l last e) last entries (none last) (go last rest there told_on (passed last e entries rest at))
    with_entry e entries last rest later there told at go (inr judged) =
        let others : List Sighting = filter_map (judged_in x.params l) entries in
        let told_on : AllZip IsToldOf (sighting_with judged.header.cycle (judged_as e judged.header judged.sending) ∷ others) rest =
        subst (λ s. AllZip IsToldOf (cons_option (sighting_in s) others) rest) (judged.fated None) told in
        let From : Fate → Type 0 = λ s. AreSent log (s ∷ fates_from x.params l (last_behind last s) entries) in
        subst From (sym (judged.fated last)) (judged_by e judged.header judged.sending entries later go last rest there told_on at)

    sent_from : (entries : List Entry) (last : Option Sighting) (rest : List SentFrame) → IsNonDecreasingBy (λ (e : Entry). e.stamp) entries → All (Contains log) rest
        → AllZip IsToldOf (filter_map (judged_in x.params l) entries) rest → IsFrom last entries rest
        → AreSent log (fates_from x.params l last entries)
    unfolding fates_from
    sent_from [] last rest ascending there told at = record { sightings = λ i d within. absurd (omega (arith, within)); timely = refl }
    sent_from (e ∷ entries) last rest ascending there told at =
        with_entry e entries last rest (λ i d within. ascending 0 (suc i) d (omega arith) (omega (arith, within))) there told at
        (λ after more others told_on from.
        sent_from entries after more (λ i j d before within. ascending (suc i) (suc j) d (omega (arith, before)) (omega (arith, within))) others told_on from)
        (entry_told x.params l e)

log_is_sent : (x : Setting) (h : Cycles) (base : ℕ) (delays : ℕ → Channel → Delays) (clock : ℕ → StraightClock) (l : LogView)
    → IsSane x.params → IsLog l → (seen : IsLogSeen x h base delays clock l) → AreSent seen.sent (fates_of x.params l)
unfolding judged_of
log_is_sent x h base delays clock l sane is_log seen =
    sent_from x h base delays clock l seen.sent sane seen.seen l.entries None seen.sent is_log.ascending (All-contains_itself seen.sent) seen.told seen.first

pub sightings_are_sent : SightingsAreSent
unfolding sightings_of
sightings_are_sent x h base delays clock l sane is_log seen = (log_is_sent x h base delays clock l sane is_log seen).sightings

pub no_frame_is_untimely : NoFrameIsUntimely
unfolding untimely_of
no_frame_is_untimely x h base delays clock l sane is_log seen = (log_is_sent x h base delays clock l sane is_log seen).timely
