-- No frame is irregular where each whole frame in the slot of a node is one that the node sends.
use Rattle.std.proofs.Common.{◌≡◌, ℕ, ◌==◌, Bool, true, false, not, Option, Some, None, List, [], ◌∷◌, refl, ap, ◌∙◌, arith}
use Rattle.std.specs.Prelude.{◌&&◌, Contains, filter_map, nat_abs, if◌then◌else◌}
use Rattle.std.specs.List.{cons_option}
use Rattle.fr_base.specs.declared.channel.Channel.{Channel}
use Rattle.fr_cluster.specs.Questions.{has_channel, node_of}
use Rattle.fr_cluster.specs.Setting.{Setting}
use Rattle.fr_cluster.specs.Values.{Values}
use Rattle.fr_cluster.proofs.Elements.{Contains-here, Contains-there}
use Rattle.fr_frame.specs.declared.header.Header.{Header}
use Rattle.fr_time.specs.declared.senders.Sending.{Sending}
use Rattle.fr_reception.specs.Regular.{is_sync_frame, regular_header}
use Rattle.fr_history.specs.Cycles.{Cycles}
use Rattle.fr_log.specs.View.{LogView, is_arbitrary_in}
use Rattle.fr_log.specs.declared.entry.Entry.{Entry}
use Rattle.fr_sightings.specs.Judging.{has_form_of, is_regular_of, is_same_indicator, judged_as, judgement_of, static_sending, whole_header}
use Rattle.fr_sightings.specs.Sightings.{fate_judged, fate_of, fates_from, irregular_in, irregular_of, is_behind_silence, is_in_time, keeps_order, last_behind, number_behind, sighting_with}
use Rattle.fr_sightings.specs.declared.sighting.Fate.TheVariants as fate
use Rattle.fr_sightings.specs.declared.sighting.Sighting.{Sighting}
use Rattle.fr_seen.specs.OwnSlots.{IsOfForm, IsOwnFrame, NoFrameIsIrregular}

-- ---- the form of a frame

equal : (a b : ℕ) → a ≡ b → (a == b) ≡ true
equal a b is = grind (arith, is)

same_indicator : (regular got : Bool) → got ≡ regular → is_same_indicator regular got ≡ true
same_indicator true got is = is
same_indicator false got is = ap not is

both_pass : (a b : Bool) → a ≡ true → b ≡ true → (a && b) ≡ true
both_pass a b is other = (λ i. is i && b) ∙ other

form_is : (regular header : Header) → IsOfForm regular header → has_form_of regular header ≡ true
form_is regular header is =
    both_pass ((header.words == regular.words) && is_same_indicator regular.sync header.sync) (is_same_indicator regular.startup header.startup)
    (both_pass (header.words == regular.words) (is_same_indicator regular.sync header.sync) (equal header.words regular.words is.words)
    (same_indicator regular.sync header.sync is.sync))
    (same_indicator regular.startup header.startup is.startup)

-- a frame that its sender sends is regular
own_is_regular : (x : Setting) (h : Cycles) (channel : Channel) (header : Header) (sending : Sending) → IsOwnFrame x h channel header sending
    → is_regular_of x.params channel header sending ≡ true
own_is_regular x h channel header sending own =
    both_pass (has_channel (node_of x.params sending.node) channel) (has_form_of (regular_header x.params sending header.id header.cycle) header) own.on_channel
    (
    form_is (regular_header x.params sending header.id header.cycle) header
    (record { words = own.form.words; sync = own.form.sync; startup = own.form.startup })
    )

-- ---- an entry

-- a frame that is judged is not irregular
judged_none : (p : Values) (l : LogView) (last : Option Sighting) (e : Entry) (header : Header) (sending : Sending)
    → irregular_in (fate_judged p l last (judged_as e header sending)) ≡ None
judged_none p l None e header sending = refl
judged_none p l (Some last) e header sending =
    let number = number_behind last (judged_as e header sending) in
    by (is_behind_silence p l last (judged_as e header sending)) (is_in_time p l last (judged_as e header sending)) (keeps_order last number)
    (sighting_with last.number (judged_as e header sending)) (sighting_with (nat_abs number) (judged_as e header sending))
  where
    by : (behind timely orders : Bool) (late seen : Sighting)
        → irregular_in (if behind then fate.Behind else (if timely then (if orders then fate.Seen seen else fate.Stray) else fate.Untimely late)) ≡ None
    by true timely orders late seen = refl
    by false false orders late seen = refl
    by false true false late seen = refl
    by false true true late seen = refl

-- nor is an entry whose frame, where it has one of a node that is not named arbitrary, is one that its sender sends
IsRegularHere : Values → LogView → Entry → Type 0
IsRegularHere p l e =
    (header : Header) (sending : Sending) → whole_header e.kind e.channel e.bytes ≡ Some header → static_sending p header ≡ Some sending
    → is_arbitrary_in l sending.node ≡ false → is_regular_of p e.channel header sending ≡ true

module _ (p : Values) (l : LogView) (e : Entry) (last : Option Sighting) where
  sending_none : (header : Header) (sending : Sending) → whole_header e.kind e.channel e.bytes ≡ Some header → static_sending p header ≡ Some sending
      → (arbitrary : Bool) → is_arbitrary_in l sending.node ≡ arbitrary
      → (is_arbitrary_in l sending.node ≡ false → is_regular_of p e.channel header sending ≡ true)
      → (sync : Bool) → is_sync_frame sending.kind ≡ sync → irregular_in (fate_of p l last e) ≡ None
  unfolding fate_of judgement_of
  sending_none header sending whole sends true at regular sync kind = rw (whole, sends, at) refl
  sending_none header sending whole sends false at regular false kind = rw (whole, sends, at, regular at, kind) refl
  sending_none header sending whole sends false at regular true kind = rw (whole, sends, at, regular at, kind) (judged_none p l last e header sending)

  header_none : (header : Header) → whole_header e.kind e.channel e.bytes ≡ Some header → (sending : Option Sending) → static_sending p header ≡ sending
      → IsRegularHere p l e → irregular_in (fate_of p l last e) ≡ None
  unfolding fate_of judgement_of IsRegularHere
  header_none header whole None sends regular = rw (whole, sends) refl
  header_none header whole (Some sending) sends regular =
      sending_none header sending whole sends (is_arbitrary_in l sending.node) refl (regular header sending whole sends) (is_sync_frame sending.kind) refl

  entry_none : (header : Option Header) → whole_header e.kind e.channel e.bytes ≡ header → IsRegularHere p l e → irregular_in (fate_of p l last e) ≡ None
  unfolding fate_of judgement_of
  entry_none None whole regular = rw whole refl
  entry_none (Some header) whole regular = header_none header whole (static_sending p header) refl regular

-- ---- all entries

none_from : (p : Values) (l : LogView) (entries : List Entry) (last : Option Sighting) → ((e : Entry) → Contains entries e → IsRegularHere p l e)
    → filter_map irregular_in (fates_from p l last entries) ≡ []
unfolding fates_from
none_from p l [] last regular = refl
none_from p l (e ∷ entries) last regular =
    let found = fate_of p l last e in
    (λ i. cons_option (entry_none p l e last (whole_header e.kind e.channel e.bytes) refl (regular e (Contains-here e entries)) i)
    (filter_map irregular_in (fates_from p l (last_behind last found) entries)))
    ∙ none_from p l entries (last_behind last found) (λ other among. regular other (Contains-there e entries other among))

pub no_frame_is_irregular : NoFrameIsIrregular
unfolding irregular_of IsRegularHere
no_frame_is_irregular x h l own =
    none_from x.params l l.entries None
    (λ e among header sending whole sends named. own_is_regular x h e.channel header sending (own e header sending among whole sends named))
