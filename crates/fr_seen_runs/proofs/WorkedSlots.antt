-- Each frame of the worked log is one that the node of its slot sends.
use Rattle.std.proofs.Common.{◌≡◌, ◌∙◌, ℕ, Bool, Option, Some, All, refl, sym, lit<, subst}
use Rattle.std.proofs.lemmas.List.Elements.{All-contains}
use Rattle.fr_base.specs.declared.channel.Channel.TheVariants.{A}
use Rattle.fr_frame.specs.declared.header.Header.{Header}
use Rattle.fr_time.specs.declared.senders.Kind.TheVariants.{SyncFrame}
use Rattle.fr_time.specs.declared.senders.Sending.{Sending}
use Rattle.fr_reception.specs.Regular.{regular_header}
use Rattle.fr_history.proofs.Computing.{on_frames}
use Rattle.fr_log.specs.declared.entry.Entry.{Entry}
use Rattle.fr_log.specs.declared.entry.EntryKind.TheVariants.{Head}
use Rattle.fr_sightings.specs.Judging.{static_sending, whole_header}
use Rattle.fr_seen.specs.Observed.{IsSentIn, SentFrame}
use Rattle.fr_seen.specs.OwnSlots.{IsOwnFrame, SlotsAreOwn}
use Rattle.fr_seen_runs.specs.WorkedLog.{of_each, seen_cluster, seen_cycles, seen_entry, seen_header, seen_log, seen_run, sent_frame}
use Rattle.fr_seen_runs.proofs.WorkedSeen.{all_of, are_sent}

-- the node of a slot sends its sync frame there
abbrev own_sending : ℕ → Sending
own_sending node = record { node = node; kind = SyncFrame }

abbrev own_header : ℕ → ℕ → Header
own_header node cycle = regular_header seen_cluster (own_sending node) node cycle

own_of : (node cycle : ℕ) → IsSentIn seen_run seen_cycles 0 (sent_frame node cycle)
    → IsOwnFrame seen_run seen_cycles A (own_header node cycle) (own_sending node)
own_of node cycle sent =
    let frame : SentFrame = sent_frame node cycle in
    record {
      cycle = cycle;
      told = sent.told;
      has_cycle = sent.has_cycle;
      counted = refl;
      row = frame.row;
      has_row = sent.has_row;
      active = sent.active;
      on_channel = sent.on_channel;
      form = record { words = refl; sync = refl; startup = refl };
    }

-- what is computed of an entry: its header, and whose slot that is of
record IsWhole (node cycle : ℕ) : Type 0 where
  header : whole_header Head A (seen_header node cycle) ≡ Some (own_header node cycle)
  sending : static_sending seen_cluster (own_header node cycle) ≡ Some (own_sending node)

abbrev IsOwnEntry : Entry → Type 0
IsOwnEntry e =
    (header : Header) (sending : Sending) → whole_header e.kind e.channel e.bytes ≡ Some header → static_sending seen_cluster header ≡ Some sending
    → IsOwnFrame seen_run seen_cycles e.channel header sending

same : {X : Type 0} (a b : X) → Some a ≡ Some b → a ≡ b
same a b is = cc is

own_at : (node cycle : ℕ) → IsWhole node cycle → IsSentIn seen_run seen_cycles 0 (sent_frame node cycle) → IsOwnEntry (seen_entry node cycle)
own_at node cycle whole sent header sending is sends =
    let its_header : own_header node cycle ≡ header = same (own_header node cycle) header (sym whole.header ∙ is) in
    let its_sends : static_sending seen_cluster (own_header node cycle) ≡ Some sending =
    subst (λ (h : Header). static_sending seen_cluster h ≡ Some sending) (sym its_header) sends in
    let its_sending : own_sending node ≡ sending = same (own_sending node) sending (sym whole.sending ∙ its_sends) in
    subst (λ (h : Header). IsOwnFrame seen_run seen_cycles A h sending) its_header
    (subst (λ (s : Sending). IsOwnFrame seen_run seen_cycles A (own_header node cycle) s) its_sending (own_of node cycle sent))

all_own : All IsOwnEntry (of_each seen_entry)
unfolding on_frames
all_own =
    let first : SentFrame = sent_frame 1 0 in
    all_of IsOwnEntry seen_entry
    (own_at 1 0 (record { header = refl; sending = refl }) (are_sent 0 first (lit< tt)))
    (own_at 2 0 (record { header = refl; sending = refl }) (are_sent 1 first (lit< tt)))
    (own_at 1 1 (record { header = refl; sending = refl }) (are_sent 2 first (lit< tt)))
    (own_at 2 1 (record { header = refl; sending = refl }) (are_sent 3 first (lit< tt)))
    (own_at 1 2 (record { header = refl; sending = refl }) (are_sent 4 first (lit< tt)))
    (own_at 2 2 (record { header = refl; sending = refl }) (are_sent 5 first (lit< tt)))
    (own_at 1 3 (record { header = refl; sending = refl }) (are_sent 6 first (lit< tt)))
    (own_at 2 3 (record { header = refl; sending = refl }) (are_sent 7 first (lit< tt)))

pub slots_are_own : (since : Option ℕ) (whole : Bool) → SlotsAreOwn seen_run seen_cycles (seen_log since whole)
slots_are_own since whole e header sending among is sends named = All-contains IsOwnEntry (of_each seen_entry) e all_own among header sending is sends
