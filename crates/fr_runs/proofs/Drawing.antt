-- A round whose receivers have rows and lie so far apart is a double cycle as the step asks for, and any two of them draw near.
use Rattle.std.proofs.Common.{◌≡◌, ℕ, false, ℤ, pos, List, All, map, sym, subst}
use Rattle.std.specs.Prelude.{Contains}
use Rattle.std.proofs.lemmas.List.Elements.{All-contains_itself}
use Rattle.fr_base.specs.Within.{IsWithin}
use Rattle.fr_base.specs.declared.node_row.NodeRow.{NodeRow}
use Rattle.fr_cluster.specs.Sane.{IsSane}
use Rattle.fr_cluster.specs.Values.{Values}
use Rattle.fr_cluster.specs.declared.nodes.NodeSpec.{NodeSpec}
use Rattle.fr_time.specs.Slots.{action_point_of}
use Rattle.fr_correct.proofs.There.{offset_term_is_there, rate_term_is_there}
use Rattle.fr_precision.specs.Rows.{KeepOne}
use Rattle.fr_precision.specs.Instants.{gap_of, LieNear, Runs}
use Rattle.fr_precision.specs.Offsets.{IsSending}
use Rattle.fr_precision.specs.Placement.{IsRegular}
use Rattle.fr_precision.specs.Step.{AllKeepOne, AreSpread, ComputesTerms, IsAmong, IsSpreadDouble, Member}
use Rattle.fr_precision.proofs.InstantLaws.{actions_stay_near}
use Rattle.fr_precision.proofs.OffsetLaws.{micro_lasts}
use Rattle.fr_precision.proofs.Senders.{All-along}
use Rattle.fr_precision.proofs.StepLaws.{nodes_near, spreads_shrink_lem}
use Rattle.fr_history.proofs.Lists.{map-map}
use Rattle.fr_precision.specs.Round.{Hearer, IsHearer, IsRound, IsSender, Round, offsets_of, rates_of, sender_with, senders_of}
use Rattle.fr_precision.proofs.Values.{acts_before, hearers_keep_one, hears_all}
use Rattle.fr_runs.proofs.Receivers.{no_less}
use Rattle.fr_runs.specs.Drawn.{IsRoundSpread, RoundsDrawNear}
use Rattle.fr_runs.specs.Hearers.{IsSupplied, member_from}
use Rattle.fr_precision.proofs.RoundLemmas.{all_senders, contains_map, map_contains, sender_among}

pub runs_of : (p : Values) (even odd : NodeRow) → IsSane p → IsRegular p even odd → Runs p even odd
runs_of p even odd sane regular = record {
  double = regular.double;
  even_lasts = micro_lasts p even sane regular.even_micro;
  odd_lasts = micro_lasts p odd sane regular.odd_micro;
}

pub sending : (r : Round) → IsRound r → All (IsSending r.params) (senders_of r)
sending r round =
    let p = r.params in
    all_senders r (IsSending p)
    (λ index sender from.
    let regular = round.regular from.node from.from.there from.from.rows in
    let is : IsSending p (sender_with r from.slot from.node.id) = record {
      double = regular.double;
      lasts = micro_lasts p (r.odd from.node.id) round.sane regular.odd_micro;
      acts_from = no_less (action_point_of p from.slot);
      acts_to = acts_before r from.slot from.node round.sane from.from;
    } in
    subst (IsSending p) from.is is)

-- the senders are among the members of some receivers
pub all_among : (r : Round) (rows : List Hearer)
    → ((node : NodeSpec) (slot : ℕ) → IsSender r node slot → (n : Hearer) × Contains rows n × (n.even ≡ r.even node.id) × (n.odd ≡ r.odd node.id))
    → All (IsAmong (map (member_from r.params) rows)) (senders_of r)
all_among r rows among = all_senders r (IsAmong (map (member_from r.params) rows)) (sender_among r rows among)

-- ---- any receiver of it

-- what it hears suffices for its terms
pub computes_terms : (r : Round) (reach : ℤ) (n : Hearer) → IsRound r → IsSupplied r n → IsHearer r reach n → ComputesTerms r.params (senders_of r) (member_from r.params n)
computes_terms r reach n round supplied hearer =
    let p = r.params in
    let hears = hears_all r reach n round hearer in
    record {
      runs = runs_of p n.even n.odd round.sane supplied.regular;
      by_offset = record {
        micro = supplied.regular.odd_micro;
        hears = hears.offsets;
        is_term = offset_term_is_there p.offset_limit (offsets_of n);
        applied = supplied.applied;
      };
      by_rate = record {
        micro = supplied.regular.odd_micro;
        hears = hears.rates;
        is_term = rate_term_is_there n.odd.rate p.damping p.rate_limit (rates_of n);
      };
    }

-- ---- a round of nodes with rows

module _ (r : Round) (rows : List Hearer) (starts lengths reach : ℤ) (s : IsRoundSpread r rows starts lengths reach) where
  -- the rows of their members are theirs
  members_spread : AreSpread r.params starts lengths (map (λ (node : Member). node.even) (map (member_from r.params) rows)) (map (λ (node : Member). node.odd) (map (member_from r.params) rows))
  members_spread =
      let p = r.params in
      let evens = map-map (λ (node : Member). node.even) (member_from p) rows in
      let odds = map-map (λ (node : Member). node.odd) (member_from p) rows in
      let Even : List NodeRow → Type 0 = λ row. AreSpread p starts lengths row (map (λ (n : Hearer). n.odd) rows) in
      let Odd : List NodeRow → Type 0 = λ row. AreSpread p starts lengths (map (λ (node : Member). node.even) (map (member_from p) rows)) row in
      subst Odd (sym odds) (subst Even (sym evens) s.spread)

  pub rows_near : (row n : Hearer) → Contains rows row → Contains rows n → LieNear r.params starts lengths lengths row.even row.odd n.even n.odd
  rows_near row n there here =
      let at = member_from r.params in
      nodes_near r.params starts lengths (map at rows) (at row) (at n) members_spread (contains_map at rows row there) (contains_map at rows n here)

  pub row_hears : (n : Hearer) → Contains rows n → IsHearer r reach n
  row_hears n here =
      let p = r.params in
      let runs = λ (m : Hearer) (is : Contains rows m). runs_of p m.even m.odd s.round.sane (s.supplied m is).regular in
      record {
        regular = (s.supplied n here).regular;
        suffices = s.limit;
        near =
            λ index slot node other.
            let row = s.among node slot other.sender in
            let action = pos (action_point_of p slot) in
            let Near : NodeRow → Type 0 = λ even. IsWithin reach (gap_of p false action even n.even) in
            subst Near row.2
            (actions_stay_near p starts lengths reach action false row.0.even row.0.odd n.even n.odd s.round.sane (runs row.0 row.1) (runs n here) (rows_near row.0 n row.1 here) s.fits
            (no_less (action_point_of p slot)) (acts_before r slot node s.round.sane other.sender));
        supply = (s.supplied n here).hears;
      }

  rows_compute : All (ComputesTerms r.params (senders_of r)) (map (member_from r.params) rows)
  rows_compute =
      let at = member_from r.params in
      let Computes : Member → Type 0 = ComputesTerms r.params (senders_of r) in
      All-along (Contains (map at rows)) Computes (map at rows)
      (λ node is.
      let n = map_contains at rows node is in
      subst Computes n.2 (computes_terms r reach n.0 s.round (s.supplied n.0 n.1) (row_hears n.0 n.1)))
      (All-contains_itself (map at rows))

  rows_keep_one : AllKeepOne (senders_of r) (map (member_from r.params) rows)
  rows_keep_one one other here there =
      let at = member_from r.params in
      let senders = senders_of r in
      let first = map_contains at rows one here in
      let second = map_contains at rows other there in
      let kept = hearers_keep_one r reach reach first.0 second.0 s.round (row_hears first.0 first.1) (row_hears second.0 second.1) in
      let Keep : Member → Member → Type 0 = λ a b. KeepOne a.offsets b.offsets senders × KeepOne a.rates b.rates senders in
      let First : Member → Type 0 = λ a. Keep a other in
      subst First first.2 (subst (Keep (at first.0)) second.2 kept)

  pub spread_double : IsSpreadDouble r.params (senders_of r) (map (member_from r.params) rows) starts lengths reach
  spread_double = record {
    sane = s.round.sane;
    first = s.first;
    second = s.second;
    limit = s.limit;
    fits = s.fits;
    spread = members_spread;
    sending = sending r s.round;
    among = all_among r rows s.among;
    computes = rows_compute;
    keep = rows_keep_one;
  }

pub rounds_draw_near_lem : RoundsDrawNear
rounds_draw_near_lem r rows starts lengths reach one other s here there =
    let at = member_from r.params in
    spreads_shrink_lem r.params (senders_of r) (map at rows) starts lengths reach (at one) (at other) (spread_double r rows starts lengths reach s)
    (contains_map at rows one here) (contains_map at rows other there)
