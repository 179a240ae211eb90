-- One receiver alone: its terms are not cut, and its next start lies among the ends of the senders.
use Rattle.fr_correct.specs.Terms.{offset_term_of, rate_term_of}
use Rattle.fr_correct.proofs.There.{offset_term_is_there, rate_term_is_there}
use Rattle.fr_precision.specs.Offsets.{IsOffsetRound}
use Rattle.fr_precision.specs.Rates.{IsRateRound}
use Rattle.fr_precision.proofs.OffsetLaws.{corrected_end_lies_among, offset_terms_are_uncut}
use Rattle.fr_precision.proofs.RateLaws.{rate_terms_are_uncut}
use Rattle.fr_precision.specs.Round.{HearersAreGuided, offsets_of, rates_of, senders_of}
use Rattle.fr_precision.proofs.RoundSenders.{some_senders}
use Rattle.fr_precision.proofs.Values.{hears_all}

pub hearers_are_guided : HearersAreGuided
hearers_are_guided r reach lengths least greatest n is guided =
    let p = r.params in
    let senders = senders_of r in
    let offset = offset_term_of p.offset_limit (offsets_of n) in
    let rate = rate_term_of n.odd.rate p.damping p.rate_limit (rates_of n) in
    let heard = hears_all r reach n is guided.hearer in
    let micro = guided.hearer.regular.odd_micro in
    let some = some_senders r is in
    let by_offset : IsOffsetRound p senders n.odd (offsets_of n) offset = record {
      micro = micro;
      hears = heard.offsets;
      is_term = offset_term_is_there p.offset_limit (offsets_of n);
      applied = guided.applied;
    } in
    let by_rate : IsRateRound p senders n.odd (rates_of n) rate = record {
      micro = micro;
      hears = heard.rates;
      is_term = rate_term_is_there n.odd.rate p.damping p.rate_limit (rates_of n);
    } in
    record {
      offset_within = offset_terms_are_uncut p senders reach n.odd (offsets_of n) offset is.sane guided.hearer.suffices some guided.reached by_offset;
      range = rate_terms_are_uncut p senders n.odd (rates_of n) rate is.sane guided.first guided.second some guided.proper by_rate;
      start =
          corrected_end_lies_among p senders lengths reach least greatest n.odd (offsets_of n) offset is.sane guided.hearer.suffices some guided.sending guided.reached guided.near guided.from guided.to
          by_offset;
    }
