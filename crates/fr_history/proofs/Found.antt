-- Receptions and counts that obey the laws are those that the functions give.
use Rattle.std.proofs.Common.{◌≡◌, ℕ, List, All, map, ap, sym, ◌∙◌}
use Rattle.fr_base.specs.declared.cycle_row.Counts.{Counts}
use Rattle.fr_base.specs.declared.node_row.NodeRow.{NodeRow}
use Rattle.fr_cluster.specs.Values.{Values}
use Rattle.fr_reception.specs.Answers.{IsAnswer, answer_of}
use Rattle.fr_reception.specs.Offers.{Offer}
use Rattle.fr_reception.specs.declared.heard.Heard.{Heard}
use Rattle.fr_cluster.specs.Setting.{Setting}
use Rattle.fr_history.specs.Offers.{AreReceptionsBetween, IsProper, Reception, offer_pair, reception_of, receptions_among, receptions_between}
use Rattle.fr_history.specs.Rows.{AreCounts}
use Rattle.fr_history.specs.Records.{counts_over}
use Rattle.fr_history.proofs.Lists.{map-map, map_left}
use Rattle.std.proofs.lemmas.List.Elements.{All-weaker}

-- each answer is the one that the function gives
abbrev pub AnswersAreFound : Type 0
AnswersAreFound = (p : Values) (cycle : ℕ) (row : NodeRow) (offer : Offer) (heard : Heard) → IsAnswer p cycle row offer heard → heard ≡ answer_of p cycle row offer

-- ---- receptions

reception_is : AnswersAreFound → (x : Setting) (cycle : ℕ) (reception : Reception) → IsProper x cycle reception → reception ≡ reception_of x cycle (offer_pair reception)
reception_is found x cycle reception proper =
    ap (λ (heard : Heard). let made : Reception = record { receiver = reception.receiver; offer = reception.offer; heard = heard } in made)
    (found x.params cycle reception.receiver reception.offer reception.heard proper)

receptions_are : AnswersAreFound → (x : Setting) (cycle : ℕ) (receptions : List Reception) → All (IsProper x cycle) receptions → receptions ≡ map (reception_of x cycle) (map offer_pair receptions)
receptions_are found x cycle receptions proper =
    sym (map-map (reception_of x cycle) offer_pair receptions
    ∙ map_left (λ reception. reception_of x cycle (offer_pair reception)) receptions
    (All-weaker (IsProper x cycle) (λ reception. reception_of x cycle (offer_pair reception) ≡ reception) (λ reception is. sym (reception_is found x cycle reception is)) receptions proper))

pub receptions_found : AnswersAreFound → (x : Setting) (cycle : ℕ) (rows receivers : List NodeRow) (receptions : List Reception) → AreReceptionsBetween x cycle rows receivers receptions
    → receptions ≡ receptions_between x cycle rows receivers
receptions_found found x cycle rows receivers receptions are =
    receptions_are found x cycle receptions are.answered ∙ ap (map (reception_of x cycle)) are.whole

-- ---- counts

counts_with : ℕ → ℕ → ℕ → ℕ → ℕ → ℕ → ℕ → ℕ → ℕ → ℕ → ℕ → Counts
counts_with sa sb xa xb stored outside damaged id cycle long plain = record {
  sent_a = sa;
  sent_b = sb;
  xor_a = xa;
  xor_b = xb;
  stored = stored;
  outside = outside;
  damaged = damaged;
  wrong_id = id;
  wrong_cycle = cycle;
  wrong_length = long;
  plain = plain;
}

-- counts are the same where each of them is
counts_same : (a b : Counts) → a.sent_a ≡ b.sent_a → a.sent_b ≡ b.sent_b → a.xor_a ≡ b.xor_a → a.xor_b ≡ b.xor_b → a.stored ≡ b.stored →
    a.outside ≡ b.outside → a.damaged ≡ b.damaged → a.wrong_id ≡ b.wrong_id → a.wrong_cycle ≡ b.wrong_cycle → a.wrong_length ≡ b.wrong_length → a.plain ≡ b.plain → a ≡ b
unfolding counts_with
counts_same a b h0 h1 h2 h3 h4 h5 h6 h7 h8 h9 h10 =
    let made : counts_with a.sent_a a.sent_b a.xor_a a.xor_b a.stored a.outside a.damaged a.wrong_id a.wrong_cycle a.wrong_length a.plain
    ≡ counts_with b.sent_a b.sent_b b.xor_a b.xor_b b.stored b.outside b.damaged b.wrong_id b.wrong_cycle b.wrong_length b.plain = cc in
    made

-- the counts of the receptions of some rows
pub counts_over_found : (x : Setting) (cycle : ℕ) (rows : List NodeRow) (counts : Counts) → AreCounts x cycle rows (receptions_among x cycle rows) counts → counts ≡ counts_over x cycle rows
counts_over_found x cycle rows counts are =
    counts_same counts (counts_over x cycle rows) are.sent_a are.sent_b are.xor_a are.xor_b are.stored are.outside are.damaged are.wrong_id are.wrong_cycle are.wrong_length are.plain
