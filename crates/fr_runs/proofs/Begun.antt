-- A node that begins to follow behind a double cycle: its reference is one of the senders, and its rows are its first ones.
use Rattle.std.proofs.Common.{◌≡◌, ℕ, suc, ◌*◌, ℤ, Option, Some, None, List, [], ◌∷◌, length, ap, sym, ◌∙◌, subst, inl, inr, arith}
use Rattle.std.specs.Prelude.{Contains}
use Rattle.std.specs.List.{cons_option, filter_map, range_with_len}
use Rattle.std.proofs.lemmas.Bool.{and_from}
use Rattle.fr_base.specs.Within.{IsWithin}
use Rattle.fr_cluster.specs.Sane.{IsSane}
use Rattle.fr_cluster.specs.Setting.{Setting, correct_nodes, is_correct}
use Rattle.fr_cluster.specs.declared.nodes.NodeSpec.{NodeSpec}
use Rattle.fr_cluster.proofs.KeyIndexes.{index-lt}
use Rattle.fr_cluster.proofs.KeyNodes.{Contains-cons_cases, key_among}
use Rattle.fr_reception.specs.Listening.{Caught}
use Rattle.fr_precision.specs.Rows.{Sender}
use Rattle.fr_runs.specs.Listening.{BeginsAt, IsCaught}
use Rattle.fr_runs.proofs.Listened.{first_rate_is_within}
use Rattle.fr_history.specs.Cycles.{Cycle, Cycles}
use Rattle.fr_history.specs.Laws.{follower_laws, follower_offset}
use Rattle.fr_history.specs.Standing.{following_nodes, has_row, row_nodes}
use Rattle.fr_precision.specs.Round.{IsSender, Round, sender_at, sender_with, senders_of}
use Rattle.fr_precision.proofs.Counting.{range_contains}
use Rattle.fr_time.proofs.Keys.{key_index_is, rank_of, slot_of_index}
use Rattle.fr_cluster.proofs.Elements.{Contains-here, Contains-none, Contains-there, filtered}
use Rattle.fr_precision.proofs.RoundSenders.{sender_found}
use Rattle.fr_history.specs.History.{row_for}
use Rattle.fr_runs.proofs.Doubles.{even_length}
use Rattle.fr_runs.proofs.Rows.{row_runs_by}
use Rattle.fr_runs.specs.Gathered.{followers_since, round_at}
use Rattle.fr_runs.proofs.Courses.{follower_two, is_correct_follower, proper_micro, rate_begun, start_begun, steady}
use Rattle.fr_runs.proofs.Going.{is_since}
use Rattle.fr_runs.proofs.Moved.{IsStep, two_on}
use Rattle.fr_runs.proofs.Reach.{some_follows}

-- ---- whoever sends is among the senders

past : {X : Type 0} (o : Option X) (xs : List X) (x : X) → Contains xs x → Contains (cons_option o xs) x
past None xs x among = among
past (Some y) xs x among = Contains-there y xs x among

mapped_there : {X : Type 0} (who : ℕ → Option X) (is : List ℕ) (i : ℕ) (x : X) → Contains is i → who i ≡ Some x → Contains (filter_map who is) x
mapped_there who [] i x among some = absurd (Contains-none i among)
mapped_there {X = X} who (j ∷ is) i x among some = elim (Contains-cons_cases j is i among) [
  | inl first ↦
      let Has : Option X → Type 0 = λ o. Contains (cons_option o (filter_map who is)) x in
      subst Has (sym (ap who first ∙ some)) (Contains-here x (filter_map who is))
  | inr later ↦ past (who j) (filter_map who is) x (mapped_there who is i x later some)
]

pub sender_there : (r : Round) (node : NodeSpec) (slot : ℕ) → IsSane r.params → IsSender r node slot → Contains (senders_of r) (sender_with r slot node.id)
sender_there r node slot sane from =
    let index = rank_of r.params slot in
    let is = key_index_is r.params slot (key_among r.params.nodes node slot from.there from.key) in
    mapped_there (sender_at r) (range_with_len 0 15) index (sender_with r slot node.id) (range_contains 15 index (index-lt r.params slot index sane is))
    (sender_found r index slot node sane from (slot_of_index r.params index slot is))

-- a node with a row and a key slot sends
pub row_sends : (x : Setting) (h : Cycles) (even odd : Cycle) (node : NodeSpec) (slot : ℕ) → Contains (row_nodes x h) node → node.key ≡ Some slot → IsSender (round_at x h even odd) node slot
row_sends x h even odd node slot among key =
    let row = filtered (λ (n : NodeSpec). has_row x h n.id) (correct_nodes x) node among in
    let correct = filtered (λ (n : NodeSpec). is_correct x n.id) x.params.nodes node row.0 in
    record { there = correct.0; rows = and_from (is_correct x node.id) (has_row x h node.id) correct.1 row.1; key = key }

-- ---- its first rows

pub record FirstAt (x : Setting) (h : Cycles) (even odd even2 odd2 : Cycle) (node : NodeSpec) : Type 0 where
  pub caught : Caught
  pub reference : Sender
  pub there : Contains (senders_of (round_at x h even odd)) reference
  pub is_caught : IsCaught x.params caught reference.even reference.odd
  pub begins : BeginsAt x.params caught (row_for even2.followers node.id) (row_for odd2.followers node.id)

pub first_at : (x : Setting) (h : Cycles) (even odd even2 odd2 : Cycle) (double : ℕ) (node : NodeSpec) → IsStep x h even odd even2 odd2 double
    → Contains (followers_since x (odd ∷ even ∷ h) 1 (suc double)) node → FirstAt x h even odd even2 odd2 node
first_at x h even odd even2 odd2 double node s since =
    let p = x.params in
    let g = s.gathered in
    let counted : length h ≡ 2 * double = g.counted in
    let more = s.more in
    let after = odd ∷ even ∷ h in
    let among = is_since x after 1 (suc double) node since in
    let correct = is_correct_follower x after node among in
    let begins = s.succeeded.firsts_from node since in
    let found = s.fed.caught node begins.join begins.caught correct begins.joins begins.begins in
    let first = row_runs_by (follower_laws x after) (follower_offset p after even2.follower_devs) (following_nodes x after) even2.followers node s.next.even_followers among in
    let at = follower_two x after even2 odd2 node s.next (even_length (length after) (suc double) (two_on h even odd double counted)) among in
    let rate = first.rate ∙ rate_begun x (even ∷ h) odd node.id begins.join begins.caught begins.no_row begins.no_follower begins.joins begins.begins in
    let now : suc (2 * double) ≡ suc (length h) = ap suc (sym counted) in
    record {
      caught = begins.caught;
      reference = sender_with (round_at x h even odd) begins.caught.slot found.0.id;
      there = sender_there (round_at x h even odd) found.0 begins.caught.slot g.covered.sane (row_sends x h even odd found.0 begins.caught.slot found.1 found.2);
      is_caught = found.3;
      begins = record {
        start = first.start ∙ start_begun x (even ∷ h) odd node.id begins.join begins.caught begins.no_row begins.no_follower begins.joins begins.begins;
        even_rate = rate;
        odd_rate = at.double.same_rate ∙ rate;
        even_micro = proper_micro x node (suc (suc (length h))) (row_for even2.followers node.id) g.covered correct (omega (arith, counted, more)) at.even_length;
        odd_micro = proper_micro x node (suc (suc (suc (length h)))) (row_for odd2.followers node.id) g.covered correct (omega (arith, counted, more)) at.odd_length;
        even_steady =
            steady x node (suc (length h)) begins.caught.odd_length (row_for even2.followers node.id).length g.covered correct (omega (arith, counted, more))
            (found.5 ∙ ap (x.microtick node.id) now) at.even_length;
        odd_steady =
            steady x node (suc (suc (length h))) (row_for even2.followers node.id).length (row_for odd2.followers node.id).length g.covered correct (omega (arith, counted, more))
            at.even_length at.odd_length;
      };
    }

-- its first rate is within the limit
pub first_rate_within : (x : Setting) (h : Cycles) (even odd even2 odd2 : Cycle) (double : ℕ) (node : NodeSpec) → IsStep x h even odd even2 odd2 double
    → Contains (followers_since x (odd ∷ even ∷ h) 1 (suc double)) node → IsWithin x.params.rate_limit (row_for even2.followers node.id).rate
first_rate_within x h even odd even2 odd2 double node s since =
    let p = x.params in
    let g = s.gathered in
    let first = first_at x h even odd even2 odd2 double node s since in
    let Limit : ℤ → Type 0 = IsWithin p.rate_limit in
    subst Limit (sym first.begins.even_rate) (first_rate_is_within p first.caught first.reference.even first.reference.odd g.covered.sane
    (g.covered.rate_limit (some_follows x (odd ∷ even ∷ h) 1 (suc double) node since)) first.is_caught)
