-- A macrotick, node by node.
use Rattle.std.proofs.Common.{◌≡◌, ℕ, zero, suc, ◌+◌, ◌-◌, ◌<◌, ◌≤◌, ◌⊎◌, Bool, true, false, List, inl, inr, refl, ap, sym, ◌∙◌, arith}
use Rattle.std.specs.Prelude.{◌==◌, ◌&&◌, ◌||◌, if◌then◌else◌}
use Rattle.std.proofs.lemmas.Bool.{cases_eq}
use Rattle.std.proofs.lemmas.Bool.Decides.{nat_tests}
use Rattle.fr_base.specs.declared.channel.Channel.{Channel}
use Rattle.fr_base.specs.declared.channel.Channel.TheVariants as channel
use Rattle.fr_cluster.specs.Values.{Values}
use Rattle.fr_cluster.specs.Questions.{has_channel, node_of}
use Rattle.fr_cold.specs.Node.{acts, heard, resolved, sends, sent, switched}
use Rattle.fr_cold.specs.Cluster.{States, action_of, is_busy, is_hearing, is_sending, macroticks_of_cycle, moved_states, ready_states, states_at}
use Rattle.fr_cold.specs.StartupLaws.{IsNumber}
use Rattle.fr_cold.specs.declared.state.ColdState.{ColdState}
use Rattle.fr_cold.specs.View.{PowerView}
use Rattle.fr_cold.specs.Questions.{IsUnswitched, switches_of}
use Rattle.fr_cold.specs.Cold.{Agrees, state_in}
use Rattle.fr_cold.specs.Events.{IsQuietUpTo, hears_by, ready_at}

-- of a list the nodes below a number are done, and the others are as they were
pub record AreDone (after before : States) (number : ℕ) (list : List ColdState) : Type 0 where
  pub done : (node : ℕ) → IsNumber node → node < number → state_in list node ≡ after node
  pub rest : (node : ℕ) → IsNumber node → number ≤ node → state_in list node ≡ before node

pub done-none : (after before : States) (list : List ColdState) → Agrees list before → AreDone after before 1 list
done-none after before list h = record { done = λ node number below. let from = number.from in absurd (omega arith); rest = λ node number from. h node number }

pub done-all : (after before : States) (list : List ColdState) (n : ℕ) → 65 ≤ n → AreDone after before n list → Agrees list after
done-all after before list n past h node number = h.done node number (let to = number.to in omega arith)

pub done-more : (after before : States) (old new : List ColdState) (n : ℕ) (x : ColdState)
    → ((other : ℕ) → IsNumber other → state_in new other ≡ (if other == n then x else state_in old other)) → x ≡ after n → AreDone after before n old → AreDone after before (n + 1) new
done-more after before old new n x set value h = record {
  done = λ node number below. done node number below (cases_eq node n);
  rest = λ node number from.
      let other : (node == n) ≡ false = grind (arith, nat_tests) in
      set node number ∙ rw other (h.rest node number (omega arith));
}
  where
    done : (node : ℕ) → IsNumber node → node < n + 1 → (node ≡ n) ⊎ (node ≡ n → ⊥) → state_in new node ≡ after node
    done node number below (inl same) =
        let yes_same : (node == n) ≡ true = grind (arith, nat_tests) in
        set node number ∙ rw yes_same (value ∙ ap after (sym same))
    done node number below (inr apart) =
        let other : (node == n) ≡ false = grind (arith, nat_tests) in
        set node number ∙ rw other (h.done node number (omega arith))

-- one node more is asked whether it sends on a channel
pub busy-none : (p : Values) (t : ℕ) (states : States) (ch : Channel) → is_busy p t states ch 0 ≡ false
unfolding is_busy
busy-none p t states ch = refl

pub busy-more : (p : Values) (t : ℕ) (states : States) (ch : Channel) (n : ℕ) (busy : Bool) (s : ColdState) → 1 ≤ n → busy ≡ is_busy p t states ch (n - 1) → s ≡ states n
    → (busy || (sends (macroticks_of_cycle p) (action_of p n) t s && has_channel (node_of p n) ch)) ≡ is_busy p t states ch (n + 1 - 1)
unfolding is_busy is_sending
busy-more p t states ch zero busy s some e f = absurd (omega arith)
busy-more p t states ch (suc n) busy s some e f =
    let here : suc n - 1 ≡ n = omega arith in
    let next : suc n + 1 - 1 ≡ suc n = omega arith in
    let before : busy ≡ is_busy p t states ch n = e ∙ ap (λ (k : ℕ). is_busy p t states ch k) here in
    (λ i. before i || (sends (macroticks_of_cycle p) (action_of p (suc n)) t (f i) && has_channel (node_of p (suc n)) ch)) ∙ ap (λ (k : ℕ). is_busy p t states ch k) (sym next)

-- what a node is after the first two parts, and after the last two
pub ready-is : (p : Values) (v : PowerView) (t node : ℕ) (s : ColdState) → s ≡ states_at p (switches_of p v) t node
    → resolved (macroticks_of_cycle p) t (switched (switches_of p v t node) t s) ≡ ready_at p v t node
unfolding ready_states
ready-is p v t node s e = ap (λ (x : ColdState). resolved (macroticks_of_cycle p) t (switched (switches_of p v t node) t x)) e

pub moved-is : (p : Values) (t : ℕ) (states : States) (node : ℕ) (s : ColdState) (busy_a busy_b : Bool) → s ≡ states node → busy_a ≡ is_busy p t states channel.A 64
    → busy_b ≡ is_busy p t states channel.B 64 → heard (hears_by p t s busy_a busy_b node) t (sent (macroticks_of_cycle p) t s) ≡ moved_states p t states node
unfolding moved_states is_hearing is_sending
moved-is p t states node s busy_a busy_b e a b = λ i. heard (hears_by p t (e i) (a i) (b i) node) t (sent (macroticks_of_cycle p) t (e i))

-- one node more is quiet
pub quiet-more : (p : Values) (v : PowerView) (list : List ColdState) (from to next n : ℕ) (s : ColdState) → IsQuietUpTo p v list from to n → next ≤ to → s ≡ state_in list n
    → ((t : ℕ) → from ≤ t → t < next → acts (macroticks_of_cycle p) (action_of p n) t s ≡ false) → IsQuietUpTo p v list from next (n + 1)
quiet-more p v list from to next n s h less e quiet = record {
  switches = λ t low high. h.switches t low (omega arith);
  acts = λ t node low high number below. by t node low high number below (cases_eq node n);
}
  where
    by : (t node : ℕ) → from ≤ t → t < next → IsNumber node → node < n + 1 → (node ≡ n) ⊎ (node ≡ n → ⊥) → acts (macroticks_of_cycle p) (action_of p node) t (state_in list node) ≡ false
    by t node low high number below (inl same) =
        (λ i. acts (macroticks_of_cycle p) (action_of p (same i)) t (state_in list (same i))) ∙ ap (λ (x : ColdState). acts (macroticks_of_cycle p) (action_of p n) t x) (sym e) ∙ quiet t low high
    by t node low high number below (inr apart) = h.acts t node low (omega arith) number (omega arith)

pub quiet-none : (p : Values) (v : PowerView) (list : List ColdState) (from to : ℕ) → ((t : ℕ) → from ≤ t → t < to → IsUnswitched v t) → IsQuietUpTo p v list from to 1
quiet-none p v list from to h = record { switches = h; acts = λ t node low high number below. let some = number.from in absurd (omega arith) }

pub quiet-all : (p : Values) (v : PowerView) (list : List ColdState) (from to n : ℕ) → 65 ≤ n → IsQuietUpTo p v list from to n → IsQuietUpTo p v list from to 65
quiet-all p v list from to n past h = record { switches = h.switches; acts = λ t node low high number below. h.acts t node low high number (omega arith) }
