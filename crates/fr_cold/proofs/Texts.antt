-- The parts of the text, taken one by one.
use Rattle.std.proofs.Common.{◌≡◌, ℕ, zero, suc, ◌+◌, ◌-◌, ◌<◌, ◌≤◌, Bool, true, false, List, [], ◌∷◌, ◌++◌, Option, Some, None, refl, ap, sym, ◌∙◌, arith}
use Rattle.std.specs.Prelude.{◌||◌}
use Rattle.fr_cluster.specs.Values.{Values}
use Rattle.fr_cold.specs.Node.{is_leading}
use Rattle.std.specs.Prelude.{codes}
use Rattle.fr_cluster.specs.Questions.{is_coldstart}
use Rattle.fr_text.specs.Pieces.{line}
use Rattle.fr_cold.specs.Cluster.{States, states_at}
use Rattle.fr_cold.specs.View.{PowerView}
use Rattle.fr_cold.specs.Questions.{macroticks_of_run, switches_of}
use Rattle.fr_cold.specs.Leads.{leads_of}
use Rattle.fr_cold.specs.StartupLaws.{IsNumber}
use Rattle.fr_cold.specs.declared.cold.Lead.{Lead}
use Rattle.fr_cold.specs.ColdText.{least_apart, cold_text, startup_head, does_any_lead, answer_or, are_apart, lead_line, lead_text, leading_line, leading_lines, leading_text, lines_or_none, one_more, first_pair_in, paired_or, starters_up_to}

-- counting
pub starters-none : (p : Values) → starters_up_to p 0 ≡ 0
unfolding starters_up_to
starters-none p = refl

pub starters-more : (p : Values) (n count : ℕ) → 1 ≤ n → count ≡ starters_up_to p (n - 1) → one_more (is_coldstart p n) count ≡ starters_up_to p (n + 1 - 1)
unfolding starters_up_to
starters-more p zero count some e = absurd (omega arith)
starters-more p (suc n) count some e =
    let here : suc n - 1 ≡ n = omega arith in
    let next : suc n + 1 - 1 ≡ suc n = omega arith in
    ap (one_more (is_coldstart p (suc n))) (e ∙ ap (λ (k : ℕ). starters_up_to p k) here) ∙ ap (λ (k : ℕ). starters_up_to p k) (sym next)

-- looking for two nodes that are apart
pub apart-not : (p : Values) (a n : ℕ) → n ≤ 64 → are_apart p a n ≡ false → least_apart p a n (65 - n) ≡ least_apart p a (n + 1) (65 - (n + 1))
unfolding least_apart
apart-not p a n few e =
    let more : 65 - n ≡ suc (64 - n) = omega arith in
    let next : n + 1 ≡ suc n = omega arith in
    let left : 65 - suc n ≡ 64 - n = omega arith in
    rw (more, e, next, left) refl

pub apart-found : (p : Values) (a n : ℕ) → n ≤ 64 → are_apart p a n ≡ true → least_apart p a n (65 - n) ≡ Some n
unfolding least_apart
apart-found p a n few e = let more : 65 - n ≡ suc (64 - n) = omega arith in rw (more, e) refl

pub apart-over : (p : Values) (a n : ℕ) → 65 ≤ n → least_apart p a n (65 - n) ≡ None
unfolding least_apart
apart-over p a n past = let none : 65 - n ≡ 0 = omega arith in rw none refl

pub pair-not : (p : Values) (n : ℕ) → n ≤ 64 → least_apart p n (suc n) (64 - n) ≡ None → first_pair_in p n (65 - n) ≡ first_pair_in p (n + 1) (65 - (n + 1))
unfolding first_pair_in
pair-not p n few e =
    let more : 65 - n ≡ suc (64 - n) = omega arith in
    let next : n + 1 ≡ suc n = omega arith in
    let left : 65 - suc n ≡ 64 - n = omega arith in
    rw (more, e, next, left) refl

pub pair-found : (p : Values) (n other : ℕ) → n ≤ 64 → least_apart p n (suc n) (64 - n) ≡ Some other → first_pair_in p n (65 - n) ≡ Some (n, other)
unfolding first_pair_in
pair-found p n other few e = let more : 65 - n ≡ suc (64 - n) = omega arith in rw (more, e) refl

pub pair-over : (p : Values) (n : ℕ) → 65 ≤ n → first_pair_in p n (65 - n) ≡ None
unfolding first_pair_in
pair-over p n past = let none : 65 - n ≡ 0 = omega arith in rw none refl

-- the begins of leading
pub lead-none : lead_text [] ≡ []
unfolding lead_text
lead-none = refl

pub lead-more : (lead : Lead) (rest : List Lead) → lead_text (lead ∷ rest) ≡ lead_line lead ++ lead_text rest
unfolding lead_text
lead-more lead rest = refl

-- who leads
pub any-none : (states : States) → does_any_lead states 0 ≡ false
unfolding does_any_lead
any-none states = refl

pub any-more : (states : States) (n : ℕ) (any : Bool) → 1 ≤ n → any ≡ does_any_lead states (n - 1) → (any || is_leading (states n)) ≡ does_any_lead states (n + 1 - 1)
unfolding does_any_lead
any-more states zero any some e = absurd (omega arith)
any-more states (suc n) any some e =
    let here : suc n - 1 ≡ n = omega arith in
    let next : suc n + 1 - 1 ≡ suc n = omega arith in
    ap (λ (b : Bool). b || is_leading (states (suc n))) (e ∙ ap (λ (k : ℕ). does_any_lead states k) here) ∙ ap (λ (k : ℕ). does_any_lead states k) (sym next)

pub leading-over : (states : States) (n : ℕ) → 65 ≤ n → leading_lines states n (65 - n) ≡ []
unfolding leading_lines
leading-over states n past = let none : 65 - n ≡ 0 = omega arith in rw none refl

pub leading-more : (states : States) (n : ℕ) → n ≤ 64 → leading_line (is_leading (states n)) n ++ leading_lines states (n + 1) (65 - (n + 1)) ≡ leading_lines states n (65 - n)
unfolding leading_lines
leading-more states n few =
    let more : 65 - n ≡ suc (64 - n) = omega arith in
    let next : n + 1 ≡ suc n = omega arith in
    let left : 65 - suc n ≡ 64 - n = omega arith in
    rw (more, next, left) refl

-- states that agree on all nodes have the same text
lines-same : (f g : States) → ((j : ℕ) → IsNumber j → f j ≡ g j) → (node n : ℕ) → 1 ≤ node → node + n ≤ 65 → leading_lines f node n ≡ leading_lines g node n
unfolding leading_lines
lines-same f g e node zero from to = refl
lines-same f g e node (suc n) from to =
    (λ i. leading_line (is_leading (e node (record { from = from; to = omega arith }) i)) node ++ lines-same f g e (suc node) n (omega arith) (omega arith) i)

any-same : (f g : States) → ((j : ℕ) → IsNumber j → f j ≡ g j) → (n : ℕ) → n ≤ 64 → does_any_lead f n ≡ does_any_lead g n
unfolding does_any_lead
any-same f g e zero to = refl
any-same f g e (suc n) to = (λ i. any-same f g e n (omega arith) i || is_leading (e (suc n) (record { from = omega arith; to = to }) i))

pub leading-same : (f g : States) → ((j : ℕ) → IsNumber j → f j ≡ g j) → leading_text f ≡ leading_text g
unfolding leading_text
leading-same f g e = (λ i. lines_or_none (any-same f g e 64 (omega arith) i) (lines-same f g e 1 64 (omega arith) (omega arith) i))

pub leading-some : (states : States) → does_any_lead states 64 ≡ true → leading_text states ≡ leading_lines states 1 64
unfolding leading_text
leading-some states e = rw e refl

pub leading-none : (states : States) → does_any_lead states 64 ≡ false → leading_text states ≡ line (codes "leading none")
unfolding leading_text
leading-none states e = rw e refl

-- the whole text by its parts
pub whole-text : (p : Values) (v : PowerView) (head : List ℕ) (leads : List Lead) (states : States) → head ≡ startup_head p v → leads ≡ leads_of p v
    → ((j : ℕ) → IsNumber j → states j ≡ states_at p (switches_of p v) (macroticks_of_run p v) j) → head ++ (lead_text leads ++ leading_text states) ≡ cold_text p v
unfolding cold_text
whole-text p v head leads states h l e = λ i. h i ++ (lead_text (l i) ++ leading-same states (states_at p (switches_of p v) (macroticks_of_run p v)) e i)
