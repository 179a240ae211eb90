-- The runs that reach nearly all of the older precision: they are covered, and in sync in their first double cycle.
use Rattle.std.proofs.Common.{◌≡◌, ℕ, suc, ◌*◌, true, false, ℤ, pos, [], ◌∷◌, length, refl, ap, sym, ◌∙◌, subst, lit≤, arith}
use Rattle.std.specs.Prelude.{◌+ℤ◌, ◌-ℤ◌, ◌*ℤ◌, ◌≤ℤ◌, Contains}
use Rattle.std.proofs.lemmas.Int.{ints}
use Rattle.fr_base.specs.Within.{IsWithin}
use Rattle.fr_base.specs.declared.node_row.NodeRow.{NodeRow}
use Rattle.fr_cluster.specs.Questions.{compensation_of}
use Rattle.fr_cluster.specs.Setting.{IsSetting, Setting, correct_nodes}
use Rattle.fr_cluster.specs.Values.{Values, amount}
use Rattle.fr_cluster.specs.declared.names.ParamName.TheVariants as name
use Rattle.fr_cluster.specs.declared.nodes.NodeSpec.{NodeSpec}
use Rattle.fr_bound.specs.Bounds.{lambda_of, nominal, pi_of}
use Rattle.fr_bound.specs.Checks.{AllChecksHold}
use Rattle.fr_bound.specs.Sync.{cycle_length_of, IsCycleLength, IsInSync}
use Rattle.fr_precision.proofs.Senders.{All-along}
use Rattle.fr_history.specs.Cycles.{Cycle, Cycles, some_joins, told_of}
use Rattle.fr_history.specs.History.{row_for}
use Rattle.fr_history.specs.Laws.{row_laws}
use Rattle.fr_history.specs.Lawful.{IsLawful}
use Rattle.fr_history.specs.Next.{cycles_of}
use Rattle.fr_history.specs.Rows.{offset_after}
use Rattle.fr_history.specs.Standing.{row_nodes}
use Rattle.fr_runs.specs.Rounds.{IsDoubleOf}
use Rattle.fr_runs.specs.Stated.{all_cycles, IsCoveredRun}
use Rattle.fr_runs.proofs.Courses.{is_correct_row, row_two}
use Rattle.fr_runs.proofs.Going.{rows_ascend}
use Rattle.fr_runs.proofs.Parts.{even_is, odd_is}
use Rattle.fr_runs.proofs.Rows.{all_rows, row_runs_by}
use Rattle.fr_worked.specs.FarRun.{far_apart_run, Far, FarRunsReach, IsFar}
use Rattle.fr_precision.specs.Lengths.{IsAboutCycle}
use Rattle.fr_sharp.specs.SettlingHistories.{first_length}
use Rattle.fr_runs.specs.SharpHistories.{IsSteadyRun}
use Rattle.fr_promise.proofs.RunCycles.{stated_runs_are_steady}
use Rattle.fr_worked.proofs.RunFar.{covered, itself, none_by, reaches, setting, stated_near}
use Rattle.fr_sharp.proofs.RunSettles.{histories_begin_active}
use Rattle.fr_sharp.proofs.RunStated.{first_sharp, pairs_lie}
use Rattle.fr_promise.proofs.RunSync.{found_at, rows_at, timed}
use Rattle.fr_precision.proofs.Signed.{signed_of}

-- a length in a range that is widened by nothing is proper
proper : (p : Values) (long : ℤ) → IsAboutCycle p (pos 0) long → IsCycleLength p long
proper p long about = (low _ long about.low, high _ long about.high)
  where
    low : (a z : ℤ) → (a -ℤ pos 0) ≤ℤ z → a ≤ℤ z
    low a z le = omega (arith, ints, le)

    high : (a z : ℤ) → z ≤ℤ (a +ℤ pos 0) → z ≤ℤ a
    high a z le = omega (arith, ints, le)

apart : (bound a b c e : ℤ) → a ≡ c → b ≡ e → IsWithin bound (c -ℤ e) → (a -ℤ b) ≤ℤ bound
apart bound a b c e first second near = let high = near.high in omega (arith, ints, first, second, high)

module _ (f : Far) (is : IsFar f (pi_of f.params) (lambda_of f.params)) where
  is_covered : ((joins : some_joins (far_apart_run f) ≡ true) → ⊥) → AllChecksHold f.params → IsCoveredRun (far_apart_run f)
  is_covered none checks =
      let steady = covered f (pi_of f.params) (lambda_of f.params) is in
      record {
        setting = setting f (pi_of f.params) (lambda_of f.params) is;
        covered = record {
          sane = is.sane;
          checks = checks;
          join_checks = λ joins. absurd (none joins);
          few = steady.timed.few;
          least = λ node cycle there less. steady.timed.least node cycle there (omega arith) less;
          most = λ node cycle there less. steady.timed.most node cycle there (omega arith) less;
          changes = λ node cycle there less. steady.timed.changes node cycle there (omega arith) less;
          referenced = record {
            references = λ node join among at. absurd (cc);
            delays = λ sender receiver slot channel cycle sends hears key other by_sender by_receiver less.
                itself (amount f.params name.xDelayError) (compensation_of f.params channel *ℤ pos nominal);
          };
          links = λ sender receiver slot double linked within. steady.links double (omega arith) within sender receiver slot linked;
        };
        rates = λ node among. let s = signed_of f.params is.sane in let from = s.ro_from in record { low = omega (arith, ints, from); high = omega (arith, ints, from) };
        starts = λ joins. absurd (none joins);
      }

  module _ (h : Cycles) (w : IsSteadyRun true (far_apart_run f) 0 h) where
    in_sync : (earlier : Cycles) (even odd : Cycle) → IsDoubleOf h 0 earlier even odd → IsInSync f.params even.told.rows odd.told.rows
    in_sync [] even odd d =
        let x : Setting = far_apart_run f in
        let p : Values = f.params in
        let nodes = row_nodes x [] in
        let s = rows_at true x 0 0 h w 0 (lit≤ tt) [] even odd d in
        let near = stated_near f (pi_of p) (lambda_of p) is in
        let first = first_sharp x 0 h (timed true x 0 0 h w) (pi_of p) (lambda_of p) near even (even_is h 0 [] even odd d) in
        let active = histories_begin_active true x 0 h w [] even odd d in
        let ascend = rows_ascend x [] is.sane in
        let are = s.two.odd_rows.nodes in
        let Proper : NodeRow → Type 0 = λ row. IsCycleLength p (cycle_length_of p row) in
        let lengths : (node : NodeSpec) → Contains nodes node → cycle_length_of p (row_for odd.told.rows node.id) ≡ first_length x node.id =
        λ node among.
        let two = row_two x [] even odd node s.two refl among in
        let runs = row_runs_by (row_laws x []) (offset_after p (told_of []) even.told) nodes even.told.rows node s.two.even_rows among in
        let rate : (row_for odd.told.rows node.id).rate ≡ pos 0 = two.double.same_rate ∙ runs.rate in
        ap (λ (r : ℤ). (p.micros +ℤ r) *ℤ (row_for odd.told.rows node.id).length) rate ∙ ap (λ (t : ℤ). (p.micros +ℤ pos 0) *ℤ t) two.odd_length in
        record {
          active_even = active.0;
          active_odd = active.1;
          starts = first.starts_lie;
          even_lengths = first.lengths_lie;
          odd_lengths =
              pairs_lie nodes (cycle_length_of p) (pos (lambda_of p)) odd.told.rows ascend are
              (λ one other here there. both (pos (lambda_of p)) _ _ _ _ (lengths one here) (lengths other there) (near.lengths one other (is_correct_row x [] one here) (is_correct_row x [] other there)));
          even_proper = All-along (λ (row : NodeRow). IsAboutCycle p (pos 0) (cycle_length_of p row)) Proper even.told.rows (λ row about. proper p (cycle_length_of p row) about) first.about;
          odd_proper =
              all_rows nodes odd.told.rows Proper ascend are
              (λ node among. subst (IsCycleLength p) (sym (lengths node among)) (proper p (first_length x node.id) (near.about node (is_correct_row x [] node among))));
        }
      where
        both : (bound a b c e : ℤ) → a ≡ c → b ≡ e → IsWithin bound (c -ℤ e) → IsWithin bound (a -ℤ b)
        both bound a b c e first second within =
            let low = within.low in
            let high = within.high in
            record { low = omega (arith, ints, first, second, low); high = omega (arith, ints, first, second, high) }
    in_sync (c ∷ earlier) even odd d =
        let counted : suc (length earlier) ≡ 2 * 0 = d.counted in
        absurd (omega (arith, counted))

pub far_runs_reach_older : ((x : Setting) (n : ℕ) → IsSetting x → IsLawful x (cycles_of x n)) → ((x : Setting) (n : ℕ) → length (cycles_of x n) ≡ n) → FarRunsReach
far_runs_reach_older lawful long f is checks two =
    let x : Setting = far_apart_run f in
    let h : Cycles = all_cycles x in
    let pi = pi_of f.params in
    let lambda = lambda_of f.params in
    let none = none_by (correct_nodes x) in
    let w = stated_runs_are_steady lawful long true x 0 0 (setting f pi lambda is) (covered f pi lambda is) tt none in
    let d = found_at true x 0 0 h w 0 (lit≤ tt) in (
      is_covered f is (λ joins. absurd (let e : true ≡ false = sym joins ∙ none in cc)) checks,
      record {
        even = d.even;
        odd = d.odd;
        has_even = even_is h 0 d.earlier d.even d.odd d.is;
        has_odd = odd_is h 0 d.earlier d.even d.odd d.is;
        in_sync = in_sync f is h w d.earlier d.even d.odd d.is;
      },
      reaches true f h w is.sane two,
    )
