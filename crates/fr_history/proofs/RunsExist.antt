-- The cycles that the function gives are lawful.
use Rattle.std.proofs.Common.{◌≡◌, ℕ, zero, suc, ℤ, List, map, length, refl, sym, subst, arith}
use Rattle.fr_base.specs.declared.node_row.NodeRow.{NodeRow}
use Rattle.fr_base.specs.declared.dev.Dev.{Dev}
use Rattle.fr_cluster.specs.Setting.{IsSetting, Setting}
use Rattle.fr_history.specs.History.{Record}
use Rattle.fr_history.specs.Rows.{AreCounts, cut_after, offset_after, uncorrected}
use Rattle.fr_history.specs.Records.{counts_over}
use Rattle.fr_history.specs.Offers.{AreReceptions, AreReceptionsBetween, receptions_among, receptions_between}
use Rattle.fr_history.proofs.Exists.{AnswersExist, FramesAreBytes, receptions_are}
use Rattle.fr_history.proofs.RowLaws.{AsksNoCorrection, cuts_run_by, rows_run_by, uncorrected_by}
use Rattle.fr_history.specs.Cycles.{Cycles, told_of}
use Rattle.fr_history.specs.Laws.{follower_cut, follower_laws, follower_offset, row_laws}
use Rattle.fr_history.specs.Lawful.{FollowersObey, IsLawful, Obeys, ToldObeys}
use Rattle.fr_history.specs.Next.{cycles_of, early_follower, early_followers, early_row, early_rows, early_told, next_cycle, next_follower_devs, next_told}
use Rattle.fr_history.specs.Standing.{following_nodes, row_nodes}

-- ---- what is told

pub told_offset : (x : Setting) (h : Cycles) (r : Record) → AsksNoCorrection (offset_after x.params (told_of h) r)
told_offset x h r = record { same = λ row offset cut. refl }

pub told_cut : (x : Setting) (h : Cycles) (r : Record) → AsksNoCorrection (cut_after x.params (told_of h) r)
told_cut x h r = record { same = λ row offset cut. refl }

told_obeys : AnswersExist → FramesAreBytes → (x : Setting) → IsSetting x → (h : Cycles) → ToldObeys x h (next_cycle x h)
unfolding next_cycle early_told early_row
told_obeys answers frames x setting h =
    let p = x.params in
    let early : Record = early_told x h in
    let offset : NodeRow → ℤ = offset_after p (told_of h) early in
    let cut : NodeRow → ℕ = cut_after p (told_of h) early in
    let rows : map uncorrected (next_told x h).rows ≡ early_rows x h = uncorrected_by (row_laws x h) offset cut (row_nodes x h) in
    let Heard : List NodeRow → Type 0 = λ rs. AreReceptions x (length h) rs (receptions_among x (length h) (early_rows x h)) in
    let Counted : List NodeRow → Type 0 = λ rs. AreCounts x (length h) rs (receptions_among x (length h) (early_rows x h)) (counts_over x (length h) (early_rows x h)) in
    record {
      clocks = rows_run_by (row_laws x h) offset cut (row_nodes x h) (told_offset x h early);
      cuts = cuts_run_by (row_laws x h) offset cut (row_nodes x h) (told_cut x h early);
      receptions = receptions_among x (length h) (early_rows x h);
      received = subst Heard (sym rows) (receptions_are answers frames x setting (length h) (early_rows x h) (early_rows x h));
      devs = refl;
      counts = subst Counted (sym rows) (record { sent_a = refl; sent_b = refl; xor_a = refl; xor_b = refl; stored = refl; outside = refl; damaged = refl; wrong_id = refl; wrong_cycle = refl; wrong_length = refl; plain = refl });
    }

-- ---- the followers

pub followed_offset : (x : Setting) (h : Cycles) (devs : List Dev) → AsksNoCorrection (follower_offset x.params h devs)
followed_offset x h devs = record { same = λ row offset cut. refl }

pub followed_cut : (x : Setting) (h : Cycles) (devs : List Dev) → AsksNoCorrection (follower_cut x.params h devs)
followed_cut x h devs = record { same = λ row offset cut. refl }

followers_obey : AnswersExist → FramesAreBytes → (x : Setting) → IsSetting x → (h : Cycles) → FollowersObey x h (next_cycle x h)
unfolding next_cycle early_told early_row early_follower next_follower_devs
followers_obey answers frames x setting h =
    let p = x.params in
    let early : Record = early_told x h in
    let devs : List Dev = next_follower_devs x h in
    let offset : NodeRow → ℤ = follower_offset p h devs in
    let cut : NodeRow → ℕ = follower_cut p h devs in
    let rows : map uncorrected (next_told x h).rows ≡ early_rows x h =
    uncorrected_by (row_laws x h) (offset_after p (told_of h) early) (cut_after p (told_of h) early) (row_nodes x h) in
    let receivers : map uncorrected (next_cycle x h).followers ≡ early_followers x h = uncorrected_by (follower_laws x h) offset cut (following_nodes x h) in
    let Sent : List NodeRow → Type 0 = λ rs. AreReceptionsBetween x (length h) rs (early_followers x h) (receptions_between x (length h) (early_rows x h) (early_followers x h)) in
    let Heard : List NodeRow → Type 0 = λ rs. AreReceptionsBetween x (length h) (map uncorrected (next_told x h).rows) rs (receptions_between x (length h) (early_rows x h) (early_followers x h)) in
    record {
      clocks = rows_run_by (follower_laws x h) offset cut (following_nodes x h) (followed_offset x h devs);
      cuts = cuts_run_by (follower_laws x h) offset cut (following_nodes x h) (followed_cut x h devs);
      receptions = receptions_between x (length h) (early_rows x h) (early_followers x h);
      received =
          subst Heard (sym receivers)
          (subst Sent (sym rows) (receptions_are answers frames x setting (length h) (early_rows x h) (early_followers x h)));
      devs = refl;
    }

-- ---- the run

pub next_obeys : AnswersExist → FramesAreBytes → (x : Setting) (h : Cycles) → IsSetting x → Obeys x h (next_cycle x h)
next_obeys answers frames x h setting = record { told = told_obeys answers frames x setting h; followers = followers_obey answers frames x setting h }

pub cycles_lawful : AnswersExist → FramesAreBytes → (x : Setting) (n : ℕ) → IsSetting x → IsLawful x (cycles_of x n)
unfolding cycles_of
cycles_lawful answers frames x zero setting = tt
cycles_lawful answers frames x (suc n) setting =
    (next_obeys answers frames x (cycles_of x n) setting, cycles_lawful answers frames x n setting)

pub length-cycles_of : (x : Setting) (n : ℕ) → length (cycles_of x n) ≡ n
unfolding cycles_of
length-cycles_of x zero = refl
length-cycles_of x (suc n) = let e : length (cycles_of x n) ≡ n = length-cycles_of x n in omega (arith, e)
