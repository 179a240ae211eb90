-- What holds of a row that is taken.
use Rattle.std.proofs.Common.{◌≡◌, ℕ, Bool, true, false, List, Option, Some, None, refl, arith}
use Rattle.std.specs.Prelude.{if◌then◌else◌, ◌||◌, ◌≤◌, is_some, not}
use Rattle.std.proofs.lemmas.Bool.Decides.{nat_tests}
use Rattle.fr_base.specs.declared.channel.Channel.{Channel}
use Rattle.fr_base.specs.declared.reason.Reason.TheVariants as reason
use Rattle.fr_text.specs.Records.{FileRecord}
use Rattle.fr_cluster.specs.Questions.{has_channel, node_of}
use Rattle.fr_cluster.specs.Values.{Values}
use Rattle.fr_log.specs.Rows.{most_delay}
use Rattle.fr_log.specs.Reasons.{are_crossed, delay_limits_by, each_by, each_reason, has_entry, is_misfit, limits_reason, number_by, number_reason}
use Rattle.fr_log.specs.View.{AreDelayLimits}
use Rattle.fr_log.specs.declared.rows.DelayLimits.{DelayLimits}
use Rattle.fr_log.specs.declared.rows.DelayRow.{DelayRow}
use Rattle.fr_log.specs.declared.rows.HeadNumber.{HeadNumber}

-- it may stand there, and nothing like it does
pub record IsFree {A : Type 0} (misfit behind : Bool) (there : Option A) : Type 0 where
  pub fits : misfit ≡ false
  pub first : behind ≡ false
  pub none : there ≡ None

free-of : {A : Type 0} (misfit behind : Bool) (there : Option A)
    → None ≡ (if misfit || behind then Some reason.Role else if is_some there then Some reason.Repeated else None) → IsFree misfit behind there
free-of true behind there h = cc h
free-of false true there h = cc h
free-of false false None h = record { fits = refl; first = refl; none = refl }
free-of false false (Some x) h = cc h

pub number-free : (done : List FileRecord) (name : HeadNumber) (n : ℕ) → None ≡ number_reason done name n → IsFree (is_misfit name n) (has_entry done) (number_by name done)
number-free done name n h = free-of (is_misfit name n) (has_entry done) (number_by name done) h

pub each-free : (done : List FileRecord) (limits : DelayLimits) → None ≡ each_reason done limits → IsFree (are_crossed limits) (has_entry done) (each_by done)
each-free done limits h = free-of (are_crossed limits) (has_entry done) (each_by done) h

linked : {A : Type 0} (crossed behind off : Bool) (there : Option A)
    → None ≡ (if crossed || behind then Some reason.Role else if off then Some reason.Link else if is_some there then Some reason.Repeated else None) → IsFree crossed behind there
linked true behind off there h = cc h
linked false true off there h = cc h
linked false false true there h = cc h
linked false false false None h = record { fits = refl; first = refl; none = refl }
linked false false false (Some x) h = cc h

pub delay-free : (p : Values) (done : List FileRecord) (d : DelayRow) (ch : Channel) → None ≡ limits_reason p done d (Some ch) → IsFree (are_crossed d.limits) (has_entry done) (delay_limits_by d.node ch done)
delay-free p done d ch h = linked (are_crossed d.limits) (has_entry done) (not (has_channel (node_of p d.node) ch)) (delay_limits_by d.node ch done) h

pub in-order : (limits : DelayLimits) → are_crossed limits ≡ false → limits.high ≤ most_delay → AreDelayLimits limits
in-order limits h most = record { ordered = grind (arith, nat_tests); most = most }
