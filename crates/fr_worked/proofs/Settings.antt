-- The worked runs are runs of clusters.
use Rattle.std.proofs.Common.{ℕ, ◌==◌, pos, negsuc, Bool, true, false, not, ◌&&◌, nat_lt, None, arith, if◌then◌else◌}
use Rattle.fr_base.specs.Event.{Event}
use Rattle.fr_base.specs.Event.Event.{Regular, Silent, Flip, Say}
use Rattle.fr_base.specs.declared.channel.Channel.{Channel}
use Rattle.fr_base.specs.declared.channel.Channel.TheVariants.{A, B}
use Rattle.fr_cluster.specs.Setting.{IsSetting, SaysBytes}
use Rattle.fr_worked.proofs.Sane.{cluster_sane, nodes_from}
use Rattle.fr_worked.specs.Files.{only_on_a, said_first}
use Rattle.fr_worked.specs.Offset.{offset_run}
use Rattle.fr_worked.specs.Rates.{rates_run}
use Rattle.fr_worked.specs.OneArbitrary.{one_arbitrary_run, said_to}
use Rattle.fr_worked.specs.TwoArbitrary.{is_among_six, said_early_to, said_late_to, two_arbitrary_run}
use Rattle.fr_worked.specs.Quiet.{quiet_run}
use Rattle.fr_worked.specs.Lost.{flipped_run, hit_by, lost_on_one_run, lost_run}

-- either of two events says bytes
either : (test : Bool) (event other : Event) → SaysBytes event → SaysBytes other → SaysBytes (if test then event else other)
either true event other first second = first
either false event other first second = second

on_a_says : (event other : Event) (channel : Channel) → SaysBytes event → SaysBytes other → SaysBytes (only_on_a event other channel)
on_a_says event other A first second = first
on_a_says event other B first second = second

first_says : (event : Event) (cycle : ℕ) (channel : Channel) → SaysBytes event → SaysBytes (said_first event cycle channel)
first_says event cycle channel says = either (nat_lt cycle 2) (only_on_a event Silent channel) Silent (on_a_says event Silent channel says tt) tt

hit_says : (event : Event) (cycle sender receiver : ℕ) (channel : Channel) → SaysBytes event → SaysBytes (hit_by event cycle sender receiver channel)
hit_says event cycle sender receiver channel says = either ((cycle == 3) && (sender == 1) && (receiver == 2)) (only_on_a event Regular channel) Regular (on_a_says event Regular channel says tt) tt

one_says : (receiver : ℕ) → SaysBytes (said_to receiver)
one_says receiver =
    either
    (receiver == 1)
    (Say (pos 100_000_000) None)
    (if receiver == 2 then Say (negsuc 99_999_999) None else Silent)
    tt
    (either (receiver == 2) (Say (negsuc 99_999_999) None) Silent tt tt)

late_says : (receiver : ℕ) → SaysBytes (said_late_to receiver)
late_says receiver = either (is_among_six receiver) (Say (pos 100_000_000) None) Silent tt tt

early_says : (receiver : ℕ) → SaysBytes (said_early_to receiver)
early_says receiver = either (is_among_six receiver && not (receiver == 2)) (Say (negsuc 99_999_999) None) Silent tt tt

pub offset_setting : IsSetting offset_run
unfolding nodes_from
offset_setting = record { sane = cluster_sane false 2 (omega arith) (omega arith); bytes = λ cycle sender receiver channel. tt }

pub rates_setting : IsSetting rates_run
unfolding nodes_from
rates_setting = record { sane = cluster_sane false 2 (omega arith) (omega arith); bytes = λ cycle sender receiver channel. tt }

pub one_arbitrary_setting : IsSetting one_arbitrary_run
unfolding nodes_from
one_arbitrary_setting = record {
  sane = cluster_sane false 4 (omega arith) (omega arith);
  bytes = λ cycle sender receiver channel.
      either (sender == 4) (said_first (said_to receiver) cycle channel) Regular (first_says (said_to receiver) cycle channel (one_says receiver)) tt;
}

pub two_arbitrary_setting : IsSetting two_arbitrary_run
unfolding nodes_from
two_arbitrary_setting = record {
  sane = cluster_sane false 8 (omega arith) (omega arith);
  bytes = λ cycle sender receiver channel.
      either
      (sender == 7)
      (said_first (said_late_to receiver) cycle channel)
      (if sender == 8 then said_first (said_early_to receiver) cycle channel else Regular)
      (first_says (said_late_to receiver) cycle channel (late_says receiver))
      (either (sender == 8) (said_first (said_early_to receiver) cycle channel) Regular (first_says (said_early_to receiver) cycle channel (early_says receiver)) tt);
}

pub quiet_setting : IsSetting quiet_run
unfolding nodes_from
quiet_setting = record {
  sane = cluster_sane false 3 (omega arith) (omega arith);
  bytes = λ cycle sender receiver channel. either (sender == 3) Silent Regular tt tt;
}

pub lost_setting : IsSetting lost_run
unfolding nodes_from
lost_setting = record {
  sane = cluster_sane false 2 (omega arith) (omega arith);
  bytes = λ cycle sender receiver channel. hit_says Silent cycle sender receiver channel tt;
}

pub flipped_setting : IsSetting flipped_run
unfolding nodes_from
flipped_setting = record {
  sane = cluster_sane false 2 (omega arith) (omega arith);
  bytes = λ cycle sender receiver channel. hit_says (Flip 0) cycle sender receiver channel tt;
}

pub lost_on_one_setting : IsSetting lost_on_one_run
unfolding nodes_from
lost_on_one_setting = record {
  sane = cluster_sane true 2 (omega arith) (omega arith);
  bytes = λ cycle sender receiver channel. hit_says Silent cycle sender receiver channel tt;
}
