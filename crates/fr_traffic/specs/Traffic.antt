-- What correct nodes have of the frames of correct sync nodes in a double cycle in which frames may be lost, and how that decides
-- how near their clocks come, beside arbitrary sync nodes or without.
use Rattle.std.specs.Prelude.{ℕ, zero, suc, ◌+◌, ◌*◌, ◌==◌, ◌&&◌, ◌||◌, nat_le, nat_lt, nat_eq, Bool, true, false, not, if◌then◌else◌, is_none, List, count_by, Option, Some, None}
use Rattle.std.specs.List.{list_all, list_any}
use Rattle.fr_base.specs.Event.{Event}
use Rattle.fr_base.specs.declared.channel.Channel.{Channel}
use Rattle.fr_base.specs.declared.channel.Channel.TheVariants as channel
use Rattle.fr_cluster.specs.Setting.{Setting}
use Rattle.fr_cluster.specs.Values.{Values, amount}
use Rattle.fr_cluster.specs.declared.join.Join.{Join}
use Rattle.fr_cluster.specs.declared.names.ParamName.TheVariants as name
use Rattle.fr_cluster.specs.declared.nodes.NodeSpec.{NodeSpec}
use Rattle.fr_midpoint.specs.Midpoint.{discarded}
use Rattle.fr_bound.specs.declared.judging.Heard.{Heard}
use Rattle.fr_bound.specs.declared.judging.Heard.TheVariants as heard
use Rattle.fr_coverage.specs.Links.{is_regular, is_sync, shares}
use Rattle.fr_script.specs.Events.{event_of}
use Rattle.fr_precision.specs.declared.kinds.Kinds.{Kinds}
use Rattle.fr_script.specs.View.{is_arbitrary, join_of, ScriptView}
use Rattle.fr_runs.specs.SteadyRuns.{is_silent}

-- the nodes of a cluster, which of them are arbitrary, how nodes join, and by cycle, sender, receiver and channel what becomes of frames
pub record Traffic : Type 0 where
  pub nodes : List NodeSpec
  pub is_arbitrary : ℕ → Bool
  pub join : ℕ → Option Join
  pub event : ℕ → ℕ → ℕ → Channel → Event

-- that of a run; that of some nodes and a script; and that of the run of some parameters and a script
abbrev pub traffic_of : Setting → Traffic
traffic_of x = record { nodes = x.params.nodes; is_arbitrary = x.is_arbitrary; join = x.join; event = x.event }

abbrev pub traffic_with : List NodeSpec → ScriptView → Traffic
traffic_with nodes s = record { nodes = nodes; is_arbitrary = is_arbitrary s; join = join_of s; event = event_of s }

abbrev pub traffic_in : Values → ScriptView → Traffic
traffic_in p s = traffic_with p.nodes s

-- ---- one sender at one receiver

-- the frame of a cycle comes; or something may come of it
abbrev pub comes : Bool → Event → Bool
comes true e = is_regular e
comes false e = not (is_silent e)

-- on a channel that both nodes have, of the odd cycle, as an offset value asks for
abbrev pub offset_on : Bool → Traffic → NodeSpec → NodeSpec → ℕ → Channel → Bool
offset_on surely t a b double ch = shares a b ch && comes surely (t.event (2 * double + 1) a.id b.id ch)

-- and of both cycles, as a rate value does
abbrev pub rate_on : Bool → Traffic → NodeSpec → NodeSpec → ℕ → Channel → Bool
rate_on surely t a b double ch =
    shares a b ch && comes surely (t.event (2 * double) a.id b.id ch) && comes surely (t.event (2 * double + 1) a.id b.id ch)

abbrev pub value_on : Bool → Bool → Traffic → NodeSpec → NodeSpec → ℕ → Channel → Bool
value_on false surely t a b double ch = offset_on surely t a b double ch
value_on true surely t a b double ch = rate_on surely t a b double ch

-- a receiver surely has a value of a sender, or may have one: an offset value, or a rate value; its own it has
abbrev pub has_value : Bool → Bool → Traffic → ℕ → NodeSpec → NodeSpec → Bool
has_value rate surely t double b a =
    a.id == b.id || (value_on rate surely t a b double channel.A || value_on rate surely t a b double channel.B)

-- ---- who takes part

-- a node does not join; and one that does takes part at the earliest from the third double cycle on behind the one in which it listens
abbrev pub stays : Traffic → NodeSpec → Bool
stays t a = is_none (t.join a.id)

abbrev pub may_send_by : Option Join → ℕ → Bool
may_send_by None double = true
may_send_by (Some join) double = nat_le (join.double + 3) double

-- it has begun by a double cycle: it does not join, or listened before it
abbrev pub has_begun : Option Join → ℕ → Bool
has_begun None double = true
has_begun (Some join) double = nat_lt join.double double

-- a correct node with a key slot; one that does not join, which has a row in every cycle; and one that may send in a double cycle
abbrev pub is_correct_sender : Traffic → NodeSpec → Bool
is_correct_sender t a = is_sync a && not (t.is_arbitrary a.id)

abbrev pub is_staying_sender : Traffic → NodeSpec → Bool
is_staying_sender t a = is_correct_sender t a && stays t a

abbrev pub may_send : Traffic → ℕ → NodeSpec → Bool
may_send t double a = is_correct_sender t a && may_send_by (t.join a.id) double

-- a correct node that has begun: it may have values
abbrev pub may_receive : Traffic → ℕ → NodeSpec → Bool
may_receive t double b = not (t.is_arbitrary b.id) && has_begun (t.join b.id) double

-- how many correct senders pass a test, how many of them that stay on, and how many arbitrary sync nodes there are
abbrev pub sender_count : Traffic → (NodeSpec → Bool) → ℕ
sender_count t test = count_by (λ a. is_correct_sender t a && test a) t.nodes

abbrev pub staying_count : Traffic → (NodeSpec → Bool) → ℕ
staying_count t test = sender_count t (λ a. stays t a && test a)

abbrev pub arbitrary_count : Traffic → ℕ
arbitrary_count t = count_by (λ a. is_sync a && t.is_arbitrary a.id) t.nodes

-- ---- one receiver

-- something may come of what an arbitrary node says on a channel, of the odd cycle or of both; on one channel or the other
abbrev pub may_say : Bool → Traffic → NodeSpec → NodeSpec → ℕ → Channel → Bool
may_say false t a b double ch = comes false (t.event (2 * double + 1) a.id b.id ch)
may_say true t a b double ch = comes false (t.event (2 * double) a.id b.id ch) && comes false (t.event (2 * double + 1) a.id b.id ch)

abbrev pub may_be_said : Bool → Traffic → ℕ → NodeSpec → NodeSpec → Bool
may_be_said rate t double b a = may_say rate t a b double channel.A || may_say rate t a b double channel.B

-- of how many senders that stay on a receiver surely has a value; of how many arbitrary nodes it may have one; and how many values there
-- may be in its list
abbrev pub sure_count : Bool → Traffic → ℕ → NodeSpec → ℕ
sure_count rate t double b = staying_count t (has_value rate true t double b)

abbrev pub further_count : Bool → Traffic → ℕ → NodeSpec → ℕ
further_count rate t double b = count_by (λ a. (is_sync a && t.is_arbitrary a.id) && may_be_said rate t double b a) t.nodes

abbrev pub most_count : Bool → Traffic → ℕ → NodeSpec → ℕ
most_count rate t double b = sender_count t (has_value rate false t double b) + further_count rate t double b

-- it has a value, and discards at each end as many as may be of arbitrary nodes
abbrev pub is_trusted : Bool → Traffic → ℕ → NodeSpec → Bool
is_trusted rate t double b =
    nat_le 1 (sure_count rate t double b)
    && nat_le (further_count rate t double b) (discarded (sure_count rate t double b + further_count rate t double b))

-- two receivers surely have values of so many senders in common; and those are more than both discard at one end
abbrev pub common_count : Bool → Traffic → ℕ → NodeSpec → NodeSpec → ℕ
common_count rate t double b c = staying_count t (λ a. has_value rate true t double b a && has_value rate true t double c a)

abbrev pub two_meet : Bool → Traffic → ℕ → NodeSpec → NodeSpec → Bool
two_meet rate t double b c =
    nat_lt (discarded (most_count rate t double b) + discarded (most_count rate t double c)) (common_count rate t double b c)

-- ---- all receivers

-- each correct node that has begun trusts its list
abbrev pub all_trust : Bool → Traffic → ℕ → Bool
all_trust rate t double = list_all (λ b. not (may_receive t double b) || is_trusted rate t double b) t.nodes

-- each such node surely has a value of each correct sender that may send
abbrev pub has_all : Bool → Traffic → ℕ → NodeSpec → Bool
has_all rate t double b = list_all (λ a. not (may_send t double a) || has_value rate true t double b a) t.nodes

abbrev pub all_have : Bool → Traffic → ℕ → Bool
all_have rate t double = list_all (λ b. not (may_receive t double b) || has_all rate t double b) t.nodes

-- each has one of some sender that stays on, and any two of them enough in common
abbrev pub meets_each : Bool → Traffic → ℕ → NodeSpec → Bool
meets_each rate t double b =
    list_all (λ c. not (may_receive t double c) || (b.id == c.id || two_meet rate t double b c)) t.nodes

abbrev pub has_and_meets : Bool → Traffic → ℕ → NodeSpec → Bool
has_and_meets rate t double b = nat_le 1 (sure_count rate t double b) && meets_each rate t double b

abbrev pub lists_meet : Bool → Traffic → ℕ → Bool
lists_meet rate t double = list_all (λ b. not (may_receive t double b) || has_and_meets rate t double b) t.nodes

-- ---- a node that hears nothing

-- a receiver may have a value of a sync node, correct or arbitrary
abbrev pub may_reach : Bool → Traffic → ℕ → NodeSpec → NodeSpec → Bool
may_reach rate t double b a =
    if t.is_arbitrary a.id then may_be_said rate t double b a else has_value rate false t double b a

-- a node without a key slot has no such value where none of any sync node can come to it
abbrev pub is_deaf : Bool → Traffic → ℕ → NodeSpec → Bool
is_deaf rate t double b = not (is_sync b) && not (list_any (λ a. is_sync a && may_reach rate t double b a) t.nodes)

-- it lacks values of one kind or the other; and in how many double cycles in a row it does, one of them the last
abbrev pub lacks_values : Traffic → ℕ → NodeSpec → Bool
lacks_values t double b = is_deaf false t double b || is_deaf true t double b

unfoldable pub lacking_for : Traffic → NodeSpec → ℕ → ℕ
lacking_for t b zero = if lacks_values t 0 b then 1 else 0
lacking_for t b (suc k) = if lacks_values t (suc k) b then suc (lacking_for t b k) else 0

-- of each kind it trusts its list or surely has none; and it lacks values in fewer double cycles in a row than operation control asks for to
-- make it passive
abbrev pub trusts_or_lacks : Bool → Traffic → ℕ → NodeSpec → Bool
trusts_or_lacks rate t double b = is_deaf rate t double b || is_trusted rate t double b

abbrev pub may_lack : Values → Traffic → ℕ → NodeSpec → Bool
may_lack p t double b = nat_lt (lacking_for t b double) (amount p name.gMaxWithoutClockCorrectionPassive)

abbrev pub bears : Values → Traffic → ℕ → NodeSpec → Bool
bears p t double b =
    t.is_arbitrary b.id
    || ((trusts_or_lacks false t double b && trusts_or_lacks true t double b) && (not (lacks_values t double b) || may_lack p t double b))

-- each correct node does; and none lacks values
abbrev pub all_bear : Values → Traffic → ℕ → Bool
all_bear p t double = list_all (bears p t double) t.nodes

abbrev pub none_lacks : Traffic → ℕ → Bool
none_lacks t double = list_all (λ b. t.is_arbitrary b.id || not (lacks_values t double b)) t.nodes

-- or some does, and keeps its rate
abbrev pub some_keep : Traffic → ℕ → Bool
some_keep t double = not (none_lacks t double)

-- asked from a double cycle on: in that one none lacks values
abbrev pub all_bear_from : Values → Traffic → ℕ → ℕ → Bool
all_bear_from p t from double = all_bear p t double && (not (double == from) || none_lacks t double)

-- ---- what is heard

-- all is heard: of any two nodes one channel carries the frames of both cycles
abbrev pub bears_on : Traffic → NodeSpec → NodeSpec → Bool
bears_on t a b = is_sync a && not (t.is_arbitrary a.id) && not (t.is_arbitrary b.id) && not (a.id == b.id)

abbrev pub all_linked : Traffic → ℕ → Bool
all_linked t double =
    list_all
    (λ a. list_all (λ b. not (bears_on t a b) || (rate_on true t a b double channel.A || rate_on true t a b double channel.B)) t.nodes)
    t.nodes

-- of one kind: all of all, without arbitrary sync nodes; all of all beside them, or of any two nodes enough in common; or what there is
abbrev pub kind_by : Bool → Bool → Bool → Heard
kind_by all none meet = if all && none then heard.Clean else (if all || meet then heard.Meeting else heard.Poor)

abbrev pub kind_in : Bool → Traffic → ℕ → Heard
kind_in rate t double = kind_by (all_have rate t double) (nat_eq (arbitrary_count t) 0) (lists_meet rate t double)

-- what is heard in a double cycle, of offsets and of rates
abbrev pub heard_in : Traffic → ℕ → Kinds
heard_in t double = record { offsets = kind_in false t double; rates = kind_in true t double }

-- in a run that nodes join: of each kind all is heard in it, or each correct node that has begun trusts what it has of the senders that do
-- not join
abbrev pub bears_kind : Bool → Traffic → ℕ → Bool
bears_kind rate t double = all_have rate t double || all_trust rate t double

abbrev pub is_borne_to_join : Traffic → ℕ → Bool
is_borne_to_join t double = bears_kind false t double && bears_kind true t double
