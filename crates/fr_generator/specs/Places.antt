-- The links and the chances in their order.
use Rattle.std.specs.Prelude.{ℕ, ◌+◌, ◌/◌, ◌%◌, ◌==◌, nat_lt, if◌then◌else◌}
use Rattle.fr_base.specs.declared.channel.Channel.{Channel}
use Rattle.fr_base.specs.declared.channel.Channel.TheVariants as channel
use Rattle.fr_generator.specs.declared.places.Chance.{Chance}
use Rattle.fr_generator.specs.declared.places.Link.{Link}

-- channel A at even places, channel B at odd ones
abbrev pub channel_at : ℕ → Channel
channel_at place = if place % 2 == 0 then channel.A else channel.B

-- the nodes other than one, by their place from 1 on
abbrev pub beside : ℕ → ℕ → ℕ
beside node place = if nat_lt place node then place else place + 1

-- each sender from 1 to 8 has 14 links: two to each other node, on channel A and on channel B
abbrev pub link_at : ℕ → Link
link_at place = record { sender = place / 14 + 1; receiver = beside (place / 14 + 1) (place % 14 / 2 + 1); channel = channel_at (place % 14) }

-- each cycle has 24 chances to say a frame: of the senders 7 and 8, to each node from 1 to 6, on channel A and on channel B
abbrev pub chance_at : ℕ → Chance
chance_at place = record {
  cycle = place / 24;
  link = record { sender = place % 24 / 12 + 7; receiver = place % 24 % 12 / 2 + 1; channel = channel_at (place % 24 % 12) };
}
