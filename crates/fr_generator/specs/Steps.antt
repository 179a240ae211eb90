-- What is drawn for each clock, each link and each chance.
use Rattle.std.specs.Prelude.{ℕ, ℤ, pos, ◌-ℤ◌, ◌+◌, ◌%◌, ◌==◌, [], ◌∷◌, ◌++◌, if◌then◌else◌}
use Rattle.fr_text.specs.Records.{FileRecord}
use Rattle.fr_drift.specs.Written.{delay_record, length_record, start_record}
use Rattle.fr_script.specs.Written.{say_record}
use Rattle.fr_generator.specs.Drawn.{Drawn, draw, rest}
use Rattle.fr_generator.specs.Places.{chance_at, link_at}
use Rattle.fr_generator.specs.declared.places.Chance.{Chance}
use Rattle.fr_generator.specs.declared.places.Link.{Link}
use Rattle.rand_pcg.specs.Lcg.{Lcg}

-- a length from 999,800 to 1,000,200 ticks
abbrev pub length_drawn : Lcg → ℤ
length_drawn words = pos (999_800 + draw words % 401)

-- a start from 0 to 50,000,000 ticks
abbrev pub start_drawn : Lcg → ℤ
start_drawn words = pos (draw words % 50_000_001)

-- a delay from 0 to 500,000 ticks
abbrev pub delay_drawn : Lcg → ℤ
delay_drawn words = pos (draw words % 500_001)

-- a shift within 200,000,000 ticks of 0
abbrev pub shift_drawn : Lcg → ℤ
shift_drawn words = pos (draw words % 400_000_001) -ℤ pos 200_000_000

-- the clock of a node: first its length from cycle 0 on, then its start with rate 0
abbrev pub after_clock : ℕ → Drawn → Drawn
after_clock place drawn = record {
  records = (drawn.records ++ length_record (place + 1) 0 (length_drawn drawn.words) ∷ []) ++ start_record (place + 1) (start_drawn (rest drawn.words)) (pos 0) ∷ [];
  words = rest (rest drawn.words);
}

-- the delay of a link from cycle 0 on
abbrev pub delay_of_link : Link → ℤ → FileRecord
delay_of_link link ticks = delay_record link.sender link.receiver link.channel 0 ticks

abbrev pub after_delay : ℕ → Drawn → Drawn
after_delay place drawn = record {
  records = drawn.records ++ delay_of_link (link_at place) (delay_drawn drawn.words) ∷ [];
  words = rest drawn.words;
}

-- a frame that is said without bytes
abbrev pub said_of_chance : Chance → ℤ → FileRecord
said_of_chance chance shift = say_record chance.cycle chance.link.sender chance.link.receiver chance.link.channel shift

-- a chance: one draw, and where it is not a multiple of 4 a second one, by which the frame is said
abbrev pub after_chance : ℕ → Drawn → Drawn
after_chance place drawn =
    if draw drawn.words % 4 == 0 then record { records = drawn.records; words = rest drawn.words }
    else
    record {
      records = drawn.records ++ said_of_chance (chance_at place) (shift_drawn (rest drawn.words)) ∷ [];
      words = rest (rest drawn.words);
    }
