-- The draws of a seed and the order of links and chances, computed.
use Rattle.std.proofs.Common.{◌≡◌, ℕ, List, [], ◌∷◌, ◌++◌, refl}
use Rattle.std.specs.Prelude.{map, not, ◌==◌, filter}
use Rattle.std.specs.List.{flat_map, range_with_len}
use Rattle.fr_base.specs.declared.channel.Channel.TheVariants as channel
use Rattle.fr_generator.specs.Drawn.{draws, first_words}
use Rattle.fr_generator.specs.Places.{chance_at, link_at}
use Rattle.fr_generator.specs.declared.places.Chance.{Chance}
use Rattle.fr_generator.specs.declared.places.Link.{Link}

pub first_eight_draws : draws 8 (first_words 7)
    ≡ 4_063_834_449 ∷ 2_143_014_202 ∷ 2_740_157_135 ∷ 3_385_478_207 ∷ 3_546_536_764 ∷ 785_995_372 ∷ 1_850_770_085 ∷ 2_179_942_517 ∷ []
unfolding draws
first_eight_draws = refl

-- both links from one node to another, and the links of a sender to all others
pub between : ℕ → ℕ → List Link
between sender receiver = record { sender = sender; receiver = receiver; channel = channel.A } ∷ record { sender = sender; receiver = receiver; channel = channel.B } ∷ []

pub from_sender : ℕ → List Link
from_sender sender = flat_map (between sender) (filter (λ receiver. not (receiver == sender)) (range_with_len 1 8))

-- from each sender to each other receiver, on both channels
pub all_links : map link_at (range_with_len 0 112) ≡ flat_map from_sender (range_with_len 1 8)
unfolding between from_sender
all_links = refl

pub said_to : ℕ → ℕ → ℕ → List Chance
said_to cycle sender receiver = map (λ link. record { cycle = cycle; link = link }) (between sender receiver)

pub said_in : ℕ → List Chance
said_in cycle = flat_map (said_to cycle 7) (range_with_len 1 6) ++ flat_map (said_to cycle 8) (range_with_len 1 6)

-- in each cycle of the first double cycle, of the senders 7 and 8 to each receiver from 1 to 6, on both channels
pub chances_of_two_cycles : map chance_at (range_with_len 0 48) ≡ said_in 0 ++ said_in 1
unfolding between said_to said_in
chances_of_two_cycles = refl
