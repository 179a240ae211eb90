-- Words ask for one thing at most.
use Rattle.std.proofs.Common.{◌≡◌, ◌<◌, ◌≤◌, ℕ, length, arith, lit≤, List, [], ◌∷◌, Option, Some, None, Result, Ok, Err, ap, ap₂, sym, ◌∙◌}
use Rattle.std.specs.Prelude.{codes, if◌then◌else◌, unwrap_or}
use Rattle.std.specs.Prelude.{String, get_or}
use Rattle.std.specs.String.{string_bytes}
use Rattle.std.specs.declared.alloc.Global.{Global}
use Rattle.std.proofs.lemmas.List.{length-map}
use Rattle.std.specs.Option.{option_map}
use Rattle.std.specs.Str.{bytes_eq}
use Rattle.fr_base.specs.Channels.{channel_of}
use Rattle.fr_base.specs.declared.channel.Channel.TheVariants.{A, B}
use Rattle.fr_base.specs.declared.numbers.NumberFault.{NumberFault}
use Rattle.fr_bound.specs.Settling.{most_stated}
use Rattle.fr_text.specs.Fields.{natural_of}
use Rattle.fr_program.specs.Program.{texts}
use Rattle.fr_answer.specs.Request.{most_stated_flutter, most_stated_lost, Asked, AsksFor, frame, bound, bound_join, bound_sharp, bound_sharp_join, bound_lost, upgrade, settle, settle_sharp, run, capture, nm, cold, make, trace, check}

-- two numbers that are there
abbrev settle_in : List ℕ → Result ℕ NumberFault → Result ℕ NumberFault → Option Asked
settle_in file (Ok start) (Ok rate) = Some (settle file start rate)
settle_in file start rate = None

abbrev settle_sharp_in : List ℕ → Result ℕ NumberFault → Result ℕ NumberFault → List ℕ → Result ℕ NumberFault → Option Asked
settle_sharp_in file (Ok start) (Ok rate) word (Ok flutter) = if bytes_eq word (codes "sharp") then Some (settle_sharp file start rate flutter) else None
settle_sharp_in file start rate word flutter = None

abbrev make_in : Result ℕ NumberFault → Result ℕ NumberFault → Option Asked
make_in (Ok seed) (Ok doubles) = Some (make seed doubles)
make_in seed doubles = None

abbrev nm_in : List ℕ → Result ℕ NumberFault → Option Asked
nm_in file (Ok width) = Some (nm width file)
nm_in file (Err fault) = None

abbrev bound_in : List ℕ → List ℕ → Option Asked
bound_in file word = if bytes_eq word (codes "join") then Some (bound_join file) else None

abbrev bound_sharp_in : List ℕ → List ℕ → Result ℕ NumberFault → Option Asked
bound_sharp_in file word (Ok flutter) = if bytes_eq word (codes "sharp") then Some (bound_sharp file flutter) else None
bound_sharp_in file word (Err fault) = None

abbrev bound_sharp_join_in : List ℕ → Result ℕ NumberFault → Option Asked
bound_sharp_join_in file (Ok flutter) = Some (bound_sharp_join file flutter)
bound_sharp_join_in file (Err fault) = None

abbrev bound_lost_in : List ℕ → List ℕ → Result ℕ NumberFault → List ℕ → Result ℕ NumberFault → Option Asked
bound_lost_in file word (Ok flutter) last (Ok count) =
    if bytes_eq word (codes "sharp") then (if bytes_eq last (codes "lost") then Some (bound_lost file flutter count) else None) else None
bound_lost_in file word flutter last count = None

-- three words
abbrev asked_in_three : List ℕ → List ℕ → List ℕ → Option Asked
asked_in_three command first second =
    if bytes_eq command (codes "frame") then option_map (λ ch. frame ch second) (channel_of first)
    else (if bytes_eq command (codes "make") then make_in (natural_of 0 4_294_967_295 first) (natural_of 1 10_000 second)
    else (if bytes_eq command (codes "capture") then option_map (λ ch. capture ch second) (channel_of first)
    else (if bytes_eq command (codes "cold") then Some (cold first second)
    else (if bytes_eq command (codes "check") then Some (check first second)
    else (if bytes_eq command (codes "nm") then nm_in second (natural_of 1 12 first)
    else (if bytes_eq command (codes "bound") then bound_in first second else None))))))

-- four words
abbrev asked_in_four : List ℕ → List ℕ → List ℕ → List ℕ → Option Asked
asked_in_four command first second third =
    if bytes_eq command (codes "run") then Some (run (record { params = first; drift = second; script = third }))
    else (if bytes_eq command (codes "trace") then Some (trace (record { params = first; drift = second; script = third }))
    else (if bytes_eq command (codes "settle") then settle_in first (natural_of 0 most_stated second) (natural_of 0 most_stated third)
    else (if bytes_eq command (codes "bound") then bound_sharp_in first second (natural_of 0 most_stated_flutter third) else None)))

-- five words
abbrev asked_in_five : List ℕ → List ℕ → List ℕ → List ℕ → List ℕ → Option Asked
asked_in_five command first second third fourth =
    if bytes_eq command (codes "bound")
    then (if bytes_eq second (codes "sharp") then (if bytes_eq fourth (codes "join") then bound_sharp_join_in first (natural_of 0 most_stated_flutter third) else None) else None)
    else None

-- six words
abbrev asked_in_six : List ℕ → List ℕ → List ℕ → List ℕ → List ℕ → List ℕ → Option Asked
asked_in_six command first second third fourth fifth =
    if bytes_eq command (codes "settle") then settle_sharp_in first (natural_of 0 most_stated second) (natural_of 0 most_stated third) fourth (natural_of 0 most_stated_flutter fifth)
    else (if bytes_eq command (codes "bound") then bound_lost_in first second (natural_of 0 most_stated_flutter third) fourth (natural_of 1 most_stated_lost fifth) else None)

-- what words ask for, read back by their number
abbrev asked_in : List (List ℕ) → Option Asked
asked_in (command ∷ file ∷ []) = if bytes_eq command (codes "bound") then Some (bound file) else (if bytes_eq command (codes "upgrade") then Some (upgrade file) else None)
asked_in (command ∷ first ∷ second ∷ []) = asked_in_three command first second
asked_in (command ∷ first ∷ second ∷ third ∷ []) = asked_in_four command first second third
asked_in (command ∷ first ∷ second ∷ third ∷ fourth ∷ []) = asked_in_five command first second third fourth
asked_in (command ∷ first ∷ second ∷ third ∷ fourth ∷ fifth ∷ []) = asked_in_six command first second third fourth fifth
asked_in other = None

asked_again : (words : List (List ℕ)) (asked : Asked) → AsksFor words asked → asked_in words ≡ Some asked
asked_again words (frame A file) asks = ap asked_in asks
asked_again words (frame B file) asks = ap asked_in asks
asked_again words (bound file) asks = ap asked_in asks
asked_again words (bound_join file) asks = ap asked_in asks
asked_again words (bound_sharp file flutter) asks = ap asked_in asks.spelt ∙ ap (bound_sharp_in file (codes "sharp")) asks.flutter_is
asked_again words (bound_sharp_join file flutter) asks = ap asked_in asks.spelt ∙ ap (bound_sharp_join_in file) asks.flutter_is
asked_again words (bound_lost file flutter count) asks =
    ap asked_in asks.spelt ∙ ap₂ (λ f c. bound_lost_in file (codes "sharp") f (codes "lost") c) asks.flutter_is asks.count_is
asked_again words (upgrade file) asks = ap asked_in asks
asked_again words (settle file start rate) asks = ap asked_in asks.spelt ∙ ap₂ (settle_in file) asks.start_is asks.rate_is
asked_again words (settle_sharp file start rate flutter) asks =
    let all : Result ℕ NumberFault → Result ℕ NumberFault → Result ℕ NumberFault → Option Asked = λ s r f. settle_sharp_in file s r (codes "sharp") f in
    ap asked_in asks.spelt
    ∙ ap₂ (λ s r. all s r (natural_of 0 most_stated_flutter asks.flutter_text)) asks.start_is asks.rate_is
    ∙ ap (all (Ok start) (Ok rate)) asks.flutter_is
asked_again words (run names) asks = ap asked_in asks
asked_again words (capture A file) asks = ap asked_in asks
asked_again words (capture B file) asks = ap asked_in asks
asked_again words (nm width file) asks = ap asked_in asks.spelt ∙ ap (nm_in file) asks.width_is
asked_again words (cold params power) asks = ap asked_in asks
asked_again words (make seed doubles) asks = ap asked_in asks.spelt ∙ ap₂ make_in asks.seed_is asks.doubles_is
asked_again words (trace names) asks = ap asked_in asks
asked_again words (check params recorded) asks = ap asked_in asks

-- they are two to six
record HasLength (words : List (List ℕ)) : Type 0 where
  two : 2 ≤ length words
  six : length words ≤ 6

has_length : (words : List (List ℕ)) (n : ℕ) → length words ≡ n → 2 ≤ n → n ≤ 6 → HasLength words
has_length words n is from to = record { two = omega (arith, is, from); six = omega (arith, is, to) }

asks_length : (words : List (List ℕ)) (asked : Asked) → AsksFor words asked → HasLength words
asks_length words (frame channel file) asks = has_length words 3 (ap length asks) (lit≤ tt) (lit≤ tt)
asks_length words (bound file) asks = has_length words 2 (ap length asks) (lit≤ tt) (lit≤ tt)
asks_length words (bound_join file) asks = has_length words 3 (ap length asks) (lit≤ tt) (lit≤ tt)
asks_length words (bound_sharp file flutter) asks = has_length words 4 (ap length asks.spelt) (lit≤ tt) (lit≤ tt)
asks_length words (bound_sharp_join file flutter) asks = has_length words 5 (ap length asks.spelt) (lit≤ tt) (lit≤ tt)
asks_length words (bound_lost file flutter count) asks = has_length words 6 (ap length asks.spelt) (lit≤ tt) (lit≤ tt)
asks_length words (upgrade file) asks = has_length words 2 (ap length asks) (lit≤ tt) (lit≤ tt)
asks_length words (settle file start rate) asks = has_length words 4 (ap length asks.spelt) (lit≤ tt) (lit≤ tt)
asks_length words (settle_sharp file start rate flutter) asks = has_length words 6 (ap length asks.spelt) (lit≤ tt) (lit≤ tt)
asks_length words (run names) asks = has_length words 4 (ap length asks) (lit≤ tt) (lit≤ tt)
asks_length words (capture channel file) asks = has_length words 3 (ap length asks) (lit≤ tt) (lit≤ tt)
asks_length words (nm width file) asks = has_length words 3 (ap length asks.spelt) (lit≤ tt) (lit≤ tt)
asks_length words (cold params power) asks = has_length words 3 (ap length asks) (lit≤ tt) (lit≤ tt)
asks_length words (make seed doubles) asks = has_length words 3 (ap length asks.spelt) (lit≤ tt) (lit≤ tt)
asks_length words (trace names) asks = has_length words 4 (ap length asks) (lit≤ tt) (lit≤ tt)
asks_length words (check params recorded) asks = has_length words 3 (ap length asks) (lit≤ tt) (lit≤ tt)

pub asks_not_short : (words : List (String Global)) (asked : Asked) → AsksFor (texts words) asked → length words < 2 → ⊥
asks_not_short words asked asks short =
    let long = (asks_length (texts words) asked asks).two in
    let same : length (texts words) ≡ length words = length-map words string_bytes in
    absurd (omega (arith, long, same, short))

pub asks_not_long : (words : List (String Global)) (asked : Asked) → AsksFor (texts words) asked → 6 < length words → ⊥
asks_not_long words asked asks more =
    let long = (asks_length (texts words) asked asks).six in
    let same : length (texts words) ≡ length words = length-map words string_bytes in
    absurd (omega (arith, long, same, more))

-- words that ask for nothing
pub asks_nothing : (words : List (List ℕ)) → asked_in words ≡ None → (asked : Asked) → AsksFor words asked → ⊥
asks_nothing words none asked asks = no_some (sym none ∙ asked_again words asked asks)
  where
    no_some : None ≡ Some asked → ⊥
    no_some same = cc same

-- the texts of four words
pub four_texts : (words : List (String Global)) (a b c d : String Global) (one two three four : List ℕ) → 4 ≤ length words → length words < 5
    → a ≡ get_or words 0 a → b ≡ get_or words 1 b → c ≡ get_or words 2 c → d ≡ get_or words 3 d
    → one ≡ string_bytes a → two ≡ string_bytes b → three ≡ string_bytes c → four ≡ string_bytes d → one ∷ two ∷ three ∷ four ∷ [] ≡ texts words
four_texts [] a b c d one two three four more less is_a is_b is_c is_d first second third last = absurd (omega (arith, more))
four_texts (w ∷ []) a b c d one two three four more less is_a is_b is_c is_d first second third last = absurd (omega (arith, more))
four_texts (w ∷ x ∷ []) a b c d one two three four more less is_a is_b is_c is_d first second third last = absurd (omega (arith, more))
four_texts (w ∷ x ∷ y ∷ []) a b c d one two three four more less is_a is_b is_c is_d first second third last = absurd (omega (arith, more))
four_texts (w ∷ x ∷ y ∷ z ∷ []) a b c d one two three four more less is_a is_b is_c is_d first second third last =
    let w_is : one ≡ string_bytes w = first ∙ ap string_bytes is_a in
    let x_is : two ≡ string_bytes x = second ∙ ap string_bytes is_b in
    let y_is : three ≡ string_bytes y = third ∙ ap string_bytes is_c in
    let z_is : four ≡ string_bytes z = last ∙ ap string_bytes is_d in
    cc
four_texts (v ∷ w ∷ x ∷ y ∷ z ∷ words) a b c d one two three four more less is_a is_b is_c is_d first second third last = absurd (omega (arith, less))

-- of five
pub five_texts : (words : List (String Global)) (a b c d e : String Global) (one two three four five : List ℕ) → 5 ≤ length words → length words < 6
    → a ≡ get_or words 0 a → b ≡ get_or words 1 b → c ≡ get_or words 2 c → d ≡ get_or words 3 d → e ≡ get_or words 4 e
    → one ≡ string_bytes a → two ≡ string_bytes b → three ≡ string_bytes c → four ≡ string_bytes d → five ≡ string_bytes e
    → one ∷ two ∷ three ∷ four ∷ five ∷ [] ≡ texts words
five_texts [] a b c d e one two three four five more less is_a is_b is_c is_d is_e first second third fourth last = absurd (omega (arith, more))
five_texts (u ∷ []) a b c d e one two three four five more less is_a is_b is_c is_d is_e first second third fourth last = absurd (omega (arith, more))
five_texts (u ∷ v ∷ []) a b c d e one two three four five more less is_a is_b is_c is_d is_e first second third fourth last = absurd (omega (arith, more))
five_texts (u ∷ v ∷ w ∷ []) a b c d e one two three four five more less is_a is_b is_c is_d is_e first second third fourth last = absurd (omega (arith, more))
five_texts (u ∷ v ∷ w ∷ x ∷ []) a b c d e one two three four five more less is_a is_b is_c is_d is_e first second third fourth last = absurd (omega (arith, more))
five_texts (u ∷ v ∷ w ∷ x ∷ y ∷ []) a b c d e one two three four five more less is_a is_b is_c is_d is_e first second third fourth last =
    let u_is : one ≡ string_bytes u = first ∙ ap string_bytes is_a in
    let v_is : two ≡ string_bytes v = second ∙ ap string_bytes is_b in
    let w_is : three ≡ string_bytes w = third ∙ ap string_bytes is_c in
    let x_is : four ≡ string_bytes x = fourth ∙ ap string_bytes is_d in
    let y_is : five ≡ string_bytes y = last ∙ ap string_bytes is_e in
    cc
five_texts (t ∷ u ∷ v ∷ w ∷ x ∷ y ∷ words) a b c d e one two three four five more less is_a is_b is_c is_d is_e first second third fourth last = absurd (omega (arith, less))

-- and of six
pub six_texts : (words : List (String Global)) (a b c d e f : String Global) (one two three four five six : List ℕ) → 6 ≤ length words → length words < 7
    → a ≡ get_or words 0 a → b ≡ get_or words 1 b → c ≡ get_or words 2 c → d ≡ get_or words 3 d → e ≡ get_or words 4 e → f ≡ get_or words 5 f
    → one ≡ string_bytes a → two ≡ string_bytes b → three ≡ string_bytes c → four ≡ string_bytes d → five ≡ string_bytes e → six ≡ string_bytes f
    → one ∷ two ∷ three ∷ four ∷ five ∷ six ∷ [] ≡ texts words
six_texts [] a b c d e f one two three four five six more less is_a is_b is_c is_d is_e is_f first second third fourth fifth last = absurd (omega (arith, more))
six_texts (u ∷ []) a b c d e f one two three four five six more less is_a is_b is_c is_d is_e is_f first second third fourth fifth last = absurd (omega (arith, more))
six_texts (u ∷ v ∷ []) a b c d e f one two three four five six more less is_a is_b is_c is_d is_e is_f first second third fourth fifth last = absurd (omega (arith, more))
six_texts (u ∷ v ∷ w ∷ []) a b c d e f one two three four five six more less is_a is_b is_c is_d is_e is_f first second third fourth fifth last = absurd (omega (arith, more))
six_texts (u ∷ v ∷ w ∷ x ∷ []) a b c d e f one two three four five six more less is_a is_b is_c is_d is_e is_f first second third fourth fifth last = absurd (omega (arith, more))
six_texts (u ∷ v ∷ w ∷ x ∷ y ∷ []) a b c d e f one two three four five six more less is_a is_b is_c is_d is_e is_f first second third fourth fifth last = absurd (omega (arith, more))
six_texts (u ∷ v ∷ w ∷ x ∷ y ∷ z ∷ []) a b c d e f one two three four five six more less is_a is_b is_c is_d is_e is_f first second third fourth fifth last =
    let u_is : one ≡ string_bytes u = first ∙ ap string_bytes is_a in
    let v_is : two ≡ string_bytes v = second ∙ ap string_bytes is_b in
    let w_is : three ≡ string_bytes w = third ∙ ap string_bytes is_c in
    let x_is : four ≡ string_bytes x = fourth ∙ ap string_bytes is_d in
    let y_is : five ≡ string_bytes y = fifth ∙ ap string_bytes is_e in
    let z_is : six ≡ string_bytes z = last ∙ ap string_bytes is_f in
    cc
six_texts (t ∷ u ∷ v ∷ w ∷ x ∷ y ∷ z ∷ words) a b c d e f one two three four five six more less is_a is_b is_c is_d is_e is_f first second third fourth fifth last = absurd (omega (arith, less))

pub one_asked : (words : List (List ℕ)) (asked other : Asked) → AsksFor words asked → AsksFor words other → asked ≡ other
one_asked words asked other one two = ap (λ (found : Option Asked). unwrap_or found asked) (sym (asked_again words asked one) ∙ asked_again words other two)
