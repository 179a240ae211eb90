-- Frames one after the other: more bytes behind them, one frame more, and that no list is longer.
use Rattle.std.proofs.Common.{◌≡◌, ℕ, ◌+◌, ◌≤◌, List, [], ◌∷◌, ◌++◌, length, refl, ap, sym, ◌∙◌, subst, arith, length-append, append_assoc}
use Rattle.fr_base.specs.declared.channel.Channel.{Channel}
use Rattle.fr_frame.specs.declared.header.Header.{Header}
use Rattle.fr_frame.specs.Frame.{IsFrame}
use Rattle.fr_frame.proofs.Exact.{reading_is_one}
use Rattle.fr_frame.proofs.Fronts.{front_is_whole}
use Rattle.fr_capture.specs.Frames.{AreFrom, AreFrames, Found}

-- no frame begins the bytes
abbrev pub NoneBegins : Channel → List ℕ → Type 0
NoneBegins channel rest = (h : Header) (payload front behind : List ℕ) → IsFrame channel h payload front → rest ≡ front ++ behind → ⊥

-- more bytes stand behind the rest
pub stand_more : (channel : Channel) (place : ℕ) (frames : List Found) (bytes rest more : List ℕ) → AreFrom channel place frames bytes rest → AreFrom channel place frames (bytes ++ more) (rest ++ more)
stand_more channel place [] bytes rest more are = ap (λ (xs : List ℕ). xs ++ more) are
stand_more channel place (f ∷ frames) bytes rest more (front, (behind, (first, are))) = (
  front,
  (
    behind ++ more,
    (
      record {
        placed = first.placed;
        frame = first.frame;
        cut = ap (λ (xs : List ℕ). xs ++ more) first.cut ∙ append_assoc front behind more;
      },
      stand_more channel (place + length front) frames behind rest more are,
    ),
  ),
)

-- a frame stands at the front of the rest
pub stand_one : (channel : Channel) (place : ℕ) (frames : List Found) (bytes rest front behind : List ℕ) (f : Found) → AreFrom channel place frames bytes rest →
    f.place + length rest ≡ place + length bytes → IsFrame channel f.header f.payload front → rest ≡ front ++ behind → AreFrom channel place (frames ++ f ∷ []) bytes behind
stand_one channel place [] bytes rest front behind f are placed frame cut =
    (front, (behind, (record { placed = at; frame = frame; cut = are ∙ cut }, refl)))
  where
    at : f.place ≡ place
    at = let long : length bytes ≡ length rest = ap length are in omega (arith, placed, long)
stand_one channel place (g ∷ frames) bytes rest front behind f (first_bytes, (others, (first, are))) placed frame cut =
    (first_bytes, (others, (first, stand_one channel (place + length first_bytes) frames others rest front behind f are along frame cut)))
  where
    along : f.place + length rest ≡ place + length first_bytes + length others
    along =
        let long : length bytes ≡ length first_bytes + length others = ap length first.cut ∙ length-append first_bytes others in
        omega (arith, placed, long)

-- no list that stands there is longer
pub none_longer : (channel : Channel) (place other : ℕ) (frames others : List Found) (bytes rest behind : List ℕ) → AreFrom channel place frames bytes rest → NoneBegins channel rest →
    AreFrom channel other others bytes behind → length others ≤ length frames
none_longer channel place other frames [] bytes rest behind are none they = omega arith
none_longer channel place other [] (g ∷ others) bytes rest behind are none (front, (more, (first, they))) =
    absurd (none g.header g.payload front more first.frame (sym are ∙ first.cut))
none_longer channel place other (f ∷ frames) (g ∷ others) bytes rest behind (front, (more, (one, are))) none (front_too, (more_too, (two, they))) =
    let same : (front ≡ front_too) × (more ≡ more_too) = front_is_whole channel f.header g.header f.payload g.payload front front_too more more_too one.frame two.frame (sym one.cut ∙ two.cut) in
    let P : List ℕ → Type 0 = λ (xs : List ℕ). AreFrom channel (other + length front_too) others xs behind in
    let less : length others ≤ length frames = none_longer channel (place + length front) (other + length front_too) frames others more rest behind are none (subst P (sym same.1) they) in
    omega (arith, less)

-- so they are the frames of the bytes
pub frames_are : (channel : Channel) (frames : List Found) (bytes rest : List ℕ) → AreFrom channel 0 frames bytes rest → NoneBegins channel rest → AreFrames channel bytes frames rest
frames_are channel frames bytes rest are none = record {
  stand = are;
  longest = λ others behind they. none_longer channel 0 0 frames others bytes rest behind are none they;
}

abbrev found_of : ℕ → Header → List ℕ → Found
found_of place header payload = record { place = place; header = header; payload = payload }

found_is : (x y : Found) → x.place ≡ y.place → x.header ≡ y.header → x.payload ≡ y.payload → x ≡ y
found_is x y p h l =
    ap (λ (n : ℕ). found_of n x.header x.payload) p ∙ ap (λ (z : Header). found_of y.place z x.payload) h ∙ ap (λ (xs : List ℕ). found_of y.place y.header xs) l

-- lists of one length that stand there are one
stand_one_list : (channel : Channel) (place : ℕ) (frames others : List Found) (bytes rest other : List ℕ) → length frames ≡ length others → AreFrom channel place frames bytes rest → AreFrom channel place others bytes other →
    (frames ≡ others) × (rest ≡ other)
stand_one_list channel place [] [] bytes rest other long are they = (refl, sym are ∙ they)
stand_one_list channel place [] (g ∷ others) bytes rest other long are they = absurd (omega arith)
stand_one_list channel place (f ∷ frames) [] bytes rest other long are they = absurd (omega arith)
stand_one_list channel place (f ∷ frames) (g ∷ others) bytes rest other long (front, (more, (one, are))) (front_too, (more_too, (two, they))) =
    let same : (front ≡ front_too) × (more ≡ more_too) = front_is_whole channel f.header g.header f.payload g.payload front front_too more more_too one.frame two.frame (sym one.cut ∙ two.cut) in
    let F : List ℕ → Type 0 = λ (xs : List ℕ). IsFrame channel g.header g.payload xs in
    let read : (f.header ≡ g.header) × (f.payload ≡ g.payload) = reading_is_one channel f.header g.header f.payload g.payload front one.frame (subst F (sym same.0) two.frame) in
    let head : f ≡ g = found_is f g (one.placed ∙ sym two.placed) read.0 read.1 in
    let P : List ℕ → Type 0 = λ (xs : List ℕ). AreFrom channel (place + length front_too) others xs other in
    let Q : List ℕ → Type 0 = λ (xs : List ℕ). AreFrom channel (place + length xs) others more other in
    let rest_is = stand_one_list channel (place + length front) frames others more rest other (omega arith) are (subst Q (sym same.0) (subst P (sym same.1) they)) in
    (ap (λ (x : Found). x ∷ frames) head ∙ ap (λ (xs : List Found). g ∷ xs) rest_is.0, rest_is.1)

pub frames_are_one : (channel : Channel) (bytes : List ℕ) (frames others : List Found) (rest other : List ℕ) → AreFrames channel bytes frames rest → AreFrames channel bytes others other →
    (frames ≡ others) × (rest ≡ other)
frames_are_one channel bytes frames others rest other are they =
    let most : length others ≤ length frames = are.longest others other they.stand in
    let least : length frames ≤ length others = they.longest frames rest are.stand in
    stand_one_list channel 0 frames others bytes rest other (omega (arith, most, least)) are.stand they.stand

-- no frame begins what is behind the frames
pub rest_begins_none : (channel : Channel) (bytes rest : List ℕ) (frames : List Found) (place : ℕ) → place + length rest ≡ length bytes → AreFrames channel bytes frames rest → NoneBegins channel rest
rest_begins_none channel bytes rest frames place placed are = λ h payload front behind frame cut.
    let found : Found = record { place = place; header = h; payload = payload } in
    let more : length (frames ++ found ∷ []) ≤ length frames = are.longest (frames ++ found ∷ []) behind (stand_one channel 0 frames bytes rest front behind found are.stand (omega (arith, placed)) frame cut) in
    let long : length (frames ++ found ∷ []) ≡ length frames + 1 = length-append frames (found ∷ []) in
    omega (arith, more, long)

-- frames at the front of a longer recording are a front of its frames
pub front_of_frames : (channel : Channel) (place : ℕ) (frames all : List Found) (bytes rest end : List ℕ) → length frames ≤ length all → AreFrom channel place frames bytes rest → AreFrom channel place all bytes end →
    (others : List Found) × (all ≡ frames ++ others)
front_of_frames channel place [] all bytes rest end few are they = (all, refl)
front_of_frames channel place (f ∷ frames) [] bytes rest end few are they = absurd (omega arith)
front_of_frames channel place (f ∷ frames) (g ∷ all) bytes rest end few (front, (more, (one, are))) (front_too, (more_too, (two, they))) =
    let same : (front ≡ front_too) × (more ≡ more_too) = front_is_whole channel f.header g.header f.payload g.payload front front_too more more_too one.frame two.frame (sym one.cut ∙ two.cut) in
    let F : List ℕ → Type 0 = λ (xs : List ℕ). IsFrame channel g.header g.payload xs in
    let read : (f.header ≡ g.header) × (f.payload ≡ g.payload) = reading_is_one channel f.header g.header f.payload g.payload front one.frame (subst F (sym same.0) two.frame) in
    let head : g ≡ f = found_is g f (two.placed ∙ sym one.placed) (sym read.0) (sym read.1) in
    let P : List ℕ → Type 0 = λ (xs : List ℕ). AreFrom channel (place + length front_too) all xs end in
    let Q : List ℕ → Type 0 = λ (xs : List ℕ). AreFrom channel (place + length xs) all more end in
    let next = front_of_frames channel (place + length front) frames all more rest end (omega arith) are (subst Q (sym same.0) (subst P (sym same.1) they)) in
    (next.0, ap (λ (x : Found). x ∷ all) head ∙ ap (λ (xs : List Found). f ∷ xs) next.1)
