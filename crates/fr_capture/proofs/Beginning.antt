-- What begins a rest: a frame, and then there is no fault; or a fault, which stays where it is no cut.
use Rattle.std.proofs.Common.{◌≡◌, ℕ, ◌+◌, ◌*◌, ◌≤◌, ◌<◌, true, false, not, cond, nat_lt, ◌==◌, get_or, inl, inr, lit<, ◌%◌, ◌/◌, List, [], ◌++◌, length, take, Option, Some, None, Err, refl, ap, sym, ◌∙◌, subst, arith, length-append, length-drop, append_assoc, ◌-◌, drop, ◌⊎◌}
use Rattle.std.proofs.lemmas.Bool.{cases_Bool, cond-true, cond-false, cond_both, le-ltb, lt-ltb, ltb-true, ltb-false, eq-eqb, ne_eqb}
use Rattle.std.proofs.lemmas.List.{length-take-le, take_at, take_all, take-append-drop, take-append-le, get_or_append_left}
use Rattle.std.proofs.Math.Seq.{take-add}
use Rattle.fr_base.specs.declared.channel.Channel.{Channel}
use Rattle.fr_frame.specs.declared.header.Header.{Header}
use Rattle.fr_frame.specs.declared.fault.FrameFault.{FrameFault}
use Rattle.fr_frame.specs.declared.fault.FrameFault.TheVariants as frame_fault
use Rattle.fr_frame.specs.Frame.{IsFrame}
use Rattle.fr_frame.specs.Fault.{IsFirstFault}
use Rattle.fr_frame.specs.Reading.{crc_of, header_of, header_crc_in, is_set, read_as}
use Rattle.fr_frame.proofs.Exact.{lengths_fit}
use Rattle.fr_frame.proofs.Found.{header_found, frame_read, fault_read}
use Rattle.fr_frame.proofs.Fronts.{front_read}
use Rattle.fr_capture.specs.declared.fault.CaptureFault.{CaptureFault}
use Rattle.fr_capture.specs.declared.fault.CaptureFault.TheVariants as fault
use Rattle.fr_capture.specs.Rest.{size_of, has_right_header, capture_fault_of, whole_fault, fault_in, IsLasting, ShowsFault, wanted}
use Rattle.fr_capture.specs.View.{IsOpen}

-- the reading of a rest by its steps
abbrev sized : Channel → List ℕ → Option CaptureFault
sized channel rest = cond (nat_lt (length rest) (size_of rest)) (Some (fault.Cut (size_of rest) (length rest))) (whole_fault (read_as channel (take (size_of rest) rest)))

abbrev headed : Channel → List ℕ → Option CaptureFault
headed channel rest = cond (not (has_right_header rest)) (Some (fault.HeaderCrc (header_crc_in rest) (crc_of (header_of rest)))) (sized channel rest)

pub fault_of_few : (channel : Channel) (rest : List ℕ) → length rest < 5 → fault_in channel rest ≡ Some (fault.Cut 8 (length rest))
unfolding fault_in
fault_of_few channel rest few = cond-true (nat_lt (length rest) 5) (Some (fault.Cut 8 (length rest))) (headed channel rest) (lt-ltb (length rest) 5 few)

fault_of_headed : (channel : Channel) (rest : List ℕ) → 5 ≤ length rest → fault_in channel rest ≡ headed channel rest
unfolding fault_in
fault_of_headed channel rest enough = cond-false (nat_lt (length rest) 5) (Some (fault.Cut 8 (length rest))) (headed channel rest) (le-ltb (length rest) 5 enough)

pub fault_of_wrong : (channel : Channel) (rest : List ℕ) → 5 ≤ length rest → has_right_header rest ≡ false → fault_in channel rest ≡ Some (fault.HeaderCrc (header_crc_in rest) (crc_of (header_of rest)))
fault_of_wrong channel rest enough wrong =
    fault_of_headed channel rest enough
    ∙ cond-true (not (has_right_header rest)) (Some (fault.HeaderCrc (header_crc_in rest) (crc_of (header_of rest)))) (sized channel rest) (ap not wrong)

fault_of_sized : (channel : Channel) (rest : List ℕ) → 5 ≤ length rest → has_right_header rest ≡ true → fault_in channel rest ≡ sized channel rest
fault_of_sized channel rest enough right =
    fault_of_headed channel rest enough
    ∙ cond-false (not (has_right_header rest)) (Some (fault.HeaderCrc (header_crc_in rest) (crc_of (header_of rest)))) (sized channel rest) (ap not right)

pub fault_of_cut : (channel : Channel) (rest : List ℕ) → 5 ≤ length rest → has_right_header rest ≡ true → length rest < size_of rest → fault_in channel rest ≡ Some (fault.Cut (size_of rest) (length rest))
fault_of_cut channel rest enough right few =
    fault_of_sized channel rest enough right
    ∙ cond-true (nat_lt (length rest) (size_of rest)) (Some (fault.Cut (size_of rest) (length rest))) (whole_fault (read_as channel (take (size_of rest) rest))) (lt-ltb (length rest) (size_of rest) few)

pub fault_of_read : (channel : Channel) (rest : List ℕ) → 5 ≤ length rest → has_right_header rest ≡ true → size_of rest ≤ length rest →
    fault_in channel rest ≡ whole_fault (read_as channel (take (size_of rest) rest))
fault_of_read channel rest enough right whole =
    fault_of_sized channel rest enough right
    ∙ cond-false (nat_lt (length rest) (size_of rest)) (Some (fault.Cut (size_of rest) (length rest))) (whole_fault (read_as channel (take (size_of rest) rest))) (le-ltb (length rest) (size_of rest) whole)

-- ---- five bytes say what a header is
abbrev made : ℕ → ℕ → ℕ → ℕ → Header
made a b c d = record {
  reserved = is_set a 7;
  preamble = is_set a 6;
  null_bit = is_set a 5;
  sync = is_set a 4;
  startup = is_set a 3;
  id = a % 8 * 256 + b;
  words = c / 2;
  cycle = d % 64;
}

pub header_kept : (rest more : List ℕ) → 5 ≤ length rest → (header_of (rest ++ more) ≡ header_of rest) × (header_crc_in (rest ++ more) ≡ header_crc_in rest)
header_kept rest more enough =
    let all : List ℕ = rest ++ more in
    let e0 : get_or all 0 0 ≡ get_or rest 0 0 = get_or_append_left rest more 0 0 (omega arith) in
    let e1 : get_or all 1 0 ≡ get_or rest 1 0 = get_or_append_left rest more 0 1 (omega arith) in
    let e2 : get_or all 2 0 ≡ get_or rest 2 0 = get_or_append_left rest more 0 2 (omega arith) in
    let e3 : get_or all 3 0 ≡ get_or rest 3 0 = get_or_append_left rest more 0 3 (omega arith) in
    let e4 : get_or all 4 0 ≡ get_or rest 4 0 = get_or_append_left rest more 0 4 (omega arith) in (
      ap (λ (x : ℕ). made x (get_or all 1 0) (get_or all 2 0) (get_or all 4 0)) e0
          ∙ ap (λ (x : ℕ). made (get_or rest 0 0) x (get_or all 2 0) (get_or all 4 0)) e1
          ∙ ap (λ (x : ℕ). made (get_or rest 0 0) (get_or rest 1 0) x (get_or all 4 0)) e2
          ∙ ap (λ (x : ℕ). made (get_or rest 0 0) (get_or rest 1 0) (get_or rest 2 0) x) e4,
      ap (λ (x : ℕ). x % 2 * 1024 + get_or all 3 0 * 4 + get_or all 4 0 / 64) e2
          ∙ ap (λ (x : ℕ). get_or rest 2 0 % 2 * 1024 + x * 4 + get_or all 4 0 / 64) e3
          ∙ ap (λ (x : ℕ). get_or rest 2 0 % 2 * 1024 + get_or rest 3 0 * 4 + x / 64) e4,
    )

pub right_kept : (rest more : List ℕ) → 5 ≤ length rest → has_right_header (rest ++ more) ≡ has_right_header rest
right_kept rest more enough =
    let same = header_kept rest more enough in
    ap (λ (h : Header). header_crc_in (rest ++ more) == crc_of h) same.0 ∙ ap (λ (k : ℕ). k == crc_of (header_of rest)) same.1

-- ---- bytes that are as many as their header states are not refused for their number
not_short : (channel : Channel) (rest : List ℕ) (given : ℕ) → 8 ≤ length rest → IsFirstFault channel rest (frame_fault.Short given) → ⊥
not_short channel rest given enough is = omega (arith, is.counted, is.few)

not_long : (channel : Channel) (rest : List ℕ) (stated given : ℕ) → 5 ≤ length rest → length rest ≡ size_of rest → IsFirstFault channel rest (frame_fault.Length stated given) → ⊥
not_long channel rest stated given enough whole is =
    let h : Header = is.header in
    let found : header_of rest ≡ h = (header_found rest h is.crc enough is.header_right.holds).0 in
    let size : size_of rest ≡ 8 + 2 * h.words = ap (λ (g : Header). 8 + 2 * g.words) found in
    is.differs (is.counted ∙ whole ∙ size ∙ sym is.states)

-- how many bytes are wanted
wanted_few : (rest : List ℕ) → length rest < 5 → wanted rest ≡ 5
wanted_few rest few = cond-true (nat_lt (length rest) 5) 5 (cond (has_right_header rest) (size_of rest) 5) (lt-ltb (length rest) 5 few)

wanted_wrong : (rest : List ℕ) → 5 ≤ length rest → has_right_header rest ≡ false → wanted rest ≡ 5
wanted_wrong rest enough wrong =
    cond-false (nat_lt (length rest) 5) 5 (cond (has_right_header rest) (size_of rest) 5) (le-ltb (length rest) 5 enough)
    ∙ cond-false (has_right_header rest) (size_of rest) 5 wrong

pub wanted_right : (rest : List ℕ) → 5 ≤ length rest → has_right_header rest ≡ true → wanted rest ≡ size_of rest
wanted_right rest enough right =
    cond-false (nat_lt (length rest) 5) 5 (cond (has_right_header rest) (size_of rest) 5) (le-ltb (length rest) 5 enough)
    ∙ cond-true (has_right_header rest) (size_of rest) 5 right

pub wanted-le : (rest : List ℕ) → 5 ≤ wanted rest
wanted-le rest =
    cond_both (nat_lt (length rest) 5) 5 (cond (has_right_header rest) (size_of rest) 5) (λ (n : ℕ). 5 ≤ n)
    (λ few. omega arith)
    (λ more. cond_both (has_right_header rest) (size_of rest) 5 (λ (n : ℕ). 5 ≤ n) (λ right. omega arith) (λ wrong. omega arith))

-- five bytes decide it
pub wanted_more : (rest more : List ℕ) → 5 ≤ length rest → wanted (rest ++ more) ≡ wanted rest
wanted_more rest more enough =
    let long : 5 ≤ length (rest ++ more) = rw (length-append rest more) (omega arith) in
    let same = header_kept rest more enough in
    let step : wanted (rest ++ more) ≡ cond (has_right_header (rest ++ more)) (size_of (rest ++ more)) 5 =
    cond-false (nat_lt (length (rest ++ more)) 5) 5 (cond (has_right_header (rest ++ more)) (size_of (rest ++ more)) 5) (le-ltb (length (rest ++ more)) 5 long) in
    let back : wanted rest ≡ cond (has_right_header rest) (size_of rest) 5 =
    cond-false (nat_lt (length rest) 5) 5 (cond (has_right_header rest) (size_of rest) 5) (le-ltb (length rest) 5 enough) in
    step
    ∙ ap (λ (h : Header). cond (header_crc_in (rest ++ more) == crc_of h) (8 + 2 * h.words) 5) same.0
    ∙ ap (λ (k : ℕ). cond (k == crc_of (header_of rest)) (8 + 2 * (header_of rest).words) 5) same.1
    ∙ sym back

-- ---- a frame at the front
pub no_fault : (channel : Channel) (h : Header) (payload front behind : List ℕ) → IsFrame channel h payload front → fault_in channel (front ++ behind) ≡ None
no_fault channel h payload front behind is =
    let all : List ℕ = front ++ behind in
    let n : length front ≡ 8 + 2 * h.words = (lengths_fit channel h payload front is).0 in
    let long : length all ≡ length front + length behind = length-append front behind in
    let found = front_read channel h payload front behind is in
    let right : has_right_header all ≡ true = eq-eqb (header_crc_in all) (crc_of (header_of all)) found.1 in
    let size : size_of all ≡ length front = ap (λ (g : Header). 8 + 2 * g.words) found.0 ∙ sym n in
    fault_of_read channel all (omega arith) right (omega arith)
    ∙ ap (λ (k : ℕ). whole_fault (read_as channel (take k all))) size
    ∙ ap (λ (xs : List ℕ). whole_fault (read_as channel xs)) (take_at front behind (length front) refl)
    ∙ ap whole_fault (frame_read channel h payload front is)

-- ---- no frame, and no more bytes than were wanted
abbrev pub Faulty : Channel → List ℕ → Type 0
Faulty channel rest = (told : CaptureFault) × (fault_in channel rest ≡ Some told)

-- bytes of their frame's length are read as they are
pub whole_is_read : (channel : Channel) (rest : List ℕ) (why : FrameFault) → 5 ≤ length rest → has_right_header rest ≡ true → length rest ≡ size_of rest → read_as channel rest ≡ Err why →
    fault_in channel rest ≡ Some (capture_fault_of why)
whole_is_read channel rest why enough right whole read =
    fault_of_read channel rest enough right (omega arith)
    ∙ ap (λ (xs : List ℕ). whole_fault (read_as channel xs)) (take_all (size_of rest) rest (omega arith))
    ∙ ap whole_fault read

open_sized : (channel : Channel) (rest : List ℕ) → IsOpen channel rest → 5 ≤ length rest → has_right_header rest ≡ true → Faulty channel rest
open_sized channel rest opened enough right =
    let size : wanted rest ≡ size_of rest = wanted_right rest enough right in
    elim (cases_Bool (nat_lt (length rest) (size_of rest))) [
      | inl cut ↦ (fault.Cut (size_of rest) (length rest), fault_of_cut channel rest enough right (ltb-true (length rest) (size_of rest) cut))
      | inr whole ↦
          let least : size_of rest ≤ length rest = ltb-false (length rest) (size_of rest) whole in
          let most : length rest ≤ wanted rest = opened.short in
          (capture_fault_of opened.none.fault, whole_is_read channel rest opened.none.fault enough right (omega arith) (fault_read channel rest opened.none.fault opened.none.first))
    ]

pub open_fault : (channel : Channel) (rest : List ℕ) → IsOpen channel rest → Faulty channel rest
open_fault channel rest opened = elim (cases_Bool (nat_lt (length rest) 5)) [
  | inl few ↦ (fault.Cut 8 (length rest), fault_of_few channel rest (ltb-true (length rest) 5 few))
  | inr more ↦
      let enough : 5 ≤ length rest = ltb-false (length rest) 5 more in
      elim (cases_Bool (has_right_header rest)) [
        | inl right ↦ open_sized channel rest opened enough right
        | inr wrong ↦ (fault.HeaderCrc (header_crc_in rest) (crc_of (header_of rest)), fault_of_wrong channel rest enough wrong)
      ]
]

-- a frame does not begin them
pub none_begins : (channel : Channel) (rest : List ℕ) → IsOpen channel rest → (h : Header) (payload front behind : List ℕ) → IsFrame channel h payload front → rest ≡ front ++ behind → ⊥
none_begins channel rest opened h payload front behind is cut =
    let told = open_fault channel rest opened in
    let both : Some told.0 ≡ None = sym told.1 ∙ ap (fault_in channel) cut ∙ no_fault channel h payload front behind is in
    absurd cc

-- all that was wanted is there, so the fault lasts
shown_whole : (channel : Channel) (rest : List ℕ) (why : FrameFault) → 5 ≤ length rest → has_right_header rest ≡ true → length rest ≡ size_of rest → IsFirstFault channel rest why → ShowsFault channel rest
shown_whole channel rest why enough right whole first =
    record { fault = capture_fault_of why; shown = whole_is_read channel rest why enough right whole (fault_read channel rest why first); lasting = lasts why first }
  where
    lasts : (w : FrameFault) → IsFirstFault channel rest w → IsLasting (capture_fault_of w)
    lasts (frame_fault.Short given) is = absurd (not_short channel rest given (omega arith) is)
    lasts (frame_fault.HeaderCrc kept computed) is = tt
    lasts (frame_fault.Length stated given) is = absurd (not_long channel rest stated given enough whole is)
    lasts (frame_fault.FrameCrc kept computed) is = tt
    lasts frame_fault.ZeroId is = tt
    lasts frame_fault.StartupNotSync is = tt

pub shown : (channel : Channel) (rest : List ℕ) → IsOpen channel rest → length rest ≡ wanted rest → ShowsFault channel rest
shown channel rest opened full =
    let least : 5 ≤ wanted rest = wanted-le rest in
    let enough : 5 ≤ length rest = omega arith in
    elim (cases_Bool (has_right_header rest)) [
      | inl right ↦ shown_whole channel rest opened.none.fault enough right (full ∙ wanted_right rest enough right) opened.none.first
      | inr wrong ↦ record { fault = fault.HeaderCrc (header_crc_in rest) (crc_of (header_of rest)); shown = fault_of_wrong channel rest enough wrong; lasting = tt }
    ]

-- ---- a fault that lasts
abbrev pub Stays : Channel → List ℕ → List ℕ → CaptureFault → Type 0
Stays channel rest more told = fault_in channel rest ≡ Some told → IsLasting told → fault_in channel (rest ++ more) ≡ Some told

cut_is_mended : {A : Type 0} (told : CaptureFault) (needed given : ℕ) (o : Option CaptureFault) → o ≡ Some (fault.Cut needed given) → o ≡ Some told → IsLasting told → A
cut_is_mended told needed given o is other lasting =
    let same : fault.Cut needed given ≡ told = cc in
    absurd (subst IsLasting (sym same) lasting)

wrong_stays : (channel : Channel) (rest more : List ℕ) (told : CaptureFault) → 5 ≤ length rest → has_right_header rest ≡ false → Stays channel rest more told
wrong_stays channel rest more told enough wrong is lasting =
    let same = header_kept rest more enough in
    let long : 5 ≤ length (rest ++ more) = rw (length-append rest more) (omega arith) in
    let again : has_right_header (rest ++ more) ≡ has_right_header rest = right_kept rest more enough in
    fault_of_wrong channel (rest ++ more) long (again ∙ wrong)
    ∙ ap (λ (h : Header). Some (fault.HeaderCrc (header_crc_in (rest ++ more)) (crc_of h))) same.0
    ∙ ap (λ (k : ℕ). Some (fault.HeaderCrc k (crc_of (header_of rest)))) same.1
    ∙ sym (fault_of_wrong channel rest enough wrong)
    ∙ is

whole_stays : (channel : Channel) (rest more : List ℕ) (told : CaptureFault) → 5 ≤ length rest → has_right_header rest ≡ true → size_of rest ≤ length rest → Stays channel rest more told
whole_stays channel rest more told enough right whole is lasting =
    let same = header_kept rest more enough in
    let both : length (rest ++ more) ≡ length rest + length more = length-append rest more in
    let size : size_of (rest ++ more) ≡ size_of rest = ap (λ (h : Header). 8 + 2 * h.words) same.0 in
    fault_of_read channel (rest ++ more) (omega arith) (right_kept rest more enough ∙ right) (omega arith)
    ∙ ap (λ (n : ℕ). whole_fault (read_as channel (take n (rest ++ more)))) size
    ∙ ap (λ (xs : List ℕ). whole_fault (read_as channel xs)) (take-append-le (size_of rest) rest more whole)
    ∙ sym (fault_of_read channel rest enough right whole)
    ∙ is

pub stays : (channel : Channel) (rest more : List ℕ) (told : CaptureFault) → Stays channel rest more told
stays channel rest more told is lasting = elim (cases_Bool (nat_lt (length rest) 5)) [
  | inl few ↦ cut_is_mended told 8 (length rest) (fault_in channel rest) (fault_of_few channel rest (ltb-true (length rest) 5 few)) is lasting
  | inr enough ↦
      let least : 5 ≤ length rest = ltb-false (length rest) 5 enough in
      elim (cases_Bool (has_right_header rest)) [
        | inr wrong ↦ wrong_stays channel rest more told least wrong is lasting
        | inl right ↦ elim (cases_Bool (nat_lt (length rest) (size_of rest))) [
          | inl cut ↦ cut_is_mended told (size_of rest) (length rest) (fault_in channel rest) (fault_of_cut channel rest least right (ltb-true (length rest) (size_of rest) cut)) is lasting
          | inr whole ↦ whole_stays channel rest more told least right (ltb-false (length rest) (size_of rest) whole) is lasting
        ]
      ]
]

-- where a fault is shown that lasts, all that was wanted is there
pub shows_full : (channel : Channel) (rest : List ℕ) → IsOpen channel rest → ShowsFault channel rest → (5 ≤ length rest) × (wanted rest ≡ length rest)
shows_full channel rest opened is = elim (cases_Bool (nat_lt (length rest) 5)) [
  | inl few ↦ cut_is_mended is.fault 8 (length rest) (fault_in channel rest) (fault_of_few channel rest (ltb-true (length rest) 5 few)) is.shown is.lasting
  | inr more ↦
      let enough : 5 ≤ length rest = ltb-false (length rest) 5 more in
      let most : length rest ≤ wanted rest = opened.short in
      let all : wanted rest ≡ length rest = elim (cases_Bool (has_right_header rest)) [
        | inr wrong ↦ (let few : wanted rest ≡ 5 = wanted_wrong rest enough wrong in omega (arith, few, most, enough))
        | inl right ↦ elim (cases_Bool (nat_lt (length rest) (size_of rest))) [
          | inl cut ↦ cut_is_mended is.fault (size_of rest) (length rest) (fault_in channel rest) (fault_of_cut channel rest enough right (ltb-true (length rest) (size_of rest) cut)) is.shown is.lasting
          | inr whole ↦
              let size : wanted rest ≡ size_of rest = wanted_right rest enough right in
              let least : size_of rest ≤ length rest = ltb-false (length rest) (size_of rest) whole in
              omega (arith, size, least, most)
        ]
      ] in
      (enough, all)
]

-- ---- what a feed takes
pub none_opened : (channel : Channel) (kept : List ℕ) → kept ≡ [] → IsOpen channel kept
none_opened channel kept none = subst (IsOpen channel) (sym none) (record { short = omega arith; none = record { fault = frame_fault.Short 0; first = record { counted = refl; few = lit< tt } } })

-- what is left of a piece
left_of : (piece : List ℕ) (n : ℕ) → n ≤ length piece → take (length piece - n) (drop n piece) ≡ drop n piece
left_of piece n within =
    let long : length (drop n piece) ≡ length piece - n = length-drop n piece in
    take_all (length piece - n) (drop n piece) (omega arith)

left-length : (piece : List ℕ) (n : ℕ) → n ≤ length piece → length (take (length piece - n) (drop n piece)) ≡ length piece - n
left-length piece n within = ap length (left_of piece n within) ∙ length-drop n piece

pub filled_kept : (kept once twice piece : List ℕ) (n m : ℕ) → n ≤ length piece → once ≡ kept ++ take n piece → twice ≡ once ++ take m (take (length piece - n) (drop n piece)) → twice ≡ kept ++ take (n + m) piece
filled_kept kept once twice piece n m within first second =
    second
    ∙ ap (λ (xs : List ℕ). once ++ take m xs) (left_of piece n within)
    ∙ ap (λ (xs : List ℕ). xs ++ take m (drop n piece)) first
    ∙ append_assoc kept (take n piece) (take m (drop n piece))
    ∙ ap (λ (xs : List ℕ). kept ++ xs) (sym (take-add n m piece))

-- after both halves no more are there than are wanted
pub filled_short : (kept once twice more : List ℕ) → length once ≤ wanted kept → twice ≡ once ++ more → length twice ≤ wanted once → length twice ≤ wanted twice
filled_short kept once twice more few second short = elim (cases_Bool (nat_lt (length once) 5)) [
  | inl less ↦
      let least : 5 ≤ wanted twice = wanted-le twice in
      let now : wanted once ≡ 5 = wanted_few once (ltb-true (length once) 5 less) in
      omega arith
  | inr enough ↦
      let same : wanted twice ≡ wanted once = ap wanted second ∙ wanted_more once more (ltb-false (length once) 5 enough) in
      omega arith
]

-- and all that was wanted is there, or the piece is used up
pub filled_enough : (kept once twice piece more : List ℕ) (n m : ℕ) → n ≤ length piece → m ≤ length (take (length piece - n) (drop n piece)) → twice ≡ once ++ more →
    (n ≡ length piece) ⊎ (length once ≡ wanted kept) → (m ≡ length (take (length piece - n) (drop n piece))) ⊎ (length twice ≡ wanted once) → (n + m ≡ length piece) ⊎ (length twice ≡ wanted twice)
filled_enough kept once twice piece more n m within inside second (inl used) other =
    let left : length (take (length piece - n) (drop n piece)) ≡ length piece - n = left-length piece n within in
    inl (omega arith)
filled_enough kept once twice piece more n m within inside second (inr full) (inl used) =
    let left : length (take (length piece - n) (drop n piece)) ≡ length piece - n = left-length piece n within in
    inl (omega arith)
filled_enough kept once twice piece more n m within inside second (inr full) (inr whole) =
    let least : 5 ≤ wanted kept = wanted-le kept in
    let same : wanted twice ≡ wanted once = ap wanted second ∙ wanted_more once more (omega arith) in
    inr (whole ∙ sym same)

-- a piece with a header in it, where nothing was there yet
begun_enough : (count given long want most : ℕ) → long ≡ count → want ≡ most → (count ≡ given) ⊎ (count ≡ most) → (count ≡ given) ⊎ (long ≡ want)
begun_enough count given long want most taken same (inl used) = inl used
begun_enough count given long want most taken same (inr full) = inr (taken ∙ full ∙ sym same)

pub begun_filled : (old filled piece : List ℕ) (count : ℕ) → old ≡ [] → filled ≡ old ++ take count piece → 5 ≤ count → count ≤ length piece → count ≤ wanted piece →
    (count ≡ length piece) ⊎ (count ≡ wanted piece) → (length filled ≤ wanted filled) × ((count ≡ length piece) ⊎ (length filled ≡ wanted filled))
begun_filled old filled piece count none is least within most enough =
    let front : filled ≡ take count piece = is ∙ ap (λ (xs : List ℕ). xs ++ take count piece) none in
    let taken : length (take count piece) ≡ count = length-take-le count piece within in
    let long : length filled ≡ count = ap length front ∙ taken in
    let header : 5 ≤ length (take count piece) = rw taken least in
    let same : wanted filled ≡ wanted piece = ap wanted front ∙ sym (wanted_more (take count piece) (drop count piece) header) ∙ ap wanted (take-append-drop count piece) in
    (omega (arith, long, same, most), begun_enough count (length piece) (length filled) (wanted filled) (wanted piece) long same enough)

-- ---- the fault that is told
pub header_is_wrong : (channel : Channel) (rest : List ℕ) (kept computed : ℕ) → 5 ≤ length rest → kept ≡ header_crc_in rest → computed ≡ crc_of (header_of rest) → (kept ≡ computed → ⊥) →
    fault_in channel rest ≡ Some (fault.HeaderCrc kept computed)
header_is_wrong channel rest kept computed enough kept_is computed_is differs =
    fault_of_wrong channel rest enough (ne_eqb (header_crc_in rest) (crc_of (header_of rest)) (λ (e : header_crc_in rest ≡ crc_of (header_of rest)). differs (kept_is ∙ e ∙ sym computed_is)))
    ∙ ap (λ (k : ℕ). Some (fault.HeaderCrc k (crc_of (header_of rest)))) (sym kept_is)
    ∙ ap (λ (k : ℕ). Some (fault.HeaderCrc kept k)) (sym computed_is)

is_right : (rest : List ℕ) (kept computed : ℕ) → kept ≡ header_crc_in rest → computed ≡ crc_of (header_of rest) → kept ≡ computed → has_right_header rest ≡ true
is_right rest kept computed kept_is computed_is same = eq-eqb (header_crc_in rest) (crc_of (header_of rest)) (sym kept_is ∙ same ∙ computed_is)

is_size : (rest : List ℕ) (h : Header) (words : ℕ) → h ≡ header_of rest → words ≡ h.words → 8 + 2 * words ≡ size_of rest
is_size rest h words head is = ap (λ (n : ℕ). 8 + 2 * n) is ∙ ap (λ (g : Header). 8 + 2 * g.words) head

pub frame_is_cut : (channel : Channel) (rest : List ℕ) (h : Header) (kept computed words : ℕ) → 5 ≤ length rest → h ≡ header_of rest → kept ≡ header_crc_in rest → computed ≡ crc_of (header_of rest) → kept ≡ computed →
    words ≡ h.words → length rest < 8 + 2 * words → fault_in channel rest ≡ Some (fault.Cut (8 + 2 * words) (length rest))
frame_is_cut channel rest h kept computed words enough head kept_is computed_is same is few =
    let size : 8 + 2 * words ≡ size_of rest = is_size rest h words head is in
    fault_of_cut channel rest enough (is_right rest kept computed kept_is computed_is same) (rw size at few)
    ∙ ap (λ (n : ℕ). Some (fault.Cut n (length rest))) (sym size)

pub frame_is_refused : (channel : Channel) (rest : List ℕ) (h : Header) (kept computed words : ℕ) (told : CaptureFault) → 5 ≤ length rest → h ≡ header_of rest → kept ≡ header_crc_in rest → computed ≡ crc_of (header_of rest) → kept ≡ computed →
    words ≡ h.words → 8 + 2 * words ≤ length rest → length rest ≤ wanted rest → (why : FrameFault) → IsFirstFault channel rest why → told ≡ capture_fault_of why → fault_in channel rest ≡ Some told
frame_is_refused channel rest h kept computed words told enough head kept_is computed_is same is all short why first told_is =
    let right : has_right_header rest ≡ true = is_right rest kept computed kept_is computed_is same in
    let size : 8 + 2 * words ≡ size_of rest = is_size rest h words head is in
    let most : wanted rest ≡ size_of rest = wanted_right rest enough right in
    whole_is_read channel rest why enough right (exact (length rest) (8 + 2 * words) (size_of rest) (wanted rest) size most all short) (fault_read channel rest why first)
    ∙ ap (λ (f : CaptureFault). Some f) (sym told_is)
  where
    exact : (n m size most : ℕ) → m ≡ size → most ≡ size → m ≤ n → n ≤ most → n ≡ size
    exact n m size most one other low high = omega arith
