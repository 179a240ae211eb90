-- Lines on which the macroticks of cycles lie, and the instants of macroticks, which lie less than a microtick below them.
use Rattle.std.proofs.Common.{◌≡◌, ℕ, ◌+◌, ◌-◌, ◌*◌, ◌/◌, ◌<◌, ◌≤◌, ℤ, pos, ap, sym, ◌∙◌, subst, arith}
use Rattle.std.specs.Prelude.{◌+ℤ◌, ◌≤ℤ◌, ◌<ℤ◌, ◌||◌, false, int_le, int_lt}
use Rattle.std.proofs.lemmas.Int.{ints}
use Rattle.std.proofs.Math.Nat.{mul-add, div-mul-le_self, le_of_mul-le-mul_right, lt-div-mul-add, lt_of_mul-lt-mul_right, mul-le-mul_right, mul-lt-mul_of_pos_right}
use Rattle.fr_base.specs.declared.node_row.NodeRow.{NodeRow}
use Rattle.fr_cluster.specs.Values.{Values, amount}
use Rattle.fr_cluster.specs.declared.names.ParamName.TheVariants as name
use Rattle.fr_time.specs.Instant.{action_instant, early_instant, slot_begins, slot_ends}
use Rattle.fr_time.specs.Slots.{slot_end_of, slot_start_of}
use Rattle.fr_node.specs.Arrivals.{is_outside_slot}
use Rattle.fr_air.specs.Lines.{ticks_at, ComesInside, IsLineOf, IsRoomOf, IsSight, IsWider, LiesIn, LiesInSight, LiesInside}
use Rattle.fr_air.specs.declared.lines.Line.{Line}
use Rattle.fr_air.specs.declared.lines.Room.{Room}
use Rattle.fr_air.specs.declared.lines.Sight.{Sight}
use Rattle.fr_air.specs.declared.lines.Spread.{Spread}

-- a quotient lies at or below its line, and less than one below it
whole : (n m l : ℕ) → n / m * l * m ≤ n * l
whole n m l =
    let down : n / m * m ≤ n = div-mul-le_self n m in
    let longer : n / m * m * l ≤ n * l = mul-le-mul_right l down in
    omega (arith, longer)

over : (n m l : ℕ) → 1 ≤ m → n * l ≤ n / m * l * m + m * l
over n m l some =
    let up : n < n / m * m + m = lt-div-mul-add (omega (arith, some)) in
    let most : n ≤ n / m * m + m = omega (arith, up) in
    let longer : n * l ≤ (n / m * m + m) * l = mul-le-mul_right l most in
    omega (arith, longer)

under : (n m l : ℕ) → 1 ≤ m → 1 ≤ l → n * l < n / m * l * m + m * l
under n m l some long =
    let up : n < n / m * m + m = lt-div-mul-add (omega (arith, some)) in
    let longer : n * l < (n / m * m + m) * l = mul-lt-mul_of_pos_right up (omega (arith, long)) in
    omega (arith, longer)

-- one instant comes before another where its line does by a microtick of the other
pub begun_by : (m b r g l a s h k : ℕ) → 1 ≤ m → m * (r + k) + b * (g * l) ≤ m * s + a * (h * k) → r + b * g / m * l ≤ s + a * h / m * k
begun_by m b r g l a s h k some le =
    let first : b * g / m * l * m ≤ b * g * l = whole (b * g) m l in
    let last : a * h * k ≤ a * h / m * k * m + m * k = over (a * h) m k some in
    let all : (r + b * g / m * l) * m ≤ (s + a * h / m * k) * m = omega (arith, first, last, le) in
    le_of_mul-le-mul_right all (omega (arith, some))

pub not_ended_by : (m a s h k e r g l : ℕ) → 1 ≤ m → 1 ≤ l → m * (s + l) + a * (h * k) ≤ m * r + e * (g * l) → s + a * h / m * k < r + e * g / m * l
not_ended_by m a s h k e r g l some long le =
    let first : a * h / m * k * m ≤ a * h * k = whole (a * h) m k in
    let last : e * g * l < e * g / m * l * m + m * l = under (e * g) m l some long in
    let all : (s + a * h / m * k) * m < (r + e * g / m * l) * m = omega (arith, first, last, le) in
    lt_of_mul-lt-mul_right m all

-- the instant of a macrotick of a row is that of its line
pub instant-at : (p : Values) (room : Room) (row : NodeRow) (base : ℤ) (line : Line) (macrotick : ℕ) → IsRoomOf p room → IsLineOf p row base line → early_instant p row macrotick ≡ base +ℤ pos (ticks_at room line macrotick)
instant-at p room row base line macrotick is on =
    rw (on.start, ← on.micros, ← on.length, ← is.macros) (omega (arith, ints))

tests : (base delay begins acts ends : ℤ) (b a t e : ℕ) → begins ≡ base +ℤ pos b → acts ≡ base +ℤ pos a → ends ≡ base +ℤ pos e → pos t ≡ delay → b ≤ a + t → a + t < e →
    (int_lt (acts +ℤ delay) begins || int_le ends (acts +ℤ delay)) ≡ false
tests base delay begins acts ends b a t e is_begin is_act is_end is_delay begun not_ended =
    let after : begins ≤ℤ (acts +ℤ delay) = omega (arith, ints, is_begin, is_act, is_delay, begun) in
    let before : (acts +ℤ delay) <ℤ ends = omega (arith, ints, is_end, is_act, is_delay, not_ended) in
    grind (arith, ints, after, before)

-- what comes inside by the lines comes inside of the slot
pub inside : (p : Values) (room : Room) (sender receiver : NodeRow) (base delay : ℤ) (from to : Line) (ticks slot : ℕ) → IsRoomOf p room → IsLineOf p sender base from → IsLineOf p receiver base to →
    pos ticks ≡ delay → 1 ≤ slot → slot ≤ amount p name.gNumberOfStaticSlots → ((begin : ℕ) → begin ≤ room.last → LiesInside room from to ticks begin) →
    is_outside_slot p receiver slot (action_instant p sender slot +ℤ delay) ≡ false
inside p room sender receiver base delay from to ticks slot is sends hears lasts some le lies =
    let length : ℕ = amount p name.gdStaticSlot in
    let begin : ℕ = slot_start_of p slot in
    let fewer : slot - 1 ≤ amount p name.gNumberOfStaticSlots - 1 = omega (arith, le) in
    let early : begin ≤ room.last = omega (arith, mul-le-mul_right length fewer, is.last) in
    let cut : slot - 1 + 1 ≡ slot = omega (arith, some) in
    let next : slot_end_of p slot ≡ begin + room.slot = omega (arith, ap (λ (n : ℕ). n * length) cut, is.slot) in
    let begins : slot_begins p receiver slot ≡ base +ℤ pos (ticks_at room to begin) = instant-at p room receiver base to begin is hears in
    let acts : action_instant p sender slot ≡ base +ℤ pos (ticks_at room from (begin + room.offset)) =
    ap (λ (n : ℕ). early_instant p sender (begin + n)) (sym is.offset) ∙ instant-at p room sender base from (begin + room.offset) is sends in
    let ends : slot_ends p receiver slot ≡ base +ℤ pos (ticks_at room to (begin + room.slot)) =
    ap (early_instant p receiver) next ∙ instant-at p room receiver base to (begin + room.slot) is hears in
    let l = lies begin early in
    tests base delay (slot_begins p receiver slot) (action_instant p sender slot) (slot_ends p receiver slot)
    (ticks_at room to begin) (ticks_at room from (begin + room.offset)) ticks (ticks_at room to (begin + room.slot)) begins acts ends lasts l.begun l.not_ended

-- ---- the lines of a spread

-- two steps, the greater one more often
crossed : (b last slow fast : ℕ) → b ≤ last → slow ≤ fast → b * fast + last * slow ≤ last * fast + b * slow
crossed b last slow fast le less =
    let cut : slow + (fast - slow) ≡ fast = omega (arith, less) in
    let all : last * fast ≡ last * slow + last * (fast - slow) = ap (λ (n : ℕ). last * n) (sym cut) ∙ mul-add last slow (fast - slow) in
    let some : b * fast ≡ b * slow + b * (fast - slow) = ap (λ (n : ℕ). b * n) (sym cut) ∙ mul-add b slow (fast - slow) in
    let fewer : b * (fast - slow) ≤ last * (fast - slow) = mul-le-mul_right (fast - slow) le in
    omega (arith, all, some, fewer)

times : (m a b : ℕ) → a ≤ b → m * a ≤ m * b
times m a b le = let right : a * m ≤ b * m = mul-le-mul_right m le in omega (arith, right)

begins_early : (m b last off high low slow fast r k own s sent : ℕ) → b ≤ last → r ≤ high → k ≤ 1_500_000 → own ≤ fast → low ≤ s → slow ≤ sent → slow ≤ fast →
    m * (high + 1_500_000) + last * fast ≤ m * low + (last + off) * slow → m * (r + k) + b * own ≤ m * s + (b + off) * sent
begins_early m b last off high low slow fast r k own s sent le r_to k_to own_to from sent_from order all =
    let first : m * (r + k) ≤ m * (high + 1_500_000) = times m (r + k) (high + 1_500_000) (omega (arith, r_to, k_to)) in
    let steps : b * own ≤ b * fast = times b own fast own_to in
    let cross : b * fast + last * slow ≤ last * fast + b * slow = crossed b last slow fast le order in
    let start : m * low ≤ m * s = times m low s from in
    let acts : (b + off) * slow ≤ (b + off) * sent = times (b + off) slow sent sent_from in
    omega (arith, first, steps, cross, start, acts, all)

ends_late : (m b last off slot high low slow fast slack d s k sent r own : ℕ) → b ≤ last → s ≤ high → k ≤ 1_500_000 → sent ≤ fast → low ≤ r → slow ≤ own → slow ≤ fast → m * d ≤ slack →
    m * (high + 1_500_000) + (last + off) * fast + slack ≤ m * low + (last + slot) * slow → m * (s + d + k) + (b + off) * sent ≤ m * r + (b + slot) * own
ends_late m b last off slot high low slow fast slack d s k sent r own le s_to k_to sent_to from own_from order short all =
    let first : m * (s + k) ≤ m * (high + 1_500_000) = times m (s + k) (high + 1_500_000) (omega (arith, s_to, k_to)) in
    let steps : (b + off) * sent ≤ (b + off) * fast = times (b + off) sent fast sent_to in
    let cross : b * fast + last * slow ≤ last * fast + b * slow = crossed b last slow fast le order in
    let start : m * low ≤ m * r = times m low r from in
    let ends : (b + slot) * slow ≤ (b + slot) * own = times (b + slot) slow own own_from in
    omega (arith, first, steps, cross, start, ends, short, all)

-- what one of them sends comes to another inside of its slot
pub comes : (p : Values) (sight : Sight) (sender receiver : NodeRow) (delay : ℤ) (ticks : ℕ) → IsSight p sight → LiesIn p sight.spread sender → LiesIn p sight.spread receiver → pos ticks ≡ delay →
    sight.room.macros * ticks ≤ sight.slack → ComesInside p sender receiver delay
comes p sight sender receiver delay ticks is sends hears lasts short slot some le =
    let room : Room = sight.room in
    let spread : Spread = sight.spread in
    let s : Line = sends.line in
    let r : Line = hears.line in
    let order : spread.slow ≤ spread.fast = omega (arith, sends.slow, sends.fast) in
    inside p room sender receiver spread.base delay s r ticks slot is.is_room sends.of_row hears.of_row lasts some le
    (λ begin early.
    let first : room.macros * (r.start + s.length) + begin * (r.micros * r.length) ≤ room.macros * (s.start + ticks) + (begin + room.offset) * (s.micros * s.length) =
    begins_early room.macros begin room.last room.offset spread.high spread.low spread.slow spread.fast r.start s.length (r.micros * r.length) (s.start + ticks) (s.micros * s.length)
    early hears.high sends.of_row.is_line.long hears.fast (omega (arith, sends.low)) sends.slow order is.leaves.begun in
    let last : room.macros * (s.start + ticks + r.length) + (begin + room.offset) * (s.micros * s.length) ≤ room.macros * r.start + (begin + room.slot) * (r.micros * r.length) =
    ends_late room.macros begin room.last room.offset room.slot spread.high spread.low spread.slow spread.fast sight.slack ticks s.start r.length (s.micros * s.length) r.start (r.micros * r.length)
    early sends.high hears.of_row.is_line.long sends.fast hears.low hears.slow order short is.leaves.ended in
    record {
      begun = omega (arith, begun_by room.macros begin r.start r.micros r.length (begin + room.offset) (s.start + ticks) s.micros s.length is.is_room.is_room.some first);
      not_ended = omega (arith, not_ended_by room.macros (begin + room.offset) (s.start + ticks) s.micros s.length (begin + room.slot) r.start r.micros r.length is.is_room.is_room.some hears.of_row.is_line.some last);
    })

-- a wider spread takes in what the narrow one does
pub wider : (p : Values) (narrow wide : Spread) (row : NodeRow) → IsWider narrow wide → LiesInSight p narrow row → LiesInSight p wide row
wider p narrow wide row is lies awake =
    let l : LiesIn p narrow row = lies awake in
    let P : ℤ → Type 0 = λ (base : ℤ). IsLineOf p row base l.line in
    record {
      line = l.line;
      of_row = subst P (sym is.base) l.of_row;
      low = omega (arith, is.low, l.low);
      high = omega (arith, is.high, l.high);
      slow = omega (arith, is.slow, l.slow);
      fast = omega (arith, is.fast, l.fast);
    }
