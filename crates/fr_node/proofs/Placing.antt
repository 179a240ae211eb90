-- Where an instant lies among the microticks of a cycle, without their positions.
use Rattle.std.proofs.Common.{◌≡◌, ℕ, ◌+◌, ◌-◌, ◌*◌, ◌/◌, ◌<◌, ◌≤◌, ap, sym, ◌∙◌, arith}
use Rattle.std.proofs.Math.Nat.{add-mul, div-mul-le_self, le_of_mul-le-mul_right, lt-div-mul-add, lt_of_mul-lt-mul_right, mul-add-div_right, mul-le-mul_right, mul-lt-mul_of_pos_right, mul_right_comm}

-- a quotient is a number and the quotient of what is left behind so many
pub nearly : (near length ticks : ℕ) → 1 ≤ length → near * length ≤ ticks → near + (ticks - near * length) / length ≡ ticks / length
nearly near length ticks some le =
    let cut : near * length + (ticks - near * length) ≡ ticks = omega (arith, le) in
    sym (mul-add-div_right (omega (arith, some)) near (ticks - near * length)) ∙ ap (λ (x : ℕ). x / length) cut

-- an instant behind a macrotick on the line of a cycle lies behind the macrotick
pub begun_by : (b g m l t : ℕ) → 1 ≤ m → b * g * l ≤ t * m → b * g / m * l ≤ t
begun_by b g m l t some le =
    let whole : b * g / m * m ≤ b * g = div-mul-le_self (b * g) m in
    let longer : b * g / m * m * l ≤ b * g * l = mul-le-mul_right l whole in
    let turned : b * g / m * l * m ≡ b * g / m * m * l = mul_right_comm (b * g / m) l m in
    let all : b * g / m * l * m ≤ t * m = omega (arith, longer, turned, le) in
    le_of_mul-le-mul_right all (omega (arith, some))

-- and one that is a microtick before it on the line lies before it
pub not_ended_by : (e g m l t : ℕ) → 1 ≤ m → 1 ≤ l → t * m + m * l ≤ e * g * l → t < e * g / m * l
not_ended_by e g m l t some long le =
    let whole : e * g < e * g / m * m + m = lt-div-mul-add (omega (arith, some)) in
    let longer : e * g * l < (e * g / m * m + m) * l = mul-lt-mul_of_pos_right whole (omega (arith, long)) in
    let apart : (e * g / m * m + m) * l ≡ e * g / m * m * l + m * l = add-mul (e * g / m * m) m l in
    let turned : e * g / m * l * m ≡ e * g / m * m * l = mul_right_comm (e * g / m) l m in
    let all : t * m < e * g / m * l * m = omega (arith, longer, apart, turned, le) in
    lt_of_mul-lt-mul_right m all
