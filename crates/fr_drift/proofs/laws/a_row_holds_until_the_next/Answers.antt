use Rattle.std.proofs.Common.{ℤ, pos, Option, ap}
use Rattle.std.specs.Prelude.{◌*ℤ◌, unwrap_or}
use Rattle.fr_drift.specs.View.{compensation_on, delay_rows, length_rows}
use Rattle.fr_drift.specs.Questions.{delay_of, length_of}
use Rattle.fr_drift.proofs.Lines.{held-last, held-none}
use Rattle.fr_drift.proofs.laws.a_row_holds_until_the_next.Goals as goal

pub returns-clause-length : goal.returns-clause-length
unfolding length_of
returns-clause-length c = λ d node. record {
  held = λ from cycle ticks there low none. ap (λ (o : Option ℤ). unwrap_or o (pos 1_000_000)) (held-last (length_rows d node) from cycle ticks low there none);
  none = λ cycle none. ap (λ (o : Option ℤ). unwrap_or o (pos 1_000_000)) (held-none (length_rows d node) cycle none);
}

pub returns-clause-delay : goal.returns-clause-delay
unfolding delay_of
returns-clause-delay c = λ d sender receiver ch. record {
  held = λ from cycle ticks there low none.
      ap (λ (o : Option ℤ). unwrap_or o (compensation_on d ch *ℤ pos 1_000_000)) (held-last (delay_rows d sender receiver ch) from cycle ticks low there none);
  none = λ cycle none. ap (λ (o : Option ℤ). unwrap_or o (compensation_on d ch *ℤ pos 1_000_000)) (held-none (delay_rows d sender receiver ch) cycle none);
}
