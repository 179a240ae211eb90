use Rattle.fr_time.proofs.Ends.{corrected_start, even_end, odd_end, next_start, start}
use Rattle.fr_time.proofs.laws.a_cycle_begins_and_ends.Goals as goal

pub returns : goal.returns
returns c grid row can = record {
  begins = λ odd. start grid row.rate row.offset odd can;
  even_ends = even_end grid row.rate row.offset can;
  odd_ends = odd_end grid row.rate row.offset can;
  rules_meet = corrected_start grid row.rate row.offset can;
  next_starts = λ odd ends. next_start grid row odd can ends;
}
