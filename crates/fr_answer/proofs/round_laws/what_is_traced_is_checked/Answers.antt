use Rattle.fr_answer.proofs.RoundTrips.{what-is-traced, what-is-traced-alone}
use Rattle.fr_answer.proofs.round_laws.what_is_traced_is_checked.Goals as goal

pub returns-clause-joined : goal.returns-clause-joined
returns-clause-joined c =
    what-is-traced c.one_lawful_run.ensures.only c.covered_files_are_stated.ensures c.files_are_read_back.ensures.ranges c.files_are_read_back.ensures.read c.a_covered_run_passes.ensures.passes
    c.a_verdict_tells_of_the_run.ensures.greatest c.a_verdict_tells_of_the_run.ensures.synced c.one_answer.ensures.some c.a_passing_trace_keeps_its_precision.ensures.keep c.a_run_is_read_back.ensures.fit

pub returns-clause-alone : goal.returns-clause-alone
returns-clause-alone c =
    what-is-traced-alone c.one_lawful_run.ensures.only c.files_are_read_back.ensures.alone c.files_are_read_back.ensures.read c.a_verdict_tells_of_the_run.ensures.greatest c.a_verdict_tells_of_the_run.ensures.alone
