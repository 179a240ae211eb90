use Rattle.fr_answer.proofs.RequestStatus.{each_request}
use Rattle.fr_answer.proofs.status_laws.each_request_has_one_status.Goals as goal

pub returns : goal.returns
returns c = each_request (record {
  frames = c.a_frame_has_one_status.ensures;
  bounds = c.bounds_have_one_status.ensures.bound;
  joins = c.bounds_have_one_status.ensures.join;
  sharps = c.bounds_have_one_status.ensures.sharp;
  sharp_joins = c.bounds_have_one_status.ensures.sharp_join;
  losses = c.losses_have_one_status.ensures;
  upgrades = c.an_upgrade_has_one_status.ensures;
  settles = c.settlings_have_one_status.ensures.older;
  sharp_settles = c.settlings_have_one_status.ensures.sharp;
  runs = c.a_run_has_one_status.ensures;
  makes = c.a_made_run_has_one_status.ensures;
  captures = c.a_capture_has_one_status.ensures;
  vectors = c.vectors_have_one_status.ensures;
  startups = c.a_startup_has_one_status.ensures;
  traces = c.a_trace_has_one_status.ensures;
  checks = c.a_check_has_one_status.ensures;
})
