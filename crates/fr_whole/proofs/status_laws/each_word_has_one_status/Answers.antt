use Rattle.fr_whole.proofs.Wholes.{one_status_of_all}
use Rattle.fr_whole.proofs.status_laws.each_word_has_one_status.Goals as goal

pub returns : goal.returns
returns c =
    one_status_of_all c.each_request_has_one_status.ensures c.an_observation_has_one_status.ensures c.a_sharp_report_has_one_status.ensures c.a_sharp_check_has_one_status.ensures
    c.a_power_on_has_one_status.ensures
