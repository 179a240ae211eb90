use Rattle.fr_capture.proofs.Beginning.{fault_of_few, header_is_wrong, frame_is_cut, frame_is_refused}
use Rattle.fr_capture.proofs.reading.fault_of.Goals as goal

pub returns-then-kept-lt5 : goal.returns-then-kept-lt5
returns-then-kept-lt5 c = fault_of_few c.args.channel c.args.kept.now c.if-kept-lt5.true

pub returns-then-front : goal.returns-then-front
returns-then-front c =
    header_is_wrong c.args.channel c.args.kept.now c.front_of-front.result.kept c.front_of-front.result.computed c.if-kept-lt5.false
    c.front_of-front.ensures.kept c.front_of-front.ensures.computed c.if-front.true

pub returns-then-kept-needed : goal.returns-then-kept-needed
returns-then-kept-needed c =
    frame_is_cut c.args.channel c.args.kept.now c.front_of-front.result.header c.front_of-front.result.kept c.front_of-front.result.computed c.from.result c.if-kept-lt5.false
    c.front_of-front.ensures.header c.front_of-front.ensures.kept c.front_of-front.ensures.computed c.if-front.false c.from.ensures c.if-kept-needed.true

pub returns : goal.returns
returns c =
    frame_is_refused c.args.channel c.args.kept.now c.front_of-front.result.header c.front_of-front.result.kept c.front_of-front.result.computed c.from.result c.fault_of_whole.result c.if-kept-lt5.false
    c.front_of-front.ensures.header c.front_of-front.ensures.kept c.front_of-front.ensures.computed c.if-front.false c.from.ensures c.if-kept-needed.false c.requires.short
    c.fault_of_whole.ensures.fault c.fault_of_whole.ensures.first c.fault_of_whole.ensures.same
