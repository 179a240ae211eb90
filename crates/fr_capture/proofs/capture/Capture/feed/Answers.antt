use Rattle.std.proofs.Common.{take}
use Rattle.fr_capture.proofs.Filling.{fed_open, fed_stuck, fed_unfinished, fed_moves, fed_whole}
use Rattle.fr_capture.proofs.capture.Capture.feed.Goals as goal

pub returns-in-None-clause-goes_on : goal.returns-in-None-clause-goes_on
returns-in-None-clause-goes_on c =
    fed_open c.args.self.now c.self.inside.channel c.self.inside.place c.self.inside.kept c.start_anew.new.kept c.fill-used.new.kept c.as_slice.result.now (take c.fill-used.result c.args.piece.now)
    c.self.inside.whole c.whole_in-self-inside.result c.self.view_is c.start_anew.ensures c.fill-used.ensures.kept c.fill-used.ensures.short c.as_slice.ensures.bytes
    (c.whole_in-self-inside.ensures.none c.in-None.is) c.in-None.is

pub returns-in-None-clause-none : goal.returns-in-None-clause-none
returns-in-None-clause-none c =
    λ _. fed_unfinished c.args.self.now c.self.inside.channel c.self.inside.place c.self.inside.kept c.start_anew.new.kept c.fill-used.new.kept c.as_slice.result.now c.args.piece.now c.fill-used.result
    c.self.inside.whole c.whole_in-self-inside.result c.self.view_is c.start_anew.ensures c.fill-used.ensures.kept c.fill-used.ensures.short c.as_slice.ensures.bytes
    (c.whole_in-self-inside.ensures.none c.in-None.is) c.in-None.is c.fill-used.ensures.enough

pub returns-in-None-clause-moves : goal.returns-in-None-clause-moves
returns-in-None-clause-moves c =
    fed_moves c.args.self.now c.self.inside.channel c.self.inside.place c.self.inside.kept c.start_anew.new.kept c.fill-used.new.kept c.args.piece.now c.fill-used.result c.self.inside.whole c.self.view_is c.self.invariant c.start_anew.ensures c.fill-used.ensures.kept c.fill-used.ensures.enough

pub returns-in-Some-clause-goes_on : goal.returns-in-Some-clause-goes_on
returns-in-Some-clause-goes_on c =
    fed_whole c.args.self.now c.self.inside.channel c.self.inside.place c.self.inside.kept c.start_anew.new.kept c.fill-used.new.kept c.as_slice.result.now c.as_slice-in-Some.result.now (take c.fill-used.result c.args.piece.now)
    c.self.inside.whole c.whole_in-self-inside.result c.in-Some.field-0 c.self.view_is c.start_anew.ensures c.fill-used.ensures.kept c.as_slice.ensures.bytes c.as_slice-in-Some.ensures.bytes
    c.whole_in-self-inside.ensures.found c.in-Some.is

pub returns-in-Some-clause-moves : goal.returns-in-Some-clause-moves
returns-in-Some-clause-moves c =
    fed_moves c.args.self.now c.self.inside.channel c.self.inside.place c.self.inside.kept c.start_anew.new.kept c.fill-used.new.kept c.args.piece.now c.fill-used.result c.self.inside.whole c.self.view_is c.self.invariant c.start_anew.ensures c.fill-used.ensures.kept c.fill-used.ensures.enough

pub returns-in-None-clause-used : goal.returns-in-None-clause-used
returns-in-None-clause-used c =
    (c.fill-used.ensures.within, fed_stuck c.args.self.now c.self.inside.channel c.self.inside.place c.self.inside.kept c.start_anew.new.kept c.fill-used.new.kept c.args.piece.now c.fill-used.result c.self.inside.whole c.self.view_is c.self.invariant c.start_anew.ensures c.fill-used.ensures.kept c.fill-used.ensures.short c.fill-used.ensures.within)

pub returns-in-Some-clause-used : goal.returns-in-Some-clause-used
returns-in-Some-clause-used c =
    (c.fill-used.ensures.within, fed_stuck c.args.self.now c.self.inside.channel c.self.inside.place c.self.inside.kept c.start_anew.new.kept c.fill-used.new.kept c.args.piece.now c.fill-used.result c.self.inside.whole c.self.view_is c.self.invariant c.start_anew.ensures c.fill-used.ensures.kept c.fill-used.ensures.short c.fill-used.ensures.within)
