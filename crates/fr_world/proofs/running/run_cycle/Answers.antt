use Rattle.std.proofs.Common.{◌≡◌, ◌∙◌, false, true, List, map, ap, refl, sym, subst}
use Rattle.std.specs.Prelude.{All}
use Rattle.fr_base.specs.Counts.{AreAtMost, no_counts}
use Rattle.fr_cluster.specs.Setting.{Setting}
use Rattle.fr_history.specs.Recorded.{recorded}
use Rattle.fr_history.specs.Next.{cycles_of, next_cycle}
use Rattle.fr_history.proofs.RunsExist.{length-cycles_of}
use Rattle.fr_world.proofs.Asked.{all-listen, has-few, has-passed}
use Rattle.fr_world.proofs.Early.{all-ended, early-rows}
use Rattle.fr_air.proofs.OneCycle.{all-wait, are-listable, begun-listable, counts-are, devs-are, keys-ascend, record-is, rows-are, waiting-listable}
use Rattle.fr_world.proofs.Stepping.{AreHeard, IsBefore, before-is, early-caught, first-few, first-memory, first-succeeds, keeps-on, listeners-heard, nodes-caught, remembers-on, rows-early, rows-start}
use Rattle.fr_world.proofs.Stages.{begun-stage, counts-walked}
use Rattle.fr_air.specs.Files.{setting_in}
use Rattle.fr_node.specs.Listening.{ListenerView}
use Rattle.fr_node.specs.View.{node_row_of}
use Rattle.fr_air.specs.Cycling.{AreListable}
use Rattle.fr_air.specs.Listening.{IsListener}
use Rattle.fr_world.specs.Stage.{AllReady, StageView}
use Rattle.fr_world.proofs.running.run_cycle.Goals as goal

pub succeed-requires : goal.succeed-requires
succeed-requires c =
    let a = c.args in
    let f = a.files.now in
    let x : Setting = setting_in f in
    let before : IsBefore f a.cycle a.stage.now = before-is f a.cycle a.keys.now a.stage.now a.row.now.devs c.sane.ensures c.files_are_lawful.ensures c.requires.stand in
    record {
      in_run = c.requires.in_run;
      proper = c.requires.joins;
      passed = has-passed f c.requires.joins a.cycle a.stage.now before.run.lawful.1 (length-cycles_of x a.cycle) before.keeps;
      fit = record { nodes = c.requires.stand.fitting; followers = c.requires.stand.followers_fit };
      listeners = all-listen f c.requires.joins a.cycle a.stage.now.listeners c.requires.stand.listeners_are;
      few = first-few f a.cycle a.stage.now before;
    }

pub begin-requires : goal.begin-requires
begin-requires c =
    let a = c.args in
    let f = a.files.now in
    let x : Setting = setting_in f in
    let before : IsBefore f a.cycle a.stage.now = before-is f a.cycle a.keys.now a.stage.now a.row.now.devs c.sane.ensures c.files_are_lawful.ensures c.requires.stand in
    let first = first-succeeds f a.cycle a.stage.now c.succeed.new.self before c.succeed.ensures.succeeded in
    record {
      waiting = all-wait f a.cycle false c.succeed.new.self.nodes c.requires.in_run first.nodes c.succeed.ensures.fit.nodes;
      nodes = waiting-listable x c.sane.ensures (cycles_of x a.cycle) c.succeed.new.self.nodes first.nodes;
      followers = all-wait f a.cycle true c.succeed.new.self.followers c.requires.in_run first.followers c.succeed.ensures.fit.followers;
    }

pub hear_all-requires : goal.hear_all-requires
hear_all-requires c =
    let a = c.args in
    let f = a.files.now in
    let x : Setting = setting_in f in
    let before : IsBefore f a.cycle a.stage.now = before-is f a.cycle a.keys.now a.stage.now a.row.now.devs c.sane.ensures c.files_are_lawful.ensures c.requires.stand in
    let few = has-few x c.sane.ensures (cycles_of x a.cycle) c.succeed.new.self (first-succeeds f a.cycle a.stage.now c.succeed.new.self before c.succeed.ensures.succeeded) in
    let first = first-succeeds f a.cycle a.stage.now c.succeed.new.self before c.succeed.ensures.succeeded in
    record {
      stage = begun-stage f a.cycle c.succeed.new.self c.begin.new.self few.nodes few.followers (first-memory f a.cycle a.stage.now c.succeed.new.self before c.succeed.ensures.succeeded) c.begin.ensures.begun
          (record { nodes = c.begin.ensures.ready; followers = c.begin.ensures.followers }) c.begin.ensures.early;
      nodes = subst (λ (s : StageView). AreListable s.nodes) (sym c.begin.ensures.begun)
          (begun-listable f a.cycle c.succeed.new.self.nodes (waiting-listable x c.sane.ensures (cycles_of x a.cycle) c.succeed.new.self.nodes first.nodes));
    }

pub listen-requires : goal.listen-requires
listen-requires c =
    let a = c.args in
    let f = a.files.now in
    let before : IsBefore f a.cycle a.stage.now = before-is f a.cycle a.keys.now a.stage.now a.row.now.devs c.sane.ensures c.files_are_lawful.ensures c.requires.stand in
    let heard : AreHeard f a.cycle a.stage.now c.succeed.new.self c.begin.new.self c.hear_all.new.self =
    record { is_before = before; first_is = c.succeed.ensures.succeeded; begun_is = c.begin.ensures.begun; heard_is = c.hear_all.ensures.heard } in
    let P : List ListenerView → Type 0 = λ ls. All (IsListener f) ls in
    record {
      listeners = subst P (sym (listeners-heard f a.cycle a.stage.now c.succeed.new.self c.begin.new.self c.hear_all.new.self heard)) c.succeed.ensures.listeners;
      rows = record {
        in_run = c.requires.in_run;
        early = c.hear_all.ensures.early;
        starts = rows-start f a.cycle a.stage.now c.succeed.new.self c.begin.new.self c.hear_all.new.self heard;
      };
    }

pub end-requires : goal.end-requires
end-requires c =
    let a = c.args in
    let f = a.files.now in
    let x : Setting = setting_in f in
    let before : IsBefore f a.cycle a.stage.now = before-is f a.cycle a.keys.now a.stage.now a.row.now.devs c.sane.ensures c.files_are_lawful.ensures c.requires.stand in
    let heard : AreHeard f a.cycle a.stage.now c.succeed.new.self c.begin.new.self c.hear_all.new.self =
    record { is_before = before; first_is = c.succeed.ensures.succeeded; begun_is = c.begin.ensures.begun; heard_is = c.hear_all.ensures.heard } in
    let P : StageView → Type 0 = λ s. AllReady f a.cycle s in
    record {
      keys = keys-ascend x a.keys.now c.requires.stand.keys_are;
      ready = subst P (sym c.listen.ensures.caught) (record { nodes = c.hear_all.ensures.ready.nodes; followers = c.hear_all.ensures.ready.followers });
      nodes = are-listable x c.sane.ensures (cycles_of x a.cycle) c.listen.new.self.nodes
          (nodes-caught f a.cycle a.stage.now c.succeed.new.self c.begin.new.self c.hear_all.new.self heard c.listen.new.self c.listen.ensures.caught);
      room = c.requires.stand.room;
    }

pub returns-clause-stand : goal.returns-clause-stand
returns-clause-stand c =
    let a = c.args in
    let f = a.files.now in
    let before : IsBefore f a.cycle a.stage.now = before-is f a.cycle a.keys.now a.stage.now a.row.now.devs c.sane.ensures c.files_are_lawful.ensures c.requires.stand in
    let heard : AreHeard f a.cycle a.stage.now c.succeed.new.self c.begin.new.self c.hear_all.new.self =
    record { is_before = before; first_is = c.succeed.ensures.succeeded; begun_is = c.begin.ensures.begun; heard_is = c.hear_all.ensures.heard } in
    let keeps = keeps-on f a.cycle a.stage.now c.succeed.new.self c.begin.new.self c.hear_all.new.self heard c.listen.new.self c.listen.ensures.caught c.end.new.self c.end.ensures.rest in
    record {
      keys_are = c.requires.stand.keys_are;
      nodes_are = keeps.nodes;
      followers_are = keeps.followers;
      listeners_are = keeps.listeners;
      fitting = c.end.ensures.ended.fit;
      followers_fit = c.end.ensures.fitting;
      early = all-ended f a.cycle c.listen.new.self.nodes c.end.new.self.nodes c.end.new.row.rows c.end.ensures.ended
          (early-caught f a.cycle a.stage.now c.succeed.new.self c.begin.new.self c.hear_all.new.self heard c.listen.new.self c.listen.ensures.caught);
      remembers = remembers-on f a.cycle a.stage.now c.succeed.new.self c.begin.new.self c.hear_all.new.self heard c.listen.new.self c.listen.ensures.caught c.end.new.self c.end.ensures.rest;
      room = c.end.ensures.listed.room;
    }

pub returns-clause-row : goal.returns-clause-row
returns-clause-row c =
    let a = c.args in
    let f = a.files.now in
    let x : Setting = setting_in f in
    let before : IsBefore f a.cycle a.stage.now = before-is f a.cycle a.keys.now a.stage.now a.row.now.devs c.sane.ensures c.files_are_lawful.ensures c.requires.stand in
    let heard : AreHeard f a.cycle a.stage.now c.succeed.new.self c.begin.new.self c.hear_all.new.self =
    record { is_before = before; first_is = c.succeed.ensures.succeeded; begun_is = c.begin.ensures.begun; heard_is = c.hear_all.ensures.heard } in
    let caught = nodes-caught f a.cycle a.stage.now c.succeed.new.self c.begin.new.self c.hear_all.new.self heard c.listen.new.self c.listen.ensures.caught in
    let counted : c.end.new.row.counts ≡ c.hear_all.new.self.counts = c.end.ensures.counts ∙ ap (λ (s : StageView). s.counts) c.listen.ensures.caught in
    record {
      told = record-is (recorded c.end.new.row) (next_cycle x (cycles_of x a.cycle)).told
          (rows-are x a.cycle before.run c.listen.new.self.nodes c.end.new.row.rows caught c.end.ensures.ended.rows_are)
          (devs-are x a.cycle before.run a.keys.now c.listen.new.self.nodes c.end.new.row.devs.entries c.requires.stand.keys_are caught c.end.ensures.listed.entries_are)
          (counts-are x a.cycle (map node_row_of c.begin.new.self.nodes) no_counts c.end.new.row.counts
          (rows-early f a.cycle a.stage.now c.succeed.new.self c.begin.new.self c.hear_all.new.self heard) refl
          (counted ∙ counts-walked f a.cycle c.succeed.new.self c.begin.new.self c.hear_all.new.self c.begin.ensures.begun c.hear_all.ensures.heard));
      numbered = c.end.ensures.cycle;
      placed = c.end.ensures.ended.placed;
      few = subst (AreAtMost 1000000) (sym counted) c.hear_all.ensures.few;
    }

pub returns-clause-early : goal.returns-clause-early
returns-clause-early c =
    let a = c.args in
    let f = a.files.now in
    let before : IsBefore f a.cycle a.stage.now = before-is f a.cycle a.keys.now a.stage.now a.row.now.devs c.sane.ensures c.files_are_lawful.ensures c.requires.stand in
    let heard : AreHeard f a.cycle a.stage.now c.succeed.new.self c.begin.new.self c.hear_all.new.self =
    record { is_before = before; first_is = c.succeed.ensures.succeeded; begun_is = c.begin.ensures.begun; heard_is = c.hear_all.ensures.heard } in
    early-rows f a.cycle c.listen.new.self.nodes c.end.new.self.nodes c.end.new.row.rows c.end.ensures.ended
    (early-caught f a.cycle a.stage.now c.succeed.new.self c.begin.new.self c.hear_all.new.self heard c.listen.new.self c.listen.ensures.caught)
