-- What is traced of accepted files is checked, and of the cluster of a seed.
use Rattle.std.proofs.Common.{ℕ, List}
use Rattle.fr_cluster.specs.Values.{Values}
use Rattle.fr_generator.specs.MadeFiles.{MadeFilesAreAccepted, made_drift_text, made_params_text, made_script_text}
use Rattle.fr_params.specs.Upgrades.{AcceptedAreSane}
use Rattle.fr_promise.specs.Files.{DriftOfAFileFits}
use Rattle.fr_script.specs.Files.{IsScriptFile, IsSoundScript}
use Rattle.fr_script.specs.View.{ScriptView}
use Rattle.fr_answer.specs.Rounds.{MadeRunsAreChecked, TracedFilesAreChecked, WhatIsTracedIsChecked}

pub traced-files : WhatIsTracedIsChecked → AcceptedAreSane → DriftOfAFileFits → ((p : Values) (s : ScriptView) (bytes : List ℕ) → IsScriptFile p s bytes → IsSoundScript p s) → TracedFilesAreChecked
traced-files checked are_sane fits sound p d s params drift script traced report of_params of_drift of_script none trace run =
    checked p d s traced report (are_sane p params of_params) (fits p d drift of_drift) (sound p s script of_script) none trace run

pub made-runs : TracedFilesAreChecked → MadeFilesAreAccepted → MadeRunsAreChecked
made-runs checked accepted seed doubles made traced report count generated none trace run =
    let files = accepted seed doubles made count generated in
    checked made.params made.drift made.script made_params_text (made_drift_text seed doubles) (made_script_text seed doubles) traced report files.of_params files.of_drift files.of_script none trace run
