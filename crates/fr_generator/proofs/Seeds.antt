-- What a seed decides.
use Rattle.std.proofs.Common.{◌≡◌, ◌*◌, ◌≤◌, ◌∙◌, sym, subst, arith}
use Rattle.fr_cluster.specs.Values.{Values}
use Rattle.fr_drift.specs.Files.{DriftStandsFor}
use Rattle.fr_drift.proofs.Outcomes.{stands-same as drift-same}
use Rattle.fr_script.proofs.Outcomes.{stands-same as script-same}
use Rattle.fr_generator.specs.Drawn.{first_words}
use Rattle.fr_generator.specs.Generated.{drift_of_seed, script_of_seed}
use Rattle.fr_generator.specs.Seeds.{DriftIsAccepted, OneCluster, ScriptIsAccepted}
use Rattle.fr_generator.proofs.Chances.{chances-to}
use Rattle.fr_generator.proofs.Clocks.{clocks-to, delays-to}

pub drift_is_accepted : DriftIsAccepted
drift_is_accepted seed doubles proper = (delays-to _ (clocks-to doubles (first_words seed) proper 8 (omega arith)) 112 (omega arith)).accepted

pub script_is_accepted : ScriptIsAccepted
script_is_accepted seed doubles proper =
    let most = proper.to in
    let few : 48 * doubles ≤ 480_000 = omega (arith, most) in
    (chances-to (drift_of_seed seed doubles).words (48 * doubles) few).accepted

pub one_cluster : OneCluster
one_cluster seed doubles made again one other =
    let params : again.params ≡ made.params = other.params ∙ sym one.params in
    let drift : made.drift ≡ again.drift =
    drift-same made.params made.drift again.drift (drift_of_seed seed doubles).records one.drift
    (subst (λ (p : Values). DriftStandsFor p again.drift (drift_of_seed seed doubles).records) params other.drift)
    in
    let script : made.script ≡ again.script = script-same made.script again.script (script_of_seed seed doubles).records one.script other.script in
    λ i. record { params = sym params i; drift = drift i; script = script i }
