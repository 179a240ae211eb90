-- Places and names are one to one.
use Rattle.std.proofs.Common.{◌≡◌, ℕ, ◌<◌, ap, sym, ◌∙◌, rules}
use Rattle.std.specs.Prelude.{slice_index_or}
use Rattle.fr_params.specs.Names.{place}
use Rattle.fr_cluster.specs.declared.names.ParamName.{ParamName}
use Rattle.fr_cluster.specs.declared.names.ParamName.TheVariants as name
use Rattle.fr_params.specs.declared.names.TheConstants.{NAMES}

named_at : ℕ → ParamName
named_at k = slice_index_or NAMES k name.gMacroPerCycle

named_at-place : (n : ParamName) → named_at (place n) ≡ n
unfolding named_at
named_at-place n = search rules

pub place-one : (m n : ParamName) → place m ≡ place n → m ≡ n
place-one m n e = sym (named_at-place m) ∙ ap named_at e ∙ named_at-place n

pub place-lt : (n : ParamName) → place n < 21
place-lt n = search rules
