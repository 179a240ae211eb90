-- The number of a name, as the fields of parameters hold it.
use Rattle.std.proofs.Common.{◌≡◌, ap, sym, ◌∙◌}
use mir.Val.{to_z, of_z}
use mir.Syntax.{w64}
use Rattle.std.proofs.lemmas.Int.{to_z-of_z}
use Rattle.fr_cluster.specs.Sane.{IsSane}
use Rattle.fr_cluster.specs.Values.{Values, figure}
use Rattle.fr_cluster.specs.View.{values_of_params}
use Rattle.fr_cluster.specs.declared.names.ParamName.{ParamName}
use Rattle.fr_cluster.specs.declared.params.Params.TheInside.{Inside}
use Rattle.fr_cluster.proofs.Figures.{fits}

held : (p : Values) (m : ParamName) → IsSane p → to_z w64 (of_z w64 (figure p m)) ≡ figure p m
held p m sane = to_z-of_z w64 (figure p m) (fits m (figure p m) (sane.ranges m))

pub kept : (a : Inside) (p : Values) (n m : ParamName) → values_of_params a ≡ p → IsSane (values_of_params a) → n ≡ m → to_z w64 (of_z w64 (figure (values_of_params a) m)) ≡ figure p n
kept a p n m view sane is = held (values_of_params a) m sane ∙ ap (λ (q : Values). figure q m) view ∙ ap (figure p) (sym is)
