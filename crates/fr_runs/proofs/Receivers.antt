-- Correct nodes, and lists that are mapped alike.
use Rattle.std.proofs.Common.{◌≡◌, ℕ, true, pos, List, [], ◌∷◌, map, refl, ap₂, arith}
use Rattle.std.specs.Prelude.{◌≤ℤ◌, Contains}
use Rattle.std.proofs.lemmas.Int.{ints}
use Rattle.fr_cluster.specs.declared.nodes.NodeSpec.{NodeSpec}
use Rattle.fr_cluster.specs.Setting.{Setting, correct_nodes, is_correct}
use Rattle.fr_cluster.proofs.Elements.{Contains-here, Contains-there, kept_filtered}

-- a correct node of the cluster
pub is_correct_node : (x : Setting) (node : NodeSpec) → Contains x.params.nodes node → is_correct x node.id ≡ true → Contains (correct_nodes x) node
is_correct_node x node there correct = kept_filtered (λ (n : NodeSpec). is_correct x n.id) x.params.nodes node there correct

pub no_less : (n : ℕ) → pos 0 ≤ℤ pos n
no_less n = omega (arith, ints)

pub same_mapped : {X Y : Type 0} (f g : X → Y) (xs : List X) → ((x : X) → Contains xs x → f x ≡ g x) → map f xs ≡ map g xs
same_mapped f g [] same = refl
same_mapped {Y = Y} f g (x ∷ xs) same = ap₂ (λ (y : Y) (ys : List Y). y ∷ ys) (same x (Contains-here x xs)) (same_mapped f g xs (λ z among. same z (Contains-there x xs z among)))
