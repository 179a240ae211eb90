-- What holds of each node that begins to follow.
use Rattle.std.proofs.Common.{◌≡◌, Option, Some, None, IfSome, subst}
use Rattle.std.specs.Option.{option_map}

pub of_each : {X Y : Type 0} (P : Y → Type 0) (f : X → Y) (o : Option X) (r : Option Y) → r ≡ option_map f o → ((x : X) → P (f x)) → IfSome r P
of_each P f o None is all = tt
of_each P f None (Some y) is all = absurd (cc)
of_each P f (Some x) (Some y) is all =
    let e : f x ≡ y = cc in
    subst P e (all x)
