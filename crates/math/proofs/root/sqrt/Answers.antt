-- What the kit's root answers is the rule's root, and so the nearest f64.
use Rattle.std.proofs.Common.{sym, subst}
use lib.Ieee.{Float}
use Rattle.math.specs.Roots.{RootIs}
use Rattle.std.proofs.lemmas.Float.{T_from_true}
use Rattle.math.proofs.RootNearest.{root_is}
use Rattle.math.proofs.root.sqrt.Goals as goal

pub returns : goal.returns
returns c =
    let v = c.args.v in
    let same = c.sqrt.ensures.value in
    record { value = same; nearest = subst (λ (r : Float). RootIs v r) (sym same) (root_is v (T_from_true _ c.well_formed.0.1)) }
