-- What a shape means: the fields of one feature for each direction and optional hint.
use Rattle.std.specs.Prelude.{◌≡◌, Bool, true, cond, ◌&&◌, Option}
use Rattle.std.specs.Option.{option_map_or}
use Rattle.math.specs.Limits.{vector_given}
use Rattle.math.specs.Refusals.{Answer, done, refused}
use Rattle.math.specs.declared.vector.Vector.{Vector}
use Rattle.shape.specs.Features.{Fields}

abbrev pub Meaning : Type 0 → Type 0
Meaning S = S → Vector → Option Vector → Fields

abbrev pub hint_given : Option Vector → Bool
hint_given hint = option_map_or vector_given hint true

abbrev pub direction_given : Vector → Option Vector → Bool
direction_given dir hint = vector_given dir && hint_given hint

-- Numbers that may not be given are turned down with 2.
abbrev pub supporting : Vector → Option Vector → Answer (Unit {0})
supporting dir hint = cond (direction_given dir hint) (done tt) (refused 2)

-- two shapes of any two types: the same fields for every direction and hint whose numbers may be given
unfoldable pub MeanTheSame : {S T : Type 0} → Meaning S → Meaning T → S → T → Type 0
MeanTheSame meaning-s meaning-t s t = (dir : Vector) (hint : Option Vector) → direction_given dir hint ≡ true → meaning-s s dir hint ≡ meaning-t t dir hint
