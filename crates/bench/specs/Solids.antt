-- A shape by its kind and sizes, and the feature that it means.
use Rattle.std.specs.Prelude.{Some, None, Option}
use Rattle.math.specs.Refusals as Refusals
use Rattle.math.specs.Refusals.{done, refused}
use Rattle.math.specs.declared.vector.Vector.{Vector}
use Rattle.shape.specs.Cuboids as Cuboids
use Rattle.shape.specs.Cylinders as Cylinders
use Rattle.shape.specs.Features.{Fields}
use Rattle.shape.specs.Supports.{Meaning}
use Rattle.script.specs.declared.command.Form.{Form}
use Rattle.script.specs.declared.command.Form.TheVariants as FormOf
use Rattle.bench.specs.declared.session.Solid.{Solid}
use Rattle.bench.specs.declared.session.Solid.TheVariants as SolidOf

abbrev pub solid_form : Solid → Form
solid_form (SolidOf.Cylinder c) = FormOf.Cylinder c.half_height c.radius
solid_form (SolidOf.Cuboid c) = FormOf.Cuboid c.half_extents

abbrev pub form : Option Solid → Option Form
form None = None
form (Some s) = Some (solid_form s)

abbrev pub formed : {A : Type 0} → Form → Refusals.Answer A → Refusals.Answer (Option Form)
formed f (done a) = done (Some f)
formed f (refused n) = refused n

abbrev pub forming : Form → Refusals.Answer (Option Form)
forming (FormOf.Cylinder hh r) = formed (FormOf.Cylinder hh r) (Cylinders.making hh r)
forming (FormOf.Cuboid he) = formed (FormOf.Cuboid he) (Cuboids.making he)

-- the feature of a shape along a direction
abbrev pub supported : Form → Vector → Option Vector → Fields
supported (FormOf.Cylinder hh r) dir hint = Cylinders.cylinder_fields hh r dir (Cylinders.azimuth dir hint)
supported (FormOf.Cuboid he) dir hint = Cuboids.cuboid_fields he dir

abbrev pub solid_meaning : Meaning Solid
solid_meaning s = supported (solid_form s)
