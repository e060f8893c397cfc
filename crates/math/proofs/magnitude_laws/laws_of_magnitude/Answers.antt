-- Each law, where it is proved.
use Rattle.math.proofs.AllMagnitudes.{operation_laws, vector_laws, accepted_laws}
use Rattle.math.proofs.magnitude_laws.laws_of_magnitude.Goals as goal

pub returns : goal.returns
returns c = record { operations = operation_laws; vectors = vector_laws; accepted = accepted_laws }
