-- How an answer is written: the bytes of its lines, each line with its newline.
use Rattle.std.specs.Prelude.{◌≡◌, ℕ, ◌+◌, ◌<◌, ◌≤◌, Bool, true, false, cond, List, [], ◌∷◌, ◌++◌, length, flat_map, Some, None, string_bytes, string_capacity, codes, decimal, Option, String, Float}
use Rattle.std.specs.Float.Ieee as Ieee
use Rattle.math.specs.declared.vector.Vector.{Vector}
use Rattle.shape.specs.declared.feature_id.PackedFeatureId.{PackedFeatureId}
use Rattle.query.specs.Clips as Clips
use Rattle.query.specs.Lines.{hex, pattern}
use Rattle.script.specs.Faults.{worded}
use Rattle.shape.specs.Features.{Fields}
use Rattle.bench.specs.Answers.{Answer, Nothing, Done, TurnedDown, Unreadable, Feature, Packed, Clipped, Meeting, Root}

-- the text stands behind what was there
pub record Wrote (old text new : List ℕ) : Type 0 where
  pub bytes : new ≡ old ++ text

-- What a writer leaves: behind what was there stands what was added, and where it is done that is the text.
-- It fails only where the room that the string had is too small for the text.
pub record Appended {Z : Type 0} (s : String Z) (text : List ℕ) (ok : Bool) (t : String Z) : Type 0 where
  pub added : List ℕ
  pub kept : string_bytes t ≡ string_bytes s ++ added
  pub whole : ok ≡ true → added ≡ text
  pub short : ok ≡ false → string_capacity s < length (string_bytes s) + length text
  pub grows : string_capacity s ≤ string_capacity t

abbrev pub space : List ℕ
space = 32 ∷ []

abbrev pub newline : List ℕ
newline = 10 ∷ []

-- the sixteen digits of a number's bits
abbrev pub number_text : Float → List ℕ
number_text x = hex 16 (pattern x)

abbrev pub id_text : PackedFeatureId → List ℕ
id_text id = hex 8 id.0

abbrev pub vector_text : Vector → List ℕ
vector_text v = number_text v.x ++ space ++ number_text v.y ++ space ++ number_text v.z

-- a space before each
abbrev pub each_text : {A : Type 0} → (A → List ℕ) → List A → List ℕ
each_text text = flat_map (λ x. space ++ text x)

-- how many vertices are used, the four vertices, and the nine ids
abbrev pub row_text : Fields → List ℕ
row_text r =
    decimal r.num_vertices
    ++ each_text vector_text r.vertices
    ++ each_text id_text r.vids
    ++ each_text id_text r.eids
    ++ space ++ id_text r.fid ++ newline

-- the two points, and where each lies
abbrev pub clip_text : Clips.Clip → List ℕ
clip_text p =
    vector_text p.0 ++ space ++ vector_text p.1
    ++ space ++ decimal p.2 ++ space ++ decimal p.3 ++ newline

abbrev pub clip_pair_text : Clips.Clip × Clips.Clip → List ℕ
clip_pair_text both = clip_text both.0 ++ clip_text both.1

-- how far along each line
abbrev pub place_pair_text : Float × Float → List ℕ
place_pair_text both = number_text both.0 ++ space ++ number_text both.1 ++ newline

abbrev pub option_text : {A : Type 0} → (A → List ℕ) → Option A → List ℕ
option_text text None = codes "none" ++ newline
option_text text (Some x) = text x

abbrev pub clips_text : Option (Clips.Clip × Clips.Clip) → List ℕ
clips_text = option_text clip_pair_text

abbrev pub meeting_text : Option (Float × Float) → List ℕ
meeting_text = option_text place_pair_text

abbrev pub root_text : Float → List ℕ
root_text v = cond (Ieee.is_nan v) (codes "nan" ++ newline) (number_text v ++ newline)

abbrev pub written : Answer → List ℕ
written Nothing = []
written Done = codes "ok" ++ newline
written (TurnedDown n) = codes "refused " ++ decimal n ++ newline
written (Unreadable f) = codes "error: " ++ worded f ++ newline
written (Feature r) = row_text r
written (Packed id) = id_text id ++ newline
written (Clipped points) = clips_text points
written (Meeting places) = meeting_text places
written (Root v) = root_text v
