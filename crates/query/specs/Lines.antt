-- The contact line: seven groups of 16 lowercase hexadecimal digits, two of 8, single spaces between, a newline at the end. 137 bytes.
use Rattle.std.specs.Prelude.{ℕ, zero, suc, ◌+◌, ◌-◌, ◌*◌, ◌/◌, ◌%◌, ◌^◌, cond, List, [], ◌∷◌, ◌++◌, length, drop, nat_lt, Float}
use Rattle.std.specs.Float.Ieee as Ieee
use Rattle.std.specs.Float.{binary64}
use Rattle.std.specs.List.{flat_map}
use Rattle.math.specs.Refusals.{Answer, done, refused}
use Rattle.query.specs.Contacts.{Contact}

-- the character of a digit: '0' is 48, 'a' is 97
abbrev pub digit : ℕ → ℕ
digit d = cond (nat_lt d 10) (48 + d) (97 + (d - 10))

-- the first i of the n lowest hexadecimal digits of v, highest first
unfoldable pub hex_front : ℕ → ℕ → ℕ → List ℕ
hex_front n v zero = []
hex_front n v (suc i) = hex_front n v i ++ (digit (v / 2 ^ (4 * (n - 1 - i)) % 16) ∷ [])

-- the n lowest hexadecimal digits of v
unfoldable pub hex : ℕ → ℕ → List ℕ
unfolding hex_front
hex n v = hex_front n v n

abbrev pub pattern : Float → ℕ
pattern x = Ieee.to_bits binary64 x

-- the bits of the two points and the distance
abbrev pub words : {D : Type 0} → Contact D → List ℕ
words c = pattern c.p1.x ∷ pattern c.p1.y ∷ pattern c.p1.z ∷ pattern c.p2.x ∷ pattern c.p2.y ∷ pattern c.p2.z ∷ pattern c.dist ∷ []

-- a group of n digits, and the byte after it
abbrev pub group : ℕ → ℕ → ℕ → List ℕ
group n v end = hex n v ++ (end ∷ [])

unfoldable pub line : {D : Type 0} → Contact D → List ℕ
line c = flat_map (λ v. group 16 v 32) (words c) ++ group 8 c.fid1.0 32 ++ group 8 c.fid2.0 10

-- A buffer of fewer than 137 bytes is turned down with 14.
abbrev pub lining : List ℕ → Answer (Unit {0})
lining buffer = cond (nat_lt (length buffer) 137) (refused 14) (done tt)

-- the buffer after: the line, and then what stood behind its place
abbrev pub lined : {D : Type 0} → Contact D → List ℕ → List ℕ
lined c buffer = cond (nat_lt (length buffer) 137) buffer (line c ++ drop 137 buffer)
