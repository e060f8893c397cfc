-- The order of floats as tests, by the laws of the library, which speak of facts.
use Rattle.std.proofs.Common.{◌≡◌, true, false}
use lib.Ieee.{Float, lt, eq, is_nan}
use lib.Ieee.Bits.{is_true}
use Rattle.std.proofs.lemmas.Bool.{false_from_ne_true}
use Rattle.std.proofs.lemmas.Float as Laws
use Rattle.std.proofs.lemmas.Float.{T_from_true, T_from_false}

pub lt_irrefl : (x : Float) → lt x x ≡ false
lt_irrefl x = false_from_ne_true _ (λ e. Laws.lt_irrefl x (T_from_true _ e))

pub lt_trans : (x y z : Float) → lt x y ≡ true → lt y z ≡ true → lt x z ≡ true
lt_trans x y z h k = is_true _ (Laws.lt_trans x y z (T_from_true _ h) (T_from_true _ k))

pub lt_asym : (x y : Float) → lt x y ≡ true → lt y x ≡ false
lt_asym x y h = false_from_ne_true _ (λ e. Laws.lt_irrefl x (Laws.lt_trans x y x (T_from_true _ h) (T_from_true _ e)))

pub lt_not_eq : (x y : Float) → lt x y ≡ true → eq x y ≡ false
lt_not_eq x y h = false_from_ne_true _ (λ e. Laws.eq-not_lt x y (T_from_true _ e) (T_from_true _ h))

-- y is not below x, so x is at most y; and y is below z
pub lt_after : (x y z : Float) → is_nan x ≡ false → lt y x ≡ false → lt y z ≡ true → lt x z ≡ true
lt_after x y z N h k =
    let above = T_from_true (lt y z) k in
    let number = Laws.le_left y z (Laws.le_of_lt y z above) in
    is_true _ (Laws.lt_of_le_of_lt x y z (Laws.le_of_not-lt y x number (T_from_false _ N) (T_from_false _ h)) above)
