-- Ids and what they stand for: a quotient and a remainder by 2^30, so that packing and unpacking undo each other.
use Rattle.std.proofs.Common.{◌≡◌, ℕ, zero, suc, ◌+◌, ◌-◌, ◌*◌, ◌/◌, ◌%◌, ◌^◌, ◌<◌, ◌≤◌, true, false, cond, eqb, ltb, Some, None, sym, refl, ap, ◌∙◌, inl, inr, arith, List, [], ◌∷◌, length, map}
use Rattle.std.specs.Int.Bits.{bit_and, bit_or}
use Rattle.std.specs.Option.{option_eq}
use Rattle.std.proofs.lemmas.Nat.{shr_high, mod_low, shr_split, mod_below, pow_pos, le-div, div_below, and_mask, or_shifted}
use Rattle.std.proofs.lemmas.Bool.{cases_Bool, ltb-true, lt-ltb, eqb-true, eqb-false, ne_eqb, cond-true}
use Rattle.math.specs.Refusals.{done, refused}
use Rattle.shape.specs.Ids.{vertex_header, edge_header, face_header, header, packed, four_codes, packing, has_header, kind_of, feature_of, unpacked, OnlyFrom}
use Rattle.shape.specs.declared.feature_id.FeatureKind.{FeatureKind}
use Rattle.shape.specs.declared.feature_id.FeatureKind.TheVariants as KindOf
use Rattle.shape.specs.declared.feature_id.PackedFeatureId.{PackedFeatureId}
use Rattle.shape.specs.contracts.feature_id.FeatureKindPartialEq.TheImpl.{eq-value}

abbrev packed_as : ℕ → PackedFeatureId
packed_as n = record { 0 = n }

module _ (h c : ℕ) (l : c < 2 ^ 30) where
  pub header_of : (packed h c).0 / 2 ^ 30 ≡ h
  unfolding packed
  header_of = shr_high h 30 c l

  pub code_of : (packed h c).0 % 2 ^ 30 ≡ c
  unfolding packed
  code_of = mod_low h 30 c l

-- a header has no bit in common with a code, so setting its bits adds it
pub under_header : (n h c : ℕ) → n ≡ h * 2 ^ 30 → c < 2 ^ 30 → packed_as (bit_or n c) ≡ packed h c
unfolding packed
under_header n h c e l = ap (λ (m : ℕ). packed_as (bit_or m c)) e ∙ ap packed_as (or_shifted h 30 c l)

-- an id made of a kind and a code unpacks to them
pub unpacks : (kind : FeatureKind) (c : ℕ) → c < 2 ^ 30 → unpacked (packed (header kind) c) ≡ feature_of kind c
unfolding unpacked
unpacks KindOf.Vertex c l = let e = header_of 1 c l in let d = code_of 1 c l in cc
unpacks KindOf.Edge c l = let e = header_of 2 c l in let d = code_of 2 c l in cc
unpacks KindOf.Face c l = let e = header_of 3 c l in let d = code_of 3 c l in cc

pub only_from : (h c : ℕ) → c < 2 ^ 30 → OnlyFrom (done (packed h c)) h c
only_from h c l k d e =
    elim (cases_Bool (ltb d (2 ^ 30))) [
      | inl t ↦ same t (sym (cond-true (ltb d (2 ^ 30)) (done (packed k d)) (refused 7) t) ∙ e)
      | inr f ↦ absurd (never f)
    ]
  where
    same : ltb d (2 ^ 30) ≡ true → done (packed k d) ≡ done (packed h c) → (k ≡ h) × (d ≡ c)
    same t q =
        let p : packed k d ≡ packed h c = cc in
        let m = ltb-true d (2 ^ 30) t in
        (sym (header_of k d m) ∙ ap (λ (i : PackedFeatureId). i.0 / 2 ^ 30) p ∙ header_of h c l, sym (code_of k d m) ∙ ap (λ (i : PackedFeatureId). i.0 % 2 ^ 30) p ∙ code_of h c l)

    never : ltb d (2 ^ 30) ≡ false → ⊥
    never f = let z : ◌≡◌ {A = ℕ} 0 1 = cc in omega arith

pub packs_masked : (h : ℕ) (id : PackedFeatureId) → has_header h id ≡ true → packing h (bit_and id.0 (2 ^ 30 - 1)) ≡ done id
unfolding packed
packs_masked h id t =
    let e = eqb-true (id.0 / 2 ^ 30) h t in
    let s = shr_split id.0 30 in
    let whole : h * 2 ^ 30 + id.0 % 2 ^ 30 ≡ id.0 = ap (λ (n : ℕ). n * 2 ^ 30 + id.0 % 2 ^ 30) (sym e) ∙ s in
    let fits : id.0 % 2 ^ 30 < 2 ^ 30 = mod_below id.0 (2 ^ 30) (pow_pos 30) in
    ap (packing h) (and_mask id.0 30) ∙ cond-true (ltb (id.0 % 2 ^ 30) (2 ^ 30)) (done (packed h (id.0 % 2 ^ 30))) (refused 7) (lt-ltb _ _ fits) ∙ ap (λ (n : ℕ). done (packed_as n)) whole

-- 32 bits at or above 2^30 have one of the three headers
pub no_header : (id : PackedFeatureId) → id.0 < 2 ^ 32 → 2 ^ 30 ≤ id.0 → has_header vertex_header id ≡ false → has_header edge_header id ≡ false → has_header face_header id ≡ false → ⊥
no_header id small large v e f =
    let a = eqb-false (id.0 / 2 ^ 30) 1 v in
    let b = eqb-false (id.0 / 2 ^ 30) 2 e in
    let d = eqb-false (id.0 / 2 ^ 30) 3 f in
    let low = le-div 1 id.0 (2 ^ 30) (pow_pos 30) large in
    let high = div_below id.0 (2 ^ 30) 4 (pow_pos 30) small in
    omega (arith, a, b, d)

-- the test of the kind is the test of its header
pub is_kind : (kind : FeatureKind) (id : PackedFeatureId) → option_eq eq-value.it (kind_of id) (Some kind) ≡ has_header (header kind) id
is_kind kind id = go (id.0 / 2 ^ 30) kind
  where
    below : (kind : FeatureKind) → header kind < 4
    below KindOf.Vertex = omega arith
    below KindOf.Edge = omega arith
    below KindOf.Face = omega arith

    other : (n k : ℕ) → k < 4 → eqb (suc (suc (suc (suc n)))) k ≡ false
    other n k l = ne_eqb _ k (λ e. omega arith)

    go : (n : ℕ) (kind : FeatureKind) → option_eq eq-value.it (cond (eqb n 1) (Some KindOf.Vertex) (cond (eqb n 2) (Some KindOf.Edge) (cond (eqb n 3) (Some KindOf.Face) None))) (Some kind) ≡ eqb n (header kind)
    go zero KindOf.Vertex = refl
    go zero KindOf.Edge = refl
    go zero KindOf.Face = refl
    go (suc zero) KindOf.Vertex = refl
    go (suc zero) KindOf.Edge = refl
    go (suc zero) KindOf.Face = refl
    go (suc (suc zero)) KindOf.Vertex = refl
    go (suc (suc zero)) KindOf.Edge = refl
    go (suc (suc zero)) KindOf.Face = refl
    go (suc (suc (suc zero))) KindOf.Vertex = refl
    go (suc (suc (suc zero))) KindOf.Edge = refl
    go (suc (suc (suc zero))) KindOf.Face = refl
    go (suc (suc (suc (suc n)))) kind =
        let a = other n 1 (omega arith) in
        let b = other n 2 (omega arith) in
        let c = other n 3 (omega arith) in
        let d = other n (header kind) (below kind) in
        cc

pub four_packed : (h : ℕ) (codes : List ℕ) → length codes ≡ 4 → map (packed h) codes ≡ four_codes h codes
four_packed h [] l = absurd (omega arith)
four_packed h (a ∷ []) l = absurd (omega arith)
four_packed h (a ∷ b ∷ []) l = absurd (omega arith)
four_packed h (a ∷ b ∷ c ∷ []) l = absurd (omega arith)
four_packed h (a ∷ b ∷ c ∷ d ∷ []) l = refl
four_packed h (a ∷ b ∷ c ∷ d ∷ e ∷ codes) l = absurd (omega arith)
