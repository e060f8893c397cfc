-- The test of all four moved vertices is the test of the used ones: the unused ones lie near already.
use Rattle.std.proofs.Common.{◌≡◌, ℕ, zero, suc, ◌≤◌, Bool, true, false, cond, ltb, List, [], ◌∷◌, ◌++◌, length, map, take, drop, lit<, refl, ap, ◌∙◌, arith}
use Rattle.std.proofs.lemmas.List.{append-nil, take_all, drop_all}
use Rattle.math.specs.Magnitude.{vector_within}
use Rattle.math.specs.Poses.{transformed}
use Rattle.math.specs.declared.pose.Pose.{Pose}
use Rattle.math.specs.declared.vector.Vector.{Vector}
use Rattle.shape.specs.Features.{Fields}
use Rattle.shape.specs.Moves.{is_used, moved_vertex, lands_near, moved, all_land_near}
use Rattle.shape.specs.Nearness.{vertex_limit, vertex_at, all_within, near_all}
use Rattle.shape.proofs.Near.{within_each}

one_lands : (used : Bool) (t v : Vector) → vector_within vertex_limit v ≡ true → vector_within vertex_limit (cond used t v) ≡ cond used (vector_within vertex_limit t) true
one_lands true t v h = refl
one_lands false t v h = h

-- the first n of four vertices, each moved
first_moved : (p : Pose) (vs : List Vector) (n : ℕ) → length vs ≡ 4 → n ≤ 4 → map (transformed p) (take n vs) ++ drop n vs ≡ cond (ltb 0 n) (transformed p (vertex_at vs 0)) (vertex_at vs 0) ∷ cond (ltb 1 n) (transformed p (vertex_at vs 1)) (vertex_at vs 1) ∷ cond (ltb 2 n) (transformed p (vertex_at vs 2)) (vertex_at vs 2) ∷ cond (ltb 3 n) (transformed p (vertex_at vs 3)) (vertex_at vs 3) ∷ []
first_moved p [] n h l = absurd (omega arith)
first_moved p (a ∷ []) n h l = absurd (omega arith)
first_moved p (a ∷ b ∷ []) n h l = absurd (omega arith)
first_moved p (a ∷ b ∷ c ∷ []) n h l = absurd (omega arith)
first_moved p (a ∷ b ∷ c ∷ d ∷ []) zero h l = refl
first_moved p (a ∷ b ∷ c ∷ d ∷ []) (suc zero) h l = refl
first_moved p (a ∷ b ∷ c ∷ d ∷ []) (suc (suc zero)) h l = refl
first_moved p (a ∷ b ∷ c ∷ d ∷ []) (suc (suc (suc zero))) h l = refl
first_moved p (a ∷ b ∷ c ∷ d ∷ []) (suc (suc (suc (suc zero)))) h l = refl
first_moved p (a ∷ b ∷ c ∷ d ∷ []) (suc (suc (suc (suc (suc n))))) h l = absurd (omega arith)
first_moved p (a ∷ b ∷ c ∷ d ∷ e ∷ vs) n h l = absurd (omega arith)

-- what the loop over the used vertices leaves
pub moved_in_place : (p : Pose) (f : Fields) → length f.vertices ≡ 4 → f.num_vertices ≤ 4 → (ys : List Vector) (i : ℕ) → length (take f.num_vertices f.vertices) ≤ i → ys ≡ map (transformed p) (take i (take f.num_vertices f.vertices)) ++ drop i (take f.num_vertices f.vertices) → ys ++ drop f.num_vertices f.vertices ≡ (moved p f).vertices
unfolding moved
moved_in_place p f long few ys i all e =
    let used = take f.num_vertices f.vertices in
    let whole : ys ≡ map (transformed p) used = e ∙ ap (λ (zs : List Vector). map (transformed p) zs ++ drop i used) (take_all i used all) ∙ ap (λ (zs : List Vector). map (transformed p) used ++ zs) (drop_all i used all) ∙ append-nil _ in
    ap (λ (zs : List Vector). zs ++ drop f.num_vertices f.vertices) whole ∙ first_moved p f.vertices f.num_vertices long few

module _ (p : Pose) (f : Fields) where
  lands : (i : ℕ) → vector_within vertex_limit (vertex_at f.vertices i) ≡ true → vector_within vertex_limit (moved_vertex p f i) ≡ lands_near p f i
  lands i h = one_lands (is_used f i) (transformed p (vertex_at f.vertices i)) (vertex_at f.vertices i) h

  pub near_moved : near_all f.vertices ≡ true → near_all (moved p f).vertices ≡ all_land_near p f
  unfolding all_within moved all_land_near
  near_moved h =
      let near = within_each vertex_limit f.vertices h in
      let a = lands 0 (near 0 (lit< tt)) in
      let b = lands 1 (near 1 (lit< tt)) in
      let d = lands 2 (near 2 (lit< tt)) in
      let e = lands 3 (near 3 (lit< tt)) in
      cc
