-- What a writer leaves, step by step: a text written in two steps is that of the first and then that of the second, and a loop has written a front of the whole.
use Rattle.std.proofs.Common.{◌≡◌, ℕ, zero, suc, ◌-◌, ◌*◌, ◌/◌, ◌%◌, ◌^◌, Bool, true, List, [], ◌∷◌, ◌++◌, length, is_ok, Ok, Err, string_bytes, Result, String, sym, refl, ap, ◌∙◌, subst, append_assoc, append-nil, arith, length-append, OnOk}
use Rattle.query.specs.Lines.{digit, hex_front}
use Rattle.bench.specs.Texts.{Wrote, Appended}

module _ {Z : Type 0} where
  -- what stands there after a step that is done
  pub bytes : {s t : String Z} {a : List ℕ} → Appended s a true t → string_bytes t ≡ string_bytes s ++ a
  bytes {s} w = w.kept ∙ ap (λ (x : List ℕ). string_bytes s ++ x) (w.whole refl)

  pub then : {s t v : String Z} {a b : List ℕ} {ok : Bool} → Appended s a true t → Appended t b ok v → Appended s (a ++ b) ok v
  then {s} {t} {v} {a} {b} w z = record {
    added = a ++ z.added;
    kept = z.kept ∙ ap (λ (x : List ℕ). x ++ z.added) (bytes w) ∙ append_assoc (string_bytes s) a z.added;
    whole = λ yes. ap (λ (x : List ℕ). a ++ x) (z.whole yes);
    short = λ no.
        let h = z.short no in
        let g = w.grows in
        let e = ap length (bytes w) ∙ length-append (string_bytes s) a in
        let q = length-append a b in
        omega (arith, h, g, e, q);
    grows = let g = w.grows in let h = z.grows in omega (arith, g, h);
  }

  -- what stands there after a step, if it is done
  pub wrote : {E : Type 0} {s t : String Z} {a : List ℕ} (r : Result (Unit {0}) E) → Appended s a (is_ok r) t → OnOk r (Wrote (string_bytes s) a (string_bytes t))
  wrote (Ok u) w = record { bytes = bytes w }
  wrote (Err x) w = tt

  pub as_text : {s t : String Z} {a b : List ℕ} {ok : Bool} → a ≡ b → Appended s a ok t → Appended s b ok t
  as_text {s} {t} {ok = ok} e w = subst (λ (x : List ℕ). Appended s x ok t) e w

  -- of the whole, only the rest is still to come
  pub record Ahead (s : String Z) (all : List ℕ) (t : String Z) (rest : List ℕ) : Type 0 where
    pub front : List ℕ
    pub parts : all ≡ front ++ rest
    pub wrote : Appended s front true t

  pub advanced : {s t v : String Z} {all rest : List ℕ} {a : List ℕ} (more : List ℕ) → rest ≡ a ++ more → Ahead s all t rest → Appended t a true v → Ahead s all v more
  advanced {a = a} more e h w = record {
    front = h.front ++ a;
    parts = h.parts ∙ ap (λ (x : List ℕ). h.front ++ x) e ∙ sym (append_assoc h.front a more);
    wrote = then h.wrote w;
  }

  pub ended : {s t : String Z} {all rest : List ℕ} → rest ≡ [] → Ahead s all t rest → Appended s all true t
  ended e h = as_text (sym (h.parts ∙ ap (λ (x : List ℕ). h.front ++ x) e ∙ append-nil h.front)) h.wrote

-- one byte to a digit
pub length_hex_front : (n v i : ℕ) → length (hex_front n v i) ≡ i
unfolding hex_front
length_hex_front n v zero = refl
length_hex_front n v (suc i) = let p = length-append (hex_front n v i) (digit (v / 2 ^ (4 * (n - 1 - i)) % 16) ∷ []) in let e = length_hex_front n v i in omega (arith, p, e)

pub hex_front_none : (n v : ℕ) → hex_front n v 0 ≡ []
unfolding hex_front
hex_front_none n v = refl
