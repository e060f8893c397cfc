-- Where a line is cut: spaces in front go, and the first word ends at the first space.
use Rattle.std.proofs.Common.{◌≡◌, ℕ, suc, ◌<◌, Bool, true, false, not, cond, eqb, ◌==◌, List, [], ◌∷◌, ◌++◌, length, get_or, drop, Some, None, Option, sym, refl, ap, ◌∙◌, inl, inr, append_assoc, append-nil, suc-le-suc, zero-le, arith, lit<, ne_eqb}
use lib.Utf8.{encode}
use Rattle.std.specs.Str.Pattern.{FindsCharPrefix, HasCharAt, CutsPrefixes, IsTrimStartMatches, IsFullyTrimmed}
use Rattle.std.proofs.lemmas.Str.Pattern.{drop_at_char}
use Rattle.std.proofs.lemmas.Bool.{cases_Bool, cond-true, cond-false, cond_both}
use Rattle.std.specs.List.{find}
use Rattle.std.specs.Option.{option_map_or}
use Rattle.script.specs.Lines.{silent}
use Rattle.script.specs.Words.{Text, one_word, words_from, words}

-- no byte of the text is a space
abbrev pub Spaceless : Text → Type 0
Spaceless w = (i : ℕ) → i < length w → get_or w i 0 ≡ 32 → ⊥

spaceless_rest : (c : ℕ) (w : Text) → Spaceless (c ∷ w) → Spaceless w
spaceless_rest c w h i l e = h (suc i) (suc-le-suc l) e

-- a byte that is no space belongs to the word
carried : (front : Text) (c : ℕ) (cs : List ℕ) → (c ≡ 32 → ⊥) → words_from front (c ∷ cs) ≡ words_from (front ++ (c ∷ [])) cs
unfolding words_from
carried front c cs h = ap (λ (b : Bool). cond b (one_word front ++ words_from [] cs) (words_from (front ++ (c ∷ [])) cs)) (ne_eqb c 32 h)

pub to_space : (front w rest : Text) → Spaceless w → words_from front (w ++ (32 ∷ rest)) ≡ one_word (front ++ w) ++ words rest
unfolding words_from
to_space front [] rest h = rw (append-nil front) refl
to_space front (c ∷ w) rest h =
    carried front c (w ++ (32 ∷ rest)) (h 0 (suc-le-suc zero-le))
    ∙ to_space (front ++ (c ∷ [])) w rest (spaceless_rest c w h)
    ∙ ap (λ (f : Text). one_word f ++ words rest) (append_assoc front (c ∷ []) w)

pub to_end : (front w : Text) → Spaceless w → words_from front w ≡ one_word (front ++ w)
unfolding words_from
to_end front [] h = rw (append-nil front) refl
to_end front (c ∷ w) h =
    carried front c w (h 0 (suc-le-suc zero-le))
    ∙ to_end (front ++ (c ∷ [])) w (spaceless_rest c w h)
    ∙ ap one_word (append_assoc front (c ∷ []) w)

past_space : (cs : List ℕ) → words (32 ∷ cs) ≡ words cs
unfolding words_from
past_space cs = refl

begun : (m : Text) (n : ℕ) → HasCharAt 32 m 0 n → m ≡ 32 ∷ drop n m
begun m n h = drop_at_char 32 m 0 n h (lit< tt)

-- spaces cut off the front leave the words as they are
pub trimmed : (s : Text) (ns : List ℕ) (r : Text) → CutsPrefixes (FindsCharPrefix 32) s ns r → words s ≡ words r
trimmed s [] r h = ap words (sym h)
trimmed s (n ∷ ns) r h =
    let m = h.0 in
    trimmed s ns m h.1 ∙ ap words (begun m n h.2 ∙ ap (λ (x : Text). 32 ∷ x) (sym h.3)) ∙ past_space r

-- nothing stands before itself
endless : (c : ℕ) (r : Text) → r ≡ c ∷ r → ⊥
endless c r e = let l = ap length e in omega arith

-- where no more can be cut off, no space stands first
unspaced : (r rest : Text) → IsFullyTrimmed (FindsCharPrefix 32) r → r ≡ 32 ∷ rest → ⊥
unfolding encode
unspaced r rest (None, h, k) e = h rest e
unspaced r rest (Some n, h, k) e = endless 32 r (begun r n h ∙ ap (λ (i : ℕ). 32 ∷ drop i r) k)

pub first_word : (s t w rest : Text) → IsTrimStartMatches (FindsCharPrefix 32) s t → t ≡ w ++ (32 ∷ rest) → Spaceless w → words s ≡ w ∷ words rest
first_word s t [] rest h e k = absurd (unspaced t rest h.1 e)
first_word s t (c ∷ w) rest h e k = trimmed s h.0.0 t h.0.1 ∙ ap words e ∙ to_space [] (c ∷ w) rest k

pub last_word : (s t : Text) → IsTrimStartMatches (FindsCharPrefix 32) s t → Spaceless t → words s ≡ one_word t
last_word s t h k = trimmed s h.0.0 t h.0.1 ∙ to_end [] t k

-- ---- a line without words

never_none : (c : ℕ) (front cs : Text) → words_from (c ∷ front) cs ≡ [] → ⊥
unfolding words_from
never_none c front [] e = let l = ap length e in omega arith
never_none c front (d ∷ cs) e =
    cond_both (eqb d 32) (one_word (c ∷ front) ++ words cs) (words_from ((c ∷ front) ++ (d ∷ [])) cs) (λ ws. ws ≡ [] → ⊥)
    (λ _ h. let l = ap length h in omega arith)
    (λ _ h. never_none c (front ++ (d ∷ [])) cs h)
    e

pub wordless : (line : Text) → words line ≡ [] → silent line ≡ true
unfolding words_from
wordless [] e = refl
wordless (c ∷ cs) e =
    elim (cases_Bool (eqb c 32)) [
      | inl s ↦ cond-true (eqb c 32) (silent cs) (eqb c 35) s ∙ wordless cs (sym (cond-true (eqb c 32) (words cs) (words_from (c ∷ []) cs) s) ∙ e)
      | inr s ↦ absurd (never_none c [] cs (sym (cond-false (eqb c 32) (words cs) (words_from (c ∷ []) cs) s) ∙ e))
    ]

passed_over : (c : ℕ) (o : Option ℕ) (rest space : Bool) → rest ≡ option_map_or (λ (d : ℕ). d == 35) o true → cond space rest (c == 35) ≡ option_map_or (λ (d : ℕ). d == 35) (cond (not space) (Some c) o) true
passed_over c o rest true e = e
passed_over c o rest false e = refl

-- the first byte that is no space decides
pub silent_by_first : (line : List ℕ) → silent line ≡ option_map_or (λ (c : ℕ). c == 35) (find (λ (c : ℕ). not (c == 32)) line) true
silent_by_first [] = refl
silent_by_first (c ∷ cs) = passed_over c (find (λ (d : ℕ). not (d == 32)) cs) (silent cs) (c == 32) (silent_by_first cs)
