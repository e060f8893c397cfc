-- The word is what stands between the spaces in front and the next one.
use Rattle.std.proofs.Common.{◌≡◌, ◌<◌, List, [], ◌∷◌, length, Some, None, sym, refl, ap, ◌∙◌, arith, lit<, eqb-true}
use borrow.Author.Tests.{eqb-false}
use Rattle.std.proofs.lemmas.List.{nil_from_length}
use Rattle.std.proofs.lemmas.Str.Pattern.{split_parts}
use Rattle.script.specs.Words.{Text, one_word, words_from}
use Rattle.script.proofs.Cuts.{first_word, last_word}
use Rattle.script.proofs.words.WordsIterator.next.Goals as goal

some : (t : Text) → (length t ≡ 0 → ⊥) → one_word t ≡ t ∷ []
some [] h = absurd (h refl)
some (x ∷ t) h = refl

-- one word fewer is left
fewer : (ws : List Text) (w : Text) (us : List Text) → ws ≡ w ∷ us → length us < length ws
fewer ws w us e = omega (arith, ap length e)

pub returns-in-Some : goal.returns-in-Some
returns-in-Some c =
    let text = c.trim_start_matches-text.result.now in
    let word = c.in-Some.word in
    let rest = c.in-Some.rest in
    let parts = split_parts 32 text (Some (word, rest)) c.in-Some.ensures.cases (lit< tt) in
    let came = first_word c.args.self.now.rest.now text word.now rest.now c.trim_start_matches-text.ensures.matches parts.0 parts.1 in
    record { steps = came; goes = record { on = λ _. (tt, tt, fewer _ _ _ came); keeps = tt; rests = λ _. tt } }

pub returns-then-is_empty-clause-steps : goal.returns-then-is_empty-clause-steps
unfolding words_from
returns-then-is_empty-clause-steps c =
    let text = c.trim_start_matches-text.result.now in
    let spaceless = split_parts 32 text None c.in-None.ensures.cases (lit< tt) in
    let before = last_word c.args.self.now.rest.now text c.trim_start_matches-text.ensures.matches spaceless
    ∙ ap one_word (nil_from_length text (eqb-true (length text) 0 (sym c.if-is_empty.ensures)))
    in
    (before, refl)

pub returns-else-is_empty : goal.returns-else-is_empty
unfolding words_from
returns-else-is_empty c =
    let text = c.trim_start_matches-text.result.now in
    let spaceless = split_parts 32 text None c.in-None.ensures.cases (lit< tt) in
    let came =
    last_word c.args.self.now.rest.now text c.trim_start_matches-text.ensures.matches spaceless
    ∙ some text (eqb-false (length text) 0 (sym c.if-is_empty.ensures))
    in
    record { steps = came; goes = record { on = λ _. (tt, tt, fewer _ _ _ came); keeps = tt; rests = λ _. tt } }
