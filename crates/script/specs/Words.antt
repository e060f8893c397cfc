-- How a line is cut into words: only the space character separates them.
use Rattle.std.specs.Prelude.{ℕ, cond, List, [], ◌∷◌, ◌++◌, ◌==◌}
use Rattle.script.specs.declared.words.Words.{Words}

-- the bytes of a word or of a line
abbrev pub Text : Type 0
Text = List ℕ

-- one word, unless it is empty
abbrev pub one_word : Text → List Text
one_word [] = []
one_word (c ∷ cs) = (c ∷ cs) ∷ []

-- the words of a line whose first bytes, up to here, are `front`
unfoldable pub words_from : Text → Text → List Text
words_from front [] = one_word front
words_from front (c ∷ cs) = cond (c == 32) (one_word front ++ words_from [] cs) (words_from (front ++ (c ∷ [])) cs)

-- what stands between spaces
abbrev pub words : Text → List Text
words line = words_from [] line

-- the words still to come
abbrev pub coming : Words → List Text
coming w = words w.rest.now
