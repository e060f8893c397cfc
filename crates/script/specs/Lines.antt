-- What a line of a script means, or why it cannot be read.
use Rattle.std.specs.Prelude.{ℕ, List, ◌≡◌, Bool, true, false, cond, [], ◌∷◌, IsUtf8, ◌==◌}
use Rattle.script.specs.Grammar.{Spelt, spelling, settled_items}
use Rattle.script.specs.Readings.{past_line, faulty}
use Rattle.script.specs.Words.{Text, words}
use Rattle.script.specs.declared.command.Command.{Command}
use Rattle.script.specs.declared.command.Command.TheVariants.{Remark}
use Rattle.script.specs.declared.fault.Fault.{Fault}
use Rattle.script.specs.declared.fault.Fault.TheVariants.{NotText}

-- nothing but spaces, or a first word that begins with '#'
abbrev pub silent : List ℕ → Bool
silent [] = true
silent (c ∷ cs) = cond (c == 32) (silent cs) (c == 35)

-- A silent line is a remark; any other that is text means the command that its words spell, with no word left over.
pub data Means (line : Text) : Command → Type 0 where
  remark : silent line ≡ true → Means line Remark
  spelt : (c : Command) → silent line ≡ false → IsUtf8 line → Spelt (spelling c) (words line) [] → Means line c

-- The first fault: the line is not UTF-8, or a word is not what has to stand there.
pub data Faulty (line : Text) : Fault → Type 0 where
  not_text : silent line ≡ false → (IsUtf8 line → ⊥) → Faulty line NotText
  at_word : (f : Fault) → silent line ≡ false → IsUtf8 line → past_line (words line) ≡ faulty f → Faulty line f

-- the two are one command, but for numbers that the words leave open
abbrev pub Alike : Text → Command → Command → Type 0
Alike line c d = settled_items (words line) (spelling c) ≡ settled_items (words line) (spelling d)
