-- A line is silent, is no text, or is read word by word; and what spells a command is read.
use Rattle.std.proofs.Common.{◌≡◌, true, false, List, [], is_ok, IfOk, Ok, Err, IsUtf8, Result, sym, refl, ◌∙◌, subst, MatchResult, IsErrAnd}
use borrow.Author.Tests.{clash}
use Rattle.script.specs.Grammar.{Spelt, spelling}
use Rattle.script.specs.Lines.{silent, Means, remark, spelt, Faulty, not_text, at_word, Alike}
use Rattle.script.specs.Readings.{reached, faulty, past_line, Took}
use Rattle.script.specs.Words.{Text, words}
use Rattle.script.specs.declared.command.Command.{Command}
use Rattle.script.specs.declared.command.Command.TheVariants.{Remark}
use Rattle.script.specs.declared.fault.Fault.{Fault}
use Rattle.script.specs.declared.fault.Fault.TheVariants.{NotText}
use Rattle.script.proofs.Complete.{whole_line}
use Rattle.script.proofs.Cuts.{wordless}
use Rattle.script.proofs.OneMeaning.{same_items}
use Rattle.script.proofs.reading.read_command.Goals as goal

stands : (line : Text) (r : Result Command Fault) → silent line ≡ false → IsUtf8 line → Took spelling past_line (words line) r [] → MatchResult r (Means line) (Faulty line)
stands line (Ok c) loud text t = spelt c loud text t.spelt
stands line (Err f) loud text t = at_word f loud text (sym t.course)

-- words that spell something are not the words of a remark
no_remark : (line : Text) {c : Command} → silent line ≡ false → Spelt (spelling c) (words line) [] → c ≡ Remark → ⊥
no_remark line loud s e = clash (sym loud ∙ wordless line (subst (λ (x : Command). Spelt (spelling x) (words line) []) e s))

passed : (line : Text) {c : Command} → silent line ≡ false → Means line c → past_line (words line) ≡ reached []
passed line loud (remark s) = absurd (clash (sym loud ∙ s))
passed line loud (spelt c q text s) = whole_line c (words line) (no_remark line loud s) s

read_on : (ws : List Text) (r : Result Command Fault) → Took spelling past_line ws r [] → past_line ws ≡ reached [] → is_ok r ≡ true
read_on ws (Ok c) t e = refl
read_on ws (Err f) t e = let both : faulty f ≡ reached [] = t.course ∙ e in cc

is_text : {line : Text} {c : Command} → silent line ≡ false → Means line c → IsUtf8 line
is_text loud (remark s) = absurd (clash (sym loud ∙ s))
is_text loud (spelt c q text s) = text

-- a silent line means a remark alone
silence : (line : Text) {d : Command} → silent line ≡ true → Means line d → Alike line Remark d
silence line quiet (remark s) = refl
silence line quiet (spelt d loud text s) = absurd (clash (sym loud ∙ quiet))

alone : (line : Text) (r : Result Command Fault) → silent line ≡ false → Took spelling past_line (words line) r [] → IfOk r (λ c. (d : Command) → Means line d → Alike line c d)
alone line (Err f) loud t = tt
alone line (Ok c) loud t = λ d means. other means
  where
    other : {d : Command} → Means line d → Alike line c d
    other (remark s) = absurd (clash (sym loud ∙ s))
    other (spelt d q text s) = same_items c d (words line) (no_remark line loud t.spelt) (no_remark line loud s) t.spelt s

unread : (line : Text) (r : Result Command Fault) → silent line ≡ false → (IsUtf8 line → ⊥) → IsErrAnd r (λ f. f ≡ NotText) → MatchResult r (Means line) (Faulty line)
unread line (Ok c) loud none e = absurd e
unread line (Err f) loud none e = subst (Faulty line) (sym e) (not_text loud none)

pub returns-then-is_silent-clause-cases : goal.returns-then-is_silent-clause-cases
returns-then-is_silent-clause-cases c = remark (sym c.if-is_silent.ensures)

pub returns-in_err-from_utf8-clause-cases : goal.returns-in_err-from_utf8-clause-cases
returns-in_err-from_utf8-clause-cases c =
    unread c.args.line.now c.from_residual.result (sym c.if-is_silent.ensures) c.in_err-from_utf8.ensures.cases.0 c.from_residual.ensures.1

pub returns-in_err-from_utf8-clause-succeeds : goal.returns-in_err-from_utf8-clause-succeeds
returns-in_err-from_utf8-clause-succeeds c = λ _ means. absurd (c.in_err-from_utf8.ensures.cases.0 (is_text (sym c.if-is_silent.ensures) means))

pub returns : goal.returns
returns c =
    let line = c.args.line.now in
    let loud = sym c.if-is_silent.ensures in
    let text = c.in_ok-from_utf8.ensures.cases in
    let took = subst (λ (t : Text). Took spelling past_line (words t) c.read_text.result []) text.0 c.read_text.ensures in
    record {
      silent = λ quiet. absurd (clash (sym loud ∙ quiet));
      cases = stands line c.read_text.result loud text.1 took;
      one = alone line c.read_text.result loud took;
      succeeds = λ _ means. read_on (words line) c.read_text.result took (passed line loud means);
    }
