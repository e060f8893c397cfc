-- What a line that is read, and one that is not, comes to.
use Rattle.std.proofs.Common.{◌≡◌, true, is_ok, Ok, Err, Result, MatchResult, sym, refl, ap, ◌∙◌, subst}
use borrow.Author.Tests.{clash}
use Rattle.script.specs.Lines.{Means, Faulty}
use Rattle.script.specs.Words.{Text}
use Rattle.script.specs.declared.command.Command.{Command}
use Rattle.script.specs.declared.fault.Fault.{Fault}
use Rattle.bench.specs.Answers.{Answer, Unreadable}
use Rattle.bench.specs.Sessions.{State, answered, performed, RanAsMeant, meant, without_meaning}

module _ {line : Text} (r : Result Command Fault) (cases : MatchResult r (Means line) (Faulty line)) where
  pub ran_as_read : (c : Command) (s t : State) (a : Answer) → r ≡ Ok c → a ≡ answered c s → t ≡ performed c s → RanAsMeant line s a t
  ran_as_read c s t a e p q = meant c (subst (λ (x : Result Command Fault). MatchResult x (Means line) (Faulty line)) e cases) p q

  pub left_unread : (f : Fault) (s : State) (a : Answer) → ((c : Command) → Means line c → is_ok r ≡ true) → r ≡ Err f → a ≡ Unreadable f → RanAsMeant line s a s
  left_unread f s a read e p = without_meaning f (subst (λ (x : Result Command Fault). MatchResult x (Means line) (Faulty line)) e cases) (λ c means. clash (sym (ap is_ok e) ∙ read c means)) p refl
