-- What is read is performed, and what is not read means nothing.
use Rattle.std.proofs.Common.{refl, rules}
use Rattle.bench.specs.Sessions.{ran, unread}
use Rattle.bench.proofs.Runs.{ran_as_read, left_unread}
use Rattle.bench.proofs.session.Session.run_line.Goals as goal

pub returns-in_err-command-clause-ran : goal.returns-in_err-command-clause-ran
returns-in_err-command-clause-ran c = unread c.in_err-command.field-0.0 (search rules) refl

pub returns-in_err-command-clause-meant : goal.returns-in_err-command-clause-meant
returns-in_err-command-clause-meant c = left_unread c.read_command.result c.read_command.ensures.cases c.in_err-command.field-0.0 _ _ c.read_command.ensures.succeeds (search rules) (search rules)

pub returns-clause-ran : goal.returns-clause-ran
returns-clause-ran c = ran c.in_ok-command.command c.perform.ensures.answer c.perform.ensures.after

pub returns-clause-meant : goal.returns-clause-meant
returns-clause-meant c = ran_as_read c.read_command.result c.read_command.ensures.cases c.in_ok-command.command _ _ _ (search rules) c.perform.ensures.answer c.perform.ensures.after
