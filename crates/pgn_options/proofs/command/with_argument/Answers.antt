use Rattle.std.proofs.Common.{IfOk, subst}
use Rattle.pgn_options.specs.Parse.{IsApp}
use Rattle.pgn_options.proofs.CommandLaws.{adds-argument}
use Rattle.pgn_options.proofs.command.with_argument.Goals as goal

pub returns-in-Ok : goal.returns-in-Ok
returns-in-Ok c = λ app rule same is.
    adds-argument c.arg.result c.in-Ok.command c.args.argument app rule c.requires c.arg.ensures same (subst (λ r. IfOk r (IsApp app)) c.in-Ok.is is)
