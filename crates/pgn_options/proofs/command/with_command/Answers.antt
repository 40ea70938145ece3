use Rattle.std.proofs.Common.{◌≡◌, IfOk, subst}
use Rattle.clap.specs.Simple.{app_of}
use Rattle.pgn_options.specs.Parse.{IsApp}
use Rattle.pgn_options.proofs.CommandLaws.{adds-command}
use Rattle.pgn_options.proofs.command.with_command.Goals as goal

pub returns-in-Ok-command : goal.returns-in-Ok-command
returns-in-Ok-command c = λ app sub same is.
    adds-command c.subcommand.result c.in-Ok-command.command c.in-Ok.below app sub c.subcommand.ensures
    (subst (λ r. IfOk r (λ it. app_of it ≡ app)) c.in-Ok-command.is same) (subst (λ r. IfOk r (IsApp sub)) c.in-Ok.is is)
