-- What a command has to which something was added.
use Rattle.std.proofs.Common.{◌≡◌, ◌∙◌, ◌||◌, Bool, false, Result, Ok, Err, IfOk, ap}
use Rattle.clap.specs.Built.{AddsArg, AddsSubcommand}
use Rattle.clap.specs.Simple.{App, app_of, shape_of, with_rule, with_subcommand}
use Rattle.clap.specs.Walk.{Rule, rule_of}
use Rattle.clap.specs.declared.builder.arg.Arg.{Arg}
use Rattle.clap.specs.declared.builder.command.Command.{Command}
use Rattle.pgn_options.specs.Parse.{IsApp}

-- one more argument
pub adds-argument : {E : Type 0} (r : Result Command E) (it : Command) (argument : Arg) (app : App) (rule : Rule) → argument.global ≡ false → IfOk r (AddsArg it argument)
    → rule_of argument ≡ rule → IsApp app it → IfOk r (IsApp (with_rule app rule))
adds-argument (Err e) it argument app rule local adds same is = tt
adds-argument (Ok whole) it argument app rule local adds same is = record {
  is = adds.shape local ∙ ap (λ (a : App). with_rule a (rule_of argument)) is.is ∙ ap (λ (r : Rule). with_rule app r) same;
  local = adds.globals ∙ ap (λ (b : Bool). b || argument.global) is.local ∙ local;
}

-- one more command below it
pub adds-command : {E : Type 0} (r : Result Command E) (it below : Command) (app sub : App) → IfOk r (AddsSubcommand it below) → app_of it ≡ app → IsApp sub below
    → IfOk r (λ whole. app_of whole ≡ with_subcommand app sub.top)
adds-command (Err e) it below app sub adds same is = tt
adds-command (Ok whole) it below app sub adds same is =
    adds.shape is.local ∙ ap (λ (a : App). with_subcommand a (shape_of below)) same ∙ ap (λ (a : App). with_subcommand app a.top) is.is
