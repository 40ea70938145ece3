use Rattle.std.proofs.Common.{◌≡◌, [], IfOk}
use Rattle.clap.specs.Simple.{App, app_of, with_subcommand}
use Rattle.pgn_options.specs.Parse.{drill_app, options_app, plain_app, program_shape, wire_app}
use Rattle.pgn_options.specs.Words.{OfCheck, OfRun, OfServe, word_of}
use Rattle.pgn_options.proofs.command.command.Goals as goal

pub returns : goal.returns
returns c =
    let none : App = record { top = program_shape; subs = [] } in
    let one : App = with_subcommand none drill_app.top in
    let run : App = with_subcommand plain_app (options_app (word_of OfRun)).top in
    let check : App = with_subcommand run (options_app (word_of OfCheck)).top in
    let first : IfOk c.with_command-command.result (λ it. app_of it ≡ one) = c.with_command-command.ensures none drill_app c.program.ensures c.drill.ensures in
    let second : IfOk c.with_command-command-2.result (λ it. app_of it ≡ plain_app)
    = c.with_command-command-2.ensures one wire_app first (record { is = c.new.ensures.app; local = c.new.ensures.local }) in
    let third : IfOk c.with_command-command-3.result (λ it. app_of it ≡ run) = c.with_command-command-3.ensures plain_app (options_app (word_of OfRun)) second c.options.ensures in
    let fourth : IfOk c.with_command-command-4.result (λ it. app_of it ≡ check) = c.with_command-command-4.ensures run (options_app (word_of OfCheck)) third c.options-2.ensures in
    c.with_command.ensures check (options_app (word_of OfServe)) fourth c.options-3.ensures
