use Rattle.std.proofs.Common.{IfOk, codes}
use Rattle.clap.specs.Simple.{App, new_app, with_rule}
use Rattle.clap.specs.declared.builder.value_parser.ValueParser.TheVariants.{Unsigned}
use Rattle.pgn_options.specs.Parse.{IsApp, flag_rule, option_rule}
use Rattle.pgn_options.proofs.command.options.Goals as goal

pub returns : goal.returns
returns c =
    let none : App = new_app c.args.name.now in
    let one : App = with_rule none (option_rule (codes "pages") (Unsigned 2 1024)) in
    let two : App = with_rule one (option_rule (codes "patience") (Unsigned 1 1000000000)) in
    let three : App = with_rule two (option_rule (codes "format") (Unsigned 1 2)) in
    let four : App = with_rule three (option_rule (codes "seats") (Unsigned 1 256)) in
    let first : IfOk c.with_argument-command.result (IsApp one)
    = c.with_argument-command.ensures none (option_rule (codes "pages") (Unsigned 2 1024)) c.option-pages.ensures.rule (record { is = c.new.ensures.app; local = c.new.ensures.local }) in
    let second : IfOk c.with_argument-command-2.result (IsApp two) = c.with_argument-command-2.ensures one (option_rule (codes "patience") (Unsigned 1 1000000000)) c.option.ensures.rule first in
    let third : IfOk c.with_argument-command-3.result (IsApp three) = c.with_argument-command-3.ensures two (option_rule (codes "format") (Unsigned 1 2)) c.option-2.ensures.rule second in
    let fourth : IfOk c.with_argument-command-4.result (IsApp four) = c.with_argument-command-4.ensures three (option_rule (codes "seats") (Unsigned 1 256)) c.option-3.ensures.rule third in
    c.with_argument.ensures four (flag_rule (codes "live")) c.flag.ensures.rule fourth
