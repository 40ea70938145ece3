use Rattle.std.proofs.Common.{IfOk, codes}
use Rattle.clap.specs.Simple.{App, new_app, with_rule}
use Rattle.clap.specs.declared.builder.value_parser.ValueParser.TheVariants.{Unsigned}
use Rattle.pgn_options.specs.Parse.{IsApp, seed_max, word_rule}
use Rattle.pgn_options.proofs.command.drill.Goals as goal

pub returns : goal.returns
returns c =
    let none : App = new_app (codes "drill") in
    let one : App = with_rule none (word_rule (codes "seed") (Unsigned 0 seed_max)) in
    let two : App = with_rule one (word_rule (codes "sessions") (Unsigned 1 32)) in
    let first : IfOk c.with_argument-command.result (IsApp one)
    = c.with_argument-command.ensures none (word_rule (codes "seed") (Unsigned 0 seed_max)) c.word.ensures.rule (record { is = c.new.ensures.app; local = c.new.ensures.local }) in
    let second : IfOk c.with_argument-command-2.result (IsApp two) = c.with_argument-command-2.ensures one (word_rule (codes "sessions") (Unsigned 1 32)) c.word-sessions.ensures.rule first in
    c.with_argument.ensures two (word_rule (codes "notes") (Unsigned 1 1000)) c.word-2.ensures.rule second
