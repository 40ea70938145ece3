-- The command that `clap` parses words with, and what is found of them.
use Rattle.std.specs.Prelude.{◌≡◌, ℕ, Bool, true, cond, false, List, [], Option, None, Some, MatchOption, codes}
use Rattle.clap.specs.declared.builder.action.ArgAction.TheVariants.{Set, SetTrue}
use Rattle.clap.specs.declared.builder.command.Command.{Command}
use Rattle.clap.specs.declared.builder.command.Command.TheViews.{out-Command}
use Rattle.clap.specs.declared.builder.value_parser.ValueParser.{ValueParser}
use Rattle.clap.specs.declared.builder.value_parser.ValueParser.TheVariants as parser
use Rattle.clap.specs.Walk.{Row, Rule, Text, one_of}
use Rattle.clap.specs.Simple.{App, Shape, app_of, new_app, new_rule, with_rule, with_subcommand}
use Rattle.pgn_base.specs.declared.limits.TheConstants.{PAGES_MIN, PAGES_MAX}
use Rattle.pgn_options.specs.declared.asked.Asked.{Asked}
use Rattle.pgn_options.specs.declared.asked.Asked.TheVariants.{Drill, Wire}
use Rattle.pgn_options.specs.declared.limits.TheConstants.{DRILL_NOTES_MAX, DRILL_SESSIONS_MAX, PATIENCE_MAX, SEATS_MAX}
use Rattle.pgn_options.specs.declared.options.Options.{Options}
use Rattle.pgn_options.specs.Words.{OfCheck, OfRun, OfServe, Optioned, asked_with, number_in, word_of}

-- the greatest seed
abbrev pub seed_max : ℕ
seed_max = 18446744073709551615

-- an option that takes a number
abbrev pub option_rule : Text → ValueParser → Rule
option_rule name numbers = record (new_rule name) { long = Some name; action = Some Set; parser = Some numbers }

-- a word that has to be there, and is a number
abbrev pub word_rule : Text → ValueParser → Rule
word_rule name numbers = record (new_rule name) { action = Some Set; parser = Some numbers; required = true }

-- an option without a value
abbrev pub flag_rule : Text → Rule
flag_rule name = record (new_rule name) { long = Some name; action = Some SetTrue }

-- a command with the options of a queue
abbrev pub queue_app : Text → App
queue_app name =
    with_rule (with_rule (with_rule (new_app name) (option_rule (codes "pages") (parser.Unsigned PAGES_MIN PAGES_MAX)))
    (option_rule (codes "patience") (parser.Unsigned 1 PATIENCE_MAX)))
    (option_rule (codes "format") (parser.Unsigned 1 2))

-- a command with all options: those that it does not take are refused once they are read
abbrev pub options_app : Text → App
options_app name = with_rule (with_rule (queue_app name) (option_rule (codes "seats") (parser.Unsigned 1 SEATS_MAX))) (flag_rule (codes "live"))

-- `drill`
abbrev pub drill_app : App
drill_app =
    with_rule (with_rule (with_rule (new_app (codes "drill")) (word_rule (codes "seed") (parser.Unsigned 0 seed_max)))
    (word_rule (codes "sessions") (parser.Unsigned 1 DRILL_SESSIONS_MAX)))
    (word_rule (codes "notes") (parser.Unsigned 1 DRILL_NOTES_MAX))

-- `wire`, which takes no word
abbrev pub wire_app : App
wire_app = new_app (codes "wire")

-- the program: it has no words of its own, and one of these has to follow
abbrev pub program_shape : Shape
program_shape = record (new_app (codes "pgnotify")).top {
  no_binary_name = true;
  disable_help_flag = true;
  disable_help_subcommand = true;
  subcommand_required = true;
}

-- the program with the commands that have no options
abbrev pub plain_app : App
plain_app = with_subcommand (with_subcommand (record { top = program_shape; subs = [] }) drill_app.top) wire_app.top

-- the program with its commands
abbrev pub program_app : App
program_app = with_subcommand (with_subcommand (with_subcommand plain_app (options_app (word_of OfRun)).top) (options_app (word_of OfCheck)).top) (options_app (word_of OfServe)).top

-- a parse reads this of a command, none of whose arguments is global
pub record IsApp (app : App) (command : Command) : Type 0 where
  pub is : app_of command ≡ app
  pub local : (out-Command command).has_globals ≡ false

-- a number was found for an argument, or none was
abbrev pub IsFoundAs : ℕ → ℕ → Text → List Row → Option ℕ → Type 0
IsFoundAs least most name rows number =
    MatchOption number (one_of name rows ≡ None) (λ n. (word : Text) × (one_of name rows ≡ Some word) × (number_in least most word ≡ Some n))

-- whether an option without a value was found
abbrev pub IsFoundFlag : Text → List Row → Bool → Type 0
IsFoundFlag name rows given = one_of name rows ≡ Some (cond given (codes "true") (codes "false"))

-- the options that were found
pub record FindsOptions (rows : List Row) (given : Options) : Type 0 where
  pub pages : IsFoundAs PAGES_MIN PAGES_MAX (codes "pages") rows given.pages
  pub patience : IsFoundAs 1 PATIENCE_MAX (codes "patience") rows given.patience
  pub format : IsFoundAs 1 2 (codes "format") rows given.format
  pub seats : IsFoundAs 1 SEATS_MAX (codes "seats") rows given.seats
  pub live : IsFoundFlag (codes "live") rows given.live

-- the numbers of a drill that were found
pub record FindsNumbers (rows : List Row) (seed sessions notes : ℕ) : Type 0 where
  pub first : IsFoundAs 0 seed_max (codes "seed") rows (Some seed)
  pub second : IsFoundAs 1 DRILL_SESSIONS_MAX (codes "sessions") rows (Some sessions)
  pub third : IsFoundAs 1 DRILL_NOTES_MAX (codes "notes") rows (Some notes)

-- a command was found, and asks for this
pub data Finds : Option (Text × List Row) → Asked → Type 0 where
  FindsWith : (which : Optioned) (rows : List Row) (given : Options) (asked : Asked) → FindsOptions rows given → asked_with which given ≡ Some asked → Finds (Some (word_of which, rows)) asked
  FindsDrill : (rows : List Row) (seed sessions notes : ℕ) → FindsNumbers rows seed sessions notes → Finds (Some (codes "drill", rows)) (Drill seed sessions notes)
  FindsWire : (rows : List Row) → Finds (Some (codes "wire", rows)) Wire

-- a command was found with options that it does not take
pub data FindsTooMuch : Option (Text × List Row) → Type 0 where
  FindsOthers : (which : Optioned) (rows : List Row) (given : Options) → FindsOptions rows given → asked_with which given ≡ None → FindsTooMuch (Some (word_of which, rows))
