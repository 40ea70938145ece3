-- What the steps of the reading give.
use Rattle.std.specs.Prelude.{◌≡◌, ℕ, Bool, true, false, cond, List, ◌++◌, codes, Option, MatchOption, Result, IfOk}
use Rattle.pgn_base.specs.declared.command.Command.{Command}
use Rattle.pgn_language.specs.Tokens as model
use Rattle.pgn_language.specs.Grammar.{ReadsAs}
use Rattle.pgn_command.specs.declared.token.Lexeme.{Lexeme}
use Rattle.pgn_command.specs.declared.token.Lexeme.TheVariants as lexeme
use Rattle.pgn_requests.specs.declared.request.Request.{Request}
use Rattle.pgn_requests.specs.declared.setting.Setting.TheVariants as setting
use Rattle.pgn_requests.specs.Phrases.{after_one, after_two, are_two, assigned_asks, begin_asks, going, is_key, named_asks, named_settled, other_asks, select_asks, session_asks, start_asks, valued_asks}
use Rattle.pgn_requests.specs.Reading.{request_of}

-- an answer that is no refusal is this request
abbrev pub Gives : {E : Type 0} → Result Request E → Request → Type 0
Gives result told = IfOk result (λ request. request ≡ told)

-- a bare text asks for this
abbrev pub Asks : List ℕ → Request → Type 0
Asks text request = (command : Command) × ReadsAs text command × (request ≡ request_of text command)

-- after SET, where it is neither LOCAL nor NAMES nor STARTUP
abbrev pub user_asks : List ℕ → ℕ → List model.Lexeme → Request
user_asks text at lexemes =
    going (after_two (codes "session") (codes "authorization") lexemes) (λ rest. valued_asks text at false rest setting.SessionAuthorization)
    (going (after_one (codes "session") lexemes) (λ rest. session_asks text at rest) (session_asks text at lexemes))

-- after SET, where it is not LOCAL
abbrev pub here_asks : List ℕ → ℕ → List model.Lexeme → Request
here_asks text at lexemes =
    going (after_one (codes "names") lexemes) (λ rest. valued_asks text at false rest setting.ClientEncoding)
    (going (after_one (codes "startup") lexemes) (λ rest. assigned_asks text at true rest) (user_asks text at lexemes))

-- a setting is shown or reset, by one or two words
abbrev pub of_setting_asks : List ℕ → ℕ → Bool → List model.Lexeme → Request
of_setting_asks text at shows lexemes =
    cond (are_two (codes "session") (codes "authorization") lexemes) (named_settled text at shows setting.SessionAuthorization)
    (cond (are_two (codes "time") (codes "zone") lexemes) (named_settled text at shows setting.TimeZone) (named_asks text at shows lexemes))

-- what the tokens of a bare text ask for where they ask for no setting
abbrev pub asks_beside : List ℕ → ℕ → model.Lexeme → List model.Lexeme → Request
asks_beside text at a lexemes =
    cond (is_key (codes "begin") a) (begin_asks text at lexemes)
    (cond (is_key (codes "start") a) (start_asks text at lexemes)
    (cond (is_key (codes "select") a) (select_asks text at lexemes) (other_asks text at a lexemes)))

-- a value was put behind a text, if it is one
abbrev pub IsPut : Bool → List ℕ → List ℕ → Option (List ℕ) → Type 0
IsPut told old new value = MatchOption value (told ≡ false) (λ some. (told ≡ true) × (new ≡ old ++ some))

-- the token is the end
abbrev pub ends : Lexeme → Bool
ends lexeme.End = true
ends lexeme = false
