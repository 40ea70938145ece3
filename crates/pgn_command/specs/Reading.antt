-- How a line is read token by token, as the code reads it.
use Rattle.std.specs.Prelude.{◌≡◌, ℕ, Bool, true, false, ◌||◌, ◌&&◌, cond, List, [], ◌∷◌, drop, Option, None, Some, Result, Ok, Err, codes}
use Rattle.std.specs.Str.{str_eq_ignore_ascii_case, byte}
use Rattle.std.specs.List.{repeat}
use Rattle.pgn_base.specs.declared.note.Note.{Note}
use Rattle.pgn_base.specs.declared.command.Command.{Command}
use Rattle.pgn_base.specs.declared.command.Command.TheVariants as command
use Rattle.pgn_language.specs.Tokens.{Lexeme, Word, Wrong, Token}
use Rattle.pgn_language.specs.Grammar.{Slot, Key, Name, Quote, Count, Punct, fits_slot, name_of, text_of, value_of, limited}
use Rattle.pgn_command.specs.declared.verb.Verb.{Verb}
use Rattle.pgn_command.specs.declared.verb.Verb.TheVariants as verb

-- the tokens that are ahead, and the line's length
pub record Ahead : Type 0 where
  pub tokens : List Token
  pub end : ℕ

-- what the first token is
abbrev pub front_lexeme : List Token → Lexeme
front_lexeme [] = Wrong
front_lexeme (token ∷ tokens) = token.lexeme

-- where the first token begins, or the end of the line
abbrev pub front_at : ℕ → List Token → ℕ
front_at end [] = end
front_at end (token ∷ tokens) = token.at

-- no token is ahead
abbrev pub nothing_ahead : List Token → Bool
nothing_ahead [] = true
nothing_ahead (token ∷ tokens) = false

-- the first token may stand at the slot
abbrev pub takes : Slot → List Token → Bool
takes slot [] = false
takes slot (token ∷ tokens) = fits_slot slot token.lexeme

-- a token at the slot, and then the rest, or where this goes wrong
abbrev pub expecting : {A : Type 0} → Slot → ℕ → List Token → (List Token → Result A ℕ) → Result A ℕ
expecting slot end tokens go_on = cond (takes slot tokens) (go_on (drop 1 tokens)) (Err (front_at end tokens))

-- nothing is left
abbrev pub ending : ℕ → Command → List Token → Result Command ℕ
ending end one [] = Ok one
ending end one (token ∷ tokens) = Err token.at

-- one `;` may follow, and then nothing
abbrev pub closing : ℕ → Command → List Token → Result Command ℕ
closing end one tokens = ending end one (cond (takes (Punct (byte ";")) tokens) (drop 1 tokens) tokens)

-- WORK or TRANSACTION, or neither
abbrev pub past_work : List Token → List Token
past_work tokens = cond (takes (Key (codes "work")) tokens || takes (Key (codes "transaction")) tokens) (drop 1 tokens) tokens

-- a name, and then the command that it gives
abbrev pub naming : ℕ → (List ℕ → Command) → List Token → Result Command ℕ
naming end gives tokens = expecting Name end tokens (closing end (gives (name_of (front_lexeme tokens))))

-- the tokens from the name on, before which the word SAVEPOINT may stand; where none follows this word, it is itself the name
abbrev pub past_savepoint : List Token → List Token
past_savepoint tokens = cond (takes (Key (codes "savepoint")) tokens && takes Name (drop 1 tokens)) (drop 1 tokens) tokens

-- after ROLLBACK
abbrev pub rolling : ℕ → List Token → Result Command ℕ
rolling end tokens = cond (takes (Key (codes "to")) tokens) (naming end command.RollbackTo (past_savepoint (drop 1 tokens))) (closing end command.Rollback tokens)

-- after UNLISTEN
abbrev pub unlistening : ℕ → List Token → Result Command ℕ
unlistening end tokens = cond (takes (Punct (byte "*")) tokens) (closing end command.UnlistenAll (drop 1 tokens)) (naming end command.Unlisten tokens)

-- a notification
abbrev pub noted : List ℕ → List ℕ → Note
noted channel payload = record { channel = channel; payload = payload }

-- a text, and the tokens after it
pub record Argument : Type 0 where
  pub text : List ℕ
  pub rest : List Token

-- what follows an argument, or where it goes wrong
abbrev pub after_argument : {A : Type 0} → Result Argument ℕ → (Argument → Result A ℕ) → Result A ℕ
after_argument (Ok argument) go_on = go_on argument
after_argument (Err at) go_on = Err at

-- what stands between the parentheses of `repeat`, and these
abbrev pub repeating : ℕ → List Token → Result Argument ℕ
repeating end tokens =
    expecting (Punct (byte "(")) end tokens (λ a. expecting Quote end a (λ b. expecting (Punct (byte ",")) end b (λ c. expecting Count end c (λ d. expecting (Punct (byte ")")) end d (λ e.
    Ok (record { text = repeat (value_of (front_lexeme c)) (text_of (front_lexeme a)); rest = e }))))))

-- an argument of pg_notify
abbrev pub arguing : ℕ → List Token → Result Argument ℕ
arguing end tokens =
    cond (takes Quote tokens) (Ok (record { text = text_of (front_lexeme tokens); rest = drop 1 tokens }))
    (cond (takes (Key (codes "null")) tokens) (Ok (record { text = []; rest = drop 1 tokens }))
    (expecting (Key (codes "repeat")) end tokens (repeating end)))

-- a comma and a literal, or nothing
abbrev pub paying : ℕ → List Token → Result Argument ℕ
paying end tokens =
    cond (takes (Punct (byte ",")) tokens)
    (expecting Quote end (drop 1 tokens) (λ rest. Ok (record { text = text_of (front_lexeme (drop 1 tokens)); rest = rest })))
    (Ok (record { text = []; rest = tokens }))

-- after NOTIFY
abbrev pub notifying : ℕ → List Token → Result Command ℕ
notifying end tokens =
    expecting Name end tokens (λ a. after_argument (paying end a) (λ payload. closing end (command.Notify (noted (name_of (front_lexeme tokens)) payload.text)) payload.rest))

-- the two arguments of pg_notify, between parentheses
abbrev pub calling : ℕ → List Token → Result Command ℕ
calling end tokens =
    expecting (Punct (byte "(")) end tokens (λ a. after_argument (arguing end a) (λ one. expecting (Punct (byte ",")) end one.rest (λ b. after_argument (arguing end b) (λ two.
    expecting (Punct (byte ")")) end two.rest (closing end (command.PgNotify (noted one.text two.text)))))))

-- a call without arguments
abbrev pub asking : ℕ → Command → List Token → Result Command ℕ
asking end one tokens = expecting (Punct (byte "(")) end tokens (λ a. expecting (Punct (byte ")")) end a (closing end one))

-- after SELECT
abbrev pub selecting : ℕ → List Token → Result Command ℕ
selecting end tokens =
    cond (takes (Key (codes "pg_notify")) tokens) (calling end (drop 1 tokens))
    (cond (takes (Key (codes "pg_listening_channels")) tokens) (asking end command.ListeningChannels (drop 1 tokens))
    (expecting (Key (codes "pg_notification_queue_usage")) end tokens (asking end command.QueueUsage)))

-- the word that a command begins with
abbrev pub verb_of : List ℕ → Option Verb
verb_of word =
    cond (str_eq_ignore_ascii_case (codes "begin") word) (Some verb.Begin)
    (cond (str_eq_ignore_ascii_case (codes "start") word) (Some verb.Start)
    (cond (str_eq_ignore_ascii_case (codes "commit") word) (Some verb.Commit)
    (cond (str_eq_ignore_ascii_case (codes "end") word) (Some verb.Commit)
    (cond (str_eq_ignore_ascii_case (codes "rollback") word) (Some verb.Rollback)
    (cond (str_eq_ignore_ascii_case (codes "abort") word) (Some verb.Abort)
    (cond (str_eq_ignore_ascii_case (codes "savepoint") word) (Some verb.Savepoint)
    (cond (str_eq_ignore_ascii_case (codes "release") word) (Some verb.Release)
    (cond (str_eq_ignore_ascii_case (codes "listen") word) (Some verb.Listen)
    (cond (str_eq_ignore_ascii_case (codes "unlisten") word) (Some verb.Unlisten)
    (cond (str_eq_ignore_ascii_case (codes "notify") word) (Some verb.Notify)
    (cond (str_eq_ignore_ascii_case (codes "select") word) (Some verb.Select) None)))))))))))

-- what the first token is such a word
abbrev pub front_verb : Lexeme → Option Verb
front_verb (Word text) = verb_of text
front_verb lexeme = None

-- after that word
abbrev pub beginning : ℕ → Verb → List Token → Result Command ℕ
beginning end verb.Begin tokens = closing end command.Begin (past_work tokens)
beginning end verb.Start tokens = expecting (Key (codes "transaction")) end tokens (closing end command.Start)
beginning end verb.Commit tokens = closing end command.Commit (past_work tokens)
beginning end verb.Rollback tokens = rolling end (past_work tokens)
beginning end verb.Abort tokens = closing end command.Rollback (past_work tokens)
beginning end verb.Savepoint tokens = naming end command.Savepoint tokens
beginning end verb.Release tokens = naming end command.Release (past_savepoint tokens)
beginning end verb.Listen tokens = naming end command.Listen tokens
beginning end verb.Unlisten tokens = unlistening end tokens
beginning end verb.Notify tokens = notifying end tokens
beginning end verb.Select tokens = selecting end tokens

-- a line whose first token is that word, or none
abbrev pub starting : ℕ → Option Verb → List Token → Result Command ℕ
starting end None tokens = closing end command.Empty tokens
starting end (Some one) tokens = beginning end one (drop 1 tokens)

-- a statement of the table, or where the line goes wrong
abbrev pub stated : ℕ → List Token → Result Command ℕ
stated end tokens = starting end (front_verb (front_lexeme tokens)) tokens

-- the command that this gives
abbrev pub outcome : Result Command ℕ → Command
outcome (Ok one) = limited one
outcome (Err at) = command.Bad at

-- a token at the slot was ahead, and is gone past
abbrev pub IsTaken : Slot → Ahead → Ahead → Type 0
IsTaken slot old new = (takes slot old.tokens ≡ true) × (new.tokens ≡ drop 1 old.tokens) × (new.end ≡ old.end)

-- none was ahead, and nothing is changed
abbrev pub IsKept : Slot → Ahead → Ahead → Type 0
IsKept slot old new = (takes slot old.tokens ≡ false) × (new ≡ old)
