-- What the words of the command line ask for: one of the commands, with its numbers.
use Rattle.std.specs.Prelude.{◌≡◌, ◌≤◌, ℕ, ◌==◌, ◌&&◌, ◌||◌, Bool, true, false, cond, nat_le, nat_lt, List, [], ◌∷◌, length, take, drop, Option, None, Some, option_map, option_and_then, unwrap_or, is_some, codes}
use Rattle.std.specs.List.{before_first, after_first, list_all, list_any}
use Rattle.std.specs.Char.{digit_value}
use Rattle.std.specs.Str.{bytes_eq}
use Rattle.std.specs.Str.Parse.{digits_value, without_leading_plus}
use Rattle.pgn_base.specs.declared.format.Format.{Format}
use Rattle.pgn_base.specs.declared.format.Format.TheVariants.{One, Two}
use Rattle.pgn_base.specs.declared.limits.TheConstants.{PAGES_DEFAULT, PAGES_MIN, PAGES_MAX, PATIENCE_DEFAULT}
use Rattle.pgn_options.specs.declared.limits.TheConstants.{DRILL_NOTES_MAX, DRILL_SESSIONS_MAX, PATIENCE_MAX, SEATS_DEFAULT, SEATS_MAX}
use Rattle.pgn_options.specs.declared.asked.Asked.{Asked}
use Rattle.pgn_options.specs.declared.asked.Asked.TheVariants.{Run, Drill, Wire, Check, Serve}
use Rattle.pgn_options.specs.declared.options.Options.{Options}

-- Numbers.

-- one ASCII digit or more, and nothing else
abbrev pub are_digits : List ℕ → Bool
are_digits word = nat_lt 0 (length word) && list_all (λ byte. nat_lt (digit_value byte) 10) word

-- the number that a word is: an optional `+` and digits, from the least to the greatest
abbrev pub number_in : ℕ → ℕ → List ℕ → Option ℕ
number_in least most word =
    let digits = without_leading_plus word in
    let number = digits_value 10 digits in
    cond (are_digits digits && (nat_le least number && nat_le number most)) (Some number) None

-- The options.

-- an option that has a value
pub data Key : Type 0 where
  Pages : Key
  Patience : Key
  FormatNumber : Key
  Seats : Key

-- no option is given
abbrev pub no_options : Options
no_options = record { pages = None; patience = None; format = None; seats = None; live = false }

-- an option that is not given yet gets this word as its value
abbrev pub with_option : Key → List ℕ → Options → Option Options
with_option Pages word given = cond (is_some given.pages) None (option_map (λ n. record given { pages = Some n }) (number_in PAGES_MIN PAGES_MAX word))
with_option Patience word given = cond (is_some given.patience) None (option_map (λ n. record given { patience = Some n }) (number_in 1 PATIENCE_MAX word))
with_option FormatNumber word given = cond (is_some given.format) None (option_map (λ n. record given { format = Some n }) (number_in 1 2 word))
with_option Seats word given = cond (is_some given.seats) None (option_map (λ n. record given { seats = Some n }) (number_in 1 SEATS_MAX word))

-- `--live`, which is not given yet
abbrev pub with_live : Options → Option Options
with_live given = cond given.live None (Some (record given { live = true }))

-- the option of this name
abbrev pub key_named : List ℕ → Option Key
key_named name =
    cond (bytes_eq (codes "pages") name) (Some Pages)
    (cond (bytes_eq (codes "patience") name) (Some Patience)
    (cond (bytes_eq (codes "format") name) (Some FormatNumber)
    (cond (bytes_eq (codes "seats") name) (Some Seats) None)))

-- what a word says where no option waits for its value
pub data Says : Type 0 where
  -- `--`
  Ends : Says
  -- `--name`: the value is the next word
  Names : Key → Says
  -- `--name=value`
  Sets : Key → List ℕ → Says
  -- `--live`
  GoesLive : Says
  -- nothing that names an option
  Nothing : Says

-- an option with the value in the same word, where there is one
abbrev pub names_or_sets : Key → Option (List ℕ) → Says
names_or_sets key None = Names key
names_or_sets key (Some value) = Sets key value

-- `--live`, which has no value
abbrev pub live_unless_set : Option (List ℕ) → Says
live_unless_set None = GoesLive
live_unless_set (Some value) = Nothing

-- the option that is named, where one is
abbrev pub says_of : Option Key → List ℕ → Option (List ℕ) → Says
says_of None name value = cond (bytes_eq (codes "live") name) (live_unless_set value) Nothing
says_of (Some key) name value = names_or_sets key value

-- what a name and the value behind it say
abbrev pub says_named : List ℕ → Option (List ℕ) → Says
says_named name value = says_of (key_named name) name value

-- what stands behind the first `=`, where there is one
abbrev pub behind_equals : List ℕ → Option (List ℕ)
behind_equals text = cond (list_any (λ byte. byte == 61) text) (Some (after_first (λ byte. byte == 61) text)) None

-- what a word says that begins with two hyphens and goes on like this
abbrev pub says_behind : List ℕ → Says
says_behind [] = Ends
says_behind (byte ∷ bytes) = says_named (before_first (λ byte. byte == 61) (byte ∷ bytes)) (behind_equals (byte ∷ bytes))

-- what a word says
abbrev pub says : List ℕ → Says
says word = cond (bytes_eq (take 2 word) (codes "--")) (says_behind (drop 2 word)) Nothing

-- nothing follows
abbrev pub if_last : List (List ℕ) → Options → Option Options
if_last [] given = Some given
if_last (word ∷ words) given = None

-- the options that are given by what a word says and by the words after it, `next` being how these go on from the options so far and
-- the option that waits for its value
abbrev pub by_word : Says → List (List ℕ) → Options → (Options → Option Key → Option Options) → Option Options
by_word Ends words given next = if_last words given
by_word (Names key) words given next = next given (Some key)
by_word (Sets key value) words given next = option_and_then (λ more. next more None) (with_option key value given)
by_word GoesLive words given next = option_and_then (λ more. next more None) (with_live given)
by_word Nothing words given next = None

-- the options that words give after those so far, of which one may wait for its value: the next word is it
abbrev pub options_after : List (List ℕ) → Options → Option Key → Option Options
options_after [] given None = Some given
options_after [] given (Some key) = None
options_after (word ∷ words) given None = by_word (says word) words given (options_after words)
options_after (word ∷ words) given (Some key) = option_and_then (λ more. options_after words more None) (with_option key word given)

-- The words of the commands that have options.

-- the format of this number
abbrev pub format_numbered : ℕ → Format
format_numbered number = cond (number == 2) Two One

-- `run` with these options: the default stands for one that is not given. It does not take `--seats`
abbrev pub run_with : Options → Option Asked
run_with given =
    cond (is_some given.seats) None
    (Some (Run (unwrap_or given.pages PAGES_DEFAULT) (unwrap_or given.patience PATIENCE_DEFAULT) (format_numbered (unwrap_or given.format 1)) given.live))

-- `check`, which takes neither `--seats` nor `--live`
abbrev pub check_with : Options → Option Asked
check_with given =
    cond (is_some given.seats || given.live) None
    (Some (Check (unwrap_or given.pages PAGES_DEFAULT) (unwrap_or given.patience PATIENCE_DEFAULT) (format_numbered (unwrap_or given.format 1))))

-- `serve`, which takes `--seats` alone
abbrev pub serve_with : Options → Option Asked
serve_with given =
    cond (is_some given.pages || (is_some given.patience || (is_some given.format || given.live))) None (Some (Serve (unwrap_or given.seats SEATS_DEFAULT)))

-- a command that has options
pub data Optioned : Type 0 where
  OfRun : Optioned
  OfCheck : Optioned
  OfServe : Optioned

abbrev pub word_of : Optioned → List ℕ
word_of OfRun = codes "run"
word_of OfCheck = codes "check"
word_of OfServe = codes "serve"

abbrev pub asked_with : Optioned → Options → Option Asked
asked_with OfRun given = run_with given
asked_with OfCheck given = check_with given
asked_with OfServe given = serve_with given

-- what it and these words ask for
abbrev pub options_asked : Optioned → List (List ℕ) → Option Asked
options_asked which words = option_and_then (asked_with which) (options_after words no_options None)

-- The words of `drill`.

-- words without the first that is `--`
abbrev pub without_dashes : List (List ℕ) → List (List ℕ)
without_dashes [] = []
without_dashes (word ∷ words) = cond (bytes_eq word (codes "--")) words (word ∷ without_dashes words)

-- the drill of three numbers: the seed, the sessions and the notifications of each
abbrev pub drill_with : Option ℕ → Option ℕ → Option ℕ → Option Asked
drill_with (Some seed) (Some sessions) (Some notes) = Some (Drill seed sessions notes)
drill_with seed sessions notes = None

-- three words, and no more
abbrev pub drill_of : List (List ℕ) → Option Asked
drill_of (seed ∷ sessions ∷ notes ∷ []) =
    drill_with (number_in 0 18446744073709551615 seed) (number_in 1 DRILL_SESSIONS_MAX sessions) (number_in 1 DRILL_NOTES_MAX notes)
drill_of words = None

-- what `drill` and these words ask for
abbrev pub drill_asked : List (List ℕ) → Option Asked
drill_asked words = drill_of (without_dashes words)

-- The words of `wire`.

-- no word
abbrev pub wire_of : List (List ℕ) → Option Asked
wire_of [] = Some Wire
wire_of (word ∷ words) = None

-- what `wire` and these words ask for
abbrev pub wire_asked : List (List ℕ) → Option Asked
wire_asked words = wire_of (without_dashes words)

-- All words.

-- what the first word and those after it ask for
abbrev pub command_asked : List ℕ → List (List ℕ) → Option Asked
command_asked name words =
    cond (bytes_eq (word_of OfRun) name) (options_asked OfRun words)
    (cond (bytes_eq (codes "drill") name) (drill_asked words)
    (cond (bytes_eq (codes "wire") name) (wire_asked words)
    (cond (bytes_eq (word_of OfCheck) name) (options_asked OfCheck words)
    (cond (bytes_eq (word_of OfServe) name) (options_asked OfServe words) None))))

-- what words ask for, where they are a command
abbrev pub asked_by : List (List ℕ) → Option Asked
asked_by [] = None
asked_by (word ∷ words) = command_asked word words

-- the words are a command, and ask for this
abbrev pub AskFor : List (List ℕ) → Asked → Type 0
AskFor words asked = asked_by words ≡ Some asked

-- the words are no command
abbrev pub AreNoCommand : List (List ℕ) → Type 0
AreNoCommand words = asked_by words ≡ None

-- the numbers that a command may give
abbrev pub IsWithin : Asked → Type 0
IsWithin (Run pages patience format live) = (PAGES_MIN ≤ pages) × (pages ≤ PAGES_MAX) × (1 ≤ patience) × (patience ≤ PATIENCE_MAX)
IsWithin (Drill seed sessions notes) = (1 ≤ sessions) × (sessions ≤ DRILL_SESSIONS_MAX) × (1 ≤ notes) × (notes ≤ DRILL_NOTES_MAX)
IsWithin Wire = Unit {0}
IsWithin (Check pages patience format) = (PAGES_MIN ≤ pages) × (pages ≤ PAGES_MAX) × (1 ≤ patience) × (patience ≤ PATIENCE_MAX)
IsWithin (Serve seats) = (1 ≤ seats) × (seats ≤ SEATS_MAX)
