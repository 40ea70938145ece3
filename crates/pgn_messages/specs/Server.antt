-- The messages of a server, byte by byte.
use Rattle.std.specs.Prelude.{ℕ, ◌+◌, ◌*◌, ◌/◌, ◌%◌, ◌==◌, cond, nat_le, List, [], ◌∷◌, ◌++◌, drop, length, map, reverse, codes, decimal}
use Rattle.std.specs.List.{prefix_len}
use Rattle.std.specs.Int.{w16, w32, to_be_bytes}
use Rattle.pgn_base.specs.declared.answers.Tag.{Tag}
use Rattle.pgn_base.specs.declared.answers.Warning.{Warning}
use Rattle.pgn_base.specs.declared.answers.Refusal.{Refusal}
use Rattle.pgn_base.specs.declared.queue_answers.Usage.{Usage}
use Rattle.pgn_base.specs.declared.note.Delivery.{Delivery}
use Rattle.pgn_answers.specs.declared.block_state.BlockState.{BlockState}
use Rattle.pgn_answers.specs.declared.block_state.BlockState.TheVariants.{Idle, InBlock, Failed}
use Rattle.pgn_answers.specs.Refusals.{tag_text, warning_code, warning_message, refusal_code, refusal_message}

-- a number in four bytes and in two, the most significant first
abbrev pub four : ℕ → List ℕ
four n = to_be_bytes w32 n

abbrev pub two : ℕ → List ℕ
two n = to_be_bytes w16 n

-- a message: its letter, its length, which counts itself and not the letter, and its body
abbrev pub message : ℕ → List ℕ → List ℕ
message letter body = letter ∷ (four (4 + length body) ++ body)

-- a text, and the zero byte that ends it
abbrev pub ended : List ℕ → List ℕ
ended text = text ++ 0 ∷ []

-- a field of a notice or an error: its letter and its text
abbrev pub field : ℕ → List ℕ → List ℕ
field letter text = letter ∷ ended text

-- the fields S and V with the severity, C with the code and M with the text, and the end of the fields
abbrev pub fields : List ℕ → List ℕ → List ℕ → List ℕ
fields severity code text = field 83 severity ++ field 86 severity ++ field 67 code ++ field 77 text ++ 0 ∷ []

-- N: NoticeResponse
abbrev pub notice : Warning → List ℕ
notice warning = message 78 (fields (codes "WARNING") (warning_code warning) (warning_message warning))

-- what is said where an identifier is cut to another
abbrev pub cut_text : List ℕ → List ℕ → List ℕ
cut_text name cut = codes "identifier \"" ++ name ++ codes "\" will be truncated to \"" ++ cut ++ codes "\""

-- N of the severity NOTICE, which says that
abbrev pub cut_notice : List ℕ → List ℕ → List ℕ
cut_notice name cut = message 78 (fields (codes "NOTICE") (codes "42622") (cut_text name cut))

-- E: ErrorResponse
abbrev pub error : Refusal → List ℕ
error refusal = message 69 (fields (codes "ERROR") (refusal_code refusal) (refusal_message refusal))

-- E: ErrorResponse of the severity FATAL, behind which the server ends the conversation
abbrev pub fatal : List ℕ → List ℕ → List ℕ
fatal code text = message 69 (fields (codes "FATAL") code text)

-- what is said of a column behind its name: no table and no place in one, the type text with its size and modifier, and the format
abbrev pub column : List ℕ
column = four 0 ++ two 0 ++ four 25 ++ two 65535 ++ four 4294967295 ++ two 0

-- T: RowDescription of one column with this name
abbrev pub columns : List ℕ → List ℕ
columns name = message 84 (two 1 ++ ended name ++ column)

-- T: RowDescription of one column with this name, of the type with this number and this size
abbrev pub described : List ℕ → ℕ → ℕ → List ℕ
described name type size = message 84 (two 1 ++ ended name ++ (four 0 ++ two 0 ++ four type ++ two size ++ four 4294967295 ++ two 0))

-- D: DataRow with one text
abbrev pub row : List ℕ → List ℕ
row text = message 68 (two 1 ++ four (length text) ++ text)

-- C: CommandComplete
abbrev pub complete : Tag → List ℕ
complete tag = message 67 (ended (tag_text tag))

-- C with a text
abbrev pub completed : List ℕ → List ℕ
completed text = message 67 (ended text)

-- S: ParameterStatus
abbrev pub status : List ℕ → List ℕ → List ℕ
status name value = message 83 (ended name ++ ended value)

-- E with a code and a text
abbrev pub error_of : List ℕ → List ℕ → List ℕ
error_of code text = message 69 (fields (codes "ERROR") code text)

-- A: NotificationResponse
abbrev pub notification : Delivery → List ℕ
notification delivery = message 65 (four delivery.pid ++ ended delivery.note.channel ++ ended delivery.note.payload)

-- I: EmptyQueryResponse
abbrev pub empty_query : List ℕ
empty_query = message 73 []

-- the letter of a block's state
abbrev pub state_letter : BlockState → ℕ
state_letter Idle = 73
state_letter InBlock = 84
state_letter Failed = 69

-- Z: ReadyForQuery
abbrev pub ready : BlockState → List ℕ
ready state = message 90 (state_letter state ∷ [])

-- eight digits of a number, the most significant first
abbrev pub eight_digits : ℕ → List ℕ
eight_digits n = map (λ place. 48 + (n / place) % 10) (10000000 ∷ 1000000 ∷ 100000 ∷ 10000 ∷ 1000 ∷ 100 ∷ 10 ∷ 1 ∷ [])

-- digits without the zeros at their end
abbrev pub without_zeros : List ℕ → List ℕ
without_zeros digits = reverse (drop (prefix_len (λ digit. digit == 48) (reverse digits)) (reverse digits))

-- the occupied pages as a fraction of the limit, to eight places: of 256 pages that is the fraction itself
abbrev pub fraction : Usage → List ℕ
fraction usage =
    cond (usage.occupied == 0) (codes "0")
    (cond (nat_le usage.limit usage.occupied) (codes "1")
    (codes "0." ++ without_zeros (eight_digits (usage.occupied * 100000000 / usage.limit))))

-- the occupied pages of the limit
abbrev pub share : Usage → List ℕ
share usage = decimal usage.occupied ++ codes "/" ++ decimal usage.limit
