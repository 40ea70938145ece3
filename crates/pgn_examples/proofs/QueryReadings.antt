-- What the bytes of the examples read as.
use Rattle.std.proofs.Common.{◌≡◌, ◌+◌, [], ◌∷◌, ◌++◌, None, Option, Some, List, refl, arith, ℕ, ◌<◌, ◌≤◌, length, sym, append-nil, inl, inr}
use Rattle.std.specs.Prelude.{codes}
use lib.Utf8.{encode}
use Rattle.std.specs.Str.{is_utf8, chars}
use Rattle.pgn_base.specs.declared.limits.TheConstants.{NOTE_LINES_MAX}
use Rattle.pgn_base.specs.declared.command.Command.TheVariants as command
use Rattle.pgn_language.specs.declared.scenario.ScriptLine.{ScriptLine}
use Rattle.pgn_language.specs.Grammar.{table, cut}
use Rattle.pgn_queries.specs.declared.wire_fault.WireFault.{WireFault}
use Rattle.pgn_queries.specs.declared.wire_fault.WireFault.TheVariants.{BadLength, BadText, BadType, TooMany, Truncated}
use Rattle.pgn_queries.specs.declared.coming.Coming.TheVariants.{End, Fault}
use Rattle.pgn_queries.specs.Client as client
use Rattle.pgn_queries.specs.Queries as are
use Rattle.pgn_queries.specs.Queries.{Place, QueriesAre, first_place, queries}
use Rattle.pgn_examples.specs.Queries.{asks_lf, asks_listen, asks_no_utf8, asks_nothing, asks_notify, asks_two_ends, asks_unended, listen_line, notify_first, notify_line, place_after, query_line, terminates}
use Rattle.std.proofs.lemmas.Bool.{both_ways}
use Rattle.std.proofs.lemmas.Str.{is_utf8-from_IsUtf8}
use Rattle.pgn_examples.proofs.QueryLaws.{one_line, one_more, several_lines, bad_body}

-- a reader at this place, of a client of which so many queries may notify
abbrev pub limited_at : ℕ → ℕ → ℕ → ℕ → Place
limited_at most at counted noted = record { at = at; queries = counted; notes = noted; most = most }

abbrev pub place_at : ℕ → ℕ → ℕ → Place
place_at at counted noted = limited_at NOTE_LINES_MAX at counted noted

ended : (place : Place) → QueriesAre place [] [] None
ended place = are.QueriesAre.Ends place [] [] [] (client.NextIs.Ended [] [] refl)

terminated : (place : Place) (rest : List ℕ) → QueriesAre place (terminates ++ rest) [] None
terminated place rest = are.QueriesAre.Ends place (terminates ++ rest) [] rest
    (client.NextIs.Terminates (terminates ++ rest) (0 ∷ 0 ∷ 0 ∷ 4 ∷ rest) End [] rest refl (client.TerminateIs.Whole (0 ∷ 0 ∷ 0 ∷ 4 ∷ rest) (0 ∷ 0 ∷ 0 ∷ 4 ∷ []) rest refl (record { four = refl; value = refl })))

-- `LISTEN c` first, and then the others
listens_by : (most : ℕ) (rest : List ℕ) (lines : List ScriptLine) (fault : Option WireFault) → QueriesAre (limited_at most 14 1 0) rest lines fault → queries most (asks_listen ++ rest) (listen_line ∷ lines) fault
unfolding table cut is_utf8 chars encode
listens_by most rest lines fault others = one_line (first_place most) (0 ∷ 0 ∷ 0 ∷ 13 ∷ []) (codes "LISTEN c") rest (command.Listen (codes "c")) lines fault refl refl (omega arith) refl refl refl refl (omega arith) (omega arith) others

notifies_by : (most at before noted : ℕ) (rest : List ℕ) (lines : List ScriptLine) (fault : Option WireFault) → before + 1 ≤ 4294967294 → noted + 1 ≤ most
    → QueriesAre (limited_at most (at + 19) (before + 1) (noted + 1)) rest lines fault
    → QueriesAre (limited_at most at before noted) (asks_notify ++ rest) (query_line (before + 1) (codes "NOTIFY c, 'x'") (command.Notify (record { channel = codes "c"; payload = codes "x" })) ∷ lines) fault
unfolding table cut is_utf8 chars encode
notifies_by most at before noted rest lines fault few fits others =
    one_line (limited_at most at before noted) (0 ∷ 0 ∷ 0 ∷ 18 ∷ []) (codes "NOTIFY c, 'x'") rest (command.Notify (record { channel = codes "c"; payload = codes "x" })) lines fault refl refl (omega arith) refl refl refl refl few fits others

listens : (rest : List ℕ) (lines : List ScriptLine) (fault : Option WireFault) → QueriesAre (place_at 14 1 0) rest lines fault → queries NOTE_LINES_MAX (asks_listen ++ rest) (listen_line ∷ lines) fault
listens rest lines fault others = listens_by NOTE_LINES_MAX rest lines fault others

notifies : (rest : List ℕ) (lines : List ScriptLine) (fault : Option WireFault) → QueriesAre (place_at 33 2 1) rest lines fault → QueriesAre (place_at 14 1 0) (asks_notify ++ rest) (notify_line ∷ lines) fault
notifies rest lines fault others = notifies_by NOTE_LINES_MAX 14 1 0 rest lines fault (omega arith) (omega arith) others

pub nothing : (at before : ℕ) (rest : List ℕ) (lines : List ScriptLine) (fault : Option WireFault) → before + 1 ≤ 4294967294 → QueriesAre (place_at (at + 6) (before + 1) 0) rest lines fault
    → QueriesAre (place_at at before 0) (asks_nothing ++ rest) (query_line (before + 1) [] command.Empty ∷ lines) fault
unfolding table cut is_utf8 chars encode
nothing at before rest lines fault few others =
    one_line (place_at at before 0) (0 ∷ 0 ∷ 0 ∷ 5 ∷ []) [] rest command.Empty lines fault refl refl (omega arith) refl refl refl refl few (omega arith) others

-- two queries and a Terminate: two lines, and no fault
pub two_queries : queries NOTE_LINES_MAX (asks_listen ++ asks_notify ++ terminates) (listen_line ∷ notify_line ∷ []) None
two_queries = listens (asks_notify ++ terminates) (notify_line ∷ []) None (notifies terminates [] None (terminated (place_at 33 2 1) []))

-- the same where the bytes end
pub ended_by_the_source : queries NOTE_LINES_MAX (asks_listen ++ asks_notify) (listen_line ∷ notify_line ∷ []) None
ended_by_the_source = listens asks_notify (notify_line ∷ []) None (notifies [] [] None (ended (place_at 33 2 1)))

-- one query
pub one_query : queries NOTE_LINES_MAX asks_listen (listen_line ∷ []) None
one_query = listens [] [] None (ended (place_at 14 1 0))

-- behind a Terminate nothing is read
pub behind_a_terminate : queries NOTE_LINES_MAX (terminates ++ asks_listen) [] None
behind_a_terminate = terminated (first_place NOTE_LINES_MAX) asks_listen

-- no byte at all
pub no_byte : queries NOTE_LINES_MAX [] [] None
no_byte = ended (first_place NOTE_LINES_MAX)

-- a query with an empty text has the empty command
pub no_text : queries NOTE_LINES_MAX asks_nothing (query_line 1 [] command.Empty ∷ []) None
no_text = nothing 0 0 [] [] None (omega arith) (ended (place_at 6 1 0))

-- a text that begins with a line feed is no line: it goes wrong there
pub an_lf : queries NOTE_LINES_MAX asks_lf (query_line 1 [] (command.Bad 0) ∷ []) None
unfolding is_utf8 chars encode
an_lf = several_lines (first_place NOTE_LINES_MAX) (0 ∷ 0 ∷ 0 ∷ 6 ∷ []) [] [] [] [] None refl refl (omega arith) refl refl refl (omega arith) (omega arith) (ended (place_at 7 1 0))

-- limits
exceeds_by : (most at before noted : ℕ) (rest : List ℕ) → most < noted + 1 → QueriesAre (limited_at most at before noted) (asks_notify ++ rest) [] (Some (TooMany at))
unfolding table cut is_utf8 chars encode
exceeds_by most at before noted rest many =
    one_more (limited_at most at before noted) (0 ∷ 0 ∷ 0 ∷ 18 ∷ []) (codes "NOTIFY c, 'x'") rest (command.Notify (record { channel = codes "c"; payload = codes "x" })) refl refl (omega arith) refl refl refl refl (inr many)

-- where one may notify, the second that does is too many
pub second : queries 1 (asks_notify ++ asks_notify) (notify_first ∷ []) (Some (TooMany 19))
second = notifies_by 1 0 0 0 asks_notify [] (Some (TooMany 19)) (omega arith) (omega arith) (exceeds_by 1 19 1 1 [] (omega arith))

-- where one may, a line that does not notify is not counted
pub other : queries 1 (asks_listen ++ asks_notify) (listen_line ∷ notify_line ∷ []) None
other = listens_by 1 asks_notify (notify_line ∷ []) None (notifies_by 1 14 1 0 [] [] None (omega arith) (omega arith) (ended (limited_at 1 33 2 1)))

-- where two may, both are read
pub two : queries 2 (asks_notify ++ asks_notify) (notify_first ∷ notify_line ∷ []) None
two = notifies_by 2 0 0 0 asks_notify (notify_line ∷ []) None (omega arith) (omega arith) (notifies_by 2 19 1 1 [] [] None (omega arith) (omega arith) (ended (limited_at 2 38 2 2)))

-- where none may, the first is too many
pub none : queries 0 asks_notify [] (Some (TooMany 0))
none = exceeds_by 0 0 0 0 [] (omega arith)

-- the greatest number of queries
pub greatest : QueriesAre (place_after 4294967293 0 0) asks_nothing (query_line 4294967294 [] command.Empty ∷ []) None
unfolding table cut is_utf8 chars encode
greatest = one_line (place_after 4294967293 0 0) (0 ∷ 0 ∷ 0 ∷ 5 ∷ []) [] [] command.Empty [] None refl refl (omega arith) refl refl refl refl (omega arith) (omega arith) (ended (limited_at 0 6 4294967294 0))

-- a query past the last line's number is too many
pub one_query_more : QueriesAre (place_after 4294967294 0 0) asks_nothing [] (Some (TooMany 0))
unfolding table cut is_utf8 chars encode
one_query_more = one_more (place_after 4294967294 0 0) (0 ∷ 0 ∷ 0 ∷ 5 ∷ []) [] [] command.Empty refl refl (omega arith) refl refl refl refl (inl (omega arith))

-- faults
bad_type : (place : Place) → QueriesAre place (80 ∷ []) [] (Some (BadType place.at))
bad_type place = are.QueriesAre.Fails place (80 ∷ []) [] [] (BadType place.at) (client.NextIs.NoType 80 (80 ∷ []) [] [] [] refl (λ e. absurd (omega arith)) (λ e. absurd (omega arith)))

-- behind two queries a letter that is no type
pub type_behind : queries NOTE_LINES_MAX (asks_listen ++ asks_nothing ++ 80 ∷ []) (listen_line ∷ query_line 2 [] command.Empty ∷ []) (Some (BadType 20))
type_behind = listens (asks_nothing ++ 80 ∷ []) (query_line 2 [] command.Empty ∷ []) (Some (BadType 20)) (nothing 14 1 (80 ∷ []) [] (Some (BadType 20)) (omega arith) (bad_type (place_at 20 2 0)))

bad_length : (place : Place) (head : List ℕ) (len : ℕ) → client.Tells head len → (client.IsQueryLength len → ⊥) → QueriesAre place (81 ∷ head) [] (Some (BadLength place.at))
bad_length place head len tells wrong = are.QueriesAre.Fails place (81 ∷ head) [] [] (BadLength place.at)
    (client.NextIs.Asks (81 ∷ head) head (Fault (BadLength place.at)) [] [] refl (client.QueryIs.BadHead head head [] [] [] len (sym (append-nil head)) tells wrong))

-- a query's length that is too small
pub length_of_a_query : queries NOTE_LINES_MAX (81 ∷ 0 ∷ 0 ∷ 0 ∷ 4 ∷ []) [] (Some (BadLength 0))
length_of_a_query = bad_length (first_place NOTE_LINES_MAX) (0 ∷ 0 ∷ 0 ∷ 4 ∷ []) 4 (record { four = refl; value = refl }) (λ fits. let least : 5 ≤ 4 = fits.least in absurd (omega arith))

-- one that is too great by one
pub greater_length : queries NOTE_LINES_MAX (81 ∷ 0 ∷ 1 ∷ 0 ∷ 6 ∷ []) [] (Some (BadLength 0))
greater_length = bad_length (first_place NOTE_LINES_MAX) (0 ∷ 1 ∷ 0 ∷ 6 ∷ []) 65542 (record { four = refl; value = refl }) (λ fits. let most : 65542 ≤ 65541 = fits.most in absurd (omega arith))

cut_body : (place : Place) (head more : List ℕ) (len size : ℕ) → client.Tells head len → client.IsQueryLength len → len ≡ 4 + size → length more < size → QueriesAre place (81 ∷ (head ++ more)) [] (Some (Truncated place.at))
cut_body place head more len size tells fits e few = are.QueriesAre.Fails place (81 ∷ (head ++ more)) [] [] (Truncated place.at)
    (client.NextIs.Asks (81 ∷ (head ++ more)) (head ++ more) (Fault (Truncated place.at)) [] [] refl
    (client.QueryIs.HasBody (head ++ more) head more (Fault (Truncated place.at)) [] [] len size refl tells fits e (client.BodyIs.Cut more [] [] few)))

-- the greatest that may be, of a message that is cut
pub greatest_length : queries NOTE_LINES_MAX (81 ∷ 0 ∷ 1 ∷ 0 ∷ 5 ∷ []) [] (Some (Truncated 0))
greatest_length = cut_body (first_place NOTE_LINES_MAX) (0 ∷ 1 ∷ 0 ∷ 5 ∷ []) [] 65541 65537 (record { four = refl; value = refl }) (record { least = omega arith; most = omega arith }) refl (omega arith)

-- a message that is cut in its body, behind a whole one
pub cut_within : queries NOTE_LINES_MAX (asks_nothing ++ 81 ∷ 0 ∷ 0 ∷ 0 ∷ 6 ∷ 59 ∷ []) (query_line 1 [] command.Empty ∷ []) (Some (Truncated 6))
cut_within = nothing 0 0 (81 ∷ 0 ∷ 0 ∷ 0 ∷ 6 ∷ 59 ∷ []) [] (Some (Truncated 6)) (omega arith)
    (cut_body (place_at 6 1 0) (0 ∷ 0 ∷ 0 ∷ 6 ∷ []) (59 ∷ []) 6 2 (record { four = refl; value = refl }) (record { least = omega arith; most = omega arith }) refl (omega arith))

-- a Terminate with a wrong length, behind a query
pub length_of_a_terminate : queries NOTE_LINES_MAX (asks_nothing ++ 88 ∷ 0 ∷ 0 ∷ 0 ∷ 5 ∷ []) (query_line 1 [] command.Empty ∷ []) (Some (BadLength 6))
length_of_a_terminate = nothing 0 0 (88 ∷ 0 ∷ 0 ∷ 0 ∷ 5 ∷ []) [] (Some (BadLength 6)) (omega arith)
    (are.QueriesAre.Fails (place_at 6 1 0) (88 ∷ 0 ∷ 0 ∷ 0 ∷ 5 ∷ []) [] [] (BadLength 6)
    (client.NextIs.Terminates (88 ∷ 0 ∷ 0 ∷ 0 ∷ 5 ∷ []) (0 ∷ 0 ∷ 0 ∷ 5 ∷ []) (Fault (BadLength 6)) [] [] refl
    (client.TerminateIs.BadHead (0 ∷ 0 ∷ 0 ∷ 5 ∷ []) (0 ∷ 0 ∷ 0 ∷ 5 ∷ []) [] [] 5 refl (record { four = refl; value = refl }) (λ e. absurd (omega arith)))))

-- a text without its zero byte
pub no_zero_byte : queries NOTE_LINES_MAX asks_unended [] (Some (BadText 0))
no_zero_byte = bad_body (first_place NOTE_LINES_MAX) (0 ∷ 0 ∷ 0 ∷ 6 ∷ []) (59 ∷ []) [] 59 refl refl (omega arith) (λ e is. absurd (omega arith))

-- one with two
pub two_zero_bytes : queries NOTE_LINES_MAX asks_two_ends [] (Some (BadText 0))
two_zero_bytes = bad_body (first_place NOTE_LINES_MAX) (0 ∷ 0 ∷ 0 ∷ 6 ∷ []) (0 ∷ []) [] 0 refl refl (omega arith) (λ e is. is.no_nul (0, omega arith, refl))

-- one that is no UTF-8
pub no_utf8 : queries NOTE_LINES_MAX asks_no_utf8 [] (Some (BadText 0))
unfolding is_utf8 chars encode
no_utf8 = bad_body (first_place NOTE_LINES_MAX) (0 ∷ 0 ∷ 0 ∷ 6 ∷ []) (255 ∷ []) [] 0 refl refl (omega arith) (λ e is. both_ways (is_utf8 (255 ∷ [])) refl (is_utf8-from_IsUtf8 (255 ∷ []) is.utf8))
