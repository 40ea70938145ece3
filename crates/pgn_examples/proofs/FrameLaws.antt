-- The frames and the queries of the examples.
use Rattle.std.proofs.Common.{◌≡◌, ℕ, ◌==◌, ◌+◌, ◌≤◌, true, false, List, [], ◌∷◌, ◌++◌, length, Contains, Option, Some, None, sym, subst, refl, arith, inl, inr}
use Rattle.std.specs.Prelude.{codes, map}
use Rattle.std.specs.Str.{is_utf8, chars}
use Rattle.std.specs.Int.{w32, from_be_bytes}
use Rattle.std.proofs.lemmas.Bool.{both_ways, eq-eqb}
use Rattle.std.proofs.lemmas.Str.{IsUtf8-from_is_utf8}
use lib.Utf8.{encode}
use Rattle.pgn_base.specs.declared.limits.TheConstants.{NOTE_LINES_MAX}
use Rattle.pgn_base.specs.declared.command.Command.TheVariants as command
use Rattle.pgn_language.specs.Grammar.{cut, reading, table}
use Rattle.pgn_language.proofs.GrammarLaws.{reading-reads}
use Rattle.pgn_queries.specs.declared.limits.TheConstants.{QUERIES_MAX}
use Rattle.pgn_queries.specs.declared.wire_fault.WireFault.TheVariants.{BadLength, Truncated}
use Rattle.pgn_queries.specs.declared.coming.Coming.TheVariants.{Fault}
use Rattle.pgn_queries.specs.Client as client
use Rattle.pgn_examples.specs.Queries.{asks_listen, asks_notify, asks_two_ends, terminates}
use Rattle.pgn_queries.proofs.EachLaws.{one_end}
use Rattle.pgn_examples.proofs.QueryLaws.{has, lacks}
use Rattle.pgn_requests.specs.declared.request.Request.{Request}
use Rattle.pgn_requests.specs.declared.request.Request.TheVariants.{Line, Settles, Discards}
use Rattle.pgn_requests.specs.declared.settled.Settled.TheVariants.{One}
use Rattle.pgn_requests.specs.declared.complaint.Wording.TheVariants as wording
use Rattle.pgn_requests.specs.declared.complaint.Cause.TheVariants.{BadMessage}
use Rattle.pgn_requests.specs.Texts.{bare}
use Rattle.pgn_requests.specs.Phrases.{refused}
use Rattle.pgn_requests.specs.Reading as requests
use Rattle.pgn_requests.specs.Reading.{RequestIs, body_of, request_of}
use Rattle.pgn_messages.specs.declared.asked.Ask.{Ask}
use Rattle.pgn_messages.specs.declared.asked.Ask.TheVariants.{Discard, End, Query, Settle}
use Rattle.pgn_messages.specs.declared.asked.Parting.TheVariants.{Plain, Refused, Extended, Spent}
use Rattle.pgn_frames.specs.declared.frame_fault.FrameFault.{FrameFault}
use Rattle.pgn_frames.specs.declared.frame_fault.FrameFault.TheVariants.{CutFrame}
use Rattle.pgn_frames.specs.Frames as frames
use Rattle.pgn_frames.specs.Frames.{Frame, FramesAre, IsHead, IsSeat}
use Rattle.pgn_frames.specs.Clients as clients
use Rattle.pgn_frames.specs.Clients.{AreTooMany, ClientAsks, Close, Open, Left, Cut, Wrong, QueryNext, SeatAsks, Tally, after_ask, asked_as, first_tally}
use Rattle.pgn_examples.specs.Frames.{asks_discard, asks_one, cut_frame, frame_of, frames_of_three, garbled_at, listen_at, notify_at, parses, three_frames, too_short, two_asks, two_clients}

-- numbers that differ
pub apart : (a b : ℕ) → (a == b) ≡ false → a ≡ b → ⊥
apart a b e same = both_ways (a == b) e (eq-eqb a b same)

-- no more frames, and one more
pub ends : (seats at : ℕ) → FramesAre seats at [] [] None
ends seats at = frames.FramesAre.Ends at [] [] (frames.NextFrame.Ended [] refl)

-- a whole frame stands before others
pub goes : (seats at : ℕ) (head body rest : List ℕ) (seat : ℕ) (others : List Frame) (fault : Option FrameFault) → IsHead head seat (length body) → IsSeat seats seat
    → FramesAre seats (at + (4 + length body)) rest others fault → FramesAre seats at (head ++ (body ++ rest)) (frame_of seat body ∷ others) fault
goes seats at head body rest seat others fault is_head is_seat more =
    frames.FramesAre.Goes at (head ++ (body ++ rest)) rest (frame_of seat body) others fault (frames.NextFrame.Whole (head ++ (body ++ rest)) head body rest seat refl is_head is_seat) more

-- the three frames
pub three_are : FramesAre 2 0 three_frames frames_of_three None
three_are =
    goes 2 0 (0 ∷ 1 ∷ 0 ∷ 2 ∷ []) (81 ∷ 0 ∷ []) (0 ∷ 2 ∷ 0 ∷ 0 ∷ 0 ∷ 1 ∷ 0 ∷ 1 ∷ 88 ∷ []) 1 (frame_of 2 [] ∷ frame_of 1 (88 ∷ []) ∷ []) None
    (record { four = refl; of_seat = refl; of_size = refl }) (record { least = omega arith; most = omega arith })
    (goes 2 6 (0 ∷ 2 ∷ 0 ∷ 0 ∷ []) [] (0 ∷ 1 ∷ 0 ∷ 1 ∷ 88 ∷ []) 2 (frame_of 1 (88 ∷ []) ∷ []) None
    (record { four = refl; of_seat = refl; of_size = refl }) (record { least = omega arith; most = omega arith })
    (goes 2 10 (0 ∷ 1 ∷ 0 ∷ 1 ∷ []) (88 ∷ []) [] 1 [] None (record { four = refl; of_seat = refl; of_size = refl }) (record { least = omega arith; most = omega arith }) (ends 2 15)))

-- the frame that is cut
pub cut_is : FramesAre 2 0 cut_frame [] (Some (CutFrame 0))
cut_is = frames.FramesAre.Fails 0 cut_frame [] (CutFrame 0)
    (frames.NextFrame.CutBody cut_frame (0 ∷ 1 ∷ 0 ∷ 2 ∷ []) (81 ∷ []) [] 1 2 refl (record { four = refl; of_seat = refl; of_size = refl }) (record { least = omega arith; most = omega arith }) (omega arith))

-- a Query stands first
query_first : (head body rest : List ℕ) → length head ≡ 4 → 4 + length body ≡ from_be_bytes w32 head → 1 ≤ length body → length body ≤ 65537 → QueryNext (81 ∷ (head ++ (body ++ rest))) body rest
query_first head body rest four value some short =
    record { head = head; len = 4 + length body; split = refl; tells = record { four = four; value = value }; may = record { least = omega arith; most = omega arith }; size = refl }

few : (tally : Tally) → tally.lines ≤ QUERIES_MAX → tally.notes ≤ tally.most → AreTooMany tally → ⊥
few tally counted noted (inl many) = absurd (omega arith)
few tally counted noted (inr many) = absurd (omega arith)

-- what a body asks first, and then the others
asks_body : (tally : Tally) (head body rest : List ℕ) (request : Request) (asks : List Ask) (close : Close) → length head ≡ 4 → 4 + length body ≡ from_be_bytes w32 head → 1 ≤ length body → length body ≤ 65537
    → RequestIs body request → (after_ask tally (asked_as (tally.lines + 1) request)).lines ≤ QUERIES_MAX → (after_ask tally (asked_as (tally.lines + 1) request)).notes ≤ tally.most
    → ClientAsks (after_ask tally (asked_as (tally.lines + 1) request)) rest asks close
    → ClientAsks tally (81 ∷ (head ++ (body ++ rest))) (asked_as (tally.lines + 1) request ∷ asks) close
asks_body tally head body rest request asks close four value some short is counted noted others =
    clients.ClientAsks.Goes tally (81 ∷ (head ++ (body ++ rest))) body rest (asked_as (tally.lines + 1) request) asks close (query_first head body rest four value some short) (request, is, refl)
    (few (after_ask tally (asked_as (tally.lines + 1) request)) counted noted) others

-- what a text asks for
text_is : (text : List ℕ) (request : Request) → is_utf8 text ≡ true → has 0 text ≡ false → request_of (bare text) (reading (bare text)) ≡ request → RequestIs (body_of text) request
text_is text request utf8 no_nul is =
    subst (λ (r : Request). RequestIs (body_of text) r) is
    (requests.RequestIs.Reads text (reading (bare text)) refl (lacks 0 text no_nul) (IsUtf8-from_is_utf8 text utf8) (reading-reads (bare text)))

-- a tally of a seat of which so many may notify
abbrev pub limited_at : ℕ → ℕ → ℕ → Tally
limited_at most lines notes = record { lines = lines; notes = notes; most = most }

-- behind so many lines and notifications
abbrev pub tally_at : ℕ → ℕ → Tally
tally_at lines notes = limited_at NOTE_LINES_MAX lines notes

-- no more bytes
pub stopped : (tally : Tally) → ClientAsks tally [] [] Open
stopped tally = clients.ClientAsks.Stops tally [] refl

-- `LISTEN c`
listen_is : RequestIs (body_of (codes "LISTEN c")) (Line (codes "LISTEN c") (command.Listen (codes "c")) wording.Plain)
unfolding table cut is_utf8 chars encode
listen_is = text_is (codes "LISTEN c") (Line (codes "LISTEN c") (command.Listen (codes "c")) wording.Plain) refl refl refl

-- a query, where so many lines stand before it
pub listens : (before : ℕ) → before + 1 ≤ 4294967294 → ClientAsks (tally_at before 0) asks_listen (Query (listen_at (before + 1)) ∷ []) Open
listens before fits =
    asks_body (tally_at before 0) (0 ∷ 0 ∷ 0 ∷ 13 ∷ []) (body_of (codes "LISTEN c")) [] (Line (codes "LISTEN c") (command.Listen (codes "c")) wording.Plain) [] Open refl refl (omega arith) (omega arith)
    listen_is fits (omega arith) (stopped (tally_at (before + 1) 0))

-- `NOTIFY c, 'x'`, a first one, where one may notify, and a second
notify_is : RequestIs (body_of (codes "NOTIFY c, 'x'")) (Line (codes "NOTIFY c, 'x'") (command.Notify (record { channel = codes "c"; payload = codes "x" })) wording.Plain)
unfolding table cut is_utf8 chars encode
notify_is = text_is (codes "NOTIFY c, 'x'") (Line (codes "NOTIFY c, 'x'") (command.Notify (record { channel = codes "c"; payload = codes "x" })) wording.Plain) refl refl refl

-- a query that notifies, where one may
pub notifies_once : ClientAsks (limited_at 1 0 0) asks_notify (Query (notify_at 1) ∷ []) Open
notifies_once =
    asks_body (limited_at 1 0 0) (0 ∷ 0 ∷ 0 ∷ 18 ∷ []) (body_of (codes "NOTIFY c, 'x'")) []
    (Line (codes "NOTIFY c, 'x'") (command.Notify (record { channel = codes "c"; payload = codes "x" })) wording.Plain) [] Open refl refl (omega arith) (omega arith) notify_is (omega arith) (omega arith)
    (stopped (limited_at 1 1 1))

-- a second query that notifies, where one may, ends its client
pub notifies_again : ClientAsks (limited_at 1 3 1) asks_notify [] (Wrong Spent)
notifies_again =
    clients.ClientAsks.Exceeds (limited_at 1 3 1) asks_notify (body_of (codes "NOTIFY c, 'x'")) [] (Query (notify_at 4))
    (query_first (0 ∷ 0 ∷ 0 ∷ 18 ∷ []) (body_of (codes "NOTIFY c, 'x'")) [] refl refl (omega arith) (omega arith))
    (Line (codes "NOTIFY c, 'x'") (command.Notify (record { channel = codes "c"; payload = codes "x" })) wording.Plain, notify_is, refl) (inr (omega arith))

-- a Terminate asks for nothing, and its client leaves
pub terminated : (tally : Tally) (rest : List ℕ) → ClientAsks tally (terminates ++ rest) [] Left
terminated tally rest = clients.ClientAsks.Leaves tally (terminates ++ rest) (0 ∷ 0 ∷ 0 ∷ 4 ∷ rest) rest refl
    (client.TerminateIs.Whole (0 ∷ 0 ∷ 0 ∷ 4 ∷ rest) (0 ∷ 0 ∷ 0 ∷ 4 ∷ []) rest refl (record { four = refl; value = refl }))

-- a message that is cut
pub cut_query : (tally : Tally) → ClientAsks tally (81 ∷ 0 ∷ 0 ∷ 0 ∷ 13 ∷ 76 ∷ 73 ∷ []) [] Cut
cut_query tally =
    let more : List ℕ = 0 ∷ 0 ∷ 0 ∷ 13 ∷ 76 ∷ 73 ∷ [] in
    clients.ClientAsks.Cuts tally (81 ∷ more) [] []
    (client.NextIs.Asks (81 ∷ more) more (Fault (Truncated 0)) [] [] refl
    (client.QueryIs.HasBody more (0 ∷ 0 ∷ 0 ∷ 13 ∷ []) (76 ∷ 73 ∷ []) (Fault (Truncated 0)) [] [] 13 9 refl (record { four = refl; value = refl })
    (record { least = omega arith; most = omega arith }) (omega arith) (client.BodyIs.Cut (76 ∷ 73 ∷ []) [] [] (omega arith))))

-- a length that is too short
short_query : (tally : Tally) → ClientAsks tally too_short [] (Wrong Refused)
short_query tally =
    let more : List ℕ = 0 ∷ 0 ∷ 0 ∷ 4 ∷ [] in
    clients.ClientAsks.NoLength tally too_short [] []
    (client.NextIs.Asks too_short more (Fault (BadLength 0)) [] [] refl
    (client.QueryIs.BadHead more more [] [] [] 4 refl (record { four = refl; value = refl }) (λ fits. let least : 5 ≤ 4 = fits.least in omega arith)))

-- a body of two zero bytes
garbled_is : RequestIs (0 ∷ 0 ∷ []) (refused [] 0 BadMessage (codes "invalid message format"))
garbled_is = requests.RequestIs.Garbled (λ text e none. none (subst (λ (t : List ℕ). Contains t 0) (sym (one_end text (0 ∷ []) 0 0 (sym e)).0) (0, omega arith, refl)))

garbled : ClientAsks (tally_at 0 0) (asks_two_ends ++ asks_listen) (Query (garbled_at 1) ∷ Query (listen_at 2) ∷ []) Open
garbled =
    asks_body (tally_at 0 0) (0 ∷ 0 ∷ 0 ∷ 6 ∷ []) (0 ∷ 0 ∷ []) asks_listen (refused [] 0 BadMessage (codes "invalid message format")) (Query (listen_at 2) ∷ []) Open refl refl (omega arith) (omega arith)
    garbled_is (omega arith) (omega arith) (listens 1 (omega arith))

-- what is settled, and what has two lines
one_is : RequestIs (body_of (codes "SELECT 1")) (Settles One)
unfolding table cut is_utf8 chars encode
one_is = text_is (codes "SELECT 1") (Settles One) refl refl refl

settled : ClientAsks (tally_at 0 0) (asks_one ++ asks_listen) (Settle One ∷ Query (listen_at 1) ∷ []) Open
settled =
    asks_body (tally_at 0 0) (0 ∷ 0 ∷ 0 ∷ 13 ∷ []) (body_of (codes "SELECT 1")) asks_listen (Settles One) (Query (listen_at 1) ∷ []) Open refl refl (omega arith) (omega arith)
    one_is (omega arith) (omega arith) (listens 0 (omega arith))

discard_is : RequestIs (body_of (codes "DISCARD ALL")) Discards
unfolding table cut is_utf8 chars encode
discard_is = text_is (codes "DISCARD ALL") Discards refl refl refl

discarded : ClientAsks (tally_at 0 0) (asks_discard ++ asks_listen) (Discard 1 ∷ Query (listen_at 3) ∷ []) Open
discarded =
    asks_body (tally_at 0 0) (0 ∷ 0 ∷ 0 ∷ 16 ∷ []) (body_of (codes "DISCARD ALL")) asks_listen Discards (Query (listen_at 3) ∷ []) Open refl refl (omega arith) (omega arith)
    discard_is (omega arith) (omega arith) (listens 2 (omega arith))

-- what seats are asked
pub two_asked : SeatAsks (first_tally NOTE_LINES_MAX) two_clients two_asks
two_asked =
    clients.SeatAsks.Next (tally_at 0 0) two_clients asks_listen (Query (listen_at 1) ∷ []) Open (map Some asks_listen) (Query (listen_at 4) ∷ []) refl (listens 0 (omega arith))
    (clients.SeatAsks.Last (tally_at 3 0) (map Some asks_listen) asks_listen (Query (listen_at 4) ∷ []) Open refl (listens 3 (omega arith)))

-- a seat that is sent a Terminate is asked for an end, and what stands behind it is passed over
pub terminate_asked : SeatAsks (first_tally NOTE_LINES_MAX) (map Some (terminates ++ asks_listen)) (End 1 Plain ∷ [])
terminate_asked = clients.SeatAsks.Last (tally_at 0 0) (map Some (terminates ++ asks_listen)) (terminates ++ asks_listen) [] Left refl (terminated (tally_at 0 0) asks_listen)

-- a length that is too short ends the client
pub length_asked : SeatAsks (first_tally NOTE_LINES_MAX) (map Some too_short) (End 1 Refused ∷ [])
length_asked = clients.SeatAsks.Last (tally_at 0 0) (map Some too_short) too_short [] (Wrong Refused) refl (short_query (tally_at 0 0))

-- a message of the extended protocol ends the client
pub parse_asked : SeatAsks (first_tally NOTE_LINES_MAX) (map Some parses) (End 1 Extended ∷ [])
parse_asked = clients.SeatAsks.Last (tally_at 0 0) (map Some parses) parses [] (Wrong Extended) refl (clients.ClientAsks.Extends (tally_at 0 0) parses refl)

-- behind a garbled text the client goes on
pub garbled_asked : SeatAsks (first_tally NOTE_LINES_MAX) (map Some (asks_two_ends ++ asks_listen)) (Query (garbled_at 1) ∷ Query (listen_at 2) ∷ [])
garbled_asked = clients.SeatAsks.Last (tally_at 0 0) (map Some (asks_two_ends ++ asks_listen)) (asks_two_ends ++ asks_listen) (Query (garbled_at 1) ∷ Query (listen_at 2) ∷ []) Open refl garbled

-- what is settled has no number
pub settled_asked : SeatAsks (first_tally NOTE_LINES_MAX) (map Some (asks_one ++ asks_listen)) (Settle One ∷ Query (listen_at 1) ∷ [])
settled_asked = clients.SeatAsks.Last (tally_at 0 0) (map Some (asks_one ++ asks_listen)) (asks_one ++ asks_listen) (Settle One ∷ Query (listen_at 1) ∷ []) Open refl settled

-- `DISCARD ALL` has two numbers, and the next query the third
pub discard_asked : SeatAsks (first_tally NOTE_LINES_MAX) (map Some (asks_discard ++ asks_listen)) (Discard 1 ∷ Query (listen_at 3) ∷ [])
discard_asked = clients.SeatAsks.Last (tally_at 0 0) (map Some (asks_discard ++ asks_listen)) (asks_discard ++ asks_listen) (Discard 1 ∷ Query (listen_at 3) ∷ []) Open refl discarded
