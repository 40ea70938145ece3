-- Frames, and what seats are asked by them.
use Rattle.std.specs.Prelude.{ℕ, List, [], ◌∷◌, ◌++◌, Option, Some, None, codes, map}
use Rattle.pgn_base.specs.declared.command.Command.TheVariants as command
use Rattle.pgn_requests.specs.declared.complaint.Complaint.{Complaint}
use Rattle.pgn_requests.specs.declared.complaint.Cause.TheVariants.{BadMessage}
use Rattle.pgn_requests.specs.declared.complaint.Wording.TheVariants as wording
use Rattle.pgn_messages.specs.declared.asked.Asked.{Asked}
use Rattle.pgn_messages.specs.declared.asked.Ask.{Ask}
use Rattle.pgn_messages.specs.declared.asked.Ask.TheVariants.{Query, End}
use Rattle.pgn_messages.specs.declared.asked.Parting.TheVariants.{Plain}
use Rattle.pgn_examples.specs.Queries.{asks_listen}
use Rattle.pgn_frames.specs.Frames.{Frame}

-- two bytes of seat 1, the end of the client of seat 2, and one more byte of seat 1
abbrev pub three_frames : List ℕ
three_frames = 0 ∷ 1 ∷ 0 ∷ 2 ∷ 81 ∷ 0 ∷ 0 ∷ 2 ∷ 0 ∷ 0 ∷ 0 ∷ 1 ∷ 0 ∷ 1 ∷ 88 ∷ []

abbrev pub frame_of : ℕ → List ℕ → Frame
frame_of seat bytes = record { seat = seat; bytes = bytes }

abbrev pub frames_of_three : List Frame
frames_of_three = frame_of 1 (81 ∷ 0 ∷ []) ∷ frame_of 2 [] ∷ frame_of 1 (88 ∷ []) ∷ []

-- a frame of seat 3, of seat 0, and of seat 1 with one byte less than it says
abbrev pub of_seat_3 : List ℕ
of_seat_3 = 0 ∷ 3 ∷ 0 ∷ 0 ∷ []

abbrev pub of_seat_0 : List ℕ
of_seat_0 = 0 ∷ 0 ∷ 0 ∷ 0 ∷ []

abbrev pub cut_frame : List ℕ
cut_frame = 0 ∷ 1 ∷ 0 ∷ 2 ∷ 81 ∷ []

-- `LISTEN c`, as the line of this number
abbrev pub listen_at : ℕ → Asked
listen_at line = record { line = line; text = codes "LISTEN c"; command = command.Listen (codes "c"); wording = wording.Plain }

-- `NOTIFY c, 'x'` likewise
abbrev pub notify_at : ℕ → Asked
notify_at line = record { line = line; text = codes "NOTIFY c, 'x'"; command = command.Notify (record { channel = codes "c"; payload = codes "x" }); wording = wording.Plain }

-- a Query whose body is garbled, likewise
abbrev pub garbled_at : ℕ → Asked
garbled_at line =
    let complaint : Complaint = record { cause = BadMessage; text = codes "invalid message format" } in record { line = line; text = []; command = command.Bad 0; wording = wording.Refused complaint }

-- a Query `SELECT 1`, and one `DISCARD ALL`
abbrev pub asks_one : List ℕ
asks_one = 81 ∷ 0 ∷ 0 ∷ 0 ∷ 13 ∷ (codes "SELECT 1" ++ 0 ∷ [])

abbrev pub asks_discard : List ℕ
asks_discard = 81 ∷ 0 ∷ 0 ∷ 0 ∷ 16 ∷ (codes "DISCARD ALL" ++ 0 ∷ [])

-- a Query that is too short, and the letter of a Parse
abbrev pub too_short : List ℕ
too_short = 81 ∷ 0 ∷ 0 ∷ 0 ∷ 4 ∷ []

abbrev pub parses : List ℕ
parses = 80 ∷ []

-- a client asks `LISTEN c` and ends, and the next one asks it too
abbrev pub two_clients : List (Option ℕ)
two_clients = map Some asks_listen ++ None ∷ map Some asks_listen

abbrev pub two_asks : List Ask
two_asks = Query (listen_at 1) ∷ End 2 Plain ∷ Query (listen_at 4) ∷ []
