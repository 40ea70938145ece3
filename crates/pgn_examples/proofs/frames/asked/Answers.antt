use Rattle.std.proofs.Common.{ℕ, List, ◌++◌, [], ◌∷◌, None, Some, refl, arith}
use Rattle.std.specs.Prelude.{map}
use Rattle.pgn_examples.specs.Queries.{asks_listen, asks_notify, terminates}
use Rattle.pgn_messages.specs.declared.asked.Ask.TheVariants.{End, Query}
use Rattle.pgn_messages.specs.declared.asked.Parting.TheVariants.{Spent}
use Rattle.pgn_frames.specs.Clients as clients
use Rattle.pgn_frames.specs.Clients.{Open, Left, Cut, Wrong}
use Rattle.pgn_examples.specs.Frames.{listen_at, notify_at}
use Rattle.pgn_examples.proofs.FrameLaws.{cut_query, discard_asked, garbled_asked, length_asked, limited_at, listens, notifies_again, notifies_once, parse_asked, settled_asked, stopped, tally_at, terminate_asked, terminated, two_asked}
use Rattle.pgn_examples.proofs.frames.asked.Goals as goal

pub returns-clause-one_query : goal.returns-clause-one_query
returns-clause-one_query c = clients.SeatAsks.Last (tally_at 0 0) (map Some asks_listen) asks_listen (Query (listen_at 1) ∷ []) Open refl (listens 0 (omega arith))

pub returns-clause-two_of_them : goal.returns-clause-two_of_them
returns-clause-two_of_them c = two_asked

pub returns-clause-by_a_terminate : goal.returns-clause-by_a_terminate
returns-clause-by_a_terminate c = terminate_asked

pub returns-clause-behind_its_end : goal.returns-clause-behind_its_end
returns-clause-behind_its_end c =
    clients.SeatAsks.Next (tally_at 0 0) (map Some (terminates ++ asks_listen) ++ None ∷ map Some asks_listen) (terminates ++ asks_listen) [] Left (map Some asks_listen) (Query (listen_at 3) ∷ []) refl
    (terminated (tally_at 0 0) asks_listen) (clients.SeatAsks.Last (tally_at 2 0) (map Some asks_listen) asks_listen (Query (listen_at 3) ∷ []) Open refl (listens 2 (omega arith)))

pub returns-clause-by_a_length : goal.returns-clause-by_a_length
returns-clause-by_a_length c = length_asked

pub returns-clause-by_a_parse : goal.returns-clause-by_a_parse
returns-clause-by_a_parse c = parse_asked

pub returns-clause-no_byte : goal.returns-clause-no_byte
returns-clause-no_byte c = clients.SeatAsks.Next (tally_at 0 0) (None ∷ []) [] [] Open [] [] refl (stopped (tally_at 0 0)) (clients.SeatAsks.Last (tally_at 2 0) [] [] [] Open refl (stopped (tally_at 2 0)))

pub returns-clause-garbled : goal.returns-clause-garbled
returns-clause-garbled c = garbled_asked

pub returns-clause-no_line : goal.returns-clause-no_line
returns-clause-no_line c = settled_asked

pub returns-clause-two_lines : goal.returns-clause-two_lines
returns-clause-two_lines c = discard_asked

pub returns-clause-notes_go_on : goal.returns-clause-notes_go_on
returns-clause-notes_go_on c =
    clients.SeatAsks.Next (limited_at 1 0 0) (map Some asks_notify ++ None ∷ map Some asks_notify) asks_notify (Query (notify_at 1) ∷ []) Open (map Some asks_notify) (End 4 Spent ∷ []) refl notifies_once
    (clients.SeatAsks.Last (limited_at 1 3 1) (map Some asks_notify) asks_notify [] (Wrong Spent) refl notifies_again)

pub returns-clause-cut_by_its_end : goal.returns-clause-cut_by_its_end
returns-clause-cut_by_its_end c =
    let bytes : List ℕ = 81 ∷ 0 ∷ 0 ∷ 0 ∷ 13 ∷ 76 ∷ 73 ∷ [] in
    clients.SeatAsks.Next (tally_at 0 0) (map Some bytes ++ None ∷ []) bytes [] Cut [] [] refl (cut_query (tally_at 0 0)) (clients.SeatAsks.Last (tally_at 2 0) [] [] [] Open refl (stopped (tally_at 2 0)))

pub returns-clause-cut : goal.returns-clause-cut
returns-clause-cut c =
    clients.SeatAsks.Last (tally_at 0 0) (map Some (81 ∷ 0 ∷ 0 ∷ 0 ∷ 13 ∷ 76 ∷ 73 ∷ [])) (81 ∷ 0 ∷ 0 ∷ 0 ∷ 13 ∷ 76 ∷ 73 ∷ []) [] Cut refl (cut_query (tally_at 0 0))
