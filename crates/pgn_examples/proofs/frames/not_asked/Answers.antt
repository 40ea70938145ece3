use Rattle.std.proofs.Common.{ℕ, List, [], ◌∷◌, ◌++◌, Some, get_or, length, refl, ap}
use Rattle.std.specs.Prelude.{map}
use Rattle.pgn_base.specs.declared.limits.TheConstants.{NOTE_LINES_MAX}
use Rattle.pgn_examples.specs.Queries.{asks_listen, asks_two_ends, terminates}
use Rattle.pgn_requests.specs.declared.settled.Settled.TheVariants.{One}
use Rattle.pgn_messages.specs.declared.asked.Ask.{Ask}
use Rattle.pgn_messages.specs.declared.asked.Ask.TheVariants.{Discard, End, Query, Settle}
use Rattle.pgn_messages.specs.declared.asked.Parting.TheVariants.{Extended, Plain, Refused}
use Rattle.pgn_frames.specs.Clients.{first_tally}
use Rattle.pgn_examples.specs.Frames.{asks_one, garbled_at, listen_at, parses, too_short, two_asks, two_clients}
use Rattle.pgn_laws.proofs.AskLaws.{one_asking}
use Rattle.pgn_examples.proofs.FrameLaws.{apart, garbled_asked, length_asked, parse_asked, settled_asked, terminate_asked, two_asked}
use Rattle.pgn_examples.proofs.frames.not_asked.Goals as goal

-- the number of a line that is asked
abbrev line_in : Ask → ℕ
line_in (Query query) = query.line
line_in (Settle settled) = 0
line_in (Discard line) = line
line_in (End line parting) = line

abbrev line_at : ℕ → List Ask → ℕ
line_at k asks = line_in (get_or asks k (End 0 Plain))

pub returns-clause-query_left_out : goal.returns-clause-query_left_out
returns-clause-query_left_out c h =
    let same = one_asking (first_tally NOTE_LINES_MAX) two_clients two_asks (Query (listen_at 1) ∷ End 2 Plain ∷ []) two_asked h in
    apart 3 2 refl (ap length same)

pub returns-clause-numbers_anew : goal.returns-clause-numbers_anew
returns-clause-numbers_anew c h =
    let same = one_asking (first_tally NOTE_LINES_MAX) two_clients two_asks (Query (listen_at 1) ∷ End 2 Plain ∷ Query (listen_at 1) ∷ []) two_asked h in
    apart 4 1 refl (ap (line_at 2) same)

pub returns-clause-fault_as_plain : goal.returns-clause-fault_as_plain
returns-clause-fault_as_plain c h =
    let same = one_asking (first_tally NOTE_LINES_MAX) (map Some too_short) (End 1 Refused ∷ []) (End 1 Plain ∷ []) length_asked h in
    absurd (cc)

pub returns-clause-parse_as_a_fault : goal.returns-clause-parse_as_a_fault
returns-clause-parse_as_a_fault c h =
    let same = one_asking (first_tally NOTE_LINES_MAX) (map Some parses) (End 1 Extended ∷ []) (End 1 Refused ∷ []) parse_asked h in
    absurd (cc)

pub returns-clause-past_a_terminate : goal.returns-clause-past_a_terminate
returns-clause-past_a_terminate c asks h =
    let same = one_asking (first_tally NOTE_LINES_MAX) (map Some (terminates ++ asks_listen)) (End 1 Plain ∷ []) (Query (listen_at 1) ∷ asks) terminate_asked h in
    absurd (cc)

pub returns-clause-garbled_as_an_end : goal.returns-clause-garbled_as_an_end
returns-clause-garbled_as_an_end c h =
    let same = one_asking (first_tally NOTE_LINES_MAX) (map Some (asks_two_ends ++ asks_listen)) (Query (garbled_at 1) ∷ Query (listen_at 2) ∷ []) (End 1 Refused ∷ []) garbled_asked h in
    apart 2 1 refl (ap length same)

pub returns-clause-settled_with_a_line : goal.returns-clause-settled_with_a_line
returns-clause-settled_with_a_line c h =
    let same = one_asking (first_tally NOTE_LINES_MAX) (map Some (asks_one ++ asks_listen)) (Settle One ∷ Query (listen_at 1) ∷ []) (Settle One ∷ Query (listen_at 2) ∷ []) settled_asked h in
    apart 1 2 refl (ap (line_at 1) same)
