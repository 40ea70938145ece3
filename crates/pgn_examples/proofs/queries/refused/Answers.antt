use Rattle.std.proofs.Common.{◌≡◌, ℕ, List, [], ◌∷◌, ◌++◌, length, None, Some, ap, arith}
use Rattle.pgn_base.specs.declared.limits.TheConstants.{NOTE_LINES_MAX}
use Rattle.pgn_base.specs.declared.command.Command.TheVariants as command
use Rattle.pgn_language.specs.declared.scenario.ScriptLine.{ScriptLine}
use Rattle.pgn_queries.specs.declared.wire_fault.WireFault.TheVariants.{BadText, BadType, Truncated}
use Rattle.pgn_queries.specs.Queries.{first_place}
use Rattle.pgn_examples.specs.Queries.{asks_lf, asks_listen, asks_nothing, asks_notify, asks_two_ends, listen_line, notify_line, query_line, terminates}
use Rattle.pgn_examples.proofs.QueryLaws.{first_text}
use Rattle.pgn_examples.proofs.QueryReadings as bytes
use Rattle.pgn_queries.proofs.OneLaws.{one_reading}
use Rattle.pgn_examples.proofs.queries.refused.Goals as goal

pub returns-clause-a_query_less : goal.returns-clause-a_query_less
returns-clause-a_query_less c h =
    let same = (one_reading (first_place NOTE_LINES_MAX) (asks_listen ++ asks_notify ++ terminates) (listen_line ∷ notify_line ∷ []) (listen_line ∷ []) None None bytes.two_queries h).0 in
    absurd (cc)

pub returns-clause-as_the_end : goal.returns-clause-as_the_end
returns-clause-as_the_end c lines h =
    let same = (one_reading (first_place NOTE_LINES_MAX) asks_two_ends [] lines (Some (BadText 0)) None bytes.two_zero_bytes h).1 in
    absurd (cc)

pub returns-clause-past_a_terminate : goal.returns-clause-past_a_terminate
returns-clause-past_a_terminate c line lines fault h =
    let same = (one_reading (first_place NOTE_LINES_MAX) (terminates ++ asks_listen) [] (line ∷ lines) None fault bytes.behind_a_terminate h).0 in
    absurd (cc)

pub returns-clause-at_the_start : goal.returns-clause-at_the_start
returns-clause-at_the_start c lines h =
    let same = (one_reading (first_place NOTE_LINES_MAX) (asks_listen ++ asks_nothing ++ 80 ∷ []) (listen_line ∷ query_line 2 [] command.Empty ∷ []) lines (Some (BadType 20)) (Some (BadType 0)) bytes.type_behind h).1 in
    absurd (cc)

pub returns-clause-bad_where_it_is_cut : goal.returns-clause-bad_where_it_is_cut
returns-clause-bad_where_it_is_cut c lines h =
    let same = (one_reading (first_place NOTE_LINES_MAX) (asks_nothing ++ 81 ∷ 0 ∷ 0 ∷ 0 ∷ 6 ∷ 59 ∷ []) (query_line 1 [] command.Empty ∷ []) lines (Some (Truncated 6)) (Some (BadText 6)) bytes.cut_within h).1 in
    absurd (cc)

pub returns-clause-an_lf_as_a_text : goal.returns-clause-an_lf_as_a_text
returns-clause-an_lf_as_a_text c lines fault h =
    let same = (one_reading (first_place NOTE_LINES_MAX) asks_lf (query_line 1 [] (command.Bad 0) ∷ []) (query_line 1 (10 ∷ []) (command.Bad 0) ∷ lines) None fault bytes.an_lf h).0 in
    let texts : length {A = ℕ} [] ≡ length {A = ℕ} (10 ∷ []) = ap (λ (all : List ScriptLine). length (first_text all)) same in
    absurd (omega arith)
