use Rattle.std.proofs.Common.{◌≡◌, List, [], ◌∷◌, ◌++◌, None, ap, sym, subst, refl, ◌∙◌}
use Rattle.std.proofs.lemmas.List.{same_from_push}
use Rattle.pgn_base.specs.declared.limits.TheConstants.{NOTE_LINES_MAX}
use Rattle.pgn_language.specs.declared.scenario.ScriptLine.{ScriptLine}
use Rattle.pgn_queries.specs.Queries.{first_place, queries}
use Rattle.pgn_examples.specs.Queries.{asks_listen, asks_notify, listen_line, notify_line}
use Rattle.pgn_examples.proofs.QueryReadings as bytes
use Rattle.pgn_queries.proofs.OneLaws.{one_reading}
use Rattle.pgn_examples.specs.Messages.{quits}
use Rattle.pgn_part_examples.proofs.wire.asked.Goals as goal

pub returns-clause-all : goal.returns-clause-all
returns-clause-all c = record { lines = listen_line ∷ notify_line ∷ []; split = refl; reads = bytes.ended_by_the_source }

pub returns-clause-one_left_out : goal.returns-clause-one_left_out
returns-clause-one_left_out c = λ h.
    let lines : listen_line ∷ [] ≡ h.lines = (same_from_push (listen_line ∷ []) h.lines quits quits h.split).0 in
    let read = subst (λ (some : List ScriptLine). queries NOTE_LINES_MAX (asks_listen ++ asks_notify) some None) (sym lines) h.reads in
    let same : listen_line ∷ notify_line ∷ [] ≡ listen_line ∷ [] =
    (one_reading (first_place NOTE_LINES_MAX) (asks_listen ++ asks_notify) (listen_line ∷ notify_line ∷ []) (listen_line ∷ []) None None bytes.ended_by_the_source read).0 in
    absurd (cc)

pub returns-clause-first : goal.returns-clause-first
returns-clause-first c = record { lines = listen_line ∷ []; split = refl; more = notify_line ∷ []; fault = None; reads = bytes.ended_by_the_source }

pub returns-clause-never_asked : goal.returns-clause-never_asked
returns-clause-never_asked c = λ h.
    let lines : listen_line ∷ notify_line ∷ [] ≡ h.lines = (same_from_push (listen_line ∷ notify_line ∷ []) h.lines quits quits h.split).0 in
    let same : listen_line ∷ [] ≡ h.lines ++ h.more = (one_reading (first_place NOTE_LINES_MAX) asks_listen (listen_line ∷ []) (h.lines ++ h.more) None h.fault bytes.one_query h.reads).0 in
    let all : listen_line ∷ [] ≡ listen_line ∷ notify_line ∷ h.more = same ∙ ap (λ (some : List ScriptLine). some ++ h.more) (sym lines) in
    absurd (cc)
