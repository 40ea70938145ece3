use Rattle.std.proofs.Common.{◌≡◌, List, [], ◌∷◌, ◌++◌, length, Some, None, sym, ◌∙◌, arith, ap}
use Rattle.std.specs.Prelude.{map}
use Rattle.std.proofs.lemmas.List.{same_from_push}
use Rattle.pgn_language.specs.declared.scenario.ScriptLine.{ScriptLine}
use Rattle.pgn_session.specs.declared.doing.Doing.TheVariants.{Lines, Over}
use Rattle.pgn_requests.specs.declared.settled.Settled.TheVariants.{One}
use Rattle.pgn_messages.specs.declared.asked.Ask.TheVariants.{End, Query, Settle}
use Rattle.pgn_messages.specs.declared.asked.Parting.TheVariants.{Plain}
use Rattle.pgn_messages.specs.Asks.{line_of, seat_quit}
use Rattle.pgn_examples.specs.Turns.{listen}
use Rattle.pgn_messages.specs.Sayings.{all_told}
use Rattle.pgn_messages.specs.Turns.{asks_of, first_telling}
use Rattle.pgn_part_examples.proofs.SeatLaws.{end-said, lines-asked, one-ask, settled-said}
use Rattle.pgn_part_examples.proofs.seats.served.Goals as goal

pub returns-clause-skipped : goal.returns-clause-skipped
returns-clause-skipped c = λ shape known inboxes desk tells e lines h.
    let all : Some (Query listen) ∷ [] ++ None ∷ [] ≡ map Some (asks_of h.turns) ++ None ∷ [] = sym e ∙ h.asked in
    let asked : asks_of h.turns ≡ Query listen ∷ [] = one-ask (Query listen) (asks_of h.turns) (same_from_push (Some (Query listen) ∷ []) (map Some (asks_of h.turns)) None None all).0 in
    let same : seat_quit ∷ [] ≡ line_of listen ∷ seat_quit ∷ [] = sym lines ∙ h.quits.lines ∙ lines-asked h.turns (Query listen ∷ []) asked in
    let count = ap (λ (ls : List ScriptLine). length ls) same in
    omega (arith, count)

pub returns-clause-untold : goal.returns-clause-untold
returns-clause-untold c = λ shape known inboxes desk tells e none h.
    let all : Some (End 1 Plain) ∷ [] ++ None ∷ [] ≡ map Some (asks_of h.turns) ++ None ∷ [] = sym e ∙ h.asked in
    let asked : asks_of h.turns ≡ End 1 Plain ∷ [] = one-ask (End 1 Plain) (asks_of h.turns) (same_from_push (Some (End 1 Plain) ∷ []) (map Some (asks_of h.turns)) None None all).0 in
    end-said desk.session.section.no first_telling h.turns 1 Plain asked (sym h.told ∙ ap all_told none)

pub returns-clause-unsettled : goal.returns-clause-unsettled
returns-clause-unsettled c = λ shape known inboxes desk tells e none h.
    let all : Some (Settle One) ∷ [] ++ None ∷ [] ≡ map Some (asks_of h.turns) ++ None ∷ [] = sym e ∙ h.asked in
    let asked : asks_of h.turns ≡ Settle One ∷ [] = one-ask (Settle One) (asks_of h.turns) (same_from_push (Some (Settle One) ∷ []) (map Some (asks_of h.turns)) None None all).0 in
    settled-said desk.session.section.no first_telling h.turns asked (sym h.told ∙ ap all_told none)

pub returns-clause-asked_behind : goal.returns-clause-asked_behind
returns-clause-asked_behind c = λ shape known inboxes desk tells e h.
    let all : None ∷ [] ++ Some (Query listen) ∷ [] ≡ map Some (asks_of h.turns) ++ None ∷ [] = sym e ∙ h.asked in
    let last : Some (Query listen) ≡ None = (same_from_push (None ∷ []) (map Some (asks_of h.turns)) (Some (Query listen)) None all).1 in
    let no : ⊥ = cc in no

pub returns-clause-goes_on : goal.returns-clause-goes_on
returns-clause-goes_on c = λ shape known inboxes desk tells e h. let both : Lines ≡ Over = sym e ∙ h.over in let no : ⊥ = cc in no
