use Rattle.std.proofs.Common.{◌≡◌, ℕ, List, [], ◌∷◌, Some, length, refl, sym, ◌∙◌, arith, ap, append-nil}
use Rattle.std.specs.Prelude.{map}
use Rattle.pgn_language.specs.declared.scenario.ScriptLine.{ScriptLine}
use Rattle.pgn_language.specs.Inputs.{note_lines_of}
use Rattle.pgn_session.specs.declared.doing.Doing.TheVariants.{Lines, Over}
use Rattle.pgn_requests.specs.Settings.{Kept, fresh}
use Rattle.pgn_messages.specs.declared.asked.Ask.TheVariants.{End, Settle}
use Rattle.pgn_messages.specs.declared.asked.Parting.TheVariants.{Plain}
use Rattle.pgn_messages.specs.Asks.{line_of, seat_quit}
use Rattle.pgn_examples.specs.Turns.{listen, notify}
use Rattle.pgn_messages.specs.Turns.{asks_of, first_telling}
use Rattle.pgn_part_examples.specs.Seats.{named, names}
use Rattle.pgn_part_examples.proofs.SeatLaws.{left-fresh, lines-asked, named-some, no-ask, one-ask, two-asks, unset}
use Rattle.pgn_seats.proofs.SeatLaws.{serves-begins}
use Rattle.pgn_part_examples.proofs.seats.serves.Goals as goal

pub returns-clause-begins : goal.returns-clause-begins
returns-clause-begins c = λ shape known inboxes desk tells h none. serves-begins (λ (pass : ℕ). Unit {0}) shape known inboxes desk tells h none

pub returns-clause-not_asked : goal.returns-clause-not_asked
returns-clause-not_asked c = λ shape known inboxes desk tells e lines h.
    let asked : asks_of h.turns ≡ [] = no-ask (asks_of h.turns) [] (sym e ∙ h.asked ∙ sym (append-nil (map Some (asks_of h.turns)))) in
    let same : line_of listen ∷ seat_quit ∷ [] ≡ seat_quit ∷ [] = sym lines ∙ h.in_turns.lines ∙ lines-asked h.turns [] asked in
    let count = ap (λ (ls : List ScriptLine). length ls) same in
    omega (arith, count)

pub returns-clause-uncounted : goal.returns-clause-uncounted
returns-clause-uncounted c = λ shape known inboxes desk tells e lines h.
    let count : 0 ≡ note_lines_of (line_of notify ∷ seat_quit ∷ []) = sym e ∙ h.counted ∙ ap note_lines_of lines in
    omega (arith, count)

pub returns-clause-unset : goal.returns-clause-unset
returns-clause-unset c = λ shape known inboxes desk tells e settings h.
    let asked : asks_of h.turns ≡ [] = no-ask (asks_of h.turns) [] (sym e ∙ h.asked ∙ sym (append-nil (map Some (asks_of h.turns)))) in
    let same : named ≡ fresh = sym settings ∙ h.settings ∙ unset first_telling h.turns asked in
    let count = ap (λ (k : Kept). length k.now) same in
    omega (arith, count)

pub returns-clause-inherited : goal.returns-clause-inherited
returns-clause-inherited c = λ shape known inboxes desk tells e settings h.
    let asked : asks_of h.turns ≡ Settle names ∷ End 1 Plain ∷ [] = two-asks (Settle names) (End 1 Plain) (asks_of h.turns) (sym e ∙ h.asked) in
    let same : named ≡ fresh = sym settings ∙ h.settings ∙ left-fresh first_telling h.turns names 1 Plain asked in
    let count = ap (λ (k : Kept). length k.now) same in
    omega (arith, count)

pub returns-clause-lost : goal.returns-clause-lost
returns-clause-lost c = λ shape known inboxes desk tells e settings h.
    named-some first_telling h.turns refl h.in_turns.plain (one-ask (Settle names) (asks_of h.turns) (sym e ∙ h.asked)) (sym h.settings ∙ settings)

pub returns-clause-over : goal.returns-clause-over
returns-clause-over c = λ shape known inboxes desk tells e h. let both : Lines ≡ Over = sym h.is_open.between ∙ e in let no : ⊥ = cc in no
