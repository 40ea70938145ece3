use Rattle.std.proofs.Common.{◌≡◌, List, [], ◌∷◌, length, sym, ◌∙◌, refl, arith, ap}
use Rattle.std.proofs.lemmas.List.Elements.{All-nil, All-cons}
use Rattle.pgn_language.specs.declared.scenario.ScriptLine.{ScriptLine}
use Rattle.pgn_model.specs.declared.item.Item.{Item}
use Rattle.pgn_model.specs.declared.item.Item.TheVariants.{Read}
use Rattle.pgn_requests.specs.declared.settled.Settled.TheVariants.{One}
use Rattle.pgn_messages.specs.declared.asked.Ask.TheVariants.{Discard, Query, Settle}
use Rattle.pgn_messages.specs.Asks.{discard_line, line_of, seat_quit, unlisten_line}
use Rattle.pgn_examples.specs.Turns.{idle_items, listen, notify, sent_by}
use Rattle.pgn_messages.specs.Turns.{IsPlain, IsRead, Settles, items_of}
use Rattle.pgn_part_examples.specs.Seats.{begun, discarded, heard_one, listened}
use Rattle.pgn_part_examples.proofs.SeatLaws.{lines-asked}
use Rattle.pgn_part_examples.proofs.seats.in_turns.Goals as goal

pub returns-clause-heard : goal.returns-clause-heard
returns-clause-heard c = λ s e f. record {
  plain = All-cons IsPlain listened (heard_one ∷ []) refl (All-cons IsPlain heard_one [] (All-cons IsRead (Read 3 4 (sent_by 1002 ∷ [])) [] tt (All-nil IsRead)) (All-nil IsPlain));
  lines = e;
  items = f;
}

pub returns-clause-settled : goal.returns-clause-settled
returns-clause-settled c = λ s e f. record {
  plain = All-cons IsPlain listened (Settles One ∷ begun ∷ []) refl (All-cons IsPlain (Settles One) (begun ∷ []) tt (All-cons IsPlain begun [] refl (All-nil IsPlain)));
  lines = e;
  items = f;
}

pub returns-clause-discarded : goal.returns-clause-discarded
returns-clause-discarded c = λ s e f. record {
  plain = All-cons IsPlain listened (begun ∷ discarded ∷ []) refl (All-cons IsPlain begun (discarded ∷ []) refl (All-cons IsPlain discarded [] (refl, refl) (All-nil IsPlain)));
  lines = e;
  items = f;
}

pub returns-clause-skipped : goal.returns-clause-skipped
returns-clause-skipped c = λ s turns e asked h.
    let same : line_of listen ∷ line_of notify ∷ seat_quit ∷ [] ≡ line_of listen ∷ seat_quit ∷ [] = sym e ∙ h.lines ∙ lines-asked turns (Query listen ∷ []) asked in
    let count = ap (λ (ls : List ScriptLine). length ls) same in
    omega (arith, count)

pub returns-clause-no_quit : goal.returns-clause-no_quit
returns-clause-no_quit c = λ s turns e asked h.
    let same : line_of listen ∷ [] ≡ line_of listen ∷ seat_quit ∷ [] = sym e ∙ h.lines ∙ lines-asked turns (Query listen ∷ []) asked in
    let count = ap (λ (ls : List ScriptLine). length ls) same in
    omega (arith, count)

pub returns-clause-lined : goal.returns-clause-lined
returns-clause-lined c = λ s turns e asked h.
    let same : line_of listen ∷ seat_quit ∷ [] ≡ seat_quit ∷ [] = sym e ∙ h.lines ∙ lines-asked turns (Settle One ∷ []) asked in
    let count = ap (λ (ls : List ScriptLine). length ls) same in
    omega (arith, count)

pub returns-clause-listens_on : goal.returns-clause-listens_on
returns-clause-listens_on c = λ s turns e asked h.
    let same : discard_line 1 ∷ seat_quit ∷ [] ≡ discard_line 1 ∷ unlisten_line 2 ∷ seat_quit ∷ [] = sym e ∙ h.lines ∙ lines-asked turns (Discard 1 ∷ []) asked in
    let count = ap (λ (ls : List ScriptLine). length ls) same in
    omega (arith, count)

pub returns-clause-left_out : goal.returns-clause-left_out
returns-clause-left_out c = λ s e h.
    let same : idle_items ≡ items_of (listened ∷ []) = sym e ∙ h.items in
    let count = ap (λ (is : List Item). length is) same in
    omega (arith, count)
