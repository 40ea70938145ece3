use Rattle.std.proofs.Common.{◌≡◌, [], sym, ◌∙◌, refl, ap}
use Rattle.std.specs.Prelude.{flat_map}
use Rattle.std.proofs.lemmas.List.Elements.{All-nil}
use Rattle.pgn_outlet.specs.Passes.{knows}
use Rattle.pgn_messages.specs.Sayings.{all_told}
use Rattle.pgn_messages.specs.Turns.{IsPlain, asks_of, heard, items_of, said}
use Rattle.pgn_laws.proofs.ToldLaws.{reads_are_heard}
use Rattle.pgn_seats.specs.Serving.{taken}
use Rattle.pgn_part_examples.proofs.SeatLaws.{no-ask, no-end}
use Rattle.pgn_part_examples.proofs.seats.told_first.Goals as goal

pub returns-clause-nothing : goal.returns-clause-nothing
returns-clause-nothing c = λ shape inboxes desk tells lawful inbox none. record {
  lawful = lawful;
  inbox = inbox;
  turns = [];
  plain = All-nil IsPlain;
  more = desk.session.items.items;
  items = refl;
  rest = desk.session.section.lines;
  lines = refl;
  others = taken desk.session.section.no (knows desk.asks);
  asked = refl;
  told = ap all_told none;
}

pub returns-clause-not_asked : goal.returns-clause-not_asked
returns-clause-not_asked c = λ shape inboxes desk tells e told h.
    let asked : asks_of h.turns ≡ [] = no-ask (asks_of h.turns) h.others (sym e ∙ h.asked) in
    let all = reads_are_heard desk.session.section.no (items_of h.turns) (said desk.session.section.no h.turns) (record { turns = h.turns; plain = h.plain; asked = asked; trace = refl; told = refl }) in
    no-end (flat_map heard (items_of h.turns)) (sym told ∙ h.told ∙ all.1)
