use Rattle.std.proofs.Common.{◌≡◌, true, false, sym, ap, ◌∙◌}
use Rattle.pgn_base.specs.declared.command.Command.TheVariants as command
use Rattle.pgn_requests.specs.Phrases as told
use Rattle.pgn_statements.specs.Lexemes.{all_meant}
use Rattle.pgn_statements.proofs.PlainLaws.{pick_no}
use Rattle.pgn_statements.proofs.AskLaws.{IfOk-same, pick_yes}
use Rattle.pgn_statements.proofs.asking.begin.Goals as goal

pub returns-then-are_modes : goal.returns-then-are_modes
returns-then-are_modes c =
    let lexemes = all_meant c.args.lexemes.now in
    let test : told.are_modes 24 (told.past_work lexemes) ≡ true = ap (told.are_modes 24) (sym c.past_work.ensures) ∙ sym c.are_modes.ensures ∙ c.if-are_modes.true in
    IfOk-same c.commanded.result (told.commanded c.args.text.now command.Begin) (told.begin_asks c.args.text.now c.args.at lexemes)
    (sym (pick_yes (told.are_modes 24 (told.past_work lexemes)) (told.commanded c.args.text.now command.Begin) (told.unread c.args.text.now c.args.at) test)) c.commanded.ensures

pub returns : goal.returns
returns c =
    let lexemes = all_meant c.args.lexemes.now in
    let test : told.are_modes 24 (told.past_work lexemes) ≡ false = ap (told.are_modes 24) (sym c.past_work.ensures) ∙ sym c.are_modes.ensures ∙ c.if-are_modes.false in
    IfOk-same c.unread.result (told.unread c.args.text.now c.args.at) (told.begin_asks c.args.text.now c.args.at lexemes)
    (sym (pick_no (told.are_modes 24 (told.past_work lexemes)) (told.commanded c.args.text.now command.Begin) (told.unread c.args.text.now c.args.at) test)) c.unread.ensures
