use Rattle.std.proofs.Common.{◌≡◌, ◌&&◌, List, true, false, is_none, sym, ap, ◌∙◌, subst}
use Rattle.std.specs.List.{list_any}
use Rattle.std.proofs.lemmas.Result.{on_ok_weaker}
use Rattle.pgn_base.specs.declared.action.Action.{Action}
use Rattle.pgn_answers.specs.Savepoints.{is_listen}
use Rattle.pgn_ledger.specs.declared.to_show.ToShow.{ToShow}
use Rattle.pgn_ledger.specs.ToShow.{ending_of}
use Rattle.pgn_walk.specs.Standing.{Leads, commits}
use Rattle.pgn_walk.proofs.CommitLaws.{enlists, goes_on}
use Rattle.pgn_walk.proofs.standing.Standing.commit.Goals as goal

pub returns-then-is_to_enlist : goal.returns-then-is_to_enlist
returns-then-is_to_enlist c =
    let old = c.args.self.now in
    let test : (list_any is_listen c.args.actions && is_none old.mark) ≡ true =
    ap (λ (them : List Action). list_any is_listen them && is_none old.mark) (sym c.as_slice.ensures) ∙ sym c.is_to_enlist.ensures ∙ c.if-is_to_enlist.true in
    subst (λ (left : ToShow). Leads old (record old { owed = left }) (λ s. commits s c.args.actions c.args.notes (ending_of c.args.ending))) (sym c.set.ensures)
    (enlists old c.args.actions c.args.notes c.args.ending test)

pub returns : goal.returns
returns c =
    let test : (list_any is_listen c.args.actions && is_none c.args.self.now.mark) ≡ false =
    ap (λ (them : List Action). list_any is_listen them && is_none c.args.self.now.mark) (sym c.as_slice.ensures) ∙ sym c.is_to_enlist.ensures ∙ c.if-is_to_enlist.false in
    on_ok_weaker c.queue_or_settle.result (goes_on c.args.self.now c.queue_or_settle.new.self c.args.actions c.args.notes c.args.ending test) c.queue_or_settle.ensures
