use Rattle.std.proofs.Common.{true, sym, subst}
use Rattle.pgn_model.specs.declared.item.Item.TheVariants as item
use Rattle.pgn_model.specs.Walk.{Terms}
use Rattle.pgn_ledger.specs.declared.to_show.ToShow.{ToShow}
use Rattle.pgn_walk.specs.Steps.{Moves}
use Rattle.pgn_walk.proofs.FlagLaws.{time_known, time_never, time_on, time_other}
use Rattle.pgn_walk.proofs.standing.Standing.time_out.Goals as goal

pub returns-in_default : goal.returns-in_default
returns-in_default c = λ section format limit journal.
    time_never (record { section = section; settings = record { format = format; limit = limit; patience = c.args.patience } }) journal c.args.self.now c.args.self.now c.args.looks c.in_default.not-Awaiting

pub returns-then-looks-patience : goal.returns-then-looks-patience
returns-then-looks-patience c = λ section format limit journal.
    time_other (record { section = section; settings = record { format = format; limit = limit; patience = c.args.patience } }) journal c.args.self.now c.args.self.now c.args.looks c.if-looks-patience.true

pub returns-then-is_known : goal.returns-then-is_known
returns-then-is_known c = λ section format limit journal.
    time_known (record { section = section; settings = record { format = format; limit = limit; patience = c.args.patience } }) journal c.args.self.now c.args.self.now c.in-Awaiting.flag c.args.looks c.is_known.result c.in-Awaiting.is
    c.is_known.ensures c.if-is_known.true

pub returns : goal.returns
returns c = λ section format limit journal.
    let terms : Terms = record { section = section; settings = record { format = format; limit = limit; patience = c.args.patience } } in
    subst (λ (left : ToShow). Moves terms journal c.args.self.now (item.TimedOut c.args.looks) true (record c.args.self.now { owed = left })) (sym c.set.ensures)
    (time_on terms journal c.args.self.now c.in-Awaiting.flag c.args.looks c.is_known.result c.in-Awaiting.is c.if-looks-patience.false c.is_known.ensures c.if-is_known.false)
