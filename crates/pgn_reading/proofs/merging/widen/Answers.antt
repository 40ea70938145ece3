use Rattle.std.proofs.Common.{List, Option, sym, subst, rules}
use Rattle.pgn_journal.specs.declared.tx.Tx.{Tx}
use Rattle.pgn_reading.specs.Slots.{GoesOnEmpty}
use Rattle.pgn_reading.proofs.SlotLaws.{one-empty}
use Rattle.pgn_reading.proofs.merging.widen.Goals as goal

pub loop-slots-preserved : goal.loop-slots-preserved
loop-slots-preserved c =
    subst (λ (slots : List (Option Tx)). GoesOnEmpty c.args.slots.now.items slots c.args.place) (sym c.in_ok-push.ensures.items)
    (one-empty c.args.slots.now.items c.loop-slots.slots.items c.args.place (search rules) c.loop-slots.invariant)
