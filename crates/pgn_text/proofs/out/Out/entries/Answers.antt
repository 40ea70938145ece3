use Rattle.std.proofs.Common.{◌+◌, List, ap, arith}
use Rattle.std.proofs.lemmas.List.{drop_all}
use Rattle.pgn_base.specs.declared.limits.TheConstants.{FIRST_XID}
use Rattle.pgn_journal.specs.declared.tx.Tx.{Tx}
use Rattle.pgn_model.specs.Text.{entries_lines, joined}
use Rattle.pgn_text.proofs.PutsLaws.{Toward-all, Toward-entry, Toward-none}
use Rattle.pgn_text.proofs.out.Out.entries.Goals as goal

pub loop-k-init : goal.loop-k-init
loop-k-init g c = Toward-none g.K.Sink.held g.K.Sink.faults c.args.sink.now c.args.self.now _

pub loop-k-preserved : goal.loop-k-preserved
loop-k-preserved g c = Toward-entry c.args.journal.now c.loop-k.k c.index-journal-k.result c.loop-k.invariant c.index-journal-k.is (omega arith) (rw c.from.ensures at c.entry.ensures)

pub returns : goal.returns
returns g c = Toward-all c.loop-k.invariant (ap (λ (txs : List Tx). joined (entries_lines (FIRST_XID + c.loop-k.k) txs)) (drop_all c.loop-k.k c.args.journal.now (omega arith)))
