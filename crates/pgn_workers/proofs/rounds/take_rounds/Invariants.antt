use Rattle.pgn_workers.specs.Parts.{part}
use Rattle.pgn_workers.proofs.rounds.take_rounds.Given as goal

abbrev pub invariant-loop : goal.invariant-loop
invariant-loop g l = record {
  goes : g.C.Work.goes l.fn.work (part l.workers l.hand);
  took : g.C.Work.took l.fn.work (part l.fn.workers l.fn.hand) (part l.workers l.hand);
}
