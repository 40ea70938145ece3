use Rattle.std.proofs.Common.{◌≡◌, ◌≤◌, List, length, take}
use Rattle.pgn_language.specs.declared.scenario.Section.{Section}
use Rattle.pgn_model.specs.declared.trace.Trace.{Trace}
use Rattle.pgn_model.specs.Legal.{finished_xids}
use Rattle.pgn_reading.specs.Form.{IsReadTrace}
use Rattle.pgn_reading.specs.Blame.{last_line}
use Rattle.pgn_walk.specs.Basis.{Tells}
use Rattle.pgn_check.specs.Walked.{HasCome}
use Rattle.pgn_check.proofs.walker.Walker.go.Given as goal

abbrev pub invariant-loop-item : goal.invariant-loop-item
invariant-loop-item l = record {
  line : l.self.line ≡ last_line l.fn.self.line l.basis.section.now (take l.item-index l.trace.items);
  own : l.self.own ≡ length (finished_xids (take l.item-index l.trace.items));
  few : l.self.own ≤ l.self.line;
  come : (sections : List Section) (traces : List Trace) → Tells l.basis sections traces → IsReadTrace l.basis.section.now l.trace → HasCome l.basis sections traces (take l.item-index l.trace.items) l.self.at;
}
