use Rattle.std.proofs.Common.{◌≡◌, ℕ, ◌+◌, ◌≤◌, Bool, cond, ap, ◌∙◌, arith}
use Rattle.pgn_base.specs.declared.limits.TheConstants.{NOTE_LINES_MAX}
use Rattle.pgn_scenario.specs.Steps.{State, note_of}
use Rattle.pgn_scenario.proofs.TakeLaws.{byte_is, counted-pushed}
use Rattle.pgn_scenario.proofs.so_far.SoFar.push.Goals as goal

pub invariant_of-self : goal.invariant_of-self
invariant_of-self c =
    let count : c.from.result ≡ note_of c.args.act = c.from.ensures ∙ byte_is c.is_note-note.result ∙ ap (λ (b : Bool). let n : ℕ = cond b 1 0 in n) c.is_note-note.ensures in
    let same : c.self.inside.notes ≡ c.args.self.now.notes = ap (λ (s : State). s.notes) c.self.view_is in
    let fits : c.self.inside.notes + c.from.result ≤ NOTE_LINES_MAX = omega (arith, count, same, c.requires) in
    (counted-pushed c.push_line.result c.self.inside.part c.push_line.new.part _ c.self.inside.notes c.from.result count fits c.self.invariant.0 c.push_line.ensures.ok c.push_line.ensures.err, c.self.invariant.1)
