use Rattle.std.proofs.Common.{◌≡◌, ◌++◌, map}
use Rattle.pgn_threads.specs.Parts.{part_of, trace_of}
use Rattle.pgn_threads.proofs.opening.log_each.Given as goal

abbrev pub invariant-loop-session : goal.invariant-loop-session
invariant-loop-session g l =
    (l.passes.items ≡ map (λ s. s.pass) l.yielded) × (l.traces.items ≡ map (λ s. trace_of (part_of g.P.PassView.known s)) l.yielded) × (l.sections.items ≡ map (λ s. s.section) l.yielded)
    × (l.yielded ++ l.session-iterator.rest.items ≡ l.fn.sessions.items)
