use Rattle.pgn_model.specs.Walk.{Terms}
use Rattle.pgn_walk.proofs.AnswerLaws.{measure_early, measure_floor, measure_never, measure_on, measure_other}
use Rattle.pgn_walk.proofs.standing.Standing.measure.Goals as goal

pub returns-in_default : goal.returns-in_default
returns-in_default c = λ patience.
    let terms : Terms = record { section = c.args.section.now; settings = record { format = c.args.ledger.now.format; limit = c.args.limit; patience = patience } } in
    measure_never terms c.args.ledger.now.journal.now c.args.self.now c.args.self.now c.args.usage.now c.in_default.not-Measuring

pub returns-then-not-is_behind : goal.returns-then-not-is_behind
returns-then-not-is_behind c = λ patience.
    let terms : Terms = record { section = c.args.section.now; settings = record { format = c.args.ledger.now.format; limit = c.args.limit; patience = patience } } in
    measure_early terms c.args.ledger.now.journal.now c.args.self.now c.args.self.now c.args.usage.now c.is_behind.result c.is_behind.ensures c.if-not-is_behind.true

pub returns-then-not-shows_usage : goal.returns-then-not-shows_usage
returns-then-not-shows_usage c = λ patience.
    let terms : Terms = record { section = c.args.section.now; settings = record { format = c.args.ledger.now.format; limit = c.args.limit; patience = patience } } in
    measure_other terms c.args.ledger.now.journal.now c.args.self.now c.args.self.now c.args.usage.now c.shows_usage.result c.shows_usage.ensures c.if-not-shows_usage.true

pub returns-then-not-is_floor_for : goal.returns-then-not-is_floor_for
returns-then-not-is_floor_for c = λ patience.
    let terms : Terms = record { section = c.args.section.now; settings = record { format = c.args.ledger.now.format; limit = c.args.limit; patience = patience } } in
    measure_floor terms c.args.ledger.now.journal.now c.args.self.now c.args.self.now c.args.usage.now c.is_floor_for.result c.is_floor_for.ensures c.if-not-is_floor_for.true

pub returns : goal.returns
returns c = λ patience.
    let terms : Terms = record { section = c.args.section.now; settings = record { format = c.args.ledger.now.format; limit = c.args.limit; patience = patience } } in
    measure_on terms c.args.ledger.now.journal.now c.args.self.now c.go_on.new.self c.args.usage.now c.is_behind.result c.shows_usage.result c.is_floor_for.result _ c.is_behind.ensures c.if-not-is_behind.false c.shows_usage.ensures
    c.if-not-shows_usage.false c.is_floor_for.ensures c.if-not-is_floor_for.false c.in-Measuring.is c.go_on.ensures
