use Rattle.std.proofs.Common.{rules, List, sym, ap, ◌∙◌, subst}
use Rattle.pgn_lanes.specs.Behind.{Marks, plain_behind}
use Rattle.pgn_words.specs.declared.view.View.{View}
use Rattle.pgn_words.specs.declared.view.Verdict.{Verdict}
use Rattle.pgn_words.specs.Passes.{view_of, known_of}
use Rattle.pgn_wordhub.specs.Wakes.{Names}
use Rattle.pgn_wordhub.proofs.WakeLaws.{marks_on, names_from, decided}
use Rattle.pgn_wordhub.proofs.hub.WordHub.decide.Goals as goal

pub returns-clause-view : goal.returns-clause-view
returns-clause-view c = decided (view_of c.args.pass.now) (view_of c.databases_to_test.new.pass) (view_of c.look_to_wake.new.pass) _ c.databases_to_test.ensures.view c.look_to_wake.ensures.view

pub returns-clause-named : goal.returns-clause-named
returns-clause-named c =
    let answers = plain_behind c.args.ending.now.head (known_of c.databases_to_test.new.pass).db c.look_to_wake.new.places c.databases_to_test.new.owns in
    let marks : Marks c.behind.new.mask answers =
    marks_on c.behind.new.mask _ c.args.ending.now.head _ (known_of c.databases_to_test.new.pass).db _ c.look_to_wake.new.places _ c.databases_to_test.new.owns c.behind.ensures (search rules) (search rules) (search rules) (search rules) in
    subst (λ (l : List Verdict). Names c.behind.new.mask l) (sym (ap (λ (u : View). u.verdicts) c.look_to_wake.ensures.view)) (names_from c.behind.new.mask answers marks)

pub returns-clause-own : goal.returns-clause-own
returns-clause-own c = c.look_to_wake.ensures.own

pub returns-clause-each : goal.returns-clause-each
returns-clause-each c = c.look_to_wake.ensures.long

pub look_to_wake-requires-clause-concerned : goal.look_to_wake-requires-clause-concerned
look_to_wake-requires-clause-concerned c = c.databases_to_test.ensures.concerned

pub look_to_wake-requires-clause-long : goal.look_to_wake-requires-clause-long
look_to_wake-requires-clause-long c = c.requires.long

pub look_to_wake-requires-clause-each : goal.look_to_wake-requires-clause-each
look_to_wake-requires-clause-each c = c.databases_to_test.ensures.same_length ∙ c.requires.each
