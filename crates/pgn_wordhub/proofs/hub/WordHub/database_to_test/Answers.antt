use Rattle.pgn_words.specs.Passes.{view_of}
use Rattle.pgn_wordhub.specs.Passes.{hub_shape}
use Rattle.pgn_wordhub.proofs.DecidingLaws.{loaded_as, tested_by_none, tested_by_own}
use Rattle.pgn_wordhub.proofs.hub.WordHub.database_to_test.Goals as goal

pub returns-then-interest-sent-eq0-clause-view : goal.returns-then-interest-sent-eq0-clause-view
returns-then-interest-sent-eq0-clause-view c = loaded_as (view_of c.args.pass.now) (view_of c.load_interest-interest.new.pass) c.args.seat c.load_interest-interest.result c.load_interest-interest.ensures.view

pub returns-else-interest-sent-eq0-clause-view : goal.returns-else-interest-sent-eq0-clause-view
returns-else-interest-sent-eq0-clause-view c = loaded_as (view_of c.args.pass.now) (view_of c.load_interest-interest.new.pass) c.args.seat c.load_interest-interest.result c.load_interest-interest.ensures.view

pub returns-then-interest-sent-eq0-clause-database : goal.returns-then-interest-sent-eq0-clause-database
returns-then-interest-sent-eq0-clause-database c = tested_by_none (hub_shape c.args.self.now) (view_of c.args.pass.now) (view_of c.load_interest-interest.new.pass) c.args.seat c.load_interest-interest.result c.args.sent
    c.load_interest-interest.ensures.view c.requires.own.setup c.requires.committed c.requires.may c.requires.sent c.if-interest-sent-eq0.true

pub returns-else-interest-sent-eq0-clause-database : goal.returns-else-interest-sent-eq0-clause-database
returns-else-interest-sent-eq0-clause-database c = tested_by_own (hub_shape c.args.self.now) (view_of c.args.pass.now) (view_of c.load_interest-interest.new.pass) c.args.seat c.load_interest-interest.result c.args.sent c.db_of-own.result
    c.load_interest-interest.ensures.view c.requires.own.setup c.requires.committed c.requires.may c.requires.sent c.if-interest-sent-eq0.false c.db_of-own.ensures
