use Rattle.std.proofs.Common.{◌≡◌, ◌-◌, List, ap, insert, length, rules}
use Rattle.pgn_language.specs.declared.scenario.ScriptLine.{ScriptLine}
use Rattle.pgn_session.proofs.FeedLaws.{feed-rested}
use Rattle.pgn_session.proofs.session.Session.feed.Goals as goal

pub returns-clause-rested : goal.returns-clause-rested
returns-clause-rested g c = λ shape h.
    let s = c.args.self.now in
    let lines : List ScriptLine = c.insert.new.self in
    let is : lines ≡ insert s.section.lines (length s.section.lines - 1) c.args.line = search rules in
    feed-rested shape g.P.PassView.known s (record s { section = record s.section { lines = lines } }) c.args.line c.requires.quits c.requires.before_last c.requires.place c.requires.goes_on c.requires.few
    (ap (λ (ls : List ScriptLine). record s { section = record s.section { lines = ls } }) is) h
