use Rattle.std.proofs.Common.{◌∙◌, refl, rules}
use Rattle.pgn_seats.proofs.ResultLaws.{on_err}
use Rattle.pgn_seats.proofs.WorkLaws.{few-notes, more-notes, open-quits, runs-on, same-notes}
use Rattle.pgn_seats.proofs.lines.put_line.Goals as goal

pub feed-requires-clause-quits : goal.feed-requires-clause-quits
feed-requires-clause-quits g c = c.requires.is_open.ends

pub feed-requires-clause-before_last : goal.feed-requires-clause-before_last
feed-requires-clause-before_last g c = open-quits c.args.desk.now.session c.requires.is_open

pub feed-requires-clause-place : goal.feed-requires-clause-place
feed-requires-clause-place g c = c.requires.is_open.between

pub feed-requires-clause-goes_on : goal.feed-requires-clause-goes_on
feed-requires-clause-goes_on g c = runs-on c.args.line c.requires.runs

pub feed-requires-clause-few : goal.feed-requires-clause-few
feed-requires-clause-few g c =
    few-notes c.args.line c.args.desk.now.session.section.lines c.notes_in-more.result c.args.desk.now.notes c.args.desk.now.session.section.note_lines c.notes_in-more.ensures c.requires.counted (c.have_room.ensures (search rules))

pub returns-in_err-feed : goal.returns-in_err-feed
returns-in_err-feed g c = record {
  same = refl;
  fed = search rules;
  unchanged = on_err c.from_residual.result _ c.in_err-feed.ensures.unchanged;
  rested = λ shape h. search rules;
  counted = c.requires.counted ∙ same-notes c.args.desk.now.session c.feed.new.self c.in_err-feed.ensures.unchanged;
}

pub returns : goal.returns
returns g c = record {
  same = refl;
  fed = c.in_ok-feed.ensures.fed;
  unchanged = search rules;
  rested = c.in_ok-feed.ensures.rested;
  counted = more-notes c.args.desk.now.session c.feed.new.self c.args.line c.notes_in-more.result c.args.desk.now.notes c.requires.is_open c.notes_in-more.ensures c.requires.counted c.in_ok-feed.ensures.fed;
}
