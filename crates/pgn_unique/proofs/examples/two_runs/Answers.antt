use Rattle.pgn_unique.proofs.ExampleLaws.{sound, received-legal, missed-legal, received-shown, missed-shown, two-texts}
use Rattle.pgn_unique.proofs.examples.two_runs.Goals as goal

pub returns-clause-sound : goal.returns-clause-sound
returns-clause-sound c = sound

pub returns-clause-received : goal.returns-clause-received
returns-clause-received c = received-legal

pub returns-clause-missed : goal.returns-clause-missed
returns-clause-missed c = missed-legal

pub returns-clause-received_shown : goal.returns-clause-received_shown
returns-clause-received_shown c = received-shown

pub returns-clause-missed_shown : goal.returns-clause-missed_shown
returns-clause-missed_shown c = missed-shown

pub returns-clause-two_texts : goal.returns-clause-two_texts
returns-clause-two_texts c = two-texts
