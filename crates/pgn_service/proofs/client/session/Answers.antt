use Rattle.std.proofs.Common.{◌∙◌}
use Rattle.pgn_service.proofs.ClientLaws.{opened-begins}
use Rattle.pgn_service.proofs.client.session.Goals as goal

pub returns-clause-rested : goal.returns-clause-rested
returns-clause-rested g c = c.in_ok-session.ensures.rested

pub returns-clause-pass : goal.returns-clause-pass
returns-clause-pass g c = c.in_ok-session.ensures.begins.0

pub returns-clause-section : goal.returns-clause-section
returns-clause-section g c = c.in_ok-session.ensures.begins.1 ∙ c.in-Ok.ensures

pub returns-clause-plan : goal.returns-clause-plan
returns-clause-plan g c = c.in_ok-session.ensures.begins.2

pub returns-clause-patience : goal.returns-clause-patience
returns-clause-patience g c = c.in_ok-session.ensures.begins.3

pub returns-clause-begins : goal.returns-clause-begins
returns-clause-begins g c =
    let begins = c.in_ok-session.ensures.begins in
    opened-begins c.in_ok-session.session (begins.1 ∙ c.in-Ok.ensures) begins.4 begins.5 begins.6
