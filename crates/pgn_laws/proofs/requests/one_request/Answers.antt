use Rattle.pgn_requests.proofs.RequestLaws as law
use Rattle.pgn_laws.proofs.requests.one_request.Goals as goal

pub returns-clause-some : goal.returns-clause-some
returns-clause-some c = law.each_request

pub returns-clause-one : goal.returns-clause-one
returns-clause-one c = law.one_request
