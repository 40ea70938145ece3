use Rattle.pgn_reading.proofs.WholeLaws.{raised-in_all, stood-in_all, found-in_all, named-in_all}
use Rattle.pgn_laws.proofs.reading.borne_out.Goals as goal

pub returns-clause-raised : goal.returns-clause-raised
returns-clause-raised c = raised-in_all

pub returns-clause-stood : goal.returns-clause-stood
returns-clause-stood c = stood-in_all

pub returns-clause-found : goal.returns-clause-found
returns-clause-found c = found-in_all

pub returns-clause-named : goal.returns-clause-named
returns-clause-named c = named-in_all
