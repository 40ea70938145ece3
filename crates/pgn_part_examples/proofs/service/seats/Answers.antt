use Rattle.std.proofs.Common.{◌++◌}
use Rattle.std.specs.Prelude.{map, Some}
use Rattle.pgn_examples.specs.Turns.{listen_bytes, other_bytes}
use Rattle.pgn_part_examples.proofs.ServiceLaws.{no-half_frame, no-half_over, no-read_behind, only-idle, runs-nothing, stops-empty, stops-told, told-idle}
use Rattle.pgn_part_examples.proofs.service.seats.Goals as goal

pub returns-clause-told : goal.returns-clause-told
returns-clause-told c = told-idle (map Some (listen_bytes ++ other_bytes)) c.told.ensures.at_once

pub returns-clause-read_left_out : goal.returns-clause-read_left_out
returns-clause-read_left_out c = λ h. c.not_told.ensures.read_left_out (only-idle (map Some listen_bytes) h)

pub returns-clause-read_behind : goal.returns-clause-read_behind
returns-clause-read_behind c = no-read_behind

pub returns-clause-nothing : goal.returns-clause-nothing
returns-clause-nothing c = runs-nothing

pub returns-clause-half_a_frame : goal.returns-clause-half_a_frame
returns-clause-half_a_frame c = no-half_frame

pub returns-clause-stops : goal.returns-clause-stops
returns-clause-stops c = stops-empty

pub returns-clause-stops_and_says_so : goal.returns-clause-stops_and_says_so
returns-clause-stops_and_says_so c = stops-told

pub returns-clause-half_of_that : goal.returns-clause-half_of_that
returns-clause-half_of_that c = no-half_over
