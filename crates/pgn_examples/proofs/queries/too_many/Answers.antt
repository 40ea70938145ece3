use Rattle.std.proofs.Common.{[], None, Some, arith, inl, inr}
use Rattle.pgn_queries.specs.declared.wire_fault.WireFault.TheVariants.{TooMany}
use Rattle.pgn_examples.specs.Queries.{asks_nothing, place_after}
use Rattle.pgn_examples.proofs.QueryLaws.{few}
use Rattle.pgn_examples.proofs.QueryReadings as bytes
use Rattle.pgn_queries.proofs.OneLaws.{one_reading}
use Rattle.pgn_examples.proofs.queries.too_many.Goals as goal

pub returns-clause-notes : goal.returns-clause-notes
returns-clause-notes c = inr (omega arith)

pub returns-clause-notes_within : goal.returns-clause-notes_within
returns-clause-notes_within c = few (place_after 2 1 1) (omega arith) (omega arith)

pub returns-clause-queries : goal.returns-clause-queries
returns-clause-queries c = inl (omega arith)

pub returns-clause-queries_within : goal.returns-clause-queries_within
returns-clause-queries_within c = few (place_after 4294967294 1 1) (omega arith) (omega arith)

pub returns-clause-greatest : goal.returns-clause-greatest
returns-clause-greatest c = bytes.greatest

pub returns-clause-one_query_more : goal.returns-clause-one_query_more
returns-clause-one_query_more c = bytes.one_query_more

pub returns-clause-let_through : goal.returns-clause-let_through
returns-clause-let_through c lines h =
    let same = (one_reading (place_after 4294967294 0 0) asks_nothing [] lines (Some (TooMany 0)) None bytes.one_query_more h).1 in
    absurd (cc)
