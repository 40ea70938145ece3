-- The places ascend, so those below a number come first.
use Rattle.std.proofs.Common.{rules, None, Some, length, refl}
use Rattle.std.proofs.Math.Dec.{ltb}
use Rattle.std.proofs.lemmas.List.Sorted.{IsPartitionPoint-from_clause, IsPartitionedBy-ltb}
use Rattle.std.proofs.lemmas.Option.{slice_get_past, slice_get_read}
use Rattle.pgn_due.proofs.ListLaws.{first_at, places_rise}
use Rattle.pgn_due.proofs.lists.first_in.Goals as goal

pub returns-in-Some : goal.returns-in-Some
returns-in-Some c = λ test sent e.
    let parted = IsPartitionedBy-ltb (λ p. p) c.args.list.now c.args.from (places_rise test sent c.args.list.now e) in
    let point = IsPartitionPoint-from_clause (λ p. ltb p c.args.from) _ _ c.partition_point-at.ensures.partitioned parted (λ a r q k. search rules) in
    first_at test sent c.args.list.now c.args.from c.partition_point-at.result (Some c.in-Some.place.now) e point (slice_get_read c.args.list.now (length c.args.list.now) c.partition_point-at.result c.in-Some.place.now refl c.in-Some.ensures.lookup.3.0 c.in-Some.ensures.lookup.1)

pub returns-in-None : goal.returns-in-None
returns-in-None c = λ test sent e.
    let parted = IsPartitionedBy-ltb (λ p. p) c.args.list.now c.args.from (places_rise test sent c.args.list.now e) in
    let point = IsPartitionPoint-from_clause (λ p. ltb p c.args.from) _ _ c.partition_point-at.ensures.partitioned parted (λ a r q k. search rules) in
    first_at test sent c.args.list.now c.args.from c.partition_point-at.result None e point (slice_get_past c.args.list.now c.partition_point-at.result c.in-None.ensures.lookup.3)
