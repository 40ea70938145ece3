use Rattle.std.proofs.Common.{◌≡◌, ◌↔◌, ◌≤◌, true, length, nat_le, arith}
use Rattle.pgn_journal.specs.Journal.{xids_of}
use Rattle.pgn_walk.specs.Basis.{journal_of}
use Rattle.pgn_check.proofs.LastLaws.{whole_by}
use Rattle.pgn_walk.proofs.ReadLaws.{is_le, le_is}
use Rattle.pgn_check.proofs.last.is_whole.Goals as goal

pub returns : goal.returns
returns c =
    let basis = c.args.basis.now in
    let n = c.count_of.result in
    let own : (nat_le n c.args.own ≡ true) ↔ (length (xids_of basis.section.now.no (journal_of basis)) ≤ c.args.own) =
    (λ t. omega (arith, c.count_of.ensures, le_is n c.args.own t), λ le. is_le n c.args.own (omega (arith, c.count_of.ensures, le))) in
    whole_by basis c.args.at.now c.args.own c.args.last.now c.has_ended.result (nat_le n c.args.own) c.has_read_all.result c.are_all.result (c.has_ended.ensures (journal_of basis)) own c.has_read_all.ensures c.are_all.ensures
