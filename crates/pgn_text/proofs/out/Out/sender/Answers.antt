use Rattle.std.proofs.Common.{◌++◌, append_assoc, codes, decimal, sym}
use Rattle.pgn_text.proofs.PutsLaws.{Puts-same, Puts-trans}
use Rattle.pgn_text.proofs.out.Out.sender.Goals as goal

pub returns : goal.returns
returns g c =
    let xid = rw (c.from.ensures, c.get.ensures.value) at c.number_in.ensures in
    let pid = rw c.from-2.ensures at c.number_in-2.ensures in
    Puts-same (sym (append_assoc (codes "  " ++ decimal c.args.delivery.now.xid ++ codes " ") (decimal c.args.delivery.now.pid) (codes " \""))) (Puts-trans xid pid)
