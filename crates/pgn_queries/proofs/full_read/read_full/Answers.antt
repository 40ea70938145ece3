use Rattle.std.proofs.Common.{rules, ◌-◌, length, List, ℕ, sym, subst}
use Rattle.std.proofs.lemmas.Slice.{overwrites}
use Rattle.std.specs.Io.KnownBytes.{Consumes}
use Rattle.std.proofs.KnownBytes.{Consumes-trans}
use Rattle.pgn_queries.proofs.ClientLaws.{take-filled}
use Rattle.pgn_queries.proofs.full_read.read_full.Goals as goal

pub loop-filled-preserved : goal.loop-filled-preserved
loop-filled-preserved g c =
    let from = c.loop-filled.filled in
    let buf = c.loop-filled.buf in
    let start = g.S.Source.left c.args.source.now in
    let end = g.S.Source.left c.read.new.self in
    let read = take-filled from (length buf - from) c.in_ok-n.n buf c.read.new.buf c.loop-filled.invariant.within c.in_ok-n.ensures.within in record {
      consumed = subst (λ (bytes : List ℕ). Consumes start end bytes) (sym read) (Consumes-trans start (g.S.Source.left c.loop-filled.source) end _ _ c.loop-filled.invariant.consumed c.in_ok-n.ensures.bytes.0);
      within = search (rules, overwrites);
      size = search (rules, overwrites);
      same = search rules;
    }
