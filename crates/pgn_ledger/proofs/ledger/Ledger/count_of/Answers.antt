use Rattle.std.proofs.Common.{◌<◌, ◌∙◌, ℕ, sym, ap, length, arith}
use Rattle.std.proofs.lemmas.List.{get_or_read}
use Rattle.pgn_ledger.specs.Turns.{turns}
use Rattle.pgn_ledger.proofs.TurnLaws.{count_is}
use Rattle.pgn_ledger.proofs.ledger.Ledger.count_of.Goals as goal

pub returns : goal.returns
returns c =
    let known = c.args.self.now.known in
    let at = c.get.result in
    let within : at < length c.args.self.now.turns.counts.items = omega (arith, known.counted.counted, c.get.ensures.within) in
    get_or_read c.args.self.now.turns.counts.items _ _ within c.index.ensures 0 ∙ known.counted.each at (omega arith)
    ∙ ap (λ (s : ℕ). turns s c.args.self.now.journal.now) c.get.ensures.value ∙ sym (count_is c.args.session c.args.self.now.journal.now)
