use Rattle.std.proofs.Common.{◌≡◌, ◌+◌, sym, ap, ◌∙◌, arith}
use Rattle.pgn_base.specs.declared.format.Format.{Format}
use Rattle.pgn_journal.specs.Bytes.{header_bytes}
use Rattle.pgn_journal.specs.Packing.{cells_in}
use Rattle.pgn_words.specs.Words.{cell_word}
use Rattle.pgn_wordhub.specs.Passes.{hub_shape}
use Rattle.pgn_wordhub.proofs.hub.WordHub.channel_word.Goals as goal

pub returns-in-One-clause-value : goal.returns-in-One-clause-value
returns-in-One-clause-value c at is =
    let z = hub_shape c.args.self.now in
    let there : at + 2 + 1 + 1 ≡ at + 4 = omega arith in
    c.next_word-fifth.ensures.value (at + 2 + 1) (c.next_word-fourth.ensures.value (at + 2) is) ∙ ap (cell_word z) there
    ∙ ap (λ (f : Format). cell_word z (at + cells_in (header_bytes f))) (sym c.in-One.is)

pub returns-in-Two-clause-value : goal.returns-in-Two-clause-value
returns-in-Two-clause-value c at is =
    let z = hub_shape c.args.self.now in
    let there : at + 2 + 1 + 1 + 1 + 1 ≡ at + 6 = omega arith in
    c.next_word.ensures.value (at + 2 + 1 + 1 + 1) (c.next_word-sixth.ensures.value (at + 2 + 1 + 1) (c.next_word-fifth.ensures.value (at + 2 + 1) (c.next_word-fourth.ensures.value (at + 2) is)))
    ∙ ap (cell_word z) there ∙ ap (λ (f : Format). cell_word z (at + cells_in (header_bytes f))) (sym c.in-Two.is)
