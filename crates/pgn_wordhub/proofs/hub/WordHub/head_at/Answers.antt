use Rattle.std.proofs.Common.{◌≡◌, ◌+◌, ◌≤◌, Some, slice_get, ap, ◌∙◌, subst, arith}
use Rattle.pgn_words.specs.declared.view.View.{View}
use Rattle.pgn_words.specs.Words.{cell_word}
use Rattle.pgn_wordhub.specs.Passes.{hub_shape}
use Rattle.pgn_wordhub.specs.Walks.{shown_cells}
use Rattle.pgn_wordhub.proofs.hub.WordHub.head_at.Goals as goal

pub returns-clause-len : goal.returns-clause-len
returns-clause-len c n is =
    let from = c.requires.from in
    let here : c.args.at ≡ c.args.at + 0 = omega arith in
    c.cell-len.ensures.value (c.args.at + 0) n (c.word_of_cell-first.ensures.value ∙ ap (cell_word (hub_shape c.args.self.now)) here) (omega (arith, from)) is

pub returns-clause-db : goal.returns-clause-db
returns-clause-db c n is =
    let from = c.requires.from in
    subst (λ (u : View). u.post.at ≤ c.args.at + 1 → slice_get (shown_cells u) (c.args.at + 1) ≡ Some (Some n) → c.cell-db.result ≡ n) c.cell-len.ensures.view
    (c.cell-db.ensures.value (c.args.at + 1) n (c.next_word-second.ensures.value c.args.at c.word_of_cell-first.ensures.value)) (omega (arith, from)) is

pub returns-clause-xid : goal.returns-clause-xid
returns-clause-xid c n is =
    let from = c.requires.from in
    let there : c.args.at + 1 + 1 ≡ c.args.at + 2 = omega arith in
    subst (λ (u : View). u.post.at ≤ c.args.at + 2 → slice_get (shown_cells u) (c.args.at + 2) ≡ Some (Some n) → c.cell-xid.result ≡ n) (c.cell-db.ensures.view ∙ c.cell-len.ensures.view)
    (c.cell-xid.ensures.value (c.args.at + 2) n (c.next_word-third.ensures.value (c.args.at + 1) (c.next_word-second.ensures.value c.args.at c.word_of_cell-first.ensures.value) ∙ ap (cell_word (hub_shape c.args.self.now)) there)) (omega (arith, from)) is

pub returns-clause-third : goal.returns-clause-third
returns-clause-third c =
    let there : c.args.at + 1 + 1 ≡ c.args.at + 2 = omega arith in
    c.next_word-third.ensures.value (c.args.at + 1) (c.next_word-second.ensures.value c.args.at c.word_of_cell-first.ensures.value) ∙ ap (cell_word (hub_shape c.args.self.now)) there
