use Rattle.std.proofs.Common.{rules, arith}
use Rattle.pgn_words.proofs.OpeningLaws.{written}
use Rattle.pgn_words.proofs.opening.first_words.Goals as goal

pub returns : goal.returns
returns c =
    let first = c.requires in
    let cells = c.cell_count.ensures.value in
    written c.args.setup.now _ _ _ _ _ (c.in_ok-words.ensures.items_if_clones_equal (λ y same. search rules)) (search rules) (search rules) (search rules) (omega (arith, first, cells))

pub overflow_add-first_cell : goal.overflow_add-first_cell
overflow_add-first_cell c =
    let shape = c.cell_count.ensures.is_shape in
    let cells = c.cell_count.ensures.value in
    let first = c.requires in
    let pages = shape.few_pages in
    let seats = shape.few_seats in
    let flags = shape.few_flags in
    let notes = shape.few_notes in omega (arith, cells, first, pages, seats, flags, notes)
