use Rattle.std.proofs.Common.{◌≡◌, ◌+◌, ◌-◌, ◌*◌, ◌≤◌, length, slice_get, Some, sym, ap, ◌∙◌, subst, arith}
use Rattle.std.proofs.lemmas.List.{take_all}
use borrow.Rule.Slice.PartMut.{same_len_mid}
use Rattle.pgn_journal.specs.Pieces.{piece_bytes}
use Rattle.pgn_journal.proofs.PieceLaws.{piece_has_bytes}
use Rattle.pgn_words.specs.declared.view.View.{View}
use Rattle.pgn_words.specs.Words.{cell_word}
use Rattle.pgn_words.specs.Passes.{view_of}
use Rattle.pgn_wordhub.specs.Passes.{hub_shape}
use Rattle.pgn_wordhub.specs.Walks.{shown_cells}
use Rattle.pgn_wordhub.proofs.PassingLaws.{cell_is}
use Rattle.pgn_wordhub.proofs.ReadingLaws.{loads_cell}
use Rattle.pgn_wordhub.proofs.hub.WordHub.load_bytes.Goals as goal

pub loop-k-preserved : goal.loop-k-preserved
loop-k-preserved c =
    let inv = c.loop-k.invariant in
    let v = view_of c.args.pass.now in
    let k = c.loop-k.k in
    let from = c.requires.from in
    let test = c.loop-k-test.true in
    let size = inv.2 in
    let next : c.args.at + k + 1 ≡ c.args.at + (k + 1) = omega arith in
    let behind = length c.loop-k.page - 4 * k in (
      c.cell-cell.ensures.own,
      c.cell-cell.ensures.view ∙ inv.1,
      same_len_mid (4 * k) behind c.loop-k.page c.write_u32.new.buf c.write_u32.auto.buf ∙ inv.2,
      c.next_word-word.ensures.value (c.args.at + k) inv.3 ∙ ap (cell_word (hub_shape c.args.self.now)) next,
      c.next_word-word.ensures.word,
      λ format piece stands long. loads_cell (piece_bytes format piece) c.loop-k.page c.write_u32.new.buf _ k behind c.cell-cell.result (omega (arith, test, size)) (inv.5 format piece stands long)
          (cell_is format (shown_cells v) c.args.at k c.cell-cell.result piece stands (omega (arith, test, long))
          (λ n there. subst (λ (u : View). u.post.at ≤ c.args.at + k → slice_get (shown_cells u) (c.args.at + k) ≡ Some (Some n) → c.cell-cell.result ≡ n) inv.1
          (c.cell-cell.ensures.value (c.args.at + k) n inv.3) (omega (arith, from)) there))
          c.write_u32.ensures,
    )

pub returns-clause-bytes : goal.returns-clause-bytes
returns-clause-bytes c format piece stands long =
    let inv = c.loop-k.invariant in
    let k = c.loop-k.k in
    let size = inv.2 in
    let test = c.loop-k-test.false in
    let whole = piece_has_bytes.whole format piece stands.readable in
    sym (take_all (4 * k) c.loop-k.page (omega (arith, test, size, whole, long))) ∙ inv.5 format piece stands long ∙ take_all (4 * k) (piece_bytes format piece) (omega (arith, test, whole, long))
