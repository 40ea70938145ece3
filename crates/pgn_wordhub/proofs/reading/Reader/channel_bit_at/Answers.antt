use Rattle.std.proofs.Common.{◌≡◌, ℕ, ◌+◌, ◌*◌, ◌%◌, ◌≤◌, ◌++◌, List, cond, Bool, Some, slice_get, drop, refl, ap, ◌∙◌, subst, arith, add-zero, zero-add}
use Rattle.std.proofs.lemmas.List.{drop_all}
use Rattle.pgn_base.specs.Interest.{channel_bit}
use Rattle.pgn_journal.specs.Bytes.{header_bytes, four_bytes}
use Rattle.pgn_journal.specs.Packing.{cells_in}
use Rattle.pgn_journal.specs.Pieces.{AnEntry, piece_bytes}
use Rattle.pgn_words.specs.declared.view.View.{View}
use Rattle.pgn_words.specs.Words.{cell_word}
use Rattle.pgn_words.specs.Passes.{view_of}
use Rattle.pgn_wordhub.specs.Passes.{hub_shape}
use Rattle.pgn_wordhub.specs.Walks.{sum_to_zero, shown_cells}
use Rattle.pgn_wordhub.proofs.PassingLaws.{head_whole, channel_sum, left_at, stops_with, goes_with}
use Rattle.pgn_wordhub.proofs.reading.Reader.channel_bit_at.Goals as goal

pub loop-k-init : goal.loop-k-init
loop-k-init c =
    let first = c.head_cells-k.ensures in
    let whole = head_whole c.args.self.now.format in
    let there : c.args.at + cells_in (header_bytes c.args.self.now.format) ≡ c.args.at + c.head_cells-k.result = omega (arith, first) in
    let start : 4 * c.head_cells-k.result ≡ header_bytes c.args.self.now.format = omega (arith, first, whole) in (
      c.requires.own,
      refl,
      c.channel_word-word.ensures.value c.args.at c.requires.third ∙ ap (cell_word (hub_shape c.args.self.now.hub.now)) there,
      c.channel_word-word.ensures.word,
      λ note sender stands long.
          ap (λ (n : ℕ). n % 64) (zero-add (sum_to_zero (drop (4 * c.head_cells-k.result) (piece_bytes c.args.self.now.format (AnEntry note sender))))
          ∙ ap (λ (n : ℕ). sum_to_zero (drop n (piece_bytes c.args.self.now.format (AnEntry note sender)))) start ∙ channel_sum c.args.self.now.format note sender stands.readable.content.0.name.no_nul),
      omega arith,
    )

pub returns-then-ended-clause-bit : goal.returns-then-ended-clause-bit
returns-then-ended-clause-bit c note sender stands long =
    let inv = c.loop-k.invariant in
    let v = view_of c.args.pass.now in
    let k = c.loop-k.k in
    let from = c.requires.from in
    let test = c.loop-k-test.true in
    let bytes = piece_bytes c.args.self.now.format (AnEntry note sender) in
    let rest = drop (4 * (k + 1)) bytes in
    let left = left_at c.args.self.now.format (shown_cells v) c.args.at k c.cell-cell.result (AnEntry note sender) stands (omega (arith, test, long))
    (λ n there. subst (λ (u : View). u.post.at ≤ c.args.at + k → slice_get (shown_cells u) (c.args.at + k) ≡ Some (Some n) → c.cell-cell.result ≡ n) inv.1
    (c.cell-cell.ensures.value (c.args.at + k) n inv.2) (omega (arith, from)) there) in
    let last : sum_to_zero (four_bytes c.cell-cell.result ++ rest) ≡ c.sum_of_cell-more.result.0 =
    c.sum_of_cell-more.ensures.sum rest ∙ ap (λ (b : Bool). c.sum_of_cell-more.result.0 + cond b 0 (sum_to_zero rest)) c.if-ended.true ∙ add-zero c.sum_of_cell-more.result.0 in
    stops_with c.loop-k.sum (sum_to_zero (drop (4 * k) bytes)) c.sum_of_cell-more.result.0 _ (inv.4 note sender stands long) (left ∙ last)

pub loop-k-preserved : goal.loop-k-preserved
loop-k-preserved c =
    let inv = c.loop-k.invariant in
    let v = view_of c.args.pass.now in
    let k = c.loop-k.k in
    let from = c.requires.from in
    let test = c.loop-k-test.true in
    let next : c.args.at + k + 1 ≡ c.args.at + (k + 1) = omega arith in (
      c.cell-cell.ensures.own,
      c.cell-cell.ensures.view ∙ inv.1,
      c.next_word-word.ensures.value (c.args.at + k) inv.2 ∙ ap (cell_word (hub_shape c.args.self.now.hub.now)) next,
      c.next_word-word.ensures.word,
      λ note sender stands long.
          let bytes = piece_bytes c.args.self.now.format (AnEntry note sender) in
          let rest = drop (4 * (k + 1)) bytes in
          let left = left_at c.args.self.now.format (shown_cells v) c.args.at k c.cell-cell.result (AnEntry note sender) stands (omega (arith, test, long))
          (λ n there. subst (λ (u : View). u.post.at ≤ c.args.at + k → slice_get (shown_cells u) (c.args.at + k) ≡ Some (Some n) → c.cell-cell.result ≡ n) inv.1
          (c.cell-cell.ensures.value (c.args.at + k) n inv.2) (omega (arith, from)) there) in
          let more : sum_to_zero (four_bytes c.cell-cell.result ++ rest) ≡ c.sum_of_cell-more.result.0 + sum_to_zero rest =
          c.sum_of_cell-more.ensures.sum rest ∙ ap (λ (b : Bool). c.sum_of_cell-more.result.0 + cond b 0 (sum_to_zero rest)) c.if-ended.false in
          goes_with c.loop-k.sum (sum_to_zero (drop (4 * k) bytes)) c.sum_of_cell-more.result.0 (sum_to_zero rest) _ (inv.4 note sender stands long) (left ∙ more),
      omega arith,
    )

pub returns-clause-bit : goal.returns-clause-bit
returns-clause-bit c note sender stands long =
    let inv = c.loop-k.invariant in
    let test = c.loop-k-test.false in
    let none = drop_all (4 * c.loop-k.k) (piece_bytes c.args.self.now.format (AnEntry note sender)) (omega (arith, test, long)) in
    let is = subst (λ (bytes : List ℕ). (c.loop-k.sum + sum_to_zero bytes) % 64 ≡ channel_bit note.channel) none (inv.4 note sender stands long) in
    let low = inv.5 in omega (arith, is, low)

pub returns-then-ended-clause-own : goal.returns-then-ended-clause-own
returns-then-ended-clause-own c = c.cell-cell.ensures.own

pub returns-then-ended-clause-view : goal.returns-then-ended-clause-view
returns-then-ended-clause-view c = c.cell-cell.ensures.view ∙ c.loop-k.invariant.1

pub returns-clause-own : goal.returns-clause-own
returns-clause-own c = c.loop-k.invariant.0

pub returns-clause-view : goal.returns-clause-view
returns-clause-view c = c.loop-k.invariant.1

pub returns-clause-within : goal.returns-clause-within
returns-clause-within c = c.loop-k.invariant.5
