use Rattle.std.proofs.Common.{◌≡◌, ℕ, ◌+◌, ◌-◌, ◌*◌, List, [], ◌∷◌, ◌++◌, length, drop, ap, ◌∙◌, arith}
use Rattle.std.specs.Int.{w32, from_le_bytes}
use Rattle.pgn_journal.specs.Bytes.{header_bytes, entry_length}
use Rattle.pgn_entry.proofs.CellLaws.{same_head, entry_cell_head, entry_cell_text}
use Rattle.pgn_entry.proofs.cells.EntryCells.cell.Goals as goal

pub returns-then-at-start-2 : goal.returns-then-at-start-2
returns-then-at-start-2 c note db xid pid cells =
    let at : ℕ = length c.args.self.now.channel.now + 1 + (4 * c.args.number - (c.header_len-header.result + length c.args.self.now.channel.now + 1)) in
    let there : 4 * c.args.number ≡ header_bytes c.args.format + at = omega (arith, c.if-at-start.true, c.header_len-header.ensures) in
    c.payload_cell.ensures c.args.self.now.channel.now
    ∙ ap (λ (xs : List ℕ). from_le_bytes w32 (drop at ((xs ++ 0 ∷ []) ++ c.args.self.now.payload.now))) cells.channel
    ∙ ap (λ (xs : List ℕ). from_le_bytes w32 (drop at ((note.channel ++ 0 ∷ []) ++ xs))) cells.payload ∙ entry_cell_text c.args.format note db xid pid c.args.number at there

pub returns-then-at-header : goal.returns-then-at-header
returns-then-at-header c note db xid pid cells =
    let self = c.args.self.now in
    c.head_cell.ensures
    ∙ same_head c.args.format self.len (entry_length c.args.format note) self.db db self.xid xid self.pid pid c.args.number cells.len cells.db_is cells.xid_is cells.pid_is
    ∙ entry_cell_head c.args.format note db xid pid c.args.number (omega (arith, c.if-at-header.true, c.header_len-header.ensures))

pub returns : goal.returns
returns c note db xid pid cells =
    let at : ℕ = 4 * c.args.number - c.header_len-header.result in
    let past : 4 * c.args.number ≡ header_bytes c.args.format + at = omega (arith, c.if-at-header.false, c.header_len-header.ensures) in
    c.text_cell.ensures ∙ ap (λ (xs : List ℕ). from_le_bytes w32 (drop at ((xs ++ 0 ∷ []) ++ c.args.self.now.payload.now))) cells.channel
    ∙ ap (λ (xs : List ℕ). from_le_bytes w32 (drop at ((note.channel ++ 0 ∷ []) ++ xs))) cells.payload ∙ entry_cell_text c.args.format note db xid pid c.args.number at past
