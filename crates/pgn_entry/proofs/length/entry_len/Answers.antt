use Rattle.std.proofs.Common.{◌≡◌, rules, sym, subst}
use Rattle.pgn_base.specs.Notes.{IsNote}
use Rattle.pgn_journal.specs.Bytes.{entry_length, IsEntryLength}
use Rattle.pgn_journal.proofs.BytesLemmas.{entry_lengths}
use Rattle.pgn_entry.proofs.length.entry_len.Goals as goal

pub returns-clause-value : goal.returns-clause-value
unfolding entry_length
returns-clause-value c = search rules

pub returns-clause-fits : goal.returns-clause-fits
unfolding entry_length
returns-clause-fits c =
    let note = c.args.note.now in
    let valid : IsNote note = record { name = c.as_bytes.ensures.valid; text = c.as_bytes-2.ensures.valid } in
    let value : c.length_of.result ≡ entry_length c.args.format note = search rules in
    subst (IsEntryLength c.args.format) (sym value) (entry_lengths c.args.format note valid)
