use Rattle.pgn_lines.proofs.LineLaws.{none_read, some_read}
use Rattle.pgn_lines.proofs.QuotedLaws.{no_channel, no_payload, note_read, pair_short}
use Rattle.pgn_lines.proofs.quoted.note_of.Goals as goal

pub returns-then-text-gt-LINE_BYTES_MAX : goal.returns-then-text-gt-LINE_BYTES_MAX
returns-then-text-gt-LINE_BYTES_MAX c = λ note h e. pair_short c.args.text.now note.channel note.payload h.name.short h.text.short e c.if-text-gt-LINE_BYTES_MAX.true

pub returns-in_default-2 : goal.returns-in_default-2
returns-in_default-2 c = no_channel _ _ _ c.in-Some.ensures (none_read _ _ _ c.in_ok-channel.ensures c.in_default-2.is)

pub returns-in_default-3 : goal.returns-in_default-3
returns-in_default-3 c = no_payload _ _ _ c.in-Some.ensures (none_read _ _ _ c.in_ok-payload.ensures c.in_default-3.is)

pub returns : goal.returns
returns c = note_read _ _ _ _ _ c.in-Some.ensures (some_read _ _ _ _ c.in_ok-channel.ensures c.in-Some-2.is) (some_read _ _ _ _ c.in_ok-payload.ensures c.in-Some-3.is)
