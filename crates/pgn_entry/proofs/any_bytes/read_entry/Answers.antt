use Rattle.std.proofs.Common.{rules, arith}
use Rattle.pgn_entry.specs.declared.entry_fault.EntryFault.TheVariants.{Short, BadLength, NoNul, BadText, BadPad}
use Rattle.pgn_entry.specs.Reading.{ReadsAs, told}
use Rattle.pgn_entry.proofs.AnswerLaws.{body_reads, filler_body_reads, exact}
use Rattle.pgn_entry.proofs.any_bytes.read_entry.Goals as goal

pub returns-in_err-head : goal.returns-in_err-head
returns-in_err-head c =
    let r : ReadsAs c.args.format c.args.bytes.now (told c.from_residual.result) = search rules in
    let k = exact c.args.format c.args.bytes.now c.from_residual.result r in
    record { reads = r; entry = k.entry; filler = k.filler; short = k.refused Short; bad_length = k.refused BadLength; no_nul = k.refused NoNul; bad_text = k.refused BadText; bad_pad = k.refused BadPad }

pub returns-then-head-eq0 : goal.returns-then-head-eq0
returns-then-head-eq0 c =
    let r = rw c.in_ok-head.ensures.rest at c.read_filler.ensures in
    let whole : ReadsAs c.args.format c.args.bytes.now (told c.read_filler.result)
    = filler_body_reads c.args.format c.args.bytes.now c.in_ok-head.head (told c.read_filler.result) (λ i. let f = c.type_inv.bytes i in omega arith) c.in_ok-head.ensures.head c.if-head-eq0.true r in
    let k = exact c.args.format c.args.bytes.now c.read_filler.result whole in
    record { reads = whole; entry = k.entry; filler = k.filler; short = k.refused Short; bad_length = k.refused BadLength; no_nul = k.refused NoNul; bad_text = k.refused BadText; bad_pad = k.refused BadPad }

pub returns-else-head-eq0 : goal.returns-else-head-eq0
returns-else-head-eq0 c =
    let r = rw c.in_ok-head.ensures.rest at c.read_body.ensures in
    let whole : ReadsAs c.args.format c.args.bytes.now (told c.read_body.result)
    = body_reads c.args.format c.args.bytes.now c.in_ok-head.head (told c.read_body.result) (λ i. let f = c.type_inv.bytes i in omega arith) c.in_ok-head.ensures.head c.if-head-eq0.false r in
    let k = exact c.args.format c.args.bytes.now c.read_body.result whole in
    record { reads = whole; entry = k.entry; filler = k.filler; short = k.refused Short; bad_length = k.refused BadLength; no_nul = k.refused NoNul; bad_text = k.refused BadText; bad_pad = k.refused BadPad }
