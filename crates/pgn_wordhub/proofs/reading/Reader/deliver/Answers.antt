use Rattle.std.proofs.Common.{ℕ, List, sym, ◌∙◌, subst, arith}
use Rattle.pgn_base.specs.Texts.{IsName, IsPayload}
use Rattle.pgn_journal.specs.Pieces.{committed_by}
use Rattle.pgn_words.specs.Passes.{known_of}
use Rattle.pgn_wordhub.proofs.ReadingLaws.{not_due}
use Rattle.pgn_wordhub.proofs.reading.Reader.deliver.Goals as goal

pub entry_parts-parts-requires : goal.entry_parts-parts-requires
entry_parts-parts-requires c = let e = c.requires.entry in record { note = e.note; sender = e.sender; readable = e.due.readable; spelling = e.due.spelling }

pub new-xid-requires : goal.new-xid-requires
new-xid-requires c =
    let e = c.requires.entry in
    let p = c.entry_parts-parts.ensures e.note e.sender e.due.readable e.due.spelling in
    let low = e.due.numbered.low in let x = p.xid_is in omega (arith, low, x)

pub is_due-requires-clause-below : goal.is_due-requires-clause-below
is_due-requires-clause-below c =
    let e = c.requires.entry in
    let p = c.entry_parts-parts.ensures e.note e.sender e.due.readable e.due.spelling in
    let high = e.due.numbered.high in let x = p.xid_is in let same = c.new-xid.ensures in omega (arith, high, x, same)

pub delivery_of-requires-clause-channel : goal.delivery_of-requires-clause-channel
delivery_of-requires-clause-channel c =
    let e = c.requires.entry in
    let p = c.entry_parts-parts.ensures e.note e.sender e.due.readable e.due.spelling in
    subst (λ (bytes : List ℕ). IsName bytes) (sym p.channel_is) e.due.readable.content.0.name

pub delivery_of-requires-clause-payload : goal.delivery_of-requires-clause-payload
delivery_of-requires-clause-payload c =
    let e = c.requires.entry in
    let p = c.entry_parts-parts.ensures e.note e.sender e.due.readable e.due.spelling in
    subst (λ (bytes : List ℕ). IsPayload bytes) (sym p.payload_is) e.due.readable.content.0.text

pub returns-else-is_due-clause-delivered : goal.returns-else-is_due-clause-delivered
returns-else-is_due-clause-delivered c note sender e =
    let p = c.entry_parts-parts.ensures note sender e.readable e.spelling in
    not_due (known_of c.args.pass.now).db c.args.self.now.set.now.channels (committed_by (known_of c.args.pass.now).seen) c.args.out.now.items note sender c.is_due.result c.entry_parts-parts.result.channel.now c.new-xid.result
    e.of_db c.is_due.ensures.due p.channel_is (c.new-xid.ensures ∙ p.xid_is) c.if-is_due.false

pub returns-in_ok-add-clause-own : goal.returns-in_ok-add-clause-own
returns-in_ok-add-clause-own c = c.is_due.ensures.own

pub returns-in_ok-add-clause-view : goal.returns-in_ok-add-clause-view
returns-in_ok-add-clause-view c = c.is_due.ensures.view

pub returns-in_err-add-clause-own : goal.returns-in_err-add-clause-own
returns-in_err-add-clause-own c = c.is_due.ensures.own

pub returns-in_err-add-clause-view : goal.returns-in_err-add-clause-view
returns-in_err-add-clause-view c = c.is_due.ensures.view

pub returns-in_err-delivery-clause-own : goal.returns-in_err-delivery-clause-own
returns-in_err-delivery-clause-own c = c.is_due.ensures.own

pub returns-in_err-delivery-clause-view : goal.returns-in_err-delivery-clause-view
returns-in_err-delivery-clause-view c = c.is_due.ensures.view

pub returns-else-is_due-clause-own : goal.returns-else-is_due-clause-own
returns-else-is_due-clause-own c = c.is_due.ensures.own

pub returns-else-is_due-clause-view : goal.returns-else-is_due-clause-view
returns-else-is_due-clause-view c = c.is_due.ensures.view
