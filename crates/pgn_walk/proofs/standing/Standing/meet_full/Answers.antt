use Rattle.std.proofs.Common.{◌≡◌, ◌↔◌, ◌+◌, ◌-◌, ℕ, List, true, ap, ◌∙◌, subst, arith}
use Rattle.std.specs.Prelude.{IsSomeAnd}
use Rattle.pgn_base.specs.declared.note.Note.{Note}
use Rattle.pgn_base.specs.declared.answers.Refusal.TheVariants as refused
use Rattle.pgn_journal.specs.Journal.{entry}
use Rattle.pgn_journal.proofs.JournalLaws.{entry-within}
use Rattle.pgn_model.specs.Walk.{IsAbortedBy, leaving_or_answering}
use Rattle.pgn_ledger.specs.declared.to_show.Ending.TheVariants.{Refused}
use Rattle.pgn_ledger.specs.ToShow.{ending_of}
use Rattle.pgn_walk.specs.Standing.{Leads}
use Rattle.pgn_walk.proofs.ItemLaws.{full_early, full_floor, full_never, full_on, full_other}
use Rattle.pgn_walk.proofs.standing.Standing.meet_full.Goals as goal

pub returns-in_default : goal.returns-in_default
returns-in_default c = λ settings none.
    full_never (record { section = c.args.section.now; settings = settings }) c.args.ledger.now.journal.now c.args.self.now c.args.self.now c.args.full.now none c.in_default.not-Queueing

pub returns-then-not-is_behind : goal.returns-then-not-is_behind
returns-then-not-is_behind c = λ settings none.
    full_early (record { section = c.args.section.now; settings = settings }) c.args.ledger.now.journal.now c.args.self.now c.args.self.now c.args.full.now none c.is_behind.result c.is_behind.ensures c.if-not-is_behind.true

pub returns-then-not-is_aborted_by : goal.returns-then-not-is_aborted_by
returns-then-not-is_aborted_by c = λ settings none.
    let old = c.args.self.now in
    let full = c.args.full.now in
    let journal = c.args.ledger.now.journal.now in
    let there = subst (λ (notes : List Note). (c.is_aborted_by.result ≡ true) ↔ IsSomeAnd (entry journal full.xid) (IsAbortedBy c.args.section.now notes full.queued)) c.as_slice.ensures c.is_aborted_by.ensures in
    full_other (record { section = c.args.section.now; settings = settings }) journal old old full none c.is_aborted_by.result _ c.in-Queueing.notes _ c.in-Queueing.is there c.if-not-is_aborted_by.true

pub returns-then-not-is_floor_for : goal.returns-then-not-is_floor_for
returns-then-not-is_floor_for c = λ settings none.
    full_floor (record { section = c.args.section.now; settings = settings }) c.args.ledger.now.journal.now c.args.self.now c.args.self.now c.args.full.now none c.is_floor_for.result c.is_floor_for.ensures c.if-not-is_floor_for.true

pub overflow_add-get : goal.overflow_add-get
overflow_add-get c =
    let ledger = c.args.ledger.now in
    let full = c.args.full.now in
    let there = entry-within ledger.journal.now (full.xid - 3) (IsAbortedBy c.args.section.now c.as_slice.result.now full.queued) (c.is_aborted_by.ensures.0 c.if-not-is_aborted_by.false) in
    omega (arith, there, ledger.known.few, c.get.ensures.value, c.get.ensures.first)

pub returns : goal.returns
returns c = λ settings none.
    let old = c.args.self.now in
    let full = c.args.full.now in
    let journal = c.args.ledger.now.journal.now in
    let there = subst (λ (notes : List Note). (c.is_aborted_by.result ≡ true) ↔ IsSomeAnd (entry journal full.xid) (IsAbortedBy c.args.section.now notes full.queued)) c.as_slice.ensures c.is_aborted_by.ensures in
    let next : c.new-self.result ≡ full.xid + 1 = c.new-self.ensures ∙ ap (λ (n : ℕ). n + 1) c.get.ensures.value in
    full_on (record { section = c.args.section.now; settings = settings }) journal old c.leave_or_answer.new.self full none c.is_behind.result c.is_aborted_by.result c.is_floor_for.result _ c.in-Queueing.notes _ c.in-Queueing.is
    c.is_behind.ensures c.if-not-is_behind.false there c.if-not-is_aborted_by.false c.is_floor_for.ensures c.if-not-is_floor_for.false
    (subst (λ (n : ℕ). Leads (record old { told = n }) c.leave_or_answer.new.self (λ s. leaving_or_answering s (ending_of (Refused refused.QueueFull)))) next c.leave_or_answer.ensures)
