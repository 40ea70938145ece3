use Rattle.std.proofs.Common.{◌≡◌, ◌↔◌, ◌+◌, ◌-◌, ℕ, List, true, ap, ◌∙◌, subst, arith}
use Rattle.std.specs.Prelude.{IsSomeAnd}
use Rattle.pgn_base.specs.declared.note.Note.{Note}
use Rattle.pgn_journal.specs.Journal.{entry}
use Rattle.pgn_journal.proofs.JournalLaws.{entry-within}
use Rattle.pgn_model.specs.Walk.{IsCommittedBy}
use Rattle.pgn_ledger.specs.declared.to_show.ToShow.TheVariants as show
use Rattle.pgn_walk.specs.Standing.{GoesOn}
use Rattle.pgn_walk.proofs.ItemLaws.{publish_early, publish_never, publish_on, publish_other}
use Rattle.pgn_walk.proofs.standing.Standing.publish.Goals as goal

pub returns-in_default : goal.returns-in_default
returns-in_default c = λ settings none.
    publish_never (record { section = c.args.section.now; settings = settings }) c.args.ledger.now.journal.now c.args.self.now c.args.self.now c.args.xid none c.in_default.not-Queueing

pub returns-then-not-is_behind : goal.returns-then-not-is_behind
returns-then-not-is_behind c = λ settings none.
    publish_early (record { section = c.args.section.now; settings = settings }) c.args.ledger.now.journal.now c.args.self.now c.args.self.now c.args.xid none c.is_behind.result c.is_behind.ensures c.if-not-is_behind.true

pub returns-then-not-is_committed_by : goal.returns-then-not-is_committed_by
returns-then-not-is_committed_by c = λ settings none.
    let old = c.args.self.now in
    let journal = c.args.ledger.now.journal.now in
    let there = subst (λ (notes : List Note). (c.is_committed_by.result ≡ true) ↔ IsSomeAnd (entry journal c.args.xid) (IsCommittedBy c.args.section.now notes)) c.as_slice.ensures c.is_committed_by.ensures in
    publish_other (record { section = c.args.section.now; settings = settings }) journal old old c.args.xid none c.is_committed_by.result _ c.in-Queueing.notes _ c.in-Queueing.is there c.if-not-is_committed_by.true

pub overflow_add-get : goal.overflow_add-get
overflow_add-get c =
    let ledger = c.args.ledger.now in
    let there = entry-within ledger.journal.now (c.args.xid - 3) (IsCommittedBy c.args.section.now c.as_slice.result.now) (c.is_committed_by.ensures.0 c.if-not-is_committed_by.false) in
    omega (arith, there, ledger.known.few, c.get.ensures.value, c.get.ensures.first)

pub returns : goal.returns
returns c = λ settings none.
    let old = c.args.self.now in
    let journal = c.args.ledger.now.journal.now in
    let there = subst (λ (notes : List Note). (c.is_committed_by.result ≡ true) ↔ IsSomeAnd (entry journal c.args.xid) (IsCommittedBy c.args.section.now notes)) c.as_slice.ensures c.is_committed_by.ensures in
    let next : c.new-self.result ≡ c.args.xid + 1 = c.new-self.ensures ∙ ap (λ (n : ℕ). n + 1) c.get.ensures.value in
    publish_on (record { section = c.args.section.now; settings = settings }) journal old c.go_on_committing.new.self c.args.xid none c.is_behind.result c.is_committed_by.result _ c.in-Queueing.notes _ c.in-Queueing.is
    c.is_behind.ensures c.if-not-is_behind.false there c.if-not-is_committed_by.false
    (subst (λ (n : ℕ). GoesOn old.owed (record old { owed = show.Nothing; told = n }) c.go_on_committing.new.self) next c.in_ok-go_on_committing.ensures)
