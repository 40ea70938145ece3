use Rattle.std.proofs.Common.{◌≡◌, ◌+◌, ◌-◌, ◌==◌, ◌&&◌, ◌∙◌, ℕ, List, [], ap, sym, length, get_or, arith}
use Rattle.std.proofs.lemmas.Bool.{false≢true}
use Rattle.pgn_journal.specs.declared.tx.Tx.{Tx}
use Rattle.pgn_ledger.specs.Turns.{ranks_from}
use Rattle.pgn_ledger.proofs.TurnLaws.{is_next, next_is, next_within, ranks_long}
use Rattle.pgn_ledger.proofs.ledger.Ledger.is_next_of.Goals as goal

pub returns-then-at-self : goal.returns-then-at-self
returns-then-at-self c = (
  λ h. absurd (false≢true h),
  λ h. let within = next_within c.args.session c.args.self.now.journal.now c.args.count (c.get.result - 3) c.args.xid (omega arith) h in absurd (omega (arith, within)),
)

pub index-requires : goal.index-requires
index-requires c = omega (arith, ap length c.args.self.now.known.ranked, ranks_long [] c.args.self.now.journal.now)

pub returns : goal.returns
returns c =
    let at : ℕ = c.get.result - 3 in
    let journal : List Tx = c.args.self.now.journal.now in
    let tx : Tx = c.index-self-at.result in
    let rank : ℕ = c.index.result.now in
    let x : 3 + at ≡ c.args.xid = omega arith in
    let ranked : rank ≡ get_or (ranks_from [] journal) at rank = c.index.ensures ∙ ap (λ (rs : List ℕ). get_or rs at rank) c.args.self.now.known.ranked in
    let test : c.is_turn.result ≡ ((tx.session == c.args.session) && (rank == c.args.count)) =
    c.is_turn.ensures ∙ ap (λ (t : Tx). (t.session == c.args.session) && (rank == c.args.count)) (sym c.index-self-at.is) in (
      λ h. next_is c.args.session journal c.args.count at c.args.xid rank tx x c.if-at-self.false c.index-self-at.is ranked (sym test ∙ h),
      λ h. test ∙ is_next c.args.session journal c.args.count at c.args.xid rank tx x c.index-self-at.is ranked h,
    )
