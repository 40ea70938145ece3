-- The end of a trace.
use Rattle.std.proofs.Common.{◌≡◌, ◌↔◌, ◌⊎◌, ℕ, ◌≤◌, Bool, true, false, ◌&&◌, ◌||◌, List, length, Option, sym, ap, ◌∙◌, refl, inl, inr}
use Rattle.std.specs.Prelude.{IfSome}
use Rattle.std.proofs.lemmas.Bool.{false≢true}
use Rattle.pgn_answers.specs.declared.block_state.BlockState.TheVariants.{Idle}
use Rattle.pgn_journal.specs.declared.tx.Tx.{Tx}
use Rattle.pgn_journal.specs.Journal.{next_xid, xids_of}
use Rattle.pgn_language.specs.declared.scenario.Section.{Section}
use Rattle.pgn_model.specs.Trace.{IsEnd, IsUpToDate}
use Rattle.pgn_model.specs.Walk.{State, Terms}
use Rattle.pgn_reading.specs.Blame.{IsAtRest}
use Rattle.pgn_walk.specs.declared.basis.Basis.{Basis}
use Rattle.pgn_walk.specs.declared.standing.Standing.{Standing}
use Rattle.pgn_ledger.specs.declared.to_show.ToShow.TheVariants as show
use Rattle.pgn_walk.specs.Basis.{journal_of}
use Rattle.pgn_check.specs.Fresh.{Asks}
use Rattle.pgn_ledger.specs.ToShow.{owed_of}
use Rattle.pgn_walk.specs.Standing.{Holds}
use Rattle.pgn_check.specs.Walked.{AsksLast, IsMissingNone}
use Rattle.pgn_walk.proofs.ItemLaws.{nothing_is}
use Rattle.pgn_walk.proofs.ReadLaws.{is_over, over_is}

either_is : (a b : Bool) → (a || b) ≡ true → (a ≡ true) ⊎ (b ≡ true)
either_is true b h = inl refl
either_is false b h = inr h

neither_is : (a b : Bool) → (a || b) ≡ false → (a ≡ false) × (b ≡ false)
neither_is true b h = absurd (false≢true (sym h))
neither_is false b h = (refl, h)

three : (a b d : Bool) → (a && (b && d)) ≡ true → (a ≡ true) × (b ≡ true) × (d ≡ true)
three true true true h = (refl, refl, refl)
three true true false h = absurd (false≢true h)
three true false d h = absurd (false≢true h)
three false b d h = absurd (false≢true h)

all_three : (a b d : Bool) → a ≡ true → b ≡ true → d ≡ true → (a && (b && d)) ≡ true
all_three a b d p q r = ap (λ (t : Bool). t && (b && d)) p ∙ ap (λ (t : Bool). t && d) q ∙ r

-- a trace that ends within a block, before the script's end, leaves no read out
pub last_off : (terms : Terms) (journal : List Tx) (at : Standing) (a b c : Bool) → (a ≡ true) ↔ (at.block.state ≡ Idle) → (b ≡ true) ↔ (length terms.section.lines ≤ at.next) → c ≡ (a || b) → c ≡ false → AsksLast terms journal at true
last_off terms journal at a b c f g e off s h rests =
    let n = neither_is a b (sym e ∙ off) in
    absurd (elim rests [
      | inl idle ↦ false≢true (sym n.0 ∙ f.1 (sym h.block ∙ idle))
      | inr over ↦ false≢true (sym n.1 ∙ g.1 (is_over terms.section.lines at.next (sym h.rest ∙ over)))
    ])

rests : (terms : Terms) (journal : List Tx) (at : Standing) (s : State) (a b c : Bool) → (a ≡ true) ↔ (at.block.state ≡ Idle) → (b ≡ true) ↔ (length terms.section.lines ≤ at.next) → c ≡ (a || b) → c ≡ true → Holds terms.section journal at s → IsAtRest s
rests terms journal at s a b c f g e on h = elim (either_is a b (sym e ∙ on)) [
  | inl idle ↦ inl (h.block ∙ f.0 idle)
  | inr over ↦ inr (h.rest ∙ over_is terms.section.lines at.next (g.0 over))
]

-- each other one leaves none out exactly where its session is up to date
pub last_by : (terms : Terms) (journal : List Tx) (at : Standing) (a b c d : Bool) → (a ≡ true) ↔ (at.block.state ≡ Idle) → (b ≡ true) ↔ (length terms.section.lines ≤ at.next) → c ≡ (a || b) → c ≡ true
    → Asks terms.section journal at d (λ s. IsUpToDate terms journal s) → AsksLast terms journal at d
last_by terms journal at a b c true f g e on asks s h = λ _. (asks s h).0 refl
last_by terms journal at a b c false f g e on asks s h = (rests terms journal at s a b c f g e on h, λ up. false≢true ((asks s h).1 up))

-- a trace is at its end exactly where nothing is owed, no line is left and the mark is the last one
pub ended_by : (section : Section) (journal : List Tx) (at : Standing) (last : Option ℕ) (a b d c : Bool) → (a ≡ true) ↔ (at.owed ≡ show.Nothing) → (b ≡ true) ↔ (length section.lines ≤ at.next) → (d ≡ true) ↔ (at.mark ≡ last) → c ≡ (a && (b && d))
    → Asks section journal at c (λ s. IsEnd s last)
ended_by section journal at last a b d c f g k e s h = (
  λ t.
      let p = three a b d (sym e ∙ t) in
      record {
        answered = h.owed ∙ ap owed_of (f.0 p.0);
        done = h.rest ∙ over_is section.lines at.next (g.0 p.1);
        mark = h.mark ∙ k.0 p.2;
      },
  λ end. e ∙ all_three a b d (f.1 (nothing_is at.owed (sym h.owed ∙ end.answered))) (g.1 (is_over section.lines at.next (sym h.rest ∙ end.done))) (k.1 (sym h.mark ∙ end.mark)),
)

-- nothing is missing exactly where it is at its end, all own numbers were shown and the last mark is the journal's end
pub whole_by : (basis : Basis) (at : Standing) (own : ℕ) (last : Option ℕ) (a b d c : Bool) → Asks basis.section.now (journal_of basis) at a (λ s. IsEnd s last) → (b ≡ true) ↔ (length (xids_of basis.section.now.no (journal_of basis)) ≤ own)
    → (d ≡ true) ↔ IfSome last (λ mark. mark ≡ next_xid (journal_of basis)) → c ≡ (a && (b && d)) → Asks basis.section.now (journal_of basis) at c (IsMissingNone basis own last)
whole_by basis at own last a b d c f g k e s h = (
  λ t. let p = three a b d (sym e ∙ t) in record { ended = (f s h).0 p.0; all_own = g.0 p.1; read_all = k.0 p.2 },
  λ m. e ∙ all_three a b d ((f s h).1 m.ended) (g.1 m.all_own) (k.1 m.read_all),
)
