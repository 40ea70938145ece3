use Rattle.std.proofs.Common.{◌≡◌, ◌+◌, ◌∷◌, ℕ, Bool, true, false, cond, List, Some, length, drop, ap, sym, ◌∙◌, arith}
use Rattle.std.proofs.lemmas.List.{drop_all, drop_more}
use Rattle.pgn_base.specs.declared.note.Note.{Note}
use Rattle.pgn_journal.specs.declared.tx.Tx.{Tx}
use Rattle.pgn_check.specs.Entries.{first_bad_from, is_good, lines_in}
use Rattle.pgn_check.proofs.entries.first_bad.Goals as goal

pub loop-tx-preserved : goal.loop-tx-preserved
loop-tx-preserved c =
    let sections = c.args.sections.now in
    let journal = c.args.journal.now in
    let k = c.loop-tx.tx-index in
    let n = c.loop-tx.number in
    let tx = c.tx-item.result in
    let rest : drop k journal ≡ tx ∷ drop (k + 1) journal = drop_more journal k tx c.loop-tx-test.true ∙ ap (λ (t : Tx). t ∷ drop (k + 1) journal) (sym c.tx-item.is) in
    let long : length c.as_slice.result.now ≡ length tx.notes = ap (λ (notes : List Note). length notes) c.as_slice.ensures in
    let good : is_good sections tx ≡ true = sym c.in_ok-is_good.ensures ∙ c.if-not-branch.false in
    record {
      same = ap (λ (m : ℕ). first_bad_from sections (n + (1 + m)) (drop (k + 1) journal)) long
          ∙ sym (ap (λ (b : Bool). cond b (first_bad_from sections (n + (1 + length tx.notes)) (drop (k + 1) journal)) (Some n)) good) ∙ sym (ap (first_bad_from sections n) rest) ∙ c.loop-tx.invariant.same;
      counted = omega (arith, long, ap lines_in rest, c.loop-tx.invariant.counted);
    }

pub returns-then-not-branch : goal.returns-then-not-branch
returns-then-not-branch c =
    let sections = c.args.sections.now in
    let journal = c.args.journal.now in
    let k = c.loop-tx.tx-index in
    let n = c.loop-tx.number in
    let tx = c.tx-item.result in
    let rest : drop k journal ≡ tx ∷ drop (k + 1) journal = drop_more journal k tx c.loop-tx-test.true ∙ ap (λ (t : Tx). t ∷ drop (k + 1) journal) (sym c.tx-item.is) in
    let bad : is_good sections tx ≡ false = sym c.in_ok-is_good.ensures ∙ c.if-not-branch.true in
    sym (sym c.loop-tx.invariant.same ∙ ap (first_bad_from sections n) rest ∙ ap (λ (b : Bool). cond b (first_bad_from sections (n + (1 + length tx.notes)) (drop (k + 1) journal)) (Some n)) bad)

pub returns : goal.returns
returns c =
    sym (sym c.loop-tx.invariant.same ∙ ap (first_bad_from c.args.sections.now c.loop-tx.number) (drop_all c.loop-tx.tx-index c.args.journal.now c.loop-tx-test.false))
