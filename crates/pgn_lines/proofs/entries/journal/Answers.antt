use Rattle.std.proofs.Common.{◌≡◌, codes, decimal, sym, ◌∙◌, refl, arith}
use Rattle.std.proofs.lemmas.List.{append_cancel_left}
use Rattle.pgn_lines.proofs.FieldLaws.{same_number}
use Rattle.pgn_lines.proofs.entries.journal.Goals as goal

pub returns-then-entries : goal.returns-then-entries
returns-then-entries c = λ entries h e.
    let text = append_cancel_left (codes "journal ") (decimal entries) (decimal c.in_ok-entries.entries) (e ∙ sym c.in_ok-entries.ensures.1) in
    let same : entries ≡ c.in_ok-entries.entries = same_number entries c.in_ok-entries.entries (decimal c.in_ok-entries.entries) (omega (arith, h)) (omega (arith, c.in_ok-entries.ensures.0)) text refl in
    omega (arith, h)
