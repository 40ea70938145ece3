use Rattle.std.proofs.Common.{◌≡◌, ◌↔◌, ℕ, List, true, subst}
use Rattle.pgn_walk.proofs.AnswerLaws.{rows_by, rows_never}
use Rattle.pgn_walk.proofs.standing.Standing.rows.Goals as goal

pub returns-in_default : goal.returns-in_default
returns-in_default c = λ terms journal. rows_never terms journal c.args.self.now c.args.self.now c.args.names.now c.in_default.not-Listing

pub returns : goal.returns
returns c = λ terms journal.
    rows_by terms journal c.args.self.now c.go_on.new.self c.args.names.now c.in-Listing.due _ c.same_names-same.result c.in-Listing.is
    (subst (λ (due : List (List ℕ)). (c.same_names-same.result ≡ true) ↔ (c.args.names.now ≡ due)) c.as_slice.ensures c.same_names-same.ensures) c.go_on.ensures
