use Rattle.std.proofs.Common.{◌≡◌, ℕ, true, List, sym, ap, ◌∙◌, subst, IfOk}
use Rattle.std.specs.List.{list_all}
use Rattle.pgn_base.specs.Texts.{IsName}
use Rattle.pgn_command.specs.Statements.{is_folded}
use Rattle.pgn_command.proofs.CutLaws.{folded-same}
use Rattle.pgn_command.proofs.texts.word_name.Goals as goal

pub of_valid-requires : goal.of_valid-requires
of_valid-requires c =
    let all : list_all is_folded c.args.word.now ≡ true = ap (λ (bytes : List ℕ). list_all is_folded bytes) (sym c.as_bytes.ensures.value) ∙ sym c.are_folded.ensures ∙ c.if-are_folded.true in
    subst (λ (l : List ℕ). IsName l) (folded-same c.args.word.now all) c.requires

pub returns-then-are_folded : goal.returns-then-are_folded
returns-then-are_folded c =
    let all : list_all is_folded c.args.word.now ≡ true = ap (λ (bytes : List ℕ). list_all is_folded bytes) (sym c.as_bytes.ensures.value) ∙ sym c.are_folded.ensures ∙ c.if-are_folded.true in
    subst (λ (l : List ℕ). IfOk c.of_valid.result (λ name. name ≡ l)) (sym (folded-same c.args.word.now all)) c.of_valid.ensures.ok
