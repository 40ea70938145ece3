use Rattle.std.proofs.Common.{◌≡◌, ℕ, List, sym, ap, ◌∙◌, subst, IfOk}
use Rattle.std.specs.Str.{str_to_ascii_lowercase}
use Rattle.pgn_base.specs.Texts.{IsName}
use Rattle.pgn_command.specs.Statements.{ident_name}
use Rattle.pgn_command.specs.declared.statement.Ident.{Ident}
use Rattle.pgn_command.proofs.CutLaws.{cut-folded}
use Rattle.pgn_command.proofs.texts.name_of.Goals as goal

pub word_name-requires : goal.word_name-requires
word_name-requires c =
    let same : str_to_ascii_lowercase c.cut.result.now ≡ ident_name c.args.ident = ap str_to_ascii_lowercase c.cut.ensures ∙ sym (cut-folded 63 c.in-Word.word.now)
    ∙ ap (λ (i : Ident). ident_name i) (sym c.in-Word.is) in
    subst (λ (l : List ℕ). IsName l) (sym same) c.requires

pub returns-in-Word : goal.returns-in-Word
returns-in-Word c =
    let same : str_to_ascii_lowercase c.cut.result.now ≡ ident_name c.args.ident = ap str_to_ascii_lowercase c.cut.ensures ∙ sym (cut-folded 63 c.in-Word.word.now)
    ∙ ap (λ (i : Ident). ident_name i) (sym c.in-Word.is) in
    subst (λ (l : List ℕ). IfOk c.word_name.result (λ name. name ≡ l)) same c.word_name.ensures
