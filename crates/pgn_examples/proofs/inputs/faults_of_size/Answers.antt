use Rattle.std.proofs.Common.{◌≡◌, ℕ, List, [], length, refl, arith, codes, replicate}
use Rattle.std.proofs.lemmas.List.{length-replicate}
use Rattle.std.specs.Fmt.{digits}
use Rattle.pgn_language.specs.Grammar.{table, cut}
use Rattle.pgn_language.specs.Lines.{says}
use Rattle.pgn_language.specs.Inputs.{Large}
use Rattle.pgn_laws.proofs.InputLaws.{long-line, one-note_line_more, large-only, blank-line, lacks-replicate, one-note_line_within}
use Rattle.pgn_examples.proofs.inputs.faults_of_size.Goals as goal

pub returns-clause-input : goal.returns-clause-input
returns-clause-input c = λ input l. Large l

pub returns-clause-line : goal.returns-clause-line
returns-clause-line c = λ line within long h. long-line line within long h

pub returns-clause-note_line : goal.returns-clause-note_line
unfolding table cut says
returns-clause-note_line c = λ n before q s m. one-note_line_more n before (record { channel = codes "c"; payload = [] }) q s m

pub returns-clause-sections_within : goal.returns-clause-sections_within
unfolding digits
returns-clause-sections_within c = refl

pub returns-clause-sections : goal.returns-clause-sections
unfolding digits
returns-clause-sections c = refl

pub returns-clause-flags_within : goal.returns-clause-flags_within
unfolding digits
returns-clause-flags_within c = refl

pub returns-clause-flags : goal.returns-clause-flags
unfolding digits
returns-clause-flags c = refl

pub returns-clause-awaited_flags : goal.returns-clause-awaited_flags
unfolding digits
returns-clause-awaited_flags c = refl

pub returns-clause-name_first : goal.returns-clause-name_first
unfolding digits
returns-clause-name_first c = refl

pub returns-clause-input_within : goal.returns-clause-input_within
returns-clause-input_within c = λ input within h. large-only input within h

pub returns-clause-line_within : goal.returns-clause-line_within
returns-clause-line_within c = λ n within. blank-line n within

pub returns-clause-long_before_utf8 : goal.returns-clause-long_before_utf8
returns-clause-long_before_utf8 c =
    let line : List ℕ = replicate 65537 255 in
    let size : length line ≡ 65537 = length-replicate {A = ℕ} 65537 255 in
    long-line line (omega (arith, size)) (omega (arith, size)) (lacks-replicate 65537 255 refl)

pub returns-clause-note_line_within : goal.returns-clause-note_line_within
unfolding table cut says
returns-clause-note_line_within c = λ n before q s m few. one-note_line_within n before (record { channel = codes "c"; payload = [] }) q s m few
