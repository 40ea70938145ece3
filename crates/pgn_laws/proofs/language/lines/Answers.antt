use Rattle.pgn_language.proofs.LineLaws.{parts-are_cut, texts-trimmed}
use Rattle.pgn_laws.proofs.LineLaws.{blank-reads_empty, lines-are_cut}
use Rattle.pgn_laws.proofs.language.lines.Goals as goal

pub returns-clause-lines_are_cut : goal.returns-clause-lines_are_cut
returns-clause-lines_are_cut c = lines-are_cut

pub returns-clause-texts_are_trimmed : goal.returns-clause-texts_are_trimmed
returns-clause-texts_are_trimmed c = texts-trimmed

pub returns-clause-parts_are_cut : goal.returns-clause-parts_are_cut
returns-clause-parts_are_cut c = parts-are_cut

pub returns-clause-blank_reads_empty : goal.returns-clause-blank_reads_empty
returns-clause-blank_reads_empty c = blank-reads_empty
