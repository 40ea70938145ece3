use Rattle.pgn_language.proofs.CoverLaws.{tokens-cover}
use Rattle.pgn_laws.proofs.CoverLaws.{one-cover}
use Rattle.pgn_laws.proofs.SlotLaws.{tokens-stand}
use Rattle.pgn_language.proofs.TokenLaws.{cut-longest, cut-name, quotes-tell}
use Rattle.pgn_laws.proofs.language.tokens.Goals as goal

pub returns-clause-quotes_tell : goal.returns-clause-quotes_tell
returns-clause-quotes_tell c = quotes-tell

pub returns-clause-cut_is_longest : goal.returns-clause-cut_is_longest
returns-clause-cut_is_longest c = cut-longest

pub returns-clause-cut_is_name : goal.returns-clause-cut_is_name
returns-clause-cut_is_name c = cut-name

pub returns-clause-tokens_stand : goal.returns-clause-tokens_stand
returns-clause-tokens_stand c = tokens-stand

pub returns-clause-tokens_cover : goal.returns-clause-tokens_cover
returns-clause-tokens_cover c = tokens-cover

pub returns-clause-one_cover : goal.returns-clause-one_cover
returns-clause-one_cover c = one-cover 0
