use Rattle.std.proofs.Common.{ℕ, List, sym, subst, arith, IsCharBoundary, length-drop}
use Rattle.std.specs.List.{prefix_len}
use Rattle.pgn_language.specs.Tokens.{is_blank}
use Rattle.pgn_command.proofs.GapLaws.{past-blanks, blanks-boundary, front-ends, front-bound}
use Rattle.pgn_command.proofs.lexer.Lexer.skip_blanks.Goals as goal

pub skip-requires : goal.skip-requires
skip-requires c = rw c.blanks-count.ensures.value (subst (λ (l : List ℕ). IsCharBoundary l (prefix_len is_blank c.as_bytes.result.now)) c.as_bytes.ensures.value (blanks-boundary c.as_bytes.result.now c.as_bytes.ensures.utf8))

pub returns-clause-tokens : goal.returns-clause-tokens
returns-clause-tokens c = rw (c.skip.ensures.rest, c.skip.ensures.at, c.blanks-count.ensures.value, c.as_bytes.ensures.value) (sym (past-blanks c.args.self.now.at c.args.self.now.rest.now))

pub returns-clause-same_end : goal.returns-clause-same_end
returns-clause-same_end c = rw (c.skip.ensures.rest, c.skip.ensures.at, c.blanks-count.ensures.value, c.as_bytes.ensures.value)
    (omega (arith, front-bound is_blank c.args.self.now.rest.now, length-drop (prefix_len is_blank c.args.self.now.rest.now) c.args.self.now.rest.now))

pub returns-clause-first : goal.returns-clause-first
returns-clause-first c = rw (c.skip.ensures.rest, c.blanks-count.ensures.value, c.as_bytes.ensures.value) (front-ends is_blank c.args.self.now.rest.now)
