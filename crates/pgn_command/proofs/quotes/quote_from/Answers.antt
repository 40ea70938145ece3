use Rattle.std.proofs.Common.{ℕ, List, drop, Option, None, Some, sym, subst}
use Rattle.std.proofs.lemmas.List.{take_rest}
use Rattle.memchr.specs.Find.{IsFirstByte, is_byte}
use Rattle.pgn_command.specs.Texts.{FindsQuote}
use Rattle.pgn_command.proofs.QuoteLaws.{finds-quote}
use Rattle.pgn_command.proofs.quotes.quote_from.Goals as goal

pub returns : goal.returns
returns c =
    let first : IsFirstByte (is_byte c.args.quote) (drop c.args.from c.args.bytes.now) c.memchr.result = subst (λ (l : List ℕ). IsFirstByte (is_byte c.args.quote) l c.memchr.result) (take_rest c.args.bytes.now c.args.from) c.memchr.ensures in
    finds-quote c.args.quote c.args.from c.args.bytes.now (Some c.in_ok-next.next) c.requires (subst (λ (r : Option ℕ). IsFirstByte (is_byte c.args.quote) (drop c.args.from c.args.bytes.now) r) c.in_ok-next.was first)

pub returns-in_err-next : goal.returns-in_err-next
returns-in_err-next c =
    let first : IsFirstByte (is_byte c.args.quote) (drop c.args.from c.args.bytes.now) c.memchr.result = subst (λ (l : List ℕ). IsFirstByte (is_byte c.args.quote) l c.memchr.result) (take_rest c.args.bytes.now c.args.from) c.memchr.ensures in
    subst (λ (r : Option ℕ). FindsQuote c.args.quote c.args.bytes.now c.args.from r) (sym c.from_residual.ensures)
    (finds-quote c.args.quote c.args.from c.args.bytes.now None c.requires (subst (λ (r : Option ℕ). IsFirstByte (is_byte c.args.quote) (drop c.args.from c.args.bytes.now) r) c.in_err-next.was first))
