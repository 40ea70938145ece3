use Rattle.std.proofs.Common.{◌≡◌, ◌+◌, ◌∙◌, ap, append-nil, arith, length, length-append}
use Rattle.pgn_text.proofs.PutsLaws.{Puts-kept, Puts-trans}
use Rattle.pgn_text.proofs.out.Out.quoted_in.Goals as goal

pub push-requires-then-push_unquoted : goal.push-requires-then-push_unquoted
push-requires-then-push_unquoted g c =
    let front : length c.push.new.self ≡ length c.args.self.now.kept + length c.args.quotes.front.now = ap length c.push.ensures ∙ length-append _ _ in
    omega (arith, c.push_unquoted.ensures.short)

pub returns : goal.returns
returns g c =
    let none = rw c.if-push_unquoted.false at c.push_unquoted.ensures.kept in
    Puts-trans (Puts-trans (Puts-kept _ _ _ _ _ _ _ (none ∙ append-nil _ ∙ c.push.ensures)) c.runs.ensures) c.text.ensures
