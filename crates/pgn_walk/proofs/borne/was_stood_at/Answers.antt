use Rattle.std.proofs.Common.{◌≡◌, ◌↔◌, true, sym, subst}
use Rattle.std.specs.Prelude.{All}
use Rattle.pgn_model.specs.declared.item.Item.{Item}
use Rattle.pgn_reading.specs.Shown.{ShowsMark, named_shown}
use Rattle.pgn_walk.proofs.BorneLaws.{named_none}
use Rattle.pgn_walk.proofs.borne.was_stood_at.Goals as goal

pub returns-in-QueueFull : goal.returns-in-QueueFull
returns-in-QueueFull c = λ sections traces is. subst (λ (i : Item). (c.held.result ≡ true) ↔ All (ShowsMark traces) (named_shown i)) (sym c.in-QueueFull.is) (c.held.ensures sections traces is)

pub returns-in-Used : goal.returns-in-Used
returns-in-Used c = λ sections traces is. subst (λ (i : Item). (c.held-in-Used.result ≡ true) ↔ All (ShowsMark traces) (named_shown i)) (sym c.in-Used.is) (c.held-in-Used.ensures sections traces is)

pub returns-in_default : goal.returns-in_default
returns-in_default c = λ sections traces is. named_none traces c.args.item.now c.in_default.not-QueueFull c.in_default.not-Used
