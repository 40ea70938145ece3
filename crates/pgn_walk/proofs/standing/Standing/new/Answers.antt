use Rattle.std.proofs.Common.{ℕ, None, ap, refl, sym, subst}
use Rattle.pgn_listening.specs.Listening.{Listening}
use Rattle.pgn_due.specs.Next.{IsWatch}
use Rattle.pgn_walk.proofs.StandingLaws.{holds_first}
use Rattle.pgn_walk.proofs.standing.Standing.new.Goals as goal

pub returns : goal.returns
returns c = λ section is.
    holds_first section c.args.feed.now.sends.journal.now _ refl refl c.new.ensures (ap (λ (set : Listening). set.channels) c.new-2.ensures) refl c.new-3.ensures refl c.with_hasher.ensures.empty
    (subst (λ (db : ℕ). IsWatch c.args.feed.now.sends.journal.now db c.new-2.result.channels None c.new-4.result) (sym is) (c.new-4.ensures c.new-2.result.channels))
