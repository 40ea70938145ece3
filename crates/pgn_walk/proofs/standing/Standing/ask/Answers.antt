use Rattle.std.proofs.Common.{length, sym, subst}
use Rattle.std.proofs.lemmas.Result.{on_ok_weaker}
use Rattle.pgn_block.specs.declared.effect.Kind.TheVariants as kind
use Rattle.pgn_block.specs.declared.effect.Effect.TheVariants as effect
use Rattle.pgn_block.specs.declared.effect.Kind.{Kind}
use Rattle.pgn_walk.specs.declared.standing.Standing.{Standing}
use Rattle.pgn_ledger.specs.declared.to_show.ToShow.{ToShow}
use Rattle.pgn_walk.specs.Steps.{IsGivenBy}
use Rattle.pgn_walk.proofs.LineLaws.{gives_rows, gives_usage}
use Rattle.pgn_walk.proofs.standing.Standing.ask.Goals as goal

pub returns-in-ListeningChannels : goal.returns-in-ListeningChannels
returns-in-ListeningChannels c =
    let at = c.args.self.now in
    let channels = at.set.channels in
    on_ok_weaker c.list.result
    (λ h. subst (λ (k : Kind). IsGivenBy at (effect.Query k) channels (length channels) c.list.new.self) (sym c.in-ListeningChannels.is)
    (subst (λ (new : Standing). IsGivenBy at (effect.Query kind.ListeningChannels) channels (length channels) new) (sym h) (gives_rows at channels (length channels)))) c.list.ensures

pub returns-in-QueueUsage : goal.returns-in-QueueUsage
returns-in-QueueUsage c =
    let at = c.args.self.now in
    let channels = at.set.channels in
    subst (λ (k : Kind). IsGivenBy at (effect.Query k) channels (length channels) (record at { owed = c.set.new.self })) (sym c.in-QueueUsage.is)
    (subst (λ (left : ToShow). IsGivenBy at (effect.Query kind.QueueUsage) channels (length channels) (record at { owed = left })) (sym c.set.ensures) (gives_usage at channels (length channels)))
