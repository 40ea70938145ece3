use Rattle.std.proofs.Common.{◌≡◌, ◌∷◌, ◌++◌, [], ℕ, None, refl, ap, ◌∙◌, rules}
use Rattle.pgn_base.specs.declared.answers.Tag.TheVariants as tag
use Rattle.pgn_model.specs.declared.item.Item.TheVariants.{Line, Channels, Reply}
use Rattle.pgn_block.specs.declared.effect.Effect.TheVariants as effect
use Rattle.pgn_block.specs.declared.effect.Kind.TheVariants.{ListeningChannels, QueueUsage}
use Rattle.pgn_session.proofs.command.answer.Goals as goal

pub returns-in-Nothing-clause-left : goal.returns-in-Nothing-clause-left
returns-in-Nothing-clause-left c = rw c.in-Nothing.is refl

pub returns-in-Nothing-clause-shown : goal.returns-in-Nothing-clause-shown
returns-in-Nothing-clause-shown c = rw c.in-Nothing.is c.put.ensures.items

pub returns-in-Reply-clause-left : goal.returns-in-Reply-clause-left
returns-in-Reply-clause-left c = rw c.in-Reply.is refl

pub returns-in-Reply-clause-shown : goal.returns-in-Reply-clause-shown
returns-in-Reply-clause-shown c = rw c.in-Reply.is c.show.ensures

pub returns-in-Refuse-clause-left : goal.returns-in-Refuse-clause-left
returns-in-Refuse-clause-left c = rw c.in-Refuse.is refl

pub returns-in-Refuse-clause-shown : goal.returns-in-Refuse-clause-shown
returns-in-Refuse-clause-shown c = rw c.in-Refuse.is c.show-in-Refuse.ensures

pub returns-in-Query-ListeningChannels-clause-left : goal.returns-in-Query-ListeningChannels-clause-left
returns-in-Query-ListeningChannels-clause-left c =
    let asks : c.args.taken.effect ≡ effect.Query ListeningChannels = search rules in
    rw asks refl

pub returns-in-Query-ListeningChannels-clause-shown : goal.returns-in-Query-ListeningChannels-clause-shown
returns-in-Query-ListeningChannels-clause-shown c =
    let asks : c.args.taken.effect ≡ effect.Query ListeningChannels = search rules in
    let names = c.args.taken.rows.names in
    rw asks (c.show_channels.ensures
    ∙ ap (λ (n : ℕ). c.args.items.now.items ++ Line c.args.line ∷ [] ++ Channels names ∷ [] ++ Reply (tag.Select n) None ∷ []) c.requires.count)

pub returns-in-Query-QueueUsage-clause-left : goal.returns-in-Query-QueueUsage-clause-left
returns-in-Query-QueueUsage-clause-left c =
    let asks : c.args.taken.effect ≡ effect.Query QueueUsage = search rules in
    rw asks refl

pub returns-in-Query-QueueUsage-clause-shown : goal.returns-in-Query-QueueUsage-clause-shown
returns-in-Query-QueueUsage-clause-shown c =
    let asks : c.args.taken.effect ≡ effect.Query QueueUsage = search rules in
    rw asks refl

pub returns-in-Query-QueueUsage-clause-room : goal.returns-in-Query-QueueUsage-clause-room
returns-in-Query-QueueUsage-clause-room c = λ usage. c.requires.room

pub returns-in-Commit-clause-left : goal.returns-in-Commit-clause-left
returns-in-Commit-clause-left c = rw c.in-Commit.is refl

pub returns-in-Commit-clause-shown : goal.returns-in-Commit-clause-shown
returns-in-Commit-clause-shown c = rw c.in-Commit.is refl
