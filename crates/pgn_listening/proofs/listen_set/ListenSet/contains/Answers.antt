use Rattle.std.proofs.Common.{is_some, ap, ◌∙◌}
use Rattle.pgn_listening.specs.Listening.{Listening}
use Rattle.pgn_base.specs.Names.{has_name}
use Rattle.pgn_listening.proofs.ListeningLaws.{is_some-place, any-listed}
use Rattle.pgn_listening.proofs.listen_set.ListenSet.contains.Goals as goal

pub returns-then-channel-le-NAME_BYTES_MAX : goal.returns-then-channel-le-NAME_BYTES_MAX
returns-then-channel-le-NAME_BYTES_MAX c =
    let found = rw c.new.ensures at c.contains_key.ensures in
    found ∙ ap is_some (c.self.invariant.0.there.found c.args.channel.now) ∙ is_some-place 0 c.args.channel.now c.self.inside.places.items
    ∙ ap (λ (set : Listening). has_name set.channels c.args.channel.now) c.self.view_is

pub returns : goal.returns
returns c =
    let found = rw c.deref.ensures.value at c.is_in.ensures in
    found ∙ any-listed c.args.channel.now c.self.inside.places.items ∙ ap (λ (set : Listening). has_name set.channels c.args.channel.now) c.self.view_is
