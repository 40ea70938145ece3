use Rattle.std.proofs.Common.{◌∙◌, ap}
use Rattle.pgn_listening.specs.Listening.{Listening}
use Rattle.pgn_base.specs.Interest.{interest}
use Rattle.pgn_listening.proofs.listen_set.ListenSet.interest.Goals as goal

pub returns : goal.returns
returns c = c.word.ensures ∙ c.self.invariant.1.word ∙ ap (λ (set : Listening). interest set.channels) c.self.view_is
