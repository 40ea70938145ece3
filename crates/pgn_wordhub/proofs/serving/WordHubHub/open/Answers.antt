use Rattle.std.proofs.Common.{◌∙◌, sym, ap}
use Rattle.pgn_hub.specs.Shape.{Shape}
use Rattle.pgn_hub.specs.Passes.{opened_passes}
use Rattle.pgn_words.specs.Passes.{shape_of}
use Rattle.pgn_wordhub.proofs.OpenedLaws.{opened_passes_are}
use Rattle.pgn_wordhub.proofs.serving.WordHubHub.open.Goals as goal

pub returns-clause-own : goal.returns-clause-own
returns-clause-own c k d below = record {
  own = c.in_ok-queue.ensures.own k d below;
  view = opened_passes_are (shape_of c.in_ok-queue.queue) c.in_ok-queue.passes.items k d
      (c.in_ok-queue.ensures.passes ∙ ap (λ (z : Shape). opened_passes 1 z.seats) (sym c.in_ok-queue.ensures.shape)) c.in_ok-queue.ensures.free below;
}
