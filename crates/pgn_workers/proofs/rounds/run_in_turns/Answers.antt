use Rattle.std.proofs.Common.{◌<◌, length, arith}
use Rattle.pgn_workers.specs.Parts.{part}
use Rattle.pgn_workers.proofs.RoundLaws.{all-none, on-err}
use Rattle.pgn_workers.proofs.rounds.run_in_turns.Goals as goal

pub end-requires : goal.end-requires
end-requires g c =
    let p = part c.args.workers.now c.args.hand.now in (
      p,
      record {
        begun = c.requires.begins;
        turns = c.laws.ensures.took_none p (c.laws.ensures.goes_begun p c.requires.begins);
        all_over = all-none (g.C.Work.over c.args.work.now) c.args.workers.now c.if-workers-eq0.true;
        some = tt;
      },
    )

pub end-requires-2 : goal.end-requires-2
end-requires-2 g c = (
  part c.args.workers.now c.args.hand.now,
  record {
    begun = c.requires.begins;
    turns = c.take_rounds-rounds.ensures.took;
    all_over = c.take_rounds-rounds.ensures.over;
    some = on-err c.take_rounds-rounds.result (0 < length c.args.workers.now) (omega (arith, c.if-workers-eq0.false));
  },
)
