use Rattle.std.proofs.Common.{sym, ap, ◌∙◌, subst}
use Rattle.pgn_listening.specs.Listening.{Listening}
use Rattle.pgn_model.specs.Walk.{quitting}
use Rattle.pgn_ledger.specs.declared.to_show.ToShow.{ToShow}
use Rattle.pgn_walk.specs.Steps.{BeginsFrom}
use Rattle.pgn_walk.proofs.LineLaws.{quits_idle, quits_listening}
use Rattle.pgn_walk.proofs.standing.Standing.quit.Goals as goal

pub returns-then-is_some : goal.returns-then-is_some
returns-then-is_some c =
    let old = c.args.self.now in
    let set = c.replace.new.dest in
    let block = c.drop_block.new.self in
    let watch = c.clear.new.self in
    subst (λ (left : ToShow). BeginsFrom old (record old { block = block; set = set; watch = watch; owed = left }) quitting) (sym c.set.ensures)
    (quits_listening old block set watch c.drop_block.ensures (ap (λ (s : Listening). s.channels) (c.replace.ensures.after ∙ c.new.ensures)) c.clear.ensures (sym c.is_some.ensures ∙ c.if-is_some.true))

pub returns-else-is_some : goal.returns-else-is_some
returns-else-is_some c =
    quits_idle c.args.self.now c.drop_block.new.self c.replace.new.dest c.clear.new.self c.drop_block.ensures (ap (λ (s : Listening). s.channels) (c.replace.ensures.after ∙ c.new.ensures)) c.clear.ensures
    (sym c.is_some.ensures ∙ c.if-is_some.false)
