use Rattle.std.proofs.Common.{◌≡◌, ◌↔◌, true, sym, subst}
use Rattle.pgn_model.specs.declared.item.Item.{Item}
use Rattle.pgn_model.specs.Legal.{IsFullThere}
use Rattle.pgn_walk.specs.Basis.{journal_of, settings_of}
use Rattle.pgn_walk.proofs.BorneLaws.{full_none}
use Rattle.pgn_walk.proofs.borne.is_full_there.Goals as goal

pub returns-in-QueueFull : goal.returns-in-QueueFull
returns-in-QueueFull c =
    let basis = c.args.basis.now in
    subst (λ (i : Item). (c.was_full.result ≡ true) ↔ IsFullThere (settings_of basis) (journal_of basis) i) (sym c.in-QueueFull.is) c.was_full.ensures

pub returns-in_default : goal.returns-in_default
returns-in_default c = full_none (settings_of c.args.basis.now) (journal_of c.args.basis.now) c.args.item.now c.in_default.not-QueueFull
