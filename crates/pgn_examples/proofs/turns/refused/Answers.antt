use Rattle.std.proofs.Common.{◌≡◌, true, false, [], ◌∷◌, None, inl, inr}
use Rattle.std.proofs.lemmas.List.Elements.{All-head}
use Rattle.pgn_answers.specs.declared.block_state.BlockState.TheVariants.{Idle, InBlock}
use Rattle.pgn_base.specs.declared.answers.Tag.TheVariants as tag
use Rattle.pgn_model.specs.declared.item.Item.TheVariants.{Reply}
use Rattle.pgn_messages.specs.Asks.{seat_quit}
use Rattle.pgn_messages.specs.Turns.{IsRead}
use Rattle.pgn_examples.proofs.turns.refused.Goals as goal

pub returns-clause-read_in_block : goal.returns-clause-read_in_block
returns-clause-read_in_block c journal h =
    elim h.1.1.1.1.1.0.in_turn [
      | inl e ↦ (let idle : InBlock ≡ Idle = e in absurd (cc))
      | inr e ↦ (let none : seat_quit ∷ [] ≡ [] = e in absurd (cc))
    ]

pub returns-clause-two_lines : goal.returns-clause-two_lines
returns-clause-two_lines c h = let plain : true ≡ false = h in absurd (cc)

pub returns-clause-three_lines : goal.returns-clause-three_lines
returns-clause-three_lines c h = let plain : true ≡ false = h.0 in absurd (cc)

pub returns-clause-four_lines : goal.returns-clause-four_lines
returns-clause-four_lines c h = let plain : true ≡ false = h.1 in absurd (cc)

pub returns-clause-line_in_discard : goal.returns-clause-line_in_discard
returns-clause-line_in_discard c h = let plain : true ≡ false = h.0 in absurd (cc)

pub returns-clause-reply_between : goal.returns-clause-reply_between
returns-clause-reply_between c h = All-head IsRead (Reply tag.Listen None) [] h
