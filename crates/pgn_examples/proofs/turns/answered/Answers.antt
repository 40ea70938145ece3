use Rattle.std.proofs.Common.{[], ◌∷◌, All, Some, None, refl}
use Rattle.std.specs.Fmt.{digits}
use Rattle.std.proofs.lemmas.List.Elements.{All-nil, All-cons}
use Rattle.pgn_base.specs.declared.answers.Refusal.TheVariants as refusal
use Rattle.pgn_base.specs.declared.answers.Tag.TheVariants as tag
use Rattle.pgn_base.specs.declared.answers.Warning.TheVariants as warning
use Rattle.pgn_base.specs.declared.answers.Which.TheVariants.{ChannelEmpty}
use Rattle.pgn_model.specs.declared.item.Item.TheVariants.{Publish, Refuse, Reply, Used}
use Rattle.pgn_messages.specs.declared.asked.Parting.TheVariants.{Extended}
use Rattle.pgn_messages.specs.Turns.{Turn, Answers, Leaves, IsPlain}
use Rattle.pgn_examples.specs.Turns.{call, sent}
use Rattle.pgn_examples.specs.Conversations.{colour, empty_call, measure}
use Rattle.pgn_examples.proofs.turns.answered.Goals as goal

one_plain : (turn : Turn) → IsPlain turn → All IsPlain (turn ∷ [])
one_plain turn h = All-cons IsPlain turn [] h (All-nil IsPlain)

pub returns-clause-called : goal.returns-clause-called
unfolding digits
returns-clause-called c =
    let called : Turn = Answers call (Publish 3 (sent ∷ []) ∷ Reply (tag.Select 1) None ∷ []) in
    record { turns = called ∷ []; plain = one_plain called refl; asked = refl; trace = refl; told = refl }

pub returns-clause-called_without_channel : goal.returns-clause-called_without_channel
returns-clause-called_without_channel c =
    let called : Turn = Answers empty_call (Refuse (refusal.Bounds ChannelEmpty) ∷ []) in
    record { turns = called ∷ []; plain = one_plain called refl; asked = refl; trace = refl; told = refl }

pub returns-clause-measured : goal.returns-clause-measured
unfolding digits
returns-clause-measured c =
    let measured : Turn = Answers measure (Used (record { at = 3; occupied = 1; limit = 256; floor_mark = 3; holder = None }) ∷ Reply (tag.Select 1) None ∷ []) in
    record { turns = measured ∷ []; plain = one_plain measured refl; asked = refl; trace = refl; told = refl }

pub returns-clause-complained : goal.returns-clause-complained
returns-clause-complained c =
    let coloured : Turn = Answers colour (Refuse (refusal.Syntax 0) ∷ []) in
    record { turns = coloured ∷ []; plain = one_plain coloured refl; asked = refl; trace = refl; told = refl }

pub returns-clause-extended : goal.returns-clause-extended
returns-clause-extended c =
    let leaves : Turn = Leaves Extended 1 (Reply tag.Rollback (Some warning.NotInBlock) ∷ []) (Reply tag.Unlisten None ∷ []) in
    record { turns = leaves ∷ []; plain = one_plain leaves (refl, refl); asked = refl; trace = refl; told = refl }
