use Rattle.std.proofs.Common.{[], ◌∷◌, All, None, refl}
use Rattle.std.proofs.lemmas.List.Elements.{All-nil, All-cons}
use Rattle.pgn_base.specs.declared.answers.Refusal.TheVariants as refusal
use Rattle.pgn_base.specs.declared.answers.Tag.TheVariants as tag
use Rattle.pgn_model.specs.declared.item.Item.TheVariants.{Enlist, Leave, Read, Refuse, Reply}
use Rattle.pgn_messages.specs.Turns.{Turn, Answers, Settles, Discards, IsPlain}
use Rattle.pgn_examples.specs.Turns.{listen, sent_by}
use Rattle.pgn_examples.specs.Conversations.{begin_first, sets_name}
use Rattle.pgn_examples.proofs.turns.discarding.Goals as goal

two_plain : (turn other : Turn) → IsPlain turn → IsPlain other → All IsPlain (turn ∷ other ∷ [])
two_plain turn other h k = All-cons IsPlain turn (other ∷ []) h (All-cons IsPlain other [] k (All-nil IsPlain))

pub returns-clause-outside : goal.returns-clause-outside
returns-clause-outside c =
    let discards : Turn = Discards 1 (Refuse (refusal.Syntax 0) ∷ []) (Reply tag.Unlisten None ∷ []) in
    record { turns = Settles sets_name ∷ discards ∷ []; plain = two_plain (Settles sets_name) discards tt (refl, refl); asked = refl; trace = refl; told = refl }

pub returns-clause-meanwhile : goal.returns-clause-meanwhile
returns-clause-meanwhile c =
    let listened : Turn = Answers listen (Enlist 3 3 ∷ Reply tag.Listen None ∷ []) in
    let discards : Turn = Discards 2 (Refuse (refusal.Syntax 0) ∷ Read 3 4 (sent_by 1002 ∷ []) ∷ []) (Leave ∷ Reply tag.Unlisten None ∷ []) in
    record { turns = listened ∷ discards ∷ []; plain = two_plain listened discards refl (refl, refl); asked = refl; trace = refl; told = refl }

pub returns-clause-in_block : goal.returns-clause-in_block
returns-clause-in_block c =
    let began : Turn = Answers begin_first (Reply tag.Begin None ∷ []) in
    let failed : Turn = Discards 2 (Refuse (refusal.Syntax 0) ∷ []) (Refuse refusal.Aborted ∷ []) in
    let ignored : Turn = Discards 4 (Refuse (refusal.Syntax 0) ∷ []) (Refuse refusal.Aborted ∷ []) in record {
      turns = began ∷ failed ∷ ignored ∷ [];
      plain = All-cons IsPlain began (failed ∷ ignored ∷ []) refl (two_plain failed ignored (refl, refl) (refl, refl));
      asked = refl;
      trace = refl;
      told = refl;
    }
