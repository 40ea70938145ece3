use Rattle.std.proofs.Common.{[], ◌∷◌, All, Some, None, refl}
use Rattle.std.proofs.lemmas.List.Elements.{All-nil, All-cons}
use Rattle.pgn_base.specs.declared.answers.Tag.TheVariants as tag
use Rattle.pgn_base.specs.declared.answers.Warning.TheVariants as warning
use Rattle.pgn_model.specs.declared.item.Item.TheVariants.{Enlist, Publish, Leave, Reply, Read}
use Rattle.pgn_messages.specs.declared.asked.Parting.{Parting}
use Rattle.pgn_messages.specs.declared.asked.Parting.TheVariants.{Plain, Refused, Spent}
use Rattle.pgn_messages.specs.Turns.{Turn, Answers, Hears, Leaves, IsPlain, IsRead}
use Rattle.pgn_examples.specs.Turns.{begin, listen, notify, sent, sent_by}
use Rattle.pgn_examples.proofs.turns.told.Goals as goal

-- the turns of the examples
abbrev listened : Turn
listened = Answers listen (Enlist 3 3 ∷ Reply tag.Listen None ∷ [])

abbrev heard_one : Turn
heard_one = Hears (Read 3 4 (sent_by 1002 ∷ []) ∷ [])

abbrev left_early : Parting → Turn
left_early parting = Leaves parting 1 (Reply tag.Rollback (Some warning.NotInBlock) ∷ []) (Reply tag.Unlisten None ∷ [])

one_plain : (turn : Turn) → IsPlain turn → All IsPlain (turn ∷ [])
one_plain turn h = All-cons IsPlain turn [] h (All-nil IsPlain)

two_plain : (turn other : Turn) → IsPlain turn → IsPlain other → All IsPlain (turn ∷ other ∷ [])
two_plain turn other h k = All-cons IsPlain turn (other ∷ []) h (one_plain other k)

heard_plain : IsPlain heard_one
heard_plain = All-cons IsRead (Read 3 4 (sent_by 1002 ∷ [])) [] tt (All-nil IsRead)

pub returns-clause-within_an_answer : goal.returns-clause-within_an_answer
returns-clause-within_an_answer c =
    let notified : Turn = Answers notify (Publish 3 (sent ∷ []) ∷ Reply tag.Notify None ∷ Read 3 4 (sent_by 1001 ∷ []) ∷ []) in
    record { turns = listened ∷ notified ∷ []; plain = two_plain listened notified refl refl; asked = refl; trace = refl; told = refl }

pub returns-clause-at_once : goal.returns-clause-at_once
returns-clause-at_once c = record { turns = listened ∷ heard_one ∷ []; plain = two_plain listened heard_one refl heard_plain; asked = refl; trace = refl; told = refl }

pub returns-clause-between_lines : goal.returns-clause-between_lines
returns-clause-between_lines c =
    let began : Turn = Answers begin (Reply tag.Begin None ∷ []) in record {
      turns = listened ∷ heard_one ∷ began ∷ [];
      plain = All-cons IsPlain listened (heard_one ∷ began ∷ []) refl (two_plain heard_one began heard_plain refl);
      asked = refl;
      trace = refl;
      told = refl;
    }

pub returns-clause-left : goal.returns-clause-left
returns-clause-left c =
    let leaves : Turn = Leaves Plain 2 (Reply tag.Rollback (Some warning.NotInBlock) ∷ []) (Leave ∷ Reply tag.Unlisten None ∷ []) in
    record { turns = listened ∷ leaves ∷ []; plain = two_plain listened leaves refl (refl, refl); asked = refl; trace = refl; told = refl }

pub returns-clause-refused : goal.returns-clause-refused
returns-clause-refused c = record { turns = left_early Refused ∷ []; plain = one_plain (left_early Refused) (refl, refl); asked = refl; trace = refl; told = refl }

pub returns-clause-spent : goal.returns-clause-spent
returns-clause-spent c = record { turns = left_early Spent ∷ []; plain = one_plain (left_early Spent) (refl, refl); asked = refl; trace = refl; told = refl }
