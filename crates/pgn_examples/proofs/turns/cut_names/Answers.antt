use Rattle.std.proofs.Common.{[], ◌∷◌, ◌++◌, All, None, Some, length, refl, ap}
use Rattle.std.specs.Prelude.{map}
use Rattle.std.proofs.lemmas.List.Elements.{All-nil, All-cons}
use Rattle.pgn_base.specs.declared.answers.Refusal.TheVariants as refusal
use Rattle.pgn_base.specs.declared.answers.Tag.TheVariants as tag
use Rattle.pgn_language.specs.Grammar.{cut}
use Rattle.pgn_model.specs.declared.item.Item.TheVariants.{Enlist, Refuse, Reply}
use Rattle.pgn_messages.specs.declared.asked.Asked.{Asked}
use Rattle.pgn_messages.specs.Turns.{Turn, Answers, Discards, IsPlain}
use Rattle.pgn_examples.specs.Turns.{listen_bytes}
use Rattle.pgn_examples.specs.Conversations.{begin_first, failed_listen, long_listen, long_notice, quoted_listen, short_listen, wide_listen}
use Rattle.pgn_examples.proofs.TurnLaws.{answer-alone, apart}
use Rattle.pgn_examples.proofs.turns.cut_names.Goals as goal

one_plain : (turn : Turn) → IsPlain turn → All IsPlain (turn ∷ [])
one_plain turn h = All-cons IsPlain turn [] h (All-nil IsPlain)

-- the query was answered
abbrev listened : Asked → Turn
listened query = Answers query (Enlist 3 3 ∷ Reply tag.Listen None ∷ [])

pub returns-clause-long : goal.returns-clause-long
unfolding cut
returns-clause-long c = record { turns = listened long_listen ∷ []; plain = one_plain (listened long_listen) refl; asked = refl; trace = refl; told = refl }

pub returns-clause-short : goal.returns-clause-short
unfolding cut
returns-clause-short c = record { turns = listened short_listen ∷ []; plain = one_plain (listened short_listen) refl; asked = refl; trace = refl; told = refl }

pub returns-clause-quoted : goal.returns-clause-quoted
unfolding cut
returns-clause-quoted c = record { turns = listened quoted_listen ∷ []; plain = one_plain (listened quoted_listen) refl; asked = refl; trace = refl; told = refl }

pub returns-clause-wide : goal.returns-clause-wide
unfolding cut
returns-clause-wide c = record { turns = listened wide_listen ∷ []; plain = one_plain (listened wide_listen) refl; asked = refl; trace = refl; told = refl }

pub returns-clause-in_failed_block : goal.returns-clause-in_failed_block
unfolding cut
returns-clause-in_failed_block c =
    let began : Turn = Answers begin_first (Reply tag.Begin None ∷ []) in
    let failed : Turn = Discards 2 (Refuse (refusal.Syntax 0) ∷ []) (Refuse refusal.Aborted ∷ []) in
    let refused : Turn = Answers failed_listen (Refuse refusal.Aborted ∷ []) in record {
      turns = began ∷ failed ∷ refused ∷ [];
      plain = All-cons IsPlain began (failed ∷ refused ∷ []) refl (All-cons IsPlain failed (refused ∷ []) (refl, refl) (one_plain refused refl));
      asked = refl;
      trace = refl;
      told = refl;
    }

pub returns-clause-no_notice : goal.returns-clause-no_notice
unfolding cut
returns-clause-no_notice c told = apart 18 213 refl (ap length (answer-alone 1 long_listen (Enlist 3 3 ∷ []) (Reply tag.Listen None) (map Some listen_bytes) (λ read. read) told))

pub returns-clause-needless : goal.returns-clause-needless
unfolding cut
returns-clause-needless c told = apart 213 18 refl (ap length (answer-alone 1 short_listen (Enlist 3 3 ∷ []) (Reply tag.Listen None) (map Some (long_notice ++ listen_bytes)) (λ read. read) told))
