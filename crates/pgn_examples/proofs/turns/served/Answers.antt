use Rattle.std.proofs.Common.{[], ◌∷◌, All, None, refl}
use Rattle.std.specs.Fmt.{digits}
use Rattle.std.proofs.lemmas.List.Elements.{All-nil, All-cons}
use Rattle.pgn_base.specs.declared.answers.Refusal.TheVariants as refusal
use Rattle.pgn_base.specs.declared.answers.Tag.TheVariants as tag
use Rattle.pgn_model.specs.declared.item.Item.TheVariants.{Refuse, Reply}
use Rattle.pgn_requests.specs.declared.settled.Settled.TheVariants.{One, Process, Version}
use Rattle.pgn_messages.specs.Turns.{Turn, Answers, Settles, Discards, IsPlain}
use Rattle.pgn_examples.specs.Conversations.{begin_first, resets_name, sets_digits, sets_name, sets_nothing, shows_name}
use Rattle.pgn_examples.proofs.turns.served.Goals as goal

one_plain : (turn : Turn) → IsPlain turn → All IsPlain (turn ∷ [])
one_plain turn h = All-cons IsPlain turn [] h (All-nil IsPlain)

pub returns-clause-one : goal.returns-clause-one
returns-clause-one c = record { turns = Settles One ∷ []; plain = one_plain (Settles One) tt; asked = refl; trace = refl; told = refl }

pub returns-clause-version : goal.returns-clause-version
returns-clause-version c = record { turns = Settles Version ∷ []; plain = one_plain (Settles Version) tt; asked = refl; trace = refl; told = refl }

pub returns-clause-process : goal.returns-clause-process
unfolding digits
returns-clause-process c = record { turns = Settles Process ∷ []; plain = one_plain (Settles Process) tt; asked = refl; trace = refl; told = refl }

pub returns-clause-named : goal.returns-clause-named
returns-clause-named c = record {
  turns = Settles sets_name ∷ Settles shows_name ∷ Settles resets_name ∷ [];
  plain = All-cons IsPlain (Settles sets_name) (Settles shows_name ∷ Settles resets_name ∷ []) tt (All-cons IsPlain (Settles shows_name) (Settles resets_name ∷ []) tt (one_plain (Settles resets_name) tt));
  asked = refl;
  trace = refl;
  told = refl;
}

pub returns-clause-unreported : goal.returns-clause-unreported
returns-clause-unreported c = record { turns = Settles sets_digits ∷ []; plain = one_plain (Settles sets_digits) tt; asked = refl; trace = refl; told = refl }

pub returns-clause-same_value : goal.returns-clause-same_value
returns-clause-same_value c = record { turns = Settles sets_nothing ∷ []; plain = one_plain (Settles sets_nothing) tt; asked = refl; trace = refl; told = refl }

pub returns-clause-one_in_failed_block : goal.returns-clause-one_in_failed_block
returns-clause-one_in_failed_block c =
    let began : Turn = Answers begin_first (Reply tag.Begin None ∷ []) in
    let failed : Turn = Discards 2 (Refuse (refusal.Syntax 0) ∷ []) (Refuse refusal.Aborted ∷ []) in record {
      turns = began ∷ failed ∷ Settles One ∷ [];
      plain = All-cons IsPlain began (failed ∷ Settles One ∷ []) refl (All-cons IsPlain failed (Settles One ∷ []) (refl, refl) (one_plain (Settles One) tt));
      asked = refl;
      trace = refl;
      told = refl;
    }
