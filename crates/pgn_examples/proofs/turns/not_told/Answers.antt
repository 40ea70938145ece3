use Rattle.std.proofs.Common.{ℕ, List, [], ◌∷◌, ◌++◌, Option, Some, None, length, get_or, refl, ap, inl, inr}
use Rattle.std.specs.Prelude.{map}
use Rattle.pgn_base.specs.declared.answers.Tag.TheVariants as tag
use Rattle.pgn_model.specs.declared.item.Item.TheVariants.{Enlist, Publish, Reply, Read}
use Rattle.pgn_messages.specs.declared.asked.Parting.TheVariants.{Refused}
use Rattle.pgn_examples.specs.Turns.{call, listen, listen_bytes, other_bytes, rowless_bytes, sent, sent_by}
use Rattle.pgn_examples.proofs.TurnLaws.{answer-alone, answer-and-read, apart, bytes_apart, end_apart}
use Rattle.pgn_laws.proofs.ToldLaws.{one_end_is_told}
use Rattle.pgn_examples.proofs.turns.not_told.Goals as goal

-- the first sign
abbrev first_of : List (Option ℕ) → Option ℕ
first_of signs = get_or signs 0 None

pub returns-clause-ready_early : goal.returns-clause-ready_early
returns-clause-ready_early c told =
    let signs : List (Option ℕ) = map Some (90 ∷ 0 ∷ 0 ∷ 0 ∷ 5 ∷ 73 ∷ 67 ∷ 0 ∷ 0 ∷ 0 ∷ 11 ∷ 76 ∷ 73 ∷ 83 ∷ 84 ∷ 69 ∷ 78 ∷ 0 ∷ []) in
    bytes_apart 90 67 refl (ap first_of (answer-alone 1 listen (Enlist 3 3 ∷ []) (Reply tag.Listen None) signs (λ read. read) told))

pub returns-clause-read_twice : goal.returns-clause-read_twice
returns-clause-read_twice c told =
    elim (answer-and-read 1 listen (Enlist 3 3 ∷ []) (Reply tag.Listen None) (Read 3 4 (sent_by 1002 ∷ [])) (map Some (listen_bytes ++ other_bytes ++ other_bytes)) (λ read. read) told) [
      | inl e ↦ apart 44 31 refl (ap length e)
      | inr e ↦ apart 44 31 refl (ap length e)
    ]

pub returns-clause-read_left_out : goal.returns-clause-read_left_out
returns-clause-read_left_out c told =
    elim (answer-and-read 1 listen (Enlist 3 3 ∷ []) (Reply tag.Listen None) (Read 3 4 (sent_by 1002 ∷ [])) (map Some listen_bytes) (λ read. read) told) [
      | inl e ↦ apart 18 31 refl (ap length e)
      | inr e ↦ apart 18 31 refl (ap length e)
    ]

pub returns-clause-other_answer : goal.returns-clause-other_answer
returns-clause-other_answer c told =
    bytes_apart 67 84 refl (ap first_of (answer-alone 1 call (Publish 3 (sent ∷ []) ∷ []) (Reply (tag.Select 1) None) (map Some rowless_bytes) (λ read. read) told))

pub returns-clause-no_farewell : goal.returns-clause-no_farewell
returns-clause-no_farewell c told =
    let all = one_end_is_told 1 Refused 1 1 _ (None ∷ []) told in
    end_apart 69 (ap first_of all.1)
