-- What may be told of one query, with one read behind its answer or none.
use Rattle.std.proofs.Common.{◌≡◌, ℕ, ◌==◌, false, List, [], ◌∷◌, ◌++◌, Option, Some, None, sym, ap, ◌∙◌, inl, inr, append-nil}
use Rattle.std.specs.Prelude.{flat_map, map, ◌⊎◌}
use Rattle.std.proofs.lemmas.Bool.{both_ways, eq-eqb}
use Rattle.pgn_answers.specs.declared.block_state.BlockState.TheVariants.{Idle}
use Rattle.pgn_model.specs.declared.item.Item.{Item}
use Rattle.pgn_model.specs.declared.item.Item.TheVariants.{Line}
use Rattle.pgn_requests.specs.declared.settled.Settled.{Settled}
use Rattle.pgn_requests.specs.Settings.{fresh}
use Rattle.pgn_messages.specs.declared.asked.Asked.{Asked}
use Rattle.pgn_messages.specs.declared.asked.Ask.TheVariants.{Query, Settle}
use Rattle.pgn_messages.specs.Served.{settled_answer, told_answer}
use Rattle.pgn_messages.specs.Turns.{IsRead, MayBeTold, after_line, heard, idle_state}
use Rattle.pgn_laws.proofs.ToldLaws.{one_query_is_told, one_settled_is_told}

-- numbers that differ, alone and as bytes among signs
pub apart : (a b : ℕ) → (a == b) ≡ false → a ≡ b → ⊥
apart a b e same = both_ways (a == b) e (eq-eqb a b same)

-- as bytes among signs
pub bytes_apart : (a b : ℕ) → (a == b) ≡ false → Some a ≡ Some b → ⊥
bytes_apart a b e signs = let same : a ≡ b = cc in apart a b e same

-- the end of a client is no byte
pub end_apart : (b : ℕ) → None ≡ Some b → ⊥
end_apart b signs = cc

-- the answer to a query with these items
abbrev pub answer_of : Asked → List Item → List (Option ℕ)
answer_of query more = map Some (told_answer query more (after_line idle_state query.command more).block)

none-behind : (answer : List Item → List (Option ℕ)) (within behind : List Item) (signs : List (Option ℕ)) → [] ≡ within ++ behind → signs ≡ answer within ++ map Some (flat_map heard behind)
    → signs ≡ answer []
none-behind answer [] [] signs s e = e ∙ append-nil (answer [])
none-behind answer [] (item ∷ behind) signs s e = let both : [] ≡ item ∷ behind = s in absurd (cc)
none-behind answer (item ∷ within) behind signs s e = let both : [] ≡ item ∷ (within ++ behind) = s in absurd (cc)

one-behind : (answer : List Item → List (Option ℕ)) (within behind : List Item) (read : Item) (signs : List (Option ℕ)) → read ∷ [] ≡ within ++ behind
    → signs ≡ answer within ++ map Some (flat_map heard behind) → (signs ≡ answer (read ∷ [])) ⊎ (signs ≡ answer [] ++ map Some (flat_map heard (read ∷ [])))
one-behind answer [] behind read signs s e = inr (e ∙ ap (λ (is : List Item). answer [] ++ map Some (flat_map heard is)) (sym s))
one-behind answer (item ∷ []) [] read signs s e =
    let both : read ∷ [] ≡ item ∷ [] = s in
    let same : item ≡ read = cc in
    inl (e ∙ append-nil (answer (item ∷ [])) ∙ ap (λ (i : Item). answer (i ∷ [])) same)
one-behind answer (item ∷ []) (other ∷ behind) read signs s e = let both : read ∷ [] ≡ item ∷ other ∷ behind = s in absurd (cc)
one-behind answer (item ∷ other ∷ within) behind read signs s e = let both : read ∷ [] ≡ item ∷ other ∷ (within ++ behind) = s in absurd (cc)

-- where no read is behind the last item
pub answer-alone : (seat : ℕ) (query : Asked) (front : List Item) (last : Item) (signs : List (Option ℕ)) → (IsRead last → ⊥) → MayBeTold seat (Query query ∷ []) (Line query.line ∷ (front ++ last ∷ [])) signs
    → signs ≡ answer_of query (front ++ last ∷ [])
answer-alone seat query front last signs other told =
    let all = one_query_is_told seat query front [] last signs other told in
    none-behind (λ is. answer_of query (front ++ last ∷ is)) all.within all.behind signs all.split all.told

-- where one read is: it stands in the answer, or behind it
pub answer-and-read : (seat : ℕ) (query : Asked) (front : List Item) (last read : Item) (signs : List (Option ℕ)) → (IsRead last → ⊥)
    → MayBeTold seat (Query query ∷ []) (Line query.line ∷ (front ++ last ∷ read ∷ [])) signs
    → (signs ≡ answer_of query (front ++ last ∷ read ∷ [])) ⊎ (signs ≡ answer_of query (front ++ last ∷ []) ++ map Some (flat_map heard (read ∷ [])))
answer-and-read seat query front last read signs other told =
    let all = one_query_is_told seat query front (read ∷ []) last signs other told in
    one-behind (λ is. answer_of query (front ++ last ∷ is)) all.within all.behind read signs all.split all.told

settled-between : (answer : List (Option ℕ)) (before behind : List Item) (signs : List (Option ℕ)) → [] ≡ before ++ behind
    → signs ≡ map Some (flat_map heard before) ++ (answer ++ map Some (flat_map heard behind)) → signs ≡ answer
settled-between answer [] [] signs s e = e ∙ append-nil answer
settled-between answer [] (item ∷ behind) signs s e = let both : [] ≡ item ∷ behind = s in absurd (cc)
settled-between answer (item ∷ before) behind signs s e = let both : [] ≡ item ∷ (before ++ behind) = s in absurd (cc)

-- what a client is told that asks one thing that is settled, where nothing is read
pub settled-alone : (seat : ℕ) (settled : Settled) (signs : List (Option ℕ)) → MayBeTold seat (Settle settled ∷ []) [] signs → signs ≡ map Some (settled_answer seat settled fresh Idle)
settled-alone seat settled signs told =
    let all = one_settled_is_told seat settled [] signs told in
    settled-between (map Some (settled_answer seat settled fresh Idle)) all.before all.behind signs all.split all.told
