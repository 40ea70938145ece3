-- All that may be told.
use Rattle.std.proofs.Common.{◌≡◌, ℕ, ◌+◌, List, [], ◌∷◌, ◌++◌, All, Option, Some, None, append_assoc, append-nil, sym, ap, ◌∙◌, subst, refl, inl, inr}
use Rattle.std.specs.Prelude.{fold, flat_map, map}
use Rattle.std.proofs.lemmas.List.{map-append}
use Rattle.std.proofs.lemmas.List.Elements.{All-nil, All-head, All-tail, All-append}
use Rattle.std.proofs.lemmas.Grind.{flat_map-append}
use Rattle.pgn_answers.specs.declared.block_state.BlockState.{BlockState}
use Rattle.pgn_answers.specs.declared.block_state.BlockState.TheVariants.{Idle}
use Rattle.pgn_model.specs.declared.item.Item.{Item}
use Rattle.pgn_model.specs.declared.item.Item.TheVariants.{Line, Read}
use Rattle.pgn_model.specs.Walk.{State, after_item}
use Rattle.pgn_requests.specs.declared.settled.Settled.{Settled}
use Rattle.pgn_requests.specs.Settings.{Kept, fresh}
use Rattle.pgn_messages.specs.declared.asked.Asked.{Asked}
use Rattle.pgn_messages.specs.declared.asked.Ask.{Ask}
use Rattle.pgn_messages.specs.declared.asked.Ask.TheVariants.{Query, Settle, Discard, End}
use Rattle.pgn_messages.specs.declared.asked.Parting.{Parting}
use Rattle.pgn_messages.specs.Served.{discard_answer, settled_answer, told_answer}
use Rattle.pgn_messages.specs.Turns.{Telling, Turn, Answers, Hears, Leaves, Settles, Discards, IsPlain, IsRead, after_line, asked_in, asks_of, farewell, first_telling, heard, idle_state, items_in, items_of, signs_in, signs_said, telling_after}
use Rattle.pgn_messages.specs.TurnLaws.{IsAskedFor, IsDiscardTold, IsSettledTold, IsToldOf, OneDiscardIsTold, OneEndIsTold, OneQueryIsTold, OneSettledIsTold, ReadsAreHeard}
use Rattle.pgn_laws.proofs.PlaceLaws.{in_one_of, read-at}

-- what is said of a turn that ends no client, and then this
bare : (said : List ℕ) (more : List (Option ℕ)) → (map Some said ++ []) ++ more ≡ map Some said ++ more
bare said more = ap (λ (l : List (Option ℕ)). l ++ more) (append-nil (map Some said))

-- where nothing is asked
pub quiet : (seat : ℕ) (t : Telling) (turns : List Turn) → All IsPlain turns → asks_of turns ≡ []
    → All IsRead (items_of turns) × (signs_said seat t turns ≡ map Some (flat_map heard (items_of turns)))
quiet seat t [] h e = (All-nil IsRead, refl)
quiet seat t (Answers query more ∷ turns) h e = let both : Query query ∷ asks_of turns ≡ [] = e in absurd (cc)
quiet seat t (Leaves parting line rolled unlistened ∷ turns) h e = let both : End line parting ∷ asks_of turns ≡ [] = e in absurd (cc)
quiet seat t (Settles settled ∷ turns) h e = let both : Settle settled ∷ asks_of turns ≡ [] = e in absurd (cc)
quiet seat t (Discards line refused unlistened ∷ turns) h e = let both : Discard line ∷ asks_of turns ≡ [] = e in absurd (cc)
quiet seat t (Hears reads ∷ turns) h e =
    let behind : Telling = telling_after t (Hears reads) in
    let further = quiet seat behind turns (All-tail IsPlain (Hears reads) turns h) e in (
      All-append IsRead reads (items_of turns) (All-head IsPlain (Hears reads) turns h) further.0,
      bare (flat_map heard reads) (signs_said seat behind turns)
          ∙ ap (λ (l : List (Option ℕ)). map Some (flat_map heard reads) ++ l) further.1
          ∙ sym (map-append Some (flat_map heard reads) (flat_map heard (items_of turns)))
          ∙ ap (λ (bytes : List ℕ). map Some bytes) (sym (flat_map-append heard reads (items_of turns))),
    )

-- where nothing is asked, all items are reads, and what is told is what is heard of them
pub reads_are_heard : ReadsAreHeard
reads_are_heard seat items signs told =
    let all = quiet seat first_telling told.turns told.plain told.asked in
    subst (λ (is : List Item). All IsRead is × (signs ≡ map Some (flat_map heard is))) told.trace (all.0, sym told.told ∙ all.1)

-- what is asked has a line
abbrev TakesLine : Ask → Type 0
TakesLine (Settle settled) = ⊥
TakesLine ask = Unit {0}

-- the turn that begins a line, behind which the others stand
pub record FirstTurn (seat : ℕ) (s : State) (kept : Kept) (turns : List Turn) (n : ℕ) (items : List Item) : Type 0 where
  pub turn : Turn
  pub back : List Turn
  pub asked_for : IsAskedFor turn
  pub others : All IsPlain back
  pub trace : items_in turn ++ items_of back ≡ Line n ∷ items
  pub asked : asks_of turns ≡ asked_in turn ++ asks_of back
  pub told : (let t : Telling = record { walk = s; kept = kept } in signs_said seat t turns ≡ signs_in seat t turn ++ signs_said seat (telling_after t turn) back)

-- turns of one thing asked, whose items begin with its line, begin with the turn that asks for it
pub first-turn : (seat : ℕ) (s : State) (kept : Kept) (turns : List Turn) (n : ℕ) (items : List Item) (ask : Ask) → TakesLine ask → All IsPlain turns → asks_of turns ≡ ask ∷ []
    → items_of turns ≡ Line n ∷ items → FirstTurn seat s kept turns n items
first-turn seat s kept [] n items ask lined h asks e = let both : [] ≡ Line n ∷ items = e in absurd (cc)
first-turn seat s kept (Answers query more ∷ turns) n items ask lined h asks e =
    record { turn = Answers query more; back = turns; asked_for = tt; others = All-tail IsPlain (Answers query more) turns h; trace = e; asked = refl; told = refl }
first-turn seat s kept (Leaves parting line rolled unlistened ∷ turns) n items ask lined h asks e = record {
  turn = Leaves parting line rolled unlistened;
  back = turns;
  asked_for = tt;
  others = All-tail IsPlain (Leaves parting line rolled unlistened) turns h;
  trace = e;
  asked = refl;
  told = refl;
}
first-turn seat s kept (Discards line refused unlistened ∷ turns) n items ask lined h asks e = record {
  turn = Discards line refused unlistened;
  back = turns;
  asked_for = tt;
  others = All-tail IsPlain (Discards line refused unlistened) turns h;
  trace = e;
  asked = refl;
  told = refl;
}
first-turn seat s kept (Settles settled ∷ turns) n items ask lined h asks e =
    let both : Settle settled ∷ asks_of turns ≡ ask ∷ [] = asks in
    let same : ask ≡ Settle settled = cc in
    absurd (subst TakesLine same lined)
first-turn seat s kept (Hears [] ∷ turns) n items ask lined h asks e =
    let further = first-turn seat s kept turns n items ask lined (All-tail IsPlain (Hears []) turns h) asks e in
    record { turn = further.turn; back = further.back; asked_for = further.asked_for; others = further.others; trace = further.trace; asked = further.asked; told = further.told }
first-turn seat s kept (Hears (item ∷ reads) ∷ turns) n items ask lined h asks e =
    let both : item ∷ (reads ++ items_of turns) ≡ Line n ∷ items = e in
    let first : item ≡ Line n = cc in
    let read : IsRead (Line n) = subst IsRead first (All-head IsRead item reads (All-head IsPlain (Hears (item ∷ reads)) turns h)) in
    absurd read

-- the answer to the one query
answered : (seat : ℕ) (turn : Turn) (back : List Turn) (query : Asked) (front reads : List Item) (last : Item) → (IsRead last → ⊥) → IsAskedFor turn → All IsPlain back
    → items_in turn ++ items_of back ≡ Line query.line ∷ (front ++ last ∷ reads) → asked_in turn ++ asks_of back ≡ Query query ∷ []
    → IsToldOf query front last reads (signs_in seat first_telling turn ++ signs_said seat (telling_after first_telling turn) back)
answered seat (Hears others) back query front reads last other asked plain trace asks = absurd asked
answered seat (Leaves parting line rolled unlistened) back query front reads last other asked plain trace asks =
    let both : End line parting ∷ asks_of back ≡ Query query ∷ [] = asks in
    absurd (cc)
answered seat (Settles settled) back query front reads last other asked plain trace asks =
    let both : Settle settled ∷ asks_of back ≡ Query query ∷ [] = asks in
    absurd (cc)
answered seat (Discards line refused unlistened) back query front reads last other asked plain trace asks =
    let both : Discard line ∷ asks_of back ≡ Query query ∷ [] = asks in
    absurd (cc)
answered seat (Answers one more) back query front reads last other asked plain trace asks =
    let both : Query one ∷ asks_of back ≡ Query query ∷ [] = asks in
    let same : one ≡ query = cc in
    let none : asks_of back ≡ [] = cc in
    let all : Line one.line ∷ (more ++ items_of back) ≡ Line query.line ∷ (front ++ last ∷ reads) = trace in
    let items : more ++ items_of back ≡ front ++ last ∷ reads = cc in
    let behind : Telling = telling_after first_telling (Answers one more) in
    let further = quiet seat behind back plain none in
    let bytes : Asked → List Item → List ℕ = λ asked is. told_answer asked is (after_line idle_state asked.command is).block in
    let answer : Asked → List Item → List (Option ℕ) = λ asked is. map Some (bytes asked is) in
    elim (in_one_of more (items_of back) front reads last items) [
      | inl h ↦ record {
        within = h.0;
        behind = items_of back;
        split = h.2;
        told = bare (bytes one more) (signs_said seat behind back)
            ∙ ap (λ (l : List (Option ℕ)). answer one more ++ l) further.1
            ∙ ap (λ (is : List Item). answer one is ++ map Some (flat_map heard (items_of back))) h.1
            ∙ ap (λ (a : Asked). answer a (front ++ last ∷ h.0) ++ map Some (flat_map heard (items_of back))) same;
      }
      | inr h ↦ absurd (other (read-at h.0 reads last (subst (λ (is : List Item). All IsRead is) h.2 further.0)))
    ]

-- of one query its answer is told, with the first of the reads behind its last item, and then the others
pub one_query_is_told : OneQueryIsTold
one_query_is_told seat query front reads last signs other told =
    let first = first-turn seat idle_state fresh told.turns query.line (front ++ last ∷ reads) (Query query) tt told.plain told.asked told.trace in
    let all : signs_in seat first_telling first.turn ++ signs_said seat (telling_after first_telling first.turn) first.back ≡ signs = sym first.told ∙ told.told in
    subst (λ (l : List (Option ℕ)). IsToldOf query front last reads l) all
    (answered seat first.turn first.back query front reads last other first.asked_for first.others first.trace (sym first.asked ∙ told.asked))

-- what is told of the one end
ended : (seat : ℕ) (turn : Turn) (back : List Turn) (parting : Parting) (line : ℕ) → IsAskedFor turn → All IsPlain back → asked_in turn ++ asks_of back ≡ End line parting ∷ []
    → (reads : List Item)
    × (signs_in seat first_telling turn ++ signs_said seat (telling_after first_telling turn) back ≡ map Some (farewell parting) ++ None ∷ map Some (flat_map heard reads))
ended seat (Hears reads) back parting line asked plain asks = absurd asked
ended seat (Answers query more) back parting line asked plain asks = let both : Query query ∷ asks_of back ≡ End line parting ∷ [] = asks in absurd (cc)
ended seat (Settles settled) back parting line asked plain asks = let both : Settle settled ∷ asks_of back ≡ End line parting ∷ [] = asks in absurd (cc)
ended seat (Discards n refused unlistened) back parting line asked plain asks = let both : Discard n ∷ asks_of back ≡ End line parting ∷ [] = asks in absurd (cc)
ended seat (Leaves one n rolled unlistened) back parting line asked plain asks =
    let both : End n one ∷ asks_of back ≡ End line parting ∷ [] = asks in
    let same : one ≡ parting = cc in
    let none : asks_of back ≡ [] = cc in
    let behind : Telling = telling_after first_telling (Leaves one n rolled unlistened) in
    let further = quiet seat behind back plain none in (
      items_of back,
      append_assoc (map Some (farewell one)) (None ∷ []) (signs_said seat behind back)
          ∙ ap (λ (l : List (Option ℕ)). map Some (farewell one) ++ None ∷ l) further.1
          ∙ ap (λ (p : Parting). map Some (farewell p) ++ None ∷ map Some (flat_map heard (items_of back))) same,
    )

-- of one end the farewell is told, the end, and then what is heard of reads
pub one_end_is_told : OneEndIsTold
one_end_is_told seat parting line n items signs told =
    let first = first-turn seat idle_state fresh told.turns n items (End line parting) tt told.plain told.asked told.trace in
    let all : signs_in seat first_telling first.turn ++ signs_said seat (telling_after first_telling first.turn) first.back ≡ signs = sym first.told ∙ told.told in
    let end = ended seat first.turn first.back parting line first.asked_for first.others (sym first.asked ∙ told.asked) in
    (end.0, sym all ∙ end.1)

-- reads leave a block as it is
read-block : (s : State) (item : Item) → IsRead item → (after_item s item).block ≡ s.block
read-block s (Read from to got) h = refl
read-block s item h = absurd h

reads-block : (s : State) (reads : List Item) → All IsRead reads → (fold after_item s reads).block ≡ s.block
reads-block s [] h = refl
reads-block s (item ∷ reads) h = reads-block (after_item s item) reads (All-tail IsRead item reads h) ∙ read-block s item (All-head IsRead item reads h)

-- what is told of the one thing that is settled
one-settled : (seat : ℕ) (t : Telling) (turns : List Turn) (settled : Settled) → All IsPlain turns → asks_of turns ≡ Settle settled ∷ []
    → IsSettledTold seat settled t.kept t.walk.block (items_of turns) (signs_said seat t turns)
one-settled seat t [] settled h e = let both : [] ≡ Settle settled ∷ [] = e in absurd (cc)
one-settled seat t (Answers query more ∷ turns) settled h e = let both : Query query ∷ asks_of turns ≡ Settle settled ∷ [] = e in absurd (cc)
one-settled seat t (Leaves parting line rolled unlistened ∷ turns) settled h e = let both : End line parting ∷ asks_of turns ≡ Settle settled ∷ [] = e in absurd (cc)
one-settled seat t (Discards line refused unlistened ∷ turns) settled h e = let both : Discard line ∷ asks_of turns ≡ Settle settled ∷ [] = e in absurd (cc)
one-settled seat t (Settles one ∷ turns) settled h e =
    let both : Settle one ∷ asks_of turns ≡ Settle settled ∷ [] = e in
    let same : one ≡ settled = cc in
    let none : asks_of turns ≡ [] = cc in
    let behind : Telling = telling_after t (Settles one) in
    let further = quiet seat behind turns (All-tail IsPlain (Settles one) turns h) none in
    let answer : Settled → List ℕ = λ a. settled_answer seat a t.kept t.walk.block in record {
      before = [];
      behind = items_of turns;
      split = refl;
      reads = further.0;
      told = bare (answer one) (signs_said seat behind turns)
          ∙ ap (λ (l : List (Option ℕ)). map Some (answer one) ++ l) further.1
          ∙ ap (λ (a : Settled). map Some (answer a) ++ map Some (flat_map heard (items_of turns))) same;
    }
one-settled seat t (Hears reads ∷ turns) settled h e =
    let own : All IsRead reads = All-head IsPlain (Hears reads) turns h in
    let behind : Telling = telling_after t (Hears reads) in
    let further : IsSettledTold seat settled t.kept behind.walk.block (items_of turns) (signs_said seat behind turns) =
    one-settled seat behind turns settled (All-tail IsPlain (Hears reads) turns h) e in
    let answer : BlockState → List ℕ = λ state. settled_answer seat settled t.kept state in
    let rest : List (Option ℕ) = map Some (flat_map heard further.behind) in record {
      before = reads ++ further.before;
      behind = further.behind;
      split = ap (λ (is : List Item). reads ++ is) further.split ∙ sym (append_assoc reads further.before further.behind);
      reads = All-append IsRead reads (items_of turns) own further.reads;
      told = bare (flat_map heard reads) (signs_said seat behind turns)
          ∙ ap (λ (l : List (Option ℕ)). map Some (flat_map heard reads) ++ l) further.told
          ∙ ap (λ (state : BlockState). map Some (flat_map heard reads) ++ (map Some (flat_map heard further.before) ++ (map Some (answer state) ++ rest))) (reads-block t.walk reads own)
          ∙ sym (append_assoc (map Some (flat_map heard reads)) (map Some (flat_map heard further.before)) (map Some (answer t.walk.block) ++ rest))
          ∙ ap (λ (l : List (Option ℕ)). l ++ (map Some (answer t.walk.block) ++ rest))
          (sym (map-append Some (flat_map heard reads) (flat_map heard further.before)) ∙ ap (λ (bytes : List ℕ). map Some bytes) (sym (flat_map-append heard reads further.before)));
    }

-- of one thing that is settled its answer is told, whole, between what is heard before it and behind it
pub one_settled_is_told : OneSettledIsTold
one_settled_is_told seat settled items signs told =
    let all = one-settled seat first_telling told.turns settled told.plain told.asked in
    subst (λ (l : List (Option ℕ)). IsSettledTold seat settled fresh Idle items l) told.told
    (subst (λ (is : List Item). IsSettledTold seat settled fresh Idle is (signs_said seat first_telling told.turns)) told.trace all)

-- what is told of the one `DISCARD ALL`
discarded-all : (seat : ℕ) (turn : Turn) (back : List Turn) (line n : ℕ) (items : List Item) → IsAskedFor turn → All IsPlain back → items_in turn ++ items_of back ≡ Line n ∷ items
    → asked_in turn ++ asks_of back ≡ Discard line ∷ [] → IsDiscardTold line items (signs_in seat first_telling turn ++ signs_said seat (telling_after first_telling turn) back)
discarded-all seat (Hears reads) back line n items asked plain trace asks = absurd asked
discarded-all seat (Answers query more) back line n items asked plain trace asks = let both : Query query ∷ asks_of back ≡ Discard line ∷ [] = asks in absurd (cc)
discarded-all seat (Settles settled) back line n items asked plain trace asks = let both : Settle settled ∷ asks_of back ≡ Discard line ∷ [] = asks in absurd (cc)
discarded-all seat (Leaves parting m rolled unlistened) back line n items asked plain trace asks = let both : End m parting ∷ asks_of back ≡ Discard line ∷ [] = asks in absurd (cc)
discarded-all seat (Discards one refused unlistened) back line n items asked plain trace asks =
    let both : Discard one ∷ asks_of back ≡ Discard line ∷ [] = asks in
    let same : one ≡ line = cc in
    let none : asks_of back ≡ [] = cc in
    let all : Line one ∷ ((refused ++ Line (one + 1) ∷ unlistened) ++ items_of back) ≡ Line n ∷ items = trace in
    let others : items ≡ (refused ++ Line (one + 1) ∷ unlistened) ++ items_of back = cc in
    let behind : Telling = telling_after first_telling (Discards one refused unlistened) in
    let further = quiet seat behind back plain none in
    let bytes : List ℕ = discard_answer Idle fresh (flat_map heard refused ++ flat_map heard unlistened) in record {
      refused = refused;
      unlistened = unlistened;
      reads = items_of back;
      split = others ∙ ap (λ (m : ℕ). (refused ++ Line (m + 1) ∷ unlistened) ++ items_of back) same;
      told = bare bytes (signs_said seat behind back) ∙ ap (λ (l : List (Option ℕ)). map Some bytes ++ l) further.1;
    }

-- of one `DISCARD ALL` its answer is told, with the reads behind its two lines, and then the other reads
pub one_discard_is_told : OneDiscardIsTold
one_discard_is_told seat line n items signs told =
    let first = first-turn seat idle_state fresh told.turns n items (Discard line) tt told.plain told.asked told.trace in
    let all : signs_in seat first_telling first.turn ++ signs_said seat (telling_after first_telling first.turn) first.back ≡ signs = sym first.told ∙ told.told in
    subst (λ (l : List (Option ℕ)). IsDiscardTold line items l) all
    (discarded-all seat first.turn first.back line n items first.asked_for first.others first.trace (sym first.asked ∙ told.asked))
