-- The walk over items that were read, and what its facts say of the completed trace.
use Rattle.std.proofs.Common.{◌≡◌, ℕ, List, [], ◌∷◌, ◌++◌, fold, sym, ap, ◌∙◌, refl, subst, append_assoc}
use Rattle.std.specs.List.{cons_option}
use Rattle.pgn_journal.specs.declared.tx.Tx.{Tx}
use Rattle.pgn_model.specs.declared.item.Item.{Item}
use Rattle.pgn_model.specs.declared.item.Item.TheVariants.{Line, Publish, QueueFull, Channels}
use Rattle.pgn_model.specs.declared.trace.Trace.{Trace}
use Rattle.pgn_model.specs.Along.{Along}
use Rattle.pgn_model.specs.Walk.{Terms, State, Owed, Listing, start, after_item, Allowed, IsListing}
use Rattle.pgn_model.specs.Trace.{IsEnd, TraceOk, IsUpToDate, IsFreshAt, state_after}
use Rattle.pgn_model.specs.Legal.{finished_xid, finished_xids}
use Rattle.pgn_model.proofs.WalkLaws.{Along-push, fold-push}
use Rattle.pgn_reading.specs.Completed.{seen, without_line, ready, whole, stepped, walked, completed}
use Rattle.pgn_reading.specs.Blame.{Comes}
use Rattle.pgn_reading.specs.WalkLaws.{ComesFirst, ComesOn, ComesToEnd, FreshFirst, FreshOn, FreshComes, OwnIsRead, OwnIsSeen, LawfulIsNotRefused, FreshIsNotLeftOut, FreshIsUpToDate, LawfulIsFinished}
use Rattle.pgn_reading.proofs.SeenLaws.{read-is_completed}

-- a walk past two lists, one after the other
fold-both : {S I : Type 0} (next : S → I → S) (s : S) (front rest : List I) → fold next s (front ++ rest) ≡ fold next (fold next s front) rest
fold-both next s [] rest = refl
fold-both next s (i ∷ front) rest = fold-both next (next s i) front rest

-- where something holds along the first, and along the rest behind it, it holds along both
pub Along-both : {S I : Type 0} (next : S → I → S) (P : S → I → Type 0) (s : S) (front rest : List I) → Along next P s front → Along next P (fold next s front) rest → Along next P s (front ++ rest)
Along-both next P s [] rest h k = k
Along-both next P s (i ∷ front) rest h k = (h.0, Along-both next P (next s i) front rest h.1 k)

-- and where it holds along both, it does along the rest
pub Along-back : {S I : Type 0} (next : S → I → S) (P : S → I → Type 0) (s : S) (front rest : List I) → Along next P s (front ++ rest) → Along next P (fold next s front) rest
Along-back next P s [] rest h = h
Along-back next P s (i ∷ front) rest h = Along-back next P (next s i) front rest h.1

-- the completed items lead where the walk leads
pub completed-state : (s : State) (items : List Item) → fold after_item s (completed s items) ≡ walked s items
completed-state s [] = refl
completed-state s (item ∷ items) = fold-both after_item s (without_line s.owed) (whole s item ∷ completed (stepped s item) items) ∙ completed-state (stepped s item) items

-- what the walk adds to items, and then to those behind them
pub completed-both : (s : State) (before after : List Item) → completed s (before ++ after) ≡ completed s before ++ completed (walked s before) after
completed-both s [] after = refl
completed-both s (item ∷ before) after =
    ap (λ (rest : List Item). without_line s.owed ++ whole s item ∷ rest) (completed-both (stepped s item) before after)
    ∙ sym (append_assoc (without_line s.owed) (whole s item ∷ completed (stepped s item) before) (completed (walked (stepped s item) before) after))

-- what the walk adds is allowed
added-lawful : (terms : Terms) (journal : List Tx) (s : State) → Along after_item (Allowed terms journal) s (without_line s.owed)
added-lawful terms journal s = by s.owed refl
  where
    by : (owed : Owed) → s.owed ≡ owed → Along after_item (Allowed terms journal) s (without_line owed)
    by (Listing [] ending) e = (subst (λ (o : Owed). IsListing [] o) (sym e) refl, tt)
    by (Listing (name ∷ names) ending) e = tt
    by owed e = tt

-- what holds along the completed items holds of each item that was read, in the state in which its line is judged
pub along-read : (P : State → Item → Type 0) (s : State) (before after : List Item) (item : Item) → Along after_item P s (completed s (before ++ item ∷ after)) → P (ready (walked s before)) (whole (walked s before) item)
along-read P s before after item h =
    let t : State = walked s before in
    let rest : List Item = completed t (item ∷ after) in
    let apart : Along after_item P s (completed s before ++ rest) = subst (λ (is : List Item). Along after_item P s is) (completed-both s before (item ∷ after)) h in
    let behind : Along after_item P t rest = subst (λ (u : State). Along after_item P u rest) (completed-state s before) (Along-back after_item P s (completed s before) rest apart) in
    (Along-back after_item P t (without_line t.owed) (whole t item ∷ completed (stepped t item) after) behind).0

-- and what holds of each item that was read holds along the completed items, where it holds of what the walk adds
pub along-completed : (P : State → Item → Type 0) → ((s : State) → Along after_item P s (without_line s.owed)) → (s : State) (items : List Item) → Along stepped (λ t item. P (ready t) (whole t item)) s items
    → Along after_item P s (completed s items)
along-completed P added s [] h = tt
along-completed P added s (item ∷ items) h =
    Along-both after_item P s (without_line s.owed) (whole s item ∷ completed (stepped s item) items) (added s) (h.0, along-completed P added (stepped s item) items h.1)

-- the walk comes to where it begins
pub comes-first : ComesFirst
comes-first terms journal = record { lawful = tt; state = refl }

-- the walk comes past one item more, where that is allowed
pub comes-on : ComesOn
comes-on terms journal before item s h allowed =
    let first : State = start terms.section in
    let P : State → Item → Type 0 = Allowed terms journal in
    let t : State = walked first before in
    let here : P (ready t) (whole t item) = subst (λ (u : State). P (ready u) (whole u item)) (sym h.state) allowed in
    let step : Along after_item P t (completed t (item ∷ [])) = Along-both after_item P t (without_line t.owed) (whole t item ∷ []) (added-lawful terms journal t) (here, tt) in
    record {
      lawful = subst (λ (is : List Item). Along after_item P first is) (sym (completed-both first before (item ∷ [])))
          (Along-both after_item P first (completed first before) (completed t (item ∷ [])) h.lawful (subst (λ (u : State). Along after_item P u (completed t (item ∷ []))) (sym (completed-state first before)) step));
      state = fold-push stepped first before item ∙ ap (λ (u : State). stepped u item) h.state;
    }

-- a trace that the walk comes past, to the script's end, is lawful with what the walk adds
pub comes-to_end : ComesToEnd
comes-to_end terms journal trace s session database h end = record {
  session = session;
  database = database;
  lawful = h.lawful;
  ended = subst (λ (u : State). IsEnd u trace.last) (sym (completed-state (start terms.section) trace.items ∙ h.state)) end;
}

-- of no items no read is left out
pub fresh-first : FreshFirst
fresh-first terms journal = tt

-- nor of one more before which none was
pub fresh-on : FreshOn
fresh-on terms journal before item s h so_far here =
    Along-push stepped (λ t i. IsFreshAt terms journal (ready t) i) (start terms.section) before item so_far (subst (λ (u : State). IsFreshAt terms journal (ready u) item) (sym h.state) here)

-- an item and what the walk makes of it are lines alike
fresh-whole : (terms : Terms) (journal : List Tx) (s t : State) (item : Item) → IsFreshAt terms journal t item → IsFreshAt terms journal t (whole s item)
fresh-whole terms journal s t (Publish xid notes) h = tt
fresh-whole terms journal s t (QueueFull full notes) h = tt
fresh-whole terms journal s t (Line n) h = h
fresh-whole terms journal s t item h = h

fresh-read : (terms : Terms) (journal : List Tx) (s t : State) (item : Item) → IsFreshAt terms journal t (whole s item) → IsFreshAt terms journal t item
fresh-read terms journal s t (Publish xid notes) h = tt
fresh-read terms journal s t (QueueFull full notes) h = tt
fresh-read terms journal s t (Line n) h = h
fresh-read terms journal s t item h = h

-- what the walk adds is no line
added-fresh : (terms : Terms) (journal : List Tx) (s : State) → Along after_item (IsFreshAt terms journal) s (without_line s.owed)
added-fresh terms journal s = by s.owed
  where
    by : (owed : Owed) → Along after_item (IsFreshAt terms journal) s (without_line owed)
    by (Listing [] ending) = (tt, tt)
    by (Listing (name ∷ names) ending) = tt
    by owed = tt

Along-weaker_by : {S I : Type 0} (next : S → I → S) (P Q : S → I → Type 0) → ((s : S) (item : I) → P s item → Q s item) → (s : S) (items : List I) → Along next P s items → Along next Q s items
Along-weaker_by next P Q f s [] h = tt
Along-weaker_by next P Q f s (i ∷ items) h = (f s i h.0, Along-weaker_by next P Q f (next s i) items h.1)

-- a trace that the walk comes past, with no read left out, is fresh with what the walk adds
pub fresh-comes : FreshComes
fresh-comes terms journal trace s h so_far end =
    let first : State = start terms.section in
    let each : Along stepped (λ t item. IsFreshAt terms journal (ready t) (whole t item)) first trace.items =
    Along-weaker_by stepped (λ t item. IsFreshAt terms journal (ready t) item) (λ t item. IsFreshAt terms journal (ready t) (whole t item)) (λ t item fresh. fresh-whole terms journal t (ready t) item fresh) first trace.items so_far in
    record {
      between_lines = along-completed (IsFreshAt terms journal) (added-fresh terms journal) first trace.items each;
      at_end = subst (λ (u : State). IsUpToDate terms journal u) (sym (completed-state first trace.items ∙ h.state)) end;
    }

-- what is seen of a lawful trace, completed, is the trace
pub seen-whole : (terms : Terms) (journal : List Tx) (trace : Trace) → TraceOk terms trace journal → completed (start terms.section) (seen trace.items) ≡ trace.items
seen-whole terms journal trace ok = read-is_completed terms journal (start terms.section) trace.items ok.lawful ok.ended.answered

-- where the walk has come to an item that is seen of a lawful trace, the item is allowed
pub lawful-is_not_refused : LawfulIsNotRefused
lawful-is_not_refused terms journal trace before after item s ok read h =
    let first : State = start terms.section in
    let P : State → Item → Type 0 = Allowed terms journal in
    let same : trace.items ≡ completed first (before ++ item ∷ after) = sym (seen-whole terms journal trace ok) ∙ ap (λ (is : List Item). completed first is) read in
    subst (λ (u : State). P (ready u) (whole u item)) h.state (along-read P first before after item (subst (λ (is : List Item). Along after_item P first is) same ok.lawful))

-- where it has come to an item that is seen of a fresh one, no read was left out
pub fresh-is_not_left_out : FreshIsNotLeftOut
fresh-is_not_left_out terms journal trace before after item s ok fresh read h =
    let first : State = start terms.section in
    let P : State → Item → Type 0 = IsFreshAt terms journal in
    let same : trace.items ≡ completed first (before ++ item ∷ after) = sym (seen-whole terms journal trace ok) ∙ ap (λ (is : List Item). completed first is) read in
    fresh-read terms journal s (ready s) item
    (subst (λ (u : State). P (ready u) (whole u item)) h.state (along-read P first before after item (subst (λ (is : List Item). Along after_item P first is) same fresh.between_lines)))

-- the state at its end
seen-state : (terms : Terms) (journal : List Tx) (trace : Trace) (s : State) → TraceOk terms trace journal → Comes terms journal (seen trace.items) s → state_after terms trace.items ≡ s
seen-state terms journal trace s ok h =
    ap (λ (is : List Item). state_after terms is) (sym (seen-whole terms journal trace ok)) ∙ completed-state (start terms.section) (seen trace.items) ∙ h.state

-- a session whose trace is fresh ends up to date
pub fresh-is_up_to_date : FreshIsUpToDate
fresh-is_up_to_date terms journal trace s ok fresh h = subst (λ (u : State). IsUpToDate terms journal u) (seen-state terms journal trace s ok h) fresh.at_end

-- the walk over what is seen of a lawful trace ends as the trace says
pub lawful-is_finished : LawfulIsFinished
lawful-is_finished terms journal trace s ok h = subst (λ (u : State). IsEnd u trace.last) (seen-state terms journal trace s ok h) ok.ended

-- what a trace shows as finished
own-one : (s : State) (item : Item) → finished_xid (whole s item) ≡ finished_xid item
own-one s (Publish xid notes) = refl
own-one s (QueueFull full notes) = refl
own-one s item = refl

own-added : (owed : Owed) (items : List Item) → finished_xids (without_line owed ++ items) ≡ finished_xids items
own-added (Listing [] ending) items = refl
own-added (Listing (name ∷ names) ending) items = refl
own-added owed items = refl

-- what the walk adds finishes no transaction
pub own-is_read : OwnIsRead
own-is_read s [] = refl
own-is_read s (item ∷ items) =
    own-added s.owed (whole s item ∷ completed (stepped s item) items)
    ∙ ap (λ (xs : List ℕ). cons_option (finished_xid (whole s item)) xs) (own-is_read (stepped s item) items)
    ∙ ap (λ o. cons_option o (finished_xids items)) (own-one s item)

-- nor does what is not seen
pub own-is_seen : OwnIsSeen
own-is_seen [] = refl
own-is_seen (Publish xid notes ∷ items) = ap (λ (xs : List ℕ). let all : List ℕ = xid ∷ xs in all) (own-is_seen items)
own-is_seen (QueueFull full notes ∷ items) = ap (λ (xs : List ℕ). let all : List ℕ = full.xid ∷ xs in all) (own-is_seen items)
own-is_seen (Channels [] ∷ items) = own-is_seen items
own-is_seen (Channels (name ∷ names) ∷ items) = own-is_seen items
own-is_seen (item ∷ items) = own-is_seen items
