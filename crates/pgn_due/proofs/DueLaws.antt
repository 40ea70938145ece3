-- What is due, as a part of what was sent.
use Rattle.std.proofs.Common.{◌≡◌, ℕ, ◌+◌, ◌-◌, ◌≤◌, ◌==◌, Bool, true, false, ◌&&◌, ◌||◌, List, [], ◌∷◌, ◌++◌, length, take, drop, map, filter, sym, ap, ◌∙◌, refl, inl, inr, arith, append_assoc, take-append-drop, take-take, length-take, length-append}
use Rattle.std.specs.List.{list_any}
use Rattle.std.proofs.lemmas.Bool.{cases_Bool, cases_lt}
use Rattle.std.proofs.lemmas.List.{drop_all}
use Rattle.std.proofs.lemmas.List.Elements.{filter-append}
use Rattle.std.proofs.lemmas.List.Folds.{list_any-append}
use Rattle.pgn_base.specs.Names.{has_name}
use Rattle.pgn_base.specs.declared.note.Note.{Note}
use Rattle.pgn_base.specs.declared.note.Delivery.{Delivery}
use Rattle.pgn_journal.specs.declared.tx.Tx.{Tx}
use Rattle.pgn_journal.specs.Journal.{entries_between, is_committed}
use Rattle.pgn_journal.specs.Due.{delivered_by, delivery, due, due_from, is_due_to, listens}
use Rattle.pgn_due.specs.Sent.{is_for, sent_before, sent_by, sent_from, sent_in}
use Rattle.pgn_due.specs.Next.{due_between}

-- What lists of transactions sent, one behind another.

-- what transactions sent, and more of them behind these
pub sent-append : (x : ℕ) (xs ys : List Tx) → sent_from x (xs ++ ys) ≡ sent_from x xs ++ sent_from (x + length xs) ys
sent-append x [] ys = ap (λ (n : ℕ). sent_from n ys) (let e : x ≡ x + length (let none : List Tx = [] in none) = omega arith in e)
sent-append x (tx ∷ xs) ys =
    let step : (x + 1) + length xs ≡ x + length (tx ∷ xs) = omega arith in
    ap (λ (ss : List (ℕ × Delivery)). sent_by x tx ++ ss) (sent-append (x + 1) xs ys ∙ ap (λ (n : ℕ). sent_from (x + 1) xs ++ sent_from n ys) step)
    ∙ sym (append_assoc (sent_by x tx) (sent_from (x + 1) xs) (sent_from (x + length (tx ∷ xs)) ys))

-- the first transactions sent the first notifications
cut : (journal : List Tx) (k : ℕ) → sent_in journal ≡ sent_in (take k journal) ++ sent_from (3 + length (take k journal)) (drop k journal)
cut journal k = ap sent_in (sym (take-append-drop k journal)) ∙ sent-append 3 (take k journal) (drop k journal)

take_whole : {X : Type 0} (xs ys : List X) → take (length xs) (xs ++ ys) ≡ xs
take_whole [] [] = refl
take_whole [] (y ∷ ys) = refl
take_whole (x ∷ xs) ys = ap (λ (l : List _). x ∷ l) (take_whole xs ys)

drop_whole : {X : Type 0} (xs ys : List X) → drop (length xs) (xs ++ ys) ≡ ys
drop_whole [] [] = refl
drop_whole [] (y ∷ ys) = refl
drop_whole (x ∷ xs) ys = drop_whole xs ys

-- what the first k transactions sent is the first of all that was sent
take_sent : (journal : List Tx) (k : ℕ) → take (length (sent_in (take k journal))) (sent_in journal) ≡ sent_in (take k journal)
take_sent journal k =
    ap (λ (ss : List (ℕ × Delivery)). take (length (sent_in (take k journal))) ss) (cut journal k) ∙ take_whole (sent_in (take k journal)) (sent_from (3 + length (take k journal)) (drop k journal))

-- what the transactions from a to b sent, as a part of all that was sent
between_sent : (journal : List Tx) (a b : ℕ) → a ≤ b
    → drop (length (sent_in (take a journal))) (take (length (sent_in (take b journal))) (sent_in journal)) ≡ sent_from (3 + length (take a journal)) (drop a (take b journal))
between_sent journal a b le =
    let short : take a (take b journal) ≡ take a journal = take-take a b journal le in
    ap (λ (ss : List (ℕ × Delivery)). drop (length (sent_in (take a journal))) ss) (take_sent journal b ∙ cut (take b journal) a)
    ∙ ap (λ (txs : List Tx). drop (length (sent_in (take a journal))) (sent_in txs ++ sent_from (3 + length txs) (drop a (take b journal)))) short
    ∙ drop_whole (sent_in (take a journal)) (sent_from (3 + length (take a journal)) (drop a (take b journal)))

-- numbered by the mark, where there are any
numbered : (journal : List Tx) (mark to : ℕ) → 3 ≤ mark → sent_from (3 + length (take (mark - 3) journal)) (entries_between journal mark to) ≡ sent_from mark (entries_between journal mark to)
numbered journal mark to low = elim (cases_lt (length journal) (mark - 3)) [
  | inl past ↦
      let none : entries_between journal mark to ≡ [] = drop_all (mark - 3) (take (to - 3) journal) (omega (arith, past, length-take (to - 3) journal)) in
      ap (λ (txs : List Tx). sent_from (3 + length (take (mark - 3) journal)) txs) none ∙ sym (ap (λ (txs : List Tx). sent_from mark txs) none)
  | inr within ↦ ap (λ (n : ℕ). sent_from n (entries_between journal mark to)) (omega (arith, low, within, length-take (mark - 3) journal))
]

-- the same by the numbers of the transactions
between_is : (journal : List Tx) (mark to : ℕ) → 3 ≤ mark → mark ≤ to → drop (sent_before journal mark) (take (sent_before journal to) (sent_in journal)) ≡ sent_from mark (entries_between journal mark to)
between_is journal mark to low le = between_sent journal (mark - 3) (to - 3) (omega (arith, le)) ∙ numbered journal mark to low

-- a greater number, no less sent
pub before_grows : (journal : List Tx) (a b : ℕ) → a ≤ b → sent_before journal a ≤ sent_before journal b
before_grows journal a b le =
    let whole = cut (take (b - 3) journal) (a - 3) in
    let short : take (a - 3) (take (b - 3) journal) ≡ take (a - 3) journal = take-take (a - 3) (b - 3) journal (omega (arith, le)) in
    let parts : sent_in (take (b - 3) journal) ≡ sent_in (take (a - 3) journal) ++ sent_from (3 + length (take (a - 3) journal)) (drop (a - 3) (take (b - 3) journal)) =
    whole ∙ ap (λ (txs : List Tx). sent_in txs ++ sent_from (3 + length txs) (drop (a - 3) (take (b - 3) journal))) short in
    let long : length (sent_in (take (b - 3) journal)) ≡ length (sent_in (take (a - 3) journal)) + length (sent_from (3 + length (take (a - 3) journal)) (drop (a - 3) (take (b - 3) journal))) =
    ap length parts ∙ length-append (sent_in (take (a - 3) journal)) (sent_from (3 + length (take (a - 3) journal)) (drop (a - 3) (take (b - 3) journal))) in
    omega (arith, long)

-- What of it goes to a reader.

-- the notifications of one transaction in another database
notes_off : (db : ℕ) (channels : List (List ℕ)) (x : ℕ) (tx : Tx) (notes : List Note) → (tx.db == db) ≡ false → filter (is_for db channels) (map (λ note. (tx.db, delivery x tx.session note)) notes) ≡ []
notes_off db channels x tx [] off = refl
notes_off db channels x tx (note ∷ notes) off = grind (arith, off, notes_off db channels x tx notes off)

-- in its own
notes_on : (db : ℕ) (channels : List (List ℕ)) (x : ℕ) (tx : Tx) (notes : List Note) → (tx.db == db) ≡ true
    → map (λ (one : ℕ × Delivery). one.1) (filter (is_for db channels) (map (λ note. (tx.db, delivery x tx.session note)) notes)) ≡ map (delivery x tx.session) (filter (listens channels) notes)
notes_on db channels x tx [] on = refl
notes_on db channels x tx (note ∷ notes) on = elim (cases_Bool (has_name channels note.channel)) [
  | inl hears ↦ grind (arith, on, hears, notes_on db channels x tx notes on)
  | inr deaf ↦ grind (arith, on, deaf, notes_on db channels x tx notes on)
]

tx_gives : (db : ℕ) (channels : List (List ℕ)) (x : ℕ) (tx : Tx) → map (λ (one : ℕ × Delivery). one.1) (filter (is_for db channels) (sent_by x tx)) ≡ delivered_by db channels x tx
tx_gives db channels x tx = elim (cases_Bool (is_committed tx.fate)) [
  | inr off ↦ grind (arith, off)
  | inl on ↦ elim (cases_Bool (tx.db == db)) [
    | inl its ↦ grind (arith, on, its, notes_on db channels x tx tx.notes its)
    | inr other ↦ grind (arith, on, other, notes_off db channels x tx tx.notes other)
  ]
]

map-append : (xs ys : List (ℕ × Delivery)) → map (λ (one : ℕ × Delivery). one.1) (xs ++ ys) ≡ map (λ (one : ℕ × Delivery). one.1) xs ++ map (λ (one : ℕ × Delivery). one.1) ys
map-append [] ys = refl
map-append (x ∷ xs) ys = ap (λ (ds : List Delivery). x.1 ∷ ds) (map-append xs ys)

given : (db : ℕ) (channels : List (List ℕ)) (x : ℕ) (txs : List Tx) → map (λ (one : ℕ × Delivery). one.1) (filter (is_for db channels) (sent_from x txs)) ≡ due_from db channels x txs
given db channels x [] = refl
given db channels x (tx ∷ txs) =
    ap (map (λ (one : ℕ × Delivery). one.1)) (filter-append (is_for db channels) (sent_by x tx) (sent_from (x + 1) txs)) ∙ map-append (filter (is_for db channels) (sent_by x tx)) (filter (is_for db channels) (sent_from (x + 1) txs))
    ∙ ap (λ (ds : List Delivery). ds ++ map (λ (one : ℕ × Delivery). one.1) (filter (is_for db channels) (sent_from (x + 1) txs))) (tx_gives db channels x tx)
    ∙ ap (λ (ds : List Delivery). delivered_by db channels x tx ++ ds) (given db channels (x + 1) txs)

-- what is due from a mark up to a number, as those of the sent notifications between their places that are for the session
pub due_is : (journal : List Tx) (mark to db : ℕ) (set : List (List ℕ)) → 3 ≤ mark → mark ≤ to → due journal mark to db set ≡ due_between db set (sent_in journal) (sent_before journal mark) (sent_before journal to)
due_is journal mark to db set low le =
    sym (given db set mark (entries_between journal mark to)) ∙ ap (λ (ss : List (ℕ × Delivery)). map (λ (one : ℕ × Delivery). one.1) (filter (is_for db set) ss)) (sym (between_is journal mark to low le))

-- Whether any does.

any_note : (db : ℕ) (channels : List (List ℕ)) (x : ℕ) (tx : Tx) (notes : List Note) → list_any (is_for db channels) (map (λ note. (tx.db, delivery x tx.session note)) notes) ≡ (tx.db == db && list_any (listens channels) notes)
any_note db channels x tx [] = elim (cases_Bool (tx.db == db)) [
  | inl on ↦ grind (arith, on)
  | inr off ↦ grind (arith, off)
]
any_note db channels x tx (note ∷ notes) = elim (cases_Bool (tx.db == db)) [
  | inl on ↦ grind (arith, on, any_note db channels x tx notes)
  | inr off ↦ grind (arith, off, any_note db channels x tx notes)
]

any_tx : (db : ℕ) (channels : List (List ℕ)) (x : ℕ) (tx : Tx) → list_any (is_for db channels) (sent_by x tx) ≡ is_due_to db channels tx
any_tx db channels x tx = elim (cases_Bool (is_committed tx.fate)) [
  | inl on ↦ grind (arith, on, any_note db channels x tx tx.notes)
  | inr off ↦ grind (arith, off)
]

any_given : (db : ℕ) (channels : List (List ℕ)) (x : ℕ) (txs : List Tx) → list_any (is_for db channels) (sent_from x txs) ≡ list_any (is_due_to db channels) txs
any_given db channels x [] = refl
any_given db channels x (tx ∷ txs) =
    list_any-append (is_for db channels) (sent_by x tx) (sent_from (x + 1) txs) ∙ ap (λ (b : Bool). b || list_any (is_for db channels) (sent_from (x + 1) txs)) (any_tx db channels x tx)
    ∙ ap (λ (b : Bool). is_due_to db channels tx || b) (any_given db channels (x + 1) txs)

-- nothing stands between two places of which the second is not behind the first
empty_between : {X : Type 0} (xs : List X) (a b : ℕ) → b ≤ a → drop a (take b xs) ≡ []
empty_between xs a b le = drop_all a (take b xs) (omega (arith, le, length-take b xs))

-- something between two numbers is due exactly where one of the sent notifications between their places is for the session
pub any_is : (journal : List Tx) (mark to db : ℕ) (set : List (List ℕ))
    → list_any (is_due_to db set) (entries_between journal mark to) ≡ list_any (is_for db set) (drop (sent_before journal mark) (take (sent_before journal to) (sent_in journal)))
any_is journal mark to db set = elim (cases_lt mark to) [
  | inl le ↦
      sym (any_given db set (3 + length (take (mark - 3) journal)) (entries_between journal mark to))
      ∙ ap (list_any (is_for db set)) (sym (between_sent journal (mark - 3) (to - 3) (omega (arith, le))))
  | inr ge ↦
      let less = before_grows journal to mark ge in
      ap (list_any (is_due_to db set)) (empty_between journal (mark - 3) (to - 3) (omega (arith, ge)))
      ∙ sym (ap (list_any (is_for db set)) (empty_between (sent_in journal) (sent_before journal mark) (sent_before journal to) less))
]

-- no more is sent before a number than in the whole journal
pub before_within : (journal : List Tx) (x : ℕ) → sent_before journal x ≤ length (sent_in journal)
before_within journal x =
    omega (arith, ap length (cut journal (x - 3)), length-append (sent_in (take (x - 3) journal)) (sent_from (3 + length (take (x - 3) journal)) (drop (x - 3) journal)))
