-- What a reader makes of an entry.
use Rattle.std.proofs.Common.{◌≡◌, ℕ, ◌+◌, ◌*◌, ◌≤◌, ◌==◌, ◌&&◌, Bool, true, false, cond, List, [], ◌∷◌, ◌++◌, length, take, drop, Option, Result, Ok, Err, OnOk, sym, refl, ap, ◌∙◌, arith}
use Rattle.std.proofs.lemmas.Bool.Decides.{nat_tests}
use Rattle.std.proofs.lemmas.List.{append-nil, append_assoc, length-append, length-take, length-take-le, take_at, take-append-drop, take-append-le}
use borrow.Rule.Slice.PartMut.{put_mid, post_of}
use Rattle.pgn_base.specs.Names.{has_name}
use Rattle.pgn_base.specs.declared.format.Format.{Format}
use Rattle.pgn_base.specs.declared.note.Note.{Note}
use Rattle.pgn_base.specs.declared.note.Delivery.{Delivery}
use Rattle.pgn_journal.specs.declared.tx.Tx.{Tx}
use Rattle.pgn_journal.specs.Journal.{entry}
use Rattle.pgn_journal.specs.Bytes.{four_bytes}
use Rattle.pgn_journal.specs.Packing.{Sender}
use Rattle.pgn_journal.specs.Pieces.{AnEntry, piece_bytes, gives, delivery_of}
use Rattle.pgn_wordhub.specs.Walks.{IsDueEntry, IsEntryAt}

-- what an entry of the reader's database gives, by whether it is due
pub gives_when : (db : ℕ) (channels : List (List ℕ)) (committed : ℕ → Bool) (note : Note) (sender : Sender) (b : Bool) → sender.db ≡ db → b ≡ (has_name channels note.channel && committed sender.xid)
    → gives db channels committed (AnEntry note sender) ≡ cond b (delivery_of sender note ∷ []) []
gives_when db channels committed note sender b of_db due =
    let same : sender.db == db ≡ true = grind (arith, nat_tests) in
    ap (λ d. cond (committed sender.xid && d) (cond (has_name channels note.channel) (delivery_of sender note ∷ []) []) []) same
    ∙ both (committed sender.xid) (has_name channels note.channel) ∙ ap (λ d. cond d (delivery_of sender note ∷ []) []) (sym due)
  where
    both : (c n : Bool) → cond (c && true) (cond n (delivery_of sender note ∷ []) []) [] ≡ cond (n && c) (delivery_of sender note ∷ []) []
    both true true = refl
    both true false = refl
    both false true = refl
    both false false = refl

-- an entry on another channel adds nothing
pub adds_nothing : (db : ℕ) (channels : List (List ℕ)) (committed : ℕ → Bool) (got : List Delivery) (note : Note) (sender : Sender) → sender.db ≡ db → has_name channels note.channel ≡ false
    → got ≡ got ++ gives db channels committed (AnEntry note sender)
adds_nothing db channels committed got note sender of_db other =
    sym (append-nil got) ∙ ap (λ l. got ++ l) (sym (gives_when db channels committed note sender false of_db (sym (ap (λ b. b && committed sender.xid) other))))

-- one cell more of some bytes is loaded
pub loads_cell : (bytes page part rest : List ℕ) (k behind x : ℕ) → 4 * k ≤ length page → take (4 * k) page ≡ take (4 * k) bytes → four_bytes x ++ drop (4 * (k + 1)) bytes ≡ drop (4 * k) bytes
    → part ≡ four_bytes x ++ rest → take (4 * (k + 1)) (put_mid (4 * k) behind page part) ≡ take (4 * (k + 1)) bytes
loads_cell bytes page part rest k behind x room before is part_is =
    let n = 4 * (k + 1) in
    let front : List ℕ = take (4 * k) page in
    let four : List ℕ = four_bytes x in
    let last : List ℕ = post_of (4 * k) behind page in
    let front_long : length front ≡ 4 * k = length-take-le (4 * k) page room in
    let both = length-append front four in
    let long : length (front ++ four) ≡ n = omega (arith, front_long, both) in
    let loaded : front ++ (part ++ last) ≡ (front ++ four) ++ (rest ++ last) =
    ap (λ (l : List ℕ). front ++ (l ++ last)) part_is ∙ ap (λ (l : List ℕ). front ++ l) (append_assoc four rest last) ∙ sym (append_assoc front four (rest ++ last)) in
    let all : bytes ≡ (front ++ four) ++ drop n bytes =
    sym (take-append-drop (4 * k) bytes) ∙ ap (λ (l : List ℕ). l ++ drop (4 * k) bytes) (sym before) ∙ ap (λ (l : List ℕ). front ++ l) (sym is) ∙ sym (append_assoc front four (drop n bytes)) in
    ap (take n) loaded ∙ take_at (front ++ four) (rest ++ last) n long ∙ sym (ap (take n) all ∙ take_at (front ++ four) (drop n bytes) n long)

-- the bytes of an entry of a finished transaction that lies at a place
pub due_at : (format : Format) (cells : List (Option ℕ)) (at len db : ℕ) (seen : List Tx) (bytes : List ℕ) (note : Note) (sender : Sender) → IsEntryAt format cells at len db seen note sender
    → bytes ≡ piece_bytes format (AnEntry note sender) → IsDueEntry format db seen bytes note sender
due_at format cells at len db seen bytes note sender entry are = record { readable = entry.stands.readable; spelling = are; of_db = entry.of_db; numbered = entry.numbered }

-- what follows from a fact holds wherever the call did not fail and the fact holds
pub on_ok : {A E : Type 0} (r : Result A E) (P Q : Type 0) → (P → Q) → OnOk r P → OnOk r Q
on_ok (Ok x) P Q f p = f p
on_ok (Err e) P Q f p = p

-- the front of a list stays as it goes on
pub front_on : {X : Type 0} (n : ℕ) (xs ys more : List X) → length ys ≡ n → take n xs ≡ ys → take n (xs ++ more) ≡ ys
front_on n xs ys more long is =
    let size : length (take n xs) ≡ n = ap length is ∙ long in
    let short = length-take n xs in
    take-append-le n xs more (omega (arith, size, short)) ∙ is

-- an entry that was found not to be due adds nothing
pub not_due : (db : ℕ) (channels : List (List ℕ)) (committed : ℕ → Bool) (got : List Delivery) (note : Note) (sender : Sender) (b : Bool) (channel : List ℕ) (xid : ℕ) → sender.db ≡ db → b ≡ (has_name channels channel && committed xid)
    → channel ≡ note.channel → xid ≡ sender.xid → b ≡ false → got ≡ got ++ gives db channels committed (AnEntry note sender)
not_due db channels committed got note sender b channel xid of_db due channel_is xid_is off =
    let is : b ≡ (has_name channels note.channel && committed sender.xid) =
    due ∙ ap (λ (l : List ℕ). has_name channels l && committed xid) channel_is ∙ ap (λ (n : ℕ). has_name channels note.channel && committed n) xid_is in
    sym (append-nil got) ∙ ap (λ l. got ++ l) (sym (gives_when db channels committed note sender false of_db (sym off ∙ is)))
