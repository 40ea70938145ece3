-- What a line shows is UTF-8.
use Rattle.std.proofs.Common.{◌≡◌, ℕ, ◌+◌, ◌^◌, ◌<◌, ◌==◌, nat_lt, Bool, true, false, cond, ◌&&◌, inl, inr, List, [], ◌∷◌, ◌++◌, length, get_or, Option, None, Some, codes, decimal, sym, ap, ◌∙◌, refl, subst, arith, append_assoc, length-append, eqb-true, IsCharBoundary}
use Rattle.std.specs.Prelude.{flat_map, IfOk, IfSome, IsUtf8, Result}
use Rattle.std.proofs.lemmas.Bool.{cases_Bool}
use Rattle.std.proofs.lemmas.Bool.Decides.{Decides-ltb}
use Rattle.std.proofs.lemmas.List.{drop_at, get_or-append-add, take_at}
use Rattle.std.proofs.lemmas.Str.Ascii.{IsAscii-cons, IsAscii-nil}
use Rattle.std.proofs.lemmas.Str.{IsCharBoundary-after_ascii, IsCharBoundary-before_ascii, IsUtf8-append, IsUtf8-drop, IsUtf8-from_ascii, IsUtf8-nil, IsUtf8-take}
use Rattle.pgn_base.specs.declared.note.Note.{Note}
use Rattle.pgn_base.specs.Notes.{IsNote}
use Rattle.pgn_base.specs.declared.answers.Tag.{Tag}
use Rattle.pgn_base.specs.declared.answers.Tag.TheVariants as tag
use Rattle.pgn_base.specs.declared.answers.Warning.{Warning}
use Rattle.pgn_base.specs.declared.answers.Warning.TheVariants.{AlreadyInBlock, NotInBlock}
use Rattle.pgn_base.specs.declared.answers.Which.TheVariants.{ChannelEmpty, ChannelTooLong, PayloadTooLong}
use Rattle.pgn_base.specs.declared.answers.Needs.TheVariants as needs
use Rattle.pgn_base.specs.declared.answers.Refusal.{Refusal}
use Rattle.pgn_base.specs.declared.answers.Refusal.TheVariants as refused
use Rattle.pgn_language.specs.Quotes.{doubled_byte, quoted}
use Rattle.pgn_answers.specs.Refusals.{refusal_text, tag_text, warning_text}
use Rattle.pgn_model.specs.Text.{holder_text, note_text}
use Rattle.pgn_lines.specs.Shown.{IsHeld, IsSession, Reads, shown_text, Unshown}
use Rattle.pgn_lines.specs.declared.shown.Shown.{Shown}
use Rattle.pgn_lines.specs.declared.shown.Shown.TheVariants.{Journal, Committed, Aborted, Sent, Enlist, Publish, QueueFull, Leave, Warn, Tagged, Refuse, Channel, Measured, Pages, Raise, Found, TimedOut, Read, Received, End}
use Rattle.pgn_lines.proofs.FieldLaws.{AreDigits}
use Rattle.pgn_lines.proofs.PartLaws.{are_digits}

-- one byte of ASCII
one : (b : ℕ) → b < 128 → IsUtf8 (b ∷ [])
one b l = IsUtf8-from_ascii (b ∷ []) (IsAscii-cons b [] l IsAscii-nil)

-- bytes of ASCII, by a test that computes
abbrev is_plain : List ℕ → Bool
is_plain [] = true
is_plain (b ∷ bytes) = nat_lt b 128 && is_plain bytes

-- where both of two tests are passed, the first is
both_first : (a b : Bool) → (a && b) ≡ true → a ≡ true
both_first true b h = refl
both_first false b h = h

-- and the second
both_second : (a b : Bool) → (a && b) ≡ true → b ≡ true
both_second true b h = h
both_second false b h = absurd (let no : ⊥ = cc in no)

-- bytes of ASCII are UTF-8
plain : (bytes : List ℕ) → is_plain bytes ≡ true → IsUtf8 bytes
plain [] h = IsUtf8-nil
plain (b ∷ bytes) h = IsUtf8-append (b ∷ []) bytes (one b ((Decides-ltb b 128).0 (both_first (nat_lt b 128) (is_plain bytes) h))) (plain bytes (both_second (nat_lt b 128) (is_plain bytes) h))

-- digits are UTF-8
digits : (bytes : List ℕ) → AreDigits bytes → IsUtf8 bytes
digits [] h = IsUtf8-nil
digits (b ∷ bytes) h = IsUtf8-append (b ∷ []) bytes (one b (omega (arith, h.0))) (digits bytes h.1)

-- a number in decimal
number : (n : ℕ) → n < 2 ^ 64 → IsUtf8 (decimal n)
number n h = digits (decimal n) (are_digits n h)

-- a start and a number
numbered : (start : List ℕ) (n : ℕ) → is_plain start ≡ true → n < 2 ^ 64 → IsUtf8 (start ++ decimal n)
numbered start n h k = IsUtf8-append start (decimal n) (plain start h) (number n k)

-- a word more, and a number
goes_on : (before word : List ℕ) (n : ℕ) → IsUtf8 before → is_plain word ≡ true → n < 2 ^ 64 → IsUtf8 (before ++ word ++ decimal n)
goes_on before word n h k l = IsUtf8-append (before ++ word) (decimal n) (IsUtf8-append before word h (plain word k)) (number n l)

-- a text is cut before an ASCII byte
seam : (a b : List ℕ) (x : ℕ) → x < 128 → IsCharBoundary (a ++ x ∷ b) (length a)
seam a b x h =
    let at : get_or (a ++ x ∷ b) (length a) 0 ≡ x = ap (λ (n : ℕ). get_or (a ++ x ∷ b) n 0) (let n : length a ≡ length a + 0 = omega arith in n) ∙ get_or-append-add a (x ∷ b) 0 0 in
    IsCharBoundary-before_ascii (a ++ x ∷ b) (length a) (omega (arith, length-append a (x ∷ b))) (omega (arith, at, h))

-- what stands before an ASCII byte of a text is UTF-8
front : (a b : List ℕ) (x : ℕ) → x < 128 → IsUtf8 (a ++ x ∷ b) → IsUtf8 a
front a b x h u = subst (λ (l : List ℕ). IsUtf8 l) (take_at a (x ∷ b) (length a) refl) (IsUtf8-take (a ++ x ∷ b) (length a) u (seam a b x h))

-- what stands behind one
back : (a b : List ℕ) (x : ℕ) → x < 128 → IsUtf8 (a ++ x ∷ b) → IsUtf8 b
back a b x h u =
    let rest : IsUtf8 (x ∷ b) = subst (λ (l : List ℕ). IsUtf8 l) (drop_at a (x ∷ b) (length a) refl) (IsUtf8-drop (a ++ x ∷ b) (length a) u (seam a b x h)) in
    IsUtf8-drop (x ∷ b) 1 rest (IsCharBoundary-after_ascii (x ∷ b) 0 rest (omega arith) h)

-- a text keeps when each of its quotes is written twice
doubled : (quote : ℕ) → quote < 128 → (before text : List ℕ) → IsUtf8 (before ++ text) → IsUtf8 (before ++ flat_map (doubled_byte quote) text)
doubled quote l before [] u = u
doubled quote l before (b ∷ text) u = elim (cases_Bool (b == quote)) [
  | inl e ↦
      let small : b < 128 = omega (arith, l, eqb-true b quote e) in
      let rest : IsUtf8 (flat_map (doubled_byte quote) text) = doubled quote l [] text (back before text b small u) in
      subst (λ (l : List ℕ). IsUtf8 (before ++ (l ++ flat_map (doubled_byte quote) text))) (sym (ap (λ (t : Bool). cond t (quote ∷ quote ∷ []) (b ∷ [])) e))
      (IsUtf8-append before (quote ∷ quote ∷ flat_map (doubled_byte quote) text) (front before text b small u)
      (IsUtf8-append (quote ∷ []) (quote ∷ flat_map (doubled_byte quote) text) (one quote l) (IsUtf8-append (quote ∷ []) (flat_map (doubled_byte quote) text) (one quote l) rest)))
  | inr e ↦
      let longer : IsUtf8 ((before ++ b ∷ []) ++ text) = subst (λ (l : List ℕ). IsUtf8 l) (sym (append_assoc before (b ∷ []) text)) u in
      let rest : IsUtf8 ((before ++ b ∷ []) ++ flat_map (doubled_byte quote) text) = doubled quote l (before ++ b ∷ []) text longer in
      subst (λ (l : List ℕ). IsUtf8 (before ++ (l ++ flat_map (doubled_byte quote) text))) (sym (ap (λ (t : Bool). cond t (quote ∷ quote ∷ []) (b ∷ [])) e))
      (subst (λ (l : List ℕ). IsUtf8 l) (append_assoc before (b ∷ []) (flat_map (doubled_byte quote) text)) rest)
]

-- a text in quotes
between : (quote : ℕ) (text : List ℕ) → quote < 128 → IsUtf8 text → IsUtf8 (quoted quote text)
between quote text l u = IsUtf8-append (quote ∷ flat_map (doubled_byte quote) text) (quote ∷ []) (IsUtf8-append (quote ∷ []) (flat_map (doubled_byte quote) text) (one quote l) (doubled quote l [] text u)) (one quote l)

-- a notification as a line shows it
note_utf8 : (note : Note) → IsNote note → IsUtf8 (note_text note)
note_utf8 note h =
    IsUtf8-append (quoted 34 note.channel ++ codes ", ") (quoted 39 note.payload)
    (IsUtf8-append (quoted 34 note.channel) (codes ", ") (between 34 note.channel (omega arith) h.name.text) (plain (codes ", ") refl)) (between 39 note.payload (omega arith) h.text.text)

-- who holds a page, or nobody
holder_utf8 : (holder : Option ℕ) → IfSome holder IsSession → IsUtf8 (holder_text holder)
holder_utf8 None h = plain (codes "none") refl
holder_utf8 (Some session) h = number session (omega (arith, h.1))

-- each tag of a command's answer
tag_utf8 : (done : Tag) → IsHeld (Tagged done) → IsUtf8 (tag_text done)
tag_utf8 tag.Begin h = plain (codes "BEGIN") refl
tag_utf8 tag.Start h = plain (codes "START TRANSACTION") refl
tag_utf8 tag.Commit h = plain (codes "COMMIT") refl
tag_utf8 tag.Rollback h = plain (codes "ROLLBACK") refl
tag_utf8 tag.Savepoint h = plain (codes "SAVEPOINT") refl
tag_utf8 tag.Release h = plain (codes "RELEASE") refl
tag_utf8 tag.Listen h = plain (codes "LISTEN") refl
tag_utf8 tag.Unlisten h = plain (codes "UNLISTEN") refl
tag_utf8 tag.Notify h = plain (codes "NOTIFY") refl
tag_utf8 (tag.Select rows) h = numbered (codes "SELECT ") rows refl (omega (arith, h))

warning_utf8 : (warning : Warning) → IsUtf8 (warning_text warning)
warning_utf8 AlreadyInBlock = plain (warning_text AlreadyInBlock) refl
warning_utf8 NotInBlock = plain (warning_text NotInBlock) refl

refusal_utf8 : (refusal : Refusal) → IsHeld (Refuse refusal) → IsUtf8 (refusal_text refusal)
refusal_utf8 (refused.Syntax at) h =
    IsUtf8-append (codes "42601" ++ codes ": ") (codes "syntax error at byte " ++ decimal at) (plain (codes "42601" ++ codes ": ") refl) (numbered (codes "syntax error at byte ") at refl (omega (arith, h)))
refusal_utf8 (refused.Bounds ChannelEmpty) h = plain (refusal_text (refused.Bounds ChannelEmpty)) refl
refusal_utf8 (refused.Bounds ChannelTooLong) h = plain (refusal_text (refused.Bounds ChannelTooLong)) refl
refusal_utf8 (refused.Bounds PayloadTooLong) h = plain (refusal_text (refused.Bounds PayloadTooLong)) refl
refusal_utf8 (refused.NeedsBlock needs.Savepoint) h = plain (refusal_text (refused.NeedsBlock needs.Savepoint)) refl
refusal_utf8 (refused.NeedsBlock needs.RollbackTo) h = plain (refusal_text (refused.NeedsBlock needs.RollbackTo)) refl
refusal_utf8 (refused.NeedsBlock needs.Release) h = plain (refusal_text (refused.NeedsBlock needs.Release)) refl
refusal_utf8 (refused.NoSavepoint name) h =
    IsUtf8-append (codes "3B001" ++ codes ": ") (codes "savepoint \"" ++ name ++ codes "\" does not exist") (plain (codes "3B001" ++ codes ": ") refl)
    (IsUtf8-append (codes "savepoint \"" ++ name) (codes "\" does not exist") (IsUtf8-append (codes "savepoint \"") name (plain (codes "savepoint \"") refl) h.text) (plain (codes "\" does not exist") refl))
refusal_utf8 refused.Aborted h = plain (refusal_text refused.Aborted) refl
refusal_utf8 refused.QueueFull h = plain (refusal_text refused.QueueFull) refl

-- two numbers with a blank between, after a start
pair : (start : List ℕ) (m n : ℕ) → is_plain start ≡ true → m < 2 ^ 64 → n < 2 ^ 64 → IsUtf8 (start ++ decimal m ++ codes " " ++ decimal n)
pair start m n h a b = goes_on (start ++ decimal m) (codes " ") n (numbered start m h a) refl b

-- the first line of a transaction, before its end
entry : (xid session : ℕ) → xid < 2 ^ 64 → session < 2 ^ 64 → IsUtf8 (codes "xid " ++ decimal xid ++ codes " session " ++ decimal session)
entry xid session a b = goes_on (codes "xid " ++ decimal xid) (codes " session ") session (numbered (codes "xid ") xid refl a) refl b

-- a holder after a word
held_by : (before word : List ℕ) (holder : Option ℕ) → IsUtf8 before → is_plain word ≡ true → IfSome holder IsSession → IsUtf8 (before ++ word ++ holder_text holder)
held_by before word holder h k l = IsUtf8-append (before ++ word) (holder_text holder) (IsUtf8-append before word h (plain word k)) (holder_utf8 holder l)

-- the line of a full queue, up to its holder
full_front : (xid queued head mark page : ℕ) → xid < 2 ^ 64 → queued < 2 ^ 64 → head < 2 ^ 64 → mark < 2 ^ 64 → page < 2 ^ 64
    → IsUtf8 (codes "+full " ++ decimal xid ++ codes " queued " ++ decimal queued ++ codes " head " ++ decimal head ++ codes " floor " ++ decimal mark ++ codes " page " ++ decimal page)
full_front xid queued head mark page a b c d e =
    let one : List ℕ = codes "+full " ++ decimal xid in
    let two : List ℕ = one ++ codes " queued " ++ decimal queued in
    let three : List ℕ = two ++ codes " head " ++ decimal head in
    let four : List ℕ = three ++ codes " floor " ++ decimal mark in
    goes_on four (codes " page ") page
    (goes_on three (codes " floor ") mark (goes_on two (codes " head ") head (goes_on one (codes " queued ") queued (numbered (codes "+full ") xid refl a) refl b) refl c) refl d) refl e

-- a row
row : (text : List ℕ) → IsUtf8 text → IsUtf8 (codes "  " ++ text)
row text h = IsUtf8-append (codes "  ") text (plain (codes "  ") refl) h

shown_utf8 : (shown : Shown) → IsHeld shown → IsUtf8 (shown_text shown)
shown_utf8 (Journal entries) h = numbered (codes "journal ") entries refl (omega (arith, h))
shown_utf8 (Committed xid session notes) h =
    IsUtf8-append (codes "xid " ++ decimal xid ++ codes " session " ++ decimal session) (codes " commit " ++ decimal notes) (entry xid session (omega (arith, h.0.1)) (omega (arith, h.1.1)))
    (numbered (codes " commit ") notes refl (omega (arith, h.2)))
shown_utf8 (Aborted xid session queued notes) h =
    IsUtf8-append (codes "xid " ++ decimal xid ++ codes " session " ++ decimal session) (codes " abort " ++ decimal queued ++ codes " of " ++ decimal notes)
    (entry xid session (omega (arith, h.0.1)) (omega (arith, h.1.1))) (goes_on (codes " abort " ++ decimal queued) (codes " of ") notes (numbered (codes " abort ") queued refl (omega (arith, h.2))) refl (omega (arith, h.3)))
shown_utf8 (Sent note) h = row (note_text note) (note_utf8 note h)
shown_utf8 (Enlist base point) h = pair (codes "+enlist ") base point refl (omega (arith, h.0.1)) (omega (arith, h.1.1))
shown_utf8 (Publish xid) h = numbered (codes "+publish ") xid refl (omega (arith, h.1))
shown_utf8 (QueueFull full) h =
    held_by (codes "+full " ++ decimal full.xid ++ codes " queued " ++ decimal full.queued ++ codes " head " ++ decimal full.head_page ++ codes " floor " ++ decimal full.floor_mark ++ codes " page " ++ decimal full.floor_page)
    (codes " holder ") full.holder (full_front full.xid full.queued full.head_page full.floor_mark full.floor_page (omega (arith, h.0.1)) (omega (arith, h.1)) h.2 (omega (arith, h.3.1)) h.4) refl h.5
shown_utf8 Leave h = plain (codes "+leave") refl
shown_utf8 (Warn warning) h = IsUtf8-append (codes "WARNING: ") (warning_text warning) (plain (codes "WARNING: ") refl) (warning_utf8 warning)
shown_utf8 (Tagged done) h = tag_utf8 done h
shown_utf8 (Refuse refusal) h = IsUtf8-append (codes "ERROR: ") (refusal_text refusal) (plain (codes "ERROR: ") refl) (refusal_utf8 refusal h)
shown_utf8 (Channel name) h = row (quoted 34 name) (between 34 name (omega arith) h.text)
shown_utf8 (Measured at floor holder) h =
    held_by (codes "+usage " ++ decimal at ++ codes " floor " ++ decimal floor) (codes " holder ") holder
    (goes_on (codes "+usage " ++ decimal at) (codes " floor ") floor (numbered (codes "+usage ") at refl (omega (arith, h.0.1))) refl (omega (arith, h.1.1))) refl h.2
shown_utf8 (Pages occupied limit) h = goes_on (codes "  " ++ decimal occupied) (codes "/") limit (numbered (codes "  ") occupied refl h.0) refl (omega (arith, h.1))
shown_utf8 (Raise value) h = numbered (codes "+signal ") value refl (omega (arith, h.1))
shown_utf8 (Found value) h = numbered (codes "+await ") value refl (omega (arith, h.1))
shown_utf8 (TimedOut looks) h = numbered (codes "+timeout ") looks refl h
shown_utf8 (Read from to) h = pair (codes "+read ") from to refl (omega (arith, h.0.1)) (omega (arith, h.1.1))
shown_utf8 (Received delivery) h =
    IsUtf8-append (codes "  " ++ decimal delivery.xid ++ codes " " ++ decimal delivery.pid ++ codes " ") (note_text delivery.note)
    (IsUtf8-append (codes "  " ++ decimal delivery.xid ++ codes " " ++ decimal delivery.pid) (codes " ")
    (pair (codes "  ") delivery.xid delivery.pid refl (omega (arith, h.0.1)) (omega (arith, h.1))) (plain (codes " ") refl)) (note_utf8 delivery.note h.2)
shown_utf8 (End None) h = plain (codes "end") refl
shown_utf8 (End (Some mark)) h = numbered (codes "end mark ") mark refl (omega (arith, h.1))

-- a line that is not UTF-8 shows nothing
pub no_text : (line : List ℕ) → (IsUtf8 line → ⊥) → (shown : Shown) → Unshown line shown
no_text line none shown h e = none (subst (λ (l : List ℕ). IsUtf8 l) e (shown_utf8 shown h))

-- what a text reads as, a line reads as that is the same
pub read_same : {E : Type 0} (line text : List ℕ) (read : Result (Option Shown) E) → text ≡ line → IfOk read (Reads text) → IfOk read (Reads line)
read_same line text read e h = subst (λ (l : List ℕ). IfOk read (Reads l)) e h
