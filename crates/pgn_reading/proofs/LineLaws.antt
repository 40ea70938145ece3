-- What a line tells of what it shows.
use Rattle.std.proofs.Common.{◌≡◌, ◌≢◌, ℕ, ◌+◌, ◌*◌, ◌^◌, ◌<◌, Bool, true, false, cond, nat_eq, List, [], ◌∷◌, ◌++◌, length, map, get_or, Option, None, Some, IfSome, codes, decimal, sym, ap, ◌∙◌, refl, arith, eqb-true}
use Rattle.std.specs.Prelude.{All}
use Rattle.std.specs.Int.{IsInRange}
use Rattle.std.proofs.lemmas.List.{append_cancel_left, append_cancel_right}
use Rattle.std.proofs.lemmas.List.Elements.{All-head, All-tail}
use Rattle.std.proofs.lemmas.Fmt.{decimal_injective, decimal_nonempty}
use Rattle.pgn_base.specs.declared.note.Note.{Note}
use Rattle.pgn_base.specs.declared.note.Delivery.{Delivery}
use Rattle.pgn_base.specs.declared.answers.Tag.{Tag}
use Rattle.pgn_base.specs.declared.answers.Tag.TheVariants as tag
use Rattle.pgn_base.specs.declared.answers.Warning.{Warning}
use Rattle.pgn_base.specs.declared.answers.Warning.TheVariants.{AlreadyInBlock, NotInBlock}
use Rattle.pgn_base.specs.declared.answers.Which.{Which}
use Rattle.pgn_base.specs.declared.answers.Which.TheVariants.{ChannelEmpty, ChannelTooLong, PayloadTooLong}
use Rattle.pgn_base.specs.declared.answers.Needs.{Needs}
use Rattle.pgn_base.specs.declared.answers.Needs.TheVariants as needs
use Rattle.pgn_base.specs.declared.answers.Refusal.{Refusal}
use Rattle.pgn_base.specs.declared.answers.Refusal.TheVariants as refused
use Rattle.pgn_base.specs.declared.queue_answers.Full.{Full}
use Rattle.pgn_base.specs.declared.queue_answers.Usage.{Usage}
use Rattle.pgn_answers.specs.Refusals.{tag_text, refusal_text, warning_lines}
use Rattle.pgn_language.specs.declared.scenario.ScriptLine.{ScriptLine}
use Rattle.pgn_model.specs.declared.item.Item.{Item}
use Rattle.pgn_model.specs.declared.item.Item.TheVariants.{Line, Enlist, Publish, QueueFull, Leave, Reply, Refuse, Channels, Used, Raise, Found, TimedOut, Read}
use Rattle.pgn_model.specs.Text.{note_text, note_line, delivery_line, channel_line, holder_text, full_line, usage_lines, item_lines, end_line}
use Rattle.pgn_reading.specs.Form.{IsXid, IsSession, IsLineName, IsLineNote, IsLineDelivery, IsLineTag, IsLineRefusal, IsLineFull, IsLineUsage, IsReadItem}
use Rattle.pgn_reading.proofs.FieldLaws.{AreDigits, digits-decimal, doubled, quoted-ends, holder-ends, IsHeld, field, blank, line-feed, four-apart, six-apart, twelve-apart, note-ends, same-full, same-usage}

-- Of which kind a line is.

-- a number for each kind of item
abbrev pub kind : Item → ℕ
kind (Line n) = 62
kind (Enlist base point) = 1101
kind (Publish xid notes) = 1112
kind (QueueFull full notes) = 1102
kind Leave = 1108
kind (Reply done warning) = 0
kind (Refuse refusal) = 69
kind (Channels names) = 1
kind (Used usage) = 1117
kind (Raise value) = 1115
kind (Found value) = 1097
kind (TimedOut looks) = 1116
kind (Read from to got) = 1114

-- what the second byte of an event of the queue tells
abbrev event_sign : List ℕ → ℕ
event_sign [] = 0
event_sign (b ∷ bytes) = 1000 + b

-- the row of a name, or another
abbrev row_kind : Bool → ℕ
row_kind named = cond named 1 2

-- what the third byte of a row tells: whether it begins with a quote
abbrev row_sign : List ℕ → ℕ
row_sign [] = 0
row_sign (b ∷ []) = 0
row_sign (b ∷ c ∷ bytes) = row_kind (nat_eq c 34)

-- what the first bytes of a line tell: an event of the queue begins with a plus sign, and a row with two blanks
abbrev pub sign : List ℕ → ℕ
sign [] = 0
sign (b ∷ bytes) =
    cond (nat_eq b 43) (event_sign bytes)
    (cond (nat_eq b 32) (row_sign bytes) (cond (nat_eq b 62) 62 (cond (nat_eq b 69) 69 (cond (nat_eq b 101) 101 (cond (nat_eq b 115) 115 (cond (nat_eq b 120) 120 0))))))

-- what the first of these lines tells
abbrev pub first_sign : List (List ℕ) → ℕ
first_sign [] = 0
first_sign (line ∷ lines) = sign line

-- the first line of an item tells its kind
pub item-sign : (lines : List ScriptLine) (item : Item) (rest : List (List ℕ)) → IsReadItem item → first_sign (item_lines lines item ++ rest) ≡ kind item
item-sign lines (Line n) rest h = refl
item-sign lines (Enlist base point) rest h = refl
item-sign lines (Publish xid notes) rest h = refl
item-sign lines (QueueFull full notes) rest h = refl
item-sign lines Leave rest h = refl
item-sign lines (Reply tag.Begin None) rest h = refl
item-sign lines (Reply tag.Start None) rest h = refl
item-sign lines (Reply tag.Commit None) rest h = refl
item-sign lines (Reply tag.Rollback None) rest h = refl
item-sign lines (Reply tag.Savepoint None) rest h = refl
item-sign lines (Reply tag.Release None) rest h = refl
item-sign lines (Reply tag.Listen None) rest h = refl
item-sign lines (Reply tag.Unlisten None) rest h = refl
item-sign lines (Reply tag.Notify None) rest h = refl
item-sign lines (Reply (tag.Select rows) None) rest h = refl
item-sign lines (Reply done (Some warning)) rest h = refl
item-sign lines (Refuse refusal) rest h = refl
item-sign lines (Channels []) rest h = absurd (h.0 refl)
item-sign lines (Channels (name ∷ names)) rest h = refl
item-sign lines (Used usage) rest h = refl
item-sign lines (Raise value) rest h = refl
item-sign lines (Found value) rest h = refl
item-sign lines (TimedOut looks) rest h = refl
item-sign lines (Read from to got) rest h = refl

-- the last line of a trace, and the rows of a notification
pub end-sign : (last : Option ℕ) → sign (end_line last) ≡ 101
end-sign None = refl
end-sign (Some mark) = refl

-- a notification's line begins as a row with a quote
pub note-sign : (note : Note) → IsLineNote note → sign (note_line note) ≡ 1
note-sign note h = refl

-- so does a channel's line
pub channel-sign : (name : List ℕ) → IsLineName name → sign (channel_line name) ≡ 1
channel-sign name h = refl

-- a number begins with a digit
digit-first : (n : ℕ) → n < 2 ^ 64 → (b : ℕ) × (bytes : List ℕ) × (decimal n ≡ b ∷ bytes) × IsInRange 48 57 b
digit-first n h = by (decimal n) (digits-decimal n h) (decimal_nonempty n h)
  where
    by : (digits : List ℕ) → AreDigits digits → 0 < length digits → (b : ℕ) × (bytes : List ℕ) × (digits ≡ b ∷ bytes) × IsInRange 48 57 b
    by [] d some = absurd (omega (arith, some))
    by (b ∷ bytes) d some = (b, bytes, refl, d.0)

-- the line of one that is received begins as a row with a number
pub delivery-sign : (delivery : Delivery) → IsLineDelivery delivery → sign (delivery_line delivery) ≡ 2
delivery-sign delivery h =
    let first = digit-first delivery.xid (omega (arith, h.xid.1)) in
    ap (λ (digits : List ℕ). sign (codes "  " ++ digits ++ codes " " ++ decimal delivery.pid ++ codes " " ++ note_text delivery.note)) first.2 ∙ no-quote first.0 first.3
  where
    no-quote : (b : ℕ) → IsInRange 48 57 b → row_kind (nat_eq b 34) ≡ 2
    no-quote b digit = by (nat_eq b 34) refl
      where
        by : (t : Bool) → nat_eq b 34 ≡ t → row_kind t ≡ 2
        by true e = absurd (omega (arith, eqb-true b 34 e, digit))
        by false e = refl

-- Two lines that are the same.

-- two lists of lines that are the same have the same first line, and the same lines follow
pub cons-same : (line other : List ℕ) (rest more : List (List ℕ)) → line ∷ rest ≡ other ∷ more → (line ≡ other) × (rest ≡ more)
cons-same line other rest more e = (cc, cc)

-- a number at the end of a line
pub last-number : (start : List ℕ) (m n : ℕ) → m < 2 ^ 64 → n < 2 ^ 64 → start ++ decimal m ≡ start ++ decimal n → m ≡ n
last-number start m n hm hn e = decimal_injective m n hm hn (append_cancel_left start (decimal m) (decimal n) e)

-- two numbers at the end of a line, with a blank between them
pub two-numbers : (start : List ℕ) (m n m' n' : ℕ) → m < 2 ^ 64 → n < 2 ^ 64 → m' < 2 ^ 64 → n' < 2 ^ 64 → start ++ decimal m ++ codes " " ++ decimal n ≡ start ++ decimal m' ++ codes " " ++ decimal n' → (m ≡ m') × (n ≡ n')
two-numbers start m n m' n' hm hn hm' hn' e =
    let apart : start ++ (decimal m ++ (codes " " ++ decimal n)) ≡ start ++ (decimal m' ++ (codes " " ++ decimal n')) =
    sym (four-apart start (decimal m) (codes " ") (decimal n)) ∙ e ∙ four-apart start (decimal m') (codes " ") (decimal n') in
    let first = field start m m' (32 ∷ decimal n) (32 ∷ decimal n') hm hm' (blank (decimal n)) (blank (decimal n')) apart in
    (first.0, last-number (codes " ") n n' hn hn' first.1)

-- a holder at the end of a line
last-holder : (start : List ℕ) (holder other : Option ℕ) → IsHeld holder → IsHeld other → start ++ holder_text holder ≡ start ++ holder_text other → holder ≡ other
last-holder start holder other h k e =
    (holder-ends holder other (10 ∷ []) (10 ∷ []) h k (line-feed []) (line-feed []) (ap (λ (bytes : List ℕ). bytes ++ 10 ∷ []) (append_cancel_left start (holder_text holder) (holder_text other) e))).0

held : (holder : Option ℕ) → IfSome holder IsSession → IsHeld holder
held None h = tt
held (Some session) h = omega (arith, h.1)

-- the lines of rows, each of one kind, and others that follow and are not of this kind
pub rows-same : {A : Type 0} (show : A → List ℕ) (P : A → Type 0) (k : ℕ) → ((x : A) → P x → sign (show x) ≡ k) → ((x y : A) → P x → P y → show x ≡ show y → x ≡ y)
    → (xs ys : List A) (rest more : List (List ℕ)) → All P xs → All P ys → first_sign rest ≢ k → first_sign more ≢ k → map show xs ++ rest ≡ map show ys ++ more → (xs ≡ ys) × (rest ≡ more)
rows-same show P k signed same [] [] rest more h g a b e = (refl, e)
rows-same show P k signed same [] (y ∷ ys) rest more h g a b e = absurd (a (ap first_sign e ∙ signed y (All-head P y ys g)))
rows-same show P k signed same (x ∷ xs) [] rest more h g a b e = absurd (b (sym (ap first_sign e) ∙ signed x (All-head P x xs h)))
rows-same show P k signed same (x ∷ xs) (y ∷ ys) rest more h g a b e =
    let lines = cons-same (show x) (show y) (map show xs ++ rest) (map show ys ++ more) e in
    let one : x ≡ y = same x y (All-head P x xs h) (All-head P y ys g) lines.0 in
    let others = rows-same show P k signed same xs ys rest more (All-tail P x xs h) (All-tail P y ys g) a b lines.1 in
    let behind : xs ≡ ys = others.0 in
    (cc, others.1)

-- the line of a notification
pub note-same : (note other : Note) → IsLineNote note → IsLineNote other → note_line note ≡ note_line other → note ≡ other
note-same note other h k e = (note-ends note other [] [] (ap (λ (bytes : List ℕ). bytes ++ 10 ∷ []) e)).0

-- that of a delivery
pub delivery-same : (delivery other : Delivery) → IsLineDelivery delivery → IsLineDelivery other → delivery_line delivery ≡ delivery_line other → delivery ≡ other
delivery-same delivery other h k e =
    let behind : List ℕ = decimal delivery.pid ++ (codes " " ++ note_text delivery.note) in
    let after : List ℕ = decimal other.pid ++ (codes " " ++ note_text other.note) in
    let apart : codes "  " ++ (decimal delivery.xid ++ (codes " " ++ behind)) ≡ codes "  " ++ (decimal other.xid ++ (codes " " ++ after)) =
    sym (six-apart (codes "  ") (decimal delivery.xid) (codes " ") (decimal delivery.pid) (codes " ") (note_text delivery.note)) ∙ e
    ∙ six-apart (codes "  ") (decimal other.xid) (codes " ") (decimal other.pid) (codes " ") (note_text other.note) in
    let xids = field (codes "  ") delivery.xid other.xid (32 ∷ behind) (32 ∷ after) (omega (arith, h.xid.1)) (omega (arith, k.xid.1)) (blank behind) (blank after) apart in
    let pids = field (codes " ") delivery.pid other.pid (32 ∷ note_text delivery.note) (32 ∷ note_text other.note) (omega (arith, h.pid)) (omega (arith, k.pid)) (blank (note_text delivery.note)) (blank (note_text other.note)) xids.1 in
    let note : delivery.note ≡ other.note = note-same delivery.note other.note h.note k.note (ap (λ (bytes : List ℕ). 32 ∷ bytes) pids.1) in
    ap (λ (n : ℕ). let d : Delivery = record { xid = n; pid = delivery.pid; note = delivery.note } in d) xids.0
    ∙ ap (λ (n : ℕ). let d : Delivery = record { xid = other.xid; pid = n; note = delivery.note } in d) pids.0
    ∙ ap (λ (n : Note). let d : Delivery = record { xid = other.xid; pid = other.pid; note = n } in d) note

-- that of a channel
pub channel-same : (name other : List ℕ) → IsLineName name → IsLineName other → channel_line name ≡ channel_line other → name ≡ other
channel-same name other h k e = (quoted-ends 34 name other [] [] tt tt (append_cancel_left (32 ∷ 32 ∷ 34 ∷ []) (doubled 34 name ++ 34 ∷ []) (doubled 34 other ++ 34 ∷ []) e)).0

-- Answers.

-- what the first two bytes of a tag tell
abbrev tag_kind : Tag → ℕ
tag_kind tag.Begin = 66069
tag_kind tag.Start = 83084
tag_kind tag.Commit = 67079
tag_kind tag.Rollback = 82079
tag_kind tag.Savepoint = 83065
tag_kind tag.Release = 82069
tag_kind tag.Listen = 76073
tag_kind tag.Unlisten = 85078
tag_kind tag.Notify = 78079
tag_kind (tag.Select rows) = 83069

abbrev tag_sign : List ℕ → ℕ
tag_sign line = 1000 * get_or line 0 0 + get_or line 1 0

tag-tells : (done : Tag) → tag_sign (tag_text done) ≡ tag_kind done
tag-tells tag.Begin = refl
tag-tells tag.Start = refl
tag-tells tag.Commit = refl
tag-tells tag.Rollback = refl
tag-tells tag.Savepoint = refl
tag-tells tag.Release = refl
tag-tells tag.Listen = refl
tag-tells tag.Unlisten = refl
tag-tells tag.Notify = refl
tag-tells (tag.Select rows) = refl

-- two tags of one kind with the same text
of-one-tag : (done other : Tag) → tag_kind done ≡ tag_kind other → IsLineTag done → IsLineTag other → tag_text done ≡ tag_text other → done ≡ other
of-one-tag tag.Begin tag.Begin t h k e = refl
of-one-tag tag.Begin other t h k e = absurd (omega (arith, t))
of-one-tag tag.Start tag.Start t h k e = refl
of-one-tag tag.Start other t h k e = absurd (omega (arith, t))
of-one-tag tag.Commit tag.Commit t h k e = refl
of-one-tag tag.Commit other t h k e = absurd (omega (arith, t))
of-one-tag tag.Rollback tag.Rollback t h k e = refl
of-one-tag tag.Rollback other t h k e = absurd (omega (arith, t))
of-one-tag tag.Savepoint tag.Savepoint t h k e = refl
of-one-tag tag.Savepoint other t h k e = absurd (omega (arith, t))
of-one-tag tag.Release tag.Release t h k e = refl
of-one-tag tag.Release other t h k e = absurd (omega (arith, t))
of-one-tag tag.Listen tag.Listen t h k e = refl
of-one-tag tag.Listen other t h k e = absurd (omega (arith, t))
of-one-tag tag.Unlisten tag.Unlisten t h k e = refl
of-one-tag tag.Unlisten other t h k e = absurd (omega (arith, t))
of-one-tag tag.Notify tag.Notify t h k e = refl
of-one-tag tag.Notify other t h k e = absurd (omega (arith, t))
of-one-tag (tag.Select rows) (tag.Select more) t h k e = ap (λ (n : ℕ). let d : Tag = tag.Select n in d) (last-number (codes "SELECT ") rows more (omega (arith, h)) (omega (arith, k)) e)
of-one-tag (tag.Select rows) other t h k e = absurd (omega (arith, t))

-- two tags of replies with the same text are the same
pub tag-same : (done other : Tag) → IsLineTag done → IsLineTag other → tag_text done ≡ tag_text other → done ≡ other
tag-same done other h k e = of-one-tag done other (sym (tag-tells done) ∙ ap tag_sign e ∙ tag-tells other) h k e

-- no tag begins as a warning does
no-warning : (done : Tag) → tag_kind done ≡ 87065 → ⊥
no-warning tag.Begin h = omega (arith, h)
no-warning done h = omega (arith, h)

-- a warning, where there is one, and the tag
pub reply-same : (done other : Tag) (warning warned : Option Warning) (rest more : List (List ℕ)) → IsLineTag done → IsLineTag other → (warning_lines warning ++ tag_text done ∷ []) ++ rest ≡ (warning_lines warned ++ tag_text other ∷ []) ++ more
    → (done ≡ other) × (warning ≡ warned) × (rest ≡ more)
reply-same done other None None rest more h k e =
    let lines = cons-same (tag_text done) (tag_text other) rest more e in
    (tag-same done other h k lines.0, refl, lines.1)
reply-same done other None (Some warned) rest more h k e = absurd (no-warning done (sym (tag-tells done) ∙ ap (λ (lines : List (List ℕ)). tag_sign (get_or lines 0 [])) e))
reply-same done other (Some warning) None rest more h k e = absurd (no-warning other (sym (tag-tells other) ∙ sym (ap (λ (lines : List (List ℕ)). tag_sign (get_or lines 0 [])) e)))
reply-same done other (Some warning) (Some warned) rest more h k e =
    let first = cons-same _ _ (tag_text done ∷ rest) (tag_text other ∷ more) e in
    let lines = cons-same (tag_text done) (tag_text other) rest more first.1 in
    (tag-same done other h k lines.0, ap (λ (w : Warning). Some w) (one warning warned (ap (λ (line : List ℕ). get_or line 11 0) first.0)), lines.1)
  where
    one : (w v : Warning) → get_or (get_or (warning_lines (Some w)) 0 []) 11 0 ≡ get_or (get_or (warning_lines (Some v)) 0 []) 11 0 → w ≡ v
    one AlreadyInBlock AlreadyInBlock t = refl
    one AlreadyInBlock NotInBlock t = absurd (omega (arith, t))
    one NotInBlock AlreadyInBlock t = absurd (omega (arith, t))
    one NotInBlock NotInBlock t = refl

-- what two bytes of a refusal's code tell
abbrev refusal_kind : Refusal → ℕ
refusal_kind (refused.Syntax at) = 50049
refusal_kind (refused.Bounds which) = 50051
refusal_kind (refused.NeedsBlock what) = 53049
refusal_kind (refused.NoSavepoint name) = 66049
refusal_kind refused.Aborted = 53050
refusal_kind refused.QueueFull = 52048

abbrev refusal_line : Refusal → List ℕ
refusal_line refusal = codes "ERROR: " ++ refusal_text refusal

abbrev refusal_sign : List ℕ → ℕ
refusal_sign line = 1000 * get_or line 8 0 + get_or line 11 0

refusal-tells : (refusal : Refusal) → refusal_sign (refusal_line refusal) ≡ refusal_kind refusal
refusal-tells (refused.Syntax at) = refl
refusal-tells (refused.Bounds which) = refl
refusal-tells (refused.NeedsBlock what) = refl
refusal-tells (refused.NoSavepoint name) = refl
refusal-tells refused.Aborted = refl
refusal-tells refused.QueueFull = refl

-- another byte tells the limit
bounds-same : (which other : Which) → get_or (refusal_line (refused.Bounds which)) 27 0 ≡ get_or (refusal_line (refused.Bounds other)) 27 0 → which ≡ other
bounds-same ChannelEmpty ChannelEmpty e = refl
bounds-same ChannelEmpty ChannelTooLong e = absurd (omega (arith, e))
bounds-same ChannelEmpty PayloadTooLong e = absurd (omega (arith, e))
bounds-same ChannelTooLong ChannelEmpty e = absurd (omega (arith, e))
bounds-same ChannelTooLong ChannelTooLong e = refl
bounds-same ChannelTooLong PayloadTooLong e = absurd (omega (arith, e))
bounds-same PayloadTooLong ChannelEmpty e = absurd (omega (arith, e))
bounds-same PayloadTooLong ChannelTooLong e = absurd (omega (arith, e))
bounds-same PayloadTooLong PayloadTooLong e = refl

-- and another the command
needs-same : (what other : Needs) → get_or (refusal_line (refused.NeedsBlock what)) 15 0 ≡ get_or (refusal_line (refused.NeedsBlock other)) 15 0 → what ≡ other
needs-same needs.Savepoint needs.Savepoint e = refl
needs-same needs.Savepoint needs.RollbackTo e = absurd (omega (arith, e))
needs-same needs.Savepoint needs.Release e = absurd (omega (arith, e))
needs-same needs.RollbackTo needs.Savepoint e = absurd (omega (arith, e))
needs-same needs.RollbackTo needs.RollbackTo e = refl
needs-same needs.RollbackTo needs.Release e = absurd (omega (arith, e))
needs-same needs.Release needs.Savepoint e = absurd (omega (arith, e))
needs-same needs.Release needs.RollbackTo e = absurd (omega (arith, e))
needs-same needs.Release needs.Release e = refl

of-one-refusal : (refusal other : Refusal) → refusal_kind refusal ≡ refusal_kind other → IsLineRefusal refusal → IsLineRefusal other → refusal_line refusal ≡ refusal_line other → refusal ≡ other
of-one-refusal (refused.Syntax at) (refused.Syntax at') t h k e =
    ap (λ (n : ℕ). let r : Refusal = refused.Syntax n in r) (last-number (codes "ERROR: 42601: syntax error at byte ") at at' (omega (arith, h)) (omega (arith, k)) e)
of-one-refusal (refused.Syntax at) other t h k e = absurd (omega (arith, t))
of-one-refusal (refused.Bounds which) (refused.Bounds which') t h k e = ap (λ (w : Which). let r : Refusal = refused.Bounds w in r) (bounds-same which which' (ap (λ (line : List ℕ). get_or line 27 0) e))
of-one-refusal (refused.Bounds which) other t h k e = absurd (omega (arith, t))
of-one-refusal (refused.NeedsBlock what) (refused.NeedsBlock what') t h k e = ap (λ (w : Needs). let r : Refusal = refused.NeedsBlock w in r) (needs-same what what' (ap (λ (line : List ℕ). get_or line 15 0) e))
of-one-refusal (refused.NeedsBlock what) other t h k e = absurd (omega (arith, t))
of-one-refusal (refused.NoSavepoint name) (refused.NoSavepoint name') t h k e =
    let end : List ℕ = codes "\" does not exist" in
    ap (λ (n : List ℕ). let r : Refusal = refused.NoSavepoint n in r) (append_cancel_right name name' end (append_cancel_left (codes "ERROR: 3B001: savepoint \"") (name ++ end) (name' ++ end) e))
of-one-refusal (refused.NoSavepoint name) other t h k e = absurd (omega (arith, t))
of-one-refusal refused.Aborted refused.Aborted t h k e = refl
of-one-refusal refused.Aborted other t h k e = absurd (omega (arith, t))
of-one-refusal refused.QueueFull refused.QueueFull t h k e = refl
of-one-refusal refused.QueueFull other t h k e = absurd (omega (arith, t))

-- the line of a refusal tells it
pub refusal-same : (refusal other : Refusal) → IsLineRefusal refusal → IsLineRefusal other → refusal_line refusal ≡ refusal_line other → refusal ≡ other
refusal-same refusal other h k e = of-one-refusal refusal other (sym (refusal-tells refusal) ∙ ap refusal_sign e ∙ refusal-tells other) h k e

-- The queue's answers.

-- the line of a full queue tells it
pub full-same : (full other : Full) → IsLineFull full → IsLineFull other → full_line full ≡ full_line other → full ≡ other
full-same full other h k e =
    let in_page : List ℕ = codes " holder " ++ holder_text full.holder in
    let in_page' : List ℕ = codes " holder " ++ holder_text other.holder in
    let in_floor : List ℕ = codes " page " ++ (decimal full.floor_page ++ in_page) in
    let in_floor' : List ℕ = codes " page " ++ (decimal other.floor_page ++ in_page') in
    let in_head : List ℕ = codes " floor " ++ (decimal full.floor_mark ++ in_floor) in
    let in_head' : List ℕ = codes " floor " ++ (decimal other.floor_mark ++ in_floor') in
    let in_queued : List ℕ = codes " head " ++ (decimal full.head_page ++ in_head) in
    let in_queued' : List ℕ = codes " head " ++ (decimal other.head_page ++ in_head') in
    let in_xid : List ℕ = codes " queued " ++ (decimal full.queued ++ in_queued) in
    let in_xid' : List ℕ = codes " queued " ++ (decimal other.queued ++ in_queued') in
    let apart : codes "+full " ++ (decimal full.xid ++ in_xid) ≡ codes "+full " ++ (decimal other.xid ++ in_xid') = sym (full-apart full) ∙ e ∙ full-apart other in
    let low : 32 < 48 = omega arith in
    let xids = field (codes "+full ") full.xid other.xid in_xid in_xid' (omega (arith, h.xid.1)) (omega (arith, k.xid.1)) low low apart in
    let queued = field (codes " queued ") full.queued other.queued in_queued in_queued' (omega (arith, h.queued)) (omega (arith, k.queued)) low low xids.1 in
    let heads = field (codes " head ") full.head_page other.head_page in_head in_head' h.head_page k.head_page low low queued.1 in
    let floors = field (codes " floor ") full.floor_mark other.floor_mark in_floor in_floor' (omega (arith, h.floor_mark.1)) (omega (arith, k.floor_mark.1)) low low heads.1 in
    let pages = field (codes " page ") full.floor_page other.floor_page in_page in_page' h.floor_page k.floor_page low low floors.1 in
    let holders : full.holder ≡ other.holder = last-holder (codes " holder ") full.holder other.holder (held full.holder h.holder) (held other.holder k.holder) pages.1 in
    same-full full other xids.0 queued.0 heads.0 floors.0 pages.0 holders
  where
    full-apart : (f : Full)
        → full_line f ≡ codes "+full " ++ (decimal f.xid ++ (codes " queued " ++ (decimal f.queued ++ (codes " head " ++ (decimal f.head_page ++ (codes " floor " ++ (decimal f.floor_mark ++ (codes " page " ++ (decimal f.floor_page ++ (codes " holder " ++ holder_text f.holder))))))))))
    full-apart f =
        twelve-apart (codes "+full ") (decimal f.xid) (codes " queued ") (decimal f.queued) (codes " head ") (decimal f.head_page) (codes " floor ") (decimal f.floor_mark) (codes " page ") (decimal f.floor_page) (codes " holder ") (holder_text f.holder)

-- the lines of a usage tell it, and the lines behind them
pub usage-same : (usage other : Usage) (rest more : List (List ℕ)) → IsLineUsage usage → IsLineUsage other → usage_lines usage ++ rest ≡ usage_lines other ++ more → (usage ≡ other) × (rest ≡ more)
usage-same usage other rest more h k e =
    let in_floor : List ℕ = codes " holder " ++ holder_text usage.holder in
    let in_floor' : List ℕ = codes " holder " ++ holder_text other.holder in
    let in_at : List ℕ = codes " floor " ++ (decimal usage.floor_mark ++ in_floor) in
    let in_at' : List ℕ = codes " floor " ++ (decimal other.floor_mark ++ in_floor') in
    let row : List ℕ = codes "  " ++ decimal usage.occupied ++ codes "/" ++ decimal usage.limit in
    let row' : List ℕ = codes "  " ++ decimal other.occupied ++ codes "/" ++ decimal other.limit in
    let low : 32 < 48 = omega arith in
    let slash : 47 < 48 = omega arith in
    let first = cons-same (codes "+usage " ++ decimal usage.at ++ codes " floor " ++ decimal usage.floor_mark ++ codes " holder " ++ holder_text usage.holder)
    (codes "+usage " ++ decimal other.at ++ codes " floor " ++ decimal other.floor_mark ++ codes " holder " ++ holder_text other.holder) (row ∷ rest) (row' ∷ more) e in
    let second = cons-same row row' rest more first.1 in
    let ats = field (codes "+usage ") usage.at other.at in_at in_at' (omega (arith, h.at.1)) (omega (arith, k.at.1)) low low
    (sym (six-apart (codes "+usage ") (decimal usage.at) (codes " floor ") (decimal usage.floor_mark) (codes " holder ") (holder_text usage.holder)) ∙ first.0
    ∙ six-apart (codes "+usage ") (decimal other.at) (codes " floor ") (decimal other.floor_mark) (codes " holder ") (holder_text other.holder)) in
    let floors = field (codes " floor ") usage.floor_mark other.floor_mark in_floor in_floor' (omega (arith, h.floor_mark.1)) (omega (arith, k.floor_mark.1)) low low ats.1 in
    let holders : usage.holder ≡ other.holder = last-holder (codes " holder ") usage.holder other.holder (held usage.holder h.holder) (held other.holder k.holder) floors.1 in
    let pages = field (codes "  ") usage.occupied other.occupied (codes "/" ++ decimal usage.limit) (codes "/" ++ decimal other.limit) h.occupied k.occupied slash slash
    (sym (four-apart (codes "  ") (decimal usage.occupied) (codes "/") (decimal usage.limit)) ∙ second.0 ∙ four-apart (codes "  ") (decimal other.occupied) (codes "/") (decimal other.limit)) in
    let limits : usage.limit ≡ other.limit = last-number (codes "/") usage.limit other.limit (omega (arith, h.limit)) (omega (arith, k.limit)) pages.1 in
    (same-usage usage other ats.0 pages.0 limits floors.0 holders, second.1)

-- the last line of a trace
pub end-same : (last other : Option ℕ) → IfSome last IsXid → IfSome other IsXid → end_line last ≡ end_line other → last ≡ other
end-same None None h k e = refl
end-same None (Some mark) h k e = absurd (let apart : 0 ≡ 32 = ap (λ (line : List ℕ). get_or line 3 0) e in omega (arith, apart))
end-same (Some mark) None h k e = absurd (let apart : 32 ≡ 0 = ap (λ (line : List ℕ). get_or line 3 0) e in omega (arith, apart))
end-same (Some mark) (Some other) h k e = ap (λ (n : ℕ). Some n) (last-number (codes "end mark ") mark other (omega (arith, h.1)) (omega (arith, k.1)) e)
