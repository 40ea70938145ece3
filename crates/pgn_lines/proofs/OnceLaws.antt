-- No two things are shown by one line.
use Rattle.std.proofs.Common.{◌≡◌, ℕ, ◌+◌, cond, nat_eq, get_or, List, [], ◌∷◌, ◌++◌, Option, None, Some, IfSome, codes, decimal, sym, ap, ◌∙◌, refl, arith}
use Rattle.std.proofs.lemmas.List.{append_cancel_left}
use Rattle.pgn_base.specs.declared.answers.Tag.{Tag}
use Rattle.pgn_base.specs.declared.answers.Tag.TheVariants as tag
use Rattle.pgn_base.specs.declared.answers.Warning.{Warning}
use Rattle.pgn_base.specs.declared.answers.Refusal.{Refusal}
use Rattle.pgn_base.specs.declared.note.Note.{Note}
use Rattle.pgn_base.specs.declared.note.Delivery.{Delivery}
use Rattle.pgn_base.specs.declared.queue_answers.Full.{Full}
use Rattle.pgn_language.specs.Quotes.{quoted}
use Rattle.pgn_model.specs.Text.{delivery_line, end_line, full_line, holder_text, note_text}
use Rattle.pgn_lines.specs.Shown.{IsFull, IsHeld, IsLong, IsSession, ShownOnce, shown_text}
use Rattle.pgn_lines.specs.declared.shown.Shown.{Shown}
use Rattle.pgn_lines.specs.declared.shown.Shown.TheVariants.{Journal, Committed, Aborted, Sent, Enlist, Publish, QueueFull, Leave, Warn, Tagged, Refuse, Channel, Measured, Pages, Raise, Found, TimedOut, Read, Received, End}
use Rattle.pgn_lines.proofs.PartLaws.{number_part, blank_part, last_part, two_parts, holder_part, note_part, name_part, no_quote, note_is_no_name, in_four, in_five, in_six}
use Rattle.pgn_lines.proofs.LineLaws.{full_spelled, long_session, long_short, long_xid}
use Rattle.pgn_lines.proofs.FieldLaws.{differ}
use Rattle.pgn_lines.proofs.AnswerParts.{tag_part, warning_part, refusal_part}

-- a number for each kind that the first two bytes tell
abbrev pub kind : Shown → ℕ
kind (Journal entries) = 106
kind (Committed xid session notes) = 120
kind (Aborted xid session queued notes) = 120
kind (Sent note) = 32
kind (Enlist base point) = 1101
kind (Publish xid) = 1112
kind (QueueFull full) = 1102
kind Leave = 1108
kind (Warn warning) = 87
kind (Tagged done) = 0
kind (Refuse refusal) = 69
kind (Channel name) = 32
kind (Measured at floor holder) = 1117
kind (Pages occupied limit) = 32
kind (Raise value) = 1115
kind (Found value) = 1097
kind (TimedOut looks) = 1116
kind (Read from to) = 1114
kind (Received delivery) = 32
kind (End mark) = 101

-- what the first two bytes tell: an event begins with a plus sign, and its second byte tells which
abbrev pub sign : List ℕ → ℕ
sign [] = 0
sign (b ∷ []) = 0
sign (b ∷ c ∷ bytes) = cond (nat_eq b 43) (1000 + c) (cond (nat_eq b 32) 32 (cond (nat_eq b 69) 69 (cond (nat_eq b 87) 87 (cond (nat_eq b 101) 101 (cond (nat_eq b 106) 106 (cond (nat_eq b 120) 120 0))))))

-- the first bytes of a line tell its kind
pub told : (shown : Shown) → sign (shown_text shown) ≡ kind shown
told (Journal entries) = refl
told (Committed xid session notes) = refl
told (Aborted xid session queued notes) = refl
told (Sent note) = refl
told (Enlist base point) = refl
told (Publish xid) = refl
told (QueueFull full) = refl
told Leave = refl
told (Warn warning) = refl
told (Tagged tag.Begin) = refl
told (Tagged tag.Start) = refl
told (Tagged tag.Commit) = refl
told (Tagged tag.Rollback) = refl
told (Tagged tag.Savepoint) = refl
told (Tagged tag.Release) = refl
told (Tagged tag.Listen) = refl
told (Tagged tag.Unlisten) = refl
told (Tagged tag.Notify) = refl
told (Tagged (tag.Select rows)) = refl
told (Refuse refusal) = refl
told (Channel name) = refl
told (Measured at floor holder) = refl
told (Pages occupied limit) = refl
told (Raise value) = refl
told (Found value) = refl
told (TimedOut looks) = refl
told (Read from to) = refl
told (Received delivery) = refl
told (End None) = refl
told (End (Some mark)) = refl

-- the two numbers of an entry
entry_parts : (x s x' s' : ℕ) (rest more : List ℕ) → IsLong x → IsLong s → IsLong x' → IsLong s' → codes "xid " ++ decimal x ++ codes " session " ++ decimal s ++ 32 ∷ rest ≡ codes "xid " ++ decimal x' ++ codes " session " ++ decimal s' ++ 32 ∷ more
    → (x ≡ x') × (s ≡ s') × (rest ≡ more)
entry_parts x s x' s' rest more a b c d e =
    let spelled : codes "xid " ++ (decimal x ++ (codes " session " ++ (decimal s ++ 32 ∷ rest))) ≡ codes "xid " ++ (decimal x' ++ (codes " session " ++ (decimal s' ++ 32 ∷ more))) =
    sym (in_five (codes "xid ") (decimal x) (codes " session ") (decimal s) (32 ∷ rest)) ∙ e ∙ in_five (codes "xid ") (decimal x') (codes " session ") (decimal s') (32 ∷ more) in
    let xids = blank_part (codes "xid ") x x' (codes "session " ++ (decimal s ++ 32 ∷ rest)) (codes "session " ++ (decimal s' ++ 32 ∷ more)) a c spelled in
    let sessions = blank_part (codes "session ") s s' rest more b d xids.1 in
    (xids.0, sessions.0, sessions.1)

-- the two numbers before a notification that was received
received_parts : (x p x' p' : ℕ) (rest more : List ℕ) → IsLong x → IsLong p → IsLong x' → IsLong p' → codes "  " ++ decimal x ++ codes " " ++ decimal p ++ codes " " ++ rest ≡ codes "  " ++ decimal x' ++ codes " " ++ decimal p' ++ codes " " ++ more
    → (x ≡ x') × (p ≡ p') × (rest ≡ more)
received_parts x p x' p' rest more a b c d e =
    let spelled : codes "  " ++ (decimal x ++ (codes " " ++ (decimal p ++ (codes " " ++ rest)))) ≡ codes "  " ++ (decimal x' ++ (codes " " ++ (decimal p' ++ (codes " " ++ more)))) =
    sym (in_six (codes "  ") (decimal x) (codes " ") (decimal p) (codes " ") rest) ∙ e ∙ in_six (codes "  ") (decimal x') (codes " ") (decimal p') (codes " ") more in
    let xids = blank_part (codes "  ") x x' (decimal p ++ 32 ∷ rest) (decimal p' ++ 32 ∷ more) a c spelled in
    let pids = blank_part [] p p' rest more b d xids.1 in
    (xids.0, pids.0, pids.1)

long_holder : (holder : Option ℕ) → IfSome holder IsSession → IfSome holder IsLong
long_holder None h = tt
long_holder (Some session) h = long_session session h

same_full : (a b : Full) → a.xid ≡ b.xid → a.queued ≡ b.queued → a.head_page ≡ b.head_page → a.floor_mark ≡ b.floor_mark → a.floor_page ≡ b.floor_page → a.holder ≡ b.holder → a ≡ b
same_full a b e1 e2 e3 e4 e5 e6 =
    ap (λ (n : ℕ). let f : Full = record a { xid = n } in f) e1
    ∙ ap (λ (n : ℕ). let f : Full = record a { xid = b.xid; queued = n } in f) e2
    ∙ ap (λ (n : ℕ). let f : Full = record a { xid = b.xid; queued = b.queued; head_page = n } in f) e3
    ∙ ap (λ (n : ℕ). let f : Full = record b { floor_mark = n; floor_page = a.floor_page; holder = a.holder } in f) e4
    ∙ ap (λ (n : ℕ). let f : Full = record b { floor_page = n; holder = a.holder } in f) e5
    ∙ ap (λ (holder : Option ℕ). let f : Full = record b { holder = holder } in f) e6

full_once : (a b : Full) → IsFull a → IsFull b → full_line a ≡ full_line b → a ≡ b
full_once a b h k e =
    let page : List ℕ = codes "holder " ++ holder_text a.holder in
    let page' : List ℕ = codes "holder " ++ holder_text b.holder in
    let mark : List ℕ = codes "page " ++ (decimal a.floor_page ++ 32 ∷ page) in
    let mark' : List ℕ = codes "page " ++ (decimal b.floor_page ++ 32 ∷ page') in
    let head : List ℕ = codes "floor " ++ (decimal a.floor_mark ++ 32 ∷ mark) in
    let head' : List ℕ = codes "floor " ++ (decimal b.floor_mark ++ 32 ∷ mark') in
    let queued : List ℕ = codes "head " ++ (decimal a.head_page ++ 32 ∷ head) in
    let queued' : List ℕ = codes "head " ++ (decimal b.head_page ++ 32 ∷ head') in
    let xid : List ℕ = codes "queued " ++ (decimal a.queued ++ 32 ∷ queued) in
    let xid' : List ℕ = codes "queued " ++ (decimal b.queued ++ 32 ∷ queued') in
    let xids = blank_part (codes "+full ") a.xid b.xid xid xid' (long_xid a.xid h.0) (long_xid b.xid k.0) (sym (full_spelled a) ∙ e ∙ full_spelled b) in
    let counts = blank_part (codes "queued ") a.queued b.queued queued queued' (long_short a.queued h.1) (long_short b.queued k.1) xids.1 in
    let heads = blank_part (codes "head ") a.head_page b.head_page head head' h.2 k.2 counts.1 in
    let marks = blank_part (codes "floor ") a.floor_mark b.floor_mark mark mark' (long_xid a.floor_mark h.3) (long_xid b.floor_mark k.3) heads.1 in
    let pages = blank_part (codes "page ") a.floor_page b.floor_page page page' h.4 k.4 marks.1 in
    let holders = holder_part a.holder b.holder (long_holder a.holder h.5) (long_holder b.holder k.5) (append_cancel_left (codes "holder ") (holder_text a.holder) (holder_text b.holder) pages.1) in
    same_full a b xids.0 counts.0 heads.0 marks.0 pages.0 holders

usage_once : (at at' floor floor' : ℕ) (holder holder' : Option ℕ) → IsHeld (Measured at floor holder) → IsHeld (Measured at' floor' holder') → shown_text (Measured at floor holder) ≡ shown_text (Measured at' floor' holder')
    → Measured at floor holder ≡ Measured at' floor' holder'
usage_once at at' floor floor' holder holder' h k e =
    let spelled = sym (in_six (codes "+usage ") (decimal at) (codes " floor ") (decimal floor) (codes " holder ") (holder_text holder)) ∙ e ∙ in_six (codes "+usage ") (decimal at') (codes " floor ") (decimal floor') (codes " holder ") (holder_text holder') in
    let ats = blank_part (codes "+usage ") at at' (codes "floor " ++ (decimal floor ++ (codes " holder " ++ holder_text holder))) (codes "floor " ++ (decimal floor' ++ (codes " holder " ++ holder_text holder'))) (long_xid at h.0) (long_xid at' k.0) spelled in
    let floors = blank_part (codes "floor ") floor floor' (codes "holder " ++ holder_text holder) (codes "holder " ++ holder_text holder') (long_xid floor h.1) (long_xid floor' k.1) ats.1 in
    let holders = holder_part holder holder' (long_holder holder h.2) (long_holder holder' k.2) (append_cancel_left (codes "holder ") (holder_text holder) (holder_text holder') floors.1) in
    let one : at ≡ at' = ats.0 in
    let two : floor ≡ floor' = floors.0 in
    cc

pages_once : (occupied occupied' limit limit' : ℕ) → IsHeld (Pages occupied limit) → IsHeld (Pages occupied' limit') → shown_text (Pages occupied limit) ≡ shown_text (Pages occupied' limit') → Pages occupied limit ≡ Pages occupied' limit'
pages_once occupied occupied' limit limit' h k e =
    let spelled = sym (in_four (codes "  ") (decimal occupied) (codes "/") (decimal limit)) ∙ e ∙ in_four (codes "  ") (decimal occupied') (codes "/") (decimal limit') in
    let rows = number_part 47 47 occupied occupied' (decimal limit) (decimal limit') (omega arith) (omega arith) h.0 k.0 (append_cancel_left (codes "  ") (decimal occupied ++ 47 ∷ decimal limit) (decimal occupied' ++ 47 ∷ decimal limit') spelled) in
    let one : occupied ≡ occupied' = rows.0 in
    let two : limit ≡ limit' = last_part (47 ∷ []) limit limit' (long_short limit h.1) (long_short limit' k.1) rows.1 in
    cc

received_once : (a b : Delivery) → IsHeld (Received a) → IsHeld (Received b) → delivery_line a ≡ delivery_line b → a ≡ b
received_once a b h k e =
    let parts = received_parts a.xid a.pid b.xid b.pid (note_text a.note) (note_text b.note) (long_xid a.xid h.0) (long_short a.pid h.1) (long_xid b.xid k.0) (long_short b.pid k.1) e in
    let one : a.xid ≡ b.xid = parts.0 in
    let two : a.pid ≡ b.pid = parts.1 in
    let three : a.note ≡ b.note = note_part a.note b.note parts.2 in
    ap (λ (n : ℕ). let d : Delivery = record a { xid = n } in d) one
    ∙ ap (λ (n : ℕ). let d : Delivery = record b { pid = n; note = a.note } in d) two
    ∙ ap (λ (n : Note). let d : Delivery = record b { note = n } in d) three

end_once : (a b : Option ℕ) → IsHeld (End a) → IsHeld (End b) → end_line a ≡ end_line b → a ≡ b
end_once None None h k e = refl
end_once None (Some n) h k e = absurd (let no : ⊥ = cc in no)
end_once (Some m) None h k e = absurd (let no : ⊥ = cc in no)
end_once (Some m) (Some n) h k e = ap (λ (mark : ℕ). Some mark) (last_part (codes "end mark ") m n (long_xid m h) (long_xid n k) e)

-- a row of pages or of a delivery begins with no quote
no_pages : (bytes : List ℕ) (occupied limit : ℕ) → IsHeld (Pages occupied limit) → codes "  " ++ 34 ∷ bytes ≡ shown_text (Pages occupied limit) → ⊥
no_pages bytes occupied limit h e =
    let spelled = append_cancel_left (codes "  ") (34 ∷ bytes) (decimal occupied ++ 47 ∷ decimal limit) (e ∙ in_four (codes "  ") (decimal occupied) (codes "/") (decimal limit)) in
    no_quote 47 occupied bytes (decimal limit) (λ h. omega (arith, h)) h.0 spelled

no_delivery : (bytes : List ℕ) (delivery : Delivery) → IsHeld (Received delivery) → codes "  " ++ 34 ∷ bytes ≡ shown_text (Received delivery) → ⊥
no_delivery bytes delivery h e =
    let rest : List ℕ = decimal delivery.pid ++ (codes " " ++ note_text delivery.note) in
    let spelled = append_cancel_left (codes "  ") (34 ∷ bytes) (decimal delivery.xid ++ 32 ∷ rest) (e ∙ in_six (codes "  ") (decimal delivery.xid) (codes " ") (decimal delivery.pid) (codes " ") (note_text delivery.note)) in
    no_quote 32 delivery.xid bytes rest (λ h. omega (arith, h)) (long_xid delivery.xid h.0) spelled

-- a slash follows the pages, and a blank the number of a delivery
pages_are_apart : (occupied limit : ℕ) (delivery : Delivery) → IsHeld (Pages occupied limit) → IsHeld (Received delivery) → shown_text (Pages occupied limit) ≡ shown_text (Received delivery) → ⊥
pages_are_apart occupied limit delivery h k e =
    let rest : List ℕ = decimal delivery.pid ++ (codes " " ++ note_text delivery.note) in
    let spelled = sym (in_four (codes "  ") (decimal occupied) (codes "/") (decimal limit)) ∙ e ∙ in_six (codes "  ") (decimal delivery.xid) (codes " ") (decimal delivery.pid) (codes " ") (note_text delivery.note) in
    let rows = number_part 47 32 occupied delivery.xid (decimal limit) rest (omega arith) (omega arith) h.0 (long_xid delivery.xid k.0) (append_cancel_left (codes "  ") (decimal occupied ++ 47 ∷ decimal limit) (decimal delivery.xid ++ 32 ∷ rest) spelled) in
    let second : 47 ∷ decimal limit ≡ 32 ∷ rest = rows.1 in
    let same : 47 ≡ 32 = ap (λ (bytes : List ℕ). get_or bytes 0 0) second in
    omega (arith, same)

-- no line shows both a committed transaction and an aborted one
pub entries_are_apart : (x s n x' s' q n' : ℕ) → IsHeld (Committed x s n) → IsHeld (Aborted x' s' q n') → shown_text (Committed x s n) ≡ shown_text (Aborted x' s' q n') → ⊥
entries_are_apart x s n x' s' q n' h k e =
    let parts = entry_parts x s x' s' (codes "commit " ++ decimal n) (codes "abort " ++ decimal q ++ codes " of " ++ decimal n') (long_xid x h.0) (long_session s h.1) (long_xid x' k.0) (long_session s' k.1) e in
    let same : 99 ≡ 97 = ap (λ (bytes : List ℕ). get_or bytes 0 0) parts.2 in
    omega (arith, same)

once : (a b : Shown) → IsHeld a → IsHeld b → kind a ≡ kind b → shown_text a ≡ shown_text b → a ≡ b
once (Journal entries) (Journal entries') h k t e = ap (λ (n : ℕ). let s : Shown = Journal n in s) (last_part (codes "journal ") entries entries' (omega (arith, h)) (omega (arith, k)) e)
once (Journal entries) b h k t e = absurd (differ 106 _ t refl)
once (Committed xid session notes) (Committed xid' session' notes') h k t e =
    let parts = entry_parts xid session xid' session' (codes "commit " ++ decimal notes) (codes "commit " ++ decimal notes') (long_xid xid h.0) (long_session session h.1) (long_xid xid' k.0) (long_session session' k.1) e in
    let one : xid ≡ xid' = parts.0 in
    let two : session ≡ session' = parts.1 in
    let three : notes ≡ notes' = last_part (codes "commit ") notes notes' (long_short notes h.2) (long_short notes' k.2) parts.2 in
    cc
once (Committed xid session notes) (Aborted xid' session' queued' notes') h k t e = absurd (entries_are_apart xid session notes xid' session' queued' notes' h k e)
once (Committed xid session notes) b h k t e = absurd (differ 120 _ t refl)
once (Aborted xid session queued notes) (Aborted xid' session' queued' notes') h k t e =
    let parts = entry_parts xid session xid' session' (codes "abort " ++ decimal queued ++ codes " of " ++ decimal notes) (codes "abort " ++ decimal queued' ++ codes " of " ++ decimal notes') (long_xid xid h.0) (long_session session h.1) (long_xid xid' k.0) (long_session session' k.1) e in
    let counts = two_parts (codes "abort ") (codes "of ") queued queued' notes notes' (long_short queued h.2) (long_short queued' k.2) (long_short notes h.3) (long_short notes' k.3) parts.2 in
    let one : xid ≡ xid' = parts.0 in
    let two : session ≡ session' = parts.1 in
    let three : queued ≡ queued' = counts.0 in
    let four : notes ≡ notes' = counts.1 in
    cc
once (Aborted xid session queued notes) (Committed xid' session' notes') h k t e = absurd (entries_are_apart xid' session' notes' xid session queued notes k h (sym e))
once (Aborted xid session queued notes) b h k t e = absurd (differ 120 _ t refl)
once (Sent note) (Sent note') h k t e = ap (λ (n : Note). let s : Shown = Sent n in s) (note_part note note' (append_cancel_left (codes "  ") (note_text note) (note_text note') e))
once (Sent note) (Channel name') h k t e = absurd (note_is_no_name note name' (append_cancel_left (codes "  ") (note_text note) (quoted 34 name') e))
once (Sent note) (Pages occupied' limit') h k t e = absurd (no_pages _ occupied' limit' k e)
once (Sent note) (Received delivery') h k t e = absurd (no_delivery _ delivery' k e)
once (Sent note) b h k t e = absurd (differ 32 _ t refl)
once (Enlist base point) (Enlist base' point') h k t e =
    let parts = two_parts (codes "+enlist ") [] base base' point point' (long_xid base h.0) (long_xid base' k.0) (long_xid point h.1) (long_xid point' k.1) e in
    let one : base ≡ base' = parts.0 in
    let two : point ≡ point' = parts.1 in
    cc
once (Enlist base point) b h k t e = absurd (differ 1101 _ t refl)
once (Publish xid) (Publish xid') h k t e = ap (λ (n : ℕ). let s : Shown = Publish n in s) (last_part (codes "+publish ") xid xid' (long_xid xid h) (long_xid xid' k) e)
once (Publish xid) b h k t e = absurd (differ 1112 _ t refl)
once (QueueFull full) (QueueFull full') h k t e = ap (λ (f : Full). let s : Shown = QueueFull f in s) (full_once full full' h k e)
once (QueueFull full) b h k t e = absurd (differ 1102 _ t refl)
once Leave Leave h k t e = refl
once Leave b h k t e = absurd (differ 1108 _ t refl)
once (Warn warning) (Warn warning') h k t e = ap (λ (w : Warning). let s : Shown = Warn w in s) (warning_part warning warning' e)
once (Warn warning) b h k t e = absurd (differ 87 _ t refl)
once (Tagged done) (Tagged done') h k t e = ap (λ (d : Tag). let s : Shown = Tagged d in s) (tag_part done done' h k e)
once (Tagged done) b h k t e = absurd (differ 0 _ t refl)
once (Refuse refusal) (Refuse refusal') h k t e = ap (λ (r : Refusal). let s : Shown = Refuse r in s) (refusal_part refusal refusal' h k e)
once (Refuse refusal) b h k t e = absurd (differ 69 _ t refl)
once (Channel name) (Channel name') h k t e = ap (λ (n : List ℕ). let s : Shown = Channel n in s) (name_part name name' (append_cancel_left (codes "  ") (quoted 34 name) (quoted 34 name') e))
once (Channel name) (Sent note') h k t e = absurd (note_is_no_name note' name (sym (append_cancel_left (codes "  ") (quoted 34 name) (note_text note') e)))
once (Channel name) (Pages occupied' limit') h k t e = absurd (no_pages _ occupied' limit' k e)
once (Channel name) (Received delivery') h k t e = absurd (no_delivery _ delivery' k e)
once (Channel name) b h k t e = absurd (differ 32 _ t refl)
once (Measured at floor holder) (Measured at' floor' holder') h k t e = usage_once at at' floor floor' holder holder' h k e
once (Measured at floor holder) b h k t e = absurd (differ 1117 _ t refl)
once (Pages occupied limit) (Pages occupied' limit') h k t e = pages_once occupied occupied' limit limit' h k e
once (Pages occupied limit) (Sent note') h k t e = absurd (no_pages _ occupied limit h (sym e))
once (Pages occupied limit) (Channel name') h k t e = absurd (no_pages _ occupied limit h (sym e))
once (Pages occupied limit) (Received delivery') h k t e = absurd (pages_are_apart occupied limit delivery' h k e)
once (Pages occupied limit) b h k t e = absurd (differ 32 _ t refl)
once (Raise value) (Raise value') h k t e = ap (λ (n : ℕ). let s : Shown = Raise n in s) (last_part (codes "+signal ") value value' (long_xid value h) (long_xid value' k) e)
once (Raise value) b h k t e = absurd (differ 1115 _ t refl)
once (Found value) (Found value') h k t e = ap (λ (n : ℕ). let s : Shown = Found n in s) (last_part (codes "+await ") value value' (long_xid value h) (long_xid value' k) e)
once (Found value) b h k t e = absurd (differ 1097 _ t refl)
once (TimedOut looks) (TimedOut looks') h k t e = ap (λ (n : ℕ). let s : Shown = TimedOut n in s) (last_part (codes "+timeout ") looks looks' h k e)
once (TimedOut looks) b h k t e = absurd (differ 1116 _ t refl)
once (Read from to) (Read from' to') h k t e =
    let parts = two_parts (codes "+read ") [] from from' to to' (long_xid from h.0) (long_xid from' k.0) (long_xid to h.1) (long_xid to' k.1) e in
    let one : from ≡ from' = parts.0 in
    let two : to ≡ to' = parts.1 in
    cc
once (Read from to) b h k t e = absurd (differ 1114 _ t refl)
once (Received delivery) (Received delivery') h k t e = ap (λ (d : Delivery). let s : Shown = Received d in s) (received_once delivery delivery' h k e)
once (Received delivery) (Sent note') h k t e = absurd (no_delivery _ delivery h (sym e))
once (Received delivery) (Channel name') h k t e = absurd (no_delivery _ delivery h (sym e))
once (Received delivery) (Pages occupied' limit') h k t e = absurd (pages_are_apart occupied' limit' delivery k h (sym e))
once (Received delivery) b h k t e = absurd (differ 32 _ t refl)
once (End mark) (End mark') h k t e = ap (λ (m : Option ℕ). let s : Shown = End m in s) (end_once mark mark' h k e)
once (End mark) b h k t e = absurd (differ 101 _ t refl)

-- a line shows one thing at most
pub shown_once : ShownOnce
shown_once line a b h k = once a b h.0 k.0 (sym (told a) ∙ ap sign (h.1 ∙ sym k.1) ∙ told b) (h.1 ∙ sym k.1)
