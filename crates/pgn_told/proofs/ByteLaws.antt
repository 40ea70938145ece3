-- A message ends where the next begins.
use Rattle.std.proofs.Common.{◌≡◌, ℕ, ◌+◌, ◌^◌, ◌<◌, List, [], ◌∷◌, ◌++◌, length, map, get_or, codes, decimal, sym, ap, ◌∙◌, refl, arith, append_assoc}
use Rattle.std.specs.Prelude.{All, Contains, flat_map}
use Rattle.std.proofs.lemmas.List.{append_cancel_left}
use Rattle.std.proofs.lemmas.List.Elements.{All-head, All-tail, Contains-append_right}
use Rattle.pgn_base.specs.declared.note.Note.{Note}
use Rattle.pgn_base.specs.declared.note.Delivery.{Delivery}
use Rattle.pgn_base.specs.declared.queue_answers.Usage.{Usage}
use Rattle.pgn_base.specs.Notes.{IsNote}
use Rattle.pgn_reading.proofs.FieldLaws.{number-ends}
use Rattle.pgn_messages.specs.Server.{four, two, ended, notification, row, share}
use Rattle.pgn_told.specs.Told.{Seen, received}

-- as many bytes stand in front
same-front : (xs ys rest more : List ℕ) → length xs ≡ length ys → xs ++ rest ≡ ys ++ more → (xs ≡ ys) × (rest ≡ more)
same-front [] [] rest more l e = (refl, e)
same-front [] (y ∷ ys) rest more l e = absurd (omega (arith, l))
same-front (x ∷ xs) [] rest more l e = absurd (omega (arith, l))
same-front (x ∷ xs) (y ∷ ys) rest more l e =
    let first : x ≡ y = cc in
    let tail : xs ++ rest ≡ ys ++ more = cc in
    let got = same-front xs ys rest more (omega (arith, l)) tail in
    let whole : xs ≡ ys = got.0 in
    (cc, got.1)

-- a number in four bytes
four-skipped : (m n : ℕ) (rest more : List ℕ) → four m ++ rest ≡ four n ++ more → rest ≡ more
four-skipped m n rest more e = (same-front (four m) (four n) rest more refl e).1

-- a zero byte behind another byte
nul-later : (b : ℕ) (bytes : List ℕ) → Contains bytes 0 → Contains (b ∷ bytes) 0
nul-later b bytes h = Contains-append_right (b ∷ []) bytes 0 h

nul-first : (b : ℕ) (bytes : List ℕ) → b ≡ 0 → Contains (b ∷ bytes) 0
nul-first b bytes e = (0, omega arith, e)

-- a text ends at its first zero byte
ended-ends : (text other rest more : List ℕ) → (Contains text 0 → ⊥) → (Contains other 0 → ⊥) → ended text ++ rest ≡ ended other ++ more → (text ≡ other) × (rest ≡ more)
ended-ends [] [] rest more h k e = (refl, append_cancel_left (0 ∷ []) rest more e)
ended-ends [] (y ∷ ys) rest more h k e = let zero : 0 ≡ y = ap (λ (bytes : List ℕ). get_or bytes 0 0) e in absurd (k (nul-first y ys (sym zero)))
ended-ends (x ∷ xs) [] rest more h k e = let zero : x ≡ 0 = ap (λ (bytes : List ℕ). get_or bytes 0 0) e in absurd (h (nul-first x xs zero))
ended-ends (x ∷ xs) (y ∷ ys) rest more h k e =
    let first : x ≡ y = cc in
    let tail : ended xs ++ rest ≡ ended ys ++ more = cc in
    let got = ended-ends xs ys rest more (λ nul. h (nul-later x xs nul)) (λ nul. k (nul-later y ys nul)) tail in
    let whole : xs ≡ ys = got.0 in
    (cc, got.1)

-- pieces one after another
in-four : (a b c d rest : List ℕ) → (a ++ (b ++ c ++ d)) ++ rest ≡ a ++ (b ++ (c ++ (d ++ rest)))
in-four a b c d rest = simp append_assoc

in-three : (a b c rest : List ℕ) → (a ++ b ++ c) ++ rest ≡ a ++ (b ++ (c ++ rest))
in-three a b c rest = simp append_assoc

same-note : (a b : Note) → a.channel ≡ b.channel → a.payload ≡ b.payload → a ≡ b
same-note a b e1 e2 = ap (λ (t : List ℕ). let n : Note = record { channel = t; payload = a.payload } in n) e1 ∙ ap (λ (t : List ℕ). let n : Note = record { channel = b.channel; payload = t } in n) e2

same-received : (d e : Delivery) → d.pid ≡ e.pid → d.note ≡ e.note → received d ≡ received e
same-received d e e1 e2 = ap (λ (n : ℕ). let s : Seen = Seen.Received n d.note in s) e1 ∙ ap (λ (n : Note). let s : Seen = Seen.Received e.pid n in s) e2

-- the message of a delivery, and what follows it
told-spelled : (d : Delivery) (rest : List ℕ)
    → notification d ++ rest ≡ 65 ∷ (four (4 + length (four d.pid ++ ended d.note.channel ++ ended d.note.payload)) ++ (four d.pid ++ (ended d.note.channel ++ (ended d.note.payload ++ rest))))
told-spelled d rest = ap (λ (bytes : List ℕ). 65 ∷ bytes) (in-four (four (4 + length (four d.pid ++ ended d.note.channel ++ ended d.note.payload))) (four d.pid) (ended d.note.channel) (ended d.note.payload) rest)

-- it ends where its second zero byte is
told-ends : (d e : Delivery) (rest more : List ℕ) → IsNote d.note → IsNote e.note → d.pid ≡ e.pid → notification d ++ rest ≡ notification e ++ more → (received d ≡ received e) × (rest ≡ more)
told-ends d e rest more h k pid same =
    let payload : List ℕ = ended d.note.payload ++ rest in
    let payload' : List ℕ = ended e.note.payload ++ more in
    let size = 4 + length (four d.pid ++ ended d.note.channel ++ ended d.note.payload) in
    let size' = 4 + length (four e.pid ++ ended e.note.channel ++ ended e.note.payload) in
    let whole = sym (told-spelled d rest) ∙ same ∙ told-spelled e more in
    let behind = append_cancel_left (65 ∷ []) (four size ++ (four d.pid ++ (ended d.note.channel ++ payload))) (four size' ++ (four e.pid ++ (ended e.note.channel ++ payload'))) whole in
    let in_body = four-skipped size size' (four d.pid ++ (ended d.note.channel ++ payload)) (four e.pid ++ (ended e.note.channel ++ payload')) behind in
    let in_texts = four-skipped d.pid e.pid (ended d.note.channel ++ payload) (ended e.note.channel ++ payload') in_body in
    let channels = ended-ends d.note.channel e.note.channel payload payload' h.name.no_nul k.name.no_nul in_texts in
    let payloads = ended-ends d.note.payload e.note.payload rest more h.text.no_nul k.text.no_nul channels.1 in
    (same-received d e pid (same-note d.note e.note channels.0 payloads.0), payloads.1)

-- a delivery that can be told, of this process
pub record IsTold (pid : ℕ) (d : Delivery) : Type 0 where
  pub note : IsNote d.note
  pub by : d.pid ≡ pid

-- deliveries end where ReadyForQuery begins
pub told-all : (pid : ℕ) (ds es : List Delivery) (rest more : List ℕ) → All (IsTold pid) ds → All (IsTold pid) es → flat_map notification ds ++ 90 ∷ rest ≡ flat_map notification es ++ 90 ∷ more
    → (map received ds ≡ map received es) × (90 ∷ rest ≡ 90 ∷ more)
told-all pid [] [] rest more h k e = (refl, e)
told-all pid [] (d ∷ es) rest more h k e = absurd (let apart : 90 ≡ 65 = ap (λ (bytes : List ℕ). get_or bytes 0 0) e in omega (arith, apart))
told-all pid (d ∷ ds) [] rest more h k e = absurd (let apart : 65 ≡ 90 = ap (λ (bytes : List ℕ). get_or bytes 0 0) e in omega (arith, apart))
told-all pid (d ∷ ds) (d' ∷ es) rest more h k e =
    let behind : List ℕ = flat_map notification ds ++ 90 ∷ rest in
    let behind' : List ℕ = flat_map notification es ++ 90 ∷ more in
    let one = All-head (IsTold pid) d ds h in
    let other = All-head (IsTold pid) d' es k in
    let head = told-ends d d' behind behind' one.note other.note (one.by ∙ sym other.by)
    (sym (append_assoc (notification d) (flat_map notification ds) (90 ∷ rest)) ∙ e ∙ append_assoc (notification d') (flat_map notification es) (90 ∷ more)) in
    let tail = told-all pid ds es rest more (All-tail (IsTold pid) d ds h) (All-tail (IsTold pid) d' es k) head.1 in
    let first : received d ≡ received d' = head.0 in
    let others : map received ds ≡ map received es = tail.0 in
    (cc, tail.1)

-- the row of a usage, and what follows it
usage-spelled : (u : Usage) (rest : List ℕ)
    → row (share u) ++ rest ≡ 68 ∷ (four (4 + length (two 1 ++ four (length (share u)) ++ share u)) ++ (two 1 ++ (four (length (share u)) ++ (share u ++ rest))))
usage-spelled u rest = ap (λ (bytes : List ℕ). 68 ∷ bytes) (in-four (four (4 + length (two 1 ++ four (length (share u)) ++ share u))) (two 1) (four (length (share u))) (share u) rest)

-- of two shares of one limit that begin two texts alike, the usages are equal and the texts go on alike
pub usage-ends : (u v : Usage) (rest more : List ℕ) → u.occupied < 2 ^ 64 → v.occupied < 2 ^ 64 → u.limit ≡ v.limit → row (share u) ++ rest ≡ row (share v) ++ more → (u.occupied ≡ v.occupied) × (rest ≡ more)
usage-ends u v rest more few few' limit e =
    let text : List ℕ = share u ++ rest in
    let text' : List ℕ = share v ++ more in
    let size = 4 + length (two 1 ++ four (length (share u)) ++ share u) in
    let size' = 4 + length (two 1 ++ four (length (share v)) ++ share v) in
    let whole = sym (usage-spelled u rest) ∙ e ∙ usage-spelled v more in
    let behind = append_cancel_left (68 ∷ []) (four size ++ (two 1 ++ (four (length (share u)) ++ text))) (four size' ++ (two 1 ++ (four (length (share v)) ++ text'))) whole in
    let in_body = append_cancel_left (two 1) (four (length (share u)) ++ text) (four (length (share v)) ++ text') (four-skipped size size' (two 1 ++ (four (length (share u)) ++ text)) (two 1 ++ (four (length (share v)) ++ text')) behind) in
    let in_text = four-skipped (length (share u)) (length (share v)) text text' in_body in
    let spelled = sym (in-three (decimal u.occupied) (codes "/") (decimal u.limit) rest) ∙ in_text ∙ in-three (decimal v.occupied) (codes "/") (decimal v.limit) more in
    let low : 47 < 48 = omega arith in
    let got = number-ends u.occupied v.occupied (codes "/" ++ (decimal u.limit ++ rest)) (codes "/" ++ (decimal v.limit ++ more)) few few' low low spelled in
    let limits = append_cancel_left (codes "/") (decimal u.limit ++ rest) (decimal v.limit ++ more) got.1 in
    (got.0, append_cancel_left (decimal u.limit) rest more (limits ∙ ap (λ (n : ℕ). decimal n ++ more) (sym limit)))
