-- What comes next of a client's bytes, as it is read.
use Rattle.std.proofs.Common.{◌≡◌, ◌≢◌, ℕ, ◌+◌, ◌-◌, ◌<◌, ◌≤◌, min, Bool, true, false, cond, List, [], ◌∷◌, ◌++◌, length, take, Option, Some, None, Result, Ok, Err, IfOk, sym, ap, ◌∙◌, subst, refl, arith, append-nil}
use Rattle.std.specs.Int.{w32, from_be_bytes}
use Rattle.std.specs.Io.KnownBytes.{Consumes, IsAtEnd}
use Rattle.std.proofs.lemmas.List.{length-append, length-take, length-take-le, take_all, take_at, take-append-le}
use lib.Seq.{take-append-add}
use borrow.Rule.Slice.PartMut.{put_mid, post_of}
use Rattle.pgn_base.specs.declared.limits.TheConstants.{LINE_BYTES_MAX}
use Rattle.pgn_queries.specs.declared.wire_fault.WireFault.TheVariants.{BadType, BadLength, Truncated, BadText}
use Rattle.pgn_queries.specs.declared.coming.Coming.{Coming}
use Rattle.pgn_queries.specs.declared.coming.Coming.TheVariants.{End, Query, Fault}
use Rattle.pgn_queries.specs.Client as client
use Rattle.pgn_queries.specs.Client.{Tells, IsQueryLength, IsBody, IsNoBody, IsQueryText, BodyIs, QueryIs, TerminateIs, NextIs, HasLength, OfKnown, body_of}

-- from what holds of known bytes to what follows
OfKnown-map : (P Q : List ℕ → List ℕ → Type 0) (a b : Option (List ℕ)) → ((xs ys : List ℕ) → P xs ys → Q xs ys) → OfKnown P a b → OfKnown Q a b
OfKnown-map P Q None b f h = tt
OfKnown-map P Q (Some xs) None f h = absurd h
OfKnown-map P Q (Some xs) (Some ys) f h = f xs ys h

-- from two steps to one
OfKnown-then : (P Q R : List ℕ → List ℕ → Type 0) (a b c : Option (List ℕ)) → ((xs ys zs : List ℕ) → P xs ys → Q ys zs → R xs zs) → OfKnown P a b → OfKnown Q b c → OfKnown R a c
OfKnown-then P Q R None b c f h k = tt
OfKnown-then P Q R (Some xs) None c f h k = absurd h
OfKnown-then P Q R (Some xs) (Some ys) None f h k = absurd k
OfKnown-then P Q R (Some xs) (Some ys) (Some zs) f h k = f xs ys zs h k

-- bytes were read
pub OfKnown-read : (P : List ℕ → List ℕ → Type 0) (a b : Option (List ℕ)) (bytes : List ℕ) → Consumes a b bytes → ((rest : List ℕ) → P (bytes ++ rest) rest) → OfKnown P a b
OfKnown-read P None b bytes h f = tt
OfKnown-read P (Some xs) None bytes h f = absurd h
OfKnown-read P (Some xs) (Some ys) bytes h f = subst (λ (zs : List ℕ). P zs ys) (sym h) (f ys)

-- bytes were read, and there are no more
pub OfKnown-last : (P : List ℕ → List ℕ → Type 0) (a b : Option (List ℕ)) (bytes : List ℕ) → Consumes a b bytes → IsAtEnd b → P bytes [] → OfKnown P a b
OfKnown-last P None b bytes h e p = tt
OfKnown-last P (Some xs) None bytes h e p = absurd h
OfKnown-last P (Some xs) (Some ys) bytes h e p =
    subst (λ (zs : List ℕ). P xs zs) (sym e) (subst (λ (zs : List ℕ). P zs []) (sym (h ∙ ap (λ (zs : List ℕ). bytes ++ zs) e ∙ append-nil bytes)) p)

-- bytes were read, and more behind them
pub OfKnown-behind : (P Q : List ℕ → List ℕ → Type 0) (a b c : Option (List ℕ)) (bytes : List ℕ) → Consumes a b bytes → ((ys zs : List ℕ) → Q ys zs → P (bytes ++ ys) zs) → OfKnown Q b c → OfKnown P a c
OfKnown-behind P Q None b c bytes h f k = tt
OfKnown-behind P Q (Some xs) None c bytes h f k = absurd h
OfKnown-behind P Q (Some xs) (Some ys) None bytes h f k = absurd k
OfKnown-behind P Q (Some xs) (Some ys) (Some zs) bytes h f k = subst (λ (ws : List ℕ). P ws zs) (sym h) (f ys zs k)

-- what is filled of a buffer behind what was filled before
pub take-filled : (a k n : ℕ) (xs ys : List ℕ) → a ≤ length xs → n ≤ length ys → take (a + n) (put_mid a k xs ys) ≡ take a xs ++ take n ys
take-filled a k n xs ys within fits =
    let len : length (take a xs) ≡ a = length-take-le a xs within in
    let after = post_of a k xs in
    ap (λ m. take (m + n) (take a xs ++ (ys ++ after))) (sym len) ∙ take-append-add (take a xs) (ys ++ after) n ∙ ap (λ zs. take a xs ++ zs) (take-append-le n ys after fits)

-- a length that was read
pub HasLength-read : (a b : Option (List ℕ)) (head : List ℕ) (n : ℕ) → length head ≡ 4 → 4 ≤ n → Consumes a b (take n head) → OfKnown (HasLength (Some (from_be_bytes w32 head))) a b
HasLength-read a b head n four enough h =
    let all : take n head ≡ head = take_all n head (omega arith) in
    OfKnown-read (HasLength (Some (from_be_bytes w32 head))) a b head (subst (λ (xs : List ℕ). Consumes a b xs) all h) (λ rest. (head, record { four = four; value = refl }, refl))

-- too few bytes for one
pub HasLength-cut : (a b : Option (List ℕ)) (head : List ℕ) (n : ℕ) → n < 4 → Consumes a b (take n head) → IsAtEnd b → OfKnown (HasLength None) a b
HasLength-cut a b head n few h e = OfKnown-last (HasLength None) a b (take n head) h e (let le : length (take n head) ≡ min n (length head) = length-take n head in omega arith)

-- what a Terminate's length comes to
pub Terminate-cut : (at : ℕ) (a b : Option (List ℕ)) → OfKnown (HasLength None) a b → OfKnown (TerminateIs at (Fault (Truncated at))) a b
Terminate-cut at a b h = OfKnown-map (HasLength None) (TerminateIs at (Fault (Truncated at))) a b (λ xs ys k. client.TerminateIs.CutHead xs ys k) h

pub Terminate-bad : (at len : ℕ) (a b : Option (List ℕ)) → len ≢ 4 → OfKnown (HasLength (Some len)) a b → OfKnown (TerminateIs at (Fault (BadLength at))) a b
Terminate-bad at len a b other h = OfKnown-map (HasLength (Some len)) (TerminateIs at (Fault (BadLength at))) a b
    (λ xs ys k. client.TerminateIs.BadHead xs k.0 ys ys len k.2 k.1 other) h

pub Terminate-whole : (at len : ℕ) (a b : Option (List ℕ)) → len ≡ 4 → OfKnown (HasLength (Some len)) a b → OfKnown (TerminateIs at End) a b
Terminate-whole at len a b four h = OfKnown-map (HasLength (Some len)) (TerminateIs at End) a b
    (λ xs ys k. client.TerminateIs.Whole xs k.0 ys k.2 (subst (λ (n : ℕ). Tells k.0 n) four k.1)) h

-- what a Query's length and body come to
pub Query-cut : (at : ℕ) (text : List ℕ) (a b : Option (List ℕ)) → OfKnown (HasLength None) a b → OfKnown (QueryIs at (Fault (Truncated at)) text) a b
Query-cut at text a b h = OfKnown-map (HasLength None) (QueryIs at (Fault (Truncated at)) text) a b (λ xs ys k. client.QueryIs.CutHead xs text ys k) h

pub Query-bad : (at len : ℕ) (text : List ℕ) (a b : Option (List ℕ)) → (IsQueryLength len → ⊥) → OfKnown (HasLength (Some len)) a b → OfKnown (QueryIs at (Fault (BadLength at)) text) a b
Query-bad at len text a b other h = OfKnown-map (HasLength (Some len)) (QueryIs at (Fault (BadLength at)) text) a b
    (λ xs ys k. client.QueryIs.BadHead xs k.0 ys text ys len k.2 k.1 other) h

pub Query-body : (at len size : ℕ) (coming : Coming) (text : List ℕ) (a b c : Option (List ℕ)) → IsQueryLength len → len ≡ 4 + size → OfKnown (HasLength (Some len)) a b
    → OfKnown (BodyIs at size coming text) b c → OfKnown (QueryIs at coming text) a c
Query-body at len size coming text a b c fits e h k = OfKnown-then (HasLength (Some len)) (BodyIs at size coming text) (QueryIs at coming text) a b c
    (λ xs ys zs p q. client.QueryIs.HasBody xs p.0 ys coming text zs len size p.2 p.1 fits e q) h k

-- what a body comes to
pub Body-cut : (at size n : ℕ) (body text : List ℕ) (a b : Option (List ℕ)) → n < size → Consumes a b (take n body) → IsAtEnd b → OfKnown (BodyIs at size (Fault (Truncated at)) text) a b
Body-cut at size n body text a b few h e = OfKnown-last (BodyIs at size (Fault (Truncated at)) text) a b (take n body) h e
    (client.BodyIs.Cut (take n body) text [] (let le : length (take n body) ≡ min n (length body) = length-take n body in omega arith))

-- a body that is none of a query is a bad text
pub Body-bad : (at size n : ℕ) (body text : List ℕ) (a b : Option (List ℕ)) → length body ≡ size → size ≤ n → IsNoBody body → Consumes a b (take n body) → OfKnown (BodyIs at size (Fault (BadText at)) text) a b
Body-bad at size n body text a b len enough none h =
    let all : take n body ≡ body = take_all n body (omega arith) in
    OfKnown-read (BodyIs at size (Fault (BadText at)) text) a b body (subst (λ (xs : List ℕ). Consumes a b xs) all h) (λ rest. client.BodyIs.Bad (body ++ rest) body rest text rest refl len none)

-- what a test of a body tells where it is passed
pub body_passes : (b : Bool) (slice items : List ℕ) → cond b (IsBody slice) (IsNoBody slice) → slice ≡ items → b ≡ true → IsBody items
body_passes true slice items h e is = subst IsBody e h
body_passes false slice items h e is = absurd (cc)

-- what it tells where it is not
pub body_fails : (b : Bool) (slice items : List ℕ) → cond b (IsBody slice) (IsNoBody slice) → slice ≡ items → b ≡ false → IsNoBody items
body_fails true slice items h e is = absurd (cc)
body_fails false slice items h e is = subst IsNoBody e h

-- the text of a body
body_text : (size : ℕ) (body text : List ℕ) → length body ≡ size → body ≡ body_of text → take (size - 1) body ≡ text
body_text size body text len same =
    let long : length (body_of text) ≡ length text + 1 = length-append text (0 ∷ []) in
    let whole : length body ≡ length (body_of text) = ap length same in
    ap (λ (xs : List ℕ). take (size - 1) xs) same ∙ take_at text (0 ∷ []) (size - 1) (omega arith)

-- the text of a body is a query's
pub body_sound : (size : ℕ) (body text : List ℕ) → length body ≡ size → size ≤ LINE_BYTES_MAX + 1 → IsBody body → text ≡ take (size - 1) body → IsQueryText text
body_sound size body text len few is e =
    let same : text ≡ is.0 = e ∙ body_text size body is.0 len is.1 in
    let long : length (body_of is.0) ≡ length is.0 + 1 = length-append is.0 (0 ∷ []) in
    let whole : length body ≡ length (body_of is.0) = ap length is.1 in
    let short : length is.0 ≤ LINE_BYTES_MAX = omega arith in
    subst (λ (t : List ℕ). IsQueryText t) (sym same) (record { sound = is.2; short = short })

-- a body that is one gives its text
pub Body-whole : (at size n : ℕ) (body text : List ℕ) (a b : Option (List ℕ)) → length body ≡ size → size ≤ n → IsBody body → text ≡ take (size - 1) body → Consumes a b (take n body) → OfKnown (BodyIs at size Query text) a b
Body-whole at size n body text a b len enough is e h =
    let all : take n body ≡ body = take_all n body (omega arith) in
    let same : is.0 ≡ text = sym (e ∙ body_text size body is.0 len is.1) in
    let known : Consumes a b (body_of is.0) = subst (λ (xs : List ℕ). Consumes a b xs) (all ∙ is.1) h in
    subst (λ (t : List ℕ). OfKnown (BodyIs at size Query t) a b) same
    (OfKnown-read (BodyIs at size Query is.0) a b (body_of is.0) known (λ rest. client.BodyIs.Whole (body_of is.0 ++ rest) is.0 rest refl (ap length (sym is.1) ∙ len) is.2))

-- what a letter comes to
pub Letter-other : (at letter : ℕ) (text : List ℕ) (a : Option (List ℕ)) → letter ≢ 81 → letter ≢ 88 → OfKnown (λ bytes rest. NextIs at (Fault (BadType at)) text (letter ∷ bytes) rest) a a
Letter-other at letter text None q x = tt
Letter-other at letter text (Some xs) q x = client.NextIs.NoType letter (letter ∷ xs) xs text xs refl q x

-- a message with the letter `Q` is a query
pub Letter-query : {E : Type 0} (at letter : ℕ) (text : List ℕ) (r : Result Coming E) (a b : Option (List ℕ)) → letter ≡ 81 → IfOk r (λ coming. OfKnown (QueryIs at coming text) a b)
    → IfOk r (λ coming. OfKnown (λ bytes rest. NextIs at coming text (letter ∷ bytes) rest) a b)
Letter-query at letter text (Err e) a b is h = tt
Letter-query at letter text (Ok coming) a b is h = subst (λ (l : ℕ). OfKnown (λ bytes rest. NextIs at coming text (l ∷ bytes) rest) a b) (sym is)
    (OfKnown-map (QueryIs at coming text) (λ bytes rest. NextIs at coming text (81 ∷ bytes) rest) a b (λ xs ys k. client.NextIs.Asks (81 ∷ xs) xs coming text ys refl k) h)

-- one with the letter `X` is a Terminate
pub Letter-terminate : {E : Type 0} (at letter : ℕ) (text : List ℕ) (r : Result Coming E) (a b : Option (List ℕ)) → letter ≡ 88 → IfOk r (λ coming. OfKnown (TerminateIs at coming) a b)
    → IfOk r (λ coming. OfKnown (λ bytes rest. NextIs at coming text (letter ∷ bytes) rest) a b)
Letter-terminate at letter text (Err e) a b is h = tt
Letter-terminate at letter text (Ok coming) a b is h = subst (λ (l : ℕ). OfKnown (λ bytes rest. NextIs at coming text (l ∷ bytes) rest) a b) (sym is)
    (OfKnown-map (TerminateIs at coming) (λ bytes rest. NextIs at coming text (88 ∷ bytes) rest) a b (λ xs ys k. client.NextIs.Terminates (88 ∷ xs) xs coming text ys refl k) h)

-- no letter comes
pub Next-ended : (at n : ℕ) (letter text : List ℕ) (a b : Option (List ℕ)) → n ≡ 0 → Consumes a b (take n letter) → IsAtEnd b → OfKnown (NextIs at End text) a b
Next-ended at n letter text a b e h end = OfKnown-last (NextIs at End text) a b [] (subst (λ (k : ℕ). Consumes a b (take k letter)) e h) end (client.NextIs.Ended [] text refl)

-- a letter, and what is behind it
pub Next-letter : (at n : ℕ) (letter : ℕ) (coming : Coming) (text : List ℕ) (a b c : Option (List ℕ)) → 1 ≤ n → Consumes a b (take n (letter ∷ []))
    → OfKnown (λ bytes rest. NextIs at coming text (letter ∷ bytes) rest) b c → OfKnown (NextIs at coming text) a c
Next-letter at n letter coming text a b c some h k =
    OfKnown-behind (NextIs at coming text) (λ bytes rest. NextIs at coming text (letter ∷ bytes) rest) a b c (letter ∷ [])
    (subst (λ (xs : List ℕ). Consumes a b xs) (take_all n (letter ∷ []) some) h) (λ ys zs p. p) k

-- what a head is, by its length
pub ruleset length_laws = (HasLength-read, HasLength-cut, Terminate-cut, Terminate-bad, Terminate-whole, Query-cut, Query-bad, Query-body)

-- what a buffer holds that was filled
pub ruleset fill_laws = (take_at)

-- what a body is
pub ruleset body_laws = (Body-cut, Body-bad, Body-whole, body_sound)

-- what a message is, by its letter
pub ruleset letter_laws = (Letter-other, Letter-query, Letter-terminate)

-- what comes next: the end, or a message
pub ruleset next_laws = (Next-ended, Next-letter)
