-- Laws of what is given out to a sink through a buffer.
use Rattle.std.proofs.Common.{◌≡◌, ℕ, ◌+◌, ◌<◌, ◌≤◌, suc, min, false, true, List, [], ◌∷◌, ◌++◌, length, drop, get_or, map, Option, None, Some, Result, Ok, Err, is_err, OnOk, sym, ap, ◌∙◌, subst, refl, inl, inr, arith, append_assoc, append-nil, add-one, drop-cons}
use Rattle.std.specs.Prelude.{flat_map}
use Rattle.std.specs.Io.KnownBytes.{Appends}
use Rattle.std.proofs.lemmas.List.{drop_all, map-id}
use Rattle.std.proofs.lemmas.Bool.{cases_lt}
use Rattle.pgn_base.specs.declared.source.Failed.{Failed}
use Rattle.pgn_base.specs.declared.limits.TheConstants.{FIRST_XID}
use Rattle.pgn_base.specs.Outside.{AppendsPrefix, Writes, HasCause}
use Rattle.pgn_journal.specs.declared.tx.Tx.{Tx}
use Rattle.pgn_language.specs.declared.scenario.ScriptLine.{ScriptLine}
use Rattle.pgn_language.specs.declared.scenario.Section.{Section}
use Rattle.pgn_model.specs.declared.item.Item.{Item}
use Rattle.pgn_model.specs.declared.trace.Trace.{Trace}
use Rattle.pgn_model.specs.Text.{end_line, entries_lines, entry_lines, item_lines, joined, section_line, trace_lines, traces_lines}
use Rattle.pgn_text.specs.declared.out.Out.{Out}
use Rattle.pgn_text.specs.Rendering.{GrewBut, IsOut, Puts, ends_lines, mark_of, marked, marked_items}

-- a prefix of a text is a prefix of a longer one
AppendsPrefix-more : (start held : Option (List ℕ)) (before text : List ℕ) → AppendsPrefix start held before → AppendsPrefix start held (before ++ text)
AppendsPrefix-more None held before text h = tt
AppendsPrefix-more (Some xs) None before text h = absurd h
AppendsPrefix-more (Some xs) (Some ys) before text h = (h.0, h.1 ++ text, ap (λ t. t ++ text) h.2 ∙ append_assoc h.0 h.1 text, h.3)

GrewBut-more : (start held : Option (List ℕ)) (kept before text : List ℕ) → GrewBut start held kept before → GrewBut start held (kept ++ text) (before ++ text)
GrewBut-more None held kept before text h = tt
GrewBut-more (Some xs) None kept before text h = absurd h
GrewBut-more (Some xs) (Some ys) kept before text h = (h.0, ap (λ t. t ++ text) h.1 ∙ append_assoc h.0 kept text, h.2)

-- what is kept back and a text after it are written
GrewBut-written : (start held now : Option (List ℕ)) (kept before text all : List ℕ) → kept ++ text ≡ all → Appends held now all → GrewBut start held kept before → GrewBut start now [] (before ++ text)
GrewBut-written None held now kept before text all e a h = tt
GrewBut-written (Some xs) None now kept before text all e a h = absurd h
GrewBut-written (Some xs) (Some ys) None kept before text all e a h = absurd a
GrewBut-written (Some xs) (Some ys) (Some zs) kept before text all e a h =
    let parts : before ++ text ≡ h.0 ++ all = ap (λ t. t ++ text) h.1 ∙ append_assoc h.0 kept text ∙ ap (λ t. h.0 ++ t) e in
    (before ++ text, sym (append-nil (before ++ text)), a ∙ ap (λ t. t ++ all) h.2 ∙ append_assoc xs h.0 all ∙ ap (λ t. xs ++ t) (sym parts))

-- of what is kept back and a text after it a prefix is written
AppendsPrefix-written : (start held now : Option (List ℕ)) (kept before text all : List ℕ) → kept ++ text ≡ all → AppendsPrefix held now all → GrewBut start held kept before → AppendsPrefix start now (before ++ text)
AppendsPrefix-written None held now kept before text all e a h = tt
AppendsPrefix-written (Some xs) None now kept before text all e a h = absurd h
AppendsPrefix-written (Some xs) (Some ys) None kept before text all e a h = absurd a
AppendsPrefix-written (Some xs) (Some ys) (Some zs) kept before text all e a h =
    let parts : before ++ text ≡ h.0 ++ all = ap (λ t. t ++ text) h.1 ∙ append_assoc h.0 kept text ∙ ap (λ t. h.0 ++ t) e in
    (h.0 ++ a.0, a.1, parts ∙ ap (λ t. h.0 ++ t) a.2 ∙ sym (append_assoc h.0 a.0 a.1), a.3 ∙ ap (λ t. t ++ a.0) h.2 ∙ append_assoc xs h.0 a.0)

-- nothing is given out
pub Puts-none : {S : Type 0} (held : S → Option (List ℕ)) (faults : S → ℕ) (sink : S) (out : Out) → Puts held faults sink out sink out []
Puts-none held faults sink out = record {
  bytes = λ start before h. subst (λ t. IsOut start (held sink) out t) (sym (append-nil before)) h;
  cause = λ start h. h;
}

-- one text after another
pub Puts-trans : {S : Type 0} {held : S → Option (List ℕ)} {faults : S → ℕ} {s₀ s₁ s₂ : S} {o₀ o₁ o₂ : Out} {first second : List ℕ} → Puts held faults s₀ o₀ s₁ o₁ first → Puts held faults s₁ o₁ s₂ o₂ second → Puts held faults s₀ o₀ s₂ o₂ (first ++ second)
Puts-trans {held = held} {s₂ = s₂} {o₂ = o₂} {first = first} {second = second} a b = record {
  bytes = λ start before h. subst (λ t. IsOut start (held s₂) o₂ t) (append_assoc before first second) (b.bytes start (before ++ first) (a.bytes start before h));
  cause = λ start h. b.cause start (a.cause start h);
}

-- the same text
pub Puts-same : {S : Type 0} {held : S → Option (List ℕ)} {faults : S → ℕ} {s₀ s₁ : S} {o₀ o₁ : Out} {first second : List ℕ} → first ≡ second → Puts held faults s₀ o₀ s₁ o₁ first → Puts held faults s₀ o₀ s₁ o₁ second
Puts-same {held = held} {faults = faults} {s₀ = s₀} {s₁ = s₁} {o₀ = o₀} {o₁ = o₁} e a = subst (λ t. Puts held faults s₀ o₀ s₁ o₁ t) e a

-- lines after lines
pub joined-append : (first second : List (List ℕ)) → joined (first ++ second) ≡ joined first ++ joined second
joined-append [] second = refl
joined-append (line ∷ lines) second = ap (λ t. line ++ 10 ∷ [] ++ t) (joined-append lines second) ∙ sym (append_assoc (line ++ 10 ∷ []) (joined lines) (joined second))

-- what writes lines, and then others, writes both
pub Puts-lines : {S : Type 0} {held : S → Option (List ℕ)} {faults : S → ℕ} {s₀ s₁ s₂ : S} {o₀ o₁ o₂ : Out} (first second : List (List ℕ)) → Puts held faults s₀ o₀ s₁ o₁ (joined first) → Puts held faults s₁ o₁ s₂ o₂ (joined second) → Puts held faults s₀ o₀ s₂ o₂ (joined (first ++ second))
Puts-lines first second a b = Puts-same (sym (joined-append first second)) (Puts-trans a b)

-- a line behind a mark
pub Puts-behind : {S : Type 0} {held : S → Option (List ℕ)} {faults : S → ℕ} {s₀ s₁ s₂ : S} {o₀ o₁ o₂ : Out} {mark : List ℕ} (line : List ℕ) → Puts held faults s₀ o₀ s₁ o₁ mark → Puts held faults s₁ o₁ s₂ o₂ (line ++ 10 ∷ []) → Puts held faults s₀ o₀ s₂ o₂ (mark ++ line ++ 10 ∷ [])
Puts-behind {mark = mark} line a b = Puts-same (sym (append_assoc mark line (10 ∷ []))) (Puts-trans a b)

-- one line
pub Puts-one : {S : Type 0} {held : S → Option (List ℕ)} {faults : S → ℕ} {s₀ s₁ : S} {o₀ o₁ : Out} (line : List ℕ) → Puts held faults s₀ o₀ s₁ o₁ (line ++ 10 ∷ []) → Puts held faults s₀ o₀ s₁ o₁ (joined (line ∷ []))
Puts-one line a = Puts-same (sym (append-nil (line ++ 10 ∷ []))) a

-- without a mark the lines of items are as they are
pub marked_items-none : (lines : List ScriptLine) (items : List Item) → marked_items None lines items ≡ flat_map (item_lines lines) items
marked_items-none lines [] = refl
marked_items-none lines (item ∷ items) = ap (λ t. t ++ marked_items None lines items) (map-id (item_lines lines item)) ∙ ap (λ t. item_lines lines item ++ t) (marked_items-none lines items)

-- after a failure any text is as good as given out, whatever is kept back
pub Puts-failed : {S : Type 0} (held : S → Option (List ℕ)) (faults : S → ℕ) (sink : S) (kept now : List ℕ) (so_far : Result Unit Failed) (text : List ℕ) → is_err so_far ≡ true
    → Puts held faults sink (record { kept = kept; so_far = so_far }) sink (record { kept = now; so_far = so_far }) text
Puts-failed held faults sink kept now (Ok x) text failed = absurd (cc)
Puts-failed held faults sink kept now (Err d) text failed = record { bytes = λ start before h. AppendsPrefix-more start (held sink) before text h; cause = λ start h. h }

-- a text is kept back
pub Puts-kept : {S : Type 0} (held : S → Option (List ℕ)) (faults : S → ℕ) (sink : S) (kept now : List ℕ) (so_far : Result Unit Failed) (text : List ℕ) → now ≡ kept ++ text
    → Puts held faults sink (record { kept = kept; so_far = so_far }) sink (record { kept = now; so_far = so_far }) text
Puts-kept held faults sink kept now (Err d) text e = Puts-failed held faults sink kept now (Err d) text refl
Puts-kept held faults sink kept now (Ok x) text e = record {
  bytes = λ start before h. subst (λ k. GrewBut start (held sink) k (before ++ text)) (sym e) (GrewBut-more start (held sink) kept before text h);
  cause = λ start h. h;
}

-- three texts are kept back
pub three-kept : (kept one two three first second third : List ℕ) → one ≡ kept ++ first → two ≡ one ++ second → three ≡ two ++ third → three ≡ kept ++ (first ++ second ++ third)
three-kept kept one two three first second third e f g =
    g ∙ ap (λ t. t ++ third) (f ∙ ap (λ t. t ++ second) e ∙ append_assoc kept first second) ∙ append_assoc kept (first ++ second) third

-- what is kept back and a text after it are written, or a prefix of them
written : (start held now : Option (List ℕ)) (kept before text all : List ℕ) (result : Result Unit Failed) → kept ++ text ≡ all → Writes held now result all → GrewBut start held kept before
    → IsOut start now (record { kept = []; so_far = result }) (before ++ text)
written start held now kept before text all (Ok x) e w h = GrewBut-written start held now kept before text all e w h
written start held now kept before text all (Err d) e w h = AppendsPrefix-written start held now kept before text all e w h

-- and so is the text put out, where nothing is kept back any more
pub Puts-written : {S : Type 0} (held : S → Option (List ℕ)) (faults : S → ℕ) (sink sink_now : S) (kept now : List ℕ) (so_far result : Result Unit Failed) (text all : List ℕ) → is_err so_far ≡ false → now ≡ [] → kept ++ text ≡ all
    → Writes (held sink) (held sink_now) result all → HasCause (faults sink) (faults sink_now) result
    → Puts held faults sink (record { kept = kept; so_far = so_far }) sink_now (record { kept = now; so_far = result }) text
Puts-written held faults sink sink_now kept now (Err d) result text all fine none e w c = absurd (cc)
Puts-written held faults sink sink_now kept now (Ok x) result text all fine none e w c = record {
  bytes = λ start before h. subst (λ k. IsOut start (held sink_now) (record { kept = k; so_far = result }) (before ++ text)) (sym none) (written start (held sink) (held sink_now) kept before text all result e w h);
  cause = λ start h. subst (λ (before : ℕ). HasCause before (faults sink_now) result) h.passed c;
}

-- what is kept back is sent
pub Puts-sent : {S : Type 0} (held : S → Option (List ℕ)) (faults : S → ℕ) (sink sink_now : S) (kept now : List ℕ) (so_far result : Result Unit Failed) (all : List ℕ) → is_err so_far ≡ false → now ≡ [] → all ≡ kept
    → Writes (held sink) (held sink_now) result all → HasCause (faults sink) (faults sink_now) result
    → Puts held faults sink (record { kept = kept; so_far = so_far }) sink_now (record { kept = now; so_far = result }) []
Puts-sent held faults sink sink_now kept now so_far result all fine none e w c = Puts-written held faults sink sink_now kept now so_far result [] all fine none (append-nil kept ∙ sym e) w c

-- a text is given out in two parts, of which the first is kept back and then sent
pub Puts-parts : {S : Type 0} {held : S → Option (List ℕ)} {faults : S → ℕ} {s₀ s₁ s₂ : S} {o₁ o₂ : Out} {kept now : List ℕ} {so_far : Result Unit Failed} {second text : List ℕ} (first : List ℕ) → so_far ≡ Ok tt → now ≡ kept ++ first
    → Puts held faults s₀ (record { kept = now; so_far = so_far }) s₁ o₁ [] → Puts held faults s₁ o₁ s₂ o₂ second → first ++ second ≡ text → Puts held faults s₀ (record { kept = kept; so_far = so_far }) s₂ o₂ text
Puts-parts {held = held} {faults = faults} {s₀ = s₀} {kept = kept} {now = now} {so_far = so_far} {second = second} first fine e sent rest parts =
    let one : Puts held faults s₀ (record { kept = kept; so_far = so_far }) s₀ (record { kept = now; so_far = so_far }) first = Puts-kept held faults s₀ kept now so_far first e in
    Puts-same (ap (λ t. t ++ second) (append-nil first) ∙ parts) (Puts-trans (Puts-trans one sent) rest)

-- with the rest, the whole is given out
pub record Toward {S : Type 0} (held : S → Option (List ℕ)) (faults : S → ℕ) (s₀ : S) (o₀ : Out) (s₁ : S) (o₁ : Out) (rest whole : List ℕ) : Type 0 where
  pub written : List ℕ
  pub puts : Puts held faults s₀ o₀ s₁ o₁ written
  pub all : written ++ rest ≡ whole

-- before the first piece a whole is still to be written
pub Toward-none : {S : Type 0} (held : S → Option (List ℕ)) (faults : S → ℕ) (sink : S) (out : Out) (whole : List ℕ) → Toward held faults sink out sink out whole whole
Toward-none held faults sink out whole = record { written = []; puts = Puts-none held faults sink out; all = refl }

-- behind a piece of it the rest is
pub Toward-more : {S : Type 0} {held : S → Option (List ℕ)} {faults : S → ℕ} {s₀ s₁ s₂ : S} {o₀ o₁ o₂ : Out} {piece rest rest' whole : List ℕ}
    → Toward held faults s₀ o₀ s₁ o₁ rest whole → Puts held faults s₁ o₁ s₂ o₂ piece → rest ≡ piece ++ rest' → Toward held faults s₀ o₀ s₂ o₂ rest' whole
Toward-more {piece = piece} {rest' = rest'} t p e = record {
  written = t.written ++ piece;
  puts = Puts-trans t.puts p;
  all = append_assoc t.written piece rest' ∙ ap (λ u. t.written ++ u) (sym e) ∙ t.all;
}

-- the last text
pub Toward-last : {S : Type 0} {held : S → Option (List ℕ)} {faults : S → ℕ} {s₀ s₁ s₂ : S} {o₀ o₁ o₂ : Out} {rest whole : List ℕ} → Toward held faults s₀ o₀ s₁ o₁ rest whole → Puts held faults s₁ o₁ s₂ o₂ rest → Puts held faults s₀ o₀ s₂ o₂ whole
Toward-last t p = Puts-same t.all (Puts-trans t.puts p)

-- with no rest the whole is written
pub Toward-all : {S : Type 0} {held : S → Option (List ℕ)} {faults : S → ℕ} {s₀ s₁ : S} {o₀ o₁ : Out} {rest whole : List ℕ} → Toward held faults s₀ o₀ s₁ o₁ rest whole → rest ≡ [] → Puts held faults s₀ o₀ s₁ o₁ whole
Toward-all t e = Puts-same (sym (append-nil t.written) ∙ ap (λ u. t.written ++ u) (sym e) ∙ t.all) t.puts

-- the rest by another spelling
pub Toward-same : {S : Type 0} {held : S → Option (List ℕ)} {faults : S → ℕ} {s₀ s₁ : S} {o₀ o₁ : Out} {rest rest' whole : List ℕ} → Toward held faults s₀ o₀ s₁ o₁ rest whole → rest ≡ rest' → Toward held faults s₀ o₀ s₁ o₁ rest' whole
Toward-same t e = record { written = t.written; puts = t.puts; all = ap (λ u. t.written ++ u) (sym e) ∙ t.all }

-- the next item of a list
next : {A : Type 0} (F : List A → List ℕ) (xs : List A) (i : ℕ) (x : A) → i < length xs → x ≡ get_or xs i x → F (drop i xs) ≡ F (x ∷ drop (i + 1) xs)
next F xs i x h e = ap F (drop-cons xs i x h) ∙ ap (λ y. F (y ∷ drop (suc i) xs)) (sym e) ∙ ap (λ j. F (x ∷ drop j xs)) (sym (add-one i))

-- the line of an item of a list is given out
pub Toward-line : {S A : Type 0} {held : S → Option (List ℕ)} {faults : S → ℕ} {s₀ s₁ s₂ : S} {o₀ o₁ o₂ : Out} {whole : List ℕ} (f : A → List ℕ) (xs : List A) (i : ℕ) (x : A)
    → Toward held faults s₀ o₀ s₁ o₁ (joined (map f (drop i xs))) whole → x ≡ get_or xs i x → i < length xs → Puts held faults s₁ o₁ s₂ o₂ (f x ++ 10 ∷ [])
    → Toward held faults s₀ o₀ s₂ o₂ (joined (map f (drop (i + 1) xs))) whole
Toward-line f xs i x t e h p = Toward-more t p (next (λ ys. joined (map f ys)) xs i x h e)

-- the lines of an item of a list are given out
pub Toward-lines : {S A : Type 0} {held : S → Option (List ℕ)} {faults : S → ℕ} {s₀ s₁ s₂ : S} {o₀ o₁ o₂ : Out} {whole : List ℕ} (f : A → List (List ℕ)) (xs : List A) (i : ℕ) (x : A)
    → Toward held faults s₀ o₀ s₁ o₁ (joined (flat_map f (drop i xs))) whole → x ≡ get_or xs i x → i < length xs → Puts held faults s₁ o₁ s₂ o₂ (joined (f x))
    → Toward held faults s₀ o₀ s₂ o₂ (joined (flat_map f (drop (i + 1) xs))) whole
Toward-lines f xs i x t e h p =
    Toward-more t p (next (λ ys. joined (flat_map f ys)) xs i x h e ∙ joined-append (f x) (flat_map f (drop (i + 1) xs)))

-- the line of an item of a list is given out behind its mark
pub Toward-marked : {S A : Type 0} {held : S → Option (List ℕ)} {faults : S → ℕ} {s₀ s₁ s₂ : S} {o₀ o₁ o₂ : Out} {whole : List ℕ} (mark : Option ℕ) (f : A → List ℕ) (xs : List A) (i : ℕ) (x : A)
    → Toward held faults s₀ o₀ s₁ o₁ (joined (marked mark (map f (drop i xs)))) whole → x ≡ get_or xs i x → i < length xs → Puts held faults s₁ o₁ s₂ o₂ (mark_of mark ++ f x ++ 10 ∷ [])
    → Toward held faults s₀ o₀ s₂ o₂ (joined (marked mark (map f (drop (i + 1) xs)))) whole
Toward-marked mark f xs i x t e h p = Toward-more t p (next (λ ys. joined (marked mark (map f ys))) xs i x h e)

-- the lines of the next transaction are given out
pub Toward-entry : {S : Type 0} {held : S → Option (List ℕ)} {faults : S → ℕ} {s₀ s₁ s₂ : S} {o₀ o₁ o₂ : Out} {whole : List ℕ} (journal : List Tx) (k : ℕ) (tx : Tx)
    → Toward held faults s₀ o₀ s₁ o₁ (joined (entries_lines (FIRST_XID + k) (drop k journal))) whole → tx ≡ get_or journal k tx → k < length journal → Puts held faults s₁ o₁ s₂ o₂ (joined (entry_lines (FIRST_XID + k) tx))
    → Toward held faults s₀ o₀ s₂ o₂ (joined (entries_lines (FIRST_XID + (k + 1)) (drop (k + 1) journal))) whole
Toward-entry journal k tx t e h p =
    let later : FIRST_XID + k + 1 ≡ FIRST_XID + (k + 1) = omega arith in
    Toward-more t p (next (λ txs. joined (entries_lines (FIRST_XID + k) txs)) journal k tx h e ∙ joined-append (entry_lines (FIRST_XID + k) tx) (entries_lines (FIRST_XID + k + 1) (drop (k + 1) journal))
    ∙ ap (λ x. joined (entry_lines (FIRST_XID + k) tx) ++ joined (entries_lines x (drop (k + 1) journal))) later)

-- the lines of the next section are given out
pub Toward-section : {S : Type 0} {held : S → Option (List ℕ)} {faults : S → ℕ} {s₀ s₁ s₂ : S} {o₀ o₁ o₂ : Out} {whole : List ℕ} (sections : List Section) (traces : List Trace) (i : ℕ) (section : Section) (trace : Trace)
    → Toward held faults s₀ o₀ s₁ o₁ (joined (traces_lines (drop i sections) (drop i traces))) whole → section ≡ get_or sections i section → trace ≡ get_or traces i trace
    → i < length sections → i < length traces → Puts held faults s₁ o₁ s₂ o₂ (joined (trace_lines section trace))
    → Toward held faults s₀ o₀ s₂ o₂ (joined (traces_lines (drop (i + 1) sections) (drop (i + 1) traces))) whole
Toward-section sections traces i section trace t e f h k p =
    Toward-more t p (next (λ ss. joined (traces_lines ss (drop i traces))) sections i section h e ∙ next (λ ts. joined (traces_lines (section ∷ drop (i + 1) sections) ts)) traces i trace k f
    ∙ joined-append (trace_lines section trace) (traces_lines (drop (i + 1) sections) (drop (i + 1) traces)))

-- the head of the next section and the end of its trace are given out
pub Toward-ends : {S : Type 0} {held : S → Option (List ℕ)} {faults : S → ℕ} {s₀ s₁ s₂ : S} {o₀ o₁ o₂ : Out} {whole : List ℕ} (sections : List Section) (traces : List Trace) (i : ℕ) (section : Section) (trace : Trace)
    → Toward held faults s₀ o₀ s₁ o₁ (joined (ends_lines (drop i sections) (drop i traces))) whole → section ≡ get_or sections i section → trace ≡ get_or traces i trace
    → i < length sections → i < length traces → Puts held faults s₁ o₁ s₂ o₂ (section_line section ++ 10 ∷ [] ++ (end_line trace.last ++ 10 ∷ []))
    → Toward held faults s₀ o₀ s₂ o₂ (joined (ends_lines (drop (i + 1) sections) (drop (i + 1) traces))) whole
Toward-ends sections traces i section trace t e f h k p =
    Toward-more t p (next (λ ss. joined (ends_lines ss (drop i traces))) sections i section h e ∙ next (λ ts. joined (ends_lines (section ∷ drop (i + 1) sections) ts)) traces i trace k f
    ∙ sym (append_assoc (section_line section ++ 10 ∷ []) (end_line trace.last ++ 10 ∷ []) (joined (ends_lines (drop (i + 1) sections) (drop (i + 1) traces)))))

-- past the last item of a list there are no more lines
pub lines-end : {A : Type 0} (f : A → List ℕ) (xs : List A) (i : ℕ) → length xs ≤ i → joined (map f (drop i xs)) ≡ []
lines-end {A} f xs i h = ap (λ (ys : List A). joined (map f ys)) (drop_all i xs h)

-- past the last element no marked line is left
pub marked-end : {A : Type 0} (mark : Option ℕ) (f : A → List ℕ) (xs : List A) (i : ℕ) → length xs ≤ i → joined (marked mark (map f (drop i xs))) ≡ []
marked-end {A} mark f xs i h = ap (λ (ys : List A). joined (marked mark (map f ys))) (drop_all i xs h)

-- past the last element no line is left
pub flat-end : {A : Type 0} (f : A → List (List ℕ)) (xs : List A) (i : ℕ) → length xs ≤ i → joined (flat_map f (drop i xs)) ≡ []
flat-end {A} f xs i h = ap (λ (ys : List A). joined (flat_map f ys)) (drop_all i xs h)

no_ends : (sections : List Section) → ends_lines sections [] ≡ []
no_ends [] = refl
no_ends (section ∷ sections) = refl

-- past the last section or trace no end is left
pub ends_lines-end : (sections : List Section) (traces : List Trace) (i : ℕ) → min (length sections) (length traces) ≤ i → joined (ends_lines (drop i sections) (drop i traces)) ≡ []
ends_lines-end sections traces i h = elim (cases_lt i (length sections)) [
  | inl k ↦ ap (λ (ts : List Trace). joined (ends_lines (drop i sections) ts)) (drop_all i traces (omega arith)) ∙ ap joined (no_ends (drop i sections))
  | inr k ↦ ap (λ (ss : List Section). joined (ends_lines ss (drop i traces))) (drop_all i sections k)
]

no_traces : (sections : List Section) → traces_lines sections [] ≡ []
no_traces [] = refl
no_traces (section ∷ sections) = refl

-- past the sections or past the traces there are no more lines
pub traces_lines-end : (sections : List Section) (traces : List Trace) (i : ℕ) → min (length sections) (length traces) ≤ i → joined (traces_lines (drop i sections) (drop i traces)) ≡ []
traces_lines-end sections traces i h = elim (cases_lt i (length sections)) [
  | inl k ↦ ap (λ (ts : List Trace). joined (traces_lines (drop i sections) ts)) (drop_all i traces (omega arith)) ∙ ap joined (no_traces (drop i sections))
  | inr k ↦ ap (λ (ss : List Section). joined (traces_lines ss (drop i traces))) (drop_all i sections k)
]

-- a text that is given out from the start and sent is written
pub Writes-from_Puts : {S : Type 0} {held : S → Option (List ℕ)} {faults : S → ℕ} {s₀ s₁ s₂ : S} {o₀ o₁ o₂ : Out} {text : List ℕ} → o₀.kept ≡ [] → o₀.so_far ≡ Ok tt
    → Puts held faults s₀ o₀ s₁ o₁ text → Puts held faults s₁ o₁ s₂ o₂ [] → OnOk o₂.so_far (o₂.kept ≡ []) → Writes (held s₀) (held s₂) o₂.so_far text
Writes-from_Puts {held = held} {s₀ = s₀} {s₂ = s₂} {o₀ = o₀} {o₂ = o₂} {text = text} e f p sent done =
    let all : Puts held _ s₀ o₀ s₂ o₂ text = Puts-same (append-nil text) (Puts-trans p sent) in
    whole (held s₀) (held s₂) o₂.kept o₂.so_far done (λ start h. all.bytes start [] (subst (λ (o : Result Unit Failed). IsOut start (held s₀) (record { kept = o₀.kept; so_far = o }) []) (sym f) (subst (λ (k : List ℕ). GrewBut start (held s₀) k []) (sym e) h)))
  where
    whole : (old new : Option (List ℕ)) (kept : List ℕ) (r : Result Unit Failed) → OnOk r (kept ≡ []) → ((start : Option (List ℕ)) → GrewBut start old [] [] → IsOut start new (record { kept = kept; so_far = r }) text) → Writes old new r text
    whole None new kept (Ok y) done g = tt
    whole None new kept (Err y) done g = tt
    whole (Some xs) None kept (Ok y) done g = g (Some xs) ([], refl, sym (append-nil xs))
    whole (Some xs) (Some ys) kept (Ok y) done g =
        let o : GrewBut (Some xs) (Some ys) kept text = g (Some xs) ([], refl, sym (append-nil xs)) in
        o.2 ∙ ap (λ t. xs ++ t) (sym (append-nil o.0) ∙ ap (λ t. o.0 ++ t) (sym done) ∙ sym o.1)
    whole (Some xs) new kept (Err y) done g = g (Some xs) ([], refl, sym (append-nil xs))

-- what an output keeps of a write
pub ruleset out_laws = (Puts-failed, Puts-kept, Puts-written)

-- what a send may leave
pub ruleset send_laws = (Puts-none, Puts-failed, Puts-sent)

-- writes one after another
pub ruleset put_laws = (Puts-trans, Puts-none, Puts-behind)

-- writes of a loop, element by element
pub ruleset loop_laws = (Toward-none, Toward-line, Toward-lines, Toward-marked, Toward-entry, Toward-section, Toward-ends, Toward-all, Toward-last)
