-- Sorted, a live output is the text of its run.
use Rattle.std.proofs.Common.{◌≡◌, ℕ, ◌+◌, ◌^◌, ◌<◌, ◌≤◌, inl, inr, Bool, true, false, cond, not, ◌||◌, ◌==◌, List, [], ◌∷◌, ◌++◌, length, get_or, map, filter, codes, decimal, Option, None, Some, sym, ap, ◌∙◌, refl, subst, arith, append_assoc, append-nil, eqb-true, eq-eqb}
use Rattle.std.specs.Prelude.{All, flat_map}
use Rattle.std.specs.Int.{IsInRange}
use Rattle.std.specs.List.{list_any, onto_first}
use Rattle.std.proofs.lemmas.Bool.{cases_lt, eqb-false}
use Rattle.std.proofs.lemmas.Bool.Decides.{eqb_tells}
use Rattle.std.proofs.lemmas.List.Concat.{flat_map-append}
use Rattle.std.proofs.lemmas.List.Elements.{All-nil, All-cons, All-head, All-tail, All-append, All-map, All-weaker, filter-append, filter_map-append}
use Rattle.pgn_base.specs.declared.limits.TheConstants.{FIRST_XID}
use Rattle.pgn_journal.specs.declared.tx.Tx.{Tx}
use Rattle.pgn_language.specs.declared.scenario.Scenario.{Scenario}
use Rattle.pgn_language.specs.declared.scenario.Section.{Section}
use Rattle.pgn_language.specs.Inputs.{AreNumbered, IsSound}
use Rattle.pgn_language.specs.Lines as cut
use Rattle.pgn_language.specs.laws.Inputs.{lacks}
use Rattle.pgn_language.proofs.LineLaws.{lines-cut, lacks-parts}
use Rattle.pgn_model.specs.declared.item.Item.{Item}
use Rattle.pgn_model.specs.declared.trace.Trace.{Trace}
use Rattle.pgn_model.specs.Walk.{Settings}
use Rattle.pgn_model.specs.Trace.{TraceOk}
use Rattle.pgn_model.specs.Legal.{EachTrace, Legal}
use Rattle.pgn_model.specs.Text.{joined, note_line, entry_lines, entries_lines, journal_lines, item_lines, section_line, end_line, trace_lines, traces_lines, text_lines, text}
use Rattle.pgn_reading.proofs.FieldLaws.{AreDigits, digits-decimal}
use Rattle.pgn_text.specs.Rendering.{mark_of, lines_of, ends_lines}
use Rattle.pgn_live.specs.Cames.{Came, items_in, items_of}
use Rattle.pgn_live.specs.Lives.{AreWhole, came_lines, log_of_trace}
use Rattle.pgn_run.specs.Live.{live_text}
use Rattle.pgn_unique.proofs.JournalLines.{joined-append}
use Rattle.pgn_unique.proofs.TextLaws.{text-unique}
use Rattle.pgn_sorted.specs.Sorting.{behind, lines_from, is_marked, is_head, with_sessions, sorted_lines, sorted}
use Rattle.pgn_sorted.specs.Laws.{SessionsHaveLines, LiveIsSorted, LiveIsUnique}
use Rattle.pgn_sorted.proofs.OneLineLaws.{legal-has_lines}
use Rattle.pgn_sorted.proofs.MarkLaws.{marked-mark, unmarked-none, none-kept, none-left, all-left, all-parts, IsFew, lines-of_all, all-of_one}

-- Lines without LF.

abbrev Clean : List ℕ → Type 0
Clean text = lacks 10 text ≡ true

clean_byte : (byte : ℕ) (text : List ℕ) → (byte == 10) ≡ false → Clean text → Clean (byte ∷ text)
clean_byte byte text e h = ap (λ (t : Bool). not (t || list_any (λ b. b == 10) text)) e ∙ h

both : (first second : List ℕ) → Clean first → Clean second → Clean (first ++ second)
both [] second h k = k
both (byte ∷ first) second h k = let parts = lacks-parts byte first h in clean_byte byte (first ++ second) parts.0 (both first second parts.1 k)

digits-clean : (bytes : List ℕ) → AreDigits bytes → Clean bytes
digits-clean [] h = refl
digits-clean (byte ∷ bytes) h = clean_byte byte bytes (other byte h.0) (digits-clean bytes h.1)
  where
    other : (n : ℕ) → IsInRange 48 57 n → (n == 10) ≡ false
    other n h = elim (eqb_tells n 10) [ inl s ↦ absurd (omega (arith, s.1, h.0)) | inr s ↦ s.0 ]

mark-clean : (n : ℕ) (line : List ℕ) → n < 2 ^ 64 → Clean line → Clean (mark_of (Some n) ++ line)
mark-clean n line few h = both (mark_of (Some n)) line (both (decimal n) (codes "| ") (digits-clean (decimal n) (digits-decimal n few)) refl) h

-- cut at each LF, bytes give lines without LF
cut-clean : (bytes : List ℕ) → All Clean (cut.lines_of bytes)
cut-clean [] = All-nil Clean
cut-clean (byte ∷ bytes) = by (byte == 10) refl (cut.lines_of bytes) (cut-clean bytes)
  where
    by : (b : Bool) → (byte == 10) ≡ b → (lines : List (List ℕ)) → All Clean lines → All Clean (cond b ([] ∷ lines) (onto_first byte lines))
    by true is lines h = All-cons Clean [] lines refl h
    by false is [] h = All-cons Clean (byte ∷ []) [] (clean_byte byte [] is refl) (All-nil Clean)
    by false is (line ∷ lines) h = All-cons Clean (byte ∷ line) lines (clean_byte byte line is (All-head Clean line lines h)) (All-tail Clean line lines h)

-- joined lines, cut at each LF, are the lines
joined-cut : (lines : List (List ℕ)) → All Clean lines → cut.lines_of (joined lines) ≡ lines
joined-cut [] h = refl
joined-cut (line ∷ lines) h =
    ap (λ (bytes : List ℕ). cut.lines_of bytes) (append_assoc line (10 ∷ []) (joined lines)) ∙ lines-cut line (joined lines) (All-head Clean line lines h)
    ∙ ap (λ (rest : List (List ℕ)). let all : List (List ℕ) = line ∷ rest in all) (joined-cut lines (All-tail Clean line lines h))

-- Lines without a mark.

-- neither a mark nor a head
record IsPlain (line : List ℕ) : Type 0 where
  unmarked : is_marked line ≡ false
  no_head : is_head line ≡ false

entry-plain : (x : ℕ) (tx : Tx) → All IsPlain (entry_lines x tx)
entry-plain x tx = All-cons IsPlain _ (map note_line tx.notes) (record { unmarked = refl; no_head = refl }) (All-map IsPlain note_line tx.notes (λ k d lt. record { unmarked = refl; no_head = refl }))

entries-plain : (x : ℕ) (txs : List Tx) → All IsPlain (entries_lines x txs)
entries-plain x [] = All-nil IsPlain
entries-plain x (tx ∷ txs) = All-append IsPlain (entry_lines x tx) (entries_lines (x + 1) txs) (entry-plain x tx) (entries-plain (x + 1) txs)

journal-plain : (journal : List Tx) → All IsPlain (journal_lines journal)
journal-plain journal = All-cons IsPlain _ (entries_lines FIRST_XID journal) (record { unmarked = refl; no_head = refl }) (entries-plain FIRST_XID journal)

end-plain : (last : Option ℕ) → IsPlain (end_line last)
end-plain None = record { unmarked = refl; no_head = refl }
end-plain (Some mark) = record { unmarked = refl; no_head = refl }

abbrev Unmarked : List ℕ → Type 0
Unmarked line = is_marked line ≡ false

ends-unmarked : (sections : List Section) (traces : List Trace) → All Unmarked (ends_lines sections traces)
ends-unmarked [] traces = All-nil Unmarked
ends-unmarked (section ∷ sections) [] = All-nil Unmarked
ends-unmarked (section ∷ sections) (trace ∷ traces) =
    All-cons Unmarked (section_line section) (end_line trace.last ∷ ends_lines sections traces) refl (All-cons Unmarked (end_line trace.last) (ends_lines sections traces) (end-plain trace.last).unmarked (ends-unmarked sections traces))

-- lines that are no heads stay
past : (all : List (List ℕ)) (n : ℕ) (lines more : List (List ℕ)) → All IsPlain lines → with_sessions all n (lines ++ more) ≡ lines ++ with_sessions all n more
past all n [] more h = refl
past all n (line ∷ lines) more h =
    ap (λ (b : Bool). cond b (line ∷ (lines_from n all ++ with_sessions all (n + 1) (lines ++ more))) (line ∷ with_sessions all n (lines ++ more))) (All-head IsPlain line lines h).no_head
    ∙ ap (λ (rest : List (List ℕ)). let these : List (List ℕ) = line ∷ rest in these) (past all n lines more (All-tail IsPlain line lines h))

-- What all sessions recorded.

all-flat : {A B : Type 0} (Q : B → Type 0) (f : A → List B) (xs : List A) → All (λ x. All Q (f x)) xs → All Q (flat_map f xs)
all-flat Q f [] h = All-nil Q
all-flat Q f (x ∷ xs) h = All-append Q (f x) (flat_map f xs) (All-head (λ x. All Q (f x)) x xs h) (all-flat Q f xs (All-tail (λ x. All Q (f x)) x xs h))

not-same : (m n : ℕ) → (m ≡ n → ⊥) → (m == n) ≡ false
not-same m n apart = elim (eqb_tells m n) [ inl s ↦ absurd (apart s.1) | inr s ↦ s.0 ]

in-other : (n : ℕ) (came : Came) → (came.session ≡ n → ⊥) → items_in n came ≡ []
in-other n came apart = ap (λ (b : Bool). cond b came.what []) (not-same came.session n apart)

in-own : (n : ℕ) (came : Came) → came.session ≡ n → items_in n came ≡ came.what
in-own n came same = ap (λ (b : Bool). cond b came.what []) (eq-eqb came.session n same)

none-of : (n : ℕ) (cames : List Came) → All (λ came. came.session ≡ n → ⊥) cames → items_of n cames ≡ []
none-of n [] h = refl
none-of n (came ∷ cames) h =
    ap (λ (items : List Item). items ++ items_of n cames) (in-other n came (All-head (λ c. c.session ≡ n → ⊥) came cames h)) ∙ none-of n cames (All-tail (λ c. c.session ≡ n → ⊥) came cames h)

-- what the items of a session have, where parts have it too, those of each that came of it have
parts-of : (R : List Item → Type 0) → ((xs ys : List Item) → R (xs ++ ys) → R xs × R ys) → (n : ℕ) (cames : List Came) → R (items_of n cames) → All (λ came. came.session ≡ n → R came.what) cames
parts-of R split n [] h = All-nil (λ (c : Came). c.session ≡ n → R c.what)
parts-of R split n (came ∷ cames) h =
    let two = split (items_in n came) (items_of n cames) h in
    All-cons (λ (c : Came). c.session ≡ n → R c.what) came cames (λ same. subst R (in-own n came same) two.0) (parts-of R split n cames two.1)

split-none : (xs ys : List Item) → xs ++ ys ≡ [] → (xs ≡ []) × (ys ≡ [])
split-none [] ys e = (refl, e)
split-none (x ∷ xs) ys e = absurd (let none : ⊥ = cc in none)

module _ (settings : Settings) (journal : List Tx) where
  abbrev Lawful : List Section → List Trace → Type 0
  Lawful sections traces = EachTrace settings (λ terms trace. TraceOk terms trace journal) sections traces

  abbrev logs : List Trace → List Came
  logs traces = map log_of_trace traces

  -- the sessions of numbered sections
  sessions-at : (n : ℕ) (sections : List Section) (traces : List Trace) → AreNumbered n sections → Lawful sections traces → All (λ log. (n ≤ log.session) × (log.session < n + length sections)) (logs traces)
  sessions-at n [] [] numbered ok = λ k d lt. absurd (omega (arith, lt))
  sessions-at n [] (trace ∷ traces) numbered ok = absurd ok
  sessions-at n (section ∷ sections) [] numbered ok = absurd ok
  sessions-at n (section ∷ sections) (trace ∷ traces) numbered ok =
      let own : trace.session ≡ section.no = ok.0.session in
      let At : Came → Type 0 = λ log. (n ≤ log.session) × (log.session < n + length (section ∷ sections)) in
      let rest : All (λ log. (n + 1 ≤ log.session) × (log.session < n + 1 + length sections)) (logs traces) = sessions-at (n + 1) sections traces numbered.1 ok.1 in
      All-cons At (log_of_trace trace) (logs traces) (omega (arith, own, numbered.0), omega (arith, own, numbered.0))
      (λ k d lt. (omega (arith, (rest k d lt).0), omega (arith, (rest k d lt).1)))

  -- a session that is none of theirs recorded nothing
  none-below : (n : ℕ) (sections : List Section) (traces : List Trace) (m : ℕ) → AreNumbered n sections → Lawful sections traces → m < n → items_of m (logs traces) ≡ []
  none-below n sections traces m numbered ok low = none-of m (logs traces) (λ k d lt same. absurd (omega (arith, low, same, (sessions-at n sections traces numbered ok k d lt).0)))

  none-above : (n : ℕ) (sections : List Section) (traces : List Trace) (m : ℕ) → AreNumbered n sections → Lawful sections traces → n + length sections ≤ m → items_of m (logs traces) ≡ []
  none-above n sections traces m numbered ok high = none-of m (logs traces) (λ k d lt same. absurd (omega (arith, high, same, (sessions-at n sections traces numbered ok k d lt).1)))

  -- that of the first section is its trace
  own-items : (n : ℕ) (section : Section) (sections : List Section) (trace : Trace) (traces : List Trace) → AreNumbered n (section ∷ sections) → Lawful (section ∷ sections) (trace ∷ traces) → items_of section.no (logs (trace ∷ traces)) ≡ trace.items
  own-items n section sections trace traces numbered ok =
      ap (λ (items : List Item). items ++ items_of section.no (logs traces)) (in-own section.no (log_of_trace trace) ok.0.session)
      ∙ ap (λ (items : List Item). trace.items ++ items) (none-below (n + 1) sections traces section.no numbered.1 ok.1 (omega (arith, numbered.0))) ∙ append-nil trace.items

  -- those of a later section are among the rest
  later-items : (m : ℕ) (section : Section) (trace : Trace) (traces : List Trace) → trace.session ≡ section.no → (section.no ≡ m → ⊥) → items_of m (logs (trace ∷ traces)) ≡ items_of m (logs traces)
  later-items m section trace traces own apart = ap (λ (items : List Item). items ++ items_of m (logs traces)) (in-other m (log_of_trace trace) (λ same. apart (sym own ∙ same)))

  -- the lines of each session have what all lines of the traces have
  lines-have : (Q : List ℕ → Type 0) (n : ℕ) (sections : List Section) (traces : List Trace) → AreNumbered n sections → Lawful sections traces → All Q (traces_lines sections traces)
      → (m : ℕ) → All Q (flat_map (item_lines (lines_of m sections)) (items_of m (logs traces)))
  lines-have Q n [] [] numbered ok h m = All-nil Q
  lines-have Q n [] (trace ∷ traces) numbered ok h m = absurd ok
  lines-have Q n (section ∷ sections) [] numbered ok h m = absurd ok
  lines-have Q n (section ∷ sections) (trace ∷ traces) numbered ok h m =
      let its : List (List ℕ) = flat_map (item_lines section.lines) trace.items in
      let parts = all-parts Q (trace_lines section trace) (traces_lines sections traces) h in
      by (section.no == m) refl (all-parts Q its (end_line trace.last ∷ []) (All-tail Q (section_line section) (its ++ end_line trace.last ∷ []) parts.0)).0 (lines-have Q (n + 1) sections traces numbered.1 ok.1 parts.1 m)
    where
      by : (b : Bool) → (section.no == m) ≡ b → All Q (flat_map (item_lines section.lines) trace.items) → All Q (flat_map (item_lines (lines_of m sections)) (items_of m (logs traces)))
          → All Q (flat_map (item_lines (cond b section.lines (lines_of m sections))) (items_of m (logs (trace ∷ traces))))
      by true is first rest =
          subst (λ (items : List Item). All Q (flat_map (item_lines section.lines) items))
          (sym (own-items n section sections trace traces numbered ok) ∙ ap (λ (k : ℕ). items_of k (logs (trace ∷ traces))) (eqb-true section.no m is)) first
      by false is first rest =
          subst (λ (items : List Item). All Q (flat_map (item_lines (lines_of m sections)) items)) (sym (later-items m section trace traces ok.0.session (eqb-false section.no m is))) rest

  -- what are the lines of the items of each number are for each section those of its trace
  each-lines : (f : ℕ → List (List ℕ)) (top n : ℕ) (sections : List Section) (traces : List Trace) → n + length sections ≤ top → AreNumbered n sections → Lawful sections traces
      → ((m : ℕ) → n ≤ m → m < top → f m ≡ flat_map (item_lines (lines_of m sections)) (items_of m (logs traces)))
      → EachTrace settings (λ terms trace. f terms.section.no ≡ flat_map (item_lines terms.section.lines) trace.items) sections traces
  each-lines f top n [] [] few numbered ok h = tt
  each-lines f top n [] (trace ∷ traces) few numbered ok h = absurd ok
  each-lines f top n (section ∷ sections) [] few numbered ok h = absurd ok
  each-lines f top n (section ∷ sections) (trace ∷ traces) few numbered ok h =
      let same : flat_map (item_lines (lines_of section.no (section ∷ sections))) (items_of section.no (logs (trace ∷ traces))) ≡ flat_map (item_lines section.lines) trace.items =
      ap (λ (b : Bool). flat_map (item_lines (cond b section.lines (lines_of section.no sections))) (items_of section.no (logs (trace ∷ traces)))) (eq-eqb section.no section.no refl)
      ∙ ap (λ (items : List Item). flat_map (item_lines section.lines) items) (own-items n section sections trace traces numbered ok) in (
        h section.no (omega (arith, numbered.0)) (omega (arith, numbered.0, few)) ∙ same,
        each-lines f top (n + 1) sections traces (omega (arith, few)) numbered.1 ok.1 (λ m low high. h m (omega (arith, low)) high ∙ later m (λ e. omega (arith, e, low, numbered.0))),
      )
    where
      later : (m : ℕ) → (section.no ≡ m → ⊥) → flat_map (item_lines (lines_of m (section ∷ sections))) (items_of m (logs (trace ∷ traces))) ≡ flat_map (item_lines (lines_of m sections)) (items_of m (logs traces))
      later m apart =
          ap (λ (b : Bool). flat_map (item_lines (cond b section.lines (lines_of m sections))) (items_of m (logs (trace ∷ traces)))) (not-same section.no m apart)
          ∙ ap (λ (items : List Item). flat_map (item_lines (lines_of m sections)) items) (later-items m section trace traces ok.0.session apart)

  -- the heads and ends, with those lines between them
  ends-sorted : (all : List (List ℕ)) (n : ℕ) (sections : List Section) (traces : List Trace) → AreNumbered n sections
      → EachTrace settings (λ terms trace. lines_from terms.section.no all ≡ flat_map (item_lines terms.section.lines) trace.items) sections traces → with_sessions all n (ends_lines sections traces) ≡ traces_lines sections traces
  ends-sorted all n [] [] numbered h = refl
  ends-sorted all n [] (trace ∷ traces) numbered h = absurd h
  ends-sorted all n (section ∷ sections) [] numbered h = absurd h
  ends-sorted all n (section ∷ sections) (trace ∷ traces) numbered h =
      let its : List (List ℕ) = flat_map (item_lines section.lines) trace.items in
      let own : lines_from n all ≡ its = ap (λ (k : ℕ). lines_from k all) (sym numbered.0) ∙ h.0 in
      let rest : with_sessions all (n + 1) (end_line trace.last ∷ ends_lines sections traces) ≡ end_line trace.last ∷ traces_lines sections traces =
      past all (n + 1) (end_line trace.last ∷ []) (ends_lines sections traces) (All-cons IsPlain (end_line trace.last) [] (end-plain trace.last) (All-nil IsPlain))
      ∙ ap (λ (lines : List (List ℕ)). let these : List (List ℕ) = end_line trace.last ∷ lines in these) (ends-sorted all (n + 1) sections traces numbered.1 h.1) in
      ap (λ (lines : List (List ℕ)). let these : List (List ℕ) = section_line section ∷ (lines ++ with_sessions all (n + 1) (end_line trace.last ∷ ends_lines sections traces)) in these) own
      ∙ ap (λ (lines : List (List ℕ)). let these : List (List ℕ) = section_line section ∷ (its ++ lines) in these) rest
      ∙ ap (λ (lines : List (List ℕ)). let these : List (List ℕ) = section_line section ∷ lines in these) (sym (append_assoc its (end_line trace.last ∷ []) (traces_lines sections traces)))

  -- the heads and ends are lines of the traces
  ends-have : (Q : List ℕ → Type 0) (sections : List Section) (traces : List Trace) → All Q (traces_lines sections traces) → All Q (ends_lines sections traces)
  ends-have Q [] traces h = All-nil Q
  ends-have Q (section ∷ sections) [] h = All-nil Q
  ends-have Q (section ∷ sections) (trace ∷ traces) h =
      let its : List (List ℕ) = flat_map (item_lines section.lines) trace.items in
      let parts = all-parts Q (trace_lines section trace) (traces_lines sections traces) h in
      let inner = all-parts Q its (end_line trace.last ∷ []) (All-tail Q (section_line section) (its ++ end_line trace.last ∷ []) parts.0) in
      All-cons Q (section_line section) (end_line trace.last ∷ ends_lines sections traces) (All-head Q (section_line section) (its ++ end_line trace.last ∷ []) parts.0)
      (All-cons Q (end_line trace.last) (ends_lines sections traces) (All-head Q (end_line trace.last) [] inner.1) (ends-have Q sections traces parts.1))

-- The run.

module _ (scenario : Scenario) (settings : Settings) (journal : List Tx) (traces : List Trace) (cames : List Came) (sound : IsSound scenario) (legal : Legal scenario settings journal traces) (whole : AreWhole (map log_of_trace traces) cames) where
  abbrev came : List (List ℕ)
  came = flat_map (came_lines scenario.sections) cames

  abbrev end : List (List ℕ)
  end = journal_lines journal ++ ends_lines scenario.sections traces

  -- the sessions of what came are not numbered too high
  few : All IsFew cames
  few k d lt = elim (cases_lt (get_or cames k d).session (2 ^ 64)) [
    | inl low ↦ inl low
    | inr high ↦
        let n : ℕ = (get_or cames k d).session in
        inr (parts-of (λ items. items ≡ []) split-none n cames (whole n ∙ none-above settings journal 1 scenario.sections traces n sound.numbered legal.lawful (omega (arith, high, sound.few))) k d lt refl)
  ]

  text-clean : All Clean (text_lines scenario journal traces)
  text-clean = subst (λ (lines : List (List ℕ)). All Clean lines) (legal-has_lines scenario settings journal traces sound legal) (cut-clean (text scenario journal traces))

  -- no LF stands in the lines of items of session n
  abbrev Has : ℕ → List Item → Type 0
  Has n items = All Clean (flat_map (item_lines (lines_of n scenario.sections)) items)

  came-clean : All Clean came
  came-clean = all-flat Clean (came_lines scenario.sections) cames (λ k d lt. one (get_or cames k d) (few k d lt) (parts k d lt))
    where
      split : (n : ℕ) (xs ys : List Item) → Has n (xs ++ ys) → Has n xs × Has n ys
      split n xs ys h =
          let f = item_lines (lines_of n scenario.sections) in
          all-parts Clean (flat_map f xs) (flat_map f ys) (subst (λ (lines : List (List ℕ)). All Clean lines) (flat_map-append f xs ys) h)

      parts : (k : ℕ) (d : Came) → k < length cames → Has (get_or cames k d).session (get_or cames k d).what
      parts k d lt =
          let n : ℕ = (get_or cames k d).session in
          let behind_journal : All Clean (traces_lines scenario.sections traces) = (all-parts Clean (journal_lines journal) (traces_lines scenario.sections traces) text-clean).1 in
          let recorded : Has n (items_of n cames) = subst (Has n) (sym (whole n)) (lines-have settings journal Clean 1 scenario.sections traces sound.numbered legal.lawful behind_journal n) in
          parts-of (Has n) (split n) n cames recorded k d lt refl

      one : (c : Came) → IsFew c → Has c.session c.what → All Clean (came_lines scenario.sections c)
      one c low h = all-of_one Clean Clean scenario.sections c low (λ low line h. mark-clean c.session line low h) h

  end-clean : All Clean end
  end-clean =
      let two = all-parts Clean (journal_lines journal) (traces_lines scenario.sections traces) text-clean in
      All-append Clean (journal_lines journal) (ends_lines scenario.sections traces) two.0 (ends-have settings journal Clean scenario.sections traces two.1)

  end-unmarked : All Unmarked end
  end-unmarked =
      All-append Unmarked (journal_lines journal) (ends_lines scenario.sections traces) (All-weaker IsPlain Unmarked (λ line h. h.unmarked) (journal_lines journal) (journal-plain journal)) (ends-unmarked scenario.sections traces)

  came-marked : All (λ line. is_marked line ≡ true) came
  came-marked =
      let Marked : List ℕ → Type 0 = λ line. is_marked line ≡ true in
      all-flat Marked (came_lines scenario.sections) cames
      (λ k d lt. all-of_one (λ line. Unit {0}) Marked scenario.sections (get_or cames k d) (few k d lt) (λ low line h. marked-mark (get_or cames k d).session line low) (λ j e within. tt))

  -- the live output, cut at each LF
  live-cut : cut.lines_of (live_text scenario cames journal traces) ≡ came ++ end
  live-cut = ap (λ (bytes : List ℕ). cut.lines_of bytes) (sym (joined-append came end)) ∙ joined-cut (came ++ end) (All-append Clean came end came-clean end-clean)

  -- the lines of each number
  lines-numbered : (n : ℕ) → n < 2 ^ 64 → lines_from n (came ++ end) ≡ flat_map (item_lines (lines_of n scenario.sections)) (items_of n (map log_of_trace traces))
  lines-numbered n low =
      filter_map-append (behind (mark_of (Some n))) came end
      ∙ ap (λ (lines : List (List ℕ)). lines_from n came ++ lines)
      (none-kept (behind (mark_of (Some n))) end (All-weaker Unmarked (λ line. behind (mark_of (Some n)) line ≡ None) (λ line h. unmarked-none n line low h) end end-unmarked))
      ∙ append-nil (lines_from n came) ∙ lines-of_all n scenario.sections cames low few ∙ ap (λ (items : List Item). flat_map (item_lines (lines_of n scenario.sections)) items) (whole n)

  session-lines : EachTrace settings (λ terms trace. lines_from terms.section.no (came ++ end) ≡ flat_map (item_lines terms.section.lines) trace.items) scenario.sections traces
  session-lines =
      each-lines settings journal (λ n. lines_from n (came ++ end)) (2 ^ 64) 1 scenario.sections traces (omega (arith, sound.few)) sound.numbered legal.lawful (λ n low high. lines-numbered n high)

  sorted-so : sorted_lines (came ++ end) ≡ text_lines scenario journal traces
  sorted-so =
      let left : filter (λ line. not (is_marked line)) (came ++ end) ≡ end =
      filter-append (λ line. not (is_marked line)) came end ∙ ap (λ (lines : List (List ℕ)). lines ++ filter (λ line. not (is_marked line)) end) (none-left came came-marked) ∙ all-left end end-unmarked in
      ap (λ (lines : List (List ℕ)). with_sessions (came ++ end) 1 lines) left ∙ past (came ++ end) 1 (journal_lines journal) (ends_lines scenario.sections traces) (journal-plain journal)
      ∙ ap (λ (lines : List (List ℕ)). journal_lines journal ++ lines) (ends-sorted settings journal (came ++ end) 1 scenario.sections traces sound.numbered session-lines)

  run-sorted : sorted (live_text scenario cames journal traces) ≡ text scenario journal traces
  run-sorted = ap (λ (lines : List (List ℕ)). joined (sorted_lines lines)) live-cut ∙ ap (λ (lines : List (List ℕ)). joined lines) sorted-so

-- in a live output to which all came each session has the lines of its trace, in their order
pub sessions-have_lines : SessionsHaveLines
sessions-have_lines scenario settings journal traces cames sound legal whole =
    subst (λ (lines : List (List ℕ)). EachTrace settings (λ terms trace. lines_from terms.section.no lines ≡ flat_map (item_lines terms.section.lines) trace.items) scenario.sections traces)
    (sym (live-cut scenario settings journal traces cames sound legal whole)) (session-lines scenario settings journal traces cames sound legal whole)

-- such an output, sorted, is the text of the run
pub live-is_sorted : LiveIsSorted
live-is_sorted scenario settings journal traces cames sound legal whole = run-sorted scenario settings journal traces cames sound legal whole

-- one live output is that of one journal and of one set of traces alone
pub live-is_unique : LiveIsUnique
live-is_unique scenario settings journal other traces others cames mores sound legal legal' whole whole' e =
    text-unique scenario settings journal other traces others sound legal legal'
    (sym (run-sorted scenario settings journal traces cames sound legal whole) ∙ ap (λ (bytes : List ℕ). sorted bytes) e ∙ run-sorted scenario settings other others mores sound legal' whole')
