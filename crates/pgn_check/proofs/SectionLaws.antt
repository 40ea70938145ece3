-- The sections of a text, one after another.
use Rattle.std.proofs.Common.{◌≡◌, ℕ, zero, suc, ◌+◌, ◌^◌, ◌<◌, ◌≤◌, List, [], ◌∷◌, ◌++◌, length, take, drop, get_or, sym, ap, ◌∙◌, refl, subst, inl, inr, arith}
use Rattle.std.proofs.lemmas.List.{drop_more, length-append, length-take, take-append-drop, take_more}
use Rattle.pgn_journal.specs.declared.tx.Tx.{Tx}
use Rattle.pgn_language.specs.declared.scenario.Section.{Section}
use Rattle.pgn_model.specs.declared.trace.Trace.{Trace}
use Rattle.pgn_model.specs.Walk.{Settings, Terms}
use Rattle.pgn_model.specs.Legal.{EachTrace}
use Rattle.std.specs.Prelude.{flat_map}
use Rattle.pgn_language.specs.declared.scenario.ScriptLine.{ScriptLine}
use Rattle.pgn_check.proofs.LoopLaws.{trace_many}
use Rattle.pgn_model.specs.Text.{item_lines, trace_lines, traces_lines}
use Rattle.pgn_reading.specs.Form.{EachSection, IsReadTrace}
use Rattle.pgn_reading.specs.Blame.{BlamesTraces}
use Rattle.pgn_reading.specs.WholeLaws.{IsWalked}
use Rattle.pgn_reading.proofs.BlameLaws.{blamed-apart, blamed-later, least-in_first, nothing-blamed}
use Rattle.pgn_check.specs.Walked.{IsLeastOf}
use Rattle.pgn_check.specs.Sections.{IsLeastIn}

-- There is one trace for each section.

-- each section has its trace
pub each_long : (sections : List Section) (traces : List Trace) → EachSection IsReadTrace sections traces → length sections ≡ length traces
each_long [] [] h = refl
each_long [] (trace ∷ traces) h = absurd h
each_long (section ∷ sections) [] h = absurd h
each_long (section ∷ sections) (trace ∷ traces) h = omega (arith, each_long sections traces h.1)

each_at : (sections : List Section) (traces : List Trace) (k : ℕ) (s : Section) (t : Trace) → EachSection IsReadTrace sections traces → k < length traces → IsReadTrace (get_or sections k s) (get_or traces k t)
each_at [] [] k s t h lt = absurd (omega (arith, lt))
each_at [] (trace ∷ traces) k s t h lt = absurd h
each_at (section ∷ sections) [] k s t h lt = absurd h
each_at (section ∷ sections) (trace ∷ traces) zero s t h lt = h.0
each_at (section ∷ sections) (trace ∷ traces) (suc k) s t h lt = each_at sections traces k s t h.1 (omega (arith, lt))

each_drop : (sections : List Section) (traces : List Trace) (k : ℕ) → EachSection IsReadTrace sections traces → EachSection IsReadTrace (drop k sections) (drop k traces)
each_drop sections traces zero h = h
each_drop [] [] (suc k) h = tt
each_drop [] (trace ∷ traces) (suc k) h = absurd h
each_drop (section ∷ sections) [] (suc k) h = absurd h
each_drop (section ∷ sections) (trace ∷ traces) (suc k) h = each_drop sections traces k h.1

-- one more
each_push : (settings : Settings) (P : Terms → Trace → Type 0) (sections : List Section) (traces : List Trace) (s : Section) (t : Trace) → EachTrace settings P sections traces → P (record { section = s; settings = settings }) t
    → EachTrace settings P (sections ++ s ∷ []) (traces ++ t ∷ [])
each_push settings P [] [] s t h p = (p, tt)
each_push settings P [] (trace ∷ traces) s t h p = absurd h
each_push settings P (section ∷ sections) [] s t h p = absurd h
each_push settings P (section ∷ sections) (trace ∷ traces) s t h p = (h.0, each_push settings P sections traces s t h.1 p)

lines_push : (sections : List Section) (traces : List Trace) (s : Section) (t : Trace) → length sections ≡ length traces → length (traces_lines (sections ++ s ∷ []) (traces ++ t ∷ [])) ≡ length (traces_lines sections traces) + length (trace_lines s t)
lines_push [] [] s t e = omega (arith, length-append (trace_lines s t) [])
lines_push [] (trace ∷ traces) s t e = absurd (omega (arith, e))
lines_push (section ∷ sections) [] s t e = absurd (omega (arith, e))
lines_push (section ∷ sections) (trace ∷ traces) s t e =
    omega (arith, length-append (trace_lines section trace) (traces_lines (sections ++ s ∷ []) (traces ++ t ∷ [])), length-append (trace_lines section trace) (traces_lines sections traces), lines_push sections traces s t (omega (arith, e)))

lines_cut : (sections : List Section) (traces : List Trace) (k : ℕ) (s : Section) (t : Trace) → length sections ≡ length traces → k < length traces
    → length (traces_lines (take k sections) (take k traces)) + length (trace_lines (get_or sections k s) (get_or traces k t)) ≤ length (traces_lines sections traces)
lines_cut [] [] k s t e lt = absurd (omega (arith, lt))
lines_cut [] (trace ∷ traces) k s t e lt = absurd (omega (arith, e))
lines_cut (section ∷ sections) [] k s t e lt = absurd (omega (arith, e))
lines_cut (section ∷ sections) (trace ∷ traces) zero s t e lt = omega (arith, length-append (trace_lines section trace) (traces_lines sections traces))
lines_cut (section ∷ sections) (trace ∷ traces) (suc k) s t e lt =
    omega (arith, length-append (trace_lines section trace) (traces_lines (take k sections) (take k traces)), length-append (trace_lines section trace) (traces_lines sections traces), lines_cut sections traces k s t (omega (arith, e)) (omega (arith, lt)))

-- The loop over the sections.

-- the lines of a section with its trace are as many whatever its script is
pub trace_long : (section : Section) (trace : Trace) (lines : List ScriptLine) → length (trace_lines section trace) ≡ 2 + length (flat_map (item_lines lines) trace.items)
trace_long section trace lines = trace_many section trace lines

-- the section and the trace at a place
pub record IsAt (sections : List Section) (traces : List Trace) (k : ℕ) (s : Section) (t : Trace) : Type 0 where
  pub section : s ≡ get_or sections k s
  pub trace : t ≡ get_or traces k t
  pub within : k < length traces
  pub long : length sections ≡ length traces

-- those that are read there
pub is_at : (sections : List Section) (traces : List Trace) (k : ℕ) (s : Section) (t : Trace) → s ≡ get_or sections k s → t ≡ get_or traces k t → k < length traces → EachSection IsReadTrace sections traces → IsAt sections traces k s t
is_at sections traces k s t one two within read = record { section = one; trace = two; within = within; long = each_long sections traces read }

-- the trace at a place is one that was read of its section
pub read_at : (sections : List Section) (traces : List Trace) (k : ℕ) (s : Section) (t : Trace) → IsAt sections traces k s t → EachSection IsReadTrace sections traces → IsReadTrace s t
read_at sections traces k s t at read =
    subst (λ (x : Section). IsReadTrace x t) (sym at.section) (subst (λ (y : Trace). IsReadTrace (get_or sections k s) y) (sym at.trace) (each_at sections traces k s t read at.within))

-- the lines of the section at a place can be numbered, where all can
pub fits_at : (sections : List Section) (traces : List Trace) (k head line : ℕ) (s : Section) (t : Trace) → IsAt sections traces k s t → line ≡ head + length (traces_lines (take k sections) (take k traces))
    → head + length (traces_lines sections traces) < 2 ^ 64 → line + length (trace_lines s t) < 2 ^ 64
fits_at sections traces k head line s t at e few =
    omega (arith, e, few, lines_cut sections traces k s t at.long at.within, ap (λ (x : Section). length (trace_lines x (get_or traces k t))) at.section, ap (λ (x : Trace). length (trace_lines s x)) at.trace)

-- the number of the last line after one section more
pub line_on : (sections : List Section) (traces : List Trace) (k head line : ℕ) (s : Section) (t : Trace) → IsAt sections traces k s t → line ≡ head + length (traces_lines (take k sections) (take k traces))
    → line + length (trace_lines s t) ≡ head + length (traces_lines (take (k + 1) sections) (take (k + 1) traces))
line_on sections traces k head line s t at e =
    let more : length (traces_lines (take (k + 1) sections) (take (k + 1) traces)) ≡ length (traces_lines (take k sections) (take k traces)) + length (trace_lines s t) =
    ap (λ (xs : List Section). length (traces_lines xs (take (k + 1) traces))) (take_more sections k s (omega (arith, at.within, at.long)) ∙ ap (λ (x : Section). take k sections ++ x ∷ []) (sym at.section))
    ∙ ap (λ (ts : List Trace). length (traces_lines (take k sections ++ s ∷ []) ts)) (take_more traces k t at.within ∙ ap (λ (x : Trace). take k traces ++ x ∷ []) (sym at.trace))
    ∙ lines_push (take k sections) (take k traces) s t (omega (arith, length-take k sections, length-take k traces, at.long)) in
    omega (arith, e, more)

-- what holds of each trace before a place and of the one there holds of each before the next
pub walked_on : (settings : Settings) (P : Terms → Trace → Type 0) (sections : List Section) (traces : List Trace) (k : ℕ) (s : Section) (t : Trace) → IsAt sections traces k s t → EachTrace settings P (take k sections) (take k traces)
    → P (record { section = s; settings = settings }) t → EachTrace settings P (take (k + 1) sections) (take (k + 1) traces)
walked_on settings P sections traces k s t at h p =
    let one : take (k + 1) sections ≡ take k sections ++ s ∷ [] = take_more sections k s (omega (arith, at.within, at.long)) ∙ ap (λ (x : Section). take k sections ++ x ∷ []) (sym at.section) in
    let two : take (k + 1) traces ≡ take k traces ++ t ∷ [] = take_more traces k t at.within ∙ ap (λ (x : Trace). take k traces ++ x ∷ []) (sym at.trace) in
    subst (λ (xs : List Section). EachTrace settings P xs (take (k + 1) traces)) (sym one) (subst (λ (ts : List Trace). EachTrace settings P (take k sections ++ s ∷ []) ts) (sym two) (each_push settings P (take k sections) (take k traces) s t h p))

module _ (settings : Settings) (journal : List Tx) (sections : List Section) (traces : List Trace) where
  -- of sections that are walked no line is to blame
  none_before : (head : ℕ) (front : List Section) (done : List Trace) (m : ℕ) → EachTrace settings (λ terms trace. IsWalked terms journal sections traces trace) front done
      → BlamesTraces settings journal sections traces head front done m → ⊥
  none_before head [] [] m h blames = blames
  none_before head [] (trace ∷ done) m h blames = blames
  none_before head (section ∷ front) [] m h blames = blames
  none_before head (section ∷ front) (trace ∷ done) m h (inl here) =
      nothing-blamed (record { section = section; settings = settings }) journal sections traces head trace h.0.state m h.0.comes h.0.spotless h.0.fresh h.0.nothing_missing here
  none_before head (section ∷ front) (trace ∷ done) m h (inr later) = none_before (head + length (trace_lines section trace)) front done m h.1 later

  -- the least line to blame in a section is the least of all, where the sections before it have none
  pub least_at : (k head line n : ℕ) (s : Section) (t : Trace) → EachSection IsReadTrace sections traces → IsAt sections traces k s t → line ≡ head + length (traces_lines (take k sections) (take k traces))
      → EachTrace settings (λ terms trace. IsWalked terms journal sections traces trace) (take k sections) (take k traces)
      → IsLeastOf (record { section = s; settings = settings }) journal sections traces line t n → IsLeastIn settings journal sections traces head n
  least_at k head line n s t read at e walked h =
      let front : List Section = take k sections in
      let done : List Trace = take k traces in
      let long : length front ≡ length done = omega (arith, length-take k sections, length-take k traces, at.long) in
      let back : drop k sections ≡ s ∷ drop (k + 1) sections = drop_more sections k s (omega (arith, at.within, at.long)) ∙ ap (λ (x : Section). x ∷ drop (k + 1) sections) (sym at.section) in
      let left : drop k traces ≡ t ∷ drop (k + 1) traces = drop_more traces k t at.within ∙ ap (λ (x : Trace). x ∷ drop (k + 1) traces) (sym at.trace) in
      let rest : EachSection IsReadTrace (s ∷ drop (k + 1) sections) (t ∷ drop (k + 1) traces) =
      subst (λ (xs : List Section). EachSection IsReadTrace xs (t ∷ drop (k + 1) traces)) back (subst (λ (ts : List Trace). EachSection IsReadTrace (drop k sections) ts) left (each_drop sections traces k read)) in
      let There : ℕ → List Section → List Trace → ℕ → Type 0 = λ at_line xs ts m. BlamesTraces settings journal sections traces at_line xs ts m in
      let to_rest : (m : ℕ) → There (head + length (traces_lines front done)) (drop k sections) (drop k traces) m → There line (s ∷ drop (k + 1) sections) (t ∷ drop (k + 1) traces) m =
      λ m b. subst (λ (i : ℕ). There i (s ∷ drop (k + 1) sections) (t ∷ drop (k + 1) traces) m) (sym e)
      (subst (λ (xs : List Section). There (head + length (traces_lines front done)) xs (t ∷ drop (k + 1) traces) m) back (subst (λ (ts : List Trace). There (head + length (traces_lines front done)) (drop k sections) ts m) left b)) in
      let of_rest : (m : ℕ) → There line (s ∷ drop (k + 1) sections) (t ∷ drop (k + 1) traces) m → There (head + length (traces_lines front done)) (drop k sections) (drop k traces) m =
      λ m b. subst (λ (ts : List Trace). There (head + length (traces_lines front done)) (drop k sections) ts m) (sym left)
      (subst (λ (xs : List Section). There (head + length (traces_lines front done)) xs (t ∷ drop (k + 1) traces) m) (sym back) (subst (λ (i : ℕ). There i (s ∷ drop (k + 1) sections) (t ∷ drop (k + 1) traces) m) e b)) in
      let whole : (m : ℕ) → There head (front ++ drop k sections) (done ++ drop k traces) m → There head sections traces m =
      λ m b. subst (λ (xs : List Section). There head xs traces m) (take-append-drop k sections) (subst (λ (ts : List Trace). There head (front ++ drop k sections) ts m) (take-append-drop k traces) b) in
      let parts : (m : ℕ) → There head sections traces m → There head (front ++ drop k sections) (done ++ drop k traces) m =
      λ m b. subst (λ (ts : List Trace). There head (front ++ drop k sections) ts m) (sym (take-append-drop k traces)) (subst (λ (xs : List Section). There head xs traces m) (sym (take-append-drop k sections)) b) in
      record {
        blamed = whole n (blamed-later settings journal sections traces head front (drop k sections) done (drop k traces) n long (of_rest n (inl h.blamed)));
        least = λ m b. elim (blamed-apart settings journal sections traces head front (drop k sections) done (drop k traces) m long (parts m b)) [
          | inl before ↦ absurd (none_before head front done m walked before)
          | inr behind ↦ least-in_first settings journal sections traces line s (drop (k + 1) sections) t (drop (k + 1) traces) n rest h.blamed h.least m (to_rest m behind)
        ];
      }
