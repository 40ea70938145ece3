-- Where the lines lie that are to blame, and why the first blame that is met is the least.
use Rattle.std.proofs.Common.{◌≡◌, ℕ, ◌+◌, ◌<◌, ◌≤◌, ◌⊎◌, inl, inr, List, [], ◌∷◌, ◌++◌, length, None, Some, sym, ap, ◌∙◌, refl, subst, arith, append_assoc, append-nil}
use Rattle.std.specs.Prelude.{All, flat_map}
use Rattle.std.proofs.Math.Seq.{get_or-append_seam}
use Rattle.std.proofs.lemmas.List.{append_cancel_left, length-append, length-map}
use Rattle.std.proofs.lemmas.List.Concat.{flat_map-append}
use Rattle.pgn_base.specs.declared.limits.TheConstants.{FIRST_XID}
use Rattle.pgn_journal.specs.declared.tx.Tx.{Tx}
use Rattle.pgn_language.specs.declared.scenario.ScriptLine.{ScriptLine}
use Rattle.pgn_language.specs.declared.scenario.Section.{Section}
use Rattle.pgn_language.specs.declared.scenario.Scenario.{Scenario}
use Rattle.pgn_model.specs.declared.item.Item.{Item}
use Rattle.pgn_model.specs.declared.item.Item.TheVariants.{Line, Reply, Channels}
use Rattle.pgn_model.specs.declared.trace.Trace.{Trace}
use Rattle.pgn_model.specs.Along.{Along}
use Rattle.pgn_model.specs.Walk.{Settings, Terms, State, start, after_item, Allowed}
use Rattle.pgn_model.specs.Trace.{IsUpToDate, IsFreshAt}
use Rattle.pgn_model.specs.Text.{note_line, entry_lines, entries_lines, journal_lines, item_lines, end_line, trace_lines, traces_lines, text_lines}
use Rattle.pgn_reading.specs.Completed.{ready, whole, walked, completed}
use Rattle.pgn_reading.specs.Form.{IsReadItem, IsReadTrace, EachSection, BeginOutput, Broken, Short, BreaksForm, whole_lines}
use Rattle.pgn_reading.specs.Blame.{IsGoodTx, BlamesEntry, BadEntry, Comes, line_after, last_line, IsAtRest, IsWhole, BlamesTrace, Refused, LeftOut, NotNext, Unfounded, LeftOutLast, Unfinished, BlamesTraces, Blames, InForm, InEntry, InTrace}
use Rattle.pgn_reading.specs.BlameLaws.{IsSpotless, AreSpotless, SpotlessFirst, SpotlessOn, BlamedWithin, BlamedFromBefore, BlamedFromItem, BlamedFromLast, BlamedFromEnd, NothingBlamed, BlamedBehind, LeastInFirst, BlamedApart, BlamedLater, EntryWithin, EntryFrom, NoEntryBlamed, ReadingHasForm, LeastInForm, LeastInJournal, LeastInTraces}
use Rattle.pgn_reading.proofs.ComesLaws.{along-read}
use Rattle.pgn_reading.proofs.GoesOnLaws.{begins-shorter}
use Rattle.pgn_reading.proofs.ReadableLaws.{readable-has_lines, readable-is_one}

-- Lists that are cut at one element.

-- two cuts of one list: the second front goes on from the first, or ends before it
cuts : {A : Type 0} (xs ys : List A) (x y : A) (rest more : List A) → xs ++ x ∷ rest ≡ ys ++ y ∷ more → ((front : List A) × (ys ≡ xs ++ front)) ⊎ ((back : List A) × (xs ≡ ys ++ y ∷ back))
cuts [] ys x y rest more e = inl (ys, refl)
cuts (a ∷ xs) [] x y rest more e = let first : a ≡ y = cc in inr (xs, cc)
cuts (a ∷ xs) (b ∷ ys) x y rest more e =
    let first : a ≡ b = cc in
    let tail : xs ++ x ∷ rest ≡ ys ++ y ∷ more = cc in
    by (cuts xs ys x y rest more tail) first
  where
    by : ((front : List _) × (ys ≡ xs ++ front)) ⊎ ((back : List _) × (xs ≡ ys ++ y ∷ back)) → a ≡ b → ((front : List _) × (b ∷ ys ≡ a ∷ xs ++ front)) ⊎ ((back : List _) × (a ∷ xs ≡ b ∷ ys ++ y ∷ back))
    by (inl h) first = let tail : ys ≡ xs ++ h.0 = h.1 in inl (h.0, cc)
    by (inr h) first = let tail : xs ≡ ys ++ y ∷ h.0 = h.1 in inr (h.0, cc)

-- an element of all
pub there : {A : Type 0} (P : A → Type 0) (xs before after : List A) (x : A) → xs ≡ before ++ x ∷ after → All P xs → P x
there P xs before after x e h =
    let all : All P (before ++ x ∷ after) = subst (λ (ys : List _). All P ys) e h in
    subst P (get_or-append_seam before x after x) (all (length before) x (omega (arith, length-append before (x ∷ after))))

-- The lines of items.

-- an item that is read has a line
some-line : (lines : List ScriptLine) (item : Item) → IsReadItem item → 1 ≤ length (item_lines lines item)
some-line lines (Channels []) h = absurd (h.0 refl)
some-line lines (Channels (name ∷ names)) h = omega arith
some-line lines (Reply done None) h = omega arith
some-line lines (Reply done (Some warning)) h = omega arith
some-line lines item h = omega arith

-- how many lines items have
abbrev lines_of_items : List ScriptLine → List Item → ℕ
lines_of_items lines items = length (flat_map (item_lines lines) items)

both-lines : (lines : List ScriptLine) (front back : List Item) → lines_of_items lines (front ++ back) ≡ lines_of_items lines front + lines_of_items lines back
both-lines lines front back =
    ap (λ (all : List (List ℕ)). length all) (flat_map-append (item_lines lines) front back) ∙ length-append (flat_map (item_lines lines) front) (flat_map (item_lines lines) back)

cons-lines : (lines : List ScriptLine) (item : Item) (items : List Item) → lines_of_items lines (item ∷ items) ≡ length (item_lines lines item) + lines_of_items lines items
cons-lines lines item items = length-append (item_lines lines item) (flat_map (item_lines lines) items)

module _ (terms : Terms) (journal : List Tx) (sections : List Section) (traces : List Trace) where
  abbrev lines : List ScriptLine
  lines = terms.section.lines

  abbrev Spotless : List Item → Type 0
  Spotless items = AreSpotless terms journal sections traces items

  -- the walk comes to one state
  one-state : (before : List Item) (s t : State) → Comes terms journal before s → Comes terms journal before t → s ≡ t
  one-state before s t h k = sym h.state ∙ k.state

  -- the walk has come past an item, so that it was allowed
  was-allowed : (items before after : List Item) (item : Item) (s t : State) → items ≡ before ++ item ∷ after → Comes terms journal items s → Comes terms journal before t → Allowed terms journal (ready t) (whole t item)
  was-allowed items before after item s t e h k =
      let P : State → Item → Type 0 = Allowed terms journal in
      let first : State = start terms.section in
      subst (λ (u : State). P (ready u) (whole u item)) k.state (along-read P first before after item (subst (λ (is : List Item). Along after_item P first (completed first is)) e h.lawful))

  module _ (head : ℕ) (trace : Trace) where
    abbrev Blamed : ℕ → Type 0
    Blamed n = BlamesTrace terms journal sections traces head trace n

    -- what is to blame of an item, of one before which the walk has come past these
    module _ (before after : List Item) (item : Item) (s : State) (split : trace.items ≡ before ++ item ∷ after) (h : Comes terms journal before s) (clear : Spotless before) where
      -- the items before a blame go on from these, or one of these is to blame
      from_cut : (front back : List Item) (other : Item) → trace.items ≡ front ++ other ∷ back → ((rest : List Item) → before ≡ front ++ other ∷ rest → ⊥) → (more : List Item) × (front ≡ before ++ more)
      from_cut front back other e never = by (cuts before front item other after back (sym split ∙ e))
        where
          by : ((more : List Item) × (front ≡ before ++ more)) ⊎ ((rest : List Item) × (before ≡ front ++ other ∷ rest)) → (more : List Item) × (front ≡ before ++ more)
          by (inl k) = k
          by (inr k) = absurd (never k.0 k.1)

      -- as many lines
      no_fewer : (front : List Item) → (more : List Item) × (front ≡ before ++ more) → lines_of_items lines before ≤ lines_of_items lines front
      no_fewer front k = omega (arith, ap (λ (is : List Item). lines_of_items lines is) k.1, both-lines lines before k.0)

      whole_no_fewer : lines_of_items lines before + length (item_lines lines item) ≤ lines_of_items lines trace.items
      whole_no_fewer = omega (arith, ap (λ (is : List Item). lines_of_items lines is) split, both-lines lines before (item ∷ after), cons-lines lines item after)

      refused-later : (front back : List Item) (other : Item) (t : State) → trace.items ≡ front ++ other ∷ back → Comes terms journal front t → (Allowed terms journal (ready t) (whole t other) → ⊥) → (more : List Item) × (front ≡ before ++ more)
      refused-later front back other t e k wrong = from_cut front back other e (λ rest is. wrong (was-allowed before front rest other s t is h k))

      unclear-later : (front back : List Item) (other : Item) (t : State) → trace.items ≡ front ++ other ∷ back → Comes terms journal front t → (IsSpotless terms journal sections traces front t other → ⊥) → (more : List Item) × (front ≡ before ++ more)
      unclear-later front back other t e k wrong = from_cut front back other e (λ rest is. wrong (clear front rest other t is k))

      from-before : (n : ℕ) → Blamed n → last_line head terms.section before ≤ n
      from-before n (Refused front back other t e k wrong) = omega (arith, no_fewer front (refused-later front back other t e k wrong))
      from-before n (LeftOut front back other t e k wrong) = omega (arith, no_fewer front (unclear-later front back other t e k (λ clean. wrong clean.fresh)))
      from-before n (NotNext front back other t e k wrong) = omega (arith, no_fewer front (unclear-later front back other t e k (λ clean. wrong clean.next)))
      from-before n (Unfounded front back other t e k wrong) = omega (arith, no_fewer front (unclear-later front back other t e k (λ clean. wrong clean.borne_out)))
      from-before n (LeftOutLast t k rest wrong) = omega (arith, whole_no_fewer)
      from-before n (Unfinished t k wrong) = omega (arith, whole_no_fewer)

      from-item : (n : ℕ) → IsReadTrace terms.section trace → IsFreshAt terms journal (ready s) item → Blamed n → line_after head terms.section before ≤ n
      from-item n read fresh (Refused front back other t e k wrong) = omega (arith, no_fewer front (refused-later front back other t e k wrong))
      from-item n read fresh (LeftOut front back other t e k wrong) = by later.0 later.1
        where
          later : (more : List Item) × (front ≡ before ++ more)
          later = unclear-later front back other t e k (λ clean. wrong clean.fresh)

          by : (more : List Item) → front ≡ before ++ more → line_after head terms.section before ≤ last_line head terms.section front
          by [] is =
              let same : front ≡ before = is ∙ append-nil before in
              let cut : front ++ other ∷ back ≡ front ++ item ∷ after = sym e ∙ split ∙ ap (λ (is : List Item). is ++ item ∷ after) (sym same) in
              let one : other ≡ item = get_or_first front other item back after cut in
              let state : s ≡ t = one-state before s t h (subst (λ (is : List Item). Comes terms journal is t) same k) in
              absurd (wrong (subst (λ (i : Item). IsFreshAt terms journal (ready t) i) (sym one) (subst (λ (u : State). IsFreshAt terms journal (ready u) item) state fresh)))
            where
              get_or_first : (front : List Item) (a b : Item) (xs ys : List Item) → front ++ a ∷ xs ≡ front ++ b ∷ ys → a ≡ b
              get_or_first [] a b xs ys e = cc
              get_or_first (i ∷ front) a b xs ys e = get_or_first front a b xs ys (let tail : front ++ a ∷ xs ≡ front ++ b ∷ ys = cc in tail)
          by (first ∷ more) is =
              let whole_of : trace.items ≡ before ++ first ∷ (more ++ other ∷ back) = e ∙ ap (λ (is : List Item). is ++ other ∷ back) is ∙ append_assoc before (first ∷ more) (other ∷ back) in
              let some : 1 ≤ length (item_lines lines first) = some-line lines first (there IsReadItem trace.items before (more ++ other ∷ back) first whole_of read.items) in
              omega (arith, some, ap (λ (is : List Item). lines_of_items lines is) is, both-lines lines before (first ∷ more), cons-lines lines first more)
      from-item n read fresh (NotNext front back other t e k wrong) = omega (arith, no_fewer front (unclear-later front back other t e k (λ clean. wrong clean.next)))
      from-item n read fresh (Unfounded front back other t e k wrong) = omega (arith, no_fewer front (unclear-later front back other t e k (λ clean. wrong clean.borne_out)))
      from-item n read fresh (LeftOutLast t k rest wrong) = omega (arith, whole_no_fewer, some-line lines item (there IsReadItem trace.items before after item split read.items))
      from-item n read fresh (Unfinished t k wrong) = omega (arith, whole_no_fewer)

    -- what is to blame where the walk has come past all items
    module _ (s : State) (h : Comes terms journal trace.items s) (clear : Spotless trace.items) where
      from-last : (n : ℕ) → Blamed n → last_line head terms.section trace.items ≤ n
      from-last n (Refused front back other t e k wrong) = absurd (wrong (was-allowed trace.items front back other s t e h k))
      from-last n (LeftOut front back other t e k wrong) = absurd (wrong (clear front back other t e k).fresh)
      from-last n (NotNext front back other t e k wrong) = absurd (wrong (clear front back other t e k).next)
      from-last n (Unfounded front back other t e k wrong) = absurd (wrong (clear front back other t e k).borne_out)
      from-last n (LeftOutLast t k rest wrong) = omega arith
      from-last n (Unfinished t k wrong) = omega arith

      from-end : (IsAtRest s → IsUpToDate terms journal s) → (n : ℕ) → Blamed n → line_after head terms.section trace.items ≤ n
      from-end fresh n (Refused front back other t e k wrong) = absurd (wrong (was-allowed trace.items front back other s t e h k))
      from-end fresh n (LeftOut front back other t e k wrong) = absurd (wrong (clear front back other t e k).fresh)
      from-end fresh n (NotNext front back other t e k wrong) = absurd (wrong (clear front back other t e k).next)
      from-end fresh n (Unfounded front back other t e k wrong) = absurd (wrong (clear front back other t e k).borne_out)
      from-end fresh n (LeftOutLast t k rest wrong) =
          let same : s ≡ t = one-state trace.items s t h k in
          absurd (wrong (subst (λ (u : State). IsUpToDate terms journal u) same (fresh (subst IsAtRest (sym same) rest))))
      from-end fresh n (Unfinished t k wrong) = omega arith

    -- Where the lines lie.

    fresh-start : (item : Item) → IsFreshAt terms journal (ready (start terms.section)) item
    fresh-start (Line n) = λ idle. record { up_to_date = tt; read_first = λ reads. tt }
    fresh-start item = tt

    trace-length : length (trace_lines terms.section trace) ≡ lines_of_items lines trace.items + 2
    trace-length = omega (arith, length-append (flat_map (item_lines lines) trace.items) (end_line trace.last ∷ []))

    within-lines : (front back : List Item) (other : Item) → trace.items ≡ front ++ other ∷ back → lines_of_items lines front ≤ lines_of_items lines trace.items
    within-lines front back other e = omega (arith, ap (λ (is : List Item). lines_of_items lines is) e, both-lines lines front (other ∷ back))

    some-before : (front rest : List Item) (t : State) → All IsReadItem trace.items → trace.items ≡ front ++ rest → Comes terms journal front t → ((start terms.section ≡ t) → ⊥) → 1 ≤ lines_of_items lines front
    some-before [] rest t read e k late = absurd (late k.state)
    some-before (first ∷ front) rest t read e k late =
        omega (arith, some-line lines first (there IsReadItem trace.items [] (front ++ rest) first e read), cons-lines lines first front)

    within : (n : ℕ) → IsReadTrace terms.section trace → Blamed n → (head < n) × (n < head + length (trace_lines terms.section trace))
    within n read (Refused front back other t e k wrong) = (omega arith, omega (arith, trace-length, within-lines front back other e))
    within n read (LeftOut front back other t e k wrong) =
        let some : 1 ≤ lines_of_items lines front = some-before front (other ∷ back) t read.items e k (λ is. wrong (subst (λ (u : State). IsFreshAt terms journal (ready u) other) is (fresh-start other))) in
        (omega (arith, some), omega (arith, trace-length, within-lines front back other e))
    within n read (NotNext front back other t e k wrong) = (omega arith, omega (arith, trace-length, within-lines front back other e))
    within n read (Unfounded front back other t e k wrong) = (omega arith, omega (arith, trace-length, within-lines front back other e))
    within n read (LeftOutLast t k rest wrong) =
        let some : 1 ≤ lines_of_items lines trace.items = some-before trace.items [] t read.items (sym (append-nil trace.items)) k (λ is. wrong (subst (λ (u : State). IsUpToDate terms journal u) is tt)) in
        (omega (arith, some), omega (arith, trace-length))
    within n read (Unfinished t k wrong) = (omega arith, omega (arith, trace-length))

-- of no items each is spotless
pub spotless-first : SpotlessFirst
spotless-first terms journal sections traces [] after item s e h = absurd (let none : ⊥ = cc in none)
spotless-first terms journal sections traces (other ∷ before) after item s e h = absurd (let none : ⊥ = cc in none)

-- items that are spotless, and one more that is
pub spotless-on : SpotlessOn
spotless-on terms journal sections traces before item s h clear good front back other t e k = by (cuts before front item other [] back e)
  where
    last : (more : List Item) → front ≡ before ++ more → IsSpotless terms journal sections traces front t other
    last [] is =
        let same : front ≡ before = is ∙ append-nil before in
        let one : item ∷ [] ≡ other ∷ back = append_cancel_left front (item ∷ []) (other ∷ back) (ap (λ (is : List Item). is ++ item ∷ []) same ∙ e) in
        let first : item ≡ other = cc in
        let state : s ≡ t = sym h.state ∙ ap (λ (is : List Item). walked (start terms.section) is) (sym same) ∙ k.state in
        subst (λ (i : Item). IsSpotless terms journal sections traces front t i) first
        (subst (λ (u : State). IsSpotless terms journal sections traces front u item) state (subst (λ (is : List Item). IsSpotless terms journal sections traces is s item) (sym same) good))
    last (first ∷ more) is =
        let whole : before ++ item ∷ [] ≡ before ++ (first ∷ (more ++ other ∷ back)) = e ∙ ap (λ (is : List Item). is ++ other ∷ back) is ∙ append_assoc before (first ∷ more) (other ∷ back) in
        let tail : item ∷ [] ≡ first ∷ (more ++ other ∷ back) = append_cancel_left before (item ∷ []) (first ∷ (more ++ other ∷ back)) whole in
        let longer : length (item ∷ []) ≡ length (first ∷ (more ++ other ∷ back)) = ap (λ (is : List Item). length is) tail in
        absurd (omega (arith, longer, length-append more (other ∷ back)))

    by : ((more : List Item) × (front ≡ before ++ more)) ⊎ ((rest : List Item) × (before ≡ front ++ other ∷ rest)) → IsSpotless terms journal sections traces front t other
    by (inl h) = last h.0 h.1
    by (inr h) = clear front h.0 other t h.1 k

-- the lines to blame in a section lie behind its head and before its end
pub blamed-within : BlamedWithin
blamed-within terms journal sections traces head trace n read b = within terms journal sections traces head trace n read b

-- behind spotless items no line before their last one is to blame
pub blamed-from_before : BlamedFromBefore
blamed-from_before terms journal sections traces head trace before after item s n split h clear b = from-before terms journal sections traces head trace before after item s split h clear n b

-- nor is that one, where no read was left out behind them
pub blamed-from_item : BlamedFromItem
blamed-from_item terms journal sections traces head trace before after item s n read split h clear fresh b = from-item terms journal sections traces head trace before after item s split h clear n read fresh b

-- of a trace of spotless items no line before the last one is to blame
pub blamed-from_last : BlamedFromLast
blamed-from_last terms journal sections traces head trace s n h clear b = from-last terms journal sections traces head trace s h clear n b

-- nor is that one, where no read was left out at the end
pub blamed-from_end : BlamedFromEnd
blamed-from_end terms journal sections traces head trace s n h clear fresh b = from-end terms journal sections traces head trace s h clear fresh n b

-- a whole trace of spotless items that left no read out has no line to blame
pub nothing-blamed : NothingBlamed
nothing-blamed terms journal sections traces head trace s n h clear fresh done b = none n b
  where
    none : (n : ℕ) → BlamesTrace terms journal sections traces head trace n → ⊥
    none n (Refused front back other t e k wrong) = wrong (was-allowed terms journal sections traces trace.items front back other s t e h k)
    none n (LeftOut front back other t e k wrong) = wrong (clear front back other t e k).fresh
    none n (NotNext front back other t e k wrong) = wrong (clear front back other t e k).next
    none n (Unfounded front back other t e k wrong) = wrong (clear front back other t e k).borne_out
    none n (LeftOutLast t k rest wrong) =
        let same : s ≡ t = sym h.state ∙ k.state in
        wrong (subst (λ (u : State). IsUpToDate terms journal u) same (fresh (subst IsAtRest (sym same) rest)))
    none n (Unfinished t k wrong) = wrong (subst (λ (u : State). IsWhole terms.section journal trace u) (sym h.state ∙ k.state) done)

-- All sections.

module _ (settings : Settings) (journal : List Tx) (all : List Section) (all_traces : List Trace) where
  abbrev Among : ℕ → List Section → List Trace → ℕ → Type 0
  Among head sections traces n = BlamesTraces settings journal all all_traces head sections traces n

  abbrev terms_of : Section → Terms
  terms_of section = record { section = section; settings = settings }

  behind : (head : ℕ) (sections : List Section) (traces : List Trace) (n : ℕ) → EachSection IsReadTrace sections traces → Among head sections traces n → head < n
  behind head [] traces n read b = absurd b
  behind head (section ∷ sections) [] n read b = absurd b
  behind head (section ∷ sections) (trace ∷ traces) n read (inl b) = (within (terms_of section) journal all all_traces head trace n read.0 b).0
  behind head (section ∷ sections) (trace ∷ traces) n read (inr b) = omega (arith, behind (head + length (trace_lines section trace)) sections traces n read.1 b)

  apart : (head : ℕ) (front back : List Section) (done left : List Trace) (n : ℕ) → length front ≡ length done → Among head (front ++ back) (done ++ left) n
      → Among head front done n ⊎ Among (head + length (traces_lines front done)) back left n
  apart head [] back [] left n same b = inr (subst (λ (h : ℕ). Among h back left n) (omega arith) b)
  apart head [] back (trace ∷ done) left n same b = absurd (omega (arith, same))
  apart head (section ∷ front) back [] left n same b = absurd (omega (arith, same))
  apart head (section ∷ front) back (trace ∷ done) left n same (inl b) = inl (inl b)
  apart head (section ∷ front) back (trace ∷ done) left n same (inr b) = by (apart (head + length (trace_lines section trace)) front back done left n (omega (arith, same)) b)
    where
      by : Among (head + length (trace_lines section trace)) front done n ⊎ Among (head + length (trace_lines section trace) + length (traces_lines front done)) back left n
          → Among head (section ∷ front) (trace ∷ done) n ⊎ Among (head + length (traces_lines (section ∷ front) (trace ∷ done))) back left n
      by (inl k) = inl (inr k)
      by (inr k) = inr (subst (λ (h : ℕ). Among h back left n) (omega (arith, length-append (trace_lines section trace) (traces_lines front done))) k)

  later : (head : ℕ) (front back : List Section) (done left : List Trace) (n : ℕ) → length front ≡ length done → Among (head + length (traces_lines front done)) back left n → Among head (front ++ back) (done ++ left) n
  later head [] back [] left n same b = subst (λ (h : ℕ). Among h back left n) (omega arith) b
  later head [] back (trace ∷ done) left n same b = absurd (omega (arith, same))
  later head (section ∷ front) back [] left n same b = absurd (omega (arith, same))
  later head (section ∷ front) back (trace ∷ done) left n same b =
      inr (later (head + length (trace_lines section trace)) front back done left n (omega (arith, same))
      (subst (λ (h : ℕ). Among h back left n) (omega (arith, length-append (trace_lines section trace) (traces_lines front done))) b))

-- the lines to blame in sections lie behind the first one's head
pub blamed-behind : BlamedBehind
blamed-behind settings journal all all_traces head sections traces n read b = behind settings journal all all_traces head sections traces n read b

-- where the first section has a line to blame, the least of it is the least of all
pub least-in_first : LeastInFirst
least-in_first settings journal all all_traces head section sections trace traces n read b least m (inl k) = least m k
least-in_first settings journal all all_traces head section sections trace traces n read b least m (inr k) =
    let terms : Terms = record { section = section; settings = settings } in
    omega (arith, (within terms journal all all_traces head trace n read.0 b).1, behind settings journal all all_traces (head + length (trace_lines section trace)) sections traces m read.1 k)

-- a line to blame in sections is one of those in front or of those behind
pub blamed-apart : BlamedApart
blamed-apart settings journal all all_traces head front back done left n same b = apart settings journal all all_traces head front back done left n same b

-- a line to blame in the sections behind is one of all
pub blamed-later : BlamedLater
blamed-later settings journal all all_traces head front back done left n same b = later settings journal all all_traces head front back done left n same b

-- The journal.

-- how many lines transactions have
lines_of_txs : List Tx → ℕ
lines_of_txs [] = 0
lines_of_txs (tx ∷ txs) = 1 + length tx.notes + lines_of_txs txs

entries-length : (x : ℕ) (txs : List Tx) → length (entries_lines x txs) ≡ lines_of_txs txs
unfolding lines_of_txs
entries-length x [] = refl
entries-length x (tx ∷ txs) =
    omega (arith, length-append (entry_lines x tx) (entries_lines (x + 1) txs), length-map tx.notes note_line, entries-length (x + 1) txs)

txs-append : (front back : List Tx) → lines_of_txs (front ++ back) ≡ lines_of_txs front + lines_of_txs back
unfolding lines_of_txs
txs-append [] back = omega arith
txs-append (tx ∷ front) back = omega (arith, txs-append front back)

tx-lines : (tx : Tx) (txs : List Tx) → 1 ≤ lines_of_txs (tx ∷ txs)
unfolding lines_of_txs
tx-lines tx txs = omega arith

-- the lines to blame in a journal are its own, from the second one on
pub entry-within : EntryWithin
entry-within sections journal n (BadEntry before after tx e wrong) =
    (omega arith, omega (arith, entries-length FIRST_XID before, entries-length FIRST_XID journal, ap lines_of_txs e, txs-append before (tx ∷ after), tx-lines tx after))

-- no line of the good transactions in front of a journal is to blame
pub entry-from : EntryFrom
entry-from sections journal before after tx n split good (BadEntry front back other e wrong) = by (cuts before front tx other after back (sym split ∙ e))
  where
    by : ((more : List Tx) × (front ≡ before ++ more)) ⊎ ((rest : List Tx) × (before ≡ front ++ other ∷ rest)) → length (entries_lines FIRST_XID before) + 2 ≤ length (entries_lines FIRST_XID front) + 2
    by (inl h) = omega (arith, entries-length FIRST_XID before, entries-length FIRST_XID front, ap lines_of_txs h.1, txs-append before h.0)
    by (inr h) = absurd (wrong (there (IsGoodTx sections) before front h.0 other h.1 good))

-- a journal of good transactions has no line to blame
pub no_entry-blamed : NoEntryBlamed
no_entry-blamed sections journal n good (BadEntry before after tx e wrong) = wrong (there (IsGoodTx sections) journal before after tx e good)

-- The whole text.

-- a text that can be read breaks the form nowhere
pub reading-has_form : ReadingHasForm
reading-has_form scenario out journal traces n sound r b = by n b
  where
    cut : whole_lines out ≡ text_lines scenario journal traces
    cut = ap whole_lines (sym r.shown) ∙ readable-has_lines scenario journal traces sound r.readable

    by : (n : ℕ) → BreaksForm scenario out n → ⊥
    by n (Broken before rest line e begins wrong) =
        wrong (record { journal = journal; traces = traces; rest = rest; readable = r.readable; goes_on = sym cut ∙ e ∙ sym (append_assoc before (line ∷ []) rest) })
    by n (Short begins none) = none journal traces r

form-first : (scenario : Scenario) (out : List ℕ) (n m : ℕ) → BreaksForm scenario out n → BreaksForm scenario out m → n ≤ m
form-first scenario out n m (Broken before rest line e begins wrong) (Broken front back other e' begins' wrong') = by (cuts before front line other rest back (sym e ∙ e'))
  where
    by : ((more : List (List ℕ)) × (front ≡ before ++ more)) ⊎ ((tail : List (List ℕ)) × (before ≡ front ++ other ∷ tail)) → length before + 1 ≤ length front + 1
    by (inl h) = omega (arith, ap (λ (ls : List (List ℕ)). length ls) h.1, length-append before h.0)
    by (inr h) =
        absurd (wrong' (begins-shorter scenario (front ++ other ∷ []) h.0 (subst (λ (ls : List (List ℕ)). BeginOutput scenario ls) (h.1 ∙ sym (append_assoc front (other ∷ []) h.0)) begins)))
form-first scenario out n m (Broken before rest line e begins wrong) (Short begins' none) = omega (arith, ap (λ (ls : List (List ℕ)). length ls) e, length-append before (line ∷ rest))
form-first scenario out n m (Short begins none) (Broken front back other e' begins' wrong') =
    absurd (wrong' (begins-shorter scenario (front ++ other ∷ []) back (subst (λ (ls : List (List ℕ)). BeginOutput scenario ls) (e' ∙ sym (append_assoc front (other ∷ []) back)) begins)))
form-first scenario out n m (Short begins none) (Short begins' none') = omega arith

-- of a text that breaks the form the line that breaks it is to blame
pub least-in_form : LeastInForm
least-in_form scenario settings out n sound b = record { blamed = InForm n b; least = least }
  where
    least : (m : ℕ) → Blames scenario settings out m → n ≤ m
    least m (InForm k c) = form-first scenario out n m b c
    least m (InEntry k journal traces r c) = absurd (reading-has_form scenario out journal traces n sound r b)
    least m (InTrace k journal traces r c) = absurd (reading-has_form scenario out journal traces n sound r b)

-- of a text that is read the first transaction that is not good is to blame
pub least-in_journal : LeastInJournal
least-in_journal scenario settings out journal before after tx traces sound r split good wrong =
    let n : ℕ = length (entries_lines FIRST_XID before) + 2 in
    let bad : BlamesEntry scenario.sections journal n = BadEntry before after tx split wrong in
    record { blamed = InEntry n journal traces r bad; least = least bad }
  where
    least : BlamesEntry scenario.sections journal (length (entries_lines FIRST_XID before) + 2) → (m : ℕ) → Blames scenario settings out m → length (entries_lines FIRST_XID before) + 2 ≤ m
    least bad m (InForm k c) = absurd (reading-has_form scenario out journal traces m sound r c)
    least bad m (InEntry k other others q c) =
        let same = readable-is_one scenario other journal others traces sound q.readable r.readable (q.shown ∙ sym r.shown) in
        entry-from scenario.sections journal before after tx m split good (subst (λ (txs : List Tx). BlamesEntry scenario.sections txs m) same.0 c)
    least bad m (InTrace k other others q c) =
        let same = readable-is_one scenario other journal others traces sound q.readable r.readable (q.shown ∙ sym r.shown) in
        let lines : length (journal_lines other) ≡ length (journal_lines journal) = ap (λ (txs : List Tx). length (journal_lines txs)) same.0 in
        omega (arith, lines, (entry-within scenario.sections journal _ bad).1, behind settings other scenario.sections others (length (journal_lines other) + 1) scenario.sections others m q.readable.each c)

-- where all transactions are good, the least line to blame in the sections is to blame
pub least-in_traces : LeastInTraces
least-in_traces scenario settings out journal traces n sound r good b first = record { blamed = InTrace n journal traces r b; least = least }
  where
    least : (m : ℕ) → Blames scenario settings out m → n ≤ m
    least m (InForm k c) = absurd (reading-has_form scenario out journal traces m sound r c)
    least m (InEntry k other others q c) =
        let same = readable-is_one scenario other journal others traces sound q.readable r.readable (q.shown ∙ sym r.shown) in
        absurd (no_entry-blamed scenario.sections journal m good (subst (λ (txs : List Tx). BlamesEntry scenario.sections txs m) same.0 c))
    least m (InTrace k other others q c) =
        let same = readable-is_one scenario other journal others traces sound q.readable r.readable (q.shown ∙ sym r.shown) in
        let There : List Tx → List Trace → Type 0 = λ txs those. BlamesTraces settings txs scenario.sections those (length (journal_lines txs) + 1) scenario.sections those m in
        first m (subst (λ (those : List Trace). There journal those) same.1 (subst (λ (txs : List Tx). There txs others) same.0 c))
