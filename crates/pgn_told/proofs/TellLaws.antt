-- The messages of a run tell what its client saw, and what the journal has.
use Rattle.std.proofs.Common.{◌≡◌, ℕ, ◌*◌, ◌^◌, ◌<◌, ◌≤◌, ◌==◌, ◌||◌, Bool, true, false, List, [], ◌∷◌, map, get_or, Some, None, inl, inr, slice_get, sym, ap, ◌∙◌, refl, subst, arith, eqb-true}
use Rattle.std.specs.Prelude.{All}
use Rattle.std.proofs.Math.Nat.{div-le_self}
use Rattle.std.proofs.lemmas.List.Elements.{All-head}
use Rattle.pgn_base.specs.declared.limits.TheConstants.{FIRST_XID, NOTE_LINES_MAX}
use Rattle.pgn_base.specs.declared.queue_answers.Usage.{Usage}
use Rattle.pgn_journal.specs.declared.tx.Tx.{Tx}
use Rattle.pgn_journal.specs.Packing.{page_cells, page_of, place}
use Rattle.pgn_journal.proofs.PackingLemmas.{place_bound}
use Rattle.pgn_language.specs.declared.scenario.Section.{Section}
use Rattle.pgn_language.specs.Inputs.{note_lines_of}
use Rattle.pgn_model.specs.declared.item.Item.{Item}
use Rattle.pgn_model.specs.declared.item.Item.TheVariants.{Line, Used, Read}
use Rattle.pgn_model.specs.declared.trace.Trace.{Trace}
use Rattle.pgn_model.specs.Walk.{Allowed, Nothing, Settings, State, Terms, start}
use Rattle.pgn_model.specs.Trace.{TraceOk}
use Rattle.pgn_model.specs.Legal.{Legal}
use Rattle.pgn_reading.specs.Merged.{IsShownIn}
use Rattle.pgn_reading.proofs.MergedLaws.{legal-shows_journal}
use Rattle.pgn_unique.proofs.SpentLaws.{items-spend}
use Rattle.pgn_messages.specs.Messages.{messages}
use Rattle.pgn_told.specs.Laws.{MessagesTell, alone}
use Rattle.pgn_told.specs.Told.{but_queued}
use Rattle.pgn_told.proofs.EntryLaws.{entry_of, journal-shown, notes_in, notes-shown}
use Rattle.pgn_told.proofs.FitLaws.{Fits, fits}
use Rattle.pgn_told.proofs.KnownLaws.{IsTellable, items-known}
use Rattle.pgn_told.proofs.LineLaws.{Stops, lines-tell, tail_messages}
use Rattle.pgn_told.proofs.StageLaws.{Goes, sent}

-- a legal run of one section
module _ (section : Section) (settings : Settings) (journal : List Tx) (trace : Trace) (legal : Legal (alone section) settings journal (trace ∷ [])) where
  abbrev terms : Terms
  terms = record { section = section; settings = settings }

  lawful : TraceOk terms trace journal
  lawful = legal.lawful.0

  -- each transaction is the session's
  own : All (λ tx. tx.session ≡ section.no) journal
  own k d lt = by (section.no == (get_or journal k d).session) refl (legal.named k d lt)
    where
      by : (b : Bool) → (section.no == (get_or journal k d).session) ≡ b → (b || false) ≡ true → (get_or journal k d).session ≡ section.no
      by true e h = sym (eqb-true section.no (get_or journal k d).session e)
      by false e h = absurd (let no : ⊥ = cc in no)

  tellable : All (IsTellable section.no) journal
  tellable k d lt = record { by = own k d lt; notes = (legal.finished k d lt).valid }

  -- the trace shows the journal
  pub shows : map but_queued journal ≡ map (entry_of section.no section.db) (sent trace.items)
  shows =
      let shown : All (IsShownIn journal trace.session trace.db) trace.items = All-head (λ t. All (IsShownIn journal t.session t.db) t.items) trace [] (legal-shows_journal (alone section) settings journal (trace ∷ []) legal).shown in
      journal-shown section.no section.db journal FIRST_XID journal trace.items (λ k. ap (λ (n : ℕ). slice_get journal n) (omega arith)) own legal.own.0
      (subst (λ (n : ℕ). All (IsShownIn journal n section.db) trace.items) lawful.session (subst (λ (n : ℕ). All (IsShownIn journal trace.session n) trace.items) lawful.database shown))

  -- so a usage is not too great
  module _ (few : note_lines_of section.lines ≤ NOTE_LINES_MAX) where
    few-notes : notes_in journal ≤ NOTE_LINES_MAX
    few-notes = omega (arith, few, notes-shown section.no section.db journal trace.items shows, items-spend terms journal (start section) trace.items lawful.lawful)

    short : (usage : Usage) (s : State) → Allowed terms journal s (Used usage) → usage.occupied < 2 ^ 64
    short usage s h =
        let at : ℕ = place settings.format journal usage.at in
        let most : at ≤ 4096 * notes_in journal = place_bound settings.format journal usage.at legal.finished in
        let page : page_of at ≤ at = div-le_self at page_cells in
        omega (arith, h.shown.in_use, most, page, few-notes)

    pub goes : Goes terms journal (start section) trace.items
    goes = record { lawful = lawful.lawful; last = trace.last; ended = lawful.ended; known = items-known terms journal tellable short (start section) trace.items lawful.lawful }

-- a trace begins by a line
module _ (terms : Terms) (journal : List Tx) where
  begins-by_line : (items : List Item) → Goes terms journal (start terms.section) items → Stops items
  begins-by_line [] g = tt
  begins-by_line (x ∷ items) g = by (fits terms journal (start terms.section) x g.lawful.0) g
    where
      by : Fits Nothing x → Goes terms journal (start terms.section) (x ∷ items) → Stops (x ∷ items)
      by (inl (n, e)) h = subst (λ (i : Item). Stops (i ∷ items)) (sym e) tt
      by (inr (from, to, got, e)) h =
          let read : Goes terms journal (start terms.section) (Read from to got ∷ items) = subst (λ (i : Item). Goes terms journal (start terms.section) (i ∷ items)) e h in
          absurd (let none : None ≡ Some from = read.lawful.0.from_mark in let no : ⊥ = cc in no)

  -- its messages are those from its first line on
  start-messages : (items : List Item) → Stops items → messages terms.section items ≡ tail_messages (start terms.section) items
  start-messages [] h = refl
  start-messages (Line n ∷ items) h = refl
  start-messages (item ∷ items) h = absurd h

-- two runs of a client's queries with the same messages: it saw the same of both, and their journals are the same, but for what was queued
pub messages-tell : MessagesTell
messages-tell section settings journal other a b asks few legal legal' e =
    let at_start : State = start section in
    let terms : Terms = record { section = section; settings = settings } in
    let g = goes section settings journal a legal few in
    let h = goes section settings other b legal' few in
    let stops = begins-by_line terms journal a.items g in
    let stops' = begins-by_line terms other b.items h in
    let alike = lines-tell terms journal other asks.queries asks.last asks.run asks.quits at_start at_start a.items b.items asks.split refl refl g h stops stops'
    (sym (start-messages terms journal a.items stops) ∙ e ∙ start-messages terms other b.items stops') in
    (alike.seen_same, shows section settings journal a legal ∙ ap (λ pairs. map (entry_of section.no section.db) pairs) alike.sent_same ∙ sym (shows section settings other b legal'))
