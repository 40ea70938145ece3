-- Two runs of one scenario, and why some texts are those of none.
use Rattle.std.proofs.Common.{◌≡◌, ◌≢◌, ℕ, ◌^◌, ◌<◌, ◌≤◌, List, [], ◌∷◌, ◌++◌, length, map, get_or, fold, Option, None, Some, codes, decimal, sym, ap, ◌∙◌, refl, subst, arith, rules}
use Rattle.std.specs.Prelude.{All, flat_map}
use Rattle.std.specs.Fmt.{digits}
use Rattle.std.proofs.lemmas.List.{append_cancel_left}
use Rattle.std.proofs.lemmas.List.Elements.{All-nil, All-cons}
use Rattle.std.proofs.lemmas.Option.{same_Some}
use Rattle.pgn_base.specs.Notes.{IsNote}
use Rattle.pgn_base.specs.declared.answers.Tag.TheVariants as tag
use Rattle.pgn_base.specs.declared.note.Delivery.{Delivery}
use Rattle.pgn_journal.specs.declared.tx.Tx.{Tx}
use Rattle.pgn_journal.specs.Journal.{next_xid}
use Rattle.pgn_journal.specs.Due.{due, is_due_to}
use Rattle.pgn_journal.specs.Near.{Near}
use Rattle.pgn_journal.proofs.PlainNotes.{plain-note}
use Rattle.pgn_journal.proofs.NearLaws.{near-itself}
use Rattle.pgn_language.specs.declared.scenario.ScriptLine.{ScriptLine}
use Rattle.pgn_language.specs.Inputs.{IsOneLine, IsOneLineAct, IsSoundSection, IsSound}
use Rattle.pgn_model.specs.declared.item.Item.{Item}
use Rattle.pgn_model.specs.declared.item.Item.TheVariants.{Line, Enlist, Reply, Read}
use Rattle.pgn_model.specs.declared.trace.Trace.{Trace}
use Rattle.pgn_model.specs.Walk.{Settings, Terms, State, start, after_item, Allowed}
use Rattle.pgn_model.specs.Legal.{Legal}
use Rattle.pgn_model.specs.Text.{joined, text, journal_lines, item_lines, delivery_line, section_line, trace_lines, traces_lines}
use Rattle.pgn_model.specs.Trace.{TraceOk, IsLawful}
use Rattle.pgn_model.specs.Walk.{default_settings}
use Rattle.pgn_model.proofs.WalkLaws.{lawful-prefix}
use Rattle.pgn_unique.proofs.JournalLines.{joined-append, joined-cons, in-four, journal-unique}
use Rattle.pgn_unique.proofs.ItemKinds.{at-end, ended}
use Rattle.pgn_unique.proofs.ItemLines.{IsKnown, known}
use Rattle.pgn_reading.proofs.FieldLaws.{field, line-feed}
use Rattle.pgn_reading.proofs.LineLaws.{kind}
use Rattle.pgn_reading.proofs.OneLineLaws.{one-line}
use Rattle.pgn_unique.proofs.TraceLines.{spelled, lines-apart, front-same, Along-back, trace-spelled}
use Rattle.pgn_unique.proofs.ShortLaws.{legal-has_journal}
use Rattle.pgn_unique.proofs.TextLaws.{legal-known, text-unique, no_text-begins}
use Rattle.pgn_unique.specs.Examples.{cut_in_a_trace, cut_before_the_end, missed_text, sent, listener, sender, side_by_side, one_sent, listens_from, received_items, receives, misses, sends, received_text, changed_text, IsTextOfNone}

-- a script of one line
only : (line : ScriptLine) (lines : List ScriptLine) → lines ≡ line ∷ [] → IsOneLine line.text → IsOneLineAct line.act → All (λ l. IsOneLine l.text × IsOneLineAct l.act) lines
only line lines e h k = subst (λ (ls : List ScriptLine). All (λ l. IsOneLine l.text × IsOneLineAct l.act) ls) (sym e) (All-cons (λ l. IsOneLine l.text × IsOneLineAct l.act) line [] (h, k) (All-nil (λ l. IsOneLine l.text × IsOneLineAct l.act)))

listener-sound : IsSoundSection 0 listener
listener-sound = record {
  flags_known = search rules;
  rising = search rules;
  quits_last = search rules;
  counted = refl;
  one_line_name = one-line listener.name refl;
  one_line_texts = only _ listener.lines refl (one-line (codes "LISTEN c") refl) (one-line (codes "c") refl);
}

sender-sound : IsSoundSection 0 sender
sender-sound = record {
  flags_known = search rules;
  rising = search rules;
  quits_last = search rules;
  counted = refl;
  one_line_name = one-line sender.name refl;
  one_line_texts = only _ sender.lines refl (one-line (codes "NOTIFY c, 'x'") refl) (one-line (codes "c") refl, one-line (codes "x") refl);
}

-- the scenario of the example is sound
pub sound : IsSound side_by_side
sound = record {
  some = omega arith;
  few = omega arith;
  numbered = (refl, (refl, tt));
  few_flags = omega arith;
  one_line_flags = All-nil IsOneLine;
  sections = All-cons (IsSoundSection 0) listener (sender ∷ []) listener-sound (All-cons (IsSoundSection 0) sender [] sender-sound (All-nil (IsSoundSection 0)));
  few_note_lines = omega arith;
}

-- the run in which the notification is received, and that in which it is missed
sent-valid : All IsNote (sent ∷ [])
sent-valid = All-cons IsNote sent [] (plain-note sent refl refl (omega arith) (omega arith) (omega arith)) (All-nil IsNote)

-- the listener has read everything that it was told of
none-left : (settings : Settings) → Near settings.format (is_due_to listener.db (codes "c" ∷ [])) one_sent 4 4
none-left settings = near-itself settings.format (is_due_to listener.db (codes "c" ∷ [])) one_sent 4 4 (omega arith)

-- the run in which the listener receives the notification is legal
pub received-legal : (settings : Settings) → Legal side_by_side settings one_sent (receives ∷ sends ∷ [])
received-legal settings =
    let valid : All IsNote (sent ∷ []) = sent-valid in
    let near : Near settings.format (is_due_to listener.db (codes "c" ∷ [])) one_sent 4 4 = none-left settings in
    search rules

-- so is the run in which it misses it
pub missed-legal : (settings : Settings) → Legal side_by_side settings one_sent (misses ∷ sends ∷ [])
missed-legal settings =
    let valid : All IsNote (sent ∷ []) = sent-valid in
    let near : Near settings.format (is_due_to listener.db (codes "c" ∷ [])) one_sent 4 4 = none-left settings in
    search rules

-- the text of the run in which the notification is received
pub received-shown : text side_by_side one_sent (receives ∷ sends ∷ []) ≡ received_text
unfolding digits
received-shown = refl

-- the text of the run in which it is missed
pub missed-shown : text side_by_side one_sent (misses ∷ sends ∷ []) ≡ missed_text
unfolding digits
missed-shown = refl

-- one text would be that of one run
pub two-texts : received_text ≢ missed_text
two-texts e =
    let same = text-unique side_by_side default_settings one_sent one_sent (receives ∷ sends ∷ []) (misses ∷ sends ∷ []) sound (received-legal default_settings) (missed-legal default_settings) (received-shown ∙ e ∙ sym missed-shown) in
    let items : 4 ≡ 3 = ap (λ (traces : List Trace). length (get_or traces 0 sends).items) same.1 in
    omega (arith, items)

-- a text that goes on to that of a run is that of none
begins-none : (settings : Settings) (bytes : List ℕ) (b : ℕ) (rest : List ℕ) → bytes ++ b ∷ rest ≡ received_text → IsTextOfNone side_by_side settings bytes
begins-none settings bytes b rest whole journal traces legal e =
    let none : b ∷ rest ≡ [] =
    no_text-begins side_by_side settings journal one_sent traces (receives ∷ sends ∷ []) (b ∷ rest) sound legal (received-legal settings) (ap (λ (bs : List ℕ). bs ++ b ∷ rest) e ∙ whole ∙ sym received-shown) in
    let never : ⊥ = cc in
    never

-- a text that is cut before a row of a trace is that of no run
pub cut-in_a_trace : (settings : Settings) → IsTextOfNone side_by_side settings cut_in_a_trace
cut-in_a_trace settings = begins-none settings cut_in_a_trace 32 (codes " 3 1002 \"c\", 'x'\nend mark 4\nsession 2 b db 1 pid 1002\n> NOTIFY c, 'x'\n+publish 3\nNOTIFY\nend\n") refl

-- nor is one that lacks its last line
pub cut-before_the_end : (settings : Settings) → IsTextOfNone side_by_side settings cut_before_the_end
cut-before_the_end settings = begins-none settings cut_before_the_end 101 (codes "nd\n") refl

-- the changed text from the row of the changed notification on
changed_rows : List ℕ
changed_rows = codes "  3 1002 \"c\", 'y'\nend mark 4\nsession 2 b db 1 pid 1002\n> NOTIFY c, 'x'\n+publish 3\nNOTIFY\nend\n"

-- from the read on
changed_rest : List ℕ
changed_rest = codes "+read " ++ (decimal 3 ++ (codes " " ++ (decimal 4 ++ 10 ∷ changed_rows)))

-- from the listener's section on
changed_section : List ℕ
changed_section = section_line listener ++ 10 ∷ spelled listener.lines (listens_from 3) changed_rest

changed-spelled : changed_text ≡ joined (journal_lines one_sent) ++ changed_section
unfolding digits changed_rows changed_rest changed_section
changed-spelled = refl

module _ (settings : Settings) where
  abbrev terms : Terms
  terms = record { section = listener; settings = settings }

  abbrev answered : State
  answered = fold after_item (start listener) (listens_from 3)

  -- no item that is allowed after the listener's answer has the changed rows
  no-such_item : (item : Item) (more : List ℕ) → kind item ≡ 1114 → Allowed terms one_sent answered item → IsKnown terms one_sent item → changed_rest ≡ joined (item_lines listener.lines item) ++ more → ⊥
  unfolding digits changed_rows changed_rest
  no-such_item (Read from to got) more k h known_of e =
      let rows : List ℕ = joined (map delivery_line got) ++ more in
      let read : codes "+read " ++ (decimal 3 ++ (codes " " ++ (decimal 4 ++ 10 ∷ changed_rows))) ≡ codes "+read " ++ (decimal from ++ (codes " " ++ (decimal to ++ 10 ∷ rows))) =
      e ∙ joined-cons (codes "+read " ++ decimal from ++ codes " " ++ decimal to) (map delivery_line got) more ∙ in-four (codes "+read ") (decimal from) (codes " ") (decimal to) (10 ∷ rows) in
      let from_three : 3 ≡ from = same_Some 3 from h.from_mark in
      let at_to : codes " " ++ (decimal 4 ++ 10 ∷ changed_rows) ≡ codes " " ++ (decimal to ++ 10 ∷ rows) = known (codes "+read ") 3 from (codes " " ++ (decimal 4 ++ 10 ∷ changed_rows)) (codes " " ++ (decimal to ++ 10 ∷ rows)) from_three read in
      let few : to ≤ 4 = known_of.shown.1 in
      let tos = field (codes " ") 4 to (10 ∷ changed_rows) (10 ∷ rows) (omega arith) (omega (arith, few)) (line-feed changed_rows) (line-feed rows) at_to in
      let due_here : got ≡ due one_sent 3 4 1 (codes "c" ∷ []) =
      h.received ∙ ap (λ (n : ℕ). due one_sent n to 1 (codes "c" ∷ [])) (sym from_three) ∙ ap (λ (n : ℕ). due one_sent 3 n 1 (codes "c" ∷ [])) (sym tos.0) in
      let after : changed_rows ≡ joined (map delivery_line (due one_sent 3 4 1 (codes "c" ∷ []))) ++ more =
      append_cancel_left (10 ∷ []) changed_rows rows tos.1 ∙ ap (λ (ds : List Delivery). joined (map delivery_line ds) ++ more) due_here in
      let payload : 121 ≡ 120 = ap (λ (bytes : List ℕ). get_or bytes 15 0) after in
      omega (arith, payload)
  no-such_item item more k h known_of e = absurd (omega (arith, k))

  front-known : All (IsKnown terms one_sent) (listens_from 3)
  front-known =
      let Known : Item → Type 0 = IsKnown terms one_sent in
      let reply : Item = Reply tag.Listen None in
      let enlist : Item = Enlist 3 3 in
      let nothing : Known reply = record { shown = tt; full = tt; held = tt } in
      All-cons Known (Line 2) (enlist ∷ reply ∷ []) (record { shown = tt; full = tt; held = tt })
      (All-cons Known enlist (reply ∷ []) (record { shown = (omega arith, omega arith); full = tt; held = tt }) (All-cons Known reply [] nothing (All-nil Known)))

  first-of_end : (last : Option ℕ) (more : List ℕ) → get_or (ended last more) 0 0 ≡ 101
  first-of_end None more = refl
  first-of_end (Some mark) more = refl

  first-of_rest : get_or changed_rest 0 0 ≡ 43
  unfolding changed_rest
  first-of_rest = refl

  no-such_trace : (trace : Trace) (more : List ℕ) → next_xid one_sent < 2 ^ 64 → TraceOk terms trace one_sent → All (IsKnown terms one_sent) trace.items → spelled listener.lines (listens_from 3) changed_rest ≡ spelled listener.lines trace.items (ended trace.last more) → ⊥
  no-such_trace trace more few ok items_known e =
      let legal : Legal side_by_side settings one_sent (receives ∷ sends ∷ []) = received-legal settings in
      let on = front-same terms one_sent few (start listener) (listens_from 3) trace.items trace.last trace.last changed_rest more
      (lawful-prefix terms one_sent (listens_from 3) received_items legal.lawful.0.lawful) ok.lawful ok.ended front-known items_known e in
      by on.tail on.whole on.follows
    where
      by : (tail : List Item) → trace.items ≡ listens_from 3 ++ tail → changed_rest ≡ spelled listener.lines tail (ended trace.last more) → ⊥
      by [] whole follows =
          let apart : 43 ≡ 101 = sym first-of_rest ∙ ap (λ (bytes : List ℕ). get_or bytes 0 0) follows ∙ first-of_end trace.last more in
          omega (arith, apart)
      by (item ∷ tail) whole follows =
          let back = Along-back terms one_sent few (start listener) (listens_from 3) (item ∷ tail) (subst (λ (items : List Item). IsLawful terms one_sent items) whole ok.lawful) in
          let item_known : IsKnown terms one_sent item = (subst (λ (items : List Item). All (IsKnown terms one_sent) items) whole items_known) 3 item (omega arith) in
          no-such_item item (spelled listener.lines tail (ended trace.last more)) (at-end terms one_sent answered item refl refl back.0) back.0 item_known
          (follows ∙ lines-apart (item_lines listener.lines item) (flat_map (item_lines listener.lines) tail) (ended trace.last more))

  no-such_traces : (traces : List Trace) → Legal side_by_side settings one_sent traces → joined (traces_lines side_by_side.sections traces) ≡ changed_section → ⊥
  unfolding changed_section
  no-such_traces [] legal e = legal.lawful
  no-such_traces (trace ∷ traces) legal e =
      let few : next_xid one_sent < 2 ^ 64 = omega arith in
      let more : List ℕ = joined (traces_lines (sender ∷ []) traces) in
      let both : section_line listener ++ 10 ∷ spelled listener.lines (listens_from 3) changed_rest ≡ section_line listener ++ 10 ∷ spelled listener.lines trace.items (ended trace.last more) =
      sym e ∙ joined-append (trace_lines listener trace) (traces_lines (sender ∷ []) traces) ∙ trace-spelled terms one_sent few trace more in
      no-such_trace trace more few legal.lawful.0 (legal-known side_by_side settings one_sent (trace ∷ traces) sound legal).0
      (append_cancel_left (10 ∷ []) _ _ (append_cancel_left (section_line listener) _ _ both))

-- nor is one whose row shows another payload than the journal
pub changed-none : (settings : Settings) → IsTextOfNone side_by_side settings changed_text
changed-none settings journal traces legal e =
    let one = journal-unique side_by_side journal one_sent (joined (traces_lines side_by_side.sections traces)) changed_section sound (legal-has_journal side_by_side settings journal traces sound legal)
    (legal-has_journal side_by_side settings one_sent (receives ∷ sends ∷ []) sound (received-legal settings))
    (sym (joined-append (journal_lines journal) (traces_lines side_by_side.sections traces)) ∙ e ∙ changed-spelled) in
    no-such_traces settings traces (subst (λ (txs : List Tx). Legal side_by_side settings txs traces) one.0 legal) one.1
