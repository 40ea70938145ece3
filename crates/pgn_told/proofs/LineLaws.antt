-- Two traces with the same messages, line by line.
use Rattle.std.proofs.Common.{◌≡◌, ℕ, ◌+◌, List, [], ◌∷◌, ◌++◌, map, Option, Some, None, inl, inr, sym, ap, ◌∙◌, refl, subst, append_assoc}
use Rattle.std.specs.Prelude.{All, flat_map, ◌⊎◌}
use Rattle.std.proofs.lemmas.List.{append_cancel_left}
use Rattle.std.proofs.lemmas.List.Concat.{flat_map-append}
use Rattle.std.proofs.lemmas.List.Elements.{All-nil, All-head, All-tail, All-append}
use Rattle.pgn_base.specs.declared.limits.TheConstants.{PID_BASE}
use Rattle.pgn_base.specs.declared.note.Delivery.{Delivery}
use Rattle.pgn_base.specs.declared.command.Command.{Command}
use Rattle.pgn_journal.specs.declared.tx.Tx.{Tx}
use Rattle.pgn_answers.specs.declared.block_state.BlockState.{BlockState}
use Rattle.pgn_language.specs.declared.scenario.Act.{Act}
use Rattle.pgn_language.specs.declared.scenario.Act.TheVariants.{Run, Quit}
use Rattle.pgn_language.specs.declared.scenario.ScriptLine.{ScriptLine}
use Rattle.pgn_model.specs.declared.item.Item.{Item}
use Rattle.pgn_model.specs.declared.item.Item.TheVariants.{Line, Leave, Read}
use Rattle.pgn_model.specs.Walk.{Owed, Nothing, Quitting, IsNext, State, Terms, after_item, at_act, at_leave, at_line, quitting}
use Rattle.pgn_messages.specs.Server.{notification, ready, state_letter, four}
use Rattle.pgn_messages.specs.Messages.{act_command, first_message, line_begins, messages_from, next_command}
use Rattle.pgn_messages.proofs.RestLaws.{line-leaves}
use Rattle.pgn_told.specs.Told.{IsQuery, Seen, received, seen}
use Rattle.pgn_told.proofs.ByteLaws.{IsTold, told-all}
use Rattle.pgn_told.proofs.FitLaws.{Fits, IsOwed, fits, query-owes, quit-owes}
use Rattle.pgn_told.proofs.KnownLaws.{IsKnown}
use Rattle.pgn_told.proofs.PlainLaws.{line-like, owed-like, plain, read-like, rest-like}
use Rattle.pgn_told.proofs.StageLaws.{AreAlike, Goes, Tells, goes-on, more-alike, owed-tells, sent}

-- the first of the items begins a line, if there is one
abbrev pub Stops : List Item → Type 0
Stops [] = Unit {0}
Stops (Line n ∷ items) = Unit {0}
Stops (item ∷ items) = ⊥

-- the messages of items that stop, behind ReadyForQuery
abbrev pub tail_messages : State → List Item → List ℕ
tail_messages s [] = []
tail_messages s (item ∷ items) = line_begins (next_command s.rest) ++ messages_from (at_line s s.rest) (next_command s.rest) items

stop-messages : (c : Command) (s : State) (items : List Item) → Stops items → messages_from s (Some c) items ≡ ready s.block ++ tail_messages s items
stop-messages c s [] h = sym (append-none (ready s.block))
  where
    append-none : (xs : List ℕ) → xs ++ [] ≡ xs
    append-none [] = refl
    append-none (x ∷ xs) = ap (λ (t : List ℕ). x ∷ t) (append-none xs)
stop-messages c s (Line n ∷ items) h = append_assoc (ready s.block) (line_begins (next_command s.rest)) (messages_from (at_line s s.rest) (next_command s.rest) items)
stop-messages c s (item ∷ items) h = absurd h

-- what ReadyForQuery has behind its letter
abbrev ready_tail : BlockState → List ℕ
ready_tail state = four 5 ++ state_letter state ∷ []

module _ (terms : Terms) (journal : List Tx) where
  abbrev Told : Delivery → Type 0
  Told = IsTold (PID_BASE + terms.section.no)

  -- the reads behind a query, and what follows them
  record HasRead (c : Command) (s : State) (items : List Item) : Type 0 where
    got : List Delivery
    behind : List Item
    state : State
    goes : Goes terms journal state behind
    stops : Stops behind
    like : plain state ≡ plain s
    told : All Told got
    messages : messages_from s (Some c) items ≡ flat_map notification got ++ messages_from state (Some c) behind
    shown : seen items ≡ map received got ++ seen behind
    did : sent items ≡ sent behind

  no-read : (c : Command) (s : State) (items : List Item) → Stops items → Goes terms journal s items → HasRead c s items
  no-read c s items h g = record { got = []; behind = items; state = s; goes = g; stops = h; like = refl; told = All-nil Told; messages = refl; shown = refl; did = refl }

  one-read : (c : Command) (s : State) (from to : ℕ) (got : List Delivery) (items : List Item) → Goes terms journal s (Read from to got ∷ items) → HasRead c (after_item s (Read from to got)) items → HasRead c s (Read from to got ∷ items)
  one-read c s from to got items g h =
      record {
        got = got ++ h.got;
        behind = h.behind;
        state = h.state;
        goes = h.goes;
        stops = h.stops;
        like = h.like ∙ read-like s from to got g.lawful.0.from_mark;
        told = All-append Told got h.got (All-head (IsKnown terms) (Read from to got) items g.known) h.told;
        messages =
            ap (λ (m : List ℕ). flat_map notification got ++ m) h.messages ∙ sym (append_assoc (flat_map notification got) (flat_map notification h.got) (messages_from h.state (Some c) h.behind))
            ∙ ap (λ (m : List ℕ). m ++ messages_from h.state (Some c) h.behind) (sym (flat_map-append notification got h.got));
        shown =
            ap (λ (l : List Seen). map received got ++ l) h.shown ∙ sym (append_assoc (map received got) (map received h.got) (seen h.behind))
            ∙ ap (λ (l : List Seen). l ++ seen h.behind) (sym (map-append got h.got));
        did = h.did;
      }
    where
      map-append : (ds es : List Delivery) → map received (ds ++ es) ≡ map received ds ++ map received es
      map-append [] es = refl
      map-append (d ∷ ds) es = ap (λ (l : List Seen). received d ∷ l) (map-append ds es)

  reads : (c : Command) (s : State) (items : List Item) → s.owed ≡ Nothing → Goes terms journal s items → HasRead c s items
  reads c s [] owed g = no-read c s [] tt g
  reads c s (x ∷ items) owed g = by (subst (λ (o : Owed). Fits o x) owed (fits terms journal s x g.lawful.0)) (λ t. reads c (after_item s x) items t (goes-on terms journal s x items g)) g
    where
      by : Fits Nothing x → ((after_item s x).owed ≡ Nothing → HasRead c (after_item s x) items) → Goes terms journal s (x ∷ items) → HasRead c s (x ∷ items)
      by (inl (n, e)) later =
          subst (λ (i : Item). Goes terms journal s (i ∷ items) → HasRead c s (i ∷ items)) (sym e) (λ h. no-read c s (Line n ∷ items) tt h)
      by (inr (from, to, got, e)) later =
          let there : HasRead c (after_item s (Read from to got)) items = subst (λ (i : Item). HasRead c (after_item s i) items) e (later (ap (λ (i : Item). (after_item s i).owed) e ∙ owed)) in
          subst (λ (i : Item). Goes terms journal s (i ∷ items) → HasRead c s (i ∷ items)) (sym e) (λ h. one-read c s from to got items h there)

  -- Behind the `\quit` nothing is seen.

  none-left : (s : State) (items : List Item) → s.owed ≡ Nothing → s.rest ≡ [] → s.mark ≡ None → Goes terms journal s items → items ≡ []
  none-left s [] owed rest mark g = refl
  none-left s (x ∷ items) owed rest mark g = absurd (by (subst (λ (o : Owed). Fits o x) owed (fits terms journal s x g.lawful.0)) g)
    where
      by : Fits Nothing x → Goes terms journal s (x ∷ items) → ⊥
      by (inl (n, e)) h = let line : Goes terms journal s (Line n ∷ items) = subst (λ (i : Item). Goes terms journal s (i ∷ items)) e h in subst (IsNext n) rest line.lawful.0.next
      by (inr (from, to, got, e)) h =
          let read : Goes terms journal s (Read from to got ∷ items) = subst (λ (i : Item). Goes terms journal s (i ∷ items)) e h in
          let some : None ≡ Some from = sym mark ∙ read.lawful.0.from_mark in
          cc

  quit-silent : (s : State) (items : List Item) → s.rest ≡ [] → (s.owed ≡ Quitting) ⊎ ((s.owed ≡ Nothing) × (s.mark ≡ None)) → Goes terms journal s items → (seen items ≡ []) × (sent items ≡ [])
  quit-silent s items rest (inr (owed, mark)) g =
      let none : items ≡ [] = none-left s items owed rest mark g in
      (ap seen none, ap sent none)
  quit-silent s [] rest (inl owed) g = (refl, refl)
  quit-silent s (x ∷ items) rest (inl owed) g =
      let e : x ≡ Leave = subst (λ (o : Owed). Fits o x) owed (fits terms journal s x g.lawful.0) in
      let left : Goes terms journal s (Leave ∷ items) = subst (λ (i : Item). Goes terms journal s (i ∷ items)) e g in
      let before : State = record s { mark = None } in
      let after : after_item s Leave ≡ record before { owed = Nothing } = ap (λ (o : Owed). at_leave before o) owed in
      let none : items ≡ [] =
      none-left (after_item s Leave) items (ap (λ (t : State). t.owed) after) (ap (λ (t : State). t.rest) after ∙ rest) (ap (λ (t : State). t.mark) after) (goes-on terms journal s Leave items left) in
      (ap (λ (i : Item). seen (i ∷ items)) e ∙ ap seen none, ap (λ (i : Item). sent (i ∷ items)) e ∙ ap sent none)

module _ (terms : Terms) (journal other : List Tx) where
  -- from states that are the same but for their numbers, with these lines to come: items that stop, with the same messages, are alike
  abbrev LineTells : List ScriptLine → Type 0
  LineTells lines = (s t : State) (xs ys : List Item) → s.rest ≡ lines → s.owed ≡ Nothing → plain s ≡ plain t → Goes terms journal s xs → Goes terms other t ys → Stops xs → Stops ys
      → tail_messages s xs ≡ tail_messages t ys → AreAlike xs ys

  -- behind the answer to a query come reads, and then ReadyForQuery
  behind-tells : (c : Command) (lines : List ScriptLine) → LineTells lines → Tells terms journal other lines (Some c) Nothing
  behind-tells c lines next s t xs ys rest owed like g h e =
      let one = reads terms journal c s xs owed g in
      let two = reads terms other c t ys (owed-like s t like ∙ owed) h in
      let states : plain one.state ≡ plain two.state = one.like ∙ like ∙ sym two.like in
      let blocks : one.state.block ≡ two.state.block = ap (λ (u : State). u.block) states in
      let tail : List ℕ = ready_tail one.state.block ++ tail_messages one.state one.behind in
      let tail' : List ℕ = ready_tail two.state.block ++ tail_messages two.state two.behind in
      let whole : flat_map notification one.got ++ 90 ∷ tail ≡ flat_map notification two.got ++ 90 ∷ tail' =
      ap (λ (m : List ℕ). flat_map notification one.got ++ m) (sym (stop-messages c one.state one.behind one.stops)) ∙ sym one.messages ∙ e ∙ two.messages
      ∙ ap (λ (m : List ℕ). flat_map notification two.got ++ m) (stop-messages c two.state two.behind two.stops) in
      let got = told-all (PID_BASE + terms.section.no) one.got two.got tail tail' one.told two.told whole in
      let tails : tail_messages one.state one.behind ≡ tail_messages two.state two.behind =
      append_cancel_left (ready one.state.block) (tail_messages one.state one.behind) (tail_messages two.state two.behind)
      (got.1 ∙ ap (λ (b : BlockState). ready b ++ tail_messages two.state two.behind) (sym blocks)) in
      let alike = next one.state two.state one.behind two.behind (ap (λ (u : State). u.rest) one.like ∙ rest) (ap (λ (u : State). u.owed) one.like ∙ owed) states one.goes two.goes one.stops two.stops tails in
      record {
        seen_same = one.shown ∙ ap (λ (l : List Seen). l ++ seen one.behind) got.0 ∙ ap (λ (l : List Seen). map received two.got ++ l) alike.seen_same ∙ sym two.shown;
        sent_same = one.did ∙ alike.sent_same ∙ sym two.did;
      }

  -- a line is to come
  unended : (line : List Tx) (s : State) (first : ScriptLine) (lines : List ScriptLine) → s.rest ≡ first ∷ lines → Goes terms line s [] → ⊥
  unended line s first lines e g = let none : first ∷ lines ≡ [] = sym e ∙ g.ended.done in cc

  -- a line of each
  module _ (line : ScriptLine) (lines : List ScriptLine) (s t : State) (n m : ℕ) (xs ys : List Item) (rest : s.rest ≡ line ∷ lines) (owed : s.owed ≡ Nothing) (like : plain s ≡ plain t)
      (g : Goes terms journal s (Line n ∷ xs)) (h : Goes terms other t (Line m ∷ ys)) where
    abbrev u : State
    u = at_line s s.rest

    abbrev v : State
    v = at_line t t.rest

    rest_too : t.rest ≡ line ∷ lines
    rest_too = rest-like s t like ∙ rest

    -- that runs a command
    run-tells : (c : Command) → line.act ≡ Run c → Tells terms journal other lines (Some c) Nothing → tail_messages s (Line n ∷ xs) ≡ tail_messages t (Line m ∷ ys) → AreAlike (Line n ∷ xs) (Line m ∷ ys)
    run-tells c does next e =
        let one : next_command s.rest ≡ Some c = ap next_command rest ∙ ap act_command does in
        let two : next_command t.rest ≡ Some c = ap next_command rest_too ∙ ap act_command does in
        let behind : List ℕ = messages_from u (Some c) xs in
        let behind' : List ℕ = messages_from v (Some c) ys in
        let whole : first_message c ++ behind ≡ first_message c ++ behind' =
        ap (λ (d : Option Command). line_begins d ++ messages_from u d xs) (sym one) ∙ e ∙ ap (λ (d : Option Command). line_begins d ++ messages_from v d ys) two in
        let owes : IsOwed u.owed =
        subst (λ (ls : List ScriptLine). IsOwed (at_line s ls).owed) (sym rest) (subst (λ (act : Act). IsOwed (at_act (record s { rest = lines }) act).owed) (sym does) (query-owes (record s { rest = lines }) c owed)) in
        more-alike (Line n) (Line m) xs ys refl refl
        (owed-tells terms journal other c lines next u.owed owes u v xs ys (line-leaves s s.rest lines line rest) refl (line-like s t like line lines rest) (goes-on terms journal s (Line n) xs g) (goes-on terms other t (Line m) ys h)
        (append_cancel_left (first_message c) behind behind' whole))

    -- that quits
    quit-tells : line.act ≡ Quit → lines ≡ [] → AreAlike (Line n ∷ xs) (Line m ∷ ys)
    quit-tells does none =
        let w : State = record s { rest = lines } in
        let w' : State = record t { rest = lines } in
        let quits : u ≡ quitting w = ap (λ (ls : List ScriptLine). at_line s ls) rest ∙ ap (λ (act : Act). at_act w act) does in
        let quits' : v ≡ quitting w' = ap (λ (ls : List ScriptLine). at_line t ls) rest_too ∙ ap (λ (act : Act). at_act w' act) does in
        let owed_too : t.owed ≡ Nothing = owed-like s t like ∙ owed in
        let one = quit-silent terms journal u xs (line-leaves s s.rest lines line rest ∙ none)
        (subst (λ (z : State). (z.owed ≡ Quitting) ⊎ ((z.owed ≡ Nothing) × (z.mark ≡ None))) (sym quits) (quit-owes w owed)) (goes-on terms journal s (Line n) xs g) in
        let two = quit-silent terms other v ys (line-leaves t t.rest lines line rest_too ∙ none)
        (subst (λ (z : State). (z.owed ≡ Quitting) ⊎ ((z.owed ≡ Nothing) × (z.mark ≡ None))) (sym quits') (quit-owes w' owed_too)) (goes-on terms other t (Line m) ys h) in
        record { seen_same = one.0 ∙ sym two.0; sent_same = one.1 ∙ sym two.1 }

  -- the lines of queries, and then a `\quit`
  pub lines-tell : (lines : List ScriptLine) (last : ScriptLine) → All IsQuery lines → last.act ≡ Quit → LineTells (lines ++ last ∷ [])
  lines-tell [] last run quits s t [] ys rest owed like g h stops stops' e = absurd (unended journal s last [] rest g)
  lines-tell [] last run quits s t (Line n ∷ xs) [] rest owed like g h stops stops' e = absurd (unended other t last [] (rest-like s t like ∙ rest) h)
  lines-tell [] last run quits s t (Line n ∷ xs) (Line m ∷ ys) rest owed like g h stops stops' e = quit-tells last [] s t n m xs ys rest owed like g h quits refl
  lines-tell [] last run quits s t (Line n ∷ xs) (y ∷ ys) rest owed like g h stops stops' e = absurd stops'
  lines-tell [] last run quits s t (x ∷ xs) ys rest owed like g h stops stops' e = absurd stops
  lines-tell (line ∷ lines) last run quits s t [] ys rest owed like g h stops stops' e = absurd (unended journal s line (lines ++ last ∷ []) rest g)
  lines-tell (line ∷ lines) last run quits s t (Line n ∷ xs) [] rest owed like g h stops stops' e = absurd (unended other t line (lines ++ last ∷ []) (rest-like s t like ∙ rest) h)
  lines-tell (line ∷ lines) last run quits s t (Line n ∷ xs) (Line m ∷ ys) rest owed like g h stops stops' e =
      let query : IsQuery line = All-head IsQuery line lines run in
      run-tells line (lines ++ last ∷ []) s t n m xs ys rest owed like g h query.0 query.1 (behind-tells query.0 (lines ++ last ∷ []) (lines-tell lines last (All-tail IsQuery line lines run) quits)) e
  lines-tell (line ∷ lines) last run quits s t (Line n ∷ xs) (y ∷ ys) rest owed like g h stops stops' e = absurd stops'
  lines-tell (line ∷ lines) last run quits s t (x ∷ xs) ys rest owed like g h stops stops' e = absurd stops
