-- A transaction from its number to its end, as the pass knows it.
use Rattle.std.proofs.Common.{Bool, ◌≡◌, ◌≢◌, ◌↔◌, ℕ, ◌+◌, ◌-◌, ◌^◌, ◌<◌, ◌≤◌, true, List, [], ◌∷◌, ◌++◌, length, slice_get, Option, Some, None, All, AllPairs, Contains, IsSomeAnd, sym, refl, ap, ◌∙◌, subst, arith}
use Rattle.std.proofs.lemmas.List.{append-nil, append_assoc, length-append}
use Rattle.std.proofs.lemmas.Bool.Decides.{nat_tests}
use Rattle.pgn_base.specs.declared.note.Note.{Note}
use Rattle.pgn_base.specs.declared.queue_answers.Full.{Full}
use Rattle.pgn_base.specs.Notes.{IsNote}
use Rattle.pgn_journal.specs.declared.tx.Tx.{Tx}
use Rattle.pgn_journal.specs.declared.tx.Fate.{Fate}
use Rattle.pgn_journal.specs.declared.tx.Fate.TheVariants.{Committed, Aborted}
use Rattle.pgn_hub.specs.declared.known.Known.{Known}
use Rattle.pgn_hub.specs.declared.known.Advance.{Advance}
use Rattle.pgn_journal.specs.Journal.{next_xid, entry, IsFinished}
use Rattle.pgn_journal.specs.Packing.{page_of, page_start, is_page_start, image, place, HasRoom}
use Rattle.pgn_journal.specs.Pieces.{draft}
use Rattle.pgn_journal.specs.QueueUse.{IsCutShort, NoPage}
use Rattle.pgn_hub.specs.Shape.{Shape}
use Rattle.pgn_journal.proofs.PackingLemmas.{room_of_image, last_place, places_agree}
use Rattle.pgn_hub.specs.Calls.{met_by, tx_of, IsFloor, LooksTwice, HasPublished, HasMetFull}
use Rattle.pgn_layout.specs.Batches.{IsPlaced}
use Rattle.pgn_layout.proofs.PlacingLaws.{placing_begins, placed_is_draft, placed_is_cut_short}
use Rattle.pgn_words.specs.declared.view.View.{View}
use Rattle.pgn_words.specs.declared.view.Verdict.{Verdict}
use Rattle.pgn_words.specs.Words.{seats_of}
use Rattle.pgn_words.specs.Views.{AreDecided}
use Rattle.pgn_words.specs.declared.view.Phase.TheVariants.{Signalling}
use Rattle.pgn_words.specs.Told.{MayEnd, ended_by, fin_stored, freed}
use Rattle.pgn_wordhub.specs.Placing.{writer_of, begun_view, IsPlacing, HasWritten, IsHeldUp}
use Rattle.pgn_wordhub.specs.Finishing.{own_tx, finished_view, HasCommitted, HasEnded}
use Rattle.pgn_wordhub.proofs.UsageLaws.{held_by_none}

-- a writer that has drawn its number begins at the head
pub begins : (z : Shape) (v d : View) (notes : List Note) (at stop : ℕ) → v.setup ≡ z → d ≡ begun_view notes stop v → All IsNote notes → at ≡ length (image z.format v.known.seen) → at < 2 ^ 32
    → length (image z.format v.known.seen) ≤ page_start (stop + z.pages) → IsPlacing d notes 0 at
begins z v d notes at stop setup begun valid is low ahead =
    let D : View = begun_view notes stop v in
    let before = image v.setup.format v.known.seen in
    let start : at ≡ length before = is ∙ ap (λ (q : Shape). length (image q.format v.known.seen)) (sym setup) in
    let pages : v.setup.pages ≡ z.pages = ap (λ (q : Shape). q.pages) setup in
    let none : IsPlaced v.setup.format (writer_of v.known) before notes 0 (length before) before = placing_begins v.setup.format (writer_of v.known) before notes in
    subst (λ (y : View). IsPlacing y notes 0 at) (sym begun) (record {
      phase = refl;
      notes_are = refl;
      valid = valid;
      fresh = refl;
      lies = subst (λ (n : ℕ). IsPlaced v.setup.format (writer_of v.known) before notes 0 n D.pen.cells) (sym start) none;
      end = start;
      room = subst (λ (n : ℕ). HasRoom v.setup.format n) (sym start) (room_of_image v.setup.format v.known.seen);
      low = low;
      within = omega (arith, is, ahead, pages);
    })

-- where no page is left, a page begins
starts : (at stop pages limit : ℕ) → at ≤ page_start (stop + pages) → pages ≡ limit → stop + limit ≤ page_of at → is_page_start at ≡ true
starts at stop pages limit within same none = grind (arith, nat_tests)

-- the transaction may end as committed, where all of it is placed
pub may_commit : (v : View) (notes : List Note) (placed at : ℕ) → IsPlacing v notes placed at → placed ≡ length notes → notes ≢ [] → AllPairs (λ a b. a ≢ b) notes → MayEnd v (own_tx v placed Committed)
may_commit v notes placed at h all some different =
    let session = v.known.session in
    let db = v.known.db in
    let lies = subst (λ (n : ℕ). IsPlaced v.setup.format (writer_of v.known) (image v.setup.format v.known.seen) notes n at v.pen.cells) all h.lies in
    let shown : image v.setup.format (v.known.seen ++ draft session db notes (length notes) Committed ∷ []) ≡ v.pen.cells = placed_is_draft.committed v.setup.format v.known.seen session db notes at v.pen.cells lies in record {
      none_stored = h.fresh;
      all_shown = sym (ap (λ (ns : List Note). image v.setup.format (v.known.seen ++ draft session db ns placed Committed ∷ [])) h.notes_are
          ∙ ap (λ (n : ℕ). image v.setup.format (v.known.seen ++ draft session db notes n Committed ∷ [])) all ∙ shown);
      finished = subst (λ (ns : List Note). IsFinished (draft session db ns placed Committed)) (sym h.notes_are) (record { some = some; valid = h.valid; different = different; queueing = all });
      full = λ aborted. absurd (cc);
    }

-- and as aborted, where no page is left
pub may_abort : (z : Shape) (d v : View) (notes : List Note) (placed at mark floor : ℕ) (holder : Option ℕ) → IsPlacing v notes placed at → IsHeldUp z d v (length notes) placed at mark floor holder → v.setup ≡ z
    → notes ≢ [] → AllPairs (λ a b. a ≢ b) notes → MayEnd v (own_tx v placed Aborted)
may_abort z d v notes placed at mark floor holder h held setup some different =
    let session = v.known.session in
    let db = v.known.db in
    let pages : v.setup.pages ≡ z.pages = ap (λ (q : Shape). q.pages) setup in
    let page = starts at v.stop v.setup.pages z.pages h.within pages held.no_page in
    let shown : image v.setup.format (v.known.seen ++ draft session db notes placed Aborted ∷ []) ≡ v.pen.cells = placed_is_draft.aborted v.setup.format v.known.seen session db notes placed at v.pen.cells h.valid h.lies page in
    let none = held.no_page in
    let end = h.end in record {
      none_stored = h.fresh;
      all_shown = sym (ap (λ (ns : List Note). image v.setup.format (v.known.seen ++ draft session db ns placed Aborted ∷ [])) h.notes_are ∙ shown);
      finished = subst (λ (ns : List Note). IsFinished (draft session db ns placed Aborted)) (sym h.notes_are) (record { some = some; valid = h.valid; different = different; queueing = held.left });
      full = λ _. record {
        second = held.second;
        all = held.all ∙ ap seats_of (sym setup);
        kept = held.kept;
        no_page = omega (arith, none, pages, end);
      };
    }

-- the head then stands behind the journal and the transaction
pub shown_end : (z : Shape) (v : View) (tx : Tx) (at : ℕ) → v.setup ≡ z → at ≡ length v.pen.cells → MayEnd v tx → at ≡ length (image z.format (v.known.seen ++ tx ∷ []))
shown_end z v tx at setup end ends = end ∙ ap length ends.all_shown ∙ ap (λ (q : Shape). length (image q.format (v.known.seen ++ tx ∷ []))) setup

-- what is known of a pass that has ended a transaction and gives the lock up
abbrev pub ended_known : Known → List Note → ℕ → Fate → ℕ → List (ℕ × ℕ) → Advance → Known
ended_known k notes queued fate x more advance = record k {
  seen = k.seen ++ tx_of k notes queued fate ∷ [];
  own = k.own ++ x ∷ [];
  told = x + 1;
  signalled = x + 1;
  notes_left = k.notes_left - length notes;
  named = k.named ++ more;
  advance = advance;
}

-- the pass as it has placed what it could
abbrev written_view : View → View → List Note → ℕ → List (ℕ × ℕ) → View
written_view v e notes stop more = let d : View = begun_view notes stop v in record d {
  stop = e.stop;
  eye = e.eye;
  pen = record d.pen { cells = e.pen.cells; batch = e.pen.batch };
  known = record d.known { named = d.known.named ++ more; advance = e.known.advance };
}

has_written : (v d e : View) (notes : List Note) (stop : ℕ) → d ≡ begun_view notes stop v → (w : HasWritten d e) → e ≡ written_view v e notes stop w.more
has_written v d e notes stop begun w =
    w.view ∙ ap (λ (y : View). let u : View = record y { stop = e.stop; eye = e.eye; pen = record y.pen { cells = e.pen.cells; batch = e.pen.batch }; known = record y.known { named = y.known.named ++ w.more; advance = e.known.advance } } in u) begun

finished_known : (fate : Fate) (v e : View) (notes : List Note) (stop placed x : ℕ) (more : List (ℕ × ℕ)) (verdicts : List Verdict) (concerned : List Bool) → e ≡ written_view v e notes stop more → x ≡ next_xid v.known.seen
    → (freed (finished_view (own_tx e placed fate) verdicts concerned e)).known ≡ ended_known v.known notes placed fate x more e.known.advance
finished_known fate v e notes stop placed x more verdicts concerned written number =
    ap (λ (y : View). (freed (finished_view (own_tx y placed fate) verdicts concerned y)).known) written ∙ ap (λ n. ended_known v.known notes placed fate n more e.known.advance) (sym number)

-- a transaction that committed is published
pub publishes : (v d e g : View) (notes : List Note) (stop placed x : ℕ) → d ≡ begun_view notes stop v → HasWritten d e → placed ≡ length notes → HasCommitted e g (own_tx e placed Committed) → x ≡ next_xid v.known.seen
    → HasPublished v.known (freed g).known notes x
publishes v d e g notes stop placed x begun written all done number =
    let k = v.known in
    let advance = g.known.advance in
    let F : View = finished_view (own_tx e placed Committed) g.verdicts g.concerned e in
    let known : (freed F).known ≡ ended_known k notes placed Committed x written.more e.known.advance = finished_known Committed v e notes stop placed x written.more g.verdicts g.concerned (has_written v d e notes stop begun written) number in record {
      more = [];
      named = written.more ++ done.named;
      advance = advance;
      number = number ∙ ap next_xid (sym (append-nil k.seen));
      known = ap (λ (y : View). (freed y).known) done.view
          ∙ ap (λ (y : Known). let u : Known = record y { named = y.named ++ done.named; advance = advance } in u) known
          ∙ ap (λ (l : List (ℕ × ℕ)). let u : Known = record (ended_known k notes placed Committed x written.more advance) { named = l } in u) (append_assoc k.named written.more done.named)
          ∙ ap (λ (n : ℕ). ended_known k notes n Committed x (written.more ++ done.named) advance) all
          ∙ ap (λ (txs : List Tx). let u : Known = record (ended_known k notes (length notes) Committed x (written.more ++ done.named) advance) { seen = txs ++ tx_of k notes (length notes) Committed ∷ [] } in u) (sym (append-nil k.seen));
    }

-- the last transaction of a journal
last_there : (seen : List Tx) (tx : Tx) → slice_get (seen ++ tx ∷ []) (length seen) ≡ Some tx
last_there [] tx = refl
last_there (first ∷ seen) tx = last_there seen tx

last_entry : (seen : List Tx) (tx : Tx) (x : ℕ) → x ≡ next_xid seen → entry (seen ++ tx ∷ []) x ≡ Some tx
last_entry seen tx x number = let index : x - 3 ≡ length seen = omega (arith, number) in ap (slice_get (seen ++ tx ∷ [])) index ∙ last_there seen tx

-- why the queue was full, by the journal with the transaction that was cut short
full_there : (z : Shape) (seen : List Tx) (session db : ℕ) (notes : List Note) (placed at mark floor stop x : ℕ) (holder : Option ℕ) (cells : List (Option ℕ)) (met : List (ℕ × ℕ)) → All IsNote notes
    → IsPlaced z.format (record { db = db; xid = next_xid seen; pid = 1000 + session }) (image z.format seen) notes placed at cells → at ≡ length cells → is_page_start at ≡ true → placed < length notes → x ≡ next_xid seen
    → IsFloor (next_xid seen) met mark holder → floor ≡ place z.format seen mark → page_of floor ≤ stop → stop + z.pages ≤ page_of at
    → NoPage z.format z.pages (seen ++ draft session db notes placed Aborted ∷ []) (record { xid = x; queued = placed; head_page = page_of at; floor_mark = mark; floor_page = page_of floor; holder = holder })
full_there z seen session db notes placed at mark floor stop x holder cells met valid lies end page left number is floor_is kept none =
    let tx : Tx = draft session db notes placed Aborted in
    let journal = seen ++ tx ∷ [] in
    let full : Full = record { xid = x; queued = placed; head_page = page_of at; floor_mark = mark; floor_page = page_of floor; holder = holder } in
    let below = is.below in
    let here : place z.format journal x ≡ length (image z.format seen) = places_agree z.format seen (tx ∷ []) x (omega (arith, number)) ∙ last_place z.format seen x (omega (arith, number)) in
    let cut : IsCutShort z.format (length (image z.format seen)) placed tx = placed_is_cut_short z.format (record { db = db; xid = next_xid seen; pid = 1000 + session }) (image z.format seen) session db notes placed at cells lies page left in
    let shown : image z.format journal ≡ cells = placed_is_draft.aborted z.format seen session db notes placed at cells valid lies page in
    let long : length journal ≡ length seen + 1 = length-append seen (tx ∷ []) in
    let head : place z.format journal (x + 1) ≡ at = last_place z.format journal (x + 1) (omega (arith, number, long)) ∙ ap length shown ∙ sym end in
    let there : place z.format journal mark ≡ floor = places_agree z.format seen (tx ∷ []) mark below ∙ sym floor_is in
    record {
      cut_short = subst (λ (o : Option Tx). IsSomeAnd o (IsCutShort z.format (place z.format journal x) placed)) (sym (last_entry seen tx x number)) (subst (λ (n : ℕ). IsCutShort z.format n placed tx) (sym here) cut);
      floor_below = omega (arith, below, number);
      floor = ap page_of (sym there);
      head = ap page_of (sym head);
      no_page = omega (arith, kept, none);
      holder = subst (λ (n : ℕ). (holder ≡ None) ↔ (mark ≡ n)) (sym number) (held_by_none (next_xid seen) mark met holder is.held);
    }

-- what a writer's looks have named, where that is known otherwise too
abbrev renamed : (d e : View) (more : List (ℕ × ℕ)) → e.known.named ≡ d.known.named ++ more → HasWritten d e → HasWritten d e
renamed d e more named w = record {
  more = more;
  view = w.view ∙ ap (λ (l : List (ℕ × ℕ)). let u : View = record d { stop = e.stop; eye = e.eye; pen = record d.pen { cells = e.pen.cells; batch = e.pen.batch }; known = record d.known { named = l; advance = e.known.advance } } in u)
      (sym (ap (λ (y : View). y.known.named) w.view) ∙ named);
}

-- a transaction that was aborted has met a full queue
pub meets_full : (z : Shape) (v d e g : View) (notes : List Note) (stop placed at mark floor x : ℕ) (holder : Option ℕ) (verdicts : List Verdict) (concerned : List Bool) → v.setup ≡ z → d ≡ begun_view notes stop v → HasWritten d e
    → IsPlacing e notes placed at → IsHeldUp z d e (length notes) placed at mark floor holder → g ≡ finished_view (own_tx e placed Aborted) verdicts concerned e → x ≡ next_xid v.known.seen
    → HasMetFull z v.known (freed g).known notes (record { xid = x; queued = placed; head_page = page_of at; floor_mark = mark; floor_page = page_of floor; holder = holder })
meets_full z v d e g notes stop placed at mark floor x holder verdicts concerned setup begun written h held done number =
    let k = v.known in
    let D : View = begun_view notes stop v in
    let u : IsHeldUp z D e (length notes) placed at mark floor holder = subst (λ (y : View). IsHeldUp z y e (length notes) placed at mark floor holder) begun held in
    let w : HasWritten D e = renamed D e u.more u.named_is (subst (λ (y : View). HasWritten y e) begun written) in
    let is : e ≡ written_view v e notes stop u.more = has_written v D e notes stop refl w in
    let seen : e.known.seen ≡ k.seen = ap (λ (y : View). y.known.seen) is in
    let session : e.known.session ≡ k.session = ap (λ (y : View). y.known.session) is in
    let db : e.known.db ≡ k.db = ap (λ (y : View). y.known.db) is in
    let here : e.setup ≡ z = ap (λ (y : View). y.setup) is ∙ setup in
    let pages : e.setup.pages ≡ z.pages = ap (λ (q : Shape). q.pages) here in
    let full : Full = record { xid = x; queued = placed; head_page = page_of at; floor_mark = mark; floor_page = page_of floor; holder = holder } in
    let known : (freed g).known ≡ ended_known k notes placed Aborted x u.more e.known.advance =
    ap (λ (y : View). (freed y).known) done ∙ finished_known Aborted v e notes stop placed x u.more verdicts concerned is number in
    let advance : (freed g).known.advance ≡ e.known.advance = ap (λ (y : Known). y.advance) known in
    let journal : (freed g).known.seen ≡ k.seen ++ tx_of k notes placed Aborted ∷ [] = ap (λ (y : Known). y.seen) known in
    let lies : IsPlaced z.format (writer_of k) (image z.format k.seen) notes placed at e.pen.cells =
    subst (λ (q : Shape). IsPlaced q.format (writer_of k) (image q.format k.seen) notes placed at e.pen.cells) here
    (subst (λ (y : Known). IsPlaced e.setup.format (writer_of y) (image e.setup.format y.seen) notes placed at e.pen.cells) (ap (λ (y : View). y.known) is) h.lies) in
    let page = starts at e.stop e.setup.pages z.pages h.within pages u.no_page in
    record {
      more = [];
      named = u.more;
      number = number ∙ ap next_xid (sym (append-nil k.seen));
      known = known ∙ ap (λ (a : Advance). ended_known k notes placed Aborted x u.more a) (sym advance)
          ∙ ap (λ (txs : List Tx). let l : Known = record (ended_known k notes placed Aborted x u.more (freed g).known.advance) { seen = txs ++ tx_of k notes placed Aborted ∷ [] } in l) (sym (append-nil k.seen));
      no_page = subst (λ (txs : List Tx). NoPage z.format z.pages txs full) (sym journal)
          (full_there z k.seen k.session k.db notes placed at mark floor e.stop x holder e.pen.cells (met_by e.known.advance) h.valid lies h.end page u.left number u.floor_is u.at_is u.floor_kept u.no_page);
      looked = subst (λ (a : Advance). LooksTwice z k.session k.mark a) (sym advance) u.looked;
      floor = subst (λ (a : Advance). IsFloor x (met_by a) mark holder) (sym advance) (subst (λ (n : ℕ). IsFloor n (met_by e.known.advance) mark holder) (sym number) u.floor_is);
      met = subst (λ (a : Advance). All (Contains u.more) (met_by a)) (sym advance) u.met;
    }

-- a transaction with notifications is one more than the journal has, among those that may be sent
pub one_more : (notes : List Note) (count left limit : ℕ) → notes ≢ [] → length notes ≤ left → count + left ≤ limit → count < limit
one_more [] count left limit some few room = absurd (some refl)
one_more (note ∷ notes) count left limit some few room = omega (arith, few, room)

-- what a writer is as a listener stays, from its number to where it stops placing
written_from : (v b e : View) (notes : List Note) (stop : ℕ) (h : HasWritten b e) → b ≡ begun_view notes stop v → e ≡ record (begun_view notes stop v) {
  stop = e.stop;
  eye = e.eye;
  pen = record (begun_view notes stop v).pen { cells = e.pen.cells; batch = e.pen.batch };
  known = record (begun_view notes stop v).known { named = (begun_view notes stop v).known.named ++ h.more; advance = e.known.advance };
}
written_from v b e notes stop h begun =
    h.view ∙ ap (λ (u : View). let y : View = record u { stop = e.stop; eye = e.eye; pen = record u.pen { cells = e.pen.cells; batch = e.pen.batch }; known = record u.known { named = u.known.named ++ h.more; advance = e.known.advance } } in y) begun

-- the pass has ended its transaction, whose notifications are not all placed
pub ends_full : (v b e w : View) (notes : List Note) (stop : ℕ) (tx : Tx) → b ≡ begun_view notes stop v → HasWritten b e → w ≡ finished_view tx w.verdicts w.concerned e → AreDecided w.verdicts → HasEnded v w
ends_full v b e w notes stop tx begun h is decided =
    let from = is ∙ ap (finished_view tx w.verdicts w.concerned) (written_from v b e notes stop h begun) in record {
      view = subst (λ (q : View). q ≡ record v { phase = Signalling; ended = q.ended; stop = q.stop; loaded_stop = q.loaded_stop; pen = q.pen; eye = q.eye; verdicts = q.verdicts; concerned = q.concerned; known = q.known }) (sym from) refl;
      decided = decided;
    }

-- and the same where all are
pub ends_whole : (v b e w : View) (notes : List Note) (stop : ℕ) (tx : Tx) → b ≡ begun_view notes stop v → HasWritten b e → HasCommitted e w tx → HasEnded v w
ends_whole v b e w notes stop tx begun h committed =
    let from = committed.view
    ∙ ap (λ (u : View). let y : View = record (finished_view tx w.verdicts w.concerned u) { stop = w.stop; eye = w.eye; known = record (fin_stored (ended_by tx u)).known { named = u.known.named ++ committed.named; advance = w.known.advance } } in y) (written_from v b e notes stop h begun) in record {
      view = subst (λ (q : View). q ≡ record v { phase = Signalling; ended = q.ended; stop = q.stop; loaded_stop = q.loaded_stop; pen = q.pen; eye = q.eye; verdicts = q.verdicts; concerned = q.concerned; known = q.known }) (sym from) refl;
      decided = committed.decided;
    }
