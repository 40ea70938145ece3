-- What each step of a commit leaves.
use Rattle.std.proofs.Common.{◌≡◌, ◌≢◌, ℕ, ◌+◌, ◌-◌, ◌≤◌, max, ◌==◌, ◌&&◌, not, Bool, true, false, true≢false, cond, List, [], ◌∷◌, ◌++◌, length, drop, Option, Some, None, Result, Ok, Err, IfSome, All, Contains, sym, ap, ◌∙◌, refl, subst, arith, length-append, append-nil, append_assoc}
use Rattle.std.proofs.lemmas.Bool.Decides.{nat_tests}
use Rattle.std.proofs.lemmas.Option.{IfSome_then}
use Rattle.std.proofs.lemmas.List.Elements.{All-weaker, All-contains, Contains-push, Contains-append_left}
use Rattle.pgn_base.specs.declared.note.Note.{Note}
use Rattle.pgn_base.specs.declared.queue_answers.Full.{Full}
use Rattle.pgn_base.specs.declared.queue_answers.Enlisted.{Enlisted}
use Rattle.pgn_base.specs.declared.action.Action.{Action}
use Rattle.pgn_journal.specs.declared.tx.Tx.{Tx}
use Rattle.pgn_journal.specs.declared.tx.Fate.TheVariants.{Committed, Aborted}
use Rattle.pgn_model.specs.declared.item.Item.{Item}
use Rattle.pgn_model.specs.declared.item.Item.TheVariants.{Enlist, Publish}
use Rattle.pgn_hub.specs.declared.known.Known.{Known}
use Rattle.pgn_journal.specs.Journal.{next_xid}
use Rattle.pgn_hub.specs.Shape.{Shape}
use Rattle.pgn_model.specs.Walk.{Terms, State, Nothing}
use Rattle.pgn_model.specs.laws.NextLine.{is_enlisting, MayEnlist, MayPublish, publish_items, published_xids, published_told, HoldsSoFar, StandsFresh}
use Rattle.pgn_model.proofs.NextLineLaws.{last-is_published, holds-grows}
use Rattle.pgn_hub.specs.Calls.{HasPublished, HasMetFull, tx_of}
use Rattle.pgn_language.specs.Inputs.{QuitsLast, note_lines_of}
use Rattle.pgn_model.specs.Legal.{IsFullThere, finished_xids}
use Rattle.pgn_block.specs.Kept.{StandsFor}
use Rattle.pgn_block.specs.Views.{BlockView}
use Rattle.pgn_session.specs.declared.doing.FlagPlan.{FlagPlan}
use Rattle.pgn_session.specs.declared.doing.Doing.TheVariants.{Lines}
use Rattle.pgn_answers.specs.Savepoints.{count_noted}
use Rattle.pgn_session.specs.Standing.{HaveSameMembers, IsAnswered, spare_of}
use Rattle.pgn_session.proofs.KnownLaws.{members-push}
use Rattle.pgn_session.specs.Commits.{HasJoined, HasSent, HasLeftOr, is_telling, is_full, set_after, enlisted_items, sent_items}

-- the base and the point of a session that has become a listener
abbrev pub base_of : Option Enlisted → ℕ
base_of None = 0
base_of (Some got) = got.base

-- where its journal stands for who has become a listener, and 0 for who has not
abbrev pub point_of : Option Enlisted → ℕ
point_of None = 0
point_of (Some got) = got.point

-- what a step of a commit leaves of what is known: it may have learned and named more, and has these for the rest
pub record Leads (k q : Known) (mark : Option ℕ) (marks own : List ℕ) (told left : ℕ) : Type 0 where
  pub more : List Tx
  pub seen_is : q.seen ≡ k.seen ++ more
  pub session_is : q.session ≡ k.session
  pub database_is : q.db ≡ k.db
  pub mark_is : q.mark ≡ mark
  pub marks_are : q.marks ≡ marks
  pub own_is : q.own ≡ own
  pub told_is : q.told ≡ told
  pub left_is : q.notes_left ≡ left
  pub raised_is : q.raised ≡ k.raised
  pub found_is : q.found ≡ k.found
  pub names : List (ℕ × ℕ)
  pub named_is : q.named ≡ k.named ++ names

-- nothing was done
pub leads-same : (k q : Known) → q ≡ k → Leads k q k.mark k.marks k.own k.told k.notes_left
leads-same k q e = record {
  more = [];
  seen_is = ap (λ (p : Known). p.seen) e ∙ sym (append-nil k.seen);
  session_is = ap (λ (p : Known). p.session) e;
  database_is = ap (λ (p : Known). p.db) e;
  mark_is = ap (λ (p : Known). p.mark) e;
  marks_are = ap (λ (p : Known). p.marks) e;
  own_is = ap (λ (p : Known). p.own) e;
  told_is = ap (λ (p : Known). p.told) e;
  left_is = ap (λ (p : Known). p.notes_left) e;
  raised_is = ap (λ (p : Known). p.raised) e;
  found_is = ap (λ (p : Known). p.found) e;
  names = [];
  named_is = ap (λ (p : Known). p.named) e ∙ sym (append-nil k.named);
}

-- where the session was to join, its mark is the point and its marks have base and point more; else nothing has changed
pub leads-joined : (k j : Known) (b : Bool) (got : Option Enlisted) → HasJoined b k j got
    → Leads k j (cond b (Some (point_of got)) k.mark) (cond b (k.marks ++ base_of got ∷ [] ++ point_of got ∷ []) k.marks) k.own (cond b (max k.told (point_of got)) k.told) k.notes_left
leads-joined k j true (Some got) h = record {
  more = h.more;
  seen_is = ap (λ (p : Known). p.seen) h.known;
  session_is = ap (λ (p : Known). p.session) h.known;
  database_is = ap (λ (p : Known). p.db) h.known;
  mark_is = ap (λ (p : Known). p.mark) h.known;
  marks_are = ap (λ (p : Known). p.marks) h.known;
  own_is = ap (λ (p : Known). p.own) h.known;
  told_is = ap (λ (p : Known). p.told) h.known;
  left_is = ap (λ (p : Known). p.notes_left) h.known;
  raised_is = ap (λ (p : Known). p.raised) h.known;
  found_is = ap (λ (p : Known). p.found) h.known;
  names = [];
  named_is = ap (λ (p : Known). p.named) h.known ∙ sym (append-nil k.named);
}
leads-joined k j true None h = absurd h
leads-joined k j false (Some got) h = absurd h
leads-joined k j false None h = leads-same k j h

pub leads-published : (j f : Known) (notes : List Note) (x : ℕ) → HasPublished j f notes x → Leads j f j.mark j.marks (j.own ++ x ∷ []) (x + 1) (j.notes_left - length notes)
leads-published j f notes x h = record {
  more = h.more ++ tx_of j notes (length notes) Committed ∷ [];
  seen_is = ap (λ (p : Known). p.seen) h.known ∙ append_assoc j.seen h.more (tx_of j notes (length notes) Committed ∷ []);
  session_is = ap (λ (p : Known). p.session) h.known;
  database_is = ap (λ (p : Known). p.db) h.known;
  mark_is = ap (λ (p : Known). p.mark) h.known;
  marks_are = ap (λ (p : Known). p.marks) h.known;
  own_is = ap (λ (p : Known). p.own) h.known;
  told_is = ap (λ (p : Known). p.told) h.known;
  left_is = ap (λ (p : Known). p.notes_left) h.known;
  raised_is = ap (λ (p : Known). p.raised) h.known;
  found_is = ap (λ (p : Known). p.found) h.known;
  names = h.named;
  named_is = ap (λ (p : Known). p.named) h.known;
}

-- a full queue spends an aborted number and the notes, and the mark stays
pub leads-full : (shape : Shape) (j f : Known) (notes : List Note) (full : Full) → HasMetFull shape j f notes full → Leads j f j.mark j.marks (j.own ++ full.xid ∷ []) (full.xid + 1) (j.notes_left - length notes)
leads-full shape j f notes full h = record {
  more = h.more ++ tx_of j notes full.queued Aborted ∷ [];
  seen_is = ap (λ (p : Known). p.seen) h.known ∙ append_assoc j.seen h.more (tx_of j notes full.queued Aborted ∷ []);
  session_is = ap (λ (p : Known). p.session) h.known;
  database_is = ap (λ (p : Known). p.db) h.known;
  mark_is = ap (λ (p : Known). p.mark) h.known;
  marks_are = ap (λ (p : Known). p.marks) h.known;
  own_is = ap (λ (p : Known). p.own) h.known;
  told_is = ap (λ (p : Known). p.told) h.known;
  left_is = ap (λ (p : Known). p.notes_left) h.known;
  raised_is = ap (λ (p : Known). p.raised) h.known;
  found_is = ap (λ (p : Known). p.found) h.known;
  names = h.named;
  named_is = ap (λ (p : Known). p.named) h.known;
}

pub leads-left : (f q : Known) (b telling : Bool) (channels : List (List ℕ)) → HasLeftOr b telling channels f q → Leads f q (cond b None f.mark) f.marks f.own f.told f.notes_left
leads-left f q true telling channels h = record {
  more = h.more;
  seen_is = ap (λ (p : Known). p.seen) h.known;
  session_is = ap (λ (p : Known). p.session) h.known;
  database_is = ap (λ (p : Known). p.db) h.known;
  mark_is = ap (λ (p : Known). p.mark) h.known;
  marks_are = ap (λ (p : Known). p.marks) h.known;
  own_is = ap (λ (p : Known). p.own) h.known;
  told_is = ap (λ (p : Known). p.told) h.known;
  left_is = ap (λ (p : Known). p.notes_left) h.known;
  raised_is = ap (λ (p : Known). p.raised) h.known;
  found_is = ap (λ (p : Known). p.found) h.known;
  names = [];
  named_is = ap (λ (p : Known). p.named) h.known ∙ sym (append-nil f.named);
}
leads-left f q false true channels h = record {
  more = [];
  seen_is = ap (λ (p : Known). p.seen) h ∙ sym (append-nil f.seen);
  session_is = ap (λ (p : Known). p.session) h;
  database_is = ap (λ (p : Known). p.db) h;
  mark_is = ap (λ (p : Known). p.mark) h;
  marks_are = ap (λ (p : Known). p.marks) h;
  own_is = ap (λ (p : Known). p.own) h;
  told_is = ap (λ (p : Known). p.told) h;
  left_is = ap (λ (p : Known). p.notes_left) h;
  raised_is = ap (λ (p : Known). p.raised) h;
  found_is = ap (λ (p : Known). p.found) h;
  names = [];
  named_is = ap (λ (p : Known). p.named) h ∙ sym (append-nil f.named);
}
leads-left f q false false channels h = leads-same f q h

-- to send changes neither the set nor the mark
sent-set : (shape : Shape) (j f : Known) (notes : List Note) (sent : Option (Result ℕ Full)) → HasSent shape j f notes sent → f.set ≡ j.set
sent-set shape j f notes None h = ap (λ (p : Known). p.set) h.1
sent-set shape j f notes (Some (Ok x)) h = ap (λ (p : Known). p.set) h.1.known
sent-set shape j f notes (Some (Err full)) h = ap (λ (p : Known). p.set) h.1.known

sent-mark : (shape : Shape) (j f : Known) (notes : List Note) (sent : Option (Result ℕ Full)) → HasSent shape j f notes sent → f.mark ≡ j.mark
sent-mark shape j f notes None h = ap (λ (p : Known). p.mark) h.1
sent-mark shape j f notes (Some (Ok x)) h = ap (λ (p : Known). p.mark) h.1.known
sent-mark shape j f notes (Some (Err full)) h = ap (λ (p : Known). p.mark) h.1.known

-- what a session that was not to tell its channels has told is its set
untold : (k j f : Known) (shape : Shape) (set channels : List (List ℕ)) (actions : List Action) (notes : List Note) (enlisted : Option Enlisted) (sent : Option (Result ℕ Full))
    → IfSome k.mark (λ _. k.set ≡ set) → HasJoined (is_enlisting actions k.mark) k j enlisted → HasSent shape j f notes sent → channels ≡ set_after sent set actions → is_telling f.mark actions ≡ false
    → IfSome f.mark (λ _. f.set ≡ channels)
untold k j f shape set channels [] notes enlisted sent told joined has_sent is e =
    let same : j ≡ k = not_joined enlisted joined in
    let set_f : f.set ≡ k.set = sent-set shape j f notes sent has_sent ∙ ap (λ (p : Known). p.set) same in
    let mark_f : f.mark ≡ k.mark = sent-mark shape j f notes sent has_sent ∙ ap (λ (p : Known). p.mark) same in
    let kept : channels ≡ set = is ∙ none_done (is_full sent) in
    subst (λ (mark : Option ℕ). IfSome mark (λ _. f.set ≡ channels)) (sym mark_f) (IfSome_then k.mark told (λ m t. set_f ∙ t ∙ sym kept))
  where
    not_joined : (got : Option Enlisted) → HasJoined false k j got → j ≡ k
    not_joined None h = h
    not_joined (Some got) h = absurd h

    none_done : (b : Bool) → cond b set set ≡ set
    none_done true = refl
    none_done false = refl
untold k j f shape set channels (action ∷ actions) notes enlisted sent told joined has_sent is e = by_mark f.mark e
  where
    by_mark : (mark : Option ℕ) → is_telling mark (action ∷ actions) ≡ false → IfSome mark (λ _. f.set ≡ channels)
    by_mark None e = tt
    by_mark (Some m) e =
        let some : length (action ∷ actions) == 0 ≡ false = grind (arith, nat_tests) in
        absurd (true≢false (sym (ap (λ (b : Bool). true && not b) some) ∙ e))

-- what a listener has told after a commit is its set
pub told-after : (k j f q : Known) (shape : Shape) (set channels : List (List ℕ)) (actions : List Action) (notes : List Note) (enlisted : Option Enlisted) (sent : Option (Result ℕ Full)) (b telling : Bool)
    → IfSome k.mark (λ _. k.set ≡ set) → HasJoined (is_enlisting actions k.mark) k j enlisted → HasSent shape j f notes sent → channels ≡ set_after sent set actions → is_telling f.mark actions ≡ telling
    → HasLeftOr b telling channels f q → IfSome q.mark (λ _. q.set ≡ channels)
told-after k j f q shape set channels actions notes enlisted sent true telling told joined has_sent is e h =
    subst (λ (mark : Option ℕ). IfSome mark (λ _. q.set ≡ channels)) (sym (ap (λ (p : Known). p.mark) h.known)) tt
told-after k j f q shape set channels actions notes enlisted sent false true told joined has_sent is e h = whatever q.mark (ap (λ (p : Known). p.set) h)
  where
    whatever : (mark : Option ℕ) → q.set ≡ channels → IfSome mark (λ _. q.set ≡ channels)
    whatever None same = tt
    whatever (Some m) same = same
told-after k j f q shape set channels actions notes enlisted sent false false told joined has_sent is e h =
    subst (λ (p : Known). IfSome p.mark (λ _. p.set ≡ channels)) (sym h) (untold k j f shape set channels actions notes enlisted sent told joined has_sent is e)

-- the session may become a listener over any longer journal
pub may-enlist : (k j : Known) (b : Bool) (got : Option Enlisted) (told : ℕ) (marks : List ℕ) (more : List Tx) → HasJoined b k j got → told ≡ k.told → All (Contains k.marks) marks → b ≡ true
    → MayEnlist (j.seen ++ more) told marks (base_of got) (point_of got)
may-enlist k j true (Some got) told marks more h is members e = record {
  from_first = h.first;
  ordered = h.ordered;
  after_told = omega (arith, h.after_told);
  after_marks = All-weaker (Contains k.marks) (λ (m : ℕ). m ≤ got.point) (λ m there. All-contains (λ (n : ℕ). n ≤ got.point) k.marks m h.after_marks there) marks members;
  in_journal = omega (arith, h.in_seen, length-append j.seen more);
}
may-enlist k j true None told marks more h is members e = absurd h
may-enlist k j false got told marks more h is members e = absurd (let no : ⊥ = cc in no)

-- the items of the code are those of the law
pub same-enlist : (k j : Known) (b : Bool) (got : Option Enlisted) → HasJoined b k j got → enlisted_items got ≡ cond b (Enlist (base_of got) (point_of got) ∷ []) []
same-enlist k j true (Some got) h = refl
same-enlist k j true None h = absurd h
same-enlist k j false (Some got) h = absurd h
same-enlist k j false None h = refl

pub same-publish : (notes : List Note) (x : ℕ) → notes ≢ [] → publish_items notes x ≡ Publish x notes ∷ []
same-publish [] x some = absurd (some refl)
same-publish (note ∷ notes) x some = refl

pub same-xids : (notes : List Note) (x : ℕ) → notes ≢ [] → published_xids notes x ≡ x ∷ []
same-xids [] x some = absurd (some refl)
same-xids (note ∷ notes) x some = refl

pub same-told : (notes : List Note) (told x : ℕ) → notes ≢ [] → told ≤ x → published_told notes told x ≡ x + 1
same-told [] told x some le = absurd (some refl)
same-told (note ∷ notes) told x some le = omega arith

-- the number of the transaction that was sent
abbrev pub x_of : Option (Result ℕ Full) → ℕ
x_of None = 0
x_of (Some (Ok x)) = x
x_of (Some (Err full)) = full.xid

-- nothing was to be sent, or it was published
pub leads-sent : (shape : Shape) (j f : Known) (notes : List Note) (sent : Option (Result ℕ Full)) → HasSent shape j f notes sent → is_full sent ≡ false → j.told ≤ next_xid j.seen
    → Leads j f j.mark j.marks (j.own ++ published_xids notes (x_of sent)) (published_told notes j.told (x_of sent)) (j.notes_left - length notes)
leads-sent shape j f notes None h e told =
    let l = leads-same j f h.1 in
    subst (λ (ns : List Note). Leads j f j.mark j.marks (j.own ++ published_xids ns 0) (published_told ns j.told 0) (j.notes_left - length ns)) (sym h.0)
    (record { more = l.more; seen_is = l.seen_is; session_is = l.session_is; database_is = l.database_is; mark_is = l.mark_is; marks_are = l.marks_are; own_is = l.own_is ∙ sym (append-nil j.own); told_is = l.told_is; left_is = omega (arith, l.left_is); raised_is = l.raised_is; found_is = l.found_is; names = l.names; named_is = l.named_is })
leads-sent shape j f notes (Some (Ok x)) h e told =
    let l = leads-published j f notes x h.1 in
    let after : j.told ≤ x = omega (arith, h.1.number, told, length-append j.seen h.1.more) in
    record { more = l.more; seen_is = l.seen_is; session_is = l.session_is; database_is = l.database_is; mark_is = l.mark_is; marks_are = l.marks_are; own_is = l.own_is ∙ ap (λ (xs : List ℕ). j.own ++ xs) (sym (same-xids notes x h.0)); told_is = l.told_is ∙ sym (same-told notes j.told x h.0 after); left_is = l.left_is; raised_is = l.raised_is; found_is = l.found_is; names = l.names; named_is = l.named_is }
leads-sent shape j f notes (Some (Err full)) h e told = absurd (let no : ⊥ = cc in no)

-- where the queue was not full, what is shown of the notifications is what a publish shows
pub same-sent : (shape : Shape) (j f : Known) (notes : List Note) (sent : Option (Result ℕ Full)) → HasSent shape j f notes sent → is_full sent ≡ false → sent_items sent notes ≡ publish_items notes (x_of sent)
same-sent shape j f notes None h e = ap (λ (ns : List Note). publish_items ns 0) (sym h.0)
same-sent shape j f notes (Some (Ok x)) h e = sym (same-publish notes x h.0)
same-sent shape j f notes (Some (Err full)) h e = absurd (let no : ⊥ = cc in no)

-- what was published stands there
pub may-publish : (terms : Terms) (shape : Shape) (j f : Known) (notes : List Note) (sent : Option (Result ℕ Full)) (told : ℕ) (mark : Option ℕ) → HasSent shape j f notes sent → is_full sent ≡ false
    → j.session ≡ terms.section.no → j.db ≡ terms.section.db → told ≤ next_xid j.seen → IfSome mark (λ m. m ≤ next_xid j.seen) → notes ≢ []
    → MayPublish terms f.seen told mark (x_of sent) notes
may-publish terms shape j f notes None told mark h e session database after at some = absurd (some h.0)
may-publish terms shape j f notes (Some (Ok x)) told mark h e session database after at some =
    let p = h.1 in
    let tx : Tx = tx_of j notes (length notes) Committed in
    let longer : next_xid j.seen ≤ next_xid (j.seen ++ p.more) = omega (arith, length-append j.seen p.more) in
    let whole : f.seen ≡ j.seen ++ p.more ++ tx ∷ [] = ap (λ (q : Known). q.seen) p.known in
    subst (λ (txs : List Tx). MayPublish terms txs told mark x notes) (sym whole)
    (last-is_published terms (j.seen ++ p.more) tx told mark x notes p.number (omega (arith, after, longer)) (IfSome_then mark at (λ m below. omega (arith, below, longer)))
    (record { by_session = session; in_database = database; with_notes = refl; committed = refl }))
may-publish terms shape j f notes (Some (Err full)) told mark h e session database after at some = absurd (let no : ⊥ = cc in no)

-- the members of two lists that an Enlist may have made longer
pub members-joined : (b : Bool) (xs ys : List ℕ) (base point : ℕ) → HaveSameMembers xs ys → HaveSameMembers (cond b (xs ++ base ∷ [] ++ point ∷ []) xs) (cond b (ys ++ base ∷ [] ++ point ∷ []) ys)
members-joined true xs ys base point h = members-push (xs ++ base ∷ []) (ys ++ base ∷ []) point (members-push xs ys base h)
members-joined false xs ys base point h = h

-- a mark that was among the marks is so once the session has joined
pub stood-joined : (b : Bool) (mark : Option ℕ) (marks : List ℕ) (base point : ℕ) → IfSome mark (Contains marks) → IfSome (cond b (Some point) mark) (Contains (cond b (marks ++ base ∷ [] ++ point ∷ []) marks))
stood-joined true mark marks base point h = Contains-push (marks ++ base ∷ []) point
stood-joined false mark marks base point h = h

pub stood-left : (b : Bool) (mark : Option ℕ) (marks : List ℕ) → IfSome mark (Contains marks) → IfSome (cond b None mark) (Contains marks)
stood-left true mark marks h = tt
stood-left false mark marks h = h

-- what holds over what was known before the session left, where it did, holds after it
pub left-answered : (terms : Terms) (plan : FlagPlan) (done : ℕ) (block : BlockView) (channels : List (List ℕ)) (f q : Known) (b telling : Bool) (after : List Item) (t : State)
    → 1 ≤ terms.settings.patience → HasLeftOr b telling channels f q → IfSome q.mark (λ _. q.set ≡ channels) → StandsFresh terms f.seen after t → All (IsFullThere terms.settings f.seen) after → All (λ pair. pair.1 ≤ next_xid f.seen) t.found
    → f.session ≡ terms.section.no → f.db ≡ terms.section.db → finished_xids after ≡ f.own → t.mark ≡ cond b None f.mark → HaveSameMembers t.marks f.marks → IfSome f.mark (Contains f.marks)
    → All (Contains f.named) t.named → t.rest ≡ drop (done + 1) terms.section.lines → t.set ≡ channels → t.owed ≡ Nothing → t.block ≡ block.state → StandsFor t.changes block.kept
    → t.told ≡ f.told → t.raised ≡ f.raised → t.found ≡ f.found → spare_of terms.section + count_noted t.changes + note_lines_of t.rest ≤ f.notes_left → QuitsLast t.rest
    → IsAnswered terms plan (done + 1) block channels Lines q after
left-answered terms plan done block channels f q b telling after t enough leave interested shown full found session database own mark marks stood named rest is_set owes state list told raised found_is budget quits =
    let l = leads-left f q b telling channels leave in
    let holds : HoldsSoFar terms (f.seen ++ l.more) after t = holds-grows terms f.seen l.more after t (record { stands_fresh = shown; full = full; found = found }) in
    record {
      state = t;
      stands = record {
        holds = subst (λ (txs : List Tx). HoldsSoFar terms txs after t) (sym l.seen_is) holds;
        session = l.session_is ∙ session;
        database = l.database_is ∙ database;
        own = own ∙ sym l.own_is;
        mark = mark ∙ sym l.mark_is;
        marks = subst (λ (ys : List ℕ). HaveSameMembers t.marks ys) (sym l.marks_are) marks;
        stood = subst (λ (m : Option ℕ). IfSome m (Contains q.marks)) (sym l.mark_is) (subst (λ (ys : List ℕ). IfSome (cond b None f.mark) (Contains ys)) (sym l.marks_are) (stood-left b f.mark f.marks stood));
        named = subst (λ (pairs : List (ℕ × ℕ)). All (Contains pairs) t.named) (sym l.named_is) (All-weaker (Contains f.named) (Contains (f.named ++ l.names)) (λ pair there. Contains-append_left f.named l.names pair there) t.named named);
        interested = subst (λ (set : List (List ℕ)). IfSome q.mark (λ _. q.set ≡ set)) (sym is_set) interested;
        patient = enough;
      };
      rest = rest;
      channels = is_set;
      here = record {
        owes = owes;
        block_state = state;
        list = list;
        tells = record { told = told ∙ sym l.told_is; raised = raised ∙ sym l.raised_is; found = found_is ∙ sym l.found_is };
        budget = omega (arith, budget, l.left_is);
        quits_last = quits;
      };
    }

-- and so is what the session was told
pub told-joined : (k j : Known) (b : Bool) (got : Option Enlisted) → HasJoined b k j got → k.told ≤ next_xid k.seen → cond b (max k.told (point_of got)) k.told ≤ next_xid j.seen
told-joined k j true (Some got) h within = omega (arith, h.after_told, h.in_seen)
told-joined k j true None h within = absurd h
told-joined k j false (Some got) h within = absurd h
told-joined k j false None h within = subst (λ (p : Known). k.told ≤ next_xid p.seen) (sym h) within

-- the mark after an Enlist is within what is then known
pub at-joined : (k j : Known) (b : Bool) (got : Option Enlisted) → HasJoined b k j got → IfSome k.mark (λ m. m ≤ next_xid k.seen) → IfSome (cond b (Some (point_of got)) k.mark) (λ m. m ≤ next_xid j.seen)
at-joined k j true (Some got) h within = h.in_seen
at-joined k j true None h within = absurd h
at-joined k j false (Some got) h within = absurd h
at-joined k j false None h within = subst (λ (p : Known). IfSome k.mark (λ m. m ≤ next_xid p.seen)) (sym h) within
