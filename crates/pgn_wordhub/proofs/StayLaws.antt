-- A pass that was one of the hub's between two calls is so after the next one.
use Rattle.std.proofs.Common.{◌≡◌, ℕ, ◌+◌, ◌-◌, ◌≤◌, Bool, true, false, ◌||◌, cond, max, List, [], ◌∷◌, ◌++◌, slice_get, Option, Some, None, IsSomeAnd, refl, sym, ap, ◌∙◌, subst}
use Rattle.std.proofs.lemmas.List.{append-nil}
use Rattle.pgn_base.specs.declared.note.Delivery.{Delivery}
use Rattle.pgn_base.specs.declared.queue_answers.Usage.{Usage}
use Rattle.pgn_journal.specs.Journal.{next_xid}
use Rattle.pgn_hub.specs.declared.known.Known.{Known}
use Rattle.pgn_hub.specs.Shape.{Shape}
use Rattle.pgn_hub.specs.Passes.{IsWithin, IsSeated}
use Rattle.pgn_hub.specs.Calls as calls
use Rattle.pgn_hub.specs.Calls.{owes_after}
use Rattle.pgn_hub.proofs.WithinLaws.{calls-keep_within}
use Rattle.pgn_words.specs.declared.view.View.{View}
use Rattle.pgn_words.specs.declared.view.Post.{Post}
use Rattle.pgn_words.specs.declared.view.Walk.{Walk}
use Rattle.pgn_words.specs.declared.view.Listen.TheVariants.{Registered}
use Rattle.pgn_words.specs.declared.view.Stage.TheVariants.{Still, Begun, Shown}
use Rattle.pgn_words.specs.declared.view.Phase.{Phase}
use Rattle.pgn_words.specs.Views.{is_settled, holds_lock}
use Rattle.pgn_words.specs.Positions.{marked, shown_as, listens_at}
use Rattle.pgn_words.specs.Listening.{HasBegun, HasShown, forwarded}
use Rattle.pgn_words.specs.Waking.{HasTaken, HasLooked, raised}
use Rattle.pgn_words.specs.Told.{HasHeard, HasLocked, locked, noted, joined, head_known, stop_known, freed}
use Rattle.pgn_wordhub.specs.Advancing.{advanced_view}
use Rattle.pgn_wordhub.specs.Passes.{IsHubView}

-- it is of the same seat
seats_still : (z : Shape) (k l : Known) → l.session ≡ k.session → l.db ≡ k.db → l.notes_left ≡ k.notes_left → IsSeated z k → IsSeated z l
seats_still z k l session db left h = record {
  first = subst (λ (n : ℕ). 1 ≤ n) (sym session) h.first;
  seat = subst (λ (n : ℕ). IsSomeAnd (slice_get z.seats (n - 1)) (λ seat. (seat.db ≡ l.db) × (l.notes_left ≤ seat.notes))) (sym session)
      (subst (λ (n : ℕ). IsSomeAnd (slice_get z.seats (k.session - 1)) (λ seat. (seat.db ≡ n) × (l.notes_left ≤ seat.notes))) (sym db)
      (subst (λ (n : ℕ). IsSomeAnd (slice_get z.seats (k.session - 1)) (λ seat. (seat.db ≡ k.db) × (n ≤ seat.notes))) (sym left) h.seat));
}

-- a call that changes what is known and where it is on its way, but neither its seat nor its mark
stays : (z : Shape) (v w : View) (k : Known) (walk : Walk) → w ≡ record v { known = k; walk = walk } → IsHubView z v → IsWithin k → k.session ≡ v.known.session → k.db ≡ v.known.db → k.notes_left ≡ v.known.notes_left → k.mark ≡ v.known.mark
    → IsHubView z w
stays z v w k walk is h within session db left mark = subst (λ (u : View). IsHubView z u) (sym is) (record {
  rest = record { free = h.rest.free; told = h.rest.told; decided = h.rest.decided; settled = h.rest.settled; alone = h.rest.alone; listens = mark ∙ h.rest.listens };
  within = within;
  seated = seats_still z v.known k session db left h.seated;
})

second_no : (a b : Bool) → (a || b) ≡ false → b ≡ false
second_no true b h = absurd (cc)
second_no false b h = h

-- a look at its wake
pub taken_stays : (z : Shape) (v w : View) (was_set : Bool) → IsHubView z v → HasTaken v was_set w → IsHubView z w
taken_stays z v w was_set h taken =
    let K : Known = record v.known { seen = v.known.seen ++ taken.more; owes = was_set || v.known.owes; wake_look = Some (was_set, v.known.owes) } in
    let L : Known = record v.known { seen = v.known.seen ++ taken.more } in
    let l : IsWithin L = calls-keep_within.learned v.known L (record { more = taken.more; known = refl }) h.within in
    stays z v w K (record v.walk { stage = Still }) taken.view h
    (record { mark = l.mark; marks = l.marks; first = l.first; own = l.own; signalled = l.signalled; told_of_read = l.told_of_read; told = l.told; raised = l.raised; found = l.found; to_read = λ unowed. l.to_read (second_no was_set v.known.owes unowed) })
    refl refl refl refl

-- the raise of a flag
pub raised_stays : (z : Shape) (v w : View) (flag : ℕ) → IsHubView z v → w ≡ raised flag v → IsHubView z w
raised_stays z v w flag h is =
    let K : Known = record v.known { raised = v.known.raised ++ (flag, v.known.told) ∷ [] } in
    let told : calls.HasRaised v.known K flag v.known.told = record { more = []; shown = refl; known = ap (λ txs. record K { seen = txs }) (sym (append-nil v.known.seen)) } in
    stays z v w K v.walk is h (calls-keep_within.raised v.known K flag v.known.told told h.within) refl refl refl refl

-- a look at a flag
pub looked_stays : (z : Shape) (v w : View) (flag : ℕ) (o : Option ℕ) → IsHubView z v → HasLooked v flag o w → IsHubView z w
looked_stays z v w flag None h looked =
    let K : Known = record v.known { seen = v.known.seen ++ looked.more; looks = v.known.looks + 1; flag_look = Some (flag, None) } in
    let none : calls.HasFoundNone v.known K flag = record { more = looked.more; known = refl; not_raised = looked.not_raised; not_found = looked.not_found } in
    stays z v w K v.walk looked.view h (calls-keep_within.found_none v.known K flag none h.within) refl refl refl refl
looked_stays z v w flag (Some x) h looked =
    let K : Known = record v.known {
      seen = v.known.seen ++ looked.more;
      told = max v.known.told x;
      owes = owes_after v.known x;
      found = v.known.found ++ (flag, x) ∷ [];
      looks = v.known.looks + 1;
      flag_look = Some (flag, Some x);
    } in
    let found : calls.HasFound v.known K flag x = record { more = looked.more; known = refl; after_raised = looked.after_raised; after_found = looked.after_found } in
    stays z v w K v.walk looked.view h (calls-keep_within.found v.known K flag x found (subst (λ (u : View). x ≤ next_xid u.known.seen) looked.view looked.within) h.within) refl refl refl refl

-- the usage, once the lock is given up
pub measured_stays : (z : Shape) (v l m w : View) (stop : ℕ) (usage : Usage) → IsHubView z v → HasLocked v l → m ≡ advanced_view m (stop_known stop (head_known l)) → w ≡ freed m → calls.HasMeasured z v.known w.known usage → IsHubView z w
measured_stays z v l m w stop usage h lock view free measured =
    let after : View → View = λ y. freed (advanced_view m (stop_known stop (head_known y))) in
    let is : w ≡ after (locked (v.known.seen ++ lock.more) v) = free ∙ ap freed view ∙ ap after lock.view in
    let post : w.post ≡ v.post = ap (λ (y : View). y.post) is in record {
      rest = record {
        free = ap (λ (y : View). y.phase) is;
        told = ap (λ (y : View). y.ended) is;
        decided = ap (λ (y : View). y.verdicts) is;
        settled = ap (λ (p : Post). is_settled p.listen) post ∙ h.rest.settled;
        alone = ap (λ (y : View). y.joined) is ∙ h.rest.alone;
        listens = ap (λ (k : Known). k.mark) measured.known ∙ h.rest.listens ∙ sym (ap listens_at post);
      };
      within = calls-keep_within.measured z v.known w.known usage measured h.within;
      seated = seats_still z v.known w.known (ap (λ (k : Known). k.session) measured.known) (ap (λ (k : Known). k.db) measured.known) (ap (λ (k : Known). k.notes_left) measured.known) h.seated;
    }

-- a read that was refused
pub refused_stays : (z : Shape) (v w u x : View) (n h : ℕ) → IsHubView z v → HasBegun v n w → HasShown w h u → x ≡ u → IsHubView z x × calls.HasLearned v.known x.known
refused_stays z v w u x n h hub begun shown same =
    let K : Known = record v.known { seen = v.known.seen ++ begun.more } in
    let W : View = record v { known = K; walk = record v.walk { stage = Begun; upto = n } } in
    let is : x ≡ record W { walk = record W.walk { stage = Shown; shown = shown.shown } } =
    same ∙ shown.view ∙ ap (λ (y : View). let q : View = record y { walk = record y.walk { stage = Shown; shown = shown.shown } } in q) begun.view in (
      stays z v x K (record W.walk { stage = Shown; shown = shown.shown }) is hub (calls-keep_within.learned v.known K (record { more = begun.more; known = refl }) hub.within) refl refl refl refl,
      record { more = begun.more; known = ap (λ (y : View). y.known) is },
    )

-- a read
pub read_stays : (z : Shape) (v w u x : View) (n h at : ℕ) (channels : List (List ℕ)) (before after : List Delivery) → IsHubView z v → v.post.listen ≡ Registered → HasBegun v n w → HasShown w h u → x ≡ forwarded at u
    → calls.HasRead v.known x.known channels n before after → IsHubView z x
read_stays z v w u x n h at channels before after hub listener begun shown e read =
    let W : View = record v { known = record v.known { seen = v.known.seen ++ begun.more }; walk = record v.walk { stage = Begun; upto = n } } in
    let is : x ≡ forwarded at (record W { walk = record W.walk { stage = Shown; shown = shown.shown } }) =
    e ∙ ap (forwarded at) (shown.view ∙ ap (λ (y : View). let q : View = record y { walk = record y.walk { stage = Shown; shown = shown.shown } } in q) begun.view) in record {
      rest = record {
        free = ap (λ (y : View). y.phase) is ∙ hub.rest.free;
        told = ap (λ (y : View). y.ended) is ∙ hub.rest.told;
        decided = ap (λ (y : View). y.verdicts) is ∙ hub.rest.decided;
        settled = ap (λ (y : View). is_settled y.post.listen) is ∙ hub.rest.settled;
        alone = ap (λ (y : View). y.joined) is ∙ hub.rest.alone;
        listens = ap (λ (y : View). y.known.mark) is ∙ sym (ap (λ (y : View). listens_at y.post) is ∙ ap (λ l. marked (shown_as l n at)) listener);
      };
      within = calls-keep_within.read v.known x.known channels n before after read hub.within;
      seated = seats_still z v.known x.known (ap (λ (k : Known). k.session) read.known) (ap (λ (k : Known). k.db) read.known) (ap (λ (k : Known). k.notes_left) read.known) hub.seated;
    }

-- a pass that has heard what another one knows, and what it has heard
pub heard_stays : (z : Shape) (f v n a b : View) (x : ℕ) → IsHubView z f → IsHubView z v → n ≡ noted f → a ≡ joined v n → HasHeard a x b → IsHubView z b × calls.HasHeard f.known v.known b.known
heard_stays z f v n a b x from h note join heard =
    let K : Known = record v.known {
      seen = calls.longer v.known.seen f.known.seen ++ heard.more;
      told = max v.known.told f.known.told;
      signalled = max v.known.signalled f.known.signalled;
      owes = owes_after v.known f.known.told;
    } in
    let is : b ≡ record v { known = K } = heard.view ∙ ap (λ (y : View). let q : View = record y { known = record y.known { seen = y.known.seen ++ heard.more } } in q) (join ∙ ap (joined v) note)
    ∙ ap (λ (p : Phase). let q : View = record v { known = record K { seen = cond (holds_lock p) v.known.seen (calls.longer v.known.seen f.known.seen) ++ heard.more } } in q) h.rest.free in
    let told : calls.HasHeard f.known v.known K = record { more = heard.more; known = refl } in (
      stays z v b K v.walk is h (calls-keep_within.heard f.known v.known K told from.within h.within) refl refl refl refl,
      record { more = heard.more; known = ap (λ (y : View). y.known) is },
    )
