-- A read as a whole, and the joining of a listener.
use Rattle.std.proofs.Common.{◌≡◌, ℕ, ◌+◌, ◌^◌, ◌<◌, ◌≤◌, max, false, List, [], ◌∷◌, ◌++◌, length, Some, sym, refl, ap, ◌∙◌, subst, arith}
use Rattle.std.proofs.lemmas.List.{length-append, append_assoc}
use Rattle.pgn_base.specs.declared.format.Format.{Format}
use Rattle.pgn_base.specs.declared.note.Delivery.{Delivery}
use Rattle.pgn_base.specs.declared.queue_answers.Enlisted.{Enlisted}
use Rattle.pgn_journal.specs.declared.tx.Tx.{Tx}
use Rattle.pgn_hub.specs.declared.known.Known.{Known}
use Rattle.pgn_journal.specs.Journal.{next_xid}
use Rattle.pgn_journal.specs.Due.{due}
use Rattle.pgn_journal.specs.Packing.{image, place}
use Rattle.pgn_hub.specs.Shape.{Shape}
use Rattle.pgn_journal.proofs.BeginsLaws.{begins-shorter}
use Rattle.pgn_journal.proofs.PackingLemmas.{place_grows, last_place}
use Rattle.pgn_journal.proofs.DraftLaws.{longer_agrees}
use Rattle.pgn_hub.specs.Calls as calls
use Rattle.pgn_hub.proofs.WithinLaws.{calls-keep_within}
use Rattle.pgn_words.specs.declared.view.View.{View}
use Rattle.pgn_words.specs.declared.view.Listen.TheVariants.{Based, Registered}
use Rattle.pgn_words.specs.declared.view.Stage.TheVariants.{Still, Begun, Shown}
use Rattle.pgn_words.specs.Listening.{joining, HasBase, registered, HasBegun, HasShown, forwarded}
use Rattle.pgn_wordhub.specs.Passes.{IsHubView}
use Rattle.pgn_wordhub.specs.Walks.{Leads, Walks, shown_cells}
use Rattle.pgn_wordhub.proofs.WayLaws.{begins_at}

-- a listener that has loaded the first unfinished number and then the head is on a way up to it, which gives what is due
pub reads_from : (format : Format) (v w u : View) (n h : ℕ) (channels : List (List ℕ)) (got : List Delivery) → v.setup.format ≡ format → HasBegun v n w → HasShown w h u
    → Walks format (shown_cells u) n u.known.db channels u.known.seen u.post.at (place format u.known.seen n) got (got ++ due u.known.seen u.post.mark n u.known.db channels)
reads_from format v w u n h channels got is begun shown =
    let same : w.setup.format ≡ format = ap (λ (x : View). x.setup.format) begun.view ∙ is in
    let there : w.post.at ≡ place format w.known.seen w.post.mark = begun.placed.at_is ∙ ap (λ (f : Format). place f w.known.seen w.post.mark) same in
    let walks = begins_at format w.known.seen shown.shown w.post.mark w.post.at w.known.db channels got shown.begins shown.written shown.few begun.finished begun.placed.first begun.placed.within there in
    let end : ℕ → List Delivery = λ f. got ++ due w.known.seen w.post.mark f w.known.db channels in
    let named = subst (λ (f : ℕ). Walks format (image format shown.shown) f w.known.db channels w.known.seen w.post.at (place format w.known.seen f) got (end f)) (sym begun.number) walks in
    let found = subst (λ (f : Format). Walks format (image f shown.shown) n w.known.db channels w.known.seen w.post.at (place format w.known.seen n) got (end n)) (sym same) named in
    subst (λ (x : View). Walks format (shown_cells x) n x.known.db channels x.known.seen x.post.at (place format x.known.seen n) got (got ++ due x.known.seen x.post.mark n x.known.db channels)) (sym shown.view) found

-- the same way from its base, as it joins
pub joins_from : (format : Format) (v w u : View) (n h at : ℕ) → v.setup.format ≡ format → at ≡ u.post.at → HasBegun v n w → HasShown w h u → Leads format (shown_cells u) n at (place format u.known.seen n)
joins_from format v w u n h at same is begun shown =
    let walks = reads_from format v w u n h [] [] same begun shown in
    subst (λ (k : ℕ). Leads format (shown_cells u) n k (place format u.known.seen n)) (sym is) (record { todo = walks.todo; later = walks.later; way = walks.way })

-- the place up to which it goes is one of 32 bits
pub reads_low : (format : Format) (v w u : View) (n h : ℕ) → v.setup.format ≡ format → HasBegun v n w → HasShown w h u → place format u.known.seen n < 2 ^ 32
reads_low format v w u n h is begun shown =
    let here : w.setup.format ≡ format = ap (λ (x : View). x.setup.format) begun.view ∙ is in
    let seen : u.known.seen ≡ w.known.seen = ap (λ (x : View). x.known.seen) shown.view in
    let number = begun.number in
    let shorter = begins-shorter w.known.seen shown.shown shown.begins in
    let inside : n ≤ next_xid shown.shown = omega (arith, number, shorter) in
    let same : place format shown.shown n ≡ place format w.known.seen n = longer_agrees.places format w.known.seen shown.shown n shown.begins (omega (arith, number)) in
    let up = place_grows format shown.shown n (next_xid shown.shown) inside in
    let end = last_place format shown.shown (next_xid shown.shown) (omega arith) in
    let head : h ≡ length (image format shown.shown) = shown.head ∙ ap (λ (f : Format). length (image f shown.shown)) here in
    let low = shown.low in
    subst (λ (txs : List Tx). place format txs n < 2 ^ 32) (sym seen) (omega (arith, same, up, end, head, low))

-- what is known after a read
pub has_read : (z : Shape) (v w u x : View) (n h at : ℕ) (channels : List (List ℕ)) (before after : List Delivery) → IsHubView z v → v.known.mark ≡ Some v.post.mark → HasBegun v n w → HasShown w h u
    → x ≡ forwarded at u → after ≡ before ++ due u.known.seen u.post.mark n u.known.db channels → calls.HasRead v.known x.known channels n before after
has_read z v w u x n h at channels before after hub mark begun shown e gave =
    let W : View = record v { known = record v.known { seen = v.known.seen ++ begun.more }; walk = record v.walk { stage = Begun; upto = n } } in
    let U : View = record W { walk = record W.walk { stage = Shown; shown = shown.shown } } in
    let is_u : u ≡ U = shown.view ∙ ap (λ (y : View). let k : View = record y { walk = record y.walk { stage = Shown; shown = shown.shown } } in k) begun.view in
    let is_x : x ≡ forwarded at U = e ∙ ap (forwarded at) is_u in
    let seen : w.known.seen ≡ v.known.seen ++ begun.more = ap (λ (y : View). y.known.seen) begun.view in
    let long : length w.known.seen ≡ length v.known.seen + length begun.more = ap length seen ∙ length-append v.known.seen begun.more in
    let number = begun.number in
    let place = begun.placed.within in
    let stays : w.post.mark ≡ v.post.mark = ap (λ (y : View). y.post.mark) begun.view in
    let told = hub.within.told in
    record {
      more = begun.more;
      from = v.post.mark;
      from_mark = mark;
      known = ap (λ (y : View). y.known) is_x;
      forward = omega (arith, place, stays, number);
      after_told = omega (arith, told, long, number);
      after_seen = omega (arith, long, number);
      in_seen = subst (λ (y : View). n ≤ next_xid y.known.seen) (sym is_x) (let l = length-append v.known.seen begun.more in omega (arith, number, long, l));
      delivered = gave ∙ ap (λ (y : View). before ++ due y.known.seen y.post.mark n y.known.db channels) is_u
          ∙ ap (λ (y : View). before ++ due y.known.seen v.post.mark n v.known.db channels) (sym is_x);
    }

-- what is known after a session has joined, and that its pass is one of the hub's
pub enlists : (z : Shape) (v a b r w u x : View) (m p n h at : ℕ) (got : Enlisted) → IsHubView z v → a ≡ joining v → HasBase a m p b → r ≡ registered b → HasBegun r n w → HasShown w h u → x ≡ forwarded at u
    → got ≡ record { base = m; point = n } → IsHubView z x × calls.HasEnlisted v.known x.known got
enlists z v a b r w u x m p n h at got hub e1 base e3 begun shown e6 is_got =
    let seen : List Tx = v.known.seen ++ base.more ++ begun.more in
    let X : View = record v {
      known = record v.known { seen = seen; mark = Some n; told = max v.known.told n; set = []; marks = v.known.marks ++ m ∷ [] ++ n ∷ []; owes = false };
      post = record { listen = Registered; mark = n; at = at };
      walk = record { stage = Still; upto = n; shown = shown.shown };
    } in
    let is_b = base.view ∙ ap (λ (y : View). let k : View = record y { known = record y.known { seen = y.known.seen ++ base.more }; post = record { listen = Based; mark = m; at = p } } in k) e1 in
    let is_w = begun.view ∙ ap (λ (y : View). let k : View = record y { known = record y.known { seen = y.known.seen ++ begun.more }; walk = record y.walk { stage = Begun; upto = n } } in k) (e3 ∙ ap registered is_b) in
    let is_u = shown.view ∙ ap (λ (y : View). let k : View = record y { walk = record y.walk { stage = Shown; shown = shown.shown } } in k) is_w in
    let is_x : x ≡ X = e6 ∙ ap (forwarded at) is_u in
    let seen_b : b.known.seen ≡ v.known.seen ++ base.more = ap (λ (y : View). y.known.seen) is_b in
    let seen_w : w.known.seen ≡ seen = ap (λ (y : View). y.known.seen) is_w in
    let long_b : length b.known.seen ≡ length v.known.seen + length base.more = ap length seen_b ∙ length-append v.known.seen base.more in
    let more = length-append v.known.seen base.more in
    let long_w : length w.known.seen ≡ length (v.known.seen ++ base.more) + length begun.more = ap length seen_w ∙ length-append (v.known.seen ++ base.more) begun.more in
    let all = length-append (v.known.seen ++ base.more) begun.more in
    let number = begun.number in
    let placed = base.placed.within in
    let told = hub.within.told in
    let after : next_xid v.known.seen ≤ n = omega (arith, number, long_w, more) in
    let has : calls.HasEnlisted v.known X.known (record { base = m; point = n }) = record {
      more = base.more ++ begun.more;
      known = ap (λ (txs : List Tx). let k : Known = record v.known { seen = txs; mark = Some n; told = max v.known.told n; set = []; marks = v.known.marks ++ m ∷ [] ++ n ∷ []; owes = false } in k) (append_assoc v.known.seen base.more begun.more);
      first = base.placed.first;
      ordered = omega (arith, placed, long_b, number, long_w, more);
      after_told = omega (arith, told, after);
      after_marks = Rattle.std.proofs.lemmas.List.Elements.All-weaker (λ k. k ≤ next_xid v.known.seen) (λ k. k ≤ n) (λ k le. omega (arith, le, after)) v.known.marks hub.within.marks;
      after_seen = after;
      in_seen = omega (arith, number, long_w, all);
    } in
    subst (λ (y : View). IsHubView z y × calls.HasEnlisted v.known y.known got) (sym is_x) (
      record {
        rest = record { free = hub.rest.free; told = hub.rest.told; decided = hub.rest.decided; settled = refl; alone = hub.rest.alone; listens = refl };
        within = calls-keep_within.enlisted v.known X.known (record { base = m; point = n }) has hub.within;
        seated = record { first = hub.seated.first; seat = hub.seated.seat };
      },
      subst (λ (g : Enlisted). calls.HasEnlisted v.known X.known g) (sym is_got) has,
    )
