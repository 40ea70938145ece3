-- Proofs that what always holds of a pass stays so in each call.
use Rattle.std.proofs.Common.{◌≡◌, ℕ, ◌+◌, ◌<◌, ◌≤◌, nat_lt, max, Bool, true, false, ◌&&◌, ◌||◌, true≢false, List, [], ◌∷◌, ◌++◌, length, drop, Option, Some, None, is_some, IfSome, All, sym, ap, ◌∙◌, refl, subst, arith, length-append, length-drop}
use Rattle.std.proofs.lemmas.Bool.{ltb-false}
use Rattle.std.proofs.lemmas.Option.{IfSome_then}
use Rattle.std.proofs.lemmas.List.Elements.{All-nil, All-cons, All-append}
use Rattle.pgn_journal.specs.declared.tx.Tx.{Tx}
use Rattle.pgn_hub.specs.declared.known.Known.{Known}
use Rattle.pgn_journal.specs.Journal.{next_xid}
use Rattle.pgn_hub.specs.Passes.{IsWithin, IsPairWithin}
use Rattle.pgn_hub.specs.Calls.{longer, owes_after}
use Rattle.pgn_hub.specs.Laws.{CallsKeepWithin}
use Rattle.pgn_hub.proofs.SeatLaws.{opened-within}

-- marks are within a longer journal
marks-more : (n m : ℕ) (marks : List ℕ) → n ≤ m → All (λ mark. mark ≤ n) marks → All (λ mark. mark ≤ m) marks
marks-more n m marks le h k d lt = omega (arith, le, h k d lt)

mark-more : (n m : ℕ) (mark : Option ℕ) → n ≤ m → IfSome mark (λ own. own ≤ n) → IfSome mark (λ own. own ≤ m)
mark-more n m mark le h = IfSome_then mark h (λ own below. omega (arith, le, below))

own-more : (n m : ℕ) (own : List ℕ) → n ≤ m → All (λ x. x < n) own → All (λ x. x < m) own
own-more n m own le h k d lt = omega (arith, le, h k d lt)

pairs-more : (n m : ℕ) (pairs : List (ℕ × ℕ)) → n ≤ m → All (IsPairWithin n) pairs → All (IsPairWithin m) pairs
pairs-more n m pairs le h k d lt = omega (arith, le, h k d lt)

-- one more at the end
one-more : {A : Type 0} (P : A → Type 0) (xs : List A) (x : A) → All P xs → P x → All P (xs ++ x ∷ [])
one-more P xs x h p = All-append P xs (x ∷ []) h (All-cons P x [] p (All-nil P))

-- what a listener that owes no read was told of lies below its mark or what it knows the wakes of
abbrev IsToRead : Bool → Option ℕ → ℕ → ℕ → Type 0
IsToRead owes mark told signalled = owes ≡ false → IfSome mark (λ own. told ≤ max own signalled)

-- a pass that has seen more, and was told of no less
pub seen-more : (k : Known) (seen : List Tx) (told signalled : ℕ) (owes : Bool) → length k.seen ≤ length seen → k.told ≤ told → told ≤ next_xid seen → k.signalled ≤ signalled → signalled ≤ told
    → IsToRead owes k.mark told signalled → IsWithin k → IsWithin (record k { seen = seen; told = told; signalled = signalled; owes = owes })
seen-more k seen told signalled owes longer_seen more_told within more_signalled below to_read w = record {
  mark = mark-more (next_xid k.seen) (next_xid seen) k.mark (omega (arith, longer_seen)) w.mark;
  marks = marks-more (next_xid k.seen) (next_xid seen) k.marks (omega (arith, longer_seen)) w.marks;
  first = omega (arith, w.first, more_signalled);
  told = within;
  told_of_read = mark-more k.told told k.mark more_told w.told_of_read;
  signalled = below;
  own = own-more k.signalled signalled k.own more_signalled w.own;
  raised = pairs-more k.told told k.raised more_told w.raised;
  found = pairs-more k.told told k.found more_told w.found;
  to_read = to_read;
}

-- a pass that has learned
learned-more : (k : Known) (more : List Tx) → IsWithin k → IsWithin (record k { seen = k.seen ++ more })
learned-more k more w =
    seen-more k (k.seen ++ more) k.told k.signalled k.owes (omega (arith, length-append k.seen more)) (omega arith) (omega (arith, w.told, length-append k.seen more))
    (omega arith) w.signalled w.to_read w

-- who knows the wakes of all that it was told of has nothing to read of it
all-signalled : (owes : Bool) (mark : Option ℕ) (told : ℕ) → IsToRead owes mark told told
all-signalled owes None told unowed = tt
all-signalled owes (Some own) told unowed = omega arith

-- a pass that has finished the journal's next transaction
finished : (k : Known) (more : List Tx) (tx : Tx) (x : ℕ) → x ≡ next_xid (k.seen ++ more) → IsWithin k
    → IsWithin (record k { seen = k.seen ++ more ++ tx ∷ []; own = k.own ++ x ∷ []; told = x + 1; signalled = x + 1 })
finished k more tx x is w =
    let whole = length-append (k.seen ++ more) (tx ∷ []) in
    let part : length (k.seen ++ more) ≡ length k.seen + length more = length-append k.seen more in
    let s : IsWithin (record k { seen = k.seen ++ more ++ tx ∷ []; told = x + 1; signalled = x + 1 }) =
    seen-more k (k.seen ++ more ++ tx ∷ []) (x + 1) (x + 1) k.owes (omega (arith, whole)) (omega (arith, is, part, w.told)) (omega (arith, is, part, whole)) (omega (arith, is, part, w.told, w.signalled)) (omega arith)
    (all-signalled k.owes k.mark (x + 1)) w in
    record {
      mark = s.mark;
      marks = s.marks;
      first = s.first;
      told = s.told;
      told_of_read = s.told_of_read;
      signalled = s.signalled;
      own = one-more (λ y. y < x + 1) k.own x s.own (omega arith);
      raised = s.raised;
      found = s.found;
      to_read = s.to_read;
    }

-- where either of two gives false, both are
first-no : (a b : Bool) → (a || b) ≡ false → a ≡ false
first-no false b h = refl
first-no true b h = h

second-no : (a b : Bool) → (a || b) ≡ false → b ≡ false
second-no false b h = h
second-no true false h = refl
second-no true true h = h

-- a read that is owed is none that is not
no-owed : (mark : Option ℕ) (told signalled : ℕ) → true ≡ false → IfSome mark (λ own. told ≤ max own signalled)
no-owed mark told signalled unowed = absurd (true≢false unowed)

-- a listener that is told up to a number, and then owes no read
told-on : (owes : Bool) (mark : Option ℕ) (told signalled x more : ℕ) → signalled ≤ more → IsToRead owes mark told signalled
    → IsToRead (owes || (is_some mark && nat_lt told x)) mark (max told x) more
told-on owes None told signalled x more up h unowed = tt
told-on owes (Some own) told signalled x more up h unowed =
    omega (arith, up, h (first-no owes (nat_lt told x) unowed), ltb-false told x (second-no owes (nat_lt told x) unowed))

-- the longer of two is as long as each
longer-first : (xs ys more : List Tx) → length xs ≤ length (longer xs ys ++ more)
longer-first xs ys more = omega (arith, length-append (longer xs ys) more, length-append xs (drop (length xs) ys))

longer-second : (xs ys more : List Tx) → length ys ≤ length (longer xs ys ++ more)
longer-second xs ys more = omega (arith, length-append (longer xs ys) more, length-append xs (drop (length xs) ys), length-drop (length xs) ys)

max-within : (a b n : ℕ) → a ≤ n → b ≤ n → max a b ≤ n
max-within a b n h k = omega (arith, h, k)

-- a pass that stands at a mark within what it has seen, which is no less than what it was told, and up to which it is now told
stands-at : (k : Known) (more : List Tx) (mark : ℕ) (set : List (List ℕ)) (marks : List ℕ) → mark ≤ next_xid (k.seen ++ more) → k.told ≤ mark
    → All (λ own. own ≤ next_xid (k.seen ++ more)) marks → IsWithin k
    → IsWithin (record k { seen = k.seen ++ more; mark = Some mark; told = max k.told mark; set = set; marks = marks; owes = false })
stands-at k more mark set marks within after all w =
    let up : k.told ≤ max k.told mark = omega arith in
    record {
      mark = within;
      marks = all;
      first = w.first;
      told = omega (arith, after, within);
      told_of_read = omega arith;
      signalled = omega (arith, w.signalled);
      own = w.own;
      raised = pairs-more k.told (max k.told mark) k.raised up w.raised;
      found = pairs-more k.told (max k.told mark) k.found up w.found;
      to_read = λ unowed. omega (arith, after);
    }

-- what always holds of a pass holds when it is opened, and each call keeps it
pub calls-keep_within : CallsKeepWithin
calls-keep_within = record {
  opened = opened-within;
  published = λ old new notes x h w.
      let f = finished old h.more _ x h.number w in
      subst IsWithin (sym h.known) (record {
        mark = f.mark;
        marks = f.marks;
        first = f.first;
        told = f.told;
        told_of_read = f.told_of_read;
        signalled = f.signalled;
        own = f.own;
        raised = f.raised;
        found = f.found;
        to_read = f.to_read;
      });
  met_full = λ shape old new notes full h w.
      let f = finished old h.more _ full.xid h.number w in
      subst IsWithin (sym h.known) (record {
        mark = f.mark;
        marks = f.marks;
        first = f.first;
        told = f.told;
        told_of_read = f.told_of_read;
        signalled = f.signalled;
        own = f.own;
        raised = f.raised;
        found = f.found;
        to_read = f.to_read;
      });
  enlisted = λ old new got h w.
      let l = learned-more old h.more w in
      let seen : length new.seen ≡ length (old.seen ++ h.more) = ap (λ (k : Known). length k.seen) h.known in
      let point : got.point ≤ next_xid (old.seen ++ h.more) = omega (arith, h.in_seen, seen) in
      let marks : All (λ own. own ≤ next_xid (old.seen ++ h.more)) (old.marks ++ got.base ∷ [] ++ got.point ∷ []) =
      one-more (λ own. own ≤ next_xid (old.seen ++ h.more)) (old.marks ++ got.base ∷ []) got.point
      (one-more (λ own. own ≤ next_xid (old.seen ++ h.more)) old.marks got.base l.marks (omega (arith, point, h.ordered))) point in
      subst IsWithin (sym h.known) (stands-at old h.more got.point [] (old.marks ++ got.base ∷ [] ++ got.point ∷ []) point h.after_told marks w);
  interested = λ old new set h w.
      subst IsWithin (sym h) (record {
        mark = w.mark;
        marks = w.marks;
        first = w.first;
        told = w.told;
        told_of_read = w.told_of_read;
        signalled = w.signalled;
        own = w.own;
        raised = w.raised;
        found = w.found;
        to_read = λ unowed. no-owed old.mark old.told old.signalled unowed;
      });
  read = λ old new set to before after h w.
      let l = learned-more old h.more w in
      let seen : length new.seen ≡ length (old.seen ++ h.more) = ap (λ (k : Known). length k.seen) h.known in
      let end : to ≤ next_xid (old.seen ++ h.more) = omega (arith, h.in_seen, seen) in
      subst IsWithin (sym h.known) (stands-at old h.more to old.set (old.marks ++ to ∷ []) end h.after_told (one-more (λ own. own ≤ next_xid (old.seen ++ h.more)) old.marks to l.marks end) w);
  learned = λ old new h w. subst IsWithin (sym h.known) (learned-more old h.more w);
  left = λ old new h w.
      let l = learned-more old h.more w in
      subst IsWithin (sym h.known) (record {
        mark = tt;
        marks = l.marks;
        first = l.first;
        told = l.told;
        told_of_read = tt;
        signalled = l.signalled;
        own = l.own;
        raised = l.raised;
        found = l.found;
        to_read = λ unowed. tt;
      });
  woken = λ format old new woken h w.
      let l = learned-more old h.more w in
      subst IsWithin (sym h.known) (record {
        mark = l.mark;
        marks = l.marks;
        first = l.first;
        told = l.told;
        told_of_read = l.told_of_read;
        signalled = l.signalled;
        own = l.own;
        raised = l.raised;
        found = l.found;
        to_read = λ unowed. l.to_read (second-no h.was_set old.owes (sym h.cause ∙ unowed));
      });
  raised = λ old new flag x h w.
      let l = learned-more old h.more w in
      subst IsWithin (sym h.known) (record {
        mark = l.mark;
        marks = l.marks;
        first = l.first;
        told = l.told;
        told_of_read = l.told_of_read;
        signalled = l.signalled;
        own = l.own;
        raised = one-more (IsPairWithin old.told) old.raised (flag, x) l.raised (omega (arith, h.shown));
        found = l.found;
        to_read = l.to_read;
      });
  found_none = λ old new flag h w.
      let l = learned-more old h.more w in
      subst IsWithin (sym h.known) (record {
        mark = l.mark;
        marks = l.marks;
        first = l.first;
        told = l.told;
        told_of_read = l.told_of_read;
        signalled = l.signalled;
        own = l.own;
        raised = l.raised;
        found = l.found;
        to_read = l.to_read;
      });
  found = λ old new flag x h below w.
      let seen : length new.seen ≡ length (old.seen ++ h.more) = ap (λ (k : Known). length k.seen) h.known in
      let l = seen-more old (old.seen ++ h.more) (max old.told x) old.signalled (owes_after old x) (omega (arith, length-append old.seen h.more)) (omega arith)
      (max-within old.told x (next_xid (old.seen ++ h.more)) (omega (arith, w.told, length-append old.seen h.more)) (omega (arith, below, seen)))
      (omega arith) (omega (arith, w.signalled)) (told-on old.owes old.mark old.told old.signalled x old.signalled (omega arith) w.to_read) w in
      subst IsWithin (sym h.known) (record {
        mark = l.mark;
        marks = l.marks;
        first = l.first;
        told = l.told;
        told_of_read = l.told_of_read;
        signalled = l.signalled;
        own = l.own;
        raised = l.raised;
        found = one-more (IsPairWithin (max old.told x)) old.found (flag, x) l.found (omega arith);
        to_read = l.to_read;
      });
  measured = λ shape old new usage h w.
      let l = learned-more old h.more w in
      subst IsWithin (sym h.known) (record {
        mark = l.mark;
        marks = l.marks;
        first = l.first;
        told = l.told;
        told_of_read = l.told_of_read;
        signalled = l.signalled;
        own = l.own;
        raised = l.raised;
        found = l.found;
        to_read = l.to_read;
      });
  heard = λ from old new h wf w.
      subst IsWithin (sym h.known) (seen-more old (longer old.seen from.seen ++ h.more) (max old.told from.told) (max old.signalled from.signalled) (owes_after old from.told)
      (longer-first old.seen from.seen h.more) (omega arith)
      (max-within old.told from.told (next_xid (longer old.seen from.seen ++ h.more)) (omega (arith, w.told, longer-first old.seen from.seen h.more)) (omega (arith, wf.told, longer-second old.seen from.seen h.more)))
      (omega arith) (omega (arith, w.signalled, wf.signalled))
      (told-on old.owes old.mark old.told old.signalled from.told (max old.signalled from.signalled) (omega arith) w.to_read) w);
}
