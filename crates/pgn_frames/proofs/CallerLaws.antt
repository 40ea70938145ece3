-- What callers have put.
use Rattle.std.proofs.Common.{◌≡◌, ℕ, ◌+◌, ◌<◌, Bool, true, false, List, [], ◌∷◌, ◌++◌, length, drop, Option, Some, None, Result, Ok, Err, OnOk, OnErr, IfOk, is_err, sym, ap, ◌∙◌, subst, refl, arith, inl, append_assoc, append-nil}
use Rattle.std.specs.Prelude.{map}
use Rattle.std.proofs.lemmas.List.{map-append, drop-drop}
use Rattle.pgn_outlet.specs.declared.came.Came.{Came}
use Rattle.pgn_outlet.specs.declared.hand.Hand.{Hand}
use Rattle.pgn_outlet.specs.Passes.{knows}
use Rattle.pgn_outlet.specs.Rule.{MayPush}
use Rattle.pgn_messages.specs.declared.asked.Ask.{Ask}
use Rattle.pgn_messages.specs.declared.asked.Ask.TheVariants as ask
use Rattle.pgn_messages.specs.declared.asked.Parting.{Parting}
use Rattle.pgn_messages.specs.declared.asked.Parting.TheVariants.{Spent}
use Rattle.pgn_frames.specs.declared.caller.Caller.{Caller}
use Rattle.pgn_frames.specs.Clients.{QueryNext, SeatAsks, Tally}
use Rattle.pgn_frames.specs.Callers.{AskOn, HasAsked, HasCome, HasEnded, IsSpent, IsUnfinished, PartsBy, Stand, Takes, TakesBytes, TakesFirst, TakesFirstBytes, Waits, behind_end, carried, holding, parting_behind, stand_of, with_put}
use Rattle.pgn_frames.specs.Frames.{signs_in}
use Rattle.pgn_frames.proofs.StandLaws.{HasCome-then, asks_on, come-end, come-in, come-left, come-over, come-passed, come-query, spent_by}

-- what follows where a call answers so
pub on_ok : {A E : Type 0} (r : Result A E) (P Q : Type 0) → (P → Q) → OnOk r P → OnOk r Q
on_ok (Ok a) P Q f h = f h
on_ok (Err e) P Q f h = tt

-- what follows from a fact holds where it does, in a refusal
pub on_err : {A E : Type 0} (r : Result A E) (P Q : Type 0) → (P → Q) → OnErr r P → OnErr r Q
on_err (Ok a) P Q f h = tt
on_err (Err e) P Q f h = f h

-- what holds anyhow holds in a refusal
pub err_any : {A E : Type 0} (r : Result A E) (P : Type 0) → P → OnErr r P
err_any (Ok a) P h = tt
err_any (Err e) P h = h

-- where the result is a refusal, what is said of one holds
pub err_of : {A E : Type 0} (r : Result A E) (P : Type 0) → is_err r ≡ true → OnErr r P → P
err_of (Ok a) P e h = absurd (cc)
err_of (Err x) P e h = h

-- where it is none, what is said of an Ok holds
pub ok_of : {A E : Type 0} (r : Result A E) (P : Type 0) → is_err r ≡ false → OnOk r P → P
ok_of (Ok a) P e h = h
ok_of (Err x) P e h = absurd (cc)

-- two facts of an Ok, and what they give of its value
pub if_ok-both : {A E : Type 0} (r : Result A E) (P R : Type 0) (Q : A → Type 0) → ((a : A) → P → R → Q a) → OnOk r P → OnOk r R → IfOk r Q
if_ok-both (Ok a) P R Q f h k = f a h k
if_ok-both (Err e) P R Q f h k = tt

-- what holds of an answer that is no error holds of its value
pub if_ok-at : {A E : Type 0} (r : Result A E) (a : A) (P : A → Type 0) → r ≡ Ok a → IfOk r P → P a
if_ok-at (Ok b) a P e h = let same : b ≡ a = cc in subst P same h
if_ok-at (Err x) a P e h = absurd (cc)

-- what is put, one behind another
pub put_none : (seat : ℕ) (v : Hand (Option Ask)) → v ≡ with_put seat v []
put_none seat v = ap (λ (l : List (Came (Option Ask))). let w : Hand (Option Ask) = record v { sent = l } in w) (sym (append-nil v.sent))

put_more : (seat : ℕ) (v : Hand (Option Ask)) (xs ys : List Ask) → with_put seat (with_put seat v (map Some xs)) (map Some ys) ≡ with_put seat v (map Some (xs ++ ys))
put_more seat v xs ys =
    let both : carried seat (map Some xs) ++ carried seat (map Some ys) ≡ carried seat (map Some (xs ++ ys))
    = sym (map-append (λ (what : Option Ask). let c : Came (Option Ask) = record { session = seat; what = what } in c) (map Some xs) (map Some ys)) ∙ ap (carried seat) (sym (map-append Some xs ys)) in
    let all : (v.sent ++ carried seat (map Some xs)) ++ carried seat (map Some ys) ≡ v.sent ++ carried seat (map Some (xs ++ ys))
    = append_assoc v.sent (carried seat (map Some xs)) (carried seat (map Some ys)) ∙ ap (λ (l : List (Came (Option Ask))). v.sent ++ l) both in
    ap (λ (l : List (Came (Option Ask))). let w : Hand (Option Ask) = record v { sent = l } in w) all

-- what was put in two steps was put in one
pub put-then : (seat : ℕ) (u v w : Hand (Option Ask)) (xs ys : List Ask) → v ≡ with_put seat u (map Some xs) → w ≡ with_put seat v (map Some ys) → w ≡ with_put seat u (map Some (xs ++ ys))
put-then seat u v w xs ys e f = f ∙ ap (λ (h : Hand (Option Ask)). with_put seat h (map Some ys)) e ∙ put_more seat u xs ys

-- a pass that has put may push still
pub may-put : (seat number : ℕ) (v w : Hand (Option Ask)) (whats : List (Option Ask)) → w ≡ with_put seat v whats → MayPush v number → MayPush w number
may-put seat number v w whats e h = subst (λ (h : Hand (Option Ask)). MayPush h number) (sym e) h

-- nothing was put
pub First-none : (seat : ℕ) (old new : Caller) (signs : List (Option ℕ)) → knows new.asks ≡ knows old.asks → TakesFirst seat old new signs
First-none seat old new signs e =
    let some = asks_on (stand_of old) signs in
    record { asks = []; put = e ∙ put_none seat (knows old.asks); others = some.0; asked = some.1 }

-- a caller that has put nothing has taken the first bytes, which are none
pub FirstBytes-none : (seat : ℕ) (old new : Caller) (bytes : List ℕ) → knows new.asks ≡ knows old.asks → TakesFirstBytes seat old new bytes
FirstBytes-none seat old new bytes e =
    let some = asks_on (holding old bytes) [] in
    record { asks = []; put = e ∙ put_none seat (knows old.asks); others = some.0; asked = some.1 }

-- what was put is the first of what is asked
pub First-all : (seat : ℕ) (old new : Caller) (signs : List (Option ℕ)) → Takes seat old new signs → TakesFirst seat old new signs
First-all seat old new signs t =
    let some = asks_on (stand_of new) [] in record {
      asks = t.asks;
      put = t.put;
      others = some.0;
      asked = subst (λ (l : List (Option ℕ)). AskOn (stand_of old) l (t.asks ++ some.0)) (append-nil signs) (t.come [] some.0 some.1);
    }

-- one that has taken bytes, and put nothing since, has taken the first of them
pub FirstBytes-all : (seat : ℕ) (old mid new : Caller) (bytes : List ℕ) (n : ℕ) → TakesBytes seat old mid bytes n → knows new.asks ≡ knows mid.asks → TakesFirstBytes seat old new bytes
FirstBytes-all seat old mid new bytes n t e =
    let some = asks_on (holding mid (drop n bytes)) [] in
    record { asks = t.asks; put = e ∙ t.put; others = some.0; asked = t.come [] some.0 some.1 }

-- a client that has left is passed over
signs_some : (bytes : List ℕ) → 0 < length bytes → signs_in bytes ≡ map Some bytes
signs_some [] some = absurd (omega arith)
signs_some (x ∷ bytes) some = refl

-- a caller whose client has left takes bytes by passing over them
pub Takes-passed : (seat : ℕ) (old : Caller) (bytes : List ℕ) → old.left ≡ true → 0 < length bytes → Takes seat old old (signs_in bytes)
Takes-passed seat old bytes left some = record {
  asks = [];
  put = put_none seat (knows old.asks);
  come = subst (λ (l : List (Option ℕ)). HasCome (stand_of old) l [] (stand_of old)) (sym (signs_some bytes some)) (come-passed old.counts old.begun.items bytes old.left left);
  waits = λ e. let both : true ≡ false = sym left ∙ e in absurd (cc);
}

-- the end of one that has left
pub Takes-over : (seat : ℕ) (old new : Caller) → old.left ≡ true → new.left ≡ false → new.begun.items ≡ [] → new.counts ≡ old.counts → knows new.asks ≡ knows old.asks → Takes seat old new (None ∷ [])
Takes-over seat old new was is none same e = record {
  asks = [];
  put = e ∙ put_none seat (knows old.asks);
  come = come-over old.counts new.counts old.begun.items new.begun.items old.left new.left was is none same;
  waits = λ _. inl none;
}

-- of one that has not
pub Takes-parted : (seat : ℕ) (old mid new : Caller) (parting : Parting) → Waits (stand_of old) → old.left ≡ false → parting ≡ parting_behind old.begun.items → mid.asks ≡ old.asks → mid.counts ≡ old.counts
    → HasEnded seat mid new parting → new.left ≡ false → new.begun.items ≡ [] → Takes seat old new (None ∷ [])
Takes-parted seat old mid new parting waits was how asks same ended is none =
    let number : mid.counts.lines + 1 ≡ old.counts.lines + 1 = ap (λ (p : Tally). p.lines + 1) same in
    let told : ask.End (mid.counts.lines + 1) parting ≡ ask.End (old.counts.lines + 1) (parting_behind old.begun.items)
    = ap (λ (n : ℕ). ask.End n parting) number ∙ ap (λ (p : Parting). ask.End (old.counts.lines + 1) p) how in record {
      asks = ask.End (old.counts.lines + 1) (parting_behind old.begun.items) ∷ [];
      put = ended.put ∙ ap (λ (a : Ask). with_put seat (knows mid.asks) (Some a ∷ [])) told
          ∙ ap (λ (v : Hand (Option Ask)). with_put seat v (Some (ask.End (old.counts.lines + 1) (parting_behind old.begun.items)) ∷ [])) (ap knows asks);
      come = come-end old.counts new.counts old.begun.items new.begun.items old.left new.left (waits was) (ended.next ∙ ap behind_end same) none was is;
      waits = λ _. inl none;
    }

-- a query was
pub Bytes-query : (seat : ℕ) (old new : Caller) (bytes body : List ℕ) (n : ℕ) → QueryNext bytes body (drop n bytes) → HasAsked seat old new body → old.left ≡ false → new.left ≡ false → TakesBytes seat old new bytes n
Bytes-query seat old new bytes body n q h was is = record {
  asks = h.ask ∷ [];
  put = h.put;
  come = come-query old.counts new.counts h.ask bytes body (drop n bytes) old.left new.left q h.is h.next h.few was is;
}

-- the client left
pub Bytes-left : (seat : ℕ) (old mid new : Caller) (bytes : List ℕ) (parting : Parting) (n : ℕ) → PartsBy parting old.counts bytes → mid.counts ≡ old.counts → knows mid.asks ≡ knows old.asks
    → HasEnded seat mid new parting → old.left ≡ false → new.left ≡ true → TakesBytes seat old new bytes n
Bytes-left seat old mid new bytes parting n by same e ended was is =
    let number : mid.counts.lines + 1 ≡ old.counts.lines + 1 = ap (λ (p : Tally). p.lines + 1) same in record {
      asks = ask.End (old.counts.lines + 1) parting ∷ [];
      put = ended.put ∙ ap (λ (k : ℕ). with_put seat (knows mid.asks) (Some (ask.End k parting) ∷ [])) number
          ∙ ap (λ (v : Hand (Option Ask)). with_put seat v (Some (ask.End (old.counts.lines + 1) parting) ∷ [])) e;
      come = come-left old.counts new.counts bytes (drop n bytes) parting old.left new.left by (ended.next ∙ ap behind_end same) was is;
    }

-- by a query with which there are too many lines
pub Bytes-spent : (seat : ℕ) (old mid new : Caller) (bytes body rest : List ℕ) (n : ℕ) → QueryNext bytes body rest → IsSpent old mid body → HasEnded seat mid new Spent → old.left ≡ false → new.left ≡ true
    → TakesBytes seat old new bytes n
Bytes-spent seat old mid new bytes body rest n q h ended was is =
    Bytes-left seat old mid new bytes Spent n (spent_by old.counts bytes body rest h.ask q h.is h.many) h.next h.same ended was is

-- one message behind others
pub Bytes-then : (seat : ℕ) (old mid new : Caller) (bytes : List ℕ) (at n to : ℕ) → TakesBytes seat old mid bytes at → TakesBytes seat mid new (drop at bytes) n → to ≡ at + n → TakesBytes seat old new bytes to
Bytes-then seat old mid new bytes at n to t u e = record {
  asks = t.asks ++ u.asks;
  put = put-then seat (knows old.asks) (knows mid.asks) (knows new.asks) t.asks u.asks t.put u.put;
  come = subst (λ (l : List ℕ). HasCome (holding old bytes) [] (t.asks ++ u.asks) (holding new l)) (drop-drop n at bytes ∙ ap (λ (k : ℕ). drop k bytes) (sym e))
      (HasCome-then (holding old bytes) (holding mid (drop at bytes)) (holding new (drop n (drop at bytes))) [] [] t.asks u.asks t.come u.come);
}

-- what is kept of bytes that came
pub Takes-bytes : (seat : ℕ) (old mid new : Caller) (bytes : List ℕ) (n : ℕ) → old.left ≡ false → TakesBytes seat old mid (old.begun.items ++ bytes) n → IsUnfinished (drop n (old.begun.items ++ bytes))
    → new.counts ≡ mid.counts → new.left ≡ mid.left → knows new.asks ≡ knows mid.asks → new.begun.items ≡ drop n (old.begun.items ++ bytes) → Takes seat old new (map Some bytes)
Takes-bytes seat old mid new bytes n was t cut same left e kept =
    let end : holding mid (drop n (old.begun.items ++ bytes)) ≡ stand_of new
    = ap (λ (p : Tally). let s : Stand = record { tally = p; begun = drop n (old.begun.items ++ bytes); left = mid.left } in s) (sym same)
    ∙ ap (λ (l : List ℕ). let s : Stand = record { tally = new.counts; begun = l; left = mid.left } in s) (sym kept)
    ∙ ap (λ (b : Bool). let s : Stand = record { tally = new.counts; begun = new.begun.items; left = b } in s) (sym left) in record {
      asks = t.asks;
      put = e ∙ t.put;
      come = come-in old.counts old.begun.items bytes t.asks old.left (stand_of new) was (subst (λ (s : Stand). HasCome (holding old (old.begun.items ++ bytes)) [] t.asks s) end t.come);
      waits = λ _. subst (λ (l : List ℕ). IsUnfinished l) (sym kept) cut;
    }

-- behind the begun message and the first bytes the client was asked for what these ask
pub First-bytes : (seat : ℕ) (old new : Caller) (bytes : List ℕ) → old.left ≡ false → TakesFirstBytes seat old new (old.begun.items ++ bytes) → TakesFirst seat old new (map Some bytes)
First-bytes seat old new bytes was t = record { asks = t.asks; put = t.put; others = t.others; asked = asked_in old.left was t.asked }
  where
    asked_in : (left : Bool) → left ≡ false → AskOn (record { tally = old.counts; begun = old.begun.items ++ bytes; left = left }) [] (t.asks ++ t.others)
        → AskOn (record { tally = old.counts; begun = old.begun.items; left = left }) (map Some bytes) (t.asks ++ t.others)
    asked_in false e h = subst (λ (l : List (Option ℕ)). SeatAsks old.counts l (t.asks ++ t.others)) (append-nil (map Some (old.begun.items ++ bytes)) ∙ map-append Some old.begun.items bytes) h
    asked_in true e h = absurd (cc)
