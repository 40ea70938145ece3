-- What the arms of a service come to.
use Rattle.std.proofs.Common.{◌≡◌, ℕ, Bool, true, false, ◌+◌, ◌<◌, ◌≤◌, cond, List, [], ◌∷◌, ◌++◌, length, flat_map, get_or, Option, Some, None, IfOk, ◌⊎◌, Result, Ok, Err, OnOk, ◌==◌, sym, ap, ◌∙◌, refl, subst, arith, append-nil, append_assoc}
use Rattle.std.specs.Io.KnownBytes.{Appends}
use Rattle.std.proofs.lemmas.Grind.{flat_map-append}
use Rattle.std.proofs.lemmas.List.Elements.{All-nil, All-append, All-weaker}
use Rattle.std.specs.declared.alloc.AllocError.{AllocError}
use Rattle.pgn_base.specs.declared.source.Failed.{Failed}
use Rattle.pgn_base.specs.Outside.{HasCause, Rose}
use Rattle.pgn_hub.specs.declared.known.Known.{Known}
use Rattle.pgn_hub.specs.Shape.{Shape}
use Rattle.pgn_outlet.specs.declared.came.Came.{Came}
use Rattle.pgn_outlet.specs.declared.hand.Hand.{Hand}
use Rattle.pgn_outlet.specs.declared.outlet.Outlet.{Outlet}
use Rattle.pgn_outlet.specs.Cames.{what_in, what_of}
use Rattle.pgn_outlet.specs.Passes.{HasAll, knows}
use Rattle.pgn_outlet.specs.Rule.{MayPush, sender, taken_over, taker}
use Rattle.pgn_text.specs.declared.out.Out.{Out}
use Rattle.pgn_text.specs.Rendering.{Puts}
use Rattle.pgn_text.proofs.PutsLaws.{Puts-none, Puts-same, Puts-trans, Writes-from_Puts}
use Rattle.pgn_messages.specs.declared.asked.Ask.{Ask}
use Rattle.pgn_messages.specs.declared.saying.Saying.{Saying}
use Rattle.pgn_messages.specs.Sayings.{all_told, signs_told}
use Rattle.pgn_messages.specs.Turns.{IsPlain}
use Rattle.pgn_seats.specs.declared.desk.Desk.{Desk}
use Rattle.pgn_seats.specs.Desks.{AreSameClients, HaveServed, MayBegin, MayServe}
use Rattle.pgn_seats.specs.Serving.{HasToldFirst, taken}
use Rattle.pgn_frames.specs.declared.caller.Caller.{Caller}
use Rattle.pgn_frames.specs.declared.framing.NoFrame.TheVariants as none
use Rattle.pgn_frames.specs.Clients.{ClientAsks, Open, SeatAsks, first_tally}
use Rattle.pgn_frames.specs.Frames.{Frame, IsFrame, frame_bytes, signs_in, signs_of}
use Rattle.pgn_frames.specs.declared.frame_fault.FrameFault.{FrameFault}
use Rattle.pgn_frames.specs.declared.framing.NoFrame.{NoFrame}
use Rattle.pgn_frames.specs.Reading.{AreFirstFrames, Begins, HasPutFirst, HasReadAll, HasReadFirst, HasReadSome, OfMost}
use Rattle.pgn_frames.specs.Writing.{Wrote}
use Rattle.pgn_frames.proofs.FrameLaws.{each_has_frames}
use Rattle.pgn_service.specs.Arms.{HasRead, HasReadBy, HasToldBy, HasWrittenRest, with_over}
use Rattle.pgn_service.specs.Service.{over_frame}

-- Nothing was read.

first-of : (seats : ℕ) (bytes : Option (List ℕ)) → AreFirstFrames seats bytes []
first-of seats None = record { more = []; fault = None; are = tt }
first-of seats (Some all) =
    let found = each_has_frames seats 0 all in
    record { more = found.0; fault = found.1; are = found.2 }

asked-nothing : (most : ℕ) → SeatAsks (first_tally most) [] []
asked-nothing most = SeatAsks.Last (first_tally most) [] [] [] Open refl (ClientAsks.Stops (first_tally most) [] refl)

put-nothing : (most seat : ℕ) (inbox : Outlet (Option Ask)) (caller : Caller) → Begins most seat inbox caller → HasPutFirst most [] seat inbox caller
put-nothing most seat inbox caller h = record {
  own = h.own;
  asks = [];
  asked = asked-nothing most;
  now = [];
  others = None ∷ [];
  first = refl;
  put = h.unused;
}

-- a reader that has not begun has read nothing, as one that memory did not suffice for
pub nothing-read : {S : Type 0} (left : S → Option (List ℕ)) (faults : S → ℕ) (inboxes : List (Outlet (Option Ask))) (callers : List Caller) (source : S) → HasReadBy left faults inboxes callers callers source source (Err none.Memory)
nothing-read left faults inboxes callers source = record {
  read = λ most may. record {
    frames = [];
    are = first-of (length callers) (left source);
    asked = λ k inbox caller lt. put-nothing most (k + 1) (get_or inboxes k inbox) (get_or callers k caller) (may.begin k inbox caller lt);
  };
  count = refl;
  later = omega arith;
  failed = λ e. absurd (let bad : Err none.Memory ≡ Err none.Failed = e in cc);
  rose = λ lt. absurd (omega (arith, lt));
}

-- what was read, by how it ended
pub read-by : {S : Type 0} (left : S → Option (List ℕ)) (faults : S → ℕ) (inboxes : List (Outlet (Option Ask))) (old new : List Caller) (source source_now : S) (res : Result (Option FrameFault) NoFrame)
    → OfMost inboxes old (λ most. IfOk res (λ fault. HasReadAll most (left source) inboxes new fault)) → OfMost inboxes old (λ most. res ≡ Err none.Failed → HasReadFirst most (left source) inboxes new)
    → OfMost inboxes old (λ most. res ≡ Err none.Memory → HasReadSome most (left source) inboxes new) → length new ≡ length old → faults source ≤ faults source_now → (res ≡ Err none.Failed → Rose (faults source) (faults source_now))
    → (faults source < faults source_now → (res ≡ Err none.Failed) ⊎ (res ≡ Err none.Memory)) → HasReadBy left faults inboxes old new source source_now res
read-by left faults inboxes old new source source_now res done first some count later failed rose = record { read = λ most may. at most res (done most may) (first most may) (some most may); count = count; later = later; failed = failed; rose = rose }
  where
    at : (most : ℕ) (r : Result (Option FrameFault) NoFrame) → IfOk r (λ fault. HasReadAll most (left source) inboxes new fault) → (r ≡ Err none.Failed → HasReadFirst most (left source) inboxes new) → (r ≡ Err none.Memory → HasReadSome most (left source) inboxes new)
        → HasRead most (left source) inboxes new r
    at most (Ok fault) d f m = d
    at most (Err none.Failed) d f m = f refl
    at most (Err none.Memory) d f m = m refl

-- what a reader has read that has not begun
pub ruleset read_laws = (nothing-read)

-- Nothing was served.

begun-told : {P : Type 0} (is_own : P → Type 0) (shape : Shape) (known : P → Known) (inboxes : List (Outlet (Option Ask))) (v : Hand Saying) (desk : Desk P) → v.sent ≡ [] → MayBegin is_own shape known inboxes desk → HasToldFirst shape inboxes desk v
begun-told is_own shape known inboxes v desk unused h = record {
  lawful = record { journal = (known desk.session.pass).seen; state = h.rested.state; holds = h.rested.stands.holds };
  inbox = h.inbox;
  turns = [];
  plain = All-nil IsPlain;
  more = desk.session.items.items;
  items = refl;
  rest = desk.session.section.lines;
  lines = refl;
  others = taken desk.session.section.no (knows desk.asks);
  asked = refl;
  told = ap (λ (sent : List (Came Saying)). all_told (what_of desk.session.section.no sent)) unused;
}

same-clients : {P : Type 0} (desks : List (Desk P)) → AreSameClients desks desks
same-clients [] = tt
same-clients (desk ∷ desks) = (record { section = refl; plan = refl; patience = refl }, same-clients desks)

-- desks that have not begun have served nothing, whatever the refusal was
pub nothing-served : {P A E : Type 0} (is_own : P → Type 0) (shape : Shape) (known : P → Known) (inboxes : List (Outlet (Option Ask))) (desks : List (Desk P)) (v : Hand Saying) (e : E) → MayServe is_own shape known inboxes desks v
    → HaveServed {A = A} is_own shape known inboxes desks desks v v (Err e)
nothing-served is_own shape known inboxes desks v e may = record {
  clients = same-clients desks;
  told = All-weaker (MayBegin is_own shape known inboxes) (λ (desk : Desk _). HasToldFirst shape inboxes desk v) (λ desk. begun-told is_own shape known inboxes v desk may.unused) desks may.begin;
  served = tt;
  same = refl;
  others = λ m out. ap (λ (sent : List (Came Saying)). what_of m sent) may.unused;
}

-- what desks have done that have not begun
pub ruleset served_laws = (nothing-served)

-- What is written.

-- the signs that frames have for a seat, and those of more frames behind them
pub signs_of-append : (seat : ℕ) (xs ys : List Frame) → signs_of seat (xs ++ ys) ≡ signs_of seat xs ++ signs_of seat ys
signs_of-append seat [] ys = refl
signs_of-append seat (x ∷ xs) ys =
    let own : List (Option ℕ) = cond (x.seat == seat) (signs_in x.bytes) [] in
    ap (λ (rest : List (Option ℕ)). own ++ rest) (signs_of-append seat xs ys) ∙ sym (append_assoc own (signs_of seat xs) (signs_of seat ys))

-- where no write had failed, what is put fails by its cause
pub cause-from_Puts : {S : Type 0} {held : S → Option (List ℕ)} {faults : S → ℕ} {s₀ s₁ : S} {o₀ o₁ : Out} {text : List ℕ} → o₀.so_far ≡ Ok tt → Puts held faults s₀ o₀ s₁ o₁ text → HasCause (faults s₀) (faults s₁) o₁.so_far
cause-from_Puts {faults = faults} {s₀ = s₀} fine puts = puts.cause (faults s₀) (subst (λ (x : Result Unit Failed). HasCause (faults s₀) (faults s₀) x) (sym fine) (record { later = omega arith; failed = tt; passed = refl }))

module _ {S : Type 0} (held : S → Option (List ℕ)) (faults : S → ℕ) where
  -- where nothing came nothing was written
  pub wrote-none : (v : Hand Saying) (sink : S) (out : Out) → Wrote held faults v v sink out sink out
  wrote-none v sink out = record {
    more = [];
    got = ap (λ (l : List (Came Saying)). let w : Hand Saying = record v { got = l } in w) (sym (append-nil v.got));
    frames = [];
    carry = record { can_be_written = All-nil (IsFrame 256); signs = λ seat. refl };
    puts = Puts-none held faults sink out;
  }

  -- what is left once all was told
  pub rest-written : (v t c w : Hand Saying) (s₀ s₁ : S) (o₀ o₁ : Out) → c ≡ taken_over v t → Wrote held faults c w s₀ o₀ s₁ o₁ → HasAll w → OnOk o₁.so_far (o₁.kept ≡ []) → HasWrittenRest held faults v t o₀ s₀ s₁ o₁
  rest-written v t c w s₀ s₁ o₀ o₁ closed f has sent =
      let w_is : w ≡ record v { takes = true; got = t.got ++ f.more } = f.got ∙ ap (λ (x : Hand Saying). let y : Hand Saying = record x { got = x.got ++ f.more } in y) closed in
      record {
        more = f.more;
        all = λ seat may.
            sym (ap (λ (x : Hand Saying). what_of seat x.got) w_is) ∙ has seat (subst (λ (x : Hand Saying). MayPush x seat) (sym w_is) may) ∙ ap (λ (x : Hand Saying). what_of seat x.sent) w_is;
        outs = f.frames;
        carry = f.carry;
        puts = f.puts;
        sent = sent;
      }

  -- what all writes come to: those beside the desks, those of the rest, and of what is said at the end
  pub told-by : {P : Type 0} (is_own : P → Type 0) (shape : Shape) (known : P → Known) (inboxes : List (Outlet (Option Ask))) (old new : List (Desk P)) (u v t₀ t₁ : Hand Saying) (s₀ s₁ s₂ s₃ : S) (o₀ o₁ o₂ o₃ : Out) (over : Bool)
      (served : Result Unit AllocError) → u ≡ sender → HaveServed is_own shape known inboxes old new u v served → t₀ ≡ taker → Wrote held faults t₀ t₁ s₀ o₀ s₁ o₁ → HasWrittenRest held faults v t₁ o₁ s₁ s₂ o₂
      → Puts held faults s₂ o₂ s₃ o₃ (cond over over_frame []) → OnOk o₃.so_far (o₃.kept ≡ []) → o₀.kept ≡ [] → o₀.so_far ≡ Ok tt → (over ≡ true → OnOk served ⊥)
      → HasToldBy is_own shape known inboxes old new held faults s₀ s₃ (o₃.so_far, served)
  told-by is_own shape known inboxes old new u v t₀ t₁ s₀ s₁ s₂ s₃ o₀ o₁ o₂ o₃ over served sends ran takes f r said sent none fine refused = record {
    after = v;
    ran = subst (λ (x : Hand Saying). HaveServed is_own shape known inboxes old new x v served) sends ran;
    outs = f.frames ++ r.outs;
    carry = record {
      can_be_written = All-append (IsFrame 256) f.frames r.outs f.carry.can_be_written r.carry.can_be_written;
      signs = λ seat may.
          signs_of-append seat f.frames r.outs
          ∙ ap (λ (x : List (Option ℕ) × List (Option ℕ)). x.0 ++ x.1) (λ i. (f.carry.signs seat i, r.carry.signs seat i))
          ∙ sym (flat_map-append signs_told (what_of seat f.more) (what_of seat r.more))
          ∙ ap all_told (sym (flat_map-append (what_in seat) f.more r.more) ∙ ap (λ (l : List (Came Saying)). what_of seat (l ++ r.more)) (sym got) ∙ r.all seat may);
    };
    over = over;
    refused = refused;
    writes = Writes-from_Puts none fine puts (Puts-none held faults s₃ o₃) sent;
    cause = cause-from_Puts fine puts;
  }
    where
      got : t₁.got ≡ f.more
      got = ap (λ (x : Hand Saying). x.got) f.got ∙ ap (λ (x : Hand Saying). x.got ++ f.more) takes

      text : flat_map frame_bytes f.frames ++ (flat_map frame_bytes r.outs ++ cond over over_frame []) ≡ with_over over (f.frames ++ r.outs)
      text = sym (append_assoc (flat_map frame_bytes f.frames) (flat_map frame_bytes r.outs) (cond over over_frame [])) ∙ ap (λ (l : List ℕ). l ++ cond over over_frame []) (sym (flat_map-append frame_bytes f.frames r.outs))

      puts : Puts held faults s₀ o₀ s₃ o₃ (with_over over (f.frames ++ r.outs))
      puts = Puts-same {held = held} {faults = faults} text (Puts-trans f.puts (Puts-trans r.puts said))

none-written : (held : Option (List ℕ)) → Appends held held []
none-written None = tt
none-written (Some xs) = sym (append-nil xs)

-- nothing was told
pub told-nothing : {P S : Type 0} (held : S → Option (List ℕ)) (faults : S → ℕ) (is_own : P → Type 0) (shape : Shape) (known : P → Known) (inboxes : List (Outlet (Option Ask))) (desks : List (Desk P)) (sink : S) (e : AllocError)
    → MayServe is_own shape known inboxes desks sender → HasToldBy is_own shape known inboxes desks desks held faults sink sink (Ok tt, Err e)
told-nothing held faults is_own shape known inboxes desks sink e may = record {
  after = sender;
  ran = nothing-served is_own shape known inboxes desks sender e may;
  outs = [];
  carry = record { can_be_written = All-nil (IsFrame 256); signs = λ seat may_push. refl };
  over = false;
  refused = λ bad. absurd (cc);
  writes = none-written (held sink);
  cause = record { later = omega arith; failed = tt; passed = refl };
}

-- what a writer has written that has not begun
pub ruleset wrote_laws = (wrote-none)

-- what a service has told that has no outbox
pub ruleset told_laws = (told-nothing)
