-- A desk that serves, or has served, over a turn.
use Rattle.std.proofs.Common.{◌≡◌, ℕ, ◌-◌, ◌≤◌, true, List, [], ◌∷◌, ◌++◌, length, get_or, Option, Some, None, Result, Ok, Err, sym, ap, ◌∙◌, refl, subst, append-nil, inl, inr}
use Rattle.std.specs.Prelude.{map}
use Rattle.std.proofs.lemmas.List.{map-append}
use Rattle.std.proofs.lemmas.List.Elements.{All-nil}
use Rattle.std.specs.declared.alloc.AllocError.{AllocError}
use Rattle.pgn_language.specs.declared.scenario.ScriptLine.{ScriptLine}
use Rattle.pgn_language.specs.Inputs.{note_lines_of}
use Rattle.pgn_model.specs.declared.item.Item.TheVariants.{Line}
use Rattle.pgn_hub.specs.declared.known.Known.{Known}
use Rattle.pgn_hub.specs.Shape.{Shape}
use Rattle.pgn_outlet.specs.declared.came.Came.{Came}
use Rattle.pgn_outlet.specs.declared.hand.Hand.{Hand}
use Rattle.pgn_outlet.specs.declared.outlet.Outlet.{Outlet}
use Rattle.pgn_outlet.specs.Cames.{what_of}
use Rattle.pgn_outlet.specs.Passes.{IsPassOf, Pass, knows}
use Rattle.pgn_session.specs.declared.doing.Doing.{Doing}
use Rattle.pgn_session.specs.declared.doing.Doing.TheVariants.{Lines, Over}
use Rattle.pgn_session.specs.declared.session.Session.{Session}
use Rattle.pgn_session.specs.Open.{IsSameClient}
use Rattle.pgn_session.specs.Runs.{IsLawful}
use Rattle.pgn_session.specs.Whole.{HasRest, IsSameScript}
use Rattle.pgn_session.proofs.LawfulLaws.{rest-lawful}
use Rattle.pgn_session.proofs.OpenLaws.{begins-open, quit-same}
use Rattle.pgn_messages.specs.declared.asked.Ask.{Ask}
use Rattle.pgn_messages.specs.declared.saying.Saying.{Saying}
use Rattle.pgn_messages.specs.Asks.{seat_quit}
use Rattle.pgn_messages.specs.Sayings.{all_told}
use Rattle.pgn_messages.specs.Turns.{IsPlain, asks_of, said}
use Rattle.pgn_workers.specs.declared.turn.Turn.{Turn}
use Rattle.pgn_workers.specs.declared.turn.Turn.TheVariants.{Did, Ended}
use Rattle.pgn_seats.specs.declared.desk.Desk.{Desk}
use Rattle.pgn_seats.specs.Desks.{MayBegin}
use Rattle.pgn_seats.specs.Serving.{HasInbox, HasPushedFor, HasServed, HasToldFirst, IsSeated, Serves, taken}
use Rattle.pgn_seats.specs.Workers.{HasListened, HasTurned}
use Rattle.pgn_seats.specs.Working.{HasDone, HasDoneFirst, HasQuit, HasTried, IsAtWork, StaysDone, with_ask}
use Rattle.pgn_seats.proofs.DoneLaws.{done-first}
use Rattle.pgn_seats.proofs.ResultLaws.{by_either, err_then, ok_both, ok_then}
use Rattle.pgn_seats.proofs.SayLaws.{pushed-same}
use Rattle.pgn_seats.proofs.WorkLaws.{client-no, client-read, client-same, no-read, no-script, notes-read}

-- what is asked besides
asked-more : (asks : List Ask) (ask : Ask) (old new : List (Option Ask)) → old ≡ map Some asks → new ≡ old ++ Some ask ∷ [] → new ≡ map Some (asks ++ ask ∷ [])
asked-more asks ask old new e f = f ∙ ap (λ (l : List (Option Ask)). l ++ Some ask ∷ []) e ∙ sym (map-append Some asks (ask ∷ []))

-- what was taken, and one thing more, also the end
asked-also : (asks : List Ask) (one : Option Ask) (old new : List (Option Ask)) → old ≡ map Some asks → new ≡ old ++ one ∷ [] → new ≡ map Some asks ++ one ∷ []
asked-also asks one old new e f = f ∙ ap (λ (l : List (Option Ask)). l ++ one ∷ []) e

module _ {P : Type 0} (is_own : P → Type 0) (shape : Shape) (known : P → Known) (inboxes : List (Outlet (Option Ask))) where
  -- a desk that serves has done all that was asked
  pub serves-done : (desk : Desk P) (tells : Hand Saying) → (h : Serves is_own shape known inboxes desk tells) → HasDone [] (asks_of h.turns) desk.session desk.settings tells
  serves-done desk tells h = record { turns = h.turns; plain = h.in_turns.plain; asked = refl; lines = h.in_turns.lines; items = h.in_turns.items; told = h.told; settings = h.settings }

  -- and the other way round
  pub done-serves : (desk : Desk P) (tells : Hand Saying) (asks : List Ask) → IsAtWork is_own shape known desk.session → desk.notes ≡ note_lines_of desk.session.section.lines → HasInbox inboxes desk
      → HasDone [] asks desk.session desk.settings tells → taken desk.session.section.no (knows desk.asks) ≡ map Some asks → Serves is_own shape known inboxes desk tells
  done-serves desk tells asks work counted inbox done asked = record {
    own = work.own;
    served = work.served;
    rested = work.rested;
    is_open = work.is_open;
    counted = counted;
    inbox = inbox;
    turns = done.turns;
    in_turns = record { plain = done.plain; lines = done.lines; items = done.items };
    asked = asked ∙ ap (λ (l : List Ask). map Some l) (sym done.asked);
    told = done.told;
    settings = done.settings;
  }

  -- what was done first was told first
  pub first-told : (desk : Desk P) (tells : Hand Saying) (asks : List Ask) (others : List (Option Ask)) → IsLawful shape desk.session → HasInbox inboxes desk → HasDoneFirst asks desk.session tells
      → taken desk.session.section.no (knows desk.asks) ≡ map Some asks ++ others → HasToldFirst shape inboxes desk tells
  first-told desk tells asks others lawful inbox first asked = record {
    lawful = lawful;
    inbox = inbox;
    turns = first.turns;
    plain = first.plain;
    more = first.more;
    items = first.items;
    rest = first.rest ++ seat_quit ∷ [];
    lines = first.lines;
    others = others;
    asked = asked ∙ ap (λ (l : List Ask). map Some l ++ others) (sym first.asked);
    told = first.told;
  }

  -- a desk that serves has told whole turns
  pub serves-told : (desk : Desk P) (tells : Hand Saying) → Serves is_own shape known inboxes desk tells → HasToldFirst shape inboxes desk tells
  serves-told desk tells h =
      first-told desk tells (asks_of h.turns) [] (rest-lawful shape known desk.session h.rested) h.inbox (done-first [] (asks_of h.turns) desk.session desk.settings tells (serves-done desk tells h))
      (h.asked ∙ sym (append-nil (map Some (asks_of h.turns))))

  -- one that has served has told whole turns
  pub served-told : (desk : Desk P) (tells : Hand Saying) → HasServed is_own shape known inboxes desk tells → HasToldFirst shape inboxes desk tells
  served-told desk tells h = record {
    lawful = rest-lawful shape known desk.session h.rested;
    inbox = h.inbox;
    turns = h.turns;
    plain = h.quits.plain;
    more = Line seat_quit.line ∷ h.quits.more;
    items = h.quits.items;
    rest = seat_quit ∷ [];
    lines = h.quits.lines;
    others = None ∷ [];
    asked = h.asked;
    told = h.told;
  }

  -- who is over has served, and who is not serves
  pub seated-over : (desk : Desk P) (tells : Hand Saying) → desk.session.doing ≡ Over → IsSeated is_own shape known inboxes desk tells → HasServed is_own shape known inboxes desk tells
  seated-over desk tells over h = elim h [ inl serves ↦ absurd (apart desk.session.doing serves.is_open.between over) | inr served ↦ served ]
    where
      apart : (doing : Doing) → doing ≡ Lines → doing ≡ Over → ⊥
      apart doing e f = let both : Lines ≡ Over = sym e ∙ f in let no : ⊥ = cc in no

  -- a desk whose session is not over serves
  pub seated-serves : (desk : Desk P) (tells : Hand Saying) → (desk.session.doing ≡ Over → ⊥) → IsSeated is_own shape known inboxes desk tells → Serves is_own shape known inboxes desk tells
  seated-serves desk tells goes h = elim h [ inl serves ↦ serves | inr served ↦ absurd (goes served.over) ]

  -- the inbox of the same client
  pub inbox-kept : (old new : Desk P) → new.asks ≡ old.asks → new.session.section.no ≡ old.session.section.no → HasInbox inboxes old → HasInbox inboxes new
  inbox-kept old new asks number h = record {
    some = subst (λ (n : ℕ). 1 ≤ n) (sym number) h.some;
    within = subst (λ (n : ℕ). n ≤ length inboxes) (sym number) h.within;
    own = λ d. subst (λ (n : ℕ). IsPassOf (get_or inboxes (n - 1) d) new.asks) (sym number) (subst (λ (pass : Pass (Option Ask)). IsPassOf (get_or inboxes (old.session.section.no - 1) d) pass) (sym asks) (h.own d));
    takes = ap (λ (pass : Pass (Option Ask)). (knows pass).takes) asks ∙ h.takes;
  }

  -- what was taken by the same client
  pub taken-kept : (old new : Desk P) → new.asks ≡ old.asks → new.session.section.no ≡ old.session.section.no
      → taken new.session.section.no (knows new.asks) ≡ taken old.session.section.no (knows old.asks)
  taken-kept old new asks number = ap (λ (n : ℕ). taken n (knows new.asks)) number ∙ ap (λ (pass : Pass (Option Ask)). taken old.session.section.no (knows pass)) asks

  -- what was done first was told first, whatever a desk that serves has taken besides
  first-seat : (old new : Desk P) (asks : Pass (Option Ask)) (others : List (Option Ask)) (before after : Hand Saying) → (h : Serves is_own shape known inboxes old before) → HasInbox inboxes (record old { asks = asks })
      → taken old.session.section.no (knows asks) ≡ map Some (asks_of h.turns) ++ others → new.asks ≡ asks → new.session.section.no ≡ old.session.section.no → IsLawful shape new.session
      → HasDoneFirst (asks_of h.turns) new.session after → HasToldFirst shape inboxes new after
  first-seat old new asks others before after h inbox took same number lawful first =
      first-told new after (asks_of h.turns) others lawful (inbox-kept (record old { asks = asks }) new same number inbox) first (taken-kept (record old { asks = asks }) new same number ∙ took)

  -- it serves on behind a part of a turn that was done
  more-serves : (old new : Desk P) (asks : Pass (Option Ask)) (ask : Option Ask) (before after : Hand Saying) → (h : Serves is_own shape known inboxes old before) → HasInbox inboxes (record old { asks = asks })
      → taken old.session.section.no (knows asks) ≡ map Some (with_ask (asks_of h.turns) ask) → new.asks ≡ asks → new.session.section.no ≡ old.session.section.no → new.notes ≡ note_lines_of new.session.section.lines
      → IsAtWork is_own shape known new.session
      → (HasDone [] (asks_of h.turns) old.session old.settings before → HasDone [] (with_ask (asks_of h.turns) ask) new.session new.settings after) → Serves is_own shape known inboxes new after
  more-serves old new asks ask before after h inbox took same number counted work went =
      done-serves new after (with_ask (asks_of h.turns) ask) work counted (inbox-kept (record old { asks = asks }) new same number inbox) (went (serves-done old before h))
      (taken-kept (record old { asks = asks }) new same number ∙ took)

  -- the inbox of a desk that has looked into it
  looked : (desk : Desk P) (asks : Pass (Option Ask)) (tells : Hand Saying) → Serves is_own shape known inboxes desk tells → ((d : Outlet (Option Ask)) → IsPassOf (get_or inboxes (desk.session.section.no - 1) d) asks) → (knows asks).takes ≡ true
      → HasInbox inboxes (record desk { asks = asks })
  looked desk asks tells h own takes = record { some = h.inbox.some; within = h.inbox.within; own = own; takes = takes }

  -- a turn that was refused
  turned-refused : (old new : Desk P) (asks : Pass (Option Ask)) (others : List (Option Ask)) (before after : Hand Saying) (e : AllocError) → (h : Serves is_own shape known inboxes old before) → HasInbox inboxes (record old { asks = asks })
      → taken old.session.section.no (knows asks) ≡ map Some (asks_of h.turns) ++ others → new.asks ≡ asks → IsSameClient old.session new.session → HasPushedFor old.session.section.no before after → IsLawful shape new.session
      → HasDoneFirst (asks_of h.turns) new.session after → HasTurned is_own shape known inboxes old new before after (Err e)
  turned-refused old new asks others before after e h inbox took kept same alone lawful first = record {
    same = same;
    alone = alone;
    seated = tt;
    over = λ no. let never : ⊥ = cc in absurd never;
    told = first-seat old new asks others before after h inbox took kept (client-no old.session new.session same) lawful first;
  }

  -- a turn that did what it was asked
  pub turned-did : (old new : Desk P) (asks : Pass (Option Ask)) (ask : Ask) (before after : Hand Saying) (a : Unit {0}) → Serves is_own shape known inboxes old before
      → ((d : Outlet (Option Ask)) → IsPassOf (get_or inboxes (old.session.section.no - 1) d) asks) → (knows asks).takes ≡ true
      → taken old.session.section.no (knows asks) ≡ taken old.session.section.no (knows old.asks) ++ Some ask ∷ []
      → HasTried {P = P} {T = Unit {0}} {E = AllocError} is_own shape known ask (record old { asks = asks }) new before after (Ok a) → HasTurned is_own shape known inboxes old new before after (Ok Did)
  turned-did old new asks ask before after a h own takes took tried =
      let serves : Serves is_own shape known inboxes new after =
      more-serves old new asks (Some ask) before after h (looked old asks before h own takes) (asked-more (asks_of h.turns) ask _ _ h.asked took) tried.asks (client-no old.session new.session tried.same) tried.counted tried.work
      (tried.went (asks_of h.turns)) in
      record { same = tried.same; alone = tried.alone; seated = inl serves; over = λ no. let never : ⊥ = cc in absurd never; told = serves-told new after serves }

  -- one that was refused what it was asked
  pub turned-not : (old new : Desk P) (asks : Pass (Option Ask)) (one : Option Ask) (ask : Ask) (before after : Hand Saying) (e f : AllocError) → Serves is_own shape known inboxes old before
      → ((d : Outlet (Option Ask)) → IsPassOf (get_or inboxes (old.session.section.no - 1) d) asks) → (knows asks).takes ≡ true
      → taken old.session.section.no (knows asks) ≡ taken old.session.section.no (knows old.asks) ++ one ∷ []
      → HasTried {P = P} {T = Unit {0}} {E = AllocError} is_own shape known ask (record old { asks = asks }) new before after (Err e) → HasTurned is_own shape known inboxes old new before after (Err f)
  turned-not old new asks one ask before after e f h own takes took tried =
      turned-refused old new asks (one ∷ []) before after f h (looked old asks before h own takes) (asked-also (asks_of h.turns) one _ _ h.asked took) tried.asks tried.same tried.alone tried.lawful
      (tried.stopped old.settings (asks_of h.turns) (serves-done old before h))

  -- one behind which nothing more is asked: the session has quit
  pub turned-over : (old : Desk P) (session : Session P) (asks : Pass (Option Ask)) (tells : Hand Saying) → Serves is_own shape known inboxes old tells
      → ((d : Outlet (Option Ask)) → IsPassOf (get_or inboxes (old.session.section.no - 1) d) asks) → (knows asks).takes ≡ true
      → taken old.session.section.no (knows asks) ≡ taken old.session.section.no (knows old.asks) ++ None ∷ [] → IsSameScript old.session session → is_own session.pass → HasRest shape known session → HasQuit known old.session session
      → HasTurned is_own shape known inboxes old (record old { session = session; asks = asks }) tells tells (Ok Ended)
  turned-over old session asks tells h own takes took script is_his rested quit =
      let new : Desk P = record old { session = session; asks = asks } in
      let number : session.section.no ≡ old.session.section.no = no-script old.session session script in
      let inbox : HasInbox inboxes new = inbox-kept (record old { asks = asks }) new refl number (looked old asks tells h own takes) in
      let served : HasServed is_own shape known inboxes new tells = record {
        own = is_his;
        rested = rested;
        over = quit.over;
        left = quit.left;
        inbox = inbox;
        turns = h.turns;
        quits = quit.behind h.turns h.in_turns;
        asked = taken-kept (record old { asks = asks }) new refl number ∙ asked-also (asks_of h.turns) None _ _ h.asked took;
        told = subst (λ (n : ℕ). all_told (what_of n tells.sent) ≡ said n h.turns) (sym number) h.told;
      } in
      record { same = quit-same old.session old.session session (client-same old.session old.session refl) script; alone = pushed-same old.session.section.no tells tells refl; seated = inr served; over = λ e. served; told = served-told new tells served }

  -- its session was refused that
  pub turned-open : (old : Desk P) (session : Session P) (asks : Pass (Option Ask)) (tells : Hand Saying) (f : AllocError) → Serves is_own shape known inboxes old tells
      → ((d : Outlet (Option Ask)) → IsPassOf (get_or inboxes (old.session.section.no - 1) d) asks) → (knows asks).takes ≡ true
      → taken old.session.section.no (knows asks) ≡ taken old.session.section.no (knows old.asks) ++ None ∷ [] → IsSameScript old.session session → IsLawful shape session → StaysDone old.session session
      → HasTurned is_own shape known inboxes old (record old { session = session; asks = asks }) tells tells (Err f)
  turned-open old session asks tells f h own takes took script lawful stays =
      turned-refused old (record old { session = session; asks = asks }) asks (None ∷ []) tells tells f h (looked old asks tells h own takes) (asked-also (asks_of h.turns) None _ _ h.asked took) refl (quit-same old.session old.session session (client-same old.session old.session refl) script)
      (pushed-same old.session.section.no tells tells refl) lawful (stays (asks_of h.turns) tells (done-first [] (asks_of h.turns) old.session old.settings tells (serves-done old tells h)))

  -- one in which nothing was asked
  pub turned-idle : (old : Desk P) (session : Session P) (asks : Pass (Option Ask)) (before after : Hand Saying) (r : Result Turn AllocError) → Serves is_own shape known inboxes old before
      → ((d : Outlet (Option Ask)) → IsPassOf (get_or inboxes (old.session.section.no - 1) d) asks) → (knows asks).takes ≡ true
      → taken old.session.section.no (knows asks) ≡ taken old.session.section.no (knows old.asks) → HasListened is_own shape known old.session session before after r
      → HasTurned is_own shape known inboxes old (record old { session = session; asks = asks }) before after r
  turned-idle old session asks before after r h own takes took heard =
      let new : Desk P = record old { session = session; asks = asks } in
      let number : session.section.no ≡ old.session.section.no = no-read old.session session heard.same in
      let inbox : HasInbox inboxes (record old { asks = asks }) = looked old asks before h own takes in
      let done : HasDone [] (asks_of h.turns) old.session old.settings before = serves-done old before h in
      let first : HasDoneFirst (asks_of h.turns) session after =
      by_either r _ (ok_then r _ _ (λ went. done-first [] (asks_of h.turns) session old.settings after (went old.settings (asks_of h.turns) done)) heard.went)
      (err_then r _ _ (λ stopped. stopped old.settings (asks_of h.turns) done) heard.stopped) in
      record {
        same = client-read old.session session heard.same;
        alone = heard.alone;
        seated = ok_both r _ _ _
            (λ work went. inl (more-serves old new asks None before after h inbox (took ∙ h.asked) refl number (h.counted ∙ notes-read old.session session heard.same) work (went old.settings (asks_of h.turns)))) heard.work heard.went;
        over = λ e. absurd (heard.waits e);
        told = first-seat old new asks [] before after h inbox (took ∙ h.asked ∙ sym (append-nil (map Some (asks_of h.turns)))) refl number heard.lawful first;
      }

  -- a desk that may begin serves, where nothing was told for it
  pub serves-begins : (desk : Desk P) (tells : Hand Saying) → MayBegin is_own shape known inboxes desk → tells.sent ≡ [] → Serves is_own shape known inboxes desk tells
  serves-begins desk tells h none =
      let lines : desk.session.section.lines ≡ seat_quit ∷ [] = h.begins.lines ∙ ap (λ (line : ScriptLine). line ∷ []) h.quits in
      record {
        own = h.own;
        served = h.served;
        rested = h.rested;
        is_open = begins-open desk.session h.begins;
        counted = h.counted ∙ sym (ap note_lines_of lines);
        inbox = h.inbox;
        turns = [];
        in_turns = record { plain = All-nil IsPlain; lines = lines; items = h.begins.shown };
        asked = ap (λ (cames : List (Came (Option Ask))). what_of desk.session.section.no cames) h.untaken;
        told = ap (λ (cames : List (Came Saying)). all_told (what_of desk.session.section.no cames)) none;
        settings = h.fresh;
      }
