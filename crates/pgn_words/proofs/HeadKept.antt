-- The loads of the head and of the oldest kept page, and the store of the head, keep the rule.
use Rattle.std.proofs.Common.{◌≡◌, ℕ, ◌+◌, ◌≤◌, true, List, length, set, sym, refl, ap, ◌∙◌, subst, arith}
use mathlib.Core.Option.{some, none}
use lib.ListN.{get_elem?}
use Rattle.atomic_table.specs.Table.{Me, Allows, step}
use Rattle.pgn_journal.specs.declared.tx.Tx.{Tx}
use Rattle.pgn_journal.specs.Packing.{page_start, image}
use Rattle.pgn_hub.specs.Shape.{Shape}
use Rattle.pgn_words.specs.declared.view.View.{View}
use Rattle.pgn_words.specs.declared.view.Phase.{Phase}
use Rattle.pgn_words.specs.declared.view.Phase.TheVariants.{Held, Headed}
use Rattle.pgn_words.specs.Words.{Content, room_of}
use Rattle.pgn_words.specs.Views.{holds_lock, fated}
use Rattle.pgn_words.specs.WakeRule.{ended_in, pending, waits_in}
use Rattle.pgn_words.specs.Rule.{World, KnowsStop, HoldsIn, Holds, IsHeaded, IsIdle, Law, Lawful, Keeps}
use Rattle.pgn_words.specs.Told.{TellsHead, TellsStop, head_known, stop_known}
use Rattle.pgn_words.proofs.EachLaws.{each_turn}
use Rattle.pgn_words.proofs.Frames.{seats_keep, locking_keep, history_keep, numbers_keep, budget_keep, statuses_keep}
use Rattle.pgn_words.proofs.MoreFrames.{posts_keep, walks_keep, looks_keep, wakes_keep, interests_keep, flags_keep, named_keep, taken_keep}
use Rattle.pgn_words.proofs.LockKept.{held_setup}
use Rattle.pgn_words.proofs.Meets.{allowed}

-- what holds of a pass in a phase, where it is in it
pub phase_holds : (p : Phase) (z : Shape) (stop : ℕ) (past shown : List Tx) (cells : List ℕ) (j : ℕ) (v : View) → v.phase ≡ p → Holds z stop past shown cells j v
    → HoldsIn p z.format (λ log. Keeps (room_of z) (page_start stop) log cells) past shown v.known.seen v.known.session v.known.db v.pen
phase_holds p z stop past shown cells j v e h = subst (λ (q : Phase). HoldsIn q z.format (λ log. Keeps (room_of z) (page_start stop) log cells) past shown v.known.seen v.known.session v.known.db v.pen) e h

heads : (z : Shape) (c : Content) (g : World) (views : List View) (id : ℕ) (v : View) → Law z c g views → get_elem? views id ≡ some v → v.phase ≡ Held → Law z c g (set views id (head_known v))
heads z c g views id v h here held =
    let w : View = head_known v in
    let holds : true ≡ holds_lock v.phase = sym (ap holds_lock held) in
    let idle : IsIdle g.past g.shown v.known.seen = phase_holds Held z c.stop g.past g.shown c.cells id v held (h.holding.holds id v here) in record {
      laid = h.laid;
      seats = seats_keep views id v w here z g.made g.seat h.seats refl refl refl refl;
      locking = locking_keep views id v w here c.lock g.holder h.locking refl holds;
      stored = h.stored;
      history = history_keep views id v w here z c.lock c.fin g.made g.past g.shown h.history refl refl refl refl;
      numbers = numbers_keep views id v w here c.lock c.fin c.xid h.numbers holds (sym (ap Rattle.pgn_words.specs.Views.drawn_by held));
      holding = record {
        holds = each_turn (Holds z c.stop g.past g.shown c.cells) (Holds z c.stop g.past g.shown c.cells) views id w h.holding.holds
            (record { idle = idle; cells_are = ap (λ (x : Shape). image x.format v.known.seen) (held_setup z c g views id v h here (ap holds_lock held)) ∙ ap (image z.format) idle.seen_is; batch_is = refl }) (λ j u other there p. p);
        stops = each_turn (KnowsStop c.stop) (KnowsStop c.stop) views id w h.holding.stops (λ knows. absurd (cc)) (λ j u other there p. p);
      };
      statuses = statuses_keep views id v w here c.lock g.past c.statuses h.statuses holds (sym (ap (λ p. fated p v.pen.ending.fate) held));
      budget = budget_keep views id v w here z g.made g.past h.budget (omega arith);
      posts = posts_keep views id v w here z.format g.past c.fin c.stop g.made c.tail c.pos h.posts refl refl refl;
      walks = walks_keep views id v w here z.format (room_of z) c.head c.cells h.walks refl refl (omega arith);
      looks = looks_keep views id v w here z.format g.past c.fin c.stop g.looked g.target c.tail h.looks refl refl holds refl;
      wakes = wakes_keep views id v w here z.format c.lock c.fin g.past g.undecided g.concerned c.wakes h.wakes refl refl refl refl refl refl holds (λ i. sym (ap (λ p. pending p (waits_in v.verdicts) i) held)) refl (sym (ap (λ p. ended_in p c.fin) held));
      interests = interests_keep views id v w here g.concerned c.interests h.interests refl refl refl (λ _. tt);
      flags = flags_keep views id v w here c.fin c.flags h.flags refl (h.flags.told id v here) refl refl;
      named = named_keep views id v w here h.named refl refl refl refl refl;
      taken = taken_keep views id v w here z g.made c.fin g.seat g.past h.taken refl refl;
    }

-- who holds the lock may load the head
pub load_head_allowed : (z : Shape) (slots id : ℕ) (me : Me ℕ View) → me.0.phase ≡ Held → Allows (Lawful z) slots id me 1 (λ n. n) (TellsHead (step slots 1 0 0 none) me)
load_head_allowed z slots id me held =
    allowed z slots id 1 me (λ n. n) (TellsHead (step slots 1 0 0 none) me) (λ shape c g views h here.
    let idle : IsIdle g.past g.shown me.0.known.seen = phase_holds Held z c.stop g.past g.shown c.cells id me.0 held (h.holding.holds id me.0 here) in record {
      w = head_known me.0;
      content = c;
      world = g;
      moves = refl;
      law = heads z c g views id me.0 h here held;
      told = record {
        slots = refl;
        view = refl;
        low = h.stored.low;
        head = h.stored.headed ∙ ap (λ txs. length (image z.format txs)) (idle.shown_is ∙ sym idle.seen_is) ∙ ap (λ (x : Shape). length (image x.format me.0.known.seen)) (sym (held_setup z c g views id me.0 h here (ap holds_lock held)));
      };
    })

readies : (z : Shape) (c : Content) (g : World) (views : List View) (id : ℕ) (v : View) → Law z c g views → get_elem? views id ≡ some v → v.phase ≡ Headed → Law z c g (set views id (stop_known c.stop v))
readies z c g views id v h here headed =
    let w : View = stop_known c.stop v in
    let holds : true ≡ holds_lock v.phase = sym (ap holds_lock headed) in
    let was : IsHeaded z.format g.past g.shown v.known.seen v.pen = phase_holds Headed z c.stop g.past g.shown c.cells id v headed (h.holding.holds id v here) in record {
      laid = h.laid;
      seats = seats_keep views id v w here z g.made g.seat h.seats refl refl refl refl;
      locking = locking_keep views id v w here c.lock g.holder h.locking refl holds;
      stored = h.stored;
      history = history_keep views id v w here z c.lock c.fin g.made g.past g.shown h.history refl refl refl refl;
      numbers = numbers_keep views id v w here c.lock c.fin c.xid h.numbers holds (sym (ap Rattle.pgn_words.specs.Views.drawn_by headed));
      holding = record {
        holds = each_turn (Holds z c.stop g.past g.shown c.cells) (Holds z c.stop g.past g.shown c.cells) views id w h.holding.holds was (λ j u other there p. p);
        stops = each_turn (KnowsStop c.stop) (KnowsStop c.stop) views id w h.holding.stops (λ knows. refl) (λ j u other there p. p);
      };
      statuses = statuses_keep views id v w here c.lock g.past c.statuses h.statuses holds (sym (ap (λ p. fated p v.pen.ending.fate) headed));
      budget = budget_keep views id v w here z g.made g.past h.budget (omega arith);
      posts = posts_keep views id v w here z.format g.past c.fin c.stop g.made c.tail c.pos h.posts refl refl refl;
      walks = walks_keep views id v w here z.format (room_of z) c.head c.cells h.walks refl refl (omega arith);
      looks = looks_keep views id v w here z.format g.past c.fin c.stop g.looked g.target c.tail h.looks refl refl holds refl;
      wakes = wakes_keep views id v w here z.format c.lock c.fin g.past g.undecided g.concerned c.wakes h.wakes refl refl refl refl refl refl holds (λ i. sym (ap (λ p. pending p (waits_in v.verdicts) i) headed)) refl (sym (ap (λ p. ended_in p c.fin) headed));
      interests = interests_keep views id v w here g.concerned c.interests h.interests refl refl refl (λ _. tt);
      flags = flags_keep views id v w here c.fin c.flags h.flags refl (h.flags.told id v here) refl refl;
      named = named_keep views id v w here h.named refl refl refl refl refl;
      taken = taken_keep views id v w here z g.made c.fin g.seat g.past h.taken refl refl;
    }

-- who has loaded the head may load the oldest kept page
pub load_stop_allowed : (z : Shape) (slots id : ℕ) (me : Me ℕ View) → me.0.phase ≡ Headed → Allows (Lawful z) slots id me 4 (λ n. n) (TellsStop (step slots 4 0 0 none) me)
load_stop_allowed z slots id me headed =
    allowed z slots id 4 me (λ n. n) (TellsStop (step slots 4 0 0 none) me) (λ shape c g views h here.
    let was : IsHeaded z.format g.past g.shown me.0.known.seen me.0.pen = phase_holds Headed z c.stop g.past g.shown c.cells id me.0 headed (h.holding.holds id me.0 here) in
    let there : c.head ≡ length (image z.format me.0.known.seen) = h.stored.headed ∙ ap (λ txs. length (image z.format txs)) (was.idle.shown_is ∙ sym was.idle.seen_is) in record {
      w = stop_known c.stop me.0;
      content = c;
      world = g;
      moves = refl;
      law = readies z c g views id me.0 h here headed;
      told = record {
        slots = refl;
        view = refl;
        ahead = subst (λ (x : Shape). length (image x.format me.0.known.seen) ≤ page_start (c.stop + x.pages)) (sym (held_setup z c g views id me.0 h here (ap holds_lock headed))) (let ahead = h.stored.ahead in subst (λ (n : ℕ). n ≤ page_start (c.stop + z.pages)) there ahead);
      };
    })
