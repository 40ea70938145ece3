-- The drawing of a transaction number keeps the rule.
use Rattle.std.proofs.Common.{◌≡◌, ◌≢◌, ℕ, ◌+◌, ◌%◌, ◌^◌, ◌≤◌, true, List, [], ◌++◌, length, set, All, AllPairs, sym, refl, ap, ◌∙◌, subst, arith}
use Rattle.std.proofs.lemmas.List.{append-nil}
use mathlib.Core.Option.{some, none}
use lib.ListN.{get_elem?}
use Rattle.atomic_table.specs.Table.{Me, Allows, step}
use Rattle.pgn_base.specs.declared.note.Note.{Note}
use Rattle.pgn_base.specs.Notes.{IsNote}
use Rattle.pgn_journal.specs.Journal.{next_xid}
use Rattle.pgn_journal.specs.Packing.{page_start, image}
use Rattle.pgn_hub.specs.Shape.{Shape, notes_of_seats}
use Rattle.pgn_words.specs.declared.view.View.{View}
use Rattle.pgn_words.specs.declared.view.Phase.TheVariants.{Ready}
use Rattle.pgn_words.specs.Words.{Content, row, room_of}
use Rattle.pgn_words.specs.Views.{holds_lock, knows_stop, drawn_by, fated}
use Rattle.pgn_words.specs.WakeRule.{ended_in, pending, waits_in}
use Rattle.pgn_words.specs.ListenRule.{LooksBy, Spared}
use Rattle.pgn_words.specs.Rule.{World, Draws, KnowsStop, Holds, IsHeaded, Law, Lawful, Keeps}
use Rattle.pgn_words.specs.Told.{TellsDraw, drawn}
use Rattle.pgn_words.proofs.EachLaws.{each_turn, each_keep}
use Rattle.pgn_words.proofs.Frames.{seats_keep, locking_keep, history_keep, budget_keep, statuses_keep}
use Rattle.pgn_words.proofs.MoreFrames.{posts_keep, walks_keep, wakes_keep, interests_keep, flags_keep, named_keep, taken_keep}
use Rattle.pgn_words.proofs.LockKept.{held_setup, alone, few_left, some_of}
use Rattle.pgn_words.proofs.HeadKept.{phase_holds}
use Rattle.pgn_words.proofs.Meets.{allowed}

draws : (z : Shape) (c : Content) (g : World) (views : List View) (id : ℕ) (v : View) (notes : List Note) → Law z c g views → get_elem? views id ≡ some v → v.phase ≡ Ready
    → notes ≢ [] → All IsNote notes → AllPairs (λ a b. a ≢ b) notes → length notes ≤ v.known.notes_left
    → Law z (record c { xid = c.xid + 1 }) g (set views id (drawn notes v))
draws z c g views id v notes h here ready filled valid different few =
    let w : View = drawn notes v in
    let held : holds_lock v.phase ≡ true = ap holds_lock ready in
    let was : IsHeaded z.format g.past g.shown v.known.seen v.pen = phase_holds Ready z c.stop g.past g.shown c.cells id v ready (h.holding.holds id v here) in
    let mine : c.xid ≡ c.fin + 0 = h.numbers.draws id v here held ∙ ap (λ p. c.fin + drawn_by p) ready in
    let stored : v.pen.cells ++ v.pen.batch ≡ image z.format g.shown = ap (λ b. v.pen.cells ++ b) was.batch_is ∙ append-nil v.pen.cells ∙ was.cells_are ∙ ap (image z.format) (sym was.idle.shown_is) in
    let locked = h.locking.locks id v here held in record {
      laid = h.laid;
      seats = seats_keep views id v w here z g.made g.seat h.seats refl refl refl refl;
      locking = locking_keep views id v w here c.lock g.holder h.locking refl (sym held);
      stored = h.stored;
      history = history_keep views id v w here z c.lock c.fin g.made g.past g.shown h.history refl refl refl refl;
      numbers = record {
        free = λ nobody. let is = locked.1 in let positive = locked.2 in absurd (omega (arith, nobody, is, positive));
        draws = each_turn (Draws c.fin c.xid) (Draws c.fin (c.xid + 1)) views id w h.numbers.draws (λ also. omega (arith, mine)) (λ j u other there p also. absurd (alone c.lock g.holder views id v h.locking here held j u other there also));
      };
      holding = record {
        holds = each_turn (Holds z c.stop g.past g.shown c.cells) (Holds z c.stop g.past g.shown c.cells) views id w h.holding.holds
            (record {
              seen_is = was.idle.seen_is;
              cells_are = was.cells_are ∙ ap (image z.format) (sym was.idle.shown_is);
              kept = subst (λ (log : List (Rattle.std.proofs.Common.Option ℕ)). Keeps (room_of z) (page_start c.stop) log c.cells) (sym stored) h.stored.kept;
              some_notes = filled;
              valid = valid;
              different = different;
              taken_is = refl;
            })
            (λ j u other there p. p);
        stops = each_turn (KnowsStop c.stop) (KnowsStop c.stop) views id w h.holding.stops (λ knows. h.holding.stops id v here (ap knows_stop ready)) (λ j u other there p. p);
      };
      statuses = statuses_keep views id v w here c.lock g.past c.statuses h.statuses (sym held) (sym (ap (λ p. fated p v.pen.ending.fate) ready));
      budget = budget_keep views id v w here z g.made g.past h.budget (omega (arith, few));
      posts = posts_keep views id v w here z.format g.past c.fin c.stop g.made c.tail c.pos h.posts refl refl refl;
      walks = walks_keep views id v w here z.format (room_of z) c.head c.cells h.walks refl refl (omega arith);
      looks = record {
        looking = each_turn (LooksBy z.format g.past c.fin g.looked g.target c.tail) (LooksBy z.format g.past c.fin g.looked g.target c.tail) views id w h.looks.looking (λ held. tt) (λ j u other there p. p);
        spared = each_keep (Spared g.looked g.target) views id v w here h.looks.spared (λ p. p);
        aims = h.looks.aims;
        above = h.looks.above;
      };
      wakes = wakes_keep views id v w here z.format c.lock c.fin g.past g.undecided g.concerned c.wakes h.wakes refl refl refl refl refl refl (sym held) (λ i. sym (ap (λ p. pending p (waits_in v.verdicts) i) ready)) refl (sym (ap (λ p. ended_in p c.fin) ready));
      interests = interests_keep views id v w here g.concerned c.interests h.interests refl refl refl (λ _. tt);
      flags = flags_keep views id v w here c.fin c.flags h.flags refl (h.flags.told id v here) refl refl;
      named = named_keep views id v w here h.named refl refl refl refl refl;
      taken = taken_keep views id v w here z g.made c.fin g.seat g.past h.taken refl refl;
    }

-- who has loaded both ends may draw the number of a transaction
pub draw_allowed : (z : Shape) (slots id : ℕ) (me : Me ℕ View) (notes : List Note) → me.0.phase ≡ Ready → notes ≢ [] → All IsNote notes → AllPairs (λ a b. a ≢ b) notes → length notes ≤ me.0.known.notes_left
    → Allows (Lawful z) slots id me 5 (λ n. (n + 1) % 2 ^ 64) (TellsDraw notes (step slots 5 1 0 none) me)
draw_allowed z slots id me notes ready filled valid different few =
    allowed z slots id 5 me (λ n. (n + 1) % 2 ^ 64) (TellsDraw notes (step slots 5 1 0 none) me) (λ shape c g views h here.
    let was : IsHeaded z.format g.past g.shown me.0.known.seen me.0.pen = phase_holds Ready z c.stop g.past g.shown c.cells id me.0 ready (h.holding.holds id me.0 here) in
    let mine : c.xid ≡ c.fin + 0 = h.numbers.draws id me.0 here (ap holds_lock ready) ∙ ap (λ p. c.fin + drawn_by p) ready in
    let one : 1 ≤ length notes = some_of notes filled in
    let left : length g.past + me.0.known.notes_left ≤ notes_of_seats me.0.setup.seats = few_left z g.made g.past views id me.0 h.budget here h.history.finished (held_setup z c g views id me.0 h here (ap holds_lock ready)) in
    let size : length me.0.known.seen ≡ length g.past = ap length was.idle.seen_is in
    let all : notes_of_seats me.0.setup.seats ≤ 1048575 = let most = shape.few_notes in subst (λ (x : Shape). notes_of_seats x.seats ≤ 1048575) (sym (held_setup z c g views id me.0 h here (ap holds_lock ready))) most in
    let counted = h.history.counted in
    let number : c.xid ≡ next_xid me.0.known.seen = omega (arith, mine, counted, size) in record {
      w = drawn notes me.0;
      content = record c { xid = c.xid + 1 };
      world = g;
      moves = let low : (c.xid + 1) % 2 ^ 64 ≡ c.xid + 1 = omega (arith, number, left, all, size) in ap (λ n. row (record c { xid = n })) low;
      law = draws z c g views id me.0 notes h here ready filled valid different few;
      told = record { slots = refl; view = refl; number = number; reach = omega (arith, left, one, few, size); low = omega (arith, number, left, all, size) };
    })
