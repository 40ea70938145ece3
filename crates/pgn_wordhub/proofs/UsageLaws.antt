-- What is in use, as an advance has found it.
use Rattle.std.proofs.Common.{◌≡◌, ◌↔◌, ℕ, ◌-◌, ◌≤◌, List, [], ◌++◌, length, Option, Some, None, sym, refl, ap, ◌∙◌, subst, arith}
use Rattle.std.proofs.lemmas.List.{append-nil}
use Rattle.pgn_base.specs.declared.queue_answers.Usage.{Usage}
use Rattle.pgn_journal.specs.declared.tx.Tx.{Tx}
use Rattle.pgn_journal.specs.Journal.{next_xid}
use Rattle.pgn_journal.specs.Packing.{page_of, place, image}
use Rattle.pgn_journal.specs.QueueUse.{ShowsUsage}
use Rattle.pgn_hub.specs.Shape.{Shape}
use Rattle.pgn_journal.proofs.PackingLemmas.{last_place, place_grows}
use Rattle.pgn_hub.specs.Calls.{met_by, IsFloor, IsHolder, HasMeasured}
use Rattle.pgn_words.specs.declared.view.View.{View}
use Rattle.pgn_words.specs.Told.{head_known, stop_known}
use Rattle.pgn_wordhub.specs.Advancing.{advanced_view, HasAdvancedTo}

-- nobody holds the floor exactly where it is at the number itself
pub held_by_none : (x mark : ℕ) (met : List (ℕ × ℕ)) (holder : Option ℕ) → IsHolder x met mark holder → (holder ≡ None) ↔ (mark ≡ x)
held_by_none x mark met None held = (λ _. held, λ _. refl)
held_by_none x mark met (Some s) held = (λ some. absurd (cc), λ is. absurd (let less = held.0 in omega (arith, less, is)))

shows : (z : Shape) (seen : List Tx) (met : List (ℕ × ℕ)) (at head mark floor : ℕ) (holder : Option ℕ) → IsFloor (next_xid seen) met mark holder → floor ≡ place z.format seen mark → at ≡ next_xid seen
    → head ≡ length (image z.format seen) → ShowsUsage z.format z.pages seen (record { at = at; occupied = page_of head - page_of floor; limit = z.pages; floor_mark = mark; holder = holder })
shows z seen met at head mark floor holder is floor_is number head_is =
    let below = is.below in
    let there : place z.format seen mark ≡ floor = sym floor_is in
    let end : place z.format seen at ≡ head = last_place z.format seen at (omega (arith, number)) ∙ sym head_is in
    let grows = place_grows z.format seen mark at (omega (arith, below, number)) in record {
      limited = refl;
      in_journal = omega (arith, number);
      floor_below = omega (arith, below, number);
      in_use = omega (arith, there, end, grows);
      holder = subst (λ (n : ℕ). (holder ≡ None) ↔ (mark ≡ n)) (sym number) (held_by_none (next_xid seen) mark met holder is.held);
    }

-- the pass has loaded the head and the oldest kept page, and then advanced the tail
pub measures : (z : Shape) (v u : View) (stop at head mark floor : ℕ) (holder : Option ℕ) → u ≡ advanced_view u (stop_known stop (head_known v)) → HasAdvancedTo z (stop_known stop (head_known v)) u mark floor holder
    → at ≡ next_xid v.known.seen → head ≡ length (image z.format v.known.seen)
    → HasMeasured z v.known u.known (record { at = at; occupied = page_of head - page_of floor; limit = z.pages; floor_mark = mark; holder = holder })
measures z v u stop at head mark floor holder e adv number head_is =
    let seen : u.known.seen ≡ v.known.seen = ap (λ (y : View). y.known.seen) e in
    let usage : Usage = record { at = at; occupied = page_of head - page_of floor; limit = z.pages; floor_mark = mark; holder = holder } in record {
      more = [];
      named = adv.named;
      number = number ∙ ap next_xid (sym (append-nil v.known.seen));
      known = ap (λ (y : View). y.known) e ∙ ap (λ l. record v.known { named = l; advance = u.known.advance }) adv.named_is
          ∙ ap (λ txs. record v.known { seen = txs; named = v.known.named ++ adv.named; advance = u.known.advance }) (sym (append-nil v.known.seen));
      shows = subst (λ (txs : List Tx). ShowsUsage z.format z.pages txs usage) (sym seen) (shows z v.known.seen (met_by u.known.advance) at head mark floor holder adv.floor adv.at_is number head_is);
      looked = adv.looked;
      floor = subst (λ (n : ℕ). IsFloor n (met_by u.known.advance) mark holder) (sym number) adv.floor;
      met = adv.met;
    }

-- the floor is no later than the head
pub floor_within : (z : Shape) (c u : View) (seen : List Tx) (head mark floor : ℕ) (holder : Option ℕ) → c.known.seen ≡ seen → HasAdvancedTo z c u mark floor holder → head ≡ length (image z.format seen) → floor ≤ head
floor_within z c u seen head mark floor holder same adv head_is =
    let below : mark ≤ next_xid seen = subst (λ (txs : List Tx). mark ≤ next_xid txs) same adv.floor.below in
    let there : place z.format seen mark ≡ floor = sym (adv.at_is ∙ ap (λ (txs : List Tx). place z.format txs mark) same) in
    let end : place z.format seen (next_xid seen) ≡ head = last_place z.format seen (next_xid seen) (omega arith) ∙ sym head_is in
    let grows = place_grows z.format seen mark (next_xid seen) below in omega (arith, there, end, grows)
