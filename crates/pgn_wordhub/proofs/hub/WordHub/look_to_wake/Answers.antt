use Rattle.std.proofs.Common.{◌≡◌, ℕ, suc, ◌+◌, ◌-◌, ◌<◌, ◌≤◌, ◌++◌, List, length, take, replicate, map, set, get_or, All, sym, refl, ap, ◌∙◌, subst, arith}
use Rattle.std.proofs.lemmas.List.{length-map, take_all, append-nil}
use Rattle.pgn_lanes.specs.Behind.{is_woken, plain_behind}
use Rattle.pgn_base.specs.declared.format.Format.{Format}
use Rattle.pgn_journal.specs.Packing.{image}
use Rattle.pgn_hub.specs.Shape.{Shape}
use Rattle.pgn_words.specs.declared.view.View.{View}
use Rattle.pgn_words.specs.Positions.{place_or}
use Rattle.pgn_words.specs.declared.view.Verdict.{Verdict}
use Rattle.pgn_words.specs.declared.view.Verdict.TheVariants.{Unseen, Decided}
use Rattle.pgn_words.specs.Waking.{needs_wake, concerned_db, verdict_of, wake_looked}
use Rattle.pgn_words.specs.Passes.{view_of, known_of}
use Rattle.pgn_wordhub.specs.Passes.{hub_shape}
use Rattle.pgn_wordhub.specs.Wakes.{decided_as}
use Rattle.pgn_wordhub.proofs.WakeLaws.{decides_next, unseen_next, place_within, places_within, owned_there, behind_long}
use Rattle.pgn_wordhub.proofs.hub.WordHub.look_to_wake.Goals as goal

pub wake_look-position-requires-clause-unseen : goal.wake_look-position-requires-clause-unseen
wake_look-position-requires-clause-unseen c =
    let inv = c.loop-seat.invariant in
    let dbs = c.args.owns.now in
    let all : length dbs ≡ length (hub_shape c.args.self.now).seats = c.requires.each in
    let test = c.loop-seat-test.true in
    let end = c.seats-seat-end.ensures in
    let places = inv.1 in
    let long = c.requires.long in
    ap (λ (v : View). get_or v.verdicts c.loop-seat.seat Decided) inv.3
    ∙ unseen_next c.args.head (known_of c.args.pass.now).db (length dbs) c.loop-seat.seat c.loop-seat.places dbs (omega (arith, test, end, all)) (omega (arith, places, long, all)) refl

pub loop-seat-preserved : goal.loop-seat-preserved
loop-seat-preserved c =
    let inv = c.loop-seat.invariant in
    let v = view_of c.args.pass.now in
    let w = view_of c.loop-seat.pass in
    let z = hub_shape c.args.self.now in
    let dbs = c.args.owns.now in
    let seat = c.loop-seat.seat in
    let found = c.wake_look-position.result in
    let all : length dbs ≡ length z.seats = c.requires.each in
    let test = c.loop-seat-test.true in
    let end = c.seats-seat-end.ensures in
    let places = inv.1 in
    let long = c.requires.long in
    let below : seat < length dbs = omega (arith, test, end, all) in
    let size : length c.loop-seat.places ≡ length dbs = omega (arith, places, long, all) in
    let looked = c.wake_look-position.ensures.looked in
    let setup : w.setup ≡ z = ap (λ (u : View). u.setup) inv.3 ∙ c.requires.own.setup in
    let seen = ap (λ (u : View). u.known.seen) inv.3 in
    let head : c.args.head ≡ length (image w.setup.format w.known.seen) =
    c.requires.head ∙ ap (λ (f : Format). length (image f v.known.seen)) (sym (ap (λ (y : Shape). y.format) setup)) ∙ ap (λ txs. length (image w.setup.format txs)) (sym seen) in
    let within = place_within w.setup.format w.known.seen c.args.head found head looked.position.placed in
    let place = c.place_of.ensures in
    let own = concerned_db w seat in
    let is_own : own ≡ get_or dbs seat own = ap (λ (u : View). concerned_db u seat) inv.3 ∙ sym (c.requires.concerned seat below) ∙ sym (owned_there dbs seat own below) in
    let first : needs_wake w seat found ≡ is_woken c.args.head v.known.db c.place_of.result own =
    ap (λ h. is_woken h w.known.db (place_or h found) own) (sym head)
    ∙ ap (λ d. is_woken c.args.head d (place_or c.args.head found) own) (ap (λ (u : View). u.known.db) inv.3)
    ∙ ap (λ p. is_woken c.args.head v.known.db p own) (sym place) in
    let more : seat + 1 ≡ suc seat = omega arith in (
      c.wake_look-position.ensures.own,
      Rattle.std.proofs.lemmas.List.length-set c.loop-seat.places seat c.place_of.result ∙ inv.1,
      subst (λ (n : ℕ). All (λ p. p ≤ c.args.head) (take n (set c.loop-seat.places seat c.place_of.result))) (sym more)
          (places_within c.args.head seat c.place_of.result c.loop-seat.places (omega (arith, below, size)) inv.2 (omega (arith, within, place))),
      looked.view ∙ ap (wake_looked seat found) inv.3 ∙ ap (λ (us : List Verdict). decided_as us v) (
          ap (λ b. set (map verdict_of (plain_behind c.args.head v.known.db (take seat c.loop-seat.places) (take seat dbs)) ++ replicate (length dbs - seat) Unseen) seat (verdict_of b)) (ap (λ (u : View). needs_wake u seat found) (sym inv.3) ∙ first)
          ∙ decides_next c.args.head v.known.db c.place_of.result own (length dbs) seat c.loop-seat.places dbs below size refl is_own
          ∙ ap (λ n. map verdict_of (plain_behind c.args.head v.known.db (take n (set c.loop-seat.places seat c.place_of.result)) (take n dbs)) ++ replicate (length dbs - n) Unseen) (sym more)),
    )

pub returns-clause-long : goal.returns-clause-long
returns-clause-long c =
    let inv = c.loop-seat.invariant in
    let v = view_of c.args.pass.now in
    let dbs = c.args.owns.now in
    let seat = c.loop-seat.seat in
    let all : length dbs ≡ length (hub_shape c.args.self.now).seats = c.requires.each in
    let test = c.loop-seat-test.false in
    let end = c.seats-seat-end.ensures in
    let places = inv.1 in
    let long = c.requires.long in
    let past : length dbs ≤ seat = omega (arith, test, end, all) in
    let ps : take seat c.loop-seat.places ≡ c.loop-seat.places = take_all seat c.loop-seat.places (omega (arith, places, long, all, past)) in
    let os : take seat dbs ≡ dbs = take_all seat dbs past in
    let none : length dbs - seat ≡ 0 = omega (arith, past) in
    ap (λ (u : View). length u.verdicts) inv.3
    ∙ ap (λ k. length (map verdict_of (plain_behind c.args.head v.known.db (take seat c.loop-seat.places) (take seat dbs)) ++ replicate k Unseen)) none
    ∙ ap length (append-nil (map verdict_of (plain_behind c.args.head v.known.db (take seat c.loop-seat.places) (take seat dbs))))
    ∙ length-map (plain_behind c.args.head v.known.db (take seat c.loop-seat.places) (take seat dbs)) verdict_of
    ∙ ap (λ l. length (plain_behind c.args.head v.known.db l (take seat dbs))) ps ∙ ap (λ l. length (plain_behind c.args.head v.known.db c.loop-seat.places l)) os
    ∙ behind_long c.args.head v.known.db c.loop-seat.places dbs (omega (arith, places, long, all)) ∙ inv.1 ∙ c.requires.long
