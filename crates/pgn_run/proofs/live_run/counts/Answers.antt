use Rattle.std.proofs.Common.{◌≡◌, ◌+◌, ◌<◌, ◌≤◌, ◌∷◌, ◌++◌, [], ℕ, List, length, take, get_or, ap, sym, ◌∙◌}
use Rattle.std.proofs.lemmas.List.{map_more, take_all}
use Rattle.pgn_session.specs.declared.session.Session.{Session}
use Rattle.pgn_run.specs.Live.{counts_of}
use Rattle.pgn_run.proofs.live_run.counts.Goals as goal

-- one session more is counted
counts-more : {P : Type 0} (sessions : List (Session P)) (old new : List ℕ) (i count : ℕ) (s : Session P) → old ≡ counts_of (take i sessions) → new ≡ old ++ count ∷ [] → count ≡ length s.items.items
    → i < length sessions → s ≡ get_or sessions i s → new ≡ counts_of (take (i + 1) sessions)
counts-more {P} sessions old new i count s h e f less is =
    e ∙ ap (λ (ns : List ℕ). ns ++ count ∷ []) h ∙ ap (λ (n : ℕ). counts_of (take i sessions) ++ n ∷ []) (f ∙ ap (λ (x : Session P). length x.items.items) is)
    ∙ sym (map_more (λ (x : Session P). length x.items.items) sessions i s less)

pub loop-session-preserved : goal.loop-session-preserved
loop-session-preserved g c =
    counts-more c.args.sessions.now _ _ c.loop-session.session-index _ c.session-item.result c.loop-session.invariant c.in_ok-push.ensures.items (ap length c.as_slice.ensures.value) c.loop-session-test.true c.session-item.is

-- all are counted
counts-all : {P : Type 0} (sessions : List (Session P)) (counts : List ℕ) (i : ℕ) → counts ≡ counts_of (take i sessions) → length sessions ≤ i → counts ≡ counts_of sessions
counts-all {P} sessions counts i h past = h ∙ ap (λ (l : List (Session P)). counts_of l) (take_all i sessions past)

pub returns : goal.returns
returns g c = counts-all c.args.sessions.now _ c.loop-session.session-index c.loop-session.invariant c.loop-session-test.false
