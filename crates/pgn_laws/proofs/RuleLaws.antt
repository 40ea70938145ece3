-- Proofs of what follows from the rule.
use Rattle.std.proofs.Common.{◌≡◌, length, ⊎_elim, true≢false, sym, ap, ◌∙◌, arith}
use Rattle.pgn_journal.specs.Due.{is_due_to}
use Rattle.pgn_words.specs.Views.{knows_stop}
use Rattle.pgn_words.specs.WakeRule.{served, passed}
use Rattle.pgn_laws.specs.Words.{WalksReadTheJournal, PagesAreSpared, NoWakeIsLost, FlagsAreFinished, ToldIsFinished, SignalledIsHeard}
use Rattle.pgn_words.specs.declared.view.Phase.TheVariants.{Open}
use Rattle.pgn_words.proofs.HeadKept.{phase_holds}
use Rattle.pgn_words.proofs.NearSteps.{served_near}
use Rattle.pgn_words.proofs.WakeKept.{heard_served, heard_passed}

-- what a walk loads is of the journal that the head showed it
pub walks_read : WalksReadTheJournal
walks_read z c g views j v h there shown at x from is = (h.walks.bounds j v there shown).0 at x from is

-- no page is written on that a position or a joiner still needs
pub pages_spared : PagesAreSpared
pages_spared z c g views id v h here opened at old page stays turn j u there has =
    let was = phase_holds Open z c.stop g.past g.shown c.cells id v opened (h.holding.holds id v here) in
    let long = ap length was.cells_are in
    let headed = h.stored.headed in
    let reach = h.stored.reach in
    let stop : v.stop ≡ c.stop = h.holding.stops id v here (ap knows_stop opened) in
    let kept = (h.posts.placed j u there has).1.kept in omega (arith, page, stays, turn, stop, kept, long, headed, reach)

-- a listener without a wake that owes no read has missed nothing on its channels
pub no_wake_lost : NoWakeIsLost
no_wake_lost z c g views j i v h there registered number unset nothing_owed =
    ⊎_elim
    (λ set_now. absurd (unset set_now))
    (λ r. ⊎_elim
    (λ owed. absurd (true≢false (sym owed ∙ nothing_owed)))
    (λ near. served_near z.format (is_due_to v.known.db v.known.set) g.past v.post.mark (passed g.undecided g.concerned c.fin i) (served g.undecided c.fin i) v.known.signalled
    (heard_passed c.fin g.undecided g.concerned i v.known.signalled (h.wakes.heard j v there)) (heard_served c.fin g.undecided i v.known.signalled (h.wakes.heard j v there)) near)
    r)
    (h.wakes.heeds j v there registered i number).still

-- what a flag shows is finished
pub flags_finished : FlagsAreFinished
flags_finished z c g views f h = h.flags.finished f

-- what a pass was told is finished
pub told_finished : ToldIsFinished
told_finished z c g views j v h there = (h.flags.told j v there).finished

-- up to where a pass knows wakes to be set, they are
pub signalled_heard : SignalledIsHeard
signalled_heard z c g views j v h there = h.wakes.heard j v there
