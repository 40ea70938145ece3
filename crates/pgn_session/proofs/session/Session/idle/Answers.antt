use Rattle.std.proofs.Common.{◌≡◌, Bool, true, List, None, refl, ap, sym, subst, ◌∙◌, rules}
use Rattle.pgn_answers.specs.declared.block_state.BlockState.TheVariants.{Idle}
use Rattle.pgn_model.specs.declared.item.Item.{Item}
use Rattle.pgn_hub.specs.declared.known.Known.{Known}
use Rattle.pgn_hub.specs.Calls.{HasWoken}
use Rattle.pgn_session.specs.Parts.{Begins}
use Rattle.pgn_session.specs.Standing.{terms_of, IsAnswered}
use Rattle.pgn_session.proofs.ReadLaws.{quiet-rested, owed-still, woken-answered, learned-answered, read-rested, open-rested, unlisted-rested}
use Rattle.pgn_session.proofs.KnownLaws.{on-err, told-set}
use Rattle.pgn_session.proofs.GrowthLaws.{none-more, read-more}
use Rattle.pgn_session.proofs.session.Session.idle.Goals as goal

pub returns-then-not-woken-clause-rested : goal.returns-then-not-woken-clause-rested
returns-then-not-woken-clause-rested g c =
    let s = c.args.self.now in
    quiet-rested (terms_of (g.H.Hub.shape c.args.hub.now) s.section s.patience) s.plan s.done s.block s.set.channels s.doing (g.P.PassView.known s.pass) (g.P.PassView.known c.woken.new.pass) s.items.items
    c.if-not-woken.ensures.woken c.requires.answered

pub returns-in_err-to-clause-refused : goal.returns-in_err-to-clause-refused
returns-in_err-to-clause-refused g c =
    let s = c.args.self.now in
    let terms = terms_of (g.H.Hub.shape c.args.hub.now) s.section s.patience in
    let woken = woken-answered terms s.plan s.done s.block s.set.channels s.doing (g.P.PassView.known s.pass) (g.P.PassView.known c.woken.new.pass) s.items.items _ c.woken.ensures.woken c.requires.answered in
    let learned = learned-answered terms s.plan s.done s.block s.set.channels s.doing (g.P.PassView.known c.woken.new.pass) (g.P.PassView.known c.read_on.new.pass) s.items.items c.in_err-to.ensures.refused woken in
    on-err _ _ (subst (λ (items : List Item). IsAnswered terms s.plan s.done s.block s.set.channels s.doing (g.P.PassView.known c.read_on.new.pass) items) (sym c.in_err-to.ensures.refused_shows_nothing) learned)

pub returns-in_err-to-clause-owed : goal.returns-in_err-to-clause-owed
returns-in_err-to-clause-owed g c =
    let format = (g.H.Hub.shape c.args.hub.now).format in
    let k : Known = g.P.PassView.known c.args.self.now.pass in
    let j : Known = g.P.PassView.known c.woken.new.pass in
    let is : c.woken.result ≡ true = search rules in
    let woken : HasWoken format k j true = subst (λ (b : Bool). HasWoken format k j b) is c.woken.ensures.woken in
    on-err _ _ (owed-still format k j (g.P.PassView.known c.read_on.new.pass) woken c.in_err-to.ensures.refused)

pub returns-clause-rested : goal.returns-clause-rested
returns-clause-rested g c =
    let s = c.args.self.now in
    let terms = terms_of (g.H.Hub.shape c.args.hub.now) s.section s.patience in
    let woken = woken-answered terms s.plan s.done s.block s.set.channels s.doing (g.P.PassView.known s.pass) (g.P.PassView.known c.woken.new.pass) s.items.items _ c.woken.ensures.woken c.requires.answered in
    read-rested terms s.plan s.done s.block s.set.channels s.doing (g.P.PassView.known c.woken.new.pass) (g.P.PassView.known c.read_on.new.pass) s.items.items c.read_on.new.items.items c.in-Some.from c.in_ok-to.to
    c.in_ok-to.ensures.read (search rules) (ap (λ (k : Known). k.mark) c.woken.ensures.woken.known ∙ sym c.in-Some.ensures) (g.met.H.Hub.within c.args.hub.now c.woken.new.pass c.woken.ensures.own) woken

pub read_on-requires-clause-interested : goal.read_on-requires-clause-interested
read_on-requires-clause-interested g c =
    let s = c.args.self.now in
    let k : Known = g.P.PassView.known s.pass in
    let terms = terms_of (g.H.Hub.shape c.args.hub.now) s.section s.patience in
    ap (λ (q : Known). q.set) c.woken.ensures.woken.known
    ∙ told-set terms s.done s.set.channels k s.items.items _ c.in-Some.from (sym c.in-Some.ensures) c.requires.answered

pub returns-clause-grows : goal.returns-clause-grows
returns-clause-grows g c =
    let before : List Item = c.args.self.now.items.items in
    let read = c.in_ok-to.ensures.read in
    subst (λ (after : List Item). Begins before after) (sym read.shown) (read-more before c.in-Some.from c.in_ok-to.to read.got)

pub returns-clause-idled : goal.returns-clause-idled
returns-clause-idled g c =
    let format = (g.H.Hub.shape c.args.hub.now).format in
    let k : Known = g.P.PassView.known c.args.self.now.pass in
    let j : Known = g.P.PassView.known c.woken.new.pass in
    let is : c.woken.result ≡ true = search rules in
    (c.in-Some.from, j, subst (λ (b : Bool). HasWoken format k j b) is c.woken.ensures.woken, c.in_ok-to.ensures.read)

pub returns-then-ne-clause-rested : goal.returns-then-ne-clause-rested
returns-then-ne-clause-rested g c =
    let s = c.args.self.now in
    let opened : s.block.state ≡ Idle → ⊥ = search rules in
    open-rested (terms_of (g.H.Hub.shape c.args.hub.now) s.section s.patience) s.plan s.done s.block s.set.channels s.doing (g.P.PassView.known s.pass) s.items.items opened c.requires.answered

pub returns-in_default-clause-rested : goal.returns-in_default-clause-rested
returns-in_default-clause-rested g c =
    let s = c.args.self.now in
    let none : (g.P.PassView.known s.pass).mark ≡ None = search rules in
    unlisted-rested (terms_of (g.H.Hub.shape c.args.hub.now) s.section s.patience) s.plan s.done s.block s.set.channels s.doing (g.P.PassView.known s.pass) s.items.items none c.requires.answered

pub returns-then-ne-clause-grows : goal.returns-then-ne-clause-grows
returns-then-ne-clause-grows g c = none-more c.args.self.now.items.items c.args.self.now.items.items refl

pub returns-in_default-clause-grows : goal.returns-in_default-clause-grows
returns-in_default-clause-grows g c = none-more c.args.self.now.items.items c.args.self.now.items.items refl

pub returns-then-not-woken-clause-grows : goal.returns-then-not-woken-clause-grows
returns-then-not-woken-clause-grows g c = none-more c.args.self.now.items.items c.args.self.now.items.items refl

pub returns-in_err-to-clause-grows : goal.returns-in_err-to-clause-grows
returns-in_err-to-clause-grows g c = none-more c.args.self.now.items.items c.read_on.new.items.items c.in_err-to.ensures.refused_shows_nothing

pub returns-in_err-to-clause-unread : goal.returns-in_err-to-clause-unread
returns-in_err-to-clause-unread g c =
    on-err _ _ (ap (λ (k : Known). k.mark) c.in_err-to.ensures.refused.known ∙ ap (λ (k : Known). k.mark) c.woken.ensures.woken.known)

pub returns-clause-own : goal.returns-clause-own
returns-clause-own g c = c.read_on.ensures.own

pub returns-in_err-to-clause-own : goal.returns-in_err-to-clause-own
returns-in_err-to-clause-own g c = c.read_on.ensures.own

pub read_on-requires-clause-own : goal.read_on-requires-clause-own
read_on-requires-clause-own g c = c.woken.ensures.own

pub returns-in_err-to-clause-unshown : goal.returns-in_err-to-clause-unshown
returns-in_err-to-clause-unshown g c = on-err _ _ c.in_err-to.ensures.refused_shows_nothing

pub returns-clause-same : goal.returns-clause-same
returns-clause-same g c = refl

pub returns-in_err-to-clause-same : goal.returns-in_err-to-clause-same
returns-in_err-to-clause-same g c = refl
