-- What comes of a commit that meets no full queue.
use Rattle.std.proofs.Common.{◌≡◌, ◌≢◌, ℕ, ◌+◌, ◌≤◌, Bool, true, false, cond, List, [], ◌∷◌, ◌++◌, drop, Option, Some, None, IfSome, All, Contains, sym, ap, ◌∙◌, refl, subst, arith, append_assoc}
use Rattle.std.proofs.lemmas.List.Elements.{All-weaker, Contains-append_left}
use Rattle.pgn_base.specs.declared.note.Note.{Note}
use Rattle.pgn_base.specs.declared.answers.Tag.{Tag}
use Rattle.pgn_base.specs.declared.answers.Refusal.TheVariants as refused
use Rattle.pgn_base.specs.declared.action.Action.{Action}
use Rattle.pgn_base.specs.Channels.{applied}
use Rattle.pgn_journal.specs.declared.tx.Tx.{Tx}
use Rattle.pgn_model.specs.declared.item.Item.{Item}
use Rattle.pgn_model.specs.declared.item.Item.TheVariants.{Line, Reply, Refuse}
use Rattle.pgn_hub.specs.declared.known.Known.{Known}
use Rattle.pgn_journal.specs.Journal.{next_xid}
use Rattle.pgn_hub.specs.Shape.{Shape}
use Rattle.pgn_model.specs.Walk.{Terms, State}
use Rattle.pgn_model.specs.laws.NextLine.{is_enlisting, is_leaving, MayEnlist, MayPublish, enlist_items, publish_items, leave_items, published_xids, published_told, enlisted_mark, enlisted_marks, enlisted_told, left_mark, HoldsSoFar, StandsFresh, CommitsNext, committed}
use Rattle.pgn_model.specs.Legal.{IsFullThere, finished_xids}
use Rattle.pgn_model.proofs.NextLineLaws.{holds-grows, holds-within, line-commits, commits_next-grows, commit-finishes, commit-keeps_full}
use Rattle.pgn_block.specs.Kept.{StandsFor}
use Rattle.pgn_block.specs.Views.{BlockView}
use Rattle.pgn_session.specs.declared.doing.FlagPlan.{FlagPlan}
use Rattle.pgn_session.specs.declared.doing.Doing.TheVariants.{Lines}
use Rattle.pgn_session.specs.Standing.{HaveSameMembers, IsCommitting, IsAnswered, IsAt}
use Rattle.pgn_session.specs.Commits.{HasCommitted, is_telling, is_full, enlisted_items, sent_items, left_items}
use Rattle.pgn_session.proofs.CommitSteps.{base_of, point_of, leads-joined, may-enlist, same-enlist, x_of, leads-sent, same-sent, may-publish, members-joined, stood-joined, told-after, left-answered, at-joined, told-joined}

-- a commit that was not refused
pub committed-answered : (shape : Shape) (terms : Terms) (plan : FlagPlan) (done : ℕ) (set channels : List (List ℕ)) (k q : Known) (items after : List Item) (actions : List Action) (notes : List Note) (tag : Tag) (block : BlockView)
    → (h : IsAt terms done set k items (λ s. IsCommitting terms block k s actions notes tag))
    → (c : HasCommitted shape k q set channels h.here.line.line actions notes tag items after) → is_full c.sent ≡ false → h.here.lines ≡ drop (done + 1) terms.section.lines
    → IsAnswered terms plan (done + 1) block channels Lines q after
committed-answered shape terms plan done set channels k q items after actions notes tag block h c unfull behind =
    let s : State = h.state in
    let here = h.here in
    let line : ℕ = here.line.line in
    let b : Bool = is_enlisting actions k.mark in
    let base : ℕ = base_of c.enlisted in
    let point : ℕ = point_of c.enlisted in
    let x : ℕ = x_of c.sent in
    let within = holds-within terms k.seen items s h.stands.holds in
    let j : Known = c.joined in
    let f : Known = c.finished in
    let one = leads-joined k j b c.enlisted c.has_joined in
    let told_k : k.told ≤ next_xid k.seen = omega (arith, within.told, here.tells.told) in
    let told_j : j.told ≤ next_xid j.seen = omega (arith, one.told_is, told-joined k j b c.enlisted c.has_joined told_k) in
    let two = leads-sent shape j f notes c.sent c.has_sent unfull told_j in
    let more : List Tx = one.more ++ two.more in
    let grown : f.seen ≡ k.seen ++ more = two.seen_is ∙ ap (λ (txs : List Tx). txs ++ two.more) one.seen_is ∙ append_assoc k.seen one.more two.more in
    let g : HoldsSoFar terms f.seen items s = subst (λ (txs : List Tx). HoldsSoFar terms txs items s) (sym grown) (holds-grows terms k.seen more items s h.stands.holds) in
    let next : CommitsNext terms f.seen s here.line here.lines here.command tag actions notes =
    subst (λ (txs : List Tx). CommitsNext terms txs s here.line here.lines here.command tag actions notes) (sym grown) (commits_next-grows terms k.seen more s here.line here.lines here.command tag actions notes within.told here.next) in
    let same_b : is_enlisting actions s.mark ≡ b = ap (λ (m : Option ℕ). is_enlisting actions m) h.stands.mark in
    let enlist : is_enlisting actions s.mark ≡ true → MayEnlist f.seen s.told s.marks base point =
    λ e. subst (λ (txs : List Tx). MayEnlist txs s.told s.marks base point) (sym two.seen_is) (may-enlist k j b c.enlisted s.told s.marks two.more c.has_joined here.tells.told h.stands.marks.of_left (sym same_b ∙ e)) in
    let em : Option ℕ = enlisted_mark actions s.mark point in
    let em_k : em ≡ enlisted_mark actions k.mark point = ap (λ (m : Option ℕ). enlisted_mark actions m point) h.stands.mark in
    let mark_f : em ≡ f.mark = em_k ∙ sym one.mark_is ∙ sym two.mark_is in
    let mark_k : IfSome k.mark (λ m. m ≤ next_xid k.seen) = subst (λ (own : Option ℕ). IfSome own (λ m. m ≤ next_xid k.seen)) h.stands.mark within.mark in
    let at : IfSome em (λ m. m ≤ next_xid j.seen) = subst (λ (own : Option ℕ). IfSome own (λ m. m ≤ next_xid j.seen)) (sym em_k) (at-joined k j b c.enlisted c.has_joined mark_k) in
    let et : ℕ = enlisted_told actions s.mark s.told point in
    let et_j : et ≡ j.told =
    ap (λ (n : ℕ). enlisted_told actions s.mark n point) here.tells.told ∙ ap (λ (m : Option ℕ). enlisted_told actions m k.told point) h.stands.mark ∙ sym one.told_is in
    let told_e : et ≤ next_xid j.seen = omega (arith, et_j, told_j) in
    let publish : notes ≢ [] → MayPublish terms f.seen et em x notes =
    λ some. may-publish terms shape j f notes c.sent et em c.has_sent unfull (one.session_is ∙ h.stands.session) (one.database_is ∙ h.stands.database) told_e at some in
    let t : State = committed s here.lines actions notes base point x in
    let law = line-commits terms f.seen items s here.line here.lines here.command tag actions notes base point x g.stands_fresh next enlist publish in
    let chan : applied s.set actions ≡ channels =
    ap (λ (xs : List (List ℕ)). applied xs actions) h.channels ∙ sym (c.channels_are ∙ ap (λ (full : Bool). cond full set (applied set actions)) unfull) in
    let e1 : enlist_items actions s.mark base point ≡ enlisted_items c.enlisted =
    ap (λ (m : Option ℕ). enlist_items actions m base point) h.stands.mark ∙ sym (same-enlist k j b c.enlisted c.has_joined) in
    let begun : List Item = items ++ Line line ∷ [] in
    let whole : begun ++ enlist_items actions s.mark base point ++ publish_items notes x ++ leave_items em (applied s.set actions) ++ Reply tag None ∷ [] ≡ after =
    ap (λ (is : List Item). begun ++ is ++ publish_items notes x ++ leave_items em (applied s.set actions) ++ Reply tag None ∷ []) e1
    ∙ ap (λ (is : List Item). begun ++ enlisted_items c.enlisted ++ is ++ leave_items em (applied s.set actions) ++ Reply tag None ∷ []) (sym (same-sent shape j f notes c.sent c.has_sent unfull))
    ∙ ap (λ (m : Option ℕ). begun ++ enlisted_items c.enlisted ++ sent_items c.sent notes ++ leave_items m (applied s.set actions) ++ Reply tag None ∷ []) mark_f
    ∙ ap (λ (xs : List (List ℕ)). begun ++ enlisted_items c.enlisted ++ sent_items c.sent notes ++ leave_items f.mark xs ++ Reply tag None ∷ []) chan
    ∙ ap (λ (full : Bool). begun ++ enlisted_items c.enlisted ++ sent_items c.sent notes ++ left_items (is_leaving f.mark channels) ++ cond full (Refuse refused.QueueFull) (Reply tag None) ∷ []) (sym unfull)
    ∙ sym c.shown in
    let marks_f : cond b (k.marks ++ base ∷ [] ++ point ∷ []) k.marks ≡ f.marks = sym one.marks_are ∙ sym two.marks_are in
    left-answered terms plan done block channels f q (is_leaving f.mark channels) (is_telling f.mark actions) after t h.stands.patient c.has_left
    (told-after k j f q shape set channels actions notes c.enlisted c.sent (is_leaving f.mark channels) (is_telling f.mark actions)
    (subst (λ (channels : List (List ℕ)). IfSome k.mark (λ _. k.set ≡ channels)) h.channels h.stands.interested) c.has_joined c.has_sent c.channels_are refl c.has_left)
    (subst (λ (is : List Item). StandsFresh terms f.seen is t) whole law)
    (subst (λ (is : List Item). All (IsFullThere terms.settings f.seen) is) whole (commit-keeps_full terms.settings f.seen items line actions notes s.mark em (applied s.set actions) tag base point x g.full))
    g.found
    (two.session_is ∙ one.session_is ∙ h.stands.session)
    (two.database_is ∙ one.database_is ∙ h.stands.database)
    (ap finished_xids (sym whole) ∙ commit-finishes items line actions notes s.mark em (applied s.set actions) tag base point x ∙ ap (λ (xs : List ℕ). xs ++ published_xids notes x) (h.stands.own ∙ sym one.own_is) ∙ sym two.own_is)
    (ap (λ (m : Option ℕ). left_mark m (applied s.set actions)) mark_f ∙ ap (λ (xs : List (List ℕ)). left_mark f.mark xs) chan)
    (subst (λ (ys : List ℕ). HaveSameMembers (enlisted_marks actions s.mark s.marks base point) ys) marks_f
    (subst (λ (m : Option ℕ). HaveSameMembers (enlisted_marks actions m s.marks base point) (cond b (k.marks ++ base ∷ [] ++ point ∷ []) k.marks)) (sym h.stands.mark) (members-joined b s.marks k.marks base point h.stands.marks)))
    (subst (λ (m : Option ℕ). IfSome m (Contains f.marks)) (sym one.mark_is ∙ sym two.mark_is)
    (subst (λ (ys : List ℕ). IfSome (cond b (Some point) k.mark) (Contains ys)) marks_f (stood-joined b k.mark k.marks base point h.stands.stood)))
    (subst (λ (pairs : List (ℕ × ℕ)). All (Contains pairs) s.named) (sym (two.named_is ∙ ap (λ (pairs : List (ℕ × ℕ)). pairs ++ two.names) one.named_is))
    (All-weaker (Contains k.named) (Contains (k.named ++ one.names ++ two.names)) (λ pair there. Contains-append_left (k.named ++ one.names) two.names pair (Contains-append_left k.named one.names pair there)) s.named h.stands.named))
    behind
    chan
    refl
    (sym (ap (λ (v : BlockView). v.state) here.handed_out))
    (subst (λ (v : BlockView). StandsFor [] v.kept) (sym here.handed_out) refl)
    (ap (λ (n : ℕ). published_told notes n x) et_j ∙ sym two.told_is)
    (here.tells.raised ∙ sym one.raised_is ∙ sym two.raised_is)
    (here.tells.found ∙ sym one.found_is ∙ sym two.found_is)
    (omega (arith, here.budget, one.left_is, two.left_is))
    here.quits_last
