-- What comes of a commit that meets a full queue, and of any commit.
use Rattle.std.proofs.Common.{◌≡◌, ◌≢◌, inl, inr, ℕ, ◌+◌, ◌<◌, ◌≤◌, Bool, true, false, cond, List, [], ◌∷◌, ◌++◌, length, drop, Option, Some, None, Result, Ok, Err, IfSome, All, Contains, sym, ap, ◌∙◌, refl, subst, arith, length-append, append_assoc}
use Rattle.std.proofs.lemmas.Option.{IfSome_then}
use Rattle.std.proofs.lemmas.List.Elements.{All-nil, All-cons, All-append, All-head, All-weaker, Contains-append_left}
use Rattle.pgn_base.specs.declared.note.Note.{Note}
use Rattle.pgn_base.specs.declared.answers.Tag.{Tag}
use Rattle.pgn_base.specs.declared.answers.Refusal.TheVariants as refused
use Rattle.pgn_base.specs.declared.queue_answers.Full.{Full}
use Rattle.pgn_base.specs.declared.queue_answers.Enlisted.{Enlisted}
use Rattle.pgn_base.specs.declared.action.Action.{Action}
use Rattle.pgn_journal.specs.declared.tx.Tx.{Tx}
use Rattle.pgn_journal.specs.declared.tx.Fate.TheVariants.{Aborted}
use Rattle.pgn_model.specs.declared.item.Item.{Item}
use Rattle.pgn_model.specs.declared.item.Item.TheVariants.{Line, Enlist, Publish, QueueFull, Leave, Refuse, Reply}
use Rattle.pgn_hub.specs.declared.known.Known.{Known}
use Rattle.pgn_journal.specs.Journal.{next_xid}
use Rattle.pgn_hub.specs.Shape.{Shape}
use Rattle.pgn_model.specs.Walk.{Terms, State}
use Rattle.pgn_model.specs.laws.NextLine.{is_enlisting, is_leaving, MayEnlist, enlist_items, leave_items, MayMeetFull, enlisted_mark, enlisted_marks, enlisted_told, left_mark, HoldsSoFar, StandsFresh, CommitsNext, met_full}
use Rattle.pgn_hub.specs.Calls.{HasMetFull, tx_of}
use Rattle.pgn_journal.specs.QueueUse.{IsFloorFor, NoPage}
use Rattle.pgn_base.specs.declared.format.Format.{Format}
use Rattle.pgn_hub.proofs.FloorLaws.{own-floors}
use Rattle.pgn_hub.proofs.CallLaws.{holders-are_named}
use Rattle.pgn_model.specs.Legal.{IsFullThere, finished_xids}
use Rattle.pgn_model.proofs.NextLineLaws.{holds-grows, holds-within, commits_next-grows, line-meets_full, last-met_full, full-finishes, full-keeps_full}
use Rattle.pgn_block.specs.Kept.{StandsFor}
use Rattle.pgn_block.specs.Views.{BlockView}
use Rattle.pgn_session.specs.declared.doing.FlagPlan.{FlagPlan}
use Rattle.pgn_session.specs.declared.doing.Doing.TheVariants.{Lines, Committing}
use Rattle.pgn_session.specs.Standing.{terms_of, HaveSameMembers, IsCommitting, IsAnswered, IsRested, IsAt}
use Rattle.pgn_session.specs.Steps.{ShowsLine, ShowsNext, HasToldAtMost, IsWithoutHub, IsNoLine}
use Rattle.pgn_session.proofs.CommittedLaws.{committed-answered}
use Rattle.pgn_language.specs.declared.scenario.Section.{Section}
use Rattle.pgn_language.specs.declared.scenario.ScriptLine.{ScriptLine}
use Rattle.std.proofs.lemmas.List.{drop_more, length-drop}
use Rattle.std.proofs.Math.ListN.{get_or}
use Rattle.pgn_session.specs.Commits.{HasJoined, HasSent, HasLeftOr, HasCommitted, is_telling, is_full, set_after, enlisted_items, sent_items, left_items, ending_item}
use Rattle.pgn_session.proofs.CommitSteps.{base_of, point_of, leads-joined, leads-full, may-enlist, same-enlist, members-joined, stood-joined, told-after, left-answered, at-joined, told-joined}
use Rattle.pgn_session.proofs.KnownLaws.{named-holder}

-- what met a full queue stands there, aborted
pub may-meet_full : (terms : Terms) (shape : Shape) (j f : Known) (notes : List Note) (full : Full) (told : ℕ) (mark : Option ℕ) → HasMetFull shape j f notes full
    → j.session ≡ terms.section.no → j.db ≡ terms.section.db → told ≤ next_xid j.seen → mark ≡ j.mark → IfSome mark (λ m. m ≤ next_xid j.seen)
    → MayMeetFull terms f.seen told mark full notes
may-meet_full terms shape j f notes full told mark h session database after is at =
    let tx : Tx = tx_of j notes full.queued Aborted in
    let longer : next_xid j.seen ≤ next_xid (j.seen ++ h.more) = omega (arith, length-append j.seen h.more) in
    let whole : f.seen ≡ j.seen ++ h.more ++ tx ∷ [] = ap (λ (q : Known). q.seen) h.known in
    subst (λ (txs : List Tx). MayMeetFull terms txs told mark full notes) (sym whole)
    (last-met_full terms (j.seen ++ h.more) tx told mark full notes h.number (omega (arith, after, longer)) (IfSome_then mark at (λ m below. omega (arith, below, longer)))
    (record { by_session = session; in_database = database; with_notes = refl; aborted = refl; some = refl })
    (subst (λ (m : Option ℕ). IsFloorFor terms.section.no m full.floor_mark full.holder) (sym is) (own-floors.of_full terms.section.no shape j f notes full session h)))

-- a commit that met a full queue
pub full-answered : (shape : Shape) (terms : Terms) (plan : FlagPlan) (done : ℕ) (set channels : List (List ℕ)) (k q : Known) (items after : List Item) (actions : List Action) (notes : List Note) (tag : Tag) (block : BlockView) (full : Full)
    → terms.settings.format ≡ shape.format → terms.settings.limit ≡ shape.pages
    → (h : IsAt terms done set k items (λ s. IsCommitting terms block k s actions notes tag))
    → (c : HasCommitted shape k q set channels h.here.line.line actions notes tag items after) → c.sent ≡ Some (Err full) → h.here.lines ≡ drop (done + 1) terms.section.lines
    → IsAnswered terms plan (done + 1) block channels Lines q after
full-answered shape terms plan done set channels k q items after actions notes tag block full format pages h c is behind =
    let s : State = h.state in
    let here = h.here in
    let line : ℕ = here.line.line in
    let b : Bool = is_enlisting actions k.mark in
    let base : ℕ = base_of c.enlisted in
    let point : ℕ = point_of c.enlisted in
    let within = holds-within terms k.seen items s h.stands.holds in
    let j : Known = c.joined in
    let f : Known = c.finished in
    let met : (notes ≢ []) × HasMetFull shape j f notes full = subst (λ (sent : Option (Result ℕ Full)). HasSent shape j f notes sent) is c.has_sent in
    let one = leads-joined k j b c.enlisted c.has_joined in
    let told_k : k.told ≤ next_xid k.seen = omega (arith, within.told, here.tells.told) in
    let told_j : j.told ≤ next_xid j.seen = omega (arith, one.told_is, told-joined k j b c.enlisted c.has_joined told_k) in
    let two = leads-full shape j f notes full met.1 in
    let more : List Tx = one.more ++ two.more in
    let grown : f.seen ≡ k.seen ++ more = two.seen_is ∙ ap (λ (txs : List Tx). txs ++ two.more) one.seen_is ∙ append_assoc k.seen one.more two.more in
    let g : HoldsSoFar terms f.seen items s = subst (λ (txs : List Tx). HoldsSoFar terms txs items s) (sym grown) (holds-grows terms k.seen more items s h.stands.holds) in
    let next : CommitsNext terms f.seen s here.line here.lines here.command tag actions notes =
    subst (λ (txs : List Tx). CommitsNext terms txs s here.line here.lines here.command tag actions notes) (sym grown) (commits_next-grows terms k.seen more s here.line here.lines here.command tag actions notes within.told here.next) in
    let same_b : is_enlisting actions s.mark ≡ b = ap (λ (m : Option ℕ). is_enlisting actions m) h.stands.mark in
    let enlist : is_enlisting actions s.mark ≡ true → MayEnlist f.seen s.told s.marks base point =
    λ e. subst (λ (txs : List Tx). MayEnlist txs s.told s.marks base point) (sym two.seen_is) (may-enlist k j b c.enlisted s.told s.marks two.more c.has_joined here.tells.told h.stands.marks.of_left (sym same_b ∙ e)) in
    let em : Option ℕ = enlisted_mark actions s.mark point in
    let em_k : em ≡ enlisted_mark actions k.mark point = ap (λ (m : Option ℕ). enlisted_mark actions m point) h.stands.mark in
    let em_j : em ≡ j.mark = em_k ∙ sym one.mark_is in
    let mark_f : em ≡ f.mark = em_j ∙ sym two.mark_is in
    let mark_k : IfSome k.mark (λ m. m ≤ next_xid k.seen) = subst (λ (own : Option ℕ). IfSome own (λ m. m ≤ next_xid k.seen)) h.stands.mark within.mark in
    let at : IfSome em (λ m. m ≤ next_xid j.seen) = subst (λ (own : Option ℕ). IfSome own (λ m. m ≤ next_xid j.seen)) (sym em_k) (at-joined k j b c.enlisted c.has_joined mark_k) in
    let et : ℕ = enlisted_told actions s.mark s.told point in
    let et_j : et ≡ j.told =
    ap (λ (n : ℕ). enlisted_told actions s.mark n point) here.tells.told ∙ ap (λ (m : Option ℕ). enlisted_told actions m k.told point) h.stands.mark ∙ sym one.told_is in
    let told_e : et ≤ next_xid j.seen = omega (arith, et_j, told_j) in
    let meets : MayMeetFull terms f.seen et em full notes =
    may-meet_full terms shape j f notes full et em met.1 (one.session_is ∙ h.stands.session) (one.database_is ∙ h.stands.database) told_e em_j at in
    let t : State = met_full s here.lines actions base point full in
    let law = line-meets_full terms f.seen items s here.line here.lines here.command tag actions notes base point full g.stands_fresh next enlist met.0 meets in
    let no_page : NoPage terms.settings.format terms.settings.limit f.seen full =
    subst (λ (n : ℕ). NoPage terms.settings.format n f.seen full) (sym pages) (subst (λ (fm : Format). NoPage fm shape.pages f.seen full) (sym format) met.1.no_page) in
    let chan : s.set ≡ channels = h.channels ∙ sym (c.channels_are ∙ ap (λ (sent : Option (Result ℕ Full)). set_after sent set actions) is) in
    let e1 : enlist_items actions s.mark base point ≡ enlisted_items c.enlisted =
    ap (λ (m : Option ℕ). enlist_items actions m base point) h.stands.mark ∙ sym (same-enlist k j b c.enlisted c.has_joined) in
    let begun : List Item = items ++ Line line ∷ [] in
    let whole : begun ++ enlist_items actions s.mark base point ++ QueueFull full notes ∷ [] ++ leave_items em s.set ++ Refuse refused.QueueFull ∷ [] ≡ after =
    ap (λ (is : List Item). begun ++ is ++ QueueFull full notes ∷ [] ++ leave_items em s.set ++ Refuse refused.QueueFull ∷ []) e1
    ∙ ap (λ (m : Option ℕ). begun ++ enlisted_items c.enlisted ++ QueueFull full notes ∷ [] ++ leave_items m s.set ++ Refuse refused.QueueFull ∷ []) mark_f
    ∙ ap (λ (xs : List (List ℕ)). begun ++ enlisted_items c.enlisted ++ QueueFull full notes ∷ [] ++ leave_items f.mark xs ++ Refuse refused.QueueFull ∷ []) chan
    ∙ ap (λ (sent : Option (Result ℕ Full)). begun ++ enlisted_items c.enlisted ++ sent_items sent notes ++ left_items (is_leaving f.mark channels) ++ ending_item sent tag ∷ []) (sym is)
    ∙ sym c.shown in
    let marks_f : cond b (k.marks ++ base ∷ [] ++ point ∷ []) k.marks ≡ f.marks = sym one.marks_are ∙ sym two.marks_are in
    let after_told : et ≤ full.xid = meets.after_told in
    left-answered terms plan done block channels f q (is_leaving f.mark channels) (is_telling f.mark actions) after t h.stands.patient c.has_left
    (told-after k j f q shape set channels actions notes c.enlisted c.sent (is_leaving f.mark channels) (is_telling f.mark actions)
    (subst (λ (channels : List (List ℕ)). IfSome k.mark (λ _. k.set ≡ channels)) h.channels h.stands.interested) c.has_joined c.has_sent c.channels_are refl c.has_left)
    (subst (λ (is : List Item). StandsFresh terms f.seen is t) whole law)
    (subst (λ (is : List Item). All (IsFullThere terms.settings f.seen) is) whole (full-keeps_full terms.settings f.seen items line actions notes s.mark em s.set base point full g.full no_page))
    g.found
    (two.session_is ∙ one.session_is ∙ h.stands.session)
    (two.database_is ∙ one.database_is ∙ h.stands.database)
    (ap finished_xids (sym whole) ∙ full-finishes items line actions notes s.mark em s.set base point full ∙ ap (λ (xs : List ℕ). xs ++ full.xid ∷ []) (h.stands.own ∙ sym one.own_is) ∙ sym two.own_is)
    (ap (λ (m : Option ℕ). left_mark m s.set) mark_f ∙ ap (λ (xs : List (List ℕ)). left_mark f.mark xs) chan)
    (subst (λ (ys : List ℕ). HaveSameMembers (enlisted_marks actions s.mark s.marks base point) ys) marks_f
    (subst (λ (m : Option ℕ). HaveSameMembers (enlisted_marks actions m s.marks base point) (cond b (k.marks ++ base ∷ [] ++ point ∷ []) k.marks)) (sym h.stands.mark) (members-joined b s.marks k.marks base point h.stands.marks)))
    (subst (λ (m : Option ℕ). IfSome m (Contains f.marks)) (sym one.mark_is ∙ sym two.mark_is)
    (subst (λ (ys : List ℕ). IfSome (cond b (Some point) k.mark) (Contains ys)) marks_f (stood-joined b k.mark k.marks base point h.stands.stood)))
    (named-holder f.named full.holder full.floor_mark s.named (holders-are_named.of_full shape j f notes full met.1)
    (subst (λ (pairs : List (ℕ × ℕ)). All (Contains pairs) s.named) (sym (two.named_is ∙ ap (λ (pairs : List (ℕ × ℕ)). pairs ++ two.names) one.named_is))
    (All-weaker (Contains k.named) (Contains (k.named ++ one.names ++ two.names)) (λ pair there. Contains-append_left (k.named ++ one.names) two.names pair (Contains-append_left k.named one.names pair there)) s.named h.stands.named)))
    behind
    chan
    refl
    (sym (ap (λ (v : BlockView). v.state) here.handed_out))
    (subst (λ (v : BlockView). StandsFor [] v.kept) (sym here.handed_out) refl)
    (omega (arith, after_told, two.told_is))
    (here.tells.raised ∙ sym one.raised_is ∙ sym two.raised_is)
    (here.tells.found ∙ sym one.found_is ∙ sym two.found_is)
    (omega (arith, here.budget, one.left_is, two.left_is))
    here.quits_last

-- what comes before stays in front
regroup : (begun enlisted sent left ending : List Item) → begun ++ enlisted ++ sent ++ left ++ ending ≡ begun ++ (enlisted ++ (sent ++ (left ++ ending)))
regroup begun enlisted sent left ending =
    append_assoc (begun ++ enlisted ++ sent) left ending ∙ append_assoc (begun ++ enlisted) sent (left ++ ending) ∙ append_assoc begun enlisted (sent ++ (left ++ ending))

-- a step of a commit that shows nothing has left the pass as it was
joined-untouched : (b : Bool) (k j : Known) (got : Option Enlisted) (rest : List Item) → HasJoined b k j got → All IsWithoutHub (enlisted_items got ++ rest) → (j ≡ k) × All IsWithoutHub rest
joined-untouched true k j (Some got) rest h all = absurd (All-head IsWithoutHub (Enlist got.base got.point) rest all)
joined-untouched true k j None rest h all = absurd h
joined-untouched false k j (Some got) rest h all = absurd h
joined-untouched false k j None rest h all = (h, all)

sent-untouched : (shape : Shape) (j f : Known) (notes : List Note) (sent : Option (Result ℕ Full)) (rest : List Item) → HasSent shape j f notes sent → All IsWithoutHub (sent_items sent notes ++ rest) → (f ≡ j) × All IsWithoutHub rest
sent-untouched shape j f notes None rest h all = (h.1, all)
sent-untouched shape j f notes (Some (Ok x)) rest h all = absurd (All-head IsWithoutHub (Publish x notes) rest all)
sent-untouched shape j f notes (Some (Err full)) rest h all = absurd (All-head IsWithoutHub (QueueFull full notes) rest all)

left-untouched : (b telling : Bool) (channels : List (List ℕ)) (f q : Known) (rest : List Item) → HasLeftOr b telling channels f q → All IsWithoutHub (left_items b ++ rest) → HasToldAtMost f q
left-untouched true telling channels f q rest h all = absurd (All-head IsWithoutHub Leave rest all)
left-untouched false true channels f q rest h all = inr (channels, h)
left-untouched false false channels f q rest h all = inl h

-- no item of a commit begins a line
one-item : (shown : Item) → IsNoLine shown → All IsNoLine (shown ∷ [])
one-item shown none = All-cons IsNoLine shown [] none (All-nil IsNoLine)

commit-one_line : (enlisted : Option Enlisted) (sent : Option (Result ℕ Full)) (notes : List Note) (left : Bool) (tag : Tag) → All IsNoLine (enlisted_items enlisted ++ (sent_items sent notes ++ (left_items left ++ ending_item sent tag ∷ [])))
commit-one_line enlisted sent notes left tag =
    All-append IsNoLine (enlisted_items enlisted) (sent_items sent notes ++ (left_items left ++ ending_item sent tag ∷ [])) (of_enlisted enlisted)
    (All-append IsNoLine (sent_items sent notes) (left_items left ++ ending_item sent tag ∷ []) (of_sent sent) (All-append IsNoLine (left_items left) (ending_item sent tag ∷ []) (of_left left) (of_ending sent)))
  where
    of_enlisted : (enlisted : Option Enlisted) → All IsNoLine (enlisted_items enlisted)
    of_enlisted None = All-nil IsNoLine
    of_enlisted (Some got) = one-item (Enlist got.base got.point) tt

    of_sent : (sent : Option (Result ℕ Full)) → All IsNoLine (sent_items sent notes)
    of_sent None = All-nil IsNoLine
    of_sent (Some (Ok x)) = one-item (Publish x notes) tt
    of_sent (Some (Err full)) = one-item (QueueFull full notes) tt

    of_left : (left : Bool) → All IsNoLine (left_items left)
    of_left true = one-item Leave tt
    of_left false = All-nil IsNoLine

    of_ending : (sent : Option (Result ℕ Full)) → All IsNoLine (ending_item sent tag ∷ [])
    of_ending None = one-item (Reply tag None) tt
    of_ending (Some (Ok x)) = one-item (Reply tag None) tt
    of_ending (Some (Err full)) = one-item (Refuse refused.QueueFull) tt

-- the line that comes next, by its place
pub next-line : (lines : List ScriptLine) (done : ℕ) (line : ScriptLine) (rest : List ScriptLine) (d : ScriptLine) → drop done lines ≡ line ∷ rest → (rest ≡ drop (done + 1) lines) × (get_or lines done d ≡ line)
next-line lines done line rest d e =
    let some : length (drop done lines) ≡ length rest + 1 = ap (λ (ls : List ScriptLine). length ls) e ∙ omega arith in
    let lt : done < length lines = omega (arith, some, length-drop done lines) in
    let both : line ∷ rest ≡ get_or lines done d ∷ drop (done + 1) lines = sym e ∙ drop_more lines done d lt in
    (cc, cc)

-- the line at the place to which the script was done is the first of those to come
pub indexed-line : (lines now : List ScriptLine) (done : ℕ) (line : ScriptLine) (rest : List ScriptLine) (d : ScriptLine) → drop done lines ≡ line ∷ rest → now ≡ lines → get_or now done d ≡ line
indexed-line lines now done line rest d e is = ap (λ (ls : List ScriptLine). get_or ls done d) is ∙ (next-line lines done line rest d e).1

-- a commit is answered, and shows its line
pub commit-answered : (shape : Shape) (section : Section) (patience : ℕ) (plan : FlagPlan) (done : ℕ) (set channels : List (List ℕ)) (k q : Known) (items after : List Item) (actions : List Action) (notes : List Note) (tag : Tag) (block : BlockView) (line : ℕ)
    → (h : IsRested (terms_of shape section patience) plan done block set (Committing actions notes tag) k items) → line ≡ h.here.line.line → HasCommitted shape k q set channels line actions notes tag items after
    → IsAnswered (terms_of shape section patience) plan (done + 1) block channels Lines q after × ShowsNext (drop done section.lines) k q items after
commit-answered shape section patience plan done set channels k q items after actions notes tag block line h is c =
    let at : drop done section.lines ≡ h.here.line ∷ h.here.lines = sym h.rest ∙ h.here.next.comes.next in
    let behind : h.here.lines ≡ drop (done + 1) section.lines = (next-line section.lines done h.here.line h.here.lines h.here.line at).0 in
    let d : HasCommitted shape k q set channels h.here.line.line actions notes tag items after = subst (λ (n : ℕ). HasCommitted shape k q set channels n actions notes tag items after) is c in
    let begun : List Item = items ++ Line h.here.line.line ∷ [] in
    let left : Bool = is_leaving d.finished.mark channels in
    let ending : List Item = ending_item d.sent tag ∷ [] in
    let shows : ShowsLine h.here.line.line k q items after = record {
      more = enlisted_items d.enlisted ++ (sent_items d.sent notes ++ (left_items left ++ ending));
      shown = d.shown ∙ regroup begun (enlisted_items d.enlisted) (sent_items d.sent notes) (left_items left) ending;
      one_line = commit-one_line d.enlisted d.sent notes left tag;
      untouched = λ all.
          let joined = joined-untouched (is_enlisting actions k.mark) k d.joined d.enlisted (sent_items d.sent notes ++ (left_items left ++ ending)) d.has_joined all in
          let sent = sent-untouched shape d.joined d.finished notes d.sent (left_items left ++ ending) d.has_sent joined.1 in
          subst (λ (p : Known). HasToldAtMost p q) (sent.0 ∙ joined.0) (left-untouched left (is_telling d.finished.mark actions) channels d.finished q ending d.has_left sent.1);
    } in
    (either behind d d.sent refl, subst (λ (ls : List ScriptLine). ShowsNext ls k q items after) (sym at) shows)
  where
    either : h.here.lines ≡ drop (done + 1) section.lines → (d : HasCommitted shape k q set channels h.here.line.line actions notes tag items after) → (sent : Option (Result ℕ Full)) → d.sent ≡ sent
        → IsAnswered (terms_of shape section patience) plan (done + 1) block channels Lines q after
    either behind d None e = committed-answered shape (terms_of shape section patience) plan done set channels k q items after actions notes tag block h d (ap is_full e) behind
    either behind d (Some (Ok x)) e = committed-answered shape (terms_of shape section patience) plan done set channels k q items after actions notes tag block h d (ap is_full e) behind
    either behind d (Some (Err full)) e = full-answered shape (terms_of shape section patience) plan done set channels k q items after actions notes tag block full refl refl h d e behind
