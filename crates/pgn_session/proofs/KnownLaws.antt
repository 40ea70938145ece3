-- What holds of a session stays so as its pass comes to know more.
use Rattle.std.proofs.Common.{◌≡◌, ℕ, ◌+◌, ◌≤◌, List, [], ◌∷◌, ◌++◌, Option, Some, None, IfSome, All, Contains, sym, ◌∙◌, subst, arith, Result, Ok, Err, OnErr}
use Rattle.std.proofs.lemmas.List.Elements.{All-nil, All-cons, All-append, All-push, All-weaker, Contains-push, Contains-append_left}
use Rattle.pgn_journal.specs.declared.tx.Tx.{Tx}
use Rattle.pgn_model.specs.declared.item.Item.{Item}
use Rattle.pgn_hub.specs.declared.known.Known.{Known}
use Rattle.pgn_model.specs.Walk.{Terms, State, Owed, holder_at}
use Rattle.pgn_model.specs.Trace.{IsUpToDate}
use Rattle.pgn_model.proofs.NextLineLaws.{holds-grows}
use Rattle.pgn_hub.specs.Calls.{HasLearned}
use Rattle.pgn_block.specs.Views.{BlockView}
use Rattle.pgn_session.specs.declared.doing.FlagPlan.{FlagPlan}
use Rattle.pgn_session.specs.declared.doing.Doing.{Doing}
use Rattle.pgn_session.specs.declared.doing.Doing.TheVariants.{Lines, Committing, Awaiting, Ending, Over}
use Rattle.pgn_session.specs.Standing.{StandsAt, IsAt, HaveSameMembers, TellsAll, TellsMore, GoesOnByEnds, IsInScript, IsPastScript, WasFound, HasAnswered, HasRested, spare_of}

-- the journal may grow
pub stands-grows : (terms : Terms) (k : Known) (more : List Tx) (items : List Item) (s : State) → StandsAt terms k items s → StandsAt terms (record k { seen = k.seen ++ more }) items s
stands-grows terms k more items s h = record {
  holds = holds-grows terms k.seen more items s h.holds;
  session = h.session;
  database = h.database;
  own = h.own;
  mark = h.mark;
  marks = h.marks;
  stood = h.stood;
  named = h.named;
  interested = h.interested;
  patient = h.patient;
}

-- a pass that has learned more shows no less than the trace does
pub stands-learned : (terms : Terms) (k q : Known) (items : List Item) (s : State) → HasLearned k q → StandsAt terms k items s → StandsAt terms q items s
stands-learned terms k q items s learned h = subst (λ (p : Known). StandsAt terms p items s) (sym learned.known) (stands-grows terms k learned.more items s h)

-- what a listener has told is its set
pub told-set : (terms : Terms) (done : ℕ) (set : List (List ℕ)) (k : Known) (items : List Item) (P : State → Type 0) (from : ℕ) → k.mark ≡ Some from → IsAt terms done set k items P → k.set ≡ set
told-set terms done set k items P from is h = subst (λ (mark : Option ℕ). IfSome mark (λ _. k.set ≡ h.state.set)) is h.stands.interested ∙ h.channels

-- what the pass was told, has raised and found and may still send is as it was
pub record IsSameTold (k q : Known) : Type 0 where
  pub told : q.told ≡ k.told
  pub raised : q.raised ≡ k.raised
  pub found : q.found ≡ k.found
  pub notes_left : q.notes_left ≡ k.notes_left

pub tells_all-same : (k q : Known) (s : State) → IsSameTold k q → TellsAll k s → TellsAll q s
tells_all-same k q s same h = record { told = h.told ∙ sym same.told; raised = h.raised ∙ sym same.raised; found = h.found ∙ sym same.found }

pub tells_more-same : (plan : FlagPlan) (k q : Known) (s : State) → IsSameTold k q → TellsMore plan k s → TellsMore plan q s
tells_more-same plan k q s same h = record {
  told = omega (arith, h.told, same.told);
  raised = subst (λ (pairs : List (ℕ × ℕ)). GoesOnByEnds plan s.raised pairs) (sym same.raised) h.raised;
  found = subst (λ (pairs : List (ℕ × ℕ)). GoesOnByEnds plan s.found pairs) (sym same.found) h.found;
}

in_script-same : (spare : ℕ) (block : BlockView) (k q : Known) (s : State) (owed : Owed) → IsSameTold k q → IsInScript spare block k s owed → IsInScript spare block q s owed
in_script-same spare block k q s owed same h = record {
  owes = h.owes;
  block_state = h.block_state;
  list = h.list;
  tells = tells_all-same k q s same h.tells;
  budget = omega (arith, h.budget, same.notes_left);
  quits_last = h.quits_last;
}

past_script-same : (plan : FlagPlan) (block : BlockView) (k q : Known) (s : State) → IsSameTold k q → IsPastScript plan block k s → IsPastScript plan block q s
past_script-same plan block k q s same h = record { owes = h.owes; done = h.done; dropped = h.dropped; tells = tells_more-same plan k q s same h.tells }

-- where the session stands does not change with a pass that was told the same
pub answered-same : (terms : Terms) (plan : FlagPlan) (block : BlockView) (k q : Known) (s : State) (doing : Doing) → IsSameTold k q → HasAnswered terms plan block k s doing → HasAnswered terms plan block q s doing
answered-same terms plan block k q s Lines same h = in_script-same (spare_of terms.section) block k q s _ same h
answered-same terms plan block k q s (Committing actions notes tag) same h = h
answered-same terms plan block k q s (Awaiting flag looks) same h = (in_script-same (spare_of terms.section) block k q s _ same h.0, h.1, h.2)
answered-same terms plan block k q s (Ending found looks) same h = (past_script-same plan block k q s same h.0, h.1, h.2, λ i lt. subst (λ (pairs : List (ℕ × ℕ)). WasFound pairs (plan.first_end + i)) (sym same.found) (h.3 i lt))
answered-same terms plan block k q s Over same h = past_script-same plan block k q s same h

-- the pass was told no less than the trace shows
pub told-below : (terms : Terms) (plan : FlagPlan) (block : BlockView) (k : Known) (s : State) (doing : Doing) → HasAnswered terms plan block k s doing → s.told ≤ k.told
told-below terms plan block k s Lines h = omega (arith, h.tells.told)
told-below terms plan block k s (Committing actions notes tag) h = absurd h
told-below terms plan block k s (Awaiting flag looks) h = omega (arith, h.0.tells.told)
told-below terms plan block k s (Ending found looks) h = h.0.tells.told
told-below terms plan block k s Over h = h.tells.told

-- where no read was left out, a session that has answered has rested
pub answered-rested : (terms : Terms) (plan : FlagPlan) (block : BlockView) (k : Known) (s : State) (doing : Doing)
    → HasAnswered terms plan block k s doing → IsUpToDate terms k.seen s → HasRested terms plan block k s doing
answered-rested terms plan block k s Lines h up = (h, λ e. up)
answered-rested terms plan block k s (Committing actions notes tag) h up = absurd h
answered-rested terms plan block k s (Awaiting flag looks) h up = (h, λ e. up)
answered-rested terms plan block k s (Ending found looks) h up = (h, up)
answered-rested terms plan block k s Over h up = (h, up)

-- one more at the end of both
pub members-push : (xs ys : List ℕ) (n : ℕ) → HaveSameMembers xs ys → HaveSameMembers (xs ++ n ∷ []) (ys ++ n ∷ [])
members-push xs ys n h = record {
  of_left = All-push (Contains (ys ++ n ∷ [])) xs n (All-weaker (Contains ys) (Contains (ys ++ n ∷ [])) (λ x c. Contains-append_left ys (n ∷ []) x c) xs h.of_left) (Contains-push ys n);
  of_right = All-push (Contains (xs ++ n ∷ [])) ys n (All-weaker (Contains xs) (Contains (xs ++ n ∷ [])) (λ x c. Contains-append_left xs (n ∷ []) x c) ys h.of_right) (Contains-push xs n);
}

-- one more at the end of the second, which it has
pub members-again : (xs ys : List ℕ) (n : ℕ) → Contains xs n → HaveSameMembers xs ys → HaveSameMembers xs (ys ++ n ∷ [])
members-again xs ys n there h = record {
  of_left = All-weaker (Contains ys) (Contains (ys ++ n ∷ [])) (λ x c. Contains-append_left ys (n ∷ []) x c) xs h.of_left;
  of_right = All-push (Contains xs) ys n h.of_right there;
}

-- a fact that holds whatever the result is
pub on-err : {T E : Type 0} (P : Type 0) (r : Result T E) → P → OnErr r P
on-err P (Ok v) p = tt
on-err P (Err e) p = p

-- the holder that is named was met
pub named-holder : (met : List (ℕ × ℕ)) (holder : Option ℕ) (floor : ℕ) (named : List (ℕ × ℕ)) → IfSome holder (λ session. Contains met (session, floor)) → All (Contains met) named → All (Contains met) (named ++ holder_at holder floor)
named-holder met holder floor named is there = All-append (Contains met) named (holder_at holder floor) there (held holder is)
  where
    held : (holder : Option ℕ) → IfSome holder (λ session. Contains met (session, floor)) → All (Contains met) (holder_at holder floor)
    held None h = All-nil (Contains met)
    held (Some session) h = All-cons (Contains met) (session, floor) [] h (All-nil (Contains met))
