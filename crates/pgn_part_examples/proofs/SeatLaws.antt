-- Why examples are refused.
use Rattle.std.proofs.Common.{◌≡◌, ℕ, Bool, true, false, cond, List, [], ◌∷◌, ◌++◌, All, Option, Some, None, sym, ap, ◌∙◌, refl, subst}
use Rattle.std.specs.Prelude.{◌==◌, flat_map, fold, map}
use Rattle.std.proofs.lemmas.List.Elements.{All-head, All-tail}
use Rattle.pgn_answers.specs.declared.block_state.BlockState.{BlockState}
use Rattle.pgn_answers.specs.declared.block_state.BlockState.TheVariants.{Failed, Idle, InBlock}
use Rattle.pgn_model.specs.declared.item.Item.{Item}
use Rattle.pgn_model.specs.declared.item.Item.TheVariants.{Read}
use Rattle.pgn_model.specs.Walk.{State, after_item}
use Rattle.pgn_requests.specs.declared.setting.Setting.{Setting}
use Rattle.pgn_requests.specs.declared.settings.Entry.{Entry}
use Rattle.pgn_requests.specs.declared.settled.Settled.{Settled}
use Rattle.pgn_requests.specs.declared.settled.Settled.TheVariants.{One}
use Rattle.pgn_requests.specs.Settings.{Kept, fresh, kept_after, number_of, with_value}
use Rattle.pgn_messages.specs.declared.asked.Ask.{Ask}
use Rattle.pgn_messages.specs.declared.asked.Ask.TheVariants.{Discard, End, Query, Settle}
use Rattle.pgn_messages.specs.declared.asked.Parting.{Parting}
use Rattle.pgn_messages.specs.Asks.{lines_for, seat_quit}
use Rattle.pgn_messages.specs.Served.{settled_answer}
use Rattle.pgn_messages.specs.Turns.{Telling, Turn, Answers, Discards, Hears, IsPlain, IsRead, Leaves, Settles, asks_of, lines_of, signs_in, signs_said, telling_after}
use Rattle.pgn_part_examples.specs.Seats.{names}

-- the lines of turns that were asked for by these
pub lines-asked : (turns : List Turn) (asks : List Ask) → asks_of turns ≡ asks → lines_of turns ++ seat_quit ∷ [] ≡ flat_map lines_for asks ++ seat_quit ∷ []
lines-asked turns asks e = ap (λ (l : List Ask). flat_map lines_for l ++ seat_quit ∷ []) e

-- what was asked, where one was, or two, or none
pub one-ask : (ask : Ask) (asks : List Ask) → Some ask ∷ [] ≡ map Some asks → asks ≡ ask ∷ []
one-ask ask [] e = let both : Some ask ∷ [] ≡ [] = e in absurd (cc)
one-ask ask (one ∷ []) e = let both : Some ask ∷ [] ≡ Some one ∷ [] = e in let same : ask ≡ one = cc in ap (λ (a : Ask). a ∷ []) (sym same)
one-ask ask (one ∷ other ∷ asks) e = let both : Some ask ∷ [] ≡ Some one ∷ Some other ∷ map Some asks = e in absurd (cc)

-- what was asked, where two things were taken
pub two-asks : (ask other : Ask) (asks : List Ask) → Some ask ∷ Some other ∷ [] ≡ map Some asks → asks ≡ ask ∷ other ∷ []
two-asks ask other [] e = let both : Some ask ∷ Some other ∷ [] ≡ [] = e in absurd (cc)
two-asks ask other (one ∷ asks) e =
    let both : Some ask ∷ Some other ∷ [] ≡ Some one ∷ map Some asks = e in
    let same : ask ≡ one = cc in
    let rest : Some other ∷ [] ≡ map Some asks = cc in
    ap (λ (a : Ask). a ∷ asks) (sym same) ∙ ap (λ (l : List Ask). ask ∷ l) (one-ask other asks rest)

-- nothing, where nothing was taken
pub no-ask : (asks : List Ask) (others : List (Option Ask)) → [] ≡ map Some asks ++ others → asks ≡ []
no-ask [] others e = refl
no-ask (one ∷ asks) others e = let both : [] ≡ Some one ∷ (map Some asks ++ others) = e in absurd (cc)

-- an end is told
behind : (xs ys : List (Option ℕ)) → xs ++ ys ≡ [] → ys ≡ []
behind [] ys e = e
behind (x ∷ xs) ys e = let both : x ∷ (xs ++ ys) ≡ [] = e in absurd (cc)

ends-some : (xs ys : List (Option ℕ)) → (xs ++ None ∷ []) ++ ys ≡ [] → ⊥
ends-some [] ys e = let both : None ∷ ys ≡ [] = e in let no : ⊥ = cc in no
ends-some (x ∷ xs) ys e = let both : x ∷ ((xs ++ None ∷ []) ++ ys) ≡ [] = e in let no : ⊥ = cc in no

-- of the end of a client something is said
pub end-said : (seat : ℕ) (t : Telling) (turns : List Turn) (n : ℕ) (parting : Parting) → asks_of turns ≡ End n parting ∷ [] → signs_said seat t turns ≡ [] → ⊥
end-said seat t [] n parting e told = let both : [] ≡ End n parting ∷ [] = e in let no : ⊥ = cc in no
end-said seat t (Answers query more ∷ turns) n parting e told = let both : Query query ∷ asks_of turns ≡ End n parting ∷ [] = e in let no : ⊥ = cc in no
end-said seat t (Hears reads ∷ turns) n parting e told =
    end-said seat (telling_after t (Hears reads)) turns n parting e (behind (signs_in seat t (Hears reads)) (signs_said seat (telling_after t (Hears reads)) turns) told)
end-said seat t (Leaves one line rolled unlistened ∷ turns) n parting e told = ends-some _ (signs_said seat (telling_after t (Leaves one line rolled unlistened)) turns) told
end-said seat t (Settles settled ∷ turns) n parting e told = let both : Settle settled ∷ asks_of turns ≡ End n parting ∷ [] = e in let no : ⊥ = cc in no
end-said seat t (Discards line refused unlistened ∷ turns) n parting e told = let both : Discard line ∷ asks_of turns ≡ End n parting ∷ [] = e in let no : ⊥ = cc in no

-- so is what is settled
some-first : {A : Type 0} (x : A) (xs : List A) → x ∷ xs ≡ [] → ⊥
some-first x xs e = let both : x ∷ xs ≡ [] = e in let no : ⊥ = cc in no

settled-some : (seat : ℕ) (kept : Kept) (state : BlockState) (behind : List (Option ℕ)) → (map Some (settled_answer seat One kept state) ++ []) ++ behind ≡ [] → ⊥
settled-some seat kept Idle behind e = some-first (Some 84) _ e
settled-some seat kept InBlock behind e = some-first (Some 84) _ e
settled-some seat kept Failed behind e = some-first (Some 69) _ e

-- and of what is settled
pub settled-said : (seat : ℕ) (t : Telling) (turns : List Turn) → asks_of turns ≡ Settle One ∷ [] → signs_said seat t turns ≡ [] → ⊥
settled-said seat t [] e told = let both : [] ≡ Settle One ∷ [] = e in let no : ⊥ = cc in no
settled-said seat t (Answers query more ∷ turns) e told = let both : Query query ∷ asks_of turns ≡ Settle One ∷ [] = e in let no : ⊥ = cc in no
settled-said seat t (Hears reads ∷ turns) e told =
    settled-said seat (telling_after t (Hears reads)) turns e (behind (signs_in seat t (Hears reads)) (signs_said seat (telling_after t (Hears reads)) turns) told)
settled-said seat t (Leaves one line rolled unlistened ∷ turns) e told = let both : End line one ∷ asks_of turns ≡ Settle One ∷ [] = e in let no : ⊥ = cc in no
settled-said seat t (Settles settled ∷ turns) e told =
    let both : Settle settled ∷ asks_of turns ≡ Settle One ∷ [] = e in
    let same : settled ≡ One = cc in
    settled-some seat t.kept t.walk.block (signs_said seat (telling_after t (Settles One)) turns) (subst (λ (s : Settled). signs_in seat t (Settles s) ++ signs_said seat (telling_after t (Settles s)) turns ≡ []) same told)
settled-said seat t (Discards line refused unlistened ∷ turns) e told = let both : Discard line ∷ asks_of turns ≡ Settle One ∷ [] = e in let no : ⊥ = cc in no

-- bytes are no end
pub no-end : (xs : List ℕ) → None ∷ [] ≡ map Some xs → ⊥
no-end [] e = let both : None ∷ [] ≡ [] = e in let no : ⊥ = cc in no
no-end (x ∷ xs) e = let both : None ∷ [] ≡ Some x ∷ map Some xs = e in let no : ⊥ = cc in no

-- the settings where nothing was asked
pub unset : (t : Telling) (turns : List Turn) → asks_of turns ≡ [] → (fold telling_after t turns).kept ≡ t.kept
unset t [] e = refl
unset t (Answers query more ∷ turns) e = let both : Query query ∷ asks_of turns ≡ [] = e in absurd (cc)
unset t (Hears reads ∷ turns) e = unset (telling_after t (Hears reads)) turns e
unset t (Leaves parting line rolled unlistened ∷ turns) e = let both : End line parting ∷ asks_of turns ≡ [] = e in absurd (cc)
unset t (Settles settled ∷ turns) e = let both : Settle settled ∷ asks_of turns ≡ [] = e in absurd (cc)
unset t (Discards line refused unlistened ∷ turns) e = let both : Discard line ∷ asks_of turns ≡ [] = e in absurd (cc)

-- behind an end
ended : (t : Telling) (turns : List Turn) (n : ℕ) (parting : Parting) → asks_of turns ≡ End n parting ∷ [] → (fold telling_after t turns).kept ≡ fresh
ended t [] n parting e = let both : [] ≡ End n parting ∷ [] = e in absurd (cc)
ended t (Answers query more ∷ turns) n parting e = let both : Query query ∷ asks_of turns ≡ End n parting ∷ [] = e in absurd (cc)
ended t (Hears reads ∷ turns) n parting e = ended (telling_after t (Hears reads)) turns n parting e
ended t (Leaves one line rolled unlistened ∷ turns) n parting e =
    let both : End line one ∷ asks_of turns ≡ End n parting ∷ [] = e in
    let rest : asks_of turns ≡ [] = cc in
    unset (telling_after t (Leaves one line rolled unlistened)) turns rest
ended t (Settles settled ∷ turns) n parting e = let both : Settle settled ∷ asks_of turns ≡ End n parting ∷ [] = e in absurd (cc)
ended t (Discards line refused unlistened ∷ turns) n parting e = let both : Discard line ∷ asks_of turns ≡ End n parting ∷ [] = e in absurd (cc)

-- also of one that has set something
pub left-fresh : (t : Telling) (turns : List Turn) (settled : Settled) (n : ℕ) (parting : Parting) → asks_of turns ≡ Settle settled ∷ End n parting ∷ [] → (fold telling_after t turns).kept ≡ fresh
left-fresh t [] settled n parting e = let both : [] ≡ Settle settled ∷ End n parting ∷ [] = e in absurd (cc)
left-fresh t (Answers query more ∷ turns) settled n parting e = let both : Query query ∷ asks_of turns ≡ Settle settled ∷ End n parting ∷ [] = e in absurd (cc)
left-fresh t (Hears reads ∷ turns) settled n parting e = left-fresh (telling_after t (Hears reads)) turns settled n parting e
left-fresh t (Leaves one line rolled unlistened ∷ turns) settled n parting e = let both : End line one ∷ asks_of turns ≡ Settle settled ∷ End n parting ∷ [] = e in absurd (cc)
left-fresh t (Settles one ∷ turns) settled n parting e =
    let both : Settle one ∷ asks_of turns ≡ Settle settled ∷ End n parting ∷ [] = e in
    let rest : asks_of turns ≡ End n parting ∷ [] = cc in
    ended (telling_after t (Settles one)) turns n parting rest
left-fresh t (Discards line refused unlistened ∷ turns) settled n parting e = let both : Discard line ∷ asks_of turns ≡ Settle settled ∷ End n parting ∷ [] = e in absurd (cc)

-- what was set outside of a block stands in the settings
with-some : (entries : List Entry) (setting : Setting) (value : List ℕ) → with_value entries setting value ≡ [] → ⊥
with-some [] setting value e = some-first _ [] e
with-some (entry ∷ entries) setting value e = either (number_of entry.setting == number_of setting) e
  where
    either : (b : Bool) → cond b (record { setting = entry.setting; value = value } ∷ entries) (entry ∷ with_value entries setting value) ≡ [] → ⊥
    either true f = some-first _ entries f
    either false f = some-first entry (with_value entries setting value) f

reads-block : (s : State) (reads : List Item) → All IsRead reads → (fold after_item s reads).block ≡ s.block
reads-block s [] h = refl
reads-block s (item ∷ reads) h = reads-block (after_item s item) reads (All-tail IsRead item reads h) ∙ one s item (All-head IsRead item reads h)
  where
    one : (s : State) (item : Item) → IsRead item → (after_item s item).block ≡ s.block
    one s (Read from to got) h = refl
    one s item h = absurd h

-- a client that gives itself a name has other settings than fresh ones
pub named-some : (t : Telling) (turns : List Turn) → t.walk.block ≡ Idle → All IsPlain turns → asks_of turns ≡ Settle names ∷ [] → (fold telling_after t turns).kept ≡ fresh → ⊥
named-some t [] idle plain e none = let both : [] ≡ Settle names ∷ [] = e in let no : ⊥ = cc in no
named-some t (Answers query more ∷ turns) idle plain e none = let both : Query query ∷ asks_of turns ≡ Settle names ∷ [] = e in let no : ⊥ = cc in no
named-some t (Hears reads ∷ turns) idle plain e none =
    named-some (telling_after t (Hears reads)) turns (reads-block t.walk reads (All-head IsPlain (Hears reads) turns plain) ∙ idle) (All-tail IsPlain (Hears reads) turns plain) e none
named-some t (Leaves parting line rolled unlistened ∷ turns) idle plain e none = let both : End line parting ∷ asks_of turns ≡ Settle names ∷ [] = e in let no : ⊥ = cc in no
named-some t (Settles settled ∷ turns) idle plain e none =
    let both : Settle settled ∷ asks_of turns ≡ Settle names ∷ [] = e in
    let same : settled ≡ names = cc in
    let rest : asks_of turns ≡ [] = cc in
    let kept : kept_after Idle names t.kept ≡ fresh =
    ap (λ (s : Settled). kept_after Idle s t.kept) (sym same) ∙ ap (λ (b : BlockState). kept_after b settled t.kept) (sym idle) ∙ sym (unset (telling_after t (Settles settled)) turns rest) ∙ none in
    with-some t.kept.now _ _ (ap (λ (k : Kept). k.now) kept)
named-some t (Discards line refused unlistened ∷ turns) idle plain e none = let both : Discard line ∷ asks_of turns ≡ Settle names ∷ [] = e in let no : ⊥ = cc in no
