-- How many notifications a transaction's list has, and how many of them are left to send.
use Rattle.std.proofs.Common.{◌≡◌, ℕ, ◌+◌, ◌≤◌, Bool, true, false, not, cond, List, [], ◌∷◌, ◌++◌, length, filter, ap, ◌∙◌, arith, length-append}
use Rattle.std.specs.List.{list_any}
use Rattle.std.proofs.lemmas.List.Elements.{filter_map-append}
use Rattle.pgn_base.specs.declared.note.Note.{Note}
use Rattle.pgn_base.specs.declared.command.Command.{Command}
use Rattle.pgn_answers.specs.declared.block_state.BlockState.TheVariants.{Idle, InBlock, Failed}
use Rattle.pgn_answers.specs.Savepoints.{Change, Saved, Acted, Noted, RolledBack, Released, changes_of, noted_note, count_noted, survivors_from, rolled_back, released, has_savepoint, is_savepoint, is_savepoint_of, surviving_notes, firsts, firsts_after, same_note}
use Rattle.pgn_answers.specs.Answers.{Outcome, Commits, Replies, Refuses, Silent, GivesChannels, GivesUsage, list_after}

-- one list after another
pub noted-append : (xs ys : List Change) → count_noted (xs ++ ys) ≡ count_noted xs + count_noted ys
noted-append xs ys = ap (λ notes. length notes) (filter_map-append noted_note xs ys) ∙ length-append _ _

-- one more in front
noted-cons : (x : Change) (xs : List Change) → count_noted (x ∷ xs) ≡ count_noted (x ∷ []) + count_noted xs
noted-cons x xs = noted-append (x ∷ []) xs

-- fewer of the rest
noted-less : (x : Change) (xs ys : List Change) → count_noted xs ≤ count_noted ys → count_noted (x ∷ xs) ≤ count_noted (x ∷ ys)
noted-less x xs ys h = omega (arith, h, noted-cons x xs, noted-cons x ys)

-- a filter keeps no more
noted-filter : (p : Change → Bool) (xs : List Change) → count_noted (filter p xs) ≤ count_noted xs
noted-filter p [] = omega arith
noted-filter p (x ∷ xs) = either (p x) (noted-filter p xs)
  where
    either : (b : Bool) → count_noted (filter p xs) ≤ count_noted xs → count_noted (cond b (x ∷ filter p xs) (filter p xs)) ≤ count_noted (x ∷ xs)
    either true h = noted-less x (filter p xs) xs h
    either false h = omega (arith, h, noted-cons x xs)

noted-rolled : (name : List ℕ) (xs : List Change) → count_noted (rolled_back name xs) ≤ count_noted xs
noted-rolled name [] = omega arith
noted-rolled name (x ∷ xs) = either (has_savepoint name xs) (is_savepoint_of name x) (noted-rolled name xs)
  where
    either : (b c : Bool) → count_noted (rolled_back name xs) ≤ count_noted xs → count_noted (cond b (x ∷ rolled_back name xs) (cond c (x ∷ []) (x ∷ xs))) ≤ count_noted (x ∷ xs)
    either true c h = noted-less x (rolled_back name xs) xs h
    either false true h = omega (arith, noted-cons x xs)
    either false false h = omega arith

noted-released : (name : List ℕ) (xs : List Change) → count_noted (released name xs) ≤ count_noted xs
noted-released name [] = omega arith
noted-released name (x ∷ xs) = either (has_savepoint name xs) (is_savepoint_of name x) (noted-released name xs) (noted-filter (λ later. not (is_savepoint later)) xs)
  where
    either : (b c : Bool) → count_noted (released name xs) ≤ count_noted xs → count_noted (filter (λ later. not (is_savepoint later)) xs) ≤ count_noted xs
        → count_noted (cond b (x ∷ released name xs) (cond c (filter (λ later. not (is_savepoint later)) xs) (x ∷ xs))) ≤ count_noted (x ∷ xs)
    either true c h k = noted-less x (released name xs) xs h
    either false true h k = omega (arith, k, noted-cons x xs)
    either false false h k = omega arith

-- what is left of a list has no more notifications than the list
noted-survive : (kept xs : List Change) → count_noted (survivors_from kept xs) ≤ count_noted kept + count_noted xs
noted-survive kept [] = omega arith
noted-survive kept (RolledBack name ∷ xs) = omega (arith, noted-survive (rolled_back name kept) xs, noted-rolled name kept)
noted-survive kept (Released name ∷ xs) = omega (arith, noted-survive (released name kept) xs, noted-released name kept)
noted-survive kept (Saved name ∷ xs) = omega (arith, noted-survive (kept ++ Saved name ∷ []) xs, noted-append kept (Saved name ∷ []))
noted-survive kept (Acted action ∷ xs) = omega (arith, noted-survive (kept ++ Acted action ∷ []) xs, noted-append kept (Acted action ∷ []))
noted-survive kept (Noted note ∷ xs) = omega (arith, noted-survive (kept ++ Noted note ∷ []) xs, noted-append kept (Noted note ∷ []), noted-cons (Noted note) xs)

-- nor have first occurrences
firsts-fewer : (seen notes : List Note) → length (firsts_after seen notes) ≤ length notes
firsts-fewer seen [] = omega arith
firsts-fewer seen (note ∷ notes) = either (list_any (same_note note) seen) (firsts-fewer seen notes) (firsts-fewer (seen ++ note ∷ []) notes)
  where
    either : (b : Bool) → length (firsts_after seen notes) ≤ length notes → length (firsts_after (seen ++ note ∷ []) notes) ≤ length notes
        → length (cond b (firsts_after seen notes) (note ∷ firsts_after (seen ++ note ∷ []) notes)) ≤ length (note ∷ notes)
    either true h k = omega (arith, h)
    either false h k = omega (arith, k)

-- no more notifications are sent than were noted
pub sent-fewer : (changes : List Change) → length (firsts (surviving_notes changes)) ≤ count_noted changes
sent-fewer changes = omega (arith, firsts-fewer [] (surviving_notes changes), noted-survive [] changes)

-- no outcome puts more into the list
pub noted-after : (changes : List Change) (c : Command) (outcome : Outcome) → count_noted (list_after changes c outcome) ≤ count_noted changes + count_noted (changes_of c)
noted-after changes c (Commits done) = omega arith
noted-after changes c (Replies done warning Idle) = omega arith
noted-after changes c (Replies done warning InBlock) = omega (arith, noted-append changes (changes_of c))
noted-after changes c (Replies done warning Failed) = omega arith
noted-after changes c (Refuses refusal next) = omega arith
noted-after changes c Silent = omega arith
noted-after changes c (GivesChannels names) = omega arith
noted-after changes c GivesUsage = omega arith
