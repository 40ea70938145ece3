-- A run given back from what is seen of it, and two outputs with a line to blame.
use Rattle.std.proofs.Common.{◌≡◌, false, inl, List, [], ◌∷◌, ◌++◌, get_or, None, codes, refl, ap, arith, rules}
use Rattle.std.specs.Fmt.{digits}
use Rattle.std.specs.List.{list_any}
use Rattle.pgn_base.specs.declared.note.Note.{Note}
use Rattle.pgn_base.specs.declared.answers.Tag.TheVariants as tag
use Rattle.pgn_journal.specs.Journal.{entries_between}
use Rattle.pgn_journal.specs.Due.{is_due_to}
use Rattle.pgn_model.specs.declared.item.Item.TheVariants.{Line, Publish, Reply}
use Rattle.pgn_model.specs.Walk.{start, Allowed}
use Rattle.pgn_model.specs.Trace.{IsLawful, IsUpToDate}
use Rattle.pgn_model.specs.Text.{text}
use Rattle.pgn_reading.specs.Completed.{ready, whole, walked, completed}
use Rattle.pgn_reading.specs.Blame.{Comes, Refused, LeftOut, LeftOutLast}
use Rattle.pgn_examples.specs.Reading.{self, self_notify, sent, note, receives, run_seen, run_unread, run_text, changed_text, unread_text, codes_x, codes_y, terms, before_commit, notifies, self_on, terms_on, ItsCommitIsRefused, ItsReadIsLeftOut, ItsReadIsMissing, MayBegin}

-- the text of the example's run
pub run-shown : text self_notify (sent codes_x) (run_seen ∷ []) ≡ run_text
unfolding digits
run-shown = refl

-- the text with another payload in the journal
pub changed-shown : text self_notify (sent codes_y) (run_seen ∷ []) ≡ changed_text
unfolding digits
changed-shown = refl

-- the text without the read
pub unread-shown : text self_notify (sent codes_x) (run_unread ∷ []) ≡ unread_text
unfolding digits
unread-shown = refl

-- the walk comes past the items before the commit, whatever the journal's one payload
before-lawful : IsLawful terms (sent codes_y) (completed (start self) before_commit)
before-lawful = search rules

comes-to_commit : Comes terms (sent codes_y) before_commit (walked (start self) before_commit)
comes-to_commit = record { lawful = before-lawful; state = refl }

-- the commit is not allowed where the journal has another payload
pub commit-is_refused : ItsCommitIsRefused
unfolding digits
commit-is_refused =
    let wrong : Allowed terms (sent codes_y) (ready (walked (start self) before_commit)) (whole (walked (start self) before_commit) (Publish 3 [])) → ⊥ =
    λ h. let payload : 121 ≡ 120 = ap (λ (notes : List Note). get_or (get_or notes 0 (note [])).payload 0 0) h.in_journal.with_notes in omega (arith, payload) in
    Refused before_commit (Reply tag.Notify None ∷ receives) (Publish 3 []) (walked (start self) before_commit) refl comes-to_commit wrong

unread-lawful : IsLawful terms (sent codes_x) (completed (start self) run_unread.items)
unread-lawful = search rules

comes-to_unread_end : Comes terms (sent codes_x) run_unread.items (walked (start self) run_unread.items)
comes-to_unread_end = record { lawful = unread-lawful; state = refl }

-- a read is missing at the end of the text without it
pub read-is_missing : ItsReadIsMissing
unfolding digits
read-is_missing =
    let late : IsUpToDate terms (sent codes_x) (walked (start self) run_unread.items) → ⊥ =
    λ h. let due : list_any (is_due_to 1 (codes "c" ∷ [])) (entries_between (sent codes_x) 3 4) ≡ false = h.nothing_due in let none : ⊥ = cc in none in
    LeftOutLast (walked (start self) run_unread.items) comes-to_unread_end (inl refl) late

-- the same before a third line
pub third-is_late : MayBegin (notifies []) → ⊥
third-is_late h = let due : list_any (is_due_to 1 (codes "c" ∷ [])) (entries_between (sent codes_x) 3 4) ≡ false = (h refl).up_to_date.nothing_due in let none : ⊥ = cc in none

late-lawful : IsLawful terms_on (sent codes_x) (completed (start self_on) (notifies []))
late-lawful = search rules

-- a read is left out before the third line, where that begins without it
pub read-is_left_out : ItsReadIsLeftOut
unfolding digits
read-is_left_out =
    LeftOut (notifies []) (Reply tag.Begin None ∷ []) (Line 4) (walked (start self_on) (notifies [])) refl (record { lawful = late-lawful; state = refl }) third-is_late

-- behind the read the third line may begin
pub third-may_begin : MayBegin (notifies [] ++ receives)
third-may_begin = search rules
