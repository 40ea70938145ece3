-- A line that shows nothing of each kind shows nothing of their family, and one that shows nothing of each family shows nothing.
use Rattle.std.proofs.Common.{◌≡◌, ℕ, List, Option, codes, sym, ◌∙◌, refl}
use Rattle.pgn_base.specs.declared.answers.Tag.{Tag}
use Rattle.pgn_base.specs.declared.answers.Warning.{Warning}
use Rattle.pgn_base.specs.declared.answers.Refusal.{Refusal}
use Rattle.pgn_base.specs.declared.answers.Refusal.TheVariants as refused
use Rattle.pgn_base.specs.declared.note.Note.{Note}
use Rattle.pgn_base.specs.declared.note.Delivery.{Delivery}
use Rattle.pgn_lines.specs.Fields.{NotFull, NotNumbered, NotTwo}
use Rattle.pgn_lines.specs.Shown.{Family, Entries, Events, Answers, Rows, family_of, IsLong, IsXid, ShowsNo, Unshown, NamesNoSavepoint}
use Rattle.pgn_lines.specs.declared.shown.Shown.{Shown}
use Rattle.pgn_lines.specs.declared.shown.Shown.TheVariants.{Journal, Committed, Aborted, Sent, Enlist, Publish, QueueFull, Leave, Warn, Tagged, Refuse, Channel, Measured, Pages, Raise, Found, TimedOut, Read, Received, End}
use Rattle.pgn_lines.proofs.LineLaws.{full_spelled}

by_family : (line : List ℕ) → ShowsNo Rows line → ShowsNo Events line → ShowsNo Entries line → ShowsNo Answers line → (shown : Shown) (family : Family) → family_of shown ≡ family → Unshown line shown
by_family line a b c d shown Rows is = a shown is
by_family line a b c d shown Events is = b shown is
by_family line a b c d shown Entries is = c shown is
by_family line a b c d shown Answers is = d shown is

-- of no family, so of none at all
pub no_family : (line : List ℕ) → ShowsNo Rows line → ShowsNo Events line → ShowsNo Entries line → ShowsNo Answers line → (shown : Shown) → Unshown line shown
no_family line a b c d shown = by_family line a b c d shown (family_of shown) refl

-- no line of the journal
pub no_entry : (line : List ℕ) → ((xid session notes : ℕ) → Unshown line (Committed xid session notes)) → ((xid session queued notes : ℕ) → Unshown line (Aborted xid session queued notes))
    → ((entries : ℕ) → Unshown line (Journal entries)) → ShowsNo Entries line
no_entry line a b c (Committed xid session notes) is = a xid session notes
no_entry line a b c (Aborted xid session queued notes) is = b xid session queued notes
no_entry line a b c (Journal entries) is = c entries
no_entry line a b c shown is = absurd (let no : ⊥ = cc in no)

-- nothing that a session did
pub no_event : (line : List ℕ) → NotNumbered IsXid (codes "+publish ") line → NotTwo (codes "+read ") line → NotTwo (codes "+enlist ") line → NotFull line → (line ≡ codes "+leave" → ⊥)
    → ((at floor : ℕ) (holder : Option ℕ) → Unshown line (Measured at floor holder)) → NotNumbered IsXid (codes "+signal ") line → NotNumbered IsXid (codes "+await ") line → NotNumbered IsLong (codes "+timeout ") line → ShowsNo Events line
no_event line a b c d e f g h i (Publish xid) is = a xid
no_event line a b c d e f g h i (Read from to) is = λ held t. b from to held.0 held.1 t
no_event line a b c d e f g h i (Enlist base point) is = λ held t. c base point held.0 held.1 t
no_event line a b c d e f g h i (QueueFull full) is = λ held t. d full.xid full.queued full.head_page full.floor_mark full.floor_page full.holder held.0 held.1 held.2 held.3 held.4 held.5 (sym (full_spelled full) ∙ t)
no_event line a b c d e f g h i Leave is = λ held t. e (sym t)
no_event line a b c d e f g h i (Measured at floor holder) is = f at floor holder
no_event line a b c d e f g h i (Raise value) is = g value
no_event line a b c d e f g h i (Found value) is = h value
no_event line a b c d e f g h i (TimedOut looks) is = i looks
no_event line a b c d e f g h i shown is = absurd (let no : ⊥ = cc in no)

-- nothing that it was answered
pub no_answer : (line : List ℕ) → ((done : Tag) → Unshown line (Tagged done)) → ((warning : Warning) → Unshown line (Warn warning))
    → ((refusal : Refusal) → NamesNoSavepoint refusal → Unshown line (Refuse refusal)) → ((mark : Option ℕ) → Unshown line (End mark))
    → ((name : List ℕ) → Unshown line (Refuse (refused.NoSavepoint name))) → ShowsNo Answers line
no_answer line a b c d e (Tagged done) is = a done
no_answer line a b c d e (Warn warning) is = b warning
no_answer line a b c d e (Refuse (refused.NoSavepoint name)) is = e name
no_answer line a b c d e (Refuse refused.Aborted) is = c refused.Aborted tt
no_answer line a b c d e (Refuse refused.QueueFull) is = c refused.QueueFull tt
no_answer line a b c d e (Refuse (refused.Syntax at)) is = c (refused.Syntax at) tt
no_answer line a b c d e (Refuse (refused.Bounds which)) is = c (refused.Bounds which) tt
no_answer line a b c d e (Refuse (refused.NeedsBlock what)) is = c (refused.NeedsBlock what) tt
no_answer line a b c d e (End mark) is = d mark
no_answer line a b c d e shown is = absurd (let no : ⊥ = cc in no)

-- no row
pub no_row : (line : List ℕ) → ((note : Note) → Unshown line (Sent note)) → ((delivery : Delivery) → Unshown line (Received delivery)) → ((name : List ℕ) → Unshown line (Channel name))
    → ((occupied limit : ℕ) → Unshown line (Pages occupied limit)) → ShowsNo Rows line
no_row line a b c d (Sent note) is = a note
no_row line a b c d (Received delivery) is = b delivery
no_row line a b c d (Channel name) is = c name
no_row line a b c d (Pages occupied limit) is = d occupied limit
no_row line a b c d shown is = absurd (let no : ⊥ = cc in no)
