-- Answers, and the last line of a section.
use Rattle.std.proofs.Common.{◌≡◌, ℕ, List, ◌++◌, Option, None, Some, codes, sym}
use Rattle.pgn_base.specs.declared.answers.Refusal.{Refusal}
use Rattle.pgn_base.specs.declared.answers.Refusal.TheVariants as refused
use Rattle.pgn_base.specs.declared.answers.Which.{Which}
use Rattle.pgn_base.specs.declared.answers.Needs.{Needs}
use Rattle.pgn_base.specs.declared.answers.Warning.{Warning}
use Rattle.pgn_base.specs.declared.answers.Warning.TheVariants.{AlreadyInBlock, NotInBlock}
use Rattle.pgn_answers.specs.Refusals.{bounds_message, needs_text}
use Rattle.pgn_lines.specs.Fields.{NotNumbered}
use Rattle.pgn_lines.specs.Shown.{IsShort, IsXid, NamesNoSavepoint, Unshown}
use Rattle.pgn_lines.specs.declared.shown.Shown.TheVariants.{Warn, Refuse, End}

-- a line is no warning
pub no_warning : (line : List ℕ) → (line ≡ codes "WARNING: 25001: there is already a transaction in progress" → ⊥) → (line ≡ codes "WARNING: 25P01: there is no transaction in progress" → ⊥)
    → (warning : Warning) → Unshown line (Warn warning)
no_warning line a b AlreadyInBlock held e = a (sym e)
no_warning line a b NotInBlock held e = b (sym e)

-- nor the last line of a section
pub no_end : (line : List ℕ) → (line ≡ codes "end" → ⊥) → NotNumbered IsXid (codes "end mark ") line → (mark : Option ℕ) → Unshown line (End mark)
no_end line a b None held e = a (sym e)
no_end line a b (Some mark) held e = b mark held e

-- a line is no refusal
pub no_refusal : (line : List ℕ) → ((which : Which) → codes "ERROR: 22023: " ++ bounds_message which ≡ line → ⊥)
    → ((what : Needs) → codes "ERROR: 25P01: " ++ needs_text what ++ codes " can only be used in transaction blocks" ≡ line → ⊥)
    → (line ≡ codes "ERROR: 25P02: current transaction is aborted, commands ignored until end of transaction block" → ⊥) → (line ≡ codes "ERROR: 54000: too many notifications in the NOTIFY queue" → ⊥)
    → NotNumbered IsShort (codes "ERROR: 42601: syntax error at byte ") line → (refusal : Refusal) → NamesNoSavepoint refusal → Unshown line (Refuse refusal)
no_refusal line a b c d f (refused.Syntax at) n held e = f at held e
no_refusal line a b c d f (refused.Bounds which) n held e = a which e
no_refusal line a b c d f (refused.NeedsBlock what) n held e = b what e
no_refusal line a b c d f (refused.NoSavepoint name) n held e = absurd n
no_refusal line a b c d f refused.Aborted n held e = c (sym e)
no_refusal line a b c d f refused.QueueFull n held e = d (sym e)
