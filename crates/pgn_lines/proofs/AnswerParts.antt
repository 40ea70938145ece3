-- Answers are told by their lines.
use Rattle.std.proofs.Common.{◌≡◌, ℕ, ◌+◌, List, ◌++◌, codes, length, get_or, ap, sym, ◌∙◌, refl, arith}
use Rattle.std.proofs.lemmas.List.{append_cancel_left, append_cancel_right}
use Rattle.pgn_base.specs.declared.answers.Tag.{Tag}
use Rattle.pgn_base.specs.declared.answers.Tag.TheVariants as tag
use Rattle.pgn_base.specs.declared.answers.Warning.{Warning}
use Rattle.pgn_base.specs.declared.answers.Warning.TheVariants.{AlreadyInBlock, NotInBlock}
use Rattle.pgn_base.specs.declared.answers.Which.{Which}
use Rattle.pgn_base.specs.declared.answers.Which.TheVariants.{ChannelEmpty, ChannelTooLong, PayloadTooLong}
use Rattle.pgn_base.specs.declared.answers.Needs.{Needs}
use Rattle.pgn_base.specs.declared.answers.Needs.TheVariants as needs
use Rattle.pgn_base.specs.declared.answers.Refusal.{Refusal}
use Rattle.pgn_base.specs.declared.answers.Refusal.TheVariants as refused
use Rattle.pgn_answers.specs.Refusals.{bounds_message, needs_text, refusal_text, tag_text, warning_text}
use Rattle.pgn_lines.specs.Shown.{IsRefusal, IsTag}
use Rattle.pgn_lines.proofs.FieldLaws.{differ}
use Rattle.pgn_lines.proofs.PartLaws.{last_part}

-- what the first two bytes of a tag come to
abbrev tag_sign : List ℕ → ℕ
tag_sign bytes = get_or bytes 0 0 + get_or bytes 1 0

abbrev tag_number : Tag → ℕ
tag_number tag.Begin = 135
tag_number tag.Start = 167
tag_number tag.Commit = 146
tag_number tag.Rollback = 161
tag_number tag.Savepoint = 148
tag_number tag.Release = 151
tag_number tag.Listen = 149
tag_number tag.Unlisten = 163
tag_number tag.Notify = 157
tag_number (tag.Select rows) = 152

tag_told : (done : Tag) → tag_sign (tag_text done) ≡ tag_number done
tag_told tag.Begin = refl
tag_told tag.Start = refl
tag_told tag.Commit = refl
tag_told tag.Rollback = refl
tag_told tag.Savepoint = refl
tag_told tag.Release = refl
tag_told tag.Listen = refl
tag_told tag.Unlisten = refl
tag_told tag.Notify = refl
tag_told (tag.Select rows) = refl

same_tag : (a b : Tag) → IsTag a → IsTag b → tag_number a ≡ tag_number b → tag_text a ≡ tag_text b → a ≡ b
same_tag tag.Begin tag.Begin h k t e = refl
same_tag tag.Begin b h k t e = absurd (differ 135 _ t refl)
same_tag tag.Start tag.Start h k t e = refl
same_tag tag.Start b h k t e = absurd (differ 167 _ t refl)
same_tag tag.Commit tag.Commit h k t e = refl
same_tag tag.Commit b h k t e = absurd (differ 146 _ t refl)
same_tag tag.Rollback tag.Rollback h k t e = refl
same_tag tag.Rollback b h k t e = absurd (differ 161 _ t refl)
same_tag tag.Savepoint tag.Savepoint h k t e = refl
same_tag tag.Savepoint b h k t e = absurd (differ 148 _ t refl)
same_tag tag.Release tag.Release h k t e = refl
same_tag tag.Release b h k t e = absurd (differ 151 _ t refl)
same_tag tag.Listen tag.Listen h k t e = refl
same_tag tag.Listen b h k t e = absurd (differ 149 _ t refl)
same_tag tag.Unlisten tag.Unlisten h k t e = refl
same_tag tag.Unlisten b h k t e = absurd (differ 163 _ t refl)
same_tag tag.Notify tag.Notify h k t e = refl
same_tag tag.Notify b h k t e = absurd (differ 157 _ t refl)
same_tag (tag.Select m) (tag.Select n) h k t e = ap (λ (rows : ℕ). let done : Tag = tag.Select rows in done) (last_part (codes "SELECT ") m n (omega (arith, h)) (omega (arith, k)) e)
same_tag (tag.Select m) b h k t e = absurd (differ 152 _ t refl)

-- a tag
pub tag_part : (a b : Tag) → IsTag a → IsTag b → tag_text a ≡ tag_text b → a ≡ b
tag_part a b h k e = same_tag a b h k (sym (tag_told a) ∙ ap tag_sign e ∙ tag_told b) e

-- a warning
pub warning_part : (a b : Warning) → codes "WARNING: " ++ warning_text a ≡ codes "WARNING: " ++ warning_text b → a ≡ b
warning_part AlreadyInBlock AlreadyInBlock e = refl
warning_part AlreadyInBlock NotInBlock e = absurd (let t : 48 ≡ 80 = ap (λ (bytes : List ℕ). get_or bytes 11 0) e in omega (arith, t))
warning_part NotInBlock AlreadyInBlock e = absurd (let t : 80 ≡ 48 = ap (λ (bytes : List ℕ). get_or bytes 11 0) e in omega (arith, t))
warning_part NotInBlock NotInBlock e = refl

abbrev bounds_size : Which → ℕ
bounds_size ChannelEmpty = 28
bounds_size ChannelTooLong = 21
bounds_size PayloadTooLong = 23

bounds_told : (which : Which) → length (bounds_message which) ≡ bounds_size which
bounds_told ChannelEmpty = refl
bounds_told ChannelTooLong = refl
bounds_told PayloadTooLong = refl

same_bounds : (a b : Which) → bounds_size a ≡ bounds_size b → a ≡ b
same_bounds ChannelEmpty ChannelEmpty t = refl
same_bounds ChannelEmpty b t = absurd (differ 28 _ t refl)
same_bounds ChannelTooLong ChannelTooLong t = refl
same_bounds ChannelTooLong b t = absurd (differ 21 _ t refl)
same_bounds PayloadTooLong PayloadTooLong t = refl
same_bounds PayloadTooLong b t = absurd (differ 23 _ t refl)

abbrev needs_size : Needs → ℕ
needs_size needs.Savepoint = 9
needs_size needs.RollbackTo = 21
needs_size needs.Release = 17

needs_told : (what : Needs) → length (needs_text what) ≡ needs_size what
needs_told needs.Savepoint = refl
needs_told needs.RollbackTo = refl
needs_told needs.Release = refl

same_needs : (a b : Needs) → needs_size a ≡ needs_size b → a ≡ b
same_needs needs.Savepoint needs.Savepoint t = refl
same_needs needs.Savepoint b t = absurd (differ 9 _ t refl)
same_needs needs.RollbackTo needs.RollbackTo t = refl
same_needs needs.RollbackTo b t = absurd (differ 21 _ t refl)
same_needs needs.Release needs.Release t = refl
same_needs needs.Release b t = absurd (differ 17 _ t refl)

-- what the second and the last byte of a refusal's code come to
abbrev refusal_sign : List ℕ → ℕ
refusal_sign bytes = get_or bytes 1 0 + get_or bytes 4 0

abbrev refusal_number : Refusal → ℕ
refusal_number (refused.Syntax at) = 99
refusal_number (refused.Bounds which) = 101
refusal_number (refused.NeedsBlock what) = 102
refusal_number (refused.NoSavepoint name) = 115
refusal_number refused.Aborted = 103
refusal_number refused.QueueFull = 100

refusal_told : (refusal : Refusal) → refusal_sign (refusal_text refusal) ≡ refusal_number refusal
refusal_told (refused.Syntax at) = refl
refusal_told (refused.Bounds which) = refl
refusal_told (refused.NeedsBlock what) = refl
refusal_told (refused.NoSavepoint name) = refl
refusal_told refused.Aborted = refl
refusal_told refused.QueueFull = refl

same_refusal : (a b : Refusal) → IsRefusal a → IsRefusal b → refusal_number a ≡ refusal_number b → refusal_text a ≡ refusal_text b → a ≡ b
same_refusal (refused.Syntax m) (refused.Syntax n) h k t e = ap (λ (at : ℕ). let r : Refusal = refused.Syntax at in r) (last_part (codes "42601: syntax error at byte ") m n (omega (arith, h)) (omega (arith, k)) e)
same_refusal (refused.Syntax m) b h k t e = absurd (differ 99 _ t refl)
same_refusal (refused.Bounds m) (refused.Bounds n) h k t e =
    let same : bounds_message m ≡ bounds_message n = append_cancel_left (codes "22023: ") (bounds_message m) (bounds_message n) e in
    ap (λ (which : Which). let r : Refusal = refused.Bounds which in r) (same_bounds m n (sym (bounds_told m) ∙ ap length same ∙ bounds_told n))
same_refusal (refused.Bounds m) b h k t e = absurd (differ 101 _ t refl)
same_refusal (refused.NeedsBlock m) (refused.NeedsBlock n) h k t e =
    let end : List ℕ = codes " can only be used in transaction blocks" in
    let same : needs_text m ≡ needs_text n = append_cancel_right (needs_text m) (needs_text n) end (append_cancel_left (codes "25P01: ") (needs_text m ++ end) (needs_text n ++ end) e) in
    ap (λ (what : Needs). let r : Refusal = refused.NeedsBlock what in r) (same_needs m n (sym (needs_told m) ∙ ap length same ∙ needs_told n))
same_refusal (refused.NeedsBlock m) b h k t e = absurd (differ 102 _ t refl)
same_refusal (refused.NoSavepoint m) (refused.NoSavepoint n) h k t e =
    let end : List ℕ = codes "\" does not exist" in
    let same : m ≡ n = append_cancel_right m n end (append_cancel_left (codes "3B001: savepoint \"") (m ++ end) (n ++ end) e) in
    ap (λ (name : List ℕ). let r : Refusal = refused.NoSavepoint name in r) same
same_refusal (refused.NoSavepoint m) b h k t e = absurd (differ 115 _ t refl)
same_refusal refused.Aborted refused.Aborted h k t e = refl
same_refusal refused.Aborted b h k t e = absurd (differ 103 _ t refl)
same_refusal refused.QueueFull refused.QueueFull h k t e = refl
same_refusal refused.QueueFull b h k t e = absurd (differ 100 _ t refl)

-- a refusal
pub refusal_part : (a b : Refusal) → IsRefusal a → IsRefusal b → codes "ERROR: " ++ refusal_text a ≡ codes "ERROR: " ++ refusal_text b → a ≡ b
refusal_part a b h k e =
    let same : refusal_text a ≡ refusal_text b = append_cancel_left (codes "ERROR: ") (refusal_text a) (refusal_text b) e in
    same_refusal a b h k (sym (refusal_told a) ∙ ap refusal_sign same ∙ refusal_told b) same
