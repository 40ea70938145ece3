-- Lines that show nothing.
use Rattle.std.proofs.Common.{◌≡◌, ℕ, List, [], ◌∷◌, ◌++◌, get_or, codes, decimal, flat_map, sym, ap, ◌∙◌, subst, arith}
use Rattle.std.specs.Fmt.{digits}
use Rattle.std.specs.Str.Parse.{digits_value}
use Rattle.std.proofs.lemmas.Fmt.{decimal_is_IsNumeral}
use Rattle.std.proofs.lemmas.List.{append_cancel_left}
use Rattle.pgn_base.specs.declared.note.Note.{Note}
use Rattle.pgn_language.specs.Quotes.{doubled_byte}
use Rattle.pgn_lines.specs.Shown.{IsHeld, IsXid, Unshown}
use Rattle.pgn_lines.specs.declared.shown.Shown.{Shown}
use Rattle.pgn_lines.specs.declared.shown.Shown.TheVariants.{Committed, Aborted, Sent, Publish}
use Rattle.pgn_lines.proofs.PartLaws.{are_digits, note_spelled}
use Rattle.pgn_lines.proofs.FieldLaws.{AreDigits}
use Rattle.pgn_lines.proofs.QuotedLaws.{quoted_parts}
use Rattle.pgn_lines.proofs.OnceLaws.{entries_are_apart, kind, sign, told}
use Rattle.pgn_lines.proofs.LineLaws.{long_xid}

-- a line of this start shows a commit, or nothing
publish_alone : (rest : List ℕ) → ((xid : ℕ) → Unshown (codes "+publish " ++ rest) (Publish xid)) → (shown : Shown) → Unshown (codes "+publish " ++ rest) shown
publish_alone rest none (Publish xid) h e = none xid h e
publish_alone rest none shown h e = let t : kind shown ≡ 1112 = sym (told shown) ∙ ap sign e in absurd (omega (arith, t))

-- a leading zero is written of no number
zero_of_none : (xid : ℕ) → IsXid xid → decimal xid ≡ codes "03" → ⊥
unfolding digits
zero_of_none xid h e =
    let value : 3 ≡ xid = sym (ap (λ (bytes : List ℕ). digits_value 10 bytes) e) ∙ (decimal_is_IsNumeral xid (long_xid xid h)).1 in
    let three : codes "3" ≡ codes "03" = ap (λ (n : ℕ). decimal n) value ∙ e in
    let same : 51 ≡ 48 = ap (λ (bytes : List ℕ). get_or bytes 0 0) three in
    omega (arith, same)

-- a number with a zero before it shows nothing
pub no_zero : (shown : Shown) → Unshown (codes "+publish 03") shown
no_zero = publish_alone (codes "03") (λ xid h e. zero_of_none xid h (append_cancel_left (codes "+publish ") (decimal xid) (codes "03") e))

-- nor has one a blank behind it
blank_of_none : (xid : ℕ) → IsXid xid → decimal xid ≡ codes "3 " → ⊥
blank_of_none xid h e =
    let all : AreDigits (codes "3 ") = subst (λ (bytes : List ℕ). AreDigits bytes) e (are_digits xid (long_xid xid h)) in
    omega (arith, all.1.0)

-- nor does a line with a blank at its end
pub no_blank : (shown : Shown) → Unshown (codes "+publish 3 ") shown
no_blank = publish_alone (codes "3 ") (λ xid h e. blank_of_none xid h (append_cancel_left (codes "+publish ") (decimal xid) (codes "3 ") e))

no_rest : [] ≡ codes "s'" → ⊥
no_rest e = let no : ⊥ = cc in no

-- a payload ends at a quote that stands alone
pub no_lone_quote : (note : Note) → Unshown (codes "  \"c\", 'it's'") (Sent note)
no_lone_quote note h e =
    let first : List ℕ = flat_map (doubled_byte 39) note.payload ++ 39 ∷ [] in
    let spelled = append_cancel_left (codes "  \"") (flat_map (doubled_byte 34) note.channel ++ 34 ∷ 44 ∷ 32 ∷ 39 ∷ first) (codes "c\", 'it's'") (ap (λ (l : List ℕ). codes "  " ++ l) (sym (note_spelled note)) ∙ e) in
    let comma : (44 ≡ 34) → ⊥ = λ h. omega (arith, h) in
    let letter : (115 ≡ 39) → ⊥ = λ h. omega (arith, h) in
    let channels = quoted_parts 34 note.channel (codes "c") (44 ∷ 32 ∷ 39 ∷ first) (codes ", 'it's'") comma comma spelled in
    let payloads = quoted_parts 39 note.payload (codes "it") [] (codes "s'") tt letter (append_cancel_left (codes ", '") first (codes "it's'") channels.1) in
    no_rest payloads.1

-- a commit is told from an abort
pub no_abort : (xid session queued notes : ℕ) → Unshown (codes "xid 3 session 1 commit 1") (Aborted xid session queued notes)
unfolding digits
no_abort xid session queued notes h e =
    let held : IsHeld (Committed 3 1 1) = ((omega arith, omega arith), (omega arith, omega arith), omega arith) in
    entries_are_apart 3 1 1 xid session queued notes held h (sym e)
