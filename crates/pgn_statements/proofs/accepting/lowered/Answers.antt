use Rattle.std.proofs.Common.{◌≡◌, ℕ, ◌+◌, Bool, true, false, List, [], ◌∷◌, ◌++◌, append_assoc, drop, get_or, sym, ap, ◌∙◌, refl}
use Rattle.std.specs.Prelude.{filter}
use Rattle.std.specs.Char.{to_ascii_lowercase}
use Rattle.std.specs.Str.{str_to_ascii_lowercase}
use Rattle.std.proofs.lemmas.List.{append-nil, at_drop_all, at_drop_more}
use Rattle.pgn_statements.proofs.PlainLaws.{pick_no}
use Rattle.pgn_statements.specs.Choices.{is_kept}
use Rattle.pgn_statements.proofs.AskLaws.{pick_yes}
use Rattle.pgn_statements.proofs.accepting.lowered.Goals.{then-is_kept+in_ok-push, else-is_kept}
use Rattle.pgn_statements.proofs.accepting.lowered.Goals as goal

-- a byte that is kept, and one that is not
kept : (p : ℕ → Bool) (made new : List ℕ) (b one : ℕ) (bytes : List ℕ) → p b ≡ true → one ≡ to_ascii_lowercase b → new ≡ made ++ one ∷ []
    → new ++ str_to_ascii_lowercase (filter p bytes) ≡ made ++ str_to_ascii_lowercase (filter p (b ∷ bytes))
kept p made new b one bytes e o n =
    ap (λ (l : List ℕ). l ++ str_to_ascii_lowercase (filter p bytes)) (n ∙ ap (λ (x : ℕ). made ++ x ∷ []) o) ∙ append_assoc made (to_ascii_lowercase b ∷ []) (str_to_ascii_lowercase (filter p bytes))
    ∙ ap (λ (l : List ℕ). made ++ str_to_ascii_lowercase l) (sym (pick_yes (p b) (b ∷ filter p bytes) (filter p bytes) e))

left : (p : ℕ → Bool) (made new : List ℕ) (b : ℕ) (bytes : List ℕ) → p b ≡ false → new ≡ made
    → new ++ str_to_ascii_lowercase (filter p bytes) ≡ made ++ str_to_ascii_lowercase (filter p (b ∷ bytes))
left p made new b bytes e n =
    ap (λ (l : List ℕ). l ++ str_to_ascii_lowercase (filter p bytes)) n ∙ ap (λ (l : List ℕ). made ++ str_to_ascii_lowercase l) (sym (pick_no (p b) (b ∷ filter p bytes) (filter p bytes) e))

pub loop-byte-preserved : goal.loop-byte-preserved
loop-byte-preserved c =
    let bytes : List ℕ = c.args.bytes.now in
    let at : ℕ = c.loop-byte.byte-index in
    let p : ℕ → Bool = is_kept c.args.letters in
    let made : List ℕ = c.loop-byte.made.items in
    let b : ℕ = get_or bytes at 0 in
    let rest : List ℕ = drop (at + 1) bytes in
    let here : made ++ str_to_ascii_lowercase (filter p (b ∷ rest)) ≡ str_to_ascii_lowercase (filter p bytes) =
    sym (at_drop_more (λ (l : List ℕ). made ++ str_to_ascii_lowercase (filter p l)) bytes at 0 c.loop-byte-test.true) ∙ c.loop-byte.invariant in
    elim c.if-is_kept.branch [
      | then-is_kept+in_ok-push w ↦ rw w.made-is (kept p made w.push.new.self.items b w.to_ascii_lowercase.result rest (sym c.is_kept.ensures ∙ w.if-is_kept.true) w.to_ascii_lowercase.ensures.value w.in_ok-push.ensures.items ∙ here)
      | else-is_kept w ↦ rw w.made-is (left p made made b rest (sym c.is_kept.ensures ∙ w.if-is_kept.false) refl ∙ here)
    ]

pub returns : goal.returns
returns c =
    let made : List ℕ = c.loop-byte.made.items in
    let p : ℕ → Bool = is_kept c.args.letters in
    sym (append-nil made) ∙ sym (at_drop_all (λ (l : List ℕ). made ++ str_to_ascii_lowercase (filter p l)) c.args.bytes.now c.loop-byte.byte-index c.loop-byte-test.false) ∙ c.loop-byte.invariant
