-- The tokens of a text stand in it.
use Rattle.std.proofs.Common.{◌≡◌, ℕ, zero, suc, ◌+◌, Bool, true, false, cond, ◌==◌, List, [], ◌∷◌, ◌++◌, length, take, drop, Option, None, Some, sym, ap, ◌∙◌, refl, subst, append_assoc, length-append}
use Rattle.std.specs.List.{prefix_len}
use Rattle.std.specs.Char.{is_ascii_digit}
use Rattle.std.proofs.lemmas.Bool.{eqb-true}
use Rattle.std.proofs.lemmas.List.{take-append-drop, drop_at}
use Rattle.std.specs.Prelude.{flat_map}
use Rattle.pgn_language.specs.Quotes.{doubled_byte, quoted}
use Rattle.pgn_language.specs.Tokens.{Lexeme, Word, Quoted, Literal, Number, Sign, Wrong, Token, tokens, tokens_from, Inside, closed, Kind, ABlank, AComment, AWord, ANumber, ASign, AQuoted, ALiteral, ANothing, kind, Blank, Comment, OneToken, NoToken, front, quoted_front, literal_front, is_blank, begins_comment, begins_word, goes_on_word, is_sign}
use Rattle.pgn_language.specs.laws.Tokens.{IsClosed, written, AllStand}
use Rattle.pgn_language.proofs.TokenLaws.{closed-spells}

-- bytes begin with a token
abbrev Leads : List ℕ → Lexeme → Type 0
Leads bytes lexeme = (rest : List ℕ) × (bytes ≡ written lexeme ++ rest)

quoted_test : (a b c d e f g : Bool) → cond a ABlank (cond b AComment (cond c AWord (cond d ANumber (cond e ASign (cond f AQuoted (cond g ALiteral ANothing)))))) ≡ AQuoted → f ≡ true
quoted_test true b c d e f g h = absurd (cc)
quoted_test false true c d e f g h = absurd (cc)
quoted_test false false true d e f g h = absurd (cc)
quoted_test false false false true e f g h = absurd (cc)
quoted_test false false false false true f g h = absurd (cc)
quoted_test false false false false false true g h = refl
quoted_test false false false false false false true h = absurd (cc)
quoted_test false false false false false false false h = absurd (cc)

literal_test : (a b c d e f g : Bool) → cond a ABlank (cond b AComment (cond c AWord (cond d ANumber (cond e ASign (cond f AQuoted (cond g ALiteral ANothing)))))) ≡ ALiteral → g ≡ true
literal_test true b c d e f g h = absurd (cc)
literal_test false true c d e f g h = absurd (cc)
literal_test false false true d e f g h = absurd (cc)
literal_test false false false true e f g h = absurd (cc)
literal_test false false false false true f g h = absurd (cc)
literal_test false false false false false true g h = absurd (cc)
literal_test false false false false false false true h = refl
literal_test false false false false false false false h = absurd (cc)

quoted_byte : (b : ℕ) (bytes : List ℕ) → kind b bytes ≡ AQuoted → b ≡ 34
quoted_byte b bytes h = eqb-true b 34 (quoted_test (is_blank b) (begins_comment b bytes) (begins_word b) (is_ascii_digit b) (is_sign b) (b == 34) (b == 39) h)

literal_byte : (b : ℕ) (bytes : List ℕ) → kind b bytes ≡ ALiteral → b ≡ 39
literal_byte b bytes h = eqb-true b 39 (literal_test (is_blank b) (begins_comment b bytes) (begins_word b) (is_ascii_digit b) (is_sign b) (b == 34) (b == 39) h)

-- a quote and what is closed by it is a text between quotes
between : (b quote : ℕ) (bytes : List ℕ) (inside : Inside) → b ≡ quote → closed b bytes ≡ Some inside → b ∷ bytes ≡ quoted quote inside.text ++ drop inside.size bytes
between b quote bytes inside p h =
    let c : IsClosed b bytes inside = closed-spells b bytes inside h in
    ap (λ (l : List ℕ). b ∷ l) (c.spelled ∙ sym (append_assoc (flat_map (doubled_byte b) inside.text) (b ∷ []) (drop inside.size bytes)))
    ∙ ap (λ (q : ℕ). quoted q inside.text ++ drop inside.size bytes) p

quoted_is : (text : List ℕ) (size : ℕ) (lexeme : Lexeme) (more : ℕ) → quoted_front (Some (record { text = text; size = size })) ≡ OneToken lexeme more → Quoted text ≡ lexeme
quoted_is [] size lexeme more h = absurd (cc)
quoted_is (c ∷ text) size lexeme more h = cc

quoted_leads : (b : ℕ) (bytes : List ℕ) (lexeme : Lexeme) (more : ℕ) (o : Option Inside) → b ≡ 34 → closed b bytes ≡ o → quoted_front o ≡ OneToken lexeme more → Leads (b ∷ bytes) lexeme
quoted_leads b bytes lexeme more None p e h = absurd (cc)
quoted_leads b bytes lexeme more (Some inside) p e h =
    subst (λ (l : Lexeme). Leads (b ∷ bytes) l) (quoted_is inside.text inside.size lexeme more h) (drop inside.size bytes, between b 34 bytes inside p e)

literal_leads : (b : ℕ) (bytes : List ℕ) (lexeme : Lexeme) (more : ℕ) (o : Option Inside) → b ≡ 39 → closed b bytes ≡ o → literal_front o ≡ OneToken lexeme more → Leads (b ∷ bytes) lexeme
literal_leads b bytes lexeme more None p e h = absurd (cc)
literal_leads b bytes lexeme more (Some inside) p e h =
    let same : Literal inside.text ≡ lexeme = cc in
    subst (λ (l : Lexeme). Leads (b ∷ bytes) l) same (drop inside.size bytes, between b 39 bytes inside p e)

front_leads : (k : Kind) (b : ℕ) (bytes : List ℕ) (lexeme : Lexeme) (more : ℕ) → kind b bytes ≡ k → front k b bytes ≡ OneToken lexeme more → Leads (b ∷ bytes) lexeme
front_leads ABlank b bytes lexeme more e h = absurd (cc)
front_leads AComment b bytes lexeme more e h = absurd (cc)
front_leads AWord b bytes lexeme more e h =
    let same : Word (b ∷ take (prefix_len goes_on_word bytes) bytes) ≡ lexeme = cc in
    subst (λ (l : Lexeme). Leads (b ∷ bytes) l) same (drop (prefix_len goes_on_word bytes) bytes, ap (λ (l : List ℕ). b ∷ l) (sym (take-append-drop (prefix_len goes_on_word bytes) bytes)))
front_leads ANumber b bytes lexeme more e h =
    let same : Number (b ∷ take (prefix_len is_ascii_digit bytes) bytes) ≡ lexeme = cc in
    subst (λ (l : Lexeme). Leads (b ∷ bytes) l) same (drop (prefix_len is_ascii_digit bytes) bytes, ap (λ (l : List ℕ). b ∷ l) (sym (take-append-drop (prefix_len is_ascii_digit bytes) bytes)))
front_leads ASign b bytes lexeme more e h =
    let same : Sign b ≡ lexeme = cc in
    subst (λ (l : Lexeme). Leads (b ∷ bytes) l) same (bytes, refl)
front_leads AQuoted b bytes lexeme more e h = quoted_leads b bytes lexeme more (closed b bytes) (quoted_byte b bytes e) refl h
front_leads ALiteral b bytes lexeme more e h = literal_leads b bytes lexeme more (closed b bytes) (literal_byte b bytes e) refl h
front_leads ANothing b bytes lexeme more e h = absurd (cc)

-- the tokens of what follows bytes that are read
stand_from : (text before bytes : List ℕ) (at taken : ℕ) → text ≡ before ++ bytes → length before ≡ at → AllStand text (tokens_from at taken bytes)
stand_from text before [] at taken e l = tt
stand_from text before (b ∷ bytes) at (suc taken) e l =
    stand_from text (before ++ b ∷ []) bytes (at + 1) taken (e ∙ sym (append_assoc before (b ∷ []) bytes)) (length-append before (b ∷ []) ∙ ap (λ (n : ℕ). n + 1) l)
stand_from text before (b ∷ bytes) at zero e l =
    let more_of : (taken : ℕ) → AllStand text (tokens_from (at + 1) taken bytes) = λ taken.
    stand_from text (before ++ b ∷ []) bytes (at + 1) taken (e ∙ sym (append_assoc before (b ∷ []) bytes)) (length-append before (b ∷ []) ∙ ap (λ (n : ℕ). n + 1) l) in
    let here : drop at text ≡ b ∷ bytes = ap (drop at) e ∙ drop_at before (b ∷ bytes) at l in
    elim (front (kind b bytes) b bytes) as (λ f. front (kind b bytes) b bytes ≡ f → AllStand text (elim f as (λ _. List Token) [
      | Blank ↦ tokens_from (at + 1) 0 bytes
      | Comment ↦ []
      | OneToken lexeme more ↦ record { lexeme = lexeme; at = at } ∷ tokens_from (at + 1) more bytes
      | NoToken ↦ record { lexeme = Wrong; at = at } ∷ []
    ])) [
      | Blank ↦ λ f. more_of 0
      | Comment ↦ λ f. tt
      | OneToken lexeme more ↦ λ f. let leads : Leads (b ∷ bytes) lexeme = front_leads (kind b bytes) b bytes lexeme more refl f in ((leads.0, here ∙ leads.1), more_of more)
      | NoToken ↦ λ f. ((b ∷ bytes, here), tt)
    ] refl

-- each token of a text has a spelling that it may have
pub tokens-stand : (text : List ℕ) → AllStand text (tokens text)
tokens-stand text = stand_from text [] text 0 0 refl refl
