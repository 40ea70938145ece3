-- What NOTIFY with a long literal reads as.
use Rattle.std.proofs.Common.{◌≡◌, ℕ, zero, suc, ◌+◌, Bool, true, false, nat_le, List, [], ◌∷◌, ◌++◌, length, replicate, flat_map, codes, sym, ap, ◌∙◌, refl, subst}
use Rattle.std.proofs.lemmas.List.{length-replicate, append-nil}
use Rattle.std.proofs.lemmas.List.Elements.{All-from_recursion}
use Rattle.pgn_base.specs.declared.answers.Which.TheVariants.{PayloadTooLong}
use Rattle.pgn_base.specs.declared.command.Command.{Command}
use Rattle.pgn_base.specs.declared.command.Command.TheVariants as command
use Rattle.pgn_language.specs.Quotes.{doubled_byte, quoted}
use Rattle.pgn_language.specs.Tokens.{Word, Literal, Sign, Token, tokens, goes_on_word}
use Rattle.pgn_language.specs.laws.Tokens.{IsWord, Covers, Ended, Spaced, Tokened}
use Rattle.pgn_language.specs.Grammar.{table, cut, lexemes_of, is_long, limited, ReadsAs, reading, reading_of, command_of}
use Rattle.pgn_language.proofs.GrammarLaws.{reading-reads}
use Rattle.pgn_laws.proofs.CoverLaws.{one-cover}

-- letters have no quote
plain_letters : (n : ℕ) → flat_map (doubled_byte 39) (replicate n 120) ≡ replicate n 120
plain_letters zero = refl
plain_letters (suc n) = ap (λ (l : List ℕ). 120 ∷ l) (plain_letters n)

abbrev line : ℕ → List ℕ
line n = codes "NOTIFY c, '" ++ replicate n 120 ++ codes "'"

abbrev line_tokens : ℕ → List Token
line_tokens n = record { lexeme = Word (codes "NOTIFY"); at = 0 }
    ∷ record { lexeme = Word (codes "c"); at = 7 }
    ∷ record { lexeme = Sign 44; at = 8 }
    ∷ record { lexeme = Literal (replicate n 120); at = 10 }
    ∷ []

notify_word : IsWord (codes "NOTIFY")
notify_word = let P : ℕ → Type 0 = λ byte. goes_on_word byte ≡ true in (refl, All-from_recursion P (codes "OTIFY") (refl, (refl, (refl, (refl, (refl, tt))))))

channel_word : IsWord (codes "c")
channel_word = let P : ℕ → Type 0 = λ byte. goes_on_word byte ≡ true in (refl, All-from_recursion P [] tt)

literal_cover : (n at : ℕ) → Covers at (quoted 39 (replicate n 120) ++ []) (record { lexeme = Literal (replicate n 120); at = at } ∷ [])
literal_cover n at = Tokened at (Literal (replicate n 120)) [] [] tt (Ended (at + length (quoted 39 (replicate n 120))))

line_cover : (n : ℕ) → Covers 0 (codes "NOTIFY c, " ++ (quoted 39 (replicate n 120) ++ [])) (line_tokens n)
line_cover n =
    let rest : List ℕ = quoted 39 (replicate n 120) ++ [] in
    let comma : Covers 8 (44 ∷ 32 ∷ rest) (record { lexeme = Sign 44; at = 8 } ∷ record { lexeme = Literal (replicate n 120); at = 10 } ∷ []) =
    Tokened 8 (Sign 44) (32 ∷ rest) _ refl (Spaced 9 32 rest _ refl (literal_cover n 10)) in
    let channel = Tokened 7 (Word (codes "c")) (44 ∷ 32 ∷ rest) _ (channel_word, refl) comma in
    Tokened 0 (Word (codes "NOTIFY")) (codes " c, " ++ rest) _ (notify_word, refl) (Spaced 6 32 (codes "c, " ++ rest) _ refl channel)

same_line : (n : ℕ) → codes "NOTIFY c, " ++ (quoted 39 (replicate n 120) ++ []) ≡ line n
same_line n =
    ap (λ (l : List ℕ). codes "NOTIFY c, " ++ l) (append-nil (quoted 39 (replicate n 120)))
    ∙ ap (λ (l : List ℕ). codes "NOTIFY c, '" ++ (l ++ 39 ∷ [])) (plain_letters n)

tokens_are : (n : ℕ) → tokens (line n) ≡ line_tokens n
tokens_are n = sym (one-cover 0 (line n) (line_tokens n) (subst (λ (l : List ℕ). Covers 0 l (line_tokens n)) (same_line n) (line_cover n)))

abbrev notify : ℕ → Command
notify n = command.Notify (record { channel = codes "c"; payload = replicate n 120 })

reading_is : (n : ℕ) → reading (line n) ≡ limited (notify n)
unfolding table cut
reading_is n = ap (λ (ts : List Token). reading_of (length (line n)) ts (command_of table (lexemes_of ts))) (tokens_are n)

length_test : (n : ℕ) (b : Bool) → nat_le 8000 n ≡ b → is_long (replicate n 120) ≡ b
length_test n b h = ap (nat_le 8000) (length-replicate n 120) ∙ h

-- a payload of 8000 bytes or more is refused
pub long-literal : (n : ℕ) → nat_le 8000 n ≡ true → ReadsAs (line n) (command.Invalid PayloadTooLong)
long-literal n h =
    let past : limited (notify n) ≡ command.Invalid PayloadTooLong = rw (length_test n true h) refl in
    subst (λ (c : Command). ReadsAs (line n) c) (reading_is n ∙ past) (reading-reads (line n))

-- a shorter one is sent
pub short-literal : (n : ℕ) → nat_le 8000 n ≡ false → ReadsAs (line n) (notify n)
short-literal n h =
    let within : limited (notify n) ≡ notify n = rw (length_test n false h) refl in
    subst (λ (c : Command). ReadsAs (line n) c) (reading_is n ∙ within) (reading-reads (line n))
