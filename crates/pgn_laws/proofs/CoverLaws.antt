-- The tokens of a text cover it, and no others do.
use Rattle.std.proofs.Common.{◌≡◌, ℕ, ◌+◌, List, [], ◌∷◌, ◌++◌, length, drop, sym, ap, ◌∙◌, refl, arith}
use Rattle.std.proofs.lemmas.Bool.{both_ways}
use Rattle.std.proofs.lemmas.List.{drop-drop, drop_at}
use Rattle.pgn_language.specs.Tokens.{Lexeme, Token, tokens_from, kind, Front, Blank, Comment, OneToken, NoToken, front, is_blank, begins_comment}
use Rattle.pgn_language.specs.laws.Tokens.{written, IsWhole, NothingStands, Covers, Ended, Commented, Spaced, Tokened, Stuck}
use Rattle.pgn_language.proofs.SlotLaws.{tokens-skip}
use Rattle.pgn_language.proofs.CoverLaws.{front-blank, front-comment, front_of, Leads, whole-leads, Says, front-says, after_front}

-- where nothing stands there is no token
stands-nothing : (b : ℕ) (bytes : List ℕ) (f : Front) → Says b bytes f → NothingStands b bytes → f ≡ NoToken
stands-nothing b bytes Blank s n = absurd (both_ways (is_blank b) n.no_blank s)
stands-nothing b bytes Comment s n = absurd (both_ways (begins_comment b bytes) n.no_comment s)
stands-nothing b bytes (OneToken lexeme more) s n = absurd (n.no_token lexeme (drop more bytes) s.1 s.0)
stands-nothing b bytes NoToken s n = refl

front-from : (at : ℕ) (bytes : List ℕ) (lexeme : Lexeme) (more : ℕ) → front_of bytes ≡ OneToken lexeme more → tokens_from at 0 bytes ≡ record { lexeme = lexeme; at = at } ∷ tokens_from (at + 1) more (drop 1 bytes)
front-from at [] lexeme more e = absurd (cc)
front-from at (b ∷ bytes) lexeme more e = ap (after_front at bytes) e

token-from : (at : ℕ) (lexeme : Lexeme) (rest : List ℕ) → IsWhole lexeme rest → tokens_from at 0 (written lexeme ++ rest) ≡ record { lexeme = lexeme; at = at } ∷ tokens_from (at + length (written lexeme)) 0 rest
token-from at lexeme rest h =
    let leads : Leads (written lexeme ++ rest) lexeme = whole-leads lexeme rest h in
    let past : drop leads.0 (drop 1 (written lexeme ++ rest)) ≡ rest =
    drop-drop leads.0 1 (written lexeme ++ rest) ∙ drop_at (written lexeme) rest (1 + leads.0) (omega (arith, leads.2)) in
    let after : tokens_from (at + 1) leads.0 (drop 1 (written lexeme ++ rest)) ≡ tokens_from (at + length (written lexeme)) 0 rest =
    tokens-skip (at + 1) leads.0 (drop 1 (written lexeme ++ rest)) ∙ ap (λ (l : List ℕ). tokens_from ((at + 1) + leads.0) 0 l) past ∙ ap (λ (n : ℕ). tokens_from n 0 rest) (omega (arith, leads.2)) in
    front-from at (written lexeme ++ rest) lexeme leads.0 leads.1 ∙ ap (λ (ts : List Token). record { lexeme = lexeme; at = at } ∷ ts) after

-- tokens that cover bytes are those that are cut from them
pub one-cover : (at : ℕ) (bytes : List ℕ) (some : List Token) → Covers at bytes some → some ≡ tokens_from at 0 bytes
one-cover at _ _ (Ended _) = refl
one-cover at _ _ (Commented _ b bytes h) = sym (ap (after_front at bytes) (front-comment b bytes h))
one-cover at _ some (Spaced _ b bytes _ h next) = one-cover (at + 1) bytes some next ∙ sym (ap (after_front at bytes) (front-blank b bytes h))
one-cover at _ _ (Tokened _ lexeme rest some h next) =
    ap (λ (ts : List Token). record { lexeme = lexeme; at = at } ∷ ts) (one-cover (at + length (written lexeme)) rest some next) ∙ sym (token-from at lexeme rest h)
one-cover at _ _ (Stuck _ b bytes n) = sym (ap (after_front at bytes) (stands-nothing b bytes (front (kind b bytes) b bytes) (front-says b bytes) n))
