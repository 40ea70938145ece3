use Rattle.std.proofs.Common.{◌≡◌, ℕ, List, ◌++◌, ◌∙◌, ap}
use Rattle.pgn_messages.proofs.server.text_of_cut.Goals as goal

-- four texts behind one
behind : (a b d e f one two three four five : List ℕ) → one ≡ a → two ≡ one ++ b → three ≡ two ++ d → four ≡ three ++ e → five ≡ four ++ f → five ≡ a ++ b ++ d ++ e ++ f
behind a b d e f one two three four five p q r s t =
    t ∙ ap (λ (x : List ℕ). x ++ f) (s ∙ ap (λ (x : List ℕ). x ++ e) (r ∙ ap (λ (x : List ℕ). x ++ d) (q ∙ ap (λ (x : List ℕ). x ++ b) p)))

pub returns : goal.returns
returns c = behind _ _ _ _ _ _ _ _ _ _ c.in_ok-text.ensures c.in_ok-put.ensures c.in_ok-put-2.ensures c.in_ok-put-3.ensures c.in_ok-put-4.ensures
