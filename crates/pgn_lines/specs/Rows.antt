-- The row of a notification that was received: who sent it, and the text of the notification.
use Rattle.std.specs.Prelude.{◌≡◌, ℕ, List, ◌∷◌, ◌++◌, codes, decimal}
use Rattle.pgn_lines.specs.Shown.{IsShort, IsXid}

-- its line
abbrev pub received_text : ℕ → ℕ → List ℕ → List ℕ
received_text xid pid text = codes "  " ++ (decimal xid ++ 32 ∷ (decimal pid ++ 32 ∷ text))

-- a line is that of this transaction, this process and this text, and of no others
pub record IsSender (line : List ℕ) (xid pid : ℕ) (text : List ℕ) : Type 0 where
  pub held : IsXid xid
  pub short : IsShort pid
  pub spelled : received_text xid pid text ≡ line
  pub alone : (x p : ℕ) → (t : List ℕ) → IsXid x → IsShort p → received_text x p t ≡ line → (x ≡ xid) × (p ≡ pid) × (t ≡ text)
