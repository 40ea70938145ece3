-- Lines of numbers, and a holder; what they are in one spelling, and what was read of them.
use Rattle.std.proofs.Common.{◌≡◌, ℕ, List, [], ◌∷◌, ◌++◌, Option, None, Some, MatchOption, codes, decimal, sym, ap, ◌∙◌, arith, append_assoc, subst}
use Rattle.std.proofs.lemmas.List.{append_cancel_left}
use Rattle.pgn_model.specs.Text.{delivery_line, full_line, holder_text, note_text}
use Rattle.pgn_base.specs.declared.note.Delivery.{Delivery}
use Rattle.pgn_base.specs.declared.note.Note.{Note}
use Rattle.pgn_base.specs.Notes.{IsNote}
use Rattle.pgn_base.specs.declared.queue_answers.Full.{Full}
use Rattle.pgn_lines.specs.Fields.{full_text, IsLed, IsTwo, NoNumber, IsNumber, NotNumbered, IsNumbered, IsHolder, NoHolder, two_text}
use Rattle.pgn_lines.specs.Rows.{IsSender, received_text}
use Rattle.pgn_lines.specs.Shown.{IsLong, IsSession, IsShort, IsXid, shown_text, Shows}
use Rattle.pgn_lines.specs.declared.shown.Shown.TheVariants.{Aborted, Committed, Measured, Pages, Received}
use Rattle.pgn_lines.proofs.PartLaws.{in_four, in_five, in_six}

-- a start and one number
pub numbered : (P : ℕ → Type 0) (line start rest : List ℕ) (read : Option ℕ) → line ≡ start ++ rest → MatchOption read (NoNumber P rest) (IsNumber P rest) → MatchOption read (NotNumbered P start line) (IsNumbered P start line)
numbered P line start rest None s h = λ n p e. h n p (append_cancel_left start (decimal n) rest (e ∙ s))
numbered P line start rest (Some n) s h = (h.0, ap (λ (l : List ℕ). start ++ l) h.1 ∙ sym s)

-- nobody holds the floor, or this session
pub no_holder : (text : List ℕ) → (text ≡ codes "none" → ⊥) → NoNumber IsSession text → NoHolder text
no_holder text h k None held e = h (sym e)
no_holder text h k (Some session) held e = k session held e

in_twelve : (a b c d e f g h i j k l : List ℕ) → a ++ b ++ c ++ d ++ e ++ f ++ g ++ h ++ i ++ j ++ k ++ l ≡ a ++ (b ++ (c ++ (d ++ (e ++ (f ++ (g ++ (h ++ (i ++ (j ++ (k ++ l))))))))))
in_twelve a b c d e f g h i j k l = simp append_assoc

-- the line of a full queue
pub full_spelled : (full : Full) → full_line full ≡ full_text full.xid full.queued full.head_page full.floor_mark full.floor_page full.holder
full_spelled full =
    in_twelve (codes "+full ") (decimal full.xid) (codes " queued ") (decimal full.queued) (codes " head ") (decimal full.head_page) (codes " floor ") (decimal full.floor_mark) (codes " page ") (decimal full.floor_page)
    (codes " holder ") (holder_text full.holder)

-- a transaction's number is a long one
pub long_xid : (n : ℕ) → IsXid n → IsLong n
long_xid n h = omega (arith, h)

-- so is a session's
pub long_session : (n : ℕ) → IsSession n → IsLong n
long_session n h = omega (arith, h)

-- and a short one
pub long_short : (n : ℕ) → IsShort n → IsLong n
long_short n h = omega (arith, h)

-- what follows a start
pub follows : (start line rest text : List ℕ) → line ≡ start ++ rest → start ++ text ≡ line → rest ≡ text
follows start line rest text s e = append_cancel_left start rest text (sym s ∙ sym e)

-- what follows a number, a blank and a word
pub behind : (P : ℕ → Type 0) (text word at more : List ℕ) (n m : ℕ) → IsLed P text word n at → IsLong m → text ≡ decimal m ++ 32 ∷ (word ++ more) → at ≡ more
behind P text word at more n m h few e = (h.alone m more few e).1

-- a line of two numbers, each with a blank and a word behind it
abbrev pub led_text : List ℕ → List ℕ → List ℕ → ℕ → ℕ → List ℕ → List ℕ
led_text start one two a b last = start ++ (decimal a ++ 32 ∷ (one ++ (decimal b ++ 32 ∷ (two ++ last))))

-- what was read of such a line makes it
pub two_led : (start one two line rest at last : List ℕ) (a b : ℕ) → line ≡ start ++ rest → rest ≡ decimal a ++ 32 ∷ (one ++ at) → at ≡ decimal b ++ 32 ∷ (two ++ last) → led_text start one two a b last ≡ line
two_led start one two line rest at last a b s e f = ap (λ (l : List ℕ). start ++ (decimal a ++ 32 ∷ (one ++ l))) (sym f) ∙ ap (λ (l : List ℕ). start ++ l) (sym e) ∙ sym s

-- a line of two numbers in one spelling, from the left
pub two_spelled : (start : List ℕ) (a b : ℕ) → two_text start a b ≡ start ++ (decimal a ++ 32 ∷ decimal b)
two_spelled start a b = in_four start (decimal a) (32 ∷ []) (decimal b)

-- two numbers that were read make their line
pub xids_read : (start line rest at : List ℕ) (a b : ℕ) → line ≡ start ++ rest → IsLed IsXid rest [] a at → IsNumber IsXid at b → IsTwo start line a b
xids_read start line rest at a b s h k = (
  h.held,
  k.0,
  two_spelled start a b ∙ ap (λ (l : List ℕ). start ++ (decimal a ++ 32 ∷ l)) k.1 ∙ ap (λ (l : List ℕ). start ++ l) (sym h.spelled) ∙ sym s,
)

-- the first line of an entry that committed, so spelled
pub committed_spelled : (xid session notes : ℕ) → shown_text (Committed xid session notes) ≡ led_text (codes "xid ") (codes "session ") (codes "commit ") xid session (decimal notes)
committed_spelled xid session notes = in_five (codes "xid ") (decimal xid) (codes " session ") (decimal session) (codes " commit " ++ decimal notes)

-- what was read of one makes it
pub committed_read : (line rest at last : List ℕ) (x s n : ℕ) → line ≡ codes "xid " ++ rest → IsLed IsXid rest (codes "session ") x at → IsLed IsSession at (codes "commit ") s last → IsNumber IsShort last n → Shows line (Committed x s n)
committed_read line rest at last x s n e h k m = (
  (h.held, k.held, m.0),
  committed_spelled x s n ∙ ap (λ (l : List ℕ). led_text (codes "xid ") (codes "session ") (codes "commit ") x s l) m.1
      ∙ two_led (codes "xid ") (codes "session ") (codes "commit ") line rest at last x s e h.spelled k.spelled,
)

-- the first line of an entry that was aborted, so spelled
pub aborted_spelled : (xid session queued notes : ℕ) → shown_text (Aborted xid session queued notes) ≡ led_text (codes "xid ") (codes "session ") (codes "abort ") xid session (decimal queued ++ 32 ∷ (codes "of " ++ decimal notes))
aborted_spelled xid session queued notes =
    in_five (codes "xid ") (decimal xid) (codes " session ") (decimal session) (codes " abort " ++ decimal queued ++ codes " of " ++ decimal notes)
    ∙ ap (λ (l : List ℕ). codes "xid " ++ (decimal xid ++ 32 ∷ (codes "session " ++ (decimal session ++ l)))) (in_four (codes " abort ") (decimal queued) (codes " of ") (decimal notes))

-- what was read of such a one makes it
pub aborted_read : (line rest at behind last : List ℕ) (x s q n : ℕ) → line ≡ codes "xid " ++ rest → IsLed IsXid rest (codes "session ") x at → IsLed IsSession at (codes "abort ") s behind
    → IsLed IsShort behind (codes "of ") q last → IsNumber IsShort last n → Shows line (Aborted x s q n)
aborted_read line rest at behind last x s q n e h k l m = (
  (h.held, k.held, l.held, m.0),
  aborted_spelled x s q n ∙ ap (λ (t : List ℕ). led_text (codes "xid ") (codes "session ") (codes "abort ") x s (decimal q ++ 32 ∷ (codes "of " ++ t))) m.1
      ∙ ap (λ (t : List ℕ). led_text (codes "xid ") (codes "session ") (codes "abort ") x s t) (sym l.spelled)
      ∙ two_led (codes "xid ") (codes "session ") (codes "abort ") line rest at behind x s e h.spelled k.spelled,
)

-- the line of a usage, so spelled
pub measured_spelled : (at floor : ℕ) (holder : Option ℕ) → shown_text (Measured at floor holder) ≡ led_text (codes "+usage ") (codes "floor ") (codes "holder ") at floor (holder_text holder)
measured_spelled at floor holder = in_six (codes "+usage ") (decimal at) (codes " floor ") (decimal floor) (codes " holder ") (holder_text holder)

-- what was read of a usage makes its line
pub measured_read : (line rest at last : List ℕ) (a f : ℕ) (holder : Option ℕ) → line ≡ codes "+usage " ++ rest → IsLed IsXid rest (codes "floor ") a at → IsLed IsXid at (codes "holder ") f last → IsHolder last holder
    → Shows line (Measured a f holder)
measured_read line rest at last a f holder e h k m = (
  (h.held, k.held, m.0),
  measured_spelled a f holder ∙ ap (λ (l : List ℕ). led_text (codes "+usage ") (codes "floor ") (codes "holder ") a f l) m.1
      ∙ two_led (codes "+usage ") (codes "floor ") (codes "holder ") line rest at last a f e h.spelled k.spelled,
)

-- the row of its pages, so spelled
pub pages_spelled : (occupied limit : ℕ) → shown_text (Pages occupied limit) ≡ codes "  " ++ (decimal occupied ++ 47 ∷ decimal limit)
pages_spelled occupied limit = in_four (codes "  ") (decimal occupied) (codes "/") (decimal limit)

-- the row of a notification that was received, so spelled
pub delivery_spelled : (delivery : Delivery) → delivery_line delivery ≡ received_text delivery.xid delivery.pid (note_text delivery.note)
delivery_spelled delivery = in_six (codes "  ") (decimal delivery.xid) (codes " ") (decimal delivery.pid) (codes " ") (note_text delivery.note)

-- who sent it and the notification make the row
pub received_shown : (line text : List ℕ) (xid pid : ℕ) (note : Note) → IsSender line xid pid text → IsNote note × (note_text note ≡ text) → Shows line (Received (record { xid = xid; pid = pid; note = note }))
received_shown line text xid pid note h k = (
  (h.held, h.short, k.0),
  delivery_spelled (record { xid = xid; pid = pid; note = note }) ∙ ap (λ (l : List ℕ). received_text xid pid l) k.1 ∙ h.spelled,
)

-- what was read of the pages makes their row
pub pages_shown : (occupied limit : ℕ) (line row front back : List ℕ) → line ≡ codes "  " ++ row → row ≡ front ++ 47 ∷ back → decimal occupied ≡ front → decimal limit ≡ back → shown_text (Pages occupied limit) ≡ line
pages_shown occupied limit line row front back s p e f =
    pages_spelled occupied limit ∙ ap (λ (l : List ℕ). codes "  " ++ (l ++ 47 ∷ decimal limit)) e ∙ ap (λ (l : List ℕ). codes "  " ++ (front ++ 47 ∷ l)) f
    ∙ ap (λ (l : List ℕ). codes "  " ++ l) (sym p) ∙ sym s

-- where nothing was read, nothing was to be read
pub none_read : {X : Type 0} (P : Type 0) (Q : X → Type 0) (read : Option X) → MatchOption read P Q → read ≡ None → P
none_read P Q None h e = h
none_read P Q (Some x) h e = absurd (let no : ⊥ = cc in no)

-- where something was read, it is what was to be read
pub some_read : {X : Type 0} (P : Type 0) (Q : X → Type 0) (read : Option X) (x : X) → MatchOption read P Q → read ≡ Some x → Q x
some_read P Q read x h e = subst (λ r. MatchOption r P Q) e h
