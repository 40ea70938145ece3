-- What the writer has taken and given out.
use Rattle.std.proofs.Common.{◌≡◌, ℕ, ◌<◌, ◌==◌, Bool, true, false, cond, List, [], ◌∷◌, ◌++◌, length, Option, Some, None, sym, ap, ◌∙◌, subst, refl, arith, append-nil, append_assoc}
use Rattle.std.specs.Prelude.{map}
use Rattle.std.proofs.lemmas.Grind.{flat_map-append}
use Rattle.std.proofs.lemmas.List.{map-append}
use Rattle.std.proofs.lemmas.List.Elements.{All-nil, All-cons, All-append}
use Rattle.pgn_outlet.specs.declared.came.Came.{Came}
use Rattle.pgn_outlet.specs.declared.hand.Hand.{Hand}
use Rattle.pgn_outlet.specs.Cames.{what_of}
use Rattle.pgn_outlet.specs.Rule.{with_got}
use Rattle.pgn_outlet.proofs.CameLaws.{what_of-append}
use Rattle.pgn_text.specs.declared.out.Out.{Out}
use Rattle.pgn_text.specs.Rendering.{Puts}
use Rattle.pgn_text.proofs.PutsLaws.{Puts-none, Puts-trans, Puts-same}
use Rattle.pgn_messages.specs.declared.saying.Saying.{Saying}
use Rattle.pgn_messages.specs.Sayings.{all_told, signs_told}
use Rattle.pgn_frames.specs.Frames.{Frame, IsFrame, frame_bytes, signs_in, signs_of}
use Rattle.pgn_frames.specs.Writing.{Gave, Wrote}
use Rattle.pgn_frames.proofs.SignLaws.{signs_of-append}

-- signs of a seat, or none
own_or_none : (own : Bool) → let none : List (Option ℕ) = [] in none ≡ cond own none none
own_or_none true = refl
own_or_none false = refl

both : (own : Bool) (first second : List (Option ℕ)) → cond own first [] ++ cond own second [] ≡ cond own (first ++ second) []
both true first second = refl
both false first second = refl

told_one : (own : Bool) (what : Saying) → cond own (signs_told what) [] ≡ all_told (cond own (what ∷ []) [] ++ [])
told_one true what = sym (append-nil (signs_told what))
told_one false what = refl

-- the signs of what came in two parts
told-append : (n : ℕ) (xs ys : List (Came Saying)) → all_told (what_of n (xs ++ ys)) ≡ all_told (what_of n xs) ++ all_told (what_of n ys)
told-append n xs ys = ap all_told (what_of-append n xs ys) ∙ flat_map-append signs_told (what_of n xs) (what_of n ys)

-- the signs of a frame that has bytes
signs_of_bytes : (bytes : List ℕ) → 0 < length bytes → signs_in bytes ≡ map Some bytes
signs_of_bytes [] some = absurd (omega arith)
signs_of_bytes (byte ∷ bytes) some = refl

-- with frames of the rest, all bytes of a seat are given out
pub record GaveBut {S : Type 0} (held : S → Option (List ℕ)) (faults : S → ℕ) (seat : ℕ) (bytes rest : List ℕ) (s₀ : S) (o₀ : Out) (s₁ : S) (o₁ : Out) : Type 0 where
  pub done : List ℕ
  pub parts : done ++ rest ≡ bytes
  pub gave : Gave held faults seat (map Some done) s₀ o₀ s₁ o₁

module _ {S : Type 0} (held : S → Option (List ℕ)) (faults : S → ℕ) where
  -- no frame
  pub Gave-none : (seat : ℕ) (sink : S) (out : Out) → Gave held faults seat [] sink out sink out
  Gave-none seat sink out = record {
    frames = [];
    can_be_written = All-nil (IsFrame 256);
    signed = λ n. own_or_none (seat == n);
    puts = Puts-none held faults sink out;
  }

  -- one frame
  pub Gave-frame : (seat : ℕ) (bytes : List ℕ) (s₀ s₁ : S) (o₀ o₁ : Out) → IsFrame 256 (record { seat = seat; bytes = bytes })
      → Puts held faults s₀ o₀ s₁ o₁ (frame_bytes (record { seat = seat; bytes = bytes })) → Gave held faults seat (signs_in bytes) s₀ o₀ s₁ o₁
  Gave-frame seat bytes s₀ s₁ o₀ o₁ can puts =
      let frame : Frame = record { seat = seat; bytes = bytes } in record {
        frames = frame ∷ [];
        can_be_written = All-cons (IsFrame 256) frame [] can (All-nil (IsFrame 256));
        signed = λ n. append-nil (cond (seat == n) (signs_in bytes) []);
        puts = Puts-same {held = held} {faults = faults} (sym (append-nil (frame_bytes frame))) puts;
      }

  -- frames behind frames
  pub Gave-trans : (seat : ℕ) (first second : List (Option ℕ)) (s₀ s₁ s₂ : S) (o₀ o₁ o₂ : Out) → Gave held faults seat first s₀ o₀ s₁ o₁ → Gave held faults seat second s₁ o₁ s₂ o₂
      → Gave held faults seat (first ++ second) s₀ o₀ s₂ o₂
  Gave-trans seat first second s₀ s₁ s₂ o₀ o₁ o₂ f g = record {
    frames = f.frames ++ g.frames;
    can_be_written = All-append (IsFrame 256) f.frames g.frames f.can_be_written g.can_be_written;
    signed = λ n.
        signs_of-append n f.frames g.frames ∙ ap (λ (l : List (Option ℕ)). l ++ signs_of n g.frames) (f.signed n) ∙ ap (λ (l : List (Option ℕ)). cond (seat == n) first [] ++ l) (g.signed n)
        ∙ both (seat == n) first second;
    puts = Puts-same {held = held} {faults = faults} (sym (flat_map-append frame_bytes f.frames g.frames)) (Puts-trans f.puts g.puts);
  }

  -- the same signs
  pub Gave-same : (seat : ℕ) (first second : List (Option ℕ)) (s₀ s₁ : S) (o₀ o₁ : Out) → first ≡ second → Gave held faults seat first s₀ o₀ s₁ o₁ → Gave held faults seat second s₀ o₀ s₁ o₁
  Gave-same seat first second s₀ s₁ o₀ o₁ e f = subst (λ (signs : List (Option ℕ)). Gave held faults seat signs s₀ o₀ s₁ o₁) e f

  -- a piece that ends its client, and one that does not
  pub Gave-end : (seat : ℕ) (saying : Saying) (s₀ s₁ s₂ : S) (o₀ o₁ o₂ : Out) → saying.ends ≡ true → Gave held faults seat (map Some saying.bytes.items) s₀ o₀ s₁ o₁
      → Gave held faults seat (signs_in []) s₁ o₁ s₂ o₂ → Gave held faults seat (signs_told saying) s₀ o₀ s₂ o₂
  Gave-end seat saying s₀ s₁ s₂ o₀ o₁ o₂ ends f g =
      Gave-same seat (map Some saying.bytes.items ++ None ∷ []) (signs_told saying) s₀ s₂ o₀ o₂ (ap (λ (b : Bool). map Some saying.bytes.items ++ cond b (None ∷ []) []) (sym ends))
      (Gave-trans seat (map Some saying.bytes.items) (None ∷ []) s₀ s₁ s₂ o₀ o₁ o₂ f g)

  pub Gave-on : (seat : ℕ) (saying : Saying) (s₀ s₁ : S) (o₀ o₁ : Out) → saying.ends ≡ false → Gave held faults seat (map Some saying.bytes.items) s₀ o₀ s₁ o₁ → Gave held faults seat (signs_told saying) s₀ o₀ s₁ o₁
  Gave-on seat saying s₀ s₁ o₀ o₁ goes f =
      Gave-same seat (map Some saying.bytes.items) (signs_told saying) s₀ s₁ o₀ o₁
      (sym (append-nil (map Some saying.bytes.items)) ∙ ap (λ (b : Bool). map Some saying.bytes.items ++ cond b (None ∷ []) []) (sym goes)) f

  -- a piece more
  pub GaveBut-more : (seat : ℕ) (bytes rest piece behind : List ℕ) (s₀ s₁ s₂ : S) (o₀ o₁ o₂ : Out) → GaveBut held faults seat bytes rest s₀ o₀ s₁ o₁ → Gave held faults seat (signs_in piece) s₁ o₁ s₂ o₂
      → 0 < length piece → piece ++ behind ≡ rest → GaveBut held faults seat bytes behind s₀ o₀ s₂ o₂
  GaveBut-more seat bytes rest piece behind s₀ s₁ s₂ o₀ o₁ o₂ f g some parts =
      let both : Gave held faults seat (map Some f.done ++ signs_in piece) s₀ o₀ s₂ o₂ = Gave-trans seat (map Some f.done) (signs_in piece) s₀ s₁ s₂ o₀ o₁ o₂ f.gave g in record {
        done = f.done ++ piece;
        parts = append_assoc f.done piece behind ∙ ap (λ (l : List ℕ). f.done ++ l) parts ∙ f.parts;
        gave = Gave-same seat (map Some f.done ++ signs_in piece) (map Some (f.done ++ piece)) s₀ s₂ o₀ o₂
            (ap (λ (l : List (Option ℕ)). map Some f.done ++ l) (signs_of_bytes piece some) ∙ sym (map-append Some f.done piece)) both;
      }

  -- nothing was taken
  pub Wrote-none : (v : Hand Saying) (sink : S) (out : Out) → Wrote held faults v v sink out sink out
  Wrote-none v sink out = record {
    more = [];
    got = ap (λ (l : List (Came Saying)). let w : Hand Saying = record v { got = l } in w) (sym (append-nil v.got));
    frames = [];
    carry = record { can_be_written = All-nil (IsFrame 256); signs = λ n. refl };
    puts = Puts-none held faults sink out;
  }

  -- what was kept back is sent
  pub Wrote-sent : (v w : Hand Saying) (s₀ s₁ : S) (o₀ o₁ : Out) → w ≡ v → Puts held faults s₀ o₀ s₁ o₁ [] → Wrote held faults v w s₀ o₀ s₁ o₁
  Wrote-sent v w s₀ s₁ o₀ o₁ none puts = record {
    more = [];
    got = none ∙ ap (λ (l : List (Came Saying)). let x : Hand Saying = record v { got = l } in x) (sym (append-nil v.got));
    frames = [];
    carry = record { can_be_written = All-nil (IsFrame 256); signs = λ n. refl };
    puts = puts;
  }

  -- something was taken
  pub Wrote-one : (v w : Hand Saying) (came : Came Saying) (s₀ s₁ : S) (o₀ o₁ : Out) → w ≡ with_got v came → Gave held faults came.session (signs_told came.what) s₀ o₀ s₁ o₁ → Wrote held faults v w s₀ o₀ s₁ o₁
  Wrote-one v w came s₀ s₁ o₀ o₁ took f = record {
    more = came ∷ [];
    got = took;
    frames = f.frames;
    carry = record { can_be_written = f.can_be_written; signs = λ n. f.signed n ∙ told_one (came.session == n) came.what };
    puts = f.puts;
  }

  -- one after another
  pub Wrote-trans : (u v w : Hand Saying) (s₀ s₁ s₂ : S) (o₀ o₁ o₂ : Out) → Wrote held faults u v s₀ o₀ s₁ o₁ → Wrote held faults v w s₁ o₁ s₂ o₂ → Wrote held faults u w s₀ o₀ s₂ o₂
  Wrote-trans u v w s₀ s₁ s₂ o₀ o₁ o₂ f g = record {
    more = f.more ++ g.more;
    got = g.got ∙ ap (λ (x : Hand Saying). let y : Hand Saying = record x { got = x.got ++ g.more } in y) f.got
        ∙ ap (λ (l : List (Came Saying)). let y : Hand Saying = record u { got = l } in y) (append_assoc u.got f.more g.more);
    frames = f.frames ++ g.frames;
    carry = record {
      can_be_written = All-append (IsFrame 256) f.frames g.frames f.carry.can_be_written g.carry.can_be_written;
      signs = λ n.
          signs_of-append n f.frames g.frames ∙ ap (λ (l : List (Option ℕ)). l ++ signs_of n g.frames) (f.carry.signs n)
          ∙ ap (λ (l : List (Option ℕ)). all_told (what_of n f.more) ++ l) (g.carry.signs n) ∙ sym (told-append n f.more g.more);
    };
    puts = Puts-same {held = held} {faults = faults} (sym (flat_map-append frame_bytes f.frames g.frames)) (Puts-trans f.puts g.puts);
  }

-- what a writer gave out, and what it has written
pub ruleset write_laws = (Gave-none, Gave-frame, Gave-end, Gave-on, Wrote-none, Wrote-sent, Wrote-one, Wrote-trans, Puts-trans)
