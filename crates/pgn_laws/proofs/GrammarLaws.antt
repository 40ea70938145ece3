-- Laws of the grammar.
use Rattle.std.proofs.Common.{◌≡◌, ℕ, true, false, inl, inr, List, [], ◌∷◌, ◌++◌, sym, refl, ◌≢◌}
use Rattle.std.proofs.lemmas.Bool.{false≢true, and_parts, or_cases, both_ways}
use Rattle.pgn_base.specs.declared.command.Command.{Command}
use Rattle.pgn_base.specs.declared.command.Command.TheVariants as command
use Rattle.pgn_language.specs.Tokens.{Lexeme, Wrong}
use Rattle.pgn_language.specs.Grammar.{Slot, Key, Name, Quote, Count, Punct, fits_slot, Form, table, BeginsForm, ReadsAs, prefix_fits, begin_one, reading}
use Rattle.pgn_language.proofs.GrammarLaws.{begin_one-front, begins-computes, reads-computes, reading-reads}

-- a text has a reading, and no other one
pub one-reading : (text : List ℕ) → (command : Command) × ReadsAs text command × ((other : Command) → ReadsAs text other → other ≡ command)
one-reading text = (reading text, reading-reads text, λ other h. sym (reads-computes text other h))

-- the front of tokens that begin a form begins one
pub front-begins : (front rest : List Lexeme) → BeginsForm (front ++ rest) → BeginsForm front
front-begins front rest h = (begins-computes front).1 (begin_one-front table front rest ((begins-computes (front ++ rest)).0 h))

wrong-fits_slot : (slot : Slot) → fits_slot slot Wrong ≡ false
wrong-fits_slot (Key word) = refl
wrong-fits_slot Name = refl
wrong-fits_slot Quote = refl
wrong-fits_slot Count = refl
wrong-fits_slot (Punct sign) = refl

wrong-front : (slots : List Slot) (front rest : List Lexeme) → prefix_fits slots (front ++ Wrong ∷ rest) ≡ true → ⊥
wrong-front [] [] rest h = false≢true h
wrong-front [] (t ∷ front) rest h = false≢true h
wrong-front (p ∷ ps) [] rest h = both_ways (fits_slot p Wrong) (wrong-fits_slot p) (and_parts _ _ h).0
wrong-front (p ∷ ps) (t ∷ front) rest h = wrong-front ps front rest (and_parts _ _ h).1

wrong-one : (forms : List Form) (front rest : List Lexeme) → begin_one forms (front ++ Wrong ∷ rest) ≡ true → ⊥
wrong-one [] front rest h = false≢true h
wrong-one (form ∷ forms) front rest h = elim (or_cases (prefix_fits form.slots (front ++ Wrong ∷ rest)) (begin_one forms (front ++ Wrong ∷ rest)) h) [
  | inl e ↦ wrong-front form.slots front rest e
  | inr e ↦ wrong-one forms front rest e
]

-- tokens with a wrong one among them begin no form
pub wrong-fits_nowhere : (front rest : List Lexeme) → BeginsForm (front ++ Wrong ∷ rest) → ⊥
wrong-fits_nowhere front rest h = wrong-one table front rest ((begins-computes (front ++ Wrong ∷ rest)).0 h)
