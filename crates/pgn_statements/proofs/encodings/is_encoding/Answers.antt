use Rattle.std.proofs.Common.{◌≡◌, ℕ, Bool, true, ◌||◌, List, ◌++◌, ap, ◌∙◌}
use Rattle.std.specs.Prelude.{bytes_eq}
use Rattle.std.specs.List.{list_any}
use Rattle.std.proofs.lemmas.List.Folds.{list_any-append}
use Rattle.pgn_requests.specs.Values.{is_among, is_encoding, iso_encodings, latin_encodings, win_encodings, windows_encodings, other_encodings, more_encodings}
use Rattle.pgn_statements.specs.Choices.{is_same}
use Rattle.pgn_statements.specs.declared.encodings.TheConstants.{ENCODINGS}
use Rattle.pgn_statements.proofs.encodings.is_encoding.Goals as goal

both : (one other : List (List ℕ)) (letters : List ℕ) (told : Bool) → is_among one letters ≡ told → is_among (one ++ other) letters ≡ (told || is_among other letters)
both one other letters told e = list_any-append (λ name. bytes_eq name letters) one other ∙ ap (λ (b : Bool). b || is_among other letters) e

-- the table has the names of all lists, one list behind the other
all : (letters : List ℕ) → list_any (λ word. is_same true word.now letters) ENCODINGS ≡ is_encoding letters
all letters =
    both ((((iso_encodings ++ latin_encodings) ++ win_encodings) ++ windows_encodings) ++ other_encodings) more_encodings letters _
    (both (((iso_encodings ++ latin_encodings) ++ win_encodings) ++ windows_encodings) other_encodings letters _
    (both ((iso_encodings ++ latin_encodings) ++ win_encodings) windows_encodings letters _
    (both (iso_encodings ++ latin_encodings) win_encodings letters _ (list_any-append (λ name. bytes_eq name letters) iso_encodings latin_encodings))))

pub returns : goal.returns
returns c = c.is_among.ensures ∙ all c.args.letters.now
