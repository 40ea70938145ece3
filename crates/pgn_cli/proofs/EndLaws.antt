-- What stands on the errors' stream where a run has ended.
use Rattle.std.proofs.Common.{◌≡◌, ◌≢◌, ◌⊎◌, ◌+◌, ◌<◌, inl, inr, ℕ, List, [], ◌∷◌, ◌++◌, length, take, get_or, Option, Some, None, Result, Ok, Err, IfOk, IfSome, IsOkAnd, sym, ap, map, ◌∙◌, refl, subst, arith, append-nil}
use Rattle.std.proofs.lemmas.List.{map-append, map_more}
use Rattle.std.specs.Io.KnownBytes.{Appends}
use Rattle.pgn_base.specs.Outside.{AppendsPrefix, HasCause, Rose, Writes}
use Rattle.pgn_language.specs.declared.scenario.ScenarioFault.{ScenarioFault}
use Rattle.pgn_queries.specs.declared.wire_fault.WireFault.{WireFault}
use Rattle.pgn_language.specs.Inputs.{ReadsAsScenario}
use Rattle.pgn_check.specs.declared.check.Verdict.TheVariants as verdict
use Rattle.pgn_model.specs.Walk.{Settings}
use Rattle.pgn_run.specs.Checking.{HasFault, IsJudged, verdict_text}
use Rattle.pgn_service.specs.Conversation.{BreaksOff}
use Rattle.pgn_run.specs.declared.status.Status.{Status}
use Rattle.pgn_run.specs.declared.status.Status.TheVariants.{Done, BadWords, BadScenario, ReadFault, WriteFault, NoMemory, BadWire, Illegal, NoOutput, CheckTooLarge, BadFrame}
use Rattle.pgn_frames.specs.declared.frame_fault.FrameFault.{FrameFault}
use Rattle.pgn_run.specs.Run.{code_of}
use Rattle.pgn_service.proofs.ConversationLaws.{unopened-known}
use Rattle.pgn_cli.specs.declared.arguments.NoWords.{NoWords}
use Rattle.pgn_cli.specs.declared.arguments.NoWords.TheVariants.{Memory, NotText}
use Rattle.pgn_cli.specs.FaultLine.{fault_text}
use Rattle.pgn_cli.specs.Program.{Comes, IsFaulty, IsRefused, NamesFault, NamesWireFault, SaysBadFrame, SaysIllegal, ServesUpTo, texts_of}

-- a whole text is a prefix of itself
whole-prefix : (old new : Option (List ℕ)) (text : List ℕ) → Appends old new text → AppendsPrefix old new text
whole-prefix None new text h = tt
whole-prefix (Some xs) None text h = absurd h
whole-prefix (Some xs) (Some ys) text h = (text, [], sym (append-nil text), h)

-- of a text that was written, or that failed, a prefix was
pub written-prefix : {T E : Type 0} (old new : Option (List ℕ)) (result : Result T E) (text : List ℕ) → Writes old new result text → AppendsPrefix old new text
written-prefix old new (Ok x) text h = whole-prefix old new text h
written-prefix old new (Err e) text h = h

-- where no fault was counted, all of it was
pub written-whole : {T E : Type 0} (old new : Option (List ℕ)) (before now : ℕ) (result : Result T E) (text : List ℕ) → Writes old new result text → HasCause before now result → ¬ Rose before now → Appends old new text
written-whole old new before now (Ok x) text h cause none = h
written-whole old new before now (Err e) text h cause none = absurd (none cause.failed)

-- what holds of the texts of words that are there holds of the words
pub of-ok-and : {T : Type 0} (words : Result T NoWords) (of : T → List (List ℕ)) (P : List (List ℕ) → Type 0) → IsOkAnd (texts_of words of) P → IsOkAnd words (λ w. P (of w))
of-ok-and (Ok w) of P h = h
of-ok-and (Err why) of P h = h

-- and what holds of the texts, if they are there, holds of the words
pub of-if-ok : {T : Type 0} (words : Result T NoWords) (of : T → List (List ℕ)) (P : List (List ℕ) → Type 0) → IfOk (texts_of words of) P → IfOk words (λ w. P (of w))
of-if-ok (Ok w) of P h = h
of-if-ok (Err why) of P h = h

-- and what holds of the words holds of their texts
pub to-if-ok : {T : Type 0} (words : Result T NoWords) (of : T → List (List ℕ)) (P : List (List ℕ) → Type 0) → IfOk words (λ w. P (of w)) → IfOk (texts_of words of) P
to-if-ok (Ok w) of P h = h
to-if-ok (Err why) of P h = h

-- what holds of all words holds of those that are there
if-any : {T E : Type 0} (words : Result T E) (P : T → Type 0) → ((w : T) → P w) → IfOk words P
if-any (Ok w) P h = h w
if-any (Err e) P h = tt

-- what words come to where memory does not suffice before they are read
pub comes-to_no_memory : (words : Result (List (List ℕ)) NoWords) (left held : Option (List ℕ)) (read wrote : ℕ) → (words ≢ Err NotText) → Comes words left read read held held wrote wrote NoMemory
comes-to_no_memory words left held read wrote text = record {
  done = λ e. absurd (cc);
  bad_scenario = λ fault e. absurd (cc);
  bad_wire = λ fault e. absurd (cc);
  bad_frame = λ fault e. absurd (cc);
  illegal = λ line e. absurd (cc);
  no_output = λ e. absurd (cc);
  check_too_large = λ e. absurd (cc);
  read_fault = λ e. absurd (cc);
  read_fault_where_due = λ served rose. absurd (omega (arith, rose));
  read_fault_where_served = if-any words _ (λ w ask rose. absurd (omega (arith, rose)));
  write_fault = λ e. absurd (cc);
  write_fault_where_due = λ rose. absurd (omega (arith, rose));
  write_fault_writes_a_prefix = λ e. absurd (cc);
  refused_writes_nothing = λ refused. refl;
  read_fault_writes_nothing = λ other served e. refl;
  read_fault_writes_answers = if-any words _ (λ w ask e. absurd (cc));
  read_fault_writes_what_was_told = if-any words _ (λ w e. absurd (cc));
  no_memory_writes_nothing = λ once other served e. refl;
  no_memory_writes_first_lines = if-any words _ (λ w ask e. inl refl);
  no_memory_writes_whole_answers = if-any words _ (λ w ask e. unopened-known left held);
  no_memory_writes_whole_turns = if-any words _ (λ w e ask. inl refl);
  no_memory = λ e. refl;
  not_text = λ e. absurd (text e);
  right_words = if-any words _ (λ w e. absurd (cc));
  other_words = if-any words _ (λ w other memory. absurd (memory refl));
}

-- what they come to where one of them is no text
comes-to_bad_words : (left held : Option (List ℕ)) (read wrote : ℕ) → Comes (Err NotText) left read read held held wrote wrote BadWords
comes-to_bad_words left held read wrote = record {
  done = λ e. absurd (cc);
  bad_scenario = λ fault e. absurd (cc);
  bad_wire = λ fault e. absurd (cc);
  bad_frame = λ fault e. absurd (cc);
  illegal = λ line e. absurd (cc);
  no_output = λ e. absurd (cc);
  check_too_large = λ e. absurd (cc);
  read_fault = λ e. absurd (cc);
  read_fault_where_due = λ served rose. absurd (omega (arith, rose));
  read_fault_where_served = tt;
  write_fault = λ e. absurd (cc);
  write_fault_where_due = λ rose. absurd (omega (arith, rose));
  write_fault_writes_a_prefix = λ e. absurd (cc);
  refused_writes_nothing = λ refused. refl;
  read_fault_writes_nothing = λ other served e. refl;
  read_fault_writes_answers = tt;
  read_fault_writes_what_was_told = tt;
  no_memory_writes_nothing = λ once other served e. refl;
  no_memory_writes_first_lines = tt;
  no_memory_writes_whole_answers = tt;
  no_memory_writes_whole_turns = tt;
  no_memory = λ e. absurd (cc);
  not_text = λ e. refl;
  right_words = tt;
  other_words = tt;
}

-- of words for which memory did not suffice none is known to be no text
pub no-text : {T : Type 0} (words : Result T NoWords) (of : T → List (List ℕ)) → words ≡ Err Memory → (texts_of words of ≢ Err NotText)
no-text words of is e = let both = sym (ap (λ r. texts_of r of) is) ∙ e in absurd (cc)

-- and words of which one is none come to what is said of such
pub bad-words-come : {T : Type 0} (words : Result T NoWords) (of : T → List (List ℕ)) (left held : Option (List ℕ)) (read wrote : ℕ) → words ≡ Err NotText
    → Comes (texts_of words of) left read read held held wrote wrote BadWords
bad-words-come words of left held read wrote is =
    subst (λ (r : Result (List (List ℕ)) NoWords). Comes r left read read held held wrote wrote BadWords) (sym (ap (λ r. texts_of r of) is)) (comes-to_bad_words left held read wrote)

-- what the texts of words come to the words come to
pub comes-of : {T : Type 0} (words : Result T NoWords) (of : T → List (List ℕ)) (w : T) (texts : List (List ℕ)) (left : Option (List ℕ)) (read read_now : ℕ) (held now : Option (List ℕ)) (wrote wrote_now : ℕ) (status : Status)
    → words ≡ Ok w → texts ≡ of w → Comes (Ok texts) left read read_now held now wrote wrote_now status → Comes (texts_of words of) left read read_now held now wrote wrote_now status
comes-of words of w texts left read read_now held now wrote wrote_now status is same h =
    subst (λ (r : Result (List (List ℕ)) NoWords). Comes r left read read_now held now wrote wrote_now status) (ap Ok same ∙ sym (ap (λ r. texts_of r of) is)) h

-- words that are lent piece by piece are the same
pub lent-words : {A : Type 0} (now : A → List ℕ) (slice texts : List A) (words : List (List ℕ)) → slice ≡ texts → map now texts ≡ words → map now slice ≡ words
lent-words {A} now slice texts words e f = ap (λ (xs : List A). map now xs) e ∙ f

-- one word more is lent
pub texts-more : {A B : Type 0} (now : A → List ℕ) (bytes : B → List ℕ) (old new : List A) (text : A) (words : List B) (i : ℕ) (word : B) → map now old ≡ map bytes (take i words) → new ≡ old ++ text ∷ []
    → now text ≡ bytes word → i < length words → word ≡ get_or words i word → map now new ≡ map bytes (take (i + 1) words)
texts-more {A} {B} now bytes old new text words i word h e f less is =
    ap (λ (xs : List A). map now xs) e ∙ map-append now old (text ∷ []) ∙ ap (λ (bs : List (List ℕ)). bs ++ now text ∷ []) h
    ∙ ap (λ (b : List ℕ). map bytes (take i words) ++ b ∷ []) (f ∙ ap bytes is) ∙ sym (map_more bytes words i word less)

-- other words end with the status of wrong words, unless memory did not suffice
pub code-of_words : {T E : Type 0} (words : Result T E) (AreOther : T → Type 0) (status : Status) (code : ℕ) → code ≡ code_of status
    → IfOk words (λ (w : T). AreOther w → status ≢ NoMemory → status ≡ BadWords) → IfOk words (λ (w : T). AreOther w → code ≢ 6 → code ≡ 2)
code-of_words (Ok w) AreOther status code is h = λ other memory. is ∙ ap code_of (h other (λ short. memory (is ∙ ap code_of short)))
code-of_words (Err e) AreOther status code is h = h

-- the status of a scenario's fault names it
pub names-fault : (left old new : Option (List ℕ)) (status : Status) (code : ℕ) → code ≡ code_of status → AppendsPrefix old new (fault_text status)
    → ((fault : ScenarioFault) → status ≡ BadScenario fault → IfSome left (λ input. IsFaulty input fault)) → code ≡ 3 → IfSome left (NamesFault old new)
names-fault None old new status code is line reads three = tt
names-fault (Some input) old new Done code is line reads three = absurd (omega (arith, is, three))
names-fault (Some input) old new BadWords code is line reads three = absurd (omega (arith, is, three))
names-fault (Some input) old new (BadScenario fault) code is line reads three = record { fault = fault; faulty = reads fault refl; line = line }
names-fault (Some input) old new ReadFault code is line reads three = absurd (omega (arith, is, three))
names-fault (Some input) old new WriteFault code is line reads three = absurd (omega (arith, is, three))
names-fault (Some input) old new NoMemory code is line reads three = absurd (omega (arith, is, three))
names-fault (Some input) old new (BadWire fault) code is line reads three = absurd (omega (arith, is, three))
names-fault (Some input) old new (Illegal n) code is line reads three = absurd (omega (arith, is, three))
names-fault (Some input) old new NoOutput code is line reads three = absurd (omega (arith, is, three))
names-fault (Some input) old new CheckTooLarge code is line reads three = absurd (omega (arith, is, three))
names-fault (Some input) old new (BadFrame found) code is line reads three = absurd (omega (arith, is, three))

-- and so does that of a client's
pub names-wire : (Asked : Type 0) (left held now old new : Option (List ℕ)) (status : Status) (code : ℕ) → code ≡ code_of status → AppendsPrefix old new (fault_text status)
    → ((fault : WireFault) → status ≡ BadWire fault → Asked × IfSome left (λ bytes. BreaksOff bytes fault (Appends held now))) → code ≡ 10 → Asked × IfSome left (NamesWireFault held now old new)
names-wire Asked left held now old new Done code is line breaks ten = absurd (omega (arith, is, ten))
names-wire Asked left held now old new BadWords code is line breaks ten = absurd (omega (arith, is, ten))
names-wire Asked left held now old new (BadScenario fault) code is line breaks ten = absurd (omega (arith, is, ten))
names-wire Asked left held now old new ReadFault code is line breaks ten = absurd (omega (arith, is, ten))
names-wire Asked left held now old new WriteFault code is line breaks ten = absurd (omega (arith, is, ten))
names-wire Asked left held now old new NoMemory code is line breaks ten = absurd (omega (arith, is, ten))
names-wire Asked left held now old new (Illegal n) code is line breaks ten = absurd (omega (arith, is, ten))
names-wire Asked left held now old new NoOutput code is line breaks ten = absurd (omega (arith, is, ten))
names-wire Asked left held now old new CheckTooLarge code is line breaks ten = absurd (omega (arith, is, ten))
names-wire Asked left held now old new (BadFrame found) code is line breaks ten = absurd (omega (arith, is, ten))
names-wire Asked None held now old new (BadWire fault) code is line breaks ten = ((breaks fault refl).0, tt)
names-wire Asked (Some bytes) held now old new (BadWire fault) code is line breaks ten =
    let broke = breaks fault refl in
    (broke.0, record { fault = fault; breaks_off = broke.1; line = line })

-- words that are no command, an input that is no scenario, and one that cannot be checked have written nothing
pub refused-keeps : (old new : Option (List ℕ)) (status : Status) → (status ≡ BadWords → new ≡ old) → ((fault : ScenarioFault) → status ≡ BadScenario fault → new ≡ old)
    → (status ≡ NoOutput → new ≡ old) → (status ≡ CheckTooLarge → new ≡ old) → IsRefused status → new ≡ old
refused-keeps old new Done words scenario none large refused = absurd refused
refused-keeps old new BadWords words scenario none large refused = words refl
refused-keeps old new (BadScenario fault) words scenario none large refused = scenario fault refl
refused-keeps old new ReadFault words scenario none large refused = absurd refused
refused-keeps old new WriteFault words scenario none large refused = absurd refused
refused-keeps old new NoMemory words scenario none large refused = absurd refused
refused-keeps old new (BadWire fault) words scenario none large refused = absurd refused
refused-keeps old new (Illegal line) words scenario none large refused = absurd refused
refused-keeps old new NoOutput words scenario none large refused = none refl
refused-keeps old new CheckTooLarge words scenario none large refused = large refl
refused-keeps old new (BadFrame fault) words scenario none large refused = absurd refused

-- a code that is another than these four
four-codes : (n code : ℕ) → code ≡ n → n ≢ 2 → n ≢ 3 → n ≢ 9 → n ≢ 11 → (code ≡ 2) ⊎ (code ≡ 3) ⊎ (code ≡ 9) ⊎ (code ≡ 11) → ⊥
four-codes n code is a b c d some = elim some [
  | inl e ↦ a (sym is ∙ e)
  | inr more ↦ elim more [
    | inl e ↦ b (sym is ∙ e)
    | inr rest ↦ elim rest [ inl e ↦ c (sym is ∙ e) | inr e ↦ d (sym is ∙ e) ]
  ]
]

-- the status of what has written nothing
pub refused-code : (status : Status) (code : ℕ) → code ≡ code_of status → (code ≡ 2) ⊎ (code ≡ 3) ⊎ (code ≡ 9) ⊎ (code ≡ 11) → IsRefused status
refused-code BadWords code is some = tt
refused-code (BadScenario found) code is some = tt
refused-code NoOutput code is some = tt
refused-code CheckTooLarge code is some = tt
refused-code (BadFrame found) code is some = absurd (four-codes 12 code is (omega arith) (omega arith) (omega arith) (omega arith) some)
refused-code Done code is some = absurd (four-codes 0 code is (omega arith) (omega arith) (omega arith) (omega arith) some)
refused-code ReadFault code is some = absurd (four-codes 4 code is (omega arith) (omega arith) (omega arith) (omega arith) some)
refused-code WriteFault code is some = absurd (four-codes 5 code is (omega arith) (omega arith) (omega arith) (omega arith) some)
refused-code NoMemory code is some = absurd (four-codes 6 code is (omega arith) (omega arith) (omega arith) (omega arith) some)
refused-code (BadWire found) code is some = absurd (four-codes 10 code is (omega arith) (omega arith) (omega arith) (omega arith) some)
refused-code (Illegal line) code is some = absurd (four-codes 8 code is (omega arith) (omega arith) (omega arith) (omega arith) some)

-- the status of a run that is done
pub done-code : (status : Status) (code : ℕ) → code ≡ code_of status → code ≡ 0 → status ≡ Done
done-code Done code is zero = refl
done-code BadWords code is zero = absurd (omega (arith, is, zero))
done-code (BadScenario found) code is zero = absurd (omega (arith, is, zero))
done-code ReadFault code is zero = absurd (omega (arith, is, zero))
done-code WriteFault code is zero = absurd (omega (arith, is, zero))
done-code NoMemory code is zero = absurd (omega (arith, is, zero))
done-code (BadWire found) code is zero = absurd (omega (arith, is, zero))
done-code (Illegal line) code is zero = absurd (omega (arith, is, zero))
done-code NoOutput code is zero = absurd (omega (arith, is, zero))
done-code CheckTooLarge code is zero = absurd (omega (arith, is, zero))
done-code (BadFrame found) code is zero = absurd (omega (arith, is, zero))

-- the status of words that are no command
pub bad-words-code : (status : Status) (code : ℕ) → code ≡ code_of status → code ≡ 2 → status ≡ BadWords
bad-words-code Done code is two = absurd (omega (arith, is, two))
bad-words-code BadWords code is two = refl
bad-words-code (BadScenario found) code is two = absurd (omega (arith, is, two))
bad-words-code ReadFault code is two = absurd (omega (arith, is, two))
bad-words-code WriteFault code is two = absurd (omega (arith, is, two))
bad-words-code NoMemory code is two = absurd (omega (arith, is, two))
bad-words-code (BadWire found) code is two = absurd (omega (arith, is, two))
bad-words-code (Illegal line) code is two = absurd (omega (arith, is, two))
bad-words-code NoOutput code is two = absurd (omega (arith, is, two))
bad-words-code CheckTooLarge code is two = absurd (omega (arith, is, two))
bad-words-code (BadFrame found) code is two = absurd (omega (arith, is, two))

-- the status of a read that failed
pub read-fault-code : (status : Status) (code : ℕ) → code ≡ code_of status → code ≡ 4 → status ≡ ReadFault
read-fault-code Done code is four = absurd (omega (arith, is, four))
read-fault-code BadWords code is four = absurd (omega (arith, is, four))
read-fault-code (BadScenario found) code is four = absurd (omega (arith, is, four))
read-fault-code ReadFault code is four = refl
read-fault-code WriteFault code is four = absurd (omega (arith, is, four))
read-fault-code NoMemory code is four = absurd (omega (arith, is, four))
read-fault-code (BadWire found) code is four = absurd (omega (arith, is, four))
read-fault-code (Illegal line) code is four = absurd (omega (arith, is, four))
read-fault-code NoOutput code is four = absurd (omega (arith, is, four))
read-fault-code CheckTooLarge code is four = absurd (omega (arith, is, four))
read-fault-code (BadFrame found) code is four = absurd (omega (arith, is, four))

-- the status of a write that failed
pub write-fault-code : (status : Status) (code : ℕ) → code ≡ code_of status → code ≡ 5 → status ≡ WriteFault
write-fault-code Done code is five = absurd (omega (arith, is, five))
write-fault-code BadWords code is five = absurd (omega (arith, is, five))
write-fault-code (BadScenario found) code is five = absurd (omega (arith, is, five))
write-fault-code ReadFault code is five = absurd (omega (arith, is, five))
write-fault-code WriteFault code is five = refl
write-fault-code NoMemory code is five = absurd (omega (arith, is, five))
write-fault-code (BadWire found) code is five = absurd (omega (arith, is, five))
write-fault-code (Illegal line) code is five = absurd (omega (arith, is, five))
write-fault-code NoOutput code is five = absurd (omega (arith, is, five))
write-fault-code CheckTooLarge code is five = absurd (omega (arith, is, five))
write-fault-code (BadFrame found) code is five = absurd (omega (arith, is, five))

-- the status of want of memory
pub memory-code : (status : Status) (code : ℕ) → code ≡ code_of status → code ≡ 6 → status ≡ NoMemory
memory-code Done code is six = absurd (omega (arith, is, six))
memory-code BadWords code is six = absurd (omega (arith, is, six))
memory-code (BadScenario found) code is six = absurd (omega (arith, is, six))
memory-code ReadFault code is six = absurd (omega (arith, is, six))
memory-code WriteFault code is six = absurd (omega (arith, is, six))
memory-code NoMemory code is six = refl
memory-code (BadWire found) code is six = absurd (omega (arith, is, six))
memory-code (Illegal line) code is six = absurd (omega (arith, is, six))
memory-code NoOutput code is six = absurd (omega (arith, is, six))
memory-code CheckTooLarge code is six = absurd (omega (arith, is, six))
memory-code (BadFrame found) code is six = absurd (omega (arith, is, six))

-- what words ask for, where that status says what they have come to
pub memory-lines : {T E : Type 0} (words : Result T E) (Asks : T → Type 0) (P : (t : T) → Asks t → Type 0) (status : Status) (code : ℕ) → code ≡ code_of status
    → IfOk words (λ (w : T). (ask : Asks w) → status ≡ NoMemory → P w ask) → IfOk words (λ (w : T). (ask : Asks w) → code ≡ 6 → P w ask)
memory-lines (Ok w) Asks P status code is h = λ ask six. h ask (memory-code status code is six)
memory-lines (Err e) Asks P status code is h = h

-- what a read fault says by its status it says by the exit status 4
pub read-lines : {T E : Type 0} (words : Result T E) (Asks : T → Type 0) (P : (t : T) → Asks t → Type 0) (status : Status) (code : ℕ) → code ≡ code_of status
    → IfOk words (λ (w : T). (ask : Asks w) → status ≡ ReadFault → P w ask) → IfOk words (λ (w : T). (ask : Asks w) → code ≡ 4 → P w ask)
read-lines (Ok w) Asks P status code is h = λ ask four. h ask (read-fault-code status code is four)
read-lines (Err e) Asks P status code is h = h

-- the status of an output that is not legal
pub illegal-code : (status : Status) (code : ℕ) → code ≡ code_of status → code ≡ 8 → (line : ℕ) × (status ≡ Illegal line)
illegal-code Done code is eight = absurd (omega (arith, is, eight))
illegal-code BadWords code is eight = absurd (omega (arith, is, eight))
illegal-code (BadScenario found) code is eight = absurd (omega (arith, is, eight))
illegal-code ReadFault code is eight = absurd (omega (arith, is, eight))
illegal-code WriteFault code is eight = absurd (omega (arith, is, eight))
illegal-code NoMemory code is eight = absurd (omega (arith, is, eight))
illegal-code (BadWire found) code is eight = absurd (omega (arith, is, eight))
illegal-code (Illegal line) code is eight = (line, refl)
illegal-code NoOutput code is eight = absurd (omega (arith, is, eight))
illegal-code CheckTooLarge code is eight = absurd (omega (arith, is, eight))
illegal-code (BadFrame found) code is eight = absurd (omega (arith, is, eight))

-- of an input without an output part
pub no-output-code : (status : Status) (code : ℕ) → code ≡ code_of status → code ≡ 9 → status ≡ NoOutput
no-output-code Done code is nine = absurd (omega (arith, is, nine))
no-output-code BadWords code is nine = absurd (omega (arith, is, nine))
no-output-code (BadScenario found) code is nine = absurd (omega (arith, is, nine))
no-output-code ReadFault code is nine = absurd (omega (arith, is, nine))
no-output-code WriteFault code is nine = absurd (omega (arith, is, nine))
no-output-code NoMemory code is nine = absurd (omega (arith, is, nine))
no-output-code (BadWire found) code is nine = absurd (omega (arith, is, nine))
no-output-code (Illegal line) code is nine = absurd (omega (arith, is, nine))
no-output-code NoOutput code is nine = refl
no-output-code CheckTooLarge code is nine = absurd (omega (arith, is, nine))
no-output-code (BadFrame found) code is nine = absurd (omega (arith, is, nine))

-- of one that is too large to be checked
pub too-large-code : (status : Status) (code : ℕ) → code ≡ code_of status → code ≡ 11 → status ≡ CheckTooLarge
too-large-code Done code is eleven = absurd (omega (arith, is, eleven))
too-large-code BadWords code is eleven = absurd (omega (arith, is, eleven))
too-large-code (BadScenario found) code is eleven = absurd (omega (arith, is, eleven))
too-large-code ReadFault code is eleven = absurd (omega (arith, is, eleven))
too-large-code WriteFault code is eleven = absurd (omega (arith, is, eleven))
too-large-code NoMemory code is eleven = absurd (omega (arith, is, eleven))
too-large-code (BadWire found) code is eleven = absurd (omega (arith, is, eleven))
too-large-code (Illegal line) code is eleven = absurd (omega (arith, is, eleven))
too-large-code NoOutput code is eleven = absurd (omega (arith, is, eleven))
too-large-code CheckTooLarge code is eleven = refl
too-large-code (BadFrame found) code is eleven = absurd (omega (arith, is, eleven))

-- where the fault of an input may lie
pub faulty-either : (left : Option (List ℕ)) (fault : ScenarioFault) (A B : Type 0) → (A × IfSome left (λ input. ReadsAsScenario input (Err fault))) ⊎ (B × IfSome left (λ input. HasFault input fault))
    → IfSome left (λ input. IsFaulty input fault)
faulty-either None fault A B h = tt
faulty-either (Some input) fault A B h = elim h [ inl run ↦ inl run.1 | inr check ↦ inr check.1 ]

-- what is said of an output that is not legal
pub says-illegal : (settings : Settings) (left old new : Option (List ℕ)) (line : ℕ)
    → IfSome left (λ input. IsJudged settings input (verdict.Illegal line) × Appends old new (verdict_text (verdict.Illegal line))) → IfSome left (SaysIllegal settings old new)
says-illegal settings None old new line h = tt
says-illegal settings (Some input) old new line h = record { line = line; judged = h.0; output = h.1 }

-- of frames that are at fault
frame-code : (status : Status) (code : ℕ) → code ≡ code_of status → code ≡ 12 → (fault : FrameFault) × (status ≡ BadFrame fault)
frame-code Done code is twelve = absurd (omega (arith, is, twelve))
frame-code BadWords code is twelve = absurd (omega (arith, is, twelve))
frame-code (BadScenario found) code is twelve = absurd (omega (arith, is, twelve))
frame-code ReadFault code is twelve = absurd (omega (arith, is, twelve))
frame-code WriteFault code is twelve = absurd (omega (arith, is, twelve))
frame-code NoMemory code is twelve = absurd (omega (arith, is, twelve))
frame-code (BadWire found) code is twelve = absurd (omega (arith, is, twelve))
frame-code (Illegal line) code is twelve = absurd (omega (arith, is, twelve))
frame-code NoOutput code is twelve = absurd (omega (arith, is, twelve))
frame-code CheckTooLarge code is twelve = absurd (omega (arith, is, twelve))
frame-code (BadFrame fault) code is twelve = (fault, refl)

-- it names the fault
frame-said : (words : List (List ℕ)) (fault : FrameFault) (left held now old new : Option (List ℕ)) → AppendsPrefix old new (fault_text (BadFrame fault)) → ServesUpTo words fault left held now
    → SaysBadFrame words left held now old new
frame-said words fault None held now old new line served = (served.0, tt)
frame-said words fault (Some bytes) held now old new line served = (served.0, record { fault = fault; served = served.1; line = line })

frame-at : {T E : Type 0} (r : Result T E) (of : T → List (List ℕ)) (fault : FrameFault) (left held now old new : Option (List ℕ)) → AppendsPrefix old new (fault_text (BadFrame fault))
    → IsOkAnd r (λ (w : T). ServesUpTo (of w) fault left held now) → IsOkAnd r (λ (w : T). SaysBadFrame (of w) left held now old new)
frame-at (Ok w) of fault left held now old new line served = frame-said (of w) fault left held now old new line served
frame-at (Err e) of fault left held now old new line served = absurd served

-- a frame fault that was served up to and written on the line of errors is what the exit status 12 says
pub names-frame : {T E : Type 0} (words : Result T E) (of : T → List (List ℕ)) (left held now old new : Option (List ℕ)) (status : Status) (code : ℕ) → code ≡ code_of status → AppendsPrefix old new (fault_text status)
    → ((fault : FrameFault) → status ≡ BadFrame fault → IsOkAnd words (λ (w : T). ServesUpTo (of w) fault left held now)) → code ≡ 12 → IsOkAnd words (λ (w : T). SaysBadFrame (of w) left held now old new)
names-frame words of left held now old new status code is line serves twelve =
    let found = frame-code status code is twelve in
    frame-at words of found.0 left held now old new (subst (λ (s : Status). AppendsPrefix old new (fault_text s)) found.1 line) (serves found.0 found.1)

-- what that status says of words that are there
pub if-read : {T E : Type 0} (words : Result T E) (P : T → Type 0) (status : Status) (code : ℕ) → code ≡ code_of status
    → IfOk words (λ (w : T). status ≡ ReadFault → P w) → IfOk words (λ (w : T). code ≡ 4 → P w)
if-read (Ok w) P status code is h = λ four. h (read-fault-code status code is four)
if-read (Err e) P status code is h = h

-- what words that are no command say by their status they say by the exit status 2
pub if-bad : {T E : Type 0} (words : Result T E) (P : T → Type 0) (status : Status) (code : ℕ) → code ≡ code_of status
    → IfOk words (λ (w : T). status ≡ BadWords → P w) → IfOk words (λ (w : T). code ≡ 2 → P w)
if-bad (Ok w) P status code is h = λ two. h (bad-words-code status code is two)
if-bad (Err e) P status code is h = h

-- what want of memory says by its status it says by the exit status 6
pub if-memory : {T E : Type 0} (words : Result T E) (P : T → Type 0) (status : Status) (code : ℕ) → code ≡ code_of status
    → IfOk words (λ (w : T). status ≡ NoMemory → P w) → IfOk words (λ (w : T). code ≡ 6 → P w)
if-memory (Ok w) P status code is h = λ six. h (memory-code status code is six)
if-memory (Err e) P status code is h = h

-- one of three statuses
pub served-codes : {T E : Type 0} (words : Result T E) (Asks : T → Type 0) (R : Type 0) (status : Status) (code : ℕ) → code ≡ code_of status
    → IfOk words (λ (w : T). Asks w → R → (status ≡ ReadFault) ⊎ (status ≡ WriteFault) ⊎ (status ≡ NoMemory)) → IfOk words (λ (w : T). Asks w → R → (code ≡ 4) ⊎ (code ≡ 5) ⊎ (code ≡ 6))
served-codes (Ok w) Asks R status code is h = λ ask rose. elim (h ask rose) [
  | inl e ↦ inl (is ∙ ap code_of e)
  | inr more ↦ elim more [ inl e ↦ inr (inl (is ∙ ap code_of e)) | inr e ↦ inr (inr (is ∙ ap code_of e)) ]
]
served-codes (Err e) Asks R status code is h = h
