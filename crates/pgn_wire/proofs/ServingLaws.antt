-- A client that is served, a query at a time.
use Rattle.std.proofs.Common.{◌≡◌, ℕ, ◌+◌, ◌<◌, ◌≤◌, ◌⊎◌, inl, inr, Bool, true, false, List, [], ◌∷◌, ◌++◌, length, Option, Some, None, IfSome, Result, Ok, Err, sym, ap, ◌∙◌, subst, refl, arith, append_assoc, append-nil}
use Rattle.std.proofs.lemmas.Bool.{cases_lt}
use Rattle.std.specs.Io.KnownBytes.{Appends}
use Rattle.pgn_base.specs.declared.command.Command.TheVariants.{Bad as BadCommand}
use Rattle.pgn_language.specs.declared.scenario.ScriptLine.{ScriptLine}
use Rattle.pgn_language.specs.declared.scenario.Section.{Section}
use Rattle.pgn_language.specs.Inputs.{note_lines_of}
use Rattle.pgn_model.specs.declared.item.Item.{Item}
use Rattle.pgn_hub.specs.Shape.{Shape}
use Rattle.pgn_session.specs.declared.session.Session.{Session}
use Rattle.pgn_session.specs.Standing.{IsServedBy}
use Rattle.pgn_session.specs.Feed.{EndsByQuit, fed}
use Rattle.pgn_session.proofs.FeedLaws.{fed-split}
use Rattle.pgn_session.proofs.OpenLaws.{begins-open, fed-runs_served, notes-fed, same-client}
use Rattle.pgn_session.proofs.LineTakenLaws.{line-open}
use Rattle.pgn_messages.specs.Messages.{messages}
use Rattle.pgn_queries.specs.declared.limits.TheConstants.{QUERIES_MAX}
use Rattle.pgn_queries.specs.declared.wire_fault.WireFault.{WireFault}
use Rattle.pgn_queries.specs.Client.{OfKnown}
use Rattle.pgn_queries.specs.Queries as asked
use Rattle.pgn_queries.specs.Queries.{Gives, HasPassed, IsLineOf, Place, QueriesAre, first_place, note_of, queries}
use Rattle.pgn_queries.proofs.EachLaws.{each_has_reading}
use Rattle.pgn_wire.specs.declared.wire_end.WireEnd.{WireEnd}
use Rattle.pgn_wire.specs.declared.wire_end.WireEnd.TheVariants.{Bad, Read, Write, Memory}
use Rattle.pgn_session.specs.Open.{BeginsEmpty, IsFedOrNot, IsOpen, IsSameClient, RunsCommand}
use Rattle.pgn_wire.specs.Serving.{AsksAll, AsksFirst, HasAsked, HasEnded, HasTaken, HasWritten, IsServing, TurnsInto, WhereAsked}

-- a query's line runs a command
runs : (number : ℕ) (text : List ℕ) (line : ScriptLine) → IsLineOf number text line → RunsCommand line
runs number text _ (asked.IsLineOf.OneLine _ command one reads) = (command, refl)
runs number text _ (asked.IsLineOf.Lines _ before rest split one) = (BadCommand (length before), refl)

-- a line that was passed runs a command
pub passed-runs : (old new : Place) (line : ScriptLine) → HasPassed old new line → RunsCommand line
passed-runs old new line h = runs (old.queries + 1) h.text line h.is

-- a hub that served the session serves it still
pub taken-served : {P : Type 0} (shape : Shape) (old new : Session P) (line : ScriptLine) → IsOpen old → RunsCommand line → HasTaken old line new → IsSameClient old new
    → IsServedBy shape old.section old.plan → IsServedBy shape new.section new.plan
taken-served shape old new line is_open h taken same served = fed-runs_served shape old new line is_open h taken.section same served

-- a line notifies, or does not
one-note : (line : ScriptLine) → note_lines_of (line ∷ []) ≡ note_of line.act
one-note line = omega arith

-- a query leaves the limit as it was
pub passed-limit : (old new : Place) (line : ScriptLine) → HasPassed old new line → new.most ≡ old.most
passed-limit old new line h = ap (λ (p : Place). p.most) h.after

-- they are no more than the session may have
pub passed-few : (old new : Place) (line : ScriptLine) (lines : List ScriptLine) (most : ℕ) → HasPassed old new line → note_lines_of lines ≡ old.notes → old.most ≡ most
    → note_lines_of (line ∷ []) + note_lines_of lines ≤ most
passed-few old new line lines most h notes e =
    let after : new.notes ≡ old.notes + note_of line.act = ap (λ (p : Place). p.notes) h.after in
    let one : note_lines_of (line ∷ []) ≡ note_of line.act = one-note line in
    let limit : new.most ≡ old.most = passed-limit old new line h in
    elim (cases_lt new.most new.notes) [
      | inl many ↦ absurd (h.few (inr many))
      | inr few ↦ omega (arith, few, limit, after, one, notes, e)
    ]

-- a session that has taken a query is open again
abbrev pub taken-open : {P : Type 0} (old new : Session P) (line : ScriptLine) → IsOpen old → HasTaken old line new → IsOpen new
taken-open old new line is_open taken = line-open old new line is_open taken.section taken.counted taken.between

-- what was asked first, with one query more
asks-more : (place next : Place) (front : List ScriptLine) (line : ScriptLine) (bytes left rest : Option (List ℕ)) → next.most ≡ place.most → OfKnown (Gives place next (Some line)) left rest
    → OfKnown (AsksFirst place front) bytes left → OfKnown (AsksFirst next (front ++ line ∷ [])) bytes rest
asks-more place next front line None left rest limit gives asked = tt
asks-more place next front line (Some all) None rest limit gives asked = absurd asked
asks-more place next front line (Some all) (Some now) None limit gives asked = absurd gives
asks-more place next front line (Some all) (Some now) (Some later) limit gives asked =
    λ lines fault more. subst (λ (n : ℕ). queries n all ((front ++ line ∷ []) ++ lines) fault) (sym limit)
    (subst (λ (ls : List ScriptLine). queries place.most all ls fault) (sym (append_assoc front (line ∷ []) lines)) (asked (line ∷ lines) fault (gives lines fault more)))

-- a query was answered
pub serving-goes : {P : Type 0} (start old new : Session P) (line : ScriptLine) (place next : Place) (bytes left rest held before now : Option (List ℕ)) → HasPassed place next line
    → OfKnown (Gives place next (Some line)) left rest → HasTaken old line new → IsSameClient old new
    → ((from : Option (List ℕ)) → Appends from before (messages old.section old.items.items) → Appends from now (messages new.section new.items.items))
    → IsServing start old place bytes left held before → IsServing start new next bytes rest held now
serving-goes start old new line place next bytes left rest held before now passed gives taken same written h = record {
  same = same-client start old new h.same same;
  is_open = taken-open old new line h.is_open taken;
  begun = h.begun;
  notes = ap (λ (s : Section). note_lines_of s.lines) taken.section ∙ notes-fed old.section line h.is_open.ends ∙ ap (λ (n : ℕ). note_lines_of old.section.lines + n) (one-note line)
      ∙ ap (λ (n : ℕ). n + note_of line.act) h.notes ∙ sym (ap (λ (p : Place). p.notes) passed.after);
  most = passed-limit place next line passed ∙ h.most ∙ sym (ap (λ (s : Section). s.note_lines) taken.section);
  asked = asks-more place next h.is_open.ends.front line bytes left rest (passed-limit place next line passed) gives h.asked;
  wrote = written held h.wrote;
}

-- the line that ends the script is the one that was there first
same-last : (lines : List ScriptLine) (front : List ScriptLine) (last first : ScriptLine) → lines ≡ front ++ last ∷ [] → last ∷ [] ≡ first ∷ [] → lines ≡ front ++ first ∷ []
same-last lines front last first e same = e ∙ ap (λ (ls : List ScriptLine). front ++ ls) same

-- these queries and no more, under the limit of the section
all-queries : (most limit : ℕ) (bytes : List ℕ) (front : List ScriptLine) (fault : Option WireFault) → most ≡ limit → queries most bytes (front ++ []) fault → queries limit bytes front fault
all-queries most limit bytes front fault e h =
    subst (λ (n : ℕ). queries n bytes front fault) e (subst (λ (ls : List ScriptLine). queries most bytes ls fault) (append-nil front) h)

-- there was no query more
asks-all : (place next : Place) (section : Section) (front : List ScriptLine) (last : ScriptLine) (bytes left rest : Option (List ℕ)) → place.most ≡ section.note_lines → section.lines ≡ front ++ last ∷ []
    → OfKnown (Gives place next None) left rest → OfKnown (AsksFirst place front) bytes left → IfSome bytes (λ all. AsksAll all None last section)
asks-all place next section front last None left rest limit split gives asked = tt
asks-all place next section front last (Some all) None rest limit split gives asked = absurd asked
asks-all place next section front last (Some all) (Some now) None limit split gives asked = absurd gives
asks-all place next section front last (Some all) (Some now) (Some later) limit split gives asked =
    record { lines = front; split = split; reads = all-queries place.most section.note_lines all front None limit (asked [] None gives) }

-- where nothing is given any more, the conversation has ended without a fault
pub serving-ends : {P T : Type 0} (x : T) (start s : Session P) (place next : Place) (bytes left rest held now : Option (List ℕ)) → OfKnown (Gives place next None) left rest
    → IsServing start s place bytes left held now → HasEnded {P = P} {T = T} (Ok x) start s bytes held now
serving-ends x start s place next bytes left rest held now gives h =
    let ends = h.is_open.ends in
    record {
      same = h.same;
      written = h.wrote;
      asked = λ first e. asks-all place next s.section ends.front first bytes left rest h.most (same-last s.section.lines ends.front ends.last first ends.split (sym h.begun ∙ e)) gives h.asked;
    }

-- a fault came next
asks-to_fault : (place : Place) (fault : WireFault) (section : Section) (front : List ScriptLine) (last : ScriptLine) (bytes left : Option (List ℕ)) → place.most ≡ section.note_lines → section.lines ≡ front ++ last ∷ []
    → IfSome left (λ now. QueriesAre place now [] (Some fault)) → OfKnown (AsksFirst place front) bytes left → IfSome bytes (λ all. AsksAll all (Some fault) last section)
asks-to_fault place fault section front last None left limit split found asked = tt
asks-to_fault place fault section front last (Some all) None limit split found asked = absurd asked
asks-to_fault place fault section front last (Some all) (Some now) limit split found asked =
    record { lines = front; split = split; reads = all-queries place.most section.note_lines all front (Some fault) limit (asked [] (Some fault) found) }

-- more was to be asked
asks-so_far : (place : Place) (section : Section) (front : List ScriptLine) (last : ScriptLine) (bytes left : Option (List ℕ)) → place.most ≡ section.note_lines → section.lines ≡ front ++ last ∷ []
    → OfKnown (AsksFirst place front) bytes left → IfSome bytes (λ all. HasAsked all last section)
asks-so_far place section front last None left limit split asked = tt
asks-so_far place section front last (Some all) None limit split asked = absurd asked
asks-so_far place section front last (Some all) (Some now) limit split asked =
    let more = each_has_reading place now in
    record { lines = front; split = split; more = more.0; fault = more.1; reads = subst (λ (n : ℕ). queries n all (front ++ more.0) more.1) limit (asked more.0 more.1 more.2) }

-- all that was shown is written
all-written : (section : Section) (items : List Item) (held now : Option (List ℕ)) → Appends held now (messages section items) → HasWritten {T = Unit {0}} (Err Memory) held now section items
all-written section items held now h = record { written = messages section items; whole = record { front = items; behind = []; split = sym (append-nil items); line = tt; are = refl }; wrote = h }

-- a failed call, whatever it would have given
abbrev failed : (T : Type 0) → WireEnd → Result T WireEnd
failed T end = Err end

-- no query came
pub serving-fails : {P T : Type 0} (end : WireEnd) (start s : Session P) (place : Place) (bytes left held now : Option (List ℕ)) → (failed (Option ScriptLine) end ≡ Err Write → ⊥)
    → ((fault : WireFault) → failed (Option ScriptLine) end ≡ Err (Bad fault) → IfSome left (λ rest. QueriesAre place rest [] (Some fault))) → IsServing start s place bytes left held now → HasEnded {P = P} {T = T} (Err end) start s bytes held now
serving-fails (Bad fault) start s place bytes left held now other found h =
    let ends = h.is_open.ends in
    record {
      same = h.same;
      written = h.wrote;
      asked = λ first e. asks-to_fault place fault s.section ends.front first bytes left h.most (same-last s.section.lines ends.front ends.last first ends.split (sym h.begun ∙ e)) (found fault refl) h.asked;
    }
serving-fails Read start s place bytes left held now other found h =
    let ends = h.is_open.ends in
    record {
      same = h.same;
      written = h.wrote;
      asked = λ first e. asks-so_far place s.section ends.front first bytes left h.most (same-last s.section.lines ends.front ends.last first ends.split (sym h.begun ∙ e)) h.asked;
    }
serving-fails Write start s place bytes left held now other found h = absurd (other refl)
serving-fails Memory start s place bytes left held now other found h =
    let ends = h.is_open.ends in
    record {
      same = h.same;
      written = all-written s.section s.items.items held now h.wrote;
      asked = λ first e. asks-so_far place s.section ends.front first bytes left h.most (same-last s.section.lines ends.front ends.last first ends.split (sym h.begun ∙ e)) h.asked;
    }

-- a query was not answered: it is in the script, or is not
asks-half : (place next : Place) (old new : Section) (line : ScriptLine) (ends : EndsByQuit old.lines) (first : ScriptLine) (bytes left rest : Option (List ℕ)) → place.most ≡ old.note_lines → next.most ≡ place.most → ends.last ∷ [] ≡ first ∷ []
    → OfKnown (Gives place next (Some line)) left rest → IsFedOrNot old line new → OfKnown (AsksFirst place ends.front) bytes left → IfSome bytes (λ all. HasAsked all first new)
asks-half place next old new line ends first bytes left rest limit kept same gives (inl e) asked =
    subst (λ (s : Section). IfSome bytes (λ all. HasAsked all first s)) (sym e) (asks-so_far place old ends.front first bytes left limit (same-last old.lines ends.front ends.last first ends.split same) asked)
asks-half place next old new line ends first bytes left rest limit kept same gives (inr e) asked =
    subst (λ (s : Section). IfSome bytes (λ all. HasAsked all first s)) (sym e)
    (asks-so_far next (fed old line) (ends.front ++ line ∷ []) first bytes rest (kept ∙ limit)
    (same-last (fed old line).lines (ends.front ++ line ∷ []) ends.last first (fed-split old line ends ∙ sym (append_assoc ends.front (line ∷ []) (ends.last ∷ []))) same)
    (asks-more place next ends.front line bytes left rest kept gives asked))

-- where a query was given and its answer was refused or not written, the conversation has ended so
pub answer-fails : {P T : Type 0} (end : WireEnd) (start old new : Session P) (line : ScriptLine) (place next : Place) (bytes left rest held before now : Option (List ℕ))
    → next.most ≡ place.most → (failed (Unit {0}) end ≡ Err Write) ⊎ (failed (Unit {0}) end ≡ Err Memory) → OfKnown (Gives place next (Some line)) left rest → IsFedOrNot old.section line new.section → IsSameClient old new
    → ((from : Option (List ℕ)) → Appends from before (messages old.section old.items.items) → HasWritten {T = Unit {0}} (Err end) from now new.section new.items.items)
    → IsServing start old place bytes left held before → HasEnded {P = P} {T = T} (Err end) start new bytes held now
answer-fails (Bad fault) start old new line place next bytes left rest held before now kept is gives script same written h = absurd (elim is [ inl e ↦ cc | inr e ↦ cc ])
answer-fails Read start old new line place next bytes left rest held before now kept is gives script same written h = absurd (elim is [ inl e ↦ cc | inr e ↦ cc ])
answer-fails Write start old new line place next bytes left rest held before now kept is gives script same written h = record {
  same = same-client start old new h.same same;
  written = written held h.wrote;
  asked = λ first e. asks-half place next old.section new.section line h.is_open.ends first bytes left rest h.most kept (sym h.begun ∙ e) gives script h.asked;
}
answer-fails Memory start old new line place next bytes left rest held before now kept is gives script same written h = record {
  same = same-client start old new h.same same;
  written = written held h.wrote;
  asked = λ first e. asks-half place next old.section new.section line h.is_open.ends first bytes left rest h.most kept (sym h.begun ∙ e) gives script h.asked;
}

-- where it may have been asked still, this held; and where an answer failed it was not
pub where-asked : (end : WireEnd) (P : Type 0) → P → WhereAsked end P
where-asked (Bad fault) P h = h
where-asked Read P h = h
where-asked Write P h = tt
where-asked Memory P h = tt

-- a failed write and want of memory are not faults of what was asked
pub never-asked : (end : WireEnd) (P : Type 0) → (failed (Unit {0}) end ≡ Err Write) ⊎ (failed (Unit {0}) end ≡ Err Memory) → WhereAsked end P
never-asked (Bad fault) P is = absurd (elim is [ inl e ↦ cc | inr e ↦ cc ])
never-asked Read P is = absurd (elim is [ inl e ↦ cc | inr e ↦ cc ])
never-asked Write P is = tt
never-asked Memory P is = tt

-- it is the end of the whole conversation
pub ended-as : {P T U : Type 0} (x : T) (y : U) (start s : Session P) (bytes held now : Option (List ℕ)) → HasEnded {P = P} {T = T} (Ok x) start s bytes held now → HasEnded {P = P} {T = U} (Ok y) start s bytes held now
ended-as x y start s bytes held now h = record { same = h.same; written = h.written; asked = h.asked }

-- an end by a failure is one, whatever else might have been answered
pub failed-as : {P T U : Type 0} (end : WireEnd) (start s : Session P) (bytes held now : Option (List ℕ)) → HasEnded {P = P} {T = T} (Err end) start s bytes held now → HasEnded {P = P} {T = U} (Err end) start s bytes held now
failed-as (Bad fault) start s bytes held now h = record { same = h.same; written = h.written; asked = h.asked }
failed-as Read start s bytes held now h = record { same = h.same; written = h.written; asked = h.asked }
failed-as Write start s bytes held now h = record { same = h.same; written = h.written; asked = h.asked }
failed-as Memory start s bytes held now h = record { same = h.same; written = h.written; asked = h.asked }

-- nothing was asked so far
asks-none : (most : ℕ) (front : List ScriptLine) (bytes : Option (List ℕ)) → front ≡ [] → OfKnown (AsksFirst (first_place most) front) bytes bytes
asks-none most front None e = tt
asks-none most front (Some all) e = λ lines fault h. subst (λ (ls : List ScriptLine). queries most all (ls ++ lines) fault) (sym e) h

writes-none : (held : Option (List ℕ)) (text : List ℕ) → text ≡ [] → Appends held held text
writes-none None text e = tt
writes-none (Some xs) text e = sym (ap (λ (l : List ℕ). xs ++ l) e ∙ append-nil xs)

-- a session whose script is its `\quit` serves from the first place on
pub serving-begins : {P : Type 0} (s : Session P) (bytes held : Option (List ℕ)) → BeginsEmpty s → IsServing s s (first_place s.section.note_lines) bytes bytes held held
serving-begins {P} s bytes held h =
    let none : note_of h.last.act ≡ 0 = ap note_of h.quits in
    record {
      same = record { section = refl; plan = refl; patience = refl };
      is_open = begins-open s h;
      begun = h.lines;
      notes = ap note_lines_of h.lines ∙ one-note h.last ∙ none;
      most = refl;
      asked = asks-none s.section.note_lines [] bytes refl;
      wrote = writes-none held (messages s.section s.items.items) (ap (λ (is : List Item). messages s.section is) h.shown);
    }

-- what is known of a query that was read
pub some-passed : (old new : Place) (next : Option ScriptLine) (line : ScriptLine) → next ≡ Some line → IfSome next (HasPassed old new) → HasPassed old new line
some-passed old new next line e h = subst (λ (n : Option ScriptLine). IfSome n (HasPassed old new)) e h

-- what is given, by another name
pub some-gives : (old new : Place) (next given : Option ScriptLine) (left rest : Option (List ℕ)) → next ≡ given → OfKnown (Gives old new next) left rest → OfKnown (Gives old new given) left rest
some-gives old new next given left rest e h = subst (λ (n : Option ScriptLine). OfKnown (Gives old new n) left rest) e h

-- a count that did not rise
pub unrisen : (before now : ℕ) (P : Type 0) → before ≤ now → (before < now → P) → (P → ⊥) → now ≡ before
unrisen before now P later rose none = elim (cases_lt before now) [ inl less ↦ absurd (none (rose less)) | inr same ↦ omega (arith, later, same) ]

-- after the `\quit` as much was asked
pub quit-asked : (first mid new : Section) (bytes : Option (List ℕ)) → new ≡ mid → ((last : ScriptLine) → first.lines ≡ last ∷ [] → IfSome bytes (λ all. AsksAll all None last mid))
    → (last : ScriptLine) → first.lines ≡ last ∷ [] → IfSome bytes (λ all. AsksAll all None last new)
quit-asked first mid new bytes e h last is = subst (λ (s : Section). IfSome bytes (λ all. AsksAll all None last s)) (sym e) (h last is)

-- all of it was asked, but memory did not suffice for the `\quit`
all-asked : (section : Section) (bytes : Option (List ℕ)) (last : ScriptLine) → IfSome bytes (λ all. AsksAll all None last section) → IfSome bytes (λ all. HasAsked all last section)
all-asked section None last h = tt
all-asked section (Some all) last h =
    record { lines = h.lines; split = h.split; more = []; fault = None; reads = subst (λ (ls : List ScriptLine). queries section.note_lines all ls None) (sym (append-nil h.lines)) h.reads }

-- a session that quits has asked no more
pub quit-unasked : (first mid new : Section) (bytes : Option (List ℕ)) → new ≡ mid → ((last : ScriptLine) → first.lines ≡ last ∷ [] → IfSome bytes (λ all. AsksAll all None last mid))
    → (last : ScriptLine) → first.lines ≡ last ∷ [] → IfSome bytes (λ all. HasAsked all last new)
quit-unasked first mid new bytes e h last is = all-asked new bytes last (quit-asked first mid new bytes e h last is)

-- what a turn came to, once it is known
pub went-on : {P : Type 0} (b : Bool) (start s : Session P) (place : Place) (bytes left held now : Option (List ℕ)) → b ≡ true → TurnsInto (Ok b) start s place bytes left held now → IsServing start s place bytes left held now
went-on b start s place bytes left held now e h = subst (λ (x : Bool). TurnsInto (Ok x) start s place bytes left held now) e h

-- where no turn follows, the conversation has ended
pub was-last : {P : Type 0} (b : Bool) (start s : Session P) (place : Place) (bytes left held now : Option (List ℕ)) → b ≡ false → TurnsInto (Ok b) start s place bytes left held now
    → HasEnded {P = P} {T = Unit {0}} (Ok tt) start s bytes held now
was-last b start s place bytes left held now e h = ended-as false tt start s bytes held now (subst (λ (x : Bool). TurnsInto (Ok x) start s place bytes left held now) e h)

-- the queries so far are no more than there may be
pub passed-most : (old new : Place) (line : ScriptLine) → HasPassed old new line → new.queries ≤ 4294967294
passed-most old new line h = elim (cases_lt QUERIES_MAX new.queries) [ inl many ↦ absurd (h.few (inl many)) | inr few ↦ few ]
