-- The commands of the table, by the word that they begin with.
use Rattle.std.proofs.Common.{◌≡◌, ◌≢◌, ℕ, Bool, true, false, cond, ◌&&◌, inl, inr, List, [], ◌∷◌, ◌++◌, length, filter_map, Option, None, Some, sym, ◌∙◌, refl, subst, drop, codes}
use Rattle.std.specs.Str.{byte, str_eq_ignore_ascii_case}
use Rattle.std.specs.Prelude.{Err}
use Rattle.std.proofs.lemmas.Bool.{cases_Bool, and_from}
use Rattle.pgn_base.specs.declared.command.Command.TheVariants as command
use Rattle.pgn_language.specs.Tokens.{Lexeme, Word, Quoted, Literal, Number, Sign, Wrong, Token, tokens}
use Rattle.pgn_language.specs.Grammar.{Slot, Key, Name, Punct, fits_slot, ReadsAs, table, name_of}
use Rattle.pgn_language.specs.laws.Grammar.{after_first, table_slots}
use Rattle.pgn_command.specs.declared.verb.Verb.{Verb}
use Rattle.pgn_command.specs.declared.verb.Verb.TheVariants as verb
use Rattle.pgn_command.specs.Reading.{front_lexeme, takes, expecting, closing, past_work, rolling, noted, asking, calling, selecting, verb_of, starting, stated, outcome}
use Rattle.pgn_command.proofs.FormSteps.{Stands, stands-start, stands-next, stands-by, stands-stop, stands-lack, stands-whole, some-ways, before_all, expecting-reads, alike, key-word, form-at, sign-cases}
use Rattle.pgn_command.proofs.CloseSteps.{done, Complete, closing-reads, done-reads, named, naming-reads, worked, WorkComplete, working-reads}
use Rattle.pgn_command.proofs.NameSteps.{saved, SavedComplete, saving-reads, rolled, RollComplete, rolling-reads, unlisted, unlistening-reads, paid, NoteComplete, notifying-reads, asked, asking-reads}
use Rattle.pgn_command.proofs.ArgumentSteps.{IsArgument, Written, Nothing, Repeated, called, calling-reads}

one : (a : Bool) → a ≡ true → (a && true) ≡ true
one a e = and_from a true e refl

-- a line that begins with a word of the table
begun : (text key w : List ℕ) (at : ℕ) (ways : List (List Slot)) (ahead : List Token) → str_eq_ignore_ascii_case key w ≡ true → filter_map (after_first (Word key)) table_slots ≡ ways
    → (let token : Token = record { lexeme = Word w; at = at } in Stands text [] table_slots (token ∷ ahead)) → Stands text (Word w ∷ []) ways ahead
begun text key w at ways ahead e p s =
    let token : Token = record { lexeme = Word w; at = at } in
    stands-by text (Word w ∷ []) (filter_map (after_first (Word w)) table_slots) ways ahead (alike w key table_slots (key-word key w e) ∙ p) (stands-next text [] table_slots token ahead s)

begin_complete : (w : List ℕ) → str_eq_ignore_ascii_case (codes "begin") w ≡ true → WorkComplete (Word w ∷ []) command.Begin
unfolding table
begin_complete w e = record {
  bare = record { bare = form-at 2 (Word w ∷ []) refl (and_from _ _ e refl); ended = λ x t. form-at 3 (Word w ∷ x ∷ []) refl (and_from _ _ e (and_from _ _ t refl)) };
  work = λ l f. record { bare = form-at 4 (Word w ∷ l ∷ []) refl (and_from _ _ e (and_from _ _ f refl)); ended = λ x t. form-at 5 (Word w ∷ l ∷ x ∷ []) refl (and_from _ _ e (and_from _ _ f (and_from _ _ t refl))) };
  transaction = λ l f. record { bare = form-at 6 (Word w ∷ l ∷ []) refl (and_from _ _ e (and_from _ _ f refl)); ended = λ x t. form-at 7 (Word w ∷ l ∷ x ∷ []) refl (and_from _ _ e (and_from _ _ f (and_from _ _ t refl))) };
}

begin-reads : (text w : List ℕ) (ahead : List Token) → str_eq_ignore_ascii_case (codes "begin") w ≡ true → Stands text (Word w ∷ []) worked ahead → ReadsAs text (outcome (closing (length text) command.Begin (past_work ahead)))
begin-reads text w ahead e s = working-reads text (Word w ∷ []) command.Begin ahead s (begin_complete w e)

begin_ways : filter_map (after_first (Word (codes "begin"))) table_slots ≡ worked
unfolding table
begin_ways = refl

commit_complete : (w : List ℕ) → str_eq_ignore_ascii_case (codes "commit") w ≡ true → WorkComplete (Word w ∷ []) command.Commit
unfolding table
commit_complete w e = record {
  bare = record { bare = form-at 10 (Word w ∷ []) refl (and_from _ _ e refl); ended = λ x t. form-at 11 (Word w ∷ x ∷ []) refl (and_from _ _ e (and_from _ _ t refl)) };
  work = λ l f. record { bare = form-at 12 (Word w ∷ l ∷ []) refl (and_from _ _ e (and_from _ _ f refl)); ended = λ x t. form-at 13 (Word w ∷ l ∷ x ∷ []) refl (and_from _ _ e (and_from _ _ f (and_from _ _ t refl))) };
  transaction = λ l f. record { bare = form-at 14 (Word w ∷ l ∷ []) refl (and_from _ _ e (and_from _ _ f refl)); ended = λ x t. form-at 15 (Word w ∷ l ∷ x ∷ []) refl (and_from _ _ e (and_from _ _ f (and_from _ _ t refl))) };
}

commit-reads : (text w : List ℕ) (ahead : List Token) → str_eq_ignore_ascii_case (codes "commit") w ≡ true → Stands text (Word w ∷ []) worked ahead → ReadsAs text (outcome (closing (length text) command.Commit (past_work ahead)))
commit-reads text w ahead e s = working-reads text (Word w ∷ []) command.Commit ahead s (commit_complete w e)

commit_ways : filter_map (after_first (Word (codes "commit"))) table_slots ≡ worked
unfolding table
commit_ways = refl

end_complete : (w : List ℕ) → str_eq_ignore_ascii_case (codes "end") w ≡ true → WorkComplete (Word w ∷ []) command.Commit
unfolding table
end_complete w e = record {
  bare = record { bare = form-at 16 (Word w ∷ []) refl (and_from _ _ e refl); ended = λ x t. form-at 17 (Word w ∷ x ∷ []) refl (and_from _ _ e (and_from _ _ t refl)) };
  work = λ l f. record { bare = form-at 18 (Word w ∷ l ∷ []) refl (and_from _ _ e (and_from _ _ f refl)); ended = λ x t. form-at 19 (Word w ∷ l ∷ x ∷ []) refl (and_from _ _ e (and_from _ _ f (and_from _ _ t refl))) };
  transaction = λ l f. record { bare = form-at 20 (Word w ∷ l ∷ []) refl (and_from _ _ e (and_from _ _ f refl)); ended = λ x t. form-at 21 (Word w ∷ l ∷ x ∷ []) refl (and_from _ _ e (and_from _ _ f (and_from _ _ t refl))) };
}

end-reads : (text w : List ℕ) (ahead : List Token) → str_eq_ignore_ascii_case (codes "end") w ≡ true → Stands text (Word w ∷ []) worked ahead → ReadsAs text (outcome (closing (length text) command.Commit (past_work ahead)))
end-reads text w ahead e s = working-reads text (Word w ∷ []) command.Commit ahead s (end_complete w e)

end_ways : filter_map (after_first (Word (codes "end"))) table_slots ≡ worked
unfolding table
end_ways = refl

abort_complete : (w : List ℕ) → str_eq_ignore_ascii_case (codes "abort") w ≡ true → WorkComplete (Word w ∷ []) command.Rollback
unfolding table
abort_complete w e = record {
  bare = record { bare = form-at 28 (Word w ∷ []) refl (and_from _ _ e refl); ended = λ x t. form-at 29 (Word w ∷ x ∷ []) refl (and_from _ _ e (and_from _ _ t refl)) };
  work = λ l f. record { bare = form-at 30 (Word w ∷ l ∷ []) refl (and_from _ _ e (and_from _ _ f refl)); ended = λ x t. form-at 31 (Word w ∷ l ∷ x ∷ []) refl (and_from _ _ e (and_from _ _ f (and_from _ _ t refl))) };
  transaction = λ l f. record { bare = form-at 32 (Word w ∷ l ∷ []) refl (and_from _ _ e (and_from _ _ f refl)); ended = λ x t. form-at 33 (Word w ∷ l ∷ x ∷ []) refl (and_from _ _ e (and_from _ _ f (and_from _ _ t refl))) };
}

abort-reads : (text w : List ℕ) (ahead : List Token) → str_eq_ignore_ascii_case (codes "abort") w ≡ true → Stands text (Word w ∷ []) worked ahead → ReadsAs text (outcome (closing (length text) command.Rollback (past_work ahead)))
abort-reads text w ahead e s = working-reads text (Word w ∷ []) command.Rollback ahead s (abort_complete w e)

abort_ways : filter_map (after_first (Word (codes "abort"))) table_slots ≡ worked
unfolding table
abort_ways = refl

start_complete : (w : List ℕ) → str_eq_ignore_ascii_case (codes "start") w ≡ true → (l : Lexeme) → fits_slot (Key (codes "transaction")) l ≡ true → Complete (Word w ∷ l ∷ []) command.Start
unfolding table
start_complete w e l f = record { bare = form-at 8 (Word w ∷ l ∷ []) refl (and_from _ _ e (and_from _ _ f refl)); ended = λ x t. form-at 9 (Word w ∷ l ∷ x ∷ []) refl (and_from _ _ e (and_from _ _ f (and_from _ _ t refl))) }

start_ways : filter_map (after_first (Word (codes "start"))) table_slots ≡ before_all (Key (codes "transaction")) done
unfolding table
start_ways = refl

start-reads : (text w : List ℕ) (ahead : List Token) → str_eq_ignore_ascii_case (codes "start") w ≡ true → Stands text (Word w ∷ []) (before_all (Key (codes "transaction")) done) ahead → ReadsAs text (outcome (expecting (Key (codes "transaction")) (length text) ahead (closing (length text) command.Start)))
start-reads text w ahead e s =
    expecting-reads text (Word w ∷ []) (Key (codes "transaction")) done ahead (closing (length text) command.Start) (λ h. absurd (cc)) s
    (λ f next. done-reads text (Word w ∷ front_lexeme ahead ∷ []) command.Start (drop 1 ahead) next (start_complete w e (front_lexeme ahead) f))

savepoint_complete : (w : List ℕ) → str_eq_ignore_ascii_case (codes "savepoint") w ≡ true → (l : Lexeme) → fits_slot Name l ≡ true → Complete (Word w ∷ l ∷ []) (command.Savepoint (name_of l))
unfolding table
savepoint_complete w e l f = record { bare = form-at 34 (Word w ∷ l ∷ []) refl (and_from _ _ e (and_from _ _ f refl)); ended = λ x t. form-at 35 (Word w ∷ l ∷ x ∷ []) refl (and_from _ _ e (and_from _ _ f (and_from _ _ t refl))) }

savepoint_ways : filter_map (after_first (Word (codes "savepoint"))) table_slots ≡ named
unfolding table
savepoint_ways = refl

listen_complete : (w : List ℕ) → str_eq_ignore_ascii_case (codes "listen") w ≡ true → (l : Lexeme) → fits_slot Name l ≡ true → Complete (Word w ∷ l ∷ []) (command.Listen (name_of l))
unfolding table
listen_complete w e l f = record { bare = form-at 52 (Word w ∷ l ∷ []) refl (and_from _ _ e (and_from _ _ f refl)); ended = λ x t. form-at 53 (Word w ∷ l ∷ x ∷ []) refl (and_from _ _ e (and_from _ _ f (and_from _ _ t refl))) }

listen_ways : filter_map (after_first (Word (codes "listen"))) table_slots ≡ named
unfolding table
listen_ways = refl

rollback_back : (w : List ℕ) → str_eq_ignore_ascii_case (codes "rollback") w ≡ true → RollComplete (Word w ∷ [])
unfolding table
rollback_back w e = record {
  bare = record { bare = form-at 22 (Word w ∷ []) refl (and_from _ _ e refl); ended = λ x t. form-at 23 (Word w ∷ x ∷ []) refl (and_from _ _ e (and_from _ _ t refl)) };
  back = λ o b. record {
    bare = λ n g. record { bare = form-at 36 (Word w ∷ o ∷ n ∷ []) refl (and_from _ _ e (and_from _ _ b (and_from _ _ g refl))); ended = λ x t. form-at 37 (Word w ∷ o ∷ n ∷ x ∷ []) refl (and_from _ _ e (and_from _ _ b (and_from _ _ g (and_from _ _ t refl)))) };
    word = λ m n g h. record { bare = form-at 38 (Word w ∷ o ∷ m ∷ n ∷ []) refl (and_from _ _ e (and_from _ _ b (and_from _ _ g (and_from _ _ h refl)))); ended = λ x t. form-at 39 (Word w ∷ o ∷ m ∷ n ∷ x ∷ []) refl (and_from _ _ e (and_from _ _ b (and_from _ _ g (and_from _ _ h (and_from _ _ t refl))))) };
  };
}

rollback_work : (w : List ℕ) → str_eq_ignore_ascii_case (codes "rollback") w ≡ true → (l : Lexeme) → fits_slot (Key (codes "work")) l ≡ true → RollComplete (Word w ∷ l ∷ [])
unfolding table
rollback_work w e l f = record {
  bare = record { bare = form-at 24 (Word w ∷ l ∷ []) refl (and_from _ _ e (and_from _ _ f refl)); ended = λ x t. form-at 25 (Word w ∷ l ∷ x ∷ []) refl (and_from _ _ e (and_from _ _ f (and_from _ _ t refl))) };
  back = λ o b. record {
    bare = λ n g. record { bare = form-at 40 (Word w ∷ l ∷ o ∷ n ∷ []) refl (and_from _ _ e (and_from _ _ f (and_from _ _ b (and_from _ _ g refl)))); ended = λ x t. form-at 41 (Word w ∷ l ∷ o ∷ n ∷ x ∷ []) refl (and_from _ _ e (and_from _ _ f (and_from _ _ b (and_from _ _ g (and_from _ _ t refl))))) };
    word = λ m n g h. record { bare = form-at 42 (Word w ∷ l ∷ o ∷ m ∷ n ∷ []) refl (and_from _ _ e (and_from _ _ f (and_from _ _ b (and_from _ _ g (and_from _ _ h refl))))); ended = λ x t. form-at 43 (Word w ∷ l ∷ o ∷ m ∷ n ∷ x ∷ []) refl (and_from _ _ e (and_from _ _ f (and_from _ _ b (and_from _ _ g (and_from _ _ h (and_from _ _ t refl)))))) };
  };
}

rollback_transaction : (w : List ℕ) → str_eq_ignore_ascii_case (codes "rollback") w ≡ true → (l : Lexeme) → fits_slot (Key (codes "transaction")) l ≡ true → RollComplete (Word w ∷ l ∷ [])
unfolding table
rollback_transaction w e l f = record {
  bare = record { bare = form-at 26 (Word w ∷ l ∷ []) refl (and_from _ _ e (and_from _ _ f refl)); ended = λ x t. form-at 27 (Word w ∷ l ∷ x ∷ []) refl (and_from _ _ e (and_from _ _ f (and_from _ _ t refl))) };
  back = λ o b. record {
    bare = λ n g. record { bare = form-at 44 (Word w ∷ l ∷ o ∷ n ∷ []) refl (and_from _ _ e (and_from _ _ f (and_from _ _ b (and_from _ _ g refl)))); ended = λ x t. form-at 45 (Word w ∷ l ∷ o ∷ n ∷ x ∷ []) refl (and_from _ _ e (and_from _ _ f (and_from _ _ b (and_from _ _ g (and_from _ _ t refl))))) };
    word = λ m n g h. record { bare = form-at 46 (Word w ∷ l ∷ o ∷ m ∷ n ∷ []) refl (and_from _ _ e (and_from _ _ f (and_from _ _ b (and_from _ _ g (and_from _ _ h refl))))); ended = λ x t. form-at 47 (Word w ∷ l ∷ o ∷ m ∷ n ∷ x ∷ []) refl (and_from _ _ e (and_from _ _ f (and_from _ _ b (and_from _ _ g (and_from _ _ h (and_from _ _ t refl)))))) };
  };
}

rollback_ways : filter_map (after_first (Word (codes "rollback"))) table_slots ≡ rolled
unfolding table
rollback_ways = refl

rollback-reads : (text w : List ℕ) (ahead : List Token) → str_eq_ignore_ascii_case (codes "rollback") w ≡ true → Stands text (Word w ∷ []) rolled ahead → ReadsAs text (outcome (rolling (length text) (past_work ahead)))
rollback-reads text w ahead e s = rolling-reads text (Word w ∷ []) ahead s (record { bare = rollback_back w e; work = rollback_work w e; transaction = rollback_transaction w e })

release_complete : (w : List ℕ) → str_eq_ignore_ascii_case (codes "release") w ≡ true → SavedComplete (Word w ∷ []) command.Release
unfolding table
release_complete w e = record {
  bare = λ n g. record { bare = form-at 48 (Word w ∷ n ∷ []) refl (and_from _ _ e (and_from _ _ g refl)); ended = λ x t. form-at 49 (Word w ∷ n ∷ x ∷ []) refl (and_from _ _ e (and_from _ _ g (and_from _ _ t refl))) };
  word = λ m n g h. record { bare = form-at 50 (Word w ∷ m ∷ n ∷ []) refl (and_from _ _ e (and_from _ _ g (and_from _ _ h refl))); ended = λ x t. form-at 51 (Word w ∷ m ∷ n ∷ x ∷ []) refl (and_from _ _ e (and_from _ _ g (and_from _ _ h (and_from _ _ t refl)))) };
}

release_ways : filter_map (after_first (Word (codes "release"))) table_slots ≡ saved
unfolding table
release_ways = refl

unlisten_name : (w : List ℕ) → str_eq_ignore_ascii_case (codes "unlisten") w ≡ true → (l : Lexeme) → fits_slot Name l ≡ true → Complete (Word w ∷ l ∷ []) (command.Unlisten (name_of l))
unfolding table
unlisten_name w e l f = record { bare = form-at 54 (Word w ∷ l ∷ []) refl (and_from _ _ e (and_from _ _ f refl)); ended = λ x t. form-at 55 (Word w ∷ l ∷ x ∷ []) refl (and_from _ _ e (and_from _ _ f (and_from _ _ t refl))) }

unlisten_all : (w : List ℕ) → str_eq_ignore_ascii_case (codes "unlisten") w ≡ true → (l : Lexeme) → fits_slot (Punct (byte "*")) l ≡ true → Complete (Word w ∷ l ∷ []) command.UnlistenAll
unfolding table
unlisten_all w e l f = record { bare = form-at 56 (Word w ∷ l ∷ []) refl (and_from _ _ e (and_from _ _ f refl)); ended = λ x t. form-at 57 (Word w ∷ l ∷ x ∷ []) refl (and_from _ _ e (and_from _ _ f (and_from _ _ t refl))) }

unlisten_ways : filter_map (after_first (Word (codes "unlisten"))) table_slots ≡ unlisted
unfolding table
unlisten_ways = refl

notify_complete : (w : List ℕ) → str_eq_ignore_ascii_case (codes "notify") w ≡ true → (l : Lexeme) → fits_slot Name l ≡ true → NoteComplete (Word w ∷ l ∷ []) (name_of l)
unfolding table
notify_complete w e l f = record {
  bare = record { bare = form-at 58 (Word w ∷ l ∷ []) refl (and_from _ _ e (and_from _ _ f refl)); ended = λ x t. form-at 59 (Word w ∷ l ∷ x ∷ []) refl (and_from _ _ e (and_from _ _ f (and_from _ _ t refl))) };
  payload = λ c p g h. record { bare = form-at 60 (Word w ∷ l ∷ c ∷ p ∷ []) refl (and_from _ _ e (and_from _ _ f (and_from _ _ g (and_from _ _ h refl)))); ended = λ x t. form-at 61 (Word w ∷ l ∷ c ∷ p ∷ x ∷ []) refl (and_from _ _ e (and_from _ _ f (and_from _ _ g (and_from _ _ h (and_from _ _ t refl))))) };
}

notify_ways : filter_map (after_first (Word (codes "notify"))) table_slots ≡ before_all Name paid
unfolding table
notify_ways = refl

call_forms : (w : List ℕ) (p o c z : Lexeme) (some more : List Lexeme) (channel payload : List ℕ) → str_eq_ignore_ascii_case (codes "select") w ≡ true → fits_slot (Key (codes "pg_notify")) p ≡ true → fits_slot (Punct (byte "(")) o ≡ true → IsArgument some channel
    → fits_slot (Punct (byte ",")) c ≡ true → IsArgument more payload → fits_slot (Punct (byte ")")) z ≡ true → Complete (Word w ∷ p ∷ [] ++ o ∷ [] ++ some ++ c ∷ [] ++ more ++ z ∷ []) (command.PgNotify (noted channel payload))
unfolding table
call_forms w p o c z _ _ _ _ e f ho (Written a1 ha1) hc (Written b1 hb1) hz = record { bare = form-at 62 (Word w ∷ p ∷ o ∷ a1 ∷ c ∷ b1 ∷ z ∷ []) refl (and_from _ _ e (and_from _ _ f (and_from _ _ ho (and_from _ _ ha1 (and_from _ _ hc (and_from _ _ hb1 (and_from _ _ hz refl))))))); ended = λ x t. form-at 63 (Word w ∷ p ∷ o ∷ a1 ∷ c ∷ b1 ∷ z ∷ x ∷ []) refl (and_from _ _ e (and_from _ _ f (and_from _ _ ho (and_from _ _ ha1 (and_from _ _ hc (and_from _ _ hb1 (and_from _ _ hz (and_from _ _ t refl)))))))) }
call_forms w p o c z _ _ _ _ e f ho (Written a1 ha1) hc (Nothing b1 hb1) hz = record { bare = form-at 64 (Word w ∷ p ∷ o ∷ a1 ∷ c ∷ b1 ∷ z ∷ []) refl (and_from _ _ e (and_from _ _ f (and_from _ _ ho (and_from _ _ ha1 (and_from _ _ hc (and_from _ _ hb1 (and_from _ _ hz refl))))))); ended = λ x t. form-at 65 (Word w ∷ p ∷ o ∷ a1 ∷ c ∷ b1 ∷ z ∷ x ∷ []) refl (and_from _ _ e (and_from _ _ f (and_from _ _ ho (and_from _ _ ha1 (and_from _ _ hc (and_from _ _ hb1 (and_from _ _ hz (and_from _ _ t refl)))))))) }
call_forms w p o c z _ _ _ _ e f ho (Written a1 ha1) hc (Repeated b1 b2 b3 b4 b5 b6 hb1 hb2 hb3 hb4 hb5 hb6) hz = record { bare = form-at 66 (Word w ∷ p ∷ o ∷ a1 ∷ c ∷ b1 ∷ b2 ∷ b3 ∷ b4 ∷ b5 ∷ b6 ∷ z ∷ []) refl (and_from _ _ e (and_from _ _ f (and_from _ _ ho (and_from _ _ ha1 (and_from _ _ hc (and_from _ _ hb1 (and_from _ _ hb2 (and_from _ _ hb3 (and_from _ _ hb4 (and_from _ _ hb5 (and_from _ _ hb6 (and_from _ _ hz refl)))))))))))); ended = λ x t. form-at 67 (Word w ∷ p ∷ o ∷ a1 ∷ c ∷ b1 ∷ b2 ∷ b3 ∷ b4 ∷ b5 ∷ b6 ∷ z ∷ x ∷ []) refl (and_from _ _ e (and_from _ _ f (and_from _ _ ho (and_from _ _ ha1 (and_from _ _ hc (and_from _ _ hb1 (and_from _ _ hb2 (and_from _ _ hb3 (and_from _ _ hb4 (and_from _ _ hb5 (and_from _ _ hb6 (and_from _ _ hz (and_from _ _ t refl))))))))))))) }
call_forms w p o c z _ _ _ _ e f ho (Nothing a1 ha1) hc (Written b1 hb1) hz = record { bare = form-at 68 (Word w ∷ p ∷ o ∷ a1 ∷ c ∷ b1 ∷ z ∷ []) refl (and_from _ _ e (and_from _ _ f (and_from _ _ ho (and_from _ _ ha1 (and_from _ _ hc (and_from _ _ hb1 (and_from _ _ hz refl))))))); ended = λ x t. form-at 69 (Word w ∷ p ∷ o ∷ a1 ∷ c ∷ b1 ∷ z ∷ x ∷ []) refl (and_from _ _ e (and_from _ _ f (and_from _ _ ho (and_from _ _ ha1 (and_from _ _ hc (and_from _ _ hb1 (and_from _ _ hz (and_from _ _ t refl)))))))) }
call_forms w p o c z _ _ _ _ e f ho (Nothing a1 ha1) hc (Nothing b1 hb1) hz = record { bare = form-at 70 (Word w ∷ p ∷ o ∷ a1 ∷ c ∷ b1 ∷ z ∷ []) refl (and_from _ _ e (and_from _ _ f (and_from _ _ ho (and_from _ _ ha1 (and_from _ _ hc (and_from _ _ hb1 (and_from _ _ hz refl))))))); ended = λ x t. form-at 71 (Word w ∷ p ∷ o ∷ a1 ∷ c ∷ b1 ∷ z ∷ x ∷ []) refl (and_from _ _ e (and_from _ _ f (and_from _ _ ho (and_from _ _ ha1 (and_from _ _ hc (and_from _ _ hb1 (and_from _ _ hz (and_from _ _ t refl)))))))) }
call_forms w p o c z _ _ _ _ e f ho (Nothing a1 ha1) hc (Repeated b1 b2 b3 b4 b5 b6 hb1 hb2 hb3 hb4 hb5 hb6) hz = record { bare = form-at 72 (Word w ∷ p ∷ o ∷ a1 ∷ c ∷ b1 ∷ b2 ∷ b3 ∷ b4 ∷ b5 ∷ b6 ∷ z ∷ []) refl (and_from _ _ e (and_from _ _ f (and_from _ _ ho (and_from _ _ ha1 (and_from _ _ hc (and_from _ _ hb1 (and_from _ _ hb2 (and_from _ _ hb3 (and_from _ _ hb4 (and_from _ _ hb5 (and_from _ _ hb6 (and_from _ _ hz refl)))))))))))); ended = λ x t. form-at 73 (Word w ∷ p ∷ o ∷ a1 ∷ c ∷ b1 ∷ b2 ∷ b3 ∷ b4 ∷ b5 ∷ b6 ∷ z ∷ x ∷ []) refl (and_from _ _ e (and_from _ _ f (and_from _ _ ho (and_from _ _ ha1 (and_from _ _ hc (and_from _ _ hb1 (and_from _ _ hb2 (and_from _ _ hb3 (and_from _ _ hb4 (and_from _ _ hb5 (and_from _ _ hb6 (and_from _ _ hz (and_from _ _ t refl))))))))))))) }
call_forms w p o c z _ _ _ _ e f ho (Repeated a1 a2 a3 a4 a5 a6 ha1 ha2 ha3 ha4 ha5 ha6) hc (Written b1 hb1) hz = record { bare = form-at 74 (Word w ∷ p ∷ o ∷ a1 ∷ a2 ∷ a3 ∷ a4 ∷ a5 ∷ a6 ∷ c ∷ b1 ∷ z ∷ []) refl (and_from _ _ e (and_from _ _ f (and_from _ _ ho (and_from _ _ ha1 (and_from _ _ ha2 (and_from _ _ ha3 (and_from _ _ ha4 (and_from _ _ ha5 (and_from _ _ ha6 (and_from _ _ hc (and_from _ _ hb1 (and_from _ _ hz refl)))))))))))); ended = λ x t. form-at 75 (Word w ∷ p ∷ o ∷ a1 ∷ a2 ∷ a3 ∷ a4 ∷ a5 ∷ a6 ∷ c ∷ b1 ∷ z ∷ x ∷ []) refl (and_from _ _ e (and_from _ _ f (and_from _ _ ho (and_from _ _ ha1 (and_from _ _ ha2 (and_from _ _ ha3 (and_from _ _ ha4 (and_from _ _ ha5 (and_from _ _ ha6 (and_from _ _ hc (and_from _ _ hb1 (and_from _ _ hz (and_from _ _ t refl))))))))))))) }
call_forms w p o c z _ _ _ _ e f ho (Repeated a1 a2 a3 a4 a5 a6 ha1 ha2 ha3 ha4 ha5 ha6) hc (Nothing b1 hb1) hz = record { bare = form-at 76 (Word w ∷ p ∷ o ∷ a1 ∷ a2 ∷ a3 ∷ a4 ∷ a5 ∷ a6 ∷ c ∷ b1 ∷ z ∷ []) refl (and_from _ _ e (and_from _ _ f (and_from _ _ ho (and_from _ _ ha1 (and_from _ _ ha2 (and_from _ _ ha3 (and_from _ _ ha4 (and_from _ _ ha5 (and_from _ _ ha6 (and_from _ _ hc (and_from _ _ hb1 (and_from _ _ hz refl)))))))))))); ended = λ x t. form-at 77 (Word w ∷ p ∷ o ∷ a1 ∷ a2 ∷ a3 ∷ a4 ∷ a5 ∷ a6 ∷ c ∷ b1 ∷ z ∷ x ∷ []) refl (and_from _ _ e (and_from _ _ f (and_from _ _ ho (and_from _ _ ha1 (and_from _ _ ha2 (and_from _ _ ha3 (and_from _ _ ha4 (and_from _ _ ha5 (and_from _ _ ha6 (and_from _ _ hc (and_from _ _ hb1 (and_from _ _ hz (and_from _ _ t refl))))))))))))) }
call_forms w p o c z _ _ _ _ e f ho (Repeated a1 a2 a3 a4 a5 a6 ha1 ha2 ha3 ha4 ha5 ha6) hc (Repeated b1 b2 b3 b4 b5 b6 hb1 hb2 hb3 hb4 hb5 hb6) hz = record { bare = form-at 78 (Word w ∷ p ∷ o ∷ a1 ∷ a2 ∷ a3 ∷ a4 ∷ a5 ∷ a6 ∷ c ∷ b1 ∷ b2 ∷ b3 ∷ b4 ∷ b5 ∷ b6 ∷ z ∷ []) refl (and_from _ _ e (and_from _ _ f (and_from _ _ ho (and_from _ _ ha1 (and_from _ _ ha2 (and_from _ _ ha3 (and_from _ _ ha4 (and_from _ _ ha5 (and_from _ _ ha6 (and_from _ _ hc (and_from _ _ hb1 (and_from _ _ hb2 (and_from _ _ hb3 (and_from _ _ hb4 (and_from _ _ hb5 (and_from _ _ hb6 (and_from _ _ hz refl))))))))))))))))); ended = λ x t. form-at 79 (Word w ∷ p ∷ o ∷ a1 ∷ a2 ∷ a3 ∷ a4 ∷ a5 ∷ a6 ∷ c ∷ b1 ∷ b2 ∷ b3 ∷ b4 ∷ b5 ∷ b6 ∷ z ∷ x ∷ []) refl (and_from _ _ e (and_from _ _ f (and_from _ _ ho (and_from _ _ ha1 (and_from _ _ ha2 (and_from _ _ ha3 (and_from _ _ ha4 (and_from _ _ ha5 (and_from _ _ ha6 (and_from _ _ hc (and_from _ _ hb1 (and_from _ _ hb2 (and_from _ _ hb3 (and_from _ _ hb4 (and_from _ _ hb5 (and_from _ _ hb6 (and_from _ _ hz (and_from _ _ t refl)))))))))))))))))) }

ask_listening : (w : List ℕ) (p l m : Lexeme) → str_eq_ignore_ascii_case (codes "select") w ≡ true → fits_slot (Key (codes "pg_listening_channels")) p ≡ true → fits_slot (Punct (byte "(")) l ≡ true → fits_slot (Punct (byte ")")) m ≡ true → Complete (Word w ∷ p ∷ l ∷ m ∷ []) command.ListeningChannels
unfolding table
ask_listening w p l m e f g h = record { bare = form-at 80 (Word w ∷ p ∷ l ∷ m ∷ []) refl (and_from _ _ e (and_from _ _ f (and_from _ _ g (and_from _ _ h refl)))); ended = λ x t. form-at 81 (Word w ∷ p ∷ l ∷ m ∷ x ∷ []) refl (and_from _ _ e (and_from _ _ f (and_from _ _ g (and_from _ _ h (and_from _ _ t refl))))) }

ask_usage : (w : List ℕ) (p l m : Lexeme) → str_eq_ignore_ascii_case (codes "select") w ≡ true → fits_slot (Key (codes "pg_notification_queue_usage")) p ≡ true → fits_slot (Punct (byte "(")) l ≡ true → fits_slot (Punct (byte ")")) m ≡ true → Complete (Word w ∷ p ∷ l ∷ m ∷ []) command.QueueUsage
unfolding table
ask_usage w p l m e f g h = record { bare = form-at 82 (Word w ∷ p ∷ l ∷ m ∷ []) refl (and_from _ _ e (and_from _ _ f (and_from _ _ g (and_from _ _ h refl)))); ended = λ x t. form-at 83 (Word w ∷ p ∷ l ∷ m ∷ x ∷ []) refl (and_from _ _ e (and_from _ _ f (and_from _ _ g (and_from _ _ h (and_from _ _ t refl))))) }

abbrev selected : List (List Slot)
selected = before_all (Key (codes "pg_notify")) called ++ before_all (Key (codes "pg_listening_channels")) asked ++ before_all (Key (codes "pg_notification_queue_usage")) asked

select_ways : filter_map (after_first (Word (codes "select"))) table_slots ≡ selected
unfolding table
select_ways = refl

selected_call : (v : List ℕ) → str_eq_ignore_ascii_case (codes "pg_notify") v ≡ true → filter_map (after_first (Word v)) selected ≡ called
selected_call v e = alike v (codes "pg_notify") selected (key-word (codes "pg_notify") v e)

selected_listening : (v : List ℕ) → str_eq_ignore_ascii_case (codes "pg_listening_channels") v ≡ true → filter_map (after_first (Word v)) selected ≡ asked
selected_listening v e = alike v (codes "pg_listening_channels") selected (key-word (codes "pg_listening_channels") v e)

selected_usage : (v : List ℕ) → str_eq_ignore_ascii_case (codes "pg_notification_queue_usage") v ≡ true → filter_map (after_first (Word v)) selected ≡ asked
selected_usage v e = alike v (codes "pg_notification_queue_usage") selected (key-word (codes "pg_notification_queue_usage") v e)

selected_none : (l : Lexeme) → fits_slot (Key (codes "pg_notify")) l ≡ false → fits_slot (Key (codes "pg_listening_channels")) l ≡ false → fits_slot (Key (codes "pg_notification_queue_usage")) l ≡ false → filter_map (after_first l) selected ≡ []
selected_none l e f g = rw (e, f, g) refl

-- after a word that is one of the three
selected_word : (text w v : List ℕ) (at : ℕ) (ahead : List Token) → str_eq_ignore_ascii_case (codes "select") w ≡ true → (let token : Token = record { lexeme = Word v; at = at } in Stands text (Word w ∷ []) selected (token ∷ ahead))
    → (let token : Token = record { lexeme = Word v; at = at } in ReadsAs text (outcome (selecting (length text) (token ∷ ahead))))
selected_word text w v at ahead e s =
    let token : Token = record { lexeme = Word v; at = at } in
    let end : ℕ = length text in
    let next : Stands text (Word w ∷ Word v ∷ []) (filter_map (after_first (Word v)) selected) ahead = stands-next text (Word w ∷ []) selected token ahead s in
    elim (cases_Bool (str_eq_ignore_ascii_case (codes "pg_notify") v)) [
      | inl f ↦ subst (λ (b : Bool). ReadsAs text (outcome (cond b (calling end ahead) (cond (takes (Key (codes "pg_listening_channels")) (token ∷ ahead)) (asking end command.ListeningChannels ahead)
          (cond (takes (Key (codes "pg_notification_queue_usage")) (token ∷ ahead)) (asking end command.QueueUsage ahead) (Err at)))))) (sym f)
          (calling-reads text (Word w ∷ Word v ∷ []) ahead (stands-by text (Word w ∷ Word v ∷ []) (filter_map (after_first (Word v)) selected) called ahead (selected_call v f) next)
          (record { forms = λ o c z some more channel payload ho one hc two hz. call_forms w (Word v) o c z some more channel payload e f ho one hc two hz }))
      | inr f ↦ subst (λ (b : Bool). ReadsAs text (outcome (cond b (calling end ahead) (cond (takes (Key (codes "pg_listening_channels")) (token ∷ ahead)) (asking end command.ListeningChannels ahead)
          (cond (takes (Key (codes "pg_notification_queue_usage")) (token ∷ ahead)) (asking end command.QueueUsage ahead) (Err at)))))) (sym f)
          (elim (cases_Bool (str_eq_ignore_ascii_case (codes "pg_listening_channels") v)) [
            | inl g ↦ subst (λ (b : Bool). ReadsAs text (outcome (cond b (asking end command.ListeningChannels ahead) (cond (takes (Key (codes "pg_notification_queue_usage")) (token ∷ ahead)) (asking end command.QueueUsage ahead) (Err at))))) (sym g)
                (asking-reads text (Word w ∷ Word v ∷ []) command.ListeningChannels ahead (stands-by text (Word w ∷ Word v ∷ []) (filter_map (after_first (Word v)) selected) asked ahead (selected_listening v g) next)
                (λ l m h k. ask_listening w (Word v) l m e g h k))
            | inr g ↦ subst (λ (b : Bool). ReadsAs text (outcome (cond b (asking end command.ListeningChannels ahead) (cond (takes (Key (codes "pg_notification_queue_usage")) (token ∷ ahead)) (asking end command.QueueUsage ahead) (Err at))))) (sym g)
                (elim (cases_Bool (str_eq_ignore_ascii_case (codes "pg_notification_queue_usage") v)) [
                  | inl h ↦ subst (λ (b : Bool). ReadsAs text (outcome (cond b (asking end command.QueueUsage ahead) (Err at)))) (sym h)
                      (asking-reads text (Word w ∷ Word v ∷ []) command.QueueUsage ahead (stands-by text (Word w ∷ Word v ∷ []) (filter_map (after_first (Word v)) selected) asked ahead (selected_usage v h) next)
                      (λ l m i k. ask_usage w (Word v) l m e h i k))
                  | inr h ↦ subst (λ (b : Bool). ReadsAs text (outcome (cond b (asking end command.QueueUsage ahead) (Err at)))) (sym h)
                      (stands-stop text (Word w ∷ []) selected token ahead s (some-ways selected refl) (selected_none (Word v) f g h))
                ])
          ])
    ]

select_front : (text w : List ℕ) (l : Lexeme) (at : ℕ) (ahead : List Token) → str_eq_ignore_ascii_case (codes "select") w ≡ true → (let token : Token = record { lexeme = l; at = at } in Stands text (Word w ∷ []) selected (token ∷ ahead))
    → (let token : Token = record { lexeme = l; at = at } in ReadsAs text (outcome (selecting (length text) (token ∷ ahead))))
select_front text w (Word v) at ahead e s = selected_word text w v at ahead e s
select_front text w (Quoted x) at ahead e s = let token : Token = record { lexeme = Quoted x; at = at } in stands-stop text (Word w ∷ []) selected token ahead s (some-ways selected refl) refl
select_front text w (Literal x) at ahead e s = let token : Token = record { lexeme = Literal x; at = at } in stands-stop text (Word w ∷ []) selected token ahead s (some-ways selected refl) refl
select_front text w (Number x) at ahead e s = let token : Token = record { lexeme = Number x; at = at } in stands-stop text (Word w ∷ []) selected token ahead s (some-ways selected refl) refl
select_front text w (Sign x) at ahead e s = let token : Token = record { lexeme = Sign x; at = at } in stands-stop text (Word w ∷ []) selected token ahead s (some-ways selected refl) refl
select_front text w Wrong at ahead e s = let token : Token = record { lexeme = Wrong; at = at } in stands-stop text (Word w ∷ []) selected token ahead s (some-ways selected refl) refl

select-reads : (text w : List ℕ) (ahead : List Token) → str_eq_ignore_ascii_case (codes "select") w ≡ true → Stands text (Word w ∷ []) selected ahead → ReadsAs text (outcome (selecting (length text) ahead))
select-reads text w [] e s = stands-lack text (Word w ∷ []) selected s (some-ways selected refl) refl
select-reads text w (token ∷ ahead) e s = select_front text w token.lexeme token.at ahead e s

-- no word of the table
no_ways : (w : List ℕ) → str_eq_ignore_ascii_case (codes "begin") w ≡ false → str_eq_ignore_ascii_case (codes "start") w ≡ false → str_eq_ignore_ascii_case (codes "commit") w ≡ false → str_eq_ignore_ascii_case (codes "end") w ≡ false → str_eq_ignore_ascii_case (codes "rollback") w ≡ false → str_eq_ignore_ascii_case (codes "abort") w ≡ false → str_eq_ignore_ascii_case (codes "savepoint") w ≡ false → str_eq_ignore_ascii_case (codes "release") w ≡ false → str_eq_ignore_ascii_case (codes "listen") w ≡ false → str_eq_ignore_ascii_case (codes "unlisten") w ≡ false → str_eq_ignore_ascii_case (codes "notify") w ≡ false → str_eq_ignore_ascii_case (codes "select") w ≡ false → filter_map (after_first (Word w)) table_slots ≡ []
unfolding table
no_ways w e0 e1 e2 e3 e4 e5 e6 e7 e8 e9 e10 e11 = rw (e0, e1, e2, e3, e4, e5, e6, e7, e8, e9, e10, e11) refl

no_word : (text w : List ℕ) (at : ℕ) (ahead : List Token) → (let token : Token = record { lexeme = Word w; at = at } in Stands text [] table_slots (token ∷ ahead)) → str_eq_ignore_ascii_case (codes "begin") w ≡ false → str_eq_ignore_ascii_case (codes "start") w ≡ false → str_eq_ignore_ascii_case (codes "commit") w ≡ false → str_eq_ignore_ascii_case (codes "end") w ≡ false → str_eq_ignore_ascii_case (codes "rollback") w ≡ false → str_eq_ignore_ascii_case (codes "abort") w ≡ false → str_eq_ignore_ascii_case (codes "savepoint") w ≡ false → str_eq_ignore_ascii_case (codes "release") w ≡ false → str_eq_ignore_ascii_case (codes "listen") w ≡ false → str_eq_ignore_ascii_case (codes "unlisten") w ≡ false → str_eq_ignore_ascii_case (codes "notify") w ≡ false → str_eq_ignore_ascii_case (codes "select") w ≡ false
    → ReadsAs text (command.Bad at)
unfolding table
no_word text w at ahead s e0 e1 e2 e3 e4 e5 e6 e7 e8 e9 e10 e11 =
    let token : Token = record { lexeme = Word w; at = at } in
    stands-stop text [] table_slots token ahead s (some-ways table_slots refl) (no_ways w e0 e1 e2 e3 e4 e5 e6 e7 e8 e9 e10 e11)

-- the words that are tried from one on
abbrev from_select : List ℕ → Option Verb
from_select w = cond (str_eq_ignore_ascii_case (codes "select") w) (Some verb.Select) (None)

abbrev from_notify : List ℕ → Option Verb
from_notify w = cond (str_eq_ignore_ascii_case (codes "notify") w) (Some verb.Notify) (from_select w)

abbrev from_unlisten : List ℕ → Option Verb
from_unlisten w = cond (str_eq_ignore_ascii_case (codes "unlisten") w) (Some verb.Unlisten) (from_notify w)

abbrev from_listen : List ℕ → Option Verb
from_listen w = cond (str_eq_ignore_ascii_case (codes "listen") w) (Some verb.Listen) (from_unlisten w)

abbrev from_release : List ℕ → Option Verb
from_release w = cond (str_eq_ignore_ascii_case (codes "release") w) (Some verb.Release) (from_listen w)

abbrev from_savepoint : List ℕ → Option Verb
from_savepoint w = cond (str_eq_ignore_ascii_case (codes "savepoint") w) (Some verb.Savepoint) (from_release w)

abbrev from_abort : List ℕ → Option Verb
from_abort w = cond (str_eq_ignore_ascii_case (codes "abort") w) (Some verb.Abort) (from_savepoint w)

abbrev from_rollback : List ℕ → Option Verb
from_rollback w = cond (str_eq_ignore_ascii_case (codes "rollback") w) (Some verb.Rollback) (from_abort w)

abbrev from_end : List ℕ → Option Verb
from_end w = cond (str_eq_ignore_ascii_case (codes "end") w) (Some verb.Commit) (from_rollback w)

abbrev from_commit : List ℕ → Option Verb
from_commit w = cond (str_eq_ignore_ascii_case (codes "commit") w) (Some verb.Commit) (from_end w)

abbrev from_start : List ℕ → Option Verb
from_start w = cond (str_eq_ignore_ascii_case (codes "start") w) (Some verb.Start) (from_commit w)

-- the word that a line begins with
command-reads : (text w : List ℕ) (at : ℕ) (ahead : List Token) → (let token : Token = record { lexeme = Word w; at = at } in Stands text [] table_slots (token ∷ ahead))
    → (let token : Token = record { lexeme = Word w; at = at } in ReadsAs text (outcome (starting (length text) (verb_of w) (token ∷ ahead))))
command-reads text w at ahead s =
    let token : Token = record { lexeme = Word w; at = at } in
    let end : ℕ = length text in
    elim (cases_Bool (str_eq_ignore_ascii_case (codes "begin") w)) [
      | inl e0 ↦ subst (λ (b : Bool). ReadsAs text (outcome (starting end (cond b (Some verb.Begin) (from_start w)) (token ∷ ahead)))) (sym e0) (begin-reads text w ahead e0 (begun text (codes "begin") w at worked ahead e0 begin_ways s))
      | inr e0 ↦ subst (λ (b : Bool). ReadsAs text (outcome (starting end (cond b (Some verb.Begin) (from_start w)) (token ∷ ahead)))) (sym e0) (
          elim (cases_Bool (str_eq_ignore_ascii_case (codes "start") w)) [
            | inl e1 ↦ subst (λ (b : Bool). ReadsAs text (outcome (starting end (cond b (Some verb.Start) (from_commit w)) (token ∷ ahead)))) (sym e1) (start-reads text w ahead e1 (begun text (codes "start") w at (before_all (Key (codes "transaction")) done) ahead e1 start_ways s))
            | inr e1 ↦ subst (λ (b : Bool). ReadsAs text (outcome (starting end (cond b (Some verb.Start) (from_commit w)) (token ∷ ahead)))) (sym e1) (
                elim (cases_Bool (str_eq_ignore_ascii_case (codes "commit") w)) [
                  | inl e2 ↦ subst (λ (b : Bool). ReadsAs text (outcome (starting end (cond b (Some verb.Commit) (from_end w)) (token ∷ ahead)))) (sym e2) (commit-reads text w ahead e2 (begun text (codes "commit") w at worked ahead e2 commit_ways s))
                  | inr e2 ↦ subst (λ (b : Bool). ReadsAs text (outcome (starting end (cond b (Some verb.Commit) (from_end w)) (token ∷ ahead)))) (sym e2) (
                      elim (cases_Bool (str_eq_ignore_ascii_case (codes "end") w)) [
                        | inl e3 ↦ subst (λ (b : Bool). ReadsAs text (outcome (starting end (cond b (Some verb.Commit) (from_rollback w)) (token ∷ ahead)))) (sym e3) (end-reads text w ahead e3 (begun text (codes "end") w at worked ahead e3 end_ways s))
                        | inr e3 ↦ subst (λ (b : Bool). ReadsAs text (outcome (starting end (cond b (Some verb.Commit) (from_rollback w)) (token ∷ ahead)))) (sym e3) (
                            elim (cases_Bool (str_eq_ignore_ascii_case (codes "rollback") w)) [
                              | inl e4 ↦ subst (λ (b : Bool). ReadsAs text (outcome (starting end (cond b (Some verb.Rollback) (from_abort w)) (token ∷ ahead)))) (sym e4) (rollback-reads text w ahead e4 (begun text (codes "rollback") w at rolled ahead e4 rollback_ways s))
                              | inr e4 ↦ subst (λ (b : Bool). ReadsAs text (outcome (starting end (cond b (Some verb.Rollback) (from_abort w)) (token ∷ ahead)))) (sym e4) (
                                  elim (cases_Bool (str_eq_ignore_ascii_case (codes "abort") w)) [
                                    | inl e5 ↦ subst (λ (b : Bool). ReadsAs text (outcome (starting end (cond b (Some verb.Abort) (from_savepoint w)) (token ∷ ahead)))) (sym e5) (abort-reads text w ahead e5 (begun text (codes "abort") w at worked ahead e5 abort_ways s))
                                    | inr e5 ↦ subst (λ (b : Bool). ReadsAs text (outcome (starting end (cond b (Some verb.Abort) (from_savepoint w)) (token ∷ ahead)))) (sym e5) (
                                        elim (cases_Bool (str_eq_ignore_ascii_case (codes "savepoint") w)) [
                                          | inl e6 ↦ subst (λ (b : Bool). ReadsAs text (outcome (starting end (cond b (Some verb.Savepoint) (from_release w)) (token ∷ ahead)))) (sym e6) (naming-reads text (Word w ∷ []) command.Savepoint ahead (begun text (codes "savepoint") w at named ahead e6 savepoint_ways s) (savepoint_complete w e6))
                                          | inr e6 ↦ subst (λ (b : Bool). ReadsAs text (outcome (starting end (cond b (Some verb.Savepoint) (from_release w)) (token ∷ ahead)))) (sym e6) (
                                              elim (cases_Bool (str_eq_ignore_ascii_case (codes "release") w)) [
                                                | inl e7 ↦ subst (λ (b : Bool). ReadsAs text (outcome (starting end (cond b (Some verb.Release) (from_listen w)) (token ∷ ahead)))) (sym e7) (saving-reads text (Word w ∷ []) command.Release ahead (begun text (codes "release") w at saved ahead e7 release_ways s) (release_complete w e7))
                                                | inr e7 ↦ subst (λ (b : Bool). ReadsAs text (outcome (starting end (cond b (Some verb.Release) (from_listen w)) (token ∷ ahead)))) (sym e7) (
                                                    elim (cases_Bool (str_eq_ignore_ascii_case (codes "listen") w)) [
                                                      | inl e8 ↦ subst (λ (b : Bool). ReadsAs text (outcome (starting end (cond b (Some verb.Listen) (from_unlisten w)) (token ∷ ahead)))) (sym e8) (naming-reads text (Word w ∷ []) command.Listen ahead (begun text (codes "listen") w at named ahead e8 listen_ways s) (listen_complete w e8))
                                                      | inr e8 ↦ subst (λ (b : Bool). ReadsAs text (outcome (starting end (cond b (Some verb.Listen) (from_unlisten w)) (token ∷ ahead)))) (sym e8) (
                                                          elim (cases_Bool (str_eq_ignore_ascii_case (codes "unlisten") w)) [
                                                            | inl e9 ↦ subst (λ (b : Bool). ReadsAs text (outcome (starting end (cond b (Some verb.Unlisten) (from_notify w)) (token ∷ ahead)))) (sym e9) (unlistening-reads text (Word w ∷ []) ahead (begun text (codes "unlisten") w at unlisted ahead e9 unlisten_ways s) (unlisten_name w e9) (unlisten_all w e9))
                                                            | inr e9 ↦ subst (λ (b : Bool). ReadsAs text (outcome (starting end (cond b (Some verb.Unlisten) (from_notify w)) (token ∷ ahead)))) (sym e9) (
                                                                elim (cases_Bool (str_eq_ignore_ascii_case (codes "notify") w)) [
                                                                  | inl e10 ↦ subst (λ (b : Bool). ReadsAs text (outcome (starting end (cond b (Some verb.Notify) (from_select w)) (token ∷ ahead)))) (sym e10) (notifying-reads text (Word w ∷ []) ahead (begun text (codes "notify") w at (before_all Name paid) ahead e10 notify_ways s) (notify_complete w e10))
                                                                  | inr e10 ↦ subst (λ (b : Bool). ReadsAs text (outcome (starting end (cond b (Some verb.Notify) (from_select w)) (token ∷ ahead)))) (sym e10) (
                                                                      elim (cases_Bool (str_eq_ignore_ascii_case (codes "select") w)) [
                                                                        | inl e11 ↦ subst (λ (b : Bool). ReadsAs text (outcome (starting end (cond b (Some verb.Select) (None)) (token ∷ ahead)))) (sym e11) (select-reads text w ahead e11 (begun text (codes "select") w at selected ahead e11 select_ways s))
                                                                        | inr e11 ↦ subst (λ (b : Bool). ReadsAs text (outcome (starting end (cond b (Some verb.Select) (None)) (token ∷ ahead)))) (sym e11) (no_word text w at ahead s e0 e1 e2 e3 e4 e5 e6 e7 e8 e9 e10 e11)
                                                                      ])
                                                                ])
                                                          ])
                                                    ])
                                              ])
                                        ])
                                  ])
                            ])
                      ])
                ])
          ])
    ]

-- a line that begins with something else is empty, or goes wrong there
abbrev start_ways_of : Lexeme → List (List Slot)
start_ways_of l = filter_map (after_first l) table_slots

empty_complete : Complete [] command.Empty
unfolding table
empty_complete = record { bare = form-at 0 [] refl refl; ended = λ l f. form-at 1 (l ∷ []) refl (and_from _ _ f refl) }

start_semicolon : (l : Lexeme) → fits_slot (Punct (byte ";")) l ≡ true → start_ways_of l ≡ [] ∷ []
unfolding table
start_semicolon l t = sign-cases (λ l. start_ways_of l ≡ [] ∷ []) (byte ";") (λ s e. rw e refl) l t

start_some : table_slots ≢ []
unfolding table
start_some = some-ways table_slots refl

front_reads : (text : List ℕ) (l : Lexeme) (at : ℕ) (ahead : List Token) → (let token : Token = record { lexeme = l; at = at } in Stands text [] table_slots (token ∷ ahead)) → (fits_slot (Punct (byte ";")) l ≡ false → start_ways_of l ≡ [])
    → (let token : Token = record { lexeme = l; at = at } in ReadsAs text (outcome (closing (length text) command.Empty (token ∷ ahead))))
front_reads text l at ahead s other =
    let token : Token = record { lexeme = l; at = at } in
    closing-reads text [] table_slots command.Empty (token ∷ ahead) s (record { some = start_some; semicolon = start_semicolon; other = other }) empty_complete

token-reads : (text : List ℕ) (l : Lexeme) (at : ℕ) (ahead : List Token) → (let token : Token = record { lexeme = l; at = at } in Stands text [] table_slots (token ∷ ahead))
    → (let token : Token = record { lexeme = l; at = at } in ReadsAs text (outcome (stated (length text) (token ∷ ahead))))
unfolding table
token-reads text (Word w) at ahead s = command-reads text w at ahead s
token-reads text (Quoted x) at ahead s = front_reads text (Quoted x) at ahead s (λ t. refl)
token-reads text (Literal x) at ahead s = front_reads text (Literal x) at ahead s (λ t. refl)
token-reads text (Number x) at ahead s = front_reads text (Number x) at ahead s (λ t. refl)
token-reads text (Sign x) at ahead s = front_reads text (Sign x) at ahead s (λ t. rw t refl)
token-reads text Wrong at ahead s = front_reads text Wrong at ahead s (λ t. refl)

some-reads : (text : List ℕ) (ahead : List Token) → Stands text [] table_slots ahead → ReadsAs text (outcome (stated (length text) ahead))
some-reads text [] s = stands-whole text [] table_slots command.Empty s empty_complete.bare
some-reads text (token ∷ ahead) s = token-reads text token.lexeme token.at ahead s

-- what the code reads is what the line reads as
pub stated-reads : (text : List ℕ) → ReadsAs text (outcome (stated (length text) (tokens text)))
stated-reads text = some-reads text (tokens text) (stands-start text)
