-- What a run comes to, from how its input was read and answered.
use Rattle.std.proofs.Common.{◌≡◌, ℕ, ◌+◌, ◌<◌, List, take, Option, Result, Ok, Err, IfSome, sym, ◌∙◌, inl, inr, refl, subst, arith}
use Rattle.std.specs.Io.KnownBytes.{Consumes}
use Rattle.pgn_base.specs.declared.limits.TheConstants.{INPUT_BYTES_MAX}
use Rattle.pgn_base.specs.Outside.{Rose}
use Rattle.pgn_model.specs.Walk.{Settings}
use Rattle.pgn_run.specs.Calls.{RunEnds}
use Rattle.pgn_run.specs.Run.{Answers}
use Rattle.pgn_scenario.specs.declared.input.Unread.{Unread}
use Rattle.pgn_scenario.specs.declared.input.Unread.TheVariants as unread
use Rattle.pgn_run.specs.declared.print.Shows.{Shows}
use Rattle.pgn_run.specs.declared.status.Status.{Status}
use Rattle.pgn_run.specs.declared.status.Status.TheVariants.{BadScenario, NoMemory, ReadFault, WriteFault}
use Rattle.pgn_run.proofs.RunLaws.{bad-scenario-reads, done-at-end, done-runs, faulty-refused, if-some, memory-nothing, memory-shows, own-run, reads-done, write-fault-runs}

-- no other status is that of a read fault
abbrev IsReadFault : Status → Type 0
IsReadFault ReadFault = Unit {0}
IsReadFault status = ⊥

-- nor that of want of memory
abbrev IsShort : Status → Type 0
IsShort NoMemory = Unit {0}
IsShort status = ⊥

-- what was not read for want of memory did not fail
abbrev HasFailed : {T : Type 0} → Result T Unread → Type 0
HasFailed (Ok x) = ⊥
HasFailed (Err unread.Failed) = Unit {0}
HasFailed (Err unread.Memory) = ⊥

module _ {S K : Type 0} (left : S → Option (List ℕ)) (faults : S → ℕ) (held : K → Option (List ℕ)) (sink_faults : K → ℕ) (shows : Shows) (settings : Settings) (source source_now : S) where
  -- where the input was read and answered
  pub run-answered : {T : Type 0} (sink sink_now : K) (input : List ℕ) (whole : T) (status : Status) (read : Result T Unread) → read ≡ Ok whole → (faults source < faults source_now → read ≡ Err unread.Failed)
      → IfSome (left source) (λ xs. input ≡ take 16777217 xs) → Consumes (left source) (left source_now) input → Answers shows settings input (held sink) (held sink_now) (sink_faults sink) (sink_faults sink_now) status
      → (sink_faults sink < sink_faults sink_now → status ≡ WriteFault) → RunEnds left faults held sink_faults shows settings source source_now sink sink_now status
  run-answered sink sink_now input whole status read is rose bytes consumed answers sink_rose = record {
    done = done-runs shows settings (left source) input (held sink) (held sink_now) (sink_faults sink) (sink_faults sink_now) status bytes answers;
    done_reads_all = done-at-end shows settings (left source) input (held sink) (held sink_now) (sink_faults sink) (sink_faults sink_now) status bytes answers (left source_now) consumed;
    own = own-run shows settings (left source) input (held sink) (held sink_now) (sink_faults sink) (sink_faults sink_now) status bytes answers;
    bad_scenario = bad-scenario-reads shows settings (left source) input (held sink) (held sink_now) (sink_faults sink) (sink_faults sink_now) status bytes answers;
    bad_scenario_where_due = λ fault reads none. faulty-refused shows settings (left source) input (held sink) (held sink_now) (sink_faults sink) (sink_faults sink_now) status fault bytes answers reads;
    bad_scenario_writes_nothing = λ fault e. (at (BadScenario fault) e).1;
    read_fault = λ e. absurd (at ReadFault e);
    read_fault_where_due = λ less. absurd (subst HasFailed (sym (rose less) ∙ is) tt);
    read_fault_writes_nothing = λ e. absurd (at ReadFault e);
    write_fault = λ e. (at WriteFault e).1;
    write_fault_where_due = sink_rose;
    write_fault_writes_a_prefix = write-fault-runs shows settings (left source) input (held sink) (held sink_now) (sink_faults sink) (sink_faults sink_now) status bytes answers;
    no_memory_writes_nothing = memory-nothing shows settings (left source) input (held sink) (held sink_now) (sink_faults sink) (sink_faults sink_now) status bytes answers;
    no_memory_writes_first_lines = memory-shows shows settings (left source) input (held sink) (held sink_now) (sink_faults sink) (sink_faults sink_now) status bytes answers;
    what_was_read = λ read.
        if-some (left source) (λ xs. input ≡ take 16777217 xs) (λ xs. Consumes (left source) (left source_now) (take (INPUT_BYTES_MAX + 1) xs))
        (λ xs b. subst (λ (ys : List ℕ). Consumes (left source) (left source_now) ys) b consumed) bytes;
    complete = λ scenario reads none sink_none. reads-done shows settings (left source) input (held sink) (held sink_now) (sink_faults sink) (sink_faults sink_now) status scenario bytes answers reads sink_none;
  }
    where
      at : (other : Status) → status ≡ other → Answers shows settings input (held sink) (held sink_now) (sink_faults sink) (sink_faults sink_now) other
      at other e = subst (λ (s : Status). Answers shows settings input (held sink) (held sink_now) (sink_faults sink) (sink_faults sink_now) s) e answers

  -- where the source failed
  pub run-unread : (sink : K) → Rose (faults source) (faults source_now) → RunEnds left faults held sink_faults shows settings source source_now sink sink ReadFault
  run-unread sink rose = record {
    done = λ e. absurd (subst IsReadFault e tt);
    done_reads_all = λ e. absurd (subst IsReadFault e tt);
    own = tt;
    bad_scenario = λ fault e. absurd (subst IsReadFault e tt);
    bad_scenario_where_due = λ fault reads none. absurd (none rose);
    bad_scenario_writes_nothing = λ fault e. refl;
    read_fault = λ e. rose;
    read_fault_where_due = λ less. refl;
    read_fault_writes_nothing = λ e. refl;
    write_fault = λ e. absurd (subst IsReadFault e tt);
    write_fault_where_due = λ less. absurd (omega (arith, less));
    write_fault_writes_a_prefix = λ e. absurd (subst IsReadFault e tt);
    no_memory_writes_nothing = λ print once e. refl;
    no_memory_writes_first_lines = λ e. inl refl;
    what_was_read = λ read. absurd read;
    complete = λ scenario reads none sink_none. absurd (none rose);
  }

  -- where memory did not suffice to read it
  pub run-short : {T : Type 0} (sink : K) (read : Result T Unread) → read ≡ Err unread.Memory → (faults source < faults source_now → read ≡ Err unread.Failed)
      → RunEnds left faults held sink_faults shows settings source source_now sink sink NoMemory
  run-short sink read is rose = record {
    done = λ e. absurd (subst IsShort e tt);
    done_reads_all = λ e. absurd (subst IsShort e tt);
    own = tt;
    bad_scenario = λ fault e. absurd (subst IsShort e tt);
    bad_scenario_where_due = λ fault reads none. inr refl;
    bad_scenario_writes_nothing = λ fault e. refl;
    read_fault = λ e. absurd (subst IsShort e tt);
    read_fault_where_due = λ less. absurd (subst HasFailed (sym (rose less) ∙ is) tt);
    read_fault_writes_nothing = λ e. refl;
    write_fault = λ e. absurd (subst IsShort e tt);
    write_fault_where_due = λ less. absurd (omega (arith, less));
    write_fault_writes_a_prefix = λ e. absurd (subst IsShort e tt);
    no_memory_writes_nothing = λ print once e. refl;
    no_memory_writes_first_lines = λ e. inl refl;
    what_was_read = λ read. absurd read;
    complete = λ scenario reads none sink_none. inr refl;
  }
