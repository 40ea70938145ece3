-- Inputs and the scenarios that they read as, written out.
use Rattle.std.specs.Prelude.{ℕ, List, [], ◌∷◌, ◌++◌, map, codes, decimal}
use Rattle.std.specs.List.{range_with_len}
use Rattle.pgn_base.specs.declared.answers.Which.TheVariants.{ChannelEmpty}
use Rattle.pgn_base.specs.declared.command.Command.TheVariants as command
use Rattle.pgn_language.specs.declared.scenario.Act.TheVariants.{Run, Signal, Await, Quit}
use Rattle.pgn_language.specs.declared.scenario.Scenario.{Scenario}
use Rattle.pgn_language.specs.Lines.{Says, Opens}

-- each kind of meta line, with spaces, tabs and a carriage return, a blank line, and a line that goes wrong
abbrev pub meta_input : List ℕ
meta_input = codes " \\session  a-1\t007 \n\\signal up\n\n \\await\tup\r\nLISTEN 5 \n\\await up\n\\quit\n"

-- its scenario: it has one flag, and its lines keep their numbers in the input
abbrev pub meta_scenario : Scenario
meta_scenario = record {
  sections = record {
    no = 1;
    name = codes "a-1";
    db = 7;
    lines = record { line = 2; text = codes "\\signal up"; act = Signal 0 }
        ∷ record { line = 4; text = codes "\\await\tup"; act = Await 0 }
        ∷ record { line = 5; text = codes "LISTEN 5"; act = Run (command.Bad 7) }
        ∷ record { line = 6; text = codes "\\await up"; act = Await 0 }
        ∷ record { line = 7; text = codes "\\quit"; act = Quit } ∷ [];
    note_lines = 0;
  } ∷ [];
  flags = codes "up" ∷ [];
}

-- two sections: flags are numbered in order of first appearance, be it at an await, and lines that notify are counted
abbrev pub two_sections : List ℕ
two_sections = codes "\\session a 1\n\\await b1\nNOTIFY c\nNOTIFY 5\n\\signal a1\n\\session b 4294967295\n\\await a1\nSELECT pg_notify('c', '')\n\\signal b1"

-- their scenario
abbrev pub two_scenario : Scenario
two_scenario = record {
  sections = record {
    no = 1;
    name = codes "a";
    db = 1;
    lines = record { line = 2; text = codes "\\await b1"; act = Await 0 }
        ∷ record { line = 3; text = codes "NOTIFY c"; act = Run (command.Notify (record { channel = codes "c"; payload = [] })) }
        ∷ record { line = 4; text = codes "NOTIFY 5"; act = Run (command.Bad 7) }
        ∷ record { line = 5; text = codes "\\signal a1"; act = Signal 1 } ∷ [];
    note_lines = 1;
  } ∷ record {
    no = 2;
    name = codes "b";
    db = 4294967295;
    lines = record { line = 7; text = codes "\\await a1"; act = Await 1 }
        ∷ record { line = 8; text = codes "SELECT pg_notify('c', '')"; act = Run (command.PgNotify (record { channel = codes "c"; payload = [] })) }
        ∷ record { line = 9; text = codes "\\signal b1"; act = Signal 0 } ∷ [];
    note_lines = 1;
  } ∷ [];
  flags = codes "b1" ∷ codes "a1" ∷ [];
}

-- what lines say that begin so many sections, of different names
abbrev pub many_sections : ℕ → List Says
many_sections n = map (λ k. Opens (codes "s" ++ decimal k) 1) (range_with_len 1 n)

-- what lines say that begin a section and name so many flags, numbered from 1 on, each in this way
abbrev pub many_flags : (List ℕ → Says) → ℕ → List Says
many_flags names n = Opens (codes "a") 1 ∷ map (λ k. names (codes "f" ++ decimal k)) (range_with_len 1 n)

-- the scenario of `\session a_b 1`, `\quit`, a blank line, `\session b 1`, `LISTEN c`
abbrev pub quit_scenario : Scenario
quit_scenario = record {
  sections = record {
    no = 1;
    name = codes "a_b";
    db = 1;
    lines = record { line = 2; text = codes "\\quit"; act = Quit } ∷ [];
    note_lines = 0;
  } ∷ record {
    no = 2;
    name = codes "b";
    db = 1;
    lines = record { line = 5; text = codes "LISTEN c"; act = Run (command.Listen (codes "c")) } ∷ [];
    note_lines = 0;
  } ∷ [];
  flags = [];
}

-- the scenario of a section with a name of 63 letters and a call of pg_notify that is past a limit: it is not counted
abbrev pub limit_scenario : Scenario
limit_scenario = record {
  sections = record {
    no = 1;
    name = codes "aaaaaaaaaaaaaaaaaaaaaaaaaaaaaaaaaaaaaaaaaaaaaaaaaaaaaaaaaaaaaaa";
    db = 1;
    lines = record { line = 2; text = codes "SELECT pg_notify('', '')"; act = Run (command.Invalid ChannelEmpty) } ∷ [];
    note_lines = 0;
  } ∷ [];
  flags = [];
}
