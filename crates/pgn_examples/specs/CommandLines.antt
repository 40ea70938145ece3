-- Command lines, and what they ask for.
use Rattle.std.specs.Prelude.{ℕ, true, false, List, [], ◌∷◌, ◌++◌, Option, Some, codes}
use Rattle.pgn_base.specs.declared.format.Format.TheVariants.{One, Two}
use Rattle.pgn_options.specs.declared.asked.Asked.{Asked}
use Rattle.pgn_options.specs.declared.asked.Asked.TheVariants.{Run, Drill, Check, Serve}

abbrev pub Line : Type 0
Line = List (List ℕ)

-- the words of `run` with limits and a format of its own, in each way in which they may be given, and with `--live`
abbrev pub runs_with_limits : List Line
runs_with_limits =
    (codes "run" ∷ [])
    ∷ (codes "run" ∷ codes "--pages" ∷ codes "2" ∷ [])
    ∷ (codes "run" ∷ codes "--pages=2" ∷ [])
    ∷ (codes "run" ∷ codes "--pages" ∷ codes "+2" ∷ [])
    ∷ (codes "run" ∷ codes "--pages" ∷ codes "00000000000000000002" ∷ [])
    ∷ (codes "run" ∷ codes "--pages=1024" ∷ codes "--patience" ∷ codes "1" ∷ [])
    ∷ (codes "run" ∷ codes "--patience" ∷ codes "1000000000" ∷ codes "--pages" ∷ codes "1024" ∷ [])
    ∷ (codes "run" ∷ codes "--" ∷ [])
    ∷ (codes "run" ∷ codes "--patience=5" ∷ codes "--" ∷ [])
    ∷ (codes "run" ∷ codes "--live" ∷ [])
    ∷ (codes "run" ∷ codes "--live" ∷ codes "--pages" ∷ codes "2" ∷ codes "--patience=5" ∷ [])
    ∷ (codes "run" ∷ codes "--pages" ∷ codes "2" ∷ codes "--live" ∷ codes "--patience=5" ∷ [])
    ∷ (codes "run" ∷ codes "--patience=5" ∷ codes "--live" ∷ codes "--" ∷ [])
    ∷ (codes "run" ∷ codes "--format" ∷ codes "2" ∷ [])
    ∷ (codes "run" ∷ codes "--format=1" ∷ [])
    ∷ (codes "run" ∷ codes "--format" ∷ codes "02" ∷ [])
    ∷ (codes "run" ∷ codes "--format=+2" ∷ [])
    ∷ (codes "run" ∷ codes "--format" ∷ codes "2" ∷ codes "--pages=2" ∷ codes "--live" ∷ codes "--patience" ∷ codes "5" ∷ [])
    ∷ []

abbrev pub limits_of_runs : List (Option Asked)
limits_of_runs =
    Some (Run 256 10000000 One false)
    ∷ Some (Run 2 10000000 One false)
    ∷ Some (Run 2 10000000 One false)
    ∷ Some (Run 2 10000000 One false)
    ∷ Some (Run 2 10000000 One false)
    ∷ Some (Run 1024 1 One false)
    ∷ Some (Run 1024 1000000000 One false)
    ∷ Some (Run 256 10000000 One false)
    ∷ Some (Run 256 5 One false)
    ∷ Some (Run 256 10000000 One true)
    ∷ Some (Run 2 5 One true)
    ∷ Some (Run 2 5 One true)
    ∷ Some (Run 256 5 One true)
    ∷ Some (Run 256 10000000 Two false)
    ∷ Some (Run 256 10000000 One false)
    ∷ Some (Run 256 10000000 Two false)
    ∷ Some (Run 256 10000000 Two false)
    ∷ Some (Run 2 5 Two true)
    ∷ []

-- the words of `drill`, with and without `--`
abbrev pub drills : List Line
drills =
    (codes "drill" ∷ codes "7" ∷ codes "8" ∷ codes "200" ∷ [])
    ∷ (codes "drill" ∷ codes "--" ∷ codes "0" ∷ codes "1" ∷ codes "1" ∷ [])
    ∷ (codes "drill" ∷ codes "0" ∷ codes "--" ∷ codes "1" ∷ codes "1" ∷ [])
    ∷ (codes "drill" ∷ codes "0" ∷ codes "1" ∷ codes "1" ∷ codes "--" ∷ [])
    ∷ (codes "drill" ∷ codes "18446744073709551615" ∷ codes "32" ∷ codes "1000" ∷ [])
    ∷ []

abbrev pub numbers_of_drills : List (Option Asked)
numbers_of_drills =
    Some (Drill 7 8 200)
    ∷ Some (Drill 0 1 1)
    ∷ Some (Drill 0 1 1)
    ∷ Some (Drill 0 1 1)
    ∷ Some (Drill 18446744073709551615 32 1000)
    ∷ []

-- `wire`, with and without `--`
abbrev pub wires : List Line
wires = (codes "wire" ∷ []) ∷ (codes "wire" ∷ codes "--" ∷ []) ∷ []

-- `check`, with the options of `run` but `--live`
abbrev pub checks : List Line
checks =
    (codes "check" ∷ [])
    ∷ (codes "check" ∷ codes "--" ∷ [])
    ∷ (codes "check" ∷ codes "--pages=2" ∷ codes "--format" ∷ codes "2" ∷ [])
    ∷ (codes "check" ∷ codes "--patience" ∷ codes "5" ∷ codes "--pages" ∷ codes "1024" ∷ codes "--" ∷ [])
    ∷ []

abbrev pub limits_of_checks : List (Option Asked)
limits_of_checks =
    Some (Check 256 10000000 One)
    ∷ Some (Check 256 10000000 One)
    ∷ Some (Check 2 10000000 Two)
    ∷ Some (Check 1024 5 One)
    ∷ []

-- `serve`, with and without a number of seats
abbrev pub serves : List Line
serves =
    (codes "serve" ∷ [])
    ∷ (codes "serve" ∷ codes "--" ∷ [])
    ∷ (codes "serve" ∷ codes "--seats" ∷ codes "1" ∷ [])
    ∷ (codes "serve" ∷ codes "--seats=256" ∷ [])
    ∷ (codes "serve" ∷ codes "--seats" ∷ codes "+016" ∷ codes "--" ∷ [])
    ∷ []

abbrev pub seats_of_serves : List (Option Asked)
seats_of_serves = Some (Serve 64) ∷ Some (Serve 64) ∷ Some (Serve 1) ∷ Some (Serve 256) ∷ Some (Serve 16) ∷ []

-- words of which one number is out of its range, or none
abbrev pub wrong_numbers : List Line
wrong_numbers =
    (codes "run" ∷ codes "--pages" ∷ codes "1" ∷ [])
    ∷ (codes "run" ∷ codes "--pages" ∷ codes "1025" ∷ [])
    ∷ (codes "run" ∷ codes "--pages" ∷ codes "99999999999999999999" ∷ [])
    ∷ (codes "run" ∷ codes "--pages" ∷ codes "two" ∷ [])
    ∷ (codes "run" ∷ codes "--pages" ∷ codes "+" ∷ [])
    ∷ (codes "run" ∷ codes "--pages" ∷ codes "-2" ∷ [])
    ∷ (codes "run" ∷ codes "--pages=-2" ∷ [])
    ∷ (codes "run" ∷ codes "--pages=" ∷ [])
    ∷ (codes "run" ∷ codes "--patience" ∷ codes "0" ∷ [])
    ∷ (codes "run" ∷ codes "--patience" ∷ codes "1000000001" ∷ [])
    ∷ (codes "run" ∷ codes "--format" ∷ codes "0" ∷ [])
    ∷ (codes "run" ∷ codes "--format" ∷ codes "3" ∷ [])
    ∷ (codes "run" ∷ codes "--format=Two" ∷ [])
    ∷ (codes "run" ∷ codes "--format=" ∷ [])
    ∷ (codes "check" ∷ codes "--pages" ∷ codes "1" ∷ [])
    ∷ (codes "check" ∷ codes "--patience=0" ∷ [])
    ∷ (codes "check" ∷ codes "--format" ∷ codes "3" ∷ [])
    ∷ (codes "drill" ∷ codes "0" ∷ codes "0" ∷ codes "1" ∷ [])
    ∷ (codes "drill" ∷ codes "0" ∷ codes "33" ∷ codes "1" ∷ [])
    ∷ (codes "drill" ∷ codes "0" ∷ codes "1" ∷ codes "0" ∷ [])
    ∷ (codes "drill" ∷ codes "0" ∷ codes "1" ∷ codes "1001" ∷ [])
    ∷ (codes "drill" ∷ codes "18446744073709551616" ∷ codes "1" ∷ codes "1" ∷ [])
    ∷ (codes "drill" ∷ codes "-0" ∷ codes "1" ∷ codes "1" ∷ [])
    ∷ (codes "serve" ∷ codes "--seats" ∷ codes "0" ∷ [])
    ∷ (codes "serve" ∷ codes "--seats=257" ∷ [])
    ∷ (codes "serve" ∷ codes "--seats" ∷ codes "ten" ∷ [])
    ∷ (codes "serve" ∷ codes "--seats=" ∷ [])
    ∷ []

-- words of which one is not known, too many, too few, or in a wrong place
abbrev pub wrong_words : List Line
wrong_words =
    []
    ∷ ([] ∷ [])
    ∷ (codes "--help" ∷ [])
    ∷ (codes "help" ∷ [])
    ∷ (codes "walk" ∷ [])
    ∷ (codes "Run" ∷ [])
    ∷ (codes "--" ∷ codes "run" ∷ [])
    ∷ (codes "run" ∷ codes "run" ∷ [])
    ∷ (codes "run" ∷ codes "--help" ∷ [])
    ∷ (codes "run" ∷ codes "--page" ∷ codes "2" ∷ [])
    ∷ (codes "run" ∷ codes "--pages" ∷ [])
    ∷ (codes "run" ∷ codes "--pages" ∷ codes "--patience" ∷ codes "5" ∷ [])
    ∷ (codes "run" ∷ codes "--pages" ∷ codes "2" ∷ codes "--pages" ∷ codes "3" ∷ [])
    ∷ (codes "run" ∷ codes "--pages=2" ∷ codes "--pages=2" ∷ [])
    ∷ (codes "run" ∷ codes "--live" ∷ codes "--live" ∷ [])
    ∷ (codes "run" ∷ codes "--live=true" ∷ [])
    ∷ (codes "run" ∷ codes "--live=" ∷ [])
    ∷ (codes "run" ∷ codes "--live" ∷ codes "true" ∷ [])
    ∷ (codes "run" ∷ codes "--liv" ∷ [])
    ∷ (codes "run" ∷ codes "--pages" ∷ codes "--live" ∷ codes "2" ∷ [])
    ∷ (codes "run" ∷ codes "--" ∷ codes "--live" ∷ [])
    ∷ (codes "run" ∷ codes "--format" ∷ [])
    ∷ (codes "run" ∷ codes "--format" ∷ codes "2" ∷ codes "--format" ∷ codes "2" ∷ [])
    ∷ (codes "run" ∷ codes "--format" ∷ codes "--live" ∷ [])
    ∷ (codes "run" ∷ codes "--" ∷ codes "--format=2" ∷ [])
    ∷ (codes "drill" ∷ codes "--format=2" ∷ codes "0" ∷ codes "1" ∷ codes "1" ∷ [])
    ∷ (codes "wire" ∷ codes "--format=2" ∷ [])
    ∷ (codes "run" ∷ codes "--" ∷ codes "--" ∷ [])
    ∷ (codes "run" ∷ codes "--" ∷ codes "--pages" ∷ codes "2" ∷ [])
    ∷ (codes "drill" ∷ codes "1" ∷ codes "2" ∷ [])
    ∷ (codes "drill" ∷ codes "1" ∷ codes "2" ∷ codes "3" ∷ codes "4" ∷ [])
    ∷ (codes "drill" ∷ codes "--" ∷ codes "0" ∷ codes "--" ∷ codes "1" ∷ codes "1" ∷ [])
    ∷ (codes "drill" ∷ codes "--live" ∷ codes "0" ∷ codes "1" ∷ codes "1" ∷ [])
    ∷ (codes "drill" ∷ codes "--pages" ∷ codes "2" ∷ codes "0" ∷ codes "1" ∷ codes "1" ∷ [])
    ∷ (codes "wire" ∷ codes "wire" ∷ [])
    ∷ (codes "wire" ∷ [] ∷ [])
    ∷ (codes "wire" ∷ codes "--live" ∷ [])
    ∷ (codes "wire" ∷ codes "--" ∷ codes "--" ∷ [])
    ∷ (codes "Wire" ∷ [])
    ∷ (codes "check" ∷ codes "--live" ∷ [])
    ∷ (codes "check" ∷ codes "--live" ∷ codes "--format" ∷ codes "2" ∷ [])
    ∷ (codes "check" ∷ codes "--format=2" ∷ codes "--format=2" ∷ [])
    ∷ (codes "check" ∷ codes "--" ∷ codes "--format=2" ∷ [])
    ∷ (codes "check" ∷ codes "check" ∷ [])
    ∷ (codes "check" ∷ codes "--format" ∷ [])
    ∷ (codes "Check" ∷ [])
    ∷ (codes "serve" ∷ codes "--seats" ∷ [])
    ∷ (codes "serve" ∷ codes "16" ∷ [])
    ∷ (codes "serve" ∷ codes "--seats=2" ∷ codes "--seats=2" ∷ [])
    ∷ (codes "serve" ∷ codes "--" ∷ codes "--seats=2" ∷ [])
    ∷ (codes "serve" ∷ codes "--seat" ∷ codes "2" ∷ [])
    ∷ (codes "serve" ∷ codes "--pages" ∷ codes "2" ∷ [])
    ∷ (codes "serve" ∷ codes "--patience=5" ∷ [])
    ∷ (codes "serve" ∷ codes "--format=1" ∷ codes "--seats=2" ∷ [])
    ∷ (codes "serve" ∷ codes "--live" ∷ [])
    ∷ (codes "serve" ∷ codes "serve" ∷ [])
    ∷ (codes "Serve" ∷ [])
    ∷ (codes "run" ∷ codes "--seats" ∷ codes "2" ∷ [])
    ∷ (codes "check" ∷ codes "--seats=2" ∷ [])
    ∷ (codes "wire" ∷ codes "--seats=2" ∷ [])
    ∷ (codes "drill" ∷ codes "--seats=2" ∷ codes "0" ∷ codes "1" ∷ codes "1" ∷ [])
    ∷ []

-- the scenario of the least drill
abbrev pub least_drill : List ℕ
least_drill = codes "\\session d1 1\nLISTEN c1\nBEGIN\n\\signal up1\n\\await up1\nCOMMIT\nBEGIN\nSAVEPOINT s\nNOTIFY gone\nROLLBACK TO s\nNOTIFY c1, '167951807'\nCOMMIT\n"

-- the sections of the drill 7 4 2: the first sends an even number and then an odd one
abbrev pub first_of_four : List ℕ
first_of_four = codes "\\session d1 1\nLISTEN c1\nBEGIN\n\\signal up1\n\\await up1\n\\await up2\n\\await up3\n\\await up4\nCOMMIT\nNOTIFY c1, '1059165278'\nBEGIN\nSAVEPOINT s\nNOTIFY gone\nROLLBACK TO s\nNOTIFY c2, '2052263231'\nCOMMIT\n"

-- the second sends two odd ones
abbrev pub second_of_four : List ℕ
second_of_four = codes "\\session d2 1\nLISTEN c2\nBEGIN\n\\signal up2\n\\await up1\n\\await up2\n\\await up3\n\\await up4\nCOMMIT\nBEGIN\nSAVEPOINT s\nNOTIFY gone\nROLLBACK TO s\nNOTIFY c1, '1946856753'\nCOMMIT\nBEGIN\nSAVEPOINT s\nNOTIFY gone\nROLLBACK TO s\nNOTIFY c2, '585718673'\nCOMMIT\n"

-- and the last two
abbrev pub last_of_four : List ℕ
last_of_four =
    codes "\\session d3 1\nLISTEN c3\nBEGIN\n\\signal up3\n\\await up1\n\\await up2\n\\await up3\n\\await up4\nCOMMIT\nBEGIN\nSAVEPOINT s\nNOTIFY gone\nROLLBACK TO s\nNOTIFY c1, '572045545'\nCOMMIT\nBEGIN\nSAVEPOINT s\nNOTIFY gone\nROLLBACK TO s\nNOTIFY c2, '297257219'\nCOMMIT\n"
    ++ codes "\\session d4 1\nLISTEN c0\nBEGIN\n\\signal up4\n\\await up1\n\\await up2\n\\await up3\n\\await up4\nCOMMIT\nNOTIFY c1, '865189864'\nNOTIFY c2, '691615764'\n"

-- the second, were it to draw the numbers of the first once more
abbrev pub drawn_anew : List ℕ
drawn_anew = codes "\\session d2 1\nLISTEN c2\nBEGIN\n\\signal up2\n\\await up1\n\\await up2\n\\await up3\n\\await up4\nCOMMIT\nNOTIFY c1, '1059165278'\nBEGIN\nSAVEPOINT s\nNOTIFY gone\nROLLBACK TO s\nNOTIFY c2, '2052263231'\nCOMMIT\n"
