use Rattle.std.proofs.Common.{Err, ◌∙◌, map, string_bytes, ap}
use Rattle.pgn_cli.specs.Program.{texts_of}
use Rattle.pgn_cli.proofs.EndLaws.{bad-words-come, comes-of, comes-to_no_memory, no-text}
use Rattle.pgn_cli.proofs.program.status_of.Goals as goal

pub returns-in-Ok : goal.returns-in-Ok
returns-in-Ok g c =
    comes-of c.args.words.now (λ words. map string_bytes words.items) c.in-Ok.words _ _ _ _ _ _ _ _ _ c.in-Ok.is (ap (λ ws. map string_bytes ws) c.as_slice.ensures.value) c.run_words.ensures

pub returns-in-Err-Memory : goal.returns-in-Err-Memory
returns-in-Err-Memory g c =
    comes-to_no_memory (texts_of c.args.words.now (λ words. map string_bytes words.items)) _ _ _ _
    (no-text c.args.words.now (λ words. map string_bytes words.items) (c.in-Err-Memory.is ∙ ap Err (rw c.in-Err-Memory.is at c.in-Err-Memory.field-0-is)))

pub returns-in-Err-NotText : goal.returns-in-Err-NotText
returns-in-Err-NotText g c =
    bad-words-come c.args.words.now (λ words. map string_bytes words.items) _ _ _ _ (c.in-Err-NotText.is ∙ ap Err (rw c.in-Err-NotText.is at c.in-Err-NotText.field-0-is))
