use Rattle.std.proofs.Common.{[], ◌∷◌, ◌++◌, codes, sym, append_assoc}
use Rattle.std.specs.Prelude.{flat_map}
use Rattle.pgn_language.specs.Quotes.{doubled_byte}
use Rattle.pgn_text.proofs.PutsLaws.{Puts-behind, Puts-same}
use Rattle.pgn_text.proofs.out.Out.channel_line.Goals as goal

pub returns : goal.returns
returns g c =
    Puts-behind _ c.mark.ensures
    (Puts-same (sym (append_assoc (codes "  \"" ++ flat_map (doubled_byte 34) c.args.name.now) (34 ∷ []) (10 ∷ [])))
    (rw c.as_bytes.ensures.value at c.quoted_in.ensures))
