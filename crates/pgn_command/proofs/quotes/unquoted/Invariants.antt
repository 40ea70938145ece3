use Rattle.std.proofs.Common.{◌≡◌, ◌<◌, ◌++◌, length, string_bytes}
use denote.Shadow.{shadow}
use denote.Text.{Utf8}
use Rattle.pgn_command.specs.Texts.{single, IsTwice}
use Rattle.pgn_command.proofs.quotes.unquoted.Given as goal

abbrev pub invariant-loop-at : goal.invariant-loop-at
invariant-loop-at l = record {
  built : string_bytes l.text ++ single l.quote l.rest ≡ single l.fn.inside.quote l.fn.inside.raw.now;
  twice : IsTwice l.quote l.rest;
  ascii : l.quote < 128;
  text : shadow (Utf8 l.rest);
}

abbrev pub decreases-loop-at : goal.decreases-loop-at
decreases-loop-at l = length l.rest
