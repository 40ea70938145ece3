use Rattle.std.proofs.Common.{◌≡◌, ℕ, List, Option, sym, ap}
use Rattle.pgn_language.specs.declared.scenario.ScriptLine.{ScriptLine}
use Rattle.pgn_model.specs.declared.item.Item.{Item}
use Rattle.pgn_model.specs.Text.{item_lines, joined}
use Rattle.pgn_text.specs.declared.out.Out.{Out}
use Rattle.pgn_text.specs.Rendering.{Puts, marked}
use Rattle.pgn_text.proofs.PutsLaws.{Puts-one, Puts-same}
use Rattle.pgn_text.proofs.out.Out.item.Goals as goal

-- the lines of an item are those of what it is
shown : {S : Type 0} {held : S → Option (List ℕ)} {faults : S → ℕ} {s₀ s₁ : S} {o₀ o₁ : Out} (lines : List ScriptLine) (mark : Option ℕ) (item kind : Item) → item ≡ kind
    → Puts held faults s₀ o₀ s₁ o₁ (joined (marked mark (item_lines lines kind))) → Puts held faults s₀ o₀ s₁ o₁ (joined (marked mark (item_lines lines item)))
shown lines mark item kind e a = Puts-same (ap (λ (i : Item). joined (marked mark (item_lines lines i))) (sym e)) a

pub returns-in-Publish : goal.returns-in-Publish
returns-in-Publish g c = record { puts = shown _ _ _ _ c.in-Publish.is (Puts-one _ c.xid_line.ensures); passed = c.requires }

pub returns-in-QueueFull : goal.returns-in-QueueFull
returns-in-QueueFull g c = record { puts = shown _ _ _ _ c.in-QueueFull.is (Puts-one _ c.full.ensures); passed = c.requires }

pub returns-in-Leave : goal.returns-in-Leave
returns-in-Leave g c = record { puts = shown _ _ _ _ c.in-Leave.is (Puts-one _ c.text_line-in-Leave.ensures); passed = c.requires }

pub returns-in-Reply : goal.returns-in-Reply
returns-in-Reply g c = record { puts = shown _ _ _ _ c.in-Reply.is c.reply.ensures; passed = c.requires }

pub returns-in-Refuse : goal.returns-in-Refuse
returns-in-Refuse g c = record { puts = shown _ _ _ _ c.in-Refuse.is (Puts-one _ c.refusal_line.ensures); passed = c.requires }

pub returns-in-Channels : goal.returns-in-Channels
returns-in-Channels g c = record { puts = shown _ _ _ _ c.in-Channels.is (rw c.as_slice.ensures at c.channel_lines.ensures); passed = c.requires }

pub returns-in-Used : goal.returns-in-Used
returns-in-Used g c = record { puts = shown _ _ _ _ c.in-Used.is c.usage.ensures; passed = c.requires }

pub returns-in-Raise : goal.returns-in-Raise
returns-in-Raise g c = record { puts = shown _ _ _ _ c.in-Raise.is (Puts-one _ c.xid_line-in-Raise.ensures); passed = c.requires }

pub returns-in-Found : goal.returns-in-Found
returns-in-Found g c = record { puts = shown _ _ _ _ c.in-Found.is (Puts-one _ c.xid_line-in-Found.ensures); passed = c.requires }

pub returns-in-TimedOut : goal.returns-in-TimedOut
returns-in-TimedOut g c = record { puts = shown _ _ _ _ c.in-TimedOut.is (Puts-one _ c.number_line.ensures); passed = c.requires }
