use Rattle.std.proofs.Common.{◌≡◌, ◌++◌, OnOk, sym, subst}
use Rattle.pgn_messages.specs.declared.asked.Parting.{Parting}
use Rattle.pgn_messages.specs.Turns.{farewell}
use Rattle.pgn_messages.proofs.telling.put_farewell.Goals as goal

pub returns-in-Refused : goal.returns-in-Refused
returns-in-Refused c =
    subst (λ (p : Parting). OnOk c.put_fatal.result (c.put_fatal.new.self ≡ c.args.bytes.now ++ farewell p)) (sym c.in-Refused.is) c.put_fatal.ensures

pub returns-in-Extended : goal.returns-in-Extended
returns-in-Extended c =
    subst (λ (p : Parting). OnOk c.put_fatal-in-Extended.result (c.put_fatal-in-Extended.new.self ≡ c.args.bytes.now ++ farewell p)) (sym c.in-Extended.is) c.put_fatal-in-Extended.ensures

pub returns-in-Spent : goal.returns-in-Spent
returns-in-Spent c =
    subst (λ (p : Parting). OnOk c.put_fatal-in-Spent.result (c.put_fatal-in-Spent.new.self ≡ c.args.bytes.now ++ farewell p)) (sym c.in-Spent.is) c.put_fatal-in-Spent.ensures
