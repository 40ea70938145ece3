use Rattle.std.proofs.Common.{rules, ◌≡◌, [], Some, None, IfSome, subst}
use Rattle.pgn_queries.specs.declared.wire_fault.WireFault.{WireFault}
use Rattle.pgn_queries.specs.declared.wire_fault.WireFault.TheVariants.{TooMany}
use Rattle.pgn_queries.specs.declared.coming.Coming.{Coming}
use Rattle.pgn_queries.specs.declared.coming.Coming.TheVariants.{End, Query, Fault}
use Rattle.pgn_queries.specs.Client.{NextIs, OfKnown}
use Rattle.pgn_queries.specs.Queries.{Gives, TookQuery, Place, QueriesAre}
use Rattle.pgn_queries.proofs.QueryLaws.{Gives-none, Gives-line, TookQuery-known, Fails-known, Exceeds-known}
use Rattle.pgn_queries.proofs.reader.Queries.next.Goals as goal

pub returns-in-Ok-End-clause-next : goal.returns-in-Ok-End-clause-next
returns-in-Ok-End-clause-next g c =
    let here : Place = record { at = c.self.inside.at; queries = c.self.inside.queries; notes = c.self.inside.notes; most = c.self.inside.most } in
    let same : here ≡ c.args.self.now = search rules in
    let start = g.S.Source.left c.args.source.now in
    let end = g.S.Source.left c.next_message.new.source in
    let is : c.in-Ok-End.field-0 ≡ End = search rules in
    let next = subst (λ (coming : Coming). OfKnown (NextIs here.at coming c.next_message.new.text.items) start end) is c.in-Ok-End.ensures.next in
    subst (λ (place : Place). OfKnown (Gives place here None) start end) same (Gives-none here here c.next_message.new.text.items start end next)

pub returns-in-Ok-Fault-clause-fault : goal.returns-in-Ok-Fault-clause-fault
returns-in-Ok-Fault-clause-fault g c fault told =
    let here : Place = record { at = c.self.inside.at; queries = c.self.inside.queries; notes = c.self.inside.notes; most = c.self.inside.most } in
    let same : here ≡ c.args.self.now = search rules in
    let found : c.in-Ok-Fault.fault ≡ fault = cc in
    let start = g.S.Source.left c.args.source.now in
    let end = g.S.Source.left c.next_message.new.source in
    let is : c.in-Ok-Fault.field-0 ≡ Fault c.in-Ok-Fault.fault = search rules in
    let next = subst (λ (coming : Coming). OfKnown (NextIs here.at coming c.next_message.new.text.items) start end) is c.in-Ok-Fault.ensures.next in
    subst (λ (place : Place). IfSome start (λ bytes. QueriesAre place bytes [] (Some fault))) same
    (subst (λ (f : WireFault). IfSome start (λ bytes. QueriesAre here bytes [] (Some f))) found (Fails-known here c.next_message.new.text.items c.in-Ok-Fault.fault start end next))

pub returns-in-Ok-count-clause-next : goal.returns-in-Ok-count-clause-next
returns-in-Ok-count-clause-next g c =
    let here : Place = record { at = c.self.inside.at; queries = c.self.inside.queries; notes = c.self.inside.notes; most = c.self.inside.most } in
    let same : here ≡ c.args.self.now = search rules in
    let start = g.S.Source.left c.args.source.now in
    let end = g.S.Source.left c.next_message.new.source in
    let is : c.in-Ok-Query.field-0 ≡ Query = search rules in
    let next = subst (λ (coming : Coming). OfKnown (NextIs here.at coming c.next_message.new.text.items) start end) is c.in-Ok-Query.ensures.next in
    subst (λ (place : Place). OfKnown (Gives place c.count.new.self (Some c.in-Ok.line)) start end) same
    (Gives-line here c.count.new.self c.next_message.new.text.items c.in-Ok.line start end next (search rules) (search rules) (search rules))

pub returns-in-Ok-count-clause-took : goal.returns-in-Ok-count-clause-took
returns-in-Ok-count-clause-took g c =
    let here : Place = record { at = c.self.inside.at; queries = c.self.inside.queries; notes = c.self.inside.notes; most = c.self.inside.most } in
    let same : here ≡ c.args.self.now = search rules in
    let start = g.S.Source.left c.args.source.now in
    let end = g.S.Source.left c.next_message.new.source in
    let is : c.in-Ok-Query.field-0 ≡ Query = search rules in
    let next = subst (λ (coming : Coming). OfKnown (NextIs here.at coming c.next_message.new.text.items) start end) is c.in-Ok-Query.ensures.next in
    subst (λ (place : Place). OfKnown (TookQuery place c.count.new.self c.in-Ok.line) start end) same
    (TookQuery-known here c.count.new.self c.next_message.new.text.items c.in-Ok.line start end next (search rules) (search rules) (search rules))

pub returns-in-Err-clause-fault : goal.returns-in-Err-clause-fault
returns-in-Err-clause-fault g c fault told =
    let here : Place = record { at = c.self.inside.at; queries = c.self.inside.queries; notes = c.self.inside.notes; most = c.self.inside.most } in
    let same : here ≡ c.args.self.now = search rules in
    let found : TooMany here.at ≡ fault = search rules in
    let start = g.S.Source.left c.args.source.now in
    let end = g.S.Source.left c.next_message.new.source in
    let is : c.in-Ok-Query.field-0 ≡ Query = search rules in
    let next = subst (λ (coming : Coming). OfKnown (NextIs here.at coming c.next_message.new.text.items) start end) is c.in-Ok-Query.ensures.next in
    subst (λ (place : Place). IfSome start (λ bytes. QueriesAre place bytes [] (Some fault))) same
    (subst (λ (f : WireFault). IfSome start (λ bytes. QueriesAre here bytes [] (Some f))) found
    (Exceeds-known here c.next_message.new.text.items c.in-Ok.line start end next (search rules) (search rules)))
