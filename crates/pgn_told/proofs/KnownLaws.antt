-- What is known of each item of a trace, beside that it is allowed: what was received can be told, and a usage is no greater than the
-- journal has it.
use Rattle.std.proofs.Common.{◌≡◌, ℕ, ◌+◌, ◌-◌, ◌^◌, ◌<◌, Bool, true, false, cond, List, [], ◌∷◌, map, sym, ap, subst}
use Rattle.std.specs.Prelude.{All, filter}
use Rattle.std.proofs.lemmas.List.Elements.{All-nil, All-cons, All-head, All-tail, All-append, All-map, All-filter, All-take, All-drop}
use Rattle.pgn_base.specs.declared.limits.TheConstants.{FIRST_XID, PID_BASE}
use Rattle.pgn_base.specs.declared.note.Delivery.{Delivery}
use Rattle.pgn_base.specs.declared.queue_answers.Usage.{Usage}
use Rattle.pgn_base.specs.Notes.{IsNote}
use Rattle.pgn_journal.specs.declared.tx.Tx.{Tx}
use Rattle.pgn_journal.specs.Journal.{is_committed_in}
use Rattle.pgn_journal.specs.Due.{delivered_by, delivery, due_from, listens}
use Rattle.pgn_model.specs.declared.item.Item.{Item}
use Rattle.pgn_model.specs.declared.item.Item.TheVariants.{Line, Enlist, Publish, QueueFull, Leave, Reply, Refuse, Channels, Used, Raise, Found, TimedOut, Read}
use Rattle.pgn_model.specs.Along.{Along}
use Rattle.pgn_model.specs.Walk.{Allowed, State, Terms, after_item}
use Rattle.pgn_told.proofs.ByteLaws.{IsTold}

-- a transaction of this session, whose notifications can be sent
pub record IsTellable (session : ℕ) (tx : Tx) : Type 0 where
  pub by : tx.session ≡ session
  pub notes : All IsNote tx.notes

due-told : (session db : ℕ) (channels : List (List ℕ)) (x : ℕ) (txs : List Tx) → All (IsTellable session) txs → All (IsTold (PID_BASE + session)) (due_from db channels x txs)
due-told session db channels x [] h = All-nil (IsTold (PID_BASE + session))
due-told session db channels x (tx ∷ txs) h =
    let one : IsTellable session tx = All-head (IsTellable session) tx txs h in
    All-append (IsTold (PID_BASE + session)) (delivered_by db channels x tx) (due_from db channels (x + 1) txs) (by (is_committed_in db tx) one)
    (due-told session db channels (x + 1) txs (All-tail (IsTellable session) tx txs h))
  where
    by : (b : Bool) → IsTellable session tx → All (IsTold (PID_BASE + session)) (cond b (map (delivery x tx.session) (filter (listens channels) tx.notes)) [])
    by true one =
        All-map (IsTold (PID_BASE + session)) (delivery x tx.session) (filter (listens channels) tx.notes)
        (λ k d lt. record { note = (All-filter (listens channels) IsNote tx.notes one.notes) k d lt; by = ap (λ (n : ℕ). PID_BASE + n) one.by })
    by false one = All-nil (IsTold (PID_BASE + session))

-- what is known of an item
abbrev pub IsKnown : Terms → Item → Type 0
IsKnown terms (Used usage) = (usage.occupied < 2 ^ 64) × (usage.limit ≡ terms.settings.limit)
IsKnown terms (Read from to got) = All (IsTold (PID_BASE + terms.section.no)) got
IsKnown terms item = Unit {0}

module _ (terms : Terms) (journal : List Tx) (all : All (IsTellable terms.section.no) journal) (short : (usage : Usage) (s : State) → Allowed terms journal s (Used usage) → usage.occupied < 2 ^ 64) where
  item-known : (s : State) (item : Item) → Allowed terms journal s item → IsKnown terms item
  item-known s (Line n) h = tt
  item-known s (Enlist base point) h = tt
  item-known s (Publish xid notes) h = tt
  item-known s (QueueFull full notes) h = tt
  item-known s Leave h = tt
  item-known s (Reply tag warning) h = tt
  item-known s (Refuse refusal) h = tt
  item-known s (Channels names) h = tt
  item-known s (Used usage) h = (short usage s h, h.shown.limited)
  item-known s (Raise value) h = tt
  item-known s (Found value) h = tt
  item-known s (TimedOut looks) h = tt
  item-known s (Read from to got) h =
      let Told : Delivery → Type 0 = IsTold (PID_BASE + terms.section.no) in
      let Tellable : Tx → Type 0 = IsTellable terms.section.no in
      subst (λ (ds : List Delivery). All Told ds) (sym h.received)
      (due-told terms.section.no terms.section.db s.set from _ (All-drop Tellable (from - FIRST_XID) _ (All-take Tellable (to - FIRST_XID) journal all)))

  -- each item that a walk allows shows a usage of this limit, or deliveries from this session alone, or neither
  pub items-known : (s : State) (items : List Item) → Along after_item (Allowed terms journal) s items → All (IsKnown terms) items
  items-known s [] h = All-nil (IsKnown terms)
  items-known s (item ∷ items) h = All-cons (IsKnown terms) item items (item-known s item h.0) (items-known (after_item s item) items h.1)
