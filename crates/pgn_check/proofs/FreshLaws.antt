-- Whether a read was left out.
use Rattle.std.proofs.Common.{◌≡◌, ◌↔◌, ℕ, ◌+◌, ◌<◌, Bool, true, false, List, Option, Some, None, sym, ◌∙◌, ap, drop, refl, subst}
use Rattle.std.specs.Prelude.{IfSome}
use Rattle.std.specs.List.{list_any}
use Rattle.std.proofs.lemmas.Bool.{false≢true}
use Rattle.pgn_base.specs.declared.limits.TheConstants.{CLEANUP_DELAY_PAGES}
use Rattle.pgn_answers.specs.declared.block_state.BlockState.TheVariants.{Idle}
use Rattle.pgn_journal.specs.declared.tx.Tx.{Tx}
use Rattle.pgn_journal.specs.Journal.{entries_between}
use Rattle.pgn_journal.specs.Due.{is_due_to}
use Rattle.pgn_journal.specs.Near.{Near}
use Rattle.pgn_journal.specs.Packing.{page_of, place}
use Rattle.pgn_due.specs.Next.{IsWatch}
use Rattle.pgn_language.specs.declared.scenario.Section.{Section}
use Rattle.pgn_model.specs.declared.item.Item.{Item}
use Rattle.pgn_model.specs.declared.item.Item.TheVariants as item
use Rattle.pgn_model.specs.Walk.{State, Terms}
use Rattle.pgn_model.specs.Trace.{IsFreshAt, IsFreshBetween, IsReadUp, IsUpToDate, next_reads_first}
use Rattle.pgn_walk.specs.declared.standing.Standing.{Standing}
use Rattle.pgn_walk.specs.Evidence.{begins_line}
use Rattle.pgn_walk.specs.Standing.{Holds}
use Rattle.pgn_check.specs.Fresh.{Asks, HasReadFirst}

-- Whether anything is due.

-- what is asked where the session has a mark
abbrev pub FindsNothing : Section → List Tx → ℕ → State → Type 0
FindsNothing section journal mark s = list_any (is_due_to section.db s.set) (entries_between journal mark s.told) ≡ false

-- what a watch finds up to what was told is what the session would find
pub finds_by : (section : Section) (journal : List Tx) (mark : ℕ) (at : Standing) (b : Bool) → at.mark ≡ Some mark
    → ((db : ℕ) (set : List (List ℕ)) → IsWatch journal db set (Some mark) at.watch → (b ≡ true) ↔ (list_any (is_due_to db set) (entries_between journal mark at.told) ≡ false)) → Asks section journal at b (FindsNothing section journal mark)
finds_by section journal mark at b e finds s h =
    let here : IsWatch journal section.db at.set.channels (Some mark) at.watch = subst (λ (m : Option ℕ). IsWatch journal section.db at.set.channels m at.watch) e h.watch in
    subst (λ (told : ℕ). (b ≡ true) ↔ (list_any (is_due_to section.db s.set) (entries_between journal mark told) ≡ false)) (sym h.told)
    (subst (λ (set : List (List ℕ)). (b ≡ true) ↔ (list_any (is_due_to section.db set) (entries_between journal mark at.told) ≡ false)) (sym h.set) (finds section.db at.set.channels here))

-- Whether the session is up to date.

-- it is near where the session stands
near_same : (terms : Terms) (journal : List Tx) (mark : ℕ) (old : Standing) (s : State) → old.mark ≡ Some mark → Holds terms.section journal old s → IsUpToDate terms journal s
    ↔ Near terms.settings.format (is_due_to terms.section.db s.set) journal mark s.told
near_same terms journal mark old s e h = (
  λ up. subst (λ (m : Option ℕ). IfSome m (λ own. Near terms.settings.format (is_due_to terms.section.db s.set) journal own s.told)) (h.mark ∙ e) up,
  λ near. subst (λ (m : Option ℕ). IfSome m (λ own. Near terms.settings.format (is_due_to terms.section.db s.set) journal own s.told)) (sym (h.mark ∙ e)) near,
)

-- a session that does not listen is up to date
pub up_none : (terms : Terms) (journal : List Tx) (at : Standing) → at.mark ≡ None → Asks terms.section journal at true (λ s. IsUpToDate terms journal s)
up_none terms journal at e s h = (λ _. subst (λ (m : Option ℕ). IfSome m (λ own. Near terms.settings.format (is_due_to terms.section.db s.set) journal own s.told)) (sym (h.mark ∙ e)) tt, λ _. refl)

-- a mark stands so few pages behind a place that its session need not be woken for that alone
abbrev pub IsClose : Terms → List Tx → ℕ → ℕ → Type 0
IsClose terms journal mark x = page_of (place terms.settings.format journal x) < page_of (place terms.settings.format journal mark) + CLEANUP_DELAY_PAGES

-- a listener whose mark is far from what it was told is not up to date
pub up_far : (terms : Terms) (journal : List Tx) (mark : ℕ) (at : Standing) (b : Bool) → at.mark ≡ Some mark → (b ≡ true) ↔ IsClose terms journal mark at.told → b ≡ false → Asks terms.section journal at false (λ s. IsUpToDate terms journal s)
up_far terms journal mark at b e test far s h = (
  λ t. absurd (false≢true t),
  λ up.
      let near = (near_same terms journal mark at s e h).0 up in
      absurd (false≢true (sym far ∙ test.1 (subst (λ (x : ℕ). IsClose terms journal mark x) h.told near.few_pages))),
)

-- a listener whose mark is close is up to date exactly where nothing is due
pub up_by : (terms : Terms) (journal : List Tx) (mark : ℕ) (at : Standing) (b d : Bool) → at.mark ≡ Some mark → (b ≡ true) ↔ IsClose terms journal mark at.told → b ≡ true → Asks terms.section journal at d (FindsNothing terms.section journal mark)
    → Asks terms.section journal at d (λ s. IsUpToDate terms journal s)
up_by terms journal mark at b d e test close asks s h = (
  λ t. (near_same terms journal mark at s e h).1 (record {
    nothing_due = (asks s h).0 t;
    few_pages = subst (λ (x : ℕ). IsClose terms journal mark x) (sym h.told) (test.0 close);
  }),
  λ up. (asks s h).1 ((near_same terms journal mark at s e h).0 up).nothing_due,
)

-- Before an item.

fresh_elsewhere : (terms : Terms) (journal : List Tx) (s : State) (i : Item) → begins_line i ≡ false → IsFreshAt terms journal s i
fresh_elsewhere terms journal s (item.Line n) h = absurd (false≢true (sym h))
fresh_elsewhere terms journal s other h = tt

-- no read is left out before an item that begins no line
pub fresh_no_line : (terms : Terms) (journal : List Tx) (at : Standing) (i : Item) → begins_line i ≡ false → Asks terms.section journal at true (λ s. IsFreshAt terms journal s i)
fresh_no_line terms journal at i none s h = (λ _. fresh_elsewhere terms journal s i none, λ _. refl)

fresh_in_block : (terms : Terms) (journal : List Tx) (s : State) (i : Item) → (s.block ≡ Idle → ⊥) → IsFreshAt terms journal s i
fresh_in_block terms journal s (item.Line n) shut = λ idle. absurd (shut idle)
fresh_in_block terms journal s other shut = tt

-- nor before a line within a block
pub fresh_open : (terms : Terms) (journal : List Tx) (at : Standing) (i : Item) (b : Bool) → (b ≡ true) ↔ (at.block.state ≡ Idle) → b ≡ false → Asks terms.section journal at true (λ s. IsFreshAt terms journal s i)
fresh_open terms journal at i b test off s h = (λ _. fresh_in_block terms journal s i (λ idle. false≢true (sym off ∙ test.1 (sym h.block ∙ idle))), λ _. refl)

fresh_line : (terms : Terms) (journal : List Tx) (s : State) (i : Item) → begins_line i ≡ true → s.block ≡ Idle → IsFreshBetween terms journal s ↔ IsFreshAt terms journal s i
fresh_line terms journal s (item.Line n) h idle = (λ between. λ _. between, λ f. f idle)
fresh_line terms journal s other h idle = absurd (false≢true h)

-- a read is left out before a line outside blocks, where the session is not up to date
pub fresh_late : (terms : Terms) (journal : List Tx) (at : Standing) (i : Item) (b d : Bool) → begins_line i ≡ true → (b ≡ true) ↔ (at.block.state ≡ Idle) → b ≡ true → Asks terms.section journal at d (λ s. IsUpToDate terms journal s) → d ≡ false
    → Asks terms.section journal at false (λ s. IsFreshAt terms journal s i)
fresh_late terms journal at i b d line test idle asks late s h =
    let same = fresh_line terms journal s i line (h.block ∙ test.0 idle) in
    (λ t. absurd (false≢true t), λ f. absurd (false≢true (sym late ∙ (asks s h).1 (same.1 f).up_to_date)))

-- where it is up to date, none is left out exactly if it has read what the line asks for
pub fresh_by : (terms : Terms) (journal : List Tx) (at : Standing) (i : Item) (b d e : Bool) → begins_line i ≡ true → (b ≡ true) ↔ (at.block.state ≡ Idle) → b ≡ true → Asks terms.section journal at d (λ s. IsUpToDate terms journal s) → d ≡ true
    → Asks terms.section journal at e HasReadFirst → Asks terms.section journal at e (λ s. IsFreshAt terms journal s i)
fresh_by terms journal at i b d e line test idle asks up first s h =
    let same = fresh_line terms journal s i line (h.block ∙ test.0 idle) in
    (λ t. same.0 (record { up_to_date = (asks s h).0 up; read_first = (first s h).0 t }), λ f. (first s h).1 (same.1 f).read_first)

-- Before a line that listens or opens a block.

-- a line that asks for no read has what it asks for
pub first_none : (section : Section) (journal : List Tx) (at : Standing) (b : Bool) → b ≡ next_reads_first (drop at.next section.lines) → b ≡ false → Asks section journal at true HasReadFirst
first_none section journal at b test off s h = (λ _. λ next. absurd (false≢true (sym off ∙ test ∙ ap next_reads_first (sym h.rest) ∙ next)), λ _. refl)

-- a line that asks for one has it exactly where the mark has come to what was told
pub first_by : (section : Section) (journal : List Tx) (at : Standing) (b d : Bool) → b ≡ next_reads_first (drop at.next section.lines) → b ≡ true → (d ≡ true) ↔ IsReadUp at.mark at.told → Asks section journal at d HasReadFirst
first_by section journal at b d test on up s h =
    let next : next_reads_first s.rest ≡ true = ap next_reads_first h.rest ∙ sym test ∙ on in (
      λ t. λ _. subst (λ (told : ℕ). IsReadUp s.mark told) (sym h.told) (subst (λ (m : Option ℕ). IsReadUp m at.told) (sym h.mark) (up.0 t)),
      λ f. up.1 (subst (λ (m : Option ℕ). IsReadUp m at.told) h.mark (subst (λ (told : ℕ). IsReadUp s.mark told) h.told (f next))),
    )
