-- The stages of the handler's code, put together.
-- Assumes nothing.
use Prim.Native.Nat.{ℕ, ◌≤◌}
use mathlib.Core.Path.{◌≡◌, sym, ap, ◌∙◌, subst}
use mathlib.Core.Bool.{Bool, cond, ◌&&◌}
use mathlib.Core.List.{List}
use lib.ListN.{length}
use borrow.Author.Tests.{eq-eqb}
use Rattle.lists.specs.Run.{Ran}
use Rattle.prices.specs.declared.Market.{Market}
use Rattle.packing.specs.declared.report.Report.{Report}
use Rattle.packing.specs.declared.report.Report.TheVariants.{Noted}
use Rattle.packing.specs.Room.{room_size}
use Rattle.book.specs.declared.Book.{Book}
use Rattle.book.specs.Shape.{entries_of, WellFormed}
use Rattle.book.proofs.ShapeLaws.{book-of-entries}
use Rattle.telling.specs.Stage.{Staged, Put}
use Rattle.terms.specs.declared.Terms.{Terms}
use Rattle.arrival.specs.Arrive.{reported, blocks}
use Rattle.soundness.specs.declared.Check.{Check}
use Rattle.series.specs.declared.Series.{Series}
use Rattle.handler.specs.declared.Ask.{Ask}
use Rattle.kinds.specs.Kinds.{quotes}
use Rattle.handler.specs.Refuse.{refusal_of}
use Rattle.handler.specs.Accept.{comer, own_part, terms_after, blocked_after, settled_if}
use Rattle.handler.specs.Acts.{Acts, SettlesIf, blocked_by}
use Rattle.handler.specs.Handle.{in_room, refused, accepted, judged}
use Rattle.handler.proofs.Stages.{then-sound, then-room, then-done, accepted-answer}
use Rattle.handler.proofs.HandleLaws.{acts-accepted}

pub told-staged : (b : Book) {room : List ℕ} {n : ℕ} {room' : List ℕ} {n' : ℕ} → WellFormed b → Put room n Noted room' n'
    → Staged (reported Noted (entries_of b)) room n b room' n'
told-staged b w p = record { book = book-of-entries b w; well = w; bytes = p.bytes; count = p.count }

module _ (s : Series) {check : Check} (a : Ask) (x : Acts s check a) {room : List ℕ} (space : room_size ≤ length room) {b : Book} {room' : List ℕ} {n' : ℕ}
    (first : Staged (own_part s.terms a (entries_of s.book)) room 0 b room' n') (t : Terms) (e : t ≡ terms_after s.terms a) where
  pub settles-next : SettlesIf t b room' n'
  settles-next =
      subst (λ (y : Terms). SettlesIf y b room' n') (sym e)
      (record { well = first.well; sound = then-sound s a (acts-accepted x) space first; roomy = then-room s a (acts-accepted x) space first })

  marked : (blocking : Bool) → blocking ≡ (quotes a.kind && blocks s.terms (comer s.terms.given a) (entries_of s.book))
      → blocked_by blocking a s.blocked ≡ blocked_after s.terms a (entries_of s.book) s.blocked
  unfolding blocked_after
  marked blocking k = ap (λ (y : Bool). blocked_by y a s.blocked) k

  pub accept-done : {after : Book} {room'' : List ℕ} {n'' : ℕ} → Staged (settled_if t (entries_of b)) room' n' after room'' n''
      → (blocking : Bool) → blocking ≡ (quotes a.kind && blocks s.terms (comer s.terms.given a) (entries_of s.book))
      → (r : Series) → r ≡ record { terms = t; blocked = blocked_by blocking a s.blocked; book = after }
      → in_room (record { refusal = 0; count = n''; series = r }) room'' ≡ accepted s a room
  accept-done {after} {room''} {n''} second blocking k r q =
      ap (λ (z : Series). in_room (record { refusal = 0; count = n''; series = z }) room'') q
      ∙ accepted-answer s a
      (then-done s a (acts-accepted x) space first (subst (λ (y : Terms). Staged (settled_if y (entries_of b)) room' n' after room'' n'') e second)) e
      (marked blocking k)

module _ (s : Series) (a : Ask) (room : List ℕ) where
  pub judged-accepted : refusal_of s a ≡ 0 → accepted s a room ≡ judged s a room (refusal_of s a)
  judged-accepted h = sym (ap (λ (y : Bool). cond y (accepted s a room) (refused (refusal_of s a) s room)) (eq-eqb (refusal_of s a) 0 h))
