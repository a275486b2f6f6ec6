use native.Mathlib.Omega.{arith}
use lib.ListN.{get_or}
use Prim.Native.Nat.{ℕ, ◌<◌}
use Rattle.std.specs.Prelude.{Option, Some}
use Rattle.book.proofs.ShapeLaws.{length-entries, entry_at}
use Rattle.book.specs.Shape.{zero_entry, entries_of, WellFormed}
use Rattle.book.specs.declared.Book.{Book}
use Rattle.book.specs.declared.Entry.{Entry}
use Rattle.arrival.proofs.TradeLaws.{no-contra-left, out-of-bound, in-bound}
use Rattle.book.proofs.LookLaws.{best-tells}
use Rattle.book.proofs.RankLaws.{Ranked, rank-none, rank-at}
use Rattle.arrival.specs.Asks.{taking_of}
use Rattle.arrival.specs.Take.{shown_only}
use Rattle.book.specs.Look.{best_contra, rank_of, eligible, priority}
use mathlib.Core.Bool.{Bool}
use mathlib.Core.Path.{◌≡◌, sym, ap, ◌∙◌}
use Rattle.arrival.proofs.take.next_trade.Goals as goal

-- what is answered is the rank of the rule's entry, and this stands there
of-rule : (b : Book) (e : Entry) (shown : Bool) {r : Option ℕ} → shown ≡ shown_only e → r ≡ rank_of (best_contra e.sell shown (entries_of b))
    → r ≡ rank_of (best_contra e.sell (shown_only e) (entries_of b))
of-rule b e shown s h = h ∙ ap (λ (t : Bool). rank_of (best_contra e.sell t (entries_of b))) s

stands : (b : Book) (e : Entry) (shown : Bool) (i : ℕ) → shown ≡ shown_only e → Some i ≡ rank_of (best_contra e.sell shown (entries_of b))
    → Ranked (entries_of b) (best_contra e.sell (shown_only e) (entries_of b)) i
stands b e shown i s h =
    rank-at (eligible e.sell (shown_only e)) (priority e.sell) (entries_of b) (best_contra e.sell (shown_only e) (entries_of b)) i
    (best-tells e.sell (shown_only e) (entries_of b)) (of-rule b e shown s h)

inside : (b : Book) (e : Entry) (shown : Bool) (i : ℕ) → WellFormed b → shown ≡ shown_only e → Some i ≡ rank_of (best_contra e.sell shown (entries_of b))
    → i < b.count
inside b e shown i w s h = omega (arith, (stands b e shown i s h).inside, length-entries b w)

pub returns-in_err-at : goal.returns-in_err-at
returns-in_err-at c =
    c.from_residual.ensures
    ∙ no-contra-left c.args.cap c.args.e (taking_of c.args.left c.args.b)
    (rank-none (best_contra c.args.e.sell (shown_only c.args.e) (entries_of c.args.b))
    (of-rule c.args.b c.args.e _ c.is_shown_only.ensures c.in_err-at.ensures))

pub bounds-b-at : goal.bounds-b-at
bounds-b-at c =
    omega (arith, inside c.args.b c.args.e _ c.in_ok-at.at c.requires c.is_shown_only.ensures c.in_ok-at.ensures, c.requires.few)

pub offset_bounds-b-at : goal.offset_bounds-b-at
offset_bounds-b-at c =
    omega (arith, inside c.args.b c.args.e _ c.in_ok-at.at c.requires c.is_shown_only.ensures c.in_ok-at.ensures, c.requires.few)

pub returns-then-left-is_reaching : goal.returns-then-left-is_reaching
returns-then-left-is_reaching c =
    let i = c.in_ok-at.at in
    let at = entry_at c.args.b i zero_entry (inside c.args.b c.args.e _ i c.requires c.is_shown_only.ensures c.in_ok-at.ensures) in
    out-of-bound c.args.cap c.args.e (taking_of c.args.left c.args.b) i
    (stands c.args.b c.args.e _ i c.is_shown_only.ensures c.in_ok-at.ensures) (rw (at, ← c.is_reaching.ensures) c.if-left-is_reaching.true)

pub returns : goal.returns
returns c =
    let i = c.in_ok-at.at in
    let at = entry_at c.args.b i zero_entry (inside c.args.b c.args.e _ i c.requires c.is_shown_only.ensures c.in_ok-at.ensures) in
    in-bound c.args.cap c.args.e (taking_of c.args.left c.args.b) i
    (stands c.args.b c.args.e _ i c.is_shown_only.ensures c.in_ok-at.ensures) (get_or c.args.b.entries i zero_entry) c.min-quantity.result
    (sym at) c.min-quantity.ensures (rw (← c.is_reaching.ensures) c.if-left-is_reaching.false)
