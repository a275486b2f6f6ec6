-- The refusals that an event can meet, each test by document 01's words, and their order. "Tests on party and the like apply only to kinds that carry the
-- field."
-- Assumes nothing.
use Rattle.std.specs.Prelude.{ℕ, Option, Some, None, ◌-◌, Bool, true, false, cond, not, ◌&&◌, List, [], ◌∷◌, eqb, leb, length, get_or, Result, Ok, Err}
use Rattle.kinds.specs.declared.refusal.Refusal.{Refusal}
use Rattle.kinds.specs.Refusals.{number_of}
use Rattle.prices.specs.Step.{legal, none_or_legal}
use Rattle.lists.specs.Choose.{Found, nowhere, found}
use Rattle.lists.specs.Tests.{any, first_holding}
use Rattle.book.specs.declared.Entry.{Entry}
use Rattle.book.specs.Entries.{quote_of, last_number}
use Rattle.book.specs.Shape.{entries_of}
use Rattle.book.specs.Look.{entry_of, quote_in}
use Rattle.soundness_theory.specs.Sound.{between}
use Rattle.terms.specs.Terms.{top_underlying}
use Rattle.series.specs.declared.Series.{Series}
use Rattle.handler.specs.declared.Ask.{Ask}
use Rattle.kinds.specs.Kinds.{enters, quotes, carries, makers, cancels_entry, cancels_quote, sets_away, sets_underlying, sets_phase}

-- 2: "party outside 1-99; kinds 1-4, 8, 12: outside 1-16"
abbrev pub bad_party : Ask → Bool
bad_party a = cond (makers a.kind) (not (between 1 16 a.party)) (cond (carries a.kind) (not (between 1 99 a.party)) false)

-- 3: "a price out of range or, but for the underlying, off the M grid (away: if not 0)"; "3 tests the new grid". Each away price is tested by itself: "Crossed
-- or locked away prices are accepted."
abbrev pub bad_price : ℕ → Ask → Bool
bad_price m a =
    cond (enters a.kind) (not (legal m a.price))
    (cond (sets_away a.kind) (not (none_or_legal m a.price && none_or_legal m a.second))
    (cond (sets_underlying a.kind) (not (leb a.price top_underlying)) false))

-- 4: "quantity out of range, or phase above 2"
abbrev pub bad_quantity : Ask → Bool
bad_quantity a = cond (enters a.kind) (not (between 1 99999 a.quantity)) (cond (sets_phase a.kind) (not (leb a.quantity 2)) false)

-- 5: "kinds 1-6, series not open"
abbrev pub not_open : ℕ → Ask → Bool
not_open phase a = enters a.kind && not (eqb phase 1)

-- 6: "kinds 1-4, maker blocked"
abbrev pub is_blocked : List Bool → Ask → Bool
is_blocked blocked a = quotes a.kind && get_or blocked (a.party - 1) false

-- 7: "kinds 1-6, 64 entries rest, not counting the quote this one replaces"
abbrev pub is_full : List Entry → Ask → Bool
is_full l a = enters a.kind && (leb 64 (length l) && not (quotes a.kind && any (quote_of a.party a.sell) l))

-- 9: "kinds 1-6, entry 1,000,000 has been given"
abbrev pub is_spent : ℕ → Ask → Bool
is_spent given a = enters a.kind && leb last_number given

-- 8: "kinds 7, 8: no such entry of that party, or no such quote"
abbrev pub is_nowhere : Found Entry → Bool
is_nowhere nowhere = true
is_nowhere (found i e) = false

-- the same of the rank that was answered
abbrev pub gone_at : Option ℕ → Bool
gone_at None = true
gone_at (Some i) = false

abbrev pub is_missing : List Entry → Ask → Bool
is_missing l a =
    cond (cancels_entry a.kind) (is_nowhere (entry_of a.party a.entry l))
    (cond (cancels_quote a.kind) (is_nowhere (quote_in a.party a.sell l)) false)

-- what is refused, by its number; 0, where nothing is
abbrev pub refusal_in : {T : Type 0} → Result T Refusal → ℕ
refusal_in (Ok x) = 0
refusal_in (Err why) = number_of why

-- THE LIST, in document 01's order, from 2 on: 10, 11 and 1, which come before an event is known, stand in Handle (`before_reading`, `heard`)
abbrev pub refusals : Series → Ask → List (ℕ × Bool)
refusals s a =
    (2, bad_party a)
    ∷ (3, bad_price s.terms.m a)
    ∷ (4, bad_quantity a)
    ∷ (5, not_open s.terms.phase a)
    ∷ (6, is_blocked s.blocked a)
    ∷ (7, is_full (entries_of s.book) a)
    ∷ (9, is_spent s.terms.given a)
    ∷ (8, is_missing (entries_of s.book) a)
    ∷ []

-- the number of the first that holds; 0, where none does
unfoldable pub refusal_of : Series → Ask → ℕ
refusal_of s a = first_holding (refusals s a)
