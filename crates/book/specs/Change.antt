-- What the book's operations do to the list of its entries; `without` and `requeue` are those of crate lists.
-- Assumes nothing.
use Rattle.std.specs.Prelude.{ℕ, zero, suc, cond, List, [], ◌∷◌, ◌++◌, leb, ltb}
use Rattle.book.specs.declared.Entry.{Entry}
use Rattle.book.specs.Entries.{lessened}

-- "Posting .. put[s] an entry last in rank."
abbrev pub post : Entry → List Entry → List Entry
post e l = l ++ (e ∷ [])

-- q contracts are traded away at a place; with none left the entry goes, else it keeps its rank
unfoldable pub hit : ℕ → ℕ → List Entry → List Entry
hit i q [] = []
hit zero q (e ∷ l) = cond (leb e.quantity q) l (lessened q e ∷ l)
hit (suc i) q (e ∷ l) = e ∷ hit i q l

-- the same at two places; the later one first, so that the other place still stands
unfoldable pub hit_both : ℕ → ℕ → ℕ → List Entry → List Entry
hit_both i j q l = cond (ltb i j) (hit i q (hit j q l)) (hit j q (hit i q l))
