-- Sound books, clause by clause as document 01 lists them ("A state is sound if: .."). Each clause is a test; `sound_book` is all of them.
-- Assumes nothing.
use Rattle.std.specs.Prelude.{ℕ, Bool, true, false, not, ◌&&◌, ◌||◌, List, eqb, leb, ltb, drop}
use Rattle.std.specs.Bool.{beq}
use Rattle.prices.specs.Step.{legal}
use Rattle.kinds.specs.Kinds.{enters, sliding, dark}
use Rattle.prices.specs.Rest.{slides}
use Rattle.lists.specs.Tests.{all, pairs}
use Rattle.book.specs.declared.Entry.{Entry}
use Rattle.book.specs.declared.Book.{Book}
use Rattle.book.specs.declared.Pricing.{Pricing}
use Rattle.book.specs.declared.Pricing.TheVariants.{Fixed, Dark, Sliding}
use Rattle.book.specs.Entries.{quote}
use Rattle.book.specs.Shape.{entries_of}

-- from low to high, ends included
abbrev pub between : ℕ → ℕ → ℕ → Bool
between low high x = leb low x && leb x high

-- ---- each entry ----

-- "entry numbers are .. among those given"
abbrev pub numbered : ℕ → Entry → Bool
numbered given e = between 1 given e.number

-- it is of a kind that enters; "Parties 1 to 99; only 1 to 16 are makers", and quotes are makers'
abbrev pub kinded : Entry → Bool
kinded e = enters e.kind

abbrev pub partied : Entry → Bool
partied e = between 1 99 e.party && (not (quote e) || leb e.party 16)

-- "limits, quantities .. are legal"; "Quantity 1 to 99,999"
abbrev pub sized : ℕ → Entry → Bool
sized m e = legal m e.limit && between 1 99999 e.quantity

-- "plain, MMLO and displayed orders display and work at the limit, dark ones work at the limit; for MMALO and MMRP, display and working price are legal,
-- working is no less aggressive than display, by at most M [one step], and not beyond the limit"
unfoldable pub priced_as : ℕ → ℕ → Bool → ℕ → ℕ → Pricing → Bool
priced_as m kind s limit w Fixed = (not (sliding kind) && not (dark kind)) && eqb w limit
priced_as m kind s limit w Dark = dark kind && eqb w limit
priced_as m kind s limit w (Sliding d) = sliding kind && slides m s limit d w

abbrev pub priced_well : ℕ → Entry → Bool
priced_well m e = priced_as m e.kind e.sell e.limit e.working e.pricing

unfoldable pub sound_entry : ℕ → ℕ → Entry → Bool
sound_entry m given e = numbered given e && (kinded e && (partied e && (sized m e && priced_well m e)))

-- ---- each two ----

-- "entry numbers are distinct"
abbrev pub distinct : Entry → Entry → Bool
distinct x y = not (eqb x.number y.number)

-- "one quote at most per maker and side"
abbrev pub one_quote : Entry → Entry → Bool
one_quote x y = not (quote x && (quote y && (eqb x.party y.party && beq x.sell y.sell)))

-- "every buy's working price is below every sell's"
abbrev pub uncrossed_as : Bool → Bool → ℕ → ℕ → Bool
uncrossed_as false false p q = true
uncrossed_as false true p q = ltb p q
uncrossed_as true false p q = ltb q p
uncrossed_as true true p q = true

abbrev pub uncrossed : Entry → Entry → Bool
uncrossed x y = uncrossed_as x.sell y.sell x.working y.working

unfoldable pub sound_pair : Entry → Entry → Bool
sound_pair x y = distinct x y && (one_quote x y && uncrossed x y)

-- the entries that rest
unfoldable pub sound_entries : ℕ → ℕ → List Entry → Bool
sound_entries m given l = all (sound_entry m given) l && pairs sound_pair l

-- ---- the places that are not used ----

-- "unused places are zero"
abbrev pub fixed_pricing : Pricing → Bool
fixed_pricing Fixed = true
fixed_pricing Dark = false
fixed_pricing (Sliding d) = false

abbrev pub unused_entry : Entry → Bool
unused_entry e =
    fixed_pricing e.pricing && (eqb e.number 0 && (eqb e.party 0 && (eqb e.kind 0 && (not e.sell
    && (eqb e.limit 0 && (eqb e.quantity 0 && eqb e.working 0))))))

-- ---- the whole book; "At most 64 resting entries." ----
unfoldable pub sound_book : ℕ → ℕ → Book → Bool
sound_book m given b = leb b.count 64 && (sound_entries m given (entries_of b) && all unused_entry (drop b.count b.entries))
