-- The 24 bytes of one place of the book.
-- Assumes nothing.
use Rattle.std.specs.Prelude.{ℕ, true, cond, List, [], ◌∷◌, eqb, get_or}
use Rattle.std.specs.Prelude.{Some}
use Rattle.packing.specs.Codec.{Codec, bit}
use Rattle.book.specs.Entries.{pricing_number}
use Rattle.book.specs.declared.Entry.{Entry}
use Rattle.book.specs.declared.Pricing.{Pricing}
use Rattle.book.specs.declared.Pricing.TheVariants.{Fixed, Dark, Sliding}

-- how many bytes one has
abbrev pub entry_size : ℕ
entry_size = 24

-- number, limit, quantity, working price, display 4 bytes each; party, kind, side, pricing 1 each
abbrev pub widths : List ℕ
widths = 32 ∷ 32 ∷ 32 ∷ 32 ∷ 32 ∷ 8 ∷ 8 ∷ 8 ∷ 8 ∷ []

-- only a sliding entry has a display of its own here, and 0 stands for any other
abbrev pub own_display : Pricing → ℕ
own_display Fixed = 0
own_display Dark = 0
own_display (Sliding d) = d

abbrev pub code_of : Entry → List ℕ
code_of e =
    e.number
    ∷ e.limit
    ∷ e.quantity
    ∷ e.working
    ∷ own_display e.pricing
    ∷ e.party
    ∷ e.kind
    ∷ bit e.sell
    ∷ pricing_number e.pricing
    ∷ []

-- a number above 2 is no pricing's: what it makes has other fields, so that it unpacks to nothing
abbrev pub pricing_by : ℕ → ℕ → Pricing
pricing_by n display = cond (eqb n 2) (Sliding display) (cond (eqb n 1) Dark Fixed)

abbrev pub entry_by : List ℕ → Entry
entry_by l = record {
  number = get_or l 0 0;
  limit = get_or l 1 0;
  quantity = get_or l 2 0;
  working = get_or l 3 0;
  party = get_or l 5 0;
  kind = get_or l 6 0;
  sell = eqb (get_or l 7 0) 1;
  pricing = pricing_by (get_or l 8 0) (get_or l 4 0);
}

-- whether the values are legal is not asked here: that is soundness
abbrev pub entries : Codec Entry
entries = record { widths = widths; size = entry_size; code = code_of; claimed = λ l. Some (entry_by l); admitted = λ _. true }
