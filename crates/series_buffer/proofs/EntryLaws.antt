-- Entries: their table is lawful, so that the laws of `CodecLaws` hold of them.
-- Assumes nothing.
use Rattle.std.specs.Prelude.{Option, Some}
use mathlib.Core.Path.{◌≡◌, refl}
use Rattle.packing.proofs.CodecLaws.{Lawful, bit_is}
use Rattle.book.specs.declared.Entry.{Entry}
use Rattle.book.specs.declared.Pricing.{Pricing}
use Rattle.book.specs.declared.Pricing.TheVariants.{Fixed, Dark, Sliding}
use Rattle.book.specs.Entries.{pricing_number}
use Rattle.series_buffer.specs.Entry.{entries, code_of, own_display, pricing_by, entry_by}

pricing-claimed : (p : Pricing) → pricing_by (pricing_number p) (own_display p) ≡ p
pricing-claimed Fixed = refl
pricing-claimed Dark = refl
pricing-claimed (Sliding d) = refl

code-claimed : (e : Entry) → ◌≡◌ {A = Option Entry} (Some (entry_by (code_of e))) (Some e)
code-claimed e i =
    Some (record {
      number = e.number;
      limit = e.limit;
      quantity = e.quantity;
      working = e.working;
      party = e.party;
      kind = e.kind;
      sell = bit_is e.sell i;
      pricing = pricing-claimed e.pricing i;
    })

pub lawful : Lawful entries
lawful = record { whole = refl; long = refl; code-claimed = code-claimed }
