-- Reports, as document 01's "Reports" lays them out.
use Rattle.std.specs.Prelude.{ℕ, Bool, true, false, refl, List, [], ◌∷◌, ◌++◌, eqb, get_or}
use Rattle.std.specs.Prelude.{Option, None, Some}
use Rattle.std.proofs.Common.{lit≤}
use Rattle.packing.specs.declared.report.Report.{Report}
use Rattle.packing.specs.declared.report.Report.TheVariants.{Noted, Rejected, Traded, Rested, Repriced, Cancelled}
use Rattle.bits.specs.Fields.{Narrow}
use Rattle.packing.specs.Codec.{Codec, Tabled, nothing, bit, look_up}

-- "14 bytes: kind 3 bits, reason 5, side 1, party 7, entry 20, other entry 20, price 17, second 17, quantity 17, five zero bits."
abbrev pub report_size : ℕ
report_size = 14

abbrev pub widths : List ℕ
widths = 3 ∷ 5 ∷ 1 ∷ 7 ∷ 20 ∷ 20 ∷ 17 ∷ 17 ∷ 17 ∷ 5 ∷ []

-- a report's nine fields in their order, as the session program prints them
abbrev pub nine_fields : ℕ → ℕ → Bool → ℕ → ℕ → ℕ → ℕ → ℕ → ℕ → List ℕ
nine_fields kind reason sell party entry other price second quantity =
    kind ∷ reason ∷ bit sell ∷ party ∷ entry ∷ other ∷ price ∷ second ∷ quantity ∷ []

-- THE TABLE of document 01: the number of each case and its fields. "Kinds 2, 4, 5, 6 carry the entry's side, party and number, and
-- 2 and 6 the reason." "Unnamed fields are 0."
abbrev pub fields_of : Report → List ℕ
-- "1 noted (kinds 9-12; rest zero)"
fields_of Noted = nine_fields 1 0 false 0 0 0 0 0 0
-- "2 rejected: limit in price, entered quantity"
fields_of (Rejected reason sell party entry limit quantity) = nine_fields 2 reason sell party entry 0 limit 0 quantity
-- "3 traded: taker's side, party, entry; resting entry as other; price; quantity traded"
fields_of (Traded sell party entry other price quantity) = nine_fields 3 0 sell party entry other price 0 quantity
-- "4 rested and 5 repriced: display, working, quantity left"
fields_of (Rested sell party entry display working quantity) = nine_fields 4 0 sell party entry 0 display working quantity
fields_of (Repriced sell party entry display working quantity) = nine_fields 5 0 sell party entry 0 display working quantity
-- "6 cancelled: limit, quantity cancelled"
fields_of (Cancelled reason sell party entry limit quantity) = nine_fields 6 reason sell party entry 0 limit 0 quantity

-- behind them stand the zero bits
abbrev pub code_of : Report → List ℕ
code_of r = fields_of r ++ (0 ∷ [])

-- the same table read by kind: what each kind makes of the fields that it names, whatever the others hold
unfoldable pub by_kind : ℕ → Bool → ℕ → ℕ → ℕ → ℕ → ℕ → ℕ → List (ℕ × Report)
by_kind reason sell party entry other price second quantity =
    (1, Noted)
    ∷ (2, Rejected reason sell party entry price quantity)
    ∷ (3, Traded sell party entry other price quantity)
    ∷ (4, Rested sell party entry price second quantity)
    ∷ (5, Repriced sell party entry price second quantity)
    ∷ (6, Cancelled reason sell party entry price quantity)
    ∷ []

-- the fields in the report's order: kind, reason, side, party, entry, other entry, price, second, quantity
abbrev pub kinds_of : List ℕ → List (ℕ × Report)
kinds_of l =
    by_kind (get_or l 1 0) (eqb (get_or l 2 0) 1) (get_or l 3 0) (get_or l 4 0) (get_or l 5 0) (get_or l 6 0) (get_or l 7 0) (get_or l 8 0)

abbrev pub claimed_by : List ℕ → Option Report
claimed_by l = look_up (get_or l 0 0) (kinds_of l)

abbrev pub reports : Codec Report
reports = record { widths = widths; size = report_size; code = code_of; claimed = claimed_by; admitted = λ _. true }

-- the code has this table
pub tabled : Tabled reports widths 10 report_size
tabled =
    let narrow : Narrow widths = (lit≤ tt, (lit≤ tt, (lit≤ tt, (lit≤ tt, (lit≤ tt, (lit≤ tt, (lit≤ tt, (lit≤ tt, (lit≤ tt, (lit≤ tt, tt)))))))))) in
    record { widths = refl; size = refl; few = lit≤ tt; layout = record { fills = refl; narrow = narrow; fields = refl; small = lit≤ tt } }

-- document 01's number and fields for each case of the answer
abbrev pub said_by : Option Report → ℕ × List ℕ
said_by None = (nothing, [])
said_by (Some r) = (0, code_of r)
