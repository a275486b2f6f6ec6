-- Setup, as document 01's "Numbers" lays it out.
use Rattle.std.specs.Prelude.{ℕ, Bool, ◌&&◌, ◌||◌, refl, List, [], ◌∷◌, eqb, leb, get_or}
use Rattle.std.specs.Prelude.{Option, None, Some}
use Rattle.std.proofs.Common.{lit≤}
use Rattle.packing.specs.declared.setup.Setup.{Setup}
use Rattle.bits.specs.Fields.{Narrow}
use Rattle.packing.specs.Codec.{Codec, Tabled, nothing, bit}

-- "Setup is 4 packed bytes, most significant bit first: put 1 bit, exempt 1, M 4, K 7, strike 17, two zero bits."
abbrev pub setup_size : ℕ
setup_size = 4

abbrev pub widths : List ℕ
widths = 1 ∷ 1 ∷ 4 ∷ 7 ∷ 17 ∷ 2 ∷ []

abbrev pub code_of : Setup → List ℕ
code_of s = bit s.put ∷ bit s.exempt ∷ s.m ∷ s.k ∷ s.strike ∷ 0 ∷ []

abbrev pub claimed_by : List ℕ → Option Setup
claimed_by l = Some (record { put = eqb (get_or l 0 0) 1; exempt = eqb (get_or l 1 0) 1; m = get_or l 2 0; k = get_or l 3 0; strike = get_or l 4 0 })

-- "Strike 1 to 100,000"
abbrev pub top_strike : ℕ
top_strike = 100000

-- "Setup M 10 is refused; 1 and 5 name the pairs.", "K .. is 0 to 100", "Strike 1 to 100,000". "Setup of other length or values is refused (1, no series)"
abbrev pub legal_setup : Setup → Bool
legal_setup s =
    (eqb s.m 1 || eqb s.m 5) && (leb s.k 100 && (leb 1 s.strike && leb s.strike top_strike))

abbrev pub setups : Codec Setup
setups = record { widths = widths; size = setup_size; code = code_of; claimed = claimed_by; admitted = legal_setup }

-- the code has this table
pub tabled : Tabled setups widths 6 setup_size
tabled =
    let narrow : Narrow widths = (lit≤ tt, (lit≤ tt, (lit≤ tt, (lit≤ tt, (lit≤ tt, (lit≤ tt, tt)))))) in
    record { widths = refl; size = refl; few = lit≤ tt; layout = record { fills = refl; narrow = narrow; fields = refl; small = lit≤ tt } }

-- document 01's number and fields for each case of the answer
abbrev pub said_by : Option Setup → ℕ × List ℕ
said_by None = (nothing, [])
said_by (Some s) = (0, code_of s)
