-- The first 28 bytes of a packed series: its numbers, how many entries rest, and which makers are blocked.
-- Assumes nothing.
use Rattle.std.specs.Prelude.{ℕ, Bool, true, refl, List, ◌∷◌, map, eqb, get_or, drop, replicate}
use Rattle.std.specs.Prelude.{Some}
use Rattle.std.proofs.Common.{lit≤}
use Rattle.bits.specs.Fields.{Narrow}
use Rattle.packing.specs.Codec.{Codec, Tabled, bit}
use Rattle.series_buffer.specs.declared.Header.{Header}

-- how many bytes the header has
abbrev pub header_size : ℕ
header_size = 28

-- M, K 1 byte each, strike 4, phase 1, away bid, away offer, underlying, number given last 4 each, put, exempt, count 1 each; then a bit
-- for each maker, maker 1 first
abbrev pub widths : List ℕ
widths = 8 ∷ 8 ∷ 32 ∷ 8 ∷ 32 ∷ 32 ∷ 32 ∷ 32 ∷ 8 ∷ 8 ∷ 8 ∷ replicate 16 1

abbrev pub code_of : Header → List ℕ
code_of h =
    h.terms.m
    ∷ h.terms.k
    ∷ h.terms.strike
    ∷ h.terms.phase
    ∷ h.terms.bid
    ∷ h.terms.offer
    ∷ h.terms.underlying
    ∷ h.terms.given
    ∷ bit h.terms.put
    ∷ bit h.terms.exempt
    ∷ h.count
    ∷ map bit h.blocked

-- a flag is set where its field is 1
abbrev pub is_set : ℕ → Bool
is_set x = eqb x 1

abbrev pub header_by : List ℕ → Header
header_by l = record {
  terms = record {
    m = get_or l 0 0;
    k = get_or l 1 0;
    strike = get_or l 2 0;
    phase = get_or l 3 0;
    bid = get_or l 4 0;
    offer = get_or l 5 0;
    underlying = get_or l 6 0;
    given = get_or l 7 0;
    put = is_set (get_or l 8 0);
    exempt = is_set (get_or l 9 0);
  };
  count = get_or l 10 0;
  blocked = map is_set (drop 11 l);
}

-- whether the numbers are legal is not asked here: that is soundness
abbrev pub headers : Codec Header
headers = record { widths = widths; size = header_size; code = code_of; claimed = λ l. Some (header_by l); admitted = λ _. true }

-- the code has this table
pub tabled : Tabled headers widths 27 header_size
tabled =
    let last : Narrow (drop 18 widths) = (lit≤ tt, (lit≤ tt, (lit≤ tt, (lit≤ tt, (lit≤ tt, (lit≤ tt, (lit≤ tt, (lit≤ tt, (lit≤ tt, tt))))))))) in
    let more : Narrow (drop 9 widths) = (lit≤ tt, (lit≤ tt, (lit≤ tt, (lit≤ tt, (lit≤ tt, (lit≤ tt, (lit≤ tt, (lit≤ tt, (lit≤ tt, last))))))))) in
    let narrow : Narrow widths = (lit≤ tt, (lit≤ tt, (lit≤ tt, (lit≤ tt, (lit≤ tt, (lit≤ tt, (lit≤ tt, (lit≤ tt, (lit≤ tt, more))))))))) in
    record { widths = refl; size = refl; few = lit≤ tt; layout = record { fills = refl; narrow = narrow; fields = refl; small = lit≤ tt } }
