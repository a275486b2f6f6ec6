-- The header: its table is lawful, so that the laws of `CodecLaws` hold of it.
-- Assumes nothing.
use mathlib.Core.Bool.{Bool}
use mathlib.Core.List.{List, [], ◌∷◌, map}
use Rattle.std.specs.Prelude.{Option, Some}
use mathlib.Core.Path.{◌≡◌, refl, ap₂}
use Rattle.packing.specs.Codec.{bit}
use Rattle.packing.proofs.CodecLaws.{Lawful, bit_is}
use Rattle.series_buffer.specs.declared.Header.{Header}
use Rattle.series_buffer.specs.Header.{headers, code_of, is_set, header_by}

flags-claimed : (l : List Bool) → map is_set (map bit l) ≡ l
flags-claimed [] = refl
flags-claimed (b ∷ l) = ap₂ {C = List Bool} (λ (x : Bool) (xs : List Bool). x ∷ xs) (bit_is b) (flags-claimed l)

code-claimed : (h : Header) → ◌≡◌ {A = Option Header} (Some (header_by (code_of h))) (Some h)
code-claimed h i =
    Some (record {
      terms = record {
        m = h.terms.m;
        k = h.terms.k;
        strike = h.terms.strike;
        phase = h.terms.phase;
        bid = h.terms.bid;
        offer = h.terms.offer;
        underlying = h.terms.underlying;
        given = h.terms.given;
        put = bit_is h.terms.put i;
        exempt = bit_is h.terms.exempt i;
      };
      count = h.count;
      blocked = flags-claimed h.blocked i;
    })

pub lawful : Lawful headers
lawful = record { whole = refl; long = refl; code-claimed = code-claimed }
