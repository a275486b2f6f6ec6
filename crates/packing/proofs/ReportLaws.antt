-- Reports: their table is lawful, so that the laws of `CodecLaws` hold of them; and which reports pack.
use Prim.Native.Nat.{ℕ, ◌<◌}
use mathlib.Core.Bool.{Bool, true, false}
use mathlib.Core.List.{List, [], ◌∷◌, ◌++◌}
use Rattle.std.specs.Prelude.{Option, None, Some}
use mathlib.Core.Path.{◌≡◌, refl, ap}
use native.Mathlib.Omega.{arith}
use lib.ListN.{get_or}
use Rattle.bits.specs.Fields.{Fit}
use Rattle.packing.specs.declared.report.Report.{Report}
use Rattle.packing.specs.declared.report.Report.TheVariants.{Noted, Rejected, Traded, Rested, Repriced, Cancelled}
use Rattle.packing.specs.Codec.{bit, packs, answer_of}
use Rattle.packing.specs.Report.{nine_fields, fields_of, code_of, by_kind, claimed_by, reports, said_by}
use Rattle.packing.proofs.CodecLaws.{Lawful, bit_is, fit-packs, Answer}

-- the nine fields, one by one, and the zero bits: the code finds this by itself, and docs/RULES cites it
pub code-fields : (r : Report) (f : List ℕ) → f ≡ fields_of r
    → get_or f 0 0 ∷ get_or f 1 0 ∷ get_or f 2 0 ∷ get_or f 3 0 ∷ get_or f 4 0 ∷ get_or f 5 0 ∷ get_or f 6 0 ∷ get_or f 7 0 ∷ get_or f 8 0 ∷ 0 ∷ [] ≡ code_of r
code-fields r f h = rw h (one_by_one r)
  where
    nine : List ℕ → List ℕ
    nine l = get_or l 0 0 ∷ get_or l 1 0 ∷ get_or l 2 0 ∷ get_or l 3 0 ∷ get_or l 4 0 ∷ get_or l 5 0 ∷ get_or l 6 0 ∷ get_or l 7 0 ∷ get_or l 8 0 ∷ 0 ∷ []

    one_by_one : (q : Report) → nine (fields_of q) ≡ code_of q
    one_by_one Noted = refl
    one_by_one (Rejected reason sell party entry limit quantity) = refl
    one_by_one (Traded sell party entry other price quantity) = refl
    one_by_one (Rested sell party entry display working quantity) = refl
    one_by_one (Repriced sell party entry display working quantity) = refl
    one_by_one (Cancelled reason sell party entry limit quantity) = refl

code-claimed : (r : Report) → claimed_by (code_of r) ≡ Some r
unfolding by_kind
code-claimed Noted = refl
code-claimed (Rejected reason sell party entry limit quantity) = ap (λ (s : Bool). Some (Rejected reason s party entry limit quantity)) (bit_is sell)
code-claimed (Traded sell party entry other price quantity) = ap (λ (s : Bool). Some (Traded s party entry other price quantity)) (bit_is sell)
code-claimed (Rested sell party entry display working quantity) = ap (λ (s : Bool). Some (Rested s party entry display working quantity)) (bit_is sell)
code-claimed (Repriced sell party entry display working quantity) = ap (λ (s : Bool). Some (Repriced s party entry display working quantity)) (bit_is sell)
code-claimed (Cancelled reason sell party entry limit quantity) = ap (λ (s : Bool). Some (Cancelled reason s party entry limit quantity)) (bit_is sell)

pub lawful : Lawful reports
lawful = record { whole = refl; long = refl; code-claimed = code-claimed }

-- an answer has document 01's number and fields
abbrev pub answer : Answer reports
answer = record { said = said_by; says = says }
  where
    says : (u : Option Report) → said_by u ≡ answer_of reports u
    says None = refl
    says (Some r) = refl

-- WHICH REPORTS PACK, from bounds on their numbers
pub bit-small : (b : Bool) → bit b < 2
bit-small true = omega arith
bit-small false = omega arith

row_fits : (kind reason : ℕ) (sell : Bool) (party entry other price second quantity : ℕ)
    → kind < 8 → reason < 32 → party < 128 → entry < 1048576 → other < 1048576 → price < 131072 → second < 131072 → quantity < 131072
    → Fit reports.widths (nine_fields kind reason sell party entry other price second quantity ++ (0 ∷ []))
row_fits kind reason sell party entry other price second quantity k r p e o a b q =
    (k, (r, (bit-small sell, (p, (e, (o, (a, (b, (q, (omega arith, tt))))))))))

pub noted-packs : packs reports Noted ≡ true
unfolding packs
noted-packs = refl

module _ (sell : Bool) (party entry quantity : ℕ) (p : party < 128) (e : entry < 1048576) (q : quantity < 131072) where
  pub rejected-packs : (reason limit : ℕ) → reason < 32 → limit < 131072 → packs reports (Rejected reason sell party entry limit quantity) ≡ true
  rejected-packs reason limit r l =
      fit-packs reports (Rejected reason sell party entry limit quantity)
      (row_fits 2 reason sell party entry 0 limit 0 quantity (omega arith) r p e (omega arith) l (omega arith) q) refl

  pub traded-packs : (other price : ℕ) → other < 1048576 → price < 131072 → packs reports (Traded sell party entry other price quantity) ≡ true
  traded-packs other price o l =
      fit-packs reports (Traded sell party entry other price quantity)
      (row_fits 3 0 sell party entry other price 0 quantity (omega arith) (omega arith) p e o l (omega arith) q) refl

  pub rested-packs : (display working : ℕ) → display < 131072 → working < 131072 → packs reports (Rested sell party entry display working quantity) ≡ true
  rested-packs display working d w =
      fit-packs reports (Rested sell party entry display working quantity)
      (row_fits 4 0 sell party entry 0 display working quantity (omega arith) (omega arith) p e (omega arith) d w q) refl

  pub repriced-packs : (display working : ℕ) → display < 131072 → working < 131072 → packs reports (Repriced sell party entry display working quantity) ≡ true
  repriced-packs display working d w =
      fit-packs reports (Repriced sell party entry display working quantity)
      (row_fits 5 0 sell party entry 0 display working quantity (omega arith) (omega arith) p e (omega arith) d w q) refl

  pub cancelled-packs : (reason limit : ℕ) → reason < 32 → limit < 131072 → packs reports (Cancelled reason sell party entry limit quantity) ≡ true
  cancelled-packs reason limit r l =
      fit-packs reports (Cancelled reason sell party entry limit quantity)
      (row_fits 6 reason sell party entry 0 limit 0 quantity (omega arith) r p e (omega arith) l (omega arith) q) refl
