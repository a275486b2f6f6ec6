-- Setup: its table is lawful, so that the laws of `CodecLaws` hold of it.
use Rattle.std.specs.Prelude.{Option, None, Some}
use mathlib.Core.Path.{◌≡◌, refl}
use Rattle.packing.specs.declared.setup.Setup.{Setup}
use Rattle.packing.specs.Codec.{answer_of}
use Rattle.packing.specs.Setup.{code_of, claimed_by, setups, said_by}
use Rattle.packing.proofs.CodecLaws.{Lawful, bit_is, Answer}

code-claimed : (s : Setup) → claimed_by (code_of s) ≡ Some s
code-claimed s i = Some (record { put = bit_is s.put i; exempt = bit_is s.exempt i; m = s.m; k = s.k; strike = s.strike })

pub lawful : Lawful setups
lawful = record { whole = refl; long = refl; code-claimed = code-claimed }

-- an answer has document 01's number and fields
abbrev pub answer : Answer setups
answer = record { said = said_by; says = says }
  where
    says : (u : Option Setup) → said_by u ≡ answer_of setups u
    says None = refl
    says (Some s) = refl
