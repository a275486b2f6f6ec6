use Prim.Native.Nat.{ℕ, ◌+◌}
use mathlib.Core.List.{List, ◌++◌}
use mathlib.Core.Path.{sym, ap, ◌∙◌}
use native.Mathlib.Omega.{arith}
use lib.ListN.{length, take, drop}
use lib.Seq.{sets-eq, take-length}
use Rattle.std.proofs.lemmas.Slice.{put_mid-paste}
use Rattle.packing.proofs.room.store.Goals as goal

pub returns : goal.returns
returns c =
    let a = c.args in
    let end : ℕ = a.start + length a.part.now in
    put_mid-paste a.start _ a.room.now _ a.part.now (length a.part.now) c.copy_from_slice.ensures.after (omega arith) (omega arith)
    ∙ ap (λ (l : List ℕ). take a.start a.room.now ++ l ++ drop end a.room.now) (take-length a.part.now)
    ∙ sym (sets-eq a.part.now a.room.now a.start c.requires)
