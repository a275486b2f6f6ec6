use Prim.Native.Nat.{◌+◌, ◌-◌}
use mathlib.Core.Path.{◌≡◌}
use native.Mathlib.Omega.{arith}
use Rattle.packing.specs.Message.{messages}
use Rattle.packing.proofs.MessageLaws.{short}
use Rattle.packing.proofs.message.unpack_at.Goals as goal

pub returns-then-run-lt-SIZE : goal.returns-then-run-lt-SIZE
returns-then-run-lt-SIZE c = let both = short c.args.run.now c.args.at (omega arith) in record { value = both.0; result_value = both.1 }

pub returns-then-run-at : goal.returns-then-run-at
returns-then-run-at c = let both = short c.args.run.now c.args.at (omega arith) in record { value = both.0; result_value = both.1 }

pub returns : goal.returns
returns c =
    let whole : c.args.at + messages.size - c.args.at ≡ messages.size = omega arith in
    record { value = rw whole at c.unpack.ensures.value; result_value = rw whole at c.unpack.ensures.result_value }
