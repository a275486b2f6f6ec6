-- A run played message by message: each step is the definition's, and the end is where it stops.
use Prim.Native.Nat.{ℕ, zero, suc, ◌+◌, ◌-◌, ◌≤◌, ◌<◌}
use mathlib.Core.Path.{◌≡◌, refl, sym, ap, ◌∙◌}
use mathlib.Core.Bool.{Bool, true, false, ◌&&◌}
use mathlib.Core.List.{List, ◌++◌, append-nil}
use Rattle.std.specs.Prelude.{Option, None, Some}
use native.Mathlib.Omega.{arith}
use lib.Dec.{leb}
use lib.ListN.{length, drop, take, length-drop, drop_of_length-le}
use lib.Seq.{take_all}
use borrow.Author.Tests.{le-leb, lt-leb, leb-true}
use Rattle.std.specs.Prelude.{Result, Ok, Err, is_ok}
use Rattle.std.specs.Result.{result_unwrap_or}
use Rattle.kinds.specs.declared.refusal.Refusal.{Refusal}
use Rattle.lists.proofs.Bools.{clash, and_left, and_right}
use Rattle.packing.specs.declared.setup.Setup.{Setup}
use Rattle.packing.specs.Room.{room_size}
use Rattle.packing.specs.Message.{message_size}
use Rattle.series.specs.declared.Series.{Series}
use Rattle.series.specs.Series.{opened}
use Rattle.handler.specs.Handle.{handled_at}
use Rattle.handler.proofs.AnyRoom.{count-few}
use Rattle.bench_played.specs.Played.{goes_on, Turned, played_on, played, played_by}

-- the test of the loop
pub goes-not : (long at size used : ℕ) → long < at + message_size → goes_on long at size used ≡ false
goes-not long at size used h = ap (λ (b : Bool). b && leb (used + room_size) size) (lt-leb (at + message_size) long h)

pub goes-if : (long at size used : ℕ) → at + message_size ≤ long → goes_on long at size used ≡ leb (used + room_size) size
goes-if long at size used h = ap (λ (b : Bool). b && leb (used + room_size) size) (le-leb (at + message_size) long h)

pub goes-both : (long at size used : ℕ) → goes_on long at size used ≡ true → (at + message_size ≤ long) × (used + room_size ≤ size)
goes-both long at size used h = (
  leb-true (at + message_size) long (and_left (leb (at + message_size) long) (leb (used + room_size) size) h),
  leb-true (used + room_size) size (and_right (leb (at + message_size) long) (leb (used + room_size) size) h),
)

-- WHAT IS LEFT TO PLAY from here is what was to play from the start
pub record Playing (start : Series) (run out₀ : List ℕ) (s : Series) (at : ℕ) (out : List ℕ) (used : ℕ) : Type 0 where
  pub left : ℕ
  pub same : played_on left s run at out used ≡ played start run out₀
  pub enough : length run ≤ at + left
  pub within : at ≤ length run
  pub room : used ≤ length out
  pub size : length out ≡ length out₀

pub begins : (start : Series) (run out : List ℕ) → Playing start run out start 0 out 0
unfolding played
begins start run out = record { left = length run; same = refl; enough = omega arith; within = omega arith; room = omega arith; size = refl }

module _ {start s : Series} {run out₀ out : List ℕ} {at used : ℕ} (p : Playing start run out₀ s at out used) where
  pub ends : goes_on (length run) at (length out) used ≡ false → (used ≡ (played start run out₀).0) × (out ≡ (played start run out₀).1)
  unfolding played_on
  ends h = let e : played_on p.left s run at out used ≡ (used, out) = by p.left in
      (ap (λ (x : ℕ × List ℕ). x.0) (sym e ∙ p.same), ap (λ (x : ℕ × List ℕ). x.1) (sym e ∙ p.same))
    where
      by : (n : ℕ) → played_on n s run at out used ≡ (used, out)
      by zero = refl
      by (suc n) = rw h refl

  pub goes : {s' : Series} {out' : List ℕ} {used' : ℕ} → goes_on (length run) at (length out) used ≡ true → Turned s run at out used s' used' out'
      → length out' ≡ length out → Playing start run out₀ s' (at + message_size) out' used'
  unfolding played_on
  goes {s'} {out'} {used'} h t k = by p.left p.same p.enough
    where
      b : (at + message_size ≤ length run) × (used + room_size ≤ length out)
      b = goes-both (length run) at (length out) used h

      by : (n : ℕ) → played_on n s run at out used ≡ played start run out₀ → length run ≤ at + n → Playing start run out₀ s' (at + message_size) out' used'
      by zero e m = absurd (omega (arith, b.0))
      by (suc n) e m = record {
        left = n;
        same = rw (t.series, t.end, t.room) (rw h at e);
        enough = omega (arith, b.0);
        within = b.0;
        room = omega (arith, b.1, t.end, k, count-few s (take 11 (drop at run)) (drop used out));
        size = k ∙ p.size;
      }

-- a part that runs to the end, put back
pub part-back : (out ys : List ℕ) (used : ℕ) → used ≤ length out → take used out ++ (ys ++ drop (length out - used) (drop used out)) ≡ take used out ++ ys
part-back out ys used h =
    ap (λ (l : List ℕ). take used out ++ l)
    (ap (λ (l : List ℕ). ys ++ l) (drop_of_length-le (drop used out) {i = length out - used} (rw length-drop (omega arith))) ∙ append-nil ys)

-- what is lent to the handler is all that stands behind `used`
pub lent : (s : Series) (run : List ℕ) (at : ℕ) (out : List ℕ) (used : ℕ) → used ≤ length out
    → handled_at s run at (take (length out - used) (drop used out)) ≡ handled_at s run at (drop used out)
lent s run at out used h = ap (handled_at s run at) (take_all (length out - used) (drop used out) (rw length-drop (omega arith)))

-- a setup that is refused, and one that is not
pub plays-nothing : (u : Option Setup) (why : Refusal) (run out : List ℕ) → opened u ≡ Err why → (0 ≡ (played_by u run out).0) × (out ≡ (played_by u run out).1)
plays-nothing None why run out h = (refl, refl)
plays-nothing (Some x) why run out h = clash refl (ap is_ok h)

pub plays-series : (u : Option Setup) (s : Series) (run out : List ℕ) → opened u ≡ Ok s → played s run out ≡ played_by u run out
plays-series None s run out h = clash (ap is_ok h) refl
plays-series (Some x) s run out h = sym (ap (λ (r : Result Series Refusal). played (result_unwrap_or r s) run out) h)

pub le-rw : {m n k : ℕ} → m ≡ n → n ≤ k → m ≤ k
le-rw e h = omega arith
