-- What is known behind a test of a refusal (`refuse_if` of crate kinds): at its exit, and past it; and what is answered to an event that a test refuses.
-- Assumes nothing.
use Prim.Native.Nat.{ℕ, ◌≤◌}
use mathlib.Core.Path.{◌≡◌, refl, sym, ap, subst, ◌∙◌}
use mathlib.Core.Bool.{Bool, true, false, cond}
use mathlib.Core.List.{List}
use native.Mathlib.Omega.{arith}
use borrow.Author.Tests.{ne_eqb}
use Rattle.std.specs.Prelude.{Result, Ok, Err, Option, None, Some}
use Rattle.std.specs.Option.{ok_or}
use Rattle.std.specs.Result.{is_ok, IsErrAnd}
use Rattle.kinds.specs.declared.refusal.Refusal.{Refusal}
use Rattle.kinds.specs.declared.refusal.Refusal.TheVariants.{Nothing, Party, Price, Quantity, NotOpen, Blocked}
use Rattle.kinds.specs.declared.refusal.Refusal.TheVariants.{Full, Missing, Spent, ShortRoom, Unsound, NoReport}
use Rattle.kinds.specs.Refusals.{number_of, refused_if}
use Rattle.series.specs.declared.Series.{Series}
use Rattle.handler.specs.declared.Ask.{Ask}
use Rattle.handler.specs.declared.Answer.{Answer}
use Rattle.handler.specs.Refuse.{refusal_in, refusal_of}
use Rattle.handler.specs.Handle.{answer_of, in_room, refused, accepted, judged}

-- past it the test does not hold
pub passed_by : (test : Bool) (why : Refusal) {u : Unit {0}} → Ok u ≡ refused_if test why → test ≡ false
passed_by true why h = absurd (let z : true ≡ false = ap is_ok h in let w : ◌≡◌ {A = ℕ} 0 1 = cc in omega arith)
passed_by false why h = refl

-- at its exit it holds, and its refusal is what is returned
pub refused_by : {T : Type 0} (test : Bool) (why : Refusal) {e : Refusal} → Err e ≡ refused_if test why → (r : Result T Refusal) → IsErrAnd r (λ y. y ≡ e)
    → (test ≡ true) × (r ≡ Err why)
refused_by true why h (Ok x) p = absurd p
refused_by true why {e} h (Err y) p = (refl, ap Err (p ∙ (let z : Err e ≡ Err why = h in cc)))
refused_by false why h r p = absurd (let z : false ≡ true = ap is_ok h in let w : ◌≡◌ {A = ℕ} 0 1 = cc in omega arith)

-- the same where something is asked for that may be missing: it is there, or it is not and the refusal is returned
pub there_by : {A : Type 0} (o : Option A) (why : Refusal) {x : A} → Ok x ≡ ok_or o why → o ≡ Some x
there_by None why {x} h = absurd (let z : true ≡ false = ap is_ok h in let w : ◌≡◌ {A = ℕ} 0 1 = cc in omega arith)
there_by (Some y) why {x} h = ap Some (let z : Ok x ≡ Ok y = h in cc)

pub missing_by : {A T : Type 0} (o : Option A) (why : Refusal) {e : Refusal} → Err e ≡ ok_or o why → (r : Result T Refusal) → IsErrAnd r (λ y. y ≡ e)
    → (o ≡ None) × (r ≡ Err why)
missing_by None why h (Ok x) p = absurd p
missing_by None why {e} h (Err y) p = (refl, ap Err (p ∙ (let z : Err e ≡ Err why = h in cc)))
missing_by (Some y) why h r p = absurd (let z : false ≡ true = ap is_ok h in let w : ◌≡◌ {A = ℕ} 0 1 = cc in omega arith)

-- the number of what one test refuses
pub number-if : (test : Bool) (why : Refusal) → refusal_in (refused_if test why) ≡ cond test (number_of why) 0
number-if true why = refl
number-if false why = refl

-- a refusal that is handed on as it came
pub handed_on : {T : Type 0} {e : Refusal} (r : Result T Refusal) → IsErrAnd r (λ y. y ≡ e) → r ≡ Err e
handed_on (Ok x) p = absurd p
handed_on (Err y) p = ap Err p

-- no refusal has the number 0
pub numbered : (why : Refusal) → number_of why ≡ 0 → ⊥
numbered why h = by (number_of why) (least why) h
  where
    by : (n : ℕ) → 1 ≤ n → n ≡ 0 → ⊥
    by n k z = absurd (omega arith)

    least : (k : Refusal) → 1 ≤ number_of k
    least Nothing = omega arith
    least Party = omega arith
    least Price = omega arith
    least Quantity = omega arith
    least NotOpen = omega arith
    least Blocked = omega arith
    least Full = omega arith
    least Missing = omega arith
    least Spent = omega arith
    least ShortRoom = omega arith
    least Unsound = omega arith
    least NoReport = omega arith

-- the answer to an event that a test refuses
pub judged-refused : (s : Series) (a : Ask) (room : List ℕ) {e : Refusal} → number_of e ≡ refusal_of s a → (r : Result Answer Refusal) → r ≡ Err e
    → in_room (answer_of s r) room ≡ judged s a room (refusal_of s a)
judged-refused s a room {e} w r is =
    ap (λ (x : Result Answer Refusal). in_room (answer_of s x) room) is
    ∙ subst (λ (n : ℕ). refused (number_of e) s room ≡ judged s a room n) w
    (sym (ap (λ (b : Bool). cond b (accepted s a room) (refused (number_of e) s room)) (ne_eqb (number_of e) 0 (numbered e))))
