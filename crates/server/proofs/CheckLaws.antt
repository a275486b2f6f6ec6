-- What a check without a series says of every series with that M.
-- Assumes nothing.
use Prim.Native.Nat.{ℕ, ◌≤◌}
use mathlib.Core.Path.{◌≡◌, refl, sym, ◌∙◌, subst}
use mathlib.Core.Bool.{Bool, true, false, cond, not}
use mathlib.Core.List.{List}
use Rattle.std.specs.Prelude.{Option, None, Some}
use native.Mathlib.Omega.{arith}
use lib.Dec.{ltb}
use lib.ListN.{length, drop}
use borrow.Author.Tests.{le-ltb}
use Rattle.prices.specs.Step.{mpv}
use Rattle.lists.specs.Tests.{first_holding}
use Rattle.lists.proofs.Bools.{and_left}
use Rattle.lists.proofs.FirstLaws.{first-none, first-other, first-front, first-behind}
use Rattle.packing.specs.declared.message.Event.{Event}
use Rattle.packing.specs.Codec.{unpack_of}
use Rattle.packing.specs.Message.{messages}
use Rattle.packing.specs.Room.{room_size}
use Rattle.series.specs.declared.Series.{Series}
use Rattle.series.specs.Series.{sound_series, sound_terms}
use Rattle.handler.specs.Asked.{ask_of}
use Rattle.handler.specs.Refuse.{refusals}
use Rattle.handler.specs.Handle.{handled}
use Rattle.handler.proofs.Refusals.{table, refusals-in-order}
use Rattle.server.specs.Check.{faults, fault_of, check_as, check}

-- ---- what the code cites ----

pub check-no-series : (event : Option Event) (m : ℕ) → mpv m ≡ false → check_as event m ≡ 11
unfolding check_as
check-no-series event m h = rw h refl

pub check-read : (event : Option Event) (m : ℕ) (u : Option Event) → mpv m ≡ true → event ≡ u → check_as event m ≡ fault_of m u
unfolding check_as
check-read event m u h e = rw (h, e) refl

-- ---- with a series at hand ----

-- what the number of a check says of a refusal: a fault is the refusal; where there is none, the refusal is none of 1 to 4
pub record Foretells (checked refusal : ℕ) : Type 0 where
  pub fault : (checked ≡ 0 → ⊥) → refusal ≡ checked
  pub none : checked ≡ 0 → (n : ℕ) → 1 ≤ n → n ≤ 4 → refusal ≡ n → ⊥

module _ (s : Series) (message room : List ℕ) (sound : sound_series s ≡ true) (space : room_size ≤ length room) where
  -- the handler's tests behind the first two
  judges : Option Event → ℕ
  judges u = first_holding (drop 2 (table s u room))

  judged-so : (handled s message room).answer.refusal ≡ judges (unpack_of messages message)
  unfolding judges
  judged-so =
      refusals-in-order s message room ∙ early (ltb (length room) room_size) (sound_series s) (judges (unpack_of messages message)) (le-ltb _ _ space) sound
    where
      early : (b c : Bool) (n : ℕ) → b ≡ false → c ≡ true → cond b 10 (cond (not c) 11 n) ≡ n
      early b c n h k = rw (h, k) refl

  event-foretold : (u : Option Event) → Foretells (fault_of s.terms.m u) (judges u)
  unfolding judges
  event-foretold None = record { fault = λ h. refl; none = λ h n low high k. omega (arith, h) }
  event-foretold (Some e) = record {
    fault = λ h. first-front (faults s.terms.m (ask_of e)) (drop 3 (refusals s (ask_of e))) h;
    none = λ h n low high k.
        first-other (drop 3 (refusals s (ask_of e))) n (
          λ q. omega (arith, q, high),
          (λ q. omega (arith, q, high), (λ q. omega (arith, q, high), (λ q. omega (arith, q, high), (λ q. omega (arith, q, high), tt)))),
        )
        (λ q. omega (arith, q, low))
        (sym
        (first-behind (faults s.terms.m (ask_of e)) (drop 3 (refusals s (ask_of e)))
        (first-none (faults s.terms.m (ask_of e)) (omega arith, (omega arith, (omega arith, tt))) h)) ∙ k);
  }

  -- THEOREM. In a sound series, and with room enough, what a check with the series' M answers is the handler's refusal, if that is one of 1 to 4
  pub check-foretells : Foretells (check message s.terms.m) (handled s message room).answer.refusal
  unfolding sound_series sound_terms check
  check-foretells =
      subst (λ (n : ℕ). Foretells n (handled s message room).answer.refusal)
      (sym (check-read (unpack_of messages message) s.terms.m _ (and_left _ _ (and_left _ _ sound)) refl))
      (subst (λ (n : ℕ). Foretells (fault_of s.terms.m (unpack_of messages message)) n) (sym judged-so) (event-foretold (unpack_of messages message)))
