-- THE BEST UNDISPLAYED CONTRA PRICE, of which 21 speaks, in a sound book: where it is one, an undisplayed entry works at it, and none works at a better; and 21
-- applies exactly if there is an undisplayed entry within the limit.
-- Assumes nothing.
use Prim.Native.Nat.{ℕ, ◌≤◌, ◌<◌}
use mathlib.Core.Path.{◌≡◌, refl, sym, subst}
use mathlib.Core.Bool.{Bool, true, false, cond, not, ◌&&◌}
use mathlib.Core.List.{List}
use mathlib.Core.Logic.{⊎_elim}
use native.Mathlib.Omega.{arith}
use lib.Dec.{eqb}
use borrow.Author.Tests.{eqb-false, ne_eqb}
use Rattle.prices.specs.Side.{reaches}
use Rattle.prices.specs.Test.{holds}
use Rattle.prices.specs.Post.{test21}
use Rattle.prices.proofs.FrameLaws.{seen, reaches-false}
use Rattle.prices.proofs.StepLaws.{present}
use Rattle.prices.proofs.StopLaws.{decides-hidden}
use Rattle.kinds.specs.Kinds.{light}
use Rattle.lists.specs.Places.{At}
use Rattle.lists.proofs.FirstLaws.{Decides}
use Rattle.book.specs.declared.Entry.{Entry}
use Rattle.book.specs.Entries.{display, displayed, against}
use Rattle.book.specs.Look.{hidden_price, best_hidden}
use Rattle.book.proofs.OfferLaws.{AsGood, none_or_some, positive}
use Rattle.book.proofs.LookLaws.{Offered, hidden-price-tells}
use Rattle.soundness_theory.proofs.Facts.{Sound}
use Rattle.soundness_theory.proofs.FrontLaws.{seen-good}
use Rattle.soundness_theory.proofs.KeepLaws.{here-facts}
use Rattle.arrival.specs.Post.{hidden_for}

-- an undisplayed entry that faces side s. "An entry is displayed interest if display equals working price."
pub record Undisplayed (s : Bool) (l : List Entry) (place : ℕ) (entry : Entry) : Type 0 where
  pub there : At l place entry
  pub faces : against s entry ≡ true
  pub undisplayed : display entry ≡ entry.working → ⊥

-- P IS THE BEST UNDISPLAYED PRICE that side s faces: one works at it, and none at a better
pub record BestUndisplayed (s : Bool) (l : List Entry) (p : ℕ) : Type 0 where
  pub place : ℕ
  pub entry : Entry
  pub is_one : Undisplayed s l place entry
  pub works : entry.working ≡ p
  pub none-better : (i : ℕ) (y : Entry) → Undisplayed s l i y → AsGood s p y.working

not-displayed : (y : Entry) → (display y ≡ y.working → ⊥) → displayed y ≡ false
not-displayed y h = ne_eqb (display y) y.working h

module _ {m top : ℕ} (s : Bool) (l : List Entry) (so : Sound m top l) where
  abbrev best : ℕ
  best = best_hidden s l

  offers : (i : ℕ) (y : Entry) → Undisplayed s l i y → Offered hidden_price s l y.working
  offers i y u = record {
    place = i;
    entry = y;
    there = u.there;
    faces = u.faces;
    asks = rw (not-displayed y u.undisplayed);
    some = positive y.working (present so.step (here-facts so i y u.there).works);
  }

  -- where there is such a price
  pub best-undisplayed : 1 ≤ best → BestUndisplayed s l best
  best-undisplayed some =
      let o = (hidden-price-tells s l).some some in
      let shown : displayed o.entry ≡ false = by o.entry (displayed o.entry) refl o.asks in
      record {
        place = o.place;
        entry = o.entry;
        is_one = record { there = o.there; faces = o.faces; undisplayed = eqb-false (display o.entry) o.entry.working shown };
        works = rw shown at o.asks;
        none-better = λ i y u. (hidden-price-tells s l).best y.working (offers i y u);
      }
    where
      by : (y : Entry) (b : Bool) → displayed y ≡ b → cond b 0 y.working ≡ best → b ≡ false
      by y true q h = absurd (omega (arith, some))
      by y false q h = refl

  -- and else there is no such entry
  pub none-undisplayed : best ≡ 0 → (i : ℕ) (y : Entry) → Undisplayed s l i y → ⊥
  none-undisplayed z i y u = (hidden-price-tells s l).none z y.working (offers i y u)

  some-undisplayed : (i : ℕ) (y : Entry) → Undisplayed s l i y → 1 ≤ best
  some-undisplayed i y u = ⊎_elim (λ z. absurd (none-undisplayed z i y u)) (λ h. h) (none_or_some best)

  best-low : best ≤ 200000
  best-low = ⊎_elim (λ z. omega (arith, z)) (λ h. let b = best-undisplayed h in
      omega (arith, b.works, (here-facts so b.place b.entry b.is_one.there).works.high)) (none_or_some best)

  -- what 21 does not stop has nothing undisplayed within its limit
  pub hidden-beyond : (limit : ℕ) → limit ≤ 200000 → (not (eqb best 0) && reaches s limit best) ≡ false
      → (i : ℕ) (y : Entry) → Undisplayed s l i y → seen s limit < seen s y.working
  hidden-beyond limit high h i y u =
      let some = some-undisplayed i y u in
      let far = reaches-false s limit best high best-low (rw (ne_eqb best 0 (λ z. omega (arith, some, z))) at h) in
      omega (arith, far, seen-good s best y.working ((hidden-price-tells s l).best y.working (offers i y u)))

-- ---- 21: "MMLO and an undisplayed sell works at L or less" ----

pub record HiddenInWay (e : Entry) (l : List Entry) : Type 0 where
  pub passes_over : light e.kind ≡ true
  pub place : ℕ
  pub entry : Entry
  pub is_one : Undisplayed e.sell l place entry
  pub buy : e.sell ≡ false → entry.working ≤ e.limit
  pub sell : e.sell ≡ true → e.limit ≤ entry.working

module _ {m top : ℕ} (e : Entry) (l : List Entry) (so : Sound m top l) where
  light-hidden : light e.kind ≡ true → hidden_for e l ≡ best_hidden e.sell l
  light-hidden q = rw q refl

  -- the second figure of 21 is the best undisplayed price
  pub way-best : HiddenInWay e l → BestUndisplayed e.sell l (hidden_for e l)
  way-best f =
      subst (BestUndisplayed e.sell l) (sym (light-hidden f.passes_over))
      (best-undisplayed e.sell l so (some-undisplayed e.sell l so f.place f.entry f.is_one))

  pub decides-21 : Decides (holds e.sell (test21 e.kind e.limit (hidden_for e l))) (HiddenInWay e l)
  decides-21 = (told, tells)
    where
      told : holds e.sell (test21 e.kind e.limit (hidden_for e l)) ≡ true → HiddenInWay e l
      told h =
          let a = (decides-hidden e.kind e.sell e.limit (hidden_for e l)).0 h in
          let is = light-hidden a.passes_over in
          let b = best-undisplayed e.sell l so (omega (arith, a.known, is)) in
          record {
            passes_over = a.passes_over;
            place = b.place;
            entry = b.entry;
            is_one = b.is_one;
            buy = λ q. omega (arith, a.buy q, is, b.works);
            sell = λ q. omega (arith, a.sell q, is, b.works);
          }

      tells : HiddenInWay e l → holds e.sell (test21 e.kind e.limit (hidden_for e l)) ≡ true
      tells f =
          let is = light-hidden f.passes_over in
          let good : AsGood e.sell (best_hidden e.sell l) f.entry.working =
          (best-undisplayed e.sell l so (some-undisplayed e.sell l so f.place f.entry f.is_one)).none-better f.place f.entry f.is_one in
          (decides-hidden e.kind e.sell e.limit (hidden_for e l)).1 (record {
            passes_over = f.passes_over;
            known = omega (arith, is, some-undisplayed e.sell l so f.place f.entry f.is_one);
            buy = λ q. omega (arith, f.buy q, is, subst (λ (s : Bool). AsGood s (best_hidden e.sell l) f.entry.working) q good);
            sell = λ q. omega (arith, f.sell q, is, subst (λ (s : Bool). AsGood s (best_hidden e.sell l) f.entry.working) q good);
          })
