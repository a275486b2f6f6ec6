-- WHAT A PLACE MEANS: on a side places go by who trades first and no two are the same; of those that a taker may trade with, it meets the one with the least
-- place first.
-- Assumes nothing.
use Prim.Native.Nat.{ℕ, ◌≤◌, ◌<◌}
use mathlib.Core.Bool.{Bool, true, false, not, ◌||◌}
use mathlib.Core.List.{List}
use mathlib.Core.Logic.{◌⊎◌, inl, inr, ⊎_elim}
use mathlib.Core.Path.{◌≡◌, refl, sym, ap, subst, ◌∙◌}
use native.Mathlib.Omega.{arith}
use borrow.Author.Tests.{ltb-true, ltb-false}
use lib.Dec.{ltb}
use Rattle.lists.specs.Places.{At}
use Rattle.lists.specs.Choose.{Found, nowhere, found}
use Rattle.lists.proofs.Bools.{clash, and_left, and_both, beq-true, eq-beq}
use Rattle.lists.proofs.PlaceLaws.{at_same}
use Rattle.lists.proofs.ChooseLaws.{Chosen, Tells, chosen-one, chosen-some}
use Rattle.lists.proofs.CountLaws.{passing, counts-passing, fewer-still, none_pass, pass-none}
use Rattle.book.specs.declared.Entry.{Entry}
use Rattle.book.specs.Entries.{displayed, against}
use Rattle.book.specs.Look.{priority, eligible, best_contra}
use Rattle.book.proofs.LookLaws.{best-tells}
use Rattle.board.specs.Board.{key, before_at, place_of}
use Rattle.board.proofs.OrderLaws.{Ahead, ahead-says, says-ahead, not-ahead, through, either, Before, ahead_before, before-ahead}

-- whom a taker of side s may trade with, and by what
faced : (s : Bool) (e : Entry) → eligible s false e ≡ true → e.sell ≡ not s
faced s e h = beq-true e.sell (not s) (and_left (against s e) true h)

eligible-facing : (s : Bool) (e : Entry) → e.sell ≡ not s → eligible s false e ≡ true
eligible-facing s e h = and_both (against s e) true (eq-beq e.sell (not s) h) refl

key-facing : (s : Bool) (e : Entry) → e.sell ≡ not s → key e ≡ priority s e
key-facing s e h = ap (λ (b : Bool). priority b e) (ap not h ∙ twice s)
  where
    twice : (b : Bool) → not (not b) ≡ b
    twice true = refl
    twice false = refl

module _ (l : List Entry) where
  place-passing : (i : ℕ) (e : Entry) → place_of l i e ≡ passing (before_at i e) l
  unfolding place_of
  place-passing i e = counts-passing (before_at i e) l

  ahead-place : {i j : ℕ} {e f : Entry} → At l i e → At l j f → Ahead i e j f → place_of l j f < place_of l i e
  ahead-place {i} {j} {e} {f} a b h =
      let more = fewer-still (before_at j f) (before_at i e) l
      (λ k g c t. says-ahead i e k g (through (ahead-says j f k g t) h)) j f b (self (before_at j f j f) refl) (says-ahead i e j f h) in
      omega (arith, place-passing i e, place-passing j f)
    where
      self : (t : Bool) → before_at j f j f ≡ t → t ≡ false
      self true q = absurd (not-ahead j f (ahead-says j f j f q))
      self false q = refl

  -- THEOREM. WHO TRADES BEFORE ANOTHER HAS THE LESSER PLACE
  pub place-order : (i j : ℕ) (e f : Entry) → At l i e → At l j f → Before i e j f → place_of l j f < place_of l i e
  place-order i j e f a b h = ahead-place a b (before-ahead i e j f h)

  differ : {i j : ℕ} (e f : Entry) → At l i e → At l j f → e.sell ≡ f.sell → i < j → place_of l i e ≡ place_of l j f → ⊥
  differ e f a b side h same =
      ⊎_elim (λ o. omega (arith, ahead-place b a o, same)) (λ o. omega (arith, ahead-place a b o, same)) (either side h)

  -- THEOREM. NO TWO ON A SIDE HAVE THE SAME PLACE
  pub places-apart : {i j : ℕ} (e f : Entry) → At l i e → At l j f → e.sell ≡ f.sell → place_of l i e ≡ place_of l j f → i ≡ j
  places-apart {i} {j} e f a b side same = by (ltb i j) refl (ltb j i) refl
    where
      by : (t : Bool) → ltb i j ≡ t → (u : Bool) → ltb j i ≡ u → i ≡ j
      by true t u v = absurd (differ e f a b side (ltb-true i j t) same)
      by false t true v = absurd (differ f e b a (sym side) (ltb-true j i v) (sym same))
      by false t false v = omega (arith, ltb-false i j t, ltb-false j i v)

  -- AND THE OTHER WAY ABOUT: on a side who has the lesser place trades before the other
  pub order-place : (i j : ℕ) (e f : Entry) → At l i e → At l j f → e.sell ≡ f.sell → place_of l j f < place_of l i e → Before i e j f
  order-place i j e f a b side less = by (ltb i j) refl (ltb j i) refl
    where
      of : Ahead j f i e ⊎ Ahead i e j f → Before i e j f
      of (inl o) = absurd (omega (arith, ahead-place b a o))
      of (inr o) = ahead_before i e j f o

      swap : Ahead i e j f ⊎ Ahead j f i e → Before i e j f
      swap (inl o) = of (inr o)
      swap (inr o) = of (inl o)

      by : (t : Bool) → ltb i j ≡ t → (u : Bool) → ltb j i ≡ u → Before i e j f
      by true t u v = of (either side (ltb-true i j t))
      by false t true v = swap (either (sym side) (ltb-true j i v))
      by false t false v =
          let here : i ≡ j = omega (arith, ltb-false i j t, ltb-false j i v) in
          let one : e ≡ f = at_same l j e f (subst (λ (n : ℕ). At l n e) here a) b in
          let same : place_of l i e ≡ place_of l j f = ap (λ (n : ℕ). place_of l n e) here ∙ ap (place_of l j) one in
          absurd (omega (arith, same))

  -- THEOREM. OF THOSE THAT A TAKER MAY TRADE WITH, IT MEETS THE ONE WITH THE LEAST PLACE FIRST: of all that face it, or, for an MMLO, of those displayed
  pub least-place : (s shown_only : Bool) (i : ℕ) (e : Entry) → best_contra s shown_only l ≡ found i e
      → (k : ℕ) (z : Entry) → At l k z → eligible s shown_only z ≡ true → place_of l i e ≤ place_of l k z
  least-place s shown_only i e h k z a own = by (ltb (place_of l k z) (place_of l i e)) refl
    where
      best : Chosen (eligible s shown_only) (priority s) l i e
      best = subst (Tells (eligible s shown_only) (priority s) l) h (best-tells s shown_only l)

      faces : (x : Entry) → eligible s shown_only x ≡ true → x.sell ≡ not s
      faces x t = beq-true x.sell (not s) (and_left (against s x) (not shown_only || displayed x) t)

      never : Before i e k z → ⊥
      never b =
          let o = before-ahead i e k z b in
          let mine = key-facing s e (faces e best.passes) in
          let its = key-facing s z (faces z own) in
          let same : key z ≡ key e = omega (arith, best.least k z a own, mine, its, o.sooner) in
          omega (arith, best.earliest k z a own (o.older same), mine, its, same)

      by : (t : Bool) → ltb (place_of l k z) (place_of l i e) ≡ t → place_of l i e ≤ place_of l k z
      by true t =
          absurd (never (order-place i k e z best.there a (faces e best.passes ∙ sym (faces z own)) (ltb-true (place_of l k z) (place_of l i e) t)))
      by false t = ltb-false (place_of l k z) (place_of l i e) t

  -- THEOREM. WHOM A TAKER OTHER THAN AN MMLO MEETS FIRST has place 0
  pub first-place : (s : Bool) (i : ℕ) (e : Entry) → best_contra s false l ≡ found i e → place_of l i e ≡ 0
  first-place s i e h = place-passing i e ∙ none_pass (before_at i e) l (λ k g a. by k g a (before_at i e k g) refl)
    where
      best : Chosen (eligible s false) (priority s) l i e
      best = subst (Tells (eligible s false) (priority s) l) h (best-tells s false l)

      ahead : (k : ℕ) (g : Entry) → At l k g → Ahead i e k g → e.sell ≡ not s → eligible s false g ≡ true → ⊥
      ahead k g a b faces own =
          let least = best.least k g a own in
          let same : key g ≡ key e = omega (arith, key-facing s e faces, key-facing s g (b.side ∙ faces), b.sooner) in
          omega (arith, best.earliest k g a own (b.older same), key-facing s e faces, key-facing s g (b.side ∙ faces), same)

      by : (k : ℕ) (g : Entry) → At l k g → (t : Bool) → before_at i e k g ≡ t → t ≡ false
      by k g a false t = refl
      by k g a true t =
          let b = ahead-says i e k g t in
          let faces = faced s e best.passes in
          let own = eligible-facing s g (b.side ∙ faces) in
          absurd (ahead k g a b faces own)

  -- and the other way about: who faces it and has place 0 is whom it meets first
  pub place-first : (s : Bool) (i : ℕ) (e : Entry) → At l i e → against s e ≡ true → place_of l i e ≡ 0 → best_contra s false l ≡ found i e
  place-first s i e a faces none = by (best_contra s false l) (best-tells s false l)
    where
      side : e.sell ≡ not s
      side = beq-true e.sell (not s) faces

      nobody : (k : ℕ) (g : Entry) → At l k g → Ahead i e k g → ⊥
      nobody k g b h = clash (says-ahead i e k g h) (pass-none (before_at i e) l (sym (place-passing i e) ∙ none) k g b)

      sooner : (k : ℕ) (g : Entry) → eligible s false g ≡ true → priority s g ≤ priority s e → (priority s g ≡ priority s e → k < i) → Ahead i e k g
      sooner k g own low older =
          let that = faced s g own in
          let f = key-facing s g that in
          let o = key-facing s e side in
          record { side = that ∙ sym side; sooner = omega arith; older = λ q. older (omega arith) }

      least : (k : ℕ) (g : Entry) → At l k g → eligible s false g ≡ true → (t : Bool) → ltb (priority s g) (priority s e) ≡ t → priority s e ≤ priority s g
      least k g b own false t = ltb-false (priority s g) (priority s e) t
      least k g b own true t =
          let less = ltb-true (priority s g) (priority s e) t in
          absurd (nobody k g b (sooner k g own (omega arith) (λ q. absurd (omega arith))))

      earlier : (k : ℕ) (g : Entry) → At l k g → eligible s false g ≡ true → k < i → (t : Bool) → ltb (priority s e) (priority s g) ≡ t
          → priority s e < priority s g
      earlier k g b own before true t = ltb-true (priority s e) (priority s g) t
      earlier k g b own before false t =
          absurd (nobody k g b (sooner k g own (ltb-false (priority s e) (priority s g) t) (λ q. before)))

      best : Chosen (eligible s false) (priority s) l i e
      best = record {
        there = a;
        passes = eligible-facing s e side;
        least = λ k g b own. least k g b own (ltb (priority s g) (priority s e)) refl;
        earliest = λ k g b own before. earlier k g b own before (ltb (priority s e) (priority s g)) refl;
      }

      by : (x : Found Entry) → Tells (eligible s false) (priority s) l x → x ≡ found i e
      by nowhere t = absurd (chosen-some best t)
      by (found j y) t =
          let q = chosen-one t best in
          let w : y ≡ e = at_same l i y e (subst (λ (n : ℕ). At l n y) q t.there) a in
          ap (λ (n : ℕ). found n y) q ∙ ap (found i) w
