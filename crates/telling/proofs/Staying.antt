-- WHAT BECOMES OF AN ENTRY: it still rests, under its number, or a trade names it. Laws of the book's changes and of runs, which arrival and settling cite.
-- Assumes nothing.
use Prim.Native.Nat.{ℕ, zero, suc, ◌<◌}
use mathlib.Core.Path.{◌≡◌, refl, ap, ◌∙◌}
use mathlib.Core.Bool.{Bool, true, false, cond}
use mathlib.Core.List.{List, [], ◌∷◌, ◌++◌}
use mathlib.Core.Logic.{◌⊎◌, inl, inr}
use native.Mathlib.Omega.{arith}
use lib.Dec.{eqb, leb, ltb}
use borrow.Author.Tests.{eqb-true, eqb-false, ltb-true, ltb-false}
use Rattle.lists.specs.Places.{At, without, requeue}
use Rattle.lists.specs.Run.{Step, go, Complete, done, then}
use Rattle.lists.proofs.PlaceLaws.{at_same, at_left, at_last}
use Rattle.packing.specs.declared.report.Report.{Report}
use Rattle.packing.specs.declared.report.Report.TheVariants.{Noted, Rejected, Traded, Rested, Repriced, Cancelled}
use Rattle.book.specs.declared.Entry.{Entry}
use Rattle.book.specs.Entries.{lessened}
use Rattle.book.specs.Change.{hit, hit_both}
use Rattle.soundness_theory.proofs.TradeLaws.{at-hit}

-- an entry of number n rests
pub record Numbered (l : List Entry) (n : ℕ) : Type 0 where
  pub place : ℕ
  pub entry : Entry
  pub there : At l place entry
  pub number : entry.number ≡ n

-- a report is of a trade that names the entry of number n, as the taker or as the other party
abbrev pub TradeNames : ℕ → Report → Type 0
TradeNames n Noted = ⊥
TradeNames n (Rejected why s party number limit quantity) = ⊥
TradeNames n (Traded s party number other price quantity) = (number ≡ n) ⊎ (other ≡ n)
TradeNames n (Rested s party number display working quantity) = ⊥
TradeNames n (Repriced s party number display working quantity) = ⊥
TradeNames n (Cancelled why s party number limit quantity) = ⊥

-- one of these reports is
pub record TradeNamed (rs : List Report) (n : ℕ) : Type 0 where
  pub place : ℕ
  pub report : Report
  pub there : At rs place report
  pub names : TradeNames n report

-- whether a report is of a trade; and that it is not
abbrev pub is_trade : Report → Bool
is_trade Noted = false
is_trade (Rejected why s party number limit quantity) = false
is_trade (Traded s party number other price quantity) = true
is_trade (Rested s party number display working quantity) = false
is_trade (Repriced s party number display working quantity) = false
is_trade (Cancelled why s party number limit quantity) = false

abbrev pub NoTrade : Report → Type 0
NoTrade r = is_trade r ≡ false

-- ---- a change of the book ----

later : {l : List Entry} {n : ℕ} (y : Entry) → Numbered l n → Numbered (y ∷ l) n
later y r = record { place = suc r.place; entry = r.entry; there = r.there; number = r.number }

-- who has another number than the entry at a place stays when that one goes,
without-stays : (i : ℕ) (l : List Entry) (n : ℕ) → ((y : Entry) → At l i y → y.number ≡ n → ⊥) → Numbered l n → Numbered (without i l) n
unfolding without
without-stays i l n other r = go i l other r.place r.there
  where
    go : (i : ℕ) (l : List Entry) → ((y : Entry) → At l i y → y.number ≡ n → ⊥) → (k : ℕ) → At l k r.entry → Numbered (without i l) n
    go i [] f k h = absurd h
    go zero (y ∷ l) f zero h = absurd (f y refl (ap (λ (z : Entry). z.number) h ∙ r.number))
    go zero (y ∷ l) f (suc k) h = record { place = k; entry = r.entry; there = h; number = r.number }
    go (suc i) (y ∷ l) f zero h = record { place = 0; entry = r.entry; there = h; number = r.number }
    go (suc i) (y ∷ l) f (suc k) h = later y (go i l f k h)

-- or when it is traded with
pub hit-stays : (i q : ℕ) (l : List Entry) (n : ℕ) → ((y : Entry) → At l i y → y.number ≡ n → ⊥) → Numbered l n → Numbered (hit i q l) n
unfolding hit
hit-stays i q l n other r = go i l other r.place r.there
  where
    go : (i : ℕ) (l : List Entry) → ((y : Entry) → At l i y → y.number ≡ n → ⊥) → (k : ℕ) → At l k r.entry → Numbered (hit i q l) n
    go i [] f k h = absurd h
    go zero (y ∷ l) f zero h = absurd (f y refl (ap (λ (z : Entry). z.number) h ∙ r.number))
    go zero (y ∷ l) f (suc k) h = pick (leb y.quantity q)
      where
        pick : (b : Bool) → Numbered (cond b l (lessened q y ∷ l)) n
        pick true = record { place = k; entry = r.entry; there = h; number = r.number }
        pick false = record { place = suc k; entry = r.entry; there = h; number = r.number }
    go (suc i) (y ∷ l) f zero h = record { place = 0; entry = r.entry; there = h; number = r.number }
    go (suc i) (y ∷ l) f (suc k) h = later y (go i l f k h)

both-stay : (i j q : ℕ) (l : List Entry) (x y : Entry) (n : ℕ) → i < j → At l i x → At l j y → (x.number ≡ n → ⊥) → (y.number ≡ n → ⊥) → Numbered l n
    → Numbered (hit i q (hit j q l)) n
both-stay i j q l x y n low a b p p' r =
    hit-stays i q (hit j q l) n (λ z h e. p (ap (λ (w : Entry). w.number) (at_same (hit j q l) i x z (at-hit i j q l x low a) h) ∙ e))
    (hit-stays j q l n (λ z h e. p' (ap (λ (w : Entry). w.number) (at_same l j y z b h) ∙ e)) r)

pub trade-stays : (i j q : ℕ) (l : List Entry) (x y : Entry) (n : ℕ) → At l i x → At l j y → (i ≡ j → ⊥) → (x.number ≡ n → ⊥) → (y.number ≡ n → ⊥)
    → Numbered l n
    → Numbered (hit_both i j q l) n
unfolding hit_both
trade-stays i j q l x y n a b d p p' r = pick (ltb i j) refl
  where
    pick : (c : Bool) → ltb i j ≡ c → Numbered (cond c (hit i q (hit j q l)) (hit j q (hit i q l))) n
    pick true e = both-stay i j q l x y n (ltb-true i j e) a b p p' r
    pick false e = both-stay j i q l y x n (omega (arith, ltb-false i j e, d)) b a p' p r

pub requeue-stays : (i : ℕ) (l : List Entry) (e x : Entry) (n : ℕ) → At l i e → x.number ≡ e.number → Numbered l n → Numbered (requeue i x l) n
requeue-stays i l e x n a same r = go (eqb e.number n) refl
  where
    go : (b : Bool) → eqb e.number n ≡ b → Numbered (requeue i x l) n
    go true q = record { place = _; entry = x; there = at_last (without i l) x; number = same ∙ eqb-true e.number n q }
    go false q =
        let z = without-stays i l n (λ y h k. eqb-false e.number n q (ap (λ (w : Entry). w.number) (at_same l i e y a h) ∙ k)) r in
        record { place = z.place; entry = z.entry; there = at_left (without i l) (x ∷ []) z.place z.entry z.there; number = z.number }

-- ---- a whole run ----

named-later : {rs : List Report} {n : ℕ} (r : Report) → TradeNamed rs n → TradeNamed (r ∷ rs) n
named-later r z = record { place = suc z.place; report = z.report; there = z.there; names = z.names }

-- of a rule whose state holds entries: where each step leaves an entry of that number, or names it, so does the whole run
pub run-stays : {S : Type 0} (of : S → List Entry) {step : S → Step S Report} (n : ℕ)
    → ((s : S) (r : Report) (t : S) → step s ≡ go r t → Numbered (of s) n → Numbered (of t) n ⊎ TradeNames n r)
    → {s t : S} {rs : List Report} → Complete step s rs t → Numbered (of s) n → Numbered (of t) n ⊎ TradeNamed rs n
run-stays of n f (done e) h = inl h
run-stays of n f (then {s = s} {t = t} {u = u} {r = r} {rs = rs} e c) h = on (f s r t e h) (λ x. run-stays of n f c x)
  where
    behind : Numbered (of u) n ⊎ TradeNamed rs n → Numbered (of u) n ⊎ TradeNamed (r ∷ rs) n
    behind (inl x) = inl x
    behind (inr x) = inr (named-later r x)

    on : Numbered (of t) n ⊎ TradeNames n r → (Numbered (of t) n → Numbered (of u) n ⊎ TradeNamed rs n) → Numbered (of u) n ⊎ TradeNamed (r ∷ rs) n
    on (inl x) more = behind (more x)
    on (inr x) more = inr (record { place = 0; report = r; there = refl; names = x })

pub named-left : (rs ss : List Report) {n : ℕ} → TradeNamed rs n → TradeNamed (rs ++ ss) n
named-left rs ss z = record { place = z.place; report = z.report; there = at_left rs ss z.place z.report z.there; names = z.names }

pub named-right : (rs ss : List Report) {n : ℕ} → TradeNamed ss n → TradeNamed (rs ++ ss) n
named-right [] ss z = z
named-right (r ∷ rs) ss z = named-later r (named-right rs ss z)
