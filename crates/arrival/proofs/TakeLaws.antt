-- Trades on arrival: each uses up the taker or an entry that rests, so that taking ends by itself; what it keeps of the book; and that a taker with something
-- left has nothing left within its bound.
-- Assumes nothing.
use Prim.Native.Nat.{ℕ, ◌-◌, ◌≤◌, ◌<◌, min}
use mathlib.Core.Path.{◌≡◌, refl, ap}
use mathlib.Core.Bool.{Bool, true, false, cond, not, ◌&&◌, ◌||◌}
use mathlib.Core.List.{List}
use mathlib.Core.Logic.{◌⊎◌, inl, inr}
use native.Mathlib.Omega.{arith}
use lib.Dec.{eqb, leb}
use lib.ListN.{length}
use borrow.Author.Tests.{leb-true, leb-false, eqb-true, eqb-false, ne_eqb, eq-eqb, not-true}
use Rattle.prices.specs.declared.Market.{Market}
use Rattle.prices.specs.Side.{reaches}
use Rattle.kinds.specs.Kinds.{minds}
use Rattle.prices.proofs.FrameLaws.{seen, reaches-false}
use Rattle.lists.specs.Places.{At}
use Rattle.lists.specs.Tests.{All}
use Rattle.lists.specs.Choose.{Found, nowhere, found}
use Rattle.lists.specs.Run.{stop, go, Complete, Ran, still, leading, ran}
use Rattle.lists.proofs.Bools.{clash, and_left, and_right, cond_either}
use Rattle.lists.proofs.PlaceLaws.{at-inside}
use Rattle.lists.proofs.RunLaws.{Falls, few, run-stop, run-go, ran-complete, complete-stop, complete-keeps, never-goes, never-stops, same_step, complete-tells}
use Rattle.packing.specs.declared.report.Report.{Report}
use Rattle.packing.specs.Room.{AllPack}
use Rattle.packing.proofs.ReportLaws.{traded-packs}
use Rattle.book.specs.declared.Entry.{Entry}
use Rattle.book.specs.Entries.{lessened, last_number}
use Rattle.book.specs.Change.{hit}
use Rattle.book.specs.Look.{eligible, best_contra}
use Rattle.book.proofs.LookLaws.{BestContra, ContraTells, contra-tells}
use Rattle.book.proofs.ChangeLaws.{length-hit}
use Rattle.soundness_theory.proofs.Facts.{EntryFacts, Sound}
use Rattle.soundness_theory.proofs.FrontLaws.{cost-is}
use Rattle.soundness_theory.proofs.TradeLaws.{all-hit, hit-out}
use Rattle.soundness_theory.proofs.KeepLaws.{here-facts, sound-hit}
use Rattle.telling.specs.Tell.{traded}
use Rattle.telling.proofs.PackLaws.{Packs, all-pack}
use Rattle.arrival.specs.Take.{Taking, bound, shown_only, trade_with, take_at, next_take, chances, taken, took}
use Rattle.arrival.specs.Arrive.{none_traded}

-- ---- what a trade is ----

-- what is left of both after a trade
abbrev pub after_trade : Taking → ℕ → Entry → Taking
after_trade t j y = record { left = t.left - min t.left y.quantity; book = hit j (min t.left y.quantity) t.book }

-- a trade with the best contra entry, which the bound reaches
pub data TakeStep (cap : ℕ) (e : Entry) (t : Taking) : Report → Taking → Type 0 where
  takes-from : {j : ℕ} {y : Entry} → BestContra e.sell (shown_only e) t.book j y → 1 ≤ t.left → reaches e.sell cap y.working ≡ true
      → TakeStep cap e t (traded e y (min t.left y.quantity)) (after_trade t j y)

-- the best contra entry found is within the bound
abbrev pub within_bound : ℕ → Entry → Found Entry → Bool
within_bound cap e nowhere = false
within_bound cap e (found j y) = reaches e.sell cap y.working

module _ (cap : ℕ) (e : Entry) (t : Taking) where
  pub take_step : {r : Report} {u : Taking} → next_take cap e t ≡ go r u → TakeStep cap e t r u
  unfolding next_take
  take_step {r} {u} h = at (best_contra e.sell (shown_only e) t.book) (contra-tells e.sell (shown_only e) t.book) h
    where
      pick : (j : ℕ) (y : Entry) → BestContra e.sell (shown_only e) t.book j y → (b : Bool)
          → (not (eqb t.left 0) && reaches e.sell cap y.working) ≡ b → trade_with e t j y b ≡ go r u → TakeStep cap e t r u
      pick j y c false q g = never-goes g
      pick j y c true q g =
          let some : t.left ≡ 0 → ⊥ =
          eqb-false t.left 0 (not-true (eqb t.left 0) (and_left (not (eqb t.left 0)) (reaches e.sell cap y.working) q)) in
          same_step (TakeStep cap e t) (takes-from c (omega (arith, some)) (and_right (not (eqb t.left 0)) (reaches e.sell cap y.working) q)) g

      at : (f : Found Entry) → ContraTells e.sell (shown_only e) t.book f → take_at cap e t f ≡ go r u → TakeStep cap e t r u
      at nowhere c g = never-goes g
      at (found j y) c g = pick j y c (not (eqb t.left 0) && reaches e.sell cap y.working) refl g

  -- the rule stops where nothing is left, or the best contra entry is not within the bound
  pub take-stops : (eqb t.left 0 || not (within_bound cap e (best_contra e.sell (shown_only e) t.book))) ≡ true → next_take cap e t ≡ stop
  unfolding next_take
  take-stops h = at (eqb t.left 0) refl (best_contra e.sell (shown_only e) t.book) h
    where
      at : (z : Bool) → eqb t.left 0 ≡ z → (f : Found Entry) → (z || not (within_bound cap e f)) ≡ true → take_at cap e t f ≡ stop
      at z q nowhere g = refl
      at true q (found j y) g = rw q refl
      at false q (found j y) g = rw (q, not-true (reaches e.sell cap y.working) g) refl

  pub take-goes : (j : ℕ) (y : Entry) → best_contra e.sell (shown_only e) t.book ≡ found j y → eqb t.left 0 ≡ false
      → reaches e.sell cap y.working ≡ true → next_take cap e t ≡ go (traded e y (min t.left y.quantity)) (after_trade t j y)
  unfolding next_take
  take-goes j y f z w = rw (f, z, w) refl

-- ---- taking ends ----

chances-few : (t : Taking) → chances t ≤ length t.book
unfolding chances
chances-few t = go (eqb t.left 0)
  where
    go : (b : Bool) → cond b 0 (length t.book) ≤ length t.book
    go true = omega arith
    go false = omega arith

chances-all : (t : Taking) → 1 ≤ t.left → chances t ≡ length t.book
unfolding chances
chances-all t h = rw (ne_eqb t.left 0 (λ q. omega arith)) refl

chances-none : (t : Taking) → t.left ≡ 0 → chances t ≡ 0
unfolding chances
chances-none t h = rw (eq-eqb t.left 0 h) refl

take_less : {cap : ℕ} {e : Entry} {t u : Taking} {r : Report} → TakeStep cap e t r u → chances u < chances t
take_less {t = t} (takes-from {j = j} {y = y} c some within) = go (leb y.quantity t.left) refl
  where
    go : (b : Bool) → leb y.quantity t.left ≡ b → chances (after_trade t j y) < chances t
    go true q =
        omega (
          arith,
          chances-all t some,
          chances-few (after_trade t j y),
          hit-out j (min t.left y.quantity) t.book y c.chosen.there (omega (arith, leb-true y.quantity t.left q)),
        )
    go false q =
        omega (
          arith,
          chances-all t some,
          chances-none (after_trade t j y) (omega (arith, leb-false y.quantity t.left q)),
          at-inside t.book j y c.chosen.there,
        )

-- TAKING ENDS, whatever the book
pub take-falls : (cap : ℕ) (e : Entry) → Falls (next_take cap e) chances (λ _. Unit {0})
take-falls cap e = record { kept = λ t r u ok h. tt; less = λ t r u ok h. take_less (take_step cap e t h) }

module _ (cap : ℕ) (e : Entry) (t : Taking) where
  pub take-run : Complete (next_take cap e) t (taken cap e t).records (taken cap e t).final
  unfolding taken
  take-run = ran-complete (next_take cap e) chances (λ _. Unit {0}) (take-falls cap e) t tt

  -- with at most as many trades as entries rest
  pub take-few : length (taken cap e t).records ≤ length t.book
  unfolding taken
  take-few = omega (arith, few (next_take cap e) chances t, chances-few t)

  -- ---- what taking keeps ----

  -- no entry comes, and nothing is added to the taker
  pub take-length : length (taken cap e t).final.book ≤ length t.book
  take-length = complete-keeps (λ (u : Taking). length u.book ≤ length t.book) (λ s r u h g. shorter (take_step cap e s g) h) (omega arith) take-run
    where
      shorter : {s u : Taking} {r : Report} → TakeStep cap e s r u → length s.book ≤ length t.book → length u.book ≤ length t.book
      shorter {s} (takes-from {j = j} {y = y} c some within) h = omega (arith, (length-hit j (min s.left y.quantity) s.book).0)

  pub take_left : (taken cap e t).final.left ≤ t.left
  take_left = complete-keeps (λ (u : Taking). u.left ≤ t.left) (λ s r u h g. lesser (take_step cap e s g) h) (omega arith) take-run
    where
      lesser : {s u : Taking} {r : Report} → TakeStep cap e s r u → s.left ≤ t.left → u.left ≤ t.left
      lesser (takes-from c some within) h = omega arith

  -- whatever is true of each entry and does not go by quantity
  pub take_all : (P : Entry → Type 0) → ((q : ℕ) (x : Entry) → q < x.quantity → P x → P (lessened q x)) → All P t.book
      → All P (taken cap e t).final.book
  take_all P f a = complete-keeps (λ (u : Taking). All P u.book) (λ s r u h g. more (take_step cap e s g) h) a take-run
    where
      more : {s u : Taking} {r : Report} → TakeStep cap e s r u → All P s.book → All P u.book
      more {s} (takes-from {j = j} {y = y} c some within) h =
          all-hit P j (min s.left y.quantity) s.book (λ x k p. f (min s.left y.quantity) x k p) h
      -- EACH ENTRY LEFT IS ONE THAT WAS THERE, of the same number, party, kind, side and limit, and its display has not moved back

sound-step : {m top cap : ℕ} {e : Entry} {t u : Taking} {r : Report} → TakeStep cap e t r u → Sound m top t.book → Sound m top u.book
sound-step {t = t} (takes-from {j = j} {y = y} c some within) so = sound-hit so j (min t.left y.quantity)

-- TAKING KEEPS THE BOOK SOUND
pub take-sound : {m top : ℕ} (cap : ℕ) (e : Entry) (t : Taking) → Sound m top t.book → Sound m top (taken cap e t).final.book
take-sound {m} {top} cap e t so =
    complete-keeps (λ (u : Taking). Sound m top u.book) (λ s r u h g. sound-step (take_step cap e s g) h) so (take-run cap e t)

-- ---- each report packs ----

pub take-packs : {m top : ℕ} (cap : ℕ) (e : Entry) (t : Taking) → top ≤ last_number → e.party ≤ 99 → e.number ≤ last_number → Sound m top t.book
    → AllPack (taken cap e t).records
take-packs {m} {top} cap e t low party number so =
    all-pack (taken cap e t).records
    (complete-tells (λ (u : Taking). Sound m top u.book) Packs (λ s r u h g. sound-step (take_step cap e s g) h)
    (λ s r u h g. fits (take_step cap e s g) h) so (take-run cap e t))
  where
    fits : {s u : Taking} {r : Report} → TakeStep cap e s r u → Sound m top s.book → Packs r
    fits {s} (takes-from {j = j} {y = y} c some within) h =
        let f : EntryFacts m top y = here-facts h j y c.chosen.there in
        traded-packs e.sell e.party e.number (min s.left y.quantity) (omega arith) (omega arith) (omega (arith, f.most))
        y.number y.working (omega (arith, f.given)) (omega (arith, f.works.high))

-- ---- nothing is left within the bound ----

-- every entry of the book that the taker may trade with works beyond the bound
pub record Cleared (cap : ℕ) (e : Entry) (l : List Entry) : Type 0 where
  pub beyond : (i : ℕ) (y : Entry) → At l i y → eligible e.sell (shown_only e) y ≡ true → seen e.sell cap < seen e.sell y.working

stop-clears : {m top : ℕ} (cap : ℕ) (e : Entry) (t : Taking) → cap ≤ 200000 → Sound m top t.book → next_take cap e t ≡ stop
    → (t.left ≡ 0) ⊎ Cleared cap e t.book
unfolding next_take
stop-clears cap e t low so h = at (best_contra e.sell (shown_only e) t.book) (contra-tells e.sell (shown_only e) t.book) h
  where
    pick : (j : ℕ) (y : Entry) → BestContra e.sell (shown_only e) t.book j y → (z : Bool) → eqb t.left 0 ≡ z → (b : Bool)
        → reaches e.sell cap y.working ≡ b → trade_with e t j y (not z && b) ≡ stop → (t.left ≡ 0) ⊎ Cleared cap e t.book
    pick j y c true p b q g = inl (eqb-true t.left 0 p)
    pick j y c false p true q g = never-stops g
    pick j y c false p false q g =
        let k : seen e.sell cap < seen e.sell y.working =
        reaches-false e.sell cap y.working low (omega (arith, (here-facts so j y c.chosen.there).works.high)) q in
        inr (record { beyond = λ i z a u. omega (arith, c.price i z a u, cost-is e.sell y.working, cost-is e.sell z.working) })

    at : (f : Found Entry) → ContraTells e.sell (shown_only e) t.book f → take_at cap e t f ≡ stop → (t.left ≡ 0) ⊎ Cleared cap e t.book
    at nowhere c g = inr (record { beyond = λ i z a u. clash u (c.nobody i z a) })
    at (found j y) c g = pick j y c (eqb t.left 0) refl (reaches e.sell cap y.working) refl g

-- A TAKER WITH SOMETHING LEFT HAS TAKEN ALL WITHIN ITS BOUND
pub take-clears : {m top : ℕ} (cap : ℕ) (e : Entry) (t : Taking) → cap ≤ 200000 → Sound m top t.book → 1 ≤ (taken cap e t).final.left
    → Cleared cap e (taken cap e t).final.book
take-clears cap e t low so some =
    pick (stop-clears cap e (taken cap e t).final low (take-sound cap e t so) (complete-stop (take-run cap e t)))
  where
    pick : ((taken cap e t).final.left ≡ 0) ⊎ Cleared cap e (taken cap e t).final.book → Cleared cap e (taken cap e t).final.book
    pick (inl z) = absurd (omega arith)
    pick (inr c) = c

-- ---- whether it trades at all, by the best contra entry alone ----

-- none is traded exactly where nothing is left, or the best contra entry is not within the bound
pub none-taken : (cap : ℕ) (e : Entry) (t : Taking)
    → none_traded (taken cap e t).records ≡ (eqb t.left 0 || not (within_bound cap e (best_contra e.sell (shown_only e) t.book)))
unfolding taken still leading
none-taken cap e t = at (eqb t.left 0) refl (best_contra e.sell (shown_only e) t.book) refl
  where
    stays : (eqb t.left 0 || not (within_bound cap e (best_contra e.sell (shown_only e) t.book))) ≡ true
        → none_traded (ran (next_take cap e) chances t).records ≡ true
    stays h = ap (λ (x : Ran Taking Report). none_traded x.records) (run-stop (next_take cap e) chances t (take-stops cap e t h))

    goes : (j : ℕ) (y : Entry) → best_contra e.sell (shown_only e) t.book ≡ found j y → eqb t.left 0 ≡ false → (b : Bool)
        → reaches e.sell cap y.working ≡ b → none_traded (ran (next_take cap e) chances t).records ≡ not b
    goes j y f z false w = stays (rw (z, f, w) refl)
    goes j y f z true w =
        ap (λ (x : Ran Taking Report). none_traded x.records)
        (run-go (next_take cap e) chances (λ _. Unit {0}) (take-falls cap e) t (traded e y (min t.left y.quantity)) (after_trade t j y) tt
        (take-goes cap e t j y f z w))

    at : (z : Bool) → eqb t.left 0 ≡ z → (f : Found Entry) → best_contra e.sell (shown_only e) t.book ≡ f
        → none_traded (ran (next_take cap e) chances t).records ≡ (z || not (within_bound cap e f))
    at true q f g = stays (rw q refl)
    at false q nowhere g = stays (rw (q, g) refl)
    at false q (found j y) g = goes j y g q (reaches e.sell cap y.working) refl

-- AN ARRIVAL TRADES NOTHING exactly where it is an MMALO, or comes with nothing, or the first best contra entry is not within its bound
pub takes-now : (k : Market) (e : Entry) (l : List Entry)
    → none_traded (took k e l).records ≡ (minds e.kind || (eqb e.quantity 0 || not (within_bound (bound k e) e (best_contra e.sell (shown_only e) l))))
unfolding took still
takes-now k e l = pick (minds e.kind)
  where
    pick : (z : Bool)
        → none_traded (cond z (still (record { left = e.quantity; book = l })) (taken (bound k e) e (record { left = e.quantity; book = l }))).records
        ≡ (z || (eqb e.quantity 0 || not (within_bound (bound k e) e (best_contra e.sell (shown_only e) l))))
    pick true = refl
    pick false = none-taken (bound k e) e (record { left = e.quantity; book = l })

-- every report is of a trade of the taker, at a price within the bound
pub take-tells : (cap : ℕ) (e : Entry) (t : Taking) (P : Report → Type 0) → ((y : Entry) (q : ℕ) → reaches e.sell cap y.working ≡ true → P (traded e y q))
    → All P (taken cap e t).records
take-tells cap e t P f = complete-tells (λ _. Unit {0}) P (λ s r u h g. tt) (λ s r u h g. of (take_step cap e s g)) tt (take-run cap e t)
  where
    of : {s u : Taking} {r : Report} → TakeStep cap e s r u → P r
    of {s} (takes-from {y = y} c some within) = f y (min s.left y.quantity) within

-- ---- what an arrival takes: nothing where it is an MMALO, and else as above ----

module _ (k : Market) (e : Entry) (l : List Entry) where
  pub took-either : (P : Ran Taking Report → Type 0) → (minds e.kind ≡ true → P (still (record { left = e.quantity; book = l })))
      → (minds e.kind ≡ false → P (taken (bound k e) e (record { left = e.quantity; book = l }))) → P (took k e l)
  unfolding took
  took-either P f g =
      cond_either P (minds e.kind) (still (record { left = e.quantity; book = l })) (taken (bound k e) e (record { left = e.quantity; book = l })) f g

  pub took-few : length (took k e l).records ≤ length l
  unfolding still
  took-few =
      took-either (λ (x : Ran Taking Report). length x.records ≤ length l) (λ _. omega arith)
      (λ _. take-few (bound k e) e (record { left = e.quantity; book = l }))

  pub took-length : length (took k e l).final.book ≤ length l
  unfolding still
  took-length =
      took-either (λ (x : Ran Taking Report). length x.final.book ≤ length l) (λ _. omega arith)
      (λ _. take-length (bound k e) e (record { left = e.quantity; book = l }))

  pub took-left : (took k e l).final.left ≤ e.quantity
  unfolding still
  took-left =
      took-either (λ (x : Ran Taking Report). x.final.left ≤ e.quantity) (λ _. omega arith)
      (λ _. take_left (bound k e) e (record { left = e.quantity; book = l }))

  pub took-all : (P : Entry → Type 0) → ((q : ℕ) (x : Entry) → q < x.quantity → P x → P (lessened q x)) → All P l → All P (took k e l).final.book
  unfolding still
  took-all P f a =
      took-either (λ (x : Ran Taking Report). All P x.final.book) (λ _. a)
      (λ _. take_all (bound k e) e (record { left = e.quantity; book = l }) P f a)

  pub took-tells : (P : Report → Type 0)
      → (minds e.kind ≡ false → (y : Entry) (q : ℕ) → reaches e.sell (bound k e) y.working ≡ true → P (traded e y q))
      → All P (took k e l).records
  unfolding still
  took-tells P f =
      took-either (λ (x : Ran Taking Report). All P x.records) (λ _. tt)
      (λ mi. take-tells (bound k e) e (record { left = e.quantity; book = l }) P (f mi))

  module _ {m top : ℕ} (so : Sound m top l) where
    pub took-sound : Sound m top (took k e l).final.book
    unfolding still
    took-sound =
        took-either (λ (x : Ran Taking Report). Sound m top x.final.book) (λ _. so)
        (λ _. take-sound (bound k e) e (record { left = e.quantity; book = l }) so)

    pub took-packs : top ≤ last_number → e.party ≤ 99 → e.number ≤ last_number → AllPack (took k e l).records
    unfolding still
    took-packs low party number =
        took-either (λ (x : Ran Taking Report). AllPack x.records) (λ _. tt)
        (λ _. take-packs (bound k e) e (record { left = e.quantity; book = l }) low party number so)

    pub took-clears : bound k e ≤ 200000 → minds e.kind ≡ false → 1 ≤ (took k e l).final.left → Cleared (bound k e) e (took k e l).final.book
    took-clears low mi =
        took-either (λ (x : Ran Taking Report). 1 ≤ x.final.left → Cleared (bound k e) e x.final.book) (λ h. clash h mi)
        (λ _. take-clears (bound k e) e (record { left = e.quantity; book = l }) low so)
