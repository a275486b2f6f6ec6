-- What keeps entries sound: taking one out, posting one, new prices, a trade, a higher number given. Each law once.
-- Assumes nothing.
use Prim.Native.Nat.{ℕ, zero, suc, ◌≤◌, ◌<◌}
use mathlib.Core.Path.{◌≡◌, refl, sym, subst, ap}
use mathlib.Core.Bool.{Bool, true, false, cond}
use mathlib.Core.List.{List, [], ◌∷◌, ◌++◌}
use native.Mathlib.Omega.{arith}
use lib.Dec.{leb}
use Rattle.prices.specs.declared.Prices.{Prices}
use Rattle.prices.proofs.FrameLaws.{seen, seen-high, Facing, facing-sym, mirror-lt}
use Rattle.prices.proofs.AimLaws.{faced}
use Rattle.lists.specs.Places.{At, without, requeue}
use Rattle.lists.specs.Tests.{All}
use Rattle.lists.proofs.Bools.{clash}
use Rattle.lists.proofs.TestLaws.{all_map, all-zip, all-at, all_without, all_snoc}
use Rattle.book.specs.declared.Entry.{Entry}
use Rattle.book.specs.Entries.{lessened, priced}
use Rattle.book.specs.Change.{post, hit, hit_both}
use Rattle.book.specs.Look.{contra}
use Rattle.soundness_theory.proofs.Facts.{AsItSlides, EntryFacts, Clear, PairFacts, EachTwo, Sound}
use Rattle.soundness_theory.proofs.FrontLaws.{front-is, clear-front, front-clear}
use Rattle.soundness_theory.proofs.TradeLaws.{all-hit, both-either}

-- ---- two entries, the other way round ----

module _ {m top : ℕ} (x y : Entry) (a : EntryFacts m top x) (b : EntryFacts m top y) where
  pub clear_flip : Clear x y → Clear y x
  clear_flip c = record {
    clear = λ f.
        let g : Facing x.sell y.sell = facing-sym y.sell x.sell f in
        mirror-lt x.sell y.sell x.working y.working (omega (arith, a.works.high)) (omega (arith, b.works.high)) g (c.clear g);
  }

  pub pair-flip : PairFacts x y → PairFacts y x
  pair-flip p = record {
    other = λ e. p.other (sym e);
    one-quote = λ u v q s. p.one-quote v u (sym q) (sym s);
    apart = clear_flip p.apart;
  }

-- no side faces itself
pub never-facing : (s : Bool) → Facing s s → ⊥
never-facing true e = clash e refl
never-facing false e = clash e refl

-- ---- every two, of lists that change ----

each-without : (i : ℕ) (l : List Entry) → EachTwo PairFacts l → EachTwo PairFacts (without i l)
unfolding without
each-without i [] a = tt
each-without zero (x ∷ l) a = a.1
each-without (suc i) (x ∷ l) a = (all_without (PairFacts x) i l a.0, each-without i l a.1)

each_snoc : (l : List Entry) (e : Entry) → EachTwo PairFacts l → All (λ (x : Entry). PairFacts x e) l → EachTwo PairFacts (l ++ (e ∷ []))
each_snoc [] e a b = (tt, tt)
each_snoc (x ∷ l) e a b = (all_snoc (PairFacts x) l e a.0 b.0, each_snoc l e a.1 b.1)

less-left : (q : ℕ) (x y : Entry) → PairFacts x y → PairFacts (lessened q x) y
less-left q x y p = record { other = p.other; one-quote = p.one-quote; apart = record { clear = p.apart.clear } }

less-right : (q : ℕ) (x y : Entry) → PairFacts x y → PairFacts x (lessened q y)
less-right q x y p = record { other = p.other; one-quote = p.one-quote; apart = record { clear = p.apart.clear } }

each-hit : (i q : ℕ) (l : List Entry) → EachTwo PairFacts l → EachTwo PairFacts (hit i q l)
unfolding hit
each-hit i q [] a = tt
each-hit zero q (x ∷ l) a = pick (leb x.quantity q)
  where
    pick : (b : Bool) → EachTwo PairFacts (cond b l (lessened q x ∷ l))
    pick true = a.1
    pick false = (all_map (λ y r. less-left q x y r) l a.0, a.1)
each-hit (suc i) q (x ∷ l) a = (all-hit (PairFacts x) i q l (λ y h r. less-right q x y r) a.0, each-hit i q l a.1)

-- what is left of an entry
pub less-facts : {m top : ℕ} (q : ℕ) (x : Entry) → q < x.quantity → EntryFacts m top x → EntryFacts m top (lessened q x)
less-facts q x h f = record {
  counted = f.counted;
  given = f.given;
  entering = f.entering;
  party_low = f.party_low;
  party_high = f.party_high;
  maker = f.maker;
  limit = f.limit;
  some = omega arith;
  most = omega (arith, f.most);
  works = f.works;
  prices = f.prices;
}

-- an entry at other prices
pub priced-facts : {m top : ℕ} (e : Entry) (p : Prices) → EntryFacts m top e
    → AsItSlides m e.kind e.sell e.limit p.display p.working → EntryFacts m top (priced p e)
priced-facts e p f sl = record {
  counted = f.counted;
  given = f.given;
  entering = f.entering;
  party_low = f.party_low;
  party_high = f.party_high;
  maker = f.maker;
  limit = f.limit;
  some = f.some;
  most = f.most;
  works = sl.slides.works;
  prices = sl;
}

-- ---- what a sound book says of an entry in it ----

module _ {m top : ℕ} {l : List Entry} (so : Sound m top l) (i : ℕ) (e : Entry) (at : At l i e) where
  pub here-facts : EntryFacts m top e
  here-facts = all-at (EntryFacts m top) l i e so.entries at

  -- and all the others
  pub others : All (PairFacts e) (without i l)
  unfolding without
  others = go l i so.entries so.pairs at
    where
      go : (l : List Entry) (i : ℕ) → All (EntryFacts m top) l → EachTwo PairFacts l → At l i e → All (PairFacts e) (without i l)
      go [] i a p h = absurd h
      go (x ∷ l) zero a p h = subst (λ (z : Entry). All (PairFacts z) l) h p.0
      go (x ∷ l) (suc i) a p h =
          (pair-flip x e a.0 (all-at (EntryFacts m top) l i e a.1 h) (all-at (PairFacts x) l i e p.0 h), go l i a.1 p.1 h)

  -- it is clear of all, itself too
  pub clear-all : All (Clear e) l
  clear-all = go l i so.entries so.pairs at
    where
      same : (x : Entry) → x ≡ e → Clear e x
      same x q = record { clear = λ f. absurd (never-facing e.sell (subst (λ (z : Entry). Facing e.sell z.sell) q f)) }

      go : (l : List Entry) (i : ℕ) → All (EntryFacts m top) l → EachTwo PairFacts l → At l i e → All (Clear e) l
      go [] i a p h = absurd h
      go (x ∷ l) zero a p h = (same x h, all_map (λ y r. r.apart) l (subst (λ (z : Entry). All (PairFacts z) l) h p.0))
      go (x ∷ l) (suc i) a p h =
          (clear_flip x e a.0 (all-at (EntryFacts m top) l i e a.1 h) (all-at (PairFacts x) l i e p.0 h).apart, go l i a.1 p.1 h)

  -- so it works short of what it faces
  pub here-short : seen e.sell e.working < faced e.sell (contra e.sell l)
  here-short =
      rw (front-is e.sell so)
      (clear-front e l (omega (arith, seen-high e.sell e.working (omega (arith, here-facts.works.high)))) clear-all)

-- every two entries, both ways round
pub each_two : {m top : ℕ} {l : List Entry} → Sound m top l → (i j : ℕ) (x y : Entry) → At l i x → At l j y → (i ≡ j → ⊥) → PairFacts x y
each_two {m} {top} {l} so i j x y a b d = go l i j so.entries so.pairs a b d
  where
    go : (l : List Entry) (i j : ℕ) → All (EntryFacts m top) l → EachTwo PairFacts l → At l i x → At l j y → (i ≡ j → ⊥) → PairFacts x y
    go [] i j f p a b d = absurd a
    go (z ∷ l) zero zero f p a b d = absurd (d refl)
    go (z ∷ l) zero (suc j) f p a b d = subst (λ (u : Entry). PairFacts u y) a (all-at (PairFacts z) l j y p.0 b)
    go (z ∷ l) (suc i) zero f p a b d =
        subst (λ (u : Entry). PairFacts x u) b (pair-flip z x f.0 (all-at (EntryFacts m top) l i x f.1 a) (all-at (PairFacts z) l i x p.0 a))
    go (z ∷ l) (suc i) (suc j) f p a b d = go l i j f.1 p.1 a b (λ e. d (ap suc e))

-- ---- WHAT KEEPS ENTRIES SOUND ----

module _ {m top : ℕ} {l : List Entry} (so : Sound m top l) where
  pub sound-without : (i : ℕ) → Sound m top (without i l)
  sound-without i = record { step = so.step; entries = all_without (EntryFacts m top) i l so.entries; pairs = each-without i l so.pairs }

  pub sound-post : (e : Entry) → EntryFacts m top e → All (PairFacts e) l → Sound m top (post e l)
  sound-post e f p = record {
    step = so.step;
    entries = all_snoc (EntryFacts m top) l e so.entries f;
    pairs = each_snoc l e so.pairs (all-zip (λ x g q. pair-flip e x f g q) l so.entries p);
  }

  pub sound-hit : (i q : ℕ) → Sound m top (hit i q l)
  sound-hit i q = record {
    step = so.step;
    entries = all-hit (EntryFacts m top) i q l (λ x h f. less-facts q x h f) so.entries;
    pairs = each-hit i q l so.pairs;
  }

  pub sound-higher : (top' : ℕ) → top ≤ top' → Sound m top' l
  sound-higher top' h = record { step = so.step; entries = all_map (λ e f. higher e f) l so.entries; pairs = so.pairs }
    where
      higher : (e : Entry) → EntryFacts m top e → EntryFacts m top' e
      higher e f = record {
        counted = f.counted;
        given = omega (arith, f.given);
        entering = f.entering;
        party_low = f.party_low;
        party_high = f.party_high;
        maker = f.maker;
        limit = f.limit;
        some = f.some;
        most = f.most;
        works = f.works;
        prices = f.prices;
      }

-- an entry gives way to a sound one that goes with all the others
pub sound-requeue : {m top : ℕ} {l : List Entry} → Sound m top l → (i : ℕ) (e : Entry) → EntryFacts m top e → All (PairFacts e) (without i l)
    → Sound m top (requeue i e l)
sound-requeue so i e f p = sound-post (sound-without so i) e f p

pub sound-both : {m top : ℕ} {l : List Entry} → Sound m top l → (i j q : ℕ) → Sound m top (hit_both i j q l)
sound-both {m} {top} {l} so i j q = both-either (Sound m top) i j q l (sound-hit (sound-hit so j q) i q) (sound-hit (sound-hit so i q) j q)

-- who is short of what its side faces is clear of all
pub short-clear : {m top : ℕ} {l : List Entry} → Sound m top l → (e : Entry) → seen e.sell e.working < faced e.sell (contra e.sell l)
    → All (Clear e) l
short-clear {l = l} so e h = front-clear e l (rw (← front-is e.sell so) h)

-- AN ENTRY TAKES OTHER PRICES, sound ones short of what it faces
pub sound-repriced : {m top : ℕ} {l : List Entry} → Sound m top l → (i : ℕ) (e : Entry) → At l i e → (p : Prices)
    → AsItSlides m e.kind e.sell e.limit p.display p.working → seen e.sell p.working < faced e.sell (contra e.sell l)
    → Sound m top (requeue i (priced p e) l)
sound-repriced {m} {top} {l} so i e at p sl h =
    sound-requeue so i (priced p e) (priced-facts e p (here-facts so i e at) sl)
    (all-zip (λ y r c. record { other = r.other; one-quote = r.one-quote; apart = c }) (without i l) (others so i e at)
    (all_without (Clear (priced p e)) i l (short-clear so (priced p e) h)))
