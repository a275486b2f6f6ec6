-- What settling keeps besides prices: whatever new prices with a display no less aggressive and a trade keep. So entries stay who they are, and A DISPLAY NEVER
-- MOVES BACK while its quote rests.
-- Assumes nothing.
use Prim.Native.Nat.{ℕ, ◌≤◌}
use mathlib.Core.Path.{◌≡◌, refl, subst, ◌∙◌}
use mathlib.Core.Bool.{Bool}
use mathlib.Core.List.{List}
use native.Mathlib.Omega.{arith}
use Rattle.prices.specs.declared.Prices.{Prices}
use Rattle.prices.specs.declared.Market.{Market}
use Rattle.prices.proofs.FrameLaws.{seen}
use Rattle.prices.proofs.RestLaws.{display-never-back}
use Rattle.lists.specs.Places.{At, without, requeue}
use Rattle.lists.specs.Tests.{All}
use Rattle.lists.proofs.TestLaws.{all-at, all_of, all_without, all_snoc}
use Rattle.packing.specs.declared.report.Report.{Report}
use Rattle.book.specs.declared.Entry.{Entry}
use Rattle.book.specs.Entries.{display, lessened, priced}
use Rattle.book.specs.Change.{hit_both}
use Rattle.soundness_theory.proofs.TradeLaws.{all_both}
use Rattle.settling_theory.specs.Settle.{eased_prices, aims_in}
use Rattle.settling_theory.proofs.Shapes.{rest_prices, EaseStep, eased-at, StirStep, traded-at, moved_at}

pub record Kept (I : List Entry → Type 0) : Type 0 where
  pub repriced : (l : List Entry) (i : ℕ) (e : Entry) (p : Prices) → At l i e → seen e.sell (display e) ≤ seen e.sell p.display
      → I l → I (requeue i (priced p e) l)
  pub traded : (l : List Entry) (i j q : ℕ) → I l → I (hit_both i j q l)

module _ {I : List Entry → Type 0} (ke : Kept I) where
  pub ease-keeps : {k : Market} {l t : List Entry} {r : Report} → EaseStep k l r t → I l → I t
  ease-keeps {k} {l} (eased-at {i = i} {e = e} c) h = ke.repriced l i e (eased_prices k e) c.there (omega arith) h

  pub stir-keeps : {k : Market} {l t : List Entry} {r : Report} → StirStep k l r t → I l → I t
  stir-keeps {k} {l} (traded-at {i = i} {j = j} c m b) h = ke.traded l i j _ h
  stir-keeps {k} {l} (moved_at {i = i} {e = e} c m) h =
      ke.repriced l i e (rest_prices k l e) c.there (display-never-back e.sell (display e) (aims_in k l e)) h

-- a fact of each entry
pub all-kept : (P : Entry → Type 0) → ((p : Prices) (e : Entry) → seen e.sell (display e) ≤ seen e.sell p.display → P e → P (priced p e))
    → ((q : ℕ) (e : Entry) → P e → P (lessened q e)) → Kept (All P)
all-kept P f g = record {
  repriced = λ l i e p h d a. all_snoc P (without i l) (priced p e) (all_without P i l a) (f p e d (all-at P l i e a h));
  traded = λ l i j q a. all_both P i j q l (λ x h z. g q x z) a;
}

-- ---- an entry and what became of it ----

-- e was `was`, at a place of l: the same entry, with a display no less aggressive
pub record Stems (l : List Entry) (e : Entry) : Type 0 where
  pub place : ℕ
  pub was : Entry
  pub there : At l place was
  pub number : was.number ≡ e.number
  pub party : was.party ≡ e.party
  pub kind : was.kind ≡ e.kind
  pub sell : was.sell ≡ e.sell
  pub limit : was.limit ≡ e.limit
  pub forward : seen e.sell (display was) ≤ seen e.sell (display e)

pub stems-start : (l : List Entry) → All (Stems l) l
stems-start l = all_of (Stems l) l (λ i e h. record {
  place = i;
  was = e;
  there = h;
  number = refl;
  party = refl;
  kind = refl;
  sell = refl;
  limit = refl;
  forward = omega arith;
})

-- at other prices, with a display no less aggressive; and with fewer contracts
stems-priced : {l : List Entry} (p : Prices) (e : Entry) → seen e.sell (display e) ≤ seen e.sell p.display → Stems l e → Stems l (priced p e)
stems-priced p e d s = record {
  place = s.place;
  was = s.was;
  there = s.there;
  number = s.number;
  party = s.party;
  kind = s.kind;
  sell = s.sell;
  limit = s.limit;
  forward = omega (arith, s.forward);
}

pub stems-lessened : {l : List Entry} (q : ℕ) (e : Entry) → Stems l e → Stems l (lessened q e)
stems-lessened q e s = record {
  place = s.place;
  was = s.was;
  there = s.there;
  number = s.number;
  party = s.party;
  kind = s.kind;
  sell = s.sell;
  limit = s.limit;
  forward = s.forward;
}

-- what became of what became of it
pub stems-through : {l r : List Entry} (e : Entry) (s : Stems r e) → Stems l s.was → Stems l e
stems-through e s u = record {
  place = u.place;
  was = u.was;
  there = u.there;
  number = u.number ∙ s.number;
  party = u.party ∙ s.party;
  kind = u.kind ∙ s.kind;
  sell = u.sell ∙ s.sell;
  limit = u.limit ∙ s.limit;
  forward = further u.was.sell s.was.sell u.sell s.sell u.forward s.forward;
}
  where
    further : (a b : Bool) → a ≡ b → b ≡ e.sell → seen b (display u.was) ≤ seen b (display s.was)
        → seen e.sell (display s.was) ≤ seen e.sell (display e)
        → seen e.sell (display u.was) ≤ seen e.sell (display e)
    further a b p q h k = omega (arith, subst (λ (x : Bool). seen x (display u.was) ≤ seen x (display s.was)) q h, k)

pub stems-kept : (l : List Entry) → Kept (All (Stems l))
stems-kept l = all-kept (Stems l) (λ p e d s. stems-priced p e d s) (λ q e s. stems-lessened q e s)
