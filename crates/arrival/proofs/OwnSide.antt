-- Whether a quote is rejected is asked before the quote that it would replace has gone. That quote stands on its own side, where it neither trades nor stops it
-- nor changes the price that protection looks at: asked after it has gone, the answer is the same. So where a quote's rest is cancelled, something was traded.
-- Assumes nothing.
use Prim.Native.Nat.{ℕ, zero, suc, ◌+◌, ◌≤◌}
use mathlib.Core.Path.{◌≡◌, refl, sym, subst, ap, ◌∙◌}
use mathlib.Core.Bool.{Bool, true, false, cond, not, ◌&&◌, ◌||◌, beq}
use mathlib.Core.List.{List, [], ◌∷◌}
use native.Mathlib.Omega.{arith}
use lib.Dec.{eqb}
use Rattle.prices.specs.declared.Market.{Market}
use Rattle.prices.specs.Side.{reaches, away}
use Rattle.kinds.specs.Kinds.{minds}
use Rattle.prices.proofs.FrameLaws.{seen-inj}
use Rattle.lists.specs.Places.{At, without}
use Rattle.lists.specs.Choose.{scan, Found, nowhere, found}
use Rattle.lists.specs.Run.{Ran, still}
use Rattle.lists.proofs.Bools.{clash, and_left, cond_either}
use Rattle.lists.proofs.PlaceLaws.{at_same}
use Rattle.lists.proofs.ChooseLaws.{Tells}
use Rattle.packing.specs.declared.report.Report.{Report}
use Rattle.book.specs.declared.Entry.{Entry}
use Rattle.book.specs.Entries.{quote, quote_of, display, against}
use Rattle.book.specs.Look.{working, facing, nearest, contra, national, eligible, best_contra, hidden_price, best_hidden, quote_in}
use Rattle.book.proofs.LookLaws.{ContraTells, contra-tells, quote-tells}
use Rattle.soundness_theory.proofs.Facts.{Sound}
use Rattle.soundness_theory.proofs.FrontLaws.{cost-is}
use Rattle.soundness_theory.proofs.KeepLaws.{here-facts}
use Rattle.terms.specs.declared.Terms.{Terms}
use Rattle.terms.specs.Terms.{market_of}
use Rattle.arrival.specs.Cancel.{cut, cut_quote}
use Rattle.arrival.specs.Take.{Taking, bound, shown_only, took}
use Rattle.arrival.specs.Post.{stop_for}
use Rattle.arrival.specs.Arrive.{replaced, none_traded, stops_at_once, protection_for, or_else, rejection}
use Rattle.arrival.specs.Asks.{trades}
use Rattle.arrival.proofs.TakeLaws.{within_bound, takes-now}
use Rattle.arrival.proofs.Untraded.{none-took}
use Rattle.arrival.proofs.CutLaws.{of-maker}
use Rattle.arrival.proofs.Leaves.{Rests, rests-without, rests-back}

-- ---- an entry that does not face a side is nothing to it ----

pub not-against : (s : Bool) (x : Entry) → x.sell ≡ s → against s x ≡ false
not-against s x e = rw e (go s)
  where
    go : (s : Bool) → beq s (not s) ≡ false
    go true = refl
    go false = refl

-- a scan that does not ask for places is the same from any
placeless : (price : Entry → ℕ) (s : Bool) (l : List Entry) (q j k : ℕ)
    → scan (λ (p : ℕ) (_ : ℕ) (e : Entry). facing price s p e) q j l ≡ scan (λ (p : ℕ) (_ : ℕ) (e : Entry). facing price s p e) q k l
unfolding scan
placeless price s [] q j k = refl
placeless price s (y ∷ l) q j k = placeless price s l (facing price s q y) (j + 1) (k + 1)

module _ (s : Bool) (x : Entry) (own : against s x ≡ false) where
  facing-from : (price : Entry → ℕ) (l : List Entry) (i q j k : ℕ) → At l i x
      → scan (λ (p : ℕ) (_ : ℕ) (e : Entry). facing price s p e) q j (without i l) ≡ scan (λ (p : ℕ) (_ : ℕ) (e : Entry). facing price s p e) q k l
  unfolding scan without
  facing-from price [] i q j k h = absurd h
  facing-from price (y ∷ l) zero q j k h = let n : against s y ≡ false = ap (against s) h ∙ own in rw n (placeless price s l q j (k + 1))
  facing-from price (y ∷ l) (suc i) q j k h = facing-from price l i (facing price s q y) (j + 1) (k + 1) h

  -- C is the same without it, and so is NBO or NBB
  own-contra : (l : List Entry) (i : ℕ) → At l i x → contra s (without i l) ≡ contra s l
  unfolding nearest
  own-contra l i h = facing-from working l i 0 0 0 h

  own-national : (a : ℕ) (l : List Entry) (i : ℕ) → At l i x → national s a (without i l) ≡ national s a l
  unfolding nearest
  own-national a l i h = facing-from display l i a 0 0 h

  -- so is what 21 looks for
  own-hidden : (l : List Entry) (i : ℕ) → At l i x → best_hidden s (without i l) ≡ best_hidden s l
  unfolding nearest
  own-hidden l i h = facing-from hidden_price l i 0 0 0 h

module _ {m top : ℕ} (e x : Entry) (own : against e.sell x ≡ false) (l : List Entry) (so : Sound m top l) (i : ℕ) (at : At l i x) where
  -- and whether the best contra entry is within a bound
  own-best : (cap : ℕ) → within_bound cap e (best_contra e.sell (shown_only e) (without i l)) ≡ within_bound cap e (best_contra e.sell (shown_only e) l)
  own-best cap =
      go (best_contra e.sell (shown_only e) (without i l)) (contra-tells e.sell (shown_only e) (without i l))
      (best_contra e.sell (shown_only e) l) (contra-tells e.sell (shown_only e) l)
    where
      faces : (j : ℕ) (y : Entry) → At l j y → eligible e.sell (shown_only e) y ≡ true → Rests (without i l) y
      faces j y a p = rests-without l j i y a (λ q. clash
          (ap (against e.sell) (at_same l i x y at (subst (λ (n : ℕ). At l n y) q a)) ∙ and_left (against e.sell y) _ p) own)

      go : (f : Found Entry) → ContraTells e.sell (shown_only e) (without i l) f → (g : Found Entry) → ContraTells e.sell (shown_only e) l g
          → within_bound cap e f ≡ within_bound cap e g
      go nowhere u nowhere v = refl
      go nowhere u (found j y) v =
          let r : Rests (without i l) y = faces j y v.chosen.there v.chosen.passes in
          clash v.chosen.passes (u.nobody r.place y r.there)
      go (found k z) u nowhere v =
          let r : Rests l z = rests-back l k i z u.chosen.there in
          clash u.chosen.passes (v.nobody r.place z r.there)
      go (found k z) u (found j y) v =
          let r : Rests l z = rests-back l k i z u.chosen.there in
          let q : Rests (without i l) y = faces j y v.chosen.there v.chosen.passes in
          ap (reaches e.sell cap) (seen-inj e.sell z.working y.working
          (omega (arith, (here-facts so r.place z r.there).works.high)) (omega (arith, (here-facts so j y v.chosen.there).works.high))
          (omega (
            arith,
            u.price q.place y q.there v.chosen.passes,
            v.price r.place z r.there u.chosen.passes,
            cost-is e.sell y.working,
            cost-is e.sell z.working,
          )))

  own-traded : (k : Market) → none_traded (took k e (without i l)).records ≡ none_traded (took k e l).records
  own-traded k =
      takes-now k e (without i l)
      ∙ ap (λ (b : Bool). minds e.kind || (eqb e.quantity 0 || not b)) (own-best (bound k e))
      ∙ sym (takes-now k e l)

  own-stop : (t : Terms) → stop_for t e (without i l) ≡ stop_for t e l
  unfolding stop_for
  own-stop t = rw (own-contra e.sell x own l i at, own-hidden e.sell x own l i at) refl

  own-protection : (t : Terms) → protection_for t e (without i l) ≡ protection_for t e l
  unfolding protection_for
  own-protection t = rw (own-national e.sell x own (away (market_of t) e.sell) l i at) refl

-- ---- the quote replaced ----

module _ {m top : ℕ} (t : Terms) (e : Entry) (l : List Entry) (so : Sound m top l) (q : quote e ≡ true) where
  -- what does not go by an entry of its own side is the same without the quote that it replaces
  same-without : {A : Type 0} (f : List Entry → A) → ((i : ℕ) (x : Entry) → At l i x → against e.sell x ≡ false → f (without i l) ≡ f l)
      → f (replaced e l).final ≡ f l
  unfolding cut still
  same-without f own =
      let first : replaced e l ≡ cut_quote 27 e.party e.sell l = rw q refl in
      ap (λ (x : Ran (List Entry) Report). f x.final) first ∙ go (quote_in e.party e.sell l) (quote-tells l e.party e.sell)
    where
      go : (g : Found Entry) → Tells (quote_of e.party e.sell) (λ _. 0) l g → f (cut 27 l g).final ≡ f l
      go nowhere c = refl
      go (found i x) c = own i x c.there (not-against e.sell x (of-maker e.party e.sell x c.passes).side)

  -- C,
  pub same-contra : contra e.sell (replaced e l).final ≡ contra e.sell l
  same-contra = same-without (contra e.sell) (λ i x h own. own-contra e.sell x own l i h)

  -- why an arrival may not rest,
  pub same_stop : stop_for t e (replaced e l).final ≡ stop_for t e l
  same_stop = same-without (stop_for t e) (λ i x h own. own-stop e x own l so i h t)

  -- whether it trades anything,
  pub same-none-traded : none_traded (took (market_of t) e (replaced e l).final).records ≡ none_traded (took (market_of t) e l).records
  same-none-traded = same-without (λ (r : List Entry). none_traded (took (market_of t) e r).records) (λ i x h own. own-traded e x own l so i h (market_of t))

  -- what protection says
  pub same-protection : protection_for t e (replaced e l).final ≡ protection_for t e l
  same-protection = same-without (protection_for t e) (λ i x h own. own-protection e x own l so i h t)

  -- SO WHETHER AND WHY A QUOTE IS REJECTED IS THE SAME, asked before or after the quote that it replaces is removed
  pub same-rejection : rejection t e (replaced e l).final ≡ rejection t e l
  unfolding rejection stops_at_once
  same-rejection = rw (same-protection, same-none-traded, same_stop) refl

-- an order replaces nothing, so that for quotes and orders alike
module _ {m top : ℕ} (t : Terms) (e : Entry) (l : List Entry) (so : Sound m top l) where
  either_way : {A : Type 0} (f : List Entry → A) → (quote e ≡ true → f (replaced e l).final ≡ f l) → f (replaced e l).final ≡ f l
  unfolding still
  either_way f g = cond_either (λ (x : Ran (List Entry) Report). f x.final ≡ f l) (quote e) (cut_quote 27 e.party e.sell l) (still l)
      (λ q. sym (ap (λ (x : Ran (List Entry) Report). f x.final) (of-quote q)) ∙ g q) (λ q. refl)
    where
      of-quote : quote e ≡ true → replaced e l ≡ cut_quote 27 e.party e.sell l
      of-quote q = rw q refl

  -- C is what it was once the replaced quote has gone,
  pub still-contra : contra e.sell (replaced e l).final ≡ contra e.sell l
  still-contra = either_way (contra e.sell) (λ q. same-contra t e l so q)

  -- and it trades if it would have
  pub still-trades : trades t e (replaced e l).final ≡ trades t e l
  still-trades = either_way (trades t e) (λ q. ap not (same-none-traded t e l so q))

-- A QUOTE WHOSE REST IS STOPPED, AND WHICH IS NOT REJECTED, HAS TRADED
pub stopped-traded : {m top : ℕ} (t : Terms) (e : Entry) (l : List Entry) → Sound m top l → quote e ≡ true → rejection t e l ≡ 0
    → 1 ≤ stop_for t e (took (market_of t) e (replaced e l).final).final.book → none_traded (took (market_of t) e (replaced e l).final).records ≡ false
unfolding rejection stops_at_once still
stopped-traded t e l so q h why = go (none_traded (took (market_of t) e (replaced e l).final).records) refl
  where
    passed : (n k : ℕ) → or_else n k ≡ 0 → k ≡ 0
    passed zero k g = g
    passed (suc n) k g = absurd (omega arith)

    go : (b : Bool) → none_traded (took (market_of t) e (replaced e l).final).records ≡ b → b ≡ false
    go false g = refl
    go true g =
        let z : cond (quote e && none_traded (took (market_of t) e l).records) (stop_for t e l) 0 ≡ 0 = passed (protection_for t e l) _ h in
        let n : none_traded (took (market_of t) e l).records ≡ true = sym (same-none-traded t e l so q) ∙ g in
        let w : stop_for t e l ≡ 0 = rw (q, n) at z in
        let y : stop_for t e (took (market_of t) e (replaced e l).final).final.book ≡ 0 =
        ap (λ (x : Ran Taking Report). stop_for t e x.final.book) (none-took (market_of t) e (replaced e l).final g) ∙ same_stop t e l so q ∙ w in
        absurd (omega arith)
