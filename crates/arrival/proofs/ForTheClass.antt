-- THE RULES OF ARRIVAL, FOR THE CLASS: statements about the definition `arrived`, one for each thing that students get wrong.
-- Assumes nothing.
use Prim.Native.Nat.{ℕ, zero, suc, ◌≤◌}
use mathlib.Core.Path.{◌≡◌, refl, sym, subst, ap, ◌∙◌}
use mathlib.Core.Bool.{Bool, true, false, not, ◌||◌}
use mathlib.Core.List.{List, ◌∷◌, ◌++◌}
use mathlib.Core.Logic.{◌⊎◌, inl, inr}
use native.Mathlib.Omega.{arith}
use lib.Dec.{eqb}
use borrow.Author.Tests.{eqb-false, ne_eqb, eq-eqb}
use Rattle.prices.specs.declared.Prices.{Prices}
use Rattle.prices.specs.Side.{reaches, away}
use Rattle.kinds.specs.Kinds.{sliding, minds}
use Rattle.kinds.proofs.KindLaws.{minds-sliding}
use Rattle.prices.specs.Aims.{aim_display, aim_working, aims}
use Rattle.prices.proofs.FrameLaws.{seen, unreached}
use Rattle.prices.proofs.StepLaws.{is-legal}
use Rattle.lists.specs.Places.{At}
use Rattle.lists.specs.Tests.{All}
use Rattle.lists.specs.Run.{Ran, still, and_then}
use Rattle.lists.proofs.Bools.{clash}
use Rattle.lists.proofs.TestLaws.{all-at, all_of}
use Rattle.packing.specs.declared.report.Report.{Report}
use Rattle.packing.specs.declared.report.Report.TheVariants.{Noted, Rejected, Traded, Rested, Repriced, Cancelled}
use Rattle.book.specs.declared.Entry.{Entry}
use Rattle.book.specs.Entries.{quote, quote_of, against, with_quantity}
use Rattle.book.specs.Change.{post}
use Rattle.book.specs.Look.{working, contra, quote_in}
use Rattle.book.proofs.OfferLaws.{Best, best-one}
use Rattle.book.proofs.LookLaws.{Offered, contra-price-tells, quote-tells}
use Rattle.soundness_theory.proofs.Facts.{AsItSlides, Clear, Sound}
use Rattle.telling.specs.Tell.{rejected, rested, cancelled}
use Rattle.soundness_theory.proofs.MarketFacts.{MarketFacts, sound-for}
use Rattle.telling.proofs.Staying.{NoTrade}
use Rattle.terms.specs.declared.Terms.{Terms}
use Rattle.terms.specs.Terms.{market_of}
use Rattle.arrival.specs.Cancel.{cut_quote}
use Rattle.arrival.specs.Take.{Taking, took}
use Rattle.arrival.specs.Post.{prices_of, as_posted, stop_for}
use Rattle.arrival.specs.Arrive.{reported, both_quotes, rejected_by, replaced, trades_of, finished, entered, none_traded}
use Rattle.arrival.specs.Arrive.{rejection, arrived_as, arrived, blocks}
use Rattle.arrival.specs.Asks.{Arriving}
use Rattle.arrival.proofs.ReasonLaws.{rejection-among, order-passes}
use Rattle.arrival.proofs.TakeLaws.{took-all, took-sound}
use Rattle.arrival.proofs.CutLaws.{OtherThan, of-maker, quote-all, quote-sound, quote-gone}
use Rattle.arrival.proofs.PostLaws.{Fits, fits}
use Rattle.arrival.proofs.Leaves.{Rests, cancels, cut-reports, quote-leaves, other-side, still-found}
use Rattle.arrival.proofs.OwnSide.{not-against, same-contra, stopped-traded}
use Rattle.arrival.proofs.ArriveKeeps.{goes_on}
use Rattle.arrival.proofs.ArriveTells.{arrived-says}

-- the entries that rested are sound
before : {t : Terms} {e : Entry} {l : List Entry} → Arriving t e l → Sound t.m t.given l
before {t} a = (sound-for (record { top = t.given; market = a.market; entries = a.entries })).1

market : {t : Terms} {e : Entry} {l : List Entry} → Arriving t e l → MarketFacts (market_of t)
market {t} a = (sound-for (record { top = t.given; market = a.market; entries = a.entries })).0

-- ---- 20 to 24: "the maker's resting same-side quote is cancelled" ----

-- A quote rejected for one of these reasons
pub record TakesSame (t : Terms) (e : Entry) (l : List Entry) : Type 0 where
  -- reports its rejection, then the cancellation of its maker's quote on the same side, with 30, if there is one; and nothing else;
  pub reports : (arrived t e l).records ≡ rejected (rejection t e l) e ∷ cancels 30 (quote_in e.party e.sell l)
  -- that quote is gone;
  pub gone : All (OtherThan e.party e.sell) (arrived t e l).final
  -- everything else still rests, as it was,
  pub others : (i : ℕ) (y : Entry) → At l i y → quote_of e.party e.sell y ≡ false → Rests (arrived t e l).final y
  -- and so does the maker's quote on the opposite side;
  pub opposite : (i : ℕ) (y : Entry) → At l i y → quote_of e.party (not e.sell) y ≡ true → Rests (arrived t e l).final y
  -- and the maker may quote on
  pub unblocked : blocks t e l ≡ false

-- 25 and 26 take both sides, no other reason does
pub one_side : (why : ℕ) → why ≤ 24 → both_quotes why ≡ false
one_side why h = rw (ne_eqb why 25 (λ q. omega arith), ne_eqb why 26 (λ q. omega arith)) refl

rejected-is : (t : Terms) (e : Entry) (l : List Entry) → 1 ≤ rejection t e l → arrived t e l ≡ rejected_by (rejection t e l) e l
unfolding arrived
rejected-is t e l h = go (rejection t e l) h
  where
    go : (n : ℕ) → 1 ≤ n → arrived_as t e l n ≡ rejected_by n e l
    go zero k = absurd (omega arith)
    go (suc n) k = refl

same-is : (why : ℕ) (e : Entry) (l : List Entry) → why ≤ 24 → rejected_by why e l ≡ and_then (reported (rejected why e) l) (cut_quote 30 e.party e.sell)
unfolding rejected_by
same-is why e l h = rw (one_side why h) refl

pub rejected-takes-same : {t : Terms} {e : Entry} {l : List Entry} → Arriving t e l → 20 ≤ rejection t e l → rejection t e l ≤ 24 → TakesSame t e l
unfolding blocks
rejected-takes-same {t} {e} {l} a low high =
    let same : arrived t e l ≡ and_then (reported (rejected (rejection t e l) e) l) (cut_quote 30 e.party e.sell) =
    rejected-is t e l (omega arith) ∙ same-is (rejection t e l) e l high in
    let others : (i : ℕ) (y : Entry) → At l i y → quote_of e.party e.sell y ≡ false → Rests (arrived t e l).final y =
    λ i y h q. rw same (quote-leaves 30 e.party e.sell l i y h q) in
    record {
      reports = ap (λ (x : Ran (List Entry) Report). x.records) same
          ∙ ap (λ (rs : List Report). rejected (rejection t e l) e ∷ rs) (cut-reports 30 l (quote_in e.party e.sell l));
      gone = rw same (quote-gone 30 e.party e.sell l (before a));
      others = others;
      opposite = λ i y h q. others i y h (other-side e.party e.sell y q);
      unblocked = one_side (rejection t e l) high;
    }

-- ---- "25 and 26 cancel both of the maker's quotes and block that maker until kind 12" ----

-- A quote rejected for one of these reasons
pub record TakesBoth (t : Terms) (e : Entry) (l : List Entry) : Type 0 where
  -- reports its rejection, then the cancellation of its maker's quotes, with 30, the buy first, where there are any; and nothing else;
  pub reports : (arrived t e l).records
      ≡ rejected (rejection t e l) e ∷ (cancels 30 (quote_in e.party false l) ++ cancels 30 (quote_in e.party true l))
  -- no quote of that maker is left on either side;
  pub gone : (s : Bool) → All (OtherThan e.party s) (arrived t e l).final
  -- everything else still rests, as it was;
  pub others : (i : ℕ) (y : Entry) → At l i y → ((s : Bool) → quote_of e.party s y ≡ false) → Rests (arrived t e l).final y
  -- and the maker is blocked
  pub blocked : blocks t e l ≡ true

pub two-sides : (why : ℕ) → 25 ≤ why → why ≤ 26 → both_quotes why ≡ true
two-sides why low high = go (eqb why 25) refl
  where
    go : (b : Bool) → eqb why 25 ≡ b → (b || eqb why 26) ≡ true
    go true q = refl
    go false q = eq-eqb why 26 (omega (arith, eqb-false why 25 q))

both_is : (why : ℕ) (e : Entry) (l : List Entry) → 25 ≤ why → why ≤ 26
    → rejected_by why e l ≡ and_then (reported (rejected why e) l) (λ (r : List Entry). and_then (cut_quote 30 e.party false r) (cut_quote 30 e.party true))
unfolding rejected_by
both_is why e l low high = rw (two-sides why low high) refl

pub protected-takes-both : {t : Terms} {e : Entry} {l : List Entry} → Arriving t e l → 25 ≤ rejection t e l → TakesBoth t e l
unfolding blocks
protected-takes-both {t} {e} {l} a low =
    let so : Sound t.m t.given l = before a in
    let r : List Entry = (cut_quote 30 e.party false l).final in
    let high : rejection t e l ≤ 26 = (rejection-among t e l).most in
    let same : arrived t e l ≡ and_then (reported (rejected (rejection t e l) e) l)
    (λ (r : List Entry). and_then (cut_quote 30 e.party false r) (cut_quote 30 e.party true)) =
    rejected-is t e l (omega arith) ∙ both_is (rejection t e l) e l low high in
    record {
      reports = ap (λ (x : Ran (List Entry) Report). x.records) same
          ∙ ap (λ (rs : List Report). rejected (rejection t e l) e ∷ (rs ++ (cut_quote 30 e.party true r).records))
          (cut-reports 30 l (quote_in e.party false l))
          ∙ ap (λ (rs : List Report). rejected (rejection t e l) e ∷ (cancels 30 (quote_in e.party false l) ++ rs))
          (cut-reports 30 r (quote_in e.party true r) ∙ still-found so 30 e.party true (quote_in e.party false l) (quote-tells l e.party false));
      gone = λ s. rw same (gone so s);
      others = λ i y h q.
          let z : Rests r y = quote-leaves 30 e.party false l i y h (q false) in
          rw same (quote-leaves 30 e.party true r z.place y z.there (q true));
      blocked = two-sides (rejection t e l) low high;
    }
  where
    gone : Sound t.m t.given l → (s : Bool) → All (OtherThan e.party s) (cut_quote 30 e.party true (cut_quote 30 e.party false l).final).final
    gone so false =
        quote-all 30 e.party true (cut_quote 30 e.party false l).final (OtherThan e.party false) (quote-gone 30 e.party false l so)
    gone so true = quote-gone 30 e.party true (cut_quote 30 e.party false l).final (quote-sound 30 e.party false l so)

-- ---- "With something traded, the rest is cancelled and the maker's opposite quote too." ----

-- A quote that is not rejected, and whose rest is stopped,
pub record TakesOpposite (t : Terms) (e : Entry) (l : List Entry) : Type 0 where
  -- has traded;
  pub traded : none_traded (trades_of t e l).records ≡ false
  -- its reports are: the same-side quote that it replaced, with 27, if there was one; the trades; the rest, cancelled for its reason; and last its maker's
  -- quote on the opposite side, with 29, if there is one after the trades;
  pub reports : (arrived t e l).records
      ≡ cancels 27 (quote_in e.party e.sell l) ++ ((trades_of t e l).records
      ++ (cancelled (stop_for t e (trades_of t e l).final.book) (with_quantity (trades_of t e l).final.left e)
      ∷ cancels 29 (quote_in e.party (not e.sell) (trades_of t e l).final.book)))
  -- no quote of that maker is left on either side;
  pub same-gone : All (OtherThan e.party e.sell) (arrived t e l).final
  pub opposite-gone : All (OtherThan e.party (not e.sell)) (arrived t e l).final
  -- and everything else that the trades left still rests, as they left it
  pub others : (i : ℕ) (y : Entry) → At (trades_of t e l).final.book i y → quote_of e.party (not e.sell) y ≡ false → Rests (arrived t e l).final y

entered-is : (t : Terms) (e : Entry) (l : List Entry) → rejection t e l ≡ 0 → arrived t e l ≡ and_then (replaced e l) (goes_on t e)
unfolding arrived entered
entered-is t e l h = rw h refl

-- what the end of an arrival is where something is left and a reason stops it
stopped-is : (t : Terms) (e : Entry) (left why : ℕ) (l : List Entry) → 1 ≤ left → 1 ≤ why → quote e ≡ true
    → finished t e left why l ≡ and_then (reported (cancelled why (with_quantity left e)) l) (cut_quote 29 e.party (not e.sell))
stopped-is t e zero why l some stops q = absurd (omega arith)
stopped-is t e (suc left) zero l some stops q = absurd (omega arith)
stopped-is t e (suc left) (suc why) l some stops q = rw q refl

pub remainder-takes-opposite : {t : Terms} {e : Entry} {l : List Entry} → Arriving t e l → quote e ≡ true → rejection t e l ≡ 0
    → 1 ≤ (trades_of t e l).final.left → 1 ≤ stop_for t e (trades_of t e l).final.book → TakesOpposite t e l
remainder-takes-opposite {t} {e} {l} a q h some stops =
    let so : Sound t.m t.given l = before a in
    let r : List Entry = (replaced e l).final in
    let b : List Entry = (trades_of t e l).final.book in
    let first : replaced e l ≡ cut_quote 27 e.party e.sell l = rw q refl in
    let last : finished t e (trades_of t e l).final.left (stop_for t e b) b
    ≡ and_then (reported (cancelled (stop_for t e b) (with_quantity (trades_of t e l).final.left e)) b) (cut_quote 29 e.party (not e.sell)) =
    stopped-is t e (trades_of t e l).final.left (stop_for t e b) b some stops q in
    let sound : Sound t.m t.given r = rw first (quote-sound 27 e.party e.sell l so) in
    let final : (arrived t e l).final ≡ (cut_quote 29 e.party (not e.sell) b).final =
    ap (λ (x : Ran (List Entry) Report). x.final) (entered-is t e l h) ∙ ap (λ (x : Ran (List Entry) Report). x.final) last in
    record {
      traded = stopped-traded t e l so q h stops;
      reports = ap (λ (x : Ran (List Entry) Report). x.records) (entered-is t e l h)
          ∙ ap (λ (rs : List Report). rs ++ (goes_on t e r).records)
          (ap (λ (x : Ran (List Entry) Report). x.records) first ∙ cut-reports 27 l (quote_in e.party e.sell l))
          ∙ ap (λ (rs : List Report). cancels 27 (quote_in e.party e.sell l) ++ ((trades_of t e l).records ++ rs))
          (ap (λ (x : Ran (List Entry) Report). x.records) last
          ∙ ap (λ (rs : List Report). cancelled (stop_for t e b) (with_quantity (trades_of t e l).final.left e) ∷ rs)
          (cut-reports 29 b (quote_in e.party (not e.sell) b)));
      same-gone = rw final (quote-all 29 e.party (not e.sell) b (OtherThan e.party e.sell)
          (took-all (market_of t) e r (OtherThan e.party e.sell) (λ n y k z. z) (rw first (quote-gone 27 e.party e.sell l so))));
      opposite-gone = rw final (quote-gone 29 e.party (not e.sell) b (took-sound (market_of t) e r sound));
      others = λ i y h o. rw final (quote-leaves 29 e.party (not e.sell) b i y h o);
    }

-- ---- "An order's rest is just cancelled." ----

-- a report is of a trade that the entry of that number took, that it rests, or that it is cancelled
abbrev pub LeavesQuotes : ℕ → Report → Type 0
LeavesQuotes n Noted = ⊥
LeavesQuotes n (Rejected why s party number limit quantity) = ⊥
LeavesQuotes n (Traded s party number other price quantity) = number ≡ n
LeavesQuotes n (Rested s party number display working quantity) = number ≡ n
LeavesQuotes n (Repriced s party number display working quantity) = ⊥
LeavesQuotes n (Cancelled why s party number limit quantity) = number ≡ n

-- AN ORDER CANCELS NO QUOTE AND IS NEVER REJECTED: each of its reports is a trade that it took, that it rests, or that its own rest is cancelled
pub orders-leave-quotes : (t : Terms) (e : Entry) (l : List Entry) → quote e ≡ false → All (LeavesQuotes e.number) (arrived t e l).records
orders-leave-quotes t e l q =
    arrived-says t e l (LeavesQuotes e.number) (record {
      rejects = λ p why. clash p q;
      cancels = λ p why s x o. clash p q;
      trades = λ mi y n w. refl;
      rests = λ left h. refl;
      stops = λ why left. refl;
    })

-- and the book afterwards is what its trades left of the book before, with the order behind it if it rests
pub order-book : (t : Terms) (e : Entry) (l : List Entry) → quote e ≡ false
    → ((arrived t e l).final ≡ (took (market_of t) e l).final.book)
    ⊎ ((arrived t e l).final
    ≡ post (as_posted e (took (market_of t) e l).final.left (prices_of t e (took (market_of t) e l).final.book)) (took (market_of t) e l).final.book)
unfolding still
order-book t e l q = rw (entered-is t e l (order-passes t e l q), q) (go x.final.left (stop_for t e x.final.book))
  where
    x : Ran Taking Report
    x = took (market_of t) e l

    go : (left why : ℕ) → ((finished t e left why x.final.book).final ≡ x.final.book)
        ⊎ ((finished t e left why x.final.book).final ≡ post (as_posted e left (prices_of t e x.final.book)) x.final.book)
    go zero why = inl refl
    go (suc left) zero = inr refl
    go (suc left) (suc why) = inl (rw q refl)

-- ---- "Then MMALO: aims, no trade." ----

-- AN MMALO ADDS ON ARRIVAL: whatever the book, none of the reports of its arrival is of a trade (of all that it does while it rests: handler, ForTheClass)
pub adds-on-arrival : (t : Terms) (e : Entry) (l : List Entry) → minds e.kind ≡ true → All NoTrade (arrived t e l).records
adds-on-arrival t e l k =
    arrived-says t e l NoTrade (record {
      rejects = λ p why. refl;
      cancels = λ p why s x o. refl;
      trades = λ mi y n w. clash k mi;
      rests = λ left h. refl;
      stops = λ why left. refl;
    })

-- ---- "C the lowest working price of any sell in the book, dark included" ----

-- a price short of the working price of every entry that faces it: below every sell's, or above every buy's
abbrev pub ShortOfAll : Bool → ℕ → List Entry → Type 0
ShortOfAll s p l = All (λ (y : Entry). against s y ≡ true → reaches s p y.working ≡ false) l

-- an MMALO with this display and working price, of side s, in the book l:
pub record PricedBy (t : Terms) (e : Entry) (l : List Entry) (s : Bool) (d w : ℕ) : Type 0 where
  -- both prices are so;
  pub display-short : ShortOfAll s d l
  pub working-short : ShortOfAll s w l
  -- and they are the aims, with C the best of the working prices of all the entries that face it, dark or not
  pub display-is : (c : ℕ) → Best s (Offered working s l) c → d ≡ aim_display t.m e.kind s e.limit (away (market_of t) s) c
  pub working-is : (c : ℕ) → Best s (Offered working s l) c → w ≡ aim_working t.m e.kind s e.limit (away (market_of t) s) c

-- where a report is that the entry rests, its prices are so
abbrev pub PricedOff : Terms → Entry → List Entry → Report → Type 0
PricedOff t e l Noted = Unit {0}
PricedOff t e l (Rejected why s party number limit quantity) = Unit {0}
PricedOff t e l (Traded s party number other price quantity) = Unit {0}
PricedOff t e l (Rested s party number display working quantity) = PricedBy t e l s display working
PricedOff t e l (Repriced s party number display working quantity) = Unit {0}
PricedOff t e l (Cancelled why s party number limit quantity) = Unit {0}

module _ (t : Terms) (e : Entry) (l : List Entry) (a : Arriving t e l) (minding : minds e.kind ≡ true) where
  slider : sliding e.kind ≡ true
  slider = minds-sliding e.kind minding

  -- it takes nothing: the book that it is posted to is the one before, without the quote that it replaces
  untouched : (trades_of t e l).final.book ≡ (replaced e l).final
  unfolding took still
  untouched = rw minding refl

  -- so all that face it are there
  facing-there : (i : ℕ) (y : Entry) → At l i y → against e.sell y ≡ true → Rests (trades_of t e l).final.book y
  unfolding still
  facing-there i y h f = rw untouched (by (quote e) refl)
    where
      go : (b : Bool) → quote_of e.party e.sell y ≡ b → b ≡ false
      go true q = clash f (not-against e.sell y (of-maker e.party e.sell y q).side)
      go false q = refl

      by : (b : Bool) → quote e ≡ b → Rests (replaced e l).final y
      by true q = rw q (quote-leaves 27 e.party e.sell l i y h (go (quote_of e.party e.sell y) refl))
      by false q = rw q (record { place = i; there = h })

  -- C is that of the book before
  same-c : (c : ℕ) → Best e.sell (Offered working e.sell l) c → contra e.sell (trades_of t e l).final.book ≡ c
  unfolding still
  same-c c b = ap (contra e.sell) untouched ∙ by (quote e) refl ∙ best-one (contra-price-tells e.sell l) b
    where
      by : (q : Bool) → quote e ≡ q → contra e.sell (replaced e l).final ≡ contra e.sell l
      by true q = same-contra t e l (before a) q
      by false q = rw q refl

  -- prices that may rest in a book where they are, are short of them all; and a display is no more aggressive than the price it works at
  fit-short : (left : ℕ) (b : List Entry) (p : Prices) → Fits t.m left e b p → ((i : ℕ) (y : Entry) → At l i y → against e.sell y ≡ true → Rests b y)
      → ShortOfAll e.sell p.display l × ShortOfAll e.sell p.working l
  fit-short left b p fit there = (each p.display g.slides.front, each p.working (omega arith))
    where
      g : AsItSlides t.m e.kind e.sell e.limit p.display p.working
      g = rw slider at fit.prices

      each : (d : ℕ) → seen e.sell d ≤ seen e.sell p.working → ShortOfAll e.sell d l
      each d front = all_of (λ (y : Entry). against e.sell y ≡ true → reaches e.sell d y.working ≡ false) l (λ i y h f.
          let r : Rests b y = there i y h f in
          unreached e.sell d y.working (omega (arith, (all-at (Clear (as_posted e left p)) b r.place y fit.clear r.there).clear f)))

  aims-are : prices_of t e (trades_of t e l).final.book
      ≡ aims t.m e.kind e.sell e.limit (away (market_of t) e.sell) (contra e.sell (trades_of t e l).final.book)
  aims-are = rw slider refl

  -- and the book is sound still
  replaced-sound : (b : Bool) → quote e ≡ b → Sound t.m t.given (replaced e l).final
  unfolding still
  replaced-sound true q = rw q (quote-sound 27 e.party e.sell l (before a))
  replaced-sound false q = rw q (before a)

  priced-by : stop_for t e (trades_of t e l).final.book ≡ 0 → (p : Prices) → prices_of t e (trades_of t e l).final.book ≡ p
      → PricedBy t e l e.sell p.display p.working
  priced-by h p q =
      let b : List Entry = (trades_of t e l).final.book in
      let short = fit-short 1 b (prices_of t e b)
      (fits t e b 1 t.given (market a)
      (rw untouched (replaced-sound (quote e) refl)) (is-legal t.m e.limit a.limit) (λ mi. clash minding mi) h) facing-there in
      record {
        display-short = subst (λ (z : Prices). ShortOfAll e.sell z.display l) q short.0;
        working-short = subst (λ (z : Prices). ShortOfAll e.sell z.working l) q short.1;
        display-is = λ c best. ap (λ (z : Prices). z.display) (sym q ∙ aims-are)
            ∙ ap (aim_display t.m e.kind e.sell e.limit (away (market_of t) e.sell)) (same-c c best);
        working-is = λ c best. ap (λ (z : Prices). z.working) (sym q ∙ aims-are)
            ∙ ap (aim_working t.m e.kind e.sell e.limit (away (market_of t) e.sell)) (same-c c best);
      }

  rests-so : (left : ℕ) → stop_for t e (trades_of t e l).final.book ≡ 0
      → PricedOff t e l (rested (as_posted e left (prices_of t e (trades_of t e l).final.book)))
  rests-so left h = by (prices_of t e (trades_of t e l).final.book) (priced-by h (prices_of t e (trades_of t e l).final.book) refl)
    where
      by : (p : Prices) → PricedBy t e l e.sell p.display p.working → PricedOff t e l (rested (as_posted e left p))
      by p z = rw slider z

-- AN MMALO BUY RESTS BELOW EVERY SELL, dark ones too, with its display and with its working price, a sell above every buy; and just there: both are its aims
-- before the best price of them all
pub priced-off-dark : {t : Terms} {e : Entry} {l : List Entry} → Arriving t e l → minds e.kind ≡ true → All (PricedOff t e l) (arrived t e l).records
priced-off-dark {t} {e} {l} a k =
    arrived-says t e l (PricedOff t e l) (record {
      rejects = λ p why. tt;
      cancels = λ p why s x o. tt;
      trades = λ mi y n w. tt;
      rests = λ left h. rests-so t e l a k left h;
      stops = λ why left. tt;
    })
