-- Laws of an arrival as code goes about it: what each of its parts finds, asks and leaves.
-- Assumes nothing.
use Prim.Native.Nat.{ℕ, zero, suc, ◌≤◌}
use mathlib.Core.Path.{◌≡◌, refl, sym, ap, ◌∙◌}
use mathlib.Core.Bool.{Bool, true, false, cond, not, ◌&&◌, ◌||◌}
use mathlib.Core.List.{List, [], ◌∷◌}
use native.Mathlib.Omega.{arith}
use lib.Dec.{eqb}
use borrow.Author.Tests.{eqb-true}
use Rattle.prices.specs.declared.Market.{Market}
use Rattle.prices.specs.declared.Prices.{Prices}
use Rattle.prices.specs.Side.{away}
use Rattle.prices.specs.Step.{mpv, none_or_legal, top_price}
use Rattle.kinds.specs.Kinds.{sliding, minds}
use Rattle.prices.specs.Aims.{aims, Bounds}
use Rattle.prices.specs.Test.{reason_of}
use Rattle.prices.specs.Protect.{Cents}
use Rattle.prices.proofs.StepLaws.{LegalIfAny, if-any-is, if-any-none, given-legal, is-legal}
use Rattle.lists.specs.Run.{Ran, still, leading, ran, and_then}
use Rattle.lists.proofs.RunLaws.{run-stop, run-go}
use Rattle.lists.proofs.Bools.{and_left}
use Rattle.lists.proofs.TestLaws.{all_map}
use Rattle.packing.specs.declared.report.Report.{Report}
use Rattle.book.specs.declared.Entry.{Entry}
use Rattle.book.specs.declared.Book.{Book}
use Rattle.book.specs.declared.Pricing.{Pricing}
use Rattle.book.specs.declared.Pricing.TheVariants.{Fixed, Dark, Sliding}
use Rattle.book.specs.Entries.{quote, display, shown_as, with_quantity}
use Rattle.book.specs.Look.{contra, national}
use Rattle.book.specs.Shape.{entries_of, book_of, WellFormed, Space}
use Rattle.book.specs.Change.{post}
use Rattle.book.proofs.ShapeLaws.{book-of-entries, fits-64}
use Rattle.book.proofs.ChangeLaws.{post-fits}
use Rattle.soundness_theory.proofs.Facts.{EntryFacts, PricedAs, Sound}
use Rattle.soundness_theory.proofs.FrontLaws.{if-any-nearest, if-any-contra}
use Rattle.telling.specs.Tell.{rejected, traded, rested, cancelled}
use Rattle.soundness_theory.specs.SoundMarket.{sound_market}
use Rattle.telling.specs.Stage.{Roomy, Staged, Put}
use Rattle.soundness_theory.proofs.MarketFacts.{MarketFacts, market-facts, sound-for}
use Rattle.terms.specs.declared.Terms.{Terms}
use Rattle.arrival.specs.declared.Facing.{Facing}
use Rattle.std.specs.Prelude.{Option, Some, None, is_some}
use Rattle.arrival.specs.declared.take.Trade.{Trade}
use Rattle.terms.specs.Terms.{market_of}
use Rattle.arrival.specs.Cancel.{Asks, cut_quote}
use Rattle.arrival.specs.Take.{Taking, bound, offered, next_take, chances, taken, took}
use Rattle.arrival.specs.Post.{prices_before, prices_of, as_posted, stop_for, Posts}
use Rattle.arrival.specs.Arrive.{reported, of_quotes, both_quotes, rejected_by, posted, cancelled_rest, finished, entered}
use Rattle.arrival.specs.Arrive.{none_traded, stops_at_once, bars_against, protection_for, or_else, rejection, arrived_as, arrived}
use Rattle.arrival.specs.Asks.{trades, Arriving, Enters, next_trade, trade_as, Rests, Finishes}
use Rattle.telling.proofs.StageLaws.{roomy-first, staged-then, staged-room, staged-none, staged-as, staged-go, roomy-as}
use Rattle.arrival.proofs.TakeLaws.{take-falls, takes-now}
use Rattle.arrival.proofs.TradeLaws.{next-take}
use Rattle.arrival.proofs.Untraded.{far-off}
use Rattle.arrival.proofs.PostingLaws.{unminded}

-- ---- the prices of a sound book before a sound market ----

pub facts-of : {t : Terms} {e : Entry} {l : List Entry} → Arriving t e l → MarketFacts (market_of t) × Sound t.m t.given l
facts-of {t} a = sound-for (record { top = t.given; market = a.market; entries = a.entries })

-- the contra price that was seen, and the away price, are none or legal
enters-bounds : {t : Terms} {e : Entry} {f : Facing} {b : Book} → Enters t e f b → Bounds t.m (away (market_of t) e.sell) f.contra
unfolding sound_market
enters-bounds {t} {e} {f} {b} n = record {
  step = and_left (mpv t.m) (none_or_legal t.m t.bid && none_or_legal t.m t.offer) n.arriving.market;
  away = if-any-is ((market-facts (market_of t) n.arriving.market).legal e.sell);
  contra = rw n.faces.contra (if-any-is (if-any-contra e.sell (facts-of n.arriving).1));
}

-- so it may be put to a book in which C is the same for a kind that minds it
pub posts-of : {t : Terms} {e : Entry} {f : Facing} {b : Book} → Enters t e f b → (d : Book) → WellFormed d
    → (minds e.kind ≡ true → f.contra ≡ contra e.sell (entries_of d)) → Posts t e d f.contra
posts-of n d w known = record { well = w; bounds = enters-bounds n; known = known }

pub enters-posts : {t : Terms} {e : Entry} {f : Facing} {b : Book} → Enters t e f b → Posts t e b f.contra
enters-posts {b = b} n = posts-of n b n.well (λ _. n.faces.contra)

-- and then the prices are those before the C of that book
pub prices-known : {t : Terms} {e : Entry} {b : Book} {c : ℕ} → Posts t e b c → prices_before t e c ≡ prices_of t e (entries_of b)
prices-known {t} {e} {b} {c} p = ap (λ (x : Prices). cond (sliding e.kind) x (record { display = e.limit; working = e.limit })) (go (minds e.kind) refl)
  where
    to : ℕ → Prices
    to x = aims t.m e.kind e.sell e.limit (away (market_of t) e.sell) x

    go : (z : Bool) → minds e.kind ≡ z → to c ≡ to (contra e.sell (entries_of b))
    go true q = ap to (p.known q)
    go false q = unminded t.m e.kind e.sell e.limit (away (market_of t) e.sell) c (contra e.sell (entries_of b)) q

pub if-any-high : {m p : ℕ} → LegalIfAny m p → p ≤ top_price
if-any-high {m} {p} g = pick (eqb p 0) refl
  where
    pick : (b : Bool) → eqb p 0 ≡ b → p ≤ top_price
    pick true q = omega (arith, eqb-true p 0 q)
    pick false q = (g.legal q).high

pub given-display : {m top : ℕ} (x : Entry) → EntryFacts m top x → LegalIfAny m (display x)
given-display {m} x f = pick x.pricing f.prices
  where
    pick : (p : Pricing) → PricedAs m x.kind x.sell x.limit x.working p → LegalIfAny m (shown_as x.limit p)
    pick Fixed h = given-legal f.limit
    pick Dark h = if-any-none
    pick (Sliding d) h = given-legal h.slides.shown

-- ---- price protection ----

pub national-cents : {t : Terms} {e : Entry} {f : Facing} {b : Book} → Enters t e f b → Cents f.national e.limit
national-cents {t} {e} {f} {b} n =
    let k = facts-of n.arriving in
    let g : LegalIfAny t.m (national e.sell (away (market_of t) e.sell) (entries_of b)) =
    if-any-nearest display e.sell (away (market_of t) e.sell) (entries_of b) (k.0.legal e.sell)
    (all_map (λ x h. given-display x h) (entries_of b) k.1.entries) in
    record { best = rw n.faces.national (if-any-high g); limit = (is-legal t.m e.limit n.arriving.limit).high }

pub protected-by : {t : Terms} {e : Entry} {f : Facing} {b : Book} → Enters t e f b
    → reason_of e.sell (bars_against t e f.national) ≡ protection_for t e (entries_of b)
unfolding protection_for
protected-by {t} {e} n = ap (λ (best : ℕ). reason_of e.sell (bars_against t e best)) n.faces.national

module _ (t : Terms) (e : Entry) (l : List Entry) where
  -- ---- whether it trades ----

  pub trades-none : minds e.kind ≡ true → false ≡ trades t e l
  unfolding took still
  trades-none q = rw q refl

  pub trades-now : (k : Market) (cap : ℕ) (next : Option Trade) → minds e.kind ≡ false → k ≡ market_of t → cap ≡ bound k e
      → next ≡ next_trade cap e (record { left = e.quantity; book = l }) → is_some next ≡ trades t e l
  unfolding took taken still leading
  trades-now k cap next q p w x = rw (q, ← p, ← w) (pick next (next-take cap e from ∙ ap (trade_as e from) (sym x)))
    where
      from : Taking
      from = record { left = e.quantity; book = l }

      pick : (n : Option Trade) → next_take cap e from ≡ trade_as e from n → is_some n ≡ not (none_traded (ran (next_take cap e) chances from).records)
      pick None h = ap (λ (y : Ran Taking Report). not (none_traded y.records)) (sym (run-stop (next_take cap e) chances from h))
      pick (Some r) h =
          ap (λ (y : Ran Taking Report). not (none_traded y.records))
          (sym (run-go (next_take cap e) chances (λ _. Unit {0}) (take-falls cap e) from (traded e r.entry r.quantity) _ tt h))

  -- C is out of reach, and so is everyone
  pub trades-far : {m top : ℕ} → Sound m top l → (k : Market) (cap : ℕ) → k ≡ market_of t → cap ≡ bound k e → offered e.sell cap (contra e.sell l) ≡ false
      → false ≡ trades t e l
  trades-far so k cap p w h =
      sym (ap not (takes-now (market_of t) e l
      ∙ ap (λ (b : Bool). minds e.kind || (eqb e.quantity 0 || not b))
      (far-off e l so (bound (market_of t) e) (sym (ap (λ (c : ℕ). offered e.sell c (contra e.sell l)) (w ∙ ap (λ (x : Market). bound x e) p)) ∙ h))
      ∙ all_true (minds e.kind) (eqb e.quantity 0)))
    where
      all_true : (a b : Bool) → (a || (b || true)) ≡ true
      all_true true b = refl
      all_true false true = refl
      all_true false false = refl

  -- ---- why it is rejected ----

  pub rejects-first : (why : ℕ) → why ≡ protection_for t e l → (why ≡ 0 → ⊥) → why ≡ rejection t e l
  unfolding rejection
  rejects-first why p n = pick (protection_for t e l) p
    where
      pick : (x : ℕ) → why ≡ x → why ≡ or_else x (stops_at_once t e l)
      pick zero q = absurd (n q)
      pick (suc x) q = q

  pub rejects-then : (why r : ℕ) → why ≡ protection_for t e l → why ≡ 0 → r ≡ stops_at_once t e l → r ≡ rejection t e l
  unfolding rejection
  rejects-then why r p z s = pick (protection_for t e l) p
    where
      pick : (x : ℕ) → why ≡ x → r ≡ or_else x (stops_at_once t e l)
      pick zero q = s
      pick (suc x) q = absurd (omega arith)

  pub arrived-enters : (why : ℕ) → why ≡ rejection t e l → why ≡ 0 → arrived t e l ≡ entered t e l
  unfolding arrived
  arrived-enters why p z = ap (arrived_as t e l) (sym p ∙ z)

  pub arrived-rejected : (why : ℕ) → why ≡ rejection t e l → (why ≡ 0 → ⊥) → arrived t e l ≡ rejected_by why e l
  unfolding arrived
  arrived-rejected why p n = ap (arrived_as t e l) (sym p) ∙ pick why n
    where
      pick : (w : ℕ) → (w ≡ 0 → ⊥) → arrived_as t e l w ≡ rejected_by w e l
      pick zero h = absurd (h refl)
      pick (suc w) h = refl

-- ---- a report of its own ----

pub told-staged : {b : Book} {room room' : List ℕ} {n n' : ℕ} (r s : Report) → s ≡ r → WellFormed b → Put room n s room' n'
    → Staged (reported r (entries_of b)) room n b room' n'
told-staged {b} r s q w p = staged-go (entries_of b) (entries_of b) q p (book-of-entries b w) (fits-64 b w)

-- the first stage asks for its room, and the next for what is left of it
pub first-room : {room : List ℕ} {n : ℕ} (r s : Report) (l : List Entry) (f : List Entry → Ran (List Entry) Report) → s ≡ r
    → Roomy room n (and_then (reported r l) f).records → Roomy room n (s ∷ [])
first-room r s l f q h = rw q (roomy-first (r ∷ []) (f l).records h)

-- ---- rejected ----

module _ (why : ℕ) (e : Entry) where
  abbrev both_go : List Entry → Ran (List Entry) Report
  both_go l = and_then (cut_quote 30 e.party false l) (cut_quote 30 e.party true)

  abbrev one_goes : List Entry → Ran (List Entry) Report
  one_goes = cut_quote 30 e.party e.sell

  rejected-both : (l : List Entry) → both_quotes why ≡ true → rejected_by why e l ≡ and_then (reported (rejected why e) l) both_go
  unfolding rejected_by
  rejected-both l q = rw q refl

  rejected-one : (l : List Entry) → both_quotes why ≡ false → rejected_by why e l ≡ and_then (reported (rejected why e) l) one_goes
  unfolding rejected_by
  rejected-one l q = rw q refl

  module _ {b : Book} {room : List ℕ} {n : ℕ} (a : Asks (rejected_by why e (entries_of b)) b room n) (s : Report) (is : s ≡ rejected why e) where
    pub reject-room : Roomy room n (s ∷ [])
    unfolding rejected_by
    reject-room = first-room (rejected why e) s (entries_of b) (cond (both_quotes why) both_go one_goes) is a.roomy

    module _ {room' : List ℕ} {n' : ℕ} (p : Put room n s room' n') where
      first : Staged (reported (rejected why e) (entries_of b)) room n b room' n'
      first = told-staged (rejected why e) s is a.well p

      module _ (q : both_quotes why ≡ true) where
        both-room : Roomy room' n' (both_go (entries_of b)).records
        both-room = staged-room first both_go (roomy-as (ap (λ (x : Ran (List Entry) Report). x.records) (rejected-both (entries_of b) q)) a.roomy)

        pub both_first : Asks (cut_quote 30 e.party false (entries_of b)) b room' n'
        both_first = record { well = a.well; roomy = roomy-first (cut_quote 30 e.party false (entries_of b)).records _ both-room }

        module _ {c : Book} {room'' : List ℕ} {n'' : ℕ} (x : Staged (cut_quote 30 e.party false (entries_of b)) room' n' c room'' n'') where
          pub both-second : Asks (cut_quote 30 e.party true (entries_of c)) c room'' n''
          both-second = record { well = x.well; roomy = staged-room x (cut_quote 30 e.party true) both-room }

          pub both-done : {d : Book} {last : List ℕ} {n''' : ℕ} → Staged (cut_quote 30 e.party true (entries_of c)) room'' n'' d last n'''
              → Staged (rejected_by why e (entries_of b)) room n d last n'''
          both-done y = staged-as (sym (rejected-both (entries_of b) q)) (staged-then first both_go (staged-then x (cut_quote 30 e.party true) y))

      module _ (q : both_quotes why ≡ false) where
        pub one-first : Asks (cut_quote 30 e.party e.sell (entries_of b)) b room' n'
        one-first = record {
          well = a.well;
          roomy = staged-room first one_goes (roomy-as (ap (λ (x : Ran (List Entry) Report). x.records) (rejected-one (entries_of b) q)) a.roomy);
        }

        pub one-done : {c : Book} {room'' : List ℕ} {n'' : ℕ} → Staged (cut_quote 30 e.party e.sell (entries_of b)) room' n' c room'' n''
            → Staged (rejected_by why e (entries_of b)) room n c room'' n''
        one-done x = staged-as (sym (rejected-one (entries_of b) q)) (staged-then first one_goes x)

-- ---- what concerns quotes only ----

pub of-quote : (e : Entry) (f : List Entry → Ran (List Entry) Report) (l : List Entry) → quote e ≡ true → f l ≡ of_quotes e f l
of-quote e f l q = rw q refl

pub of-order : (e : Entry) (f : List Entry → Ran (List Entry) Report) (l : List Entry) → quote e ≡ false → still l ≡ of_quotes e f l
of-order e f l q = rw q refl

-- ---- what is left rests ----

module _ {t : Terms} {e : Entry} {c : ℕ} {b : Book} {left : ℕ} {room : List ℕ} {n : ℕ} (a : Rests t e c b left room n) (x : Entry) (s : Report)
    (made : x ≡ as_posted e left (prices_before t e c)) (tells : s ≡ rested x) where
  is : x ≡ as_posted e left (prices_of t e (entries_of b))
  is = made ∙ ap (as_posted e left) (prices-known a.posts)

  pub rest-room : Roomy room n (s ∷ [])
  rest-room = rw (tells, is) a.roomy

  pub rest-done : {room' : List ℕ} {n' : ℕ} {after : Book} → Put room n s room' n' → after ≡ book_of (post x (entries_of b))
      → Staged (posted t e left (entries_of b)) room n after room' n'
  rest-done p q =
      let free : Space b = record { well = a.posts.well; space = a.space } in
      staged-go (entries_of b) (post (as_posted e left (prices_of t e (entries_of b))) (entries_of b)) (tells ∙ ap rested is) p
      (q ∙ ap (λ (y : Entry). book_of (post y (entries_of b))) is) (post-fits b (as_posted e left (prices_of t e (entries_of b))) free)

-- ---- what is left is cancelled ----

module _ (why : ℕ) (e : Entry) (left : ℕ) {b : Book} {room : List ℕ} {n : ℕ} (a : Asks (cancelled_rest why e left (entries_of b)) b room n) (x : Entry)
    (s : Report) (is : x ≡ with_quantity left e) (tells : s ≡ cancelled why x) where
  abbrev other_goes : List Entry → Ran (List Entry) Report
  other_goes = of_quotes e (cut_quote 29 e.party (not e.sell))

  says : s ≡ cancelled why (with_quantity left e)
  says = tells ∙ ap (cancelled why) is

  module _ {room' : List ℕ} {n' : ℕ} (p : Put room n s room' n') where
    first-told : Staged (reported (cancelled why (with_quantity left e)) (entries_of b)) room n b room' n'
    first-told = told-staged (cancelled why (with_quantity left e)) s says a.well p

    pub other-asks : quote e ≡ true → Asks (cut_quote 29 e.party (not e.sell) (entries_of b)) b room' n'
    other-asks q = record {
      well = a.well;
      roomy = roomy-as (ap (λ (y : Ran (List Entry) Report). y.records) (sym (of-quote e (cut_quote 29 e.party (not e.sell)) (entries_of b) q)))
          (staged-room first-told other_goes a.roomy);
    }

    pub other-done : {c : Book} {room'' : List ℕ} {n'' : ℕ} → quote e ≡ true → Staged (cut_quote 29 e.party (not e.sell) (entries_of b)) room' n' c room'' n''
        → Staged (cancelled_rest why e left (entries_of b)) room n c room'' n''
    other-done q y = staged-then first-told other_goes (staged-as (of-quote e (cut_quote 29 e.party (not e.sell)) (entries_of b) q) y)

    pub alone-done : quote e ≡ false → Staged (cancelled_rest why e left (entries_of b)) room n b room' n'
    alone-done q =
        staged-then first-told other_goes
        (staged-as (of-order e (cut_quote 29 e.party (not e.sell)) (entries_of b) q) (staged-none b room' n' a.well))

-- ---- the end ----

module _ (t : Terms) (e : Entry) where
  pub finished-none : (left why : ℕ) (l : List Entry) → left ≡ 0 → still l ≡ finished t e left why l
  finished-none zero why l q = refl
  finished-none (suc left) why l q = absurd (omega arith)

module _ {t : Terms} {e : Entry} {c : ℕ} {b : Book} {left : ℕ} {room : List ℕ} {n : ℕ} (a : Finishes t e c b left room n) where
  pub finish-none : left ≡ 0 → Staged (finished t e left (stop_for t e (entries_of b)) (entries_of b)) room n b room n
  finish-none q = staged-as (finished-none t e left (stop_for t e (entries_of b)) (entries_of b) q) (staged-none b room n a.posts.well)
