-- THE THEOREM OF ARRIVAL. What the handler has seen to before a quote or an order arrives (specs/Asks) is enough for all of the following: the entries that
-- rest afterwards are sound, of one more number given; they are at most 64; every report's fields fit; and there are at most three reports more than entries
-- rested.
-- Assumes nothing.
use Prim.Native.Nat.{ℕ, zero, suc, ◌+◌, ◌≤◌, ◌<◌}
use mathlib.Core.Path.{◌≡◌, refl, sym}
use mathlib.Core.Bool.{Bool, true, false, cond, not}
use mathlib.Core.List.{List, [], ◌∷◌}
use native.Mathlib.Omega.{arith}
use lib.ListN.{length, length-append}
use Rattle.prices.specs.declared.Prices.{Prices}
use Rattle.prices.proofs.StepLaws.{Legal, is-legal}
use Rattle.lists.specs.Tests.{All}
use Rattle.lists.specs.Run.{Ran, still, and_then}
use Rattle.lists.proofs.Bools.{clash, cond_either}
use Rattle.lists.proofs.PlaceLaws.{length-snoc}
use Rattle.lists.proofs.TestLaws.{all-at, all_of}
use Rattle.packing.specs.declared.report.Report.{Report}
use Rattle.packing.specs.Room.{AllPack}
use Rattle.packing.proofs.ReportLaws.{rejected-packs, cancelled-packs}
use Rattle.book.specs.declared.Entry.{Entry}
use Rattle.book.specs.Entries.{quote, last_number, with_quantity}
use Rattle.book.specs.Change.{post}
use Rattle.soundness_theory.specs.Sound.{sound_entries}
use Rattle.soundness_theory.proofs.Facts.{EntryFacts, Clear, PairFacts, Sound}
use Rattle.soundness_theory.proofs.SoundFacts.{sound-is}
use Rattle.soundness_theory.proofs.KeepLaws.{here-facts, sound-post, sound-higher}
use Rattle.telling.specs.Tell.{rejected, rested, cancelled}
use Rattle.soundness_theory.proofs.MarketFacts.{MarketFacts, sound-for}
use Rattle.telling.proofs.PackLaws.{pack-append}
use Rattle.terms.specs.declared.Terms.{Terms}
use Rattle.terms.specs.Terms.{market_of}
use Rattle.arrival.specs.Cancel.{cut_quote}
use Rattle.arrival.specs.Take.{Taking, took}
use Rattle.arrival.specs.Post.{prices_of, as_posted, stop_for}
use Rattle.arrival.specs.Arrive.{reported, of_quotes, both_quotes, rejected_by, replaced, book_left, cancelled_rest, finished, entered}
use Rattle.arrival.specs.Arrive.{rejection, arrived_as, arrived}
use Rattle.arrival.specs.Asks.{Arriving}
use Rattle.arrival.proofs.ReasonLaws.{stop-among, rejection-among}
use Rattle.arrival.proofs.TakeLaws.{took-few, took-length, took-left, took-all, took-sound, took-packs, took-clears}
use Rattle.arrival.proofs.CutLaws.{OtherThan, maker-of, quote-few, quote-length, quote-sound, quote-packs, quote-gone}
use Rattle.arrival.proofs.PostLaws.{bound-high, Fits, fits, rested-fits}

-- what arrival gives
pub record Arrived (t : Terms) (e : Entry) (l : List Entry) : Type 0 where
  -- "accepted messages give only sound states": the number e has is given now
  pub sound : sound_entries t.m (t.given + 1) (arrived t e l).final ≡ true
  pub size : length (arrived t e l).final ≤ 64
  pub fit : AllPack (arrived t e l).records
  pub few : length (arrived t e l).records ≤ length l + 3

-- ---- a stage, and one behind another ----

pub record Stage (m top most reports : ℕ) (x : Ran (List Entry) Report) : Type 0 where
  pub sound : Sound m top x.final
  pub size : length x.final ≤ most
  pub few : length x.records ≤ reports
  pub fit : AllPack x.records

pub stage_then : {m top top' most most' n k : ℕ} {x : Ran (List Entry) Report} (f : List Entry → Ran (List Entry) Report)
    → Stage m top most n x → Stage m top' most' k (f x.final) → Stage m top' most' (n + k) (and_then x f)
stage_then {x = x} f a b = record {
  sound = b.sound;
  size = b.size;
  few = omega (arith, a.few, b.few, length-append x.records (f x.final).records);
  fit = pack-append x.records (f x.final).records a.fit b.fit;
}

module _ {m top most : ℕ} (l : List Entry) (so : Sound m top l) (size : length l ≤ most) where
  stage-still : (n : ℕ) → Stage m top most n (still l)
  unfolding still
  stage-still n = record { sound = so; size = size; few = omega arith; fit = tt }

  stage-cut : (why party : ℕ) (s : Bool) → why ≤ 31 → top ≤ last_number → Stage m top most 1 (cut_quote why party s l)
  stage-cut why party s h low = record {
    sound = quote-sound why party s l so;
    size = omega (arith, quote-length why party s l);
    few = quote-few why party s l;
    fit = quote-packs why party s l so h low;
  }

-- ---- one arrival ----

-- behind the quote replaced: trades, and then the end
abbrev pub goes_on : Terms → Entry → List Entry → Ran (List Entry) Report
goes_on t e r =
    and_then (record { final = (took (market_of t) e r).final.book; records = (took (market_of t) e r).records })
    (finished t e (took (market_of t) e r).final.left (stop_for t e (took (market_of t) e r).final.book))

module _ (t : Terms) (e : Entry) (l : List Entry) (a : Arriving t e l) where
  facts : MarketFacts (market_of t) × Sound t.m t.given l
  facts = sound-for (record { top = t.given; market = a.market; entries = a.entries })

  limit : Legal t.m e.limit
  limit = is-legal t.m e.limit a.limit

  -- ---- the quote replaced ----

  -- what goes with it is reported, one for one
  replaced-length : length (replaced e l).final + length (replaced e l).records ≡ length l
  unfolding still
  replaced-length =
      cond_either (λ (x : Ran (List Entry) Report). length x.final + length x.records ≡ length l) (quote e)
      (cut_quote 27 e.party e.sell l) (still l) (λ q. quote-length 27 e.party e.sell l) (λ q. omega arith)

  pub replaced-stage : Stage t.m t.given (length l) 1 (replaced e l)
  replaced-stage =
      cond_either (Stage t.m t.given (length l) 1) (quote e) (cut_quote 27 e.party e.sell l) (still l)
      (λ q. stage-cut l facts.1 (omega arith) 27 e.party e.sell (omega arith) (omega (arith, a.fresh)))
      (λ q. stage-still l facts.1 (omega arith) 1)

  -- 64 at most rested, therefore
  full : length l ≤ 64
  full = omega (arith, replaced-length, replaced-stage.few, a.space)

  -- of a quote's maker and side none is left
  replaced-gone : quote e ≡ true → All (OtherThan e.party e.sell) (replaced e l).final
  replaced-gone q = rw q (quote-gone 27 e.party e.sell l facts.1)

  -- ---- what is left, in a book that it has taken from ----

  module _ (r : List Entry) (so : Sound t.m t.given r) (space : length r < 64) (gone : quote e ≡ true → All (OtherThan e.party e.sell) r) where
    numbered : Sound t.m (t.given + 1) r
    numbered = sound-higher so (t.given + 1) (omega arith)

    -- its number is above all; and for a quote, none of its maker and side is left
    new-facts : (left : ℕ) (p : Prices) → 1 ≤ left → left ≤ e.quantity → Fits t.m left e r p → EntryFacts t.m (t.given + 1) (as_posted e left p)
    new-facts left p some most f = record {
      counted = omega (arith, a.number);
      given = omega (arith, a.number);
      entering = a.entering;
      party_low = a.party_low;
      party_high = a.party_high;
      maker = a.maker;
      limit = limit;
      some = some;
      most = omega (arith, a.most);
      works = f.works;
      prices = f.prices;
    }

    new-pairs : (left : ℕ) (p : Prices) → Fits t.m left e r p → All (PairFacts (as_posted e left p)) r
    new-pairs left p f = all_of (PairFacts (as_posted e left p)) r (λ i x at. record {
      other = λ q. omega (arith, a.number, q, (here-facts so i x at).given);
      one-quote = λ u v same side. clash (maker-of e.party e.sell x (record { quotes = v; party = sym same; side = sym side }))
          (all-at (OtherThan e.party e.sell) r i x (gone u) at);
      apart = all-at (Clear (as_posted e left p)) r i x f.clear at;
    })

    post-stage : (left : ℕ) (p : Prices) → 1 ≤ left → left ≤ e.quantity → Fits t.m left e r p
        → Stage t.m (t.given + 1) 64 2 (record { final = post (as_posted e left p) r; records = rested (as_posted e left p) ∷ [] })
    post-stage left p some most f = record {
      sound = sound-post numbered (as_posted e left p) (new-facts left p some most f) (new-pairs left p f);
      size = omega (arith, length-snoc r (as_posted e left p));
      few = omega arith;
      fit = (rested-fits (as_posted e left p) (omega (arith, a.fresh)) (new-facts left p some most f), tt);
    }

    rest-stage : (why left : ℕ) → why ≤ 31 → left ≤ e.quantity → Stage t.m (t.given + 1) 64 2 (cancelled_rest why e left r)
    rest-stage why left h most =
        stage_then {top = t.given + 1} {most = 64} {n = 1} {x = reported (cancelled why (with_quantity left e)) r}
        (of_quotes e (cut_quote 29 e.party (not e.sell)))
        (record {
          sound = numbered;
          size = omega arith;
          few = omega arith;
          fit = (
            cancelled-packs e.sell e.party e.number left (omega (arith, a.party_high)) (omega (arith, a.number, a.fresh)) (omega (arith, a.most))
                why e.limit (omega arith) (omega (arith, limit.high)),
            tt,
          );
        })
        (cond_either (Stage t.m (t.given + 1) 64 1) (quote e) (cut_quote 29 e.party (not e.sell) r) (still r)
        (λ q. stage-cut r numbered (omega arith) 29 e.party (not e.sell) (omega arith) (omega (arith, a.fresh)))
        (λ q. stage-still r numbered (omega arith) 1))

    finished-stage : (left why : ℕ) → left ≤ e.quantity → why ≤ 31 → (1 ≤ left → why ≡ 0 → Fits t.m left e r (prices_of t e r))
        → Stage t.m (t.given + 1) 64 2 (finished t e left why r)
    finished-stage zero why most h f = stage-still r numbered (omega arith) 2
    finished-stage (suc left) zero most h f = post-stage (suc left) (prices_of t e r) (omega arith) most (f (omega arith) refl)
    finished-stage (suc left) (suc why) most h f = rest-stage (suc why) (suc left) h most

  -- ---- trades, and then the end ----

  trades-stage : (r : List Entry) → Sound t.m t.given r → length r < 64 → (quote e ≡ true → All (OtherThan e.party e.sell) r)
      → Stage t.m (t.given + 1) 64 (length r + 2) (goes_on t e r)
  trades-stage r so space gone =
      let x : Ran Taking Report = took (market_of t) e r in
      let hold : Sound t.m t.given x.final.book = took-sound (market_of t) e r so in
      stage_then {top = t.given} {most = 63} {n = length r} {x = record { final = x.final.book; records = x.records }}
      (finished t e x.final.left (stop_for t e x.final.book))
      (record {
        sound = hold;
        size = omega (arith, took-length (market_of t) e r);
        few = took-few (market_of t) e r;
        fit = took-packs (market_of t) e r so (omega (arith, a.fresh)) a.party_high (omega (arith, a.number, a.fresh));
      })
      (finished-stage x.final.book hold (omega (arith, took-length (market_of t) e r))
      (λ q. took-all (market_of t) e r (OtherThan e.party e.sell) (λ n y h k. k) (gone q))
      x.final.left (stop_for t e x.final.book) (took-left (market_of t) e r) (omega (arith, (stop-among t e x.final.book).most))
      (λ some h. fits t e x.final.book x.final.left t.given facts.0 hold limit
      (λ mi. took-clears (market_of t) e r so (bound-high (market_of t) e limit (facts.0.legal e.sell)) mi some) h))

  entered-stage : Stage t.m (t.given + 1) 64 (length l + 3) (entered t e l)
  unfolding entered
  entered-stage =
      let r : List Entry = (replaced e l).final in
      let b : Stage t.m (t.given + 1) 64 (length r + 2) (goes_on t e r) = trades-stage r replaced-stage.sound a.space replaced-gone in
      record {
        sound = b.sound;
        size = b.size;
        few = omega (arith, b.few, replaced-length, length-append (replaced e l).records (goes_on t e r).records);
        fit = pack-append (replaced e l).records (goes_on t e r).records replaced-stage.fit b.fit;
      }

  -- ---- rejected ----

  rejected-stage : (why : ℕ) → why ≤ 31 → Stage t.m (t.given + 1) 64 (length l + 3) (rejected_by why e l)
  unfolding rejected_by
  rejected-stage why h = pick (both_quotes why)
    where
      so : Sound t.m (t.given + 1) l
      so = sound-higher facts.1 (t.given + 1) (omega arith)

      low : t.given + 1 ≤ last_number
      low = omega (arith, a.fresh)

      first : Stage t.m (t.given + 1) 64 1 (reported (rejected why e) l)
      first = record {
        sound = so;
        size = full;
        few = omega arith;
        fit = (
          rejected-packs e.sell e.party e.number e.quantity (omega (arith, a.party_high)) (omega (arith, a.number)) (omega (arith, a.most))
              why e.limit (omega arith) (omega (arith, limit.high)),
          tt,
        );
      }

      more : {n : ℕ} {x : Ran (List Entry) Report} → Stage t.m (t.given + 1) 64 n x → n ≤ length l + 3 → Stage t.m (t.given + 1) 64 (length l + 3) x
      more s k = record { sound = s.sound; size = s.size; few = omega (arith, s.few); fit = s.fit }

      both : Stage t.m (t.given + 1) 64 2 (and_then (cut_quote 30 e.party false l) (cut_quote 30 e.party true))
      both =
          let c : Stage t.m (t.given + 1) 64 1 (cut_quote 30 e.party false l) = stage-cut l so full 30 e.party false (omega arith) low in
          stage_then (cut_quote 30 e.party true) c
          (stage-cut (cut_quote 30 e.party false l).final c.sound c.size 30 e.party true (omega arith) low)

      pick : (b : Bool) → Stage t.m (t.given + 1) 64 (length l + 3)
          (and_then (reported (rejected why e) l)
          (cond b (λ (r : List Entry). and_then (cut_quote 30 e.party false r) (cut_quote 30 e.party true)) (cut_quote 30 e.party e.sell)))
      pick true = more (stage_then (λ (r : List Entry). and_then (cut_quote 30 e.party false r) (cut_quote 30 e.party true)) first both) (omega arith)
      pick false =
          more (stage_then (cut_quote 30 e.party e.sell) first (stage-cut l so full 30 e.party e.sell (omega arith) low)) (omega arith)

  -- ---- either ----

  pub arrived-stage : Stage t.m (t.given + 1) 64 (length l + 3) (arrived t e l)
  unfolding arrived
  arrived-stage = go (rejection t e l) (rejection-among t e l).most
    where
      go : (why : ℕ) → why ≤ 26 → Stage t.m (t.given + 1) 64 (length l + 3) (arrived_as t e l why)
      go zero h = entered-stage
      go (suc why) h = rejected-stage (suc why) (omega arith)

-- the book in which what is left would post is sound
pub left-sound : {t : Terms} {e : Entry} {l : List Entry} → Arriving t e l → Sound t.m t.given (book_left t e l)
left-sound {t} {e} {l} a = took-sound (market_of t) e (replaced e l).final (replaced-stage t e l a).sound

-- the reports of an arrival that is not rejected are at most 67, and fit, whether it is or not
pub entered-few : {t : Terms} {e : Entry} {l : List Entry} → Arriving t e l → length (entered t e l).records ≤ 67
entered-few {t} {e} {l} a = omega (arith, (entered-stage t e l a).few, full t e l a)

pub entered-fit : {t : Terms} {e : Entry} {l : List Entry} → Arriving t e l → AllPack (entered t e l).records
entered-fit {t} {e} {l} a = (entered-stage t e l a).fit

-- THE THEOREM
pub arrives : {t : Terms} {e : Entry} {l : List Entry} → Arriving t e l → Arrived t e l
arrives {t} {e} {l} a =
    let s : Stage t.m (t.given + 1) 64 (length l + 3) (arrived t e l) = arrived-stage t e l a in
    record { sound = sound-is t.m (t.given + 1) s.sound; size = s.size; fit = s.fit; few = s.few }

-- the book was no fuller than 64 entries, so that there are at most 67 reports
pub at-most-67 : {t : Terms} {e : Entry} {l : List Entry} → Arriving t e l → length (arrived t e l).records ≤ 67
at-most-67 {t} {e} {l} a = omega (arith, (arrives a).few, full t e l a)

-- with settling's 2,208 these are within 2,280
pub own-few : {t : Terms} {e : Entry} {l : List Entry} → Arriving t e l → length (arrived t e l).records ≤ 72
own-few a = omega (arith, at-most-67 a)
