-- A SETTLED SERIES: what it is, in plain inequalities, and that only a move of the away price makes an MMRP take that rests in it.
-- Assumes nothing.
use Prim.Native.Nat.{ℕ, ◌≤◌}
use mathlib.Core.Path.{◌≡◌, refl, sym, ap, subst, ◌∙◌}
use mathlib.Core.Bool.{Bool, true, false, cond, ◌||◌}
use mathlib.Core.List.{List}
use Rattle.std.specs.Prelude.{Some}
use native.Mathlib.Omega.{arith}
use lib.Dec.{eqb}
use Rattle.prices.specs.declared.Prices.{Prices}
use Rattle.prices.specs.declared.Market.{Market}
use Rattle.prices.specs.Side.{away}
use Rattle.prices.specs.Aims.{aim_working, aims}
use Rattle.kinds.specs.Kinds.{enters, sliding, minds, dark, cancels_entry, cancels_quote, sets_away}
use Rattle.kinds.proofs.KindLaws.{no_such, stays_out}
use Rattle.prices.proofs.FrameLaws.{seen}
use Rattle.prices.proofs.StepLaws.{is-legal}
use Rattle.prices.proofs.AimLaws.{aim-within, aim-unminded}
use Rattle.lists.specs.Tests.{All}
use Rattle.lists.specs.Run.{Ran, still}
use Rattle.lists.proofs.Bools.{clash, cond_either}
use Rattle.lists.proofs.TestLaws.{all-at, all_of, all_append, any_false, false-any}
use Rattle.packing.specs.declared.message.Event.{Event}
use Rattle.packing.specs.declared.report.Report.{Report}
use Rattle.packing.specs.Codec.{unpack_of}
use Rattle.packing.specs.Message.{messages}
use Rattle.book.specs.declared.Entry.{Entry}
use Rattle.book.specs.declared.Pricing.TheVariants.{Fixed, Dark, Sliding}
use Rattle.book.specs.Shape.{entries_of}
use Rattle.book.specs.Look.{contra}
use Rattle.soundness_theory.proofs.Facts.{Sound}
use Rattle.soundness_theory.proofs.MarketFacts.{MarketFacts, sound-for}
use Rattle.telling.proofs.Staying.{NoTrade}
use Rattle.settling_theory.specs.Settle.{stirring, any_stirs, settled}
use Rattle.settling_theory.proofs.EaseRule.{EasedAs}
use Rattle.settling_theory.proofs.AtPeace.{AllAtPeace, settled-peace}
use Rattle.settling_theory.proofs.Calm.{Calm, calm-lessened, unstirred-calm, TakesNothing, calm-settles}
use Rattle.terms.specs.declared.Terms.{Terms}
use Rattle.terms.specs.Terms.{market_of}
use Rattle.arrival.specs.Post.{prices_of, as_posted}
use Rattle.series.specs.declared.Series.{Series}
use Rattle.series.specs.Series.{sound_series}
use Rattle.series.proofs.SeriesFacts.{SeriesFacts, series-facts}
use Rattle.handler.specs.Acts.{Accepted}
use Rattle.handler.specs.declared.Ask.{Ask}
use Rattle.handler.specs.Asked.{ask_of}
use Rattle.handler.specs.Accept.{comer, terms_after, done}
use Rattle.handler.specs.Handle.{Handled, handled}
use Rattle.handler.proofs.Ways.{Accepting, accepting}
use Rattle.handler.proofs.Passed.{accepted-arriving, accepted-as, answer-as}
use Rattle.handler.proofs.Accepted.{own-sound, accepted-sound}
use Rattle.handler.proofs.Demands.{own_of, settling_of, EachReport, reports-hold, demand-3}
use Rattle.handler.proofs.OwnPart.{own-rests, own-tells}

-- a series in which nothing stirs
abbrev pub Resting : Series → Type 0
Resting s = any_stirs (market_of s.terms) (entries_of s.book) ≡ false

sound-facts : (s : Series) → sound_series s ≡ true → MarketFacts (market_of s.terms) × Sound s.terms.m s.terms.given (entries_of s.book)
sound-facts s h =
    let f : SeriesFacts s = series-facts s h in
    sound-for (record { top = s.terms.given; market = f.market; entries = f.entries })

-- ---- what being settled means ----

module _ (s : Series) (message room : List ℕ) (zero : (handled s message room).answer.refusal ≡ 0)
    (opened : (handled s message room).answer.series.terms.phase ≡ 1) where
  -- EVERY ACCEPTED MESSAGE THAT LEAVES THE SERIES OPEN LEAVES IT SETTLED,
  pub rests-after : Resting (handled s message room).answer.series
  unfolding any_stirs
  rests-after =
      let w : Accepting s message room = accepting s message room zero in
      let l : List Entry = entries_of (handled s message room).answer.series.book in
      let k : Market = market_of (handled s message room).answer.series.terms in
      false-any (stirring k l) l
      (all_of (λ (x : Entry). stirring k l x ≡ false) l ((demand-3 s message room w.event w.read zero).unstirred opened))

  -- AND THAT MEANS: each entry that slides is at peace
  pub settled-means : AllAtPeace (market_of (handled s message room).answer.series.terms) (entries_of (handled s message room).answer.series.book)
  settled-means =
      let f = sound-facts (handled s message room).answer.series (accepted-sound s message room zero) in
      settled-peace f.0 f.1 rests-after

-- ---- only a move of the away price makes a resting MMRP take ----

-- the arriving entry rests at its aims: calm from the start
posted-calm : (t : Terms) (e : Entry) (left : ℕ) (r : List Entry) → e.limit ≤ 200000 → Calm (market_of t) (as_posted e left (prices_of t e r))
posted-calm t e left r low = record { eased = record { eased = eases (sliding e.kind) }; works = works }
  where
    k : Market
    k = market_of t

    aim : Prices
    aim = aims t.m e.kind e.sell e.limit (away (market_of t) e.sell) (contra e.sell r)

    limit : Prices
    limit = record { display = e.limit; working = e.limit }

    rigid : (w : ℕ) (b : Bool) → EasedAs (market_of t) e.sell w (cond b Dark Fixed)
    rigid w true = tt
    rigid w false = tt

    eases : (b : Bool)
        → EasedAs (market_of t) e.sell (cond b aim limit).working (cond b (Sliding (cond b aim limit).display) (cond (dark e.kind) Dark Fixed))
    eases true =
        record { eased = omega (arith, aim-within t.m e.kind e.sell e.limit (away k e.sell) (contra e.sell r) low) }
    eases false = rigid e.limit (dark e.kind)

    works : sliding e.kind ≡ true → minds e.kind ≡ false
        → seen e.sell (aim_working t.m e.kind e.sell e.limit (away (market_of t) e.sell) 0) ≤ seen e.sell (prices_of t e r).working
    works able mi =
        rw able
        (omega (arith, ap (seen e.sell) (aim-unminded t.m e.kind e.sell e.limit (away k e.sell) (contra e.sell r) 0 mi)))

module _ (s : Series) (a : Ask) (ok : Accepted s a) (resting : Resting s) where
  found-calm : All (Calm (market_of s.terms)) (entries_of s.book)
  unfolding any_stirs
  found-calm =
      let f = sound-facts s ok.sound in
      let l : List Entry = entries_of s.book in
      let k : Market = market_of s.terms in
      all_of (Calm k) l
      (λ i x at. unstirred-calm f.0 f.1 i x at (all-at (λ (z : Entry). stirring k l z ≡ false) l i x (any_false (stirring k l) l resting) at))

  -- whatever the message, its own part leaves calm entries, before the away prices that it found
  own-calm : All (Calm (market_of s.terms)) (own_of s a).final
  own-calm =
      own-rests s.terms a (entries_of s.book) (Calm (market_of s.terms)) (λ q x c. calm-lessened q x c)
      (λ q left r. posted-calm s.terms (comer s.terms.given a) left r
      (omega (arith, (is-legal s.terms.m a.price (accepted-arriving s a ok q).limit).high)))
      found-calm

  module _ (stays : market_of (terms_after s.terms a) ≡ market_of s.terms) where
    -- SO SETTLING BEHIND IT EASES NOTHING AND MAKES NO TRADE, and at no step of it is anybody marketable
    own-takes : TakesNothing (market_of (terms_after s.terms a)) (own_of s a).final
    own-takes =
        let f = sound-for (own-sound s a ok) in
        calm-settles f.0 f.1 (subst (λ (k : Market). All (Calm k) (own_of s a).final) (sym stays) own-calm)

    settling-no-trade : All NoTrade (settling_of s a).records
    unfolding still
    settling-no-trade =
        cond_either (λ (x : Ran (List Entry) Report). All NoTrade x.records) (eqb (terms_after s.terms a).phase 1)
        (settled (market_of (terms_after s.terms a)) (own_of s a).final) (still (own_of s a).final) (λ _. own-takes.no-trade) (λ _. tt)

    -- and a message that does not enter has no trade at all
    done-no-trade : enters a.kind ≡ false → All NoTrade (done s.terms a (entries_of s.book)).records
    unfolding done
    done-no-trade out =
        all_append NoTrade (own_of s a).records (settling_of s a).records
        (own-tells s.terms a (entries_of s.book) NoTrade (λ q. clash q out) refl (λ why own x. refl))
        settling-no-trade

-- only one kind of message moves the away prices
market-stays : (t : Terms) (a : Ask) → sets_away a.kind ≡ false → market_of (terms_after t a) ≡ market_of t
unfolding terms_after
market-stays t a q = rw q refl

-- a cancellation does not enter
cancels-out : (n : ℕ) → (cancels_entry n || cancels_quote n) ≡ true → enters n ≡ false
cancels-out n q = by (enters n) refl
  where
    by : (b : Bool) → enters n ≡ b → b ≡ false
    by true h = clash q (rw (no_such enters 7 n (stays_out 7 refl) h, no_such enters 8 n (stays_out 8 refl) h) refl)
    by false h = refl

-- ---- the same, of what is answered ----

-- of an answer h to what a asks of the series s: settling behind the message's own part makes no trade and eases nothing, and no entry is marketable at any
-- step of it
pub record SettlesCalmly (s : Series) (a : Ask) (h : Handled) : Type 0 where
  pub no-trade : All NoTrade (settling_of s a).records
  pub takes-nothing : TakesNothing (market_of h.answer.series.terms) (own_of s a).final

module _ (s : Series) (message room : List ℕ) (e : Event) (read : unpack_of messages message ≡ Some e)
    (zero : (handled s message room).answer.refusal ≡ 0) where
  -- the away prices stay: a message of any other kind leaves them as they were
  pub kind-stays : sets_away (ask_of e).kind ≡ false → market_of (handled s message room).answer.series.terms ≡ market_of s.terms
  kind-stays q =
      ap (λ (h : Handled). market_of h.answer.series.terms) (answer-as s message room e read zero) ∙ market-stays s.terms (ask_of e) q

  found-stays : market_of (handled s message room).answer.series.terms ≡ market_of s.terms
      → market_of (terms_after s.terms (ask_of e)) ≡ market_of s.terms
  found-stays stays = sym (ap (λ (h : Handled). market_of h.answer.series.terms) (answer-as s message room e read zero)) ∙ stays

  -- ONCE IT RESTS, ONLY A MOVE OF THE AWAY PRICE MAKES AN MMRP MARKETABLE: behind any accepted message that leaves the away prices as they were, settling takes
  -- nothing
  pub settling-takes-nothing : Resting s → market_of (handled s message room).answer.series.terms ≡ market_of s.terms
      → SettlesCalmly s (ask_of e) (handled s message room)
  settling-takes-nothing resting stays =
      let ok : Accepted s (ask_of e) = accepted-as s message room e read zero in
      subst (SettlesCalmly s (ask_of e)) (sym (answer-as s message room e read zero)) (record {
        no-trade = settling-no-trade s (ask_of e) ok resting (found-stays stays);
        takes-nothing = own-takes s (ask_of e) ok resting (found-stays stays);
      })

  -- and such a message that brings no entry has no trade among its reports at all
  pub stays-takes-nothing : Resting s → enters (ask_of e).kind ≡ false
      → market_of (handled s message room).answer.series.terms ≡ market_of s.terms
      → EachReport NoTrade (handled s message room)
  stays-takes-nothing resting out stays =
      reports-hold s message room e read zero NoTrade
      (done-no-trade s (ask_of e) (accepted-as s message room e read zero) resting (found-stays stays) out)

  cancel-stays : (cancels_entry (ask_of e).kind || cancels_quote (ask_of e).kind) ≡ true
      → market_of (handled s message room).answer.series.terms ≡ market_of s.terms
  cancel-stays q = kind-stays (no_such (λ (n : ℕ). cancels_entry n || cancels_quote n) 9 (ask_of e).kind refl q)

  -- NO CANCEL MAKES AN MMRP MARKETABLE: nobody is, at any step of settling behind it
  pub cancel-settles-calmly : Resting s → (cancels_entry (ask_of e).kind || cancels_quote (ask_of e).kind) ≡ true
      → SettlesCalmly s (ask_of e) (handled s message room)
  cancel-settles-calmly resting q = settling-takes-nothing resting (cancel-stays q)

  -- NO CANCEL MAKES AN MMRP TAKE: among the reports of an accepted cancellation, of an entry or of a quote, there is no trade
  pub cancel-takes-nothing : Resting s → (cancels_entry (ask_of e).kind || cancels_quote (ask_of e).kind) ≡ true
      → EachReport NoTrade (handled s message room)
  cancel-takes-nothing resting q =
      stays-takes-nothing resting (cancels-out (ask_of e).kind q)
      (cancel-stays q)
