-- What it tells that a message met no refusal: the tests that it passed are what arrival asks of a quote or an order, and they keep the series' numbers legal.
-- Assumes nothing.
use Prim.Native.Nat.{ℕ, suc, ◌+◌, ◌≤◌, ◌<◌}
use mathlib.Core.Path.{◌≡◌, refl, sym, subst, ◌∙◌}
use mathlib.Core.Bool.{Bool, true, false, cond, not, ◌&&◌}
use mathlib.Core.List.{List}
use Rattle.std.specs.Prelude.{Some}
use native.Mathlib.Omega.{arith}
use lib.Dec.{eqb, leb}
use lib.ListN.{length}
use borrow.Author.Tests.{leb-true, leb-false, eqb-true, not-false}
use Rattle.prices.specs.Step.{legal, none_or_legal}
use Rattle.lists.specs.Tests.{any}
use Rattle.lists.specs.Choose.{Found, nowhere, found}
use Rattle.lists.specs.Run.{still}
use Rattle.lists.proofs.Bools.{clash, and_left, and_right, cond-zero, cond_either}
use Rattle.lists.proofs.TestLaws.{all_of, false-any}
use Rattle.lists.proofs.ChooseLaws.{Tells}
use Rattle.packing.specs.declared.message.Event.{Event}
use Rattle.packing.specs.declared.message.Event.TheVariants.{Plain, Mmlo, Mmalo, Mmrp, Displayed, Dark, CancelEntry}
use Rattle.packing.specs.declared.message.Event.TheVariants.{CancelQuote, Away, Underlying, Phase, Enable}
use Rattle.packing.specs.Codec.{unpack_of}
use Rattle.packing.specs.Message.{messages}
use Rattle.packing.specs.Room.{room_size}
use Rattle.book.specs.declared.Entry.{Entry}
use Rattle.book.specs.Entries.{quote_of, last_number}
use Rattle.book.specs.Shape.{entries_of}
use Rattle.book.specs.Look.{quote_in}
use Rattle.book.proofs.LookLaws.{quote-tells}
use Rattle.soundness_theory.specs.Sound.{between}
use Rattle.soundness_theory.proofs.SoundFacts.{between-both}
use Rattle.arrival.specs.Cancel.{cut, cut_quote}
use Rattle.arrival.specs.Arrive.{replaced}
use Rattle.arrival.specs.Asks.{Arriving}
use Rattle.arrival.proofs.CutLaws.{quote-length}
use Rattle.series.specs.declared.Series.{Series}
use Rattle.series.specs.Series.{sound_series}
use Rattle.series.specs.SoundSeries.{NoneOrLegal, LegalTerms}
use Rattle.series.proofs.TermsLaws.{if-any-price}
use Rattle.series.proofs.SeriesFacts.{SeriesFacts, series-facts}
use Rattle.handler.specs.Acts.{Accepted}
use Rattle.handler.specs.declared.Ask.{Ask}
use Rattle.handler.specs.Asked.{ask_of}
use Rattle.kinds.specs.Kinds.{enters, quotes, makers, carries, sets_away, sets_phase, sets_underlying}
use Rattle.kinds.proofs.KindLaws.{enters-carries, quotes-makers, stays_out}
use Rattle.handler.specs.Refuse.{bad_party, bad_price, bad_quantity, not_open, is_blocked, is_full, is_spent, is_missing, refusal_of}
use Rattle.handler.specs.Accept.{comer, terms_after}
use Rattle.handler.specs.Handle.{Handled, accepted, handled}
use Rattle.handler.proofs.Ways.{Accepting, accepting, handled-accepted}
use Rattle.terms.specs.Terms.{top_underlying}

-- ---- the tests that were passed ----

pub record Passed (s : Series) (a : Ask) : Type 0 where
  pub party : bad_party a ≡ false
  pub price : bad_price s.terms.m a ≡ false
  pub quantity : bad_quantity a ≡ false
  pub opened : not_open s.terms.phase a ≡ false
  pub free : is_blocked s.blocked a ≡ false
  pub space : is_full (entries_of s.book) a ≡ false
  pub number : is_spent s.terms.given a ≡ false
  pub there : is_missing (entries_of s.book) a ≡ false

pub passed : (s : Series) (a : Ask) → refusal_of s a ≡ 0 → Passed s a
unfolding refusal_of
passed s a h =
    let l : List Entry = entries_of s.book in
    let x₈ : ℕ = cond (is_missing l a) 8 0 in
    let x₉ : ℕ = cond (is_spent s.terms.given a) 9 x₈ in
    let x₇ : ℕ = cond (is_full l a) 7 x₉ in
    let x₆ : ℕ = cond (is_blocked s.blocked a) 6 x₇ in
    let x₅ : ℕ = cond (not_open s.terms.phase a) 5 x₆ in
    let x₄ : ℕ = cond (bad_quantity a) 4 x₅ in
    let x₃ : ℕ = cond (bad_price s.terms.m a) 3 x₄ in
    let p₂ = cond-zero (bad_party a) 2 x₃ (omega arith) h in
    let p₃ = cond-zero (bad_price s.terms.m a) 3 x₄ (omega arith) p₂.1 in
    let p₄ = cond-zero (bad_quantity a) 4 x₅ (omega arith) p₃.1 in
    let p₅ = cond-zero (not_open s.terms.phase a) 5 x₆ (omega arith) p₄.1 in
    let p₆ = cond-zero (is_blocked s.blocked a) 6 x₇ (omega arith) p₅.1 in
    let p₇ = cond-zero (is_full l a) 7 x₉ (omega arith) p₆.1 in
    let p₉ = cond-zero (is_spent s.terms.given a) 9 x₈ (omega arith) p₇.1 in
    let p₈ = cond-zero (is_missing l a) 8 0 (omega arith) p₉.1 in
    record { party = p₂.0; price = p₃.0; quantity = p₄.0; opened = p₅.0; free = p₆.0; space = p₇.0; number = p₉.0; there = p₈.0 }

-- what an event asks is of kinds 1 to 12
pub ask-kind : (e : Event) → (1 ≤ (ask_of e).kind) × ((ask_of e).kind ≤ 12)
ask-kind (Plain t) = omega arith
ask-kind (Mmlo t) = omega arith
ask-kind (Mmalo t) = omega arith
ask-kind (Mmrp t) = omega arith
ask-kind (Displayed t) = omega arith
ask-kind (Dark t) = omega arith
ask-kind (CancelEntry party entry) = omega arith
ask-kind (CancelQuote party sell) = omega arith
ask-kind (Away bid offer) = omega arith
ask-kind (Underlying price) = omega arith
ask-kind (Phase phase) = omega arith
ask-kind (Enable party) = omega arith

-- what a sound series refuses by no test is accepted
pub accepts : (s : Series) (e : Event) → sound_series s ≡ true → refusal_of s (ask_of e) ≡ 0 → Accepted s (ask_of e)
accepts s e h k = record { sound = h; kind = (ask-kind e).0; passes = k }

-- a message that is answered with 0 is accepted, and that is the answer
module _ (s : Series) (message room : List ℕ) (e : Event) (read : unpack_of messages message ≡ Some e)
    (zero : (handled s message room).answer.refusal ≡ 0) where
  pub accepted-as : Accepted s (ask_of e)
  accepted-as =
      let w : Accepting s message room = accepting s message room zero in
      let same : w.event ≡ e = (let z : Some w.event ≡ Some e = sym w.read ∙ read in cc) in
      subst (λ (x : Event). Accepted s (ask_of x)) same (accepts s w.event w.sound w.passes)

  pub answer-as : handled s message room ≡ accepted s (ask_of e) room
  answer-as = handled-accepted s message room (accepting s message room zero).space accepted-as.sound e read accepted-as.passes

  -- so what holds of every answer to an accepted message holds of what is answered
  pub of-accepted : (P : Handled → Type 0) → (Accepted s (ask_of e) → room_size ≤ length room → P (accepted s (ask_of e) room)) → P (handled s message room)
  of-accepted P holds = subst P (sym answer-as) (holds accepted-as (accepting s message room zero).space)

-- ---- what the tests say ----

pub within : (low high x : ℕ) → not (between low high x) ≡ false → (low ≤ x) × (x ≤ high)
within low high x h = between-both low high x (not-false (between low high x) h)

-- where the quote that is to be replaced rests, cutting it leaves one entry less
cut-one : (why party : ℕ) (side : Bool) (l : List Entry) → any (quote_of party side) l ≡ true → length l ≡ suc (length (cut_quote why party side l).final)
unfolding any cut still
cut-one why party side l h = at (quote_in party side l) (quote-tells l party side) (quote-length why party side l)
  where
    at : (f : Found Entry) → Tells (quote_of party side) (λ _. 0) l f → length (cut why l f).final + length (cut why l f).records ≡ length l
        → length l ≡ suc (length (cut why l f).final)
    at nowhere c k = clash h (false-any (quote_of party side) l (all_of (λ (x : Entry). quote_of party side x ≡ false) l (λ i x z. c.nobody i x z)))
    at (found i e) c k = omega arith

-- "64 entries rest, not counting the quote this one replaces"
space-left : (given : ℕ) (l : List Entry) (a : Ask) → length l ≤ 64 → enters a.kind ≡ true → is_full l a ≡ false
    → length (replaced (comer given a) l).final < 64
unfolding still
space-left given l a size q h = by (leb 64 (length l)) refl (quotes a.kind) refl (any (quote_of a.party a.sell) l) refl (rw q at h)
  where
    by : (full : Bool) → leb 64 (length l) ≡ full → (b : Bool) → quotes a.kind ≡ b → (c : Bool) → any (quote_of a.party a.sell) l ≡ c
        → (full && not (b && c)) ≡ false
        → length (cond b (cut_quote 27 a.party a.sell l) (still l)).final < 64
    by full u true v true w g = omega (arith, cut-one 27 a.party a.sell l w)
    by true u true v false w g = clash refl g
    by true u false v c w g = clash refl g
    by false u true v false w g = omega (arith, leb-false 64 (length l) u, quote-length 27 a.party a.sell l)
    by false u false v c w g = omega (arith, leb-false 64 (length l) u)

pub any-party : (a : Ask) → carries a.kind ≡ true → bad_party a ≡ false → (1 ≤ a.party) × (a.party ≤ 99)
any-party a q h = by (makers a.kind) (rw q at h)
  where
    by : (b : Bool) → cond b (not (between 1 16 a.party)) (not (between 1 99 a.party)) ≡ false → (1 ≤ a.party) × (a.party ≤ 99)
    by true g = let k = within 1 16 a.party g in (k.0, omega (arith, k.1))
    by false g = within 1 99 a.party g

-- "kinds 1-4, 8, 12: outside 1-16"
pub maker-within : (a : Ask) → makers a.kind ≡ true → bad_party a ≡ false → (1 ≤ a.party) × (a.party ≤ 16)
maker-within a q h = within 1 16 a.party (rw q at h)

-- ---- an accepted message ----

module _ (s : Series) (a : Ask) (ok : Accepted s a) where
  pub facts : SeriesFacts s
  facts = series-facts s ok.sound

  pub tests : Passed s a
  tests = passed s a ok.passes

  -- quotes and orders enter an open series only
  pub enters-open : enters a.kind ≡ true → s.terms.phase ≡ 1
  enters-open q = eqb-true s.terms.phase 1 (not-false (eqb s.terms.phase 1) (rw q at tests.opened))

  pub enters-fresh : enters a.kind ≡ true → s.terms.given < last_number
  enters-fresh q = leb-false last_number s.terms.given (rw q at tests.number)

  -- THE TESTS THAT WERE PASSED ARE WHAT ARRIVAL ASKS
  pub accepted-arriving : enters a.kind ≡ true → Arriving s.terms (comer s.terms.given a) (entries_of s.book)
  accepted-arriving q =
      let party = any-party a (enters-carries a.kind q) tests.party in
      let quantity = within 1 99999 a.quantity (rw q at tests.quantity) in
      record {
        market = facts.market;
        entries = facts.entries;
        number = refl;
        fresh = enters-fresh q;
        entering = q;
        party_low = party.0;
        party_high = party.1;
        maker = λ r. (maker-within a (quotes-makers a.kind r) tests.party).1;
        limit = not-false (legal s.terms.m a.price) (rw q at tests.price);
        some = quantity.0;
        most = quantity.1;
        space = space-left s.terms.given (entries_of s.book) a facts.size q tests.space;
      }

  -- the series' numbers stay legal
  pub terms-legal : LegalTerms (terms_after s.terms a)
  unfolding terms_after
  terms-legal = record {
    step = facts.sound.terms.step;
    steps = facts.sound.terms.steps;
    strike = facts.sound.terms.strike;
    phase = cond_either (λ (n : ℕ). n ≤ 2) (sets_phase a.kind) a.quantity s.terms.phase
        (λ q. leb-true a.quantity 2 (not-false (leb a.quantity 2) (rw (eqb-true a.kind 11 q, stays_out 11 refl) at tests.quantity)))
        (λ q. facts.sound.terms.phase);
    bid = cond_either (λ (n : ℕ). NoneOrLegal s.terms.m n) (sets_away a.kind) a.price s.terms.bid
        (λ q. if-any-price s.terms.m a.price (and_left (none_or_legal s.terms.m a.price) (none_or_legal s.terms.m a.second) (aways q)))
        (λ q. facts.sound.terms.bid);
    offer = cond_either (λ (n : ℕ). NoneOrLegal s.terms.m n) (sets_away a.kind) a.second s.terms.offer
        (λ q. if-any-price s.terms.m a.second (and_right (none_or_legal s.terms.m a.price) (none_or_legal s.terms.m a.second) (aways q)))
        (λ q. facts.sound.terms.offer);
    underlying = cond_either (λ (n : ℕ). n ≤ top_underlying) (sets_underlying a.kind) a.price s.terms.underlying
        (λ q. leb-true a.price top_underlying (not-false (leb a.price top_underlying) (rw (eqb-true a.kind 10 q, stays_out 10 refl) at tests.price)))
        (λ q. facts.sound.terms.underlying);
  }
    where
      aways : sets_away a.kind ≡ true → (none_or_legal s.terms.m a.price && none_or_legal s.terms.m a.second) ≡ true
      aways q =
          not-false (none_or_legal s.terms.m a.price && none_or_legal s.terms.m a.second)
          (rw (eqb-true a.kind 9 q, stays_out 9 refl) at tests.price)

  pub numbers-few : (terms_after s.terms a).given ≤ last_number
  unfolding terms_after
  numbers-few =
      cond_either (λ (n : ℕ). n ≤ last_number) (enters a.kind) (s.terms.given + 1) s.terms.given (λ q. omega (arith, enters-fresh q))
      (λ q. facts.sound.most)
