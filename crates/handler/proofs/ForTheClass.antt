-- FOR THE CLASS: what holds of every message that is accepted, whatever its kind, from the book that it finds to the book that settling leaves.
-- Assumes nothing.
use Prim.Native.Nat.{ℕ, ◌+◌, ◌≤◌}
use mathlib.Core.Path.{◌≡◌, refl, sym, ap, subst, ◌∙◌}
use mathlib.Core.Bool.{Bool, true}
use mathlib.Core.List.{List}
use mathlib.Core.Logic.{◌⊎◌, inl, inr, ⊎_elim}
use native.Mathlib.Omega.{arith}
use lib.Dec.{eqb}
use Rattle.prices.specs.declared.Market.{Market}
use Rattle.prices.specs.Side.{reaches}
use Rattle.kinds.specs.Kinds.{minds, enters}
use Rattle.kinds.proofs.KindLaws.{no_such, stays_out}
use Rattle.prices.proofs.FrameLaws.{seen, reached}
use Rattle.lists.specs.Places.{At}
use Rattle.lists.specs.Tests.{All}
use Rattle.lists.specs.Run.{Ran, still}
use Rattle.lists.proofs.Bools.{clash, cond_either}
use Rattle.lists.proofs.TestLaws.{all-at, all_map, all_append}
use Rattle.packing.specs.declared.report.Report.{Report}
use Rattle.book.specs.declared.Entry.{Entry}
use Rattle.book.specs.Entries.{display}
use Rattle.book.specs.Shape.{entries_of}
use Rattle.soundness_theory.proofs.Facts.{Sound}
use Rattle.soundness_theory.proofs.SoundFacts.{is-sound}
use Rattle.soundness_theory.proofs.KeepLaws.{here-facts}
use Rattle.telling.specs.Tell.{taker_of}
use Rattle.settling_theory.specs.Settle.{settled}
use Rattle.settling_theory.proofs.Keeps.{Stems, stems-start, stems-lessened, stems-through}
use Rattle.settling_theory.proofs.Takers.{one_number, Minding, minding-all}
use Rattle.telling.proofs.Within.{TradesWithin}
use Rattle.settling_theory.proofs.Settles.{settles}
use Rattle.terms.specs.declared.Terms.{Terms}
use Rattle.terms.specs.Terms.{market_of}
use Rattle.arrival.proofs.ArriveTells.{arrived-says}
use Rattle.arrival.proofs.Within.{arrival-within-away}
use Rattle.arrival.proofs.EnterLaws.{if-any-high, given-display}
use Rattle.series.specs.declared.Series.{Series}
use Rattle.handler.specs.Acts.{Accepted}
use Rattle.handler.specs.declared.Ask.{Ask}
use Rattle.handler.specs.Accept.{comer, own_part, terms_after, settled_if, done}
use Rattle.series.proofs.TermsLaws.{step-mpv}
use Rattle.handler.proofs.Passed.{facts, terms-legal}
use Rattle.handler.proofs.Accepted.{own-sound, done-part}
use Rattle.handler.proofs.OwnPart.{own-rests, own-tells}

-- no report that says who took names this entry
abbrev pub NotTaker : ℕ → Report → Type 0
NotTaker n r = taker_of r ≡ n → ⊥

module _ (s : Series) (a : Ask) where
  abbrev t : Terms
  t = s.terms

  abbrev l : List Entry
  l = entries_of s.book

  -- who takes in the message's own part: the arriving entry alone, and no MMALO
  own-spares : (n : ℕ) → 1 ≤ n → (enters a.kind ≡ true → Minding n (comer s.terms.given a))
      → All (NotTaker n) (own_part s.terms a (entries_of s.book)).records
  own-spares n some m =
      own-tells t a l (NotTaker n)
      (λ q. arrived-says t (comer t.given a) l (NotTaker n) (record {
        rejects = λ p why z. omega arith;
        cancels = λ p why side x o z. omega arith;
        trades = λ mi y k w z. clash (m q z) mi;
        rests = λ left h z. omega arith;
        stops = λ why left z. omega arith;
      })) (λ z. omega arith) (λ why own x z. omega arith)

  module _ (ok : Accepted s a) where
    pub so : Sound s.terms.m s.terms.given (entries_of s.book)
    so = is-sound t.m t.given l (facts s a ok).step (facts s a ok).entries

    -- ---- "Sliding a display back when the away price falls" ----

    -- what rests at the end was there after the message's own part,
    pub settled-stems : All (Stems (own_part s.terms a (entries_of s.book)).final) (done s.terms a (entries_of s.book)).final
    unfolding done still
    settled-stems =
        let r : List Entry = (own_part t a l).final in
        cond_either (λ (x : Ran (List Entry) Report). All (Stems r) x.final) (eqb (terms_after t a).phase 1) (settled (market_of (terms_after t a)) r)
        (still r)
        (λ _. (settles (own-sound s a ok)).stems) (λ _. stems-start r)

    -- and then it is the new entry, or was there before
    own-stems : All (λ (x : Entry). (x.number ≡ s.terms.given + 1) ⊎ Stems (entries_of s.book) x) (own_part s.terms a (entries_of s.book)).final
    own-stems =
        own-rests t a l (λ (x : Entry). (x.number ≡ t.given + 1) ⊎ Stems l x) (λ q x. ⊎_elim (λ z. inl z) (λ u. inr (stems-lessened q x u)))
        (λ _ left r. inl refl)
        (all_map (λ x u. inr u) l (stems-start l))

    pub after : Sound (terms_after s.terms a).m (terms_after s.terms a).given (done s.terms a (entries_of s.book)).final
    after = is-sound (terms_after t a).m (terms_after t a).given (done t a l).final (step-mpv (terms-legal s a ok).step) (done-part s a ok).sound

    -- A DISPLAY NEVER MOVES BACK WHILE ITS QUOTE RESTS: the display of an entry that rests before and after a message is afterwards as aggressive as it was, or
    -- more
    pub display-never-back : (i j : ℕ) (y x : Entry) → At (entries_of s.book) i y → At (done s.terms a (entries_of s.book)).final j x
        → y.number ≡ x.number
        → reaches y.sell (display x) (display y) ≡ true
    display-never-back i j y x at there same =
        let u : Stems (own_part t a l).final x = all-at (Stems (own_part t a l).final) (done t a l).final j x settled-stems there in
        ⊎_elim (λ z. absurd (omega (arith, (here-facts so i y at).given, same, u.number, z))) (λ v. forward (stems-through x u v))
        (all-at (λ (z : Entry). (z.number ≡ t.given + 1) ⊎ Stems l z) (own_part t a l).final u.place u.was own-stems u.there)
      where
        forward : Stems l x → reaches y.sell (display x) (display y) ≡ true
        forward v =
            let was : v.was ≡ y = one_number so v.place i v.was y v.there at (v.number ∙ sym same) in
            let side : x.sell ≡ y.sell = sym v.sell ∙ ap (λ (z : Entry). z.sell) was in
            reached y.sell (display x) (display y)
            (omega (arith, if-any-high (given-display x (here-facts after j x there)))) (omega (arith, if-any-high (given-display y (here-facts so i y at))))
            (subst (λ (b : Bool). seen b (display y) ≤ seen b (display x)) side
            (subst (λ (z : Entry). seen x.sell (display z) ≤ seen x.sell (display x)) was v.forward))

    -- ---- "Letting MMALO take" ----

    -- AN MMALO ADDS ONLY: in no report of a message, of its own part or of settling, is it the taker,
    spares : (n : ℕ) → 1 ≤ n → All (Minding n) (entries_of s.book) → (enters a.kind ≡ true → Minding n (comer s.terms.given a))
        → All (NotTaker n) (done s.terms a (entries_of s.book)).records
    unfolding done still
    spares n some h m =
        let r : List Entry = (own_part t a l).final in
        all_append (NotTaker n) (own_part t a l).records (settled_if (terms_after t a) r).records (own-spares n some m)
        (cond_either (λ (x : Ran (List Entry) Report). All (NotTaker n) x.records) (eqb (terms_after t a).phase 1) (settled (market_of (terms_after t a)) r)
        (still r)
        (λ _. (settles (own-sound s a ok)).spared n some (own-rests t a l (Minding n) (λ q x z. z) (λ q left r. m q) h)) (λ _. tt))

    pub record AddsOnly : Type 0 where
      -- whether it rests when the message comes
      pub resting : (i : ℕ) (y : Entry) → At (entries_of s.book) i y → minds y.kind ≡ true
          → All (NotTaker y.number) (done s.terms a (entries_of s.book)).records
      -- or is what the message brings
      pub arriving : enters a.kind ≡ true → minds a.kind ≡ true → All (NotTaker (s.terms.given + 1)) (done s.terms a (entries_of s.book)).records

    pub adds-only : AddsOnly
    adds-only = record {
      resting = λ i y at k. spares y.number (here-facts so i y at).counted (minding-all so i y at k)
          (λ q z. absurd (omega (arith, (here-facts so i y at).given, z)));
      arriving = λ q k. spares (t.given + 1) (omega arith) (all_map (λ x f z. absurd (omega (arith, f.given, z))) l so.entries) (λ _ _. k);
    }

    -- ---- "It never trades above A (a sell never below the away bid)." ----

    -- what enters leaves the away prices as they are
    same-market : enters a.kind ≡ true → market_of (terms_after s.terms a) ≡ market_of s.terms
    unfolding terms_after
    same-market q = rw (no_such enters 9 a.kind (stays_out 9 refl) q) refl

    -- NO TRADE OF A MESSAGE, of its own part or of settling, IS BEYOND THE AWAY PRICE OF ITS TAKER
    pub trades-within-away : All (TradesWithin (market_of (terms_after s.terms a))) (done s.terms a (entries_of s.book)).records
    unfolding done still
    trades-within-away =
        let k : Market = market_of (terms_after t a) in
        let r : List Entry = (own_part t a l).final in
        all_append (TradesWithin k) (own_part t a l).records (settled_if (terms_after t a) r).records
        (own-tells t a l (TradesWithin k) (λ q. rw (same-market q) (arrival-within-away t (comer t.given a) l)) tt (λ why own x. tt))
        (cond_either (λ (x : Ran (List Entry) Report). All (TradesWithin k) x.records) (eqb (terms_after t a).phase 1) (settled k r) (still r)
        (λ _. (settles (own-sound s a ok)).within) (λ _. tt))
