-- How an accepted message comes to what the class is taught: the reports of its own part are those of arrival (ForTheClass there), and settling behind it only
-- trades and moves.
-- Assumes nothing.
use Prim.Native.Nat.{ℕ, ◌+◌, ◌≤◌}
use mathlib.Core.Path.{◌≡◌, refl, sym, subst, ap, ◌∙◌}
use mathlib.Core.Bool.{Bool, true, false, not}
use mathlib.Core.List.{List, ◌∷◌, ◌++◌, map}
use mathlib.Core.Logic.{◌⊎◌, inl, inr}
use Rattle.std.specs.Prelude.{Some}
use native.Mathlib.Omega.{arith}
use lib.Dec.{eqb}
use lib.ListN.{length}
use Rattle.kinds.specs.Kinds.{enters, quotes}
use Rattle.kinds.proofs.KindLaws.{stays_out}
use Rattle.lists.specs.Places.{At}
use Rattle.lists.specs.Tests.{All}
use Rattle.lists.specs.Run.{Ran, still}
use Rattle.lists.proofs.Bools.{clash, cond_either}
use Rattle.lists.proofs.TestLaws.{all-at, all_of, all_map, all_append}
use Rattle.packing.specs.declared.report.Report.{Report}
use Rattle.packing.specs.declared.report.Report.TheVariants.{Noted, Rejected, Traded, Rested, Repriced, Cancelled}
use Rattle.packing.specs.Room.{room_size}
use Rattle.book.specs.declared.Entry.{Entry}
use Rattle.book.specs.Entries.{display, quote_of, with_quantity}
use Rattle.book.specs.Shape.{entries_of}
use Rattle.book.specs.Look.{quote_in}
use Rattle.book.proofs.ShapeLaws.{entries-of-book}
use Rattle.telling.specs.Tell.{rejected, traded, repriced, cancelled}
use Rattle.settling_theory.specs.Settle.{settled}
use Rattle.settling_theory.proofs.Keeps.{Stems}
use Rattle.telling.proofs.Staying.{Numbered, TradeNamed, named-left, named-right}
use Rattle.settling_theory.proofs.Takers.{one_number}
use Rattle.settling_theory.proofs.Stays.{TradesOrMoves, settled-stays}
use Rattle.terms.specs.Terms.{market_of}
use Rattle.arrival.specs.Cancel.{cut_quote}
use Rattle.arrival.specs.Take.{Taking}
use Rattle.arrival.specs.Arrive.{replaced, arrived, trades_of}
use Rattle.arrival.proofs.ReasonLaws.{rejection-among, rejected-quote}
use Rattle.arrival.proofs.TakeLaws.{took-all}
use Rattle.arrival.proofs.CutLaws.{OtherThan, quote-all}
use Rattle.arrival.proofs.Leaves.{Rests, cancels, quote-leaves}
use Rattle.arrival.proofs.Stays.{took-stays, order-stays}
use Rattle.arrival.proofs.ArriveTells.{RestStopped, arrived-says-why}
use Rattle.arrival.proofs.ForTheClass as arriving
use Rattle.series.specs.declared.Series.{Series}
use Rattle.handler.specs.Acts.{Accepted}
use Rattle.handler.specs.declared.Ask.{Ask}
use Rattle.handler.specs.Accept.{comer_of, terms_after, done}
use Rattle.handler.specs.Handle.{Handled, accepted}
use Rattle.handler.proofs.Passed.{accepted-arriving}
use Rattle.handler.proofs.Accepted.{own-sound}
use Rattle.handler.proofs.OwnPart.{own-tells}
use Rattle.handler.proofs.Stages.{own-enters}
use Rattle.handler.proofs.Blocks.{rejection_of, same-is, blocking}
use Rattle.handler.proofs.Demands.{settling-says, own_of, settling_of, reports_in, EachReport, accepted-told, each-told, told_at}
use Rattle.handler.proofs.ForTheClass as class
use Rattle.handler.proofs.TaughtWords.{TradeIn, Stays, TakesSame, TakesBoth, TakesOpposite, SparesQuotes, LeavesQuotes}

-- ---- what the reports say of a rejection and of a rest that is cancelled ----

-- a rejection is of what the message brought, a quote, and tells its reason
abbrev pub RejectsAs : Series → Ask → Report → Type 0
RejectsAs s a Noted = Unit {0}
RejectsAs s a (Rejected why side party number limit quantity) = (enters a.kind ≡ true) × ((1 ≤ why) × (rejection_of s a ≡ why))
RejectsAs s a (Traded side party number other price quantity) = Unit {0}
RejectsAs s a (Rested side party number display working quantity) = Unit {0}
RejectsAs s a (Repriced side party number display working quantity) = Unit {0}
RejectsAs s a (Cancelled why side party number limit quantity) = Unit {0}

-- the rest of what the message brought was stopped for that reason
pub record StoppedFor (s : Series) (a : Ask) (why : ℕ) : Type 0 where
  pub entering : enters a.kind ≡ true
  pub left : ℕ
  pub stopped : RestStopped s.terms (comer_of s a) (entries_of s.book) why left

-- what is cancelled with a reason of price, and not with 27 to 31, is a rest
abbrev pub CancelsAs : Series → Ask → Report → Type 0
CancelsAs s a Noted = Unit {0}
CancelsAs s a (Rejected why side party number limit quantity) = Unit {0}
CancelsAs s a (Traded side party number other price quantity) = Unit {0}
CancelsAs s a (Rested side party number display working quantity) = Unit {0}
CancelsAs s a (Repriced side party number display working quantity) = Unit {0}
CancelsAs s a (Cancelled why side party number limit quantity) = why ≤ 26 → StoppedFor s a why

-- ---- the parts of an accepted message, in its answer ----

module _ (s : Series) (a : Ask) (ok : Accepted s a) (room : List ℕ) (space : room_size ≤ length room) where
  abbrev h : Handled
  h = accepted s a room

  abbrev l : List Entry
  l = entries_of s.book

  settling-moves : All TradesOrMoves (settling_of s a).records
  settling-moves = settling-says s a ok TradesOrMoves (λ x. tt) (λ x y q. tt)

  -- a report says what those of the message's own part do, and trades and moves
  pub done-says : (P : Report → Type 0) → All P (own_of s a).records → ((x : Entry) → P (repriced x)) → ((x y : Entry) (q : ℕ) → P (traded x y q))
      → EachReport P h
  unfolding done
  done-says P own moves trades =
      each-told s a ok room space P
      (all_append P (own_of s a).records (settling_of s a).records own (settling-says s a ok P moves trades))

  left_is : entries_of h.answer.series.book ≡ (settling_of s a).final
  unfolding done
  left_is = entries-of-book (settling_of s a).final

  records-are : (done s.terms a (entries_of s.book)).records ≡ (own_of s a).records ++ (settling_of s a).records
  unfolding done
  records-are = refl

  -- a trade of the message stands in the room
  trade-told : (n : ℕ) → TradeNamed ((own_of s a).records ++ (settling_of s a).records) n → TradeIn h n
  trade-told n z = record {
    place = z.place;
    report = z.report;
    there = told_at s a ok room space z.place z.report (subst (λ (rs : List Report). At rs z.place z.report) (sym records-are) z.there);
    names = z.names;
  }

  -- who rests after the message's own part stays
  stays : (n : ℕ) → Numbered (own_of s a).final n → Stays h n
  unfolding still
  stays n z =
      on (cond_either (λ (x : Ran (List Entry) Report). Numbered x.final n ⊎ TradeNamed x.records n) (eqb (terms_after s.terms a).phase 1)
      (settled (market_of (terms_after s.terms a)) (own_of s a).final) (still (own_of s a).final) (λ _. settled-stays (own-sound s a ok) n z) (λ _. inl z))
    where
      on : Numbered (settling_of s a).final n ⊎ TradeNamed (settling_of s a).records n → Stays h n
      on (inl x) = inl (subst (λ (r : List Entry). Numbered r n) (sym left_is) x)
      on (inr x) = inr (trade-told n (named-right (own_of s a).records (settling_of s a).records x))

  own-stays : (n : ℕ) → Numbered (own_of s a).final n ⊎ TradeNamed (own_of s a).records n → Stays h n
  own-stays n (inl z) = stays n z
  own-stays n (inr z) = inr (trade-told n (named-left (own_of s a).records (settling_of s a).records z))

  rests-stays : (y : Entry) → Rests (own_of s a).final y → Stays h y.number
  rests-stays y r = stays y.number (record { place = r.place; entry = y; there = r.there; number = refl })

  -- a quote that is gone after it is gone
  stays-gone : (side : Bool) → All (OtherThan a.party side) (own_of s a).final → All (OtherThan a.party side) (entries_of h.answer.series.book)
  unfolding done
  stays-gone side z =
      subst (All (OtherThan a.party side)) (sym left_is)
      (all_map (λ x u. same x u (all-at (OtherThan a.party side) (own_of s a).final u.place u.was z u.there)) (settling_of s a).final
      (class.settled-stems s a ok))
    where
      same : (x : Entry) (u : Stems (own_of s a).final x) → OtherThan a.party side u.was → OtherThan a.party side x
      same x u o = rw (← u.kind, ← u.party, ← u.sell) o

  -- what the reports say of a rejection, and of a rest that is cancelled
  pub rejects-as : EachReport (RejectsAs s a) h
  rejects-as =
      done-says (RejectsAs s a)
      (own-tells s.terms a l (RejectsAs s a)
      (λ q. arrived-says-why s.terms (comer_of s a) l (RejectsAs s a) (record {
        rejects = λ p why stops is. (q, (stops, is));
        cancels = λ p why own side x o was. tt;
        trades = λ mi y k w. tt;
        rests = λ left z. tt;
        stops = λ why left z. tt;
      })) tt (λ why own x. tt)) (λ x. tt) (λ x y q. tt)

  pub cancels-as : EachReport (CancelsAs s a) h
  cancels-as =
      done-says (CancelsAs s a)
      (own-tells s.terms a l (CancelsAs s a)
      (λ q. arrived-says-why s.terms (comer_of s a) l (CancelsAs s a) (record {
        rejects = λ p why stops is. tt;
        cancels = λ p why own side x o was low. absurd (omega (arith, own, low));
        trades = λ mi y k w. tt;
        rests = λ left z. tt;
        stops = λ why left z low. record { entering = q; left = left; stopped = z };
      })) tt (λ why own x low. absurd (omega (arith, own, low)))) (λ x. tt) (λ x y q. tt)

  -- ---- what the message brought ----

  module _ (q : enters a.kind ≡ true) where
    own_is : own_of s a ≡ arrived s.terms (comer_of s a) l
    own_is = own-enters s.terms a l q

    no-enable : a.kind ≡ 12 → ⊥
    no-enable k = clash q (rw k (stays_out 12 refl))

    told_is : {rs : List Report} → (arrived s.terms (comer_of s a) l).records ≡ rs → reports_in h ≡ map Some (rs ++ (settling_of s a).records)
    told_is e =
        accepted-told s a ok room space
        ∙ ap (map Some) (records-are ∙ ap (λ (rs : List Report). rs ++ (settling_of s a).records) (ap (λ (x : Ran (List Entry) Report). x.records) own_is ∙ e))

    pub takes_same : (why : ℕ) → rejection_of s a ≡ why → 1 ≤ why → why ≤ 24 → TakesSame s a why h
    takes_same why is stops high =
        let low : 20 ≤ rejection_of s a = (rejection-among s.terms (comer_of s a) l).least (omega (arith, is, stops)) in
        let z = arriving.rejected-takes-same (accepted-arriving s a ok q) low (omega (arith, is, high)) in
        record {
          reports = told_is (z.reports
              ∙ ap (λ (n : ℕ). rejected n (comer_of s a) ∷ cancels 30 (quote_in a.party a.sell l)) is);
          settling = settling-moves;
          gone = stays-gone a.sell (rw own_is z.gone);
          others = λ i y at o. rests-stays y (rw own_is (z.others i y at o));
          opposite = λ i y at o. rests-stays y (rw own_is (z.opposite i y at o));
          unblocked = same-is s a no-enable (λ _. omega (arith, is, high));
        }

    pub takes-both : (why : ℕ) → rejection_of s a ≡ why → 25 ≤ why → TakesBoth s a why h
    takes-both why is low =
        let z = arriving.protected-takes-both (accepted-arriving s a ok q) (omega (arith, is, low)) in
        record {
          reports = told_is (z.reports
              ∙ ap (λ (n : ℕ). rejected n (comer_of s a) ∷ (cancels 30 (quote_in a.party false l) ++ cancels 30 (quote_in a.party true l))) is);
          settling = settling-moves;
          gone = λ side. stays-gone side (rw own_is (z.gone side));
          others = λ i y at o. rests-stays y (rw own_is (z.others i y at o));
          unblocked = λ flags. (blocking s a ok flags).others;
          blocked = λ flags. (blocking s a ok flags).blocked (rejected-quote s.terms (comer_of s a) l (omega (arith, is, low))) (omega (arith, is, low));
        }

    pub takes-opposite : quotes a.kind ≡ true → (why left : ℕ) → RestStopped s.terms (comer_of s a) l why left → TakesOpposite s a why h
    takes-opposite quoting why left r =
        let x : Ran Taking Report = trades_of s.terms (comer_of s a) l in
        let z = arriving.remainder-takes-opposite (accepted-arriving s a ok q) quoting r.enters (omega (arith, r.rest, r.some))
        (omega (arith, r.reason, r.stops)) in
        record {
          traded = z.traded;
          left = omega (arith, r.rest, r.some);
          reports = told_is (z.reports
              ∙ ap (λ (n : ℕ). cancels 27 (quote_in a.party a.sell l)
              ++ (x.records ++ (cancelled n (with_quantity x.final.left (comer_of s a)) ∷ cancels 29 (quote_in a.party (not a.sell) x.final.book))))
              r.reason);
          settling = settling-moves;
          gone = λ side. stays-gone side (rw own_is (either a.sell side z.same-gone z.opposite-gone));
          others = λ i y at o. on y z.others (later-quotes i y at (o (not a.sell)))
              (took-stays (market_of s.terms) (comer_of s a) (replaced (comer_of s a) l).final y.number (still-there i y at (o a.sell)))
              (λ w. inr (subst (λ (rs : List Report). TradeNamed rs y.number)
              (sym (ap (λ (u : Ran (List Entry) Report). u.records) own_is ∙ z.reports))
              (named-right (cancels 27 (quote_in a.party a.sell l)) _ (named-left x.records _ w))));
          unblocked = same-is s a no-enable (λ _. omega (arith, r.enters));
        }
      where
        after : List Entry
        after = (arrived s.terms (comer_of s a) l).final

        book : List Entry
        book = (trades_of s.terms (comer_of s a) l).final.book

        either : (b side : Bool) → All (OtherThan a.party b) after → All (OtherThan a.party (not b)) after → All (OtherThan a.party side) after
        either true true f g = f
        either true false f g = g
        either false true f g = g
        either false false f g = f

        first : replaced (comer_of s a) l ≡ cut_quote 27 a.party a.sell l
        first = rw quoting refl

        -- who is no quote of that maker is still there when the quote that is replaced has gone,
        still-there : (i : ℕ) (y : Entry) → At l i y → quote_of a.party a.sell y ≡ false → Numbered (replaced (comer_of s a) l).final y.number
        still-there i y at o =
            let u : Rests (cut_quote 27 a.party a.sell l).final y = quote-leaves 27 a.party a.sell l i y at o in
            rw first (record { place = u.place; entry = y; there = u.there; number = refl })

        -- and no quote of that maker afterwards
        later-quotes : (i : ℕ) (y : Entry) → At l i y → quote_of a.party (not a.sell) y ≡ false
            → All (λ (u : Entry). u.number ≡ y.number → OtherThan a.party (not a.sell) u) book
        later-quotes i y at o =
            took-all (market_of s.terms) (comer_of s a) (replaced (comer_of s a) l).final
            (λ (u : Entry). u.number ≡ y.number → OtherThan a.party (not a.sell) u) (λ n u k z. z)
            (rw first (quote-all 27 a.party a.sell l (λ (u : Entry). u.number ≡ y.number → OtherThan a.party (not a.sell) u)
            (all_of (λ (u : Entry). u.number ≡ y.number → OtherThan a.party (not a.sell) u) l
            (λ j u there same. subst (OtherThan a.party (not a.sell)) (one_number (class.so s a ok) i j y u at there (sym same)) o))))

        on : (y : Entry) → ((j : ℕ) (u : Entry) → At book j u → quote_of a.party (not a.sell) u ≡ false → Rests after u)
            → All (λ (u : Entry). u.number ≡ y.number → OtherThan a.party (not a.sell) u) book
            → Numbered book y.number ⊎ TradeNamed (trades_of s.terms (comer_of s a) l).records y.number
            → (TradeNamed (trades_of s.terms (comer_of s a) l).records y.number
            → Numbered (own_of s a).final y.number ⊎ TradeNamed (own_of s a).records y.number)
            → Stays h y.number
        on y leaves others (inl w) told =
            let o = all-at (λ (u : Entry). u.number ≡ y.number → OtherThan a.party (not a.sell) u) book w.place w.entry others w.there
            w.number in
            subst (Stays h) w.number (rests-stays w.entry (rw own_is (leaves w.place w.entry w.there o)))
        on y leaves others (inr w) told = own-stays y.number (told w)

    pub leaves-quotes : quotes a.kind ≡ false → LeavesQuotes s a h
    leaves-quotes order = record {
      reports = done-says (SparesQuotes (s.terms.given + 1))
          (rw own_is (all_map (λ r. own-rest r) (arrived s.terms (comer_of s a) l).records
          (arriving.orders-leave-quotes s.terms (comer_of s a) l order))) (λ x. tt) (λ x y q. tt);
      others = λ i y at. own-stays y.number (rw own_is (order-stays s.terms (comer_of s a) l order y.number (record {
        place = i;
        entry = y;
        there = at;
        number = refl;
      })));
      unblocked = same-is s a no-enable (λ z. clash z order);
    }
      where
        own-rest : (r : Report) → arriving.LeavesQuotes (s.terms.given + 1) r → SparesQuotes (s.terms.given + 1) r
        own-rest Noted z = absurd z
        own-rest (Rejected why side party number limit quantity) z = absurd z
        own-rest (Traded side party number other price quantity) z = tt
        own-rest (Rested side party number display working quantity) z = tt
        own-rest (Repriced side party number display working quantity) z = absurd z
        own-rest (Cancelled why side party number limit quantity) z = z
