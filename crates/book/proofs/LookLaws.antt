-- What the searches find, with no scan in it: the place is pinned, and nothing else fits.
-- Assumes nothing.
use Prim.Native.Nat.{ℕ, ◌+◌, ◌*◌, ◌≤◌, ◌<◌}
use mathlib.Core.Path.{◌≡◌, refl, sym, ap, ◌∙◌}
use mathlib.Core.Bool.{Bool, true, false, cond}
use mathlib.Core.List.{List, [], ◌∷◌, ◌++◌}
use mathlib.Core.Logic.{◌⊎◌, inl, inr, ⊎_elim}
use native.Mathlib.Omega.{arith}
use lib.Dec.{ltb}
use lib.ListN.{length, get_or, take}
use borrow.Author.Tests.{lt-leb, le-leb, ltb-true, ltb-false}
use Rattle.prices.specs.Side.{nearer}
use Rattle.lists.specs.Places.{At}
use Rattle.lists.specs.Choose.{scan, Found, nowhere, found, consider, choosing, first, lesser, never, keyed}
use Rattle.lists.proofs.PlaceLaws.{at_left, at_last, at_snoc}
use Rattle.lists.proofs.ChooseLaws.{scan-says, Nobody, Chosen, Tells, first-tells, found-stays}
use Rattle.lists.proofs.Bools.{clash}
use Rattle.book.specs.declared.Entry.{Entry}
use Rattle.book.specs.declared.Front.{Front}
use Rattle.book.specs.declared.Least.{Least}
use Rattle.book.specs.Entries.{display, displayed, against, own_entry, quote_of}
use Rattle.std.specs.Option.{option_map}
use Rattle.std.specs.List.{fold, position, position_from}
use Rattle.std.specs.Prelude.{Option, Some, None}
use Rattle.std.proofs.lemmas.Iterator.Adapters.{position_from-zero}
use Rattle.lists.proofs.LoopLaws.{scan-more, scan-fold}
use Rattle.book.specs.Look.{rank_of, lower_key, cost, priority, eligible, best_contra, entry_of, quote_in}
use Rattle.book.specs.Look.{lowest, working, hidden_price, facing, nearest, contra, best_hidden, front_of, contra_in, front_turn, national}
use Rattle.book.proofs.OfferLaws.{Best, Alone, best-alone, best-nearer, best-same}

-- THE BEST CONTRA ENTRY has the best price of all that are eligible; of those at its price none is displayed unless it is; and of those that
-- are displayed as it is, none is older.
pub record BestContra (s shown_only : Bool) (l : List Entry) (i : ℕ) (e : Entry) : Type 0 where
  pub chosen : Chosen (eligible s shown_only) (priority s) l i e
  pub price : (k : ℕ) (z : Entry) → At l k z → eligible s shown_only z ≡ true → cost s e.working ≤ cost s z.working
  pub shown : (k : ℕ) (z : Entry) → At l k z → eligible s shown_only z ≡ true → cost s z.working ≡ cost s e.working
      → displayed z ≡ true → displayed e ≡ true
  pub rank : (k : ℕ) (z : Entry) → At l k z → eligible s shown_only z ≡ true → cost s z.working ≡ cost s e.working
      → displayed z ≡ displayed e → i ≤ k

-- an answer that says so, or that nobody is eligible
abbrev pub ContraTells : Bool → Bool → List Entry → Found Entry → Type 0
ContraTells s shown_only l nowhere = Nobody (eligible s shown_only) l
ContraTells s shown_only l (found i e) = BestContra s shown_only l i e

module _ (s shown_only : Bool) (l : List Entry) where
  best_of : (i : ℕ) (e : Entry) → Chosen (eligible s shown_only) (priority s) l i e → BestContra s shown_only l i e
  unfolding priority
  best_of i e c = record {
    chosen = c;
    price = λ k z a t. cheaper (displayed e) (displayed z) (c.least k z a t);
    shown = λ k z a t same d. shows (displayed e) (displayed z) same d (c.least k z a t);
    rank = λ k z a t same d. older k z a t same d (ltb k i) refl;
  }
    where
      cheaper : {x y : ℕ} (b d : Bool) → 2 * x + cond b 0 1 ≤ 2 * y + cond d 0 1 → x ≤ y
      cheaper true true h = omega arith
      cheaper true false h = omega arith
      cheaper false true h = omega arith
      cheaper false false h = omega arith

      shows : {x y : ℕ} (b d : Bool) → y ≡ x → d ≡ true → 2 * x + cond b 0 1 ≤ 2 * y + cond d 0 1 → b ≡ true
      shows true d same e h = refl
      shows false true same e h = absurd (omega arith)
      shows false false same e h = e

      level : {x y : ℕ} (b d : Bool) → y ≡ x → d ≡ b → 2 * x + cond b 0 1 < 2 * y + cond d 0 1 → ⊥
      level true true same e h = omega arith
      level true false same e h = clash e refl
      level false true same e h = clash refl e
      level false false same e h = omega arith

      older : (k : ℕ) (z : Entry) → At l k z → eligible s shown_only z ≡ true → cost s z.working ≡ cost s e.working
          → displayed z ≡ displayed e → (t : Bool) → ltb k i ≡ t → i ≤ k
      older k z a t same d true q = absurd (level (displayed e) (displayed z) same d (c.earliest k z a t (ltb-true k i q)))
      older k z a t same d false q = ltb-false k i q

  says : (f : Found Entry) → Tells (eligible s shown_only) (priority s) l f → ContraTells s shown_only l f
  says nowhere h = h
  says (found i e) h = best_of i e h

  pub best-tells : Tells (eligible s shown_only) (priority s) l (best_contra s shown_only l)
  unfolding best_contra
  best-tells = first-tells (eligible s shown_only) (priority s) l

  pub contra-tells : ContraTells s shown_only l (best_contra s shown_only l)
  contra-tells = says (best_contra s shown_only l) best-tells

-- ---- the prices that a side faces ----

-- what entries offer to side s: p is the price of one that faces it; a price of 0 is none ("a report shows display 0 for a dark entry")
pub record Offered (price : Entry → ℕ) (s : Bool) (l : List Entry) (p : ℕ) : Type 0 where
  pub place : ℕ
  pub entry : Entry
  pub there : At l place entry
  pub faces : against s entry ≡ true
  pub asks : price entry ≡ p
  pub some : 1 ≤ p

-- with a price from elsewhere
abbrev pub OnOffer : (Entry → ℕ) → Bool → ℕ → List Entry → ℕ → Type 0
OnOffer price s a l p = Alone a p ⊎ Offered price s l p

module _ (price : Entry → ℕ) (s : Bool) where
  offered-left : (l : List Entry) (x : Entry) (p : ℕ) → Offered price s l p → Offered price s (l ++ (x ∷ [])) p
  offered-left l x p o = record {
    place = o.place;
    entry = o.entry;
    there = at_left l (x ∷ []) o.place o.entry o.there;
    faces = o.faces;
    asks = o.asks;
    some = o.some;
  }

  offered-last : (l : List Entry) (x : Entry) (p : ℕ) → against s x ≡ true → Alone (price x) p → Offered price s (l ++ (x ∷ [])) p
  offered-last l x p f h = record { place = length l; entry = x; there = at_last l x; faces = f; asks = h.0; some = h.1 }

  offered-snoc : (l : List Entry) (x : Entry) (p : ℕ) → Offered price s (l ++ (x ∷ [])) p
      → Offered price s l p ⊎ ((against s x ≡ true) × Alone (price x) p)
  offered-snoc l x p o =
      ⊎_elim (λ h. inl (record { place = o.place; entry = o.entry; there = h; faces = o.faces; asks = o.asks; some = o.some }))
      (λ h. inr (ap (against s) h.1 ∙ o.faces, (ap price h.1 ∙ o.asks, o.some))) (at_snoc l x o.place o.entry o.there)

  module _ (a : ℕ) where
    turn-best : (l : List Entry) (x : Entry) (q : ℕ) → Best s (OnOffer price s a l) q → (b : Bool) → against s x ≡ b
        → Best s (OnOffer price s a (l ++ (x ∷ []))) (cond b (nearer s q (price x)) q)
    turn-best l x q h true f =
        best-same (λ p o. ⊎_elim (λ k. ⊎_elim inl (λ m. inr (offered-left l x p m)) k) (λ k. inr (offered-last l x p f k)) o)
        (λ p o. ⊎_elim (λ k. inl (inl k)) (λ k. ⊎_elim (λ m. inl (inr m)) (λ m. inr m.1) (offered-snoc l x p k)) o) (best-nearer h (best-alone s (price x)))
    turn-best l x q h false f =
        best-same (λ p o. ⊎_elim inl (λ m. inr (offered-left l x p m)) o)
        (λ p o. ⊎_elim inl (λ k. ⊎_elim inr (λ m. clash m.0 f) (offered-snoc l x p k)) o) h

    -- THE NEAREST PRICE is the best that is on offer, of which there is only one (OfferLaws, best-one)
    pub nearest-tells : (l : List Entry) → Best s (OnOffer price s a l) (nearest price s a l)
    unfolding nearest
    nearest-tells l =
        scan-says (λ (p : ℕ) (_ : ℕ) (e : Entry). facing price s p e) (λ (r : List Entry) (q : ℕ). Best s (OnOffer price s a r) q)
        (λ r x q h. turn-best r x q h (against s x) refl) a (best-same (λ p h. inl h) (λ p h. ⊎_elim (λ k. k) (λ k. absurd k.there) h) (best-alone s a)) l

  -- with none from elsewhere
  pub nearest-offered : (l : List Entry) → Best s (Offered price s l) (nearest price s 0 l)
  nearest-offered l = best-same (λ p h. ⊎_elim (λ k. absurd (omega (arith, k.0, k.1))) (λ k. k) h) (λ p h. inr h) (nearest-tells 0 l)

-- C, THE BEST WORKING PRICE of the entries that face side s, dark included
pub contra-price-tells : (s : Bool) (l : List Entry) → Best s (Offered working s l) (contra s l)
contra-price-tells s l = nearest-offered working s l

-- THE BEST UNDISPLAYED PRICE of the entries that face side s
pub hidden-price-tells : (s : Bool) (l : List Entry) → Best s (Offered hidden_price s l) (best_hidden s l)
hidden-price-tells s l = nearest-offered hidden_price s l

-- both of the front's prices, by one scan
front-apart : (front : Front) (j : ℕ) (l : List Entry)
    → scan (λ (f : Front) (_ : ℕ) (e : Entry). front_turn f e) front j l
    ≡ record {
      bid = scan (λ (p : ℕ) (_ : ℕ) (e : Entry). facing working true p e) front.bid j l;
      offer = scan (λ (p : ℕ) (_ : ℕ) (e : Entry). facing working false p e) front.offer j l;
    }
unfolding scan
front-apart front j [] = refl
front-apart front j (x ∷ l) = front-apart (front_turn front x) (j + 1) l

pub front-folded : (l : List Entry) → fold front_turn (record { bid = 0; offer = 0 }) l ≡ front_of l
unfolding nearest
front-folded l = sym (scan-fold front_turn (record { bid = 0; offer = 0 }) 0 l) ∙ front-apart (record { bid = 0; offer = 0 }) 0 l

pub hidden-folded : (s : Bool) (l : List Entry) → fold (facing hidden_price s) 0 l ≡ best_hidden s l
unfolding nearest
hidden-folded s l = sym (scan-fold (facing hidden_price s) 0 0 l)

-- it shows each side C
pub front-faces : (front : Front) (l : List Entry) → front ≡ front_of l → (s : Bool) → contra_in front s ≡ contra s l
front-faces front l e false = ap (λ (f : Front). f.offer) e
front-faces front l e true = ap (λ (f : Front). f.bid) e

-- No proof cites it: the check finds it for `front_turn`, whose code makes a front of two prices. It stands for proofs that do so.
pub same-front : {bid bid' offer offer' : ℕ} → bid ≡ bid' → offer ≡ offer'
    → ◌≡◌ {A = Front} (record { bid = bid; offer = offer }) (record { bid = bid'; offer = offer' })
same-front p q = λ i. record { bid = p i; offer = q i }

-- NBO AND NBB, THE BEST of the away price a and of the displays of the entries that face side s
pub national-tells : (s : Bool) (a : ℕ) (l : List Entry) → Best s (OnOffer display s a l) (national s a l)
national-tells s a l = nearest-tells display s a l

-- ---- whom a message names ----

-- A PARTY'S ENTRY, A MAKER'S QUOTE: the oldest that is so, of which in a sound book there is one at most
module _ (l : List Entry) where
  pub entry-tells : (party number : ℕ) → Tells (own_entry party number) (λ _. 0) l (entry_of party number l)
  unfolding entry_of
  entry-tells party number = first-tells (own_entry party number) (λ _. 0) l

  pub quote-tells : (party : ℕ) (s : Bool) → Tells (quote_of party s) (λ _. 0) l (quote_in party s l)
  unfolding quote_in
  quote-tells party s = first-tells (quote_of party s) (λ _. 0) l

  -- THE FIRST BY ENTRY NUMBER of those that pass
  pub lowest-tells : (test : Entry → Bool) → Tells test (λ (e : Entry). e.number) l (lowest test l)
  unfolding lowest
  lowest-tells test = first-tells test (λ (e : Entry). e.number) l

abbrev pub number : Entry → ℕ
number e = e.number

-- the first by entry number of those that pass
abbrev pub First : (Entry → Bool) → List Entry → ℕ → Entry → Type 0
First test l i e = Chosen test number l i e

-- ---- the loops that look for an entry ----

-- the place of the first that passes
position-on : (test : Entry → Bool) (j : ℕ) (l : List Entry) → position_from test j l ≡ rank_of (scan (choosing test never) nowhere j l)
unfolding scan
position-on test j [] = refl
position-on test j (x ∷ l) = by (test x) (position-on test (j + 1) l)
  where
    by : (b : Bool) → position_from test (j + 1) l ≡ rank_of (scan (choosing test never) nowhere (j + 1) l)
        → cond b (Some j) (position_from test (j + 1) l) ≡ rank_of (scan (choosing test never) (consider never b j x nowhere) (j + 1) l)
    by true more = rw (found-stays test j (j + 1) x l) refl
    by false more = more

pub position-first : (test : Entry → Bool) (l : List Entry) → position test l ≡ rank_of (first test never l)
unfolding first
position-first test l = position_from-zero test l ∙ position-on test 0 l

-- what a scan for the least key holds of what it has found
abbrev pub held_of : (Entry → ℕ) → Found Entry → Option Least
held_of key nowhere = None
held_of key (found i x) = Some (record { key = key x; at = i })

pub held-rank : (key : Entry → ℕ) (f : Found Entry) → option_map (λ (h : Least). h.at) (held_of key f) ≡ rank_of f
held-rank key nowhere = refl
held-rank key (found i x) = refl

-- a turn of it: an entry that has no key changes nothing
abbrev pub held_next : Option Least → ℕ → Option ℕ → Option Least
held_next held i None = held
held_next held i (Some k) = lower_key held i k

pub held-turn : (test : Entry → Bool) (key : Entry → ℕ) (l : List Entry) (i : ℕ) (d : Entry) → i < length l
    → held_next (held_of key (first test (lesser key) (take i l))) i (keyed test key (get_or l i d)) ≡ held_of key (first test (lesser key) (take (i + 1) l))
unfolding first
held-turn test key l i d inside =
    turn (test x) (scan (choosing test (lesser key)) nowhere 0 (take i l))
    ∙ ap (held_of key) (sym (scan-more (choosing test (lesser key)) nowhere l i d inside))
  where
    x : Entry
    x = get_or l i d

    turn : (b : Bool) (f : Found Entry) → held_next (held_of key f) i (cond b (Some (key x)) None) ≡ held_of key (consider (lesser key) b i x f)
    turn false f = refl
    turn true nowhere = refl
    turn true (found j y) = by (ltb (key x) (key y)) refl
      where
        by : (b : Bool) → ltb (key x) (key y) ≡ b → lower_key (Some (record { key = key y; at = j })) i (key x) ≡ held_of key (cond b (found i x) (found j y))
        by true q = rw (lt-leb (key y) (key x) (ltb-true (key x) (key y) q)) refl
        by false q = rw (le-leb (key y) (key x) (ltb-false (key x) (key y) q)) refl
