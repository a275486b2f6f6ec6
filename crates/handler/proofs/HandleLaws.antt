-- What the handler's code comes to, test by test and stage by stage.
-- Assumes nothing.
use Prim.Native.Nat.{ℕ, ◌+◌, ◌≤◌, ◌<◌}
use mathlib.Core.Path.{◌≡◌, refl, sym, ap, ap₂, ◌∙◌, subst}
use mathlib.Core.Bool.{Bool, true, false, not, ◌&&◌, ◌||◌}
use mathlib.Core.List.{List, [], ◌∷◌}
use native.Mathlib.Omega.{arith}
use lib.Dec.{eqb, leb}
use lib.ListN.{length, get_or}
use borrow.Author.Tests.{le-leb, lt-leb, ne_eqb}
use Rattle.lists.specs.Choose.{Found, nowhere, found}
use Rattle.lists.specs.Tests.{any, first_holding}
use Rattle.soundness.specs.declared.Check.{Check}
use Rattle.soundness.specs.Summary.{seat, is_found, Summary}
use Rattle.soundness.proofs.SummaryLaws.{any-quote, seat-tells, faced-contra, shown-national}
use Rattle.book.specs.declared.Entry.{Entry}
use Rattle.book.specs.Shape.{entries_of}
use Rattle.prices.specs.Side.{away}
use Rattle.prices.specs.Test.{holds}
use Rattle.prices.specs.Protect.{test24, test25, test26}
use Rattle.book.specs.Entries.{quote, quote_of, last_number}
use Rattle.book.specs.Look.{rank_of, quote_in, national}
use Rattle.terms.specs.declared.Terms.{Terms}
use Rattle.terms.specs.Terms.{market_of, guard_of}
use Rattle.arrival.specs.Arrive.{protection_for, stops_at_once, or_else, rejection, both_quotes, blocks}
use Rattle.arrival.proofs.ReasonLaws.{at-once-among}
use Rattle.arrival.specs.declared.Facing.{Facing}
use Rattle.arrival.specs.Asks.{Arriving, Faces, Enters}
use Rattle.series.specs.declared.Series.{Series}
use Rattle.handler.specs.declared.Ask.{Ask}
use Rattle.kinds.specs.Kinds.{enters, quotes, makers, carries}
use Rattle.kinds.proofs.KindLaws.{quote-cancel-makers, quotes-makers, enable-makers, stays_out, no_such}
use Rattle.kinds.proofs.KindLaws.{quotes-enter, enters-carries, enters-high, entry-cancel-carries}
use Rattle.handler.specs.Refuse.{bad_party, is_full, is_nowhere, gone_at}
use Rattle.handler.specs.Accept.{comer, terms_after}
use Rattle.handler.specs.Acts.{Accepted, Acts, facing_by, BlocksFor}
use Rattle.handler.proofs.Passed.{facts, tests, accepted-arriving, any-party, maker-within}

-- ---- the party ----

pub quote-party : (a : Ask) → quotes a.kind ≡ true → bad_party a ≡ false → (1 ≤ a.party) × (a.party ≤ 16)
quote-party a k h = maker-within a (quotes-makers a.kind k) h

pub cancel-carries : (a : Ask) → a.kind ≡ 7 → carries a.kind ≡ true
cancel-carries a k = rw k entry-cancel-carries

pub cancel-maker : (a : Ask) → a.kind ≡ 8 → makers a.kind ≡ true
cancel-maker a k = rw k quote-cancel-makers

pub enable-maker : (a : Ask) → a.kind ≡ 12 → makers a.kind ≡ true
enable-maker a k = rw k enable-makers

-- ---- what is not there ----

pub gone : (f : Found Entry) → gone_at (rank_of f) ≡ is_nowhere f
gone nowhere = refl
gone (found i e) = refl

unfound : (f : Found Entry) → is_nowhere f ≡ not (is_found f)
unfound nowhere = refl
unfound (found i e) = refl

pub full-none : (l : List Entry) (a : Ask) → enters a.kind ≡ false → false ≡ is_full l a
full-none l a h = rw h

pub full-space : (l : List Entry) (a : Ask) → length l < 64 → false ≡ is_full l a
full-space l a h = by (enters a.kind)
  where
    by : (b : Bool) → false ≡ (b && (leb 64 (length l) && not (quotes a.kind && any (quote_of a.party a.sell) l)))
    by true = rw (lt-leb 64 (length l) h)
    by false = refl

pub full-order : (l : List Entry) (a : Ask) → enters a.kind ≡ true → 64 ≤ length l → quotes a.kind ≡ false → true ≡ is_full l a
full-order l a k h j = rw (k, le-leb 64 (length l) h, j)

pub full-quote : (l : List Entry) (a : Ask) → 64 ≤ length l → quotes a.kind ≡ true → is_nowhere (quote_in a.party a.sell l) ≡ is_full l a
full-quote l a h j =
    rw (quotes-enter a.kind j, le-leb 64 (length l) h, j, any-quote a.party a.sell l)
    (unfound (quote_in a.party a.sell l))

-- a maker with an empty seat has no quote
pub seat-empty : {l : List Entry} {check : Check} → Summary l check → (party : ℕ) (s : Bool) → 1 ≤ party → party ≤ 16
    → not (get_or check.seats (seat party s) false) ≡ is_nowhere (quote_in party s l)
seat-empty {l} h party s low high = ap not (seat-tells h party s low high) ∙ sym (unfound (quote_in party s l))

-- ---- the series' numbers ----

module _ (t : Terms) (a : Ask) where
  ne : (n : ℕ) → (a.kind ≡ n → ⊥) → eqb a.kind n ≡ false
  ne n h = ne_eqb a.kind n h

  -- what enters is no kind that sets anything
  enters-not : (n : ℕ) → (leb 7 n && leb n 12) ≡ true → enters a.kind ≡ true → eqb a.kind n ≡ false
  enters-not n h k = no_such enters n a.kind (stays_out n h) k

  pub terms-enters : enters a.kind ≡ true
      → ◌≡◌ {A = Terms}
      (record {
        put = t.put;
        exempt = t.exempt;
        m = t.m;
        k = t.k;
        strike = t.strike;
        phase = t.phase;
        bid = t.bid;
        offer = t.offer;
        underlying = t.underlying;
        given = t.given + 1;
      }) (terms_after t a)
  unfolding terms_after
  terms-enters k = rw (k, enters-not 9 refl k, enters-not 10 refl k, enters-not 11 refl k)

  pub terms-away : a.kind ≡ 9
      → ◌≡◌ {A = Terms}
      (record {
        put = t.put;
        exempt = t.exempt;
        m = t.m;
        k = t.k;
        strike = t.strike;
        phase = t.phase;
        bid = a.price;
        offer = a.second;
        underlying = t.underlying;
        given = t.given;
      }) (terms_after t a)
  unfolding terms_after
  terms-away k = rw (k, stays_out 9 refl)

  pub terms-under : a.kind ≡ 10
      → ◌≡◌ {A = Terms}
      (record {
        put = t.put;
        exempt = t.exempt;
        m = t.m;
        k = t.k;
        strike = t.strike;
        phase = t.phase;
        bid = t.bid;
        offer = t.offer;
        underlying = a.price;
        given = t.given;
      }) (terms_after t a)
  unfolding terms_after
  terms-under k = rw (k, stays_out 10 refl)

  pub terms-phase : a.kind ≡ 11
      → ◌≡◌ {A = Terms}
      (record {
        put = t.put;
        exempt = t.exempt;
        m = t.m;
        k = t.k;
        strike = t.strike;
        phase = a.quantity;
        bid = t.bid;
        offer = t.offer;
        underlying = t.underlying;
        given = t.given;
      }) (terms_after t a)
  unfolding terms_after
  terms-phase k = rw (k, stays_out 11 refl)

  pub terms-same : enters a.kind ≡ false → (a.kind ≡ 9 → ⊥) → (a.kind ≡ 10 → ⊥) → (a.kind ≡ 11 → ⊥) → t ≡ terms_after t a
  unfolding terms_after
  terms-same k e f g = rw (k, ne 9 e, ne 10 f, ne 11 g)

-- ---- an event that no test refuses ----

pub acts-accepted : {s : Series} {check : Check} {a : Ask} → Acts s check a → Accepted s a
acts-accepted x = record { sound = x.whole.sound; kind = x.kind; passes = x.passes }

module _ {s : Series} {check : Check} {a : Ask} (x : Acts s check a) where
  pub acts-comer : enters a.kind ≡ true → (s.terms.given ≤ last_number) × ((a.party ≤ 99) × (a.kind ≤ 15))
  acts-comer k =
      ((facts s a (acts-accepted x)).sound.most, ((any-party a (enters-carries a.kind k) (tests s a (acts-accepted x)).party).1, enters-high a.kind k))

  -- it faces what the test of the series has seen
  acts-faces : (e : Entry) → Faces s.terms e (entries_of s.book) (facing_by check s.terms e.sell)
  acts-faces e = record {
    contra = faced-contra x.whole.seen e.sell;
    national = shown-national x.whole.seen e.sell (away (market_of s.terms) e.sell);
  }

  pub acts-enters : enters a.kind ≡ true → (e : Entry) → e ≡ comer s.terms.given a → (f : Facing) → f ≡ facing_by check s.terms e.sell
      → Enters s.terms e f s.book
  acts-enters k e q f p = record {
    well = x.whole.well;
    arriving = subst (λ (y : Entry). Arriving s.terms y (entries_of s.book)) (sym q) (accepted-arriving s a (acts-accepted x) k);
    faces = subst (Faces s.terms e (entries_of s.book)) (sym p) (acts-faces e);
  }

pub same-facing : {c c' n n' : ℕ} → c ≡ c' → n ≡ n' → ◌≡◌ {A = Facing} (record { contra = c; national = n }) (record { contra = c'; national = n' })
same-facing p q = λ i. record { contra = p i; national = q i }

-- 25 and 26 are told by the series' numbers and the limit alone
pub blocks-by : (t : Terms) (e : Entry) (l : List Entry) → quote e ≡ true
    → (holds e.sell (test25 (guard_of t) e.sell e.limit) || holds e.sell (test26 (guard_of t) e.sell e.limit)) ≡ blocks t e l
unfolding blocks rejection protection_for
blocks-by t e l q =
    rw q (by (holds e.sell (test25 (guard_of t) e.sell e.limit)) (holds e.sell (test26 (guard_of t) e.sell e.limit))
    (holds e.sell (test24 e.sell (national e.sell (away (market_of t) e.sell) l) e.limit)) (stops_at_once t e l) (at-once-among t e l).most)
  where
    by : (a b c : Bool) (why : ℕ) → why ≤ 23 → (a || b) ≡ both_quotes (or_else (first_holding ((25, a) ∷ (26, b) ∷ (24, c) ∷ [])) why)
    by true b c why h = refl
    by false true c why h = refl
    by false false true why h = refl
    by false false false why h = sym (rw (ne_eqb why 25 (λ z. omega (arith, z)), ne_eqb why 26 (λ z. omega (arith, z))) refl)

pub blocking-quote : (t : Terms) (a : Ask) (b25 b26 : Bool) → quotes a.kind ≡ true → b25 ≡ holds a.sell (test25 (guard_of t) a.sell a.price)
    → b26 ≡ holds a.sell (test26 (guard_of t) a.sell a.price) → (l : List Entry) → (b25 || b26) ≡ (quotes a.kind && blocks t (comer t.given a) l)
blocking-quote t a b25 b26 k p q l =
    ap₂ ◌||◌ p q ∙ blocks-by t (comer t.given a) l k
    ∙ sym (ap (λ (b : Bool). b && blocks t (comer t.given a) l) k)

pub never_blocks : (t : Terms) (a : Ask) → quotes a.kind ≡ false → BlocksFor false t a
never_blocks t a k l = sym (ap (λ (b : Bool). b && blocks t (comer t.given a) l) k)
