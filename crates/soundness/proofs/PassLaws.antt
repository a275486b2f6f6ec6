-- THE PASS over the entries that rest: what is kept of those read so far decides each clause for the next, and at the end the whole.
-- Assumes nothing.
use Prim.Native.Nat.{ℕ, suc, ◌+◌, ◌≤◌, ◌<◌, min}
use mathlib.Core.Path.{◌≡◌, refl, sym, subst, ap, ◌∙◌}
use mathlib.Core.Bool.{Bool, true, false, cond, not, ◌&&◌, ◌||◌}
use mathlib.Core.List.{List, [], ◌∷◌, ◌++◌, map}
use native.Mathlib.Numerals.{add-one}
use native.Mathlib.Omega.{arith}
use lib.Dec.{eqb, ltb}
use lib.ListN.{length, take, drop, get_or, set, replicate, length-set}
use lib.Seq.{length-take-le, take-take, get_or-take, take-suc, take-suc-set, split_at, append_snoc}
use Rattle.std.specs.Prelude.{None, Some}
use Rattle.std.proofs.lemmas.Option.{none-some, same_Some}
use Rattle.prices.specs.Step.{mpv}
use Rattle.lists.specs.Tests.{All, all, any, pairs}
use Rattle.lists.specs.Choose.{scan}
use Rattle.lists.proofs.Bools.{and_left, and_right, and_both}
use Rattle.lists.proofs.PlaceLaws.{length-snoc}
use Rattle.lists.proofs.TestLaws.{all_true, all_map, all_snoc}
use Rattle.book.specs.declared.Entry.{Entry}
use Rattle.book.specs.Entries.{quote, display}
use Rattle.book.specs.Shape.{zero_entry}
use Rattle.book.specs.Look.{contra, national, nearest, working}
use Rattle.soundness_theory.specs.Sound.{sound_entry, distinct, one_quote, uncrossed, sound_pair, sound_entries}
use Rattle.soundness.specs.declared.Check.{Check}
use Rattle.soundness.specs.declared.Best.{Best}
use Rattle.soundness.specs.Summary.{seat_of, Seated, offer_of, sells_at, better, best_apart, finding, Summary, Passed, no_offer}
use Rattle.soundness.proofs.PairLaws.{contrary, pairs-and, pairs-snoc-is, pairs-front, all-snoc-is, all-front, any-snoc-is, map_snoc, new-decided}
use Rattle.soundness.proofs.SpreadLaws.{spread-decides}
use Rattle.soundness.proofs.ClauseLaws.{clauses-of, works, works-high, shows-high}
use Rattle.soundness.proofs.BestLaws.{highest-more, Lowest, lowest-none, lowest-more, lowest-told, held-some}
use Rattle.soundness.proofs.SeatLaws.{seated-none, seat-decides, seated-more}

abbrev number : Entry → ℕ
number e = e.number

-- ---- the clauses of a list of entries, one by one ----

module _ (m given : ℕ) where
  sound-parts : (l : List Entry)
      → sound_entries m given l ≡ (all (sound_entry m given) l && (pairs distinct l && (pairs one_quote l && pairs uncrossed l)))
  unfolding sound_entries sound_pair
  sound-parts l =
      ap (λ (b : Bool). all (sound_entry m given) l && b)
      (pairs-and distinct (λ (x y : Entry). one_quote x y && uncrossed x y) l ∙ ap (λ (b : Bool). pairs distinct l && b) (pairs-and one_quote uncrossed l))

  module _ (l : List Entry) (h : sound_entries m given l ≡ true) where
    each : (all (sound_entry m given) l && (pairs distinct l && (pairs one_quote l && pairs uncrossed l))) ≡ true
    each = sym (sound-parts l) ∙ h

    part-entries : all (sound_entry m given) l ≡ true
    part-entries = and_left (all (sound_entry m given) l) (pairs distinct l && (pairs one_quote l && pairs uncrossed l)) each

    rest : (pairs distinct l && (pairs one_quote l && pairs uncrossed l)) ≡ true
    rest = and_right (all (sound_entry m given) l) (pairs distinct l && (pairs one_quote l && pairs uncrossed l)) each

    part-numbers : pairs distinct l ≡ true
    part-numbers = and_left (pairs distinct l) (pairs one_quote l && pairs uncrossed l) rest

    part-quotes : pairs one_quote l ≡ true
    part-quotes = and_left (pairs one_quote l) (pairs uncrossed l) (and_right (pairs distinct l) (pairs one_quote l && pairs uncrossed l) rest)

  -- an entry that breaks a clause, alone or with one before it, breaks the list
  module _ (l : List Entry) (e : Entry) (r : List Entry) where
    regrouped : l ++ (e ∷ r) ≡ (l ++ (e ∷ [])) ++ r
    regrouped = sym (append_snoc l e r)

    entry-breaks : sound_entry m given e ≡ false → sound_entries m given (l ++ (e ∷ r)) ≡ false
    entry-breaks =
        contrary (sound_entries m given (l ++ (e ∷ r))) (sound_entry m given e)
        (λ h. and_right (all (sound_entry m given) l) (sound_entry m given e) (sym (all-snoc-is (sound_entry m given) l e)
        ∙ all-front (sound_entry m given) (l ++ (e ∷ [])) r (rw regrouped at (part-entries (l ++ (e ∷ r)) h))))

    pair-breaks : (test : Entry → Entry → Bool) → (sound_entries m given (l ++ (e ∷ r)) ≡ true → pairs test (l ++ (e ∷ r)) ≡ true)
        → all (λ (y : Entry). test y e) l ≡ false → sound_entries m given (l ++ (e ∷ r)) ≡ false
    pair-breaks test f =
        contrary (sound_entries m given (l ++ (e ∷ r))) (all (λ (y : Entry). test y e) l)
        (λ h. and_right (pairs test l) (all (λ (y : Entry). test y e) l) (sym (pairs-snoc-is test l e)
        ∙ pairs-front test (l ++ (e ∷ [])) r (rw regrouped at (f h))))

-- ---- what is kept of the entries read so far ----

pub record Gathered (m given : ℕ) (l : List Entry) (best : Best) (numbers : List ℕ) (seats : List Bool) : Type 0 where
  pub entries : all (sound_entry m given) l ≡ true
  pub different : pairs distinct l ≡ true
  pub quotes : pairs one_quote l ≡ true
  pub top : All (λ (e : Entry). e.number ≤ best.top) l
  pub bid : best.bid ≡ contra true l
  pub offer : Lowest working l best.offer
  pub shownbid : best.shownbid ≡ national true 0 l
  pub shownoffer : Lowest display l best.shownoffer
  pub quoted : best.quoted ≡ any quote l
  pub column : take (length l) numbers ≡ map number l
  pub places : length numbers ≡ 64
  pub seated : Seated l seats

module _ (m given : ℕ) (l : List Entry) (best : Best) (numbers : List ℕ) (seats : List Bool) (g : Gathered m given l best numbers seats) (e : Entry) where
  number-decides : all (λ (y : Entry). distinct y e) l ≡ (ltb best.top e.number || not (any (eqb e.number) (take (length l) numbers)))
  number-decides = new-decided number best.top l e g.top ∙ rw g.column

  gathered-more : mpv m ≡ true → sound_entry m given e ≡ true → (ltb best.top e.number || not (any (eqb e.number) (take (length l) numbers))) ≡ true
      → get_or seats (seat_of e) false ≡ false → length l < 64
      → Gathered m given (l ++ (e ∷ [])) (better best e) (set numbers (length l) e.number) (set seats (seat_of e) (not (eqb (seat_of e) 0)))
  gathered-more v sound new vacant few =
      let c = clauses-of m given e sound in
      let short : length l < length numbers = omega (arith, g.places) in
      record {
        entries = all-snoc-is (sound_entry m given) l e ∙ rw (g.entries, sound);
        different = pairs-snoc-is distinct l e ∙ and_both (pairs distinct l) (all (λ (y : Entry). distinct y e) l) g.different (number-decides ∙ new);
        quotes = pairs-snoc-is one_quote l e
            ∙ and_both (pairs one_quote l) (all (λ (y : Entry). one_quote y e) l) g.quotes (seat-decides l e seats c g.seated ∙ ap not vacant);
        top = all_snoc (λ (x : Entry). x.number ≤ (better best e).top) l e (all_map (λ x h. omega (arith, h)) l g.top) (omega arith);
        bid = highest-more working l e best.bid g.bid;
        offer =
            subst (λ (q : ℕ). Lowest working (l ++ (e ∷ [])) (min best.offer (sells_at e.sell q))) (held-some e.working (works m given e c v))
            (lowest-more working l e best.offer g.offer (works-high m given e c));
        shownbid = highest-more display l e best.shownbid g.shownbid;
        shownoffer = lowest-more display l e best.shownoffer g.shownoffer (shows-high m given e c);
        quoted = ap (λ (b : Bool). b || quote e) g.quoted ∙ sym (any-snoc-is quote l e);
        column = ap (λ (k : ℕ). take k (set numbers (length l) e.number)) (length-snoc l e)
            ∙ take-suc-set numbers (length l) e.number short ∙ rw g.column (sym (map_snoc number l e));
        places = length-set numbers (length l) e.number ∙ g.places;
        seated = seated-more l e seats c g.seated;
      }

-- a list that is not sound is answered by none
pub refused : {m given : ℕ} {l : List Entry} → sound_entries m given l ≡ false → Passed m given l None
refused h = record { verdict = sym h; summary = λ check t. absurd (none-some check t) }

-- every entry has been read: the best prices decide
pub all_read : {m given : ℕ} {l : List Entry} {best : Best} {numbers : List ℕ} {seats : List Bool} → mpv m ≡ true
    → Gathered m given l best numbers seats → Passed m given l (finding best seats)
all_read {m} {given} {l} {best} {numbers} {seats} v g = go (best_apart best.bid (offer_of best.offer)) refl
  where
    decided : sound_entries m given l ≡ best_apart best.bid (offer_of best.offer)
    decided =
        sound-parts m given l
        ∙ rw (g.entries, g.different, g.quotes, g.bid, lowest-told working l best.offer g.offer)
        (spread-decides l (all_map (λ x h. works m given x (clauses-of m given x h) v) l (all_true (sound_entry m given) l g.entries)))

    answer : Check
    answer = record {
      bid = best.bid;
      offer = offer_of best.offer;
      shownbid = best.shownbid;
      shownoffer = offer_of best.shownoffer;
      quoted = best.quoted;
      seats = seats;
    }

    seen : Summary l answer
    seen = record {
      bid = g.bid;
      offer = lowest-told working l best.offer g.offer;
      shownbid = g.shownbid;
      shownoffer = lowest-told display l best.shownoffer g.shownoffer;
      quoted = g.quoted;
      seats = g.seated;
    }

    go : (b : Bool) → best_apart best.bid (offer_of best.offer) ≡ b → Passed m given l (cond b (Some answer) None)
    go false q = refused (decided ∙ q)
    go true q = record { verdict = sym (decided ∙ q); summary = λ check t. subst (Summary l) (same_Some _ _ t) seen }

-- ---- the loop: the first i of n entries have been read ----

pub record Reading (m given : ℕ) (es : List Entry) (n : ℕ) (best : Best) (numbers : List ℕ) (seats : List Bool) (i : ℕ) : Type 0 where
  pub within : i ≤ n
  pub so_far : Gathered m given (take i es) best numbers seats

pub read-start : (m given : ℕ) (es : List Entry) (n : ℕ)
    → Reading m given es n (record { top = 0; bid = 0; offer = no_offer; shownbid = 0; shownoffer = no_offer; quoted = false }) (replicate 64 0)
    (replicate 33 false) 0
unfolding all any pairs nearest scan
read-start m given es n = record {
  within = omega arith;
  so_far = record {
    entries = refl;
    different = refl;
    quotes = refl;
    top = tt;
    bid = refl;
    offer = lowest-none working;
    shownbid = refl;
    shownoffer = lowest-none display;
    quoted = refl;
    column = refl;
    places = refl;
    seated = seated-none;
  };
}

module _ {m given : ℕ} {es : List Entry} {n : ℕ} {best : Best} {numbers : List ℕ} {seats : List Bool} {i : ℕ}
    (v : Reading m given es n best numbers seats i) (fits : n ≤ length es) (inside : i < n) where
  here : Entry
  here = get_or es i zero_entry

  parts : take n es ≡ take i es ++ (here ∷ drop (suc i) (take n es))
  unfolding here
  parts =
      let short : i < length (take n es) = rw (length-take-le n es fits) inside in
      let le : i ≤ n = omega arith in
      split_at (take n es) i zero_entry short ∙ rw (take-take i n es le, get_or-take n es i zero_entry inside) refl

  read : length (take i es) ≡ i
  read = let le : i ≤ length es = omega arith in length-take-le i es le

  pub entry-fails : sound_entry m given (get_or es i zero_entry) ≡ false → sound_entries m given (take n es) ≡ false
  unfolding here
  entry-fails h = rw parts (entry-breaks m given (take i es) here (drop (suc i) (take n es)) h)

  pub number-fails : (ltb best.top (get_or es i zero_entry).number || not (any (eqb (get_or es i zero_entry).number) (take i numbers))) ≡ false
      → sound_entries m given (take n es) ≡ false
  unfolding here
  number-fails h =
      rw parts (pair-breaks m given (take i es) here (drop (suc i) (take n es)) distinct
      (part-numbers m given (take i es ++ (here ∷ drop (suc i) (take n es))))
      (number-decides m given (take i es) best numbers seats v.so_far here ∙ rw read h))

  module _ (sound : sound_entry m given (get_or es i zero_entry) ≡ true) where
    pub seat-fails : get_or seats (seat_of (get_or es i zero_entry)) false ≡ true → sound_entries m given (take n es) ≡ false
    unfolding here
    seat-fails h =
        rw parts (pair-breaks m given (take i es) here (drop (suc i) (take n es)) one_quote
        (part-quotes m given (take i es ++ (here ∷ drop (suc i) (take n es))))
        (seat-decides (take i es) here seats (clauses-of m given here sound) v.so_far.seated ∙ ap not h))

    pub read_more : (ltb best.top (get_or es i zero_entry).number || not (any (eqb (get_or es i zero_entry).number) (take i numbers))) ≡ true
        → get_or seats (seat_of (get_or es i zero_entry)) false ≡ false → n ≤ 64 → mpv m ≡ true
        → Reading m given es n (better best (get_or es i zero_entry)) (set numbers i (get_or es i zero_entry).number)
        (set seats (seat_of (get_or es i zero_entry)) (not (eqb (seat_of (get_or es i zero_entry)) 0))) (i + 1)
    read_more new vacant few step =
        let e = get_or es i zero_entry in
        let last : i < length es = omega arith in
        let grown : take (i + 1) es ≡ take i es ++ (e ∷ []) = rw (add-one i) (take-suc es i zero_entry last) in
        let z = gathered-more m given (take i es) best numbers seats v.so_far e step sound (rw read new) vacant (omega (arith, read)) in
        record { within = omega arith; so_far = rw grown (rw read at z) }

pub read_done : {m given : ℕ} {es : List Entry} {n : ℕ} {best : Best} {numbers : List ℕ} {seats : List Bool} {i : ℕ} → mpv m ≡ true
    → Reading m given es n best numbers seats i → n ≤ i → Passed m given (take n es) (finding best seats)
read_done {n = n} {i = i} v g h = let same : i ≡ n = omega (arith, g.within) in all_read v (rw same at g.so_far)
