-- The code's figures for one entry are the definitions': what it aims at, whether it is marketable, and what it becomes.
-- Assumes nothing.
use Prim.Native.Nat.{ℕ}
use mathlib.Core.Path.{◌≡◌, refl, sym, subst, ap, ◌∙◌}
use mathlib.Core.Bool.{Bool, true, false, ◌&&◌}
use mathlib.Core.List.{List, [], ◌∷◌}
use Rattle.prices.specs.declared.Prices.{Prices}
use Rattle.prices.specs.declared.Market.{Market}
use Rattle.prices.specs.declared.Interest.{Interest}
use Rattle.prices.specs.declared.Against.{Against}
use Rattle.prices.specs.Step.{mpv, none_or_legal}
use Rattle.prices.specs.Side.{away}
use Rattle.prices.specs.Aims.{aims}
use Rattle.prices.specs.Rest.{marketable, resting_prices}
use Rattle.prices.specs.Ease.{eased_to}
use Rattle.prices.proofs.StepLaws.{if-any-is}
use Rattle.lists.specs.Places.{requeue}
use Rattle.lists.specs.Choose.{found}
use Rattle.lists.specs.Run.{go}
use Rattle.lists.proofs.Bools.{and_left}
use Rattle.book.specs.declared.Entry.{Entry}
use Rattle.book.specs.declared.Book.{Book}
use Rattle.book.specs.declared.Front.{Front}
use Rattle.book.specs.Entries.{display, priced, interest_of}
use Rattle.book.specs.Shape.{entries_of}
use Rattle.book.specs.Look.{contra, front_of, contra_in, best_contra}
use Rattle.book.proofs.LookLaws.{front-faces}
use Rattle.soundness_theory.proofs.FrontLaws.{if-any-contra}
use Rattle.telling.specs.Tell.{repriced}
use Rattle.soundness_theory.specs.SoundMarket.{sound_market}
use Rattle.telling.specs.Stage.{Staged, alone}
use Rattle.settling_theory.specs.Settle.{eased_prices, aims_in, trade_at, reprice, trade_or_move, stir_at}
use Rattle.settling.specs.Turns.{entry_in, against_of, Judged, Watched, Turn, trade_step, StirTurn}
use Rattle.settling_theory.proofs.Shapes.{rest_prices, marketable_in}
use Rattle.soundness_theory.proofs.MarketFacts.{sound-for}
use Rattle.telling.proofs.StageLaws.{staged-step, roomy-step}

-- a turn with a new entry, by another name
pub turn-entry : {b : Book} {i n : ℕ} {room : List ℕ} (e x : Entry) → e ≡ x → Turn b i room n (repriced x ∷ []) → Turn b i room n (repriced e ∷ [])
turn-entry {b} {i} {n} {room} e x q h = subst (λ (z : Entry). Turn b i room n (repriced z ∷ [])) (sym q) h

pub staged-entry : {b' : Book} {n n' : ℕ} {room room' : List ℕ} (i : ℕ) (l : List Entry) (e x : Entry) → e ≡ x
    → Staged (alone l (go (repriced e) (requeue i e l))) room n b' room' n' → Staged (alone l (go (repriced x) (requeue i x l))) room n b' room' n'
staged-entry {b'} {n} {n'} {room} {room'} i l e x q h = subst (λ (z : Entry). Staged (alone l (go (repriced z) (requeue i z l))) room n b' room' n') q h

-- ---- easing ----

same-prices : {d d' w w' : ℕ} → d ≡ d' → w ≡ w' → ◌≡◌ {A = Prices} (record { display = d; working = w }) (record { display = d'; working = w' })
same-prices p q = λ i. record { display = p i; working = q i }

pub eased-entry : (k : Market) (e : Entry) {d a w : ℕ} (e' : Entry) → d ≡ display e → a ≡ away k e.sell → w ≡ eased_to e.sell a d e.working
    → e' ≡ priced (record { display = d; working = w }) e → e' ≡ priced (eased_prices k e) e
eased-entry k e e' p q r s = s ∙ ap (λ (z : Prices). priced z e) (same-prices p (r ∙ rw (q, p) refl))

-- ---- trades and moves ----

pub watched-bounds : {k : Market} {front : Front} {b : Book} → Watched k front b → Judged k front
unfolding sound_market
watched-bounds {k} {front} {b} w = record {
  bounds = λ s. record {
    step = and_left (mpv k.m) (none_or_legal k.m k.bid && none_or_legal k.m k.offer) w.sound.market;
    away = if-any-is ((sound-for w.sound).0.legal s);
    contra = rw (front-faces front (entries_of b) w.known s) (if-any-is (if-any-contra s (sound-for w.sound).1));
  };
}

module _ (k : Market) (front : Front) (b : Book) (known : front ≡ front_of (entries_of b)) (e : Entry) {q : Interest} {f : Against}
    (hq : q ≡ interest_of e) (hf : f ≡ against_of k front e.sell) where
  faces : contra_in front e.sell ≡ contra e.sell (entries_of b)
  faces = front-faces front (entries_of b) known e.sell

  pub aims-are : (p : Prices) → p ≡ aims f.m q.kind q.sell q.limit f.away f.contra → p ≡ aims_in k (entries_of b) e
  aims-are p h = h ∙ rw (hq, hf, faces) refl

  pub market-is : (p : Prices) (t : Bool) → p ≡ aims f.m q.kind q.sell q.limit f.away f.contra → t ≡ marketable q.kind q.sell f.contra p
      → t ≡ marketable_in k (entries_of b) e
  market-is p t h r = r ∙ rw (aims-are p h, hq, hf, faces) refl

  pub rest-entry : (p r : Prices) {d : ℕ} (e' : Entry) → p ≡ aims f.m q.kind q.sell q.limit f.away f.contra → d ≡ display e
      → r ≡ resting_prices e.sell d p → e' ≡ priced (record { display = r.display; working = r.working }) e
      → e' ≡ priced (rest_prices k (entries_of b) e) e
  rest-entry p r e' h u s t = t ∙ ap (λ (z : Prices). priced z e) (s ∙ rw (u, aims-are p h) refl)

module _ (k : Market) (l : List Entry) (i : ℕ) (e : Entry) where
  pub stir-trades : marketable_in k l e ≡ true → stir_at k l (found i e) ≡ trade_at l i e (best_contra e.sell false l)
  stir-trades h = ap (trade_or_move k l i e) h

  pub stir-rests : marketable_in k l e ≡ false → stir_at k l (found i e) ≡ reprice i (rest_prices k l e) e l
  stir-rests h = ap (trade_or_move k l i e) h

-- ---- the turn of an entry that stirs, by the code's figures for it ----

module _ {k : Market} {front : Front} {b : Book} {i n : ℕ} {room : List ℕ} (turn : StirTurn k front b i room n)
    {q : Interest} {f : Against} (p : Prices) (t : Bool) (hq : q ≡ interest_of (entry_in b i)) (hf : f ≡ against_of k front (entry_in b i).sell)
    (hp : p ≡ aims f.m q.kind q.sell q.limit f.away f.contra) (ht : t ≡ marketable q.kind q.sell f.contra p) where
  judged : t ≡ marketable_in k (entries_of b) (entry_in b i)
  judged = market-is k front b turn.watched.known (entry_in b i) hq hf p t hp ht

  module _ (yes : t ≡ true) where
    trades : stir_at k (entries_of b) (found i (entry_in b i)) ≡ trade_step b i
    trades = stir-trades k (entries_of b) i (entry_in b i) (sym judged ∙ yes)

    pub trade-turn : Turn b i room n (alone (entries_of b) (trade_step b i)).records
    trade-turn = record { place = turn.turn.place; roomy = roomy-step (entries_of b) trades turn.turn.roomy }

    pub trade-staged : {b' : Book} {room' : List ℕ} {n' : ℕ} → Staged (alone (entries_of b) (trade_step b i)) room n b' room' n'
        → Staged (alone (entries_of b) (stir_at k (entries_of b) (found i (entry_in b i)))) room n b' room' n'
    trade-staged s = staged-step (entries_of b) trades s

  module _ (no : t ≡ false) {d : ℕ} (r : Prices) (e' : Entry) (hd : d ≡ display (entry_in b i)) (hr : r ≡ resting_prices (entry_in b i).sell d p)
      (he : e' ≡ priced (record { display = r.display; working = r.working }) (entry_in b i)) where
    rests : stir_at k (entries_of b) (found i (entry_in b i)) ≡ reprice i (rest_prices k (entries_of b) (entry_in b i)) (entry_in b i) (entries_of b)
    rests = stir-rests k (entries_of b) i (entry_in b i) (sym judged ∙ no)

    becomes : e' ≡ priced (rest_prices k (entries_of b) (entry_in b i)) (entry_in b i)
    becomes = rest-entry k front b turn.watched.known (entry_in b i) hq hf p r e' hp hd hr he

    pub move-turn : Turn b i room n (repriced e' ∷ [])
    move-turn =
        turn-entry e' (priced (rest_prices k (entries_of b) (entry_in b i)) (entry_in b i)) becomes
        (record { place = turn.turn.place; roomy = roomy-step (entries_of b) rests turn.turn.roomy })

    pub move-staged : {b' : Book} {room' : List ℕ} {n' : ℕ} → Staged (alone (entries_of b) (go (repriced e') (requeue i e' (entries_of b)))) room n b' room' n'
        → Staged (alone (entries_of b) (stir_at k (entries_of b) (found i (entry_in b i)))) room n b' room' n'
    move-staged s =
        staged-step (entries_of b) rests
        (staged-entry i (entries_of b) e' (priced (rest_prices k (entries_of b) (entry_in b i)) (entry_in b i)) becomes s)
