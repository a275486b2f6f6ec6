-- The handler on a series in a buffer: what the code cites.
-- Assumes nothing.
use Prim.Native.Nat.{ℕ, ◌≤◌, ◌<◌}
use mathlib.Core.Path.{◌≡◌, refl, sym, ap, ◌∙◌, subst⁻¹}
use mathlib.Core.Bool.{Bool, true, false, cond, ◌&&◌, and-true}
use mathlib.Core.List.{List}
use Rattle.std.specs.Prelude.{Option, None, Some}
use native.Mathlib.Omega.{arith}
use lib.Dec.{eqb}
use lib.ListN.{length}
use borrow.Author.Tests.{eqb-true, eq-eqb, lt-ltb, le-ltb}
use Rattle.std.specs.Prelude.{Result, Ok, Err, is_ok}
use Rattle.std.specs.Result.{result_unwrap_or}
use Rattle.lists.proofs.Bools.{clash}
use Rattle.kinds.specs.declared.refusal.Refusal.{Refusal}
use Rattle.kinds.specs.Refusals.{number_of}
use Rattle.bits.specs.Fields.{Bytes}
use Rattle.packing.specs.declared.setup.Setup.{Setup}
use Rattle.packing.specs.declared.message.Event.{Event}
use Rattle.packing.specs.Room.{room_size}
use Rattle.packing.specs.Codec.{only_if, nothing, unpack_of}
use Rattle.packing.specs.Setup.{setups}
use Rattle.book.specs.Shape.{book_of}
use Rattle.series.specs.declared.Series.{Series}
use Rattle.series.specs.Series.{new_series, opened}
use Rattle.series.proofs.SoundSeriesDecides.{sound-series-decides}
use Rattle.series.proofs.SetupSound.{setup-sound}
use Rattle.handler.specs.Handle.{Answered, Handled, in_room, handled_as}
use Rattle.handler.proofs.Refusals.{Unchanged, refusals-keep-as}
use Rattle.series_buffer.specs.State.{unpack_series, packs_series, series_bytes, pack_series, is_stored, buffer_after, state_size}
use Rattle.series_buffer.proofs.RoundTrip.{series-pack}
use Rattle.series_buffer.proofs.StateLaws.{other_length}
use Rattle.series_buffer.proofs.SoundPacks.{sound-packs}
use Rattle.server.specs.Serve.{SetUp, set_up, served, unserved, holding, packed_again, serve_in, serve_as}

-- ---- buffers ----

-- a buffer that holds a series has its length
pub state-long : (state : List ℕ) (s : Series) → unpack_series state ≡ Some s → length state ≡ state_size
state-long state s h = by (eqb (length state) state_size) refl
  where
    by : (b : Bool) → eqb (length state) state_size ≡ b → length state ≡ state_size
    by true q = eqb-true (length state) state_size q
    by false q =
        absurd
        (let n =
        other_length state
        (λ e. let f = eq-eqb (length state) state_size e in let z : true ≡ false = sym f ∙ q in let w : ◌≡◌ {A = ℕ} 0 1 = cc in
        omega arith) in let w : ◌≡◌ {A = ℕ} 0 1 = cc in omega arith)

-- what packing into the buffer leaves is what it then holds
pub stored-holds : (state : List ℕ) (s : Series) → length state ≡ state_size → buffer_after state s ≡ holding state (pack_series s)
unfolding pack_series is_stored
stored-holds state s l = ap (λ (b : Bool). cond (b && packs_series s) (series_bytes s) state) (eq-eqb (length state) state_size l) ∙ by (packs_series s)
  where
    by : (b : Bool) → cond b (series_bytes s) state ≡ holding state (only_if b (Some (series_bytes s)))
    by true = refl
    by false = refl

-- ---- one message ----

module _ (state : List ℕ) (event : Option Event) (room : List ℕ) where
  pub serve-short : length room < room_size → unserved 10 state room ≡ serve_as state event room
  unfolding serve_as
  serve-short h = sym (ap (λ (b : Bool). cond b (unserved 10 state room) (serve_in state event room (unpack_series state))) (lt-ltb (length room) room_size h))

  module _ (space : room_size ≤ length room) where
    inside : serve_as state event room ≡ serve_in state event room (unpack_series state)
    unfolding serve_as
    inside = ap (λ (b : Bool). cond b (unserved 10 state room) (serve_in state event room (unpack_series state))) (le-ltb (length room) room_size space)

    pub serve-none : unpack_series state ≡ None → unserved 11 state room ≡ serve_as state event room
    serve-none h = sym (inside ∙ ap (serve_in state event room) h)

    module _ (series : Series) (held : unpack_series state ≡ Some series) (r : Answered) (after : List ℕ)
        (answer : in_room r after ≡ handled_as series event room) where
      again : packed_again state (in_room r after) ≡ serve_as state event room
      again = ap (packed_again state) answer ∙ sym (inside ∙ ap (serve_in state event room) held)

      pub serve-refused : (r.refusal ≡ 0 → ⊥) → Bytes state → served r.refusal 0 state after ≡ serve_as state event room
      serve-refused h b =
          let kept : Unchanged series room (in_room r after) =
          subst⁻¹ (Unchanged series room) answer
          (refusals-keep-as series event room (λ k. h (ap (λ (x : Handled). x.answer.refusal) answer ∙ k))) in
          let same : holding state (pack_series r.series) ≡ state =
          ap (λ (s : Series). holding state (pack_series s)) kept.series ∙ ap (holding state) (series-pack state series b held) in
          sym (λ i. served r.refusal (kept.count i) (same i) after) ∙ again

      pub serve-accepted : r.refusal ≡ 0 → (out : List ℕ) → out ≡ buffer_after state r.series → served 0 r.count out after ≡ serve_as state event room
      serve-accepted z out o =
          let same : out ≡ holding state (pack_series r.series) = o ∙ stored-holds state r.series (state-long state series held) in
          let zero : ◌≡◌ {A = ℕ} 0 r.refusal = sym z in
          (λ i. served (zero i) r.count (same i) after) ∙ again

-- ---- setup ----

-- a setup that is refused unpacks to nothing, and one that is not gives its new series
was-refused : (u : Option Setup) (why : Refusal) → opened u ≡ Err why → (u ≡ None) × (number_of why ≡ nothing)
was-refused None why h = (refl, sym (ap number_in h))
  where
    number_in : Result Series Refusal → ℕ
    number_in (Ok s) = 0
    number_in (Err why) = number_of why
was-refused (Some s) why h = clash refl (ap is_ok h)

was-opened : (u : Option Setup) (s : Series) → opened u ≡ Ok s → (x : Setup) × (u ≡ Some x) × (s ≡ new_series x)
was-opened None s h = clash (ap is_ok h) refl
was-opened (Some x) s h = (x, refl, sym (ap (λ (r : Result Series Refusal). result_unwrap_or r s) h))

new-packs : (bytes : List ℕ) (s : Setup) → unpack_of setups bytes ≡ Some s → packs_series (new_series s) ≡ true
unfolding book_of
new-packs bytes s h = sound-packs (new_series s) ((sound-series-decides (new_series s)).1 (setup-sound bytes s h)) refl refl

module _ (bytes state : List ℕ) where
  pub setup-refused : (why : Refusal) → opened (unpack_of setups bytes) ≡ Err why → (n : ℕ) → n ≡ number_of why
      → ◌≡◌ {A = SetUp} (record { refusal = n; state = state }) (set_up state (unpack_of setups bytes))
  setup-refused why h n is =
      let r = was-refused (unpack_of setups bytes) why h in
      (λ i. record { refusal = (is ∙ r.1) i; state = state }) ∙ sym (ap (set_up state) r.0)

  module _ (series : Series) (accepted : opened (unpack_of setups bytes) ≡ Ok series) (stored : Bool) (out : List ℕ) (put : stored ≡ is_stored state series)
      (after : out ≡ buffer_after state series) where
    given : (x : Setup) × (unpack_of setups bytes ≡ Some x) × (series ≡ new_series x)
    given = was-opened (unpack_of setups bytes) series accepted

    long : stored ≡ eqb (length state) state_size
    unfolding is_stored
    long =
        put ∙ ap (is_stored state) given.2 ∙ ap (λ (b : Bool). eqb (length state) state_size && b) (new-packs bytes given.0 given.1)
        ∙ and-true (eqb (length state) state_size)

    left : out ≡ cond stored (series_bytes (new_series given.0)) state
    left = after ∙ ap (λ (b : Bool). cond b (series_bytes series) state) (sym put) ∙ ap (λ (x : Series). cond stored (series_bytes x) state) given.2

    by-size : (b : Bool) → stored ≡ b → ◌≡◌ {A = SetUp} (record { refusal = cond b 0 11; state = out }) (set_up state (unpack_of setups bytes))
    by-size b t =
        (λ i. record { refusal = cond b 0 11; state = (left ∙ ap (λ (c : Bool). cond c (series_bytes (new_series given.0)) state) t) i })
        ∙ by b
        ∙ sym
        (ap (λ (c : Bool). cond c (record { refusal = 0; state = series_bytes (new_series given.0) }) (record { refusal = 11; state = state })) (sym long ∙ t))
        ∙ sym (ap (set_up state) given.1)
      where
        by : (c : Bool) → ◌≡◌ {A = SetUp} (record { refusal = cond c 0 11; state = cond c (series_bytes (new_series given.0)) state })
            (cond c (record { refusal = 0; state = series_bytes (new_series given.0) }) (record { refusal = 11; state = state }))
        by true = refl
        by false = refl

    pub setup-stored : stored ≡ true → ◌≡◌ {A = SetUp} (record { refusal = 0; state = out }) (set_up state (unpack_of setups bytes))
    setup-stored = by-size true

    pub setup-kept : stored ≡ false → ◌≡◌ {A = SetUp} (record { refusal = 11; state = out }) (set_up state (unpack_of setups bytes))
    setup-kept = by-size false
