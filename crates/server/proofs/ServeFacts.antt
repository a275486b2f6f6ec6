-- WHAT A C CALLER MAY RELY ON, said of `serve` for every buffer, message and room.
-- Assumes nothing.
use Prim.Native.Nat.{ℕ, ◌≤◌, ◌-◌}
use mathlib.Core.Path.{◌≡◌, refl, sym, ap, ◌∙◌}
use mathlib.Core.Bool.{Bool, true, false, cond, ◌&&◌}
use mathlib.Core.List.{List, [], ◌∷◌, map}
use Rattle.std.specs.Prelude.{Option, None, Some}
use native.Mathlib.Omega.{arith}
use lib.Dec.{eqb, ltb}
use lib.ListN.{length, set, replicate, length-set, length-map}
use borrow.Author.Tests.{le-ltb}
use Rattle.lists.proofs.Bools.{and_left}
use Rattle.bits.specs.Fields.{Fit, Bytes}
use Rattle.packing.specs.declared.message.Event.{Event}
use Rattle.packing.specs.Codec.{bit, unpack_of}
use Rattle.packing.specs.Message.{messages}
use Rattle.packing.specs.declared.setup.Setup.{Setup}
use Rattle.packing.specs.Setup.{setups}
use Rattle.packing.proofs.CodecLaws.{only_if-some, packs-fit}
use Rattle.packing.specs.Room.{room_size}
use Rattle.book.proofs.ShapeLaws.{book-well-formed}
use Rattle.book.specs.Shape.{entries_of, book_of}
use Rattle.series.specs.declared.Series.{Series}
use Rattle.series.specs.Series.{sound_series, new_series}
use Rattle.series.proofs.SoundSeriesDecides.{sound-series-decides}
use Rattle.series.proofs.SetupSound.{setup-sound}
use Rattle.handler.specs.declared.Ask.{Ask}
use Rattle.arrival.specs.Arrive.{blocks}
use Rattle.handler.specs.Asked.{ask_of}
use Rattle.kinds.specs.Kinds.{quotes, enables}
use Rattle.handler.specs.Accept.{comer, blocked_after, series_after}
use Rattle.handler.specs.Handle.{Handled, handled, handled_as}
use Rattle.handler.proofs.Ways.{accepting, handled-accepted}
use Rattle.handler.proofs.Passed.{accepts}
use Rattle.handler.proofs.Accepted.{done-part, after-sound}
use Rattle.handler.proofs.Refusals.{refusals-keep}
use Rattle.series_buffer.specs.Header.{headers}
use Rattle.series_buffer.specs.State.{header_of, unpack_series, packs_series, series_bytes, pack_series, state_size}
use Rattle.series_buffer.proofs.RoundTrip.{series-pack, pack-series}
use Rattle.series_buffer.proofs.SoundPacks.{sound-state}
use Rattle.server.specs.Serve.{SetUp, set_up, Served, unserved, holding, serve_in, serve_as, serve}

-- ---- refusals ----

pub record Kept (state room : List ℕ) (x : Served) : Type 0 where
  pub count : x.count ≡ 0
  pub buffer : x.state ≡ state
  pub reports : x.room ≡ room

-- EVERY REFUSAL LEAVES EVERY LENT BYTE AS IT STOOD, and count 0
pub refused-keeps : (state message room : List ℕ) → Bytes state → ((serve state message room).refusal ≡ 0 → ⊥) → Kept state room (serve state message room)
unfolding serve serve_as handled
refused-keeps state message room b h = by (ltb (length room) room_size) (unpack_series state) refl h
  where
    by : (c : Bool) (o : Option Series) → unpack_series state ≡ o
        → ((cond c (unserved 10 state room) (serve_in state (unpack_of messages message) room o)).refusal ≡ 0 → ⊥)
        → Kept state room (cond c (unserved 10 state room) (serve_in state (unpack_of messages message) room o))
    by true o q k = record { count = refl; buffer = refl; reports = refl }
    by false None q k = record { count = refl; buffer = refl; reports = refl }
    by false (Some s) q k =
        let u = refusals-keep s message room k in
        record {
          count = u.count;
          buffer = ap (λ (x : Series). holding state (pack_series x)) u.series ∙ ap (holding state) (series-pack state s b q);
          reports = u.bytes;
        }

-- A BUFFER THAT HOLDS NO SOUND SERIES IS REFUSAL 11, whatever its bytes and the message
pub unsound-11 : (state message room : List ℕ) → room_size ≤ length room → ((s : Series) → unpack_series state ≡ Some s → sound_series s ≡ false)
    → (serve state message room).refusal ≡ 11
unfolding serve serve_as handled_as
unsound-11 state message room space damaged =
    ap (λ (c : Bool). (cond c (unserved 10 state room) (serve_in state (unpack_of messages message) room (unpack_series state))).refusal)
    (le-ltb (length room) room_size space)
    ∙ by (unpack_series state) refl
  where
    by : (o : Option Series) → unpack_series state ≡ o → (serve_in state (unpack_of messages message) room o).refusal ≡ 11
    by None q = refl
    by (Some s) q = rw (le-ltb (length room) room_size space, damaged s q) refl

-- ---- accepted messages ----

fit_length : (ws xs : List ℕ) → Fit ws xs → length xs ≡ length ws
fit_length [] [] f = refl
fit_length [] (x ∷ xs) f = absurd f
fit_length (w ∷ ws) [] f = absurd f
fit_length (w ∷ ws) (x ∷ xs) f = omega (arith, fit_length ws xs f.1)

packs-makers : (s : Series) → packs_series s ≡ true → length s.blocked ≡ 16
unfolding packs_series
packs-makers s h =
    let f = (packs-fit headers (header_of s) (and_left _ _ h)).0 in
    sym (length-map s.blocked bit) ∙ fit_length (replicate 16 1) (map bit s.blocked) f.1.1.1.1.1.1.1.1.1.1.1

makers-after : (s : Series) (a : Ask) → length (series_after s a).blocked ≡ length s.blocked
unfolding blocked_after
makers-after s a = by (enables a.kind) (quotes a.kind && blocks s.terms (comer s.terms.given a) (entries_of s.book))
  where
    by : (b c : Bool)
        → length (cond b (set s.blocked (a.party - 1) false) (cond c (set s.blocked (a.party - 1) true) s.blocked)) ≡ length s.blocked
    by true c = length-set s.blocked (a.party - 1) false
    by false true = length-set s.blocked (a.party - 1) true
    by false false = refl

pub record AcceptedIn (state message : List ℕ) (x : Served) : Type 0 where
  pub before : Series
  pub held : unpack_series state ≡ Some before
  pub event : Event
  pub read : unpack_of messages message ≡ Some event
  pub bytes : x.state ≡ series_bytes (series_after before (ask_of event))
  pub holds : unpack_series x.state ≡ Some (series_after before (ask_of event))
  pub sound : sound_series (series_after before (ask_of event)) ≡ true

-- AN ACCEPTED MESSAGE LEAVES THE SERIES AFTERWARDS IN THE BUFFER, packed, and that series is sound
pub accepted-holds : (state message room : List ℕ) → Bytes state → (serve state message room).refusal ≡ 0 → AcceptedIn state message (serve state message room)
unfolding serve serve_as pack_series handled
accepted-holds state message room b h = by (ltb (length room) room_size) (unpack_series state) refl h
  where
    by : (c : Bool) (o : Option Series) → unpack_series state ≡ o
        → (cond c (unserved 10 state room) (serve_in state (unpack_of messages message) room o)).refusal ≡ 0
        → AcceptedIn state message (cond c (unserved 10 state room) (serve_in state (unpack_of messages message) room o))
    by true o q z = absurd (omega (arith, z))
    by false None q z = absurd (omega (arith, z))
    by false (Some s) q z =
        let way = accepting s message room z in
        let a : Ask = ask_of way.event in
        let ok = accepts s way.event way.sound way.passes in
        let is = handled-accepted s message room way.space way.sound way.event way.read way.passes in
        let fit = (only_if-some (packs_series s) (Some (series_bytes s)) state (series-pack state s b q)).0 in
        let packed : pack_series (series_after s a) ≡ Some (series_bytes (series_after s a)) =
        sound-state (series_after s a) (after-sound s a ok) (book-well-formed _ (done-part s a ok).size).places (makers-after s a ∙ packs-makers s fit) in
        let there : holding state (pack_series (handled s message room).answer.series) ≡ series_bytes (series_after s a) =
        ap (λ (x : Handled). holding state (pack_series x.answer.series)) is ∙ ap (holding state) packed in
        record {
          before = s;
          held = q;
          event = way.event;
          read = way.read;
          bytes = there;
          holds = ap unpack_series there ∙ pack-series (series_after s a) (series_bytes (series_after s a)) packed;
          sound = after-sound s a ok;
        }

-- ---- setup ----

pub record SetIn (bytes : List ℕ) (x : SetUp) : Type 0 where
  pub setup : Setup
  pub read : unpack_of setups bytes ≡ Some setup
  pub holds : unpack_series x.state ≡ Some (new_series setup)
  pub sound : sound_series (new_series setup) ≡ true

-- a legal setup, by whether the buffer is long enough
abbrev put : List ℕ → Setup → Bool → SetUp
put state s c = cond c (record { refusal = 0; state = series_bytes (new_series s) }) (record { refusal = 11; state = state })

-- A SETUP THAT IS ACCEPTED LEAVES THE NEW SERIES IN THE BUFFER, and that series is sound
pub setup-holds : (bytes state : List ℕ) → (set_up state (unpack_of setups bytes)).refusal ≡ 0 → SetIn bytes (set_up state (unpack_of setups bytes))
unfolding book_of
setup-holds bytes state h = by (unpack_of setups bytes) refl (eqb (length state) state_size) refl h
  where
    by : (u : Option Setup) → unpack_of setups bytes ≡ u → (b : Bool) → eqb (length state) state_size ≡ b → (set_up state u).refusal ≡ 0
        → SetIn bytes (set_up state u)
    by None q b l z = absurd (omega (arith, z))
    by (Some s) q false l z =
        let n : ◌≡◌ {A = ℕ} 11 0 = sym (ap (λ (c : Bool). (put state s c).refusal) l) ∙ z in
        absurd (omega (arith, n))
    by (Some s) q true l z =
        let sound = (sound-series-decides (new_series s)).1 (setup-sound bytes s q) in
        record {
          setup = s;
          read = q;
          holds =
              ap (λ (c : Bool). unpack_series (put state s c).state) l
              ∙ pack-series (new_series s) (series_bytes (new_series s)) (sound-state (new_series s) sound refl refl);
          sound = sound;
        }

-- A REFUSED SETUP LEAVES THE BUFFER AS IT STOOD
pub setup-keeps : (bytes state : List ℕ) → ((set_up state (unpack_of setups bytes)).refusal ≡ 0 → ⊥) → (set_up state (unpack_of setups bytes)).state ≡ state
setup-keeps bytes state h = by (unpack_of setups bytes) (eqb (length state) state_size) refl h
  where
    by : (u : Option Setup) (b : Bool) → eqb (length state) state_size ≡ b → ((set_up state u).refusal ≡ 0 → ⊥) → (set_up state u).state ≡ state
    by None b l k = refl
    by (Some s) false l k = ap (λ (c : Bool). (put state s c).state) l
    by (Some s) true l k =
        absurd (k (ap (λ (c : Bool). (put state s c).refusal) l))
