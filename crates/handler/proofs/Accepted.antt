-- AN ACCEPTED MESSAGE LEAVES A SOUND SERIES. Whatever its kind, its own part and settling behind it keep the entries sound, at most 64 and as the phase has
-- them; and the reports of both are fit to be packed and at most 2,280, so that a room of 31,920 bytes is enough.
-- Assumes nothing.
use Prim.Native.Nat.{ℕ, suc, ◌+◌, ◌≤◌}
use mathlib.Core.Path.{◌≡◌, refl, ap}
use mathlib.Core.Bool.{Bool, true, false, cond}
use mathlib.Core.List.{List, [], ◌∷◌}
use native.Mathlib.Omega.{arith}
use lib.Dec.{eqb}
use lib.ListN.{length, length-append}
use borrow.Author.Tests.{eqb-true}
use Rattle.prices.specs.Step.{mpv}
use Rattle.lists.specs.Run.{Ran, still, and_then}
use Rattle.lists.proofs.PlaceLaws.{length_none}
use Rattle.lists.proofs.Bools.{clash}
use Rattle.packing.specs.declared.report.Report.{Report}
use Rattle.packing.specs.declared.report.Report.TheVariants.{Noted}
use Rattle.packing.specs.Room.{AllPack, room_size, most_reports}
use Rattle.packing.proofs.ReportLaws.{noted-packs}
use Rattle.book.specs.declared.Entry.{Entry}
use Rattle.book.specs.Entries.{quote, last_number}
use Rattle.book.specs.Shape.{entries_of}
use Rattle.book.specs.Look.{entry_of}
use Rattle.soundness_theory.specs.Sound.{sound_entries}
use Rattle.soundness_theory.proofs.Facts.{Sound}
use Rattle.soundness_theory.proofs.SoundFacts.{is-sound, sound-is}
use Rattle.telling.specs.Stage.{Roomy}
use Rattle.soundness_theory.specs.SoundMarket.{SoundFor}
use Rattle.settling_theory.specs.Settle.{settled}
use Rattle.telling.proofs.PackLaws.{pack-append}
use Rattle.settling_theory.proofs.Settles.{settles, settles-few}
use Rattle.terms.specs.declared.Terms.{Terms}
use Rattle.terms.specs.Terms.{market_of}
use Rattle.arrival.specs.Cancel.{swept, cancel_entry, cancel_quote, sweep}
use Rattle.arrival.specs.Arrive.{reported, arrived}
use Rattle.arrival.proofs.ArriveKeeps.{arrives, own-few}
use Rattle.arrival.proofs.CutLaws.{quote-length, quote-few, quote-all, cut_all, cancel-entry-sound, cancel-entry-packs}
use Rattle.arrival.proofs.CutLaws.{cancel-entry-few, cancel-entry-length, cancel-quote-sound, cancel-quote-packs}
use Rattle.arrival.proofs.SweepLaws.{spared, sweep_sound, sweep-packs, sweep-few, sweep-leaves, sweep-closed, sweep-halted}
use Rattle.series.specs.declared.Series.{Series}
use Rattle.series.specs.Series.{sound_series}
use Rattle.series.specs.SoundSeries.{SoundPhase}
use Rattle.series.proofs.TermsLaws.{phase-open}
use Rattle.series.proofs.SeriesFacts.{terms-market, facts-series}
use Rattle.handler.specs.Acts.{Accepted}
use Rattle.handler.specs.declared.Ask.{Ask}
use Rattle.handler.specs.Asked.{ask_of}
use Rattle.kinds.specs.Kinds.{enters, cancels_entry, cancels_quote, sets_phase}
use Rattle.handler.specs.Accept.{comer, own_part, terms_after, blocked_after, settled_if, done, series_after}
use Rattle.handler.proofs.Passed.{accepts, facts, enters-open, accepted-arriving, terms-legal, numbers-few}
use Rattle.handler.proofs.Ways.{Accepting, accepting, handled-accepted}
use Rattle.handler.specs.Handle.{handled}
use Rattle.kinds.proofs.KindLaws.{no_such, stays_out}

-- ---- one stage, of whatever kind ----

-- entries sound for the numbers given, few enough, as the phase has it; reports few enough, and fit to be packed
pub record Part (m top phase reports : ℕ) (x : Ran (List Entry) Report) : Type 0 where
  pub sound : sound_entries m top x.final ≡ true
  pub size : length x.final ≤ 64
  pub rests : SoundPhase phase x.final
  pub fit : AllPack x.records
  pub few : length x.records ≤ reports

spared-length : (test : Entry → Bool) (l : List Entry) → length (spared test l) ≤ length l
spared-length test [] = omega arith
spared-length test (x ∷ l) = by (test x) (spared-length test l)
  where
    by : (b : Bool) → length (spared test l) ≤ length l → length (cond b (spared test l) (x ∷ spared test l)) ≤ suc (length l)
    by true h = omega arith
    by false h = omega arith

module _ (m top phase : ℕ) (l : List Entry) (step : mpv m ≡ true) (low : top ≤ last_number) (entries : sound_entries m top l ≡ true)
    (size : length l ≤ 64) where
  so : Sound m top l
  so = is-sound m top l step entries

  noted-part : SoundPhase phase l → Part m top phase 72 (reported Noted l)
  noted-part f = record { sound = entries; size = size; rests = f; fit = (noted-packs, tt); few = omega arith }

  entry-part : (party number : ℕ) → SoundPhase phase l → Part m top phase 72 (cancel_entry party number l)
  entry-part party number f = record {
    sound = sound-is m top (cancel-entry-sound party l so number);
    size = omega (arith, cancel-entry-length party number l);
    rests = record {
      closed = λ p. length_none _ (omega (arith, cancel-entry-length party number l, ap length (f.closed p)));
      halted = λ p. cut_all 28 l (λ (x : Entry). quote x ≡ false) (entry_of party number l) (f.halted p);
    };
    fit = cancel-entry-packs party l so number low;
    few = omega (arith, cancel-entry-few party number l);
  }

  quote-part : (party : ℕ) (side : Bool) → SoundPhase phase l → Part m top phase 72 (cancel_quote party side l)
  quote-part party side f = record {
    sound = sound-is m top (cancel-quote-sound party l so side);
    size = omega (arith, quote-length 28 party side l);
    rests = record {
      closed = λ p. length_none _ (omega (arith, quote-length 28 party side l, ap length (f.closed p)));
      halted = λ p. quote-all 28 party side l (λ (x : Entry). quote x ≡ false) (f.halted p);
    };
    fit = cancel-quote-packs party l so side low;
    few = omega (arith, quote-few 28 party side l);
  }

  -- "Phase: noted, then 31s by entry.": closing leaves nothing, halting no quote
  phase-part : Part m top phase 72 (and_then (reported Noted l) (sweep phase))
  phase-part = record {
    sound = sound-is m top (sweep_sound phase l so);
    size = omega (arith, ap length (sweep-leaves phase l), spared-length (swept phase) l);
    rests = record {
      closed = λ p. rw p (sweep-closed l);
      halted = λ p. rw p (sweep-halted l);
    };
    fit = (noted-packs, sweep-packs phase l so low);
    few = omega (arith, sweep-few phase l);
  }

-- ---- an accepted message ----

module _ (s : Series) (a : Ask) (ok : Accepted s a) where
  -- THE MESSAGE'S OWN PART
  pub own-part : Part (terms_after s.terms a).m (terms_after s.terms a).given (terms_after s.terms a).phase 72
      (own_part s.terms a (entries_of s.book))
  unfolding own_part terms_after
  own-part = go (enters a.kind) refl (cancels_entry a.kind) refl (cancels_quote a.kind) refl (sets_phase a.kind) refl
    where
      t : Terms
      t = s.terms

      l : List Entry
      l = entries_of s.book

      e : Entry
      e = comer s.terms.given a

      go : (b : Bool) → enters a.kind ≡ b → (b₇ : Bool) → cancels_entry a.kind ≡ b₇ → (b₈ : Bool) → cancels_quote a.kind ≡ b₈ → (b₁₁ : Bool)
          → sets_phase a.kind ≡ b₁₁
          → Part t.m (cond b (t.given + 1) t.given) (cond b₁₁ a.quantity t.phase) 72
          (cond b (arrived t e l)
          (cond b₇ (cancel_entry a.party a.entry l)
          (cond b₈ (cancel_quote a.party a.sell l) (cond b₁₁ (and_then (reported Noted l) (sweep a.quantity)) (reported Noted l)))))
      go true q b₇ q₇ b₈ q₈ true q₁₁ = clash q₁₁ (no_such enters 11 a.kind (stays_out 11 refl) q)
      go true q b₇ q₇ b₈ q₈ false q₁₁ =
          let r = arrives (accepted-arriving s a ok q) in
          record {
            sound = r.sound;
            size = r.size;
            rests = rw (enters-open s a ok q) (phase-open _);
            fit = r.fit;
            few = own-few (accepted-arriving s a ok q);
          }
      go false q true q₇ b₈ q₈ true q₁₁ = absurd (omega (arith, eqb-true a.kind 7 q₇, eqb-true a.kind 11 q₁₁))
      go false q true q₇ b₈ q₈ false q₁₁ =
          entry-part t.m t.given t.phase l (facts s a ok).step (facts s a ok).sound.most (facts s a ok).entries (facts s a ok).size a.party
          a.entry
          (facts s a ok).sound.phase
      go false q false q₇ true q₈ true q₁₁ = absurd (omega (arith, eqb-true a.kind 8 q₈, eqb-true a.kind 11 q₁₁))
      go false q false q₇ true q₈ false q₁₁ =
          quote-part t.m t.given t.phase l (facts s a ok).step (facts s a ok).sound.most (facts s a ok).entries (facts s a ok).size a.party
          a.sell
          (facts s a ok).sound.phase
      go false q false q₇ false q₈ true q₁₁ =
          phase-part t.m t.given a.quantity l (facts s a ok).step (facts s a ok).sound.most (facts s a ok).entries (facts s a ok).size
      go false q false q₇ false q₈ false q₁₁ =
          noted-part t.m t.given t.phase l (facts s a ok).step (facts s a ok).sound.most (facts s a ok).entries (facts s a ok).size
          (facts s a ok).sound.phase

  -- which settling finds sound
  abbrev pub own-sound : SoundFor (market_of (terms_after s.terms a)) (own_part s.terms a (entries_of s.book)).final
  own-sound = record { top = (terms_after s.terms a).given; market = terms-market (terms_after s.terms a) (terms-legal s a ok); entries = own-part.sound }

  -- SETTLING BEHIND IT, in an open series; in any other nothing is done
  pub settle-part : Part (terms_after s.terms a).m (terms_after s.terms a).given (terms_after s.terms a).phase 2208
      (settled_if (terms_after s.terms a) (own_part s.terms a (entries_of s.book)).final)
  unfolding still
  settle-part = go (eqb (terms_after s.terms a).phase 1) refl
    where
      t' : Terms
      t' = terms_after s.terms a

      l' : List Entry
      l' = (own_part s.terms a (entries_of s.book)).final

      go : (b : Bool) → eqb t'.phase 1 ≡ b → Part t'.m t'.given t'.phase 2208 (cond b (settled (market_of t') l') (still l'))
      go true q = record {
        sound = (settles own-sound).sound;
        size = omega (arith, (settles own-sound).fewer, own-part.size);
        rests = rw (eqb-true t'.phase 1 q) (phase-open _);
        fit = (settles own-sound).fit (numbers-few s a ok);
        few = settles-few own-sound own-part.size;
      }
      go false q = record { sound = own-part.sound; size = own-part.size; rests = own-part.rests; fit = tt; few = omega arith }

  -- ---- both together ----

  pub done-part : Part (terms_after s.terms a).m (terms_after s.terms a).given (terms_after s.terms a).phase most_reports
      (done s.terms a (entries_of s.book))
  unfolding done
  done-part = record {
    sound = settle-part.sound;
    size = settle-part.size;
    rests = settle-part.rests;
    fit = pack-append first then own-part.fit settle-part.fit;
    few = omega (arith, own-part.few, settle-part.few, length-append first then);
  }
    where
      first : List Report
      first = (own_part s.terms a (entries_of s.book)).records

      then : List Report
      then = (settled_if (terms_after s.terms a) (own_part s.terms a (entries_of s.book)).final).records

  -- ACCEPTED MESSAGES GIVE ONLY SOUND STATES
  pub after-sound : sound_series (series_after s a) ≡ true
  after-sound =
      facts-series (terms_after s.terms a) (blocked_after s.terms a (entries_of s.book) s.blocked) (done s.terms a (entries_of s.book)).final
      (terms-legal s a ok) (numbers-few s a ok) done-part.sound done-part.size done-part.rests

  -- ---- the room ----

  module _ (room : List ℕ) (space : room_size ≤ length room) where
    -- THE ROOM IS ENOUGH: for the whole, and for the message's own part
    pub accepted-room : Roomy room 0 (done s.terms a (entries_of s.book)).records
    accepted-room = record { space = omega (arith, done-part.few); fit = done-part.fit }

    pub own_room : Roomy room 0 (own_part s.terms a (entries_of s.book)).records
    own_room = record { space = omega (arith, own-part.few); fit = own-part.fit }

-- ACCEPTED MESSAGES GIVE ONLY SOUND STATES, whatever is handed in
pub accepted-sound : (s : Series) (message room : List ℕ) → (handled s message room).answer.refusal ≡ 0
    → sound_series (handled s message room).answer.series ≡ true
accepted-sound s message room h =
    let w : Accepting s message room = accepting s message room h in
    rw (handled-accepted s message room w.space w.sound w.event w.read w.passes)
    (after-sound s (ask_of w.event) (accepts s w.event w.sound w.passes))
