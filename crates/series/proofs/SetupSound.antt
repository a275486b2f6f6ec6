-- "Setup .. give[s] only sound states": every setup that unpacks gives a sound series; and where none does, the zeros that stand for no series are unsound, so
-- that the handler refuses them.
-- Assumes nothing.
use Prim.Native.Nat.{ℕ}
use mathlib.Core.Path.{◌≡◌, refl, sym, ap, ◌∙◌}
use mathlib.Core.Bool.{Bool, true, false, ◌&&◌, ◌||◌}
use mathlib.Core.List.{List, []}
use Rattle.std.specs.Prelude.{Option, None, Some}
use mathlib.Core.Logic.{inl}
use native.Mathlib.Omega.{arith}
use lib.Dec.{eqb, leb}
use lib.ListN.{length, replicate}
use borrow.Author.Tests.{leb-true}
use Rattle.std.specs.Prelude.{is_ok}
use Rattle.std.specs.Result.{result_unwrap_or}
use Rattle.bits.specs.Fields.{equal}
use Rattle.prices.specs.Step.{mpv}
use Rattle.prices.proofs.StepLaws.{is-named}
use Rattle.lists.specs.Tests.{all, pairs}
use Rattle.lists.proofs.Bools.{and_left, and_right}
use Rattle.packing.specs.declared.setup.Setup.{Setup}
use Rattle.packing.specs.Codec.{fields_in, checked, thing_of, unpack_of}
use Rattle.packing.proofs.CodecLaws.{only_if-some}
use Rattle.packing.specs.Setup.{code_of, legal_setup, setups, top_strike, setup_size}
use Rattle.soundness_theory.specs.Sound.{between, sound_entries}
use Rattle.soundness_theory.proofs.SoundFacts.{between-both}
use Rattle.series.specs.Series.{new_series, no_series, opened, sound_terms, sound_series}
use Rattle.series.specs.SoundSeries.{SoundSeries}
use Rattle.series.proofs.TermsLaws.{mpv-step}
use Rattle.series.proofs.SoundSeriesDecides.{sound-series-decides}
use Rattle.series.proofs.SeriesFacts.{facts-series}

-- "Setup of other length or values is refused": what unpacks has legal values
pub setup-legal : (bytes : List ℕ) (x : Setup) → unpack_of setups bytes ≡ Some x → legal_setup x ≡ true
unfolding unpack_of thing_of
setup-legal bytes x h =
    go (setups.claimed (fields_in setups bytes)) (only_if-some (eqb (length bytes) setup_size) (thing_of setups (fields_in setups bytes)) x h).1
  where
    l : List ℕ
    l = fields_in setups bytes

    go : (u : Option Setup) → checked setups u l ≡ Some x → legal_setup x ≡ true
    go None k = absurd (let z : ◌≡◌ {A = ℕ} 0 1 = cc in omega arith)
    go (Some d) k =
        let p = only_if-some (equal (code_of d) l && legal_setup d) (Some d) x k in
        let q : Some d ≡ Some x = p.1 in
        let same : d ≡ x = cc in
        ap legal_setup (sym same) ∙ and_right (equal (code_of d) l) (legal_setup d) p.0

-- legal values give a sound series
pub legal-sound : (x : Setup) → legal_setup x ≡ true → sound_series (new_series x) ≡ true
unfolding mpv sound_entries all pairs
legal-sound x h =
    let step : Bool = eqb x.m 1 || eqb x.m 5 in
    let rest = and_right step (leb x.k 100 && between 1 top_strike x.strike) h in
    facts-series (new_series x).terms (replicate 16 false) []
    (record {
      step = mpv-step (is-named x.m (and_left step (leb x.k 100 && between 1 top_strike x.strike) h));
      steps = leb-true x.k 100 (and_left (leb x.k 100) (between 1 top_strike x.strike) rest);
      strike = between-both 1 top_strike x.strike (and_right (leb x.k 100) (between 1 top_strike x.strike) rest);
      phase = omega arith;
      bid = inl refl;
      offer = inl refl;
      underlying = omega arith;
    })
    (omega arith) refl (omega arith) (record { closed = λ p. refl; halted = λ p. tt })

-- EVERY SETUP THAT UNPACKS GIVES A SOUND SERIES
pub setup-sound : (bytes : List ℕ) (x : Setup) → unpack_of setups bytes ≡ Some x → SoundSeries (new_series x)
setup-sound bytes x h = (sound-series-decides (new_series x)).0 (legal-sound x (setup-legal bytes x h))

-- NOBODY CAN USE WHAT STANDS FOR NO SERIES
pub none-unsound : sound_series no_series ≡ false
unfolding sound_series sound_terms mpv
none-unsound = refl

-- so a setup is not refused exactly where its series is sound
pub opened-sound : (bytes : List ℕ) → is_ok (opened (unpack_of setups bytes)) ≡ sound_series (result_unwrap_or (opened (unpack_of setups bytes)) no_series)
opened-sound bytes = go (unpack_of setups bytes) refl
  where
    go : (u : Option Setup) → unpack_of setups bytes ≡ u → is_ok (opened u) ≡ sound_series (result_unwrap_or (opened u) no_series)
    go None k = sym none-unsound
    go (Some x) k = sym (legal-sound x (setup-legal bytes x k))
